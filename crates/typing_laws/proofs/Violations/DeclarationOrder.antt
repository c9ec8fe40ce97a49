-- The violations in a well-formed initializer or declaration are in the order of its tokens.
use Rattle.std.proofs.Common.{ℕ, ◌≤◌, suc, Bool, true, false, List, [], ◌∷◌, Option, Some, None, arith}
use Rattle.std.proofs.Common.{if◌then◌else◌}
use Rattle.std.specs.Prelude.{is_none, is_some, option_map}
use Rattle.c_syntax.specs.declared.position.Position.{Position}
use Rattle.c_syntax.specs.Formed.{AreDesignators, AreInitDeclarators, AreMoreInitDeclarators, AreMoreItems}
use Rattle.c_syntax.specs.Formed.{IsDeclaration}
use Rattle.c_syntax.specs.Formed.{IsDesignation, IsInitDeclarator, IsInitialized, IsInitializer, IsItem, has_typedef}
use Rattle.c_syntax.specs.Formed.{names_after}
use Rattle.c_syntax.specs.Statements as t
use Rattle.c_syntax.specs.Tree.{Designation, Designator, Expression, Initializer, InitializerItem, MoreItems, braced}
use Rattle.c_syntax.specs.Tree.{element, end_of_items, item as tree_item, member_named, more_items, value}
use Rattle.c_syntax.specs.Words.{Words, declaration_words, designation_words, designators_words, init_declarator_words}
use Rattle.c_syntax.specs.Words.{init_declarators_words, initialized_words, initializer_words, item_words}
use Rattle.c_syntax.specs.Words.{more_init_declarators_words, more_items_words}
use Rattle.c_tree.specs.declared.c_type.TypeWord.{TypeWord}
use Rattle.c_tree.specs.Statements.{DeclaredVariable}
use Rattle.c_scope.specs.declared.meaning.Designated.{Designated}
use Rattle.c_scope.specs.declared.meaning.Designated.TheVariants as what
use Rattle.c_scope.specs.declared.meaning.Meaning.{Meaning}
use Rattle.c_scope.specs.declared.meaning.Meaning.TheVariants as meaning
use Rattle.c_scope.specs.Names.{Name}
use Rattle.c_initializer_rules.specs.Initializing.{Initializing, begun, designation_begun, with_value}
use Rattle.c_declarator_typing.specs.Declarators.{Shape}
use Rattle.c_operand_typing.specs.Primaries.{spelled_bytes}
use Rattle.c_declarator_typing.specs.Specifications.{Specification}
use Rattle.c_typing_state.specs.State.{State, judged}
use Rattle.c_expression_typing.specs.Constructs.{literal_alone}
use Rattle.c_expression_typing.specs.Lines.{name_of}
use Rattle.c_unit_typing.specs.Declarations.{alone_in, declared_as, stored_once, with_parts, with_static, with_variable}
use Rattle.c_unit_typing.specs.Files.{File}
use Rattle.c_unit_typing.specs.Initializers.{by_index, by_name, filled, list_closed, list_opened, stepped}
use Rattle.c_unit_typing.specs.Lines.{expression_line, initializer_line}
use Rattle.typing_laws.specs.Violations.Declarations.{at_end, by_itself, declaration, declarator, declarators, declared}
use Rattle.typing_laws.specs.Violations.Declarations.{declared_by}
use Rattle.typing_laws.specs.Violations.Declarations.{initialized_if, object, others, sized_by}
use Rattle.typing_laws.specs.Violations.Declarations.{with_initializer}
use Rattle.typing_laws.specs.Violations.Expressions.{first_token, name_token, operand, shape, token_of, valued}
use Rattle.typing_laws.specs.Violations.Initializers.{by_literal_or, by_value, designation, designators}
use Rattle.typing_laws.specs.Violations.Initializers.{first_of_expression}
use Rattle.typing_laws.specs.Violations.Initializers.{initializer, item, items, unless_filled}
use Rattle.typing_laws.specs.Violations.Judgements.{given, gives}
use Rattle.typing_laws.specs.Violations.Order.{Ascend}
use Rattle.typing_laws.proofs.Violations.ExpressionOrder.{declarator_read, expression_read, specifiers_read}
use Rattle.typing_laws.proofs.Violations.ExpressionParts.{ExpressionIn, comma_read, specification_placed, value_placed}
use Rattle.typing_laws.proofs.Violations.Order.{Placed, Reads, answer_placed, behind_placed, either_placed}
use Rattle.typing_laws.proofs.Violations.Order.{gathered_placed}
use Rattle.typing_laws.proofs.Violations.Order.{moved_placed, none_placed, onward_placed, ruled_placed, second_placed}
use Rattle.typing_laws.proofs.Violations.Order.{wider}

-- initializers

designators_read : (names : List (List ℕ)) (ds : List Designator) → AreDesignators names ds → (n : ℕ) (i : Words)
    → Ascend n (designators_words ds i)
    → Reads n i (λ m. (o : Option Initializing) (s : State) → Placed n m (designators ds o s))
designators_read names [] f n i h = record {
  end = n;
  low = omega arith;
  placed = λ o s. none_placed n n s o (omega arith);
  rest = h;
}
designators_read names (element l e r ∷ ds) f n i h =
    let a = h.0 in let x = expression_read names e f.1 (suc l.at) _ h.1 in let b = x.low in let c = x.rest.0 in
    let y = designators_read names ds f.2 (suc r.at) i x.rest.1 in let d = y.low in
    record {
      end = y.end;
      low = omega arith;
      placed = λ o s. behind_placed n (suc r.at) (suc r.at) y.end (designators ds) (omega arith)
          (ruled_placed n (suc r.at) l.at (λ v. by_index l.line v.0 v.1) a (omega arith)
          (second_placed n n (suc l.at) (suc r.at) (valued (token_of e) (operand false e)) (omega arith)
          (none_placed n n s o (omega arith))
          (λ t. wider (suc l.at) (suc r.at) (omega arith) (omega arith)
          (value_placed e (suc l.at) x.end x.placed false t)))) y.placed;
      rest = y.rest;
    }
designators_read names (member_named at x ∷ ds) f n i h =
    let a = h.0 in let b = h.1.0 in
    let y = designators_read names ds f (suc x.position.at) i h.1.1 in let d = y.low in
    record {
      end = y.end;
      low = omega arith;
      placed = λ o s. behind_placed n (suc x.position.at) (suc x.position.at) y.end (designators ds) (omega arith)
          (ruled_placed n (suc x.position.at) at.at (by_name at.line (name_of x)) a (omega arith)
          (none_placed n (suc x.position.at) s o (omega arith))) y.placed;
      rest = y.rest;
    }

designation_read : (names : List (List ℕ)) (d : Option Designation) → IsDesignation names d → (n : ℕ) (i : Words)
    → Ascend n (designation_words d i)
    → Reads n i (λ m. (o : Option Initializing) (s : State) → Placed n m (designation d o s))
designation_read names None f n i h = record {
  end = n;
  low = omega arith;
  placed = λ o s. none_placed n n s o (omega arith);
  rest = h;
}
designation_read names (Some d) f n i h =
    let x = designators_read names d.designators f.1 n _ h in let a = x.low in let b = x.rest.0 in
    record {
      end = suc d.equals.at;
      low = omega arith;
      placed = λ o s. wider n (suc d.equals.at) (omega arith) (omega arith)
          (x.placed (option_map designation_begun o) s);
      rest = x.rest.1;
    }

by_value_placed : (e : Expression) (lo hi : ℕ) → ExpressionIn e lo hi → (o : Option Initializing) (s : State)
    → Placed lo hi (by_value e o s)
by_value_placed e lo hi p o s =
    ruled_placed lo hi (first_of_expression e)
    (λ v. stepped (λ es ms. with_value es ms (expression_line e) v.1) v.0) p.first_low p.first_high
    (second_placed lo lo lo hi (valued (token_of e) (operand true e)) (omega arith) (none_placed lo lo s o
    (omega arith))
    (λ t. value_placed e lo hi p true t))

filled_placed : (test : Bool) (e : Expression) (lo hi : ℕ) → ExpressionIn e lo hi → (x : Initializing) (s : State)
    → Placed lo hi ((if test then gives x else by_value e (Some x)) s)
filled_placed true e lo hi p x s =
    let a = p.low in let b = p.high in none_placed lo hi s (Some x) (omega arith)
filled_placed false e lo hi p x s = by_value_placed e lo hi p (Some x) s

literal_placed : (names : Option (List Name)) (e : Expression) (lo hi : ℕ) → ExpressionIn e lo hi
    → (o : Option Initializing) (s : State) → Placed lo hi (by_literal_or names e o s)
literal_placed None e lo hi p o s = by_value_placed e lo hi p o s
literal_placed (Some names) e lo hi p o s =
    let a = p.low in let b = p.high in
    either_placed lo hi hi hi (unless_filled e) (omega arith)
    (ruled_placed lo hi (first_of_expression e)
    (λ i. judged (filled (spelled_bytes names) (expression_line e) i)) p.first_low p.first_high
    (none_placed lo hi s o (omega arith))) (λ t. none_placed hi hi t None (omega arith))
    (λ r t. filled_placed r.1 e lo hi p r.0 t)

mutual
  pub initializer_read : (names : List (List ℕ)) (x : Initializer) → IsInitializer names x → (n : ℕ) (i : Words)
      → Ascend n (initializer_words x i)
      → Reads n i (λ m. (o : Option Initializing) (s : State) → Placed n m (initializer x o s))
  initializer_read names (value e) f n i h =
      let x = expression_read names e f.1 n i h in
      record {
        end = x.end;
        low = x.low;
        placed = literal_placed (literal_alone e) e n x.end x.placed;
        rest = x.rest;
      }
  initializer_read names (braced l x more comma r) f n i h =
      let a = h.0 in let y = item_read names x f.0 (suc l.at) _ h.1 in let b = y.low in
      let z = items_read names more f.1 y.end _ y.rest in let c = z.low in
      let w = comma_read comma z.end _ z.rest in let d = w.low in let g = w.rest.0 in
      record {
        end = suc r.at;
        low = omega arith;
        placed = λ o s. ruled_placed n (suc r.at) l.at (list_closed l.line) a (omega arith)
            (wider n (suc r.at) (omega arith) (omega arith)
            (behind_placed n y.end y.end z.end (items more) (omega arith)
            (behind_placed n (suc l.at) (suc l.at) y.end (item x) (omega arith)
            (ruled_placed n (suc l.at) l.at list_opened a (omega arith) (none_placed n (suc l.at) s o (omega arith)))
            y.placed) z.placed));
        rest = w.rest.1;
      }

  item_read : (names : List (List ℕ)) (x : InitializerItem) → IsItem names x → (n : ℕ) (i : Words)
      → Ascend n (item_words x i)
      → Reads n i (λ m. (o : Option Initializing) (s : State) → Placed n m (item x o s))
  item_read names (tree_item d x) f n i h =
      let y = designation_read names d f.0 n _ h in let a = y.low in
      let z = initializer_read names x f.1 y.end i y.rest in let b = z.low in
      record {
        end = z.end;
        low = omega arith;
        placed = λ o s. behind_placed n y.end y.end z.end (initializer x) (omega arith) (y.placed o s) z.placed;
        rest = z.rest;
      }

  items_read : (names : List (List ℕ)) (x : MoreItems) → AreMoreItems names x → (n : ℕ) (i : Words)
      → Ascend n (more_items_words x i)
      → Reads n i (λ m. (o : Option Initializing) (s : State) → Placed n m (items x o s))
  items_read names end_of_items f n i h = record {
    end = n;
    low = omega arith;
    placed = λ o s. none_placed n n s o (omega arith);
    rest = h;
  }
  items_read names (more_items at x more) f n i h =
      let a = h.0 in let y = item_read names x f.0 (suc at.at) _ h.1 in let b = y.low in
      let z = items_read names more f.1 y.end i y.rest in let c = z.low in
      record {
        end = z.end;
        low = omega arith;
        placed = λ o s. wider n z.end (omega arith) (omega arith)
            (behind_placed (suc at.at) y.end y.end z.end (items more) (omega arith) (y.placed o s) z.placed);
        rest = z.rest;
      }

-- an initializer behind its declarator, if there is one: of an object, or by itself
record InitializedIn (x : Option Initializer) (lo hi : ℕ) : Type 0 where
  alone : (f : File) → Placed lo hi (by_itself x f)
  whole : (low n : ℕ) → low ≤ lo → low ≤ n → suc n ≤ hi → (what : Designated) (name : Name × ℕ)
      (type : List TypeWord) (s : State) → Placed low hi (initialized_if n what name type x s)

initialized_read : (levels : ℕ) (names : List (List ℕ)) (x : Option (Position × Initializer))
    → IsInitialized levels names x → (n : ℕ) (i : Words) → Ascend n (initialized_words x i)
    → Reads n i (InitializedIn (option_map (λ x. x.1) x) n)
initialized_read levels names None f n i h = record {
  end = n;
  low = omega arith;
  placed = record {
    alone = λ f. none_placed n n f None (omega arith);
    whole = λ low at a b c what name type s. none_placed low n s (Some _) a;
  };
  rest = h;
}
initialized_read levels names (Some x) f n i h =
    let a = h.0 in let y = initializer_read names x.1 f.1 (suc x.0.at) i h.1 in let b = y.low in
    record {
      end = y.end;
      low = omega arith;
      placed = record {
        alone = λ f. wider n y.end (omega arith) (omega arith)
            (behind_placed (suc x.0.at) y.end y.end y.end (λ i. given None) (omega arith)
            (moved_placed _ (y.placed None f.state)) (λ i g. none_placed y.end y.end g None (omega arith)));
        whole = λ low at l k r what name type s. ruled_placed low y.end at (sized_by what name type) k r
            (wider low y.end (omega arith) (omega arith) (y.placed (Some (begun type)) s));
      };
      rest = y.rest;
    }

-- declarators with their initializers

object_placed : (low hi n : ℕ) (x : Option Initializer) (lo : ℕ) → InitializedIn x lo hi → low ≤ lo → low ≤ n
    → suc n ≤ hi → (name : Name × ℕ) (m : Option Meaning) (f : File) → Placed low hi (object n name x m f)
object_placed low hi n x lo p l a b name (Some (meaning.Named (what.Variable k) type)) f =
    ruled_placed low hi n (with_variable k (is_some x)) a b
    (moved_placed _ (p.whole low n l a b (what.Variable k) name type f.state))
object_placed low hi n x lo p l a b name (Some (meaning.Named (what.Static k) type)) f =
    ruled_placed low hi n (with_static k) a b
    (moved_placed _ (p.whole low n l a b (what.Static k) name type f.state))
object_placed low hi n x lo p l a b name (Some (meaning.Named (what.Object k) type)) f =
    ruled_placed low hi n (with_parts k (is_some x)) a b
    (moved_placed _ (p.whole low n l a b (what.Object k) name type f.state))
object_placed low hi n x lo p l a b name m f = none_placed low hi f (Some _) (omega arith)

declared_placed : (low m hi n : ℕ) (x : Option Initializer) → InitializedIn x m hi → low ≤ n → suc n ≤ m → m ≤ hi
    → (in_head : Bool) (v : Specification × Shape) (name : Option (Name × ℕ)) (f : File)
    → Placed low hi (declared in_head n x v name f)
declared_placed low m hi n x p a b c in_head v None f = none_placed low hi f (Some _) (omega arith)
declared_placed low m hi n x p a b c in_head v (Some name) f =
    either_placed low m m hi (with_initializer n name x) (omega arith)
    (moved_placed _ (answer_placed low m n f.state
    (declared_as in_head v.0 v.1 (option_map initializer_line x) name f.state) a b)) p.alone
    (λ d g. object_placed low hi n x m p (omega arith) a (omega arith) name d g)

declarator_in : (levels : ℕ) (is_typedef : Bool) (names : List (List ℕ)) (d : t.InitDeclarator)
    → IsInitDeclarator levels is_typedef names d → (n : ℕ) (i : Words) → Ascend n (init_declarator_words d i)
    → Reads n i (λ m. (in_head : Bool) (spec : Option Specification) (f : File)
    → Placed n m (declarator in_head spec d f))
declarator_in levels is names d f n i h =
    let x = declarator_read names d.declarator f.0.1.1 n _ h in let a = x.low in
    let y = initialized_read levels (names_after is d.declarator names) d.initializer f.1 x.end i x.rest in
    let b = y.low in let c = x.placed.named f.0.1.0 0 in let g = c.0 in let k = c.1 in
    record {
      end = y.end;
      low = omega arith;
      placed = λ in_head spec u.
          either_placed n x.end x.end y.end
          (declared_by in_head (name_token 0 d.declarator) (option_map (λ x. x.1) d.initializer)) (omega arith)
          (moved_placed _ (second_placed n n n x.end (shape false d.declarator) (omega arith)
          (none_placed n n u.state spec (omega arith)) (x.placed.judged false))) y.placed.alone
          (λ v w. declared_placed n x.end y.end (name_token 0 d.declarator) (option_map (λ x. x.1) d.initializer)
          y.placed g k b in_head v v.1.name w);
      rest = y.rest;
    }

others_read : (levels : ℕ) (is_typedef : Bool) (names : List (List ℕ)) (ds : List (Position × t.InitDeclarator))
    → AreMoreInitDeclarators levels is_typedef names ds → (n : ℕ) (i : Words)
    → Ascend n (more_init_declarators_words ds i)
    → Reads n i (λ m. (in_head : Bool) (spec : Option Specification) (s : File × List DeclaredVariable)
    → Placed n m (others in_head spec ds s))
others_read levels is names [] f n i h = record {
  end = n;
  low = omega arith;
  placed = λ in_head spec s. none_placed n n s (Some _) (omega arith);
  rest = h;
}
others_read levels is names (d ∷ ds) f n i h =
    let a = h.0 in let x = declarator_in levels is names d.1 f.0 (suc d.0.at) _ h.1 in let b = x.low in
    let y = others_read levels is (names_after is d.1.declarator names) ds f.1 x.end i x.rest in let c = y.low in
    record {
      end = y.end;
      low = omega arith;
      placed = λ in_head spec s. wider n y.end (omega arith) (omega arith)
          (onward_placed (suc d.0.at) x.end x.end y.end at_end s.1 (others in_head spec ds) (omega arith)
          (x.placed in_head spec s.0) (y.placed in_head spec));
      rest = y.rest;
    }

-- what a declaration declares, behind its specifiers
record DeclaratorsIn (ds : Option t.InitDeclarators) (lo hi : ℕ) : Type 0 where
  alone : (in_head : Bool) (first : ℕ) (f : File) → Placed lo hi (declarators in_head first ds None f)
  whole : (low first : ℕ) → low ≤ lo → low ≤ first → suc first ≤ hi → (in_head : Bool) (spec : Specification)
      (f : File) → Placed low hi (declarators in_head first ds (Some spec) f)

declarators_read : (levels : ℕ) (is_typedef : Bool) (names : List (List ℕ)) (ds : Option t.InitDeclarators)
    → AreInitDeclarators levels is_typedef names ds → (n : ℕ) (i : Words) → Ascend n (init_declarators_words ds i)
    → Reads n i (DeclaratorsIn ds n)
declarators_read levels is names None f n i h = record {
  end = n;
  low = omega arith;
  placed = record {
    alone = λ in_head first f. none_placed n n f None (omega arith);
    whole = λ low first l a b in_head spec f.
        moved_placed _ (ruled_placed low n first (λ spec. judged (alone_in in_head spec)) a b
        (none_placed low n f.state (Some spec) l));
  };
  rest = h;
}
declarators_read levels is names (Some ds) f n i h =
    let x = declarator_in levels is names ds.first f.0 n _ h in let a = x.low in
    let y = others_read levels is (names_after is ds.first.declarator names) ds.others f.1 x.end i x.rest in
    let b = y.low in
    record {
      end = y.end;
      low = omega arith;
      placed = record {
        alone = λ in_head first g. gathered_placed (onward_placed n x.end x.end y.end at_end []
            (others in_head None ds.others) (omega arith) (x.placed in_head None g) (y.placed in_head None));
        whole = λ low first l c d in_head spec g. wider low y.end (omega arith) (omega arith)
            (gathered_placed (onward_placed n x.end x.end y.end at_end [] (others in_head (Some spec) ds.others)
            (omega arith) (x.placed in_head (Some spec) g) (y.placed in_head (Some spec))));
      };
      rest = y.rest;
    }

pub declaration_read : (levels : ℕ) (names : List (List ℕ)) (d : t.Declaration) → IsDeclaration levels names d
    → (n : ℕ) (i : Words) → Ascend n (declaration_words d i)
    → Reads n i (λ m. (in_head : Bool) (f : File) → Placed n m (declaration in_head d f))
declaration_read levels names d f n i h =
    let x = specifiers_read names d.specifiers f.0.1.1 n _ h in let a = x.low in
    let y = declarators_read levels (has_typedef d.specifiers) names d.declarators f.1 x.end _ x.rest in
    let b = y.low in let c = y.rest.0 in let g = x.placed.first f.0.1.0 in let k = g.0 in let l = g.1 in
    record {
      end = suc d.semicolon.at;
      low = omega arith;
      placed = λ in_head u. wider n (suc d.semicolon.at) (omega arith) (omega arith)
          (either_placed n x.end x.end y.end (declarators in_head (first_token d.specifiers) d.declarators)
          (omega arith)
          (moved_placed _ (ruled_placed n x.end (first_token d.specifiers) (λ spec. judged (stored_once spec)) k l
          (specification_placed d.specifiers n x.end x.placed (is_none d.declarators) u.state)))
          (y.placed.alone in_head (first_token d.specifiers))
          (λ spec v. y.placed.whole n (first_token d.specifiers) a k (omega arith) in_head spec v));
      rest = y.rest.1;
    }
