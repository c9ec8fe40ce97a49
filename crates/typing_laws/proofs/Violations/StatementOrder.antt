-- The violations in a well-formed statement or block are in the order of its tokens.
use Rattle.std.proofs.Common.{◌≡◌, ℕ, ◌≤◌, suc, true, false, List, [], ◌++◌}
use Rattle.std.proofs.Common.{Option, Some, None, arith}
use Rattle.std.specs.Prelude.{Ok, Err, option_map}
use Rattle.obj_memory.specs.declared.int_type.IntType.{IntType}
use Rattle.c_syntax.specs.declared.position.Position.{Position}
use Rattle.c_syntax.specs.Formed.{AreItems, IsBlock, IsBlockItem, IsForInit, IsOptional, IsStatement}
use Rattle.c_syntax.specs.Statements.{Block, BlockItem, BlockItems, Statement}
use Rattle.c_syntax.specs.Statements as t
use Rattle.c_syntax.specs.Tree.{Expression}
use Rattle.c_syntax.specs.Words.{Words, block_item_words, block_words, for_init_words, items_words, optional_words}
use Rattle.c_syntax.specs.Words.{statement_words}
use Rattle.c_tree.specs.declared.c_type.TypeWord.{TypeWord}
use Rattle.c_tree.specs.declared.statement.CaseLabel.{CaseLabel}
use Rattle.c_tree.specs.Statements as tree
use Rattle.c_tree.specs.Tree as typed_tree
use Rattle.c_faults.specs.Answer.{Answer}
use Rattle.c_rules.specs.Values.{Value}
use Rattle.c_typing_state.specs.State.{State, judged}
use Rattle.c_unit_typing.specs.Constructs.{Labels, controls, jump, no_labels, returned_nothing, returned_value}
use Rattle.c_unit_typing.specs.Constructs.{labels_on, scope_opened, switches}
use Rattle.c_unit_typing.specs.Files.{File}
use Rattle.typing_laws.specs.Violations.Declarations.{declaration, in_state}
use Rattle.typing_laws.specs.Violations.Expressions.{operand, token_of, valued}
use Rattle.typing_laws.specs.Violations.Judgements.{Judgement, Judging, Violation, added, adding_rule, along_with}
use Rattle.typing_laws.specs.Violations.Judgements.{answered, both}
use Rattle.typing_laws.specs.Violations.Judgements.{if_known, made}
use Rattle.typing_laws.specs.Violations.Judgements.{rule_at}
use Rattle.typing_laws.specs.Violations.Files.{body}
use Rattle.typing_laws.specs.Violations.Order.{Ascend}
use Rattle.typing_laws.specs.Violations.Statements.{Within, block, block_item, block_items, by_itself, case_rule}
use Rattle.typing_laws.specs.Violations.Statements.{condition_violations, controlling, default_rule, do_behind}
use Rattle.typing_laws.specs.Violations.Statements.{do_while}
use Rattle.typing_laws.specs.Violations.Statements.{evaluated_if, expression_statement, first_part, for_with, head_rule}
use Rattle.typing_laws.specs.Violations.Statements.{if_else, if_then, in_scope, label_type, looping, returned, seen}
use Rattle.typing_laws.specs.Violations.Statements.{statement}
use Rattle.typing_laws.specs.Violations.Statements.{statements, switch_block, switch_item, switch_items}
use Rattle.typing_laws.specs.Violations.Statements.{switch_items_of}
use Rattle.typing_laws.specs.Violations.Statements.{switch_with, switching, switching_on, tree_in, valued_if, while_do}
use Rattle.typing_laws.specs.Violations.Statements.{with_labels}
use Rattle.typing_laws.proofs.Violations.Constructs.{condition_rule}
use Rattle.typing_laws.proofs.Violations.DeclarationOrder.{declaration_read}
use Rattle.typing_laws.proofs.Violations.ExpressionOrder.{expression_read}
use Rattle.typing_laws.proofs.Violations.ExpressionParts.{ExpressionIn, value_placed}
use Rattle.typing_laws.proofs.Violations.Order.{IfKnown, Placed, Reads, along_placed, answer_placed, behind_placed}
use Rattle.typing_laws.proofs.Violations.Order.{made_placed, moved_placed, none_placed, nothing_together, ruled_placed}
use Rattle.typing_laws.proofs.Violations.Order.{same_placed}
use Rattle.typing_laws.proofs.Violations.Order.{second_placed, together, wider}

-- expressions of statements

pub record OptionalIn (e : Option Expression) (lo hi : ℕ) : Type 0 where
  pub statement : (s : State) → Placed lo hi (expression_statement e s)
  pub evaluated : (s : State) → Placed lo hi (evaluated_if e s)
  pub value : (s : State) → Placed lo hi (valued_if e s)
  pub returns : (low : ℕ) (at : Position) → low ≤ at.at → suc at.at ≤ lo → (result : Option (List TypeWord)) (s : State)
      → Placed low hi (returned at result e s)

optional_read : (levels : ℕ) (names : List (List ℕ)) (e : Option Expression) → IsOptional levels names e → (n : ℕ)
    (i : Words) → Ascend n (optional_words e i) → Reads n i (OptionalIn e n)
optional_read levels names None f n i h = record {
  end = n;
  low = omega arith;
  placed = record {
    statement = λ s. none_placed n n s (Some _) (omega arith);
    evaluated = λ s. none_placed n n s (Some _) (omega arith);
    value = λ s. none_placed n n s (Some _) (omega arith);
    returns = λ low at a b result s. ruled_placed low n at.at (λ type. judged (returned_nothing at.line type)) a b
        (none_placed low n s result (omega arith));
  };
  rest = h;
}
optional_read levels names (Some e) f n i h =
    let x = expression_read names e f.1 n i h in let c = x.low in
    record {
      end = x.end;
      low = c;
      placed = record {
        statement = λ s. made_placed tree.expression_statement (made_placed tree_in
            (value_placed e n x.end x.placed true s));
        evaluated = λ s. made_placed Some (made_placed tree_in (value_placed e n x.end x.placed true s));
        value = λ s. made_placed Some (value_placed e n x.end x.placed true s);
        returns = λ low at a b result s. ruled_placed low x.end at.at (λ v. judged (returned_value at.line v.0 v.1)) a
            (omega arith)
            (second_placed low low n x.end (valued (token_of e) (operand true e)) (omega arith)
            (none_placed low low s result (omega arith)) (value_placed e n x.end x.placed true));
      };
      rest = x.rest;
    }

controlling_placed : (e : Expression) (low lo hi : ℕ) (at : Position) → ExpressionIn e lo hi → low ≤ at.at
    → suc at.at ≤ lo → lo ≤ hi → (s : State) → Placed low hi (controlling at e s)
controlling_placed e low lo hi at p a b c s =
    ruled_placed low hi at.at (λ v. judged (controls at.line v)) a (omega arith)
    (wider low hi (omega arith) (omega arith) (value_placed e lo hi p true s))

switching_placed : (e : Expression) (low lo hi : ℕ) (at : Position) → ExpressionIn e lo hi → low ≤ at.at
    → suc at.at ≤ lo → lo ≤ hi → (s : State) → Placed low hi (switching_on at e s)
switching_placed e low lo hi at p a b c s =
    ruled_placed low hi at.at (λ v. judged (switches at.line v)) a (omega arith)
    (wider low hi (omega arith) (omega arith) (value_placed e lo hi p true s))

-- `do`: the rule on conditions stands at its word, before the body

condition_placed : (lo : ℕ) (at : Position) → lo ≤ at.at → (o : Option Value) (s : State)
    → Placed lo (suc at.at) (rule_at at.at (condition_rule at.line) o s)
condition_placed lo at l None s = none_placed lo (suc at.at) s None (omega arith)
condition_placed lo at l (Some v) s =
    answer_placed lo (suc at.at) at.at s (condition_rule at.line v s) l (omega arith)

do_answer : (n : ℕ) (u : State) (x : tree.Statement) (vs ws : List Violation) → vs ≡ [] → ws ≡ []
    → (z : Answer (State × typed_tree.Expression))
    → IfKnown (option_map do_while (both (Some x) (answered n u z).known))
    (((answered n u z).violations ++ (vs ++ ws)) ≡ [])
do_answer n u x vs ws e g (Ok r) = nothing_together vs ws e g
do_answer n u x vs ws e g (Err f) = tt

do_value : (at : Position) (x : tree.Statement) (vs ws : List Violation) → vs ≡ [] → (o : Option Value) (u : State)
    → IfKnown o (ws ≡ [])
    → IfKnown (option_map do_while (both (Some x)
    (if_known o (rule_at at.at (condition_rule at.line) o u).known)))
    (((rule_at at.at (condition_rule at.line) o u).violations ++ (vs ++ ws)) ≡ [])
do_value at x vs ws e None u g = tt
do_value at x vs ws e (Some v) u g = do_answer at.at u x vs ws e g (condition_rule at.line v u)

module _ (e : Expression) (at : Position) (before : State) (b : Judgement File tree.Statement) (n m lo hi : ℕ)
    (a : n ≤ at.at) (l : m ≤ lo) (p : Placed (suc at.at) m b) (q : ExpressionIn e lo hi) where
  do_none : (x : Option tree.Statement) → IfKnown x (b.violations ≡ [])
      → IfKnown (option_map do_while (both x (controlling at e b.state.state).known))
      ((condition_violations at (valued (token_of e) (operand true e) (seen before b x))
      ++ (b.violations ++ (valued (token_of e) (operand true e) b.state.state).violations)) ≡ [])
  do_none None h = tt
  do_none (Some x) h =
      do_value at x b.violations (valued (token_of e) (operand true e) b.state.state).violations h
      (valued (token_of e) (operand true e) b.state.state).known
      (valued (token_of e) (operand true e) b.state.state).state (value_placed e lo hi q true b.state.state).none

  do_placed : Placed n hi (do_behind at e before b)
  do_placed = record {
    order = together n (suc at.at) (suc at.at) hi
        (condition_violations at (valued (token_of e) (operand true e) (seen before b b.known)))
        (b.violations ++ (valued (token_of e) (operand true e) b.state.state).violations) (omega arith)
        (condition_placed n at a (valued (token_of e) (operand true e) (seen before b b.known)).known
        (valued (token_of e) (operand true e) (seen before b b.known)).state).order
        (together (suc at.at) m lo hi b.violations
        (valued (token_of e) (operand true e) b.state.state).violations l p.order
        (value_placed e lo hi q true b.state.state).order);
    none = do_none b.known p.none;
  }

-- the head of a `for`

first_read : (levels : ℕ) (names : List (List ℕ)) (x : t.ForInit) → IsForInit levels names x → (n : ℕ) (i : Words)
    → Ascend n (for_init_words x i) → Reads n i (λ m. (f : File) → Placed n m (first_part x f))
first_read levels names (t.declares d) f n i h =
    let x = declaration_read levels names d f.1 n i h in
    record {
      end = x.end;
      low = x.low;
      placed = λ u. made_placed tree.first_declaration (x.placed true u);
      rest = x.rest;
    }
first_read levels names (t.evaluates None at) f n i h =
    let a = h.0 in
    record {
      end = suc at.at;
      low = omega arith;
      placed = λ u. none_placed n (suc at.at) u (Some _) (omega arith);
      rest = h.1;
    }
first_read levels names (t.evaluates (Some e) at) f n i h =
    let x = expression_read names e f.1 n _ h in let a = x.low in let b = x.rest.0 in
    record {
      end = suc at.at;
      low = omega arith;
      placed = λ u. wider n (suc at.at) (omega arith) (omega arith)
          (made_placed tree.first_expression (moved_placed _ (made_placed tree_in
          (value_placed e n x.end x.placed true u.state))));
      rest = x.rest.1;
    }

-- statements and blocks

pub record BlockIn (b : Block) (lo hi : ℕ) : Type 0 where
  pub block : (w : Within) (f : File) → Placed lo hi (block w b f)
  pub switch : (w : Within) (v : Option Value) (f : File) → Placed lo hi (switch_block w b v f)
  pub body : (w : Within) (f : File) → Placed lo hi (body w b f)

record ItemsIn (x : BlockItems) (lo hi : ℕ) : Type 0 where
  items : (w : Within) (f : File) → Placed lo hi (block_items w x f)
  switch : (w : Within) (type : IntType) (s : File × List CaseLabel) → Placed lo hi (switch_items w type x s)

record ItemIn (x : BlockItem) (lo hi : ℕ) : Type 0 where
  item : (w : Within) (f : File) → Placed lo hi (block_item w x f)
  switch : (w : Within) (type : IntType) (s : File × List CaseLabel) → Placed lo hi (switch_item w type x s)

abbrev StatementIn : Statement → (lo hi : ℕ) → Type 0
StatementIn x lo hi = (w : Within) (p : Labels) (s : File × List CaseLabel) → Placed lo hi (statement w p x s)

controlled_placed : (lo hi : ℕ) (x : Judging (File × List CaseLabel) tree.Statement)
    → ((s : File × List CaseLabel) → Placed lo hi (x s)) → (f : File) → Placed lo hi (in_scope (by_itself x) f)
controlled_placed lo hi x h f = moved_placed _ (h (scope_opened f, []))

labelled_placed : (lo hi : ℕ) (x : Judging (File × List CaseLabel) tree.Statement)
    → ((s : File × List CaseLabel) → Placed lo hi (x s)) → (s : File × List CaseLabel)
    → Placed lo hi (with_labels s.1 (x (s.0, [])))
labelled_placed lo hi x h s =
    same_placed lo hi _ (λ y. record { labels = (x (s.0, [])).state.1; statement = y }) (h (s.0, []))

mutual
  pub statement_read : (levels : ℕ) (names : List (List ℕ)) (x : Statement) → IsStatement levels names x → (n : ℕ)
      (i : Words) → Ascend n (statement_words x i) → Reads n i (StatementIn x n)
  statement_read levels names (t.compound b) f n i h =
      let x = block_read levels names b f n i h in
      record {
        end = x.end;
        low = x.low;
        placed = λ w p s. along_placed s.1 (x.placed.block w s.0);
        rest = x.rest;
      }
  statement_read levels names (t.expression e at) f n i h =
      let x = optional_read levels names e f n _ h in let a = x.low in let b = x.rest.0 in
      record {
        end = suc at.at;
        low = omega arith;
        placed = λ w p s. along_placed s.1 (moved_placed _ (wider n (suc at.at) (omega arith) (omega arith)
            (x.placed.statement s.0.state)));
        rest = x.rest.1;
      }
  statement_read levels names (t.if_then at l e r x) f n i h =
      let a = h.0 in let b = h.1.0 in let y = expression_read names e f.0.1 (suc l.at) _ h.1.1 in let c = y.low in
      let d = y.rest.0 in let z = statement_read levels names x f.1 (suc r.at) i y.rest.1 in let g = z.low in
      record {
        end = z.end;
        low = omega arith;
        placed = λ w p s. along_placed s.1 (moved_placed _ (made_placed if_then
            (second_placed n y.end (suc r.at) z.end (in_scope (by_itself (statement w no_labels x))) (omega arith)
            (moved_placed _ (controlling_placed e n (suc l.at) y.end at y.placed a (omega arith) c
            (scope_opened s.0).state))
            (controlled_placed (suc r.at) z.end (statement w no_labels x) (z.placed w no_labels)))));
        rest = z.rest;
      }
  statement_read levels names (t.if_else at l e r x q u) f n i h =
      let a = h.0 in let b = h.1.0 in let y = expression_read names e f.1.1 (suc l.at) _ h.1.1 in let c = y.low in
      let d = y.rest.0 in let z = statement_read levels names x f.2 (suc r.at) _ y.rest.1 in let g = z.low in
      let j = z.rest.0 in let v = statement_read levels names u f.3 (suc q.at) i z.rest.1 in let k = v.low in
      record {
        end = v.end;
        low = omega arith;
        placed = λ w p s. along_placed s.1 (moved_placed _ (made_placed if_else
            (second_placed n z.end (suc q.at) v.end (in_scope (by_itself (statement w no_labels u))) (omega arith)
            (second_placed n y.end (suc r.at) z.end (in_scope (by_itself (statement w no_labels x))) (omega arith)
            (moved_placed _ (controlling_placed e n (suc l.at) y.end at y.placed a (omega arith) c
            (scope_opened s.0).state))
            (controlled_placed (suc r.at) z.end (statement w no_labels x) (z.placed w no_labels)))
            (controlled_placed (suc q.at) v.end (statement w no_labels u) (v.placed w no_labels)))));
        rest = v.rest;
      }
  statement_read levels names (t.switch at l e r x) f n i h =
      let a = h.0 in let b = h.1.0 in let y = expression_read names e f.0.1 (suc l.at) _ h.1.1 in let c = y.low in
      let d = y.rest.0 in let z = block_read levels names x f.1 (suc r.at) i y.rest.1 in let g = z.low in
      record {
        end = z.end;
        low = omega arith;
        placed = λ w p s. along_placed s.1 (moved_placed _
            (behind_placed n y.end (suc r.at) z.end (switch_block (switching w) x) (omega arith)
            (moved_placed _ (switching_placed e n (suc l.at) y.end at y.placed a (omega arith) c
            (scope_opened s.0).state)) (z.placed.switch (switching w))));
        rest = z.rest;
      }
  statement_read levels names (t.while_do at l e r x) f n i h =
      let a = h.0 in let b = h.1.0 in let y = expression_read names e f.0.1 (suc l.at) _ h.1.1 in let c = y.low in
      let d = y.rest.0 in let z = statement_read levels names x f.1 (suc r.at) i y.rest.1 in let g = z.low in
      record {
        end = z.end;
        low = omega arith;
        placed = λ w p s. along_placed s.1 (moved_placed _ (made_placed while_do
            (second_placed n y.end (suc r.at) z.end (in_scope (by_itself (statement (looping w) no_labels x)))
            (omega arith)
            (moved_placed _ (controlling_placed e n (suc l.at) y.end at y.placed a (omega arith) c
            (scope_opened s.0).state))
            (controlled_placed (suc r.at) z.end (statement (looping w) no_labels x)
            (z.placed (looping w) no_labels)))));
        rest = z.rest;
      }
  statement_read levels names (t.do_while at x q l e r semi) f n i h =
      let a = h.0 in let z = statement_read levels names x f.0 (suc at.at) _ h.1 in let b = z.low in
      let c = z.rest.0 in let d = z.rest.1.0 in
      let y = expression_read names e f.1.1 (suc l.at) _ z.rest.1.1 in let g = y.low in
      let j = y.rest.0 in let k = y.rest.1.0 in
      record {
        end = suc semi.at;
        low = omega arith;
        placed = λ w p s. along_placed s.1 (moved_placed _ (wider n (suc semi.at) (omega arith) (omega arith)
            (do_placed e at (scope_opened s.0).state
            (in_scope (by_itself (statement (looping w) no_labels x)) (scope_opened s.0)) n z.end (suc l.at) y.end a
            (omega arith)
            (controlled_placed (suc at.at) z.end (statement (looping w) no_labels x) (z.placed (looping w) no_labels)
            (scope_opened s.0)) y.placed)));
        rest = y.rest.1.1;
      }
  statement_read levels names (t.for at l first condition semi step r x) f n i h =
      let a = h.0 in let b = h.1.0 in let u = first_read levels names first f.0 (suc l.at) _ h.1.1 in let c = u.low in
      let v = optional_read levels names condition f.1 u.end _ u.rest in let d = v.low in let g = v.rest.0 in
      let y = optional_read levels names step f.2 (suc semi.at) _ v.rest.1 in let j = y.low in let k = y.rest.0 in
      let z = statement_read levels names x f.3 (suc r.at) i y.rest.1 in let o = z.low in
      record {
        end = z.end;
        low = omega arith;
        placed = λ w p s. along_placed s.1 (moved_placed _ (made_placed (for_with at.line)
            (second_placed n y.end (suc r.at) z.end (in_scope (by_itself (statement (looping w) no_labels x)))
            (omega arith)
            (ruled_placed n y.end at.at (head_rule at.line) a (omega arith)
            (second_placed n v.end (suc semi.at) y.end (in_state (evaluated_if step)) (omega arith)
            (second_placed n u.end u.end v.end (in_state (valued_if condition)) (omega arith)
            (wider n u.end (omega arith) (omega arith) (u.placed (scope_opened s.0)))
            (λ e. moved_placed _ (v.placed.value e.state)))
            (λ e. moved_placed _ (y.placed.evaluated e.state))))
            (controlled_placed (suc r.at) z.end (statement (looping w) no_labels x)
            (z.placed (looping w) no_labels)))));
        rest = z.rest;
      }
  statement_read levels names (t.case at e colon x) f n i h =
      let a = h.0 in let y = expression_read names e f.1.1 (suc at.at) _ h.1 in let b = y.low in let c = y.rest.0 in
      let z = statement_read levels names x f.2 (suc colon.at) i y.rest.1 in let d = z.low in
      record {
        end = z.end;
        low = omega arith;
        placed = λ w p s. behind_placed n y.end (suc colon.at) z.end (λ done. statement w p x) (omega arith)
            (ruled_placed n y.end at.at (adding_rule (case_rule at.line p)) a (omega arith)
            (along_placed s.1 (moved_placed _ (wider n y.end (omega arith) (omega arith)
            (value_placed e (suc at.at) y.end y.placed false s.0.state)))))
            (λ o u. z.placed w p u);
        rest = z.rest;
      }
  statement_read levels names (t.default at colon x) f n i h =
      let a = h.0 in let b = h.1.0 in let z = statement_read levels names x f (suc colon.at) i h.1.1 in let d = z.low in
      record {
        end = z.end;
        low = omega arith;
        placed = λ w p s. behind_placed n (suc at.at) (suc colon.at) z.end (λ done. statement w p x) (omega arith)
            (answer_placed n (suc at.at) at.at s (added (default_rule at.line p s.1 s.0)) a (omega arith))
            (λ o u. z.placed w p u);
        rest = z.rest;
      }
  statement_read levels names (t.break at semi) f n i h =
      let a = h.0 in let b = h.1.0 in
      record {
        end = suc semi.at;
        low = omega arith;
        placed = λ w p s. along_placed s.1 (moved_placed _ (answer_placed n (suc semi.at) at.at s.0.state
            (judged (jump w.inside.may_break at.line tree.break) s.0.state) a (omega arith)));
        rest = h.1.1;
      }
  statement_read levels names (t.continue at semi) f n i h =
      let a = h.0 in let b = h.1.0 in
      record {
        end = suc semi.at;
        low = omega arith;
        placed = λ w p s. along_placed s.1 (moved_placed _ (answer_placed n (suc semi.at) at.at s.0.state
            (judged (jump w.inside.may_continue at.line tree.continue) s.0.state) a (omega arith)));
        rest = h.1.1;
      }
  statement_read levels names (t.return at e semi) f n i h =
      let a = h.0 in let x = optional_read levels names e f (suc at.at) _ h.1 in let b = x.low in let c = x.rest.0 in
      record {
        end = suc semi.at;
        low = omega arith;
        placed = λ w p s. along_placed s.1 (moved_placed _ (wider n (suc semi.at) (omega arith) (omega arith)
            (x.placed.returns n at a (omega arith) w.result s.0.state)));
        rest = x.rest.1;
      }

  pub block_read : (levels : ℕ) (names : List (List ℕ)) (b : Block) → IsBlock levels names b → (n : ℕ) (i : Words)
      → Ascend n (block_words b i) → Reads n i (BlockIn b n)
  block_read levels names (t.block l xs r) f n i h =
      let a = h.0 in let x = items_read levels names xs f (suc l.at) _ h.1 in let b = x.low in let c = x.rest.0 in
      record {
        end = suc r.at;
        low = omega arith;
        placed = record {
          block = λ w g. made_placed (tree.block l.line) (moved_placed _ (wider n (suc r.at) (omega arith) (omega arith)
              (x.placed.items w (scope_opened g))));
          switch = λ w v g. made_placed (switch_with l.line)
              (second_placed n n n (suc r.at) (in_scope (by_itself (switch_items w (label_type v) xs))) (omega arith)
              (none_placed n n g v (omega arith))
              (λ u. moved_placed _ (wider n (suc r.at) (omega arith) (omega arith)
              (x.placed.switch w (label_type v) (scope_opened u, [])))));
          body = λ w g. wider n (suc r.at) (omega arith) (omega arith) (x.placed.items w g);
        };
        rest = x.rest.1;
      }

  items_read : (levels : ℕ) (names : List (List ℕ)) (x : BlockItems) → AreItems levels names x → (n : ℕ) (i : Words)
      → Ascend n (items_words x i) → Reads n i (ItemsIn x n)
  items_read levels names t.no_items f n i h = record {
    end = n;
    low = omega arith;
    placed = record {
      items = λ w g. none_placed n n g (Some _) (omega arith);
      switch = λ w type s. none_placed n n s (Some _) (omega arith);
    };
    rest = h;
  }
  items_read levels names (t.items x more) f n i h =
      let y = item_read levels names x f.0 n _ h in let a = y.low in
      let z = items_read levels names more f.1 y.end i y.rest in let b = z.low in
      record {
        end = z.end;
        low = omega arith;
        placed = record {
          items = λ w g. made_placed statements (second_placed n y.end y.end z.end (block_items w more) (omega arith)
              (y.placed.item w g) (z.placed.items w));
          switch = λ w type s. made_placed switch_items_of (second_placed n y.end y.end z.end (switch_items w type more)
              (omega arith) (y.placed.switch w type s) (z.placed.switch w type));
        };
        rest = z.rest;
      }

  item_read : (levels : ℕ) (names : List (List ℕ)) (x : BlockItem) → IsBlockItem levels names x → (n : ℕ)
      (i : Words) → Ascend n (block_item_words x i) → Reads n i (ItemIn x n)
  item_read levels names (t.local d) f n i h =
      let x = declaration_read levels names d f.1 n i h in
      record {
        end = x.end;
        low = x.low;
        placed = record {
          item = λ w g. made_placed tree.declaration (x.placed false g);
          switch = λ w type s.
              labelled_placed n x.end (λ s. along_with s.1 (made tree.declaration (declaration false d s.0)))
              (λ s. along_placed s.1 (made_placed tree.declaration (x.placed false s.0))) s;
        };
        rest = x.rest;
      }
  item_read levels names (t.inner u) f n i h =
      let x = statement_read levels names u f n i h in
      record {
        end = x.end;
        low = x.low;
        placed = record {
          item = λ w g. moved_placed _ (x.placed w no_labels (g, []));
          switch = λ w type s.
              labelled_placed n x.end (statement w (labels_on type s.1) u) (x.placed w (labels_on type s.1)) s;
        };
        rest = x.rest;
      }
