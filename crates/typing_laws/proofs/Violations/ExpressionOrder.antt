-- The violations in a well-formed expression, type name, declarator or list of specifiers are in the order of the
-- tokens.
use Rattle.std.proofs.Common.{ℕ, suc, Bool, false, List, [], Option, Some, arith}
use Rattle.std.specs.Prelude.{◌&&◌}
use Rattle.c_syntax.specs.Formed.{AreArguments, AreMembers, AreMoreArguments, AreMoreDeclarators, AreMoreEnumerators}
use Rattle.c_syntax.specs.Formed.{AreMoreParameters, AreParameters, EachSpecifier, IsDeclarator, IsEnumerator}
use Rattle.c_syntax.specs.Formed.{IsExpression, IsMember, IsParameter, IsSpecifier, IsTypeName, is_plain_name}
use Rattle.c_syntax.specs.Tree.{Expression, Arguments, MoreArguments, TypedDeclarator, Declarator, Parameters}
use Rattle.c_syntax.specs.Tree.{MoreParameters, Specifiers, Specifier, Members, Member, MoreDeclarators, Enumerator}
use Rattle.c_syntax.specs.Tree.{MoreEnumerators}
use Rattle.c_syntax.specs.Tree as t
use Rattle.c_syntax.specs.Words.{Words, arguments_words, declarator_words, enumerator_words}
use Rattle.c_syntax.specs.Words.{expression_words, member_words, members_words, more_arguments_words}
use Rattle.c_syntax.specs.Words.{more_declarators_words, more_enumerators_words, more_parameters_words}
use Rattle.c_syntax.specs.Words.{parameters_words}
use Rattle.c_syntax.specs.Words.{specifier_words, specifiers_words, typed_words}
use Rattle.c_tree.specs.declared.c_type.TypeWord.{TypeWord}
use Rattle.c_tree.specs.declared.expression.Fixity.TheVariants as fixity
use Rattle.c_rules.specs.Values.{Value}
use Rattle.c_place_rules.specs.Operands.{enclosed}
use Rattle.c_place_rules.specs.Places.{type_in}
use Rattle.c_declarators.specs.Derivations.{to_open_array, to_pointer}
use Rattle.c_scope.specs.declared.tags.TagKind.TheVariants as kind
use Rattle.c_declarator_typing.specs.Declarators.{parameter, type_named, with_derivation}
use Rattle.c_declarator_typing.specs.Members.{Entries, member_specified, no_entries, tag_completed}
use Rattle.c_operand_typing.specs.Operators.{assigned_by, assignment_form_of, binary_form_of, combined, indexed}
use Rattle.c_operand_typing.specs.Operators.{prefix_form_of, step_form, stepped_by}
use Rattle.c_operand_typing.specs.Primaries.{literal, literal_bytes, named}
use Rattle.c_declarator_typing.specs.Sizes.{enumeration_value}
use Rattle.c_declarator_typing.specs.Specifications.{Specification, tag_kind, typedef_type}
use Rattle.c_declarator_typing.specs.Specifications.{with_keyword, with_named}
use Rattle.c_typing_state.specs.State.{State, judged}
use Rattle.c_expression_typing.specs.Constructs.{accessed, begun_as, cast_to, chosen, enumerated_as}
use Rattle.c_expression_typing.specs.Constructs.{has_words, literal_alone, plain_name, prefixed, sized}
use Rattle.c_expression_typing.specs.Constructs.{tagged_as}
use Rattle.c_expression_typing.specs.Lines.{name_of, spellings, tag_name}
use Rattle.typing_laws.specs.Violations.Expressions.{applied_to, argument_values, array_shape, at_end, declared_members}
use Rattle.typing_laws.specs.Violations.Expressions.{enumerator, first_token, function_shape, gathered, member}
use Rattle.typing_laws.specs.Violations.Expressions.{members, more_enumerators, more_members, more_types, more_values}
use Rattle.typing_laws.specs.Violations.Expressions.{name_token}
use Rattle.typing_laws.specs.Violations.Expressions.{operand, parameter_type, parameter_types, printed_values}
use Rattle.typing_laws.specs.Violations.Expressions.{printing_with}
use Rattle.typing_laws.specs.Violations.Expressions.{scoped, shape, specification, token_of, type_name}
use Rattle.typing_laws.specs.Violations.Expressions.{valued, with_tag}
use Rattle.typing_laws.specs.Violations.Judgements.{added, adding_rule, beginning}
use Rattle.typing_laws.specs.Violations.Judgements.{◌beside◌}
use Rattle.typing_laws.specs.Violations.Judgements.{◌onward◌}
use Rattle.typing_laws.specs.Violations.Order.{AreInOrder, Ascend}
use Rattle.typing_laws.proofs.Violations.Order.{Placed, Reads, added_placed, along_placed, answer_placed, behind_placed}
use Rattle.typing_laws.proofs.Violations.Order.{gathered_placed, in_order}
use Rattle.typing_laws.proofs.Violations.Order.{made_placed, none_placed, onward_placed, ruled_placed}
use Rattle.typing_laws.proofs.Violations.Order.{second_placed, wider}
use Rattle.typing_laws.proofs.Violations.ExpressionParts.{ExpressionIn, value_placed, strings_read, consts_read}
use Rattle.typing_laws.proofs.Violations.ExpressionParts.{tag_read}
use Rattle.typing_laws.proofs.Violations.ExpressionParts.{comma_read, two_placed, callee_placed, applied_placed}
use Rattle.typing_laws.proofs.Violations.ExpressionParts.{format_placed}
use Rattle.typing_laws.proofs.Violations.ExpressionParts.{not_true, SpecifiersIn, specification_placed, DeclaratorIn}
use Rattle.typing_laws.proofs.Violations.ExpressionParts.{scope_placed, member_placed, SpecifierIn, ArgumentsIn}

mutual
  pub expression_read : (names : List (List ℕ)) (e : Expression) → IsExpression names e → (n : ℕ) (i : Words)
      → Ascend n (expression_words e i) → Reads n i (ExpressionIn e n)
  expression_read names (t.identifier x) f n i h =
      let a = h.0 in
      record {
        end = suc x.position.at;
        low = omega arith;
        placed = record {
          judged = λ is s. answer_placed n (suc x.position.at) x.position.at s
              (named is (name_of x) x.position.line s) a (omega arith);
          low = a;
          high = omega arith;
          first_low = a;
          first_high = omega arith;
        };
        rest = h.1;
      }
  expression_read names (t.integer x) f n i h =
      let a = h.0 in
      record {
        end = suc x.position.at;
        low = omega arith;
        placed = record {
          judged = λ is s. none_placed n (suc x.position.at) s (Some _) (omega arith);
          low = a;
          high = omega arith;
          first_low = a;
          first_high = omega arith;
        };
        rest = h.1;
      }
  expression_read names (t.character x) f n i h =
      let a = h.0 in
      record {
        end = suc x.position.at;
        low = omega arith;
        placed = record {
          judged = λ is s. none_placed n (suc x.position.at) s (Some _) (omega arith);
          low = a;
          high = omega arith;
          first_low = a;
          first_high = omega arith;
        };
        rest = h.1;
      }
  expression_read names (t.strings x z) f n i h =
      let a = h.0 in let y = strings_read z (suc x.position.at) i h.1 in let b = y.low in
      record {
        end = y.end;
        low = omega arith;
        placed = record {
          judged = λ is s. answer_placed n y.end x.position.at s
              (literal is (literal_bytes (spellings x z)) x.position.line s) a (omega arith);
          low = a;
          high = omega arith;
          first_low = a;
          first_high = omega arith;
        };
        rest = y.rest;
      }
  expression_read names (t.parenthesized l e r) f n i h =
      let a = h.0 in let y = expression_read names e f (suc l.at) _ h.1 in let b = y.low in let c = y.rest.0 in
      record {
        end = suc r.at;
        low = omega arith;
        placed = record {
          judged = λ is s. ruled_placed n (suc r.at) l.at (λ o. judged (λ s. enclosed l.line o)) a (omega arith)
              (wider n (suc r.at) (omega arith) (omega arith) (y.placed.judged is s));
          low = a;
          high = omega arith;
          first_low = a;
          first_high = omega arith;
        };
        rest = y.rest.1;
      }
  expression_read names (t.subscript e l u r) f n i h =
      let x = expression_read names e f.1 n _ h in let a = x.low in let b = x.rest.0 in
      let y = expression_read names u f.2 (suc l.at) _ x.rest.1 in let c = y.low in let d = y.rest.0 in
      let g = x.placed.first_low in let k = x.placed.first_high in
      record {
        end = suc r.at;
        low = omega arith;
        placed = record {
          judged = λ is s. two_placed n x.end (suc l.at) (suc r.at) l.at (valued (token_of e) (operand is e))
              (valued (token_of u) (operand is u)) (λ v. judged (indexed l.line v.0 v.1)) s (omega arith) (omega arith)
              (omega arith) (value_placed e n x.end x.placed is s)
              (λ t. wider (suc l.at) (suc r.at) (omega arith) (omega arith)
              (value_placed u (suc l.at) y.end y.placed is t));
          low = omega arith;
          high = omega arith;
          first_low = g;
          first_high = omega arith;
        };
        rest = y.rest.1;
      }
  expression_read names (t.call e l args r) f n i h =
      let x = expression_read names e f.1 n _ h in let a = x.low in let b = x.rest.0 in
      let y = arguments_read names args f.2 (suc l.at) _ x.rest.1 in let c = y.low in let d = y.rest.0 in
      let g = x.placed.first_low in let k = x.placed.first_high in
      record {
        end = suc r.at;
        low = omega arith;
        placed = record {
          judged = λ is s. behind_placed n x.end l.at (suc r.at)
              (applied_to l (argument_values is args) (printed_values is args)) (omega arith)
              (callee_placed n x.end (token_of e) is (plain_name e) (operand is e) s x.placed.low x.placed.high
              (x.placed.judged is s))
              (applied_placed l.at (suc r.at) l (argument_values is args) (printed_values is args) (omega arith)
              (omega arith) (λ t. wider l.at (suc r.at) (omega arith) (omega arith) (y.placed.0 is t))
              (λ t. wider l.at (suc r.at) (omega arith) (omega arith) (y.placed.1 is t)));
          low = omega arith;
          high = omega arith;
          first_low = g;
          first_high = omega arith;
        };
        rest = y.rest.1;
      }
  expression_read names (t.member e w at u) f n i h =
      let x = expression_read names e f.2 n _ h in let a = x.low in let b = x.rest.0 in let c = x.rest.1.0 in
      let g = x.placed.first_low in let k = x.placed.first_high in
      record {
        end = suc u.position.at;
        low = omega arith;
        placed = record {
          judged = λ is s. ruled_placed n (suc u.position.at) at.at (accessed w at.line (name_of u)) (omega arith)
              (omega arith) (wider n (suc u.position.at) (omega arith) (omega arith) (x.placed.judged is s));
          low = omega arith;
          high = omega arith;
          first_low = g;
          first_high = omega arith;
        };
        rest = x.rest.1.1;
      }
  expression_read names (t.postfix e w at) f n i h =
      let x = expression_read names e f.2 n _ h in let a = x.low in let b = x.rest.0 in
      let g = x.placed.first_low in let k = x.placed.first_high in
      record {
        end = suc at.at;
        low = omega arith;
        placed = record {
          judged = λ is s. ruled_placed n (suc at.at) at.at
              (λ o. judged (stepped_by (step_form w) fixity.Postfix at.line o)) (omega arith) (omega arith)
              (wider n (suc at.at) (omega arith) (omega arith) (x.placed.judged is s));
          low = omega arith;
          high = omega arith;
          first_low = g;
          first_high = omega arith;
        };
        rest = x.rest.1;
      }
  expression_read names (t.unary w at e) f n i h =
      let a = h.0 in let x = expression_read names e f.2 (suc at.at) i h.1 in let b = x.low in
      record {
        end = x.end;
        low = omega arith;
        placed = record {
          judged = λ is s. ruled_placed n x.end at.at (prefixed is (prefix_form_of w) at.line) a (omega arith)
              (wider n x.end (omega arith) (omega arith) (x.placed.judged is s));
          low = a;
          high = omega arith;
          first_low = a;
          first_high = omega arith;
        };
        rest = x.rest;
      }
  expression_read names (t.sizeof_expression at e) f n i h =
      let a = h.0 in let x = expression_read names e f.1 (suc at.at) i h.1 in let b = x.low in
      record {
        end = x.end;
        low = omega arith;
        placed = record {
          judged = λ is s. ruled_placed n x.end at.at (λ o. judged (sized at.line (type_in o))) a (omega arith)
              (wider n x.end (omega arith) (omega arith) (x.placed.judged false s));
          low = a;
          high = omega arith;
          first_low = a;
          first_high = omega arith;
        };
        rest = x.rest;
      }
  expression_read names (t.sizeof_type at l x r) f n i h =
      let a = h.0 in let b = h.1.0 in let y = type_name_read names x f (suc l.at) _ h.1.1 in let c = y.low in
      let d = y.rest.0 in
      record {
        end = suc r.at;
        low = omega arith;
        placed = record {
          judged = λ is s. ruled_placed n (suc r.at) at.at (λ type. judged (sized at.line type)) a (omega arith)
              (wider n (suc r.at) (omega arith) (omega arith) (y.placed s));
          low = a;
          high = omega arith;
          first_low = a;
          first_high = omega arith;
        };
        rest = y.rest.1;
      }
  expression_read names (t.cast l x r e) f n i h =
      let a = h.0 in let y = type_name_read names x f.1 (suc l.at) _ h.1 in let b = y.low in let c = y.rest.0 in
      let z = expression_read names e f.2 (suc r.at) i y.rest.1 in let d = z.low in
      record {
        end = z.end;
        low = omega arith;
        placed = record {
          judged = λ is s. two_placed n y.end (suc r.at) z.end l.at (type_name x) (valued (token_of e) (operand is e))
              (λ v. judged (cast_to l.line v.0 v.1)) s (omega arith) a (omega arith)
              (wider n y.end (omega arith) (omega arith) (y.placed s))
              (λ t. value_placed e (suc r.at) z.end z.placed is t);
          low = a;
          high = omega arith;
          first_low = a;
          first_high = omega arith;
        };
        rest = z.rest;
      }
  expression_read names (t.binary e w at u) f n i h =
      let x = expression_read names e f.3 n _ h in let a = x.low in let b = x.rest.0 in
      let y = expression_read names u f.4 (suc at.at) i x.rest.1 in let c = y.low in
      let g = x.placed.first_low in let k = x.placed.first_high in
      record {
        end = y.end;
        low = omega arith;
        placed = record {
          judged = λ is s. two_placed n x.end (suc at.at) y.end at.at (valued (token_of e) (operand is e))
              (valued (token_of u) (operand is u)) (λ v. judged (combined (binary_form_of w) at.line v.0 v.1)) s
              (omega arith) (omega arith) (omega arith) (value_placed e n x.end x.placed is s)
              (λ t. value_placed u (suc at.at) y.end y.placed is t);
          low = omega arith;
          high = omega arith;
          first_low = g;
          first_high = omega arith;
        };
        rest = y.rest;
      }
  expression_read names (t.conditional o q e colon u) f n i h =
      let x = expression_read names o f.2 n _ h in let a = x.low in let b = x.rest.0 in
      let y = expression_read names e f.3 (suc q.at) _ x.rest.1 in let c = y.low in let d = y.rest.0 in
      let z = expression_read names u f.4 (suc colon.at) i y.rest.1 in let j = z.low in
      let g = x.placed.first_low in let k = x.placed.first_high in
      record {
        end = z.end;
        low = omega arith;
        placed = record {
          judged = λ is s. two_placed n y.end (suc colon.at) z.end q.at
              (valued (token_of o) (operand is o) beside valued (token_of e) (operand is e))
              (valued (token_of u) (operand is u)) (λ v. judged (chosen q.line v.0.0 v.0.1 v.1)) s (omega arith)
              (omega arith) (omega arith)
              (second_placed n x.end (suc q.at) y.end (valued (token_of e) (operand is e)) (omega arith)
              (value_placed o n x.end x.placed is s) (λ t. value_placed e (suc q.at) y.end y.placed is t))
              (λ t. value_placed u (suc colon.at) z.end z.placed is t);
          low = omega arith;
          high = omega arith;
          first_low = g;
          first_high = omega arith;
        };
        rest = z.rest;
      }
  expression_read names (t.assignment e w at u) f n i h =
      let x = expression_read names e f.3 n _ h in let a = x.low in let b = x.rest.0 in
      let y = expression_read names u f.4 (suc at.at) i x.rest.1 in let c = y.low in
      let g = x.placed.first_low in let k = x.placed.first_high in
      record {
        end = y.end;
        low = omega arith;
        placed = record {
          judged = λ is s. two_placed n x.end (suc at.at) y.end at.at (operand is e)
              (valued (token_of u) (operand is u)) (λ v. judged (assigned_by (assignment_form_of w) at.line v.0 v.1)) s
              (omega arith) (omega arith) (omega arith) (x.placed.judged is s)
              (λ t. value_placed u (suc at.at) y.end y.placed is t);
          low = omega arith;
          high = omega arith;
          first_low = g;
          first_high = omega arith;
        };
        rest = y.rest;
      }

  arguments_read : (names : List (List ℕ)) (x : Arguments) → AreArguments names x → (n : ℕ) (i : Words)
      → Ascend n (arguments_words x i) → Reads n i (ArgumentsIn x n)
  arguments_read names t.no_arguments f n i h = record {
    end = n;
    low = omega arith;
    placed = (λ is s. none_placed n n s (Some _) (omega arith), λ is s. none_placed n n s (Some _) (omega arith));
    rest = h;
  }
  arguments_read names (t.arguments e more) f n i h =
      let x = expression_read names e f.1 n _ h in let a = x.low in
      let y = more_arguments_read names more f.2 x.end i x.rest in let b = y.low in
      record {
        end = y.end;
        low = omega arith;
        placed = (
          λ is s. gathered_placed (onward_placed n x.end x.end y.end at_end [] (more_values is more) (omega arith)
              (value_placed e n x.end x.placed is s) (y.placed is)),
          λ is s. made_placed printing_with (second_placed n x.end x.end y.end (beginning [] (more_values is more))
              (omega arith)
              (format_placed n x.end (token_of e) (literal_alone e) (operand is e) s x.placed.low x.placed.high
              (x.placed.judged is s))
              (λ t. gathered_placed (y.placed is (t, [])))),
        );
        rest = y.rest;
      }

  more_arguments_read : (names : List (List ℕ)) (x : MoreArguments) → AreMoreArguments names x → (n : ℕ) (i : Words)
      → Ascend n (more_arguments_words x i)
      → Reads n i (λ m. (is : Bool) (s : State × List Value) → Placed n m (more_values is x s))
  more_arguments_read names t.end_of_arguments f n i h = record {
    end = n;
    low = omega arith;
    placed = λ is s. none_placed n n s (Some _) (omega arith);
    rest = h;
  }
  more_arguments_read names (t.more_arguments at e more) f n i h =
      let a = h.0 in let x = expression_read names e f.1 (suc at.at) _ h.1 in let b = x.low in
      let y = more_arguments_read names more f.2 x.end i x.rest in let c = y.low in
      record {
        end = y.end;
        low = omega arith;
        placed = λ is s. wider n y.end (omega arith) (omega arith)
            (onward_placed (suc at.at) x.end x.end y.end at_end s.1 (more_values is more) (omega arith)
            (value_placed e (suc at.at) x.end x.placed is s.0) (y.placed is));
        rest = y.rest;
      }

  pub type_name_read : (names : List (List ℕ)) (x : TypedDeclarator) → IsTypeName names x → (n : ℕ) (i : Words)
      → Ascend n (typed_words x i) → Reads n i (λ m. (s : State) → Placed n m (type_name x s))
  type_name_read names (t.typed z d) f n i h =
      let x = specifiers_read names z f.1 n _ h in let a = x.low in
      let y = declarator_read names d f.3 x.end i x.rest in let b = y.low in
      let c = x.placed.first f.0 in let g = c.0 in let k = c.1 in
      let o = y.placed.name (first_token z) n y.end a (omega arith) g (omega arith) in
      record {
        end = y.end;
        low = omega arith;
        placed = λ s. two_placed n x.end x.end y.end (name_token (first_token z) d) (specification false z)
            (shape false d) (λ v. judged (type_named v.0 v.1)) s (omega arith) o.0 o.1
            (specification_placed z n x.end x.placed false s) (y.placed.judged false);
        rest = y.rest;
      }

  pub declarator_read : (names : List (List ℕ)) (d : Declarator) → IsDeclarator names d → (n : ℕ) (i : Words)
      → Ascend n (declarator_words d i) → Reads n i (DeclaratorIn d n)
  declarator_read names (t.named x) f n i h =
      let a = h.0 in
      record {
        end = suc x.position.at;
        low = omega arith;
        placed = record {
          judged = λ is s. none_placed n (suc x.position.at) s (Some _) (omega arith);
          name = λ o lo hi l r p q. (omega arith, r);
          named = λ e o. (a, omega arith);
        };
        rest = h.1;
      }
  declarator_read names t.unnamed f n i h = record {
    end = n;
    low = omega arith;
    placed = record {
      judged = λ is s. none_placed n n s (Some _) (omega arith);
      name = λ o lo hi l r p q. (p, q);
      named = λ e o. not_true _ e;
    };
    rest = h;
  }
  declarator_read names (t.pointer at z d) f n i h =
      let a = h.0 in let x = consts_read z (suc at.at) _ h.1 in let b = x.low in
      let y = declarator_read names d f x.end i x.rest in let c = y.low in
      record {
        end = y.end;
        low = omega arith;
        placed = record {
          judged = λ is s. made_placed (with_derivation (to_pointer (has_words z)))
              (wider n y.end (omega arith) (omega arith) (y.placed.judged is s));
          name = λ o lo hi l r p q. y.placed.name o lo hi (omega arith) r p q;
          named = λ e o. let u = y.placed.named e o in let v = u.0 in (omega arith, u.1);
        };
        rest = y.rest;
      }
  declarator_read names (t.grouped l d r) f n i h =
      let a = h.0 in let y = declarator_read names d f.1 (suc l.at) _ h.1 in let b = y.low in let c = y.rest.0 in
      record {
        end = suc r.at;
        low = omega arith;
        placed = record {
          judged = λ is s. wider n (suc r.at) (omega arith) (omega arith) (y.placed.judged is s);
          name = λ o lo hi l r p q. y.placed.name o lo hi (omega arith) (omega arith) p q;
          named = λ e o. let u = y.placed.named e o in let v = u.0 in let w = u.1 in (omega arith, omega arith);
        };
        rest = y.rest.1;
      }
  declarator_read names (t.open_array d l r) f n i h =
      let y = declarator_read names d f.1 n _ h in let a = y.low in let b = y.rest.0 in let c = y.rest.1.0 in
      record {
        end = suc r.at;
        low = omega arith;
        placed = record {
          judged = λ is s. made_placed (with_derivation to_open_array)
              (wider n (suc r.at) (omega arith) (omega arith) (y.placed.judged is s));
          name = λ o lo hi l r p q. y.placed.name o lo hi l (omega arith) p q;
          named = λ e o. let u = y.placed.named e o in let w = u.1 in (u.0, omega arith);
        };
        rest = y.rest.1.1;
      }
  declarator_read names (t.array d l e r) f n i h =
      let y = declarator_read names d f.2 n _ h in let a = y.low in let b = y.rest.0 in
      let x = expression_read names e f.3 (suc l.at) _ y.rest.1 in let c = x.low in let g = x.rest.0 in
      record {
        end = suc r.at;
        low = omega arith;
        placed = record {
          judged = λ is s. made_placed array_shape (second_placed n y.end (suc l.at) (suc r.at)
              (valued (token_of e) (operand false e)) (omega arith) (y.placed.judged is s)
              (λ t. wider (suc l.at) (suc r.at) (omega arith) (omega arith)
              (value_placed e (suc l.at) x.end x.placed false t)));
          name = λ o lo hi l r p q. y.placed.name o lo hi l (omega arith) p q;
          named = λ e o. let u = y.placed.named e o in let w = u.1 in (u.0, omega arith);
        };
        rest = x.rest.1;
      }
  declarator_read names (t.function d l ps r) f n i h =
      let y = declarator_read names d f.1 n _ h in let a = y.low in let b = y.rest.0 in
      let x = parameters_read names ps f.2 (suc l.at) _ y.rest.1 in let c = x.low in let g = x.rest.0 in
      record {
        end = suc r.at;
        low = omega arith;
        placed = record {
          judged = λ is s. made_placed function_shape (second_placed n y.end (suc l.at) (suc r.at)
              (scoped (parameter_types (is && is_plain_name d) ps)) (omega arith) (y.placed.judged is s)
              (scope_placed (suc l.at) (suc r.at) (parameter_types (is && is_plain_name d) ps)
              (λ t. wider (suc l.at) (suc r.at) (omega arith) (omega arith) (x.placed (is && is_plain_name d) t))));
          name = λ o lo hi l r p q. y.placed.name o lo hi l (omega arith) p q;
          named = λ e o. let u = y.placed.named e o in let w = u.1 in (u.0, omega arith);
        };
        rest = x.rest.1;
      }

  parameters_read : (names : List (List ℕ)) (x : Parameters) → AreParameters names x → (n : ℕ) (i : Words)
      → Ascend n (parameters_words x i)
      → Reads n i (λ m. (is : Bool) (s : State) → Placed n m (parameter_types is x s))
  parameters_read names t.no_parameters f n i h = record {
    end = n;
    low = omega arith;
    placed = λ is s. none_placed n n s (Some _) (omega arith);
    rest = h;
  }
  parameters_read names (t.void_parameters at) f n i h =
      let a = h.0 in
      record {
        end = suc at.at;
        low = omega arith;
        placed = λ is s. none_placed n (suc at.at) s (Some _) (omega arith);
        rest = h.1;
      }
  parameters_read names (t.parameters x more) f n i h =
      let y = parameter_read names x f.1 n _ h in let a = y.low in
      let z = more_parameters_read names more f.2 y.end i y.rest in let b = z.low in
      record {
        end = z.end;
        low = omega arith;
        placed = λ is s. gathered_placed (onward_placed n y.end y.end z.end at_end [] (more_types is more) (omega arith)
            (y.placed is s) (z.placed is));
        rest = z.rest;
      }

  more_parameters_read : (names : List (List ℕ)) (x : MoreParameters) → AreMoreParameters names x → (n : ℕ)
      (i : Words) → Ascend n (more_parameters_words x i)
      → Reads n i (λ m. (is : Bool) (s : State × List (List TypeWord)) → Placed n m (more_types is x s))
  more_parameters_read names t.end_of_parameters f n i h = record {
    end = n;
    low = omega arith;
    placed = λ is s. none_placed n n s (Some _) (omega arith);
    rest = h;
  }
  more_parameters_read names (t.more_parameters at x more) f n i h =
      let a = h.0 in let y = parameter_read names x f.0 (suc at.at) _ h.1 in let b = y.low in
      let z = more_parameters_read names more f.1 y.end i y.rest in let c = z.low in
      record {
        end = z.end;
        low = omega arith;
        placed = λ is s. wider n z.end (omega arith) (omega arith)
            (onward_placed (suc at.at) y.end y.end z.end at_end s.1 (more_types is more) (omega arith)
            (y.placed is s.0) (z.placed is));
        rest = z.rest;
      }

  parameter_read : (names : List (List ℕ)) (x : TypedDeclarator) → IsParameter names x → (n : ℕ) (i : Words)
      → Ascend n (typed_words x i)
      → Reads n i (λ m. (is : Bool) (s : State) → Placed n m (parameter_type is x s))
  parameter_read names (t.typed z d) f n i h =
      let x = specifiers_read names z f.1 n _ h in let a = x.low in
      let y = declarator_read names d f.3 x.end i x.rest in let b = y.low in
      let c = x.placed.first f.0 in let g = c.0 in let k = c.1 in
      let o = y.placed.name (first_token z) n y.end a (omega arith) g (omega arith) in
      record {
        end = y.end;
        low = omega arith;
        placed = λ is s. two_placed n x.end x.end y.end (name_token (first_token z) d) (specification false z)
            (shape false d) (λ v. parameter is v.0 v.1) s (omega arith) o.0 o.1
            (specification_placed z n x.end x.placed false s) (y.placed.judged false);
        rest = y.rest;
      }

  pub specifiers_read : (names : List (List ℕ)) (z : Specifiers) → EachSpecifier names z → (n : ℕ) (i : Words)
      → Ascend n (specifiers_words z i) → Reads n i (SpecifiersIn z n)
  specifiers_read names t.no_specifiers f n i h = record {
    end = n;
    low = omega arith;
    placed = record {
      judged = λ is line s. none_placed n n s (Some _) (omega arith);
      first = λ e. not_true _ e;
    };
    rest = h;
  }
  specifiers_read names (t.specifiers x z) f n i h =
      let y = specifier_read names x f.0 n _ h in let a = y.low in
      let w = specifiers_read names z f.1 y.end i y.rest in let b = w.low in let c = y.placed.high in
      record {
        end = w.end;
        low = omega arith;
        placed = record {
          judged = λ is line s. behind_placed n y.end y.end w.end (λ done. gathered is line z) (omega arith)
              (y.placed.judged is line s) (λ o t. w.placed.judged is line t);
          first = λ e. (y.placed.low, omega arith);
        };
        rest = w.rest;
      }

  specifier_read : (names : List (List ℕ)) (x : Specifier) → IsSpecifier names x → (n : ℕ) (i : Words)
      → Ascend n (specifier_words x i) → Reads n i (SpecifierIn x n)
  specifier_read names (t.keyword w at) f n i h =
      let a = h.0 in
      record {
        end = suc at.at;
        low = omega arith;
        placed = record {
          judged = λ is line s. added_placed with_keyword s.1 (none_placed n (suc at.at) s.0 (Some w) (omega arith));
          low = a;
          high = omega arith;
        };
        rest = h.1;
      }
  specifier_read names (t.typedef_name x) f n i h =
      let a = h.0 in
      record {
        end = suc x.position.at;
        low = omega arith;
        placed = record {
          judged = λ is line s. added_placed with_named s.1 (answer_placed n (suc x.position.at) x.position.at s.0
              (judged (typedef_type (name_of x) x.position.line) s.0) a (omega arith));
          low = a;
          high = omega arith;
        };
        rest = h.1;
      }
  specifier_read names (t.structure w at x) f n i h =
      let a = h.0 in let b = h.1.0 in
      record {
        end = suc x.position.at;
        low = omega arith;
        placed = record {
          judged = λ is line s. added_placed with_tag s.1 (answer_placed n (suc x.position.at) at.at s.0
              (tagged_as is (tag_kind w) (name_of x) line s.0) a (omega arith));
          low = a;
          high = omega arith;
        };
        rest = h.1.1;
      }
  specifier_read names (t.structure_body w at x l ms r) f n i h =
      let a = h.0 in let y = tag_read x (suc at.at) _ h.1 in let b = y.low in let c = y.rest.0 in
      let z = members_read names ms f.1 (suc l.at) _ y.rest.1 in let d = z.low in let g = z.rest.0 in
      record {
        end = suc r.at;
        low = omega arith;
        placed = record {
          judged = λ is line s. added_placed with_tag s.1
              (ruled_placed n (suc r.at) at.at (λ v. tag_completed line v.0 v.1) a (omega arith)
              (second_placed n (suc at.at) (suc l.at) (suc r.at) (beginning no_entries (members ms)) (omega arith)
              (answer_placed n (suc at.at) at.at s.0 (begun_as (tag_kind w) (tag_name x) line s.0) a (omega arith))
              (λ t. wider (suc l.at) (suc r.at) (omega arith) (omega arith)
              (gathered_placed (z.placed (t, no_entries))))));
          low = a;
          high = omega arith;
        };
        rest = z.rest.1;
      }
  specifier_read names (t.enumeration at x) f n i h =
      let a = h.0 in let b = h.1.0 in
      record {
        end = suc x.position.at;
        low = omega arith;
        placed = record {
          judged = λ is line s. added_placed with_tag s.1 (answer_placed n (suc x.position.at) at.at s.0
              (tagged_as is kind.Enumeration (name_of x) line s.0) a (omega arith));
          low = a;
          high = omega arith;
        };
        rest = h.1.1;
      }
  specifier_read names (t.enumeration_body at x l e more comma r) f n i h =
      let a = h.0 in let y = tag_read x (suc at.at) _ h.1 in let b = y.low in let c = y.rest.0 in
      let u = enumerator_read names e f.0 (suc l.at) _ y.rest.1 in let d = u.low in
      let v = enumerators_read names more f.1 u.end _ u.rest in let g = v.low in
      let w = comma_read comma v.end _ v.rest in let j = w.low in let k = w.rest.0 in
      record {
        end = suc r.at;
        low = omega arith;
        placed = record {
          judged = λ is line s. added_placed (λ v. with_tag v.0) s.1
              (second_placed n (suc at.at) (suc l.at) (suc r.at)
              (beginning (Some 0) (enumerator e onward more_enumerators more)) (omega arith)
              (answer_placed n (suc at.at) at.at s.0 (begun_as kind.Enumeration (tag_name x) line s.0) a (omega arith))
              (λ t. wider (suc l.at) (suc r.at) (omega arith) (omega arith)
              (gathered_placed (behind_placed (suc l.at) u.end u.end v.end (λ done. more_enumerators more) (omega arith)
              (u.placed (t, Some 0)) (λ o t. v.placed t)))));
          low = a;
          high = omega arith;
        };
        rest = w.rest.1;
      }

  members_read : (names : List (List ℕ)) (x : Members) → AreMembers names x → (n : ℕ) (i : Words)
      → Ascend n (members_words x i) → Reads n i (λ m. (s : State × Entries) → Placed n m (members x s))
  members_read names t.no_members f n i h = record {
    end = n;
    low = omega arith;
    placed = λ s. none_placed n n s (Some _) (omega arith);
    rest = h;
  }
  members_read names (t.members x more) f n i h =
      let y = member_read names x f.0 n _ h in let a = y.low in
      let z = members_read names more f.1 y.end i y.rest in let b = z.low in
      record {
        end = z.end;
        low = omega arith;
        placed = λ s. behind_placed n y.end y.end z.end (λ done. members more) (omega arith) (y.placed s)
            (λ o t. z.placed t);
        rest = z.rest;
      }

  member_read : (names : List (List ℕ)) (x : Member) → IsMember names x → (n : ℕ) (i : Words)
      → Ascend n (member_words x i) → Reads n i (λ m. (s : State × Entries) → Placed n m (declared_members x s))
  member_read names (t.member_declaration z d more at) f n i h =
      let x = specifiers_read names z f.1 n _ h in let a = x.low in
      let y = declarator_read names d f.4 x.end _ x.rest in let b = y.low in
      let w = more_declarators_read names more f.5 y.end _ y.rest in let c = w.low in let g = w.rest.0 in
      let k = x.placed.first f.0 in let o = y.placed.named f.3 (first_token z) in
      record {
        end = suc at.at;
        low = omega arith;
        placed = λ s. behind_placed n x.end x.end (suc at.at)
            (λ spec. member (name_token (first_token z) d) spec (shape false d) onward more_members spec more)
            (omega arith)
            (along_placed s.1 (ruled_placed n x.end (first_token z) (λ spec. judged
            (λ s. member_specified spec)) k.0 k.1
            (specification_placed z n x.end x.placed false s.0)))
            (λ spec t. behind_placed x.end y.end y.end (suc at.at) (λ done. more_members spec more) (omega arith)
            (member_placed x.end y.end (name_token (first_token z) d) spec (shape false d) t o.0 o.1
            (y.placed.judged false))
            (λ p t. wider y.end (suc at.at) (omega arith) (omega arith) (w.placed spec t)));
        rest = w.rest.1;
      }

  more_declarators_read : (names : List (List ℕ)) (x : MoreDeclarators) → AreMoreDeclarators names x → (n : ℕ)
      (i : Words) → Ascend n (more_declarators_words x i)
      → Reads n i (λ m. (spec : Option Specification) (s : State × Entries) → Placed n m (more_members spec x s))
  more_declarators_read names t.end_of_declarators f n i h = record {
    end = n;
    low = omega arith;
    placed = λ spec s. none_placed n n s (Some _) (omega arith);
    rest = h;
  }
  more_declarators_read names (t.more_declarators at d more) f n i h =
      let a = h.0 in let y = declarator_read names d f.1 (suc at.at) _ h.1 in let b = y.low in
      let w = more_declarators_read names more f.2 y.end i y.rest in let c = w.low in
      let o = y.placed.named f.0 at.at in
      record {
        end = w.end;
        low = omega arith;
        placed = λ spec s. wider n w.end (omega arith) (omega arith)
            (behind_placed (suc at.at) y.end y.end w.end (λ done. more_members spec more) (omega arith)
            (member_placed (suc at.at) y.end (name_token at.at d) spec (shape false d) s o.0 o.1
            (y.placed.judged false)) (λ p t. w.placed spec t));
        rest = w.rest;
      }

  enumerator_read : (names : List (List ℕ)) (x : Enumerator) → IsEnumerator names x → (n : ℕ) (i : Words)
      → Ascend n (enumerator_words x i) → Reads n i (λ m. (s : State × Option ℕ) → Placed n m (enumerator x s))
  enumerator_read names (t.plain x) f n i h =
      let a = h.0 in
      record {
        end = suc x.position.at;
        low = omega arith;
        placed = λ s. answer_placed n (suc x.position.at) x.position.at s
            (added (enumerated_as (name_of x) x.position.line s.1 s.0)) a (omega arith);
        rest = h.1;
      }
  enumerator_read names (t.valued x at e) f n i h =
      let a = h.0 in let b = h.1.0 in let y = expression_read names e f.2 (suc at.at) i h.1.1 in let c = y.low in
      record {
        end = y.end;
        low = omega arith;
        placed = λ s. ruled_placed n y.end x.position.at
            (adding_rule (λ v next. enumerated_as (name_of x) x.position.line (enumeration_value v))) a (omega arith)
            (along_placed s.1 (wider n y.end (omega arith) (omega arith)
            (value_placed e (suc at.at) y.end y.placed false s.0)));
        rest = y.rest;
      }

  enumerators_read : (names : List (List ℕ)) (x : MoreEnumerators) → AreMoreEnumerators names x → (n : ℕ) (i : Words)
      → Ascend n (more_enumerators_words x i)
      → Reads n i (λ m. (s : State × Option ℕ) → Placed n m (more_enumerators x s))
  enumerators_read names t.end_of_enumerators f n i h = record {
    end = n;
    low = omega arith;
    placed = λ s. none_placed n n s (Some _) (omega arith);
    rest = h;
  }
  enumerators_read names (t.more_enumerators at x more) f n i h =
      let a = h.0 in let y = enumerator_read names x f.0 (suc at.at) _ h.1 in let b = y.low in
      let z = enumerators_read names more f.1 y.end i y.rest in let c = z.low in
      record {
        end = z.end;
        low = omega arith;
        placed = λ s. wider n z.end (omega arith) (omega arith)
            (behind_placed (suc at.at) y.end y.end z.end (λ done. more_enumerators more) (omega arith) (y.placed s)
            (λ o t. z.placed t));
        rest = z.rest;
      }

pub expression_in_order : (names : List (List ℕ)) (e : Expression) (n : ℕ) (is : Bool) (s : State)
    → IsExpression names e → Ascend n (expression_words e []) → AreInOrder n (operand is e s).violations
expression_in_order names e n is s f h =
    let x = expression_read names e f n [] h in
    in_order n x.end (operand is e s).violations (x.placed.judged is s).order
