-- The violations in a well-formed function definition or file are in the order of its tokens.
use Rattle.std.proofs.Common.{◌≡◌, ℕ, ◌≤◌, suc, true, false, sym, subst, List, [], ◌∷◌, Option, Some, None}
use Rattle.std.proofs.Common.{arith}
use Rattle.c_lexer.specs.declared.token.Token.{Token}
use Rattle.c_syntax.specs.Formed.{AreExternals, IsExternal, IsWellFormed, has_typedef, names_after}
use Rattle.c_syntax.specs.Formed.{names_after_external}
use Rattle.c_syntax.specs.Statements as t
use Rattle.c_syntax.specs.Words.{Words, external_words, externals_words, positioned, positioned_from, unit_words}
use Rattle.c_call_rules.specs.FunctionTypes.{result_type}
use Rattle.c_scope.specs.declared.meaning.Designated.TheVariants as what
use Rattle.c_scope.specs.declared.meaning.Meaning.{Meaning}
use Rattle.c_scope.specs.declared.meaning.Meaning.TheVariants as meaning
use Rattle.c_scope.specs.Names.{Name}
use Rattle.c_scope.specs.Parameters.{ParameterScope}
use Rattle.c_tree.specs.declared.c_type.TypeWord.{TypeWord}
use Rattle.c_declarator_typing.specs.Declarators.{Shape, built_in}
use Rattle.c_declarator_typing.specs.Specifications.{Specification}
use Rattle.c_typing_state.specs.State.{judged}
use Rattle.c_unit_typing.specs.Declarations.{stored_once}
use Rattle.c_unit_typing.specs.Files.{File}
use Rattle.c_unit_typing.specs.Units.{around_body, defined_as, entered, scope_or_none}
use Rattle.typing_laws.specs.Violations.Declarations.{in_state}
use Rattle.typing_laws.specs.Violations.Expressions.{first_token, name_token, shape}
use Rattle.typing_laws.specs.Violations.Files.{behind_name, by_itself, defined, defined_by, entered_alone, external}
use Rattle.typing_laws.specs.Violations.Files.{externals}
use Rattle.typing_laws.specs.Violations.Files.{parameter_scope, with_body}
use Rattle.typing_laws.specs.Violations.Order.{AreInOrder, Ascend}
use Rattle.typing_laws.specs.Violations.Statements.{within}
use Rattle.typing_laws.proofs.Violations.DeclarationOrder.{declaration_read}
use Rattle.typing_laws.proofs.Violations.ExpressionOrder.{declarator_read, specifiers_read}
use Rattle.typing_laws.proofs.Violations.ExpressionParts.{specification_placed}
use Rattle.typing_laws.proofs.Violations.Order.{Placed, Reads, answer_placed, behind_placed, either_placed, in_order}
use Rattle.typing_laws.proofs.Violations.Order.{made_placed}
use Rattle.typing_laws.proofs.Violations.Order.{moved_placed, none_placed, ruled_placed, same_placed, second_placed}
use Rattle.typing_laws.proofs.Violations.StatementOrder.{BlockIn, block_read}

alone_placed : (b : t.Block) (lo hi : ℕ) → BlockIn b lo hi → (scope : ParameterScope)
    (result : Option (List TypeWord)) (f : File) → Placed lo hi (by_itself scope result b f)
alone_placed b lo hi p scope result f = record {
  order = (p.body (record { inside = record { may_break = false; may_continue = false }; result = result })
      (entered_alone scope f)).order;
  none = tt;
}

with_body_placed : (b : t.Block) (lo hi : ℕ) → BlockIn b lo hi → lo ≤ hi → (line : ℕ)
    (scope : Option ParameterScope) (m : Option Meaning) (f : File) → Placed lo hi (with_body line scope b m f)
with_body_placed b lo hi p l line scope (Some (meaning.Named (what.Function n) type)) f =
    same_placed lo hi _ (λ ss. tt)
    (p.body (within (around_body type)) (entered n type (scope_or_none scope) f))
with_body_placed b lo hi p l line scope m f = none_placed lo hi f (Some _) l

behind_name_placed : (b : t.Block) (lo hi : ℕ) → BlockIn b lo hi → lo ≤ hi → (v : Specification × Shape)
    (name : Name × ℕ) (m : Option (Option Meaning)) (f : File) → Placed lo hi (behind_name b v name m f)
behind_name_placed b lo hi p l v name (Some m) f = with_body_placed b lo hi p l name.1 v.1.parameters m f
behind_name_placed b lo hi p l v name None f =
    alone_placed b lo hi p (scope_or_none v.1.parameters) (Some (result_type 0 (built_in f.state v.0 v.1).type)) f

defined_placed : (b : t.Block) (low lo hi n : ℕ) → BlockIn b lo hi → low ≤ n → suc n ≤ lo → lo ≤ hi
    → (v : Specification × Shape) (name : Option (Name × ℕ)) (f : File) → Placed low hi (defined n b v name f)
defined_placed b low lo hi n p a c l v None f = none_placed low hi f (Some _) (omega arith)
defined_placed b low lo hi n p a c l v (Some name) f =
    behind_placed low lo lo hi (behind_name b v name) (omega arith)
    (moved_placed _ (answer_placed low lo n f.state (defined_as v.0 v.1 name f.state) a c))
    (behind_name_placed b lo hi p l v name)

pub external_read : (levels : ℕ) (names : List (List ℕ)) (x : t.External) → IsExternal levels names x → (n : ℕ)
    (i : Words) → Ascend n (external_words x i) → Reads n i (λ m. (f : File) → Placed n m (external x f))
external_read levels names (t.declaration d) f n i h =
    let x = declaration_read levels names d f n i h in
    record {
      end = x.end;
      low = x.low;
      placed = λ g. made_placed (λ vs. tt) (x.placed false g);
      rest = x.rest;
    }
external_read levels names (t.definition z d b) f n i h =
    let x = specifiers_read names z f.0.1.1 n _ h in let a = x.low in
    let y = declarator_read names d f.1.1.1 x.end _ x.rest in let c = y.low in
    let w = block_read levels (names_after (has_typedef z) d names) b f.4 y.end i y.rest in let g = w.low in
    let k = x.placed.first f.0.1.0 in let l = k.0 in let o = k.1 in
    let q = y.placed.named f.1.1.0 0 in let u = q.0 in let v = q.1 in
    record {
      end = w.end;
      low = omega arith;
      placed = λ g. either_placed n y.end y.end w.end (defined_by d b) (omega arith)
          (second_placed n x.end x.end y.end (in_state (shape true d)) (omega arith)
          (moved_placed _ (ruled_placed n x.end (first_token z) (λ spec. judged (stored_once spec)) l o
          (specification_placed z n x.end x.placed false g.state)))
          (λ e. moved_placed _ (y.placed.judged true e.state)))
          (λ e. alone_placed b y.end w.end w.placed (parameter_scope d e.state) None e)
          (λ s e. defined_placed b n y.end w.end (name_token 0 d) w.placed (omega arith) v (omega arith) s s.1.name e);
      rest = w.rest;
    }

pub externals_read : (levels : ℕ) (names : List (List ℕ)) (es : List t.External) → AreExternals levels names es
    → (n : ℕ) (i : Words) → Ascend n (externals_words es i)
    → Reads n i (λ m. (f : File) → Placed n m (externals es f))
externals_read levels names [] f n i h = record {
  end = n;
  low = omega arith;
  placed = λ g. none_placed n n g (Some _) (omega arith);
  rest = h;
}
externals_read levels names (e ∷ es) f n i h =
    let x = external_read levels names e f.0 n _ h in let a = x.low in
    let y = externals_read levels (names_after_external e names) es f.1 x.end i x.rest in let b = y.low in
    record {
      end = y.end;
      low = omega arith;
      placed = λ g. behind_placed n x.end x.end y.end (λ done. externals es) (omega arith) (x.placed g)
          (λ o u. y.placed u);
      rest = y.rest;
    }

-- the words of a text are numbered
numbered : (n : ℕ) (tokens : List Token) → Ascend n (positioned_from n tokens)
numbered n [] = tt
numbered n (token ∷ tokens) = (omega arith, numbered (suc n) tokens)

pub file_order : (u : t.Unit) (tokens : List Token) (f : File) → IsWellFormed u → unit_words u ≡ positioned tokens
    → AreInOrder 0 (externals u.externals f).violations
file_order u tokens f formed is =
    let x = externals_read 200 _ u.externals formed.1 0 [] (subst (Ascend 0) (sym is) (numbered 0 tokens)) in
    in_order 0 x.end (externals u.externals f).violations (x.placed f).order
