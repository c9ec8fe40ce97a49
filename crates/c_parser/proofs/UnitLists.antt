-- The function definitions and declarations of a file, as a list that grows at its end.
use Rattle.std.proofs.Common.{◌≡◌, ℕ, suc, ◌==◌, true, false, List, [], ◌∷◌, ◌++◌, length, Ok, refl, sym, ap, ◌∙◌}
use Rattle.std.proofs.Common.{arith}
use Rattle.std.proofs.lemmas.Bool.{eqb-true, true≢false}
use Rattle.c_lexer.specs.declared.punctuator.Punctuator.TheVariants as p
use Rattle.c_syntax.specs.declared.statement.External as re
use Rattle.c_syntax.specs.Tree.{Specifiers, Declarator}
use Rattle.c_syntax.specs.Statements.{External}
use Rattle.c_syntax.specs.Words.{Words}
use Rattle.c_syntax.specs.Formed.{names_after_external}
use Rattle.c_syntax.specs.StatementsView.{external_of, externals_in}
use Rattle.c_grammar.specs.Reader.{Outcome, next_is_punctuator}
use Rattle.c_grammar.specs.Nested.{readers}
use Rattle.c_grammar.specs.UnitReader.{external_behind, external_from, externals_from}
use Rattle.c_grammar.specs.declared.declarator_kind.DeclaratorKind.TheVariants as kind
use Rattle.c_grammar.specs.Reads.{Fails}
use Rattle.c_grammar.specs.declared.cursor.Fault.{Fault}
use Rattle.c_grammar.specs.declared.cursor.Fault.TheVariants.{Memory, Refused}
use Rattle.c_grammar.proofs.Extending.{extending, extended, extending_one, map_one}

module _ (levels : ℕ) where
  -- one more of the code's list
  pub external_turn : (n : ℕ) (names : List (List ℕ)) (xs : List re.External) (x : re.External) (i new : Words)
      → (length i == 0) ≡ false → external_from levels names i ≡ Ok (external_of x, new)
      → extending (externals_in xs) (externals_from levels (suc n) names i)
      ≡ extending (externals_in (xs ++ x ∷ [])) (externals_from levels n (names_after_external (external_of x) names)
      new)
  unfolding externals_from
  external_turn n names xs x [] new some one = absurd (true≢false some)
  external_turn n names xs x (first ∷ i) new some one =
      rw one (rw (map_one external_of xs x) (extending_one (externals_in xs) (external_of x)
      (externals_from levels n (names_after_external (external_of x) names) new)))

  -- no further one could be read
  pub external_fails : (n : ℕ) (names : List (List ℕ)) (xs : List External) (i new : Words)
      (o : Outcome (List External)) (e : Fault)
      → o ≡ extending xs (externals_from levels (suc n) names i) → (length i == 0) ≡ false
      → Fails (external_from levels names i) e new → Fails o e new
  unfolding externals_from
  external_fails n names xs i new o Memory read some one = tt
  external_fails n names xs [] new o Refused read some one = absurd (true≢false some)
  external_fails n names xs (first ∷ i) new o Refused read some one = read ∙ rw one refl

  -- no word is left
  pub externals_end : (n : ℕ) (names : List (List ℕ)) (xs : List External) (i : Words) → (length i == 0) ≡ true
      → extending xs (externals_from levels n names i) ≡ Ok (xs, i)
  unfolding externals_from
  externals_end n names xs [] none = extended xs []
  externals_end n names xs (first ∷ i) none = let h : suc (length i) ≡ 0 = eqb-true (suc (length i)) 0 none in
      absurd (omega arith)

-- what is no declaration without declarators
pub external_is : (levels n : ℕ) (names : List (List ℕ)) (i j r : Words) (z : Specifiers) (d : Declarator)
    → n ≡ suc levels
    → (readers names n).specifiers true i ≡ Ok (z, j) → next_is_punctuator p.Semicolon j ≡ false
    → (readers names (suc levels)).declarator kind.Named j ≡ Ok (d, r)
    → external_behind levels names z d r ≡ external_from levels names i
unfolding external_from
external_is levels n names i j r z d e first none named =
    let first' = ap (λ n. (readers names n).specifiers true i) (sym e) ∙ first in
    rw (first', none, named) refl
