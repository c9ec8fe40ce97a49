-- One more suffix of a declarator, and the end.
use Rattle.std.proofs.Common.{◌≡◌, ℕ, zero, suc, true, false, ◌&&◌, nat_lt, List, [], ◌∷◌, Ok, refl, sym, ap, ◌∙◌}
use Rattle.std.proofs.lemmas.Bool.{false≢true}
use Rattle.c_syntax.specs.Tree.{Declarator}
use Rattle.c_syntax.specs.Levels.{declarator_levels}
use Rattle.c_syntax.specs.Words.{Words}
use Rattle.c_grammar.specs.Reader.{Outcome, next_is}
use Rattle.c_grammar.specs.Readers.{Readers}
use Rattle.c_grammar.specs.DeclaratorReader.{begins_suffix, suffixes_from}
use Rattle.c_grammar.specs.Reads.{Fails}
use Rattle.c_expressions.specs.Steps.{suffix_next}
use Rattle.c_grammar.specs.declared.cursor.Fault.{Fault}
use Rattle.c_grammar.specs.declared.cursor.Fault.TheVariants.{Memory, Refused}

module _ (names : List (List ℕ)) (deeper : Readers) (levels : ℕ) where
  pub suffix_turn : (n : ℕ) (e d : Declarator) (i new : Words) (said : ℕ) → said ≡ declarator_levels e
      → next_is begins_suffix i && nat_lt said levels ≡ true
      → suffix_next names deeper levels e i ≡ Ok (d, new) → suffixes_from names deeper levels (suc n) e i
      ≡ suffixes_from names deeper levels n d new
  unfolding suffixes_from
  suffix_turn n e d [] new said is test one = absurd (false≢true test)
  suffix_turn n e d (first ∷ i) new said is test one =
      let here : begins_suffix first.kind && nat_lt (declarator_levels e) levels ≡ true =
      ap (λ l. begins_suffix first.kind && nat_lt l levels) (sym is) ∙ test in
      rw (here, one) refl

  -- the suffix is refused
  pub suffix_fails : (n : ℕ) (e : Declarator) (i new : Words) (said : ℕ) (o : Outcome Declarator) (f : Fault)
      → o ≡ suffixes_from names deeper levels (suc n) e i
      → said ≡ declarator_levels e → next_is begins_suffix i && nat_lt said levels ≡ true
      → Fails (suffix_next names deeper levels e i) f new → Fails o f new
  unfolding suffixes_from
  suffix_fails n e i new said o Memory read is test one = tt
  suffix_fails n e [] new said o Refused read is test one = absurd (false≢true test)
  suffix_fails n e (first ∷ i) new said o Refused read is test one =
      let here : begins_suffix first.kind && nat_lt (declarator_levels e) levels ≡ true =
      ap (λ l. begins_suffix first.kind && nat_lt l levels) (sym is) ∙ test in
      read ∙ rw (here, one) refl

  -- there is no more suffix
  pub suffix_end : (n : ℕ) (e : Declarator) (i : Words) (said : ℕ) → said ≡ declarator_levels e
      → next_is begins_suffix i && nat_lt said levels ≡ false
      → suffixes_from names deeper levels n e i ≡ Ok (e, i)
  unfolding suffixes_from
  suffix_end zero e i said is test = refl
  suffix_end (suc n) e [] said is test = refl
  suffix_end (suc n) e (first ∷ i) said is test =
      let here : begins_suffix first.kind && nat_lt (declarator_levels e) levels ≡ false =
      ap (λ l. begins_suffix first.kind && nat_lt l levels) (sym is) ∙ test in
      rw here refl

  -- the count has ended
  pub suffix_done : (e : Declarator) (i : Words) → suffixes_from names deeper levels 0 e i ≡ Ok (e, i)
  unfolding suffixes_from
  suffix_done e i = refl
