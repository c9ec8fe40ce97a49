-- What a function that reads ensures, where its result is known.
use Rattle.std.proofs.Common.{◌≡◌, ℕ, suc, ◌+◌, ◌<◌, Result, Ok, Err, IfOk, subst, ap, sym, ◌∙◌, arith}
use Rattle.c_syntax.specs.Words.{Words}
use Rattle.c_grammar.specs.declared.cursor.Fault.{Fault}
use Rattle.c_grammar.specs.Reader.{Outcome}
use Rattle.c_grammar.specs.Reads.{Fails, Reads}
use Rattle.c_expressions.specs.declared.leveled.Leveled.{Leveled}
use Rattle.c_expressions.specs.LeveledReads.{ReadsLeveled, Below, IsAbove, IsAlone}

pub given : {A B : Type 0} (view : A → B) (levels : B → ℕ) (n : ℕ) (o : Outcome B) (r : Result (Leveled A) Fault)
    (new : Words) (a : Leveled A) →
    ReadsLeveled view levels n o r new → r ≡ Ok a → (o ≡ Ok (view a.tree, new))
    × Below n a.levels (levels (view a.tree))
given view levels n o r new a h e = subst (λ r. ReadsLeveled view levels n o r new) e h

pub failed : {A B : Type 0} (view : A → B) (levels : B → ℕ) (n : ℕ) (o : Outcome B) (r : Result (Leveled A) Fault)
    (new : Words) (fault : Fault) →
    ReadsLeveled view levels n o r new → r ≡ Err fault → Fails o fault new
failed view levels n o r new fault h e = subst (λ r. ReadsLeveled view levels n o r new) e h

-- the same without levels
pub read : {A B : Type 0} (view : A → B) (o : Outcome B) (r : Result A Fault) (new : Words) (a : A) → Reads view o r new
    → r ≡ Ok a → o ≡ Ok (view a, new)
read view o r new a h e = subst (λ r. Reads view o r new) e h

pub refused : {A B : Type 0} (view : A → B) (o : Outcome B) (r : Result A Fault) (new : Words) (fault : Fault)
    → Reads view o r new → r ≡ Err fault → Fails o fault new
refused view o r new fault h e = subst (λ r. Reads view o r new) e h

-- what holds of each value that comes
pub of_ok : {A E : Type 0} (P : A → Type 0) (r : Result A E) (a : A) → IfOk r P → r ≡ Ok a → P a
of_ok P r a h e = subst (λ r. IfOk r P) e h

-- a tree above others
pub stands_above : {A B : Type 0} (view : A → B) (levels : B → ℕ) (n l : ℕ) (t : A) (r : Result (Leveled A) Fault)
    (i : Words) → IsAbove t l r → n < 18446744073709551616 → levels (view t) ≡ l + 1 → l < n
    → ReadsLeveled view levels (suc n) (Ok (view t, i)) r i
stands_above view levels n l t (Ok a) i is fits real low =
    let e = is.1 (omega (arith, low, fits)) in (
      ap (λ t. Ok (view t, i)) (sym is.0),
      record { said_levels = e ∙ sym real ∙ ap (λ t. levels (view t)) (sym is.0); low = omega (arith, e, low) },
    )
stands_above view levels n l t (Err e) i is fits real low = subst (λ e. Fails (Ok (view t, i)) e i) (sym is) tt

-- a tree without others
pub stands_alone : {A B : Type 0} (view : A → B) (levels : B → ℕ) (n : ℕ) (t : A) (r : Result (Leveled A) Fault)
    (i : Words) → IsAlone t r → levels (view t) ≡ 0 → ReadsLeveled view levels (suc n) (Ok (view t, i)) r i
stands_alone view levels n t (Ok a) i is real = (
  ap (λ t. Ok (view t, i)) (sym is.0),
  record { said_levels = is.1 ∙ sym real ∙ ap (λ t. levels (view t)) (sym is.0); low = omega (arith, is.1) },
)
stands_alone view levels n t (Err e) i is real = subst (λ e. Fails (Ok (view t, i)) e i) (sym is) tt
