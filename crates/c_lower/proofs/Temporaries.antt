-- The code of a function as its code is said to be placed, and what temporaries hold.
use Rattle.std.proofs.Common.{◌≡◌, ◌≢◌, ℕ, ◌<◌, Bool, List, refl, ap, ◌∙◌, arith, eq-eqb}
use Rattle.std.proofs.Common.{ne_eqb}
use Rattle.std.specs.Prelude.{if◌then◌else◌}
use Rattle.c_tree.specs.declared.program.Variable.{Variable}
use Rattle.source_meaning.specs.State.{State, Rvalue}
use Rattle.tac_ir.specs.declared.function.Tac.{Tac}
use Rattle.tac_ir.specs.Stage.{Temps, with_temp, gathered}
use Rattle.tac_ir.specs.Meaning.{code_of, keys_of, blocks_in, loops_of, function_in}
use Rattle.c_lower.specs.Placed.{Placed}

-- the code of a function, by its number, over variables, where some static objects are string literals
abbrev pub placed : Tac → (function : ℕ) → (literals : List Bool) → List Variable → Placed
placed t u literals variables = record {
  code = code_of (function_in t u);
  keys = keys_of (function_in t u);
  blocks = blocks_in (function_in t u);
  loops = loops_of (function_in t u);
  texts = t.texts;
  literals = literals;
  variables = variables;
}

-- temporaries

pub put_same : (t : Temps) (d : ℕ) (v : Rvalue) → with_temp t d v d ≡ v
put_same t d v = ap (λ b. if b then v else t d) (eq-eqb d d refl)

pub put_other : (t : Temps) (d : ℕ) (v : Rvalue) (i : ℕ) → i ≢ d → with_temp t d v i ≡ t i
put_other t d v i ne = ap (λ b. if b then v else t i) (ne_eqb i d ne)

abbrev pub KeepsBelow : ℕ → (before after : Temps) → Type 0
KeepsBelow d before after = (i : ℕ) → i < d → after i ≡ before i

-- temporary d has the value, and those below it are as before
pub record ValueIn (d : ℕ) (before : Temps) (v : Rvalue) (temps : Temps) (s : State) : Type 0 where
  pub value : temps d ≡ v
  pub below : KeepsBelow d before temps

-- the values of arguments stand in the temporaries from d on
pub record ValuesIn (d : ℕ) (before : Temps) (n : ℕ) (vs : List Rvalue) (temps : Temps) (s : State) : Type 0 where
  pub values : gathered temps d n ≡ vs
  pub below : KeepsBelow d before temps

pub put_value : (d : ℕ) (v v' : Rvalue) (before t : Temps) (s : State) → v' ≡ v → KeepsBelow d before t
    → ValueIn d before v (with_temp t d v') s
put_value d v v' before t s e h = record {
  value = put_same t d v' ∙ e;
  below = λ i lt. put_other t d v' i (omega arith) ∙ h i lt;
}

-- another value in the same temporary
pub turned : {d : ℕ} {before : Temps} {v w : Rvalue} {t : Temps} {s s' : State} → v ≡ w → ValueIn d before v t s
    → ValueIn d before w t s'
turned e p = record { value = p.value ∙ e; below = p.below }

pub over : {d : ℕ} {before : Temps} {v w : Rvalue} {t t' : Temps} {s s' : State} → ValueIn d before v t s
    → ValueIn d t w t' s' → ValueIn d before w t' s'
over p q = record { value = q.value; below = λ i l. q.below i l ∙ p.below i l }
