-- What is computed without a state, as a run.
use Rattle.std.specs.Prelude.{◌≡◌, ℕ, Bool, true, false, List, [], ◌∷◌, Option, Some, None}
use Rattle.sb_base.specs.declared.ending.Ending.TheVariants.{Divide}
use Rattle.obj_memory.specs.declared.value.Value.{Value}
use Rattle.source_meaning.specs.State.{Run, done, stop}

-- a value, or the end of the run by a division at a line
abbrev pub value_or_end : Option Value → (line : ℕ) → Run Value
value_or_end None line = stop (Divide line)
value_or_end (Some v) line = done v

-- the first of a list, if there is one, was taken away
abbrev pub PopsTo : {A : Type 0} → (old new : List A) → Option A → Type 0
PopsTo old new None = (old ≡ []) × (new ≡ [])
PopsTo old new (Some x) = old ≡ x ∷ new

-- whether there is one
abbrev pub is_there : {A : Type 0} → Option A → Bool
is_there None = false
is_there (Some x) = true
