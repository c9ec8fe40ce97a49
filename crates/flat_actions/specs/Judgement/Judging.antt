-- The judgement of an access in flat code.
use Rattle.std.specs.Prelude.{◌≡◌, ℕ, ◌≤◌, Bool, List, []}
use Rattle.sb_base.specs.declared.ending.Ending.{Ending}
use Rattle.sb_base.specs.declared.ending.Ending.TheVariants.{Spatial, Temporal}
use Rattle.sb_base.specs.Endings.{code_of, report_of}
use Rattle.addr_map.specs.Places.{AreMapped}
use Rattle.obj_memory.specs.declared.value.Value.{Value}
use Rattle.obj_memory.specs.declared.judgement.Verdict.{Verdict}
use Rattle.obj_memory.specs.declared.judgement.Verdict.TheVariants.{Outside, Dead, Inside}
use Rattle.obj_memory.specs.Objects.{Objects}
use Rattle.obj_memory.specs.Judgement.{judge}
use Rattle.obj_memory.specs.Sound.{IsSoundTag}
use Rattle.flat_code.specs.declared.instruction.FlatInstruction.{FlatInstruction}
use Rattle.flat_code.specs.State.{State}
use Rattle.flat_code.specs.declared.registers.Held.{Held}
use Rattle.flat_code.specs.Routines.Registers.{OthersStay}
use Rattle.flat_code.specs.Routines.Routine.{Does, Outcome, Continues, Halts}
use Rattle.flat_code.specs.Routines.Metadata.{ShowsNothing}
use Rattle.flat_code.specs.Routines.Objects.StandsFor.{Views, Keys, Spells, StandsFor}

-- the memory stands for the objects, and registers hold a pointer and a size
pub record IsToJudge (views : Views) (keys : Keys) (objects : Objects) (value : Value) (size : ℕ) (held : Held)
    (bytes : ℕ) (state : State)
    : Type 0 where
  pub stands : StandsFor views keys objects state.memory
  pub sound : IsSoundTag views.functions objects value.tag
  pub spells : Spells views keys value held state.values
  pub size_is : state.values bytes ≡ size
  pub some : 1 ≤ size

-- nothing but registers from scratch on changed
pub record IsSameBut (scratch : ℕ) (before after : State) : Type 0 where
  pub memory : after.memory ≡ before.memory
  pub shows : ShowsNothing before after
  pub others : OthersStay [] scratch before after

-- the run is over with an ending
abbrev pub EndsWith : Ending → (scratch status : ℕ) → (report : List ℕ) → (s s' : State) → Type 0
EndsWith e t status report s s' = (status ≡ code_of e) × (report ≡ report_of e) × IsSameBut t s s'

-- it ends just where the judgement is a violation, with that one
abbrev pub IsJudged : Verdict → (line scratch : ℕ) → State → Outcome → Type 0
IsJudged Outside line t s (Halts status report s') = EndsWith (Spatial line) t status report s s'
IsJudged Dead line t s (Halts status report s') = EndsWith (Temporal line) t status report s s'
IsJudged (Inside p) line t s (Halts status report s') = ⊥
IsJudged Outside line t s (Continues s') = ⊥
IsJudged Dead line t s (Continues s') = ⊥
IsJudged (Inside p) line t s (Continues s') = IsSameBut t s s'

-- Of whatever objects, under whatever map and form of the shadow space, in functions of the program and of the runtime:
-- within 10 steps the access is judged.
abbrev pub IsJudgeRoutine : Held → (size line scratch : ℕ) → List FlatInstruction → Type 0
IsJudgeRoutine h n line t r =
    (g : Views) (k : Keys) (objects : Objects) (v : Value) (size : ℕ) (runtime : Bool) (charge weight : ℕ)
    → AreMapped g.sizes
    → Does (record { sizes = g.sizes; is_runtime = runtime; charge = charge; weight = weight }) r
    (IsToJudge g k objects v size h n)
    (λ s. 10) (λ s. IsJudged (judge size v objects) line t s)
