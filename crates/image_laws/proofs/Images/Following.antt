-- The flat code of a program follows it, from any memory.
use Rattle.std.proofs.Common.{◌≡◌, ℕ, ◌*◌, List, Some, refl, sym, ap, ◌∙◌, subst}
use Rattle.behaviours.specs.Behaviour.{Behaviour, Follows, IsSource}
use Rattle.behaviours.specs.Steps.{run, IsStepping}
use Rattle.sb_base.specs.Budgets.{BudgetSizes}
use Rattle.addr_map.specs.Places.{MapSizes, AreMapped}
use Rattle.c_tree.specs.Programs.{Program}
use Rattle.source_meaning.specs.Places.{statics_first}
use Rattle.tac_ir.specs.declared.function.Tac.{Tac}
use Rattle.tac_ir.specs.Meaning.{setting_of_code, objects_before, tac_meaning}
use Rattle.flat_code.specs.declared.instruction.FlatInstruction.{FlatInstruction}
use Rattle.flat_code.specs.declared.function.FlatProgram.{FlatProgram}
use Rattle.flat_code.specs.Memory.{Bytes}
use Rattle.flat_code.specs.State.{Stage, Stuck, seen}
use Rattle.flat_code.specs.Meaning.{step, started, flat_meaning, instruction_at}
use Rattle.flat_code.specs.Routines.Objects.Start.{IsStart}
use Rattle.metadata_plan.specs.Operators.{AreOperators}
use Rattle.metadata_plan.specs.Part.{IsIntegerCode}
use Rattle.metadata_plan.specs.Laid.{address_of, program_of}
use Rattle.metadata_plan.proofs.Following.{source_followed, expansion_runs}
use Rattle.metadata_plan.proofs.Laying.{program_expands}
use Rattle.metadata_plan.specs.OperatorLists.Operators.{operators}
use Rattle.metadata_expansion.specs.Homes.{homes}
use Rattle.image_laws.specs.Images.Images.{sizes_of, IsChecked}
use Rattle.image_laws.proofs.Images.Checks.{same_as_lowered}
use Rattle.image_laws.proofs.Images.Instructions.{IsFit}
use Rattle.image_laws.proofs.Images.Memories.{meaning_same, never_stuck, follows_same}
use Rattle.image_laws.proofs.Images.Starting.{no_views, locked, no_objects_start, locked_bytes, none_placed}

pub sizes_same : (p : Program) (r : Tac) → IsChecked p r → (budgets : BudgetSizes)
    → (setting_of_code r budgets).sizes ≡ sizes_of p budgets
sizes_same p r checked budgets =
    ap {B = MapSizes} (λ n. record { budgets = budgets; global_bytes = n })
    ((same_as_lowered p r checked).tables.bytes ∙ checked.is_lowered.bytes)

-- what comes of code of integers that follows a source
module _ (r : Tac) (budgets : BudgetSizes) (mapped : AreMapped (setting_of_code r budgets).sizes)
    (ops : AreOperators operators) (part : IsIntegerCode r) (a : Behaviour) (source : IsSource a) (c : ℕ)
    (input : List ℕ) (followed : Follows c a (tac_meaning r budgets input)) where
  abbrev sizes : MapSizes
  sizes = (setting_of_code r budgets).sizes

  abbrev code : FlatProgram
  code = program_of operators sizes r homes

  start : IsStart (no_views sizes) (objects_before r (setting_of_code r budgets)) (locked sizes)
  start =
      subst (λ objects. IsStart (no_views sizes) objects (locked sizes))
      (sym (none_placed (statics_first (setting_of_code r budgets)) r.statics part.statics))
      (no_objects_start sizes mapped)

  from_locked : Follows (21 * c) a (flat_meaning sizes code (locked sizes) input)
  from_locked =
      source_followed operators ops r part budgets (address_of operators sizes r) code
      (program_expands operators sizes r homes) mapped (no_views sizes) (locked sizes) refl start (locked_bytes sizes)
      input c a source followed

  runs_from_locked : ((m : MapSizes) (p : FlatProgram) → IsStepping (step m p) seen (λ (x : Stage). x ≡ Stuck))
      → (k : ℕ) → run (step sizes code) k (started code (locked sizes) input) ≡ Stuck → ⊥
  runs_from_locked steps =
      expansion_runs operators ops r part budgets (address_of operators sizes r) code
      (program_expands operators sizes r homes) mapped (no_views sizes) (locked sizes) refl start (locked_bytes sizes)
      input c a source followed (steps sizes code)

  module _ (steps : (m : MapSizes) (p : FlatProgram) → IsStepping (step m p) seen (λ (x : Stage). x ≡ Stuck))
      (fit : (u pc : ℕ) (i : FlatInstruction) → instruction_at code u pc ≡ Some i → IsFit i) (b : Bytes) where
    pub from_any : Follows (21 * c) a (flat_meaning sizes code b input)
    from_any =
        follows_same (21 * c) a (flat_meaning sizes code (locked sizes) input) (flat_meaning sizes code b input)
        from_locked (meaning_same b sizes code fit (locked sizes) input)

    pub runs_from_any : (k : ℕ) → run (step sizes code) k (started code b input) ≡ Stuck → ⊥
    runs_from_any = never_stuck b sizes code fit (locked sizes) input (runs_from_locked steps)
