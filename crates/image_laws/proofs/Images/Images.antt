-- An image does what its program means.
use Rattle.std.proofs.Common.{◌≡◌, ℕ, ◌<◌, List, [], ◌∷◌, Some, true, refl, sym, ap, subst, arith}
use Rattle.std.proofs.lemmas.Bool.{false≢true}
use Rattle.std.specs.List.{All, list_all}
use Rattle.behaviours.specs.Behaviour.{Behaviour, Follows, IsSource, IsMachine, Faithful}
use Rattle.behaviours.specs.Steps.{run, IsStepping}
use Rattle.sb_base.specs.Budgets.{BudgetSizes, AreInRange}
use Rattle.addr_map.specs.Places.{MapSizes, AreMapped}
use Rattle.c_tree.specs.Programs.{StaticObject, Program}
use Rattle.c_tree.specs.ValidProgram.{is_valid_program}
use Rattle.source_meaning.specs.Meaning.{meaning, statics_end}
use Rattle.source_meaning.proofs.ValidNames.{three}
use Rattle.tac_ir.specs.declared.function.Tac.{Tac}
use Rattle.tac_ir.specs.Meaning.{setting_of_code, tac_meaning}
use Rattle.compiled_programs.specs.Programs.{has_no_statics, gives_no_pointer, is_integer_function, is_integer_program}
use Rattle.metadata_plan.specs.Operators.{AreOperators}
use Rattle.metadata_plan.specs.Part.{IsIntegerCode}
use Rattle.metadata_plan.specs.Laid.{program_of}
use Rattle.metadata_plan.specs.OperatorLists.Operators.{operators}
use Rattle.metadata_expansion.specs.Homes.{homes}
use Rattle.metadata_expansion.specs.Numbers.{AreAllSmall}
use Rattle.flat_code.specs.declared.instruction.FlatInstruction.{FlatInstruction}
use Rattle.flat_code.specs.declared.function.FlatProgram.{FlatProgram}
use Rattle.flat_code.specs.Memory.{Bytes, AreBytes}
use Rattle.flat_code.specs.State.{Stage, Stuck, seen}
use Rattle.flat_code.specs.Meaning.{step, started, flat_meaning, instruction_at}
use Rattle.reg_plan.specs.declared.plan.FunctionPlan.{FunctionPlan}
use Rattle.reg_plan.specs.Tests.{AreAccepted}
use Rattle.rv_sim.specs.State.{MachineState}
use Rattle.rv_sim.specs.Behaviour.{behaviour}
use Rattle.machine_laws.specs.View.Segments.{Hold}
use Rattle.machine_laws.specs.Following.Matching.{object_bytes, space_bytes}
use Rattle.flat_propagation.specs.Propagated.{propagated}
use Rattle.rv_codegen.specs.MachineImages.Image.{IsImage, ImageFollows, filled, data_memory}
use Rattle.image_laws.specs.Images.Images.{HaveFewParameters, sizes_of, IsChecked, flat_code, DoesWhatIsMeant}
use Rattle.image_laws.proofs.Images.Instructions.{IsFit}
use Rattle.image_laws.proofs.Images.Programs.{instruction_fit, encodable, startable}
use Rattle.image_laws.proofs.Images.Following.{sizes_same, from_any, runs_from_any}
use Rattle.image_laws.proofs.Images.Meant.{file_small, does_what_is_meant as means}
use Rattle.image_laws.proofs.Propagation.Encodable.{propagated_encodable, propagated_startable}

-- ---- a program of integers has a map

pub no_statics : (p : Program) → is_integer_program p ≡ true → p.statics ≡ []
unfolding is_integer_program
no_statics p ints =
    none p.statics (three (has_no_statics p.statics) (list_all gives_no_pointer p.function_types)
    (list_all is_integer_function p.functions) ints).0
  where
    none : (os : List StaticObject) → has_no_statics os ≡ true → os ≡ []
    none [] e = refl
    none (o ∷ os) e = absurd (false≢true e)

pub no_bytes : (p : Program) → is_integer_program p ≡ true → statics_end p.statics 0 ≡ 0
no_bytes p ints = ap (λ os. statics_end os 0) (no_statics p ints)

pub integers_mapped : (p : Program) (budgets : BudgetSizes) → is_integer_program p ≡ true → AreInRange budgets
    → AreMapped (sizes_of p budgets)
integers_mapped p budgets ints range =
    let none = no_bytes p ints in record { budgets = range; globals = omega (arith, none) }

pub no_data : All (λ b. b < 256) []
no_data k d below = absurd (omega arith)

-- ---- the image

module _ (p : Program) (budgets : BudgetSizes) (mapped : AreMapped (sizes_of p budgets))
    (valid : is_valid_program p ≡ true) (ints : is_integer_program p ≡ true) (few : HaveFewParameters p) (r : Tac)
    (checked : IsChecked p r) (small : AreAllSmall (sizes_of p budgets) r) (ops : AreOperators operators)
    (part : IsIntegerCode r)
    (source : (input : List ℕ) → IsSource (meaning p budgets input))
    (lowered : (input : List ℕ) → Follows 8 (meaning p budgets input) (tac_meaning r budgets input))
    (steps : (m : MapSizes) (q : FlatProgram) → IsStepping (step m q) seen (λ (x : Stage). x ≡ Stuck))
    (same_run : (m : MapSizes) (q : FlatProgram) (memory : Bytes) (input : List ℕ) → AreBytes memory → (n : ℕ)
    → run (step m (propagated q)) n (started (propagated q) memory input) ≡ run (step m q) n (started q memory input))
    (same_meaning : (m : MapSizes) (q : FlatProgram) (memory : Bytes) (input : List ℕ) → AreBytes memory → (n : ℕ)
    → flat_meaning m (propagated q) memory input n ≡ flat_meaning m q memory input n) where
  abbrev m : MapSizes
  m = sizes_of p budgets

  abbrev code : FlatProgram
  code = program_of operators m r homes

  -- the map of the code is that of the program
  same : (setting_of_code r budgets).sizes ≡ sizes_of p budgets
  same = sizes_same p r checked budgets

  mapped_code : AreMapped (setting_of_code r budgets).sizes
  mapped_code = subst AreMapped (sym same) mapped

  fit : (u pc : ℕ) (i : FlatInstruction)
      → instruction_at (program_of operators (setting_of_code r budgets).sizes r homes) u pc ≡ Some i → IsFit i
  fit =
      instruction_fit (setting_of_code r budgets).sizes r mapped_code.budgets.calls.greatest
      (subst (λ n. AreAllSmall n r) (sym same) small)

  code_follows : (b : Bytes) (input : List ℕ) → Follows 168 (meaning p budgets input) (flat_meaning m code b input)
  code_follows b input =
      subst (λ n. Follows 168 (meaning p budgets input) (flat_meaning n (program_of operators n r homes) b input)) same
      (from_any r budgets mapped_code ops part (meaning p budgets input) (source input) 8 input (lowered input) steps
      fit b)

  code_runs : (b : Bytes) (input : List ℕ) (k : ℕ) → run (step m code) k (started code b input) ≡ Stuck → ⊥
  code_runs b input =
      subst (λ n. (k : ℕ) → run (step n (program_of operators n r homes)) k
      (started (program_of operators n r homes) b input) ≡ Stuck → ⊥) same
      (runs_from_any r budgets mapped_code ops part (meaning p budgets input) (source input) 8 input (lowered input)
      steps fit b)

  module _ (plans : List FunctionPlan) (file : List ℕ) (accepted : AreAccepted (flat_code m r) plans)
      (image : IsImage m (flat_code m r) plans [] [] file) (follows : ImageFollows m (flat_code m r) plans [] [] file)
      (held : Hold (object_bytes m) (space_bytes m)
      (data_memory (filled (object_bytes m) []) (filled (space_bytes m) []))
      (filled (object_bytes m) []) (filled (space_bytes m) []))
      (bytes : AreBytes (data_memory (filled (object_bytes m) []) (filled (space_bytes m) []))) where
    abbrev memory : Bytes
    memory = data_memory (filled (object_bytes m) []) (filled (space_bytes m) [])

    pub does_what_is_meant : ((s : MachineState) (input : List ℕ) → IsMachine (behaviour s input))
        → ((c : ℕ) (x y : Behaviour) → Follows c x y → IsSource x → IsMachine y → Faithful c x y)
        → DoesWhatIsMeant p budgets file
    does_what_is_meant =
        means p budgets source m code [] [] same_run same_meaning bytes (code_follows memory) (code_runs memory) plans
        file accepted image follows held
        (propagated_encodable m code (encodable p m r mapped valid ints few checked small))
        (propagated_startable m code (startable m r))
        (file_small m (flat_code m r) plans [] [] file (omega arith) (omega arith) image)
