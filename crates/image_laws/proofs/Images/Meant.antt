-- An image of flat code that follows a program does what the program means.
use Rattle.std.proofs.Common.{◌≡◌, ℕ, ◌^◌, ◌≤◌, List, length, sym, ap, ◌∙◌, arith}
use Rattle.behaviours.specs.Behaviour.{Behaviour, Follows, IsSource, IsMachine, Faithful}
use Rattle.behaviours.specs.Steps.{run}
use Rattle.behaviours.proofs.Following.{follows_trans}
use Rattle.sb_base.specs.Budgets.{BudgetSizes}
use Rattle.addr_map.specs.Places.{MapSizes}
use Rattle.c_tree.specs.Programs.{Program}
use Rattle.source_meaning.specs.Meaning.{meaning}
use Rattle.flat_code.specs.declared.function.FlatProgram.{FlatProgram}
use Rattle.flat_code.specs.Memory.{Bytes, AreBytes}
use Rattle.flat_code.specs.State.{Stuck}
use Rattle.flat_code.specs.Meaning.{step, started, flat_meaning}
use Rattle.flat_propagation.specs.Propagated.{propagated}
use Rattle.reg_plan.specs.declared.plan.FunctionPlan.{FunctionPlan}
use Rattle.reg_plan.specs.Tests.{AreAccepted}
use Rattle.rv_sim.specs.State.{MachineState}
use Rattle.rv_sim.specs.Behaviour.{behaviour}
use Rattle.rv_sim.specs.Start.{start_of}
use Rattle.machine_laws.specs.View.Segments.{Hold}
use Rattle.machine_laws.specs.Following.Code.{IsEncodable}
use Rattle.machine_laws.specs.Following.Matching.{object_bytes, space_bytes}
use Rattle.machine_laws.specs.Following.Start.{IsStartable}
use Rattle.machine_laws.specs.Segments.Segments.{table_words, code_words}
use Rattle.machine_laws.proofs.CodeLayout.Bytes.{bytes_length}
use Rattle.elf_image.specs.Layout.{content_of}
use Rattle.elf_image.proofs.Pages.{length-image_bytes}
use Rattle.rv_codegen.specs.MachineImages.Image.{written, IsImage, ImageFollows, filled, data_memory}
use Rattle.image_laws.specs.Images.Images.{DoesWhatIsMeant}
use Rattle.image_laws.proofs.Images.Memories.{follows_same}

-- ---- costs

-- what is within the cost is within the one that is promised
within_promised : (x y : Behaviour) → Follows 1008 x y → Follows 1024 x y
within_promised x y f = record {
  at = λ n.
      let h = f.at n in
      (h.0, record { shown = h.1.shown; turns = h.1.turns; work = let few = h.1.work in omega (arith, few) });
}

-- ---- the file

-- code and data leave it below the largest image that is read
pub file_small : (m : MapSizes) (code : FlatProgram) (plans : List FunctionPlan) (objects spaces file : List ℕ)
    → length objects ≤ 0x400000 → length spaces ≤ 2 ^ 25 → IsImage m code plans objects spaces file
    → length file ≤ 67108864
unfolding written
file_small m code plans objects spaces file few_objects few_spaces image =
    let size = ap length image.file_is ∙ length-image_bytes (written m code plans objects spaces) in
    let table = bytes_length (table_words m code plans) in
    let compiled = bytes_length (code_words m code plans) in
    let table_fits = image.fits.table in
    let code_fits = image.fits.code in
    omega (arith, size, table, compiled, table_fits, code_fits, few_objects, few_spaces)

module _ (p : Program) (budgets : BudgetSizes) (source : (input : List ℕ) → IsSource (meaning p budgets input))
    (m : MapSizes) (code : FlatProgram) (objects spaces : List ℕ)
    (same_run : (m : MapSizes) (q : FlatProgram) (memory : Bytes) (input : List ℕ) → AreBytes memory → (n : ℕ)
    → run (step m (propagated q)) n (started (propagated q) memory input) ≡ run (step m q) n (started q memory input))
    (same_meaning : (m : MapSizes) (q : FlatProgram) (memory : Bytes) (input : List ℕ) → AreBytes memory → (n : ℕ)
    → flat_meaning m (propagated q) memory input n ≡ flat_meaning m q memory input n) where
  -- the memory that has the data
  abbrev memory : Bytes
  memory = data_memory (filled (object_bytes m) objects) (filled (space_bytes m) spaces)

  module _ (bytes : AreBytes memory)
      (code_follows : (input : List ℕ) → Follows 168 (meaning p budgets input) (flat_meaning m code memory input))
      (code_runs : (input : List ℕ) (k : ℕ) → run (step m code) k (started code memory input) ≡ Stuck → ⊥) where
    -- values are carried to where they are used
    flat_follows : (input : List ℕ)
        → Follows 168 (meaning p budgets input) (flat_meaning m (propagated code) memory input)
    flat_follows input =
        follows_same 168 (meaning p budgets input) (flat_meaning m code memory input)
        (flat_meaning m (propagated code) memory input) (code_follows input) (same_meaning m code memory input bytes)

    flat_runs : (input : List ℕ) (k : ℕ)
        → run (step m (propagated code)) k (started (propagated code) memory input) ≡ Stuck → ⊥
    flat_runs input k e = code_runs input k (sym (same_run m code memory input bytes k) ∙ e)

    module _ (plans : List FunctionPlan) (file : List ℕ) (accepted : AreAccepted (propagated code) plans)
        (image : IsImage m (propagated code) plans objects spaces file)
        (follows : ImageFollows m (propagated code) plans objects spaces file)
        (held : Hold (object_bytes m) (space_bytes m) memory (filled (object_bytes m) objects)
        (filled (space_bytes m) spaces))
        (encodable : IsEncodable (propagated code)) (startable : IsStartable m (propagated code))
        (small : length file ≤ 67108864) where
      image_follows : (input : List ℕ)
          → Follows 1008 (meaning p budgets input) (behaviour (start_of (content_of file)) input)
      image_follows input =
          follows_trans 168 6 (meaning p budgets input) (flat_meaning m (propagated code) memory input)
          (behaviour (start_of (content_of file)) input) (flat_follows input)
          (follows.follows memory input accepted encodable startable held bytes (flat_runs input))

      pub does_what_is_meant : ((s : MachineState) (input : List ℕ) → IsMachine (behaviour s input))
          → ((c : ℕ) (x y : Behaviour) → Follows c x y → IsSource x → IsMachine y → Faithful c x y)
          → DoesWhatIsMeant p budgets file
      does_what_is_meant machine faithful = record {
        size = small;
        readable = image.passes;
        follows = image_follows;
        faithful = λ input.
            faithful 1024 (meaning p budgets input) (behaviour (start_of (content_of file)) input)
            (within_promised (meaning p budgets input) (behaviour (start_of (content_of file)) input)
            (image_follows input)) (source input) (machine (start_of (content_of file)) input);
      }
