-- The machine with the code that is generated follows flat code.
use Rattle.std.proofs.Common.{◌≡◌, ℕ, List, arith}
use Rattle.addr_map.specs.Places.{MapSizes, AreMapped}
use Rattle.addr_map.specs.declared.region.Region.TheVariants.{Heap, RuntimeCalls}
use Rattle.addr_map.proofs.Order.{objects_inside, ends_low}
use Rattle.behaviours.specs.Behaviour.{Follows}
use Rattle.behaviours.specs.Steps.{run}
use Rattle.flat_code.specs.declared.function.FlatProgram.{FlatProgram}
use Rattle.flat_code.specs.Memory.{Bytes, AreBytes}
use Rattle.flat_code.specs.State.{Stuck}
use Rattle.flat_code.specs.Meaning.{step, started, flat_meaning}
use Rattle.reg_plan.specs.declared.plan.FunctionPlan.{FunctionPlan}
use Rattle.reg_plan.specs.Tests.{AreAccepted}
use Rattle.rv_asm.specs.declared.item.Item.{Item}
use Rattle.rv_asm.specs.Forms.{IsAssemblable}
use Rattle.rv_asm.specs.Words.{Assembled, words_of}
use Rattle.rv_sim.specs.Behaviour.{behaviour}
use Rattle.machine_laws.specs.View.Segments.{Hold}
use Rattle.machine_laws.specs.View.Views.{Fits}
use Rattle.machine_laws.specs.Following.Code.{IsEncodable}
use Rattle.machine_laws.specs.Following.Matching.{object_bytes, space_bytes}
use Rattle.machine_laws.specs.Following.Start.{layout_of, IsStartable, begins}
use Rattle.machine_laws.proofs.Following.Follows.{machine_follows}
use Rattle.machine_laws.specs.Layout.Lists.{bytes_of, address_in}
use Rattle.machine_laws.proofs.CodeLayout.Bytes.{bytes_length}
use Rattle.machine_laws.proofs.CodeLayout.Laid.{laid}
use Rattle.machine_laws.specs.Segments.Segments.{begin, function_words, code_words, table_words}
use Rattle.machine_laws.specs.Segments.Segments.{FitsSegments}
use Rattle.machine_laws.specs.Calls.Table.{start_address}
use Rattle.machine_laws.proofs.Segments.Placed.{place, placed, start_is_there}

pub segments_fit : (m : MapSizes) (p : FlatProgram) (plans : List FunctionPlan) → AreMapped m
    → FitsSegments m p plans
    → Fits (layout_of m (bytes_of (table_words m p plans)) (bytes_of (code_words m p plans)))
segments_fit m p plans mapped fits =
    let a = bytes_length (table_words m p plans) in
    let b = bytes_length (code_words m p plans) in
    let table = fits.table in
    let code = fits.code in
    let heap = objects_inside m mapped Heap (omega arith) (omega arith) in
    let heap_begins = heap.0 in
    let heap_ends = heap.1 in
    let calls = ends_low m mapped RuntimeCalls in
    record {
      table_fits = omega arith;
      code_fits = omega arith;
      objects_fit = omega arith;
      spaces_fit = omega arith;
    }

pub generated_follows : ((items : List Item) → IsAssemblable items → Assembled items (words_of items))
    → (m : MapSizes) (p : FlatProgram) (plans : List FunctionPlan) (objects spaces : List ℕ) (memory : Bytes)
    (input : List ℕ) → AreMapped m → AreAccepted p plans → IsEncodable p → IsStartable m p
    → FitsSegments m p plans → Hold (object_bytes m) (space_bytes m) memory objects spaces → AreBytes memory
    → ((k : ℕ) → run (step m p) k (started p memory input) ≡ Stuck → ⊥)
    → Follows 6 (flat_meaning m p memory input)
    (behaviour
    (begins (start_address p) (bytes_of (table_words m p plans)) (bytes_of (code_words m p plans)) objects spaces)
    input)
generated_follows meet m p plans objects spaces memory input mapped accepted encodable startable fits hold bytes fine =
    machine_follows m p plans (bytes_of (table_words m p plans)) (bytes_of (code_words m p plans))
    (address_in m p plans (begin m p plans) (place meet m p plans fits)) (begin m p plans)
    (start_address p) objects spaces
    memory input mapped accepted encodable startable (segments_fit m p plans mapped fits)
    (laid m p plans (layout_of m (bytes_of (table_words m p plans)) (bytes_of (code_words m p plans)))
    (begin m p plans) (function_words m p plans) (place meet m p plans fits) (placed meet m p plans fits))
    (start_is_there meet m p plans fits) hold bytes fine
