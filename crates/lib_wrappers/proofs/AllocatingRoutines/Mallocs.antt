-- `malloc` as an action.
use Rattle.std.proofs.Common.{ℕ, ◌+◌, ◌*◌, List, [], ◌∷◌, length}
use Rattle.addr_map.specs.Places.{MapSizes}
use Rattle.obj_memory.specs.declared.value.Value.{Value}
use Rattle.source_meaning.specs.Heap.{malloc}
use Rattle.source_meaning.specs.Library.{argument}
use Rattle.flat_code.specs.declared.instruction.FlatInstruction.{FlatInstruction}
use Rattle.flat_code.specs.Memory.{Bytes}
use Rattle.flat_code.specs.State.{State}
use Rattle.flat_code.specs.Words.{IsOfWords}
use Rattle.flat_code.specs.Meaning.{Goes}
use Rattle.flat_code.specs.declared.registers.Held.{Held}
use Rattle.flat_code.specs.Routines.Routine.{HasAt, Reaches}
use Rattle.flat_code.specs.Routines.Metadata.{View}
use Rattle.flat_actions.specs.Actions.{IsFor, Word, Pointer, AreHeldBy, Leaves, views_of, context_in, work_of}
use Rattle.flat_actions.specs.Actions.{runtime_basis}
use Rattle.lib_wrappers.specs.AllocatingRoutines.Premises.{AreStanding}
use Rattle.lib_wrappers.specs.AllocatingRoutines.Allocating.{IsAllocateRoutine, IsMallocRoutine}

pub malloc_does : (map : MapSizes) (entry : View) (IsGood : Bytes → Type 0) (size : ℕ) (into : Held) (line t : ℕ)
    (r : List FlatInstruction) → IsAllocateRoutine map entry IsGood size into line t r
    → IsMallocRoutine map entry IsGood size into line t r
malloc_does map entry IsGood size into line t r allocates set same functions types k x vs charge weight =
    record { from = λ code pc s has w p. by vs code pc s has w p.0 p.1 p.2 }
  where
    by : (vs : List Value) (code : List FlatInstruction) (pc : ℕ) (s : State) → HasAt code pc r → IsOfWords s
        → IsFor (views_of map functions types entry) k IsGood x s
        → AreHeldBy (views_of map functions types entry) k x.objects (Word size ∷ []) vs s.values → AreStanding map x
        → Reaches (context_in (runtime_basis map entry IsGood) charge weight) code
        (60 + 20 * work_of (malloc set (argument 0 vs) line) x) (Goes pc s) (pc + length r)
        (Leaves (views_of map functions types entry) k IsGood (Pointer into) t x s (malloc set (argument 0 vs) line x))
    by [] code pc s has w f held standing = absurd held
    by (v ∷ []) code pc s has w f held standing =
        (allocates set same functions types k x v.word charge weight).from code pc s has w (f, held.0, standing)
    by (v ∷ u ∷ vs) code pc s has w f held standing = absurd held.1
