-- A part of contents that is taken to an area is what the run of the source gives.
use Rattle.std.proofs.Common.{◌≡◌, ℕ, ◌+◌, ◌-◌, ◌*◌, ◌/◌, List, sym, ◌∙◌}
use Rattle.std.proofs.Common.{subst, arith, Some}
use Rattle.addr_map.specs.Places.{MapSizes, AreMapped}
use Rattle.source_meaning.specs.Structures.{taken}
use Rattle.flat_code.specs.declared.instruction.FlatInstruction.{FlatInstruction}
use Rattle.flat_code.specs.Memory.{Bytes, KeepsBut}
use Rattle.flat_code.specs.State.{State}
use Rattle.flat_code.specs.declared.registers.Held.{Held}
use Rattle.flat_code.specs.Routines.Routine.{Outcome, Continues, Halts, Either, Never}
use Rattle.flat_code.specs.Routines.Metadata.{View}
use Rattle.flat_code.proofs.Routines.Words.{IsLocal}
use Rattle.flat_actions.specs.Actions.{IsFor, views_of}
use Rattle.lib_wrappers.proofs.MovingRoutines.Steps.{does_weaken}
use Rattle.lib_wrappers.proofs.MovingRoutines.Bytes.{in_runtime}
use Rattle.lib_wrappers.specs.AreaRoutines.Areas.{area_bytes}
use Rattle.lib_wrappers.specs.AreaRoutines.Moving.{IsToMoveArea, HasMovedArea, IsMoveAreaRoutine}
use Rattle.lib_wrappers.specs.AreaRoutines.Values.{LeavesArea, work_from}
use Rattle.lib_wrappers.specs.AreaRoutines.Parts.{IsToTakePart, IsTakePartRoutine}
use Rattle.lib_wrappers.proofs.AreaRoutines.Contents.{area_from, contents_size}
use Rattle.lib_wrappers.proofs.AreaRoutines.Values.{stands_beside}

pub takes_parts : (map : MapSizes) → AreMapped map → (entry : View) (IsGood : Bytes → Type 0)
    → IsLocal map entry IsGood → (to : ℕ) (h : Held) (bytes t : ℕ) (r : List FlatInstruction)
    → IsMoveAreaRoutine map to h bytes t r → IsTakePartRoutine map entry IsGood to h bytes t r
takes_parts map mapped entry IsGood local to h bytes t r moves functions types k x c v size line a charge weight =
    let g = views_of map functions types entry in
    let e : (x.work + size) - x.work ≡ size = omega arith in
    let work : work_from (taken (Some c) size v line) x ≡ size = e in
    let P : State → Type 0 = λ f. IsFor g k IsGood x f × IsToTakePart g k x c v.word size a to h bytes f in
    does_weaken (in_runtime map charge weight) r (40 + 13 * size) (40 + 13 * work_from (taken (Some c) size v line) x)
    (IsToMoveArea map to h bytes size c.size v.word a) P
    (λ f. Either (HasMovedArea to size c.size v.word a t f) Never)
    (λ f. LeavesArea g k IsGood (f.values to) t f (taken (Some c) size v line x)) (omega arith)
    (λ f p. p.1.ready) (λ f y p m. by f p.0 p.1 y m) (moves size c.size v.word a charge weight)
  where
    by : (f : State) → IsFor (views_of map functions types entry) k IsGood x f
        → IsToTakePart (views_of map functions types entry) k x c v.word size a to h bytes f
        → (y : Outcome) → Either (HasMovedArea to size c.size v.word a t f) Never y
        → LeavesArea (views_of map functions types entry) k IsGood (f.values to) t f (taken (Some c) size v line x) y
    by f stands p (Continues f') m =
        let n = contents_size size v.word c in
        let all = p.sound.bytes in let room = p.ready.room in
        record {
          stands = stands_beside map mapped entry IsGood local functions types k x (x.work + size) size (f.values to) f f'
              p.ready.place m.beside stands m.shows;
          area = area_from (views_of map functions types entry) k size v.word (f.values to) c f'.memory (omega arith)
              (λ i l. m.bytes i l ∙ p.area.bytes (v.word + i) (omega arith))
              (λ al w l. m.entries al w l ∙ p.area.entries (v.word / 8 + w) (omega arith))
              (λ ne w l. m.none ne w l);
          beside = subst (λ z. KeepsBut (f.values to) (area_bytes z) f.memory f'.memory) (sym n) m.beside;
          turns = m.shows.turns;
          others = m.others;
        }
    by f stands p (Halts status report f') never = absurd never
