-- A part of contents goes on to its member where the address alone does.
use Rattle.std.proofs.Common.{ℕ, ◌+◌, List, length, ap, ◌∙◌, arith}
use Rattle.addr_map.specs.Places.{MapSizes, AreMapped}
use Rattle.obj_memory.specs.declared.value.Value.{Value}
use Rattle.obj_memory.specs.Judgement.{narrowed}
use Rattle.flat_code.specs.declared.instruction.RightOperand.{RightOperand}
use Rattle.flat_code.specs.declared.instruction.FlatInstruction.{FlatInstruction}
use Rattle.flat_code.specs.State.{State}
use Rattle.flat_code.specs.Meaning.{Goes}
use Rattle.flat_code.specs.declared.registers.Held.{Held}
use Rattle.flat_code.specs.Routines.Routine.{Outcome, Continues, Halts, Either, Never}
use Rattle.flat_code.specs.Routines.Metadata.{Metadata}
use Rattle.flat_code.proofs.Routines.Rules.{weaken}
use Rattle.shadow_space.proofs.Entries.{context_of}
use Rattle.flat_actions.specs.Narrowing.{HasGoneOn, IsMoveOnRoutine}
use Rattle.lib_wrappers.specs.AreaRoutines.Parts.{IsToNarrowPart, HasNarrowedPart, IsNarrowPartRoutine}
use Rattle.lib_wrappers.proofs.AreaRoutines.Spaces.{structure_space}

module _ (map : MapSizes) (mapped : AreMapped map) (h : Held) (v : Value) (size offset bytes a t : ℕ) (s : State)
    (p : IsToNarrowPart map v size offset a h s) where
  narrowed_part : (z : State) → HasGoneOn h offset t s z → HasNarrowedPart (narrowed offset bytes v) size a h t s z
  unfolding narrowed
  narrowed_part z q =
      let at = q.address in let is = p.part.part in let inside = p.inside in let last = p.place.last in
      let small = (structure_space map mapped).small in
      record {
        part = record {
          part = omega (arith, at, is);
          base = ap (λ (m : Metadata). m.base) q.metadata ∙ p.part.base;
          bound = ap (λ (m : Metadata). m.bound) q.metadata ∙ p.part.bound;
          no_lock = ap (λ (m : Metadata). m.lock) q.metadata ∙ p.part.no_lock;
        };
        memory = q.memory;
        shows = q.shows;
        others = q.others;
      }

  at_end : (x : Outcome) → Either (HasGoneOn h offset t s) Never x
      → Either (HasNarrowedPart (narrowed offset bytes v) size a h t s) Never x
  at_end (Continues z) q = narrowed_part z q
  at_end (Halts status report z) never = never

pub narrows_parts : (h : Held) (by : RightOperand) (t : ℕ) (r : List FlatInstruction) → IsMoveOnRoutine h by t r
    → IsNarrowPartRoutine h by t r
narrows_parts h by t r goes map v size offset bytes a runtime charge weight mapped = record {
  from = λ code pc s has words p.
      weaken (context_of map runtime charge weight) code 8 8 (Goes pc s) (pc + length r)
      (Either (HasGoneOn h offset t s) Never) (Either (HasNarrowedPart (narrowed offset bytes v) size a h t s) Never)
      (omega arith) (at_end map mapped h v size offset bytes a t s p.0)
      ((goes map offset runtime charge weight).from code pc s has words (p.0.part.no_lock, p.1));
}
