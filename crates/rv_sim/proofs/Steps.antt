-- The step of an instruction whose word stands at pc, and the turn that a step makes.
use Rattle.std.proofs.Common.{◌≡◌, ◌++◌, Some, None, ap, ◌∙◌}
use Rattle.rv_isa.specs.declared.instruction.Instr.{Instr}
use Rattle.rv_isa.specs.Table.{word_of, IsOfTable}
use Rattle.rv_isa.proofs.RoundTrip.{decoded-word}
use Rattle.rv_sim.specs.declared.trap.TrapKind.{TrapKind}
use Rattle.rv_sim.specs.declared.trap.Action.TheVariants.{Done, Refuse}
use Rattle.rv_sim.specs.Accesses.{object_access}
use Rattle.rv_sim.specs.Memory.{fetch}
use Rattle.rv_sim.specs.Run.{Configuration, turn, turned, trapped}
use Rattle.rv_sim.specs.State.{MachineState}
use Rattle.rv_sim.specs.Step.{executes, executes_decoded, executes_word, step}

pub step-word : (s : MachineState) (i : Instr) → IsOfTable i → fetch s.memory s.pc ≡ Some (word_of i)
    → step s ≡ executes i s
unfolding step
step-word s i t e = ap (executes_word s) e ∙ ap (executes_decoded s) (decoded-word i t)

pub turn-done : (c : Configuration) (s : MachineState) → step c.state ≡ (s, Done)
    → turn c ≡ (record c { state = s; accesses = c.accesses ++ object_access c.state }, None)
unfolding turn
turn-done c s e = ap (turned c) e

pub turn-refused : (c : Configuration) (s : MachineState) (kind : TrapKind) → step c.state ≡ (s, Refuse kind)
    → turn c ≡ trapped c kind
unfolding turn
turn-refused c s kind e = ap (turned c) e
