use Rattle.std.proofs.Common.{◌≡◌, ◌++◌, drop}
use Rattle.machine_laws.specs.Blocks.Tails.{tails_of}
use Rattle.rv_codegen.proofs.emission.endings.put_tails_of.Given as goal

abbrev pub invariant-loop-ending : goal.invariant-loop-ending
invariant-loop-ending l =
    l.code.items ++ tails_of (drop l.ending-index l.endings) ≡ l.initial.code.items ++ tails_of l.endings
