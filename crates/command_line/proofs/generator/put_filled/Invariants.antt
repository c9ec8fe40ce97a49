use Rattle.std.proofs.Common.{◌≡◌, ◌++◌, drop}
use Rattle.command_line.specs.Generator.{filled}
use Rattle.command_line.proofs.generator.put_filled.Given as goal

abbrev pub invariant-loop-byte : goal.invariant-loop-byte
invariant-loop-byte l =
    l.text.items ++ filled l.number l.length (drop l.byte-index l.template)
    ≡ l.initial.text.items ++ filled l.number l.length l.template
