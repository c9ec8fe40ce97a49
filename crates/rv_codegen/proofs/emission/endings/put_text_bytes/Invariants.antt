use Rattle.std.proofs.Common.{◌≡◌, ◌+◌, ◌++◌, drop}
use Rattle.machine_laws.specs.Blocks.Tails.{text_bytes}
use Rattle.rv_codegen.proofs.emission.endings.put_text_bytes.Given as goal

abbrev pub invariant-loop-place : goal.invariant-loop-place
invariant-loop-place l =
    l.code.items ++ text_bytes l.base (l.offset + l.place) (drop l.place l.text)
    ≡ l.initial.code.items ++ text_bytes l.base l.offset l.text
