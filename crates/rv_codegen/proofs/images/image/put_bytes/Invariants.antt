use Rattle.std.proofs.Common.{◌≡◌, ◌++◌, drop}
use Rattle.machine_laws.specs.Layout.Lists.{bytes_of}
use Rattle.rv_codegen.proofs.images.image.put_bytes.Given as goal

abbrev pub invariant-loop-word : goal.invariant-loop-word
invariant-loop-word l =
    l.bytes.items ++ bytes_of (drop l.word-index l.words) ≡ l.initial.bytes.items ++ bytes_of l.words
