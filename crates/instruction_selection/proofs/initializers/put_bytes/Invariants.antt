use Rattle.std.proofs.Common.{◌≡◌, ◌++◌, drop}
use Rattle.metadata_relation.specs.Blocks.{store_bytes}
use Rattle.instruction_selection.proofs.initializers.put_bytes.Given as goal

abbrev pub invariant-loop-byte : goal.invariant-loop-byte
invariant-loop-byte l = l.code.items ++ store_bytes (drop l.byte-index l.bytes) l.address l.register
    ≡ l.initial.code.items ++ store_bytes l.fn.bytes l.fn.address l.fn.register
