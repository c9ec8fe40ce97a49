use Rattle.std.proofs.Common.{◌≡◌, ◌++◌, drop, map}
use Rattle.c_operand_typing.specs.Primaries.{spelled_bytes}
use Rattle.c_expression_typing.specs.Lines.{name_of, spellings}
use Rattle.c_expression_typing.proofs.constructs.bytes_of.Given as goal

abbrev pub invariant-loop-literal : goal.invariant-loop-literal
invariant-loop-literal l =
    l.bytes.items ++ spelled_bytes (map name_of (drop l.literal-index l.more)) ≡ spelled_bytes
    (spellings l.fn.first l.fn.more)
