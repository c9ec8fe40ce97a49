use Rattle.std.proofs.Common.{◌≡◌, drop}
use Rattle.c_tree.specs.Format.{pieces}
use Rattle.c_tree.specs.Scanning.{pieces_from}
use Rattle.instruction_selection.specs.Formats.{read_before}
use Rattle.instruction_selection.proofs.formats.pieces_of.Given as goal

abbrev pub invariant-loop-byte : goal.invariant-loop-byte
invariant-loop-byte l = read_before l.list.items (pieces_from l.place (drop l.byte-index l.format)) ≡ pieces l.fn.format
