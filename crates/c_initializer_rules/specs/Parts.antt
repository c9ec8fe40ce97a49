-- The parts so far, without whether they are known to be in order.
use Rattle.std.specs.Prelude.{List, map}
use Rattle.c_initializer_rules.specs.declared.parts.Parts as code
use Rattle.c_initializer_rules.specs.Placed.{PlacedPart, placed_of}

abbrev pub parts_of : code.Parts → List PlacedPart
parts_of p = map placed_of p.placed.items
