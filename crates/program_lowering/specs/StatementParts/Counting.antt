-- The parts of counted loops, as the definitions of lowering have them.
use Rattle.std.specs.Prelude.{Option, Some, None}
use Rattle.c_lower.specs.Counted.{Setting, CountedParts}
use Rattle.program_lowering.specs.declared.parts.counted.Set.{Set}
use Rattle.program_lowering.specs.declared.parts.counted.Range.{Range}

abbrev pub setting_with : Option Set → Option Setting
setting_with None = None
setting_with (Some s) = Some (record { variable = s.variable; word = s.word })

abbrev pub parts_with : Option Range → Option CountedParts
parts_with None = None
parts_with (Some r) = Some (record { variable = r.variable; start = r.start; bound = r.bound })
