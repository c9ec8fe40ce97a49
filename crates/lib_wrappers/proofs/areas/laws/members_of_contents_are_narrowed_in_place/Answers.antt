use Rattle.lib_wrappers.proofs.AreaRoutines.NarrowParts.{narrows_parts}
use Rattle.lib_wrappers.proofs.areas.laws.members_of_contents_are_narrowed_in_place.Goals as goal

pub returns : goal.returns
returns c = narrows_parts
