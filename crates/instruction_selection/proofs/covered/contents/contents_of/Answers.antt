use Rattle.instruction_selection.proofs.WordUses.{are_kept}
use Rattle.instruction_selection.proofs.covered.contents.contents_of.Goals as goal

pub returns : goal.returns
returns c =
    are_kept c.args.program.now c.args.function.now
    (record { areas = c.in_ok-areas.areas; words = c.in_ok-words.words }) _ _ c.as_slice-instructions.ensures c.in_ok-areas.ensures c.in_ok-words.ensures.closed
