use Rattle.source_meaning.proofs.SureStructures.{put_object, put_other, range_is}
use Rattle.source_meaning.proofs.laws.moved_contents_are_written.Goals as goal

pub returns : goal.returns
returns c = record { object = put_object; other = put_other; range = range_is }
