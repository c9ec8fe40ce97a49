use Rattle.flat_code.proofs.Routines.Regions.{laid_out}
use Rattle.flat_code.proofs.Routines.Objects.Moves.{move_stands}
use Rattle.flat_code.proofs.laws.objects.a_range_is_moved.Goals as goal

pub returns : goal.returns
returns c = λ g k old m m' size d s h st live live' to from. move_stands g k h (laid_out g.sizes h) old m m' st size
    d s live live' to from
