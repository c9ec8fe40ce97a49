use Rattle.flat_code.proofs.Routines.Regions.{laid_out}
use Rattle.flat_code.proofs.Routines.Objects.Moves.{put_stands}
use Rattle.flat_code.proofs.laws.objects.bytes_are_put.Goals as goal

pub returns : goal.returns
returns c = λ g k old m m' new p h st live to small. put_stands g k h (laid_out g.sizes h) old m m' st new p live to
    small
