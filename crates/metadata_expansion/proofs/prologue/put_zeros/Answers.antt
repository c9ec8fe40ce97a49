use Rattle.metadata_expansion.proofs.Lists.{zeros_put}
use Rattle.metadata_expansion.proofs.prologue.put_zeros.Goals as goal

pub loop-i-preserved : goal.loop-i-preserved
loop-i-preserved c =
    zeros_put c.args.code.now.items c.loop-i.code.items c.put.new.code.items c.args.register c.loop-i.i
    c.loop-i.invariant c.in_ok-put.ensures
