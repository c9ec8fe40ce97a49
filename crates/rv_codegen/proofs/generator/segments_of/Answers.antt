use Rattle.rv_codegen.proofs.Below.{none_below}
use Rattle.rv_codegen.proofs.generator.segments_of.Goals as goal

pub loop-number-init : goal.loop-number-init
loop-number-init c =
    none_below _ _ _ _ _ _ c.new.ensures.items c.new-2.ensures.items c.new-3.ensures.items
