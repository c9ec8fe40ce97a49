use Rattle.std.proofs.Common.{◌+◌, arith}
use Rattle.rv_asm.specs.declared.form.Form.TheVariants.{Short}
use Rattle.rv_asm.proofs.Layouts.{size_step}
use Rattle.rv_asm.proofs.layout.size.Goals as goal

pub loop-index-preserved : goal.loop-index-preserved
loop-index-preserved c =
    let step = size_step c.args.forms.now c.args.items.now c.loop-index.index (c.loop-index.index + 1)
    c.index-items-index.result Short c.requires
    (omega (arith, c.loop-index-test.true, c.loop-index.auto.index-end)) c.index-items-index.is (omega arith) in
    record {
      left = omega (arith, step, c.loop-index.invariant.left, c.size.ensures.value, c.from-sum.ensures);
      few = omega (arith, c.loop-index.invariant.few, c.size.ensures.small, c.from-sum.ensures);
    }
