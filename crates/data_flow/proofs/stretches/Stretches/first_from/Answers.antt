use Rattle.std.proofs.Common.{refl}
use Rattle.data_flow.proofs.Joining.{alone, joined}
use Rattle.data_flow.proofs.stretches.Stretches.first_from.Goals as goal

pub loop-next-init : goal.loop-next-init
loop-next-init c = record {
  from = c.requires;
  stretch = λ edges s. alone edges c.args.node;
}

pub loop-next-preserved : goal.loop-next-preserved
loop-next-preserved c = record {
  from = c.in-Some.ensures.from c.in-Some.next refl;
  stretch = λ edges s. joined edges c.in-Some.next c.loop-next.first c.args.node
      (c.in-Some.ensures.stretch c.in-Some.next refl edges s) (c.loop-next.invariant.stretch edges s);
}
