use Rattle.std.proofs.Common.{ap, lit≤, length}
use Rattle.reg_plan.proofs.GivingOut.{coloured_none}
use Rattle.reg_plan.proofs.Plans.{least_plan_of}
use Rattle.reg_plan.proofs.planned.slots_of.Goals as goal

pub returns : goal.returns
returns c =
    let live = c.in_ok-live.live in
    let places = c.in_ok-places.places in
    record {
      least = least_plan_of c.args.program.now c.args.number c.args.function.now
          (record { places = places; live = live }) 0 c.as_slice.result.now (length c.as_slice-registers.result.now)
          (lit≤ tt) c.requires c.as_slice.ensures (ap length c.as_slice-registers.ensures) c.in_ok-live.ensures.needed
          c.in_ok-live.ensures.only c.in_ok-places.ensures.size
          (coloured_none live.items places.items c.in_ok-places.ensures.home);
      home = c.in_ok-places.ensures.home;
    }
