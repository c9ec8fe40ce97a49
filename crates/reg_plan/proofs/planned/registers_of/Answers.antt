use Rattle.std.proofs.Common.{List, ap, ◌∙◌, subst, lit≤, length}
use Rattle.std.specs.Prelude.{Vec}
use Rattle.std.specs.Global.{Global}
use Rattle.reg_plan.specs.Registers.{registers_given_out}
use Rattle.reg_plan.specs.declared.plan.LiveInterval.{LiveInterval}
use Rattle.reg_plan.specs.Colours.{IsColoured}
use Rattle.reg_plan.proofs.Plans.{least_plan_of}
use Rattle.reg_plan.proofs.planned.registers_of.Goals as goal

pub returns : goal.returns
returns c =
    let live = c.in_ok-live.live in
    let places = c.in_ok-places.places in
    let colours : IsColoured live.items places.items registers_given_out = subst
    (λ (l : List (Vec LiveInterval Global)). IsColoured l places.items registers_given_out) c.deref.ensures.value
    c.in_ok-places.ensures.coloured in
    record {
      least = least_plan_of c.args.program.now c.args.number c.args.function.now
          (record { places = places; live = live }) registers_given_out c.as_slice-body.result.now
          (length c.as_slice-registers.result.now) (lit≤ tt) c.requires c.as_slice-body.ensures
          (ap length c.as_slice-registers.ensures) c.in_ok-live.ensures.needed c.in_ok-live.ensures.only
          (c.in_ok-places.ensures.size ∙ ap length c.deref.ensures.value ∙ c.in_ok-live.ensures.size) colours;
      full = colours.full;
    }
