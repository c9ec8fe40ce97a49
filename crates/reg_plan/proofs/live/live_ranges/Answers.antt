use Rattle.std.proofs.Common.{◌∷◌, [], length, arith, ap, ◌∙◌, length-append, sym}
use Rattle.std.specs.Prelude.{slice_get}
use Rattle.reg_plan.specs.Accepted.{covers, intervals_of}
use Rattle.reg_plan.proofs.Ranges.{needed_more, only_needed_more}
use Rattle.reg_plan.proofs.live.live_ranges.Goals as goal

pub loop-register-preserved : goal.loop-register-preserved
loop-register-preserved c =
    let n = c.loop-register.register in
    let i = c.loop-register.invariant in
    let e = c.in_ok-push.ensures.items in
    let r = c.in_ok-range.ensures in
    record {
      size = ap length e ∙ length-append c.loop-register.ranges.items (c.in_ok-range.range ∷ [])
          ∙ omega (arith, i.size);
      needed = λ pc y lt h. ap (λ l. covers (intervals_of (slice_get l y)) pc) e
          ∙ needed_more c.args.program.now c.args.function c.args.body.now c.loop-register.ranges.items
          c.in_ok-range.range n i.size i.needed r.needed pc y lt h;
      only = λ pc y h. only_needed_more c.args.program.now c.args.function c.args.body.now c.loop-register.ranges.items
          c.in_ok-range.range n i.size i.only r.only pc y
          (ap (λ l. covers (intervals_of (slice_get l y)) pc) (sym e) ∙ h);
      begun_size = r.begun_size;
      killing_size = r.killing_size;
    }
