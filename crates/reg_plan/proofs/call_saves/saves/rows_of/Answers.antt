use Rattle.std.proofs.Common.{◌∙◌, List, length, get_or, ap, arith}
use Rattle.flat_code.specs.declared.instruction.FlatInstruction.{FlatInstruction}
use Rattle.reg_plan.specs.Saves.Saves.{calls_before, saved_below}
use Rattle.reg_plan.proofs.Saves.Calls.{count_at, saved_more}
use Rattle.reg_plan.proofs.call_saves.saves.rows_of.Goals as goal

pub loop-register-init : goal.loop-register-init
unfolding saved_below
loop-register-init c =
    let body = c.args.function.now.body in
    let e = c.as_slice.ensures in
    record {
      size = c.in_ok-rows.ensures.size ∙ ap (λ (xs : List FlatInstruction). get_or c.args.before.now (length xs) 0) e
          ∙ count_at c.args.before.now body c.requires (length body) (omega arith);
      rows = λ pc h. c.in_ok-rows.ensures.empty (calls_before body pc);
    }

pub loop-register-preserved : goal.loop-register-preserved
loop-register-preserved c =
    let f = c.args.function.now in
    let plan = c.args.plan.now in
    let puts = c.in_ok-put_register.ensures in
    record {
      size = puts.size ∙ c.loop-register.invariant.size;
      rows = λ pc h.
          saved_more f plan pc c.loop-register.register _ _ (c.loop-register.invariant.rows pc h) (puts.rows pc h);
    }
