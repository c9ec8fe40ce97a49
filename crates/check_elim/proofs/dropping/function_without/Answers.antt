use Rattle.std.proofs.Common.{refl, sym, ap, subst, arith, length}
use Rattle.check_elim.specs.Available.{IsAvailableCheck}
use Rattle.check_elim.specs.Dropped.{CodeDropped}
use Rattle.check_elim.proofs.Going.{small_function}
use Rattle.check_elim.proofs.dropping.function_without.Goals as goal

pub returns : goal.returns
returns c =
    let few = c.if-as_slice.false in
    let size = ap length c.as_slice.ensures in
    small_function c.args.function _ (omega (arith, few, size)) refl
    (subst (CodeDropped IsAvailableCheck c.args.function) (sym c.from_vec.ensures) c.in_ok-code.ensures)
