use Rattle.std.proofs.Common.{refl, sym, subst, arith}
use Rattle.check_elim.specs.Available.{IsDroppable}
use Rattle.check_elim.specs.Dropped.{AreDropped}
use Rattle.check_elim.proofs.Going.{fewer_of}
use Rattle.check_elim.proofs.dropping.drop_available.Goals as goal

pub returns : goal.returns
returns c =
    let dropped = subst (λ cs. AreDropped IsDroppable cs c.from_vec.result) c.into_vec.ensures
    (subst (AreDropped IsDroppable c.into_vec.result.items) (sym c.from_vec.ensures)
    c.in_ok-without.ensures) in
    let fewer = fewer_of IsDroppable c.args.program.functions c.from_vec.result dropped in
    record {
      dropped = record { rest = refl; functions = dropped };
      count = λ few. omega (arith, fewer, few, c.checks-all.ensures, c.checks-kept.ensures, c.saturating_sub.ensures);
    }
