use Rattle.std.proofs.Common.{◌≤◌, ◌∙◌, List, length, ap, sym, subst}
use Rattle.reg_plan.specs.declared.plan.LiveInterval.{LiveInterval}
use Rattle.reg_plan.specs.Accepted.{covers}
use Rattle.reg_plan.specs.Occupied.{AreSpread, AreParted}
use Rattle.reg_plan.proofs.Spreading.{spread_more, covers_insert}
use Rattle.reg_plan.proofs.occupied.occupy_free.Goals as goal

pub returns-clause-spread : goal.returns-clause-spread
returns-clause-spread c =
    let xs = c.args.used.now.items in
    let k = c.ended_before-before.result in
    let same = c.as_slice.ensures.value in
    let p = subst (λ (l : List LiveInterval). AreParted l c.args.interval.start k) same c.ended_before-before.ensures.parted in
    let le = subst (λ (l : List LiveInterval). k ≤ length l) same c.ended_before-before.ensures.within in
    subst AreSpread (sym c.in_ok-insert.ensures.items)
    (spread_more xs k c.args.interval c.requires.spread c.requires.some le p c.requires.free)

pub returns-clause-covers : goal.returns-clause-covers
returns-clause-covers c pc =
    let xs = c.args.used.now.items in
    let k = c.ended_before-before.result in
    let le = subst (λ (l : List LiveInterval). k ≤ length l) c.as_slice.ensures.value
    c.ended_before-before.ensures.within in
    ap (λ (l : List LiveInterval). covers l pc) c.in_ok-insert.ensures.items ∙ covers_insert xs k c.args.interval pc le
