use Rattle.std.proofs.Common.{◌≡◌, ◌≤◌, Some, None, length, refl, sym, ◌∙◌, subst, arith}
use Rattle.std.proofs.lemmas.Bool.{leb-true, leb-false}
use Rattle.std.proofs.lemmas.Option.{slice_get_read, slice_get_past}
use Rattle.reg_plan.specs.declared.plan.LiveInterval.{LiveInterval}
use Rattle.reg_plan.proofs.Spreading.{free_by, taken_by}
use Rattle.reg_plan.proofs.occupied.is_interval_free.Goals as goal

pub returns-in-Some-clause-free : goal.returns-in-Some-clause-free
returns-in-Some-clause-free c late =
    let xs = c.args.used.now in
    let k = c.ended_before.result in
    let here = slice_get_read xs (length xs) k c.in-Some.next.now refl c.in-Some.ensures.lookup.3.0
    c.in-Some.ensures.lookup.1 in
    free_by xs c.args.interval k c.requires c.ended_before.ensures.parted (λ next h.
    let w : Some c.in-Some.next.now ≡ Some next = sym here ∙ h in
    let e : c.in-Some.next.now ≡ next = cc in
    subst (λ (x : LiveInterval). c.args.interval.end ≤ x.start) e
    (leb-true c.args.interval.end c.in-Some.next.now.start late))

pub returns-in-Some-clause-taken : goal.returns-in-Some-clause-taken
returns-in-Some-clause-taken c early =
    let xs = c.args.used.now in
    let k = c.ended_before.result in
    let here = slice_get_read xs (length xs) k c.in-Some.next.now refl c.in-Some.ensures.lookup.3.0
    c.in-Some.ensures.lookup.1 in
    taken_by xs c.args.interval k c.in-Some.next.now c.requires c.ended_before.ensures.parted
    (omega (arith, c.if-interval.false)) here (leb-false c.args.interval.end c.in-Some.next.now.start early)

pub returns-in-None-clause-free : goal.returns-in-None-clause-free
returns-in-None-clause-free c _ =
    let xs = c.args.used.now in
    let k = c.ended_before.result in
    let past = slice_get_past xs k c.in-None.ensures.lookup.3 in
    free_by xs c.args.interval k c.requires c.ended_before.ensures.parted
    (λ next h. let w : None ≡ Some next = sym past ∙ h in cc)
