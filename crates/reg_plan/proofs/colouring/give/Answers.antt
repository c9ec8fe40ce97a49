use Rattle.std.proofs.Common.{◌≡◌, List, true, false, subst, sym, refl}
use Rattle.reg_plan.specs.declared.plan.LiveInterval.{LiveInterval}
use Rattle.reg_plan.specs.Accepted.{covers}
use Rattle.reg_plan.specs.Colours.{range_of}
use Rattle.reg_plan.specs.Occupied.{Occupies, IsColouring}
use Rattle.reg_plan.proofs.GivingOut.{range_is, colouring_leaves, colouring_gives}
use Rattle.reg_plan.proofs.colouring.give.Goals as goal

pub returns-in_ok-push-in-Some-clause-colouring : goal.returns-in_ok-push-in-Some-clause-colouring
returns-in_ok-push-in-Some-clause-colouring c =
    let ranges = c.args.ranges.now in
    let used = c.args.used.now.items in
    let n = c.args.next in
    let e = range_is ranges n c.index-ranges-next.result c.as_slice-range.result.now c.requires.inside
    c.index-ranges-next.is c.as_slice-range.ensures.value in
    let same = c.as_slice.ensures.value in
    let r = c.in-Some.register in
    subst (λ ps. IsColouring ranges ps c.use_register.new.used.items) (sym c.in_ok-push-in-Some.ensures.items)
    (colouring_gives ranges c.args.places.now.items used c.requires.colouring n r c.use_register.new.used.items
    c.requires.next (c.in-Some.ensures.given r refl)
    (λ pc h. subst (λ (l : List _). covers (range_of l r) pc ≡ false) same
    (c.in-Some.ensures.free r refl pc (subst (λ (l : List LiveInterval). covers l pc ≡ true) (sym e) h)))
    (subst (λ (l : List LiveInterval). Occupies used c.use_register.new.used.items r l) e
    c.in_ok-use_register-in-Some.ensures))

pub returns-in_ok-push-in-None-clause-colouring : goal.returns-in_ok-push-in-None-clause-colouring
returns-in_ok-push-in-None-clause-colouring c =
    let ranges = c.args.ranges.now in
    let used = c.args.used.now.items in
    let n = c.args.next in
    let e = range_is ranges n c.index-ranges-next.result c.as_slice-range.result.now c.requires.inside
    c.index-ranges-next.is c.as_slice-range.ensures.value in
    let same = c.as_slice.ensures.value in
    subst (λ ps. IsColouring ranges ps used) (sym c.in_ok-push-in-None.ensures.items)
    (colouring_leaves ranges c.args.places.now.items used c.requires.colouring n c.requires.next
    (λ r lt. let t = c.in-None.ensures.taken refl r lt in (
      t.0,
      subst (λ (l : List LiveInterval). covers l t.0 ≡ true) e t.1,
      subst (λ (l : List _). covers (range_of l r) t.0 ≡ true) same t.2,
    )))
