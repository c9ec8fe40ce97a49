use Rattle.std.proofs.Common.{◌≡◌, ℕ, List, Some, subst, sym, refl, length}
use Rattle.std.specs.Prelude.{slice_get}
use Rattle.flat_code.specs.declared.instruction.FlatInstruction.{FlatInstruction}
use Rattle.reg_plan.specs.Tests.{IsClosedAt, IsKept}
use Rattle.reg_plan.proofs.Exact.{accepted_from, closed_at, kept_from}
use Rattle.reg_plan.proofs.accepts.is_accepted.Goals as goal

pub returns-then-is_closed-clause-yes : goal.returns-then-is_closed-clause-yes
returns-then-is_closed-clause-yes c h =
    let p = c.args.program.now in
    let n = c.args.number in
    let plan = c.args.plan.now in
    let e = c.as_slice-body.ensures in
    accepted_from p n c.args.function.now plan
    (subst (λ (b : List FlatInstruction). (pc : ℕ) (i : FlatInstruction) → slice_get b pc ≡ Some i
    → IsClosedAt p n (length b) plan pc i) e (c.if-is_closed.ensures.yes refl))
    (subst (λ (b : List FlatInstruction). (x : ℕ) → IsKept c.args.function.now plan (length b) x) e
    (c.are_kept.ensures.yes h))

pub returns-then-is_closed-clause-no : goal.returns-then-is_closed-clause-no
returns-then-is_closed-clause-no c a =
    c.are_kept.ensures.no
    (subst (λ (b : List FlatInstruction). (x : ℕ) → IsKept c.args.function.now c.args.plan.now (length b) x)
    (sym c.as_slice-body.ensures)
    (kept_from c.args.program.now c.args.number c.args.function.now c.args.plan.now a))

pub returns-else-is_closed-clause-no : goal.returns-else-is_closed-clause-no
returns-else-is_closed-clause-no c a =
    let p = c.args.program.now in
    let n = c.args.number in
    let plan = c.args.plan.now in
    c.is_closed.ensures.no
    (subst (λ (b : List FlatInstruction). (pc : ℕ) (i : FlatInstruction) → slice_get b pc ≡ Some i
    → IsClosedAt p n (length b) plan pc i) (sym c.as_slice-body.ensures)
    (closed_at p n c.args.function.now.body plan a.closed))
