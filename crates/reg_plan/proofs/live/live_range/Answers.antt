use Rattle.std.proofs.Common.{◌≡◌, ◌<◌, ℕ, List, subst, sym, arith, ap, ◌∙◌, length}
use Rattle.std.specs.Prelude.{slice_get}
use Rattle.data_flow.specs.Relations.{Has, images}
use Rattle.data_flow.specs.Reached.{IsReached}
use Rattle.flat_code.specs.declared.instruction.FlatInstruction.{FlatInstruction}
use Rattle.flat_code.specs.declared.function.FlatProgram.{FlatProgram}
use Rattle.reg_plan.specs.declared.flow.Problem.{Problem}
use Rattle.reg_plan.specs.Needs.{IsNeeded}
use Rattle.reg_plan.specs.Flow.{Represents}
use Rattle.reg_plan.proofs.Represents.{needed_is_reached, reached_is_needed}
use Rattle.reg_plan.proofs.Ranges.{edges_within, generated_within, killed_within, needed_within, reached_as}
use Rattle.reg_plan.proofs.live.live_range.Goals as goal

pub least_runs-requires-clause-edges_inside : goal.least_runs-requires-clause-edges_inside
least_runs-requires-clause-edges_inside c u v h =
    let a = c.args.analysis.now in
    subst (λ n. v < n) (sym c.requires.begun_size)
    (edges_within a.program.now a.function a.body.now a.problem.now c.requires.represents u v h)

pub least_runs-requires-clause-generated_inside : goal.least_runs-requires-clause-generated_inside
least_runs-requires-clause-generated_inside c k x h =
    let a = c.args.analysis.now in
    subst (λ n. x < n) (sym c.requires.begun_size)
    (generated_within a.program.now a.function a.body.now a.problem.now c.requires.represents
    c.args.register x (k, ap (λ l. slice_get l k) (sym c.images-2.ensures) ∙ h))

pub least_runs-requires-clause-killed_inside : goal.least_runs-requires-clause-killed_inside
least_runs-requires-clause-killed_inside c k x h =
    let a = c.args.analysis.now in
    let o = c.in_ok-killed.ensures.only x (k, ap (λ l. slice_get l k) (sym c.deref.ensures.value) ∙ h) in
    subst (λ n. x < n) (sym c.requires.begun_size)
    (killed_within a.program.now a.function a.body.now a.problem.now c.requires.represents
    c.args.register x (subst (λ (l : List ℕ). Has l x) c.images.ensures o))

-- a place that the runs have
needed_at : (p : FlatProgram) (f : ℕ) (body : List FlatInstruction) (problem : Problem)
    → Represents p f body (length body) problem → (y : ℕ) (generated killed list : List ℕ)
    → generated ≡ images problem.generated y → list ≡ images problem.killed y
    → ((x : ℕ) → Has list x → Has killed x) → (pc : ℕ) → IsReached problem.edges generated killed pc
    → IsNeeded p f body pc y
needed_at p f body problem r y generated killed list e e' has pc h =
    reached_is_needed p f body problem r y pc
    (reached_as problem.edges (images problem.generated y) killed (images problem.killed y)
    (λ x k. has x (subst (λ (l : List ℕ). Has l x) (sym e') k)) pc
    (subst (λ g. IsReached problem.edges g killed pc) e h))

pub intervals-requires : goal.intervals-requires
intervals-requires c k r h =
    let a = c.args.analysis.now in
    let n = needed_at a.program.now a.function a.body.now a.problem.now c.requires.represents
    c.args.register c.images-2.result.now c.deref.result.now c.images.result.now c.images-2.ensures c.images.ensures
    (λ x q. subst (λ (l : List ℕ). Has l x) (sym c.deref.ensures.value) (c.in_ok-killed.ensures.has x q)) r.last
    (c.in_ok-runs.ensures.last k r h) in
    let l : r.last < length a.body.now = needed_within a.program.now a.function a.body.now r.last
    c.args.register n in
    let m : length a.body.now < 4294967296 = c.requires.count in
    omega (arith, l, m)

pub returns-clause-needed : goal.returns-clause-needed
returns-clause-needed c pc n =
    let a = c.args.analysis.now in
    let problem = a.problem.now in
    let y = c.args.register in
    let r = needed_is_reached a.program.now a.function a.body.now problem c.requires.represents pc y n in
    c.in_ok-range.ensures pc ∙ c.in_ok-runs.ensures.closed pc
    (subst (λ g. IsReached problem.edges g c.deref.result.now pc) (sym c.images-2.ensures)
    (reached_as problem.edges (images problem.generated y) (images problem.killed y) c.deref.result.now
    (λ x h. subst (λ (l : List ℕ). Has l x) c.images.ensures
    (c.in_ok-killed.ensures.only x (subst (λ (l : List ℕ). Has l x) c.deref.ensures.value h))) pc r))

pub returns-clause-only : goal.returns-clause-only
returns-clause-only c pc h =
    let a = c.args.analysis.now in
    needed_at a.program.now a.function a.body.now a.problem.now c.requires.represents
    c.args.register c.images-2.result.now c.deref.result.now c.images.result.now c.images-2.ensures c.images.ensures
    (λ x q. subst (λ (l : List ℕ). Has l x) (sym c.deref.ensures.value) (c.in_ok-killed.ensures.has x q)) pc
    (c.in_ok-runs.ensures.least pc (sym (c.in_ok-range.ensures pc) ∙ h))
