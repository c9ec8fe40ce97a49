use Rattle.std.proofs.Common.{◌≡◌, ℕ, List, subst, refl, arith}
use Rattle.data_flow.specs.Relations.{Has}
use Rattle.data_flow.specs.Stretches.{FlowsWithin, IsStretch}
use Rattle.data_flow.proofs.Joining.{flows_directly, flows_back}
use Rattle.data_flow.proofs.cover.lowered.Goals as goal

pub returns-then-first_from-source-clause-flows : goal.returns-then-first_from-source-clause-flows
returns-then-first_from-source-clause-flows c l e =
    let edges = c.args.graph.now.edges.now in
    let through = c.in-Some-first_from.through in
    let same : c.min.result ≡ l = cc in
    let related = subst (λ (xs : List ℕ). Has xs through) c.images-images.ensures
    (c.in-Some-first_from.ensures through refl) in
    let s = subst (λ x. IsStretch edges x through) c.if-first_from-source.true
    (c.first_from-then-through-node.ensures.stretch edges c.requires.stretches) in
    subst (λ x. FlowsWithin edges x c.args.node c.args.before) same
    (flows_back edges c.args.node c.args.low c.in-Some.source through c.args.before
    c.requires.low c.requires.before related c.if-through-node.true c.if-source-through.true s
    (c.in-Some.ensures c.in-Some.source refl) c.min.result
    (omega (arith, c.min.ensures)) (omega (arith, c.min.ensures)))

pub returns-then-has-clause-flows : goal.returns-then-has-clause-flows
returns-then-has-clause-flows c l e =
    let edges = c.args.graph.now.edges.now in
    let same : c.args.low ≡ l = cc in
    subst (λ x. FlowsWithin edges x c.args.node c.args.before) same
    (flows_directly edges c.args.node c.args.low c.args.before c.requires.low c.requires.before
    (subst (λ (xs : List ℕ). Has xs c.args.before) c.images-images.ensures (c.if-has.ensures refl)))
