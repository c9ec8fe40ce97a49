use Rattle.std.proofs.Common.{◌≡◌, ◌-◌, subst, sym, ap, refl, arith}
use Rattle.data_flow.specs.declared.cover.Cover.{Cover}
use Rattle.data_flow.specs.Stretches.{IsStretch}
use Rattle.data_flow.proofs.Joining.{alone, joined, stretch_by, cover_by}
use Rattle.data_flow.proofs.cover.grown.Goals as goal

pub returns-then-before-low-clause-stretch : goal.returns-then-before-low-clause-stretch
returns-then-before-low-clause-stretch c first e =
    let edges = c.args.graph.now.edges.now in
    let before = c.args.cover.first - 1 in
    let some = c.requires.cover.low in
    let q : before ≡ first = cc in
    subst (λ x. IsStretch edges x c.args.node) q
    (stretch_by edges c.args.node c.in-Some.low before c.args.cover c.requires.cover
    (c.in-Some.ensures.lower c.in-Some.low refl) (omega (arith, some))
    (c.in-Some.ensures.flows c.in-Some.low refl) before (alone edges before)
    c.if-before-low.true)

pub returns-then-nearest-low-clause-stretch : goal.returns-then-nearest-low-clause-stretch
returns-then-nearest-low-clause-stretch c first e =
    let edges = c.args.graph.now.edges.now in
    let before = c.args.cover.first - 1 in
    let some = c.requires.cover.low in
    let q : c.at-nearest.result.nearest ≡ first = cc in
    subst (λ x. IsStretch edges x c.args.node) q
    (stretch_by edges c.args.node c.in-Some.low before c.args.cover c.requires.cover
    (c.in-Some.ensures.lower c.in-Some.low refl) (omega (arith, some))
    (c.in-Some.ensures.flows c.in-Some.low refl) c.at-nearest.result.nearest
    (joined edges c.at-nearest.result.nearest c.first_from-first.result before
    (c.at-nearest.ensures edges c.requires.stretches).nearest
    (c.first_from-first.ensures.stretch edges c.requires.stretches)) c.if-nearest-low.true)

pub returns-clause-more : goal.returns-clause-more
returns-clause-more c next e =
    let edges = c.args.graph.now.edges.now in
    let before = c.args.cover.first - 1 in
    let some = c.requires.cover.low in
    let from = c.first_from-first.ensures.from in
    let q : (record { first = c.first_from-first.result; low = c.min.result }) ≡ next = cc in
    cover_by edges c.args.node c.in-Some.low before c.args.cover c.requires.cover
    (c.in-Some.ensures.lower c.in-Some.low refl) (omega (arith, some))
    (c.in-Some.ensures.flows c.in-Some.low refl) c.first_from-first.result
    (c.first_from-first.ensures.stretch edges c.requires.stretches) (omega (arith, from)) c.min.result
    (omega (arith, c.min.ensures)) (λ v r. let l = c.least.ensures v r in omega (arith, c.min.ensures, l)) next (ap (λ (x : Cover). x.first) (sym q)) (ap (λ (x : Cover). x.low) (sym q))
