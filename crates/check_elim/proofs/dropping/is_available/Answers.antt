use Rattle.std.proofs.Common.{◌≡◌, subst}
use Rattle.check_elim.specs.Available.{IsAvailableCheck}
use Rattle.check_elim.proofs.Exploring.{at_node}
use Rattle.check_elim.proofs.Going.{closed_goes, open_stays, negated_true, negated_false}
use Rattle.check_elim.proofs.dropping.is_available.Goals as goal

pub returns-in-None-clause-no : goal.returns-in-None-clause-no
returns-in-None-clause-no c e i at =
    let here = at_node _ _ c.args.node c.index-as_slice-node.result c.as_slice.ensures c.requires.inside
    c.index-as_slice-node.is in
    let same : c.index-as_slice-node.result ≡ i = cc in
    subst (λ z. IsAvailableCheck c.args.function.now c.args.node z → ⊥) same
    (c.fact_at.ensures.none c.in-None.is c.args.node)

pub returns-in_ok-found-in-Some-clause-yes : goal.returns-in_ok-found-in-Some-clause-yes
returns-in_ok-found-in-Some-clause-yes c e =
    let found = c.fact_at.ensures.some c.in-Some.sought c.in-Some.is in
    closed_goes c.in-Some.sought c.args.function.now c.args.node c.index-as_slice-node.result found.0 found.1
    (at_node _ _ c.args.node c.index-as_slice-node.result c.as_slice.ensures c.requires.inside
    c.index-as_slice-node.is)
    (c.in_ok-found-in-Some.ensures.closed (negated_true _ e))

pub returns-in_ok-found-in-Some-clause-no : goal.returns-in_ok-found-in-Some-clause-no
returns-in_ok-found-in-Some-clause-no c e =
    let found = c.fact_at.ensures.some c.in-Some.sought c.in-Some.is in
    open_stays c.in-Some.sought c.args.function.now c.args.node c.index-as_slice-node.result found.0 found.1
    (at_node _ _ c.args.node c.index-as_slice-node.result c.as_slice.ensures c.requires.inside
    c.index-as_slice-node.is)
    (c.in_ok-found-in-Some.ensures.open_there (negated_false _ e))
