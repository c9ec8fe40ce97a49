use Rattle.std.proofs.Common.{length, map, ap, sym, ◌∙◌}
use Rattle.check_insert.specs.Building.{places, with_checks, with_added_at}
use Rattle.check_insert.proofs.Bodies.{function_of_parts}
use Rattle.check_insert.proofs.insertion.checked_function.Goals as goal

pub returns : goal.returns
returns c =
    let ps = c.as_slice-places.result.now in
    let end = length c.as_slice-end.result.now in
    function_of_parts c.args.function _ _ ps end
    (c.from_vec.ensures ∙ (c.in_ok-checked.ensures.nodes ∙ ap with_checks c.as_slice.ensures))
    (c.as_slice-places.ensures.value
    ∙ (c.in_ok-checked.ensures.places ∙ ap (λ is. places (length is) is) c.as_slice.ensures))
    (ap length (c.as_slice-end.ensures.value ∙ sym c.from_vec.ensures))
    (c.from_vec-2.ensures ∙ (c.in_ok-loops.ensures ∙ ap (map (with_added_at ps end)) c.as_slice-2.ensures))
