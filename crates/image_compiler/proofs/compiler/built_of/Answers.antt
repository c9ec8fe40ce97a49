use Rattle.std.proofs.Common.{arith}
use Rattle.image_compiler.proofs.Compiled.{has_checks, same_as_lowered, checked_count, built_with, refused_checked}
use Rattle.image_compiler.proofs.compiler.built_of.Goals as goal

pub image_of_checked-requires-clause-count : goal.image_of_checked-requires-clause-count
image_of_checked-requires-clause-count c =
    let t = c.args.lowered in
    let checked = c.in_ok-checked.checked in
    let r = c.in_ok-left.left.0 in
    let count = checked_count t r (same_as_lowered t r
    (has_checks t checked r c.requires.none_added c.requires.closed c.requires.variables c.in_ok-checked.ensures.checks
    c.in_ok-checked.ensures.closed c.in_ok-checked.ensures.variables c.in_ok-left.ensures.dropped)) in
    let few = c.requires.count in
    omega (arith, count, few)

pub image_of_checked-requires-clause-expandable : goal.image_of_checked-requires-clause-expandable
image_of_checked-requires-clause-expandable c =
    let checked = c.in_ok-checked.checked in
    let r = c.in_ok-left.left.0 in
    c.requires.expandable r
    (has_checks c.args.lowered checked r c.requires.none_added c.requires.closed c.requires.variables
    c.in_ok-checked.ensures.checks c.in_ok-checked.ensures.closed c.in_ok-checked.ensures.variables
    c.in_ok-left.ensures.dropped)

pub returns-clause-built : goal.returns-clause-built
returns-clause-built c =
    let checked = c.in_ok-checked.checked in
    let r = c.in_ok-left.left.0 in
    built_with c.args.lowered checked r c.args.map.now c.image_of_checked.result c.checks-count.result
    c.in_ok-left.left.1 c.with_checks.result
    (has_checks c.args.lowered checked r c.requires.none_added c.requires.closed c.requires.variables
    c.in_ok-checked.ensures.checks c.in_ok-checked.ensures.closed c.in_ok-checked.ensures.variables
    c.in_ok-left.ensures.dropped)
    c.in_ok-checked.ensures.checks c.in_ok-left.ensures.count c.image_of_checked.ensures c.with_checks.ensures.ok

pub returns-clause-refused : goal.returns-clause-refused
returns-clause-refused c =
    let checked = c.in_ok-checked.checked in
    let r = c.in_ok-left.left.0 in
    refused_checked c.args.lowered r c.args.map.now _ c.image_of_checked.result c.with_checks.result
    (has_checks c.args.lowered checked r c.requires.none_added c.requires.closed c.requires.variables
    c.in_ok-checked.ensures.checks c.in_ok-checked.ensures.closed c.in_ok-checked.ensures.variables
    c.in_ok-left.ensures.dropped)
    c.image_of_checked.ensures c.with_checks.ensures.err
