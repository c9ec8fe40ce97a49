use Rattle.std.proofs.Common.{◌≡◌, ◌+◌, ◌<◌, ◌-◌, ◌^◌, ap, ◌∙◌, subst}
use Rattle.std.specs.Prelude.{min}
use Rattle.check_insert.specs.Counting.{checks}
use Rattle.image_compiler.proofs.Compiled.{has_checks}
use Rattle.image_compiler.proofs.expanded_compiler.built_of.Goals as goal

pub image_of_expansion-requires : goal.image_of_expansion-requires
image_of_expansion-requires g c =
    let checked = c.in_ok-checked.checked in
    let r = c.in_ok-left.left.0 in
    c.requires.statics r
    (has_checks c.args.lowered checked r c.requires.none_added c.requires.closed c.requires.variables
    c.in_ok-checked.ensures.checks c.in_ok-checked.ensures.closed c.in_ok-checked.ensures.variables
    c.in_ok-left.ensures.dropped)

pub returns-clause-built : goal.returns-clause-built
returns-clause-built g c =
    let checked = c.in_ok-checked.checked in
    let r = c.in_ok-left.left.0 in
    record {
      checked = r;
      is = has_checks c.args.lowered checked r c.requires.none_added c.requires.closed c.requires.variables
          c.in_ok-checked.ensures.checks c.in_ok-checked.ensures.closed c.in_ok-checked.ensures.variables
          c.in_ok-left.ensures.dropped;
      image = c.in_ok-image.ensures;
      gone = subst (λ all. all < 2 ^ 64 → checks r + c.in_ok-left.left.1 ≡ all) c.in_ok-checked.ensures.checks.count
          c.in_ok-left.ensures.count;
    }

pub returns-clause-checks : goal.returns-clause-checks
returns-clause-checks g c =
    c.checks-count.ensures ∙ ap (min (2 ^ 64 - 1)) c.in_ok-checked.ensures.checks.count
