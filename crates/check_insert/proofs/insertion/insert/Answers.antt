use Rattle.std.proofs.Common.{map, ap, refl, ◌∙◌}
use Rattle.check_insert.specs.Building.{checked_function}
use Rattle.check_insert.proofs.Bodies.{program_closed, program_keeps}
use Rattle.check_insert.proofs.Nodes.{inserted_by}
use Rattle.check_insert.proofs.insertion.insert.Goals as goal

pub returns : goal.returns
returns c =
    let checked = c.from_vec.ensures ∙ c.in_ok-checked.ensures ∙ ap (map checked_function) c.into_vec.ensures in
    record {
      checks = inserted_by c.args.program _ _ _ _ checked refl refl refl;
      closed = program_closed c.args.program _ checked;
      variables = program_keeps c.args.program _ checked;
    }
