use Rattle.std.proofs.Common.{◌∙◌, map}
use Rattle.c_tree.specs.Room.{structure_bytes}
use Rattle.c_tree.specs.Tree.{expressions_in, kinds_of}
use Rattle.c_tree.specs.View.{expression_of}
use Rattle.c_room.proofs.Fitting.{structures_fit}
use Rattle.c_room.proofs.expression.call.Goals as goal

pub returns : goal.returns
returns c =
    c.passing.ensures _ (c.call_bytes.ensures
    ∙ structures_fit (structure_bytes c.args.kind) (kinds_of (expressions_in (map expression_of c.args.arguments.now))))
