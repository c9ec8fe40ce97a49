use Rattle.std.proofs.Common.{◌≡◌, drop}
use Rattle.c_tree.specs.View.{expression_of}
use Rattle.c_lower.specs.Keys.{assigns_path}
use Rattle.program_lowering.proofs.keys.key.assigns_path.Given as goal

abbrev pub invariant-loop-member : goal.invariant-loop-member
invariant-loop-member l = assigns_path (expression_of l.a) (drop l.member-index l.path)
    ≡ assigns_path (expression_of l.fn.a) l.fn.path
