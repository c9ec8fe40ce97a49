use Rattle.std.proofs.Common.{◌≡◌, drop}
use Rattle.check_elim.specs.Facts.{is_in_path}
use Rattle.check_elim.proofs.facts.is_in_path.Given as goal

abbrev pub invariant-loop-member : goal.invariant-loop-member
invariant-loop-member l = is_in_path (drop l.member-index l.path) l.variable ≡ is_in_path l.fn.path l.variable
