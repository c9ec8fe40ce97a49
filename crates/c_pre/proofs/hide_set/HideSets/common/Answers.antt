use Rattle.std.proofs.Common.{sym, ap, ◌∙◌}
use Rattle.c_pre.specs.HideSets.{common}
use Rattle.c_pre.specs.SharedSets.{names_of}
use Rattle.c_pre.proofs.Sets.{common_itself, same_number}
use Rattle.c_pre.proofs.hide_set.HideSets.common.Goals as goal

pub returns-then-set-other-clause-names : goal.returns-then-set-other-clause-names
returns-then-set-other-clause-names c =
    let sets = c.args.self.now in
    sym (ap (common (names_of sets c.args.set)) (same_number sets c.args.other c.args.set (sym c.if-set-other.true))
    ∙ common_itself (names_of sets c.args.set))
