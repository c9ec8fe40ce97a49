use Rattle.check_elim.specs.Available.{IsDroppable}
use Rattle.check_elim.proofs.Sameness.{same_tables, same_meaning, never_stuck, same_follows}
use Rattle.check_elim.proofs.Sameness.{droppable_skip}
use Rattle.check_elim.proofs.laws.code_without_available_checks_means_the_same.Goals as goal

pub returns : goal.returns
returns c = record {
  tables = λ t r drops. same_tables IsDroppable t r drops;
  meaning = λ t r drops budgets input fine. same_meaning t r IsDroppable drops budgets input fine
      (droppable_skip t budgets input);
  never = λ t r drops budgets input fine. never_stuck t r IsDroppable drops budgets input fine
      (droppable_skip t budgets input);
  follows = λ t r drops budgets input fine. same_follows t r IsDroppable drops budgets input fine
      (droppable_skip t budgets input);
}
