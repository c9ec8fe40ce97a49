use Rattle.std.proofs.Common.{ℕ, List, subst, sym}
use Rattle.std.proofs.lemmas.List.Sorted.{IsNonDecreasingBy-from_sort}
use Rattle.data_flow.specs.Relations.{Has}
use Rattle.reg_plan.proofs.Ranges.{has_permuted, has_sorted}
use Rattle.reg_plan.proofs.live.sorted.Goals as goal

pub returns-clause-sorted : goal.returns-clause-sorted
returns-clause-sorted c = IsNonDecreasingBy-from_sort (λ x. x) c.sort.new.self.items c.in_ok-sort.ensures.sorted

pub returns-clause-has : goal.returns-clause-has
returns-clause-has c x h =
    has_permuted c.in_ok-sorted.sorted.items c.sort.new.self.items c.in_ok-sort.ensures.permutation x
    (subst (λ (l : List ℕ). Has l x) (sym c.in_ok-sorted.ensures.items) h)

pub returns-clause-only : goal.returns-clause-only
returns-clause-only c x h =
    subst (λ (l : List ℕ). Has l x) c.in_ok-sorted.ensures.items
    (has_sorted c.in_ok-sorted.sorted.items c.sort.new.self.items c.in_ok-sort.ensures.permutation x h)
