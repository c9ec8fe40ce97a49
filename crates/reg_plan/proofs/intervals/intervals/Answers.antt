use Rattle.std.proofs.Common.{◌∙◌, ap, sym}
use Rattle.std.specs.Prelude.{slice_get}
use Rattle.std.proofs.lemmas.List.Sorted.{list_any-IsPermutation}
use Rattle.data_flow.specs.Runs.{in_run, is_covered}
use Rattle.reg_plan.proofs.Ranges.{small_permuted}
use Rattle.reg_plan.proofs.intervals.intervals.Goals as goal

pub merged-requires : goal.merged-requires
merged-requires c k r h =
    small_permuted c.args.runs.items c.sort_by_key.new.self.items c.in_ok-sort_by_key.ensures.permutation c.requires k r
    (ap (λ l. slice_get l k) (sym c.deref.ensures.value) ∙ h)

pub returns : goal.returns
returns c pc =
    c.in_ok-list.ensures pc ∙ ap (λ l. is_covered l pc) c.deref.ensures.value
    ∙ sym (list_any-IsPermutation (λ r. in_run r pc) c.args.runs.items c.sort_by_key.new.self.items
    c.in_ok-sort_by_key.ensures.permutation)
