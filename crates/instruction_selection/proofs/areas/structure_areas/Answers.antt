use Rattle.std.proofs.Common.{◌≡◌, sym, ap, ◌∙◌, subst}
use Rattle.metadata_plan.specs.Registers.{most_temporaries}
use Rattle.metadata_expansion.specs.Areas.{AreGreatest}
use Rattle.instruction_selection.proofs.StructureAreas.{found_areas}
use Rattle.instruction_selection.proofs.areas.structure_areas.Goals as goal

pub returns : goal.returns
returns c =
    let t = c.args.program.now in
    let f = c.args.function.now in
    let count = c.most_temporaries-count.result in
    let numbers = c.in_ok-greatest.greatest.items in
    let most : count ≡ most_temporaries f.code =
    c.most_temporaries-count.ensures ∙ ap (λ is. most_temporaries is) c.as_slice-instructions.ensures in
    found_areas c.sums_within.result (λ v. v.items) t f c.deref.result.now count c.if-function-ne0.false most
    (subst (λ ns. AreGreatest ns count t f.code) (sym c.deref.ensures.value)
    (subst (λ is. AreGreatest numbers count t is) c.as_slice-instructions.ensures c.in_ok-greatest.ensures))
    c.sums_within.ensures
