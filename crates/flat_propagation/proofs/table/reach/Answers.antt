use Rattle.std.proofs.Common.{◌∷◌, [], List, sym, ◌∙◌, ap, subst, length, length-append, arith}
use Rattle.flat_propagation.specs.declared.table.Entry.{Entry}
use Rattle.flat_propagation.specs.Tables.{fact_among, AreBefore}
use Rattle.flat_propagation.proofs.Tables.{blank, padded, padded_before}
use Rattle.flat_propagation.proofs.table.reach.Goals as goal

pub loop-step-preserved : goal.loop-step-preserved
loop-step-preserved c =
    let es = c.loop-step.entries.items in
    let new = c.in_ok-push.ensures.items in
    let long = length-append es (blank ∷ []) in
    let same = ap (λ (l : List Entry). length l) new in
    let before = c.loop-step.invariant.size in
    record {
      size = omega (arith, same, long, before);
      facts = λ block y.
          ap (λ (l : List Entry). fact_among l block y) new
          ∙ padded es block y
          ∙ c.loop-step.invariant.facts block y;
      before = λ time some h.
          subst (λ (l : List Entry). AreBefore l time) (sym new)
          (padded_before es time some (c.loop-step.invariant.before time some h));
    }
