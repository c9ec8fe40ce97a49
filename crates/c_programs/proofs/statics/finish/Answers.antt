use Rattle.std.proofs.Common.{◌∙◌, drop, map, arith}
use Rattle.c_tree.specs.View.{static_of}
use Rattle.c_programs.specs.Statics.{finished}
use Rattle.c_programs.proofs.Filling.{finished_end, finished_next}
use Rattle.c_programs.proofs.statics.finish.Goals as goal

pub loop-number-preserved : goal.loop-number-preserved
loop-number-preserved c =
    let at = c.loop-number in
    let size = at.invariant.1 in (
      finished_next at.number at.found.items c.taken-object.new.slots.items at.parts.items
          c.taken-parts.new.slots.items c.taken-object.result c.taken-parts.result (map static_of at.objects.items)
          (map static_of c.add_finished.new.objects.items) (finished c.args.found.now.items c.args.parts.now.items)
          (omega arith) c.taken-object.ensures.value c.taken-parts.ensures.value c.taken-object.ensures.others
          c.taken-parts.ensures.others c.in_ok-add_finished.ensures at.invariant.0,
      c.taken-object.ensures.size ∙ at.invariant.1,
    )

pub returns : goal.returns
returns c =
    let at = c.loop-number in
    let size = at.invariant.1 in
    finished_end at.number at.found.items (drop at.number at.parts.items) (map static_of at.objects.items)
    (finished c.args.found.now.items c.args.parts.now.items) (omega arith) at.invariant.0
