use Rattle.std.proofs.Common.{List, length, map, arith}
use Rattle.std.proofs.lemmas.List.{length-map}
use Rattle.c_scope.specs.declared.meaning.Entity.{Entity}
use Rattle.c_scope.specs.Names.{Name, names_of}
use Rattle.c_programs.proofs.Filling.{entities_end, entities_next}
use Rattle.c_programs.proofs.linkage.add_entities.Goals as goal

pub loop-number-preserved : goal.loop-number-preserved
loop-number-preserved c =
    let at = c.loop-number in
    let names = names_of c.args.entities.now in
    let size = length-map names (λ (e : Name × Entity). e.1) in
    entities_next c.args.extents.now (map (λ (e : Name × Entity). e.1) names) at.number _ at.objects.items
    c.add_entity.new.objects.items _ (omega arith) c.at.ensures c.in_ok-add_entity.ensures at.invariant

pub returns : goal.returns
returns c =
    let at = c.loop-number in
    let names = names_of c.args.entities.now in
    let size = length-map names (λ (e : Name × Entity). e.1) in
    entities_end c.args.extents.now (map (λ (e : Name × Entity). e.1) names) at.number at.objects.items _ (omega arith)
    at.invariant
