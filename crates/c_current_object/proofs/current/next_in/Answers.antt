use Rattle.std.proofs.Common.{◌∙◌, refl, sym}
use Rattle.c_current_object.specs.Members.{lists_of}
use Rattle.c_current_object.proofs.Levels.{kept, returned}
use Rattle.c_current_object.proofs.current.next_in.Goals as goal

pub returns-in-Some-2 : goal.returns-in-Some-2
returns-in-Some-2 c =
    returned c.args.structures.now (lists_of c.args.members.now) c.pop.new.self.items c.loop-object.outer.items
    c.from_vec.result c.in-Some.field-0 c.in-Some.field-0.object c.in-Some-2.part c.in-Some.field-0.next _
    c.in-Some.ensures.items refl refl (sym c.in_ok-part.ensures ∙ c.in-Some-2.is)
    (c.from_vec.ensures ∙ c.in_ok-levels.ensures) c.loop-object.invariant

pub loop-object-preserved : goal.loop-object-preserved
loop-object-preserved c =
    kept c.args.structures.now (lists_of c.args.members.now) c.pop.new.self.items c.loop-object.outer.items
    c.in-Some.field-0 c.in-Some.field-0.object c.in-Some.field-0.next _ c.in-Some.ensures.items
    refl refl (sym c.in_ok-part.ensures ∙ c.in_default-2.is) c.loop-object.invariant
