-- What must be true of an access for the step to go on.
use Rattle.std.specs.Prelude.{ℕ, ◌+◌, Bool, true, false, ◌&&◌, nat_le, cond, Option, Some, None}
use Rattle.obj_memory.specs.declared.value.Tag.{Tag}
use Rattle.obj_memory.specs.declared.value.Tag.TheVariants.{Untagged, OfFunction, OfObject}
use Rattle.obj_memory.specs.declared.value.Value.{Value}
use Rattle.obj_memory.specs.Objects.{ObjectState, Objects, object_at}
use Rattle.c_tree.specs.declared.expression.Kind.{Kind}
use Rattle.c_tree.specs.declared.expression.Kind.TheVariants.{Void, Scalar as OfScalar, Structure, Array}
use Rattle.source_meaning.specs.State.{Rvalue, Home, NoObject, InObject}
use Rattle.source_meaning.specs.Judging.{is_within, is_live_tag}
use Rattle.tac_ir.specs.declared.instruction.Mode.{Mode}
use Rattle.tac_ir.specs.declared.instruction.Mode.TheVariants.{Named, Unchecked, Judged}
use Rattle.tac_ir.specs.declared.instruction.Test.{Test}
use Rattle.tac_ir.specs.declared.instruction.Test.TheVariants.{Spatial, Temporal}
use Rattle.tac_ir.specs.Stage.{Stage, Stuck}

abbrev pub only_if : Bool → Stage → Stage
only_if b next = cond b next Stuck

-- some bytes from a pointer on are bytes of a live object, whatever the pointer's bounds
abbrev pub is_live_by : Tag → (word size : ℕ) → Objects → Bool
is_live_by Untagged word size objects = false
is_live_by (OfFunction f) word size objects = false
is_live_by (OfObject o b) word size objects =
    (object_at objects o).is_live
    && (nat_le (object_at objects o).address word
    && nat_le (word + size) ((object_at objects o).address + (object_at objects o).size))

abbrev pub is_live_at : (size : ℕ) → Value → Objects → Bool
is_live_at size p objects = is_live_by p.tag p.word size objects

-- some bytes are bytes of a live object or of contents
abbrev pub is_there : Option ObjectState → (size : ℕ) → Value → Objects → Bool
is_there None size v objects = is_live_at size v objects
is_there (Some c) size v objects = nat_le (v.word + size) c.size

-- the bounds allow it, and the object lives
abbrev pub is_inside : (size : ℕ) → Value → Objects → Bool
is_inside size v objects = is_within v.tag v.word size && is_live_tag v.tag objects

abbrev pub is_place : Option ObjectState → Bool
is_place None = true
is_place (Some c) = false

-- An access that gets no check is stuck unless it is of a live object or of contents. One through a pointer is not
-- stuck before it is checked; and then it is, unless its checks allow it.
abbrev pub admitted : Mode → (size : ℕ) → Rvalue → Objects → Stage → Stage
admitted Named size q objects next = only_if (is_there q.contents size q.value objects) next
admitted Unchecked size q objects next = only_if (is_place q.contents) next
admitted Judged size q objects next = only_if (is_place q.contents && is_inside size q.value objects) next

-- the life of an object is asked for alone where the bounds allow the access
abbrev pub can_check : Test → (size : ℕ) → Value → Bool
can_check Spatial size v = true
can_check Temporal size v = is_within v.tag v.word size

-- a structure value that is moved is there
abbrev pub moved_from : Kind → Rvalue → Objects → Stage → Stage
moved_from Void v objects next = next
moved_from (OfScalar k) v objects next = next
moved_from (Structure size) v objects next = only_if (is_there v.contents size v.value objects) next
moved_from (Array size) v objects next = next

-- the object of a variable lives
abbrev pub is_home : Home → Objects → Bool
is_home NoObject objects = false
is_home (InObject o) objects = (object_at objects o).is_live

abbrev pub is_through : Mode → Bool
is_through Named = false
is_through Unchecked = true
is_through Judged = true
