-- What it means that an expression has a value whatever was done before.
use Rattle.std.specs.Prelude.{◌≡◌, ℕ, Some, slice_get}
use Rattle.obj_memory.specs.declared.value.Value.{Value}
use Rattle.obj_memory.specs.Objects.{Objects, pointer_to}
use Rattle.c_const.specs.Addresses.{Pointers}
use Rattle.source_meaning.specs.State.{State, Rvalue, Run, Gives}
use Rattle.source_meaning.specs.Structures.{rvalue}
use Rattle.source_meaning.specs.Expressions.{function_pointer}
use Rattle.source_meaning.specs.Acting.{at_work}

-- a run gives a value in a state, which it leaves as it is but for the count of work
pub record Finds (run : Run Rvalue) (value : Value) (state : State) : Type 0 where
  pub work : ℕ
  pub gives : run state ≡ Gives (rvalue value) (at_work work state)

-- pointers are those to the objects and functions of their numbers
pub record PointTo (ps : Pointers) (objects : Objects) : Type 0 where
  pub statics : (n : ℕ) (v : Value) → slice_get ps.statics n ≡ Some v → v ≡ pointer_to n objects
  pub functions : (f : ℕ) (v : Value) → slice_get ps.functions f ≡ Some v → v ≡ function_pointer f
