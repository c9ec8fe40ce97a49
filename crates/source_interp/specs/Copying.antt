-- A structure that is assigned, and what is given then.
use Rattle.std.specs.Prelude.{ℕ, Bool, Option}
use Rattle.obj_memory.specs.declared.value.Value.{Value}
use Rattle.obj_memory.specs.Objects.{ObjectState}
use Rattle.c_tree.specs.declared.expression.Kind.{Kind}
use Rattle.source_meaning.specs.State.{Rvalue, Run, ◌>>◌, skip}
use Rattle.source_meaning.specs.Structures.{copy_value, give, write_rvalue}

-- it is moved from its contents or from its place, and its place is given
abbrev pub copied : Option ObjectState → (size : ℕ) → (is_judged : Bool) → (pointer : Value) → (line : ℕ) → Value
    → Run Rvalue
copied c size is_judged p line v = copy_value c size is_judged p line v >> give p

-- an lvalue gets a value, and what is given is let go
abbrev pub stored_rvalue : Kind → (is_judged : Bool) → (pointer : Value) → (line : ℕ) → Rvalue → Run (Unit {0})
stored_rvalue kind is_judged p line v = write_rvalue kind is_judged p line v >> skip
