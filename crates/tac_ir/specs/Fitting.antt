-- Whether what an instruction is given is what it can be asked of: values are of the kinds of where they go, and what
-- is named is there. Where it is not the code is stuck.
use Rattle.std.specs.Prelude.{ℕ, ◌^◌, Bool, true, false, not, ◌&&◌, ◌||◌, ◌==◌, nat_lt, List, [], ◌∷◌, map}
use Rattle.std.specs.Prelude.{Option, Some, None, get_or, slice_get}
use Rattle.std.specs.List.{list_all}
use Rattle.obj_memory.specs.declared.int_type.IntType.TheVariants.{Int, UnsignedInt, UnsignedLong}
use Rattle.obj_memory.specs.declared.value.Tag.{Tag}
use Rattle.obj_memory.specs.declared.value.Tag.TheVariants.{Untagged, OfFunction, OfObject}
use Rattle.obj_memory.specs.declared.value.Scalar.{Scalar}
use Rattle.obj_memory.specs.declared.value.Scalar.TheVariants.{Integer, Pointer}
use Rattle.obj_memory.specs.declared.value.Value.{Value}
use Rattle.obj_memory.specs.Integers.{fit}
use Rattle.obj_memory.specs.Operators.{is_less}
use Rattle.obj_memory.specs.Objects.{ObjectState, Objects, object_at}
use Rattle.c_tree.specs.declared.expression.Kind.{Kind}
use Rattle.c_tree.specs.declared.expression.Kind.TheVariants.{Void, Scalar as OfScalar, Structure, Array}
use Rattle.c_tree.specs.declared.expression.Update.{Update}
use Rattle.c_tree.specs.declared.expression.Update.TheVariants.{Arithmetic, Forward, Back}
use Rattle.c_tree.specs.declared.format.Directive.{Directive}
use Rattle.c_tree.specs.declared.format.Directive.TheVariants as directive
use Rattle.c_tree.specs.declared.format.Piece.{Piece}
use Rattle.c_tree.specs.declared.program.Variable.{Variable}
use Rattle.c_tree.specs.Format.{directives}
use Rattle.c_tree.specs.Kinds.{integer, pointer, is_kind, size_of_kind}
use Rattle.c_tree.specs.Valid.{at_number}
use Rattle.source_meaning.specs.State.{State, Rvalue, Home, NoObject, InObject, Header}
use Rattle.source_meaning.specs.Actions.{plain_value}
use Rattle.tac_ir.specs.declared.key.Base.{Base}
use Rattle.tac_ir.specs.declared.key.Base.TheVariants.{Plain, Automatic, Static}
use Rattle.tac_ir.specs.declared.key.Key.{Key}
use Rattle.tac_ir.specs.declared.function.CountedLoop.{CountedLoop}
use Rattle.tac_ir.specs.declared.function.StaticData.{StaticData}
use Rattle.tac_ir.specs.Accesses.{is_place}

-- values

abbrev pub is_word : ℕ → Bool
is_word w = nat_lt w (2 ^ 64)

abbrev pub has_no_tag : Tag → Bool
has_no_tag Untagged = true
has_no_tag (OfFunction f) = false
has_no_tag (OfObject o b) = false

-- a value of a scalar type (C99 6.2.5): an integer has no tag, and its word is one of its type
abbrev pub is_of_type : Scalar → Value → Bool
is_of_type (Integer t) v = has_no_tag v.tag && fit t v.word == v.word
is_of_type Pointer v = is_word v.word

-- it has no contents
abbrev pub is_scalar_of : Scalar → Rvalue → Bool
is_scalar_of k v = is_place v.contents && is_of_type k v.value

-- of anything else a value without contents is a word
abbrev pub is_plain_word : Rvalue → Bool
is_plain_word v = is_place v.contents && is_word v.value.word

-- contents of so many bytes, from the first on
abbrev pub is_structure_of : Option ObjectState → (size offset : ℕ) → Bool
is_structure_of None size offset = false
is_structure_of (Some c) size offset = c.size == size && offset == 0

-- an argument or a result (6.5.2.2, 6.8.6.4): that of a structure is all of its contents, and that of `void` is no pointer
abbrev pub is_passed : Kind → Rvalue → Bool
is_passed Void v = is_plain_word v && has_no_tag v.value.tag
is_passed (OfScalar k) v = is_scalar_of k v
is_passed (Structure n) v = is_structure_of v.contents n v.value.word
is_passed (Array n) v = is_plain_word v

abbrev pub are_passed : List Kind → List Rvalue → Bool
are_passed [] [] = true
are_passed (k ∷ ks) (v ∷ vs) = is_passed k v && are_passed ks vs
are_passed _ _ = false

-- what is written to an lvalue of a kind (6.5.16.1); whether a structure is there is asked where it is moved
abbrev pub is_written : Kind → Rvalue → Bool
is_written Void v = true
is_written (OfScalar k) v = is_scalar_of k v
is_written (Structure n) v = true
is_written (Array n) v = true

-- contents move in place alone
abbrev pub is_in_place : Option ObjectState → (to from : ℕ) → Bool
is_in_place None d a = true
is_in_place (Some c) d a = d == a

-- plain variables

-- one of a type gets a value
abbrev pub is_held : Option Scalar → Rvalue → Bool
is_held None v = false
is_held (Some k) v = is_scalar_of k v

-- an integer is updated by an operator, and a pointer by elements (6.5.16.2)
abbrev pub is_update_of : Update → Scalar → Bool
is_update_of (Arithmetic op t) (Integer s) = true
is_update_of (Arithmetic op t) Pointer = false
is_update_of (Forward size) (Integer s) = false
is_update_of (Forward size) Pointer = true
is_update_of (Back size) (Integer s) = false
is_update_of (Back size) Pointer = true

abbrev pub is_type : Option Scalar → Scalar → Bool
is_type None k = false
is_type (Some l) k = is_kind (OfScalar l) (OfScalar k)

-- calls

-- the kinds of what a function takes
abbrev pub taken_by : Header → List Kind
taken_by f = map (λ v. v.kind) f.parameters

-- arguments of a call through a pointer are those of each function that has the type
abbrev pub fit_type : List Header → (type_number : ℕ) → List Rvalue → Bool
fit_type functions n vs = list_all (λ f. not (f.type_number == n) || are_passed (taken_by f) vs) functions

-- an argument of `printf` is one of its directive (7.19.6.1)
abbrev pub is_int : Rvalue → Bool
is_int v = is_passed (integer Int) v || is_passed (integer UnsignedInt) v

abbrev pub is_printed : Directive → Rvalue → Bool
is_printed directive.Int v = is_int v
is_printed directive.UnsignedInt v = is_int v
is_printed directive.Hexadecimal v = is_int v
is_printed directive.Character v = is_int v
is_printed directive.Long v = is_passed (integer UnsignedLong) v
is_printed directive.UnsignedLong v = is_passed (integer UnsignedLong) v
is_printed directive.String v = is_passed pointer v

abbrev pub each_printed : List Directive → List Rvalue → Bool
each_printed [] [] = true
each_printed (d ∷ ds) (v ∷ vs) = is_printed d v && each_printed ds vs
each_printed _ _ = false

abbrev pub are_printed : Option (List Piece) → List Rvalue → Bool
are_printed None vs = false
are_printed (Some ps) vs = each_printed (directives ps) vs

-- what is named

-- an object lives, and has so many bytes
abbrev pub is_whole : (size : ℕ) → ObjectState → Bool
is_whole size o = o.is_live && o.size == size

abbrev pub is_home_of : (size : ℕ) → Home → Objects → Bool
is_home_of size NoObject objects = false
is_home_of size (InObject n) objects = is_whole size (object_at objects n)

abbrev pub is_static_of : Option StaticData → ObjectState → Bool
is_static_of None o = false
is_static_of (Some d) o = is_whole d.size o

-- the object that a key begins with is as it was declared
abbrev pub is_base_there : List Variable → List StaticData → Base → State → Bool
is_base_there vs ds (Plain x) s = true
is_base_there vs ds (Automatic x) s =
    is_home_of (size_of_kind (at_number vs x).kind) (get_or s.frame x NoObject) s.objects
is_base_there vs ds (Static n) s = is_static_of (slice_get ds n) (object_at s.objects n)

-- a pointer that has a key is a word
abbrev pub is_of_key : List Variable → List StaticData → Option Key → State → Value → Bool
is_of_key vs ds None s v = true
is_of_key vs ds (Some key) s v = is_word v.word && is_base_there vs ds key.base s

-- loops and blocks

-- the variable of a counted loop lies from its start to below its bound, as an int
abbrev pub is_counted : Option CountedLoop → State → Bool
is_counted None s = false
is_counted (Some l) s =
    not (is_less true (plain_value l.variable s).word l.start) && is_less true (plain_value l.variable s).word l.bound

-- a variable whose block is not entered
abbrev pub has_no_home : Home → Bool
has_no_home NoObject = true
has_no_home (InObject o) = false

abbrev pub have_no_homes : List Home → List ℕ → Bool
have_no_homes frame xs = list_all (λ x. has_no_home (get_or frame x NoObject)) xs
