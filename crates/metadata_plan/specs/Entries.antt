-- Which temporaries have entries: beside the word of a pointer the base, bound, key and lock that SoftBound and CETS keep
-- with it. A temporary needs one at a node where the pointer that it holds may be read as a pointer later.
use Rattle.std.specs.Prelude.{◌≡◌, ◌≢◌, ℕ, ◌+◌, ◌-◌, ◌^◌, Bool, true, false, not, ◌&&◌, ◌==◌, nat_le, nat_lt, List}
use Rattle.std.specs.Prelude.{[], map, Option, Some, None, get_or, slice_get}
use Rattle.std.specs.List.{list_all}
use Rattle.obj_memory.specs.declared.value.Scalar.{Scalar}
use Rattle.obj_memory.specs.declared.value.Scalar.TheVariants.{Integer, Pointer}
use Rattle.c_tree.specs.declared.expression.Kind.{Kind}
use Rattle.c_tree.specs.declared.expression.Kind.TheVariants.{Void, Scalar as OfScalar, Structure}
use Rattle.c_tree.specs.declared.expression.OffsetForm.{OffsetForm}
use Rattle.c_tree.specs.declared.expression.OffsetForm.TheVariants as form
use Rattle.c_tree.specs.Kinds.{routine_signature}
use Rattle.source_meaning.specs.Good.{plain_type}
use Rattle.tac_ir.specs.declared.instruction.Mode.{Mode}
use Rattle.tac_ir.specs.declared.instruction.Mode.TheVariants.{Named, Unchecked, Judged}
use Rattle.tac_ir.specs.declared.instruction.Test.{Test}
use Rattle.tac_ir.specs.declared.instruction.Test.TheVariants.{Spatial, Temporal}
use Rattle.tac_ir.specs.declared.instruction.Instruction.{Instruction}
use Rattle.tac_ir.specs.declared.instruction.Instruction.TheVariants as tac
use Rattle.tac_ir.specs.declared.key.Base.{Base}
use Rattle.tac_ir.specs.declared.key.Base.TheVariants.{Plain, Automatic, Static}
use Rattle.tac_ir.specs.declared.key.Scaled.{Scaled}
use Rattle.tac_ir.specs.declared.key.Member.{Member}
use Rattle.tac_ir.specs.declared.key.Key.{Key}
use Rattle.tac_ir.specs.declared.function.CodeFunction.{CodeFunction}
use Rattle.tac_ir.specs.declared.function.Tac.{Tac}
use Rattle.tac_ir.specs.Edges.{LeadsTo}
use Rattle.tac_ir.specs.Meaning.{function_in}
use Rattle.tac_ir.specs.Structures.{greatest_structure}
use Rattle.metadata_plan.specs.Registers.{all_variables}

-- the temporaries of a function that have entries at a node
abbrev pub Entries : Type 0
Entries = (node temporary : ℕ) → Bool

-- what an instruction gives

-- the temporary that gets a value
abbrev pub given : Instruction → Option ℕ
given (tac.Constant d w m) = Some d
given (tac.FunctionPointer d f m) = Some d
given (tac.GetPlain d x m) = Some d
given (tac.UpdatePlain w k f line d x right m) = Some d
given (tac.HomePointer d x m) = Some d
given (tac.StaticPointer d n m) = Some d
given (tac.ZeroOf kind d m) = Some d
given (tac.Convert kind d a m) = Some d
given (tac.Unary op ty d a m) = Some d
given (tac.Binary op ty line d a b m) = Some d
given (tac.Offset form size d a b m) = Some d
given (tac.Difference size d a b m) = Some d
given (tac.Narrow offset size d a m) = Some d
given (tac.Member offset size d a m) = Some d
given (tac.Take kind line d a m) = Some d
given (tac.Read kind mode line key d a m) = Some d
given (tac.Write kind mode line key d a b m) = Some d
given (tac.Update w k f mode line at key d a right m) = Some d
given (tac.Library r line d n m) = Some d
given (tac.Print x line d n m) = Some d
given (tac.Call f line d n m) = Some d
given (tac.CallThrough type_number line d n m) = Some d
given _ = None

-- it is another than this
abbrev pub IsOther : Option ℕ → (temporary : ℕ) → Type 0
IsOther None y = Unit {0}
IsOther (Some d) y = y ≢ d

-- a pointer and an index in the order of their form (C99 6.5.6)
abbrev pub pointer_of : OffsetForm → (left right : ℕ) → ℕ
pointer_of form.PointerPlusIndex a b = a
pointer_of form.IndexPlusPointer a b = b
pointer_of form.PointerMinusIndex a b = a

-- a conversion to void leaves no value, and one to an integer no tag
abbrev pub converted_from : Kind → (from : ℕ) → Option ℕ
converted_from Void a = None
converted_from (OfScalar (Integer t)) a = None
converted_from _ a = Some a

-- a scalar is loaded; what else is read is where it lies
abbrev pub read_from : Kind → (from : ℕ) → Option ℕ
read_from (OfScalar k) a = None
read_from _ a = Some a

-- an assignment gives the value, and of a structure its place (6.5.16)
abbrev pub written_from : Kind → (pointer value : ℕ) → Option ℕ
written_from (OfScalar (Integer t)) a b = None
written_from (Structure n) a b = Some a
written_from _ a b = Some b

-- the temporary from whose entry that of the result is made
abbrev pub entry_source : Instruction → Option ℕ
entry_source (tac.Convert kind d a m) = converted_from kind a
entry_source (tac.Offset form size d a b m) = Some (pointer_of form a b)
entry_source (tac.Narrow offset size d a m) = Some a
entry_source (tac.Member offset size d a m) = Some a
entry_source (tac.Take kind line d a m) = Some a
entry_source (tac.Read kind mode line key d a m) = read_from kind a
entry_source (tac.Write kind mode line key d a b m) = written_from kind a b
entry_source _ = None

-- what an instruction reads

-- what is moved with an entry: of a structure the entry tells where it is
abbrev pub is_moved_with_entry : Kind → Bool
is_moved_with_entry (OfScalar Pointer) = true
is_moved_with_entry (Structure n) = true
is_moved_with_entry _ = false

abbrev pub is_structure : Kind → Bool
is_structure (Structure n) = true
is_structure _ = false

abbrev pub is_scalar : Kind → Bool
is_scalar (OfScalar k) = true
is_scalar _ = false

abbrev pub is_pointer_type : Option Scalar → Bool
is_pointer_type (Some Pointer) = true
is_pointer_type _ = false

-- one of so many temporaries from one on
abbrev pub is_among : (first count temporary : ℕ) → Bool
is_among d n y = nat_le d y && nat_lt y (d + n)

-- an argument from a temporary on that is moved with an entry, where the kinds of arguments are known
abbrev pub is_argument_with_entry : List Kind → (first count temporary : ℕ) → Bool
is_argument_with_entry kinds d n y = is_among d n y && is_moved_with_entry (get_or kinds (y - d) Void)

abbrev pub parameter_kinds : Option CodeFunction → List Kind
parameter_kinds None = []
parameter_kinds (Some c) = map (λ v. v.kind) c.parameters

-- what a key begins with is the name of an object
abbrev pub is_name : Base → Bool
is_name (Plain x) = false
is_name (Automatic x) = true
is_name (Static n) = true

-- a member that stands so many bytes behind the base, whatever the variables hold
abbrev pub is_unscaled : Option Scaled → Bool
is_unscaled None = true
is_unscaled (Some v) = false

abbrev pub is_fixed : Member → Bool
is_fixed m = is_unscaled m.scaled && nat_lt m.constant (2 ^ 32)

abbrev pub has_fixed_path : Key → Bool
has_fixed_path key = list_all is_fixed key.path

-- the key of a number in a function
abbrev pub key_in : CodeFunction → Option ℕ → Option Key
key_in c None = None
key_in c (Some n) = slice_get c.keys n

-- Whether a check reads the entry of its pointer. Where the key begins with an object's name, the object is there and
-- lives, so nothing is to be tested of its life; and where all members of the path are fixed, the bounds are so many bytes
-- behind its address.
abbrev pub can_compare : Test → Key → Bool
can_compare Spatial key = is_name key.base && has_fixed_path key
can_compare Temporal key = is_name key.base

abbrev pub reads_for : Test → Option Key → Bool
reads_for test None = true
reads_for test (Some key) = not (can_compare test key)

-- a temporary has an area where some instruction puts a structure into it
abbrev pub has_area : Tac → CodeFunction → (temporary : ℕ) → Bool
has_area t c i = nat_le 1 (greatest_structure t c.code i)

-- A scalar may be a member of contents, as of a result (C99 6.5.2.3 paragraph 3), where its temporary has an area: the
-- entry tells it from a place. What is judged is always a place.
abbrev pub may_read_part : Tac → CodeFunction → Mode → (temporary : ℕ) → Bool
may_read_part t c Named a = has_area t c a
may_read_part t c Unchecked a = false
may_read_part t c Judged a = false

-- Whether an instruction of a function reads a temporary as a pointer, with its entry. Any argument of `printf` may be a
-- string, and any of a call through a pointer may be one.
abbrev pub reads_entry : Tac → CodeFunction → Instruction → (temporary : ℕ) → Bool
reads_entry t c (tac.SetPlain x a m) y = y == a && is_pointer_type (plain_type (all_variables c) x)
reads_entry t c (tac.Take kind line d a m) y = y == a && is_structure kind
reads_entry t c (tac.Read kind mode line key d a m) y = y == a && (is_scalar kind && may_read_part t c mode a)
reads_entry t c (tac.Write kind mode line key d a b m) y = y == b && is_moved_with_entry kind
reads_entry t c (tac.StorePart kind line x offset a m) y = y == a && is_moved_with_entry kind
reads_entry t c (tac.Judge test size line key a m) y = y == a && reads_for test (key_in c key)
reads_entry t c (tac.Library r line d n m) y = is_argument_with_entry (routine_signature r).parameters d n y
reads_entry t c (tac.Print x line d n m) y = is_among d n y
reads_entry t c (tac.Call f line d n m) y = is_argument_with_entry (parameter_kinds (function_in t f)) d n y
reads_entry t c (tac.CallThrough type_number line d n m) y = is_among d (n + 1) y
reads_entry t c (tac.Return a) y = y == a && is_moved_with_entry (get_or t.results c.type_number Void)
reads_entry t c _ y = false

-- A set of temporaries with entries is closed: what is read as a pointer has one; what has one behind an instruction
-- that gives it no value has one before it; and so has the temporary from whose entry that of the result is made, where
-- the result has one.
pub record AreClosed (code : Tac) (function : CodeFunction) (entries : Entries) : Type 0 where
  pub read : (n y : ℕ) (i : Instruction) → slice_get function.code n ≡ Some i → reads_entry code function i y ≡ true
      → entries n y ≡ true
  pub kept : (n m y : ℕ) (i : Instruction) → slice_get function.code n ≡ Some i → LeadsTo i m → IsOther (given i) y
      → entries m y ≡ true → entries n y ≡ true
  pub made : (n m d a : ℕ) (i : Instruction) → slice_get function.code n ≡ Some i → LeadsTo i m → given i ≡ Some d
      → entry_source i ≡ Some a → entries m d ≡ true → entries n a ≡ true

-- the same of each function of a program
pub record AreAllClosed (code : Tac) (entries : (function : ℕ) → Entries) : Type 0 where
  pub by : (u : ℕ) (c : CodeFunction) → function_in code u ≡ Some c → AreClosed code c (entries u)

-- every temporary has one
abbrev pub every : Entries
every = λ n y. true
