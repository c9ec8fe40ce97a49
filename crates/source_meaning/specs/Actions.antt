-- The actions that expressions and statements are made of. Three-address code has the same actions.
use Rattle.std.specs.Prelude.{ℕ, ◌+◌, ◌-◌, ◌*◌, ◌%◌, ◌^◌, ℤ, pos, Bool, true, false, ◌==◌, nat_lt, List, [], ◌∷◌, ◌++◌}
use Rattle.std.specs.Prelude.{Option, Some, None, get_or, set, length}
use Rattle.std.specs.Int.{w32, int_wrap}
use Rattle.behaviours.specs.Shown.{AccessKind, Read, Write}
use Rattle.sb_base.specs.declared.ending.Ending.TheVariants.{Spatial, Temporal, Divide, Keys}
use Rattle.obj_memory.specs.declared.int_type.IntType.{IntType}
use Rattle.obj_memory.specs.declared.int_type.IntType.TheVariants.{Long, UnsignedLong}
use Rattle.obj_memory.specs.declared.operator.BinaryOperator.{BinaryOperator}
use Rattle.obj_memory.specs.declared.value.Tag.TheVariants.{Untagged}
use Rattle.obj_memory.specs.declared.value.Value.{Value}
use Rattle.obj_memory.specs.declared.value.Scalar.{Scalar}
use Rattle.obj_memory.specs.declared.value.Scalar.TheVariants.{Integer, Pointer}
use Rattle.obj_memory.specs.declared.value.Place.{Place}
use Rattle.obj_memory.specs.declared.object.Storage.{Storage}
use Rattle.obj_memory.specs.declared.judgement.Verdict.{Verdict}
use Rattle.obj_memory.specs.declared.judgement.Verdict.TheVariants.{Outside, Dead, Inside}
use Rattle.obj_memory.specs.Integers.{fit}
use Rattle.obj_memory.specs.Operators.{binary_value, quotient, negated}
use Rattle.obj_memory.specs.Objects.{Objects, with_new, pointer_to}
use Rattle.obj_memory.specs.Judgement.{judge, named, moved}
use Rattle.obj_memory.specs.Access.{scalar_size, read_value, write_value, move_range}
use Rattle.c_tree.specs.declared.expression.Kind.{Kind}
use Rattle.c_tree.specs.declared.expression.Kind.TheVariants.{Void, Scalar as OfScalar, Structure, Array}
use Rattle.c_tree.specs.declared.expression.Update.{Update}
use Rattle.c_tree.specs.declared.expression.Update.TheVariants.{Arithmetic, Forward, Back}
use Rattle.c_tree.specs.declared.expression.OffsetForm.{OffsetForm}
use Rattle.c_tree.specs.declared.expression.OffsetForm.TheVariants.{PointerPlusIndex, IndexPlusPointer}
use Rattle.c_tree.specs.declared.expression.OffsetForm.TheVariants.{PointerMinusIndex}
use Rattle.c_tree.specs.declared.expression.Fixity.{Fixity}
use Rattle.c_tree.specs.declared.expression.Fixity.TheVariants.{Prefix, Postfix}
use Rattle.source_meaning.specs.State.{State, Home, NoObject, InObject, Run, ◌>>=◌, ◌>>◌, done, stop, pause, choose}
use Rattle.source_meaning.specs.State.{read_state, change, tally, Setting}

-- values

-- an integer has no tag
abbrev pub integer : ℕ → Value
integer w = record { word = w; tag = Untagged }

abbrev pub is_zero : Value → Bool
is_zero v = v.word == 0

-- the low 32 bits of a word, as an int
abbrev pub int_of : (word : ℕ) → ℤ
int_of w = int_wrap w32 (pos w)

-- the scalar of a kind
abbrev pub scalar_of : Kind → Scalar
scalar_of Void = Pointer
scalar_of (OfScalar k) = k
scalar_of (Structure n) = Pointer
scalar_of (Array n) = Pointer

-- the integer type at which operators see a scalar: pointers are compared as unsigned addresses
abbrev pub integer_type : Scalar → IntType
integer_type (Integer t) = t
integer_type Pointer = UnsignedLong

-- a value converted to a scalar (C99 6.3.1.3, 6.3.2.3): an integer has no tag, a pointer keeps the tag that there is
abbrev pub converted_to : Scalar → Value → Value
converted_to (Integer t) v = integer (fit t v.word)
converted_to Pointer v = v

-- a value converted to a kind; a conversion to void leaves none, for which a word of 0 stands (6.3.2.2)
abbrev pub converted : Kind → Value → Value
converted Void v = integer 0
converted (OfScalar k) v = converted_to k v
converted (Structure n) v = v
converted (Array n) v = v

-- a pointer moved back by some bytes
abbrev pub moved_back : (offset : ℕ) → Value → Value
moved_back offset v = moved (2 ^ 64 - offset % 2 ^ 64) v

-- a pointer and an index of elements of some size (6.5.6 paragraph 8)
abbrev pub offset_value : OffsetForm → (size : ℕ) → Value → Value → Value
offset_value PointerPlusIndex size p i = moved (i.word * size) p
offset_value IndexPlusPointer size i p = moved (i.word * size) p
offset_value PointerMinusIndex size p i = moved_back (i.word * size) p

-- the signed difference of two addresses in elements of some size, without its fraction (6.5.6 paragraph 9)
abbrev pub difference_value : (size : ℕ) → Value → Value → Value
difference_value size p q = integer (fit Long (quotient true (fit Long (p.word + negated q.word)) size))

-- operators

abbrev pub value_or_divide : Option ℕ → (line : ℕ) → Run Value
value_or_divide None line = stop (Divide line)
value_or_divide (Some w) line = done (integer w)

-- a binary operator in a type, which ends the run where the divisor is zero
abbrev pub operate : BinaryOperator → IntType → Value → Value → (line : ℕ) → Run Value
operate op t x y line = value_or_divide (binary_value op t x.word y.word) line

-- the new value of a scalar that is updated (6.5.16.2)
abbrev pub updated : Update → Scalar → (right : Value) → (line : ℕ) → (old : Value) → Run Value
updated (Arithmetic op t) k right line old = do
  new ← operate op t (integer (fit t old.word)) right line
  done (converted_to k new)
updated (Forward size) k right line old = done (moved (right.word * size) old)
updated (Back size) k right line old = done (moved_back (right.word * size) old)

-- which of the old value and the new one is given (6.5.2.4, 6.5.3.1)
abbrev pub given : Fixity → (old new : Value) → Value
given Prefix old new = new
given Postfix old new = old

-- plain values

abbrev pub plain_value : ℕ → State → Value
plain_value x s = get_or s.plain x (integer 0)

abbrev pub with_plain : ℕ → Value → State → State
with_plain x v s = record s { plain = set s.plain x v }

abbrev pub set_plain : ℕ → Value → Run (Unit {0})
set_plain x v = change (with_plain x v)

abbrev pub update_plain : ℕ → (Value → Run Value) → Fixity → Run Value
update_plain x new_of f = do
  old ← read_state (plain_value x)
  new ← new_of old
  set_plain x new
  done (given f old new)

-- objects

-- the verdict on an access that is judged, or on one that names its object
abbrev pub verdict_on : (is_judged : Bool) → (size : ℕ) → Value → Objects → Verdict
verdict_on true size v objects = judge size v objects
verdict_on false size v objects = named v objects

abbrev pub place_or_stop : Verdict → (line : ℕ) → Run Place
place_or_stop Outside line = stop (Spatial line)
place_or_stop Dead line = stop (Temporal line)
place_or_stop (Inside p) line = done p

-- the place of an access of some bytes through a pointer
abbrev pub located : (is_judged : Bool) → (size : ℕ) → Value → (line : ℕ) → Run Place
located is_judged size v line = do
  verdict ← read_state (λ s. verdict_on is_judged size v s.objects)
  place_or_stop verdict line

-- an access is noted
abbrev pub note : AccessKind → (address size : ℕ) → Run (Unit {0})
note kind address size =
    change (λ s. record s { accesses = s.accesses ++ (record { address = address; size = size; kind = kind } ∷ []) })

abbrev pub read_scalar : Scalar → (address : ℕ) → Place → Run Value
read_scalar k address p = do
  note Read address (scalar_size k)
  read_state (λ s. read_value k p s.objects)

abbrev pub write_scalar : Scalar → (address : ℕ) → Place → Value → Run (Unit {0})
write_scalar k address p v = do
  note Write address (scalar_size k)
  change (λ s. record s { objects = write_value k v p s.objects })

-- bytes moved with their tags, each of which is work
abbrev pub move_bytes : (size : ℕ) → (destination source : Place) → Run (Unit {0})
move_bytes size d s = do
  tally size
  change (λ state. record state { objects = move_range size d s state.objects })

-- a scalar read
abbrev pub load : Scalar → (is_judged : Bool) → Value → (line : ℕ) → Run Value
load k is_judged p line = do
  place ← located is_judged (scalar_size k) p line
  read_scalar k p.word place

-- a scalar written
abbrev pub store : Scalar → (is_judged : Bool) → Value → (line : ℕ) → Value → Run (Unit {0})
store k is_judged p line v = do
  place ← located is_judged (scalar_size k) p line
  write_scalar k p.word place v

-- a scalar judged once, read, and written
abbrev pub update : Scalar → (is_judged : Bool) → Value → (line : ℕ) → (Value → Run Value) → Fixity → Run Value
update k is_judged p line new_of f = do
  place ← located is_judged (scalar_size k) p line
  old ← read_scalar k p.word place
  new ← new_of old
  write_scalar k p.word place new
  done (given f old new)

-- the same as a read and a write, each through the pointer
abbrev pub update_in_parts : Scalar → Value → (line : ℕ) → (Value → Run Value) → Fixity → Run Value
update_in_parts k p line new_of f = do
  old ← load k false p line
  new ← new_of old
  store k false p line new
  done (given f old new)

-- a structure read: the value is the pointer
abbrev pub load_structure : (size : ℕ) → (is_judged : Bool) → Value → (line : ℕ) → Run Value
load_structure size is_judged p line = do
  located is_judged size p line
  done p

-- a structure moved from where it was read from
abbrev pub copy_structure : (size : ℕ) → (is_judged : Bool) → Value → (line : ℕ) → Value → Run (Unit {0})
copy_structure size is_judged p line v = do
  destination ← located is_judged size p line
  source ← located false size v line
  move_bytes size destination source

-- what an lvalue of a kind holds (6.3.2.1 paragraph 2)
abbrev pub read_lvalue : Kind → (is_judged : Bool) → Value → (line : ℕ) → Run Value
read_lvalue Void is_judged p line = done p
read_lvalue (OfScalar k) is_judged p line = load k is_judged p line
read_lvalue (Structure n) is_judged p line = load_structure n is_judged p line
read_lvalue (Array n) is_judged p line = done p

-- an lvalue of a kind gets a value; what is given is the value as it is stored (6.5.16 paragraph 3), of a pointer with
-- its tag, also where the place keeps none
abbrev pub write_lvalue : Kind → (is_judged : Bool) → Value → (line : ℕ) → Value → Run Value
write_lvalue Void is_judged p line v = done v
write_lvalue (OfScalar k) is_judged p line v = do
  store k is_judged p line v
  done v
write_lvalue (Structure n) is_judged p line v = do
  copy_structure n is_judged p line v
  done p
write_lvalue (Array n) is_judged p line v = done v

-- a new object and its number; placing it is work, and so is each byte that becomes zero
abbrev pub make_object : Storage → (address size : ℕ) → Run ℕ
make_object storage address size = do
  tally (1 + size)
  number ← read_state (λ s. length s.objects)
  change (λ s. record s { objects = with_new storage address size s.objects })
  done number

-- bytes put out, each of which is work
abbrev pub put_bytes : List ℕ → Run (Unit {0})
put_bytes bytes = do
  tally (length bytes)
  change (λ s. record s { output = s.output ++ bytes })

-- the pointer to the object of a variable
abbrev pub home_value : Home → Objects → Value
home_value NoObject objects = integer 0
home_value (InObject o) objects = pointer_to o objects

abbrev pub home_pointer : ℕ → State → Value
home_pointer x s = home_value (get_or s.frame x NoObject) s.objects

-- budgets

-- one turn more, where the limit allows it
abbrev pub begin_turn : (limit : ℕ) → Run (Unit {0})
begin_turn limit = do
  is_left ← read_state (λ s. nat_lt s.turns limit)
  choose is_left (change (λ s. record s { turns = s.turns + 1 })) pause

-- one key more, where the budget allows it
abbrev pub take_key : Setting → (line : ℕ) → Run (Unit {0})
take_key g line = do
  is_left ← read_state (λ s. nat_lt s.keys g.sizes.budgets.keys)
  choose is_left (change (λ s. record s { keys = s.keys + 1 })) (stop (Keys line))

-- the values of several runs, from left to right
abbrev pub each_value : {A : Type 0} → List (Run A) → Run (List A)
each_value [] = done []
each_value (r ∷ rs) = do
  v ← r
  vs ← each_value rs
  done (v ∷ vs)
