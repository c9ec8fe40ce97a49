-- No object dies, but by `free` and `realloc` and where a block or a call is left.
use Rattle.std.proofs.Common.{◌≡◌, ℕ, zero, suc, ◌+◌, List, [], ◌∷◌, Bool, true, false, ◌==◌, Option, Some, None}
use Rattle.std.proofs.Common.{length, drop, refl, ap, ◌∙◌}
use Rattle.sb_base.specs.declared.ending.Ending.{Ending}
use Rattle.sb_base.specs.declared.ending.Ending.TheVariants.{Spatial}
use Rattle.behaviours.specs.Shown.{AccessKind, Write}
use Rattle.obj_memory.specs.declared.int_type.IntType.{IntType}
use Rattle.obj_memory.specs.declared.int_type.IntType.TheVariants.{Char}
use Rattle.obj_memory.specs.declared.operator.BinaryOperator.{BinaryOperator}
use Rattle.obj_memory.specs.declared.object.Storage.{Storage}
use Rattle.obj_memory.specs.declared.object.Storage.TheVariants.{Allocated}
use Rattle.obj_memory.specs.declared.value.Tag.{Tag}
use Rattle.obj_memory.specs.declared.value.Tag.TheVariants.{Untagged, OfFunction, OfObject}
use Rattle.obj_memory.specs.declared.value.Value.{Value}
use Rattle.obj_memory.specs.declared.value.Place.{Place}
use Rattle.obj_memory.specs.declared.value.Scalar.{Scalar}
use Rattle.obj_memory.specs.declared.value.Scalar.TheVariants.{Integer}
use Rattle.obj_memory.specs.declared.judgement.Verdict.{Verdict}
use Rattle.obj_memory.specs.declared.judgement.Verdict.TheVariants.{Outside, Dead, Inside}
use Rattle.obj_memory.specs.Integers.{fit}
use Rattle.obj_memory.specs.Operators.{binary_value}
use Rattle.obj_memory.specs.Objects.{ObjectState, Objects, object_at, with_new, with_zeroed, pointer_to}
use Rattle.obj_memory.specs.Judgement.{moved, narrowed}
use Rattle.obj_memory.specs.Access.{scalar_size, write_value, write_bytes, move_range}
use Rattle.obj_memory.specs.Sound.{KeepsObjects}
use Rattle.obj_memory.proofs.Keeping.{keeps_value, keeps_moved, keeps_zeroed, keeps_bytes}
use Rattle.obj_memory.proofs.Making.{new_other}
use Rattle.c_tree.specs.declared.expression.Kind.{Kind}
use Rattle.c_tree.specs.declared.expression.Kind.TheVariants.{Void, Scalar as OfScalar, Structure, Array}
use Rattle.c_tree.specs.declared.expression.Update.{Update}
use Rattle.c_tree.specs.declared.expression.Update.TheVariants.{Arithmetic, Forward, Back}
use Rattle.c_tree.specs.declared.expression.Fixity.{Fixity}
use Rattle.c_tree.specs.declared.expression.Routine.{Routine}
use Rattle.c_tree.specs.declared.expression.Routine.TheVariants.{Malloc, Calloc, Free, Realloc, Memcpy, Memmove, Memset}
use Rattle.c_tree.specs.declared.expression.Routine.TheVariants.{Memcmp, Strlen, Strcmp, Strcpy, Strncpy, Strcat}
use Rattle.c_tree.specs.declared.expression.Routine.TheVariants.{Strchr, Putchar, Getchar, Puts, Exit, Abort}
use Rattle.c_tree.specs.declared.format.Directive.{Directive}
use Rattle.c_tree.specs.declared.format.Directive.TheVariants as directive
use Rattle.c_tree.specs.declared.format.Piece.{Piece}
use Rattle.c_tree.specs.declared.format.Piece.TheVariants as piece
use Rattle.c_tree.specs.declared.program.Variable.{Variable}
use Rattle.c_tree.specs.Format.{pieces}
use Rattle.c_tree.specs.Kinds.{size_of_kind}
use Rattle.source_meaning.specs.State.{State, Rvalue, Home, NoObject, InObject, Outcome, Gives, Ended, Paused, Run, on}
use Rattle.source_meaning.specs.State.{◌>>=◌, ◌>>◌, done, stop, choose, read_state, change, skip, tally, Header}
use Rattle.source_meaning.specs.State.{Setting}
use Rattle.source_meaning.specs.Acting.{state_of}
use Rattle.source_meaning.specs.Staying.{KeepsLives, frees}
use Rattle.source_meaning.specs.Actions.{integer, value_or_divide, operate, updated, given, plain_value, set_plain}
use Rattle.source_meaning.specs.Actions.{update_plain, place_or_stop, located, note, read_scalar, write_scalar}
use Rattle.source_meaning.specs.Actions.{move_bytes, load, store, update, load_structure, copy_structure, read_lvalue}
use Rattle.source_meaning.specs.Actions.{write_lvalue, make_object, put_bytes, take_key, verdict_on, home_value}
use Rattle.source_meaning.specs.Structures.{as_rvalue, put_range, put_contents, taken, take_value, copy_value}
use Rattle.source_meaning.specs.Structures.{write_rvalue, read_part, read_rvalue, with_contents, contents_size}
use Rattle.source_meaning.specs.Structures.{make_zero}
use Rattle.source_meaning.specs.Initializers.{zero_object, zero_home, zero_variable, store_bytes}
use Rattle.source_meaning.specs.Expressions.{callee_by, callee}
use Rattle.source_meaning.specs.Heap.{tally_blocks, block_place, make_block, allocate}
use Rattle.source_meaning.specs.Bytes.{look, set_bytes}
use Rattle.source_meaning.specs.Memory.{memmove, memset, memcmp}
use Rattle.source_meaning.specs.Strings.{reach, scan_within, scan, compare_within, write_string, strcpy, strncpy}
use Rattle.source_meaning.specs.Strings.{strcat, seek_within}
use Rattle.source_meaning.specs.Printing.{argument_bytes, formatted, pieces_or_none, print_formatted}
use Rattle.source_meaning.specs.Library.{next_byte, argument, routine}
use Rattle.source_meaning.specs.Blocks.{pass_or_stop, test_space, test_keys, place_object, place_variables, homes_over}
use Rattle.source_meaning.specs.Blocks.{enter_block}
use Rattle.source_meaning.specs.Calls.{test_charge, call_tests, body_objects, set_plain_values, write_parameter}
use Rattle.source_meaning.specs.Calls.{write_parameters, first_of, rest_of, lay_out, set_up}
use Rattle.source_meaning.proofs.Holding.{live_made}
use Rattle.source_meaning.proofs.SureStructures.{keeps_put}

-- runs one after another

abbrev IsLive : State → ℕ → Type 0
IsLive s n = (object_at s.objects n).is_live ≡ true

on_live : {A B : Type 0} (n : ℕ) (o : Outcome A) (f : A → Run B) → ((a : A) → KeepsLives (f a)) → IsLive (state_of o) n
    → IsLive (state_of (on o f)) n
on_live n (Gives a s) f g h = (g a).live s n h
on_live n (Ended e s) f g h = h
on_live n (Paused s) f g h = h

pub lives_on : {A B : Type 0} {r : Run A} {f : A → Run B} → KeepsLives r → ((a : A) → KeepsLives (f a))
    → KeepsLives (r >>= f)
lives_on {r = r} {f = f} h g = record { live = λ s n l. on_live n (r s) f g (h.live s n l) }

pub lives_then : {A B : Type 0} {r : Run A} {q : Run B} → KeepsLives r → KeepsLives q → KeepsLives (r >> q)
lives_then {r = r} {q = q} h g = record { live = λ s n l. on_live n (r s) (λ _. q) (λ _. g) (h.live s n l) }

lives_done : {A : Type 0} {a : A} → KeepsLives (done a)
lives_done = record { live = λ s n l. l }

lives_skip : KeepsLives skip
lives_skip = record { live = λ s n l. l }

lives_stop : {A : Type 0} {e : Ending} → KeepsLives (stop {A = A} e)
lives_stop = record { live = λ s n l. l }

lives_choose : {A : Type 0} (b : Bool) {r q : Run A} → KeepsLives r → KeepsLives q → KeepsLives (choose b r q)
lives_choose true h g = h
lives_choose false h g = g

lives_read : {A : Type 0} {f : State → A} → KeepsLives (read_state f)
lives_read = record { live = λ s n l. l }

lives_tally : (n : ℕ) → KeepsLives (tally n)
lives_tally n = record { live = λ s n l. l }

-- a change that is not to objects
lives_change : {f : State → State} → ((s : State) → (f s).objects ≡ s.objects) → KeepsLives (change f)
lives_change {f = f} e = record { live = λ s n l. ap (λ o. (object_at o n).is_live) (e s) ∙ l }

-- other bytes and tags
lives_objects : (f : Objects → Objects) → ((o : Objects) → KeepsObjects o (f o))
    → KeepsLives (change (λ s. record s { objects = f s.objects }))
lives_objects f k = record { live = λ s n l. ((k s.objects).at n).live ∙ l }

lives_new : (storage : Storage) (address size : ℕ)
    → KeepsLives (change (λ s. record s { objects = with_new storage address size s.objects }))
lives_new storage address size = record {
  live = λ s n l. ap (λ (o : ObjectState). o.is_live)
      (new_other storage address size n s.objects (live_made s.objects n l)) ∙ l;
}

ruleset lives_basic = (lives_on, lives_then, lives_done, lives_skip, lives_stop, lives_read, lives_tally, lives_choose)

-- accesses

lives_place : (v : Verdict) (line : ℕ) → KeepsLives (place_or_stop v line)
lives_place Outside line = lives_stop
lives_place Dead line = lives_stop
lives_place (Inside p) line = lives_done

pub lives_located : (j : Bool) (size : ℕ) (v : Value) (line : ℕ) → KeepsLives (located j size v line)
lives_located j size v line = lives_on (lives_read {f =
    λ s. verdict_on j size v s.objects}) (λ verdict. lives_place verdict line)

lives_note : (kind : AccessKind) (address size : ℕ) → KeepsLives (note kind address size)
lives_note kind address size = lives_change (λ s. refl)

pub lives_read_scalar : (k : Scalar) (address : ℕ) (p : Place) → KeepsLives (read_scalar k address p)
lives_read_scalar k address p = search (lives_basic, lives_note)

pub lives_write_scalar : (k : Scalar) (address : ℕ) (p : Place) (v : Value) → KeepsLives (write_scalar k address p v)
lives_write_scalar k address p v =
    lives_then (lives_note Write address (scalar_size k)) (lives_objects (write_value k v p) (keeps_value k v p))

pub lives_move_bytes : (size : ℕ) (d s : Place) → KeepsLives (move_bytes size d s)
lives_move_bytes size d s = lives_then (lives_tally size) (lives_objects (move_range size d s) (keeps_moved size d s))

pub lives_load : (k : Scalar) (j : Bool) (p : Value) (line : ℕ) → KeepsLives (load k j p line)
lives_load k j p line = lives_on (lives_located j _ p line) (λ place. lives_read_scalar k p.word place)

pub lives_store : (k : Scalar) (j : Bool) (p : Value) (line : ℕ) (v : Value) → KeepsLives (store k j p line v)
lives_store k j p line v = lives_on (lives_located j _ p line) (λ place. lives_write_scalar k p.word place v)

pub lives_update : (k : Scalar) (j : Bool) (p : Value) (line : ℕ) (f : Value → Run Value) (fixity : Fixity)
    → ((v : Value) → KeepsLives (f v)) → KeepsLives (update k j p line f fixity)
lives_update k j p line f fixity h =
    lives_on (lives_located j _ p line)
    (λ place. lives_on (lives_read_scalar k p.word place)
    (λ old. lives_on (h old)
    (λ new. lives_then (lives_write_scalar k p.word place new) (lives_done {a = given fixity old new}))))

lives_load_structure : (size : ℕ) (j : Bool) (p : Value) (line : ℕ) → KeepsLives (load_structure size j p line)
lives_load_structure size j p line = lives_then (lives_located j size p line) lives_done

lives_copy_structure : (size : ℕ) (j : Bool) (p : Value) (line : ℕ) (v : Value)
    → KeepsLives (copy_structure size j p line v)
lives_copy_structure size j p line v =
    lives_on (lives_located j size p line)
    (λ d. lives_on (lives_located false size v line) (λ s. lives_move_bytes size d s))

pub lives_read_lvalue : (kind : Kind) (j : Bool) (p : Value) (line : ℕ) → KeepsLives (read_lvalue kind j p line)
lives_read_lvalue Void j p line = lives_done
lives_read_lvalue (OfScalar k) j p line = lives_load k j p line
lives_read_lvalue (Structure n) j p line = lives_load_structure n j p line
lives_read_lvalue (Array n) j p line = lives_done

pub lives_write_lvalue : (kind : Kind) (j : Bool) (p : Value) (line : ℕ) (v : Value)
    → KeepsLives (write_lvalue kind j p line v)
lives_write_lvalue Void j p line v = lives_done
lives_write_lvalue (OfScalar k) j p line v = lives_then (lives_store k j p line v) lives_done
lives_write_lvalue (Structure n) j p line v = lives_then (lives_copy_structure n j p line v) lives_done
lives_write_lvalue (Array n) j p line v = lives_done

-- values

lives_value_or_divide : (o : Option ℕ) (line : ℕ) → KeepsLives (value_or_divide o line)
lives_value_or_divide None line = lives_stop
lives_value_or_divide (Some w) line = lives_done

pub lives_operate : (op : BinaryOperator) (t : IntType) (x y : Value) (line : ℕ) → KeepsLives (operate op t x y line)
lives_operate op t x y line = lives_value_or_divide (binary_value op t x.word y.word) line

pub lives_updated : (u : Update) (k : Scalar) (right : Value) (line : ℕ) (old : Value)
    → KeepsLives (updated u k right line old)
lives_updated (Arithmetic op t) k right line old =
    lives_on (lives_operate op t (integer (fit t old.word)) right line) (λ new. lives_done)
lives_updated (Forward size) k right line old = lives_done
lives_updated (Back size) k right line old = lives_done

pub lives_set_plain : (x : ℕ) (v : Value) → KeepsLives (set_plain x v)
lives_set_plain x v = lives_change (λ s. refl)

pub lives_update_plain : (x : ℕ) (f : Value → Run Value) (fixity : Fixity) → ((v : Value) → KeepsLives (f v))
    → KeepsLives (update_plain x f fixity)
lives_update_plain x f fixity h = lives_on (lives_read {f = plain_value x})
    (λ old. lives_on (h old) (λ new. lives_then (lives_set_plain x new) (lives_done {a = given fixity old new})))

pub lives_callee : (functions : List Header) (type_number : ℕ) (v : Value) (line : ℕ)
    → KeepsLives (callee functions type_number v line)
lives_callee functions type_number v line = by v.tag
  where
    by : (t : Tag) → KeepsLives (callee_by functions type_number v.word t line)
    by Untagged = lives_stop
    by (OfFunction f) = lives_choose _ lives_done lives_stop
    by (OfObject o b) = lives_stop

-- objects

pub lives_make_object : (storage : Storage) (address size : ℕ) → KeepsLives (make_object storage address size)
lives_make_object storage address size =
    lives_then (lives_tally (1 + size))
    (lives_on (lives_read {f = λ s. length s.objects})
    (λ number. lives_then (lives_new storage address size) (lives_done {a = number})))

pub lives_put_bytes : (bytes : List ℕ) → KeepsLives (put_bytes bytes)
lives_put_bytes bytes = search (lives_basic, lives_change)

pub lives_take_key : (g : Setting) (line : ℕ) → KeepsLives (take_key g line)
lives_take_key g line = search (lives_basic, lives_change) depth 9

lives_zero_object : (o : ℕ) → KeepsLives (zero_object o)
lives_zero_object o = lives_on (lives_read {f =
    λ s. (object_at s.objects o).size})
    (λ size. lives_then (lives_tally size) (lives_objects (with_zeroed o) (keeps_zeroed o)))

lives_zero_home : (home : Home) → KeepsLives (zero_home home)
lives_zero_home NoObject = lives_skip
lives_zero_home (InObject o) = lives_zero_object o

pub lives_zero_variable : (x : ℕ) → KeepsLives (zero_variable x)
lives_zero_variable x = lives_on lives_read lives_zero_home

pub lives_store_bytes : (p : Value) (offset : ℕ) (bytes : List ℕ) → KeepsLives (store_bytes p offset bytes)
lives_store_bytes p offset [] = lives_skip
lives_store_bytes p offset (b ∷ bs) =
    lives_then (lives_store (Integer Char) false (narrowed offset 1 p) 0 (integer b))
    (lives_store_bytes p (offset + 1) bs)

-- structures by value

lives_put_contents : (size : ℕ) (d : Place) (source : ℕ) (c : ObjectState) → KeepsLives (put_contents size d source c)
lives_put_contents size d source c =
    lives_then (lives_tally size) (lives_objects (put_range size d source c) (keeps_put size d source c))

lives_copy_value : (c : Option ObjectState) (size : ℕ) (j : Bool) (p : Value) (line : ℕ) (v : Value)
    → KeepsLives (copy_value c size j p line v)
lives_copy_value None size j p line v = lives_copy_structure size j p line v
lives_copy_value (Some c) size j p line v =
    lives_on (lives_located j size p line) (λ d. lives_put_contents size d v.word c)

lives_as_rvalue : {r : Run Value} → KeepsLives r → KeepsLives (as_rvalue r)
lives_as_rvalue h = lives_on h (λ v. lives_done)

pub lives_write_rvalue : (kind : Kind) (j : Bool) (p : Value) (line : ℕ) (v : Rvalue)
    → KeepsLives (write_rvalue kind j p line v)
lives_write_rvalue Void j p line v = lives_done
lives_write_rvalue (OfScalar k) j p line v = lives_as_rvalue (lives_write_lvalue (OfScalar k) j p line v.value)
lives_write_rvalue (Structure n) j p line v = lives_then (lives_copy_value v.contents n j p line v.value) lives_done
lives_write_rvalue (Array n) j p line v = lives_done

lives_read_part : (c : Option ObjectState) (kind : Kind) (j : Bool) (q : Value) (line : ℕ)
    → KeepsLives (read_part c kind j q line)
lives_read_part None kind j q line = lives_as_rvalue (lives_read_lvalue kind j q line)
lives_read_part (Some c) kind j q line = lives_done

pub lives_read_rvalue : (kind : Kind) (j : Bool) (q : Rvalue) (line : ℕ) → KeepsLives (read_rvalue kind j q line)
lives_read_rvalue kind j q line = lives_read_part q.contents kind j q.value line

lives_taken : (c : Option ObjectState) (size : ℕ) (v : Value) (line : ℕ) → KeepsLives (taken c size v line)
lives_taken None size v line = lives_on (lives_located false size v line)
    (λ p. lives_then (lives_tally size)
    (lives_read {f = λ s. with_contents size p.offset (object_at s.objects p.object)}))
lives_taken (Some c) size v line = lives_then (lives_tally size) lives_done

pub lives_take_value : (kind : Kind) (line : ℕ) (v : Rvalue) → KeepsLives (take_value kind line v)
lives_take_value Void line v = lives_done
lives_take_value (OfScalar k) line v = lives_done
lives_take_value (Structure n) line v = lives_taken v.contents n v.value line
lives_take_value (Array n) line v = lives_done

pub lives_make_zero : (kind : Kind) → KeepsLives (make_zero kind)
lives_make_zero kind = lives_then (lives_tally (contents_size kind)) lives_done

-- calls and blocks

lives_pass : (b : Bool) (e : Ending) → KeepsLives (pass_or_stop b e)
lives_pass true e = lives_skip
lives_pass false e = lives_stop

lives_test_space : (g : Setting) (vs : List Variable) (line : ℕ) → KeepsLives (test_space g vs line)
lives_test_space g vs line = search (lives_basic, lives_pass)

lives_test_keys : (g : Setting) (vs : List Variable) (line : ℕ) → KeepsLives (test_keys g vs line)
lives_test_keys g vs line = lives_choose _ (lives_take_key g line) lives_skip

lives_test_charge : (g : Setting) (f : Header) (line : ℕ) → KeepsLives (test_charge g f line)
lives_test_charge g f line = search (lives_basic, lives_pass)

lives_call_tests : (g : Setting) (f : Header) (line : ℕ) → KeepsLives (call_tests g f line)
lives_call_tests g f line =
    lives_then (lives_test_charge g f line)
    (lives_then (lives_test_space g (body_objects f) line) (lives_test_keys g (body_objects f) line))

lives_place_object : (size : ℕ) → KeepsLives (place_object size)
lives_place_object size = search (lives_basic, lives_change, lives_make_object) depth 9

lives_place_variables : (vs : List Variable) → KeepsLives (place_variables vs)
lives_place_variables [] = lives_done
lives_place_variables (v ∷ vs) =
    lives_on (lives_choose v.is_object (lives_place_object (size_of_kind v.kind)) lives_done)
    (λ home. lives_on (lives_place_variables vs) (λ homes. lives_done))

lives_write_parameter : (kind : Kind) (home : Home) (line : ℕ) (v : Rvalue)
    → KeepsLives (write_parameter kind home line v)
lives_write_parameter kind NoObject line v = lives_skip
lives_write_parameter kind (InObject o) line v =
    lives_on (lives_read {f = λ s. home_value (InObject o) s.objects})
    (λ p. lives_then (lives_write_rvalue kind false p line v) lives_skip)

lives_write_parameters : (ps : List Variable) (homes : List Home) (line : ℕ) (vs : List Rvalue)
    → KeepsLives (write_parameters ps homes line vs)
lives_write_parameters [] homes line vs = lives_skip
lives_write_parameters (p ∷ ps) [] line vs = lives_skip
lives_write_parameters (p ∷ ps) (home ∷ homes) line vs =
    lives_then (lives_write_parameter p.kind home line (first_of vs))
    (lives_write_parameters ps homes line (rest_of vs))

lives_set_plain_values : (f : Header) (vs : List Rvalue) → KeepsLives (set_plain_values f vs)
lives_set_plain_values f vs = search (lives_basic, lives_change)

lives_lay_out : (f : Header) (vs : List Rvalue) (line : ℕ) → KeepsLives (lay_out f vs line)
lives_lay_out f vs line =
    search (lives_basic, lives_change, lives_set_plain_values, lives_place_variables, lives_write_parameters) depth 12

pub lives_set_up : (g : Setting) (f : Header) (vs : List Rvalue) (line : ℕ) → KeepsLives (set_up g f vs line)
lives_set_up g f vs line =
    lives_then (lives_tally 1) (lives_then (lives_call_tests g f line) (lives_lay_out f vs line))

pub lives_enter_block : (g : Setting) (vs : List Variable) (line : ℕ) → KeepsLives (enter_block g vs line)
lives_enter_block g vs line =
    lives_then (lives_test_space g vs line) (lives_then (lives_test_keys g vs line)
    (lives_on (lives_read {f = λ s. s.frame})
    (λ frame. lives_on (lives_read {f = λ s. s.stacked}) (λ top. lives_on (lives_place_variables vs) (λ homes.
    lives_then (lives_change {f = λ z. record z { frame = homes_over frame homes }} (λ s. refl))
    (lives_done {a = record { homes = homes; frame = frame; stacked = top }}))))))

-- the library

lives_tally_blocks : KeepsLives tally_blocks
lives_tally_blocks = lives_on lives_read (λ count. lives_tally (1 + count))

lives_make_block : (g : Setting) (size line : ℕ) (place : Option ℕ) → KeepsLives (make_block g size line place)
lives_make_block g size line None = lives_done
lives_make_block g size line (Some address) =
    lives_then (lives_take_key g line)
    (lives_on (lives_make_object Allocated address size) (λ o. lives_read {f = λ s. pointer_to o s.objects}))

lives_allocate : (g : Setting) (size line : ℕ) → KeepsLives (allocate g size line)
lives_allocate g size line = lives_then lives_tally_blocks (lives_on (lives_read {f =
    λ s. block_place g size s.objects}) (λ place. lives_make_block g size line place))

lives_look : (p : Value) (line : ℕ) → KeepsLives (look p line)
lives_look p line = search (lives_basic, lives_located)

lives_set_bytes : (bytes : List ℕ) (place : Place) → KeepsLives (set_bytes bytes place)
lives_set_bytes bytes place =
    lives_then (lives_tally (length bytes)) (lives_objects (write_bytes bytes place) (keeps_bytes bytes place))

lives_memmove : (d s size : Value) (line : ℕ) → KeepsLives (memmove d s size line)
lives_memmove d s size line = search (lives_basic, lives_located, lives_move_bytes)

lives_memset : (d byte size : Value) (line : ℕ) → KeepsLives (memset d byte size line)
lives_memset d byte size line = search (lives_basic, lives_located, lives_set_bytes)

lives_memcmp : (a b size : Value) (line : ℕ) → KeepsLives (memcmp a b size line)
lives_memcmp a b size line = search (lives_basic, lives_located) depth 9

lives_scan_within : (count : ℕ) (behind : Run (List ℕ)) → KeepsLives behind → (p : Value) (line : ℕ)
    → KeepsLives (scan_within count behind p line)
lives_scan_within zero behind h p line = h
lives_scan_within (suc k) behind h p line =
    lives_on (lives_look p line)
    (λ byte. lives_choose _ lives_done
    (lives_on (lives_scan_within k behind h (moved 1 p) line) (λ others. lives_done)))

lives_scan : (s : Value) (line : ℕ) → KeepsLives (scan s line)
lives_scan s line = lives_scan_within (reach s) (stop (Spatial line)) lives_stop s line

lives_compare_within : (count : ℕ) (a b : Value) (line : ℕ) → KeepsLives (compare_within count a b line)
lives_compare_within zero a b line = lives_stop
lives_compare_within (suc k) a b line =
    lives_on (lives_look a line)
    (λ x. lives_on (lives_look b line)
    (λ y. lives_choose _ (lives_compare_within k (moved 1 a) (moved 1 b) line) lives_done))

lives_seek_within : (count c : ℕ) (p : Value) (line : ℕ) → KeepsLives (seek_within count c p line)
lives_seek_within zero c p line = lives_stop
lives_seek_within (suc k) c p line =
    lives_on (lives_look p line)
    (λ byte. lives_choose (byte == c) (lives_done {a = p})
    (lives_choose (byte == 0) (lives_done {a = integer 0}) (lives_seek_within k c (moved 1 p) line)))

lives_write_string : (d : Value) (bytes : List ℕ) (line : ℕ) → KeepsLives (write_string d bytes line)
lives_write_string d bytes line = search (lives_basic, lives_located, lives_set_bytes)

lives_strcpy : (d s : Value) (line : ℕ) → KeepsLives (strcpy d s line)
lives_strcpy d s line = lives_on (lives_scan s line) (λ bytes. lives_then (lives_write_string d bytes line) lives_done)

lives_strncpy : (d s size : Value) (line : ℕ) → KeepsLives (strncpy d s size line)
lives_strncpy d s size line =
    lives_choose _ lives_done (lives_on (lives_scan_within size.word (done []) lives_done s line) (λ bytes.
    lives_on (lives_located true size.word d line) (λ place. lives_then (lives_set_bytes _ place) lives_done)))

lives_strcat : (d s : Value) (line : ℕ) → KeepsLives (strcat d s line)
lives_strcat d s line =
    lives_on (lives_scan d line)
    (λ before. lives_on (lives_scan s line)
    (λ bytes. lives_then (lives_write_string (moved (length before) d) bytes line) lives_done))

next_byte_live : (bytes : List ℕ) (s : State) (n : ℕ) → IsLive s n → IsLive (state_of (next_byte bytes s)) n
next_byte_live [] s n l = l
next_byte_live (b ∷ bs) s n l = l

lives_argument_bytes : (d : Directive) (v : Value) (line : ℕ) → KeepsLives (argument_bytes d v line)
lives_argument_bytes directive.Int v line = lives_done
lives_argument_bytes directive.UnsignedInt v line = lives_done
lives_argument_bytes directive.Hexadecimal v line = lives_done
lives_argument_bytes directive.Character v line = lives_done
lives_argument_bytes directive.Long v line = lives_done
lives_argument_bytes directive.UnsignedLong v line = lives_done
lives_argument_bytes directive.String v line = lives_scan v line

lives_formatted : (ps : List Piece) (vs : List Value) (line : ℕ) → KeepsLives (formatted ps vs line)
lives_formatted [] vs line = lives_done
lives_formatted (piece.Byte b ∷ ps) vs line = lives_on (lives_formatted ps vs line) (λ others. lives_done)
lives_formatted (piece.Directive d ∷ ps) vs line =
    lives_on (lives_argument_bytes d _ line)
    (λ bytes. lives_on (lives_formatted ps (drop 1 vs) line) (λ others. lives_done))

pub lives_print : (format : List ℕ) (vs : List Value) (line : ℕ) → KeepsLives (print_formatted format vs line)
lives_print format vs line =
    lives_on (lives_formatted (pieces_or_none (pieces format)) vs line)
    (λ bytes. lives_then (lives_put_bytes bytes) lives_done)

freeing : {A : Type 0} → true ≡ false → A
freeing e = absurd (cc)

pub lives_routine : (g : Setting) (r : Routine) (vs : List Value) (line : ℕ) → frees r ≡ false
    → KeepsLives (routine g r vs line)
lives_routine g Malloc vs line e = lives_allocate g (argument 0 vs).word line
lives_routine g Calloc vs line e = lives_choose _ (lives_allocate g _ line) lives_done
lives_routine g Free vs line e = freeing e
lives_routine g Realloc vs line e = freeing e
lives_routine g Memcpy vs line e = lives_memmove (argument 0 vs) (argument 1 vs) (argument 2 vs) line
lives_routine g Memmove vs line e = lives_memmove (argument 0 vs) (argument 1 vs) (argument 2 vs) line
lives_routine g Memset vs line e = lives_memset (argument 0 vs) (argument 1 vs) (argument 2 vs) line
lives_routine g Memcmp vs line e = lives_memcmp (argument 0 vs) (argument 1 vs) (argument 2 vs) line
lives_routine g Strlen vs line e = lives_on (lives_scan (argument 0 vs) line) (λ bytes. lives_done)
lives_routine g Strcmp vs line e = lives_compare_within (reach (argument 0 vs)) (argument 0 vs) (argument 1 vs) line
lives_routine g Strcpy vs line e = lives_strcpy (argument 0 vs) (argument 1 vs) line
lives_routine g Strncpy vs line e = lives_strncpy (argument 0 vs) (argument 1 vs) (argument 2 vs) line
lives_routine g Strcat vs line e = lives_strcat (argument 0 vs) (argument 1 vs) line
lives_routine g Strchr vs line e =
    lives_seek_within (reach (argument 0 vs)) (fit Char (argument 1 vs).word) (argument 0 vs) line
lives_routine g Putchar vs line e = lives_then (lives_put_bytes _) lives_done
lives_routine g Getchar vs line e = record { live = λ s n l. next_byte_live s.input s n l }
lives_routine g Puts vs line e =
    lives_on (lives_scan (argument 0 vs) line) (λ bytes. lives_then (lives_put_bytes _) lives_done)
lives_routine g Exit vs line e = lives_stop
lives_routine g Abort vs line e = lives_stop
