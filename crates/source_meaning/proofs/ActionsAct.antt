-- The actions of expressions, initializers and calls are actions.
use Rattle.std.proofs.Common.{ℕ, ◌+◌, ◌≤◌, List, [], ◌∷◌, ◌++◌, Option, Some, None, Bool, true, false, refl, arith}
use Rattle.std.proofs.Common.{length}
use Rattle.behaviours.specs.Shown.{AccessKind}
use Rattle.behaviours.proofs.Moments.{prefix_refl, prefix_append}
use Rattle.sb_base.specs.declared.ending.Ending.{Ending}
use Rattle.obj_memory.specs.declared.int_type.IntType.{IntType}
use Rattle.obj_memory.specs.declared.int_type.IntType.TheVariants.{Char}
use Rattle.obj_memory.specs.declared.operator.BinaryOperator.{BinaryOperator}
use Rattle.obj_memory.specs.declared.value.Tag.{Tag}
use Rattle.obj_memory.specs.declared.value.Tag.TheVariants.{Untagged, OfFunction, OfObject}
use Rattle.obj_memory.specs.declared.value.Value.{Value}
use Rattle.obj_memory.specs.declared.value.Scalar.{Scalar}
use Rattle.obj_memory.specs.declared.value.Scalar.TheVariants.{Integer}
use Rattle.obj_memory.specs.declared.value.Place.{Place}
use Rattle.obj_memory.specs.declared.object.Storage.{Storage}
use Rattle.obj_memory.specs.declared.judgement.Verdict.{Verdict}
use Rattle.obj_memory.specs.declared.judgement.Verdict.TheVariants.{Outside, Dead, Inside}
use Rattle.obj_memory.specs.Integers.{fit}
use Rattle.obj_memory.specs.Operators.{binary_value}
use Rattle.obj_memory.specs.Objects.{ObjectState, Objects, object_at, with_dead}
use Rattle.obj_memory.specs.Judgement.{narrowed}
use Rattle.obj_memory.specs.Sound.{Continues}
use Rattle.obj_memory.proofs.Continuing.{continues_same, continues_then, continues_dead, continues_set}
use Rattle.c_tree.specs.declared.expression.Kind.{Kind}
use Rattle.c_tree.specs.declared.expression.Kind.TheVariants.{Void, Scalar as OfScalar, Structure, Array}
use Rattle.c_tree.specs.declared.expression.Update.{Update}
use Rattle.c_tree.specs.declared.expression.Update.TheVariants.{Arithmetic, Forward, Back}
use Rattle.c_tree.specs.declared.expression.Fixity.{Fixity}
use Rattle.c_tree.specs.declared.program.Variable.{Variable}
use Rattle.source_meaning.specs.State.{Home}
use Rattle.source_meaning.specs.State.{NoObject, InObject}
use Rattle.source_meaning.specs.State.{Run, change, Header, Setting}
use Rattle.c_tree.specs.Kinds.{size_of_kind}
use Rattle.source_meaning.specs.Actions.{integer, value_or_divide, operate, updated, given, set_plain, update_plain}
use Rattle.source_meaning.specs.Actions.{place_or_stop, located, note, read_scalar, write_scalar, move_bytes, load}
use Rattle.source_meaning.specs.Actions.{store, update, load_structure, copy_structure, read_lvalue, write_lvalue}
use Rattle.source_meaning.specs.Actions.{make_object, home_value, put_bytes, take_key}
use Rattle.source_meaning.specs.State.{Rvalue}
use Rattle.source_meaning.specs.Structures.{moved_into, put_range, put_contents, copy_value, as_rvalue, write_rvalue}
use Rattle.source_meaning.specs.Structures.{read_part, read_rvalue, with_contents, taken, take_value, contents_size}
use Rattle.source_meaning.specs.Structures.{make_zero}
use Rattle.source_meaning.specs.Statements.{Completion, Normal, Broken, Continued, Returned}
use Rattle.source_meaning.specs.Expressions.{callee_by, callee}
use Rattle.source_meaning.specs.Initializers.{zero_object, zero_home, zero_variable, store_bytes}
use Rattle.source_meaning.specs.Calls.{body_objects, test_charge, call_tests, first_of, rest_of, set_plain_values}
use Rattle.source_meaning.specs.Calls.{write_parameter, write_parameters, lay_out, set_up, Caller, back_to}
use Rattle.source_meaning.specs.Calls.{returned_by}
use Rattle.source_meaning.specs.Blocks.{pass_or_stop, place_object, place_variables, without_homes, test_space}
use Rattle.source_meaning.specs.Blocks.{test_keys, homes_over, Block, place_block, enter_block, leave_block}
use Rattle.source_meaning.specs.Acting.{IsAction}
use Rattle.source_meaning.proofs.Acting.{acts_on, acts_then, acts_done, acts_skip, acts_stop, acts_choose, acts_tally}
use Rattle.source_meaning.proofs.Acting.{acts_change, acts_private, changes, basic, acts_read}
use Rattle.source_meaning.proofs.Local.{IsLocal, local_on, local_then, local_done, local_skip, local_stop, local_choose}
use Rattle.source_meaning.proofs.Local.{local_read, local_tally, local_objects, local_changes, local_basic}

-- accesses

pub local_place_or_stop : (v : Verdict) (line : ℕ) → IsLocal (place_or_stop v line)
local_place_or_stop Outside line = local_stop
local_place_or_stop Dead line = local_stop
local_place_or_stop (Inside p) line = local_done

pub local_located : (j : Bool) (size : ℕ) (v : Value) (line : ℕ) → IsLocal (located j size v line)
local_located j size v line = search (local_basic, local_place_or_stop)

pub acts_note : (kind : AccessKind) (address size : ℕ) → IsAction (note kind address size)
acts_note kind address size = record {
  acts = λ s k. (
    k,
    refl,
    record {
      work = refl;
      turns = refl;
      later = record {
        output = prefix_refl s.output;
        accesses = prefix_append s.accesses _;
        taken = omega arith;
        work = omega arith;
        turns = omega arith;
        keys = omega arith;
        objects = continues_same s.objects;
      };
    },
  );
}

pub local_note : (kind : AccessKind) (address size : ℕ) → IsLocal (note kind address size)
local_note kind address size = record
    { action = acts_note kind address size; keeps = λ s. record { plain = refl; frame = refl } }

pub local_read_scalar : (k : Scalar) (address : ℕ) (p : Place) → IsLocal (read_scalar k address p)
local_read_scalar k address p = search (local_basic, local_note)

pub local_write_scalar : (k : Scalar) (address : ℕ) (p : Place) (v : Value) → IsLocal (write_scalar k address p v)
local_write_scalar k address p v = search (local_basic, local_note, local_changes)

pub local_move_bytes : (size : ℕ) (d s : Place) → IsLocal (move_bytes size d s)
local_move_bytes size d s = search (local_basic, local_changes)

pub local_load : (k : Scalar) (j : Bool) (p : Value) (line : ℕ) → IsLocal (load k j p line)
local_load k j p line = local_on (local_located j _ p line) (λ place. local_read_scalar k p.word place)

pub local_store : (k : Scalar) (j : Bool) (p : Value) (line : ℕ) (v : Value) → IsLocal (store k j p line v)
local_store k j p line v = local_on (local_located j _ p line) (λ place. local_write_scalar k p.word place v)

pub local_update : (k : Scalar) (j : Bool) (p : Value) (line : ℕ) (f : Value → Run Value) (fixity : Fixity)
    → ((v : Value) → IsLocal (f v)) → IsLocal (update k j p line f fixity)
local_update k j p line f fixity h =
    local_on (local_located j _ p line)
    (λ place. local_on (local_read_scalar k p.word place)
    (λ old. local_on (h old)
    (λ new. local_then (local_write_scalar k p.word place new) (local_done {a = given fixity old new}))))

pub local_load_structure : (size : ℕ) (j : Bool) (p : Value) (line : ℕ) → IsLocal (load_structure size j p line)
local_load_structure size j p line = local_then (local_located j size p line) local_done

pub local_copy_structure : (size : ℕ) (j : Bool) (p : Value) (line : ℕ) (v : Value)
    → IsLocal (copy_structure size j p line v)
local_copy_structure size j p line v = local_on (local_located j size p line)
    (λ d. local_on (local_located false size v line) (λ s. local_move_bytes size d s))

pub local_read_lvalue : (kind : Kind) (j : Bool) (p : Value) (line : ℕ) → IsLocal (read_lvalue kind j p line)
local_read_lvalue Void j p line = local_done
local_read_lvalue (OfScalar k) j p line = local_load k j p line
local_read_lvalue (Structure n) j p line = local_load_structure n j p line
local_read_lvalue (Array n) j p line = local_done

pub local_write_lvalue : (kind : Kind) (j : Bool) (p : Value) (line : ℕ) (v : Value)
    → IsLocal (write_lvalue kind j p line v)
local_write_lvalue Void j p line v = local_done
local_write_lvalue (OfScalar k) j p line v = local_then (local_store k j p line v) local_done
local_write_lvalue (Structure n) j p line v = local_then (local_copy_structure n j p line v) local_done
local_write_lvalue (Array n) j p line v = local_done

-- values

local_value_or_divide : (o : Option ℕ) (line : ℕ) → IsLocal (value_or_divide o line)
local_value_or_divide None line = local_stop
local_value_or_divide (Some w) line = local_done

pub local_operate : (op : BinaryOperator) (t : IntType) (x y : Value) (line : ℕ) → IsLocal (operate op t x y line)
local_operate op t x y line = local_value_or_divide (binary_value op t x.word y.word) line

pub local_updated : (u : Update) (k : Scalar) (right : Value) (line : ℕ) (old : Value)
    → IsLocal (updated u k right line old)
local_updated (Arithmetic op t) k right line old = local_on (local_operate op t (integer (fit t old.word)) right line)
    (λ new. local_done)
local_updated (Forward size) k right line old = local_done
local_updated (Back size) k right line old = local_done

pub acts_set_plain : (x : ℕ) (v : Value) → IsAction (set_plain x v)
acts_set_plain x v = acts_private (λ k s. refl) (λ s. refl) (λ s. refl) (λ s. refl) (λ s. refl) (λ s. refl) (λ s. refl)
    (λ s. refl)

pub acts_update_plain : (x : ℕ) (f : Value → Run Value) (fixity : Fixity) → ((v : Value) → IsAction (f v))
    → IsAction (update_plain x f fixity)
acts_update_plain x f fixity h = search (basic, acts_set_plain, h)

pub local_callee : (functions : List Header) (type_number : ℕ) (v : Value) (line : ℕ)
    → IsLocal (callee functions type_number v line)
local_callee functions type_number v line = by v.tag
  where
    by : (t : Tag) → IsLocal (callee_by functions type_number v.word t line)
    by Untagged = local_stop
    by (OfFunction f) = local_choose _ local_done local_stop
    by (OfObject o b) = local_stop

-- objects

pub local_make_object : (storage : Storage) (address size : ℕ) → IsLocal (make_object storage address size)
local_make_object storage address size = search (local_basic, local_changes) depth 9

acts_output : (bytes : List ℕ) → IsAction (change (λ s. record s { output = s.output ++ bytes }))
acts_output bytes = record {
  acts = λ s k. (
    k,
    refl,
    record {
      work = refl;
      turns = refl;
      later = record {
        output = prefix_append s.output bytes;
        accesses = prefix_refl s.accesses;
        taken = omega arith;
        work = omega arith;
        turns = omega arith;
        keys = omega arith;
        objects = continues_same s.objects;
      };
    },
  );
}

local_output : (bytes : List ℕ) → IsLocal (change (λ s. record s { output = s.output ++ bytes }))
local_output bytes = record { action = acts_output bytes; keeps = λ s. record { plain = refl; frame = refl } }

pub local_put_bytes : (bytes : List ℕ) → IsLocal (put_bytes bytes)
local_put_bytes bytes = local_then (local_tally (length bytes)) (local_output bytes)

one_more : (n : ℕ) → n ≤ n + 1
one_more n = omega arith

pub local_take_key : (g : Setting) (line : ℕ) → IsLocal (take_key g line)
local_take_key g line = search (local_basic, local_changes, one_more) depth 9

-- initializers

local_zero_object : (o : ℕ) → IsLocal (zero_object o)
local_zero_object o = search (local_basic, local_changes) depth 9

local_zero_home : (home : Home) → IsLocal (zero_home home)
local_zero_home NoObject = local_skip
local_zero_home (InObject o) = local_zero_object o

pub local_zero_variable : (x : ℕ) → IsLocal (zero_variable x)
local_zero_variable x = search (local_basic, local_zero_home)

pub local_store_bytes : (p : Value) (offset : ℕ) (bytes : List ℕ) → IsLocal (store_bytes p offset bytes)
local_store_bytes p offset [] = local_skip
local_store_bytes p offset (b ∷ bs) = local_then (local_store (Integer Char) false (narrowed offset 1 p) 0 (integer b))
    (local_store_bytes p (offset + 1) bs)

-- they are actions

pub acts_operate : (op : BinaryOperator) (t : IntType) (x y : Value) (line : ℕ) → IsAction (operate op t x y line)
acts_operate op t x y line = (local_operate op t x y line).action

pub acts_updated : (u : Update) (k : Scalar) (right : Value) (line : ℕ) (old : Value)
    → IsAction (updated u k right line old)
acts_updated u k right line old = (local_updated u k right line old).action

pub acts_located : (j : Bool) (size : ℕ) (v : Value) (line : ℕ) → IsAction (located j size v line)
acts_located j size v line = (local_located j size v line).action

pub acts_read_scalar : (k : Scalar) (address : ℕ) (p : Place) → IsAction (read_scalar k address p)
acts_read_scalar k address p = (local_read_scalar k address p).action

pub acts_write_scalar : (k : Scalar) (address : ℕ) (p : Place) (v : Value) → IsAction (write_scalar k address p v)
acts_write_scalar k address p v = (local_write_scalar k address p v).action

pub acts_move_bytes : (size : ℕ) (d s : Place) → IsAction (move_bytes size d s)
acts_move_bytes size d s = (local_move_bytes size d s).action

pub acts_read_lvalue : (kind : Kind) (j : Bool) (p : Value) (line : ℕ) → IsAction (read_lvalue kind j p line)
acts_read_lvalue kind j p line = (local_read_lvalue kind j p line).action

pub acts_write_lvalue : (kind : Kind) (j : Bool) (p : Value) (line : ℕ) (v : Value)
    → IsAction (write_lvalue kind j p line v)
acts_write_lvalue kind j p line v = (local_write_lvalue kind j p line v).action

pub acts_callee : (functions : List Header) (type_number : ℕ) (v : Value) (line : ℕ)
    → IsAction (callee functions type_number v line)
acts_callee functions type_number v line = (local_callee functions type_number v line).action

pub acts_make_object : (storage : Storage) (address size : ℕ) → IsAction (make_object storage address size)
acts_make_object storage address size = (local_make_object storage address size).action

pub acts_take_key : (g : Setting) (line : ℕ) → IsAction (take_key g line)
acts_take_key g line = (local_take_key g line).action

pub acts_zero_variable : (x : ℕ) → IsAction (zero_variable x)
acts_zero_variable x = (local_zero_variable x).action

pub acts_store_bytes : (p : Value) (offset : ℕ) (bytes : List ℕ) → IsAction (store_bytes p offset bytes)
acts_store_bytes p offset bytes = (local_store_bytes p offset bytes).action

pub acts_update : (k : Scalar) (j : Bool) (p : Value) (line : ℕ) (u : Update) (right : Value) (at : ℕ) (fixity : Fixity)
    → IsAction (update k j p line (updated u k right at) fixity)
acts_update k j p line u right at fixity =
    (local_update k j p line (updated u k right at) fixity (local_updated u k right at)).action

-- structures by value

pub continues_put : (size : ℕ) (d : Place) (source : ℕ) (c : ObjectState) (objects : Objects)
    → Continues objects (put_range size d source c objects)
unfolding put_range moved_into
continues_put size d source c objects = continues_set objects d.object _
    (record { storage = refl; address = refl; size = refl; dead = λ h. h })

local_put_contents : (size : ℕ) (d : Place) (source : ℕ) (c : ObjectState) → IsLocal (put_contents size d source c)
local_put_contents size d source c = local_then (local_tally size)
    (local_objects (put_range size d source c) (continues_put size d source c))

local_copy_value : (c : Option ObjectState) (size : ℕ) (j : Bool) (p : Value) (line : ℕ) (v : Value)
    → IsLocal (copy_value c size j p line v)
local_copy_value None size j p line v = local_copy_structure size j p line v
local_copy_value (Some c) size j p line v = local_on (local_located j size p line)
    (λ d. local_put_contents size d v.word c)

pub local_as_rvalue : {r : Run Value} → IsLocal r → IsLocal (as_rvalue r)
local_as_rvalue h = local_on h (λ v. local_done)

pub local_write_rvalue : (kind : Kind) (j : Bool) (p : Value) (line : ℕ) (v : Rvalue)
    → IsLocal (write_rvalue kind j p line v)
local_write_rvalue Void j p line v = local_done
local_write_rvalue (OfScalar k) j p line v = local_as_rvalue (local_write_lvalue (OfScalar k) j p line v.value)
local_write_rvalue (Structure n) j p line v = local_then (local_copy_value v.contents n j p line v.value) local_done
local_write_rvalue (Array n) j p line v = local_done

local_read_part : (c : Option ObjectState) (kind : Kind) (j : Bool) (q : Value) (line : ℕ)
    → IsLocal (read_part c kind j q line)
local_read_part None kind j q line = local_as_rvalue (local_read_lvalue kind j q line)
local_read_part (Some c) kind j q line = local_done

pub local_read_rvalue : (kind : Kind) (j : Bool) (q : Rvalue) (line : ℕ) → IsLocal (read_rvalue kind j q line)
local_read_rvalue kind j q line = local_read_part q.contents kind j q.value line

local_taken : (c : Option ObjectState) (size : ℕ) (v : Value) (line : ℕ) → IsLocal (taken c size v line)
local_taken None size v line = local_on (local_located false size v line)
    (λ p. local_then (local_tally size)
    (local_read {f = λ s. with_contents size p.offset (object_at s.objects p.object)} (λ k s. refl)))
local_taken (Some c) size v line = local_then (local_tally size) local_done

pub local_take_value : (kind : Kind) (line : ℕ) (v : Rvalue) → IsLocal (take_value kind line v)
local_take_value Void line v = local_done
local_take_value (OfScalar k) line v = local_done
local_take_value (Structure n) line v = local_taken v.contents n v.value line
local_take_value (Array n) line v = local_done

pub acts_write_rvalue : (kind : Kind) (j : Bool) (p : Value) (line : ℕ) (v : Rvalue)
    → IsAction (write_rvalue kind j p line v)
acts_write_rvalue kind j p line v = (local_write_rvalue kind j p line v).action

pub acts_read_rvalue : (kind : Kind) (j : Bool) (q : Rvalue) (line : ℕ) → IsAction (read_rvalue kind j q line)
acts_read_rvalue kind j q line = (local_read_rvalue kind j q line).action

pub acts_take_value : (kind : Kind) (line : ℕ) (v : Rvalue) → IsAction (take_value kind line v)
acts_take_value kind line v = (local_take_value kind line v).action

pub local_make_zero : (kind : Kind) → IsLocal (make_zero kind)
local_make_zero kind = local_then (local_tally (contents_size kind)) local_done

-- calls

acts_pass_or_stop : (b : Bool) (e : Ending) → IsAction (pass_or_stop b e)
acts_pass_or_stop true e = acts_skip
acts_pass_or_stop false e = acts_stop

pub acts_test_space : (g : Setting) (vs : List Variable) (line : ℕ) → IsAction (test_space g vs line)
acts_test_space g vs line = search (basic, acts_pass_or_stop)

pub acts_test_keys : (g : Setting) (vs : List Variable) (line : ℕ) → IsAction (test_keys g vs line)
acts_test_keys g vs line = acts_choose _ (acts_take_key g line) acts_skip

module _ (g : Setting) (f : Header) (line : ℕ) where
  acts_test_charge : IsAction (test_charge g f line)
  acts_test_charge = search (basic, acts_pass_or_stop)

  pub acts_call_tests : IsAction (call_tests g f line)
  acts_call_tests = acts_then acts_test_charge
      (acts_then (acts_test_space g (body_objects f) line) (acts_test_keys g (body_objects f) line))

acts_place_object : (size : ℕ) → IsAction (place_object size)
acts_place_object size = search (basic, changes, acts_make_object) depth 9

pub acts_place_variables : (vs : List Variable) → IsAction (place_variables vs)
acts_place_variables [] = acts_done
acts_place_variables (v ∷ vs) =
    acts_on (acts_choose v.is_object (acts_place_object (size_of_kind v.kind)) acts_done)
    (λ home. acts_on (acts_place_variables vs) (λ homes. acts_done))

acts_write_parameter : (kind : Kind) (home : Home) (line : ℕ) (v : Rvalue) → IsAction (write_parameter kind home line v)
acts_write_parameter kind NoObject line v = acts_skip
acts_write_parameter kind (InObject o) line v =
    acts_on (acts_read {f = λ s. home_value (InObject o) s.objects} (λ k s. refl))
    (λ p. acts_then (acts_write_rvalue kind false p line v) acts_skip)

acts_write_parameters : (ps : List Variable) (homes : List Home) (line : ℕ) (vs : List Rvalue)
    → IsAction (write_parameters ps homes line vs)
acts_write_parameters [] homes line vs = acts_skip
acts_write_parameters (p ∷ ps) [] line vs = acts_skip
acts_write_parameters (p ∷ ps) (home ∷ homes) line vs =
    acts_then (acts_write_parameter p.kind home line (first_of vs)) (acts_write_parameters ps homes line (rest_of vs))

acts_set_plain_values : (f : Header) (vs : List Rvalue) → IsAction (set_plain_values f vs)
acts_set_plain_values f vs = search (basic, changes)

pub acts_lay_out : (f : Header) (vs : List Rvalue) (line : ℕ) → IsAction (lay_out f vs line)
acts_lay_out f vs line = search (basic, changes, acts_set_plain_values, acts_place_variables, acts_write_parameters)
    depth 12

pub acts_set_up : (g : Setting) (f : Header) (vs : List Rvalue) (line : ℕ) → IsAction (set_up g f vs line)
acts_set_up g f vs line = acts_then (acts_tally 1) (acts_then (acts_call_tests g f line) (acts_lay_out f vs line))

pub local_returned : (result : Kind) (completion : Completion) → IsLocal (returned_by result completion)
local_returned result Normal = local_make_zero result
local_returned result Broken = local_make_zero result
local_returned result Continued = local_make_zero result
local_returned result (Returned v) = local_done

pub acts_returned : (result : Kind) (completion : Completion) → IsAction (returned_by result completion)
acts_returned result completion = (local_returned result completion).action

pub continues_without : (homes : List Home) (objects : Objects) → Continues objects (without_homes homes objects)
continues_without [] objects = continues_same objects
continues_without (NoObject ∷ homes) objects = continues_without homes objects
continues_without (InObject o ∷ homes) objects =
    continues_then objects (with_dead o objects) (without_homes homes (with_dead o objects)) (continues_dead o objects)
    (continues_without homes (with_dead o objects))

pub acts_back_to : (c : Caller) → IsAction (change (back_to c))
acts_back_to c = acts_change (λ k s. refl) (λ s. refl) (λ s. refl) (λ s. refl) (λ s. refl) (λ s. refl)
    (λ s. omega arith) (λ s. continues_without s.frame s.objects)

-- blocks

acts_place_block : (vs : List Variable) → IsAction (place_block vs)
acts_place_block vs =
    acts_on (acts_read {f = λ s. s.frame} (λ k s. refl))
    (λ frame. acts_on (acts_read {f = λ s. s.stacked} (λ k s. refl))
    (λ top. acts_on (acts_place_variables vs) (λ homes.
    acts_on (acts_private {f = λ z. record z { frame = homes_over frame homes }} (λ k s. refl) (λ s. refl) (λ s. refl)
    (λ s. refl) (λ s. refl) (λ s. refl) (λ s. refl) (λ s. refl))
    (λ _. acts_done {a = record { homes = homes; frame = frame; stacked = top }}))))

pub acts_enter_block : (g : Setting) (vs : List Variable) (line : ℕ) → IsAction (enter_block g vs line)
acts_enter_block g vs line = acts_then (acts_test_space g vs line)
    (acts_then (acts_test_keys g vs line) (acts_place_block vs))

pub acts_leave_block : (b : Block) → IsAction (change (leave_block b))
acts_leave_block b = acts_change (λ k s. refl) (λ s. refl) (λ s. refl) (λ s. refl) (λ s. refl) (λ s. refl)
    (λ s. omega arith) (λ s. continues_without b.homes s.objects)
