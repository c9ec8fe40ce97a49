-- What is run does the same at another line, but that it ends with that line.
use Rattle.std.proofs.Common.{ℕ, zero, suc, ◌+◌, ◌==◌, Bool, true, false, List, [], ◌∷◌, length, drop, Option, Some}
use Rattle.std.proofs.Common.{None}
use Rattle.std.proofs.Common.{◌≡◌, refl, ap, ◌∙◌, get_or}
use Rattle.sb_base.specs.declared.ending.Ending.TheVariants as ending
use Rattle.obj_memory.specs.declared.int_type.IntType.{IntType}
use Rattle.obj_memory.specs.declared.int_type.IntType.TheVariants.{Char, Int}
use Rattle.obj_memory.specs.declared.operator.BinaryOperator.{BinaryOperator}
use Rattle.obj_memory.specs.declared.value.Place.{Place}
use Rattle.obj_memory.specs.declared.value.Scalar.{Scalar}
use Rattle.obj_memory.specs.declared.value.Tag.{Tag}
use Rattle.obj_memory.specs.declared.value.Tag.TheVariants.{Untagged, OfFunction, OfObject}
use Rattle.obj_memory.specs.declared.value.Value.{Value}
use Rattle.obj_memory.specs.declared.judgement.Verdict.{Verdict}
use Rattle.obj_memory.specs.declared.judgement.Verdict.TheVariants.{Outside, Dead, Inside}
use Rattle.obj_memory.specs.Objects.{ObjectState, object_at}
use Rattle.obj_memory.specs.Integers.{fit}
use Rattle.obj_memory.specs.Judgement.{moved}
use Rattle.obj_memory.specs.Operators.{binary_value}
use Rattle.c_tree.specs.declared.format.Directive.{Directive}
use Rattle.c_tree.specs.declared.format.Directive.TheVariants as directive
use Rattle.c_tree.specs.declared.format.Piece.{Piece}
use Rattle.c_tree.specs.declared.format.Piece.TheVariants as piece
use Rattle.c_tree.specs.Format.{pieces}
use Rattle.c_tree.specs.declared.expression.Fixity.{Fixity}
use Rattle.c_tree.specs.declared.expression.Kind.{Kind}
use Rattle.c_tree.specs.declared.expression.Kind.TheVariants.{Void, Scalar as OfScalar, Structure, Array}
use Rattle.c_tree.specs.declared.expression.Routine.{Routine}
use Rattle.c_tree.specs.declared.expression.Routine.TheVariants.{Malloc, Calloc, Free, Realloc, Memcpy, Memmove, Memset}
use Rattle.c_tree.specs.declared.expression.Routine.TheVariants.{Memcmp, Strlen, Strcmp, Strcpy, Strncpy, Strcat}
use Rattle.c_tree.specs.declared.expression.Routine.TheVariants.{Strchr, Putchar, Getchar, Puts, Exit, Abort}
use Rattle.c_tree.specs.declared.expression.Update.{Update}
use Rattle.c_tree.specs.declared.expression.Update.TheVariants.{Arithmetic, Forward, Back}
use Rattle.c_tree.specs.declared.program.Variable.{Variable}
use Rattle.source_meaning.specs.State.{State, Home, NoObject, InObject, Outcome, Gives, Ended, Paused, Run, on, done}
use Rattle.source_meaning.specs.State.{stop, choose, read_state, change, skip, tally, Rvalue, Header, Setting}
use Rattle.source_meaning.specs.State.{◌>>=◌, ◌>>◌}
use Rattle.source_meaning.specs.Actions.{integer, value_or_divide, operate, updated, given, update_plain, located}
use Rattle.source_meaning.specs.Actions.{place_or_stop, take_key, move_bytes, put_bytes, read_scalar, write_scalar}
use Rattle.source_meaning.specs.Actions.{load, store, update, load_structure, copy_structure, read_lvalue}
use Rattle.source_meaning.specs.Actions.{write_lvalue}
use Rattle.source_meaning.specs.Structures.{as_rvalue, put_contents, taken, take_value, copy_value, write_rvalue}
use Rattle.source_meaning.specs.Structures.{read_part, read_rvalue}
use Rattle.source_meaning.specs.Expressions.{callee_by, callee}
use Rattle.source_meaning.specs.Heap.{make_block, allocate, bad_free, freed_object, freed_by, release, free, calloc}
use Rattle.source_meaning.specs.Heap.{move_block, replace_block, realloc}
use Rattle.source_meaning.specs.Bytes.{look, set_bytes}
use Rattle.source_meaning.specs.Blocks.{pass_or_stop, test_space, test_keys, place_variable, place_variables}
use Rattle.source_meaning.specs.Blocks.{place_block}
use Rattle.source_meaning.specs.Blocks.{enter_block}
use Rattle.source_meaning.specs.Calls.{test_charge, call_tests, set_plain_values, write_parameter, write_parameters}
use Rattle.source_meaning.specs.Calls.{first_of, rest_of, body_objects, lay_out, set_up}
use Rattle.source_meaning.specs.Memory.{memmove, memset, memcmp}
use Rattle.source_meaning.specs.Strings.{reach, scan_within, scan, strlen, compare_within, write_string, strcpy}
use Rattle.source_meaning.specs.Strings.{strncpy, strcat, seek_within}
use Rattle.source_meaning.specs.Printing.{puts, argument_bytes, formatted, pieces_or_none, print_formatted}
use Rattle.source_meaning.specs.Library.{next_byte, argument, routine}
use Rattle.source_meaning.specs.Lines.{outcome_at, RunsAlikeAt}

on_lines : {A B : Type 0} (m : ℕ) (f h : A → Run B) → ((a : A) → RunsAlikeAt m (f a) (h a)) → (o : Outcome A)
    → on (outcome_at m o) h ≡ outcome_at m (on o f)
on_lines m f h k (Gives a s) = (k a).by s
on_lines m f h k (Ended e s) = refl
on_lines m f h k (Paused s) = refl

pub lines_on : {A B : Type 0} {m : ℕ} {r q : Run A} {f h : A → Run B} → RunsAlikeAt m r q
    → ((a : A) → RunsAlikeAt m (f a) (h a)) → RunsAlikeAt m (r >>= f) (q >>= h)
lines_on {m = m} {r = r} {f = f} {h = h} k g =
    record { by = λ s. ap (λ o. on o h) (k.by s) ∙ on_lines m f h g (r s) }

pub lines_then : {A B : Type 0} {m : ℕ} {r q : Run A} {f h : Run B} → RunsAlikeAt m r q → RunsAlikeAt m f h
    → RunsAlikeAt m (r >> f) (q >> h)
lines_then {m = m} {r = r} {f = f} {h = h} k g =
    record { by = λ s. ap (λ o. on o (λ _. h)) (k.by s) ∙ on_lines m (λ _. f) (λ _. h) (λ _. g) (r s) }

pub lines_done : {A : Type 0} {m : ℕ} {a : A} → RunsAlikeAt m (done a) (done a)
lines_done = record { by = λ s. refl }

pub lines_read : {A : Type 0} {m : ℕ} {f : State → A} → RunsAlikeAt m (read_state f) (read_state f)
lines_read = record { by = λ s. refl }

pub lines_change : {m : ℕ} {f : State → State} → RunsAlikeAt m (change f) (change f)
lines_change = record { by = λ s. refl }

pub lines_skip : {m : ℕ} → RunsAlikeAt m skip skip
lines_skip = record { by = λ s. refl }

pub lines_tally : {m : ℕ} (n : ℕ) → RunsAlikeAt m (tally n) (tally n)
lines_tally n = record { by = λ s. refl }

pub lines_choose : {A : Type 0} {m : ℕ} (b : Bool) {r q r' q' : Run A} → RunsAlikeAt m r r' → RunsAlikeAt m q q'
    → RunsAlikeAt m (choose b r q) (choose b r' q')
lines_choose true h g = h
lines_choose false h g = g

pub ruleset lines_basic =
    (lines_on, lines_then, lines_done, lines_read, lines_change, lines_skip, lines_tally, lines_choose)

module _ (l m : ℕ) where
  -- endings

  out : {A : Type 0} → RunsAlikeAt m (stop {A = A} (ending.Spatial l)) (stop {A = A} (ending.Spatial m))
  out = record { by = λ s. refl }

  dead : {A : Type 0} → RunsAlikeAt m (stop {A = A} (ending.Temporal l)) (stop {A = A} (ending.Temporal m))
  dead = record { by = λ s. refl }

  spent : {A : Type 0} → RunsAlikeAt m (stop {A = A} (ending.Keys l)) (stop {A = A} (ending.Keys m))
  spent = record { by = λ s. refl }

  not_freed : {A : Type 0} → RunsAlikeAt m (stop {A = A} (ending.BadFree l)) (stop {A = A} (ending.BadFree m))
  not_freed = record { by = λ s. refl }

  not_called : {A : Type 0} → RunsAlikeAt m (stop {A = A} (ending.BadCall l)) (stop {A = A} (ending.BadCall m))
  not_called = record { by = λ s. refl }

  lines_pass : (b : Bool) → RunsAlikeAt m (pass_or_stop b (ending.Stack l)) (pass_or_stop b (ending.Stack m))
  lines_pass true = record { by = λ s. refl }
  lines_pass false = record { by = λ s. refl }

  -- values

  lines_or_divide : (o : Option ℕ) → RunsAlikeAt m (value_or_divide o l) (value_or_divide o m)
  lines_or_divide None = record { by = λ s. refl }
  lines_or_divide (Some w) = lines_done

  pub lines_operate : (op : BinaryOperator) (t : IntType) (x y : Value)
      → RunsAlikeAt m (operate op t x y l) (operate op t x y m)
  lines_operate op t x y = lines_or_divide (binary_value op t x.word y.word)

  pub lines_updated : (u : Update) (k : Scalar) (right old : Value)
      → RunsAlikeAt m (updated u k right l old) (updated u k right m old)
  lines_updated (Arithmetic op t) k right old = lines_on (lines_operate op t (integer (fit t old.word)) right)
      (λ new. lines_done)
  lines_updated (Forward size) k right old = lines_done
  lines_updated (Back size) k right old = lines_done

  pub lines_update_plain : (u : Update) (k : Scalar) (x : ℕ) (right : Value) (f : Fixity)
      → RunsAlikeAt m (update_plain x (updated u k right l) f) (update_plain x (updated u k right m) f)
  lines_update_plain u k x right f = search (lines_basic, lines_updated)

  pub lines_callee : (functions : List Header) (type_number : ℕ) (v : Value)
      → RunsAlikeAt m (callee functions type_number v l) (callee functions type_number v m)
  lines_callee functions type_number v = by v.tag
    where
      by : (t : Tag)
          → RunsAlikeAt m (callee_by functions type_number v.word t l) (callee_by functions type_number v.word t m)
      by Untagged = not_called
      by (OfObject o b) = not_called
      by (OfFunction f) = lines_choose _ lines_done not_called

  -- accesses

  lines_place : (v : Verdict) → RunsAlikeAt m (place_or_stop v l) (place_or_stop v m)
  lines_place Outside = out
  lines_place Dead = dead
  lines_place (Inside p) = lines_done

  pub lines_located : (j : Bool) (size : ℕ) (v : Value) → RunsAlikeAt m (located j size v l) (located j size v m)
  lines_located j size v = lines_on lines_read (λ w. lines_place w)

  lines_read_scalar : (k : Scalar) (address : ℕ) (p : Place)
      → RunsAlikeAt m (read_scalar k address p) (read_scalar k address p)
  lines_read_scalar k address p = search lines_basic

  lines_write_scalar : (k : Scalar) (address : ℕ) (p : Place) (v : Value)
      → RunsAlikeAt m (write_scalar k address p v) (write_scalar k address p v)
  lines_write_scalar k address p v = search lines_basic

  lines_move : (size : ℕ) (d s : Place) → RunsAlikeAt m (move_bytes size d s) (move_bytes size d s)
  lines_move size d s = search lines_basic

  pub lines_load : (k : Scalar) (j : Bool) (p : Value) → RunsAlikeAt m (load k j p l) (load k j p m)
  lines_load k j p = lines_on (lines_located j _ p) (λ place. lines_read_scalar k p.word place)

  pub lines_store : (k : Scalar) (j : Bool) (p v : Value) → RunsAlikeAt m (store k j p l v) (store k j p m v)
  lines_store k j p v = lines_on (lines_located j _ p) (λ place. lines_write_scalar k p.word place v)

  pub lines_update : (u : Update) (k : Scalar) (j : Bool) (p right : Value) (f : Fixity)
      → RunsAlikeAt m (update k j p l (updated u k right l) f) (update k j p m (updated u k right m) f)
  lines_update u k j p right f =
      lines_on (lines_located j _ p)
      (λ place. lines_on (lines_read_scalar k p.word place)
      (λ old. lines_on (lines_updated u k right old)
      (λ new. lines_then (lines_write_scalar k p.word place new) (lines_done {a = given f old new}))))

  lines_load_structure : (size : ℕ) (j : Bool) (p : Value)
      → RunsAlikeAt m (load_structure size j p l) (load_structure size j p m)
  lines_load_structure size j p = lines_then (lines_located j size p) lines_done

  lines_copy_structure : (size : ℕ) (j : Bool) (p v : Value)
      → RunsAlikeAt m (copy_structure size j p l v) (copy_structure size j p m v)
  lines_copy_structure size j p v = lines_on (lines_located j size p)
      (λ d. lines_on (lines_located false size v) (λ s. lines_move size d s))

  pub lines_read_lvalue : (kind : Kind) (j : Bool) (p : Value)
      → RunsAlikeAt m (read_lvalue kind j p l) (read_lvalue kind j p m)
  lines_read_lvalue Void j p = lines_done
  lines_read_lvalue (OfScalar k) j p = lines_load k j p
  lines_read_lvalue (Structure n) j p = lines_load_structure n j p
  lines_read_lvalue (Array n) j p = lines_done

  pub lines_write_lvalue : (kind : Kind) (j : Bool) (p v : Value)
      → RunsAlikeAt m (write_lvalue kind j p l v) (write_lvalue kind j p m v)
  lines_write_lvalue Void j p v = lines_done
  lines_write_lvalue (OfScalar k) j p v = lines_then (lines_store k j p v) lines_done
  lines_write_lvalue (Structure n) j p v = lines_then (lines_copy_structure n j p v) lines_done
  lines_write_lvalue (Array n) j p v = lines_done

  -- structures

  lines_as_rvalue : {r q : Run Value} → RunsAlikeAt m r q → RunsAlikeAt m (as_rvalue r) (as_rvalue q)
  lines_as_rvalue h = lines_on h (λ v. lines_done)

  lines_put_contents : (size : ℕ) (d : Place) (source : ℕ) (c : ObjectState)
      → RunsAlikeAt m (put_contents size d source c) (put_contents size d source c)
  lines_put_contents size d source c = search lines_basic

  lines_taken : (c : Option ObjectState) (size : ℕ) (v : Value) → RunsAlikeAt m (taken c size v l) (taken c size v m)
  lines_taken None size v = search (lines_basic, lines_located)
  lines_taken (Some c) size v = lines_then (lines_tally size) lines_done

  pub lines_take_value : (kind : Kind) (v : Rvalue) → RunsAlikeAt m (take_value kind l v) (take_value kind m v)
  lines_take_value Void v = lines_done
  lines_take_value (OfScalar k) v = lines_done
  lines_take_value (Structure n) v = lines_taken v.contents n v.value
  lines_take_value (Array n) v = lines_done

  lines_copy_value : (c : Option ObjectState) (size : ℕ) (j : Bool) (p v : Value)
      → RunsAlikeAt m (copy_value c size j p l v) (copy_value c size j p m v)
  lines_copy_value None size j p v = lines_copy_structure size j p v
  lines_copy_value (Some c) size j p v = lines_on (lines_located j size p) (λ d. lines_put_contents size d v.word c)

  pub lines_write_rvalue : (kind : Kind) (j : Bool) (p : Value) (v : Rvalue)
      → RunsAlikeAt m (write_rvalue kind j p l v) (write_rvalue kind j p m v)
  lines_write_rvalue Void j p v = lines_done
  lines_write_rvalue (OfScalar k) j p v = lines_as_rvalue (lines_write_lvalue (OfScalar k) j p v.value)
  lines_write_rvalue (Structure n) j p v = lines_then (lines_copy_value v.contents n j p v.value) lines_done
  lines_write_rvalue (Array n) j p v = lines_done

  lines_read_part : (c : Option ObjectState) (kind : Kind) (j : Bool) (q : Value)
      → RunsAlikeAt m (read_part c kind j q l) (read_part c kind j q m)
  lines_read_part None kind j q = lines_as_rvalue (lines_read_lvalue kind j q)
  lines_read_part (Some c) kind j q = lines_done

  pub lines_read_rvalue : (kind : Kind) (j : Bool) (q : Rvalue)
      → RunsAlikeAt m (read_rvalue kind j q l) (read_rvalue kind j q m)
  lines_read_rvalue kind j q = lines_read_part q.contents kind j q.value

  -- memory

  lines_set : (bytes : List ℕ) (p : Place) → RunsAlikeAt m (set_bytes bytes p) (set_bytes bytes p)
  lines_set bytes p = search lines_basic

  lines_memmove : (d s n : Value) → RunsAlikeAt m (memmove d s n l) (memmove d s n m)
  lines_memmove d s n = search (lines_basic, lines_located, lines_move)

  lines_memset : (d b n : Value) → RunsAlikeAt m (memset d b n l) (memset d b n m)
  lines_memset d b n = search (lines_basic, lines_located, lines_set)

  lines_memcmp : (a b n : Value) → RunsAlikeAt m (memcmp a b n l) (memcmp a b n m)
  lines_memcmp a b n = search (lines_basic, lines_located)

  -- strings

  lines_look : (p : Value) → RunsAlikeAt m (look p l) (look p m)
  lines_look p = search (lines_basic, lines_located)

  lines_scan_within : (k : ℕ) (r q : Run (List ℕ)) → RunsAlikeAt m r q → (p : Value)
      → RunsAlikeAt m (scan_within k r p l) (scan_within k q p m)
  lines_scan_within zero r q h p = h
  lines_scan_within (suc k) r q h p =
      lines_on (lines_look p) (λ byte. lines_choose (byte == 0) lines_done
      (lines_on (lines_scan_within k r q h (moved 1 p)) (λ bytes. lines_done)))

  lines_scan : (p : Value) → RunsAlikeAt m (scan p l) (scan p m)
  lines_scan p = lines_scan_within (reach p) (stop (ending.Spatial l)) (stop (ending.Spatial m)) out p

  lines_compare : (k : ℕ) (a b : Value) → RunsAlikeAt m (compare_within k a b l) (compare_within k a b m)
  lines_compare zero a b = out
  lines_compare (suc k) a b =
      lines_on (lines_look a) (λ x. lines_on (lines_look b)
      (λ y. lines_choose _ (lines_compare k (moved 1 a) (moved 1 b)) lines_done))

  lines_seek : (k c : ℕ) (p : Value) → RunsAlikeAt m (seek_within k c p l) (seek_within k c p m)
  lines_seek zero c p = out
  lines_seek (suc k) c p =
      lines_on (lines_look p) (λ byte. lines_choose (byte == c) lines_done
      (lines_choose (byte == 0) lines_done (lines_seek k c (moved 1 p))))

  lines_write_string : (d : Value) (bytes : List ℕ) → RunsAlikeAt m (write_string d bytes l) (write_string d bytes m)
  lines_write_string d bytes = search (lines_basic, lines_located, lines_set)

  lines_strlen : (s : Value) → RunsAlikeAt m (strlen s l) (strlen s m)
  lines_strlen s = search (lines_basic, lines_scan)

  lines_strcpy : (d s : Value) → RunsAlikeAt m (strcpy d s l) (strcpy d s m)
  lines_strcpy d s = search (lines_basic, lines_scan, lines_write_string)

  lines_strcat : (d s : Value) → RunsAlikeAt m (strcat d s l) (strcat d s m)
  lines_strcat d s = search (lines_basic, lines_scan, lines_write_string)

  lines_strncpy : (d s n : Value) → RunsAlikeAt m (strncpy d s n l) (strncpy d s n m)
  lines_strncpy d s n =
      lines_choose _ lines_done (lines_on (lines_scan_within n.word (done []) (done []) lines_done s)
      (λ bytes. lines_on (lines_located true n.word d) (λ p. lines_then (lines_set _ p) lines_done)))

  lines_puts : (s : Value) → RunsAlikeAt m (puts s l) (puts s m)
  lines_puts s = search (lines_basic, lines_scan)

  -- the heap

  pub lines_key : (g : Setting) → RunsAlikeAt m (take_key g l) (take_key g m)
  lines_key g = search (lines_basic, spent)

  lines_block : (g : Setting) (n : ℕ) (place : Option ℕ)
      → RunsAlikeAt m (make_block g n l place) (make_block g n m place)
  lines_block g n None = lines_done
  lines_block g n (Some address) = search (lines_basic, lines_key)

  lines_allocate : (g : Setting) (n : ℕ) → RunsAlikeAt m (allocate g n l) (allocate g n m)
  lines_allocate g n = search (lines_basic, lines_block)

  lines_bad_free : {A : Type 0} → RunsAlikeAt m (bad_free {A = A} l) (bad_free {A = A} m)
  lines_bad_free = search (lines_basic, not_freed)

  lines_freed_object : (n : ℕ) (o : ObjectState) (a : ℕ) → RunsAlikeAt m (freed_object n o a l) (freed_object n o a m)
  lines_freed_object n o a = search (lines_basic, lines_bad_free, dead)

  lines_freed_by : (t : Tag) (a : ℕ) → RunsAlikeAt m (freed_by t a l) (freed_by t a m)
  lines_freed_by Untagged a = lines_bad_free
  lines_freed_by (OfFunction f) a = lines_bad_free
  lines_freed_by (OfObject n b) a =
      lines_on (lines_read {f = λ s. object_at s.objects n}) (λ o. lines_freed_object n o a)

  lines_release : (n : ℕ) → RunsAlikeAt m (release n) (release n)
  lines_release n = search lines_basic

  lines_free : (p : Value) → RunsAlikeAt m (free p l) (free p m)
  lines_free p =
      lines_choose _ lines_done (lines_on (lines_freed_by p.tag p.word) (λ n. lines_then (lines_release n) lines_done))

  lines_calloc : (g : Setting) (a b : Value) → RunsAlikeAt m (calloc g a b l) (calloc g a b m)
  lines_calloc g a b = lines_choose _ (lines_allocate g _) lines_done

  lines_move_block : (n : ℕ) (new : Value) (z : ℕ) → RunsAlikeAt m (move_block n new z l) (move_block n new z m)
  lines_move_block n new z =
      lines_on (lines_located false z new)
      (λ p. lines_on lines_read (λ k. lines_move k p (record { object = n; offset = 0 })))

  lines_replace : (g : Setting) (n z : ℕ) → RunsAlikeAt m (replace_block g n z l) (replace_block g n z m)
  lines_replace g n z =
      lines_on (lines_allocate g z) (λ new. lines_choose _ lines_done
      (lines_then (lines_move_block n new z) (lines_then (lines_release n) lines_done)))

  lines_realloc : (g : Setting) (old z : Value) → RunsAlikeAt m (realloc g old z l) (realloc g old z m)
  lines_realloc g old z =
      lines_choose _ (lines_allocate g z.word)
      (lines_on (lines_freed_by old.tag old.word) (λ n. lines_replace g n z.word))

  -- the library

  pub lines_routine : (g : Setting) (r : Routine) (vs : List Value)
      → RunsAlikeAt m (routine g r vs l) (routine g r vs m)
  lines_routine g Malloc vs = lines_allocate g (argument 0 vs).word
  lines_routine g Calloc vs = lines_calloc g (argument 0 vs) (argument 1 vs)
  lines_routine g Free vs = lines_free (argument 0 vs)
  lines_routine g Realloc vs = lines_realloc g (argument 0 vs) (argument 1 vs)
  lines_routine g Memcpy vs = lines_memmove (argument 0 vs) (argument 1 vs) (argument 2 vs)
  lines_routine g Memmove vs = lines_memmove (argument 0 vs) (argument 1 vs) (argument 2 vs)
  lines_routine g Memset vs = lines_memset (argument 0 vs) (argument 1 vs) (argument 2 vs)
  lines_routine g Memcmp vs = lines_memcmp (argument 0 vs) (argument 1 vs) (argument 2 vs)
  lines_routine g Strlen vs = lines_strlen (argument 0 vs)
  lines_routine g Strcmp vs = lines_compare (reach (argument 0 vs)) (argument 0 vs) (argument 1 vs)
  lines_routine g Strcpy vs = lines_strcpy (argument 0 vs) (argument 1 vs)
  lines_routine g Strncpy vs = lines_strncpy (argument 0 vs) (argument 1 vs) (argument 2 vs)
  lines_routine g Strcat vs = lines_strcat (argument 0 vs) (argument 1 vs)
  lines_routine g Strchr vs = lines_seek (reach (argument 0 vs)) (fit Char (argument 1 vs).word) (argument 0 vs)
  lines_routine g Putchar vs = search lines_basic
  lines_routine g Getchar vs = record { by = λ s. by_input s s.input }
    where
      by_input : (s : State) (bytes : List ℕ) → next_byte bytes s ≡ outcome_at m (next_byte bytes s)
      by_input s [] = refl
      by_input s (b ∷ bs) = refl
  lines_routine g Puts vs = lines_puts (argument 0 vs)
  lines_routine g Exit vs = record { by = λ s. refl }
  lines_routine g Abort vs = record { by = λ s. refl }

  lines_argument : (d : Directive) (v : Value) → RunsAlikeAt m (argument_bytes d v l) (argument_bytes d v m)
  lines_argument directive.Int v = lines_done
  lines_argument directive.UnsignedInt v = lines_done
  lines_argument directive.Hexadecimal v = lines_done
  lines_argument directive.Character v = lines_done
  lines_argument directive.Long v = lines_done
  lines_argument directive.UnsignedLong v = lines_done
  lines_argument directive.String v = lines_scan v

  lines_formatted : (ps : List Piece) (vs : List Value) → RunsAlikeAt m (formatted ps vs l) (formatted ps vs m)
  lines_formatted [] vs = lines_done
  lines_formatted (piece.Byte b ∷ ps) vs = lines_on (lines_formatted ps vs) (λ bytes. lines_done)
  lines_formatted (piece.Directive d ∷ ps) vs =
      lines_on (lines_argument d (get_or vs 0 (integer 0)))
      (λ bytes. lines_on (lines_formatted ps (drop 1 vs)) (λ others. lines_done))

  pub lines_print : (format : List ℕ) (vs : List Value)
      → RunsAlikeAt m (print_formatted format vs l) (print_formatted format vs m)
  lines_print format vs = lines_on (lines_formatted (pieces_or_none (pieces format)) vs) (λ bytes. lines_put bytes)
    where
      lines_put : (bytes : List ℕ) → RunsAlikeAt m (put_bytes bytes >> done (integer (fit Int (length bytes))))
          (put_bytes bytes >> done (integer (fit Int (length bytes))))
      lines_put bytes = search lines_basic

  -- blocks and calls

  lines_space : (g : Setting) (vs : List Variable) → RunsAlikeAt m (test_space g vs l) (test_space g vs m)
  lines_space g vs = search (lines_basic, lines_pass)

  lines_keys : (g : Setting) (vs : List Variable) → RunsAlikeAt m (test_keys g vs l) (test_keys g vs m)
  lines_keys g vs = lines_choose _ (lines_key g) lines_skip

  lines_variable : (v : Variable) → RunsAlikeAt m (place_variable v) (place_variable v)
  lines_variable v = search lines_basic

  lines_variables : (vs : List Variable) → RunsAlikeAt m (place_variables vs) (place_variables vs)
  lines_variables [] = lines_done
  lines_variables (v ∷ vs) = lines_on (lines_variable v) (λ h. lines_on (lines_variables vs) (λ hs. lines_done))

  lines_placed : (vs : List Variable) → RunsAlikeAt m (place_block vs) (place_block vs)
  lines_placed vs = search (lines_basic, lines_variables)

  pub lines_enter_block : (g : Setting) (vs : List Variable) → RunsAlikeAt m (enter_block g vs l) (enter_block g vs m)
  lines_enter_block g vs = search (lines_space, lines_keys, lines_placed, lines_then)

  lines_call_tests : (g : Setting) (f : Header) → RunsAlikeAt m (call_tests g f l) (call_tests g f m)
  lines_call_tests g f =
      lines_then charge (lines_then (lines_space g (body_objects f)) (lines_keys g (body_objects f)))
    where
      charge : RunsAlikeAt m (test_charge g f l) (test_charge g f m)
      charge = search (lines_basic, lines_pass)

  lines_parameter : (kind : Kind) (home : Home) (v : Rvalue)
      → RunsAlikeAt m (write_parameter kind home l v) (write_parameter kind home m v)
  lines_parameter kind NoObject v = lines_skip
  lines_parameter kind (InObject o) v =
      lines_on lines_read (λ p. lines_then (lines_write_rvalue kind false p v) lines_skip)

  lines_parameters : (ps : List Variable) (homes : List Home) (vs : List Rvalue)
      → RunsAlikeAt m (write_parameters ps homes l vs) (write_parameters ps homes m vs)
  lines_parameters [] homes vs = lines_skip
  lines_parameters (p ∷ ps) [] vs = lines_skip
  lines_parameters (p ∷ ps) (home ∷ homes) vs =
      lines_then (lines_parameter p.kind home (first_of vs)) (lines_parameters ps homes (rest_of vs))

  lines_lay_out : (f : Header) (vs : List Rvalue) → RunsAlikeAt m (lay_out f vs l) (lay_out f vs m)
  lines_lay_out f vs =
      lines_then (lines_change {f = λ s. record s { charged = s.charged + f.room }})
      (lines_then plain (lines_on (lines_variables (body_objects f))
      (λ homes. lines_then (lines_change {f = λ s. record s { frame = homes }})
      (lines_parameters f.parameters homes vs))))
    where
      plain : RunsAlikeAt m (set_plain_values f vs) (set_plain_values f vs)
      plain = search lines_basic

  pub lines_set_up : (g : Setting) (f : Header) (vs : List Rvalue) → RunsAlikeAt m (set_up g f vs l) (set_up g f vs m)
  lines_set_up g f vs = lines_then (lines_tally 1) (lines_then (lines_call_tests g f) (lines_lay_out f vs))
