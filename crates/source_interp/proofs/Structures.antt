-- Structures by value.
use Rattle.std.proofs.Common.{◌≡◌, ℕ, sym, ap, refl, ◌∙◌, Ok, Err, Bool, true, false, Some, None, [], ◌∷◌}
use Rattle.std.proofs.Common.{if◌then◌else◌}
use Rattle.std.specs.Prelude.{Result, Option, ◌&&◌}
use Rattle.std.proofs.lemmas.Bool.{false≢true, true≢false}
use Rattle.obj_memory.specs.declared.value.Scalar.{Scalar}
use Rattle.obj_memory.specs.declared.value.Value.{Value}
use Rattle.c_tree.specs.declared.expression.Kind.{Kind}
use Rattle.c_tree.specs.declared.expression.Kind.TheVariants.{Void, Scalar as OfScalar, Structure, Array}
use Rattle.obj_memory.specs.declared.value.Place.{Place}
use Rattle.obj_memory.specs.Access.{move_range, read_value, scalar_size}
use Rattle.obj_memory.specs.Objects.{Objects, ObjectState, object_at}
use Rattle.obj_memory.proofs.Keeping.{keeps_moved}
use Rattle.source_meaning.specs.State.{Run, Rvalue, Setting, change, done, read_state, tally, ◌>>=◌, ◌>>◌}
use Rattle.source_meaning.specs.State.{Outcome, Gives, Ended, Paused, on, skip}
use Rattle.source_meaning.specs.Actions.{copy_structure, integer, load, load_structure, located, move_bytes}
use Rattle.source_meaning.specs.Actions.{read_lvalue, store, write_lvalue}
use Rattle.source_meaning.specs.Structures.{as_rvalue, contents_of, copy_value, give, part_of, put_contents, put_range}
use Rattle.source_meaning.specs.Structures.{read_part}
use Rattle.source_meaning.specs.Structures.{rvalue, with_contents, write_rvalue}
use Rattle.source_meaning.proofs.SureStructures.{keeps_put}
use Rattle.interpreter_objects.specs.Kept.{found_in, has_bytes, has_range, is_movable, is_puttable, kept, read_in}
use Rattle.interpreter_objects.specs.Kept.{with_moved, with_put}
use Rattle.interpreter_objects.proofs.Keeping.{same_contents, same_movable, same_moved, same_put, same_puttable}
use Rattle.interpreter_objects.proofs.Ranges.{some_is, some_means}
use Rattle.source_interp.specs.declared.machine.Machine.{Machine}
use Rattle.source_interp.specs.declared.stop.Stop.{Stop}
use Rattle.source_interp.specs.Answers.{is_there}
use Rattle.source_interp.specs.Copying.{stored_rvalue}
use Rattle.source_interp.specs.Outside.{Outside}
use Rattle.source_interp.specs.Standing.{Acts}
use Rattle.source_interp.proofs.Acting.{alike_acts, done_acts, gives_acts, same_acts, stop_acts, then_acts}
use Rattle.source_interp.proofs.Least.{reads}
use Rattle.source_interp.proofs.Accesses.{changes}

-- a value with its contents
abbrev pub paired : Value → Option ObjectState → Rvalue
paired v x = record { value = v; contents = x }

moved_there : (size : ℕ) (d s : Place) (store store' objects : Objects) → true ≡ is_movable size d s store
    → store' ≡ with_moved size d s store → store ≡ kept objects → store' ≡ kept (move_range size d s objects)
unfolding with_moved
moved_there size d s store store' objects t e same =
    e ∙ ap (with_moved size d s) same ∙ same_moved size d s objects
    ∙ ap (λ b. kept (if b then move_range size d s objects else objects))
    (sym (same_movable size d s objects) ∙ sym (ap (is_movable size d s) same) ∙ sym t)

pub moves : (g : Setting) (o : Outside) (old new : Machine) (size : ℕ) (d s : Place)
    → true ≡ is_movable size d s old.store → new.store ≡ with_moved size d s old.store
    → new ≡ record old { store = new.store }
    → Acts g old new o o (Ok tt) (change (λ st. record st { objects = move_range size d s st.objects }))
moves g o old new size d s t e same =
    changes g o old new (move_range size d s) (λ objects. keeps_moved size d s objects) same
    (λ objects h. moved_there size d s old.store new.store objects t e h)

put_there : (size : ℕ) (d : Place) (source : ℕ) (c : ObjectState) (store store' objects : Objects)
    → true ≡ is_puttable size d source c store → store' ≡ with_put size d source c store → store ≡ kept objects
    → store' ≡ kept (put_range size d source c objects)
unfolding with_put
put_there size d source c store store' objects t e same =
    e ∙ ap (with_put size d source c) same ∙ same_put size d source c objects
    ∙ ap (λ b. kept (if b then put_range size d source c objects else objects))
    (sym (same_puttable size d source c objects) ∙ sym (ap (is_puttable size d source c) same) ∙ sym t)

pub puts_range : (g : Setting) (o : Outside) (old new : Machine) (size : ℕ) (d : Place) (source : ℕ) (c : ObjectState)
    → true ≡ is_puttable size d source c old.store → new.store ≡ with_put size d source c old.store
    → new ≡ record old { store = new.store }
    → Acts g old new o o (Ok tt) (change (λ st. record st { objects = put_range size d source c st.objects }))
puts_range g o old new size d source c t e same =
    changes g o old new (put_range size d source c) (λ objects. keeps_put size d source c objects) same
    (λ objects h. put_there size d source c old.store new.store objects t e h)

-- contents that are taken

twice : (b : Bool) → b ≡ true → (b && b) ≡ true
twice b e = ap (λ x. x && x) e

once : (b : Bool) → (b && b) ≡ true → b ≡ true
once true e = refl
once false e = e

range_there : (size : ℕ) (p : Place) (objects : Objects)
    → has_range p.offset size (object_at (kept objects) p.object) ≡ true
    → has_range p.offset size (object_at objects p.object) ≡ true
unfolding is_movable
range_there size p objects e =
    once (has_range p.offset size (object_at objects p.object))
    (sym (same_movable size p p objects) ∙ twice (has_range p.offset size (object_at (kept objects) p.object)) e)

contents_there : (size : ℕ) (p : Place) (c : ObjectState) (store objects : Objects)
    → Some c ≡ (if has_range p.offset size (object_at store p.object)
    then Some (contents_of size p.offset (object_at store p.object)) else None)
    → store ≡ kept objects → contents_of size p.offset (object_at objects p.object) ≡ c
contents_there size p c store objects e same =
    let e' = e ∙ ap (λ os. if has_range p.offset size (object_at os p.object)
    then Some (contents_of size p.offset (object_at os p.object)) else None) same in
    sym (same_contents size p.offset p.object objects
    (range_there size p objects (some_means (has_range p.offset size (object_at (kept objects) p.object)) c _ e')))
    ∙ sym (some_is (has_range p.offset size (object_at (kept objects) p.object)) c _ e')

pub takes : (g : Setting) (o : Outside) (m : Machine) (size : ℕ) (p : Place) (c : ObjectState) (f : Rvalue)
    → f ≡ record { value = integer 0; contents = Some c }
    → Some c ≡ (if has_range p.offset size (object_at m.store p.object)
    then Some (contents_of size p.offset (object_at m.store p.object)) else None)
    → Acts g m m o o (Ok f) (read_state (λ s. with_contents size p.offset (object_at s.objects p.object)))
takes g o m size p c f h e = reads g o m f (λ s. with_contents size p.offset (object_at s.objects p.object))
    (λ start s st. ap (λ x. paired (integer 0) (Some x))
    (contents_there size p c m.store s.objects e st.objects_are) ∙ sym h)

-- reads, by the kind

module _ (g : Setting) (old new : Machine) (before now : Outside) (kind : Kind) (is_judged : Bool) (p : Value)
    (line : ℕ) where
  pub read_scalar_kind : (k : Scalar) (r : Result Value Stop) → kind ≡ OfScalar k
      → Acts g old new before now r (load k is_judged p line)
      → Acts g old new before now r (read_lvalue kind is_judged p line)
  read_scalar_kind k r e a = same_acts g old new before now r _ _ (ap (λ x. read_lvalue x is_judged p line) e) a

  pub read_structure_kind : (n : ℕ) (r : Result Value Stop) → kind ≡ Structure n
      → Acts g old new before now r (load_structure n is_judged p line)
      → Acts g old new before now r (read_lvalue kind is_judged p line)
  read_structure_kind n r e a = same_acts g old new before now r _ _ (ap (λ x. read_lvalue x is_judged p line) e) a

module _ (g : Setting) (m : Machine) (o : Outside) (kind : Kind) (is_judged : Bool) (p : Value) (line : ℕ) where
  pub read_void : kind ≡ Void → Acts g m m o o (Ok p) (read_lvalue kind is_judged p line)
  read_void e = same_acts g m m o o (Ok p) _ _ (ap (λ x. read_lvalue x is_judged p line) e) (done_acts g m o p)

  pub read_array : (n : ℕ) → kind ≡ Array n → Acts g m m o o (Ok p) (read_lvalue kind is_judged p line)
  read_array n e = same_acts g m m o o (Ok p) _ _ (ap (λ x. read_lvalue x is_judged p line) e) (done_acts g m o p)

-- parts of contents

module _ (g : Setting) (m : Machine) (o : Outside) (kind : Kind) (v : Value) (c : ObjectState) where
  pub void_part : (f : Rvalue) → kind ≡ Void → f ≡ rvalue (integer 0) → Acts g m m o o (Ok f) (done (part_of kind c v))
  void_part f e h = gives_acts g m o f _ (h ∙ sym (ap (λ x. part_of x c v) e))

  pub array_part : (n : ℕ) (f : Rvalue) → kind ≡ Array n → f ≡ rvalue (integer 0)
      → Acts g m m o o (Ok f) (done (part_of kind c v))
  array_part n f e h = gives_acts g m o f _ (h ∙ sym (ap (λ x. part_of x c v) e))

  pub other_part : (k : Scalar) (r : Result Rvalue Stop) → kind ≡ OfScalar k
      → Acts g m m o o r (done (part_of (OfScalar k) c v)) → Acts g m m o o r (done (part_of kind c v))
  other_part k r e a = same_acts g m m o o r _ _ (ap (λ x. done (part_of x c v)) e) a

pub structure_part : (g : Setting) (m : Machine) (o : Outside) (kind : Kind) (q : Rvalue) (c : ObjectState) (n : ℕ)
    → kind ≡ Structure n → q.contents ≡ Some c → Acts g m m o o (Ok q) (done (part_of kind c q.value))
structure_part g m o kind q c n e h = gives_acts g m o q _
    (ap (paired q.value) h
    ∙ sym (ap (λ x. part_of x c q.value) e))

pub scalar_part : (g : Setting) (m : Machine) (o : Outside) (k : Scalar) (q : Value) (c : ObjectState) (v : Value)
    (f : Rvalue) → Some v ≡ found_in k q.word c → f ≡ rvalue v
    → Acts g m m o o (Ok f) (done (part_of (OfScalar k) c q))
unfolding found_in read_in
scalar_part g m o k q c v f s h = gives_acts g m o f _
    (h ∙ ap rvalue (some_is (has_bytes q.word (scalar_size k) c) v
    (read_value k (record { object = 0; offset = q.word }) (c ∷ [])) s))

-- what is read where there are contents, and where there are none

pub reads_contents : (g : Setting) (m : Machine) (o : Outside) (x : Option ObjectState) (kind : Kind)
    (is_judged : Bool) (v : Value) (line : ℕ) (r : Result Rvalue Stop) → is_there x ≡ true
    → ((c : ObjectState) → x ≡ Some c → Acts g m m o o r (done (part_of kind c v)))
    → Acts g m m o o r (read_part x kind is_judged v line)
reads_contents g m o None kind is_judged v line r e h = absurd (false≢true e)
reads_contents g m o (Some c) kind is_judged v line r e h = h c refl

pub reads_place : (g : Setting) (old new : Machine) (before now : Outside) (x : Option ObjectState) (kind : Kind)
    (is_judged : Bool) (v : Value) (line : ℕ) (r : Result Rvalue Stop) → is_there x ≡ false
    → Acts g old new before now r (as_rvalue (read_lvalue kind is_judged v line))
    → Acts g old new before now r (read_part x kind is_judged v line)
reads_place g old new before now None kind is_judged v line r e a = a
reads_place g old new before now (Some c) kind is_judged v line r e a = absurd (true≢false e)

-- writes, by the kind

module _ (g : Setting) (old new : Machine) (before now : Outside) (kind : Kind) (is_judged : Bool) (p : Value)
    (line : ℕ) (v : Rvalue) (r : Result Rvalue Stop) where
  pub wrote_scalar : (k : Scalar) → kind ≡ OfScalar k
      → Acts g old new before now r (as_rvalue (write_lvalue (OfScalar k) is_judged p line v.value))
      → Acts g old new before now r (write_rvalue kind is_judged p line v)
  wrote_scalar k e a = same_acts g old new before now r _ _ (ap (λ x. write_rvalue x is_judged p line v) e) a

  pub wrote_structure : (n : ℕ) → kind ≡ Structure n
      → Acts g old new before now r (copy_value v.contents n is_judged p line v.value >> give p)
      → Acts g old new before now r (write_rvalue kind is_judged p line v)
  wrote_structure n e a = same_acts g old new before now r _ _ (ap (λ x. write_rvalue x is_judged p line v) e) a

module _ (g : Setting) (m : Machine) (o : Outside) (kind : Kind) (is_judged : Bool) (p : Value) (line : ℕ)
    (v : Rvalue) where
  pub wrote_void : kind ≡ Void → Acts g m m o o (Ok v) (write_rvalue kind is_judged p line v)
  wrote_void e = same_acts g m m o o (Ok v) _ _ (ap (λ x. write_rvalue x is_judged p line v) e) (done_acts g m o v)

  pub wrote_array : (n : ℕ) → kind ≡ Array n → Acts g m m o o (Ok v) (write_rvalue kind is_judged p line v)
  wrote_array n e = same_acts g m m o o (Ok v) _ _ (ap (λ x. write_rvalue x is_judged p line v) e) (done_acts g m o v)

-- code that does one part after another

pub moves_bytes : (g : Setting) (old mid new : Machine) (o : Outside) (size : ℕ) (d s : Place)
    (r : Result (Unit {0}) Stop) → Acts g old mid o o (Ok tt) (tally size)
    → Acts g mid new o o r (change (λ st. record st { objects = move_range size d s st.objects }))
    → Acts g old new o o r (move_bytes size d s)
moves_bytes g old mid new o size d s r a b =
    then_acts g old mid new o o o (Ok tt) tt r (tally size)
    (λ x. change (λ st. record st { objects = move_range size d s st.objects })) refl a b

module _ (g : Setting) (m new : Machine) (o : Outside) (n : ℕ) (is_judged : Bool) (p : Value) (line : ℕ) where
  abbrev pub to_place : Run Place
  to_place = located is_judged n p line

  module _ (v : Value) where
    abbrev pub from_place : Place → Run (Unit {0})
    from_place d = located false n v line >>= λ s. move_bytes n d s

    pub copies : (d s : Place) (r r2 : Result Place Stop) (r' : Result (Unit {0}) Stop) → r ≡ Ok d → r2 ≡ Ok s
        → Acts g m m o o r to_place → Acts g m m o o r2 (located false n v line)
        → Acts g m new o o r' (move_bytes n d s) → Acts g m new o o r' (copy_structure n is_judged p line v)
    copies d s r r2 r' is is2 a b c =
        then_acts g m m new o o o r d r' to_place from_place is a
        (then_acts g m m new o o o r2 s r' (located false n v line) (λ s. move_bytes n d s) is2 b c)

    pub copies_not_to : (e : Stop) (r : Result Place Stop) (r' : Result (Unit {0}) Stop) → r ≡ Err e → r' ≡ Err e
        → Acts g m m o o r to_place → Acts g m m o o r' (copy_structure n is_judged p line v)
    copies_not_to e r r' is is' a = stop_acts g m m o o r r' e to_place from_place is is' a

    pub copies_not_from : (d : Place) (e : Stop) (r r2 : Result Place Stop) (r' : Result (Unit {0}) Stop) → r ≡ Ok d
        → r2 ≡ Err e → r' ≡ Err e → Acts g m m o o r to_place → Acts g m m o o r2 (located false n v line)
        → Acts g m m o o r' (copy_structure n is_judged p line v)
    copies_not_from d e r r2 r' is is2 is' a b =
        then_acts g m m m o o o r d r' to_place from_place is a
        (stop_acts g m m o o r2 r' e (located false n v line) (λ s. move_bytes n d s) is2 is' b)

  pub loads_structure : (x : Place) (r : Result Place Stop) → r ≡ Ok x → Acts g m m o o r to_place
      → Acts g m m o o (Ok p) (load_structure n is_judged p line)
  loads_structure x r is a = then_acts g m m m o o o r x (Ok p) to_place (λ y. done p) is a (done_acts g m o p)

  pub loads_no_structure : (e : Stop) (r : Result Place Stop) (r' : Result Value Stop) → r ≡ Err e → r' ≡ Err e
      → Acts g m m o o r to_place → Acts g m m o o r' (load_structure n is_judged p line)
  loads_no_structure e r r' is is' a = stop_acts g m m o o r r' e to_place (λ y. done p) is is' a

  module _ (v : Value) (c : ObjectState) where
    abbrev pub put_from : Place → Run (Unit {0})
    put_from d = put_contents n d v.word c

    pub puts_contents : (mid : Machine) (d : Place) (r : Result Place Stop) (r' : Result (Unit {0}) Stop) → r ≡ Ok d
        → Acts g m m o o r to_place → Acts g m mid o o (Ok tt) (tally n)
        → Acts g mid new o o r' (change (λ s. record s { objects = put_range n d v.word c s.objects }))
        → Acts g m new o o r' (copy_value (Some c) n is_judged p line v)
    puts_contents mid d r r' is a b c' =
        then_acts g m m new o o o r d r' to_place put_from is a
        (then_acts g m mid new o o o (Ok tt) tt r' (tally n)
        (λ x. change (λ s. record s { objects = put_range n d v.word c s.objects })) refl b c')

    pub puts_no_contents : (e : Stop) (r : Result Place Stop) (r' : Result (Unit {0}) Stop) → r ≡ Err e → r' ≡ Err e
        → Acts g m m o o r to_place → Acts g m m o o r' (copy_value (Some c) n is_judged p line v)
    puts_no_contents e r r' is is' a = stop_acts g m m o o r r' e to_place put_from is is' a

module _ (g : Setting) (old new : Machine) (before now : Outside) where
  pub found_value : (run : Run Value) (v : Value) (f : Rvalue) (r : Result Value Stop) → r ≡ Ok v → f ≡ rvalue v
      → Acts g old new before now r run → Acts g old new before now (Ok f) (as_rvalue run)
  found_value run v f r is same a =
      then_acts g old new new before now now r v (Ok f) run give is a (gives_acts g new now f (rvalue v) same)

  pub found_none : (run : Run Value) (e : Stop) (r : Result Value Stop) (r' : Result Rvalue Stop) → r ≡ Err e
      → r' ≡ Err e → Acts g old new before now r run → Acts g old new before now r' (as_rvalue run)
  found_none run e r r' is is' a = stop_acts g old new before now r r' e run give is is' a

  pub stored_value : (k : Scalar) (is_judged : Bool) (p : Value) (line : ℕ) (v : Value) (u : Unit {0}) (f : Rvalue)
      (r : Result (Unit {0}) Stop) → r ≡ Ok u → f ≡ rvalue v → Acts g old new before now r (store k is_judged p line v)
      → Acts g old new before now (Ok f) (as_rvalue (write_lvalue (OfScalar k) is_judged p line v))
  stored_value k is_judged p line v u f r is same a =
      found_value (write_lvalue (OfScalar k) is_judged p line v) v f (Ok v) refl same
      (then_acts g old new new before now now r u (Ok v) (store k is_judged p line v) (λ x. done v) is a
      (done_acts g new now v))

  pub stored_none : (k : Scalar) (is_judged : Bool) (p : Value) (line : ℕ) (v : Value) (e : Stop)
      (r : Result (Unit {0}) Stop) (r' : Result Rvalue Stop) → r ≡ Err e → r' ≡ Err e
      → Acts g old new before now r (store k is_judged p line v)
      → Acts g old new before now r' (as_rvalue (write_lvalue (OfScalar k) is_judged p line v))
  stored_none k is_judged p line v e r r' is is' a =
      found_none (write_lvalue (OfScalar k) is_judged p line v) e (Err e) r' refl is'
      (stop_acts g old new before now r (Err e) e (store k is_judged p line v) (λ x. done v) is refl a)

  pub gives_place : (run : Run (Unit {0})) (p : Value) (u : Unit {0}) (f : Rvalue) (r : Result (Unit {0}) Stop)
      → r ≡ Ok u → f ≡ rvalue p → Acts g old new before now r run
      → Acts g old new before now (Ok f) (run >> give p)
  gives_place run p u f r is same a =
      then_acts g old new new before now now r u (Ok f) run (λ x. give p) is a (gives_acts g new now f (rvalue p) same)

  pub gives_no_place : (run : Run (Unit {0})) (p : Value) (e : Stop) (r : Result (Unit {0}) Stop)
      (r' : Result Rvalue Stop) → r ≡ Err e → r' ≡ Err e → Acts g old new before now r run
      → Acts g old new before now r' (run >> give p)
  gives_no_place run p e r r' is is' a = stop_acts g old new before now r r' e run (λ x. give p) is is' a

-- a value that is stored, where what is given is let go

only_stored : (x : Outcome (Unit {0})) (v : Value) → on (on (on x (λ _. done v)) give) (λ _. skip) ≡ x
only_stored (Gives u s) v = refl
only_stored (Ended e s) v = refl
only_stored (Paused s) v = refl

only_copied : (x : Outcome (Unit {0})) (v : Value) → on (on x (λ _. give v)) (λ _. skip) ≡ x
only_copied (Gives u s) v = refl
only_copied (Ended e s) v = refl
only_copied (Paused s) v = refl

module _ (g : Setting) (old new : Machine) (before now : Outside) (kind : Kind) (is_judged : Bool) (p : Value)
    (line : ℕ) (v : Rvalue) (r : Result (Unit {0}) Stop) where
  pub stores_scalar : (k : Scalar) → kind ≡ OfScalar k
      → Acts g old new before now r (store k is_judged p line v.value)
      → Acts g old new before now r (stored_rvalue kind is_judged p line v)
  stores_scalar k e a = alike_acts g old new before now r (store k is_judged p line v.value) _
      (λ s. ap (λ x. stored_rvalue x is_judged p line v s) e ∙ only_stored (store k is_judged p line v.value s)
      v.value) a

  pub stores_structure : (n : ℕ) → kind ≡ Structure n
      → Acts g old new before now r (copy_value v.contents n is_judged p line v.value)
      → Acts g old new before now r (stored_rvalue kind is_judged p line v)
  stores_structure n e a = alike_acts g old new before now r (copy_value v.contents n is_judged p line v.value) _
      (λ s. ap (λ x. stored_rvalue x is_judged p line v s) e
      ∙ only_copied (copy_value v.contents n is_judged p line v.value s) p) a

module _ (g : Setting) (m : Machine) (o : Outside) (kind : Kind) (is_judged : Bool) (p : Value) (line : ℕ)
    (v : Rvalue) where
  pub stores_void : kind ≡ Void → Acts g m m o o (Ok tt) (stored_rvalue kind is_judged p line v)
  stores_void e = same_acts g m m o o (Ok tt) (done tt) _ (ap (λ x. stored_rvalue x is_judged p line v) e)
      (done_acts g m o tt)

  pub stores_array : (n : ℕ) → kind ≡ Array n → Acts g m m o o (Ok tt) (stored_rvalue kind is_judged p line v)
  stores_array n e = same_acts g m m o o (Ok tt) (done tt) _ (ap (λ x. stored_rvalue x is_judged p line v) e)
      (done_acts g m o tt)
