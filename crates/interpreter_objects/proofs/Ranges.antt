-- Ranges moved and put, and objects cleared, among all objects.
use Rattle.std.proofs.Common.{◌≡◌, ℕ, ◌%◌, ◌≤◌, Bool, true, false, ◌&&◌, if◌then◌else◌, length, set, refl}
use Rattle.std.proofs.Common.{sym, ap, ◌∙◌, Option, Some, None}
use Rattle.std.proofs.lemmas.List.{get_or_past, set-get_or}
use Rattle.obj_memory.specs.declared.value.Place.{Place}
use Rattle.obj_memory.specs.Access.{move_range}
use Rattle.obj_memory.specs.Objects.{ObjectState, Objects, no_object, object_at, with_zeroed}
use Rattle.source_meaning.specs.Structures.{moved_into, put_range}
use Rattle.interpreter_objects.specs.Kept.{has_bytes, has_range, is_movable, is_puttable, part_of, with_cleared}
use Rattle.interpreter_objects.specs.Kept.{with_moved, with_put, zeroed}
use Rattle.interpreter_objects.proofs.Insides.{range_inside, range_tags}
use Rattle.interpreter_objects.proofs.Contents.{moved_part, part_range}

no_range : (offset size : ℕ) → has_range offset size no_object ≡ false
unfolding has_range has_bytes
no_range offset size = refl

-- where there is no object, there is no range
pub none_at : {A : Type 0} (offset size n : ℕ) (objects : Objects) (x : A) → object_at objects n ≡ no_object
    → None ≡ (if has_range offset size (object_at objects n) then Some x else None)
none_at offset size n objects x e =
    sym (ap (λ b. if b then Some x else None) (ap (has_range offset size) e ∙ no_range offset size))

past_range : (offset size n : ℕ) (objects : Objects) → length objects ≤ n
    → has_range offset size (object_at objects n) ≡ false
past_range offset size n objects h =
    ap (has_range offset size) (get_or_past objects n no_object h) ∙ no_range offset size

none_means : {A : Type 0} (b : Bool) (x : A) → None ≡ (if b then Some x else None) → b ≡ false
none_means true x e = absurd (cc)
none_means false x e = refl

pub some_means : {A : Type 0} (b : Bool) (x y : A) → Some x ≡ (if b then Some y else None) → b ≡ true
some_means true x y e = refl
some_means false x y e = absurd (cc)

pub some_is : {A : Type 0} (b : Bool) (x y : A) → Some x ≡ (if b then Some y else None) → x ≡ y
some_is true x y e = cc
some_is false x y e = absurd (cc)

-- moves

module _ (size : ℕ) (d s : Place) (objects : Objects) where
  abbrev source : ObjectState
  source = object_at objects s.object

  abbrev destination : ObjectState
  destination = object_at objects d.object

  abbrev found_part : Option ObjectState
  found_part = if has_range s.offset size source then Some (part_of s.offset size source) else None

  pub not_taken : None ≡ found_part → false ≡ is_movable size d s objects
  unfolding is_movable
  not_taken e =
      sym (ap (λ b. b && has_range d.offset size destination) (none_means (has_range s.offset size source) _ e))

  pub not_reached : length objects ≤ d.object → false ≡ is_movable size d s objects
  unfolding is_movable
  not_reached h =
      sym (ap (λ b. has_range s.offset size source && b) (past_range d.offset size d.object objects h)
      ∙ never (has_range s.offset size source))
    where
      never : (b : Bool) → (b && false) ≡ false
      never true = refl
      never false = refl

  pub not_moved : false ≡ is_movable size d s objects → objects ≡ with_moved size d s objects
  unfolding with_moved
  not_moved e = ap (λ b. if b then move_range size d s objects else objects) e

  module _ (o part : ObjectState) (b : Bool) (same : o ≡ destination) (taken : Some part ≡ found_part)
      (there : b ≡ (has_range d.offset size o && has_range (s.offset % 8) size part)) where
    abbrev has_it : has_range s.offset size source ≡ true
    has_it = some_means (has_range s.offset size source) part (part_of s.offset size source) taken

    abbrev part_is : part ≡ part_of s.offset size source
    part_is = some_is (has_range s.offset size source) part (part_of s.offset size source) taken

    pub moved_there : b ≡ is_movable size d s objects
    unfolding is_movable
    moved_there =
        there
        ∙ ap (λ x. has_range d.offset size x && has_range (s.offset % 8) size part) same
        ∙ ap (λ x. has_range d.offset size destination && has_range (s.offset % 8) size x) part_is
        ∙ ap (λ x. has_range d.offset size destination && x) (part_range s.offset size source has_it)
        ∙ with_true (has_range d.offset size destination)
        ∙ sym (ap (λ x. x && has_range d.offset size destination) has_it)
      where
        with_true : (x : Bool) → (x && true) ≡ x
        with_true true = refl
        with_true false = refl

    pub moved_by : (new : ObjectState) → new ≡ (if b then moved_into size d.offset (s.offset % 8) part o else o)
        → set objects d.object new ≡ with_moved size d s objects
    unfolding with_moved move_range moved_into
    moved_by new e =
        ap (set objects d.object) (e
        ∙ ap (λ x. if b then moved_into size d.offset (s.offset % 8) x o else o) part_is
        ∙ ap (λ x. if b then x else o) (moved_part s.offset size source has_it d.offset o)
        ∙ ap (λ x. if b then moved_into size d.offset s.offset source x else x) same)
        ∙ by b
        ∙ ap (λ x. if x then move_range size d s objects else objects) moved_there
      where
        by : (x : Bool) → set objects d.object (if x then moved_into size d.offset s.offset source destination
            else destination)
            ≡ (if x then move_range size d s objects else objects)
        by true = refl
        by false = set-get_or objects d.object no_object

-- contents

module _ (size : ℕ) (d : Place) (from : ℕ) (c : ObjectState) (objects : Objects) where
  pub not_put : false ≡ is_puttable size d from c objects → objects ≡ with_put size d from c objects
  unfolding with_put
  not_put e = ap (λ b. if b then put_range size d from c objects else objects) e

  pub without_contents : has_range from size c ≡ false → false ≡ is_puttable size d from c objects
  unfolding is_puttable
  without_contents e = sym (ap (λ b. b && has_range d.offset size (object_at objects d.object)) e)

  pub put_past : length objects ≤ d.object → false ≡ is_puttable size d from c objects
  unfolding is_puttable
  put_past h =
      sym (ap (λ b. has_range from size c && b) (past_range d.offset size d.object objects h)
      ∙ never (has_range from size c))
    where
      never : (b : Bool) → (b && false) ≡ false
      never true = refl
      never false = refl

  module _ (o : ObjectState) (b : Bool) (same : o ≡ object_at objects d.object)
      (there : b ≡ (has_range d.offset size o && has_range from size c)) where
    pub put_there : b ≡ is_puttable size d from c objects
    unfolding is_puttable
    put_there =
        there
        ∙ ap (λ x. has_range d.offset size x && has_range from size c) same
        ∙ either (has_range d.offset size (object_at objects d.object)) (has_range from size c)
      where
        either : (x y : Bool) → (x && y) ≡ (y && x)
        either true true = refl
        either true false = refl
        either false true = refl
        either false false = refl

    pub put_by : (new : ObjectState) → new ≡ (if b then moved_into size d.offset from c o else o)
        → set objects d.object new ≡ with_put size d from c objects
    unfolding with_put put_range
    put_by new e =
        ap (set objects d.object) (e ∙ ap (λ x. if b then moved_into size d.offset from c x else x) same)
        ∙ by b
        ∙ ap (λ x. if x then put_range size d from c objects else objects) put_there
      where
        by : (x : Bool) → set objects d.object (if x then moved_into size d.offset from c (object_at objects d.object)
            else object_at objects d.object)
            ≡ (if x then put_range size d from c objects else objects)
        by true = refl
        by false = set-get_or objects d.object no_object

-- zero bytes

pub not_cleared : (n : ℕ) (objects : Objects) → (object_at objects n).is_live ≡ false
    → objects ≡ with_cleared n objects
unfolding with_cleared
not_cleared n objects e = sym (ap (λ b. if b then with_zeroed n objects else objects) e)

pub cleared_by : (n : ℕ) (objects : Objects) (o new : ObjectState) → (object_at objects n).is_live ≡ true
    → o ≡ object_at objects n
    → new ≡ zeroed o
    → set objects n new ≡ with_cleared n objects
unfolding with_cleared with_zeroed zeroed
cleared_by n objects o new live same e =
    ap (set objects n) (e
    ∙ ap zeroed same)
    ∙ sym (ap (λ b. if b then with_zeroed n objects else objects) live)

-- where there is no object, none is live
pub not_live : (n : ℕ) (objects : Objects) → length objects ≤ n → (object_at objects n).is_live ≡ false
not_live n objects h = ap (λ o. o.is_live) (get_or_past objects n no_object h)

pub ruleset moving = (moved_by, moved_there, not_moved, not_taken, not_reached)

pub ruleset taking = (none_at, range_inside, range_tags)

pub ruleset putting = (put_by, put_there, not_put, put_past, without_contents)

pub ruleset clearing = (cleared_by, not_cleared, not_live)
