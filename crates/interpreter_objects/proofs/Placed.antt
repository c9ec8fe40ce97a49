-- What is done to one object, among all of them.
use Rattle.std.proofs.Common.{◌≡◌, ℕ, zero, suc, ◌/◌, ◌≤◌, Bool, true, false, if◌then◌else◌, List, [], ◌∷◌}
use Rattle.std.proofs.Common.{length, set, refl, sym, ap, ◌∙◌, Some, None, ⊎_elim}
use Rattle.std.proofs.lemmas.Bool.{cases_lt}
use Rattle.std.proofs.lemmas.List.{get_or_past, set-get_or, set_past}
use Rattle.byteorder.specs.Endian.{little_bytes}
use Rattle.obj_memory.specs.declared.value.Place.{Place}
use Rattle.obj_memory.specs.declared.value.Scalar.{Scalar}
use Rattle.obj_memory.specs.declared.value.Scalar.TheVariants.{Integer, Pointer}
use Rattle.obj_memory.specs.declared.value.Tag.{Tag}
use Rattle.obj_memory.specs.declared.value.Value.{Value}
use Rattle.obj_memory.specs.Access.{is_aligned, read_value, scalar_size, write_bytes, write_tag, write_value}
use Rattle.obj_memory.specs.Objects.{ObjectState, Objects, no_object, object_at}
use Rattle.obj_memory.proofs.Reading.{object_set}
use Rattle.interpreter_objects.specs.Kept.{found, found_in, has_bytes, is_there, read_in, with_bytes}
use Rattle.interpreter_objects.specs.Kept.{with_bytes_put, with_written, written_in}

set_again : {A : Type 0} (xs : List A) (n : ℕ) (x y : A) → set (set xs n x) n y ≡ set xs n y
set_again [] n x y = refl
set_again (a ∷ xs) zero x y = refl
set_again (a ∷ xs) (suc n) x y = ap (λ ys. a ∷ ys) (set_again xs n x y)

-- an object that is not there has no bytes
pub absent : (size : ℕ) (p : Place) (objects : Objects) → object_at objects p.object ≡ no_object
    → has_bytes p.offset size (object_at objects p.object) ≡ false
unfolding has_bytes
absent size p objects e = ap (λ o. has_bytes p.offset size o) e

pub read_is : (k : Scalar) (p : Place) (objects : Objects)
    → read_value k p objects ≡ read_in k p.offset (object_at objects p.object)
unfolding read_value read_in
read_is (Integer t) p objects = refl
read_is Pointer p objects = refl

pub found_is : (k : Scalar) (p : Place) (objects : Objects) (o : ObjectState) → o ≡ object_at objects p.object
    → found_in k p.offset o ≡ found k p objects
unfolding found found_in is_there
found_is k p objects o e =
    ap (found_in k p.offset) e
    ∙ sym (ap (λ v. if has_bytes p.offset (scalar_size k) (object_at objects p.object) then Some v else None)
    (read_is k p objects))

pub not_found : (k : Scalar) (p : Place) (objects : Objects) → object_at objects p.object ≡ no_object
    → None ≡ found k p objects
unfolding found is_there
not_found k p objects e =
    sym (ap (λ b. if b then Some (read_value k p objects) else None) (absent (scalar_size k) p objects e))

-- a tag set behind the bytes
tag_set : (t : Tag) (p : Place) (o : ObjectState) (objects : Objects) (b : Bool)
    → (if b then set (set objects p.object o) p.object
    (record (object_at (set objects p.object o) p.object) {
      tags = set (object_at (set objects p.object o) p.object).tags (p.offset / 8) t;
    }) else set objects p.object o)
    ≡ set objects p.object (if b then record o { tags = set o.tags (p.offset / 8) t } else o)
tag_set t p o objects false = refl
tag_set t p o objects true = ⊎_elim
    (λ h. ap (λ x. set (set objects p.object o) p.object (record x { tags = set x.tags (p.offset / 8) t }))
    (object_set objects p.object o h)
    ∙ set_again objects p.object o (record o { tags = set o.tags (p.offset / 8) t }))
    (λ h. past h)
    (cases_lt p.object (length objects))
  where
    past : length objects ≤ p.object
        → set (set objects p.object o) p.object (record (object_at (set objects p.object o) p.object) {
          tags = set (object_at (set objects p.object o) p.object).tags (p.offset / 8) t;
        })
        ≡ set objects p.object (record o { tags = set o.tags (p.offset / 8) t })
    past h =
        set_again objects p.object o _ ∙ set_past objects p.object _ h ∙ sym (set_past objects p.object _ h)

pub written_is : (k : Scalar) (v : Value) (p : Place) (objects : Objects)
    → write_value k v p objects ≡ set objects p.object (written_in k v p.offset (object_at objects p.object))
unfolding write_value write_bytes write_tag written_in
written_is (Integer t) v p objects = refl
written_is Pointer v p objects =
    tag_set v.tag p (with_bytes p.offset (little_bytes 8 v.word) (object_at objects p.object)) objects
    (is_aligned p.offset)

-- where there is no object
pub not_there : (size : ℕ) (p : Place) (objects : Objects) → length objects ≤ p.object
    → false ≡ has_bytes p.offset size (object_at objects p.object)
unfolding has_bytes
not_there size p objects h = sym (ap (λ o. has_bytes p.offset size o) (get_or_past objects p.object no_object h))

written_if : (k : Scalar) (v : Value) (p : Place) (objects : Objects) (b : Bool)
    → set objects p.object
    (if b then written_in k v p.offset (object_at objects p.object) else object_at objects p.object)
    ≡ (if b then write_value k v p objects else objects)
written_if k v p objects true = sym (written_is k v p objects)
written_if k v p objects false = set-get_or objects p.object no_object

pub written_by : (k : Scalar) (v : Value) (p : Place) (objects : Objects) (o new : ObjectState) (b : Bool)
    → o ≡ object_at objects p.object
    → b ≡ has_bytes p.offset (scalar_size k) o
    → new ≡ (if b then written_in k v p.offset o else o)
    → set objects p.object new ≡ with_written k v p objects
unfolding with_written is_there
written_by k v p objects o new b same there e =
    ap (λ x. set objects p.object x) e
    ∙ ap (λ x. set objects p.object (if b then written_in k v p.offset x else x)) same
    ∙ written_if k v p objects b
    ∙ ap (λ c. if c then write_value k v p objects else objects) (there ∙ ap (has_bytes p.offset (scalar_size k)) same)

pub not_written : (k : Scalar) (v : Value) (p : Place) (objects : Objects) → length objects ≤ p.object
    → objects ≡ with_written k v p objects
unfolding with_written is_there
not_written k v p objects h =
    ap (λ c. if c then write_value k v p objects else objects) (not_there (scalar_size k) p objects h)

pub ruleset writing = (written_by, not_there, not_written)

-- bytes written

put_if : (bytes : List ℕ) (p : Place) (objects : Objects) (b : Bool)
    → set objects p.object
    (if b then with_bytes p.offset bytes (object_at objects p.object) else object_at objects p.object)
    ≡ (if b then write_bytes bytes p objects else objects)
unfolding write_bytes
put_if bytes p objects true = refl
put_if bytes p objects false = set-get_or objects p.object no_object

pub bytes_by : (bytes : List ℕ) (p : Place) (objects : Objects) (o new : ObjectState) (b : Bool)
    → o ≡ object_at objects p.object
    → b ≡ has_bytes p.offset (length bytes) o
    → new ≡ (if b then with_bytes p.offset bytes o else o)
    → set objects p.object new ≡ with_bytes_put bytes p objects
unfolding with_bytes_put is_there
bytes_by bytes p objects o new b same there e =
    ap (λ x. set objects p.object x) e
    ∙ ap (λ x. set objects p.object (if b then with_bytes p.offset bytes x else x)) same
    ∙ put_if bytes p objects b
    ∙ ap (λ c. if c then write_bytes bytes p objects else objects) (there ∙ ap (has_bytes p.offset (length bytes)) same)

pub no_bytes_by : (bytes : List ℕ) (p : Place) (objects : Objects) → length objects ≤ p.object
    → objects ≡ with_bytes_put bytes p objects
unfolding with_bytes_put is_there
no_bytes_by bytes p objects h =
    ap (λ c. if c then write_bytes bytes p objects else objects) (not_there (length bytes) p objects h)

pub ruleset putting_bytes = (bytes_by, not_there, no_bytes_by)
