-- Every action leaves the objects where they are, and the dead dead.
use Rattle.std.proofs.Common.{◌≡◌, ℕ, ◌/◌, ◌<◌, true, false, if◌then◌else◌, List, [], ◌∷◌, ◌++◌, length, set, refl}
use Rattle.std.proofs.Common.{ap, sym, ◌∙◌, subst, arith, length-append, length-set}
use Rattle.std.proofs.lemmas.List.{get_or_append_left}
use Rattle.obj_memory.specs.declared.object.Storage.{Storage}
use Rattle.obj_memory.specs.declared.value.Tag.{Tag}
use Rattle.obj_memory.specs.declared.value.Value.{Value}
use Rattle.obj_memory.specs.declared.value.Place.{Place}
use Rattle.obj_memory.specs.declared.value.Scalar.{Scalar}
use Rattle.obj_memory.specs.declared.value.Scalar.TheVariants.{Integer, Pointer}
use Rattle.obj_memory.specs.Objects.{ObjectState, Objects, no_object, object_at, new_object, with_new, with_dead}
use Rattle.obj_memory.specs.Objects.{with_zeroed}
use Rattle.obj_memory.specs.Access.{is_aligned, write_bytes, write_tag, write_value, move_range}
use Rattle.obj_memory.specs.Sound.{Continues}
use Rattle.obj_memory.proofs.Listed.{at_set}

pub continues_same : (objects : Objects) → Continues objects objects
continues_same objects = record {
  longer = omega arith;
  storage = λ n lt. refl;
  address = λ n lt. refl;
  size = λ n lt. refl;
  dead = λ n lt h. h;
}

pub continues_then : (a b c : Objects) → Continues a b → Continues b c → Continues a c
continues_then a b c p q = record {
  longer = omega (arith, p.longer, q.longer);
  storage = λ n lt. q.storage n (omega (arith, p.longer, lt)) ∙ p.storage n lt;
  address = λ n lt. q.address n (omega (arith, p.longer, lt)) ∙ p.address n lt;
  size = λ n lt. q.size n (omega (arith, p.longer, lt)) ∙ p.size n lt;
  dead = λ n lt h. q.dead n (omega (arith, p.longer, lt)) (p.dead n lt h);
}

-- an object that stays where it is, and dead if it was
pub record IsLater (old new : ObjectState) : Type 0 where
  pub storage : new.storage ≡ old.storage
  pub address : new.address ≡ old.address
  pub size : new.size ≡ old.size
  pub dead : old.is_live ≡ false → new.is_live ≡ false

later_at : (objects : Objects) (n m : ℕ) (x : ObjectState) → IsLater (object_at objects n) x
    → IsLater (object_at objects m) (object_at (set objects n x) m)
later_at objects n m x h =
    at_set (λ o. IsLater (object_at objects m) o) no_object objects n m x
    (λ e. subst (λ k. IsLater (object_at objects k) x) (sym e) h)
    (record { storage = refl; address = refl; size = refl; dead = λ d. d })

pub continues_set : (objects : Objects) (n : ℕ) (x : ObjectState) → IsLater (object_at objects n) x
    → Continues objects (set objects n x)
continues_set objects n x h = record {
  longer = omega (arith, length-set objects n x);
  storage = λ m lt. (later_at objects n m x h).storage;
  address = λ m lt. (later_at objects n m x h).address;
  size = λ m lt. (later_at objects n m x h).size;
  dead = λ m lt. (later_at objects n m x h).dead;
}

pub continues_added : (objects : Objects) (x : ObjectState) → Continues objects (objects ++ (x ∷ []))
continues_added objects x = record {
  longer = omega (arith, length-append objects (x ∷ []));
  storage = λ n lt. ap (λ o. o.storage) (same n lt);
  address = λ n lt. ap (λ o. o.address) (same n lt);
  size = λ n lt. ap (λ o. o.size) (same n lt);
  dead = λ n lt h. ap (λ o. o.is_live) (same n lt) ∙ h;
}
  where
    same : (n : ℕ) → n < length objects → object_at (objects ++ (x ∷ [])) n ≡ object_at objects n
    same n lt = get_or_append_left objects (x ∷ []) no_object n lt

pub continues_new : (storage : Storage) (address size : ℕ) (objects : Objects)
    → Continues objects (with_new storage address size objects)
unfolding with_new
continues_new storage address size objects = continues_added objects (new_object storage address size)

pub continues_dead : (n : ℕ) (objects : Objects) → Continues objects (with_dead n objects)
unfolding with_dead
continues_dead n objects = continues_set objects n _ (record {
  storage = refl;
  address = refl;
  size = refl;
  dead = λ h. refl;
})

pub continues_zeroed : (n : ℕ) (objects : Objects) → Continues objects (with_zeroed n objects)
unfolding with_zeroed
continues_zeroed n objects = continues_set objects n _ (record {
  storage = refl;
  address = refl;
  size = refl;
  dead = λ h. h;
})

pub continues_bytes : (new : List ℕ) (p : Place) (objects : Objects) → Continues objects (write_bytes new p objects)
unfolding write_bytes
continues_bytes new p objects = continues_set objects p.object _
    (record { storage = refl; address = refl; size = refl; dead = λ h. h })

pub continues_tag : (t : Tag) (p : Place) (objects : Objects) → Continues objects (write_tag t p objects)
unfolding write_tag
continues_tag t p objects =
    let o = object_at objects p.object in
    elim (is_aligned p.offset) as (λ b. Continues objects (if b then set objects p.object
    (record o { tags = set o.tags (p.offset / 8) t }) else objects)) [
      | true ↦ continues_set objects p.object _ (record { storage = refl; address = refl; size = refl; dead = λ h. h })
      | false ↦ continues_same objects
    ]

pub continues_value : (s : Scalar) (v : Value) (p : Place) (objects : Objects)
    → Continues objects (write_value s v p objects)
unfolding write_value
continues_value (Integer t) v p objects = continues_bytes _ p objects
continues_value Pointer v p objects = continues_then _ _ _ (continues_bytes _ p objects) (continues_tag v.tag p _)

pub continues_moved : (size : ℕ) (d s : Place) (objects : Objects) → Continues objects (move_range size d s objects)
unfolding move_range
continues_moved size d s objects = continues_set objects d.object _
    (record { storage = refl; address = refl; size = refl; dead = λ h. h })
