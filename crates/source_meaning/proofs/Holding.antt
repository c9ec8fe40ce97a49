-- Objects that live on, and pointers to bytes of live objects.
use Rattle.source_meaning.specs.Good.{IsHeld}
use Rattle.std.proofs.Common.{◌≡◌, ℕ, zero, suc, ◌+◌, ◌%◌, ◌^◌, ◌<◌, ◌≤◌, Bool, true, false, List, [], ◌∷◌, ◌++◌}
use Rattle.std.proofs.Common.{length, refl, sym, ap, ◌∙◌, arith, nat_eq, if◌then◌else◌, ◌⊎◌, inl, inr, length-set}
use Rattle.std.proofs.Common.{length-append}
use Rattle.std.proofs.lemmas.Bool.{eqb-true, eqb-false, cases_lt}
use Rattle.std.proofs.Math.Nat.{mod-eq_of_lt}
use Rattle.behaviours.specs.Shown.{Access}
use Rattle.obj_memory.specs.declared.value.Tag.{Tag}
use Rattle.obj_memory.specs.declared.value.Tag.TheVariants.{Untagged, OfFunction, OfObject}
use Rattle.obj_memory.specs.declared.value.Value.{Value}
use Rattle.obj_memory.specs.declared.value.Place.{Place}
use Rattle.obj_memory.specs.declared.object.Storage.{Storage}
use Rattle.obj_memory.specs.declared.judgement.Verdict.TheVariants.{Outside, Dead, Inside}
use Rattle.obj_memory.specs.Objects.{ObjectState, Objects, no_object, object_at, new_object, with_new, with_dead}
use Rattle.obj_memory.specs.Objects.{pointer_to}
use Rattle.obj_memory.specs.Judgement.{are_within, place_in, judged, judge, named_in, named, narrowed_tag, narrowed}
use Rattle.obj_memory.specs.Heap.{is_allocated}
use Rattle.obj_memory.specs.Sound.{Continues, KeepsObjects, IsSoundTag, IsAllowed}
use Rattle.obj_memory.proofs.Continuing.{continues_same, continues_then, continues_new, continues_dead}
use Rattle.obj_memory.proofs.Judging.{judge_inside}
use Rattle.obj_memory.proofs.Making.{new_other, dead_other}
use Rattle.c_tree.specs.declared.expression.Kind.{Kind}
use Rattle.c_tree.specs.Kinds.{size_of_kind}
use Rattle.source_meaning.specs.Keeping.{LiesInObject, AllLie, LivesOn, IsDirect, IsNamed}

-- accesses

lies_on : (old new : Objects) → Continues old new → (a : Access) → LiesInObject old a → LiesInObject new a
lies_on old new c a h = record {
  object = h.object;
  made = omega (arith, h.made, c.longer);
  start = let e = c.address h.object h.made in omega (arith, e, h.start);
  end = let e = c.address h.object h.made in let z = c.size h.object h.made in omega (arith, e, z, h.end);
}

pub all_lie_on : (old new : Objects) → Continues old new → (all : List Access) → AllLie old all → AllLie new all
all_lie_on old new c [] h = tt
all_lie_on old new c (a ∷ rest) h = (lies_on old new c a h.0, all_lie_on old new c rest h.1)

pub all_lie_more : (objects : Objects) (all : List Access) (a : Access) → AllLie objects all → LiesInObject objects a
    → AllLie objects (all ++ (a ∷ []))
all_lie_more objects [] a h x = (x, tt)
all_lie_more objects (b ∷ bs) a h x = (h.0, all_lie_more objects bs a h.1 x)

-- numbers of objects

pub beyond : (objects : Objects) (n : ℕ) → length objects ≤ n → object_at objects n ≡ no_object
beyond [] n h = refl
beyond (o ∷ os) zero h = absurd (omega arith)
beyond (o ∷ os) (suc n) h = beyond os n (omega arith)

pub length-dead : (n : ℕ) (objects : Objects) → length (with_dead n objects) ≡ length objects
unfolding with_dead
length-dead n objects = length-set objects n _

pub length-new : (storage : Storage) (address size : ℕ) (objects : Objects)
    → length (with_new storage address size objects) ≡ length objects + 1
unfolding with_new
length-new storage address size objects = length-append objects (new_object storage address size ∷ [])

-- what is live is an object of the list
pub live_made : (objects : Objects) (n : ℕ) → (object_at objects n).is_live ≡ true → n < length objects
live_made objects n live = by (cases_lt n (length objects))
  where
    by : (n < length objects) ⊎ (length objects ≤ n) → n < length objects
    by (inl lt) = lt
    by (inr le) = absurd (let dead : (object_at objects n).is_live
        ≡ false = ap (λ (o : ObjectState). o.is_live) (beyond objects n le) in let both : true ≡ false = sym live
        ∙ dead in cc)

-- objects that live on

pub lives_same : (objects : Objects) → LivesOn objects objects
lives_same objects = record { continues = continues_same objects; live = λ n lt held live. live }

pub lives_then : (a b c : Objects) → LivesOn a b → LivesOn b c → LivesOn a c
lives_then a b c p q = record {
  continues = continues_then a b c p.continues q.continues;
  live = λ n lt held live. q.live n (omega (arith, lt, p.continues.longer))
      (ap is_allocated (p.continues.storage n lt) ∙ held) (p.live n lt held live);
}

pub lives_kept : (old new : Objects) → Continues old new → KeepsObjects old new → LivesOn old new
lives_kept old new c k = record { continues = c; live = λ n lt held live. (k.at n).live ∙ live }

pub lives_new : (storage : Storage) (address size : ℕ) (objects : Objects)
    → LivesOn objects (with_new storage address size objects)
lives_new storage address size objects = record {
  continues = continues_new storage address size objects;
  live = λ n lt held live. ap (λ o. o.is_live) (new_other storage address size n objects lt) ∙ live;
}

-- a block may die
pub lives_dead_block : (m : ℕ) (objects : Objects) → is_allocated (object_at objects m).storage ≡ true
    → LivesOn objects (with_dead m objects)
lives_dead_block m objects block = record
    { continues = continues_dead m objects; live = λ n lt held live. by n held live (nat_eq n m) refl }
  where
    by : (n : ℕ) → is_allocated (object_at objects n).storage ≡ false → (object_at objects n).is_live ≡ true
        → (b : Bool) → nat_eq n m ≡ b → (object_at (with_dead m objects) n).is_live ≡ true
    by n held live true e = absurd
        (let same : n ≡ m = eqb-true n m e in let both : true ≡ false = sym block
        ∙ ap (λ k. is_allocated (object_at objects k).storage) (sym same) ∙ held in cc)
    by n held live false e = ap (λ o. o.is_live) (dead_other m n objects (eqb-false n m e)) ∙ live

-- pointers to bytes of live objects

pub direct_named : (objects : Objects) (v : Value) (size : ℕ) (d : IsDirect objects v size)
    → named v objects ≡ Inside (place_in objects d.object v.word)
unfolding named
direct_named objects v size d = ap (λ t. named_in t v.word objects) d.tag

pub direct_allowed : (objects : Objects) (v : Value) (size : ℕ) (d : IsDirect objects v size)
    → IsAllowed objects v size (place_in objects d.object v.word)
direct_allowed objects v size d = record {
  place = record { made = d.made; room = omega (arith, d.start, d.end) };
  live = d.live;
  address = omega (arith, d.start);
}

pub allowed_lies : (objects : Objects) (v : Value) (size : ℕ) → {p : _} → IsAllowed objects v size p → (a : Access)
    → a.address ≡ v.word → a.size ≡ size → LiesInObject objects a
allowed_lies objects v size {p = p} h a at long = record {
  object = p.object;
  made = h.place.made;
  start = omega (arith, h.address, at);
  end = omega (arith, h.address, at, long, h.place.room);
}

pub direct_less : (objects : Objects) (v : Value) (n m : ℕ) → m ≤ n → IsDirect objects v n → IsDirect objects v m
direct_less objects v n m le d = record {
  object = d.object;
  bounds = d.bounds;
  tag = d.tag;
  made = d.made;
  live = d.live;
  start = d.start;
  end = omega (arith, le, d.end);
}

pub direct_kept : (old new : Objects) (v : Value) (size : ℕ) → KeepsObjects old new → IsDirect old v size
    → IsDirect new v size
direct_kept old new v size k d =
    let a = (k.at d.object).address in
    let z = (k.at d.object).size in
    let c = k.count in
    record {
      object = d.object;
      bounds = d.bounds;
      tag = d.tag;
      made = omega (arith, d.made, c);
      live = (k.at d.object).live ∙ d.live;
      start = omega (arith, a, d.start);
      end = omega (arith, a, z, d.end);
    }

-- an access that is judged to be inside is through a pointer to these bytes
inside_of : (x l : Bool) (q p : Place) → (if x then (if l then Inside q else Dead) else Outside) ≡ Inside p → q ≡ p
inside_of true true q p e = cc
inside_of true false q p e = absurd cc
inside_of false l q p e = absurd cc

judged_by : (objects : Objects) (size : ℕ) (v : Value) (p : Place) → IsAllowed objects v size p → (t : Tag) → v.tag ≡ t
    → judged size t v.word objects ≡ Inside p → IsDirect objects v size
judged_by objects size v p a Untagged e h = absurd cc
judged_by objects size v p a (OfFunction f) e h = absurd cc
judged_by objects size v p a (OfObject n b) e h =
    let same : n ≡ p.object = ap (λ (q : Place). q.object)
    (inside_of (are_within b v.word size) (object_at objects n).is_live (place_in objects n v.word) p h) in
    record {
      object = p.object;
      bounds = b;
      tag = e ∙ ap (λ k. OfObject k b) same;
      made = a.place.made;
      live = a.live;
      start = omega (arith, a.address);
      end = omega (arith, a.address, a.place.room);
    }

pub judged_direct : (functions : ℕ) (objects : Objects) (size : ℕ) (v : Value) (p : Place)
    → IsSoundTag functions objects v.tag → judge size v objects ≡ Inside p → IsDirect objects v size
unfolding judge
judged_direct functions objects size v p t e = judged_by objects size v p (judge_inside _ objects size v p t e) v.tag
    refl e

-- a member of what a pointer points to; addresses do not wrap
narrowed_word : (objects : Objects) (v : Value) (whole offset size : ℕ) (d : IsDirect objects v whole)
    → (object_at objects d.object).address + (object_at objects d.object).size ≤ 1610612736 → offset + size ≤ whole
    → (v.word + offset) % 2 ^ 64 ≡ v.word + offset
narrowed_word objects v whole offset size d low le = mod-eq_of_lt (omega (arith, d.end, low, le))

pub direct_narrowed : (objects : Objects) (v : Value) (whole offset size : ℕ) (d : IsDirect objects v whole)
    → (object_at objects d.object).address + (object_at objects d.object).size ≤ 1610612736 → offset + size ≤ whole
    → IsDirect objects (narrowed offset size v) size
unfolding narrowed
direct_narrowed objects v whole offset size d low le =
    let w = narrowed_word objects v whole offset size d low le in
    record {
      object = d.object;
      bounds = _;
      tag = ap (narrowed_tag ((v.word + offset) % 2 ^ 64) size) d.tag;
      made = d.made;
      live = d.live;
      start = omega (arith, w, d.start);
      end = omega (arith, w, d.end, le);
    }

pub named_less : (objects : Objects) (v : Value) (n m : ℕ) → m ≤ n → IsNamed objects v n → IsNamed objects v m
unfolding direct_less
named_less objects v n m le h = record { direct = direct_less objects v n m le h.direct; named = h.named }

pub named_narrowed : (objects : Objects) (v : Value) (whole offset size : ℕ) (h : IsNamed objects v whole)
    → (object_at objects h.direct.object).address + (object_at objects h.direct.object).size ≤ 1610612736
    → offset + size ≤ whole
    → IsNamed objects (narrowed offset size v) size
unfolding direct_narrowed
named_narrowed objects v whole offset size h low le = record
    { direct = direct_narrowed objects v whole offset size h.direct low le; named = h.named }

pub named_on : (old new : Objects) → LivesOn old new → (v : Value) (size : ℕ) → IsNamed old v size → IsNamed new v size
named_on old new l v size h =
    let d = h.direct in
    let a = l.continues.address d.object d.made in
    let z = l.continues.size d.object d.made in
    record {
      direct = record {
        object = d.object;
        bounds = d.bounds;
        tag = d.tag;
        made = omega (arith, d.made, l.continues.longer);
        live = l.live d.object d.made h.named d.live;
        start = omega (arith, a, d.start);
        end = omega (arith, a, z, d.end);
      };
      named = ap is_allocated (l.continues.storage d.object d.made) ∙ h.named;
    }

pub held_on : (old new : Objects) → LivesOn old new → (n : ℕ) (kind : Kind) → IsHeld old n kind → IsHeld new n kind
held_on old new l n kind h = record {
  made = omega (arith, h.made, l.continues.longer);
  live = l.live n h.made h.held h.live;
  held = ap is_allocated (l.continues.storage n h.made) ∙ h.held;
  size = l.continues.size n h.made ∙ h.size;
}

pub held_named : (objects : Objects) (n : ℕ) (kind : Kind) → IsHeld objects n kind
    → IsNamed objects (pointer_to n objects) (size_of_kind kind)
unfolding pointer_to
held_named objects n kind h = record {
  direct = record {
    object = n;
    bounds = _;
    tag = refl;
    made = h.made;
    live = h.live;
    start = omega arith;
    end = omega (arith, h.size);
  };
  named = h.held;
}
