-- A byte looked at in the source, and what the verdict on it says of the tag.
use Rattle.std.proofs.Common.{◌≡◌, ◌≢◌, ℕ, ◌+◌, ◌-◌, ◌≤◌, List, [], ◌∷◌, Bool, true, false}
use Rattle.std.proofs.Common.{◌&&◌, if◌then◌else◌, get_or, drop, take, refl, sym, ap, ◌∙◌, arith, ◌<◌, ◌^◌}
use Rattle.std.specs.Prelude.{nat_le, slice_index}
use Rattle.std.proofs.lemmas.Bool.{le-leb, leb-true, and_from, cond-true}
use Rattle.std.proofs.lemmas.List.{get_or-drop}
use Rattle.obj_memory.specs.declared.value.Bounds.{Bounds}
use Rattle.obj_memory.specs.declared.value.Tag.{Tag}
use Rattle.obj_memory.specs.declared.value.Tag.TheVariants.{Untagged, OfFunction, OfObject}
use Rattle.obj_memory.specs.declared.value.Value.{Value}
use Rattle.obj_memory.specs.declared.value.Place.{Place}
use Rattle.obj_memory.specs.declared.value.Scalar.TheVariants.{Integer}
use Rattle.obj_memory.specs.declared.int_type.IntType.TheVariants.{UnsignedChar}
use Rattle.obj_memory.specs.declared.judgement.Verdict.{Verdict}
use Rattle.obj_memory.specs.declared.judgement.Verdict.TheVariants.{Outside, Dead, Inside}
use Rattle.obj_memory.specs.Objects.{Objects, object_at}
use Rattle.obj_memory.specs.Judgement.{place_in, judge, judged, moved}
use Rattle.obj_memory.specs.Integers.{fit, size_of}
use Rattle.obj_memory.specs.Access.{read_value}
use Rattle.obj_memory.specs.Sound.{IsSound}
use Rattle.source_meaning.specs.State.{State as Source, Gives}
use Rattle.source_meaning.specs.Acting.{at_work}
use Rattle.source_meaning.specs.Bytes.{look}
use Rattle.source_meaning.specs.Strings.{reach_by, reach}
use Rattle.flat_actions.proofs.Judged.{judged_then, located_then}

-- a value moved one byte on
pub moved_tag : (v : Value) → (moved 1 v).tag ≡ v.tag
unfolding moved
moved_tag v = refl

pub moved_word : (v : Value) → v.word + 1 < 2 ^ 64 → (moved 1 v).word ≡ v.word + 1
unfolding moved
moved_word v small = omega arith

first_of : (bs : List ℕ) → slice_index (take 1 bs) 0 ≡ get_or bs 0 0
first_of [] = refl
first_of (b ∷ bs) = refl

-- one byte read
pub read_byte : (functions : ℕ) (objects : Objects) (p : Place) → IsSound functions objects
    → (read_value (Integer UnsignedChar) p objects).word ≡ get_or (object_at objects p.object).bytes p.offset 0
unfolding read_value fit size_of
read_byte functions objects p sound =
    let bs = (object_at objects p.object).bytes in
    let z : p.offset + 0 ≡ p.offset = omega arith in
    let e : slice_index (take 1 (drop p.offset bs)) 0 ≡ get_or bs p.offset 0 =
    first_of (drop p.offset bs) ∙ get_or-drop p.offset bs 0 0 ∙ ap (λ k. get_or bs k 0) z in
    let small = (sound.at p.object).values p.offset in
    omega (arith, e, small)

-- a byte inside the bounds of a live object
pub judged_one : (objects : Objects) (n : ℕ) (b : Bounds) (v : Value) → v.tag ≡ OfObject n b
    → (object_at objects n).is_live ≡ true → b.base ≤ v.word → v.word + 1 ≤ b.bound
    → judge 1 v objects ≡ Inside (place_in objects n v.word)
unfolding judge
judged_one objects n b v tag live lo hi =
    ap (λ t. judged 1 t v.word objects) tag
    ∙ cond-true (nat_le b.base v.word && nat_le (v.word + 1) b.bound)
    (if (object_at objects n).is_live then Inside (place_in objects n v.word) else Dead) Outside
    (and_from (nat_le b.base v.word) (nat_le (v.word + 1) b.bound) (le-leb b.base v.word lo)
    (le-leb (v.word + 1) b.bound hi))
    ∙ cond-true (object_at objects n).is_live (Inside (place_in objects n v.word)) Dead live

abbrev pub worked_on : ℕ → Source → Source
worked_on n x = at_work (x.work + n) x

-- a look by the verdict on it
pub looked_by : (x : Source) (v : Value) (line : ℕ) (w : Verdict) → judge 1 v x.objects ≡ w
    → look v line x ≡ judged_then w line x (λ p. Gives (read_value (Integer UnsignedChar) p x.objects).word
    (worked_on 1 x))
looked_by x v line w e =
    located_then 1 v line x _
    ∙ ap (λ w. judged_then w line x (λ p. Gives (read_value (Integer UnsignedChar) p x.objects).word (worked_on 1 x))) e

pub looked : (functions : ℕ) (x : Source) (n : ℕ) (b : Bounds) (v : Value) (line : ℕ) → IsSound functions x.objects
    → v.tag ≡ OfObject n b → (object_at x.objects n).is_live ≡ true → b.base ≤ v.word → v.word + 1 ≤ b.bound
    → look v line x ≡ Gives (get_or (object_at x.objects n).bytes (v.word - (object_at x.objects n).address) 0)
    (worked_on 1 x)
looked functions x n b v line sound tag live lo hi =
    looked_by x v line (Inside (place_in x.objects n v.word)) (judged_one x.objects n b v tag live lo hi)
    ∙ ap (λ byte. Gives byte (worked_on 1 x)) (read_byte functions x.objects (place_in x.objects n v.word) sound)

-- ---- what a verdict says of the tag

-- the tag is that of an object, with a byte at the address within its bounds
pub record IsAround (tag : Tag) (address : ℕ) : Type 0 where
  pub number : ℕ
  pub bounds : Bounds
  pub tag_is : tag ≡ OfObject number bounds
  pub from : bounds.base ≤ address
  pub below : address + 1 ≤ bounds.bound

both_hold : (x y live : Bool) (p : Place) (w : Verdict)
    → (if x && y then (if live then Inside p else Dead) else Outside) ≡ w → w ≢ Outside → (x ≡ true) × (y ≡ true)
both_hold true true live p w e ne = (refl, refl)
both_hold true false live p w e ne = absurd (ne (sym e))
both_hold false y live p w e ne = absurd (ne (sym e))

pub is_around : (objects : Objects) (t : Tag) (a : ℕ) (w : Verdict) → judged 1 t a objects ≡ w → w ≢ Outside
    → IsAround t a
is_around objects Untagged a w e ne = absurd (ne (sym e))
is_around objects (OfFunction f) a w e ne = absurd (ne (sym e))
is_around objects (OfObject n b) a w e ne =
    let h = both_hold (nat_le b.base a) (nat_le (a + 1) b.bound) (object_at objects n).is_live
    (place_in objects n a) w e ne in
    record { number = n; bounds = b; tag_is = refl; from = leb-true _ _ h.0; below = leb-true _ _ h.1 }

pub around : (objects : Objects) (v : Value) (w : Verdict) → judge 1 v objects ≡ w → w ≢ Outside
    → IsAround v.tag v.word
unfolding judge
around objects v w e ne = is_around objects v.tag v.word w e ne

alive : (x y live : Bool) (q p : Place)
    → (if x && y then (if live then Inside q else Dead) else Outside) ≡ Inside p → live ≡ true
alive true true true q p e = refl
alive true true false q p e = cc
alive true false live q p e = cc
alive false y live q p e = cc

pub lives : (objects : Objects) (v : Value) (n : ℕ) (b : Bounds) (p : Place) → v.tag ≡ OfObject n b
    → judge 1 v objects ≡ Inside p → (object_at objects n).is_live ≡ true
unfolding judge
lives objects v n b p tag e =
    alive (nat_le b.base v.word) (nat_le (v.word + 1) b.bound) (object_at objects n).is_live (place_in objects n v.word)
    p (sym (ap (λ t. judged 1 t v.word objects) tag) ∙ e)

pub reach_is : (v : Value) (n : ℕ) (b : Bounds) → v.tag ≡ OfObject n b → reach v ≡ b.bound - v.word
reach_is v n b e = ap (λ t. reach_by t v.word) e

pub inside_not_out : (p : Place) → Inside p ≢ Outside
inside_not_out p e = cc

pub dead_not_out : Dead ≢ Outside
dead_not_out e = cc
