-- The bounds of a pointer whose key begins with an object's name and whose path is fixed, and the comparison that judges it.
use Rattle.std.proofs.Common.{◌≡◌, ◌⊎◌, inl, inr, ℕ, suc, ◌+◌, ◌-◌, ◌%◌, ◌^◌, ◌<◌, ◌≤◌, true, false, List, []}
use Rattle.std.proofs.Common.{◌∷◌, Option, Some, None, refl, sym, ap, ap₂, ◌∙◌, arith}
use Rattle.std.specs.Prelude.{min, max, nat_le, nat_lt, ◌&&◌}
use Rattle.std.specs.List.{list_all}
use Rattle.std.proofs.Math.Nat.{add-max-add_right, add-min-add_right}
use Rattle.std.proofs.lemmas.Bool.{ltb-true, lt-ltb}
use Rattle.std.proofs.lemmas.Bool.Decides.{leb_tells}
use Rattle.words.specs.Operations.{difference}
use Rattle.obj_memory.specs.declared.value.Bounds.{Bounds}
use Rattle.obj_memory.specs.declared.value.Tag.TheVariants.{OfObject}
use Rattle.obj_memory.specs.declared.value.Value.{Value}
use Rattle.obj_memory.specs.Judgement.{are_within, narrowed_tag}
use Rattle.source_meaning.specs.State.{State}
use Rattle.source_meaning.proofs.ValidNames.{both}
use Rattle.tac_ir.specs.declared.key.Scaled.{Scaled}
use Rattle.tac_ir.specs.declared.key.Member.{Member}
use Rattle.tac_ir.specs.Keys.{path_tag, scaled_value}
use Rattle.metadata_plan.specs.Entries.{is_fixed, is_unscaled}
use Rattle.metadata_relation.specs.Blocks.{Range, path_range}

-- ---- bounds

-- a range behind an address
abbrev pub behind : (address : ℕ) → Range → Bounds
behind a r = record { base = a + r.start; bound = a + r.end }

max_behind : (a x y : ℕ) → max (a + x) (a + y) ≡ a + max x y
max_behind a x y =
    let left : a + x ≡ x + a = omega arith in
    let right : a + y ≡ y + a = omega arith in
    let turned : max x y + a ≡ a + max x y = omega arith in
    ap₂ max left right ∙ add-max-add_right x y a ∙ turned

min_behind : (a x y : ℕ) → min (a + x) (a + y) ≡ a + min x y
min_behind a x y =
    let left : a + x ≡ x + a = omega arith in
    let right : a + y ≡ y + a = omega arith in
    let turned : min x y + a ≡ a + min x y = omega arith in
    ap₂ min left right ∙ add-min-add_right x y a ∙ turned

-- what is not scaled adds nothing
nothing_added : (o : Option Scaled) → is_unscaled o ≡ true → (s : State) → scaled_value o s ≡ 0
nothing_added None e s = refl
nothing_added (Some v) e s = cc

-- narrowed to the members of a fixed path, the bounds of a whole object lie a range behind its address
pub fixed_path : (o a size : ℕ) (b : Value) → a < 2 ^ 32 → b.word ≡ a
    → b.tag ≡ OfObject o (record { base = a; bound = a + size }) → (ms : List Member) → list_all is_fixed ms ≡ true
    → (s : State) → path_tag b ms s ≡ OfObject o (behind a (path_range size ms))
fixed_path o a size b small word tag [] e s =
    let whole : a ≡ a + 0 = omega arith in
    tag ∙ ap (λ z. OfObject o (record { base = z; bound = a + size })) whole
fixed_path o a size b small word tag (m ∷ ms) e s =
    let all = both (is_fixed m) (list_all is_fixed ms) e in
    let own = both (is_unscaled m.scaled) (nat_lt m.constant (2 ^ 32)) all.0 in
    let short = ltb-true m.constant (2 ^ 32) own.1 in
    let none = nothing_added m.scaled own.0 s in
    let r = path_range size ms in
    let inner = fixed_path o a size b small word tag ms all.1 s in
    let address : (b.word + (m.constant + scaled_value m.scaled s)) % 2 ^ 64 ≡ a + m.constant =
    omega (arith, word, none, small, short) in
    let ending : a + m.constant + m.size ≡ a + (m.constant + m.size) = omega arith in
    ap₂ (λ x t. narrowed_tag x m.size t) address inner
    ∙ ap₂ (λ x y. OfObject o (record { base = x; bound = y })) (max_behind a r.start m.constant)
    (ap (min (a + r.end)) ending ∙ min_behind a r.end (m.constant + m.size))

-- ---- the comparison

-- what a test of two numbers tells
abbrev pub Told : (x y : ℕ) → Type 0
Told x y = (nat_le x y ≡ true × (x ≤ y)) ⊎ (nat_le x y ≡ false × (y < x))

less : (x y : ℕ) → x < y → nat_lt x y ≡ true
less x y h = lt-ltb x y h

not_less : (x y : ℕ) → y ≤ x → nat_lt x y ≡ false
not_less x y h = by (leb_tells (suc x) y)
  where
    by : Told (suc x) y → nat_lt x y ≡ false
    by (inl p) = absurd (omega (arith, h, p.1))
    by (inr p) = p.0

-- how far a word is behind the first of a range that has room for an access, against what leaves room for it
pub compared : (a : ℕ) (r : Range) (w n : ℕ) → w < 2 ^ 64 → a + r.end < 2 ^ 64 → r.start + n ≤ r.end
    → are_within (behind a r) w n ≡ nat_lt (difference 64 w (a + r.start)) (r.end - (r.start + n) + 1)
compared a r w n small last room = by (leb_tells (a + r.start) w) (leb_tells (w + n) (a + r.end))
  where
    by : Told (a + r.start) w → Told (w + n) (a + r.end)
        → are_within (behind a r) w n ≡ nat_lt (difference 64 w (a + r.start)) (r.end - (r.start + n) + 1)
    by (inl p) (inl q) =
        ap₂ (λ x y. x && y) p.0 q.0
        ∙ sym (less (difference 64 w (a + r.start)) (r.end - (r.start + n) + 1) (omega (arith, small, last, room, p.1, q.1)))
    by (inl p) (inr q) =
        ap₂ (λ x y. x && y) p.0 q.0
        ∙ sym (not_less (difference 64 w (a + r.start)) (r.end - (r.start + n) + 1)
        (omega (arith, small, last, room, p.1, q.1)))
    by (inr p) q =
        ap (λ x. x && nat_le (w + n) (a + r.end)) p.0
        ∙ sym (not_less (difference 64 w (a + r.start)) (r.end - (r.start + n) + 1) (omega (arith, small, last, room, p.1)))

-- where it has none, no word is within it
pub too_small : (a : ℕ) (r : Range) (w n : ℕ) → r.end < r.start + n → are_within (behind a r) w n ≡ false
too_small a r w n room = by (leb_tells (a + r.start) w) (leb_tells (w + n) (a + r.end))
  where
    by : Told (a + r.start) w → Told (w + n) (a + r.end) → are_within (behind a r) w n ≡ false
    by (inl p) (inl q) = absurd (omega (arith, room, p.1, q.1))
    by (inl p) (inr q) = ap₂ (λ x y. x && y) p.0 q.0
    by (inr p) q = ap (λ x. x && nat_le (w + n) (a + r.end)) p.0
