-- What the key of a pointer to a function tells: its type, by the first function that has it.
use Rattle.std.proofs.Common.{◌≡◌, inl, inr, ℕ, zero, suc, ◌+◌, ◌-◌, ◌*◌, ◌/◌, ◌%◌, ◌^◌, ◌<◌, ◌≤◌, Bool, true, false}
use Rattle.std.proofs.Common.{List}
use Rattle.std.proofs.Common.{[], ◌∷◌, length, map, Some, None, refl, sym, ap, ◌∙◌, subst, arith}
use Rattle.std.specs.Prelude.{slice_get, min, ◌==◌, if◌then◌else◌, nat_le, ◌&&◌}
use Rattle.std.proofs.lemmas.Bool.{and_parts, and_from, eq-eqb, eqb-true, eqb-false, leb-true, le-leb}
use Rattle.std.proofs.lemmas.Bool.Decides.{leb_tells}
use Rattle.std.proofs.lemmas.Option.{same_Some}
use Rattle.std.proofs.Math.Nat.{le-min, min-le_left}
use Rattle.obj_memory.specs.Heap.{rounded_up}
use Rattle.metadata_relation.proofs.Ranges.{Told}
use Rattle.sb_base.specs.declared.ending.Ending.TheVariants.{BadCall}
use Rattle.addr_map.specs.Places.{function_address}
use Rattle.obj_memory.specs.declared.value.Tag.{Tag}
use Rattle.obj_memory.specs.declared.value.Tag.TheVariants.{Untagged, OfFunction, OfObject}
use Rattle.obj_memory.specs.Objects.{Objects}
use Rattle.obj_memory.specs.Sound.{IsSoundTag}
use Rattle.source_meaning.specs.State.{State, Header, Gives, Ended, choose, done, stop}
use Rattle.source_meaning.specs.Expressions.{callee_by, has_type, header_at}
use Rattle.tac_ir.specs.declared.function.CodeFunction.{CodeFunction}
use Rattle.tac_ir.specs.Meaning.{header_of_code}
use Rattle.flat_code.specs.Routines.Objects.StandsFor.{Views, Keys, spell}
use Rattle.metadata_relation.specs.FunctionTypes.{first_of_type, type_key_of}

-- ---- the first function of a type

-- its number is below that of any other, where there is one
pub first_low : (fs : List CodeFunction) (f : ℕ) (c : CodeFunction) → slice_get fs f ≡ Some c
    → first_of_type fs c.type_number ≤ f
first_low [] f c e = cc
first_low (x ∷ fs) zero c e =
    let same : x.type_number ≡ c.type_number = ap (λ (z : CodeFunction). z.type_number) (same_Some x c e) in
    subst (λ b. (if b then 0 else suc (first_of_type fs c.type_number)) ≤ 0)
    (sym (eq-eqb x.type_number c.type_number same)) (omega arith)
first_low (x ∷ fs) (suc f) c e = by (x.type_number == c.type_number) (first_low fs f c e)
  where
    by : (b : Bool) → first_of_type fs c.type_number ≤ f
        → (if b then 0 else suc (first_of_type fs c.type_number)) ≤ suc f
    by true low = omega arith
    by false low = omega (arith, low)

-- it has the type
pub first_typed : (fs : List CodeFunction) (t : ℕ) (c : CodeFunction) → slice_get fs (first_of_type fs t) ≡ Some c
    → c.type_number ≡ t
first_typed [] t c e = cc
first_typed (x ∷ fs) t c e = by (x.type_number == t) refl e (first_typed fs t c)
  where
    by : (b : Bool) → (x.type_number == t) ≡ b
        → slice_get (x ∷ fs) (if b then 0 else suc (first_of_type fs t)) ≡ Some c
        → (slice_get fs (first_of_type fs t) ≡ Some c → c.type_number ≡ t) → c.type_number ≡ t
    by true same e rest =
        ap (λ (z : CodeFunction). z.type_number) (sym (same_Some x c e)) ∙ eqb-true x.type_number t same
    by false same e rest = rest e

-- where there is none, no function has the type
pub none_typed : (fs : List CodeFunction) (t : ℕ) → slice_get fs (first_of_type fs t) ≡ None → (f : ℕ)
    → has_type (header_at (map header_of_code fs) f) t ≡ false
none_typed [] t e f = refl
none_typed (x ∷ fs) t e f = by (x.type_number == t) refl e f (none_typed fs t)
  where
    by : (b : Bool) → (x.type_number == t) ≡ b → slice_get (x ∷ fs) (if b then 0 else suc (first_of_type fs t)) ≡ None
        → (f : ℕ)
        → (slice_get fs (first_of_type fs t) ≡ None → (j : ℕ)
        → has_type (header_at (map header_of_code fs) j) t ≡ false)
        → has_type (header_at (map header_of_code (x ∷ fs)) f) t ≡ false
    by true same e f rest = cc
    by false same e zero rest = same
    by false same e (suc f) rest = rest e f

-- the type of a function
pub type_at : (fs : List CodeFunction) (f t : ℕ) (c : CodeFunction) → slice_get fs f ≡ Some c
    → has_type (header_at (map header_of_code fs) f) t ≡ (c.type_number == t)
type_at [] f t c e = cc
type_at (x ∷ fs) zero t c e = ap (λ (z : CodeFunction). z.type_number == t) (same_Some x c e)
type_at (x ∷ fs) (suc f) t c e = type_at fs f t c e

-- Two types have one first function just where they are one.
pub first_tells : (fs : List CodeFunction) (f t : ℕ) (c one : CodeFunction) → slice_get fs f ≡ Some c
    → slice_get fs (first_of_type fs t) ≡ Some one
    → (first_of_type fs c.type_number == first_of_type fs t) ≡ (c.type_number == t)
first_tells fs f t c one e first = by (c.type_number == t) refl
  where
    differ : (b : Bool) → (c.type_number == t) ≡ false
        → (first_of_type fs c.type_number == first_of_type fs t) ≡ b → b ≡ false
    differ false other is = refl
    differ true other is =
        let same = eqb-true (first_of_type fs c.type_number) (first_of_type fs t) is in
        absurd (eqb-false c.type_number t other
        (sym (first_typed fs c.type_number one (ap (slice_get fs) same ∙ first)) ∙ first_typed fs t one first))

    by : (b : Bool) → (c.type_number == t) ≡ b
        → (first_of_type fs c.type_number == first_of_type fs t) ≡ (c.type_number == t)
    by true same =
        eq-eqb (first_of_type fs c.type_number) (first_of_type fs t)
        (ap (first_of_type fs) (eqb-true c.type_number t same))
        ∙ sym same
    by false other = differ (first_of_type fs c.type_number == first_of_type fs t) other refl ∙ sym other

-- ---- the numbers of a key

module _ (kind units room : ℕ) (a : kind < 2 ^ 12) (b : units < 2 ^ 19) (c : room < 2 ^ 25) where
  pub type_key_low : type_key_of kind units room < 2 ^ 63
  type_key_low = omega arith

  pub kind_told : (2 ^ 63 + type_key_of kind units room) % 2 ^ 12 ≡ kind
  kind_told = omega arith

  pub units_told : (2 ^ 63 + type_key_of kind units room) / 2 ^ 12 % 2 ^ 19 ≡ units
  units_told = omega arith

  pub room_told_by : (2 ^ 63 + type_key_of kind units room) / 2 ^ 31 % 2 ^ 25 ≡ room
  room_told_by = omega arith

-- Objects fit behind an address just where their units do: an object stack ends at a multiple of 16, and has 4 MiB at most.
pub units_fit : (first bytes end : ℕ) → first % 16 ≡ 0 → end % 16 ≡ 0 → end ≤ first + 2 ^ 22
    → nat_le (first + 16 * min (rounded_up 16 bytes / 16) (2 ^ 18 + 1)) end ≡ nat_le (first + bytes) end
units_fit first bytes end at to most =
    by (leb_tells (first + 16 * min (rounded_up 16 bytes / 16) (2 ^ 18 + 1)) end) (leb_tells (first + bytes) end)
  where
    by : Told (first + 16 * min (rounded_up 16 bytes / 16) (2 ^ 18 + 1)) end → Told (first + bytes) end
        → nat_le (first + 16 * min (rounded_up 16 bytes / 16) (2 ^ 18 + 1)) end ≡ nat_le (first + bytes) end
    by (inl p) (inl q) = p.0 ∙ sym q.0
    by (inl p) (inr q) =
        let over = q.1 in
        let within = p.1 in
        let least : (end - first) / 16 + 1 ≤ min (rounded_up 16 bytes / 16) (2 ^ 18 + 1) =
        le-min (omega (arith, over, within, at, to)) (omega (arith, most)) in
        absurd (omega (arith, least, within, at, to))
    by (inr p) (inl q) =
        let over = p.1 in
        let within = q.1 in
        let few = min-le_left (rounded_up 16 bytes / 16) (2 ^ 18 + 1) in
        absurd (omega (arith, few, over, within, at, to))
    by (inr p) (inr q) = p.0 ∙ sym q.0

-- ---- the callee

-- what the three tests say of an entry
abbrev pub is_callee : (key base word kind : ℕ) → Bool
is_callee key base word kind = nat_le (2 ^ 63) key && ((key % 2 ^ 12 == kind) && (word == base))

-- the function that a pointer names: it stands there, and has the type
pub record IsOfType (functions : List Header) (type word : ℕ) (tag : Tag) (f : ℕ) : Type 0 where
  pub tag_is : tag ≡ OfFunction f
  pub word_is : word ≡ function_address f
  pub typed : has_type (header_at functions f) type ≡ true

abbrev pub FindsBy : List Header → (type word : ℕ) → Tag → (line : ℕ) → State → Bool → Type 0
FindsBy fs type word tag line s true =
    (f : ℕ) × IsOfType fs type word tag f × (callee_by fs type word tag line s ≡ Gives f s)
FindsBy fs type word tag line s false = callee_by fs type word tag line s ≡ Ended (BadCall line) s

module _ (functions : List Header) (g : Views) (k : Keys) (objects : Objects) (type kind : ℕ)
    (below : (o : ℕ) → o < length objects → (k.held o).key < 2 ^ 63)
    (kinds : (f : ℕ) → f < g.functions
    → ((2 ^ 63 + g.types f) % 2 ^ 12 == kind) ≡ has_type (header_at functions f) type) (line : ℕ) (s : State) where
  not_both : (a b c : Bool) (f : ℕ) → a ≡ true → (a && (b && c)) ≡ false
      → choose (c && b) (done f) (stop (BadCall line)) s ≡ Ended (BadCall line) s
  not_both true true true f e q = cc
  not_both true true false f e q = refl
  not_both true false true f e q = refl
  not_both true false false f e q = refl
  not_both false b c f e q = cc

  -- The tests of the entry are those of the callee.
  pub finds : (word : ℕ) (tag : Tag) → IsSoundTag g.functions objects tag → (b : Bool)
      → is_callee (spell g k tag).key (spell g k tag).base word kind ≡ b → FindsBy functions type word tag line s b
  finds word Untagged sound true e = cc
  finds word Untagged sound false e = refl
  finds word (OfObject o b) sound true e =
      let high = leb-true (2 ^ 63) (k.held o).key
      (and_parts (nat_le (2 ^ 63) (k.held o).key) (((k.held o).key % 2 ^ 12 == kind) && (word == b.base)) e).0 in
      let low = below o sound.made in
      absurd (omega (arith, high, low))
  finds word (OfObject o b) sound false e = refl
  finds word (OfFunction f) sound true e =
      let p = and_parts (nat_le (2 ^ 63) (2 ^ 63 + g.types f))
      (((2 ^ 63 + g.types f) % 2 ^ 12 == kind) && (word == function_address f)) e in
      let q = and_parts ((2 ^ 63 + g.types f) % 2 ^ 12 == kind) (word == function_address f) p.1 in
      let typed = sym (kinds f sound) ∙ q.0 in (
        f,
        record { tag_is = refl; word_is = eqb-true word (function_address f) q.1; typed = typed },
        ap (λ b. choose b (done f) (stop (BadCall line)) s)
            (and_from (word == function_address f) (has_type (header_at functions f) type) q.1 typed),
      )
  finds word (OfFunction f) sound false e =
      ap (λ b. choose ((word == function_address f) && b) (done f) (stop (BadCall line)) s) (sym (kinds f sound))
      ∙ not_both (nat_le (2 ^ 63) (2 ^ 63 + g.types f)) ((2 ^ 63 + g.types f) % 2 ^ 12 == kind)
      (word == function_address f) f (le-leb (2 ^ 63) (2 ^ 63 + g.types f) (omega arith)) e

-- where no function has the type there is no callee
pub none_found : (functions : List Header) (type : ℕ) → ((f : ℕ) → has_type (header_at functions f) type ≡ false)
    → (word : ℕ) (tag : Tag) (line : ℕ) (s : State) → callee_by functions type word tag line s ≡ Ended (BadCall line) s
none_found functions type none word Untagged line s = refl
none_found functions type none word (OfObject o b) line s = refl
none_found functions type none word (OfFunction f) line s =
    ap (λ b. choose ((word == function_address f) && b) (done f) (stop (BadCall line)) s) (none f)
    ∙ by (word == function_address f)
  where
    by : (b : Bool) → choose (b && false) (done f) (stop (BadCall line)) s ≡ Ended (BadCall line) s
    by true = refl
    by false = refl
