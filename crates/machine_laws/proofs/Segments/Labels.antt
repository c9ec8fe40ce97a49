-- The labels of the list of a function meet: each stands once, and each that an item goes to stands somewhere.
use Rattle.std.proofs.Common.{◌≡◌, ℕ, zero, suc, ◌+◌, ◌-◌, ◌^◌, ◌<◌, ◌≤◌, List, [], ◌∷◌, ◌++◌}
use Rattle.std.proofs.Common.{length, Option, Some, None, refl, sym, ap, ◌∙◌, subst, arith, ⊎_elim}
use Rattle.std.specs.Prelude.{slice_get, if◌then◌else◌}
use Rattle.std.proofs.lemmas.Bool.{lt-ltb, le-ltb, cases_lt}
use Rattle.addr_map.specs.Places.{MapSizes}
use Rattle.rv_isa.specs.declared.instruction.Instr.{Instr}
use Rattle.rv_isa.specs.declared.instruction.Instr.TheVariants.{Ebreak}
use Rattle.rv_asm.specs.declared.item.Item.{Item}
use Rattle.rv_asm.specs.declared.item.Item.TheVariants as item
use Rattle.rv_asm.specs.Items.{AreApart, AreThere, target_of}
use Rattle.rv_asm.specs.Forms.{IsAssemblable, longest_size}
use Rattle.flat_code.specs.declared.instruction.FlatInstruction.{FlatInstruction}
use Rattle.flat_code.specs.declared.instruction.FlatInstruction.TheVariants as flat
use Rattle.flat_code.specs.declared.function.FlatProgram.{FlatProgram}
use Rattle.flat_code.specs.Calls.{function_in}
use Rattle.flat_code.specs.Meaning.{body_of, parameters_of}
use Rattle.reg_plan.specs.declared.plan.FunctionPlan.{FunctionPlan}
use Rattle.machine_laws.specs.Calls.Calls.{Keeping, entry_block}
use Rattle.machine_laws.specs.Following.Code.{keeping, block}
use Rattle.machine_laws.specs.Layout.Lists.{plain, label_for, tail_of, items_from, items_of}

-- a list has no label, and goes to none above a number
record IsPlain (n : ℕ) (items : List Item) : Type 0 where
  pub none : (k l : ℕ) → slice_get items k ≡ Some (item.Label l) → ⊥
  pub low : (k l : ℕ) (i : Item) → slice_get items k ≡ Some i → target_of i ≡ Some l → l ≤ n

goes_nowhere : (i j : Item) (l : ℕ) → i ≡ j → target_of i ≡ None → target_of j ≡ Some l → ⊥
goes_nowhere i j l e h t = let n : target_of j ≡ None = ap target_of (sym e) ∙ h in cc

nothing : (o : Option ℕ) → o ≡ o
nothing o = refl

label_low : (n q : ℕ) → label_for n q ≤ n
label_low n q = ⊎_elim
    (λ lt. subst (λ b. (if b then q else n) ≤ n) (sym (lt-ltb q n lt)) (omega arith))
    (λ le. subst (λ b. (if b then q else n) ≤ n) (sym (le-ltb q n le)) (omega arith))
    (cases_lt q n)

empty_plain : (n : ℕ) → IsPlain n []
empty_plain n = record { none = λ k l h. cc; low = λ k l i h t. cc }

cons_plain : (n : ℕ) (x : Item) (ys : List Item) → ((l : ℕ) → x ≡ item.Label l → ⊥)
    → ((l : ℕ) → target_of x ≡ Some l → l ≤ n) → IsPlain n ys → IsPlain n (x ∷ ys)
cons_plain n x ys other near rest = record { none = none_in; low = low_in }
  where
    none_in : (k l : ℕ) → slice_get (x ∷ ys) k ≡ Some (item.Label l) → ⊥
    none_in zero l h = other l cc
    none_in (suc k) l h = rest.none k l h

    low_in : (k l : ℕ) (i : Item) → slice_get (x ∷ ys) k ≡ Some i → target_of i ≡ Some l → l ≤ n
    low_in zero l i h t = let same : x ≡ i = cc in near l (ap target_of same ∙ t)
    low_in (suc k) l i h t = rest.low k l i h t

rest_plain : (n : ℕ) (x : Item) (xs : List Item) → IsPlain n (x ∷ xs) → IsPlain n xs
rest_plain n x xs h = record { none = λ k l e. h.none (suc k) l e; low = λ k l i e t. h.low (suc k) l i e t }

one_plain : (n a : ℕ) (x : Item) → target_of x ≡ Some a → a ≤ n → ((l : ℕ) → x ≡ item.Label l → ⊥)
    → IsPlain n (x ∷ [])
one_plain n a x t le other =
    cons_plain n x [] other (λ l u. let same : a ≡ l = cc in omega arith) (empty_plain n)

instrs_plain : (n : ℕ) (is : List Instr) → IsPlain n (plain is)
instrs_plain n [] = empty_plain n
instrs_plain n (x ∷ xs) =
    cons_plain n (item.Instr x) (plain xs) (λ l e. cc) (λ l t. cc) (instrs_plain n xs)

both_plain : (n : ℕ) (xs ys : List Item) → IsPlain n xs → IsPlain n ys → IsPlain n (xs ++ ys)
both_plain n [] ys h g = g
both_plain n (x ∷ xs) ys h g =
    cons_plain n x (xs ++ ys) (λ l e. h.none zero l (ap (λ z. Some z) e)) (λ l t. h.low zero l x refl t)
    (both_plain n xs ys (rest_plain n x xs h) g)

tail_plain : (k : Keeping) (n pc : ℕ) (i : FlatInstruction) → IsPlain n (tail_of k n pc i)
tail_plain k n pc (flat.Branch op y z past) =
    one_plain n (label_for n (pc + 1 + past)) _ (nothing (Some (label_for n (pc + 1 + past))))
    (label_low n (pc + 1 + past)) (λ l e. cc)
tail_plain k n pc (flat.JumpForward zero) = empty_plain n
tail_plain k n pc (flat.JumpForward (suc past)) =
    one_plain n (label_for n (pc + 1 + suc past)) _ (nothing (Some (label_for n (pc + 1 + suc past))))
    (label_low n (pc + 1 + suc past)) (λ l e. cc)
tail_plain k n pc (flat.JumpBack back) =
    one_plain n (label_for n (pc - back)) _ (nothing (Some (label_for n (pc - back)))) (label_low n (pc - back))
    (λ l e. cc)
tail_plain k n pc (flat.Constant x v) = empty_plain n
tail_plain k n pc (flat.Move x y) = empty_plain n
tail_plain k n pc (flat.Operate op x y z) = empty_plain n
tail_plain k n pc (flat.Operate32 op x y z) = empty_plain n
tail_plain k n pc (flat.Load op x y o) = empty_plain n
tail_plain k n pc (flat.Store op y o x) = empty_plain n
tail_plain k n pc flat.Turn = empty_plain n
tail_plain k n pc (flat.Call to first x) = empty_plain n
tail_plain k n pc (flat.CallAddress y first c x r) = empty_plain n
tail_plain k n pc (flat.Return y) = empty_plain n
tail_plain k n pc (flat.Get x) = empty_plain n
tail_plain k n pc (flat.Put x) = empty_plain n
tail_plain k n pc (flat.Exit x) = empty_plain n
tail_plain k n pc (flat.End e) = empty_plain n
tail_plain k n pc (flat.Charged x) = empty_plain n

-- a label in a list that begins with one without labels
label_behind : (n : ℕ) (xs ys : List Item) (k l : ℕ) → IsPlain n xs → slice_get (xs ++ ys) k ≡ Some (item.Label l)
    → (j : ℕ) × (k ≡ length xs + j) × (slice_get ys j ≡ Some (item.Label l))
label_behind n [] ys k l h e = (k, omega arith, e)
label_behind n (x ∷ xs) ys zero l h e = absurd (h.none zero l e)
label_behind n (x ∷ xs) ys (suc k) l h e =
    let r = label_behind n xs ys k l (rest_plain n x xs h) e in
    (r.0, omega (arith, r.1), r.2)

item_behind : (n : ℕ) (xs ys : List Item) (k l : ℕ) (i : Item) → IsPlain n xs
    → ((j : ℕ) → slice_get ys j ≡ Some i → l ≤ n) → slice_get (xs ++ ys) k ≡ Some i → target_of i ≡ Some l → l ≤ n
item_behind n [] ys k l i h g e t = g k e
item_behind n (x ∷ xs) ys zero l i h g e t = h.low zero l i e t
item_behind n (x ∷ xs) ys (suc k) l i h g e t =
    item_behind n xs ys k l i (rest_plain n x xs h) g e t

get_behind : (xs ys : List Item) (k : ℕ) → slice_get (xs ++ ys) (length xs + k) ≡ slice_get ys k
get_behind [] ys k = let e : 0 + k ≡ k = omega arith in ap (slice_get ys) e
get_behind (x ∷ xs) ys k = let e : suc (length xs) + k ≡ suc (length xs + k) = omega arith in
    ap (slice_get (x ∷ (xs ++ ys))) e ∙ get_behind xs ys k

module _ (m : MapSizes) (p : FlatProgram) (plans : List FunctionPlan) (f n : ℕ) where
  -- what stands behind the label of an instruction
  inner : (pc : ℕ) → FlatInstruction → List Item
  inner pc i = plain (block m p plans f pc i) ++ tail_of (keeping p plans f) n pc i

  inner_plain : (pc : ℕ) (i : FlatInstruction) → IsPlain n (inner pc i)
  unfolding inner
  inner_plain pc i = both_plain n (plain (block m p plans f pc i)) (tail_of (keeping p plans f) n pc i)
      (instrs_plain n (block m p plans f pc i)) (tail_plain (keeping p plans f) n pc i)

  from : (pc : ℕ) → List FlatInstruction → List Item
  from pc is = items_from m p plans f n pc is

  -- the labels from an instruction on are its number and greater ones
  high : (pc : ℕ) (is : List FlatInstruction) (k l : ℕ) → n ≡ pc + length is
      → slice_get (from pc is) k ≡ Some (item.Label l) → pc ≤ l
  unfolding from inner
  high pc [] zero l e h = let same : n ≡ l = cc in omega arith
  high pc [] (suc zero) l e h = cc
  high pc [] (suc (suc k)) l e h = cc
  high pc (i ∷ is) zero l e h = let same : pc ≡ l = cc in omega arith
  high pc (i ∷ is) (suc k) l e h =
      let r = label_behind n (inner pc i) (from (suc pc) is) k l (inner_plain pc i) h in
      let more = high (suc pc) is r.0 l (omega arith) r.2 in
      omega arith

  once : (pc : ℕ) (is : List FlatInstruction) (j k l : ℕ) → n ≡ pc + length is
      → slice_get (from pc is) j ≡ Some (item.Label l) → slice_get (from pc is) k ≡ Some (item.Label l) → j ≡ k
  unfolding from inner
  once pc [] zero zero l e h g = refl
  once pc [] zero (suc zero) l e h g = cc
  once pc [] zero (suc (suc k)) l e h g = cc
  once pc [] (suc zero) k l e h g = cc
  once pc [] (suc (suc j)) k l e h g = cc
  once pc (i ∷ is) zero zero l e h g = refl
  once pc (i ∷ is) zero (suc k) l e h g =
      let same : pc ≡ l = cc in
      let r = label_behind n (inner pc i) (from (suc pc) is) k l (inner_plain pc i) g in
      let more = high (suc pc) is r.0 l (omega arith) r.2 in
      absurd (omega arith)
  once pc (i ∷ is) (suc j) zero l e h g =
      let same : pc ≡ l = cc in
      let r = label_behind n (inner pc i) (from (suc pc) is) j l (inner_plain pc i) h in
      let more = high (suc pc) is r.0 l (omega arith) r.2 in
      absurd (omega arith)
  once pc (i ∷ is) (suc j) (suc k) l e h g =
      let r = label_behind n (inner pc i) (from (suc pc) is) j l (inner_plain pc i) h in
      let s = label_behind n (inner pc i) (from (suc pc) is) k l (inner_plain pc i) g in
      let same = once (suc pc) is r.0 s.0 l (omega arith) r.2 s.2 in
      omega (arith, same, r.1, s.1)

  -- each number up to the end has its label
  there : (pc : ℕ) (is : List FlatInstruction) (l : ℕ) → n ≡ pc + length is → pc ≤ l → l ≤ n
      → (d : ℕ) × (slice_get (from pc is) d ≡ Some (item.Label l))
  unfolding from inner
  there pc [] l e least most = let same : n ≡ l = omega arith in (0, ap (λ z. Some (item.Label z)) same)
  there pc (i ∷ is) l e least most = ⊎_elim
      (λ less.
      let r = there (suc pc) is l (omega arith) (omega arith) most in
      (suc (length (inner pc i) + r.0), get_behind (inner pc i) (from (suc pc) is) r.0 ∙ r.1))
      (λ le. let same : pc ≡ l = omega arith in (0, ap (λ z. Some (item.Label z)) same))
      (cases_lt pc l)

  -- no item goes further
  targets_low : (pc : ℕ) (is : List FlatInstruction) (k l : ℕ) (i : Item) → slice_get (from pc is) k ≡ Some i
      → target_of i ≡ Some l → l ≤ n
  unfolding from inner
  targets_low pc [] zero l i h t =
      let e : item.Label n ≡ i = cc in absurd (goes_nowhere (item.Label n) i l e (nothing None) t)
  targets_low pc [] (suc zero) l i h t =
      let e : item.Instr Ebreak ≡ i = cc in absurd (goes_nowhere (item.Instr Ebreak) i l e (nothing None) t)
  targets_low pc [] (suc (suc k)) l i h t = cc
  targets_low pc (x ∷ is) zero l i h t =
      let e : item.Label pc ≡ i = cc in absurd (goes_nowhere (item.Label pc) i l e (nothing None) t)
  targets_low pc (x ∷ is) (suc k) l i h t =
      item_behind n (inner pc x) (from (suc pc) is) k l i (inner_plain pc x)
      (λ j g. targets_low (suc pc) is j l i g t) h t

module _ (m : MapSizes) (p : FlatProgram) (plans : List FunctionPlan) (f : ℕ) where
  abbrev body : List FlatInstruction
  body = body_of (function_in p f)

  abbrev entry : List Item
  entry = plain (entry_block (keeping p plans f) (parameters_of (function_in p f)))

  abbrev rest : List Item
  rest = items_from m p plans f (length body) 0 body

  entry_plain : IsPlain (length body) entry
  entry_plain = instrs_plain (length body) (entry_block (keeping p plans f) (parameters_of (function_in p f)))

  whole : length body ≡ 0 + length body
  whole = omega arith

  -- no label of the list stands twice
  pub labels_apart : AreApart (items_of m p plans f)
  unfolding from
  labels_apart = record {
    once = λ j k l h g.
        let r = label_behind (length body) entry rest j l entry_plain h in
        let s = label_behind (length body) entry rest k l entry_plain g in
        let same = once m p plans f (length body) 0 body r.0 s.0 l whole r.2 s.2 in
        omega (arith, same, r.1, s.1);
  }

  -- each that an item goes to stands somewhere
  pub labels_there : AreThere (items_of m p plans f)
  unfolding from
  labels_there = record {
    place = λ k l i h t.
        let near = item_behind (length body) entry rest k l i entry_plain
        (λ j g. targets_low m p plans f (length body) 0 body j l i g t) h t in
        let r = there m p plans f (length body) 0 body l whole (omega arith) near in
        (length entry + r.0, get_behind entry rest r.0 ∙ r.1);
  }

  -- so a list whose longest forms reach can be assembled
  pub labels_meet : longest_size (items_of m p plans f) < 2 ^ 28 → IsAssemblable (items_of m p plans f)
  labels_meet room = record { apart = labels_apart; there = labels_there; room = room }
