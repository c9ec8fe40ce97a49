-- The greatest structures of the temporaries of a function, as they are found.
use Rattle.std.proofs.Common.{◌≡◌, ℕ, zero, suc, ◌+◌, ◌^◌, ◌<◌, ◌≤◌, max, Bool, true, false, List, [], ◌∷◌}
use Rattle.std.proofs.Common.{drop, length, get_or, if◌then◌else◌, nat_lt, refl, sym, ap, ◌∙◌, subst, arith}
use Rattle.std.specs.Prelude.{nat_le, ◌==◌, replicate, slice_get, slice_set, Some}
use Rattle.std.proofs.lemmas.Bool.{eqb-true, eqb-false, ltb-true, ltb-false}
use Rattle.std.proofs.lemmas.List.{drop_more, get_or-set_same, get_or-set_other, get_or_past}
use Rattle.std.proofs.lemmas.Option.{get_or_from_slice_get}
use Rattle.obj_memory.specs.Heap.{rounded_up}
use Rattle.c_tree.specs.declared.expression.Kind.{Kind}
use Rattle.c_tree.specs.Room.{structure_bytes}
use Rattle.tac_ir.specs.declared.instruction.Instruction.{Instruction}
use Rattle.tac_ir.specs.declared.instruction.Instruction.TheVariants as tac
use Rattle.tac_ir.specs.declared.function.CodeFunction.{CodeFunction}
use Rattle.tac_ir.specs.declared.function.Tac.{Tac}
use Rattle.tac_ir.specs.Meaning.{function_in}
use Rattle.tac_ir.specs.Structures.{greatest_structure, result_of, result_of_type, structure_put}
use Rattle.tac_ir.specs.Temporaries.{temporaries}
use Rattle.metadata_plan.specs.Entries.{has_area}
use Rattle.metadata_plan.specs.Registers.{most_temporaries}
use Rattle.metadata_expansion.specs.declared.areas.StructurePut.{StructurePut}
use Rattle.metadata_expansion.specs.Areas.{put_by, AreGreatest}

-- ---- what an instruction puts

pub same_put : (d size : ℕ) (kind : Kind) → rounded_up 16 size ≡ structure_bytes kind → (i : ℕ)
    → (if d == i then structure_bytes kind else 0) ≡ put_by (record { to = d; size = size }) i
same_put d size kind e i = ap (λ n. if d == i then n else 0) (sym e)

pub nothing_put : (i : ℕ) → 0 ≡ put_by (record { to = 0; size = 0 }) i
nothing_put i = by (0 == i)
  where
    by : (b : Bool) → ◌≡◌ {A = ℕ} 0 (if b then 0 else 0)
    by true = refl
    by false = refl

-- ---- the greatest structures

-- the number of a temporary is raised, and no other one is
pub raised : (ns : List ℕ) (p : StructurePut) (w bytes : ℕ) → p.to < length ns → bytes ≡ rounded_up 16 p.size
    → w ≡ max (get_or ns p.to 0) bytes → (i : ℕ)
    → get_or (slice_set ns p.to w) i 0 ≡ max (get_or ns i 0) (put_by p i)
raised ns p w bytes low is most i = by (p.to == i) refl
  where
    by : (b : Bool) → (p.to == i) ≡ b
        → get_or (slice_set ns p.to w) i 0 ≡ max (get_or ns i 0) (if b then rounded_up 16 p.size else 0)
    by true e =
        let same = eqb-true p.to i e in
        subst (λ j. get_or (slice_set ns p.to w) j 0 ≡ max (get_or ns j 0) (rounded_up 16 p.size)) same
        (get_or-set_same ns p.to w 0 low ∙ most ∙ ap (λ n. max (get_or ns p.to 0) n) is)
    by false e =
        get_or-set_other ns p.to i w 0 (λ same. eqb-false p.to i e (sym same)) ∙ omega arith

past_end : (ns : List ℕ) (i : ℕ) → length ns ≤ i → get_or ns i 0 ≡ 0
past_end [] i le = refl
past_end (n ∷ ns) zero le = absurd (omega (arith, le))
past_end (n ∷ ns) (suc i) le = past_end ns i (omega (arith, le))

-- where the temporary is none of the list nothing is to be raised
pub not_raised : (ns : List ℕ) (p : StructurePut) → length ns ≤ p.to → (i : ℕ) → i < length ns
    → get_or ns i 0 ≡ max (get_or ns i 0) (put_by p i)
not_raised ns p le i low = by (p.to == i) refl
  where
    by : (b : Bool) → (p.to == i) ≡ b → get_or ns i 0 ≡ max (get_or ns i 0) (if b then rounded_up 16 p.size else 0)
    by true e = let same = eqb-true p.to i e in absurd (omega (arith, same, le, low))
    by false e = omega arith

pub raised_few : (ns : List ℕ) (k w : ℕ) → k < length ns → w ≤ 2 ^ 65 → ((i : ℕ) → get_or ns i 0 ≤ 2 ^ 65) → (i : ℕ)
    → get_or (slice_set ns k w) i 0 ≤ 2 ^ 65
raised_few ns k w low small few i = by (k == i) refl
  where
    by : (b : Bool) → (k == i) ≡ b → get_or (slice_set ns k w) i 0 ≤ 2 ^ 65
    by true e =
        let same = eqb-true k i e in
        subst (λ j. get_or (slice_set ns k w) j 0 ≤ 2 ^ 65) same
        (let is = get_or-set_same ns k w 0 low in omega (arith, is, small))
    by false e =
        let is = get_or-set_other ns k i w 0 (λ same. eqb-false k i e (sym same)) in
        let less = few i in
        omega (arith, is, less)

-- what is raised so far, and what is to come

pub none_yet : (t : Tac) (js : List Instruction) (count i : ℕ)
    → max (get_or (replicate count 0) i 0) (greatest_structure t js i) ≡ greatest_structure t js i
none_yet t js zero i = omega arith
none_yet t js (suc n) zero = omega arith
none_yet t js (suc n) (suc i) = raise_zero t js n i (suc i)
  where
    raise_zero : (t : Tac) (js : List Instruction) (n i k : ℕ)
        → max (get_or (replicate n 0) i 0) (greatest_structure t js k) ≡ greatest_structure t js k
    raise_zero t js zero i k = omega arith
    raise_zero t js (suc n) zero k = omega arith
    raise_zero t js (suc n) (suc i) k = raise_zero t js n i k

pub none_few : (count i : ℕ) → get_or (replicate count 0) i 0 ≤ 2 ^ 65
none_few zero i = omega arith
none_few (suc n) zero = omega arith
none_few (suc n) (suc i) = none_few n i

pub one_more : (t : Tac) (js : List Instruction) (k : ℕ) (j : Instruction) (i a b all : ℕ) → k < length js
    → slice_get js k ≡ Some j → b ≡ max a (structure_put t j i)
    → max a (greatest_structure t (drop k js) i) ≡ all → max b (greatest_structure t (drop (k + 1) js) i) ≡ all
one_more t js k j i a b all low at more before =
    let next : drop k js ≡ j ∷ drop (k + 1) js =
    drop_more js k j low ∙ ap (λ z. z ∷ drop (k + 1) js) (get_or_from_slice_get js k j j at) in
    let same : greatest_structure t (drop k js) i ≡ max (structure_put t j i) (greatest_structure t (drop (k + 1) js) i) =
    ap (λ is. greatest_structure t is i) next in
    omega (arith, more, before, same)

pub all_past : {A : Type 0} (js : List A) (k : ℕ) → length js ≤ k → drop k js ≡ []
all_past [] zero le = refl
all_past [] (suc k) le = refl
all_past (j ∷ js) zero le = absurd (omega (arith, le))
all_past (j ∷ js) (suc k) le = all_past js k (omega (arith, le))

pub all_greatest : (t : Tac) (js : List Instruction) (k count : ℕ) (ns : List ℕ) → length js ≤ k → length ns ≡ count
    → ((i : ℕ) → get_or ns i 0 ≤ 2 ^ 65)
    → ((i : ℕ) → i < count → max (get_or ns i 0) (greatest_structure t (drop k js) i) ≡ greatest_structure t js i)
    → AreGreatest ns count t js
all_greatest t js k count ns past long few all = record {
  size = long;
  each = λ i lt.
      let none : greatest_structure t (drop k js) i ≡ 0 = ap (λ is. greatest_structure t is i) (all_past js k past) in
      let here = all i lt in
      omega (arith, none, here);
  few = few;
}

-- ---- temporaries behind the last

-- no instruction puts a structure behind the last temporary
put_past : (t : Tac) (j : Instruction) (i : ℕ) → temporaries j ≤ i → structure_put t j i ≡ 0
put_past t (tac.ZeroOf kind d m) i le = none (d == i) refl
  where
    none : (b : Bool) → (d == i) ≡ b → (if b then structure_bytes kind else 0) ≡ 0
    none true e = let same = eqb-true d i e in absurd (omega (arith, same, le))
    none false e = refl
put_past t (tac.Take kind line d a m) i le = none (d == i) refl
  where
    none : (b : Bool) → (d == i) ≡ b → (if b then structure_bytes kind else 0) ≡ 0
    none true e = let same = eqb-true d i e in absurd (omega (arith, same, le))
    none false e = refl
put_past t (tac.Call f line d n m) i le = none (d == i) refl
  where
    none : (b : Bool) → (d == i) ≡ b
        → (if b then structure_bytes (result_of t.results (function_in t f)) else 0) ≡ 0
    none true e = let same = eqb-true d i e in absurd (omega (arith, same, le))
    none false e = refl
put_past t (tac.CallThrough type_number line d n m) i le = none (d == i) refl
  where
    none : (b : Bool) → (d == i) ≡ b → (if b then structure_bytes (result_of_type t.results type_number) else 0) ≡ 0
    none true e = let same = eqb-true d i e in absurd (omega (arith, same, le))
    none false e = refl
put_past t j i le = refl

pub greatest_past : (t : Tac) (js : List Instruction) (i : ℕ) → most_temporaries js ≤ i → greatest_structure t js i ≡ 0
greatest_past t [] i le = refl
greatest_past t (j ∷ js) i le =
    let own = put_past t j i (omega (arith, le)) in
    let rest = greatest_past t js i (omega (arith, le)) in
    omega (arith, own, rest)

-- ---- what a table tells of a function

pub greatest_in : (t : Tac) (c : CodeFunction) (ns : List ℕ) → AreGreatest ns (most_temporaries c.code) t c.code
    → (i : ℕ) → get_or ns i 0 ≡ greatest_structure t c.code i
greatest_in t c ns h i = by (nat_lt i (most_temporaries c.code)) refl
  where
    by : (b : Bool) → nat_lt i (most_temporaries c.code) ≡ b → get_or ns i 0 ≡ greatest_structure t c.code i
    by true e = h.each i (ltb-true i (most_temporaries c.code) e)
    by false e =
        let past = ltb-false i (most_temporaries c.code) e in
        let size = h.size in
        get_or_past ns i 0 (omega (arith, past, size)) ∙ sym (greatest_past t c.code i past)

pub area_in : (t : Tac) (c : CodeFunction) (ns : List ℕ) (i : ℕ) → AreGreatest ns (most_temporaries c.code) t c.code
    → nat_le 1 (get_or ns i 0) ≡ has_area t c i
area_in t c ns i h = ap (λ n. nat_le 1 n) (greatest_in t c ns h i)
