-- Registers that differ are a renaming.
use Rattle.std.proofs.Common.{◌≡◌, ◌≢◌, ℕ, zero, suc, ◌+◌, ◌-◌, ◌<◌, ◌≤◌, List, [], ◌∷◌, ◌++◌, get_or, length, refl}
use Rattle.std.proofs.Common.{sym}
use Rattle.std.proofs.Common.{ap, ◌∙◌, arith, ⊎_elim}
use Rattle.std.proofs.lemmas.Bool.{cases_lt}
use Rattle.std.proofs.lemmas.List.{get_or_append_left, get_or-append_right}
use Rattle.flat_code.specs.State.{State}
use Rattle.flat_code.specs.Routines.Registers.{IsNoneOf, AreNoneOf, AreDistinct, AreBelow, OthersStay}
use Rattle.flat_code.specs.Routines.Renaming.{IsRenaming, ChangesOnly}

none_at : (x : ℕ) (ys : List ℕ) (i : ℕ) → IsNoneOf x ys → i < length ys → x ≢ get_or ys i 0
none_at x [] i h l = absurd (omega arith)
none_at x (y ∷ ys) zero h l = h.0
none_at x (y ∷ ys) (suc i) h l = none_at x ys i h.1 (omega arith)

distinct_at : (ys : List ℕ) (i j : ℕ) → AreDistinct ys → i < length ys → j < length ys → get_or ys i 0 ≡ get_or ys j 0
    → i ≡ j
distinct_at [] i j h l k e = absurd (omega arith)
distinct_at (y ∷ ys) zero zero h l k e = refl
distinct_at (y ∷ ys) zero (suc j) h l k e = absurd (none_at y ys j h.0 (omega arith) e)
distinct_at (y ∷ ys) (suc i) zero h l k e = absurd (none_at y ys i h.0 (omega arith) (sym e))
distinct_at (y ∷ ys) (suc i) (suc j) h l k e = ap suc (distinct_at ys i j h.1 (omega arith) (omega arith) e)

none_of_at : (xs ys : List ℕ) (i : ℕ) → AreNoneOf xs ys → i < length xs → IsNoneOf (get_or xs i 0) ys
none_of_at [] ys i h l = absurd (omega arith)
none_of_at (x ∷ xs) ys zero h l = h.0
none_of_at (x ∷ xs) ys (suc i) h l = none_of_at xs ys i h.1 (omega arith)

-- the first ones are read alone, the others are written
pub are_renaming : (ins outs : List ℕ) → AreNoneOf ins outs → AreDistinct outs
    → IsRenaming (length ins + length outs) (length ins) (λ k. get_or (ins ++ outs) k 0)
are_renaming ins outs none distinct = record { apart = by }
  where
    out : (k : ℕ) → length ins ≤ k → get_or (ins ++ outs) k 0 ≡ get_or outs (k - length ins) 0
    out k l = get_or-append_right ins outs (length ins) k 0 refl l

    by : (j k : ℕ) → j < length ins + length outs → length ins ≤ k → k < length ins + length outs
        → get_or (ins ++ outs) j 0 ≡ get_or (ins ++ outs) k 0 → j ≡ k
    by j k jn dk kn e = ⊎_elim
        (λ l. absurd (none_at (get_or ins j 0) outs (k - length ins) (none_of_at ins outs j none l) (omega arith)
        (sym (get_or_append_left ins outs 0 j l) ∙ e ∙ out k dk)))
        (λ l. let same = distinct_at outs (j - length ins) (k - length ins) distinct (omega arith) (omega arith)
        (sym (out j l) ∙ e ∙ out k dk) in omega arith)
        (cases_lt j (length ins))

-- registers from scratch on
abbrev pub AreFrom : (scratch : ℕ) → List ℕ → Type 0
AreFrom t [] = Unit {0}
AreFrom t (y ∷ ys) = (t ≤ y) × AreFrom t ys

-- what lies below some register lies below each later one
pub below_more : (t u : ℕ) (xs : List ℕ) → t ≤ u → AreBelow t xs → AreBelow u xs
below_more t u [] le below = tt
below_more t u (x ∷ xs) le below = let l = below.0 in (omega arith, below_more t u xs le below.1)

none_from : (x t : ℕ) (ys : List ℕ) → x < t → AreFrom t ys → IsNoneOf x ys
none_from x t [] l h = tt
none_from x t (y ∷ ys) l h = (omega (arith, h.0), none_from x t ys l h.1)

none_append : (x : ℕ) (xs ys : List ℕ) → IsNoneOf x xs → IsNoneOf x ys → IsNoneOf x (xs ++ ys)
none_append x [] ys h k = k
none_append x (y ∷ xs) ys h k = (h.0, none_append x xs ys h.1 k)

none_of_append : (xs res own : List ℕ) (t : ℕ) → AreNoneOf xs res → AreBelow t xs → AreFrom t own
    → AreNoneOf xs (res ++ own)
none_of_append [] res own t h b f = tt
none_of_append (x ∷ xs) res own t h b f =
    (none_append x res own h.0 (none_from x t own b.0 f), none_of_append xs res own t h.1 b.1 f)

distinct_append : (res own : List ℕ) (t : ℕ) → AreDistinct res → AreBelow t res → AreDistinct own → AreFrom t own
    → AreDistinct (res ++ own)
distinct_append [] own t h b k f = k
distinct_append (x ∷ res) own t h b k f =
    (none_append x res own h.0 (none_from x t own b.0 f), distinct_append res own t h.1 b.1 k f)

-- The registers of a routine: those that it reads alone, those that it gives results in, and its own from scratch on.
pub record AreRegisters (ins res own : List ℕ) (scratch : ℕ) : Type 0 where
  pub none : AreNoneOf ins res
  pub distinct : AreDistinct res
  pub ins_below : AreBelow scratch ins
  pub res_below : AreBelow scratch res
  pub from : AreFrom scratch own
  pub own_distinct : AreDistinct own

abbrev pub register_of : (ins res own : List ℕ) → ℕ → ℕ
register_of ins res own k = get_or (ins ++ (res ++ own)) k 0

pub registers_rename : (ins res own : List ℕ) (t : ℕ) → AreRegisters ins res own t
    → IsRenaming (length ins + length (res ++ own)) (length ins) (register_of ins res own)
registers_rename ins res own t r = are_renaming ins (res ++ own) (none_of_append ins res own t r.none r.ins_below
    r.from)
    (distinct_append res own t r.distinct r.res_below r.own_distinct r.from)

pub others_stay : (ins res own : List ℕ) (t : ℕ) → AreRegisters ins res own t → (s s' : State)
    → ChangesOnly (length ins + length (res ++ own)) (length ins) (register_of ins res own) s s' → OthersStay res t s s'
others_stay ins res own t r s s' only x l h = only.others x (λ k dk kn e.
    none_at x (res ++ own) (k - length ins) (none_append x res own h (none_from x t own l r.from)) (omega arith)
    (e ∙ get_or-append_right ins (res ++ own) (length ins) k 0 refl dk))
