-- How many instructions the blocks of calls and returns have at most: each of the eleven registers is saved once.
use Rattle.std.proofs.Common.{◌≡◌, ℕ, zero, suc, ◌+◌, ◌-◌, ◌*◌, ◌^◌, ◌<◌, ◌≤◌, List, [], ◌∷◌, ◌++◌, length}
use Rattle.std.proofs.Common.{inl, Bool, true, false, refl, sym, ap, ◌∙◌, subst, arith, ⊎_elim, length-append}
use Rattle.std.proofs.Common.{true≢false}
use Rattle.std.specs.Prelude.{nat_lt, nat_eq, ◌&&◌, if◌then◌else◌}
use Rattle.std.proofs.lemmas.Bool.{cases_eq, eq-eqb, eqb-true, and_parts, cases_Bool}
use Rattle.rv_isa.specs.declared.instruction.RegOp.TheVariants.{Add, Sub}
use Rattle.rv_isa.specs.declared.instruction.Instr.{Instr}
use Rattle.rv_isa.specs.declared.instruction.Instr.TheVariants.{Op}
use Rattle.machine_laws.specs.declared.location.Location.{Location}
use Rattle.machine_laws.specs.declared.location.Location.TheVariants.{Register, Frame}
use Rattle.machine_laws.specs.Blocks.Blocks.{load_at, store_at, used, fetch, keep, constant}
use Rattle.machine_laws.specs.Blocks.Effects.{IsSaved, IsIn, AreApart}
use Rattle.machine_laws.proofs.Blocks.Lengths.{load_length, store_length, fetch_length, keep_length}
use Rattle.machine_laws.proofs.Blocks.Lengths.{short_constant_length}
use Rattle.machine_laws.specs.Calls.Effects.{AreOwn}
use Rattle.machine_laws.specs.Calls.Calls.{Keeping, give, take, save_one, restore_one, save, restore, advance, retreat}
use Rattle.machine_laws.specs.Calls.Calls.{return_block, entry_block}

choice : (b : Bool) (is : List Instr) (n : ℕ) → length is ≤ n → length (if b then is else []) ≤ n
choice true is n h = h
choice false is n h = omega arith

pub give_length : (k : Keeping) (first n : ℕ) → length (give k first n) ≤ 6 * n
unfolding give
give_length k first zero = omega arith
give_length k first (suc n) =
    let r = give_length k first n in
    let p = k.place (first + n) in
    let f = fetch_length p k.base 5 in
    let s = store_length (used p 5) 3 (8 * n) in
    let a = length-append (give k first n) (fetch p k.base 5 ++ store_at (used p 5) 3 (8 * n)) in
    let b = length-append (fetch p k.base 5) (store_at (used p 5) 3 (8 * n)) in
    omega arith

pub take_length : (k : Keeping) (pc first n : ℕ) → length (take k pc first n) ≤ 6 * n
unfolding take
take_length k pc first zero = omega arith
take_length k pc first (suc n) =
    let r = take_length k pc first n in
    let p = k.place (first + n) in
    let here = load_at (used p 5) 3 (8 * n) ++ keep p k.base 5 in
    let l = load_length (used p 5) 3 (8 * n) in
    let s = keep_length p k.base 5 in
    let b = length-append (load_at (used p 5) 3 (8 * n)) (keep p k.base 5) in
    let c = choice (k.live pc (first + n)) here 6 (omega arith) in
    let a = length-append (take k pc first n) (if k.live pc (first + n) then here else []) in
    omega arith

-- whether a place is a register, and how many of the first so many that are wanted stand in it
is_in : Location → (register : ℕ) → Bool
is_in (Register q) r = nat_eq q r
is_in (Frame o) r = false

one_if : Bool → ℕ
one_if b = if b then 1 else 0

held : (ℕ → Location) → (ℕ → Bool) → (register count : ℕ) → ℕ
held place wanted r zero = 0
held place wanted r (suc n) = held place wanted r n + one_if (wanted n && is_in (place n) r)

held_none : (place : ℕ → Location) (wanted : ℕ → Bool) (r n : ℕ)
    → ((y : ℕ) → y < n → (wanted y && is_in (place y) r) ≡ true → ⊥) → held place wanted r n ≡ 0
unfolding held one_if
held_none place wanted r zero h = refl
held_none place wanted r (suc n) h =
    let before = held_none place wanted r n (λ y lt e. h y (omega arith) e) in
    ⊎_elim (λ e. absurd (h n (omega arith) e))
    (λ e. ap (λ q. q + one_if (wanted n && is_in (place n) r)) before ∙ ap (λ b. 0 + one_if b) e)
    (cases_Bool (wanted n && is_in (place n) r))

held_one : (place : ℕ → Location) (wanted : ℕ → Bool) (r n : ℕ)
    → ((x y : ℕ) → (wanted x && is_in (place x) r) ≡ true → (wanted y && is_in (place y) r) ≡ true → x ≡ y)
    → held place wanted r n ≤ 1
unfolding held one_if
held_one place wanted r zero h = omega arith
held_one place wanted r (suc n) h = ⊎_elim
    (λ e. let before = held_none place wanted r n (λ y lt q. (let same = h y n q e in omega arith)) in
    let one : one_if (wanted n && is_in (place n) r) ≡ 1 = ap one_if e in omega arith)
    (λ e. let before = held_one place wanted r n h in
    let none : one_if (wanted n && is_in (place n) r) ≡ 0 = ap one_if e in omega arith)
    (cases_Bool (wanted n && is_in (place n) r))

all_held : (ℕ → Location) → (ℕ → Bool) → (count : ℕ) → ℕ
all_held place wanted n =
    held place wanted 8 n + held place wanted 9 n + held place wanted 18 n
    + held place wanted 19 n + held place wanted 20 n + held place wanted 21 n + held place wanted 22 n
    + held place wanted 23 n + held place wanted 24 n + held place wanted 25 n + held place wanted 26 n

-- one that is kept in a register counts there
more_held : (place : ℕ → Location) (wanted : ℕ → Bool) (n q : ℕ) → wanted n ≡ true → place n ≡ Register q → IsSaved q
    → all_held place wanted n + 1 ≤ all_held place wanted (suc n)
unfolding all_held held one_if is_in
more_held place wanted n q w at saved =
    ⊎_elim (λ e. (let one = hit 8 e in omega arith))
    (λ n8. ⊎_elim (λ e. (let one = hit 9 e in omega arith))
    (λ n9. ⊎_elim (λ e. (let one = hit 18 e in omega arith))
    (λ n18. ⊎_elim (λ e. (let one = hit 19 e in omega arith))
    (λ n19. ⊎_elim (λ e. (let one = hit 20 e in omega arith))
    (λ n20. ⊎_elim (λ e. (let one = hit 21 e in omega arith))
    (λ n21. ⊎_elim (λ e. (let one = hit 22 e in omega arith))
    (λ n22. ⊎_elim (λ e. (let one = hit 23 e in omega arith))
    (λ n23. ⊎_elim (λ e. (let one = hit 24 e in omega arith))
    (λ n24. ⊎_elim (λ e. (let one = hit 25 e in omega arith))
    (λ n25. ⊎_elim (λ e. (let one = hit 26 e in omega arith))
    (λ n26. absurd (⊎_elim (λ l. omega (arith, saved.low, l)) (λ l. omega (arith, saved.high, l)) saved.gap))
    (cases_eq q 26)) (cases_eq q 25)) (cases_eq q 24)) (cases_eq q 23)) (cases_eq q 22)) (cases_eq q 21))
    (cases_eq q 20)) (cases_eq q 19)) (cases_eq q 18)) (cases_eq q 9)) (cases_eq q 8)
  where
    hit : (r : ℕ) → q ≡ r → one_if (wanted n && is_in (place n) r) ≡ 1
    hit r e = ap (λ b. one_if (b && is_in (place n) r)) w ∙ ap (λ x. one_if (is_in x r)) at
        ∙ ap one_if (eq-eqb q r e)

same_held : (place : ℕ → Location) (wanted : ℕ → Bool) (n : ℕ)
    → all_held place wanted n ≤ all_held place wanted (suc n)
unfolding all_held held
same_held place wanted n = omega arith

in_same : (room : ℕ) (place : ℕ → Location) (wanted : ℕ → Bool) → AreOwn room place wanted → (r x y : ℕ)
    → (wanted x && is_in (place x) r) ≡ true → (wanted y && is_in (place y) r) ≡ true → x ≡ y
unfolding is_in
in_same room place wanted own r x y ex ey =
    let a = and_parts (wanted x) (is_in (place x) r) ex in
    let b = and_parts (wanted y) (is_in (place y) r) ey in
    ⊎_elim (λ e. e) (λ ne. absurd (by (place x) (place y) a.1 b.1 (own.apart x y a.0 b.0 ne))) (cases_eq x y)
  where
    by : (u w : Location) → is_in u r ≡ true → is_in w r ≡ true → AreApart u w → ⊥
    by (Register q) (Register t) e f apart = apart (eqb-true q r e ∙ sym (eqb-true t r f))
    by (Register q) (Frame o) e f apart = true≢false (sym f)
    by (Frame o) w e f apart = true≢false (sym e)

eleven : (room : ℕ) (place : ℕ → Location) (wanted : ℕ → Bool) (n : ℕ) → AreOwn room place wanted
    → all_held place wanted n ≤ 11
unfolding all_held
eleven room place wanted n own =
    let h8 = held_one place wanted 8 n (in_same room place wanted own 8) in
    let h9 = held_one place wanted 9 n (in_same room place wanted own 9) in
    let h18 = held_one place wanted 18 n (in_same room place wanted own 18) in
    let h19 = held_one place wanted 19 n (in_same room place wanted own 19) in
    let h20 = held_one place wanted 20 n (in_same room place wanted own 20) in
    let h21 = held_one place wanted 21 n (in_same room place wanted own 21) in
    let h22 = held_one place wanted 22 n (in_same room place wanted own 22) in
    let h23 = held_one place wanted 23 n (in_same room place wanted own 23) in
    let h24 = held_one place wanted 24 n (in_same room place wanted own 24) in
    let h25 = held_one place wanted 25 n (in_same room place wanted own 25) in
    let h26 = held_one place wanted 26 n (in_same room place wanted own 26) in
    omega arith

-- how many of the first so many that are wanted are kept in registers
slots : Location → ℕ
slots (Register q) = 1
slots (Frame o) = 0

taken : (ℕ → Location) → (ℕ → Bool) → (count : ℕ) → ℕ
taken place wanted zero = 0
taken place wanted (suc n) = taken place wanted n + (if wanted n then slots (place n) else 0)

taken_by : (room : ℕ) (place : ℕ → Location) (wanted : ℕ → Bool) (n : ℕ) → AreOwn room place wanted
    → taken place wanted n ≤ all_held place wanted n
unfolding taken slots all_held held
taken_by room place wanted zero own = omega arith
taken_by room place wanted (suc n) own =
    let r = taken_by room place wanted n own in
    let same = same_held place wanted n in
    ⊎_elim (λ e. by (place n) refl e r)
    (λ e. (let zero_more : (if wanted n then slots (place n) else 0) ≡ 0 = ap (λ b. if b then slots (place n) else
    0) e in
    omega arith)) (cases_Bool (wanted n))
  where
    by : (x : Location) → place n ≡ x → wanted n ≡ true → taken place wanted n ≤ all_held place wanted n
        → taken place wanted n + (if wanted n then slots (place n) else 0) ≤ all_held place wanted (suc n)
    by (Register q) at e r =
        let one : (if wanted n then slots (place n) else 0) ≡ 1 =
        ap (λ b. if b then slots (place n) else 0) e ∙ ap slots at in
        let saved : IsSaved q = subst (IsIn room) at (own.inside n e) in
        let more = more_held place wanted n q e at saved in omega arith
    by (Frame o) at e r =
        let none : (if wanted n then slots (place n) else 0) ≡ 0 =
        ap (λ b. if b then slots (place n) else 0) e ∙ ap slots at in
        let same = same_held place wanted n in omega arith

few_taken : (room : ℕ) (place : ℕ → Location) (wanted : ℕ → Bool) (n : ℕ) → AreOwn room place wanted
    → taken place wanted n ≤ 11
few_taken room place wanted n own =
    let a = taken_by room place wanted n own in let b = eleven room place wanted n own in omega arith

save_one_length : (x : Location) (base h : ℕ) → length (save_one x base h) ≤ 3 * slots x
unfolding slots
save_one_length (Register q) base h = let r = store_length q base h in omega arith
save_one_length (Frame o) base h = omega arith

restore_one_length : (x : Location) (base h : ℕ) → length (restore_one x base h) ≤ 3 * slots x
unfolding slots
restore_one_length (Register q) base h = let r = load_length q base h in omega arith
restore_one_length (Frame o) base h = omega arith

chosen : (b : Bool) (is : List Instr) (n : ℕ) → length is ≤ 3 * n
    → length (if b then is else []) ≤ 3 * (if b then n else 0)
chosen true is n h = h
chosen false is n h = omega arith

save_by : (k : Keeping) (wanted : ℕ → Bool) (n : ℕ) → length (save k wanted n) ≤ 3 * taken k.place wanted n
unfolding save taken
save_by k wanted zero = omega arith
save_by k wanted (suc n) =
    let r = save_by k wanted n in
    let here = save_one (k.place n) k.base (k.home n) in
    let c = chosen (wanted n) here (slots (k.place n)) (save_one_length (k.place n) k.base (k.home n)) in
    let a = length-append (save k wanted n) (if wanted n then here else []) in
    omega arith

restore_by : (k : Keeping) (wanted : ℕ → Bool) (n : ℕ) → length (restore k wanted n) ≤ 3 * taken k.place wanted n
unfolding restore taken
restore_by k wanted zero = omega arith
restore_by k wanted (suc n) =
    let r = restore_by k wanted n in
    let here = restore_one (k.place n) k.base (k.home n) in
    let c = chosen (wanted n) here (slots (k.place n)) (restore_one_length (k.place n) k.base (k.home n)) in
    let a = length-append (restore k wanted n) (if wanted n then here else []) in
    omega arith

pub save_length : (room : ℕ) (k : Keeping) (wanted : ℕ → Bool) (n : ℕ) → AreOwn room k.place wanted
    → length (save k wanted n) ≤ 33
save_length room k wanted n own =
    let a = save_by k wanted n in let b = few_taken room k.place wanted n own in omega arith

pub restore_length : (room : ℕ) (k : Keeping) (wanted : ℕ → Bool) (n : ℕ) → AreOwn room k.place wanted
    → length (restore k wanted n) ≤ 33
restore_length room k wanted n own =
    let a = restore_by k wanted n in let b = few_taken room k.place wanted n own in omega arith

-- one instruction, or a constant and one that takes it
moved_length : (b : Bool) (i j : Instr) (room n : ℕ) → length (constant 6 room) ≤ n
    → length (if b then i ∷ [] else constant 6 room ++ j ∷ []) ≤ n + 1
moved_length true i j room n h = omega arith
moved_length false i j room n h = let a = length-append (constant 6 room) (j ∷ []) in omega arith

pub advance_most : (k : Keeping) (n : ℕ) → length (constant 6 k.room) ≤ n → length (advance k) ≤ n + 1
unfolding advance
advance_most k n h = moved_length (nat_lt k.room (2 ^ 11)) _ (Op Add k.base k.base 6) k.room n h

pub retreat_most : (k : Keeping) (n : ℕ) → length (constant 6 k.room) ≤ n → length (retreat k) ≤ n + 1
unfolding retreat
retreat_most k n h = moved_length (nat_lt k.room (2 ^ 11)) _ (Op Sub k.base k.base 6) k.room n h

moved_some : (b : Bool) (i j : Instr) (room : ℕ) → 0 < length (if b then i ∷ [] else constant 6 room ++ j ∷ [])
moved_some true i j room = omega arith
moved_some false i j room = let a = length-append (constant 6 room) (j ∷ []) in omega arith

pub retreat_some : (k : Keeping) → 0 < length (retreat k)
unfolding retreat
retreat_some k = moved_some (nat_lt k.room (2 ^ 11)) _ (Op Sub k.base k.base 6) k.room

pub advance_length : (k : Keeping) → k.room < 2 ^ 31 - 2 ^ 11 → length (advance k) ≤ 3
advance_length k small = advance_most k 2 (short_constant_length 6 k.room (inl small))

pub retreat_length : (k : Keeping) → k.room < 2 ^ 31 - 2 ^ 11 → length (retreat k) ≤ 3
retreat_length k small = retreat_most k 2 (short_constant_length 6 k.room (inl small))

pub return_length : (k : Keeping) (from n : ℕ) → length (return_block k from n) ≤ 6 * n + 3
return_length k from n =
    let g = give_length k from n in
    let l = load_length 1 k.base 0 in
    let a = length-append (give k from n) (load_at 1 k.base 0) in omega arith

pub entry_length : (k : Keeping) (n : ℕ) → length (entry_block k n) ≤ 6 * n + 3
entry_length k n =
    let t = take_length k 0 0 n in
    let s = store_length 1 k.base 0 in
    let a = length-append (store_at 1 k.base 0) (take k 0 0 n) in omega arith
