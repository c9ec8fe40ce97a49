-- The shapes of lists that are put together, and of a routine over other registers.
use Rattle.std.proofs.Common.{◌≡◌, ℕ, zero, suc, ◌+◌, ◌<◌, ◌≤◌, ◌-◌, ◌^◌, Bool, true, ◌&&◌, ◌||◌, List, [], ◌∷◌, ◌++◌}
use Rattle.std.proofs.Common.{map, get_or, length}
use Rattle.std.proofs.Common.{refl, sym, ap, ◌∙◌, subst, arith}
use Rattle.std.specs.Prelude.{nat_lt, nat_le}
use Rattle.std.proofs.lemmas.Bool.{and_parts, and_from, lt-ltb, ltb-true, leb-true}
use Rattle.std.proofs.lemmas.List.{length-map, length-append}
use Rattle.addr_map.specs.declared.region.Region.{Region}
use Rattle.addr_map.specs.Places.{MapSizes, AreMapped, region_start, region_last}
use Rattle.addr_map.proofs.Order.{ends_low}
use Rattle.rv_isa.specs.declared.instruction.BranchOp.{BranchOp}
use Rattle.flat_code.specs.declared.instruction.RightOperand.{RightOperand}
use Rattle.flat_code.specs.declared.instruction.RightOperand.TheVariants.{Register, Number}
use Rattle.flat_code.specs.declared.instruction.FlatInstruction.{FlatInstruction}
use Rattle.flat_code.specs.declared.instruction.FlatInstruction.TheVariants.{Constant, Move, Operate, Operate32}
use Rattle.flat_code.specs.declared.instruction.FlatInstruction.TheVariants.{Load, Store, Branch, JumpForward}
use Rattle.flat_code.specs.declared.instruction.FlatInstruction.TheVariants.{JumpBack, Turn, Call, CallAddress}
use Rattle.flat_code.specs.declared.instruction.FlatInstruction.TheVariants.{Return, Get, Put, Exit, End, Charged}
use Rattle.flat_code.specs.Routines.Registers.{AreBelow}
use Rattle.flat_code.specs.Routines.Renaming.{rename, rename_right}
use Rattle.flat_code.specs.Routines.Routine.{unless_code, until_code}
use Rattle.flat_code.proofs.Routines.Distinct.{register_of, below_more}
use Rattle.flat_code.specs.Routines.Shape.{is_short, is_offset, has_right, is_shaped, are_shaped, HasShape}

pub shaped : (is : List FlatInstruction) (n m : ℕ) → length is ≤ n → are_shaped m is ≡ true → HasShape is n m
shaped is n m few each = record { few = few; each = each }

pub both : (x y : Bool) → x ≡ true → y ≡ true → (x && y) ≡ true
both x y e f = and_from x y e f

-- an address of the map, and what is as small
pub short_below : (n : ℕ) → n < 2 ^ 31 - 2 ^ 11 → is_short n ≡ true
short_below n l = ap (λ b. b || (nat_le (2 ^ 64 - 2 ^ 31) n && nat_lt n (2 ^ 64))) (lt-ltb n (2 ^ 31 - 2 ^ 11) l)

pub start_short : (m : MapSizes) → AreMapped m → (r : Region) → is_short (region_start m r) ≡ true
start_short m h r = short_below (region_start m r) (let e = ends_low m h r in omega (arith, e))

pub last_short : (m : MapSizes) → AreMapped m → (r : Region) → is_short (region_last m r) ≡ true
last_short m h r = short_below (region_last m r) (let e = ends_low m h r in omega (arith, e))

-- ---- over other registers: the first n are put below m

module _ (n m : ℕ) (f : ℕ → ℕ) (below : (k : ℕ) → k < n → f k < m) where
  named : (x : ℕ) → nat_lt x n ≡ true → nat_lt (f x) m ≡ true
  named x e = lt-ltb (f x) m (below x (ltb-true x n e))

  right : (z : RightOperand) → has_right n z ≡ true → has_right m (rename_right f z) ≡ true
  right (Register z) e = named z e
  right (Number k) e = e

  -- a register, and what is said beside it
  beside : (x : ℕ) (a b : Bool) → (a ≡ true → b ≡ true) → (nat_lt x n && a) ≡ true → (nat_lt (f x) m && b) ≡ true
  beside x a b h e =
      let p = and_parts (nat_lt x n) a e in
      and_from (nat_lt (f x) m) b (named x p.0) (h p.1)

  one : (i : FlatInstruction) → is_shaped n i ≡ true → is_shaped m (rename f i) ≡ true
  one (Constant x k) e = beside x (is_short k) (is_short k) (λ h. h) e
  one (Move x y) e = beside x (nat_lt y n) (nat_lt (f y) m) (named y) e
  one (Operate op x y z) e = beside x _ _ (beside y (has_right n z) (has_right m (rename_right f z)) (right z)) e
  one (Operate32 op x y z) e = beside x _ _ (beside y (has_right n z) (has_right m (rename_right f z)) (right z)) e
  one (Load op x y o) e = beside x _ _ (beside y (is_offset o) (is_offset o) (λ h. h)) e
  one (Store op y o x) e = beside y _ _ (beside x (is_offset o) (is_offset o) (λ h. h)) e
  one (Branch op y z past) e = beside y (has_right n z) (has_right m (rename_right f z)) (right z) e
  one (JumpForward past) e = e
  one (JumpBack back) e = e
  one Turn e = e
  one (Call g first x) e = e
  one (CallAddress y first c x r) e = e
  one (Return y) e = e
  one (Get x) e = named x e
  one (Put x) e = named x e
  one (Exit x) e = named x e
  one (End q) e = e
  one (Charged x) e = named x e

  all : (is : List FlatInstruction) → are_shaped n is ≡ true → are_shaped m (map (rename f) is) ≡ true
  all [] e = refl
  all (i ∷ is) e =
      let p = and_parts (is_shaped n i) (are_shaped n is) e in
      and_from (is_shaped m (rename f i)) (are_shaped m (map (rename f) is)) (one i p.0) (all is p.1)

  pub shaped_over : (is : List FlatInstruction) (most : ℕ) → HasShape is most n → HasShape (map (rename f) is) most m
  shaped_over is most h = record {
    few = let l = length-map is (rename f) in let k = h.few in omega (arith, l, k);
    each = all is h.each;
  }

-- registers of a list that are below a number
pub all_below : (m : ℕ) (xs : List ℕ) → AreBelow m xs → (k : ℕ) → k < length xs → get_or xs k 0 < m
all_below m [] h k l = absurd (omega arith)
all_below m (x ∷ xs) h zero l = h.0
all_below m (x ∷ xs) h (suc k) l = all_below m xs h.1 k (omega arith)

pub below_both : (m : ℕ) (xs ys : List ℕ) → AreBelow m xs → AreBelow m ys → AreBelow m (xs ++ ys)
below_both m [] ys h g = g
below_both m (x ∷ xs) ys h g = (h.0, below_both m xs ys h.1 g)

-- a routine that is written over the registers 0, 1, 2 .. has these in their place
pub shaped_registers : (m : ℕ) (xs : List ℕ) (is : List FlatInstruction) (most : ℕ) → AreBelow m xs
    → HasShape is most (length xs) → HasShape (map (rename (λ k. get_or xs k 0)) is) most m
shaped_registers m xs is most below h = shaped_over (length xs) m (λ k. get_or xs k 0) (all_below m xs below) is most h

-- both by computing, where the numbers are known
pub piece : (m : ℕ) (xs : List ℕ) (is : List FlatInstruction) (most : ℕ) → AreBelow m xs
    → nat_le (length is) most ≡ true → are_shaped (length xs) is ≡ true
    → HasShape (map (rename (λ k. get_or xs k 0)) is) most m
piece m xs is most below few each =
    shaped_registers m xs is most below (shaped is most (length xs) (leb-true (length is) most few) each)

-- the same, with registers that others gave in front of its own
pub piece_behind : (t m : ℕ) (args own : List ℕ) (is : List FlatInstruction) (most : ℕ) → t ≤ m → AreBelow t args
    → AreBelow m own → nat_le (length is) most ≡ true → are_shaped (length (args ++ own)) is ≡ true
    → HasShape (map (rename (λ k. get_or (args ++ own) k 0)) is) most m
piece_behind t m args own is most le below o few each =
    piece m (args ++ own) is most (below_both m args own (below_more t m args le below) o) few each

-- and one that reads some registers, gives results in others and has its own behind both
pub shaped_routine : (ins res own : List ℕ) (t m : ℕ) (is : List FlatInstruction) (most : ℕ) → t ≤ m
    → AreBelow t ins → AreBelow t res → AreBelow m own → HasShape is most (length (ins ++ (res ++ own)))
    → HasShape (map (rename (register_of ins res own)) is) most m
shaped_routine ins res own t m is most le i r o h =
    shaped_registers m (ins ++ (res ++ own)) is most
    (below_both m ins (res ++ own) (below_more t m ins le i) (below_both m res own (below_more t m res le r) o)) h

-- ---- lists put together

pub more : (is : List FlatInstruction) (a b m n : ℕ) → a ≤ b → m ≤ n → HasShape is a m → HasShape is b n
more is a b m n le lm h = record {
  few = let k = h.few in omega arith;
  each = each is h.each;
}
  where
    over : (x : ℕ) → nat_lt x m ≡ true → nat_lt x n ≡ true
    over x e = let l = ltb-true x m e in lt-ltb x n (omega arith)

    each : (js : List FlatInstruction) → are_shaped m js ≡ true → are_shaped n js ≡ true
    each js e = subst (λ l. are_shaped n l ≡ true) (same js)
        (all m n (λ x. x) (λ x l. omega arith) js e)
      where
        kept : (i : FlatInstruction) → rename (λ x. x) i ≡ i
        kept (Operate op x y (Register z)) = refl
        kept (Operate op x y (Number k)) = refl
        kept (Operate32 op x y (Register z)) = refl
        kept (Operate32 op x y (Number k)) = refl
        kept (Branch op y (Register z) past) = refl
        kept (Branch op y (Number k) past) = refl
        kept (Constant x k) = refl
        kept (Move x y) = refl
        kept (Load op x y o) = refl
        kept (Store op y o x) = refl
        kept (JumpForward past) = refl
        kept (JumpBack back) = refl
        kept Turn = refl
        kept (Call g first x) = refl
        kept (CallAddress y first c x r) = refl
        kept (Return y) = refl
        kept (Get x) = refl
        kept (Put x) = refl
        kept (Exit x) = refl
        kept (End q) = refl
        kept (Charged x) = refl

        same : (ls : List FlatInstruction) → map (rename (λ x. x)) ls ≡ ls
        same [] = refl
        same (l ∷ ls) = ap (λ k. k ∷ map (rename (λ x. x)) ls) (kept l) ∙ ap (λ k. l ∷ k) (same ls)

-- of more registers
pub up_to : {is : List FlatInstruction} {a : ℕ} (m n : ℕ) → m ≤ n → HasShape is a m → HasShape is a n
up_to {is} {a} m n le h = more is a a m n (omega arith) le h

-- and of more instructions
pub at_most : {is : List FlatInstruction} {m : ℕ} (a b : ℕ) → a ≤ b → HasShape is a m → HasShape is b m
at_most {is} {m} a b le h = more is a b m m le (omega arith) h

appended : (m : ℕ) (xs ys : List FlatInstruction) → are_shaped m xs ≡ true → are_shaped m ys ≡ true
    → are_shaped m (xs ++ ys) ≡ true
appended m [] ys e h = h
appended m (x ∷ xs) ys e h =
    let p = and_parts (is_shaped m x) (are_shaped m xs) e in
    and_from (is_shaped m x) (are_shaped m (xs ++ ys)) p.0 (appended m xs ys p.1 h)

pub shaped_append : (xs ys : List FlatInstruction) (j k m : ℕ) → HasShape xs j m → HasShape ys k m
    → HasShape (xs ++ ys) (j + k) m
shaped_append xs ys j k m h g = record {
  few = let l = length-append xs ys in let p = h.few in let q = g.few in omega (arith, l, p, q);
  each = appended m xs ys h.each g.each;
}

-- by the lists of which one is made
pub shaped_joined : {r a b x y : List FlatInstruction} {j k m : ℕ} → r ≡ a ++ b → a ≡ x → b ≡ y → HasShape x j m
    → HasShape y k m → HasShape r (j + k) m
shaped_joined {r} {a} {b} {x} {y} {j} {k} {m} e f g h q =
    subst (λ l. HasShape l (j + k) m) (sym (e ∙ ap (λ l. l ++ b) f ∙ ap (λ l. x ++ l) g)) (shaped_append x y j k m h q)

pub same_shape : {r x : List FlatInstruction} {j m : ℕ} → r ≡ x → HasShape x j m → HasShape r j m
same_shape {r} {x} {j} {m} e h = subst (λ l. HasShape l j m) (sym e) h

-- a test in front of a body
pub shaped_unless : (op : BranchOp) (x : ℕ) (y : RightOperand) (body : List FlatInstruction) (k m : ℕ) → x < m
    → has_right m y ≡ true → HasShape body k m → HasShape (unless_code op x y body) (k + 1) m
shaped_unless op x y body k m l r h = record {
  few = let p = h.few in omega (arith, p);
  each = both (nat_lt x m && has_right m y) (are_shaped m body)
      (both (nat_lt x m) (has_right m y) (lt-ltb x m l) r) h.each;
}

-- and turns of it
pub shaped_until : (op : BranchOp) (x : ℕ) (y : RightOperand) (body : List FlatInstruction) (k m : ℕ) → x < m
    → has_right m y ≡ true → HasShape body k m → HasShape (until_code op x y body) (k + 2) m
shaped_until op x y body k m l r h = record {
  few = let p = h.few in
      let q = length-append body (JumpBack (length body + 1) ∷ []) in omega (arith, p, q);
  each = both (nat_lt x m && has_right m y) (are_shaped m (body ++ JumpBack (length body + 1) ∷ []))
      (both (nat_lt x m) (has_right m y) (lt-ltb x m l) r)
      (appended m body (JumpBack (length body + 1) ∷ []) h.each refl);
}
