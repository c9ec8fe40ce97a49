-- Facts hold on: behind an instruction those hold that are known there.
use Rattle.std.proofs.Common.{◌≡◌, ⊎_elim, ℕ, ◌^◌, ◌<◌, refl, sym, ap, ◌∙◌, subst}
use Rattle.std.proofs.Common.{arith, Bool, true, false, not}
use Rattle.std.specs.Prelude.{nat_lt, ◌==◌, ◌||◌, if◌then◌else◌}
use Rattle.std.proofs.lemmas.Bool.{ltb-true, lt-ltb, eqb-true, eq-eqb, cases_Bool, false≢true}
use Rattle.words.specs.TwosComplement.{low_bits}
use Rattle.words.specs.Operations.{difference}
use Rattle.rv_isa.specs.declared.instruction.BranchOp.{BranchOp}
use Rattle.rv_isa.specs.declared.instruction.BranchOp.TheVariants.{Beq, Bne, Blt, Bge, Bltu, Bgeu}
use Rattle.rv_isa.specs.declared.instruction.RegOp.{RegOp}
use Rattle.rv_isa.specs.declared.instruction.RegOp.TheVariants.{Sub, Slt, Sltu, Xor}
use Rattle.rv_isa.specs.Results.{bit_of, branch_taken, reg_result}
use Rattle.flat_code.specs.declared.instruction.RightOperand.{RightOperand}
use Rattle.flat_code.specs.declared.instruction.RightOperand.TheVariants.{Register, Number}
use Rattle.flat_code.specs.Memory.{put}
use Rattle.flat_code.specs.State.{Values}
use Rattle.flat_code.specs.Meaning.{right_value}
use Rattle.flat_code.specs.Words.{AreWords}
use Rattle.flat_propagation.specs.declared.fact.Fact.{Fact}
use Rattle.flat_propagation.specs.declared.fact.Fact.TheVariants.{Unknown, Same, Word, Difference, Condition}
use Rattle.flat_propagation.specs.Facts.{Facts, Says, Hold, opposite, names, right_names, unless_named, with_fact}
use Rattle.flat_propagation.specs.Known.{source, source_but, register_or_zero, right_source_but, copied, if_branchable}
use Rattle.flat_propagation.specs.Known.{is_zero, turned, if_one, computed}

-- ---- a register is made anew

pub either : {A : Type 0} → (P : A → Type 0) → (b : Bool) (x y : A) → (b ≡ true → P x) → (b ≡ false → P y)
    → P (if b then x else y)
either P true x y h k = h refl
either P false x y h k = k refl

put_other : (values : Values) (x v y : ℕ) → (y == x) ≡ false → put values x v y ≡ values y
unfolding put
put_other values x v y e = ap (λ b. if b then v else values y) e

put_same : (values : Values) (x v y : ℕ) → (y == x) ≡ true → put values x v y ≡ v
unfolding put
put_same values x v y e = ap (λ b. if b then v else values y) e

or_first : (a b : Bool) → (a || b) ≡ false → a ≡ false
or_first false b e = refl
or_first true b e = e

or_second : (a b : Bool) → (a || b) ≡ false → b ≡ false
or_second false b e = e
or_second true b e = absurd (false≢true (sym e))

right_put : (b : RightOperand) (values : Values) (x v : ℕ) → right_names b x ≡ false
    → right_value b (put values x v) ≡ right_value b values
right_put (Register y) values x v e = put_other values x v y e
right_put (Number n) values x v e = refl

-- a fact that does not speak of a register's value says the same when that is another
says_put : (fact : Fact) (values : Values) (x v w : ℕ) → names fact x ≡ false → Says fact values w
    → Says fact (put values x v) w
says_put Unknown values x v w e h = tt
says_put (Same y) values x v w e h = h ∙ sym (put_other values x v y e)
says_put (Word n) values x v w e h = h
says_put (Difference a b) values x v w e h =
    let left = put_other values x v a (or_first (a == x) (right_names b x) e) in
    let right = right_put b values x v (or_second (a == x) (right_names b x) e) in
    h ∙ sym (ap (λ k. difference 64 k (right_value b (put values x v))) left ∙ ap (difference 64 (values a)) right)
says_put (Condition op a b) values x v w e h =
    let left = put_other values x v a (or_first (a == x) (right_names b x) e) in
    let right = right_put b values x v (or_second (a == x) (right_names b x) e) in
    h
    ∙ sym (ap (λ k. bit_of (branch_taken op k (right_value b (put values x v)))) left
    ∙ ap (λ k. bit_of (branch_taken op (values a) k)) right)

says_unless : (fact : Fact) (values : Values) (x v w : ℕ) → Says fact values w
    → Says (unless_named fact x) (put values x v) w
says_unless fact values x v w h =
    either (λ f. Says f (put values x v) w) (names fact x) Unknown fact (λ e. tt)
    (λ e. says_put fact values x v w e h)

pub holds_with : (known : Facts) (values : Values) (x v : ℕ) (fact : Fact) → Hold known values → Says fact values v
    → Hold (with_fact known x fact) (put values x v)
unfolding with_fact
holds_with known values x v fact h here y =
    ⊎_elim
    (λ (e : (y == x) ≡ true).
    subst (Says (unless_named (if y == x then fact else known y) x) (put values x v)) (sym (put_same values x v y e))
    (subst (λ b. Says (unless_named (if b then fact else known y) x) (put values x v) v) (sym e)
    (says_unless fact values x v v here)))
    (λ (e : (y == x) ≡ false).
    subst (Says (unless_named (if y == x then fact else known y) x) (put values x v)) (sym (put_other values x v y e))
    (subst (λ b. Says (unless_named (if b then fact else known y) x) (put values x v) (values y)) (sym e)
    (says_unless (known y) values x v (values y) (h y))))
    (cases_Bool (y == x))

-- ---- operands have the values of where they come from

pub source_value : (fact : Fact) (values : Values) (x : ℕ) → Says fact values (values x)
    → values (source fact x) ≡ values x
source_value Unknown values x h = refl
source_value (Same y) values x h = sym h
source_value (Word n) values x h = refl
source_value (Difference a b) values x h = refl
source_value (Condition op a b) values x h = refl

pub source_but_value : (d : ℕ) (fact : Fact) (values : Values) (x : ℕ) → Says fact values (values x)
    → values (source_but d fact x) ≡ values x
source_but_value d fact values x h =
    either (λ k. values k ≡ values x) (source fact x == d) x (source fact x) (λ e. refl)
    (λ e. source_value fact values x h)

pub zero_value : (fact : Fact) (values : Values) (x y : ℕ) → Says fact values (values x) → values y ≡ values x
    → right_value (register_or_zero fact y) values ≡ values x
zero_value Unknown values x y h e = e
zero_value (Same z) values x y h e = e
zero_value (Word n) values x y h e =
    either (λ k. right_value k values ≡ values x) (n == 0) (Number 0) (Register y)
    (λ is. let z = eqb-true n 0 is in ap (low_bits 64) (sym z) ∙ sym h) (λ is. e)
zero_value (Difference a b) values x y h e = e
zero_value (Condition op a b) values x y h e = e

pub right_source_but_value : (d : ℕ) (known : Facts) (b : RightOperand) (values : Values) → Hold known values
    → right_value (right_source_but d known b) values ≡ right_value b values
right_source_but_value d known (Register x) values h =
    zero_value (known x) values x (source_but d (known x) x) (h x) (source_but_value d (known x) values x (h x))
right_source_but_value d known (Number n) values h = refl

-- ---- what instructions tell

pub opposite_taken : (op : BranchOp) (a b : ℕ) → branch_taken (opposite op) a b ≡ not (branch_taken op a b)
unfolding branch_taken
opposite_taken Beq a b = refl
opposite_taken Bne a b = double (a == b)
  where
    double : (b : Bool) → b ≡ not (not b)
    double true = refl
    double false = refl
opposite_taken Blt a b = refl
opposite_taken Bge a b = double _
  where
    double : (b : Bool) → b ≡ not (not b)
    double true = refl
    double false = refl
opposite_taken Bltu a b = refl
opposite_taken Bgeu a b = double (nat_lt a b)
  where
    double : (b : Bool) → b ≡ not (not b)
    double true = refl
    double false = refl

pub copied_says : (fact : Fact) (values : Values) (x : ℕ) → Says fact values (values x)
    → Says (copied fact x) values (values x)
copied_says Unknown values x h = refl
copied_says (Same y) values x h = h
copied_says (Word n) values x h = h
copied_says (Difference a b) values x h = h
copied_says (Condition op a b) values x h = h

branchable_says : (b : RightOperand) (fact : Fact) (values : Values) (v : ℕ) → Says fact values v
    → Says (if_branchable b fact) values v
branchable_says (Register x) fact values v h = h
branchable_says (Number n) fact values v h =
    either (λ f. Says f values v) (n == 0) fact Unknown (λ e. h) (λ e. tt)

same_test : (x y : Bool) → (x ≡ true → y ≡ true) → (y ≡ true → x ≡ true) → x ≡ y
same_test true true h k = refl
same_test true false h k = sym (h refl)
same_test false true h k = k refl
same_test false false h k = refl

-- one below 1 is 0
below_one : (v : ℕ) → nat_lt v 1 ≡ (v == 0)
below_one v =
    same_test (nat_lt v 1) (v == 0) (λ e. let z = ltb-true v 1 e in eq-eqb v 0 (omega (arith, z)))
    (λ e. let z = eqb-true v 0 e in lt-ltb v 1 (omega (arith, z)))

-- a difference of words is 0 where they are equal
pub difference_zero : (a b : ℕ) → a < 2 ^ 64 → b < 2 ^ 64 → (difference 64 a b == 0) ≡ (a == b)
difference_zero a b la lb =
    same_test (difference 64 a b == 0) (a == b)
    (λ e. let z = eqb-true (difference 64 a b) 0 e in eq-eqb a b (omega (arith, la, lb, z)))
    (λ e. let z = eqb-true a b e in eq-eqb (difference 64 a b) 0 (omega (arith, la, lb, z)))

pub bit_zero : (b : Bool) → (bit_of b == 0) ≡ not b
bit_zero true = refl
bit_zero false = refl

pub right_word : (b : RightOperand) (values : Values) → AreWords values → right_value b values < 2 ^ 64
right_word (Register x) values h = h x
right_word (Number n) values h = omega arith

zero_says : (fact : Fact) (values : Values) (x y : ℕ) → AreWords values → Says fact values (values x)
    → values y ≡ values x → Says (is_zero fact y) values (bit_of (values x == 0))
unfolding branch_taken
zero_says Unknown values x y w h e = ap (λ k. bit_of (k == 0)) (sym e)
zero_says (Same z) values x y w h e = ap (λ k. bit_of (k == 0)) (sym e)
zero_says (Word n) values x y w h e = ap (λ k. bit_of (k == 0)) (sym e)
zero_says (Difference a b) values x y w h e =
    ap bit_of (ap (λ k. k == 0) h ∙ difference_zero (values a) (right_value b values) (w a) (right_word b values w))
zero_says (Condition op a b) values x y w h e =
    let taken = branch_taken op (values a) (right_value b values) in
    ap bit_of (ap (λ k. k == 0) h ∙ bit_zero taken ∙ sym (opposite_taken op (values a) (right_value b values)))

turned_says : (fact : Fact) (values : Values) (v : ℕ) → Says fact values v
    → Says (turned fact) values (reg_result Xor v 1)
unfolding reg_result
turned_says Unknown values v h = tt
turned_says (Same y) values v h = tt
turned_says (Word n) values v h = tt
turned_says (Difference a b) values v h = tt
turned_says (Condition op a b) values v h =
    let taken = branch_taken op (values a) (right_value b values) in
    ap (λ k. reg_result Xor k 1) h ∙ turned_bit taken
    ∙ sym (ap bit_of (opposite_taken op (values a) (right_value b values)))
  where
    turned_bit : (b : Bool) → reg_result Xor (bit_of b) 1 ≡ bit_of (not b)
    turned_bit true = refl
    turned_bit false = refl

one_says : (b : RightOperand) (fact other : Fact) (values : Values) (v : ℕ)
    → ((n : ℕ) → b ≡ Number n → n ≡ 1 → Says fact values v) → Says other values v
    → Says (if_one b fact other) values v
one_says (Register x) fact other values v h k = k
one_says (Number n) fact other values v h k =
    either (λ f. Says f values v) (n == 1) fact other (λ e. h n refl (eqb-true n 1 e)) (λ e. k)

subtracted : (a a' b : ℕ) → a' ≡ a → reg_result Sub a b ≡ difference 64 a' b
unfolding reg_result
subtracted a a' b e = ap (λ k. difference 64 k b) (sym e)

less : (a a' b : ℕ) → a' ≡ a → reg_result Slt a b ≡ bit_of (branch_taken Blt a' b)
unfolding reg_result branch_taken
less a a' b e = ap (λ k. bit_of (branch_taken Blt k b)) (sym e)

below : (a a' b : ℕ) → a' ≡ a → reg_result Sltu a b ≡ bit_of (branch_taken Bltu a' b)
unfolding reg_result branch_taken
below a a' b e = ap (λ k. bit_of (branch_taken Bltu k b)) (sym e)

below_bit : (v : ℕ) → reg_result Sltu v 1 ≡ bit_of (v == 0)
unfolding reg_result
below_bit v = ap bit_of (below_one v)

-- the value of an operator, where its operands come from others with the same values
pub computed_says : (op : RegOp) (fact : Fact) (values : Values) (x y : ℕ) (b : RightOperand) → AreWords values
    → Says fact values (values x) → values y ≡ values x
    → Says (computed op fact y b) values (reg_result op (values x) (right_value b values))
unfolding computed
computed_says Sub fact values x y b w h e =
    branchable_says b (Difference y b) values _ (subtracted (values x) (values y) (right_value b values) e)
computed_says Slt fact values x y b w h e =
    branchable_says b (Condition Blt y b) values _ (less (values x) (values y) (right_value b values) e)
computed_says Sltu fact values x y b w h e =
    one_says b (is_zero fact y) (if_branchable b (Condition Bltu y b)) values _
    (λ n is one.
    subst (Says (is_zero fact y) values)
    (sym (ap (λ k. reg_result Sltu (values x) (right_value k values)) (is ∙ ap Number one) ∙ below_bit (values x)))
    (zero_says fact values x y w h e))
    (branchable_says b (Condition Bltu y b) values _ (below (values x) (values y) (right_value b values) e))
computed_says Xor fact values x y b w h e =
    one_says b (turned fact) Unknown values _
    (λ n is one. subst (λ k. Says (turned fact) values (reg_result Xor (values x) (right_value k values)))
    (sym (is ∙ ap Number one)) (turned_says fact values (values x) h)) tt
computed_says _ fact values x y b w h e = tt
