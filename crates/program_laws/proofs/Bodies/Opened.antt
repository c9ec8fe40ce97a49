-- Variables that can be named in a block, and variables in the order of their numbers.
use Rattle.std.proofs.Common.{◌≡◌, ◌⊎◌, inl, inr, ℕ, zero, suc, ◌+◌, ◌<◌, Bool, true, false, ◌||◌, ◌&&◌, refl, sym}
use Rattle.std.proofs.Common.{ap, ◌∙◌}
use Rattle.std.proofs.Common.{List, [], ◌∷◌, ◌++◌, length, if◌then◌else◌, arith}
use Rattle.std.specs.Prelude.{◌==◌, get_or}
use Rattle.std.proofs.lemmas.Bool.{eq-eqb, eqb-true}
use Rattle.c_tree.specs.declared.program.Variable.{Variable}
use Rattle.c_tree.specs.Blocks.{is_among, no_variable, opened}
use Rattle.c_tree.specs.Valid.{Scope, within}
use Rattle.c_tree.specs.ValidProgram.{count_from}
use Rattle.program_laws.specs.Bodies.Standing.{AreOpen, IsOpen}

-- lists of numbers

pub among_left : (xs ys : List ℕ) (n : ℕ) → is_among xs n ≡ true → is_among (xs ++ ys) n ≡ true
among_left [] ys n e = absurd cc
among_left (x ∷ xs) ys n e = by (x == n) (among_left xs ys n) e
  where
    by : (b : Bool) → (is_among xs n ≡ true → is_among (xs ++ ys) n ≡ true) → (b || is_among xs n) ≡ true
        → (b || is_among (xs ++ ys) n) ≡ true
    by true h g = refl
    by false h g = h g

pub among_right : (xs ys : List ℕ) (n : ℕ) → is_among ys n ≡ true → is_among (xs ++ ys) n ≡ true
among_right [] ys n e = e
among_right (x ∷ xs) ys n e = by (x == n) (among_right xs ys n e)
  where
    by : (b : Bool) → is_among (xs ++ ys) n ≡ true → (b || is_among (xs ++ ys) n) ≡ true
    by true h = refl
    by false h = h

pub among_either : (xs ys : List ℕ) (n : ℕ) → is_among (xs ++ ys) n ≡ true
    → (is_among xs n ≡ true) ⊎ (is_among ys n ≡ true)
among_either [] ys n e = inr e
among_either (x ∷ xs) ys n e = by (x == n) (among_either xs ys n) e
  where
    by : (b : Bool) → (is_among (xs ++ ys) n ≡ true → (is_among xs n ≡ true) ⊎ (is_among ys n ≡ true))
        → (b || is_among (xs ++ ys) n) ≡ true → ((b || is_among xs n) ≡ true) ⊎ (is_among ys n ≡ true)
    by true h e = inl refl
    by false h e = h e

pub alone_among : (n m : ℕ) → is_among (n ∷ []) m ≡ true → n ≡ m
alone_among n m e = by (n == m) refl e
  where
    by : (b : Bool) → (n == m) ≡ b → (b || false) ≡ true → n ≡ m
    by true g e = eqb-true n m g
    by false g e = absurd cc

-- numbers that count from a first one are all those up to the last
pub count_among : (first : ℕ) (xs : List ℕ) (k : ℕ) → count_from first xs ≡ true → k < length xs
    → is_among xs (first + k) ≡ true
count_among first [] k e low = absurd (omega arith)
count_among first (x ∷ xs) zero e low =
    by (x == first) refl e
  where
    by : (b : Bool) → (x == first) ≡ b → (b && count_from (suc first) xs) ≡ true
        → ((x == first + 0) || is_among xs (first + 0)) ≡ true
    by true g e =
        let same : first + 0 ≡ first = omega arith in
        ap (λ n. (x == n) || is_among xs n) same ∙ ap (λ b. b || is_among xs first) g
    by false g e = absurd cc
count_among first (x ∷ xs) (suc k) e low =
    let same : suc first + k ≡ first + suc k = omega arith in
    among_right (x ∷ []) xs (first + suc k)
    (ap (is_among xs) (sym same) ∙ count_among (suc first) xs k (behind (x == first) e) (omega arith))
  where
    behind : (b : Bool) → (b && count_from (suc first) xs) ≡ true → count_from (suc first) xs ≡ true
    behind true e = e
    behind false e = absurd cc

pub among_alone : (n : ℕ) → is_among (n ∷ []) n ≡ true
among_alone n = ap (λ b. b || false) (eq-eqb n n refl)

pub count_alone : (n : ℕ) → count_from n (n ∷ []) ≡ true
count_alone n = ap (λ b. b && true) (eq-eqb n n refl)

pub count_append : (first : ℕ) (xs ys : List ℕ) → count_from first xs ≡ true
    → count_from (first + length xs) ys ≡ true → count_from first (xs ++ ys) ≡ true
count_append first [] ys e g =
    let same : first + 0 ≡ first = omega arith in ap (λ n. count_from n ys) (sym same) ∙ g
count_append first (x ∷ xs) ys e g =
    let same : suc first + length xs ≡ first + suc (length xs) = omega arith in
    by (x == first) e (λ h. count_append (suc first) xs ys h (ap (λ n. count_from n ys) same ∙ g))
  where
    by : (b : Bool) → (b && count_from (suc first) xs) ≡ true
        → (count_from (suc first) xs ≡ true → count_from (suc first) (xs ++ ys) ≡ true)
        → (b && count_from (suc first) (xs ++ ys)) ≡ true
    by true e h = h e
    by false e h = absurd cc

-- variables that are opened

if_true : {A : Type 0} (b : Bool) (x y : A) → b ≡ true → (if b then x else y) ≡ x
if_true true x y e = refl
if_true false x y e = absurd cc

either_same : {A : Type 0} (b : Bool) (x y : A) → y ≡ x → (if b then x else y) ≡ x
either_same true x y e = refl
either_same false x y e = e

pub opened_length : (numbers : List ℕ) (first : ℕ) (all vs : List Variable) → length vs ≡ length all
    → length (opened numbers first all vs) ≡ length all
opened_length numbers first [] vs e = refl
opened_length numbers first (d ∷ ds) [] e = absurd cc
opened_length numbers first (d ∷ ds) (v ∷ vs) e = ap suc (opened_length numbers (suc first) ds vs (omega (arith, e)))

-- one that is opened, or was as it is declared
pub opened_at : (numbers : List ℕ) (first : ℕ) (all vs : List Variable) (n k : ℕ) → k ≡ first + n
    → length vs ≡ length all
    → (is_among numbers k ≡ true) ⊎ (get_or vs n no_variable ≡ get_or all n no_variable)
    → get_or (opened numbers first all vs) n no_variable ≡ get_or all n no_variable
opened_at numbers first [] vs n k e same h = refl
opened_at numbers first (d ∷ ds) [] n k e same h = absurd cc
opened_at numbers first (d ∷ ds) (v ∷ vs) zero k e same (inl is) =
    let at : k ≡ first = omega (arith, e) in
    if_true (is_among numbers first) d v (ap (is_among numbers) (sym at) ∙ is)
opened_at numbers first (d ∷ ds) (v ∷ vs) zero k e same (inr is) = either_same (is_among numbers first) d v is
opened_at numbers first (d ∷ ds) (v ∷ vs) (suc n) k e same h =
    opened_at numbers (suc first) ds vs n k (omega (arith, e)) (omega (arith, same)) h

pub within_lengths : (scope : Scope) (numbers : List ℕ) → length scope.variables ≡ length scope.all
    → length (within scope numbers).variables ≡ length (within scope numbers).all
within_lengths scope numbers e = opened_length numbers 0 scope.all scope.variables e

pub within_open : (scope : Scope) (numbers : List ℕ) → length scope.variables ≡ length scope.all
    → AreOpen (within scope numbers) numbers
within_open scope numbers e =
    λ n is. opened_at numbers 0 scope.all scope.variables n n (omega arith) e (inl is)

pub open_within : (scope : Scope) (numbers : List ℕ) → length scope.variables ≡ length scope.all → (n : ℕ)
    → IsOpen scope n → IsOpen (within scope numbers) n
open_within scope numbers e n is =
    opened_at numbers 0 scope.all scope.variables n n (omega arith) e (inr is)
