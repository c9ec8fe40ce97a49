-- The objects of a block are those of its variables that are objects.
use Rattle.std.proofs.Common.{◌≡◌, ℕ, zero, suc, ◌+◌, Bool, true, false, List, [], ◌∷◌, map, refl, sym, ap, ◌∙◌}
use Rattle.std.proofs.Common.{arith, ◌<◌, eq-eqb, ne_eqb}
use Rattle.std.specs.Prelude.{slice_get, ◌||◌, ◌&&◌, ◌==◌, if◌then◌else◌}
use Rattle.std.proofs.Math.Bool.{or-false}
use Rattle.c_tree.specs.declared.program.Variable.{Variable}
use Rattle.c_tree.specs.Blocks.{no_variable, closed, is_among, opened, block_objects}
use Rattle.source_meaning.specs.Blocks.{has_objects}
use Rattle.program_lowering.specs.StatementParts.Objects.{if_object, is_object, any_object}

-- whether a variable from a number on is among some numbers and an object
abbrev found_from : (numbers : List ℕ) → (first : ℕ) → List Variable → Bool
found_from ns x [] = false
found_from ns x (v ∷ vs) = (is_among ns x && v.is_object) || found_from ns (suc x) vs

-- what stands at the place of a variable is an object where it is among them and is one
one_opened : (b : Bool) (v : Variable) → (if b then v else closed v).is_object ≡ b && v.is_object
one_opened true v = refl
one_opened false v = shut v v.is_object refl
  where
    shut : (v : Variable) (o : Bool) → v.is_object ≡ o → (closed v).is_object ≡ false
    shut v true e = ap (λ b. (if b then no_variable else v).is_object) e
    shut v false e = ap (λ b. (if b then no_variable else v).is_object) e ∙ e

opened_from : (ns : List ℕ) (x : ℕ) (vs : List Variable) → has_objects (opened ns x vs (map closed vs))
    ≡ found_from ns x vs
opened_from ns x [] = refl
opened_from ns x (v ∷ vs) =
    ap (λ b. b || has_objects (opened ns (suc x) vs (map closed vs))) (one_opened (is_among ns x) v)
    ∙ ap (λ b. (is_among ns x && v.is_object) || b) (opened_from ns (suc x) vs)

-- of one number, and of the others
abbrev one_from : (number : ℕ) → (first : ℕ) → List Variable → Bool
one_from n x [] = false
one_from n x (v ∷ vs) = ((n == x) && v.is_object) || one_from n (suc x) vs

none_from : (x : ℕ) (vs : List Variable) → found_from [] x vs ≡ false
none_from x [] = refl
none_from x (v ∷ vs) = none_from (suc x) vs

spread : (a b o p q : Bool) → ((a || b) && o) || (p || q) ≡ ((a && o) || p) || ((b && o) || q)
spread true b true p q = refl
spread true true false p q = refl
spread true false false p q = refl
spread false true true true q = refl
spread false true true false q = refl
spread false true false p q = refl
spread false false o p q = refl

split_from : (n : ℕ) (ns : List ℕ) (x : ℕ) (vs : List Variable)
    → found_from (n ∷ ns) x vs ≡ one_from n x vs || found_from ns x vs
split_from n ns x [] = refl
split_from n ns x (v ∷ vs) =
    ap (λ b. (((n == x) || is_among ns x) && v.is_object) || b) (split_from n ns (suc x) vs)
    ∙ spread (n == x) (is_among ns x) v.is_object (one_from n (suc x) vs) (found_from ns (suc x) vs)

-- a number below is found nowhere
below : (n x : ℕ) (vs : List Variable) → n < x → one_from n x vs ≡ false
below n x [] lt = refl
below n x (v ∷ vs) lt =
    ap (λ b. (b && v.is_object) || one_from n (suc x) vs) (ne_eqb n x (λ e. omega (arith, e, lt)))
    ∙ below n (suc x) vs (omega (arith, lt))

place_from : (x k : ℕ) (vs : List Variable) → one_from (x + k) x vs ≡ if_object (slice_get vs k)
place_from x k [] = refl
place_from x zero (v ∷ vs) =
    ap (λ b. (b && v.is_object) || one_from (x + 0) (suc x) vs) (eq-eqb (x + 0) x (omega arith))
    ∙ ap (λ b. v.is_object || b) (below (x + 0) (suc x) vs (omega arith))
    ∙ or-false v.is_object
place_from x (suc k) (v ∷ vs) =
    let at : x + suc k ≡ suc x + k = omega arith in
    ap (λ b. (b && v.is_object) || one_from (x + suc k) (suc x) vs)
    (ne_eqb (x + suc k) x (λ e. omega (arith, e)))
    ∙ ap (λ n. one_from n (suc x) vs) at
    ∙ place_from (suc x) k vs

any_found : (vs : List Variable) (ns : List ℕ) → any_object vs ns ≡ found_from ns 0 vs
any_found vs [] = sym (none_from 0 vs)
any_found vs (n ∷ ns) =
    let at : 0 + n ≡ n = omega arith in
    let one : is_object vs n ≡ one_from n 0 vs = sym (place_from 0 n vs) ∙ ap (λ m. one_from m 0 vs) at in
    ap (λ b. b || any_object vs ns) one ∙ ap (λ b. one_from n 0 vs || b) (any_found vs ns)
    ∙ sym (split_from n ns 0 vs)

pub any_is : (vs : List Variable) (ns : List ℕ) → any_object vs ns ≡ has_objects (block_objects vs ns)
any_is vs ns = any_found vs ns ∙ sym (opened_from ns 0 vs)
