-- Where the registers of variables, homes and temporaries stand: in this order, and apart from each other.
use Rattle.std.proofs.Common.{◌≡◌, ◌≢◌, ◌⊎◌, ⊎_elim, inl, inr, ℕ, zero, suc, ◌+◌, ◌<◌, ◌≤◌, Bool, true, false, List, []}
use Rattle.std.proofs.Common.{◌∷◌, ◌++◌, Some, None, ap, arith}
use Rattle.std.specs.Prelude.{if◌then◌else◌}
use Rattle.std.proofs.lemmas.Bool.{cases_lt}
use Rattle.obj_memory.specs.declared.value.Scalar.{Scalar}
use Rattle.obj_memory.specs.declared.value.Scalar.TheVariants.{Integer, Pointer}
use Rattle.c_tree.specs.declared.expression.Kind.{Kind}
use Rattle.c_tree.specs.declared.expression.Kind.TheVariants.{Void, Scalar as OfScalar, Structure, Array}
use Rattle.c_tree.specs.declared.program.Variable.{Variable}
use Rattle.source_meaning.specs.Good.{plain_type, scalar_if}
use Rattle.tac_ir.specs.declared.function.CodeFunction.{CodeFunction}
use Rattle.runtime_functions.specs.Library.{register_count}
use Rattle.metadata_plan.specs.Registers.{words_of, all_variables, most_temporaries}
use Rattle.metadata_relation.specs.Registers.{passed_as, parameter_words, variable_words, home_words, total, before}
use Rattle.metadata_relation.specs.Registers.{register_in, variable_register, variables_end, home_register, homes_end}
use Rattle.metadata_relation.specs.Registers.{temporary_register, first_free}
use Rattle.metadata_relation.specs.Holding.{is_object_in, is_pointer_type}

-- how many registers a value has: with its entry five
abbrev pub count_of : (with_entry : Bool) → ℕ
count_of true = 5
count_of false = 1

abbrev pub count_in : Scalar → ℕ
count_in k = count_of (is_pointer_type k)

pub few_in : (b : Bool) → count_of b ≤ 5
few_in true = omega arith
few_in false = omega arith

pub some_in : (b : Bool) → 1 ≤ count_of b
some_in true = omega arith
some_in false = omega arith

-- ---- one list of variables

none_some : {A : Type 0} {P : Type 0} (a : A) → None ≡ Some a → P
none_some a e = cc

same_scalar : (k l : Scalar) → Some k ≡ Some l → k ≡ l
same_scalar k l e = cc

-- a plain variable of a type has the words of a value of it, also where it is a parameter
kind_words : (kind : Kind) (k : Scalar) → scalar_if kind ≡ Some k
    → (words_of kind ≡ count_in k) × (register_count (passed_as kind) ≡ count_in k)
kind_words Void k e = none_some k e
kind_words (OfScalar (Integer t)) k e =
    let same : count_in (Integer t) ≡ count_in k = ap count_in (same_scalar (Integer t) k e) in (same, same)
kind_words (OfScalar Pointer) k e =
    let same : count_in Pointer ≡ count_in k = ap count_in (same_scalar Pointer k e) in (same, same)
kind_words (Structure n) k e = none_some k e
kind_words (Array n) k e = none_some k e

pub scalar_words : (kind : Kind) (k : Scalar) → kind ≡ OfScalar k → register_count (passed_as kind) ≡ count_in k
scalar_words kind k e = (kind_words kind k (ap scalar_if e)).1

pub plain_words : (v : Variable) (k : Scalar) → (if v.is_object then None else scalar_if v.kind) ≡ Some k
    → (variable_words v ≡ count_in k) × (parameter_words v ≡ count_in k)
plain_words v k e = by v.is_object e
  where
    by : (b : Bool) → (if b then None else scalar_if v.kind) ≡ Some k
        → ((if b then 0 else words_of v.kind) ≡ count_in k) × (parameter_words v ≡ count_in k)
    by true e = none_some k e
    by false e = kind_words v.kind k e

before_low : (vs : List Variable) (x : ℕ) (k : Scalar) → plain_type vs x ≡ Some k
    → before variable_words x vs + count_in k ≤ total variable_words vs
before_low [] x k e = none_some k e
before_low (v ∷ vs) zero k e = let w = plain_words v k e in omega (arith, w.0)
before_low (v ∷ vs) (suc x) k e = omega (arith, before_low vs x k e)

-- two plain variables have registers of their own
before_apart : (vs : List Variable) (x y : ℕ) (k : Scalar) → plain_type vs x ≡ Some k → x < y
    → before variable_words x vs + count_in k ≤ before variable_words y vs
before_apart [] x y k e lt = none_some k e
before_apart (v ∷ vs) x zero k e lt = absurd (omega arith)
before_apart (v ∷ vs) zero (suc y) k e lt = let w = plain_words v k e in omega (arith, w.0)
before_apart (v ∷ vs) (suc x) (suc y) k e lt = omega (arith, before_apart vs x y k e (omega arith))

-- ---- parameters and variables

register_low : (ps vs : List Variable) (x : ℕ) (k : Scalar) → plain_type (ps ++ vs) x ≡ Some k
    → register_in ps vs x + count_in k ≤ total parameter_words ps + 1 + total variable_words vs
register_low [] vs x k e = omega (arith, before_low vs x k e)
register_low (p ∷ ps) vs zero k e = let w = plain_words p k e in omega (arith, w.1)
register_low (p ∷ ps) vs (suc x) k e = omega (arith, register_low ps vs x k e)

register_apart : (ps vs : List Variable) (x y : ℕ) (k : Scalar) → plain_type (ps ++ vs) x ≡ Some k → x < y
    → register_in ps vs x + count_in k ≤ register_in ps vs y
register_apart [] vs x y k e lt = omega (arith, before_apart vs x y k e lt)
register_apart (p ∷ ps) vs x zero k e lt = absurd (omega arith)
register_apart (p ∷ ps) vs zero (suc y) k e lt = let w = plain_words p k e in omega (arith, w.1)
register_apart (p ∷ ps) vs (suc x) (suc y) k e lt =
    omega (arith, register_apart ps vs x y k e (omega arith))

pub variable_low : (c : CodeFunction) (x : ℕ) (k : Scalar) → plain_type (all_variables c) x ≡ Some k
    → variable_register c x + count_in k ≤ variables_end c
variable_low c x k e = register_low c.parameters c.variables x k e

-- one lies before the other, or behind it
pub variables_apart : (c : CodeFunction) (x y : ℕ) (k l : Scalar) → plain_type (all_variables c) x ≡ Some k
    → plain_type (all_variables c) y ≡ Some l → x ≢ y
    → (variable_register c x + count_in k ≤ variable_register c y)
    ⊎ (variable_register c y + count_in l ≤ variable_register c x)
variables_apart c x y k l e f ne = ⊎_elim
    (λ below. inl (register_apart c.parameters c.variables x y k e below))
    (λ above. ⊎_elim (λ more. inr (register_apart c.parameters c.variables y x l f more))
    (λ same. absurd (ne (omega arith))) (cases_lt y x))
    (cases_lt x y)

-- ---- homes and temporaries

home_before : (vs : List Variable) (x : ℕ) → is_object_in vs x ≡ true
    → before home_words x vs + 5 ≤ total home_words vs
home_before [] x e = cc
home_before (v ∷ vs) zero e = let w : home_words v ≡ 5 = ap (λ b. if b then 5 else 0) e in omega (arith, w)
home_before (v ∷ vs) (suc x) e = omega (arith, home_before vs x e)

pub home_low : (c : CodeFunction) (x : ℕ) → is_object_in (all_variables c) x ≡ true
    → home_register c x + 5 ≤ homes_end c
home_low c x e = omega (arith, home_before (all_variables c) x e)

pub temporary_free : (c : CodeFunction) (i : ℕ) → i < most_temporaries c.code
    → temporary_register c i + 5 ≤ first_free c
temporary_free c i lt = omega arith

pub temporaries_apart : (c : CodeFunction) (i d : ℕ) → i ≢ d
    → (temporary_register c i + 5 ≤ temporary_register c d) ⊎ (temporary_register c d + 5 ≤ temporary_register c i)
temporaries_apart c i d ne = ⊎_elim
    (λ below. inl (omega arith))
    (λ above. ⊎_elim (λ more. inr (omega arith)) (λ same. absurd (ne (omega arith))) (cases_lt d i))
    (cases_lt i d)
