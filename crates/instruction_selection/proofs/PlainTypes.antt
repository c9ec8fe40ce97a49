-- Types and kinds of variables by their numbers.
use Rattle.std.proofs.Common.{◌≡◌, ℕ, zero, suc, ◌+◌, ◌<◌, ◌≤◌, List, [], ◌∷◌, ◌++◌, length, Some, None, ap, sym, refl}
use Rattle.std.proofs.Common.{arith}
use Rattle.std.specs.Prelude.{slice_get}
use Rattle.std.proofs.lemmas.Option.{same_Some, none-some}
use Rattle.c_tree.specs.declared.program.Variable.{Variable}
use Rattle.c_tree.specs.declared.expression.Kind.TheVariants.{Void}
use Rattle.c_tree.specs.Valid.{at_number}
use Rattle.source_meaning.specs.Good.{plain_type}

pub type_before : (ps vs : List Variable) (x : ℕ) → x < length ps → plain_type (ps ++ vs) x ≡ plain_type ps x
type_before [] vs x low = absurd (omega (arith, low))
type_before (p ∷ ps) vs zero low = refl
type_before (p ∷ ps) vs (suc x) low = type_before ps vs x (omega (arith, low))

pub type_behind : (ps vs : List Variable) (x j : ℕ) → x ≡ length ps + j → plain_type (ps ++ vs) x ≡ plain_type vs j
type_behind [] vs x j e = ap (plain_type vs) (omega (arith, e))
type_behind (p ∷ ps) vs zero j e = absurd (omega (arith, e))
type_behind (p ∷ ps) vs (suc x) j e = type_behind ps vs x j (omega (arith, e))

pub type_at : (vs : List Variable) (x : ℕ) (v : Variable) → slice_get vs x ≡ Some v
    → plain_type (v ∷ []) 0 ≡ plain_type vs x
type_at [] x v h = absurd (none-some _ h)
type_at (w ∷ vs) zero v h = ap (λ z. plain_type (z ∷ []) 0) (sym (same_Some _ _ h))
type_at (w ∷ vs) (suc x) v h = type_at vs x v h

pub type_past : (vs : List Variable) (x : ℕ) → length vs ≤ x → plain_type vs x ≡ None
type_past [] x past = refl
type_past (w ∷ vs) zero past = absurd (omega (arith, past))
type_past (w ∷ vs) (suc x) past = type_past vs x (omega (arith, past))

pub kind_before : (ps vs : List Variable) (x : ℕ) → x < length ps
    → (at_number (ps ++ vs) x).kind ≡ (at_number ps x).kind
kind_before [] vs x low = absurd (omega (arith, low))
kind_before (p ∷ ps) vs zero low = refl
kind_before (p ∷ ps) vs (suc x) low = kind_before ps vs x (omega (arith, low))

pub kind_behind : (ps vs : List Variable) (x j : ℕ) → x ≡ length ps + j
    → (at_number (ps ++ vs) x).kind ≡ (at_number vs j).kind
kind_behind [] vs x j e = ap (λ n. (at_number vs n).kind) (omega (arith, e))
kind_behind (p ∷ ps) vs zero j e = absurd (omega (arith, e))
kind_behind (p ∷ ps) vs (suc x) j e = kind_behind ps vs x j (omega (arith, e))

pub kind_at : (vs : List Variable) (x : ℕ) (v : Variable) → slice_get vs x ≡ Some v → v.kind ≡ (at_number vs x).kind
kind_at [] x v h = absurd (none-some _ h)
kind_at (w ∷ vs) zero v h = ap (λ z. z.kind) (sym (same_Some _ _ h))
kind_at (w ∷ vs) (suc x) v h = kind_at vs x v h

pub kind_past : (vs : List Variable) (x : ℕ) → length vs ≤ x → (at_number vs x).kind ≡ Void
kind_past [] x past = refl
kind_past (w ∷ vs) zero past = absurd (omega (arith, past))
kind_past (w ∷ vs) (suc x) past = kind_past vs x (omega (arith, past))
