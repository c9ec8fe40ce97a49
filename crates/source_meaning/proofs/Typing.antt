-- Plain variables hold values of their types, where a block is entered and where a function is.
use Rattle.std.proofs.Common.{◌≡◌, ℕ, zero, suc, ◌<◌, List, [], ◌∷◌, ◌++◌, map, length, Bool, true, false}
use Rattle.std.proofs.Common.{if◌then◌else◌, Option, Some, None, get_or, refl, subst, arith}
use Rattle.obj_memory.specs.declared.value.Scalar.{Scalar}
use Rattle.obj_memory.specs.declared.value.Value.{Value}
use Rattle.obj_memory.specs.Objects.{Objects}
use Rattle.c_tree.specs.declared.expression.Kind.{Kind}
use Rattle.c_tree.specs.declared.expression.Kind.TheVariants.{Void, Scalar as OfScalar, Structure, Array}
use Rattle.c_tree.specs.declared.program.Variable.{Variable}
use Rattle.c_tree.specs.Blocks.{no_variable, closed, is_among, opened}
use Rattle.source_meaning.specs.State.{Rvalue}
use Rattle.source_meaning.specs.Actions.{integer}
use Rattle.source_meaning.specs.Calls.{rest_of, parameter_values}
use Rattle.source_meaning.specs.Good.{IsOfKind, IsOfType, scalar_if, plain_type, ArgumentsAre}
use Rattle.source_meaning.proofs.Naming.{kinds_in}
use Rattle.source_meaning.proofs.Sure.{zero_of_type}

-- the plain variables of some variables have the types that they have in others
abbrev pub AreAs : (vs all : List Variable) → Type 0
AreAs vs all = (x : ℕ) (k : Scalar) → plain_type vs x ≡ Some k → plain_type all x ≡ Some k

zero_less : (n : ℕ) → 0 < suc n
zero_less n = omega arith

less_suc : (m n : ℕ) → m < n → suc m < suc n
less_suc m n le = omega (arith, le)

no_type : {A : Type 0} {k : Scalar} → None ≡ Some k → A
no_type e = absurd (cc)

type_of : Variable → Option Scalar
type_of v = if v.is_object then None else scalar_if v.kind

-- where a block is entered

first_as : (here : Bool) (d v : Variable) (ds : List Variable) (k : Scalar)
    → (plain_type (v ∷ []) 0 ≡ Some k → plain_type (d ∷ []) 0 ≡ Some k)
    → plain_type ((if here then d else v) ∷ []) 0 ≡ Some k → plain_type (d ∷ []) 0 ≡ Some k
first_as true d v ds k h e = e
first_as false d v ds k h e = h e

pub opened_as : (numbers : List ℕ) (first : ℕ) (all vs : List Variable) → AreAs vs all
    → AreAs (opened numbers first all vs) all
opened_as numbers first [] vs h x k e = no_type e
opened_as numbers first (d ∷ ds) [] h x k e = no_type e
opened_as numbers first (d ∷ ds) (v ∷ vs) h zero k e = first_as (is_among numbers first) d v ds k (λ f. h 0 k f) e
opened_as numbers first (d ∷ ds) (v ∷ vs) h (suc x) k e =
    opened_as numbers (suc first) ds vs (λ y l f. h (suc y) l f) x k e

-- variables of which no object is entered

closed_by : (d : Variable) (b : Bool) → d.is_object ≡ b → (k : Scalar)
    → plain_type ((if b then no_variable else d) ∷ []) 0 ≡ Some k → plain_type (d ∷ []) 0 ≡ Some k
closed_by d true o k e = no_type e
closed_by d false o k e = e

closed_first : (d : Variable) (k : Scalar) → plain_type (closed d ∷ []) 0 ≡ Some k → plain_type (d ∷ []) 0 ≡ Some k
closed_first d k e = closed_by d d.is_object refl k e

closed_as : (ds : List Variable) → AreAs (map closed ds) ds
closed_as [] x k e = e
closed_as (d ∷ ds) zero k e = closed_first d k e
closed_as (d ∷ ds) (suc x) k e = closed_as ds x k e

behind_as : (ps vs all : List Variable) → AreAs vs all → AreAs (ps ++ vs) (ps ++ all)
behind_as [] vs all h x k e = h x k e
behind_as (p ∷ ps) vs all h zero k e = e
behind_as (p ∷ ps) vs all h (suc x) k e = behind_as ps vs all h x k e

-- where a function is entered
pub entered_as : (ps ds : List Variable) (numbers : List ℕ)
    → AreAs (ps ++ opened numbers (length ps) ds (map closed ds)) (ps ++ ds)
entered_as ps ds numbers =
    behind_as ps (opened numbers (length ps) ds (map closed ds)) ds
    (opened_as numbers (length ps) ds (map closed ds) (closed_as ds))

-- the plain values of a call

zeros_there : (vs : List Variable) (x : ℕ) (k : Scalar) → plain_type vs x ≡ Some k
    → x < length (map (λ _. integer 0) vs)
zeros_there [] x k e = no_type e
zeros_there (v ∷ vs) zero k e = zero_less (length (map (λ _. integer 0) vs))
zeros_there (v ∷ vs) (suc x) k e = less_suc x (length (map (λ _. integer 0) vs)) (zeros_there vs x k e)

-- each plain variable is there
pub values_there : (ps rest : List Variable) (vs : List Rvalue) (x : ℕ) (k : Scalar)
    → plain_type (ps ++ rest) x ≡ Some k → x < length (parameter_values ps vs ++ map (λ _. integer 0) rest)
values_there [] rest vs x k e = zeros_there rest x k e
values_there (p ∷ ps) rest vs zero k e =
    zero_less (length (parameter_values ps (rest_of vs) ++ map (λ _. integer 0) rest))
values_there (p ∷ ps) rest vs (suc x) k e =
    less_suc x (length (parameter_values ps (rest_of vs) ++ map (λ _. integer 0) rest))
    (values_there ps rest (rest_of vs) x k e)

zeros_typed : (functions : ℕ) (vs : List Variable) (x : ℕ) (k : Scalar)
    → IsOfType functions k (get_or (map (λ _. integer 0) vs) x (integer 0))
zeros_typed functions [] x k = zero_of_type functions k
zeros_typed functions (v ∷ vs) zero k = zero_of_type functions k
zeros_typed functions (v ∷ vs) (suc x) k = zeros_typed functions vs x k

kind_typed : (functions : ℕ) (kind : Kind) (v : Value) (k : Scalar) → scalar_if kind ≡ Some k
    → IsOfKind functions kind v → IsOfType functions k v
kind_typed functions Void v k e h = no_type e
kind_typed functions (OfScalar s) v k e h = let same : s ≡ k = cc in subst (λ z. IsOfType functions z v) same h
kind_typed functions (Structure n) v k e h = no_type e
kind_typed functions (Array n) v k e h = no_type e

parameter_typed : (functions : ℕ) (b : Bool) (kind : Kind) (v : Value) (k : Scalar)
    → (if b then None else scalar_if kind) ≡ Some k → IsOfKind functions kind v
    → IsOfType functions k (if b then integer 0 else v)
parameter_typed functions true kind v k e h = no_type e
parameter_typed functions false kind v k e h = kind_typed functions kind v k e h

pub values_typed : (functions : ℕ) (ps rest : List Variable) (vs : List Rvalue) (o : Objects)
    → ArgumentsAre functions (kinds_in ps) vs o
    → (x : ℕ) (k : Scalar) → plain_type (ps ++ rest) x ≡ Some k
    → IsOfType functions k (get_or (parameter_values ps vs ++ map (λ _. integer 0) rest) x (integer 0))
values_typed functions [] rest vs o h x k e = zeros_typed functions rest x k
values_typed functions (p ∷ ps) rest [] o h x k e = absurd h
values_typed functions (p ∷ ps) rest (v ∷ vs) o h zero k e =
    parameter_typed functions p.is_object p.kind v.value k e h.0.word
values_typed functions (p ∷ ps) rest (v ∷ vs) o h (suc x) k e = values_typed functions ps rest vs o h.1 x k e
