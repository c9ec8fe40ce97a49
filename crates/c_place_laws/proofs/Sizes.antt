-- Types, their sizes, and the kinds of objects of them.
use Rattle.std.proofs.Common.{◌≡◌, ℕ, ◌%◌, ◌^◌, Bool, true, false, Option, Some, None, List, [], ◌∷◌, refl, ap}
use Rattle.std.proofs.Common.{subst, arith}
use Rattle.std.specs.Prelude.{if◌then◌else◌, ◌==◌, nat_le, option_map}
use Rattle.std.proofs.lemmas.Bool.{eq-eqb}
use Rattle.obj_memory.specs.declared.int_type.IntType.TheVariants.{Int, UnsignedLong}
use Rattle.obj_memory.specs.Integers.{fit, size_of}
use Rattle.c_tree.specs.declared.c_type.TypeWord.{TypeWord}
use Rattle.c_tree.specs.declared.c_type.TypeWord.TheVariants as word
use Rattle.c_tree.specs.declared.expression.Kind.TheVariants as kind
use Rattle.c_tree.specs.Extents.{TypeExtent, extent_of, structure_extent, array_extent}
use Rattle.c_tree.specs.Kinds.{pointer, is_size, size_of_kind}
use Rattle.c_tree.specs.TypesAgree.{kind_of_type, structure_kind}
use Rattle.c_rules.specs.declared.class.Class.TheVariants as class
use Rattle.c_rules.specs.declared.class.Target.{Target}
use Rattle.c_rules.specs.declared.class.Target.TheVariants as target
use Rattle.c_rules.specs.Types.{class_of, object_of, target_of}
use Rattle.c_rules.proofs.TypeKinds.{HasSize, class_kind}
use Rattle.c_rules.proofs.SameTypes.{both_true}
use Rattle.c_place_rules.specs.Targets.{pointee_of, object_kind, constant, qualified}
use Rattle.c_place_rules.specs.Places.{structure_of}

-- an object of a complete type

same_target : (m n : ℕ) → target.Object m ≡ target.Object n → m ≡ n
same_target m n e = cc

pub record Complete (o : Option TypeExtent) (n : ℕ) : Type 0 where
  pub extent : TypeExtent
  pub there : o ≡ Some extent
  pub bytes : extent.size ≡ n

complete_by : (b : Bool) (e : TypeExtent) (n : ℕ)
    → (if b then target.Object e.size else target.Incomplete) ≡ target.Object n → e.size ≡ n
complete_by true e n h = same_target e.size n h
complete_by false e n h = absurd cc

pub complete : (o : Option TypeExtent) (n : ℕ) → object_of o ≡ target.Object n → Complete o n
complete None n h = absurd cc
complete (Some e) n h = record { extent = e; there = refl; bytes = complete_by (is_size e.size) e n h }

pub target_size : (structures : List (Option TypeExtent)) (ws : List TypeWord) (n : ℕ)
    → target_of structures ws ≡ target.Object n → is_size n ≡ true
target_size structures ws n e =
    subst HasSize e (class_kind structures (word.Pointer ∷ ws) pointer refl).1

-- the bytes of its kind

scalar_bytes : (size n : ℕ) → object_of (Some (record { size = size; alignment = size })) ≡ target.Object n → size ≡ n
scalar_bytes size n h = complete_by (is_size size) (record { size = size; alignment = size }) n h

pub kind_bytes : (structures : List (Option TypeExtent)) (ws : List TypeWord) (n : ℕ)
    → target_of structures ws ≡ target.Object n → size_of_kind (object_kind n ws) ≡ n
unfolding extent_of
kind_bytes structures [] n e = absurd cc
kind_bytes structures (word.Void ∷ behind) n e = absurd cc
kind_bytes structures (word.Integer t ∷ behind) n e = scalar_bytes (size_of t) n e
kind_bytes structures (word.Enumeration m ∷ behind) n e = scalar_bytes (size_of Int) n e
kind_bytes structures (word.Pointer ∷ behind) n e = scalar_bytes 8 n e
kind_bytes structures (word.Array count bytes ∷ behind) n e = refl
kind_bytes structures (word.OpenArray ∷ behind) n e = refl
kind_bytes structures (word.Structure m ∷ behind) n e = refl
kind_bytes structures (word.Const ∷ behind) n e = kind_bytes structures behind n e
kind_bytes structures (word.Takes ∷ behind) n e = absurd cc
kind_bytes structures (word.Gives ∷ behind) n e = absurd cc

-- qualifiers change neither size nor kind

pub constant_extent : (structures : List (Option TypeExtent)) (ws : List TypeWord)
    → extent_of structures (constant ws) ≡ extent_of structures ws
unfolding extent_of
constant_extent structures [] = refl
constant_extent structures (word.Void ∷ behind) = refl
constant_extent structures (word.Integer t ∷ behind) = refl
constant_extent structures (word.Enumeration m ∷ behind) = refl
constant_extent structures (word.Pointer ∷ behind) = refl
constant_extent structures (word.Array count bytes ∷ behind) =
    ap (option_map (array_extent bytes)) (constant_extent structures behind)
constant_extent structures (word.OpenArray ∷ behind) = refl
constant_extent structures (word.Structure m ∷ behind) = refl
constant_extent structures (word.Const ∷ behind) = refl
constant_extent structures (word.Takes ∷ behind) = refl
constant_extent structures (word.Gives ∷ behind) = refl

constant_target : (structures : List (Option TypeExtent)) (ws : List TypeWord)
    → target_of structures (constant ws) ≡ target_of structures ws
constant_target structures [] = refl
constant_target structures (word.Void ∷ behind) = refl
constant_target structures (word.Integer t ∷ behind) = refl
constant_target structures (word.Enumeration m ∷ behind) = refl
constant_target structures (word.Pointer ∷ behind) = refl
constant_target structures (word.Array count bytes ∷ behind) =
    ap object_of (constant_extent structures (word.Array count bytes ∷ behind))
constant_target structures (word.OpenArray ∷ behind) = ap object_of
    (constant_extent structures (word.OpenArray ∷ behind))
constant_target structures (word.Structure m ∷ behind) = refl
constant_target structures (word.Const ∷ behind) = refl
constant_target structures (word.Takes ∷ behind) = refl
constant_target structures (word.Gives ∷ behind) = refl

pub qualified_target : (structures : List (Option TypeExtent)) (b : Bool) (ws : List TypeWord)
    → target_of structures (qualified b ws) ≡ target_of structures ws
qualified_target structures true ws = constant_target structures ws
qualified_target structures false ws = refl

-- what a pointer points to

same_pointer : (s t : Target) → class.Pointer s ≡ class.Pointer t → s ≡ t
same_pointer s t e = cc

pub pointee_target : (structures : List (Option TypeExtent)) (ws : List TypeWord) (t : Target)
    → class_of structures ws ≡ class.Pointer t → target_of structures (pointee_of ws) ≡ t
pointee_target structures [] t e = absurd cc
pointee_target structures (word.Void ∷ behind) t e = absurd cc
pointee_target structures (word.Integer i ∷ behind) t e = absurd cc
pointee_target structures (word.Enumeration m ∷ behind) t e = absurd cc
pointee_target structures (word.Pointer ∷ behind) t e = same_pointer (target_of structures behind) t e
pointee_target structures (word.Array count bytes ∷ behind) t e = absurd cc
pointee_target structures (word.OpenArray ∷ behind) t e = absurd cc
pointee_target structures (word.Structure m ∷ behind) t e = absurd cc
pointee_target structures (word.Const ∷ behind) t e = pointee_target structures behind t e
pointee_target structures (word.Takes ∷ behind) t e = absurd cc
pointee_target structures (word.Gives ∷ behind) t e = absurd cc

-- structures by number

same_number : (m n : ℕ) → Some m ≡ Some n → m ≡ n
same_number m n e = cc

pub structure_kind_at : (structures : List (Option TypeExtent)) (ws : List TypeWord) (n : ℕ) → structure_of ws ≡ Some n
    → kind_of_type structures ws ≡ structure_kind (structure_extent structures n)
structure_kind_at structures [] n e = absurd cc
structure_kind_at structures (word.Structure m ∷ behind) n e =
    ap (λ k. structure_kind (structure_extent structures k)) (same_number m n e)
structure_kind_at structures (word.Const ∷ behind) n e = structure_kind_at structures behind n e
structure_kind_at structures (w ∷ behind) n e = absurd cc

pub structure_target : (structures : List (Option TypeExtent)) (ws : List TypeWord) (n : ℕ) → structure_of ws ≡ Some n
    → target_of structures ws ≡ object_of (structure_extent structures n)
unfolding extent_of
structure_target structures [] n e = absurd cc
structure_target structures (word.Structure m ∷ behind) n e =
    ap (λ k. object_of (structure_extent structures k)) (same_number m n e)
structure_target structures (word.Const ∷ behind) n e = structure_target structures behind n e
structure_target structures (w ∷ behind) n e = absurd cc

pub structure_object : (ws : List TypeWord) (n size : ℕ) → structure_of ws ≡ Some n
    → object_kind size ws ≡ kind.Structure size
structure_object [] n size e = absurd cc
structure_object (word.Structure m ∷ behind) n size e = refl
structure_object (word.Const ∷ behind) n size e = structure_object behind n size e
structure_object (w ∷ behind) n size e = absurd cc

-- a size is a word
pub size_fits : (n : ℕ) → is_size n ≡ true → (fit UnsignedLong n == n) ≡ true
unfolding fit
size_fits n e =
    let small : nat_le n (2 ^ 32) ≡ true = (both_true (nat_le 1 n) (nat_le n (2 ^ 32)) e).1 in
    eq-eqb (n % 2 ^ 64) n (grind arith)
