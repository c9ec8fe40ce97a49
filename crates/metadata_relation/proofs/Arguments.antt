-- What registers hold of an argument: of a scalar what they do of a plain variable, and of a structure the part that is all
-- of its contents.
use Rattle.std.proofs.Common.{◌≡◌, ℕ, zero, suc, ◌+◌, ◌<◌, true, List, [], ◌∷◌, length, map, get_or, Some}
use Rattle.std.proofs.Common.{refl, subst, arith}
use Rattle.obj_memory.specs.declared.value.Scalar.{Scalar}
use Rattle.obj_memory.specs.declared.value.Scalar.TheVariants.{Integer, Pointer}
use Rattle.obj_memory.specs.Objects.{Objects, ObjectState}
use Rattle.c_tree.specs.declared.expression.Kind.{Kind}
use Rattle.c_tree.specs.declared.expression.Kind.TheVariants.{Void, Scalar as OfScalar, Structure, Array}
use Rattle.c_tree.specs.declared.program.Variable.{Variable}
use Rattle.source_meaning.specs.State.{Rvalue}
use Rattle.flat_code.specs.Memory.{Bytes}
use Rattle.flat_code.specs.State as flat
use Rattle.flat_code.specs.Routines.Objects.StandsFor.{Keys, Views}
use Rattle.runtime_functions.specs.Library.{register_count}
use Rattle.metadata_relation.specs.Holding.{GoesOn, IsContentsAt, IsPlain, World, world_of}
use Rattle.metadata_relation.specs.Registers.{passed_as}
use Rattle.metadata_relation.proofs.Holding.{contents_on, plain_on}
use Rattle.metadata_relation.proofs.Packing.{words_at}

-- all contents of a structure, which may stand anywhere among the areas
pub record IsStructureArgument (w : World) (size : ℕ) (v : Rvalue) (register : ℕ) (values : flat.Values) : Type 0 where
  pub contents : ObjectState
  pub is : v.contents ≡ Some contents
  pub exact : contents.size ≡ size
  pub all : v.value.word ≡ 0
  pub area : ℕ
  pub held : IsContentsAt w true v.value contents contents.size area register values

abbrev pub IsArgumentBy : World → Rvalue → (register : ℕ) → flat.Values → Kind → Type 0
IsArgumentBy w v r values Void = Unit {0}
IsArgumentBy w v r values (OfScalar t) = IsPlain w t v.value r values
IsArgumentBy w v r values (Structure size) = IsStructureArgument w size v r values
IsArgumentBy w v r values (Array size) = Unit {0}

pub record IsArgument (w : World) (kind : Kind) (v : Rvalue) (register : ℕ) (values : flat.Values) : Type 0 where
  pub by : IsArgumentBy w v register values kind

pub plain_argument : (w : World) (kind : Kind) (t : Scalar) (v : Rvalue) (r : ℕ) (values : flat.Values)
    → kind ≡ OfScalar t → IsArgument w kind v r values → IsPlain w t v.value r values
plain_argument w kind t v r values is h = subst (IsArgumentBy w v r values) is h.by

pub structure_argument : (w : World) (kind : Kind) (size : ℕ) (v : Rvalue) (r : ℕ) (values : flat.Values)
    → kind ≡ Structure size → IsArgument w kind v r values → IsStructureArgument w size v r values
structure_argument w kind size v r values is h = subst (IsArgumentBy w v r values) is h.by

-- the words of a parameter are those of its kind
pub words_by_kind : (ps : List Variable) (x : ℕ) → x < length ps
    → words_at ps x ≡ register_count (passed_as (get_or (map (λ (p : Variable). p.kind) ps) x Void))
words_by_kind [] x lt = absurd (omega arith)
words_by_kind (p ∷ ps) zero lt = refl
words_by_kind (p ∷ ps) (suc x) lt = words_by_kind ps x (omega arith)

-- an argument stays one
pub argument_on : (g : Views) (k k' : Keys) (old new : Objects) (m m' : Bytes) → GoesOn g k k' old new m m'
    → (kind : Kind) (v : Rvalue) (r : ℕ) (values after : flat.Values)
    → ((j : ℕ) → j < register_count (passed_as kind) → after (r + j) ≡ values (r + j))
    → IsArgument (world_of g k old m) kind v r values → IsArgument (world_of g k' new m') kind v r after
argument_on g k k' old new m m' on kind v r values after same h = record { by = by kind same h.by }
  where
    by : (kind : Kind) → ((j : ℕ) → j < register_count (passed_as kind) → after (r + j) ≡ values (r + j))
        → IsArgumentBy (world_of g k old m) v r values kind → IsArgumentBy (world_of g k' new m') v r after kind
    by Void same h = tt
    by (OfScalar (Integer t)) same h = plain_on g k k' old new m m' on (Integer t) v.value r values after same h
    by (OfScalar Pointer) same h = plain_on g k k' old new m m' on Pointer v.value r values after same h
    by (Structure size) same h = record {
      contents = h.contents;
      is = h.is;
      exact = h.exact;
      all = h.all;
      area = h.area;
      held = contents_on g k k' old new m m' on true v.value h.contents h.contents.size h.area r values after
          h.held.place.first same h.held;
    }
    by (Array size) same h = tt
