-- An access of an lvalue is admitted, and a structure value that is moved is there.
use Rattle.std.proofs.Common.{◌≡◌, ℕ, ◌+◌, Option, Some, None, Bool, true, false, refl, ap, ◌∙◌, subst}
use Rattle.std.proofs.Common.{le-leb}
use Rattle.std.specs.Prelude.{◌&&◌, nat_le}
use Rattle.obj_memory.specs.declared.value.Value.{Value}
use Rattle.obj_memory.specs.Objects.{ObjectState, Objects, object_at}
use Rattle.obj_memory.specs.Access.{scalar_size}
use Rattle.c_tree.specs.declared.expression.Kind.{Kind}
use Rattle.c_tree.specs.declared.expression.Kind.TheVariants.{Void, Scalar as OfScalar, Structure, Array}
use Rattle.c_tree.specs.Kinds.{size_of_kind}
use Rattle.c_tree.specs.Tree.{Lvalue}
use Rattle.source_meaning.specs.State.{Rvalue}
use Rattle.source_meaning.specs.Actions.{scalar_of}
use Rattle.source_meaning.specs.Structures.{rvalue}
use Rattle.source_meaning.specs.Expressions.{is_judged}
use Rattle.source_meaning.specs.Keeping.{LivesOn, IsDirect}
use Rattle.source_meaning.proofs.Naming.{IsNoStructure}
use Rattle.source_meaning.specs.Good.{Basis, OnName, OnPointer, OnValue, basis_of, on_pointer, StructureIs, ValueIs}
use Rattle.source_meaning.specs.Good.{RvalueReach}
use Rattle.source_meaning.proofs.Holding.{named_on}
use Rattle.c_tree.specs.declared.expression.Update.{Update}
use Rattle.c_tree.specs.Valid.{Scope}
use Rattle.source_meaning.proofs.Naming.{IsScalar, IsWritable, PlainNames, UpdatesKind}
use Rattle.source_meaning.proofs.SureTree.{judged_is}
use Rattle.tac_ir.specs.Stage.{Stage}
use Rattle.tac_ir.specs.Accesses.{only_if, is_live_by, is_live_at, is_there, is_place, admitted, moved_from, is_through}
use Rattle.c_lower.specs.Values.{mode_for}

pub through_is : (j : Bool) → is_through (mode_for j) ≡ j
through_is true = refl
through_is false = refl

-- a pointer to bytes of a live object
pub direct_is_live : (objects : Objects) (v : Value) (size : ℕ) → IsDirect objects v size
    → is_live_at size v objects ≡ true
direct_is_live objects v size h =
    ap (λ t. is_live_by t v.word size objects) h.tag
    ∙ ap (λ q. q && (nat_le (object_at objects h.object).address v.word
    && nat_le (v.word + size) ((object_at objects h.object).address + (object_at objects h.object).size))) h.live
    ∙ ap (λ q. q && nat_le (v.word + size) ((object_at objects h.object).address + (object_at objects h.object).size))
    (le-leb _ _ h.start)
    ∙ le-leb _ _ h.end

structure_is_there : (fc : ℕ) (c : Option ObjectState) (size : ℕ) (v : Value) (objects : Objects)
    → StructureIs fc size c v objects → is_there c size v objects ≡ true
structure_is_there fc None size v objects h = direct_is_live objects v size h
structure_is_there fc (Some c) size v objects h = le-leb _ _ h.room

admitted_by : (fc : ℕ) (b : Basis) (size : ℕ) (q : Rvalue) (objects : Objects)
    → RvalueReach fc b size q.contents q.value objects → (next : Stage)
    → admitted (mode_for (on_pointer b)) size q objects next ≡ next
admitted_by fc OnName size q objects h next = ap (λ c. only_if (is_there c size q.value objects) next) h.0
    ∙ ap (λ b. only_if b next) (direct_is_live objects q.value size h.1.direct)
admitted_by fc OnPointer size q objects h next = ap (λ c. only_if (is_place c) next) h
admitted_by fc OnValue size q objects h next = ap (λ b. only_if b next)
    (structure_is_there fc q.contents size q.value objects h)

pub access_opens : (fc : ℕ) (p : Lvalue) (size : ℕ) (q : Rvalue) (objects : Objects)
    → RvalueReach fc (basis_of p) size q.contents q.value objects → (next : Stage)
    → admitted (mode_for (is_judged p)) size q objects next ≡ next
access_opens fc p size q objects h next = ap (λ j. admitted (mode_for j) size q objects next) (judged_is p)
    ∙ admitted_by fc (basis_of p) size q objects h next

pub value_moves : (fc : ℕ) (kind : Kind) (v : Rvalue) (objects : Objects) → ValueIs fc kind v objects → (next : Stage)
    → moved_from kind v objects next ≡ next
value_moves fc Void v objects h next = refl
value_moves fc (OfScalar k) v objects h next = refl
value_moves fc (Structure n) v objects h next = ap (λ b. only_if b next)
    (structure_is_there fc v.contents n v.value objects h.structure)
value_moves fc (Array n) v objects h next = refl

-- what an lvalue reaches that may be written it reaches later too
pub reach_later : (fc : ℕ) (b : Basis) → IsWritable b → (size : ℕ) (q : Rvalue) (old new : Objects) → LivesOn old new
    → RvalueReach fc b size q.contents q.value old → RvalueReach fc b size q.contents q.value new
reach_later fc OnName w size q old new l h = (h.0, named_on old new l q.value size h.1)
reach_later fc OnPointer w size q old new l h = h
reach_later fc OnValue w size q old new l h = absurd w

pub scalar_bytes : (kind : Kind) → IsScalar kind → size_of_kind kind ≡ scalar_size (scalar_of kind)
scalar_bytes Void h = absurd h
scalar_bytes (OfScalar k) h = refl
scalar_bytes (Structure n) h = absurd h
scalar_bytes (Array n) h = absurd h

pub reach_scalar : (fc : ℕ) (b : Basis) (kind : Kind) → IsScalar kind → (q : Rvalue) (objects : Objects)
    → RvalueReach fc b (size_of_kind kind) q.contents q.value objects
    → RvalueReach fc b (scalar_size (scalar_of kind)) q.contents q.value objects
reach_scalar fc b kind h q objects r = subst (λ n. RvalueReach fc b n q.contents q.value objects)
    (scalar_bytes kind h) r

-- what is updated is a scalar, and a plain variable is no structure

pub updates_scalar : (u : Update) (kind : Kind) → UpdatesKind u kind → IsScalar kind
updates_scalar u Void h = absurd h
updates_scalar u (OfScalar k) h = tt
updates_scalar u (Structure n) h = absurd h
updates_scalar u (Array n) h = absurd h

pub plain_is_no_structure : (sc : Scope) (x : ℕ) (kind : Kind) → PlainNames sc x kind → IsNoStructure kind
plain_is_no_structure sc x Void h = absurd h
plain_is_no_structure sc x (OfScalar k) h = tt
plain_is_no_structure sc x (Structure n) h = absurd h
plain_is_no_structure sc x (Array n) h = absurd h

-- a value that is no structure has no contents

pub without_contents : (v : Rvalue) → v.contents ≡ None → v ≡ rvalue v.value
without_contents v h = ap (λ c. record { value = v.value; contents = c }) h

pub plain_contents : (fc : ℕ) (kind : Kind) (v : Rvalue) (objects : Objects) → IsNoStructure kind
    → ValueIs fc kind v objects → v ≡ rvalue v.value
plain_contents fc Void v objects n h = without_contents v h.structure
plain_contents fc (OfScalar k) v objects n h = without_contents v h.structure
plain_contents fc (Structure size) v objects n h = absurd n
plain_contents fc (Array size) v objects n h = without_contents v h.structure

-- nor has what an lvalue that may be written reaches
pub reach_contents : (fc : ℕ) (b : Basis) → IsWritable b → (size : ℕ) (q : Rvalue) (objects : Objects)
    → RvalueReach fc b size q.contents q.value objects → q ≡ rvalue q.value
reach_contents fc OnName w size q objects h = without_contents q h.0
reach_contents fc OnPointer w size q objects h = without_contents q h
reach_contents fc OnValue w size q objects h = absurd w
