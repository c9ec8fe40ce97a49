-- The object that a key begins with is named where its lvalue is valid, and so it is there in a good state.
use Rattle.std.proofs.Common.{◌≡◌, ℕ, zero, suc, ◌<◌, List, [], ◌∷◌, Option, Some, None, Bool, true, false, refl, sym}
use Rattle.std.proofs.Common.{ap, ◌∙◌, arith, eq-eqb}
use Rattle.std.specs.Prelude.{◌&&◌, length, get_or, slice_get, nat_lt, if◌then◌else◌}
use Rattle.std.proofs.lemmas.Bool.{ltb-true}
use Rattle.obj_memory.specs.declared.value.Scalar.TheVariants.{Integer, Pointer}
use Rattle.obj_memory.specs.Objects.{ObjectState, object_at}
use Rattle.c_tree.specs.declared.program.Variable.{Variable}
use Rattle.c_tree.specs.declared.expression.Kind.{Kind}
use Rattle.c_tree.specs.declared.expression.Kind.TheVariants.{Void, Scalar as OfScalar, Structure, Array}
use Rattle.c_tree.specs.declared.expression.OffsetForm.TheVariants.{PointerPlusIndex, IndexPlusPointer}
use Rattle.c_tree.specs.declared.expression.OffsetForm.TheVariants.{PointerMinusIndex}
use Rattle.c_tree.specs.Tree.{Expression, expression, Lvalue, lvalue, Node, plain, decay, address, parenthesized, cast}
use Rattle.c_tree.specs.Tree.{convert, offset_by, LvalueNode, automatic, static, deref, index, member, arrow}
use Rattle.c_tree.specs.Tree.{parenthesized_lvalue}
use Rattle.c_tree.specs.Kinds.{size_of_kind}
use Rattle.c_tree.specs.Valid.{Scope, at_number, variable_at, is_valid, is_node, is_valid_lvalue}
use Rattle.c_tree.specs.Valid.{is_valid_lvalue_node}
use Rattle.source_meaning.specs.State.{State, Home, NoObject}
use Rattle.source_meaning.specs.Expressions.{is_judged}
use Rattle.source_meaning.specs.Good.{Context, IsGood, HasHome, object_kind, static_kind}
use Rattle.source_meaning.proofs.ValidNames.{both, three, four, six, never}
use Rattle.tac_ir.specs.declared.key.Base.{Base}
use Rattle.tac_ir.specs.declared.key.Base.TheVariants.{Plain, Automatic, Static}
use Rattle.tac_ir.specs.declared.key.Scaled.{Scaled}
use Rattle.tac_ir.specs.declared.key.Key.{Key}
use Rattle.tac_ir.specs.declared.function.StaticData.{StaticData}
use Rattle.tac_ir.specs.Fitting.{is_whole, is_home_of, is_static_of, is_base_there}
use Rattle.c_lower.specs.Keys.{Index, OfConstant, OfVariable, OfOther, index_of, named_key, scaled_key, key_plus}
use Rattle.c_lower.specs.Keys.{key_minus, member_key, pointer_key, node_key, place_key, lvalue_key, assigns_key, unless}
use Rattle.c_lower.specs.Keys.{key_after, key_if, read_key, write_key}

-- The base of a key is named in a scope: a variable that is an object there, or a static object.
abbrev pub BaseIs : Scope → Base → Type 0
BaseIs sc (Plain x) = Unit {0}
BaseIs sc (Automatic x) = (kind : Kind) × (object_kind sc.variables x ≡ Some kind)
BaseIs sc (Static n) = n < length sc.statics

-- so is the base of a key, if there is one
abbrev pub BaseIf : Scope → Option Key → Type 0
BaseIf sc None = Unit {0}
BaseIf sc (Some key) = BaseIs sc key.base

-- names that a scope has

object_by : (v : Variable) → v.is_object ≡ true → (if v.is_object then Some v.kind else None) ≡ Some v.kind
object_by v e = ap (λ b. if b then Some v.kind else None) e

pub object_found : (vs : List Variable) (x : ℕ) → (at_number vs x).is_object ≡ true
    → object_kind vs x ≡ Some (at_number vs x).kind
object_found [] x e = never e
object_found (v ∷ vs) zero e = object_by v e
object_found (v ∷ vs) (suc x) e = object_found vs x e

literal_named : (sc : Scope) (n : ℕ) (is_literal : Option Bool) → n < length sc.statics
    → BaseIf sc (named_key is_literal n)
literal_named sc n None h = tt
literal_named sc n (Some true) h = tt
literal_named sc n (Some false) h = h

-- what is added to a pointer leaves the base of its key

scaled_named : (sc : Scope) (v : Option Scaled) (key : Key) (x size : ℕ) → BaseIs sc key.base
    → BaseIf sc (scaled_key v key x size)
scaled_named sc None key x size h = h
scaled_named sc (Some v) key x size h = tt

plus_named : (sc : Scope) (ok : Option Key) (i : Index) (size : ℕ) → BaseIf sc ok → BaseIf sc (key_plus ok i size)
plus_named sc None i size h = tt
plus_named sc (Some key) (OfConstant w) size h = h
plus_named sc (Some key) (OfVariable x) size h = scaled_named sc key.scaled key x size h
plus_named sc (Some key) OfOther size h = tt

minus_named : (sc : Scope) (ok : Option Key) (i : Index) (size : ℕ) → BaseIf sc ok → BaseIf sc (key_minus ok i size)
minus_named sc None i size h = tt
minus_named sc (Some key) (OfConstant w) size h = h
minus_named sc (Some key) (OfVariable x) size h = tt
minus_named sc (Some key) OfOther size h = tt

member_named : (sc : Scope) (ok : Option Key) (offset size : ℕ) → BaseIf sc ok → BaseIf sc (member_key ok offset size)
member_named sc None offset size h = tt
member_named sc (Some key) offset size h = h

-- the operands of an index
operands : (a b c d f g i : Bool) → (a && b && c && d && f && g && i) ≡ true → (a ≡ true) × (b ≡ true)
operands a b c d f g i e =
    let h = six a b c d f g (both (a && b && c && d && f && g) i e).0 in (h.0, h.1)

module _ (sc : Scope) (ls : List Bool) where
  mutual
    pointer_named : (e : Expression) → is_valid sc e ≡ true → BaseIf sc (pointer_key ls e)
    pointer_named (expression (OfScalar Pointer) line node) e = node_named node (OfScalar Pointer) e
    pointer_named (expression (OfScalar (Integer t)) line node) e = tt
    pointer_named (expression Void line node) e = tt
    pointer_named (expression (Structure n) line node) e = tt
    pointer_named (expression (Array n) line node) e = tt

    node_named : (n : Node) (k : Kind) → is_node sc n k ≡ true → BaseIf sc (node_key ls n)
    node_named (plain x) k e = tt
    node_named (decay p) k e = place_named p (four (is_valid_lvalue sc p) _ _ _ e).0
    node_named (address p) k e = place_named p (three (is_valid_lvalue sc p) _ _ e).0
    node_named (parenthesized a) k e = pointer_named a (both (is_valid sc a) _ e).0
    node_named (cast a) k e = pointer_named a (both (is_valid sc a) _ e).0
    node_named (convert a) k e = pointer_named a (three (is_valid sc a) _ _ e).0
    node_named (offset_by PointerPlusIndex size a b) k e = plus_named sc (pointer_key ls a) (index_of b) size
        (pointer_named a (six (is_valid sc a) (is_valid sc b) _ _ _ _ e).0)
    node_named (offset_by IndexPlusPointer size a b) k e = plus_named sc (pointer_key ls b) (index_of a) size
        (pointer_named b (six (is_valid sc a) (is_valid sc b) _ _ _ _ e).1)
    node_named (offset_by PointerMinusIndex size a b) k e = minus_named sc (pointer_key ls a) (index_of b) size
        (pointer_named a (six (is_valid sc a) (is_valid sc b) _ _ _ _ e).0)
    node_named n k e = tt

    -- the key of a valid lvalue begins with what is named
    pub place_named : (p : Lvalue) → is_valid_lvalue sc p ≡ true → BaseIf sc (place_key ls p)
    place_named (lvalue kind line node) e = lvalue_named node kind e

    lvalue_named : (n : LvalueNode) (k : Kind) → is_valid_lvalue_node sc n k ≡ true → BaseIf sc (lvalue_key ls n)
    lvalue_named (automatic x) k e = (
      (variable_at sc x).kind,
      object_found sc.variables x (both (variable_at sc x).is_object _ e).0,
    )
    lvalue_named (static n) k e = literal_named sc n (slice_get ls n)
        (ltb-true n (length sc.statics) (both (nat_lt n (length sc.statics)) _ e).0)
    lvalue_named (deref a) k e = pointer_named a (three (is_valid sc a) _ _ e).0
    lvalue_named (index PointerPlusIndex size a b) k e = plus_named sc (pointer_key ls a) (index_of b) size
        (pointer_named a (operands (is_valid sc a) (is_valid sc b) _ _ _ _ _ e).0)
    lvalue_named (index IndexPlusPointer size a b) k e = plus_named sc (pointer_key ls b) (index_of a) size
        (pointer_named b (operands (is_valid sc a) (is_valid sc b) _ _ _ _ _ e).1)
    lvalue_named (index PointerMinusIndex size a b) k e = minus_named sc (pointer_key ls a) (index_of b) size
        (pointer_named a (operands (is_valid sc a) (is_valid sc b) _ _ _ _ _ e).0)
    lvalue_named (member p offset size) k e = member_named sc (place_key ls p) offset size
        (place_named p (three (is_valid_lvalue sc p) _ _ e).0)
    lvalue_named (arrow a offset size) k e = member_named sc (pointer_key ls a) offset size
        (pointer_named a (three (is_valid sc a) _ _ e).0)
    lvalue_named (parenthesized_lvalue p) k e = place_named p (both (is_valid_lvalue sc p) _ e).0
    lvalue_named n k e = tt

  if_named : (b : Bool) (ok : Option Key) → BaseIf sc ok → BaseIf sc (key_if b ok)
  if_named true ok h = h
  if_named false ok h = tt

  unless_named : (b : Bool) (key : Key) → BaseIs sc key.base → BaseIf sc (unless b key)
  unless_named true key h = tt
  unless_named false key h = h

  after_named : (a : Expression) (ok : Option Key) → BaseIf sc ok → BaseIf sc (key_after a ok)
  after_named a None h = tt
  after_named a (Some key) h = unless_named (assigns_key a key) key h

  -- and so do the keys of what is read and of what is written
  pub read_named : (p : Lvalue) → is_valid_lvalue sc p ≡ true → BaseIf sc (read_key ls p)
  read_named p e = if_named (is_judged p) (place_key ls p) (place_named p e)

  pub write_named : (p : Lvalue) (a : Expression) → is_valid_lvalue sc p ≡ true → BaseIf sc (write_key ls p a)
  write_named p a e = if_named (is_judged p) (key_after a (place_key ls p))
      (after_named a (place_key ls p) (place_named p e))

-- in a good state it is there

pub both_true : {a b : Bool} → a ≡ true → b ≡ true → (a && b) ≡ true
both_true {a = a} {b = b} e f = ap (λ q. q && b) e ∙ f

whole_held : (size : ℕ) (o : ObjectState) → o.is_live ≡ true → o.size ≡ size → is_whole size o ≡ true
whole_held size o live same = both_true live (eq-eqb o.size size same)

-- the kind of a variable that is an object is the one that it is declared with
kind_by : (v : Variable) (kind : Kind) → (if v.is_object then Some v.kind else None) ≡ Some kind → v.kind ≡ kind
kind_by v kind e = by v.is_object e
  where
    by : (b : Bool) → (if b then Some v.kind else None) ≡ Some kind → v.kind ≡ kind
    by true e = cc
    by false e = cc

pub declared_kind : (vs : List Variable) (x : ℕ) (kind : Kind) → object_kind vs x ≡ Some kind
    → (at_number vs x).kind ≡ kind
declared_kind [] x kind e = cc
declared_kind (v ∷ vs) zero kind e = kind_by v kind e
declared_kind (v ∷ vs) (suc x) kind e = declared_kind vs x kind e

pub static_there : (ks : List Kind) (n : ℕ) → n < length ks → (kind : Kind) × (static_kind ks n ≡ Some kind)
static_there [] n h = absurd (omega arith)
static_there (k ∷ ks) zero h = (k, refl)
static_there (k ∷ ks) (suc n) h = static_there ks n (omega arith)

-- the data of static objects have as many bytes as their kinds
abbrev pub HaveSizes : List Kind → List StaticData → Type 0
HaveSizes ks ds = (n : ℕ) (kind : Kind) → static_kind ks n ≡ Some kind
    → (d : StaticData) × (slice_get ds n ≡ Some d) × (d.size ≡ size_of_kind kind)

home_there : (frame : List Home) (objects : List ObjectState) (x size : ℕ) (kind : Kind) → size ≡ size_of_kind kind
    → HasHome frame objects x kind → is_home_of size (get_or frame x NoObject) objects ≡ true
home_there frame objects x size kind same h =
    ap (λ home. is_home_of size home objects) h.home
    ∙ whole_held size (object_at objects h.object) h.held.live (h.held.size ∙ sym same)

data_held : (o : Option StaticData) (d : StaticData) (size : ℕ) (s : ObjectState) → o ≡ Some d → d.size ≡ size
    → s.is_live ≡ true → s.size ≡ size → is_static_of o s ≡ true
data_held o d size s e same live bytes = ap (λ q. is_static_of q s) e ∙ whole_held d.size s live
    (bytes ∙ sym same)

-- the object that a key begins with is as it was declared
pub key_base_there : (sc : Context) (base : Base) (s : State) (all : List Variable) (ds : List StaticData)
    → BaseIs sc.scope base → IsGood sc s
    → ((x : ℕ) (kind : Kind) → object_kind sc.scope.variables x ≡ Some kind → object_kind all x ≡ Some kind)
    → HaveSizes sc.scope.statics ds → is_base_there all ds base s ≡ true
key_base_there sc (Plain x) s all ds named good declared same = refl
key_base_there sc (Automatic x) s all ds named good declared same =
    let kind = declared_kind all x named.0 (declared x named.0 named.1) in
    home_there s.frame s.objects x (size_of_kind (at_number all x).kind) named.0 (ap size_of_kind kind)
    (good.homes x named.0 named.1)
key_base_there sc (Static n) s all ds named good declared same =
    let k = static_there sc.scope.statics n named in
    let d = same n k.0 k.1 in
    let held = good.statics n k.0 k.1 in
    data_held (slice_get ds n) d.0 (size_of_kind k.0) (object_at s.objects n) d.1 d.2 held.live held.size
