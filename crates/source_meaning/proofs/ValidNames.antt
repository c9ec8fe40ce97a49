-- A valid program names what is there.
use Rattle.source_meaning.specs.Good.{basis_of, node_basis, object_kind, plain_type, scalar_if, signature_in}
use Rattle.source_meaning.specs.Good.{static_kind}
use Rattle.c_tree.specs.Valid.{Scope}
use Rattle.std.proofs.Common.{◌≡◌, ℕ, ◌+◌, ◌^◌, ◌<◌, ◌≤◌, nat_le, nat_lt, length, List, [], ◌∷◌, Bool, true, false}
use Rattle.std.proofs.Common.{◌&&◌, ◌||◌, ◌==◌, not, zero, suc, None, if◌then◌else◌, Some, get_or, refl, sym, ap, ◌∙◌}
use Rattle.std.proofs.Common.{subst}
use Rattle.std.proofs.Common.{arith}
use Rattle.std.proofs.lemmas.Bool.{eqb-true, leb-true, ltb-true}
use Rattle.obj_memory.specs.declared.int_type.IntType.{IntType}
use Rattle.obj_memory.specs.declared.int_type.IntType.TheVariants.{Char, SignedChar, UnsignedChar, Short, UnsignedShort}
use Rattle.obj_memory.specs.declared.int_type.IntType.TheVariants.{Int, UnsignedInt, Long, UnsignedLong, LongLong}
use Rattle.obj_memory.specs.declared.int_type.IntType.TheVariants.{UnsignedLongLong}
use Rattle.obj_memory.specs.declared.value.Scalar.{Scalar}
use Rattle.obj_memory.specs.declared.value.Scalar.TheVariants.{Integer, Pointer}
use Rattle.obj_memory.specs.declared.operator.BinaryOperator.{BinaryOperator}
use Rattle.obj_memory.specs.Integers.{fit}
use Rattle.c_tree.specs.declared.expression.Kind.{Kind}
use Rattle.c_tree.specs.declared.expression.Kind.TheVariants.{Void, Scalar as OfScalar, Structure, Array}
use Rattle.c_tree.specs.declared.expression.Update.{Update}
use Rattle.c_tree.specs.declared.expression.Update.TheVariants as update
use Rattle.c_tree.specs.declared.expression.Routine.{Routine}
use Rattle.c_tree.specs.declared.expression.Routine.TheVariants.{Malloc, Calloc, Free, Realloc, Memcpy, Memmove, Memset}
use Rattle.c_tree.specs.declared.expression.Routine.TheVariants.{Memcmp, Strlen, Strcmp, Strcpy, Strncpy, Strcat}
use Rattle.c_tree.specs.declared.expression.Routine.TheVariants.{Strchr, Putchar, Getchar, Puts, Exit, Abort}
use Rattle.c_tree.specs.Tree.{Expression, expression, Expressions, no_expressions, expressions, Lvalue, lvalue, Node}
use Rattle.c_tree.specs.Tree.{constant, function, plain, read, decay, address, parenthesized, deref_function}
use Rattle.c_tree.specs.Tree.{address_function, cast, convert, unary, binary, offset_by, difference, logical_and}
use Rattle.c_tree.specs.Tree.{logical_or, comma, conditional, assign, assign_plain, compound, change_plain, step}
use Rattle.c_tree.specs.Tree.{step_plain, call, call_through, library, printf, LvalueNode, automatic, static, deref}
use Rattle.c_tree.specs.Tree.{index, member, arrow, member_of_value, parenthesized_lvalue, kind_of, lvalue_kind}
use Rattle.c_tree.specs.Tree.{kinds_of}
use Rattle.c_tree.specs.Kinds.{is_size, is_step_operator, integer, pointer, int_number, is_int_type, is_kind, are_kinds}
use Rattle.c_tree.specs.Kinds.{size_of_kind, is_integer, is_promoted_type, is_scalar, is_value, is_array, has_member}
use Rattle.c_tree.specs.Kinds.{class_of, are_operands, routine_signature}
use Rattle.c_tree.specs.Valid.{is_constant, is_plain, is_operand, is_conversion, is_right_of, is_update, is_step}
use Rattle.c_tree.specs.Valid.{is_call, no_signature, is_lvalue, is_lvalue_node, is_member, is_valid, is_node}
use Rattle.c_tree.specs.Valid.{are_valid, is_valid_lvalue, is_valid_lvalue_node, is_named_as, is_unsized}
use Rattle.c_tree.specs.declared.program.Variable.{Variable}
use Rattle.c_tree.specs.Valid as valid
use Rattle.source_meaning.proofs.Naming.{IsNamedAs, IsNoStructure, IsWritable, IsStructureWith, IsConstantOf}
use Rattle.source_meaning.proofs.Naming.{PlainNames}
use Rattle.source_meaning.proofs.Naming.{UpdatesKind, Names, ValueNames, LvalueNames, PlaceNames, RowNames}

-- tests that hold

pub both : (a b : Bool) → (a && b) ≡ true → (a ≡ true) × (b ≡ true)
both true b e = (refl, e)
both false b e = absurd (cc)

pub three : (a b c : Bool) → (a && b && c) ≡ true → (a ≡ true) × (b ≡ true) × (c ≡ true)
three a b c e = let p = both (a && b) c e in let q = both a b p.0 in (q.0, q.1, p.1)

pub four : (a b c d : Bool) → (a && b && c && d) ≡ true → (a ≡ true) × (b ≡ true) × (c ≡ true) × (d ≡ true)
four a b c d e = let p = both (a && b && c) d e in let q = three a b c p.0 in (q.0, q.1, q.2, p.1)

pub five : (a b c d f : Bool) → (a && b && c && d && f) ≡ true
    → (a ≡ true) × (b ≡ true) × (c ≡ true) × (d ≡ true) × (f ≡ true)
five a b c d f e = let p = both (a && b && c && d) f e in let q = four a b c d p.0 in (q.0, q.1, q.2, q.3, p.1)

pub six : (a b c d f g : Bool) → (a && b && c && d && f && g) ≡ true
    → (a ≡ true) × (b ≡ true) × (c ≡ true) × (d ≡ true) × (f ≡ true) × (g ≡ true)
six a b c d f g e = let p = both (a && b && c && d && f) g e in let q = five a b c d f p.0 in
    (q.0, q.1, q.2, q.3, q.4, p.1)

seven : (a b c d f g i : Bool) → (a && b && c && d && f && g && i) ≡ true
    → (a ≡ true) × (b ≡ true) × (c ≡ true) × (d ≡ true) × (f ≡ true) × (g ≡ true) × (i ≡ true)
seven a b c d f g i e = let p = both (a && b && c && d && f && g) i e in let q = six a b c d f g p.0 in
    (q.0, q.1, q.2, q.3, q.4, q.5, p.1)

pub never : {A : Type 0} → false ≡ true → A
never e = absurd (cc)

-- kinds that a test finds equal

type_of : ℕ → IntType
type_of n = get_or (Char ∷ SignedChar ∷ UnsignedChar ∷ Short ∷ UnsignedShort ∷ Int ∷ UnsignedInt ∷ Long ∷ UnsignedLong
    ∷ LongLong ∷ UnsignedLongLong ∷ []) n Char

type_of_number : (t : IntType) → type_of (int_number t) ≡ t
unfolding type_of
type_of_number Char = refl
type_of_number SignedChar = refl
type_of_number UnsignedChar = refl
type_of_number Short = refl
type_of_number UnsignedShort = refl
type_of_number Int = refl
type_of_number UnsignedInt = refl
type_of_number Long = refl
type_of_number UnsignedLong = refl
type_of_number LongLong = refl
type_of_number UnsignedLongLong = refl

same_type : (s t : IntType) → is_int_type s t ≡ true → s ≡ t
same_type s t e = sym (type_of_number s) ∙ ap type_of (eqb-true (int_number s) (int_number t) e) ∙ type_of_number t

pub same_kind : (k t : Kind) → is_kind k t ≡ true → k ≡ t
same_kind Void Void e = refl
same_kind Void (OfScalar (Integer s)) e = never e
same_kind Void (OfScalar Pointer) e = never e
same_kind Void (Structure n) e = never e
same_kind Void (Array n) e = never e
same_kind (OfScalar (Integer s)) Void e = never e
same_kind (OfScalar (Integer s)) (OfScalar (Integer t)) e = ap (λ x. OfScalar (Integer x)) (same_type s t e)
same_kind (OfScalar (Integer s)) (OfScalar Pointer) e = never e
same_kind (OfScalar (Integer s)) (Structure n) e = never e
same_kind (OfScalar (Integer s)) (Array n) e = never e
same_kind (OfScalar Pointer) Void e = never e
same_kind (OfScalar Pointer) (OfScalar (Integer t)) e = never e
same_kind (OfScalar Pointer) (OfScalar Pointer) e = refl
same_kind (OfScalar Pointer) (Structure n) e = never e
same_kind (OfScalar Pointer) (Array n) e = never e
same_kind (Structure m) Void e = never e
same_kind (Structure m) (OfScalar (Integer t)) e = never e
same_kind (Structure m) (OfScalar Pointer) e = never e
same_kind (Structure m) (Structure n) e = ap Structure (eqb-true m n e)
same_kind (Structure m) (Array n) e = never e
same_kind (Array m) Void e = never e
same_kind (Array m) (OfScalar (Integer t)) e = never e
same_kind (Array m) (OfScalar Pointer) e = never e
same_kind (Array m) (Structure n) e = never e
same_kind (Array m) (Array n) e = ap Array (eqb-true m n e)

pub same_kinds : (ks ts : List Kind) → are_kinds ks ts ≡ true → ks ≡ ts
same_kinds [] [] e = refl
same_kinds [] (t ∷ ts) e = never e
same_kinds (k ∷ ks) [] e = never e
same_kinds (k ∷ ks) (t ∷ ts) e =
    let h = both (is_kind k t) (are_kinds ks ts) e in ap (λ x. x ∷ ks) (same_kind k t h.0)
    ∙ ap (λ xs. t ∷ xs) (same_kinds ks ts h.1)

-- a name stands for the bytes of its object, or for none
unsized_within : (declared named : Kind) → is_unsized declared named ≡ true
    → size_of_kind named ≤ size_of_kind declared
unsized_within Void named e = never e
unsized_within (OfScalar s) named e = never e
unsized_within (Structure m) Void e = never e
unsized_within (Structure m) (OfScalar s) e = never e
unsized_within (Structure m) (Structure n) e = let none = eqb-true n 0 e in omega arith
unsized_within (Structure m) (Array n) e = never e
unsized_within (Array m) Void e = never e
unsized_within (Array m) (OfScalar s) e = never e
unsized_within (Array m) (Structure n) e = never e
unsized_within (Array m) (Array n) e = let none = eqb-true n 0 e in omega arith

named_by : (b : Bool) (declared named : Kind) → is_kind declared named ≡ b
    → (b || is_unsized declared named) ≡ true → size_of_kind named ≤ size_of_kind declared
named_by true declared named same e =
    let bytes = ap size_of_kind (same_kind declared named same) in omega arith
named_by false declared named same e = unsized_within declared named e

pub named_within : (declared named : Kind) → is_named_as declared named ≡ true
    → size_of_kind named ≤ size_of_kind declared
named_within declared named e = named_by (is_kind declared named) declared named refl e

-- kinds that are no structures

pub none_like : (k t : Kind) → is_kind k t ≡ true → IsNoStructure t → IsNoStructure k
none_like k t e h = subst IsNoStructure (sym (same_kind k t e)) h

constant_of : (w : ℕ) (k : Kind) → is_constant w k ≡ true → IsConstantOf w k
constant_of w Void e = never e
constant_of w (OfScalar (Integer t)) e = eqb-true (fit t w) w e
constant_of w (OfScalar Pointer) e = never e
constant_of w (Structure n) e = never e
constant_of w (Array n) e = never e

none_conversion : (from to : Kind) → is_conversion from to ≡ true → IsNoStructure to
none_conversion from Void e = tt
none_conversion from (OfScalar s) e = tt
none_conversion from (Structure n) e = never e
none_conversion from (Array n) e = tt

pub none_routine : (r : Routine) → IsNoStructure (routine_signature r).result
none_routine Malloc = tt
none_routine Calloc = tt
none_routine Free = tt
none_routine Realloc = tt
none_routine Memcpy = tt
none_routine Memmove = tt
none_routine Memset = tt
none_routine Memcmp = tt
none_routine Strlen = tt
none_routine Strcmp = tt
none_routine Strcpy = tt
none_routine Strncpy = tt
none_routine Strcat = tt
none_routine Strchr = tt
none_routine Putchar = tt
none_routine Getchar = tt
none_routine Puts = tt
none_routine Exit = tt
none_routine Abort = tt

-- updates

integer_update : (op : BinaryOperator) (t : IntType) (k : Kind) → is_integer k ≡ true
    → UpdatesKind (update.Arithmetic op t) k
integer_update op t Void e = never e
integer_update op t (OfScalar (Integer s)) e = tt
integer_update op t (OfScalar Pointer) e = never e
integer_update op t (Structure n) e = never e
integer_update op t (Array n) e = never e

pub update_kind : (u : Update) (k right : Kind) → is_update u k right ≡ true → UpdatesKind u k
update_kind (update.Arithmetic op t) k right e = integer_update op t k
    (three (is_integer k) (is_promoted_type t) (is_right_of (class_of op) t right) e).0
update_kind (update.Forward size) k right e = subst (UpdatesKind (update.Forward size))
    (sym (same_kind k pointer (three (is_kind k pointer) _ _ e).0)) tt
update_kind (update.Back size) k right e = subst (UpdatesKind (update.Back size))
    (sym (same_kind k pointer (three (is_kind k pointer) _ _ e).0)) tt

step_kind : (u : Update) (k : Kind) → is_step u k ≡ true → UpdatesKind u k
step_kind (update.Arithmetic op t) k e = update_kind (update.Arithmetic op t) k (integer t)
    (both (is_step_operator op) _ e).1
step_kind (update.Forward size) k e = update_kind (update.Forward size) k (integer Int) e
step_kind (update.Back size) k e = update_kind (update.Back size) k (integer Int) e

-- members

member_fits : (t : Kind) (offset size : ℕ) → has_member t offset size ≡ true → IsStructureWith t (offset + size)
member_fits Void offset size e = never e
member_fits (OfScalar s) offset size e = never e
member_fits (Structure whole) offset size e = leb-true (offset + size) whole e
member_fits (Array n) offset size e = never e

structure_size : (t : Kind) (bytes : ℕ) → IsStructureWith t bytes → bytes ≤ size_of_kind t
structure_size Void bytes h = absurd h
structure_size (OfScalar s) bytes h = absurd h
structure_size (Structure n) bytes h = h
structure_size (Array n) bytes h = absurd h

no_more : (n m : ℕ) → (n == m) ≡ true → n ≤ m
no_more n m e = let same = eqb-true n m e in omega arith

mutual
  pub writable : (p : Lvalue) → is_lvalue p ≡ true → IsWritable (basis_of p)
  writable (lvalue kind line node) e = node_writable node e

  node_writable : (n : LvalueNode) → is_lvalue_node n ≡ true → IsWritable (node_basis n)
  node_writable (automatic x) e = tt
  node_writable (static n) e = tt
  node_writable (deref a) e = tt
  node_writable (index form size a b) e = tt
  node_writable (member p offset size) e = writable p e
  node_writable (arrow a offset size) e = tt
  node_writable (member_of_value a offset size) e = never e
  node_writable (parenthesized_lvalue p) e = writable p e

-- what a scope of validity and one of names have in common
pub record Agree (scope : valid.Scope) (sc : Scope) : Type 0 where
  pub static : (n : ℕ) (k : Kind) → valid.is_static scope n k ≡ true → IsNamedAs (static_kind sc.statics n) k
  pub all : scope.all ≡ sc.all
  pub variables : scope.variables ≡ sc.variables
  pub functions : scope.functions ≡ sc.functions
  pub types : scope.types ≡ sc.types
  pub result : scope.result ≡ sc.result

object_by : (v : Variable) (b : Bool) → v.is_object ≡ b → b ≡ true
    → (if v.is_object then Some v.kind else None) ≡ Some v.kind
object_by v true e h = subst (λ c. (if c then Some v.kind else None) ≡ Some v.kind) (sym e) refl
object_by v false e h = never h

object_at : (vs : List Variable) (x : ℕ) → (valid.at_number vs x).is_object ≡ true
    → object_kind vs x ≡ Some (valid.at_number vs x).kind
object_at [] x e = never e
object_at (v ∷ vs) zero e = object_by v v.is_object refl e
object_at (v ∷ vs) (suc x) e = object_at vs x e

-- a plain variable of a scalar type
plain_by : (v : Variable) (k : Scalar) (b : Bool) → v.is_object ≡ b → not b ≡ true → v.kind ≡ OfScalar k
    → (if v.is_object then None else scalar_if v.kind) ≡ Some k
plain_by v k true e h same = never h
plain_by v k false e h same = subst (λ c. (if c then None else scalar_if v.kind) ≡ Some k) (sym e) (ap scalar_if same)

none_named : (k : Scalar) {A : Type 0} → Void ≡ OfScalar k → A
none_named k e = absurd (cc)

plain_at : (vs : List Variable) (x : ℕ) (k : Scalar) → not (valid.at_number vs x).is_object ≡ true
    → (valid.at_number vs x).kind ≡ OfScalar k → plain_type vs x ≡ Some k
plain_at [] x k e same = none_named k same
plain_at (v ∷ vs) zero k e same = plain_by v k v.is_object refl e same
plain_at (v ∷ vs) (suc x) k e same = plain_at vs x k e same

plain_of : (vs : List Variable) (sc : Scope) (x : ℕ) (k : Kind) → vs ≡ sc.variables
    → not (valid.at_number vs x).is_object ≡ true → (valid.at_number vs x).kind ≡ k → is_scalar k ≡ true
    → PlainNames sc x k
plain_of vs sc x Void g e same scalar = never scalar
plain_of vs sc x (OfScalar k) g e same scalar = subst (λ l. plain_type l x ≡ Some k) g (plain_at vs x k e same)
plain_of vs sc x (Structure n) g e same scalar = never scalar
plain_of vs sc x (Array n) g e same scalar = never scalar

pub plain_names : {scope : valid.Scope} {sc : Scope} → Agree scope sc → (x : ℕ) (k : Kind) → is_plain scope x k ≡ true
    → PlainNames sc x k
plain_names {scope = scope} {sc = sc} g x k e =
    let v = valid.variable_at scope x in
    let h = three (not v.is_object) (is_kind v.kind k) (is_scalar k) e in
    plain_of scope.variables sc x k g.variables h.0 (same_kind v.kind k h.1) h.2

pub object_named : {scope : valid.Scope} {sc : Scope} → Agree scope sc → (x : ℕ)
    → (valid.variable_at scope x).is_object ≡ true → object_kind sc.variables x ≡ Some (valid.variable_at scope x).kind
object_named {scope = scope} g x e = subst (λ vs. object_kind vs x ≡ Some (valid.variable_at scope x).kind) g.variables
    (object_at scope.variables x e)

module _ {scope : valid.Scope} {sc : Scope} (g : Agree scope sc) where
  mutual
    pub names : (e : Expression) → is_valid scope e ≡ true → Names sc e
    names (expression kind line node) e = value_names node kind e

    pub value_names : (n : Node) (k : Kind) → is_node scope n k ≡ true → ValueNames sc n k
    value_names (constant w) k e = constant_of w k e
    value_names (function f) k e =
        let h = both (nat_lt f (length scope.functions)) (is_kind k pointer) e in
        (subst (λ l. f < length l) g.functions (ltb-true f (length scope.functions) h.0), same_kind k pointer h.1)
    value_names (plain x) k e = plain_names g x k e
    value_names (read l) k e =
        let h = three (is_valid_lvalue scope l) (is_kind k (lvalue_kind l)) (is_value k) e in
        (lvalue_names l h.0, same_kind k (lvalue_kind l) h.1)
    value_names (decay l) k e =
        let h = four (is_valid_lvalue scope l) (is_lvalue l) (is_array (lvalue_kind l)) (is_kind k pointer) e in
        (lvalue_names l h.0, same_kind k pointer h.3)
    value_names (address l) k e =
        let h = three (is_valid_lvalue scope l) (is_lvalue l) (is_kind k pointer) e in
        (lvalue_names l h.0, same_kind k pointer h.2)
    value_names (parenthesized a) k e = let h = both (is_valid scope a) (is_kind k (kind_of a)) e in
        (names a h.0, same_kind k (kind_of a) h.1)
    value_names (deref_function a) k e =
        let h = three (is_valid scope a) (is_kind (kind_of a) pointer) (is_kind k pointer) e in
        (names a h.0, same_kind (kind_of a) pointer h.1, same_kind k pointer h.2)
    value_names (address_function a) k e =
        let h = three (is_valid scope a) (is_kind (kind_of a) pointer) (is_kind k pointer) e in
        (names a h.0, same_kind (kind_of a) pointer h.1, same_kind k pointer h.2)
    value_names (cast a) k e = let h = both (is_valid scope a) (is_conversion (kind_of a) k) e in
        (names a h.0, none_conversion (kind_of a) k h.1)
    value_names (convert a) k e = let h = three (is_valid scope a) (is_conversion (kind_of a) k) _ e in
        (names a h.0, none_conversion (kind_of a) k h.1)
    value_names (unary op a) k e = let h = both (is_valid scope a) (is_operand op (kind_of a) k) e in (names a h.0, h.1)
    value_names (binary op a b) k e =
        let h = three (is_valid scope a) (is_valid scope b) (are_operands (class_of op) (kind_of a) (kind_of b) k) e in
        (names a h.0, names b h.1, h.2)
    value_names (offset_by form size a b) k e =
        let h = six (is_valid scope a) (is_valid scope b) _ _ _ (is_kind k pointer) e in
        (names a h.0, names b h.1, same_kind k pointer h.5)
    value_names (difference size a b) k e =
        let h = six (is_valid scope a) (is_valid scope b) _ _ _ (is_kind k (integer Long)) e in
        (names a h.0, names b h.1, same_kind k (integer Long) h.5)
    value_names (logical_and a b) k e =
        let h = five (is_valid scope a) (is_valid scope b) _ _ (is_kind k (integer Int)) e in
        (names a h.0, names b h.1, same_kind k (integer Int) h.4)
    value_names (logical_or a b) k e =
        let h = five (is_valid scope a) (is_valid scope b) _ _ (is_kind k (integer Int)) e in
        (names a h.0, names b h.1, same_kind k (integer Int) h.4)
    value_names (comma a b) k e =
        let h = three (is_valid scope a) (is_valid scope b) (is_kind k (kind_of b)) e in
        (names a h.0, names b h.1, same_kind k (kind_of b) h.2)
    value_names (conditional a b c) k e =
        let h = six (is_valid scope a) (is_scalar (kind_of a)) (is_valid scope b) (is_valid scope c)
        (is_kind k (kind_of b)) (is_kind k (kind_of c)) e in
        (names a h.0, names b h.2, names c h.3, same_kind k (kind_of b) h.4, same_kind k (kind_of c) h.5)
    value_names (assign l a) k e =
        let h = six (is_valid_lvalue scope l) (is_lvalue l) (is_valid scope a) (is_kind (lvalue_kind l) (kind_of a))
        (is_kind k (lvalue_kind l)) (is_value k) e in (
          lvalue_names l h.0,
          writable l h.1,
          names a h.2,
          same_kind (lvalue_kind l) (kind_of a) h.3,
          same_kind k
              (lvalue_kind l) h.4,
        )
    value_names (assign_plain x a) k e =
        let h = three (is_valid scope a) (is_plain scope x.variable (kind_of a)) (is_kind k (kind_of a)) e in
        (names a h.0, plain_names g x.variable (kind_of a) h.1, same_kind k (kind_of a) h.2)
    value_names (compound u l a) k e =
        let h = five (is_valid_lvalue scope l) (is_lvalue l) (is_valid scope a)
        (is_update u (lvalue_kind l) (kind_of a)) (is_kind k (lvalue_kind l)) e in (
          lvalue_names l h.0,
          writable l h.1,
          update_kind u (lvalue_kind l) (kind_of a) h.3,
          names a h.2,
          same_kind k
              (lvalue_kind l) h.4,
        )
    value_names (change_plain u x a) k e =
        let h = three (is_valid scope a) (is_plain scope x.variable k) (is_update u k (kind_of a)) e in
        (names a h.0, plain_names g x.variable k h.1, update_kind u k (kind_of a) h.2)
    value_names (step u fixity l) k e =
        let h = four (is_valid_lvalue scope l) (is_lvalue l) (is_step u (lvalue_kind l)) (is_kind k (lvalue_kind l))
        e in
        (lvalue_names l h.0, writable l h.1, step_kind u (lvalue_kind l) h.2, same_kind k (lvalue_kind l) h.3)
    value_names (step_plain u fixity x) k e =
        let h = both (is_plain scope x.variable k) (is_step u k) e in
        (plain_names g x.variable k h.0, step_kind u k h.1)
    value_names (call f args) k e =
        let q = signature_in scope.functions f in
        let h = three (are_valid scope args) _ (is_call q (kinds_of args) k) e in
        let c = both (are_kinds (kinds_of args) q.parameters) (is_kind k q.result) h.2 in (
          row_names args h.0,
          same_kinds (kinds_of args) q.parameters c.0
              ∙ ap (λ l. (signature_in l f).parameters) g.functions,
          same_kind k q.result c.1
              ∙ ap (λ l. (signature_in l f).result) g.functions,
        )
    value_names (call_through type_number a args) k e =
        let q = signature_in scope.types type_number in
        let h = five (is_valid scope a) _ (are_valid scope args) _ (is_call q (kinds_of args) k) e in
        let c = both (are_kinds (kinds_of args) q.parameters) (is_kind k q.result) h.4 in (
          names a h.0,
          row_names args h.2,
          same_kinds (kinds_of args) q.parameters c.0 ∙ ap (λ l. (signature_in l type_number).parameters) g.types,
          same_kind k q.result c.1 ∙ ap (λ l. (signature_in l type_number).result) g.types,
        )
    value_names (library r args) k e =
        let h = both (are_valid scope args) (is_call (routine_signature r) (kinds_of args) k) e in
        let c = both (are_kinds (kinds_of args) (routine_signature r).parameters)
        (is_kind k (routine_signature r).result) h.1 in (
          row_names args h.0,
          same_kinds (kinds_of args) (routine_signature r).parameters c.0,
          same_kind k
              (routine_signature r).result c.1,
        )
    value_names (printf format args) k e =
        let h = three (are_valid scope args) _ (is_kind k (integer Int)) e in
        (row_names args h.0, same_kind k (integer Int) h.2)

    pub row_names : (es : Expressions) → are_valid scope es ≡ true → RowNames sc es
    row_names no_expressions e = tt
    row_names (expressions a es) e = let h = both (is_valid scope a) (are_valid scope es) e in
        (names a h.0, row_names es h.1)

    pub lvalue_names : (p : Lvalue) → is_valid_lvalue scope p ≡ true → LvalueNames sc p
    lvalue_names (lvalue kind line node) e = place_names node kind e

    place_names : (n : LvalueNode) (k : Kind) → is_valid_lvalue_node scope n k ≡ true → PlaceNames sc n k
    place_names (automatic x) k e =
        let v = valid.variable_at scope x in
        let h = both v.is_object (is_named_as v.kind k) e in
        subst (λ o. IsNamedAs o k) (sym (object_named g x h.0)) (named_within v.kind k h.1)
    place_names (static n) k e = g.static n k e
    place_names (deref a) k e = names a (three (is_valid scope a) _ _ e).0
    place_names (index form size a b) k e =
        let h = seven (is_valid scope a) (is_valid scope b) _ _ _ _ _ e in (names a h.0, names b h.1)
    place_names (member p at size) k e =
        let h = three (is_valid_lvalue scope p) (has_member (lvalue_kind p) at size) (is_member k at size) e in
        let m = three (size_of_kind k == size) (is_size size) (nat_le (at + size) (2 ^ 32)) h.2 in (
          lvalue_names p h.0,
          structure_size (lvalue_kind p) (at + size) (member_fits (lvalue_kind p) at size h.1),
          no_more (size_of_kind k) size m.0,
        )
    place_names (arrow a at size) k e = names a (three (is_valid scope a) _ _ e).0
    place_names (member_of_value a at size) k e =
        let h = three (is_valid scope a) (has_member (kind_of a) at size) (is_member k at size) e in
        let m = three (size_of_kind k == size) (is_size size) (nat_le (at + size) (2 ^ 32)) h.2 in
        (names a h.0, member_fits (kind_of a) at size h.1, no_more (size_of_kind k) size m.0)
    place_names (parenthesized_lvalue p) k e = let h = both (is_valid_lvalue scope p) (is_kind k (lvalue_kind p)) e in
        (lvalue_names p h.0, same_kind k (lvalue_kind p) h.1)
