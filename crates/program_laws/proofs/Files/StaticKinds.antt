-- The kinds of static objects by their numbers.
use Rattle.std.proofs.Common.{◌≡◌, ℕ, zero, suc, ◌+◌, ◌<◌, Bool, true, false, refl, sym, subst, ap, ◌∙◌, List, [], ◌∷◌}
use Rattle.std.proofs.Common.{◌++◌, length, map, Some, None, arith, if◌then◌else◌}
use Rattle.std.specs.Prelude.{get_or, slice_get}
use Rattle.std.proofs.lemmas.Bool.{lt-ltb}
use Rattle.std.proofs.lemmas.List.{append_assoc}
use Rattle.c_tree.specs.declared.c_type.TypeWord.{TypeWord}
use Rattle.c_tree.specs.declared.expression.Kind.{Kind}
use Rattle.c_tree.specs.declared.expression.Kind.TheVariants as kind
use Rattle.c_tree.specs.Kinds.{is_size}
use Rattle.c_tree.specs.Programs.{StaticObject}
use Rattle.c_tree.specs.Valid.{Scope, has_number}
use Rattle.c_scope.specs.declared.meaning.Designated.{Designated}
use Rattle.c_scope.specs.declared.meaning.Designated.TheVariants as what
use Rattle.c_scope.specs.declared.meaning.Entity.{Entity}
use Rattle.c_scope.specs.Names.{Name, Names, declared, is_name}
use Rattle.c_typing_state.specs.State.{Literal, extents}
use Rattle.c_unit_typing.specs.Declarations.{kind_in}
use Rattle.c_unit_typing.specs.Files.{File}
use Rattle.c_unit_typing.specs.Programs.{final_type, linked_object, linked_objects, literal_object, parts_of}
use Rattle.c_unit_typing.specs.Programs.{program_of, static_objects}
use Rattle.typing_laws.specs.Validity.Sound.{Extended, IsLiteral}
use Rattle.typing_laws.proofs.Validity.Common.{the_same}
use Rattle.typing_laws.proofs.Validity.Sound.{get_extended}
use Rattle.program_laws.specs.Files.Numbers.{AreInOrder, HasKind, entries}

kinds_low : (os : List StaticObject) (n : ℕ) (o : StaticObject) → slice_get os n ≡ Some o
    → n < length (map (λ s. s.kind) os)
kinds_low [] n o e = absurd cc
kinds_low (x ∷ os) zero o e = omega arith
kinds_low (x ∷ os) (suc n) o e = let low = kinds_low os n o e in omega arith

kinds_at : (os : List StaticObject) (n : ℕ) (o : StaticObject) → slice_get os n ≡ Some o
    → get_or (map (λ s. s.kind) os) n kind.Void ≡ o.kind
kinds_at [] n o e = absurd cc
kinds_at (x ∷ os) zero o e = ap (λ s. s.kind) (the_same e)
kinds_at (x ∷ os) (suc n) o e = kinds_at os n o e

pub entry_kind : (f : File) → AreInOrder f → (k : ℕ) (e : ℕ × StaticObject) → slice_get (entries f) k ≡ Some e
    → HasKind (map (λ s. s.kind) (program_of f).statics) e.0 e.1.kind
entry_kind f h k e is =
    let at = h.each k e is in
    record {
      there = lt-ltb e.0 (length (map (λ s. s.kind) (static_objects f))) (kinds_low (static_objects f) e.0 e.1 at);
      kind = kinds_at (static_objects f) e.0 e.1 at;
    }

pub literal_got : (ls : List Literal) (n : ℕ) (l : Literal) → slice_get ls n ≡ Some l
    → slice_get (map literal_object ls) n ≡ Some (literal_object l)
literal_got [] n l e = absurd cc
literal_got (x ∷ ls) zero l e = ap (λ z. Some (literal_object z)) (the_same e)
literal_got (x ∷ ls) (suc n) l e = literal_got ls n l e

pub literal_kind : (f : File) → AreInOrder f → (scope : Scope)
    → scope.statics ≡ map (λ s. s.kind) (program_of f).statics → (n : ℕ) (l : Literal)
    → slice_get f.state.literals n ≡ Some l → is_size (length l.bytes) ≡ true → IsLiteral scope l
literal_kind f h scope same n l e sized =
    let ls = map literal_object f.state.literals in
    let os = linked_objects f f.state.environment.entities in
    let behind : Extended ls (entries f) = record { rest = f.statics ++ os; is = append_assoc ls f.statics os } in
    let own = entry_kind f h n (literal_object l)
    (get_extended ls (entries f) behind n (literal_object l) (literal_got f.state.literals n l e)) in
    record {
      sized = sized;
      there = ap (λ z. has_number z l.number) same ∙ own.there;
      kind = ap (λ z. get_or z l.number kind.Void) same ∙ own.kind;
    }

-- the entry of an object with linkage

record HasEntryOf (os : List (ℕ × StaticObject)) (n : ℕ) (k : Kind) : Type 0 where
  place : ℕ
  object : StaticObject
  there : slice_get os place ≡ Some (n, object)
  kind : object.kind ≡ k

pub get_behind : {A : Type 0} (xs ys : List A) (i : ℕ) → slice_get (xs ++ ys) (length xs + i) ≡ slice_get ys i
get_behind [] ys i = let same : 0 + i ≡ i = omega arith in ap (slice_get ys) same
get_behind (x ∷ xs) ys i =
    let next : suc (length xs) + i ≡ suc (length xs + i) = omega arith in
    ap (slice_get (x ∷ (xs ++ ys))) next ∙ get_behind xs ys i

entry_behind : (before os : List (ℕ × StaticObject)) (n : ℕ) (k : Kind) → HasEntryOf os n k
    → HasEntryOf (before ++ os) n k
entry_behind before os n k h = record {
  place = length before + h.place;
  object = h.object;
  there = get_behind before os h.place ∙ h.there;
  kind = h.kind;
}

entry_before : (os more : List (ℕ × StaticObject)) (n : ℕ) (k : Kind) → HasEntryOf os n k → HasEntryOf (os ++ more) n k
entry_before os more n k h = record {
  place = h.place;
  object = h.object;
  there = get_extended os (os ++ more) (record { rest = more; is = refl }) h.place (n, h.object) h.there;
  kind = h.kind;
}

object_entry : (f : File) (type : List TypeWord) (d : Designated) (n : ℕ) → d ≡ what.Object n
    → HasEntryOf (linked_object f type d) n (kind_in f.state (final_type (extents f.state) type))
object_entry f type (what.Object m) n e = record {
  place = 0;
  object = record {
    kind = kind_in f.state (final_type (extents f.state) type);
    is_literal = false;
    function = None;
    parts = parts_of m f.initializers;
  };
  there = ap (λ z. Some (
    z,
    record {
      kind = kind_in f.state (final_type (extents f.state) type);
      is_literal = false;
      function = None;
      parts = parts_of m f.initializers;
    },
  )) (number e);
  kind = refl;
}
  where
    number : what.Object m ≡ what.Object n → m ≡ n
    number e = cc
object_entry f type (what.Static m) n e = absurd cc
object_entry f type (what.Function m) n e = absurd cc
object_entry f type (what.Library r) n e = absurd cc
object_entry f type (what.Variable m) n e = absurd cc

entity_entry : (f : File) (e : Name × Entity) (es : Names Entity) (name : Name) (x : Entity) (n : ℕ) (b : Bool)
    → x.what ≡ what.Object n
    → (declared name es ≡ Some x
    → HasEntryOf (linked_objects f es) n (kind_in f.state (final_type (extents f.state) x.c_type)))
    → (if b then Some e.1 else declared name es) ≡ Some x
    → HasEntryOf (linked_objects f (e ∷ es)) n (kind_in f.state (final_type (extents f.state) x.c_type))
entity_entry f e es name x n true w h g =
    let kind = kind_in f.state (final_type (extents f.state) x.c_type) in
    entry_before (linked_object f e.1.c_type e.1.what) (linked_objects f es) n kind
    (subst (λ z. HasEntryOf (linked_object f z.c_type z.what) n kind) (sym (the_same g))
    (object_entry f x.c_type x.what n w))
entity_entry f e es name x n false w h g =
    entry_behind (linked_object f e.1.c_type e.1.what) (linked_objects f es) n
    (kind_in f.state (final_type (extents f.state) x.c_type)) (h g)

linked_entry : (f : File) (es : Names Entity) (name : Name) (x : Entity) (n : ℕ) → x.what ≡ what.Object n
    → declared name es ≡ Some x
    → HasEntryOf (linked_objects f es) n (kind_in f.state (final_type (extents f.state) x.c_type))
linked_entry f [] name x n w g = absurd cc
linked_entry f (e ∷ es) name x n w g =
    entity_entry f e es name x n (is_name name e.0) w (linked_entry f es name x n w) g

pub entity_kind : (f : File) → AreInOrder f → (name : Name) (x : Entity) (n : ℕ)
    → declared name f.state.environment.entities ≡ Some x → x.what ≡ what.Object n
    → HasKind (map (λ s. s.kind) (program_of f).statics) n (kind_in f.state (final_type (extents f.state) x.c_type))
entity_kind f h name x n e w =
    let o = entry_behind (map literal_object f.state.literals ++ f.statics)
    (linked_objects f f.state.environment.entities) n (kind_in f.state (final_type (extents f.state) x.c_type))
    (linked_entry f f.state.environment.entities name x n w e) in
    subst (HasKind (map (λ s. s.kind) (program_of f).statics) n) o.kind (entry_kind f h o.place (n, o.object) o.there)
