-- What each step of typing does to a state whose types are spelled.
use Rattle.std.proofs.Common.{◌≡◌, ◌⊎◌, inl, inr, ℕ, suc, ◌==◌, Bool, true, false, ◌&&◌, ◌||◌, arith, refl, sym, ap}
use Rattle.std.proofs.Common.{◌∙◌, subst, List, [], ◌∷◌, ◌++◌, ◌+◌, length, Option, Some, None, if◌then◌else◌}
use Rattle.std.specs.Prelude.{nat_lt, not}
use Rattle.std.specs.List.{list_any}
use Rattle.std.proofs.lemmas.Bool.{and_from, eq-eqb, le-ltb, ltb-false, or_from}
use Rattle.c_tree.specs.declared.c_type.TypeWord.{TypeWord}
use Rattle.c_tree.specs.declared.c_type.TypeWord.TheVariants as word
use Rattle.c_tree.specs.TypesAgree.{same_word, same_words}
use Rattle.c_rules.proofs.SameTypes.{words_are}
use Rattle.c_rules.proofs.TypeKinds.{same_number}
use Rattle.c_place_rules.specs.Operands.{Operand, a_value, a_place, a_variable, a_function}
use Rattle.c_scope.specs.declared.meaning.Designated.{Designated}
use Rattle.c_scope.specs.declared.meaning.Designated.TheVariants as what
use Rattle.c_scope.specs.declared.meaning.Entity.{Entity}
use Rattle.c_scope.specs.declared.meaning.Meaning.{Meaning}
use Rattle.c_scope.specs.declared.meaning.Meaning.TheVariants as meaning
use Rattle.c_scope.specs.declared.meaning.Storage.{Storage}
use Rattle.c_scope.specs.declared.meaning.Storage.TheVariants as storage
use Rattle.c_scope.specs.Composite.{composite}
use Rattle.c_scope.specs.Declaring.{Declaration, has_linkage, is_function}
use Rattle.c_scope.specs.Environment.{entity_with, in_file, linked, type_or, visible_type}
use Rattle.c_scope.specs.Environment.{with_declarator, with_name, without_linkage}
use Rattle.c_scope.specs.Names.{Name, Names, bound, declared}
use Rattle.c_scope.specs.Names as names
use Rattle.c_operand_typing.specs.Calls.{place_among, with_type}
use Rattle.c_operand_typing.specs.Operators.{object_taken, variable_named, with_taken}
use Rattle.c_operand_typing.specs.Primaries.{is_undefined, used_as, with_literal, with_use}
use Rattle.c_typing_state.specs.State.{State, extents}
use Rattle.typing_laws.specs.Validity.Steps.{Structures}
use Rattle.typing_laws.specs.SpelledTypes.Spelled.{IsFunctionType}
use Rattle.typing_laws.proofs.Common.{conflict}
use Rattle.typing_laws.proofs.SpelledTypes.Composites.{composite_spelled, none_first}
use Rattle.typing_laws.specs.Types.Typed.{are_different, HasType, IsEntity, IsNamed, IsSpelled}
use Rattle.typing_laws.specs.Types.Typed.{Types}
use Rattle.typing_laws.proofs.Types.Kept.{each_append, each_bound, each_declared, each_meaning}

-- states with the same structures, whose types are still spelled
pub record Stays (s t : State) : Type 0 where
  pub types : Types s → Types t
  pub extents : extents t ≡ extents s

pub stays_same : (s : State) → Stays s s
stays_same s = record { types = λ h. h; extents = refl }

use_stays : (is : Bool) (line : ℕ) (s : State) → Stays s (if is then with_use line s else s)
use_stays true line s = record {
  types = λ h. record {
    outer = h.outer;
    current = h.current;
    members = h.members;
    entities = h.entities;
    functions = h.functions;
    different = h.different;
  };
  extents = refl;
}
use_stays false line s = stays_same s

pub used_stays : (is : Bool) (line : ℕ) (m : Option Meaning) (s : State) → Stays s (used_as is line m s)
used_stays is line None s = stays_same s
used_stays is line (Some (meaning.Typedef type)) s = stays_same s
used_stays is line (Some (meaning.Constant w)) s = stays_same s
used_stays is line (Some (meaning.Named (what.Object n) type)) s = stays_same s
used_stays is line (Some (meaning.Named (what.Static n) type)) s = stays_same s
used_stays is line (Some (meaning.Named (what.Function n) type)) s = use_stays (is && is_undefined n s) line s
used_stays is line (Some (meaning.Named (what.Library f) type)) s = stays_same s
used_stays is line (Some (meaning.Named (what.Variable n) type)) s = stays_same s

taken_stays : (x : Option ℕ) (s : State) → Stays s (with_taken x s)
taken_stays None s = stays_same s
taken_stays (Some n) s = record {
  types = λ h. record {
    outer = h.outer;
    current = h.current;
    members = h.members;
    entities = h.entities;
    functions = h.functions;
    different = h.different;
  };
  extents = refl;
}

object_stays : (o : Operand) (s : State) → Stays s (object_taken o s)
object_stays (a_value v) s = stays_same s
object_stays (a_place p) s = taken_stays (variable_named p.tree) s
object_stays (a_variable x) s = stays_same s
object_stays (a_function f) s = stays_same s

pub address_stays : (is : Bool) (o : Operand) (s : State) → Stays s (if is then object_taken o s else s)
address_stays true o s = object_stays o s
address_stays false o s = stays_same s

pub literal_stays : (is : Bool) (bytes : List ℕ) (s : State) → Stays s (if is then with_literal bytes s else s)
literal_stays true bytes s = record {
  types = λ h. record {
    outer = h.outer;
    current = h.current;
    members = h.members;
    entities = h.entities;
    functions = h.functions;
    different = h.different;
  };
  extents = refl;
}
literal_stays false bytes s = stays_same s

-- one more type of functions

array_same : (c b : ℕ) → same_word (word.Array c b) (word.Array c b) ≡ true
array_same c b = and_from (c == c) (b == b) (eq-eqb c c refl) (eq-eqb b b refl)

word_same : (w : TypeWord) → same_word w w ≡ true
word_same word.Void = refl
word_same (word.Integer t) = same_number t
word_same (word.Enumeration n) = eq-eqb n n refl
word_same word.Pointer = refl
word_same (word.Array c b) = array_same c b
word_same word.OpenArray = refl
word_same (word.Structure n) = eq-eqb n n refl
word_same word.Const = refl
word_same word.Takes = refl
word_same word.Gives = refl

pub words_same : (ws : List TypeWord) → same_words ws ws ≡ true
words_same [] = refl
words_same (w ∷ ws) = and_from (same_word w w) (same_words ws ws) (word_same w) (words_same ws)

no_same : (type t : List TypeWord) → same_words type t ≡ false → same_words t type ≡ false
no_same type t e = by (same_words t type) refl
  where
    by : (b : Bool) → same_words t type ≡ b → b ≡ false
    by false g = refl
    by true g =
        conflict (sym e ∙ ap (λ z. same_words type z) (words_are t type g) ∙ words_same type)

-- a type behind the last place is none of those before it
others_by : (type t : List TypeWord) (ts : List (List TypeWord)) (b : Bool) → same_words type t ≡ b
    → nat_lt (if b then 0 else place_among type ts + 1) (suc (length ts)) ≡ false
    → (same_words type t ≡ false) × (nat_lt (place_among type ts) (length ts) ≡ false)
others_by type t ts true e g = absurd (let low = ltb-false 0 (suc (length ts)) g in omega arith)
others_by type t ts false e g = (
  e,
  le-ltb (place_among type ts) (length ts)
      (let low = ltb-false (place_among type ts + 1) (suc (length ts)) g in omega arith),
)

not_any : (t type : List TypeWord) (ts : List (List TypeWord)) → list_any (λ u. same_words t u) ts ≡ false
    → same_words t type ≡ false → list_any (λ u. same_words t u) (ts ++ type ∷ []) ≡ false
not_any t type [] e g = or_from (same_words t type) false g refl
not_any t type (x ∷ ts) e g = split (same_words t x) (list_any (λ u. same_words t u) ts) e
    (λ h. not_any t type ts h g)
  where
    split : (a b : Bool) → (a || b) ≡ false → (b ≡ false → list_any (λ u. same_words t u) (ts ++ type ∷ []) ≡ false)
        → (a || list_any (λ u. same_words t u) (ts ++ type ∷ [])) ≡ false
    split true b e h = absurd cc
    split false b e h = h e

different_more : (type : List TypeWord) (ts : List (List TypeWord)) → nat_lt (place_among type ts) (length ts) ≡ false
    → are_different ts ≡ true → are_different (ts ++ type ∷ []) ≡ true
different_more type [] e g = refl
different_more type (t ∷ ts) e g =
    let others = others_by type t ts (same_words type t) refl e in
    let old = both_false (list_any (λ u. same_words t u) ts) (are_different ts) g in
    and_true (list_any (λ u. same_words t u) (ts ++ type ∷ [])) (are_different (ts ++ type ∷ []))
    (not_any t type ts old.0 (no_same type t others.0)) (different_more type ts others.1 old.1)
  where
    both_false : (a b : Bool) → (not a && b) ≡ true → (a ≡ false) × (b ≡ true)
    both_false true b e = absurd cc
    both_false false b e = (refl, e)

    and_true : (a b : Bool) → a ≡ false → b ≡ true → (not a && b) ≡ true
    and_true true b e g = absurd cc
    and_true false b e g = g

type_by : (b : Bool) (type : List TypeWord) (s : State) → IsFunctionType (extents s) type
    → nat_lt (place_among type s.function_types) (length s.function_types) ≡ b
    → Stays s (if b then s else record s { function_types = s.function_types ++ type ∷ [] })
type_by true type s is e = stays_same s
type_by false type s is e = record {
  types = λ h. record {
    outer = h.outer;
    current = h.current;
    members = h.members;
    entities = h.entities;
    functions = each_append (IsFunctionType (extents s)) s.function_types (type ∷ []) h.functions (is, tt);
    different = different_more type s.function_types e h.different;
  };
  extents = refl;
}

pub type_stays : (type : List TypeWord) (s : State) → IsFunctionType (extents s) type → Stays s (with_type type s)
type_stays type s is = type_by (nat_lt (place_among type s.function_types) (length s.function_types)) type s is refl

-- a name of the innermost scope

pub name_types : (s : State) (name : Name) (m : Meaning) → Types s → IsNamed (extents s) m
    → Types (record s { environment = with_name name m s.environment })
name_types s name m h is = record {
  outer = h.outer;
  current = each_bound (IsNamed (extents s)) name m s.environment.names.current is h.current;
  members = h.members;
  entities = h.entities;
  functions = h.functions;
  different = h.different;
}

-- declarators

composite_by : (es : Structures) (s t : List TypeWord) (o : Option (List TypeWord)) → composite s t ≡ o → IsSpelled es s
    → IsSpelled es t → (d : List TypeWord) → IsSpelled es d → IsSpelled es (type_or o d)
composite_by es s t None e h g d is = is
composite_by es s t (Some c) e h g d is = composite_spelled es 1 s t c e h g

pub composite_type : (es : Structures) (s t d : List TypeWord) → IsSpelled es s → IsSpelled es t → IsSpelled es d
    → IsSpelled es (type_or (composite s t) d)
composite_type es s t d h g is = composite_by es s t (composite s t) refl h g d is

no_composite : (es : Structures) (t : List TypeWord) (o : Option (List TypeWord)) → composite [] t ≡ o
    → IsSpelled es t → (d : List TypeWord) → type_or o d ≡ d
no_composite es [] o e g d = absurd cc
no_composite es (w ∷ t) None e g d = refl
no_composite es (w ∷ t) (Some c) e g d = none_first w t c _ e

library_entity : (es : Structures) (s t : List TypeWord) → (s ≡ []) ⊎ IsSpelled es s → IsSpelled es t
    → (type_or (composite s t) s ≡ []) ⊎ IsSpelled es (type_or (composite s t) s)
library_entity es s t (inl e) g =
    inl (ap (λ z. type_or (composite z t) z) e ∙ no_composite es t (composite [] t) refl g [])
library_entity es s t (inr h) g = inr (composite_type es s t s h g h)

pub entity_type : (es : Structures) (d : Designated) (s t : List TypeWord) → HasType es d s → IsSpelled es t
    → HasType es d (type_or (composite s t) s)
entity_type es (what.Library f) s t h g = library_entity es s t h g
entity_type es (what.Object n) s t h g = composite_type es s t s h g h
entity_type es (what.Function n) s t h g = composite_type es s t s h g h
entity_type es (what.Static n) s t h g = composite_type es s t s h g h
entity_type es (what.Variable n) s t h g = composite_type es s t s h g h

pub spelled_has : (es : Structures) (d : Designated) (type : List TypeWord) → IsSpelled es type → HasType es d type
spelled_has es (what.Library f) type h = inr h
spelled_has es (what.Object n) type h = h
spelled_has es (what.Function n) type h = h
spelled_has es (what.Static n) type h = h
spelled_has es (what.Variable n) type h = h

pub library_visible : (es : Structures) (s t : List TypeWord) → (s ≡ []) ⊎ IsSpelled es s → IsSpelled es t
    → IsSpelled es (type_or (composite s t) t)
library_visible es s t (inl e) g =
    subst (IsSpelled es) (sym (ap (λ z. type_or (composite z t) t) e ∙ no_composite es t (composite [] t) refl g t)) g
library_visible es s t (inr h) g = composite_type es s t t h g g

visible_by : (es : Structures) (d : Designated) (s t : List TypeWord) → HasType es d s → IsSpelled es t
    → IsSpelled es (visible_type t (Some (meaning.Named d s)))
visible_by es (what.Library f) s t h g = library_visible es s t h g
visible_by es (what.Object n) s t h g = composite_type es s t t h g g
visible_by es (what.Function n) s t h g = composite_type es s t t h g g
visible_by es (what.Static n) s t h g = g
visible_by es (what.Variable n) s t h g = g

pub visible_spelled : (es : Structures) (t : List TypeWord) (m : Option Meaning)
    → ((x : Meaning) → m ≡ Some x → IsNamed es x) → IsSpelled es t → IsSpelled es (visible_type t m)
visible_spelled es t None h g = g
visible_spelled es t (Some (meaning.Typedef type)) h g = g
visible_spelled es t (Some (meaning.Constant w)) h g = g
visible_spelled es t (Some (meaning.Named d type)) h g = visible_by es d type t (h (meaning.Named d type) refl) g

new_entity : (es : Structures) (b : Bool) (f n : ℕ) (type : List TypeWord) → IsSpelled es type
    → HasType es (if b then what.Function f else what.Object n) type
new_entity es true f n type h = h
new_entity es false f n type h = h

entity_by : (s : State) (d : Declaration) → Types s → IsSpelled (extents s) d.type → (o : Option Entity)
    → declared d.name s.environment.entities ≡ o → IsEntity (extents s) (entity_with s.environment d o)
entity_by s d h is None e = new_entity (extents s) (is_function d.type) _ s.environment.statics d.type is
entity_by s d h is (Some old) e =
    entity_type (extents s) old.what old.c_type d.type
    (each_declared (IsEntity (extents s)) d.name old s.environment.entities h.entities e) is

linked_types : (s : State) (d : Declaration) → Types s → IsSpelled (extents s) d.type
    → Types (record s { environment = linked s.environment d })
linked_types s d h is =
    let es = extents s in
    let x = entity_with s.environment d (declared d.name s.environment.entities) in
    let visible = visible_spelled es d.type (names.meaning d.name s.environment.names)
    (each_meaning (IsNamed es) d.name s.environment.names h.outer h.current) is in
    record {
      outer = h.outer;
      current = each_bound (IsNamed es) d.name _ s.environment.names.current
          (spelled_has es x.what (visible_type d.type (names.meaning d.name s.environment.names)) visible) h.current;
      members = h.members;
      entities = each_bound (IsEntity es) d.name x s.environment.entities
          (entity_by s d h is (declared d.name s.environment.entities) refl) h.entities;
      functions = h.functions;
      different = h.different;
    }

bound_types : (s : State) (d : Declaration) (m : Meaning) (statics variables : ℕ) → Types s → IsNamed (extents s) m
    → Types (record s {
      environment = with_name d.name m (record s.environment { statics = statics; variables = variables });
    })
bound_types s d m statics variables h is = record {
  outer = h.outer;
  current = each_bound (IsNamed (extents s)) d.name m s.environment.names.current is h.current;
  members = h.members;
  entities = h.entities;
  functions = h.functions;
  different = h.different;
}

unlinked_types : (s : State) (d : Declaration) (z : Storage) → Types s → IsSpelled (extents s) d.type
    → Types (record s { environment = without_linkage z s.environment d })
unlinked_types s d storage.Typedef h is = name_types s d.name (meaning.Typedef d.type) h is
unlinked_types s d storage.Static h is = bound_types s d _ (s.environment.statics + 1) s.environment.variables h is
unlinked_types s d storage.Absent h is = bound_types s d _ s.environment.statics (s.environment.variables + 1) h is
unlinked_types s d storage.Extern h is = bound_types s d _ s.environment.statics (s.environment.variables + 1) h is
unlinked_types s d storage.Auto h is = bound_types s d _ s.environment.statics (s.environment.variables + 1) h is
unlinked_types s d storage.Register h is = bound_types s d _ s.environment.statics (s.environment.variables + 1) h is

declared_by : (s : State) (d : Declaration) (b : Bool) → Types s → IsSpelled (extents s) d.type
    → Types (record s { environment = if b then linked s.environment d else without_linkage d.storage s.environment d })
declared_by s d true h is = linked_types s d h is
declared_by s d false h is = unlinked_types s d d.storage h is

pub declarator_types : (s : State) (d : Declaration) → Types s → IsSpelled (extents s) d.type
    → Types (record s { environment = with_declarator s.environment d })
declarator_types s d h is = declared_by s d (has_linkage (in_file s.environment) d) h is

linked_extents : (s : State) (d : Declaration) (b : Bool)
    → extents (record s {
      environment = if b then linked s.environment d else without_linkage d.storage s.environment d;
    }) ≡ extents s
linked_extents s d true = refl
linked_extents s d false = by d.storage
  where
    by : (z : Storage) → extents (record s { environment = without_linkage z s.environment d }) ≡ extents s
    by storage.Typedef = refl
    by storage.Static = refl
    by storage.Absent = refl
    by storage.Extern = refl
    by storage.Auto = refl
    by storage.Register = refl

pub declarator_extents : (s : State) (d : Declaration)
    → extents (record s { environment = with_declarator s.environment d }) ≡ extents s
declarator_extents s d = linked_extents s d (has_linkage (in_file s.environment) d)
