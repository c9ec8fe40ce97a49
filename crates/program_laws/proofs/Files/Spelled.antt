-- Declarations leave types that are spelled.
use Rattle.std.proofs.Common.{◌≡◌, inr, ℕ, Bool, true, false, ◌&&◌, ◌||◌, refl, sym, ap, ◌∙◌, subst, List, []}
use Rattle.std.proofs.Common.{◌∷◌, ◌++◌, Option, Some, None, if◌then◌else◌}
use Rattle.std.specs.Prelude.{Ok, Err, not, is_none, is_some, option_map}
use Rattle.std.specs.List.{list_all}
use Rattle.c_syntax.specs.declared.position.Position.{Position}
use Rattle.c_syntax.specs.Statements as t
use Rattle.c_syntax.specs.Tree.{Expression, Initializer, Specifiers}
use Rattle.c_tree.specs.declared.c_type.TypeWord.{TypeWord}
use Rattle.c_tree.specs.declared.c_type.TypeWord.TheVariants as word
use Rattle.c_tree.specs.Extents.{extent_of}
use Rattle.c_tree.specs.Statements.{DeclaredVariable, Part}
use Rattle.c_faults.specs.declared.fault.Rule.TheVariants.{MisplacedStorage, Redeclared}
use Rattle.c_faults.specs.Answer.{Answer, violates, ◌>>=◌}
use Rattle.c_rules.specs.Values.{Value}
use Rattle.c_declarators.specs.Derivations.{array_of, is_large}
use Rattle.c_initializer_rules.specs.Initializing.{begun}
use Rattle.c_initializer_rules.specs.Initializing as initializing
use Rattle.c_initializer_rules.specs.Placed.{count_of, parts_in}
use Rattle.c_scope.specs.declared.meaning.Designated.{Designated}
use Rattle.c_scope.specs.declared.meaning.Designated.TheVariants as what
use Rattle.c_scope.specs.declared.meaning.Entity.{Entity}
use Rattle.c_scope.specs.declared.meaning.Meaning.{Meaning}
use Rattle.c_scope.specs.declared.meaning.Meaning.TheVariants as meaning
use Rattle.c_scope.specs.declared.meaning.Storage.{Storage}
use Rattle.c_scope.specs.declared.meaning.Storage.TheVariants as storage
use Rattle.c_scope.specs.Composite.{composite}
use Rattle.c_scope.specs.Declaring.{Declaration, has_linkage, is_complete, is_extern, is_function}
use Rattle.c_scope.specs.Declaring.{is_linked, is_tentative, is_typedef}
use Rattle.c_scope.specs.Declaring.{judged as judged_declarator, sized_by_initializer}
use Rattle.c_scope.specs.Environment.{in_file, surroundings, type_or, visible_type}
use Rattle.c_scope.specs.Environment.{with_declarator as with_declared}
use Rattle.c_scope.specs.Names.{Name, Names, bound, declared}
use Rattle.c_scope.specs.Names as names
use Rattle.c_declarator_typing.specs.Declarators.{Shape, built_in}
use Rattle.c_declarator_typing.specs.Specifications.{Specification}
use Rattle.c_typing_state.specs.State.{State, done, extents, judged, ◌>>>◌}
use Rattle.c_expression_typing.specs.Constructs.{valued}
use Rattle.c_expression_typing.specs.Typed.{shape, specification, typed}
use Rattle.c_unit_typing.specs.Declarations.{alone_in, completed, declaration, declaration_of, declared_as}
use Rattle.c_unit_typing.specs.Declarations.{declared_with, entity_with_type, has_place, initialized_if}
use Rattle.c_unit_typing.specs.Declarations.{is_same_object, named_by, specified, stored_once, with_declarator}
use Rattle.c_unit_typing.specs.Declarations.{with_declarators, with_entity, with_others, with_parts, with_size}
use Rattle.c_unit_typing.specs.Declarations.{with_static, with_variable}
use Rattle.c_unit_typing.specs.Files.{File, FileTyping}
use Rattle.c_unit_typing.specs.Initializers.{initialized}
use Rattle.c_unit_typing.specs.Lines.{initializer_line}
use Rattle.typing_laws.proofs.SpelledTypes.Composites.{IsJoint, alike, composite_second, first_sized, joins}
use Rattle.typing_laws.proofs.SpelledTypes.Composites.{first_is, none_first, none_second, second_sized}
use Rattle.typing_laws.specs.Validity.Regular.{are_regular_specifiers, is_regular}
use Rattle.typing_laws.specs.Validity.More.{AreMore}
use Rattle.typing_laws.specs.Validity.Sound.{IsFormed, is_sized_array}
use Rattle.typing_laws.specs.Validity.Steps.{Structures}
use Rattle.typing_laws.proofs.Validity.Common.{first, second, the_same}
use Rattle.typing_laws.proofs.Validity.Kept.{extent_kept}
use Rattle.typing_laws.specs.Declarators.Extending.{Extending, Extends}
use Rattle.typing_laws.specs.Declarators.Given.{AreCounted, IsShapeOf, IsSpecified, ValueHasWords}
use Rattle.typing_laws.proofs.Declarators.Chained.{extends_on, extends_same}
use Rattle.typing_laws.proofs.Declarators.Recursion.{shape_extends, specification_extends, typed_extends}
use Rattle.typing_laws.proofs.Declarators.Types.{without_faults}
use Rattle.typing_laws.specs.Declarations.Binding.{IfDeclared, linked_meaning, unlinked_meaning}
use Rattle.typing_laws.proofs.Declarations.Bound.{declarator_binds}
use Rattle.typing_laws.proofs.Declarations.Judged.{answered, declared_as_declares, complete_by, some_extent}
use Rattle.typing_laws.specs.Scopes.Leaving.{Leading}
use Rattle.typing_laws.specs.Scopes.Regular.{are_regular_declarators, initializer_of, is_regular_declaration}
use Rattle.typing_laws.specs.Scopes.Regular.{is_regular_initializer_if, is_regular_object}
use Rattle.typing_laws.proofs.Scopes.Declarations.{declarator_leads, specified_extends}
use Rattle.typing_laws.proofs.Scopes.Initializers.{IfBehind, ValueWalk, initialized_walks, value_extends}
use Rattle.typing_laws.specs.Types.Typed.{HasType, IsEntity, IsNamed, IsSpelled, OfSpecification, OfValueType}
use Rattle.typing_laws.specs.Types.Typed.{Typed, Types, nothing}
use Rattle.typing_laws.proofs.Types.Built.{array_spelled, built_spelled}
use Rattle.typing_laws.proofs.Types.Declarators.{IsDeclared}
use Rattle.typing_laws.proofs.Types.Kept.{each_bound, each_declared, each_meaning, spelled_kept}
use Rattle.typing_laws.proofs.Types.Parameters.{IsJudged, judged_known}
use Rattle.typing_laws.proofs.Types.Recursion.{shape_typed, specification_typed, typed_types}
use Rattle.typing_laws.proofs.Types.States.{declarator_extents, declarator_types, composite_type}
use Rattle.typing_laws.proofs.Types.States.{library_visible}
use Rattle.typing_laws.proofs.Types.States.{name_types, spelled_has, visible_spelled}
use Rattle.typing_laws.proofs.Types.Steps.{then_typed, valued_typed}
use Rattle.typing_laws.proofs.Common.{filed, unless_large}

-- values

pub record Values (s t : State) : Type 0 where
  pub extends : Extends false s t
  pub types : Types s → Types t

value_by : (s : State) (a : Answer (State × Value)) → Extending false s ValueHasWords a
    → (Types s → Typed OfValueType a) → IfBehind Values s a
value_by s (Ok r) e h = record { extends = e.0; types = λ types. (h types).0 }
value_by s (Err f) e h = tt

value_typed : (is : Bool) (e : Expression) → is_regular e ≡ true → (s : State) → IsFormed s
    → IfBehind Values s (valued (typed is e) s)
value_typed is e c s formed =
    value_by s (valued (typed is e) s) (value_extends is e c s formed)
    (λ types. valued_typed s (typed is e) (typed_extends is e c s formed) (typed_types is e c s formed types))

pub types_walk : ValueWalk Values
types_walk = record {
  same = λ s formed. record { extends = extends_same false s formed; types = λ h. h };
  on = λ s t u h g. record {
    extends = extends_on false s t u h.extends g.extends;
    types = λ types. g.types (h.types types);
  };
  formed = λ s t h. h.extends.formed;
  value = value_typed;
}

-- an object gets its size

entity_sized : (es : Structures) (d : Designated) (s t : List TypeWord) → HasType es d s → IsSpelled es t
    → IsSpelled es (type_or (composite s t) t)
entity_sized es (what.Library f) s t h g = library_visible es s t h g
entity_sized es (what.Object n) s t h g = composite_type es s t t h g g
entity_sized es (what.Function n) s t h g = composite_type es s t t h g g
entity_sized es (what.Static n) s t h g = composite_type es s t t h g g
entity_sized es (what.Variable n) s t h g = composite_type es s t t h g g

entity_types : (s : State) (name : Name) (type : List TypeWord) → Types s → IsSpelled (extents s) type
    → (o : Option Entity) → declared name s.environment.entities ≡ o
    → Types (record s { environment = with_entity name (option_map (entity_with_type type) o) s.environment })
entity_types s name type h is None e = h
entity_types s name type h is (Some old) e = record {
  outer = h.outer;
  current = h.current;
  members = h.members;
  entities = each_bound (IsEntity (extents s)) name (entity_with_type type old) s.environment.entities
      (spelled_has (extents s) old.what (type_or (composite old.c_type type) type)
      (entity_sized (extents s) old.what old.c_type type
      (each_declared (IsEntity (extents s)) name old s.environment.entities h.entities e) is)) h.entities;
  functions = h.functions;
  different = h.different;
}

entity_extents : (s : State) (name : Name) (o : Option Entity)
    → extents (record s { environment = with_entity name o s.environment }) ≡ extents s
entity_extents s name None = refl
entity_extents s name (Some e) = refl

size_types : (s : State) (d : Designated) (name : Name) (type : List TypeWord) → Types s
    → IsSpelled (extents s) type → Types (record s { environment = with_size d name type s.environment })
size_types s (what.Object n) name type h is =
    let o = option_map (entity_with_type type) (declared name s.environment.entities) in
    let t = record s { environment = with_entity name o s.environment } in
    name_types t name (meaning.Named (what.Object n) type)
    (entity_types s name type h is (declared name s.environment.entities) refl)
    (subst (λ es. IsSpelled es type) (sym (entity_extents s name o)) is)
size_types s (what.Static n) name type h is = name_types s name (meaning.Named (what.Static n) type) h is
size_types s (what.Function n) name type h is = name_types s name (meaning.Named (what.Function n) type) h is
size_types s (what.Library r) name type h is = name_types s name (meaning.Named (what.Library r) type) h (inr is)
size_types s (what.Variable n) name type h is = name_types s name (meaning.Named (what.Variable n) type) h is

large_by : (s : State) → Types s → (d : Designated) (name : Name) (array : TypeWord) (element : List TypeWord)
    (line : ℕ) → IsSpelled (extents s) (array ∷ element) → (large : Bool)
    → Typed nothing (unless_large s d name array element line large)
large_by s h d name array element line is true = tt
large_by s h d name array element line is false = (size_types s d name (array ∷ element) h is, tt)

sized_by : (s : State) → Types s → (d : Designated) (name : Name) (array : TypeWord) (element : List TypeWord)
    (line : ℕ) → IsSpelled (extents s) (array ∷ element) → (b : Bool)
    → Typed nothing (if not b then violates Redeclared line
    else unless_large s d name array element line (is_large array))
sized_by s h d name array element line is false = tt
sized_by s h d name array element line is true = large_by s h d name array element line is (is_large array)

-- the elements of an array of unknown size are complete
abbrev pub HasElements : Structures → List TypeWord → Type 0
HasElements es type =
    (element : List TypeWord) → type ≡ word.OpenArray ∷ element → is_some (extent_of es element) ≡ true

completed_typed : (s : State) → Types s → (d : Designated) (name : Name × ℕ) (type : List TypeWord) (n : ℕ)
    → IsSpelled (extents s) type → HasElements (extents s) type → Typed nothing (completed d name type n s)
completed_typed s h d name (word.OpenArray ∷ element) n is known =
    let e = some_extent (extent_of (extents s) element) (known element refl) in
    sized_by s h d name.0 (array_of n (extent_of (extents s) element)) element name.1
    (array_spelled (extents s) n element is e.0 e.1)
    (is_same_object d name.0 (array_of n (extent_of (extents s) element) ∷ element) s.environment)
completed_typed s h d name [] n is known = (h, tt)
completed_typed s h d name (word.Void ∷ ws) n is known = (h, tt)
completed_typed s h d name (word.Integer t ∷ ws) n is known = (h, tt)
completed_typed s h d name (word.Enumeration k ∷ ws) n is known = (h, tt)
completed_typed s h d name (word.Pointer ∷ ws) n is known = (h, tt)
completed_typed s h d name (word.Array c b ∷ ws) n is known = (h, tt)
completed_typed s h d name (word.Structure k ∷ ws) n is known = (h, tt)
completed_typed s h d name (word.Const ∷ ws) n is known = (h, tt)
completed_typed s h d name (word.Takes ∷ ws) n is known = (h, tt)
completed_typed s h d name (word.Gives ∷ ws) n is known = (h, tt)

elements_kept : (es more : Structures) → AreMore es more → (type : List TypeWord) → HasElements es type
    → HasElements more type
elements_kept es more h type known element e =
    let x = some_extent (extent_of es element) (known element e) in
    ap is_some (extent_kept es more h element x.0 x.1)

abbrev parted : List Part → State × List TypeWord → Answer (State × (List TypeWord × List Part))
parted ps r = Ok (r.0, (r.1, ps))

parted_typed : (ps : List Part) (a : Answer (State × List TypeWord)) → Typed nothing a → Typed nothing (a >>= parted ps)
parted_typed ps (Ok r) h = h
parted_typed ps (Err e) h = tt

initialized_then : (s : State) → Types s → (d : Designated) (name : Name × ℕ) (type : List TypeWord)
    → IsSpelled (extents s) type → HasElements (extents s) type → (a : Answer (State × initializing.Initializing))
    → IfBehind Values s a
    → Typed {A = List TypeWord × List Part} nothing (a >>= λ r. (completed d name type (count_of r.1.parts)
    >>> λ type. done (type, parts_in r.1.parts)) r.0)
initialized_then s types d name type is known (Ok r) h =
    parted_typed (parts_in r.1.parts) (completed d name type (count_of r.1.parts) r.0)
    (completed_typed r.0 (h.types types) d name type (count_of r.1.parts)
    (spelled_kept (extents s) (extents r.0) h.extends.more type is)
    (elements_kept (extents s) (extents r.0) h.extends.more type known))
initialized_then s types d name type is known (Err e) h = tt

-- an array of unknown size that has an initializer
abbrev KnownFor : Structures → List TypeWord → Option Initializer → Type 0
KnownFor es type x = is_some x ≡ true → HasElements es type

initialized_typed : (s : State) → IsFormed s → Types s → (d : Designated) (name : Name × ℕ) (type : List TypeWord)
    → IsSpelled (extents s) type → (x : Option Initializer) → is_regular_initializer_if x ≡ true
    → KnownFor (extents s) type x → Typed nothing (initialized_if d name type x s)
initialized_typed s formed types d name type is None c known = (types, tt)
initialized_typed s formed types d name type is (Some x) c known =
    initialized_then s types d name type is (known refl) (initialized x (begun type) s)
    (initialized_walks Values types_walk x c (begun type) s formed)

-- what a declarator binds its name to

record OfBound (has_initializer : Bool) (es : Structures) (m : Meaning) : Type 0 where
  named : IsNamed es m
  known : has_initializer ≡ true → (d : Designated) (type : List TypeWord) → m ≡ meaning.Named d type
      → HasElements es type

no_open : (c b : ℕ) (P : Type 0) → word.Array c b ≡ word.OpenArray → P
no_open c b P e = absurd cc

joint_open : (v w x : TypeWord) → IsJoint v w x → x ≡ word.OpenArray → w ≡ word.OpenArray
joint_open v w x (alike e g) h = sym e ∙ sym g ∙ h
joint_open v w x (first_sized c b e g k) h = g
joint_open v w x (second_sized c b e g k) h = no_open c b _ (sym g ∙ sym k ∙ h)

element_of : (es : Structures) (w : TypeWord) (t : List TypeWord) → w ≡ word.OpenArray
    → is_some (extent_of es (sized_by_initializer (w ∷ t))) ≡ true → is_some (extent_of es t) ≡ true
element_of es w t e g = ap (λ z. is_some (extent_of es (sized_by_initializer (z ∷ t)))) (sym e) ∙ g

rest_is : {v w : TypeWord} {s t : List TypeWord} → v ∷ s ≡ w ∷ t → s ≡ t
rest_is e = cc

nothing_complete : (es : Structures) (P : Type 0) → is_some (extent_of es []) ≡ true → P
unfolding extent_of
nothing_complete es P e = absurd cc

composite_known : (es : Structures) (s t c : List TypeWord) → composite s t ≡ Some c
    → is_some (extent_of es (sized_by_initializer t)) ≡ true → HasElements es c
composite_known es [] (w ∷ t) c e g element is = none_first w t c _ e
composite_known es (v ∷ s) [] c e g element is = none_second v s c _ e
composite_known es [] [] c e g element is = nothing_complete es _ g
composite_known es (v ∷ s) (w ∷ t) c e g element is =
    let j = joins v s w t c e in
    let head = first_is (sym j.is ∙ is) in
    let tail = rest_is (sym j.is ∙ is) in
    let x = some_extent (extent_of es t) (element_of es w t (joint_open v w j.first j.joint head) g) in
    ap (λ z. is_some (extent_of es z)) (sym tail) ∙ ap is_some (composite_second es s t j.rest j.behind x.0 x.1)

plain_known : (es : Structures) (t : List TypeWord) → is_some (extent_of es (sized_by_initializer t)) ≡ true
    → HasElements es t
plain_known es t g element e = ap (λ z. is_some (extent_of es (sized_by_initializer z))) (sym e) ∙ g

or_known : (es : Structures) (s t : List TypeWord) (o : Option (List TypeWord)) → composite s t ≡ o
    → is_some (extent_of es (sized_by_initializer t)) ≡ true → HasElements es (type_or o t)
or_known es s t None e g = plain_known es t g
or_known es s t (Some c) e g = composite_known es s t c e g

if_known : (es : Structures) (s t : List TypeWord) (b : Bool) → is_some (extent_of es (sized_by_initializer t)) ≡ true
    → HasElements es (if b then type_or (composite s t) t else t)
if_known es s t true g = or_known es s t (composite s t) refl g
if_known es s t false g = plain_known es t g

visible_known : (es : Structures) (t : List TypeWord) (m : Option Meaning)
    → is_some (extent_of es (sized_by_initializer t)) ≡ true → HasElements es (visible_type t m)
visible_known es t None g = plain_known es t g
visible_known es t (Some (meaning.Typedef s)) g = plain_known es t g
visible_known es t (Some (meaning.Constant w)) g = plain_known es t g
visible_known es t (Some (meaning.Named d s)) g = if_known es s t (is_linked d) g

-- an object with an initializer is complete

wrong_by : (i typedef x f : Bool) → i ≡ true → (i && (typedef || x || f)) ≡ false
    → (typedef ≡ false) × ((x ≡ false) × (f ≡ false))
wrong_by false t x f e g = absurd cc
wrong_by true true x f e g = absurd cc
wrong_by true false true f e g = absurd cc
wrong_by true false false true e g = absurd cc
wrong_by true false false false e g = (refl, (refl, refl))

not_tentative : (a b c i x : Bool) → i ≡ true → (a && b && c && not i && x) ≡ false
not_tentative false b c i x e = refl
not_tentative true false c i x e = refl
not_tentative true true false i x e = refl
not_tentative true true true true x e = refl
not_tentative true true true false x e = absurd cc

complete_with : (es : Structures) (d : Declaration) → d.has_initializer ≡ true → is_complete es d ≡ true
    → is_some (extent_of es (sized_by_initializer d.type)) ≡ true
complete_with es d e g =
    ap (λ b. is_some (extent_of es (if b then sized_by_initializer d.type else d.type))) (sym e) ∙ g

initialized_complete : (s : State) (d : Declaration) → d.may_be_incomplete ≡ false
    → IsJudged (surroundings s.environment d) d → d.has_initializer ≡ true
    → is_some (extent_of (extents s) (sized_by_initializer d.type)) ≡ true
initialized_complete s d must known e =
    let w = wrong_by d.has_initializer (is_typedef d.storage) (is_extern d.storage) (is_function d.type) e
    known.initialized in
    complete_with (extents s) d e
    (complete_by (is_typedef d.storage) (is_function d.type) (is_extern d.storage) d.may_be_incomplete
    (is_tentative (in_file s.environment) d) (surroundings s.environment d).is_completed (is_complete (extents s) d)
    w.0 w.1.1 w.1.0 must
    (not_tentative (in_file s.environment) (not (is_typedef d.storage)) (not (is_function d.type)) d.has_initializer
    (not (is_extern d.storage)) e) known.complete)

pub type_is : {d e : Designated} {s t : List TypeWord} → meaning.Named d s ≡ meaning.Named e t → s ≡ t
type_is e = cc

bound_to : (b : Bool) (es : Structures) (d : Designated) (type : List TypeWord) → IsSpelled es type
    → (b ≡ true → HasElements es type) → OfBound b es (meaning.Named d type)
bound_to b es d type is known = record {
  named = spelled_has es d type is;
  known = λ e d' type' g. subst (HasElements es) (type_is g) (known e);
}

unlinked_bound : (s : State) (d : Declaration) (z : Storage) → IsSpelled (extents s) d.type
    → (d.has_initializer ≡ true → HasElements (extents s) d.type)
    → OfBound d.has_initializer (extents s) (unlinked_meaning z s.environment d)
unlinked_bound s d storage.Typedef is known = record { named = is; known = λ e d' type' g. absurd cc }
unlinked_bound s d storage.Static is known = bound_to d.has_initializer (extents s) _ d.type is known
unlinked_bound s d storage.Absent is known = bound_to d.has_initializer (extents s) _ d.type is known
unlinked_bound s d storage.Extern is known = bound_to d.has_initializer (extents s) _ d.type is known
unlinked_bound s d storage.Auto is known = bound_to d.has_initializer (extents s) _ d.type is known
unlinked_bound s d storage.Register is known = bound_to d.has_initializer (extents s) _ d.type is known

bound_by : (s : State) (d : Declaration) → Types s → IsSpelled (extents s) d.type
    → (d.has_initializer ≡ true → is_some (extent_of (extents s) (sized_by_initializer d.type)) ≡ true) → (b : Bool)
    → OfBound d.has_initializer (extents s)
    (if b then linked_meaning s.environment d else unlinked_meaning d.storage s.environment d)
bound_by s d h is complete true =
    bound_to d.has_initializer (extents s) _ _
    (visible_spelled (extents s) d.type (names.meaning d.name s.environment.names)
    (each_meaning (IsNamed (extents s)) d.name s.environment.names h.outer h.current) is)
    (λ e. visible_known (extents s) d.type (names.meaning d.name s.environment.names) (complete e))
bound_by s d h is complete false =
    unlinked_bound s d d.storage is (λ e. plain_known (extents s) d.type (complete e))

-- a declarator that violates no rule

record IfBoundTypes (has_initializer : Bool) (t : State) (m : Option Meaning) : Type 0 where
  types : Types t
  bound : (x : Meaning) → m ≡ Some x → OfBound has_initializer (extents t) x

abbrev OfDeclared : Bool → Answer (State × Option Meaning) → Type 0
OfDeclared b (Ok r) = IfBoundTypes b r.0 r.1
OfDeclared b (Err e) = Unit {0}

pub record IsBuiltOf (s : State) (d : Declaration) : Type 0 where
  pub spelled : d.type_rule ≡ None → IsSpelled (extents s) d.type
  pub placed : d.type_rule ≡ None → d.may_be_incomplete ≡ false

answered_typed : (s : State) → Types s → (d : Declaration) → IsBuiltOf s d → (name : Name × ℕ) → d.name ≡ name.0
    → (a : Answer (Unit {0})) → judged_declarator (surroundings s.environment d) d ≡ a
    → OfDeclared d.has_initializer (answered d s name a)
answered_typed s h d is name same (Ok x) e =
    let known = judged_known (surroundings s.environment d) d x e in
    let spelled = is.spelled known.faultless in
    let t = record s { environment = with_declared s.environment d } in
    let here = ap (λ z. declared z t.environment.names.current) (sym same) ∙ (declarator_binds s d).here in
    let bound = bound_by s d h spelled (initialized_complete s d (is.placed known.faultless) known)
    (has_linkage (in_file s.environment) d) in
    record {
      types = declarator_types s d h spelled;
      bound = λ x g. subst (λ es. OfBound d.has_initializer es x) (sym (declarator_extents s d))
          (subst (OfBound d.has_initializer (extents s)) (the_same (sym here ∙ g)) bound);
    }
answered_typed s h d is name same (Err f) e = tt

placed_typed : (s : State) → Types s → (d : Declaration) → IsBuiltOf s d → (name : Name × ℕ) → d.name ≡ name.0
    → (line : ℕ) (b : Bool)
    → OfDeclared d.has_initializer
    (if b then answered d s name (judged_declarator (surroundings s.environment d) d)
    else violates MisplacedStorage line)
placed_typed s h d is name same line true =
    answered_typed s h d is name same (judged_declarator (surroundings s.environment d) d) refl
placed_typed s h d is name same line false = tt

built_of : (s : State) (spec : Specification) → OfSpecification (extents s) spec → (b : Bool) (e : t.InitDeclarator)
    (sh : Shape) → IsDeclared b e.declarator (extents s) sh → (name : Name × ℕ) (initializer : Option ℕ)
    → IsBuiltOf s (declaration_of spec (built_in s spec sh) name initializer)
built_of s spec h b e sh is name initializer = record {
  spelled = λ g.
      built_spelled (extents s) spec.type h sh.derivations is.shape.derived
      (without_faults (built_in s spec sh).faults g);
  placed = λ g. (without_faults (built_in s spec sh).faults g).placed;
}

-- what is declared gets its initializer

abbrev pub IfTypes : {A : Type 0} → Answer (File × A) → Type 0
IfTypes (Ok r) = Types r.0.state
IfTypes (Err e) = Unit {0}

parts_if : (k : ℕ) (b : Bool) (r : List TypeWord × List Part) (g : File) → Types g.state
    → Types (if b then record g { initializers = g.initializers ++ (k, r.1) ∷ [] } else g).state
parts_if k true r g h = h
parts_if k false r g h = h

variable_typed : (n : ℕ) (b : Bool) (f : File) (a : Answer (State × (List TypeWord × List Part))) → Typed nothing a
    → IfTypes (a >>= filed f >>= λ r. with_variable n b r.1 r.0)
variable_typed n b f (Ok r) h = h.0
variable_typed n b f (Err e) h = tt

static_typed : (n : ℕ) (f : File) (a : Answer (State × (List TypeWord × List Part))) → Typed nothing a
    → IfTypes (a >>= filed f >>= λ r. with_static n r.1 r.0)
static_typed n f (Ok r) h = h.0
static_typed n f (Err e) h = tt

object_typed : (n : ℕ) (b : Bool) (f : File) (a : Answer (State × (List TypeWord × List Part))) → Typed nothing a
    → IfTypes (a >>= filed f >>= λ r. with_parts n b r.1 r.0)
object_typed n b f (Ok r) h = parts_if n b r.1 (record f { state = r.0 }) h.0
object_typed n b f (Err e) h = tt

declared_typed : (name : Name × ℕ) (x : Option Initializer) → is_regular_initializer_if x ≡ true
    → (m : Option Meaning) (f : File) → IsFormed f.state → Types f.state
    → ((y : Meaning) → m ≡ Some y → OfBound (is_some x) (extents f.state) y) → IfTypes (declared_with name x m f)
declared_typed name x c (Some (meaning.Named (what.Variable n) type)) f formed types is =
    let own = is _ refl in
    variable_typed n (is_some x) f (initialized_if (what.Variable n) name type x f.state)
    (initialized_typed f.state formed types (what.Variable n) name type own.named x c
    (λ e. own.known e (what.Variable n) type refl))
declared_typed name x c (Some (meaning.Named (what.Static n) type)) f formed types is =
    let own = is _ refl in
    static_typed n f (initialized_if (what.Static n) name type x f.state)
    (initialized_typed f.state formed types (what.Static n) name type own.named x c
    (λ e. own.known e (what.Static n) type refl))
declared_typed name x c (Some (meaning.Named (what.Object n) type)) f formed types is =
    let own = is _ refl in
    object_typed n (is_some x) f (initialized_if (what.Object n) name type x f.state)
    (initialized_typed f.state formed types (what.Object n) name type own.named x c
    (λ e. own.known e (what.Object n) type refl))
declared_typed name x c None f formed types is = types
declared_typed name x c (Some (meaning.Typedef type)) f formed types is = types
declared_typed name x c (Some (meaning.Constant w)) f formed types is = types
declared_typed name x c (Some (meaning.Named (what.Function n) type)) f formed types is = types
declared_typed name x c (Some (meaning.Named (what.Library r) type)) f formed types is = types

some_line : (x : Option Initializer) → is_some (option_map initializer_line x) ≡ is_some x
some_line None = refl
some_line (Some x) = refl

named_then : (name : Name × ℕ) (x : Option Initializer) → is_regular_initializer_if x ≡ true → (f : File)
    (d : Declaration) → d.has_initializer ≡ is_some x → (a : Answer (State × Option Meaning)) → IfDeclared d f.state a
    → OfDeclared d.has_initializer a → IfTypes (a >>= filed f >>= λ r. declared_with name x r.1 r.0)
named_then name x c f d same (Ok r) is h =
    declared_typed name x c r.1 (record f { state = r.0 }) is.0.formed h.types
    (λ y e. subst (λ b. OfBound b (extents r.0) y) same (h.bound y e))
named_then name x c f d same (Err e) is h = tt

named_typed : (in_head : Bool) (spec : Specification) → is_sized_array spec.type ≡ true → (x : Option Initializer)
    → is_regular_initializer_if x ≡ true → (sh : Shape) → AreCounted sh.derivations → (b : Bool) (e : t.InitDeclarator)
    (name : Option (Name × ℕ)) (f : File) → IsFormed f.state → Types f.state
    → OfSpecification (extents f.state) spec → IsDeclared b e.declarator (extents f.state) sh
    → IfTypes (named_by in_head spec x sh name f)
named_typed in_head spec sized x c sh counted b e None f formed types h is = types
named_typed in_head spec sized x c sh counted b e (Some name) f formed types h is =
    let d = declaration_of spec (built_in f.state spec sh) name (option_map initializer_line x) in
    named_then name x c f d (some_line x) (declared_as in_head spec sh (option_map initializer_line x) name f.state)
    (declared_as_declares in_head f.state formed spec sized sh counted (option_map initializer_line x) name)
    (placed_typed f.state types d (built_of f.state spec h b e sh is name (option_map initializer_line x)) name refl
    spec.line (has_place in_head spec (built_in f.state spec sh).type))

-- one behind the other

pub state_then : {A B : Type 0} (f : File) (p : State → A → Type 0) (g : Structures → A → Type 0)
    (a : Answer (State × A)) (next : A → FileTyping B) → Extending false f.state p a → Typed g a
    → ((x : A) (h : File) → Extends false f.state h.state → p h.state x → Types h.state → g (extents h.state) x
    → IfTypes (next x h))
    → IfTypes (a >>= filed f >>= λ r. next r.1 r.0)
state_then f p g (Ok r) next e is k = k r.1 (record f { state = r.0 }) e.0 e.1 is.0 is.1
state_then f p g (Err x) next e is k = tt

pub then_types : {A B : Type 0} (f : File) (a : Answer (File × A)) (next : A → FileTyping B) → Leading f a → IfTypes a
    → ((x : A) (g : File) → IsFormed g.state → AreMore (extents f.state) (extents g.state) → Types g.state
    → IfTypes (next x g))
    → IfTypes (a >>= λ r. next r.1 r.0)
then_types f (Ok r) next l h k = k r.1 r.0 l.state.formed l.state.more h
then_types f (Err e) next l h k = tt

declarator_typed : (in_head : Bool) (spec : Specification) → is_sized_array spec.type ≡ true → (d : t.InitDeclarator)
    → is_regular_object d (initializer_of d) ≡ true → (f : File) → IsFormed f.state → Types f.state
    → OfSpecification (extents f.state) spec → IfTypes (with_declarator in_head spec d f)
declarator_typed in_head spec sized d c f formed types h =
    state_then f (λ u sh. IsShapeOf u d.declarator sh) (IsDeclared false d.declarator)
    (shape false d.declarator f.state) (λ sh. named_by in_head spec (initializer_of d) sh sh.name)
    (shape_extends false d.declarator (first _ _ c) f.state formed)
    (shape_typed false d.declarator (first _ _ c) f.state formed types)
    (λ sh g e is types own. named_typed in_head spec sized (initializer_of d) (second _ _ c) sh is.counted false d
    sh.name g e.formed types (spelled_kept (extents f.state) (extents g.state) e.more spec.type h) own)

others_typed : (in_head : Bool) (spec : Specification) → is_sized_array spec.type ≡ true
    → (ds : List (Position × t.InitDeclarator)) → list_all (λ d. is_regular_object d.1 (initializer_of d.1)) ds ≡ true
    → (vs : List DeclaredVariable) (f : File) → IsFormed f.state → Types f.state
    → OfSpecification (extents f.state) spec → IfTypes (with_others in_head spec ds vs f)
others_typed in_head spec sized [] c vs f formed types h = types
others_typed in_head spec sized (d ∷ ds) c vs f formed types h =
    then_types f (with_declarator in_head spec d.1 f) (λ us. with_others in_head spec ds (vs ++ us))
    (declarator_leads in_head spec sized d.1 (first _ _ c) f formed)
    (declarator_typed in_head spec sized d.1 (first _ _ c) f formed types h)
    (λ us g formed more types. others_typed in_head spec sized ds (second _ _ c) (vs ++ us) g formed types
    (spelled_kept (extents f.state) (extents g.state) more spec.type h))

alone_typed : (f : File) → Types f.state → (a : Answer (List DeclaredVariable))
    → IfTypes (a >>= (λ x. Ok (f.state, x)) >>= filed f)
alone_typed f types (Ok x) = types
alone_typed f types (Err e) = tt

declarators_typed : (in_head : Bool) (spec : Specification) → is_sized_array spec.type ≡ true
    → (ds : Option t.InitDeclarators) → are_regular_declarators ds ≡ true → (f : File) → IsFormed f.state
    → Types f.state → OfSpecification (extents f.state) spec → IfTypes (with_declarators in_head spec ds f)
declarators_typed in_head spec sized None c f formed types h = alone_typed f types (alone_in in_head spec f.state)
declarators_typed in_head spec sized (Some ds) c f formed types h =
    then_types f (with_declarator in_head spec ds.first f) (λ vs. with_others in_head spec ds.others vs)
    (declarator_leads in_head spec sized ds.first (first _ _ c) f formed)
    (declarator_typed in_head spec sized ds.first (first _ _ c) f formed types h)
    (λ vs g formed more types. others_typed in_head spec sized ds.others (second _ _ c) vs g formed types
    (spelled_kept (extents f.state) (extents g.state) more spec.type h))

stored_typed : (s : State) → Types s → (spec : Specification) → OfSpecification (extents s) spec → (b : Bool)
    → Typed OfSpecification ((if b then violates MisplacedStorage spec.line else Ok spec) >>= λ x. Ok (s, x))
stored_typed s types spec h true = tt
stored_typed s types spec h false = (types, h)

pub stored_specification : (is_alone : Bool) (specs : Specifiers) → are_regular_specifiers specs ≡ true → (s : State)
    → IsFormed s → Types s
    → Typed OfSpecification ((specification is_alone specs >>> λ spec. judged (stored_once spec)) s)
stored_specification is_alone specs c s formed types =
    then_typed false s IsSpecified OfSpecification OfSpecification (specification is_alone specs s)
    (λ spec. judged (stored_once spec)) (specification_extends is_alone specs c s formed)
    (specification_typed is_alone specs c s formed types)
    (λ u spec e is types h. stored_typed u types spec h spec.has_two_storages)

pub declaration_typed : (in_head : Bool) (d : t.Declaration) → is_regular_declaration d ≡ true → (f : File)
    → IsFormed f.state → Types f.state → IfTypes (declaration in_head d f)
declaration_typed in_head d c f formed types =
    state_then f IsSpecified OfSpecification (specified (is_none d.declarators) d f.state)
    (λ spec. with_declarators in_head spec d.declarators)
    (specified_extends (is_none d.declarators) d c f.state formed)
    (stored_specification (is_none d.declarators) d.specifiers (first _ _ c) f.state formed types)
    (λ spec g e is types h. declarators_typed in_head spec is d.declarators (second _ _ c) g e.formed types h)
