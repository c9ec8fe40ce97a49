-- A variable or static object without linkage behind its initializer, which gives an array of unknown size its size
-- (C99 6.7.8 paragraph 22).
use Rattle.std.proofs.Common.{◌≡◌, ℕ, Bool, true, false, ◌||◌, refl, sym, ap, ◌∙◌, subst, List, [], ◌∷◌}
use Rattle.std.proofs.Common.{Option, Some, None, if◌then◌else◌}
use Rattle.std.specs.Prelude.{Ok, Err, not, is_some}
use Rattle.c_syntax.specs.Tree.{Initializer}
use Rattle.c_tree.specs.declared.c_type.TypeWord.{TypeWord}
use Rattle.c_tree.specs.declared.c_type.TypeWord.TheVariants as word
use Rattle.c_tree.specs.declared.expression.Kind.TheVariants as kind
use Rattle.c_tree.specs.Extents.{TypeExtent, extent_of}
use Rattle.c_tree.specs.Layout.{array_size}
use Rattle.c_tree.specs.Statements.{Part}
use Rattle.c_tree.specs.Valid.{Scope, is_named_as}
use Rattle.c_faults.specs.declared.fault.Rule.TheVariants.{LargeType, Redeclared}
use Rattle.c_faults.specs.Answer.{Answer, violates, ◌>>=◌}
use Rattle.c_declarators.specs.Derivations.{array_of, is_large}
use Rattle.c_initializer_rules.specs.Initializing.{Initializing, begun}
use Rattle.c_initializer_rules.specs.Placed.{count_of, parts_in}
use Rattle.c_scope.specs.declared.meaning.Designated.{Designated}
use Rattle.c_scope.specs.declared.meaning.Designated.TheVariants as what
use Rattle.c_scope.specs.declared.meaning.Meaning.TheVariants as meaning
use Rattle.c_scope.specs.Declaring.{is_linked, sized_by_initializer}
use Rattle.c_scope.specs.Environment.{Environment}
use Rattle.c_scope.specs.Names.{Name}
use Rattle.c_place_rules.specs.Targets.{object_kind}
use Rattle.c_place_laws.specs.FinePlaces.{unsized}
use Rattle.c_operand_typing.specs.Primaries.{is_aggregate, is_marked, size_or_zero}
use Rattle.c_typing_state.specs.State.{State, done, extents, ◌>>>◌}
use Rattle.c_unit_typing.specs.Declarations.{completed, initialized_if, is_same_object, kind_in, variable_in, with_size}
use Rattle.c_unit_typing.specs.Initializers.{initialized}
use Rattle.typing_laws.specs.Validity.More.{AreMore}
use Rattle.typing_laws.specs.Validity.Names.{IsMeant, IsStaticOf, IsVariableOf}
use Rattle.typing_laws.specs.Validity.Sound.{IsFormed}
use Rattle.typing_laws.specs.Validity.Steps.{Structures}
use Rattle.typing_laws.proofs.Validity.Kept.{extent_kept}
use Rattle.typing_laws.specs.Declarators.Extending.{Extending, Extends}
use Rattle.typing_laws.specs.Declarators.Given.{anything}
use Rattle.typing_laws.specs.Declarations.Binding.{HasStatic, HasVariable, IsCompleteFor, IsObjectType}
use Rattle.typing_laws.proofs.Declarations.Completed.{size_binds}
use Rattle.typing_laws.proofs.Declarations.Formed.{formed_behind}
use Rattle.typing_laws.proofs.Declarations.Variables.{static_is, variable_is}
use Rattle.typing_laws.proofs.Validity.Primaries.{or_true}
use Rattle.typing_laws.proofs.Validity.Sound.{more_more}
use Rattle.typing_laws.specs.Scopes.Leaving.{Leads}
use Rattle.typing_laws.specs.Scopes.Regular.{is_regular_initializer_if}
use Rattle.typing_laws.proofs.Scopes.Initializers.{initialized_extends}
use Rattle.typing_laws.proofs.Scopes.Leading.{bound_leads, leads_by, leads_on, leads_same}
use Rattle.program_laws.specs.Bodies.Standing.{AreLinked, IsOpenObject, Stands}
use Rattle.program_laws.proofs.Bodies.Entities.{linked_bound, linked_extended}
use Rattle.program_laws.proofs.Bodies.Standing.{stands_bound, stands_extended}

-- the type of an object behind its initializer, if it has one: the same, or that of an array whose size is known now
pub data TypeBehind (has_one : Bool) (type behind : List TypeWord) : Type 0 where
  as_it_is : behind ≡ type → (if has_one then sized_by_initializer type else type) ≡ type
      → TypeBehind has_one type behind
  with_count : has_one ≡ true → (count bytes : ℕ) (element : List TypeWord) → type ≡ word.OpenArray ∷ element
      → behind ≡ word.Array count bytes ∷ element → TypeBehind has_one type behind

pub record Initializes (d : Designated) (has_one : Bool) (s : State) (type : List TypeWord) (t : State)
    (behind : List TypeWord) : Type 0 where
  pub leads : Leads s t
  pub entities : t.environment.entities ≡ s.environment.entities
  pub variables : t.environment.variables ≡ s.environment.variables
  pub linked : AreLinked s.environment → AreLinked t.environment
  pub is : TypeBehind has_one type behind
  pub stands : (scope : Scope) (last : Structures) → Stands scope last s
      → IsMeant scope last t (Some (meaning.Named d behind)) → IsOpenObject scope d → Stands scope last t

abbrev pub IfInitializes : Designated → (has_one : Bool) → State → (type : List TypeWord)
    → Answer (State × (List TypeWord × List Part)) → Type 0
IfInitializes d has_one s type (Ok r) = Initializes d has_one s type r.0 r.1.0
IfInitializes d has_one s type (Err e) = Unit {0}

abbrev IfSized : Designated → State → (type : List TypeWord) → Answer (State × List TypeWord) → Type 0
IfSized d s type (Ok r) = Initializes d true s type r.0 r.1
IfSized d s type (Err e) = Unit {0}

same_by : (d : Designated) (has_one : Bool) (s : State) → IsFormed s → (type : List TypeWord)
    → (if has_one then sized_by_initializer type else type) ≡ type → Initializes d has_one s type s type
same_by d has_one s formed type e = record {
  leads = leads_same s formed;
  entities = refl;
  variables = refl;
  linked = λ h. h;
  is = as_it_is refl e;
  stands = λ scope last stands meant shown. stands;
}

-- what has no linkage is bound alone

size_entities : (d : Designated) → is_linked d ≡ false → (name : Name) (type : List TypeWord) (env : Environment)
    → (with_size d name type env).entities ≡ env.entities
size_entities (what.Variable n) e name type env = refl
size_entities (what.Static n) e name type env = refl
size_entities (what.Object n) e name type env = absurd cc
size_entities (what.Function n) e name type env = absurd cc
size_entities (what.Library r) e name type env = absurd cc

size_variables : (d : Designated) → is_linked d ≡ false → (name : Name) (type : List TypeWord) (env : Environment)
    → (with_size d name type env).variables ≡ env.variables
size_variables (what.Variable n) e name type env = refl
size_variables (what.Static n) e name type env = refl
size_variables (what.Object n) e name type env = absurd cc
size_variables (what.Function n) e name type env = absurd cc
size_variables (what.Library r) e name type env = absurd cc

module _ (d : Designated) (unlinked : is_linked d ≡ false) (name : Name × ℕ) (s : State) (formed : IsFormed s) where
  abbrev sized_state : (array : TypeWord) → (element : List TypeWord) → State
  sized_state array element = record s { environment = with_size d name.0 (array ∷ element) s.environment }

  counted_by : (count bytes : ℕ) (element : List TypeWord)
      → Initializes d true s (word.OpenArray ∷ element) (sized_state (word.Array count bytes) element)
      (word.Array count bytes ∷ element)
  counted_by count bytes element =
      let t = sized_state (word.Array count bytes) element in
      let m = meaning.Named d (word.Array count bytes ∷ element) in
      let binds = size_binds s name.0 d (word.Array count bytes ∷ element) in
      let entities = size_entities d unlinked name.0 (word.Array count bytes ∷ element) s.environment in
      record {
        leads = bound_leads name.0 m s t binds (formed_behind name.0 m s t binds formed tt);
        entities = entities;
        variables = size_variables d unlinked name.0 (word.Array count bytes ∷ element) s.environment;
        linked = linked_bound name.0 m s t binds unlinked entities;
        is = with_count refl count bytes element refl refl;
        stands = λ scope last stands meant shown. stands_bound scope last name.0 m s t binds meant shown stands;
      }

  large_by : (n : ℕ) (o : Option TypeExtent) (element : List TypeWord) (large : Bool)
      → IfSized d s (word.OpenArray ∷ element)
      (if large then violates LargeType name.1
      else Ok (sized_state (array_of n o) element, array_of n o ∷ element))
  large_by n o element true = tt
  large_by n None element false = counted_by n 0 element
  large_by n (Some e) element false = counted_by n (array_size n e.size) element

  sized_by : (n : ℕ) (o : Option TypeExtent) (element : List TypeWord) (b : Bool)
      → IfSized d s (word.OpenArray ∷ element)
      (if not b then violates Redeclared name.1
      else if is_large (array_of n o) then violates LargeType name.1
      else Ok (sized_state (array_of n o) element, array_of n o ∷ element))
  sized_by n o element false = tt
  sized_by n o element true = large_by n o element (is_large (array_of n o))

  completed_is : (type : List TypeWord) (n : ℕ) → IfSized d s type (completed d name type n s)
  completed_is (word.OpenArray ∷ element) n =
      sized_by n (extent_of (extents s) element) element
      (is_same_object d name.0 (array_of n (extent_of (extents s) element) ∷ element) s.environment)
  completed_is [] n = same_by d true s formed [] refl
  completed_is (word.Void ∷ ws) n = same_by d true s formed (word.Void ∷ ws) refl
  completed_is (word.Integer t ∷ ws) n = same_by d true s formed (word.Integer t ∷ ws) refl
  completed_is (word.Enumeration k ∷ ws) n = same_by d true s formed (word.Enumeration k ∷ ws) refl
  completed_is (word.Pointer ∷ ws) n = same_by d true s formed (word.Pointer ∷ ws) refl
  completed_is (word.Array c b ∷ ws) n = same_by d true s formed (word.Array c b ∷ ws) refl
  completed_is (word.Structure k ∷ ws) n = same_by d true s formed (word.Structure k ∷ ws) refl
  completed_is (word.Const ∷ ws) n = same_by d true s formed (word.Const ∷ ws) refl
  completed_is (word.Takes ∷ ws) n = same_by d true s formed (word.Takes ∷ ws) refl
  completed_is (word.Gives ∷ ws) n = same_by d true s formed (word.Gives ∷ ws) refl

after_values : (d : Designated) (s u : State) (type : List TypeWord) → Extends false s u → (t : State)
    (behind : List TypeWord) → Initializes d true u type t behind → Initializes d true s type t behind
after_values d s u type h t behind is = record {
  leads = leads_on s u t (leads_by s u h) is.leads;
  entities = is.entities ∙ h.entities;
  variables = is.variables ∙ h.variables refl;
  linked = λ l. is.linked (linked_extended s u h l);
  is = is.is;
  stands = λ scope last stands meant shown.
      is.stands scope last (stands_extended scope last s u h stands) meant shown;
}

sized_after : (d : Designated) (s u : State) (type : List TypeWord) → Extends false s u → (parts : List Part)
    (a : Answer (State × List TypeWord)) → IfSized d u type a
    → IfInitializes d true s type (a >>= λ r. Ok (r.0, (r.1, parts)))
sized_after d s u type h parts (Ok r) is = after_values d s u type h r.0 r.1 is
sized_after d s u type h parts (Err e) is = tt

values_after : (d : Designated) → is_linked d ≡ false → (name : Name × ℕ) (s : State) (type : List TypeWord)
    (a : Answer (State × Initializing)) → Extending false s anything a
    → IfInitializes d true s type
    (a >>= λ r. (completed d name type (count_of r.1.parts) >>> λ type. done (type, parts_in r.1.parts)) r.0)
values_after d unlinked name s type (Ok r) h =
    sized_after d s r.0 type h.0 (parts_in r.1.parts) (completed d name type (count_of r.1.parts) r.0)
    (completed_is d unlinked name r.0 h.0.formed type (count_of r.1.parts))
values_after d unlinked name s type (Err e) h = tt

pub initialized_is : (d : Designated) → is_linked d ≡ false → (name : Name × ℕ) (s : State) → IsFormed s
    → (type : List TypeWord) (x : Option Initializer) → is_regular_initializer_if x ≡ true
    → IfInitializes d (is_some x) s type (initialized_if d name type x s)
initialized_is d unlinked name s formed type None c = same_by d false s formed type refl
initialized_is d unlinked name s formed type (Some x) c =
    values_after d unlinked name s type (initialized x (begun type) s) (initialized_extends x c (begun type) s formed)

-- What such an object is of, with the structures that are complete at its name and behind it.

pub extent_at : (es : Structures) (has_one : Bool) (type : List TypeWord) → IsCompleteFor es has_one type
    → (if has_one then sized_by_initializer type else type) ≡ type → IsObjectType es type
extent_at es has_one type is e =
    record { extent = is.extent; is = ap (extent_of es) (sym e) ∙ is.is; object = is.object }

kind_same : (s t : State) → AreMore (extents s) (extents t) → (type : List TypeWord) → IsObjectType (extents s) type
    → kind_in t type ≡ kind_in s type
kind_same s t more type is =
    ap (λ o. object_kind (size_or_zero o) type)
    (extent_kept (extents s) (extents t) more type is.extent is.is ∙ sym is.is)

variable_same : (s t : State) → AreMore (extents s) (extents t) → t.objects ≡ s.objects → (n : ℕ)
    (type : List TypeWord) → IsObjectType (extents s) type → variable_in t n type ≡ variable_in s n type
variable_same s t more objects n type is =
    ap (λ k. record { kind = k; is_object = is_aggregate type || is_marked t.objects n })
    (kind_same s t more type is)
    ∙ ap (λ o. record { kind = kind_in s type; is_object = is_aggregate type || is_marked o n }) objects

-- an array of unknown size is named as what it is behind its initializer, inside of it too

open_variable : (scope : Scope) (last : Structures) (s t : State) (n count bytes : ℕ) (element : List TypeWord)
    → t.objects ≡ s.objects → HasVariable scope t n (word.Array count bytes ∷ element)
    → IsVariableOf scope last s n (word.OpenArray ∷ element)
unfolding extent_of
open_variable scope last s t n count bytes element objects has = record {
  sized = unsized refl refl;
  kind = ap (λ v. is_named_as v.kind (kind.Array 0)) has ∙ or_true _;
  object = ap (λ v. v.is_object) has;
}

open_static : (scope : Scope) (last : Structures) (t : State) (n count bytes : ℕ) (element : List TypeWord)
    → HasStatic scope t n (word.Array count bytes ∷ element) → IsStaticOf scope last n (word.OpenArray ∷ element)
unfolding extent_of
open_static scope last t n count bytes element has = record {
  sized = unsized refl refl;
  there = has.there;
  kind = ap (λ k. is_named_as k (kind.Array 0)) has.kind ∙ or_true _;
}

module _ (scope : Scope) (last : Structures) (s t : State)
    (more : AreMore (extents s) (extents t)) (all : AreMore (extents t) last) (has_one : Bool)
    (type behind : List TypeWord) (complete : IsCompleteFor (extents s) has_one type) (n : ℕ) where
  -- a declared variable, as it is declared behind its initializer
  pub variable_meant : t.objects ≡ s.objects → HasVariable scope t n behind → TypeBehind has_one type behind
      → IsVariableOf scope last s n type
  variable_meant objects has (as_it_is e g) =
      let is = extent_at (extents s) has_one type complete g in
      variable_is scope s last (more_more (extents s) (extents t) last more all) n type is.extent is.is is.object
      (has ∙ ap (variable_in t n) e ∙ variable_same s t more objects n type is)
  variable_meant objects has (with_count e count bytes element g h) =
      subst (IsVariableOf scope last s n) (sym g)
      (open_variable scope last s t n count bytes element objects (has ∙ ap (variable_in t n) h))

  -- and a static object without linkage
  pub static_meant : HasStatic scope t n behind → TypeBehind has_one type behind
      → IsStaticOf scope last n type
  static_meant has (as_it_is e g) =
      let is = extent_at (extents s) has_one type complete g in
      static_is scope s last (more_more (extents s) (extents t) last more all) n type is.extent is.is is.object
      (record { there = has.there; kind = has.kind ∙ ap (kind_in t) e ∙ kind_same s t more type is })
  static_meant has (with_count e count bytes element g h) =
      subst (IsStaticOf scope last n) (sym g)
      (open_static scope last t n count bytes element
      (record { there = has.there; kind = has.kind ∙ ap (kind_in t) h }))
