-- What declarators and members say is of types that are spelled.
use Rattle.std.proofs.Common.{◌≡◌, ℕ, Bool, true, false, ◌&&◌, refl, sym, ap, ◌∙◌, subst, List, [], ◌∷◌, ◌++◌}
use Rattle.std.proofs.Common.{Option, Some, None, if◌then◌else◌}
use Rattle.std.specs.Prelude.{Ok, Err, is_some}
use Rattle.c_syntax.specs.declared.position.Position.{Position}
use Rattle.c_syntax.specs.Formed.{defines_function, has_named_parameters, is_plain_name}
use Rattle.c_syntax.specs.Tree.{Declarator, MoreParameters, Parameters}
use Rattle.c_syntax.specs.Tree as t
use Rattle.c_tree.specs.declared.c_type.TypeWord.{TypeWord}
use Rattle.c_tree.specs.Extents.{TypeExtent, extent_of}
use Rattle.c_faults.specs.Answer.{Answer, ◌>>=◌}
use Rattle.c_declarators.specs.Derivations.{BuiltType, Derivation, element_faults, to_array, to_function, to_open_array}
use Rattle.c_declarators.specs.Derivations.{to_pointer}
use Rattle.c_declarators.specs.Faults.{and_faults, rule_of}
use Rattle.c_scope.specs.Names.{Name, declared}
use Rattle.c_scope.specs.Parameters.{ParameterScope, parameters_in}
use Rattle.c_declarator_typing.specs.Declarators.{Shape, built_in, is_nothing, scope_left, with_derivation}
use Rattle.c_declarator_typing.specs.Declarators.{with_function}
use Rattle.c_declarator_typing.specs.Members.{Entries, Entry, member_added, member_named, member_rule}
use Rattle.c_declarator_typing.specs.Members.{sized_entry}
use Rattle.c_declarator_typing.specs.Specifications.{Specification}
use Rattle.c_typing_state.specs.State.{State, Typing, done, extents, judged, ◌>>>◌}
use Rattle.c_expression_typing.specs.Constructs.{with_shape}
use Rattle.typing_laws.specs.Validity.More.{AreMore}
use Rattle.typing_laws.specs.Validity.Steps.{Structures}
use Rattle.typing_laws.proofs.Validity.Sound.{IfAnswer}
use Rattle.typing_laws.specs.Declarators.Extending.{Extending}
use Rattle.typing_laws.specs.Declarators.Given.{IsShapeOf, anything}
use Rattle.typing_laws.proofs.Declarators.Members.{no_rule, unless_by}
use Rattle.typing_laws.proofs.Declarators.Parameters.{within}
use Rattle.typing_laws.proofs.Declarators.Types.{NoFaults, first_faultless, without_faults}
use Rattle.typing_laws.specs.SpelledTypes.Spelled.{IsValueType}
use Rattle.typing_laws.specs.Types.Typed.{AreNamed, AreSpelled, Each, IsDerived, IsSpelled, OfEntries}
use Rattle.typing_laws.specs.Types.Typed.{OfParameters, OfShape, OfSpecification, Typed}
use Rattle.typing_laws.proofs.Types.Built.{built_spelled}
use Rattle.typing_laws.proofs.Types.Kept.{each_append, each_map, kinded_kept, names_kept, spelled_kept}
use Rattle.typing_laws.proofs.Types.Kept.{value_kept}
use Rattle.typing_laws.proofs.Types.Operators.{complete_readable}
use Rattle.typing_laws.proofs.Types.Parameters.{IsKinded, behind_types}
use Rattle.typing_laws.proofs.Types.Steps.{judged_typed, then_typed}

-- shapes

abbrev pub HasKinds : Structures → List Derivation → Type 0
HasKinds es [] = true ≡ false
HasKinds es (to_function ps ∷ ds) = Each (IsKinded es) ps
HasKinds es (d ∷ ds) = true ≡ false

-- what a declarator says; that of a function which is defined has parameters with kinds directly behind the name
pub record IsDeclared (in_definition : Bool) (d : Declarator) (es : Structures) (sh : Shape) : Type 0 where
  pub shape : OfShape es sh
  pub kinds : in_definition ≡ true → defines_function d ≡ true → HasKinds es sh.derivations
  pub plain : is_plain_name d ≡ true → sh.derivations ≡ []

derived_kept : (es more : Structures) → AreMore es more → (d : Derivation) → IsDerived es d → IsDerived more d
derived_kept es more h (to_pointer c) is = tt
derived_kept es more h to_open_array is = tt
derived_kept es more h (to_array count) is = tt
derived_kept es more h (to_function ps) is = each_map (IsSpelled es) (IsSpelled more) (spelled_kept es more h) ps is

pub parameters_kept : (es more : Structures) → AreMore es more → (o : Option ParameterScope) → OfParameters es o
    → OfParameters more o
parameters_kept es more h None is = tt
parameters_kept es more h (Some p) is = names_kept es more h p.names is

pub shape_kept : (es more : Structures) → AreMore es more → (sh : Shape) → OfShape es sh → OfShape more sh
shape_kept es more h sh is = record {
  derived = each_map (IsDerived es) (IsDerived more) (derived_kept es more h) sh.derivations is.derived;
  parameters = parameters_kept es more h sh.parameters is.parameters;
}

kinds_kept : (es more : Structures) → AreMore es more → (ds : List Derivation) → HasKinds es ds → HasKinds more ds
kinds_kept es more h [] is = is
kinds_kept es more h (to_function ps ∷ ds) is = each_map (IsKinded es) (IsKinded more) (kinded_kept es more h) ps is
kinds_kept es more h (to_pointer c ∷ ds) is = is
kinds_kept es more h (to_open_array ∷ ds) is = is
kinds_kept es more h (to_array count ∷ ds) is = is

kinds_more : (es : Structures) (ds : List Derivation) (d : Derivation) → HasKinds es ds → HasKinds es (ds ++ d ∷ [])
kinds_more es [] d is = absurd cc
kinds_more es (to_function ps ∷ ds) d is = is
kinds_more es (to_pointer c ∷ ds) d is = is
kinds_more es (to_open_array ∷ ds) d is = is
kinds_more es (to_array count ∷ ds) d is = is

pub declared_kept : (b : Bool) (d : Declarator) (es more : Structures) → AreMore es more → (sh : Shape)
    → IsDeclared b d es sh → IsDeclared b d more sh
declared_kept b d es more h sh is = record {
  shape = shape_kept es more h sh is.shape;
  kinds = λ e g. kinds_kept es more h sh.derivations (is.kinds e g);
  plain = is.plain;
}

-- one more derivation, of a declarator that is no plain name
pub with_one : (b : Bool) (d e : Declarator) (es : Structures) (sh : Shape) → IsDeclared b d es sh
    → (defines_function e ≡ true → defines_function d ≡ true) → is_plain_name e ≡ false → (x : Derivation)
    → IsDerived es x → IsDeclared b e es (with_derivation x sh)
with_one b d e es sh is h p x own = record {
  shape = record {
    derived = each_append (IsDerived es) sh.derivations (x ∷ []) is.shape.derived (own, tt);
    parameters = is.shape.parameters;
  };
  kinds = λ i g. kinds_more es sh.derivations x (is.kinds i (h g));
  plain = λ g. conflict (sym p ∙ g);
}
  where
    conflict : false ≡ true → sh.derivations ++ x ∷ [] ≡ []
    conflict e = absurd cc

-- the types of parameters, with kinds where the function is defined and they have names

abbrev pub GivesTypes : (defined : Bool) → (named : Bool) → Structures → List (List TypeWord) → Type 0
GivesTypes defined named es types =
    AreSpelled es types × (defined ≡ true → named ≡ true → Each (IsKinded es) types)

scope_choice : (es : Structures) (b : Bool) (p : ParameterScope) (o : Option ParameterScope) → AreNamed es p.names
    → OfParameters es o → OfParameters es (if b then Some p else o)
scope_choice es true p o is h = is
scope_choice es false p o is h = h

function_kinds : (es : Structures) (in_definition plain named : Bool) (d : Bool) (ds : List Derivation)
    (types : List (List TypeWord)) → (plain ≡ true → ds ≡ [])
    → ((in_definition && plain) ≡ true → named ≡ true → Each (IsKinded es) types)
    → (in_definition ≡ true → d ≡ true → HasKinds es ds)
    → in_definition ≡ true → (if plain then named else d) ≡ true → HasKinds es (ds ++ to_function types ∷ [])
function_kinds es true true named d ds types e h g i j =
    subst (λ z. HasKinds es (z ++ to_function types ∷ [])) (sym (e refl)) (h refl j)
function_kinds es true false named d ds types e h g i j = kinds_more es ds (to_function types) (g refl j)
function_kinds es false plain named d ds types e h g i j = absurd cc

pub function_typed : (in_definition : Bool) (d : Declarator) (l r : Position) (ps : Parameters) (u : State) (sh : Shape)
    → IsDeclared in_definition d (extents u) sh → (a : Answer (State × List (List TypeWord)))
    → Extending true (within u) anything a
    → Typed (GivesTypes (in_definition && is_plain_name d) (has_named_parameters ps)) a
    → Typed (IsDeclared in_definition (t.function d l ps r))
    (a >>= λ r. (scope_left u.environment.variables >>> λ scope. done (with_function r.1 scope sh)) r.0)
function_typed in_definition d l r ps u sh is (Err f) e h = tt
function_typed in_definition d l r ps u sh is (Ok v) e h =
    let es = extents v.0 in
    let kept = declared_kept in_definition d (extents u) es e.0.more sh is in (
      behind_types u.environment.variables v.0 h.0,
      record {
        shape = record {
          derived = each_append (IsDerived es) sh.derivations (to_function v.1 ∷ []) kept.shape.derived (h.1.0, tt);
          parameters = scope_choice es (is_nothing sh.derivations) (parameters_in v.0.environment) sh.parameters
              h.0.current kept.shape.parameters;
        };
        kinds = λ i g. function_kinds es in_definition (is_plain_name d) (has_named_parameters ps)
            (defines_function d) sh.derivations v.1 kept.plain h.1.1 kept.kinds i g;
        plain = λ g. absurd cc;
      },
    )

-- members

sized_entries : (es : Structures) (name : Name) (line : ℕ) (type : List TypeWord) (o : Option TypeExtent)
    (entries : Entries) → OfEntries es entries.entries → extent_of es type ≡ o → IsSpelled es type
    → IfAnswer (λ e. OfEntries es e.entries) (sized_entry name line type o entries)
sized_entries es name line type None entries h e is = tt
sized_entries es name line type (Some x) entries h e is =
    each_append (λ e. IsValueType es e.type) entries.entries
    (record { name = name; type = type; extent = x } ∷ []) h
    (record { spelled = is; readable = complete_readable es type (ap is_some e) }, tt)

named_entries : (es : Structures) (b : BuiltType) → (NoFaults b.faults → IsSpelled es b.type)
    → (name : Option (Name × ℕ)) (entries : Entries) → OfEntries es entries.entries
    → IfAnswer (λ e. OfEntries es e.entries) (member_named es b name entries)
named_entries es b built None entries h = h
named_entries es b built (Some name) entries h =
    let faults = element_faults es b.type in
    unless_by (member_rule es b name.0 entries) name.1 entries
    (λ e. sized_entry name.0 name.1 b.type (extent_of es b.type) e) (λ e. OfEntries es e.entries)
    (λ r. let good = without_faults (and_faults b.faults faults)
    (no_rule (rule_of (and_faults b.faults faults)) (is_some (declared name.0 entries.names)) r) in
    sized_entries es name.0 name.1 b.type (extent_of es b.type) entries h refl
    (built (first_faultless b.faults faults good)))

pub entries_kept : (es more : Structures) → AreMore es more → (entries : List Entry) → OfEntries es entries
    → OfEntries more entries
entries_kept es more h entries is =
    each_map (λ e. IsValueType es e.type) (λ e. IsValueType more e.type) (λ e. value_kept es more h e.type) entries is

abbrev pub AreEntriesOf : Structures → Entries → Type 0
AreEntriesOf es e = OfEntries es e.entries

pub shaped_entries : (s : State) (spec : Specification) → OfSpecification (extents s) spec → (entries : Entries)
    → AreEntriesOf (extents s) entries → (b : Bool) (d : Declarator) (shaping : Typing Shape)
    → Extending false s (λ u sh. IsShapeOf u d sh) (shaping s) → Typed (IsDeclared b d) (shaping s)
    → Typed AreEntriesOf (with_shape spec entries shaping s)
shaped_entries s spec h entries is b d shaping e shaped =
    then_typed false s (λ u sh. IsShapeOf u d sh) (IsDeclared b d) AreEntriesOf (shaping s)
    (λ sh. judged (member_added spec sh entries)) e shaped
    (λ u sh g w types k. judged_typed AreEntriesOf u (member_added spec sh entries u) types
    (named_entries (extents u) (built_in u spec sh)
    (λ good. built_spelled (extents u) spec.type (spelled_kept (extents s) (extents u) g.more spec.type h)
    sh.derivations k.shape.derived good) sh.name entries
    (entries_kept (extents s) (extents u) g.more entries.entries is)))
