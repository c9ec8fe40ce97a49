-- Definitions of functions leave types that are spelled, and types of functions whose parameters and results have
-- kinds.
use Rattle.std.proofs.Common.{◌≡◌, ◌⊎◌, inl, inr, ℕ, Bool, true, false, ◌||◌, refl, sym, ap, ◌∙◌, subst, List, [], ◌∷◌}
use Rattle.std.proofs.Common.{Option, Some, None, if◌then◌else◌}
use Rattle.std.proofs.lemmas.Bool.{false≢true}
use Rattle.std.specs.Prelude.{Ok, Err}
use Rattle.c_syntax.specs.Formed.{defines_function}
use Rattle.c_syntax.specs.Statements as t
use Rattle.c_syntax.specs.Tree.{Declarator}
use Rattle.c_tree.specs.declared.c_type.TypeWord.{TypeWord}
use Rattle.c_tree.specs.declared.program.Variable.{Variable}
use Rattle.c_tree.specs.Statements.{DeclaredVariable, Statements}
use Rattle.c_faults.specs.declared.fault.Rule.TheVariants.{MisplacedStorage}
use Rattle.c_faults.specs.Answer.{Answer, violates, ◌>>=◌}
use Rattle.c_call_rules.specs.FunctionTypes.{result_type}
use Rattle.c_declarators.specs.Derivations.{Derivation, built, function_words, to_array, to_function}
use Rattle.c_declarators.specs.Derivations.{to_open_array, to_pointer}
use Rattle.c_scope.specs.declared.meaning.Designated.{Designated}
use Rattle.c_scope.specs.declared.meaning.Designated.TheVariants as what
use Rattle.c_scope.specs.declared.meaning.Meaning.{Meaning}
use Rattle.c_scope.specs.declared.meaning.Meaning.TheVariants as meaning
use Rattle.c_scope.specs.declared.meaning.Storage.{Storage}
use Rattle.c_scope.specs.declared.meaning.Storage.TheVariants as storage
use Rattle.c_scope.specs.Composite.{composite}
use Rattle.c_scope.specs.Declaring.{Declaration, has_linkage, is_linked, is_typedef, judged as judged_declarator}
use Rattle.c_scope.specs.Environment.{in_file, surroundings, type_or, visible_type}
use Rattle.c_scope.specs.Environment.{with_declarator as with_declared}
use Rattle.c_scope.specs.Names.{Name, declared}
use Rattle.c_scope.specs.Names as names
use Rattle.c_scope.specs.Parameters.{ParameterScope}
use Rattle.c_declarator_typing.specs.Declarators.{Shape, built_in}
use Rattle.c_declarator_typing.specs.Specifications.{Specification}
use Rattle.c_typing_state.specs.State.{State, extents, judged, ◌>>>◌}
use Rattle.c_expression_typing.specs.Typed.{shape, specification}
use Rattle.c_unit_typing.specs.Constructs.{scope_closed, scope_opened}
use Rattle.c_unit_typing.specs.Declarations.{declaration, stored_once}
use Rattle.c_unit_typing.specs.Files.{File, FileTyping, in_state, ◌~>◌}
use Rattle.c_unit_typing.specs.Statements.{block_items}
use Rattle.c_unit_typing.specs.Units.{around_body, body_of, defined_as, defined_by, definition_of, entered, external}
use Rattle.c_unit_typing.specs.Units.{externals, gives_incomplete, left, parameters_in, scope_or_none, with_body}
use Rattle.typing_laws.specs.SpelledTypes.Spelled.{IsFunctionType}
use Rattle.typing_laws.proofs.SpelledTypes.Composites.{none_first}
use Rattle.typing_laws.specs.Validity.Sound.{IsFormed, is_sized_array}
use Rattle.typing_laws.specs.Validity.Steps.{Structures}
use Rattle.typing_laws.proofs.Validity.Common.{first, neither_left, neither_right, second, the_same}
use Rattle.typing_laws.specs.Declarators.Given.{AreCounted, HasScope, IsParameterScope, IsShapeOf, IsSpecified}
use Rattle.typing_laws.proofs.Declarators.Recursion.{scope_kept, shape_extends}
use Rattle.typing_laws.proofs.Declarators.Types.{NoFaults, without_faults}
use Rattle.typing_laws.specs.Declarations.Binding.{IfDeclared, bound_meaning, linked_meaning, unlinked_meaning}
use Rattle.typing_laws.proofs.Declarations.Bound.{declarator_binds}
use Rattle.typing_laws.proofs.Declarations.Judged.{answered}
use Rattle.typing_laws.specs.Scopes.Leaving.{FileLeads, Growing, Leading}
use Rattle.typing_laws.specs.Scopes.Regular.{are_regular_externals, is_regular_block, is_regular_external}
use Rattle.typing_laws.proofs.Scopes.Declarations.{declaration_leads}
use Rattle.typing_laws.proofs.Scopes.Files.{defined_as_declares, entered_leads, external_grows, inside}
use Rattle.typing_laws.proofs.Scopes.Files.{scope_is}
use Rattle.typing_laws.proofs.Scopes.Files.{stored_extends}
use Rattle.typing_laws.proofs.Scopes.Leading.{bound_leads, closed_leads, file_on, file_same, leads_by}
use Rattle.typing_laws.proofs.Scopes.Leading.{state_leads}
use Rattle.typing_laws.proofs.Scopes.Statements.{IfFileBehind, Walk, items_walk}
use Rattle.typing_laws.specs.Types.Typed.{AreNamed, Each, IsDerived, IsNamed, IsSpelled, OfParameters}
use Rattle.typing_laws.specs.Types.Typed.{OfSpecification, Types}
use Rattle.typing_laws.proofs.Types.Built.{built_spelled}
use Rattle.typing_laws.proofs.Types.Calls.{gives_no_array, gives_no_function, result_fits}
use Rattle.typing_laws.proofs.Types.Declarators.{HasKinds, IsDeclared, parameters_kept}
use Rattle.typing_laws.proofs.Types.Kept.{each_append, each_around, each_innermost, each_meaning}
use Rattle.typing_laws.proofs.Types.Kept.{spelled_kept}
use Rattle.typing_laws.proofs.Types.Parameters.{judged_known}
use Rattle.typing_laws.proofs.Types.Recursion.{shape_typed}
use Rattle.typing_laws.proofs.Types.States.{declarator_extents, declarator_types, type_stays}
use Rattle.typing_laws.specs.Scopes.Defined.{define_functions, defines}
use Rattle.program_laws.proofs.Files.FunctionWords.{composite_function_type, rest_spelled, result_kinded}
use Rattle.program_laws.proofs.Files.FunctionWords.{words_parameters, words_result}
use Rattle.program_laws.proofs.Files.Spelled.{IfTypes, Values, declaration_typed, state_then}
use Rattle.program_laws.proofs.Files.Spelled.{stored_specification}
use Rattle.program_laws.proofs.Files.Spelled.{type_is, types_walk}
use Rattle.typing_laws.proofs.Common.{filed}

-- blocks

pub record Spells (f g : File) : Type 0 where
  pub leads : FileLeads f g
  pub types : Types f.state → Types g.state

opened_types : (f : File) → Types f.state → Types (scope_opened f).state
opened_types f h = record {
  outer = each_append (AreNamed (extents f.state)) f.state.environment.names.outer
      (f.state.environment.names.current ∷ []) h.outer (h.current, tt);
  current = tt;
  members = h.members;
  entities = h.entities;
  functions = h.functions;
  different = h.different;
}

closed_types : (g : File) → Types g.state → Types (scope_closed g).state
closed_types g h = record {
  outer = each_around (AreNamed (extents g.state)) g.state.environment.names.outer h.outer;
  current = each_innermost (AreNamed (extents g.state)) g.state.environment.names.current
      g.state.environment.names.outer h.current h.outer;
  members = h.members;
  entities = h.entities;
  functions = h.functions;
  different = h.different;
}

if_types : {A : Type 0} (f : File) (a : Answer (File × A)) → Leading f a → (Types f.state → IfTypes a)
    → IfFileBehind Spells f a
if_types f (Ok r) l h = record { leads = l; types = h }
if_types f (Err e) l h = tt

spells_walk : Walk Values Spells
spells_walk = record {
  values = types_walk;
  file_same = λ f formed. record { leads = file_same f formed; types = λ h. h };
  file_on = λ f g h a b. record {
    leads = file_on f g h a.leads b.leads;
    types = λ types. b.types (a.types types);
  };
  file_formed = λ f g h. h.leads.state.formed;
  in_file = λ f t h. record {
    leads = state_leads f t (leads_by f.state t h.extends);
    types = h.types;
  };
  scope = λ f g formed h. record {
    leads = closed_leads f g formed h.leads;
    types = λ types. closed_types g (h.types (opened_types f types));
  };
  declared = λ in_head d c f formed.
      if_types f (declaration in_head d f) (declaration_leads in_head d c f formed)
      (declaration_typed in_head d c f formed);
}

inside_types : (n : ℕ) (p : ParameterScope) (f : File) → Types f.state → AreNamed (extents f.state) p.names
    → Types (inside n p f)
inside_types n p f h own = record {
  outer = each_append (AreNamed (extents f.state)) f.state.environment.names.outer
      (f.state.environment.names.current ∷ []) h.outer (h.current, tt);
  current = own;
  members = h.members;
  entities = h.entities;
  functions = h.functions;
  different = h.different;
}

left_types : (line : ℕ) (type : List TypeWord) (ps : List Variable) (g : File) (ss : Statements) → Types g.state
    → Types (left line type ps (g, ss)).state
left_types line type ps g ss h =
    let c = closed_types g h in
    record {
      outer = c.outer;
      current = c.current;
      members = c.members;
      entities = c.entities;
      functions = c.functions;
      different = c.different;
    }

left_by : (n : ℕ) (p : ParameterScope) (f : File) (type : List TypeWord) (line : ℕ) → Types (entered n type p f).state
    → (a : Answer (File × Statements)) → IfFileBehind Spells (entered n type p f) a
    → IfTypes (a >>= λ r. Ok (left line type (parameters_in (entered n type p f).state p.names) r, tt {0}))
left_by n p f type line types (Ok r) h =
    left_types line type (parameters_in (entered n type p f).state p.names) r.0 r.1 (h.types types)
left_by n p f type line types (Err e) h = tt

body_by : (f : File) (formed : IsFormed f.state) (n : ℕ) (p : ParameterScope) (is : IsParameterScope f.state p)
    (type : List TypeWord) (line : ℕ) (b : t.Block) → is_regular_block b ≡ true → Types f.state
    → AreNamed (extents f.state) p.names → IsFunctionType (extents f.state) type
    → IfTypes (body_of line type p b (entered n type p f))
body_by f formed n p is type line (t.block l xs r) c types own function =
    left_by n p f type line ((type_stays type (inside n p f) function).types (inside_types n p f types own))
    (block_items (around_body type) xs (entered n type p f))
    (items_walk Values Spells spells_walk (around_body type) xs c (entered n type p f)
    (entered_leads f formed n p is type line).formed)

-- what a definition binds its name to

abbrev OfFunction : Structures → Option Meaning → Type 0
OfFunction es m =
    (n : ℕ) (type : List TypeWord) → m ≡ Some (meaning.Named (what.Function n) type) → IsFunctionType es type

scope_named : (es : Structures) (o : Option ParameterScope) → OfParameters es o → AreNamed es (scope_or_none o).names
scope_named es None h = tt
scope_named es (Some p) h = h

body_typed : (line : ℕ) (o : Option ParameterScope) (b : t.Block) → is_regular_block b ≡ true → (m : Option Meaning)
    (f : File) → IsFormed f.state → HasScope f.state o → Types f.state → OfParameters (extents f.state) o
    → OfFunction (extents f.state) m → IfTypes (with_body line o b m f)
body_typed line o b c (Some (meaning.Named (what.Function n) type)) f formed has types own is =
    body_by f formed n (scope_or_none o) (scope_is f.state o has) type line b c types
    (scope_named (extents f.state) o own) (is n type refl)
body_typed line o b c None f formed has types own is = types
body_typed line o b c (Some (meaning.Typedef type)) f formed has types own is = types
body_typed line o b c (Some (meaning.Constant w)) f formed has types own is = types
body_typed line o b c (Some (meaning.Named (what.Object n) type)) f formed has types own is = types
body_typed line o b c (Some (meaning.Named (what.Static n) type)) f formed has types own is = types
body_typed line o b c (Some (meaning.Named (what.Library r) type)) f formed has types own is = types
body_typed line o b c (Some (meaning.Named (what.Variable n) type)) f formed has types own is = types

-- the type that the declarator of a definition makes

function_by : (es : Structures) (base : List TypeWord) → IsSpelled es base → (ds : List Derivation)
    → Each (IsDerived es) ds → HasKinds es ds → NoFaults (built es base ds).faults
    → gives_incomplete es (built es base ds).type ≡ false → IsFunctionType es (built es base ds).type
function_by es base h [] is k good e = absurd cc
function_by es base h (to_pointer c ∷ ds) is k good e = absurd cc
function_by es base h (to_open_array ∷ ds) is k good e = absurd cc
function_by es base h (to_array n ∷ ds) is k good e = absurd cc
function_by es base h (to_function ps ∷ ds) is k good e =
    let r = (built es base ds).type in
    let spelled = built_spelled es base h (to_function ps ∷ ds) is good in
    let result = result_type 0 (function_words ps r) in
    let has = result_fits es 0 (function_words ps r) spelled in
    record {
      spelled = spelled;
      parameters = words_parameters es ps r is.0 k;
      result = result_kinded es result
          (subst (IsSpelled es) (sym (words_result es ps r is.0)) (rest_spelled es ps r is.0 spelled))
          (gives_no_array es result has) e (gives_no_function es result has);
    }

visible_function : (es : Structures) (s t : List TypeWord) (o : Option (List TypeWord)) → composite s t ≡ o
    → IsSpelled es s → IsFunctionType es t → IsFunctionType es (type_or o t)
visible_function es s t None e h is = is
visible_function es s t (Some c) e h is = composite_function_type es s t c e h is

-- no composite with words that spell no type
library_function : (es : Structures) (s t : List TypeWord) → (s ≡ []) ⊎ IsSpelled es s → IsFunctionType es t
    → IsFunctionType es (type_or (composite s t) t)
library_function es s t (inr h) is = visible_function es s t (composite s t) refl h is
library_function es s t (inl e) is =
    subst (λ z. IsFunctionType es (type_or (composite z t) t)) (sym e) (nothing_function es t (composite [] t) refl is)
  where
    nothing_function : (es : Structures) (t : List TypeWord) (o : Option (List TypeWord)) → composite [] t ≡ o
        → IsFunctionType es t → IsFunctionType es (type_or o t)
    nothing_function es t None e is = is
    nothing_function es [] (Some c) e is = absurd (false≢true is.spelled)
    nothing_function es (w ∷ t) (Some c) e is = none_first w t c _ e

linked_function : (es : Structures) (d : Designated) (s t : List TypeWord) → IsNamed es (meaning.Named d s)
    → IsFunctionType es t → IsFunctionType es (if is_linked d then type_or (composite s t) t else t)
linked_function es (what.Library f) s t h is = library_function es s t h is
linked_function es (what.Object n) s t h is = visible_function es s t (composite s t) refl h is
linked_function es (what.Function n) s t h is = visible_function es s t (composite s t) refl h is
linked_function es (what.Static n) s t h is = is
linked_function es (what.Variable n) s t h is = is

visible_type_function : (es : Structures) (t : List TypeWord) (m : Option Meaning)
    → ((x : Meaning) → m ≡ Some x → IsNamed es x) → IsFunctionType es t → IsFunctionType es (visible_type t m)
visible_type_function es t None h is = is
visible_type_function es t (Some (meaning.Typedef s)) h is = is
visible_type_function es t (Some (meaning.Constant w)) h is = is
visible_type_function es t (Some (meaning.Named d s)) h is = linked_function es d s t (h (meaning.Named d s) refl) is

unlinked_function : (s : State) (d : Declaration) (z : Storage) (n : ℕ) (type : List TypeWord)
    → unlinked_meaning z s.environment d ≡ meaning.Named (what.Function n) type → IsFunctionType (extents s) d.type
    → IsFunctionType (extents s) type
unlinked_function s d storage.Typedef n type e is = absurd cc
unlinked_function s d storage.Static n type e is = subst (IsFunctionType (extents s)) (type_is e) is
unlinked_function s d storage.Absent n type e is = subst (IsFunctionType (extents s)) (type_is e) is
unlinked_function s d storage.Extern n type e is = subst (IsFunctionType (extents s)) (type_is e) is
unlinked_function s d storage.Auto n type e is = subst (IsFunctionType (extents s)) (type_is e) is
unlinked_function s d storage.Register n type e is = subst (IsFunctionType (extents s)) (type_is e) is

bound_function : (s : State) (d : Declaration) → Types s → IsFunctionType (extents s) d.type → (b : Bool) (n : ℕ)
    (type : List TypeWord)
    → (if b then linked_meaning s.environment d else unlinked_meaning d.storage s.environment d)
    ≡ meaning.Named (what.Function n) type
    → IsFunctionType (extents s) type
bound_function s d h is true n type e =
    subst (IsFunctionType (extents s)) (type_is e)
    (visible_type_function (extents s) d.type (names.meaning d.name s.environment.names)
    (each_meaning (IsNamed (extents s)) d.name s.environment.names h.outer h.current) is)
bound_function s d h is false n type e = unlinked_function s d d.storage n type e is

record IfDefined (t : State) (m : Option Meaning) : Type 0 where
  types : Types t
  function : OfFunction (extents t) m

abbrev OfDefined : Answer (State × Option Meaning) → Type 0
OfDefined (Ok r) = IfDefined r.0 r.1
OfDefined (Err e) = Unit {0}

answered_typed : (s : State) → Types s → (d : Declaration) → (d.type_rule ≡ None → IsFunctionType (extents s) d.type)
    → (name : Name × ℕ) → d.name ≡ name.0 → (a : Answer (Unit {0}))
    → judged_declarator (surroundings s.environment d) d ≡ a → OfDefined (answered d s name a)
answered_typed s h d is name same (Ok x) e =
    let known = judged_known (surroundings s.environment d) d x e in
    let function = is known.faultless in
    let t = record s { environment = with_declared s.environment d } in
    let here = ap (λ z. declared z t.environment.names.current) (sym same) ∙ (declarator_binds s d).here in
    record {
      types = declarator_types s d h function.spelled;
      function = λ n type g. subst (λ es. IsFunctionType es type) (sym (declarator_extents s d))
          (bound_function s d h function (has_linkage (in_file s.environment) d) n type (the_same (sym here ∙ g)));
    }
answered_typed s h d is name same (Err f) e = tt

pub definition_function : (s : State) (spec : Specification) → OfSpecification (extents s) spec → (d : Declarator)
    (sh : Shape) → IsDeclared true d (extents s) sh → defines_function d ≡ true → (name : Name × ℕ)
    → (definition_of (extents s) spec (built_in s spec sh) name).type_rule ≡ None
    → IsFunctionType (extents s) (built_in s spec sh).type
definition_function s spec h d sh is defines name e =
    let b = built_in s spec sh in
    let good = without_faults
    (record b.faults { incomplete = b.faults.incomplete || gives_incomplete (extents s) b.type }) e in
    function_by (extents s) spec.type h sh.derivations is.shape.derived (is.kinds refl defines)
    (record {
      complete = neither_left b.faults.incomplete (gives_incomplete (extents s) b.type) good.complete;
      placed = good.placed;
      counted = good.counted;
      small = good.small;
    })
    (neither_right b.faults.incomplete (gives_incomplete (extents s) b.type) good.complete)

defined_as_typed : (s : State) → Types s → (spec : Specification) → OfSpecification (extents s) spec → (d : Declarator)
    (sh : Shape) → IsDeclared true d (extents s) sh → defines_function d ≡ true → (name : Name × ℕ) (b : Bool)
    → OfDefined
    (if b then violates MisplacedStorage spec.line
    else answered (definition_of (extents s) spec (built_in s spec sh) name) s name
    (judged_declarator (surroundings s.environment (definition_of (extents s) spec (built_in s spec sh) name))
    (definition_of (extents s) spec (built_in s spec sh) name)))
defined_as_typed s types spec h d sh is defines name true = tt
defined_as_typed s types spec h d sh is defines name false =
    let x = definition_of (extents s) spec (built_in s spec sh) name in
    answered_typed s types x (definition_function s spec h d sh is defines name) name refl
    (judged_declarator (surroundings s.environment x) x) refl

named_typed : (f : File) (d : Declaration) (name : Name) (o : Option ParameterScope) (line : ℕ) (b : t.Block)
    → is_regular_block b ≡ true → HasScope f.state o → OfParameters (extents f.state) o
    → (a : Answer (State × Option Meaning)) → IfDeclared d f.state a → OfDefined a
    → IfTypes (a >>= filed f >>= λ r. with_body line o b r.1 r.0)
named_typed f d name o line b c has own (Ok r) h is =
    let leads = bound_leads d.name (bound_meaning f.state.environment d) f.state r.0 h.0.binds h.0.formed in
    body_typed line o b c r.1 (record f { state = r.0 }) h.0.formed (scope_kept f.state r.0 leads.longer o has) is.types
    (parameters_kept (extents f.state) (extents r.0) leads.more o own) is.function
named_typed f d name o line b c has own (Err e) h is = tt

defined_typed : (spec : Specification) → is_sized_array spec.type ≡ true → (d : Declarator)
    → defines_function d ≡ true → (sh : Shape) → AreCounted sh.derivations → (b : t.Block)
    → is_regular_block b ≡ true → (name : Option (Name × ℕ)) (f : File) → IsFormed f.state
    → HasScope f.state sh.parameters → Types f.state → OfSpecification (extents f.state) spec
    → IsDeclared true d (extents f.state) sh → IfTypes (defined_by spec sh b name f)
defined_typed spec sized d defines sh counted b c None f formed has types h is = types
defined_typed spec sized d defines sh counted b c (Some name) f formed has types h is =
    named_typed f (definition_of (extents f.state) spec (built_in f.state spec sh) name) name.0 sh.parameters name.1 b c
    has is.shape.parameters (defined_as spec sh name f.state)
    (defined_as_declares f.state formed spec sized sh counted name (is_typedef spec.storage))
    (defined_as_typed f.state types spec h d sh is defines name (is_typedef spec.storage))

-- a file whose definitions have parameters behind their names

declared_ends : {A : Type 0} (x : A) (a : Answer (File × List DeclaredVariable)) → IfTypes a
    → IfTypes (a >>= λ r. Ok (r.0, x))
declared_ends x (Ok r) h = h
declared_ends x (Err e) h = tt

pub external_typed : (e : t.External) → is_regular_external e ≡ true → defines e ≡ true → (f : File) → IsFormed f.state
    → Types f.state → IfTypes (external e f)
external_typed (t.definition specs d b) c defines f formed types =
    state_then f IsSpecified OfSpecification
    ((specification false specs >>> λ spec. judged (stored_once spec)) f.state)
    (λ spec. in_state (shape true d) ~> λ sh. defined_by spec sh b sh.name)
    (stored_extends specs (first _ _ (first _ _ c)) f.state formed)
    (stored_specification false specs (first _ _ (first _ _ c)) f.state formed types)
    (λ spec g e sized types h. state_then g (λ u sh. IsShapeOf u d sh) (IsDeclared true d) (shape true d g.state)
    (λ sh. defined_by spec sh b sh.name) (shape_extends true d (second _ _ (first _ _ c)) g.state e.formed)
    (shape_typed true d (second _ _ (first _ _ c)) g.state e.formed types)
    (λ sh k e' has types own. defined_typed spec sized d defines sh has.counted b (second _ _ c) sh.name k e'.formed
    has.scope types (spelled_kept (extents g.state) (extents k.state) e'.more spec.type h) own))
external_typed (t.declaration d) c defines f formed types =
    declared_ends tt (declaration false d f) (declaration_typed false d c f formed types)

then_external : {B : Type 0} (f : File) (a : Answer (File × Unit {0})) (next : Unit {0} → FileTyping B) → Growing f a
    → IfTypes a → ((g : File) → IsFormed g.state → Types g.state → IfTypes (next tt g))
    → IfTypes (a >>= λ r. next r.1 r.0)
then_external f (Ok r) next grows h k = k r.0 grows.formed h
then_external f (Err e) next grows h k = tt

pub externals_typed : (es : List t.External) → are_regular_externals es ≡ true → define_functions es ≡ true
    → (f : File) → IsFormed f.state → Types f.state → IfTypes (externals es f)
externals_typed [] c d f formed types = types
externals_typed (e ∷ es) c d f formed types =
    then_external f (external e f) (λ done. externals es) (external_grows e (first _ _ c) f formed)
    (external_typed e (first _ _ c) (first _ _ d) f formed types)
    (λ g formed types. externals_typed es (second _ _ c) (second _ _ d) g formed types)
