-- Definitions of a file number the functions that it defines.
use Rattle.std.proofs.Common.{◌≡◌, ℕ, Bool, true, false, ◌&&◌, ◌||◌, refl, sym, ap, ◌∙◌, subst}
use Rattle.std.proofs.Common.{List, [], ◌∷◌, ◌++◌, length, Option, Some, None, if◌then◌else◌}
use Rattle.std.proofs.lemmas.Bool.{or_right as or_true}
use Rattle.std.specs.Prelude.{Ok, Err, is_some}
use Rattle.c_syntax.specs.Formed as formed
use Rattle.c_syntax.specs.Formed.{defines_function}
use Rattle.c_syntax.specs.Statements as t
use Rattle.c_syntax.specs.Tree.{Declarator, Specifiers}
use Rattle.c_tree.specs.declared.c_type.TypeWord.{TypeWord}
use Rattle.c_tree.specs.declared.c_type.TypeWord.TheVariants as word
use Rattle.c_tree.specs.Statements.{DeclaredVariable, Statements}
use Rattle.c_facts.specs.Facts.{Found, numbered, with_external}
use Rattle.c_facts.specs.Facts as facts
use Rattle.c_faults.specs.declared.fault.Rule.TheVariants.{MisplacedStorage}
use Rattle.c_faults.specs.Answer.{Answer, violates, ◌>>=◌}
use Rattle.c_scope.specs.declared.meaning.Designated.{Designated}
use Rattle.c_scope.specs.declared.meaning.Designated.TheVariants as what
use Rattle.c_scope.specs.declared.meaning.Entity.{Entity}
use Rattle.c_scope.specs.declared.meaning.Meaning.{Meaning}
use Rattle.c_scope.specs.declared.meaning.Meaning.TheVariants as meaning
use Rattle.c_scope.specs.Composite.{composite}
use Rattle.c_scope.specs.Declaring.{Declaration, has_linkage, is_extern, is_function, is_linked}
use Rattle.c_scope.specs.Declaring.{is_typedef, judged as judged_declarator}
use Rattle.c_scope.specs.Environment.{Environment, Facts, entity_with, in_file, linked, surroundings, type_or}
use Rattle.c_scope.specs.Environment.{visible_type, with_declarator, without_linkage}
use Rattle.c_scope.specs.Names.{Name, Names, bound, declared}
use Rattle.c_scope.specs.Names as names
use Rattle.c_scope.specs.Parameters.{ParameterScope}
use Rattle.c_operand_typing.specs.Calls.{place_among}
use Rattle.c_declarator_typing.specs.Declarators.{Shape, built_in}
use Rattle.c_declarator_typing.specs.Specifications.{Specification}
use Rattle.c_typing_state.specs.State.{State, extents, judged, ◌>>>◌}
use Rattle.c_expression_typing.specs.Typed.{shape, specification}
use Rattle.c_unit_typing.specs.Declarations.{declaration, stored_once}
use Rattle.c_unit_typing.specs.Files.{Definition, File, FileTyping, in_state, ◌~>◌}
use Rattle.c_unit_typing.specs.Statements.{block_items}
use Rattle.c_unit_typing.specs.Units.{around_body, defined_by, definition_of, entered, external}
use Rattle.c_unit_typing.specs.Units.{left, parameters_in, scope_or_none, with_body}
use Rattle.typing_laws.specs.SpelledTypes.Spelled.{has_parameters}
use Rattle.typing_laws.specs.Validity.Sound.{IsFormed, is_sized_array}
use Rattle.typing_laws.specs.Validity.Steps.{Structures}
use Rattle.typing_laws.proofs.Validity.Common.{first, second}
use Rattle.typing_laws.proofs.Validity.PointerCalls.{type_there}
use Rattle.typing_laws.specs.Declarators.Extending.{Extending, Extends}
use Rattle.typing_laws.specs.Declarators.Given.{AreCounted, HasScope, IsParameterScope, IsShapeOf, IsSpecified}
use Rattle.typing_laws.proofs.Declarators.Marks.{type_extends}
use Rattle.typing_laws.proofs.Declarators.Recursion.{scope_kept, shape_extends}
use Rattle.typing_laws.specs.Declarations.Binding.{IfDeclared, bound_meaning, linked_meaning, unlinked_meaning}
use Rattle.typing_laws.proofs.Declarations.Bound.{declarator_binds}
use Rattle.typing_laws.proofs.Declarations.Facts.{declarators_keep_facts}
use Rattle.typing_laws.proofs.Declarations.Judged.{answered, if_declared}
use Rattle.typing_laws.proofs.Declarations.Named.{HasNameOf, named_as, shape_named}
use Rattle.typing_laws.specs.Scopes.Leaving.{FileLeads, Leading}
use Rattle.typing_laws.specs.Scopes.Regular.{is_regular_block, is_regular_external}
use Rattle.typing_laws.proofs.Scopes.Declarations.{declaration_leads}
use Rattle.typing_laws.proofs.Scopes.Files.{built_definition, entered_leads, inside, inside_formed, scope_is}
use Rattle.typing_laws.proofs.Scopes.Files.{stored_extends}
use Rattle.typing_laws.proofs.Scopes.Initializers.{values_walk}
use Rattle.typing_laws.proofs.Scopes.Leading.{bound_leads, closed_leads, file_on, file_same, leads_by}
use Rattle.typing_laws.proofs.Scopes.Leading.{state_leads}
use Rattle.typing_laws.proofs.Scopes.Statements.{IfFileBehind, Walk, items_walk}
use Rattle.typing_laws.specs.Scopes.Defined.{defines}
use Rattle.program_laws.proofs.Files.Definitions.{definition_function}
use Rattle.program_laws.proofs.Files.Files.{IsOutside, outside_by, linkage_by}
use Rattle.program_laws.proofs.Files.Spelled.{stored_specification}
use Rattle.typing_laws.specs.Types.Typed.{OfSpecification, Typed, Types}
use Rattle.typing_laws.proofs.Types.Declarators.{IsDeclared}
use Rattle.typing_laws.proofs.Types.Kept.{spelled_kept}
use Rattle.typing_laws.proofs.Types.Parameters.{IsJudged, judged_known}
use Rattle.typing_laws.proofs.Types.Recursion.{shape_typed}
use Rattle.program_laws.specs.Functions.Entities.{AreNumbered, is_library, names_function, number_of}
use Rattle.program_laws.specs.Functions.Entities.{without_sizes}
use Rattle.program_laws.proofs.Functions.Declarations.{IfKept, KeepsIn, declaration_kept, extends_keeps}
use Rattle.program_laws.proofs.Functions.Declarations.{keeps_in}
use Rattle.program_laws.proofs.Functions.Declarations.{same_in}
use Rattle.program_laws.specs.Functions.Functions.{Defines, Functions, Registered}
use Rattle.program_laws.proofs.Functions.Defined.{defines_kept, defines_more, numbered_kept, numbered_more}
use Rattle.program_laws.proofs.Functions.Defined.{registered_add, registered_more}
use Rattle.program_laws.proofs.Functions.Entities.{compatible_words, composite_words, function_words}
use Rattle.program_laws.proofs.Functions.Entities.{declarator_facts, known_old, new_number}
use Rattle.typing_laws.proofs.Common.{IfGives, conflict, filed}

-- blocks

pub record KeepsFile (f g : File) : Type 0 where
  pub leads : FileLeads f g
  pub keeps : KeepsIn f.state g.state

kept_by : {A : Type 0} (f : File) (a : Answer (File × A)) → Leading f a → IfKept f a → IfFileBehind KeepsFile f a
kept_by f (Ok r) l h = record { leads = l; keeps = h }
kept_by f (Err e) l h = tt

pub keeps_walk : Walk (Extends false) KeepsFile
keeps_walk = record {
  values = values_walk;
  file_same = λ f formed. record { leads = file_same f formed; keeps = same_in f.state };
  file_on = λ f g h a b. record {
    leads = file_on f g h a.leads b.leads;
    keeps = keeps_in f.state g.state h.state a.keeps b.keeps;
  };
  file_formed = λ f g h. h.leads.state.formed;
  in_file = λ f t h. record {
    leads = state_leads f t (leads_by f.state t h);
    keeps = extends_keeps f.state t h;
  };
  scope = λ f g formed h. record { leads = closed_leads f g formed h.leads; keeps = h.keeps };
  declared = λ in_head d c f formed.
      kept_by f (declaration in_head d f) (declaration_leads in_head d c f formed)
      (declaration_kept in_head d c f formed);
}

-- the block of a function

abbrev pub IfDefines : {A : Type 0} → Names ℕ → Answer (File × A) → Type 0
IfDefines numbers (Ok r) =
    Functions r.0.definitions r.0.state.environment.entities r.0.state.function_types numbers
    × AreNumbered r.0.state.environment.facts.functions r.0.state.environment.entities
IfDefines numbers (Err e) = Unit {0}

-- whatever definition of this type stands behind those so far
abbrev WithDefinition : File → List TypeWord → Names ℕ → Type 0
WithDefinition f type numbers =
    ((d : Definition) → d.type ≡ type → Defines (f.definitions ++ d ∷ []) f.state.environment.entities numbers)
    × AreNumbered f.state.environment.facts.functions f.state.environment.entities

numbered_in : (s t : State) → AreNumbered s.environment.facts.functions s.environment.entities → KeepsIn s t
    → AreNumbered t.environment.facts.functions t.environment.entities
numbered_in s t h k =
    subst (λ z. AreNumbered z t.environment.entities) (sym k.1)
    (numbered_kept s.environment.facts.functions s.environment.entities t.environment.entities h k.0)

left_by : (f : File) (formed : IsFormed f.state) (n : ℕ) (p : ParameterScope) (is : IsParameterScope f.state p)
    (type : List TypeWord) (line : ℕ) (numbers : Names ℕ) → WithDefinition f type numbers
    → Registered f.definitions f.state.function_types
    → (a : Answer (File × Statements)) → IfFileBehind KeepsFile (entered n type p f) a
    → IfDefines numbers
    (a >>= λ r. Ok (left line type (parameters_in (entered n type p f).state p.names) r, tt {0}))
left_by f formed n p is type line numbers h g (Ok r) k =
    let entering = type_extends false type (inside n p f) (inside_formed f formed n p is) in
    let d : Definition = record {
      line = line;
      type = type;
      parameters = parameters_in (entered n type p f).state p.names;
      variables = r.0.variables;
      body = r.1;
    } in
    let types = (entered n type p f).state.function_types in
    let before = registered_more f.definitions f.state.function_types types g entering.types in
    let added = registered_add f.definitions types d before (place_among type f.state.function_types)
    (type_there type (inside n p f)) in
    let kept = keeps_in f.state (entered n type p f).state r.0.state
    (extends_keeps (inside n p f) (entered n type p f).state entering) k.keeps in (
      record {
        defines = subst (λ z. Defines (z ++ d ∷ []) r.0.state.environment.entities numbers) (sym k.leads.definitions)
            (defines_kept f.state.environment.facts.functions (f.definitions ++ d ∷ []) f.state.environment.entities
            r.0.state.environment.entities numbers (h.0 d refl) kept.0);
        registered = subst (λ z. Registered (z ++ d ∷ []) r.0.state.function_types) (sym k.leads.definitions)
            (registered_more (f.definitions ++ d ∷ []) types r.0.state.function_types added k.leads.state.types);
      },
      numbered_in f.state r.0.state h.1 kept,
    )
left_by f formed n p is type line numbers h g (Err e) k = tt

body_defines : (line : ℕ) (o : Option ParameterScope) (b : t.Block) → is_regular_block b ≡ true → (w : Designated)
    (type : List TypeWord) (f : File) → IsFormed f.state → HasScope f.state o → names_function w ≡ true
    → (numbers : Names ℕ) → WithDefinition f type numbers → Registered f.definitions f.state.function_types
    → IfDefines numbers (with_body line o b (Some (meaning.Named w type)) f)
body_defines line o (t.block l xs r) c (what.Function n) type f formed has e numbers h g =
    let p = scope_or_none o in
    let is = scope_is f.state o has in
    left_by f formed n p is type line numbers h g (block_items (around_body type) xs (entered n type p f))
    (items_walk (Extends false) KeepsFile keeps_walk (around_body type) xs c (entered n type p f)
    (entered_leads f formed n p is type line).formed)
body_defines line o b c (what.Object n) type f formed has e numbers h g = absurd cc
body_defines line o b c (what.Static n) type f formed has e numbers h g = absurd cc
body_defines line o b c (what.Library r) type f formed has e numbers h g = absurd cc
body_defines line o b c (what.Variable n) type f formed has e numbers h g = absurd cc

-- the entity of a definition

pub visible_words : (t : List TypeWord) (m : Option Meaning) → without_sizes (visible_type t m) ≡ without_sizes t
visible_words t None = refl
visible_words t (Some (meaning.Typedef s)) = refl
visible_words t (Some (meaning.Constant w)) = refl
visible_words t (Some (meaning.Named d s)) = by (is_linked d) (composite s t) refl
  where
    by : (b : Bool) (o : Option (List TypeWord)) → composite s t ≡ o
        → without_sizes (if b then type_or o t else t) ≡ without_sizes t
    by false o e = refl
    by true None e = refl
    by true (Some c) e = (composite_words s t c e).1

record IsDefinedEntity (d : Declaration) (x : Entity) : Type 0 where
  defined : x.is_defined ≡ true
  function : names_function x.what ≡ true
  words : without_sizes x.c_type ≡ without_sizes d.type

and_true : (a b : Bool) → b ≡ true → (a && b) ≡ false → a ≡ false
and_true true b e g = conflict (sym g ∙ e)
and_true false b e g = refl

new_function : (b : Bool) (f n : ℕ) → b ≡ true → names_function (if b then what.Function f else what.Object n) ≡ true
new_function true f n e = refl
new_function false f n e = absurd cc

module _ (f : File) (numbers : Names ℕ) (h : Defines f.definitions f.state.environment.entities numbers)
    (d : Declaration) (known : IsJudged (surroundings f.state.environment d) d) (body : d.has_body ≡ true)
    (linkage : has_linkage (in_file f.state.environment) d ≡ true) (function : is_function d.type ≡ true) where
  old_undefined : (y : Entity) → declared d.name f.state.environment.entities ≡ Some y → y.is_defined ≡ false
  old_undefined y e =
      and_true y.is_defined (d.has_initializer || d.has_body) (or_true d.has_initializer d.has_body body)
      (known_old f.state.environment d known linkage y e).1

  old_own : (y : Entity) → declared d.name f.state.environment.entities ≡ Some y → (b : Bool) → is_library y.what ≡ b
      → b ≡ false
  old_own y e true g = conflict (sym (old_undefined y e) ∙ h.library d.name y e g)
  old_own y e false g = refl

  defined_entity : (o : Option Entity) → declared d.name f.state.environment.entities ≡ o
      → IsDefinedEntity d (entity_with f.state.environment d o)
  defined_entity None e = record {
    defined = or_true d.has_initializer d.has_body body;
    function = new_function (is_function d.type) _ f.state.environment.statics function;
    words = refl;
  }
  defined_entity (Some y) e =
      let compatible = (known_old f.state.environment d known linkage y e).0 in
      let words = compatible_words y.c_type d.type y.c_type compatible in
      record {
        defined = or_true y.is_defined (d.has_initializer || d.has_body) (or_true d.has_initializer d.has_body body);
        function = h.kinds d.name y e (old_own y e (is_library y.what) refl)
            ∙ sym (function_words (type_or (composite y.c_type d.type) y.c_type) y.c_type words.0)
            ∙ function_words (type_or (composite y.c_type d.type) y.c_type) d.type words.1 ∙ function;
        words = words.1;
      }

  no_number : (o : Option ℕ) → declared d.name numbers ≡ o → o ≡ None
  no_number None e = refl
  no_number (Some k) e =
      let is = h.each d.name k e in conflict (sym (old_undefined is.entity is.linked) ∙ is.defined)

  pub with_definition : (type : List TypeWord) → without_sizes type ≡ without_sizes d.type → (x : Definition)
      → x.type ≡ type
      → Defines (f.definitions ++ x ∷ [])
      (bound d.name (entity_with f.state.environment d (declared d.name f.state.environment.entities))
      f.state.environment.entities) (bound d.name (length numbers) numbers)
  with_definition type same x e =
      let y = entity_with f.state.environment d (declared d.name f.state.environment.entities) in
      let own = defined_entity (declared d.name f.state.environment.entities) refl in
      defines_more f.definitions f.state.environment.entities numbers h d.name y x
      (no_number (declared d.name numbers) refl) own.defined own.function
      (function_words y.c_type d.type own.words ∙ function) (ap without_sizes e ∙ same ∙ sym own.words)

  pub numbered_next : numbered d.name numbers ≡ bound d.name (length numbers) numbers
  numbered_next = ap (λ o. if is_some o then numbers else bound d.name (length numbers) numbers)
      (no_number (declared d.name numbers) refl)

  pub entity_function : names_function
      (entity_with f.state.environment d (declared d.name f.state.environment.entities)).what ≡ true
  entity_function = (defined_entity (declared d.name f.state.environment.entities) refl).function

function_type : (es : Structures) (type : List TypeWord) → has_parameters es 0 type ≡ true → is_function type ≡ true
function_type es (word.Takes ∷ ws) e = refl
function_type es (word.Gives ∷ ws) e = refl
function_type es [] e = absurd cc
function_type es (word.Void ∷ ws) e = absurd cc
function_type es (word.Integer i ∷ ws) e = absurd cc
function_type es (word.Enumeration k ∷ ws) e = absurd cc
function_type es (word.Pointer ∷ ws) e = absurd cc
function_type es (word.Array c b ∷ ws) e = absurd cc
function_type es (word.OpenArray ∷ ws) e = absurd cc
function_type es (word.Structure k ∷ ws) e = absurd cc
function_type es (word.Const ∷ ws) e = absurd cc

pub declared_entities : (env : Environment) (d : Declaration) (b : Bool) → b ≡ true
    → (if b then linked env d else without_linkage d.storage env d).entities
    ≡ bound d.name (entity_with env d (declared d.name env.entities)) env.entities
declared_entities env d true e = refl
declared_entities env d false e = absurd cc

-- a definition that violates no rule
module _ (f : File) (numbers : Names ℕ) (h : Defines f.definitions f.state.environment.entities numbers)
    (d : Declaration) (name : Name × ℕ) (same : d.name ≡ name.0) (plain : is_typedef d.storage ≡ false)
    (file : in_file f.state.environment ≡ true) (bodied : d.has_body ≡ true)
    (function : d.type_rule ≡ None → is_function d.type ≡ true) (line : ℕ) (o : Option ParameterScope) (b : t.Block)
    (c : is_regular_block b ≡ true)
    (declares : (a : Answer (Unit {0})) → judged_declarator (surroundings f.state.environment d) d ≡ a
    → IfDeclared d f.state (answered d f.state name a)) (has : HasScope f.state o)
    (registered : Registered f.definitions f.state.function_types)
    (each : AreNumbered f.state.environment.facts.functions f.state.environment.entities) where
  entity_number : (o : Option Entity) → declared d.name f.state.environment.entities ≡ o → (n : ℕ)
      → (entity_with f.state.environment d o).what ≡ what.Function n
      → n ≡ number_of d.name f.state.environment.facts.functions
  entity_number None e n w = new_number (is_function d.type) _ f.state.environment.statics n w
  entity_number (Some y) e n w = each.each d.name y n e w

  answered_defines : (a : Answer (Unit {0})) → judged_declarator (surroundings f.state.environment d) d ≡ a
      → IfDefines (numbered d.name numbers)
      (answered d f.state name a >>= filed f >>= λ r. with_body line o b r.1 r.0)
  answered_defines (Err e) is = tt
  answered_defines (Ok x) is =
      let known = judged_known (surroundings f.state.environment d) d x is in
      let env = f.state.environment in
      let t = record f.state { environment = with_declarator f.state.environment d } in
      let g = record f { state = t } in
      let linkage = linkage_by (is_typedef d.storage) (in_file f.state.environment) (is_function d.type)
      (is_extern d.storage) plain file in
      let y = entity_with f.state.environment d (declared d.name f.state.environment.entities) in
      let type = visible_type d.type (names.meaning d.name f.state.environment.names) in
      let meant = ap (λ z. declared z t.environment.names.current) (sym same) ∙ (declarator_binds f.state d).here
      ∙ ap (λ z. Some (if z then linked_meaning f.state.environment d
      else unlinked_meaning d.storage f.state.environment d)) linkage in
      let entities = declared_entities f.state.environment d (has_linkage (in_file f.state.environment) d) linkage in
      let is_f = function known.faultless in
      let own = declares (Ok x) is in
      let leads = bound_leads d.name (bound_meaning f.state.environment d) f.state t own.0.binds own.0.formed in
      subst (λ m. IfDefines (numbered d.name numbers) (with_body line o b m g)) (sym meant)
      (body_defines line o b c y.what type g own.0.formed (scope_kept f.state t leads.longer o has)
      (entity_function f numbers h d known bodied linkage is_f) (numbered d.name numbers) (
        (λ z e. subst (λ es. Defines (f.definitions ++ z ∷ []) es (numbered d.name numbers)) (sym entities)
            (subst (λ n. Defines (f.definitions ++ z ∷ []) (bound d.name y f.state.environment.entities) n)
            (sym (numbered_next f numbers h d known bodied linkage is_f))
            (with_definition f numbers h d known bodied linkage is_f type
            (visible_words d.type (names.meaning d.name f.state.environment.names)) z e))),
        subst (λ z. AreNumbered z t.environment.entities)
            (sym (ap (λ z. z.functions) (declarator_facts f.state.environment d)))
            (subst (AreNumbered f.state.environment.facts.functions) (sym entities)
            (numbered_more f.state.environment.facts.functions f.state.environment.entities d.name y each
            (entity_number (declared d.name f.state.environment.entities) refl))),
      ) registered)

-- the numbers of functions behind a definition

abbrev pub FunctionsOf : File → Names ℕ → Type 0
FunctionsOf f numbers =
    Functions f.definitions f.state.environment.entities f.state.function_types numbers
    × AreNumbered f.state.environment.facts.functions f.state.environment.entities

abbrev numbered_if : Option Name → Names ℕ → Names ℕ
numbered_if None numbers = numbers
numbered_if (Some name) numbers = numbered name numbers

definition_by : (f : File) (numbers : Names ℕ) → FunctionsOf f numbers
    → IsOutside f → Types f.state → (spec : Specification) → is_sized_array spec.type ≡ true
    → OfSpecification (extents f.state) spec → (d : Declarator) → defines_function d ≡ true → (sh : Shape)
    → AreCounted sh.derivations → IsDeclared true d (extents f.state) sh → HasScope f.state sh.parameters
    → (b : t.Block) → is_regular_block b ≡ true → (name : Name × ℕ) (is : Bool) → is_typedef spec.storage ≡ is
    → IfDefines (numbered name.0 numbers)
    ((if is then violates MisplacedStorage spec.line
    else answered (definition_of (extents f.state) spec (built_in f.state spec sh) name) f.state name
    (judged_declarator (surroundings f.state.environment (definition_of (extents f.state) spec
    (built_in f.state spec sh) name))
    (definition_of (extents f.state) spec (built_in f.state spec sh) name)))
    >>= filed f >>= λ r. with_body name.1 sh.parameters b r.1 r.0)
definition_by f numbers h out types spec sized own d defined sh counted is has b c name true e = tt
definition_by f numbers h out types spec sized own d defined sh counted is has b c name false e =
    let x = definition_of (extents f.state) spec (built_in f.state spec sh) name in
    answered_defines f numbers h.0.defines x name refl e out.file refl
    (λ g. function_type (extents f.state) x.type
    (definition_function f.state spec own d sh is defined name g).parameters)
    name.1 sh.parameters b c
    (λ a g. if_declared f.state out.formed x (built_definition f.state out.formed spec sized sh counted name) name refl
    a g) has h.0.registered h.1
    (judged_declarator (surroundings f.state.environment x) x) refl

defined_defines : (f : File) (numbers : Names ℕ) → FunctionsOf f numbers
    → IsOutside f → Types f.state → (spec : Specification) → is_sized_array spec.type ≡ true
    → OfSpecification (extents f.state) spec → (d : Declarator) → defines_function d ≡ true → (sh : Shape)
    → AreCounted sh.derivations → IsDeclared true d (extents f.state) sh → HasScope f.state sh.parameters
    → (b : t.Block) → is_regular_block b ≡ true → (name : Option (Name × ℕ))
    → IfDefines (numbered_if (named_as name) numbers) (defined_by spec sh b name f)
defined_defines f numbers h out types spec sized own d defined sh counted is has b c None = h
defined_defines f numbers h out types spec sized own d defined sh counted is has b c (Some name) =
    definition_by f numbers h out types spec sized own d defined sh counted is has b c name (is_typedef spec.storage)
    refl

-- behind specifiers and a declarator

record IsBehind (f g : File) : Type 0 where
  outside : IsOutside g
  types : Types g.state
  extends : Extends false f.state g.state
  definitions : g.definitions ≡ f.definitions

state_then : {A B : Type 0} (f : File) (numbers : Names ℕ) → IsOutside f → (p : State → A → Type 0)
    (g : Structures → A → Type 0) (n : A → Type 0) (a : Answer (State × A)) (next : A → FileTyping B)
    → Extending false f.state p a → Typed g a → IfGives n a
    → ((x : A) (h : File) → IsBehind f h → p h.state x → g (extents h.state) x → n x → IfDefines numbers (next x h))
    → IfDefines numbers (a >>= filed f >>= λ r. next r.1 r.0)
state_then f numbers out p g n (Ok r) next e is m k =
    let o = outside_by f out r.0 e.0 in
    k r.1 (record f { state = r.0 }) (record { outside = o.1; types = is.0; extends = e.0; definitions = refl }) e.1
    is.1 m
state_then f numbers out p g n (Err x) next e is m k = tt

anything_plain : {A : Type 0} (a : Answer (State × A)) → IfGives (λ x. Unit {0}) a
anything_plain (Ok r) = tt
anything_plain (Err e) = tt

defines_behind : (f g : File) (numbers : Names ℕ) → IsBehind f g → FunctionsOf f numbers → FunctionsOf g numbers
defines_behind f g numbers is h = (
  record {
    defines = subst (λ z. Defines z g.state.environment.entities numbers) (sym is.definitions)
        (defines_kept f.state.environment.facts.functions f.definitions f.state.environment.entities
        g.state.environment.entities numbers h.0.defines (extends_keeps f.state g.state is.extends).0);
    registered = subst (λ z. Registered z g.state.function_types) (sym is.definitions)
        (registered_more f.definitions f.state.function_types g.state.function_types h.0.registered is.extends.types);
  },
  numbered_in f.state g.state h.1 (extends_keeps f.state g.state is.extends),
)

definition_defines : (specs : Specifiers) (d : Declarator) (b : t.Block)
    → is_regular_external (t.definition specs d b) ≡ true → defines_function d ≡ true → (f : File) (numbers : Names ℕ)
    → FunctionsOf f numbers → IsOutside f → Types f.state
    → IfDefines (numbered_if (formed.declared d) numbers) (external (t.definition specs d b) f)
definition_defines specs d b c defined f numbers h out types =
    let numbers' = numbered_if (formed.declared d) numbers in
    state_then f numbers' out IsSpecified OfSpecification (λ x. Unit {0})
    ((specification false specs >>> λ spec. judged (stored_once spec)) f.state)
    (λ spec. in_state (shape true d) ~> λ sh. defined_by spec sh b sh.name)
    (stored_extends specs (first _ _ (first _ _ c)) f.state out.formed)
    (stored_specification false specs (first _ _ (first _ _ c)) f.state out.formed types)
    (anything_plain ((specification false specs >>> λ spec. judged (stored_once spec)) f.state))
    (λ spec g is sized own n. state_then g numbers' is.outside (λ u sh. IsShapeOf u d sh) (IsDeclared true d)
    (HasNameOf d) (shape true d g.state) (λ sh. defined_by spec sh b sh.name)
    (shape_extends true d (second _ _ (first _ _ c)) g.state is.outside.formed)
    (shape_typed true d (second _ _ (first _ _ c)) g.state is.outside.formed is.types)
    (shape_named true d g.state)
    (λ sh k is' shaped declared named.
    subst (λ z. IfDefines (numbered_if z numbers) (defined_by spec sh b sh.name k)) named
    (defined_defines k numbers (defines_behind g k numbers is' (defines_behind f g numbers is h)) is'.outside is'.types
    spec sized (spelled_kept (extents g.state) (extents k.state) is'.extends.more spec.type own) d defined sh
    shaped.counted declared shaped.scope b (second _ _ c) sh.name)))

-- declarations define no functions

declared_defines : (f : File) (numbers : Names ℕ) → FunctionsOf f numbers
    → (a : Answer (File × List DeclaredVariable)) → Leading f a → IfKept f a
    → IfDefines numbers (a >>= λ r. Ok (r.0, tt {0}))
declared_defines f numbers h (Ok r) l k = (
  record {
    defines = subst (λ z. Defines z r.0.state.environment.entities numbers) (sym l.definitions)
        (defines_kept f.state.environment.facts.functions f.definitions f.state.environment.entities
        r.0.state.environment.entities numbers h.0.defines k.0);
    registered = subst (λ z. Registered z r.0.state.function_types) (sym l.definitions)
        (registered_more f.definitions f.state.function_types r.0.state.function_types h.0.registered l.state.types);
  },
  numbered_in f.state r.0.state h.1 k,
)
declared_defines f numbers h (Err e) l k = tt

defined_functions : (o : Option Name) (x : Facts) → (facts.defined o x).functions ≡ numbered_if o x.functions
defined_functions None x = refl
defined_functions (Some name) x = refl

pub external_defines : (e : t.External) → is_regular_external e ≡ true → defines e ≡ true → (f : File) (q : Found)
    → FunctionsOf f q.facts.functions → IsOutside f → Types f.state
    → IfDefines (with_external e q).facts.functions (external e f)
external_defines (t.definition specs d b) c defined f q h out types =
    subst (λ z. IfDefines z (external (t.definition specs d b) f))
    (sym (defined_functions (formed.declared d) (facts.with_tags specs q).facts))
    (definition_defines specs d b c defined f q.facts.functions h out types)
external_defines (t.declaration d) c defined f q h out types =
    subst (λ z. IfDefines z (external (t.declaration d) f))
    (sym (declarators_keep_facts (λ x. x.functions) (λ x name. refl) (facts.heading q.types d.specifiers) d.declarators
    (facts.with_tags d.specifiers q)))
    (declared_defines f q.facts.functions h (declaration false d f) (declaration_leads false d c f out.formed)
    (declaration_kept false d c f out.formed))
