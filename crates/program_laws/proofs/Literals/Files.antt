-- String literals of a file stand outside of functions, or in functions that it defines (C99 6.4.5, 6.9.1).
use Rattle.std.proofs.Common.{◌≡◌, ℕ, Bool, true, false, ◌||◌, refl, sym, ◌∙◌, subst, List, [], ◌∷◌, Option, Some, None}
use Rattle.std.proofs.Common.{if◌then◌else◌}
use Rattle.std.proofs.lemmas.Bool.{or_right}
use Rattle.std.specs.Prelude.{Ok, Err}
use Rattle.c_syntax.specs.Statements as t
use Rattle.c_syntax.specs.Tree.{Declarator, Specifiers}
use Rattle.c_tree.specs.declared.c_type.TypeWord.{TypeWord}
use Rattle.c_tree.specs.declared.program.Variable as tree_variable
use Rattle.c_tree.specs.Statements.{DeclaredVariable, Statements}
use Rattle.c_faults.specs.declared.fault.Rule.TheVariants.{MisplacedStorage}
use Rattle.c_faults.specs.Answer.{Answer, violates, ◌>>=◌}
use Rattle.c_scope.specs.declared.meaning.Designated.{Designated}
use Rattle.c_scope.specs.declared.meaning.Designated.TheVariants as what
use Rattle.c_scope.specs.declared.meaning.Entity.{Entity}
use Rattle.c_scope.specs.declared.meaning.Meaning.{Meaning}
use Rattle.c_scope.specs.declared.meaning.Meaning.TheVariants as meaning
use Rattle.c_scope.specs.declared.meaning.Storage.{Storage}
use Rattle.c_scope.specs.declared.meaning.Storage.TheVariants as storage
use Rattle.c_scope.specs.Declaring.{Declaration, has_linkage, is_typedef, judged as judged_declarator}
use Rattle.c_scope.specs.Environment.{Environment, entity_with, in_file, linked, surroundings, with_declarator}
use Rattle.c_scope.specs.Environment.{without_linkage}
use Rattle.c_scope.specs.Names.{Name, Names, declared}
use Rattle.c_scope.specs.Parameters.{ParameterScope}
use Rattle.c_declarator_typing.specs.Declarators.{Shape, built_in}
use Rattle.c_declarator_typing.specs.Specifications.{Specification}
use Rattle.c_typing_state.specs.State.{Literal, State, extents, judged, ◌>>>◌}
use Rattle.c_expression_typing.specs.Typed.{shape, specification}
use Rattle.c_unit_typing.specs.Declarations.{declaration, stored_once}
use Rattle.c_unit_typing.specs.Files.{File, FileTyping, in_state, ◌~>◌}
use Rattle.c_unit_typing.specs.Statements.{block_items}
use Rattle.c_unit_typing.specs.Units.{around_body, defined_by, definition_of, entered, external, externals, left}
use Rattle.c_unit_typing.specs.Units.{parameters_in, scope_or_none, with_body}
use Rattle.typing_laws.specs.Validity.Sound.{IsFormed, is_sized_array}
use Rattle.typing_laws.proofs.Validity.Common.{first, second}
use Rattle.typing_laws.specs.Declarators.Extending.{Extending}
use Rattle.typing_laws.specs.Declarators.Given.{AreCounted, HasScope, IsParameterScope, IsShapeOf, IsSpecified}
use Rattle.typing_laws.proofs.Declarators.Marks.{type_extends}
use Rattle.typing_laws.proofs.Declarators.Recursion.{scope_kept, shape_extends}
use Rattle.typing_laws.specs.Declarations.Binding.{IfDeclared, bound_meaning, linked_meaning, unlinked_meaning}
use Rattle.typing_laws.proofs.Declarations.Bound.{bound_here}
use Rattle.typing_laws.proofs.Declarations.Judged.{answered, if_declared}
use Rattle.typing_laws.specs.Scopes.Leaving.{Growing}
use Rattle.typing_laws.specs.Scopes.Regular.{are_regular_externals, is_regular_block, is_regular_external}
use Rattle.typing_laws.proofs.Scopes.Files.{built_definition, entered_leads, external_grows, inside}
use Rattle.typing_laws.proofs.Scopes.Files.{inside_formed}
use Rattle.typing_laws.proofs.Scopes.Files.{scope_is, stored_extends}
use Rattle.typing_laws.proofs.Scopes.Leading.{bound_leads}
use Rattle.typing_laws.proofs.Scopes.Statements.{IfFileBehind}
use Rattle.typing_laws.specs.Types.Typed.{Each}
use Rattle.typing_laws.proofs.Types.Kept.{each_append, each_map}
use Rattle.typing_laws.proofs.Types.Parameters.{judged_known}
use Rattle.program_laws.specs.Functions.Entities.{Continue}
use Rattle.program_laws.proofs.Functions.Continuing.{declarator_continues, keeps_continues}
use Rattle.program_laws.proofs.Functions.Declarations.{IfKept, declaration_kept, extends_keeps}
use Rattle.program_laws.specs.Literals.Added.{AddsLiterals, IsDefinedFunction, IsOf, IsOutsideOrDefined}
use Rattle.program_laws.specs.Literals.Added.{IsPlaced}
use Rattle.program_laws.specs.Literals.Added.{PlacesLiterals}
use Rattle.program_laws.proofs.Functions.Files.{KeepsFile}
use Rattle.program_laws.proofs.Literals.Walked.{adds_none, adds_on, items_add, literals_walk}
use Rattle.typing_laws.proofs.Scopes.Initializers.{IfBehind}
use Rattle.typing_laws.proofs.Walks.Declarations.{declaration_walks, stored_walks}
use Rattle.typing_laws.proofs.Walks.Recursion.{shape_walks}
use Rattle.typing_laws.proofs.Walks.States.{IfFileWalks}
use Rattle.typing_laws.proofs.Walks.Statements.{BothFiles}
use Rattle.typing_laws.proofs.Walks.Steps.{type_stands}
use Rattle.typing_laws.proofs.Common.{filed}

-- literals where more is declared

function_continues : (es more : Names Entity) → Continue es more → (n : ℕ) → IsDefinedFunction es n
    → IsDefinedFunction more n
function_continues es more h n is =
    let still = h.each is.name is.entity is.there in
    record {
      name = is.name;
      entity = still.entity;
      there = still.there;
      what = still.what ∙ is.what;
      defined = still.defined is.defined;
    }

outside_continues : (es more : Names Entity) → Continue es more → (o : Option ℕ) → IsOutsideOrDefined es o
    → IsOutsideOrDefined more o
outside_continues es more h None is = tt
outside_continues es more h (Some n) is = function_continues es more h n is

placed_continues : (es more : Names Entity) → Continue es more → (l : Literal) → IsPlaced es l → IsPlaced more l
placed_continues es more h l is = record {
  function = outside_continues es more h l.function is.function;
  bytes = is.bytes;
}

placed_new : (es : Names Entity) (o : Option ℕ) → IsOutsideOrDefined es o → (l : Literal) → IsOf o l → IsPlaced es l
placed_new es o h l is = record { function = subst (IsOutsideOrDefined es) (sym is.function) h; bytes = is.bytes }

-- literals behind a construct
placed_behind : (s t : State) → Each (IsPlaced s.environment.entities) s.literals
    → Continue s.environment.entities t.environment.entities → AddsLiterals s t
    → IsOutsideOrDefined t.environment.entities s.function → Each (IsPlaced t.environment.entities) t.literals
placed_behind s t h k adds o =
    let es = t.environment.entities in
    subst (Each (IsPlaced es)) (sym adds.is)
    (each_append (IsPlaced es) s.literals adds.rest
    (each_map (IsPlaced s.environment.entities) (IsPlaced es) (placed_continues s.environment.entities es k) s.literals
    h)
    (each_map (IsOf s.function) (IsPlaced es) (placed_new es s.function o) adds.rest adds.each))

-- outside of functions
outside_behind : (f g : File) → PlacesLiterals f → Continue f.state.environment.entities g.state.environment.entities
    → AddsLiterals f.state g.state → PlacesLiterals g
outside_behind f g h k adds = record {
  outside = adds.function ∙ h.outside;
  each = placed_behind f.state g.state h.each k adds
      (subst (IsOutsideOrDefined g.state.environment.entities) (sym h.outside) tt);
}

abbrev pub IfPlaces : {A : Type 0} → Answer (File × A) → Type 0
IfPlaces (Ok r) = PlacesLiterals r.0
IfPlaces (Err e) = Unit {0}

-- the block of a function

left_places : (f : File) (formed : IsFormed f.state) (n : ℕ) (p : ParameterScope) (is : IsParameterScope f.state p)
    (type : List TypeWord) (line : ℕ) (ps : List tree_variable.Variable) → PlacesLiterals f
    → IsDefinedFunction f.state.environment.entities n → (a : Answer (File × Statements))
    → IfFileBehind (BothFiles KeepsFile AddsLiterals) (entered n type p f) a
    → IfPlaces (a >>= λ r. Ok (left line type ps r, tt {0}))
left_places f formed n p is type line ps h defined (Ok r) k =
    let into = inside n p f in
    let inner = (entered n type p f).state in
    let entering = type_extends false type into (inside_formed f formed n p is) in
    let body = keeps_continues inner.environment.facts.functions inner.environment.entities
    r.0.state.environment.entities k.behind.keeps.0 in
    let all = subst (λ z. Continue z r.0.state.environment.entities) entering.entities body in
    record {
      outside = refl;
      each = placed_behind into r.0.state h.each all
          (adds_on into inner r.0.state (literals_walk.stands 0 into inner (type_stands type into)) k.keeps)
          (function_continues f.state.environment.entities r.0.state.environment.entities all n defined);
    }
left_places f formed n p is type line ps h defined (Err e) k = tt

abbrev IsFunctionOf : Names Entity → Option Meaning → Type 0
IsFunctionOf es m =
    (n : ℕ) (type : List TypeWord) → m ≡ Some (meaning.Named (what.Function n) type) → IsDefinedFunction es n

body_places : (line : ℕ) (o : Option ParameterScope) (b : t.Block) → is_regular_block b ≡ true → (m : Option Meaning)
    (f : File) → IsFormed f.state → HasScope f.state o → PlacesLiterals f
    → IsFunctionOf f.state.environment.entities m → IfPlaces (with_body line o b m f)
body_places line o (t.block l xs r) c (Some (meaning.Named (what.Function n) type)) f formed has h is =
    let p = scope_or_none o in
    let own = scope_is f.state o has in
    left_places f formed n p own type line (parameters_in (entered n type p f).state p.names) h (is n type refl)
    (block_items (around_body type) xs (entered n type p f))
    (items_add (around_body type) xs c (entered n type p f) (entered_leads f formed n p own type line).formed)
body_places line o b c None f formed has h is = h
body_places line o b c (Some (meaning.Typedef type)) f formed has h is = h
body_places line o b c (Some (meaning.Constant w)) f formed has h is = h
body_places line o b c (Some (meaning.Named (what.Object n) type)) f formed has h is = h
body_places line o b c (Some (meaning.Named (what.Static n) type)) f formed has h is = h
body_places line o b c (Some (meaning.Named (what.Library r) type)) f formed has h is = h
body_places line o b c (Some (meaning.Named (what.Variable n) type)) f formed has h is = h

-- the name of a definition stands for a function that is defined

named_same : (w : Designated) (s : List TypeWord) (n : ℕ) (type : List TypeWord)
    → Some (meaning.Named w s) ≡ Some (meaning.Named (what.Function n) type) → w ≡ what.Function n
named_same w s n type e = cc

no_function : (z : Storage) (env : Environment) (d : Declaration) (n : ℕ) (type : List TypeWord) (P : Type 0)
    → Some (unlinked_meaning z env d) ≡ Some (meaning.Named (what.Function n) type) → P
no_function storage.Typedef env d n type P e = absurd cc
no_function storage.Static env d n type P e = absurd cc
no_function storage.Absent env d n type P e = absurd cc
no_function storage.Auto env d n type P e = absurd cc
no_function storage.Register env d n type P e = absurd cc
no_function storage.Extern env d n type P e = absurd cc

defined_with : (env : Environment) (d : Declaration) → d.has_body ≡ true → (o : Option Entity)
    → (entity_with env d o).is_defined ≡ true
defined_with env d body None = or_right d.has_initializer d.has_body body
defined_with env d body (Some x) =
    or_right x.is_defined (d.has_initializer || d.has_body) (or_right d.has_initializer d.has_body body)

declarator_function : (env : Environment) (d : Declaration) → d.has_body ≡ true → (b : Bool) (n : ℕ)
    (type : List TypeWord)
    → Some (if b then linked_meaning env d else unlinked_meaning d.storage env d)
    ≡ Some (meaning.Named (what.Function n) type)
    → IsDefinedFunction (if b then linked env d else without_linkage d.storage env d).entities n
declarator_function env d body true n type e =
    let x = entity_with env d (declared d.name env.entities) in
    record {
      name = d.name;
      entity = x;
      there = bound_here d.name x env.entities;
      what = named_same x.what _ n type e;
      defined = defined_with env d body (declared d.name env.entities);
    }
declarator_function env d body false n type e = no_function d.storage env d n type _ e

named_places : (f : File) (d : Declaration) (name : Name × ℕ) → d.has_body ≡ true → (line : ℕ)
    (o : Option ParameterScope) (b : t.Block) → is_regular_block b ≡ true → HasScope f.state o → PlacesLiterals f
    → ((a : Answer (Unit {0})) → judged_declarator (surroundings f.state.environment d) d ≡ a
    → IfDeclared d f.state (answered d f.state name a))
    → (a : Answer (Unit {0})) → judged_declarator (surroundings f.state.environment d) d ≡ a
    → IfPlaces (answered d f.state name a >>= filed f >>= λ r. with_body line o b r.1 r.0)
named_places f d name body line o b c has h declares (Ok x) is =
    let env = f.state.environment in
    let known = judged_known (surroundings env d) d x is in
    let s = record f.state { environment = with_declarator f.state.environment d } in
    let g = record f { state = s } in
    let own = declares (Ok x) is in
    let leads = bound_leads d.name (bound_meaning f.state.environment d) f.state s own.0.binds own.0.formed in
    body_places line o b c (declared name.0 s.environment.names.current) g own.0.formed
    (scope_kept f.state s leads.longer o has)
    (outside_behind f g h (declarator_continues f.state.environment d known)
    (adds_none f.state s refl refl))
    (λ n type e. declarator_function f.state.environment d body (has_linkage (in_file f.state.environment) d) n type
    (sym own.1 ∙ e))
named_places f d name body line o b c has h declares (Err e) is = tt

defined_by_name : (f : File) → IsFormed f.state → (spec : Specification) → is_sized_array spec.type ≡ true
    → (sh : Shape) → AreCounted sh.derivations → HasScope f.state sh.parameters
    → (b : t.Block) → is_regular_block b ≡ true → PlacesLiterals f → (name : Name × ℕ) (is : Bool)
    → IfPlaces
    ((if is then violates MisplacedStorage spec.line
    else answered (definition_of (extents f.state) spec (built_in f.state spec sh) name) f.state name
    (judged_declarator (surroundings f.state.environment (definition_of (extents f.state) spec
    (built_in f.state spec sh) name))
    (definition_of (extents f.state) spec (built_in f.state spec sh) name)))
    >>= filed f >>= λ r. with_body name.1 sh.parameters b r.1 r.0)
defined_by_name f formed spec sized sh counted has b c h name true = tt
defined_by_name f formed spec sized sh counted has b c h name false =
    let x = definition_of (extents f.state) spec (built_in f.state spec sh) name in
    named_places f x name refl name.1 sh.parameters b c has h
    (λ a g. if_declared f.state formed x (built_definition f.state formed spec sized sh counted name) name refl a g)
    (judged_declarator (surroundings f.state.environment x) x) refl

defined_places : (f : File) → IsFormed f.state → (spec : Specification) → is_sized_array spec.type ≡ true
    → (sh : Shape) → AreCounted sh.derivations → HasScope f.state sh.parameters → (b : t.Block)
    → is_regular_block b ≡ true → PlacesLiterals f → (name : Option (Name × ℕ))
    → IfPlaces (defined_by spec sh b name f)
defined_places f formed spec sized sh counted has b c h None = h
defined_places f formed spec sized sh counted has b c h (Some name) =
    defined_by_name f formed spec sized sh counted has b c h name (is_typedef spec.storage)

-- definitions and declarations

state_then : {A B : Type 0} (f : File) → PlacesLiterals f → (p : State → A → Type 0) (a : Answer (State × A))
    (next : A → FileTyping B) → Extending false f.state p a → IfBehind AddsLiterals f.state a
    → ((x : A) (g : File) → IsFormed g.state → PlacesLiterals g → p g.state x → IfPlaces (next x g))
    → IfPlaces (a >>= filed f >>= λ r. next r.1 r.0)
state_then f h p (Ok r) next is adds k =
    let g = record f { state = r.0 } in
    k r.1 g is.0.formed
    (outside_behind f g h (keeps_continues f.state.environment.facts.functions f.state.environment.entities
    r.0.environment.entities (extends_keeps f.state r.0 is.0).0) adds)
    is.1
state_then f h p (Err e) next is adds k = tt

definition_places : (specs : Specifiers) (d : Declarator) (b : t.Block)
    → is_regular_external (t.definition specs d b) ≡ true → (f : File) → IsFormed f.state → PlacesLiterals f
    → IfPlaces (external (t.definition specs d b) f)
definition_places specs d b c f formed h =
    let specified = specification false specs >>> λ spec. judged (stored_once spec) in
    state_then f h IsSpecified (specified f.state)
    (λ spec. in_state (shape true d) ~> λ sh. defined_by spec sh b sh.name)
    (stored_extends specs (first _ _ (first _ _ c)) f.state formed) (stored_walks literals_walk false specs f.state).by
    (λ spec g i k sized. state_then g k (λ u sh. IsShapeOf u d sh) (shape true d g.state)
    (λ sh. defined_by spec sh b sh.name) (shape_extends true d (second _ _ (first _ _ c)) g.state i)
    (shape_walks literals_walk true d g.state).by
    (λ sh j l m shaped. defined_places j l spec sized sh shaped.counted shaped.scope b (second _ _ c) m sh.name))

declared_places : (f : File) → PlacesLiterals f → (a : Answer (File × List DeclaredVariable)) → IfKept f a
    → IfFileWalks AddsLiterals f a → IfPlaces (a >>= λ r. Ok (r.0, tt {0}))
declared_places f h (Ok r) k adds =
    outside_behind f r.0 h (keeps_continues f.state.environment.facts.functions f.state.environment.entities
    r.0.state.environment.entities k.0) adds
declared_places f h (Err e) k adds = tt

external_places : (e : t.External) → is_regular_external e ≡ true → (f : File) → IsFormed f.state → PlacesLiterals f
    → IfPlaces (external e f)
external_places (t.definition specs d b) c f formed h = definition_places specs d b c f formed h
external_places (t.declaration d) c f formed h =
    declared_places f h (declaration false d f) (declaration_kept false d c f formed)
    (declaration_walks literals_walk false d f).by

then_places : (f : File) (a : Answer (File × Unit {0})) (next : Unit {0} → FileTyping (Unit {0})) → Growing f a
    → IfPlaces a → ((x : Unit {0}) (g : File) → IsFormed g.state → PlacesLiterals g → IfPlaces (next x g))
    → IfPlaces (a >>= λ r. next r.1 r.0)
then_places f (Ok r) next grows h k = k r.1 r.0 grows.formed h
then_places f (Err e) next grows h k = tt

pub externals_place : (es : List t.External) → are_regular_externals es ≡ true → (f : File) → IsFormed f.state
    → PlacesLiterals f → IfPlaces (externals es f)
externals_place [] c f formed h = h
externals_place (e ∷ es) c f formed h =
    then_places f (external e f) (λ done. externals es) (external_grows e (first _ _ c) f formed)
    (external_places e (first _ _ c) f formed h)
    (λ done g i k. externals_place es (second _ _ c) g i k)
