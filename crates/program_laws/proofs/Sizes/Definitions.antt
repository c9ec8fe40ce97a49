-- Definitions leave an object with linkage that is new among those that the file defines (C99 6.2.2, 6.9, 6.9.1).
use Rattle.std.proofs.Common.{◌≡◌, ◌⊎◌, inl, inr, ℕ, Bool, true, false, refl, sym, ap, ◌∙◌, subst, List}
use Rattle.std.proofs.Common.{Option, Some, None, if◌then◌else◌}
use Rattle.std.proofs.lemmas.Bool.{false≢true}
use Rattle.std.specs.Prelude.{Ok, Err}
use Rattle.c_syntax.specs.Statements as t
use Rattle.c_syntax.specs.Tree.{Declarator, Specifiers}
use Rattle.c_tree.specs.declared.c_type.TypeWord.{TypeWord}
use Rattle.c_tree.specs.Statements.{Statements}
use Rattle.c_faults.specs.declared.fault.Rule.TheVariants.{MisplacedStorage}
use Rattle.c_faults.specs.Answer.{Answer, violates, ◌>>=◌}
use Rattle.c_scope.specs.declared.meaning.Designated.TheVariants as what
use Rattle.c_scope.specs.declared.meaning.Meaning.{Meaning}
use Rattle.c_scope.specs.declared.meaning.Meaning.TheVariants as meaning
use Rattle.c_scope.specs.Declaring.{Declaration, is_typedef, judged as judged_declarator}
use Rattle.c_scope.specs.Environment.{Environment, in_file, surroundings}
use Rattle.c_scope.specs.Names.{Name, declared, is_empty}
use Rattle.c_scope.specs.Parameters.{ParameterScope, with_parameters}
use Rattle.c_declarator_typing.specs.Declarators.{Shape, built_in}
use Rattle.c_declarator_typing.specs.Specifications.{Specification}
use Rattle.c_typing_state.specs.State.{State, extents, judged, ◌>>>◌}
use Rattle.c_expression_typing.specs.Typed.{shape, specification}
use Rattle.c_unit_typing.specs.Constructs.{scope_closed, scope_opened}
use Rattle.c_unit_typing.specs.Declarations.{declaration, stored_once}
use Rattle.c_unit_typing.specs.Files.{File, FileTyping, in_state, ◌~>◌}
use Rattle.c_unit_typing.specs.Statements.{block_items}
use Rattle.c_unit_typing.specs.Units.{around_body, body_of, defined_by, definition_of, entered, external}
use Rattle.c_unit_typing.specs.Units.{left, parameters_in, scope_or_none, with_body}
use Rattle.typing_laws.specs.Validity.More.{AreMore}
use Rattle.typing_laws.specs.Validity.Sound.{IsFormed, is_sized_array}
use Rattle.typing_laws.proofs.Validity.Common.{first, second}
use Rattle.typing_laws.specs.Declarators.Extending.{Extending, Extends}
use Rattle.typing_laws.specs.Declarators.Given.{AreCounted, HasScope, IsParameterScope, IsShapeOf, IsSpecified}
use Rattle.typing_laws.specs.Declarators.Given.{anything}
use Rattle.typing_laws.proofs.Declarators.Parameters.{within_block}
use Rattle.typing_laws.proofs.Declarators.Recursion.{scope_kept, shape_extends}
use Rattle.typing_laws.specs.Declarations.Binding.{IfDeclared, bound_meaning}
use Rattle.typing_laws.proofs.Declarations.Judged.{answered}
use Rattle.program_laws.specs.Functions.Entities.{Continue}
use Rattle.typing_laws.specs.Layouts.Listed.{HasArrays, IfLaidOut, IsDeclared, IsLaidOut}
use Rattle.typing_laws.proofs.Layouts.Arrays.{arrays_kept}
use Rattle.typing_laws.proofs.Layouts.Declared.{declared_by}
use Rattle.typing_laws.proofs.Layouts.Recursion.{shape_laid, specification_laid}
use Rattle.typing_laws.proofs.LaidOut.Chained.{StateLaid, both_laid, closed_laid, opened_laid}
use Rattle.typing_laws.proofs.LaidOut.Files.{definition_arrays, entered_laid, stored_specified}
use Rattle.typing_laws.specs.Scopes.Leaving.{FileLeads, Leading}
use Rattle.typing_laws.specs.Scopes.Regular.{is_regular_block, is_regular_external}
use Rattle.typing_laws.proofs.Scopes.Declarations.{declaration_leads}
use Rattle.typing_laws.proofs.Scopes.Files.{built_definition, defined_as_declares, entered_leads, inside}
use Rattle.typing_laws.proofs.Scopes.Files.{scope_is}
use Rattle.typing_laws.proofs.Scopes.Files.{stored_extends, type_environment}
use Rattle.typing_laws.proofs.Scopes.Leading.{bound_leads, closed_leads, file_on, file_same, leads_by}
use Rattle.typing_laws.proofs.Scopes.Leading.{leads_on}
use Rattle.typing_laws.proofs.Scopes.Leading.{outer_is, state_leads}
use Rattle.typing_laws.proofs.Scopes.Statements.{IfFileBehind, Walk, items_walk}
use Rattle.program_laws.specs.Sizes.Tags.{BodiesStay}
use Rattle.program_laws.proofs.Sizes.Bodies.{Reaches, reaching_walk}
use Rattle.program_laws.proofs.Sizes.Declarations.{IfFileSteps, IfSteps, answered_steps, declaration_steps}
use Rattle.program_laws.proofs.Sizes.Steps.{AreSound, IsOfFile, Steps, reached_steps, steps_on, steps_same}
use Rattle.program_laws.proofs.Sizes.Types.{EndsComplete}
use Rattle.typing_laws.proofs.Scopes.Initializers.{IfBehind}
use Rattle.program_laws.proofs.Tags.Keeping.{KeepsTags}
use Rattle.program_laws.proofs.Tags.Walked.{tags_walk}
use Rattle.typing_laws.proofs.Walks.Declarations.{stored_walks}
use Rattle.typing_laws.proofs.Walks.Recursion.{shape_walks}
use Rattle.typing_laws.proofs.Common.{filed}

-- A scope that is opened and closed again: what stands in it is not at file scope.

pub record IsInside (env inner : Environment) : Type 0 where
  pub inside : in_file inner ≡ false
  pub facts : inner.facts ≡ env.facts
  pub structures : inner.structures ≡ env.structures
  pub entities : inner.entities ≡ env.entities

pub record IsOutsideOf (env after behind : Environment) : Type 0 where
  pub place : in_file behind ≡ in_file env
  pub facts : behind.facts ≡ after.facts
  pub structures : behind.structures ≡ after.structures
  pub entities : behind.entities ≡ after.entities

inside_only : (P Q : Type 0) (b : Bool) → b ≡ false → P ⊎ ((b ≡ true) × Q) → P
inside_only P Q b e (inl p) = p
inside_only P Q true e (inr q) = absurd cc
inside_only P Q false e (inr q) = absurd (false≢true q.0)

pub scoped_steps : (env inner after behind : Environment) → IsInside env inner → Steps inner after
    → IsOutsideOf env after behind → Steps env behind
scoped_steps env inner after behind is h out = record {
  place = out.place;
  facts = out.facts ∙ h.facts ∙ is.facts;
  more = subst (λ z. AreMore env.structures.extents z.extents) (sym out.structures)
      (subst (λ z. AreMore z.extents after.structures.extents) is.structures h.more);
  bodies = subst (λ z. BodiesStay env.structures.bodies z.bodies) (sym out.structures)
      (subst (λ z. BodiesStay z.bodies after.structures.bodies) is.structures h.bodies);
  entities = subst (Continue env.entities) (sym out.entities)
      (subst (λ z. Continue z after.entities) is.entities h.entities);
  new = λ name x n none there w.
      inl
      (subst (λ z. IsOfFile z name) is.facts
      (inside_only (IsOfFile inner.facts name) (EndsComplete after.facts after.structures x.c_type) (in_file inner)
      is.inside
      (h.new name x n (ap (λ z. declared name z) is.entities ∙ none)
      (ap (λ z. declared name z) (sym out.entities) ∙ there) w)));
  sound = λ s. subst AreSound (sym out.entities) (h.sound (subst AreSound (sym is.entities) s));
}

-- blocks

pub record FileReaches (f g : File) : Type 0 where
  pub leads : FileLeads f g
  pub steps : IsLaidOut f.state → IsLaidOut g.state × Steps f.state.environment g.state.environment

opened_inside : (f : File) → IsInside f.state.environment (scope_opened f).state.environment
opened_inside f = record { inside = within_block f.state; facts = refl; structures = refl; entities = refl }

closed_outside : (f g : File) → FileLeads (scope_opened f) g
    → IsOutsideOf f.state.environment g.state.environment (scope_closed g).state.environment
closed_outside f g h = record {
  place = ap is_empty (outer_is f.state g.state h.state.outer h.state.outer_tags);
  facts = refl;
  structures = refl;
  entities = refl;
}

reaches_by : {A : Type 0} (f : File) (a : Answer (File × A)) → Leading f a → (IsLaidOut f.state → IfFileSteps f a)
    → IfFileBehind FileReaches f a
reaches_by f (Ok r) l h = record { leads = l; steps = λ laid. (let own = h laid in (own.laid, own.steps)) }
reaches_by f (Err e) l h = tt

pub file_walk : Walk Reaches FileReaches
file_walk = record {
  values = reaching_walk;
  file_same = λ f formed. record {
    leads = file_same f formed;
    steps = λ laid. (laid, steps_same f.state.environment);
  };
  file_on = λ f g h a b. record {
    leads = file_on f g h a.leads b.leads;
    steps = λ laid.
        (let low = a.steps laid in
        let high = b.steps low.0 in
        (high.0, steps_on f.state.environment g.state.environment h.state.environment low.1 high.1));
  };
  file_formed = λ f g h. h.leads.state.formed;
  in_file = λ f t h. record {
    leads = state_leads f t (leads_by f.state t h.extends);
    steps = λ laid. (h.laid laid, reached_steps f.state t h);
  };
  scope = λ f g formed h. record {
    leads = closed_leads f g formed h.leads;
    steps = λ laid.
        (let own = h.steps (opened_laid f laid) in (
          closed_laid f g h.leads laid own.0,
          scoped_steps f.state.environment (scope_opened f).state.environment g.state.environment
              (scope_closed g).state.environment (opened_inside f) own.1 (closed_outside f g h.leads),
        ));
  };
  declared = λ in_head d c f formed.
      reaches_by f (declaration in_head d f) (declaration_leads in_head d c f formed)
      (λ laid. declaration_steps in_head d c f formed laid);
}

-- the block of a function

abbrev pub IfDefinitionSteps : {A : Type 0} → File → Answer (File × A) → Type 0
IfDefinitionSteps f (Ok r) = Steps f.state.environment r.0.state.environment
IfDefinitionSteps f (Err e) = Unit {0}

module _ (f : File) (formed : IsFormed f.state) (laid : IsLaidOut f.state) (n : ℕ) (p : ParameterScope)
    (is : IsParameterScope f.state p) (type : List TypeWord) (line : ℕ) where
  entered_environment : (entered n type p f).state.environment ≡ with_parameters p f.state.environment
  entered_environment = type_environment type (inside n p f)

  entered_inside : IsInside f.state.environment (entered n type p f).state.environment
  entered_inside = record {
    inside = ap in_file entered_environment ∙ within_block f.state;
    facts = ap (λ z. z.facts) entered_environment;
    structures = ap (λ z. z.structures) entered_environment;
    entities = ap (λ z. z.entities) entered_environment;
  }

  left_steps : (g : File) (ss : Statements) → FileReaches (entered n type p f) g
      → Steps f.state.environment
      (left line type (parameters_in (entered n type p f).state p.names) (g, ss)).state.environment
  left_steps g ss h =
      let all = leads_on (inside n p f) (entered n type p f).state g.state (entered_leads f formed n p is type line)
      h.leads.state in
      scoped_steps f.state.environment (entered n type p f).state.environment g.state.environment
      (left line type (parameters_in (entered n type p f).state p.names) (g, ss)).state.environment entered_inside
      (h.steps (entered_laid f laid n type p is)).1
      (record {
        place = ap is_empty (outer_is f.state g.state all.outer all.outer_tags);
        facts = refl;
        structures = refl;
        entities = refl;
      })

  left_by : (a : Answer (File × Statements)) → IfFileBehind FileReaches (entered n type p f) a
      → IfDefinitionSteps f
      (a >>= λ r. Ok (left line type (parameters_in (entered n type p f).state p.names) r, tt {0}))
  left_by (Ok r) h = left_steps r.0 r.1 h
  left_by (Err e) h = tt

  body_by : (b : t.Block) → is_regular_block b ≡ true
      → IfDefinitionSteps f (body_of line type p b (entered n type p f))
  body_by (t.block l xs r) c =
      left_by (block_items (around_body type) xs (entered n type p f))
      (items_walk Reaches FileReaches file_walk (around_body type) xs c (entered n type p f)
      (entered_leads f formed n p is type line).formed)

body_steps : (line : ℕ) (o : Option ParameterScope) (b : t.Block) → is_regular_block b ≡ true → (m : Option Meaning)
    (f : File) → IsFormed f.state → IsLaidOut f.state → HasScope f.state o
    → IfDefinitionSteps f (with_body line o b m f)
body_steps line o b c (Some (meaning.Named (what.Function n) type)) f formed laid has =
    body_by f formed laid n (scope_or_none o) (scope_is f.state o has) type line b c
body_steps line o b c None f formed laid has = steps_same f.state.environment
body_steps line o b c (Some (meaning.Typedef type)) f formed laid has = steps_same f.state.environment
body_steps line o b c (Some (meaning.Constant w)) f formed laid has = steps_same f.state.environment
body_steps line o b c (Some (meaning.Named (what.Object n) type)) f formed laid has = steps_same f.state.environment
body_steps line o b c (Some (meaning.Named (what.Static n) type)) f formed laid has = steps_same f.state.environment
body_steps line o b c (Some (meaning.Named (what.Library r) type)) f formed laid has = steps_same f.state.environment
body_steps line o b c (Some (meaning.Named (what.Variable n) type)) f formed laid has = steps_same f.state.environment

-- the name that is defined

from_definition : {A : Type 0} (f g : File) → Steps f.state.environment g.state.environment → (a : Answer (File × A))
    → IfDefinitionSteps g a → IfDefinitionSteps f a
from_definition f g h (Ok r) is =
    steps_on f.state.environment g.state.environment r.0.state.environment h is
from_definition f g h (Err e) is = tt

named_definition : (f : File) (d : Declaration) (o : Option ParameterScope) (line : ℕ) (b : t.Block)
    → is_regular_block b ≡ true → HasScope f.state o → (a : Answer (State × Option Meaning)) → IfDeclared d f.state a
    → IfLaidOut (IsDeclared false) a → IfSteps f.state a
    → IfDefinitionSteps f (a >>= filed f >>= λ r. with_body line o b r.1 r.0)
named_definition f d o line b c has (Ok r) h is k =
    let g = record f { state = r.0 } in
    let m = bound_meaning f.state.environment d in
    let leads = bound_leads d.name m f.state r.0 h.0.binds h.0.formed in
    from_definition f g k (with_body line o b r.1 g)
    (body_steps line o b c r.1 g h.0.formed is.0 (scope_kept f.state r.0 leads.longer o has))
named_definition f d o line b c has (Err e) h is k = tt

defined_by_test : (f : File) → IsFormed f.state → IsLaidOut f.state → (spec : Specification)
    → is_sized_array spec.type ≡ true → HasArrays f.state spec → (sh : Shape) → AreCounted sh.derivations
    → HasScope f.state sh.parameters → (b : t.Block) → is_regular_block b ≡ true → (name : Name × ℕ) (is : Bool)
    → IfDefinitionSteps f
    ((if is then violates MisplacedStorage spec.line
    else answered (definition_of (extents f.state) spec (built_in f.state spec sh) name) f.state name
    (judged_declarator (surroundings f.state.environment (definition_of (extents f.state) spec
    (built_in f.state spec sh) name))
    (definition_of (extents f.state) spec (built_in f.state spec sh) name)))
    >>= filed f >>= λ r. with_body name.1 sh.parameters b r.1 r.0)
defined_by_test f formed laid spec sized arrays sh counted has b c name true = tt
defined_by_test f formed laid spec sized arrays sh counted has b c name false =
    let d = definition_of (extents f.state) spec (built_in f.state spec sh) name in
    let built = built_definition f.state formed spec sized sh counted name in
    let judgement = judged_declarator (surroundings f.state.environment d) d in
    let declares = defined_as_declares f.state formed spec sized sh counted name false in
    named_definition f d sh.parameters name.1 b c has (answered d f.state name judgement) declares
    (declared_by f.state formed laid d built (definition_arrays f.state spec arrays sh name) name judgement refl
    declares)
    (answered_steps f.state d built name judgement refl)

defined_steps : (spec : Specification) → is_sized_array spec.type ≡ true → (sh : Shape) → AreCounted sh.derivations
    → (b : t.Block) → is_regular_block b ≡ true → (name : Option (Name × ℕ)) (f : File) → IsFormed f.state
    → IsLaidOut f.state → HasArrays f.state spec → HasScope f.state sh.parameters
    → IfDefinitionSteps f (defined_by spec sh b name f)
defined_steps spec sized sh counted b c None f formed laid arrays has = steps_same f.state.environment
defined_steps spec sized sh counted b c (Some name) f formed laid arrays has =
    defined_by_test f formed laid spec sized arrays sh counted has b c name (is_typedef spec.storage)

-- specifiers and a declarator before it

state_then : {A B : Type 0} (p q : State → A → Type 0) (f : File) (a : Answer (State × A)) (next : A → FileTyping B)
    → Extending false f.state p a → StateLaid q f.state a → IfBehind KeepsTags f.state a
    → ((x : A) (g : File) → Extends false f.state g.state → IsLaidOut g.state → p g.state x → q g.state x
    → IfDefinitionSteps g (next x g))
    → IfDefinitionSteps f (a >>= filed f >>= λ r. next r.1 r.0)
state_then p q f (Ok r) next h l b k =
    let g = record f { state = r.0 } in
    from_definition f g
    (reached_steps f.state r.0 (record { extends = h.0; tags = b; laid = λ x. l.1 })) (next r.1 g)
    (k r.1 g h.0 l.1 h.1 l.2)
state_then p q f (Err e) next h l b k = tt

pub definition_steps : (specs : Specifiers) (d : Declarator) (b : t.Block)
    → is_regular_external (t.definition specs d b) ≡ true → (f : File) → IsFormed f.state → IsLaidOut f.state
    → IfDefinitionSteps f (external (t.definition specs d b) f)
definition_steps specs d b c f formed laid =
    let stored = stored_extends specs (first _ _ (first _ _ c)) f.state formed in
    state_then IsSpecified HasArrays f ((specification false specs >>> λ spec. judged (stored_once spec)) f.state)
    (λ spec. in_state (shape true d) ~> λ sh. defined_by spec sh b sh.name) stored
    (both_laid IsSpecified HasArrays f.state _ laid stored
    (stored_specified specs f.state (specification_laid false specs (first _ _ (first _ _ c)) f.state formed laid)))
    (stored_walks tags_walk false specs f.state).by
    (λ spec g own laid is arrays.
    let shaped = shape_extends true d (second _ _ (first _ _ c)) g.state own.formed in
    state_then (λ u sh. IsShapeOf u d sh) anything g (shape true d g.state)
    (λ sh. defined_by spec sh b sh.name) shaped
    (both_laid (λ u sh. IsShapeOf u d sh) anything g.state (shape true d g.state) laid shaped
    (shape_laid true d (second _ _ (first _ _ c)) g.state own.formed laid))
    (shape_walks tags_walk true d g.state).by
    (λ sh k next laid has x. defined_steps spec is sh has.counted b (second _ _ c) sh.name k next.formed laid
    (arrays_kept (extents g.state) (extents k.state) next.more spec.type arrays) has.scope))
