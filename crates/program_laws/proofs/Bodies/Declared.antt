-- Declarations in blocks are typed to variables with valid initializers (C99 6.7).
use Rattle.std.proofs.Common.{◌≡◌, ℕ, ◌+◌, Bool, true, false, ◌&&◌, ◌||◌, refl, sym, ap, ◌∙◌, subst, List, [], ◌∷◌}
use Rattle.std.proofs.Common.{◌++◌, Option, Some, None, if◌then◌else◌}
use Rattle.std.specs.Prelude.{Ok, Err, is_none, is_some, not, option_map}
use Rattle.std.specs.List.{list_all}
use Rattle.std.proofs.lemmas.List.{append-nil, append_assoc, map-append}
use Rattle.c_syntax.specs.declared.position.Position.{Position}
use Rattle.c_syntax.specs.Statements as t
use Rattle.c_syntax.specs.Tree.{Initializer}
use Rattle.c_tree.specs.declared.c_type.TypeWord.{TypeWord}
use Rattle.c_tree.specs.Blocks.{variables_in}
use Rattle.c_tree.specs.Statements.{DeclaredVariable}
use Rattle.c_tree.specs.Valid.{Scope}
use Rattle.c_tree.specs.ValidProgram.{is_initializer}
use Rattle.c_faults.specs.declared.fault.Rule.TheVariants as rule
use Rattle.c_faults.specs.Answer.{Answer, violates, ◌>>=◌}
use Rattle.c_scope.specs.declared.meaning.Designated.{Designated}
use Rattle.c_scope.specs.declared.meaning.Designated.TheVariants as what
use Rattle.c_scope.specs.declared.meaning.Meaning.{Meaning}
use Rattle.c_scope.specs.declared.meaning.Meaning.TheVariants as meaning
use Rattle.c_scope.specs.declared.meaning.Storage.{Storage}
use Rattle.c_scope.specs.declared.meaning.Storage.TheVariants as storage
use Rattle.c_scope.specs.Declaring.{Declaration, Surroundings, has_linkage, is_extern, is_function, is_incomplete}
use Rattle.c_scope.specs.Declaring.{is_linked, is_misplaced, is_redeclared, is_typedef, is_undefined}
use Rattle.c_scope.specs.Declaring.{is_wrongly_initialized, judged as judged_declarator}
use Rattle.c_scope.specs.Environment.{Environment, entity_with, in_file, linked, surroundings, visible_type}
use Rattle.c_scope.specs.Environment.{with_declarator as declared_by, without_linkage}
use Rattle.c_scope.specs.Names.{Name, declared}
use Rattle.c_scope.specs.Names as names
use Rattle.c_declarator_typing.specs.Declarators.{Shape, built_in}
use Rattle.c_declarator_typing.specs.Specifications.{Specification}
use Rattle.c_typing_state.specs.State.{State, extents}
use Rattle.c_expression_typing.specs.Typed.{shape}
use Rattle.c_unit_typing.specs.Declarations.{declaration, declaration_of, declared_as, declared_with}
use Rattle.c_unit_typing.specs.Declarations.{has_place, named_by, specified}
use Rattle.c_unit_typing.specs.Declarations.{with_declarator, with_declarators, with_others}
use Rattle.c_unit_typing.specs.Files.{File, finished, ◌~>◌}
use Rattle.c_unit_typing.specs.Lines.{initializer_line}
use Rattle.typing_laws.specs.Validity.More.{AreMore}
use Rattle.typing_laws.specs.Validity.Names.{IsMeant}
use Rattle.typing_laws.specs.Validity.Sound.{IsFormed, is_sized_array}
use Rattle.typing_laws.specs.Validity.Steps.{Structures}
use Rattle.typing_laws.proofs.Validity.Common.{first, second}
use Rattle.typing_laws.proofs.Validity.Sound.{same_more}
use Rattle.typing_laws.specs.Declarators.Given.{AreCounted, IsShapeOf, IsSpecified, anything}
use Rattle.typing_laws.proofs.Declarators.Known.{meant_kept}
use Rattle.typing_laws.proofs.Declarators.Recursion.{shape_extends}
use Rattle.typing_laws.specs.Declarations.Binding.{Binds, Declares, IfDeclared, IsCompleteFor, bound_meaning}
use Rattle.typing_laws.specs.Declarations.Binding.{linked_meaning, unlinked_meaning}
use Rattle.typing_laws.proofs.Declarations.Bound.{Behind, Bound}
use Rattle.typing_laws.proofs.Declarations.Judged.{answered, declared_as_declares}
use Rattle.typing_laws.specs.Scopes.Regular.{are_regular_declarators, initializer_of, is_regular_declaration}
use Rattle.typing_laws.specs.Scopes.Regular.{is_regular_initializer_if, is_regular_object}
use Rattle.typing_laws.proofs.Scopes.Declarations.{specified_extends}
use Rattle.typing_laws.proofs.Scopes.Leading.{bound_leads, state_leads}
use Rattle.typing_laws.proofs.Places.Labels.{all_append}
use Rattle.typing_laws.specs.Layouts.Listed.{HasArrays, HasArraysOf, HasSizes, IfLaidOut, IsLaidOut}
use Rattle.typing_laws.specs.Layouts.Listed.{IsDeclared as HasDeclared}
use Rattle.typing_laws.proofs.Layouts.Arrays.{arrays_kept}
use Rattle.typing_laws.proofs.Layouts.Behind.{shape_behind}
use Rattle.typing_laws.proofs.Layouts.Declared.{declared_as_laid}
use Rattle.program_laws.specs.Bodies.Standing.{AreLinked, Ends, EntitiesLead, IsOpenMeaning, IsReady, Stands}
use Rattle.program_laws.specs.Bodies.Typed.{IfTyped, Typed}
use Rattle.program_laws.proofs.Bodies.Chained.{after_state, finished_typed, given_typed, kept_sound, no_numbers}
use Rattle.program_laws.proofs.Bodies.Chained.{no_variables, two_behind}
use Rattle.program_laws.proofs.Bodies.Ends.{linked_open}
use Rattle.program_laws.proofs.Bodies.Entities.{declared_linked, entities_linked, entities_same, linked_behind}
use Rattle.program_laws.proofs.Bodies.Entities.{linked_bound}
use Rattle.program_laws.proofs.Bodies.Laid.{stored_laid}
use Rattle.program_laws.proofs.Bodies.Meant.{if_linked}
use Rattle.program_laws.proofs.Bodies.Objects.{AreDeclared, static_typed, variable_typed}
use Rattle.program_laws.proofs.Bodies.Standing.{stands_bound}
use Rattle.typing_laws.proofs.Common.{filed, passed, passed_some, some_mapped}

-- what is declared, and that it violates no rule

pub record IsDeclared (d : Declaration) (s behind : State) : Type 0 where
  pub judged : judged_declarator (surroundings s.environment d) d ≡ Ok tt
  pub state : behind ≡ record s { environment = declared_by s.environment d }

abbrev pub IfMade : Declaration → State → Answer (State × Option Meaning) → Type 0
IfMade d s (Ok r) = IsDeclared d s r.0
IfMade d s (Err e) = Unit {0}

pub answered_made : (d : Declaration) (s : State) (name : Name × ℕ) (a : Answer (Unit {0}))
    → judged_declarator (surroundings s.environment d) d ≡ a → IfMade d s (answered d s name a)
answered_made d s name (Ok x) e = record { judged = e; state = refl }
answered_made d s name (Err f) e = tt

pub placed_made : (d : Declaration) (s : State) (name : Name × ℕ) (line : ℕ) (b : Bool)
    → IfMade d s (if b then answered d s name (judged_declarator (surroundings s.environment d) d)
    else violates rule.MisplacedStorage line)
placed_made d s name line true =
    answered_made d s name (judged_declarator (surroundings s.environment d) d) refl
placed_made d s name line false = tt

-- an `extern` object or a function has no initializer

well_initialized : (s : Surroundings) (d : Declaration) → judged_declarator s d ≡ Ok tt
    → is_wrongly_initialized d ≡ false
unfolding judged_declarator
well_initialized s d e =
    let a = passed (is_misplaced s.in_file (is_function d.type) d.storage) rule.MisplacedStorage d.specifiers_line _ tt
    e in
    let b = passed (is_redeclared s d) rule.Redeclared d.line _ tt a.1 in
    let c = passed (is_incomplete s d) rule.Incomplete d.line _ tt b.1 in
    let f = passed_some d.type_rule d.line _ tt c.1 in
    let g = passed (is_undefined s d) rule.MisplacedStorage d.line _ tt f.1 in
    (passed (is_wrongly_initialized d) rule.MisplacedStorage d.initializer_line _ tt g.1).0

pub none_by : (has typedef inside of_function has_extern : Bool) → inside ≡ false
    → (not typedef && (inside || of_function || has_extern)) ≡ true
    → (has && (typedef || has_extern || of_function)) ≡ false → has ≡ false
none_by false t i f x a b c = refl
none_by true true i f x a b c = absurd cc
none_by true false true f x a b c = absurd cc
none_by true false false true true a b c = absurd cc
none_by true false false true false a b c = absurd cc
none_by true false false false true a b c = absurd cc
none_by true false false false false a b c = absurd cc

linked_bare : (s : State) (d : Declaration) → in_file s.environment ≡ false
    → judged_declarator (surroundings s.environment d) d ≡ Ok tt → has_linkage (in_file s.environment) d ≡ true
    → d.has_initializer ≡ false
linked_bare s d inner e has =
    none_by d.has_initializer (is_typedef d.storage) (in_file s.environment) (is_function d.type) (is_extern d.storage)
    inner has (well_initialized (surroundings s.environment d) d e)

-- what is bound, by linkage and storage

module _ (result : List TypeWord) where
  -- a name that is bound, where no variable is made
  module _ (f : File) (ready : IsReady f.state) (name : Name) (m : Meaning) (u : State) (b : Binds name m f.state u)
      (formed : IsFormed u) (laid : IsLaidOut u) where
    bound_typed : u.environment.variables ≡ f.state.environment.variables
        → EntitiesLead f.state.environment u.environment → AreLinked u.environment
        → ((scope : Scope) (last : Structures) → Stands scope last f.state
        → Ends scope last result (record f { state = u })
        → IsMeant scope last u (Some m) × IsOpenMeaning scope (Some m))
        → Typed result variables_in variables_in AreDeclared f (record f { state = u }, [])
    bound_typed variables entities linked meant = record {
      leads = state_leads f u (bound_leads name m f.state u b formed);
      numbers = no_numbers f (record f { state = u }) variables refl;
      entities = entities;
      linked = linked;
      laid = laid;
      sound = λ scope last stands ends shown.
          (let is = meant scope last stands ends in
          (refl, (stands_bound scope last name m f.state u b is.0 is.1 stands, no_variables scope)));
    }

  -- a declarator with a name

  module _ (f : File) (ready : IsReady f.state) (d : Declaration) (line : ℕ) (x : Option Initializer)
      (c : is_regular_initializer_if x ≡ true) (has : d.has_initializer ≡ is_some x) (u : State)
      (formed : IsFormed u) (good : judged_declarator (surroundings f.state.environment d) d ≡ Ok tt)
      (sized : is_sized_array d.type ≡ true) (laid : IsLaidOut u) where
    abbrev env : Environment
    env = f.state.environment

    abbrev Goal : Meaning → Type 0
    Goal m = IfTyped result variables_in variables_in AreDeclared f
        (declared_with (d.name, line) x (Some m) (record f { state = u }))

    -- with linkage

    abbrev the_entity : Designated
    the_entity = (entity_with env d (declared d.name env.entities)).what

    abbrev the_type : List TypeWord
    the_type = visible_type d.type (names.meaning d.name env.names)

    bare_by : (w : Designated) → is_linked w ≡ true → (type : List TypeWord) (y : Option Initializer)
        → is_some y ≡ false → Typed result variables_in variables_in AreDeclared f (record f { state = u }, [])
        → IfTyped result variables_in variables_in AreDeclared f
        (declared_with (d.name, line) y (Some (meaning.Named w type)) (record f { state = u }))
    bare_by (what.Object n) l type None e h = h
    bare_by (what.Object n) l type (Some y) e h = absurd cc
    bare_by (what.Function n) l type y e h = h
    bare_by (what.Library r) l type y e h = h
    bare_by (what.Static n) l type y e h = absurd cc
    bare_by (what.Variable n) l type y e h = absurd cc

    linked_goal : has_linkage (in_file env) d ≡ true → u ≡ record f.state { environment = linked env d }
        → Binds d.name (linked_meaning env d) f.state u → Goal (linked_meaning env d)
    linked_goal l at b =
        bare_by the_entity (declared_linked env d ready.linked) the_type x
        (sym has ∙ linked_bare f.state d ready.inner good l)
        (bound_typed f ready d.name (linked_meaning env d) u b formed laid (ap (λ s. s.environment.variables) at)
        (subst (λ s. EntitiesLead env s.environment) (sym at) (entities_linked env d ready.linked))
        (subst (λ s. AreLinked s.environment) (sym at) (linked_behind env d ready.linked))
        (λ scope last stands ends. (
          meant_kept scope last f.state u b.objects b.facts (Some (linked_meaning env d))
              (ends.linked.each f.state d ready sized good l
              (entities_same (declared_by env d) u.environment
              (ap (λ s. s.environment.entities) at ∙ ap (λ z. (Behind z env d).entities) (sym l)))
              (subst (λ s. AreMore (extents f.state) (extents s)) (sym at) (same_more (extents f.state)))
              (ap (λ s. s.environment.facts) at)
              (if_linked scope last f.state (names.meaning d.name env.names) (stands.knows.names d.name))),
          linked_open scope the_entity (declared_linked env d ready.linked),
        )))

    -- without linkage

    module _ (complete : is_typedef d.storage ≡ false → IsCompleteFor (extents f.state) d.has_initializer d.type)
      where
        complete_at : is_typedef d.storage ≡ false → extents u ≡ extents f.state
            → IsCompleteFor (extents u) (is_some x) d.type
        complete_at no_typedef e =
            subst (λ z. IsCompleteFor z (is_some x) d.type) (sym e)
            (subst (λ z. IsCompleteFor (extents f.state) z d.type) has (complete no_typedef))

        variable_goal : is_typedef d.storage ≡ false
            → HasSizes (extents u) d.type → u.environment.entities ≡ env.entities
            → u.environment.variables ≡ env.variables + 1
            → Binds d.name (meaning.Named (what.Variable env.variables) d.type) f.state u
            → Goal (meaning.Named (what.Variable env.variables) d.type)
        variable_goal no_typedef sizes entities count b =
            variable_typed result f ready u formed entities line d.name d.type x c laid
            (complete_at no_typedef (ap (λ z. z.extents) b.structures)) sizes env.variables refl b count

        by_storage : (z : Storage) → d.storage ≡ z
            → u ≡ record f.state { environment = without_linkage z env d }
            → Binds d.name (unlinked_meaning z env d) f.state u
            → HasArraysOf (extents u) (Some (unlinked_meaning z env d)) → Goal (unlinked_meaning z env d)
        by_storage storage.Typedef is at b arrays =
            bound_typed f ready d.name (meaning.Typedef d.type) u b formed laid (ap (λ s. s.environment.variables) at)
            (entities_same env u.environment (ap (λ s. s.environment.entities) at))
            (linked_bound d.name (meaning.Typedef d.type) f.state u b tt (ap (λ s. s.environment.entities) at)
            ready.linked)
            (λ scope last stands ends. (tt, tt))
        by_storage storage.Static is at b arrays =
            static_typed result f ready u formed (ap (λ s. s.environment.entities) at) line d.name d.type x c laid
            (complete_at (ap is_typedef is) (ap (λ z. z.extents) b.structures)) arrays env.statics b
            (ap (λ s. s.environment.variables) at)
        by_storage storage.Absent is at b arrays =
            variable_goal (ap is_typedef is) arrays (ap (λ s. s.environment.entities) at)
            (ap (λ s. s.environment.variables) at) b
        by_storage storage.Auto is at b arrays =
            variable_goal (ap is_typedef is) arrays (ap (λ s. s.environment.entities) at)
            (ap (λ s. s.environment.variables) at) b
        by_storage storage.Register is at b arrays =
            variable_goal (ap is_typedef is) arrays (ap (λ s. s.environment.entities) at)
            (ap (λ s. s.environment.variables) at) b
        by_storage storage.Extern is at b arrays =
            variable_goal (ap is_typedef is) arrays (ap (λ s. s.environment.entities) at)
            (ap (λ s. s.environment.variables) at) b

    by_linkage : (l : Bool) → has_linkage (in_file env) d ≡ l
        → (has_linkage (in_file env) d ≡ false → is_typedef d.storage ≡ false
        → IsCompleteFor (extents f.state) d.has_initializer d.type)
        → u ≡ record f.state { environment = Behind l env d } → Binds d.name (Bound l env d) f.state u
        → HasArraysOf (extents u) (Some (Bound l env d)) → Goal (Bound l env d)
    by_linkage true e complete at b arrays = linked_goal e at b
    by_linkage false e complete at b arrays = by_storage (complete e) d.storage refl at b arrays

    pub declared_typed : u ≡ record f.state { environment = declared_by env d } → Declares d f.state u
        → HasArraysOf (extents u) (Some (bound_meaning env d)) → Goal (bound_meaning env d)
    declared_typed at h arrays = by_linkage (has_linkage (in_file env) d) refl h.complete at h.binds arrays

  -- declarators

  named_from : (f : File) → IsReady f.state → (d : Declaration) (line : ℕ) (x : Option Initializer)
      → is_regular_initializer_if x ≡ true → d.has_initializer ≡ is_some x
      → (a : Answer (State × Option Meaning)) → IfDeclared d f.state a → IfMade d f.state a
      → IfLaidOut (HasDeclared (is_some x)) a
      → IfTyped result variables_in variables_in AreDeclared f
      (a >>= filed f >>= λ r. declared_with (d.name, line) x r.1 r.0)
  named_from f ready d line x c has (Ok r) h made laid =
      subst (λ m. IfTyped result variables_in variables_in AreDeclared f
      (declared_with (d.name, line) x m (record f { state = r.0 }))) (sym h.1)
      (declared_typed f ready d line x c has r.0 h.0.formed made.judged h.0.sized laid.0 made.state h.0
      (subst (HasArraysOf (extents r.0)) h.1 laid.1.arrays))
  named_from f ready d line x c has (Err e) h made laid = tt

  named_typed : (in_head : Bool) (spec : Specification) → is_sized_array spec.type ≡ true → (x : Option Initializer)
      → is_regular_initializer_if x ≡ true → (sh : Shape) → AreCounted sh.derivations → (name : Option (Name × ℕ))
      (f : File) → IsReady f.state → HasArrays f.state spec
      → IfTyped result variables_in variables_in AreDeclared f (named_by in_head spec x sh name f)
  named_typed in_head spec sized x c sh counted None f ready arrays =
      finished_typed result variables_in variables_in AreDeclared f ready [] refl (λ scope. refl)
  named_typed in_head spec sized x c sh counted (Some name) f ready arrays =
      let i = option_map initializer_line x in
      let d = declaration_of spec (built_in f.state spec sh) name i in
      named_from f ready d name.1 x c (some_mapped initializer_line x) (declared_as in_head spec sh i name f.state)
      (declared_as_declares in_head f.state ready.formed spec sized sh counted i name)
      (placed_made d f.state name spec.line (has_place in_head spec (built_in f.state spec sh).type))
      (subst (λ b. IfLaidOut (HasDeclared b) (declared_as in_head spec sh i name f.state))
      (some_mapped initializer_line x)
      (declared_as_laid in_head f.state ready.formed ready.laid spec sized arrays sh counted i name))

  declarator_typed : (in_head : Bool) (spec : Specification) → is_sized_array spec.type ≡ true → (d : t.InitDeclarator)
      → is_regular_object d (initializer_of d) ≡ true → (f : File) → IsReady f.state → HasArrays f.state spec
      → IfTyped result variables_in variables_in AreDeclared f (with_declarator in_head spec d f)
  declarator_typed in_head spec sized d c f ready arrays =
      let extends = shape_extends false d.declarator (first _ _ c) f.state ready.formed in
      after_state result (λ u sh. IsShapeOf u d.declarator sh) anything (λ scope sh. Unit {0}) variables_in variables_in
      AreDeclared f ready (shape false d.declarator f.state)
      (λ sh. named_by in_head spec (initializer_of d) sh sh.name) extends
      (shape_behind false d.declarator (first _ _ c) f.state ready.formed ready.laid)
      (kept_sound result (λ u sh. IsShapeOf u d.declarator sh) f.state (shape false d.declarator f.state) extends)
      (λ sh g more h is has. given_typed result variables_in variables_in AreDeclared (λ scope. Unit {0}) g
      (named_by in_head spec (initializer_of d) sh sh.name g)
      (named_typed in_head spec sized (initializer_of d) (second _ _ c) sh is.counted sh.name g h
      (arrays_kept (extents f.state) (extents g.state) more spec.type arrays)))

  -- several declarators, those behind some before them

  others_from : (in_head : Bool) (spec : Specification) (ds : List (Position × t.InitDeclarator))
      (vs : List DeclaredVariable) (f : File)
      → with_others in_head spec ds vs f ≡ (with_others in_head spec ds [] ~> λ us. finished (vs ++ us)) f
  others_from in_head spec [] vs f = ap (λ z. Ok (f, z)) (sym (append-nil vs))
  others_from in_head spec (d ∷ ds) vs f = by (with_declarator in_head spec d.1 f)
      (λ us g. others_from in_head spec ds (vs ++ us) g) (λ us g. others_from in_head spec ds us g)
    where
      behind : (us : List DeclaredVariable) (a : Answer (File × List DeclaredVariable))
          → (a >>= λ r. finished ((vs ++ us) ++ r.1) r.0)
          ≡ ((a >>= λ r. finished (us ++ r.1) r.0) >>= λ r. finished (vs ++ r.1) r.0)
      behind us (Ok r) = ap (λ z. Ok (r.0, z)) (append_assoc vs us r.1)
      behind us (Err e) = refl

      by : (a : Answer (File × List DeclaredVariable))
          → ((us : List DeclaredVariable) (g : File) → with_others in_head spec ds (vs ++ us) g
          ≡ (with_others in_head spec ds [] ~> λ ws. finished ((vs ++ us) ++ ws)) g)
          → ((us : List DeclaredVariable) (g : File) → with_others in_head spec ds us g
          ≡ (with_others in_head spec ds [] ~> λ ws. finished (us ++ ws)) g)
          → (a >>= λ r. with_others in_head spec ds (vs ++ r.1) r.0)
          ≡ ((a >>= λ r. with_others in_head spec ds r.1 r.0) >>= λ r. finished (vs ++ r.1) r.0)
      by (Ok r) h g =
          h r.1 r.0 ∙ behind r.1 (with_others in_head spec ds [] r.0)
          ∙ ap (λ a. a >>= λ q. finished (vs ++ q.1) q.0) (sym (g r.1 r.0))
      by (Err e) h g = refl

  made_together : (us vs : List DeclaredVariable) → variables_in (us ++ vs) ≡ variables_in us ++ variables_in vs
  made_together us vs = map-append (λ d. d.variable) us vs

  declared_together : (scope : Scope) (us vs : List DeclaredVariable) → AreDeclared scope us → AreDeclared scope vs
      → AreDeclared scope (us ++ vs)
  declared_together scope us vs e g =
      all_append (λ d. is_initializer scope d.variable d.initializer) us vs e g

  -- those of one declarator, and those of the others
  together_typed : (in_head : Bool) (spec : Specification) (ds : List (Position × t.InitDeclarator))
      → ((f : File) → IsReady f.state → HasArrays f.state spec
      → IfTyped result variables_in variables_in AreDeclared f (with_others in_head spec ds [] f))
      → (f : File) → IsReady f.state → HasArrays f.state spec → (a : Answer (File × List DeclaredVariable))
      → IfTyped result variables_in variables_in AreDeclared f a
      → IfTyped result variables_in variables_in AreDeclared f (a >>= λ r. with_others in_head spec ds r.1 r.0)
  together_typed in_head spec ds h f ready arrays a is =
      subst (IfTyped result variables_in variables_in AreDeclared f) (sym (each a))
      (two_behind result variables_in variables_in AreDeclared variables_in variables_in AreDeclared variables_in
      variables_in AreDeclared (λ us vs. us ++ vs) made_together made_together declared_together f ready a
      (λ us. with_others in_head spec ds []) is
      (λ us g more k. h g k (arrays_kept (extents f.state) (extents g.state) more spec.type arrays)))
    where
      each : (a : Answer (File × List DeclaredVariable))
          → (a >>= λ r. with_others in_head spec ds r.1 r.0)
          ≡ (a >>= λ r. (with_others in_head spec ds [] ~> λ ws. finished (r.1 ++ ws)) r.0)
      each (Ok r) = others_from in_head spec ds r.1 r.0
      each (Err e) = refl

  others_typed : (in_head : Bool) (spec : Specification) → is_sized_array spec.type ≡ true
      → (ds : List (Position × t.InitDeclarator))
      → list_all (λ d. is_regular_object d.1 (initializer_of d.1)) ds ≡ true → (f : File) → IsReady f.state
      → HasArrays f.state spec
      → IfTyped result variables_in variables_in AreDeclared f (with_others in_head spec ds [] f)
  others_typed in_head spec sized [] c f ready arrays =
      finished_typed result variables_in variables_in AreDeclared f ready [] refl (λ scope. refl)
  others_typed in_head spec sized (d ∷ ds) c f ready arrays =
      together_typed in_head spec ds (λ g h k. others_typed in_head spec sized ds (second _ _ c) g h k) f ready arrays
      (with_declarator in_head spec d.1 f) (declarator_typed in_head spec sized d.1 (first _ _ c) f ready arrays)

  alone_typed : (f : File) → IsReady f.state → (b : Bool) (line : ℕ)
      → IfTyped result variables_in variables_in AreDeclared f
      ((if b then violates rule.MisplacedStorage line else Ok []) >>= (λ x. Ok (f.state, x)) >>= filed f)
  alone_typed f ready true line = tt
  alone_typed f ready false line =
      finished_typed result variables_in variables_in AreDeclared f ready [] refl (λ scope. refl)

  declarators_typed : (in_head : Bool) (spec : Specification) → is_sized_array spec.type ≡ true
      → (ds : Option t.InitDeclarators) → are_regular_declarators ds ≡ true → (f : File) → IsReady f.state
      → HasArrays f.state spec
      → IfTyped result variables_in variables_in AreDeclared f (with_declarators in_head spec ds f)
  declarators_typed in_head spec sized None c f ready arrays =
      alone_typed f ready
      (is_misplaced (in_file f.state.environment) false spec.storage || not (has_place in_head spec spec.type))
      spec.line
  declarators_typed in_head spec sized (Some ds) c f ready arrays =
      together_typed in_head spec ds.others
      (λ g h k. others_typed in_head spec sized ds.others (second _ _ c) g h k) f ready arrays
      (with_declarator in_head spec ds.first f)
      (declarator_typed in_head spec sized ds.first (first _ _ c) f ready arrays)

  pub declaration_typed : (in_head : Bool) (d : t.Declaration) → is_regular_declaration d ≡ true → (f : File)
      → IsReady f.state → IfTyped result variables_in variables_in AreDeclared f (declaration in_head d f)
  declaration_typed in_head d c f ready =
      let extends = specified_extends (is_none d.declarators) d c f.state ready.formed in
      after_state result IsSpecified HasArrays (λ scope spec. Unit {0}) variables_in variables_in AreDeclared f ready
      (specified (is_none d.declarators) d f.state) (λ spec. with_declarators in_head spec d.declarators) extends
      (stored_laid (is_none d.declarators) d.specifiers (first _ _ c) f.state ready.formed ready.laid)
      (kept_sound result IsSpecified f.state (specified (is_none d.declarators) d f.state) extends)
      (λ spec g more h is has. given_typed result variables_in variables_in AreDeclared (λ scope. Unit {0}) g
      (with_declarators in_head spec d.declarators g)
      (declarators_typed in_head spec is d.declarators (second _ _ c) g h has))
