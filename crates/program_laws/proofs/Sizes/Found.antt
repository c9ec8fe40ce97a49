-- The objects that c_facts finds in the declarations of a file are of types that are complete at its end (C99 6.9.2).
use Rattle.std.proofs.Common.{◌≡◌, ◌⊎◌, inl, inr, ℕ, Bool, true, false, ◌&&◌, ◌||◌, refl, sym, ap, ◌∙◌, subst, List, []}
use Rattle.std.proofs.Common.{◌∷◌, ◌++◌, Option, Some, None, if◌then◌else◌}
use Rattle.std.specs.Prelude.{Ok, Err, is_none, is_some, not, option_map}
use Rattle.std.specs.List.{list_all}
use Rattle.c_syntax.specs.declared.position.Position.{Position}
use Rattle.c_syntax.specs.Formed as syntax
use Rattle.c_syntax.specs.Statements as t
use Rattle.c_syntax.specs.Tree.{Initializer}
use Rattle.c_tree.specs.Statements.{DeclaredVariable}
use Rattle.c_facts.specs.Facts.{Found}
use Rattle.c_facts.specs.Facts as facts
use Rattle.c_faults.specs.declared.fault.Rule.TheVariants.{MisplacedStorage}
use Rattle.c_faults.specs.Answer.{Answer, violates, ◌>>=◌}
use Rattle.c_scope.specs.declared.meaning.Meaning.{Meaning}
use Rattle.c_scope.specs.Declaring.{Declaration, is_extern, is_function, is_typedef, judged as judged_declarator}
use Rattle.c_scope.specs.Environment.{Environment, in_file, surroundings}
use Rattle.c_scope.specs.Names.{Name, Names, bound, declared}
use Rattle.c_declarator_typing.specs.Declarators.{Shape, built_in}
use Rattle.c_declarator_typing.specs.Specifications.{Specification}
use Rattle.c_typing_state.specs.State.{State}
use Rattle.c_expression_typing.specs.Typed.{shape}
use Rattle.c_unit_typing.specs.Declarations.{alone_in, declaration, declaration_of, declared_as, declared_with}
use Rattle.c_unit_typing.specs.Declarations.{has_place, named_by, specified, with_declarator, with_declarators}
use Rattle.c_unit_typing.specs.Declarations.{with_others}
use Rattle.c_unit_typing.specs.Files.{File, FileTyping}
use Rattle.c_unit_typing.specs.Lines.{initializer_line}
use Rattle.typing_laws.specs.Validity.Sound.{IsFormed, is_sized_array}
use Rattle.typing_laws.proofs.Validity.Common.{first, second}
use Rattle.typing_laws.specs.Declarators.Extending.{Extending}
use Rattle.typing_laws.specs.Declarators.Given.{AreCounted, IsShapeOf, IsSpecified, anything}
use Rattle.typing_laws.proofs.Declarators.Recursion.{shape_extends}
use Rattle.typing_laws.proofs.Declarations.Judged.{IsBuilt, answered, built_declaration}
use Rattle.typing_laws.specs.Layouts.Listed.{HasArrays, IfLaidOut, IsDeclared, IsLaidOut}
use Rattle.typing_laws.proofs.Declarations.Named.{HasNameOf, named_as, shape_named}
use Rattle.typing_laws.proofs.LaidOut.Declarations.{specified_laid}
use Rattle.typing_laws.proofs.Layouts.Declared.{declared_as_laid}
use Rattle.typing_laws.proofs.Layouts.Recursion.{shape_laid}
use Rattle.typing_laws.proofs.LaidOut.Chained.{StateLaid, both_laid}
use Rattle.typing_laws.specs.Scopes.Regular.{are_regular_declarators, initializer_of, is_regular_declaration}
use Rattle.typing_laws.specs.Scopes.Regular.{is_regular_initializer_if, is_regular_object}
use Rattle.typing_laws.proofs.Scopes.Declarations.{StateLeads, declares_leads, specified_extends}
use Rattle.program_laws.proofs.Functions.Entities.{bound_either}
use Rattle.typing_laws.proofs.Types.Parameters.{judged_known}
use Rattle.program_laws.proofs.Sizes.Declarations.{FileSteps, IfFileSteps, declarator_file_steps}
use Rattle.program_laws.proofs.Sizes.Declarations.{declared_steps}
use Rattle.program_laws.proofs.Sizes.Declarations.{named_steps, spec_kept, state_steps}
use Rattle.program_laws.proofs.Sizes.Steps.{AreEnding, AreSound, IsEnding, all_behind, declared_ending}
use Rattle.program_laws.proofs.Sizes.Steps.{ending_behind}
use Rattle.program_laws.proofs.Sizes.Storage.{IfStored, IsStored, specified_stored}
use Rattle.typing_laws.proofs.Scopes.Initializers.{IfBehind}
use Rattle.program_laws.proofs.Tags.Keeping.{KeepsTags}
use Rattle.program_laws.proofs.Tags.Walked.{tags_walk}
use Rattle.typing_laws.proofs.Walks.Declarations.{stored_walks}
use Rattle.typing_laws.proofs.Walks.Recursion.{shape_walks}
use Rattle.typing_laws.proofs.Common.{IfGives, filed, some_mapped}

-- one more object that the file defines

pub one_more : (objects : Names Bool) (env : Environment) (name : Name) → AreEnding objects env → IsEnding env name
    → AreEnding (bound name true objects) env
one_more objects env name h own = record {
  found = λ other e. by other e (bound_either other name true objects);
  each = h.each;
  sound = h.sound;
}
  where
    by : (other : Name) → is_some (declared other (bound name true objects)) ≡ true
        → (declared other (bound name true objects) ≡ declared other objects)
        ⊎ ((other ≡ name) × (declared other (bound name true objects) ≡ Some true)) → IsEnding env other
    by other e (inl g) = h.found other (ap is_some (sym g) ∙ e)
    by other e (inr g) = subst (IsEnding env) (sym g.0) own

objects_by : (b : Bool) (name : Name) (q : Found) (env : Environment) → AreEnding q.facts.objects env
    → (b ≡ true → IsEnding env name) → AreEnding (facts.with_object b name q).facts.objects env
objects_by true name q env h own = one_more q.facts.objects env name h (own refl)
objects_by false name q env h own = h

named_by_test : (is b : Bool) (function : Bool) (name : Name) (q : Found) (env : Environment)
    → AreEnding q.facts.objects env → (is ≡ false → b ≡ true → IsEnding env name)
    → AreEnding (if is then record q { types = bound name function q.types }
    else facts.with_object b name q).facts.objects env
named_by_test true b function name q env h own = h
named_by_test false b function name q env h own = objects_by b name q env h (own refl)

-- what a construct leaves

abbrev pub IfAll : {A : Type 0} → (objects : Names Bool) → Answer (File × A) → Type 0
IfAll objects (Ok r) = AreEnding objects r.0.state.environment
IfAll objects (Err e) = Unit {0}

abbrev IfEnding : {A : Type 0} → Name → Answer (File × A) → Type 0
IfEnding name (Ok r) = IsEnding r.0.state.environment name
IfEnding name (Err e) = Unit {0}

abbrev IfStateEnding : {A : Type 0} → Name → Answer (State × A) → Type 0
IfStateEnding name (Ok r) = IsEnding r.0.environment name
IfStateEnding name (Err e) = Unit {0}

all_by : {A : Type 0} (objects : Names Bool) (f : File) (a : Answer (File × A)) → IfFileSteps f a
    → AreEnding objects f.state.environment → IfAll objects a
all_by objects f (Ok r) h is = all_behind objects f.state.environment r.0.state.environment h.steps is
all_by objects f (Err e) h is = tt

then_all : {A B : Type 0} (objects more : Names Bool) (f : File) (a : Answer (File × A)) (next : A → FileTyping B)
    → IfFileSteps f a → IfAll objects a
    → ((x : A) (g : File) → FileSteps f g → AreEnding objects g.state.environment → IfAll more (next x g))
    → IfAll more (a >>= λ r. next r.1 r.0)
then_all objects more f (Ok r) next h is k = k r.1 r.0 h is
then_all objects more f (Err e) next h is k = tt

state_all : {A B : Type 0} (objects more : Names Bool) (p q : State → A → Type 0) (n : A → Type 0) (f : File)
    (a : Answer (State × A)) (next : A → FileTyping B) → IsLaidOut f.state → Extending false f.state p a
    → StateLaid q f.state a → IfBehind KeepsTags f.state a → IfGives n a → AreEnding objects f.state.environment
    → ((x : A) (g : File) → FileSteps f g → p g.state x → q g.state x → n x → AreEnding objects g.state.environment
    → IfAll more (next x g))
    → IfAll more (a >>= filed f >>= λ r. next r.1 r.0)
state_all objects more p q n f (Ok r) next laid h l b m is k =
    let g = record f { state = r.0 } in
    let own = state_steps f r.0 (record { extends = h.0; tags = b; laid = λ x. l.1 }) laid in
    k r.1 g own h.1 l.2 m (all_behind objects f.state.environment g.state.environment own.steps is)
state_all objects more p q n f (Err e) next laid h l b m is k = tt

-- a declarator of an object

no_extern : (i typedef x f : Bool) → (x ≡ true → i ≡ true) → (i && (typedef || x || f)) ≡ false → x ≡ false
no_extern i typedef false f h e = refl
no_extern true true true f h e = absurd cc
no_extern true false true f h e = absurd cc
no_extern false typedef true f h e = sym (h refl)

answered_ending : (s : State) (d : Declaration) → IsBuilt d → in_file s.environment ≡ true
    → is_typedef d.storage ≡ false → (is_extern d.storage ≡ true → d.has_initializer ≡ true)
    → AreSound s.environment.entities → (name : Name × ℕ) (a : Answer (Unit {0}))
    → judged_declarator (surroundings s.environment d) d ≡ a → IfStateEnding d.name (answered d s name a)
answered_ending s d built file plain own sound name (Ok x) e =
    let known = judged_known (surroundings s.environment d) d x e in
    declared_ending s d known (built.placed known.faultless) file plain
    (no_extern d.has_initializer (is_typedef d.storage) (is_extern d.storage) (is_function d.type) own
    known.initialized) sound
answered_ending s d built file plain own sound name (Err f) e = tt

placed_ending : (s : State) (d : Declaration) → IsBuilt d → in_file s.environment ≡ true
    → is_typedef d.storage ≡ false → (is_extern d.storage ≡ true → d.has_initializer ≡ true)
    → AreSound s.environment.entities → (name : Name × ℕ) (line : ℕ) (b : Bool)
    → IfStateEnding d.name
    (if b then answered d s name (judged_declarator (surroundings s.environment d) d)
    else violates MisplacedStorage line)
placed_ending s d built file plain own sound name line true =
    answered_ending s d built file plain own sound name (judged_declarator (surroundings s.environment d) d) refl
placed_ending s d built file plain own sound name line false = tt

step_ending : {A : Type 0} (g : File) (name : Name) → IsEnding g.state.environment name → (a : Answer (File × A))
    → IfFileSteps g a → IfEnding name a
step_ending g name is (Ok r) h = ending_behind g.state.environment r.0.state.environment h.steps name is
step_ending g name is (Err e) h = tt

ending_then : {A : Type 0} (b : Bool) (name : Name) (f : File) (a : Answer (State × Option Meaning))
    (next : Option Meaning → FileTyping A) → StateLeads f.state a → IfLaidOut (IsDeclared b) a
    → IfStateEnding name a
    → ((m : Option Meaning) (g : File) → IsFormed g.state → IsLaidOut g.state → IsDeclared b g.state m
    → IfFileSteps g (next m g))
    → IfEnding name (a >>= filed f >>= λ r. next r.1 r.0)
ending_then b name f (Ok r) next h is own k =
    let g = record f { state = r.0 } in
    step_ending g name own (next r.1 g) (k r.1 g h.formed is.0 is.1)
ending_then b name f (Err e) next h is own k = tt

named_ending : (spec : Specification) → is_sized_array spec.type ≡ true → (x : Option Initializer)
    → is_regular_initializer_if x ≡ true → (sh : Shape) → AreCounted sh.derivations → (name : Name × ℕ) (f : File)
    → IsFormed f.state → IsLaidOut f.state → HasArrays f.state spec → in_file f.state.environment ≡ true
    → is_typedef spec.storage ≡ false → (is_extern spec.storage ≡ true → is_some x ≡ true)
    → AreSound f.state.environment.entities → IfEnding name.0 (named_by false spec x sh (Some name) f)
named_ending spec sized x c sh counted name f formed laid arrays file plain own sound =
    let initializer = option_map initializer_line x in
    let d = declaration_of spec (built_in f.state spec sh) name initializer in
    ending_then (is_some initializer) name.0 f (declared_as false spec sh initializer name f.state)
    (declared_with name x)
    (declares_leads false spec sized sh counted initializer name f.state formed)
    (declared_as_laid false f.state formed laid spec sized arrays sh counted initializer name)
    (placed_ending f.state d (built_declaration f.state formed spec sized sh counted name initializer) file plain
    (λ e. some_mapped initializer_line x ∙ own e) sound name spec.line
    (has_place false spec (built_in f.state spec sh).type))
    (λ m g h behind is. declared_steps name x c m g h behind
    (subst (λ b. IsDeclared b g.state m) (some_mapped initializer_line x) is))

-- where it is read that it is one

not_typedef : (is typedefs : Bool) → (is ≡ true → typedefs ≡ true) → typedefs ≡ false → is ≡ false
not_typedef true typedefs h e = sym (h refl) ∙ e
not_typedef false typedefs h e = refl

not_function : (b e i : Bool) → (not b && (not e || i)) ≡ true → e ≡ true → i ≡ true
not_function true e i h g = absurd cc
not_function false true i h g = h
not_function false false i h g = absurd cc

all_named : {A : Type 0} (h : facts.Heading) (b i : Bool) (name : Name) (q : Found) (f : File) (a : Answer (File × A))
    → IfFileSteps f a → AreEnding q.facts.objects f.state.environment
    → (h.is_typedef ≡ false → (not b && (not h.has_extern || i)) ≡ true → IfEnding name a)
    → IfAll (facts.with_named h b i name q).facts.objects a
all_named h b i name q f (Ok r) steps is own =
    named_by_test h.is_typedef (not b && (not h.has_extern || i)) b name q r.0.state.environment
    (all_behind q.facts.objects f.state.environment r.0.state.environment steps.steps is) own
all_named h b i name q f (Err e) steps is own = tt

named_all : (spec : Specification) → is_sized_array spec.type ≡ true → (x : Option Initializer)
    → is_regular_initializer_if x ≡ true → (sh : Shape) → AreCounted sh.derivations → (name : Option (Name × ℕ))
    (f : File) → IsFormed f.state → IsLaidOut f.state → HasArrays f.state spec → in_file f.state.environment ≡ true
    → (h : facts.Heading) → IsStored h.is_typedef h.has_extern spec.storage → (b : Bool) (q : Found)
    → AreEnding q.facts.objects f.state.environment
    → IfAll (facts.with_name h b (is_some x) (named_as name) q).facts.objects (named_by false spec x sh name f)
named_all spec sized x c sh counted None f formed laid arrays file h stored b q is = is
named_all spec sized x c sh counted (Some name) f formed laid arrays file h stored b q is =
    all_named h b (is_some x) name.0 q f (named_by false spec x sh (Some name) f)
    (named_steps false spec sized x c sh counted (Some name) f formed laid arrays) is
    (λ plain object. named_ending spec sized x c sh counted name f formed laid arrays file
    (not_typedef (is_typedef spec.storage) h.is_typedef stored.typedef plain)
    (λ e. not_function b h.has_extern (is_some x) object (stored.own e)) is.sound)

declarator_all : (spec : Specification) → is_sized_array spec.type ≡ true → (d : t.InitDeclarator)
    → is_regular_object d (initializer_of d) ≡ true → (f : File) → IsFormed f.state → IsLaidOut f.state
    → HasArrays f.state spec → in_file f.state.environment ≡ true → (h : facts.Heading)
    → IsStored h.is_typedef h.has_extern spec.storage → (q : Found) → AreEnding q.facts.objects f.state.environment
    → IfAll (facts.with_declarator h d q).facts.objects (with_declarator false spec d f)
declarator_all spec sized d c f formed laid arrays file h stored q is =
    let extends = shape_extends false d.declarator (first _ _ c) f.state formed in
    let b = facts.declares_function h.is_function d.declarator in
    let more = (facts.with_declarator h d q).facts.objects in
    state_all q.facts.objects more (λ u sh. IsShapeOf u d.declarator sh) anything
    (HasNameOf d.declarator) f (shape false d.declarator f.state)
    (λ sh. named_by false spec (initializer_of d) sh sh.name) laid extends
    (both_laid (λ u sh. IsShapeOf u d.declarator sh) anything f.state (shape false d.declarator f.state) laid extends
    (shape_laid false d.declarator (first _ _ c) f.state formed laid))
    (shape_walks tags_walk false d.declarator f.state).by
    (shape_named false d.declarator f.state) is
    (λ sh g own shaped x named is.
    subst (λ i. IfAll (facts.with_name h b i (syntax.declared d.declarator) q).facts.objects
    (named_by false spec (initializer_of d) sh sh.name g)) (some_mapped (λ z. z.1) d.initializer)
    (subst (λ z. IfAll (facts.with_name h b (is_some (initializer_of d)) z q).facts.objects
    (named_by false spec (initializer_of d) sh sh.name g)) named
    (named_all spec sized (initializer_of d) (second _ _ c) sh shaped.counted sh.name g own.leads.state.formed own.laid
    (spec_kept spec f g own arrays) (own.steps.place ∙ file) h stored b q is)))

others_all : (spec : Specification) → is_sized_array spec.type ≡ true → (ds : List (Position × t.InitDeclarator))
    → list_all (λ d. is_regular_object d.1 (initializer_of d.1)) ds ≡ true → (vs : List DeclaredVariable) (f : File)
    → IsFormed f.state → IsLaidOut f.state → HasArrays f.state spec → in_file f.state.environment ≡ true
    → (h : facts.Heading) → IsStored h.is_typedef h.has_extern spec.storage → (q : Found)
    → AreEnding q.facts.objects f.state.environment
    → IfAll (facts.with_more h ds q).facts.objects (with_others false spec ds vs f)
others_all spec sized [] c vs f formed laid arrays file h stored q is = is
others_all spec sized (d ∷ ds) c vs f formed laid arrays file h stored q is =
    then_all (facts.with_declarator h d.1 q).facts.objects (facts.with_more h (d ∷ ds) q).facts.objects f
    (with_declarator false spec d.1 f) (λ us. with_others false spec ds (vs ++ us))
    (declarator_file_steps false spec sized d.1 (first _ _ c) f formed laid arrays)
    (declarator_all spec sized d.1 (first _ _ c) f formed laid arrays file h stored q is)
    (λ us g own is. others_all spec sized ds (second _ _ c) (vs ++ us) g own.leads.state.formed own.laid
    (spec_kept spec f g own arrays) (own.steps.place ∙ file) h stored (facts.with_declarator h d.1 q) is)

alone_all : (objects : Names Bool) (f : File) → AreEnding objects f.state.environment
    → (a : Answer (List DeclaredVariable)) → IfAll objects (a >>= (λ x. Ok (f.state, x)) >>= filed f)
alone_all objects f is (Ok x) = is
alone_all objects f is (Err e) = tt

declarators_all : (spec : Specification) → is_sized_array spec.type ≡ true → (ds : Option t.InitDeclarators)
    → are_regular_declarators ds ≡ true → (f : File) → IsFormed f.state → IsLaidOut f.state → HasArrays f.state spec
    → in_file f.state.environment ≡ true → (h : facts.Heading) → IsStored h.is_typedef h.has_extern spec.storage
    → (q : Found) → AreEnding q.facts.objects f.state.environment
    → IfAll (facts.with_declarators h ds q).facts.objects (with_declarators false spec ds f)
declarators_all spec sized None c f formed laid arrays file h stored q is =
    alone_all q.facts.objects f is (alone_in false spec f.state)
declarators_all spec sized (Some ds) c f formed laid arrays file h stored q is =
    then_all (facts.with_declarator h ds.first q).facts.objects
    (facts.with_more h ds.others (facts.with_declarator h ds.first q)).facts.objects f
    (with_declarator false spec ds.first f) (λ vs. with_others false spec ds.others vs)
    (declarator_file_steps false spec sized ds.first (first _ _ c) f formed laid arrays)
    (declarator_all spec sized ds.first (first _ _ c) f formed laid arrays file h stored q is)
    (λ vs g own is. others_all spec sized ds.others (second _ _ c) vs g own.leads.state.formed own.laid
    (spec_kept spec f g own arrays) (own.steps.place ∙ file) h stored (facts.with_declarator h ds.first q) is)

stored_plain : (d : t.Declaration) (a : Answer (State × Specification)) → IfStored d.specifiers a
    → IfGives (λ spec. IsStored (syntax.has_typedef d.specifiers) (facts.has_extern d.specifiers) spec.storage) a
stored_plain d (Ok r) h = h
stored_plain d (Err e) h = tt

pub declaration_all : (d : t.Declaration) → is_regular_declaration d ≡ true → (f : File) → IsFormed f.state
    → IsLaidOut f.state → in_file f.state.environment ≡ true → (q : Found)
    → AreEnding q.facts.objects f.state.environment
    → IfAll (facts.with_declaration d q).facts.objects (declaration false d f)
declaration_all d c f formed laid file q is =
    let extends = specified_extends (is_none d.declarators) d c f.state formed in
    let more = (facts.with_declaration d q).facts.objects in
    state_all q.facts.objects more IsSpecified HasArrays
    (λ spec. IsStored (syntax.has_typedef d.specifiers) (facts.has_extern d.specifiers) spec.storage) f
    (specified (is_none d.declarators) d f.state) (λ spec. with_declarators false spec d.declarators) laid extends
    (both_laid IsSpecified HasArrays f.state (specified (is_none d.declarators) d f.state) laid extends
    (specified_laid (is_none d.declarators) d c f.state formed laid))
    (stored_walks tags_walk (is_none d.declarators) d.specifiers f.state).by
    (stored_plain d (specified (is_none d.declarators) d f.state) (specified_stored (is_none d.declarators) d f.state))
    is
    (λ spec g own sized arrays stored is. declarators_all spec sized d.declarators (second _ _ c) g
    own.leads.state.formed own.laid arrays (own.steps.place ∙ file) (facts.heading q.types d.specifiers) stored
    (facts.with_tags d.specifiers q) is)
