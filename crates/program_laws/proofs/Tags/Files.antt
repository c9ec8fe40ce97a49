-- The tags whose members a file lists at file scope stand for complete structures and unions at its end (C99 6.7.2.1,
-- 6.9.2).
use Rattle.std.proofs.Common.{◌≡◌, ◌⊎◌, inl, inr, ℕ, Bool, true, false, refl, sym, ap, subst, ◌∙◌, List, []}
use Rattle.std.proofs.Common.{◌∷◌, Option, Some, None, if◌then◌else◌}
use Rattle.std.specs.Prelude.{Ok, Err, is_none, is_some, slice_get}
use Rattle.c_syntax.specs.Formed as formed
use Rattle.c_syntax.specs.Statements as t
use Rattle.c_syntax.specs.Tree.{Declarator, Specifiers}
use Rattle.c_tree.specs.declared.c_type.TypeWord.{TypeWord}
use Rattle.c_tree.specs.Statements.{Statements}
use Rattle.c_faults.specs.declared.fault.Rule.TheVariants.{MisplacedStorage}
use Rattle.c_faults.specs.Answer.{Answer, violates, ◌>>=◌}
use Rattle.c_facts.specs.Facts.{Found, facts_in, found_in, nothing_found, tags_in, with_external}
use Rattle.c_facts.specs.Facts as facts
use Rattle.c_scope.specs.declared.meaning.Designated.TheVariants as what
use Rattle.c_scope.specs.declared.meaning.Meaning.{Meaning}
use Rattle.c_scope.specs.declared.meaning.Meaning.TheVariants as meaning
use Rattle.c_scope.specs.Declaring.{Declaration, is_typedef}
use Rattle.c_scope.specs.Environment.{Facts}
use Rattle.c_scope.specs.Names.{Name, Names, declared, is_empty}
use Rattle.c_scope.specs.Parameters.{ParameterScope}
use Rattle.c_scope.specs.Start.{start}
use Rattle.c_scope.specs.Structures.{file_tag_of, is_known}
use Rattle.c_declarator_typing.specs.Declarators.{Shape, built_in, declaring}
use Rattle.c_declarator_typing.specs.Specifications.{Specification}
use Rattle.c_typing_state.specs.State.{State, extents, judged, ◌>>>◌}
use Rattle.c_expression_typing.specs.Typed.{shape, specification}
use Rattle.c_unit_typing.specs.Declarations.{declaration, specified, stored_once, with_declarators}
use Rattle.c_unit_typing.specs.Files.{File, FileTyping, in_state, ◌~>◌}
use Rattle.c_unit_typing.specs.Statements.{block_items}
use Rattle.c_unit_typing.specs.Units.{around_body, defined_as, defined_by, definition_of, entered, external, externals}
use Rattle.c_unit_typing.specs.Units.{file_before, file_with, left, parameters_in, scope_or_none, with_body}
use Rattle.typing_laws.specs.Validity.Sound.{IsFormed, is_sized_array}
use Rattle.typing_laws.proofs.Validity.Common.{first, no_value, second, the_same}
use Rattle.typing_laws.specs.Declarators.Extending.{Extending}
use Rattle.typing_laws.specs.Declarators.Given.{AreCounted, HasScope, IsParameterScope, IsShapeOf, IsSpecified}
use Rattle.typing_laws.proofs.Declarators.Recursion.{scope_kept, shape_extends}
use Rattle.typing_laws.specs.Declarations.Binding.{IfDeclared, bound_meaning}
use Rattle.typing_laws.proofs.Declarations.Facts.{declarators_keep_facts}
use Rattle.typing_laws.specs.Scopes.Leaving.{FileLeads, Growing}
use Rattle.typing_laws.specs.Scopes.Regular.{are_regular_externals, is_regular_block, is_regular_external}
use Rattle.typing_laws.proofs.Scopes.Declarations.{specified_extends}
use Rattle.typing_laws.proofs.Scopes.Files.{defined_as_declares, entered_leads, external_grows, externals_grow}
use Rattle.typing_laws.proofs.Scopes.Files.{inside, scope_is, stored_extends}
use Rattle.typing_laws.proofs.Scopes.Leading.{bound_leads}
use Rattle.typing_laws.proofs.Scopes.Start.{file_formed, start_facts}
use Rattle.typing_laws.proofs.Scopes.Statements.{IfFileBehind}
use Rattle.program_laws.specs.Sizes.Tags.{IfBodiesStay, TagsAreComplete}
use Rattle.typing_laws.proofs.Common.{filed}
use Rattle.program_laws.proofs.Files.Ends.{behind_all, same_ok}
use Rattle.typing_laws.proofs.Scopes.Initializers.{IfBehind}
use Rattle.program_laws.proofs.Tags.Keeping.{HaveFileTags, Inside, KeepsTags, bodies_stay, in_file_scope}
use Rattle.program_laws.proofs.Tags.Keeping.{inner_keeps, keeps_on, keeps_same, number_of, stands_keep, tag_at}
use Rattle.program_laws.proofs.Tags.Members.{Completed, Completes, Does, IfDoes, Ready, does_by, does_on}
use Rattle.program_laws.proofs.Tags.Members.{does_same}
use Rattle.program_laws.proofs.Tags.Members.{kept_does, ready_kept, specification_does, then_does}
use Rattle.program_laws.proofs.Tags.Walked.{items_keep, tags_walk}
use Rattle.typing_laws.proofs.Walks.Declarations.{declaration_walks, declarators_walk, found_walks}
use Rattle.typing_laws.proofs.Walks.Declarations.{stored_walks}
use Rattle.typing_laws.proofs.Walks.Recursion.{shape_walks}
use Rattle.typing_laws.proofs.Walks.States.{IfFileWalks, file_done, file_more, file_then, judged_walks}
use Rattle.typing_laws.proofs.Walks.Statements.{BothFiles}
use Rattle.typing_laws.proofs.Walks.Steps.{type_stands}

-- what is typed in the state, and gives something on which what follows depends

pub then_state : {A B : Type 0} (f : File) (p : State → A → Type 0) (a : Answer (State × A)) (next : A → FileTyping B)
    → Extending false f.state p a → IfBehind KeepsTags f.state a
    → ((x : A) (g : File) → IsFormed g.state → p g.state x → IfFileWalks KeepsTags g (next x g))
    → IfFileWalks KeepsTags f (a >>= filed f >>= λ r. next r.1 r.0)
then_state f p (Ok r) next is h k =
    let g = record f { state = r.0 } in file_more tags_walk f g h (next r.1 g) (k r.1 g is.0.formed is.1)
then_state f p (Err e) next is h k = tt

-- the block of a function stands in the scope of its parameters

module _ (f : File) (is_formed : IsFormed f.state) (n : ℕ) (p : ParameterScope) (is : IsParameterScope f.state p)
    (type : List TypeWord) (line : ℕ) where
  inside_is : Inside f.state (inside n p f)
  inside_is = record { structures = refl; outer = refl; outer_tags = refl }

  left_keeps : (a : Answer (File × Statements)) → IfFileBehind (BothFiles FileLeads KeepsTags) (entered n type p f) a
      → IfFileWalks KeepsTags f
      (a >>= λ r. Ok (left line type (parameters_in (entered n type p f).state p.names) r, tt {0}))
  left_keeps (Ok r) h =
      let all = keeps_on (inside n p f) (entered n type p f).state r.0.state
      (stands_keep 0 (inside n p f) (entered n type p f).state (type_stands type (inside n p f))) h.keeps in
      inner_keeps f.state (inside n p f) r.0.state
      (left line type (parameters_in (entered n type p f).state p.names) r).state inside_is all
      (record {
        structures = refl;
        outer = refl;
        outer_tags = refl;
        file = _;
        current = refl;
        file_names = _;
        current_names = refl;
      })
  left_keeps (Err e) h = tt

body_keeps : (line : ℕ) (o : Option ParameterScope) (b : t.Block) → is_regular_block b ≡ true → (m : Option Meaning)
    (f : File) → IsFormed f.state → HasScope f.state o → IfFileWalks KeepsTags f (with_body line o b m f)
body_keeps line o (t.block l xs r) c (Some (meaning.Named (what.Function n) type)) f is_formed has =
    let p = scope_or_none o in
    let is = scope_is f.state o has in
    left_keeps f is_formed n p is type line (block_items (around_body type) xs (entered n type p f))
    (items_keep (around_body type) xs c (entered n type p f) (entered_leads f is_formed n p is type line).formed)
body_keeps line o b c None f is_formed has = keeps_same f.state
body_keeps line o b c (Some (meaning.Typedef type)) f is_formed has = keeps_same f.state
body_keeps line o b c (Some (meaning.Constant w)) f is_formed has = keeps_same f.state
body_keeps line o b c (Some (meaning.Named (what.Object n) type)) f is_formed has = keeps_same f.state
body_keeps line o b c (Some (meaning.Named (what.Static n) type)) f is_formed has = keeps_same f.state
body_keeps line o b c (Some (meaning.Named (what.Library r) type)) f is_formed has = keeps_same f.state
body_keeps line o b c (Some (meaning.Named (what.Variable n) type)) f is_formed has = keeps_same f.state

-- a definition

named_keeps : (f : File) (d : Declaration) (o : Option ParameterScope) (line : ℕ) (b : t.Block)
    → is_regular_block b ≡ true → HasScope f.state o → (a : Answer (State × Option Meaning)) → IfDeclared d f.state a
    → IfBehind KeepsTags f.state a → IfFileWalks KeepsTags f (a >>= filed f >>= λ r. with_body line o b r.1 r.0)
named_keeps f d o line b c has (Ok r) h k =
    let g = record f { state = r.0 } in
    let leads = bound_leads d.name (bound_meaning f.state.environment d) f.state r.0 h.0.binds h.0.formed in
    file_more tags_walk f g k (with_body line o b r.1 g)
    (body_keeps line o b c r.1 g h.0.formed (scope_kept f.state r.0 leads.longer o has))
named_keeps f d o line b c has (Err e) h k = tt

defined_as_keeps : (spec : Specification) (sh : Shape) (name : Name × ℕ) (s : State) (b : Bool)
    → IfBehind KeepsTags s (if b then violates MisplacedStorage spec.line
    else (declaring name (definition_of (extents s) spec (built_in s spec sh) name) >>>
    λ name. judged (λ s. Ok (declared name.0 s.environment.names.current))) s)
defined_as_keeps spec sh name s true = tt
defined_as_keeps spec sh name s false =
    let d = definition_of (extents s) spec (built_in s spec sh) name in
    (found_walks tags_walk d name s).by

defined_keeps : (spec : Specification) → is_sized_array spec.type ≡ true → (sh : Shape) → AreCounted sh.derivations
    → (b : t.Block) → is_regular_block b ≡ true → (name : Option (Name × ℕ)) (f : File) → IsFormed f.state
    → HasScope f.state sh.parameters → IfFileWalks KeepsTags f (defined_by spec sh b name f)
defined_keeps spec sized sh counted b c None f is_formed has = keeps_same f.state
defined_keeps spec sized sh counted b c (Some name) f is_formed has =
    named_keeps f (definition_of (extents f.state) spec (built_in f.state spec sh) name) sh.parameters name.1 b c has
    (defined_as spec sh name f.state)
    (defined_as_declares f.state is_formed spec sized sh counted name (is_typedef spec.storage))
    (defined_as_keeps spec sh name f.state (is_typedef spec.storage))

-- behind the specifiers of a definition
function_keeps : (d : Declarator) (b : t.Block) (specs : Specifiers)
    → is_regular_external (t.definition specs d b) ≡ true → (spec : Specification) (g : File) → IsFormed g.state
    → IsSpecified g.state spec
    → IfFileWalks KeepsTags g ((in_state (shape true d) ~> λ sh. defined_by spec sh b sh.name) g)
function_keeps d b specs c spec g is_formed is =
    then_state g (λ u sh. IsShapeOf u d sh) (shape true d g.state) (λ sh. defined_by spec sh b sh.name)
    (shape_extends true d (second _ _ (first _ _ c)) g.state is_formed) (shape_walks tags_walk true d g.state).by
    (λ sh k j has. defined_keeps spec is sh has.counted b (second _ _ c) sh.name k j has.scope)

pub external_keeps : (e : t.External) → is_regular_external e ≡ true → (f : File) → IsFormed f.state
    → IfFileWalks KeepsTags f (external e f)
external_keeps (t.definition specs d b) c f is_formed =
    then_state f IsSpecified ((specification false specs >>> λ spec. judged (stored_once spec)) f.state)
    (λ spec. in_state (shape true d) ~> λ sh. defined_by spec sh b sh.name)
    (stored_extends specs (first _ _ (first _ _ c)) f.state is_formed) (stored_walks tags_walk false specs f.state).by
    (λ spec g h is. function_keeps d b specs c spec g h is)
external_keeps (t.declaration d) c f is_formed =
    (file_then (declaration_walks tags_walk false d f) (λ r. file_done)).by

then_grown : {A B : Type 0} (f : File) (a : Answer (File × A)) (next : A → FileTyping B) → Growing f a
    → IfFileWalks KeepsTags f a → ((g : File) (x : A) → IsFormed g.state → IfFileWalks KeepsTags g (next x g))
    → IfFileWalks KeepsTags f (a >>= λ r. next r.1 r.0)
then_grown f (Ok r) next l h k = file_more tags_walk f r.0 h (next r.1 r.0) (k r.0 r.1 l.formed)
then_grown f (Err e) next l h k = tt

pub externals_keep : (es : List t.External) → are_regular_externals es ≡ true → (f : File) → IsFormed f.state
    → IfFileWalks KeepsTags f (externals es f)
externals_keep [] c f is_formed = keeps_same f.state
externals_keep (e ∷ es) c f is_formed =
    then_grown f (external e f) (λ done. externals es) (external_grows e (first _ _ c) f is_formed)
    (external_keeps e (first _ _ c) f is_formed) (λ g done h. externals_keep es (second _ _ c) g h)

-- structures and unions keep their numbers and tags behind definitions and declarations

if_bodies_stay : {A : Type 0} (f : File) (a : Answer (File × A)) → IfFileWalks KeepsTags f a
    → IfBodiesStay f.state a
if_bodies_stay f (Ok r) h = bodies_stay f.state r.0.state h
if_bodies_stay f (Err e) h = tt

pub externals_stay : (es : List t.External) → are_regular_externals es ≡ true → (f : File) → IsFormed f.state
    → IfBodiesStay f.state (externals es f)
externals_stay es c f is_formed = if_bodies_stay f (externals es f) (externals_keep es c f is_formed)

pub declaration_stays : (in_head : Bool) (d : t.Declaration) (f : File) → IfBodiesStay f.state (declaration in_head d f)
declaration_stays in_head d f = if_bodies_stay f (declaration in_head d f) (declaration_walks tags_walk in_head d f).by

-- which tags are complete behind a definition or a declaration

abbrev pub IfFileDoes : {A : Type 0} → (before behind : Names Bool) → File → Answer (File × A) → Type 0
IfFileDoes before behind f (Ok r) = Does before behind f.state r.0.state
IfFileDoes before behind f (Err e) = Unit {0}

state_does : {A B : Type 0} (tags behind : Names Bool) (f : File) (p : State → A → Type 0) (a : Answer (State × A))
    (next : A → FileTyping B) → Extending false f.state p a → IfDoes tags behind f.state a
    → ((x : A) (g : File) → IsFormed g.state → p g.state x → IfFileWalks KeepsTags g (next x g))
    → IfFileDoes tags behind f (a >>= filed f >>= λ r. next r.1 r.0)
state_does tags behind f p (Ok r) next is h k =
    by (next r.1 (record f { state = r.0 })) (k r.1 (record f { state = r.0 }) is.0.formed is.1)
  where
    by : {B : Type 0} (b : Answer (File × B)) → IfFileWalks KeepsTags (record f { state = r.0 }) b
        → IfFileDoes tags behind f b
    by (Ok q) g = does_on tags behind behind f.state r.0 q.0.state h (does_by behind r.0 q.0.state g)
    by (Err e) g = tt
state_does tags behind f p (Err e) next is h k = tt

stored_does : (is_alone : Bool) (specs : Specifiers) (tags : Names Bool) (s : State) → Ready s
    → IfDoes tags (tags_in specs tags) s ((specification is_alone specs >>> λ spec. judged (stored_once spec)) s)
stored_does is_alone specs tags s ready =
    then_does s ready tags (tags_in specs tags) (tags_in specs tags) (specification is_alone specs s)
    (λ spec. judged (stored_once spec)) (specification_does is_alone specs tags s ready)
    (λ u spec now. kept_does (tags_in specs tags) u (judged (stored_once spec) u) (judged_walks u (stored_once spec u)))

end_does : {A : Type 0} (tags behind : Names Bool) (f : File) (a : Answer (File × A)) → IfFileDoes tags behind f a
    → IfFileDoes tags behind f (a >>= λ r. Ok (r.0, tt {0}))
end_does tags behind f (Ok r) h = h
end_does tags behind f (Err e) h = tt

-- the tags that a definition or a declaration adds to the facts

abbrev added_tags : t.External → Names Bool → Names Bool
added_tags (t.definition specs d b) tags = tags_in specs tags
added_tags (t.declaration d) tags = tags_in d.specifiers tags

external_does : (e : t.External) → is_regular_external e ≡ true → (tags : Names Bool) (f : File) → IsFormed f.state
    → Ready f.state → IfFileDoes tags (added_tags e tags) f (external e f)
external_does (t.definition specs d b) c tags f is_formed ready =
    state_does tags (tags_in specs tags) f IsSpecified
    ((specification false specs >>> λ spec. judged (stored_once spec)) f.state)
    (λ spec. in_state (shape true d) ~> λ sh. defined_by spec sh b sh.name)
    (stored_extends specs (first _ _ (first _ _ c)) f.state is_formed) (stored_does false specs tags f.state ready)
    (λ spec g h is. function_keeps d b specs c spec g h is)
external_does (t.declaration d) c tags f is_formed ready =
    end_does tags (tags_in d.specifiers tags) f (declaration false d f)
    (state_does tags (tags_in d.specifiers tags) f IsSpecified (specified (is_none d.declarators) d f.state)
    (λ spec. with_declarators false spec d.declarators)
    (specified_extends (is_none d.declarators) d c f.state is_formed)
    (stored_does (is_none d.declarators) d.specifiers tags f.state ready)
    (λ spec g h is. (declarators_walk tags_walk false spec d.declarators g).by))

defined_tags : (o : Option Name) (x : Facts) → (facts.defined o x).tags ≡ x.tags
defined_tags None x = refl
defined_tags (Some name) x = refl

external_tags : (e : t.External) (q : Found) → (with_external e q).facts.tags ≡ added_tags e q.facts.tags
external_tags (t.definition specs d b) q = defined_tags (formed.declared d) (facts.with_tags specs q).facts
external_tags (t.declaration d) q =
    declarators_keep_facts (λ x. x.tags) (λ x name. refl) (facts.heading q.types d.specifiers) d.declarators
    (facts.with_tags d.specifiers q)

-- so is each tag of the facts behind all of them

then_does_file : {A B : Type 0} (a b c : Names Bool) (f : File) (x : Answer (File × A)) (next : A → FileTyping B)
    → Growing f x → Ready f.state → IfFileDoes a b f x
    → ((g : File) (y : A) → IsFormed g.state → Ready g.state → IfFileDoes b c g (next y g))
    → IfFileDoes a c f (x >>= λ r. next r.1 r.0)
then_does_file a b c f (Ok r) next l ready h k =
    by (next r.1 r.0) (k r.0 r.1 l.formed (ready_kept f.state r.0.state h.keeps ready))
  where
    by : {B : Type 0} (z : Answer (File × B)) → IfFileDoes b c r.0 z → IfFileDoes a c f z
    by (Ok q) g = does_on a b c f.state r.0.state q.0.state h g
    by (Err e) g = tt
then_does_file a b c f (Err e) next l ready h k = tt

externals_do : (es : List t.External) → are_regular_externals es ≡ true → (q : Found) (f : File) → IsFormed f.state
    → Ready f.state → IfFileDoes q.facts.tags (found_in es q).facts.tags f (externals es f)
externals_do [] c q f is_formed ready = does_same q.facts.tags f.state
externals_do (e ∷ es) c q f is_formed ready =
    then_does_file q.facts.tags (with_external e q).facts.tags (found_in es (with_external e q)).facts.tags f
    (external e f) (λ done. externals es) (external_grows e (first _ _ c) f is_formed) ready
    (subst (λ z. IfFileDoes q.facts.tags z f (external e f)) (sym (external_tags e q))
    (external_does e (first _ _ c) q.facts.tags f is_formed ready))
    (λ g done h now. externals_do es (second _ _ c) (with_external e q) g h now)

-- at the start

no_file_tags : (objects : Option (List (List Bool))) (x : Facts) → HaveFileTags (file_before objects x).state
unfolding start
no_file_tags objects x = record {
  same = refl;
  nested = λ e. refl;
  numbered = λ name n e. no_value n _ e;
  each = λ n name e. no_value (Some name) _ e;
}

at_start : (objects : Option (List (List Bool))) (x : Facts)
    → is_empty (file_before objects x).state.environment.tags.outer ≡ true
unfolding start
at_start objects x = refl

-- at the end

ends_by : (f : File) → HaveFileTags f.state → Completed [] f.state.environment.facts.tags f.state → TagsAreComplete f
ends_by f have completed = record {
  each = λ n body name is by_tag listed.
      by n name
      (have.each n name (tag_at f.state.environment.structures.bodies n name (ap file_tag_of is ∙ by_tag)))
      (completed.each name listed);
}
  where
    by : (n : ℕ) (name : Name) → number_of (in_file_scope name f.state) ≡ Some n
        → (is_some (declared {A = Bool} name []) ≡ true) ⊎ Completes name f.state
        → is_known (slice_get (extents f.state) n) ≡ true
    by n name e (inl none) = absurd cc
    by n name e (inr c) =
        ap (λ z. is_known (slice_get (extents f.state) z)) (the_same (sym e ∙ c.is)) ∙ c.known

file_ends : (objects : Option (List (List Bool))) (es : List t.External) (g : File)
    (a : Answer (File × Unit {0})) → Growing (file_before objects (facts_in es)) a
    → IfFileDoes [] (facts_in es).tags (file_before objects (facts_in es)) a → a ≡ Ok (g, tt) → TagsAreComplete g
file_ends objects es g (Ok r) l h e =
    subst TagsAreComplete (ap (λ z. z.0) (same_ok r (g, tt) e))
    (ends_by r.0 (h.keeps.have (no_file_tags objects (facts_in es)))
    (subst (λ z. Completed [] z.tags r.0.state) (sym (l.facts ∙ start_facts (facts_in es))) h.completes))
file_ends objects es g (Err x) l h e = absurd cc

pub tags_complete : (objects : Option (List (List Bool))) (end : ℕ) (es : List t.External) (f : File)
    → are_regular_externals es ≡ true → file_with objects end es ≡ Ok f → TagsAreComplete f
tags_complete objects end es f c is =
    let before = file_before objects (facts_in es) in
    let is_formed = file_formed objects (facts_in es) in
    behind_all TagsAreComplete f end (externals es before)
    (λ g e h. file_ends objects es g (externals es before) (externals_grow es c before is_formed)
    (externals_do es c nothing_found before is_formed
    (record { have = no_file_tags objects (facts_in es); file = at_start objects (facts_in es) })) e) is
