-- In a file that is accepted each object with linkage has the size of an object (C99 6.9.2).
use Rattle.std.proofs.Common.{◌≡◌, ◌⊎◌, inl, inr, ℕ, Bool, true, false, refl, sym, ap, ◌∙◌, subst, List, []}
use Rattle.std.proofs.Common.{◌∷◌, Option, Some, None}
use Rattle.std.specs.Prelude.{Ok, Err, codes}
use Rattle.c_syntax.specs.Formed as syntax
use Rattle.c_syntax.specs.Statements as t
use Rattle.c_tree.specs.declared.c_type.TypeWord.{TypeWord}
use Rattle.c_tree.specs.declared.expression.Routine.{Routine}
use Rattle.c_tree.specs.declared.expression.Routine.TheVariants as routine
use Rattle.c_tree.specs.Kinds.{has_size}
use Rattle.c_tree.specs.Routines.{routine_words}
use Rattle.c_facts.specs.Facts.{Found, facts_in, found_in, nothing_found, with_external}
use Rattle.c_facts.specs.Facts as facts
use Rattle.c_faults.specs.Answer.{Answer, ◌>>=◌}
use Rattle.c_scope.specs.declared.meaning.Designated.{Designated}
use Rattle.c_scope.specs.declared.meaning.Designated.TheVariants as what
use Rattle.c_scope.specs.declared.meaning.Entity.{Entity}
use Rattle.c_scope.specs.declared.meaning.LibraryFunction.{LibraryFunction}
use Rattle.c_scope.specs.declared.meaning.LibraryFunction.TheVariants as library
use Rattle.c_scope.specs.Environment.{Environment, Facts, in_file}
use Rattle.c_scope.specs.Library.{name_of, routines}
use Rattle.c_scope.specs.Names.{Name, Names, bound, declared}
use Rattle.c_scope.specs.Start.{empty, start, with_library, with_routine, with_routines}
use Rattle.c_typing_state.specs.State.{extents}
use Rattle.c_unit_typing.specs.Declarations.{declaration, kind_in}
use Rattle.c_unit_typing.specs.Files.{File, FileTyping, finished}
use Rattle.c_unit_typing.specs.Programs.{final_type}
use Rattle.c_unit_typing.specs.Units.{external, externals, file_before, file_with}
use Rattle.typing_laws.specs.Validity.Sound.{IsFormed, is_sized_array}
use Rattle.typing_laws.proofs.Validity.Common.{first, second, the_same}
use Rattle.typing_laws.proofs.Common.{conflict}
use Rattle.program_laws.proofs.Files.Ends.{answer, behind_all, same_ok}
use Rattle.program_laws.proofs.Functions.Entities.{bound_either}
use Rattle.program_laws.specs.Functions.Entities.{is_library}
use Rattle.typing_laws.specs.Layouts.Listed.{IsLaidOut}
use Rattle.typing_laws.proofs.Layouts.Start.{file_laid}
use Rattle.typing_laws.specs.LaidOut.Behind.{IsLaidIf}
use Rattle.typing_laws.proofs.LaidOut.Files.{external_laid}
use Rattle.typing_laws.specs.Scopes.Leaving.{Growing}
use Rattle.typing_laws.specs.Scopes.Regular.{are_regular_externals, is_regular_external}
use Rattle.typing_laws.proofs.Scopes.Files.{external_grows, externals_grow}
use Rattle.typing_laws.proofs.Scopes.Start.{file_formed, start_facts}
use Rattle.program_laws.specs.Sizes.Tags.{TagsAreComplete}
use Rattle.program_laws.proofs.Sizes.Declarations.{IfFileSteps, declaration_steps}
use Rattle.program_laws.proofs.Sizes.Definitions.{IfDefinitionSteps, definition_steps}
use Rattle.program_laws.proofs.Sizes.Found.{IfAll, declaration_all}
use Rattle.program_laws.proofs.Sizes.Steps.{AreEnding, IsEnding, IsOfFile, all_behind}
use Rattle.program_laws.proofs.Sizes.Types.{EndsComplete, final_sized}

-- where a file begins

routine_sized : (r : Routine) → is_sized_array (routine_words r) ≡ true
unfolding routine_words
routine_sized routine.Malloc = refl
routine_sized routine.Calloc = refl
routine_sized routine.Free = refl
routine_sized routine.Realloc = refl
routine_sized routine.Memcpy = refl
routine_sized routine.Memmove = refl
routine_sized routine.Memset = refl
routine_sized routine.Memcmp = refl
routine_sized routine.Strlen = refl
routine_sized routine.Strcmp = refl
routine_sized routine.Strcpy = refl
routine_sized routine.Strncpy = refl
routine_sized routine.Strcat = refl
routine_sized routine.Strchr = refl
routine_sized routine.Putchar = refl
routine_sized routine.Getchar = refl
routine_sized routine.Puts = refl
routine_sized routine.Exit = refl
routine_sized routine.Abort = refl

record IsOfLibrary (x : Entity) : Type 0 where
  library : is_library x.what ≡ true
  sized : is_sized_array x.c_type ≡ true

record AreOfLibrary (env : Environment) : Type 0 where
  each : (name : Name) (x : Entity) → declared name env.entities ≡ Some x → IsOfLibrary x

library_more : (name : Name) (f : LibraryFunction) (type : List TypeWord) → is_sized_array type ≡ true
    → (env : Environment) → AreOfLibrary env → AreOfLibrary (with_library name f type env)
library_more name f type sized env h = record {
  each = λ other x there. by other x there (bound_either other name entity env.entities);
}
  where
    entity : Entity
    entity = record { what = what.Library f; c_type = type; is_defined = true; is_tentative = false }

    by : (other : Name) (x : Entity) → declared other (bound name entity env.entities) ≡ Some x
        → (declared other (bound name entity env.entities) ≡ declared other env.entities)
        ⊎ ((other ≡ name) × (declared other (bound name entity env.entities) ≡ Some entity)) → IsOfLibrary x
    by other x there (inl g) = h.each other x (sym g ∙ there)
    by other x there (inr g) =
        subst IsOfLibrary (the_same (sym g.1 ∙ there)) (record { library = refl; sized = sized })

routines_more : (rs : List Routine) (env : Environment) → AreOfLibrary env → AreOfLibrary (with_routines rs env)
routines_more [] env h = h
routines_more (r ∷ rs) env h =
    routines_more rs (with_routine r env)
    (library_more (name_of r) (library.Routine r) (routine_words r) (routine_sized r) env h)

start_library : (facts : Facts) → AreOfLibrary (start facts)
unfolding start
start_library facts =
    let env = with_routines routines (empty facts) in
    let printf = library_more (codes "printf") library.Printf [] refl env
    (routines_more routines (empty facts) (record { each = λ name x e. absurd cc })) in
    record { each = λ name x there. printf.each name x there }

start_place : (facts : Facts) → in_file (start facts) ≡ true
unfolding start
start_place facts = refl

no_library : (d : Designated) (n : ℕ) (P : Type 0) → is_library d ≡ true → d ≡ what.Object n → P
no_library d n P e g = conflict (ap is_library (sym g) ∙ e)

start_ending : (facts : Facts) → AreEnding [] (start facts)
start_ending facts =
    let h = start_library facts in
    record {
      found = λ name e. absurd cc;
      each = λ name x n there w. no_library x.what n _ (h.each name x there).library w;
      sound = record {
        each = λ name x there. record {
          sized = (h.each name x there).sized;
          object = λ n w. no_library x.what n _ (h.each name x there).library w;
        };
      };
    }

-- declarations and definitions one behind the other

declared_on : {A : Type 0} (f : File) (a : Answer (File × A)) → IfFileSteps f a
    → IfDefinitionSteps f (a >>= λ r. finished (tt {0}) r.0)
declared_on f (Ok r) h = h.steps
declared_on f (Err e) h = tt

external_steps : (e : t.External) → is_regular_external e ≡ true → (f : File) → IsFormed f.state → IsLaidOut f.state
    → IfDefinitionSteps f (external e f)
external_steps (t.definition specs d b) c f formed laid = definition_steps specs d b c f formed laid
external_steps (t.declaration d) c f formed laid =
    declared_on f (declaration false d f) (declaration_steps false d c f formed laid)

defined_objects : (o : Option Name) (x : Facts) → (facts.defined o x).objects ≡ x.objects
defined_objects None x = refl
defined_objects (Some name) x = refl

definition_by : {A : Type 0} (objects : Names Bool) (f : File) (a : Answer (File × A)) → IfDefinitionSteps f a
    → AreEnding objects f.state.environment → IfAll objects a
definition_by objects f (Ok r) h is = all_behind objects f.state.environment r.0.state.environment h is
definition_by objects f (Err e) h is = tt

declaration_by : {A : Type 0} (objects : Names Bool) (a : Answer (File × A)) → IfAll objects a
    → IfAll objects (a >>= λ r. finished (tt {0}) r.0)
declaration_by objects (Ok r) h = h
declaration_by objects (Err e) h = tt

external_all : (e : t.External) → is_regular_external e ≡ true → (f : File) → IsFormed f.state → IsLaidOut f.state
    → in_file f.state.environment ≡ true → (q : Found) → AreEnding q.facts.objects f.state.environment
    → IfAll (with_external e q).facts.objects (external e f)
external_all (t.definition specs d b) c f formed laid file q is =
    subst (λ z. IfAll z (external (t.definition specs d b) f))
    (sym (defined_objects (syntax.declared d) (facts.with_tags specs q).facts))
    (definition_by q.facts.objects f (external (t.definition specs d b) f) (definition_steps specs d b c f formed laid)
    is)
external_all (t.declaration d) c f formed laid file q is =
    declaration_by (facts.with_declaration d q).facts.objects (declaration false d f)
    (declaration_all d c f formed laid file q is)

then_all : (objects more : Names Bool) (f : File) → in_file f.state.environment ≡ true → (a : Answer (File × Unit {0}))
    (next : Unit {0} → FileTyping (Unit {0})) → Growing f a → IsLaidIf a → IfDefinitionSteps f a → IfAll objects a
    → ((x : Unit {0}) (g : File) → IsFormed g.state → IsLaidOut g.state → in_file g.state.environment ≡ true
    → g.state.environment.facts ≡ f.state.environment.facts → AreEnding objects g.state.environment
    → IfAll more (next x g))
    → IfAll more (a >>= λ r. next r.1 r.0)
then_all objects more f file (Ok r) next grows laid h is k =
    k r.1 r.0 grows.formed laid (h.place ∙ file) grows.facts is
then_all objects more f file (Err e) next grows laid h is k = tt

externals_all : (es : List t.External) → are_regular_externals es ≡ true → (f : File) → IsFormed f.state
    → IsLaidOut f.state → in_file f.state.environment ≡ true → (q : Found)
    → AreEnding q.facts.objects f.state.environment → IfAll (found_in es q).facts.objects (externals es f)
externals_all [] c f formed laid file q is = is
externals_all (e ∷ es) c f formed laid file q is =
    then_all (with_external e q).facts.objects (found_in (e ∷ es) q).facts.objects f file (external e f)
    (λ done. externals es) (external_grows e (first _ _ c) f formed) (external_laid e (first _ _ c) f formed laid)
    (external_steps e (first _ _ c) f formed laid) (external_all e (first _ _ c) f formed laid file q is)
    (λ done g h laid file same is. externals_all es (second _ _ c) g h laid file (with_external e q) is)

-- a file that is accepted

abbrev HasSizes : File → Type 0
HasSizes f =
    TagsAreComplete f → (name : Name) (x : Entity) (n : ℕ) → declared name f.state.environment.entities ≡ Some x
    → x.what ≡ what.Object n → has_size (kind_in f.state (final_type (extents f.state) x.c_type)) ≡ true

module _ (es : List t.External) (g : File) (formed : IsFormed g.state)
    (facts_are : g.state.environment.facts ≡ facts_in es)
    (is : AreEnding (facts_in es).objects g.state.environment) where
  abbrev env : Environment
  env = g.state.environment

  found_ends : (name : Name) (x : Entity) (n : ℕ) → declared name env.entities ≡ Some x → x.what ≡ what.Object n
      → IsEnding env name → EndsComplete env.facts env.structures x.c_type
  found_ends name x n there w h =
      let same = the_same (sym h.there ∙ there) in
      subst (λ z. EndsComplete env.facts env.structures z.c_type) same
      (h.complete n (ap (λ z. z.what) same ∙ w))

  ends_by : (name : Name) (x : Entity) (n : ℕ) → declared name env.entities ≡ Some x → x.what ≡ what.Object n
      → IsOfFile env.facts name ⊎ EndsComplete env.facts env.structures x.c_type
      → EndsComplete env.facts env.structures x.c_type
  ends_by name x n there w (inl e) =
      found_ends name x n there w (is.found name (subst (λ z. IsOfFile z name) facts_are e))
  ends_by name x n there w (inr e) = e

  sizes_by : HasSizes g
  sizes_by tags name x n there w =
      final_sized g formed tags x.c_type (is.sound.each name x there).sized
      (ends_by name x n there w (is.each name x n there w))

known_by : (es : List t.External) (objects : Option (List (List Bool))) (g : File) (a : Answer (File × Unit {0}))
    → Growing (file_before objects (facts_in es)) a → IfAll (facts_in es).objects a → a ≡ answer (g, tt) → HasSizes g
known_by es objects g (Ok r) h is e =
    subst HasSizes (ap (λ z. z.0) (same_ok r (g, tt) e))
    (sizes_by es r.0 h.formed (h.facts ∙ start_facts (facts_in es)) is)
known_by es objects g (Err x) h is e = absurd cc

pub file_sizes : (objects : Option (List (List Bool))) (end : ℕ) (es : List t.External) (f : File)
    → are_regular_externals es ≡ true → file_with objects end es ≡ Ok f → HasSizes f
file_sizes objects end es f c is =
    let before = file_before objects (facts_in es) in
    behind_all HasSizes f end (externals es before)
    (λ g e ended. known_by es objects g (externals es before)
    (externals_grow es c before (file_formed objects (facts_in es)))
    (externals_all es c before (file_formed objects (facts_in es)) (file_laid objects (facts_in es))
    (start_place (facts_in es)) nothing_found (start_ending (facts_in es))) e) is
