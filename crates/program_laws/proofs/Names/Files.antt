-- The definitions of a file that is accepted have valid blocks and stand in turn, each at the place that is the number
-- of its function, and names with linkage stand for objects and functions whose types have the sizes of theirs (C99
-- 6.9).
use Rattle.std.proofs.Common.{◌≡◌, ◌⊎◌, inl, inr, ℕ, suc, Bool, true, false, refl, sym, ap, ◌∙◌, subst, List, [], ◌∷◌}
use Rattle.std.proofs.Common.{◌++◌, length, Option, Some, None}
use Rattle.std.specs.Prelude.{Ok, Err}
use Rattle.std.proofs.lemmas.List.{append-nil, append_assoc}
use Rattle.c_syntax.specs.Formed as formed
use Rattle.c_syntax.specs.Statements as t
use Rattle.c_tree.specs.Programs.{StaticObject}
use Rattle.c_facts.specs.Facts.{Found, facts_in, found_in, nothing_found, with_external}
use Rattle.c_facts.specs.Facts as facts
use Rattle.c_faults.specs.Answer.{Answer, ◌>>=◌}
use Rattle.c_scope.specs.Environment.{Facts}
use Rattle.c_scope.specs.Names.{Name, Names, is_empty}
use Rattle.c_unit_typing.specs.Declarations.{declaration}
use Rattle.c_unit_typing.specs.Files.{Definition, File, FileTyping, finished}
use Rattle.c_unit_typing.specs.Units.{definition, external, externals, file_before, file_in, file_with}
use Rattle.typing_laws.specs.Validity.Typed.{HaveMembers}
use Rattle.typing_laws.proofs.Validity.Common.{first, second}
use Rattle.typing_laws.proofs.Declarators.Lists.{added_length}
use Rattle.typing_laws.specs.Scopes.Defined.{define_functions, defines}
use Rattle.typing_laws.specs.Scopes.Leaving.{Growing, Grows}
use Rattle.typing_laws.specs.Scopes.Regular.{are_regular_externals, is_regular_external}
use Rattle.typing_laws.proofs.Scopes.Files.{external_grows, grows_on, grows_same}
use Rattle.typing_laws.proofs.Scopes.Start.{file_members, start_facts}
use Rattle.typing_laws.specs.Types.Typed.{Types}
use Rattle.typing_laws.specs.Layouts.Listed.{IsLaidOut}
use Rattle.typing_laws.proofs.Layouts.Start.{file_laid}
use Rattle.typing_laws.specs.LaidOut.Behind.{IsLaidIf}
use Rattle.typing_laws.proofs.LaidOut.Files.{external_laid}
use Rattle.program_laws.proofs.Files.Definitions.{external_typed}
use Rattle.program_laws.proofs.Files.Ends.{answer, behind_all, same_ok}
use Rattle.program_laws.proofs.Files.Ends as ends
use Rattle.program_laws.proofs.Files.Files.{IfAddsOutside, external_adds}
use Rattle.program_laws.proofs.Files.Files as files
use Rattle.program_laws.proofs.Files.Functions.{start_types}
use Rattle.program_laws.proofs.Files.Spelled.{IfTypes}
use Rattle.program_laws.specs.Bodies.Defined.{DefinesNothing}
use Rattle.program_laws.specs.Bodies.Parameters.{IsOutside}
use Rattle.program_laws.specs.Bodies.Standing.{EntitiesLead}
use Rattle.program_laws.specs.Bodies.Whole.{AreDefinitions, AreInTurn, BeginsWith, IfInTurn, IfWhole}
use Rattle.program_laws.specs.Bodies.Whole.{definition_made}
use Rattle.program_laws.proofs.Bodies.Definitions.{DefinesNamed, IfNamed, definition_named, made_behind}
use Rattle.program_laws.proofs.Bodies.Entities.{entities_on, entities_same}
use Rattle.program_laws.proofs.Bodies.Outside.{IfBeyond, declaration_beyond}
use Rattle.program_laws.proofs.Bodies.Whole.{file_outside}
use Rattle.program_laws.proofs.Functions.Files.{FunctionsOf, IfDefines, external_defines}
use Rattle.program_laws.proofs.Functions.Main.{start_defines}
use Rattle.program_laws.proofs.Functions.Places.{DefinesAt, Kept, defines_at, found_kept}
use Rattle.program_laws.specs.Names.Known.{AreKnown}
use Rattle.program_laws.specs.Names.Linked.{AreFilled}
use Rattle.program_laws.proofs.Names.Definitions.{external_filled}
use Rattle.program_laws.proofs.Names.Filled.{IfFileFilled}
use Rattle.program_laws.proofs.Names.Start.{start_filled}

-- definitions in turn, from one place on

pub record BeginsAt (end : File) (place : ℕ) (d : Definition) (before : List (ℕ × StaticObject)) : Type 0 where
  pub begins : BeginsWith end d before
  pub number : begins.is.defines.number ≡ place
  pub filled : AreFilled begins.is.behind.state.environment
  pub members : HaveMembers begins.is.before.state

abbrev pub StandAt : File → (place : ℕ) → List Definition → (before behind : List (ℕ × StaticObject)) → Type 0
StandAt end place [] before behind = behind ≡ before
StandAt end place (d ∷ ds) before behind =
    (h : BeginsAt end place d before) × StandAt end (suc place) ds h.begins.is.defines.end.statics behind

-- from a file on to one behind the last definition
record IsOn (f end : File) : Type 0 where
  outside : IsOutside end.state
  grows : Grows f end
  entities : EntitiesLead f.state.environment end.state.environment
  rest : List Definition
  is : end.definitions ≡ f.definitions ++ rest
  stand : StandAt end (length f.definitions) rest f.statics end.statics
  filled : AreFilled end.state.environment

abbrev IfOn : {A : Type 0} → File → Answer (File × A) → Type 0
IfOn f (Ok r) = IsOn f r.0
IfOn f (Err e) = Unit {0}

-- one declaration or definition
record Steps (f behind : File) : Type 0 where
  grows : Grows f behind
  entities : EntitiesLead f.state.environment behind.state.environment
  filled : AreFilled behind.state.environment
  outside : IsOutside behind.state
  is : DefinesAt f behind ⊎ DefinesNothing f behind

abbrev IfSteps : {A : Type 0} → File → Answer (File × A) → Type 0
IfSteps f (Ok r) = Steps f r.0
IfSteps f (Err e) = Unit {0}

on_same : (f : File) → IsOutside f.state → AreFilled f.state.environment → IsOn f f
on_same f outside filled = record {
  outside = outside;
  grows = grows_same f outside.formed;
  entities = entities_same f.state.environment f.state.environment refl;
  rest = [];
  is = sym (append-nil f.definitions);
  stand = refl;
  filled = filled;
}

on_on : (f g end : File) → HaveMembers f.state → Steps f g → IsOn g end → IsOn f end
on_on f g end members h on = by h.is
  where
    grown : Grows f end
    grown = grows_on f g end h.grows on.grows

    led : EntitiesLead f.state.environment end.state.environment
    led = entities_on f.state.environment g.state.environment end.state.environment h.entities on.entities

    by : DefinesAt f g ⊎ DefinesNothing f g → IsOn f end
    by (inl d) =
        let made = definition_made f g d.defines in
        let more = made_behind f g d.defines in record {
          outside = on.outside;
          grows = grown;
          entities = led;
          rest = made ∷ on.rest;
          is = on.is ∙ ap (λ z. z ++ on.rest) more ∙ append_assoc f.definitions (made ∷ []) on.rest;
          stand = (
            record {
              begins = record {
                is = record {
                  before = f;
                  behind = g;
                  defines = d.defines;
                  is = refl;
                  grows = on.grows;
                  entities = on.entities;
                };
                statics = d.defines.statics;
              };
              number = d.number;
              filled = h.filled;
              members = members;
            },
            subst (λ z. StandAt end z on.rest d.defines.end.statics end.statics)
                (ap length more ∙ added_length f.definitions made)
                (subst (λ z. StandAt end (length g.definitions) on.rest z end.statics)
                (ap (λ z. z.statics) d.defines.is) on.stand),
          );
          filled = on.filled;
        }
    by (inr same) = record {
      outside = on.outside;
      grows = grown;
      entities = led;
      rest = on.rest;
      is = on.is ∙ ap (λ z. z ++ on.rest) same.definitions;
      stand = subst (λ z. StandAt end (length z) on.rest f.statics end.statics) same.definitions
          (subst (λ z. StandAt end (length g.definitions) on.rest z end.statics) same.statics on.stand);
      filled = on.filled;
    }

-- a definition has the place of its function, a declaration adds nothing

definition_steps : (name : Option Name) (f : File) (x : Facts) → FunctionsOf f x.functions
    → Kept (facts.defined name x).functions f.state.environment.facts.functions → (a : Answer (File × Unit {0}))
    → IfNamed name f a → Growing f a → IfFileFilled a → IfDefines (facts.defined name x).functions a
    → IfSteps f a
definition_steps name f x before kept (Ok r) h grows filled after = record {
  grows = grows;
  entities = h.entities;
  filled = filled;
  outside = h.outside;
  is = by h.is;
}
  where
    by : DefinesNamed name f r.0 ⊎ DefinesNothing f r.0 → DefinesAt f r.0 ⊎ DefinesNothing f r.0
    by (inl d) =
        inl (defines_at name f r.0 d x before after
        (subst (λ z. Kept (facts.defined name x).functions z.functions) (sym grows.facts) kept))
    by (inr same) = inr same
definition_steps name f x before kept (Err e) h grows filled after = tt

declaration_steps : {A : Type 0} (f : File) (a : Answer (File × A)) → IfBeyond f a
    → Growing f (a >>= λ r. finished (tt {0}) r.0) → IfFileFilled (a >>= λ r. finished (tt {0}) r.0)
    → IfSteps f (a >>= λ r. finished (tt {0}) r.0)
declaration_steps f (Ok r) h grows filled = record {
  grows = grows;
  entities = h.entities;
  filled = filled;
  outside = h.outside;
  is = inr (record { definitions = h.definitions; statics = h.statics });
}
declaration_steps f (Err e) h grows filled = tt

-- what is known of a file between two declarations or definitions
record IsReached (f : File) (numbers : Names ℕ) : Type 0 where
  outside : IsOutside f.state
  apart : files.IsOutside f
  laid : IsLaidOut f.state
  types : Types f.state
  functions : FunctionsOf f numbers
  filled : AreFilled f.state.environment
  members : HaveMembers f.state

external_steps : (e : t.External) → is_regular_external e ≡ true → defines e ≡ true → (f : File) (q : Found)
    → IsReached f q.facts.functions
    → Kept (with_external e q).facts.functions f.state.environment.facts.functions → IfSteps f (external e f)
external_steps (t.definition specs d b) c is f q at kept =
    let good = at.outside.formed in
    definition_steps (formed.declared d) f (facts.with_tags specs q).facts at.functions kept (definition specs d b f)
    (definition_named specs d b (first _ _ (first _ _ c)) (second _ _ (first _ _ c)) (second _ _ c) is f at.outside
    at.laid)
    (external_grows (t.definition specs d b) c f good) (external_filled (t.definition specs d b) c f good at.filled)
    (external_defines (t.definition specs d b) c is f q at.functions at.apart at.types)
external_steps (t.declaration d) c is f q at kept =
    declaration_steps f (declaration false d f) (declaration_beyond false d c f at.outside)
    (external_grows (t.declaration d) c f at.outside.formed)
    (external_filled (t.declaration d) c f at.outside.formed at.filled)

from_on : {A : Type 0} (f g : File) → HaveMembers f.state → Steps f g → (a : Answer (File × A)) → IfOn g a → IfOn f a
from_on f g members h (Ok r) is = on_on f g r.0 members h is
from_on f g members h (Err e) is = tt

then_on : {B : Type 0} (f : File) (numbers more : Names ℕ) → IsReached f numbers → (a : Answer (File × Unit {0}))
    (next : Unit {0} → FileTyping B) → IfSteps f a → IsLaidIf a → IfAddsOutside f a → IfTypes a → IfDefines more a
    → ((g : File) → Steps f g → IsReached g more → IfOn g (next tt g)) → IfOn f (a >>= λ r. next r.1 r.0)
then_on f numbers more at (Ok r) next h laid adds types functions k =
    from_on f r.0 at.members h (next r.1 r.0)
    (k r.0 h (record {
      outside = h.outside;
      apart = record {
        formed = h.grows.formed;
        linked = adds.adds.linked;
        file = ap is_empty adds.outer ∙ at.apart.file;
      };
      laid = laid;
      types = types;
      functions = functions;
      filled = h.filled;
      members = h.grows.members at.members;
    }))
then_on f numbers more at (Err e) next h laid adds types functions k = tt

externals_on : (es : List t.External) → are_regular_externals es ≡ true → define_functions es ≡ true → (f : File)
    (q : Found) → IsReached f q.facts.functions
    → f.state.environment.facts.functions ≡ (found_in es q).facts.functions → IfOn f (externals es f)
externals_on [] c d f q at same = on_same f at.outside at.filled
externals_on (e ∷ es) c d f q at same =
    let more = with_external e q in
    let good = at.outside.formed in
    then_on f q.facts.functions more.facts.functions at (external e f) (λ done. externals es)
    (external_steps e (first _ _ c) (first (defines e) (define_functions es) d) f q at
    (subst (Kept more.facts.functions) (sym same) (found_kept es more)))
    (external_laid e (first _ _ c) f good at.laid) (external_adds e (first _ _ c) f at.apart)
    (external_typed e (first _ _ c) (first (defines e) (define_functions es) d) f good at.types)
    (external_defines e (first _ _ c) (first (defines e) (define_functions es) d) f q at.functions at.apart at.types)
    (λ g h there. externals_on es (second _ _ c) (second (defines e) (define_functions es) d) g more there
    (ap (λ z. z.functions) h.grows.facts ∙ same))

-- a file that is accepted

known_all : (end : File) (place : ℕ) (ds : List Definition) (before behind : List (ℕ × StaticObject))
    → StandAt end place ds before behind → AreKnown end ds
known_all end place [] before behind h = tt
known_all end place (d ∷ ds) before behind h = (
  record { definition = h.0.begins.is; filled = h.0.filled; members = h.0.members },
  known_all end (suc place) ds h.0.begins.is.defines.end.statics behind h.1,
)

pub record IsKnownFile (f : File) : Type 0 where
  pub outside : IsOutside f.state
  pub filled : AreFilled f.state.environment
  pub stand : StandAt f 0 f.definitions [] f.statics
  pub known : AreKnown f f.definitions

known_by : (objects : Option (List (List Bool))) (facts : Facts) (g : File) (a : Answer (File × Unit {0}))
    → IfOn (file_before objects facts) a → a ≡ answer (g, tt) → IsKnownFile g
known_by objects facts g (Ok r) h e =
    let stand = subst (λ ds. StandAt r.0 0 ds [] r.0.statics) (sym h.is) h.stand in
    subst IsKnownFile (ap (λ z. z.0) (same_ok r (g, tt) e)) (record {
      outside = h.outside;
      filled = h.filled;
      stand = stand;
      known = known_all r.0 0 r.0.definitions [] r.0.statics stand;
    })
known_by objects facts g (Err x) h e = absurd cc

before_reached : (objects : Option (List (List Bool))) (facts : Facts) → IsReached (file_before objects facts) []
before_reached objects facts = record {
  outside = file_outside objects facts;
  apart = ends.file_outside objects facts;
  laid = file_laid objects facts;
  types = start_types facts;
  functions = start_defines objects facts;
  filled = start_filled facts;
  members = file_members objects facts;
}

pub file_known : (objects : Option (List (List Bool))) (end : ℕ) (es : List t.External) (f : File)
    → are_regular_externals es ≡ true → define_functions es ≡ true → file_with objects end es ≡ Ok f → IsKnownFile f
file_known objects end es f c d is =
    let all = facts_in es in
    let before = file_before objects all in
    behind_all IsKnownFile f end (externals es before)
    (λ g e ended. known_by objects all g (externals es before)
    (externals_on es c d before nothing_found (before_reached objects all)
    (ap (λ z. z.functions) (start_facts all))) e) is

-- its definitions stand in turn, and each has a valid block

in_turn : (end : File) (place : ℕ) (ds : List Definition) (before behind : List (ℕ × StaticObject))
    → StandAt end place ds before behind → AreInTurn end ds before behind
in_turn end place [] before behind h = h
in_turn end place (d ∷ ds) before behind h =
    (h.0.begins, in_turn end (suc place) ds h.0.begins.is.defines.end.statics behind h.1)

definitions_in_turn : (end : File) (ds : List Definition) (before behind : List (ℕ × StaticObject))
    → AreInTurn end ds before behind → AreDefinitions end ds
definitions_in_turn end [] before behind h = tt
definitions_in_turn end (d ∷ ds) before behind h =
    (h.0.is, definitions_in_turn end ds h.0.is.defines.end.statics behind h.1)

module _ (end : ℕ) (es : List t.External) (c : are_regular_externals es ≡ true) (d : define_functions es ≡ true) where
  turn_by : (objects : Option (List (List Bool))) (a : Answer File) → file_with objects end es ≡ a → IfInTurn a
  turn_by objects (Ok f) is =
      let h = file_known objects end es f c d is in (h.outside, in_turn f 0 f.definitions [] f.statics h.stand)
  turn_by objects (Err e) is = tt

  twice : (a : Answer File) → IfInTurn (a >>= λ f. file_with (Some f.taken) end es)
  twice (Ok f) = turn_by (Some f.taken) (file_with (Some f.taken) end es) refl
  twice (Err e) = tt

  pub file_in_turn : IfInTurn (file_in end es)
  file_in_turn = twice (file_with None end es)

  whole_by : (a : Answer File) → IfInTurn a → IfWhole a
  whole_by (Ok f) h = (h.0, definitions_in_turn f f.definitions [] f.statics h.1)
  whole_by (Err e) h = tt

  pub file_whole : IfWhole (file_in end es)
  file_whole = whole_by (file_in end es) file_in_turn
