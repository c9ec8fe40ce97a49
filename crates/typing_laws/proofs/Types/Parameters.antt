-- Parameters have types that are spelled, and kinds where the function is defined (C99 6.7.5.3 paragraph 4).
use Rattle.std.proofs.Common.{◌≡◌, ℕ, Bool, true, false, ◌&&◌, ◌||◌, refl, sym, subst, List, [], ◌∷◌}
use Rattle.std.proofs.Common.{Option, Some, None, if◌then◌else◌}
use Rattle.std.proofs.lemmas.Bool.{not-true}
use Rattle.std.specs.Prelude.{Ok, Err, not, is_some}
use Rattle.c_tree.specs.declared.c_type.TypeWord.{TypeWord}
use Rattle.c_tree.specs.declared.c_type.TypeWord.TheVariants as word
use Rattle.c_tree.specs.Extents.{extent_of, structure_extent}
use Rattle.c_tree.specs.TypesAgree.{kind_of_type}
use Rattle.c_faults.specs.declared.fault.Rule.{Rule}
use Rattle.c_faults.specs.declared.fault.Rule.TheVariants as rule
use Rattle.c_faults.specs.Answer.{Answer, violates, ◌>>=◌}
use Rattle.c_rules.specs.Types.{unqualified}
use Rattle.c_declarators.specs.declared.faults.TypeFaults.{TypeFaults}
use Rattle.c_declarators.specs.Adjusted.{adjusted}
use Rattle.c_declarators.specs.Derivations.{BuiltType, is_array}
use Rattle.c_declarators.specs.Faults.{rule_of}
use Rattle.c_scope.specs.Declaring.{Declaration, Surroundings, is_complete, is_extern, is_function, is_incomplete}
use Rattle.c_scope.specs.Declaring.{is_misplaced as is_misplaced_storage, is_redeclared, is_tentative, is_typedef}
use Rattle.c_scope.specs.Declaring.{is_undefined, is_wrongly_initialized, judged as judged_declarator}
use Rattle.c_scope.specs.Environment.{in_file, surroundings, with_declarator}
use Rattle.c_scope.specs.Names.{Name}
use Rattle.c_declarator_typing.specs.Declarators.{Shape, built_in, declaring, is_misplaced, is_void, nameless_parameter}
use Rattle.c_declarator_typing.specs.Declarators.{not_for_parameter, parameter, parameter_built, parameter_declaration}
use Rattle.c_declarator_typing.specs.Declarators.{rule_or_storage, type_named, unless, has_storage}
use Rattle.c_declarator_typing.specs.Specifications.{Specification}
use Rattle.c_typing_state.specs.State.{State, extents}
use Rattle.typing_laws.proofs.Validity.Common.{first as left_true, neither_right as second_false, second as right}
use Rattle.typing_laws.proofs.Validity.Common.{neither_left}
use Rattle.typing_laws.proofs.Validity.Sound.{IfAnswer}
use Rattle.typing_laws.specs.Validity.Steps.{Structures}
use Rattle.typing_laws.proofs.Declarators.Parameters.{behind, no_function, plain_by, within}
use Rattle.typing_laws.proofs.Declarators.Types.{NoFaults, without_faults}
use Rattle.typing_laws.proofs.SpelledTypes.Words.{unqualified_spelled}
use Rattle.typing_laws.specs.Types.Typed.{AreNamed, IsSpelled, OfShape, OfSpecification, Typed}
use Rattle.typing_laws.specs.Types.Typed.{Types}
use Rattle.typing_laws.proofs.Types.Built.{adjusted_spelled, built_spelled}
use Rattle.typing_laws.proofs.Types.Kept.{each_append, each_around, each_innermost}
use Rattle.typing_laws.proofs.Types.States.{declarator_extents, declarator_types}
use Rattle.typing_laws.proofs.Declarations.Judged.{complete_by, first_false}
use Rattle.typing_laws.proofs.Types.Calls.{kind_by}
use Rattle.typing_laws.proofs.Common.{passed, passed_some}

-- the scope of a list of parameters

pub within_types : (s : State) → Types s → Types (within s)
within_types s h = record {
  outer = each_append (AreNamed (extents s)) s.environment.names.outer (s.environment.names.current ∷ []) h.outer
      (h.current, tt);
  current = tt;
  members = h.members;
  entities = h.entities;
  functions = h.functions;
  different = h.different;
}

pub behind_types : (before : ℕ) (t : State) → Types t → Types (behind before t)
behind_types before t h = record {
  outer = each_around (AreNamed (extents t)) t.environment.names.outer h.outer;
  current = each_innermost (AreNamed (extents t)) [] t.environment.names.outer tt h.outer;
  members = h.members;
  entities = h.entities;
  functions = h.functions;
  different = h.different;
}

-- rules that are not violated

-- a declarator that violates no rule
pub record IsJudged (s : Surroundings) (d : Declaration) : Type 0 where
  pub placed : is_misplaced_storage s.in_file (is_function d.type) d.storage ≡ false
  pub new : is_redeclared s d ≡ false
  pub complete : is_incomplete s d ≡ false
  pub faultless : d.type_rule ≡ None
  pub defined : is_undefined s d ≡ false
  pub initialized : is_wrongly_initialized d ≡ false

pub judged_known : (s : Surroundings) (d : Declaration) (x : Unit {0}) → judged_declarator s d ≡ Ok x → IsJudged s d
unfolding judged_declarator
judged_known s d x e =
    let a = passed (is_misplaced_storage s.in_file (is_function d.type) d.storage) rule.MisplacedStorage
    d.specifiers_line _ x e in
    let b = passed (is_redeclared s d) rule.Redeclared d.line _ x a.1 in
    let c = passed (is_incomplete s d) rule.Incomplete d.line _ x b.1 in
    let f = passed_some d.type_rule d.line _ x c.1 in
    let g = passed (is_undefined s d) rule.MisplacedStorage d.line _ x f.1 in
    let h = passed (is_wrongly_initialized d) rule.MisplacedStorage d.initializer_line _ x g.1 in
    record { placed = a.0; new = b.0; complete = c.0; faultless = f.0; defined = g.0; initialized = h.0 }

-- types that are named

nameless_by : {A : Type 0} (p : A → Type 0) (line : ℕ) (f : TypeFaults) (is : Bool) (x : A) (r : Option Rule)
    → rule_of f ≡ r → (NoFaults f → p x) → IfAnswer p (unless (rule_or_storage r is) line x)
nameless_by p line f is x (Some r) e h = tt
nameless_by p line f true x None e h = tt
nameless_by p line f false x None e h = h (without_faults f e)

built_type : (es : Structures) (s : State) (spec : Specification) (sh : Shape) → OfSpecification (extents s) spec
    → OfShape (extents s) sh → NoFaults (built_in s spec sh).faults
    → IsSpelled (extents s) (built_in s spec sh).type
built_type es s spec sh h is good = built_spelled (extents s) spec.type h sh.derivations is.derived good

pub type_named_spelled : (s : State) (spec : Specification) (sh : Shape) → OfSpecification (extents s) spec
    → OfShape (extents s) sh → IfAnswer (IsSpelled (extents s)) (type_named spec sh s)
type_named_spelled s spec sh h is =
    nameless_by (IsSpelled (extents s)) spec.line (built_in s spec sh).faults (has_storage spec.storage)
    (built_in s spec sh).type (rule_of (built_in s spec sh).faults) refl (built_type (extents s) s spec sh h is)

-- parameters

abbrev pub IsKinded : Structures → List TypeWord → Type 0
IsKinded es type = is_some (kind_of_type es type) ≡ true

-- a parameter with a name, where the function is defined, has a kind
abbrev pub OfParameter : (defined : Bool) → Structures → List TypeWord → Type 0
OfParameter defined es type = IsSpelled es type × (defined ≡ true → IsKinded es type)

extent_kinded : (es : Structures) (ws : List TypeWord) → IsSpelled es ws → is_array ws ≡ false
    → is_some (extent_of es ws) ≡ true → IsKinded es (unqualified ws)
unfolding extent_of
extent_kinded es [] s a e = absurd cc
extent_kinded es (word.Structure n ∷ ws) s a e = kind_by (structure_extent es n) e
extent_kinded es (word.Const ∷ ws) s a e =
    extent_kinded es ws (right (not (is_array ws)) _ s) (not-true (is_array ws) (left_true (not (is_array ws)) _ s)) e
extent_kinded es (word.Void ∷ ws) s a e = absurd cc
extent_kinded es (word.Integer t ∷ ws) s a e = refl
extent_kinded es (word.Enumeration n ∷ ws) s a e = refl
extent_kinded es (word.Pointer ∷ ws) s a e = refl
extent_kinded es (word.Array c b ∷ ws) s a e = absurd cc
extent_kinded es (word.OpenArray ∷ ws) s a e = absurd cc
extent_kinded es (word.Takes ∷ ws) s a e = absurd cc
extent_kinded es (word.Gives ∷ ws) s a e = absurd cc

no_array : (type : List TypeWord) → is_array (adjusted type) ≡ false
no_array [] = refl
no_array (word.Void ∷ ws) = refl
no_array (word.Integer t ∷ ws) = refl
no_array (word.Enumeration n ∷ ws) = refl
no_array (word.Pointer ∷ ws) = refl
no_array (word.Array count bytes ∷ ws) = refl
no_array (word.OpenArray ∷ ws) = refl
no_array (word.Structure n ∷ ws) = refl
no_array (word.Const ∷ ws) = refl
no_array (word.Takes ∷ ws) = refl
no_array (word.Gives ∷ ws) = refl

no_longer : (a b : Bool) → a ≡ true → (not a && b) ≡ false
no_longer true b e = refl
no_longer false b e = absurd cc

module _ (s : State) (types : Types s) (inner : in_file s.environment ≡ false) (in_definition : Bool)
    (spec : Specification) (b : BuiltType) (built : NoFaults b.faults → IsSpelled (extents s) b.type) where
  parameter_by : (name : Name × ℕ) → is_misplaced spec ≡ false → (a : Answer (Unit {0}))
      → judged_declarator (surroundings s.environment (parameter_declaration in_definition spec b name))
      (parameter_declaration in_definition spec b name) ≡ a
      → Typed (OfParameter in_definition)
      (a >>= (λ done. Ok (with_declarator s.environment (parameter_declaration in_definition spec b name)))
      >>= λ env. Ok (record s { environment = env }, unqualified (adjusted b.type)))
  parameter_by name e (Err f) is = tt
  parameter_by name e (Ok x) is =
      let d = parameter_declaration in_definition spec b name in
      let known = judged_known (surroundings s.environment d) d x is in
      let spelled = adjusted_spelled (extents s) b.type (built (without_faults b.faults known.faultless)) in
      let t = record s { environment = with_declarator s.environment d } in
      let plain = plain_by spec.storage (second_false spec.has_two_storages (not_for_parameter spec.storage) e) in
      let same = declarator_extents s d in (
        declarator_types s d types spelled,
        (
          subst (λ es. IsSpelled es (unqualified (adjusted b.type))) (sym same)
              (unqualified_spelled (extents s) 0 (adjusted b.type) spelled),
          λ defined. subst (λ es. IsKinded es (unqualified (adjusted b.type))) (sym same)
              (extent_kinded (extents s) (adjusted b.type) spelled (no_array b.type)
              (complete_by (is_typedef spec.storage) (is_function (adjusted b.type)) (is_extern spec.storage)
              (not in_definition && not (is_void b.type)) (is_tentative (in_file s.environment) d)
              (surroundings s.environment d).is_completed (is_complete (extents s) d) plain.no_typedef
              (no_function b.type) plain.no_extern (no_longer in_definition (not (is_void b.type)) defined)
              (first_false (in_file s.environment) (not (is_typedef d.storage)) (not (is_function d.type))
              (not d.has_initializer) (not (is_extern d.storage)) inner) known.complete)),
        ),
      )

  named_by : (name : Name × ℕ) (is : Bool) → is_misplaced spec ≡ is
      → Typed (OfParameter in_definition)
      (if is then violates rule.MisplacedStorage spec.line
      else declaring (unqualified (adjusted b.type)) (parameter_declaration in_definition spec b name) s)
  named_by name true e = tt
  named_by name false e =
      parameter_by name e
      (judged_declarator (surroundings s.environment (parameter_declaration in_definition spec b name))
      (parameter_declaration in_definition spec b name)) refl

  nameless_spelled : IfAnswer (IsSpelled (extents s)) (nameless_parameter spec b)
  nameless_spelled =
      let faults = record b.faults { incomplete = b.faults.incomplete || is_void b.type } in
      nameless_by (IsSpelled (extents s)) spec.line faults (is_misplaced spec) (unqualified (adjusted b.type))
      (rule_of faults) refl
      (λ good. unqualified_spelled (extents s) 0 (adjusted b.type)
      (adjusted_spelled (extents s) b.type
      (built (record {
        complete = neither_left b.faults.incomplete (is_void b.type) good.complete;
        placed = good.placed;
        counted = good.counted;
        small = good.small;
      }))))

-- a parameter; where the function is defined it has a name
abbrev pub GivesParameter : (defined named : Bool) → Structures → List TypeWord → Type 0
GivesParameter defined named es type = IsSpelled es type × (defined ≡ true → named ≡ true → IsKinded es type)

unnamed_by : (in_definition : Bool) (s : State) → Types s → (a : Answer (List TypeWord))
    → IfAnswer (IsSpelled (extents s)) a
    → Typed (GivesParameter in_definition false) (a >>= λ x. Ok (s, x))
unnamed_by in_definition s types (Ok x) h = (types, (h, λ e g. absurd cc))
unnamed_by in_definition s types (Err f) h = tt

named_weaker : (defined : Bool) (a : Answer (State × List TypeWord)) → Typed (OfParameter defined) a
    → Typed (GivesParameter defined true) a
named_weaker defined (Ok r) h = (h.0, (h.1.0, λ e g. h.1.1 e))
named_weaker defined (Err f) h = tt

built_parameter : (s : State) → Types s → in_file s.environment ≡ false → (in_definition : Bool)
    (spec : Specification) (b : BuiltType) → (NoFaults b.faults → IsSpelled (extents s) b.type)
    → (name : Option (Name × ℕ))
    → Typed (GivesParameter in_definition (is_some name)) (parameter_built in_definition spec b name s)
built_parameter s types inner in_definition spec b h None =
    unnamed_by in_definition s types (nameless_parameter spec b)
    (nameless_spelled s types inner in_definition spec b h)
built_parameter s types inner in_definition spec b h (Some name) =
    named_weaker in_definition (parameter_built in_definition spec b (Some name) s)
    (named_by s types inner in_definition spec b h name (is_misplaced spec) refl)

pub parameter_typed : (s : State) → Types s → in_file s.environment ≡ false → (in_definition : Bool)
    (spec : Specification) → OfSpecification (extents s) spec → (sh : Shape) → OfShape (extents s) sh
    → Typed (GivesParameter in_definition (is_some sh.name)) (parameter in_definition spec sh s)
parameter_typed s types inner in_definition spec h sh is =
    built_parameter s types inner in_definition spec (built_in s spec sh) (built_type (extents s) s spec sh h is)
    sh.name
