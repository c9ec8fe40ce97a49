-- The types of a function type are those of the parameters that it is defined with (C99 6.9.1).
use Rattle.std.proofs.Common.{◌≡◌, ℕ, Bool, true, false, ◌&&◌, refl, sym, ap, ◌∙◌, subst, List, [], ◌∷◌, ◌++◌}
use Rattle.std.proofs.Common.{Option, Some, None, if◌then◌else◌}
use Rattle.std.specs.Prelude.{Ok, Err, is_some}
use Rattle.std.proofs.lemmas.Bool.{false≢true, true≢false}
use Rattle.std.proofs.lemmas.List.{append-nil}
use Rattle.c_syntax.specs.Formed.{are_named_parameters, defines_function, has_named_parameters}
use Rattle.c_syntax.specs.Formed.{is_named_parameter, is_plain_name}
use Rattle.c_syntax.specs.Tree.{Declarator, MoreParameters, Parameters, TypedDeclarator}
use Rattle.c_syntax.specs.Tree as t
use Rattle.c_tree.specs.declared.c_type.TypeWord.{TypeWord}
use Rattle.c_faults.specs.declared.fault.Rule.TheVariants as rule
use Rattle.c_faults.specs.Answer.{Answer, violates, ◌>>=◌}
use Rattle.c_rules.specs.Types.{unqualified}
use Rattle.c_rules.specs.Values.{Value}
use Rattle.c_declarators.specs.Adjusted.{adjusted}
use Rattle.c_declarators.specs.Derivations.{BuiltType, Derivation, to_array, to_function, to_open_array, to_pointer}
use Rattle.c_scope.specs.declared.meaning.Designated.TheVariants as what
use Rattle.c_scope.specs.declared.meaning.Meaning.{Meaning}
use Rattle.c_scope.specs.declared.meaning.Meaning.TheVariants as meaning
use Rattle.c_scope.specs.declared.meaning.Storage.{Storage}
use Rattle.c_scope.specs.declared.meaning.Storage.TheVariants as storage
use Rattle.c_scope.specs.Declaring.{Declaration, has_linkage, is_extern, is_function, is_typedef}
use Rattle.c_scope.specs.Declaring.{judged as judged_declarator}
use Rattle.c_scope.specs.Environment.{in_file, linked, surroundings, with_declarator, without_linkage}
use Rattle.c_scope.specs.Names.{Name, Names, declared, is_empty}
use Rattle.c_scope.specs.Parameters.{ParameterScope, parameters_in}
use Rattle.c_declarator_typing.specs.Declarators.{Shape, built_in, declaring, is_misplaced as misplaced, is_nothing}
use Rattle.c_declarator_typing.specs.Declarators.{not_for_parameter, parameter, parameter_built, parameter_declaration}
use Rattle.c_declarator_typing.specs.Declarators.{scope_left, scope_opened, with_derivation, with_function}
use Rattle.c_declarator_typing.specs.Sizes.{count_in}
use Rattle.c_declarator_typing.specs.Specifications.{Specification}
use Rattle.c_typing_state.specs.State.{State, Typing, done, ◌>>>◌}
use Rattle.c_expression_typing.specs.Constructs.{has_words, valued}
use Rattle.c_expression_typing.specs.Typed.{more_types, parameter_type, parameter_types, shape, specification, typed}
use Rattle.typing_laws.specs.Validity.Regular.{are_regular_parameters, is_regular_declarator, is_regular_name}
use Rattle.typing_laws.specs.Validity.Regular.{more_are_regular_parameters}
use Rattle.typing_laws.specs.Validity.Sound.{IsFormed}
use Rattle.typing_laws.proofs.Validity.Common.{first, neither_right, second}
use Rattle.typing_laws.specs.Declarators.Extending.{AreEnumerators, Extending, Extends, IsEnumerator}
use Rattle.typing_laws.specs.Declarators.Given.{IsShapeOf, IsSpecified, anything}
use Rattle.typing_laws.proofs.Declarators.Parameters.{no_function, plain_by, unlinked_is, within}
use Rattle.typing_laws.proofs.Declarators.Parameters.{within_block}
use Rattle.typing_laws.proofs.Declarators.Parameters.{within_formed}
use Rattle.typing_laws.proofs.Declarators.Recursion.{parameter_extend, shape_extends}
use Rattle.typing_laws.proofs.Declarators.Recursion.{specification_extends}
use Rattle.typing_laws.proofs.Declarators.Tags.{bound_last}
use Rattle.program_laws.specs.Bodies.Types.{AreTypesOf, EntryTypes, NameTypes, NextType}
use Rattle.program_laws.proofs.Bodies.Parameters.{IfSays, Says, fresh_name, shape_says}
use Rattle.program_laws.proofs.Bodies.Types.{AllTypes, parameters_types, types_extended, types_inside}
use Rattle.typing_laws.proofs.Common.{IfGives, other_is}

-- lists of names, one behind the other

next_behind : (P Q : List (List TypeWord) → Type 0) (us : List (List TypeWord))
    → ((ts : List (List TypeWord)) → P ts → Q (ts ++ us)) → (type : List TypeWord) (ts : List (List TypeWord))
    → NextType P type ts → NextType Q type (ts ++ us)
next_behind P Q us h type [] is = absurd (true≢false is)
next_behind P Q us h type (t ∷ ts) is = (is.0, h ts is.1)

entry_behind : (P Q : List (List TypeWord) → Type 0) (us : List (List TypeWord))
    → ((ts : List (List TypeWord)) → P ts → Q (ts ++ us)) → (m : Meaning) (ts : List (List TypeWord))
    → EntryTypes P m ts → EntryTypes Q m (ts ++ us)
entry_behind P Q us h (meaning.Constant w) ts is = h ts is
entry_behind P Q us h (meaning.Typedef type) ts is = is
entry_behind P Q us h (meaning.Named d type) ts is = next_behind P Q us h type ts is

types_behind : (entries others : Names Meaning) (ts us : List (List TypeWord)) → AreTypesOf entries ts
    → AreTypesOf others us → AreTypesOf (entries ++ others) (ts ++ us)
types_behind [] others ts us is h = subst (λ z. AreTypesOf others (z ++ us)) (sym is) h
types_behind (e ∷ entries) others ts us is h =
    entry_behind (AreTypesOf entries) (AreTypesOf (entries ++ others)) us
    (λ ts is. types_behind entries others ts us is h) e.1 ts is

enumerator_types : (m : Meaning) → IsEnumerator m → (P : List (List TypeWord) → Type 0) → P [] → EntryTypes P m []
enumerator_types (meaning.Constant w) is P h = h
enumerator_types (meaning.Typedef type) is P h = is
enumerator_types (meaning.Named d type) is P h = is

no_types : (entries : Names Meaning) → AreEnumerators entries → AreTypesOf entries []
no_types [] is = refl
no_types (e ∷ entries) is = enumerator_types e.1 is.0 (AreTypesOf entries) (no_types entries is.1)

abbrev pub TypesAre : State → List (List TypeWord) → Type 0
TypesAre s types = AreTypesOf s.environment.names.current types

types_after : (s u : State) → Extends false s u → (types : List (List TypeWord)) → TypesAre s types → TypesAre u types
types_after s u h types is =
    let adds = h.entries refl in
    subst (λ z. AreTypesOf z types) (sym adds.is)
    (subst (AreTypesOf (s.environment.names.current ++ adds.rest)) (append-nil types)
    (types_behind s.environment.names.current adds.rest types [] is (no_types adds.rest adds.each)))

-- a parameter with a name

module _ (s : State) (inner : in_file s.environment ≡ false) where
  abbrev Added : Name → List TypeWord → Names Meaning
  Added name type =
      s.environment.names.current ++ (name, meaning.Named (what.Variable s.environment.variables) type) ∷ []

  by_storage : (d : Declaration) (z : Storage) → not_for_parameter z ≡ false
      → declared d.name s.environment.names.current ≡ None
      → (without_linkage z s.environment d).names.current ≡ Added d.name d.type
  by_storage d storage.Absent e fresh =
      bound_last d.name (meaning.Named (what.Variable s.environment.variables) d.type) s.environment.names.current fresh
  by_storage d storage.Register e fresh =
      bound_last d.name (meaning.Named (what.Variable s.environment.variables) d.type) s.environment.names.current fresh
  by_storage d storage.Auto e fresh = absurd cc
  by_storage d storage.Static e fresh = absurd cc
  by_storage d storage.Extern e fresh = absurd cc
  by_storage d storage.Typedef e fresh = absurd cc

  by_linkage : (d : Declaration) (b : Bool) → b ≡ false
      → (without_linkage d.storage s.environment d).names.current ≡ Added d.name d.type
      → (if b then linked s.environment d else without_linkage d.storage s.environment d).names.current
      ≡ Added d.name d.type
  by_linkage d true e h = absurd cc
  by_linkage d false e h = h

  module _ (before : List (List TypeWord)) (is : TypesAre s before) where
    abbrev IfNext : Answer (State × List TypeWord) → Type 0
    IfNext (Ok r) = TypesAre r.0 (before ++ r.1 ∷ [])
    IfNext (Err e) = Unit {0}

    judged_by : (d : Declaration) → not_for_parameter d.storage ≡ false
        → has_linkage (in_file s.environment) d ≡ false → (a : Answer (Unit {0}))
        → judged_declarator (surroundings s.environment d) d ≡ a
        → IfNext (a >>= (λ done. Ok (with_declarator s.environment d))
        >>= λ env. Ok (record s { environment = env }, unqualified d.type))
    judged_by d plain unlinked (Ok tt) e =
        subst (λ z. AreTypesOf z (before ++ unqualified d.type ∷ []))
        (sym (by_linkage d (has_linkage (in_file s.environment) d) unlinked
        (by_storage d d.storage plain (fresh_name (surroundings s.environment d) d inner unlinked e))))
        (types_behind s.environment.names.current
        ((d.name, meaning.Named (what.Variable s.environment.variables) d.type) ∷ []) before
        (unqualified d.type ∷ []) is (refl, refl))
    judged_by d plain unlinked (Err f) e = tt

    named_by : (spec : Specification) (b : BuiltType) (name : Name × ℕ) (bad : Bool) → misplaced spec ≡ bad
        → IfNext (if bad then violates rule.MisplacedStorage spec.line
        else declaring (unqualified (adjusted b.type)) (parameter_declaration true spec b name) s)
    named_by spec b name true e = tt
    named_by spec b name false e =
        let d = parameter_declaration true spec b name in
        let plain = neither_right spec.has_two_storages (not_for_parameter spec.storage) e in
        judged_by d plain
        (unlinked_is (in_file s.environment) (is_function (adjusted b.type)) (is_extern spec.storage)
        (is_typedef spec.storage) inner (no_function b.type) (plain_by spec.storage plain).no_extern)
        (judged_declarator (surroundings s.environment d) d) refl

    built_by : (spec : Specification) (b : BuiltType) (name : Option (Name × ℕ)) → is_some name ≡ true
        → IfNext (parameter_built true spec b name s)
    built_by spec b None e = absurd (false≢true e)
    built_by spec b (Some name) e = named_by spec b name (misplaced spec) refl

abbrev IfNextTypes : (before : List (List TypeWord)) → Answer (State × List TypeWord) → Type 0
IfNextTypes before (Ok r) = TypesAre r.0 (before ++ r.1 ∷ [])
IfNextTypes before (Err e) = Unit {0}

abbrev pub IfTypes : Answer (State × List (List TypeWord)) → Type 0
IfTypes (Ok r) = TypesAre r.0 r.1
IfTypes (Err e) = Unit {0}

-- behind what adds nothing but enumerators
types_then : {A : Type 0} (before : List (List TypeWord)) (s : State) (p : State → A → Type 0) (a : Answer (State × A))
    (next : A → Typing (List TypeWord)) → in_file s.environment ≡ false → TypesAre s before → Extending false s p a
    → ((x : A) (u : State) → IsFormed u → in_file u.environment ≡ false → TypesAre u before → p u x
    → IfNextTypes before (next x u))
    → IfNextTypes before (a >>= λ r. next r.1 r.0)
types_then before s p (Ok r) next inner is h g =
    g r.1 r.0 h.0.formed (ap is_empty h.0.outer ∙ inner) (types_after s r.0 h.0 before is) h.1
types_then before s p (Err e) next inner is h g = tt

one_type : (x : TypedDeclarator) → is_regular_name x ≡ true → is_named_parameter x ≡ true
    → (before : List (List TypeWord)) (s : State) → IsFormed s → in_file s.environment ≡ false → TypesAre s before
    → IfNextTypes before (parameter_type true x s)
one_type (t.typed specs d) c named before s formed inner is =
    types_then before s IsSpecified (specification false specs s)
    (λ spec. shape false d >>> λ sh. parameter true spec sh) inner is
    (specification_extends false specs (first _ _ c) s formed)
    (λ spec u formed inner is sized. types_then before u (λ w sh. IsShapeOf w d sh) (shape false d u)
    (λ sh. parameter true spec sh) inner is (shape_extends false d (second _ _ c) u formed)
    (λ sh w formed inner is has. built_by w inner before is spec (built_in w spec sh) sh.name (has.named named)))

after_type : (before : List (List TypeWord)) (s : State) (a : Answer (State × List TypeWord))
    (next : List TypeWord → Typing (List (List TypeWord))) → in_file s.environment ≡ false
    → Extending true s anything a → IfNextTypes before a
    → ((type : List TypeWord) (u : State) → IsFormed u → in_file u.environment ≡ false
    → TypesAre u (before ++ type ∷ []) → IfTypes (next type u))
    → IfTypes (a >>= λ r. next r.1 r.0)
after_type before s (Ok r) next inner h is g = g r.1 r.0 h.0.formed (ap is_empty h.0.outer ∙ inner) is
after_type before s (Err e) next inner h is g = tt

more_matched : (more : MoreParameters) → more_are_regular_parameters more ≡ true → are_named_parameters more ≡ true
    → (before : List (List TypeWord)) (s : State) → IsFormed s → in_file s.environment ≡ false → TypesAre s before
    → IfTypes (more_types true more before s)
more_matched t.end_of_parameters c named before s formed inner is = is
more_matched (t.more_parameters at x more) c named before s formed inner is =
    after_type before s (parameter_type true x s) (λ type. more_types true more (before ++ type ∷ [])) inner
    (parameter_extend true x (first _ _ c) s formed inner)
    (one_type x (first _ _ c) (first _ _ named) before s formed inner is)
    (λ type u formed inner is. more_matched more (second (is_regular_name x) _ c)
    (second (is_named_parameter x) _ named)
    (before ++ type ∷ []) u formed inner is)

pub all_matched : (ps : Parameters) → are_regular_parameters ps ≡ true → has_named_parameters ps ≡ true → (s : State)
    → IsFormed s → in_file s.environment ≡ false → TypesAre s [] → IfTypes (parameter_types true ps s)
all_matched t.no_parameters c named s formed inner is = is
all_matched (t.void_parameters at) c named s formed inner is = is
all_matched (t.parameters x more) c named s formed inner is =
    after_type [] s (parameter_type true x s) (λ type. more_types true more (type ∷ [])) inner
    (parameter_extend true x (first _ _ c) s formed inner)
    (one_type x (first _ _ c) (first _ _ named) [] s formed inner is)
    (λ type u formed inner is. more_matched more (second (is_regular_name x) _ c)
    (second (is_named_parameter x) _ named)
    (type ∷ []) u formed inner is)

-- a declarator in a definition begins with the function that takes its parameters

pub record StartsWith (names : Names Meaning) (ds : List Derivation) : Type 0 where
  pub types : List (List TypeWord)
  pub rest : List Derivation
  pub is : ds ≡ to_function types ∷ rest
  pub of : AreTypesOf names types
  pub all : AllTypes types

pub record TakesParameters (sh : Shape) : Type 0 where
  pub there : is_some sh.name ≡ true → is_some sh.parameters ≡ true
  pub each : is_some sh.name ≡ true → (p : ParameterScope) → sh.parameters ≡ Some p → StartsWith p.names sh.derivations

abbrev pub IfTakes : Answer (State × Shape) → Type 0
IfTakes a = IfGives TakesParameters a

starts_more : (names : Names Meaning) (ds : List Derivation) (x : Derivation) → StartsWith names ds
    → StartsWith names (ds ++ x ∷ [])
starts_more names ds x h = record {
  types = h.types;
  rest = h.rest ++ x ∷ [];
  is = ap (λ z. z ++ x ∷ []) h.is;
  of = h.of;
  all = h.all;
}

derived_takes : (sh : Shape) (x : Derivation) → TakesParameters sh → TakesParameters (with_derivation x sh)
derived_takes sh x h =
    record { there = h.there; each = λ n p e. starts_more p.names sh.derivations x (h.each n p e) }

derived_by : (x : Derivation) (a : Answer (State × Shape)) → IfTakes a
    → IfTakes (a >>= λ r. done (with_derivation x r.1) r.0)
derived_by x (Ok r) h = derived_takes r.1 x h
derived_by x (Err e) h = tt

counted_by : (sh : Shape) → TakesParameters sh → (x : Value → Derivation) (a : Answer (State × Value))
    → IfTakes (a >>= λ r. done (with_derivation (x r.1) sh) r.0)
counted_by sh h x (Ok r) = derived_takes sh (x r.1) h
counted_by sh h x (Err e) = tt

array_by : (d : Declarator) (a : Answer (State × Shape)) → IfTakes a → (next : Shape → Typing Shape)
    → ((sh : Shape) (u : State) → TakesParameters sh → IfTakes (next sh u)) → IfTakes (a >>= λ r. next r.1 r.0)
array_by d (Ok r) h next g = g r.1 r.0 h
array_by d (Err e) h next g = tt

no_derivation : (ds : List Derivation) → is_nothing ds ≡ true → ds ≡ []
no_derivation [] e = refl
no_derivation (d ∷ ds) e = absurd cc

same_scope : {a b : ParameterScope} → Some a ≡ Some b → a ≡ b
same_scope e = cc

module _ (d : Declarator) (first : ℕ) (u : State) (sh : Shape) (says : Says first u d sh)
    (inside : is_plain_name d ≡ false → TakesParameters sh) where
  choice_takes : (types : List (List TypeWord)) (scope : ParameterScope)
      → (is_plain_name d ≡ true → AreTypesOf scope.names types) → (is_plain_name d ≡ true → AllTypes types)
      → is_some sh.name ≡ true → (b : Bool) → is_nothing sh.derivations ≡ b → (p : ParameterScope)
      → (if b then Some scope else sh.parameters) ≡ Some p
      → StartsWith p.names (sh.derivations ++ to_function types ∷ [])
  choice_takes types scope of all named true e p g =
      let plain = sym (says.plain named) ∙ e in
      subst (λ z. StartsWith z.names (sh.derivations ++ to_function types ∷ [])) (same_scope g)
      (record {
        types = types;
        rest = [];
        is = ap (λ z. z ++ to_function types ∷ []) (no_derivation sh.derivations e);
        of = of plain;
        all = all plain;
      })
  choice_takes types scope of all named false e p g =
      starts_more p.names sh.derivations (to_function types) ((inside (sym (says.plain named) ∙ e)).each named p g)

  choice_there : (scope : ParameterScope) → is_some sh.name ≡ true → (b : Bool) → is_nothing sh.derivations ≡ b
      → is_some (if b then Some scope else sh.parameters) ≡ true
  choice_there scope named true e = refl
  choice_there scope named false e = (inside (sym (says.plain named) ∙ e)).there named

  function_takes : (a : Answer (State × List (List TypeWord))) → (is_plain_name d ≡ true → IfTypes a)
      → (is_plain_name d ≡ true → IfGives AllTypes a)
      → IfTakes (a >>= λ r. (scope_left u.environment.variables >>> λ scope. done (with_function r.1 scope sh)) r.0)
  function_takes (Ok r) of all = record {
    there = λ named. choice_there (parameters_in r.0.environment) named (is_nothing sh.derivations) refl;
    each = λ named p e.
        choice_takes r.1 (parameters_in r.0.environment) of all named (is_nothing sh.derivations) refl p e;
  }
  function_takes (Err e) of all = tt

function_by : (d : Declarator) (first : ℕ) (s : State) → NameTypes s → (a : Answer (State × Shape))
    → Extending false s (λ u sh. IsShapeOf u d sh) a → IfSays first d a → (is_plain_name d ≡ false → IfTakes a)
    → (next : Shape → Typing Shape)
    → ((sh : Shape) (u : State) → IsFormed u → NameTypes u → Says first u d sh
    → (is_plain_name d ≡ false → TakesParameters sh) → IfTakes (next sh u))
    → IfTakes (a >>= λ r. next r.1 r.0)
function_by d from s types (Ok r) h says inside next g =
    g r.1 r.0 h.0.formed (types_extended false s r.0 h.0 types) says inside
function_by d from s types (Err e) h says inside next g = tt

plain_is : (b x y : Bool) → b ≡ true → (if b then x else y) ≡ true → x ≡ true
plain_is true x y e g = g
plain_is false x y e g = absurd cc

pub shape_takes : (d : Declarator) → is_regular_declarator d ≡ true → defines_function d ≡ true → (s : State)
    → IsFormed s → NameTypes s → IfTakes (shape true d s)
shape_takes (t.named x) c named s formed types = absurd cc
shape_takes t.unnamed c named s formed types = absurd cc
shape_takes (t.pointer at consts d) c named s formed types =
    derived_by (to_pointer (has_words consts)) (shape true d s) (shape_takes d c named s formed types)
shape_takes (t.grouped l d r) c named s formed types = shape_takes d c named s formed types
shape_takes (t.open_array d l r) c named s formed types =
    derived_by to_open_array (shape true d s) (shape_takes d c named s formed types)
shape_takes (t.array d l n r) c named s formed types =
    array_by d (shape true d s) (shape_takes d (first _ _ c) named s formed types)
    (λ sh. valued (typed false n) >>> λ v. done (with_derivation (to_array (count_in v)) sh))
    (λ sh u h. counted_by sh h (λ v. to_array (count_in v)) (valued (typed false n) u))
shape_takes (t.function d l ps r) c named s formed types =
    function_by d s.environment.variables s types (shape true d s) (shape_extends true d (first _ _ c) s formed)
    (shape_says d (first _ _ c) s formed s.environment.variables refl)
    (λ other. shape_takes d (first _ _ c)
    (other_is (is_plain_name d) (has_named_parameters ps) (defines_function d) other named) s formed types)
    (λ sh. scope_opened >>> λ before. parameter_types (true && is_plain_name d) ps >>> λ types.
    scope_left before >>> λ scope. done (with_function types scope sh))
    (λ sh u formed types says inside.
    function_takes d s.environment.variables u sh says inside (parameter_types (true && is_plain_name d) ps (within u))
    (λ plain. subst (λ b. IfTypes (parameter_types b ps (within u))) (sym plain)
    (all_matched ps (second _ _ c)
    (plain_is (is_plain_name d) (has_named_parameters ps) (defines_function d) plain named) (within u)
    (within_formed u formed) (within_block u) refl))
    (λ plain. parameters_types (true && is_plain_name d) ps (second _ _ c) (within u) (within_formed u formed)
    (within_block u) (types_inside u types)))
