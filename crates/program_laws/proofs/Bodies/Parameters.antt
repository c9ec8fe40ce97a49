-- The parameters of a function that is defined are its first variables (C99 6.9.1).
use Rattle.std.proofs.Common.{◌≡◌, ℕ, ◌+◌, Bool, true, false, ◌&&◌, ◌||◌, refl, sym, ap, ◌∙◌, subst, List, [], ◌∷◌}
use Rattle.std.proofs.Common.{◌++◌}
use Rattle.std.proofs.Common.{Option, Some, None, if◌then◌else◌, arith}
use Rattle.std.proofs.lemmas.Bool.{true≢false}
use Rattle.std.specs.Prelude.{Ok, Err, is_some, not, suc}
use Rattle.c_syntax.specs.Formed.{is_plain_name}
use Rattle.c_syntax.specs.Tree.{Declarator, MoreParameters, Parameters, TypedDeclarator}
use Rattle.c_syntax.specs.Tree as t
use Rattle.c_tree.specs.declared.c_type.TypeWord.{TypeWord}
use Rattle.c_tree.specs.declared.c_type.TypeWord.TheVariants as word
use Rattle.c_tree.specs.Extents.{extent_of}
use Rattle.c_faults.specs.declared.fault.Rule.TheVariants as rule
use Rattle.c_faults.specs.Answer.{Answer, violates, ◌>>=◌}
use Rattle.c_rules.specs.Types.{unqualified}
use Rattle.c_rules.specs.Values.{Value}
use Rattle.c_declarators.specs.Adjusted.{adjusted}
use Rattle.c_declarators.specs.Derivations.{BuiltType, Derivation, to_array, to_function, to_open_array, to_pointer}
use Rattle.c_declarators.specs.Faults.{rule_of}
use Rattle.c_scope.specs.declared.meaning.Designated.{Designated}
use Rattle.c_scope.specs.declared.meaning.Designated.TheVariants as what
use Rattle.c_scope.specs.declared.meaning.Meaning.{Meaning}
use Rattle.c_scope.specs.declared.meaning.Meaning.TheVariants as meaning
use Rattle.c_scope.specs.declared.meaning.Storage.{Storage}
use Rattle.c_scope.specs.declared.meaning.Storage.TheVariants as storage
use Rattle.c_scope.specs.Declaring.{Declaration, Surroundings, agrees, clashes, differs, has_linkage, is_function}
use Rattle.c_scope.specs.Declaring.{is_misplaced}
use Rattle.c_scope.specs.Declaring.{is_extern, is_redeclared, is_typedef, judged as judged_declarator}
use Rattle.c_scope.specs.Declaring.{sized_by_initializer}
use Rattle.c_scope.specs.Environment.{in_file, linked, surroundings, with_declarator, with_variable, without_linkage}
use Rattle.c_scope.specs.Names.{Name, Names, declared, is_empty}
use Rattle.c_scope.specs.Parameters.{ParameterScope, parameters_in}
use Rattle.c_declarator_typing.specs.Declarators.{Shape, built_in, declaring, is_misplaced as misplaced, is_nothing}
use Rattle.c_declarator_typing.specs.Declarators.{not_for_parameter}
use Rattle.c_declarator_typing.specs.Declarators.{parameter, parameter_built, parameter_declaration, scope_left}
use Rattle.c_declarator_typing.specs.Declarators.{scope_opened}
use Rattle.c_declarator_typing.specs.Declarators.{nameless_parameter, with_derivation, with_function}
use Rattle.c_declarator_typing.specs.Sizes.{count_in}
use Rattle.c_declarator_typing.specs.Specifications.{Specification}
use Rattle.c_typing_state.specs.State.{State, Typing, done, extents, ◌>>>◌}
use Rattle.c_expression_typing.specs.Constructs.{has_words, valued}
use Rattle.c_expression_typing.specs.Typed.{more_types, parameter_type, parameter_types, shape, specification, typed}
use Rattle.typing_laws.specs.Validity.More.{AreMore}
use Rattle.typing_laws.specs.Validity.Regular.{are_regular_parameters, is_regular_declarator, is_regular_name}
use Rattle.typing_laws.specs.Validity.Regular.{more_are_regular_parameters}
use Rattle.typing_laws.specs.Validity.Sound.{IsFormed, is_sized_array}
use Rattle.typing_laws.specs.Validity.Steps.{Structures}
use Rattle.typing_laws.proofs.Validity.Common.{first, neither_left, neither_right, second, the_same}
use Rattle.typing_laws.proofs.Validity.Kept.{extent_kept}
use Rattle.typing_laws.specs.Declarators.Extending.{AreEnumerators, Extending, Extends, IsEnumerator}
use Rattle.typing_laws.specs.Declarators.Given.{AreCounted, IsShapeOf, IsSpecified, ValueHasWords, anything}
use Rattle.typing_laws.proofs.Declarators.Parameters.{behind, no_function, plain_by, unlinked_is, within}
use Rattle.typing_laws.proofs.Declarators.Parameters.{within_block}
use Rattle.typing_laws.proofs.Declarators.Parameters.{within_formed}
use Rattle.typing_laws.proofs.Declarators.Recursion.{parameter_extend, shape_extends, specification_extends}
use Rattle.typing_laws.proofs.Declarators.Recursion.{parameters_extend}
use Rattle.typing_laws.proofs.Declarators.Tags.{bound_last}
use Rattle.typing_laws.proofs.Declarators.Types.{built_sized, without_faults}
use Rattle.typing_laws.specs.Declarations.Binding.{IsObjectType}
use Rattle.typing_laws.proofs.Declarations.Judged.{IsBuilt, declares_by}
use Rattle.typing_laws.proofs.Scopes.Initializers.{value_extends}
use Rattle.program_laws.specs.Bodies.Parameters.{AreParameters, EntryThen, NumberedThen}
use Rattle.typing_laws.proofs.Common.{passed}

-- lists of parameters, with more structures complete, and longer

object_kept : (es more : Structures) → AreMore es more → (type : List TypeWord) → IsObjectType es type
    → IsObjectType more type
object_kept es more h type is =
    record { extent = is.extent; is = extent_kept es more h type is.extent is.is; object = is.object }

numbered_by : (es more : Structures) → AreMore es more → (next : ℕ) (P Q : ℕ → Type 0) → ((n : ℕ) → P n → Q n)
    → (type : List TypeWord) (d : Designated) → NumberedThen es next P type d → NumberedThen more next Q type d
numbered_by es more h next P Q to type (what.Variable n) is =
    (is.0, (object_kept es more h type is.1.0, to (suc next) is.1.1))
numbered_by es more h next P Q to type (what.Object n) is = is
numbered_by es more h next P Q to type (what.Static n) is = is
numbered_by es more h next P Q to type (what.Function n) is = is
numbered_by es more h next P Q to type (what.Library f) is = is

entry_by : (es more : Structures) → AreMore es more → (next : ℕ) (P Q : ℕ → Type 0) → ((n : ℕ) → P n → Q n)
    → (m : Meaning) → EntryThen es next P m → EntryThen more next Q m
entry_by es more h next P Q to (meaning.Constant w) is = to next is
entry_by es more h next P Q to (meaning.Typedef type) is = is
entry_by es more h next P Q to (meaning.Named d type) is = numbered_by es more h next P Q to type d is

pub parameters_kept : (es more : Structures) → AreMore es more → (last : ℕ) (entries : Names Meaning) (first : ℕ)
    → AreParameters es last entries first → AreParameters more last entries first
parameters_kept es more h last [] first is = is
parameters_kept es more h last (e ∷ entries) first is =
    entry_by es more h first (AreParameters es last entries) (AreParameters more last entries)
    (λ n p. parameters_kept es more h last entries n p) e.1 is

enumerator_then : (es : Structures) (next : ℕ) (P : ℕ → Type 0) (m : Meaning) → IsEnumerator m → P next
    → EntryThen es next P m
enumerator_then es next P (meaning.Constant w) is p = p
enumerator_then es next P (meaning.Typedef type) is p = is
enumerator_then es next P (meaning.Named d type) is p = absurd (true≢false is)

enumerators_only : (es : Structures) (last : ℕ) (entries : Names Meaning) → AreEnumerators entries
    → AreParameters es last entries last
enumerators_only es last [] is = refl
enumerators_only es last (e ∷ entries) is =
    enumerator_then es last (AreParameters es last entries) e.1 is.0 (enumerators_only es last entries is.1)

-- what stands behind a list goes on with its numbers
behind_parameters : (es : Structures) (last most : ℕ) (entries others : Names Meaning) (first : ℕ)
    → AreParameters es last entries first → AreParameters es most others last
    → AreParameters es most (entries ++ others) first
behind_parameters es last most [] others first is behind = subst (AreParameters es most others) (sym is) behind
behind_parameters es last most (e ∷ entries) others first is behind =
    entry_by es es (record { kept = λ n x e. e }) first (AreParameters es last entries)
    (AreParameters es most (entries ++ others))
    (λ n p. behind_parameters es last most entries others n p behind) e.1 is

-- the innermost scope of a state
abbrev pub HasParameters : (first : ℕ) → State → Type 0
HasParameters first s = AreParameters (extents s) s.environment.variables s.environment.names.current first

extended_parameters : (first : ℕ) (s u : State) → Extends false s u → HasParameters first s → HasParameters first u
extended_parameters first s u h is =
    let adds = h.entries refl in
    let kept = parameters_kept (extents s) (extents u) h.more s.environment.variables s.environment.names.current first
    is in
    let all = behind_parameters (extents u) s.environment.variables s.environment.variables
    s.environment.names.current adds.rest first kept
    (enumerators_only (extents u) s.environment.variables adds.rest adds.each) in
    subst (λ n. AreParameters (extents u) n u.environment.names.current first) (sym (h.variables refl))
    (subst (λ z. AreParameters (extents u) s.environment.variables z first) (sym adds.is) all)

-- a parameter

adjusted_sized : (type : List TypeWord) → is_sized_array type ≡ true → is_sized_array (adjusted type) ≡ true
adjusted_sized [] e = e
adjusted_sized (word.Void ∷ ws) e = e
adjusted_sized (word.Integer t ∷ ws) e = e
adjusted_sized (word.Enumeration n ∷ ws) e = e
adjusted_sized (word.Pointer ∷ ws) e = e
adjusted_sized (word.Array count bytes ∷ ws) e = refl
adjusted_sized (word.OpenArray ∷ ws) e = refl
adjusted_sized (word.Structure n ∷ ws) e = e
adjusted_sized (word.Const ∷ ws) e = e
adjusted_sized (word.Takes ∷ ws) e = refl
adjusted_sized (word.Gives ∷ ws) e = refl

-- a name that is declared without linkage was not declared in this scope

clash_by : (a b c : Bool) → a ≡ false → b ≡ false → (not (a || b) || c) ≡ false → ⊥
clash_by true b c e g h = cc
clash_by false true c e g h = cc
clash_by false false c e g h = cc

fresh_by : (inside : Bool) (d : Declaration) (o : Option Meaning) → inside ≡ false → has_linkage inside d ≡ false
    → clashes inside d o ≡ false → o ≡ None
fresh_by inside d None e g h = refl
fresh_by inside d (Some m) e g h = absurd (clash_by inside (has_linkage inside d) (not (agrees d m)) e g h)

pub fresh_name : (s : Surroundings) (d : Declaration) → s.in_file ≡ false → has_linkage s.in_file d ≡ false
    → judged_declarator s d ≡ Ok tt → s.here ≡ None
unfolding judged_declarator
fresh_name s d inner unlinked e =
    let a = passed (is_misplaced s.in_file (is_function d.type) d.storage) rule.MisplacedStorage d.specifiers_line _ tt
    e in
    let b = passed (is_redeclared s d) rule.Redeclared d.line _ tt a.1 in
    fresh_by s.in_file d s.here inner unlinked
    (neither_left (clashes s.in_file d s.here) (has_linkage s.in_file d && differs d s.entity) b.0)

-- a variable behind the parameters before it
variable_there : (first : ℕ) (s : State) (name : Name) (type : List TypeWord) → IsObjectType (extents s) type
    → declared name s.environment.names.current ≡ None → HasParameters first s
    → HasParameters first (record s { environment = with_variable name type s.environment })
variable_there first s name type object fresh is =
    let n = s.environment.variables in
    let m = meaning.Named (what.Variable n) type in
    let more : suc n ≡ n + 1 = omega arith in
    subst (λ z. AreParameters (extents s) (n + 1) z first) (sym (bound_last name m s.environment.names.current fresh))
    (behind_parameters (extents s) n (n + 1) s.environment.names.current ((name, m) ∷ []) first is
    (refl, (object, more)))

abbrev pub IfParameters : {A : Type 0} → (first : ℕ) → Answer (State × A) → Type 0
IfParameters first (Ok r) = HasParameters first r.0
IfParameters first (Err e) = Unit {0}

module _ (first : ℕ) (s : State) (formed : IsFormed s) (inner : in_file s.environment ≡ false)
    (has : HasParameters first s) where
  by_storage : (d : Declaration) (z : Storage) → not_for_parameter z ≡ false → IsObjectType (extents s) d.type
      → declared d.name s.environment.names.current ≡ None
      → HasParameters first (record s { environment = without_linkage z s.environment d })
  by_storage d storage.Absent e object fresh = variable_there first s d.name d.type object fresh has
  by_storage d storage.Register e object fresh = variable_there first s d.name d.type object fresh has
  by_storage d storage.Auto e object fresh = absurd cc
  by_storage d storage.Static e object fresh = absurd cc
  by_storage d storage.Extern e object fresh = absurd cc
  by_storage d storage.Typedef e object fresh = absurd cc

  by_linkage : (d : Declaration) (b : Bool) → b ≡ false
      → HasParameters first (record s { environment = without_linkage d.storage s.environment d })
      → HasParameters first
      (record s { environment = if b then linked s.environment d else without_linkage d.storage s.environment d })
  by_linkage d true e h = absurd cc
  by_linkage d false e h = h

  judged_by : {A : Type 0} (d : Declaration) (x : A) → d.has_initializer ≡ false → IsBuilt d
      → not_for_parameter d.storage ≡ false → has_linkage (in_file s.environment) d ≡ false
      → (a : Answer (Unit {0})) → judged_declarator (surroundings s.environment d) d ≡ a
      → IfParameters first (a >>= (λ done. Ok (with_declarator s.environment d)) >>= λ env. Ok
      (record s { environment = env }, x))
  judged_by d x bare built plain unlinked (Ok y) e =
      let declares = declares_by s formed d built y e in
      let is = declares.complete unlinked (plain_by d.storage plain).no_typedef in
      let object : IsObjectType (extents s) d.type = record {
        extent = is.extent;
        is = ap (λ b. extent_of (extents s) (if b then sized_by_initializer d.type else d.type)) (sym bare) ∙ is.is;
        object = is.object;
      } in
      by_linkage d (has_linkage (in_file s.environment) d) unlinked
      (by_storage d d.storage plain object (fresh_name (surroundings s.environment d) d inner unlinked e))
  judged_by d x bare built plain unlinked (Err f) e = tt

  named_by : (spec : Specification) (b : BuiltType)
      → (rule_of b.faults ≡ None → is_sized_array b.type ≡ true) → (name : Name × ℕ) (is : Bool)
      → misplaced spec ≡ is
      → IfParameters first (if is then violates rule.MisplacedStorage spec.line
      else declaring (unqualified (adjusted b.type)) (parameter_declaration true spec b name) s)
  named_by spec b sized name true e = tt
  named_by spec b sized name false e =
      let d = parameter_declaration true spec b name in
      let plain = neither_right spec.has_two_storages (not_for_parameter spec.storage) e in
      judged_by d (unqualified (adjusted b.type)) refl
      (record { sized = λ g. adjusted_sized b.type (sized g); placed = λ g. refl }) plain
      (unlinked_is (in_file s.environment) (is_function (adjusted b.type)) (is_extern spec.storage)
      (is_typedef spec.storage) inner (no_function b.type) (plain_by spec.storage plain).no_extern)
      (judged_declarator (surroundings s.environment d) d) refl

  nameless_by : (a : Answer (List TypeWord)) → IfParameters first (a >>= λ x. Ok (s, x))
  nameless_by (Ok x) = has
  nameless_by (Err e) = tt

  built_by : (spec : Specification) (b : BuiltType) → (rule_of b.faults ≡ None → is_sized_array b.type ≡ true)
      → (name : Option (Name × ℕ)) → IfParameters first (parameter_built true spec b name s)
  built_by spec b sized None = nameless_by (nameless_parameter spec b)
  built_by spec b sized (Some name) = named_by spec b sized name (misplaced spec) refl

  parameter_has : (spec : Specification) → is_sized_array spec.type ≡ true → (sh : Shape) → AreCounted sh.derivations
      → IfParameters first (parameter true spec sh s)
  parameter_has spec sized sh counted =
      built_by spec (built_in s spec sh)
      (λ e. built_sized (extents s) formed.sizes spec.type sized sh.derivations counted
      (without_faults (built_in s spec sh).faults e)) sh.name

-- behind what adds nothing but enumerators
then_parameters : {A B : Type 0} (first : ℕ) (s : State) (p : State → A → Type 0) (a : Answer (State × A))
    (next : A → Typing B) → in_file s.environment ≡ false → HasParameters first s → Extending false s p a
    → ((x : A) (u : State) → IsFormed u → in_file u.environment ≡ false → HasParameters first u → p u x
    → IfParameters first (next x u))
    → IfParameters first (a >>= λ r. next r.1 r.0)
then_parameters first s p (Ok r) next inner has h g =
    g r.1 r.0 h.0.formed (ap is_empty h.0.outer ∙ inner) (extended_parameters first s r.0 h.0 has) h.1
then_parameters first s p (Err e) next inner has h g = tt

one_parameter : (first : ℕ) (x : TypedDeclarator) → is_regular_name x ≡ true → (s : State) → IsFormed s
    → in_file s.environment ≡ false → HasParameters first s → IfParameters first (parameter_type true x s)
one_parameter from (t.typed specs d) c s formed inner has =
    then_parameters from s IsSpecified (specification false specs s)
    (λ spec. shape false d >>> λ sh. parameter true spec sh) inner has
    (specification_extends false specs (first _ _ c) s formed)
    (λ spec u formed inner has sized. then_parameters from u (λ w sh. IsShapeOf w d sh) (shape false d u)
    (λ sh. parameter true spec sh) inner has (shape_extends false d (second _ _ c) u formed)
    (λ sh w formed inner has is. parameter_has from w formed inner has spec sized sh is.counted))

-- lists of parameters, of a function that is defined

after_parameter : {A B : Type 0} (first : ℕ) (s : State) (a : Answer (State × A)) (next : A → Typing B)
    → in_file s.environment ≡ false → Extending true s anything a → IfParameters first a
    → ((x : A) (u : State) → IsFormed u → in_file u.environment ≡ false → HasParameters first u
    → IfParameters first (next x u))
    → IfParameters first (a >>= λ r. next r.1 r.0)
after_parameter first s (Ok r) next inner h has g =
    g r.1 r.0 h.0.formed (ap is_empty h.0.outer ∙ inner) has
after_parameter first s (Err e) next inner h has g = tt

more_parameters : (first : ℕ) (more : MoreParameters) → more_are_regular_parameters more ≡ true
    → (before : List (List TypeWord)) (s : State) → IsFormed s → in_file s.environment ≡ false
    → HasParameters first s → IfParameters first (more_types true more before s)
more_parameters from t.end_of_parameters c before s formed inner has = has
more_parameters from (t.more_parameters at x more) c before s formed inner has =
    after_parameter from s (parameter_type true x s) (λ type. more_types true more (before ++ type ∷ [])) inner
    (parameter_extend true x (first _ _ c) s formed inner) (one_parameter from x (first _ _ c) s formed inner has)
    (λ type u formed inner has. more_parameters from more (second (is_regular_name x) _ c) (before ++ type ∷ []) u
    formed inner has)

all_parameters : (first : ℕ) (ps : Parameters) → are_regular_parameters ps ≡ true → (s : State) → IsFormed s
    → in_file s.environment ≡ false → HasParameters first s → IfParameters first (parameter_types true ps s)
all_parameters from t.no_parameters c s formed inner has = has
all_parameters from (t.void_parameters at) c s formed inner has = has
all_parameters from (t.parameters x more) c s formed inner has =
    after_parameter from s (parameter_type true x s) (λ type. more_types true more (type ∷ [])) inner
    (parameter_extend true x (first _ _ c) s formed inner) (one_parameter from x (first _ _ c) s formed inner has)
    (λ type u formed inner has. more_parameters from more (second (is_regular_name x) _ c) (type ∷ []) u formed inner
    has)

-- what a declarator with a name says of its parameters

pub record Says (first : ℕ) (s : State) (d : Declarator) (sh : Shape) : Type 0 where
  pub plain : is_some sh.name ≡ true → is_nothing sh.derivations ≡ is_plain_name d
  pub parameters : is_some sh.name ≡ true → (p : ParameterScope) → sh.parameters ≡ Some p
      → AreParameters (extents s) p.variables p.names first

abbrev pub IfSays : (first : ℕ) → Declarator → Answer (State × Shape) → Type 0
IfSays first d (Ok r) = Says first r.0 d r.1
IfSays first d (Err e) = Unit {0}

something : (ds : List Derivation) (d : Derivation) → is_nothing (ds ++ d ∷ []) ≡ false
something [] d = refl
something (x ∷ ds) d = refl

-- with one more derivation
derived_says : (first : ℕ) (s u : State) → AreMore (extents s) (extents u) → (d e : Declarator)
    → is_plain_name e ≡ false
    → (sh : Shape) (x : Derivation) → Says first s d sh → Says first u e (with_derivation x sh)
derived_says first s u more d e plain sh x is = record {
  plain = λ n. something sh.derivations x ∙ sym plain;
  parameters = λ n p g.
      parameters_kept (extents s) (extents u) more p.variables p.names first (is.parameters n p g);
}

-- `(..)` behind the name, or behind a declarator that derives something
choice_says : (first : ℕ) (u : State) (b : Bool) (scope : ParameterScope) (o : Option ParameterScope)
    → (b ≡ true → AreParameters (extents u) scope.variables scope.names first)
    → ((p : ParameterScope) → o ≡ Some p → AreParameters (extents u) p.variables p.names first)
    → (p : ParameterScope) → (if b then Some scope else o) ≡ Some p
    → AreParameters (extents u) p.variables p.names first
choice_says first u true scope o h g p e =
    subst (λ z. AreParameters (extents u) z.variables z.names first) (the_same e) (h refl)
choice_says first u false scope o h g p e = g p e

-- a declarator in a definition

derived_by : (first : ℕ) (d e : Declarator) → is_plain_name e ≡ false → (x : Derivation) (a : Answer (State × Shape))
    → IfSays first d a → IfSays first e (a >>= λ r. done (with_derivation x r.1) r.0)
derived_by from d e plain x (Ok r) h =
    derived_says from r.0 r.0 (record { kept = λ n x e. e }) d e plain r.1 x h
derived_by from d e plain x (Err f) h = tt

grouped_by : (first : ℕ) (d e : Declarator) → is_plain_name e ≡ is_plain_name d → (a : Answer (State × Shape))
    → IfSays first d a → IfSays first e a
grouped_by from d e same (Ok r) h =
    record { plain = λ n. h.plain n ∙ sym same; parameters = h.parameters }
grouped_by from d e same (Err f) h = tt

counted_by : (first : ℕ) (d e : Declarator) → is_plain_name e ≡ false → (s : State) (sh : Shape) → Says first s d sh
    → (x : Value → Derivation) (a : Answer (State × Value)) → Extending false s ValueHasWords a
    → IfSays first e (a >>= λ r. done (with_derivation (x r.1) sh) r.0)
counted_by from d e plain s sh h x (Ok r) g = derived_says from s r.0 g.0.more d e plain sh (x r.1) h
counted_by from d e plain s sh h x (Err f) g = tt

module _ (first : ℕ) (u : State) (d e : Declarator) (plain : is_plain_name e ≡ false) (sh : Shape)
    (says : Says first u d sh) where
  function_says : (a : Answer (State × List (List TypeWord))) → Extending true (within u) anything a
      → (is_plain_name d ≡ true → IfParameters first a)
      → IfSays first e (a >>= λ r. (scope_left u.environment.variables >>> λ scope. done (with_function r.1 scope sh))
      r.0)
  function_says (Ok r) h has =
      let after = behind u.environment.variables r.0 in
      let scope = parameters_in r.0.environment in
      record {
        plain = λ n. something sh.derivations (to_function r.1) ∙ sym plain;
        parameters = λ n.
            choice_says first after (is_nothing sh.derivations) scope sh.parameters
            (λ g. has (sym (says.plain n) ∙ g))
            (λ p g. parameters_kept (extents u) (extents after) (record { kept = h.0.more.kept }) p.variables p.names
            first (says.parameters n p g));
      }
  function_says (Err f) h has = tt

-- behind the declarator inside
module _ (first : ℕ) (d e : Declarator) where
  inner_says : (s : State) (a : Answer (State × Shape)) → Extending false s (λ u sh. IsShapeOf u d sh) a
      → IfSays first d a → (next : Shape → Typing Shape)
      → ((sh : Shape) (u : State) → Extends false s u → Says first u d sh → IfSays first e (next sh u))
      → IfSays first e (a >>= λ r. next r.1 r.0)
  inner_says s (Ok r) h says next g = g r.1 r.0 h.0 says
  inner_says s (Err f) h says next g = tt

pub shape_says : (d : Declarator) → is_regular_declarator d ≡ true → (s : State) → IsFormed s → (first : ℕ)
    → first ≡ s.environment.variables → IfSays first d (shape true d s)
shape_says (t.named x) c s formed from e = record { plain = λ n. refl; parameters = λ n p g. absurd cc }
shape_says t.unnamed c s formed from e = record { plain = λ n. absurd cc; parameters = λ n p g. absurd cc }
shape_says (t.pointer at consts d) c s formed from e =
    derived_by from d (t.pointer at consts d) refl (to_pointer (has_words consts)) (shape true d s)
    (shape_says d c s formed from e)
shape_says (t.grouped l d r) c s formed from e =
    grouped_by from d (t.grouped l d r) refl (shape true d s) (shape_says d c s formed from e)
shape_says (t.open_array d l r) c s formed from e =
    derived_by from d (t.open_array d l r) refl to_open_array (shape true d s) (shape_says d c s formed from e)
shape_says (t.array d l n r) c s formed from e =
    inner_says from d (t.array d l n r) s (shape true d s) (shape_extends true d (first _ _ c) s formed)
    (shape_says d (first _ _ c) s formed from e)
    (λ sh. valued (typed false n) >>> λ v. done (with_derivation (to_array (count_in v)) sh))
    (λ sh u h says. counted_by from d (t.array d l n r) refl u sh says (λ v. to_array (count_in v))
    (valued (typed false n) u) (value_extends false n (second _ _ c) u h.formed))
shape_says (t.function d l ps r) c s formed from e =
    inner_says from d (t.function d l ps r) s (shape true d s) (shape_extends true d (first _ _ c) s formed)
    (shape_says d (first _ _ c) s formed from e)
    (λ sh. scope_opened >>> λ before. parameter_types (true && is_plain_name d) ps >>> λ types.
    scope_left before >>> λ scope. done (with_function types scope sh))
    (λ sh u h says. function_says from u d (t.function d l ps r) refl sh says
    (parameter_types (true && is_plain_name d) ps (within u))
    (parameters_extend (true && is_plain_name d) ps (second _ _ c) (within u) (within_formed u h.formed)
    (within_block u))
    (λ g. subst (λ b. IfParameters from (parameter_types b ps (within u))) (sym g)
    (all_parameters from ps (second _ _ c) (within u) (within_formed u h.formed) (within_block u)
    (e ∙ sym (h.variables refl)))))
