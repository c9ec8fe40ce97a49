-- Declared variables and static objects without linkage, with their initializers (C99 6.7.8).
use Rattle.std.proofs.Common.{◌≡◌, ℕ, ◌+◌, Bool, true, false, ◌&&◌, refl, sym, ap, ◌∙◌, subst, List, [], ◌∷◌, ◌++◌}
use Rattle.std.proofs.Common.{length, Option, Some, None, arith}
use Rattle.std.proofs.lemmas.Bool.{and_from}
use Rattle.std.specs.Prelude.{Ok, Err, is_some, not}
use Rattle.c_syntax.specs.Tree.{Initializer}
use Rattle.c_tree.specs.declared.c_type.TypeWord.{TypeWord}
use Rattle.c_tree.specs.Extents.{extent_of}
use Rattle.c_tree.specs.Kinds.{has_size, is_kind, is_scalar, size_of_kind}
use Rattle.c_tree.specs.Statements.{DeclaredVariable, Part}
use Rattle.c_tree.specs.Tree.{kind_of}
use Rattle.c_tree.specs.Valid.{Scope, at_number, is_valid, variable_at}
use Rattle.c_tree.specs.ValidProgram.{count_from, are_declared, are_parts, is_initializer, is_variable}
use Rattle.c_tree.specs.Blocks.{variables_in}
use Rattle.c_faults.specs.Answer.{Answer, ◌>>=◌}
use Rattle.c_rules.proofs.FineUnary.{same_kind}
use Rattle.c_scope.specs.declared.meaning.Designated.{Designated}
use Rattle.c_scope.specs.declared.meaning.Designated.TheVariants as what
use Rattle.c_scope.specs.declared.meaning.Meaning.TheVariants as meaning
use Rattle.c_scope.specs.Names.{Name}
use Rattle.c_operand_typing.specs.Primaries.{is_aggregate, is_marked}
use Rattle.c_typing_state.specs.State.{State, extents}
use Rattle.c_unit_typing.specs.Declarations.{initialized_if, initializer_if, kind_in, parts_initializer, static_in}
use Rattle.c_unit_typing.specs.Declarations.{variable_in, with_static, with_variable}
use Rattle.c_unit_typing.specs.Files.{File, in_state, ◌~>◌}
use Rattle.typing_laws.specs.Validity.More.{AreMore}
use Rattle.typing_laws.specs.Validity.Sound.{Covers, IsFormed}
use Rattle.typing_laws.specs.Validity.Steps.{Structures}
use Rattle.typing_laws.proofs.Validity.Common.{neither_left}
use Rattle.typing_laws.proofs.Validity.Kept.{extent_kept}
use Rattle.typing_laws.proofs.Validity.Moved.{get_last}
use Rattle.typing_laws.proofs.Validity.Sound.{same_list}
use Rattle.typing_laws.specs.Declarators.Given.{anything}
use Rattle.typing_laws.proofs.Declarators.Lists.{added_length}
use Rattle.typing_laws.specs.Declarations.Binding.{Binds, HasStatic, HasVariable, IsCompleteFor, IsObjectType}
use Rattle.typing_laws.proofs.Declarations.Variables.{declared_is_variable, static_is, variable_is}
use Rattle.typing_laws.specs.Scopes.Regular.{is_regular_initializer_if}
use Rattle.typing_laws.proofs.Scopes.Leading.{bound_leads, leads_on}
use Rattle.typing_laws.specs.Layouts.Listed.{HasSizes, IfLaidOut, IsLaidOut}
use Rattle.program_laws.specs.Bodies.Given.{AreInitialized, IfInitialized, IsScalarPart}
use Rattle.program_laws.specs.Bodies.Standing.{AreVariables, Ends, IsOpen, IsReady, Stands}
use Rattle.program_laws.specs.Bodies.Typed.{IfTyped, Typed}
use Rattle.program_laws.proofs.Bodies.Chained.{no_numbers, no_variables}
use Rattle.program_laws.proofs.Bodies.Entities.{entities_same, linked_bound}
use Rattle.program_laws.proofs.Bodies.Given.{initializer_given, initializer_laid}
use Rattle.program_laws.proofs.Bodies.Initialized.{IfInitializes, Initializes, TypeBehind, as_it_is, extent_at}
use Rattle.program_laws.proofs.Bodies.Initialized.{initialized_is, static_meant, variable_meant, with_count}
use Rattle.program_laws.proofs.Bodies.Opened.{alone_among, among_alone, count_alone}
use Rattle.program_laws.proofs.Bodies.Standing.{stands_bound}
use Rattle.typing_laws.proofs.Common.{filed, other_is}

abbrev pub AreDeclared : Scope → List DeclaredVariable → Type 0
AreDeclared scope ds = are_declared scope ds ≡ true

-- what initializers are taken to give, where there is one

abbrev IfHas : Scope → (last : Structures) → (has_one : Bool) → Answer (State × (List TypeWord × List Part)) → Type 0
IfHas scope last has_one (Ok r) = has_one ≡ true → Covers scope last r.0 → AreInitialized scope r.0 r.1.0 r.1.1
IfHas scope last has_one (Err e) = Unit {0}

no_initializer : (scope : Scope) (last : Structures) (a : Answer (State × (List TypeWord × List Part)))
    → IfHas scope last false a
no_initializer scope last (Ok r) = λ e. absurd cc
no_initializer scope last (Err e) = tt

-- the initializer of a variable

module _ (scope : Scope) (t : State) (n : ℕ) (type : List TypeWord) (has : HasVariable scope t n type) where
  plain_valid : (e : Bool) → (variable_in t n type).is_object ≡ e → e ≡ false
      → is_variable (variable_in t n type) ≡ true → (parts : List Part) → IsScalarPart scope (kind_in t type) parts
      → is_initializer scope n (Some (parts_initializer false parts)) ≡ true
  plain_valid e is is_false scalar parts one =
      subst (λ ps. is_initializer scope n (Some (parts_initializer false ps)) ≡ true) (sym one.is)
      (and_from (is_valid scope one.tree) _ one.valid
      (and_from (not (variable_at scope n).is_object && is_kind (variable_at scope n).kind (kind_of one.tree))
      (is_scalar (kind_of one.tree))
      (and_from (not (variable_at scope n).is_object) (is_kind (variable_at scope n).kind (kind_of one.tree))
      (ap (λ v. not v.is_object) has ∙ ap not (is ∙ is_false))
      (ap (λ v. is_kind v.kind (kind_of one.tree)) has ∙ ap (is_kind (kind_in t type)) one.kind
      ∙ same_kind (kind_in t type)))
      (ap is_scalar one.kind
      ∙ other_is (variable_in t n type).is_object (has_size (kind_in t type)) (is_scalar (kind_in t type))
      (is ∙ is_false) scalar)))

  made_valid : (is_object : Bool) → (variable_in t n type).is_object ≡ is_object → (parts : List Part)
      → AreInitialized scope t type parts
      → is_initializer scope n (Some (parts_initializer is_object parts)) ≡ true
  made_valid true is parts h =
      and_from (variable_at scope n).is_object (are_parts scope (size_of_kind (variable_at scope n).kind) parts)
      (ap (λ v. v.is_object) has ∙ is)
      (ap (λ v. are_parts scope (size_of_kind v.kind) parts) has ∙ h.within)
  made_valid false is parts h =
      plain_valid false is refl
      (declared_is_variable t n type h.complete.extent h.complete.is h.complete.object) parts
      (h.scalar (neither_left (is_aggregate type) (is_marked t.objects n) is))

  pub initializer_valid : (has_one : Bool) (parts : List Part)
      → (has_one ≡ true → AreInitialized scope t type parts)
      → is_initializer scope n (initializer_if has_one (variable_in t n type).is_object parts) ≡ true
  initializer_valid false parts h = refl
  initializer_valid true parts h = made_valid (variable_in t n type).is_object refl parts (h refl)

-- the type behind an initializer is complete
object_behind : (u t : State) (has_one : Bool) (type behind : List TypeWord) → AreMore (extents u) (extents t)
    → IsCompleteFor (extents u) has_one type → TypeBehind has_one type behind
    → (has_one ≡ true → IsObjectType (extents t) behind) → IsObjectType (extents t) behind
object_behind u t has_one type behind more complete (as_it_is e g) h =
    let is = extent_at (extents u) has_one type complete g in
    record {
      extent = is.extent;
      is = ap (extent_of (extents t)) e
          ∙ extent_kept (extents u) (extents t) more type is.extent is.is;
      object = is.object;
    }
object_behind u t has_one type behind more complete (with_count e array i element g k) h = h e

validity : (scope : Scope) (last : Structures) (d : Designated) (name : Name × ℕ) (type : List TypeWord)
    (x : Option Initializer) → is_regular_initializer_if x ≡ true → (u : State) → IsFormed u → IsLaidOut u
    → IsCompleteFor (extents u) (is_some x) type → HasSizes (extents u) type → Stands scope last u
    → IfHas scope last (is_some x) (initialized_if d name type x u)
validity scope last d name type None c u formed laid complete sizes stands =
    no_initializer scope last (initialized_if d name type None u)
validity scope last d name type (Some x) c u formed laid complete sizes stands =
    from_given (initialized_if d name type (Some x) u)
    (initializer_given scope last d name type u stands.knows x c formed laid complete sizes)
  where
    from_given : (a : Answer (State × (List TypeWord × List Part))) → IfInitialized scope last a
        → IfHas scope last true a
    from_given (Ok r) h = λ e covers. h covers
    from_given (Err e) h = tt

-- an object that is declared in a state, and its name
module _ (result : List TypeWord) (f : File) (ready : IsReady f.state) (u : State) (formed : IsFormed u)
    (entities : u.environment.entities ≡ f.state.environment.entities) (line : ℕ) (name : Name)
    (type : List TypeWord) (x : Option Initializer) (c : is_regular_initializer_if x ≡ true)
    (laid : IsLaidOut u)
    (complete : IsCompleteFor (extents u) (is_some x) type) (sizes : HasSizes (extents u) type) where
  abbrev StandBehind : Designated → Answer (State × (List TypeWord × List Part)) → Type 0
  StandBehind d a = (scope : Scope) (last : Structures) → Stands scope last u → IfHas scope last (is_some x) a

  -- a variable, which has the next number

  module _ (n : ℕ) (number : n ≡ f.state.environment.variables)
      (b : Binds name (meaning.Named (what.Variable n) type) f.state u)
      (count : u.environment.variables ≡ f.state.environment.variables + 1) where
    abbrev made : (t : State) → (behind : List TypeWord) → File
    made t behind = record f { state = t; variables = f.variables ++ variable_in t n behind ∷ [] }

    -- the scope of the function has it as it is declared
    has_variable : (scope : Scope) (last : Structures) (t : State) (behind : List TypeWord)
        → t.environment.variables ≡ u.environment.variables → Ends scope last result (made t behind)
        → IsOpen scope n → HasVariable scope t n behind
    has_variable scope last t behind same ends shown =
        let added = added_length f.variables (variable_in t n behind) in
        let all = ends.count in
        let at : ends.first + length f.variables ≡ n = omega (arith, same, count, added, all, number) in
        shown ∙ ap (at_number scope.all) (sym at)
        ∙ ends.variables (length f.variables) (variable_in t n behind)
        (get_last f.variables (variable_in t n behind))

    module _ (r : State × (List TypeWord × List Part))
        (h : Initializes (what.Variable n) (is_some x) u type r.0 r.1.0)
        (is : StandBehind (what.Variable n) (Ok r)) (k : IsLaidOut r.0) where
      abbrev declared_variable : DeclaredVariable
      declared_variable = record {
        variable = n;
        initializer = initializer_if (is_some x) (variable_in r.0 n r.1.0).is_object r.1.1;
      }

      variable_known : (scope : Scope) (last : Structures) → Stands scope last f.state
          → Ends scope last result (made r.0 r.1.0) → IsOpen scope n → HasVariable scope r.0 n r.1.0
          → Stands scope last u
      variable_known scope last stands ends shown has =
          stands_bound scope last name (meaning.Named (what.Variable n) type) f.state u b
          (variable_meant scope last u r.0 h.leads.more ends.covers.more (is_some x) type r.1.0 complete n
          h.leads.objects has h.is) shown stands

      variable_sound : (scope : Scope) (last : Structures) → Stands scope last f.state
          → Ends scope last result (made r.0 r.1.0) → IsOpen scope n
          → AreDeclared scope (declared_variable ∷ [])
          × (Stands scope last r.0 × AreVariables scope (n ∷ []))
      variable_sound scope last stands ends shown =
          let has = has_variable scope last r.0 r.1.0 h.variables ends shown in
          let known = variable_known scope last stands ends shown has in
          let given : is_some x ≡ true → AreInitialized scope r.0 r.1.0 r.1.1 =
          λ e. is scope last known e ends.covers in
          let object = object_behind u r.0 (is_some x) type r.1.0 h.leads.more complete h.is
          (λ e. (given e).complete) in (
            ap (λ z. z && true) (initializer_valid scope r.0 n r.1.0 has (is_some x) r.1.1 given),
            (
              h.stands scope last known
                  (variable_is scope r.0 last ends.covers.more n r.1.0 object.extent object.is object.object has) shown,
              λ m e. ap (λ k. is_variable (at_number scope.all k)) (sym (alone_among n m e))
                  ∙ ap is_variable (sym shown ∙ has)
                  ∙ declared_is_variable r.0 n r.1.0 object.extent object.is object.object,
            ),
          )

      variable_made : Typed result variables_in variables_in AreDeclared f
          (made r.0 r.1.0, declared_variable ∷ [])
      variable_made =
          let same = h.variables in
          let added = added_length f.variables (variable_in r.0 n r.1.0) in
          record {
            leads = record {
              state = leads_on f.state u r.0 (bound_leads name (meaning.Named (what.Variable n) type) f.state u b
                  formed) h.leads;
              variables = record { rest = _; is = refl };
              statics = same_list f.statics;
              initializers = same_list f.initializers;
              definitions = refl;
              objects = refl;
              taken = refl;
            };
            numbers = record {
              counted = ap (λ z. count_from z (n ∷ [])) (sym number) ∙ count_alone n;
              count = omega (arith, same, count);
              made = omega (arith, added);
            };
            entities = entities_same f.state.environment r.0.environment (h.entities ∙ entities);
            linked = h.linked
                (linked_bound name (meaning.Named (what.Variable n) type) f.state u b refl entities ready.linked);
            laid = k;
            sound = λ scope last stands ends shown.
                variable_sound scope last stands ends (shown n (among_alone n));
          }

    variable_by : (a : Answer (State × (List TypeWord × List Part)))
        → IfInitializes (what.Variable n) (is_some x) u type a → StandBehind (what.Variable n) a → IfLaidOut anything a
        → IfTyped result variables_in variables_in AreDeclared f
        (a >>= filed (record f { state = u }) >>= λ r. with_variable n (is_some x) r.1 r.0)
    variable_by (Ok r) h is k = variable_made r h is k.0
    variable_by (Err e) h is k = tt

    pub variable_typed : IfTyped result variables_in variables_in AreDeclared f
        ((in_state (initialized_if (what.Variable n) (name, line) type x) ~> with_variable n (is_some x))
        (record f { state = u }))
    variable_typed =
        variable_by (initialized_if (what.Variable n) (name, line) type x u)
        (initialized_is (what.Variable n) refl (name, line) u formed type x c)
        (λ scope last stands.
        validity scope last (what.Variable n) (name, line) type x c u formed laid complete sizes stands)
        (initializer_laid (what.Variable n) (name, line) type x c u formed laid complete sizes)

  -- a static object without linkage

  module _ (n : ℕ) (b : Binds name (meaning.Named (what.Static n) type) f.state u)
      (count : u.environment.variables ≡ f.state.environment.variables) where
    abbrev with_object : (t : State) → (behind : List TypeWord) → List Part → File
    with_object t behind parts = record f { state = t; statics = f.statics ++ (n, static_in t behind parts) ∷ [] }

    has_static : (scope : Scope) (last : Structures) (t : State) (behind : List TypeWord) (parts : List Part)
        → Ends scope last result (with_object t behind parts) → HasStatic scope t n behind
    has_static scope last t behind parts ends =
        let is = ends.statics (length f.statics) n (static_in t behind parts)
        (get_last f.statics (n, static_in t behind parts)) in
        record { there = is.there; kind = is.kind }

    module _ (r : State × (List TypeWord × List Part))
        (h : Initializes (what.Static n) (is_some x) u type r.0 r.1.0)
        (is : StandBehind (what.Static n) (Ok r)) (k : IsLaidOut r.0) where
      static_sound : (scope : Scope) (last : Structures) → Stands scope last f.state
          → Ends scope last result (with_object r.0 r.1.0 r.1.1) → Stands scope last r.0
      static_sound scope last stands ends =
          let has = has_static scope last r.0 r.1.0 r.1.1 ends in
          let known = stands_bound scope last name (meaning.Named (what.Static n) type) f.state u b
          (static_meant scope last u r.0 h.leads.more ends.covers.more (is_some x) type r.1.0 complete n has
          h.is) tt stands in
          let object = object_behind u r.0 (is_some x) type r.1.0 h.leads.more complete h.is
          (λ e. (is scope last known e ends.covers).complete) in
          h.stands scope last known
          (static_is scope r.0 last ends.covers.more n r.1.0 object.extent object.is object.object has) tt

      static_made : Typed result variables_in variables_in AreDeclared f (with_object r.0 r.1.0 r.1.1, [])
      static_made = record {
        leads = record {
          state = leads_on f.state u r.0
              (bound_leads name (meaning.Named (what.Static n) type) f.state u b formed) h.leads;
          variables = same_list f.variables;
          statics = record { rest = _; is = refl };
          initializers = same_list f.initializers;
          definitions = refl;
          objects = refl;
          taken = refl;
        };
        numbers = no_numbers f (with_object r.0 r.1.0 r.1.1) (h.variables ∙ count) refl;
        entities = entities_same f.state.environment r.0.environment (h.entities ∙ entities);
        linked = h.linked
            (linked_bound name (meaning.Named (what.Static n) type) f.state u b refl entities ready.linked);
        laid = k;
        sound = λ scope last stands ends shown.
            (refl, (static_sound scope last stands ends, no_variables scope));
      }

    static_by : (a : Answer (State × (List TypeWord × List Part)))
        → IfInitializes (what.Static n) (is_some x) u type a → StandBehind (what.Static n) a → IfLaidOut anything a
        → IfTyped result variables_in variables_in AreDeclared f
        (a >>= filed (record f { state = u }) >>= λ r. with_static n r.1 r.0)
    static_by (Ok r) h is k = static_made r h is k.0
    static_by (Err e) h is k = tt

    pub static_typed : IfTyped result variables_in variables_in AreDeclared f
        ((in_state (initialized_if (what.Static n) (name, line) type x) ~> with_static n) (record f { state = u }))
    static_typed =
        static_by (initialized_if (what.Static n) (name, line) type x u)
        (initialized_is (what.Static n) refl (name, line) u formed type x c)
        (λ scope last stands.
        validity scope last (what.Static n) (name, line) type x c u formed laid complete sizes stands)
        (initializer_laid (what.Static n) (name, line) type x c u formed laid complete sizes)
