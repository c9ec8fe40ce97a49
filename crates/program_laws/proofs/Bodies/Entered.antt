-- Names stand for something of the kind of their type where the block of a function begins.
use Rattle.std.proofs.Common.{◌≡◌, ℕ, suc, ◌+◌, true, false, refl, sym, ap, ◌∙◌, subst, List, [], ◌∷◌, ◌++◌}
use Rattle.std.proofs.Common.{length, Bool, Option, Some, None, if◌then◌else◌, nat_le, arith}
use Rattle.std.specs.Prelude.{slice_get}
use Rattle.std.specs.List.{list_all}
use Rattle.std.proofs.lemmas.Bool.{and_from}
use Rattle.std.proofs.lemmas.Option.{get_or_from_slice_get, slice_get_within}
use Rattle.std.proofs.lemmas.List.{get_or_append_left, length-append}
use Rattle.obj_memory.specs.declared.int_type.IntType.TheVariants.{Int}
use Rattle.obj_memory.specs.Integers.{fit}
use Rattle.c_tree.specs.declared.c_type.TypeWord.{TypeWord}
use Rattle.c_tree.specs.declared.program.Variable.{Variable}
use Rattle.c_tree.specs.Blocks.{all_of, body_variables, no_variable}
use Rattle.c_tree.specs.Programs.{Function}
use Rattle.c_tree.specs.Valid.{Scope, at_number}
use Rattle.c_tree.specs.ValidProgram.{is_variable}
use Rattle.c_scope.specs.declared.meaning.Designated.{Designated}
use Rattle.c_scope.specs.declared.meaning.Designated.TheVariants as what
use Rattle.c_scope.specs.declared.meaning.Meaning.{Meaning}
use Rattle.c_scope.specs.declared.meaning.Meaning.TheVariants as meaning
use Rattle.c_scope.specs.Declaring.{is_linked}
use Rattle.c_scope.specs.Names.{Name, Names, declared, found, is_name, or_else}
use Rattle.c_scope.specs.Names as names
use Rattle.c_scope.specs.Parameters.{ParameterScope, with_parameters}
use Rattle.c_typing_state.specs.State.{State, extents}
use Rattle.c_unit_typing.specs.Declarations.{variable_in}
use Rattle.c_unit_typing.specs.Files.{File}
use Rattle.c_unit_typing.specs.Units.{entered, parameter_in, parameters_in}
use Rattle.typing_laws.specs.Validity.More.{AreMore}
use Rattle.typing_laws.specs.Validity.Names.{IsMeant}
use Rattle.typing_laws.specs.Validity.Sound.{IsFormed, Knows}
use Rattle.typing_laws.specs.Validity.Steps.{Structures}
use Rattle.typing_laws.specs.Declarators.Given.{IsParameterScope}
use Rattle.typing_laws.proofs.Declarators.Parameters.{found_last}
use Rattle.typing_laws.specs.Declarations.Binding.{HasVariable, IsObjectType}
use Rattle.typing_laws.proofs.Declarations.Variables.{declared_is_variable, variable_is}
use Rattle.typing_laws.proofs.Scopes.Files.{entered_leads, inside, type_environment}
use Rattle.program_laws.specs.Bodies.Parameters.{AreParameters, EntryThen, IsFileScope, NumberedThen}
use Rattle.program_laws.specs.Bodies.Standing.{IsOpen, IsOpenMeaning, Stands}
use Rattle.program_laws.proofs.Bodies.Ends.{linked_open}
use Rattle.program_laws.proofs.Bodies.Functions.{parameter_open}

-- how many parameters there are, and where each stands among them

numbered_count : (es : Structures) (s : State) (next last : ℕ) (P : ℕ → Type 0) (count : ℕ)
    → ((n : ℕ) → P n → n + count ≡ last) → (type : List TypeWord) (d : Designated) → NumberedThen es next P type d
    → next + length (parameter_in s (meaning.Named d type)) + count ≡ last
numbered_count es s next last P count h type (what.Variable n) is =
    let e = h (suc next) is.1.1 in omega (arith, e)
numbered_count es s next last P count h type (what.Object n) is = absurd cc
numbered_count es s next last P count h type (what.Static n) is = absurd cc
numbered_count es s next last P count h type (what.Function n) is = absurd cc
numbered_count es s next last P count h type (what.Library f) is = absurd cc

entry_count : (es : Structures) (s : State) (next last : ℕ) (P : ℕ → Type 0) (count : ℕ)
    → ((n : ℕ) → P n → n + count ≡ last) → (m : Meaning) → EntryThen es next P m
    → next + length (parameter_in s m) + count ≡ last
entry_count es s next last P count h (meaning.Constant w) is = let e = h next is in omega (arith, e)
entry_count es s next last P count h (meaning.Typedef type) is = absurd cc
entry_count es s next last P count h (meaning.Named d type) is = numbered_count es s next last P count h type d is

pub parameter_count : (es : Structures) (s : State) (last : ℕ) (entries : Names Meaning) (first : ℕ)
    → AreParameters es last entries first → first + length (parameters_in s entries) ≡ last
parameter_count es s last [] first is = omega (arith, is)
parameter_count es s last (e ∷ entries) first is =
    let both = length-append (parameter_in s e.1) (parameters_in s entries) in
    let all = entry_count es s first last (AreParameters es last entries) (length (parameters_in s entries))
    (λ n p. parameter_count es s last entries n p) e.1 is in
    omega (arith, both, all)

-- each holds a scalar or is an object

numbered_valid : (s : State) (next : ℕ) (P : ℕ → Type 0) (vs : List Variable) → ((n : ℕ) → P n
    → list_all is_variable vs ≡ true) → (type : List TypeWord) (d : Designated)
    → NumberedThen (extents s) next P type d
    → list_all is_variable (parameter_in s (meaning.Named d type) ++ vs) ≡ true
numbered_valid s next P vs h type (what.Variable n) is =
    and_from (is_variable (variable_in s n type)) (list_all is_variable vs)
    (declared_is_variable s n type is.1.0.extent is.1.0.is is.1.0.object) (h (suc next) is.1.1)
numbered_valid s next P vs h type (what.Object n) is = absurd cc
numbered_valid s next P vs h type (what.Static n) is = absurd cc
numbered_valid s next P vs h type (what.Function n) is = absurd cc
numbered_valid s next P vs h type (what.Library f) is = absurd cc

entry_valid : (s : State) (next : ℕ) (P : ℕ → Type 0) (vs : List Variable) → ((n : ℕ) → P n
    → list_all is_variable vs ≡ true) → (m : Meaning) → EntryThen (extents s) next P m
    → list_all is_variable (parameter_in s m ++ vs) ≡ true
entry_valid s next P vs h (meaning.Constant w) is = h next is
entry_valid s next P vs h (meaning.Typedef type) is = absurd cc
entry_valid s next P vs h (meaning.Named d type) is = numbered_valid s next P vs h type d is

parameters_valid : (s : State) (last : ℕ) (entries : Names Meaning) (first : ℕ)
    → AreParameters (extents s) last entries first → list_all is_variable (parameters_in s entries) ≡ true
parameters_valid s last [] first is = refl
parameters_valid s last (e ∷ entries) first is =
    entry_valid s first (AreParameters (extents s) last entries) (parameters_in s entries)
    (λ n p. parameters_valid s last entries n p) e.1 is

-- a parameter among the variables of a state from a number on
pub record IsAmong (es : Structures) (s : State) (first : ℕ) (variables : List Variable) (n : ℕ) (type : List TypeWord)
    : Type 0 where
  pub index : ℕ
  pub number : n ≡ first + index
  pub is : slice_get variables index ≡ Some (variable_in s n type)
  pub object : IsObjectType es type

-- each name that stands for a variable stands for one of them
abbrev pub IsAmongIf : Structures → State → (first : ℕ) → (variables : List Variable) → Option Meaning → Type 0
IsAmongIf es s first vs None = Unit {0}
IsAmongIf es s first vs (Some (meaning.Constant w)) = Unit {0}
IsAmongIf es s first vs (Some (meaning.Typedef type)) = true ≡ false
IsAmongIf es s first vs (Some (meaning.Named (what.Variable n) type)) = IsAmong es s first vs n type
IsAmongIf es s first vs (Some (meaning.Named (what.Object n) type)) = true ≡ false
IsAmongIf es s first vs (Some (meaning.Named (what.Static n) type)) = true ≡ false
IsAmongIf es s first vs (Some (meaning.Named (what.Function n) type)) = true ≡ false
IsAmongIf es s first vs (Some (meaning.Named (what.Library f) type)) = true ≡ false

-- behind one more variable
later : (es : Structures) (s : State) (first : ℕ) (v : Variable) (vs : List Variable) (o : Option Meaning)
    → IsAmongIf es s (suc first) vs o → IsAmongIf es s first (v ∷ vs) o
later es s first v vs None is = tt
later es s first v vs (Some (meaning.Constant w)) is = tt
later es s first v vs (Some (meaning.Typedef type)) is = is
later es s first v vs (Some (meaning.Named (what.Variable n) type)) is =
    let at = is.number in
    record { index = suc is.index; number = omega (arith, at); is = is.is; object = is.object }
later es s first v vs (Some (meaning.Named (what.Object n) type)) is = is
later es s first v vs (Some (meaning.Named (what.Static n) type)) is = is
later es s first v vs (Some (meaning.Named (what.Function n) type)) is = is
later es s first v vs (Some (meaning.Named (what.Library f) type)) is = is

module _ (es : Structures) (s : State) (vs : List Variable) (o : Option Meaning) (P : ℕ → Type 0)
    (h : (n : ℕ) → P n → IsAmongIf es s n vs o) where
  numbered_among : (next : ℕ) (type : List TypeWord) (d : Designated) (b : Bool) → NumberedThen es next P type d
      → IsAmongIf es s next (parameter_in s (meaning.Named d type) ++ vs)
      (if b then Some (meaning.Named d type) else o)
  numbered_among next type (what.Variable n) true is =
      let at = is.0 in
      record { index = 0; number = omega (arith, at); is = refl; object = is.1.0 }
  numbered_among next type (what.Variable n) false is =
      later es s next (variable_in s n type) vs o (h (suc next) is.1.1)
  numbered_among next type (what.Object n) b is = absurd cc
  numbered_among next type (what.Static n) b is = absurd cc
  numbered_among next type (what.Function n) b is = absurd cc
  numbered_among next type (what.Library f) b is = absurd cc

  entry_among : (next : ℕ) (m : Meaning) (b : Bool) → EntryThen es next P m
      → IsAmongIf es s next (parameter_in s m ++ vs) (if b then Some m else o)
  entry_among next (meaning.Constant w) true is = tt
  entry_among next (meaning.Constant w) false is = h next is
  entry_among next (meaning.Typedef type) b is = absurd cc
  entry_among next (meaning.Named d type) b is = numbered_among next type d b is

pub declared_among : (es : Structures) (s : State) (last : ℕ) (name : Name) (entries : Names Meaning) (first : ℕ)
    → AreParameters es last entries first
    → IsAmongIf es s first (parameters_in s entries) (declared name entries)
declared_among es s last name [] first is = tt
declared_among es s last name (e ∷ entries) first is =
    entry_among es s (parameters_in s entries) (declared name entries) (AreParameters es last entries)
    (λ n p. declared_among es s last name entries n p) first e.1 (is_name name e.0) is

-- what stands for a name in the block of a function: a parameter, or what has linkage

linked_meant : (scope : Scope) (last : Structures) (s t : State) → t.environment.facts ≡ s.environment.facts
    → (d : Designated) (type : List TypeWord) → is_linked d ≡ true
    → IsMeant scope last s (Some (meaning.Named d type)) → IsMeant scope last t (Some (meaning.Named d type))
linked_meant scope last s t f (what.Object n) type l is = is
linked_meant scope last s t f (what.Function n) type l is =
    λ defined. is (ap (λ z. nat_le (length z.functions) n) (sym f) ∙ defined)
linked_meant scope last s t f (what.Library r) type l is = tt
linked_meant scope last s t f (what.Static n) type l is = absurd cc
linked_meant scope last s t f (what.Variable n) type l is = absurd cc

module _ (scope : Scope) (last : Structures) (s t : State) (f : t.environment.facts ≡ s.environment.facts) where
  file_meant : (m : Option Meaning)
      → ((d : Designated) (type : List TypeWord) → m ≡ Some (meaning.Named d type) → is_linked d ≡ true)
      → IsMeant scope last s m → IsMeant scope last t m
  file_meant None l is = tt
  file_meant (Some (meaning.Typedef type)) l is = tt
  file_meant (Some (meaning.Constant w)) l is = is
  file_meant (Some (meaning.Named d type)) l is = linked_meant scope last s t f d type (l d type refl) is

  file_open : (m : Option Meaning)
      → ((d : Designated) (type : List TypeWord) → m ≡ Some (meaning.Named d type) → is_linked d ≡ true)
      → IsOpenMeaning scope m
  file_open None l = tt
  file_open (Some (meaning.Typedef type)) l = tt
  file_open (Some (meaning.Constant w)) l = tt
  file_open (Some (meaning.Named d type)) l = linked_open scope d (l d type refl)

-- a parameter in the scope of the function
module _ (scope : Scope) (f : Function) (all : scope.all ≡ all_of f)
    (variables : scope.variables ≡ f.parameters ++ body_variables f) (last : Structures) (t : State)
    (more : AreMore (extents t) last) where
  parameter_shown : (n : ℕ) (type : List TypeWord) → IsAmong (extents t) t 0 f.parameters n type → IsOpen scope n
  parameter_shown n type is =
      let low = slice_get_within f.parameters is.index (variable_in t n type) is.is in
      let at = is.number in
      parameter_open scope f all variables n (omega (arith, low, at))

  parameter_has : (n : ℕ) (type : List TypeWord) → IsAmong (extents t) t 0 f.parameters n type
      → HasVariable scope t n type
  parameter_has n type is =
      let low = slice_get_within f.parameters is.index (variable_in t n type) is.is in
      let at : n ≡ is.index = let e = is.number in omega (arith, e) in
      parameter_shown n type is ∙ ap (λ vs. at_number vs n) all
      ∙ get_or_append_left f.parameters f.variables no_variable n (omega (arith, low, at))
      ∙ ap (λ k. at_number f.parameters k) at
      ∙ get_or_from_slice_get f.parameters is.index (variable_in t n type) no_variable is.is

  parameter_or : (a b : Option Meaning) → IsAmongIf (extents t) t 0 f.parameters a
      → ((w : ℕ) → or_else a b ≡ Some (meaning.Constant w) → fit Int w ≡ w)
      → IsMeant scope last t b × IsOpenMeaning scope b
      → IsMeant scope last t (or_else a b) × IsOpenMeaning scope (or_else a b)
  parameter_or None b h w g = g
  parameter_or (Some (meaning.Constant w)) b h fits g = (fits w refl, tt)
  parameter_or (Some (meaning.Typedef type)) b h w g = absurd cc
  parameter_or (Some (meaning.Named (what.Variable n) type)) b h w g = (
    variable_is scope t last more n type h.object.extent h.object.is h.object.object (parameter_has n type h),
    parameter_shown n type h,
  )
  parameter_or (Some (meaning.Named (what.Object n) type)) b h w g = absurd cc
  parameter_or (Some (meaning.Named (what.Static n) type)) b h w g = absurd cc
  parameter_or (Some (meaning.Named (what.Function n) type)) b h w g = absurd cc
  parameter_or (Some (meaning.Named (what.Library r) type)) b h w g = absurd cc

-- where the block of a function begins

module _ (number : ℕ) (type : List TypeWord) (p : ParameterScope) (before : File) where
  abbrev there : State
  there = (entered number type p before).state

  pub environment_is : there.environment ≡ with_parameters p before.state.environment
  environment_is = type_environment type (inside number p before)

  extents_are : extents there ≡ extents before.state
  extents_are = ap (λ e. e.structures.extents) environment_is

  module _ (formed : IsFormed before.state) (is : IsParameterScope before.state p)
      (file : IsFileScope before.state.environment)
      (parameters : AreParameters (extents before.state) p.variables p.names 0) where
    pub parameters_there : AreParameters (extents there) p.variables p.names 0
    parameters_there = subst (λ es. AreParameters es p.variables p.names 0) (sym extents_are) parameters

    pub entered_count : there.environment.variables ≡ length (parameters_in there p.names)
    entered_count =
        let count = parameter_count (extents there) there p.variables p.names 0 parameters_there in
        ap (λ e. e.variables) environment_is ∙ omega (arith, count)

    pub entered_valid : list_all is_variable (parameters_in there p.names) ≡ true
    entered_valid = parameters_valid there p.variables p.names 0 parameters_there

    module _ (scope : Scope) (last : Structures) (f : Function) (all : scope.all ≡ all_of f)
        (variables : scope.variables ≡ f.parameters ++ body_variables f)
        (same : f.parameters ≡ parameters_in there p.names) (knows : Knows scope last before.state)
        (more : AreMore (extents there) last) where
      file_is : (name : Name)
          → names.meaning name before.state.environment.names
          ≡ found name (before.state.environment.names.outer ++ before.state.environment.names.current ∷ [])
      file_is name =
          sym (found_last name before.state.environment.names.outer before.state.environment.names.current)

      name_is : (name : Name)
          → names.meaning name there.environment.names
          ≡ or_else (declared name p.names)
          (found name (before.state.environment.names.outer ++ before.state.environment.names.current ∷ []))
      name_is name = ap (λ e. names.meaning name e.names) environment_is

      around : (name : Name)
          → IsMeant scope last there
          (found name (before.state.environment.names.outer ++ before.state.environment.names.current ∷ []))
          × IsOpenMeaning scope
          (found name (before.state.environment.names.outer ++ before.state.environment.names.current ∷ []))
      around name =
          let m = names.meaning name before.state.environment.names in (
            subst (IsMeant scope last there) (file_is name)
                (file_meant scope last before.state there (ap (λ e. e.facts) environment_is) m
                (file.linked name) (knows.names name)),
            subst (IsOpenMeaning scope) (file_is name)
                (file_open scope last before.state there (ap (λ e. e.facts) environment_is) m
                (file.linked name)),
          )

      at_name : (name : Name)
          → IsMeant scope last there (names.meaning name there.environment.names)
          × IsOpenMeaning scope (names.meaning name there.environment.names)
      at_name name =
          let leads = entered_leads before formed number p is type 0 in
          let among = subst (λ vs. IsAmongIf (extents there) there 0 vs (declared name p.names)) (sym same)
          (declared_among (extents there) there p.variables name p.names 0 parameters_there) in
          subst (λ m. IsMeant scope last there m × IsOpenMeaning scope m) (sym (name_is name))
          (parameter_or scope f all variables last there more (declared name p.names)
          (found name (before.state.environment.names.outer ++ before.state.environment.names.current ∷ [])) among
          (λ w e. leads.formed.constants name w (name_is name ∙ e)) (around name))

      pub entered_stands : Stands scope last there
      entered_stands =
          let leads = entered_leads before formed number p is type 0 in
          record {
            knows = record {
              names = λ name. (at_name name).0;
              members = leads.members (record { each = knows.members.each });
            };
            named = λ name. (at_name name).1;
          }
