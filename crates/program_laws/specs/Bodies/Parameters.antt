-- The parameters of a function that is defined (C99 6.7.5.3 paragraph 4, 6.9.1 paragraph 5).
use Rattle.std.specs.Prelude.{◌≡◌, ℕ, suc, true, false, List, [], ◌∷◌, Some}
use Rattle.c_tree.specs.declared.c_type.TypeWord.{TypeWord}
use Rattle.c_scope.specs.declared.meaning.Designated.{Designated}
use Rattle.c_scope.specs.declared.meaning.Designated.TheVariants as what
use Rattle.c_scope.specs.declared.meaning.Meaning.{Meaning}
use Rattle.c_scope.specs.declared.meaning.Meaning.TheVariants as meaning
use Rattle.c_scope.specs.Declaring.{is_linked}
use Rattle.c_scope.specs.Environment.{Environment, in_file}
use Rattle.c_scope.specs.Names.{Name, Names}
use Rattle.c_scope.specs.Names as names
use Rattle.c_typing_state.specs.State.{State}
use Rattle.typing_laws.specs.Validity.Sound.{IsFormed}
use Rattle.typing_laws.specs.Validity.Steps.{Structures}
use Rattle.typing_laws.specs.Declarations.Binding.{IsObjectType}
use Rattle.program_laws.specs.Bodies.Standing.{AreLinked}
use Rattle.program_laws.specs.Bodies.Types.{NameTypes}

-- a parameter has the next number and a complete type

abbrev pub NumberedThen : Structures → (next : ℕ) → (behind : ℕ → Type 0) → (type : List TypeWord) → Designated → Type 0
NumberedThen es next behind type (what.Variable n) = (n ≡ next) × (IsObjectType es type × behind (suc next))
NumberedThen es next behind type (what.Object n) = true ≡ false
NumberedThen es next behind type (what.Static n) = true ≡ false
NumberedThen es next behind type (what.Function n) = true ≡ false
NumberedThen es next behind type (what.Library f) = true ≡ false

abbrev pub EntryThen : Structures → (next : ℕ) → (behind : ℕ → Type 0) → Meaning → Type 0
EntryThen es next behind (meaning.Constant w) = behind next
EntryThen es next behind (meaning.Typedef type) = true ≡ false
EntryThen es next behind (meaning.Named d type) = NumberedThen es next behind type d

-- the names of a list of parameters: these, numbered from one number up to another, and enumerators among them
abbrev pub AreParameters : Structures → (last : ℕ) → Names Meaning → (first : ℕ) → Type 0
AreParameters es last [] first = first ≡ last
AreParameters es last (e ∷ entries) first = EntryThen es first (AreParameters es last entries) e.1

-- at file scope all names of objects and functions have linkage (6.2.2)
pub record IsFileScope (env : Environment) : Type 0 where
  pub linked : (name : Name) (d : Designated) (type : List TypeWord)
      → names.meaning name env.names ≡ Some (meaning.Named d type) → is_linked d ≡ true

-- a state outside of functions
pub record IsOutside (state : State) : Type 0 where
  pub formed : IsFormed state
  pub outer : in_file state.environment ≡ true
  pub variables : state.environment.variables ≡ 0
  pub names : IsFileScope state.environment
  pub linked : AreLinked state.environment
  pub types : NameTypes state
