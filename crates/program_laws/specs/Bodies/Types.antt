-- Types that are whole: as many words as they have parts to tell (C99 6.2.5), and typedef names that stand for such.
use Rattle.std.specs.Prelude.{◌≡◌, ℕ, zero, suc, Bool, true, false, List, [], ◌∷◌, Option, Some, None}
use Rattle.std.specs.List.{list_all}
use Rattle.c_tree.specs.declared.c_type.TypeWord.{TypeWord}
use Rattle.c_tree.specs.declared.expression.Kind.{Kind}
use Rattle.c_tree.specs.TypesAgree.{is_kind_of, kind_of_type, still}
use Rattle.c_rules.specs.Types.{unqualified}
use Rattle.c_declarators.specs.Derivations.{Derivation, to_array, to_function, to_open_array, to_pointer}
use Rattle.c_scope.specs.declared.meaning.Meaning.{Meaning}
use Rattle.c_scope.specs.declared.meaning.Meaning.TheVariants.{Constant, Named, Typedef}
use Rattle.c_scope.specs.Names.{Name, Names, meaning}
use Rattle.c_typing_state.specs.State.{State}
use Rattle.typing_laws.specs.Validity.Steps.{Structures}

-- whether words are those of so many types
abbrev pub are_types : ℕ → List TypeWord → Bool
are_types zero [] = true
are_types zero (w ∷ ws) = false
are_types (suc n) [] = false
are_types (suc n) (w ∷ ws) = are_types (still w n) ws

abbrev pub is_type : List TypeWord → Bool
is_type ws = are_types 1 ws

pub record NameTypes (state : State) : Type 0 where
  pub each : (name : Name) (type : List TypeWord) → meaning name state.environment.names ≡ Some (Typedef type)
      → is_type type ≡ true

abbrev pub IsTypeIf : Option (List TypeWord) → Type 0
IsTypeIf None = Unit {0}
IsTypeIf (Some type) = is_type type ≡ true

abbrev pub TakesTypes : Derivation → Type 0
TakesTypes (to_function types) = list_all is_type types ≡ true
TakesTypes (to_pointer is_const) = Unit {0}
TakesTypes to_open_array = Unit {0}
TakesTypes (to_array count) = Unit {0}

abbrev pub TakeTypes : List Derivation → Type 0
TakeTypes [] = Unit {0}
TakeTypes (d ∷ ds) = TakesTypes d × TakeTypes ds

-- the types of the parameters among some names, in their order, without qualifiers (6.7.5.3 paragraph 15)

abbrev pub NextType : (behind : List (List TypeWord) → Type 0) → (type : List TypeWord) → List (List TypeWord) → Type 0
NextType behind type [] = true ≡ false
NextType behind type (t ∷ ts) = (t ≡ unqualified type) × behind ts

abbrev pub EntryTypes : (behind : List (List TypeWord) → Type 0) → Meaning → List (List TypeWord) → Type 0
EntryTypes behind (Named d type) types = NextType behind type types
EntryTypes behind (Constant w) types = behind types
EntryTypes behind (Typedef type) types = true ≡ false

abbrev pub AreTypesOf : Names Meaning → (types : List (List TypeWord)) → Type 0
AreTypesOf [] types = types ≡ []
AreTypesOf (e ∷ entries) types = EntryTypes (AreTypesOf entries) e.1 types

-- kinds of types, one for each
abbrev pub KindsFit : Structures → (types : List (List TypeWord)) → (kinds : List Kind) → Type 0
KindsFit es [] [] = Unit {0}
KindsFit es [] (k ∷ ks) = true ≡ false
KindsFit es (t ∷ ts) [] = true ≡ false
KindsFit es (t ∷ ts) (k ∷ ks) = (is_kind_of (kind_of_type es t) k ≡ true) × KindsFit es ts ks
