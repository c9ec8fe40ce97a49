-- What names stand for, in scopes in which they stand for the same, and where they are declared.
use Rattle.std.proofs.Common.{◌≡◌, ℕ, false, sym, ap, ◌∙◌, List, length, Option, Some, None}
use Rattle.c_tree.specs.declared.c_type.TypeWord.{TypeWord}
use Rattle.c_tree.specs.Valid.{Scope, is_named_as, variable_at, within}
use Rattle.c_scope.specs.declared.meaning.Designated.{Designated}
use Rattle.c_scope.specs.declared.meaning.Designated.TheVariants as what
use Rattle.c_scope.specs.declared.meaning.Meaning.{Meaning}
use Rattle.c_scope.specs.declared.meaning.Meaning.TheVariants as meaning
use Rattle.c_typing_state.specs.State.{State}
use Rattle.typing_laws.specs.Validity.Names.{IsMeant, IsStaticOf, IsVariableOf, kind_among}
use Rattle.typing_laws.specs.Validity.Steps.{Structures}
use Rattle.typing_laws.specs.Declarators.Extending.{IsNew, IsNewObject}
use Rattle.program_laws.specs.Bodies.Standing.{IsMeantIfLinked, IsOpenMeaning, IsOpenObject}
use Rattle.program_laws.proofs.Bodies.Opened.{open_within}

variable_within : (a b : Scope) (last : Structures) (s : State) (n : ℕ) (type : List TypeWord)
    → variable_at b n ≡ variable_at a n → IsVariableOf a last s n type → IsVariableOf b last s n type
variable_within a b last s n type e is = record {
  sized = is.sized;
  kind = ap (λ v. is_named_as v.kind (kind_among last type)) e ∙ is.kind;
  object = ap (λ v. v.is_object) e ∙ is.object;
}

static_within : (scope : Scope) (numbers : List ℕ) (last : Structures) (n : ℕ) (type : List TypeWord)
    → IsStaticOf scope last n type → IsStaticOf (within scope numbers) last n type
static_within scope numbers last n type is = record { sized = is.sized; there = is.there; kind = is.kind }

-- where more variables can be named
module _ (scope : Scope) (numbers : List ℕ) (lengths : length scope.variables ≡ length scope.all) (last : Structures)
    (s : State) where
  pub meant_within : (m : Option Meaning) → IsOpenMeaning scope m → IsMeant scope last s m
      → IsMeant (within scope numbers) last s m
  meant_within None shown is = tt
  meant_within (Some (meaning.Typedef type)) shown is = tt
  meant_within (Some (meaning.Constant w)) shown is = is
  meant_within (Some (meaning.Named (what.Object n) type)) shown is =
      static_within scope numbers last n type is
  meant_within (Some (meaning.Named (what.Static n) type)) shown is =
      static_within scope numbers last n type is
  meant_within (Some (meaning.Named (what.Function n) type)) shown is = λ defined.
      (let f = is defined in record { signature = f.signature; has = f.has; spelled = f.spelled })
  meant_within (Some (meaning.Named (what.Library r) type)) shown is = tt
  meant_within (Some (meaning.Named (what.Variable n) type)) shown is =
      variable_within scope (within scope numbers) last s n type
      (open_within scope numbers lengths n shown ∙ sym shown) is

  pub open_meaning : (m : Option Meaning) → IsOpenMeaning scope m → IsOpenMeaning (within scope numbers) m
  open_meaning None shown = tt
  open_meaning (Some (meaning.Typedef type)) shown = tt
  open_meaning (Some (meaning.Constant w)) shown = tt
  open_meaning (Some (meaning.Named (what.Object n) type)) shown = tt
  open_meaning (Some (meaning.Named (what.Static n) type)) shown = tt
  open_meaning (Some (meaning.Named (what.Function n) type)) shown = tt
  open_meaning (Some (meaning.Named (what.Library r) type)) shown = tt
  open_meaning (Some (meaning.Named (what.Variable n) type)) shown = open_within scope numbers lengths n shown

  -- what is linked stands for the same in each scope of the function

  linked_back : (d : Designated) (type : List TypeWord)
      → IsMeantIfLinked (within scope numbers) last s (Some (meaning.Named d type))
      → IsMeantIfLinked scope last s (Some (meaning.Named d type))
  linked_back (what.Object n) type is = λ e.
      (let g = is e in record { sized = g.sized; there = g.there; kind = g.kind })
  linked_back (what.Static n) type is = λ e. absurd cc
  linked_back (what.Function n) type is = λ e. λ defined.
      (let f = is e defined in record { signature = f.signature; has = f.has; spelled = f.spelled })
  linked_back (what.Library r) type is = λ e. tt
  linked_back (what.Variable n) type is = λ e. absurd cc

  pub if_linked_back : (m : Option Meaning) → IsMeantIfLinked (within scope numbers) last s m
      → IsMeantIfLinked scope last s m
  if_linked_back None is = tt
  if_linked_back (Some (meaning.Typedef type)) is = tt
  if_linked_back (Some (meaning.Constant w)) is = tt
  if_linked_back (Some (meaning.Named d type)) is = linked_back d type is

-- what is known of a name holds where it has linkage
pub if_linked : (scope : Scope) (last : Structures) (s : State) (m : Option Meaning) → IsMeant scope last s m
    → IsMeantIfLinked scope last s m
if_linked scope last s None is = tt
if_linked scope last s (Some (meaning.Typedef type)) is = tt
if_linked scope last s (Some (meaning.Constant w)) is = tt
if_linked scope last s (Some (meaning.Named d type)) is = λ e. is

-- names that are new outside of lists of parameters are no variables

new_object_open : (scope : Scope) (d : Designated) → IsNewObject false d → IsOpenObject scope d
new_object_open scope (what.Variable n) is = absurd cc
new_object_open scope (what.Object n) is = tt
new_object_open scope (what.Static n) is = tt
new_object_open scope (what.Function n) is = tt
new_object_open scope (what.Library r) is = tt

pub new_open : (scope : Scope) (m : Meaning) → IsNew false m → IsOpenMeaning scope (Some m)
new_open scope (meaning.Constant w) is = tt
new_open scope (meaning.Typedef type) is = tt
new_open scope (meaning.Named d type) is = new_object_open scope d is
