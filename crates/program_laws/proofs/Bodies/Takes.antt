-- The kinds of parameters are those of the type of their function (C99 6.7.5.3).
use Rattle.std.proofs.Common.{◌≡◌, ℕ, suc, true, ◌&&◌, refl, sym, ap, ◌∙◌, subst, List, [], ◌∷◌, ◌++◌}
use Rattle.std.proofs.Common.{Option, Some, None}
use Rattle.std.proofs.lemmas.Bool.{and_from}
use Rattle.std.specs.List.{list_all}
use Rattle.obj_memory.specs.declared.value.Scalar.{Scalar}
use Rattle.obj_memory.specs.declared.value.Scalar.TheVariants as scalar
use Rattle.c_tree.specs.declared.c_type.TypeWord.{TypeWord}
use Rattle.c_tree.specs.declared.c_type.TypeWord.TheVariants as word
use Rattle.c_tree.specs.declared.expression.Kind.{Kind}
use Rattle.c_tree.specs.declared.expression.Kind.TheVariants as kind
use Rattle.c_tree.specs.declared.program.Variable.{Variable}
use Rattle.c_tree.specs.Extents.{extent_of}
use Rattle.c_tree.specs.Kinds.{is_kind, is_value}
use Rattle.c_tree.specs.TypesAgree.{agrees, behind_types, is_kind_of, kind_of_type, structure_kind}
use Rattle.c_tree.specs.ValidProgram.{are_parameters}
use Rattle.c_rules.proofs.FineConversions.{unqualified_kind}
use Rattle.c_declarators.specs.Derivations.{function_words}
use Rattle.c_scope.specs.declared.meaning.Designated.{Designated}
use Rattle.c_scope.specs.declared.meaning.Designated.TheVariants as what
use Rattle.c_scope.specs.declared.meaning.Meaning.{Meaning}
use Rattle.c_scope.specs.declared.meaning.Meaning.TheVariants as meaning
use Rattle.c_scope.specs.Names.{Names}
use Rattle.c_operand_typing.specs.Primaries.{size_or_zero}
use Rattle.c_typing_state.specs.State.{State, extents}
use Rattle.c_unit_typing.specs.Declarations.{kind_in, variable_in}
use Rattle.c_unit_typing.specs.Units.{parameter_in, parameters_in}
use Rattle.typing_laws.specs.Validity.More.{AreMore}
use Rattle.typing_laws.specs.Validity.Steps.{Structures}
use Rattle.typing_laws.proofs.Validity.Common.{first, no_value as none_is, second, the_same}
use Rattle.typing_laws.specs.Declarations.Binding.{IsObjectType}
use Rattle.program_laws.specs.Bodies.Parameters.{AreParameters, EntryThen, NumberedThen}
use Rattle.program_laws.specs.Bodies.Types.{AreTypesOf, EntryTypes, KindsFit, NextType, is_type}
use Rattle.program_laws.proofs.Bodies.Types.{AllTypes, behind_type}
use Rattle.typing_laws.proofs.Common.{conflict}

-- the types of a function type, and the kinds of its signature

kind_before : (es : Structures) (p q : List TypeWord) → is_type p ≡ true → kind_of_type es (p ++ q) ≡ kind_of_type es p
kind_before es [] q e = absurd cc
kind_before es (word.Const ∷ p) q e = kind_before es p q e
kind_before es (word.Void ∷ p) q e = refl
kind_before es (word.Integer t ∷ p) q e = refl
kind_before es (word.Enumeration n ∷ p) q e = refl
kind_before es (word.Pointer ∷ p) q e = refl
kind_before es (word.Array c b ∷ p) q e = refl
kind_before es (word.OpenArray ∷ p) q e = refl
kind_before es (word.Structure n ∷ p) q e = refl
kind_before es (word.Takes ∷ p) q e = refl
kind_before es (word.Gives ∷ p) q e = refl

pub function_takes : (es : Structures) (types : List (List TypeWord)) (result : List TypeWord) (ks : List Kind)
    (k : Kind) → AllTypes types → agrees es (function_words types result) ks k ≡ true → KindsFit es types ks
function_takes es [] result [] k all e = tt
function_takes es [] result (j ∷ ks) k all e = absurd cc
function_takes es (p ∷ ps) result [] k all e = absurd cc
function_takes es (p ∷ ps) result (j ∷ ks) k all e =
    let rest = function_words ps result in
    let whole = first (is_type p) (list_all is_type ps) all in (
      ap (λ o. is_kind_of o j) (sym (kind_before es p rest whole))
          ∙ first (is_kind_of (kind_of_type es (p ++ rest)) j) (agrees es (behind_types 1 (p ++ rest)) ks k) e,
      function_takes es ps result ks k (second (is_type p) (list_all is_type ps) all)
          (ap (λ ws. agrees es ws ks k) (sym (behind_type 1 p rest whole))
          ∙ second (is_kind_of (kind_of_type es (p ++ rest)) j) (agrees es (behind_types 1 (p ++ rest)) ks k) e),
    )

-- the kind of a variable is that of its type

record HasKind (k j : Kind) : Type 0 where
  is : k ≡ j
  value : is_value j ≡ true

kind_made : (s : State) (last : Structures) → AreMore (extents s) last → (type : List TypeWord)
    → IsObjectType (extents s) type → (j : Kind) → kind_of_type last type ≡ Some j → HasKind (kind_in s type) j
unfolding extent_of
kind_made s last more [] is j e = absurd cc
kind_made s last more (word.Void ∷ ws) is j e = none_is is.extent _ is.is
kind_made s last more (word.Integer t ∷ ws) is j e =
    record { is = the_same e; value = ap is_value (sym (the_same e)) }
kind_made s last more (word.Enumeration n ∷ ws) is j e =
    record { is = the_same e; value = ap is_value (sym (the_same e)) }
kind_made s last more (word.Pointer ∷ ws) is j e =
    record { is = the_same e; value = ap is_value (sym (the_same e)) }
kind_made s last more (word.Array c b ∷ ws) is j e = absurd cc
kind_made s last more (word.OpenArray ∷ ws) is j e = absurd cc
kind_made s last more (word.Structure n ∷ ws) is j e =
    let known = the_same (sym (ap structure_kind (more.kept n is.extent is.is)) ∙ e) in
    record {
      is = ap (λ o. kind.Structure (size_or_zero o)) is.is ∙ known;
      value = ap is_value (sym known);
    }
kind_made s last more (word.Const ∷ ws) is j e =
    kind_made s last more ws (record { extent = is.extent; is = is.is; object = is.object }) j e
kind_made s last more (word.Takes ∷ ws) is j e = absurd cc
kind_made s last more (word.Gives ∷ ws) is j e = absurd cc

value_kind : (j k : Kind) → is_kind j k ≡ true → is_value j ≡ true → is_value k ≡ true
value_kind kind.Void k e g = conflict g
value_kind (kind.Array m) k e g = conflict g
value_kind (kind.Scalar s) k e g = of_scalar s k e
  where
    of_scalar : (s : Scalar) (k : Kind) → is_kind (kind.Scalar s) k ≡ true → is_value k ≡ true
    of_scalar s (kind.Scalar t) e = refl
    of_scalar (scalar.Integer i) kind.Void e = conflict e
    of_scalar (scalar.Integer i) (kind.Structure n) e = conflict e
    of_scalar (scalar.Integer i) (kind.Array n) e = conflict e
    of_scalar scalar.Pointer kind.Void e = conflict e
    of_scalar scalar.Pointer (kind.Structure n) e = conflict e
    of_scalar scalar.Pointer (kind.Array n) e = conflict e
value_kind (kind.Structure m) kind.Void e g = conflict e
value_kind (kind.Structure m) (kind.Scalar t) e g = conflict e
value_kind (kind.Structure m) (kind.Structure n) e g = refl
value_kind (kind.Structure m) (kind.Array n) e g = conflict e

parameter_kind : (s : State) (last : Structures) → AreMore (extents s) last → (type : List TypeWord)
    → IsObjectType (extents s) type → (k : Kind) (o : Option Kind) → kind_of_type last type ≡ o
    → is_kind_of o k ≡ true → (is_kind (kind_in s type) k && is_value k) ≡ true
parameter_kind s last more type is k None e g = absurd cc
parameter_kind s last more type is k (Some j) e g =
    let has = kind_made s last more type is j e in
    and_from (is_kind (kind_in s type) k) (is_value k) (ap (λ z. is_kind z k) has.is ∙ g) (value_kind j k g has.value)

module _ (s : State) (last : Structures) (more : AreMore (extents s) last) where
  next_fits : (vs : List Variable) (P : List (List TypeWord) → Type 0)
      → ((types : List (List TypeWord)) (ks : List Kind) → P types → KindsFit last types ks
      → are_parameters vs ks ≡ true)
      → (n : ℕ) (type : List TypeWord) → IsObjectType (extents s) type → (types : List (List TypeWord)) (ks : List Kind)
      → NextType P type types → KindsFit last types ks → are_parameters (variable_in s n type ∷ vs) ks ≡ true
  next_fits vs P h n type is [] ks next fit = absurd cc
  next_fits vs P h n type is (t ∷ ts) [] next fit = absurd cc
  next_fits vs P h n type is (t ∷ ts) (k ∷ ks) next fit =
      and_from (is_kind (kind_in s type) k && is_value k) (are_parameters vs ks)
      (parameter_kind s last more type is k (kind_of_type last type) refl
      (ap (λ o. is_kind_of o k) (sym (ap (kind_of_type last) next.0 ∙ unqualified_kind last type)) ∙ fit.0))
      (h ts ks next.1 fit.1)

  numbered_fits : (vs : List Variable) (P : List (List TypeWord) → Type 0) (Q : ℕ → Type 0)
      → ((n : ℕ) → Q n → (types : List (List TypeWord)) (ks : List Kind) → P types → KindsFit last types ks
      → are_parameters vs ks ≡ true)
      → (from : ℕ) (type : List TypeWord) (d : Designated) → NumberedThen (extents s) from Q type d
      → (types : List (List TypeWord)) (ks : List Kind) → NextType P type types → KindsFit last types ks
      → are_parameters (parameter_in s (meaning.Named d type) ++ vs) ks ≡ true
  numbered_fits vs P Q h from type (what.Variable n) is types ks next fit =
      next_fits vs P (h (suc from) is.1.1) n type is.1.0 types ks next fit
  numbered_fits vs P Q h from type (what.Object n) is types ks next fit = absurd cc
  numbered_fits vs P Q h from type (what.Static n) is types ks next fit = absurd cc
  numbered_fits vs P Q h from type (what.Function n) is types ks next fit = absurd cc
  numbered_fits vs P Q h from type (what.Library f) is types ks next fit = absurd cc

  entry_fits : (vs : List Variable) (P : List (List TypeWord) → Type 0) (Q : ℕ → Type 0)
      → ((n : ℕ) → Q n → (types : List (List TypeWord)) (ks : List Kind) → P types → KindsFit last types ks
      → are_parameters vs ks ≡ true)
      → (from : ℕ) (m : Meaning) → EntryThen (extents s) from Q m → (types : List (List TypeWord)) (ks : List Kind)
      → EntryTypes P m types → KindsFit last types ks → are_parameters (parameter_in s m ++ vs) ks ≡ true
  entry_fits vs P Q h from (meaning.Constant w) is types ks of fit = h from is types ks of fit
  entry_fits vs P Q h from (meaning.Typedef type) is types ks of fit = absurd cc
  entry_fits vs P Q h from (meaning.Named d type) is types ks of fit =
      numbered_fits vs P Q h from type d is types ks of fit

  pub parameters_fit : (most : ℕ) (entries : Names Meaning) (from : ℕ)
      → AreParameters (extents s) most entries from → (types : List (List TypeWord)) → AreTypesOf entries types
      → (ks : List Kind) → KindsFit last types ks → are_parameters (parameters_in s entries) ks ≡ true
  parameters_fit most [] from is types of ks fit = none_fit ks (subst (λ z. KindsFit last z ks) of fit)
    where
      none_fit : (ks : List Kind) → KindsFit last [] ks → are_parameters [] ks ≡ true
      none_fit [] h = refl
      none_fit (k ∷ ks) h = absurd cc
  parameters_fit most (e ∷ entries) from is types of ks fit =
      entry_fits (parameters_in s entries) (AreTypesOf entries) (AreParameters (extents s) most entries)
      (λ n p types ks of fit. parameters_fit most entries n p types of ks fit) from e.1 is types ks of fit
