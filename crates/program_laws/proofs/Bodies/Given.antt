-- What initializers are typed to is valid (C99 6.7.8).
use Rattle.std.proofs.Common.{◌≡◌, ℕ, Bool, true, false, refl, sym, ap, ◌∙◌, List, [], ◌∷◌}
use Rattle.std.proofs.Common.{Option, Some, None, if◌then◌else◌}
use Rattle.std.proofs.lemmas.Bool.{true≢false}
use Rattle.std.specs.Prelude.{Ok, Err, not, is_some}
use Rattle.c_syntax.specs.Tree.{Initializer}
use Rattle.c_tree.specs.declared.c_type.TypeWord.{TypeWord}
use Rattle.c_tree.specs.declared.c_type.TypeWord.TheVariants as word
use Rattle.c_tree.specs.Extents.{TypeExtent, extent_of}
use Rattle.c_tree.specs.Statements.{Part}
use Rattle.c_tree.specs.Valid.{Scope}
use Rattle.c_faults.specs.declared.fault.Rule.TheVariants.{LargeType, Redeclared}
use Rattle.c_faults.specs.Answer.{Answer, violates, ◌>>=◌}
use Rattle.c_declarators.specs.Derivations.{array_of, is_large}
use Rattle.c_initializer_rules.specs.Initializing.{Initializing, begun}
use Rattle.c_initializer_rules.specs.Placed.{count_of, parts_in}
use Rattle.c_scope.specs.declared.meaning.Designated.{Designated}
use Rattle.c_scope.specs.Names.{Name}
use Rattle.c_operand_typing.specs.Primaries.{is_aggregate}
use Rattle.c_typing_state.specs.State.{State, done, extents, ◌>>>◌}
use Rattle.c_unit_typing.specs.Declarations.{completed, initialized_by, initialized_if, is_same_object, kind_in}
use Rattle.c_unit_typing.specs.Declarations.{with_size}
use Rattle.c_unit_typing.specs.Initializers.{initialized}
use Rattle.typing_laws.specs.Validity.Sound.{IsFormed, Knows}
use Rattle.typing_laws.specs.Validity.Steps.{Structures}
use Rattle.typing_laws.specs.Declarators.Given.{anything}
use Rattle.typing_laws.specs.Declarations.Binding.{IsCompleteFor}
use Rattle.typing_laws.specs.Scopes.Regular.{is_regular_initializer, is_regular_initializer_if}
use Rattle.typing_laws.specs.Layouts.Listed.{HasSizes, IfLaidOut, IsLaidOut}
use Rattle.typing_laws.specs.Initializers.Initialized.{IfInitialized as IfObject, IfScalar}
use Rattle.typing_laws.proofs.Initializers.Initialized.{initialized_if_is, scalar_initialized}
use Rattle.program_laws.specs.Bodies.Given.{IfInitialized}
use Rattle.typing_laws.proofs.Common.{some_scope}

-- an array or structure is one behind its initializer

abbrev IfAggregate : Answer (State × List TypeWord) → Type 0
IfAggregate (Ok r) = is_aggregate r.1 ≡ true
IfAggregate (Err f) = Unit {0}

array_is : (n : ℕ) (o : Option TypeExtent) (element : List TypeWord)
    → is_aggregate (array_of n o ∷ element) ≡ true
array_is n None element = refl
array_is n (Some e) element = refl

large_by : (t : State) (type : List TypeWord) (line : ℕ) → is_aggregate type ≡ true → (large : Bool)
    → IfAggregate (if large then violates LargeType line else Ok (t, type))
large_by t type line e true = tt
large_by t type line e false = e

sized_by : (t : State) (type : List TypeWord) (line : ℕ) → is_aggregate type ≡ true → (same large : Bool)
    → IfAggregate (if not same then violates Redeclared line
    else if large then violates LargeType line else Ok (t, type))
sized_by t type line e false large = tt
sized_by t type line e true large = large_by t type line e large

completed_aggregate : (d : Designated) (name : Name × ℕ) (type : List TypeWord) (n : ℕ) (s : State)
    → is_aggregate type ≡ true → IfAggregate (completed d name type n s)
completed_aggregate d name (word.OpenArray ∷ element) n s e =
    let array = array_of n (extent_of (extents s) element) in
    sized_by (record s { environment = with_size d name.0 (array ∷ element) s.environment }) (array ∷ element) name.1
    (array_is n (extent_of (extents s) element) element)
    (is_same_object d name.0 (array ∷ element) s.environment) (is_large array)
completed_aggregate d name [] n s e = e
completed_aggregate d name (word.Void ∷ ws) n s e = e
completed_aggregate d name (word.Integer t ∷ ws) n s e = e
completed_aggregate d name (word.Enumeration k ∷ ws) n s e = e
completed_aggregate d name (word.Pointer ∷ ws) n s e = e
completed_aggregate d name (word.Array c b ∷ ws) n s e = e
completed_aggregate d name (word.Structure k ∷ ws) n s e = e
completed_aggregate d name (word.Const ∷ ws) n s e = e
completed_aggregate d name (word.Takes ∷ ws) n s e = e
completed_aggregate d name (word.Gives ∷ ws) n s e = e

abbrev IfArray : Answer (State × (List TypeWord × List Part)) → Type 0
IfArray (Ok r) = is_aggregate r.1.0 ≡ true
IfArray (Err f) = Unit {0}

with_parts : (parts : List Part) (a : Answer (State × List TypeWord)) → IfAggregate a
    → IfArray (a >>= λ r. Ok (r.0, (r.1, parts)))
with_parts parts (Ok r) h = h
with_parts parts (Err f) h = tt

behind_aggregate : (d : Designated) (name : Name × ℕ) (type : List TypeWord) → is_aggregate type ≡ true
    → (a : Answer (State × Initializing))
    → IfArray (a >>= λ r. (completed d name type (count_of r.1.parts) >>> λ type. done (type, parts_in r.1.parts)) r.0)
behind_aggregate d name type e (Ok r) =
    with_parts (parts_in r.1.parts) (completed d name type (count_of r.1.parts) r.0)
    (completed_aggregate d name type (count_of r.1.parts) r.0 e)
behind_aggregate d name type e (Err f) = tt

-- an object of a complete type, with what its initializer stores

module _ (scope : Scope) (last : Structures) (d : Designated) (name : Name × ℕ) (type : List TypeWord) (s : State)
    (knows : Knows scope last s) where
  by_type : (b : Bool) → is_aggregate type ≡ b → (a : Answer (State × (List TypeWord × List Part)))
      → IfObject scope last d name.0 s a → (is_aggregate type ≡ true → IfArray a)
      → (is_aggregate type ≡ false → IfScalar scope last type s a) → IfInitialized scope last a
  by_type b e (Err f) h g k = tt
  by_type true e (Ok r) h g k = λ covers. record {
    complete = h.completes.complete;
    within = h.parts knows covers;
    scalar = λ scalar. absurd (true≢false (sym (g e) ∙ scalar));
  }
  by_type false e (Ok r) h g k = λ covers.
      (let one = (k e).value knows covers in record {
        complete = h.completes.complete;
        within = h.parts knows covers;
        scalar = λ scalar. record {
          tree = one.value;
          is = one.is;
          valid = one.valid;
          kind = one.kind ∙ ap (kind_in r.0) (sym (k e).same);
        };
      })

  pub initializer_given : (x : Initializer) → is_regular_initializer x ≡ true → IsFormed s → IsLaidOut s
      → IsCompleteFor (extents s) true type → HasSizes (extents s) type
      → IfInitialized scope last (initialized_if d name type (Some x) s)
  initializer_given x c formed laid complete sizes =
      by_type (is_aggregate type) refl (initialized_by d name type x s)
      (initialized_if_is scope last d name type (Some x) c s formed laid complete sizes)
      (λ e. behind_aggregate d name type e (initialized x (begun type) s))
      (λ e. scalar_initialized scope last d name type e s formed x c)

-- the state behind an initializer, if there is one, is laid out

laid_by : (d : Designated) (name : Name) (s : State) (a : Answer (State × (List TypeWord × List Part)))
    → IfObject some_scope [] d name s a → IfLaidOut anything a
laid_by d name s (Ok r) h = (h.laid_out, tt)
laid_by d name s (Err f) h = tt

pub initializer_laid : (d : Designated) (name : Name × ℕ) (type : List TypeWord) (x : Option Initializer)
    → is_regular_initializer_if x ≡ true → (s : State) → IsFormed s → IsLaidOut s
    → IsCompleteFor (extents s) (is_some x) type → HasSizes (extents s) type
    → IfLaidOut anything (initialized_if d name type x s)
initializer_laid d name type x c s formed laid complete sizes =
    laid_by d name.0 s (initialized_if d name type x s)
    (initialized_if_is some_scope [] d name type x c s formed laid complete sizes)
