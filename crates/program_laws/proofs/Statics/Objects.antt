-- Static objects without linkage have a size, and their initializers are valid and lie in them (C99 6.7.8).
use Rattle.std.proofs.Common.{◌≡◌, ℕ, true, ◌&&◌, refl, ap, List, [], ◌∷◌, ◌++◌, Option}
use Rattle.std.proofs.lemmas.Bool.{and_from}
use Rattle.std.specs.Prelude.{Ok, Err, is_some}
use Rattle.c_syntax.specs.Tree.{Initializer}
use Rattle.c_tree.specs.declared.c_type.TypeWord.{TypeWord}
use Rattle.c_tree.specs.Blocks.{variables_in}
use Rattle.c_tree.specs.Kinds.{has_size, size_of_kind}
use Rattle.c_tree.specs.Statements.{Part}
use Rattle.c_tree.specs.Valid.{Scope}
use Rattle.c_tree.specs.ValidProgram.{are_parts}
use Rattle.c_faults.specs.Answer.{Answer, ◌>>=◌}
use Rattle.c_scope.specs.declared.meaning.Designated.TheVariants as what
use Rattle.c_scope.specs.declared.meaning.Meaning.TheVariants as meaning
use Rattle.c_scope.specs.Names.{Name}
use Rattle.c_typing_state.specs.State.{State, extents}
use Rattle.c_unit_typing.specs.Declarations.{initialized_if, kind_in, static_in, with_static}
use Rattle.c_unit_typing.specs.Files.{File, in_state, ◌~>◌}
use Rattle.typing_laws.specs.Validity.Sound.{IsFormed}
use Rattle.typing_laws.specs.Validity.Steps.{Structures}
use Rattle.typing_laws.proofs.Validity.Moved.{get_last}
use Rattle.typing_laws.specs.Declarations.Binding.{Binds, HasStatic, IsCompleteFor}
use Rattle.typing_laws.proofs.Declarations.Variables.{declared_has_size}
use Rattle.typing_laws.specs.Scopes.Regular.{is_regular_initializer_if}
use Rattle.typing_laws.specs.Layouts.Listed.{HasSizes, IsLaidOut}
use Rattle.typing_laws.specs.Initializers.Initialized.{IfInitialized, IsInitialized}
use Rattle.typing_laws.proofs.Initializers.Initialized.{initialized_if_is}
use Rattle.program_laws.specs.Bodies.Standing.{Ends, IsReady, Stands}
use Rattle.program_laws.specs.Bodies.Typed.{IfTyped}
use Rattle.program_laws.proofs.Bodies.Initialized.{IfInitializes, Initializes, initialized_is, static_meant}
use Rattle.program_laws.proofs.Bodies.Objects.{AreDeclared}
use Rattle.program_laws.proofs.Bodies.Standing.{stands_bound}
use Rattle.program_laws.specs.Statics.Added.{IfAdds, is_valid_object}
use Rattle.program_laws.proofs.Statics.Added.{adds_typed}
use Rattle.typing_laws.proofs.Common.{filed}

-- an object behind its initializer, if it has one
pub object_valid : (scope : Scope) (s t : State) (type : List TypeWord) (parts : List Part)
    → has_size (kind_in t type) ≡ true → are_parts scope (size_of_kind (kind_in t type)) parts ≡ true → (n : ℕ)
    → is_valid_object scope (n, static_in t type parts) ≡ true
object_valid scope s t type parts sized within n =
    and_from (has_size (kind_in t type)) (are_parts scope (size_of_kind (kind_in t type)) parts) sized within

module _ (result : List TypeWord) (f : File) (ready : IsReady f.state) (u : State) (formed : IsFormed u)
    (name : Name × ℕ) (type : List TypeWord) (x : Option Initializer) (c : is_regular_initializer_if x ≡ true)
    (laid : IsLaidOut u) (complete : IsCompleteFor (extents u) (is_some x) type)
    (sizes : HasSizes (extents u) type) (n : ℕ)
    (b : Binds name.0 (meaning.Named (what.Static n) type) f.state u) where
  abbrev behind : State × (List TypeWord × List Part) → File
  behind r = record f { state = r.0; statics = f.statics ++ (n, static_in r.0 r.1.0 r.1.1) ∷ [] }

  abbrev IsGiven : Answer (State × (List TypeWord × List Part)) → Type 0
  IsGiven a = (scope : Scope) (last : Structures) → IfInitialized scope last (what.Static n) name.0 u a

  module _ (r : State × (List TypeWord × List Part))
      (h : Initializes (what.Static n) (is_some x) u type r.0 r.1.0) (is : IsGiven (Ok r)) where
    -- names stand for something of the kind of their type where the initializer stands
    stands_named : (scope : Scope) (last : Structures) → Stands scope last f.state
        → Ends scope last result (behind r) → Stands scope last u
    stands_named scope last stands ends =
        let object = ends.statics _ n (static_in r.0 r.1.0 r.1.1)
        (get_last f.statics (n, static_in r.0 r.1.0 r.1.1)) in
        let has : HasStatic scope r.0 n r.1.0 = record { there = object.there; kind = object.kind } in
        stands_bound scope last name.0 (meaning.Named (what.Static n) type) f.state u b
        (static_meant scope last u r.0 h.leads.more ends.covers.more (is_some x) type r.1.0 complete n has h.is) tt
        stands

    static_valid : (scope : Scope) (last : Structures) → Stands scope last f.state
        → Ends scope last result (behind r) → is_valid_object scope (n, static_in r.0 r.1.0 r.1.1) ≡ true
    static_valid scope last stands ends =
        let given : IsInitialized scope last (what.Static n) name.0 u r = is scope last in
        let object = given.completes.complete in
        object_valid scope u r.0 r.1.0 r.1.1
        (declared_has_size r.0 r.1.0 object.extent object.is object.object)
        (given.parts (stands_named scope last stands ends).knows ends.covers) n

  static_by : (a : Answer (State × (List TypeWord × List Part)))
      → IfInitializes (what.Static n) (is_some x) u type a → IsGiven a
      → IfTyped result variables_in variables_in AreDeclared f
      (a >>= filed (record f { state = u }) >>= λ r. with_static n r.1 r.0)
      → IfAdds result f (a >>= filed (record f { state = u }) >>= λ r. with_static n r.1 r.0)
  static_by (Ok r) h is typed =
      adds_typed result variables_in variables_in AreDeclared f (behind r, []) ready typed
      ((n, static_in r.0 r.1.0 r.1.1) ∷ []) refl (typed.leads.state.function, tt)
      (λ scope last stands ends. ap (λ z. z && true) (static_valid r h is scope last stands ends))
  static_by (Err e) h is typed = tt

  pub static_adds : IfTyped result variables_in variables_in AreDeclared f
      ((in_state (initialized_if (what.Static n) name type x) ~> with_static n) (record f { state = u }))
      → IfAdds result f
      ((in_state (initialized_if (what.Static n) name type x) ~> with_static n) (record f { state = u }))
  static_adds =
      static_by (initialized_if (what.Static n) name type x u)
      (initialized_is (what.Static n) refl name u formed type x c)
      (λ scope last. initialized_if_is scope last (what.Static n) name type x c u formed laid complete sizes)
