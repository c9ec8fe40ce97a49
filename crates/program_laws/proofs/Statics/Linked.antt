-- The initializers of objects with linkage are valid and lie in them (C99 6.7.8, 6.9.2).
use Rattle.std.proofs.Common.{◌≡◌, inr, ℕ, Bool, true, false, ◌||◌, refl, List, [], ◌∷◌, None, Some, if◌then◌else◌}
use Rattle.std.proofs.lemmas.Bool.{and_from}
use Rattle.std.specs.Prelude.{Ok, Err, ◌==◌, not}
use Rattle.c_syntax.specs.Tree.{Initializer}
use Rattle.c_tree.specs.declared.c_type.TypeWord.{TypeWord}
use Rattle.c_tree.specs.declared.expression.Kind.TheVariants as kind
use Rattle.c_tree.specs.Kinds.{has_size, size_of_kind}
use Rattle.c_tree.specs.Programs.{Program}
use Rattle.c_tree.specs.Statements.{Part}
use Rattle.c_tree.specs.Valid.{Scope}
use Rattle.c_tree.specs.ValidProgram.{are_parts, is_static_object, scope_in}
use Rattle.c_faults.specs.Answer.{Answer, ◌>>=◌}
use Rattle.c_scope.specs.declared.meaning.Designated.{Designated}
use Rattle.c_scope.specs.declared.meaning.Designated.TheVariants as what
use Rattle.c_scope.specs.declared.meaning.Entity.{Entity}
use Rattle.c_scope.specs.Names.{Name, Names}
use Rattle.c_typing_state.specs.State.{State, extents}
use Rattle.c_unit_typing.specs.Declarations.{initialized_if, kind_in, with_parts}
use Rattle.c_unit_typing.specs.Files.{File, in_state, ◌~>◌}
use Rattle.c_unit_typing.specs.Programs.{final_type, linked_object, linked_objects, parts_of}
use Rattle.program_laws.specs.Scopes.Scopes.{AreAmong}
use Rattle.typing_laws.specs.Validity.Sound.{IsFormed}
use Rattle.typing_laws.specs.Validity.Steps.{Structures}
use Rattle.typing_laws.proofs.Validity.Common.{first as left_true, second as right_true}
use Rattle.typing_laws.specs.Declarations.Binding.{IsCompleteFor}
use Rattle.typing_laws.specs.Scopes.Regular.{is_regular_initializer}
use Rattle.typing_laws.proofs.Places.Labels.{all_append}
use Rattle.typing_laws.specs.Layouts.Listed.{HasSizes, IsLaidOut}
use Rattle.typing_laws.specs.Initializers.Initialized.{IfInitialized}
use Rattle.typing_laws.proofs.Initializers.Initialized.{initialized_if_is}
use Rattle.program_laws.specs.Statics.Linked.{IfAddsParts, are_initialized, are_parts_at, is_initialized}
use Rattle.program_laws.specs.Statics.Program.{are_static_objects}
use Rattle.program_laws.proofs.Statics.Program.{object_in}
use Rattle.typing_laws.proofs.Common.{filed, some_scope}

-- in the program

chosen_parts : (scope : Scope) (size : ℕ) (b : Bool) (xs ys : List Part)
    → (not b || are_parts scope size xs) ≡ true → are_parts scope size ys ≡ true
    → are_parts scope size (if b then xs else ys) ≡ true
chosen_parts scope size true xs ys e g = e
chosen_parts scope size false xs ys e g = g

parts_at : (scope : Scope) (size n : ℕ) (is : List (ℕ × List Part)) → are_parts_at scope size n is ≡ true
    → are_parts scope size (parts_of n is) ≡ true
parts_at scope size n [] e = refl
parts_at scope size n (i ∷ is) e =
    let here = not (n == i.0) || are_parts scope size i.1 in
    chosen_parts scope size (n == i.0) i.1 (parts_of n is) (left_true here (are_parts_at scope size n is) e)
    (parts_at scope size n is (right_true here (are_parts_at scope size n is) e))

linked_one : (p : Program) (f : File) (type : List TypeWord) (d : Designated) → is_initialized p f type d ≡ true
    → are_static_objects p (linked_object f type d) ≡ true
linked_one p f type (what.Object n) e =
    let none = scope_in p [] [] kind.Void in
    let k = kind_in f.state (final_type (extents f.state) type) in
    let among : AreAmong [] [] = record { each = λ x. inr refl } in
    and_from _ true
    (object_in p none (record { statics = refl; functions = refl; types = refl }) (
      n,
      record { kind = k; is_literal = false; function = None; parts = parts_of n f.initializers },
    ) among refl
    (and_from (has_size k) (are_parts none (size_of_kind k) (parts_of n f.initializers))
    (left_true (has_size k) (are_parts_at none (size_of_kind k) n f.initializers) e)
    (parts_at none (size_of_kind k) n f.initializers
    (right_true (has_size k) (are_parts_at none (size_of_kind k) n f.initializers) e))))
    refl
linked_one p f type (what.Static n) e = refl
linked_one p f type (what.Variable n) e = refl
linked_one p f type (what.Function n) e = refl
linked_one p f type (what.Library r) e = refl

pub linked_valid : (p : Program) (f : File) (es : Names Entity) → are_initialized p f es ≡ true
    → are_static_objects p (linked_objects f es) ≡ true
linked_valid p f [] e = refl
linked_valid p f (x ∷ es) e =
    all_append (λ o. is_static_object p o.1) (linked_object f x.1.c_type x.1.what) (linked_objects f es)
    (linked_one p f x.1.c_type x.1.what
    (left_true (is_initialized p f x.1.c_type x.1.what) (are_initialized p f es) e))
    (linked_valid p f es (right_true (is_initialized p f x.1.c_type x.1.what) (are_initialized p f es) e))

-- where it is declared

parts_by : (f : File) (n : ℕ) (name : Name) (a : Answer (State × (List TypeWord × List Part)))
    → ((scope : Scope) (last : Structures) → IfInitialized scope last (what.Object n) name f.state a)
    → IfAddsParts n f (a >>= filed f >>= λ r. with_parts n true r.1 r.0)
parts_by f n name (Ok r) is =
    let complete = (is some_scope []).completes.complete in
    record {
      type = r.1.0;
      parts = r.1.1;
      is = refl;
      statics = refl;
      complete = complete;
      valid = λ scope last knows covers. (is scope last).parts knows covers;
    }
parts_by f n name (Err e) is = tt

pub object_adds : (f : File) → IsFormed f.state → IsLaidOut f.state → (n : ℕ) (name : Name × ℕ) (type : List TypeWord)
    (x : Initializer) → is_regular_initializer x ≡ true → IsCompleteFor (extents f.state) true type
    → HasSizes (extents f.state) type
    → IfAddsParts n f ((in_state (initialized_if (what.Object n) name type (Some x)) ~> with_parts n true) f)
object_adds f formed laid n name type x c complete sizes =
    parts_by f n name.0 (initialized_if (what.Object n) name type (Some x) f.state)
    (λ scope last. initialized_if_is scope last (what.Object n) name type (Some x) c f.state formed laid complete sizes)
