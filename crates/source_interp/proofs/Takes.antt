-- Structures as arguments and results.
use Rattle.std.proofs.Common.{◌≡◌, ℕ, sym, ap, ◌∙◌, Ok, Some, None, if◌then◌else◌}
use Rattle.std.specs.Prelude.{Result}
use Rattle.obj_memory.specs.declared.object.Storage.TheVariants.{Automatic}
use Rattle.obj_memory.specs.Objects.{ObjectState, new_object}
use Rattle.c_tree.specs.declared.expression.Kind.{Kind}
use Rattle.c_tree.specs.declared.expression.Kind.TheVariants.{Void, Scalar as OfScalar, Structure, Array}
use Rattle.obj_memory.specs.declared.value.Scalar.{Scalar}
use Rattle.source_meaning.specs.State.{Rvalue, Setting, done}
use Rattle.source_meaning.specs.Actions.{integer}
use Rattle.source_meaning.specs.Structures.{contents_of, rvalue, take_value, taken, with_contents, zero_of}
use Rattle.interpreter_objects.specs.Kept.{has_range}
use Rattle.interpreter_objects.proofs.Ranges.{some_is}
use Rattle.source_interp.specs.declared.machine.Machine.{Machine}
use Rattle.source_interp.specs.declared.stop.Stop.{Stop}
use Rattle.source_interp.specs.Outside.{Outside}
use Rattle.source_interp.specs.Standing.{Acts}
use Rattle.source_interp.proofs.Acting.{done_acts, gives_acts, same_acts}
use Rattle.source_interp.proofs.Structures.{paired}

module _ (g : Setting) (old new : Machine) (o : Outside) (kind : Kind) (line : ℕ) (v : Rvalue) where
  pub take_structure : (n : ℕ) (r : Result Rvalue Stop) → kind ≡ Structure n
      → Acts g old new o o r (taken v.contents n v.value line) → Acts g old new o o r (take_value kind line v)
  take_structure n r e a = same_acts g old new o o r _ _ (ap (λ x. take_value x line v) e) a

module _ (g : Setting) (m : Machine) (o : Outside) (kind : Kind) (line : ℕ) (v : Rvalue) where
  pub take_void : kind ≡ Void → Acts g m m o o (Ok v) (take_value kind line v)
  take_void e = same_acts g m m o o (Ok v) _ _ (ap (λ x. take_value x line v) e) (done_acts g m o v)

  pub take_scalar : (k : Scalar) → kind ≡ OfScalar k → Acts g m m o o (Ok v) (take_value kind line v)
  take_scalar k e = same_acts g m m o o (Ok v) _ _ (ap (λ x. take_value x line v) e) (done_acts g m o v)

  pub take_array : (n : ℕ) → kind ≡ Array n → Acts g m m o o (Ok v) (take_value kind line v)
  take_array n e = same_acts g m m o o (Ok v) _ _ (ap (λ x. take_value x line v) e) (done_acts g m o v)

-- a part of contents as contents of its own
pub takes_part : (g : Setting) (m : Machine) (o : Outside) (size source : ℕ) (from c : ObjectState) (f : Rvalue)
    → f ≡ record { value = integer 0; contents = Some c }
    → Some c ≡ (if has_range source size from then Some (contents_of size source from) else None)
    → Acts g m m o o (Ok f) (done (with_contents size source from))
takes_part g m o size source from c f h e = gives_acts g m o f _
    (h ∙ ap (λ x. paired (integer 0) (Some x))
    (some_is (has_range source size from) c (contents_of size source from) e))

module _ (g : Setting) (m : Machine) (o : Outside) (kind : Kind) where
  pub zero_void : (f : Rvalue) → kind ≡ Void → f ≡ rvalue (integer 0) → Acts g m m o o (Ok f) (done (zero_of kind))
  zero_void f e h = gives_acts g m o f _ (h ∙ sym (ap zero_of e))

  pub zero_scalar : (k : Scalar) (f : Rvalue) → kind ≡ OfScalar k → f ≡ rvalue (integer 0)
      → Acts g m m o o (Ok f) (done (zero_of kind))
  zero_scalar k f e h = gives_acts g m o f _ (h ∙ sym (ap zero_of e))

  pub zero_array : (n : ℕ) (f : Rvalue) → kind ≡ Array n → f ≡ rvalue (integer 0)
      → Acts g m m o o (Ok f) (done (zero_of kind))
  zero_array n f e h = gives_acts g m o f _ (h ∙ sym (ap zero_of e))

  pub zero_other : (n : ℕ) (r : Result Rvalue Stop) → kind ≡ Structure n
      → Acts g m m o o r (done (zero_of (Structure n))) → Acts g m m o o r (done (zero_of kind))
  zero_other n r e a = same_acts g m m o o r _ _ (ap (λ x. done (zero_of x)) e) a

pub zero_contents : (g : Setting) (m : Machine) (o : Outside) (n : ℕ) (c : ObjectState) (f : Rvalue)
    → c ≡ new_object Automatic 0 n → f ≡ record { value = integer 0; contents = Some c }
    → Acts g m m o o (Ok f) (done (zero_of (Structure n)))
zero_contents g m o n c f h k = gives_acts g m o f _
    (k ∙ ap (λ x. paired (integer 0) (Some x)) h)
