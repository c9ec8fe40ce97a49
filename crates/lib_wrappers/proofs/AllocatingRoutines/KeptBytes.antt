-- Live automatic objects have bytes still.
use Rattle.std.proofs.Common.{◌≡◌, ◌≢◌, ℕ, ◌<◌, ◌≤◌, [], true, false, length, sym, ap, ◌∙◌, subst, arith, ⊎_elim}
use Rattle.std.proofs.lemmas.Bool.{cases_eq, cases_lt}
use Rattle.obj_memory.specs.declared.object.Storage.{Storage}
use Rattle.obj_memory.specs.declared.object.Storage.TheVariants.{Automatic}
use Rattle.obj_memory.specs.Objects.{ObjectState, Objects, object_at, new_object, with_new, with_dead}
use Rattle.obj_memory.specs.Sound.{KeepsObjects}
use Rattle.obj_memory.proofs.Making.{new_last, new_other, dead_is_dead, dead_other}
use Rattle.source_meaning.proofs.Holding.{length-new}
use Rattle.flat_code.proofs.Routines.Objects.Changing.{live_is_made}
use Rattle.lib_wrappers.specs.AllocatingRoutines.Premises.{HaveBytes}

-- what is said of one object
abbrev HasBytes : ObjectState → Type 0
HasBytes o = o.is_live ≡ true → o.storage ≡ Automatic → 1 ≤ o.size

new_bytes : (storage : Storage) (address size : ℕ) → (storage ≡ Automatic → 1 ≤ size)
    → HasBytes (new_object storage address size)
unfolding new_object
new_bytes storage address size h live e = h e

pub bytes_none : HaveBytes []
bytes_none = record { some = λ n live e. absurd (let l = live_is_made [] n live in omega arith) }

pub bytes_new : (storage : Storage) (address size : ℕ) (objects : Objects) → (storage ≡ Automatic → 1 ≤ size)
    → HaveBytes objects → HaveBytes (with_new storage address size objects)
bytes_new storage address size objects some h = record {
  some = λ n live e.
      let made = live_is_made (with_new storage address size objects) n live in
      let many = length-new storage address size objects in
      ⊎_elim
      (λ (was : n < length objects).
      subst HasBytes (sym (new_other storage address size n objects was)) (h.some n) live e)
      (λ (last : length objects ≤ n). (let at : length objects ≡ n = omega arith in
      subst HasBytes (sym (ap (object_at (with_new storage address size objects)) (sym at)
      ∙ new_last storage address size objects)) (new_bytes storage address size some) live e))
      (cases_lt n (length objects));
}

pub bytes_dead : (n : ℕ) (objects : Objects) → HaveBytes objects → HaveBytes (with_dead n objects)
bytes_dead n objects h = record {
  some = λ j live e. ⊎_elim
      (λ (here : j ≡ n). absurd (let no : true ≡ false = sym live
      ∙ ap (λ i. (object_at (with_dead n objects) i).is_live) here ∙ dead_is_dead n objects in cc))
      (λ (ne : j ≢ n). subst HasBytes (sym (dead_other n j objects ne)) (h.some j) live e)
      (cases_eq j n);
}

pub bytes_kept : (old new : Objects) → KeepsObjects old new → HaveBytes old → HaveBytes new
bytes_kept old new k h = record {
  some = λ n live e.
      let at = k.at n in let size = at.size in
      let l = h.some n (sym at.live ∙ live) (sym at.storage ∙ e) in
      omega arith;
}
