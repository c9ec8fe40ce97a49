-- The lock word of a block stays its objects' alone while others are made and die.
use Rattle.std.proofs.Common.{◌≡◌, ◌≢◌, ℕ, ◌+◌, ◌<◌, ◌≤◌, List, true, false, length, sym, ap, ◌∙◌, arith}
use Rattle.std.proofs.Common.{⊎_elim}
use Rattle.std.proofs.lemmas.Bool.{cases_Bool, cases_lt}
use Rattle.obj_memory.specs.declared.object.Storage.TheVariants.{Static, Automatic}
use Rattle.obj_memory.specs.Objects.{object_at}
use Rattle.source_meaning.specs.State.{State as Source, Home}
use Rattle.flat_code.specs.Memory.{Bytes, load}
use Rattle.flat_code.specs.Routines.Objects.StandsFor.{Views, Keys, StandsFor}
use Rattle.flat_code.proofs.Routines.Objects.Changing.{live_is_made}
use Rattle.lib_wrappers.specs.AllocatingRoutines.Entering.{IsHomeOf, AreOfLock, AreNewlyKeyed}

module _ (g : Views) (k k' : Keys) (x x' : Source) (homes : List Home) (lock : ℕ) (m m' : Bytes)
    (st : StandsFor g k x.objects m) (st' : StandsFor g k' x'.objects m') (new : AreNewlyKeyed x x' k k') (some : ℕ)
    (some_home : IsHomeOf some homes) (some_live : (object_at x'.objects some).is_live ≡ true)
    (of : AreOfLock k x homes lock) where
  -- what lives lived before, if it was there
  lived : (n : ℕ) → n < length x.objects → (object_at x'.objects n).is_live ≡ true
      → (object_at x.objects n).is_live ≡ true
  lived n l live = ⊎_elim
      (λ was. was)
      (λ dead. absurd (let no : true ≡ false = sym live ∙ new.continues.dead n l dead in cc))
      (cases_Bool (object_at x.objects n).is_live)

  -- its key was made before
  key_before : (k'.held some).key < 2 + k.made
  key_before =
      let u = of.under some some_home in
      let other = (st.keyed.each some u.0).other (λ e. let no : Automatic ≡ Static = sym u.1 ∙ e in cc) in
      let same = ap (λ h. h.key) (new.held.held some u.0) in
      let key = other.0 in let less = other.1 in
      omega arith

  same_lock : (k'.held some).lock ≡ lock
  same_lock =
      let u = of.under some some_home in ap (λ h. h.lock) (new.held.held some u.0) ∙ u.2

  -- so a new object does not share it
  not_new : (n : ℕ) → length x.objects ≤ n → (object_at x'.objects n).is_live ≡ true → (k'.held n).lock ≢ lock
  not_new n from live e =
      let u = of.under some some_home in
      let there = u.0 in
      let key : (k'.held n).key ≡ (k'.held some).key =
      sym (st'.locks.live n live) ∙ ap (load 8 m') (e ∙ sym same_lock) ∙ st'.locks.live some some_live in
      let before = key_before in
      ⊎_elim
      (λ block. st'.keyed.alone n some (live_is_made x'.objects n live) (live_is_made x'.objects some some_live)
      (λ q. omega arith) block key)
      (λ q. (let a = q.0 in let b = q.1 in omega arith))
      (new.later n from live)

  pub still_of_lock : AreOfLock k' x' homes lock
  still_of_lock = record {
    some = some;
    some_live = some_live;
    some_home = some_home;
    under = λ n h. (let u = of.under n h in let longer = new.continues.longer in let there = u.0 in (
      omega arith,
      new.continues.storage n u.0 ∙ u.1,
      ap (λ y. y.lock) (new.held.held n u.0) ∙ u.2,
    ));
    home = λ n live e. ⊎_elim
        (λ (was : n < length x.objects).
        of.home n (lived n was live) (ap (λ y. y.lock) (sym (new.held.held n was)) ∙ e))
        (λ (from : length x.objects ≤ n). absurd (not_new n from live e))
        (cases_lt n (length x.objects));
  }
