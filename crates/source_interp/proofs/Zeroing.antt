-- What initializers store.
use Rattle.std.proofs.Common.{◌≡◌, ℕ, ◌+◌, ◌<◌, sym, ap, subst, refl, ◌∙◌, Ok, Err, true, false, Some, None, List}
use Rattle.std.proofs.Common.{[], length, drop, if◌then◌else◌, add_assoc, arith}
use Rattle.std.specs.Prelude.{Result, Option, get_or}
use Rattle.std.proofs.lemmas.List.{drop_more}
use Rattle.obj_memory.specs.declared.int_type.IntType.TheVariants.{Char}
use Rattle.obj_memory.specs.declared.value.Scalar.TheVariants.{Integer}
use Rattle.obj_memory.specs.declared.value.Value.{Value}
use Rattle.obj_memory.specs.Judgement.{narrowed}
use Rattle.obj_memory.specs.Objects.{Objects, object_at, with_zeroed}
use Rattle.obj_memory.proofs.Keeping.{keeps_zeroed}
use Rattle.source_meaning.specs.State.{State, NoObject, InObject, Run, ◌>>◌, Setting, change, on}
use Rattle.source_meaning.specs.State.{tally}
use Rattle.source_meaning.specs.Actions.{integer, store}
use Rattle.source_meaning.specs.Initializers.{store_bytes, zero_home, zero_object, zero_variable}
use Rattle.interpreter_objects.specs.Kept.{kept, with_cleared}
use Rattle.interpreter_objects.proofs.Keeping.{life_at, same_cleared, size_at}
use Rattle.source_interp.specs.declared.machine.Machine.{Machine}
use Rattle.source_interp.specs.declared.stop.Stop.{Stop}
use Rattle.source_interp.specs.Homes.{home_of}
use Rattle.source_interp.specs.Outside.{Outside}
use Rattle.source_interp.specs.Standing.{Acts}
use Rattle.source_interp.proofs.Acting.{Continues, begins_all, done_acts, goes_no_further, goes_on}
use Rattle.source_interp.proofs.Acting.{goes_to_end, reads_then, then_acts}
use Rattle.source_interp.proofs.Accesses.{changes}

-- an object with zero bytes

cleared_there : (n : ℕ) (store store' objects : Objects) → true ≡ (object_at store n).is_live
    → store' ≡ with_cleared n store → store ≡ kept objects → store' ≡ kept (with_zeroed n objects)
unfolding with_cleared
cleared_there n store store' objects t e same =
    e ∙ ap (with_cleared n) same ∙ same_cleared n objects
    ∙ ap (λ b. kept (if b then with_zeroed n objects else objects))
    (sym (life_at objects n) ∙ sym (ap (λ os. (object_at os n).is_live) same) ∙ sym t)

pub clears : (g : Setting) (o : Outside) (old new : Machine) (n : ℕ) → true ≡ (object_at old.store n).is_live
    → new.store ≡ with_cleared n old.store → new ≡ record old { store = new.store }
    → Acts g old new o o (Ok tt) (change (λ s. record s { objects = with_zeroed n s.objects }))
clears g o old new n t e same = changes g o old new (with_zeroed n) (λ objects. keeps_zeroed n objects) same
    (λ objects h. cleared_there n old.store new.store objects t e h)

pub ruleset clearing = (clears)

pub zeroes : (g : Setting) (o : Outside) (old mid new : Machine) (n size : ℕ) (r : Result (Unit {0}) Stop)
    → size ≡ (object_at old.store n).size → Acts g old mid o o (Ok tt) (tally size)
    → Acts g mid new o o r (change (λ s. record s { objects = with_zeroed n s.objects }))
    → Acts g old new o o r (zero_object n)
zeroes g o old mid new n size r e a b =
    reads_then g old new o o size r (λ s. (object_at s.objects n).size)
    (λ x. tally x >> change (λ s. record s { objects = with_zeroed n s.objects }))
    (λ start s st. sym (size_at s.objects n) ∙ sym (ap (λ os. (object_at os n).size) st.objects_are) ∙ sym e)
    (then_acts g old mid new o o o (Ok tt) tt r (tally size)
    (λ _. change (λ s. record s { objects = with_zeroed n s.objects })) refl a b)

-- the object of a variable

module _ (g : Setting) (o : Outside) (old new : Machine) (x : ℕ) (home : Option ℕ)
    (at : home_of home ≡ get_or old.frame x NoObject) where
  pub zeroes_home : (n : ℕ) (r : Result (Unit {0}) Stop) → home ≡ Some n → Acts g old new o o r (zero_object n)
      → Acts g old new o o r (zero_variable x)
  zeroes_home n r e a = reads_then g old new o o (InObject n) r (λ s. get_or s.frame x NoObject) zero_home
      (λ start s st. ap (λ hs. get_or hs x NoObject) st.frame_is ∙ sym at ∙ ap home_of e) a

pub zeroes_nothing : (g : Setting) (o : Outside) (m : Machine) (x : ℕ) (home : Option ℕ)
    → home_of home ≡ get_or m.frame x NoObject → home ≡ None → Acts g m m o o (Ok tt) (zero_variable x)
zeroes_nothing g o m x home at e = reads_then g m m o o NoObject (Ok tt) (λ s. get_or s.frame x NoObject) zero_home
    (λ start s st. ap (λ hs. get_or hs x NoObject) st.frame_is ∙ sym at ∙ ap home_of e) (done_acts g m o tt)

-- the bytes of a literal, one after another

same_start : (offset : ℕ) → offset ≡ offset + 0
same_start offset = omega arith

abbrev pub store_one : Value → (offset byte : ℕ) → Run (Unit {0})
store_one p offset b = store (Integer Char) false (narrowed offset 1 p) 0 (integer b)

module _ (g : Setting) (first now next : Machine) (before during after : Outside) (p : Value) (offset : ℕ)
    (bytes : List ℕ) (i place byte : ℕ)
    (so_far : Continues g first now before during (store_bytes p offset bytes)
    (store_bytes p (offset + i) (drop i bytes)))
    (within : i < length bytes) (at : place ≡ offset + i) (is : byte ≡ get_or bytes i byte) where
  first_stored : (s : State) → store_bytes p (offset + i) (drop i bytes) s
      ≡ on (store_one p place byte s) (λ _. store_bytes p (offset + (i + 1)) (drop (i + 1) bytes))
  first_stored s =
      ap (λ bs. store_bytes p (offset + i) bs s) (drop_more bytes i byte within)
      ∙ ap (λ b. on (store_one p (offset + i) b s) (λ _. store_bytes p (offset + i + 1) (drop (i + 1) bytes))) (sym is)
      ∙ ap (λ n. on (store_one p n byte s) (λ _. store_bytes p (offset + i + 1) (drop (i + 1) bytes))) (sym at)
      ∙ ap (λ n. on (store_one p place byte s) (λ _. store_bytes p n (drop (i + 1) bytes))) (add_assoc offset i 1)

  pub one_stored : (u : Unit {0}) (r : Result (Unit {0}) Stop) → r ≡ Ok u
      → Acts g now next during after r (store_one p place byte)
      → Continues g first next before after (store_bytes p offset bytes)
      (store_bytes p (offset + (i + 1)) (drop (i + 1) bytes))
  one_stored u r e a = goes_on g first now next before during after (store_bytes p offset bytes)
      (store_bytes p (offset + i) (drop i bytes)) (store_one p place byte)
      (λ _. store_bytes p (offset + (i + 1)) (drop (i + 1) bytes)) r u so_far first_stored e a

  pub none_stored : (e : Stop) (r r' : Result (Unit {0}) Stop) → r ≡ Err e → r' ≡ Err e
      → Acts g now next during after r (store_one p place byte)
      → Acts g first next before after r' (store_bytes p offset bytes)
  none_stored e r r' is' is'' a = goes_no_further g first now next before during after (store_bytes p offset bytes)
      (store_bytes p (offset + i) (drop i bytes)) (store_one p place byte)
      (λ _. store_bytes p (offset + (i + 1)) (drop (i + 1) bytes)) r r' e so_far first_stored is' is'' a

pub storing_begins : (g : Setting) (m : Machine) (o : Outside) (p : Value) (offset : ℕ) (bytes : List ℕ)
    → Continues g m m o o (store_bytes p offset bytes) (store_bytes p (offset + 0) bytes)
storing_begins g m o p offset bytes =
    subst (λ n. Continues g m m o o (store_bytes p offset bytes) (store_bytes p n bytes)) (same_start offset)
    (begins_all g m o (store_bytes p offset bytes))

pub all_stored : (g : Setting) (first now : Machine) (before during : Outside) (p : Value) (offset at : ℕ)
    (bytes left : List ℕ) → left ≡ []
    → Continues g first now before during (store_bytes p offset bytes) (store_bytes p at left)
    → Acts g first now before during (Ok tt) (store_bytes p offset bytes)
all_stored g first now before during p offset at bytes left e so_far =
    goes_to_end g first now before during (store_bytes p offset bytes) (store_bytes p at left) tt so_far
    (λ s. ap (λ bs. store_bytes p at bs s) e)
