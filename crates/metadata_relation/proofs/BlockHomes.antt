-- The homes of a block that is entered: where the source places its objects, registers have their entries.
use Rattle.std.proofs.Common.{◌≡◌, ◌≢◌, ◌⊎◌, ⊎_elim, inl, inr, ℕ, zero, suc, ◌+◌, ◌*◌, ◌%◌, ◌<◌, ◌≤◌, Bool, true, false}
use Rattle.std.proofs.Common.{not, ◌||◌}
use Rattle.std.proofs.Common.{List, [], ◌∷◌, length, get_or, if◌then◌else◌, refl, sym, ap, ◌∙◌, subst, arith}
use Rattle.std.specs.Prelude.{nat_le}
use Rattle.std.proofs.lemmas.Bool.{and_parts, cases_lt, leb-true}
use Rattle.addr_map.specs.Places.{MapSizes}
use Rattle.obj_memory.specs.declared.object.Storage.{Storage}
use Rattle.obj_memory.specs.declared.object.Storage.TheVariants.{Automatic, Static}
use Rattle.obj_memory.specs.Heap.{rounded_up}
use Rattle.obj_memory.specs.Objects.{ObjectState, Objects, object_at, new_object, pointer_to, with_new}
use Rattle.obj_memory.proofs.Making.{new_last}
use Rattle.c_tree.specs.declared.program.Variable.{Variable}
use Rattle.c_tree.specs.Kinds.{size_of_kind}
use Rattle.c_tree.specs.Valid.{at_number}
use Rattle.source_meaning.specs.Blocks.{has_objects, homes_over, over}
use Rattle.source_meaning.specs.State.{Home, NoObject, InObject}
use Rattle.source_meaning.proofs.Holding.{length-new}
use Rattle.tac_ir.specs.declared.function.CodeFunction.{CodeFunction}
use Rattle.flat_code.specs.declared.function.FlatProgram.{FlatProgram}
use Rattle.flat_code.specs.State as flat
use Rattle.flat_code.specs.Routines.Metadata.{metadata_in}
use Rattle.flat_code.specs.Routines.Objects.StandsFor.{Holding, Keys, spell, Views}
use Rattle.flat_code.proofs.Routines.Words.{same_metadata}
use Rattle.lib_wrappers.specs.AllocatingRoutines.Entering.{AreSized}
use Rattle.lib_wrappers.specs.AllocatingRoutines.Premises.{HaveBytes}
use Rattle.lib_wrappers.proofs.AllocatingRoutines.KeptBytes.{bytes_new}
use Rattle.lib_wrappers.proofs.AllocatingRoutines.SourceEntries.{homes_from, object_count, placed_from, placed_objects}
use Rattle.lib_wrappers.proofs.AllocatingRoutines.SourceEntries.{placing_work}
use Rattle.metadata_plan.specs.Operators.{OperatorCode}
use Rattle.metadata_plan.specs.Registers.{all_variables}
use Rattle.metadata_relation.specs.Holding.{HasHomes, is_object_in, World}
use Rattle.metadata_relation.specs.Registers.{entry_from, home_register, homes_end, variables_end}
use Rattle.metadata_relation.specs.Steps.{are_sized}
use Rattle.metadata_relation.proofs.PlacedHomes.{before_grows, HasHomeAt, HaveHomes, IsOutside}
use Rattle.metadata_relation.proofs.Registers.{home_low}

-- ---- variables

pub sized_by : (vs : List Variable) → are_sized vs ≡ true → AreSized vs
sized_by [] e = tt
sized_by (v ∷ vs) e =
    let p = and_parts (not v.is_object || nat_le 1 (size_of_kind v.kind)) (are_sized vs) e in
    (λ t. by v.is_object t p.0, sized_by vs p.1)
  where
    by : (b : Bool) → b ≡ true → (not b || nat_le 1 (size_of_kind v.kind)) ≡ true → 1 ≤ size_of_kind v.kind
    by true t e = leb-true 1 (size_of_kind v.kind) e
    by false t e = absurd cc

-- an object takes two units at least
pub count_work : (vs : List Variable) → AreSized vs → 2 * object_count vs ≤ placing_work vs
count_work [] sized = omega arith
count_work (v ∷ vs) sized = by v.is_object sized.0 (count_work vs sized.1)
  where
    by : (b : Bool) → (b ≡ true → 1 ≤ size_of_kind v.kind) → 2 * object_count vs ≤ placing_work vs
        → 2 * ((if b then 1 else 0) + object_count vs) ≤ (if b then 1 + size_of_kind v.kind else 0) + placing_work vs
    by true some rest = let one = some refl in omega arith
    by false some rest = omega arith

pub some_counted : (vs : List Variable) → has_objects vs ≡ true → 1 ≤ object_count vs
some_counted [] e = absurd cc
some_counted (v ∷ vs) e = by (λ t. some_counted vs t) v.is_object e
  where
    by : (has_objects vs ≡ true → 1 ≤ object_count vs) → (b : Bool) → (b || has_objects vs) ≡ true
        → 1 ≤ (if b then 1 else 0) + object_count vs
    by rest true e = omega arith
    by rest false e = let some = rest e in omega arith

-- ---- homes

same_object : (n k : ℕ) → InObject n ≡ InObject k → n ≡ k
same_object n k e = cc

-- each object has one
pub has_home_in : (vs : List Variable) (k y : ℕ) → is_object_in vs y ≡ true
    → (n : ℕ) × (get_or (homes_from vs k) y NoObject ≡ InObject n)
has_home_in [] k y e = absurd cc
has_home_in (v ∷ vs) k zero e = (k, ap (λ b. if b then InObject k else NoObject) e)
has_home_in (v ∷ vs) k (suc y) e = has_home_in vs (if v.is_object then k + 1 else k) y e

-- and what has one is an object
pub object_by_home : (vs : List Variable) (k y n : ℕ) → get_or (homes_from vs k) y NoObject ≡ InObject n
    → is_object_in vs y ≡ true
object_by_home [] k y n e = absurd cc
object_by_home (v ∷ vs) k zero n e = by v.is_object refl e
  where
    by : (b : Bool) → v.is_object ≡ b → (if b then InObject k else NoObject) ≡ InObject n → v.is_object ≡ true
    by true is e = is
    by false is e = absurd cc
object_by_home (v ∷ vs) k (suc y) n e = object_by_home vs (if v.is_object then k + 1 else k) y n e

-- homes are numbers from one on
pub home_at_least : (vs : List Variable) (k y n : ℕ) → get_or (homes_from vs k) y NoObject ≡ InObject n → k ≤ n
home_at_least [] k y n e = absurd cc
home_at_least (v ∷ vs) k zero n e = by v.is_object e
  where
    by : (b : Bool) → (if b then InObject k else NoObject) ≡ InObject n → k ≤ n
    by true e = let same = same_object k n e in omega arith
    by false e = absurd cc
home_at_least (v ∷ vs) k (suc y) n e = by v.is_object (λ i t. home_at_least vs i y n t) e
  where
    by : (b : Bool) → ((i : ℕ) → get_or (homes_from vs i) y NoObject ≡ InObject n → i ≤ n)
        → get_or (homes_from vs (if b then k + 1 else k)) y NoObject ≡ InObject n → k ≤ n
    by true again e = let more = again (k + 1) e in omega arith
    by false again e = again k e

-- a home is one of the block, or one around it
pub over_is : (outer inner : List Home) (x o : ℕ) → get_or (homes_over outer inner) x NoObject ≡ InObject o
    → (get_or inner x NoObject ≡ InObject o) ⊎ (get_or outer x NoObject ≡ InObject o)
over_is [] inner x o e = inl e
over_is (h ∷ hs) [] x o e = inr e
over_is (h ∷ hs) (i ∷ is) zero o e = by h i e
  where
    by : (a b : Home) → over a b ≡ InObject o → (b ≡ InObject o) ⊎ (a ≡ InObject o)
    by a NoObject e = inr e
    by a (InObject j) e = inl e
over_is (h ∷ hs) (i ∷ is) (suc x) o e = over_is hs is x o e

-- so they have the entries of both
pub homes_both : (w : World) (c : CodeFunction) (outer inner : List Home) (values : flat.Values)
    → HasHomes w c outer values → HasHomes w c inner values → HasHomes w c (homes_over outer inner) values
homes_both w c outer inner values a b = record {
  declared = λ x o is. ⊎_elim (λ t. b.declared x o t) (λ t. a.declared x o t) (over_is outer inner x o is);
  homes = λ x o is. ⊎_elim (λ t. b.homes x o t) (λ t. a.homes x o t) (over_is outer inner x o is);
  automatic = λ x o is. ⊎_elim (λ t. b.automatic x o t) (λ t. a.automatic x o t) (over_is outer inner x o is);
  sizes = λ x o is. ⊎_elim (λ t. b.sizes x o t) (λ t. a.sizes x o t) (over_is outer inner x o is);
}

-- ---- objects

-- a new object is automatic
pub new_storage : (address size : ℕ) → (new_object Automatic address size).storage ≡ Automatic
unfolding new_object
new_storage address size = refl

pub not_static : (o : Storage) → o ≡ Automatic → o ≡ Static → ⊥
not_static o e f = (let both = sym e ∙ f in cc)

-- registers have the entry of a pointer to an object
pub home_spelled : (g : Views) (keys : Keys) (objects : Objects) (o r key lock : ℕ) (values : flat.Values)
    → values r ≡ (object_at objects o).address → values (r + 1) ≡ (object_at objects o).address + (object_at objects o).size
    → values (r + 2) ≡ key → values (r + 3) ≡ lock → keys.held o ≡ record { key = key; lock = lock }
    → metadata_in values (entry_from r) ≡ spell g keys (pointer_to o objects).tag
unfolding pointer_to
home_spelled g keys objects o r key lock values base bound key_is lock_is held =
    same_metadata (metadata_in values (entry_from r)) (spell g keys (pointer_to o objects).tag) base bound
    (key_is ∙ sym (ap (λ (q : Holding). q.key) held)) (lock_is ∙ sym (ap (λ (q : Holding). q.lock) held))

pub bytes_placed : (vs : List Variable) (top : ℕ) (objects : Objects) → AreSized vs → HaveBytes objects
    → HaveBytes (placed_objects vs top objects)
bytes_placed [] top objects sized h = h
bytes_placed (v ∷ vs) top objects sized h = by (λ o os q. bytes_placed vs o os sized.1 q) v.is_object sized.0
  where
    by : ((o : ℕ) (os : Objects) → HaveBytes os → HaveBytes (placed_objects vs o os)) → (b : Bool)
        → (b ≡ true → 1 ≤ size_of_kind v.kind)
        → HaveBytes (placed_objects vs (if b then rounded_up 16 top + size_of_kind v.kind else top)
        (if b then with_new Automatic (rounded_up 16 top) (size_of_kind v.kind) objects else objects))
    by again true some =
        again (rounded_up 16 top + size_of_kind v.kind)
        (with_new Automatic (rounded_up 16 top) (size_of_kind v.kind) objects)
        (bytes_new Automatic (rounded_up 16 top) (size_of_kind v.kind) objects (λ e. some refl) h)
    by again false some = again top objects h

module _ (m : MapSizes) (p : FlatProgram) (u : ℕ) (xs : List flat.Frame) (o : OperatorCode) (c : CodeFunction)
    (first key lock s : ℕ) where
  -- a register that is none of any object's home
  pub outside_by : (r : ℕ) (vs : List Variable) (x : ℕ)
      → ((y : ℕ) → is_object_in vs y ≡ true → (r < home_register c (x + y)) ⊎ (home_register c (x + y) + 4 ≤ r))
      → IsOutside m p u xs o c first key lock s r x vs
  outside_by r [] x h = tt
  outside_by r (v ∷ vs) x h = (
    λ t.
        (let place : x + 0 ≡ x = omega arith in
        subst (λ z. (r < home_register c z) ⊎ (home_register c z + 4 ≤ r)) place (h zero t)),
    outside_by r vs (suc x)
        (λ y t. (let place : x + suc y ≡ suc x + y = omega arith in
        subst (λ z. (r < home_register c z) ⊎ (home_register c z + 4 ≤ r)) place (h (suc y) t))),
  )

  -- below the homes of all objects
  pub outside_low : (vs : List Variable) (r : ℕ) → r < variables_end c → IsOutside m p u xs o c first key lock s r 0 vs
  outside_low vs r lt = outside_by r vs 0 (λ q t. inl (omega arith))

  module _ (vs : List Variable)
      (own : (q : ℕ) → is_object_in vs q ≡ true → is_object_in (all_variables c) (0 + q) ≡ true) where
    -- behind them
    pub outside_high : (r : ℕ) → homes_end c ≤ r → IsOutside m p u xs o c first key lock s r 0 vs
    outside_high r le = outside_by r vs 0 (λ q t. (let low = home_low c (0 + q) (own q t) in inr (omega arith)))

    -- in that of another object
    pub outside_home : (x j : ℕ) → is_object_in (all_variables c) x ≡ true
        → ((q : ℕ) → is_object_in vs q ≡ true → x ≢ q) → j < 5
        → IsOutside m p u xs o c first key lock s (home_register c x + j) 0 vs
    outside_home x j object other few =
        outside_by (home_register c x + j) vs 0 (λ q t. by q t (cases_lt x q) (cases_lt q x))
      where
        by : (q : ℕ) → is_object_in vs q ≡ true → (x < q) ⊎ (q ≤ x) → (q < x) ⊎ (x ≤ q)
            → (home_register c x + j < home_register c (0 + q)) ⊎ (home_register c (0 + q) + 4 ≤ home_register c x + j)
        by q t (inl lt) second =
            let more = before_grows (all_variables c) x (0 + q) object (omega arith) in
            inl (omega arith)
        by q t (inr le) (inl lt) =
            let more = before_grows (all_variables c) (0 + q) x (own q t) (omega arith) in
            inr (omega arith)
        by q t (inr le) (inr ge) = absurd (other q t (omega arith))

    -- behind the entry in any home
    pub outside_top : (x : ℕ) → is_object_in (all_variables c) x ≡ true
        → IsOutside m p u xs o c first key lock s (home_register c x + 4) 0 vs
    outside_top x object = outside_by (home_register c x + 4) vs 0 (λ q t. by q t (cases_lt x q) (cases_lt q x))
      where
        by : (q : ℕ) → is_object_in vs q ≡ true → (x < q) ⊎ (q ≤ x) → (q < x) ⊎ (x ≤ q)
            → (home_register c x + 4 < home_register c (0 + q)) ⊎ (home_register c (0 + q) + 4 ≤ home_register c x + 4)
        by q t (inl lt) second =
            let more = before_grows (all_variables c) x (0 + q) object (omega arith) in
            inl (omega arith)
        by q t (inr le) (inl lt) =
            let more = before_grows (all_variables c) (0 + q) x (own q t) (omega arith) in
            inr (omega arith)
        by q t (inr le) (inr ge) =
            let same : home_register c (0 + q) ≡ home_register c x = ap (home_register c) (omega arith) in
            inr (omega arith)

  -- the object of a variable lives, is automatic, and has the bytes of its kind; registers have the entry of a pointer to it
  pub record IsHomed (x : ℕ) (v : Variable) (k l : ℕ) (object : ObjectState) (values : flat.Values) : Type 0 where
    pub live : object.is_live ≡ true
    pub automatic : object.storage ≡ Automatic
    pub size_is : object.size ≡ size_of_kind v.kind
    pub home : HasHomeAt m p u xs o c first key lock s x object.address object.size k l values

  new_homed : (x : ℕ) (v : Variable) (address k l : ℕ) (values : flat.Values)
      → HasHomeAt m p u xs o c first key lock s x address (size_of_kind v.kind) k l values
      → IsHomed x v k l (new_object Automatic address (size_of_kind v.kind)) values
  unfolding new_object
  new_homed x v address k l values h = record { live = refl; automatic = refl; size_is = refl; home = h }

  pub homed : (vs : List Variable) (x offset a k l top : ℕ) (objects : Objects) (values : flat.Values) → a % 16 ≡ 0
      → rounded_up 16 top ≡ a + rounded_up 16 offset
      → HaveHomes m p u xs o c first key lock s x vs offset a k l values
      → (y n : ℕ) → get_or (homes_from vs (length objects)) y NoObject ≡ InObject n
      → IsHomed (x + y) (at_number vs y) k l (object_at (placed_objects vs top objects) n) values
  homed [] x offset a k l top objects values r e h y n is = absurd cc
  homed (v ∷ vs) x offset a k l top objects values r e h zero n is = by v.is_object refl is
    where
      by : (b : Bool) → v.is_object ≡ b → (if b then InObject (length objects) else NoObject) ≡ InObject n
          → IsHomed (x + 0) v k l (object_at (placed_objects (v ∷ vs) top objects) n) values
      by false t is = absurd cc
      by true t is =
          let size = size_of_kind v.kind in
          let at = rounded_up 16 top in
          let number : length objects ≡ n = same_object (length objects) n is in
          let many = length-new Automatic (rounded_up 16 top) (size_of_kind v.kind) objects in
          let object : object_at (placed_objects (v ∷ vs) top objects) n
          ≡ new_object Automatic (rounded_up 16 top) (size_of_kind v.kind) =
          ap (λ b. object_at (placed_objects vs (if b then rounded_up 16 top + size_of_kind v.kind else top)
          (if b then with_new Automatic (rounded_up 16 top) (size_of_kind v.kind) objects else objects)) n) t
          ∙ (placed_from vs (at + size) (with_new Automatic at size objects)).same n (omega arith)
          ∙ ap (object_at (with_new Automatic at size objects)) (sym number)
          ∙ new_last Automatic at size objects in
          let place : x ≡ x + 0 = omega arith in
          subst (λ z. IsHomed z v k l (object_at (placed_objects (v ∷ vs) top objects) n) values) place
          (subst (λ z. IsHomed x v k l z values) (sym object)
          (new_homed x v at k l values
          (subst (λ z. HasHomeAt m p u xs o c first key lock s x z (size_of_kind v.kind) k l values) (sym e) (h.0 t))))
  homed (v ∷ vs) x offset a k l top objects values r e h (suc y) n is =
      let place : suc x + y ≡ x + suc y = omega arith in
      subst (λ z. IsHomed z (at_number vs y) k l (object_at (placed_objects (v ∷ vs) top objects) n) values) place
      (by (λ i j os f g q. homed vs (suc x) i a k l j os values r f g y n q) v.is_object is h.1)
    where
      by : ((i j : ℕ) (os : Objects) → rounded_up 16 j ≡ a + rounded_up 16 i
          → HaveHomes m p u xs o c first key lock s (suc x) vs i a k l values
          → get_or (homes_from vs (length os)) y NoObject ≡ InObject n
          → IsHomed (suc x + y) (at_number vs y) k l (object_at (placed_objects vs j os) n) values)
          → (b : Bool)
          → get_or (homes_from vs (if b then length objects + 1 else length objects)) y NoObject ≡ InObject n
          → HaveHomes m p u xs o c first key lock s (suc x) vs
          (if b then rounded_up 16 offset + size_of_kind v.kind else offset) a k l values
          → IsHomed (suc x + y) (at_number vs y) k l
          (object_at (placed_objects vs (if b then rounded_up 16 top + size_of_kind v.kind else top)
          (if b then with_new Automatic (rounded_up 16 top) (size_of_kind v.kind) objects else objects)) n) values
      by again true is g =
          let many = length-new Automatic (rounded_up 16 top) (size_of_kind v.kind) objects in
          again (rounded_up 16 offset + size_of_kind v.kind) (rounded_up 16 top + size_of_kind v.kind)
          (with_new Automatic (rounded_up 16 top) (size_of_kind v.kind) objects) (omega (arith, e, r)) g
          (subst (λ z. get_or (homes_from vs z) y NoObject ≡ InObject n) (sym many) is)
      by again false is g = again offset top objects e g is
