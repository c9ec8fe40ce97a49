-- The static objects of a program stand in the order of their numbers.
use Rattle.std.proofs.Common.{◌≡◌, ℕ, zero, suc, ◌+◌, ◌<◌, ◌≤◌, ◌==◌, Bool, true, false, refl, sym, ap, ◌∙◌, subst}
use Rattle.std.proofs.Common.{List, [], ◌∷◌, ◌++◌, length, map, Some, if◌then◌else◌, arith}
use Rattle.std.specs.Prelude.{slice_get, nat_lt}
use Rattle.std.proofs.lemmas.Bool.{eqb-true, lt-ltb, ltb-true}
use Rattle.c_tree.specs.declared.c_type.TypeWord.{TypeWord}
use Rattle.c_tree.specs.Programs.{StaticObject}
use Rattle.c_scope.specs.declared.meaning.Designated.{Designated}
use Rattle.c_scope.specs.declared.meaning.Designated.TheVariants as what
use Rattle.c_scope.specs.declared.meaning.Entity.{Entity}
use Rattle.c_scope.specs.Names.{Names}
use Rattle.c_typing_state.specs.State.{Literal}
use Rattle.c_unit_typing.specs.Files.{File}
use Rattle.c_unit_typing.specs.Programs.{in_order, linked_object, linked_objects, literal_object, static_objects}
use Rattle.c_unit_typing.specs.Programs.{with_number}
use Rattle.typing_laws.proofs.Validity.Common.{the_same}
use Rattle.typing_laws.specs.Declarators.Extending.{below, literals_at, one_if}
use Rattle.program_laws.specs.Files.Numbers.{AreInOrder, entries, object_at, objects_at, statics_at}
use Rattle.program_laws.proofs.Files.Ends.{OwnsAll}
use Rattle.typing_laws.proofs.Common.{same_number}

abbrev Entries : Type 0
Entries = List (ℕ × StaticObject)

-- how many entries have a number

statics_sum : (n : ℕ) (os ps : Entries) → statics_at n (os ++ ps) ≡ statics_at n os + statics_at n ps
statics_sum n [] ps = omega arith
statics_sum n (o ∷ os) ps = let more = statics_sum n os ps in omega arith

literal_entries : (n : ℕ) (ls : List Literal) → statics_at n (map literal_object ls) ≡ literals_at n ls
literal_entries n [] = refl
literal_entries n (l ∷ ls) = ap (λ k. one_if (n == l.number) + k) (literal_entries n ls)

object_entries : (n : ℕ) (f : File) (type : List TypeWord) (d : Designated)
    → statics_at n (linked_object f type d) ≡ object_at n d
object_entries n f type (what.Object k) = omega arith
object_entries n f type (what.Function k) = refl
object_entries n f type (what.Library r) = refl
object_entries n f type (what.Static k) = refl
object_entries n f type (what.Variable k) = refl

linked_entries : (n : ℕ) (f : File) (es : Names Entity) → statics_at n (linked_objects f es) ≡ objects_at n es
linked_entries n f [] = refl
linked_entries n f (e ∷ es) =
    statics_sum n (linked_object f e.1.c_type e.1.what) (linked_objects f es)
    ∙ ap (λ k. k + statics_at n (linked_objects f es)) (object_entries n f e.1.c_type e.1.what)
    ∙ ap (λ k. object_at n e.1.what + k) (linked_entries n f es)

all_entries : (f : File) → OwnsAll f → (n : ℕ) → statics_at n (entries f) ≡ below n f.state.environment.statics
all_entries f h n =
    let ls = map literal_object f.state.literals in
    let os = linked_objects f f.state.environment.entities in
    let own = h n in
    let first = statics_sum n (ls ++ f.statics) os in
    let second = statics_sum n ls f.statics in
    let third = literal_entries n f.state.literals in
    let fourth = linked_entries n f f.state.environment.entities in
    all_up _ _ _ _ _ _ _ _ first second third fourth own
  where
    all_up : (all ls rest st os own n behind : ℕ) → all ≡ rest + os → rest ≡ ls + st → ls ≡ n → os ≡ own
        → n + st + own ≡ behind → all ≡ behind
    all_up all ls rest st os own n behind a b c d e = omega (arith, a, b, c, d, e)

-- an entry with a number that no other has

some_at : (os : Entries) (k : ℕ) (e : ℕ × StaticObject) → slice_get os k ≡ Some e → 1 ≤ statics_at e.0 os
some_at [] k e is = absurd cc
some_at (o ∷ os) zero e is =
    let own = ap (λ z. one_if (e.0 == z.0)) (the_same is) ∙ same_one e.0 in own_up _ _ own
  where
    same_one : (n : ℕ) → one_if (n == n) ≡ 1
    same_one n = ap one_if (same_number n)

    own_up : (a b : ℕ) → a ≡ 1 → 1 ≤ a + b
    own_up a b e = omega (arith, e)
some_at (o ∷ os) (suc k) e is = let more = some_at os k e is in omega arith

with_by : (n : ℕ) (o : ℕ × StaticObject) (os : Entries) (x : StaticObject) (b : Bool)
    → one_if b + statics_at n os ≡ 1 → 1 ≤ statics_at n os → (statics_at n os ≡ 1 → with_number n os ≡ x ∷ [])
    → (if b then o.1 ∷ [] else with_number n os) ≡ x ∷ []
with_by n o os x true one some h = absurd (omega (arith, one, some))
with_by n o os x false one some h = h (omega (arith, one))

with_entry : (os : Entries) (k : ℕ) (e : ℕ × StaticObject) → slice_get os k ≡ Some e → statics_at e.0 os ≡ 1
    → with_number e.0 os ≡ e.1 ∷ []
with_entry [] k e is one = absurd cc
with_entry (o ∷ os) zero e is one =
    ap (λ z. if e.0 == z.0 then z.1 ∷ [] else with_number e.0 os) (the_same is)
    ∙ ap (λ b. if b then e.1 ∷ [] else with_number e.0 os) (same_number e.0)
with_entry (o ∷ os) (suc k) e is one =
    with_by e.0 o os e.1 (e.0 == o.0) one (some_at os k e is) (with_entry os k e is)

-- what has a number is an entry

record HasEntry (n : ℕ) (os : Entries) : Type 0 where
  place : ℕ
  object : StaticObject
  is : slice_get os place ≡ Some (n, object)
  with : with_number n os ≡ object ∷ []

entry_by : (n : ℕ) (o : ℕ × StaticObject) (os : Entries) (b : Bool) → (n == o.0) ≡ b
    → one_if b + statics_at n os ≡ 1 → (statics_at n os ≡ 1 → HasEntry n os) → HasEntry n (o ∷ os)
entry_by n o os true e one h = record {
  place = 0;
  object = o.1;
  is = pair_is (eqb-true n o.0 e);
  with = ap (λ b. if b then o.1 ∷ [] else with_number n os) e;
}
  where
    pair_is : n ≡ o.0 → Some o ≡ Some (n, o.1)
    pair_is e = ap (λ m. Some (m, o.1)) (sym e)
entry_by n o os false e one h =
    let more = h (omega (arith, one)) in
    record {
      place = suc more.place;
      object = more.object;
      is = more.is;
      with = ap (λ b. if b then o.1 ∷ [] else with_number n os) e ∙ more.with;
    }

has_entry : (n : ℕ) (os : Entries) → statics_at n os ≡ 1 → HasEntry n os
has_entry n [] one = absurd (omega (arith, one))
has_entry n (o ∷ os) one = entry_by n o os (n == o.0) refl one (has_entry n os)

-- in order

abbrev HaveEntries : (first count : ℕ) → Entries → Type 0
HaveEntries first count os = (n : ℕ) → first ≤ n → n < first + count → HasEntry n os

in_length : (first count : ℕ) (os : Entries) → HaveEntries first count os → length (in_order first count os) ≡ count
in_length first zero os h = refl
in_length first (suc k) os h =
    let here = h first (omega arith) (omega arith) in
    ap (λ z. length (z ++ in_order (suc first) k os)) here.with
    ∙ ap suc (in_length (suc first) k os (λ n low high. h n (omega (arith, low)) (omega (arith, high))))

in_get : (first count : ℕ) (os : Entries) → HaveEntries first count os → (i n : ℕ) → n ≡ first + i → i < count
    → (o : StaticObject) → with_number n os ≡ o ∷ [] → slice_get (in_order first count os) i ≡ Some o
in_get first zero os h i n at low o with = absurd (omega (arith, low))
in_get first (suc k) os h zero n at low o with =
    ap (λ z. slice_get (z ++ in_order (suc first) k os) 0)
    (ap (λ m. with_number m os) (omega (arith, at)) ∙ with)
in_get first (suc k) os h (suc i) n at low o with =
    let here = h first (omega arith) (omega arith) in
    ap (λ z. slice_get (z ++ in_order (suc first) k os) (suc i)) here.with
    ∙ in_get (suc first) k os (λ n low high. h n (omega (arith, low)) (omega (arith, high))) i n (omega (arith, at))
    (omega (arith, low)) o with

pub get_low : {A : Type 0} (xs : List A) (n : ℕ) (x : A) → slice_get xs n ≡ Some x → n < length xs
get_low [] n x e = absurd cc
get_low (y ∷ ys) zero x e = omega arith
get_low (y ∷ ys) (suc n) x e = let low = get_low ys n x e in omega arith

below_one : (n count : ℕ) → n < count → below n count ≡ 1
below_one n count low = ap one_if (lt-ltb n count low)

low_below : (n count : ℕ) → 1 ≤ below n count → n < count
low_below n count some = by (nat_lt n count) refl some
  where
    by : (b : Bool) → nat_lt n count ≡ b → 1 ≤ one_if b → n < count
    by true e some = ltb-true n count e
    by false e some = absurd (omega (arith, some))

pub in_order_by : (f : File) → OwnsAll f → AreInOrder f
in_order_by f own =
    let os = entries f in
    let count = f.state.environment.statics in
    let all = all_entries f own in
    let have : HaveEntries 0 count os =
    λ n low high. has_entry n os (all n ∙ below_one n count (omega (arith, high))) in
    record {
      count = in_length 0 count os have;
      each = λ k e is.
          (let some = some_at os k e is in
          let low = low_below e.0 count (subst (λ z. 1 ≤ z) (all e.0) some) in
          in_get 0 count os have e.0 e.0 (omega arith) low e.1
          (with_entry os k e is (all e.0 ∙ below_one e.0 count low)));
      all = λ n o is.
          (let low = get_low (static_objects f) n o is in
          let here = has_entry n os (all n ∙ below_one n count (subst (λ z. n < z) (in_length 0 count os have) low)) in
          let at = in_get 0 count os have n n (omega arith) (subst (λ z. n < z) (in_length 0 count os have) low)
          here.object here.with in
          (here.place, here.is ∙ ap (λ z. Some (n, z)) (the_same (sym at ∙ is))));
    }
