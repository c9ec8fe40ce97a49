-- Hide sets that share their names.
use Rattle.std.proofs.Common.{◌≡◌, ℕ, zero, suc, ◌≤◌, ◌<◌, Bool, true, false, List, [], ◌∷◌, ◌++◌, length, Option}
use Rattle.std.proofs.Common.{Some, None, refl, sym, ap, subst, ◌∙◌, nat_lt, slice_get, length-append, arith}
use Rattle.std.proofs.Common.{if◌then◌else◌}
use Rattle.std.proofs.lemmas.Bool.{lt-ltb, le-ltb, ltb-true}
use Rattle.std.specs.Prelude.{bytes_eq, ◌||◌}
use Rattle.std.specs.List.{AllByRecursion}
use Rattle.std.specs.Cmp.Lexicographic.{bytes_decides}
use Rattle.c_pre.specs.declared.hide_set.HideNode.{HideNode}
use Rattle.c_pre.specs.declared.hide_set.HideSet.{HideSet}
use Rattle.c_pre.specs.declared.hide_set.HideSets.{HideSets}
use Rattle.c_pre.specs.Names.{Name, Names, member}
use Rattle.c_pre.specs.HideSets.{common, joined}
use Rattle.c_pre.specs.SharedSets.{earlier, names_by, names_in, names_of, IsKnown, Grows}

earlier_is : (n number : ℕ) → number < n → earlier n number ≡ number
earlier_is n number h = let e : nat_lt number n ≡ true = lt-ltb number n h in rw e refl

earlier_none : (n number : ℕ) → n ≤ number → earlier n number ≡ 0
earlier_none n number h = let e : nat_lt number n ≡ false = le-ltb number n h in rw e refl

earlier_below : (place number : ℕ) → earlier (suc place) number ≤ place
earlier_below place number = by (nat_lt number (suc place)) refl
  where
    by : (b : Bool) → nat_lt number (suc place) ≡ b → (if b then number else 0) ≤ place
    by true e = omega (arith, ltb-true number (suc place) e)
    by false e = omega arith

by_more : (o : Option HideNode) (more others : ℕ → Names) → ((k : ℕ) → more k ≡ others k)
    → names_by o more ≡ names_by o others
by_more None more others e = refl
by_more (Some node) more others e = ap (λ names. node.name ∷ names) (e node.others.number)

-- any bound that is large enough
enough : (f g : ℕ) (nodes : List HideNode) (number : ℕ) → number ≤ f → number ≤ g
    → names_in f nodes number ≡ names_in g nodes number
enough zero zero nodes number a b = refl
enough zero (suc g) nodes zero a b = refl
enough zero (suc g) nodes (suc place) a b = absurd (omega arith)
enough (suc f) zero nodes zero a b = refl
enough (suc f) zero nodes (suc place) a b = absurd (omega arith)
enough (suc f) (suc g) nodes zero a b = refl
enough (suc f) (suc g) nodes (suc place) a b =
    by_more (slice_get nodes place) (λ others. names_in f nodes (earlier (suc place) others))
    (λ others. names_in g nodes (earlier (suc place) others))
    (λ others. let small = earlier_below place others in
    enough f g nodes (earlier (suc place) others) (omega arith) (omega arith))

-- the empty set
pub names_none : (sets : HideSets) (set : HideSet) → set.number ≡ 0 → names_of sets set ≡ []
unfolding names_of
names_none sets set e = ap (λ n. names_in n sets.nodes.items n) e

-- a set that is taken apart
pub names_taken : (sets : HideSets) (set others : HideSet) (place : ℕ) (node : HideNode)
    → set.number ≡ suc place → slice_get sets.nodes.items place ≡ Some node
    → others.number ≡ earlier set.number node.others.number
    → names_of sets set ≡ node.name ∷ names_of sets others
unfolding names_of
names_taken sets set others place node e at o =
    let nodes = sets.nodes.items in
    let same : others.number ≡ earlier (suc place) node.others.number = o ∙ ap (λ n. earlier n node.others.number) e in
    let small = earlier_below place node.others.number in
    ap (λ n. names_in n nodes n) e
    ∙ ap (λ x. names_by x (λ k. names_in place nodes (earlier (suc place) k))) at
    ∙ ap (λ k. node.name ∷ names_in place nodes k) (sym same)
    ∙ ap (λ names. node.name ∷ names) (enough place others.number nodes others.number (omega arith) (omega arith))

slice_get-append : {A : Type 0} (xs ys : List A) (k : ℕ) → k < length xs → slice_get (xs ++ ys) k ≡ slice_get xs k
slice_get-append [] ys k h = absurd (omega arith)
slice_get-append (x ∷ xs) ys zero h = refl
slice_get-append (x ∷ xs) ys (suc k) h = slice_get-append xs ys k (omega arith)

slice_get-last : {A : Type 0} (xs : List A) (x : A) → slice_get (xs ++ x ∷ []) (length xs) ≡ Some x
slice_get-last [] x = refl
slice_get-last (y ∷ xs) x = slice_get-last xs x

names_in-append : (f : ℕ) (nodes more : List HideNode) (number : ℕ) → number ≤ length nodes
    → names_in f (nodes ++ more) number ≡ names_in f nodes number
names_in-append zero nodes more number h = refl
names_in-append (suc f) nodes more zero h = refl
names_in-append (suc f) nodes more (suc place) h =
    ap (λ o. names_by o (λ k. names_in f (nodes ++ more) (earlier (suc place) k)))
    (slice_get-append nodes more place (omega arith))
    ∙ by_more (slice_get nodes place) (λ k. names_in f (nodes ++ more) (earlier (suc place) k))
    (λ k. names_in f nodes (earlier (suc place) k))
    (λ k. let small = earlier_below place k in
    names_in-append f nodes more (earlier (suc place) k) (omega arith))

-- a set was made
module _ (old new : HideSets) (node : HideNode) (pushed : new.nodes.items ≡ old.nodes.items ++ node ∷ []) where
  pub grows_by : Grows old new
  unfolding names_of
  grows_by = record {
    more = omega (arith, ap length pushed, length-append old.nodes.items (node ∷ []));
    same = λ set known. ap (λ nodes. names_in set.number nodes set.number) pushed
        ∙ names_in-append set.number old.nodes.items (node ∷ []) set.number known.below;
  }

  pub made_names : (made : HideSet) → made.number ≡ suc (length old.nodes.items) → IsKnown old node.others
      → names_of new made ≡ node.name ∷ names_of old node.others
  made_names made e known =
      let at : slice_get new.nodes.items (length old.nodes.items) ≡ Some node =
      ap (λ nodes. slice_get nodes (length old.nodes.items)) pushed ∙ slice_get-last old.nodes.items node in
      let below : node.others.number < made.number = omega (arith, known.below) in
      names_taken new made node.others (length old.nodes.items) node e at
      (sym (earlier_is made.number node.others.number below))
      ∙ ap (λ names. node.name ∷ names) (grows_by.same node.others known)

pub grows_not : (sets : HideSets) → Grows sets sets
grows_not sets = record { more = omega arith; same = λ set known. refl }

pub grows_twice : (a b c : HideSets) → Grows a b → Grows b c → Grows a c
grows_twice a b c first second = record {
  more = omega (arith, first.more, second.more);
  same = λ set known. second.same set (record { below = omega (arith, first.more, known.below) })
      ∙ first.same set known;
}

pub still_known : (a b : HideSets) (set : HideSet) → Grows a b → IsKnown a set → IsKnown b set
still_known a b set more known = record { below = omega (arith, more.more, known.below) }

-- a set has all of its names, and all of another
abbrev pub Includes : Names → Names → Type 0
Includes names other = AllByRecursion (λ name. member name other ≡ true) names

and-true : (b : Bool) → (b || true) ≡ true
and-true true = refl
and-true false = refl

pub includes_more : (name : Name) (names other : Names) → Includes names other → Includes names (name ∷ other)
includes_more name [] other a = tt
includes_more name (n ∷ names) other a = (rw a.0 (and-true (bytes_eq n name)), includes_more name names other a.1)

pub includes_itself : (names : Names) → Includes names names
includes_itself [] = tt
includes_itself (name ∷ names) =
    (rw ((bytes_eq_is name)) refl, includes_more name names names (includes_itself names))
  where
    bytes_eq_is : (n : Name) → bytes_eq n n ≡ true
    bytes_eq_is n = (bytes_decides n n).1 refl

-- all names of the first are in the second
pub joined_included : (names other : Names) → Includes names other → joined names other ≡ other
joined_included [] other a = refl
joined_included (name ∷ names) other a =
    ap (λ w. joined names w) (ap (λ b. if b then other else name ∷ other) a.0) ∙ joined_included names other a.1

common_included : (names other : Names) → Includes names other → common names other ≡ names
common_included [] other a = refl
common_included (name ∷ names) other a =
    ap (λ b. if b then name ∷ common names other else common names other) a.0
    ∙ ap (λ more. name ∷ more) (common_included names other a.1)

pub common_itself : (names : Names) → common names names ≡ names
common_itself names = common_included names names (includes_itself names)

pub earlier_less : (n number : ℕ) → 0 < n → earlier n number < n
earlier_less zero number h = absurd (omega arith)
earlier_less (suc place) number h = let e = earlier_below place number in omega arith

pub same_number : (sets : HideSets) (a b : HideSet) → a.number ≡ b.number → names_of sets a ≡ names_of sets b
unfolding names_of
same_number sets a b e = ap (λ n. names_in n sets.nodes.items n) e

pub within_other : (sets : HideSets) (set rest other : HideSet)
    → (Includes (names_of sets set) (names_of sets rest) → Includes (names_of sets set) (names_of sets other))
    → rest.number ≡ set.number
    → joined (names_of sets set) (names_of sets other) ≡ names_of sets other
within_other sets set rest other has e =
    joined_included (names_of sets set) (names_of sets other)
    (has (subst (λ names. Includes (names_of sets set) names) (same_number sets set rest (sym e))
    (includes_itself (names_of sets set))))
