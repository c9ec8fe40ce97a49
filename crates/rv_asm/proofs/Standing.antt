-- Which labels stand among the first items, one item further.
use Rattle.std.proofs.Common.{◌≡◌, ◌≢◌, ℕ, suc, ◌<◌, List, length, Some, Bool, true, false, refl, sym, ap, ◌∙◌, arith}
use Rattle.std.proofs.Common.{subst, ◌⊎◌, inl, inr}
use Rattle.std.specs.Prelude.{slice_get, slice_set}
use Rattle.std.proofs.Math.ListN.{get_or}
use Rattle.std.proofs.lemmas.Bool.{cases_order}
use Rattle.std.proofs.lemmas.List.{length-set, get_or-set_same, get_or-set_other}
use Rattle.std.proofs.lemmas.Option.{slice_get_read, slice_get_within, slice_get-get_or}
use Rattle.rv_asm.specs.declared.item.Item.{Item}
use Rattle.rv_asm.specs.declared.item.Item.TheVariants.{Label, Instr, Jump, Call, Branch}
use Rattle.rv_asm.specs.Items.{AreApart, AreThere, target_of}
use Rattle.rv_asm.specs.Tables.{IsNew, IsWithin, Stand, with_label}

-- an entry for item k
pub is_within : (items : List Item) (table : List Bool) (k : ℕ) (i : Item) → k < length items → i ≡ get_or items k i
    → Stand items k table → IsWithin i table
is_within items table k i inside read stand = by i (slice_get_read items (length items) k i refl inside read)
  where
    by : (i : Item) → slice_get items k ≡ Some i → IsWithin i table
    by (Label l) h = stand.room k l h
    by (Instr _) h = tt
    by (Jump _) h = tt
    by (Call _) h = tt
    by (Branch _ _ _ _) h = tt

get_put : (table : List Bool) (l : ℕ) → l < length table → slice_get (slice_set table l true) l ≡ Some true
get_put table l inside =
    slice_get-get_or (slice_set table l true) l false (rw (length-set table l true) inside)
    ∙ ap Some (get_or-set_same table l true false inside)

get_other : (table : List Bool) (l m : ℕ) → m ≢ l → m < length table
    → slice_get (slice_set table l true) m ≡ slice_get table m
get_other table l m apart inside =
    slice_get-get_or (slice_set table l true) m false (rw (length-set table l true) inside)
    ∙ (ap Some (get_or-set_other table l m true false apart) ∙ sym (slice_get-get_or table m false inside))

-- a label that stands already stands twice
pub stands_twice : (items : List Item) (table : List Bool) (k : ℕ) (i : Item) → k < length items → i ≡ get_or items k i
    → Stand items k table → (IsNew i table → ⊥) → AreApart items → ⊥
stands_twice items table k i inside read stand old apart = by i
    (slice_get_read items (length items) k i refl inside read) old
  where
    by_entry : (l : ℕ) → slice_get items k ≡ Some (Label l) → (b : Bool) → slice_get table l ≡ Some b
        → (slice_get table l ≢ Some false) → ⊥
    by_entry l h true e old = earlier (stand.place l e)
      where
        earlier : (d : ℕ) × (d < k) × (slice_get items d ≡ Some (Label l)) → ⊥
        earlier (d, below, q) = let s = apart.once d k l q h in omega (arith, s, below)
    by_entry l h false e old = old e

    by : (i : Item) → slice_get items k ≡ Some i → (IsNew i table → ⊥) → ⊥
    by (Label l) h old = by_entry l h (get_or table l false) (slice_get-get_or table l false (stand.room k l h)) old
    by (Instr _) h old = old tt
    by (Jump _) h old = old tt
    by (Call _) h old = old tt
    by (Branch _ _ _ _) h old = old tt

-- behind an item that is no label
same_further : (items : List Item) (table : List Bool) (k : ℕ) (i : Item) → slice_get items k ≡ Some i
    → ((l : ℕ) → i ≢ Label l) → Stand items k table → Stand items (suc k) table
same_further items table k i here other stand = record {
  room = stand.room;
  place = λ l e. earlier l (stand.place l e);
  told = λ j l below h. stand.told j l (before j l below h) h;
  once = λ j m l bj bm hj hm. stand.once j m l (before j l bj hj) (before m l bm hm) hj hm;
}
  where
    earlier : (l : ℕ) → (d : ℕ) × (d < k) × (slice_get items d ≡ Some (Label l))
        → (d : ℕ) × (d < suc k) × (slice_get items d ≡ Some (Label l))
    earlier l (d, below, q) = (d, omega (arith, below), q)

    is_other : (j l : ℕ) → slice_get items j ≡ Some (Label l) → j ≢ k
    is_other j l h s = let g = here in let q : slice_get items k
        ≡ Some (Label l) = subst (λ n. slice_get items n ≡ Some (Label l)) s h in let e : i ≡ Label l = cc in other l e

    before : (j l : ℕ) → j < suc k → slice_get items j ≡ Some (Label l) → j < k
    before j l below h = omega (arith, below, is_other j l h)

-- behind a new label
label_further : (items : List Item) (table : List Bool) (k l : ℕ) → slice_get items k ≡ Some (Label l)
    → slice_get table l ≡ Some false → Stand items k table → Stand items (suc k) (slice_set table l true)
label_further items table k l here new stand = record {
  room = λ j m h. rw (length-set table l true) (stand.room j m h);
  place = λ m e. place m e (cases_order m l);
  told = λ j m below h. told j m below h (cases_order j k);
  once = λ i j m bi bj hi hj. once i j m bi bj hi hj (cases_order i k) (cases_order j k);
}
  where
    inside : l < length table
    inside = stand.room k l here

    earlier : (m : ℕ) → (d : ℕ) × (d < k) × (slice_get items d ≡ Some (Label m))
        → (d : ℕ) × (d < suc k) × (slice_get items d ≡ Some (Label m))
    earlier m (d, below, q) = (d, omega (arith, below), q)

    other : (m : ℕ) → m ≢ l → slice_get (slice_set table l true) m ≡ Some true → slice_get table m ≡ Some true
    other m apart e =
        let size : m < length table = rw (sym (length-set table l true))
        (slice_get_within (slice_set table l true) m true e) in
        sym (get_other table l m apart size) ∙ e

    place : (m : ℕ) → slice_get (slice_set table l true) m ≡ Some true → (m ≡ l) ⊎ ((m < l) ⊎ (l < m))
        → (d : ℕ) × (d < suc k) × (slice_get items d ≡ Some (Label m))
    place m e (inl same) = (k, omega arith, rw same here)
    place m e (inr (inl less)) = earlier m (stand.place m (other m (λ s. omega (arith, s, less)) e))
    place m e (inr (inr more)) = earlier m (stand.place m (other m (λ s. omega (arith, s, more)) e))

    -- a label before item k is another one
    is_other : (j m : ℕ) → j < k → slice_get items j ≡ Some (Label m) → m ≢ l
    is_other j m below h s =
        let e : slice_get table l ≡ Some true = subst (λ n. slice_get table n ≡ Some true) s (stand.told j m below h) in
        let g = new in let bad : Some true ≡ Some false = cc in cc

    label_here : (j m : ℕ) → j ≡ k → slice_get items j ≡ Some (Label m) → m ≡ l
    label_here j m s h = let g = here in let q : slice_get items k
        ≡ Some (Label m) = subst (λ n. slice_get items n ≡ Some (Label m)) s h in cc

    told : (j m : ℕ) → j < suc k → slice_get items j ≡ Some (Label m) → (j ≡ k) ⊎ ((j < k) ⊎ (k < j))
        → slice_get (slice_set table l true) m ≡ Some true
    told j m below h (inl same) = rw (label_here j m same h) (get_put table l inside)
    told j m below h (inr (inl less)) = get_other table l m (is_other j m less h) (stand.room j m h)
        ∙ stand.told j m less h
    told j m below h (inr (inr more)) = absurd (omega (arith, below, more))

    once : (i j m : ℕ) → i < suc k → j < suc k → slice_get items i ≡ Some (Label m) → slice_get items j ≡ Some (Label m)
        → (i ≡ k) ⊎ ((i < k) ⊎ (k < i)) → (j ≡ k) ⊎ ((j < k) ⊎ (k < j)) → i ≡ j
    once i j m bi bj hi hj (inl a) (inl b) = a ∙ sym b
    once i j m bi bj hi hj (inl a) (inr (inl b)) = absurd (is_other j m b hj (label_here i m a hi))
    once i j m bi bj hi hj (inr (inl a)) (inl b) = absurd (is_other i m a hi (label_here j m b hj))
    once i j m bi bj hi hj (inr (inl a)) (inr (inl b)) = stand.once i j m a b hi hj
    once i j m bi bj hi hj (inr (inr a)) b = absurd (omega (arith, bi, a))
    once i j m bi bj hi hj (inl a) (inr (inr b)) = absurd (omega (arith, bj, b))
    once i j m bi bj hi hj (inr (inl a)) (inr (inr b)) = absurd (omega (arith, bj, b))

pub stand_further : (items : List Item) (table : List Bool) (k n : ℕ) (i : Item) → k < length items
    → i ≡ get_or items k i → n ≡ suc k → IsNew i table → Stand items k table → Stand items n (with_label i table)
stand_further items table k n i inside read e new stand = rw e
    (by i (slice_get_read items (length items) k i refl inside read) new)
  where
    by : (i : Item) → slice_get items k ≡ Some i → IsNew i table → Stand items (suc k) (with_label i table)
    by (Label l) h new = label_further items table k l h new stand
    by (Instr w) h new = same_further items table k (Instr w) h (λ l s. cc) stand
    by (Jump t) h new = same_further items table k (Jump t) h (λ l s. cc) stand
    by (Call t) h new = same_further items table k (Call t) h (λ l s. cc) stand
    by (Branch op a b t) h new = same_further items table k (Branch op a b t) h (λ l s. cc) stand

pub ruleset standing = (is_within, stands_twice, stand_further)

-- every label that is gone to stands, where the table says so of all items
pub there_by_table : (items : List Item) (table : List Bool) → Stand items (length items) table
    → ((k l : ℕ) (i : Item) → k < length items → slice_get items k ≡ Some i → target_of i ≡ Some l
    → slice_get table l ≡ Some true) → AreThere items
there_by_table items table stand told = record {
  place = λ k l i h t. found l (stand.place l (told k l i (slice_get_within items k i h) h t));
}
  where
    found : (l : ℕ) → (d : ℕ) × (d < length items) × (slice_get items d ≡ Some (Label l))
        → (d : ℕ) × (slice_get items d ≡ Some (Label l))
    found l (d, below, q) = (d, q)
