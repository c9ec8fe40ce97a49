-- Places, sizes and the table of labels, one item further.
use Rattle.std.proofs.Common.{◌≡◌, ◌≢◌, ℕ, zero, suc, ◌+◌, ◌<◌, List, [], ◌∷◌, length, drop, Some, refl, sym, ap, ◌∙◌}
use Rattle.std.proofs.Common.{arith, ◌⊎◌, inl, inr, subst}
use Rattle.std.specs.Prelude.{slice_get, slice_set}
use Rattle.std.proofs.Math.ListN.{get_or}
use Rattle.std.proofs.lemmas.Bool.{cases_order}
use Rattle.std.proofs.lemmas.List.{length-set, get_or-set_same, get_or-set_other}
use Rattle.std.proofs.lemmas.Option.{slice_get_read, slice_get_within, get_or_from_slice_get, slice_get-get_or}
use Rattle.rv_asm.specs.declared.form.Form.{Form}
use Rattle.rv_asm.specs.declared.item.Item.{Item}
use Rattle.rv_asm.specs.declared.item.Item.TheVariants.{Label, Instr, Jump, Call, Branch}
use Rattle.rv_asm.specs.Items.{AreApart}
use Rattle.rv_asm.specs.Forms.{size_of, size, start}
use Rattle.rv_asm.specs.Tables.{HasRoom, Holds, IsWithin, marked}

-- what is left from item k on begins with it
pub size_step : (fs : List Form) (is : List Item) (k n : ℕ) (i : Item) (d : Form) → length fs ≡ length is
    → k < length is → i ≡ get_or is k i → n ≡ suc k
    → size (drop k fs) (drop k is) ≡ size_of (get_or fs k d) i + size (drop n fs) (drop n is)
size_step fs is k n i d many inside read e = rw e
    (by fs is k i many (slice_get_read is (length is) k i refl inside read))
  where
    by : (fs : List Form) (is : List Item) (k : ℕ) (i : Item) → length fs ≡ length is → slice_get is k ≡ Some i
        → size (drop k fs) (drop k is) ≡ size_of (get_or fs k d) i + size (drop (suc k) fs) (drop (suc k) is)
    by [] [] k i many h = cc
    by [] (j ∷ is) k i many h = omega (arith, many)
    by (f ∷ fs) [] k i many h = omega (arith, many)
    by (f ∷ fs) (j ∷ is) zero i many h = let e : j ≡ i = cc in rw e refl
    by (f ∷ fs) (j ∷ is) (suc k) i many h = by fs is k i (omega (arith, many)) h

pub start_first : (fs : List Form) (is : List Item) → start fs is 0 ≡ 0
start_first [] is = refl
start_first (f ∷ fs) [] = refl
start_first (f ∷ fs) (i ∷ is) = refl

-- the next item stands behind item k
pub start_step : (fs : List Form) (is : List Item) (k n : ℕ) (i : Item) (d : Form) → length fs ≡ length is
    → k < length is → i ≡ get_or is k i → n ≡ suc k
    → start fs is n ≡ start fs is k + size_of (get_or fs k d) i
start_step fs is k n i d many inside read e = rw e
    (by fs is k i many (slice_get_read is (length is) k i refl inside read))
  where
    by : (fs : List Form) (is : List Item) (k : ℕ) (i : Item) → length fs ≡ length is → slice_get is k ≡ Some i
        → start fs is (suc k) ≡ start fs is k + size_of (get_or fs k d) i
    by [] [] k i many h = cc
    by [] (j ∷ is) k i many h = omega (arith, many)
    by (f ∷ fs) [] k i many h = omega (arith, many)
    by (f ∷ fs) (j ∷ is) zero i many h = let e : j ≡ i = cc in rw (e, start_first fs is) (omega arith)
    by (f ∷ fs) (j ∷ is) (suc k) i many h = let r = by fs is k i (omega (arith, many)) h in omega (arith, r)

-- the list has an entry for the item
pub is_within : (items : List Item) (table : List ℕ) (k : ℕ) (i : Item) → k < length items → i ≡ get_or items k i
    → HasRoom items table → IsWithin i table
is_within items table k i inside read room = by i (slice_get_read items (length items) k i refl inside read)
  where
    by : (i : Item) → slice_get items k ≡ Some i → IsWithin i table
    by (Label l) h = room.room k l h
    by (Instr _) h = tt
    by (Jump _) h = tt
    by (Call _) h = tt
    by (Branch _ _ _ _) h = tt

-- an entry that was put is read, and the others stay
get_put : (table : List ℕ) (l p : ℕ) → l < length table → slice_get (slice_set table l p) l ≡ Some p
get_put table l p inside =
    slice_get-get_or (slice_set table l p) l 0 (rw (length-set table l p) inside)
    ∙ ap Some (get_or-set_same table l p 0 inside)

get_other : (table : List ℕ) (l m p x : ℕ) → m ≢ l → slice_get table m ≡ Some x
    → slice_get (slice_set table l p) m ≡ Some x
get_other table l m p x apart h =
    slice_get-get_or (slice_set table l p) m 0 (rw (length-set table l p) (slice_get_within table m x h))
    ∙ ap Some (get_or-set_other table l m p 0 apart ∙ get_or_from_slice_get table m x 0 h)

pub has_room_still : (items : List Item) (table : List ℕ) (i : Item) (p : ℕ) → HasRoom items table
    → HasRoom items (marked i p table)
has_room_still items table (Label l) p room = record { room = λ k m h. rw (length-set table l p) (room.room k m h) }
has_room_still items table (Instr _) p room = room
has_room_still items table (Jump _) p room = room
has_room_still items table (Call _) p room = room
has_room_still items table (Branch _ _ _ _) p room = room

-- with the place of item k in it, the table holds one item more
pub holds_further : (fs : List Form) (items : List Item) (table : List ℕ) (k n p : ℕ) (i : Item) → AreApart items
    → HasRoom items table
    → k < length items → i ≡ get_or items k i → p ≡ start fs items k → n ≡ suc k → Holds fs items k table
    → Holds fs items n (marked i p table)
holds_further fs items table k n p i apart room inside read at e holds = rw e
    (record { held = λ j l below h. by j l h (cases_order j k) below })
  where
    here : slice_get items k ≡ Some i
    here = slice_get_read items (length items) k i refl inside read

    -- another label than the one of item k
    others : (j l m : ℕ) → slice_get items j ≡ Some (Label l) → slice_get items k ≡ Some (Label m) → j < k → l ≢ m
    others j l m h q below same = let e : slice_get items k
        ≡ Some (Label l) = rw same q in omega (arith, below, apart.once j k l h e)

    old : (j l : ℕ) → slice_get items j ≡ Some (Label l) → j < k → (i : Item) → slice_get items k ≡ Some i
        → slice_get (marked i p table) l ≡ Some (start fs items j)
    old j l h below (Label m) q = get_other table m l p (start fs items j) (others j l m h q below)
        (holds.held j l below h)
    old j l h below (Instr _) q = holds.held j l below h
    old j l h below (Jump _) q = holds.held j l below h
    old j l h below (Call _) q = holds.held j l below h
    old j l h below (Branch _ _ _ _) q = holds.held j l below h

    new : (j l : ℕ) → slice_get items j ≡ Some (Label l) → j ≡ k
        → slice_get (marked i p table) l ≡ Some (start fs items j)
    new j l h same =
        let q : slice_get items k ≡ Some (Label l) = subst (λ n. slice_get items n ≡ Some (Label l)) same h in
        let g = here in
        let e : i ≡ Label l = cc in
        ap (λ x. slice_get (marked x p table) l) e
        ∙ (get_put table l p (room.room j l h) ∙ ap Some (at ∙ ap (start fs items) (sym same)))

    by : (j l : ℕ) → slice_get items j ≡ Some (Label l) → (j ≡ k) ⊎ ((j < k) ⊎ (k < j)) → j < suc k
        → slice_get (marked i p table) l ≡ Some (start fs items j)
    by j l h (inl same) below = new j l h same
    by j l h (inr (inl less)) below = old j l h less i here
    by j l h (inr (inr more)) below = absurd (omega (arith, more, below))
