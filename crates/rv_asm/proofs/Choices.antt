-- Which forms are chosen, and that they reach.
use Rattle.std.proofs.Common.{◌≡◌, ◌≢◌, ℕ, zero, suc, ◌+◌, ◌*◌, ◌<◌, ◌≤◌, List, [], ◌∷◌, length, Some, Bool, true, false}
use Rattle.std.proofs.Common.{refl, sym, ap, ◌∙◌, arith, true≢false}
use Rattle.std.specs.Prelude.{slice_get, if◌then◌else◌}
use Rattle.std.proofs.lemmas.Bool.{eq-eqb, eqb-true}
use Rattle.std.proofs.lemmas.Option.{slice_get_within, get_or_from_slice_get}
use Rattle.rv_asm.specs.declared.form.Form.{Form}
use Rattle.rv_asm.specs.declared.form.Form.TheVariants.{Short, Near, Far}
use Rattle.rv_asm.specs.declared.item.Item.{Item}
use Rattle.rv_asm.specs.declared.item.Item.TheVariants.{Label, Instr, Jump, Call, Branch}
use Rattle.rv_asm.specs.Items.{target_of, AreApart, AreThere}
use Rattle.rv_asm.specs.Forms.{size_of, size, start, longest, longest_size, chosen, is_label, label_place, target_place}
use Rattle.rv_asm.specs.Forms.{forms_of}
use Rattle.rv_asm.specs.Tables.{Holds, entry}
use Rattle.rv_asm.specs.Words.{words_from, words_of}
use Rattle.rv_asm.proofs.Emitted.{words_length}

pub longest_length : (is : List Item) → length (longest is) ≡ length is
longest_length [] = refl
longest_length (i ∷ is) = ap suc (longest_length is)

pub chosen_length : (places : ℕ → ℕ) (p : ℕ) (is : List Item) → length (chosen places p is) ≡ length is
chosen_length places p [] = refl
chosen_length places p (i ∷ is) = ap suc (chosen_length places (p + size_of Far i) is)

pub size_within : (f : Form) (i : Item) → size_of f i ≤ size_of Far i
size_within Short (Label _) = omega arith
size_within Near (Label _) = omega arith
size_within Far (Label _) = omega arith
size_within Short (Instr _) = omega arith
size_within Near (Instr _) = omega arith
size_within Far (Instr _) = omega arith
size_within Short (Jump _) = omega arith
size_within Near (Jump _) = omega arith
size_within Far (Jump _) = omega arith
size_within Short (Call _) = omega arith
size_within Near (Call _) = omega arith
size_within Far (Call _) = omega arith
size_within Short (Branch _ _ _ _) = omega arith
size_within Near (Branch _ _ _ _) = omega arith
size_within Far (Branch _ _ _ _) = omega arith

-- no forms take more words than the longest
pub size_at_most : (fs : List Form) (is : List Item) → size fs is ≤ longest_size is
size_at_most [] is = omega arith
size_at_most (f ∷ fs) [] = omega arith
size_at_most (f ∷ fs) (i ∷ is) = let a = size_within f i in let b = size_at_most fs is in omega (arith, a, b)

-- nor do the longest take more than three times theirs
size_third : (f : Form) (i : Item) → size_of Far i ≤ 3 * size_of f i
size_third Short (Label _) = omega arith
size_third Near (Label _) = omega arith
size_third Far (Label _) = omega arith
size_third Short (Instr _) = omega arith
size_third Near (Instr _) = omega arith
size_third Far (Instr _) = omega arith
size_third Short (Jump _) = omega arith
size_third Near (Jump _) = omega arith
size_third Far (Jump _) = omega arith
size_third Short (Call _) = omega arith
size_third Near (Call _) = omega arith
size_third Far (Call _) = omega arith
size_third Short (Branch _ _ _ _) = omega arith
size_third Near (Branch _ _ _ _) = omega arith
size_third Far (Branch _ _ _ _) = omega arith

longest_third : (fs : List Form) (is : List Item) → length fs ≡ length is → longest_size is ≤ 3 * size fs is
longest_third [] [] many = omega arith
longest_third [] (i ∷ is) many = absurd (omega (arith, many))
longest_third (f ∷ fs) [] many = omega arith
longest_third (f ∷ fs) (i ∷ is) many =
    let a = size_third f i in let b = longest_third fs is (omega (arith, many)) in omega (arith, a, b)

-- two tables that have one place for each label that is gone to
pub record Agree (P Q : ℕ → ℕ) (items : List Item) : Type 0 where
  pub same : (k l : ℕ) (i : Item) → slice_get items k ≡ Some i → target_of i ≡ Some l → P l ≡ Q l

target_same : (P Q : ℕ → ℕ) (i : Item) → ((l : ℕ) → target_of i ≡ Some l → P l ≡ Q l)
    → target_place P i ≡ target_place Q i
target_same P Q (Label _) same = refl
target_same P Q (Instr _) same = refl
target_same P Q (Jump to) same = same to refl
target_same P Q (Call to) same = same to refl
target_same P Q (Branch _ _ _ to) same = same to refl

-- where an item goes that goes to a label
pub target_known : (P : ℕ → ℕ) (i : Item) (l : ℕ) → target_of i ≡ Some l → target_place P i ≡ P l
target_known P (Label _) l e = cc
target_known P (Instr _) l e = cc
target_known P (Jump to) l e = let same : to ≡ l = cc in ap P same
target_known P (Call to) l e = let same : to ≡ l = cc in ap P same
target_known P (Branch _ _ _ to) l e = let same : to ≡ l = cc in ap P same

agree_behind : (P Q : ℕ → ℕ) (i : Item) (is : List Item) → Agree P Q (i ∷ is) → Agree P Q is
agree_behind P Q i is agree = record { same = λ k l j h t. agree.same (suc k) l j h t }

agree_first : (P Q : ℕ → ℕ) (i : Item) (is : List Item) → Agree P Q (i ∷ is) → target_place P i ≡ target_place Q i
agree_first P Q i is agree = target_same P Q i (λ l t. agree.same 0 l i refl t)

chosen_same : (P Q : ℕ → ℕ) (p : ℕ) (is : List Item) → Agree P Q is → chosen P p is ≡ chosen Q p is
chosen_same P Q p [] agree = refl
chosen_same P Q p (i ∷ is) agree = rw
    (agree_first P Q i is agree, chosen_same P Q (p + size_of Far i) is (agree_behind P Q i is agree)) refl

words_same : (P Q : ℕ → ℕ) (p : ℕ) (fs : List Form) (is : List Item) → Agree P Q is
    → words_from P p fs is ≡ words_from Q p fs is
words_same P Q p [] is agree = refl
words_same P Q p (f ∷ fs) [] agree = refl
words_same P Q p (f ∷ fs) (i ∷ is) agree = rw
    (agree_first P Q i is agree, words_same P Q (p + size_of f i) fs is (agree_behind P Q i is agree)) refl

label_is : (i : Item) (l : ℕ) → is_label i l ≡ true → i ≡ Label l
label_is (Label m) l e = ap Label (eqb-true m l e)
label_is (Instr _) l e = absurd (true≢false (sym e))
label_is (Jump _) l e = absurd (true≢false (sym e))
label_is (Call _) l e = absurd (true≢false (sym e))
label_is (Branch _ _ _ _) l e = absurd (true≢false (sym e))

-- a label's place is where it first stands
label_at : (fs : List Form) (is : List Item) (p l d : ℕ) → length fs ≡ length is → slice_get is d ≡ Some (Label l)
    → ((k : ℕ) → k < d → slice_get is k ≢ Some (Label l)) → label_place fs is p l ≡ p + start fs is d
label_at [] [] p l d many h fresh = cc
label_at [] (j ∷ is) p l d many h fresh = absurd (omega (arith, many))
label_at (f ∷ fs) [] p l d many h fresh = absurd (omega (arith, many))
label_at (f ∷ fs) (j ∷ is) p l zero many h fresh =
    let e : j ≡ Label l = cc in
    let z : p ≡ p + 0 = omega arith in
    ap (λ x. if is_label x l then p else label_place fs is (p + size_of f x) l) e ∙ rw (eq-eqb l l refl) z
label_at (f ∷ fs) (j ∷ is) p l (suc d) many h fresh = by
    (label_at fs is (p + size_of f j) l d (omega (arith, many)) h (λ k below. fresh (suc k) (omega (arith, below))))
    (is_label j l) refl
  where
    by : label_place fs is (p + size_of f j) l ≡ p + size_of f j + start fs is d → (b : Bool) → is_label j l ≡ b
        → label_place (f ∷ fs) (j ∷ is) p l ≡ p + start (f ∷ fs) (j ∷ is) (suc d)
    by further true e = absurd (fresh 0 (omega arith) (ap Some (label_is j l e)))
    by further false e = rw e (further ∙ omega arith)

pub label_stands : (fs : List Form) (items : List Item) (l d : ℕ) → AreApart items → length fs ≡ length items
    → slice_get items d ≡ Some (Label l) → label_place fs items 0 l ≡ start fs items d
label_stands fs items l d apart many h =
    label_at fs items 0 l d many h (λ k below q. let e = apart.once k d l q h in omega (arith, e, below)) ∙ omega arith

holds_agree : (fs : List Form) (items : List Item) (table : List ℕ) → AreApart items → AreThere items
    → length fs ≡ length items → Holds fs items (length items) table
    → Agree (entry table) (label_place fs items 0) items
holds_agree fs items table apart there many holds = record { same = λ k l i h t. by k l i (there.place k l i h t) }
  where
    by : (k l : ℕ) (i : Item) → (d : ℕ) × (slice_get items d ≡ Some (Label l))
        → entry table l ≡ label_place fs items 0 l
    by k l i (d, h) =
        get_or_from_slice_get table l (start fs items d) 0 (holds.held d l (slice_get_within items d (Label l) h) h)
        ∙ sym (label_stands fs items l d apart many h)

pub forms_are : (items : List Item) (table : List ℕ) → AreApart items → AreThere items
    → Holds (longest items) items (length items) table → chosen (entry table) 0 items ≡ forms_of items
unfolding forms_of
forms_are items table apart there holds =
    chosen_same (entry table) (label_place (longest items) items 0) 0 items
    (holds_agree (longest items) items table apart there (longest_length items) holds)

pub forms_length : (items : List Item) → length (forms_of items) ≡ length items
unfolding forms_of
forms_length items = chosen_length (label_place (longest items) items 0) 0 items

pub words_are : (items : List Item) (table : List ℕ) → AreApart items → AreThere items
    → Holds (forms_of items) items (length items) table
    → words_from (entry table) 0 (forms_of items) items ≡ words_of items
unfolding words_of
words_are items table apart there holds =
    words_same (entry table) (label_place (forms_of items) items 0) 0 (forms_of items) items
    (holds_agree (forms_of items) items table apart there (forms_length items) holds)

pub words_count : (items : List Item) → length (words_of items) ≡ size (forms_of items) items
unfolding words_of
words_count items = words_length (label_place (forms_of items) items 0) 0 (forms_of items) items

pub longest_few : (items : List Item) → longest_size items ≤ 3 * length (words_of items)
longest_few items =
    let count = words_count items in
    let third = longest_third (forms_of items) items (forms_length items) in
    omega (arith, count, third)

pub ruleset choices = (forms_are, words_are, words_count, forms_length, longest_length, size_at_most)
