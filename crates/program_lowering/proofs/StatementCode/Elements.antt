-- Elements of lists of statements and of items of a switch.
use Rattle.std.proofs.Common.{◌≡◌, ℕ, zero, suc, ◌+◌, ◌-◌, ◌≤◌, ◌<◌, true, List, [], ◌∷◌, length, map}
use Rattle.std.proofs.Common.{drop, refl, sym, ap, ◌∙◌, arith}
use Rattle.std.specs.Prelude.{get_or, set}
use Rattle.std.proofs.lemmas.Bool.{and_parts}
use Rattle.c_tree.specs.declared.statement.CaseLabel.{CaseLabel}
use Rattle.c_tree.specs.declared.statement.Statement.{Statement as CodeStatement}
use Rattle.c_tree.specs.declared.statement.SwitchItem.{SwitchItem as CodeItem}
use Rattle.c_tree.specs.declared.statement.Statement.TheFolds.{fold_out-SwitchItem}
use Rattle.c_tree.specs.Statements.{Statement, statements_in, items_in}
use Rattle.c_tree.specs.View.{statement_of, statement_step, item_step}
use Rattle.program_lowering.proofs.ExpressionCode.Views.{drop_from}
use Rattle.program_lowering.specs.StatementParts.Items.{item_of}
use Rattle.program_lowering.specs.StatementCode.Sizes.{statement_height, each_height, items_height, statement_count}
use Rattle.program_lowering.specs.StatementCode.Sizes.{each_count}
use Rattle.program_lowering.specs.StatementCode.Sizes.{items_count}
use Rattle.program_lowering.specs.StatementCode.Switches.{are_decided, each_decided, items_decided}

pub of_item : (x : CodeItem) → item_of x ≡ (x.labels, statement_of x.statement)
of_item x = fold_out-SwitchItem Statement (List CaseLabel × Statement) statement_step item_step x

-- within a list the value behind it says nothing
pub get_any : {A : Type 0} (xs : List A) (k : ℕ) (x y : A) → k < length xs → get_or xs k x ≡ get_or xs k y
get_any [] k x y lt = absurd (omega (arith, lt))
get_any (z ∷ xs) zero x y lt = refl
get_any (z ∷ xs) (suc k) x y lt = get_any xs k x y (omega (arith, lt))

-- the element before those from a place on
pub drop_number : {A : Type 0} (xs : List A) (i : ℕ) (x : A) → 1 ≤ i → i ≤ length xs → x ≡ get_or xs (i - 1) x
    → x ∷ drop i xs ≡ drop (i - 1) xs
drop_number xs i x ge le is =
    let at : i - 1 + 1 ≡ i = omega (arith, ge) in
    ap (λ p. x ∷ drop p xs) (sym at) ∙ sym (drop_from xs (i - 1) x (omega (arith, ge, le)) is)

-- and where it is set
set_from : (xs : List ℕ) (k x : ℕ) → k < length xs → drop k (set xs k x) ≡ x ∷ drop (k + 1) xs
set_from [] k x lt = absurd (omega (arith, lt))
set_from (y ∷ xs) zero x lt = refl
set_from (y ∷ xs) (suc k) x lt =
    let at : suc (k + 1) ≡ suc k + 1 = omega arith in
    set_from xs k x (omega (arith, lt)) ∙ ap (λ n. x ∷ drop n (y ∷ xs)) at

pub drop_set : (xs : List ℕ) (i x : ℕ) → 1 ≤ i → i ≤ length xs → x ∷ drop i xs ≡ drop (i - 1) (set xs (i - 1) x)
drop_set xs i x ge le =
    let at : i - 1 + 1 ≡ i = omega (arith, ge) in
    ap (λ p. x ∷ drop p xs) (sym at) ∙ sym (set_from xs (i - 1) x (omega (arith, ge, le)))

-- statements

pub height_at : (xs : List CodeStatement) (k : ℕ) (x : CodeStatement) → k < length xs → x ≡ get_or xs k x
    → statement_height (statement_of x) ≤ each_height (statements_in (map statement_of xs))
height_at [] k x lt e = absurd (omega (arith, lt))
height_at (y ∷ xs) zero x lt e = omega (arith, ap (λ z. statement_height (statement_of z)) e)
height_at (y ∷ xs) (suc k) x lt e = omega (arith, height_at xs k x (omega (arith, lt)) e)

pub nodes_at : (xs : List CodeStatement) (k : ℕ) (x : CodeStatement) → k < length xs → x ≡ get_or xs k x
    → statement_count (statement_of x) ≤ each_count (statements_in (map statement_of xs))
nodes_at [] k x lt e = absurd (omega (arith, lt))
nodes_at (y ∷ xs) zero x lt e = omega (arith, ap (λ z. statement_count (statement_of z)) e)
nodes_at (y ∷ xs) (suc k) x lt e = omega (arith, nodes_at xs k x (omega (arith, lt)) e)

pub decided_at : (xs : List CodeStatement) (k : ℕ) (x : CodeStatement) → k < length xs → x ≡ get_or xs k x
    → each_decided (statements_in (map statement_of xs)) ≡ true → are_decided (statement_of x) ≡ true
decided_at [] k x lt e h = absurd (omega (arith, lt))
decided_at (y ∷ xs) zero x lt e h =
    ap (λ z. are_decided (statement_of z)) e
    ∙ (and_parts (are_decided (statement_of y)) (each_decided (statements_in (map statement_of xs))) h).0
decided_at (y ∷ xs) (suc k) x lt e h =
    decided_at xs k x (omega (arith, lt)) e
    (and_parts (are_decided (statement_of y)) (each_decided (statements_in (map statement_of xs))) h).1

-- items

pub item_height_at : (xs : List CodeItem) (k : ℕ) (x : CodeItem) → k < length xs → x ≡ get_or xs k x
    → statement_height (statement_of x.statement) ≤ items_height (items_in (map item_of xs))
item_height_at [] k x lt e = absurd (omega (arith, lt))
item_height_at (y ∷ xs) zero x lt e =
    omega (arith, ap (λ z. statement_height (statement_of z.statement)) e, ap (λ i. statement_height i.1) (of_item y))
item_height_at (y ∷ xs) (suc k) x lt e = omega (arith, item_height_at xs k x (omega (arith, lt)) e)

pub item_nodes_at : (xs : List CodeItem) (k : ℕ) (x : CodeItem) → k < length xs → x ≡ get_or xs k x
    → statement_count (statement_of x.statement) ≤ items_count (items_in (map item_of xs))
item_nodes_at [] k x lt e = absurd (omega (arith, lt))
item_nodes_at (y ∷ xs) zero x lt e =
    omega (arith, ap (λ z. statement_count (statement_of z.statement)) e, ap (λ i. statement_count i.1) (of_item y))
item_nodes_at (y ∷ xs) (suc k) x lt e = omega (arith, item_nodes_at xs k x (omega (arith, lt)) e)

pub item_decided_at : (xs : List CodeItem) (k : ℕ) (x : CodeItem) → k < length xs → x ≡ get_or xs k x
    → items_decided (items_in (map item_of xs)) ≡ true → are_decided (statement_of x.statement) ≡ true
item_decided_at [] k x lt e h = absurd (omega (arith, lt))
item_decided_at (y ∷ xs) zero x lt e h =
    ap (λ z. are_decided (statement_of z.statement)) e ∙ sym (ap (λ i. are_decided i.1) (of_item y))
    ∙ (and_parts (are_decided (item_of y).1) (items_decided (items_in (map item_of xs))) h).0
item_decided_at (y ∷ xs) (suc k) x lt e h =
    item_decided_at xs k x (omega (arith, lt)) e
    (and_parts (are_decided (item_of y).1) (items_decided (items_in (map item_of xs))) h).1
