-- A turn of the loops over the items of blocks and switches.
use Rattle.std.proofs.Common.{◌≡◌, ◌+◌, ◌<◌, ◌≤◌, ℕ, List, [], ◌∷◌, ◌++◌, Result, Ok, Err, length, map, drop, get_or}
use Rattle.std.proofs.Common.{refl, sym, ap, ◌∙◌, subst, rules, arith}
use Rattle.std.proofs.lemmas.List.{drop_more}
use Rattle.std.proofs.lemmas.Grind.{common_steps}
use Rattle.obj_memory.specs.declared.int_type.IntType.{IntType}
use Rattle.c_syntax.specs.declared.statement.BlockItem as rk
use Rattle.c_syntax.specs.Statements as t
use Rattle.c_syntax.specs.StatementsView.{block_item_of, items_in}
use Rattle.c_tree.specs.declared.statement.CaseLabel.{CaseLabel}
use Rattle.c_tree.specs.declared.statement.Statement as code
use Rattle.c_tree.specs.declared.statement.SwitchItem as code_item
use Rattle.c_tree.specs.Statements.{Statement, Statements, SwitchItems, statements_in}
use Rattle.c_tree.specs.Statements as tree
use Rattle.c_tree.specs.View.{statement_of}
use Rattle.c_faults.specs.declared.fault.Refusal.{Refusal}
use Rattle.c_faults.specs.Answer.{Answer, Fails}
use Rattle.c_programs.specs.FileState.{FileTypes}
use Rattle.c_unit_typing.specs.Constructs.{Around, Labelled, labels_on}
use Rattle.c_unit_typing.specs.Files.{File}
use Rattle.c_unit_typing.specs.Statements.{block_item, switch_item}
use Rattle.c_typer.specs.Around.{item_of}
use Rattle.c_typer.proofs.Items.{fails_in_switch, item_fails, items_behind, next_in_switch, next_item}
use Rattle.c_typer.proofs.Items.{no_more, no_more_in_switch, switch_items_behind}

one_more : {A B : Type 0} (f : A → B) (xs : List A) (x : A) → map f (xs ++ x ∷ []) ≡ map f xs ++ f x ∷ []
one_more f [] x = refl
one_more f (y ∷ xs) x = ap (λ z. f y ∷ z) (one_more f xs x)

none_left : {A : Type 0} (xs : List A) (i : ℕ) → length xs ≤ i → drop i xs ≡ []
none_left xs i le = first_of (search (rules, le), grind (arith, common_steps, le))

at_item : (xs : List rk.BlockItem) (i : ℕ) (x : rk.BlockItem) → i < length xs → x ≡ get_or xs i x
    → items_in (drop i xs) ≡ t.items (block_item_of x) (items_in (drop (i + 1) xs))
at_item xs i x low is =
    ap items_in (drop_more xs i x low) ∙ ap (λ y. items_in (y ∷ drop (i + 1) xs)) (sym is)

pub grown : {V A : Type 0} (before held more : V) (items : V → List A) (x : A) → before ≡ held
    → items more ≡ items before ++ x ∷ [] → items more ≡ items held ++ x ∷ []
grown before held more items x same is = is ∙ ap (λ v. items v ++ x ∷ []) same

pub result_typed : {A B : Type 0} (x : A) (result : Result A Refusal) (view : A → B) (new : File)
    (defined : Answer (File × B)) → result ≡ Ok x → FileTypes view new result defined → defined ≡ Ok (new, view x)
result_typed x result view new defined is types = subst (λ r. FileTypes view new r defined) is types

pub block_turn : (a : Around) (xs : List rk.BlockItem) (i : ℕ) (x : rk.BlockItem) (b more : List code.Statement)
    (s : code.Statement) (f new : File) (all : Answer (File × Statements)) → i < length xs → x ≡ get_or xs i x
    → block_item a (block_item_of x) f ≡ Ok (new, statement_of s) → more ≡ b ++ s ∷ []
    → items_behind a (map statement_of b) (items_in (drop i xs)) f ≡ all
    → items_behind a (map statement_of more) (items_in (drop (i + 1) xs)) new ≡ all
block_turn a xs i x b more s f new all low is typed grown before =
    ap (λ z. items_behind a z (items_in (drop (i + 1) xs)) new) (ap (map statement_of) grown
    ∙ one_more statement_of b s)
    ∙ sym (next_item a (block_item_of x) (items_in (drop (i + 1) xs)) (map statement_of b) (statement_of s) f new typed)
    ∙ ap (λ z. items_behind a (map statement_of b) z f) (sym (at_item xs i x low is))
    ∙ before

pub block_fails : (a : Around) (xs : List rk.BlockItem) (i : ℕ) (x : rk.BlockItem) (b : List code.Statement)
    (f : File) (all : Answer (File × Statements)) (e : Refusal) → i < length xs → x ≡ get_or xs i x
    → Fails e (block_item a (block_item_of x) f)
    → items_behind a (map statement_of b) (items_in (drop i xs)) f ≡ all → Fails e all
block_fails a xs i x b f all e low is fails before =
    subst (Fails e) (ap (λ z. items_behind a (map statement_of b) z f) (sym (at_item xs i x low is)) ∙ before)
    (item_fails a (block_item_of x) (items_in (drop (i + 1) xs)) (map statement_of b) f e fails)

pub block_done : (a : Around) (xs : List rk.BlockItem) (i : ℕ) (b : List code.Statement) (f : File)
    (all : Answer (File × Statements)) → length xs ≤ i
    → items_behind a (map statement_of b) (items_in (drop i xs)) f ≡ all
    → all ≡ Ok (f, statements_in (map statement_of b))
block_done a xs i b f all le before =
    sym before ∙ ap (λ z. items_behind a (map statement_of b) (items_in z) f) (none_left xs i le)
    ∙ no_more a (map statement_of b) f

pub switch_turn : (a : Around) (type : IntType) (xs : List rk.BlockItem) (i : ℕ) (x : rk.BlockItem)
    (earlier labels : List CaseLabel) (b more : List code_item.SwitchItem) (s : Labelled) (f new : File)
    (all : Answer (File × SwitchItems)) → i < length xs → x ≡ get_or xs i x
    → switch_item a (labels_on type earlier) (block_item_of x) f ≡ Ok (new, s) → labels ≡ earlier ++ s.labels
    → map item_of more ≡ map item_of b ++ (s.labels, s.statement) ∷ []
    → switch_items_behind a type earlier (map item_of b) (items_in (drop i xs)) f ≡ all
    → switch_items_behind a type labels (map item_of more) (items_in (drop (i + 1) xs)) new ≡ all
switch_turn a type xs i x earlier labels b more s f new all low is typed behind grown before =
    ap (λ z. switch_items_behind a type z (map item_of more) (items_in (drop (i + 1) xs)) new) behind
    ∙ ap (λ z. switch_items_behind a type (earlier ++ s.labels) z (items_in (drop (i + 1) xs)) new) grown
    ∙ sym (next_in_switch a type earlier (block_item_of x) (items_in (drop (i + 1) xs)) (map item_of b) s f new typed)
    ∙ ap (λ z. switch_items_behind a type earlier (map item_of b) z f) (sym (at_item xs i x low is))
    ∙ before

pub switch_fails : (a : Around) (type : IntType) (xs : List rk.BlockItem) (i : ℕ) (x : rk.BlockItem)
    (earlier : List CaseLabel) (b : List code_item.SwitchItem) (f : File) (all : Answer (File × SwitchItems))
    (e : Refusal) → i < length xs → x ≡ get_or xs i x
    → Fails e (switch_item a (labels_on type earlier) (block_item_of x) f)
    → switch_items_behind a type earlier (map item_of b) (items_in (drop i xs)) f ≡ all → Fails e all
switch_fails a type xs i x earlier b f all e low is fails before =
    subst (Fails e) (ap (λ z. switch_items_behind a type earlier (map item_of b) z f) (sym (at_item xs i x low is))
    ∙ before)
    (fails_in_switch a type earlier (block_item_of x) (items_in (drop (i + 1) xs)) (map item_of b) f e fails)

pub switch_done : (a : Around) (type : IntType) (xs : List rk.BlockItem) (i : ℕ) (earlier : List CaseLabel)
    (b : List code_item.SwitchItem) (f : File) (all : Answer (File × SwitchItems)) → length xs ≤ i
    → switch_items_behind a type earlier (map item_of b) (items_in (drop i xs)) f ≡ all
    → all ≡ Ok (f, tree.items_in (map item_of b))
switch_done a type xs i earlier b f all le before =
    sym before ∙ ap (λ z. switch_items_behind a type earlier (map item_of b) (items_in z) f) (none_left xs i le)
    ∙ no_more_in_switch a type earlier (map item_of b) f

-- an item is refused, and so is the switch
pub switch_refused : {A I : Type 0} (view : A → SwitchItems) (item : I → Labelled) (a : Around) (type : IntType)
    (xs : List rk.BlockItem) (i : ℕ) (x : rk.BlockItem) (earlier : List CaseLabel) (b : List code_item.SwitchItem)
    (f new : File) (all : Answer (File × SwitchItems)) (r : Result A Refusal) (o : Result I Refusal) (e : Refusal)
    → i < length xs → x ≡ get_or xs i x
    → FileTypes item new o (switch_item a (labels_on type earlier) (block_item_of x) f) → o ≡ Err e → r ≡ Err e
    → switch_items_behind a type earlier (map item_of b) (items_in (drop i xs)) f ≡ all → FileTypes view new r all
switch_refused view item a type xs i x earlier b f new all r o e low is typed refused given before =
    subst (λ z. FileTypes view new z all) (sym given)
    (switch_fails a type xs i x earlier b f all e low is
    (subst (λ z. FileTypes item new z (switch_item a (labels_on type earlier) (block_item_of x) f)) refused typed)
    before)
