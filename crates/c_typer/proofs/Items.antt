-- The items of blocks and switches, one behind the other.
use Rattle.std.proofs.Common.{◌≡◌, List, [], ◌∷◌, ◌++◌, Ok, Err, refl, sym, ap, ◌∙◌}
use Rattle.obj_memory.specs.declared.int_type.IntType.{IntType}
use Rattle.c_syntax.specs.Statements as t
use Rattle.c_tree.specs.declared.statement.CaseLabel.{CaseLabel}
use Rattle.c_tree.specs.Statements.{Statement, Statements, SwitchItems, items, items_in, no_items, no_statements}
use Rattle.c_tree.specs.Statements.{statements, statements_in}
use Rattle.c_faults.specs.declared.fault.Refusal.{Refusal}
use Rattle.c_faults.specs.Answer.{Answer, Fails, ◌>>=◌}
use Rattle.c_unit_typing.specs.Constructs.{Around, Labelled, labels_on}
use Rattle.c_unit_typing.specs.Files.{File, finished, ◌~>◌}
use Rattle.c_unit_typing.specs.Statements.{block_item, block_items, switch_item, switch_items}
use Rattle.c_syntax_typing.proofs.Composing.{fails_on}

-- ---- of a block

abbrev pub behind : List Statement → Statements → Statements
behind [] ss = ss
behind (s ∷ b) ss = statements s (behind b ss)

behind_more : (b : List Statement) (s : Statement) (ss : Statements)
    → behind (b ++ s ∷ []) ss ≡ behind b (statements s ss)
behind_more [] s ss = refl
behind_more (x ∷ b) s ss = ap (statements x) (behind_more b s ss)

behind_all : (b : List Statement) → behind b no_statements ≡ statements_in b
behind_all [] = refl
behind_all (x ∷ b) = ap (statements x) (behind_all b)

abbrev kept : List Statement → Answer (File × Statements) → Answer (File × Statements)
kept b o = o >>= λ r. Ok (r.0, behind b r.1)

abbrev with_first : Statement → Answer (File × Statements) → Answer (File × Statements)
with_first s o = o >>= λ r. Ok (r.0, statements s r.1)

-- what stands behind some that are typed
abbrev pub items_behind : Around → List Statement → t.BlockItems → File → Answer (File × Statements)
items_behind a b xs = block_items a xs ~> λ ss. finished (behind b ss)

pub none_before : (a : Around) (xs : t.BlockItems) (f : File) → items_behind a [] xs f ≡ block_items a xs f
none_before a xs f = by (block_items a xs f)
  where
    by : (o : Answer (File × Statements)) → (o >>= λ r. Ok (r.0, r.1)) ≡ o
    by (Ok r) = refl
    by (Err e) = refl

abbrev rest_behind : Around → t.BlockItems → List Statement → Answer (File × Statement) → Answer (File × Statements)
rest_behind a more b o = kept b (o >>= λ q. (block_items a more ~> λ ss. finished (statements q.1 ss)) q.0)

pub next_item : (a : Around) (x : t.BlockItem) (more : t.BlockItems) (b : List Statement) (s : Statement)
    (f new : File) → block_item a x f ≡ Ok (new, s)
    → items_behind a b (t.items x more) f ≡ items_behind a (b ++ s ∷ []) more new
next_item a x more b s f new is =
    ap (λ (r : Answer (File × Statement)). rest_behind a more b r) is
    ∙ by (block_items a more new)
  where
    by : (o : Answer (File × Statements)) → kept b (with_first s o) ≡ kept (b ++ s ∷ []) o
    by (Ok r) = ap (λ z. Ok (r.0, z)) (sym (behind_more b s r.1))
    by (Err e) = refl

pub item_fails : (a : Around) (x : t.BlockItem) (more : t.BlockItems) (b : List Statement) (f : File) (e : Refusal)
    → Fails e (block_item a x f) → Fails e (items_behind a b (t.items x more) f)
item_fails a x more b f e fails =
    fails_on e (block_items a (t.items x more) f) (λ r. Ok (r.0, behind b r.1))
    (fails_on e (block_item a x f) (λ q. (block_items a more ~> λ ss. finished (statements q.1 ss)) q.0) fails)

pub no_more : (a : Around) (b : List Statement) (f : File)
    → items_behind a b t.no_items f ≡ Ok (f, statements_in b)
no_more a b f = ap (λ z. Ok (f, z)) (behind_all b)

-- ---- of a switch

abbrev pub switch_behind : List (List CaseLabel × Statement) → SwitchItems → SwitchItems
switch_behind [] is = is
switch_behind (i ∷ b) is = items i.0 i.1 (switch_behind b is)

switch_more : (b : List (List CaseLabel × Statement)) (i : List CaseLabel × Statement) (is : SwitchItems)
    → switch_behind (b ++ i ∷ []) is ≡ switch_behind b (items i.0 i.1 is)
switch_more [] i is = refl
switch_more (x ∷ b) i is = ap (items x.0 x.1) (switch_more b i is)

switch_all : (b : List (List CaseLabel × Statement)) → switch_behind b no_items ≡ items_in b
switch_all [] = refl
switch_all (x ∷ b) = ap (items x.0 x.1) (switch_all b)

abbrev kept_in_switch : List (List CaseLabel × Statement) → Answer (File × SwitchItems) → Answer (File × SwitchItems)
kept_in_switch b o = o >>= λ r. Ok (r.0, switch_behind b r.1)

abbrev with_first_item : Labelled → Answer (File × SwitchItems) → Answer (File × SwitchItems)
with_first_item s o = o >>= λ r. Ok (r.0, items s.labels s.statement r.1)

abbrev pub switch_items_behind : Around → IntType → (earlier : List CaseLabel) → List (List CaseLabel × Statement)
    → t.BlockItems → File → Answer (File × SwitchItems)
switch_items_behind a type earlier b xs = switch_items a type earlier xs ~> λ is. finished (switch_behind b is)

pub none_in_switch : (a : Around) (type : IntType) (xs : t.BlockItems) (f : File)
    → switch_items_behind a type [] [] xs f ≡ switch_items a type [] xs f
none_in_switch a type xs f = by (switch_items a type [] xs f)
  where
    by : (o : Answer (File × SwitchItems)) → (o >>= λ r. Ok (r.0, r.1)) ≡ o
    by (Ok r) = refl
    by (Err e) = refl

abbrev rest_of_switch : Around → IntType → List CaseLabel → t.BlockItems → List (List CaseLabel × Statement)
    → Answer (File × Labelled) → Answer (File × SwitchItems)
rest_of_switch a type earlier more b o =
    kept_in_switch b (o >>= λ q. (switch_items a type (earlier ++ q.1.labels) more ~> λ is.
    finished (items q.1.labels q.1.statement is)) q.0)

pub next_in_switch : (a : Around) (type : IntType) (earlier : List CaseLabel) (x : t.BlockItem) (more : t.BlockItems)
    (b : List (List CaseLabel × Statement)) (s : Labelled) (f new : File)
    → switch_item a (labels_on type earlier) x f ≡ Ok (new, s)
    → switch_items_behind a type earlier b (t.items x more) f
    ≡ switch_items_behind a type (earlier ++ s.labels) (b ++ (s.labels, s.statement) ∷ []) more new
next_in_switch a type earlier x more b s f new is =
    ap (λ (r : Answer (File × Labelled)). rest_of_switch a type earlier more b r) is
    ∙ by (switch_items a type (earlier ++ s.labels) more new)
  where
    by : (o : Answer (File × SwitchItems)) → kept_in_switch b (with_first_item s o)
        ≡ kept_in_switch (b ++ (s.labels, s.statement) ∷ []) o
    by (Ok r) = ap (λ z. Ok (r.0, z)) (sym (switch_more b (s.labels, s.statement) r.1))
    by (Err e) = refl

pub fails_in_switch : (a : Around) (type : IntType) (earlier : List CaseLabel) (x : t.BlockItem) (more : t.BlockItems)
    (b : List (List CaseLabel × Statement)) (f : File) (e : Refusal)
    → Fails e (switch_item a (labels_on type earlier) x f)
    → Fails e (switch_items_behind a type earlier b (t.items x more) f)
fails_in_switch a type earlier x more b f e fails =
    fails_on e (switch_items a type earlier (t.items x more) f) (λ r. Ok (r.0, switch_behind b r.1))
    (fails_on e (switch_item a (labels_on type earlier) x f)
    (λ q. (switch_items a type (earlier ++ q.1.labels) more ~> λ is. finished (items q.1.labels q.1.statement is)) q.0)
    fails)

pub no_more_in_switch : (a : Around) (type : IntType) (earlier : List CaseLabel)
    (b : List (List CaseLabel × Statement)) (f : File)
    → switch_items_behind a type earlier b t.no_items f ≡ Ok (f, items_in b)
no_more_in_switch a type earlier b f = ap (λ z. Ok (f, z)) (switch_all b)
