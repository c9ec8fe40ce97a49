-- Functions of a valid program are ready for lowering.
use Rattle.std.proofs.Common.{◌≡◌, ℕ, zero, suc, ◌+◌, ◌≤◌, ◌<◌, Bool, true, false, List, [], ◌∷◌, ◌++◌, length}
use Rattle.std.proofs.Common.{map, refl}
use Rattle.std.proofs.Common.{sym, ap, ◌∙◌, subst, arith}
use Rattle.std.specs.Prelude.{not, ◌||◌, ◌==◌, nat_le, get_or}
use Rattle.std.specs.List.{list_all, list_any}
use Rattle.std.proofs.lemmas.Bool.{and_parts, and_from, eqb-true, leb-true}
use Rattle.std.proofs.lemmas.Bool.Decides.{nat_tests}
use Rattle.c_tree.specs.declared.statement.CaseLabel.{CaseLabel}
use Rattle.c_tree.specs.declared.statement.CaseLabel.TheVariants.{Case, Default}
use Rattle.c_tree.specs.declared.expression.Kind.{Kind}
use Rattle.c_tree.specs.declared.program.Function.{Function as CodeFunction}
use Rattle.c_tree.specs.View.{function_of}
use Rattle.c_tree.specs.Blocks.{block_variables, switch_variables, first_variables}
use Rattle.c_tree.specs.Programs.{Function, StaticObject, Program}
use Rattle.c_tree.specs.Room.{room, function_height}
use Rattle.c_tree.specs.Statements.{Statement, expression_statement, empty, declaration, block, if_then, if_else}
use Rattle.c_tree.specs.Statements.{while_do, do_while, for, switch, break, continue, return, Statements, no_statements}
use Rattle.c_tree.specs.Statements.{statements, SwitchItems, no_items, items}
use Rattle.c_tree.specs.Valid.{Scope, within}
use Rattle.c_tree.specs.ValidProgram.{Inside, in_loop, in_switch, is_statement, are_statements, are_items, is_function}
use Rattle.c_tree.specs.ValidProgram.{function_scope, signature_at, are_functions, is_valid_program, are_different}
use Rattle.c_tree.specs.ValidProgram.{labels_of, same_label}
use Rattle.c_lower.specs.Statements.{any_default, has_default}
use Rattle.program_lowering.specs.StatementCode.Sizes.{each_height}
use Rattle.program_lowering.specs.StatementCode.Switches.{has_one_default, are_decided, each_decided, items_decided}
use Rattle.program_lowering.proofs.StatementCode.Heights.{height_of_each}
use Rattle.program_lowering.specs.ProgramCode.Whole.{is_ready}

-- labels that are all different have one default

same_default : (ls : List CaseLabel) → list_any (same_label Default) ls ≡ any_default ls
same_default [] = refl
same_default (Case w ∷ ls) = same_default ls
same_default (Default ∷ ls) = refl

any_and : (xs ys : List CaseLabel) → any_default (xs ++ ys) ≡ any_default xs || any_default ys
any_and [] ys = refl
any_and (Case w ∷ xs) ys = any_and xs ys
any_and (Default ∷ xs) ys = refl

default_among : (is : SwitchItems) → has_default is ≡ any_default (labels_of is)
default_among no_items = refl
default_among (items labels s is) =
    ap (λ b. any_default labels || b) (default_among is) ∙ sym (any_and labels (labels_of is))

not_either : (a b : Bool) → not (a || b) ≡ true → not b ≡ true
not_either true b e = cc
not_either false b e = e

apart : (xs ys : List CaseLabel) → are_different (xs ++ ys) ≡ true → not (any_default xs) || not (any_default ys) ≡ true
apart [] ys h = refl
apart (Case w ∷ xs) ys h =
    apart xs ys (and_parts (not (list_any (same_label (Case w)) (xs ++ ys))) (are_different (xs ++ ys)) h).1
apart (Default ∷ xs) ys h =
    let none = (and_parts (not (list_any (same_label Default) (xs ++ ys))) (are_different (xs ++ ys)) h).0 in
    not_either (any_default xs) (any_default ys) (sym (ap not (same_default (xs ++ ys) ∙ any_and xs ys)) ∙ none)

different_behind : (xs ys : List CaseLabel) → are_different (xs ++ ys) ≡ true → are_different ys ≡ true
different_behind [] ys h = h
different_behind (l ∷ xs) ys h =
    different_behind xs ys (and_parts (not (list_any (same_label l) (xs ++ ys))) (are_different (xs ++ ys)) h).1

one_default : (is : SwitchItems) → are_different (labels_of is) ≡ true → has_one_default is ≡ true
one_default no_items h = refl
one_default (items labels s is) h =
    and_from (not (any_default labels) || not (has_default is)) (has_one_default is)
    (subst (λ b. not (any_default labels) || not b ≡ true) (sym (default_among is)) (apart labels (labels_of is) h))
    (one_default is (different_behind labels (labels_of is) h))

mutual
  decided : (scope : Scope) (inside : Inside) (s : Statement) → is_statement scope inside s ≡ true
      → are_decided s ≡ true
  decided scope inside (expression_statement e) h = refl
  decided scope inside empty h = refl
  decided scope inside (declaration ds) h = refl
  decided scope inside (block line body) h = decided_each (within scope (block_variables body)) inside body h
  decided scope inside (if_then e s) h =
      decided scope inside s (and_parts _ (is_statement scope inside s) (and_parts _ _ h).0).1
  decided scope inside (if_else e s other) h =
      let q = and_parts _ _ h in
      let r = and_parts _ (is_statement scope inside other) q.0 in
      let t = and_parts _ _ r.0 in
      and_from (are_decided s) (are_decided other) (decided scope inside s (and_parts _
      (is_statement scope inside s) t.0).1)
      (decided scope inside other r.1)
  decided scope inside (while_do e s) h =
      decided scope in_loop s (and_parts _ (is_statement scope in_loop s) (and_parts _ _ h).0).1
  decided scope inside (do_while s e) h =
      decided scope in_loop s (and_parts (is_statement scope in_loop s) _ (and_parts _ _ h).0).0
  decided scope inside (for line first condition step s) h =
      let inner = within scope (first_variables first) in
      decided inner in_loop s (and_parts _ (is_statement inner in_loop s) (and_parts _ _ h).0).1
  decided scope inside (switch e line is) h =
      let inner = within scope (switch_variables is) in
      let q = and_parts _ (are_items inner (in_switch inside) is) h in
      let r = and_parts _ (are_different (labels_of is)) q.0 in
      and_from (has_one_default is) (items_decided is) (one_default is r.1) (decided_items inner
      (in_switch inside) is q.1)
  decided scope inside break h = refl
  decided scope inside continue h = refl
  decided scope inside (return e) h = refl

  decided_each : (scope : Scope) (inside : Inside) (ss : Statements) → are_statements scope inside ss ≡ true
      → each_decided ss ≡ true
  decided_each scope inside no_statements h = refl
  decided_each scope inside (statements s ss) h =
      let q = and_parts (is_statement scope inside s) (are_statements scope inside ss) h in
      and_from (are_decided s) (each_decided ss) (decided scope inside s q.0) (decided_each scope inside ss q.1)

  decided_items : (scope : Scope) (inside : Inside) (is : SwitchItems) → are_items scope inside is ≡ true
      → items_decided is ≡ true
  decided_items scope inside no_items h = refl
  decided_items scope inside (items labels s is) h =
      let q = and_parts (is_statement scope inside s) (are_items scope inside is) h in
      and_from (are_decided s) (items_decided is) (decided scope inside s q.0) (decided_items scope inside is q.1)

-- the room of a function counts its temporaries

in_room : (statics : List StaticObject) (n : ℕ) (result : Kind) (f : Function)
    → 1 + function_height statics n f ≤ room statics n result f
unfolding room
in_room statics n result f = omega arith

below_room : (statics : List StaticObject) (n : ℕ) (f : Function) → each_height f.body ≤ 1 + function_height statics n f
below_room statics n f = omega (arith, height_of_each f.body)

le_true : (a b : ℕ) → a ≤ b → nat_le a b ≡ true
le_true a b h = grind (arith, nat_tests)

abbrev pub outside : Inside
outside = record { may_break = false; may_continue = false }

is_ready_by : (p : Program) (n : ℕ) (f : Function) → is_function p n f ≡ true → is_ready f ≡ true
is_ready_by p n f h =
    let kind = (signature_at p f.type_number).result in
    let q = and_parts _ (f.room == room p.statics n kind f) h in
    let b = and_parts _ (are_statements (function_scope p f) outside f.body) q.0 in
    let same : f.room ≡ room p.statics n kind f = eqb-true f.room (room p.statics n kind f) q.1 in
    and_from (nat_le (each_height f.body) f.room) (each_decided f.body)
    (le_true (each_height f.body) f.room
    (omega (arith, same, below_room p.statics n f, in_room p.statics n kind f)))
    (decided_each (function_scope p f) outside f.body b.1)

each_ready : (p : Program) (n : ℕ) (fs : List Function) → are_functions p n fs ≡ true → list_all is_ready fs ≡ true
each_ready p n [] h = refl
each_ready p n (f ∷ fs) h =
    let q = and_parts (is_function p n f) (are_functions p (suc n) fs) h in
    and_from (is_ready f) (list_all is_ready fs) (is_ready_by p n f q.0) (each_ready p (suc n) fs q.1)

pub all_ready : (p : Program) → is_valid_program p ≡ true → list_all is_ready p.functions ≡ true
unfolding is_valid_program
all_ready p h = each_ready p 0 p.functions (and_parts _ (are_functions p 0 p.functions) (and_parts _ _ h).0).1

pub ready_at : (xs : List CodeFunction) (k : ℕ) (x : CodeFunction) → k < length xs → x ≡ get_or xs k x
    → list_all is_ready (map function_of xs) ≡ true → is_ready (function_of x) ≡ true
ready_at [] k x lt e h = absurd (omega (arith, lt))
ready_at (y ∷ xs) zero x lt e h =
    ap (λ z. is_ready (function_of z)) e
    ∙ (and_parts (is_ready (function_of y)) (list_all is_ready (map function_of xs)) h).0
ready_at (y ∷ xs) (suc k) x lt e h =
    ready_at xs k x (omega (arith, lt)) e
    (and_parts (is_ready (function_of y)) (list_all is_ready (map function_of xs)) h).1

pub ready_height : (f : Function) → is_ready f ≡ true → each_height f.body ≤ f.room
ready_height f h =
    leb-true (each_height f.body) f.room (and_parts (nat_le (each_height f.body) f.room) (each_decided f.body) h).0

pub ready_decided : (f : Function) → is_ready f ≡ true → each_decided f.body ≡ true
ready_decided f h = (and_parts (nat_le (each_height f.body) f.room) (each_decided f.body) h).1

pub ruleset is_ready_for = (ready_height, ready_decided)

pub ruleset ready = (all_ready)
