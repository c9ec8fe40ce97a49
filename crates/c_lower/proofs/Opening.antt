-- Blocks are entered once: in a valid function the variables of a block are none that can be named around it, and what
-- has a home can be named. So no variable of the block has a home where it is entered.
use Rattle.std.proofs.Common.{◌≡◌, ℕ, zero, suc, ◌+◌, ◌-◌, ◌<◌, ◌≤◌, List, [], ◌∷◌, ◌++◌, Option, Some, None, Bool}
use Rattle.std.proofs.Common.{true, false, refl, sym, ap, ◌∙◌, subst, arith, eq-eqb, length-append}
use Rattle.std.specs.Prelude.{◌&&◌, ◌||◌, ◌==◌, map, length, get_or, if◌then◌else◌, nat_le, nat_lt}
use Rattle.std.proofs.lemmas.Bool.{eqb-true}
use Rattle.sb_base.specs.declared.ending.Ending.TheVariants.{Stack, Keys}
use Rattle.c_tree.specs.declared.program.Variable.{Variable}
use Rattle.c_tree.specs.declared.expression.Kind.{Kind}
use Rattle.c_tree.specs.Kinds.{size_of_kind}
use Rattle.c_tree.specs.Statements.{Statement}
use Rattle.c_tree.specs.Statements.{expression_statement, empty, declaration, block, if_then, if_else, while_do}
use Rattle.c_tree.specs.Statements.{do_while, for, switch, break, continue, return, Statements, no_statements}
use Rattle.c_tree.specs.Statements.{statements, SwitchItems, no_items, items}
use Rattle.c_tree.specs.Programs.{Function}
use Rattle.c_tree.specs.Blocks.{no_variable, closed, is_among, opened, block_objects, declared_by, block_variables}
use Rattle.c_tree.specs.Blocks.{switch_variables, first_variables, all_variables, each_variables, items_variables}
use Rattle.c_tree.specs.Blocks.{all_of, body_variables}
use Rattle.c_tree.specs.ValidProgram.{count_from, declares_all}
use Rattle.source_meaning.specs.State.{State, Rvalue, Home, NoObject, InObject, Outcome, Gives, Ended, Paused, on}
use Rattle.source_meaning.specs.State.{◌>>◌, done, stop, choose, change, skip, Setting, Header}
use Rattle.source_meaning.specs.Actions.{take_key, home_value}
use Rattle.source_meaning.specs.Places.{stack_end}
use Rattle.source_meaning.specs.Blocks.{pass_or_stop, objects_end, has_objects, test_keys, over, homes_over}
use Rattle.source_meaning.specs.Blocks.{place_object, place_variables, Block, place_block, enter_block}
use Rattle.source_meaning.specs.Calls.{header_of, call_tests, first_of, rest_of, write_parameter, write_parameters}
use Rattle.source_meaning.specs.Calls.{lay_out, set_up}
use Rattle.source_meaning.specs.Staying.{KeepsBy}
use Rattle.source_meaning.specs.Good.{object_kind}
use Rattle.source_meaning.proofs.Local.{IsLocal, local_on, local_then, local_skip, local_read}
use Rattle.source_meaning.proofs.ActionsAct.{local_write_rvalue}
use Rattle.source_meaning.proofs.ValidNames.{both}
use Rattle.tac_ir.specs.Fitting.{has_no_home, have_no_homes}

-- numbers in the order of the text

neither_one : (a b : Bool) → (a || b) ≡ false → (a ≡ false) × (b ≡ false)
neither_one true b e = cc
neither_one false b e = (refl, e)

none_of : {a b : Bool} → a ≡ false → b ≡ false → (a || b) ≡ false
none_of {a = a} {b = b} e h = ap (λ q. q || b) e ∙ h

either_of : (a b c : Bool) → (a || (b || c)) ≡ ((a || b) || c)
either_of true b c = refl
either_of false b c = refl

among_append : (xs ys : List ℕ) (x : ℕ) → is_among (xs ++ ys) x ≡ (is_among xs x || is_among ys x)
among_append [] ys x = refl
among_append (y ∷ xs) ys x =
    ap (λ b. (y == x) || b) (among_append xs ys x) ∙ either_of (y == x) (is_among xs x) (is_among ys x)

among_neither : (xs ys : List ℕ) (x : ℕ) → is_among xs x ≡ false → is_among ys x ≡ false
    → is_among (xs ++ ys) x ≡ false
among_neither xs ys x e h = among_append xs ys x ∙ none_of e h

in_neither : (xs ys : List ℕ) (x : ℕ) → is_among (xs ++ ys) x ≡ false
    → (is_among xs x ≡ false) × (is_among ys x ≡ false)
in_neither xs ys x e = neither_one (is_among xs x) (is_among ys x) (sym (among_append xs ys x) ∙ e)

count_split : (first : ℕ) (xs ys : List ℕ) → count_from first (xs ++ ys) ≡ true
    → (count_from first xs ≡ true) × (count_from (first + length xs) ys ≡ true)
count_split first [] ys e = let same : first ≡ first + 0 = omega arith in
    (refl, subst (λ n. count_from n ys ≡ true) same e)
count_split first (x ∷ xs) ys e =
    let q = both (x == first) (count_from (suc first) (xs ++ ys)) e in
    let h = count_split (suc first) xs ys q.1 in
    let same : suc first + length xs ≡ first + length (x ∷ xs) = omega arith in
    (ap (λ b. b && count_from (suc first) xs) q.0 ∙ h.0, subst (λ n. count_from n ys ≡ true) same h.1)

counted_range : (first : ℕ) (xs : List ℕ) (x : ℕ) → count_from first xs ≡ true → is_among xs x ≡ true
    → (first ≤ x) × (x < first + length xs)
counted_range first [] x e h = cc
counted_range first (y ∷ xs) x e h =
    let q = both (y == first) (count_from (suc first) xs) e in
    by (eqb-true y first q.0) (counted_range (suc first) xs x q.1) (y == x) refl h
  where
    by : y ≡ first → (is_among xs x ≡ true → (suc first ≤ x) × (x < suc first + length xs)) → (b : Bool)
        → (y == x) ≡ b → (b || is_among xs x) ≡ true → (first ≤ x) × (x < first + length (y ∷ xs))
    by start rest true same h = let here = eqb-true y x same in (omega arith, omega arith)
    by start rest false other h = let r = rest h in (omega (arith, r.0), omega (arith, r.1))

none_outside : (first : ℕ) (xs : List ℕ) (x : ℕ) → count_from first xs ≡ true
    → (first ≤ x → x < first + length xs → ⊥) → is_among xs x ≡ false
none_outside first xs x e out = by (is_among xs x) refl
  where
    by : (b : Bool) → is_among xs x ≡ b → b ≡ false
    by true h = let r = counted_range first xs x e h in absurd (out r.0 r.1)
    by false h = refl

-- a block's own variables are among all that are declared in it

own_none : (s : Statement) (x : ℕ) → is_among (all_variables s) x ≡ false → is_among (declared_by s) x ≡ false
own_none (declaration ds) x e = e
own_none s x e = refl

block_none : (ss : Statements) (x : ℕ) → is_among (each_variables ss) x ≡ false
    → is_among (block_variables ss) x ≡ false
block_none no_statements x e = refl
block_none (statements s ss) x e =
    let q = in_neither (all_variables s) (each_variables ss) x e in
    among_neither (declared_by s) (block_variables ss) x (own_none s x q.0) (block_none ss x q.1)

switch_none : (is : SwitchItems) (x : ℕ) → is_among (items_variables is) x ≡ false
    → is_among (switch_variables is) x ≡ false
switch_none no_items x e = refl
switch_none (items labels s is) x e =
    let q = in_neither (all_variables s) (items_variables is) x e in
    among_neither (declared_by s) (switch_variables is) x (own_none s x q.0) (switch_none is x q.1)

-- what can be named where a block is entered

-- the variables with some numbers are no objects that can be named
pub record AreUnnamed (numbers : List ℕ) (vs : List Variable) : Type 0 where
  pub none : (x : ℕ) → is_among numbers x ≡ true → object_kind vs x ≡ None

abbrev kind_if : Variable → Option Kind
kind_if v = if v.is_object then Some v.kind else None

closed_kind : (v : Variable) → kind_if (closed v) ≡ None
closed_kind v = by v.is_object refl
  where
    by : (b : Bool) → v.is_object ≡ b → kind_if (if b then no_variable else v) ≡ None
    by true e = refl
    by false e = ap (λ b. if b then Some v.kind else None) e

none_closed : (vs : List Variable) (x : ℕ) → object_kind (map closed vs) x ≡ None
none_closed [] x = refl
none_closed (v ∷ vs) zero = closed_kind v
none_closed (v ∷ vs) (suc x) = none_closed vs x

-- what is no object of the block, and cannot be named around it, cannot be named in it
none_opened : (numbers : List ℕ) (first : ℕ) (all vs : List Variable) (x n : ℕ) → n ≡ first + x
    → is_among numbers n ≡ false → object_kind vs x ≡ None → object_kind (opened numbers first all vs) x ≡ None
none_opened numbers first [] vs x n at other e = refl
none_opened numbers first (d ∷ ds) [] x n at other e = refl
none_opened numbers first (d ∷ ds) (v ∷ vs) zero n at other e =
    let same : first ≡ n = omega (arith, at) in
    ap (λ b. kind_if (if b then d else v)) (ap (is_among numbers) same ∙ other) ∙ e
none_opened numbers first (d ∷ ds) (v ∷ vs) (suc x) n at other e = none_opened numbers (suc first) ds vs x n
    (omega (arith, at)) other e

abbrev pub SameLength : (all vs : List Variable) → Type 0
SameLength all vs = length vs ≡ length all

opened_length : (numbers : List ℕ) (first : ℕ) (all vs : List Variable) → SameLength all vs
    → SameLength all (opened numbers first all vs)
opened_length numbers first [] vs e = refl
opened_length numbers first (d ∷ ds) [] e = e
opened_length numbers first (d ∷ ds) (v ∷ vs) e = ap suc (opened_length numbers (suc first) ds vs (omega (arith, e)))

closed_length : (vs : List Variable) → SameLength vs (map closed vs)
closed_length [] = refl
closed_length (v ∷ vs) = ap suc (closed_length vs)

opened_own : (numbers : List ℕ) (first : ℕ) (all vs : List Variable) (x n : ℕ) → SameLength all vs → n ≡ first + x
    → is_among numbers n ≡ true → object_kind (opened numbers first all vs) x ≡ object_kind all x
opened_own numbers first [] vs x n long at own = refl
opened_own numbers first (d ∷ ds) [] x n long at own = absurd (omega (arith, long))
opened_own numbers first (d ∷ ds) (v ∷ vs) zero n long at own =
    let same : first ≡ n = omega (arith, at) in
    ap (λ b. kind_if (if b then d else v)) (ap (is_among numbers) same ∙ own)
opened_own numbers first (d ∷ ds) (v ∷ vs) (suc x) n long at own = opened_own numbers (suc first) ds vs x n
    (omega (arith, long)) (omega (arith, at)) own

opened_other : (numbers : List ℕ) (first : ℕ) (all vs : List Variable) (x n : ℕ) → SameLength all vs → n ≡ first + x
    → is_among numbers n ≡ false → object_kind (opened numbers first all vs) x ≡ object_kind vs x
opened_other numbers first [] [] x n long at other = refl
opened_other numbers first [] (v ∷ vs) x n long at other = absurd (omega (arith, long))
opened_other numbers first (d ∷ ds) [] x n long at other = refl
opened_other numbers first (d ∷ ds) (v ∷ vs) zero n long at other =
    let same : first ≡ n = omega (arith, at) in
    ap (λ b. kind_if (if b then d else v)) (ap (is_among numbers) same ∙ other)
opened_other numbers first (d ∷ ds) (v ∷ vs) (suc x) n long at other = opened_other numbers (suc first) ds vs x n
    (omega (arith, long)) (omega (arith, at)) other

-- Of the variables that can be named in a statement none belongs to a block in it, where all are those of the function.
abbrev mutual
  pub Opens : (all vs : List Variable) → Statement → Type 0
  Opens all vs (expression_statement e) = Unit {0}
  Opens all vs empty = Unit {0}
  Opens all vs (declaration ds) = Unit {0}
  Opens all vs (block line body) =
      AreUnnamed (block_variables body) vs × EachOpens all (opened (block_variables body) 0 all vs) body
  Opens all vs (if_then e s) = Opens all vs s
  Opens all vs (if_else e s other) = Opens all vs s × Opens all vs other
  Opens all vs (while_do e s) = Opens all vs s
  Opens all vs (do_while s e) = Opens all vs s
  Opens all vs (for line first condition step s) =
      AreUnnamed (first_variables first) vs × Opens all (opened (first_variables first) 0 all vs) s
  Opens all vs (switch e line is) =
      AreUnnamed (switch_variables is) vs × ItemsOpen all (opened (switch_variables is) 0 all vs) is
  Opens all vs break = Unit {0}
  Opens all vs continue = Unit {0}
  Opens all vs (return e) = Unit {0}

  pub EachOpens : (all vs : List Variable) → Statements → Type 0
  EachOpens all vs no_statements = Unit {0}
  EachOpens all vs (statements s ss) = Opens all vs s × EachOpens all vs ss

  pub ItemsOpen : (all vs : List Variable) → SwitchItems → Type 0
  ItemsOpen all vs no_items = Unit {0}
  ItemsOpen all vs (items labels s is) = Opens all vs s × ItemsOpen all vs is

-- Of the numbers from a first one on, as many as some list has, those that are none of a block's own are no objects
-- that can be named.
record AreLeft (own : List ℕ) (first : ℕ) (xs : List ℕ) (vs : List Variable) : Type 0 where
  none : (x : ℕ) → first ≤ x → x < first + length xs → is_among own x ≡ false → object_kind vs x ≡ None

-- none of these is one of the block's own
unnamed_in : (own : List ℕ) (first : ℕ) (xs : List ℕ) (vs : List Variable) → count_from first xs ≡ true
    → ((x : ℕ) → is_among xs x ≡ false → is_among own x ≡ false) → AreLeft [] first xs vs → AreUnnamed own vs
unnamed_in own first xs vs counted within left = record { none = λ x h. by x h (is_among xs x) refl }
  where
    by : (x : ℕ) → is_among own x ≡ true → (b : Bool) → is_among xs x ≡ b → object_kind vs x ≡ None
    by x h true e = let r = counted_range first xs x counted e in left.none x r.0 r.1 refl
    by x h false e = let none = within x e in cc

left_opened : (own : List ℕ) (first : ℕ) (xs : List ℕ) (all vs : List Variable) → AreLeft [] first xs vs
    → AreLeft own first xs (opened own 0 all vs)
left_opened own first xs all vs left = record {
  none = λ x least most other. none_opened own 0 all vs x x (omega arith) other (left.none x least most refl);
}

-- the first and the second of two parts
left_first : (own own' : List ℕ) (first : ℕ) (xs ys : List ℕ) (vs : List Variable)
    → count_from (first + length xs) ys ≡ true → ((x : ℕ) → is_among ys x ≡ false → is_among own' x ≡ false)
    → AreLeft (own ++ own') first (xs ++ ys) vs → AreLeft own first xs vs
left_first own own' first xs ys vs counted within left = record {
  none = λ x least most other.
      left.none x least (longer x most) (among_neither own own' x other
      (within x (none_outside (first + length xs) ys x counted (λ from to. omega arith))));
}
  where
    longer : (x : ℕ) → x < first + length xs → x < first + length (xs ++ ys)
    longer x most = omega (arith, length-append xs ys)

left_second : (own own' : List ℕ) (first : ℕ) (xs ys : List ℕ) (vs : List Variable)
    → count_from first xs ≡ true → ((x : ℕ) → is_among xs x ≡ false → is_among own x ≡ false)
    → AreLeft (own ++ own') first (xs ++ ys) vs → AreLeft own' (first + length xs) ys vs
left_second own own' first xs ys vs counted within left = record {
  none = λ x least most other.
      left.none x (omega arith) (longer x most) (among_neither own own' x
      (within x (none_outside first xs x counted (λ from to. omega arith))) other);
}
  where
    longer : (x : ℕ) → x < first + length xs + length ys → x < first + length (xs ++ ys)
    longer x most = omega (arith, length-append xs ys)

left_alone : (own : List ℕ) (first : ℕ) (xs : List ℕ) (vs : List Variable) → AreLeft [] first xs vs
    → AreLeft own first xs vs
left_alone own first xs vs left = record { none = λ x least most other. left.none x least most refl }

-- the variables of the first part of a `for` come before those of its body
left_behind : (own numbers : List ℕ) (first : ℕ) (xs : List ℕ) (all vs : List Variable)
    → count_from first numbers ≡ true
    → AreLeft [] first (numbers ++ xs) vs → AreLeft own (first + length numbers) xs (opened numbers 0 all vs)
left_behind own numbers first xs all vs counted left = record {
  none = λ x least most other.
      none_opened numbers 0 all vs x x (omega arith)
      (none_outside first numbers x counted (λ from to. omega arith))
      (left.none x (omega arith) (longer x most) refl);
}
  where
    longer : (x : ℕ) → x < first + length numbers + length xs → x < first + length (numbers ++ xs)
    longer x most = omega (arith, length-append numbers xs)

module _ (all : List Variable) where
  mutual
    opens : (vs : List Variable) (s : Statement) (first : ℕ) → count_from first (all_variables s) ≡ true
        → AreLeft (declared_by s) first (all_variables s) vs → Opens all vs s
    opens vs (expression_statement e) first counted left = tt
    opens vs empty first counted left = tt
    opens vs (declaration ds) first counted left = tt
    opens vs (block line body) first counted left =
        let numbers = block_variables body in (
          unnamed_in numbers first (each_variables body) vs counted (block_none body) left,
          each_opens (opened numbers 0 all vs) body first counted
              (left_opened numbers first (each_variables body) all vs left),
        )
    opens vs (if_then e s) first counted left = opens vs s first counted
        (left_alone (declared_by s) first (all_variables s) vs left)
    opens vs (if_else e s other) first counted left =
        let xs = all_variables s in
        let ys = all_variables other in
        let q = count_split first xs ys counted in (
          opens vs s first q.0 (left_alone (declared_by s) first xs vs
              (left_first [] [] first xs ys vs q.1 (λ x e. refl) left)),
          opens vs other (first + length xs) q.1 (left_alone (declared_by other) (first + length xs) ys vs
              (left_second [] [] first xs ys vs q.0 (λ x e. refl) left)),
        )
    opens vs (while_do e s) first counted left = opens vs s first counted
        (left_alone (declared_by s) first (all_variables s) vs left)
    opens vs (do_while s e) first counted left = opens vs s first counted
        (left_alone (declared_by s) first (all_variables s) vs left)
    opens vs (for line start condition step s) first counted left =
        let numbers = first_variables start in
        let ys = all_variables s in
        let q = count_split first numbers ys counted in (
          unnamed_in numbers first numbers vs q.0 (λ x e. e)
              (left_first [] [] first numbers ys vs q.1 (λ x e. refl) left),
          opens (opened numbers 0 all vs) s (first + length numbers) q.1
              (left_behind (declared_by s) numbers first ys all vs q.0 left),
        )
    opens vs (switch e line is) first counted left =
        let numbers = switch_variables is in (
          unnamed_in numbers first (items_variables is) vs counted (switch_none is) left,
          items_open (opened numbers 0 all vs) is first counted
              (left_opened numbers first (items_variables is) all vs left),
        )
    opens vs break first counted left = tt
    opens vs continue first counted left = tt
    opens vs (return e) first counted left = tt

    each_opens : (vs : List Variable) (ss : Statements) (first : ℕ) → count_from first (each_variables ss) ≡ true
        → AreLeft (block_variables ss) first (each_variables ss) vs → EachOpens all vs ss
    each_opens vs no_statements first counted left = tt
    each_opens vs (statements s ss) first counted left =
        let xs = all_variables s in
        let ys = each_variables ss in
        let q = count_split first xs ys counted in (
          opens vs s first q.0
              (left_first (declared_by s) (block_variables ss) first xs ys vs q.1 (block_none ss) left),
          each_opens vs ss (first + length xs) q.1
              (left_second (declared_by s) (block_variables ss) first xs ys vs q.0 (own_none s) left),
        )

    items_open : (vs : List Variable) (is : SwitchItems) (first : ℕ) → count_from first (items_variables is) ≡ true
        → AreLeft (switch_variables is) first (items_variables is) vs → ItemsOpen all vs is
    items_open vs no_items first counted left = tt
    items_open vs (items labels s is) first counted left =
        let xs = all_variables s in
        let ys = items_variables is in
        let q = count_split first xs ys counted in (
          opens vs s first q.0
              (left_first (declared_by s) (switch_variables is) first xs ys vs q.1 (switch_none is) left),
          items_open vs is (first + length xs) q.1
              (left_second (declared_by s) (switch_variables is) first xs ys vs q.0 (own_none s) left),
        )

behind : (ps vs : List Variable) (x n : ℕ) → n ≡ length ps + x → object_kind (ps ++ vs) n ≡ object_kind vs x
behind [] vs x n at = ap (object_kind vs) (omega (arith, at))
behind (p ∷ ps) vs x zero at = absurd (omega (arith, at))
behind (p ∷ ps) vs x (suc n) at = behind ps vs x n (omega (arith, at))

-- in the body of a function whose variables are numbered in the order of the text
pub body_opens : (f : Function) → declares_all f ≡ true → EachOpens (all_of f) (f.parameters ++ body_variables f) f.body
body_opens f e =
    let ps = f.parameters in
    let own = block_variables f.body in
    let xs = each_variables f.body in
    let counted = (both (count_from (length ps) xs) (length xs == length f.variables) e).0 in
    each_opens (all_of f) (ps ++ body_variables f) f.body (length ps) counted (record {
      none = λ x least most other.
          behind ps (body_variables f) (x - length ps) x (omega arith)
          ∙ none_opened own (length ps) f.variables (map closed f.variables) (x - length ps) x (omega arith) other
          (none_closed f.variables (x - length ps));
    })

-- homes

-- what has a home is an object that can be named
abbrev pub IsHomed : (vs : List Variable) (frame : List Home) → Type 0
IsHomed vs frame = (x o : ℕ) → get_or frame x NoObject ≡ InObject o
    → (kind : Kind) × (object_kind vs x ≡ Some kind)

-- what has a home can be named, of all variables of the function
pub record Homed (all vs : List Variable) (frame : List Home) : Type 0 where
  pub whole : SameLength all vs
  pub named : IsHomed vs frame

-- so none of those that cannot be named has one
no_home : (vs : List Variable) (frame : List Home) (x : ℕ) → IsHomed vs frame → object_kind vs x ≡ None
    → has_no_home (get_or frame x NoObject) ≡ true
no_home vs frame x homed none = by (get_or frame x NoObject) refl
  where
    by : (h : Home) → get_or frame x NoObject ≡ h → has_no_home h ≡ true
    by NoObject e = refl
    by (InObject o) e = let k = homed x o e in let named = k.1 in cc

each_homeless : (frame : List Home) (xs : List ℕ)
    → ((x : ℕ) → is_among xs x ≡ true → has_no_home (get_or frame x NoObject) ≡ true) → have_no_homes frame xs ≡ true
each_homeless frame [] h = refl
each_homeless frame (x ∷ xs) h =
    ap (λ b. b && have_no_homes frame xs) (h x (ap (λ b. b || is_among xs x) (eq-eqb x x refl)))
    ∙ each_homeless frame xs (λ y e. h y (ap (λ b. (x == y) || b) e ∙ any_or (x == y)))
  where
    any_or : (b : Bool) → (b || true) ≡ true
    any_or true = refl
    any_or false = refl

pub block_homeless : (all vs : List Variable) (frame : List Home) (numbers : List ℕ) → Homed all vs frame
    → AreUnnamed numbers vs → have_no_homes frame numbers ≡ true
block_homeless all vs frame numbers homed unnamed = each_homeless frame numbers
    (λ x e. no_home vs frame x homed.named (unnamed.none x e))

-- the homes where a block is entered

over_none : (h : Home) → over NoObject h ≡ h
over_none NoObject = refl
over_none (InObject o) = refl

over_at : (outer inner : List Home) (x : ℕ)
    → get_or (homes_over outer inner) x NoObject ≡ over (get_or outer x NoObject) (get_or inner x NoObject)
over_at [] inner x = sym (over_none (get_or inner x NoObject))
over_at (o ∷ os) [] x = refl
over_at (o ∷ os) (h ∷ hs) zero = refl
over_at (o ∷ os) (h ∷ hs) (suc x) = over_at os hs x

module _ (all vs : List Variable) (numbers : List ℕ) (frame homes : List Home) (homed : Homed all vs frame)
    (unnamed : AreUnnamed numbers vs) (own : IsHomed (block_objects all numbers) homes) (x : ℕ) where
  abbrev Named : Type 0
  Named = (kind : Kind) × (object_kind (opened numbers 0 all vs) x ≡ Some kind)

  -- an object of the block, and one around it
  own_named : (b : Bool) → is_among numbers x ≡ b → (o : ℕ) → get_or homes x NoObject ≡ InObject o → Named
  own_named true e o is =
      let k = own x o is in (
        k.0,
        opened_own numbers 0 all vs x x homed.whole (omega arith) e
            ∙ sym (opened_own numbers 0 all (map closed all) x x (closed_length all) (omega arith) e) ∙ k.1,
      )
  own_named false e o is =
      let k = own x o is in
      let none = sym (opened_other numbers 0 all (map closed all) x x (closed_length all) (omega arith) e
      ∙ none_closed all x) ∙ k.1 in
      cc

  outer_named : (b : Bool) → is_among numbers x ≡ b → (o : ℕ) → get_or frame x NoObject ≡ InObject o → Named
  outer_named true e o is =
      let k = homed.named x o is in let none = sym (unnamed.none x e) ∙ k.1 in cc
  outer_named false e o is =
      let k = homed.named x o is in
      (k.0, opened_other numbers 0 all vs x x homed.whole (omega arith) e ∙ k.1)

  either_named : (outer inner : Home) → get_or frame x NoObject ≡ outer → get_or homes x NoObject ≡ inner → (o : ℕ)
      → over outer inner ≡ InObject o → Named
  either_named outer NoObject is is' o e = outer_named (is_among numbers x) refl o (is ∙ e)
  either_named outer (InObject k) is is' o e = own_named (is_among numbers x) refl k is'

over_homed : (all vs : List Variable) (numbers : List ℕ) (frame homes : List Home) → Homed all vs frame
    → AreUnnamed numbers vs → IsHomed (block_objects all numbers) homes
    → Homed all (opened numbers 0 all vs) (homes_over frame homes)
over_homed all vs numbers frame homes homed unnamed own = record {
  whole = opened_length numbers 0 all vs homed.whole;
  named = λ x o e.
      either_named all vs numbers frame homes homed unnamed own x (get_or frame x NoObject) (get_or homes x NoObject)
      refl refl o (sym (over_at frame homes x) ∙ e);
}

-- what is placed has homes for its objects alone

abbrev PlacedBy : List Variable → Outcome (List Home) → Type 0
PlacedBy vs (Gives homes s) = IsHomed vs homes
PlacedBy vs (Ended e s) = Unit {0}
PlacedBy vs (Paused s) = Unit {0}

placed_first : (v : Variable) (vs : List Variable) (home : Home)
    → ((o : ℕ) → home ≡ InObject o → (kind : Kind) × (kind_if v ≡ Some kind)) → (o : Outcome (List Home))
    → PlacedBy vs o → PlacedBy (v ∷ vs) (on o (λ homes. done (home ∷ homes)))
placed_first v vs home first (Gives homes s) h = named
  where
    named : (x o : ℕ) → get_or (home ∷ homes) x NoObject ≡ InObject o
        → (kind : Kind) × (object_kind (v ∷ vs) x ≡ Some kind)
    named zero o e = first o e
    named (suc x) o e = h x o e
placed_first v vs home first (Ended e s) h = tt
placed_first v vs home first (Paused s) h = tt

placed_by : (vs : List Variable) (s : State) → PlacedBy vs (place_variables vs s)
placed_by [] s = λ x o e. cc
placed_by (v ∷ vs) s = by v.is_object refl (λ s. placed_by vs s)
  where
    by : (b : Bool) → v.is_object ≡ b → ((s : State) → PlacedBy vs (place_variables vs s))
        → PlacedBy (v ∷ vs) (on (choose b (place_object (size_of_kind v.kind)) (done NoObject) s)
        (λ home s1. on (place_variables vs s1) (λ homes. done (home ∷ homes))))
    by true e rest = placed_first v vs (InObject (length s.objects))
        (λ o is. (v.kind, ap (λ b. if b then Some v.kind else None) e)) (place_variables vs _) (rest _)
    by false e rest = placed_first v vs NoObject (λ o is. cc) (place_variables vs s) (rest s)

-- entering a block

-- where a run gives something what has a home can be named
abbrev pub HomedBy : {A : Type 0} → (all vs : List Variable) → Outcome A → Type 0
HomedBy all vs (Gives a s) = Homed all vs s.frame
HomedBy all vs (Ended e s) = Unit {0}
HomedBy all vs (Paused s) = Unit {0}

module _ (all vs : List Variable) (numbers : List ℕ) (unnamed : AreUnnamed numbers vs) (g : Setting) (line : ℕ) where
  abbrev own : List Variable
  own = block_objects all numbers

  abbrev inner : List Variable
  inner = opened numbers 0 all vs

  block_placed : (frame : List Home) (stacked : ℕ) → Homed all vs frame → (o : Outcome (List Home)) → PlacedBy own o
      → HomedBy {A = Block} all inner (on o (λ homes. change (λ z. record z { frame = homes_over frame homes })
      >> done (record { homes = homes; frame = frame; stacked = stacked })))
  block_placed frame stacked homed (Gives homes s) h = over_homed all vs numbers frame homes homed unnamed h
  block_placed frame stacked homed (Ended e s) h = tt
  block_placed frame stacked homed (Paused s) h = tt

  placing : (s : State) → Homed all vs s.frame → HomedBy all inner (place_block own s)
  placing s homed = block_placed s.frame s.stacked homed (place_variables own s) (placed_by own s)

  key_enters : (s : State) → Homed all vs s.frame → (b : Bool)
      → HomedBy all inner (on (choose b (change (λ s. record s { keys = s.keys + 1 })) (stop (Keys line)) s)
      (λ _. place_block own))
  key_enters s homed true = placing (record s { keys = s.keys + 1 }) homed
  key_enters s homed false = tt

  keys_enter : (s : State) → Homed all vs s.frame → (b : Bool)
      → HomedBy all inner (on (choose b (take_key g line) skip s) (λ _. place_block own))
  keys_enter s homed true = key_enters s homed (nat_lt s.keys g.sizes.budgets.keys)
  keys_enter s homed false = placing s homed

  space_enters : (s : State) → Homed all vs s.frame → (b : Bool)
      → HomedBy all inner (on (pass_or_stop b (Stack line) s) (λ _. test_keys g own line >> place_block own))
  space_enters s homed true = keys_enter s homed (has_objects own)
  space_enters s homed false = tt

  pub block_homed : (s : State) → Homed all vs s.frame → HomedBy all inner (enter_block g own line s)
  block_homed s homed = space_enters s homed (nat_le (objects_end own s.stacked) (stack_end g))

homes_none : (frame : List Home) → homes_over frame [] ≡ frame
homes_none [] = refl
homes_none (h ∷ hs) = refl

-- where a block has no objects it is not entered
pub inside_homed : (all vs : List Variable) (numbers : List ℕ) (frame : List Home) → Homed all vs frame
    → AreUnnamed numbers vs → Homed all (opened numbers 0 all vs) frame
inside_homed all vs numbers frame homed unnamed =
    subst (Homed all (opened numbers 0 all vs)) (homes_none frame)
    (over_homed all vs numbers frame [] homed unnamed (λ x o e. cc))

-- at the start of the body of a function

body_length : (f : Function) → SameLength (all_of f) (f.parameters ++ body_variables f)
body_length f =
    let long = opened_length (block_variables f.body) (length f.parameters) f.variables (map closed f.variables)
    (closed_length f.variables) in
    omega (arith, long, length-append f.parameters (body_variables f), length-append f.parameters f.variables)

local_write_parameter : (kind : Kind) (home : Home) (line : ℕ) (v : Rvalue) → IsLocal (write_parameter kind home line v)
local_write_parameter kind NoObject line v = local_skip
local_write_parameter kind (InObject o) line v =
    local_on (local_read {f = λ s. home_value (InObject o) s.objects} (λ k s. refl))
    (λ p. local_then (local_write_rvalue kind false p line v) local_skip)

local_write_parameters : (ps : List Variable) (homes : List Home) (line : ℕ) (vs : List Rvalue)
    → IsLocal (write_parameters ps homes line vs)
local_write_parameters [] homes line vs = local_skip
local_write_parameters (p ∷ ps) [] line vs = local_skip
local_write_parameters (p ∷ ps) (home ∷ homes) line vs =
    local_then (local_write_parameter p.kind home line (first_of vs)) (local_write_parameters ps homes line
    (rest_of vs))

module _ (f : Function) (g : Setting) (vs : List Rvalue) (line : ℕ) where
  abbrev head : Header
  head = header_of f

  abbrev named : List Variable
  named = f.parameters ++ body_variables f

  written : (homes : List Home) (s : State) → s.frame ≡ homes → IsHomed named homes → (o : Outcome (Unit {0}))
      → KeepsBy s o → HomedBy (all_of f) named o
  written homes s frame h (Gives a s1) kept =
      subst (Homed (all_of f) named) (sym (kept.frame ∙ frame)) (record { whole = body_length f; named = h })
  written homes s frame h (Ended e s1) kept = tt
  written homes s frame h (Paused s1) kept = tt

  laid : (o : Outcome (List Home)) → PlacedBy named o
      → HomedBy (all_of f) named
      (on o (λ homes. change (λ s. record s { frame = homes }) >> write_parameters f.parameters homes line vs))
  laid (Gives homes s) h =
      let s1 : State = record s { frame = homes } in
      written homes s1 refl h (write_parameters f.parameters homes line vs s1)
      ((local_write_parameters f.parameters homes line vs).keeps s1)
  laid (Ended e s) h = tt
  laid (Paused s) h = tt

  tested : (o : Outcome (Unit {0})) → HomedBy (all_of f) named (on o (λ _. lay_out head vs line))
  tested (Gives a s) = laid (place_variables named _) (placed_by named _)
  tested (Ended e s) = tt
  tested (Paused s) = tt

  -- a call that is set up: only what its body enters has a home
  pub set_up_homed : (s : State) → HomedBy (all_of f) named (set_up g head vs line s)
  set_up_homed s = tested (call_tests g head line (record s { work = s.work + 1 }))
