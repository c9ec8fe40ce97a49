-- The code of statements of integers is safe where what is behind it is.
use Rattle.std.proofs.Common.{◌≡◌, ⊎_elim, ℕ, zero, suc, Bool, true, false, ◌||◌, List, [], ◌∷◌}
use Rattle.std.proofs.Common.{◌++◌}
use Rattle.std.proofs.Common.{Option, Some, None, length, refl, sym, ap, ◌∙◌, subst, arith}
use Rattle.std.specs.List.{list_all}
use Rattle.std.proofs.lemmas.Bool.{cases_Bool, or_cases, and_from, false≢true}
use Rattle.c_tree.specs.declared.expression.Kind.{Kind}
use Rattle.c_tree.specs.declared.program.Variable.{Variable}
use Rattle.c_tree.specs.declared.statement.CaseLabel.{CaseLabel}
use Rattle.c_tree.specs.declared.statement.CaseLabel.TheVariants.{Case, Default}
use Rattle.c_tree.specs.Tree.{Expression, kind_of}
use Rattle.c_tree.specs.Statements.{Initializer, of_plain, of_object, DeclaredVariable, First, nothing}
use Rattle.c_tree.specs.Statements.{first_expression, first_declaration, Statement, expression_statement, empty}
use Rattle.c_tree.specs.Statements.{declaration, block, if_then, if_else, while_do, do_while, for, switch, break}
use Rattle.c_tree.specs.Statements.{continue, return, Statements, no_statements, statements, SwitchItems, no_items}
use Rattle.c_tree.specs.Statements.{items}
use Rattle.c_tree.specs.Blocks.{block_variables, switch_variables, first_variables, opened}
use Rattle.c_tree.specs.Kinds.{is_promoted, is_scalar}
use Rattle.c_tree.specs.Valid.{Scope, within, is_valid, is_condition, is_constant, is_plain}
use Rattle.c_tree.specs.ValidProgram.{Inside, in_loop as loop_inside, in_switch as switch_inside, is_statement}
use Rattle.c_tree.specs.ValidProgram.{are_statements, are_items, is_initializer, are_declared, is_first}
use Rattle.c_tree.specs.ValidProgram.{is_condition_if}
use Rattle.c_tree.specs.ValidProgram.{is_expression_if, is_label, labels_of}
use Rattle.source_meaning.proofs.ValidNames.{both, three, four, five, never}
use Rattle.tac_ir.specs.declared.instruction.Instruction.TheVariants as tac
use Rattle.tac_ir.specs.declared.function.Tac.{Tac}
use Rattle.c_lower.specs.Placed.{Placed, Holds}
use Rattle.c_lower.specs.Statements.{Exits, LowersInitializer, LowersDeclared}
use Rattle.c_lower.specs.Statements.{LowersCondition, LowersPart, LowersFirst, HasNumber, LowersEntry, LowersLeaving}
use Rattle.c_lower.specs.Statements.{has_objects_of, in_loop, in_switch, LowersLabels, any_default, has_default}
use Rattle.c_lower.specs.Statements.{LowersStatement, LowersStatements, LowersItems}
use Rattle.compiled_programs.specs.Programs.{is_integer_expression, is_integer_expression_if, is_integer_initializer}
use Rattle.compiled_programs.specs.Programs.{are_integer_declared, is_integer_first, is_integer_statement}
use Rattle.compiled_programs.specs.Programs.{are_integer_statements, are_integer_items}
use Rattle.image_laws.proofs.Lowering.Safe.{fewer, nothing_yet, stepped}
use Rattle.image_laws.proofs.Lowering.Values.{IsScope, Ok, Safe, goes, parts, named, word_below, of_expression}
use Rattle.image_laws.proofs.Lowering.Values.{of_argument}

-- ---- scopes of blocks

pub opened_length : (numbers : List ℕ) (first : ℕ) (all vs : List Variable) → length all ≡ length vs
    → length (opened numbers first all vs) ≡ length vs
opened_length numbers x [] [] e = refl
opened_length numbers x [] (v ∷ vs) e = absurd (omega arith)
opened_length numbers x (d ∷ ds) [] e = refl
opened_length numbers x (d ∷ ds) (v ∷ vs) e = ap suc (opened_length numbers (suc x) ds vs (omega arith))

module _ (t : Tac) (variables : ℕ) (c : Placed) where
  scope_within : (scope : Scope) (numbers : List ℕ) → IsScope t variables scope
      → IsScope t variables (within scope numbers)
  scope_within scope numbers s = record {
    named = opened_length numbers 0 scope.all scope.variables (s.all ∙ sym s.named) ∙ s.named;
    all = s.all;
    functions = s.functions;
  }

  -- no block has objects
  pub record HaveNone : Type 0 where
    pub none : (numbers : List ℕ) → has_objects_of c numbers ≡ false

  abbrev pub SafeAt : (k n : ℕ) → Type 0
  SafeAt k n = Safe t variables c k n

  pub record AreSafe (k : ℕ) (x : Exits) : Type 0 where
    pub next : SafeAt k x.next
    pub breaks : SafeAt k x.breaks
    pub continues : SafeAt k x.continues
    pub returns : SafeAt k x.returns

  exits_fewer : (k : ℕ) (x : Exits) → AreSafe (suc k) x → AreSafe k x
  exits_fewer k x h =
      let f = fewer (Ok t variables c k) c.code k in
      record {
        next = f x.next h.next;
        breaks = f x.breaks h.breaks;
        continues = f x.continues h.continues;
        returns = f
            x.returns h.returns;
      }

  with_next : (k n : ℕ) (x : Exits) → AreSafe k x → SafeAt k n → AreSafe k (record x { next = n })
  with_next k n x h d = record { next = d; breaks = h.breaks; continues = h.continues; returns = h.returns }

  looping : (k n : ℕ) (x : Exits) → AreSafe k x → SafeAt k n → AreSafe k (in_loop x n)
  looping k n x h d = record { next = d; breaks = h.next; continues = d; returns = h.returns }

  switching : (k : ℕ) (x : Exits) → AreSafe k x → AreSafe k (in_switch x)
  switching k x h = record { next = h.next; breaks = h.next; continues = h.continues; returns = h.returns }

  -- a turn takes a step
  turned : (counted : Option ℕ) (j n m : ℕ) → Holds c n (tac.Turn counted m) → SafeAt j m → SafeAt (suc j) n
  turned counted j n m holds h =
      stepped (Ok t variables c j) c.code (tac.Turn counted m) j n holds refl
      (λ x l. ⊎_elim (λ e. subst (SafeAt j) (sym e) h) (λ e. absurd e) l)

  module _ (none : HaveNone) where
    -- no block has a number
    no_number : (numbers : List ℕ) (b : Option ℕ) → HasNumber c (has_objects_of c numbers) numbers b → b ≡ None
    no_number numbers None h = refl
    no_number numbers (Some b) h = absurd (subst (λ q. HasNumber c q numbers (Some b)) (none.none numbers) h)

    left : (k : ℕ) (numbers : List ℕ) (b : Option ℕ) (y x : Exits) → HasNumber c (has_objects_of c numbers) numbers b
        → LowersLeaving c b y x → AreSafe k x → AreSafe k y
    left k numbers b y x has l h =
        subst (AreSafe k) (sym (subst (λ q. LowersLeaving c q y x) (no_number numbers b has) l)) h

    entered : (k : ℕ) (numbers : List ℕ) (b : Option ℕ) (line n m : ℕ)
        → HasNumber c (has_objects_of c numbers) numbers b → LowersEntry c b line n m → SafeAt k m → SafeAt k n
    entered k numbers b line n m has l h =
        subst (SafeAt k) (sym (subst (λ q. LowersEntry c q line n m) (no_number numbers b has) l)) h

    -- ---- declarations and the parts of loops

    module _ (scope : Scope) (s : IsScope t variables scope) where
      of_initializer : (i : Option Initializer) (k x n m : ℕ) → is_initializer scope x i ≡ true
          → is_integer_initializer i ≡ true → LowersInitializer c x i n m → SafeAt k m → SafeAt k n
      of_initializer None k x n m v i l h = subst (SafeAt k) (sym l) h
      of_initializer (Some (of_plain e)) k x n m v i l h =
          let w = both (is_valid scope e) (is_plain scope x (kind_of e)) v in
          of_expression t variables c k scope s e 0 n l.0 w.0 i l.1
          (goes t variables c k _ l.0 m l.2 (named t variables c k scope s x (kind_of e) w.1) (λ x q. q) h)
      of_initializer (Some (of_object parts)) k x n m v i l h = never i

      of_declared : (ds : List DeclaredVariable) (k n m : ℕ) → are_declared scope ds ≡ true
          → are_integer_declared ds ≡ true → LowersDeclared c ds n m → SafeAt k m → SafeAt k n
      of_declared [] k n m v i l h = subst (SafeAt k) (sym l) h
      of_declared (d ∷ ds) k n m v i l h =
          let w = both (is_initializer scope d.variable d.initializer) (are_declared scope ds) v in
          let j = both (is_integer_initializer d.initializer) (are_integer_declared ds) i in
          of_initializer d.initializer k d.variable n l.0 w.0 j.0 l.1 (of_declared ds k l.0 m w.1 j.1 l.2 h)

      of_condition : (e : Expression) (k n a b : ℕ) → is_condition scope e ≡ true → is_integer_expression e ≡ true
          → LowersCondition c (Some e) n a b → SafeAt k a → SafeAt k b → SafeAt k n
      of_condition e k n a b v i l h h' =
          of_expression t variables c k scope s e 0 n l.0 (both (is_valid scope e) (is_scalar (kind_of e)) v).0 i l.1
          (parts t variables c k _ l.0 a b l.2 refl (λ x q. q) h h')

      of_condition_if : (e : Option Expression) (k n a b : ℕ) → is_condition_if scope e ≡ true
          → is_integer_expression_if e ≡ true → LowersCondition c e n a b → SafeAt k a → SafeAt k b → SafeAt k n
      of_condition_if None k n a b v i l h h' = subst (SafeAt k) (sym l) h
      of_condition_if (Some e) k n a b v i l h h' = of_condition e k n a b v i l h h'

      of_part : (e : Option Expression) (k n m : ℕ) → is_expression_if scope e ≡ true
          → is_integer_expression_if e ≡ true → LowersPart c e n m → SafeAt k m → SafeAt k n
      of_part None k n m v i l h = subst (SafeAt k) (sym l) h
      of_part (Some e) k n m v i l h = of_expression t variables c k scope s e 0 n m v i l h

      of_first : (f : First) (k n m : ℕ) → is_first scope f ≡ true → is_integer_first f ≡ true → LowersFirst c f n m
          → SafeAt k m → SafeAt k n
      of_first nothing k n m v i l h = subst (SafeAt k) (sym l) h
      of_first (first_expression e) k n m v i l h = of_expression t variables c k scope s e 0 n m v i l h
      of_first (first_declaration ds) k n m v i l h = of_declared ds k n m v i l h

      -- where the condition of a `for` begins
      of_head : (condition step : Option Expression) (k n t' b next : ℕ) (counted : Option ℕ) (y : Exits)
          → is_condition_if scope condition ≡ true → is_integer_expression_if condition ≡ true
          → is_expression_if scope step ≡ true → is_integer_expression_if step ≡ true
          → LowersCondition c condition n t' y.next → Holds c t' (tac.Turn counted b) → LowersPart c step next n
          → ((j : ℕ) → AreSafe j (in_loop y next) → SafeAt j b) → AreSafe k y → SafeAt k n
      of_head condition step zero n t' b next counted y vc ic vs is lc lt lp body h =
          nothing_yet (Ok t variables c 0) c.code n
      of_head condition step (suc k) n t' b next counted y vc ic vs is lc lt lp body h =
          let less = exits_fewer k y h in
          let again = of_head condition step k n t' b next counted y vc ic vs is lc lt lp body less in
          of_condition_if condition (suc k) n t' y.next vc ic lc
          (turned counted k t' b lt (body k (looping k next y less (of_part step k next n vs is lp again)))) h.next

    -- ---- labels

    of_labels : (ls : List CaseLabel) (kind : Kind) (k item other n m : ℕ) → list_all (is_label kind) ls ≡ true
        → LowersLabels c ls item other n m → SafeAt k item → SafeAt k m → SafeAt k n
    of_labels [] kind k item other n m v l d h = subst (SafeAt k) (sym l) h
    of_labels (Case w ∷ ls) kind k item other n m v l d h =
        let q = both (is_constant w kind) (list_all (is_label kind) ls) v in
        parts t variables c k _ n item l.0 l.1 (word_below w kind q.0) (λ x q. q) d
        (of_labels ls kind k item other l.0 m q.1 l.2 d h)
    of_labels (Default ∷ ls) kind k item other n m v l d h =
        of_labels ls kind k item other n m v l.1 d h

    default_item : (ls : List CaseLabel) (item other n m : ℕ) → LowersLabels c ls item other n m
        → any_default ls ≡ true → item ≡ other
    default_item [] item other n m l e = absurd (false≢true e)
    default_item (Case w ∷ ls) item other n m l e = default_item ls item other l.0 m l.2 e
    default_item (Default ∷ ls) item other n m l e = l.0

    default_of : (ls : List CaseLabel) (behind : Bool) (k item other n m : ℕ) → LowersLabels c ls item other n m
        → (any_default ls || behind) ≡ true → SafeAt k item → (behind ≡ true → SafeAt k other) → SafeAt k other
    default_of ls behind k item other n m l e d rest =
        ⊎_elim (λ h. subst (SafeAt k) (default_item ls item other n m l h) d) rest (or_cases (any_default ls) behind e)

    other_of : (has : Bool) (k other next : ℕ) → (has ≡ false → other ≡ next) → (has ≡ true → SafeAt k other)
        → SafeAt k next → SafeAt k other
    other_of has k other next without some d =
        ⊎_elim some (λ e. subst (SafeAt k) (sym (without e)) d) (cases_Bool has)

    labels_apart : (f : CaseLabel → Bool) (ls ms : List CaseLabel) → list_all f (ls ++ ms) ≡ true
        → (list_all f ls ≡ true) × (list_all f ms ≡ true)
    labels_apart f [] ms e = (refl, e)
    labels_apart f (l ∷ ls) ms e =
        let h = both (f l) (list_all f (ls ++ ms)) e in
        let r = labels_apart f ls ms h.1 in
        (and_from (f l) (list_all f ls) h.0 r.0, r.1)

    mutual
      pub of_statement : (s : Statement) (scope : Scope) (q : IsScope t variables scope) (inside : Inside) (k n : ℕ)
          (x : Exits) → is_statement scope inside s ≡ true → is_integer_statement s ≡ true → LowersStatement c s n x
          → AreSafe k x → SafeAt k n
      of_statement (expression_statement e) scope q inside k n x v i l h =
          of_expression t variables c k scope q e 0 n x.next v i l h.next
      of_statement empty scope q inside k n x v i l h = subst (SafeAt k) (sym l) h.next
      of_statement (declaration ds) scope q inside k n x v i l h = of_declared scope q ds k n x.next v i l h.next
      of_statement (block line body) scope q inside k n x v i l h =
          let numbers = block_variables body in
          entered k numbers l.2.0 line n l.0 l.2.1 l.2.2
          (of_statements body (within scope numbers) (scope_within scope numbers q) inside k l.0 l.1 v i l.3
          (left k numbers l.2.0 l.1 x l.2.1 l.2.3 h))
      of_statement (if_then e s) scope q inside k n x v i l h =
          let w = three (is_condition scope e) (is_statement scope inside s) _ v in
          let j = both (is_integer_expression e) (is_integer_statement s) i in
          of_condition scope q e k n l.0 x.next w.0 j.0 l.1 (of_statement s scope q inside k l.0 x w.1 j.1 l.2 h) h.next
      of_statement (if_else e s other) scope q inside k n x v i l h =
          let w = five (is_condition scope e) (is_statement scope inside s) _ (is_statement scope inside other) _ v in
          let j = three (is_integer_expression e) (is_integer_statement s) (is_integer_statement other) i in
          of_condition scope q e k n l.0 l.1 w.0 j.0 l.2 (of_statement s scope q inside k l.0 x w.1 j.1 l.3 h)
          (of_statement other scope q inside k l.1 x w.3 j.2 l.4 h)
      of_statement (while_do e s) scope q inside zero n x v i l h = nothing_yet (Ok t variables c 0) c.code n
      of_statement (while_do e s) scope q inside (suc k) n x v i l h =
          let w = three (is_condition scope e) (is_statement scope loop_inside s) _ v in
          let j = both (is_integer_expression e) (is_integer_statement s) i in
          let less = exits_fewer k x h in
          let again = of_statement (while_do e s) scope q inside k n x v i l less in
          of_condition scope q e (suc k) n l.0 x.next w.0 j.0 l.2
          (turned None k l.0 l.1 l.3
          (of_statement s scope q loop_inside k l.1 (in_loop x n) w.1 j.1 l.4 (looping k n x less again))) h.next
      of_statement (do_while s e) scope q inside zero n x v i l h = nothing_yet (Ok t variables c 0) c.code n
      of_statement (do_while s e) scope q inside (suc k) n x v i l h =
          let w = three (is_statement scope loop_inside s) _ (is_condition scope e) v in
          let j = both (is_integer_statement s) (is_integer_expression e) i in
          let less = exits_fewer k x h in
          let again = of_statement (do_while s e) scope q inside k n x v i l less in
          let head = of_condition scope q e k l.1 n x.next w.2 j.1 l.4 again less.next in
          turned None k n l.0 l.2
          (of_statement s scope q loop_inside k l.0 (in_loop x l.1) w.0 j.0 l.3 (looping k l.1 x less head))
      of_statement (for line first condition step s) scope q inside k n x v i l h =
          let numbers = first_variables first in
          let d = within scope numbers in
          let r = scope_within scope numbers q in
          let w = five (is_first d first) (is_condition_if d condition) (is_expression_if d step)
          (is_statement d loop_inside s) _ v in
          let j = four (is_integer_first first) (is_integer_expression_if condition) (is_integer_expression_if step)
          (is_integer_statement s) i in
          let inner = left k numbers l.7.0 l.5 x l.7.1 l.7.3 h in
          entered k numbers l.7.0 line n l.0 l.7.1 l.7.2
          (of_first d r first k l.0 l.1 w.0 j.0 l.8
          (of_head d r condition step k l.1 l.2 l.3 l.4 l.6 l.5 w.1 j.1 w.2 j.2 l.9 l.10 l.12
          (λ m p. of_statement s d r loop_inside m l.3 (in_loop l.5 l.4) w.3 j.3 l.13 p) inner))
      of_statement (switch e line is) scope q inside k n x v i l h =
          let numbers = switch_variables is in
          let d = within scope numbers in
          let r = scope_within scope numbers q in
          let w = five (is_valid scope e) (is_promoted (kind_of e)) (list_all (is_label (kind_of e)) (labels_of is)) _
          (are_items d (switch_inside inside) is) v in
          let j = both (is_integer_expression e) (are_integer_items is) i in
          let inner = switching k l.4 (left k numbers l.6.0 l.4 x l.6.1 l.6.3 h) in
          let other = other_of (has_default is) k l.3 l.4.next l.7
          (λ p. of_default is d r (switch_inside inside) k l.1 l.2 l.3 (in_switch l.4) w.4 j.1 l.8 p inner) inner.next
          in
          of_expression t variables c k scope q e 0 n l.0 w.0 j.0 l.5
          (entered k numbers l.6.0 line l.0 l.1 l.6.1 l.6.2
          (of_tests is d r (switch_inside inside) (kind_of e) k l.1 l.2 l.3 (in_switch l.4) w.4 j.1 w.2 l.8 other
          inner))
      of_statement break scope q inside k n x v i l h = subst (SafeAt k) (sym l) h.breaks
      of_statement continue scope q inside k n x v i l h = subst (SafeAt k) (sym l) h.continues
      of_statement (return None) scope q inside k n x v i l h =
          goes t variables c k _ n x.returns l refl (λ x q. q) h.returns
      of_statement (return (Some e)) scope q inside k n x v i l h =
          of_argument t variables c k scope q e 0 n x.returns (three (is_valid scope e) _ _ v).0 i l h.returns

      pub of_statements : (ss : Statements) (scope : Scope) (q : IsScope t variables scope) (inside : Inside) (k n : ℕ)
          (x : Exits) → are_statements scope inside ss ≡ true → are_integer_statements ss ≡ true
          → LowersStatements c ss n x → AreSafe k x → SafeAt k n
      of_statements no_statements scope q inside k n x v i l h = subst (SafeAt k) (sym l) h.next
      of_statements (statements s ss) scope q inside k n x v i l h =
          let w = both (is_statement scope inside s) (are_statements scope inside ss) v in
          let j = both (is_integer_statement s) (are_integer_statements ss) i in
          of_statement s scope q inside k n (record x { next = l.0 }) w.0 j.0 l.1
          (with_next k l.0 x h (of_statements ss scope q inside k l.0 x w.1 j.1 l.2 h))

      of_items : (is : SwitchItems) (scope : Scope) (q : IsScope t variables scope) (inside : Inside) (k t0 n other : ℕ)
          (x : Exits) → are_items scope inside is ≡ true → are_integer_items is ≡ true → LowersItems c is t0 n other x
          → AreSafe k x → SafeAt k n
      of_items no_items scope q inside k t0 n other x v i l h = subst (SafeAt k) (sym l.1) h.next
      of_items (items labels s is) scope q inside k t0 n other x v i l h =
          let w = both (is_statement scope inside s) (are_items scope inside is) v in
          let j = both (is_integer_statement s) (are_integer_items is) i in
          of_statement s scope q inside k n (record x { next = l.1 }) w.0 j.0 l.3
          (with_next k l.1 x h (of_items is scope q inside k l.0 l.1 other x w.1 j.1 l.4 h))

      of_default : (is : SwitchItems) (scope : Scope) (q : IsScope t variables scope) (inside : Inside)
          (k t0 n other : ℕ) (x : Exits) → are_items scope inside is ≡ true → are_integer_items is ≡ true
          → LowersItems c is t0 n other x → has_default is ≡ true → AreSafe k x → SafeAt k other
      of_default no_items scope q inside k t0 n other x v i l e h = absurd (false≢true e)
      of_default (items labels s is) scope q inside k t0 n other x v i l e h =
          let w = both (is_statement scope inside s) (are_items scope inside is) v in
          let j = both (is_integer_statement s) (are_integer_items is) i in
          default_of labels (has_default is) k n other t0 l.0 l.2 e
          (of_statement s scope q inside k n (record x { next = l.1 }) w.0 j.0 l.3
          (with_next k l.1 x h (of_items is scope q inside k l.0 l.1 other x w.1 j.1 l.4 h)))
          (λ p. of_default is scope q inside k l.0 l.1 other x w.1 j.1 l.4 p h)

      of_tests : (is : SwitchItems) (scope : Scope) (q : IsScope t variables scope) (inside : Inside) (kind : Kind)
          (k t0 n other : ℕ) (x : Exits) → are_items scope inside is ≡ true → are_integer_items is ≡ true
          → list_all (is_label kind) (labels_of is) ≡ true → LowersItems c is t0 n other x → SafeAt k other
          → AreSafe k x → SafeAt k t0
      of_tests no_items scope q inside kind k t0 n other x v i ok l d h = subst (SafeAt k) (sym l.0) d
      of_tests (items labels s is) scope q inside kind k t0 n other x v i ok l d h =
          let w = both (is_statement scope inside s) (are_items scope inside is) v in
          let j = both (is_integer_statement s) (are_integer_items is) i in
          let g = labels_apart (is_label kind) labels (labels_of is) ok in
          of_labels labels kind k n other t0 l.0 g.0 l.2
          (of_statement s scope q inside k n (record x { next = l.1 }) w.0 j.0 l.3
          (with_next k l.1 x h (of_items is scope q inside k l.0 l.1 other x w.1 j.1 l.4 h)))
          (of_tests is scope q inside kind k l.0 l.1 other x w.1 j.1 g.1 l.4 d h)
