-- The code of statements needs the homes alone of objects that are named where it stands, whose blocks were entered.
use Rattle.std.proofs.Common.{◌≡◌, ◌⊎◌, inl, inr, ⊎_elim, ℕ, zero, suc, Bool, true, false, ◌||◌, List, [], ◌∷◌, Option}
use Rattle.std.proofs.Common.{Some}
use Rattle.std.proofs.Common.{None, refl, sym, ap, subst}
use Rattle.std.specs.Prelude.{slice_get}
use Rattle.std.specs.List.{list_all}
use Rattle.std.proofs.lemmas.Bool.{cases_Bool, or_cases, false≢true, both_ways}
use Rattle.c_tree.specs.declared.expression.Kind.{Kind}
use Rattle.c_tree.specs.declared.program.Variable.{Variable}
use Rattle.c_tree.specs.declared.statement.CaseLabel.{CaseLabel}
use Rattle.c_tree.specs.declared.statement.CaseLabel.TheVariants.{Case, Default}
use Rattle.c_tree.specs.Tree.{Expression, kind_of}
use Rattle.c_tree.specs.Statements.{Content, value_content, literal_content, Part, Initializer, of_plain, of_object}
use Rattle.c_tree.specs.Statements.{DeclaredVariable, First, nothing, first_expression, first_declaration, Statement}
use Rattle.c_tree.specs.Statements.{expression_statement, empty, declaration, block, if_then, if_else, while_do}
use Rattle.c_tree.specs.Statements.{do_while, for, switch, break, continue, return, Statements, no_statements}
use Rattle.c_tree.specs.Statements.{statements, SwitchItems, no_items, items}
use Rattle.c_tree.specs.Blocks.{block_objects, block_variables, switch_variables, first_variables}
use Rattle.c_tree.specs.Kinds.{is_promoted, is_scalar, size_of_kind}
use Rattle.c_tree.specs.Valid.{Scope, variable_at, within, is_valid, is_condition, is_plain}
use Rattle.c_tree.specs.ValidProgram.{Inside, in_loop as loop_inside, in_switch as switch_inside, is_statement}
use Rattle.c_tree.specs.ValidProgram.{is_content}
use Rattle.c_tree.specs.ValidProgram.{is_part, are_parts, are_statements, are_items, is_initializer, are_declared}
use Rattle.c_tree.specs.ValidProgram.{is_first}
use Rattle.c_tree.specs.ValidProgram.{is_condition_if, is_expression_if, is_label, labels_of}
use Rattle.source_meaning.specs.Blocks.{has_objects}
use Rattle.source_meaning.specs.Good.{object_kind}
use Rattle.source_meaning.proofs.ValidNames.{both, three, five}
use Rattle.tac_ir.specs.declared.instruction.Instruction.TheVariants as tac
use Rattle.tac_ir.specs.declared.function.CodeFunction.{CodeFunction}
use Rattle.tac_ir.specs.Meaning.{if_there, objects_in}
use Rattle.flat_code.specs.Routines.Metadata.{entry_registers}
use Rattle.metadata_plan.specs.Registers.{all_variables}
use Rattle.metadata_relation.specs.Registers.{home_entry}
use Rattle.c_lower.specs.Placed.{Placed, Holds, HasAt}
use Rattle.c_lower.specs.Statements.{Exits, LowersContent, LowersParts, LowersInitializer, LowersDeclared}
use Rattle.c_lower.specs.Statements.{LowersCondition, LowersPart, LowersFirst, HasNumber, LowersEntry, LowersLeaving}
use Rattle.c_lower.specs.Statements.{has_objects_of, in_loop, in_switch, LowersLabels, any_default, has_default}
use Rattle.c_lower.specs.Statements.{LowersStatement, LowersStatements, LowersItems}
use Rattle.c_lower.proofs.KeyNames.{object_found}
use Rattle.image_laws.specs.Plans.Assignment.{Registers, IsOneOf}
use Rattle.image_laws.specs.Plans.Instructions.{entered_registers, left_registers, entered_by}
use Rattle.image_laws.proofs.Entered.Along as steps
use Rattle.image_laws.proofs.Entered.Scopes.{IsScoped, scoped_within, some_object, home_entered}
use Rattle.image_laws.proofs.Entered.Scopes.{left_entered}
use Rattle.image_laws.proofs.Entered.Values.{needed, AlongAt, goes, parts, of_expression, of_argument}

module _ (c : CodeFunction) (l : Placed) (keys : l.keys ≡ c.keys) (blocks : l.blocks ≡ c.blocks)
    (variables : l.variables ≡ all_variables c) where
  abbrev At : (steps : ℕ) → Registers → (node : ℕ) → Type 0
  At = AlongAt c l keys

  more : (k : ℕ) (B C : Registers) (n : ℕ) → ((y : ℕ) → B y → C y) → At k B n → At k C n
  more = steps.more l.code (needed c) (entered_by c)

  fewer : (k : ℕ) (B : Registers) (n : ℕ) → At (suc k) B n → At k B n
  fewer = steps.fewer l.code (needed c) (entered_by c)

  none : (B : Registers) (y : ℕ) → ⊥ → B y
  none B y h = absurd h

  -- ---- exits

  pub record AreAlong (k : ℕ) (B : Registers) (x : Exits) : Type 0 where
    pub next : At k B x.next
    pub breaks : At k B x.breaks
    pub continues : At k B x.continues
    pub returns : At k B x.returns

  exits_fewer : (k : ℕ) (B : Registers) (x : Exits) → AreAlong (suc k) B x → AreAlong k B x
  exits_fewer k B x h = record {
    next = fewer k B x.next h.next;
    breaks = fewer k B x.breaks h.breaks;
    continues = fewer k B x.continues h.continues;
    returns = fewer k B x.returns h.returns;
  }

  with_next : (k : ℕ) (B : Registers) (n : ℕ) (x : Exits) → AreAlong k B x → At k B n
      → AreAlong k B (record x { next = n })
  with_next k B n x h d = record { next = d; breaks = h.breaks; continues = h.continues; returns = h.returns }

  looping : (k : ℕ) (B : Registers) (n : ℕ) (x : Exits) → AreAlong k B x → At k B n → AreAlong k B (in_loop x n)
  looping k B n x h d = record { next = d; breaks = h.next; continues = d; returns = h.returns }

  switching : (k : ℕ) (B : Registers) (x : Exits) → AreAlong k B x → AreAlong k B (in_switch x)
  switching k B x h = record { next = h.next; breaks = h.next; continues = h.continues; returns = h.returns }

  -- a turn takes a step
  turned : (counted : Option ℕ) (j : ℕ) (B : Registers) (n m : ℕ) → Holds l n (tac.Turn counted m) → At j B m
      → At (suc j) B n
  turned counted j B n m holds h =
      steps.stepped l.code (needed c) (entered_by c) (tac.Turn counted m) j B n holds (none B)
      (λ x e. ⊎_elim (λ same. subst (At j (λ y. B y ⊎ ⊥)) (sym same) (more j B (λ y. B y ⊎ ⊥) m (λ y b. inl b) h))
      (λ never. absurd never) e)

  -- ---- blocks

  abbrev objects : (numbers : List ℕ) → List Variable
  objects numbers = block_objects (all_variables c) numbers

  -- the registers that a block with a number makes
  abbrev entered_if : (number : Option ℕ) → (numbers : List ℕ) → List ℕ
  entered_if None numbers = []
  entered_if (Some b) numbers = entered_registers c (objects numbers)

  abbrev Inner : Registers → (number : Option ℕ) → (numbers : List ℕ) → Registers
  Inner B b numbers y = B y ⊎ IsOneOf (entered_if b numbers) y

  there : (b : ℕ) (numbers : List ℕ) → HasAt l.blocks b numbers → objects_in (Some c) b ≡ objects numbers
  there b numbers has =
      let at : slice_get c.blocks b ≡ Some numbers = subst (λ q. slice_get q b ≡ Some numbers) blocks has in
      ap (λ o. block_objects (all_variables c) (if_there o)) at

  has_some : (numbers : List ℕ) (q : Bool) → has_objects_of l numbers ≡ q → has_objects (objects numbers) ≡ q
  has_some numbers q e = subst (λ vs. has_objects (block_objects vs numbers) ≡ q) variables e

  module _ (B : Registers) (numbers : List ℕ) where
    entered : (k : ℕ) (b : Option ℕ) (line n m : ℕ) → HasNumber l (has_objects_of l numbers) numbers b
        → LowersEntry l b line n m → At k (Inner B b numbers) m → At k B n
    entered k None line n m has e h =
        subst (At k B) (sym e) (more k (Inner B None numbers) B m (λ y a. ⊎_elim (λ q. q) (λ q. absurd q) a) h)
    entered k (Some b) line n m has e h =
        steps.along l.code (needed c) (entered_by c) (tac.EnterBlock b line m) k B (Inner B (Some b) numbers) n m e (none B)
        (λ x q. q)
        (λ y a. ⊎_elim inl (λ one. inr (subst (λ vs. IsOneOf (entered_registers c vs) y) (sym (same has)) one)) a) h
      where
        numbered : (q : Bool) → HasNumber l q numbers (Some b) → objects_in (Some c) b ≡ objects numbers
        numbered true has = there b numbers has
        numbered false has = absurd has

        same : HasNumber l (has_objects_of l numbers) numbers (Some b) → objects_in (Some c) b ≡ objects numbers
        same = numbered (has_objects_of l numbers)

    leaves : (k b n m : ℕ) → HasAt l.blocks b numbers → has_objects (objects numbers) ≡ true
        → Holds l n (tac.LeaveBlock b m) → At k B m → At k (Inner B (Some b) numbers) n
    leaves k b n m has some holds h =
        steps.goes l.code (needed c) (entered_by c) (tac.LeaveBlock b m) k (Inner B (Some b) numbers) n m holds
        (λ y one. inr (left_entered c (objects numbers) y some
        (subst (λ vs. IsOneOf (left_registers c vs) y) (there b numbers has) one)))
        (λ x q. q) (more k B (Inner B (Some b) numbers) m (λ y q. inl q) h)

    left : (k : ℕ) (b : Option ℕ) (y x : Exits) → HasNumber l (has_objects_of l numbers) numbers b
        → LowersLeaving l b y x → AreAlong k B x → AreAlong k (Inner B b numbers) y
    left k None y x has e h =
        subst (AreAlong k (Inner B None numbers)) (sym e) (record {
          next = more k B (Inner B None numbers) x.next (λ z q. inl q) h.next;
          breaks = more k B (Inner B None numbers) x.breaks (λ z q. inl q) h.breaks;
          continues = more k B (Inner B None numbers) x.continues (λ z q. inl q) h.continues;
          returns = more k B (Inner B None numbers) x.returns (λ z q. inl q) h.returns;
        })
    left k (Some b) y x has e h = by (has_objects_of l numbers) refl has
      where
        by : (q : Bool) → has_objects_of l numbers ≡ q → HasNumber l q numbers (Some b)
            → AreAlong k (Inner B (Some b) numbers) y
        by false is has = absurd has
        by true is has =
            let some = has_some numbers true is in
            record {
              next = leaves k b y.next x.next has some e.0 h.next;
              breaks = leaves k b y.breaks x.breaks has some e.1 h.breaks;
              continues = leaves k b y.continues x.continues has some e.2 h.continues;
              returns = leaves k b y.returns x.returns has some e.3 h.returns;
            }

    scoped : (b : Option ℕ) (scope : Scope) → HasNumber l (has_objects_of l numbers) numbers b → IsScoped c B scope
        → IsScoped c (Inner B b numbers) (within scope numbers)
    scoped b scope has s = scoped_within c B (Inner B b numbers) scope numbers s (λ y q. inl q) (own b has)
      where
        own : (b : Option ℕ) → HasNumber l (has_objects_of l numbers) numbers b → (x : ℕ) (kind : Kind) (y : ℕ)
            → object_kind (objects numbers) x ≡ Some kind → IsOneOf (entry_registers (home_entry c x)) y
            → Inner B b numbers y
        own (Some b) has x kind y e one = inr (home_entered c (objects numbers) x kind y e one)
        own None has x kind y e one = absurd (by (has_objects_of l numbers) refl has)
          where
            by : (q : Bool) → has_objects_of l numbers ≡ q → HasNumber l q numbers None → ⊥
            by true is has = has
            by false is has =
                both_ways (has_objects (objects numbers)) (has_some numbers false is)
                (some_object (objects numbers) x kind e)

  -- ---- constructs

  module _ (B : Registers) (scope : Scope) (s : IsScoped c B scope) where
    home_named : (x : ℕ) → (variable_at scope x).is_object ≡ true → (y : ℕ)
        → IsOneOf (entry_registers (home_entry c x)) y → B y
    home_named x object y one = s.objects x (variable_at scope x).kind y (object_found scope.variables x object) one

    of_content : (q : Content) (k x offset n m : ℕ) → (variable_at scope x).is_object ≡ true
        → is_content scope q ≡ true → LowersContent l x offset q n m → At k B m → At k B n
    of_content (value_content e) k x offset n m object v i h =
        of_expression c l keys B scope s k e 0 n i.0 (both (is_valid scope e) _ v).0 i.1
        (goes c l keys _ k B i.0 m i.2 (home_named x object) (λ z q. q) h)
    of_content (literal_content bytes) k x offset n m object v i h =
        goes c l keys _ k B n m i.2 (home_named x object) (λ z q. q) h

    of_parts : (qs : List Part) (size k x n m : ℕ) → (variable_at scope x).is_object ≡ true
        → are_parts scope size qs ≡ true → LowersParts l x qs n m → At k B m → At k B n
    of_parts [] size k x n m object v i h = subst (At k B) (sym i) h
    of_parts (q ∷ qs) size k x n m object v i h =
        let w = both (is_part scope size q) (are_parts scope size qs) v in
        of_content q.content k x q.offset n i.0 object (both (is_content scope q.content) _ w.0).0 i.1
        (of_parts qs size k x i.0 m object w.1 i.2 h)

    of_initializer : (o : Option Initializer) (k x n m : ℕ) → is_initializer scope x o ≡ true
        → LowersInitializer l x o n m → At k B m → At k B n
    of_initializer None k x n m v i h = subst (At k B) (sym i) h
    of_initializer (Some (of_plain e)) k x n m v i h =
        of_expression c l keys B scope s k e 0 n i.0 (both (is_valid scope e) (is_plain scope x (kind_of e)) v).0 i.1
        (goes c l keys _ k B i.0 m i.2 (none B) (λ z q. q) h)
    of_initializer (Some (of_object ps)) k x n m v i h =
        let size = size_of_kind (variable_at scope x).kind in
        let w = both (variable_at scope x).is_object (are_parts scope size ps) v in
        goes c l keys _ k B n i.0 i.1 (home_named x w.0) (λ z q. q) (of_parts ps size k x i.0 m w.0 w.1 i.2 h)

    of_declared : (ds : List DeclaredVariable) (k n m : ℕ) → are_declared scope ds ≡ true → LowersDeclared l ds n m
        → At k B m → At k B n
    of_declared [] k n m v i h = subst (At k B) (sym i) h
    of_declared (d ∷ ds) k n m v i h =
        let w = both (is_initializer scope d.variable d.initializer) (are_declared scope ds) v in
        of_initializer d.initializer k d.variable n i.0 w.0 i.1 (of_declared ds k i.0 m w.1 i.2 h)

    of_condition : (e : Expression) (k n a b : ℕ) → is_condition scope e ≡ true → LowersCondition l (Some e) n a b
        → At k B a → At k B b → At k B n
    of_condition e k n a b v i h h' =
        of_expression c l keys B scope s k e 0 n i.0 (both (is_valid scope e) (is_scalar (kind_of e)) v).0 i.1
        (parts c l keys _ k B i.0 a b i.2 (none B) (λ z q. q) h h')

    of_condition_if : (e : Option Expression) (k n a b : ℕ) → is_condition_if scope e ≡ true
        → LowersCondition l e n a b → At k B a → At k B b → At k B n
    of_condition_if None k n a b v i h h' = subst (At k B) (sym i) h
    of_condition_if (Some e) k n a b v i h h' = of_condition e k n a b v i h h'

    of_part : (e : Option Expression) (k n m : ℕ) → is_expression_if scope e ≡ true → LowersPart l e n m → At k B m
        → At k B n
    of_part None k n m v i h = subst (At k B) (sym i) h
    of_part (Some e) k n m v i h = of_expression c l keys B scope s k e 0 n m v i h

    of_first : (f : First) (k n m : ℕ) → is_first scope f ≡ true → LowersFirst l f n m → At k B m → At k B n
    of_first nothing k n m v i h = subst (At k B) (sym i) h
    of_first (first_expression e) k n m v i h = of_expression c l keys B scope s k e 0 n m v i h
    of_first (first_declaration ds) k n m v i h = of_declared ds k n m v i h

    -- where the condition of a `for` begins
    of_head : (condition step : Option Expression) (k n t b next : ℕ) (counted : Option ℕ) (y : Exits)
        → is_condition_if scope condition ≡ true → is_expression_if scope step ≡ true
        → LowersCondition l condition n t y.next → Holds l t (tac.Turn counted b) → LowersPart l step next n
        → ((j : ℕ) → AreAlong j B (in_loop y next) → At j B b) → AreAlong k B y → At k B n
    of_head condition step zero n t b next counted y vc vs lc lt lp body h = tt
    of_head condition step (suc k) n t b next counted y vc vs lc lt lp body h =
        let less = exits_fewer k B y h in
        let again = of_head condition step k n t b next counted y vc vs lc lt lp body less in
        of_condition_if condition (suc k) n t y.next vc lc
        (turned counted k B t b lt (body k (looping k B next y less (of_part step k next n vs lp again)))) h.next

  -- ---- labels

  of_labels : (ls : List CaseLabel) (k : ℕ) (B : Registers) (item other n m : ℕ) → LowersLabels l ls item other n m
      → At k B item → At k B m → At k B n
  of_labels [] k B item other n m i d h = subst (At k B) (sym i) h
  of_labels (Case w ∷ ls) k B item other n m i d h =
      parts c l keys _ k B n item i.0 i.1 (none B) (λ z q. q) d (of_labels ls k B item other i.0 m i.2 d h)
  of_labels (Default ∷ ls) k B item other n m i d h = of_labels ls k B item other n m i.1 d h

  default_item : (ls : List CaseLabel) (item other n m : ℕ) → LowersLabels l ls item other n m
      → any_default ls ≡ true → item ≡ other
  default_item [] item other n m i e = absurd (false≢true e)
  default_item (Case w ∷ ls) item other n m i e = default_item ls item other i.0 m i.2 e
  default_item (Default ∷ ls) item other n m i e = i.0

  default_of : (ls : List CaseLabel) (behind : Bool) (k : ℕ) (B : Registers) (item other n m : ℕ)
      → LowersLabels l ls item other n m → (any_default ls || behind) ≡ true → At k B item
      → (behind ≡ true → At k B other) → At k B other
  default_of ls behind k B item other n m i e d rest =
      ⊎_elim (λ h. subst (At k B) (default_item ls item other n m i h) d) rest (or_cases (any_default ls) behind e)

  other_of : (has : Bool) (k : ℕ) (B : Registers) (other next : ℕ) → (has ≡ false → other ≡ next)
      → (has ≡ true → At k B other) → At k B next → At k B other
  other_of has k B other next without some d =
      ⊎_elim some (λ e. subst (At k B) (sym (without e)) d) (cases_Bool has)

  mutual
    pub of_statement : (s : Statement) (B : Registers) (scope : Scope) (q : IsScoped c B scope) (inside : Inside)
        (k n : ℕ) (x : Exits) → is_statement scope inside s ≡ true → LowersStatement l s n x → AreAlong k B x → At k B n
    of_statement (expression_statement e) B scope q inside k n x v i h =
        of_expression c l keys B scope q k e 0 n x.next v i h.next
    of_statement empty B scope q inside k n x v i h = subst (At k B) (sym i) h.next
    of_statement (declaration ds) B scope q inside k n x v i h = of_declared B scope q ds k n x.next v i h.next
    of_statement (block line body) B scope q inside k n x v i h =
        let numbers = block_variables body in
        let b = i.2.0 in
        entered B numbers k b line n i.0 i.2.1 i.2.2
        (of_statements body (Inner B b numbers) (within scope numbers) (scoped B numbers b scope i.2.1 q) inside k i.0 i.1 v i.3
        (left B numbers k b i.1 x i.2.1 i.2.3 h))
    of_statement (if_then e s) B scope q inside k n x v i h =
        let w = three (is_condition scope e) (is_statement scope inside s) _ v in
        of_condition B scope q e k n i.0 x.next w.0 i.1 (of_statement s B scope q inside k i.0 x w.1 i.2 h) h.next
    of_statement (if_else e s other) B scope q inside k n x v i h =
        let w = five (is_condition scope e) (is_statement scope inside s) _ (is_statement scope inside other) _ v in
        of_condition B scope q e k n i.0 i.1 w.0 i.2 (of_statement s B scope q inside k i.0 x w.1 i.3 h)
        (of_statement other B scope q inside k i.1 x w.3 i.4 h)
    of_statement (while_do e s) B scope q inside zero n x v i h = tt
    of_statement (while_do e s) B scope q inside (suc k) n x v i h =
        let w = three (is_condition scope e) (is_statement scope loop_inside s) _ v in
        let less = exits_fewer k B x h in
        let again = of_statement (while_do e s) B scope q inside k n x v i less in
        of_condition B scope q e (suc k) n i.0 x.next w.0 i.2
        (turned None k B i.0 i.1 i.3
        (of_statement s B scope q loop_inside k i.1 (in_loop x n) w.1 i.4 (looping k B n x less again))) h.next
    of_statement (do_while s e) B scope q inside zero n x v i h = tt
    of_statement (do_while s e) B scope q inside (suc k) n x v i h =
        let w = three (is_statement scope loop_inside s) _ (is_condition scope e) v in
        let less = exits_fewer k B x h in
        let again = of_statement (do_while s e) B scope q inside k n x v i less in
        let head = of_condition B scope q e k i.1 n x.next w.2 i.4 again less.next in
        turned None k B n i.0 i.2
        (of_statement s B scope q loop_inside k i.0 (in_loop x i.1) w.0 i.3 (looping k B i.1 x less head))
    of_statement (for line first condition step s) B scope q inside k n x v i h =
        let numbers = first_variables first in
        let d = within scope numbers in
        let b = i.7.0 in
        let C = Inner B b numbers in
        let r = scoped B numbers b scope i.7.1 q in
        let w = five (is_first d first) (is_condition_if d condition) (is_expression_if d step)
        (is_statement d loop_inside s) _ v in
        let inner = left B numbers k b i.5 x i.7.1 i.7.3 h in
        entered B numbers k b line n i.0 i.7.1 i.7.2
        (of_first C d r first k i.0 i.1 w.0 i.8
        (of_head C d r condition step k i.1 i.2 i.3 i.4 i.6 i.5 w.1 w.2 i.9 i.10 i.12
        (λ m p. of_statement s C d r loop_inside m i.3 (in_loop i.5 i.4) w.3 i.13 p) inner))
    of_statement (switch e line is) B scope q inside k n x v i h =
        let numbers = switch_variables is in
        let d = within scope numbers in
        let b = i.6.0 in
        let C = Inner B b numbers in
        let r = scoped B numbers b scope i.6.1 q in
        let w = five (is_valid scope e) (is_promoted (kind_of e)) (list_all (is_label (kind_of e)) (labels_of is)) _
        (are_items d (switch_inside inside) is) v in
        let inner = switching k C i.4 (left B numbers k b i.4 x i.6.1 i.6.3 h) in
        let other = other_of (has_default is) k C i.3 i.4.next i.7
        (λ p. of_default is C d r (switch_inside inside) k i.1 i.2 i.3 (in_switch i.4) w.4 i.8 p inner) inner.next in
        of_expression c l keys B scope q k e 0 n i.0 w.0 i.5
        (entered B numbers k b line i.0 i.1 i.6.1 i.6.2
        (of_tests is C d r (switch_inside inside) k i.1 i.2 i.3 (in_switch i.4) w.4 i.8 other inner))
    of_statement break B scope q inside k n x v i h = subst (At k B) (sym i) h.breaks
    of_statement continue B scope q inside k n x v i h = subst (At k B) (sym i) h.continues
    of_statement (return None) B scope q inside k n x v i h =
        goes c l keys _ k B n x.returns i (none B) (λ z q. q) h.returns
    of_statement (return (Some e)) B scope q inside k n x v i h =
        of_argument c l keys B scope q k e 0 n x.returns (three (is_valid scope e) _ _ v).0 i h.returns

    pub of_statements : (ss : Statements) (B : Registers) (scope : Scope) (q : IsScoped c B scope) (inside : Inside)
        (k n : ℕ) (x : Exits) → are_statements scope inside ss ≡ true → LowersStatements l ss n x → AreAlong k B x
        → At k B n
    of_statements no_statements B scope q inside k n x v i h = subst (At k B) (sym i) h.next
    of_statements (statements s ss) B scope q inside k n x v i h =
        let w = both (is_statement scope inside s) (are_statements scope inside ss) v in
        of_statement s B scope q inside k n (record x { next = i.0 }) w.0 i.1
        (with_next k B i.0 x h (of_statements ss B scope q inside k i.0 x w.1 i.2 h))

    of_items : (is : SwitchItems) (B : Registers) (scope : Scope) (q : IsScoped c B scope) (inside : Inside)
        (k t n other : ℕ) (x : Exits) → are_items scope inside is ≡ true → LowersItems l is t n other x
        → AreAlong k B x → At k B n
    of_items no_items B scope q inside k t n other x v i h = subst (At k B) (sym i.1) h.next
    of_items (items labels s is) B scope q inside k t n other x v i h =
        let w = both (is_statement scope inside s) (are_items scope inside is) v in
        of_statement s B scope q inside k n (record x { next = i.1 }) w.0 i.3
        (with_next k B i.1 x h (of_items is B scope q inside k i.0 i.1 other x w.1 i.4 h))

    of_default : (is : SwitchItems) (B : Registers) (scope : Scope) (q : IsScoped c B scope) (inside : Inside)
        (k t n other : ℕ) (x : Exits) → are_items scope inside is ≡ true → LowersItems l is t n other x
        → has_default is ≡ true → AreAlong k B x → At k B other
    of_default no_items B scope q inside k t n other x v i e h = absurd (false≢true e)
    of_default (items labels s is) B scope q inside k t n other x v i e h =
        let w = both (is_statement scope inside s) (are_items scope inside is) v in
        default_of labels (has_default is) k B n other t i.0 i.2 e
        (of_statement s B scope q inside k n (record x { next = i.1 }) w.0 i.3
        (with_next k B i.1 x h (of_items is B scope q inside k i.0 i.1 other x w.1 i.4 h)))
        (λ p. of_default is B scope q inside k i.0 i.1 other x w.1 i.4 p h)

    of_tests : (is : SwitchItems) (B : Registers) (scope : Scope) (q : IsScoped c B scope) (inside : Inside)
        (k t n other : ℕ) (x : Exits) → are_items scope inside is ≡ true → LowersItems l is t n other x → At k B other
        → AreAlong k B x → At k B t
    of_tests no_items B scope q inside k t n other x v i d h = subst (At k B) (sym i.0) d
    of_tests (items labels s is) B scope q inside k t n other x v i d h =
        let w = both (is_statement scope inside s) (are_items scope inside is) v in
        of_labels labels k B n other t i.0 i.2
        (of_statement s B scope q inside k n (record x { next = i.1 }) w.0 i.3
        (with_next k B i.1 x h (of_items is B scope q inside k i.0 i.1 other x w.1 i.4 h)))
        (of_tests is B scope q inside k i.0 i.1 other x w.1 i.4 d h)
