-- The code of statements: at its beginning no temporary is live.
use Rattle.std.proofs.Common.{◌≡◌, ◌⊎◌, inl, ⊎_elim, ℕ, zero, suc, Bool, true, false, List, [], ◌∷◌, Option}
use Rattle.std.proofs.Common.{Some, None, refl, sym, ◌∙◌, subst}
use Rattle.std.specs.Prelude.{slice_get, ◌==◌, ◌||◌}
use Rattle.std.proofs.lemmas.Bool.{cases_Bool, or_cases, false≢true}
use Rattle.c_tree.specs.declared.expression.Kind.{Kind}
use Rattle.c_tree.specs.declared.statement.CaseLabel.{CaseLabel}
use Rattle.c_tree.specs.declared.statement.CaseLabel.TheVariants.{Case, Default}
use Rattle.c_tree.specs.Tree.{Expression}
use Rattle.c_tree.specs.Statements.{Content, value_content, literal_content, Part, Initializer, of_plain, of_object}
use Rattle.c_tree.specs.Statements.{DeclaredVariable, First, nothing, first_expression, first_declaration, Statement}
use Rattle.c_tree.specs.Statements.{expression_statement, empty, declaration, block, if_then, if_else, while_do}
use Rattle.c_tree.specs.Statements.{do_while, for, switch, break, continue, return, Statements, no_statements}
use Rattle.c_tree.specs.Statements.{statements, SwitchItems, no_items, items}
use Rattle.c_tree.specs.Programs.{Function}
use Rattle.tac_ir.specs.declared.instruction.Instruction.{Instruction}
use Rattle.tac_ir.specs.declared.instruction.Instruction.TheVariants as tac
use Rattle.tac_ir.specs.declared.function.CodeFunction.{CodeFunction}
use Rattle.tac_ir.specs.Edges.{LeadsTo}
use Rattle.c_lower.specs.Placed.{Placed, Holds}
use Rattle.c_lower.specs.Values.{LowersExpression}
use Rattle.c_lower.specs.Statements.{Exits, LowersContent, LowersParts, LowersInitializer, LowersDeclared}
use Rattle.c_lower.specs.Statements.{LowersCondition, LowersPart, LowersFirst, LowersEntry, LowersLeaving}
use Rattle.c_lower.specs.Statements.{in_loop, in_switch, LowersLabels, any_default, has_default}
use Rattle.c_lower.specs.Statements.{LowersStatement, LowersStatements, LowersItems}
use Rattle.c_lower.specs.Programs.{LowersFunction, function_exits, placed_in}
use Rattle.c_lower.specs.Liveness.Liveness.{reads, IsLive}
use Rattle.c_lower.proofs.Liveness.Steps.{Temporaries, And, Only, only_fewer, nothing_yet, stepped, along}
use Rattle.c_lower.proofs.Liveness.Steps.{either, only_one, one_of_two, not_written, is_this}
use Rattle.c_lower.proofs.Liveness.Values.{May, no_reads, also, branches, of_expression, of_argument}

-- no temporaries, and the one of a result alone
abbrev pub Nothing : Temporaries
Nothing y = ⊥

abbrev pub Result : Temporaries
Result = And Nothing 0

module _ (c : Placed) where
  abbrev pub Dead : (k n : ℕ) → Type 0
  Dead k n = May c k Nothing n

  -- an instruction that reads no temporary and writes none
  passes : (P : Temporaries) (k n m : ℕ) (i : Instruction) → slice_get c.code n ≡ Some i
      → ((x : ℕ) → LeadsTo i x → (x ≡ m) ⊎ ⊥) → ((y : ℕ) → reads i y ≡ false) → May c k P m → May c k P n
  passes P k n m i holds one none h =
      along c.code P P i k n m holds (λ y e. no_reads P y (sym (none y) ∙ e)) (λ y q e. q)
      (λ x l. only_one x m (one x l)) h

  -- one that reads the result, and writes nothing
  uses : (k n m : ℕ) (i : Instruction) → slice_get c.code n ≡ Some i → ((x : ℕ) → LeadsTo i x → (x ≡ m) ⊎ ⊥)
      → ((y : ℕ) → reads i y ≡ (y == 0)) → Dead k m → May c k Result n
  uses k n m i holds one r h =
      along c.code Result Nothing i k n m holds (λ y e. is_this Nothing 0 y (sym (r y) ∙ e)) (λ y q e. inl q)
      (λ x l. only_one x m (one x l)) h

  -- an expression of which the value goes unused
  expressed : (e : Expression) (k n m : ℕ) → LowersExpression c e 0 n m → Dead k m → Dead k n
  expressed e k n m l h = of_expression c k e Nothing 0 n m l (also c k Nothing 0 m h)

  -- ---- initializers

  of_content : (q : Content) (k x offset n m : ℕ) → LowersContent c x offset q n m → Dead k m → Dead k n
  of_content (value_content e) k x offset n m l h =
      of_expression c k e Nothing 0 n l.0 l.1 (uses k l.0 m _ l.2 (λ x q. q) (λ y. refl) h)
  of_content (literal_content bytes) k x offset n m l h =
      passes Nothing k n m _ l.2 (λ x q. q) (λ y. refl) h

  of_parts : (qs : List Part) (k x n m : ℕ) → LowersParts c x qs n m → Dead k m → Dead k n
  of_parts [] k x n m l h = subst (Dead k) (sym l) h
  of_parts (q ∷ qs) k x n m l h = of_content q.content k x q.offset n l.0 l.1 (of_parts qs k x l.0 m l.2 h)

  of_initializer : (i : Option Initializer) (k x n m : ℕ) → LowersInitializer c x i n m → Dead k m → Dead k n
  of_initializer None k x n m l h = subst (Dead k) (sym l) h
  of_initializer (Some (of_plain e)) k x n m l h =
      of_expression c k e Nothing 0 n l.0 l.1 (uses k l.0 m _ l.2 (λ x q. q) (λ y. refl) h)
  of_initializer (Some (of_object parts)) k x n m l h =
      passes Nothing k n l.0 _ l.1 (λ x q. q) (λ y. refl) (of_parts parts k x l.0 m l.2 h)

  of_declared : (ds : List DeclaredVariable) (k n m : ℕ) → LowersDeclared c ds n m → Dead k m → Dead k n
  of_declared [] k n m l h = subst (Dead k) (sym l) h
  of_declared (d ∷ ds) k n m l h =
      of_initializer d.initializer k d.variable n l.0 l.1 (of_declared ds k l.0 m l.2 h)

  -- ---- the parts of loops

  of_condition : (e : Option Expression) (k n a b : ℕ) → LowersCondition c e n a b → Dead k a → Dead k b → Dead k n
  of_condition None k n a b l h h' = subst (Dead k) (sym l) h
  of_condition (Some e) k n a b l h h' =
      of_expression c k e Nothing 0 n l.0 l.1
      (branches c k Nothing 0 l.0 a b _ l.2 (λ y. refl) (λ x q. q) h h')

  of_part : (e : Option Expression) (k n m : ℕ) → LowersPart c e n m → Dead k m → Dead k n
  of_part None k n m l h = subst (Dead k) (sym l) h
  of_part (Some e) k n m l h = expressed e k n m l h

  of_first : (f : First) (k n m : ℕ) → LowersFirst c f n m → Dead k m → Dead k n
  of_first nothing k n m l h = subst (Dead k) (sym l) h
  of_first (first_expression e) k n m l h = expressed e k n m l h
  of_first (first_declaration ds) k n m l h = of_declared ds k n m l h

  -- a turn takes a step
  turned : (counted : Option ℕ) (j n m : ℕ) → Holds c n (tac.Turn counted m) → Dead j m → Dead (suc j) n
  turned counted j n m holds h =
      stepped c.code Nothing Nothing (tac.Turn counted m) j n holds (λ y e. false≢true e) (λ y q e. q)
      (λ x l. subst (Only c.code Nothing j) (sym (only_one x m l)) h)

  -- ---- ways out

  -- at each exit no temporary is live, but the result's where a return leads
  pub record AreDead (k : ℕ) (x : Exits) : Type 0 where
    pub next : Dead k x.next
    pub breaks : Dead k x.breaks
    pub continues : Dead k x.continues
    pub returns : May c k Result x.returns

  exits_fewer : (k : ℕ) (x : Exits) → AreDead (suc k) x → AreDead k x
  exits_fewer k x h = record {
    next = only_fewer c.code Nothing k x.next h.next;
    breaks = only_fewer c.code Nothing k x.breaks h.breaks;
    continues = only_fewer c.code Nothing k x.continues h.continues;
    returns = only_fewer c.code Result k x.returns h.returns;
  }

  left : (k : ℕ) (block : Option ℕ) (y x : Exits) → LowersLeaving c block y x → AreDead k x → AreDead k y
  left k (Some b) y x l h = record {
    next = passes Nothing k y.next x.next _ l.0 (λ x q. q) (λ y. refl) h.next;
    breaks = passes Nothing k y.breaks x.breaks _ l.1 (λ x q. q) (λ y. refl) h.breaks;
    continues = passes Nothing k y.continues x.continues _ l.2 (λ x q. q) (λ y. refl) h.continues;
    returns = passes Result k y.returns x.returns _ l.3 (λ x q. q) (λ y. refl) h.returns;
  }
  left k None y x l h = subst (AreDead k) (sym l) h

  entered : (P : Temporaries) (k : ℕ) (block : Option ℕ) (line n m : ℕ) → LowersEntry c block line n m → May c k P m
      → May c k P n
  entered P k (Some b) line n m l h = passes P k n m _ l (λ x q. q) (λ y. refl) h
  entered P k None line n m l h = subst (May c k P) (sym l) h

  with_next : (k n : ℕ) (x : Exits) → AreDead k x → Dead k n → AreDead k (record x { next = n })
  with_next k n x h d = record { next = d; breaks = h.breaks; continues = h.continues; returns = h.returns }

  looping : (k n : ℕ) (x : Exits) → AreDead k x → Dead k n → AreDead k (in_loop x n)
  looping k n x h d = record { next = d; breaks = h.next; continues = d; returns = h.returns }

  switching : (k : ℕ) (x : Exits) → AreDead k x → AreDead k (in_switch x)
  switching k x h = record { next = h.next; breaks = h.next; continues = h.continues; returns = h.returns }

  -- ---- labels

  -- the value of the switch is live at their tests
  of_labels : (ls : List CaseLabel) (k item other n m : ℕ) → LowersLabels c ls item other n m → Dead k item
      → May c k Result m → May c k Result n
  of_labels [] k item other n m l d h = subst (May c k Result) (sym l) h
  of_labels (Case w ∷ ls) k item other n m l d h =
      let rest = of_labels ls k item other l.0 m l.2 d h in
      either c.code Result Result _ k n item l.0 l.1 (λ y e. is_this Nothing 0 y e) (λ y q. q)
      (λ x q. one_of_two x item l.0 q) (also c k Nothing 0 item d) rest
  of_labels (Default ∷ ls) k item other n m l d h = of_labels ls k item other n m l.1 d h

  -- the item of a default label
  default_item : (ls : List CaseLabel) (item other n m : ℕ) → LowersLabels c ls item other n m
      → any_default ls ≡ true → item ≡ other
  default_item [] item other n m l e = absurd (false≢true e)
  default_item (Case w ∷ ls) item other n m l e = default_item ls item other l.0 m l.2 e
  default_item (Default ∷ ls) item other n m l e = l.0

  -- that item, or one of those behind it
  default_of : (ls : List CaseLabel) (behind : Bool) (k item other n m : ℕ) → LowersLabels c ls item other n m
      → (any_default ls || behind) ≡ true → Dead k item → (behind ≡ true → Dead k other) → Dead k other
  default_of ls behind k item other n m l e d rest =
      ⊎_elim (λ h. subst (Dead k) (default_item ls item other n m l h) d) rest (or_cases (any_default ls) behind e)

  -- where it goes on where no label is equal: that item, or the end of the switch
  other_of : (has : Bool) (k other next : ℕ) → (has ≡ false → other ≡ next) → (has ≡ true → Dead k other)
      → Dead k next → Dead k other
  other_of has k other next none some d = ⊎_elim some (λ e. subst (Dead k) (sym (none e)) d) (cases_Bool has)

  -- where the condition of a `for` begins
  of_head : (condition step : Option Expression) (k n t b next : ℕ) (counted : Option ℕ) (y : Exits)
      → LowersCondition c condition n t y.next → Holds c t (tac.Turn counted b) → LowersPart c step next n
      → ((j : ℕ) → AreDead j (in_loop y next) → Dead j b) → AreDead k y → Dead k n
  of_head condition step zero n t b next counted y lc lt lp body h = nothing_yet c.code Nothing n
  of_head condition step (suc k) n t b next counted y lc lt lp body h =
      let less = exits_fewer k y h in
      let again = of_head condition step k n t b next counted y lc lt lp body less in
      of_condition condition (suc k) n t y.next lc
      (turned counted k t b lt (body k (looping k next y less (of_part step k next n lp again)))) h.next

  mutual
    pub of_statement : (s : Statement) (k n : ℕ) (x : Exits) → LowersStatement c s n x → AreDead k x → Dead k n
    of_statement (expression_statement e) k n x l h = expressed e k n x.next l h.next
    of_statement empty k n x l h = subst (Dead k) (sym l) h.next
    of_statement (declaration ds) k n x l h = of_declared ds k n x.next l h.next
    of_statement (block line body) k n x l h =
        entered Nothing k l.2.0 line n l.0 l.2.2
        (of_statements body k l.0 l.1 l.3 (left k l.2.0 l.1 x l.2.3 h))
    of_statement (if_then e s) k n x l h =
        of_condition (Some e) k n l.0 x.next l.1 (of_statement s k l.0 x l.2 h) h.next
    of_statement (if_else e s other) k n x l h =
        of_condition (Some e) k n l.0 l.1 l.2 (of_statement s k l.0 x l.3 h) (of_statement other k l.1 x l.4 h)
    of_statement (while_do e s) zero n x l h = nothing_yet c.code Nothing n
    of_statement (while_do e s) (suc k) n x l h =
        let less = exits_fewer k x h in
        let again = of_statement (while_do e s) k n x l less in
        of_condition (Some e) (suc k) n l.0 x.next l.2
        (turned None k l.0 l.1 l.3 (of_statement s k l.1 (in_loop x n) l.4 (looping k n x less again))) h.next
    of_statement (do_while s e) zero n x l h = nothing_yet c.code Nothing n
    of_statement (do_while s e) (suc k) n x l h =
        let less = exits_fewer k x h in
        let again = of_statement (do_while s e) k n x l less in
        let head = of_condition (Some e) k l.1 n x.next l.4 again less.next in
        turned None k n l.0 l.2 (of_statement s k l.0 (in_loop x l.1) l.3 (looping k l.1 x less head))
    of_statement (for line first condition step s) k n x l h =
        let inner = left k l.7.0 l.5 x l.7.3 h in
        entered Nothing k l.7.0 line n l.0 l.7.2
        (of_first first k l.0 l.1 l.8
        (of_head condition step k l.1 l.2 l.3 l.4 l.6 l.5 l.9 l.10 l.12
        (λ j d. of_statement s j l.3 (in_loop l.5 l.4) l.13 d) inner))
    of_statement (switch e line is) k n x l h =
        let inner = switching k l.4 (left k l.6.0 l.4 x l.6.3 h) in
        let other = other_of (has_default is) k l.3 l.4.next l.7
        (λ e. of_default is k l.1 l.2 l.3 (in_switch l.4) l.8 e inner) inner.next in
        of_expression c k e Nothing 0 n l.0 l.5
        (entered Result k l.6.0 line l.0 l.1 l.6.2 (of_tests is k l.1 l.2 l.3 (in_switch l.4) l.8 other inner))
    of_statement break k n x l h = subst (Dead k) (sym l) h.breaks
    of_statement continue k n x l h = subst (Dead k) (sym l) h.continues
    of_statement (return None) k n x l h =
        along c.code Nothing Result _ k n x.returns l (λ y e. false≢true e) (λ y q e. not_written Nothing 0 y q e)
        (λ m q. only_one m x.returns q) h.returns
    of_statement (return (Some e)) k n x l h = of_argument c k e Nothing 0 n x.returns l h.returns

    pub of_statements : (ss : Statements) (k n : ℕ) (x : Exits) → LowersStatements c ss n x → AreDead k x → Dead k n
    of_statements no_statements k n x l h = subst (Dead k) (sym l) h.next
    of_statements (statements s ss) k n x l h =
        of_statement s k n (record x { next = l.0 }) l.1 (with_next k l.0 x h (of_statements ss k l.0 x l.2 h))

    -- the first of some items
    of_items : (is : SwitchItems) (k t n other : ℕ) (x : Exits) → LowersItems c is t n other x → AreDead k x → Dead k n
    of_items no_items k t n other x l h = subst (Dead k) (sym l.1) h.next
    of_items (items labels s is) k t n other x l h =
        of_statement s k n (record x { next = l.1 }) l.3 (with_next k l.1 x h (of_items is k l.0 l.1 other x l.4 h))

    -- where it goes on where no label is equal
    of_default : (is : SwitchItems) (k t n other : ℕ) (x : Exits) → LowersItems c is t n other x
        → has_default is ≡ true → AreDead k x → Dead k other
    of_default no_items k t n other x l e h = absurd (false≢true e)
    of_default (items labels s is) k t n other x l e h =
        default_of labels (has_default is) k n other t l.0 l.2 e
        (of_statement s k n (record x { next = l.1 }) l.3 (with_next k l.1 x h (of_items is k l.0 l.1 other x l.4 h)))
        (λ q. of_default is k l.0 l.1 other x l.4 q h)

    -- the tests of the labels
    of_tests : (is : SwitchItems) (k t n other : ℕ) (x : Exits) → LowersItems c is t n other x → Dead k other
        → AreDead k x → May c k Result t
    of_tests no_items k t n other x l d h = subst (May c k Result) (sym l.0) (also c k Nothing 0 other d)
    of_tests (items labels s is) k t n other x l d h =
        of_labels labels k n other t l.0 l.2
        (of_statement s k n (record x { next = l.1 }) l.3 (with_next k l.1 x h (of_items is k l.0 l.1 other x l.4 h)))
        (of_tests is k l.0 l.1 other x l.4 d h)

-- ---- functions

-- the return reads the result
at_return : (c : Placed) (k n : ℕ) → Holds c n (tac.Return 0) → May c k Result n
at_return c zero n holds = nothing_yet c.code Result n
at_return c (suc k) n holds =
    stepped c.code Result Nothing (tac.Return 0) k n holds (λ y e. is_this Nothing 0 y e) (λ y q w. inl q)
    (λ m l. absurd l)

-- where the body ends its result becomes 0
at_end : (c : Placed) (result : Kind) (k n m : ℕ) → Holds c n (tac.ZeroOf result 0 m) → May c k Result m
    → May c k Nothing n
at_end c result k n m holds h =
    along c.code Nothing Result (tac.ZeroOf result 0 m) k n m holds (λ y e. false≢true e)
    (λ y q e. not_written Nothing 0 y q e) (λ x q. only_one x m q) h

pub none_is_live : (texts : List (List ℕ)) (literals : List Bool) (result : Kind) (height : ℕ) (f : Function)
    (c : CodeFunction) (y : ℕ)
    → LowersFunction texts literals result height f c → IsLive c.code c.entry y → ⊥
none_is_live texts literals result height f c y l live =
    let p = placed_in texts literals f c in
    let k = live.steps in
    let b = l.body in
    let returns = at_return p k b.1 b.4 in
    let ends = at_end p result k b.0 b.1 b.3 returns in
    (of_statements p f.body k c.entry (function_exits b.0 b.1) b.2
    (record { next = ends; breaks = ends; continues = ends; returns = returns })).at y live.within
