-- What each step of an initializer keeps, the initializer keeps (C99 6.7.8).
use Rattle.std.proofs.Common.{◌≡◌, ℕ, suc, Bool, true, false, refl, List, [], ◌∷◌, Option, Some, None}
use Rattle.std.proofs.Common.{if◌then◌else◌}
use Rattle.std.specs.Prelude.{Ok, Err}
use Rattle.std.specs.List.{list_all}
use Rattle.c_syntax.specs.Tree.{Designation, Designator, Expression, Initializer, InitializerItem, MoreItems}
use Rattle.c_syntax.specs.Tree as t
use Rattle.c_tree.specs.Valid.{Scope}
use Rattle.c_faults.specs.Answer.{Answer}
use Rattle.c_rules.specs.Values.{Value}
use Rattle.c_initializer_rules.specs.Initializing.{Initializing, closed, designation_begun, opened, with_index}
use Rattle.c_initializer_rules.specs.Initializing.{with_literal, with_name, with_value}
use Rattle.c_scope.specs.Names.{Name}
use Rattle.c_operand_typing.specs.Primaries.{spelled_bytes}
use Rattle.c_typing_state.specs.State.{State, done, extents, judged, ◌>>>◌}
use Rattle.c_expression_typing.specs.Constructs.{literal_alone, valued}
use Rattle.c_expression_typing.specs.Lines.{name_of}
use Rattle.c_expression_typing.specs.Typed.{typed}
use Rattle.c_unit_typing.specs.Initializers.{by_index, by_literal_or, by_value, designated, designated_by}
use Rattle.c_unit_typing.specs.Initializers.{designated_once, filled, index_in, initialized, list_closed, list_opened}
use Rattle.c_unit_typing.specs.Initializers.{member_lists, stepped, unless_filled, with_item, with_items}
use Rattle.c_unit_typing.specs.Lines.{expression_line}
use Rattle.typing_laws.specs.Validity.Regular.{is_regular}
use Rattle.typing_laws.specs.Validity.Steps.{Structures}
use Rattle.typing_laws.proofs.Validity.Common.{first, second}
use Rattle.typing_laws.proofs.Validity.Sound.{IfAnswer, Stays, both}
use Rattle.typing_laws.specs.Scopes.Regular.{are_regular_items, is_regular_designation, is_regular_designator}
use Rattle.typing_laws.specs.Scopes.Regular.{is_regular_initializer, is_regular_item}
use Rattle.typing_laws.specs.Initializers.Giving.{ExpressionsKeep, Giving, IsFineIf}
use Rattle.typing_laws.proofs.Initializers.Giving.{IsFineValue, giving_done, giving_judged, giving_then}
use Rattle.typing_laws.proofs.Initializers.Giving.{then_only}
use Rattle.typing_laws.proofs.Initializers.Giving.{value_given, weaker_given}

-- behind a literal that fills an array, or before an initializer that is no such literal
abbrev pub FilledIf : (Before Behind : Structures → Initializing → Type 0) → (is_filled : Bool) → Structures
    → Initializing → Type 0
FilledIf Before Behind true es i = Behind es i
FilledIf Before Behind false es i = Before es i

abbrev pub Filled : (Before Behind : Structures → Initializing → Type 0) → Structures → Initializing × Bool → Type 0
Filled Before Behind es r = FilledIf Before Behind r.1 es r.0

-- what holds inside so many lists in braces: before an item, before its initializer, behind its designators, and behind
-- the initializer
pub record Steps (is_known : Bool) (scope : Scope) (Known : State → Type 0)
    (Item Before Chosen Behind : ℕ → Structures → Initializing → Type 0) : Type 0 where
  pub before_stays : (n : ℕ) (i : Initializing) → Stays (λ es. Before n es i)
  pub chosen_stays : (n : ℕ) (i : Initializing) → Stays (λ es. Chosen n es i)
  pub opened : (n : ℕ) (s : State) (i : Initializing) → Known s → Before n (extents s) i
      → Item (suc n) (extents s) (opened (extents s) (member_lists s) i)
  pub undesignated : (n : ℕ) (es : Structures) (i : Initializing) → Item n es i → Before n es i
  pub designation : (n : ℕ) (es : Structures) (i : Initializing) → Item n es i → Chosen n es (designation_begun i)
  pub index : (n : ℕ) (s : State) (line : ℕ) (index : Option ℕ) (i : Initializing) → Known s
      → Chosen n (extents s) i → IfAnswer (Chosen n (extents s)) (with_index (extents s) (member_lists s) line index i)
  pub name : (n : ℕ) (s : State) (line : ℕ) (name : Name) (i : Initializing) → Known s → Chosen n (extents s) i
      → IfAnswer (Chosen n (extents s)) (with_name (extents s) (member_lists s) line name i)
  pub chosen : (n : ℕ) (es : Structures) (i : Initializing) → Chosen n es i → Before n es i
  pub value : (n : ℕ) (s : State) (line : ℕ) (v : Value) (i : Initializing) → Known s
      → IsFineIf is_known scope (extents s) v
      → Before n (extents s) i → IfAnswer (Behind n (extents s)) (with_value (extents s) (member_lists s) line v i)
  pub literal : (n : ℕ) (s : State) (line : ℕ) (spelled : List ℕ) (i : Initializing) → Known s
      → Before n (extents s) i
      → IfAnswer (Filled (Before n) (Behind n) (extents s)) (with_literal (extents s) (member_lists s) line spelled i)
  pub further : (n : ℕ) (es : Structures) (i : Initializing) → Behind n es i → Item n es i
  pub closed : (n : ℕ) (s : State) (line : ℕ) (i : Initializing) → Known s → Behind (suc n) (extents s) i
      → IfAnswer (Behind n (extents s)) (closed (extents s) (member_lists s) line i)

module _ (is_known : Bool) (scope : Scope) (last : Structures) (Known : State → Type 0)
    (keep : ExpressionsKeep Known)
    (Item Before Chosen Behind : ℕ → Structures → Initializing → Type 0)
    (steps : Steps is_known scope Known Item Before Chosen Behind) where
  by_value_given : (n : ℕ) (e : Expression) → is_regular e ≡ true → (i : Initializing) (s : State)
      → Giving is_known scope last Known s (λ es. Before n es i) (Behind n) (by_value e i s)
  by_value_given n e c i s =
      giving_then is_known scope last Known s (λ es. Before n es i) (steps.before_stays n i)
      (IsFineValue is_known scope last Known true) (Behind n)
      (valued (typed true e) s) (λ v. stepped (λ es ms. with_value es ms (expression_line e) v) i)
      (value_given is_known scope last Known keep true e c s (λ es. Before n es i))
      (λ t v. giving_judged is_known scope last Known t (both (λ es. Before n es i)
      (IsFineValue is_known scope last Known true) v) (Behind n)
      (with_value (extents t) (member_lists t) (expression_line e) v i)
      (λ k g. steps.value n t (expression_line e) v i k (g.1 refl) g.0))

  unless_given : (n : ℕ) (e : Expression) → is_regular e ≡ true → (i : Initializing) (b : Bool) (s : State)
      → Giving is_known scope last Known s (λ es. FilledIf (Before n) (Behind n) b es i) (Behind n)
      ((if b then done i else by_value e i) s)
  unless_given n e c i true s = giving_done is_known scope last Known s (λ es. Behind n es i) (Behind n) i (λ g. g)
  unless_given n e c i false s = by_value_given n e c i s

  literal_given : (n : ℕ) (names : Option (List Name)) (e : Expression) → is_regular e ≡ true → (i : Initializing)
      (s : State) → Giving is_known scope last Known s (λ es. Before n es i) (Behind n) (by_literal_or names e i s)
  literal_given n None e c i s = by_value_given n e c i s
  literal_given n (Some names) e c i s =
      then_only is_known scope last Known s (λ es. Before n es i) (Filled (Before n) (Behind n)) (Behind n)
      (judged (filled (spelled_bytes names) (expression_line e) i) s) (unless_filled e)
      (giving_judged is_known scope last Known s (λ es. Before n es i) (Filled (Before n) (Behind n))
      (filled (spelled_bytes names) (expression_line e) i s)
      (λ k g. steps.literal n s (expression_line e) (spelled_bytes names) i k g))
      (λ t r. unless_given n e c r.0 r.1 t)

  designated_once_given : (n : ℕ) (d : Designator) → is_regular_designator d ≡ true → (i : Initializing) (s : State)
      → Giving is_known scope last Known s (λ es. Chosen n es i) (Chosen n) (designated_once d i s)
  designated_once_given n (t.element l e r) c i s =
      giving_then is_known scope last Known s (λ es. Chosen n es i) (steps.chosen_stays n i)
      (IsFineValue is_known scope last Known false) (Chosen n)
      (valued (typed false e) s) (λ v. by_index l.line i v)
      (value_given is_known scope last Known keep false e c s (λ es. Chosen n es i))
      (λ t v. giving_judged is_known scope last Known t (both (λ es. Chosen n es i)
      (IsFineValue is_known scope last Known false) v) (Chosen n)
      (with_index (extents t) (member_lists t) l.line (index_in v) i)
      (λ k g. steps.index n t l.line (index_in v) i k g.0))
  designated_once_given n (t.member_named at x) c i s =
      giving_judged is_known scope last Known s (λ es. Chosen n es i) (Chosen n)
      (with_name (extents s) (member_lists s) at.line (name_of x) i)
      (λ k g. steps.name n s at.line (name_of x) i k g)

  designated_given : (n : ℕ) (ds : List Designator) → list_all is_regular_designator ds ≡ true → (i : Initializing)
      (s : State) → Giving is_known scope last Known s (λ es. Chosen n es i) (Chosen n) (designated ds i s)
  designated_given n [] c i s = giving_done is_known scope last Known s (λ es. Chosen n es i) (Chosen n) i (λ g. g)
  designated_given n (d ∷ ds) c i s =
      then_only is_known scope last Known s (λ es. Chosen n es i) (Chosen n) (Chosen n) (designated_once d i s)
      (λ i. designated ds i)
      (designated_once_given n d (first (is_regular_designator d) (list_all is_regular_designator ds) c) i s)
      (λ t j. designated_given n ds (second (is_regular_designator d) (list_all is_regular_designator ds) c) j t)

  chosen_before : (n : ℕ) (i : Initializing) (ds : List Designator) (s : State)
      → Giving is_known scope last Known s (λ es. Chosen n es i) (Chosen n) (designated ds i s)
      → Giving is_known scope last Known s (λ es. Chosen n es i) (Before n) (designated ds i s)
  chosen_before n i ds s h = by (designated ds i s) h
    where
      by : (a : Answer (State × Initializing)) → Giving is_known scope last Known s (λ es. Chosen n es i) (Chosen n) a
          → Giving is_known scope last Known s (λ es. Chosen n es i) (Before n) a
      by (Ok r) h = λ formed.
          let g = h formed in
          record {
            keeps = g.keeps;
            known = g.known;
            has = λ names k x. steps.chosen n (extents r.0) r.1 (g.has names k x);
          }
      by (Err f) h = tt

  designation_given : (n : ℕ) (d : Option Designation) → is_regular_designation d ≡ true → (i : Initializing)
      (s : State) → Giving is_known scope last Known s (λ es. Item n es i) (Before n) (designated_by d i s)
  designation_given n None c i s =
      giving_done is_known scope last Known s (λ es. Item n es i) (Before n) i
      (λ g. steps.undesignated n (extents s) i g)
  designation_given n (Some d) c i s =
      weaker_given is_known scope last Known s (λ es. Chosen n es (designation_begun i)) (λ es. Item n es i) (Before n)
      (designated d.designators (designation_begun i) s) (λ es g. steps.designation n es i g)
      (chosen_before n (designation_begun i) d.designators s
      (designated_given n d.designators c (designation_begun i) s))

  mutual
    pub initialized_given : (n : ℕ) (x : Initializer) → is_regular_initializer x ≡ true → (i : Initializing)
        (s : State) → Giving is_known scope last Known s (λ es. Before n es i) (Behind n) (initialized x i s)
    initialized_given n (t.value e) c i s = literal_given n (literal_alone e) e c i s
    initialized_given n (t.braced l x more comma r) c i s =
        then_only is_known scope last Known s (λ es. Before n es i) (Item (suc n)) (Behind n) (list_opened i s)
        (λ i. with_item x i >>> λ i. with_items more i >>> λ i. list_closed l.line i)
        (giving_judged is_known scope last Known s (λ es. Before n es i) (Item (suc n))
        (Ok (opened (extents s) (member_lists s) i)) (λ k g. steps.opened n s i k g))
        (λ u i. then_only is_known scope last Known u (λ es. Item (suc n) es i) (Behind (suc n)) (Behind n)
        (with_item x i u)
        (λ i. with_items more i >>> λ i. list_closed l.line i)
        (item_given (suc n) x (first (is_regular_item x) (are_regular_items more) c) i u)
        (λ v i. then_only is_known scope last Known v (λ es. Behind (suc n) es i) (Behind (suc n)) (Behind n)
        (with_items more i v) (λ i. list_closed l.line i)
        (items_given (suc n) more (second (is_regular_item x) (are_regular_items more) c) i v)
        (λ w i. giving_judged is_known scope last Known w (λ es. Behind (suc n) es i) (Behind n)
        (closed (extents w) (member_lists w) l.line i) (λ k g. steps.closed n w l.line i k g))))

    item_given : (n : ℕ) (x : InitializerItem) → is_regular_item x ≡ true → (i : Initializing) (s : State)
        → Giving is_known scope last Known s (λ es. Item n es i) (Behind n) (with_item x i s)
    item_given n (t.item designation x) c i s =
        then_only is_known scope last Known s (λ es. Item n es i) (Before n) (Behind n) (designated_by designation i s)
        (λ i. initialized x i)
        (designation_given n designation (first (is_regular_designation designation) (is_regular_initializer x) c) i s)
        (λ u i. initialized_given n x
        (second (is_regular_designation designation) (is_regular_initializer x) c) i u)

    items_given : (n : ℕ) (more : MoreItems) → are_regular_items more ≡ true → (i : Initializing) (s : State)
        → Giving is_known scope last Known s (λ es. Behind n es i) (Behind n) (with_items more i s)
    items_given n t.end_of_items c i s =
        giving_done is_known scope last Known s (λ es. Behind n es i) (Behind n) i (λ g. g)
    items_given n (t.more_items at x more) c i s =
        then_only is_known scope last Known s (λ es. Behind n es i) (Behind n) (Behind n) (with_item x i s)
        (λ i. with_items more i)
        (weaker_given is_known scope last Known s (λ es. Item n es i) (λ es. Behind n es i) (Behind n) (with_item x i s)
        (λ es g. steps.further n es i g)
        (item_given n x (first (is_regular_item x) (are_regular_items more) c) i s))
        (λ u i. items_given n more (second (is_regular_item x) (are_regular_items more) c) i u)
