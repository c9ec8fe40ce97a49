-- Initializers keep what the values of expressions keep; so they leave a state that extends the one before.
use Rattle.std.proofs.Common.{◌≡◌, Bool, true, false, List, [], ◌∷◌, Option, Some, None, if◌then◌else◌}
use Rattle.std.specs.Prelude.{Ok, Err}
use Rattle.std.specs.List.{list_all}
use Rattle.c_syntax.specs.Tree.{Designation, Designator, Expression, Initializer, InitializerItem, MoreItems}
use Rattle.c_syntax.specs.Tree as t
use Rattle.c_faults.specs.Answer.{Answer, ◌>>=◌}
use Rattle.c_rules.specs.Values.{Value}
use Rattle.c_initializer_rules.specs.Initializing.{Initializing, closed, designation_begun, opened, with_index}
use Rattle.c_initializer_rules.specs.Initializing.{with_name, with_value}
use Rattle.c_scope.specs.Names.{Name}
use Rattle.c_operand_typing.specs.Primaries.{spelled_bytes}
use Rattle.c_typing_state.specs.State.{State, Typing, done, extents, judged, ◌>>>◌}
use Rattle.c_expression_typing.specs.Constructs.{literal_alone, valued}
use Rattle.c_expression_typing.specs.Lines.{name_of}
use Rattle.c_expression_typing.specs.Typed.{typed}
use Rattle.c_unit_typing.specs.Initializers.{by_index, by_literal_or, by_value, designated}
use Rattle.c_unit_typing.specs.Initializers.{designated_by, designated_once, filled, index_in, initialized, list_closed}
use Rattle.c_unit_typing.specs.Initializers.{list_opened, member_lists, stepped, unless_filled, with_item, with_items}
use Rattle.c_unit_typing.specs.Lines.{expression_line}
use Rattle.typing_laws.specs.Validity.Regular.{is_regular}
use Rattle.typing_laws.specs.Validity.Sound.{IsFormed}
use Rattle.typing_laws.proofs.Validity.Common.{first, second}
use Rattle.typing_laws.specs.Declarators.Extending.{Extending, Extends}
use Rattle.typing_laws.specs.Declarators.Given.{ValueHasWords, anything}
use Rattle.typing_laws.proofs.Declarators.Chained.{extends_on, extends_same}
use Rattle.typing_laws.proofs.Declarators.Recursion.{typed_extends}
use Rattle.typing_laws.proofs.Declarators.Steps.{valued_extends}
use Rattle.typing_laws.specs.Scopes.Regular.{are_regular_items, is_regular_designation, is_regular_designator}
use Rattle.typing_laws.specs.Scopes.Regular.{is_regular_initializer, is_regular_item}

-- the value of an expression
pub value_extends : (is : Bool) (e : Expression) → is_regular e ≡ true → (s : State) → IsFormed s
    → Extending false s ValueHasWords (valued (typed is e) s)
value_extends is e c s formed = valued_extends false s (typed is e) (typed_extends is e c s formed)

abbrev pub IfBehind : {A : Type 0} → (State → State → Type 0) → State → Answer (State × A) → Type 0
IfBehind states s (Ok r) = states s r.0
IfBehind states s (Err e) = Unit {0}

-- a relation of states that the values of expressions keep
pub record ValueWalk (states : State → State → Type 0) : Type 0 where
  pub same : (s : State) → IsFormed s → states s s
  pub on : (s t u : State) → states s t → states t u → states s u
  pub formed : (s t : State) → states s t → IsFormed t
  pub value : (is : Bool) (e : Expression) → is_regular e ≡ true → (s : State) → IsFormed s
      → IfBehind states s (valued (typed is e) s)

module _ (states : State → State → Type 0) (walk : ValueWalk states) where
  from_state : {A : Type 0} (s t : State) → states s t → (a : Answer (State × A)) → IfBehind states t a
      → IfBehind states s a
  from_state s t h (Ok r) is = walk.on s t r.0 h is
  from_state s t h (Err e) is = tt

  pub then_state : {A B : Type 0} (s : State) (a : Answer (State × A)) (next : A → Typing B) → IfBehind states s a
      → ((x : A) (u : State) → IsFormed u → IfBehind states u (next x u)) → IfBehind states s (a >>= λ r. next r.1 r.0)
  then_state s (Ok r) next h g = from_state s r.0 h (next r.1 r.0) (g r.1 r.0 (walk.formed s r.0 h))
  then_state s (Err e) next h g = tt

  judged_by : {A : Type 0} (s : State) → IsFormed s → (a : Answer A) → IfBehind states s (a >>= λ x. Ok (s, x))
  judged_by s formed (Ok x) = walk.same s formed
  judged_by s formed (Err e) = tt

  pub judged_walks : {A : Type 0} (s : State) → IsFormed s → (rule : State → Answer A)
      → IfBehind states s (judged rule s)
  judged_walks s formed rule = judged_by s formed (rule s)

  pub walks_then : {B : Type 0} (is : Bool) (e : Expression) → is_regular e ≡ true → (s : State) → IsFormed s
      → (next : Value → Typing B) → ((v : Value) (u : State) → IsFormed u → IfBehind states u (next v u))
      → IfBehind states s ((valued (typed is e) >>> next) s)
  walks_then is e c s formed next h = then_state s (valued (typed is e) s) next (walk.value is e c s formed) h

  by_value_walks : (e : Expression) → is_regular e ≡ true → (i : Initializing) (s : State) → IsFormed s
      → IfBehind states s (by_value e i s)
  by_value_walks e c i s formed =
      walks_then true e c s formed (λ v. stepped (λ es ms. with_value es ms (expression_line e) v) i)
      (λ v u g. judged_walks u g (λ s. with_value (extents s) (member_lists s) (expression_line e) v i))

  unless_by : (e : Expression) → is_regular e ≡ true → (i : Initializing) (b : Bool) (s : State) → IsFormed s
      → IfBehind states s ((if b then done i else by_value e i) s)
  unless_by e c i true s formed = walk.same s formed
  unless_by e c i false s formed = by_value_walks e c i s formed

  literal_walks : (names : Option (List Name)) (e : Expression) → is_regular e ≡ true → (i : Initializing) (s : State)
      → IsFormed s → IfBehind states s (by_literal_or names e i s)
  literal_walks None e c i s formed = by_value_walks e c i s formed
  literal_walks (Some names) e c i s formed =
      then_state s (judged (filled (spelled_bytes names) (expression_line e) i) s)
      (unless_filled e) (judged_walks s formed (filled (spelled_bytes names) (expression_line e) i))
      (λ r u g. unless_by e c r.0 r.1 u g)

  designated_once_walks : (d : Designator) → is_regular_designator d ≡ true → (i : Initializing) (s : State)
      → IsFormed s → IfBehind states s (designated_once d i s)
  designated_once_walks (t.element l e r) c i s formed =
      walks_then false e c s formed (λ v. by_index l.line i v)
      (λ v u g. judged_walks u g
      (λ s. with_index (extents s) (member_lists s) l.line (index_in v) i))
  designated_once_walks (t.member_named at x) c i s formed =
      judged_walks s formed (λ s. with_name (extents s) (member_lists s) at.line (name_of x) i)

  designated_walks : (ds : List Designator) → list_all is_regular_designator ds ≡ true → (i : Initializing) (s : State)
      → IsFormed s → IfBehind states s (designated ds i s)
  designated_walks [] c i s formed = walk.same s formed
  designated_walks (d ∷ ds) c i s formed =
      then_state s (designated_once d i s) (λ i. designated ds i)
      (designated_once_walks d (first (is_regular_designator d) (list_all is_regular_designator ds) c) i s formed)
      (λ i u g. designated_walks ds (second (is_regular_designator d) (list_all is_regular_designator ds) c) i u
      g)

  designation_walks : (d : Option Designation) → is_regular_designation d ≡ true → (i : Initializing) (s : State)
      → IsFormed s → IfBehind states s (designated_by d i s)
  designation_walks None c i s formed = walk.same s formed
  designation_walks (Some d) c i s formed = designated_walks d.designators c (designation_begun i) s formed

  mutual
    pub initialized_walks : (x : Initializer) → is_regular_initializer x ≡ true → (i : Initializing) (s : State)
        → IsFormed s → IfBehind states s (initialized x i s)
    initialized_walks (t.value e) c i s formed = literal_walks (literal_alone e) e c i s formed
    initialized_walks (t.braced l x more comma r) c i s formed =
        then_state s (list_opened i s)
        (λ i. with_item x i >>> λ i. with_items more i >>> λ i. list_closed l.line i)
        (judged_walks s formed (λ s. Ok (opened (extents s) (member_lists s) i)))
        (λ i u g. then_state u (with_item x i u)
        (λ i. with_items more i >>> λ i. list_closed l.line i)
        (item_walks x (first (is_regular_item x) (are_regular_items more) c) i u g)
        (λ i v h. then_state v (with_items more i v) (λ i. list_closed l.line i)
        (items_walk more (second (is_regular_item x) (are_regular_items more) c) i v h)
        (λ i w j. judged_walks w j (λ s. closed (extents s) (member_lists s) l.line i))))

    item_walks : (x : InitializerItem) → is_regular_item x ≡ true → (i : Initializing) (s : State) → IsFormed s
        → IfBehind states s (with_item x i s)
    item_walks (t.item designation x) c i s formed =
        then_state s (designated_by designation i s) (λ i. initialized x i)
        (designation_walks designation (first (is_regular_designation designation) (is_regular_initializer x) c) i s
        formed)
        (λ i u g. initialized_walks x (second (is_regular_designation designation) (is_regular_initializer x) c) i u
        g)

    items_walk : (more : MoreItems) → are_regular_items more ≡ true → (i : Initializing) (s : State) → IsFormed s
        → IfBehind states s (with_items more i s)
    items_walk t.end_of_items c i s formed = walk.same s formed
    items_walk (t.more_items at x more) c i s formed =
        then_state s (with_item x i s) (λ i. with_items more i)
        (item_walks x (first (is_regular_item x) (are_regular_items more) c) i s formed)
        (λ i u g. items_walk more (second (is_regular_item x) (are_regular_items more) c) i u g)

-- states that extend the one before

behind_by : {A : Type 0} (s : State) (p : State → A → Type 0) (a : Answer (State × A)) → Extending false s p a
    → IfBehind (Extends false) s a
behind_by s p (Ok r) is = is.0
behind_by s p (Err e) is = tt

pub by_behind : {A : Type 0} (s : State) (a : Answer (State × A)) → IfBehind (Extends false) s a
    → Extending false s anything a
by_behind s (Ok r) is = (is, tt)
by_behind s (Err e) is = tt

pub values_walk : ValueWalk (Extends false)
values_walk = record {
  same = λ s formed. extends_same false s formed;
  on = λ s t u h g. extends_on false s t u h g;
  formed = λ s t h. h.formed;
  value = λ is e c s formed. behind_by s ValueHasWords (valued (typed is e) s) (value_extends is e c s formed);
}

pub initialized_extends : (x : Initializer) → is_regular_initializer x ≡ true → (i : Initializing) (s : State)
    → IsFormed s → Extending false s anything (initialized x i s)
initialized_extends x c i s formed =
    by_behind s (initialized x i s) (initialized_walks (Extends false) values_walk x c i s formed)
