-- The expressions of statements are typed to what is valid (C99 6.8.3 to 6.8.6).
use Rattle.std.proofs.Common.{◌≡◌, ℕ, Bool, true, false, ◌&&◌, refl, sym, ap, ◌∙◌, List, [], ◌∷◌, Option, Some, None}
use Rattle.std.proofs.Common.{if◌then◌else◌}
use Rattle.std.proofs.lemmas.Bool.{and_from as and}
use Rattle.std.specs.Prelude.{Ok, Err}
use Rattle.c_syntax.specs.Tree.{Expression}
use Rattle.c_tree.specs.declared.c_type.TypeWord.{TypeWord}
use Rattle.c_tree.specs.declared.c_type.TypeWord.TheVariants as word
use Rattle.c_tree.specs.declared.expression.Kind.{Kind}
use Rattle.c_tree.specs.declared.expression.Kind.TheVariants as kind
use Rattle.c_tree.specs.Kinds.{is_kind, is_promoted, is_value}
use Rattle.c_tree.specs.Statements.{First, Statement}
use Rattle.c_tree.specs.Statements as tree
use Rattle.c_tree.specs.Tree.{kind_of}
use Rattle.c_tree.specs.Tree as typed_tree
use Rattle.c_tree.specs.TypesAgree.{is_kind_of, kind_of_type}
use Rattle.c_tree.specs.Valid.{Scope, is_condition, is_valid}
use Rattle.c_tree.specs.ValidProgram.{is_condition_if, is_expression_if}
use Rattle.c_faults.specs.declared.fault.Rule.TheVariants.{MistakenReturn}
use Rattle.c_faults.specs.Answer.{Answer, violates, ◌>>=◌}
use Rattle.c_rules.specs.Conversions.{assigned, is_void_type}
use Rattle.c_rules.specs.Fine.{IfFineAs}
use Rattle.c_rules.specs.Types.{unqualified}
use Rattle.c_rules.specs.Values.{Value}
use Rattle.c_rules.proofs.FineConversions.{assigned_fine, unqualified_kind}
use Rattle.c_condition_rules.specs.Controlling.{IfCondition, IfSwitchValue}
use Rattle.c_condition_rules.proofs.FineConditions.{condition_fine, switch_fine}
use Rattle.c_typing_state.specs.State.{State, Typing, done, extents, judged, ◌>>>◌}
use Rattle.c_expression_typing.specs.Constructs.{valued}
use Rattle.c_expression_typing.specs.Typed.{typed}
use Rattle.c_unit_typing.specs.Constructs.{Head, behind_first, controlling, controls, controls_if, evaluated}
use Rattle.c_unit_typing.specs.Constructs.{evaluated_if, expression_typed, gives_void, returned, returned_nothing}
use Rattle.c_unit_typing.specs.Constructs.{returned_value, switches, switching_on, valued_if}
use Rattle.typing_laws.specs.Validity.Regular.{is_regular}
use Rattle.typing_laws.specs.Validity.Sound.{Covers, IsFormed, Sound}
use Rattle.typing_laws.specs.Validity.Steps.{FineValue, Structures, nothing}
use Rattle.typing_laws.proofs.Validity.Expressions.{done_sound, typed_sound}
use Rattle.typing_laws.proofs.Validity.Kept.{kind_kept}
use Rattle.typing_laws.proofs.Validity.PointerCalls.{pointer_calls}
use Rattle.typing_laws.proofs.Validity.Sound.{IfAnswer, Stays, both, sound_judged, sound_then, whatever}
use Rattle.typing_laws.proofs.Validity.Steps.{both_stay, nothing_stays, value_stays, valued_sound}
use Rattle.typing_laws.specs.Declarators.Extending.{Extending}
use Rattle.typing_laws.proofs.Declarators.Chained.{extends_same, then_extends}
use Rattle.typing_laws.proofs.Declarators.Known.{type_names}
use Rattle.typing_laws.specs.Declarators.Given.{anything}
use Rattle.typing_laws.specs.Scopes.Regular.{is_regular_if}
use Rattle.typing_laws.proofs.Scopes.Extended.{step_extends}
use Rattle.typing_laws.proofs.Scopes.Extended.{evaluated_if_extends, valued_if_extends}
use Rattle.program_laws.specs.Bodies.Parts.{has_valid_parts}
use Rattle.program_laws.specs.Bodies.Standing.{IsResult}

-- the kind of what a function gives

void_kind : (es : Structures) (type : List TypeWord) → is_void_type type ≡ true
    → kind_of_type es type ≡ Some kind.Void
void_kind es [] e = absurd cc
void_kind es (word.Void ∷ ws) e = refl
void_kind es (word.Integer t ∷ ws) e = absurd cc
void_kind es (word.Enumeration n ∷ ws) e = absurd cc
void_kind es (word.Pointer ∷ ws) e = absurd cc
void_kind es (word.Array count bytes ∷ ws) e = absurd cc
void_kind es (word.OpenArray ∷ ws) e = absurd cc
void_kind es (word.Structure n ∷ ws) e = absurd cc
void_kind es (word.Const ∷ ws) e = absurd cc
void_kind es (word.Takes ∷ ws) e = absurd cc
void_kind es (word.Gives ∷ ws) e = absurd cc

is_void : (k : Kind) → is_kind kind.Void k ≡ true → is_kind k kind.Void ≡ true
is_void kind.Void e = e
is_void (kind.Scalar s) e = absurd cc
is_void (kind.Structure n) e = absurd cc
is_void (kind.Array n) e = absurd cc

module _ (scope : Scope) (last : Structures) (type : List TypeWord) (is : IsResult scope last type) where
  void_result : gives_void type ≡ true → is_kind scope.result kind.Void ≡ true
  void_result e =
      is_void scope.result
      (ap (λ k. is_kind_of k scope.result) (sym (void_kind last (unqualified type) e) ∙ unqualified_kind last type)
      ∙ is.kind)

  value_result : (k : Kind) → kind_of_type last type ≡ Some k → is_kind k scope.result ≡ true
  value_result k e = ap (λ k. is_kind_of k scope.result) (sym e) ∙ is.kind

module _ (scope : Scope) (last : Structures) where
  value_sound : (e : Expression) → is_regular e ≡ true → (s : State)
      → Sound scope last s nothing (FineValue scope true) (valued (typed true e) s)
  value_sound e c s =
      valued_sound scope last s nothing nothing_stays true (typed true e)
      (typed_sound scope last (type_names scope last) (pointer_calls scope last) true e c s)

  -- behind the value of an expression
  value_then : {A : Type 0} (e : Expression) → is_regular e ≡ true → (s : State) (p : Structures → A → Type 0)
      (next : Value → Typing A)
      → ((t : State) (v : Value) → Sound scope last t (both nothing (FineValue scope true) v) p (next v t))
      → Sound scope last s nothing p ((valued (typed true e) >>> next) s)
  value_then e c s p next h =
      sound_then scope last s nothing nothing_stays (FineValue scope true) p (valued (typed true e) s) next
      (value_sound e c s) h

  abbrev Valid : Structures → typed_tree.Expression → Type 0
  Valid es e = is_valid scope e ≡ true

  abbrev ValidIf : Structures → Option typed_tree.Expression → Type 0
  ValidIf es e = is_expression_if scope e ≡ true

  abbrev Parts : Structures → Statement → Type 0
  Parts es s = has_valid_parts scope s ≡ true

  pub evaluated_sound : (e : Expression) → is_regular e ≡ true → (s : State)
      → Sound scope last s nothing Valid (evaluated e s)
  evaluated_sound e c s =
      value_then e c s Valid (λ v. done v.tree)
      (λ t v. done_sound scope last t (both nothing (FineValue scope true) v) Valid v.tree (λ g. (g.1 refl).valid))

  evaluated_if_sound : (e : Option Expression) → is_regular_if e ≡ true → (s : State)
      → Sound scope last s nothing ValidIf (evaluated_if e s)
  evaluated_if_sound None c s = done_sound scope last s nothing ValidIf None (λ g. refl)
  evaluated_if_sound (Some e) c s =
      sound_then scope last s nothing nothing_stays Valid ValidIf (evaluated e s) (λ e. done (Some e))
      (evaluated_sound e c s) (λ t x. done_sound scope last t (both nothing Valid x) ValidIf (Some x) (λ g. g.1))

  pub expression_sound : (e : Option Expression) → is_regular_if e ≡ true → (s : State)
      → Sound scope last s nothing Parts (expression_typed e s)
  expression_sound None c s = done_sound scope last s nothing Parts tree.empty (λ g. refl)
  expression_sound (Some e) c s =
      sound_then scope last s nothing nothing_stays Valid Parts (evaluated e s)
      (λ e. done (tree.expression_statement e)) (evaluated_sound e c s)
      (λ t x. done_sound scope last t (both nothing Valid x) Parts (tree.expression_statement x) (λ g. g.1))

  -- controlling expressions

  abbrev Controls : Structures → typed_tree.Expression → Type 0
  Controls es e = is_condition scope e ≡ true

  abbrev ControlsIf : Structures → Option typed_tree.Expression → Type 0
  ControlsIf es e = is_condition_if scope e ≡ true

  if_condition : (a : Answer typed_tree.Expression) → IfCondition scope a
      → IfAnswer (λ e. is_condition scope e ≡ true) a
  if_condition (Ok e) h = h
  if_condition (Err f) h = tt

  pub controlling_sound : (line : ℕ) (e : Expression) → is_regular e ≡ true → (s : State)
      → Sound scope last s nothing Controls (controlling line e s)
  controlling_sound line e c s =
      value_then e c s Controls (λ v. judged (controls line v))
      (λ t v. sound_judged scope last t (both nothing (FineValue scope true) v) Controls (controls line v t)
      (λ knows g covers. if_condition (controls line v t) (condition_fine scope (extents t) line v (g.1 refl))))

  abbrev Switches : Structures → Value → Type 0
  Switches es v = (is_valid scope v.tree && is_promoted (kind_of v.tree)) ≡ true

  if_switch : (es : Structures) (a : Answer Value) → IfSwitchValue scope es a → IfAnswer (Switches es) a
  if_switch es (Ok v) h = h.valid
  if_switch es (Err f) h = tt

  pub switching_sound : (line : ℕ) (e : Expression) → is_regular e ≡ true → (s : State)
      → Sound scope last s nothing Switches (switching_on line e s)
  switching_sound line e c s =
      value_then e c s Switches (λ v. judged (switches line v))
      (λ t v. sound_judged scope last t (both nothing (FineValue scope true) v) Switches (switches line v t)
      (λ knows g covers. if_switch (extents t) (switches line v t) (switch_fine scope (extents t) line v (g.1 refl))))

  -- `return`

  module _ (result : List TypeWord) (is : IsResult scope last result) where
    nothing_returned : (b : Bool) → gives_void result ≡ b → (line : ℕ) (es : Structures)
        → IfAnswer (Parts es) (if b then Ok (tree.return None) else violates MistakenReturn line)
    nothing_returned true e line es = void_result scope last result is e
    nothing_returned false e line es = tt

    value_returned : (es : State) (a : Answer typed_tree.Expression) → Covers scope last es
        → IfFineAs scope (extents es) result a → IfAnswer (Parts (extents es)) (a >>= λ e. Ok (tree.return (Some e)))
    value_returned s (Ok e) covers h =
        and (is_valid scope e && is_kind (kind_of e) scope.result) (is_value (kind_of e))
        (and (is_valid scope e) (is_kind (kind_of e) scope.result) h.valid
        (value_result scope last result is (kind_of e) (kind_kept (extents s) last covers.more result (kind_of e)
        h.kind))) h.value
    value_returned s (Err f) covers h = tt

    either_returned : (b : Bool) (line : ℕ) (s : State) (a : Answer typed_tree.Expression) → Covers scope last s
        → IfFineAs scope (extents s) result a
        → IfAnswer (Parts (extents s))
        (if b then violates MistakenReturn line else (a >>= λ e. Ok (tree.return (Some e))))
    either_returned true line s a covers h = tt
    either_returned false line s a covers h = value_returned s a covers h

    pub returned_sound : (line : ℕ) (e : Option Expression) → is_regular_if e ≡ true → (s : State)
        → Sound scope last s nothing Parts (returned line result e s)
    returned_sound line None c s =
        sound_judged scope last s nothing Parts (returned_nothing line result s)
        (λ knows g covers. nothing_returned (gives_void result) refl line (extents s))
    returned_sound line (Some e) c s =
        value_then e c s Parts (λ v. judged (returned_value line result v))
        (λ t v. sound_judged scope last t (both nothing (FineValue scope true) v) Parts (returned_value line result v t)
        (λ knows g covers. either_returned (gives_void result) line t (assigned (extents t) line result v) covers
        (assigned_fine scope (extents t) line result v (g.1 refl))))

  -- the head of a `for`

  abbrev FineIf : Structures → Option Value → Type 0
  FineIf es None = Unit {0}
  FineIf es (Some v) = FineValue scope true es v

  fine_if_stays : (v : Option Value) → Stays (λ es. FineIf es v)
  fine_if_stays None = λ es more h g. tt
  fine_if_stays (Some v) = value_stays scope true v

  valued_if_sound : (e : Option Expression) → is_regular_if e ≡ true → (s : State)
      → Sound scope last s nothing FineIf (valued_if e s)
  valued_if_sound None c s = done_sound scope last s nothing FineIf None (λ g. tt)
  valued_if_sound (Some e) c s =
      value_then e c s FineIf (λ v. done (Some v))
      (λ t v. done_sound scope last t (both nothing (FineValue scope true) v) FineIf (Some v) (λ g. g.1))

  some_controls : (es : Structures) (a : Answer typed_tree.Expression) → IfAnswer (Controls es) a
      → IfAnswer (ControlsIf es) (a >>= λ e. Ok (Some e))
  some_controls es (Ok e) h = h
  some_controls es (Err f) h = tt

  controls_if_fine : (line : ℕ) (v : Option Value) (s : State) → FineIf (extents s) v
      → IfAnswer (ControlsIf (extents s)) (controls_if line v s)
  controls_if_fine line None s h = refl
  controls_if_fine line (Some v) s h =
      some_controls (extents s) (controls line v s)
      (if_condition (controls line v s) (condition_fine scope (extents s) line v (h refl)))

  abbrev HeadParts : Structures → Head → Type 0
  HeadParts es h = (is_condition_if scope h.condition && is_expression_if scope h.step) ≡ true

  pub head_sound : (line : ℕ) (condition step : Option Expression) → is_regular_if condition ≡ true
      → is_regular_if step ≡ true → (x : First) (s : State)
      → Sound scope last s nothing HeadParts (behind_first line condition step x s)
  head_sound line condition step c d x s =
      sound_then scope last s nothing nothing_stays FineIf HeadParts (valued_if condition s)
      (λ v. evaluated_if step >>> λ step. judged (controls_if line v) >>> λ c.
      done (record { first = x; condition = c; step = step })) (valued_if_sound condition c s)
      (λ t v. (let given = both nothing FineIf v in
      let stays = both_stay nothing FineIf v nothing_stays (fine_if_stays v) in
      sound_then scope last t given stays ValidIf HeadParts (evaluated_if step t)
      (λ step. judged (controls_if line v) >>> λ c. done (record { first = x; condition = c; step = step }))
      (whatever scope last t given ValidIf (evaluated_if step t) (evaluated_if_sound step d t))
      (λ u e. (let more = both given ValidIf e in
      sound_then scope last u more (both_stay given ValidIf e stays (λ es more h g. g)) ControlsIf HeadParts
      (judged (controls_if line v) u) (λ c. done (record { first = x; condition = c; step = e }))
      (sound_judged scope last u more ControlsIf (controls_if line v u)
      (λ knows g covers. controls_if_fine line v u g.0.1))
      (λ w z. done_sound scope last w (both more ControlsIf z) HeadParts (record { first = x; condition = z; step = e })
      (λ g. and (is_condition_if scope z) (is_expression_if scope e) g.1 g.0.1))))))

-- the head keeps its first part
pub head_extends : (line : ℕ) (condition step : Option Expression) → is_regular_if condition ≡ true
    → is_regular_if step ≡ true → (x : First) (s : State) → IsFormed s
    → Extending false s (λ u h. h.first ≡ x) (behind_first line condition step x s)
head_extends line condition step c d x s formed =
    then_extends false s anything (λ u h. h.first ≡ x) (valued_if condition s)
    (λ v. evaluated_if step >>> λ step. judged (controls_if line v) >>> λ c.
    done (record { first = x; condition = c; step = step })) (valued_if_extends condition c s formed)
    (λ u v g k. then_extends false u anything (λ u h. h.first ≡ x) (evaluated_if step u)
    (λ step. judged (controls_if line v) >>> λ c. done (record { first = x; condition = c; step = step }))
    (evaluated_if_extends step d u g.formed)
    (λ w e h k. then_extends false w anything (λ u h. h.first ≡ x) (judged (controls_if line v) w)
    (λ c. done (record { first = x; condition = c; step = e })) (step_extends w h.formed (controls_if line v))
    (λ z c i k. (extends_same false z i.formed, refl))))
