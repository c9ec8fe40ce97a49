-- What a `for` that counts does, shown of the source alone: where a turn of it begins, its variable lies from the start
-- to below the bound.
use Rattle.std.proofs.Common.{◌≡◌, ℕ, ◌+◌, ◌%◌, ◌^◌, [], ◌∷◌, Option, Some, None, Bool, true, false, refl}
use Rattle.std.proofs.Common.{sym, ap, ◌∙◌, subst, arith}
use Rattle.std.specs.Prelude.{not, ◌&&◌, ◌==◌, if◌then◌else◌}
use Rattle.std.proofs.lemmas.Bool.{eqb-true, le-ltb}
use Rattle.std.proofs.lemmas.List.{get_or-set_same}
use Rattle.std.proofs.lemmas.Option.{same_Some}
use Rattle.obj_memory.specs.declared.int_type.IntType.TheVariants.{Int}
use Rattle.obj_memory.specs.declared.operator.BinaryOperator.TheVariants.{Less, Add}
use Rattle.obj_memory.specs.declared.value.Scalar.TheVariants.{Integer}
use Rattle.obj_memory.specs.declared.value.Value.{Value}
use Rattle.obj_memory.specs.Integers.{fit, is_signed}
use Rattle.obj_memory.specs.Operators.{one_if, is_less, binary_value}
use Rattle.obj_memory.proofs.Words.{fit_twice}
use Rattle.c_tree.specs.declared.expression.Fixity.{Fixity}
use Rattle.c_tree.specs.declared.expression.Kind.{Kind}
use Rattle.c_tree.specs.declared.expression.Kind.TheVariants.{Void, Scalar as OfScalar, Structure, Array}
use Rattle.c_tree.specs.declared.expression.PlainName.{PlainName}
use Rattle.c_tree.specs.declared.expression.Update.TheVariants.{Arithmetic}
use Rattle.c_tree.specs.Tree.{Expression, expression, constant, plain, convert, binary, assign_plain, step_plain}
use Rattle.c_tree.specs.Tree.{kind_of}
use Rattle.c_tree.specs.Statements.{Initializer, of_plain, First, first_expression, first_declaration, Statement}
use Rattle.c_tree.specs.Assigning.{statement_assigns}
use Rattle.c_tree.specs.Valid.{Scope}
use Rattle.c_const.specs.Integers.{constant_word}
use Rattle.source_meaning.specs.State.{State, Gives, Run, on, ◌>>◌, done, skip, Setting, Env}
use Rattle.source_meaning.specs.Actions.{integer, is_zero, integer_type, scalar_of, plain_value, with_plain, set_plain}
use Rattle.source_meaning.specs.Actions.{converted_to, given, value_or_divide, operate}
use Rattle.source_meaning.specs.Structures.{give, as_rvalue}
use Rattle.source_meaning.specs.Expressions.{nodes_of, evaluate}
use Rattle.source_meaning.specs.Initializers.{initialize_all}
use Rattle.source_meaning.specs.Statements.{Completion, holds, perform, perform_first, execute}
use Rattle.source_meaning.specs.Acting.{at_work}
use Rattle.source_meaning.specs.Staying.{KeptBy, Stays}
use Rattle.source_meaning.specs.Constants.Finding.{Finds}
use Rattle.source_meaning.specs.Good.{Context, function_count, plain_type, IsGood, After, ValueIs, IsOfKind, Calling}
use Rattle.source_meaning.proofs.Constants.Integers.{constant_finds}
use Rattle.source_meaning.proofs.Constants.Steps.{finds_on, finds_counted, finds_give, finds_read, finds_same}
use Rattle.source_meaning.proofs.Constants.Steps.{finds_quotient}
use Rattle.source_meaning.proofs.Naming.{Names, NamesIfAny, PlainNames}
use Rattle.source_meaning.proofs.SureTree.{evaluate_sure}
use Rattle.source_meaning.proofs.ValidNames.{both}
use Rattle.tac_ir.specs.declared.instruction.Instruction.TheVariants.{Turn}
use Rattle.tac_ir.specs.declared.function.Tac.{Tac}
use Rattle.tac_ir.specs.Stage.{Temps}
use Rattle.tac_ir.specs.Fitting.{is_counted}
use Rattle.tac_ir.specs.Meaning.{loops_of, function_in, begun, fits}
use Rattle.c_lower.specs.Statements.{CountedIs}
use Rattle.c_lower.specs.Counted.{CountedParts, Setting as Set, set_to, int_constant, is_one, int_variable, bare_name}
use Rattle.c_lower.specs.Counted.{is_variable, set_by_name, set_first, compared_with, counts_up, if_counted, counted_by}
use Rattle.c_lower.specs.Counted.{counted_parts}
use Rattle.c_lower.proofs.NextInt.{next_no_less}

-- the parts of the text

record IsConstant (e : Expression) (w : ℕ) : Type 0 where
  word : constant_word e ≡ Some w
  kind : kind_of e ≡ OfScalar (Integer Int)

constant_is : (e : Expression) (w : ℕ) → int_constant e ≡ Some w → IsConstant e w
constant_is (expression kind line (convert e)) w h = absurd (cc)
constant_is (expression (OfScalar (Integer Int)) line node) w h = record { word = h; kind = refl }
constant_is e w h = absurd (cc)

named_by : (b : Bool) (variable x : ℕ) → (if b then Some variable else None) ≡ Some x → variable ≡ x
named_by true variable x h = same_Some variable x h
named_by false variable x h = absurd (cc)

bare_is : (n : PlainName) (x : ℕ) → bare_name n ≡ Some x → n.variable ≡ x
bare_is n x h = named_by (n.parentheses == 0) n.variable x h

variable_is : (x : ℕ) (o : Option ℕ) → is_variable x o ≡ true → o ≡ Some x
variable_is x None h = absurd (cc)
variable_is x (Some y) h = ap Some (eqb-true y x h)

set_is : (o : Option ℕ) (y x w : ℕ) → set_to y o ≡ Some (record { variable = x; word = w }) → (y ≡ x) × (o ≡ Some w)
set_is None y x w h = absurd (cc)
set_is (Some v) y x w h = let same = same_Some _ _ h in
    (ap (λ (z : Set). z.variable) same, ap (λ (z : Set). Some z.word) same)

set_by_is : (n o : Option ℕ) (x w : ℕ) → set_by_name n o ≡ Some (record { variable = x; word = w })
    → (n ≡ Some x) × (o ≡ Some w)
set_by_is None o x w h = absurd (cc)
set_by_is (Some y) o x w h = let q = set_is o y x w h in (ap Some q.0, q.1)

-- the parts of a `for` that counts
record HasParts (first : First) (condition step : Option Expression) (body : Statement) (q : CountedParts) : Type 0
  where
    sets : set_first first ≡ Some (record { variable = q.variable; word = q.start })
    compares : compared_with condition ≡ Some (record { variable = q.variable; word = q.bound })
    counts : counts_up q.variable step ≡ true
    keeps : statement_assigns q.variable body ≡ false

not_true : (b : Bool) → not b ≡ true → b ≡ false
not_true true h = absurd (cc)
not_true false h = refl

module _ (first : First) (condition step : Option Expression) (body : Statement) (q : CountedParts) where
  parts_if : (b : Bool) (x a w : ℕ) → if_counted b x a w ≡ Some q
      → (b ≡ true) × (x ≡ q.variable) × (a ≡ q.start) × (w ≡ q.bound)
  parts_if true x a w h =
      let same = same_Some _ _ h in (
        refl,
        ap (λ (z : CountedParts). z.variable) same,
        ap (λ (z : CountedParts). z.start) same,
        ap (λ (z : CountedParts). z.bound) same,
      )
  parts_if false x a w h = absurd (cc)

  parts_by : (a b : Option Set) → set_first first ≡ a → compared_with condition ≡ b
      → counted_by a b step body ≡ Some q → HasParts first condition step body q
  parts_by (Some a) (Some b) f c h =
      let p = parts_if _ a.variable a.word b.word h in
      let v = both (a.variable == b.variable) _ p.0 in
      let w = both (counts_up a.variable step) _ v.1 in
      let same = sym (eqb-true a.variable b.variable v.0) ∙ p.1 in record {
        sets = f ∙ ap (λ (x : ℕ). Some (record { variable = x; word = a.word })) p.1
            ∙ ap (λ (w : ℕ). Some (record { variable = q.variable; word = w })) p.2;
        compares = c ∙ ap (λ (x : ℕ). Some (record { variable = x; word = b.word })) same
            ∙ ap (λ (w : ℕ). Some (record { variable = q.variable; word = w })) p.3;
        counts = ap (λ x. counts_up x step) (sym p.1) ∙ w.0;
        keeps = ap (λ x. statement_assigns x body) (sym p.1) ∙ not_true (statement_assigns a.variable body) w.1;
      }
  parts_by None b f c h = absurd (cc)
  parts_by (Some a) None f c h = absurd (cc)

  has_parts : counted_parts first condition step body ≡ Some q → HasParts first condition step body q
  has_parts h = parts_by (set_first first) (compared_with condition) refl refl h

-- what they do

-- a run sets a variable, and does nothing else but work
pub record Sets (run : Run (Unit {0})) (variable : ℕ) (value : Value) (state : State) : Type 0 where
  pub work : ℕ
  pub gives : run state ≡ Gives tt (with_plain variable value (at_work work state))

-- a run tests something, and does nothing else but work
pub record Tests (run : Run Bool) (outcome : Bool) (state : State) : Type 0 where
  pub work : ℕ
  pub gives : run state ≡ Gives outcome (at_work work state)

sets_same : {r : Run (Unit {0})} {x : ℕ} {v : Value} {s : State} (y : ℕ) (w : Value) → x ≡ y → v ≡ w → Sets r x v s
    → Sets r y w s
sets_same {r = r} {v = v} {s = s} y w e f h = subst (λ v. Sets r y v s) f (subst (λ x. Sets r x v s) e h)

record IsVariable (env : Env) (e : Expression) (x : ℕ) : Type 0 where
  finds : (s : State) → Finds (evaluate env e) (plain_value x s) s
  kind : kind_of e ≡ OfScalar (Integer Int)

variable_finds : (env : Env) (e : Expression) (x : ℕ) → int_variable e ≡ Some x → IsVariable env e x
variable_finds env (expression (OfScalar (Integer Int)) line (plain y)) x h = record {
  finds = λ s. finds_same (ap (λ z. plain_value z s) (same_Some _ _ h))
      (finds_counted (finds_read (plain_value y) (at_work (s.work + 1) s)));
  kind = refl;
}
variable_finds env e x h = absurd (cc)

-- `v = e` and a declaration of v with e
assignment_sets : (env : Env) (kind : Kind) (line : ℕ) (n : PlainName) (e : Expression) (v : Value) (s : State)
    → Finds (evaluate env e) v (at_work (s.work + nodes_of n) s)
    → Sets (perform env (Some (expression kind line (assign_plain n e)))) n.variable v s
assignment_sets env kind line n e v s f = record {
  work = f.work;
  gives = ap (λ o. on (on o (λ v. set_plain n.variable v.value >> give v.value)) (λ _. skip)) f.gives;
}

declared_sets : (env : Env) (y : ℕ) (i : Option Initializer) (x w : ℕ)
    → set_first (first_declaration (record { variable = y; initializer = i } ∷ []))
    ≡ Some (record { variable = x; word = w }) → (s : State)
    → Sets (initialize_all env (record { variable = y; initializer = i } ∷ [])) x (integer w) s
declared_sets env y (Some (of_plain e)) x w h s =
    let q = set_is (int_constant e) y x w h in
    let f = constant_finds env e w s (constant_is e w q.1).word in
    sets_same x (integer w) q.0 refl
    (record { work = f.work; gives = ap (λ o. on (on o (λ v. set_plain y v.value)) (λ _. skip)) f.gives })
declared_sets env y i x w h s = absurd (cc)

first_sets : (env : Env) (f : First) (x w : ℕ) → set_first f ≡ Some (record { variable = x; word = w }) → (s : State)
    → Sets (perform_first env f) x (integer w) s
first_sets env (first_expression (expression kind line (assign_plain n e))) x w h s =
    let q = set_by_is (bare_name n) (int_constant e) x w h in
    sets_same x (integer w) (bare_is n x q.0) refl
    (assignment_sets env kind line n e (integer w) s (constant_finds env e w _ (constant_is e w q.1).word))
first_sets env (first_declaration (d ∷ [])) x w h s = declared_sets env d.variable d.initializer x w h s
first_sets env f x w h s = absurd (cc)

-- the condition

less_is : (v w : ℕ) → binary_value Less Int v w ≡ Some (one_if (is_less true v w))
unfolding binary_value is_signed
less_is v w = refl

truth_is : (b : Bool) → not (one_if b == 0) ≡ b
truth_is true = refl
truth_is false = refl

condition_tests : (env : Env) (c : Option Expression) (x w : ℕ)
    → compared_with c ≡ Some (record { variable = x; word = w }) → (s : State)
    → Tests (holds env c) (is_less true (plain_value x s).word w) s
condition_tests env (Some (expression kind line (binary Less a b))) x w h s =
    let q = set_by_is (int_variable a) (int_constant b) x w h in
    let v = variable_finds env a x q.0 in
    let less = is_less true (plain_value x s).word w in
    let f : Finds (evaluate env (expression kind line (binary Less a b))) (integer (one_if less)) s =
    finds_counted (finds_on _ (v.finds (at_work (s.work + 1) s))
    (finds_on _ (constant_finds env b w _ (constant_is b w q.1).word)
    (finds_quotient (binary_value Less (integer_type (scalar_of (kind_of a))) (plain_value x s).word w)
    (one_if less) line _
    (ap (λ k. binary_value Less (integer_type (scalar_of k)) (plain_value x s).word w) v.kind
    ∙ less_is (plain_value x s).word w)))) in
    record {
      work = f.work;
      gives = ap (λ o. on o (λ v. done (not (is_zero v.value)))) f.gives
          ∙ ap (λ b. Gives b (at_work f.work s)) (truth_is less);
    }
condition_tests env c x w h s = absurd (cc)

-- the step

sum_is : (v w : ℕ) → binary_value Add Int v w ≡ Some (fit Int ((v + w) % 2 ^ 64))
unfolding binary_value
sum_is v w = refl

abbrev next_word : ℕ → State → ℕ
next_word x s = fit Int (((plain_value x s).word + 1) % 2 ^ 64)

-- `v = v + 1`
sum_sets : (env : Env) (kind k : Kind) (line l : ℕ) (n : PlainName) (a b : Expression) (x : ℕ)
    → is_variable x (bare_name n) ≡ true → is_variable x (int_variable a) ≡ true → is_one b ≡ true → (s : State)
    → Sets (perform env (Some (expression kind line (assign_plain n (expression k l (binary Add a b)))))) x
    (integer (next_word x s)) s
sum_sets env kind k line l n a (expression (OfScalar (Integer Int)) m (constant w)) x hn ha hb s =
    let v = variable_finds env a x (variable_is x (int_variable a) ha) in
    let old = (plain_value x s).word in
    let e = expression k l (binary Add a (expression (OfScalar (Integer Int)) m (constant w))) in
    let f : Finds (evaluate env e) (integer (next_word x s)) (at_work (s.work + nodes_of n) s) =
    finds_counted (finds_on _ (v.finds _)
    (finds_on (λ y. as_rvalue (operate Add (integer_type (scalar_of (kind_of a))) (plain_value x s) y.value l))
    (finds_counted (finds_give (integer w) _))
    (finds_quotient (binary_value Add (integer_type (scalar_of (kind_of a))) old w) (next_word x s) l _
    (ap (λ k. binary_value Add (integer_type (scalar_of k)) old w) v.kind
    ∙ ap (binary_value Add Int old) (eqb-true w 1 hb) ∙ sum_is old 1)))) in
    sets_same x _ (bare_is n x (variable_is x (bare_name n) hn)) refl
    (assignment_sets env kind line n e (integer (next_word x s)) s f)
sum_sets env kind k line l n a b x hn ha hb s = absurd (cc)

-- `v++` and `++v`
step_sets : (env : Env) (line : ℕ) (fixity : Fixity) (n : PlainName) (x : ℕ) → is_variable x (bare_name n) ≡ true
    → (s : State) → fit Int (plain_value x s).word ≡ (plain_value x s).word
    → Sets (perform env (Some (expression (OfScalar (Integer Int)) line (step_plain (Arithmetic Add Int) fixity n)))) x
    (integer (next_word x s)) s
step_sets env line fixity n x hn s is =
    let same = bare_is n x (variable_is x (bare_name n) hn) in
    let s1 = at_work (s.work + nodes_of n) s in
    let old = plain_value n.variable s in
    let new = fit Int ((fit Int old.word + 1) % 2 ^ 64) in
    sets_same x _ same
    (ap (λ z. integer (fit Int (fit Int ((fit Int (plain_value z s).word + 1) % 2 ^ 64)))) same
    ∙ ap integer (fit_twice Int _) ∙ ap (λ w. integer (fit Int ((w + 1) % 2 ^ 64))) is)
    (record {
      work = s1.work;
      gives = ap (λ o. on (on (on (on (value_or_divide o line s1) (λ v. done (converted_to (Integer Int) v)))
          (λ v. set_plain n.variable v >> done (given fixity old v))) (λ v. give v)) (λ _. skip))
          (sum_is (fit Int old.word) 1);
    })

plain_kind : (sc : Scope) (x : ℕ) (kind : Kind) → PlainNames sc x kind → plain_type sc.variables x ≡ Some (Integer Int)
    → kind ≡ OfScalar (Integer Int)
plain_kind sc x Void h e = absurd h
plain_kind sc x (OfScalar k) h e = ap OfScalar (same_Some k (Integer Int) (sym h ∙ e))
plain_kind sc x (Structure n) h e = absurd h
plain_kind sc x (Array n) h e = absurd h

counted_sets : (env : Env) (sc : Scope) (c : Option Expression) (x : ℕ) → NamesIfAny sc c
    → plain_type sc.variables x ≡ Some (Integer Int) → counts_up x c ≡ true → (s : State)
    → fit Int (plain_value x s).word ≡ (plain_value x s).word
    → Sets (perform env c) x (integer (next_word x s)) s
counted_sets env sc (Some (expression kind line (step_plain (Arithmetic Add Int) fixity n))) x names typed h s is =
    let same = bare_is n x (variable_is x (bare_name n) h) in
    let k = plain_kind sc n.variable kind names.0 (ap (plain_type sc.variables) same ∙ typed) in
    subst (λ kind. Sets (perform env (Some (expression kind line (step_plain (Arithmetic Add Int) fixity n)))) x
    (integer (next_word x s)) s) (sym k) (step_sets env line fixity n x h s is)
counted_sets env sc (Some (expression kind line (assign_plain n (expression k l (binary Add a b))))) x names typed h s
    is =
    let v = both (is_variable x (bare_name n)) _ h in
    let w = both (is_variable x (int_variable a)) (is_one b) v.1 in
    sum_sets env kind k line l n a b x v.0 w.0 w.1 s
counted_sets env sc c x names typed h s is = absurd (cc)

-- what names give: the variable is an int, and so is the bound

variable_typed : (sc : Scope) (e : Expression) (x : ℕ) → int_variable e ≡ Some x → Names sc e
    → plain_type sc.variables x ≡ Some (Integer Int)
variable_typed sc (expression (OfScalar (Integer Int)) line (plain y)) x h names =
    ap (plain_type sc.variables) (sym (same_Some y x h)) ∙ names
variable_typed sc e x h names = absurd (cc)

constant_int : (env : Env) (sc : Context) → Calling sc env → (e : Expression) (w : ℕ) → Names sc.scope e
    → IsConstant e w → (s : State) → IsGood sc s → fit Int w ≡ w
constant_int env sc sure e w names c s good =
    let after = subst (After sc s (ValueIs (function_count sc) (kind_of e))) (constant_finds env e w s c.word).gives
    ((evaluate_sure sure e names).by s good tt) in
    (subst (λ k. IsOfKind (function_count sc) k (integer w)) c.kind after.1.word).1

record IsTested (sc : Context) (x bound : ℕ) : Type 0 where
  typed : plain_type sc.scope.variables x ≡ Some (Integer Int)
  fits : (s : State) → IsGood sc s → fit Int bound ≡ bound

condition_tested : (env : Env) (sc : Context) → Calling sc env → (c : Option Expression) (x w : ℕ)
    → NamesIfAny sc.scope c → compared_with c ≡ Some (record { variable = x; word = w }) → IsTested sc x w
condition_tested env sc sure (Some (expression kind line (binary Less a b))) x w names h =
    let q = set_by_is (int_variable a) (int_constant b) x w h in record {
      typed = variable_typed sc.scope a x q.0 names.0;
      fits = λ s good. constant_int env sc sure b w names.1 (constant_is b w q.1) s good;
    }
condition_tested env sc sure c x w names h = absurd (cc)

-- a `for` that counts

-- its first part and its step set the variable alone, to the start and to one more; its condition tests whether the
-- variable is below the bound, and its body keeps it
pub record Counts (env : Env) (sc : Context) (first : First) (condition step : Option Expression) (body : Statement)
    (q : CountedParts) : Type 0 where
  pub typed : plain_type sc.scope.variables q.variable ≡ Some (Integer Int)
  pub fits : (s : State) → IsGood sc s → fit Int q.bound ≡ q.bound
  pub sets : (s : State) → Sets (perform_first env first) q.variable (integer q.start) s
  pub tests : (s : State) → Tests (holds env condition) (is_less true (plain_value q.variable s).word q.bound) s
  pub steps : (s : State) → fit Int (plain_value q.variable s).word ≡ (plain_value q.variable s).word
      → Sets (perform env step) q.variable (integer (next_word q.variable s)) s
  pub keeps : Stays q.variable (execute env body)

-- what is known of the variable where the condition is tested, and where a turn begins

abbrev pub FromStart : Option CountedParts → State → Type 0
FromStart None s = Unit {0}
FromStart (Some q) s = is_less true (plain_value q.variable s).word q.start ≡ false

abbrev pub InRange : Option CountedParts → State → Type 0
InRange None s = Unit {0}
InRange (Some q) s =
    (is_less true (plain_value q.variable s).word q.start ≡ false)
    × (is_less true (plain_value q.variable s).word q.bound ≡ true)

-- what holds where the condition of a loop is tested, I, and where a turn begins, J
pub record Turning (sc : Context) (I J : State → Type 0) (condition : Run Bool) (body : Run Completion)
    (between : Run (Unit {0})) : Type 0 where
  pub begins : (s s1 : State) → IsGood sc s → I s → condition s ≡ Gives true s1 → J s1
  pub stays : (s s1 : State) (f : Completion) → J s → body (begun s) ≡ Gives f s1 → J s1
  pub ends : (s s1 : State) → IsGood sc s → J s → between s ≡ Gives tt s1 → I s1

-- nothing is to hold
pub turning_any : {sc : Context} {condition : Run Bool} {body : Run Completion} {between : Run (Unit {0})}
    → Turning sc (λ _. Unit {0}) (λ _. Unit {0}) condition body between
turning_any = record { begins = λ s s1 good i e. tt; stays = λ s s1 f j e. tt; ends = λ s s1 good j e. tt }

same_given : {A : Type 0} {a b : A} {s t : State} → Gives a s ≡ Gives b t → (a ≡ b) × (s ≡ t)
same_given e = (cc, cc)

less_itself : (w : ℕ) → is_less true w w ≡ false
less_itself w = le-ltb _ _ (omega arith)

module _ (env : Env) (sc : Context) (first : First) (condition step : Option Expression) (body : Statement)
    (q : CountedParts) (counts : Counts env sc first condition step body q) where
  -- what a plain variable is set to
  set_word : (s s1 : State) (r : Run (Unit {0})) (w : ℕ) → IsGood sc s → r s ≡ Gives tt s1
      → Sets r q.variable (integer w) s → (plain_value q.variable s1).word ≡ w
  set_word s s1 r w good e h =
      let made = good.typed.there q.variable (Integer Int) (good.typed.named q.variable (Integer Int) counts.typed) in
      let same = (same_given (sym e ∙ h.gives)).1 in
      ap (λ (z : State). (plain_value q.variable z).word) same
      ∙ ap (λ (v : Value). v.word) (get_or-set_same s.plain q.variable (integer w) (integer 0) made)

  begins_counted : (s s1 : State) → IsGood sc s → perform_first env first s ≡ Gives tt s1 → FromStart (Some q) s1
  begins_counted s s1 good e =
      ap (λ w. is_less true w q.start) (set_word s s1 (perform_first env first) q.start good e (counts.sets s))
      ∙ less_itself q.start

  holds_counted : (s s1 : State) → IsGood sc s → FromStart (Some q) s → holds env condition s ≡ Gives true s1
      → InRange (Some q) s1
  holds_counted s s1 good i e =
      let h = counts.tests s in
      let same = same_given (sym h.gives ∙ e) in
      subst (InRange (Some q)) same.1 (i, same.0)

  body_counted : (s s1 : State) (f : Completion) → InRange (Some q) s → execute env body (begun s) ≡ Gives f s1
      → InRange (Some q) s1
  body_counted s s1 f j e =
      let kept = subst (KeptBy q.variable (begun s)) e (counts.keeps.stays (begun s)) in
      subst (λ (v : Value). (is_less true v.word q.start ≡ false) × (is_less true v.word q.bound ≡ true))
      (sym kept.plain) j

  between_counted : (s s1 : State) → IsGood sc s → InRange (Some q) s → perform env step s ≡ Gives tt s1
      → FromStart (Some q) s1
  between_counted s s1 good j e =
      let is = (good.typed.value q.variable (Integer Int)
      (good.typed.named q.variable (Integer Int) counts.typed)).1 in
      ap (λ w. is_less true w q.start)
      (set_word s s1 (perform env step) (next_word q.variable s) good e (counts.steps s is))
      ∙ next_no_less (plain_value q.variable s).word q.start q.bound is (counts.fits s good) j.1 j.0

module _ (env : Env) (sc : Context) (sure : Calling sc env)
    (stays : (y : ℕ) (st : Statement) → statement_assigns y st ≡ false → Stays y (execute env st)) (first : First)
    (condition step : Option Expression) (body : Statement) (tested : NamesIfAny sc.scope condition)
    (stepped : NamesIfAny sc.scope step) where
  pub counts_by : (q : CountedParts) → counted_parts first condition step body ≡ Some q
      → Counts env sc first condition step body q
  counts_by q e =
      let p = has_parts first condition step body q e in
      let known = condition_tested env sc sure condition q.variable q.bound tested p.compares in record {
        typed = known.typed;
        fits = known.fits;
        sets = first_sets env first q.variable q.start p.sets;
        tests = condition_tests env condition q.variable q.bound p.compares;
        steps = counted_sets env sc.scope step q.variable stepped known.typed p.counts;
        keeps = stays q.variable body p.keeps;
      }

  -- where the first part was performed
  pub begins_by : (o : Option CountedParts) → counted_parts first condition step body ≡ o → (s s1 : State)
      → IsGood sc s → perform_first env first s ≡ Gives tt s1 → FromStart o s1
  begins_by None e s s1 good is = tt
  begins_by (Some q) e s s1 good is = begins_counted env sc first condition step body q (counts_by q e) s s1 good is

  pub turning_by : (o : Option CountedParts) → counted_parts first condition step body ≡ o
      → Turning sc (FromStart o) (InRange o) (holds env condition) (execute env body) (perform env step)
  turning_by None e = turning_any
  turning_by (Some q) e = record {
    begins = holds_counted env sc first condition step body q (counts_by q e);
    stays = body_counted env sc first condition step body q (counts_by q e);
    ends = between_counted env sc first condition step body q (counts_by q e);
  }

-- so what a turn is given fits
pub turn_fits : (g : Setting) (t : Tac) (u m : ℕ) (counted : Option ℕ) (o : Option CountedParts)
    (setting condition turn step : ℕ) → CountedIs (loops_of (function_in t u)) counted o setting condition turn step
    → (s : State) → InRange o s → (temps : Temps) (k : ℕ) → fits g t (Turn counted m) u temps (at_work k s) ≡ true
turn_fits g t u m None o setting condition turn step is s range temps k = refl
turn_fits g t u m (Some i) None setting condition turn step is s range temps k = absurd is
turn_fits g t u m (Some i) (Some q) setting condition turn step is s range temps k =
    ap (λ l. is_counted l (at_work k s)) is.2
    ∙ ap (λ b. not b && is_less true (plain_value q.variable s).word q.bound) range.0 ∙ range.1
