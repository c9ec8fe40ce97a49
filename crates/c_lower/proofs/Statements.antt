-- The code of statements does what they mean.
use Rattle.std.proofs.Common.{◌≡◌, ℕ, zero, suc, ◌+◌, ◌-◌, ◌*◌, ◌<◌, ◌≤◌, List, [], ◌∷◌, Option, Some, None, Bool}
use Rattle.std.proofs.Common.{true, false, refl, sym, ap, ◌∙◌, subst, arith}
use Rattle.std.specs.Prelude.{not, cond, if◌then◌else◌, ◌||◌, length, map}
use Rattle.addr_map.specs.Places.{MapSizes}
use Rattle.obj_memory.specs.declared.value.Value.{Value}
use Rattle.obj_memory.specs.Objects.{object_at, with_zeroed}
use Rattle.obj_memory.specs.Judgement.{narrowed}
use Rattle.c_tree.specs.declared.program.Variable.{Variable}
use Rattle.c_tree.specs.declared.expression.Kind.{Kind}
use Rattle.c_tree.specs.Kinds.{size_of_kind, is_kind, is_value}
use Rattle.c_tree.specs.Tree.{Expression, kind_of, line_of}
use Rattle.c_tree.specs.Statements.{Content, value_content, literal_content, Part, Initializer, of_plain, of_object}
use Rattle.c_tree.specs.Statements.{DeclaredVariable, First, nothing, first_expression, first_declaration, Statement}
use Rattle.c_tree.specs.Statements.{expression_statement, empty, declaration, block, if_then, if_else, while_do}
use Rattle.c_tree.specs.Statements.{do_while, for, switch, break, continue, return, Statements, no_statements}
use Rattle.c_tree.specs.Statements.{statements, SwitchItems, no_items, items}
use Rattle.c_tree.specs.Blocks.{block_variables, switch_variables, first_variables, opened}
use Rattle.c_tree.specs.Walk.{assigns}
use Rattle.c_tree.specs.Assigning.{statement_assigns}
use Rattle.c_tree.specs.Valid.{Scope, at_number, within, is_converted, is_valid, is_condition}
use Rattle.c_tree.specs.ValidProgram.{is_content, is_part, are_parts, is_initializer, are_declared, is_first}
use Rattle.c_tree.specs.ValidProgram.{is_condition_if, is_expression_if, is_declaration, Inside as Surrounding}
use Rattle.c_tree.specs.ValidProgram.{in_loop as inside_loop, in_switch as inside_switch, is_statement, are_statements}
use Rattle.c_tree.specs.ValidProgram.{are_items}
use Rattle.source_meaning.specs.State.{State, Rvalue, Home, InObject, Run, on, ◌>>=◌, ◌>>◌, read_state, tally, Env}
use Rattle.source_meaning.specs.Actions.{integer, is_zero, with_plain, home_pointer}
use Rattle.source_meaning.specs.Structures.{rvalue, write_rvalue}
use Rattle.source_meaning.specs.Expressions.{argument, evaluate}
use Rattle.source_meaning.specs.Initializers.{zero_home, store_bytes, store_content, store_parts, initialize}
use Rattle.source_meaning.specs.Initializers.{initialize_all}
use Rattle.source_meaning.specs.Statements.{Normal, Broken, Continued, Returned, in_order, holds, perform}
use Rattle.source_meaning.specs.Statements.{perform_first, LabeledRun, run_labeled, is_case_of, is_default, items_from}
use Rattle.source_meaning.specs.Statements.{labels_of, compared, or_default, run_items, execute, each_of, items_of}
use Rattle.source_meaning.specs.Acting.{at_work}
use Rattle.source_meaning.specs.Working.{HaveBytes}
use Rattle.source_meaning.specs.Staying.{Stays}
use Rattle.source_meaning.specs.Good.{Context, function_count, object_kind, IsGood, After, Sure, Any, ValueIs}
use Rattle.source_meaning.specs.Good.{CompletionIs, context_of, Calling, Inside}
use Rattle.source_meaning.proofs.Acting.{acts_then, acts_tally}
use Rattle.source_meaning.proofs.ActionsAct.{acts_write_rvalue, acts_store_bytes}
use Rattle.source_meaning.proofs.Holding.{named_less}
use Rattle.source_meaning.proofs.Naming.{ContentNames, PartsName, InitializerNames}
use Rattle.source_meaning.proofs.ValidNames.{both, three, five, names}
use Rattle.source_meaning.proofs.ValidProgramNames.{agree_same, initializer_names, first_names, condition_if}
use Rattle.source_meaning.proofs.ValidProgramNames.{expression_if, statement_names}
use Rattle.source_meaning.proofs.Sure.{sure_skip, sure_beside}
use Rattle.source_meaning.proofs.SureActions.{sure_zero_variable}
use Rattle.source_meaning.proofs.SureTree.{evaluate_sure, IsBase, stable_base, base_part, content_sure, initialize_sure}
use Rattle.source_meaning.proofs.SureTree.{home_sure, named_same}
use Rattle.source_meaning.proofs.SureFlow.{holds_sure, perform_sure, first_sure, execute_sure}
use Rattle.tac_ir.specs.declared.function.Tac.{Tac}
use Rattle.tac_ir.specs.Stage.{Temps, Frame, Stage, Stands, came}
use Rattle.tac_ir.specs.Accesses.{only_if, is_live_at, moved_from, is_home}
use Rattle.tac_ir.specs.Fitting.{is_written}
use Rattle.tac_ir.specs.Costs.{parts_of, handing, fourfold, heavier}
use Rattle.tac_ir.specs.Meaning.{act_at}
use Rattle.c_lower.specs.Placed.{Placed}
use Rattle.c_lower.specs.Values.{LowersExpression, LowersArgument}
use Rattle.c_lower.specs.Statements.{Exits, LowersContent, LowersParts, LowersInitializer, LowersDeclared}
use Rattle.c_lower.specs.Statements.{LowersCondition, LowersPart, LowersFirst, in_switch, has_default, LowersStatement}
use Rattle.c_lower.specs.Statements.{LowersStatements, LowersItems}
use Rattle.c_lower.proofs.Comes.{GoesLeaving, Goes, goes_from, goes_counted, goes_counted_as, goes_spare, goes_steps}
use Rattle.c_lower.proofs.Comes.{goes_step, goes_done, goes_at, goes_less, goes_after, goes_then, goes_sure}
use Rattle.c_lower.proofs.Comes.{goes_heavier}
use Rattle.c_lower.proofs.Comes.{goes_last_heavier}
use Rattle.c_lower.proofs.Credits.{left_by, three_left, converted_left, taken_left, store_cost}
use Rattle.c_lower.proofs.Accesses.{direct_is_live, value_moves}
use Rattle.c_lower.proofs.Temporaries.{placed, put_same, ValueIn}
use Rattle.c_lower.proofs.Values.{CallsRun, text_at, false_by, plain_fits, expression_runs, argument_at}
use Rattle.c_lower.proofs.Fitting.{written_fits, AreDeclared}
use Rattle.c_lower.specs.Counted.{counted_parts}
use Rattle.c_lower.proofs.Counting.{FromStart, InRange, turning_any, begins_by, turning_by, turn_fits}
use Rattle.c_lower.proofs.Opening.{Homed, Opens, EachOpens, ItemsOpen}
use Rattle.c_lower.proofs.Flow.{Completes, Anyhow, home_kept, AreNamed, named_opened, completes_less}
use Rattle.c_lower.proofs.Flow.{completes_frame, next_goes, test_goes, switch_left, choose_goes, labels_go}
use Rattle.c_lower.proofs.Flow.{default_goes, turns_run, turns_before_run, scoped_goes}

-- what a statement leaves for a turn that follows
abbrev pub left_of : (is_declaration : Bool) → ℕ
left_of true = 0
left_of false = 2

left_in_loop : (s : Statement) → not (is_declaration s) ≡ true → 2 ≤ left_of (is_declaration s)
left_in_loop s h = let same : left_of (is_declaration s)
    ≡ 2 = ap left_of (false_by (is_declaration s) h) in omega (arith, same)

some_kind : {k l : Kind} → Some k ≡ Some l → k ≡ l
some_kind e = cc

found_kind : (b : Bool) (k kind : Kind) → (if b then Some k else None) ≡ Some kind → k ≡ kind
found_kind true k kind e = some_kind e
found_kind false k kind e = cc

-- the kind of a variable that is an object
kind_at : (vs : List Variable) (x : ℕ) (kind : Kind) → object_kind vs x ≡ Some kind → (at_number vs x).kind ≡ kind
kind_at [] x kind e = cc
kind_at (v ∷ vs) zero kind e = found_kind v.is_object v.kind kind e
kind_at (v ∷ vs) (suc x) kind e = kind_at vs x kind e

module _ (t : Tac) (n : ℕ) (env : Env) (sc : Context) (sure : Calling sc env)
    (calls : CallsRun env.setting t env.limit sc env.call n)
    (stays : (y : ℕ) (e : Expression) → assigns y e ≡ false → Stays y (evaluate env e)) (u : ℕ) (frames : List Frame)
    (literals : List Bool) (vars : List Variable) (declared : AreDeclared t env.setting sc u)
    (sized : HaveBytes sc.scope.variables) where
  value_at : (e : Expression) (n0 n1 : ℕ) (temps : Temps) (k : ℕ) (s : State)
      → LowersExpression (placed t u literals vars) e 0 n0 n1 → is_valid sc.scope e ≡ true → IsGood sc s
      → env.limit < n + s.turns
      → Goes env.setting t env.limit 0 3 u frames (λ v. n1) (ValueIn 0 temps) (Stands u n0 temps frames (at_work k s)) k
      s (evaluate env e s)
  value_at e n0 n1 temps k s tr ok good lt = goes_less 3 (three_left (kind_of e) (is_converted e))
      (expression_runs t n env sc sure calls stays u frames literals vars declared e 0 n0 n1 temps k s tr ok good lt)

  pub result_at : (e : Expression) (n0 n1 : ℕ) (temps : Temps) (k : ℕ) (s : State)
      → LowersArgument (placed t u literals vars) e 0 n0 n1 → is_valid sc.scope e ≡ true → IsGood sc s
      → env.limit < n + s.turns
      → GoesLeaving env.setting t env.limit 0 (λ w. taken_left (kind_of e) + handing w) u frames (λ v. n1)
      (ValueIn 0 temps) (Stands u n0 temps frames (at_work k s)) k s
      (argument (kind_of e) (line_of e) (evaluate env e) s)
  result_at e n0 n1 temps k s tr ok good lt = argument_at t n env sc sure calls stays u frames literals vars declared e
      0 n0 tr.0 n1 temps
      k s tr.1 tr.2 ok good lt

  pub condition_runs : (e : Option Expression) (n0 x y : ℕ) (temps : Temps) (k : ℕ) (s : State)
      → LowersCondition (placed t u literals vars) e n0 x y → is_condition_if sc.scope e ≡ true → IsGood sc s
      → env.limit < n + s.turns
      → Goes env.setting t env.limit 0 0 u frames (λ b. cond b x y) Anyhow (Stands u n0 temps frames (at_work k s)) k s
      (holds env e s)
  condition_runs None n0 x y temps k s tr ok good lt = goes_at tr (goes_done {a = true} (omega arith) refl refl tt)
  condition_runs (Some e) n0 x y temps k s tr ok good lt =
      goes_then (value_at e n0 tr.0 temps k s tr.1 (both (is_valid sc.scope e) _ ok).0 good lt)
      (λ v s1 t1 k1 p1 le1 is1. goes_spare 2 (omega arith) (test_goes (is_zero v.value) tr.0 x y t1 k1 s1 tr.2
      (ap (λ (z : Rvalue). is_zero z.value) p1.value)))

  pub part_runs : (e : Option Expression) (n0 n1 : ℕ) (temps : Temps) (k : ℕ) (s : State)
      → LowersPart (placed t u literals vars) e n0 n1 → is_expression_if sc.scope e ≡ true → IsGood sc s
      → env.limit < n + s.turns
      → Goes env.setting t env.limit 0 0 u frames (λ v. n1) Anyhow (Stands u n0 temps frames (at_work k s)) k s
      (perform env e s)
  part_runs None n0 n1 temps k s tr ok good lt = goes_at tr (goes_done (omega arith) refl refl tt)
  part_runs (Some e) n0 n1 temps k s tr ok good lt =
      goes_then (value_at e n0 n1 temps k s tr ok good lt)
      (λ v s1 t1 k1 p1 le1 is1. goes_done (omega arith) refl refl tt)

  -- a part of the object of variable x, to whose first byte p points
  content_runs : (x : ℕ) (kind : Kind) (p : Value) (whole offset : ℕ) (content : Content) (n0 n1 : ℕ) (temps : Temps)
      (k : ℕ) (s : State) → LowersContent (placed t u literals vars) x offset content n0 n1
      → is_content sc.scope content ≡ true
      → ContentNames sc.scope whole offset content → IsGood sc s → IsBase sure p whole s.objects
      → object_kind sc.scope.variables x ≡ Some kind → home_pointer x s ≡ p → env.limit < n + s.turns
      → Goes env.setting t env.limit 0 0 u frames (λ v. n1) Anyhow (Stands u n0 temps frames (at_work k s)) k s
      (store_content env p offset content s)
  content_runs x kind p whole offset (value_content e) n0 n1 temps k s tr ok nm good base has hp lt =
      goes_sure _ ((sure_beside (stable_base sure p whole) (evaluate_sure sure e nm.0)).by _ good base)
      (goes_less (left_by (kind_of e) true) (converted_left (kind_of e) (is_converted e))
      (expression_runs t n env sc sure calls stays u frames literals vars declared e 0 n0 tr.0 temps k s tr.1
      (both (is_valid sc.scope e) _ ok).0 good lt))
      (λ v s1 t1 k1 p1 le1 is1 lv1 w1.
      let ek = kind_of e in
      let size = size_of_kind ek in
      let q = narrowed offset size p in
      let hp1 : home_pointer x s1 ≡ p = home_kept x kind s s1 (good.homes x kind has) lv1.frame lv1.lives ∙ hp in
      let w = 1 + parts_of ek in
      let F : Rvalue → State → Stage = λ _ z. Stands u n1 t1 frames z in
      let z = at_work (k1 + w) s1 in
      let part = base_part sure p whole offset size nm.1 s1 lv1.good w1.0 in
      goes_spare (w + 0) (omega (arith, store_cost ek))
      (goes_steps w 0 tr.2 refl
      (ap (is_written ek) p1.value ∙ written_fits (function_count sc) declared.few ek v s1.objects w1.1)
      (ap (λ h. only_if (is_live_at size (narrowed offset size h) s1.objects)
      (moved_from ek (t1 0) s1.objects
      (came (heavier (write_rvalue ek false (narrowed offset size h) (line_of e) (t1 0)) z) F))) hp1
      ∙ ap (λ y. only_if (is_live_at size q s1.objects)
      (moved_from ek y s1.objects (came (heavier (write_rvalue ek false q (line_of e) y) z) F))) p1.value
      ∙ ap (λ b. only_if b (moved_from ek v s1.objects (came (heavier (write_rvalue ek false q (line_of e) v) z) F)))
      (direct_is_live s1.objects q size part.1.direct)
      ∙ value_moves (function_count sc) ek v s1.objects w1.1 _)
      (goes_heavier F (acts_write_rvalue ek false q (line_of e) v)
      (λ y s2 k2 e2 is2. goes_done (omega arith) refl refl tt))))
  content_runs x kind p whole offset (literal_content bytes) n0 n1 temps k s tr ok nm good base has hp lt =
      let m = length bytes in
      let s0 : State = record s { work = s.work + 1 } in
      let F : Unit {0} → State → Stage = λ _ z. Stands u n1 temps frames z in
      let z = at_work (k + 1) s0 in
      let counted : s.work + 1 + m ≡ s.work + (1 + m) = omega arith in
      subst (λ (work : ℕ). Goes env.setting t env.limit 0 0 u frames (λ v. n1) Anyhow
      (Stands u n0 temps frames (at_work k s)) k s (store_bytes p offset bytes (record s { work = work }))) counted
      (goes_counted (goes_step 7 tr.2 refl refl
      (ap (λ b. only_if (is_live_at (offset + length b) (home_pointer x s) s.objects)
      (came (heavier (tally (length b) >> store_bytes (home_pointer x s) offset b) z) F)) (text_at t tr.0 bytes tr.1)
      ∙ ap (λ h. only_if (is_live_at (offset + m) h s.objects)
      (came (heavier (tally m >> store_bytes h offset bytes) z) F)) hp
      ∙ ap (λ b. only_if b (came (heavier (tally m >> store_bytes p offset bytes) z) F))
      (direct_is_live s.objects p (offset + m) (named_less s.objects p whole (offset + m) nm base.1).direct))
      (goes_last_heavier F (acts_then (acts_tally m) (acts_store_bytes p offset bytes))
      (λ _ s2 k2 e2 is2. goes_done (omega arith) refl refl tt))))

  parts_run : (x : ℕ) (kind : Kind) (p : Value) (whole : ℕ) (parts : List Part) (n0 n1 : ℕ) (temps : Temps) (k : ℕ)
      (s : State) → LowersParts (placed t u literals vars) x parts n0 n1 → are_parts sc.scope whole parts ≡ true
      → PartsName sc.scope whole parts → IsGood sc s → IsBase sure p whole s.objects
      → object_kind sc.scope.variables x ≡ Some kind → home_pointer x s ≡ p → env.limit < n + s.turns
      → Goes env.setting t env.limit 0 0 u frames (λ v. n1) Anyhow (Stands u n0 temps frames (at_work k s)) k s
      (store_parts env p parts s)
  parts_run x kind p whole [] n0 n1 temps k s tr ok nm good base has hp lt = goes_at tr
      (goes_done (omega arith) refl refl tt)
  parts_run x kind p whole (q ∷ qs) n0 n1 temps k s tr ok nm good base has hp lt =
      let v = both (is_part sc.scope whole q) (are_parts sc.scope whole qs) ok in
      goes_sure _ ((content_sure sure p whole q.offset q.content nm.0).by s good base)
      (content_runs x kind p whole q.offset q.content n0 tr.0 temps k s tr.1
      (both (is_content sc.scope q.content) _ v.0).0 nm.0 good base has hp lt) (λ z s1 t1 k1 p1 le1 is1 lv1 w1.
      parts_run x kind p whole qs tr.0 n1 t1 k1 s1 tr.2 v.1 nm.1 lv1.good w1 has
      (home_kept x kind s s1 (good.homes x kind has) lv1.frame lv1.lives ∙ hp) (omega (arith, le1, lt)))

  object_runs : (x : ℕ) (parts : List Part) (n0 n1 : ℕ) (temps : Temps) (k : ℕ) (s : State)
      → LowersInitializer (placed t u literals vars) x (Some (of_object parts)) n0 n1 → (kind : Kind)
      → object_kind sc.scope.variables x ≡ Some kind → are_parts sc.scope (size_of_kind kind) parts ≡ true
      → PartsName sc.scope (size_of_kind kind) parts → IsGood sc s → env.limit < n + s.turns
      → Goes env.setting t env.limit 0 0 u frames (λ v. n1) Anyhow (Stands u n0 temps frames (at_work k s)) k s
      (initialize env x (Some (of_object parts)) s)
  object_runs x parts n0 n1 temps k s tr kind has ok nm good lt =
      let h = good.homes x kind has in
      let size = (object_at s.objects h.object).size in
      let s1 : State = record s { work = s.work + size; objects = with_zeroed h.object s.objects } in
      let rest : Run (Unit {0}) = read_state (home_pointer x) >>= (λ p. store_parts env p parts) in
      let F : Unit {0} → State → Stage = λ _ z. Stands u tr.0 temps frames z in
      let z = at_work (k + 3) s in
      let k1 = k + 3 + size + 3 * (k + 3 + size - (k + 3)) in
      let after = subst (λ (home : Home). After sc s (λ _. Any) (zero_home home s)) h.home
      ((sure_zero_variable x).by s good tt) in
      let good1 : IsGood sc s1 = after.0.good in
      let l = home_sure x kind (named_same (object_kind sc.scope.variables x) kind has) s1 good1 in
      let pay = sized x kind has in
      let same = h.held.size in
      subst (λ (home : Home). Goes env.setting t env.limit 0 0 u frames (λ v. n1) Anyhow
      (Stands u n0 temps frames (at_work k s)) k s (on (zero_home home s) (λ _. rest))) (sym h.home)
      (goes_from {d = 0} {k1 = k1} {s1 = s1} 1
      (ap (λ j. act_at env.setting t j u temps frames (at_work k s)) tr.1
      ∙ ap (λ (home : Home). only_if (is_home home s.objects) (came (fourfold (k + 3) (zero_home home z)) F)) h.home
      ∙ ap (λ b. only_if b (came (fourfold (k + 3) (zero_home (InObject h.object) z)) F)) h.held.live)
      (omega arith) (omega (arith, pay, same))
      (parts_run x kind (home_pointer x s1) (size_of_kind kind) parts tr.0 n1 temps k1 s1 tr.2 ok nm good1 l
      has refl lt))

  initializer_runs : (x : ℕ) (i : Option Initializer) (n0 n1 : ℕ) (temps : Temps) (k : ℕ) (s : State)
      → LowersInitializer (placed t u literals vars) x i n0 n1 → is_initializer sc.scope x i ≡ true
      → InitializerNames sc.scope x i → IsGood sc s → env.limit < n + s.turns
      → Goes env.setting t env.limit 0 0 u frames (λ v. n1) Anyhow (Stands u n0 temps frames (at_work k s)) k s
      (initialize env x i s)
  initializer_runs x None n0 n1 temps k s tr ok nm good lt = goes_at tr (goes_done (omega arith) refl refl tt)
  initializer_runs x (Some (of_plain e)) n0 n1 temps k s tr ok nm good lt =
      let valid = (both (is_valid sc.scope e) _ ok).0 in
      goes_sure _ ((evaluate_sure sure e (names (agree_same sc.scope) e valid)).by s good tt)
      (value_at e n0 tr.0 temps k s tr.1 valid good lt)
      (λ v s1 t1 k1 p1 le1 is1 lv1 w1.
      goes_step 2 tr.2 refl
      (plain_fits t n env sc sure calls stays u frames literals vars declared x (kind_of e) nm.1 v s1 lv1.good w1 (t1 0)
      p1.value)
      (ap (λ (w : Rvalue). Stands u n1 t1 frames (at_work (k1 + 1) (with_plain x w.value s1))) p1.value)
      (goes_done (omega arith) refl refl tt))
  initializer_runs x (Some (of_object parts)) n0 n1 temps k s tr ok nm good lt =
      object_runs x parts n0 n1 temps k s tr nm.0 nm.1 (parts_valid x parts nm.0 nm.1 ok) nm.2 good lt
    where
      parts_valid : (x : ℕ) (parts : List Part) (kind : Kind) → object_kind sc.scope.variables x ≡ Some kind
          → is_initializer sc.scope x (Some (of_object parts)) ≡ true
          → are_parts sc.scope (size_of_kind kind) parts ≡ true
      parts_valid x parts kind has ok =
          let v = both _ (are_parts sc.scope (size_of_kind (at_number sc.scope.variables x).kind) parts) ok in
          subst (λ k. are_parts sc.scope (size_of_kind k) parts ≡ true) (kind_at sc.scope.variables x kind has) v.1

  declared_run : (ds : List DeclaredVariable) (n0 n1 : ℕ) (temps : Temps) (k : ℕ) (s : State)
      → LowersDeclared (placed t u literals vars) ds n0 n1 → are_declared sc.scope ds ≡ true → IsGood sc s
      → env.limit < n + s.turns
      → Goes env.setting t env.limit 0 0 u frames (λ v. n1) Anyhow (Stands u n0 temps frames (at_work k s)) k s
      (initialize_all env ds s)
  declared_run [] n0 n1 temps k s tr ok good lt = goes_at tr (goes_done (omega arith) refl refl tt)
  declared_run (d ∷ ds) n0 n1 temps k s tr ok good lt =
      let v = both (is_initializer sc.scope d.variable d.initializer) (are_declared sc.scope ds) ok in
      let nm = initializer_names (agree_same sc.scope) d.variable d.initializer v.0 in
      goes_sure _ ((initialize_sure sure d.variable d.initializer nm).by _ good tt)
      (initializer_runs d.variable d.initializer n0 tr.0 temps k s tr.1 v.0 nm good lt)
      (λ z s1 t1 k1 p1 le1 is1 lv1 w1.
      declared_run ds tr.0 n1 t1 k1 s1 tr.2 v.1 lv1.good (omega (arith, le1, lt)))

  pub first_runs : (f : First) (n0 n1 : ℕ) (temps : Temps) (k : ℕ) (s : State) → LowersFirst
      (placed t u literals vars) f n0 n1
      → is_first sc.scope f ≡ true → IsGood sc s → env.limit < n + s.turns
      → Goes env.setting t env.limit 0 0 u frames (λ v. n1) Anyhow (Stands u n0 temps frames (at_work k s)) k s
      (perform_first env f s)
  first_runs nothing n0 n1 temps k s tr ok good lt = goes_at tr (goes_done (omega arith) refl refl tt)
  first_runs (first_expression e) n0 n1 temps k s tr ok good lt = part_runs (Some e) n0 n1 temps k s tr ok good lt
  first_runs (first_declaration ds) n0 n1 temps k s tr ok good lt = declared_run ds n0 n1 temps k s tr ok good lt

module _ (t : Tac) (n : ℕ) (env : Env) (deep : env.depth ≡ suc n) (base : Scope) (sizes : MapSizes)
    (inside : Inside base sizes env)
    (callers : (vs : List Variable)
    → CallsRun env.setting t env.limit (context_of base sizes env.variables vs) env.call n)
    (stays : (y : ℕ) (e : Expression) → assigns y e ≡ false → Stays y (evaluate env e))
    (stays_in : (y : ℕ) (st : Statement) → statement_assigns y st ≡ false → Stays y (execute env st)) (u : ℕ)
    (literals : List Bool)
    (tables : AreDeclared t env.setting (context_of base sizes env.variables env.variables) u)
    (all_sized : HaveBytes env.variables) where
  -- where some variables can be named
  abbrev at : List Variable → Context
  at vs = context_of base sizes env.variables vs

  abbrev here : Placed
  here = placed t u literals env.variables

  -- some of the variables can be named, as they are declared
  declared_at : (vs : List Variable) → AreNamed env.variables vs → AreDeclared t env.setting (at vs) u
  declared_at vs named = record {
    few = tables.few;
    functions = tables.functions;
    statics = tables.statics;
    calls = tables.calls;
    types = tables.types;
    calls_take = tables.calls_take;
    types_take = tables.types_take;
    variables = tables.variables;
    objects = named;
  }

  sized_at : (vs : List Variable) → AreNamed env.variables vs → HaveBytes vs
  sized_at vs named x kind e = all_sized x kind (named x kind e)

  -- a run that leaves the homes as they were
  homed_on : {vs : List Variable} {old new : List Home} → new ≡ old → Homed env.variables vs old
      → Homed env.variables vs new
  homed_on {vs = vs} e homed = subst (Homed env.variables vs) (sym e) homed

  condition_at : (vs : List Variable) (frames : List Frame) (e : Option Expression) (n0 x y : ℕ) (temps : Temps) (k : ℕ)
      (s : State) → AreNamed env.variables vs → LowersCondition here e n0 x y → is_condition_if (at vs).scope e ≡ true
      → IsGood (at vs) s → env.limit < n + s.turns
      → Goes env.setting t env.limit 0 0 u frames (λ b. cond b x y) Anyhow (Stands u n0 temps frames (at_work k s)) k s
      (holds env e s)
  condition_at vs frames e n0 x y temps k s named tr ok good lt = condition_runs t n env (at vs) (inside.calling vs)
      (callers vs) stays u frames literals env.variables (declared_at vs named)
      (sized_at vs named) e n0 x y temps k s tr ok good lt

  value_of : (vs : List Variable) (frames : List Frame) (e : Expression) (n0 n1 : ℕ) (temps : Temps) (k : ℕ) (s : State)
      → AreNamed env.variables vs → LowersExpression here e 0 n0 n1 → is_valid (at vs).scope e ≡ true → IsGood (at vs) s
      → env.limit < n + s.turns
      → Goes env.setting t env.limit 0 3 u frames (λ v. n1) (ValueIn 0 temps) (Stands u n0 temps frames (at_work k s)) k
      s (evaluate env e s)
  value_of vs frames e n0 n1 temps k s named tr ok good lt = value_at t n env (at vs) (inside.calling vs) (callers vs)
      stays u frames literals env.variables (declared_at vs named) (sized_at vs named) e n0 n1 temps k s tr ok good lt

  after_value : (vs : List Variable) (e : Expression) → is_valid (at vs).scope e ≡ true → (s : State) → IsGood (at vs) s
      → After (at vs) s (ValueIs (length base.functions) (kind_of e)) (evaluate env e s)
  after_value vs e ok s good = (evaluate_sure (inside.calling vs) e (names (agree_same (at vs).scope) e ok)).by s
      good tt

  holds_at : (vs : List Variable) (e : Option Expression) → is_condition_if (at vs).scope e ≡ true
      → Sure (at vs) Any (holds env e) (λ _. Any)
  holds_at vs e ok = holds_sure (inside.calling vs) e (condition_if (agree_same (at vs).scope) e ok)

  executed : (vs : List Variable) (within : Surrounding) (st : Statement) → is_statement (at vs).scope within st ≡ true
      → Sure (at vs) Any (execute env st) (CompletionIs (length base.functions) base.result)
  executed vs within st ok = execute_sure inside vs st (statement_names (agree_same (at vs).scope) within st ok)

  mutual
    statement_runs : (vs : List Variable) (frames : List Frame) (within : Surrounding) (st : Statement) (n0 : ℕ)
        (x : Exits) (temps : Temps) (k : ℕ) (s : State) → AreNamed env.variables vs → Opens env.variables vs st
        → Homed env.variables vs s.frame → LowersStatement here st n0 x
        → is_statement (at vs).scope within st ≡ true → IsGood (at vs) s → env.limit < n + s.turns
        → Completes env.setting t env.limit 0 (left_of (is_declaration st)) u frames x
        (Stands u n0 temps frames (at_work k s)) k s (execute env st s)
    statement_runs vs frames within (expression_statement e) n0 x temps k s named opens homed tr ok good lt =
        goes_counted (goes_then (value_of vs frames e n0 x.next temps k _ named tr ok good lt)
        (λ v s1 t1 k1 p1 le1 is1. goes_done {a = Normal} (omega arith) refl refl tt))
    statement_runs vs frames within empty n0 x temps k s named opens homed tr ok good lt = goes_counted
        (goes_at tr (goes_done {a = Normal} (omega arith) refl refl tt))
    statement_runs vs frames within (declaration ds) n0 x temps k s named opens homed tr ok good lt =
        goes_then (declared_run t n env (at vs) (inside.calling vs) (callers vs) stays u frames literals env.variables
        (declared_at vs named) (sized_at vs named) ds
        n0 x.next temps k s tr ok good lt)
        (λ v s1 t1 k1 p1 le1 is1. goes_done {a = Normal} (omega arith) refl refl tt)
    statement_runs vs frames within (block line body) n0 x temps k s named opens homed tr ok good lt =
        let numbers = block_variables body in
        goes_counted (completes_less {b = 6} 2 (omega arith)
        (scoped_goes env.setting t env.limit u frames base sizes inside.at inside.mapped literals env.variables
        all_sized tables.variables vs
        numbers 1 6 line n0 tr.0 tr.1 x temps k _ _ tr.2.0 tr.2.1 tr.2.2 tr.2.3 good opens.0 homed
        (λ frames k1 s1 good1 homed1 e1.
        completes_frame 8 0 0 (statements_run (opened numbers 0 env.variables vs) frames within body tr.0 tr.1 temps
        k1 s1 (named_opened numbers 0 env.variables vs named) opens.1 homed1 tr.3 ok good1 (omega (arith, e1, lt))))))
    statement_runs vs frames within (if_then e st) n0 x temps k s named opens homed tr ok good lt =
        let v = three (is_condition (at vs).scope e) (is_statement (at vs).scope within st) _ ok in
        goes_counted
        (goes_sure _ ((holds_at vs (Some e) v.0).by _ good tt)
        (condition_at vs frames (Some e) n0 tr.0 x.next temps k _ named tr.1 v.0 good lt)
        (λ q s1 t1 k1 p1 le1 is1 lv1 w1.
        choose_goes q tr.0 x.next x t1 k1 s1 _ _
        (completes_less {b = 8} 2 (omega arith)
        (completes_frame 8 0 0 (completes_less 0 (omega arith)
        (statement_runs vs frames within st tr.0 x t1 k1 s1 named opens (homed_on lv1.frame homed) tr.2 v.1 lv1.good
        (omega (arith, le1, lt))))))
        (goes_done {a = Normal} (omega arith) refl refl tt)))
    statement_runs vs frames within (if_else e st other) n0 x temps k s named opens homed tr ok good lt =
        let v = five (is_condition (at vs).scope e) (is_statement (at vs).scope within st) _
        (is_statement (at vs).scope within other) _ ok in
        goes_counted
        (goes_sure _ ((holds_at vs (Some e) v.0).by _ good tt)
        (condition_at vs frames (Some e) n0 tr.0 tr.1 temps k _ named tr.2 v.0 good lt)
        (λ q s1 t1 k1 p1 le1 is1 lv1 w1.
        choose_goes q tr.0 tr.1 x t1 k1 s1 _ _
        (completes_less {b = 8} 2 (omega arith)
        (completes_frame 8 0 0 (completes_less 0 (omega arith)
        (statement_runs vs frames within st tr.0 x t1 k1 s1 named opens.0 (homed_on lv1.frame homed) tr.3 v.1 lv1.good
        (omega (arith, le1, lt))))))
        (completes_less {b = 8} 2 (omega arith)
        (completes_frame 8 0 0 (completes_less 0 (omega arith)
        (statement_runs vs frames within other tr.1 x t1 k1 s1 named opens.1
        (homed_on lv1.frame homed) tr.4 v.3 lv1.good
        (omega (arith, le1, lt))))))))
    statement_runs vs frames within (while_do e st) n0 x temps k s named opens homed tr ok good lt =
        let v = three (is_condition (at vs).scope e) (is_statement (at vs).scope inside_loop st) _ ok in
        goes_counted
        (goes_spare 3 (omega arith)
        (turns_run env.setting t env.limit n u frames (at vs)
        (length base.functions) base.result n0 tr.0 tr.1 n0 None s.frame x
        _ _ _ _ _ turning_any (holds_at vs (Some e) v.0) (executed vs inside_loop st v.1) sure_skip
        (λ t k s w l. condition_at vs frames (Some e) n0 tr.0 x.next t k s named tr.2 v.0 w l)
        (λ t k s w l. goes_done {a = tt} (omega arith) refl refl tt)
        (λ t k s w e l. completes_less 2 (left_in_loop st v.2)
        (statement_runs vs frames inside_loop st tr.1 _ t k s named opens (homed_on e homed) tr.4 v.1 w l))
        tr.3 (λ s w temps k. refl) env.depth (omega (arith, deep)) temps k _ good tt refl (omega (arith, lt, deep)) lt))
    statement_runs vs frames within (do_while st e) n0 x temps k s named opens homed tr ok good lt =
        let v = three (is_statement (at vs).scope inside_loop st) _ (is_condition (at vs).scope e) ok in
        goes_counted
        (goes_spare 3 (omega arith)
        (turns_before_run env.setting t env.limit n u frames (at vs) (length base.functions) base.result n0 tr.0 tr.1
        None s.frame x _ _ (holds_at vs (Some e) v.2) (executed vs inside_loop st v.0)
        (λ t k s w l. condition_at vs frames (Some e) tr.1 n0 x.next t k s named tr.4 v.2 w l)
        (λ t k s w e l. completes_less 2 (left_in_loop st v.1)
        (statement_runs vs frames inside_loop st tr.0 _ t k s named opens (homed_on e homed) tr.3 v.0 w l))
        tr.2 (λ temps k s. refl) env.depth (omega (arith, deep)) temps k _ good refl (omega (arith, lt, deep)) lt))
    statement_runs vs frames within (for line first condition step st) n0 x temps k s named opens homed tr ok good lt =
        let numbers = first_variables first in
        let d = opened numbers 0 env.variables vs in
        let more = named_opened numbers 0 env.variables vs named in
        let v = five (is_first (at d).scope first) (is_condition_if (at d).scope condition)
        (is_expression_if (at d).scope step) (is_statement (at d).scope inside_loop st) _ ok in
        let parts = counted_parts first condition step st in
        let tested = condition_if (agree_same (at d).scope) condition v.1 in
        let stepped = expression_if (agree_same (at d).scope) step v.2 in
        goes_counted (completes_less {b = 5} 2 (omega arith)
        (scoped_goes env.setting t env.limit u frames base sizes inside.at inside.mapped literals env.variables
        all_sized tables.variables vs
        numbers 1 5 line n0 tr.0 tr.5 x temps k _ _ tr.7.0 tr.7.1 tr.7.2 tr.7.3 good opens.0 homed
        (λ frames k0 s0 good0 homed0 e0.
        goes_sure _ ((first_sure (inside.calling d) first (first_names (agree_same (at d).scope) first v.0)).by s0
        good0 tt)
        (first_runs t n env (at d) (inside.calling d) (callers d) stays u frames literals env.variables
        (declared_at d more) (sized_at d more) first tr.0 tr.1
        temps k0 s0 tr.8 v.0 good0 (omega (arith, e0, lt))) (λ z s1 t1 k1 p1 le1 is1 lv1 w1.
        completes_frame 5 3 2
        (turns_run env.setting t env.limit n u frames (at d) (length base.functions) base.result tr.1 tr.2 tr.3 tr.4
        tr.6 s1.frame tr.5 _ _ _ (FromStart parts) (InRange parts)
        (turning_by env (at d) (inside.calling d) stays_in first condition step st tested stepped parts refl)
        (holds_at d condition v.1) (executed d inside_loop st v.3)
        (perform_sure (inside.calling d) step stepped)
        (λ t k s w l. condition_at d frames condition tr.1 tr.2 tr.5.next t k s more tr.9 v.1 w l)
        (λ temps k s w l. part_runs t n env (at d) (inside.calling d) (callers d) stays u frames literals env.variables
        (declared_at d more) (sized_at d more) step
        tr.4 tr.1 temps k s tr.12 v.2 w l)
        (λ t k s w e l. completes_less 2 (left_in_loop st v.4)
        (statement_runs d frames inside_loop st tr.3 _ t k s more opens.1 (homed_on (e ∙ lv1.frame) homed0) tr.13 v.3 w
        l))
        tr.10 (turn_fits env.setting t u tr.3 tr.6 parts tr.0 tr.1 tr.2 tr.4 tr.11) env.depth (omega
        (arith, deep)) t1 k1
        s1 lv1.good
        (begins_by env (at d) (inside.calling d) stays_in first condition step st tested stepped parts refl s0 s1 good0
        is1)
        refl (omega (arith, le1, e0, lt, deep))
        (omega (arith, le1, e0, lt)))))))
    statement_runs vs frames within (switch e line is) n0 x temps k s named opens homed tr ok good lt =
        let numbers = switch_variables is in
        let d = opened numbers 0 env.variables vs in
        let more = named_opened numbers 0 env.variables vs named in
        let v = five (is_valid (at vs).scope e) _ _ _ (are_items (at d).scope (inside_switch within) is) ok in
        goes_counted
        (goes_sure _ (after_value vs e v.0 _ good) (value_of vs frames e n0 tr.0 temps k _ named tr.5 v.0 good lt)
        (λ w s1 t1 k1 p1 le1 is1 lv1 w1.
        let all = items_of env is in
        goes_counted (completes_less {b = 6} 2 (omega arith)
        (scoped_goes env.setting t env.limit u frames base sizes inside.at inside.mapped literals env.variables
        all_sized tables.variables vs
        numbers 12 6 line tr.0 tr.1 tr.4 x t1 k1 _ _ tr.6.0 tr.6.1 tr.6.2 tr.6.3 lv1.good opens.0
        (homed_on lv1.frame homed) (λ frames k2 s2 good2 homed2 e2.
        goes_counted_as (compared w.value.word (labels_of all)) (16 + compared w.value.word (labels_of all))
        (omega arith)
        (goes_after
        (cases_run d frames (inside_switch within) is tr.1 tr.2 tr.3
        (in_switch tr.4) all w t1 k2 _ more opens.1 homed2 tr.8 v.4 good2
        p1.value (omega (arith, le1, e2, lt))
        (λ k. default_run d frames (inside_switch within) is tr.1 tr.2 tr.3
        (in_switch tr.4) t1 k _ more opens.1 homed2 tr.8 v.4 good2
        (omega (arith, le1, e2, lt)) tr.7))
        (λ f s3 t3 k3 p3 le3 is3. switch_left f tr.4 t3 k3 s3 p3)))))))
    statement_runs vs frames within break n0 x temps k s named opens homed tr ok good lt = goes_counted
        (goes_at tr (goes_done {a = Broken} (omega arith) refl refl tt))
    statement_runs vs frames within continue n0 x temps k s named opens homed tr ok good lt = goes_counted
        (goes_at tr (goes_done {a = Continued} (omega arith) refl refl tt))
    statement_runs vs frames within (return None) n0 x temps k s named opens homed tr ok good lt =
        goes_counted (goes_step 7 tr refl refl refl
        (goes_done {a = Returned (rvalue (integer 0))} (omega arith) refl refl
        (put_same temps 0 (rvalue (integer 0)))))
    statement_runs vs frames within (return (Some e)) n0 x temps k s named opens homed tr ok good lt =
        let v = three (is_valid (at vs).scope e) (is_kind (kind_of e) base.result) (is_value (kind_of e)) ok in
        goes_counted (goes_then
        (result_at t n env (at vs) (inside.calling vs) (callers vs) stays u frames literals env.variables
        (declared_at vs named) (sized_at vs named) e n0
        x.returns temps k _ tr v.0 good lt)
        (λ v s1 t1 k1 p1 le1 is1. goes_done {a = Returned v} (omega arith) refl refl p1.value))

    pub statements_run : (vs : List Variable) (frames : List Frame) (within : Surrounding) (ss : Statements) (n0 : ℕ)
        (x : Exits) (temps : Temps) (k : ℕ) (s : State) → AreNamed env.variables vs → EachOpens env.variables vs ss
        → Homed env.variables vs s.frame → LowersStatements here ss n0 x
        → are_statements (at vs).scope within ss ≡ true → IsGood (at vs) s → env.limit < n + s.turns
        → Completes env.setting t env.limit 0 0 u frames x (Stands u n0 temps frames (at_work k s)) k s
        (in_order (each_of env ss) s)
    statements_run vs frames within no_statements n0 x temps k s named opens homed tr ok good lt = goes_at tr
        (goes_done {a = Normal} (omega arith) refl refl tt)
    statements_run vs frames within (statements st ss) n0 x temps k s named opens homed tr ok good lt =
        let v = both (is_statement (at vs).scope within st) (are_statements (at vs).scope within ss) ok in
        goes_sure _ ((executed vs within st v.0).by _ good tt)
        (completes_less 0 (omega arith)
        (statement_runs vs frames within st n0 (record x { next = tr.0 }) temps k s named opens.0 homed tr.1 v.0 good
        lt))
        (λ f s1 t1 k1 p1 le1 is1 lv1 w1.
        next_goes f tr.0 x t1 k1 s1 _ (omega arith) p1
        (goes_spare 0 (omega arith)
        (statements_run vs frames within ss tr.0 x t1 k1 s1 named opens.1 (homed_on lv1.frame homed) tr.2 v.1 lv1.good
        (omega (arith, le1, lt)))))

    -- the items of a switch, from one on
    items_run : (vs : List Variable) (frames : List Frame) (within : Surrounding) (is : SwitchItems) (c0 n0 other : ℕ)
        (x : Exits) (temps : Temps) (k : ℕ) (s : State) → AreNamed env.variables vs → ItemsOpen env.variables vs is
        → Homed env.variables vs s.frame → LowersItems here is c0 n0 other x
        → are_items (at vs).scope within is ≡ true → IsGood (at vs) s → env.limit < n + s.turns
        → Completes env.setting t env.limit 0 0 u frames x (Stands u n0 temps frames (at_work k s)) k s
        (in_order (map run_labeled (items_of env is)) s)
    items_run vs frames within no_items c0 n0 other x temps k s named opens homed tr ok good lt = goes_at tr.1
        (goes_done {a = Normal} (omega arith) refl refl tt)
    items_run vs frames within (items labels st is) c0 n0 other x temps k s named opens homed tr ok good lt =
        let q = both (is_statement (at vs).scope within st) (are_items (at vs).scope within is) ok in
        goes_counted_as (length labels) 0 (omega arith)
        (goes_sure _ ((executed vs within st q.0).by _ good tt)
        (completes_less 0 (omega arith)
        (statement_runs vs frames within st n0 (record x { next = tr.1 }) temps k _ named opens.0 homed tr.3 q.0 good
        lt))
        (λ f s1 t1 k1 p1 le1 is1 lv1 w1.
        next_goes f tr.1 x t1 k1 s1 _ (omega arith) p1
        (goes_spare 0 (omega arith)
        (items_run vs frames within is tr.0 tr.1 other x t1 k1 s1 named opens.1
        (homed_on lv1.frame homed) tr.4 q.1 lv1.good
        (omega (arith, le1, lt))))))

    -- the items that are run
    cases_run : (vs : List Variable) (frames : List Frame) (within : Surrounding) (is : SwitchItems) (c0 n0 other : ℕ)
        (x : Exits) (all : List LabeledRun) (v : Rvalue) (temps : Temps) (k : ℕ) (s : State)
        → AreNamed env.variables vs → ItemsOpen env.variables vs is → Homed env.variables vs s.frame
        → LowersItems here is c0 n0 other x → are_items (at vs).scope within is ≡ true → IsGood (at vs) s → temps 0 ≡ v
        → env.limit < n + s.turns
        → ((k : ℕ) → Completes env.setting t env.limit 0 0 u frames x
        (Stands u other temps frames (at_work k s)) k s (run_items (items_from is_default all) s))
        → Completes env.setting t env.limit (16 + compared v.value.word (labels_of (items_of env is))) 16 u frames x
        (Stands u c0 temps frames (at_work k s)) k s
        (run_items (or_default (items_from (is_case_of v.value.word) (items_of env is)) all) s)
    cases_run vs frames within no_items c0 n0 other x all v temps k s named opens homed tr ok good ev lt h = goes_at
        tr.0
        (completes_frame 16 0 0 (h k))
    cases_run vs frames within (items labels st is) c0 n0 other x all v temps k s named opens homed tr ok good ev lt h =
        let q = both (is_statement (at vs).scope within st) (are_items (at vs).scope within is) ok in
        labels_go labels n0 other c0 tr.0 x _ _ _ _ all v literals env.variables temps k s tr.2 ev
        (λ ls k. goes_counted_as (length ls) 0 (omega arith)
        (goes_sure _ ((executed vs within st q.0).by _ good tt)
        (completes_less 0 (omega arith)
        (statement_runs vs frames within st n0 (record x { next = tr.1 }) temps k _ named opens.0 homed tr.3 q.0 good
        lt))
        (λ f s1 t1 k1 p1 le1 is1 lv1 w1.
        next_goes f tr.1 x t1 k1 s1 _ (omega arith) p1
        (goes_spare 0 (omega arith)
        (items_run vs frames within is tr.0 tr.1 other x t1 k1 s1 named opens.1
        (homed_on lv1.frame homed) tr.4 q.1 lv1.good
        (omega (arith, le1, lt)))))))
        (λ k. cases_run vs frames within is tr.0 tr.1 other x all v temps k s named opens.1 homed tr.4 q.1 good ev lt h)

    default_run : (vs : List Variable) (frames : List Frame) (within : Surrounding) (is : SwitchItems) (c0 n0 other : ℕ)
        (x : Exits) (temps : Temps) (k : ℕ) (s : State) → AreNamed env.variables vs → ItemsOpen env.variables vs is
        → Homed env.variables vs s.frame → LowersItems here is c0 n0 other x
        → are_items (at vs).scope within is ≡ true → IsGood (at vs) s → env.limit < n + s.turns
        → (has_default is ≡ false → other ≡ x.next)
        → Completes env.setting t env.limit 0 0 u frames x (Stands u other temps frames (at_work k s)) k s
        (run_items (items_from is_default (items_of env is)) s)
    default_run vs frames within no_items c0 n0 other x temps k s named opens homed tr ok good lt h = goes_at (h refl)
        (goes_done {a = Normal} (omega arith) refl refl tt)
    default_run vs frames within (items labels st is) c0 n0 other x temps k s named opens homed tr ok good lt h =
        let q = both (is_statement (at vs).scope within st) (are_items (at vs).scope within is) ok in
        default_goes labels n0 other c0 tr.0 x _ _ _ literals env.variables temps k s tr.2
        (λ ls k. goes_counted_as (length ls) 0 (omega arith)
        (goes_sure _ ((executed vs within st q.0).by _ good tt)
        (completes_less 0 (omega arith)
        (statement_runs vs frames within st n0 (record x { next = tr.1 }) temps k _ named opens.0 homed tr.3 q.0 good
        lt))
        (λ f s1 t1 k1 p1 le1 is1 lv1 w1.
        next_goes f tr.1 x t1 k1 s1 _ (omega arith) p1
        (goes_spare 0 (omega arith)
        (items_run vs frames within is tr.0 tr.1 other x t1 k1 s1 named opens.1
        (homed_on lv1.frame homed) tr.4 q.1 lv1.good
        (omega (arith, le1, lt)))))))
        (λ none. default_run vs frames within is tr.0 tr.1 other x temps k s named opens.1 homed tr.4 q.1 good lt
        (λ e. h (ap (λ b. b || has_default is) none ∙ e)))
