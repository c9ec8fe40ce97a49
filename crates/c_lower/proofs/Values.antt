-- The code of expressions and lvalues does what they mean.
use Rattle.std.proofs.Common.{◌≡◌, ℕ, ◌+◌, ◌*◌, ◌<◌, ◌≤◌, List, [], ◌∷◌, Option, Some, None, Bool, true, false}
use Rattle.std.proofs.Common.{refl}
use Rattle.std.proofs.Common.{sym, ap, ◌∙◌, subst, arith}
use Rattle.std.specs.List.{list_all}
use Rattle.std.specs.Prelude.{◌&&◌, not, cond, ◌==◌}
use Rattle.addr_map.specs.Places.{function_address}
use Rattle.sb_base.specs.declared.ending.Ending.TheVariants.{BadCall}
use Rattle.obj_memory.specs.declared.value.Scalar.{Scalar}
use Rattle.obj_memory.specs.declared.value.Tag.{Tag}
use Rattle.obj_memory.specs.declared.value.Tag.TheVariants.{Untagged, OfFunction, OfObject}
use Rattle.obj_memory.specs.declared.value.Value.{Value}
use Rattle.obj_memory.specs.Objects.{Objects, pointer_to}
use Rattle.obj_memory.specs.Operators.{one_if, unary_value}
use Rattle.obj_memory.specs.Judgement.{narrowed}
use Rattle.obj_memory.specs.Access.{scalar_size}
use Rattle.obj_memory.specs.Sound.{IsSoundTag}
use Rattle.c_tree.specs.declared.program.Variable.{Variable}
use Rattle.c_tree.specs.declared.expression.Kind.{Kind}
use Rattle.c_tree.specs.declared.expression.Kind.TheVariants.{Void, Scalar as OfScalar, Structure, Array}
use Rattle.c_tree.specs.declared.expression.Fixity.TheVariants.{Prefix}
use Rattle.c_tree.specs.Format.{pieces}
use Rattle.c_tree.specs.Kinds.{size_of_kind, is_kind, is_value, is_array, is_size, has_member, pointer}
use Rattle.c_tree.specs.Tree.{Expression, expression, Expressions, no_expressions, expressions, Lvalue, lvalue, Node}
use Rattle.c_tree.specs.Tree.{constant, function, plain, read, decay, address, parenthesized, deref_function}
use Rattle.c_tree.specs.Tree.{address_function, cast, convert, unary, binary, offset_by, difference, logical_and}
use Rattle.c_tree.specs.Tree.{logical_or, comma, conditional, assign, assign_plain, compound, change_plain, step}
use Rattle.c_tree.specs.Tree.{step_plain, call, call_through, library, printf, LvalueNode, automatic, static, deref}
use Rattle.c_tree.specs.Tree.{index, member, arrow, member_of_value, parenthesized_lvalue, kind_of, line_of, kinds_of}
use Rattle.c_tree.specs.Tree.{lvalue_kind, lvalue_line}
use Rattle.c_tree.specs.Walk.{assigns}
use Rattle.c_tree.specs.Valid.{is_lvalue, is_converted, is_convert, is_conversion, is_valid, is_node, are_valid}
use Rattle.c_tree.specs.Valid.{is_valid_lvalue, is_valid_lvalue_node, is_plain, is_operand}
use Rattle.source_meaning.specs.State.{State, Rvalue, Outcome, Gives, Ended, Paused, Run, on, done, stop, choose}
use Rattle.source_meaning.specs.State.{Setting, Env}
use Rattle.source_meaning.specs.Actions.{integer, is_zero, scalar_of, integer_type, converted, offset_value}
use Rattle.source_meaning.specs.Actions.{difference_value, operate, updated, plain_value, with_plain, update_plain}
use Rattle.source_meaning.specs.Actions.{update, home_pointer, each_value}
use Rattle.source_meaning.specs.Structures.{rvalue, as_rvalue, values_of, take_value, read_rvalue, write_rvalue}
use Rattle.source_meaning.specs.Structures.{member_of}
use Rattle.source_meaning.specs.Library.{routine}
use Rattle.source_meaning.specs.Printing.{print_formatted}
use Rattle.source_meaning.specs.Expressions.{nodes_of, function_pointer, header_at, has_type, callee_by, callee}
use Rattle.source_meaning.specs.Expressions.{is_judged, is_node_judged, argument, evaluate, value, place, node_place}
use Rattle.source_meaning.specs.Expressions.{values}
use Rattle.source_meaning.specs.Calls.{Caller, caller, back_to}
use Rattle.source_meaning.specs.Meaning.{moment_at}
use Rattle.source_meaning.specs.Acting.{at_work}
use Rattle.source_meaning.specs.Staying.{KeptBy, Stays}
use Rattle.source_meaning.specs.Good.{Context, function_count, IsGood, Leaves, After, ValueIs, LvalueIs, ArgumentsAre}
use Rattle.source_meaning.specs.Good.{basis_of, signature_in, taking, Calling}
use Rattle.source_meaning.proofs.Naming.{ValueNames, IsNoStructure}
use Rattle.source_meaning.proofs.ValidNames.{both, three, four, five, six, none_like, none_routine}
use Rattle.source_meaning.proofs.ValidNames.{writable, names, value_names, lvalue_names, row_names}
use Rattle.source_meaning.proofs.ValidProgramNames.{agree_same}
use Rattle.source_meaning.proofs.SureTree.{evaluate_sure, place_sure, values_sure, argument_sure}
use Rattle.source_meaning.proofs.ActionsAct.{acts_operate, acts_updated, acts_update, acts_update_plain}
use Rattle.source_meaning.proofs.ActionsAct.{acts_take_value, acts_read_rvalue, acts_write_rvalue}
use Rattle.source_meaning.proofs.LibraryActs.{acts_routine, acts_print}
use Rattle.tac_ir.specs.declared.instruction.Instruction.TheVariants as tac
use Rattle.tac_ir.specs.declared.key.Key.{Key}
use Rattle.tac_ir.specs.declared.function.Tac.{Tac}
use Rattle.tac_ir.specs.Stage.{Temps, with_temp, gathered, Frame, Waits, Stage, Stands, Over, came, seen}
use Rattle.tac_ir.specs.Accesses.{admitted, moved_from, is_through}
use Rattle.tac_ir.specs.Costs.{entries_of, stores_of, updates_of, checks_of, contents_handing, handing, heavier}
use Rattle.tac_ir.specs.Meaning.{keys_of, function_in, if_there, text_in, at_node, keyed, given_in}
use Rattle.tac_ir.specs.Meaning.{given_to, called, act_at, step as advance}
use Rattle.tac_ir.proofs.Turns.{acts_as}
use Rattle.tac_ir.proofs.Fits.{only_opens}
use Rattle.tac_ir.specs.Accesses.{is_home}
use Rattle.tac_ir.specs.Fitting.{is_word, are_passed, is_written, is_held, is_update_of, is_type, fit_type, are_printed}
use Rattle.tac_ir.specs.Fitting.{is_base_there, is_of_key}
use Rattle.tac_ir.specs.Meaning.{fit_call, fits_key, variables_in}
use Rattle.tac_ir.specs.declared.function.CodeFunction.{CodeFunction}
use Rattle.c_tree.specs.Kinds.{routine_signature}
use Rattle.c_tree.specs.declared.expression.Update.{Update}
use Rattle.c_tree.specs.Valid.{is_automatic, is_static}
use Rattle.c_lower.specs.Values.{KeyIs}
use Rattle.c_lower.proofs.KeyNames.{BaseIf, object_found, static_there, key_base_there, read_named, write_named}
use Rattle.c_lower.proofs.KeyNames.{both_true}
use Rattle.c_lower.proofs.Fitting.{in_place, word_fits, written_fits, held_fits, arguments_fit, printed_fits}
use Rattle.c_lower.proofs.Fitting.{update_fits, kind_update_fits, type_fits, constant_fits, type_arguments_fit}
use Rattle.c_lower.proofs.Fitting.{routine_values, printed_values}
use Rattle.c_lower.proofs.Fitting.{data_below}
use Rattle.c_lower.proofs.Fitting.{AreDeclared}
use Rattle.source_meaning.proofs.Naming.{PlainNames, UpdatesKind}
use Rattle.source_meaning.specs.Good.{plain_type, IsWord}
use Rattle.source_meaning.specs.State.{NoObject}
use Rattle.std.specs.Prelude.{nat_lt, length, get_or}
use Rattle.std.proofs.Common.{lt-ltb, ltb-true}
use Rattle.c_lower.specs.Placed.{HasAt}
use Rattle.c_lower.specs.Keys.{place_key, key_after, key_if, read_key, write_key}
use Rattle.c_lower.specs.Values.{mode_for, LowersTaking, count, LowersExpression, LowersNode, LowersLvalue, LowersPlace}
use Rattle.c_lower.specs.Values.{LowersArguments, Converts}
use Rattle.c_lower.proofs.Comes.{Reached, GoesLeaving, Goes, goes_from, goes_counted, goes_counted_as, goes_spare}
use Rattle.c_lower.proofs.Comes.{goes_frame}
use Rattle.c_lower.proofs.Comes.{goes_steps, goes_step, goes_done, goes_over, goes_at, goes_weak, goes_less, goes_then}
use Rattle.c_lower.proofs.Comes.{goes_sure, goes_last, goes_last_heavier, goes_branch}
use Rattle.c_lower.proofs.KeyValues.{Right, key_opens, place_right}
use Rattle.c_lower.proofs.KeyStays.{right_after}
use Rattle.c_lower.specs.Conversions.{keeps}
use Rattle.c_lower.proofs.Conversions.{value_kept}
use Rattle.c_lower.proofs.Credits.{left_by, three_left, most_left, converted_left, plainly_left, place_left}
use Rattle.c_lower.proofs.Credits.{seven_left, read_cost, write_cost, update_cost, taken_left, taken_pays, left}
use Rattle.c_lower.proofs.Credits.{not_converted, args_left, formatted_left}
use Rattle.c_lower.proofs.Accesses.{through_is, access_opens, value_moves, reach_later, reach_scalar}
use Rattle.c_lower.proofs.Accesses.{updates_scalar, plain_is_no_structure, plain_contents, reach_contents}
use Rattle.c_lower.proofs.Temporaries.{placed, KeepsBelow, ValueIn, ValuesIn, put_value}
use Rattle.c_lower.proofs.Temporaries.{turned, over}

-- what is kept

plain_kept : {A : Type 0} (y : ℕ) (s s' : State) (o : Outcome A) (a : A) → o ≡ Gives a s' → KeptBy y s o
    → plain_value y s' ≡ plain_value y s
plain_kept y s s' (Gives b z) a e h = let same : z ≡ s' = cc in ap (λ (w : State). plain_value y w) (sym same) ∙ h.plain
plain_kept y s s' (Ended x z) a e h = cc
plain_kept y s s' (Paused z) a e h = cc

if_right : (j : Bool) (ok : Option Key) (s : State) (v : Value) → ((k : Key) → ok ≡ Some k → Right k s v) → (k : Key)
    → key_if j ok ≡ Some k → Right k s v
if_right true ok s v h k e = h k e
if_right false ok s v h k e = cc

-- calls

module _ (g : Setting) (t : Tac) (limit : ℕ) where
  -- what a call comes to: the caller that waits, with the result; `back` units are left then, and `over` units where
  -- the run ends in it or pauses
  abbrev pub Called : (c back over : ℕ) → Caller → List Frame → Stage → ℕ → State → Outcome Rvalue → Type 0
  Called c back over q frames x k s (Gives v s') =
      (s1 : State) × (k' : ℕ) × (s' ≡ back_to q s1) × Reached g t c back x k s s1 (given_to frames v (at_work k' s1)) k'
  Called c back over q frames x k s (Ended e s') = (k' : ℕ) × Reached g t c over x k s s' (Over e (at_work k' s')) k'
  Called c back over q frames x k s (Paused s') =
      (x' : Stage) × (k' : ℕ) × (seen x' ≡ moment_at (at_work k' s') [] None) × Reached g t c over x k s s' x' k'
      × (limit ≤ s'.turns)

  -- a stage from which one step calls a function, at a cost; nothing is begun where no turn is left
  pub record Calls (c f : ℕ) (vs : List Rvalue) (line : ℕ) (frames : List Frame) (x : Stage) (k : ℕ) (s : State) : Type
      0 where
    pub steps : advance g t x ≡ called g t f vs line frames (at_work (k + c) s)
    pub seen_now : seen x ≡ moment_at (at_work k s) [] None

  abbrev pub CallsRun : Context → (ℕ → List Rvalue → ℕ → Run Rvalue) → ℕ → Type 0
  CallsRun sc called_as n = (c f : ℕ) (vs : List Rvalue) (line : ℕ) (frames : List Frame) (x : Stage) (k : ℕ)
      (s : State) → Calls c f vs line frames x k s → IsGood sc s
      → ArgumentsAre (function_count sc) (taking sc f) vs s.objects → limit < n + s.turns
      → Called c 7 0 (caller s) frames x k s (called_as f vs line s)

module _ {g : Setting} {t : Tac} {limit u : ℕ} {frames : List Frame} where
  -- 1 or 0, by a test
  flag_goes : (q : Bool) (d n one none n1 : ℕ) (before temps : Temps) (k : ℕ) (s : State)
      → at_node t u n ≡ Some (tac.Branch d one none) → at_node t u none ≡ Some (tac.Constant d 0 n1)
      → at_node t u one ≡ Some (tac.Constant d 1 n1) → is_zero (temps d).value ≡ q → KeepsBelow d before temps
      → Goes g t limit 8 6 u frames (λ v. n1) (ValueIn d before) (Stands u n temps frames (at_work k s)) k s
      (Gives (rvalue (integer (one_if (not q)))) s)
  flag_goes true d n one none n1 before temps k s h hz ho e below =
      goes_step 7 h refl refl (ap (λ q. Stands u (cond q none one) temps frames (at_work (k + 1) s)) e)
      (goes_step 6 hz refl refl refl
      (goes_done (omega arith) refl refl (put_value d (rvalue (integer 0)) _ before temps s refl below)))
  flag_goes false d n one none n1 before temps k s h hz ho e below =
      goes_step 7 h refl refl (ap (λ q. Stands u (cond q none one) temps frames (at_work (k + 1) s)) e)
      (goes_step 6 ho refl refl refl
      (goes_done (omega arith) refl refl (put_value d (rvalue (integer 1)) _ before temps s refl below)))

  -- six units are enough for any expression that is no conversion
  six_left : {c : ℕ} {n1 d : ℕ} {before : Temps} {x : Stage} {k : ℕ} {s : State} {o : Outcome Rvalue} (kind : Kind)
      → Goes g t limit c 6 u frames (λ v. n1) (ValueIn d before) x k s o
      → Goes g t limit c (left_by kind false) u frames (λ v. n1) (ValueIn d before) x k s o
  six_left kind h = goes_less (left_by kind false) (most_left kind) h

  -- back from a call
  back_by : (c n1 d : ℕ) (before temps : Temps) (x : Stage) (k : ℕ) (s : State) (o : Outcome Rvalue)
      → KeepsBelow d before temps
      → Called g t limit c 7 0 (caller s)
      (Waits (record { function = u; node = n1; place = d; caller = caller s; temps = temps }) ∷ frames) x k s o
      → Goes g t limit c 7 u frames (λ v. n1) (ValueIn d before) x k s o
  back_by c n1 d before temps x k s (Gives v s') below h =
      let e = h.2 in
      let r = h.3 in
      record {
        by = (
          with_temp temps d v,
          h.1,
          put_value d v v before temps s' refl below,
          record {
            steps = r.steps;
            comes = r.comes ∙ ap (λ z. Stands u n1 (with_temp temps d v) frames (at_work h.1 z)) (sym e);
            turns = let a = ap (λ (z : State). z.turns) e in omega (arith, r.turns);
            work = let a = ap (λ (z : State). z.work) e in omega (arith, r.work);
          },
        );
      }
  back_by c n1 d before temps x k s (Ended e s') below h = record { by = h }
  back_by c n1 d before temps x k s (Paused s') below h = record { by = h }

  -- a call through a pointer
  module _ (n : ℕ) (sc : Context) (env : Env) (sure : Calling sc env) (same : env.setting ≡ g)
      (calls : CallsRun g t limit sc env.call n) (vs : List Rvalue) (line n1 d : ℕ) (before temps : Temps) (x : Stage)
      (k : ℕ) (s : State) (good : IsGood sc s) (type_number : ℕ)
      (arguments : ArgumentsAre (function_count sc) (signature_in sc.scope.types type_number).parameters vs s.objects)
      (now : seen x ≡ moment_at (at_work k s) [] None) (lt : limit < n + s.turns)
      (below : KeepsBelow d before temps) where
    through_if : (word f : ℕ) (q : Bool)
        → (word == function_address f && has_type (header_at env.setting.functions f) type_number) ≡ q
        → advance g t x ≡ came (choose q (done f) (stop (BadCall line)) (at_work (k + 8) s))
        (λ f z. called g t f vs line
        (Waits (record { function = u; node = n1; place = d; caller = caller s; temps = temps }) ∷ frames) z)
        → Goes g t limit 8 7 u frames (λ v. n1) (ValueIn d before) x k s
        (on (choose q (done f) (stop (BadCall line)) s) (λ f. env.call f vs line))
    through_if word f true is e =
        let typed = sure.typed f type_number (both _ _ is).1 in
        back_by 8 n1 d before temps x k s (env.call f vs line s) below
        (calls 8 f vs line _ x k s (record { steps = e; seen_now = now }) good
        (subst (λ q. ArgumentsAre (function_count sc) q.parameters vs s.objects) (sym typed) arguments) lt)
    through_if word f false is e = goes_from 1 e (omega arith) (omega arith)
        (goes_over {c = 0} {k = k + 8} {s = s} {s' = s} refl refl)

    through_goes : (word : ℕ) (tag : Tag)
        → advance g t x ≡ came (callee_by env.setting.functions type_number word tag line (at_work (k + 8) s))
        (λ f z. called g t f vs line
        (Waits (record { function = u; node = n1; place = d; caller = caller s; temps = temps }) ∷ frames) z)
        → Goes g t limit 8 7 u frames (λ v. n1) (ValueIn d before) x k s
        (on (callee_by env.setting.functions type_number word tag line s) (λ f. env.call f vs line))
    through_goes word Untagged e = goes_from 1 e (omega arith) (omega arith)
        (goes_over {c = 0} {k = k + 8} {s = s} {s' = s} refl refl)
    through_goes word (OfObject o b) e = goes_from 1 e (omega arith) (omega arith)
        (goes_over {c = 0} {k = k + 8} {s = s} {s' = s} refl refl)
    through_goes word (OfFunction f) e = through_if word f _ refl e

  -- the contents of a structure are taken; half of what is counted for its bytes pays for handing them on
  taking_runs : (fc : ℕ) (kind : Kind) (line d n0 n1 : ℕ) (before temps : Temps) (k : ℕ) (s : State) (v : Rvalue)
      (literals : List Bool) (vars : List Variable) → LowersTaking (placed t u literals vars) kind line d n0 n1
      → temps d ≡ v
      → KeepsBelow d before temps → ValueIs fc kind v s.objects
      → GoesLeaving g t limit (left_by kind true) (λ w. taken_left kind + handing w) u frames (λ v. n1)
      (ValueIn d before) (Stands u n0 temps frames (at_work k s)) k s (take_value kind line v s)
  taking_runs fc Void line d n0 n1 before temps k s v literals vars tr e below h =
      let none = ap contents_handing h.structure in goes_at tr
      (goes_done (omega arith) refl refl (record { value = e; below = below }))
  taking_runs fc (OfScalar c) line d n0 n1 before temps k s v literals vars tr e below h =
      let none = ap contents_handing h.structure in goes_at tr
      (goes_done (omega arith) refl refl (record { value = e; below = below }))
  taking_runs fc (Array m) line d n0 n1 before temps k s v literals vars tr e below h =
      let none = ap contents_handing h.structure in goes_at tr
      (goes_done (omega arith) refl refl (record { value = e; below = below }))
  taking_runs fc (Structure m) line d n0 n1 before temps k s v literals vars tr e below h =
      let F : Rvalue → State → Stage = given_in u n1 temps d frames in
      let z = at_work (k + 5) s in
      goes_steps 5 1 tr refl (in_place (temps d).contents d)
      (ap (λ v. moved_from (Structure m) v s.objects (came (heavier (take_value (Structure m) line v) z) F)) e
      ∙ value_moves fc (Structure m) v s.objects h _)
      (goes_last_heavier F (acts_take_value (Structure m) line v)
      (λ w s' k' e' is.
      let paid = taken_pays m line v s w s' is in
      goes_done (omega (arith, paid)) refl refl (put_value d w w before temps s' refl below)))

  -- a value is converted, or stays as it is
  conversion_runs : (fc : ℕ) (from kind : Kind) (q : Bool) (c d n0 n1 : ℕ) (before temps : Temps) (k : ℕ) (s : State)
      (v : Rvalue) (literals : List Bool) (vars : List Variable) → keeps from kind ≡ q
      → Converts (placed t u literals vars) q kind d n0 n1 → temps d ≡ v → KeepsBelow d before temps
      → ValueIs fc from v s.objects
      → Goes g t limit (1 + c) c u frames (λ v. n1) (ValueIn d before) (Stands u n0 temps frames (at_work k s)) k s
      (Gives (rvalue (converted kind v.value)) s)
  conversion_runs fc from kind true c d n0 n1 before temps k s v literals vars is tr e below h =
      goes_at tr (goes_done (omega arith) refl refl
      (record { value = e ∙ value_kept fc from kind v s.objects is h; below = below }))
  conversion_runs fc from kind false c d n0 n1 before temps k s v literals vars is tr e below h =
      goes_step c tr refl (in_place (temps d).contents d) refl
      (goes_done (omega arith) refl refl
      (put_value d (rvalue (converted kind v.value)) _ before temps s
      (ap (λ (z : Rvalue). rvalue (converted kind z.value)) e) below))

pointer_contents : (fc : ℕ) (a : Expression) → is_kind (kind_of a) pointer ≡ true → (x : Rvalue) (objects : Objects)
    → ValueIs fc (kind_of a) x objects → x ≡ rvalue x.value
pointer_contents fc a is x objects h = plain_contents fc (kind_of a) x objects (none_like (kind_of a) pointer is tt) h

lvalue_contents : (fc : ℕ) (p : Lvalue) → is_lvalue p ≡ true → (q : Rvalue) (objects : Objects)
    → LvalueIs fc (basis_of p) (lvalue_kind p) q objects → q ≡ rvalue q.value
lvalue_contents fc p is q objects h = reach_contents fc (basis_of p) (writable p is) (size_of_kind (lvalue_kind p)) q
    objects h.reach

pub text_at : (t : Tac) (n : ℕ) (text : List ℕ) → HasAt t.texts n text → text_in t n ≡ text
text_at t n text h = ap if_there h

pub false_by : (b : Bool) → not b ≡ true → b ≡ false
false_by true e = cc
false_by false e = refl

module _ (t : Tac) (n : ℕ) (env : Env) (sc : Context) (sure : Calling sc env)
    (calls : CallsRun env.setting t env.limit sc env.call n)
    (stays : (y : ℕ) (e : Expression) → assigns y e ≡ false → Stays y (evaluate env e)) (u : ℕ) (frames : List Frame)
    (literals : List Bool) (vars : List Variable) (declared : AreDeclared t env.setting sc u) where
  abbrev g : Setting
  g = env.setting

  abbrev limit : ℕ
  limit = env.limit

  after : (e : Expression) → is_valid sc.scope e ≡ true → (s : State) → IsGood sc s
      → After sc s (ValueIs (function_count sc) (kind_of e)) (evaluate env e s)
  after e ok s good = (evaluate_sure sure e (names (agree_same sc.scope) e ok)).by s good tt

  after_place : (p : Lvalue) → is_valid_lvalue sc.scope p ≡ true → (s : State) → IsGood sc s
      → After sc s (LvalueIs (function_count sc) (basis_of p) (lvalue_kind p)) (place env p s)
  after_place p ok s good = (place_sure sure p (lvalue_names (agree_same sc.scope) p ok)).by s good tt

  after_each : (es : Expressions) → are_valid sc.scope es ≡ true → (s : State) → IsGood sc s
      → After sc s (ArgumentsAre (function_count sc) (kinds_of es)) (each_value (values env es) s)
  after_each es ok s good = (values_sure sure es (row_names (agree_same sc.scope) es ok)).by s good tt

  named : (node : Node) (kind : Kind) → is_node sc.scope node kind ≡ true → ValueNames sc.scope node kind
  named node kind ok = value_names (agree_same sc.scope) node kind ok

  -- the key of an lvalue after the right side of an assignment
  later : (a : Expression) (s1 s2 : State) (x : Rvalue) → evaluate env a s1 ≡ Gives x s2 → Leaves sc s1 s2
      → (ok : Option Key) (v : Value) → IsSoundTag (function_count sc) s1.objects v.tag
      → ((k : Key) → ok ≡ Some k → Right k s1 v)
      → (k : Key) → key_after a ok ≡ Some k → Right k s2 v
  later a s1 s2 x is lv ok v sound h =
      right_after (function_count sc) a s1 s2 (λ y ne. plain_kept y s1 s2 _ x is ((stays y a ne).stays s1)) lv.frame
      lv.lives.continues ok v sound h

  -- what instructions are given fits

  plain_declared : (x : ℕ) (k : Scalar) (s : State) → IsGood sc s → plain_type sc.scope.variables x ≡ Some k
      → plain_type (variables_in (function_in t u)) x ≡ Some k
  plain_declared x k s good e = ap (λ vs. plain_type vs x) declared.variables ∙ good.typed.named x k e

  pub plain_fits : (x : ℕ) (kind : Kind) → PlainNames sc.scope x kind → (v : Rvalue) (s : State) → IsGood sc s
      → ValueIs (function_count sc) kind v s.objects → (w : Rvalue) → w ≡ v
      → is_held (plain_type (variables_in (function_in t u)) x) w ≡ true
  plain_fits x Void nm v s good h w e = absurd nm
  plain_fits x (OfScalar k) nm v s good h w e =
      ap (λ o. is_held o w) (plain_declared x k s good nm) ∙ ap (is_held (Some k)) e
      ∙ held_fits (function_count sc) declared.few k v s.objects h
  plain_fits x (Structure n) nm v s good h w e = absurd nm
  plain_fits x (Array n) nm v s good h w e = absurd nm

  plain_update_fits : (w : Update) (kind : Kind) (x : ℕ) (s : State) → IsGood sc s → PlainNames sc.scope x kind
      → UpdatesKind w kind
      → (is_type (plain_type (variables_in (function_in t u)) x) (scalar_of kind) && is_update_of w (scalar_of kind))
      ≡ true
  plain_update_fits w Void x s good nm h = absurd nm
  plain_update_fits w (OfScalar k) x s good nm h =
      both_true (ap (λ o. is_type o k) (plain_declared x k s good nm) ∙ type_fits k) (update_fits w k h)
  plain_update_fits w (Structure n) x s good nm h = absurd nm
  plain_update_fits w (Array n) x s good nm h = absurd nm

  call_fits : (f : ℕ) (vs : List Rvalue) (objects : Objects)
      → ArgumentsAre (function_count sc) (taking sc f) vs objects → fit_call (function_in t f) vs ≡ true
  call_fits f vs objects h = by (function_in t f) refl
    where
      by : (c : Option CodeFunction) → function_in t f ≡ c → fit_call c vs ≡ true
      by None e = refl
      by (Some c) e = ap (λ ks. are_passed ks vs) (declared.calls f c e)
          ∙ arguments_fit (function_count sc) declared.few (taking sc f) vs objects
          (ap (list_all is_value) (sym (declared.calls f c e)) ∙ declared.calls_take f c e) h

  through_fits : (n : ℕ) (vs : List Rvalue) (objects : Objects)
      → ArgumentsAre (function_count sc) (signature_in sc.scope.types n).parameters vs objects
      → fit_type env.setting.functions n vs ≡ true
  through_fits n vs objects h = type_arguments_fit (function_count sc) declared.few sc.scope.types n vs objects h
      env.setting.functions declared.types declared.types_take

  home_fits : (x : ℕ) (kind : Kind) → is_automatic sc.scope x kind ≡ true → (s : State) → IsGood sc s
      → is_home (get_or s.frame x NoObject) s.objects ≡ true
  home_fits x kind ok s good =
      let has = object_found sc.scope.variables x (both _ _ ok).0 in
      let h = good.homes x _ has in
      ap (λ home. is_home home s.objects) h.home ∙ h.held.live

  static_fits : (n : ℕ) (kind : Kind) → is_static sc.scope n kind ≡ true → nat_lt n (length t.statics) ≡ true
  static_fits n kind ok =
      let le = ltb-true n (length sc.scope.statics) (both (nat_lt n (length sc.scope.statics)) _ ok).0 in
      let k = static_there sc.scope.statics n le in
      let d = declared.statics n k.0 k.1 in
      lt-ltb _ _ (data_below t.statics n d.0 d.1)

  -- the pointer of an access that has a key
  key_fits : (ok : Option Key) (key : Option ℕ) → KeyIs (keys_of (function_in t u)) key ok → (s : State) → IsGood sc s
      → (v : Value) → IsWord (function_count sc) v.word → BaseIf sc.scope ok → (w : Rvalue) → w.value ≡ v → (n : ℕ)
      → fits_key t u key (at_work n s) w.value ≡ true
  key_fits ok None is s good v word base w e n = refl
  key_fits None (Some m) is s good v word base w e n = absurd is
  key_fits (Some k) (Some m) is s good v word base w e n =
      ap (λ o. is_of_key (variables_in (function_in t u)) t.statics o (at_work n s) w.value) is
      ∙ both_true (ap (λ (z : Value). is_word z.word) e ∙ word_fits (function_count sc) declared.few v.word word)
      (ap (λ vs. is_base_there vs t.statics k.base (at_work n s)) declared.variables
      ∙ key_base_there sc k.base (at_work n s) sc.scope.all t.statics base good declared.objects declared.statics)

  read_key_fits : (p : Lvalue) → is_valid_lvalue sc.scope p ≡ true → (key : Option ℕ) (s : State) → IsGood sc s
      → (q : Rvalue) → KeyIs (keys_of (function_in t u)) key (read_key literals p)
      → LvalueIs (function_count sc) (basis_of p) (lvalue_kind p) q s.objects → (w : Rvalue) → w ≡ q → (n : ℕ)
      → fits_key t u key (at_work n s) w.value ≡ true
  read_key_fits p ok key s good q is h w e n =
      key_fits (read_key literals p) key is s good q.value h.word (read_named sc.scope literals p ok) w
      (ap (λ (z : Rvalue). z.value) e) n

  write_key_fits : (p : Lvalue) (a : Expression) → is_valid_lvalue sc.scope p ≡ true → (key : Option ℕ) (s1 s : State)
      → IsGood sc s → (q : Rvalue) → KeyIs (keys_of (function_in t u)) key (write_key literals p a)
      → LvalueIs (function_count sc) (basis_of p) (lvalue_kind p) q s1.objects → (w : Rvalue) → w ≡ q → (n : ℕ)
      → fits_key t u key (at_work n s) w.value ≡ true
  write_key_fits p a ok key s1 s good q is h w e n =
      key_fits (write_key literals p a) key is s good q.value h.word (write_named sc.scope literals p a ok) w
      (ap (λ (z : Rvalue). z.value) e) n

  mutual
    pub expression_runs : (e : Expression) (d n0 n1 : ℕ) (temps : Temps) (k : ℕ) (s : State)
        → LowersExpression (placed t u literals vars) e d n0 n1 → is_valid sc.scope e ≡ true → IsGood sc s
        → limit < n + s.turns
        → Goes g t limit 0 (left e) u frames (λ v. n1) (ValueIn d temps) (Stands u n0 temps frames (at_work k s)) k s
        (evaluate env e s)
    expression_runs (expression kind line node) d n0 n1 temps k s tr ok good lt = node_runs node kind line d n0 n1 temps
        k s tr ok good lt

    two : (e : Expression) (d n0 n1 : ℕ) (temps : Temps) (k : ℕ) (s : State)
        → LowersExpression (placed t u literals vars) e d n0 n1 → is_valid sc.scope e ≡ true → IsGood sc s
        → limit < n + s.turns
        → Goes g t limit 0 3 u frames (λ v. n1) (ValueIn d temps) (Stands u n0 temps frames (at_work k s)) k s
        (evaluate env e s)
    two (expression kind line node) d n0 n1 temps k s tr ok good lt = goes_less 3 (three_left kind (is_convert node))
        (node_runs node kind line d n0 n1 temps k s tr ok good lt)

    node_runs : (node : Node) (kind : Kind) (line d n0 n1 : ℕ) (temps : Temps) (k : ℕ) (s : State)
        → LowersNode (placed t u literals vars) node kind line d n0 n1 → is_node sc.scope node kind ≡ true → IsGood sc s
        → limit < n + s.turns
        → Goes g t limit 0 (left_by kind (is_convert node)) u frames (λ v. n1) (ValueIn d temps)
        (Stands u n0 temps frames (at_work k s)) k s (value env node kind line s)
    node_runs (constant w) kind line d n0 n1 temps k s tr ok good lt =
        six_left kind (goes_counted (goes_step 7 tr refl (constant_fits w kind (named (constant w) kind ok)) refl
        (goes_done (omega arith) refl refl (put_value d (rvalue (integer w)) _ temps temps _ refl (λ i l. refl)))))
    node_runs (function f) kind line d n0 n1 temps k s tr ok good lt =
        let there : f < length env.setting.functions = omega (
          arith,
          (named
              (function f) kind ok).0,
          declared.functions,
        ) in
        six_left kind (goes_counted (goes_step 7 tr refl (lt-ltb _ _ there) refl
        (goes_done (omega arith) refl refl
        (put_value d (rvalue (function_pointer f)) _ temps temps _ refl (λ i l. refl)))))
    node_runs (plain x) kind line d n0 n1 temps k s tr ok good lt =
        six_left kind (goes_counted (goes_step 7 tr refl refl refl
        (goes_done (omega arith) refl refl
        (put_value d (rvalue (plain_value x s)) _ temps temps _ refl (λ i l. refl)))))
    node_runs (read p) kind line d n0 n1 temps k s tr ok good lt =
        let v = three (is_valid_lvalue sc.scope p) (is_kind kind (lvalue_kind p)) (is_value kind) ok in
        goes_sure _ (after_place p v.0 _ good) (lvalue_runs p d n0 tr.0 temps k s tr.3 v.0 good lt)
        (λ q s1 t1 k1 p1 le1 is1 lv1 w1.
        let j = is_judged p in
        let pk = lvalue_kind p in
        let w = 1 + entries_of pk + checks_of (mode_for j) in
        let rest = left_by pk false in
        let same = ap (λ k. left_by k false) (named (read p) kind ok).1 in
        let F : Rvalue → State → Stage = given_in u n1 t1 d frames in
        let z = at_work (k1 + w) s1 in
        let keys = keys_of (function_in t u) in
        goes_spare (w + rest) (omega (arith, read_cost pk j))
        (goes_steps w rest tr.4 refl
        (both_true (in_place (t1 d).contents d)
        (read_key_fits p v.0 tr.1 s1 lv1.good q tr.2 w1 (t1 d) p1.value (k1 + w)))
        (ap (λ (v : Rvalue). keyed keys tr.1 z v.value
        (admitted (mode_for j) (size_of_kind pk) v s1.objects
        (came (read_rvalue pk (is_through (mode_for j)) v (lvalue_line p) z) F))) p1.value
        ∙ key_opens keys tr.1 (read_key literals p) s1 q.value tr.2
        (if_right j (place_key literals p) s1 q.value (place_right env literals p s s1 q is1)) (k1 + w) _
        ∙ access_opens (function_count sc) p (size_of_kind pk) q s1.objects w1.reach _
        ∙ ap (λ b. came (read_rvalue pk b q (lvalue_line p) z) F) (through_is j))
        (goes_last F (acts_read_rvalue pk j q (lvalue_line p))
        (λ v s2 k2 e. goes_done (omega (arith, same)) refl refl (put_value d v v temps t1 s2 refl p1.below)))))
    node_runs (decay p) kind line d n0 n1 temps k s tr ok good lt =
        let v = four (is_valid_lvalue sc.scope p) (is_lvalue p) (is_array (lvalue_kind p)) (is_kind kind pointer) ok in
        six_left kind (goes_sure _ (after_place p v.0 _ good) (lvalue_runs p d n0 n1 temps k s tr v.0 good lt)
        (λ q s1 t1 k1 p1 le1 is1 lv1 w1.
        goes_done (omega (arith, seven_left (is_judged p))) refl refl
        (turned (lvalue_contents (function_count sc) p v.1 q s1.objects w1) p1)))
    node_runs (address p) kind line d n0 n1 temps k s tr ok good lt =
        let v = three (is_valid_lvalue sc.scope p) (is_lvalue p) (is_kind kind pointer) ok in
        six_left kind (goes_counted
        (goes_sure _ (after_place p v.0 _ good) (lvalue_runs p d n0 n1 temps k _ tr v.0 good lt)
        (λ q s1 t1 k1 p1 le1 is1 lv1 w1.
        goes_done (omega arith) refl refl (turned (lvalue_contents (function_count sc) p v.1 q s1.objects w1) p1))))
    node_runs (parenthesized a) kind line d n0 n1 temps k s tr ok good lt =
        let v = both (is_valid sc.scope a) (is_kind kind (kind_of a)) ok in
        six_left kind (goes_counted
        (goes_less {b = 11} 6 (omega arith) (goes_frame 8 0 3 (two a d n0 n1 temps k _ tr v.0 good lt))))
    node_runs (deref_function a) kind line d n0 n1 temps k s tr ok good lt =
        let v = three (is_valid sc.scope a) (is_kind (kind_of a) pointer) (is_kind kind pointer) ok in
        six_left kind (goes_counted
        (goes_sure _ (after a v.0 _ good) (two a d n0 n1 temps k _ tr v.0 good lt) (λ x s1 t1 k1 p1 le1 is1 lv1 w1.
        goes_done (omega arith) refl refl (turned (pointer_contents (function_count sc) a v.1 x s1.objects w1) p1))))
    node_runs (address_function a) kind line d n0 n1 temps k s tr ok good lt =
        let v = three (is_valid sc.scope a) (is_kind (kind_of a) pointer) (is_kind kind pointer) ok in
        six_left kind (goes_counted
        (goes_sure _ (after a v.0 _ good) (two a d n0 n1 temps k _ tr v.0 good lt) (λ x s1 t1 k1 p1 le1 is1 lv1 w1.
        goes_done (omega arith) refl refl (turned (pointer_contents (function_count sc) a v.1 x s1.objects w1) p1))))
    node_runs (cast a) kind line d n0 n1 temps k s tr ok good lt =
        let v = both (is_valid sc.scope a) (is_conversion (kind_of a) kind) ok in
        six_left kind (goes_counted
        (goes_sure _ (after a v.0 _ good) (two a d n0 tr.0 temps k _ tr.1 v.0 good lt)
        (λ x s1 t1 k1 p1 le1 is1 lv1 w1.
        goes_less 6 (omega arith)
        (conversion_runs (function_count sc) (kind_of a) kind (keeps (kind_of a) kind) 10 d tr.0 n1 temps t1 k1 s1 x
        literals vars refl tr.2 p1.value p1.below w1))))
    node_runs (unary op a) kind line d n0 n1 temps k s tr ok good lt =
        let v = both (is_valid sc.scope a) (is_operand op (kind_of a) kind) ok in
        let ty = integer_type (scalar_of (kind_of a)) in
        six_left kind (goes_counted
        (goes_then (two a d n0 tr.0 temps k _ tr.1 v.0 good lt) (λ v s1 t1 k1 p1 le1 is1.
        goes_step 10 tr.2 refl refl refl
        (goes_done (omega arith) refl refl
        (put_value d (rvalue (integer (unary_value op ty v.value.word))) _ temps t1 _
        (ap (λ (z : Rvalue). rvalue (integer (unary_value op ty z.value.word))) p1.value) p1.below)))))
    node_runs (binary op a b) kind line d n0 n1 temps k s tr ok good lt =
        let v = three (is_valid sc.scope a) (is_valid sc.scope b) _ ok in
        let ty = integer_type (scalar_of (kind_of a)) in
        six_left kind (goes_counted
        (goes_sure _ (after a v.0 _ good) (two a d n0 tr.0 temps k _ tr.2 v.0 good lt) (λ x s1 t1 k1 p1 le1 is1 lv1 w1.
        goes_then (two b (d + 1) tr.0 tr.1 t1 k1 s1 tr.3 v.1 lv1.good (omega (arith, le1, lt)))
        (λ y s2 t2 k2 p2 le2 is2.
        let F : Rvalue → State → Stage = given_in u n1 t2 d frames in
        let z = at_work (k2 + 1) s2 in
        goes_step 13 tr.4 refl refl
        (ap (λ (v : Rvalue). came (as_rvalue (operate op ty v.value (t2 (d + 1)).value line) z) F)
        (p2.below d (omega arith) ∙ p1.value)
        ∙ ap (λ (v : Rvalue). came (as_rvalue (operate op ty x.value v.value line) z) F) p2.value)
        (goes_last F (acts_as (acts_operate op ty x.value y.value line))
        (λ v s3 k3 e. goes_done (omega arith) refl refl
        (put_value d v v temps t2 s3 refl (λ i l. p2.below i (omega arith) ∙ p1.below i l))))))))
    node_runs (offset_by form size a b) kind line d n0 n1 temps k s tr ok good lt =
        let v = six (is_valid sc.scope a) (is_valid sc.scope b) _ _ _ _ ok in
        six_left kind (goes_counted
        (goes_sure _ (after a v.0 _ good) (two a d n0 tr.0 temps k _ tr.2 v.0 good lt) (λ x s1 t1 k1 p1 le1 is1 lv1 w1.
        goes_then (two b (d + 1) tr.0 tr.1 t1 k1 s1 tr.3 v.1 lv1.good (omega (arith, le1, lt)))
        (λ y s2 t2 k2 p2 le2 is2.
        goes_steps 2 12 tr.4 refl refl refl
        (goes_done (omega arith) refl refl
        (put_value d (rvalue (offset_value form size x.value y.value)) _ temps t2 _
        (ap (λ (v : Rvalue). rvalue (offset_value form size v.value (t2 (d + 1)).value))
        (p2.below d (omega arith) ∙ p1.value)
        ∙ ap (λ (v : Rvalue). rvalue (offset_value form size x.value v.value)) p2.value)
        (λ i l. p2.below i (omega arith) ∙ p1.below i l)))))))
    node_runs (difference size a b) kind line d n0 n1 temps k s tr ok good lt =
        let v = six (is_valid sc.scope a) (is_valid sc.scope b) _ _ _ _ ok in
        six_left kind (goes_counted
        (goes_sure _ (after a v.0 _ good) (two a d n0 tr.0 temps k _ tr.2 v.0 good lt) (λ x s1 t1 k1 p1 le1 is1 lv1 w1.
        goes_then (two b (d + 1) tr.0 tr.1 t1 k1 s1 tr.3 v.1 lv1.good (omega (arith, le1, lt)))
        (λ y s2 t2 k2 p2 le2 is2.
        goes_step 13 tr.4 refl refl refl
        (goes_done (omega arith) refl refl
        (put_value d (rvalue (difference_value size x.value y.value)) _ temps t2 _
        (ap (λ (v : Rvalue). rvalue (difference_value size v.value (t2 (d + 1)).value))
        (p2.below d (omega arith) ∙ p1.value)
        ∙ ap (λ (v : Rvalue). rvalue (difference_value size x.value v.value)) p2.value)
        (λ i l. p2.below i (omega arith) ∙ p1.below i l)))))))
    node_runs (logical_and a b) kind line d n0 n1 temps k s tr ok good lt =
        let v = five (is_valid sc.scope a) (is_valid sc.scope b) _ _ _ ok in
        six_left kind (goes_counted
        (goes_sure _ (after a v.0 _ good) (two a d n0 tr.0 temps k _ tr.5 v.0 good lt) (λ x s1 t1 k1 p1 le1 is1 lv1 w1.
        goes_branch 10 x _ _ tr.6 p1.value
        (goes_step 9 tr.9 refl refl refl
        (goes_done (omega arith) refl refl (put_value d (rvalue (integer 0)) _ temps t1 _ refl p1.below)))
        (goes_then (two b d tr.2 tr.1 t1 (k1 + 1) s1 tr.7 v.1 lv1.good (omega (arith, le1, lt)))
        (λ y s2 t2 k2 p2 le2 is2.
        goes_spare 8 (omega arith)
        (flag_goes (is_zero y.value) d tr.1 tr.4 tr.3 n1 temps t2 k2 s2 tr.8 tr.9 tr.10
        (ap (λ (v : Rvalue). is_zero v.value) p2.value) (λ i l. p2.below i l ∙ p1.below i l)))))))
    node_runs (logical_or a b) kind line d n0 n1 temps k s tr ok good lt =
        let v = five (is_valid sc.scope a) (is_valid sc.scope b) _ _ _ ok in
        six_left kind (goes_counted
        (goes_sure _ (after a v.0 _ good) (two a d n0 tr.0 temps k _ tr.5 v.0 good lt) (λ x s1 t1 k1 p1 le1 is1 lv1 w1.
        goes_branch 10 x _ _ tr.6 p1.value
        (goes_then (two b d tr.2 tr.1 t1 (k1 + 1) s1 tr.7 v.1 lv1.good (omega (arith, le1, lt)))
        (λ y s2 t2 k2 p2 le2 is2.
        goes_spare 8 (omega arith)
        (flag_goes (is_zero y.value) d tr.1 tr.4 tr.3 n1 temps t2 k2 s2 tr.8 tr.9 tr.10
        (ap (λ (v : Rvalue). is_zero v.value) p2.value) (λ i l. p2.below i l ∙ p1.below i l))))
        (goes_step 9 tr.10 refl refl refl
        (goes_done (omega arith) refl refl (put_value d (rvalue (integer 1)) _ temps t1 _ refl p1.below))))))
    node_runs (comma a b) kind line d n0 n1 temps k s tr ok good lt =
        let v = three (is_valid sc.scope a) (is_valid sc.scope b) _ ok in
        six_left kind (goes_counted
        (goes_sure _ (after a v.0 _ good) (two a d n0 tr.0 temps k _ tr.1 v.0 good lt) (λ x s1 t1 k1 p1 le1 is1 lv1 w1.
        goes_weak {P = ValueIn d t1} {b = 14} (omega arith) (λ v t s p. over p1 p)
        (goes_frame 11 0 3 (two b d tr.0 n1 t1 k1 s1 tr.2 v.1 lv1.good (omega (arith, le1, lt)))))))
    node_runs (conditional a b c) kind line d n0 n1 temps k s tr ok good lt =
        let v = six (is_valid sc.scope a) _ (is_valid sc.scope b) (is_valid sc.scope c) _ _ ok in
        six_left kind (goes_counted
        (goes_sure _ (after a v.0 _ good) (two a d n0 tr.0 temps k _ tr.3 v.0 good lt) (λ x s1 t1 k1 p1 le1 is1 lv1 w1.
        goes_branch 10 x _ _ tr.4 p1.value
        (goes_weak {P = ValueIn d t1} {b = 13} (omega arith) (λ v t s p. over p1 p)
        (goes_frame 10 0 3 (two c d tr.2 n1 t1 (k1 + 1) s1 tr.6 v.3 lv1.good (omega (arith, le1, lt)))))
        (goes_weak {P = ValueIn d t1} {b = 13} (omega arith) (λ v t s p. over p1 p)
        (goes_frame 10 0 3 (two b d tr.1 n1 t1 (k1 + 1) s1 tr.5 v.2 lv1.good (omega (arith, le1, lt))))))))
    node_runs (assign p a) kind line d n0 n1 temps k s tr ok good lt =
        let v = six (is_valid_lvalue sc.scope p) (is_lvalue p) (is_valid sc.scope a)
        (is_kind (lvalue_kind p) (kind_of a)) _ _ ok in
        let nm = named (assign p a) kind ok in
        six_left kind (goes_counted
        (goes_sure _ (after_place p v.0 _ good) (lvalue_runs p d n0 tr.0 temps k _ tr.4 v.0 good lt)
        (λ q s1 t1 k1 p1 le1 is1 lv1 w1.
        goes_sure _ (after a v.2 _ lv1.good)
        (two a (d + 1) tr.0 tr.1 t1 k1 s1 tr.5 v.2 lv1.good (omega (arith, le1, lt)))
        (λ x s2 t2 k2 p2 le2 is2 lv2 w2.
        let j = is_judged p in
        let pk = lvalue_kind p in
        let at = lvalue_line p in
        let w = 1 + stores_of pk + checks_of (mode_for j) in
        let most = write_cost pk j in
        let F : Rvalue → State → Stage = given_in u n1 t2 d frames in
        let z = at_work (k2 + w) s2 in
        let keys = keys_of (function_in t u) in
        let size = size_of_kind pk in
        goes_spare (w + 12) (omega (arith, most))
        (goes_steps w 12 tr.6 refl
        (both_true (ap (is_written pk) p2.value
        ∙ written_fits (function_count sc) declared.few pk x s2.objects
        (subst (λ y. ValueIs (function_count sc) y x s2.objects) (sym nm.3) w2))
        (write_key_fits p a v.0 tr.2 s1 s2 lv2.good q tr.3 w1 (t2 d) (p2.below d (omega arith) ∙ p1.value) (k2 + w)))
        (ap (λ (y : Rvalue). keyed keys tr.2 z y.value
        (admitted (mode_for j) size y s2.objects
        (moved_from pk (t2 (d + 1)) s2.objects
        (came (heavier (write_rvalue pk (is_through (mode_for j)) y.value at (t2 (d + 1))) z) F))))
        (p2.below d (omega arith) ∙ p1.value)
        ∙ ap (λ (y : Rvalue). keyed keys tr.2 z q.value
        (admitted (mode_for j) size q s2.objects
        (moved_from pk y s2.objects
        (came (heavier (write_rvalue pk (is_through (mode_for j)) q.value at y) z) F)))) p2.value
        ∙ key_opens keys tr.2 (write_key literals p a) s2 q.value tr.3
        (if_right j (key_after a (place_key literals p)) s2 q.value
        (later a s1 s2 x is2 lv2 (place_key literals p) q.value w1.tag (place_right env literals p _ s1 q is1)))
        (k2 + w) _
        ∙ access_opens (function_count sc) p size q s2.objects
        (reach_later (function_count sc) (basis_of p) nm.1 size q s1.objects s2.objects lv2.lives w1.reach) _
        ∙ value_moves (function_count sc) pk x s2.objects
        (subst (λ y. ValueIs (function_count sc) y x s2.objects) (sym nm.3) w2) _
        ∙ ap (λ b. came (heavier (write_rvalue pk b q.value at x) z) F) (through_is j))
        (goes_last_heavier F (acts_write_rvalue pk j q.value at x) (λ y s3 k3 e is3.
        goes_done (omega arith) refl refl
        (put_value d y y temps t2 s3 refl (λ i l. p2.below i (omega arith) ∙ p1.below i l)))))))))
    node_runs (assign_plain x a) kind line d n0 n1 temps k s tr ok good lt =
        let v = three (is_valid sc.scope a) (is_plain sc.scope x.variable (kind_of a)) (is_kind kind (kind_of a)) ok in
        let nm = named (assign_plain x a) kind ok in
        six_left kind (goes_counted_as (nodes_of x) 16 (omega arith)
        (goes_sure _ (after a v.0 _ good) (two a d n0 tr.0 temps k _ tr.1 v.0 good lt) (λ y s1 t1 k1 p1 le1 is1 lv1 w1.
        goes_step 18 tr.2 refl
        (plain_fits x.variable (kind_of a) nm.1 y s1 lv1.good w1 (t1 d) p1.value)
        (ap (λ (w : Rvalue). Stands u n1 t1 frames (at_work (k1 + 1) (with_plain x.variable w.value s1))) p1.value)
        (goes_done (omega arith) refl refl
        (turned (plain_contents (function_count sc) (kind_of a) y s1.objects
        (plain_is_no_structure sc.scope x.variable (kind_of a) nm.1) w1) p1)))))
    node_runs (compound w p a) kind line d n0 n1 temps k s tr ok good lt =
        let v = five (is_valid_lvalue sc.scope p) (is_lvalue p) (is_valid sc.scope a) _ _ ok in
        let nm = named (compound w p a) kind ok in
        six_left kind (goes_counted
        (goes_sure _ (after_place p v.0 _ good) (lvalue_runs p d n0 tr.0 temps k _ tr.4 v.0 good lt)
        (λ q s1 t1 k1 p1 le1 is1 lv1 w1.
        goes_sure _ (after a v.2 _ lv1.good)
        (two a (d + 1) tr.0 tr.1 t1 k1 s1 tr.5 v.2 lv1.good (omega (arith, le1, lt)))
        (λ y s2 t2 k2 p2 le2 is2 lv2 w2.
        let j = is_judged p in
        let sk = scalar_of (lvalue_kind p) in
        let at = lvalue_line p in
        let w' = 1 + updates_of (OfScalar sk) + checks_of (mode_for j) in
        let most = update_cost (OfScalar sk) j in
        let F : Rvalue → State → Stage = given_in u n1 t2 d frames in
        let z = at_work (k2 + w') s2 in
        let keys = keys_of (function_in t u) in
        goes_spare (w' + 11) (omega (arith, most))
        (goes_steps w' 11 tr.6 refl
        (both_true (kind_update_fits w (lvalue_kind p) nm.2)
        (write_key_fits p a v.0 tr.2 s1 s2 lv2.good q tr.3 w1 (t2 d) (p2.below d (omega arith) ∙ p1.value) (k2 + w')))
        (ap (λ (x : Rvalue). keyed keys tr.2 z x.value
        (admitted (mode_for j) (scalar_size sk) x s2.objects
        (came (as_rvalue (update sk (is_through (mode_for j)) x.value at (updated w sk (t2 (d + 1)).value line)
        Prefix) z) F))) (p2.below d (omega arith) ∙ p1.value)
        ∙ ap (λ (x : Rvalue). keyed keys tr.2 z q.value
        (admitted (mode_for j) (scalar_size sk) q s2.objects
        (came (as_rvalue (update sk (is_through (mode_for j)) q.value at (updated w sk x.value line) Prefix) z)
        F))) p2.value
        ∙ key_opens keys tr.2 (write_key literals p a) s2 q.value tr.3
        (if_right j (key_after a (place_key literals p)) s2 q.value
        (later a s1 s2 y is2 lv2 (place_key literals p) q.value w1.tag (place_right env literals p _ s1 q is1)))
        (k2 + w') _
        ∙ access_opens (function_count sc) p (scalar_size sk) q s2.objects
        (reach_scalar (function_count sc) (basis_of p) (lvalue_kind p) (updates_scalar w (lvalue_kind p) nm.2) q
        s2.objects (reach_later (function_count sc) (basis_of p) nm.1 (size_of_kind (lvalue_kind p)) q s1.objects
        s2.objects lv2.lives w1.reach)) _
        ∙ ap (λ b. came (as_rvalue (update sk b q.value at (updated w sk y.value line) Prefix) z) F) (through_is j))
        (goes_last F (acts_as (acts_update sk j q.value at w y.value line Prefix)) (λ x s3 k3 e.
        goes_done (omega arith) refl refl
        (put_value d x x temps t2 s3 refl (λ i l. p2.below i (omega arith) ∙ p1.below i l)))))))))
    node_runs (change_plain w x a) kind line d n0 n1 temps k s tr ok good lt =
        let v = three (is_valid sc.scope a) (is_plain sc.scope x.variable kind) _ ok in
        let nm = named (change_plain w x a) kind ok in
        let sk = scalar_of kind in
        six_left kind (goes_counted_as (nodes_of x) 16 (omega arith)
        (goes_sure _ (after a v.0 _ good) (two a d n0 tr.0 temps k _ tr.1 v.0 good lt)
        (λ y s1 t1 k1 p1 le1 is1 lv1 w1.
        let F : Rvalue → State → Stage = given_in u n1 t1 d frames in
        let z = at_work (k1 + 2) s1 in
        goes_steps 2 17 tr.2 refl (plain_update_fits w kind x.variable s1 lv1.good nm.1 nm.2)
        (ap (λ (v : Rvalue). came (as_rvalue (update_plain x.variable (updated w sk v.value line) Prefix) z)
        F) p1.value)
        (goes_last F (acts_as
        (acts_update_plain x.variable (updated w sk y.value line) Prefix (acts_updated w sk y.value line)))
        (λ v s2 k2 e.
        goes_done (omega arith) refl refl (put_value d v v temps t1 s2 refl p1.below))))))
    node_runs (step w fixity p) kind line d n0 n1 temps k s tr ok good lt =
        let v = four (is_valid_lvalue sc.scope p) (is_lvalue p) _ _ ok in
        let nm = named (step w fixity p) kind ok in
        six_left kind (goes_counted
        (goes_sure _ (after_place p v.0 _ good) (lvalue_runs p d n0 tr.0 temps k _ tr.3 v.0 good lt)
        (λ q s1 t1 k1 p1 le1 is1 lv1 w1.
        let j = is_judged p in
        let sk = scalar_of (lvalue_kind p) in
        let at = lvalue_line p in
        let w' = 1 + updates_of (OfScalar sk) + checks_of (mode_for j) in
        let most = update_cost (OfScalar sk) j in
        let F : Rvalue → State → Stage = given_in u n1 t1 d frames in
        let z = at_work (k1 + w') s1 in
        let keys = keys_of (function_in t u) in
        goes_spare (w' + 8) (omega (arith, most))
        (goes_steps w' 8 tr.4 refl
        (both_true (kind_update_fits w (lvalue_kind p) nm.2)
        (read_key_fits p v.0 tr.1 s1 lv1.good q tr.2 w1 (t1 d) p1.value (k1 + w')))
        (ap (λ (x : Rvalue). keyed keys tr.1 z x.value
        (admitted (mode_for j) (scalar_size sk) x s1.objects
        (came (as_rvalue (update sk (is_through (mode_for j)) x.value at (updated w sk (integer 1) line) fixity) z)
        F))) p1.value
        ∙ key_opens keys tr.1 (read_key literals p) s1 q.value tr.2
        (if_right j (place_key literals p) s1 q.value (place_right env literals p _ s1 q is1)) (k1 + w') _
        ∙ access_opens (function_count sc) p (scalar_size sk) q s1.objects
        (reach_scalar (function_count sc) (basis_of p) (lvalue_kind p) (updates_scalar w (lvalue_kind p) nm.2) q
        s1.objects w1.reach) _
        ∙ ap (λ b. came (as_rvalue (update sk b q.value at (updated w sk (integer 1) line) fixity) z) F) (through_is j))
        (goes_last F (acts_as (acts_update sk j q.value at w (integer 1) line fixity)) (λ x s2 k2 e.
        goes_done (omega arith) refl refl (put_value d x x temps t1 s2 refl p1.below)))))))
    node_runs (step_plain w fixity x) kind line d n0 n1 temps k s tr ok good lt =
        let sk = scalar_of kind in
        let nm = named (step_plain w fixity x) kind ok in
        let F : Rvalue → State → Stage = given_in u n1 temps d frames in
        six_left kind (goes_counted_as (nodes_of x) 16 (omega arith)
        (goes_steps 2 14 tr refl (plain_update_fits w kind x.variable s good nm.0 nm.1) refl
        (goes_last F (acts_as
        (acts_update_plain x.variable (updated w sk (integer 1) line) fixity (acts_updated w sk (integer 1) line)))
        (λ v s2 k2 e.
        goes_done (omega arith) refl refl (put_value d v v temps temps s2 refl (λ i l. refl))))))
    node_runs (call f args) kind line d n0 n1 temps k s tr ok good lt =
        let v = three (are_valid sc.scope args) _ _ ok in
        let nm = named (call f args) kind ok in
        six_left kind (goes_counted
        (goes_sure _ (after_each args v.0 _ good) (goes_less {b = args_left args} 0 (omega arith)
        (arguments_leave args d n0 tr.0 temps k _ tr.1 v.0 good lt))
        (λ vs s1 t1 k1 p1 le1 is1 lv1 w1.
        let w = Waits (record { function = u; node = n1; place = d; caller = caller s1; temps = t1 }) in
        let taken = subst (λ ks. ArgumentsAre (function_count sc) ks vs s1.objects) nm.1 w1 in
        let does = ap (λ j. act_at g t j u t1 frames (at_work k1 s1)) tr.2
        ∙ only_opens _ (ap (fit_call (function_in t f)) p1.values ∙ call_fits f vs s1.objects taken)
        ∙ ap (λ l. called g t f l line (w ∷ frames) (at_work (k1 + 6) s1)) p1.values in
        goes_less {b = 9} 6 (omega arith)
        (goes_frame 2 6 7 (back_by 6 n1 d temps t1 _ k1 s1 _ p1.below
        (calls 6 f vs line (w ∷ frames) _ k1 s1 (record { steps = does; seen_now = refl }) lv1.good
        taken (omega (arith, le1, lt))))))))
    node_runs (call_through type_number a args) kind line d n0 n1 temps k s tr ok good lt =
        let v = five (is_valid sc.scope a) _ (are_valid sc.scope args) _ _ ok in
        let nm = named (call_through type_number a args) kind ok in
        six_left kind (goes_counted
        (goes_sure _ (after a v.0 _ good) (two a d n0 tr.0 temps k _ tr.2 v.0 good lt) (λ x s1 t1 k1 p1 le1 is1 lv1 w1.
        goes_sure _ (after_each args v.2 _ lv1.good)
        (goes_less {b = args_left args} 0 (omega arith)
        (arguments_leave args (d + 1) tr.0 tr.1 t1 k1 s1 tr.3 v.2 lv1.good (omega (arith, le1, lt))))
        (λ vs s2 t2 k2 p2 le2 is2 lv2 w2.
        let w = Waits (record { function = u; node = n1; place = d; caller = caller s2; temps = t2 }) in
        let z = at_work (k2 + 8) s2 in
        let e : t2 d ≡ x = p2.below d (omega arith) ∙ p1.value in
        let taken = subst (λ ks. ArgumentsAre (function_count sc) ks vs s2.objects) nm.2 w2 in
        let does =
        ap (λ j. act_at g t j u t2 frames (at_work k2 s2)) tr.4
        ∙ only_opens _ (ap (fit_type g.functions type_number) p2.values ∙ through_fits type_number vs s2.objects taken)
        ∙ ap (λ (v : Rvalue). came (callee g.functions type_number v.value line z)
        (λ f z. called g t f (gathered t2 (d + 1) (count args)) line (w ∷ frames) z)) e
        ∙ ap (λ l. came (callee g.functions type_number x.value line z)
        (λ f z. called g t f l line (w ∷ frames) z)) p2.values
        in
        goes_less {b = 10} 6 (omega arith)
        (goes_frame 3 8 7
        (through_goes n sc env sure refl calls vs line n1 d temps t2 _ k2 s2 lv2.good type_number taken refl (omega
        (arith, le1, le2, lt))
        (λ i l. p2.below i (omega arith) ∙ p1.below i l) x.value.word x.value.tag does))))))
    node_runs (library name args) kind line d n0 n1 temps k s tr ok good lt =
        let v = both (are_valid sc.scope args) _ ok in
        let plain = subst IsNoStructure (sym (named (library name args) kind ok).2) (none_routine name) in
        let rest = plainly_left kind false plain in
        goes_counted
        (goes_sure _ (after_each args v.0 _ good) (goes_less {b = args_left args} 0 (omega arith)
        (arguments_leave args d n0 tr.0 temps k _ tr.1 v.0 good lt)) (λ vs s1 t1 k1 p1 le1 is1 lv1 w1.
        let F : Rvalue → State → Stage = given_in u n1 t1 d frames in
        goes_counted
        (goes_steps 12 4 tr.2 refl
        (ap (are_passed (routine_signature name).parameters) p1.values
        ∙ arguments_fit (function_count sc) declared.few (routine_signature name).parameters vs s1.objects
        (routine_values name)
        (subst (λ ks. ArgumentsAre (function_count sc) ks vs s1.objects) (named (library name args) kind ok).1 w1))
        (ap (λ l. came (heavier (as_rvalue (routine g name (values_of l) line)) (at_work (k1 + 12) s1)) F) p1.values)
        (goes_last_heavier F (acts_as (acts_routine g name (values_of vs) line))
        (λ v s2 k2 e is2. goes_done (omega (arith, rest)) refl refl (put_value d v v temps t1 s2 refl p1.below))))))
    node_runs (printf format args) kind line d n0 n1 temps k s tr ok good lt =
        let v = three (are_valid sc.scope args) _ _ ok in
        let each = formatted_left (pieces format) args v.1 in
        let paid = 2 + 3 * count args in
        six_left kind (goes_counted (goes_counted
        (goes_sure _ (after_each args v.0 _ good) (arguments_leave args d n0 tr.0 temps k _ tr.3 v.0 good lt)
        (λ vs s1 t1 k1 p1 le1 is1 lv1 w1.
        let F : Rvalue → State → Stage = given_in u n1 t1 d frames in
        let z = at_work (k1 + paid) s1 in
        goes_counted
        (goes_spare (paid + 22) (omega (arith, each))
        (goes_steps paid 22 tr.4 refl
        (ap (λ b. are_printed (pieces b) (gathered t1 d (count args))) (text_at t tr.1 format tr.2)
        ∙ ap (are_printed (pieces format)) p1.values
        ∙ printed_fits (pieces format) (kinds_of args) vs v.1
        (arguments_fit (function_count sc) declared.few (kinds_of args) vs s1.objects
        (printed_values (pieces format) (kinds_of args) v.1) w1))
        (ap (λ l. came (heavier (as_rvalue (print_formatted (text_in t tr.1) (values_of l) line)) z) F) p1.values
        ∙ ap (λ b. came (heavier (as_rvalue (print_formatted b (values_of vs) line)) z) F) (text_at t tr.1 format tr.2))
        (goes_last_heavier F (acts_as (acts_print format (values_of vs) line))
        (λ v s2 k2 e is2. goes_done (omega arith) refl refl (put_value d v v temps t1 s2 refl p1.below)))))))))
    node_runs (convert a) kind line d n0 n1 temps k s tr ok good lt =
        let v = three (is_valid sc.scope a) (is_conversion (kind_of a) kind) _ ok in
        let rest = plainly_left kind true (named (convert a) kind ok).1 in
        goes_sure _ (after a v.0 _ good)
        (goes_less 4 (not_converted a (false_by (is_converted a) v.2))
        (expression_runs a d n0 tr.0 temps k s tr.1 v.0 good lt))
        (λ x s1 t1 k1 p1 le1 is1 lv1 w1.
        goes_less (left_by kind true) (omega (arith, rest))
        (conversion_runs (function_count sc) (kind_of a) kind (keeps (kind_of a) kind) 3 d tr.0 n1 temps t1 k1 s1 x
        literals vars refl tr.2 p1.value p1.below w1))

    pub lvalue_runs : (p : Lvalue) (d n0 n1 : ℕ) (temps : Temps) (k : ℕ) (s : State)
        → LowersLvalue (placed t u literals vars) p d n0 n1 → is_valid_lvalue sc.scope p ≡ true → IsGood sc s
        → limit < n + s.turns
        → Goes g t limit 0 (place_left (is_judged p)) u frames (λ v. n1) (ValueIn d temps)
        (Stands u n0 temps frames (at_work k s)) k s (place env p s)
    lvalue_runs (lvalue kind line node) d n0 n1 temps k s tr ok good lt = place_runs node kind d n0 n1 temps k s tr ok
        good lt

    place_runs : (node : LvalueNode) (kind : Kind) (d n0 n1 : ℕ) (temps : Temps) (k : ℕ) (s : State)
        → LowersPlace (placed t u literals vars) node d n0 n1 → is_valid_lvalue_node sc.scope node kind ≡ true
        → IsGood sc s
        → limit < n + s.turns
        → Goes g t limit 0 (place_left (is_node_judged node)) u frames (λ v. n1) (ValueIn d temps)
        (Stands u n0 temps frames (at_work k s)) k s (node_place env node s)
    place_runs (automatic x) kind d n0 n1 temps k s tr ok good lt =
        goes_counted (goes_step 7 tr refl (home_fits x kind ok s good) refl
        (goes_done (omega arith) refl refl
        (put_value d (rvalue (home_pointer x s)) _ temps temps _ refl (λ i l. refl))))
    place_runs (static m) kind d n0 n1 temps k s tr ok good lt =
        goes_counted (goes_step 7 tr refl (static_fits m kind ok) refl
        (goes_done (omega arith) refl refl
        (put_value d (rvalue (pointer_to m s.objects)) _ temps temps _ refl (λ i l. refl))))
    place_runs (deref a) kind d n0 n1 temps k s tr ok good lt =
        let v = three (is_valid sc.scope a) (is_kind (kind_of a) pointer) _ ok in
        goes_counted
        (goes_sure _ (after a v.0 _ good) (two a d n0 n1 temps k _ tr v.0 good lt) (λ x s1 t1 k1 p1 le1 is1 lv1 w1.
        goes_done (omega arith) refl refl (turned (pointer_contents (function_count sc) a v.1 x s1.objects w1) p1)))
    place_runs (index form size a b) kind d n0 n1 temps k s tr ok good lt =
        let p = both _ (is_size size) ok in
        let v = six (is_valid sc.scope a) (is_valid sc.scope b) _ _ _ _ p.0 in
        goes_counted
        (goes_sure _ (after a v.0 _ good) (two a d n0 tr.0 temps k _ tr.2 v.0 good lt) (λ x s1 t1 k1 p1 le1 is1 lv1 w1.
        goes_then (two b (d + 1) tr.0 tr.1 t1 k1 s1 tr.3 v.1 lv1.good (omega (arith, le1, lt)))
        (λ y s2 t2 k2 p2 le2 is2.
        goes_steps 2 12 tr.4 refl refl refl
        (goes_done (omega arith) refl refl
        (put_value d (rvalue (offset_value form size x.value y.value)) _ temps t2 _
        (ap (λ (v : Rvalue). rvalue (offset_value form size v.value (t2 (d + 1)).value))
        (p2.below d (omega arith) ∙ p1.value)
        ∙ ap (λ (v : Rvalue). rvalue (offset_value form size x.value v.value)) p2.value)
        (λ i l. p2.below i (omega arith) ∙ p1.below i l))))))
    place_runs (member p offset size) kind d n0 n1 temps k s tr ok good lt =
        let v = three (is_valid_lvalue sc.scope p) (has_member (lvalue_kind p) offset size) _ ok in
        goes_counted
        (goes_then (lvalue_runs p d n0 tr.0 temps k _ tr.1 v.0 good lt) (λ q s1 t1 k1 p1 le1 is1.
        let seven = seven_left (is_judged p) in
        goes_spare (2 + place_left (is_judged p)) (omega arith)
        (goes_steps 2 (place_left (is_judged p)) tr.2 refl (in_place (t1 d).contents d) refl
        (goes_done (omega arith) refl refl
        (put_value d (member_of offset size q) _ temps t1 _ (ap (member_of offset size) p1.value) p1.below)))))
    place_runs (arrow a offset size) kind d n0 n1 temps k s tr ok good lt =
        let v = three (is_valid sc.scope a) (is_kind (kind_of a) pointer) _ ok in
        goes_counted
        (goes_then (two a d n0 tr.0 temps k _ tr.1 v.0 good lt) (λ q s1 t1 k1 p1 le1 is1.
        goes_steps 2 9 tr.2 refl refl refl
        (goes_done (omega arith) refl refl
        (put_value d (rvalue (narrowed offset size q.value)) _ temps t1 _
        (ap (λ (z : Rvalue). rvalue (narrowed offset size z.value)) p1.value) p1.below))))
    place_runs (member_of_value a offset size) kind d n0 n1 temps k s tr ok good lt =
        let v = three (is_valid sc.scope a) (has_member (kind_of a) offset size) _ ok in
        goes_counted
        (goes_then (two a d n0 tr.0 temps k _ tr.1 v.0 good lt) (λ q s1 t1 k1 p1 le1 is1.
        goes_steps 2 9 tr.2 refl (in_place (t1 d).contents d) refl
        (goes_done (omega arith) refl refl
        (put_value d (member_of offset size q) _ temps t1 _ (ap (member_of offset size) p1.value) p1.below))))
    place_runs (parenthesized_lvalue p) kind d n0 n1 temps k s tr ok good lt =
        let v = both (is_valid_lvalue sc.scope p) (is_kind kind (lvalue_kind p)) ok in
        goes_counted (goes_less {b = place_left (is_judged p) + 8} (place_left (is_judged p)) (omega arith)
        (goes_frame 8 0 (place_left (is_judged p)) (lvalue_runs p d n0 n1 temps k _ tr v.0 good lt)))

    pub argument_at : (e : Expression) (d n0 j n1 : ℕ) (temps : Temps) (k : ℕ) (s : State)
        → LowersExpression (placed t u literals vars) e d n0 j → LowersTaking (placed t u literals vars) (kind_of e)
        (line_of e) d j n1
        → is_valid sc.scope e ≡ true → IsGood sc s → limit < n + s.turns
        → GoesLeaving g t limit 0 (λ w. taken_left (kind_of e) + handing w) u frames (λ v. n1) (ValueIn d temps)
        (Stands u n0 temps frames (at_work k s)) k s (argument (kind_of e) (line_of e) (evaluate env e) s)
    argument_at (expression kind line node) d n0 j n1 temps k s tr take ok good lt =
        goes_sure _ (after (expression kind line node) ok _ good)
        (goes_less (left_by kind true) (converted_left kind (is_convert node))
        (node_runs node kind line d n0 j temps k s tr ok good lt))
        (λ v s1 t1 k1 p1 le1 is1 lv1 w1.
        goes_spare (left_by kind true) (omega arith)
        (taking_runs (function_count sc) kind line d j n1 temps t1 k1 s1 v literals vars take p1.value p1.below w1))

    arguments_leave : (es : Expressions) (d n0 n1 : ℕ) (temps : Temps) (k : ℕ) (s : State)
        → LowersArguments (placed t u literals vars) es d n0 n1 → are_valid sc.scope es ≡ true → IsGood sc s
        → limit < n + s.turns
        → Goes g t limit 0 (args_left es) u frames (λ vs. n1) (ValuesIn d temps (count es))
        (Stands u n0 temps frames (at_work k s)) k s (each_value (values env es) s)
    arguments_leave no_expressions d n0 n1 temps k s tr ok good lt =
        goes_at tr (goes_done (omega arith) refl refl (record { values = refl; below = λ i l. refl }))
    arguments_leave (expressions e es) d n0 n1 temps k s tr ok good lt =
        let v = both (is_valid sc.scope e) (are_valid sc.scope es) ok in
        goes_sure _ ((argument_sure sure e (names (agree_same sc.scope) e v.0)).by _ good tt)
        (argument_at e d n0 tr.0 tr.1 temps k s tr.2 tr.3 v.0 good lt) (λ x s1 t1 k1 p1 le1 is1 lv1 w1.
        goes_then (arguments_leave es (d + 1) tr.1 n1 t1 k1 s1 tr.4 v.1 lv1.good (omega (arith, le1, lt)))
        (λ xs s2 t2 k2 p2 le2 is2.
        goes_done (omega arith) refl refl (record {
          values = ap (λ z. z ∷ gathered t2 (d + 1) (count es)) (p2.below d (omega arith) ∙ p1.value)
              ∙ ap (λ l. x ∷ l) p2.values;
          below = λ i l. p2.below i (omega arith) ∙ p1.below i l;
        })))
