-- The code of a program does what the program means.
use Rattle.std.proofs.Common.{◌≡◌, ℕ, zero, suc, ◌+◌, ◌-◌, ◌*◌, ◌<◌, ◌≤◌, List, [], ◌∷◌, ◌++◌, Option, Some, None}
use Rattle.std.proofs.Common.{◌^◌, Bool, true, false, refl, sym, ap, ◌∙◌, subst, arith, eq-eqb}
use Rattle.std.proofs.lemmas.List.{length-map}
use Rattle.std.specs.Prelude.{slice_get, map, length, nat_lt, nat_le, if◌then◌else◌}
use Rattle.std.specs.List.{list_all}
use Rattle.std.proofs.lemmas.Bool.{ltb-true, ltb-false, leb-true}
use Rattle.behaviours.specs.Behaviour.{Meets, Follows}
use Rattle.behaviours.specs.Steps.{run, seen_after}
use Rattle.behaviours.proofs.Running.{run_add}
use Rattle.sb_base.specs.Budgets.{BudgetSizes}
use Rattle.sb_base.specs.Endings.{report_of}
use Rattle.sb_base.specs.declared.ending.Ending.TheVariants.{Exit}
use Rattle.addr_map.specs.Places.{AreMapped, function_address}
use Rattle.obj_memory.specs.declared.object.Storage.TheVariants.{Automatic}
use Rattle.obj_memory.specs.declared.value.Scalar.TheVariants.{Integer, Pointer}
use Rattle.obj_memory.specs.Heap.{rounded_up}
use Rattle.obj_memory.proofs.Words.{fit_zero}
use Rattle.obj_memory.specs.Objects.{Objects, object_at}
use Rattle.c_tree.specs.declared.program.Variable.{Variable}
use Rattle.c_tree.specs.declared.expression.Kind.{Kind}
use Rattle.c_tree.specs.declared.expression.Kind.TheVariants.{Void, Scalar as OfScalar, Structure, Array}
use Rattle.c_tree.specs.Kinds.{has_size, size_of_kind, is_kind, is_scalar, is_value, Signature}
use Rattle.c_tree.specs.Programs.{Function, Program}
use Rattle.c_tree.specs.Blocks.{all_of, block_variables, body_variables, closed}
use Rattle.c_tree.specs.Valid.{Scope}
use Rattle.c_tree.specs.ValidProgram.{is_variable, are_parameters, are_statements, declares_all, function_scope}
use Rattle.c_tree.specs.ValidProgram.{signature_at, is_function_type, are_all_different, is_static_object, is_function}
use Rattle.c_tree.specs.ValidProgram.{are_functions, is_main, is_valid_program, Inside as Surrounding}
use Rattle.source_meaning.specs.State.{State, Rvalue, Outcome, Gives, Ended, Paused, Run, on, ◌>>=◌, ◌>>◌, done, change}
use Rattle.source_meaning.specs.State.{choose, Header, Setting, Env}
use Rattle.source_meaning.specs.Actions.{int_of, integer}
use Rattle.source_meaning.specs.Structures.{rvalue, zero_of, contents_size, make_zero}
use Rattle.source_meaning.specs.Expressions.{counted}
use Rattle.source_meaning.specs.Statements.{Completion, Normal, Broken, Continued, Returned, in_order, each_of}
use Rattle.source_meaning.specs.Calls.{header_of, function_at, Caller, caller, back_to, returned_by, result_of, set_up}
use Rattle.source_meaning.specs.Calls.{enter_begun, enter_found, calls, env_of}
use Rattle.source_meaning.specs.Meaning.{setting_of, initial_objects, fresh, line_of, moment_at, moment_of, ended_at}
use Rattle.source_meaning.specs.Meaning.{meaning}
use Rattle.source_meaning.specs.Acting.{at_work, ActsBy, state_of}
use Rattle.source_meaning.specs.Working.{HaveBytes}
use Rattle.source_meaning.specs.Good.{static_kind, IsHeld, After, CompletionIs}
use Rattle.source_meaning.specs.Good.{Context, IsGood, ArgumentIs, ArgumentsAre, signature_in, context_of, Inside}
use Rattle.source_meaning.specs.Good.{IsSetUp, SetsUpBy}
use Rattle.source_meaning.proofs.ActionsAct.{acts_set_up}
use Rattle.source_meaning.proofs.Working.{counts_set_up}
use Rattle.tac_ir.specs.Costs.{handing, fourfold, heavier}
use Rattle.source_meaning.specs.Places.{statics_first}
use Rattle.source_meaning.proofs.SureFlow.{row_sure}
use Rattle.source_meaning.proofs.Naming.{FunctionsName}
use Rattle.source_meaning.proofs.Naming.{ProgramNames, FunctionNames, kinds_in, scope_of, names_of}
use Rattle.source_meaning.proofs.Stays.{expression_stays}
use Rattle.source_meaning.proofs.StaysFlow.{body_stays}
use Rattle.source_meaning.proofs.Laying.{fresh_size}
use Rattle.source_meaning.proofs.SureCalls.{set_up_by}
use Rattle.source_meaning.proofs.SureMeaning.{NamesFound, found_names, SignatureIs, signature_found, static_context}
use Rattle.source_meaning.proofs.SureMeaning.{is_setting, start_good, inside_good}
use Rattle.source_meaning.proofs.ValidNames.{both, three, five, six, same_kind}
use Rattle.source_meaning.proofs.ValidProgramNames.{valid_names}
use Rattle.tac_ir.specs.declared.instruction.Instruction.TheVariants as tac
use Rattle.tac_ir.specs.declared.function.CodeFunction.{CodeFunction}
use Rattle.tac_ir.specs.declared.function.StaticData.{StaticData}
use Rattle.tac_ir.specs.declared.function.Tac.{Tac}
use Rattle.tac_ir.specs.Fitting.{is_passed, taken_by}
use Rattle.tac_ir.specs.Meaning.{loops_of, type_of, placed_data}
use Rattle.tac_ir.proofs.Fits.{only_opens}
use Rattle.source_meaning.proofs.LimitLaw.{is_source}
use Rattle.tac_ir.proofs.Turns.{follower_never_stuck}
use Rattle.tac_ir.specs.Stage.{Temps, no_temps, with_temp, Frame, Stage, Begins, Stands, Stuck, came, seen}
use Rattle.tac_ir.specs.Meaning.{code_of, keys_of, variables_in, blocks_in, function_in, at_node, header_of_code}
use Rattle.tac_ir.specs.Meaning.{setting_of_code, begun, called_at, called, given_to, act_at, line_in, objects_before}
use Rattle.tac_ir.specs.Meaning.{step, first_stage, tac_meaning}
use Rattle.c_lower.specs.Programs.{literals_of, function_exits, LowersBody, LowersFunction, result_in, height_in}
use Rattle.c_lower.specs.Programs.{LowersAt}
use Rattle.c_lower.specs.Programs.{IsLowered}
use Rattle.c_lower.proofs.Comes.{Reached, reached_for}
use Rattle.c_lower.proofs.Temporaries.{placed, put_same}
use Rattle.c_lower.proofs.Values.{Called, Calls, CallsRun}
use Rattle.c_lower.proofs.KeyNames.{HaveSizes, both_true}
use Rattle.c_lower.proofs.Fitting.{passed_fits, AreDeclared}
use Rattle.c_lower.proofs.Returning.{ReturnsZero, CompletesWithZero, GivesNothing, row_nothing}
use Rattle.c_lower.proofs.Opening.{EachOpens, body_opens, Homed, HomedBy, set_up_homed}
use Rattle.c_lower.proofs.Flow.{exit_of, LeftBy, with_result, Completes, AreNamed, named_opened, named_closed}
use Rattle.c_lower.proofs.Flow.{named_append}
use Rattle.c_lower.proofs.Statements.{statements_run}

-- the objects among the variables of a function have bytes

sized_variable : (b : Bool) (k kind : Kind) → (if b then has_size k else true) ≡ true
    → (if b then Some k else None) ≡ Some kind → 1 ≤ size_of_kind kind
sized_variable true k kind h e =
    let same : k ≡ kind = cc in
    let le = leb-true 1 (size_of_kind k) (both (nat_le 1 (size_of_kind k)) _ h).0 in
    subst (λ z. 1 ≤ size_of_kind z) same le
sized_variable false k kind h e = cc

object_sized : (v : Variable) → is_variable v ≡ true → (if v.is_object then has_size v.kind else true) ≡ true
object_sized v h = by v.is_object h
  where
    by : (b : Bool) → (if b then has_size v.kind else is_scalar v.kind) ≡ true
        → (if b then has_size v.kind else true) ≡ true
    by true h = h
    by false h = refl

sized_all : (vs : List Variable) → list_all is_variable vs ≡ true → HaveBytes vs
sized_all [] h x kind e = cc
sized_all (v ∷ vs) h zero kind e = sized_variable v.is_object v.kind kind
    (object_sized v (both (is_variable v) (list_all is_variable vs) h).0) e
sized_all (v ∷ vs) h (suc x) kind e = sized_all vs (both (is_variable v) (list_all is_variable vs) h).1 x kind e

-- those that its body enters
named_body : (f : Function) → AreNamed (all_of f) (f.parameters ++ body_variables f)
named_body f = named_append f.parameters f.variables (body_variables f)
    (named_opened (block_variables f.body) (length f.parameters) f.variables (map closed f.variables)
    (named_closed f.variables))

-- what functions take is what their types say
header_takes : (u : ProgramNames) (fs : List Function) → FunctionsName u fs → (f : ℕ) (h : Header)
    → slice_get (map header_of fs) f ≡ Some h → taken_by h ≡ (signature_in u.types h.type_number).parameters
header_takes u [] names f h e = cc
header_takes u (x ∷ xs) names zero h e =
    let is : header_of x ≡ h = cc in
    subst (λ (z : Header). taken_by z ≡ (signature_in u.types z.type_number).parameters) is names.0.parameters
header_takes u (x ∷ xs) names (suc f) h e = header_takes u xs names.1 f h e

few_addresses : (n : ℕ) → n ≤ 4096 → function_address n ≤ 2 ^ 64
unfolding function_address
few_addresses n le = omega (arith, le)

-- the objects before the run have the sizes of their data
data_at : (first : ℕ) (ds : List StaticData) (offset n : ℕ) → n < length (placed_data first ds offset)
    → (d : StaticData) × (slice_get ds n ≡ Some d)
    × ((object_at (placed_data first ds offset) n).size ≡ d.size)
data_at first [] offset n lt = absurd (omega (arith, lt))
data_at first (d ∷ ds) offset zero lt = (d, refl, refl)
data_at first (d ∷ ds) offset (suc n) lt =
    data_at first ds (rounded_up 16 offset + d.size) n (omega (arith, lt))

sizes_from : (ks : List Kind) (first : ℕ) (ds : List StaticData)
    → ((n : ℕ) (kind : Kind) → static_kind ks n ≡ Some kind → IsHeld (placed_data first ds 0) n kind)
    → HaveSizes ks ds
sizes_from ks first ds held n kind e =
    let h = held n kind e in
    let d = data_at first ds 0 n h.made in
    (d.0, d.1, sym d.2 ∙ h.size)

-- functions of a valid program

-- what they take is values
valued_parameters : (vs : List Variable) (ks : List Kind) → are_parameters vs ks ≡ true
    → list_all is_value (map (λ v. v.kind) vs) ≡ true
valued_parameters [] ks e = refl
valued_parameters (v ∷ vs) [] e = cc
valued_parameters (v ∷ vs) (k ∷ ks) e =
    let q = three (is_kind v.kind k) (is_value k) (are_parameters vs ks) e in
    both_true (ap is_value (same_kind v.kind k q.0) ∙ q.1) (valued_parameters vs ks q.2)

abbrev outside_loops : Surrounding
outside_loops = record { may_break = false; may_continue = false }

record IsValidFunction (p : Program) (f : Function) : Type 0 where
  sized : HaveBytes (all_of f)
  takes : list_all is_value (taken_by (header_of f)) ≡ true
  body : are_statements (function_scope p f) outside_loops f.body ≡ true
  opens : EachOpens (all_of f) (f.parameters ++ body_variables f) f.body

abbrev ValidIf : Program → Option Function → Type 0
ValidIf p None = Unit {0}
ValidIf p (Some f) = IsValidFunction p f

module _ (p : Program) where
  valid_function : (n : ℕ) (f : Function) → is_function p n f ≡ true → IsValidFunction p f
  valid_function n f h =
      let q = six _ (are_parameters f.parameters (signature_at p f.type_number).parameters)
      (list_all is_variable (all_of f)) (declares_all f) (are_statements (function_scope p f) outside_loops f.body)
      _ h in
      record {
        sized = sized_all (all_of f) q.2;
        takes = valued_parameters f.parameters (signature_at p f.type_number).parameters q.1;
        body = q.4;
        opens = body_opens f q.3;
      }

  valid_functions : (n : ℕ) (fs : List Function) → are_functions p n fs ≡ true → (f : ℕ) → ValidIf p (function_at fs f)
  valid_functions n [] h f = tt
  valid_functions n (x ∷ xs) h zero = valid_function n x (both (is_function p n x) (are_functions p (suc n) xs) h).0
  valid_functions n (x ∷ xs) h (suc f) = valid_functions (suc n) xs
      (both (is_function p n x) (are_functions p (suc n) xs) h).1 f

  functions_valid : is_valid_program p ≡ true → (f : ℕ) → ValidIf p (function_at p.functions f)
  unfolding is_valid_program
  functions_valid h =
      let q = five (list_all (is_function_type p) p.function_types) (are_all_different p.function_types)
      (list_all (is_static_object p) p.statics) (are_functions p 0 p.functions) (is_main p) h in
      valid_functions 0 p.functions q.3

  header_valued : (fs : List Function) → ((f : ℕ) → ValidIf p (function_at fs f)) → (f : ℕ) (h : Header)
      → slice_get (map header_of fs) f ≡ Some h → list_all is_value (taken_by h) ≡ true
  header_valued [] ok f h e = cc
  header_valued (x ∷ xs) ok zero h e =
      let is : header_of x ≡ h = cc in
      subst (λ (z : Header). list_all is_value (taken_by z) ≡ true) is (ok 0).takes
  header_valued (x ∷ xs) ok (suc f) h e = header_valued xs (λ n. ok (suc n)) f h e

-- calls

-- a result that a function returns is passed on
abbrev HasPassed : Kind → Completion → Type 0
HasPassed kind Normal = Unit {0}
HasPassed kind Broken = Unit {0}
HasPassed kind Continued = Unit {0}
HasPassed kind (Returned v) = is_passed kind v ≡ true

zero_fits : (kind : Kind) → is_passed kind (zero_of kind) ≡ true
zero_fits Void = refl
zero_fits (OfScalar (Integer t)) = eq-eqb _ _ (fit_zero t)
zero_fits (OfScalar Pointer) = refl
zero_fits (Structure n) = both_true (eq-eqb _ _ (fresh_size Automatic 0 n)) refl
zero_fits (Array n) = refl

-- where nothing is given, it is 0
returned_fits : (fc : ℕ) → function_address fc ≤ 2 ^ 64 → (kind : Kind) (v : Rvalue) (objects : Objects)
    → ArgumentIs fc kind v objects → (kind ≡ Void → v ≡ rvalue (integer 0)) → is_passed kind v ≡ true
returned_fits fc few Void v objects h nothing = ap (is_passed Void) (nothing refl)
returned_fits fc few (OfScalar k) v objects h nothing = passed_fits fc few (OfScalar k) v (λ e. cc) objects h
returned_fits fc few (Structure n) v objects h nothing = passed_fits fc few (Structure n) v (λ e. cc) objects h
returned_fits fc few (Array n) v objects h nothing = passed_fits fc few (Array n) v (λ e. cc) objects h

completion_fits : (fc : ℕ) → function_address fc ≤ 2 ^ 64 → (kind : Kind) (completion : Completion)
    (objects : Objects) → CompletionIs fc kind completion objects → (kind ≡ Void → ReturnsZero completion)
    → HasPassed kind completion
completion_fits fc few kind Normal objects h nothing = tt
completion_fits fc few kind Broken objects h nothing = tt
completion_fits fc few kind Continued objects h nothing = tt
completion_fits fc few kind (Returned v) objects h nothing = returned_fits fc few kind v objects h nothing

after_fits : (fc : ℕ) → function_address fc ≤ 2 ^ 64 → (kind : Kind) (sc : Context) (s : State) (r : Run Completion)
    → After sc s (CompletionIs fc kind) (r s) → (kind ≡ Void → GivesNothing r) → (completion : Completion) (s1 : State)
    → r s ≡ Gives completion s1 → HasPassed kind completion
after_fits fc few kind sc s r after nothing completion s1 is =
    let h = subst (λ z. After sc s (CompletionIs fc kind) z) is after in
    completion_fits fc few kind completion s1.objects h.1
    (λ void. subst CompletesWithZero is ((nothing void).by s))

zero_pays : (kind : Kind) → handing (zero_of kind) ≤ 1 + 4 * contents_size kind
zero_pays Void = omega arith
zero_pays (OfScalar k) = omega arith
zero_pays (Structure n) = omega (arith, fresh_size Automatic 0 n)
zero_pays (Array n) = omega arith

module _ (g : Setting) (t : Tac) (limit : ℕ) (q : Caller) (frames : List Frame) where
  called_from : (c d back back' over over' : ℕ) (x x1 : Stage) (k k1 : ℕ) (s s1 : State) (o : Outcome Rvalue) (j : ℕ)
      → run (step g t) j x ≡ x1 → s.turns ≤ s1.turns
      → k1 + back' + d + 8 * s.work ≤ k + back + c + 8 * s1.work
      → k1 + over' + d + 8 * s.work ≤ k + over + c + 8 * s1.work
      → Called g t limit d back over q frames x1 k1 s1 o → Called g t limit c back' over' q frames x k s o
  called_from c d back back' over over' x x1 k k1 s s1 (Gives v s') j is turns work ended h =
      (h.0, h.1, h.2, reached_for back back' j is turns work h.3)
  called_from c d back back' over over' x x1 k k1 s s1 (Ended end s') j is turns work ended h =
      (h.0, reached_for over over' j is turns ended h.1)
  called_from c d back back' over over' x x1 k k1 s s1 (Paused s') j is turns work ended h =
      (h.0, h.1, h.2, reached_for over over' j is turns ended h.3, h.4)

  -- What a call does before its body: it counts a unit at once, of which four are left however it goes on.
  set_up_goes : (inner : Context) (all vs : List Variable) (old : Objects) (k : ℕ) (s : State) (o o' : Outcome
      (Unit {0}))
      (F : Unit {0} → State → Stage) (R : Run Rvalue) → ActsBy k s o o' → s.work + 1 ≤ (state_of o).work
      → SetsUpBy inner old o → HomedBy all vs o
      → ((s' : State) (k' : ℕ) → s'.turns ≡ s.turns → IsSetUp inner old s' → Homed all vs s'.frame
      → Called g t limit 0 3 0 q frames (F tt (at_work k' s')) k' s' (R s'))
      → Called g t limit 0 7 4 q frames (came (fourfold k o') F) k s (on o (λ _. R))
  set_up_goes inner all vs old k s (Gives a s') o' F R h one up homed next =
      let e = h.2 in
      let k1 = h.0 + 3 * (h.0 - k) in
      called_from 0 0 3 7 0 4 _ _ k k1 s s' (R s') 0 (ap (λ o. came (fourfold k o) F) h.1) (omega (arith, e.turns))
      (omega (arith, e.work, one)) (omega (arith, e.work, one)) (next s' k1 e.turns up homed)
  set_up_goes inner all vs old k s (Ended x s') o' F R h one up homed next =
      let e = h.2 in (
        h.0 + 3 * (h.0 - k),
        record {
          steps = 0;
          comes = ap (λ o. came (fourfold k o) F) h.1;
          turns = omega (arith, e.turns);
          work = omega (arith, e.work, one);
        },
      )
  set_up_goes inner all vs old k s (Paused s') o' F R h one up homed next = absurd h

  -- the end of a function: 0 is made where nothing is returned, and the value goes to the caller
  module _ (result : Kind) (f end ret : ℕ) (he : at_node t f end ≡ Some (tac.ZeroOf result 0 ret))
      (hr : at_node t f ret ≡ Some (tac.Return 0)) (gives : result_of g (type_of (function_in t f)) ≡ result) where
    returned : (temps : Temps) (k : ℕ) (s : State) (v : Rvalue) → temps 0 ≡ v → is_passed result v ≡ true
        → run (step g t) 1 (Stands f ret temps frames (at_work k s))
        ≡ given_to frames v (at_work (k + 3 + handing v) s)
    returned temps k s v e fit = ap (λ j. act_at g t j f temps frames (at_work k s)) hr
        ∙ only_opens _ (ap (λ kind. is_passed kind (temps 0)) gives ∙ ap (is_passed result) e ∙ fit)
        ∙ ap (λ z. given_to frames z (at_work (k + 3 + handing z) s)) e

    ends : (j left : ℕ) (x x1 x2 : Stage) (k k1 k2 : ℕ) (s s1 s2 : State) → run (step g t) j x1 ≡ x2
        → s2.turns ≡ s1.turns → k2 + 3 + 8 * s1.work ≤ k1 + left + 8 + 8 * s2.work → Reached g t 0 left x k s s1 x1 k1
        → Reached g t 8 3 x k s s2 x2 k2
    ends j left x x1 x2 k k1 k2 s s1 s2 e turns work r = record {
      steps = r.steps + j;
      comes = run_add (step g t) r.steps j x ∙ ap (run (step g t) j) r.comes ∙ e;
      turns = omega (arith, r.turns, turns);
      work = omega (arith, r.work, work);
    }

    zero_given : (x : Stage) (k : ℕ) (s s1 : State) (temps : Temps) (k1 : ℕ)
        → Reached g t 0 0 x k s s1 (Stands f end temps frames (at_work k1 s1)) k1
        → Called g t limit 8 3 0 q frames x k s (on (make_zero result s1) (λ v. change (back_to q) >> done v))
    zero_given x k s s1 temps k1 r =
        let v = zero_of result in
        let size = contents_size result in
        let made = k1 + 1 + size + 3 * (k1 + 1 + size - (k1 + 1)) in
        let s2 : State = record s1 { work = s1.work + size } in (
          s2,
          made + 3 + handing v,
          refl,
          ends 2 0 x _ _ k k1 (made + 3 + handing v) s s1 s2
              (ap (λ j. step g t (act_at g t j f temps frames (at_work k1 s1))) he
              ∙ returned (with_temp temps 0 v) made s1 v (put_same temps 0 v) (zero_fits result)) refl
              (omega (arith, zero_pays result)) r,
        )

    given : (completion : Completion) (x : Stage) (k : ℕ) (s s1 : State) (temps : Temps) (k1 : ℕ)
        → HasPassed result completion → LeftBy completion temps s1 → Reached g t 0 (with_result 0 completion) x k s s1
        (Stands f (exit_of (function_exits end ret) completion) temps frames (at_work k1 s1)) k1
        → Called g t limit 8 3 0 q frames x k s
        (on (returned_by result completion s1) (λ v. change (back_to q) >> done v))
    given Normal x k s s1 temps k1 fit p r = zero_given x k s s1 temps k1 r
    given Broken x k s s1 temps k1 fit p r = zero_given x k s s1 temps k1 r
    given Continued x k s s1 temps k1 fit p r = zero_given x k s s1 temps k1 r
    given (Returned v) x k s s1 temps k1 fit p r = (
      s1,
      k1 + 3 + handing v,
      refl,
      ends 1 (0 + handing v) x _ _ k k1 (k1 + 3 + handing v) s s1 s1 (returned temps k1 s1 v p fit) refl
          (omega arith) r,
    )

    end_goes : (x : Stage) (k : ℕ) (s : State) (o : Outcome Completion)
        → ((completion : Completion) (s1 : State) → o ≡ Gives completion s1 → HasPassed result completion)
        → Completes g t limit 0 0 f frames (function_exits end ret) x k s o
        → Called g t limit 8 3 0 q frames x k s
        (on o (λ completion. returned_by result completion >>= (λ v. change (back_to q) >> done v)))
    end_goes x k s (Gives completion s1) fit h = let b = h.by in
        given completion x k s s1 b.0 b.1 (fit completion s1 refl) b.2 b.3
    end_goes x k s (Ended e s1) fit h =
        let b = h.by in let r = b.1 in
        (b.0, record { steps = r.steps; comes = r.comes; turns = r.turns; work = omega (arith, r.work) })
    end_goes x k s (Paused s1) fit h =
        let b = h.by in let r = b.3 in (
          b.0,
          b.1,
          b.2,
          record { steps = r.steps; comes = r.comes; turns = r.turns; work = omega (arith, r.work) },
          b.4,
        )

module _ (p : Program) (budgets : BudgetSizes) (mapped : AreMapped (setting_of p budgets).sizes)
    (valid : is_valid_program p ≡ true) (few : length p.functions ≤ 4096) (t : Tac)
    (sizes : HaveSizes (names_of p).statics t.statics) (limit : ℕ)
    (lowers : (f : ℕ) → LowersAt t.texts (literals_of p.statics) (result_in (setting_of p budgets).results
    (function_at p.functions f))
    (height_in p.statics f (function_at p.functions f)) (function_at p.functions f) (function_in t f)) where
  abbrev g : Setting
  g = setting_of p budgets

  abbrev u : ProgramNames
  u = names_of p

  -- what can be named in some scope of the program
  abbrev within_program : Scope → Context
  within_program around = record
      { scope = record around { statics = u.statics; functions = u.functions }; sizes = g.sizes }

  addresses : function_address (length u.functions) ≤ 2 ^ 64
  addresses = few_addresses (length u.functions)
      (let same = length-map p.functions (λ f. signature_in u.types f.type_number) in omega (arith, few))

  taken_at : (f : ℕ) (of : Option Function) (oc : Option CodeFunction) (q : Signature)
      → LowersAt t.texts (literals_of p.statics) (result_in g.results of) (height_in p.statics f of) of oc
      → NamesFound u of → SignatureIs u.types q of → (c : CodeFunction) → oc ≡ Some c
      → taken_by (header_of_code c) ≡ q.parameters
  taken_at f None None q low named same c e = cc
  taken_at f None (Some c') q low named same c e = absurd low
  taken_at f (Some fn) None q low named same c e = absurd low
  taken_at f (Some fn) (Some c') q low named same c e =
      let is : c' ≡ c = cc in
      ap (λ (z : CodeFunction). taken_by (header_of_code z)) (sym is)
      ∙ ap taken_by low.header ∙ named.parameters ∙ ap (λ (z : Signature). z.parameters) (sym same)

  valued_at : (f : ℕ) (of : Option Function) (oc : Option CodeFunction)
      → LowersAt t.texts (literals_of p.statics) (result_in g.results of) (height_in p.statics f of) of oc
      → ValidIf p of → (c : CodeFunction) → oc ≡ Some c → list_all is_value (taken_by (header_of_code c)) ≡ true
  valued_at f None None low ok c e = cc
  valued_at f None (Some c') low ok c e = absurd low
  valued_at f (Some fn) None low ok c e = absurd low
  valued_at f (Some fn) (Some c') low ok c e =
      let is : c' ≡ c = cc in
      ap (λ (z : CodeFunction). list_all is_value (taken_by (header_of_code z))) (sym is)
      ∙ ap (λ h. list_all is_value (taken_by h)) low.header ∙ ok.takes

  -- the tables of a function's code are as its text declares
  tables_of : (f : ℕ) (fn : Function) → variables_in (function_in t f) ≡ all_of fn → (base : Scope)
      → base.statics ≡ u.statics → base.functions ≡ u.functions → base.types ≡ u.types
      → AreDeclared t g (context_of base g.sizes (all_of fn) (all_of fn)) f
  tables_of f fn variables base es ef et = record {
    few = subst (λ (l : List Signature). function_address (length l) ≤ 2 ^ 64) (sym ef) addresses;
    functions = length-map p.functions header_of ∙ sym (length-map p.functions
        (λ f. signature_in u.types f.type_number))
        ∙ ap length (sym ef);
    statics = subst (λ ks. HaveSizes ks t.statics) (sym es) sizes;
    calls = λ f c e. taken_at f (function_at p.functions f) (function_in t f) (signature_in u.functions f) (lowers f)
        (found_names u p.functions (valid_names p valid).functions f) (signature_found u.types p.functions f) c e
        ∙ ap (λ (l : List Signature). (signature_in l f).parameters) (sym ef);
    types = λ f h e. header_takes u p.functions (valid_names p valid).functions f h e
        ∙ ap (λ (l : List Signature). (signature_in l h.type_number).parameters) (sym et);
    calls_take = λ f c e. valued_at f (function_at p.functions f) (function_in t f) (lowers f)
        (functions_valid p valid f) c e;
    types_take = λ f h e. header_valued p p.functions (functions_valid p valid) f h e;
    variables = variables;
    objects = λ x kind e. e;
  }

  abbrev AllCallsRun : ℕ → Type 0
  AllCallsRun n = (around : Scope) → CallsRun g t limit (within_program around) (calls p.functions g limit n) n

  -- a call whose turn has begun
  begun_runs : (n f : ℕ) (fn : Function) (c : CodeFunction) (vs : List Rvalue) (line : ℕ) (frames : List Frame) (k : ℕ)
      (s : State) → AllCallsRun n → function_in t f ≡ Some c
      → LowersFunction t.texts (literals_of p.statics) (result_of g fn.type_number) (height_in p.statics f
      (Some fn)) fn c → FunctionNames u fn
      → IsValidFunction p fn → (around : Scope) → IsGood (within_program around) s
      → ArgumentsAre (length u.functions) (kinds_in fn.parameters) vs s.objects → limit < n + s.turns
      → Called g t limit 0 7 4 (caller s) frames
      (came (heavier (set_up g (header_of_code c) vs line) (at_work k s)) (λ _ z. Stands f c.entry no_temps frames z)) k
      s (enter_begun (env_of p.functions g limit n (all_of fn)) fn vs line s)
  begun_runs n f fn c vs line frames k s callers is low named ok around good arguments lt =
      let q = caller s in
      let result = result_of g fn.type_number in
      let env : Env = env_of p.functions g limit n (all_of fn) in
      let F : Unit {0} → State → Stage = λ _ z. Stands f c.entry no_temps frames z in
      let R : Run Rvalue = counted (in_order (each_of env fn.body))
      >>= (λ completion. returned_by result completion >>= (λ v. change (back_to q) >> done v)) in
      let of_type : result ≡ (signature_in u.types fn.type_number).result =
      (is_setting p budgets mapped (valid_names p valid)).results fn.type_number in
      let base = scope_of u fn in
      let inner : Context = record { scope = base; sizes = g.sizes } in
      let b : LowersBody (placed t f (literals_of p.statics) (all_of fn)) result c.entry fn.body =
      subst (λ o. LowersBody
      (record {
        code = code_of o;
        keys = keys_of o;
        blocks = blocks_in o;
        loops = loops_of o;
        texts = t.texts;
        literals = literals_of p.statics;
        variables = all_of fn;
      }) result c.entry fn.body) (sym is) low.body in
      let variables : variables_in (function_in t f) ≡ all_of fn = ap variables_in is
      ∙ ap (λ (h : Header). h.parameters ++ h.variables) low.header in
      let types : type_of (function_in t f) ≡ fn.type_number = ap type_of is
      ∙ ap (λ (h : Header). h.type_number) low.header in
      let inside : Inside base g.sizes env = inside_good p budgets mapped (valid_names p valid) limit n fn in
      called_from g t limit q frames 0 0 7 7 4 4 _
      (came (heavier (set_up g (header_of fn) vs line) (at_work k s)) F) k k s s _ 0
      (ap (λ h. came (heavier (set_up g h vs line) (at_work k s)) F) low.header) (omega arith) (omega arith)
      (omega arith)
      (set_up_goes g t limit q frames inner (all_of fn) (fn.parameters ++ body_variables fn) s.objects k s (set_up g
      (header_of fn) vs line s)
      (set_up g (header_of fn) vs line (at_work k s)) F R ((acts_set_up g (header_of fn) vs line).acts s k)
      ((counts_set_up g (header_of fn) vs line).counts s)
      (set_up_by u fn named g g.sizes refl mapped around vs line s good arguments) (set_up_homed fn g vs line s)
      (λ s2 k2 e2 up homed.
      let s3 : State = record s2 { work = s2.work + 1 } in
      called_from g t limit q frames 0 8 3 3 0 0 _ _ k2 k2 s2 s3
      (on (in_order (each_of env fn.body) s3)
      (λ completion. returned_by result completion >>= (λ v. change (back_to q) >> done v))) 0 refl (omega arith)
      (omega arith) (omega arith)
      (end_goes g t limit q frames result f b.0 b.1 b.3 b.4 (ap (result_of g) types) _ k2 s3
      (in_order (each_of env fn.body) s3)
      (after_fits (length u.functions) addresses result inner s3 (in_order (each_of env fn.body))
      (subst (λ kind. After inner s3 (CompletionIs (length u.functions) kind) (in_order (each_of env fn.body) s3))
      (sym of_type) ((row_sure inside (fn.parameters ++ body_variables fn) fn.body named.body).by s3 up.good tt))
      (λ void. row_nothing env (function_scope p fn) (sym of_type ∙ void) outside_loops fn.body ok.body))
      (statements_run t n env refl base g.sizes inside (λ vs. callers (context_of base g.sizes (all_of fn) vs).scope)
      (λ y e. expression_stays p.functions g limit n (all_of fn) y e)
      (λ y st. body_stays p.functions g limit n (all_of fn) y st) f (literals_of p.statics)
      (tables_of f fn variables base refl refl refl) ok.sized
      (fn.parameters ++ body_variables fn) frames outside_loops fn.body c.entry _ no_temps k2 s3
      (named_body fn) ok.opens homed b.2 ok.body up.good (omega (arith, e2, lt))))))

  -- A call that costs w, of which c units are paid; what is left of the call's own unit pays for 4 more where the
  -- function is there.
  call_by : (w c back n f : ℕ) (vs : List Rvalue) (line : ℕ) (frames : List Frame) (x : Stage) (k : ℕ) (s : State)
      (of : Option Function) (oc : Option CodeFunction) → AllCallsRun n → (of ≡ None → w ≤ c) → w ≤ c + 4
      → w + back ≤ c + 7
      → step g t x ≡ called_at g oc f vs line frames (at_work (k + w) s) → seen x ≡ moment_at (at_work k s) [] None
      → function_in t f ≡ oc → LowersAt t.texts (literals_of p.statics) (result_in g.results of)
      (height_in p.statics f of) of oc
      → NamesFound u of → ValidIf p of
      → (q : Signature) → SignatureIs u.types q of → ArgumentsAre (length u.functions) q.parameters vs s.objects
      → (around : Scope) → IsGood (within_program around) s → limit < suc n + s.turns
      → Called g t limit c back 0 (caller s) frames x k s (enter_found (env_of p.functions g limit n []) of vs line s)
  call_by w c back n f vs line frames x k s None None callers there few pays e now is low named ok q signature arguments
      around good lt =
      let le = there refl in (k + w, record { steps = 1; comes = e; turns = omega arith; work = omega (arith, le) })
  call_by w c back n f vs line frames x k s None (Some code) callers there few pays e now is low named ok q signature
      arguments around good lt = absurd low
  call_by w c back n f vs line frames x k s (Some fn) None callers there few pays e now is low named ok q signature
      arguments around good lt = absurd low
  call_by w c back n f vs line frames x k s (Some fn) (Some code) callers there few pays e now is low named ok q
      signature arguments around good lt = by_turn (nat_lt s.turns limit) refl
    where
      given : ArgumentsAre (length u.functions) (kinds_in fn.parameters) vs s.objects
      given = subst (λ ks. ArgumentsAre (length u.functions) ks vs s.objects)
          (ap (λ (z : Signature). z.parameters) signature ∙ sym named.parameters) arguments

      by_turn : (b : Bool) → nat_lt s.turns limit ≡ b
          → Called g t limit c back 0 (caller s) frames x k s
          (on (choose b (λ s. Gives (tt {0}) (begun s)) (λ s. Paused s) s)
          (λ _. enter_begun (env_of p.functions g limit n (all_of fn)) fn vs line))
      by_turn false h = (
        x,
        k,
        now,
        record { steps = 0; comes = refl; turns = omega arith; work = omega arith },
        ltb-false s.turns limit h,
      )
      by_turn true h =
          called_from g t limit (caller s) frames c 0 7 back 4 0 x _ k (k + w) s (begun s) _ 1 e (omega arith)
          (omega (arith, pays)) (omega (arith, few))
          (begun_runs n f fn code vs line frames (k + w) (begun s) callers is low named ok around good given
          (omega (arith, lt)))

  calls_run : (n : ℕ) → AllCallsRun n
  calls_run zero around c f vs line frames x k s h good arguments lt =
      (x, k, h.seen_now, record { steps = 0; comes = refl; turns = omega arith; work = omega arith }, omega (arith, lt))
  calls_run (suc n) around c f vs line frames x k s h good arguments lt =
      call_by c c 7 n f vs line frames x k s (function_at p.functions f) (function_in t f) (calls_run n)
      (λ e. omega arith) (omega arith) (omega arith) h.steps h.seen_now
      refl (lowers f) (found_names u p.functions (valid_names p valid).functions f) (functions_valid p valid f)
      (signature_in u.functions f) (signature_found u.types p.functions f) arguments around good lt

  -- the first call, of a function that is there, has no caller who pays
  first_runs : (n f : ℕ) (vs : List Rvalue) (line : ℕ) (x : Stage) (k : ℕ) (s : State)
      → (function_at p.functions f ≡ None → ⊥) → Calls g t limit 4 f vs line [] x k s → (around : Scope)
      → IsGood (within_program around) s
      → ArgumentsAre (length u.functions) (signature_in u.functions f).parameters vs s.objects → limit < n + s.turns
      → Called g t limit 0 3 0 (caller s) [] x k s (calls p.functions g limit n f vs line s)
  first_runs zero f vs line x k s there h around good arguments lt =
      (x, k, h.seen_now, record { steps = 0; comes = refl; turns = omega arith; work = omega arith }, omega (arith, lt))
  first_runs (suc n) f vs line x k s there h around good arguments lt =
      call_by 4 0 3 n f vs line [] x k s (function_at p.functions f) (function_in t f) (calls_run n)
      (λ e. absurd (there e)) (omega arith) (omega arith) h.steps h.seen_now
      refl (lowers f) (found_names u p.functions (valid_names p valid).functions f) (functions_valid p valid f)
      (signature_in u.functions f) (signature_found u.types p.functions f) arguments around good lt

-- the run

module _ (g : Setting) (t : Tac) (limit : ℕ) where
  meets_by : (o : Outcome Rvalue) (q : Caller) (s : State) → s.work ≡ 0 → s.turns ≡ 0
      → Called g t limit 0 3 0 q [] (Begins s) 0 s o
      → (m : ℕ) × Meets 8 (moment_of o) (seen (run (step g t) m (Begins s)))
  meets_by (Gives v s') q s w z h =
      let r = h.3 in
      let n = length (report_of (Exit (int_of v.value.word))) in (
        r.steps,
        record {
          shown = ap (λ (x : State). (ended_at (Exit (int_of v.value.word)) x).shown) h.2
              ∙ ap (λ x. (seen x).shown) (sym r.comes);
          turns = let a = ap (λ x. (seen x).turns) r.comes in let b = ap (λ (x : State). x.turns) h.2 in omega
              (arith, r.turns);
          work = let a = ap (λ x. (seen x).work) r.comes in let b = ap (λ (x : State). x.work) h.2 in omega
              (arith, r.work);
        },
      )
  meets_by (Ended x s') q s w z h =
      let r = h.1 in (
        r.steps,
        record {
          shown = ap (λ x. (seen x).shown) (sym r.comes);
          turns = let a = ap (λ x. (seen x).turns) r.comes in omega arith;
          work = let a = ap (λ x. (seen x).work) r.comes in omega (arith, r.work);
        },
      )
  meets_by (Paused s') q s w z h =
      let r = h.3 in (
        r.steps,
        record {
          shown = sym (ap (λ x. x.shown) h.2) ∙ ap (λ x. (seen x).shown) (sym r.comes);
          turns = let a = ap (λ x. (seen x).turns) r.comes in let b = ap (λ x. x.turns) h.2 in omega arith;
          work = let a = ap (λ x. (seen x).work) r.comes in let b = ap (λ x. x.work) h.2 in omega (arith, r.work);
        },
      )

line_is : (texts : List (List ℕ)) (literals : List Bool) (result : Kind) (height : ℕ) (of : Option Function)
    (oc : Option CodeFunction)
    → LowersAt texts literals result height of oc → line_in oc ≡ line_of of
line_is texts literals result height None None h = refl
line_is texts literals result height None (Some c) h = absurd h
line_is texts literals result height (Some f) None h = absurd h
line_is texts literals result height (Some f) (Some c) h = ap (λ (x : Header). x.line) h.header

-- `main` is there
function_there : (fs : List Function) (n : ℕ) → n < length fs → function_at fs n ≡ None → ⊥
function_there [] n le e = absurd (omega (arith, le))
function_there (x ∷ xs) zero le e = cc
function_there (x ∷ xs) (suc n) le e = function_there xs n (omega (arith, le)) e

main_number : (p : Program) → is_valid_program p ≡ true → p.main < length p.functions
unfolding is_valid_program
main_number p h =
    let q = five (list_all (is_function_type p) p.function_types) (are_all_different p.function_types)
    (list_all (is_static_object p) p.statics) (are_functions p 0 p.functions) (is_main p) h in
    ltb-true p.main (length p.functions) (both (nat_lt p.main (length p.functions)) _ q.4).0

module _ (p : Program) (budgets : BudgetSizes) (mapped : AreMapped (setting_of p budgets).sizes)
    (valid : is_valid_program p ≡ true) (few : length p.functions ≤ 4096) (t : Tac)
    (sizes : HaveSizes (names_of p).statics t.statics)
    (lowers : (f : ℕ) → LowersAt t.texts (literals_of p.statics) (result_in (setting_of p budgets).results
    (function_at p.functions f))
    (height_in p.statics f (function_at p.functions f)) (function_at p.functions f) (function_in t f)) (input : List ℕ)
    (main : t.main ≡ p.main) where
  abbrev first : State
  first = fresh (setting_of p budgets) (initial_objects p (setting_of p budgets)) input

  abbrev outcome_in : ℕ → Outcome Rvalue
  outcome_in limit = calls p.functions (setting_of p budgets) limit (limit + 1) t.main []
      (line_of (function_at p.functions t.main)) first

  main_there : function_at p.functions t.main ≡ None → ⊥
  main_there none = function_there p.functions p.main (main_number p valid)
      (ap (function_at p.functions) (sym main) ∙ none)

  started : (limit : ℕ) → Called (setting_of p budgets) t limit 0 3 0 (caller first) [] (Begins first) 0 first
      (outcome_in limit)
  started limit =
      let names = valid_names p valid in
      first_runs p budgets mapped valid few t sizes limit lowers (limit + 1) t.main []
      (line_of (function_at p.functions t.main)) (Begins first) 0 first main_there
      (record {
        steps = ap (λ l. called (setting_of p budgets) t t.main [] l [] (at_work 4 first))
            (line_is t.texts _ _ _ (function_at p.functions t.main) (function_in t t.main) (lowers t.main));
        seen_now =
            refl;
      })
      (static_context (names_of p) (setting_of p budgets)).scope
      (start_good p budgets mapped names input)
      (subst (λ m. ArgumentsAre (length (names_of p).functions) (signature_in (names_of p).functions m).parameters []
      first.objects) (sym main)
      (subst (λ ks. ArgumentsAre (length (names_of p).functions) ks [] first.objects) (sym names.main) tt))
      (omega arith)

  follows_from : Follows 8 (λ limit. moment_of (outcome_in limit))
      (seen_after (step (setting_of p budgets) t) seen (Begins first))
  follows_from = record {
    at = λ limit. meets_by (setting_of p budgets) t limit (outcome_in limit) (caller first) first refl refl
        (started limit);
  }

module _ (p : Program) (t : Tac) (h : IsLowered p t) where
  setting_is : (budgets : BudgetSizes) → setting_of_code t budgets ≡ setting_of p budgets
  setting_is budgets =
      ap (λ hs. record {
        functions = hs;
        results = t.results;
        sizes = record
            { budgets = budgets; global_bytes = t.global_bytes };
      }) h.headers
      ∙ ap (λ rs. record {
        functions = map header_of p.functions;
        results = rs;
        sizes = record
            { budgets = budgets; global_bytes = t.global_bytes };
      }) h.results
      ∙ ap (λ n. record {
        functions = map header_of p.functions;
        results = (setting_of p budgets).results;
        sizes =
            record { budgets = budgets; global_bytes = n };
      }) h.bytes

  functions_lower : (budgets : BudgetSizes) (f : ℕ)
      → LowersAt t.texts (literals_of p.statics) (result_in (setting_of p budgets).results (function_at p.functions f))
      (height_in p.statics f (function_at p.functions f)) (function_at p.functions f) (function_in t f)
  functions_lower budgets f = subst
      (λ rs. LowersAt t.texts (literals_of p.statics) (result_in rs (function_at p.functions f))
      (height_in p.statics f (function_at p.functions f)) (function_at p.functions f) (function_in t f)) h.results
      (h.functions f)

  data_sized : is_valid_program p ≡ true → (budgets : BudgetSizes) → AreMapped (setting_of p budgets).sizes
      → HaveSizes (names_of p).statics t.statics
  data_sized valid budgets mapped =
      let g = setting_of p budgets in
      let good = start_good p budgets mapped (valid_names p valid) [] in
      sizes_from (names_of p).statics (statics_first g) t.statics
      (λ n kind e. subst (λ objects. IsHeld objects n kind) (sym (h.statics budgets)) (good.statics n kind e))

  pub lower_follows : is_valid_program p ≡ true → length p.functions ≤ 4096 → (budgets : BudgetSizes) → AreMapped
      (setting_of p budgets).sizes
      → (input : List ℕ) → Follows 8 (meaning p budgets input) (tac_meaning t budgets input)
  lower_follows valid few budgets mapped input =
      let g = setting_of p budgets in
      subst (λ (z : Setting). Follows 8 (meaning p budgets input)
      (seen_after (step z t) seen (Begins (fresh z (objects_before t z) input)))) (sym (setting_is budgets))
      (subst (λ objects. Follows 8 (meaning p budgets input)
      (seen_after (step g t) seen (Begins (fresh g objects input)))) (sym (h.statics budgets))
      (subst (λ m. Follows 8
      (λ limit. moment_of (calls p.functions g limit (limit + 1) m [] (line_of (function_at p.functions m))
      (fresh g (initial_objects p g) input)))
      (seen_after (step g t) seen (Begins (fresh g (initial_objects p g) input)))) h.main
      (follows_from p budgets mapped valid few t (data_sized valid budgets mapped)
      (functions_lower budgets) input h.main)))

  pub lower_never_stuck : is_valid_program p ≡ true → length p.functions ≤ 4096 → (budgets : BudgetSizes) → AreMapped
      (setting_of p budgets).sizes
      → (input : List ℕ) (k : ℕ) → run (step (setting_of_code t budgets) t) k (first_stage t budgets input) ≡ Stuck → ⊥
  lower_never_stuck valid few budgets mapped input k e =
      follower_never_stuck t budgets input 8 (meaning p budgets input) (is_source p budgets input)
      (lower_follows valid few budgets mapped input) k e
