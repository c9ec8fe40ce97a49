-- What is lowered of a program of integers, and has its checks put in, has an expansion that can be planned.
use Rattle.std.proofs.Common.{◌≡◌, inl, inr, ⊎_elim, ℕ, zero, suc, ◌+◌, ◌*◌, ◌<◌, ◌≤◌, max, refl, sym, ap, ◌∙◌, subst}
use Rattle.std.proofs.Common.{arith, true, false, List, [], ◌∷◌, ◌++◌, length, Option, Some, None}
use Rattle.std.specs.Prelude.{slice_get}
use Rattle.std.proofs.lemmas.Bool.{eqb-true, cases_lt, false≢true}
use Rattle.std.proofs.lemmas.Option.{same_Some, slice_get_within}
use Rattle.addr_map.specs.Places.{MapSizes}
use Rattle.c_tree.specs.declared.expression.Kind.{Kind}
use Rattle.c_tree.specs.Programs.{Function, StaticObject, Program}
use Rattle.c_tree.specs.Room.{function_height, room}
use Rattle.c_tree.specs.ValidProgram.{is_valid_program, signature_at}
use Rattle.source_meaning.specs.State.{Header}
use Rattle.tac_ir.specs.declared.instruction.Instruction.{Instruction}
use Rattle.tac_ir.specs.declared.instruction.Instruction.TheVariants as tac
use Rattle.tac_ir.specs.declared.function.CodeFunction.{CodeFunction}
use Rattle.tac_ir.specs.declared.function.Tac.{Tac}
use Rattle.tac_ir.specs.Meaning.{function_in as code_in}
use Rattle.tac_ir.specs.Edges.{LeadsTo}
use Rattle.tac_ir.specs.Temporaries.{temporaries}
use Rattle.flat_code.specs.declared.function.FlatFunction.{FlatFunction}
use Rattle.flat_code.specs.Calls.{function_in}
use Rattle.flat_code.specs.Meaning.{parameters_of, results_of}
use Rattle.c_lower.specs.Programs.{IsLowered}
use Rattle.check_insert.specs.SameButChecks.{SameButChecksIn, SameButChecks}
use Rattle.compiled_programs.specs.Programs.{is_integer_program}
use Rattle.metadata_plan.specs.Registers.{words_in, all_variables, most_temporaries}
use Rattle.metadata_plan.specs.Part.{takes, is_integer_instruction, SafeWithin, IsIntegerCode}
use Rattle.metadata_plan.specs.Laid.{function_of, functions_of, entry_of, program_of}
use Rattle.metadata_plan.proofs.Numbers.{integers_words, integers_front}
use Rattle.metadata_plan.proofs.Laying.{functions_at, entry_at}
use Rattle.metadata_plan.specs.OperatorLists.Operators.{operators}
use Rattle.metadata_expansion.specs.Homes.{argument_count, most_arguments, homes}
use Rattle.metadata_expansion.specs.Numbers.{AreAllSmall}
use Rattle.reg_plan.specs.Planned.{IsPlannable, ArePlannable}
use Rattle.image_laws.specs.Images.Images.{flat_code}
use Rattle.image_laws.specs.Propagation.Homes.{HasHomes, HaveHomes}
use Rattle.image_laws.proofs.Lowering.Programs.{without_checks, valid_function, function_is, lowered, entry_same}
use Rattle.image_laws.proofs.Lowering.Programs.{lowers}
use Rattle.image_laws.proofs.Lowering.Programs.{safe_before}
use Rattle.image_laws.proofs.Lowering.Programs.{integer_code}
use Rattle.c_lower.specs.Liveness.Liveness.{reads, writes, LiveWithin, IsLive}
use Rattle.c_lower.proofs.Liveness.Statements.{none_is_live}
use Rattle.image_laws.proofs.Plans.Roles.{variable_count}
use Rattle.image_laws.proofs.Plans.Homes.{HasRoom}
use Rattle.image_laws.proofs.Plans.Functions.{plannable, has_homes}
use Rattle.image_laws.proofs.Plans.Entry.{entry_plannable, entry_homes}
use Rattle.image_laws.proofs.Propagation.Plannable.{plannable as propagated_plannable}

-- ---- liveness where checks are put in

-- on a path of integers the instructions stay
live_before : (t : Tac) (variables : ℕ) (c c' : CodeFunction) → SameButChecksIn c c' → (k n z : ℕ)
    → SafeWithin (is_integer_instruction t variables) c.code k n → LiveWithin c'.code k n z → LiveWithin c.code k n z
unfolding SafeWithin LiveWithin
live_before t variables c c' f zero n z s l = absurd l
live_before t variables c c' f (suc k) n z s l =
    let here = f.code n s.0 s.1 (without_checks t variables s.0 s.2) in
    let same : l.0 ≡ s.0 = same_Some l.0 s.0 (sym l.1 ∙ here) in (
      s.0,
      s.1,
      ⊎_elim (λ e. inl (subst (λ i. reads i z ≡ true) same e))
          (λ w. let lead = subst (λ i. LeadsTo i w.1) same w.2 in
          inr (
            subst (λ i. writes i z ≡ false) same w.0,
            w.1,
            lead,
            live_before t variables c c' f k w.1 z (s.3 w.1 lead) w.3,
          )) l.2,
    )

-- ---- the room of a function

most_bounded : (is : List Instruction) (most : ℕ)
    → ((n : ℕ) (i : Instruction) → slice_get is n ≡ Some i → temporaries i ≤ most) → most_temporaries is ≤ most
most_bounded [] most h = omega arith
most_bounded (i ∷ is) most h =
    let here = h 0 i refl in
    let rest = most_bounded is most (λ n j e. h (suc n) j e) in
    omega (arith, here, rest)

arguments_low : (i : Instruction) → argument_count i ≤ temporaries i
arguments_low (tac.Call f line d n next) = omega arith
arguments_low _ = omega arith

most_arguments_low : (is : List Instruction) → most_arguments is ≤ most_temporaries is
most_arguments_low [] = omega arith
most_arguments_low (i ∷ is) =
    let here = arguments_low i in
    let rest = most_arguments_low is in
    omega (arith, here, rest)

room_enough : (statics : List StaticObject) (n : ℕ) (result : Kind) (f : Function)
    → 96 + 40 * ((length f.parameters + length f.variables) + function_height statics n f) ≤ room statics n result f
unfolding room
room_enough statics n result f = omega arith

-- the words of variables, temporaries, four more or as many as the most arguments
words_fit : (variables temporaries arguments height room : ℕ) → temporaries ≤ max 1 height → arguments ≤ temporaries
    → 96 + 40 * (variables + height) ≤ room → 8 * (variables + temporaries + max 4 arguments) + 8 ≤ room
words_fit variables temporaries arguments height room a b c = omega (arith, a, b, c)

functions_length : (m : MapSizes) (t : Tac) (cs : List CodeFunction) (last : FlatFunction)
    → length (functions_of operators m t homes cs ++ (last ∷ [])) ≡ length cs + 1
functions_length m t [] last = refl
functions_length m t (c ∷ cs) last = let rest = functions_length m t cs last in omega (arith, rest)

function_below : (cs : List CodeFunction) (k : ℕ) → k < length cs → (c : CodeFunction) × (slice_get cs k ≡ Some c)
function_below [] k lt = absurd (omega arith)
function_below (c ∷ cs) zero lt = (c, refl)
function_below (c ∷ cs) (suc k) lt = function_below cs k (omega arith)

module _ (q : Program) (t r : Tac) (valid : is_valid_program q ≡ true) (ints : is_integer_program q ≡ true)
    (low : IsLowered q t) (ins : SameButChecks t r) (m : MapSizes) (small : AreAllSmall m r) where
  part : IsIntegerCode r
  part = integer_code q t r valid ints low ins

  there : (u : ℕ) (c : CodeFunction) → slice_get r.functions u ≡ Some c
      → function_in (program_of operators m r homes) u ≡ Some (function_of operators m r c (homes c))
  there u c e = functions_at operators m r homes r.functions (entry_of m r ∷ []) u c e

  callees : (g n : ℕ) → takes (code_in r g) n ≡ true
      → (parameters_of (function_in (program_of operators m r homes) g) ≡ n)
      × (results_of (function_in (program_of operators m r homes) g) ≡ 1)
  callees g n e = by (code_in r g) refl e
    where
      by : (o : Option CodeFunction) → code_in r g ≡ o → takes o n ≡ true
          → (parameters_of (function_in (program_of operators m r homes) g) ≡ n)
          × (results_of (function_in (program_of operators m r homes) g) ≡ 1)
      by None s e = absurd (false≢true e)
      by (Some k) s e =
          let at = there g k s in
          let words = integers_words k.parameters
          (integers_front k.parameters k.variables (part.functions g k s).variables) in
          (ap parameters_of at ∙ words ∙ eqb-true (length k.parameters) n e, ap results_of at)

  gives_one : (u : ℕ) (c : CodeFunction) → slice_get r.functions u ≡ Some c
      → results_of (function_in (program_of operators m r homes) u) ≤ 1
  gives_one u c e = let h = ap results_of (there u c e) in omega (arith, h)

  module _ (u : ℕ) (c : CodeFunction) (at : slice_get r.functions u ≡ Some c) where
    none_live : (z : ℕ) → IsLive c.code c.entry z → ⊥
    none_live z live =
        let d = (lowered q t r valid ints low ins u c at).0 in
        let same = (lowered q t r valid ints low ins u c at).2 in
        let within = live_before r _ d c same live.steps d.entry z
        (safe_before q t r valid ints low ins u c at live.steps)
        (subst (λ n. LiveWithin c.code live.steps n z) (entry_same q t r valid ints low ins u c at) live.within) in
        none_is_live _ _ _ _ _ d z (lowers q t r valid ints low ins u c at)
        (record { steps = live.steps; within = within })

    has_room : HasRoom c
    has_room =
        let name = function_is q t r valid ints low ins u c at in
        let d = (lowered q t r valid ints low ins u c at).0 in
        let same = (lowered q t r valid ints low ins u c at).2 in
        let height = function_height q.statics u name.0 in
        let temporaries_low : most_temporaries c.code ≤ max 1 height =
        most_bounded c.code (max 1 height) (λ n i e.
        let h = same.homes n i e in
        let bound = (lowers q t r valid ints low ins u c at).homes h.node h.other h.has in
        omega (arith, h.most, bound)) in
        let arguments_few = most_arguments_low c.code in
        let words = variable_count c (part.functions u c at).variables in
        let parameters_same = ap (λ (h : Header). length h.parameters) name.2 in
        let variables_same = ap (λ (h : Header). length h.variables) name.2 in
        let room_same = ap (λ (h : Header). h.room) name.2 in
        let fine = (valid_function q t r valid ints low ins u name.0 name.1).room_is in
        let enough = room_enough q.statics u (signature_at q name.0.type_number).result name.0 in
        let count : words_in (all_variables c) ≡ length name.0.parameters + length name.0.variables =
        omega (arith, words, parameters_same, variables_same) in
        let all : 96 + 40 * (words_in (all_variables c) + height) ≤ c.room =
        omega (arith, count, room_same, fine, enough) in
        words_fit (words_in (all_variables c)) (most_temporaries c.code) (most_arguments c.code) height c.room
        temporaries_low arguments_few all

    function_plannable : IsPlannable (program_of operators m r homes) u (function_of operators m r c (homes c))
    function_plannable =
        plannable m r c (program_of operators m r homes) u (gives_one u c at) callees
        (part.functions u c at) (small.functions u c at) none_live has_room

    function_homes : HasHomes (program_of operators m r homes) u (function_of operators m r c (homes c))
    function_homes =
        has_homes m r c (program_of operators m r homes) u (gives_one u c at) callees (part.functions u c at) has_room

  main_called : (parameters_of (function_in (program_of operators m r homes) r.main) ≡ 0)
      × (results_of (function_in (program_of operators m r homes) r.main) ≡ 1)
  main_called = callees r.main 0 part.main

  entry_there : function_in (program_of operators m r homes) (length r.functions) ≡ Some (entry_of m r)
  entry_there = entry_at operators m r homes r.functions (entry_of m r)

  -- what holds of each function of the text, and of that with which a run begins, holds of all
  of_each : (P : ℕ → FlatFunction → Type 0)
      → ((u : ℕ) (c : CodeFunction) → slice_get r.functions u ≡ Some c → P u (function_of operators m r c (homes c)))
      → ((u : ℕ) → results_of (function_in (program_of operators m r homes) u) ≤ 1 → P u (entry_of m r))
      → (k : ℕ) (f : FlatFunction) → slice_get (program_of operators m r homes).functions k ≡ Some f → P k f
  of_each P text begins k f e =
      ⊎_elim
      (λ lt.
      let c = function_below r.functions k lt in
      subst (P k) (same_Some (function_of operators m r c.0 (homes c.0)) f (sym (there k c.0 c.1) ∙ e))
      (text k c.0 c.1))
      (λ le.
      let within = slice_get_within (functions_of operators m r homes r.functions ++ (entry_of m r ∷ [])) k f e in
      let long = functions_length m r r.functions (entry_of m r) in
      let same : length r.functions ≡ k = omega (arith, le, within, long) in
      let here = subst (λ n. function_in (program_of operators m r homes) n ≡ Some (entry_of m r)) same entry_there in
      let none : results_of (function_in (program_of operators m r homes) k) ≤ 1 =
      let h = ap results_of here in omega (arith, h) in
      subst (P k) (same_Some (entry_of m r) f (sym here ∙ e)) (begins k none))
      (cases_lt k (length r.functions))

  all_plannable : ArePlannable (program_of operators m r homes)
  all_plannable =
      of_each (IsPlannable (program_of operators m r homes)) function_plannable
      (λ k none. entry_plannable m r (program_of operators m r homes) k none main_called.0 main_called.1)

  all_homes : HaveHomes (program_of operators m r homes)
  all_homes =
      of_each (HasHomes (program_of operators m r homes)) function_homes
      (λ k none. entry_homes m r (program_of operators m r homes) k none main_called.0 main_called.1)

  pub flat_plannable : ArePlannable (flat_code m r)
  flat_plannable = propagated_plannable m (program_of operators m r homes) all_plannable all_homes
