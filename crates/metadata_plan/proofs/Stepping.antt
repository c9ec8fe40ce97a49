-- Calls and returns of three-address code, and the start of a run.
use Rattle.std.proofs.Common.{inl, ⊎_elim, ◌≡◌, ℕ, ◌+◌, ◌*◌, ◌%◌, ◌^◌, ◌<◌, ◌≤◌, refl, sym, ap, ◌∙◌, subst}
use Rattle.std.proofs.Common.{arith, Bool, true, false, List, [], ◌∷◌, ◌++◌, Option, Some, None, length, length-append}
use Rattle.std.specs.Prelude.{slice_get, if◌then◌else◌}
use Rattle.std.proofs.lemmas.Bool.{eqb-true, cases_lt}
use Rattle.behaviours.specs.Steps.{run}
use Rattle.behaviours.proofs.Running.{run_add}
use Rattle.addr_map.specs.Places.{MapSizes}
use Rattle.sb_base.specs.declared.ending.Ending.TheVariants.{Exit as ExitWith, Abort as AbortAt}
use Rattle.source_meaning.specs.State.{State, Rvalue, Setting}
use Rattle.source_meaning.specs.Actions.{integer, int_of}
use Rattle.source_meaning.specs.Structures.{rvalue}
use Rattle.source_meaning.specs.Places.{stack_first, stack_end}
use Rattle.source_meaning.specs.Calls.{caller, back_to}
use Rattle.source_meaning.specs.Meaning.{fresh}
use Rattle.tac_ir.specs.declared.instruction.Instruction.TheVariants as tac
use Rattle.tac_ir.specs.declared.function.CodeFunction.{CodeFunction}
use Rattle.tac_ir.specs.declared.function.Tac.{Tac}
use Rattle.tac_ir.specs.Stage.{Temps, with_temp, gathered, Waiting, Frame, Waits, Entered, Stage, Stands, Over}
use Rattle.tac_ir.specs.Costs.{handing, spent}
use Rattle.tac_ir.specs.Meaning.{function_in as code_in, called_at, called, effect, given_to, line_in, objects_before}
use Rattle.flat_code.specs.declared.instruction.FlatInstruction.{FlatInstruction}
use Rattle.flat_code.specs.declared.instruction.FlatInstruction.TheVariants as flat_code
use Rattle.flat_code.specs.declared.function.FlatProgram.{FlatProgram}
use Rattle.flat_code.specs.Memory.{put}
use Rattle.flat_code.specs.State as flat
use Rattle.flat_code.specs.Calls.{function_in, charged, with_results}
use Rattle.flat_code.specs.Meaning.{body_of, step, weight_of, started}
use Rattle.flat_code.proofs.Stored.{put_other}
use Rattle.flat_code.specs.Routines.Routine.{HasAt}
use Rattle.flat_code.proofs.Routines.Steps.{has_front, has_back}
use Rattle.flat_code.specs.Routines.Objects.StandsFor.{Views, StandsFor}
use Rattle.metadata_plan.specs.Registers.{most_temporaries, temporary_register, first_free}
use Rattle.metadata_plan.specs.Operators.{OperatorCode, AreOperators}
use Rattle.metadata_plan.specs.Blocks.{call_tests, argument_moves, call_code, room_in}
use Rattle.metadata_plan.specs.Expanded.{Leads, IsExpanded}
use Rattle.metadata_plan.specs.Part.{takes, IsIntegerCode}
use Rattle.metadata_plan.specs.Matching.{IsAlike, WaitsAs, AllWait, IsAt, IsFirst, MatchesBy}
use Rattle.metadata_plan.proofs.Flat.{weight_small, Comes, then_comes, turn_comes, leads_comes, exit_step}
use Rattle.metadata_plan.proofs.Holding.{IsSet, holds_free, holds_temporary}
use Rattle.metadata_plan.proofs.SetUp.{none_die}
use Rattle.metadata_plan.proofs.Standing.{IsNode, there, integer_function, node, Result, ends}
use Rattle.metadata_plan.proofs.Library.{status_is}
use Rattle.metadata_plan.proofs.Calling.{tested, tests_pass, arguments_moved, gathered_at}
use Rattle.metadata_plan.proofs.Entering.{entry_there, returns_step, result_set, no_rooms, enters_matches, exhausts}

-- a function that takes so many arguments is there
record Takes (o : Option CodeFunction) (n : ℕ) : Type 0 where
  code : CodeFunction
  is : o ≡ Some code
  count : length code.parameters ≡ n

takes_is : (o : Option CodeFunction) (n : ℕ) → takes o n ≡ true → Takes o n
takes_is None n e = cc
takes_is (Some c) n e = record { code = c; is = refl; count = eqb-true (length c.parameters) n e }

module _ (o : OperatorCode) (views : Views) (g : Setting) (t : Tac) (address : (function node : ℕ) → ℕ)
    (p : FlatProgram) (ops : AreOperators o) (ex : IsExpanded o g.sizes t address p)
    (part : IsIntegerCode t) (low : g.sizes.budgets.calls < 2 ^ 63) (stack : stack_first g ≤ stack_end g) where
  abbrev m : MapSizes
  m = g.sizes

  module _ (u n : ℕ) (temps : Temps) (ws : List Frame) (s : State) (v : flat.State)
      (xs : List flat.Frame) (h : IsAt views g t address p u n temps ws s u (address u n) v xs) where
    abbrev c : CodeFunction
    c = h.code

    abbrev pc : ℕ
    pc = address u n

    abbrev free : ℕ
    free = first_free h.code

    abbrev body : List FlatInstruction
    body = body_of (function_in p u)

    abbrev Gives : Stage → Type 0
    Gives a = Result o views g t address p ops ex part a (flat.Stands u (address u n) v xs)

    pub alike_spent : IsAlike (spent 6 s) v
    alike_spent = record {
      input = h.alike.input;
      output = h.alike.output;
      taken = h.alike.taken;
      accesses = h.alike.accesses;
      turns = h.alike.turns;
    }

    module _ (f line d count next : ℕ) (at : slice_get h.code.code n ≡ Some (tac.Call f line d count next)) where
      known : IsNode o g.sizes t (address u) (body_of (function_in p u)) h.code (address u n)
          (tac.Call f line d count next)
      known = node o views g t address p ops ex part u h.code n (tac.Call f line d count next) h.there h.safe at

      -- what stands where the callee takes so many arguments, or not
      abbrev block_by : Bool → List FlatInstruction
      block_by b = if b then call_code m t h.code f line d count else flat_code.End (AbortAt line) ∷ []

      stood : HasAt body pc (call_code m t h.code f line d count)
          × Leads body (pc + length (call_code m t h.code f line d count)) (address u next)
      stood =
          subst (λ b. HasAt body pc (block_by b) × Leads body (pc + length (block_by b)) (address u next)) known.part
          (known.put.has, known.put.leads)

      called_is : Takes (code_in t f) count
      called_is = takes_is (code_in t f) count known.part

      lows : (d < most_temporaries c.code) × (d + count ≤ most_temporaries c.code)
      lows = let a = known.temporaries_low in (omega arith, omega arith)

      abbrev waits : Waiting
      waits = record { function = u; node = next; place = d; caller = caller (spent 6 s); temps = temps }

      abbrev moves : List FlatInstruction
      moves = argument_moves h.code (first_free h.code) d count

      abbrev calls : List FlatInstruction
      calls = flat_code.Call f (first_free h.code) (temporary_register h.code d) ∷ []

      by_callee : (k : CodeFunction) → code_in t f ≡ Some k → length k.parameters ≡ count
          → Gives (called_at g (Some k) f (gathered temps d count) line (Waits waits ∷ ws) (spent 6 s))
      by_callee k is takes =
          let tests = call_tests m k.room line free in
          let whole : HasAt body pc (tests ++ (moves ++ calls)) =
          subst (λ z. HasAt body pc (call_tests m (room_in z) line free ++ (moves ++ calls))) is stood.0 in
          let has_tests = has_front body pc tests (moves ++ calls) whole in
          let rest = has_back body pc tests (moves ++ calls) whole in
          let has_moves = has_front body (pc + 4) moves calls rest in
          let has_call = has_back body (pc + 4) moves calls rest in
          ⊎_elim
          (λ more. exhausts o views g t address p ops ex part low stack u pc 0 v xs f k is line free
          (temporary_register c d) (gathered temps d count) (Waits waits
          ∷ ws) (spent 6 s) h.charge alike_spent has_tests
          more h.fits (omega (arith, h.work)))
          (λ fits.
          let inside : charged p u xs + k.room ≤ m.budgets.calls = omega (arith, h.charge) in
          let K1 = tests_pass m p u pc v xs k.room line free has_tests low inside in
          let tried : flat.State = tested m p u pc v xs k.room line free has_tests low in
          let between : flat.State = record tried { work = v.work + K1.work } in
          let given = arguments_moved m p c u xs count (pc + 4) between free d lows.1 (omega arith) has_moves in
          let q = pc + 4 + length moves in
          let both = then_comes m p u pc v xs (pc + 4) q tried (record between { values = given.values }) 6
          (2 * count) K1
          given.comes in
          let K : Comes m p u pc v xs q (record v { turns = v.turns + 1; values = given.values }) (6 + 2 * count) =
          record { steps = both.steps; work = both.work; few = both.few; comes = both.comes } in
          let parts = integer_function o views g t address p ops ex part u c h.there in
          let same : (y : ℕ) → y < free → given.values y ≡ v.values y = λ y lt. given.given.others y lt
          ∙ put_other v.values free _ y (λ e. absurd (omega arith)) in
          let frame : flat.Frame = record {
            function = u;
            next = q + 1;
            into = temporary_register c d;
            values =
                given.values;
          } in
          let place : q + 1 ≡ pc + length (call_tests m (room_in (code_in t f)) line free ++ (moves ++ calls)) =
          omega (arith, length-append moves calls) in
          let waiting : WaitsAs g t address p waits frame xs = record {
            function = refl;
            code = c;
            there = h.there;
            leads = subst (λ z. Leads body z (address u next)) (sym place) stood.1;
            low = lows.0;
            into = refl;
            holds = holds_free c parts.variables temps s.plain v.values given.values h.holds same;
            safe = known.on next (inl refl);
            homes = h.homes;
            stacked = h.stacked;
            charge = h.charge;
            fits = h.fits;
          } in
          enters_matches o views g t address p ops ex part low stack u pc q v xs f k is line free
          (temporary_register c d) (gathered temps d count) (Waits waits ∷ ws) (spent 6 s) h.charge alike_spent
          given.values (6 + 2 * count) h.keys K has_call.0
          (λ j lt. gathered_at temps d count j (omega arith)
          ∙ h.holds.temporaries (d + j) (omega (arith, lows.1))
          ∙ ap (λ z. rvalue (integer z))
          (sym (given.given.arguments_are j (omega arith)
          ∙ put_other v.values free _ (temporary_register c (d + j)) (λ e. absurd (omega (arith, lows.1))))))
          fits h.stacked (omega (arith, h.work)) h.stands (record { by = (waiting, h.wait.by) }))
          (cases_lt m.budgets.calls (s.charged + k.room))

      pub call_step : Gives (effect g t (tac.Call f line d count next) u temps ws (spent 6 s))
      call_step =
          subst (λ z. Gives (called_at g z f (gathered temps d count) line (Waits waits ∷ ws) (spent 6 s)))
          (sym called_is.is) (by_callee called_is.code called_is.is called_is.count)

    -- ---- a return

    -- the state once the value of a temporary is handed on
    abbrev handed : ℕ → State
    handed a = spent (handing (temps a)) (spent 3 s)

    pub return_step : (a : ℕ) → slice_get h.code.code n ≡ Some (tac.Return a)
        → Gives (effect g t (tac.Return a) u temps ws (spent 3 s))
    return_step a at = by ws xs h.wait.by refl
      where
        known : IsNode o g.sizes t (address u) (body_of (function_in p u)) h.code (address u n) (tac.Return a)
        known = node o views g t address p ops ex part u h.code n (tac.Return a) h.there h.safe at

        r : ℕ
        r = temporary_register h.code a

        gives : temps a ≡ rvalue (integer (v.values (temporary_register h.code a)))
        gives = h.holds.temporaries a known.temporaries_low

        ended : (x : flat.Frame) → (x.function ≡ p.entry) × (x.next ≡ 7) × (x.into ≡ 0)
            → Result o views g t address p ops ex part (Over (ExitWith (int_of (temps a).value.word)) (handed a))
            (flat.Stands u (address u n) v (x ∷ []))
        ended x e =
            let w = v.values (temporary_register h.code a) in
            let word : (temps a).value.word ≡ w = ap (λ (z : Rvalue). z.value.word) gives in
            let entry = entry_there m t (function_in p p.entry) ex.entry in
            let values = with_results x.into 1 v.values (temporary_register h.code a) x.values in
            let back : flat.State = record v { values = values; work = v.work + 10 } in
            let results = (there o views g t address p ops ex part u c h.there).results in
            let first = returns_step m p u pc v x [] (temporary_register h.code a) known.put.has.0 results
            ∙ ap (λ z. flat.Stands z x.next back []) e.0 ∙ ap (λ z. flat.Stands p.entry z back []) e.1 in
            let second = exit_step m p p.entry 7 back [] 0 entry.has.1.1.1.1.1.1.1.0 in
            let status : values 0 ≡ w =
            ap values (sym e.2) ∙ (result_set free x.into (temporary_register h.code a) v.values x.values).gives in
            let last : flat.State = record back { work = v.work + 10 + weight_of (function_in p p.entry) } in
            let comes : run (step m p) 2 (flat.Stands u pc v (x ∷ []))
            ≡ flat.Over (values 0 % 256) [] last =
            ap (step m p) first ∙ second in
            let result : Result o views g t address p ops ex part (Over (ExitWith (int_of w)) (handed a))
            (flat.Stands u (address u n) v (x ∷ [])) =
            ends o views g t address p ops ex part (flat.Stands u pc v (x ∷ [])) (ExitWith (int_of w))
            (handed a) last 2
            (values 0 % 256) [] comes (ap (λ z. z % 256) status ∙ status_is w) refl
            (record {
              input = h.alike.input;
              output = h.alike.output;
              taken = h.alike.taken;
              accesses = h.alike.accesses;
              turns = h.alike.turns;
            })
            (omega (arith, h.work, weight_small (function_in p p.entry))) in
            subst (λ z. Result o views g t address p ops ex part (Over (ExitWith (int_of z)) (handed a))
            (flat.Stands u (address u n) v (x ∷ []))) (sym word) result

        back : (w : Waiting) (others : List Frame) (x : flat.Frame) (rest : List flat.Frame)
            → WaitsAs g t address p w x rest → AllWait g t address p others rest
            → Result o views g t address p ops ex part (given_to (Waits w ∷ others) (temps a) (handed a))
            (flat.Stands u (address u n) v (x ∷ rest))
        back w others x rest k wait =
            let value = v.values (temporary_register h.code a) in
            let values = with_results x.into 1 v.values (temporary_register h.code a) x.values in
            let there_again : flat.State = record v { values = values; work = v.work + 10 } in
            let results = (there o views g t address p ops ex part u c h.there).results in
            let first = returns_step m p u pc v x rest (temporary_register h.code a) known.put.has.0 results
            ∙ ap (λ z. flat.Stands z x.next there_again rest) k.function in
            let l = leads_comes m p w.function x.next there_again rest (address w.function w.node) k.leads in
            let last : flat.State = record there_again { work = v.work + 10 + l.work } in
            let comes : run (step m p) (1 + l.steps) (flat.Stands u pc v (x ∷ rest))
            ≡ flat.Stands w.function (address w.function w.node) last rest =
            run_add (step m p) 1 l.steps (flat.Stands u pc v (x ∷ rest)) ∙ ap (run (step m p) l.steps) first
            ∙ l.comes in
            let parts = integer_function o views g t address p ops ex part w.function k.code k.there in
            let is_set = subst (λ z. IsSet (first_free k.code) z value x.values
            (with_results x.into 1 v.values (temporary_register h.code a) x.values)) k.into
            (result_set (first_free k.code) x.into (temporary_register h.code a) v.values x.values) in
            let s' = back_to w.caller (handed a) in
            let result : Result o views g t address p ops ex part
            (Stands w.function w.node (with_temp w.temps w.place (rvalue (integer value))) others s')
            (flat.Stands u (address u n) v (x ∷ rest)) = record {
              steps = 1 + l.steps;
              matches = subst (MatchesBy views g t address p
                  (Stands w.function w.node (with_temp w.temps w.place (rvalue (integer value))) others s')) (sym comes)
                  (record {
                    function = refl;
                    place = refl;
                    code = k.code;
                    there = k.there;
                    holds = holds_temporary k.code parts.variables w.temps w.caller.plain x.values values w.place value
                        k.holds is_set;
                    safe = k.safe;
                    alike = record {
                      input = h.alike.input;
                      output = h.alike.output;
                      taken = h.alike.taken;
                      accesses = h.alike.accesses;
                      turns = h.alike.turns;
                    };
                    work = omega (arith, h.work, l.few);
                    homes = k.homes;
                    stacked = k.stacked;
                    charge = k.charge;
                    fits = k.fits;
                    keys = h.keys;
                    stands = subst (λ z. StandsFor views h.keys z v.memory)
                        (sym (none_die s.frame s.objects h.homes.by))
                        h.stands;
                    wait = record { by = wait };
                  });
            } in
            subst (λ z. Result o views g t address p ops ex part
            (Stands w.function w.node (with_temp w.temps w.place z) others s')
            (flat.Stands u (address u n) v (x ∷ rest))) (sym gives) result

        by : (ws' : List Frame) (xs' : List flat.Frame) → AllWait g t address p ws' xs' → xs ≡ xs'
            → Result o views g t address p ops ex part (given_to ws' (temps a) (handed a))
            (flat.Stands u (address u n) v xs')
        by ws' [] wait e = absurd wait
        by [] (x ∷ []) wait e = ended x wait
        by [] (x ∷ y ∷ rest) wait e = absurd wait
        by (Waits w ∷ others) (x ∷ rest) wait e = back w others x rest wait.0 wait.1
        by (Entered n b ∷ others) (x ∷ rest) wait e = absurd wait

  -- ---- the start

  -- a match further on
  earlier : (a : Stage) (n : ℕ) (x y : flat.Stage) → run (step m p) n x ≡ y
      → Result o views g t address p ops ex part a y → Result o views g t address p ops ex part a x
  earlier a n x y e r = record {
    steps = n + r.steps;
    matches = subst (MatchesBy views g t address p a)
        (sym (run_add (step m p) n r.steps x ∙ ap (run (step m p) r.steps) e)) r.matches;
  }

  pub begins : (s : State) (x : flat.Stage) → IsFirst views g t p s x
      → Result o views g t address p ops ex part (called g t t.main [] (line_in (code_in t t.main)) [] (spent 4 s)) x
  begins s x h =
      let main = takes_is (code_in t t.main) 0 part.main in
      subst (λ z. Result o views g t address p ops ex part
      (called g t t.main [] (line_in (code_in t t.main)) [] (spent 4 z)) x)
      (sym h.fresh_is)
      (subst (λ z. Result o views g t address p ops ex part
      (called g t t.main [] (line_in (code_in t t.main)) [] (spent 4 (fresh g (objects_before t g) h.input))) z)
      (sym h.started_is)
      (subst (λ z. Result o views g t address p ops ex part
      (called_at g z t.main [] (line_in z) [] (spent 4 (fresh g (objects_before t g) h.input)))
      (started p h.memory h.input))
      (sym main.is) (by main.code main.is main.count)))
    where
      by : (k : CodeFunction) → code_in t t.main ≡ Some k → length k.parameters ≡ 0
          → Result o views g t address p ops ex part
          (called_at g (Some k) t.main [] k.line [] (spent 4 (fresh g (objects_before t g) h.input)))
          (started p h.memory h.input)
      by k is none =
          let entry = entry_there m t (function_in p p.entry) ex.entry in
          let code = body_of (function_in p p.entry) in
          let tests = call_tests m k.room k.line 0 in
          let ending = flat_code.Call t.main 0 0 ∷ flat_code.Exit 0 ∷ [] in
          let whole : HasAt code 2 (tests ++ ending) =
          subst (λ z. HasAt code 2 (call_tests m (room_in z) (line_in z) 0 ++ ending)) is entry.has.1.1 in
          let has_tests = has_front code 2 tests ending whole in
          let v : flat.State = record {
            values = λ y. 0;
            memory = h.memory;
            input = h.input;
            output = [];
            taken = 0;
            accesses = [];
            turns = 0;
            work = 0;
          } in
          let one_turn = turn_comes m p p.entry 0 v [] entry.has.0 in
          let between : flat.State = record v { turns = 1; work = 0 + one_turn.work } in
          let next_turn = turn_comes m p p.entry 1 between [] entry.has.1.0 in
          let second_turn : Comes m p p.entry 1 between [] 2 (record v { turns = 2 }) 2 = record {
            steps = next_turn.steps;
            work = next_turn.work;
            few = next_turn.few;
            comes = next_turn.comes;
          } in
          let two_turns = then_comes m p p.entry 0 v [] 1 2 (record v { turns = 1 })
          (record v { turns = 2 }) 2 2 one_turn
          second_turn in
          let w : flat.State = record v { turns = 2; work = 0 + two_turns.work } in
          let few = two_turns.few in
          let s0 : State = spent 4 (fresh g (objects_before t g) h.input) in
          let charge : charged p p.entry [] ≡ 0 = omega (arith, entry.no_room, no_rooms false p) in
          let alike : IsAlike s0 w =
          record { input = refl; output = refl; taken = refl; accesses = refl; turns = omega arith } in
          let later : Result o views g t address p ops ex part
          (called_at g (Some k) t.main [] k.line [] s0) (flat.Stands p.entry 2 w []) = ⊎_elim
          (λ more. exhausts o views g t address p ops ex part low stack p.entry 2 0 w [] t.main k is k.line 0 0 [] [] s0
          (sym charge) alike has_tests more (omega arith) (omega (arith, few)))
          (λ fits.
          let K = tests_pass m p p.entry 2 w [] k.room k.line 0 has_tests low (omega arith) in
          enters_matches o views g t address p ops ex part low stack p.entry 2 6 w [] t.main k is k.line 0 0 [] [] s0
          (sym charge) alike (put (λ y. 0) 0 _) 6 h.keys K entry.has.1.1.1.1.1.1.0 (λ j lt. absurd (omega arith))
          fits refl (omega (arith, few)) h.stands (record { by = (refl, refl, refl) }))
          (cases_lt m.budgets.calls (0 + k.room)) in
          earlier (called_at g (Some k) t.main [] k.line [] s0) two_turns.steps (flat.Stands p.entry 0 v [])
          (flat.Stands p.entry 2 w []) two_turns.comes later
