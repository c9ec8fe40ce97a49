-- The machine follows flat code.
use Rattle.std.proofs.Common.{◌≡◌, ◌≢◌, ℕ, zero, suc, ◌+◌, ◌-◌, ◌*◌, ◌^◌, ◌<◌, ◌≤◌, inl, refl, sym}
use Rattle.std.proofs.Common.{ap, ◌∙◌, subst, arith, Bool, true, false, List, [], ◌∷◌, ◌++◌, length, Option, Some}
use Rattle.std.proofs.Common.{None}
use Rattle.std.specs.Prelude.{if◌then◌else◌, replicate, slice_index, ◌==◌}
use Rattle.addr_map.specs.Places.{MapSizes, AreMapped, region_start, region_size}
use Rattle.addr_map.specs.declared.region.Region.TheVariants.{Arguments, Calls, RuntimeCalls}
use Rattle.behaviours.specs.Shown.{Shown, nothing_shown}
use Rattle.behaviours.specs.Behaviour.{Follows, Meets as MeetsMoment}
use Rattle.behaviours.specs.Steps.{run}
use Rattle.behaviours.proofs.Running.{run_last}
use Rattle.rv_isa.specs.declared.instruction.Instr.{Instr}
use Rattle.rv_isa.specs.declared.instruction.Instr.TheVariants.{Lui, Jalr}
use Rattle.flat_code.specs.declared.instruction.FlatInstruction.{FlatInstruction}
use Rattle.flat_code.specs.declared.instruction.FlatInstruction.TheVariants as flat
use Rattle.flat_code.specs.declared.function.FlatFunction.{FlatFunction}
use Rattle.flat_code.specs.declared.function.FlatProgram.{FlatProgram}
use Rattle.flat_code.specs.Memory.{Bytes, AreBytes}
use Rattle.flat_code.specs.State.{State, Frame, Stage, Stands, Over, Stuck, seen}
use Rattle.flat_code.specs.Calls.{function_in, room_if, rooms}
use Rattle.flat_code.specs.Meaning.{step, started, flat_meaning, instruction_at, at_instruction, goes_to, local}
use Rattle.flat_code.specs.Meaning.{context}
use Rattle.flat_code.specs.Meaning.{weight_of, cost}
use Rattle.flat_code.specs.Words.{IsOfWords, HasWords}
use Rattle.flat_code.proofs.Words.{step_fits}
use Rattle.reg_plan.specs.declared.plan.FunctionPlan.{FunctionPlan}
use Rattle.reg_plan.specs.Tests.{AreAccepted}
use Rattle.rv_sim.specs.Run.{Configuration, runs}
use Rattle.rv_sim.specs.State.{MachineState}
use Rattle.rv_sim.specs.Behaviour.{begun, shown_by, end_of, behaviour}
use Rattle.rv_sim.proofs.Runs.{runs-zero}
use Rattle.machine_laws.specs.View.Segments.{Hold}
use Rattle.machine_laws.specs.View.Views.{View, Fits, AllStand, AllGoOn, Shows, performs}
use Rattle.machine_laws.proofs.View.Straight.{runs_then}
use Rattle.machine_laws.proofs.View.Leaving.{no_access}
use Rattle.machine_laws.specs.Blocks.Blocks.{upper, wide}
use Rattle.machine_laws.specs.Blocks.Effects.{HasFrame}
use Rattle.machine_laws.proofs.Blocks.Pieces.{wide_gives, performs_append, go_append}
use Rattle.machine_laws.specs.Calls.Calls.{entry_block}
use Rattle.machine_laws.proofs.Calls.Lengths.{entry_length}
use Rattle.machine_laws.specs.Following.Code.{keeping, IsLaid, IsEncodable}
use Rattle.machine_laws.specs.Following.Matching.{object_bytes, space_bytes, record_of, Meets}
use Rattle.machine_laws.specs.Following.Start.{start_block, IsStartable, begins, layout_of}
use Rattle.machine_laws.specs.Calls.Table.{row_address}
use Rattle.machine_laws.proofs.Calls.Table.{row_whole}
use Rattle.machine_laws.proofs.Following.Runs.{straight_comes, all_append}
use Rattle.machine_laws.proofs.Following.Regions.{AreRegions, regions, flat_before}
use Rattle.machine_laws.proofs.Following.Sound.{IsSound, sound}
use Rattle.machine_laws.proofs.Following.Standing.{function_there, IsKind, kind, record_behind}
use Rattle.machine_laws.proofs.Following.Entering.{arrives, enters}
use Rattle.machine_laws.proofs.Following.Bounds.{weighs}
use Rattle.machine_laws.proofs.Following.Whole.{Matches, StageSteps, meets_worked}
use Rattle.machine_laws.proofs.Following.Stages.{turn_stage, instruction_stage}

-- what is shown, by its parts
shown_is : (a b : Shown) → a.output ≡ b.output → a.errors ≡ b.errors → a.taken ≡ b.taken → a.accesses ≡ b.accesses
    → a.ending ≡ b.ending → a ≡ b
shown_is a b o e t x n =
    ap (λ q. record { output = q; errors = a.errors; taken = a.taken; accesses = a.accesses; ending = a.ending }) o
    ∙ ap (λ q. record { output = b.output; errors = q; taken = a.taken; accesses = a.accesses; ending = a.ending }) e
    ∙ ap (λ q. record { output = b.output; errors = b.errors; taken = q; accesses = a.accesses; ending = a.ending }) t
    ∙ ap (λ q. record { output = b.output; errors = b.errors; taken = b.taken; accesses = q; ending = a.ending }) x
    ∙ ap (λ q. record { output = b.output; errors = b.errors; taken = b.taken; accesses = b.accesses; ending = q }) n

module _ (m : MapSizes) (p : FlatProgram) (plans : List FunctionPlan) (table code : List ℕ)
    (address : (function pc : ℕ) → ℕ) (entry : (function : ℕ) → ℕ) (regions : AreRegions m) (ok : IsSound p plans)
    (fit : Fits (layout_of m table code)) (laid : IsLaid m p plans (layout_of m table code) address entry)
    (can : IsEncodable p) where
  -- after so many instructions the machine is where the run is: at most six for each unit of work, and so many more
  record Running (late : ℕ) (c0 : Configuration) (x : Stage) : Type 0 where
    steps : ℕ
    matches : Matches m p plans table code address entry regions ok fit laid can x (runs steps c0)
    work : steps ≤ 6 * (seen x).work + late
    turns : (seen x).turns ≤ steps
    words : HasWords x

  -- one step more, with what it takes at most
  one_more : (late more : ℕ) (c0 : Configuration) (f pc : ℕ) (s t : State) (frames : List Frame) (x : Stage) (most : ℕ)
      → (r : Running (more + late) c0 (Stands f pc s frames)) → s.turns ≡ t.turns
      → most + 6 * s.work + more ≤ 6 * t.work
      → StageSteps m p plans table code address entry regions ok fit laid can x (runs r.steps c0).0 most t.turns t.work
      → HasWords x → Running late c0 x
  one_more late more c0 f pc s t frames x most r same enough st words =
      let here : runs r.steps c0 ≡ ((runs r.steps c0).0, None) = ap (λ q. ((runs r.steps c0).0, q)) r.matches.0 in
      let done : runs (st.steps + r.steps) c0 ≡ st.after =
      runs_then st.steps r.steps c0 (runs r.steps c0).0 here ∙ st.is in
      record {
        steps = st.steps + r.steps;
        matches = subst (Matches m p plans table code address entry regions ok fit laid can x) (sym done) st.matches;
        work = omega (arith, st.few, st.worked, r.work);
        turns = omega (arith, st.turned, r.turns);
        words = words;
      }

  more_by : (c0 : Configuration) (f pc : ℕ) (s : State) (frames : List Frame) (o : Option FlatInstruction)
      → instruction_at p f pc ≡ o → Running 0 c0 (Stands f pc s frames)
      → HasWords (at_instruction m p o f pc s frames)
      → (step m p (at_instruction m p o f pc s frames) ≡ Stuck → ⊥)
      → Running 0 c0 (at_instruction m p o f pc s frames)
  more_by c0 f pc s frames None at r words fine = absurd (fine refl)
  more_by c0 f pc s frames (Some i) at r words fine =
      let t : State = record s { work = s.work + cost p f i } in
      let there = function_there p f pc i at in
      let h = meets_worked m p plans table code address entry regions ok fit laid can f pc s frames
      (runs r.steps c0).0 (s.work + cost p f i) r.matches.1 in
      let w : IsOfWords t = record { values = r.words.0.values; memory = r.words.0.memory } in
      let st = instruction_stage m p plans table code address entry regions ok fit laid can f pc there.0 t frames
      (runs r.steps c0).0 h w there.1 i at fine in
      one_more 0 0 c0 f pc s t frames (goes_to m p i f pc t frames (local (context m p f frames) i pc t))
      (6 * cost p f i) r refl (omega arith) st words

  on_by : (c0 : Configuration) (x : Stage) → Running 0 c0 x → (step m p (step m p x) ≡ Stuck → ⊥)
      → Running 0 c0 (step m p x)
  on_by c0 (Stands f pc s frames) h fine =
      more_by c0 f pc s frames (instruction_at p f pc) refl h (step_fits m p (Stands f pc s frames) h.words) fine
  on_by c0 (Over status report s) h fine = h
  on_by c0 Stuck h fine = h

  on_at : (c0 : Configuration) (x : Stage) → Running 0 c0 x → ((k : ℕ) → run (step m p) k x ≡ Stuck → ⊥) → (n : ℕ)
      → Running 0 c0 (run (step m p) n x)
  on_at c0 x h fine zero = h
  on_at c0 x h fine (suc n) =
      let before = on_at c0 x h fine n in
      let last = run_last (step m p) n x in
      let last2 = run_last (step m p) (suc n) x in
      subst (Running 0 c0) (sym last) (on_by c0 (run (step m p) n x) before
      (λ e. fine (suc (suc n)) (last2 ∙ ap (step m p) last ∙ e)))

  -- a turn takes one instruction, and counts as six at least
  turned : (function : ℕ) → State → State
  turned f s = record s { work = s.work + weight_of (function_in p f); turns = s.turns + 1 }

  turn_is : (f pc : ℕ) (s : State) (frames : List Frame) → instruction_at p f pc ≡ Some flat.Turn
      → step m p (Stands f pc s frames) ≡ Stands f (pc + 1) (turned f s) frames
  unfolding turned
  turn_is f pc s frames at = ap (λ o. at_instruction m p o f pc s frames) at

  turn_by : (late : ℕ) (c0 : Configuration) (f pc : ℕ) (s : State) (frames : List Frame)
      → instruction_at p f pc ≡ Some flat.Turn → Running (5 + late) c0 (Stands f pc s frames)
      → Running late c0 (Stands f (pc + 1) (turned f s) frames)
  unfolding turned
  turn_by late c0 f pc s frames at r =
      let t : State = record s { work = s.work + weight_of (function_in p f) } in
      let there = function_there p f pc flat.Turn at in
      let h = meets_worked m p plans table code address entry regions ok fit laid can f pc s frames
      (runs r.steps c0).0 (s.work + weight_of (function_in p f)) r.matches.1 in
      let w : IsOfWords t = record { values = r.words.0.values; memory = r.words.0.memory } in
      let st = turn_stage m p plans table code address entry regions ok fit laid can f pc there.0 t frames
      (runs r.steps c0).0 h w there.1 at in
      let some = (weighs p f (keeping p plans f).room there.0 there.1 (ok.room f there.0 there.1)).some in
      one_more late 5 c0 f pc s t frames (Stands f (pc + 1) (record t { turns = t.turns + 1 }) frames) 1 r refl
      (omega arith) st (record { values = r.words.0.values; memory = r.words.0.memory }, r.words.1)

  -- what is seen is the same
  sees_same : (s0 : MachineState) (input : List ℕ) (x : Stage) (n : ℕ)
      → Matches m p plans table code address entry regions ok fit laid can x (runs n (begun s0 input))
      → (seen x).shown ≡ shown_by (runs n (begun s0 input))
  sees_same s0 input (Stands f pc s frames) n h =
      let t = runs n (begun s0 input) in
      shown_is (seen (Stands f pc s frames)).shown (shown_by t) (sym h.1.outside.output) (sym h.1.outside.errors)
      (sym h.1.outside.taken) (sym (h.1.shows.accesses_are ∙ h.1.accesses)) (sym (ap end_of h.0))
  sees_same s0 input (Over status report s) n h =
      let t = runs n (begun s0 input) in
      shown_is (seen (Over status report s)).shown (shown_by t) (sym h.output) (sym h.errors) (sym h.taken)
      (sym h.accesses) (sym (ap end_of h.ending))
  sees_same s0 input Stuck n h = absurd h

  -- ---- the start

  -- four addresses in their registers
  record Starts (v : View) : Type 0 where
    go : AllGoOn (object_bytes m) (space_bytes m) (wide 2 (region_start m Calls) ++ (wide 3 (region_start m Arguments)
        ++ (wide 4 (region_start m RuntimeCalls) ++ wide 28 (row_address p p.entry)))) v
    view : View
    view_is : performs (wide 2 (region_start m Calls) ++ (wide 3 (region_start m Arguments)
        ++ (wide 4 (region_start m RuntimeCalls) ++ wide 28 (row_address p p.entry)))) v ≡ view
    pc : view.pc ≡ v.pc + 32
    zero_is : view.registers 0 ≡ v.registers 0
    two : view.registers 2 ≡ region_start m Calls
    three : view.registers 3 ≡ region_start m Arguments
    four : view.registers 4 ≡ region_start m RuntimeCalls
    callee : view.registers 28 ≡ row_address p p.entry
    memory : view.memory ≡ v.memory
    accesses : view.accesses ≡ v.accesses

  starts : (v : View) → row_address p p.entry < 2 ^ 31 - 2 ^ 11 → Starts v
  starts v small =
      let o = object_bytes m in
      let s = space_bytes m in
      let a = wide 2 (region_start m Calls) in
      let b = wide 3 (region_start m Arguments) in
      let d = wide 4 (region_start m RuntimeCalls) in
      let e = wide 28 (row_address p p.entry) in
      let ga = wide_gives o s 2 (region_start m Calls) v (omega arith) (omega (arith, regions.calls, regions.end)) in
      let v1 = performs a v in
      let gb = wide_gives o s 3 (region_start m Arguments) v1 (omega arith)
      (omega (arith, regions.arguments, regions.calls, regions.end)) in
      let v2 = performs b v1 in
      let gd = wide_gives o s 4 (region_start m RuntimeCalls) v2 (omega arith) (omega (arith, regions.end)) in
      let v3 = performs d v2 in
      let ge = wide_gives o s 28 (row_address p p.entry) v3 (omega arith) small in
      let v4 = performs e v3 in
      record {
        go = go_append o s a (b ++ (d ++ e)) v ga.go (go_append o s b (d ++ e) v1 gb.go
            (go_append o s d e v2 gd.go ge.go));
        view = v4;
        view_is = performs_append a (b ++ (d ++ e)) v ∙ performs_append b (d ++ e) v1 ∙ performs_append d e v2;
        pc = ge.pc ∙ rw (gd.pc, gb.pc, ga.pc) (omega arith);
        zero_is = ge.others 0 (omega arith) ∙ gd.others 0 (omega arith) ∙ gb.others 0 (omega arith)
            ∙ ga.others 0 (omega arith);
        two = ge.others 2 (omega arith) ∙ gd.others 2 (omega arith) ∙ gb.others 2 (omega arith) ∙ ga.value;
        three = ge.others 3 (omega arith) ∙ gd.others 3 (omega arith) ∙ gb.value;
        four = ge.others 4 (omega arith) ∙ gd.value;
        callee = ge.value;
        memory = ge.memory ∙ gd.memory ∙ gb.memory ∙ ga.memory;
        accesses = ge.accesses ∙ gd.accesses ∙ gb.accesses ∙ ga.accesses;
      }

  no_rooms : (b : Bool) → rooms b p [] ≡ 0
  unfolding rooms
  no_rooms b = refl

  entry_frame : (b : Bool) (g : FlatFunction) (w : View) → IsKind m p plans address regions ok can.rooms p.entry g b
      → w.registers 2 ≡ region_start m Calls → w.registers 4 ≡ region_start m RuntimeCalls
      → room_if false (function_in p p.entry) ≤ m.budgets.calls
      → room_if true (function_in p p.entry) ≤ region_size m RuntimeCalls
      → HasFrame (space_bytes m) (keeping p plans p.entry).base (record_of m p p.entry [])
      (keeping p plans p.entry).room w
  entry_frame false g w k two four fits fits' =
      let nothing = no_rooms false in
      record {
        is = ap w.registers k.base ∙ two ∙ omega (arith, k.record_is []);
        base_low = omega (arith, k.base);
        base_high = omega (arith, k.base);
        low = omega (arith, k.record_is [], regions.cells_low, regions.cells, regions.arguments);
        high = omega (arith, k.record_is [], k.program, k.bytes, regions.calls, regions.space);
        small = omega (arith, regions.space, regions.end);
      }
  entry_frame true g w k two four fits fits' =
      let nothing = no_rooms true in
      record {
        is = ap w.registers k.base ∙ four ∙ omega (arith, k.record_is []);
        base_low = omega (arith, k.base);
        base_high = omega (arith, k.base);
        low = omega (arith, k.record_is [], regions.cells_low, regions.cells, regions.arguments, regions.calls);
        high = omega (arith, k.record_is [], k.runtime, k.bytes, regions.space);
        small = omega (arith, regions.space, regions.end);
      }

  zeros : (n r : ℕ) → slice_index (replicate n 0) r ≡ 0
  zeros zero r = refl
  zeros (suc n) zero = refl
  zeros (suc n) (suc r) = zeros n r

  module _ (start : ℕ) (objects spaces : List ℕ) (memory : Bytes) (input : List ℕ) (can_start : IsStartable m p)
      (stands : AllStand (layout_of m table code) start (start_block m p))
      (hold : Hold (object_bytes m) (space_bytes m) memory objects spaces) (bytes : AreBytes memory) where
    abbrev first_of : Bytes → List ℕ → State
    first_of bytes read = record {
      values = λ x. 0;
      memory = bytes;
      input = read;
      output = [];
      taken = 0;
      accesses = [];
      turns = 0;
      work = 0;
    }

    abbrev first_view : View
    first_view = record { pc = start; registers = λ r. 0; memory = memory; accesses = [] }

    first_shows : Shows (layout_of m table code) (begun (begins start table code objects spaces) input)
        (record { pc = start; registers = λ r. 0; memory = memory; accesses = [] })
    first_shows = record {
      objects = objects;
      spaces = spaces;
      memory_is = refl;
      hold = hold;
      pc_is = refl;
      count = refl;
      registers_are = λ r lt. by (r == 0) r;
      accesses_are = refl;
    }
      where
        by : (b : Bool) (r : ℕ) → (if b then 0 else slice_index (replicate 32 0) r) ≡ 0
        by true r = refl
        by false r = zeros 32 r

    first_running : Running 15 (begun (begins start table code objects spaces) input) (started p memory input)
    first_running =
        let l = layout_of m table code in
        let g = can_start.function in
        let k = keeping p plans p.entry in
        let c0 = begun (begins start table code objects spaces) input in
        let numbered = laid.numbered p.entry g can_start.there in
        let v0 : View = record { pc = start; registers = λ r. 0; memory = memory; accesses = [] } in
        let front = wide 2 (region_start m Calls) ++ (wide 3 (region_start m Arguments)
        ++ (wide 4 (region_start m RuntimeCalls) ++ wide 28 (row_address p p.entry))) in
        let s = starts v0 (omega arith) in
        let parts = all_append l front (Jalr 1 28 0 ∷ []) start stands in
        let one = straight_comes l fit front c0 v0 parts.0 s.go first_shows in
        let shows1 : Shows l one.after s.view = subst (Shows l one.after) s.view_is one.shows in
        let pc1 : start + 4 * 8 ≡ s.view.pc = let e = s.pc in omega arith in
        let two = arrives l fit 28 (row_address p p.entry) (entry p.entry) one.after s.view
        (subst (λ q. AllStand l q (Jalr 1 28 0 ∷ [])) pc1 parts.1).0 s.callee (omega arith)
        (row_whole p p.entry)
        (laid.rows p.entry g can_start.there) (laid.low p.entry g can_start.there)
        (laid.whole p.entry g can_start.there) shows1 in
        let w = two.view in
        let low : (r : ℕ) → r ≢ 1 → r ≢ 31 → w.registers r ≡ s.view.registers r = two.others in
        let two_is : w.registers 2 ≡ region_start m Calls = low 2 (omega arith) (omega arith) ∙ s.two in
        let three_is : w.registers 3 ≡ region_start m Arguments = low 3 (omega arith) (omega arith) ∙ s.three in
        let four_is : w.registers 4 ≡ region_start m RuntimeCalls = low 4 (omega arith) (omega arith) ∙ s.four in
        let zero_w : w.registers 0 ≡ 0 = low 0 (omega arith) (omega arith) ∙ s.zero_is in
        let frame = entry_frame g.is_runtime g w
        (kind m p plans address regions ok can.rooms p.entry g g.is_runtime can_start.there refl) two_is four_is
        can_start.program_fits can_start.runtime_fits in
        let behind = record_behind m p plans address regions ok can.rooms p.entry [] in
        let room = ok.charged_room p.entry g can_start.there in
        let big = can.rooms p.entry g can_start.there in
        let nothing = can_start.takes_nothing in
        let link_low : s.view.pc + 4 < 2 ^ 64 = (subst (λ q. AllStand l q (Jalr 1 28 0 ∷ [])) pc1 parts.1).0.small in
        let en = enters (object_bytes m) (space_bytes m) (record_of m p p.entry []) k (region_start m Arguments) 1024
        g.parameters (s.view.pc + 4) w (omega arith) (omega arith)
        (record {
          is = three_is;
          low = omega (arith, regions.cells_low, regions.cells);
          below = omega (arith, regions.arguments);
        }) frame two.link link_low (ok.kept p.entry 0 g can_start.there) (λ j lt. absurd (omega arith)) in
        let eb = entry_block k g.parameters in
        let three = straight_comes l fit eb two.comes.after w (subst (λ q. AllStand l q eb) (sym two.pc)
        (laid.entries p.entry g can_start.there)) en.go two.comes.shows in
        let short = entry_length k g.parameters in
        let run_is : runs (length eb + (3 + 8)) c0 ≡ (three.after, None) =
        runs_then (length eb) (3 + 8) c0 two.comes.after (runs_then 3 8 c0 one.after one.is ∙ two.comes.is) ∙
        three.is in
        let z = performs eb w in
        let none_false = no_rooms false in
        let none_true = no_rooms true in
        let met : Meets m p plans l address p.entry 0 (record {
          values = λ x. 0;
          memory = memory;
          input = input;
          output = [];
          taken = 0;
          accesses = [];
          turns = 0;
          work = 0;
        }) [] three.after = record {
          view = z;
          shows = three.shows;
          pc_is = en.pc ∙ ap (λ q. q + 4 * length eb) two.pc ∙ sym (laid.first p.entry g can_start.there);
          is_at = record {
            zero_is = en.low 0 (omega arith) ∙ zero_w;
            program_top = en.low 2 (omega arith) ∙ two_is ∙ omega arith;
            arguments = en.low 3 (omega arith) ∙ three_is;
            runtime_top = en.low 4 (omega arith) ∙ four_is ∙ omega arith;
            program_fits = omega (arith, can_start.program_fits);
            runtime_fits = omega (arith, can_start.runtime_fits);
            held = λ y live. let q = ok.entry p.entry g can_start.there y live in absurd (omega arith);
            same = λ a fl.
                let before = flat_before m regions a fl in
                en.memory a (inl (omega (arith, regions.arguments))) ∙ ap (λ q. q a) (two.memory ∙ s.memory);
            wait = tt;
          };
          accesses = en.accesses ∙ two.accesses ∙ s.accesses;
          outside = record {
            input = three.stays.input ∙ two.comes.stays.input ∙ one.stays.input;
            output = three.stays.output ∙ two.comes.stays.output ∙ one.stays.output;
            errors = three.stays.errors ∙ two.comes.stays.errors ∙ one.stays.errors;
            taken = three.stays.taken ∙ two.comes.stays.taken ∙ one.stays.taken;
          };
        } in
        record {
          steps = length eb + (3 + 8);
          matches = subst (Matches m p plans table code address entry regions ok fit laid can (started p memory input))
              (sym run_is) (refl, met);
          work = omega arith;
          turns = omega arith;
          words = (record { values = λ x. omega arith; memory = bytes }, tt);
        }

    -- a moment of the start, at which nothing has been shown
    early : (is : List Instr) (x : Stage) → AllStand (layout_of m table code) start is
        → AllGoOn (object_bytes m) (space_bytes m) is first_view → (performs is first_view).accesses ≡ []
        → (seen x).shown ≡ nothing_shown → (seen x).turns ≤ length is → length is ≤ 6 * (seen x).work
        → MeetsMoment 6 (seen x) (behaviour (begins start table code objects spaces) input (length is))
    unfolding behaviour
    early is x stand go silent nothing turns work =
        let c0 = begun (begins start table code objects spaces) input in
        let one = straight_comes (layout_of m table code) fit is c0 first_view stand go first_shows in
        record {
          shown = nothing ∙ shown_is nothing_shown (shown_by (one.after, None)) (sym one.stays.output)
              (sym one.stays.errors) (sym one.stays.taken) (sym (one.shows.accesses_are ∙ silent)) refl
              ∙ sym (ap shown_by one.is);
          turns = turns;
          work = work;
        }

    -- the entry begins with three turns
    s1 : State
    s1 = turned p.entry (first_of memory input)

    s2 : State
    s2 = turned p.entry s1

    s3 : State
    s3 = turned p.entry s2

    first_turn : step m p (started p memory input) ≡ Stands p.entry 1 s1 []
    unfolding s1
    first_turn = turn_is p.entry 0 (first_of memory input) [] (can_start.turns 0 (omega arith))

    second_turn : step m p (Stands p.entry 1 s1 []) ≡ Stands p.entry 2 s2 []
    unfolding s2
    second_turn = turn_is p.entry 1 s1 [] (can_start.turns 1 (omega arith))

    third_turn : step m p (Stands p.entry 2 s2 []) ≡ Stands p.entry 3 s3 []
    unfolding s3
    third_turn = turn_is p.entry 2 s2 [] (can_start.turns 2 (omega arith))

    turned_running : Running 0 (begun (begins start table code objects spaces) input) (Stands p.entry 3 s3 [])
    unfolding s1 s2 s3
    turned_running =
        let c0 = begun (begins start table code objects spaces) input in
        turn_by 0 c0 p.entry 2 s2 [] (can_start.turns 2 (omega arith))
        (turn_by 5 c0 p.entry 1 s1 [] (can_start.turns 1 (omega arith))
        (turn_by 10 c0 p.entry 0 (first_of memory input) [] (can_start.turns 0 (omega arith)) first_running))

    entry_weight : 1 ≤ weight_of (function_in p p.entry)
    entry_weight = (weighs p p.entry (keeping p plans p.entry).room can_start.function can_start.there
        (ok.room p.entry can_start.function can_start.there)).some

    pub follows : ((k : ℕ) → run (step m p) k (started p memory input) ≡ Stuck → ⊥)
        → Follows 6 (flat_meaning m p memory input) (behaviour (begins start table code objects spaces) input)
    unfolding behaviour s1 s2 turned
    follows fine = record { at = by }
      where
        third : run (step m p) 3 (started p memory input) ≡ Stands p.entry 3 s3 []
        third = ap (λ x. step m p (step m p x)) first_turn ∙ ap (step m p) second_turn ∙ third_turn

        by : (n : ℕ) → (k : ℕ) × MeetsMoment 6 (flat_meaning m p memory input n)
            (behaviour (begins start table code objects spaces) input k)
        by zero = (
          0,
          record {
            shown = sym (ap shown_by (runs-zero (begun (begins start table code objects spaces) input)));
            turns = omega arith;
            work = omega arith;
          },
        )
        by (suc zero) =
            let n = region_start m Calls in (
              1,
              subst (λ x. MeetsMoment 6 (seen x) (behaviour (begins start table code objects spaces) input 1))
                  (sym first_turn)
                  (early (Lui 2 (upper n) ∷ []) (Stands p.entry 1 s1 []) (stands.0, tt) (tt, tt)
                  (no_access [] start) refl (omega arith) (omega (arith, entry_weight))),
            )
        by (suc (suc zero)) =
            let n = region_start m Calls in
            let gives = wide_gives (object_bytes m) (space_bytes m) 2 n first_view (omega arith)
            (omega (arith, regions.calls, regions.end)) in (
              2,
              subst (λ x. MeetsMoment 6 (seen x) (behaviour (begins start table code objects spaces) input 2))
                  (sym (ap (step m p) first_turn ∙ second_turn))
                  (early (wide 2 n) (Stands p.entry 2 s2 []) (stands.0, (stands.1.0, tt)) gives.go gives.accesses refl
                  (omega arith) (omega (arith, entry_weight))),
            )
        by (suc (suc (suc n))) =
            let c0 = begun (begins start table code objects spaces) input in
            let x = run (step m p) n (Stands p.entry 3 s3 []) in
            let same : run (step m p) n (run (step m p) 3 (started p memory input)) ≡ x = ap (run (step m p) n) third in
            let r = on_at c0 (Stands p.entry 3 s3 []) turned_running
            (λ k e. fine (suc (suc (suc k))) (ap (run (step m p) k) third ∙ e)) n in (
              r.steps,
              subst (λ y. MeetsMoment 6 (seen y) (behaviour (begins start table code objects spaces) input r.steps))
                  (sym same)
                  (record {
                    shown = sees_same (begins start table code objects spaces) input x r.steps r.matches;
                    turns = r.turns;
                    work = omega (arith, r.work);
                  }),
            )

-- The machine follows flat code: where its instructions stand in memory as the layout says, it shows what the program
-- shows, with at most six instructions for each unit of work.
pub machine_follows : (m : MapSizes) (p : FlatProgram) (plans : List FunctionPlan) (table code : List ℕ)
    (address : (function pc : ℕ) → ℕ) (entry : (function : ℕ) → ℕ) (start : ℕ) (objects spaces : List ℕ)
    (memory : Bytes) (input : List ℕ) → AreMapped m → AreAccepted p plans → IsEncodable p → IsStartable m p
    → Fits (layout_of m table code) → IsLaid m p plans (layout_of m table code) address entry
    → AllStand (layout_of m table code) start (start_block m p)
    → Hold (object_bytes m) (space_bytes m) memory objects spaces → AreBytes memory
    → ((k : ℕ) → run (step m p) k (started p memory input) ≡ Stuck → ⊥)
    → Follows 6 (flat_meaning m p memory input) (behaviour (begins start table code objects spaces) input)
machine_follows m p plans table code address entry start objects spaces memory input mapped accepted can can_start fit
    laid stands hold bytes fine =
    follows m p plans table code address entry (regions m mapped) (sound p plans accepted) fit laid can start objects
    spaces memory input can_start stands hold bytes fine
