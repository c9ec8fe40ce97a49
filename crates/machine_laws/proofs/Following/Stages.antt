-- Every instruction, on the machine.
use Rattle.std.proofs.Common.{◌≡◌, ◌≢◌, ℕ, zero, suc, ◌+◌, ◌-◌, ◌*◌, ◌/◌, ◌%◌, ◌^◌, ◌<◌, ◌≤◌, inl, refl, sym}
use Rattle.std.proofs.Common.{ap, ◌∙◌, subst, arith, Bool, true, false, List, [], ◌∷◌, ◌++◌, length, Option, Some}
use Rattle.std.proofs.Common.{None, length-append}
use Rattle.std.specs.Prelude.{if◌then◌else◌, not, ◌&&◌, ◌||◌, ◌==◌, nat_le}
use Rattle.std.proofs.lemmas.Bool.{and_parts, leb-true, eqb-true}
use Rattle.words.specs.TwosComplement.{low_bits}
use Rattle.addr_map.specs.Places.{MapSizes, region_size, function_address, functions_begin}
use Rattle.addr_map.specs.declared.region.Region.TheVariants.{RuntimeCalls}
use Rattle.sb_base.specs.Endings.{code_of, report_of}
use Rattle.rv_isa.specs.Results.{wrap, low_word, branch_taken, reg_result, reg32_result, load_bytes, store_bytes}
use Rattle.flat_code.specs.declared.instruction.FlatInstruction.{FlatInstruction}
use Rattle.flat_code.specs.declared.instruction.FlatInstruction.TheVariants as flat
use Rattle.flat_code.specs.declared.function.FlatFunction.{FlatFunction}
use Rattle.flat_code.specs.declared.function.FlatProgram.{FlatProgram}
use Rattle.flat_code.specs.Memory.{put}
use Rattle.flat_code.specs.Spaces.{is_allowed}
use Rattle.flat_code.specs.State.{State, Frame, Stands, Stuck}
use Rattle.flat_code.specs.Calls.{function_in, room_if, rooms, charged, arguments, with_results, function_at}
use Rattle.flat_code.specs.Calls.{is_of_program}
use Rattle.flat_code.specs.Meaning.{instruction_at, parameters_of, results_of, weight_of, cost, step}
use Rattle.flat_code.specs.Meaning.{goes_to, local, context, right_value, with_register}
use Rattle.flat_code.specs.Meaning.{enters, enters_at, returns, has_room, waiting}
use Rattle.flat_code.specs.Words.{IsOfWords}
use Rattle.reg_plan.specs.declared.plan.FunctionPlan.{FunctionPlan}
use Rattle.reg_plan.specs.Effects.{is_among, is_read, many, one, none, read_by, makes_only, Leads}
use Rattle.rv_sim.specs.Run.{Configuration}
use Rattle.machine_laws.specs.View.Views.{View, Fits}
use Rattle.machine_laws.specs.declared.location.Location.{Location}
use Rattle.machine_laws.specs.declared.location.Location.TheVariants as location
use Rattle.machine_laws.specs.Blocks.Blocks.{constant, used, fetch}
use Rattle.machine_laws.specs.Blocks.Effects.{IsIn, kept, HasFrame}
use Rattle.machine_laws.proofs.Blocks.Pieces.{constant_gives, fetches}
use Rattle.machine_laws.proofs.Blocks.Lengths.{short_constant_length, fetch_length}
use Rattle.machine_laws.specs.Calls.Calls.{call_block, entry_block, save, give, advance, restore}
use Rattle.machine_laws.specs.Calls.Calls.{take, retreat}
use Rattle.machine_laws.specs.Calls.Calls.{Keeping}
use Rattle.machine_laws.specs.Calls.Effects.{AreOwn}
use Rattle.machine_laws.proofs.Calls.Lengths.{save_length, restore_length, give_length, take_length, advance_length}
use Rattle.machine_laws.proofs.Calls.Lengths.{retreat_length, return_length, entry_length}
use Rattle.machine_laws.specs.Following.Code.{keeping, IsLaid, IsEncodable, CallShape, shape_of, wanted, back_part}
use Rattle.machine_laws.specs.Following.Matching.{object_bytes, space_bytes, record_of, Meets}
use Rattle.machine_laws.specs.Following.Start.{layout_of}
use Rattle.machine_laws.proofs.Following.Bounds.{Weighs, weighs, end_most, constant_bound, move_bound, operate_bound}
use Rattle.machine_laws.proofs.Following.Bounds.{operate32_bound}
use Rattle.machine_laws.proofs.Following.Bounds.{branch_bound, charged_bound, put_bound, exit_bound, turn_bound}
use Rattle.machine_laws.proofs.Following.Regions.{AreRegions}
use Rattle.machine_laws.proofs.Following.Sound.{IsSound}
use Rattle.machine_laws.proofs.Following.Standing.{among_one, function_there, frame_of, IsKind, kind}
use Rattle.machine_laws.proofs.Following.Locals.{Becomes, constant_steps, move_steps}
use Rattle.machine_laws.proofs.Following.Locals.{operate_steps, operate32_steps, jump_steps, next_steps, turn_steps}
use Rattle.machine_laws.proofs.Following.Locals.{turn_takes_one, branch_steps, charged_steps, place_in}
use Rattle.machine_laws.proofs.Following.Locals.{wanted_one, wanted_none}
use Rattle.machine_laws.proofs.Following.Locals.{right_in}
use Rattle.machine_laws.proofs.Following.Locals.{among_from, operator_reads, or_last}
use Rattle.machine_laws.proofs.Following.Outside.{put_steps, exit_steps, end_steps}
use Rattle.machine_laws.specs.Calls.Table.{row_address}
use Rattle.machine_laws.proofs.Calls.Table.{program_row}
use Rattle.machine_laws.proofs.Following.Calling.{Aims}
use Rattle.machine_laws.proofs.Following.CallSim.{IsCall, call_steps}
use Rattle.machine_laws.proofs.Following.ReturnSim.{call_of}
use Rattle.machine_laws.proofs.Following.ReturnStep.{return_steps}
use Rattle.machine_laws.proofs.Following.Whole.{StageSteps, more_steps, from_steps, from_ends, plain, same}
use Rattle.machine_laws.proofs.Following.Whole.{load_stage, store_stage, get_stage}

-- the function of a program that an address names has its entry there
found_by : (p : FlatProgram) (a q : ℕ) → function_at p a ≡ Some q → a ≡ row_address p q
unfolding function_at
found_by p a q e = by (function_address ((a - functions_begin) / 16) == a
    && is_of_program (function_in p ((a - functions_begin) / 16))) refl e
  where
    by : (b : Bool) → (function_address ((a - functions_begin) / 16) == a
        && is_of_program (function_in p ((a - functions_begin) / 16))) ≡ b
        → (if b then Some ((a - functions_begin) / 16) else None) ≡ Some q → a ≡ row_address p q
    by true yes_it e' =
        let k = (a - functions_begin) / 16 in
        let parts = and_parts (function_address k == a) (is_of_program (function_in p k)) yes_it in
        let is_k : k ≡ q = cc in
        sym (eqb-true (function_address k) a parts.0) ∙ sym (program_row p k parts.1) ∙ ap (row_address p) is_k
    by false it e' = cc

-- a call makes not one value alone
shape_only : (p : FlatProgram) (k : Keeping) (i : FlatInstruction) (c : CallShape) → shape_of p k i ≡ Some c
    → makes_only i ≡ None
shape_only p k (flat.Call g first x) c e = refl
shape_only p k (flat.CallAddress y first n x r) c e = refl
shape_only p k i c e = cc

less_rooms : (p : FlatProgram) (x : Frame) (xs : List Frame)
    → (room_if false (function_in p x.function) + rooms false p xs ≡ rooms false p (x ∷ xs))
    × (room_if true (function_in p x.function) + rooms true p xs ≡ rooms true p (x ∷ xs))
unfolding rooms
less_rooms p x xs = (refl, refl)

module _ (m : MapSizes) (p : FlatProgram) (plans : List FunctionPlan) (table code : List ℕ)
    (address : (function pc : ℕ) → ℕ) (entry : (function : ℕ) → ℕ) (regions : AreRegions m) (ok : IsSound p plans)
    (fit : Fits (layout_of m table code)) (laid : IsLaid m p plans (layout_of m table code) address entry)
    (can : IsEncodable p) where
  -- what is wanted behind a call has places of its own
  own_wanted : (f place : ℕ) (g : FlatFunction) (into n : ℕ) → function_in p f ≡ Some g
      → AreOwn (keeping p plans f).room (keeping p plans f).place (wanted (keeping p plans f) place into n)
  own_wanted f place g into n there =
      let k = keeping p plans f in
      let h = ok.kept f (place + 1) g there in
      record {
        inside = λ y e. h.inside y (and_parts (k.live (place + 1) y) (not (is_among (many into n) y)) e).0;
        apart = λ x y ex ey ne. h.apart x y (and_parts (k.live (place + 1) x) (not (is_among (many into n) x)) ex).0
            (and_parts (k.live (place + 1) y) (not (is_among (many into n) y)) ey).0 ne;
      }

  call_length : (f pc : ℕ) (g : FlatFunction) (shape : CallShape) → function_in p f ≡ Some g
      → (keeping p plans f).room < 2 ^ 31 - 2 ^ 11 → length shape.aim ≤ 3
      → length (call_block (keeping p plans f) (wanted (keeping p plans f) pc shape.into shape.results) shape.first
      shape.count shape.aim) ≤ 39 + 6 * shape.count
  call_length f pc g shape there small aim =
      let k = keeping p plans f in
      let want = wanted k pc shape.into shape.results in
      let a = save_length k.room k want k.count (own_wanted f pc g shape.into shape.results there) in
      let b = give_length k shape.first shape.count in
      let d = advance_length k small in
      let l1 = length-append (save k want k.count) (give k shape.first shape.count ++ (shape.aim ++ advance k)) in
      let l2 = length-append (give k shape.first shape.count) (shape.aim ++ advance k) in
      let l3 = length-append shape.aim (advance k) in
      omega arith

  back_length : (f place : ℕ) (g : FlatFunction) (shape : CallShape) → function_in p f ≡ Some g
      → (keeping p plans f).room < 2 ^ 31 - 2 ^ 11
      → length (back_part (keeping p plans f) place shape) ≤ 36 + 6 * shape.results
  back_length f place g shape there small =
      let k = keeping p plans f in
      let want = wanted k place shape.into shape.results in
      let a = restore_length k.room k want k.count (own_wanted f place g shape.into shape.results there) in
      let b = take_length k (place + 1) shape.into shape.results in
      let d = retreat_length k small in
      let l1 = length-append (retreat k) (restore k want k.count ++ take k (place + 1) shape.into shape.results) in
      let l2 = length-append (restore k want k.count) (take k (place + 1) shape.into shape.results) in
      omega arith

  room_by : (b : Bool) (f : ℕ) (g : FlatFunction) → IsKind m p plans address regions ok can.rooms f g b
      → (n k : ℕ) → room_if false (function_in p f) + n ≤ m.budgets.calls
      → room_if true (function_in p f) + k ≤ region_size m RuntimeCalls
      → (keeping p plans f).room < 2 ^ 31 - 2 ^ 11
  room_by false f g k n r fits fits' =
      omega (arith, ok.room f g k.there, k.program, regions.calls, regions.end, regions.cells_low, regions.cells)
  room_by true f g k n r fits fits' = omega (arith, ok.room f g k.there, k.runtime, regions.end)

  module _ (f pc : ℕ) (g : FlatFunction) (t : State) (frames : List Frame) (c : Configuration)
      (h : Meets m p plans (layout_of m table code) address f pc t frames c) (words : IsOfWords t)
      (there : function_in p f ≡ Some g) where
    room_small : (keeping p plans f).room < 2 ^ 31 - 2 ^ 11
    room_small = room_by g.is_runtime f g (kind m p plans address regions ok can.rooms f g g.is_runtime there refl)
        (rooms false p frames) (rooms true p frames) h.is_at.program_fits h.is_at.runtime_fits

    -- ---- a call
    enters_if : (i : FlatInstruction) (shape : CallShape) (to : ℕ) (callee : FlatFunction) (b : Bool)
        → instruction_at p f pc ≡ Some i → shape_of p (keeping p plans f) i ≡ Some shape
        → function_in p to ≡ Some callee
        → ((callee.parameters == shape.count) && ((callee.results == shape.results)
        && has_room m p (waiting f pc shape.into t ∷ frames) callee)) ≡ b
        → ((j : ℕ) → j < shape.count → is_read (read_by p f i) (shape.first + j) ≡ true)
        → Leads i pc (pc + 1) → shape.target ≢ 6 → shape.target ≢ (keeping p plans f).base → length shape.aim ≤ 3
        → ((w : View) → HasFrame (space_bytes m) (keeping p plans f).base (record_of m p f frames)
        (keeping p plans f).room w → w.registers 0 ≡ 0
        → ((y : ℕ) → (keeping p plans f).live pc y ≡ true
        → kept (record_of m p f frames) w ((keeping p plans f).place y) ≡ t.values y)
        → Aims (object_bytes m) (space_bytes m) shape.aim w shape.target (row_address p to))
        → (step m p (if b then Stands to 0 (record t { values = arguments shape.first shape.count t.values })
        (waiting f pc shape.into t ∷ frames) else Stuck) ≡ Stuck → ⊥)
        → StageSteps m p plans table code address entry regions ok fit laid can
        (if b then Stands to 0 (record t { values = arguments shape.first shape.count t.values })
        (waiting f pc shape.into t ∷ frames) else Stuck) c (6 * (8 + 2 * shape.count)) t.turns t.work
    enters_if i shape to callee false at shape_is callee_is e reads leads no_six no_base short aims fine =
        absurd (fine refl)
    enters_if i shape to callee true at shape_is callee_is e reads leads no_six no_base short aims fine =
        let k = keeping p plans f in
        let call = call_of m p plans f pc i shape shape_is in
        let frames' = waiting f pc shape.into t ∷ frames in
        let a = and_parts (callee.parameters == shape.count)
        ((callee.results == shape.results) && has_room m p frames' callee) e in
        let b = and_parts (callee.results == shape.results) (has_room m p frames' callee) a.1 in
        let d = and_parts (nat_le (room_if false (Some callee) + rooms false p frames') m.budgets.calls)
        (nat_le (room_if true (Some callee) + rooms true p frames') (region_size m RuntimeCalls)) b.1 in
        let fits = leb-true (room_if false (Some callee) + rooms false p frames') m.budgets.calls d.0 in
        let fits' = leb-true (room_if true (Some callee) + rooms true p frames') (region_size m RuntimeCalls) d.1 in
        let s' : State = record t { values = arguments shape.first shape.count t.values } in
        let eb = entry_length (keeping p plans to) shape.count in
        let cb = call_length f pc g shape there room_small short in
        let is_call : IsCall m p plans table code address entry regions ok fit laid can f pc g i shape to callee =
        record {
          there = there;
          at = at;
          shape_is = shape_is;
          block_is = call.block_is;
          callee_is = callee_is;
          count = sym (eqb-true callee.parameters shape.count a.0);
          results = sym (eqb-true callee.results shape.results b.0);
          reads = λ j lt. ok.reads f pc g i there at (wanted_none m p plans table code address entry regions ok fit laid can f pc i
              (shape_only p (keeping p plans f) i shape shape_is)) (shape.first + j) (reads j lt);
          rest = λ y live other. ok.rest f pc g i there at (pc + 1) y leads live
              (ap (λ q. is_among q y) call.makes ∙ other);
          no_six = no_six;
          no_base = no_base;
        } in
        let st = call_steps m p plans table code address entry regions ok fit laid can f pc g i shape to callee t s'
        frames
        c is_call h words aims
        (subst (λ o. room_if false o + rooms false p frames' ≤ m.budgets.calls) (sym callee_is) fits)
        (subst (λ o. room_if true o + rooms true p frames' ≤ region_size m RuntimeCalls) (sym callee_is) fits')
        refl refl refl refl refl refl in
        from_steps m p plans table code address entry regions ok fit laid can to 0 s' frames' c
        (length (entry_block (keeping p plans to) shape.count) + (4
        + length (call_block k (wanted k pc shape.into shape.results) shape.first shape.count shape.aim)))
        (6 * (8 + 2 * shape.count)) t.turns t.work st (omega arith) (omega arith) refl

    enters_stage : (i : FlatInstruction) (shape : CallShape) (to : ℕ) (o : Option FlatFunction)
        → instruction_at p f pc ≡ Some i → shape_of p (keeping p plans f) i ≡ Some shape
        → function_in p to ≡ o
        → ((j : ℕ) → j < shape.count → is_read (read_by p f i) (shape.first + j) ≡ true)
        → Leads i pc (pc + 1) → shape.target ≢ 6 → shape.target ≢ (keeping p plans f).base → length shape.aim ≤ 3
        → ((w : View) → HasFrame (space_bytes m) (keeping p plans f).base (record_of m p f frames)
        (keeping p plans f).room w → w.registers 0 ≡ 0
        → ((y : ℕ) → (keeping p plans f).live pc y ≡ true
        → kept (record_of m p f frames) w ((keeping p plans f).place y) ≡ t.values y)
        → Aims (object_bytes m) (space_bytes m) shape.aim w shape.target (row_address p to))
        → (step m p (enters m p to shape.first shape.count shape.results o (waiting f pc shape.into t ∷ frames) t)
        ≡ Stuck → ⊥)
        → StageSteps m p plans table code address entry regions ok fit laid can
        (enters m p to shape.first shape.count shape.results o (waiting f pc shape.into t ∷ frames) t) c
        (6 * (8 + 2 * shape.count)) t.turns t.work
    enters_stage i shape to None at shape_is callee_is reads leads no_six no_base short aims fine = absurd (fine refl)
    enters_stage i shape to (Some callee) at shape_is callee_is reads leads no_six no_base short aims fine =
        enters_if i shape to callee
        ((callee.parameters == shape.count) && ((callee.results == shape.results)
        && has_room m p (waiting f pc shape.into t ∷ frames) callee))
        at shape_is callee_is refl reads leads no_six no_base short aims fine

    base_low : (keeping p plans f).base < 5
    base_low = (frame_of m p plans address regions ok can.rooms f pc g t frames h.view there h.is_at).base_high

    -- where the numbers of functions lie
    address_small : (to : ℕ) → row_address p to < 2 ^ 20 → row_address p to < 2 ^ 31 - 2 ^ 11
    address_small to lt = omega arith

    call_stage : (to first x : ℕ) → instruction_at p f pc ≡ Some (flat.Call to first x)
        → (step m p (enters m p to first (parameters_of (function_in p to)) (results_of (function_in p to))
        (function_in p to) (waiting f pc x t ∷ frames) t) ≡ Stuck → ⊥)
        → StageSteps m p plans table code address entry regions ok fit laid can
        (enters m p to first (parameters_of (function_in p to)) (results_of (function_in p to)) (function_in p to)
        (waiting f pc x t ∷ frames) t) c (6 * (8 + 2 * parameters_of (function_in p to))) t.turns t.work
    call_stage to first x at fine = by (function_in p to) refl fine
      where
        by : (o : Option FlatFunction) → function_in p to ≡ o
            → (step m p (enters m p to first (parameters_of (function_in p to)) (results_of (function_in p to))
            o (waiting f pc x t ∷ frames) t) ≡ Stuck → ⊥)
            → StageSteps m p plans table code address entry regions ok fit laid can
            (enters m p to first (parameters_of (function_in p to)) (results_of (function_in p to)) o
            (waiting f pc x t ∷ frames) t) c (6 * (8 + 2 * parameters_of (function_in p to))) t.turns t.work
        by None e fine' = absurd (fine' refl)
        by (Some callee) e fine' =
            let numbered = laid.numbered to callee e in
            let small : row_address p to < 2 ^ 31 - 2 ^ 11 = omega arith in
            let n = parameters_of (function_in p to) in
            let shape : CallShape = record {
              first = first;
              count = n;
              into = x;
              results = results_of (function_in p to);
              aim = constant 28 (row_address p to);
              target = 28;
            } in
            let short = short_constant_length 28 (row_address p to) (inl small) in
            enters_stage (flat.Call to first x) shape to (Some callee) at refl e
            (λ j lt. or_last (is_among none (first + j)) (is_among none (first + j)) (is_among (many first n) (first
            + j))
            (among_from first n j lt))
            (inl refl) (omega arith) (omega (arith, base_low)) (omega arith)
            (λ w fw zw held. let q = constant_gives (object_bytes m) (space_bytes m) 28 (row_address p to) w
            (omega arith) zw (omega arith) in
            record {
              go = q.go;
              pc = q.pc;
              value = q.value;
              others = q.others;
              memory = q.memory;
              accesses = q.accesses;
            }) fine'

    used_apart : (room base : ℕ) (x : Location) → IsIn room x → base < 5
        → (used x 28 ≢ 6) × (used x 28 ≢ base)
    used_apart room base (location.Register r) i lt = (omega (arith, i.low), omega (arith, i.low))
    used_apart room base (location.Frame o) i lt = (omega arith, omega arith)

    address_stage : (y first n x r : ℕ) (o : Option ℕ)
        → instruction_at p f pc ≡ Some (flat.CallAddress y first n x r) → function_at p (t.values y) ≡ o
        → (step m p (enters_at m p o first n r (waiting f pc x t ∷ frames) t) ≡ Stuck → ⊥)
        → StageSteps m p plans table code address entry regions ok fit laid can
        (enters_at m p o first n r (waiting f pc x t ∷ frames) t) c (6 * (8 + 2 * n)) t.turns t.work
    address_stage y first n x r None at e fine = absurd (fine refl)
    address_stage y first n x r (Some to) at e fine =
        let k = keeping p plans f in
        let i = flat.CallAddress y first n x r in
        let live = ok.reads f pc g i there at
        (wanted_none m p plans table code address entry regions ok fit laid can f pc i refl) y (or_first (is_among (one y) y) (is_among none y)
        (is_among (many first n) y) (among_one y)) in
        let inside = (ok.kept f pc g there).inside y live in
        let shape : CallShape = record {
          first = first;
          count = n;
          into = x;
          results = r;
          aim = fetch (k.place y) k.base 28;
          target = used (k.place y) 28;
        } in
        let apart = used_apart k.room k.base (k.place y) inside base_low in
        enters_stage i shape to (function_in p to) at refl refl
        (λ j lt. or_last (is_among (one y) (first + j)) (is_among none (first + j)) (is_among (many first n) (first
        + j))
        (among_from first n j lt))
        (inl refl) apart.0 apart.1 (fetch_length (k.place y) k.base 28)
        (λ w fw zw held. let q = fetches (object_bytes m) (space_bytes m) (k.place y) k.base 28 (record_of m p f frames)
        k.room w (omega arith) fw inside in
        record {
          go = q.go;
          pc = q.pc;
          value = q.value ∙ held y live ∙ function_found (t.values y) to e;
          others = q.others;
          memory = q.memory;
          accesses = q.accesses;
        }) fine
      where
        or_first : (a b d : Bool) → a ≡ true → (a || (b || d)) ≡ true
        or_first a b d e = rw e refl

        function_found : (a q : ℕ) → function_at p a ≡ Some q → a ≡ row_address p q
        function_found a q e = found_by p a q e

    -- ---- a return
    return_stage : (y : ℕ) (fs : List Frame) → frames ≡ fs → instruction_at p f pc ≡ Some (flat.Return y)
        → (step m p (returns (results_of (function_in p f)) y fs t) ≡ Stuck → ⊥)
        → StageSteps m p plans table code address entry regions ok fit laid can
        (returns (results_of (function_in p f)) y fs t) c (6 * (8 + 2 * results_of (function_in p f))) t.turns t.work
    return_stage y [] e at fine = absurd (fine refl)
    return_stage y (x ∷ xs) e at fine =
        let r = results_of (function_in p f) in
        let results : r ≡ g.results = ap results_of there in
        let s' : State = record t { values = with_results x.into r t.values y x.values } in
        let h' = subst (λ q. Meets m p plans (layout_of m table code) address f pc t q c) e h in
        let rb = return_length (keeping p plans f) y g.results in
        let q = h'.is_at.wait.0 in
        let there_x = function_there p x.function q.place q.call q.at in
        let gx = there_x.0 in
        let fits = fits_of x xs h'.is_at.program_fits h'.is_at.runtime_fits in
        let small = room_by gx.is_runtime x.function gx
        (kind m p plans address regions ok can.rooms x.function gx gx.is_runtime there_x.1 refl) (rooms false p xs)
        (rooms true p xs) fits.0 fits.1 in
        let st = return_steps m p plans table code address entry regions ok fit laid can f pc y g t s' x xs c h' words
        there at (ap (λ n. with_results x.into n t.values y x.values) results) refl refl refl refl refl
        (6 * (8 + 2 * r))
        (λ shape place count. let b = back_length x.function place gx shape there_x.1 small in
        omega (arith, count, results)) in
        from_steps m p plans table code address entry regions ok fit laid can x.function x.next s' xs c
        (6 * (8 + 2 * r))
        (6 * (8 + 2 * r)) t.turns t.work st (omega arith) (omega arith) refl
      where
        fits_of : (x : Frame) (xs : List Frame)
            → room_if false (function_in p f) + rooms false p (x ∷ xs) ≤ m.budgets.calls
            → room_if true (function_in p f) + rooms true p (x ∷ xs) ≤ region_size m RuntimeCalls
            → (room_if false (function_in p x.function) + rooms false p xs ≤ m.budgets.calls)
            × (room_if true (function_in p x.function) + rooms true p xs ≤ region_size m RuntimeCalls)
        fits_of x xs a b = let l = less_rooms p x xs in (omega (arith, l.0), omega (arith, l.1))

    -- ---- all instructions
    weight : Weighs (keeping p plans f).room (weight_of (function_in p f))
    weight = weighs p f (keeping p plans f).room g there (ok.room f g there)

    pub turn_stage : instruction_at p f pc ≡ Some flat.Turn
        → StageSteps m p plans table code address entry regions ok fit laid can
        (Stands f (pc + 1) (record t { turns = t.turns + 1 }) frames) c 1 t.turns t.work
    turn_stage at =
        let s' : State = record t { turns = t.turns + 1 } in
        let b : Becomes t s' t.values t.memory t.accesses = record {
          values_are = refl;
          memory_is = refl;
          accesses_are = refl;
          input_is = refl;
          output_is = refl;
          taken_is = refl;
        } in
        let st = turn_steps m p plans table code address entry regions ok fit laid can f pc g t s' frames c h words
        there
        at b in
        let takes = turn_takes_one m p plans table code address entry regions ok fit laid can f pc g t s' frames c h
        words
        there at b in
        let bound = turn_bound m p plans f pc in
        from_steps m p plans table code address entry regions ok fit laid can f (pc + 1) s' frames c _ 1 t.turns
        t.work st
        (omega arith) (omega (arith, takes)) refl

    pub instruction_stage : (i : FlatInstruction) → instruction_at p f pc ≡ Some i
        → (step m p (goes_to m p i f pc t frames (local (context m p f frames) i pc t)) ≡ Stuck → ⊥)
        → StageSteps m p plans table code address entry regions ok fit laid can
        (goes_to m p i f pc t frames (local (context m p f frames) i pc t)) c (6 * cost p f i) t.turns t.work
    instruction_stage (flat.Constant x n) at fine =
        let s' = with_register x (low_bits 64 n) t in
        let st = constant_steps m p plans table code address entry regions ok fit laid can f pc g t s' frames c h words
        there x n at
        (plain m p plans table code address entry regions ok fit laid can t (put t.values x (low_bits 64 n))) in
        let bound = constant_bound m p plans f pc x n
        (place_in m p plans table code address entry regions ok fit laid can f (pc + 1) x g there)
        (can.constant f pc x n at) in
        from_steps m p plans table code address entry regions ok fit laid can f (pc + 1) s' frames c _
        (6 * weight_of (function_in p f))
        t.turns t.work st (omega (arith, bound, weight.twice, weight.some)) (omega arith) refl
    instruction_stage (flat.Move x y) at fine =
        let s' = with_register x (t.values y) t in
        let st = move_steps m p plans table code address entry regions ok fit laid can f pc g t s' frames c h words
        there x y at
        (plain m p plans table code address entry regions ok fit laid can t (put t.values x (t.values y))) in
        let bound = move_bound m p plans f pc x y
        (place_in m p plans table code address entry regions ok fit laid can f (pc + 1) x g there)
        (λ live. place_in m p plans table code address entry regions ok fit laid can f pc y g there
        (ok.reads f pc g (flat.Move x y) there at
        (wanted_one m p plans table code address entry regions ok fit laid can f pc x (flat.Move x y) refl live) y (rw (among_one y) refl))) in
        from_steps m p plans table code address entry regions ok fit laid can f (pc + 1) s' frames c _
        (6 * weight_of (function_in p f))
        t.turns t.work st (omega (arith, bound, weight.twice, weight.some)) (omega arith) refl
    instruction_stage (flat.Operate op x y z) at fine =
        let n = reg_result op (t.values y) (right_value z t.values) in
        let s' = with_register x n t in
        let i = flat.Operate op x y z in
        let st = operate_steps m p plans table code address entry regions ok fit laid can f pc g t s' frames c h words
        there op x y z at
        (plain m p plans table code address entry regions ok fit laid can t (put t.values x n)) in
        let reads = λ (live : (keeping p plans f).live (pc + 1) x ≡ true). operator_reads m p plans table code address entry regions ok fit laid can
        f pc y z g i there at refl (wanted_one m p plans table code address entry regions ok fit laid can f pc x i refl live) in
        let bound = operate_bound m p plans f pc op x y z
        (place_in m p plans table code address entry regions ok fit laid can f (pc + 1) x g there)
        (λ live. place_in m p plans table code address entry regions ok fit laid can f pc y g there (reads live).0)
        (λ live. right_in m p plans table code address entry regions ok fit laid can f pc g z there (reads live).1)
        (can.operate f pc op x y z at) in
        from_steps m p plans table code address entry regions ok fit laid can f (pc + 1) s' frames c _
        (6 * weight_of (function_in p f))
        t.turns t.work st (omega (arith, bound, weight.twice, weight.some)) (omega arith) refl
    instruction_stage (flat.Operate32 op x y z) at fine =
        let n = reg32_result op (low_word (t.values y)) (low_word (right_value z t.values)) in
        let s' = with_register x n t in
        let i = flat.Operate32 op x y z in
        let st = operate32_steps m p plans table code address entry regions ok fit laid can f pc g t s' frames c h words
        there op x y z at
        (plain m p plans table code address entry regions ok fit laid can t (put t.values x n)) in
        let reads = λ (live : (keeping p plans f).live (pc + 1) x ≡ true). operator_reads m p plans table code address entry regions ok fit laid can
        f pc y z g i there at refl (wanted_one m p plans table code address entry regions ok fit laid can f pc x i refl live) in
        let bound = operate32_bound m p plans f pc op x y z
        (place_in m p plans table code address entry regions ok fit laid can f (pc + 1) x g there)
        (λ live. place_in m p plans table code address entry regions ok fit laid can f pc y g there (reads live).0)
        (λ live. right_in m p plans table code address entry regions ok fit laid can f pc g z there (reads live).1)
        (can.operate32 f pc op x y z at) in
        from_steps m p plans table code address entry regions ok fit laid can f (pc + 1) s' frames c _
        (6 * weight_of (function_in p f))
        t.turns t.work st (omega (arith, bound, weight.twice, weight.some)) (omega arith) refl
    instruction_stage (flat.Load op x y o) at fine =
        load_stage m p plans table code address entry regions ok fit laid can f pc g t frames c h words there op x y o
        (is_allowed m (wrap (t.values y + o)) (load_bytes op)) at refl fine
    instruction_stage (flat.Store op y o x) at fine =
        store_stage m p plans table code address entry regions ok fit laid can f pc g t frames c h words there op y o x
        (is_allowed m (wrap (t.values y + o)) (store_bytes op)) at refl fine
    instruction_stage (flat.Branch op y z past) at fine =
        let q = if branch_taken op (t.values y) (right_value z t.values) then pc + 1 + past else pc + 1 in
        let st = branch_steps m p plans table code address entry regions ok fit laid can f pc g t t frames c h words
        there
        op y z past at (same m p plans table code address entry regions ok fit laid can t) in
        let live = operator_reads m p plans table code address entry regions ok fit laid can
        f pc y z g (flat.Branch op y z past) there at refl
        (wanted_none m p plans table code address entry regions ok fit laid can f pc (flat.Branch op y z past) refl) in
        let bound = branch_bound m p plans f pc op y z past
        (place_in m p plans table code address entry regions ok fit laid can f pc y g there live.0)
        (right_in m p plans table code address entry regions ok fit laid can f pc g z there live.1)
        (can.branch f pc op y z past at) in
        from_steps m p plans table code address entry regions ok fit laid can f q t frames c _
        (6 * weight_of (function_in p f)) t.turns
        t.work st (omega (arith, bound, weight.twice, weight.some)) (omega arith) refl
    instruction_stage (flat.JumpForward zero) at fine =
        let st = next_steps m p plans table code address entry regions ok fit laid can f pc g t t frames c h words there
        at (same m p plans table code address entry regions ok fit laid can t) in
        from_steps m p plans table code address entry regions ok fit laid can f (pc + 1 + zero) t frames c 0
        (6 * weight_of (function_in p f)) t.turns t.work st (omega (arith, weight.some)) (omega arith) refl
    instruction_stage (flat.JumpForward (suc past)) at fine =
        let st = jump_steps m p plans table code address entry regions ok fit laid can f pc g t t frames c h words there
        (pc + 1 + suc past) (flat.JumpForward (suc past)) at (inl refl) refl
        (same m p plans table code address entry regions ok fit laid can t) (laid.forward f pc past at) in
        from_steps m p plans table code address entry regions ok fit laid can f (pc + 1 + suc past) t frames c 2
        (6 * weight_of (function_in p f)) t.turns t.work st (omega (arith, weight.some)) (omega arith) refl
    instruction_stage (flat.JumpBack back) at fine =
        let st = jump_steps m p plans table code address entry regions ok fit laid can f pc g t t frames c h words there
        (pc - back) (flat.JumpBack back) at (inl refl) refl
        (same m p plans table code address entry regions ok fit laid can t) (laid.back f pc back at) in
        from_steps m p plans table code address entry regions ok fit laid can f (pc - back) t frames c 2
        (6 * weight_of (function_in p f)) t.turns t.work st (omega (arith, weight.some)) (omega arith) refl
    instruction_stage flat.Turn at fine =
        more_steps m p plans table code address entry regions ok fit laid can
        (Stands f (pc + 1) (record t { turns = t.turns + 1 }) frames) c 1 (6 * weight_of (function_in p f)) t.turns
        t.work (omega (arith, weight.some)) (turn_stage at)
    instruction_stage (flat.Call to first x) at fine = call_stage to first x at fine
    instruction_stage (flat.CallAddress y first n x r) at fine =
        address_stage y first n x r (function_at p (t.values y)) at refl fine
    instruction_stage (flat.Return y) at fine = return_stage y frames refl at fine
    instruction_stage (flat.Get x) at fine =
        get_stage m p plans table code address entry regions ok fit laid can f pc g t frames c h words there x
        t.input at
        refl fine
    instruction_stage (flat.Put x) at fine =
        let s' : State = record t { output = t.output ++ t.values x % 256 ∷ [] } in
        let st = put_steps m p plans table code address entry regions ok fit laid can f pc g t s' frames c h words
        there x
        at refl refl refl refl refl refl in
        let bound = put_bound m p plans f pc x
        (place_in m p plans table code address entry regions ok fit laid can f pc x g there
        (ok.reads f pc g (flat.Put x) there at
        (wanted_none m p plans table code address entry regions ok fit laid can f pc (flat.Put x) refl) x (rw (among_one x) refl))) in
        from_steps m p plans table code address entry regions ok fit laid can f (pc + 1) s' frames c _
        (6 * (2 * weight_of (function_in p f))) t.turns
        t.work st (omega (arith, bound, weight.twice, weight.some)) (omega arith) refl
    instruction_stage (flat.Exit x) at fine =
        let st = exit_steps m p plans table code address entry regions ok fit laid can f pc g t t frames c h words
        there x
        at refl refl refl in
        let bound = exit_bound m p plans f pc x
        (place_in m p plans table code address entry regions ok fit laid can f pc x g there
        (ok.reads f pc g (flat.Exit x) there at
        (wanted_none m p plans table code address entry regions ok fit laid can f pc (flat.Exit x) refl) x (rw (among_one x) refl))) in
        from_ends m p plans table code address entry regions ok fit laid can (t.values x % 256) [] t c _
        (6 * weight_of (function_in p f)) t.turns
        t.work st (omega (arith, bound, weight.twice, weight.some)) (omega arith) refl
    instruction_stage (flat.End e) at fine =
        let st = end_steps m p plans table code address entry regions ok fit laid can f pc g t t frames c h words
        there e
        at refl refl refl in
        let most = end_most (function_in p f) (length (report_of e)) in
        from_ends m p plans table code address entry regions ok fit laid can (code_of e) (report_of e) t c _
        (6 * (weight_of (function_in p f) * (1 + length (report_of e)))) t.turns t.work st (omega (arith, most))
        (omega arith) refl
    instruction_stage (flat.Charged x) at fine =
        let n = wrap (charged p f frames) in
        let s' = with_register x n t in
        let st = charged_steps m p plans table code address entry regions ok fit laid can f pc g t s' frames c h words
        there x at
        (plain m p plans table code address entry regions ok fit laid can t (put t.values x n)) in
        let bound = charged_bound m p plans f pc x
        (place_in m p plans table code address entry regions ok fit laid can f (pc + 1) x g there)
        (omega (arith, regions.calls, regions.end)) in
        from_steps m p plans table code address entry regions ok fit laid can f (pc + 1) s' frames c _
        (6 * weight_of (function_in p f))
        t.turns t.work st (omega (arith, bound, weight.twice, weight.some)) (omega arith) refl
