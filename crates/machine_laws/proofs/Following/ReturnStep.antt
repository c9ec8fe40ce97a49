-- A return, whole.
use Rattle.std.proofs.Common.{◌≡◌, ◌≢◌, ℕ, ◌+◌, ◌-◌, ◌*◌, ◌%◌, ◌^◌, ◌<◌, ◌≤◌, ◌⊎◌, inl, inr, refl, sym}
use Rattle.std.proofs.Common.{ap, ◌∙◌, subst, arith, ⊎_elim, Bool, true, false, List, [], ◌∷◌, ◌++◌, length, Some}
use Rattle.std.proofs.Common.{length-append, true≢false}
use Rattle.std.specs.Prelude.{if◌then◌else◌, not, nat_le, nat_lt}
use Rattle.std.proofs.lemmas.Bool.{and_parts, and_from, not-true, cases_Bool, leb-true, ltb-true}
use Rattle.addr_map.specs.Places.{MapSizes, region_start, region_size, spaces_begin}
use Rattle.addr_map.specs.declared.region.Region.TheVariants.{Arguments, Calls, RuntimeCalls}
use Rattle.rv_isa.specs.declared.instruction.Instr.{Instr}
use Rattle.rv_isa.specs.declared.instruction.Instr.TheVariants.{Jalr}
use Rattle.rv_isa.specs.Word.{sext}
use Rattle.rv_isa.specs.Results.{wrap}
use Rattle.flat_code.specs.declared.instruction.FlatInstruction.TheVariants as flat
use Rattle.flat_code.specs.declared.function.FlatFunction.{FlatFunction}
use Rattle.flat_code.specs.declared.function.FlatProgram.{FlatProgram}
use Rattle.flat_code.specs.Memory.{load, KeepsBut}
use Rattle.flat_code.specs.State.{State, Frame, Values}
use Rattle.flat_code.specs.Calls.{function_in, room_if, rooms, with_results}
use Rattle.flat_code.specs.Meaning.{instruction_at, results_of}
use Rattle.flat_code.specs.Words.{IsOfWords}
use Rattle.flat_code.proofs.Stored as stored
use Rattle.reg_plan.specs.declared.plan.FunctionPlan.{FunctionPlan}
use Rattle.reg_plan.specs.Effects.{is_among, none, many, is_read}
use Rattle.rv_sim.specs.Run.{Configuration}
use Rattle.machine_laws.specs.View.Views.{View, Layout, Fits, AllStand, with_value, performs}
use Rattle.machine_laws.proofs.View.Straight.{runs_then}
use Rattle.machine_laws.proofs.View.Leaving.{jalr}
use Rattle.machine_laws.specs.Blocks.Effects.{kept}
use Rattle.machine_laws.specs.Calls.Calls.{Keeping, return_block, back_block, retreat, restore, take}
use Rattle.machine_laws.proofs.Calls.Lengths.{retreat_some}
use Rattle.machine_laws.specs.Following.Code.{keeping, block, IsLaid, IsEncodable, CallShape, wanted, call_part}
use Rattle.machine_laws.specs.Following.Code.{back_part}
use Rattle.machine_laws.specs.Following.Matching.{object_bytes, space_bytes, top_of, record_of, Waits, Wait, IsAt}
use Rattle.machine_laws.specs.Following.Matching.{Meets}
use Rattle.machine_laws.specs.Following.Start.{layout_of}
use Rattle.machine_laws.proofs.Following.Runs.{Comes, straight_comes, all_append}
use Rattle.machine_laws.proofs.Following.Regions.{AreRegions, flat_before}
use Rattle.machine_laws.proofs.Following.Sound.{IsSound}
use Rattle.machine_laws.proofs.Following.Standing.{frame_of, IsKind, kind, wait_same, record_behind, function_there}
use Rattle.machine_laws.proofs.Following.Locals.{among_from, or_last, wanted_none, Steps}
use Rattle.machine_laws.proofs.Following.CallSim.{IsWaiting, outside_by, base_by}
use Rattle.machine_laws.proofs.Following.ReturnSim.{call_of, leaves, Backs, backs}

module _ (m : MapSizes) (p : FlatProgram) (plans : List FunctionPlan) (table code : List ℕ)
    (address : (function pc : ℕ) → ℕ) (entry : (function : ℕ) → ℕ) (regions : AreRegions m) (ok : IsSound p plans)
    (fit : Fits (layout_of m table code)) (laid : IsLaid m p plans (layout_of m table code) address entry)
    (can : IsEncodable p) where
  -- the frames' registers, before the return and behind it
  pub record AreTops (x : Frame) (xs : List Frame) (v w : View) : Type 0 where
    pub program : w.registers 2 ≡ top_of m p false xs
    pub runtime : w.registers 4 ≡ top_of m p true xs

  pub record IsBase (x : Frame) (xs : List Frame) (v : View) : Type 0 where
    pub is : v.registers (keeping p plans x.function).base
        ≡ record_of m p x.function xs + (keeping p plans x.function).room
    pub low : 0 < (keeping p plans x.function).base
    pub high : (keeping p plans x.function).base < 5
    pub record_low : spaces_begin ≤ record_of m p x.function xs
    pub record_high : record_of m p x.function xs + (keeping p plans x.function).room ≤ spaces_begin + space_bytes m

  base_of : (b : Bool) (g : FlatFunction) (x : Frame) (xs : List Frame) (v : View)
      → IsKind m p plans address regions ok can.rooms x.function g b
      → v.registers 2 ≡ top_of m p false (x ∷ xs)
      → v.registers 4 ≡ top_of m p true (x ∷ xs)
      → rooms false p (x ∷ xs) ≤ m.budgets.calls → rooms true p (x ∷ xs) ≤ region_size m RuntimeCalls → IsBase x xs v
  unfolding rooms
  base_of false g x xs v k two four fits fits' = record {
    is = ap v.registers k.base ∙ two ∙ omega (arith, k.program, k.record_is xs, k.bytes);
    low = omega (arith, k.base);
    high = omega (arith, k.base);
    record_low = omega (arith, k.record_is xs, regions.cells_low, regions.cells, regions.arguments);
    record_high = omega (arith, k.record_is xs, k.program, k.bytes, regions.calls, regions.space);
  }
  base_of true g x xs v k two four fits fits' = record {
    is = ap v.registers k.base ∙ four ∙ omega (arith, k.runtime, k.record_is xs, k.bytes);
    low = omega (arith, k.base);
    high = omega (arith, k.base);
    record_low = omega (arith, k.record_is xs, regions.cells_low, regions.cells, regions.arguments, regions.calls);
    record_high = omega (arith, k.record_is xs, k.runtime, k.bytes, regions.space);
  }

  tops_back : (b : Bool) (g : FlatFunction) (x : Frame) (xs : List Frame) (v w : View)
      → IsKind m p plans address regions ok can.rooms x.function g b
      → v.registers 2 ≡ top_of m p false (x ∷ xs)
      → v.registers 4 ≡ top_of m p true (x ∷ xs)
      → w.registers (keeping p plans x.function).base ≡ record_of m p x.function xs
      → ((r : ℕ) → r < 5 → r ≢ 1 → r ≢ (keeping p plans x.function).base → w.registers r ≡ v.registers r)
      → AreTops x xs v w
  unfolding rooms
  tops_back false g x xs v w k two four base low =
      let at : w.registers 2 ≡ record_of m p x.function xs = ap w.registers (sym k.base) ∙ base in
      let other = low 4 (omega arith) (omega arith) (omega (arith, k.base)) in
      record { program = at ∙ k.record_is xs; runtime = omega (arith, other, four, k.runtime) }
  tops_back true g x xs v w k two four base low =
      let at : w.registers 4 ≡ record_of m p x.function xs = ap w.registers (sym k.base) ∙ base in
      let other = low 2 (omega arith) (omega arith) (omega (arith, k.base)) in
      record { program = omega (arith, other, two, k.program); runtime = at ∙ k.record_is xs }

  less_program : (x : Frame) (xs : List Frame)
      → room_if false (function_in p x.function) + rooms false p xs ≡ rooms false p (x ∷ xs)
  unfolding rooms
  less_program x xs = refl

  less_runtime : (x : Frame) (xs : List Frame)
      → room_if true (function_in p x.function) + rooms true p xs ≡ rooms true p (x ∷ xs)
  unfolding rooms
  less_runtime x xs = refl

  -- the values behind the call
  result_is : (into n y z : ℕ) (results values : Values) → is_among (many into n) z ≡ true
      → with_results into n results y values z ≡ results (y + (z - into))
  result_is into n y z results values e = ap (λ b. if b then results (y + (z - into)) else values z) e

  other_is : (into n y z : ℕ) (results values : Values) → is_among (many into n) z ≡ false
      → with_results into n results y values z ≡ values z
  other_is into n y z results values e = ap (λ b. if b then results (y + (z - into)) else values z) e

  -- the machine's state behind the call
  caller_at : (f pc y : ℕ) (g gx : FlatFunction) (s s' : State) (x : Frame) (xs : List Frame) (v w z : View)
      (h : IsAt m p plans address f pc s (x ∷ xs) v) (q : Waits m p plans address f x xs v.memory)
      → Wait m p plans address x.function xs v.memory
      → function_in p f ≡ Some g → function_in p x.function ≡ Some gx → g.results ≤ 1024
      → ((j : ℕ) → j < g.results → (keeping p plans f).live pc (y + j) ≡ true)
      → KeepsBut (region_start m Arguments) (8 * g.results) v.memory w.memory
      → ((j : ℕ) → j < g.results → load 8 w.memory (region_start m Arguments + 8 * j) ≡ s.values (y + j))
      → ((r : ℕ) → r < 5 → r ≢ 1 → w.registers r ≡ v.registers r)
      → Backs (object_bytes m) (space_bytes m) (record_of m p x.function xs) (keeping p plans x.function)
      (wanted (keeping p plans x.function) q.place q.shape.into q.shape.results) (region_start m Arguments)
      (q.place + 1) q.shape.into q.shape.results w
      → z ≡ performs (back_block (keeping p plans x.function)
      (wanted (keeping p plans x.function) q.place q.shape.into q.shape.results) (q.place + 1) q.shape.into
      q.shape.results) w
      → q.shape.results ≡ g.results
      → s'.values ≡ with_results x.into g.results s.values y x.values → s'.memory ≡ s.memory
      → IsAt m p plans address x.function x.next s' xs z
  caller_at f pc y g gx s s' x xs v w z h q w_xs there there_x few reads keeps set low b z_is count values memory =
      let kx = keeping p plans x.function in
      let kind_x = kind m p plans address regions ok can.rooms x.function gx gx.is_runtime there_x refl in
      let fpx = record_of m p x.function xs in
      let behind = record_behind m p plans address regions ok can.rooms x.function xs in
      let fits : rooms false p (x ∷ xs) ≤ m.budgets.calls = omega (arith, h.program_fits) in
      let fits' : rooms true p (x ∷ xs) ≤ region_size m RuntimeCalls = omega (arith, h.runtime_fits) in
      let bases = base_by m p plans table code address entry regions ok fit laid can gx.is_runtime x.function gx
      kind_x in
      let base = base_of gx.is_runtime gx x xs v kind_x h.program_top h.runtime_top fits fits' in
      let low_z : (r : ℕ) → r < 5 → r ≢ 1 → r ≢ kx.base → z.registers r ≡ v.registers r =
      λ r lt n1 nb. ap (λ u. u.registers r) z_is ∙ b.low r lt nb ∙ low r lt n1 in
      let tops = tops_back gx.is_runtime gx x xs v z kind_x h.program_top h.runtime_top
      (ap (λ u. u.registers kx.base) z_is ∙ b.base) low_z in
      let room_x = ok.charged_room x.function gx there_x in
      let big = can.rooms x.function gx there_x in
      let mem_z : (a : ℕ) → ((a < fpx + 8) ⊎ (fpx + kx.room ≤ a)) → z.memory a ≡ w.memory a =
      λ a out. ap (λ u. u.memory a) z_is ∙ b.memory a (⊎_elim (λ e. inl e) (λ e. inr (omega arith)) out) in
      let mem_w : (a : ℕ) → region_start m Calls ≤ a → w.memory a ≡ v.memory a =
      λ a l. keeps a (inr (omega (arith, regions.arguments))) in
      let out : (a : ℕ) → IsWaiting m p plans table code address entry regions ok fit laid can xs a
      → (a < fpx) ⊎ (fpx + kx.room ≤ a) = λ a e.
      outside_by m p plans table code address entry regions ok fit laid can gx.is_runtime x.function gx xs a kind_x
      (subst (λ n. n ≤ m.budgets.calls) (sym (less_program x xs)) fits)
      (subst (λ n. n ≤ region_size m RuntimeCalls) (sym (less_runtime x xs)) fits') e in
      let same_waiting : (a : ℕ) → region_start m Calls ≤ a
      → IsWaiting m p plans table code address entry regions ok fit laid can xs a → z.memory a ≡ v.memory a =
      λ a l e. mem_z a (⊎_elim (λ t. inl (omega arith)) (λ t. inr t) (out a e)) ∙ mem_w a l in
      record {
        zero_is = low_z 0 (omega arith) (omega arith) (omega (arith, base.low)) ∙ h.zero_is;
        program_top = tops.program;
        arguments = low_z 3 (omega arith) (omega arith) (λ e. bases.1 (sym e)) ∙ h.arguments;
        runtime_top = tops.runtime;
        program_fits = subst (λ n. n ≤ m.budgets.calls) (sym (less_program x xs)) fits;
        runtime_fits = subst (λ n. n ≤ region_size m RuntimeCalls) (sym (less_runtime x xs)) fits';
        held = λ u live. ⊎_elim
            (λ e.
            let parts = and_parts (nat_le q.shape.into u) (nat_lt u (q.shape.into + q.shape.results)) e in
            let l = leb-true q.shape.into u parts.0 in
            let t = ltb-true u (q.shape.into + q.shape.results) parts.1 in
            let j = u - q.shape.into in
            let u_is : q.shape.into + j ≡ u = omega arith in
            let j_low : j < q.shape.results = omega arith in
            let live_here : kx.live (q.place + 1) (q.shape.into + j) ≡ true =
            subst (λ n. kx.live (q.place + 1) n ≡ true) (sym u_is) (subst (λ n. kx.live n u ≡ true) q.next_is live) in
            let into_is = q.into_is in
            let among : is_among (many x.into g.results) u ≡ true =
            subst (λ n. is_among (many x.into n) u ≡ true) count
            (subst (λ n. is_among (many n q.shape.results) u ≡ true) into_is e) in
            ap (λ n. kept fpx z (kx.place n)) (sym u_is)
            ∙ ap (λ n. kept fpx n (kx.place (q.shape.into + j))) z_is ∙ b.set j j_low live_here
            ∙ set j (omega (arith, count)) ∙ ap (λ n. s.values (y + (u - n))) into_is
            ∙ sym (ap (λ n. n u) values ∙ result_is x.into g.results y u s.values x.values among))
            (λ e.
            let live_here : kx.live (q.place + 1) u ≡ true = subst (λ n. kx.live n u ≡ true) q.next_is live in
            let wants : wanted kx q.place q.shape.into q.shape.results u ≡ true =
            and_from (kx.live (q.place + 1) u) (not (is_among (many q.shape.into q.shape.results) u)) live_here
            (ap not e) in
            let counted = ok.counted x.function (q.place + 1) u gx there_x live_here in
            let kept_x = ok.kept x.function (q.place + 1) gx there_x in
            let among : is_among (many x.into g.results) u ≡ false =
            subst (λ n. is_among (many x.into n) u ≡ false) count
            (subst (λ n. is_among (many n q.shape.results) u ≡ false) q.into_is e) in
            ap (λ n. kept fpx n (kx.place u)) z_is ∙ b.back u counted wants
            ∙ stored.load_kept 8 v.memory w.memory (fpx + kx.home u) (λ j lt. mem_w (fpx + kx.home u + j) (omega arith))
            ∙ q.held u live e
            ∙ sym (ap (λ n. n u) values ∙ other_is x.into g.results y u s.values x.values among))
            (cases_Bool (is_among (many q.shape.into q.shape.results) u));
        same = λ a fl.
            let before = flat_before m regions a fl in
            mem_z a (inl (omega (arith, regions.arguments))) ∙ keeps a (inl before) ∙ h.same a fl
            ∙ sym (ap (λ n. n a) memory);
        wait = wait_same m p plans address regions ok can.rooms xs x.function v.memory z.memory (record {
          program = λ a l u. same_waiting a l (inl (l, u));
          runtime = λ a l u. same_waiting a (omega (arith, regions.calls)) (inr (l, u));
          first = λ a l u. mem_z a (inl u) ∙ mem_w a (omega arith);
        }) w_xs;
      }

  pub return_steps : (f pc y : ℕ) (g : FlatFunction) (s s' : State) (x : Frame) (xs : List Frame) (c : Configuration)
      → Meets m p plans (layout_of m table code) address f pc s (x ∷ xs) c → IsOfWords s
      → function_in p f ≡ Some g → instruction_at p f pc ≡ Some (flat.Return y)
      → s'.values ≡ with_results x.into g.results s.values y x.values → s'.memory ≡ s.memory
      → s'.accesses ≡ s.accesses → s'.input ≡ s.input → s'.output ≡ s.output → s'.taken ≡ s.taken
      → (most : ℕ)
      → ((shape : CallShape) (place : ℕ) → shape.results ≡ g.results
      → length (back_part (keeping p plans x.function) place shape)
      + (1 + length (return_block (keeping p plans f) y g.results)) ≤ most)
      → Steps m p plans table code address entry regions ok fit laid can x.function x.next s' xs c most
  unfolding block
  return_steps f pc y g s s' x xs c h words there at values memory accesses input output taken most bound =
      let l = layout_of m table code in
      let kf = keeping p plans f in
      let kx = keeping p plans x.function in
      let fp = record_of m p f (x ∷ xs) in
      let fpx = record_of m p x.function xs in
      let v = h.view in
      let q = h.is_at.wait.0 in
      let w_xs = h.is_at.wait.1 in
      let there_x = function_there p x.function q.place q.call q.at in
      let gx = there_x.0 in
      let i = flat.Return y in
      let results : results_of (function_in p f) ≡ g.results = ap results_of there in
      let count : q.shape.results ≡ g.results = q.results_are ∙ results in
      let few = can.results f g there in
      let reads : (j : ℕ) → j < g.results → kf.live pc (y + j) ≡ true =
      λ j lt. ok.reads f pc g i there at (wanted_none m p plans table code address entry regions ok fit laid can f pc i refl) (y + j) (read_one y (results_of (function_in p f)) j (omega (
        arith,
        results,
      ))) in
      let kind_f = kind m p plans address regions ok can.rooms f g g.is_runtime there refl in
      let kind_x = kind m p plans address regions ok can.rooms x.function gx gx.is_runtime there_x.1 refl in
      let bases_f = base_by m p plans table code address entry regions ok fit laid can g.is_runtime f g kind_f in
      let bases_x = base_by m p plans table code address entry regions ok fit laid can gx.is_runtime x.function gx
      kind_x in
      let frame_f = frame_of m p plans address regions ok can.rooms f pc g s (x ∷ xs) v there h.is_at in
      let behind = record_behind m p plans address regions ok can.rooms f (x ∷ xs) in
      let behind_x = record_behind m p plans address regions ok can.rooms x.function xs in
      let low_area : spaces_begin ≤ region_start m Arguments = omega (arith, regions.cells_low, regions.cells) in
      let ra = address x.function q.place + 4 * length (call_part kx q.place q.shape) in
      let room_f = ok.charged_room f g there in
      let big_f = can.rooms f g there in
      let lv = leaves (object_bytes m) (space_bytes m) fp kf (region_start m Arguments) 1024 y g.results ra v few
      (omega arith) (record { is = h.is_at.arguments; low = low_area; below = omega (arith, regions.arguments) })
      frame_f
      (λ j lt. (ok.kept f pc g there).inside (y + j) (reads j lt))
      (λ j lt. rw (h.is_at.held (y + j) (reads j lt)) (words.values (y + j))) q.returns bases_f.0 in
      let rb = return_block kf y g.results in
      let stands : AllStand l (address f pc) (rb ++ (Jalr 0 1 0 ∷ [])) =
      subst (λ n. AllStand l (address f pc) (return_block kf y n ++ (Jalr 0 1 0 ∷ []))) results
      (laid.blocks f pc i at) in
      let parts = all_append l rb (Jalr 0 1 0 ∷ []) (address f pc) stands in
      let one = straight_comes l fit rb c v (subst (λ n. AllStand l n rb) (sym h.pc_is) parts.0) lv.go h.shows in
      let v2 = performs rb v in
      let pc2 : v2.pc ≡ address f pc + 4 * length rb = lv.pc ∙ ap (λ n. n + 4 * length rb) h.pc_is in
      let call = call_of m p plans x.function q.place q.call q.shape q.shape_is in
      let stands_x : AllStand l (address x.function q.place) (call_part kx q.place q.shape ++ back_part kx q.place
      q.shape)
      = subst (AllStand l (address x.function q.place)) call.block_is (laid.blocks x.function q.place q.call q.at) in
      let parts_x = all_append l (call_part kx q.place q.shape) (back_part kx q.place q.shape)
      (address x.function q.place) stands_x in
      let aligned = laid.aligned x.function q.place q.call q.at in
      let ra_whole : ra % 4 ≡ 0 = omega (arith, aligned) in
      let bp = back_part kx q.place q.shape in
      let ra_low : ra < 2 ^ 64 = some_low l ra bp parts_x.1 (back_some kx q.place q.shape) in
      let ra_is : wrap (ra + sext 12 0) ≡ ra = omega (arith, ra_low) in
      let j = jalr l 0 1 0 ra one.after v2 fit (subst (λ n. AllStand l n (Jalr 0 1 0 ∷ [])) (sym pc2) parts.1).0
      (ap (λ n. wrap (n + sext 12 0)) lv.link ∙ ra_is) ra_whole one.shows in
      let w : View = record v2 { pc = ra; registers = with_value v2.registers 0 (v2.pc + 4) } in
      let two : Comes l 1 one.after w = record { after = j.0; is = j.1; shows = j.2; stays = j.3 } in
      let low : (r : ℕ) → r < 5 → r ≢ 1 → w.registers r ≡ v.registers r = lv.low in
      let fits : rooms false p (x ∷ xs) ≤ m.budgets.calls = omega (arith, h.is_at.program_fits) in
      let fits' : rooms true p (x ∷ xs) ≤ region_size m RuntimeCalls = omega (arith, h.is_at.runtime_fits) in
      let base = base_of gx.is_runtime gx x xs v kind_x h.is_at.program_top h.is_at.runtime_top fits fits' in
      let set : (k : ℕ) → k < g.results → load 8 w.memory (region_start m Arguments + 8 * k) ≡ s.values (y + k) =
      λ k lt. lv.set k lt ∙ h.is_at.held (y + k) (reads k lt) in
      let b = backs (object_bytes m) (space_bytes m) fpx kx
      (wanted kx q.place q.shape.into q.shape.results) (region_start m Arguments) 1024 (q.place + 1) q.shape.into
      q.shape.results w (omega (arith, count)) (low 0 (omega arith) (omega arith) ∙ h.is_at.zero_is)
      (low 3 (omega arith) (omega arith) ∙ h.is_at.arguments) low_area (omega (arith, regions.arguments)) bases_x.1
      (low kx.base base.high bases_x.0 ∙ base.is) base.low base.high base.record_low base.record_high
      (omega (arith, regions.space, regions.end)) (ok.kept x.function (q.place + 1) gx there_x.1)
      (λ u wants. let t = and_parts (kx.live (q.place + 1) u)
      (not (is_among (many q.shape.into q.shape.results) u)) wants in (
        t.0,
        λ k lt live e. true≢false (sym (among_from q.shape.into q.shape.results k lt)
            ∙ ap (is_among (many q.shape.into q.shape.results)) (sym e)
            ∙ not-true (is_among (many q.shape.into q.shape.results) u) t.1),
      ))
      (λ k lt. rw (set k (omega (arith, count))) (words.values (y + k))) in
      let three = straight_comes l fit bp two.after w parts_x.1 b.go two.shows in
      let z = performs bp w in
      let next : address x.function x.next ≡ ra + 4 * length bp =
      ap (address x.function) q.next_is ∙ laid.next x.function q.place q.call q.at call.goes_on
      ∙ ap (λ n. address x.function q.place + 4 * length n) call.block_is
      ∙ ap (λ n. address x.function q.place + 4 * n) (length-append (call_part kx q.place q.shape) bp)
      ∙ omega arith in
      record {
        steps = length bp + (1 + length rb);
        few = bound q.shape q.place count;
        after = three.after;
        is = runs_then (length bp) (1 + length rb) c two.after
            (runs_then 1 (length rb) c one.after one.is ∙ two.is) ∙ three.is;
        meets = record {
          view = z;
          shows = three.shows;
          pc_is = b.pc_is ∙ sym next;
          is_at = caller_at f pc y g gx s s' x xs v w z h.is_at q w_xs there there_x.1 few reads lv.memory set low b
              refl
              count values memory;
          accesses = b.accesses ∙ lv.accesses ∙ h.accesses ∙ sym accesses;
          outside = record {
            input = three.stays.input ∙ two.stays.input ∙ one.stays.input ∙ h.outside.input ∙ sym input;
            output = three.stays.output ∙ two.stays.output ∙ one.stays.output ∙ h.outside.output ∙ sym output;
            errors = three.stays.errors ∙ two.stays.errors ∙ one.stays.errors ∙ h.outside.errors;
            taken = three.stays.taken ∙ two.stays.taken ∙ one.stays.taken ∙ h.outside.taken ∙ sym taken;
          };
        };
      }
    where
      read_one : (first n k : ℕ) → k < n
          → is_read (record { left = none; right = none; others = many first n }) (first + k) ≡ true
      read_one first n k lt = or_last (is_among none (first + k)) (is_among none (first + k))
          (is_among (many first n) (first + k)) (among_from first n k lt)

      some_low : (l : Layout) (pc : ℕ) (is : List Instr) → AllStand l pc is → 0 < length is → pc < 2 ^ 64
      some_low l pc [] stand some = absurd (omega arith)
      some_low l pc (i ∷ is) stand some = let t = stand.0.small in omega arith

      back_some : (k : Keeping) (place : ℕ) (shape : CallShape) → 0 < length (back_part k place shape)
      back_some k place shape =
          let rest = restore k (wanted k place shape.into shape.results) k.count ++ take k (place + 1) shape.into
          shape.results in
          let a = length-append (retreat k) rest in
          let b = retreat_some k in
          omega arith
