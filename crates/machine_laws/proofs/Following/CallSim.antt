-- A call, whole: the machine comes to the callee's first instruction, under the record that waits.
use Rattle.std.proofs.Common.{◌≡◌, ◌≢◌, ℕ, ◌+◌, ◌*◌, ◌^◌, ◌<◌, ◌≤◌, ◌⊎◌, inl, inr, refl, sym}
use Rattle.std.proofs.Common.{ap, ◌∙◌, subst, arith, ⊎_elim, Bool, true, false, List, [], ◌∷◌, ◌++◌, length, Some}
use Rattle.std.proofs.Common.{length-append}
use Rattle.std.specs.Prelude.{if◌then◌else◌, not}
use Rattle.std.proofs.lemmas.Bool.{lt-ltb, and_parts, and_from, not-true}
use Rattle.addr_map.specs.Places.{MapSizes, region_start, region_size, spaces_begin}
use Rattle.addr_map.specs.declared.region.Region.TheVariants.{Arguments, Calls, RuntimeCalls}
use Rattle.rv_isa.specs.declared.instruction.Instr.TheVariants.{Jalr}
use Rattle.flat_code.specs.declared.instruction.FlatInstruction.{FlatInstruction}
use Rattle.flat_code.specs.declared.function.FlatFunction.{FlatFunction}
use Rattle.flat_code.specs.declared.function.FlatProgram.{FlatProgram}
use Rattle.flat_code.specs.Memory.{load}
use Rattle.flat_code.specs.State.{State, Frame}
use Rattle.flat_code.specs.Calls.{function_in, room_if, rooms, arguments}
use Rattle.flat_code.specs.Meaning.{instruction_at, results_of, waiting}
use Rattle.flat_code.specs.Words.{IsOfWords}
use Rattle.flat_code.proofs.Stored as stored
use Rattle.reg_plan.specs.declared.plan.FunctionPlan.{FunctionPlan}
use Rattle.reg_plan.specs.Effects.{is_among, many}
use Rattle.rv_sim.specs.Run.{Configuration}
use Rattle.machine_laws.specs.View.Views.{View, Fits, AllStand, performs}
use Rattle.machine_laws.proofs.View.Straight.{runs_then}
use Rattle.machine_laws.specs.Blocks.Effects.{kept, HasFrame}
use Rattle.machine_laws.specs.Calls.Calls.{call_block, entry_block}
use Rattle.machine_laws.specs.Following.Code.{keeping, block, IsLaid, IsEncodable, CallShape, shape_of, wanted}
use Rattle.machine_laws.specs.Following.Code.{call_part}
use Rattle.machine_laws.specs.Following.Code.{back_part}
use Rattle.machine_laws.specs.Following.Matching.{object_bytes, space_bytes, top_of, record_of, IsAt}
use Rattle.machine_laws.specs.Following.Matching.{Meets}
use Rattle.machine_laws.specs.Following.Start.{layout_of}
use Rattle.machine_laws.proofs.Following.Runs.{straight_comes, all_append}
use Rattle.machine_laws.proofs.Calls.Table.{row_whole}
use Rattle.machine_laws.specs.Calls.Table.{row_address}
use Rattle.machine_laws.proofs.Following.Regions.{AreRegions, flat_before}
use Rattle.machine_laws.proofs.Following.Sound.{IsSound}
use Rattle.machine_laws.proofs.Following.Standing.{frame_of, IsKind, kind, wait_same}
use Rattle.machine_laws.proofs.Following.Standing.{record_behind}
use Rattle.machine_laws.proofs.Following.Locals.{Steps}
use Rattle.machine_laws.proofs.Following.Calling.{Aims, Prepared, prepares}
use Rattle.machine_laws.proofs.Following.Entering.{arrives, Entered, enters}

module _ (m : MapSizes) (p : FlatProgram) (plans : List FunctionPlan) (table code : List ℕ)
    (address : (function pc : ℕ) → ℕ) (entry : (function : ℕ) → ℕ) (regions : AreRegions m) (ok : IsSound p plans)
    (fit : Fits (layout_of m table code)) (laid : IsLaid m p plans (layout_of m table code) address entry)
    (can : IsEncodable p) where
  -- the bytes of the records that wait
  abbrev pub IsWaiting : List Frame → (a : ℕ) → Type 0
  IsWaiting frames a = ((region_start m Calls ≤ a) × (a < top_of m p false frames))
      ⊎ ((region_start m RuntimeCalls ≤ a) × (a < top_of m p true frames))

  -- the record of a function lies outside those that wait under it
  pub outside_by : (b : Bool) (f : ℕ) (g : FlatFunction) (frames : List Frame) (a : ℕ)
      → IsKind m p plans address regions ok can.rooms f g b
      → room_if false (function_in p f) + rooms false p frames ≤ m.budgets.calls
      → room_if true (function_in p f) + rooms true p frames ≤ region_size m RuntimeCalls
      → IsWaiting frames a
      → (a < record_of m p f frames) ⊎ (record_of m p f frames + (keeping p plans f).room ≤ a)
  outside_by false f g frames a k fits fits' w = ⊎_elim
      (λ q. inl (omega (arith, q.1, k.record_is frames)))
      (λ q. inr (omega (arith, q.0, k.record_is frames, k.program, k.bytes, regions.calls))) w
  outside_by true f g frames a k fits fits' w = ⊎_elim
      (λ q. inl (omega (arith, q.1, k.record_is frames, regions.calls)))
      (λ q. inl (omega (arith, q.1, k.record_is frames))) w

  -- that of a function waits once it calls
  pub own_waits : (b : Bool) (f : ℕ) (g : FlatFunction) (x : Frame) (xs : List Frame) (a : ℕ) → x.function ≡ f
      → IsKind m p plans address regions ok can.rooms f g b
      → record_of m p f xs ≤ a → a < record_of m p f xs + (keeping p plans f).room → IsWaiting (x ∷ xs) a
  unfolding rooms
  own_waits false f g x xs a e k low high =
      let room : room_if false (function_in p x.function) ≡ g.room =
      ap (λ z. room_if false (function_in p z)) e ∙ k.program in
      inl (omega (arith, k.record_is xs), omega (arith, k.record_is xs, k.bytes))
  own_waits true f g x xs a e k low high =
      let room : room_if true (function_in p x.function) ≡ g.room =
      ap (λ z. room_if true (function_in p z)) e ∙ k.runtime in
      inr (omega (arith, k.record_is xs), omega (arith, k.record_is xs, k.bytes))

  pub less_waits : (x : Frame) (xs : List Frame) (a : ℕ) → IsWaiting xs a → IsWaiting (x ∷ xs) a
  unfolding rooms
  less_waits x xs a w = ⊎_elim (λ q. inl (q.0, omega (arith, q.1))) (λ q. inr (q.0, omega (arith, q.1))) w

  -- the frames' registers behind a call
  pub tops_by : (b : Bool) (f : ℕ) (g : FlatFunction) (x : Frame) (xs : List Frame) (v w : View) → x.function ≡ f
      → IsKind m p plans address regions ok can.rooms f g b
      → w.registers (keeping p plans f).base ≡ record_of m p f xs + (keeping p plans f).room
      → ((r : ℕ) → r < 5 → r ≢ 1 → r ≢ (keeping p plans f).base → w.registers r ≡ v.registers r)
      → v.registers 2 ≡ top_of m p false xs
      → v.registers 4 ≡ top_of m p true xs
      → (w.registers 2 ≡ top_of m p false (x ∷ xs))
      × (w.registers 4 ≡ top_of m p true (x ∷ xs))
  unfolding rooms
  tops_by false f g x xs v w e k base low two four =
      let room : room_if false (function_in p x.function) ≡ g.room =
      ap (λ z. room_if false (function_in p z)) e ∙ k.program in
      let none : room_if true (function_in p x.function) ≡ 0 =
      ap (λ z. room_if true (function_in p z)) e ∙ k.runtime in
      let at : w.registers 2 ≡ record_of m p f xs + (keeping p plans f).room = ap w.registers (sym k.base) ∙ base in
      let other = low 4 (omega arith) (omega arith) (omega (arith, k.base)) in
      (omega (arith, at, k.record_is xs, k.bytes), omega (arith, other, four))
  tops_by true f g x xs v w e k base low two four =
      let room : room_if true (function_in p x.function) ≡ g.room =
      ap (λ z. room_if true (function_in p z)) e ∙ k.runtime in
      let none : room_if false (function_in p x.function) ≡ 0 =
      ap (λ z. room_if false (function_in p z)) e ∙ k.program in
      let at : w.registers 4 ≡ record_of m p f xs + (keeping p plans f).room = ap w.registers (sym k.base) ∙ base in
      let other = low 2 (omega arith) (omega arith) (omega (arith, k.base)) in
      (omega (arith, other, two), omega (arith, at, k.record_is xs, k.bytes))

  -- all premises of a call
  pub record IsCall (f pc : ℕ) (g : FlatFunction) (i : FlatInstruction) (shape : CallShape) (to : ℕ)
      (callee : FlatFunction) : Type 0 where
    pub there : function_in p f ≡ Some g
    pub at : instruction_at p f pc ≡ Some i
    pub shape_is : shape_of p (keeping p plans f) i ≡ Some shape
    pub block_is : block m p plans f pc i
        ≡ call_part (keeping p plans f) pc shape ++ back_part (keeping p plans f) pc shape
    pub callee_is : function_in p to ≡ Some callee
    pub count : shape.count ≡ callee.parameters
    pub results : shape.results ≡ callee.results
    pub reads : (j : ℕ) → j < shape.count → (keeping p plans f).live pc (shape.first + j) ≡ true
    pub rest : (y : ℕ) → (keeping p plans f).live (pc + 1) y ≡ true
        → is_among (many shape.into shape.results) y ≡ false → (keeping p plans f).live pc y ≡ true
    pub no_six : shape.target ≢ 6
    pub no_base : shape.target ≢ (keeping p plans f).base

  pub base_by : (b : Bool) (f : ℕ) (g : FlatFunction) → IsKind m p plans address regions ok can.rooms f g b
      → ((keeping p plans f).base ≢ 1) × ((keeping p plans f).base ≢ 3)
  base_by false f g k = (omega (arith, k.base), omega (arith, k.base))
  base_by true f g k = (omega (arith, k.base), omega (arith, k.base))

  -- the record of a callee, by the registers of frames
  pub callee_frame : (b : Bool) (to : ℕ) (callee : FlatFunction) (x : Frame) (xs : List Frame) (w : View)
      → IsKind m p plans address regions ok can.rooms to callee b
      → (w.registers 2 ≡ top_of m p false (x ∷ xs))
      × (w.registers 4 ≡ top_of m p true (x ∷ xs))
      → room_if false (function_in p to) + rooms false p (x ∷ xs) ≤ m.budgets.calls
      → room_if true (function_in p to) + rooms true p (x ∷ xs) ≤ region_size m RuntimeCalls
      → HasFrame (space_bytes m) (keeping p plans to).base (record_of m p to (x ∷ xs)) (keeping p plans to).room w
  callee_frame false to callee x xs w k tops fits fits' = record {
    is = ap w.registers k.base ∙ tops.0 ∙ sym (k.record_is (x ∷ xs));
    base_low = omega (arith, k.base);
    base_high = omega (arith, k.base);
    low = omega (arith, k.record_is (x ∷ xs), regions.cells_low, regions.cells, regions.arguments);
    high = omega (arith, k.record_is (x ∷ xs), k.program, k.bytes, regions.calls, regions.space);
    small = omega (arith, regions.space, regions.end);
  }
  callee_frame true to callee x xs w k tops fits fits' = record {
    is = ap w.registers k.base ∙ tops.1 ∙ sym (k.record_is (x ∷ xs));
    base_low = omega (arith, k.base);
    base_high = omega (arith, k.base);
    low = omega (arith, k.record_is (x ∷ xs), regions.cells_low, regions.cells, regions.arguments, regions.calls);
    high = omega (arith, k.record_is (x ∷ xs), k.runtime, k.bytes, regions.space);
    small = omega (arith, regions.space, regions.end);
  }

  -- the machine's state at the callee's first instruction
  callee_at : (f pc : ℕ) (g : FlatFunction) (i : FlatInstruction) (shape : CallShape) (to : ℕ) (callee : FlatFunction)
      (s s' : State) (frames : List Frame) (v w : View) (k : IsCall f pc g i shape to callee)
      → IsAt m p plans address f pc s frames v
      → Prepared (object_bytes m) (space_bytes m) (record_of m p f frames) (keeping p plans f)
      (wanted (keeping p plans f) pc shape.into shape.results) (region_start m Arguments) shape.first shape.count
      shape.target (row_address p to) shape.aim v
      → w.memory ≡ (performs (call_block (keeping p plans f) (wanted (keeping p plans f) pc shape.into shape.results)
      shape.first shape.count shape.aim) v).memory
      → ((r : ℕ) → r < 5 → r ≢ 1 → w.registers r ≡ (performs (call_block (keeping p plans f)
      (wanted (keeping p plans f) pc shape.into shape.results) shape.first shape.count shape.aim) v).registers r)
      → Entered (object_bytes m) (space_bytes m) (record_of m p to (waiting f pc shape.into s ∷ frames))
      (keeping p plans to) (region_start m Arguments) shape.count
      (address f pc + 4 * length (call_part (keeping p plans f) pc shape)) w
      → room_if false (function_in p to) + rooms false p (waiting f pc shape.into s ∷ frames) ≤ m.budgets.calls
      → room_if true (function_in p to) + rooms true p (waiting f pc shape.into s ∷ frames)
      ≤ region_size m RuntimeCalls
      → s'.values ≡ arguments shape.first shape.count s.values → s'.memory ≡ s.memory
      → IsAt m p plans address to 0 s' (waiting f pc shape.into s ∷ frames)
      (performs (entry_block (keeping p plans to) shape.count) w)
  callee_at f pc g i shape to callee s s' frames v w k h pr mem low en fits fits' values memory =
      let kf = keeping p plans f in
      let kt = keeping p plans to in
      let x : Frame = waiting f pc shape.into s in
      let z = performs (entry_block kt shape.count) w in
      let kk = kind m p plans address regions ok can.rooms f g g.is_runtime k.there refl in
      let kt_is = kind m p plans address regions ok can.rooms to callee callee.is_runtime k.callee_is refl in
      let fp = record_of m p f frames in
      let cb = call_block kf (wanted kf pc shape.into shape.results) shape.first shape.count shape.aim in
      let is_kept = ok.kept f (pc + 1) g k.there in
      let room_f = ok.charged_room f g k.there in
      let big = can.rooms f g k.there in
      let f_frame = frame_of m p plans address regions ok can.rooms f pc g s frames v k.there h in
      let behind = record_behind m p plans address regions ok can.rooms f frames in
      let behind_to = record_behind m p plans address regions ok can.rooms to (x ∷ frames) in
      let mid : (b : ℕ) → ((b < region_start m Arguments) ⊎ (region_start m Calls ≤ b))
      → ((b < fp + 8) ⊎ (fp + kf.room ≤ b)) → w.memory b ≡ v.memory b =
      λ b out out'. ap (λ q. q b) mem ∙ pr.memory b
      (⊎_elim (λ q. inl q) (λ q. let c = can.parameters to callee k.callee_is in
      inr (omega (arith, k.count, regions.arguments))) out)
      (⊎_elim (λ q. inl q) (λ q. inr (omega arith)) out') in
      let after : (b : ℕ) → IsWaiting (x ∷ frames) b → z.memory b ≡ w.memory b =
      λ b q. en.memory b (outside_by callee.is_runtime to callee (x ∷ frames) b kt_is fits fits' q) in
      let low_z : (r : ℕ) → r < 5 → r ≢ 1 → z.registers r ≡ (performs cb v).registers r =
      λ r lt ne. en.low r lt ∙ low r lt ne in
      let bases = base_by g.is_runtime f g kk in
      let tops = tops_by g.is_runtime f g x frames v z refl kk (low_z kf.base f_frame.base_high bases.0 ∙ pr.base)
      (λ r lt n1 ne. low_z r lt n1 ∙ pr.low r lt ne) h.program_top h.runtime_top in
      let own : (a : ℕ) → fp ≤ a → a < fp + kf.room → z.memory a ≡ w.memory a =
      λ a l u. after a (own_waits g.is_runtime f g x frames a refl kk l u) in
      let less : (a : ℕ) → region_start m Calls ≤ a → IsWaiting frames a → z.memory a ≡ v.memory a =
      λ a l q. after a (less_waits x frames a q) ∙ mid a (inr l)
      (⊎_elim (λ e. inl (omega arith)) (λ e. inr e)
      (outside_by g.is_runtime f g frames a kk h.program_fits h.runtime_fits q)) in
      record {
        zero_is = low_z 0 (omega arith) (omega arith) ∙ pr.low 0 (omega arith) (omega (arith, f_frame.base_low))
            ∙ h.zero_is;
        program_top = tops.0;
        arguments = low_z 3 (omega arith) (omega arith)
            ∙ pr.low 3 (omega arith) (λ e. bases.1 (sym e)) ∙ h.arguments;
        runtime_top = tops.1;
        program_fits = fits;
        runtime_fits = fits';
        held = λ y live.
            let lt : y < shape.count = let q = ok.entry to callee k.callee_is y live in omega (arith, k.count) in
            en.set y lt live ∙ ap (λ q. load 8 q (region_start m Arguments + 8 * y)) mem ∙ pr.set y lt
            ∙ h.held (shape.first + y) (k.reads y lt)
            ∙ sym (ap (λ q. q y) values ∙ ap (λ q. if q then s.values (shape.first + y) else 0)
            (lt-ltb y shape.count lt));
        same = λ a fl.
            let before = flat_before m regions a fl in
            en.memory a (inl (omega (arith, regions.arguments)))
            ∙ mid a (inl before) (inl (omega (arith, regions.arguments)))
            ∙ h.same a fl ∙ sym (ap (λ q. q a) memory);
        wait = (
          record {
            place = pc;
            next_is = refl;
            call = i;
            at = k.at;
            shape = shape;
            shape_is = k.shape_is;
            into_is = refl;
            results_are = k.results ∙ sym (ap results_of k.callee_is);
            returns = en.returns;
            held = λ y live other.
                let low_y = is_kept.low y live in
                let high_y = is_kept.high y live in
                stored.load_kept 8 w.memory z.memory (fp + kf.home y)
                (λ j lt. own (fp + kf.home y + j) (omega arith) (omega arith))
                ∙ ap (λ q. load 8 q (fp + kf.home y)) mem
                ∙ pr.saved y (ok.counted f (pc + 1) y g k.there live)
                (and_from (kf.live (pc + 1) y) (not (is_among (many shape.into shape.results) y)) live (ap not other))
                ∙ h.held y (k.rest y live other);
          },
          wait_same m p plans address regions ok can.rooms frames f v.memory z.memory (record {
            program = λ a l u. less a l (inl (l, u));
            runtime = λ a l u. less a (omega (arith, regions.calls)) (inr (l, u));
            first = λ a l u. own a l (omega arith) ∙ mid a (inr (omega arith)) (inl u);
          }) h.wait,
        );
      }

  -- what is live before the call has words of 64 bits
  pub call_steps : (f pc : ℕ) (g : FlatFunction) (i : FlatInstruction) (shape : CallShape) (to : ℕ)
      (callee : FlatFunction) (s s' : State) (frames : List Frame) (c : Configuration)
      (k : IsCall f pc g i shape to callee)
      → Meets m p plans (layout_of m table code) address f pc s frames c → IsOfWords s
      → ((w : View) → HasFrame (space_bytes m) (keeping p plans f).base (record_of m p f frames)
      (keeping p plans f).room w → w.registers 0 ≡ 0
      → ((y : ℕ) → (keeping p plans f).live pc y ≡ true
      → kept (record_of m p f frames) w ((keeping p plans f).place y) ≡ s.values y)
      → Aims (object_bytes m) (space_bytes m) shape.aim w shape.target (row_address p to))
      → room_if false (function_in p to) + rooms false p (waiting f pc shape.into s ∷ frames) ≤ m.budgets.calls
      → room_if true (function_in p to) + rooms true p (waiting f pc shape.into s ∷ frames)
      ≤ region_size m RuntimeCalls
      → s'.values ≡ arguments shape.first shape.count s.values → s'.memory ≡ s.memory
      → s'.accesses ≡ s.accesses → s'.input ≡ s.input → s'.output ≡ s.output → s'.taken ≡ s.taken
      → Steps m p plans table code address entry regions ok fit laid can to 0 s'
      (waiting f pc shape.into s ∷ frames) c
      (length (entry_block (keeping p plans to) shape.count) + (4
      + length (call_block (keeping p plans f) (wanted (keeping p plans f) pc shape.into shape.results) shape.first
      shape.count shape.aim)))
  call_steps f pc g i shape to callee s s' frames c k h words aims fits fits' values memory accesses input output taken
      =
      let l = layout_of m table code in
      let kf = keeping p plans f in
      let kt = keeping p plans to in
      let fp = record_of m p f frames in
      let x : Frame = waiting f pc shape.into s in
      let v = h.view in
      let want = wanted kf pc shape.into shape.results in
      let cb = call_block kf want shape.first shape.count shape.aim in
      let eb = entry_block kt shape.count in
      let f_frame = frame_of m p plans address regions ok can.rooms f pc g s frames v k.there h.is_at in
      let behind = record_behind m p plans address regions ok can.rooms f frames in
      let behind_to = record_behind m p plans address regions ok can.rooms to (x ∷ frames) in
      let few : shape.count ≤ 1024 = let q = can.parameters to callee k.callee_is in omega (arith, k.count) in
      let room_f = ok.charged_room f g k.there in
      let room_t = ok.charged_room to callee k.callee_is in
      let big_f = can.rooms f g k.there in
      let big_t = can.rooms to callee k.callee_is in
      let low_area : spaces_begin ≤ region_start m Arguments = omega (arith, regions.cells_low, regions.cells) in
      let bases = base_by g.is_runtime f g (kind m p plans address regions ok can.rooms f g g.is_runtime k.there
      refl) in
      let pr = prepares (object_bytes m) (space_bytes m) fp kf (kf.live pc) want (region_start m Arguments) 1024
      shape.first shape.count shape.target (row_address p to) shape.aim v few (omega arith) h.is_at.zero_is
      (record { is = h.is_at.arguments; low = low_area; below = omega (arith, regions.arguments) }) f_frame
      (ok.kept f pc g k.there)
      (λ y w. let q = and_parts (kf.live (pc + 1) y) (not (is_among (many shape.into shape.results) y)) w in
      k.rest y q.0 (not-true (is_among (many shape.into shape.results) y) q.1))
      (λ y live. rw (h.is_at.held y live) (words.values y)) k.reads bases.1 k.no_six k.no_base
      (λ w fw zw held. aims w fw zw (λ y live. held y live ∙ h.is_at.held y live)) in
      let stands : AllStand l (address f pc) (call_part kf pc shape ++ back_part kf pc shape) =
      subst (AllStand l (address f pc)) k.block_is (laid.blocks f pc i k.at) in
      let parts = all_append l (call_part kf pc shape) (back_part kf pc shape) (address f pc) stands in
      let front = all_append l cb (Jalr 1 shape.target 0 ∷ []) (address f pc) parts.0 in
      let one = straight_comes l fit cb c v (subst (λ q. AllStand l q cb) (sym h.pc_is) front.0) pr.go h.shows in
      let v4 = performs cb v in
      let pc4 : v4.pc ≡ address f pc + 4 * length cb = pr.pc ∙ ap (λ q. q + 4 * length cb) h.pc_is in
      let numbered = laid.numbered to callee k.callee_is in
      let two = arrives l fit shape.target (row_address p to) (entry to) one.after v4
      (subst (λ q. AllStand l q (Jalr 1 shape.target 0 ∷ [])) (sym pc4) front.1).0 pr.target_is (omega arith)
      (row_whole p to) (laid.rows to callee k.callee_is) (laid.low to callee k.callee_is)
      (laid.whole to callee k.callee_is) one.shows in
      let w = two.view in
      let ra = address f pc + 4 * length (call_part kf pc shape) in
      let len = length-append cb (Jalr 1 shape.target 0 ∷ []) in
      let link : w.registers 1 ≡ ra = two.link ∙ ap (λ q. q + 4) pc4 ∙ omega (arith, len) in
      let ra_low : ra < 2 ^ 64 = let q = front.1.0.small in omega (arith, len) in
      let low : (r : ℕ) → r < 5 → r ≢ 1 → w.registers r ≡ v4.registers r =
      λ r lt ne. two.others r ne (omega arith) in
      let frame_t : HasFrame (space_bytes m) kt.base (record_of m p to (x ∷ frames)) kt.room w =
      callee_frame callee.is_runtime to callee x frames w
      (kind m p plans address regions ok can.rooms to callee callee.is_runtime k.callee_is refl)
      (tops_by g.is_runtime f g x frames v w refl
      (kind m p plans address regions ok can.rooms f g g.is_runtime k.there refl)
      (low kf.base f_frame.base_high bases.0 ∙ pr.base) (λ r lt n1 ne. low r lt n1 ∙ pr.low r lt ne)
      h.is_at.program_top h.is_at.runtime_top) fits fits' in
      let en = enters (object_bytes m) (space_bytes m) (record_of m p to (x ∷ frames)) kt (region_start m Arguments)
      1024 shape.count ra w few (omega arith)
      (record {
        is = low 3 (omega arith) (omega arith) ∙ pr.low 3 (omega arith) (λ e. bases.1 (sym e)) ∙ h.is_at.arguments;
        low = low_area;
        below = omega (arith, regions.arguments);
      }) frame_t link ra_low (ok.kept to 0 callee k.callee_is)
      (λ j lt. rw (ap (λ q. load 8 q (region_start m Arguments + 8 * j)) two.memory ∙ pr.set j lt
      ∙ h.is_at.held (shape.first + j) (k.reads j lt)) (words.values (shape.first + j))) in
      let stand_e : AllStand l (entry to) eb = subst (λ q. AllStand l (entry to) (entry_block kt q)) (sym k.count)
      (laid.entries to callee k.callee_is) in
      let three = straight_comes l fit eb two.comes.after w (subst (λ q. AllStand l q eb) (sym two.pc) stand_e) en.go
      two.comes.shows in
      let first : address to 0 ≡ entry to + 4 * length eb = laid.first to callee k.callee_is
      ∙ ap (λ q. entry to + 4 * length (entry_block kt q)) (sym k.count) in
      record {
        steps = length eb + (3 + length cb);
        few = omega arith;
        after = three.after;
        is = runs_then (length eb) (3 + length cb) c two.comes.after
            (runs_then 3 (length cb) c one.after one.is ∙ two.comes.is) ∙ three.is;
        meets = record {
          view = performs eb w;
          shows = three.shows;
          pc_is = en.pc ∙ ap (λ q. q + 4 * length eb) two.pc ∙ sym first;
          is_at = callee_at f pc g i shape to callee s s' frames v w k h.is_at pr two.memory low en fits fits' values
              memory;
          accesses = en.accesses ∙ two.accesses ∙ pr.accesses ∙ h.accesses ∙ sym accesses;
          outside = record {
            input = three.stays.input ∙ two.comes.stays.input ∙ one.stays.input ∙ h.outside.input ∙ sym input;
            output = three.stays.output ∙ two.comes.stays.output ∙ one.stays.output ∙ h.outside.output ∙ sym output;
            errors = three.stays.errors ∙ two.comes.stays.errors ∙ one.stays.errors ∙ h.outside.errors;
            taken = three.stays.taken ∙ two.comes.stays.taken ∙ one.stays.taken ∙ h.outside.taken ∙ sym taken;
          };
        };
      }
