-- Instructions that stay in their function, one by one: the machine comes to where the run goes.
use Rattle.std.proofs.Common.{◌≡◌, ◌≢◌, ℕ, zero, suc, ◌+◌, ◌-◌, ◌*◌, ◌/◌, ◌%◌, ◌^◌, ◌<◌, ◌≤◌, inl, inr, refl, sym}
use Rattle.std.proofs.Common.{ap, ◌∙◌, subst, arith, ⊎_elim, Bool, true, false, List, [], ◌∷◌, ◌++◌, length, Some, None}
use Rattle.std.proofs.Common.{length-append}
use Rattle.std.specs.Prelude.{if◌then◌else◌, not, nat_le, nat_lt, ◌&&◌, ◌||◌}
use Rattle.std.proofs.lemmas.Bool.{cases_eq, and_parts, leb-true, le-leb, lt-ltb, lt-leb, le-ltb, or_cases, or_right}
use Rattle.std.proofs.Math.Bool.{or-true}
use Rattle.words.specs.TwosComplement.{low_bits}
use Rattle.behaviours.specs.Shown.{Access, AccessKind, Read, Write}
use Rattle.addr_map.specs.Places.{MapSizes, region_start, region_end, objects_begin, spaces_begin, code_begin}
use Rattle.addr_map.specs.Places.{code_size, is_code_address}
use Rattle.addr_map.specs.declared.region.Region.TheVariants.{Heap, Cells, Calls}
use Rattle.rv_isa.specs.declared.instruction.LoadOp.{LoadOp}
use Rattle.rv_isa.specs.declared.instruction.LoadOp.TheVariants.{Lb, Lh, Lw, Ld, Lbu, Lhu, Lwu}
use Rattle.rv_isa.specs.declared.instruction.StoreOp.{StoreOp}
use Rattle.rv_isa.specs.declared.instruction.StoreOp.TheVariants.{Sb, Sh, Sw, Sd}
use Rattle.rv_isa.specs.declared.instruction.RegOp.{RegOp}
use Rattle.rv_isa.specs.declared.instruction.RegOp32.{RegOp32}
use Rattle.rv_isa.specs.declared.instruction.BranchOp.{BranchOp}
use Rattle.rv_isa.specs.declared.instruction.Instr.{Instr}
use Rattle.rv_isa.specs.declared.instruction.Instr.TheVariants.{Load, Store}
use Rattle.rv_isa.specs.Results.{wrap, low_word, branch_taken, reg_result, reg32_result, load_bytes, extended}
use Rattle.rv_isa.specs.Results.{store_bytes}
use Rattle.rv_isa.proofs.Words.{reg_fits, reg32_fits, load_fits}
use Rattle.rv_sim.specs.Run.{Configuration, runs}
use Rattle.machine_laws.specs.View.Views.{View, Fits, AllStand, StaysOutside, performs, accesses_by}
use Rattle.machine_laws.proofs.View.Leaving.{no_access}
use Rattle.rv_asm.specs.Forms.{branch_size}
use Rattle.rv_asm.specs.Words.{jump_instrs, branch_instrs}
use Rattle.flat_code.specs.declared.instruction.RightOperand.{RightOperand}
use Rattle.flat_code.specs.declared.instruction.RightOperand.TheVariants as right
use Rattle.flat_code.specs.declared.instruction.FlatInstruction.{FlatInstruction}
use Rattle.flat_code.specs.declared.instruction.FlatInstruction.TheVariants as flat
use Rattle.flat_code.specs.declared.function.FlatFunction.{FlatFunction}
use Rattle.flat_code.specs.declared.function.FlatProgram.{FlatProgram}
use Rattle.flat_code.specs.Memory.{Bytes, put, load, store, KeepsBut}
use Rattle.flat_code.specs.Spaces.{is_of_objects, is_of_runtime, is_allowed}
use Rattle.flat_code.specs.State.{State, Frame, Values}
use Rattle.flat_code.specs.Calls.{function_in, room_if, rooms, charged}
use Rattle.flat_code.specs.Meaning.{instruction_at, is_runtime_function, right_value}
use Rattle.flat_code.specs.Words.{AreWords, IsOfWords}
use Rattle.flat_code.proofs.Stored as stored
use Rattle.reg_plan.specs.declared.plan.FunctionPlan.{FunctionPlan}
use Rattle.reg_plan.specs.Effects.{read_by, is_read, made_by, makes_only, is_among, many, one, none, two}
use Rattle.reg_plan.specs.Effects.{operand, Leads}
use Rattle.machine_laws.specs.declared.location.Location.{Location}
use Rattle.machine_laws.specs.declared.location.Location.TheVariants as location
use Rattle.machine_laws.specs.Blocks.Blocks.{used, used_right, fetch, keep, operands, local_block}
use Rattle.machine_laws.specs.Blocks.Effects.{RightIsIn, RightIsKept, IsIn, kept, IsNoScratch, Puts, HasFrame}
use Rattle.machine_laws.proofs.Blocks.Pieces.{low_apart, saved_apart}
use Rattle.machine_laws.proofs.Blocks.Local.{constant_puts, move_puts, operate_puts, operate32_puts}
use Rattle.machine_laws.proofs.Blocks.Local.{load_puts, store_saves, charged_puts, has_operands}
use Rattle.machine_laws.specs.Calls.Calls.{Keeping}
use Rattle.machine_laws.proofs.Calls.Words.{kept_above}
use Rattle.machine_laws.specs.Following.Code.{keeping, block, charged_from, GoesOn, IsLaid, IsEncodable, JumpStands}
use Rattle.machine_laws.specs.Following.Matching.{object_bytes, space_bytes, IsOfFlat, top_of, record_of, IsAt}
use Rattle.machine_laws.specs.Following.Matching.{ShowsSame}
use Rattle.machine_laws.specs.Following.Matching.{Meets}
use Rattle.machine_laws.specs.Following.Start.{layout_of}
use Rattle.machine_laws.proofs.Following.Runs.{Comes, straight_comes, then_comes, jumps, branches}
use Rattle.machine_laws.proofs.Following.Regions.{AreRegions, allowed_data, allowed_flat, allowed_before}
use Rattle.machine_laws.proofs.Following.Sound.{IsSound}
use Rattle.machine_laws.proofs.Following.Standing.{among_one, frame_of, made, unneeded, moves, before_untouched}
use Rattle.machine_laws.proofs.Following.Standing.{record_behind}

-- a state has these values, this memory and these accesses, and else is as another
pub record Becomes (s s' : State) (values : Values) (memory : Bytes) (accesses : List Access) : Type 0 where
  pub values_are : s'.values ≡ values
  pub memory_is : s'.memory ≡ memory
  pub accesses_are : s'.accesses ≡ accesses
  pub input_is : s'.input ≡ s.input
  pub output_is : s'.output ≡ s.output
  pub taken_is : s'.taken ≡ s.taken

-- where memory stays, and registers but scratch registers do, so does what is kept
kept_same : (fp room : ℕ) (v w : View) (x : Location)
    → ((r : ℕ) → IsNoScratch r → r ≢ 31 → w.registers r ≡ v.registers r) → w.memory ≡ v.memory → IsIn room x
    → kept fp w x ≡ kept fp v x
kept_same fp room v w (location.Register r) stay memory i = stay r (saved_apart r i) (omega (arith, i.high))
kept_same fp room v w (location.Frame o) stay memory i = ap (λ q. load 8 q (fp + o)) memory

-- a right operand that is read is live
abbrev pub RightIsLive : Keeping → (pc : ℕ) → RightOperand → Type 0
RightIsLive k pc (right.Register z) = k.live pc z ≡ true
RightIsLive k pc (right.Number n) = Unit {0}

-- the last of three tests holds
pub or_last : (a b d : Bool) → d ≡ true → (a || (b || d)) ≡ true
or_last a b d e = or_right a (b || d) (or_right b d e)

-- a register of so many from a first one on is among them
pub among_from : (first n j : ℕ) → j < n → is_among (many first n) (first + j) ≡ true
among_from first n j lt = rw (le-leb first (first + j) (omega arith), lt-ltb (first + j) (first + n) (omega arith)) refl

pub among_none : (y : ℕ) → is_among none y ≡ false
among_none y = rw (le-leb 0 y (omega arith), le-ltb y 0 (omega arith)) refl

-- the access that an instruction of flat code shows
abbrev pub shown_access : MapSizes → (runtime : Bool) → (address size : ℕ) → AccessKind → List Access
shown_access m b a n kind =
    if not b && is_of_objects m a n then record { address = a; size = n; kind = kind } ∷ [] else []

-- an access at an address that flat code may use, by an instruction of compiled code or of the runtime
access_by : (m : MapSizes) → AreRegions m → (b : Bool) (pc a n : ℕ) (kind : AccessKind) → is_code_address pc ≡ not b
    → 0 < n → is_allowed m a n ≡ true
    → accesses_by pc (Some (record { address = a; size = n; kind = kind })) ≡ shown_access m b a n kind
access_by m r true pc a n kind e some allowed = rw e refl
access_by m r false pc a n kind e some allowed = rw e (⊎_elim
    (λ q. let parts = and_parts (nat_le objects_begin a) (nat_le (a + n) (region_end m Heap)) q in
    let low = leb-true objects_begin a parts.0 in
    let high = leb-true (a + n) (region_end m Heap) parts.1 in
    let below : nat_lt a spaces_begin ≡ true = lt-ltb a spaces_begin (omega (arith, r.heap)) in
    rw (q, parts.0, below) refl)
    (λ q. let parts = and_parts (nat_le spaces_begin a) (nat_le (a + n) (region_end m Cells)) q in
    let low = leb-true spaces_begin a parts.0 in
    let behind : nat_lt a spaces_begin ≡ false = le-ltb a spaces_begin low in
    let outside : nat_le (a + n) (region_end m Heap) ≡ false =
    lt-leb (a + n) (region_end m Heap) (omega (arith, r.heap)) in
    let from : nat_le objects_begin a ≡ true = le-leb objects_begin a (omega arith) in
    rw (behind, outside, from) refl)
    (or_cases (is_of_objects m a n) (is_of_runtime m a n) allowed))

some_loaded : (op : LoadOp) → 0 < load_bytes op
some_loaded Lb = omega arith
some_loaded Lh = omega arith
some_loaded Lw = omega arith
some_loaded Ld = omega arith
some_loaded Lbu = omega arith
some_loaded Lhu = omega arith
some_loaded Lwu = omega arith

some_stored : (op : StoreOp) → 0 < store_bytes op
some_stored Sb = omega arith
some_stored Sh = omega arith
some_stored Sw = omega arith
some_stored Sd = omega arith

-- a store of the same at the same place
store_same : (n : ℕ) (m m' : Bytes) (a v b : ℕ) → m' b ≡ m b → store n m' a v b ≡ store n m a v b
unfolding store
store_same zero m m' a v b e = e
store_same (suc n) m m' a v b e =
    store_same n (put m a (v % 256)) (put m' a (v % 256)) (suc a) (v / 256) b (⊎_elim
    (λ q. ap (put m' a (v % 256)) q ∙ stored.put_same m' a (v % 256)
    ∙ sym (ap (put m a (v % 256)) q ∙ stored.put_same m a (v % 256)))
    (λ ne. stored.put_other m' a (v % 256) b ne ∙ e ∙ sym (stored.put_other m a (v % 256) b ne))
    (cases_eq b a))

module _ (m : MapSizes) (p : FlatProgram) (plans : List FunctionPlan) (table code : List ℕ)
    (address : (function pc : ℕ) → ℕ) (entry : (function : ℕ) → ℕ) (regions : AreRegions m) (ok : IsSound p plans)
    (fit : Fits (layout_of m table code)) (laid : IsLaid m p plans (layout_of m table code) address entry)
    (can : IsEncodable p) where
  -- the machine comes within so many instructions to an instruction of a function
  pub record Steps (f q : ℕ) (s' : State) (frames : List Frame) (c : Configuration) (most : ℕ) : Type 0 where
    pub steps : ℕ
    pub few : steps ≤ most
    pub after : Configuration
    pub is : runs steps c ≡ (after, None)
    pub meets : Meets m p plans (layout_of m table code) address f q s' frames after

  still_shows : (c d : Configuration) (s s' : State) (values : Values) (memory : Bytes) (accesses : List Access)
      → StaysOutside c d → Becomes s s' values memory accesses → ShowsSame c s → ShowsSame d s'
  still_shows c d s s' values memory accesses t b h = record {
    input = t.input ∙ h.input ∙ sym b.input_is;
    output = t.output ∙ h.output ∙ sym b.output_is;
    errors = t.errors ∙ h.errors;
    taken = t.taken ∙ h.taken ∙ sym b.taken_is;
  }

  -- the instructions of a block whose result goes to its place
  result_steps : (f pc x n : ℕ) (g : FlatFunction) (i : FlatInstruction) (s s' : State) (frames : List Frame)
      (c : Configuration) (is : List Instr) (accesses : List Access)
      (h : Meets m p plans (layout_of m table code) address f pc s frames c)
      → function_in p f ≡ Some g → instruction_at p f pc ≡ Some i
      → Leads i pc (pc + 1) → (keeping p plans f).live (pc + 1) x ≡ true → made_by p i ≡ one x
      → Becomes s s' (put s.values x n) s.memory accesses
      → AllStand (layout_of m table code) (address f pc) is → address f (pc + 1) ≡ address f pc + 4 * length is
      → Puts (object_bytes m) (space_bytes m) (record_of m p f frames) (keeping p plans f).room is h.view
      ((keeping p plans f).place x) n accesses
      → Steps f (pc + 1) s' frames c (length is)
  result_steps f pc x n g i s s' frames c is accesses h there at leads live makes b stand next u =
      let go = straight_comes (layout_of m table code) fit is c h.view
      (subst (λ q. AllStand (layout_of m table code) q is) (sym h.pc_is) stand) u.go h.shows in
      record {
        steps = length is;
        few = omega arith;
        after = go.after;
        is = go.is;
        meets = record {
          view = performs is h.view;
          shows = go.shows;
          pc_is = u.pc ∙ ap (λ q. q + 4 * length is) h.pc_is ∙ sym next;
          is_at = made m p plans address regions ok can.rooms f pc x n g i s s' frames h.view is (object_bytes m)
              accesses there at leads live makes b.values_are b.memory_is u h.is_at;
          accesses = u.accesses_are ∙ sym b.accesses_are;
          outside = still_shows c go.after s s' (put s.values x n) s.memory accesses go.stays b h.outside;
        };
      }

  -- what a live value has
  pub place_in : (f pc y : ℕ) (g : FlatFunction) → function_in p f ≡ Some g → (keeping p plans f).live pc y ≡ true
      → IsIn (keeping p plans f).room ((keeping p plans f).place y)
  place_in f pc y g there live = (ok.kept f pc g there).inside y live

  pub right_in : (f pc : ℕ) (g : FlatFunction) (z : RightOperand) → function_in p f ≡ Some g
      → RightIsLive (keeping p plans f) pc z → RightIsIn (keeping p plans f).room (keeping p plans f).place z
  right_in f pc g (right.Register z) there live = place_in f pc z g there live
  right_in f pc g (right.Number n) there live = tt

  right_kept : (f pc : ℕ) (z : RightOperand) (s : State) (frames : List Frame) (v : View)
      → IsAt m p plans address f pc s frames v → RightIsLive (keeping p plans f) pc z
      → RightIsKept (record_of m p f frames) (keeping p plans f).place v z s.values
  right_kept f pc (right.Register z) s frames v h live = h.held z live
  right_kept f pc (right.Number n) s frames v h live = tt

  right_fits : (z : RightOperand) (values : Values) → AreWords values → right_value z values < 2 ^ 64
  right_fits (right.Register z) values w = w z
  right_fits (right.Number n) values w = omega arith

  -- what an instruction always makes is live behind it
  pub made_live : (f pc x : ℕ) (g : FlatFunction) (i : FlatInstruction) → function_in p f ≡ Some g
      → instruction_at p f pc ≡ Some i → Leads i pc (pc + 1) → pc + 1 < length g.body → made_by p i ≡ one x
      → makes_only i ≡ None → (keeping p plans f).live (pc + 1) x ≡ true
  made_live f pc x g i there at leads inside makes always =
      ok.makes f pc g i there at (pc + 1) x leads inside (ap (λ q. is_among q x) makes ∙ among_one x) always

  -- where it goes
  pub made_in : (f pc x : ℕ) (g : FlatFunction) (i : FlatInstruction) → function_in p f ≡ Some g
      → instruction_at p f pc ≡ Some i → Leads i pc (pc + 1) → pc + 1 < length g.body → made_by p i ≡ one x
      → makes_only i ≡ None → IsIn (keeping p plans f).room ((keeping p plans f).place x)
  made_in f pc x g i there at leads inside makes always =
      place_in f (pc + 1) x g there (made_live f pc x g i there at leads inside makes always)

  -- what an instruction only makes is needed behind it
  abbrev pub IsWanted : (f pc : ℕ) → FlatInstruction → Type 0
  IsWanted f pc i = (x : ℕ) → makes_only i ≡ Some x → (keeping p plans f).live (pc + 1) x ≡ true

  pub wanted_one : (f pc x : ℕ) (i : FlatInstruction) → makes_only i ≡ Some x
      → (keeping p plans f).live (pc + 1) x ≡ true → IsWanted f pc i
  wanted_one f pc x i only live y e =
      let w : Some x ≡ Some y = sym only ∙ e in
      let same : x ≡ y = cc in
      subst (λ z. (keeping p plans f).live (pc + 1) z ≡ true) same live

  pub wanted_none : (f pc : ℕ) (i : FlatInstruction) → makes_only i ≡ None → IsWanted f pc i
  wanted_none f pc i always y e = let w : None ≡ Some y = sym always ∙ e in cc

  pub operator_reads : (f pc y : ℕ) (z : RightOperand) (g : FlatFunction) (i : FlatInstruction) → function_in p f
      ≡ Some g
      → instruction_at p f pc ≡ Some i
      → read_by p f i ≡ two (one y) (operand z) → IsWanted f pc i
      → ((keeping p plans f).live pc y ≡ true) × RightIsLive (keeping p plans f) pc z
  operator_reads f pc y (right.Register z) g i there at e wanted = (
    ok.reads f pc g i there at wanted y (ap (λ r. is_read r y) e ∙ rw (among_one y) refl),
    ok.reads f pc g i there at wanted z (ap (λ r. is_read r z) e ∙ rw (among_one z) (or-true (is_among (one y) z))),
  )
  operator_reads f pc y (right.Number n) g i there at e wanted =
      (ok.reads f pc g i there at wanted y (ap (λ r. is_read r y) e ∙ rw (among_one y) refl), tt)

  -- an instruction that makes nothing leaves what is kept, where registers but scratch registers stay, and of
  -- memory all
  -- but so many bytes before the records
  pub still_at : (f pc q area n : ℕ) (g : FlatFunction) (i : FlatInstruction) (s s' : State) (frames : List Frame)
      (v w : View) → function_in p f ≡ Some g → instruction_at p f pc ≡ Some i → Leads i pc q → made_by p i ≡ none
      → s'.values ≡ s.values → ((r : ℕ) → IsNoScratch r → w.registers r ≡ v.registers r)
      → area + n ≤ region_start m Calls → KeepsBut area n v.memory w.memory
      → ((a : ℕ) → IsOfFlat m a → w.memory a ≡ s'.memory a)
      → IsAt m p plans address f pc s frames v → IsAt m p plans address f q s' frames w
  still_at f pc q area n g i s s' frames v w there at leads makes values stay before keeps same h =
      let behind = record_behind m p plans address regions ok can.rooms f frames in
      moves m p plans address regions ok can.rooms f pc q s s' frames v w h
      (λ r lt. stay r (low_apart r lt))
      (before_untouched m p plans address regions ok can.rooms f frames v.memory w.memory
      (λ a low. keeps a (inr (omega arith)))) same
      (λ y live.
      let live_here = ok.rest f pc g i there at q y leads live
      (ap (λ z. is_among z y) makes ∙ among_none y) in
      kept_above (record_of m p f frames) (keeping p plans f).room area n v w ((keeping p plans f).place y)
      (omega arith) stay keeps (place_in f pc y g there live_here) ∙ h.held y live_here ∙ sym (ap (λ z. z y) values))

  -- an instruction within the block of one of the function is of compiled code just where the function is the program's
  code_address : (f pc k : ℕ) (i : FlatInstruction) → instruction_at p f pc ≡ Some i
      → k < length (block m p plans f pc i)
      → is_code_address (address f pc + 4 * k) ≡ not (is_runtime_function (function_in p f))
  code_address f pc k i at lt = by (is_runtime_function (function_in p f)) refl
    where
      by : (b : Bool) → is_runtime_function (function_in p f) ≡ b
          → is_code_address (address f pc + 4 * k) ≡ not (is_runtime_function (function_in p f))
      by true e = let before = laid.of_runtime f pc i at e in
          let low : nat_le code_begin (address f pc + 4 * k) ≡ false =
          lt-leb code_begin (address f pc + 4 * k) (omega arith) in rw (e, low) refl
      by false e = let q = laid.of_code f pc i at e in
          let low : nat_le code_begin (address f pc + 4 * k) ≡ true =
          le-leb code_begin (address f pc + 4 * k) (omega (arith, q.0)) in
          let high : nat_lt (address f pc + 4 * k) (code_begin + code_size) ≡ true =
          lt-ltb (address f pc + 4 * k) (code_begin + code_size) (omega (arith, q.1)) in rw (e, low, high) refl

  -- ---- one by one
  module _ (f pc : ℕ) (g : FlatFunction) (s s' : State) (frames : List Frame) (c : Configuration)
      (h : Meets m p plans (layout_of m table code) address f pc s frames c) (words : IsOfWords s)
      (there : function_in p f ≡ Some g) where
    frame : HasFrame (space_bytes m) (keeping p plans f).base (record_of m p f frames) (keeping p plans f).room h.view
    frame = frame_of m p plans address regions ok can.rooms f pc g s frames h.view there h.is_at

    -- a value goes to its place where it is needed behind the instruction that only makes it; else nothing is done
    value_steps : (x n : ℕ) (i : FlatInstruction) (is : List Instr) → instruction_at p f pc ≡ Some i → GoesOn i
        → Leads i pc (pc + 1) → made_by p i ≡ one x
        → block m p plans f pc i ≡ (if not ((keeping p plans f).live (pc + 1) x) then [] else is)
        → Becomes s s' (put s.values x n) s.memory s.accesses
        → ((keeping p plans f).live (pc + 1) x ≡ true
        → Puts (object_bytes m) (space_bytes m) (record_of m p f frames) (keeping p plans f).room is h.view
        ((keeping p plans f).place x) n h.view.accesses)
        → Steps f (pc + 1) s' frames c (length (block m p plans f pc i))
    value_steps x n i is at on leads makes same b puts = by ((keeping p plans f).live (pc + 1) x) refl
      where
        by : (d : Bool) → (keeping p plans f).live (pc + 1) x ≡ d
            → Steps f (pc + 1) s' frames c (length (block m p plans f pc i))
        by true live =
            let w : block m p plans f pc i ≡ is = same ∙ ap (λ z. if not z then [] else is) live in
            subst (λ z. Steps f (pc + 1) s' frames c (length z)) (sym w)
            (result_steps f pc x n g i s s' frames c is s.accesses h there at leads live makes b
            (subst (λ z. AllStand (layout_of m table code) (address f pc) z) w (laid.blocks f pc i at))
            (laid.next f pc i at on ∙ ap (λ z. address f pc + 4 * length z) w)
            (subst (λ a. Puts (object_bytes m) (space_bytes m) (record_of m p f frames) (keeping p plans f).room is
            h.view ((keeping p plans f).place x) n a) h.accesses (puts live)))
        by false dead =
            let w : block m p plans f pc i ≡ [] = same ∙ ap (λ z. if not z then [] else is) dead in
            let stays : address f (pc + 1) ≡ address f pc =
            laid.next f pc i at on ∙ ap (λ z. address f pc + 4 * length z) w ∙ omega arith in
            let go = straight_comes (layout_of m table code) fit [] c h.view tt tt h.shows in
            record {
              steps = 0;
              few = omega arith;
              after = go.after;
              is = go.is;
              meets = record {
                view = h.view;
                shows = go.shows;
                pc_is = h.pc_is ∙ sym stays;
                is_at = unneeded m p plans address regions ok can.rooms f pc x n g i s s' frames h.view there at leads
                    dead makes b.values_are b.memory_is h.is_at;
                accesses = h.accesses ∙ sym b.accesses_are;
                outside = still_shows c go.after s s' (put s.values x n) s.memory s.accesses go.stays b h.outside;
              };
            }

    pub constant_steps : (x n : ℕ) → instruction_at p f pc ≡ Some (flat.Constant x n)
        → Becomes s s' (put s.values x (low_bits 64 n)) s.memory s.accesses
        → Steps f (pc + 1) s' frames c (length (block m p plans f pc (flat.Constant x n)))
    unfolding block
    constant_steps x n at b =
        let k = keeping p plans f in
        value_steps x (low_bits 64 n) (flat.Constant x n) (local_block k.place k.base (charged_from m p f)
        (flat.Constant x n)) at tt (inl refl) refl refl b
        (λ live. constant_puts (object_bytes m) (space_bytes m) k.base (record_of m p f frames) k.room k.place
        (k.place x) (low_bits 64 n) h.view h.is_at.zero_is (omega arith) frame (place_in f (pc + 1) x g there live))

    pub move_steps : (x y : ℕ) → instruction_at p f pc ≡ Some (flat.Move x y)
        → Becomes s s' (put s.values x (s.values y)) s.memory s.accesses
        → Steps f (pc + 1) s' frames c (length (block m p plans f pc (flat.Move x y)))
    unfolding block
    move_steps x y at b =
        let k = keeping p plans f in
        let i = flat.Move x y in
        value_steps x (s.values y) i (local_block k.place k.base (charged_from m p f) i) at tt (inl refl) refl refl b
        (λ live. let y_live = ok.reads f pc g i there at (wanted_one f pc x i refl live) y (rw (among_one y) refl) in
        move_puts (object_bytes m) (space_bytes m) k.base (record_of m p f frames) k.room k.place (k.place x)
        (k.place y) (s.values y) h.view (words.values y) frame (place_in f (pc + 1) x g there live)
        (place_in f pc y g there y_live) (h.is_at.held y y_live))

    pub operate_steps : (op : RegOp) (x y : ℕ) (z : RightOperand)
        → instruction_at p f pc ≡ Some (flat.Operate op x y z)
        → Becomes s s' (put s.values x (reg_result op (s.values y) (right_value z s.values))) s.memory s.accesses
        → Steps f (pc + 1) s' frames c (length (block m p plans f pc (flat.Operate op x y z)))
    unfolding block
    operate_steps op x y z at b =
        let k = keeping p plans f in
        let i = flat.Operate op x y z in
        value_steps x (reg_result op (s.values y) (right_value z s.values)) i
        (local_block k.place k.base (charged_from m p f) i) at tt (inl refl) refl refl b
        (λ live. let reads = operator_reads f pc y z g i there at refl (wanted_one f pc x i refl live) in
        operate_puts (object_bytes m) (space_bytes m) k.base (record_of m p f frames) k.room k.place op (k.place x) y z
        h.view s.values h.is_at.zero_is frame (place_in f (pc + 1) x g there live)
        (place_in f pc y g there reads.0) (right_in f pc g z there reads.1) (h.is_at.held y reads.0)
        (right_kept f pc z s frames h.view h.is_at reads.1)
        (reg_fits op (s.values y) (right_value z s.values) (words.values y) (right_fits z s.values words.values)))

    pub operate32_steps : (op : RegOp32) (x y : ℕ) (z : RightOperand)
        → instruction_at p f pc ≡ Some (flat.Operate32 op x y z)
        → Becomes s s' (put s.values x (reg32_result op (low_word (s.values y)) (low_word (right_value z s.values))))
        s.memory s.accesses
        → Steps f (pc + 1) s' frames c (length (block m p plans f pc (flat.Operate32 op x y z)))
    unfolding block
    operate32_steps op x y z at b =
        let k = keeping p plans f in
        let i = flat.Operate32 op x y z in
        value_steps x (reg32_result op (low_word (s.values y)) (low_word (right_value z s.values))) i
        (local_block k.place k.base (charged_from m p f) i) at tt (inl refl) refl refl b
        (λ live. let reads = operator_reads f pc y z g i there at refl (wanted_one f pc x i refl live) in
        operate32_puts (object_bytes m) (space_bytes m) k.base (record_of m p f frames) k.room k.place op (k.place x) y z
        h.view s.values h.is_at.zero_is frame (place_in f (pc + 1) x g there live)
        (place_in f pc y g there reads.0) (right_in f pc g z there reads.1) (h.is_at.held y reads.0)
        (right_kept f pc z s frames h.view h.is_at reads.1)
        (reg32_fits op (low_word (s.values y)) (low_word (right_value z s.values)) (omega arith) (omega arith)))

    pub load_steps : (op : LoadOp) (x y o : ℕ) → instruction_at p f pc ≡ Some (flat.Load op x y o)
        → pc + 1 < length g.body → is_allowed m (wrap (s.values y + o)) (load_bytes op) ≡ true
        → Becomes s s' (put s.values x (extended op (load (load_bytes op) s.memory (wrap (s.values y + o))))) s.memory
        (s.accesses ++ shown_access m (is_runtime_function (function_in p f)) (wrap (s.values y + o)) (load_bytes op)
        Read)
        → Steps f (pc + 1) s' frames c (length (block m p plans f pc (flat.Load op x y o)))
    unfolding block
    load_steps op x y o at inside allowed b =
        let k = keeping p plans f in
        let i = flat.Load op x y o in
        let a = wrap (s.values y + o) in
        let size = load_bytes op in
        let n = extended op (load size s.memory a) in
        let live = ok.reads f pc g i there at (wanted_none f pc i refl) y (rw (among_one y) refl) in
        let is = block m p plans f pc i in
        let front = fetch (k.place y) k.base 5 in
        let pc' = address f pc + 4 * length front in
        let long = length-append front (Load op (used (k.place x) 5) (used (k.place y) 5) (o % 2 ^ 12)
        ∷ keep (k.place x) k.base 5) in
        let same : load size h.view.memory a ≡ load size s.memory a = stored.load_kept size s.memory h.view.memory a
        (λ j lt. h.is_at.same (a + j) (allowed_flat m a size j allowed lt)) in
        let fits : extended op (load size h.view.memory a) < 2 ^ 64 = rw same (load_fits op (load size s.memory a)
        (stored.load_fits size s.memory a words.memory)) in
        let u = load_puts (object_bytes m) (space_bytes m) k.base (record_of m p f frames) k.room k.place op (k.place x)
        y o h.view s.values pc' (can.load_offset f pc op x y o at) frame
        (made_in f pc x g i there at (inl refl) inside refl refl) (place_in f pc y g there live) (h.is_at.held y live)
        (allowed_data m regions a size allowed) fits (ap (λ q. q + 4 * length front) (sym h.pc_is)) in
        let seen : h.view.accesses ++ accesses_by pc' (Some (record { address = a; size = size; kind = Read }))
        ≡ s.accesses ++ shown_access m (is_runtime_function (function_in p f)) a size Read =
        ap (λ q. q ++ accesses_by pc' (Some (record { address = a; size = size; kind = Read }))) h.accesses
        ∙ ap (λ q. s.accesses ++ q) (access_by m regions (is_runtime_function (function_in p f)) pc' a size Read
        (code_address f pc (length front) i at (omega (arith, long))) (some_loaded op) allowed) in
        result_steps f pc x n g i s s' frames c is
        (s.accesses ++ shown_access m (is_runtime_function (function_in p f)) a size Read) h there at (inl refl)
        (made_live f pc x g i there at (inl refl) inside refl refl) refl b (laid.blocks f pc i at) (laid.next f pc i at tt)
        (subst (λ q. Puts (object_bytes m) (space_bytes m) (record_of m p f frames) k.room is h.view (k.place x) n
        q) seen
        (subst (λ q. Puts (object_bytes m) (space_bytes m) (record_of m p f frames) k.room is h.view (k.place x)
        (extended op q) (h.view.accesses ++ accesses_by pc' (Some (record { address = a; size = size; kind = Read }))))
        same u))

    pub store_steps : (op : StoreOp) (y o x : ℕ) → instruction_at p f pc ≡ Some (flat.Store op y o x)
        → is_allowed m (wrap (s.values y + o)) (store_bytes op) ≡ true
        → Becomes s s' s.values (store (store_bytes op) s.memory (wrap (s.values y + o)) (s.values x))
        (s.accesses ++ shown_access m (is_runtime_function (function_in p f)) (wrap (s.values y + o)) (store_bytes op)
        Write)
        → Steps f (pc + 1) s' frames c (length (block m p plans f pc (flat.Store op y o x)))
    unfolding block
    store_steps op y o x at allowed b =
        let k = keeping p plans f in
        let i = flat.Store op y o x in
        let a = wrap (s.values y + o) in
        let size = store_bytes op in
        let is = block m p plans f pc i in
        let front = operands k.place k.base y (right.Register x) in
        let pc' = address f pc + 4 * length front in
        let long = length-append front (Store op (used (k.place y) 5) (used (k.place x) 6) (o % 2 ^ 12) ∷ []) in
        let wanted = wanted_none f pc i refl in
        let y_live = ok.reads f pc g i there at wanted y (rw (among_one y) refl) in
        let x_live = ok.reads f pc g i there at wanted x (rw (among_one x) (or-true (is_among (one y) x))) in
        let u = store_saves (object_bytes m) (space_bytes m) k.base (record_of m p f frames) k.room k.place op x y o
        h.view s.values pc' (can.store_offset f pc op y o x at) h.is_at.zero_is frame (place_in f pc y g there y_live)
        (place_in f pc x g there x_live) (h.is_at.held y y_live) (h.is_at.held x x_live)
        (allowed_data m regions a size allowed) (ap (λ q. q + 4 * length front) (sym h.pc_is)) in
        let before = allowed_before m regions a size allowed in
        let seen : h.view.accesses ++ accesses_by pc' (Some (record { address = a; size = size; kind = Write }))
        ≡ s.accesses ++ shown_access m (is_runtime_function (function_in p f)) a size Write =
        ap (λ q. q ++ accesses_by pc' (Some (record { address = a; size = size; kind = Write }))) h.accesses
        ∙ ap (λ q. s.accesses ++ q) (access_by m regions (is_runtime_function (function_in p f)) pc' a size Write
        (code_address f pc (length front) i at (omega (arith, long))) (some_stored op) allowed) in
        let go = straight_comes (layout_of m table code) fit is c h.view
        (subst (λ q. AllStand (layout_of m table code) q is) (sym h.pc_is) (laid.blocks f pc i at)) u.go h.shows in
        record {
          steps = length is;
          few = omega arith;
          after = go.after;
          is = go.is;
          meets = record {
            view = performs is h.view;
            shows = go.shows;
            pc_is = u.pc ∙ ap (λ q. q + 4 * length is) h.pc_is ∙ sym (laid.next f pc i at tt);
            is_at = still_at f pc (pc + 1) a size g i s s' frames h.view (performs is h.view) there at (inl refl) refl
                b.values_are u.others (omega (arith, regions.arguments))
                (λ q out. ap (λ z. z q) u.memory_is ∙ stored.store_beside size h.view.memory a (s.values x) q out)
                (λ q fl. ap (λ z. z q) u.memory_is
                ∙ store_same size s.memory h.view.memory a (s.values x) q (h.is_at.same q fl)
                ∙ sym (ap (λ z. z q) b.memory_is)) h.is_at;
            accesses = u.accesses_are ∙ seen ∙ sym b.accesses_are;
            outside = still_shows c go.after s s' s.values (store size s.memory a (s.values x))
                (s.accesses ++ shown_access m (is_runtime_function (function_in p f)) a size Write) go.stays b
                h.outside;
          };
        }

    -- where nothing of the run's state changes, and the machine's scratch registers alone have
    same_steps : (q : ℕ) (i : FlatInstruction) (most : ℕ) → instruction_at p f pc ≡ Some i → Leads i pc q
        → made_by p i ≡ none → Becomes s s' s.values s.memory s.accesses
        → (n : ℕ) → n ≤ most → (w : View) → Comes (layout_of m table code) n c w → w.pc ≡ address f q
        → ((r : ℕ) → IsNoScratch r → r ≢ 31 → w.registers r ≡ h.view.registers r) → w.memory ≡ h.view.memory
        → w.accesses ≡ h.view.accesses → Steps f q s' frames c most
    same_steps q i most at leads makes b n few w go pc_is stay memory accesses = record {
      steps = n;
      few = few;
      after = go.after;
      is = go.is;
      meets = record {
        view = w;
        shows = go.shows;
        pc_is = pc_is;
        is_at =
            let behind = record_behind m p plans address regions ok can.rooms f frames in
            let low = low_apart in
            moves m p plans address regions ok can.rooms f pc q s s' frames h.view w h.is_at
            (λ r lt. stay r (low_apart r lt) (omega arith))
            (before_untouched m p plans address regions ok can.rooms f frames h.view.memory w.memory
            (λ a l. ap (λ z. z a) memory))
            (λ a fl. ap (λ z. z a) memory ∙ h.is_at.same a fl ∙ sym (ap (λ z. z a) b.memory_is))
            (λ y live.
            let live_here = ok.rest f pc g i there at q y leads live
            (ap (λ z. is_among z y) makes ∙ among_none y) in
            kept_same (record_of m p f frames) (keeping p plans f).room h.view w ((keeping p plans f).place y)
            stay memory (place_in f pc y g there live_here) ∙ h.is_at.held y live_here
            ∙ sym (ap (λ z. z y) b.values_are));
        accesses = accesses ∙ h.accesses ∙ sym b.accesses_are;
        outside = still_shows c go.after s s' s.values s.memory s.accesses go.stays b h.outside;
      };
    }

    pub jump_steps : (q : ℕ) (i : FlatInstruction) → instruction_at p f pc ≡ Some i → Leads i pc q
        → made_by p i ≡ none → Becomes s s' s.values s.memory s.accesses
        → JumpStands (layout_of m table code) (address f pc) (address f q) → Steps f q s' frames c 2
    jump_steps q i at leads makes b t =
        let j = jumps (layout_of m table code) fit t.form t.begin t.p t.t c h.view (h.pc_is ∙ t.from_is) t.begin_low
        t.begin_whole t.p_low t.t_low t.reach
        (subst (λ z. AllStand (layout_of m table code) z (jump_instrs t.form 0 t.p t.t)) (sym h.pc_is) t.stands)
        h.shows in
        same_steps q i 2 at leads makes b j.steps j.few j.view j.comes (j.pc ∙ sym t.to_is) (λ r no far. j.others r far)
        j.memory j.accesses

    -- a jump to the next instruction
    pub next_steps : instruction_at p f pc ≡ Some (flat.JumpForward zero) → Becomes s s' s.values s.memory s.accesses
        → Steps f (pc + 1 + zero) s' frames c 0
    unfolding block
    next_steps at b =
        let i = flat.JumpForward zero in
        let same : pc + 1 ≡ pc + 1 + zero = omega arith in
        let none : address f pc ≡ address f pc + 4 * length (block m p plans f pc i) = omega arith in
        let go = straight_comes (layout_of m table code) fit [] c h.view tt tt h.shows in
        same_steps (pc + 1 + zero) i 0 at (inl refl) refl b 0 (omega arith) h.view go
        (h.pc_is ∙ none ∙ sym (laid.next f pc i at tt) ∙ ap (address f) same) (λ r no far. refl) refl refl

    pub turn_steps : instruction_at p f pc ≡ Some flat.Turn → Becomes s s' s.values s.memory s.accesses
        → Steps f (pc + 1) s' frames c (length (block m p plans f pc flat.Turn))
    unfolding block
    turn_steps at b =
        let is = block m p plans f pc flat.Turn in
        let go = straight_comes (layout_of m table code) fit is c h.view
        (subst (λ q. AllStand (layout_of m table code) q is) (sym h.pc_is) (laid.blocks f pc flat.Turn at)) (tt, tt)
        h.shows in
        same_steps (pc + 1) flat.Turn (length is) at (inl refl) refl b 1 (omega arith) (performs is h.view) go
        (ap (λ q. q + 4) h.pc_is ∙ sym (laid.next f pc flat.Turn at tt)) (λ r no far. refl) refl
        (no_access h.view.accesses h.view.pc)

    pub branch_steps : (op : BranchOp) (y : ℕ) (z : RightOperand) (past : ℕ)
        → instruction_at p f pc ≡ Some (flat.Branch op y z past) → Becomes s s' s.values s.memory s.accesses
        → Steps f (if branch_taken op (s.values y) (right_value z s.values) then pc + 1 + past else pc + 1) s' frames c
        (length (block m p plans f pc (flat.Branch op y z past)) + 3)
    unfolding block
    branch_steps op y z past at b =
        let k = keeping p plans f in
        let i = flat.Branch op y z past in
        let l = layout_of m table code in
        let is = operands k.place k.base y z in
        let live = operator_reads f pc y z g i there at refl (wanted_none f pc i refl) in
        let u = has_operands (object_bytes m) (space_bytes m) k.base (record_of m p f frames) k.room k.place y z h.view
        s.values h.is_at.zero_is frame (place_in f pc y g there live.0) (right_in f pc g z there live.1)
        (h.is_at.held y live.0) (right_kept f pc z s frames h.view h.is_at live.1) in
        let go = straight_comes l fit is c h.view
        (subst (λ q. AllStand l q is) (sym h.pc_is) (laid.blocks f pc i at)) u.ready.go h.shows in
        let w = performs is h.view in
        let t = laid.branch f pc op y z past at in
        let a = used (k.place y) 5 in
        let e = used_right k.place z in
        let w_pc : w.pc ≡ address f pc + 4 * length is = u.ready.pc ∙ ap (λ q. q + 4 * length is) h.pc_is in
        let j = branches l fit t.form op a e t.begin t.p t.t go.after w (w_pc ∙ t.from_is) t.begin_low t.begin_whole
        t.p_low t.t_low t.reach (subst (λ q. AllStand l q (branch_instrs t.form op a e t.p t.t)) (sym w_pc) t.stands)
        go.shows in
        let same : branch_taken op (w.registers a) (w.registers e)
        ≡ branch_taken op (s.values y) (right_value z s.values) =
        ap (λ q. branch_taken op q (w.registers e)) u.left ∙ ap (branch_taken op (s.values y)) u.right_is in
        let target : j.view.pc ≡ (if branch_taken op (s.values y) (right_value z s.values) then address f (pc + 1 +
        past)
        else address f (pc + 1)) =
        j.pc ∙ ap (λ q. if q then t.begin + 4 * t.t else w.pc + 4 * branch_size t.form) same
        ∙ ap (λ q. if branch_taken op (s.values y) (right_value z s.values) then q else w.pc + 4 * branch_size t.form)
        (sym t.to_is)
        ∙ ap (λ q. if branch_taken op (s.values y) (right_value z s.values) then address f (pc + 1 + past) else q)
        (ap (λ q. q + 4 * branch_size t.form) w_pc ∙ sym t.next_is) in
        let all = then_comes l (length is) j.steps c w j.view go j.comes in
        let n : j.steps + length is ≤ length is + 3 = omega (arith, j.few) in
        choose (branch_taken op (s.values y) (right_value z s.values)) (pc + 1 + past) (pc + 1) (length is + 3) target
        (λ q leads at_q. same_steps q i (length is + 3) at leads refl b (j.steps + length is) n j.view all at_q
        (λ r free far. j.others r far ∙ u.ready.others r free) (j.memory ∙ u.ready.memory)
        (j.accesses ∙ u.ready.accesses)) (inr refl) (inl refl)
      where
        choose : (d : Bool) (yes_to no_to most : ℕ) {v : ℕ}
            → v ≡ (if d then address f yes_to else address f no_to)
            → ((q : ℕ) → Leads (flat.Branch op y z past) pc q → v ≡ address f q → Steps f q s' frames c most)
            → Leads (flat.Branch op y z past) pc yes_to → Leads (flat.Branch op y z past) pc no_to
            → Steps f (if d then yes_to else no_to) s' frames c most
        choose true yes_to no_to most e step l1 l2 = step yes_to l1 e
        choose false yes_to no_to most e step l1 l2 = step no_to l2 e

    pub charged_steps : (x : ℕ) → instruction_at p f pc ≡ Some (flat.Charged x)
        → Becomes s s' (put s.values x (wrap (charged p f frames))) s.memory s.accesses
        → Steps f (pc + 1) s' frames c (length (block m p plans f pc (flat.Charged x)))
    unfolding block
    charged_steps x at b =
        let k = keeping p plans f in
        let i = flat.Charged x in
        let is = local_block k.place k.base (charged_from m p f) i in
        let begin = charged_from m p f in
        let top = top_of m p false frames in
        let fits = h.is_at.program_fits in
        let calls_low : 2 ^ 30 ≤ region_start m Calls =
        omega (arith, regions.cells_low, regions.cells, regions.arguments) in
        let room_low : 2 * room_if false (function_in p f) ≤ region_start m Calls =
        omega (arith, regions.calls, regions.end) in
        let same : (top - begin) / 2 ≡ charged p f frames = omega arith in
        let small : wrap (charged p f frames) ≡ charged p f frames = omega (arith, regions.calls, regions.end) in
        value_steps x (wrap (charged p f frames)) i is at tt (inl refl) refl refl b
        (λ live. subst (λ n. Puts (object_bytes m) (space_bytes m) (record_of m p f frames) k.room is h.view (k.place x)
        n h.view.accesses) (same ∙ sym small)
        (charged_puts (object_bytes m) (space_bytes m) k.base (record_of m p f frames) k.room k.place (k.place x)
        begin top h.view h.is_at.zero_is (omega (arith, regions.calls, regions.end)) h.is_at.program_top (omega arith)
        (omega (arith, regions.calls, regions.end)) frame (place_in f (pc + 1) x g there live)))

    pub turn_takes_one : (at : instruction_at p f pc ≡ Some flat.Turn) (b : Becomes s s' s.values s.memory s.accesses)
        → (turn_steps at b).steps ≡ 1
    unfolding turn_steps same_steps
    turn_takes_one at b = refl
