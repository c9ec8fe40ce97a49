-- The records that wait, and what the machine's registers and memory keep.
use Rattle.std.proofs.Common.{◌≡◌, ◌≢◌, ℕ, ◌+◌, ◌-◌, ◌*◌, ◌<◌, ◌≤◌, inl, inr, refl, sym, ap, ◌∙◌}
use Rattle.std.proofs.Common.{arith, ⊎_elim, Bool, true, false, true≢false, List, [], ◌∷◌, Option, Some, None}
use Rattle.std.specs.Prelude.{slice_get, if◌then◌else◌, nat_le, nat_lt}
use Rattle.std.proofs.lemmas.Bool.{cases_eq, and_parts, leb-true, ltb-true, le-leb, lt-ltb, cases_Bool}
use Rattle.addr_map.specs.Places.{MapSizes, region_start}
use Rattle.addr_map.specs.declared.region.Region.TheVariants.{Calls, RuntimeCalls}
use Rattle.behaviours.specs.Shown.{Access}
use Rattle.rv_isa.specs.declared.instruction.Instr.{Instr}
use Rattle.flat_code.specs.declared.instruction.FlatInstruction.{FlatInstruction}
use Rattle.flat_code.specs.declared.function.FlatFunction.{FlatFunction}
use Rattle.flat_code.specs.declared.function.FlatProgram.{FlatProgram}
use Rattle.flat_code.specs.Memory.{Bytes, put, KeepsBut}
use Rattle.flat_code.specs.State.{State, Frame}
use Rattle.flat_code.specs.Calls.{function_in, room_if, rooms}
use Rattle.flat_code.specs.Meaning.{instruction_at, body_of, is_runtime_function}
use Rattle.flat_code.proofs.Stored.{put_same, put_other, load_kept}
use Rattle.reg_plan.specs.declared.plan.FunctionPlan.{FunctionPlan}
use Rattle.reg_plan.specs.Effects.{made_by, is_among, one, Leads}
use Rattle.machine_laws.specs.View.Views.{View, performs}
use Rattle.machine_laws.specs.Blocks.Effects.{kept, Puts, HasFrame}
use Rattle.machine_laws.specs.Following.Code.{keeping}
use Rattle.machine_laws.specs.Following.Matching.{space_bytes, IsOfFlat, top_of, record_of, Wait, IsAt}
use Rattle.machine_laws.proofs.Following.Regions.{AreRegions, flat_before}
use Rattle.machine_laws.proofs.Following.Sound.{IsSound}

-- where an instruction stands there is a function
pub function_there : (p : FlatProgram) (f pc : ℕ) (i : FlatInstruction) → instruction_at p f pc ≡ Some i
    → (g : FlatFunction) × (function_in p f ≡ Some g)
function_there p f pc i at = by (function_in p f) refl
  where
    by : (o : Option FlatFunction) → function_in p f ≡ o → (g : FlatFunction) × (function_in p f ≡ Some g)
    by None e = let none : slice_get (body_of None) pc ≡ Some i =
        sym (ap (λ o. slice_get (body_of o) pc) e) ∙ at in cc
    by (Some g) e = (g, e)

-- a register is among those that are it alone
pub among_one : (z : ℕ) → is_among (one z) z ≡ true
among_one z = rw (le-leb z z (omega arith), lt-ltb z (z + 1) (omega arith)) refl

pub among_other : (z y : ℕ) → y ≢ z → is_among (one z) y ≡ false
among_other z y ne = ⊎_elim
    (λ e. let q = and_parts (nat_le z y) (nat_lt y (z + 1)) e in
    let a = leb-true z y q.0 in let b = ltb-true y (z + 1) q.1 in absurd (ne (omega arith)))
    (λ e. e) (cases_Bool (is_among (one z) y))

module _ (m : MapSizes) (p : FlatProgram) (plans : List FunctionPlan) (address : (function pc : ℕ) → ℕ)
    (regions : AreRegions m) (ok : IsSound p plans)
    (some : (f : ℕ) (g : FlatFunction) → function_in p f ≡ Some g → 8 ≤ g.room) where
  -- what the kind of a function says: its record is of the program or of the runtime
  pub record IsKind (f : ℕ) (g : FlatFunction) (b : Bool) : Type 0 where
    pub there : function_in p f ≡ Some g
    pub is : g.is_runtime ≡ b
    pub base : (keeping p plans f).base ≡ (if b then 4 else 2)
    pub record_is : (frames : List Frame) → record_of m p f frames ≡ top_of m p b frames
    pub program : room_if false (function_in p f) ≡ (if b then 0 else g.room)
    pub runtime : room_if true (function_in p f) ≡ (if b then g.room else 0)
    pub bytes : (keeping p plans f).room ≡ (if b then g.room else 2 * g.room)

  pub kind : (f : ℕ) (g : FlatFunction) (b : Bool) → function_in p f ≡ Some g → g.is_runtime ≡ b → IsKind f g b
  kind f g b there e = record {
    there = there;
    is = e;
    base = ok.base f g there ∙ ap (λ c. if c then 4 else 2) e;
    record_is = λ frames. ap (λ o. top_of m p (is_runtime_function o) frames) there
        ∙ ap (λ c. top_of m p c frames) e;
    program = ap (room_if false) there ∙ ap (λ c. if c then 0 else g.room) e;
    runtime = ap (room_if true) there ∙ ap (λ c. if c then g.room else 0) e;
    bytes = ok.room f g there ∙ ap (λ c. if c then g.room else 2 * g.room) e;
  }

  -- ---- the record of the function that runs

  frame_by : (b : Bool) (f pc : ℕ) (g : FlatFunction) (s : State) (frames : List Frame) (v : View) → IsKind f g b
      → IsAt m p plans address f pc s frames v
      → HasFrame (space_bytes m) (keeping p plans f).base (record_of m p f frames) (keeping p plans f).room v
  frame_by false f pc g s frames v k h = record {
    is = ap v.registers k.base ∙ h.program_top ∙ sym (k.record_is frames);
    base_low = omega (arith, k.base);
    base_high = omega (arith, k.base);
    low = omega (arith, k.record_is frames, regions.cells_low, regions.cells, regions.arguments);
    high = omega (
      arith,
      k.record_is frames,
      k.program,
      h.program_fits,
      k.bytes,
      regions.calls,
      regions.space,
    );
    small = omega (arith, regions.space, regions.end);
  }
  frame_by true f pc g s frames v k h = record {
    is = ap v.registers k.base ∙ h.runtime_top ∙ sym (k.record_is frames);
    base_low = omega (arith, k.base);
    base_high = omega (arith, k.base);
    low = omega (arith, k.record_is frames, regions.cells_low, regions.cells, regions.arguments, regions.calls);
    high = omega (arith, k.record_is frames, k.runtime, h.runtime_fits, k.bytes, regions.space);
    small = omega (arith, regions.space, regions.end);
  }

  pub frame_of : (f pc : ℕ) (g : FlatFunction) (s : State) (frames : List Frame) (v : View) → function_in p f ≡ Some g
      → IsAt m p plans address f pc s frames v
      → HasFrame (space_bytes m) (keeping p plans f).base (record_of m p f frames) (keeping p plans f).room v
  frame_of f pc g s frames v there h = frame_by g.is_runtime f pc g s frames v (kind f g g.is_runtime there refl) h

  pub record_behind : (f : ℕ) (frames : List Frame) → region_start m Calls ≤ record_of m p f frames
  record_behind f frames = by (is_runtime_function (function_in p f))
    where
      by : (b : Bool) → region_start m Calls ≤ top_of m p b frames
      by false = omega arith
      by true = omega (arith, regions.calls)

  -- ---- the records that wait

  -- the bytes of the records that wait, and the first word of the one that runs
  pub record Untouched (f : ℕ) (frames : List Frame) (old new : Bytes) : Type 0 where
    pub program : (a : ℕ) → region_start m Calls ≤ a → a < top_of m p false frames → new a ≡ old a
    pub runtime : (a : ℕ) → region_start m RuntimeCalls ≤ a → a < top_of m p true frames
        → new a ≡ old a
    pub first : (a : ℕ) → record_of m p f frames ≤ a → a < record_of m p f frames + 8 → new a ≡ old a

  -- those of the record that waits last
  own_by : (b : Bool) (x : Frame) (xs : List Frame) (f : ℕ) (g : FlatFunction) (old new : Bytes)
      → IsKind x.function g b → Untouched f (x ∷ xs) old new → (a : ℕ) → record_of m p x.function xs ≤ a
      → a < record_of m p x.function xs + (keeping p plans x.function).room → new a ≡ old a
  unfolding rooms
  own_by false x xs f g old new k u a low high =
      u.program a (omega (arith, k.record_is xs)) (omega (arith, k.record_is xs, k.program, k.bytes))
  own_by true x xs f g old new k u a low high =
      u.runtime a (omega (arith, k.record_is xs)) (omega (arith, k.record_is xs, k.runtime, k.bytes))

  less_by : (x : Frame) (xs : List Frame) (f : ℕ) (g : FlatFunction) (old new : Bytes)
      → function_in p x.function ≡ Some g → Untouched f (x ∷ xs) old new → Untouched x.function xs old new
  unfolding rooms
  less_by x xs f g old new there u = record {
    program = λ a low high. u.program a low (omega arith);
    runtime = λ a low high. u.runtime a low (omega arith);
    first = λ a low high. let big = some x.function g there in let room = ok.charged_room x.function g there in
        own_by g.is_runtime x xs f g old new (kind x.function g g.is_runtime there refl) u a low (omega arith);
  }

  pub wait_same : (frames : List Frame) (f : ℕ) (old new : Bytes) → Untouched f frames old new
      → Wait m p plans address f frames old → Wait m p plans address f frames new
  wait_same [] f old new u w = tt
  wait_same (x ∷ xs) f old new u w =
      let h = w.0 in
      let there = function_there p x.function h.place h.call h.at in
      let g = there.0 in
      let own = own_by g.is_runtime x xs f g old new (kind x.function g g.is_runtime there.1 refl) u in (
        record {
          place = h.place;
          next_is = h.next_is;
          call = h.call;
          at = h.at;
          shape = h.shape;
          shape_is = h.shape_is;
          into_is = h.into_is;
          results_are = h.results_are;
          returns = load_kept 8 old new (record_of m p f (x ∷ xs)) (λ i lt. u.first (record_of m p f (x ∷ xs) + i)
              (omega arith) (omega arith)) ∙ h.returns;
          held = λ y live other.
              let is_kept = ok.kept x.function x.next g there.1 in
              let low = is_kept.low y live in
              let high = is_kept.high y live in
              load_kept 8 old new (record_of m p x.function xs + (keeping p plans x.function).home y)
              (λ i lt. own (record_of m p x.function xs + (keeping p plans x.function).home y + i)
              (omega arith) (omega arith)) ∙ h.held y live other;
        },
        wait_same xs x.function old new (less_by x xs f g old new there.1 u) w.1,
      )

  -- what changes in the homes of the record that runs, or before all records, touches none of them
  homes_by : (b : Bool) (f pc : ℕ) (g : FlatFunction) (s : State) (frames : List Frame) (v : View) (new : Bytes)
      → IsKind f g b → IsAt m p plans address f pc s frames v
      → KeepsBut (record_of m p f frames + 8) ((keeping p plans f).room - 8) v.memory new
      → Untouched f frames v.memory new
  homes_by false f pc g s frames v new k h keeps = record {
    program = λ a low high. keeps a (inl (omega (arith, k.record_is frames)));
    runtime = λ a low high. let big = some f g k.there in
        keeps a (inr (omega (
          arith,
          k.record_is frames,
          k.program,
          h.program_fits,
          k.bytes,
          regions.calls,
        )));
    first = λ a low high. keeps a (inl (omega arith));
  }
  homes_by true f pc g s frames v new k h keeps = record {
    program = λ a low high.
        keeps a (inl (omega (arith, k.record_is frames, k.program, h.program_fits, regions.calls)));
    runtime = λ a low high. keeps a (inl (omega (arith, k.record_is frames)));
    first = λ a low high. keeps a (inl (omega arith));
  }

  pub homes_untouched : (f pc : ℕ) (g : FlatFunction) (s : State) (frames : List Frame) (v : View) (new : Bytes)
      → function_in p f ≡ Some g → IsAt m p plans address f pc s frames v
      → KeepsBut (record_of m p f frames + 8) ((keeping p plans f).room - 8) v.memory new
      → Untouched f frames v.memory new
  homes_untouched f pc g s frames v new there h keeps =
      homes_by g.is_runtime f pc g s frames v new (kind f g g.is_runtime there refl) h keeps

  pub before_untouched : (f : ℕ) (frames : List Frame) (old new : Bytes)
      → ((a : ℕ) → region_start m Calls ≤ a → new a ≡ old a) → Untouched f frames old new
  before_untouched f frames old new keeps = record {
    program = λ a low high. keeps a low;
    runtime = λ a low high. keeps a (omega (arith, regions.calls));
    first = λ a low high. let b = record_behind f frames in keeps a (omega arith);
  }

  -- ---- on to another instruction of the function

  pub moves : (f pc q : ℕ) (s s' : State) (frames : List Frame) (v w : View)
      → IsAt m p plans address f pc s frames v
      → ((r : ℕ) → r < 5 → w.registers r ≡ v.registers r)
      → Untouched f frames v.memory w.memory
      → ((a : ℕ) → IsOfFlat m a → w.memory a ≡ s'.memory a)
      → ((y : ℕ) → (keeping p plans f).live q y ≡ true
      → kept (record_of m p f frames) w ((keeping p plans f).place y) ≡ s'.values y)
      → IsAt m p plans address f q s' frames w
  moves f pc q s s' frames v w h low u same held = record {
    zero_is = low 0 (omega arith) ∙ h.zero_is;
    program_top = low 2 (omega arith) ∙ h.program_top;
    arguments = low 3 (omega arith) ∙ h.arguments;
    runtime_top = low 4 (omega arith) ∙ h.runtime_top;
    program_fits = h.program_fits;
    runtime_fits = h.runtime_fits;
    held = held;
    same = same;
    wait = wait_same frames f v.memory w.memory u h.wait;
  }

  -- a value is made that is needed, and goes to its place
  pub made : (f pc x n : ℕ) (g : FlatFunction) (i : FlatInstruction) (s s' : State) (frames : List Frame) (v : View)
      (is : List Instr) (o : ℕ) (accesses : List Access) → function_in p f ≡ Some g → instruction_at p f pc ≡ Some i
      → Leads i pc (pc + 1) → (keeping p plans f).live (pc + 1) x ≡ true → made_by p i ≡ one x
      → s'.values ≡ put s.values x n → s'.memory ≡ s.memory
      → Puts o (space_bytes m) (record_of m p f frames) (keeping p plans f).room is v ((keeping p plans f).place x) n
      accesses
      → IsAt m p plans address f pc s frames v → IsAt m p plans address f (pc + 1) s' frames (performs is v)
  made f pc x n g i s s' frames v is o accesses there at leads x_live makes values memory u h =
      let k = keeping p plans f in
      let fp = record_of m p f frames in
      let behind = record_behind f frames in
      let kept_next = ok.kept f (pc + 1) g there in
      let kept_here = ok.kept f pc g there in
      moves f pc (pc + 1) s s' frames v (performs is v) h u.low
      (homes_untouched f pc g s frames v (performs is v).memory there h u.memory)
      (λ a fl. let b = flat_before m regions a fl in
      u.memory a (inl (omega (arith, regions.arguments))) ∙ h.same a fl ∙ sym (ap (λ z. z a) memory))
      (λ y live. ⊎_elim
      (λ e. ap (λ z. kept fp (performs is v) (k.place z)) e ∙ u.value
      ∙ sym (ap (λ z. z y) values ∙ ap (put s.values x n) e ∙ put_same s.values x n))
      (λ ne.
      let live_here = ok.rest f pc g i there at (pc + 1) y leads live
      (ap (λ q. is_among q y) makes ∙ among_other x y ne) in
      u.others (k.place y) (kept_here.inside y live_here) (kept_next.apart y x live x_live ne)
      ∙ h.held y live_here ∙ sym (ap (λ z. z y) values ∙ put_other s.values x n y ne))
      (cases_eq y x))

  -- a value is made that is not needed: nothing is done
  pub unneeded : (f pc x n : ℕ) (g : FlatFunction) (i : FlatInstruction) (s s' : State) (frames : List Frame) (v : View)
      → function_in p f ≡ Some g → instruction_at p f pc ≡ Some i → Leads i pc (pc + 1)
      → (keeping p plans f).live (pc + 1) x ≡ false → made_by p i ≡ one x
      → s'.values ≡ put s.values x n → s'.memory ≡ s.memory
      → IsAt m p plans address f pc s frames v → IsAt m p plans address f (pc + 1) s' frames v
  unneeded f pc x n g i s s' frames v there at leads dead makes values memory h =
      let k = keeping p plans f in
      let behind = record_behind f frames in
      moves f pc (pc + 1) s s' frames v v h (λ r lt. refl)
      (before_untouched f frames v.memory v.memory (λ a low. refl))
      (λ a fl. h.same a fl ∙ sym (ap (λ z. z a) memory))
      (λ y live. ⊎_elim
      (λ e. absurd (true≢false (sym live ∙ ap (k.live (pc + 1)) e ∙ dead)))
      (λ ne. h.held y (ok.rest f pc g i there at (pc + 1) y leads live
      (ap (λ q. is_among q y) makes ∙ among_other x y ne)) ∙ sym (ap (λ z. z y) values ∙ put_other s.values x n y ne))
      (cases_eq y x))
