-- The functions on areas do what the source does with contents.
use Rattle.std.proofs.Common.{◌≡◌, ℕ, ◌+◌, ◌*◌, ◌<◌, ◌≤◌, ◌⊎◌, Bool, true, List, Option, Some, None}
use Rattle.std.proofs.Common.{sym, ap, ◌∙◌, subst, arith}
use Rattle.std.proofs.lemmas.Nat.{mul-le}
use Rattle.addr_map.specs.Places.{MapSizes}
use Rattle.obj_memory.specs.declared.value.Value.{Value}
use Rattle.obj_memory.specs.Objects.{ObjectState}
use Rattle.obj_memory.specs.Sound.{DoNotMeet}
use Rattle.c_tree.specs.declared.expression.Kind.TheVariants.{Structure}
use Rattle.source_meaning.specs.State.{State as Source, Outcome as Completed, Gives, Ended, Paused, Rvalue, Run, on}
use Rattle.source_meaning.specs.Actions.{integer, place_or_stop}
use Rattle.source_meaning.specs.Structures.{taken, make_zero, put_contents}
use Rattle.flat_code.specs.declared.instruction.FlatInstruction.{FlatInstruction}
use Rattle.flat_code.specs.declared.function.FlatFunction.{FlatFunction}
use Rattle.flat_code.specs.declared.function.FlatProgram.{FlatProgram}
use Rattle.flat_code.specs.Memory.{Bytes, KeepsBut}
use Rattle.flat_code.specs.State.{State, Stage}
use Rattle.flat_code.specs.Routines.InputOutput.{IsWithoutInputOutput}
use Rattle.flat_code.specs.Routines.Routine.{Outcome, Continues, Halts, Does}
use Rattle.flat_code.specs.Routines.Laws.{work_of as work_left, report_length}
use Rattle.flat_code.specs.Routines.Metadata.{View}
use Rattle.flat_code.specs.Routines.Objects.StandsFor.{Views, Keys}
use Rattle.flat_actions.specs.Actions.{views_of, IsFor, Nowhere, Leaves}
use Rattle.lib_wrappers.specs.AreaRoutines.Areas.{IsAreaPlace, IsArea, HoldsPart, area_bytes}
use Rattle.lib_wrappers.specs.AreaRoutines.Zeroing.{IsToZeroArea}
use Rattle.lib_wrappers.specs.AreaRoutines.Values.{GivesArea, LeavesArea, work_from, IsToTakePlace, IsTakeRoutine}
use Rattle.lib_wrappers.specs.AreaRoutines.Values.{IsMakeZeroRoutine, IsToPutPlace, putting, IsPutRoutine}
use Rattle.lib_wrappers.specs.AreaRoutines.Parts.{IsToTakePart, IsTakePartRoutine}
use Rattle.runtime_functions.specs.Calls.{CallSite, begins_in, CallsRuntime, HasReturned, IsCalled}
use Rattle.runtime_functions.specs.Library.{held_from}
use Rattle.runtime_functions.specs.Actions.{price_of, work_of_call, IsServed}
use Rattle.runtime_functions.specs.Areas.{IsAtCall, HasContentsBehind, IsAreaServed, ServesArea, placing_steps}
use Rattle.runtime_functions.specs.Areas.{ServesPlace}
use Rattle.runtime_functions.proofs.Actions.{serves_in_runtime, begins_for, argument_at, status_is_zero, memory_is}
use Rattle.runtime_functions.proofs.Actions.{returned_for, behind, went_on}
use Rattle.runtime_functions.proofs.LibraryCalls.{price_alone}

-- ---- contents are left in an area

-- a routine that leaves contents in the area at which the first of its registers points
module _ (m : MapSizes) (p : FlatProgram) (s : CallSite) (fn : FlatFunction) (r : List FlatInstruction) (a : ℕ)
    (alone : IsWithoutInputOutput r) (h : CallsRuntime m p s fn r a 0) (some : 0 < a) (g : Views) (k : Keys) (IsGood : Bytes → Type 0) (x : Source)
    (run : Run Rvalue) (scratch constant factor : ℕ) (own : a + 1 ≤ scratch) where
  abbrev f : State
  f = begins_in s a

  abbrev steps : ℕ
  steps = constant + factor * work_from run x

  abbrev cost : ℕ
  cost = work_of_call a 0 1 steps

  begins_at : f.values 0 ≡ s.state.values s.first
  begins_at = argument_at s a 0 s.first some (omega arith)

  left : (c : Option ObjectState) (x' : Source) (z : State) (stage : Stage)
      → GivesArea g k IsGood (f.values 0) scratch c f x' z → HasReturned s a 0 (z.values a) z stage
      → z.work ≤ f.work + (1 * steps + 0)
      → HasContentsBehind g k IsGood s cost (s.state.values s.first) c x' stage
  left None x' z stage l back w = absurd l
  left (Some c) x' z stage l back w =
      let memory = memory_is s a 0 (z.values a) z stage back in
      record {
        behind = behind s a 0 (z.values a) z stage back cost l.turns (omega arith);
        status = back.status_is ∙ l.others a (omega arith) tt ∙ status_is_zero s a;
        stands = returned_for s a 0 (z.values a) z stage back g k IsGood x' l.stands;
        area = subst (λ q. IsArea g k c q back.after.memory) begins_at
            (subst (IsArea g k c (f.values 0)) (sym memory) l.area);
        beside = subst (λ q. KeepsBut q (area_bytes c.size) s.state.memory back.after.memory) begins_at
            (subst (KeepsBut (f.values 0) (area_bytes c.size) s.state.memory) (sym memory) l.beside);
      }

  by_outcome : (o : Completed Rvalue) (out : Outcome) (stage : Stage)
      → LeavesArea g k IsGood (f.values 0) scratch f o out
      → work_left out ≤ f.work + (1 * steps + report_length out) → IsCalled s a 0 out stage
      → IsAreaServed g k IsGood s cost (s.state.values s.first) o stage
  by_outcome (Gives v x') (Continues z) stage l w called = left v.contents x' z stage l called w
  by_outcome (Gives v x') (Halts status report z) stage l w called = absurd l
  by_outcome (Ended e x') out stage l w called = absurd l
  by_outcome (Paused x') out stage l w called = absurd l

  area_served : (P : State → Type 0)
      → ((charge weight : ℕ)
      → Does (record { sizes = m; is_runtime = true; charge = charge; weight = weight }) r P (λ f. steps)
      (λ f. LeavesArea g k IsGood (f.values 0) scratch f (run x)))
      → IsAtCall g k IsGood s x → P f → ServesArea m p g k IsGood s a constant factor x run
  area_served P does ready holds =
      let t = serves_in_runtime m p s fn r a 0 h P (λ f. steps)
      (λ f. LeavesArea g k IsGood (f.values 0) scratch f (run x)) does ready.words holds in
      let work = t.work in
      let price : price_of r * steps ≤ 1 * steps = mul-le _ _ _ _ (price_alone r alone) (omega arith) in
      record {
        steps = t.comes.steps;
        within = t.comes.within;
        stage = t.comes.stage;
        comes = t.comes.comes;
        holds = by_outcome (run x) t.outcome t.comes.stage t.holds (omega arith) t.comes.called;
      }

-- ---- each of them

module _ (m : MapSizes) (entry : View) (IsGood : Bytes → Type 0) (p : FlatProgram) (s : CallSite) (fn : FlatFunction)
    (r : List FlatInstruction) (alone : IsWithoutInputOutput r) (functions : ℕ) (types : ℕ → ℕ) (k : Keys) (x : Source)
  where
    abbrev g : Views
    g = views_of m functions types entry

    -- where a function of so many parameters begins, its registers hold the caller's
    at : (a : ℕ) → 0 < a → (begins_in s a).values 0 ≡ s.state.values s.first
    at a some = argument_at s a 0 s.first some (omega arith)

    place_at : (a n : ℕ) → 0 < a → IsAreaPlace m n (s.state.values s.first)
        → IsAreaPlace m n ((begins_in s a).values 0)
    place_at a n some q = subst (IsAreaPlace m n) (sym (at a some)) q

    -- a part in the five registers from the third on
    part_at : (size offset a : ℕ) → HoldsPart (held_from (s.first + 2)) size offset a s.state.values
        → HoldsPart (held_from 2) size offset a (begins_in s 7).values
    part_at size offset a q = record {
      part = argument_at s 7 2 (s.first + 2) (omega arith) (omega arith) ∙ q.part;
      base = argument_at s 7 3 (s.first + 2 + 1) (omega arith) (omega arith) ∙ q.base;
      bound = argument_at s 7 4 (s.first + 2 + 2) (omega arith) (omega arith) ∙ q.bound;
      no_lock = argument_at s 7 6 (s.first + 2 + 4) (omega arith) (omega arith) ∙ q.no_lock;
    }

    pub zero_served : CallsRuntime m p s fn r 2 0 → IsMakeZeroRoutine m entry IsGood 0 1 3 r → (size : ℕ)
        → IsAtCall g k IsGood s x → IsToZeroArea m s.first (s.first + 1) size s.state
        → ServesArea m p g k IsGood s 2 16 5 x (make_zero (Structure size))
    zero_served h does size ready q =
        area_served m p s fn r 2 alone h (omega arith) g k IsGood x (make_zero (Structure size)) 3 16 5 (omega arith)
        (λ f. IsFor g k IsGood x f × IsToZeroArea m 0 1 size f) (does functions types k x size) ready (
          begins_for s 2 g k IsGood x ready.stands,
          record {
            size_is = argument_at s 2 1 (s.first + 1) (omega arith) (omega arith) ∙ q.size_is;
            place = place_at 2 size (omega arith) q.place;
          },
        )

    pub take_served : CallsRuntime m p s fn r 3 0 → IsTakeRoutine m entry IsGood 0 1 2 4 r → (v : Value) (size line : ℕ)
        → IsAtCall g k IsGood s x → IsToTakePlace m x v size s.first (s.first + 1) (s.first + 2) s.state
        → ServesArea m p g k IsGood s 3 48 16 x (taken None size v line)
    take_served h does v size line ready q =
        area_served m p s fn r 3 alone h (omega arith) g k IsGood x (taken None size v line) 4 48 16 (omega arith)
        (λ f. IsFor g k IsGood x f × IsToTakePlace m x v size 0 1 2 f) (does functions types k x v size line) ready (
          begins_for s 3 g k IsGood x ready.stands,
          record {
            word = argument_at s 3 1 (s.first + 1) (omega arith) (omega arith) ∙ q.word;
            size_is = argument_at s 3 2 (s.first + 2) (omega arith) (omega arith) ∙ q.size_is;
            place = place_at 3 size (omega arith) q.place;
            direct = q.direct;
          },
        )

    pub move_served : CallsRuntime m p s fn r 7 0 → IsTakePartRoutine m entry IsGood 0 (held_from 2) 1 8 r
        → (c : ObjectState) (v : Value) (size line a : ℕ) → IsAtCall g k IsGood s x
        → IsToTakePart g k x c v.word size a s.first (held_from (s.first + 2)) (s.first + 1) s.state
        → ServesArea m p g k IsGood s 7 40 13 x (taken (Some c) size v line)
    move_served h does c v size line a ready q =
        area_served m p s fn r 7 alone h (omega arith) g k IsGood x (taken (Some c) size v line) 8 40 13 (omega arith)
        (λ f. IsFor g k IsGood x f × IsToTakePart g k x c v.word size a 0 (held_from 2) 1 f)
        (does functions types k x c v size line a) ready (
          begins_for s 7 g k IsGood x ready.stands,
          record {
            ready = record {
              size_is = argument_at s 7 1 (s.first + 1) (omega arith) (omega arith) ∙ q.ready.size_is;
              place = place_at 7 size (omega arith) q.ready.place;
              part = part_at c.size v.word a q.ready.part;
              room = q.ready.room;
              from_place = q.ready.from_place;
              apart = subst (λ b. (b ≡ a) ⊎ DoNotMeet b (area_bytes size) a (area_bytes c.size))
                  (sym (at 7 (omega arith))) q.ready.apart;
            };
            area = q.area;
            sound = q.sound;
          },
        )

    -- ---- contents are put to a place

    -- whether a run gives a value
    abbrev DoesGive : Completed Value → Type 0
    DoesGive (Gives v x') = Unit {0}
    DoesGive (Ended e x') = ⊥
    DoesGive (Paused x') = ⊥

    module _ (c : ObjectState) (size : ℕ) (is_judged : Bool) (to : Value) (line : ℕ) (v : Value) (a : ℕ)
        (h : CallsRuntime m p s fn r 7 0) (does : IsPutRoutine m entry IsGood 0 (held_from 2) 1 8 r)
        (ready : IsAtCall g k IsGood s x)
        (q : IsToPutPlace g k x is_judged to c v.word size a s.first (held_from (s.first + 2)) (s.first + 1) s.state)
      where
        abbrev placing : ℕ
        placing = placing_steps c size is_judged to line v x

        -- a place that is found is written, and nothing ends the run
        gives : DoesGive (putting c size is_judged to line v x)
        gives = subst DoesGive
            (sym (ap (λ w. on (on (place_or_stop w line x) (λ d. put_contents size d v.word c)) (λ u y. Gives (integer 0) y))
            q.inside)) tt

        put_by : (o : Completed Value) (out : Outcome) (stage : Stage) → DoesGive o
            → Leaves g k IsGood Nowhere 8 x (begins_in s 7) o out
            → work_left out ≤ (begins_in s 7).work + (1 * placing + report_length out) → IsCalled s 7 0 out stage
            → IsServed g k IsGood Nowhere s 7 0 (work_of_call 7 0 1 placing) line x o stage
        put_by (Gives w x') (Continues z) stage give l work called =
            went_on s 7 0 Nowhere 8 tt (omega arith) g k IsGood x (1 * placing) w x' z stage l called (omega arith)
        put_by (Gives w x') (Halts status report z) stage give l work called = absurd l
        put_by (Ended e x') out stage give l work called = absurd give
        put_by (Paused x') out stage give l work called = absurd give

        pub place_served : ServesPlace m p g k IsGood s c size is_judged to line v x
        place_served =
            let t = serves_in_runtime m p s fn r 7 0 h
            (λ f. IsFor g k IsGood x f × IsToPutPlace g k x is_judged to c v.word size a 0 (held_from 2) 1 f)
            (λ f. placing) (λ f. Leaves g k IsGood Nowhere 8 x f (putting c size is_judged to line v x))
            (does functions types k x is_judged to c v size line a) ready.words (
              begins_for s 7 g k IsGood x ready.stands,
              record {
                word = at 7 (omega arith) ∙ q.word;
                size_is = argument_at s 7 1 (s.first + 1) (omega arith) (omega arith) ∙ q.size_is;
                part = part_at c.size v.word a q.part;
                room = q.room;
                place = q.place;
                area = q.area;
                sound = q.sound;
                direct = q.direct;
                inside = q.inside;
              },
            ) in
            let work = t.work in
            let price : price_of r * placing ≤ 1 * placing = mul-le _ _ _ _ (price_alone r alone) (omega arith) in
            record {
              steps = t.comes.steps;
              within = t.comes.within;
              stage = t.comes.stage;
              comes = t.comes.comes;
              holds = put_by (putting c size is_judged to line v x) t.outcome t.comes.stage gives t.holds (omega arith)
                  t.comes.called;
            }
