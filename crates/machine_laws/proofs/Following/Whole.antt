-- Every step of a run, on the machine.
use Rattle.std.proofs.Common.{◌≡◌, ℕ, ◌+◌, ◌*◌, ◌<◌, ◌≤◌, inl, refl, sym}
use Rattle.std.proofs.Common.{ap, ◌∙◌, arith, ⊎_elim, Bool, true, false, List, [], ◌∷◌, ◌++◌, length, Some}
use Rattle.std.proofs.Common.{None}
use Rattle.std.specs.Prelude.{if◌then◌else◌, not, ◌&&◌, slice_get, drop}
use Rattle.std.proofs.lemmas.Bool.{cases_lt}
use Rattle.std.proofs.lemmas.List.{append-nil}
use Rattle.std.proofs.lemmas.Option.{slice_get_past}
use Rattle.std.proofs.Math.Bool.{or-true}
use Rattle.addr_map.specs.Places.{MapSizes}
use Rattle.behaviours.specs.Shown.{Access, Read, Write}
use Rattle.rv_isa.specs.declared.instruction.LoadOp.{LoadOp}
use Rattle.rv_isa.specs.declared.instruction.StoreOp.{StoreOp}
use Rattle.rv_isa.specs.Results.{wrap, load_bytes, extended, store_bytes}
use Rattle.flat_code.specs.declared.instruction.FlatInstruction.TheVariants as flat
use Rattle.flat_code.specs.declared.function.FlatFunction.{FlatFunction}
use Rattle.flat_code.specs.declared.function.FlatProgram.{FlatProgram}
use Rattle.flat_code.specs.Memory.{put, load, store}
use Rattle.flat_code.specs.Spaces.{is_of_objects, is_allowed}
use Rattle.flat_code.specs.State.{State, Frame, Values, Stage, Stands, Over, Stuck, seen}
use Rattle.flat_code.specs.Calls.{function_in}
use Rattle.flat_code.specs.Meaning.{instruction_at, body_of, is_runtime_function, weight_of, cost, step}
use Rattle.flat_code.specs.Meaning.{at_instruction, goes_to, Goes, Fails, context}
use Rattle.flat_code.specs.Meaning.{with_access, with_register, received}
use Rattle.flat_code.specs.Words.{IsOfWords}
use Rattle.reg_plan.specs.declared.plan.FunctionPlan.{FunctionPlan}
use Rattle.reg_plan.specs.Effects.{is_among, one}
use Rattle.rv_sim.specs.Run.{Configuration, Turn, runs}
use Rattle.machine_laws.specs.View.Views.{Fits}
use Rattle.machine_laws.specs.Following.Code.{keeping, block, IsLaid, IsEncodable}
use Rattle.machine_laws.specs.Following.Matching.{Meets, HasEnded}
use Rattle.machine_laws.specs.Following.Start.{layout_of}
use Rattle.machine_laws.proofs.Following.Bounds.{weighs, load_bound, store_bound, get_bound}
use Rattle.machine_laws.proofs.Following.Regions.{AreRegions}
use Rattle.machine_laws.proofs.Following.Sound.{IsSound}
use Rattle.machine_laws.proofs.Following.Standing.{among_one}
use Rattle.machine_laws.proofs.Following.Locals.{Becomes, Steps, place_in, made_in, wanted_none}
use Rattle.machine_laws.proofs.Following.Locals.{load_steps, store_steps}
use Rattle.machine_laws.proofs.Following.Outside.{Ends, get_nothing_steps, get_byte_steps}

-- a state with an access, field by field
access_becomes : (b : Bool) (t : State) (extra : List Access)
    → Becomes t (if b then record t { accesses = t.accesses ++ extra } else t) t.values t.memory
    (t.accesses ++ (if b then extra else []))
access_becomes true t extra = record {
  values_are = refl;
  memory_is = refl;
  accesses_are = refl;
  input_is = refl;
  output_is = refl;
  taken_is = refl;
}
access_becomes false t extra = record {
  values_are = refl;
  memory_is = refl;
  accesses_are = sym (append-nil t.accesses);
  input_is = refl;
  output_is = refl;
  taken_is = refl;
}

access_turns : (b : Bool) (t : State) (extra : List Access)
    → (if b then record t { accesses = t.accesses ++ extra } else t).turns ≡ t.turns
access_turns true t extra = refl
access_turns false t extra = refl

access_work : (b : Bool) (t : State) (extra : List Access)
    → (if b then record t { accesses = t.accesses ++ extra } else t).work ≡ t.work
access_work true t extra = refl
access_work false t extra = refl

module _ (m : MapSizes) (p : FlatProgram) (plans : List FunctionPlan) (table code : List ℕ)
    (address : (function pc : ℕ) → ℕ) (entry : (function : ℕ) → ℕ) (regions : AreRegions m) (ok : IsSound p plans)
    (fit : Fits (layout_of m table code)) (laid : IsLaid m p plans (layout_of m table code) address entry)
    (can : IsEncodable p) where
  -- a turn of the machine is where a stage of the run is
  abbrev pub Matches : Stage → Turn → Type 0
  Matches (Stands f pc s frames) t = (t.1 ≡ None) × Meets m p plans (layout_of m table code) address f pc s frames t.0
  Matches (Over status report s) t = HasEnded status report s t
  Matches Stuck t = ⊥

  -- within so many instructions the machine is where the next stage is
  pub record StageSteps (x : Stage) (c : Configuration) (most turns work : ℕ) : Type 0 where
    pub steps : ℕ
    pub few : steps ≤ most
    pub after : Turn
    pub is : runs steps c ≡ after
    pub matches : Matches x after
    pub turned : (seen x).turns ≤ turns + steps
    pub worked : (seen x).work ≡ work

  pub from_steps : (f q : ℕ) (s' : State) (frames : List Frame) (c : Configuration) (n most turns work : ℕ)
      (st : Steps m p plans table code address entry regions ok fit laid can f q s' frames c n) → n ≤ most
      → s'.turns ≤ turns + st.steps → s'.work ≡ work → StageSteps (Stands f q s' frames) c most turns work
  from_steps f q s' frames c n most turns work st le more done = record {
    steps = st.steps;
    few = omega (arith, st.few);
    after = (st.after, None);
    is = st.is;
    matches = (refl, st.meets);
    turned = more;
    worked = done;
  }

  pub from_ends : (status : ℕ) (report : List ℕ) (s' : State) (c : Configuration) (n most turns work : ℕ)
      (st : Ends m p plans table code address entry regions ok fit laid can status report s' c n) → n ≤ most
      → s'.turns ≤ turns → s'.work ≡ work → StageSteps (Over status report s') c most turns work
  from_ends status report s' c n most turns work st le more done = record {
    steps = st.steps;
    few = omega (arith, st.few);
    after = st.after;
    is = st.is;
    matches = st.ended;
    turned = omega arith;
    worked = done;
  }

  pub more_steps : (x : Stage) (c : Configuration) (n most turns work : ℕ) → n ≤ most → StageSteps x c n turns work
      → StageSteps x c most turns work
  more_steps x c n most turns work le st = record {
    steps = st.steps;
    few = omega (arith, le, st.few);
    after = st.after;
    is = st.is;
    matches = st.matches;
    turned = st.turned;
    worked = st.worked;
  }

  -- a run that is not stuck at the next step stands at an instruction
  pub inside_of : (f q : ℕ) (g : FlatFunction) (s : State) (frames : List Frame)
      → (step m p (Stands f q s frames) ≡ Stuck → ⊥) → function_in p f ≡ Some g → q < length g.body
  inside_of f q g s frames fine there = ⊎_elim (λ lt. lt)
      (λ le. absurd (fine (ap (λ o. at_instruction m p o f q s frames)
      (ap (λ o. slice_get (body_of o) q) there ∙ slice_get_past g.body q le))))
      (cases_lt q (length g.body))

  -- the state that has done the work of this step
  pub meets_worked : (f pc : ℕ) (s : State) (frames : List Frame) (c : Configuration) (n : ℕ)
      → Meets m p plans (layout_of m table code) address f pc s frames c
      → Meets m p plans (layout_of m table code) address f pc (record s { work = n }) frames c
  meets_worked f pc s frames c n h = record {
    view = h.view;
    shows = h.shows;
    pc_is = h.pc_is;
    is_at = record {
      zero_is = h.is_at.zero_is;
      program_top = h.is_at.program_top;
      arguments = h.is_at.arguments;
      runtime_top = h.is_at.runtime_top;
      program_fits = h.is_at.program_fits;
      runtime_fits = h.is_at.runtime_fits;
      held = h.is_at.held;
      same = h.is_at.same;
      wait = h.is_at.wait;
    };
    accesses = h.accesses;
    outside = record {
      input = h.outside.input;
      output = h.outside.output;
      errors = h.outside.errors;
      taken = h.outside.taken;
    };
  }

  pub plain : (t : State) (values : Values) → Becomes t (record t { values = values }) values t.memory t.accesses
  plain t values = record {
    values_are = refl;
    memory_is = refl;
    accesses_are = refl;
    input_is = refl;
    output_is = refl;
    taken_is = refl;
  }

  pub same : (t : State) → Becomes t t t.values t.memory t.accesses
  same t = plain t t.values

  module _ (f pc : ℕ) (g : FlatFunction) (t : State) (frames : List Frame) (c : Configuration)
      (h : Meets m p plans (layout_of m table code) address f pc t frames c) (words : IsOfWords t)
      (there : function_in p f ≡ Some g) where
    -- ---- loads and stores
    pub load_stage : (op : LoadOp) (x y o : ℕ) (b : Bool) → instruction_at p f pc ≡ Some (flat.Load op x y o)
        → is_allowed m (wrap (t.values y + o)) (load_bytes op) ≡ b
        → (step m p (goes_to m p (flat.Load op x y o) f pc t frames (if b then Goes (pc + 1)
        (with_register x (extended op (load (load_bytes op) t.memory (wrap (t.values y + o))))
        (with_access (context m p f frames) (wrap (t.values y + o)) (load_bytes op) Read t)) else Fails)) ≡ Stuck → ⊥)
        → StageSteps (goes_to m p (flat.Load op x y o) f pc t frames (if b then Goes (pc + 1)
        (with_register x (extended op (load (load_bytes op) t.memory (wrap (t.values y + o))))
        (with_access (context m p f frames) (wrap (t.values y + o)) (load_bytes op) Read t)) else Fails)) c
        (6 * cost p f (flat.Load op x y o)) t.turns t.work
    load_stage op x y o false at allowed fine = absurd (fine refl)
    load_stage op x y o true at allowed fine =
        let a = wrap (t.values y + o) in
        let size = load_bytes op in
        let shows = not (is_runtime_function (function_in p f)) && is_of_objects m a size in
        let extra : List Access = record { address = a; size = size; kind = Read } ∷ [] in
        let e = access_becomes shows t extra in
        let u = if shows then record t { accesses = t.accesses ++ extra } else t in
        let v = extended op (load size t.memory a) in
        let s' = with_register x v u in
        let inside = inside_of f (pc + 1) g s' frames fine there in
        let st = load_steps m p plans table code address entry regions ok fit laid can f pc g t s' frames c h words
        there
        op x y o at inside allowed (record {
          values_are = ap (λ q. put q x v) e.values_are;
          memory_is = e.memory_is;
          accesses_are = e.accesses_are;
          input_is = e.input_is;
          output_is = e.output_is;
          taken_is = e.taken_is;
        }) in
        let i = flat.Load op x y o in
        let bound = load_bound m p plans f pc op x y o
        (made_in m p plans table code address entry regions ok fit laid can f pc x g i there at (inl refl) inside refl
        refl)
        (place_in m p plans table code address entry regions ok fit laid can f pc y g there
        (ok.reads f pc g i there at (wanted_none m p plans table code address entry regions ok fit laid can f pc i refl) y
        (rw (among_one y) refl))) in
        let w = weighs p f (keeping p plans f).room g there (ok.room f g there) in
        let turns = access_turns shows t extra in
        let done = access_work shows t extra in
        from_steps f (pc + 1) s' frames c (length (block m p plans f pc (flat.Load op x y o)))
        (6 * weight_of (function_in p f)) t.turns
        t.work st
        (omega (arith, bound, w.twice, w.some)) (omega arith) done

    pub store_stage : (op : StoreOp) (y o x : ℕ) (b : Bool) → instruction_at p f pc ≡ Some (flat.Store op y o x)
        → is_allowed m (wrap (t.values y + o)) (store_bytes op) ≡ b
        → (step m p (goes_to m p (flat.Store op y o x) f pc t frames (if b then Goes (pc + 1)
        (with_access (context m p f frames) (wrap (t.values y + o)) (store_bytes op) Write
        (record t { memory = store (store_bytes op) t.memory (wrap (t.values y + o)) (t.values x) })) else Fails))
        ≡ Stuck → ⊥)
        → StageSteps (goes_to m p (flat.Store op y o x) f pc t frames (if b then Goes (pc + 1)
        (with_access (context m p f frames) (wrap (t.values y + o)) (store_bytes op) Write
        (record t { memory = store (store_bytes op) t.memory (wrap (t.values y + o)) (t.values x) })) else Fails)) c
        (6 * cost p f (flat.Store op y o x)) t.turns t.work
    store_stage op y o x false at allowed fine = absurd (fine refl)
    store_stage op y o x true at allowed fine =
        let a = wrap (t.values y + o) in
        let size = store_bytes op in
        let shows = not (is_runtime_function (function_in p f)) && is_of_objects m a size in
        let extra : List Access = record { address = a; size = size; kind = Write } ∷ [] in
        let t' : State = record t { memory = store size t.memory a (t.values x) } in
        let e = access_becomes shows t' extra in
        let u = if shows then record t' { accesses = t'.accesses ++ extra } else t' in
        let st = store_steps m p plans table code address entry regions ok fit laid can f pc g t u frames c h words
        there
        op y o x at allowed (record {
          values_are = e.values_are;
          memory_is = e.memory_is;
          accesses_are = e.accesses_are;
          input_is = e.input_is;
          output_is = e.output_is;
          taken_is = e.taken_is;
        }) in
        let i = flat.Store op y o x in
        let bound = store_bound m p plans f pc op y o x
        (place_in m p plans table code address entry regions ok fit laid can f pc y g there
        (ok.reads f pc g i there at (wanted_none m p plans table code address entry regions ok fit laid can f pc i refl) y
        (rw (among_one y) refl)))
        (place_in m p plans table code address entry regions ok fit laid can f pc x g there
        (ok.reads f pc g i there at (wanted_none m p plans table code address entry regions ok fit laid can f pc i refl) x
        (rw (among_one x) (or-true (is_among (one y) x))))) in
        let w = weighs p f (keeping p plans f).room g there (ok.room f g there) in
        let turns = access_turns shows t' extra in
        let done = access_work shows t' extra in
        from_steps f (pc + 1) u frames c (length (block m p plans f pc (flat.Store op y o x)))
        (6 * weight_of (function_in p f)) t.turns
        t.work st
        (omega (arith, bound, w.twice, w.some)) (omega arith) done

    pub get_stage : (x : ℕ) (input : List ℕ) → instruction_at p f pc ≡ Some (flat.Get x) → t.input ≡ input
        → (step m p (Stands f (pc + 1) (received x (slice_get input 0) t) frames) ≡ Stuck → ⊥)
        → StageSteps (Stands f (pc + 1) (received x (slice_get input 0) t) frames) c (6 * (2 * weight_of
        (function_in p f))) t.turns t.work
    get_stage x [] at e fine =
        let s' = received x None t in
        let inside = inside_of f (pc + 1) g s' frames fine there in
        let st = get_nothing_steps m p plans table code address entry regions ok fit laid can f pc g t s' frames c h
        words
        there x at inside e refl refl refl refl refl refl in
        let bound = get_bound m p plans f pc x
        (made_in m p plans table code address entry regions ok fit laid can f pc x g (flat.Get x) there
        at (inl refl) inside refl refl) in
        let w = weighs p f (keeping p plans f).room g there (ok.room f g there) in
        let done : s'.work ≡ t.work = refl in
        from_steps f (pc + 1) s' frames c (length (block m p plans f pc (flat.Get x)))
        (6 * (2 * weight_of (function_in p f))) t.turns t.work st
        (omega (arith, bound, w.twice, w.some)) (omega arith) done
    get_stage x (byte ∷ rest) at e fine =
        let s' = received x (Some byte) t in
        let inside = inside_of f (pc + 1) g s' frames fine there in
        let st = get_byte_steps m p plans table code address entry regions ok fit laid can f pc g t s' frames c h words
        there x byte rest at inside e refl refl refl (ap (drop 1) e) refl refl in
        let bound = get_bound m p plans f pc x
        (made_in m p plans table code address entry regions ok fit laid can f pc x g (flat.Get x) there
        at (inl refl) inside refl refl) in
        let w = weighs p f (keeping p plans f).room g there (ok.room f g there) in
        let done : s'.work ≡ t.work = refl in
        from_steps f (pc + 1) s' frames c (length (block m p plans f pc (flat.Get x)))
        (6 * (2 * weight_of (function_in p f))) t.turns t.work st
        (omega (arith, bound, w.twice, w.some)) (omega arith) done
