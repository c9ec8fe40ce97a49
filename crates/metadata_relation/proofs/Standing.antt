-- Functions and their expansions, and what comes of a step that stays in its function and leaves objects and memory.
use Rattle.std.proofs.Common.{◌≡◌, ℕ, ◌+◌, ◌*◌, ◌<◌, ◌≤◌, true, false, List, [], ◌∷◌, Option, Some, None, length, refl}
use Rattle.std.proofs.Common.{sym, ap, ◌∙◌, subst, arith, mul-le-mul_right}
use Rattle.std.specs.Prelude.{slice_get, if◌then◌else◌}
use Rattle.behaviours.specs.Steps.{run}
use Rattle.behaviours.proofs.Running.{run_add}
use Rattle.obj_memory.specs.declared.value.Value.{Value}
use Rattle.sb_base.specs.declared.ending.Ending.{Ending}
use Rattle.sb_base.specs.Endings.{code_of, report_of}
use Rattle.source_meaning.specs.State.{State}
use Rattle.source_meaning.specs.Places.{stack_first}
use Rattle.source_meaning.specs.Good.{Context, IsGood, Leaves}
use Rattle.source_meaning.proofs.Holding.{lives_same, lives_then}
use Rattle.source_meaning.proofs.Separating.{ends_same, ends_then}
use Rattle.tac_ir.specs.declared.instruction.Instruction.{Instruction}
use Rattle.tac_ir.specs.declared.function.CodeFunction.{CodeFunction}
use Rattle.tac_ir.specs.Edges.{LeadsTo}
use Rattle.tac_ir.specs.Temporaries.{temporaries}
use Rattle.tac_ir.specs.Stage.{Temps, Frame, Waits, Entered, Stage, Stands, Over}
use Rattle.flat_code.specs.declared.instruction.FlatInstruction.{FlatInstruction}
use Rattle.flat_code.specs.declared.instruction.FlatInstruction.TheVariants.{End}
use Rattle.flat_code.specs.declared.function.FlatFunction.{FlatFunction}
use Rattle.flat_code.specs.Memory.{Bytes}
use Rattle.flat_code.specs.State as flat
use Rattle.flat_code.specs.Calls.{function_in, room_if}
use Rattle.flat_code.specs.Meaning.{body_of, instruction_at, parameters_of, results_of, step, weight_of}
use Rattle.flat_code.specs.Routines.Routine.{HasAt}
use Rattle.flat_actions.specs.Actions.{IsShown}
use Rattle.metadata_plan.specs.Registers.{most_temporaries}
use Rattle.metadata_plan.specs.Entries.{IsOther, given, AreClosed}
use Rattle.metadata_plan.specs.Expanded.{Leads}
use Rattle.metadata_relation.specs.Contents.{AreKept}
use Rattle.metadata_relation.specs.Steps.{IsCompiled}
use Rattle.metadata_relation.specs.Registers.{parameters_end, result_words, variables_end, homes_end}
use Rattle.metadata_relation.specs.Blocks.{Expansion, prologue, result_of}
use Rattle.metadata_relation.specs.Holding.{Holds}
use Rattle.metadata_relation.specs.Scopes.{Names, context_at, AreGoodBy, AreGood}
use Rattle.metadata_relation.specs.Stages.{factor, Compiled, map_of, views, names, world, activation, level, IsAt}
use Rattle.metadata_relation.specs.Stages.{MatchesBy}
use Rattle.metadata_relation.specs.Expanded.{IsPut, ExpandsAt}
use Rattle.metadata_plan.proofs.Numbers.{most_at}
use Rattle.metadata_plan.proofs.Flat.{Comes, then_comes, leads_comes, end_step, weight_small}
use Rattle.metadata_relation.proofs.Holding.{AreFewer}
use Rattle.metadata_relation.proofs.Waiting.{waits_at, waits_same}

-- ---- functions

-- a function of the program, and what stands for it
pub record IsThere (e : Expansion) (u : ℕ) (c : CodeFunction) (address : ℕ → ℕ) (q : Option FlatFunction) : Type 0
  where
    pub function : FlatFunction
    pub function_is : q ≡ Some function
    pub blocks : (n : ℕ) (i : Instruction) → slice_get c.code n ≡ Some i
        → IsPut e u c (body_of q) address (address n) i
    pub begun : HasAt (body_of q) 0 (prologue e c)
    pub begins : Leads (body_of q) (length (prologue e c)) (address c.entry)
    pub room : room_if false q ≡ c.room
    pub no_room : room_if true q ≡ 0
    pub parameters : parameters_of q ≡ parameters_end c
    pub results : results_of q ≡ result_words (result_of e.code c)

pub there_by : (e : Expansion) (u : ℕ) (c : CodeFunction) (address : ℕ → ℕ) (q : Option FlatFunction)
    → ExpandsAt e u c address q → IsThere e u c address q
there_by e u c address None h = absurd h
there_by e u c address (Some f) h = record {
  function = f;
  function_is = refl;
  blocks = h.blocks;
  begun = h.begun;
  begins = h.begins;
  room = ap (λ b. if b then 0 else f.room) h.of_program ∙ h.room;
  no_room = ap (λ b. if b then f.room else 0) h.of_program;
  parameters = h.parameters;
  results = h.results;
}

-- ---- good states

pub leaves_same : (sc : Context) (s : State) → IsGood sc s → Leaves sc s s
leaves_same sc s h = record { good = h; lives = lives_same s.objects; frame = refl; ended = ends_same s.objects }

pub leaves_then : (sc : Context) (s s1 s2 : State) → Leaves sc s s1 → Leaves sc s1 s2 → Leaves sc s s2
leaves_then sc s s1 s2 p q = record {
  good = q.good;
  lives = lives_then s.objects s1.objects s2.objects p.lives q.lives;
  frame = q.frame ∙ p.frame;
  ended = ends_then s.objects s1.objects s2.objects q.lives.continues p.ended q.ended;
}

-- An action from the state that runs leaves good states behind those that wait.
pub good_then : (n : Names) (u : ℕ) (ws : List Frame) (s s' : State) → Leaves (context_at n u ws) s s'
    → AreGood n u ws s → AreGood n u ws s'
good_then n u ws s s' l h = record { by = by ws l h.by }
  where
    by : (ws : List Frame) → Leaves (context_at n u ws) s s' → AreGoodBy n u ws s → AreGoodBy n u ws s'
    by [] l h = record { behind = h.behind; since = leaves_then (context_at n u []) h.behind s s' h.since l }
    by (Waits w ∷ ws) l h = (
      record {
        before = h.0.before;
        behind = h.0.behind;
        caller_is = h.0.caller_is;
        set_up = h.0.set_up;
        since = leaves_then (context_at n u []) h.0.behind s s' h.0.since l;
      },
      h.1,
    )
    by (Entered b block ∷ ws) l h = (
      record {
        before = h.0.before;
        behind = h.0.behind;
        entered = h.0.entered;
        since = leaves_then (context_at n u (Entered b block ∷ ws)) h.0.behind s s' h.0.since l;
      },
      h.1,
    )

-- the run's own state is good in the scope in which it stands
pub good_now : (n : Names) (u : ℕ) (ws : List Frame) (s : State) → AreGood n u ws s → IsGood (context_at n u ws) s
good_now n u ws s h = by ws h.by
  where
    by : (ws : List Frame) → AreGoodBy n u ws s → IsGood (context_at n u ws) s
    by [] h = h.since.good
    by (Waits w ∷ ws) h = h.0.since.good
    by (Entered b block ∷ ws) h = h.0.since.good

-- what a state shows and counts leaves it as good as it was
abbrev pub counted_as : State → (input output : List ℕ) → (taken turns work : ℕ) → State
counted_as s i o tk tn w = record s { input = i; output = o; taken = tk; turns = tn; work = w }

pub good_counted : (n : Names) (u : ℕ) (ws : List Frame) (s : State) (i o : List ℕ) (tk tn w : ℕ) → AreGood n u ws s
    → AreGood n u ws (counted_as s i o tk tn w)
good_counted n u ws s i o tk tn w h =
    let good = good_now n u ws s h in
    let l = leaves_same (context_at n u ws) s good in
    good_then n u ws s (counted_as s i o tk tn w)
    (record { good = good; lives = l.lives; frame = l.frame; ended = l.ended }) h

-- ---- steps

-- what is known of a node and its block
pub record IsNode (c : Compiled) (u n : ℕ) (code : CodeFunction) (i : Instruction) : Type 0 where
  pub put : IsPut c.layout.expansion u code (body_of (function_in c.layout.program u)) (c.layout.address u)
      (c.layout.address u n) i
  pub temporaries_low : temporaries i ≤ most_temporaries code.code
  pub closed : AreClosed c.layout.expansion.code code (c.layout.expansion.entries u)
  pub kept : AreKept c.layout.expansion.code code (c.layout.expansion.contents u)
  pub at : slice_get code.code n ≡ Some i

module _ (c : Compiled) (IsGood : Bytes → Type 0) where
  -- the run of flat code comes to where it matches
  pub record Result (a : Stage) (x : flat.Stage) : Type 0 where
    pub steps : ℕ
    pub matches : MatchesBy c IsGood a (run (step (map_of c) c.layout.program) steps x)

  pub ends : (x : flat.Stage) (e : Ending) (s' : State) (after : flat.State) (n status : ℕ) (report : List ℕ)
      → run (step (map_of c) c.layout.program) n x ≡ flat.Over status report after → status ≡ code_of e
      → report ≡ report_of e → IsShown s' after → s'.turns ≤ after.turns
      → after.work ≤ factor * (s'.work + length (report_of e)) → Result (Over e s') x
  ends x e s' after n status report comes same_status same_report shown turns work = record {
    steps = n;
    matches = subst (MatchesBy c IsGood (Over e s')) (sym comes)
        (record {
          status_is = same_status;
          report_is = same_report;
          shown = shown;
          turns = turns;
          work = work;
        });
  }

-- A run ends at an ending that it comes to, where nothing but registers and turns has changed.
module _ (c : Compiled) (IsGood : Bytes → Type 0) (u pc : ℕ) (s : State) (v : flat.State) (xs : List flat.Frame)
    (shown : IsShown s v) (before : v.work ≤ factor * s.work) where
  pub ends_where : (e : Ending) (s' : State) (q most turns : ℕ) (values : flat.Values)
      → Comes (map_of c) c.layout.program u pc v xs q (record v { turns = turns; values = values }) most
      → instruction_at c.layout.program u q ≡ Some (End e)
      → (s'.input ≡ s.input) × (s'.output ≡ s.output) × (s'.taken ≡ s.taken) × (s'.accesses ≡ s.accesses)
      → s'.turns ≤ turns → most + 2 + factor * s.work ≤ factor * s'.work
      → Result c IsGood (Over e s') (flat.Stands u pc v xs)
  ends_where e s' q most turns values k at same turned cost =
      let after : flat.State = record v { turns = turns; values = values; work = v.work + k.work } in
      let l = length (report_of e) in
      let w = weight_of (function_in c.layout.program u) in
      let scaled = mul-le-mul_right (1 + l) (weight_small (function_in c.layout.program u)) in
      let few = k.few in
      ends c IsGood (flat.Stands u pc v xs) e s' (record after { work = v.work + k.work + w * (1 + l) })
      (k.steps + 1) (code_of e) (report_of e)
      (run_add (step (map_of c) c.layout.program) k.steps 1 (flat.Stands u pc v xs)
      ∙ ap (run (step (map_of c) c.layout.program) 1) k.comes ∙ end_step (map_of c) c.layout.program u q after xs e at)
      refl refl
      (record {
        input = shown.input ∙ sym same.0;
        output = shown.output ∙ sym same.1;
        taken = shown.taken ∙ sym same.2;
        accesses = shown.accesses ∙ sym same.3;
      })
      turned (omega (arith, before, few, scaled, cost))

module _ (c : Compiled) (IsGood : Bytes → Type 0) (right : IsCompiled c IsGood) (u n : ℕ) (temps : Temps)
    (ws : List Frame) (s : State) (v : flat.State) (xs : List flat.Frame)
    (h : IsAt c IsGood u n temps ws s u (c.layout.address u n) v xs) where
  abbrev pub place : ℕ
  place = c.layout.address u n

  abbrev pub body : List FlatInstruction
  body = body_of (function_in c.layout.program u)

  abbrev pub ComesTo : (place : ℕ) → (after : flat.State) → (most : ℕ) → Type 0
  ComesTo = Comes (map_of c) c.layout.program u (c.layout.address u n) v xs

  abbrev pub Gives : Stage → Type 0
  Gives a = Result c IsGood a (flat.Stands u (c.layout.address u n) v xs)

  pub node : (i : Instruction) → slice_get h.code.code n ≡ Some i → IsNode c u n h.code i
  node i at = record {
    put = (there_by c.layout.expansion u h.code (c.layout.address u) (function_in c.layout.program u)
        (right.expanded.functions u h.code h.there)).blocks n i at;
    temporaries_low = most_at h.code.code n i at;
    closed = right.expanded.closed.by u h.code h.there;
    kept = right.expanded.kept u h.code h.there;
    at = at;
  }

  -- where an instruction gives a temporary a value, no other one has an entry behind it that had none before
  pub fewer : (i : Instruction) → IsNode c u n h.code i → (d next : ℕ) → given i ≡ Some d → LeadsTo i next
      → AreFewer d (activation c h.code u n s) (c.layout.expansion.entries u next) (c.layout.expansion.contents u next)
      (λ i. false)
  fewer i k d next gives leads = record {
    kept = λ j ne e. k.closed.kept n next j i k.at leads (subst (λ o. IsOther o j) (sym gives) ne) e;
    plain = λ j ne e. k.kept.kept n next j i k.at leads (subst (λ o. IsOther o j) (sym gives) ne) e;
    known = λ j ne e. refl;
  }

  -- and where it gives none, none has
  pub none_more : (i : Instruction) → IsNode c u n h.code i → (next : ℕ) → given i ≡ None → LeadsTo i next
      → (j : ℕ) → c.layout.expansion.entries u next j ≡ true → c.layout.expansion.entries u n j ≡ true
  none_more i k next gives leads j e = k.closed.kept n next j i k.at leads (subst (λ o. IsOther o j) (sym gives) tt) e

  pub none_less : (i : Instruction) → IsNode c u n h.code i → (next : ℕ) → given i ≡ None → LeadsTo i next
      → (j : ℕ) → c.layout.expansion.contents u next j ≡ false → c.layout.expansion.contents u n j ≡ false
  none_less i k next gives leads j e = k.kept.kept n next j i k.at leads (subst (λ o. IsOther o j) (sym gives) tt) e

  -- behind a block the code leads on
  pub leads_on : (q r : ℕ) (after : flat.State) (most : ℕ) → ComesTo q after most → Leads body q r
      → ComesTo r after (most + 2)
  leads_on q r after most k leads =
      let between : flat.State = record after { work = v.work + k.work } in
      let j = then_comes (map_of c) c.layout.program u (c.layout.address u n) v xs q r after between most 2 k
      (leads_comes (map_of c) c.layout.program u q between xs r leads) in
      record { steps = j.steps; work = j.work; few = j.few; comes = j.comes }

  -- A step that stays in its function, and leaves objects and memory as they are.
  pub arrives : (next : ℕ) (temps' : Temps) (plain : List Value) (input output : List ℕ) (taken turns work : ℕ)
      (values : flat.Values) (input' output' : List ℕ) (taken' turns' most : ℕ)
      → ComesTo (c.layout.address u next)
      (record v { values = values; input = input'; output = output'; taken = taken'; turns = turns' }) most
      → (input' ≡ input) × (output' ≡ output) × (taken' ≡ taken) × (turns ≤ turns')
      → AreGood (names c) u ws (record (counted_as s input output taken turns work) { plain = plain })
      → Holds (world c h.keys s v) (activation c h.code u next s) temps' plain s.frame values
      → ((r : ℕ) → variables_end h.code ≤ r → r < homes_end h.code → values r ≡ v.values r)
      → most + factor * s.work ≤ factor * work
      → Gives (Stands u next temps' ws (record (counted_as s input output taken turns work) { plain = plain }))
  arrives next temps' plain input output taken turns work values input' output' taken' turns' most k shown good holds
      homes cost =
      let s' : State = record (counted_as s input output taken turns work) { plain = plain } in
      let before = h.stands.for.shown in
      record {
        steps = k.steps;
        matches = subst (MatchesBy c IsGood (Stands u next temps' ws s')) (sym k.comes) (record {
          function = refl;
          place = refl;
          code = h.code;
          there = h.there;
          work = omega (arith, h.work, k.few, cost);
          charge = h.charge;
          fits = h.fits;
          keys = h.keys;
          stands = record {
            for = record {
              objects = h.stands.for.objects;
              spaces = h.stands.for.spaces;
              keys = h.stands.for.keys;
              shown = record {
                input = shown.0;
                output = shown.1;
                taken = shown.2;
                accesses = before.accesses;
              };
            };
            top = h.stands.top;
            turns = shown.3;
          };
          steady = record {
            good = good;
            bytes = h.steady.bytes;
            keys = h.steady.keys;
            statics = h.steady.statics;
            statics_live = h.steady.statics_live;
          };
          holds = holds;
          wait = record {
            by = waits_at (world c h.keys s v) s' c.layout (stack_first c.setting) h.code v.values values homes s.stacked
                (length s.objects) s.frame ws xs
                (waits_same (views c) h.keys s s' v.memory c.layout (stack_first c.setting) refl
                (level h.code s v) ws xs h.wait.by);
          };
        });
      }
