-- What comes of a step that stays in its function and changes objects and memory: callers and blocks wait on, states stay
-- good, and what is asked of a state at every node holds again.
use Rattle.std.proofs.Common.{◌≡◌, ◌⊎◌, inl, inr, ℕ, ◌+◌, ◌*◌, ◌<◌, ◌≤◌, Bool, true, false, List, [], ◌∷◌}
use Rattle.std.proofs.Common.{length, Some, None, refl, sym, ap, ◌∙◌, subst, arith}
use Rattle.std.proofs.lemmas.Bool.{cases_lt}
use Rattle.behaviours.specs.Steps.{run}
use Rattle.behaviours.proofs.Running.{run_add}
use Rattle.addr_map.specs.declared.region.Region.TheVariants.{StructureValues, Cells}
use Rattle.addr_map.specs.Places.{MapSizes, region_size, region_start}
use Rattle.obj_memory.specs.declared.object.Storage.TheVariants.{Automatic}
use Rattle.obj_memory.specs.declared.value.Value.{Value}
use Rattle.obj_memory.specs.Heap.{is_allocated}
use Rattle.obj_memory.specs.Objects.{Objects, object_at}
use Rattle.obj_memory.specs.Sound.{Continues}
use Rattle.obj_memory.proofs.Continuing.{continues_then}
use Rattle.source_meaning.specs.State.{State, Home}
use Rattle.source_meaning.specs.Blocks.{Block}
use Rattle.source_meaning.specs.Places.{stack_first, statics_first}
use Rattle.source_meaning.specs.Structures.{rvalue}
use Rattle.source_meaning.specs.Good.{EndsMade, Leaves}
use Rattle.source_meaning.specs.Keeping.{LivesOn}
use Rattle.source_meaning.proofs.Holding.{live_made}
use Rattle.tac_ir.specs.declared.instruction.Instruction.{Instruction}
use Rattle.tac_ir.specs.declared.function.CodeFunction.{CodeFunction}
use Rattle.tac_ir.specs.Edges.{LeadsTo}
use Rattle.tac_ir.specs.Meaning.{objects_before}
use Rattle.tac_ir.specs.Stage.{Temps, with_temp, Frame, Waits, Entered, Stage, Stands}
use Rattle.flat_code.specs.declared.function.FlatProgram.{FlatProgram}
use Rattle.flat_code.specs.Memory.{Bytes}
use Rattle.flat_code.specs.State as flat
use Rattle.flat_code.specs.Calls.{function_in}
use Rattle.flat_code.specs.Meaning.{body_of, step, weight_of}
use Rattle.flat_code.specs.Words.{HasWords, IsOfWords}
use Rattle.flat_code.proofs.Stored.{load_kept}
use Rattle.flat_code.specs.Routines.Objects.StandsFor.{Keys}
use Rattle.flat_actions.specs.Actions.{IsFor}
use Rattle.lib_wrappers.specs.AllocatingRoutines.Premises.{HaveBytes}
use Rattle.metadata_plan.specs.Registers.{most_temporaries}
use Rattle.metadata_plan.specs.Entries.{given}
use Rattle.metadata_plan.specs.Expanded.{Leads}
use Rattle.metadata_plan.specs.Operators.{Computes}
use Rattle.metadata_plan.proofs.Flat.{Comes, leads_comes, weight_small, words_kept}
use Rattle.metadata_plan.proofs.Numbers.{scaled}
use Rattle.metadata_relation.specs.Registers.{variables_end, homes_end, temporary_register, moved_register, first_free}
use Rattle.metadata_relation.specs.Blocks.{top_cell}
use Rattle.metadata_relation.specs.Holding.{World, GoesOn, IsHeldAt, Holds}
use Rattle.metadata_relation.specs.Scopes.{context_at}
use Rattle.metadata_relation.specs.Stages.{factor, Compiled, map_of, views, names, expansion_of, IsSteady, StandsIn}
use Rattle.metadata_relation.specs.Stages.{world}
use Rattle.metadata_relation.specs.Stages.{activation, level, IsAt, MatchesBy}
use Rattle.metadata_relation.specs.Steps.{IsCompiled}
use Rattle.metadata_relation.specs.Waiting.{IsEnteredAs, IsBodyAs, Layout, AllWait}
use Rattle.metadata_relation.proofs.Holding.{gives_called, holds_on}
use Rattle.metadata_relation.proofs.Statics.{placed_static}
use Rattle.metadata_relation.proofs.Standing.{good_then, IsNode, fewer, none_more, none_less, Result}
use Rattle.metadata_relation.proofs.Waiting.{waits_on, waits_at}

-- ---- what waits stays below more objects

module _ (w : World) (s : State) (l : Layout) (first : ℕ) (c : CodeFunction) (values : flat.Values) (bound more : ℕ)
    (le : bound ≤ more) where
  body_below : (stacked outer : ℕ) (homes : List Home) → IsBodyAs w s c stacked outer bound homes values
      → IsBodyAs w s c stacked outer more homes values
  body_below stacked outer homes h = record {
    by = h.by;
    mark = h.mark;
    within = (let a = h.within in omega arith);
    own = λ o q. (let z = h.own o q in let below = z.1 in (z.0, omega arith));
  }

  entered_below : (n : ℕ) (b : Block) (frame : List Home) → IsEnteredAs w s c bound n b frame values
      → IsEnteredAs w s c more n b frame values
  entered_below n b frame h = record {
    some = h.some;
    block = h.block;
    mark = h.mark;
    own = λ o q. (let z = h.own o q in let below = z.1 in (z.0, omega arith));
    below = h.below;
    over = h.over;
    homes = h.homes;
  }

  pub waits_below : (stacked : ℕ) (frame : List Home) (ws : List Frame) (xs : List flat.Frame)
      → AllWait w s l first (record { code = c; values = values; stacked = stacked; frame = frame; bound = bound }) ws xs
      → AllWait w s l first (record { code = c; values = values; stacked = stacked; frame = frame; bound = more }) ws xs
  unfolding body_below entered_below
  waits_below stacked frame [] [] h = h
  waits_below stacked frame [] (x ∷ []) h = (body_below stacked first frame h.0, h.1)
  waits_below stacked frame [] (x ∷ y ∷ xs) h = h
  waits_below stacked frame (Entered n b ∷ ws) xs h = (entered_below n b frame h.0, h.1)
  waits_below stacked frame (Waits a ∷ ws) [] h = h
  waits_below stacked frame (Waits a ∷ ws) (x ∷ xs) h = (body_below stacked a.caller.stacked frame h.0, h.1, h.2)

-- ---- what holds of a state at every node

-- an automatic object has bytes still, and what is made has a block of the heap
pub bytes_on : (old new : Objects) → Continues old new → EndsMade old new → HaveBytes old → HaveBytes new
bytes_on old new on ends h = record { some = λ n live is. by n live is (cases_lt n (length old)) }
  where
    alive : (n : ℕ) → n < length old → (object_at new n).is_live ≡ true → (b : Bool) → (object_at old n).is_live ≡ b
        → (object_at old n).is_live ≡ true
    alive n lt live true e = e
    alive n lt live false e = absurd
        (let dead = on.dead n lt e in let both : true ≡ false = sym live ∙ dead in cc)

    by : (n : ℕ) → (object_at new n).is_live ≡ true → (object_at new n).storage ≡ Automatic
        → (n < length old) ⊎ (length old ≤ n) → 1 ≤ (object_at new n).size
    by n live is (inl lt) =
        let some = h.some n (alive n lt live (object_at old n).is_live refl) (sym (on.storage n lt) ∙ is) in
        let size = on.size n lt in
        omega arith
    by n live is (inr le) = absurd
        (let made = ends n le live in let both : true ≡ false = sym made ∙ ap is_allocated is in cc)

-- static objects live on
pub statics_live_on : (c : Compiled) (old new : Objects) → LivesOn old new
    → Continues (objects_before (expansion_of c).code c.setting) old
    → ((n : ℕ) → n < length (expansion_of c).code.statics → (object_at old n).is_live ≡ true)
    → (n : ℕ) → n < length (expansion_of c).code.statics → (object_at new n).is_live ≡ true
statics_live_on c old new lives statics live n lt =
    let is = placed_static (statics_first c.setting) (expansion_of c).code.statics 0 n lt in
    let made = is.made in
    let longer = statics.longer in
    lives.live n (omega arith) (ap is_allocated (statics.storage n made ∙ is.static)) (live n lt)

pub steady_on : (c : Compiled) (u : ℕ) (ws : List Frame) (s s' : State) → Leaves (context_at (names c) u ws) s s'
    → s'.keys ≤ (map_of c).budgets.keys → IsSteady c u ws s → IsSteady c u ws s'
steady_on c u ws s s' l keys h = record {
  good = good_then (names c) u ws s s' l h.good;
  bytes = bytes_on s.objects s'.objects l.lives.continues l.ended h.bytes;
  keys = keys;
  statics = continues_then (objects_before (expansion_of c).code c.setting) s.objects s'.objects h.statics
      l.lives.continues;
  statics_live = statics_live_on c s.objects s'.objects l.lives h.statics h.statics_live;
}

-- ---- the memory stands for other objects

cells_behind : (m : MapSizes) → region_start m StructureValues ≤ region_start m Cells
unfolding region_size region_start
cells_behind m = omega arith

-- the end of the object stack stands in a cell, which all actions keep
pub stands_on : (c : Compiled) (IsGood : Bytes → Type 0) (keys keys' : Keys) (s s' : State) (v v' : flat.State)
    → StandsIn c IsGood keys s v → IsFor (views c) keys' IsGood s' v' → s'.stacked ≡ s.stacked
    → ((b : ℕ) → region_start (map_of c) StructureValues ≤ b → v'.memory b ≡ v.memory b) → s'.turns ≤ v'.turns
    → StandsIn c IsGood keys' s' v'
stands_on c IsGood keys keys' s s' v v' h for same behind turns =
    let cells = cells_behind (map_of c) in
    record {
      for = for;
      top = load_kept 8 v.memory v'.memory (top_cell (map_of c)) (λ i lt. behind (top_cell (map_of c) + i) (omega arith))
          ∙ h.top ∙ sym same;
      turns = turns;
    }

-- registers and work play no part
pub stands_as : (c : Compiled) (IsGood : Bytes → Type 0) (keys : Keys) (s : State) (v : flat.State)
    (values : flat.Values) (work : ℕ) → StandsIn c IsGood keys s v
    → StandsIn c IsGood keys s (record v { values = values; work = work })
stands_as c IsGood keys s v values work h = record {
  for = record {
    objects = h.for.objects;
    spaces = h.for.spaces;
    keys = h.for.keys;
    shown = record {
      input = h.for.shown.input;
      output = h.for.shown.output;
      taken = h.for.shown.taken;
      accesses = h.for.shown.accesses;
    };
  };
  top = h.top;
  turns = h.turns;
}

-- ---- runs within a function

-- the run comes to a place of its function in a state, with at most so much more work
pub record Reached (m : MapSizes) (p : FlatProgram) (u pc : ℕ) (v : flat.State) (xs : List flat.Frame) (place : ℕ)
    (after : flat.State) (most : ℕ) : Type 0 where
  pub steps : ℕ
  pub comes : run (step m p) steps (flat.Stands u pc v xs) ≡ flat.Stands u place after xs
  pub few : after.work ≤ v.work + most

module _ (m : MapSizes) (p : FlatProgram) (u : ℕ) (xs : List flat.Frame) where
  pub reached_here : (pc : ℕ) (v : flat.State) → Reached m p u pc v xs pc v 0
  reached_here pc v = record { steps = 0; comes = refl; few = omega arith }

  pub reached_then : (pc q r : ℕ) (v between after : flat.State) (a b : ℕ) → Reached m p u pc v xs q between a
      → Reached m p u q between xs r after b → Reached m p u pc v xs r after (a + b)
  reached_then pc q r v between after a b h k = record {
    steps = h.steps + k.steps;
    comes = run_add (step m p) h.steps k.steps (flat.Stands u pc v xs) ∙ ap (run (step m p) k.steps) h.comes ∙ k.comes;
    few = omega (arith, h.few, k.few);
  }

  -- a part of which the work was known alone
  pub reached_by : (pc q : ℕ) (v after : flat.State) (most : ℕ) → (k : Comes m p u pc v xs q after most)
      → Reached m p u pc v xs q (record after { work = v.work + k.work }) most
  reached_by pc q v after most k = record { steps = k.steps; comes = k.comes; few = omega (arith, k.few) }

  -- a part more
  pub reached_next : (pc q r : ℕ) (v between after : flat.State) (a b : ℕ) → Reached m p u pc v xs q between a
      → (k : Comes m p u q between xs r after b)
      → Reached m p u pc v xs r (record after { work = between.work + k.work }) (a + b)
  reached_next pc q r v between after a b h k =
      reached_then pc q r v between (record after { work = between.work + k.work }) a b h
      (reached_by q r between after b k)

  -- a value is computed
  pub reached_computed : (pc q r into value scratch : ℕ) (v between : flat.State) (a b : ℕ)
      → Reached m p u pc v xs q between a
      → (k : Computes m p (record { function = u; place = q; state = between; frames = xs }) r into value scratch b)
      → Reached m p u pc v xs r (record between { values = k.after; work = between.work + k.work }) (a + b * 2)
  reached_computed pc q r into value scratch v between a b h k =
      let few = scaled b (weight_of (function_in p u)) k.work k.few (weight_small (function_in p u)) in
      reached_then pc q r v between (record between { values = k.after; work = between.work + k.work }) a (b * 2) h
      (record { steps = k.steps; comes = k.comes; few = omega arith })

  -- all values on the way are words
  pub reached_words : (pc q : ℕ) (v after : flat.State) (most : ℕ) → HasWords (flat.Stands u pc v xs)
      → Reached m p u pc v xs q after most → IsOfWords after
  reached_words pc q v after most words h =
      (subst HasWords h.comes (words_kept m p h.steps (flat.Stands u pc v xs) words)).0

  -- behind a block the code leads on
  pub reached_on : (pc q r : ℕ) (v after : flat.State) (most : ℕ) → Reached m p u pc v xs q after most
      → Leads (body_of (function_in p u)) q r
      → (w : ℕ) × Reached m p u pc v xs r (record after { work = w }) (most + 2)
  reached_on pc q r v after most h leads =
      let k = leads_comes m p u q after xs r leads in
      (after.work + k.work, reached_next pc q r v after after most 2 h k)

-- ---- the step

-- the state of the source behind an action: variables, homes and the charge of calls stay
abbrev pub behind_action : State → (after : State) → State
behind_action s z = record s {
  objects = z.objects;
  input = z.input;
  taken = z.taken;
  output = z.output;
  accesses = z.accesses;
  work = z.work;
  keys = z.keys;
}

module _ (c : Compiled) (IsGood : Bytes → Type 0) (right : IsCompiled c IsGood) (u n : ℕ) (temps : Temps)
    (ws : List Frame) (s : State) (v : flat.State) (xs : List flat.Frame)
    (h : IsAt c IsGood u n temps ws s u (c.layout.address u n) v xs) where
  abbrev Gives : Stage → Type 0
  Gives a = Result c IsGood a (flat.Stands u (c.layout.address u n) v xs)

  -- the run comes to the block of another node
  abbrev pub ReachesNode : (next : ℕ) → (after : flat.State) → (most : ℕ) → Type 0
  ReachesNode next = Reached (map_of c) c.layout.program u (c.layout.address u n) v xs (c.layout.address u next)

  -- what an action leaves of memory, objects and their keys
  pub record HasActed (s' : State) (keys : Keys) (v' : flat.State) : Type 0 where
    pub stands : StandsIn c IsGood keys s' v'
    pub goes : GoesOn (views c) h.keys keys s.objects s'.objects v.memory v'.memory
    pub leaves : Leaves (context_at (names c) u ws) s s'
    pub keys_few : s'.keys ≤ (map_of c).budgets.keys

  pub acts : (next : ℕ) (temps' : Temps) (s' : State) (keys : Keys) (v' : flat.State) (most : ℕ)
      → ReachesNode next v' most → HasActed s' keys v' → s'.stacked ≡ s.stacked → s'.charged ≡ s.charged
      → Holds (world c keys s' v') (activation c h.code u next s') temps' s'.plain s'.frame v'.values
      → ((r : ℕ) → variables_end h.code ≤ r → r < homes_end h.code → v'.values r ≡ v.values r)
      → most + factor * s.work ≤ factor * s'.work → Gives (Stands u next temps' ws s')
  acts next temps' s' keys v' most k a same_top same_charge holds homes cost =
      let l = a.leaves in
      let first = stack_first c.setting in
      let w = world c keys s' v' in
      let on = waits_on (views c) h.keys keys s s' v.memory v'.memory c.layout first h.stands.for.objects
      a.stands.for.objects a.goes l.lives l.ended (level h.code s v) ws xs h.wait.by in
      let at = waits_at w s' c.layout first h.code v.values v'.values homes s.stacked (length s.objects) s.frame ws xs on in
      let below = waits_below w s' c.layout first h.code v'.values (length s.objects) (length s'.objects)
      l.lives.continues.longer s.stacked s.frame ws xs at in
      record {
        steps = k.steps;
        matches = subst (MatchesBy c IsGood (Stands u next temps' ws s')) (sym k.comes) (record {
          function = refl;
          place = refl;
          code = h.code;
          there = h.there;
          work = omega (arith, h.work, k.few, cost);
          charge = same_charge ∙ h.charge;
          fits = subst (λ z. z ≤ (map_of c).budgets.calls) (sym same_charge) h.fits;
          keys = keys;
          stands = a.stands;
          steady = steady_on c u ws s s' l a.keys_few h.steady;
          holds = holds;
          wait = record {
            by = subst (λ z. AllWait (world c keys s' v') s' c.layout (stack_first c.setting) (record {
              code = h.code;
              values = v'.values;
              stacked = z;
              frame = s'.frame;
              bound = length s'.objects;
            }) ws xs) (sym same_top)
                (subst (λ z. AllWait (world c keys s' v') s' c.layout (stack_first c.setting) (record {
                  code = h.code;
                  values = v'.values;
                  stacked = s.stacked;
                  frame = z;
                  bound = length s'.objects;
                }) ws xs) (sym l.frame) below);
          };
        });
      }

  -- an object of a variable lives on
  homes_live : (s' : State) (keys : Keys) (v' : flat.State) → HasActed s' keys v' → (o : ℕ)
      → (object_at s.objects o).is_live ≡ true → is_allocated (object_at s.objects o).storage ≡ false
      → (object_at s'.objects o).is_live ≡ true
  homes_live s' keys v' a o live held = a.leaves.lives.live o (live_made s.objects o live) held live

  -- an action behind which a temporary has a value without contents; arguments of its call may have moved
  pub acts_called : (i : Instruction) → IsNode c u n h.code i → (d next : ℕ) (value : Value) (s' : State) (keys : Keys)
      (v' : flat.State) (most : ℕ) → given i ≡ Some d → LeadsTo i next → d < most_temporaries h.code.code
      → ReachesNode next v' most → HasActed (behind_action s s') keys v'
      → ((y : ℕ) → y < moved_register h.code 0 → (y < temporary_register h.code d) ⊎ (temporary_register h.code d + 5 ≤ y)
      → v'.values y ≡ v.values y)
      → IsHeldAt (world c keys (behind_action s s') v') (c.layout.expansion.entries u next d) value
      (temporary_register h.code d) v'.values
      → most + factor * s.work ≤ factor * s'.work
      → Gives (Stands u next (with_temp temps d (rvalue value)) ws (behind_action s s'))
  acts_called i nd d next value s' keys v' most gives leads low k a others held cost =
      acts next (with_temp temps d (rvalue value)) (behind_action s s') keys v' most k a refl refl
      (gives_called (views c) h.keys keys s.objects s'.objects v.memory v'.memory a.goes (activation c h.code u n s)
      (c.layout.expansion.entries u next) (c.layout.expansion.contents u next) (λ i. false) temps s.plain s.frame v.values
      v'.values d (rvalue value) low (fewer c IsGood right u n temps ws s v xs h i nd d next gives leads)
      (λ x o home live is. homes_live (behind_action s s') keys v' a o live is) others
      (record { by = held; none = λ e. refl }) h.holds)
      (λ r from to. others r (omega arith) (inl (omega arith))) cost

  -- an action behind which a temporary has a value without contents
  pub acts_giving : (i : Instruction) → IsNode c u n h.code i → (d next : ℕ) (value : Value) (s' : State) (keys : Keys)
      (v' : flat.State) (most : ℕ) → given i ≡ Some d → LeadsTo i next → d < most_temporaries h.code.code
      → ReachesNode next v' most → HasActed (behind_action s s') keys v'
      → ((y : ℕ) → y < first_free h.code → (y < temporary_register h.code d) ⊎ (temporary_register h.code d + 5 ≤ y)
      → v'.values y ≡ v.values y)
      → IsHeldAt (world c keys (behind_action s s') v') (c.layout.expansion.entries u next d) value
      (temporary_register h.code d) v'.values
      → most + factor * s.work ≤ factor * s'.work
      → Gives (Stands u next (with_temp temps d (rvalue value)) ws (behind_action s s'))
  acts_giving i nd d next value s' keys v' most gives leads low k a others held cost =
      acts_called i nd d next value s' keys v' most gives leads low k a (λ y lt out. others y (omega arith) out) held cost

  -- an action behind which registers of the block's own alone have other values
  pub acts_alone : (i : Instruction) → IsNode c u n h.code i → (next : ℕ) (s' : State) (keys : Keys) (v' : flat.State)
      (most : ℕ) → given i ≡ None → LeadsTo i next
      → ReachesNode next v' most → HasActed (behind_action s s') keys v'
      → ((y : ℕ) → y < first_free h.code → v'.values y ≡ v.values y)
      → most + factor * s.work ≤ factor * s'.work → Gives (Stands u next temps ws (behind_action s s'))
  acts_alone i nd next s' keys v' most gives leads k a others cost =
      acts next temps (behind_action s s') keys v' most k a refl refl
      (holds_on (views c) h.keys keys s.objects s'.objects v.memory v'.memory a.goes (activation c h.code u n s)
      (c.layout.expansion.entries u next) (c.layout.expansion.contents u next) temps s.plain s.frame v.values v'.values
      (none_more c IsGood right u n temps ws s v xs h i nd next gives leads)
      (none_less c IsGood right u n temps ws s v xs h i nd next gives leads)
      (λ x o home live is. homes_live (behind_action s s') keys v' a o live is) others h.holds)
      (λ r from to. others r (omega arith)) cost
