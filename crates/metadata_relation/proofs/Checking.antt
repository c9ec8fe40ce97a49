-- The two checks of a pointer: each passes, or ends the run at its line.
use Rattle.std.proofs.Common.{◌≡◌, inl, ℕ, ◌+◌, ◌-◌, ◌*◌, ◌^◌, ◌<◌, ◌≤◌, Bool, true, false, not, if◌then◌else◌}
use Rattle.std.proofs.Common.{List, [], ◌++◌, length, length-append, Option, Some, None, refl, sym, ap, ◌∙◌, subst}
use Rattle.std.proofs.Common.{arith}
use Rattle.std.proofs.Math.Nat.{mod-eq_of_lt}
use Rattle.std.specs.Prelude.{slice_get, ◌==◌, nat_le}
use Rattle.std.proofs.lemmas.Bool.{and_parts, and_from, eq-eqb, leb-true, ltb-false}
use Rattle.behaviours.specs.Steps.{run}
use Rattle.behaviours.proofs.Running.{run_add}
use Rattle.sb_base.specs.declared.ending.Ending.{Ending}
use Rattle.sb_base.specs.declared.ending.Ending.TheVariants.{Spatial as SpatialAt, Temporal as TemporalAt}
use Rattle.sb_base.specs.Endings.{report_of}
use Rattle.obj_memory.specs.declared.value.Tag.{Tag}
use Rattle.obj_memory.specs.declared.value.Tag.TheVariants.{Untagged, OfFunction, OfObject}
use Rattle.obj_memory.specs.declared.value.Value.{Value}
use Rattle.obj_memory.specs.Objects.{Objects}
use Rattle.obj_memory.specs.Sound.{IsSoundTag}
use Rattle.source_meaning.specs.State.{State}
use Rattle.source_meaning.specs.Blocks.{pass_or_stop}
use Rattle.source_meaning.specs.Good.{AreLow}
use Rattle.source_meaning.specs.Judging.{is_within, is_live_tag}
use Rattle.tac_ir.specs.declared.instruction.Instruction.{Instruction}
use Rattle.tac_ir.specs.declared.instruction.Instruction.TheVariants as tac
use Rattle.tac_ir.specs.declared.instruction.Test.{Test}
use Rattle.tac_ir.specs.declared.instruction.Test.TheVariants.{Spatial, Temporal}
use Rattle.tac_ir.specs.Accesses.{can_check, only_if}
use Rattle.tac_ir.specs.Costs.{spent}
use Rattle.tac_ir.specs.Edges.{LeadsTo}
use Rattle.tac_ir.specs.declared.function.StaticData.{StaticData}
use Rattle.tac_ir.specs.declared.key.Base.{Base}
use Rattle.tac_ir.specs.declared.key.Base.TheVariants.{Automatic, Plain, Static}
use Rattle.tac_ir.specs.declared.key.Key.{Key}
use Rattle.tac_ir.specs.Fitting.{is_base_there, is_of_key, is_word}
use Rattle.tac_ir.specs.Keys.{gives}
use Rattle.tac_ir.specs.Meaning.{check, effect, fits, keyed_by, keys_of, variables_in}
use Rattle.c_tree.specs.declared.program.Variable.{Variable}
use Rattle.tac_ir.specs.Stage.{came, Frame, Over, Stage, Stands, Stuck, Temps}
use Rattle.tac_ir.proofs.Fits.{only_true}
use Rattle.flat_code.specs.declared.instruction.FlatInstruction.{FlatInstruction}
use Rattle.flat_code.specs.declared.instruction.RightOperand.TheVariants.{Register, Number}
use Rattle.flat_code.specs.Calls.{charged, function_in}
use Rattle.flat_code.specs.Meaning.{body_of, context, is_runtime_function, right_value, step, weight_of}
use Rattle.flat_code.specs.Memory.{Bytes}
use Rattle.flat_code.specs.State as flat
use Rattle.flat_code.specs.Words.{HasWords, IsOfWords}
use Rattle.flat_code.specs.Routines.InputOutput.{IsWithoutInputOutput}
use Rattle.flat_code.specs.Routines.Metadata.{held_registers, metadata_in}
use Rattle.flat_code.specs.Routines.Objects.StandsFor.{Spells}
use Rattle.flat_code.specs.Routines.Registers.{AreBelow}
use Rattle.flat_code.specs.Routines.Routine.{Does, HasAt}
use Rattle.flat_code.proofs.Routines.Steps.{has_back, has_front}
use Rattle.flat_code.proofs.Routines.Words.{same_metadata}
use Rattle.flat_actions.specs.Judgement.Judging.{IsSameBut}
use Rattle.flat_actions.specs.Judgement.Testing.{IsTested, IsToTest}
use Rattle.flat_actions.proofs.Standing.{for_still, for_worked, shown_still}
use Rattle.runtime_functions.specs.Library.{held_from}
use Rattle.metadata_plan.specs.Entries.{can_compare, given, key_in, reads_for}
use Rattle.metadata_plan.specs.Expanded.{Leads}
use Rattle.metadata_plan.specs.Operators.{Position}
use Rattle.metadata_plan.specs.Registers.{all_variables, most_temporaries}
use Rattle.metadata_relation.specs.Blocks.{check_code, compare_code, is_short, judge_code}
use Rattle.metadata_relation.specs.Holding.{IsHeldAt}
use Rattle.metadata_relation.specs.Registers.{first_free, temporary_register}
use Rattle.metadata_relation.specs.Scopes.{context_at}
use Rattle.metadata_relation.specs.Stages.{Compiled, expansion_of, factor, IsAt, map_of, names, views, world}
use Rattle.metadata_relation.specs.Steps.{IsCompiled}
use Rattle.metadata_relation.proofs.Acting.{acts_alone, HasActed, Reached, reached_by, reached_here, reached_on}
use Rattle.metadata_relation.proofs.Acting.{reached_then}
use Rattle.metadata_relation.proofs.Acting.{reached_words}
use Rattle.metadata_relation.proofs.Acting.{stands_on}
use Rattle.metadata_relation.proofs.FiveRegisters.{below}
use Rattle.metadata_relation.proofs.Holding.{same_world}
use Rattle.metadata_relation.proofs.NamedChecks.{judge_named}
use Rattle.metadata_relation.proofs.Pointers.{operand}
use Rattle.metadata_relation.proofs.Registers.{temporary_free}
use Rattle.metadata_relation.proofs.Routines.{passes, stops}
use Rattle.metadata_relation.proofs.Simple.{computed}
use Rattle.metadata_relation.proofs.Standing.{ends, good_now, IsNode, leaves_same, node, Result}

-- an access that the bounds of a sound tag allow is a short one
within_small : (functions : ℕ) (objects : Objects) (t : Tag) (word size : ℕ) → AreLow objects
    → IsSoundTag functions objects t → is_within t word size ≡ true → size ≤ 1610612736
within_small functions objects Untagged word size low sound e = cc
within_small functions objects (OfFunction f) word size low sound e = cc
within_small functions objects (OfObject o b) word size low sound e =
    let p = and_parts (nat_le b.base word) (nat_le (word + size) b.bound) e in
    let last = leb-true (word + size) b.bound p.1 in
    let bound = sound.bound in
    let end = low o in
    omega arith

module _ (c : Compiled) (IsGood : Bytes → Type 0) (right : IsCompiled c IsGood) (u n : ℕ) (temps : Temps)
    (ws : List Frame) (s : State) (v : flat.State) (xs : List flat.Frame)
    (h : IsAt c IsGood u n temps ws s u (c.layout.address u n) v xs)
    (words : HasWords (flat.Stands u (c.layout.address u n) v xs)) where
  abbrev pc : ℕ
  pc = c.layout.address u n

  abbrev T : (temporary : ℕ) → ℕ
  T i = temporary_register h.code i

  abbrev free : ℕ
  free = first_free h.code

  abbrev Follows : Stage → Type 0
  Follows a = Result c IsGood a (flat.Stands u (c.layout.address u n) v xs)

  abbrev body : List FlatInstruction
  body = body_of (function_in c.layout.program u)

  -- ---- a test

  -- the state in which it begins: registers of the block's own alone have changed
  abbrev Begun : (values : flat.Values) → (work : ℕ) → flat.State
  Begun values work = record v { values = values; work = work }

  -- nothing but registers changed on the way
  pub still : (values : flat.Values) (work w t : ℕ) (z : flat.State) → IsSameBut t (Begun values work) z
      → HasActed c IsGood right u n temps ws s v xs h (spent w s) h.keys z
  still values work w t z same =
      let good = good_now (names c) u ws s h.steady.good in
      let l = leaves_same (context_at (names c) u ws) s good in
      let on = same_world (views c) h.keys s.objects v.memory in
      let before = h.stands.turns in
      let turns = same.shows.turns in
      record {
        stands = stands_on c IsGood h.keys h.keys s (spent w s) v z h.stands
            (for_worked (views c) h.keys IsGood s (s.work + w) z
            (for_still (views c) h.keys IsGood s v z same.memory (record {
              input = same.shows.input;
              output = same.shows.output;
              taken = same.shows.taken;
              accesses = same.shows.accesses;
              turns = same.shows.turns;
            }) h.stands.for)) refl (λ b le. ap (λ m. m b) same.memory) (omega arith);
        goes = record {
          held = on.held;
          continues = on.continues;
          behind = λ b le lt. ap (λ m. m b) same.memory;
        };
        leaves = record { good = good; lives = l.lives; frame = l.frame; ended = l.ended };
        keys_few = h.steady.keys;
      }

  -- What a test of the source says, its list does: behind a list of the block's own, in so many steps.
  module _ (i : Instruction) (nd : IsNode c u n h.code i) (next : ℕ) (none : given i ≡ None) (leads : LeadsTo i next)
      (q start most t : ℕ) (list : List FlatInstruction) (values : flat.Values) (work : ℕ)
      (begun : Reached (map_of c) c.layout.program u pc v xs q (Begun values work) start)
      (same : (y : ℕ) → y < first_free h.code → values y ≡ v.values y) (begun_words : IsOfWords (Begun values work))
      (above : first_free h.code ≤ t)
      (alone : IsWithoutInputOutput list) (has : HasAt body q list)
      (on : Leads body (q + length list) (c.layout.address u next)) (P : flat.State → Type 0)
      (given_is : P (Begun values work)) where
    abbrev here : Position
    here = record { function = u; place = q; state = Begun values work; frames = xs }

    passed : (e : Ending)
        → Does (context (map_of c) c.layout.program u xs) list P (λ z. most)
        (λ z. IsTested (pass_or_stop true e (spent 1 s)) t z) → start + 2 * most + 2 ≤ factor
        → Follows (Stands u next temps ws (spent 1 s))
    passed e does cheap =
        let ran = passes (map_of c) c.layout.program here list P (λ z. most)
        (λ z. IsTested (pass_or_stop true e (spent 1 s)) t z) alone does (record { has = has; words = begun_words }) given_is
        most (omega arith) (λ status report z never. never) in
        let z = ran.after in
        let all = reached_then (map_of c) c.layout.program u xs pc q (q + length list) v (Begun values work) z start
        (2 * most) begun ran.reached in
        let out = reached_on (map_of c) c.layout.program u xs pc (q + length list) (c.layout.address u next) v z
        (start + 2 * most) all on in
        let same_but = ran.holds in
        acts_alone c IsGood right u n temps ws s v xs h i nd next (spent 1 s) h.keys (record z { work = out.0 })
        (start + 2 * most + 2) none leads out.1
        (still values work 1 t (record z { work = out.0 }) (record {
          memory = same_but.memory;
          shows = record {
            input = same_but.shows.input;
            output = same_but.shows.output;
            taken = same_but.shows.taken;
            accesses = same_but.shows.accesses;
            turns = same_but.shows.turns;
          };
          others = same_but.others;
        }))
        (λ y lt. same_but.others y (omega arith) tt ∙ same y lt) (omega (arith, cheap))

    stopped : (e : Ending)
        → Does (context (map_of c) c.layout.program u xs) list P (λ z. most)
        (λ z. IsTested (pass_or_stop false e (spent 1 s)) t z) → start + 2 * most ≤ factor
        → Follows (Over e (spent 1 s))
    stopped e does cheap =
        let ran = stops (map_of c) c.layout.program here list P (λ z. most)
        (λ z. IsTested (pass_or_stop false e (spent 1 s)) t z) alone does (record { has = has; words = begun_words }) given_is
        most (omega arith) (λ z never. never) in
        let told = ran.holds in
        let z = ran.after in
        let shown = shown_still s v z (record {
          input = told.2.shows.input;
          output = told.2.shows.output;
          taken = told.2.shows.taken;
          accesses = told.2.shows.accesses;
          turns = told.2.shows.turns;
        }) h.stands.for.shown in
        let few = ran.few in
        let before = begun.few in
        let so_far = h.work in
        let turns = told.2.shows.turns in
        let turned = h.stands.turns in
        let len : length ran.report ≡ length (report_of e) = ap length told.1 in
        ends c IsGood (flat.Stands u (c.layout.address u n) v xs) e (spent 1 s) z (begun.steps + ran.steps) ran.status
        ran.report
        (run_add (step (map_of c) c.layout.program) begun.steps ran.steps (flat.Stands u pc v xs)
        ∙ ap (run (step (map_of c) c.layout.program) ran.steps) begun.comes ∙ ran.comes)
        told.0 told.1
        (record { input = shown.input; output = shown.output; taken = shown.taken; accesses = shown.accesses })
        (omega arith) (omega arith)

  -- ---- of the bounds

  module _ (test : Test) (size line : ℕ) (key : Option ℕ) (a next : ℕ)
      (at : slice_get h.code.code n ≡ Some (tac.Judge test size line key a next)) where
    nd : IsNode c u n h.code (tac.Judge test size line key a next)
    nd = node c IsGood right u n temps ws s v xs h (tac.Judge test size line key a next) at

    from : a < most_temporaries h.code.code
    from = nd.temporaries_low

    held : IsHeldAt (world c h.keys s v) (c.layout.expansion.entries u n a) (temps a).value
        (temporary_register h.code a) v.values
    held = operand c IsGood right u n temps ws s v xs h words.0 (tac.Judge test size line key a next) nd a (eq-eqb a a refl)
        from

    abbrev p : Value
    p = (temps a).value

    -- where the test leads, by whether it passes
    abbrev Tested : Ending → (passes : Bool) → Stage
    Tested e b = came (pass_or_stop b e (spent 1 s)) (λ _ z. Stands u next temps ws z)

    under : (t : ℕ) → free ≤ t → AreBelow t (held_registers (held_from (temporary_register h.code a)))
    under t le = let room = temporary_free h.code a from in below (T a) t (omega arith)

    -- where it reads the entry of its pointer
    abbrev Reads : Type 0
    Reads = reads_for test (key_in h.code key) ≡ true

    spells : Reads
        → Spells (views c) h.keys (temps a).value (held_from (temporary_register h.code a)) v.values
    spells reads = held.entry (nd.closed.read n a (tac.Judge test size line key a next) at
        (and_from (a == a) (reads_for test (key_in h.code key)) (eq-eqb a a refl) reads))

    to_test : Reads → (values : flat.Values) (work : ℕ) → ((y : ℕ) → y < first_free h.code → values y ≡ v.values y)
        → IsToTest (views c) h.keys s.objects (temps a).value (held_from (temporary_register h.code a))
        (record v { values = values; work = work })
    to_test reads values work same =
        let room = temporary_free h.code a from in
        record {
          stands = h.stands.for.objects;
          sound = held.sound;
          spells = record {
            word = same (T a) (omega arith) ∙ (spells reads).word;
            tag = same_metadata (metadata_in values (held_from (T a)).tag) (metadata_in v.values (held_from (T a)).tag)
                (same (T a + 1) (omega arith)) (same (T a + 2) (omega arith)) (same (T a + 3) (omega arith))
                (same (T a + 4) (omega arith)) ∙ (spells reads).tag;
          };
        }

    -- what a check says, for either verdict
    module _ (e : Ending) (b : Bool) (q start most t : ℕ) (list : List FlatInstruction) (values : flat.Values) (work : ℕ)
        (begun : Reached (map_of c) c.layout.program u pc v xs q (Begun values work) start)
        (same : (y : ℕ) → y < first_free h.code → values y ≡ v.values y) (begun_words : IsOfWords (Begun values work))
        (above : first_free h.code ≤ t) (alone : IsWithoutInputOutput list) (has : HasAt body q list)
        (on : Leads body (q + length list) (c.layout.address u next)) (P : flat.State → Type 0)
        (given_is : P (Begun values work))
        (does : Does (context (map_of c) c.layout.program u xs) list P (λ z. most)
        (λ z. IsTested (pass_or_stop b e (spent 1 s)) t z)) (few : start + 2 * most ≤ factor)
        (fewer : b ≡ true → start + 2 * most + 2 ≤ factor) where
      verdict : (w : Bool) → b ≡ w → Follows (Tested e w)
      verdict true is =
          passed (tac.Judge test size line key a next) nd next refl (inl refl) q start most t list values work begun same
          begun_words above alone has on P given_is e
          (subst (λ w. Does (context (map_of c) c.layout.program u xs) list P (λ z. most)
          (λ z. IsTested (pass_or_stop w e (spent 1 s)) t z)) is does) (fewer is)
      verdict false is =
          stopped (tac.Judge test size line key a next) nd next refl (inl refl) q start most t list values work begun same
          begun_words above alone has on P given_is e
          (subst (λ w. Does (context (map_of c) c.layout.program u xs) list P (λ z. most)
          (λ z. IsTested (pass_or_stop w e (spent 1 s)) t z)) is does) few

      pub tested : Follows (Tested e b)
      tested = verdict b refl

    abbrev runtime : Bool
    runtime = is_runtime_function (function_in c.layout.program u)

    abbrev charge : ℕ
    charge = charged c.layout.program u xs

    abbrev weight : ℕ
    weight = weight_of (function_in c.layout.program u)

    -- the size is a number of the instruction
    short : Reads → size < 2 ^ 64 → 1 ≤ size
        → HasAt body pc (c.layout.expansion.inline.spatial_check (held_from (T a)) (Number size) line (free + 1))
        → Leads body (pc + length (c.layout.expansion.inline.spatial_check (held_from (T a)) (Number size) line (free + 1)))
        (c.layout.address u next)
        → Follows (Tested (SpatialAt line) (is_within p.tag p.word size))
    short reads small some has on =
        let list = c.layout.expansion.inline.spatial_check (held_from (T a)) (Number size) line (free + 1) in
        tested (SpatialAt line) (is_within p.tag p.word size) pc 0 5 (free + 1) list v.values v.work
        (reached_here (map_of c) c.layout.program u xs pc v) (λ y lt. refl) words.0 (omega arith)
        (right.inline.computes.spatial_check (held_from (T a)) (Number size) line (free + 1)) has on
        (λ z. IsToTest (views c) h.keys s.objects p (held_from (T a)) z
        × (right_value (Number size) z.values ≡ size) × (1 ≤ size))
        (to_test reads v.values v.work (λ y lt. refl), mod-eq_of_lt small, some)
        (right.inline.spatial_check (held_from (T a)) (Number size) line (free + 1) (under (free + 1) (omega arith)) tt
        (views c) h.keys (spent 1 s) p size runtime charge weight)
        (omega arith) (λ e. omega arith)

    -- the size goes to a register first
    long : Reads → size < 2 ^ 64 → 1 ≤ size → is_short size ≡ false
        → HasAt body pc (c.layout.expansion.inline.operators.constant free size (free + 1)
        ++ c.layout.expansion.inline.spatial_check (held_from (T a)) (Register free) line (free + 1))
        → Leads body (pc + length (c.layout.expansion.inline.operators.constant free size (free + 1)
        ++ c.layout.expansion.inline.spatial_check (held_from (T a)) (Register free) line (free + 1)))
        (c.layout.address u next)
        → Follows (Tested (SpatialAt line) (is_within p.tag p.word size))
    long reads small some is has on =
        let front = c.layout.expansion.inline.operators.constant free size (free + 1) in
        let list = c.layout.expansion.inline.spatial_check (held_from (T a)) (Register free) line (free + 1) in
        let q = pc + length front in
        let made = right.inline.operators.constant (map_of c) c.layout.program
        (record { function = u; place = pc; state = v; frames = xs }) free size (free + 1) (omega arith) small
        (record { has = has_front body pc front list has; words = words.0 }) in
        let comes = computed c IsGood right u n temps ws s v xs h words.0 q free size (free + 1) 5 made in
        let begun = reached_by (map_of c) c.layout.program u xs pc q v (record v { values = made.after }) 10 comes in
        let same = λ (y : ℕ) (lt : y < free). made.others y (omega arith) (λ e. omega arith) in
        let len : pc + length (front ++ list) ≡ q + length list = omega (arith, length-append front list) in
        let low = (good_now (names c) u ws s h.steady.good).low in
        let least = ltb-false size (2 ^ 31 - 2 ^ 11) is in
        tested (SpatialAt line) (is_within p.tag p.word size) q 10 5 (free + 1) list made.after (v.work + comes.work)
        begun same (reached_words (map_of c) c.layout.program u xs pc q v (Begun made.after (v.work + comes.work)) 10 words
        begun) (omega arith)
        (right.inline.computes.spatial_check (held_from (T a)) (Register free) line (free + 1))
        (has_back body pc front list has) (subst (λ z. Leads body z (c.layout.address u next)) len on)
        (λ z. IsToTest (views c) h.keys s.objects p (held_from (T a)) z
        × (right_value (Register free) z.values ≡ size) × (1 ≤ size))
        (to_test reads made.after (v.work + comes.work) same, made.gives, some)
        (right.inline.spatial_check (held_from (T a)) (Register free) line (free + 1) (under (free + 1) (omega arith))
        (omega arith) (views c) h.keys (spent 1 s) p size runtime charge weight)
        (omega arith)
        (λ e. (let most = within_small (views c).functions s.objects p.tag p.word size low held.sound e in
        absurd (omega arith)))

    spatial : Reads → (b : Bool) → is_short size ≡ b → size < 2 ^ 64 → 1 ≤ size
        → HasAt body pc ((if b then [] else c.layout.expansion.inline.operators.constant free size (free + 1))
        ++ c.layout.expansion.inline.spatial_check (held_from (T a)) (if b then Number size else Register free) line
        (free + 1))
        → Leads body (pc + length ((if b then [] else c.layout.expansion.inline.operators.constant free size (free + 1))
        ++ c.layout.expansion.inline.spatial_check (held_from (T a)) (if b then Number size else Register free) line
        (free + 1))) (c.layout.address u next)
        → Follows (Tested (SpatialAt line) (is_within p.tag p.word size))
    spatial reads true is small some has on = short reads small some has on
    spatial reads false is small some has on = long reads small some is has on

    temporal : Reads → is_within p.tag p.word size ≡ true
        → HasAt body pc (c.layout.expansion.inline.temporal_check (held_from (T a)) line free)
        → Leads body (pc + length (c.layout.expansion.inline.temporal_check (held_from (T a)) line free))
        (c.layout.address u next)
        → Follows (Tested (TemporalAt line) (is_live_tag p.tag s.objects))
    temporal reads within has on =
        let list = c.layout.expansion.inline.temporal_check (held_from (T a)) line free in
        tested (TemporalAt line) (is_live_tag p.tag s.objects) pc 0 3 free list v.values v.work
        (reached_here (map_of c) c.layout.program u xs pc v) (λ y lt. refl) words.0 (omega arith)
        (right.inline.computes.temporal_check (held_from (T a)) line free) has on
        (λ z. IsToTest (views c) h.keys s.objects p (held_from (T a)) z × (is_within p.tag p.word size ≡ true))
        (to_test reads v.values v.work (λ y lt. refl), within)
        (right.inline.temporal_check (held_from (T a)) line free (under free (omega arith)) (views c) h.keys (spent 1 s) p
        p.word size runtime charge weight right.mapped)
        (omega arith) (λ e. omega arith)

    checked : Reads → (of : Test) → size < 2 ^ 64 → 1 ≤ size
        → HasAt body pc (check_code c.layout.expansion.inline of size line (T a) free)
        → Leads body (pc + length (check_code c.layout.expansion.inline of size line (T a) free)) (c.layout.address u next)
        → can_check of size p ≡ true
        → Follows (came (check of size p line (spent 1 s)) (λ _ z. Stands u next temps ws z))
    checked reads Spatial small some has on can = spatial reads (is_short size) refl small some has on
    checked reads Temporal small some has on can = temporal reads can has on

    -- by its entry, or where the key begins with a name by the address
    abbrev Checked : Stage
    Checked = came (check test size p line (spent 1 s)) (λ _ z. Stands u next temps ws z)

    by_entry : (o : Option Key) → key_in h.code key ≡ o → reads_for test o ≡ true → size < 2 ^ 64 → 1 ≤ size
        → HasAt body pc (check_code c.layout.expansion.inline test size line (T a) free)
        → Leads body (pc + length (check_code c.layout.expansion.inline test size line (T a) free))
        (c.layout.address u next)
        → can_check test size p ≡ true → Follows Checked
    by_entry o is reads small some has on can =
        checked (ap (reads_for test) is ∙ reads) test small some has on can

  -- the base of a key does not look at work
  base_still : (vs : List Variable) (ds : List StaticData) (b : Base) (z : State) (w : ℕ)
      → is_base_there vs ds b (spent w z) ≡ is_base_there vs ds b z
  base_still vs ds (Plain x) z w = refl
  base_still vs ds (Automatic x) z w = refl
  base_still vs ds (Static k) z w = refl

  -- ---- the step

  module _ (test : Test) (size line q a next : ℕ)
      (at : slice_get h.code.code n ≡ Some (tac.Judge test size line (Some q) a next)) (small : size < 2 ^ 64)
      (some : 1 ≤ size) where
    abbrev value : Value
    value = (temps a).value

    abbrev Behind : Stage
    Behind = came (check test size value line (spent 1 s)) (λ _ z. Stands u next temps ws z)

    abbrev code : Option Key → List FlatInstruction
    code o = judge_code c.layout.expansion h.code test o size line (temporary_register h.code a) (first_free h.code)

    -- of a key that is there
    keyed_check : (key : Key) → slice_get h.code.keys q ≡ Some key → (b : Bool) → can_compare test key ≡ b
        → HasAt body pc (code (Some key)) → Leads body (pc + length (code (Some key))) (c.layout.address u next)
        → is_base_there (all_variables h.code) (expansion_of c).code.statics key.base s ≡ true
        → gives key (spent 1 s) (temps a).value ≡ true → can_check test size (temps a).value ≡ true → Follows Behind
    keyed_check key found true compares has on there given_by can =
        judge_named c IsGood right u n temps ws s v xs h words.0 test size line q a next key at found compares there given_by
    keyed_check key found false compares has on there given_by can =
        let o = c.layout.expansion.inline.operators in
        let is = ap (λ z. if z
        then compare_code o (map_of c) (expansion_of c).code h.code test key size line (T a) free
        else check_code c.layout.expansion.inline test size line (T a) free) compares in
        by_entry test size line (Some q) a next at (Some key) found (ap not compares) small some
        (subst (HasAt body pc) is has) (subst (λ z. Leads body (pc + length z) (c.layout.address u next)) is on) can

    by_key : (o : Option Key) → slice_get h.code.keys q ≡ o
        → (keyed_by o (spent 1 s) (temps a).value (only_if (can_check test size (temps a).value) Behind) ≡ Stuck → ⊥)
        → is_of_key (all_variables h.code) (expansion_of c).code.statics o (spent 1 s) (temps a).value ≡ true
        → HasAt body pc (code o) → Leads body (pc + length (code o)) (c.layout.address u next)
        → Follows (keyed_by o (spent 1 s) (temps a).value (only_if (can_check test size (temps a).value) Behind))
    by_key None found fine fits has on = absurd (fine refl)
    by_key (Some key) found fine fits has on =
        let vs = all_variables h.code in
        let ds = (expansion_of c).code.statics in
        let rest = only_if (can_check test size value) Behind in
        let given_by = only_true (gives key (spent 1 s) value) rest fine in
        let can = only_true (can_check test size value) Behind (λ stuck. fine (given_by.1 ∙ stuck)) in
        let word = and_parts (is_word value.word) (is_base_there vs ds key.base (spent 1 s)) fits in
        subst Follows (sym (given_by.1 ∙ can.1))
        (keyed_check key found (can_compare test key) refl has on
        (sym (base_still vs ds key.base s 1) ∙ word.1) given_by.0 can.0)

    pub judge_keyed : fits c.setting (expansion_of c).code (tac.Judge test size line (Some q) a next) u temps (spent 1 s)
        ≡ true
        → (effect c.setting (expansion_of c).code (tac.Judge test size line (Some q) a next) u temps ws (spent 1 s)
        ≡ Stuck → ⊥)
        → Follows (effect c.setting (expansion_of c).code (tac.Judge test size line (Some q) a next) u temps ws
        (spent 1 s))
    judge_keyed fit fine =
        let nd = node c IsGood right u n temps ws s v xs h (tac.Judge test size line (Some q) a next) at in
        let rest = only_if (can_check test size value) Behind in
        subst (λ z. (keyed_by (slice_get (keys_of z) q) (spent 1 s) value rest ≡ Stuck → ⊥)
        → is_of_key (variables_in z) (expansion_of c).code.statics (slice_get (keys_of z) q) (spent 1 s) value ≡ true
        → Follows (keyed_by (slice_get (keys_of z) q) (spent 1 s) value rest)) (sym h.there)
        (λ fine fits. by_key (slice_get h.code.keys q) refl fine fits nd.put.has nd.put.leads) fine fit

  pub judge : (test : Test) (size line : ℕ) (key : Option ℕ) (a next : ℕ)
      → slice_get h.code.code n ≡ Some (tac.Judge test size line key a next) → size < 2 ^ 64 → 1 ≤ size
      → fits c.setting (expansion_of c).code (tac.Judge test size line key a next) u temps (spent 1 s) ≡ true
      → (effect c.setting (expansion_of c).code (tac.Judge test size line key a next) u temps ws (spent 1 s) ≡ Stuck → ⊥)
      → Follows (effect c.setting (expansion_of c).code (tac.Judge test size line key a next) u temps ws (spent 1 s))
  judge test size line None a next at small some fit fine =
      let nd = node c IsGood right u n temps ws s v xs h (tac.Judge test size line None a next) at in
      let behind = came (check test size (temps a).value line (spent 1 s)) (λ _ z. Stands u next temps ws z) in
      let can = only_true (can_check test size (temps a).value) behind fine in
      subst Follows (sym can.1)
      (by_entry test size line None a next at None refl refl small some nd.put.has nd.put.leads can.0)
  judge test size line (Some q) a next at small some fit fine = judge_keyed test size line q a next at small some fit fine
