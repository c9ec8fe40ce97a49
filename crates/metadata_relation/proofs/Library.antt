-- The routines of the library whose lists stand inline: a byte is put out or taken, or the run ends.
use Rattle.std.proofs.Common.{◌≡◌, ◌⊎◌, inl, ℕ, zero, suc, ◌+◌, ◌-◌, ◌*◌, ◌%◌, ◌^◌, ◌<◌, ◌≤◌, true, false, List, []}
use Rattle.std.proofs.Common.{◌∷◌, ◌++◌, length, length-append, Option, Some, None, drop, refl, sym, ap, ◌∙◌, subst}
use Rattle.std.proofs.Common.{arith}
use Rattle.std.proofs.Common.{mul-le-mul_right}
use Rattle.std.specs.Prelude.{slice_get}
use Rattle.std.proofs.lemmas.Bool.{and_parts, false≢true}
use Rattle.addr_map.specs.Places.{MapSizes}
use Rattle.sb_base.specs.declared.ending.Ending.TheVariants.{Exit as ExitWith, Abort as AbortAt}
use Rattle.sb_base.specs.Endings.{code_of, report_of}
use Rattle.obj_memory.specs.declared.int_type.IntType.TheVariants.{Int, UnsignedChar}
use Rattle.obj_memory.specs.declared.value.Scalar.{Scalar}
use Rattle.obj_memory.specs.declared.value.Scalar.TheVariants.{Integer}
use Rattle.obj_memory.specs.Integers.{fit}
use Rattle.c_tree.specs.declared.expression.Kind.TheVariants.{Scalar as OfScalar}
use Rattle.c_tree.specs.declared.expression.Routine.{Routine}
use Rattle.c_tree.specs.declared.expression.Routine.TheVariants as routine
use Rattle.c_tree.specs.Kinds.{routine_signature}
use Rattle.source_meaning.specs.State.{State, on}
use Rattle.source_meaning.specs.Actions.{integer, int_of}
use Rattle.source_meaning.specs.Library.{next_byte}
use Rattle.source_meaning.specs.Structures.{rvalue, give}
use Rattle.tac_ir.specs.declared.instruction.Instruction.{Instruction}
use Rattle.tac_ir.specs.declared.instruction.Instruction.TheVariants as tac
use Rattle.tac_ir.specs.Edges.{LeadsTo}
use Rattle.tac_ir.specs.Fitting.{is_of_type, is_passed, are_passed}
use Rattle.tac_ir.specs.Accesses.{is_place}
use Rattle.tac_ir.specs.Stage.{Temps, with_temp, gathered, Frame, Stage, Stands, Over, came}
use Rattle.tac_ir.specs.Costs.{spent, fourfold}
use Rattle.tac_ir.specs.Meaning.{effect, given_in}
use Rattle.flat_code.specs.declared.instruction.FlatInstruction.{FlatInstruction}
use Rattle.flat_code.specs.declared.instruction.FlatInstruction.TheVariants as flat_code
use Rattle.flat_code.specs.declared.function.FlatProgram.{FlatProgram}
use Rattle.flat_code.specs.Memory.{Bytes, put}
use Rattle.flat_code.specs.State as flat
use Rattle.flat_code.specs.Calls.{function_in}
use Rattle.flat_code.specs.Meaning.{body_of, weight_of, received}
use Rattle.flat_code.specs.Words.{HasWords}
use Rattle.flat_code.proofs.Stored.{put_same, put_other}
use Rattle.flat_code.specs.Routines.Routine.{HasAt}
use Rattle.flat_code.proofs.Routines.Steps.{has_front, has_back}
use Rattle.metadata_plan.specs.Registers.{most_temporaries}
use Rattle.metadata_plan.specs.Entries.{given}
use Rattle.metadata_plan.specs.Expanded.{Leads}
use Rattle.metadata_plan.specs.Operators.{OperatorCode, AreOperators}
use Rattle.metadata_plan.proofs.Flat.{weight_small, words_kept, Comes, then_comes, next_comes, put_comes, get_comes}
use Rattle.metadata_plan.proofs.Flat.{exit_step, end_step}
use Rattle.metadata_plan.proofs.Library.{status_is}
use Rattle.metadata_relation.specs.Registers.{temporary_register, first_free}
use Rattle.metadata_relation.specs.Blocks.{untagged}
use Rattle.metadata_relation.specs.Stages.{factor, Compiled, map_of, views, names, world, activation, expansion_of}
use Rattle.metadata_relation.specs.Stages.{IsAt}
use Rattle.metadata_relation.specs.Steps.{IsCompiled, is_inline_routine}
use Rattle.metadata_relation.proofs.Assigning.{assigned, are_assignments, assigns, wider, not_into}
use Rattle.metadata_relation.proofs.Holding.{same_world, gives_temporary}
use Rattle.metadata_relation.proofs.Moving.{held_of}
use Rattle.metadata_relation.proofs.Parts.{moment, at_first, stands_here, then_computed}
use Rattle.metadata_relation.proofs.Registers.{temporary_free}
use Rattle.metadata_relation.proofs.Setting.{place_is}
use Rattle.metadata_relation.proofs.Standing.{good_counted, counted_as, IsNode, node, fewer, arrives, leads_on, ends}
use Rattle.metadata_relation.proofs.Standing.{Result}
use Rattle.metadata_relation.proofs.Updating.{untagged_are, untagged_leaves}

-- a number as an unsigned char
byte_of : (w : ℕ) → fit UnsignedChar w ≡ w % 256
unfolding fit
byte_of w = refl

-- one scalar is handed over
one_passed : (k : Scalar) (temps : Temps) (d count : ℕ) → are_passed (OfScalar k ∷ []) (gathered temps d count) ≡ true
    → (count ≡ 1) × ((temps d).contents ≡ None)
one_passed k temps d zero e = absurd (false≢true e)
one_passed k temps d (suc zero) e =
    let one = and_parts (is_passed (OfScalar k) (temps d)) true e in
    let scalar = and_parts (is_place (temps d).contents) (is_of_type k (temps d).value) one.0 in
    (refl, place_is (temps d).contents scalar.0)
one_passed k temps d (suc (suc n)) e = absurd (false≢true (and_parts (is_passed (OfScalar k) (temps d)) false e).1)

-- registers get constants and values of others, once the run has come to a place
module _ (m : MapSizes) (p : FlatProgram) (u pc : ℕ) (v : flat.State) (xs : List flat.Frame) where
  pub assigned_behind : (q : ℕ) (after : flat.State) (most : ℕ) → Comes m p u pc v xs q after most
      → (is : List FlatInstruction) → are_assignments is ≡ true → HasAt (body_of (function_in p u)) q is
      → Comes m p u pc v xs (q + length is) (record after { values = assigned is after.values }) (most + 2 * length is)
  assigned_behind q after most K is e has =
      next_comes m p u pc v xs q (q + length is) after (record after { values = assigned is after.values }) most
      (2 * length is) K
      (λ w. (let a = assigns m p u xs is e q (record after { work = w }) has in
      record { steps = a.steps; work = a.work; few = a.few; comes = a.comes }))

module _ (c : Compiled) (IsGood : Bytes → Type 0) (right : IsCompiled c IsGood) (u n : ℕ) (temps : Temps)
    (ws : List Frame) (s : State) (v : flat.State) (xs : List flat.Frame)
    (h : IsAt c IsGood u n temps ws s u (c.layout.address u n) v xs)
    (words : HasWords (flat.Stands u (c.layout.address u n) v xs)) where
  abbrev pc : ℕ
  pc = c.layout.address u n

  abbrev T : (temporary : ℕ) → ℕ
  T i = temporary_register h.code i

  abbrev free : ℕ
  free = first_free h.code

  abbrev o : OperatorCode
  o = c.layout.expansion.inline.operators

  abbrev ops : AreOperators c.layout.expansion.inline.operators
  ops = right.inline.operators

  abbrev map : MapSizes
  map = map_of c

  abbrev p : FlatProgram
  p = c.layout.program

  abbrev Gives : Stage → Type 0
  Gives a = Result c IsGood a (flat.Stands u (c.layout.address u n) v xs)

  abbrev body : List FlatInstruction
  body = body_of (function_in c.layout.program u)

  -- A temporary gets an integer, once something was put out or taken.
  gives_shown : (i : Instruction) → IsNode c u n h.code i → (d next q value : ℕ) (input output : List ℕ)
      (taken work : ℕ) (between : flat.Values) (input' output' : List ℕ) (taken' most : ℕ) → given i ≡ Some d
      → LeadsTo i next → d < most_temporaries h.code.code
      → Comes map p u pc v xs q (record v { values = between; input = input'; output = output'; taken = taken' }) most
      → (input' ≡ input) × (output' ≡ output) × (taken' ≡ taken)
      → between (T d) ≡ value → ((y : ℕ) → y < free → (y < T d) ⊎ (T d + 5 ≤ y) → between y ≡ v.values y)
      → HasAt body q (untagged (c.layout.expansion.entries u next d) (T d))
      → Leads body (q + length (untagged (c.layout.expansion.entries u next d) (T d))) (c.layout.address u next)
      → most + 10 + factor * s.work ≤ factor * work
      → Gives (Stands u next (with_temp temps d (rvalue (integer value))) ws
      (record (counted_as s input output taken s.turns work) { plain = s.plain }))
  gives_shown i k d next q value input output taken work between input' output' taken' most gives leads low comes same is
      others has on cost =
      let b = c.layout.expansion.entries u next d in
      let tail = untagged b (T d) in
      let plain = untagged_are b (T d) in
      let count = plain.1 in
      let z = untagged_leaves b (T d) between in
      let after = assigned tail between in
      let word : after (T d) ≡ value = z.others (T d) (inl (omega arith)) ∙ is in
      let state : flat.State = record v { values = between; input = input'; output = output'; taken = taken' } in
      let K = assigned_behind map p u pc v xs q state most comes tail plain.0 has in
      let all : (y : ℕ) → y < free → (y < T d) ⊎ (T d + 5 ≤ y) → after y ≡ v.values y = λ y lt out.
      z.others y (wider y (T d) out) ∙ others y lt out in
      arrives c IsGood right u n temps ws s v xs h next (with_temp temps d (rvalue (integer value))) s.plain input output
      taken s.turns work after input' output' taken' v.turns (most + 2 * length tail + 2)
      (leads_on c IsGood right u n temps ws s v xs h (q + length tail) (c.layout.address u next)
      (record state { values = after }) (most + 2 * length tail) K on)
      (same.0, same.1, same.2, h.stands.turns)
      (good_counted (names c) u ws s input output taken s.turns work h.steady.good)
      (gives_temporary (views c) h.keys h.keys s.objects s.objects v.memory v.memory
      (same_world (views c) h.keys s.objects v.memory) (activation c h.code u n s) (c.layout.expansion.entries u next)
      (c.layout.expansion.contents u next) (λ j. false) temps s.plain s.frame v.values after d (rvalue (integer value)) low
      (fewer c IsGood right u n temps ws s v xs h i k d next gives leads) (λ y b home live is. live) all
      (record {
        by = record { word = word; entry = λ e. record { word = word; tag = z.entry e }; sound = tt };
        none = λ e. refl;
      }) h.holds)
      (λ r from to. all r (omega arith) (inl (omega arith))) (omega (arith, cost, count))

  -- the word of an argument that is a scalar
  argument_is : (d : ℕ) → d < most_temporaries h.code.code → (temps d).contents ≡ None
      → (temps d).value.word ≡ v.values (T d)
  argument_is d low none =
      let t = h.holds.temporaries d low refl in
      sym (held_of (world c h.keys s v) (c.layout.expansion.entries u n d) (temps d) _ _ (T d) v.values
      (record { by = t.by; none = λ e. none })).word

  -- where what a routine counts counts four times
  abbrev heavier_state : State → State
  heavier_state z = spent (3 * (z.work - (s.work + 12))) z

  label : (i : Instruction) → slice_get h.code.code n ≡ Some i → IsNode c u n h.code i
  label i at = node c IsGood right u n temps ws s v xs h i at

  putchar : (line d count next : ℕ) → slice_get h.code.code n ≡ Some (tac.Library routine.Putchar line d count next)
      → count ≡ 1 → (temps d).contents ≡ None
      → Gives (effect c.setting (expansion_of c).code (tac.Library routine.Putchar line d count next) u temps ws
      (spent 12 s))
  putchar line d count next at one none =
      let i = tac.Library routine.Putchar line d count next in
      let k = label i at in
      let low : d < most_temporaries h.code.code = omega (arith, k.temporaries_low) in
      let r = T d in
      let w = v.values r in
      let room = temporary_free h.code d low in
      let tail = untagged (c.layout.expansion.entries u next d) r in
      let list = o.convert UnsignedChar r r free in
      let put_out : flat.State = record v { output = v.output ++ w % 256 ∷ [] } in
      let first = put_comes map p u pc v xs r k.put.has.0 in
      let here : flat.State = record put_out { work = v.work + first.work } in
      let here_words = subst HasWords first.comes (words_kept map p first.steps (flat.Stands u pc v xs) words) in
      let nothing = at_first map p u (pc + 1) here xs here_words in
      let a = ops.convert map p (moment map p u (pc + 1) here xs here_words (pc + 1) v.values 0 nothing) UnsignedChar r r
      free (omega (arith, room)) (omega (arith, room))
      (stands_here map p u (pc + 1) here xs here_words (pc + 1) v.values 0 nothing list
      (has_front body (pc + 1) list tail k.put.has.1)) in
      let q = pc + 1 + length list in
      let second = then_computed map p u (pc + 1) here xs here_words (pc + 1) v.values 0 nothing q r
      (fit UnsignedChar w) free 2 a in
      let both = then_comes map p u pc v xs (pc + 1) q put_out (record here { values = a.after }) 4 (0 + 2 * 2) first
      second in
      let shown = h.stands.for.shown in
      let end : pc + length (flat_code.Put r ∷ (list ++ tail)) ≡ q + length tail = omega (
        arith,
        length-append list tail,
      ) in
      let stage_at : ℕ → Stage = λ z. Stands u next (with_temp temps d (rvalue (integer (z % 256)))) ws
      (heavier_state (record s { work = s.work + 12 + 1; output = s.output ++ z % 256 ∷ [] })) in
      let result : Gives (stage_at w) =
      gives_shown i k d next q (w % 256) s.input (s.output ++ w % 256 ∷ []) s.taken
      (s.work + 12 + 1 + 3 * (s.work + 12 + 1 - (s.work + 12))) a.after v.input (v.output ++ w % 256 ∷ []) v.taken 8
      refl (inl refl) low
      (record { steps = both.steps; work = both.work; few = both.few; comes = both.comes })
      (shown.input, ap (λ z. z ++ w % 256 ∷ []) shown.output, shown.taken) (a.gives ∙ byte_of w)
      (λ y lt out. a.others y lt (not_into y r out)) (has_back body (pc + 1) list tail k.put.has.1)
      (subst (λ z. Leads body z (c.layout.address u next)) end k.put.leads) (omega arith) in
      subst (λ z. Gives (effect c.setting (expansion_of c).code (tac.Library routine.Putchar line d z next) u temps ws
      (spent 12 s))) (sym one)
      (subst (λ z. Gives (stage_at z)) (sym (argument_is d low none)) result)

  getchar : (line d count next : ℕ) → slice_get h.code.code n ≡ Some (tac.Library routine.Getchar line d count next)
      → Gives (effect c.setting (expansion_of c).code (tac.Library routine.Getchar line d count next) u temps ws
      (spent 12 s))
  getchar line d count next at = by s.input refl
    where
      k : IsNode c u n h.code (tac.Library routine.Getchar line d count next)
      k = label (tac.Library routine.Getchar line d count next) at

      low : d < most_temporaries h.code.code
      low = omega (arith, k.temporaries_low)

      first : (q : Option ℕ) → slice_get v.input 0 ≡ q
          → Comes (map_of c) c.layout.program u (c.layout.address u n) v xs (c.layout.address u n + 1)
          (received (temporary_register h.code d) q v) 4
      first q e = subst (λ z. Comes map p u pc v xs (pc + 1) (received (T d) z v) 4) e
          (get_comes map p u pc v xs (T d) k.put.has.0)

      end : (tail : List FlatInstruction) → c.layout.address u n + length (flat_code.Get (temporary_register h.code d) ∷ tail)
          ≡ c.layout.address u n + 1 + length tail
      end tail = omega arith

      by : (l : List ℕ) → s.input ≡ l
          → Gives (came (fourfold (s.work + 12) (on (next_byte l (spent 12 s)) (λ z. give z)))
          (given_in u next temps d ws))
      by [] e =
          let none : slice_get v.input 0 ≡ None = ap (λ l. slice_get l 0) (h.stands.for.shown.input ∙ e) in
          let shown = h.stands.for.shown in
          let tail = untagged (c.layout.expansion.entries u next d) (T d) in
          gives_shown (tac.Library routine.Getchar line d count next) k d next (pc + 1) (2 ^ 64 - 1) s.input s.output
          s.taken (s.work + 12 + 3 * (s.work + 12 - (s.work + 12))) (put v.values (T d) (2 ^ 64 - 1)) v.input v.output
          v.taken 4 refl (inl refl) low (first None none) (shown.input, shown.output, shown.taken)
          (put_same v.values (T d) (2 ^ 64 - 1))
          (λ y lt out. put_other v.values (T d) (2 ^ 64 - 1) y (not_into y (T d) out)) k.put.has.1
          (subst (λ z. Leads body z (c.layout.address u next)) (end tail) k.put.leads) (omega arith)
      by (b ∷ bs) e =
          let some : slice_get v.input 0 ≡ Some b = ap (λ l. slice_get l 0) (h.stands.for.shown.input ∙ e) in
          let shown = h.stands.for.shown in
          let tail = untagged (c.layout.expansion.entries u next d) (T d) in
          gives_shown (tac.Library routine.Getchar line d count next) k d next (pc + 1) (b % 256) bs s.output
          (s.taken + 1) (s.work + 12 + 3 * (s.work + 12 - (s.work + 12))) (put v.values (T d) (b % 256)) (drop 1 v.input)
          v.output (v.taken + 1) 4 refl (inl refl) low (first (Some b) some)
          (ap (drop 1) (shown.input ∙ e), shown.output, ap (λ z. z + 1) shown.taken)
          (put_same v.values (T d) (b % 256))
          (λ y lt out. put_other v.values (T d) (b % 256) y (not_into y (T d) out)) k.put.has.1
          (subst (λ z. Leads body z (c.layout.address u next)) (end tail) k.put.leads) (omega arith)

  exit : (line d count next : ℕ) → slice_get h.code.code n ≡ Some (tac.Library routine.Exit line d count next)
      → count ≡ 1 → (temps d).contents ≡ None
      → Gives (effect c.setting (expansion_of c).code (tac.Library routine.Exit line d count next) u temps ws
      (spent 12 s))
  exit line d count next at one none =
      let k = label (tac.Library routine.Exit line d count next) at in
      let low : d < most_temporaries h.code.code = omega (arith, k.temporaries_low) in
      let w = v.values (T d) in
      let shown = h.stands.for.shown in
      let before = h.work in
      let light = weight_small (function_in p u) in
      let result : Gives (Over (ExitWith (int_of w)) (heavier_state (spent 12 s))) =
      ends c IsGood (flat.Stands u pc v xs) (ExitWith (int_of w)) (heavier_state (spent 12 s))
      (record v { work = v.work + weight_of (function_in p u) }) 1 (w % 256) []
      (exit_step map p u pc v xs (T d) k.put.has.0) (status_is w) refl
      (record { input = shown.input; output = shown.output; taken = shown.taken; accesses = shown.accesses })
      h.stands.turns (omega (arith, before, light)) in
      subst (λ z. Gives (effect c.setting (expansion_of c).code (tac.Library routine.Exit line d z next) u temps ws
      (spent 12 s))) (sym one)
      (subst (λ z. Gives (Over (ExitWith (int_of z)) (heavier_state (spent 12 s)))) (sym (argument_is d low none)) result)

  abort : (line d count next : ℕ) → slice_get h.code.code n ≡ Some (tac.Library routine.Abort line d count next)
      → Gives (effect c.setting (expansion_of c).code (tac.Library routine.Abort line d count next) u temps ws
      (spent 12 s))
  abort line d count next at =
      let k = label (tac.Library routine.Abort line d count next) at in
      let report = report_of (AbortAt line) in
      let shown = h.stands.for.shown in
      let before = h.work in
      let bytes = mul-le-mul_right (1 + length report) (weight_small (function_in p u)) in
      ends c IsGood (flat.Stands u pc v xs) (AbortAt line) (heavier_state (spent 12 s))
      (record v { work = v.work + weight_of (function_in p u) * (1 + length report) }) 1 (code_of (AbortAt line)) report
      (end_step map p u pc v xs (AbortAt line) k.put.has.0) refl refl
      (record { input = shown.input; output = shown.output; taken = shown.taken; accesses = shown.accesses })
      h.stands.turns (omega (arith, before, bytes))

  pub library_step : (r : Routine) (line d count next : ℕ) → is_inline_routine r ≡ true
      → slice_get h.code.code n ≡ Some (tac.Library r line d count next)
      → are_passed (routine_signature r).parameters (gathered temps d count) ≡ true
      → Gives (effect c.setting (expansion_of c).code (tac.Library r line d count next) u temps ws (spent 12 s))
  library_step routine.Putchar line d count next e at fits =
      let one = one_passed (Integer Int) temps d count fits in putchar line d count next at one.0 one.1
  library_step routine.Getchar line d count next e at fits = getchar line d count next at
  library_step routine.Exit line d count next e at fits =
      let one = one_passed (Integer Int) temps d count fits in exit line d count next at one.0 one.1
  library_step routine.Abort line d count next e at fits = abort line d count next at
  library_step r line d count next e at fits = cc
