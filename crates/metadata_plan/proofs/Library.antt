-- The routines of the library that integer programs call.
use Rattle.std.proofs.Common.{inl, ◌≡◌, ℕ, ◌+◌, ◌-◌, ◌*◌, ◌%◌, ◌^◌, ◌<◌, ◌≤◌, refl, sym, ap, ◌∙◌, subst}
use Rattle.std.proofs.Common.{arith, Bool, true, false, List, [], ◌∷◌, ◌++◌, Option, Some, None, length, drop}
use Rattle.std.proofs.Common.{mul-le-mul_right}
use Rattle.std.specs.Prelude.{slice_get, nat_lt}
use Rattle.std.specs.Int.{int_wrap}
use Rattle.std.proofs.lemmas.Bool.{eqb-true, ltb-false}
use Rattle.addr_map.specs.Places.{MapSizes}
use Rattle.sb_base.specs.declared.ending.Ending.TheVariants.{Exit as ExitWith, Abort as AbortAt}
use Rattle.sb_base.specs.Endings.{code_of, report_of, low_byte}
use Rattle.obj_memory.specs.declared.int_type.IntType.TheVariants.{UnsignedChar}
use Rattle.obj_memory.specs.Integers.{fit}
use Rattle.c_tree.specs.declared.expression.Routine.{Routine}
use Rattle.c_tree.specs.declared.expression.Routine.TheVariants as routine
use Rattle.source_meaning.specs.State.{State, Rvalue, Setting, on}
use Rattle.source_meaning.specs.Actions.{integer, int_of}
use Rattle.source_meaning.specs.Structures.{rvalue, give}
use Rattle.source_meaning.specs.Library.{next_byte}
use Rattle.tac_ir.specs.declared.instruction.Instruction.{Instruction}
use Rattle.tac_ir.specs.declared.instruction.Instruction.TheVariants as tac
use Rattle.tac_ir.specs.declared.function.CodeFunction.{CodeFunction}
use Rattle.tac_ir.specs.declared.function.Tac.{Tac}
use Rattle.tac_ir.specs.Stage.{Temps, with_temp, Frame, Stage, Stands, Over, came}
use Rattle.tac_ir.specs.Costs.{spent, fourfold}
use Rattle.tac_ir.specs.Meaning.{effect, given_in}
use Rattle.flat_code.specs.declared.instruction.FlatInstruction.TheVariants as flat_code
use Rattle.flat_code.specs.declared.function.FlatProgram.{FlatProgram}
use Rattle.flat_code.specs.Memory.{put}
use Rattle.flat_code.specs.State as flat
use Rattle.flat_code.specs.Calls.{function_in}
use Rattle.flat_code.specs.Meaning.{body_of, weight_of, received}
use Rattle.flat_code.specs.Words.{IsOfWords}
use Rattle.flat_code.specs.Routines.Objects.StandsFor.{Views}
use Rattle.metadata_plan.specs.Registers.{most_temporaries, temporary_register, first_free}
use Rattle.metadata_plan.specs.Operators.{OperatorCode, AreOperators, Position}
use Rattle.metadata_plan.specs.Expanded.{Leads, IsExpanded}
use Rattle.metadata_plan.specs.Part.{is_integer_routine, IsIntegerCode}
use Rattle.metadata_plan.specs.Matching.{IsAt}
use Rattle.metadata_plan.proofs.Flat.{weight_small, Comes, then_comes, put_comes, get_comes, exit_step, end_step}
use Rattle.metadata_plan.proofs.Holding.{IsSet, set_by_put, holds_temporary, temporary_free}
use Rattle.metadata_plan.proofs.Standing.{IsNode, node, Result, then_leads, computed, stays, ends}

-- a status is the low byte of the word of an int
pub status_is : (w : ℕ) → w % 256 ≡ low_byte (int_of w)
unfolding int_wrap
status_is w = sym (by (nat_lt (w % 2 ^ 32) (2 ^ 31)) refl)
  where
    by : (b : Bool) → nat_lt (w % 2 ^ 32) (2 ^ 31) ≡ b → low_byte (int_of w) ≡ w % 256
    by true e = rw e (omega arith)
    by false e = let high = ltb-false (w % 2 ^ 32) (2 ^ 31) e in rw e (omega (arith, high))

-- a number as an unsigned char
byte_of : (w : ℕ) → fit UnsignedChar w ≡ w % 256
unfolding fit
byte_of w = refl

module _ (o : OperatorCode) (views : Views) (g : Setting) (t : Tac) (address : (function node : ℕ) → ℕ)
    (p : FlatProgram) (ops : AreOperators o) (ex : IsExpanded o g.sizes t address p)
    (part : IsIntegerCode t) (u n : ℕ) (temps : Temps) (ws : List Frame) (s : State) (v : flat.State)
    (xs : List flat.Frame) (h : IsAt views g t address p u n temps ws s u (address u n) v xs)
    (words : IsOfWords v) where
  abbrev m : MapSizes
  m = g.sizes

  abbrev c : CodeFunction
  c = h.code

  abbrev pc : ℕ
  pc = address u n

  abbrev Gives : Stage → Type 0
  Gives a = Result o views g t address p ops ex part a (flat.Stands u (address u n) v xs)

  -- where what a routine counts counts four times
  abbrev heavier_state : State → State
  heavier_state z = spent (3 * (z.work - (s.work + 12))) z

  abbrev Node : Instruction → Type 0
  Node i = IsNode o g.sizes t (address u) (body_of (function_in p u)) h.code (address u n) i

  known : (i : Instruction) → slice_get h.code.code n ≡ Some i → Node i
  known i at = node o views g t address p ops ex part u h.code n i h.there h.safe at

  putchar : (line d count next : ℕ) → slice_get h.code.code n ≡ Some (tac.Library routine.Putchar line d count next)
      → count ≡ 1
      → Gives (effect g t (tac.Library routine.Putchar line d count next) u temps ws (spent 12 s))
  putchar line d count next at one =
      let k = known (tac.Library routine.Putchar line d count next) at in
      let lt : d < most_temporaries c.code = omega (arith, k.temporaries_low) in
      let x = temporary_register c d in
      let f = first_free c in
      let w = v.values x in
      let free = temporary_free c k.integers d lt in
      let put_out : flat.State = record v { output = v.output ++ w % 256 ∷ [] } in
      let first = put_comes m p u pc v xs x k.put.has.0 in
      let here : flat.State = record put_out { work = v.work + first.work } in
      let at_byte : Position = record { function = u; place = pc + 1; state = here; frames = xs } in
      let place = pc + 1 + length (o.convert UnsignedChar x x f) in
      let r = ops.convert m p at_byte UnsignedChar x x f free free
      (record { has = k.put.has.1; words = record { values = words.values; memory = words.memory } }) in
      let both = then_comes m p u pc v xs (pc + 1) place put_out (record here { values = r.after }) 4 4 first
      (computed o views g t address p ops ex part u (pc + 1) here xs place x (fit UnsignedChar w) f 2 r
      (omega arith)) in
      let whole : Comes m p u pc v xs place (record put_out { values = r.after }) 8 =
      record { steps = both.steps; work = both.work; few = both.few; comes = both.comes } in
      let length_is : place ≡ pc + length (flat_code.Put x ∷ o.convert UnsignedChar x x f) = omega arith in
      let leads = subst (λ z. Leads (body_of (function_in p u)) z (address u next))
      (sym length_is) k.put.leads in
      let run_to = then_leads o views g t address p ops ex part u pc v xs place (address u next)
      (record put_out { values = r.after }) 8 whole leads in
      let is_set : IsSet f x (w % 256) v.values r.after = record {
        gives = r.gives ∙ byte_of w;
        others = r.others;
      } in
      let stage_at : ℕ → Stage = λ z. Stands u next (with_temp temps d (rvalue (integer (z % 256)))) ws
      (heavier_state (record s { work = s.work + 12 + 1; output = s.output ++ z % 256 ∷ [] })) in
      let word : (temps d).value.word ≡ w = ap (λ (z : Rvalue). z.value.word) (h.holds.temporaries d lt) in
      let result : Gives (stage_at w) =
      stays o views g t address p ops ex part u n temps (with_temp temps d (rvalue (integer (w % 256)))) ws s
      (heavier_state (record s { work = s.work + 12 + 1; output = s.output ++ w % 256 ∷ [] })) v
      (record put_out { values = r.after }) xs next 10 h run_to
      (holds_temporary c k.integers temps s.plain v.values r.after d (w % 256) h.holds is_set)
      (record {
        input = h.alike.input;
        output = ap (λ z. z ++ w % 256 ∷ []) h.alike.output;
        taken = h.alike.taken;
        accesses = h.alike.accesses;
        turns = h.alike.turns;
      })
      (record { objects = refl; frame = refl; stacked = refl; charged = refl }) refl (omega arith)
      (k.on next (inl refl)) in
      subst (λ z. Gives (effect g t (tac.Library routine.Putchar line d z next) u temps ws (spent 12 s))) (sym one)
      (subst (λ z. Gives (stage_at z)) (sym word) result)

  getchar : (line d count next : ℕ) → slice_get h.code.code n ≡ Some (tac.Library routine.Getchar line d count next)
      → Gives (effect g t (tac.Library routine.Getchar line d count next) u temps ws (spent 12 s))
  getchar line d count next at = by s.input refl
    where
      k : Node (tac.Library routine.Getchar line d count next)
      k = known (tac.Library routine.Getchar line d count next) at

      lt : d < most_temporaries c.code
      lt = omega (arith, k.temporaries_low)

      run_to : (q : Option ℕ) → slice_get v.input 0 ≡ q
          → Comes m p u pc v xs (address u next) (received (temporary_register c d) q v) 6
      run_to q e = subst (λ z. Comes m p u pc v xs (address u next) (received (temporary_register c d) z v) 6) e
          (then_leads o views g t address p ops ex part u pc v xs (pc + 1) (address u next)
          (received (temporary_register c d) (slice_get v.input 0) v) 4
          (get_comes m p u pc v xs (temporary_register c d) k.put.has.0) k.put.leads)

      by : (l : List ℕ) → s.input ≡ l
          → Gives (came (fourfold (s.work + 12) (on (next_byte l (spent 12 s)) (λ z. give z)))
          (given_in u next temps d ws))
      by [] e =
          let x = temporary_register c d in
          let none : slice_get v.input 0 ≡ None = ap (λ l. slice_get l 0) (h.alike.input ∙ e) in
          let values = put v.values x (2 ^ 64 - 1) in
          stays o views g t address p ops ex part u n temps (with_temp temps d (rvalue (integer (2 ^ 64 - 1)))) ws s
          (heavier_state (spent 12 s)) v (record v { values = values }) xs next 6 h (run_to None none)
          (holds_temporary c k.integers temps s.plain v.values values d (2 ^ 64 - 1) h.holds
          (set_by_put (first_free c) x (2 ^ 64 - 1) v.values))
          (record {
            input = h.alike.input;
            output = h.alike.output;
            taken = h.alike.taken;
            accesses = h.alike.accesses;
            turns = h.alike.turns;
          })
          (record { objects = refl; frame = refl; stacked = refl; charged = refl }) refl (omega arith)
          (k.on next (inl refl))
      by (b ∷ bs) e =
          let x = temporary_register c d in
          let some : slice_get v.input 0 ≡ Some b = ap (λ l. slice_get l 0) (h.alike.input ∙ e) in
          let values = put v.values x (b % 256) in
          stays o views g t address p ops ex part u n temps (with_temp temps d (rvalue (integer (b % 256)))) ws s
          (heavier_state (record (spent 12 s) { input = bs; taken = s.taken + 1 })) v
          (record v { values = values; input = drop 1 v.input; taken = v.taken + 1 }) xs next 6 h (run_to (Some b) some)
          (holds_temporary c k.integers temps s.plain v.values values d (b % 256) h.holds
          (set_by_put (first_free c) x (b % 256) v.values))
          (record {
            input = ap (drop 1) (h.alike.input ∙ e);
            output = h.alike.output;
            taken = ap (λ z. z + 1) h.alike.taken;
            accesses = h.alike.accesses;
            turns = h.alike.turns;
          })
          (record { objects = refl; frame = refl; stacked = refl; charged = refl }) refl (omega arith)
          (k.on next (inl refl))

  exit : (line d count next : ℕ) → slice_get h.code.code n ≡ Some (tac.Library routine.Exit line d count next)
      → count ≡ 1
      → Gives (effect g t (tac.Library routine.Exit line d count next) u temps ws (spent 12 s))
  exit line d count next at one =
      let k = known (tac.Library routine.Exit line d count next) at in
      let lt : d < most_temporaries c.code = omega (arith, k.temporaries_low) in
      let x = temporary_register c d in
      let w = v.values x in
      let word : (temps d).value.word ≡ w = ap (λ (z : Rvalue). z.value.word) (h.holds.temporaries d lt) in
      let result : Gives (Over (ExitWith (int_of w)) (heavier_state (spent 12 s))) =
      ends o views g t address p ops ex part (flat.Stands u pc v xs) (ExitWith (int_of w)) (heavier_state (spent 12 s))
      (record v { work = v.work + weight_of (function_in p u) }) 1 (w % 256) []
      (exit_step m p u pc v xs x k.put.has.0) (status_is w) refl
      (record {
        input = h.alike.input;
        output = h.alike.output;
        taken = h.alike.taken;
        accesses = h.alike.accesses;
        turns = h.alike.turns;
      })
      (omega (arith, h.work, weight_small (function_in p u))) in
      subst (λ z. Gives (effect g t (tac.Library routine.Exit line d z next) u temps ws (spent 12 s))) (sym one)
      (subst (λ z. Gives (Over (ExitWith (int_of z)) (heavier_state (spent 12 s)))) (sym word) result)

  abort : (line d count next : ℕ) → slice_get h.code.code n ≡ Some (tac.Library routine.Abort line d count next)
      → Gives (effect g t (tac.Library routine.Abort line d count next) u temps ws (spent 12 s))
  abort line d count next at =
      let k = known (tac.Library routine.Abort line d count next) at in
      let report = report_of (AbortAt line) in
      let light = weight_small (function_in p u) in
      ends o views g t address p ops ex part (flat.Stands u pc v xs) (AbortAt line) (heavier_state (spent 12 s))
      (record v { work = v.work + weight_of (function_in p u) * (1 + length report) }) 1 (code_of (AbortAt line)) report
      (end_step m p u pc v xs (AbortAt line) k.put.has.0) refl refl
      (record {
        input = h.alike.input;
        output = h.alike.output;
        taken = h.alike.taken;
        accesses = h.alike.accesses;
        turns = h.alike.turns;
      })
      (omega (arith, h.work, scaled (weight_of (function_in p u)) (1 + length report) light))
    where
      scaled : (a b : ℕ) → a ≤ 2 → a * b ≤ 2 * b
      scaled a b le = mul-le-mul_right b le

  pub library_step : (r : Routine) (line d count next : ℕ)
      → slice_get h.code.code n ≡ Some (tac.Library r line d count next)
      → Gives (effect g t (tac.Library r line d count next) u temps ws (spent 12 s))
  library_step r line d count next at = by r at (known (tac.Library r line d count next) at).part
    where
      by : (r : Routine) → slice_get h.code.code n ≡ Some (tac.Library r line d count next)
          → is_integer_routine r count ≡ true
          → Gives (effect g t (tac.Library r line d count next) u temps ws (spent 12 s))
      by routine.Putchar e fine = putchar line d count next e (eqb-true count 1 fine)
      by routine.Getchar e fine = getchar line d count next e
      by routine.Exit e fine = exit line d count next e (eqb-true count 1 fine)
      by routine.Abort e fine = abort line d count next e
      by _ e fine = cc
