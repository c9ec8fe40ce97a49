-- Behind a call of the runtime a status tells how the run goes on: by 0 past the tests, else it ends as the status says.
use Rattle.std.proofs.Common.{◌≡◌, ℕ, ◌+◌, ◌*◌, ◌≤◌, true, false, not, if◌then◌else◌, Bool, List, [], ◌∷◌}
use Rattle.std.proofs.Common.{◌⊎◌, inl, inr, length, mul-le-mul_right, Option, Some, None, refl, sym, ap, ◌∙◌, subst}
use Rattle.std.proofs.Common.{arith}
use Rattle.std.specs.Prelude.{◌==◌}
use Rattle.std.proofs.lemmas.Bool.{eq-eqb, eqb-true}
use Rattle.behaviours.specs.Steps.{run}
use Rattle.behaviours.proofs.Running.{run_add}
use Rattle.addr_map.specs.Places.{MapSizes}
use Rattle.sb_base.specs.declared.ending.Ending.{Ending}
use Rattle.sb_base.specs.declared.ending.Ending.TheVariants as ending
use Rattle.sb_base.specs.Endings.{code_of, report_of}
use Rattle.rv_isa.specs.declared.instruction.BranchOp.TheVariants.{Beq, Bne}
use Rattle.rv_isa.specs.Results.{branch_taken}
use Rattle.words.specs.TwosComplement.{low_bits}
use Rattle.flat_code.specs.declared.instruction.RightOperand.TheVariants.{Number}
use Rattle.flat_code.specs.declared.instruction.FlatInstruction.{FlatInstruction}
use Rattle.flat_code.specs.declared.instruction.FlatInstruction.TheVariants.{End}
use Rattle.flat_code.specs.declared.function.FlatProgram.{FlatProgram}
use Rattle.flat_code.specs.Calls.{function_in}
use Rattle.flat_code.specs.Meaning.{body_of, instruction_at, step, weight_of}
use Rattle.flat_code.specs.State as flat
use Rattle.flat_code.specs.Routines.Routine.{HasAt}
use Rattle.flat_code.proofs.Routines.Steps.{has_back, has_front}
use Rattle.runtime_functions.specs.declared.status.ReturnStatus.{ReturnStatus}
use Rattle.runtime_functions.specs.declared.status.ReturnStatus.TheVariants as told
use Rattle.runtime_functions.specs.Status.{ending_at, status_number}
use Rattle.metadata_plan.proofs.Flat.{at_place, branch_passed_comes, branch_taken_comes, Comes, end_step, weight_small}
use Rattle.metadata_relation.specs.Blocks.{end_code, status_code, status_tests}

-- ---- numbers

-- the ending that the number of a status tells
ending_by : (number line : ℕ) → Option Ending
ending_by n line =
    if n == 1 then Some (ending.Spatial line)
    else if n == 2 then Some (ending.Temporal line)
    else if n == 3 then Some (ending.BadCall line)
    else if n == 4 then Some (ending.BadFree line)
    else if n == 5 then Some (ending.Divide line)
    else if n == 6 then Some (ending.Stack line)
    else if n == 7 then Some (ending.Keys line)
    else if n == 8 then Some (ending.Abort line)
    else None

by_number : (k : ReturnStatus) (line : ℕ) → ending_at k line ≡ ending_by (status_number k) line
unfolding ending_by
by_number told.Completed line = refl
by_number told.Spatial line = refl
by_number told.Temporal line = refl
by_number told.BadCall line = refl
by_number told.BadFree line = refl
by_number told.Divide line = refl
by_number told.Stack line = refl
by_number told.Keys line = refl
by_number told.Abort line = refl

-- two statuses of a number tell the same ending
same_ending : (j k : ReturnStatus) (line : ℕ) → status_number j ≡ status_number k → ending_at j line ≡ ending_at k line
same_ending j k line e = by_number j line ∙ ap (λ n. ending_by n line) e ∙ sym (by_number k line)

-- the number is that of one of these
abbrev pub IsAmong : ℕ → List ReturnStatus → Type 0
IsAmong n [] = ⊥
IsAmong n (k ∷ ks) = (n ≡ status_number k) ⊎ IsAmong n ks

-- each of them tells an ending
abbrev pub AllEnd : List ReturnStatus → (line : ℕ) → Type 0
AllEnd [] line = Unit {0}
AllEnd (k ∷ ks) line = (length (end_code (ending_at k line)) ≡ 1) × AllEnd ks line

-- ---- the tests

module _ (m : MapSizes) (p : FlatProgram) (u : ℕ) (xs : List flat.Frame) where
  abbrev body : List FlatInstruction
  body = body_of (function_in p u)

  -- from a place the run ends, with at most so much work besides that of the report
  pub record EndsFrom (pc : ℕ) (v : flat.State) (e : Ending) (most : ℕ) : Type 0 where
    pub steps : ℕ
    pub work : ℕ
    pub few : work ≤ most + 2 * length (report_of e)
    pub comes : run (step m p) steps (flat.Stands u pc v xs)
        ≡ flat.Over (code_of e) (report_of e) (record v { work = v.work + work })

  end_comes : (pc : ℕ) (v : flat.State) (e : Ending) → instruction_at p u pc ≡ Some (End e) → EndsFrom pc v e 2
  end_comes pc v e at =
      let w = weight_of (function_in p u) in
      let l = length (report_of e) in
      let le : w * (1 + l) ≤ 2 * (1 + l) = mul-le-mul_right (1 + l) (weight_small (function_in p u)) in
      record {
        steps = 1;
        work = weight_of (function_in p u) * (1 + length (report_of e));
        few = omega (arith, le);
        comes = end_step m p u pc v xs e at;
      }

  pub then_ends : (pc q : ℕ) (v v' : flat.State) (e : Ending) (a b : ℕ) → (h : Comes m p u pc v xs q v' a)
      → EndsFrom q (record v' { work = v.work + h.work }) e b
      → (steps : ℕ) × ((work : ℕ) × ((work ≤ a + b + 2 * length (report_of e))
      × (run (step m p) steps (flat.Stands u pc v xs)
      ≡ flat.Over (code_of e) (report_of e) (record v' { work = v.work + work }))))
  then_ends pc q v v' e a b h k =
      let sum : v.work + h.work + k.work ≡ v.work + (h.work + k.work) = omega arith in
      let one = h.few in
      let two = k.few in (
        h.steps + k.steps,
        (
          h.work + k.work,
          (
            omega arith,
            run_add (step m p) h.steps k.steps (flat.Stands u pc v xs) ∙ ap (run (step m p) k.steps) h.comes ∙ k.comes
                ∙ ap (λ w. flat.Over (code_of e) (report_of e) (record v' { work = w })) sum,
          ),
        ),
      )

  further : (pc q : ℕ) (v : flat.State) (e : Ending) (a b : ℕ) → Comes m p u pc v xs q v a
      → ((w : ℕ) → EndsFrom q (record v { work = w }) e b) → EndsFrom pc v e (a + b)
  further pc q v e a b h k =
      let t = then_ends pc q v v e a b h (k (v.work + h.work)) in
      record { steps = t.0; work = t.1.0; few = t.1.1.0; comes = t.1.1.1 }

  more : (pc : ℕ) (v : flat.State) (e : Ending) (a b : ℕ) → a ≤ b → EndsFrom pc v e a → EndsFrom pc v e b
  more pc v e a b le h =
      let few = h.few in
      record { steps = h.steps; work = h.work; few = omega arith; comes = h.comes }

  module _ (r line : ℕ) where
    -- a status of 0 goes past the tests
    pub status_passed : (pc : ℕ) (ks : List ReturnStatus) (v : flat.State) → HasAt body pc (status_code r line ks)
        → v.values r ≡ 0 → Comes m p u pc v xs (pc + length (status_code r line ks)) v 2
    unfolding branch_taken
    status_passed pc ks v has is =
        at_place m p u pc v xs (pc + 1 + length (status_tests r line ks)) (pc + length (status_code r line ks)) v 2
        (branch_taken_comes m p u pc v xs Beq r (Number 0) (length (status_tests r line ks)) has.0
        (eq-eqb (v.values r) (low_bits 64 0) (is ∙ omega arith))) (omega arith)

    small_status : (k : ReturnStatus) → status_number k ≡ low_bits 64 (status_number k)
    small_status told.Completed = omega arith
    small_status told.Spatial = omega arith
    small_status told.Temporal = omega arith
    small_status told.BadCall = omega arith
    small_status told.BadFree = omega arith
    small_status told.Divide = omega arith
    small_status told.Stack = omega arith
    small_status told.Keys = omega arith
    small_status told.Abort = omega arith

    ends_here : (pc : ℕ) (v : flat.State) (e : Ending) (o : Option Ending) → o ≡ Some e
        → HasAt body pc (end_code o) → EndsFrom pc v e 2
    ends_here pc v e o is has = end_comes pc v e (subst (λ z. HasAt body pc (end_code z)) is has).0

    -- one that is tested ends the run
    tests_end : (ks : List ReturnStatus) (k : ReturnStatus) (pc : ℕ) (v : flat.State) (e : Ending)
        → HasAt body pc (status_tests r line ks) → AllEnd ks line → v.values r ≡ status_number k
        → IsAmong (status_number k) ks → ending_at k line ≡ Some e → EndsFrom pc v e (2 * length ks + 2)
    unfolding branch_taken
    tests_end [] k pc v e has all is among says = absurd among
    tests_end (j ∷ js) k pc v e has all is among says =
        by (λ w rest.
        (let len = all.0 in
        let place : pc + 1 + length (end_code (ending_at j line)) ≡ pc + 1 + 1 = omega arith in
        tests_end js k (pc + 1 + 1) (record v { work = w }) e
        (subst (λ z. HasAt body z (status_tests r line js)) place
        (has_back body (pc + 1) (end_code (ending_at j line)) (status_tests r line js) has.1))
        all.1 is rest says)) (v.values r == low_bits 64 (status_number j)) refl
      where
        other : (v.values r == low_bits 64 (status_number j)) ≡ false → IsAmong (status_number k) (j ∷ js)
            → IsAmong (status_number k) js
        other ne (inl same) =
            (let yes = eq-eqb (v.values r) (low_bits 64 (status_number j)) (is ∙ same ∙ small_status j) in
            let both = sym yes ∙ ne in absurd cc)
        other ne (inr rest) = rest

        by : ((w : ℕ) → IsAmong (status_number k) js
            → EndsFrom (pc + 1 + 1) (record v { work = w }) e (2 * length js + 2))
            → (b : Bool) → (v.values r == low_bits 64 (status_number j)) ≡ b
            → EndsFrom pc v e (2 * length (j ∷ js) + 2)
        by rest true same =
            let number = eqb-true (v.values r) (low_bits 64 (status_number j)) same in
            let one : status_number j ≡ status_number k = small_status j ∙ sym number ∙ is in
            more pc v e 4 (2 * length (j ∷ js) + 2) (omega arith)
            (further pc (pc + 1) v e 2 2
            (branch_passed_comes m p u pc v xs Bne r (Number (status_number j)) 1 has.0 (ap not same))
            (λ w. ends_here (pc + 1) (record v { work = w }) e (ending_at j line) (same_ending j k line one ∙ says)
            (has_front body (pc + 1) (end_code (ending_at j line)) (status_tests r line js) has.1)))
        by rest false ne =
            more pc v e (2 + (2 * length js + 2)) (2 * length (j ∷ js) + 2) (omega arith)
            (further pc (pc + 1 + 1) v e 2 (2 * length js + 2)
            (branch_taken_comes m p u pc v xs Bne r (Number (status_number j)) 1 has.0 (ap not ne))
            (λ w. rest w (other ne among)))

    pub status_ends : (ks : List ReturnStatus) (k : ReturnStatus) (pc : ℕ) (v : flat.State) (e : Ending)
        → HasAt body pc (status_code r line ks) → AllEnd ks line → v.values r ≡ status_number k
        → IsAmong (status_number k) ks → ending_at k line ≡ Some e → EndsFrom pc v e (2 * length ks + 4)
    unfolding branch_taken
    status_ends ks k pc v e has all is among says =
        more pc v e (2 + (2 * length ks + 2)) (2 * length ks + 4) (omega arith)
        (further pc (pc + 1) v e 2 (2 * length ks + 2)
        (branch_passed_comes m p u pc v xs Beq r (Number 0) (length (status_tests r line ks)) has.0
        (no_zero (v.values r == low_bits 64 0) refl))
        (λ w. tests_end ks k (pc + 1) (record v { work = w }) e has.1 all is among says))
      where
        none_zero : (j : ReturnStatus) → status_number j ≡ 0 → ending_at j line ≡ Some e → ⊥
        none_zero told.Completed zero h = absurd cc
        none_zero told.Spatial zero h = absurd (omega (arith, zero))
        none_zero told.Temporal zero h = absurd (omega (arith, zero))
        none_zero told.BadCall zero h = absurd (omega (arith, zero))
        none_zero told.BadFree zero h = absurd (omega (arith, zero))
        none_zero told.Divide zero h = absurd (omega (arith, zero))
        none_zero told.Stack zero h = absurd (omega (arith, zero))
        none_zero told.Keys zero h = absurd (omega (arith, zero))
        none_zero told.Abort zero h = absurd (omega (arith, zero))

        no_zero : (b : Bool) → (v.values r == low_bits 64 0) ≡ b → b ≡ false
        no_zero false ne = refl
        no_zero true zero =
            (let same = eqb-true (v.values r) (low_bits 64 0) zero in
            absurd (none_zero k (omega (arith, is, same)) says))
