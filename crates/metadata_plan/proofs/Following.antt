-- Flat code follows three-address code.
use Rattle.std.proofs.Common.{◌*◌, ◌≡◌, ℕ, ◌^◌, ◌<◌, ◌≤◌, refl, sym, ap, ◌∙◌, subst, arith, List}
use Rattle.std.proofs.Common.{Option, Some, None}
use Rattle.std.specs.Prelude.{slice_get}
use Rattle.behaviours.specs.Shown.{Shown, Status}
use Rattle.behaviours.specs.Behaviour.{Behaviour, Follows, Meets, IsSource}
use Rattle.behaviours.specs.Steps.{run, Simulates, IsStepping}
use Rattle.behaviours.proofs.Following.{follows_trans}
use Rattle.behaviours.proofs.Running.{follows_by_steps, never_stuck}
use Rattle.tac_ir.proofs.Turns.{follower_never_stuck}
use Rattle.tac_ir.proofs.Fits.{act_fits}
use Rattle.addr_map.specs.Places.{MapSizes, AreMapped}
use Rattle.sb_base.specs.Budgets.{BudgetSizes}
use Rattle.source_meaning.specs.State.{State, Setting}
use Rattle.source_meaning.specs.Places.{stack_first, stack_end}
use Rattle.source_meaning.specs.Meaning.{fresh}
use Rattle.tac_ir.specs.declared.instruction.Instruction.{Instruction}
use Rattle.tac_ir.specs.declared.instruction.Instruction.TheVariants as tac
use Rattle.tac_ir.specs.declared.function.Tac.{Tac}
use Rattle.tac_ir.specs.Stage.{Temps, Frame, Stage, Begins, Stands, Over, Stuck, seen}
use Rattle.tac_ir.specs.Costs.{cost, spent}
use Rattle.tac_ir.specs.Meaning.{effect, act_at, code_of, step, setting_of_code, objects_before, first_stage}
use Rattle.tac_ir.specs.Meaning.{tac_meaning}
use Rattle.flat_code.specs.declared.function.FlatProgram.{FlatProgram}
use Rattle.flat_code.specs.Memory.{Bytes, AreBytes}
use Rattle.flat_code.specs.State as flat
use Rattle.flat_code.specs.Meaning.{step as flat_step, started, flat_meaning}
use Rattle.flat_code.specs.Words.{HasWords}
use Rattle.flat_code.specs.Routines.Objects.StandsFor.{Views}
use Rattle.flat_code.specs.Routines.Objects.Start.{start_keys, IsStart}
use Rattle.flat_code.proofs.Routines.Objects.Starts.{starts}
use Rattle.metadata_plan.specs.Operators.{OperatorCode, AreOperators}
use Rattle.metadata_plan.specs.Expanded.{IsExpanded}
use Rattle.metadata_plan.specs.Part.{IsIntegerCode}
use Rattle.metadata_plan.specs.Matching.{factor, IsAt, MatchesBy, Matches}
use Rattle.metadata_plan.proofs.Flat.{words_kept}
use Rattle.metadata_plan.proofs.Standing.{node, Result}
use Rattle.metadata_plan.proofs.Simple.{constant, get_plain, set_plain, zero_of, convert, unary, binary, branch, case}
use Rattle.metadata_plan.proofs.Simple.{turn}
use Rattle.metadata_plan.proofs.Updating.{update_plain_step}
use Rattle.metadata_plan.proofs.Library.{library_step}
use Rattle.metadata_plan.proofs.Stepping.{call_step, return_step, begins}

-- what is shown, by its parts
pub shown_is : (a b : Shown) → a.output ≡ b.output → a.errors ≡ b.errors → a.taken ≡ b.taken → a.accesses ≡ b.accesses
    → a.ending ≡ b.ending → a ≡ b
shown_is a b o e t x n =
    ap (λ q. record { output = q; errors = a.errors; taken = a.taken; accesses = a.accesses; ending = a.ending }) o
    ∙ ap (λ q. record { output = b.output; errors = q; taken = a.taken; accesses = a.accesses; ending = a.ending }) e
    ∙ ap (λ q. record { output = b.output; errors = b.errors; taken = q; accesses = a.accesses; ending = a.ending }) t
    ∙ ap (λ q. record { output = b.output; errors = b.errors; taken = b.taken; accesses = q; ending = a.ending }) x
    ∙ ap (λ q. record { output = b.output; errors = b.errors; taken = b.taken; accesses = b.accesses; ending = q }) n

module _ (o : OperatorCode) (views : Views) (g : Setting) (t : Tac) (address : (function node : ℕ) → ℕ)
    (p : FlatProgram) (ops : AreOperators o) (ex : IsExpanded o g.sizes t address p)
    (part : IsIntegerCode t) (low : g.sizes.budgets.calls < 2 ^ 63) (stack : stack_first g ≤ stack_end g) where
  abbrev m : MapSizes
  m = g.sizes

  -- what an instruction of the part does
  instruction : (u n : ℕ) (temps : Temps) (ws : List Frame) (s : State) (v : flat.State) (xs : List flat.Frame)
      → (h : IsAt views g t address p u n temps ws s u (address u n) v xs)
      → HasWords (flat.Stands u (address u n) v xs) → (i : Instruction) → slice_get h.code.code n ≡ Some i
      → Result o views g t address p ops ex part (effect g t i u temps ws (spent (cost i) s))
      (flat.Stands u (address u n) v xs)
  instruction u n temps ws s v xs h w (tac.Constant d k next) at =
      constant o views g t address p ops ex part u n temps ws s v xs h w.0 d k next at
  instruction u n temps ws s v xs h w (tac.GetPlain d x next) at =
      get_plain o views g t address p ops ex part u n temps ws s v xs h w.0 d x next at
  instruction u n temps ws s v xs h w (tac.SetPlain x a next) at =
      set_plain o views g t address p ops ex part u n temps ws s v xs h w.0 x a next at
  instruction u n temps ws s v xs h w (tac.UpdatePlain update k f line d x right next) at =
      update_plain_step o views g t address p ops ex part u n temps ws s v xs h w update k f line d x right next at
  instruction u n temps ws s v xs h w (tac.ZeroOf kind d next) at =
      zero_of o views g t address p ops ex part u n temps ws s v xs h w.0 kind d next at
  instruction u n temps ws s v xs h w (tac.Convert kind d a next) at =
      convert o views g t address p ops ex part u n temps ws s v xs h w.0 kind d a next at
  instruction u n temps ws s v xs h w (tac.Unary op ty d a next) at =
      unary o views g t address p ops ex part u n temps ws s v xs h w.0 op ty d a next at
  instruction u n temps ws s v xs h w (tac.Binary op ty line d a b next) at =
      binary o views g t address p ops ex part u n temps ws s v xs h w.0 op ty line d a b next at
  instruction u n temps ws s v xs h w (tac.Branch a x y) at =
      branch o views g t address p ops ex part u n temps ws s v xs h w.0 a x y at
  instruction u n temps ws s v xs h w (tac.Case a k x y) at =
      case o views g t address p ops ex part u n temps ws s v xs h w.0 a k x y at
  instruction u n temps ws s v xs h w (tac.Turn counted next) at =
      turn o views g t address p ops ex part u n temps ws s v xs h w.0 counted next at
  instruction u n temps ws s v xs h w (tac.Library r line d count next) at =
      library_step o views g t address p ops ex part u n temps ws s v xs h w.0 r line d count next at
  instruction u n temps ws s v xs h w (tac.Call f line d count next) at =
      call_step o views g t address p ops ex part low stack u n temps ws s v xs h f line d count next at
  instruction u n temps ws s v xs h w (tac.Return a) at =
      return_step o views g t address p ops ex part low stack u n temps ws s v xs h a at
  instruction u n temps ws s v xs h w i at =
      let fine = (node o views g t address p ops ex part u h.code n i h.there h.safe at).part in cc

  -- a step from a node
  stands : (u n : ℕ) (temps : Temps) (ws : List Frame) (s : State) (v : flat.State) (xs : List flat.Frame)
      → IsAt views g t address p u n temps ws s u (address u n) v xs → HasWords (flat.Stands u (address u n) v xs)
      → (step g t (Stands u n temps ws s) ≡ Stuck → ⊥)
      → Result o views g t address p ops ex part (step g t (Stands u n temps ws s)) (flat.Stands u (address u n) v xs)
  stands u n temps ws s v xs h w fine =
      by (slice_get (code_of (slice_get t.functions u)) n) refl fine
    where
      by : (q : Option Instruction) → slice_get (code_of (slice_get t.functions u)) n ≡ q
          → (act_at g t q u temps ws s ≡ Stuck → ⊥)
          → Result o views g t address p ops ex part (act_at g t q u temps ws s) (flat.Stands u (address u n) v xs)
      by None e not_stuck = absurd (not_stuck refl)
      by (Some i) e not_stuck =
          subst (λ z. Result o views g t address p ops ex part z (flat.Stands u (address u n) v xs))
          (sym (act_fits g t i u temps ws (spent (cost i) s) not_stuck).1)
          (instruction u n temps ws s v xs h w i (sym (ap (λ z. slice_get (code_of z) n) h.there) ∙ e))

  one_step : (a : Stage) (x : flat.Stage) → MatchesBy views g t address p a x → HasWords x
      → (step g t a ≡ Stuck → ⊥) → Result o views g t address p ops ex part (step g t a) x
  one_step (Begins s) x h w fine = begins o views g t address p ops ex part low stack s x h
  one_step (Stands u n temps ws s) (flat.Stands f pc v xs) h w fine =
      moved f (sym h.function) pc (sym h.place) h w
    where
      moved : (f : ℕ) → u ≡ f → (pc : ℕ) → address u n ≡ pc
          → IsAt views g t address p u n temps ws s f pc v xs → HasWords (flat.Stands f pc v xs)
          → Result o views g t address p ops ex part (step g t (Stands u n temps ws s)) (flat.Stands f pc v xs)
      moved f e pc k h w =
          subst (λ z. IsAt views g t address p u n temps ws s z pc v xs → HasWords (flat.Stands z pc v xs)
          → Result o views g t address p ops ex part (step g t (Stands u n temps ws s)) (flat.Stands z pc v xs)) e
          (subst (λ z. IsAt views g t address p u n temps ws s u z v xs → HasWords (flat.Stands u z v xs)
          → Result o views g t address p ops ex part (step g t (Stands u n temps ws s)) (flat.Stands u z v xs)) k
          (λ h' w'. stands u n temps ws s v xs h' w' fine)) h w
  one_step (Stands u n temps ws s) (flat.Over status report v) h w fine = absurd h
  one_step (Stands u n temps ws s) flat.Stuck h w fine = absurd h
  one_step (Over e s) x h w fine = record { steps = 0; matches = h }
  one_step Stuck x h w fine = absurd h

  meets : (a : Stage) (x : flat.Stage) → MatchesBy views g t address p a x → Meets factor (seen a) (flat.seen x)
  meets (Begins s) x h =
      let same : Meets factor (seen (Begins (fresh g (objects_before t g) h.input)))
      (flat.seen (started p h.memory h.input)) =
      record { shown = refl; turns = omega arith; work = omega arith } in
      subst (λ z. Meets factor (seen (Begins z)) (flat.seen x)) (sym h.fresh_is)
      (subst (λ z. Meets factor (seen (Begins (fresh g (objects_before t g) h.input))) (flat.seen z))
      (sym h.started_is) same)
  meets (Stands u n temps ws s) (flat.Stands f pc v xs) h = record {
    shown = shown_is (seen (Stands u n temps ws s)).shown (flat.seen (flat.Stands f pc v xs)).shown
        (sym h.alike.output) refl (sym h.alike.taken) (sym h.alike.accesses) refl;
    turns = omega (arith, h.alike.turns);
    work = omega (arith, h.work);
  }
  meets (Stands u n temps ws s) (flat.Over status report v) h = absurd h
  meets (Stands u n temps ws s) flat.Stuck h = absurd h
  meets (Over e s) (flat.Over status report v) h = record {
    shown = shown_is (seen (Over e s)).shown (flat.seen (flat.Over status report v)).shown (sym h.alike.output)
        (sym h.report_is) (sym h.alike.taken) (sym h.alike.accesses)
        (ap (λ z. Some (Status z)) (sym h.status_is));
    turns = omega (arith, h.alike.turns);
    work = omega (arith, h.work);
  }
  meets (Over e s) (flat.Stands f pc v xs) h = absurd h
  meets (Over e s) flat.Stuck h = absurd h
  meets Stuck x h = absurd h

  pub simulates : Simulates factor (step g t) seen (flat_step g.sizes p) flat.seen (λ (x : Stage). x ≡ Stuck → ⊥)
      (Matches views g t address p)
  simulates = record {
    one = λ a x h fine.
        let r = one_step a x h.matches h.words fine in
        (r.steps, record { matches = r.matches; words = words_kept g.sizes p r.steps x h.words });
    meets = λ a x h. meets a x h.matches;
  }

stack_is : (g : Setting) → stack_first g ≤ stack_end g
stack_is g = omega arith

pub code_follows : (o : OperatorCode) → AreOperators o → (t : Tac) → IsIntegerCode t → (budgets : BudgetSizes)
    (address : (function node : ℕ) → ℕ) (p : FlatProgram)
    → IsExpanded o (setting_of_code t budgets).sizes t address p → AreMapped (setting_of_code t budgets).sizes
    → (views : Views) (memory : Bytes) → views.sizes ≡ (setting_of_code t budgets).sizes
    → IsStart views (objects_before t (setting_of_code t budgets)) memory → AreBytes memory → (input : List ℕ)
    → ((k : ℕ) → run (step (setting_of_code t budgets) t) k (first_stage t budgets input) ≡ Stuck → ⊥)
    → Follows factor (tac_meaning t budgets input)
    (flat_meaning (setting_of_code t budgets).sizes p memory input)
code_follows o ops t part budgets address p ex mapped views memory sizes start bytes input fine =
    let g = setting_of_code t budgets in
    let calls = mapped.budgets.calls.greatest in
    follows_by_steps factor (step g t) seen (flat_step g.sizes p) flat.seen (λ (x : Stage). x ≡ Stuck → ⊥)
    (Matches views g t address p)
    (simulates o views g t address p ops ex part (omega arith) (stack_is g)) (first_stage t budgets input)
    (started p memory input)
    (record {
      matches = record {
        input = input;
        memory = memory;
        keys = start_keys views;
        fresh_is = refl;
        started_is = refl;
        stands = starts views (objects_before t g) memory (subst AreMapped (sym sizes) mapped) start;
      };
      words = (record { values = λ x. omega arith; memory = bytes }, tt);
    })
    fine

module _ (o : OperatorCode) (ops : AreOperators o) (t : Tac) (part : IsIntegerCode t) (budgets : BudgetSizes)
    (address : (function node : ℕ) → ℕ) (p : FlatProgram)
    (ex : IsExpanded o (setting_of_code t budgets).sizes t address p)
    (mapped : AreMapped (setting_of_code t budgets).sizes) (views : Views) (memory : Bytes)
    (sizes : views.sizes ≡ (setting_of_code t budgets).sizes)
    (start : IsStart views (objects_before t (setting_of_code t budgets)) memory) (bytes : AreBytes memory)
    (input : List ℕ) (c : ℕ) (a : Behaviour) (source : IsSource a) (f : Follows c a (tac_meaning t budgets input)) where
  -- what the program follows its expansion follows
  pub source_followed : Follows (factor * c) a (flat_meaning (setting_of_code t budgets).sizes p memory input)
  source_followed =
      follows_trans c factor a (tac_meaning t budgets input)
      (flat_meaning (setting_of_code t budgets).sizes p memory input) f
      (code_follows o ops t part budgets address p ex mapped views memory sizes start bytes input
      (follower_never_stuck t budgets input c a source f))

  -- and is never stuck
  pub expansion_runs : IsStepping (flat_step (setting_of_code t budgets).sizes p) flat.seen
      (λ (x : flat.Stage). x ≡ flat.Stuck) → (k : ℕ)
      → run (flat_step (setting_of_code t budgets).sizes p) k (started p memory input) ≡ flat.Stuck → ⊥
  expansion_runs steps k e =
      never_stuck (flat_step (setting_of_code t budgets).sizes p) flat.seen (λ (x : flat.Stage). x ≡ flat.Stuck) steps
      (factor * c) a (started p memory input) refl source source_followed k e
