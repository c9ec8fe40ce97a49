-- Flat code follows a program whose instructions are all covered: from stage to stage, and so at each moment.
use Rattle.std.proofs.Common.{◌≡◌, ℕ, List, Option, Some, None, refl, sym, ap, ◌∙◌, subst, arith}
use Rattle.std.specs.Prelude.{slice_get}
use Rattle.behaviours.specs.Shown.{Status}
use Rattle.behaviours.specs.Behaviour.{Meets, Follows}
use Rattle.behaviours.specs.Steps.{run, seen_after, Simulates}
use Rattle.behaviours.proofs.Running.{follows_by_steps}
use Rattle.source_meaning.specs.State.{State}
use Rattle.source_meaning.specs.Meaning.{fresh}
use Rattle.tac_ir.specs.declared.instruction.Instruction.{Instruction}
use Rattle.tac_ir.specs.declared.function.Tac.{Tac}
use Rattle.tac_ir.specs.Stage.{Temps, Frame, Stage, Begins, Stands, Over, Stuck, seen}
use Rattle.tac_ir.specs.Meaning.{step, code_of, act_at, objects_before, setting_of_code, first_stage, tac_meaning}
use Rattle.flat_code.specs.Memory.{Bytes, AreBytes, store}
use Rattle.flat_code.specs.State as flat
use Rattle.flat_code.specs.Meaning.{step as flat_step, started, flat_meaning}
use Rattle.flat_code.specs.Words.{HasWords}
use Rattle.flat_code.specs.Routines.Metadata.{View}
use Rattle.flat_code.specs.Routines.Objects.StandsFor.{StandsFor, global_lock}
use Rattle.flat_code.specs.Routines.Objects.Start.{start_keys}
use Rattle.flat_code.proofs.Routines.Words.{IsLocal}
use Rattle.flat_actions.specs.Actions.{AreSpacesGood}
use Rattle.metadata_plan.proofs.Flat.{words_kept}
use Rattle.metadata_plan.proofs.Following.{shown_is}
use Rattle.metadata_relation.specs.Stages.{factor, Compiled, map_of, views, expansion_of, MatchesBy, Matches}
use Rattle.metadata_relation.specs.Steps.{IsCompiled, CoversMain, AreAllCovered, ComesToMatch}
use Rattle.metadata_relation.proofs.Begins.{begins}
use Rattle.metadata_relation.proofs.Following.{covered_step}
use Rattle.metadata_relation.proofs.Standing.{Result}

-- the entries of a form depend on its own space alone
pub local_by : (c : Compiled) (IsGood : Bytes → Type 0) (entry : View) → c.entry ≡ entry
    → IsLocal (map_of c) entry IsGood → IsLocal (map_of c) c.entry IsGood
local_by c IsGood entry same local = subst (λ z. IsLocal (map_of c) z IsGood) (sym same) local

-- a result from where words are words
from_result : (c : Compiled) (IsGood : Bytes → Type 0) (a : Stage) (x : flat.Stage) → HasWords x → Result c IsGood a x
    → ComesToMatch c IsGood a x
from_result c IsGood a x w r = record {
  steps = r.steps;
  matches = record { matches = r.matches; words = words_kept (map_of c) c.layout.program r.steps x w };
}

pub begins_to : (c : Compiled) (IsGood : Bytes → Type 0) (right : IsCompiled c IsGood)
    → IsLocal (map_of c) c.entry IsGood → CoversMain c → (s : State) (x : flat.Stage)
    → Matches c IsGood (Begins s) x
    → ComesToMatch c IsGood (step c.setting (expansion_of c).code (Begins s)) x
begins_to c IsGood right local covered s x h =
    from_result c IsGood (step c.setting (expansion_of c).code (Begins s)) x h.words
    (begins c IsGood right local covered s x h.matches h.words)

module _ (c : Compiled) (IsGood : Bytes → Type 0) (right : IsCompiled c IsGood)
    (local : IsLocal (map_of c) c.entry IsGood) (covered : AreAllCovered c) where
  -- the node of a stage that matches
  node_step : (u n : ℕ) (temps : Temps) (ws : List Frame) (s : State) (x : flat.Stage)
      → Matches c IsGood (Stands u n temps ws s) x
      → (step c.setting (expansion_of c).code (Stands u n temps ws s) ≡ Stuck → ⊥)
      → ComesToMatch c IsGood (step c.setting (expansion_of c).code (Stands u n temps ws s)) x
  node_step u n temps ws s x h fine = by x h.matches h
    where
      by : (x : flat.Stage) → MatchesBy c IsGood (Stands u n temps ws s) x → Matches c IsGood (Stands u n temps ws s) x
          → ComesToMatch c IsGood (step c.setting (expansion_of c).code (Stands u n temps ws s)) x
      by (flat.Over status report v) m h = absurd m
      by flat.Stuck m h = absurd m
      by (flat.Stands f pc v xs) m h = there (slice_get m.code.code n) refl
        where
          there : (o : Option Instruction) → slice_get m.code.code n ≡ o
              → ComesToMatch c IsGood (step c.setting (expansion_of c).code (Stands u n temps ws s))
              (flat.Stands f pc v xs)
          there None e =
              let none : slice_get (code_of (slice_get (expansion_of c).code.functions u)) n ≡ None =
              ap (λ o. slice_get (code_of o) n) m.there ∙ e in
              absurd (fine (ap (λ o. act_at c.setting (expansion_of c).code o u temps ws s) none))
          there (Some i) e =
              let both = covered.each u n m.code i m.there e in
              covered_step c IsGood right u n temps ws s
              (record { code = m.code; there = m.there; instruction = i; at = e; covered = both.0; admitted = both.1 })
              fine (flat.Stands f pc v xs) h

  one_step : (a : Stage) (x : flat.Stage) → Matches c IsGood a x
      → (step c.setting (expansion_of c).code a ≡ Stuck → ⊥)
      → ComesToMatch c IsGood (step c.setting (expansion_of c).code a) x
  one_step (Begins s) x h fine = begins_to c IsGood right local covered.first s x h
  one_step (Stands u n temps ws s) x h fine = node_step u n temps ws s x h fine
  one_step (Over e s) x h fine = record { steps = 0; matches = h }
  one_step Stuck x h fine = absurd h.matches

  meets : (a : Stage) (x : flat.Stage) → MatchesBy c IsGood a x → Meets factor (seen a) (flat.seen x)
  meets (Begins s) x h =
      let first = fresh c.setting (objects_before (expansion_of c).code c.setting) h.input in
      let same : Meets factor (seen (Begins first)) (flat.seen (started c.layout.program h.memory h.input)) =
      record { shown = refl; turns = omega arith; work = omega arith } in
      subst (λ z. Meets factor (seen (Begins z)) (flat.seen x)) (sym h.fresh_is)
      (subst (λ z. Meets factor (seen (Begins first)) (flat.seen z)) (sym h.started_is) same)
  meets (Stands u n temps ws s) (flat.Stands f pc v xs) h =
      let shown = h.stands.for.shown in
      let turns = h.stands.turns in
      let work = h.work in
      record {
        shown = shown_is (seen (Stands u n temps ws s)).shown (flat.seen (flat.Stands f pc v xs)).shown
            (sym shown.output) refl (sym shown.taken) (sym shown.accesses) refl;
        turns = omega (arith, turns);
        work = omega (arith, work);
      }
  meets (Stands u n temps ws s) (flat.Over status report v) h = absurd h
  meets (Stands u n temps ws s) flat.Stuck h = absurd h
  meets (Over e s) (flat.Over status report v) h =
      let turns = h.turns in
      let work = h.work in
      record {
        shown = shown_is (seen (Over e s)).shown (flat.seen (flat.Over status report v)).shown (sym h.shown.output)
            (sym h.report_is) (sym h.shown.taken) (sym h.shown.accesses) (ap (λ z. Some (Status z)) (sym h.status_is));
        turns = omega (arith, turns);
        work = omega (arith, work);
      }
  meets (Over e s) (flat.Stands f pc v xs) h = absurd h
  meets (Over e s) flat.Stuck h = absurd h
  meets Stuck x h = absurd h

  simulates : Simulates factor (step c.setting (expansion_of c).code) seen (flat_step (map_of c) c.layout.program)
      flat.seen (λ (x : Stage). x ≡ Stuck → ⊥) (Matches c IsGood)
  simulates = record {
    one = λ a x h fine. (let r = one_step a x h fine in (r.steps, r.matches));
    meets = λ a x h. meets a x h.matches;
  }

  pub program_followed : c.setting ≡ setting_of_code (expansion_of c).code (map_of c).budgets → (memory : Bytes)
      → AreBytes memory
      → StandsFor (views c) (start_keys (views c)) (objects_before (expansion_of c).code c.setting)
      (store 8 memory (global_lock (map_of c)) 1)
      → AreSpacesGood (map_of c) IsGood (store 8 memory (global_lock (map_of c)) 1) → (input : List ℕ)
      → ((k : ℕ) → run (step (setting_of_code (expansion_of c).code (map_of c).budgets) (expansion_of c).code) k
      (first_stage (expansion_of c).code (map_of c).budgets input) ≡ Stuck → ⊥)
      → Follows factor (tac_meaning (expansion_of c).code (map_of c).budgets input)
      (flat_meaning (map_of c) c.layout.program memory input)
  program_followed setting memory bytes stands spaces input =
      let t : Tac = (expansion_of c).code in
      subst (λ g. ((k : ℕ) → run (step g t) k (Begins (fresh g (objects_before t g) input)) ≡ Stuck → ⊥)
      → Follows factor (seen_after (step g t) seen (Begins (fresh g (objects_before t g) input)))
      (flat_meaning (map_of c) c.layout.program memory input)) setting
      (λ fine. follows_by_steps factor (step c.setting t) seen (flat_step (map_of c) c.layout.program) flat.seen
      (λ (x : Stage). x ≡ Stuck → ⊥) (Matches c IsGood) simulates
      (Begins (fresh c.setting (objects_before t c.setting) input)) (started c.layout.program memory input)
      (record {
        matches = record {
          input = input;
          memory = memory;
          fresh_is = refl;
          started_is = refl;
          stands = stands;
          spaces = spaces;
        };
        words = (record { values = λ x. omega arith; memory = bytes }, tt);
      })
      fine)
