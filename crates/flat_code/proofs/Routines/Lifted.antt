-- What a function does within itself, the run of the program does.
use Rattle.std.proofs.Common.{◌≡◌, ℕ, zero, suc, List, Option, Some, None, refl, ap, ◌∙◌}
use Rattle.std.specs.Prelude.{slice_get}
use Rattle.behaviours.specs.Steps.{run}
use Rattle.addr_map.specs.Places.{MapSizes}
use Rattle.flat_code.specs.declared.instruction.FlatInstruction.{FlatInstruction}
use Rattle.flat_code.specs.declared.instruction.FlatInstruction.TheVariants.{Constant, Move, Operate, Operate32}
use Rattle.flat_code.specs.declared.instruction.FlatInstruction.TheVariants.{Load, Store, Branch, JumpForward}
use Rattle.flat_code.specs.declared.instruction.FlatInstruction.TheVariants.{JumpBack, Turn, Call, CallAddress}
use Rattle.flat_code.specs.declared.instruction.FlatInstruction.TheVariants.{Return, Get, Put, Exit, End, Charged}
use Rattle.flat_code.specs.declared.function.FlatProgram.{FlatProgram}
use Rattle.flat_code.specs.Calls.{function_in}
use Rattle.flat_code.specs.State.{State, Frame, Stage, Stands, Over, Stuck}
use Rattle.flat_code.specs.Meaning.{Context, Local, Goes, Ends, Leaves, Fails, local, context, body_of, goes_to}
use Rattle.flat_code.specs.Meaning.{at_instruction, step}
use Rattle.flat_code.specs.Routines.Local.{counted, act, local_step, local_run}
use Rattle.flat_code.specs.Routines.Routine.{Outcome, Continues, Halts, left_at}
use Rattle.flat_code.specs.Routines.Lifted.{stage_of}

run_over : (m : MapSizes) (p : FlatProgram) (n status : ℕ) (report : List ℕ) (s : State)
    → run (step m p) n (Over status report s) ≡ Over status report s
run_over m p zero status report s = refl
run_over m p (suc n) status report s = run_over m p n status report s

module _ (m : MapSizes) (p : FlatProgram) (f : ℕ) (frames : List Frame) where
  abbrev code : List FlatInstruction
  code = body_of (function_in p f)

  abbrev c : Context
  c = context m p f frames

  -- where an instruction leads in the run, where it leads within the function
  abbrev Leads : Local → Stage → Type 0
  Leads (Goes pc s) x = x ≡ Stands f pc s frames
  Leads (Ends status report s) x = x ≡ Over status report s
  Leads Leaves x = Unit {0}
  Leads Fails x = x ≡ Stuck

  leads : (i : FlatInstruction) (pc : ℕ) (s : State) (l : Local) → Leads l (goes_to m p i f pc s frames l)
  leads i pc s (Goes q s') = refl
  leads i pc s (Ends status report s') = refl
  leads i pc s Leaves = tt
  leads i pc s Fails = refl

  one : (i : FlatInstruction) (pc : ℕ) (s : State)
      → Leads (local c i pc (counted c i s)) (at_instruction m p (Some i) f pc s frames)
  one (Constant x w) pc s = refl
  one (Move x y) pc s = refl
  one (Operate op x y z) pc s = refl
  one (Operate32 op x y z) pc s = refl
  one (Load op x y offset) pc s = leads (Load op x y offset) pc (counted c (Load op x y offset) s)
      (local c (Load op x y offset) pc (counted c (Load op x y offset) s))
  one (Store op y offset x) pc s = leads (Store op y offset x) pc (counted c (Store op y offset x) s)
      (local c (Store op y offset x) pc (counted c (Store op y offset x) s))
  one (Branch op y z past) pc s = refl
  one (JumpForward past) pc s = refl
  one (JumpBack back) pc s = refl
  one Turn pc s = refl
  one (Call g first x) pc s = tt
  one (CallAddress y first n x r) pc s = tt
  one (Return y) pc s = tt
  one (Get x) pc s = refl
  one (Put x) pc s = refl
  one (Exit x) pc s = refl
  one (End e) pc s = refl
  one (Charged x) pc s = refl

  one_step : (pc : ℕ) (s : State) → Leads (local_step c code (Goes pc s)) (step m p (Stands f pc s frames))
  one_step pc s = by (slice_get code pc)
    where
      by : (o : Option FlatInstruction) → Leads (act c o pc s) (at_instruction m p o f pc s frames)
      by None = refl
      by (Some i) = one i pc s

  left_leads : (n : ℕ) (l : Local) (pc : ℕ) (x : Outcome) (stage : Stage) → Leads l stage
      → local_run c code n l ≡ left_at pc x → run (step m p) n stage ≡ stage_of f frames pc x
  unfolding local_run
  left_leads zero (Goes pc s) pc' (Continues s') stage h e = h ∙ ap (λ l. stage_at l) e
    where
      stage_at : Local → Stage
      stage_at (Goes q z) = Stands f q z frames
      stage_at (Ends status report z) = Over status report z
      stage_at Leaves = Stuck
      stage_at Fails = Stuck
  left_leads zero (Goes pc s) pc' (Halts status report s') stage h e = cc
  left_leads zero (Ends status report s) pc (Continues s') stage h e = cc
  left_leads zero (Ends status report s) pc (Halts status' report' s') stage h e = h ∙ ap (λ l. stage_at l) e
    where
      stage_at : Local → Stage
      stage_at (Goes q z) = Stands f q z frames
      stage_at (Ends status report z) = Over status report z
      stage_at Leaves = Stuck
      stage_at Fails = Stuck
  left_leads zero Leaves pc (Continues s) stage h e = cc
  left_leads zero Leaves pc (Halts status report s) stage h e = cc
  left_leads zero Fails pc (Continues s) stage h e = cc
  left_leads zero Fails pc (Halts status report s) stage h e = cc
  left_leads (suc n) (Goes pc s) pc' x stage h e =
      ap (λ z. run (step m p) (suc n) z) h
      ∙ left_leads n (local_step c code (Goes pc s)) pc' x (step m p (Stands f pc s frames)) (one_step pc s) e
  left_leads (suc n) (Ends status report s) pc x stage h e =
      ap (λ z. run (step m p) (suc n) z) h ∙ left_leads n (Ends status report s) pc x (Over status report s) refl e
  left_leads (suc n) Leaves pc x stage h e = left_leads n Leaves pc x (step m p stage) tt e
  left_leads (suc n) Fails pc x stage h e =
      ap (λ z. run (step m p) (suc n) z) h ∙ left_leads n Fails pc x Stuck refl e

  -- what comes of a function's run within itself comes of the program's
  pub lifted : (n pc : ℕ) (s : State) (place : ℕ) (x : Outcome)
      → local_run c code n (Goes pc s) ≡ left_at place x
      → run (step m p) n (Stands f pc s frames) ≡ stage_of f frames place x
  lifted n pc s place x e = left_leads n (Goes pc s) place x (Stands f pc s frames) refl e
