-- Code that makes no access of memory does the same from any memory.
use Rattle.std.proofs.Common.{◌≡◌, ℕ, zero, suc, ◌+◌, ◌==◌, Bool, true, false, ◌&&◌, List, [], ◌∷◌, Option, Some}
use Rattle.std.proofs.Common.{None, refl, sym, ap, ◌∙◌, subst}
use Rattle.std.specs.Prelude.{if◌then◌else◌, slice_get}
use Rattle.behaviours.specs.Behaviour.{Behaviour, Meets, Follows}
use Rattle.behaviours.specs.Steps.{run}
use Rattle.addr_map.specs.Places.{MapSizes}
use Rattle.flat_code.specs.declared.instruction.FlatInstruction.{FlatInstruction}
use Rattle.flat_code.specs.declared.instruction.FlatInstruction.TheVariants as flat
use Rattle.flat_code.specs.declared.function.FlatFunction.{FlatFunction}
use Rattle.flat_code.specs.declared.function.FlatProgram.{FlatProgram}
use Rattle.flat_code.specs.Memory.{Bytes}
use Rattle.flat_code.specs.State.{State, Frame, Stage, Stands, Over, Stuck, seen}
use Rattle.flat_code.specs.Calls.{function_in}
use Rattle.flat_code.specs.Meaning.{Context, Local, Goes, Ends, Leaves, Fails, local, received, context, cost}
use Rattle.flat_code.specs.Meaning.{has_room, enters, parameters_of, results_of, returns, waiting, leaves, goes_to}
use Rattle.flat_code.specs.Meaning.{at_instruction, instruction_at, step, started, flat_meaning}
use Rattle.image_laws.proofs.Images.Instructions.{IsFit}

-- with another memory
abbrev state_with : Bytes → State → State
state_with b s = record s { memory = b }

abbrev with_memory : Bytes → Stage → Stage
with_memory b (Stands f pc s frames) = Stands f pc (state_with b s) frames
with_memory b (Over status report s) = Over status report (state_with b s)
with_memory b Stuck = Stuck

abbrev local_with : Bytes → Local → Local
local_with b (Goes pc s) = Goes pc (state_with b s)
local_with b (Ends status report s) = Ends status report (state_with b s)
local_with b Leaves = Leaves
local_with b Fails = Fails

module _ (b : Bytes) where
  received_same : (x : ℕ) (o : Option ℕ) (s : State) → received x o (state_with b s) ≡ state_with b (received x o s)
  received_same x None s = refl
  received_same x (Some byte) s = refl

  local_same : (c : Context) (i : FlatInstruction) (pc : ℕ) (s : State) → IsFit i
      → local c i pc (state_with b s) ≡ local_with b (local c i pc s)
  local_same c (flat.Constant x n) pc s fit = refl
  local_same c (flat.Move x y) pc s fit = refl
  local_same c (flat.Operate op x y z) pc s fit = refl
  local_same c (flat.Operate32 op x y z) pc s fit = refl
  local_same c (flat.Load op x y offset) pc s fit = absurd fit
  local_same c (flat.Store op y offset x) pc s fit = absurd fit
  local_same c (flat.Branch op y z past) pc s fit = refl
  local_same c (flat.JumpForward past) pc s fit = refl
  local_same c (flat.JumpBack back) pc s fit = refl
  local_same c flat.Turn pc s fit = refl
  local_same c (flat.Call f first x) pc s fit = refl
  local_same c (flat.CallAddress y first n x r) pc s fit = absurd fit
  local_same c (flat.Return y) pc s fit = refl
  local_same c (flat.Get x) pc s fit = ap (Goes (pc + 1)) (received_same x (slice_get s.input 0) s)
  local_same c (flat.Put x) pc s fit = refl
  local_same c (flat.Exit x) pc s fit = refl
  local_same c (flat.End e) pc s fit = refl
  local_same c (flat.Charged x) pc s fit = refl

  if_same : (t : Bool) (x : Stage) → (if t then with_memory b x else Stuck) ≡ with_memory b (if t then x else Stuck)
  if_same true x = refl
  if_same false x = refl

  module _ (m : MapSizes) (p : FlatProgram) where
    enters_same : (f first n r : ℕ) (o : Option FlatFunction) (frames : List Frame) (s : State)
        → enters m p f first n r o frames (state_with b s) ≡ with_memory b (enters m p f first n r o frames s)
    enters_same f first n r None frames s = refl
    enters_same f first n r (Some callee) frames s =
        if_same ((callee.parameters == n) && ((callee.results == r) && has_room m p frames callee)) _

    returns_same : (n y : ℕ) (frames : List Frame) (s : State)
        → returns n y frames (state_with b s) ≡ with_memory b (returns n y frames s)
    returns_same n y [] s = refl
    returns_same n y (x ∷ xs) s = refl

    leaves_same : (i : FlatInstruction) (f pc : ℕ) (s : State) (frames : List Frame) → IsFit i
        → leaves m p i f pc (state_with b s) frames ≡ with_memory b (leaves m p i f pc s frames)
    leaves_same (flat.Call g first x) f pc s frames fit =
        enters_same g first (parameters_of (function_in p g)) (results_of (function_in p g)) (function_in p g)
        (waiting f pc x s ∷ frames) s
    leaves_same (flat.CallAddress y first n x r) f pc s frames fit = absurd fit
    leaves_same (flat.Return y) f pc s frames fit = returns_same (results_of (function_in p f)) y frames s
    leaves_same _ f pc s frames fit = refl

    goes_same : (i : FlatInstruction) (f pc : ℕ) (s : State) (frames : List Frame) (l : Local) → IsFit i
        → goes_to m p i f pc (state_with b s) frames (local_with b l) ≡ with_memory b (goes_to m p i f pc s frames l)
    goes_same i f pc s frames (Goes q t) fit = refl
    goes_same i f pc s frames (Ends status report t) fit = refl
    goes_same i f pc s frames Leaves fit = leaves_same i f pc s frames fit
    goes_same i f pc s frames Fails fit = refl

    instruction_same : (o : Option FlatInstruction) (f pc : ℕ) (s : State) (frames : List Frame)
        → ((i : FlatInstruction) → o ≡ Some i → IsFit i)
        → at_instruction m p o f pc (state_with b s) frames ≡ with_memory b (at_instruction m p o f pc s frames)
    instruction_same None f pc s frames fit = refl
    instruction_same (Some i) f pc s frames fit =
        let t = record s { work = s.work + cost p f i } in
        ap (goes_to m p i f pc (state_with b t) frames) (local_same (context m p f frames) i pc t (fit i refl))
        ∙ goes_same i f pc t frames (local (context m p f frames) i pc t) (fit i refl)

    module _ (fit : (u pc : ℕ) (i : FlatInstruction) → instruction_at p u pc ≡ Some i → IsFit i) where
      step_same : (x : Stage) → step m p (with_memory b x) ≡ with_memory b (step m p x)
      step_same (Stands f pc s frames) = instruction_same (instruction_at p f pc) f pc s frames (fit f pc)
      step_same (Over status report s) = refl
      step_same Stuck = refl

      run_same : (n : ℕ) (x : Stage) → run (step m p) n (with_memory b x) ≡ with_memory b (run (step m p) n x)
      run_same zero x = refl
      run_same (suc n) x = ap (run (step m p) n) (step_same x) ∙ run_same n (step m p x)

      seen_same : (x : Stage) → seen (with_memory b x) ≡ seen x
      seen_same (Stands f pc s frames) = refl
      seen_same (Over status report s) = refl
      seen_same Stuck = refl

      stuck_same : (x : Stage) → with_memory b x ≡ Stuck → x ≡ Stuck
      stuck_same (Stands f pc s frames) e = cc
      stuck_same (Over status report s) e = cc
      stuck_same Stuck e = refl

      -- what its run shows it shows from this memory too
      pub meaning_same : (a : Bytes) (input : List ℕ) (n : ℕ)
          → flat_meaning m p b input n ≡ flat_meaning m p a input n
      meaning_same a input n =
          ap seen (run_same n (started p a input)) ∙ seen_same (run (step m p) n (started p a input))

      -- and it is not stuck
      pub never_stuck : (a : Bytes) (input : List ℕ) → ((k : ℕ) → run (step m p) k (started p a input) ≡ Stuck → ⊥)
          → (k : ℕ) → run (step m p) k (started p b input) ≡ Stuck → ⊥
      never_stuck a input fine k e =
          fine k (stuck_same (run (step m p) k (started p a input)) (sym (run_same k (started p a input)) ∙ e))

-- a behaviour that does the same at each moment is followed and follows as well
pub follows_same : (c : ℕ) (x y z : Behaviour) → Follows c x y → ((n : ℕ) → z n ≡ y n) → Follows c x z
follows_same c x y z f same = record {
  at = λ n. let h = f.at n in (h.0, subst (λ k. Meets c (x n) k) (sym (same h.0)) h.1);
}
