-- That the first violation in a judgement is what typing answers.
use Rattle.std.specs.Prelude.{◌≡◌, List, [], ◌∷◌, Option, Some, None, Ok, Err}
use Rattle.c_faults.specs.declared.fault.Fault.{Fault}
use Rattle.c_faults.specs.Answer.{Answer}
use Rattle.typing_laws.specs.Violations.Judgements.{Judgement, Violation}

abbrev pub first_of : List Violation → Option Fault
first_of [] = None
first_of (v ∷ vs) = Some v.fault

abbrev pub fault_of : {A : Type 0} → Answer A → Option Fault
fault_of (Ok x) = None
fault_of (Err f) = Some f

-- Typing answers the first violation, and what the construct is typed to is not known; where there is none, it answers
-- what is known and the state behind it.
abbrev pub Agree : {S A : Type 0} → Judgement S A → Answer (S × A) → Type 0
Agree j (Ok r) = j ≡ record { violations = []; state = r.0; known = Some r.1 }
Agree j (Err f) = (first_of j.violations ≡ Some f) × (j.known ≡ None)

pub record Agrees {S A : Type 0} (judgement : Judgement S A) (answer : Answer (S × A)) : Type 0 where
  pub by : Agree judgement answer
