-- What a construct gives: its typed form, or the first rule that it violates.
use Rattle.std.specs.Prelude.{◌≡◌, ℕ, Result, Ok, Err}
use Rattle.c_faults.specs.declared.fault.Fault.{Fault}
use Rattle.c_faults.specs.declared.fault.Refusal.{Refusal}
use Rattle.c_faults.specs.declared.fault.Refusal.TheVariants as refusal
use Rattle.c_faults.specs.declared.fault.Rule.{Rule}

abbrev pub Answer : Type 0 → Type 0
Answer A = Result A Fault

infixl 10 ◌>>=◌
abbrev pub ◌>>=◌ : {A B : Type 0} → Answer A → (A → Answer B) → Answer B
(Ok x) >>= next = next x
(Err f) >>= next = Err f

-- a rule is violated at a token on a line
abbrev pub violates : {A : Type 0} → Rule → (line : ℕ) → Answer A
violates rule line = Err (record { rule = rule; line = line })

-- what a function answered, seen by a view, is what is defined; for want of memory nothing is claimed
abbrev pub Fails : {B : Type 0} → Refusal → Answer B → Type 0
Fails refusal.Memory defined = Unit {0}
Fails (refusal.Fault f) defined = defined ≡ Err f

abbrev pub Gives : {A B : Type 0} → (A → B) → Result A Refusal → Answer B → Type 0
Gives view (Ok x) defined = defined ≡ Ok (view x)
Gives view (Err e) defined = Fails e defined
