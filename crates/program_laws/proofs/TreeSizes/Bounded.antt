-- Bounds on the size of answers, along the steps that give them.
use Rattle.std.proofs.Common.{◌≡◌, ℕ, ◌≤◌, refl, subst, arith}
use Rattle.std.specs.Prelude.{Ok, Err}
use Rattle.c_faults.specs.declared.fault.Fault.{Fault}
use Rattle.c_faults.specs.Answer.{Answer, ◌>>=◌}
use Rattle.program_laws.specs.TreeSizes.AtMost.{AtMost, no_size}

abbrev answered : {A : Type 0} → A → Answer A
answered x = Ok x

abbrev refused : {A : Type 0} → Fault → Answer A
refused f = Err f

same_ok : {A : Type 0} (x y : A) → answered x ≡ answered y → x ≡ y
same_ok x y e = cc

no_err : {A C : Type 0} (f : Fault) (y : A) → refused f ≡ answered y → C
no_err f y e = absurd cc

pub gives : {A : Type 0} {size : A → ℕ} {most : ℕ} {x : A} → size x ≤ most → AtMost size most (Ok x)
gives {size = size} {most = most} {x = x} h =
    record { each = λ y e. subst (λ z. size z ≤ most) (same_ok x y e) h }

pub refuses : {A : Type 0} {size : A → ℕ} {most : ℕ} {f : Fault} → AtMost size most (Err f)
refuses {f = f} = record { each = λ y e. no_err f y e }

-- of what has no size nothing is known
pub anything : {A : Type 0} (a : Answer A) → AtMost no_size 0 a
anything a = record { each = λ x e. omega arith }

bind_ok : {A B : Type 0} (a : Answer A) (next : A → Answer B) (y : B) → (a >>= next) ≡ Ok y
    → (x : A) × (a ≡ Ok x) × (next x ≡ Ok y)
bind_ok (Ok x) next y e = (x, refl, e)
bind_ok (Err f) next y e = no_err f y e

pub then_gives : {A B : Type 0} {size : A → ℕ} {size' : B → ℕ} {m n : ℕ} {a : Answer A} {next : A → Answer B}
    → AtMost size m a → ((x : A) → size x ≤ m → AtMost size' n (next x)) → AtMost size' n (a >>= next)
then_gives {a = a} {next = next} h go = record {
  each = λ y e.
      let b = bind_ok a next y e in
      (go b.0 (h.each b.0 b.1)).each y b.2;
}

pub more : {A : Type 0} {size : A → ℕ} {m n : ℕ} {a : Answer A} → m ≤ n → AtMost size m a → AtMost size n a
more h g = record { each = λ x e. let low = g.each x e in omega arith }
