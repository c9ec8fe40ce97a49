-- Parts that agree with what typing answers make constructs that do.
use Rattle.std.proofs.Common.{◌≡◌, ℕ, refl, sym, ap, subst, List, [], ◌∷◌, ◌++◌, Option, Some}
use Rattle.std.proofs.lemmas.Option.{none-some}
use Rattle.std.specs.Prelude.{Ok, Err, option_map}
use Rattle.c_faults.specs.declared.fault.Fault.{Fault}
use Rattle.c_faults.specs.Answer.{Answer, ◌>>=◌}
use Rattle.typing_laws.specs.Violations.Agreeing.{Agree, Agrees, fault_of, first_of}
use Rattle.typing_laws.specs.Violations.Judgements.{Violation, both, if_known, Judgement, Judging, answered, followed}
use Rattle.typing_laws.specs.Violations.Judgements.{made}
use Rattle.typing_laws.specs.Violations.Judgements.{rule_at}
use Rattle.typing_laws.specs.Violations.Judgements.{with_second}

pub first_in : (f : Fault) (fs gs : List Violation) → first_of fs ≡ Some f → first_of (fs ++ gs) ≡ Some f
first_in f [] gs e = absurd (none-some f e)
first_in f (g ∷ fs) gs e = e

agree_first : {S A : Type 0} (j : Judgement S A) (x : Answer (S × A)) → Agree j x
    → first_of j.violations ≡ fault_of x
agree_first j (Ok r) e = ap (λ k. first_of k.violations) e
agree_first j (Err f) e = e.0

pub first_is : {S A : Type 0} {j : Judgement S A} {x : Answer (S × A)} → Agrees j x
    → first_of j.violations ≡ fault_of x
first_is {j = j} {x = x} e = agree_first j x e.by

pub answer_agrees : {S A : Type 0} (n : ℕ) (s : S) (x : Answer (S × A)) → Agrees (answered n s x) x
answer_agrees n s (Ok r) = record { by = refl }
answer_agrees n s (Err f) = record { by = (refl, refl) }

-- what stands behind
follows : {S A B : Type 0} (j : Judgement S A) (x : Answer (S × A)) (next : Option A → Judging S B)
    (typed : A → S → Answer (S × B)) → Agree j x → ((y : A) (t : S) → Agrees (next (Some y) t) (typed y t))
    → Agrees (followed j next) (x >>= λ r. typed r.1 r.0)
follows j (Ok r) next typed e h = subst (λ k. Agrees (followed k next) (typed r.1 r.0)) (sym e) (h r.1 r.0)
follows j (Err f) next typed e h = record {
  by = (first_in f j.violations _ e.0, ap (λ o. if_known o (next j.known j.state).known) e.1);
}

pub followed_agrees : {S A B : Type 0} {j : Judgement S A} {x : Answer (S × A)} (next : Option A → Judging S B)
    (typed : A → S → Answer (S × B)) → Agrees j x → ((y : A) (t : S) → Agrees (next (Some y) t) (typed y t))
    → Agrees (followed j next) (x >>= λ r. typed r.1 r.0)
followed_agrees {j = j} {x = x} next typed e h = follows j x next typed e.by h

-- a rule
pub ruled_agrees : {S A B : Type 0} {j : Judgement S A} {x : Answer (S × A)} (n : ℕ)
    (rule : A → S → Answer (S × B)) → Agrees j x → Agrees (followed j (rule_at n rule)) (x >>= λ r. rule r.1 r.0)
ruled_agrees n rule e = followed_agrees (rule_at n rule) rule e (λ y t. answer_agrees n t (rule y t))

-- what is made of what parts are typed to
makes : {S A B : Type 0} (f : A → B) (j : Judgement S A) (x : Answer (S × A)) → Agree j x
    → Agrees (made f j) (x >>= λ r. Ok (r.0, f r.1))
makes f j (Ok r) e = record { by = ap (made f) e }
makes f j (Err g) e = record { by = (e.0, ap (option_map f) e.1) }

pub made_agrees : {S A B : Type 0} {j : Judgement S A} {x : Answer (S × A)} (f : A → B) → Agrees j x
    → Agrees (made f j) (x >>= λ r. Ok (r.0, f r.1))
made_agrees {j = j} {x = x} f e = makes f j x e.by

-- two parts

abbrev pub with_first : {S A B : Type 0} → A → S × B → Answer (S × (A × B))
with_first x q = Ok (q.0, (x, q.1))

pub under : {A B : Type 0} (x : Answer A) {f g : A → Answer B} → ((r : A) → f r ≡ g r) → (x >>= f) ≡ (x >>= g)
under (Ok r) h = h r
under (Err e) h = refl

abbrev pub typed_pair : {S A B : Type 0} → Answer (S × A) → (S → Answer (S × B)) → Answer (S × (A × B))
typed_pair x y = x >>= λ r. (y r.0 >>= with_first r.1)

pairs : {S A B : Type 0} (j : Judgement S A) (x : Answer (S × A)) (k : Judging S B) (y : S → Answer (S × B))
    → Agree j x → ((t : S) → Agrees (k t) (y t)) → Agrees (with_second j k) (typed_pair x y)
pairs j (Ok r) k y e h =
    subst (λ i. Agrees (with_second i k) (y r.0 >>= with_first r.1)) (sym e)
    (made_agrees (λ z. (r.1, z)) (h r.0))
pairs j (Err f) k y e h = record {
  by = (first_in f j.violations _ e.0, ap (λ o. both o (k j.state).known) e.1);
}

pub in_turn : {A B C : Type 0} (x : Answer A) (f : A → Answer B) (g : B → Answer C)
    → (x >>= f >>= g) ≡ (x >>= λ r. (f r >>= g))
in_turn (Ok r) f g = refl
in_turn (Err e) f g = refl

pub pair_first : {S A B C : Type 0} (x : Answer (S × A)) (y : S → Answer (S × B)) (typed : A × B → S → Answer (S × C))
    → (typed_pair x y >>= λ r. typed r.1 r.0) ≡ (x >>= λ r. (y r.0 >>= λ q. typed (r.1, q.1) q.0))
pair_first (Ok r) y typed = in_turn (y r.0) (with_first r.1) (λ q. typed q.1 q.0)
pair_first (Err e) y typed = refl

-- two parts, and what is behind them
pub two_agree : {S A B C : Type 0} {j : Judgement S A} {x : Answer (S × A)} {k : Judging S B} {y : S → Answer (S × B)}
    (next : Option (A × B) → Judging S C) (typed : A × B → S → Answer (S × C)) → Agrees j x
    → ((t : S) → Agrees (k t) (y t)) → ((z : A × B) (t : S) → Agrees (next (Some z) t) (typed z t))
    → Agrees (followed (with_second j k) next) (x >>= λ r. (y r.0 >>= λ q. typed (r.1, q.1) q.0))
two_agree {j = j} {x = x} {k = k} {y = y} next typed e h g =
    subst (Agrees (followed (with_second j k) next)) (pair_first x y typed)
    (followed_agrees next typed (pairs j x k y e.by h) g)

pub two_ruled : {S A B C : Type 0} {j : Judgement S A} {x : Answer (S × A)} {k : Judging S B} {y : S → Answer (S × B)}
    (n : ℕ) (rule : A × B → S → Answer (S × C)) → Agrees j x → ((t : S) → Agrees (k t) (y t))
    → Agrees (followed (with_second j k) (rule_at n rule)) (x >>= λ r. (y r.0 >>= λ q. rule (r.1, q.1) q.0))
two_ruled n rule e h = two_agree (rule_at n rule) rule e h (λ z t. answer_agrees n t (rule z t))

pub pair_agrees : {S A B : Type 0} {j : Judgement S A} {x : Answer (S × A)} {k : Judging S B} {y : S → Answer (S × B)}
    → Agrees j x → ((t : S) → Agrees (k t) (y t)) → Agrees (with_second j k) (typed_pair x y)
pair_agrees {j = j} {x = x} {k = k} {y = y} e h = pairs j x k y e.by h

-- two parts, and what is made of them
pub two_made : {S A B C : Type 0} {j : Judgement S A} {x : Answer (S × A)} {k : Judging S B} {y : S → Answer (S × B)}
    (f : A × B → C) → Agrees j x → ((t : S) → Agrees (k t) (y t))
    → Agrees (made f (with_second j k)) (x >>= λ r. (y r.0 >>= λ q. Ok (q.0, f (r.1, q.1))))
two_made {j = j} {x = x} {k = k} {y = y} f e h =
    subst (Agrees (made f (with_second j k))) (pair_first x y (λ v s. Ok (s, f v)))
    (made_agrees f (pairs j x k y e.by h))

three : {S A B C D : Type 0} (x : Answer (S × A)) (y : S → Answer (S × B)) (z : S → Answer (S × C))
    (rule : (A × B) × C → S → Answer (S × D))
    → (typed_pair x y >>= λ r. (z r.0 >>= λ q. rule (r.1, q.1) q.0))
    ≡ (x >>= λ r. (y r.0 >>= λ q. (z q.0 >>= λ p. rule ((r.1, q.1), p.1) p.0)))
three x y z rule = pair_first x y (λ v s. z s >>= λ q. rule (v, q.1) q.0)

-- three parts and a rule
pub three_ruled : {S A B C D : Type 0} {j : Judgement S A} {x : Answer (S × A)} {k : Judging S B}
    {y : S → Answer (S × B)} {l : Judging S C} {z : S → Answer (S × C)} (n : ℕ)
    (rule : (A × B) × C → S → Answer (S × D)) → Agrees j x → ((t : S) → Agrees (k t) (y t)) → ((t : S)
    → Agrees (l t) (z t))
    → Agrees (followed (with_second (with_second j k) l) (rule_at n rule))
    (x >>= λ r. (y r.0 >>= λ q. (z q.0 >>= λ p. rule ((r.1, q.1), p.1) p.0)))
three_ruled {j = j} {x = x} {k = k} {y = y} {l = l} {z = z} n rule e h g =
    subst (Agrees (followed (with_second (with_second j k) l) (rule_at n rule))) (three x y z rule)
    (two_ruled n rule (pairs j x k y e.by h) g)

-- a part behind what is known
pub given_ruled : {S A B C : Type 0} {k : Judgement S B} {x : Answer (S × B)} (y : A) (n : ℕ)
    (rule : A × B → S → Answer (S × C)) → Agrees k x
    → Agrees (followed (made (λ z. (y, z)) k) (rule_at n rule)) (x >>= λ r. rule (y, r.1) r.0)
given_ruled {k = k} {x = x} y n rule e =
    subst (Agrees (followed (made (λ z. (y, z)) k) (rule_at n rule)))
    (in_turn x (λ r. Ok (r.0, (y, r.1))) (λ r. rule r.1 r.0))
    (ruled_agrees n rule (made_agrees (λ z. (y, z)) e))

-- three parts, and what is made of them
pub three_made : {S A B C D : Type 0} {j : Judgement S A} {x : Answer (S × A)} {k : Judging S B}
    {y : S → Answer (S × B)} {l : Judging S C} {z : S → Answer (S × C)} (f : (A × B) × C → D) → Agrees j x
    → ((t : S) → Agrees (k t) (y t)) → ((t : S) → Agrees (l t) (z t))
    → Agrees (made f (with_second (with_second j k) l))
    (x >>= λ r. (y r.0 >>= λ q. (z q.0 >>= λ p. Ok (p.0, f ((r.1, q.1), p.1)))))
three_made {j = j} {x = x} {k = k} {y = y} {l = l} {z = z} f e h g =
    subst (Agrees (made f (with_second (with_second j k) l)))
    (pair_first x y (λ v s. (z s >>= λ q. Ok (q.0, f (v, q.1))))) (two_made f (pairs j x k y e.by h) g)
