-- Judgements of constructs: all violations of typing rules in a construct in the order of its tokens, and what is known
-- behind it.
use Rattle.std.specs.Prelude.{ℕ, List, [], ◌∷◌, ◌++◌, Option, Some, None, option_map, Ok, Err}
use Rattle.c_faults.specs.declared.fault.Fault.{Fault}
use Rattle.c_faults.specs.Answer.{Answer}

-- a violation, with the number of the token at which the rule is judged
pub record Violation : Type 0 where
  pub token : ℕ
  pub fault : Fault

-- All violations in a construct, in the order of its tokens; the state behind it; and what it is typed to, which is
-- known where it violates no rule.
pub record Judgement (S A : Type 0) : Type 0 where
  pub violations : List Violation
  pub state : S
  pub known : Option A

-- a construct is judged in a state
abbrev pub Judging : Type 0 → Type 0 → Type 0
Judging S A = S → Judgement S A

-- what violates no rule
abbrev pub gives : {S A : Type 0} → A → Judging S A
gives x s = record { violations = []; state = s; known = Some x }

-- What violates a rule adds nothing to the state: a name is not declared by a declarator that violates one.
abbrev pub answered : {S A : Type 0} → (token : ℕ) → S → Answer (S × A) → Judgement S A
answered n s (Ok r) = record { violations = []; state = r.0; known = Some r.1 }
answered n s (Err f) = record { violations = record { token = n; fault = f } ∷ []; state = s; known = None }

-- a construct without parts, by its rule
abbrev pub by_rule : {S A : Type 0} → (token : ℕ) → (S → Answer (S × A)) → Judging S A
by_rule n rule s = answered n s (rule s)

-- what depends on a construct that violates a rule is not known
abbrev pub if_known : {A B : Type 0} → Option A → Option B → Option B
if_known None y = None
if_known (Some x) y = y

abbrev pub both : {A B : Type 0} → Option A → Option B → Option (A × B)
both None y = None
both (Some x) y = option_map (λ y. (x, y)) y

-- one construct, and another behind it
abbrev pub with_behind : {S A B C : Type 0} → Judgement S A → Judgement S B → (known : Option C) → Judgement S C
with_behind j k known = record { violations = j.violations ++ k.violations; state = k.state; known = known }

-- Two parts: the second is judged in the state that the first leaves, also where the first violates a rule.

abbrev pub paired : {S A B : Type 0} → Judgement S A → Judgement S B → Judgement S (A × B)
paired j k = with_behind j k (both j.known k.known)

abbrev pub with_second : {S A B : Type 0} → Judgement S A → Judging S B → Judgement S (A × B)
with_second j b = paired j (b j.state)

infixl 10 ◌beside◌
abbrev pub ◌beside◌ : {S A B : Type 0} → Judging S A → Judging S B → Judging S (A × B)
(a beside b) s = with_second (a s) b

-- What stands behind, by what is known of the construct before it.

abbrev pub dependent : {S A B : Type 0} → Judgement S A → Judgement S B → Judgement S B
dependent j k = with_behind j k (if_known j.known k.known)

abbrev pub followed : {S A B : Type 0} → Judgement S A → (Option A → Judging S B) → Judgement S B
followed j next = dependent j (next j.known j.state)

infixl 10 ◌knowing◌
abbrev pub ◌knowing◌ : {S A B : Type 0} → Judging S A → (Option A → Judging S B) → Judging S B
(a knowing next) s = followed (a s) next

-- A construct's own rule is judged where its parts violate none.

abbrev pub rule_at : {S A B : Type 0} → (token : ℕ) → (A → S → Answer (S × B)) → Option A → Judging S B
rule_at n rule None s = record { violations = []; state = s; known = None }
rule_at n rule (Some x) s = by_rule n (rule x) s

infixl 10 ◌ruled_by◌
abbrev pub ◌ruled_by◌ : {S A B : Type 0} → Judging S A → (Option A → Judging S B) → Judging S B
(parts ruled_by rule) s = followed (parts s) rule

-- a construct that has no rule of its own, by what its parts are typed to

abbrev pub made : {S A B : Type 0} → (A → B) → Judgement S A → Judgement S B
made f j = record { violations = j.violations; state = j.state; known = option_map f j.known }

infixl 10 ◌giving◌
abbrev pub ◌giving◌ : {S A B : Type 0} → Judging S A → (A → B) → Judging S B
(parts giving f) s = made f (parts s)

-- what is known of a construct that was judged before
abbrev pub given : {S A : Type 0} → Option A → Judging S A
given x s = record { violations = []; state = s; known = x }

-- Lists: each construct of one is judged in a state with what those before gave so far, to which it adds, or, where it
-- violates a rule, does not.

abbrev pub along_with : {S X A : Type 0} → X → Judgement S A → Judgement (S × X) A
along_with x j = record { violations = j.violations; state = (j.state, x); known = j.known }

abbrev pub along : {S X A : Type 0} → Judging S A → Judging (S × X) A
along parts s = along_with s.1 (parts s.0)

abbrev pub added : {S X : Type 0} → Answer (S × X) → Answer ((S × X) × Unit {0})
added (Ok r) = Ok (r, tt)
added (Err f) = Err f

abbrev pub adding_rule : {S X A : Type 0} → (A → X → S → Answer (S × X)) → A → S × X → Answer ((S × X) × Unit {0})
adding_rule rule v s = added (rule v s.1 s.0)

-- a construct without parts
abbrev pub adds_by : {S X : Type 0} → (token : ℕ) → (X → S → Answer (S × X)) → Judging (S × X) (Unit {0})
adds_by n rule s = answered n s (added (rule s.1 s.0))

abbrev pub adding_at : {S X A : Type 0} → (token : ℕ) → (A → X → S → Answer (S × X)) → Option A
    → Judging (S × X) (Unit {0})
adding_at n rule = rule_at n (adding_rule rule)

infixl 10 ◌adding_by◌
abbrev pub ◌adding_by◌ : {S X A : Type 0} → Judging S A → (Option A → Judging (S × X) (Unit {0}))
    → Judging (S × X) (Unit {0})
(parts adding_by rule) s = followed (along_with s.1 (parts s.0)) rule

abbrev pub added_if : {X A : Type 0} → (A → X → X) → Option A → X → X
added_if add None x = x
added_if add (Some v) x = add v x

abbrev pub with_added : {S X A : Type 0} → (A → X → X) → X → Judgement S A → Judgement (S × X) (Unit {0})
with_added add x j = record {
  violations = j.violations;
  state = (j.state, added_if add j.known x);
  known = option_map (λ v. tt) j.known;
}

infixl 10 ◌adding◌
abbrev pub ◌adding◌ : {S X A : Type 0} → Judging S A → (A → X → X) → Judging (S × X) (Unit {0})
(parts adding add) s = with_added add s.1 (parts s.0)

infixl 10 ◌onward◌
abbrev pub ◌onward◌ : {S : Type 0} → Judging S (Unit {0}) → Judging S (Unit {0}) → Judging S (Unit {0})
(construct onward more) s = followed (construct s) (λ done. more)

-- what a list gives, behind what stands before it
abbrev pub gathered_in : {S X : Type 0} → Judgement (S × X) (Unit {0}) → Judgement S X
gathered_in j = record {
  violations = j.violations;
  state = j.state.0;
  known = option_map (λ done. j.state.1) j.known;
}

abbrev pub beginning : {S X : Type 0} → X → Judging (S × X) (Unit {0}) → Judging S X
beginning x constructs s = gathered_in (constructs (s, x))
