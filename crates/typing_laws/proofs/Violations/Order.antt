-- Parts whose violations are in order make constructs whose violations are.
use Rattle.std.proofs.Common.{◌≡◌, ℕ, ◌≤◌, suc, refl, sym, ap, ◌∙◌, subst, List, [], ◌∷◌, ◌++◌, Option, Some, None}
use Rattle.std.proofs.Common.{arith}
use Rattle.std.specs.Prelude.{Ok, Err, option_map}
use Rattle.c_faults.specs.Answer.{Answer}
use Rattle.c_syntax.specs.Words.{Words}
use Rattle.typing_laws.specs.Violations.Judgements.{Judgement, Judging, Violation, added_if, along_with, answered, both}
use Rattle.typing_laws.specs.Violations.Judgements.{followed}
use Rattle.typing_laws.specs.Violations.Judgements.{gathered_in, if_known, made, rule_at, with_added, with_second}
use Rattle.typing_laws.specs.Violations.Order.{AreInOrder, Ascend}

-- violations at tokens from one number on, up to another
abbrev pub StandIn : (first behind : ℕ) → List Violation → Type 0
StandIn lo hi [] = lo ≤ hi
StandIn lo hi (v ∷ vs) = (lo ≤ v.token) × ((suc v.token ≤ hi) × StandIn v.token hi vs)

pub in_order : (lo hi : ℕ) (vs : List Violation) → StandIn lo hi vs → AreInOrder lo vs
in_order lo hi [] h = tt
in_order lo hi (v ∷ vs) h = (h.0, in_order v.token hi vs h.1.1)

pub bounds : (lo hi : ℕ) (vs : List Violation) → StandIn lo hi vs → lo ≤ hi
bounds lo hi [] h = h
bounds lo hi (v ∷ vs) h = let a = h.0 in let b = h.1.0 in omega arith

lower : (low lo hi : ℕ) (vs : List Violation) → low ≤ lo → StandIn lo hi vs → StandIn low hi vs
lower low lo hi [] l h = omega arith
lower low lo hi (v ∷ vs) l h = let a = h.0 in (omega arith, h.1)

higher : (lo hi high : ℕ) (vs : List Violation) → hi ≤ high → StandIn lo hi vs → StandIn lo high vs
higher lo hi high [] l h = omega arith
higher lo hi high (v ∷ vs) l h = let a = h.1.0 in (h.0, (omega arith, higher v.token hi high vs l h.1.1))

pub together : (lo m n hi : ℕ) (vs ws : List Violation) → m ≤ n → StandIn lo m vs → StandIn n hi ws
    → StandIn lo hi (vs ++ ws)
together lo m n hi [] ws l h g = lower lo n hi ws (omega arith) g
together lo m n hi (v ∷ vs) ws l h g =
    let a = h.1.0 in let b = bounds n hi ws g in
    (h.0, (omega arith, together v.token m n hi vs ws l h.1.1 g))

-- what is known violates no rule
abbrev pub IfKnown : {A : Type 0} → Option A → Type 0 → Type 0
IfKnown None p = Unit {0}
IfKnown (Some x) p = p

pub record Placed {S A : Type 0} (lo hi : ℕ) (j : Judgement S A) : Type 0 where
  pub order : StandIn lo hi j.violations
  pub none : IfKnown j.known (j.violations ≡ [])

if_mapped : {A B : Type 0} (p : Type 0) (f : A → B) (o : Option A) → IfKnown o p → IfKnown (option_map f o) p
if_mapped p f None h = tt
if_mapped p f (Some x) h = h

if_both : {A B : Type 0} (p q r : Type 0) (a : Option A) (b : Option B) → (p → q → r) → IfKnown a p → IfKnown b q
    → IfKnown (both a b) r
if_both p q r None b h x y = tt
if_both p q r (Some x) None h u v = tt
if_both p q r (Some x) (Some y) h u v = h u v

if_dependent : {A B : Type 0} (p q r : Type 0) (a : Option A) (b : Option B) → (p → q → r) → IfKnown a p → IfKnown b q
    → IfKnown (if_known a b) r
if_dependent p q r None b h x y = tt
if_dependent p q r (Some x) None h u v = tt
if_dependent p q r (Some x) (Some y) h u v = h u v

if_then : {A : Type 0} (p q : Type 0) (o : Option A) → (p → q) → IfKnown o p → IfKnown o q
if_then p q None h u = tt
if_then p q (Some x) h u = h u

pub nothing_together : (vs ws : List Violation) → vs ≡ [] → ws ≡ [] → (vs ++ ws) ≡ []
nothing_together vs ws e g = ap (λ vs. vs ++ ws) e ∙ g

pub wider : {S A : Type 0} {j : Judgement S A} {lo hi : ℕ} (low high : ℕ) → low ≤ lo → hi ≤ high → Placed lo hi j
    → Placed low high j
wider {j = j} {lo = lo} {hi = hi} low high l h p = record {
  order = lower low lo high j.violations l (higher lo hi high j.violations h p.order);
  none = p.none;
}

-- nothing violates a rule
pub none_placed : {S A : Type 0} (lo hi : ℕ) (s : S) (x : Option A) → lo ≤ hi
    → Placed lo hi (record { violations = []; state = s; known = x })
none_placed lo hi s None l = record { order = l; none = tt }
none_placed lo hi s (Some x) l = record { order = l; none = refl }

pub answer_placed : {S A : Type 0} (lo hi n : ℕ) (s : S) (x : Answer (S × A)) → lo ≤ n → suc n ≤ hi
    → Placed lo hi (answered n s x)
answer_placed lo hi n s (Ok r) l h = record { order = omega arith; none = refl }
answer_placed lo hi n s (Err f) l h = record { order = (l, (h, omega arith)); none = tt }

-- what stands behind
pub behind_placed : {S A B : Type 0} {j : Judgement S A} (lo m n hi : ℕ) (next : Option A → Judging S B) → m ≤ n
    → Placed lo m j → ((x : Option A) (s : S) → Placed n hi (next x s)) → Placed lo hi (followed j next)
behind_placed {j = j} lo m n hi next l p q = record {
  order = together lo m n hi j.violations _ l p.order (q j.known j.state).order;
  none = if_dependent _ _ _ j.known (next j.known j.state).known
      (nothing_together j.violations (next j.known j.state).violations) p.none (q j.known j.state).none;
}

-- what stands behind, in the same tokens where the parts before it violate no rule
by_known : {S A B : Type 0} (lo hi : ℕ) (vs : List Violation) (s : S) (x : Option A) (next : Option A → Judging S B)
    → IfKnown x (vs ≡ []) → StandIn lo hi (vs ++ (next None s).violations)
    → ((x : A) → Placed lo hi (next (Some x) s))
    → Placed lo hi (followed (record { violations = vs; state = s; known = x }) next)
by_known lo hi vs s None next e h g = record { order = h; none = tt }
by_known lo hi vs s (Some x) next e h g = record {
  order = subst (λ vs. StandIn lo hi (vs ++ (next (Some x) s).violations)) (sym e) (g x).order;
  none = if_then _ _ (next (Some x) s).known (nothing_together vs (next (Some x) s).violations e) (g x).none;
}

pub either_placed : {S A B : Type 0} {j : Judgement S A} (lo m n hi : ℕ) (next : Option A → Judging S B) → m ≤ n
    → Placed lo m j → ((s : S) → Placed n hi (next None s)) → ((x : A) (s : S) → Placed lo hi (next (Some x) s))
    → Placed lo hi (followed j next)
either_placed {j = j} lo m n hi next l p q r =
    by_known lo hi j.violations j.state j.known next p.none
    (together lo m n hi j.violations _ l p.order (q j.state).order) (λ x. r x j.state)

-- a rule, where no part violates one
pub ruled_placed : {S A B : Type 0} {j : Judgement S A} (lo hi n : ℕ) (rule : A → S → Answer (S × B)) → lo ≤ n
    → suc n ≤ hi → Placed lo hi j → Placed lo hi (followed j (rule_at n rule))
ruled_placed {j = j} lo hi n rule l h p =
    by_known lo hi j.violations j.state j.known (rule_at n rule) p.none
    (together lo hi hi hi j.violations [] (omega arith) p.order (omega arith))
    (λ x. answer_placed lo hi n j.state (rule x j.state) l h)

-- two parts
pub second_placed : {S A B : Type 0} {j : Judgement S A} (lo m n hi : ℕ) (k : Judging S B) → m ≤ n → Placed lo m j
    → ((s : S) → Placed n hi (k s)) → Placed lo hi (with_second j k)
second_placed {j = j} lo m n hi k l p q = record {
  order = together lo m n hi j.violations (k j.state).violations l p.order (q j.state).order;
  none = if_both _ _ _ j.known (k j.state).known (nothing_together j.violations (k j.state).violations) p.none
      (q j.state).none;
}

-- what has the violations of a part
pub same_placed : {S T A B : Type 0} {j : Judgement S A} (lo hi : ℕ) (t : T) (f : A → B) → Placed lo hi j
    → Placed lo hi (record { violations = j.violations; state = t; known = option_map f j.known })
same_placed {j = j} lo hi t f p = record { order = p.order; none = if_mapped _ f j.known p.none }

pub made_placed : {S A B : Type 0} {j : Judgement S A} {lo hi : ℕ} (f : A → B) → Placed lo hi j
    → Placed lo hi (made f j)
made_placed {j = j} {lo = lo} {hi = hi} f p = same_placed lo hi j.state f p

pub moved_placed : {S T A : Type 0} {j : Judgement S A} {lo hi : ℕ} (t : T) → Placed lo hi j
    → Placed lo hi (record { violations = j.violations; state = t; known = j.known })
moved_placed t p = record { order = p.order; none = p.none }

-- words whose numbers ascend are read: the violations stand in them, and what follows ascends

pub record Reads (n : ℕ) (i : Words) (p : ℕ → Type 0) : Type 0 where
  pub end : ℕ
  pub low : n ≤ end
  pub placed : p end
  pub rest : Ascend end i

-- one more construct of a list
pub onward_placed : {S X A : Type 0} {j : Judgement S A} (lo m n hi : ℕ) (add : A → X → X) (x : X)
    (more : Judging (S × X) (Unit {0})) → m ≤ n → Placed lo m j → ((s : S × X) → Placed n hi (more s))
    → Placed lo hi (followed (with_added add x j) (λ done. more))
onward_placed {j = j} lo m n hi add x more l p q =
    behind_placed lo m n hi (λ done. more) l
    (same_placed lo m (j.state, added_if add j.known x) (λ v. tt) p) (λ y s. q s)

pub gathered_placed : {S X : Type 0} {j : Judgement (S × X) (Unit {0})} {lo hi : ℕ} → Placed lo hi j
    → Placed lo hi (gathered_in j)
gathered_placed {j = j} {lo = lo} {hi = hi} p = same_placed lo hi j.state.0 (λ done. j.state.1) p

pub along_placed : {S X A : Type 0} {j : Judgement S A} {lo hi : ℕ} (x : X) → Placed lo hi j
    → Placed lo hi (along_with x j)
along_placed x p = record { order = p.order; none = p.none }

pub added_placed : {S X A : Type 0} {j : Judgement S A} {lo hi : ℕ} (add : A → X → X) (x : X) → Placed lo hi j
    → Placed lo hi (with_added add x j)
added_placed {j = j} {lo = lo} {hi = hi} add x p =
    same_placed lo hi (j.state, added_if add j.known x) (λ v. tt) p
