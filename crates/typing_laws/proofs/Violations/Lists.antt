-- Lists whose constructs agree with what typing answers do so.
use Rattle.std.proofs.Common.{◌≡◌, ℕ, refl, ap, subst, Option, Some}
use Rattle.std.specs.Prelude.{Ok, Err, option_map}
use Rattle.c_faults.specs.Answer.{Answer, ◌>>=◌}
use Rattle.typing_laws.specs.Violations.Agreeing.{Agree, Agrees}
use Rattle.typing_laws.specs.Violations.Judgements.{Judgement, Judging, added, adding_at, adding_rule, along_with}
use Rattle.typing_laws.specs.Violations.Judgements.{followed}
use Rattle.typing_laws.specs.Violations.Judgements.{gathered_in, with_added}
use Rattle.typing_laws.proofs.Violations.Agreeing.{followed_agrees, ruled_agrees}

abbrev with_list : {S X A : Type 0} → X → Answer (S × A) → Answer ((S × X) × A)
with_list x (Ok r) = Ok ((r.0, x), r.1)
with_list x (Err f) = Err f

along_agrees : {S X A : Type 0} (before : X) (j : Judgement S A) (x : Answer (S × A)) → Agree j x
    → Agrees (along_with before j) (with_list before x)
along_agrees before j (Ok r) e = record { by = ap (along_with before) e }
along_agrees before j (Err f) e = record { by = e }

added_first : {S X A : Type 0} (rule : A → X → S → Answer (S × X)) (before : X) (x : Answer (S × A))
    → (with_list before x >>= λ r. adding_rule rule r.1 r.0) ≡ added (x >>= λ r. rule r.1 before r.0)
added_first rule before (Ok r) = refl
added_first rule before (Err f) = refl

-- what adds to a list, or violates a rule
pub record Adds {S X : Type 0} (j : Judgement (S × X) (Unit {0})) (answer : Answer (S × X)) : Type 0 where
  pub by : Agrees j (added answer)

-- a construct that adds to what those before gave, by its rule
pub adding_by_agrees : {S X A : Type 0} {j : Judgement S A} {x : Answer (S × A)}
    (n : ℕ) (rule : A → X → S → Answer (S × X)) (before : X) → Agrees j x
    → Adds (followed (along_with before j) (adding_at n rule)) (x >>= λ r. rule r.1 before r.0)
adding_by_agrees {j = j} {x = x} n rule before e = record {
  by = subst (Agrees (followed (along_with before j) (adding_at n rule))) (added_first rule before x)
      (ruled_agrees n (adding_rule rule) (along_agrees before j x e.by));
}

adds : {S X A : Type 0} (add : A → X → X) (before : X) (j : Judgement S A) (x : Answer (S × A)) → Agree j x
    → Adds (with_added add before j) (x >>= λ r. Ok (r.0, add r.1 before))
adds add before j (Ok r) e = record { by = record { by = ap (with_added add before) e } }
adds add before j (Err f) e = record { by = record { by = (e.0, ap (option_map (λ v. tt)) e.1) } }

-- a construct that adds what it is typed to
pub adding_agrees : {S X A : Type 0} {j : Judgement S A} {x : Answer (S × A)} (add : A → X → X) (before : X)
    → Agrees j x → Adds (with_added add before j) (x >>= λ r. Ok (r.0, add r.1 before))
adding_agrees {j = j} {x = x} add before e = adds add before j x e.by

onward_first : {S X : Type 0} (x : Answer (S × X)) (typed : X → S → Answer (S × X))
    → (added x >>= λ r. added (typed r.0.1 r.0.0)) ≡ added (x >>= λ r. typed r.1 r.0)
onward_first (Ok r) typed = refl
onward_first (Err f) typed = refl

first_added : {S X A : Type 0} (x : Answer (S × A)) (before : X) (typed : A → X → S → Answer (S × X))
    → (with_list before x >>= λ r. added (typed r.1 r.0.1 r.0.0)) ≡ added (x >>= λ r. typed r.1 before r.0)
first_added (Ok r) before typed = refl
first_added (Err f) before typed = refl

-- one more construct
pub onward_agrees : {S X : Type 0} {j : Judgement (S × X) (Unit {0})} {x : Answer (S × X)}
    (more : Judging (S × X) (Unit {0})) (typed : X → S → Answer (S × X)) → Adds j x
    → ((before : X) (s : S) → Adds (more (s, before)) (typed before s))
    → Adds (followed j (λ done. more)) (x >>= λ r. typed r.1 r.0)
onward_agrees {j = j} {x = x} more typed e h = record {
  by = subst (Agrees (followed j (λ done. more))) (onward_first x typed)
      (followed_agrees (λ done. more) (λ done s. added (typed s.1 s.0)) e.by (λ y t. (h t.1 t.0).by));
}

-- what a list gives
gathers : {S X : Type 0} (j : Judgement (S × X) (Unit {0})) (x : Answer (S × X)) → Agree j (added x)
    → Agrees (gathered_in j) x
gathers j (Ok r) e = record { by = ap gathered_in e }
gathers j (Err f) e = record { by = (e.0, ap (option_map (λ done. j.state.1)) e.1) }

pub list_agrees : {S X : Type 0} {j : Judgement (S × X) (Unit {0})} {x : Answer (S × X)} → Adds j x
    → Agrees (gathered_in j) x
list_agrees {j = j} {x = x} e = gathers j x e.by.by

-- what a list of constructs adds, where a construct stands before it that adds nothing
pub along_then : {S X A : Type 0} {j : Judgement S A} {x : Answer (S × A)}
    (next : Option A → Judging (S × X) (Unit {0})) (typed : A → X → S → Answer (S × X)) (before : X) → Agrees j x
    → ((y : A) (before : X) (s : S) → Adds (next (Some y) (s, before)) (typed y before s))
    → Adds (followed (along_with before j) next) (x >>= λ r. typed r.1 before r.0)
along_then {j = j} {x = x} next typed before e h = record {
  by = subst (Agrees (followed (along_with before j) next)) (first_added x before typed)
      (followed_agrees next (λ y s. added (typed y s.1 s.0)) (along_agrees before j x e.by)
      (λ y s. (h y s.1 s.0).by));
}
