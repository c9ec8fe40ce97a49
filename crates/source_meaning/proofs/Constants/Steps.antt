-- Steps of runs that find values, and what follows from definitions by cases.
use Rattle.std.proofs.Common.{◌≡◌, ℕ, ◌+◌, Option, Some, None, refl, ap, subst, ◌∙◌}
use Rattle.std.specs.Prelude.{option_map}
use Rattle.std.proofs.lemmas.Option.{same_Some}
use Rattle.obj_memory.specs.declared.value.Value.{Value}
use Rattle.c_const.specs.Integers.{with_value}
use Rattle.source_meaning.specs.State.{State, Rvalue, Run, on, ◌>>=◌, read_state}
use Rattle.source_meaning.specs.Actions.{integer, value_or_divide}
use Rattle.source_meaning.specs.Structures.{rvalue, give, as_rvalue, as_pointer}
use Rattle.source_meaning.specs.Expressions.{counted}
use Rattle.source_meaning.specs.Acting.{at_work}
use Rattle.source_meaning.specs.Constants.Finding.{Finds}

-- runs

pub finds_on : {r : Run Rvalue} (f : Rvalue → Run Rvalue) {v v' : Value} {s : State}
    → (h : Finds r v s) → Finds (f (rvalue v)) v' (at_work h.work s) → Finds (r >>= f) v' s
finds_on f h g = record { work = g.work; gives = ap (λ o. on o f) h.gives ∙ g.gives }

pub finds_counted : {r : Run Rvalue} {v : Value} {s : State} → Finds r v (at_work (s.work + 1) s)
    → Finds (counted r) v s
finds_counted h = record { work = h.work; gives = h.gives }

pub finds_give : (v : Value) (s : State) → Finds (give v) v s
finds_give v s = record { work = s.work; gives = refl }

pub finds_read : (f : State → Value) (s : State) → Finds (as_rvalue (read_state f)) (f s) s
finds_read f s = record { work = s.work; gives = refl }

pub finds_same : {r : Run Rvalue} {v v' : Value} {s : State} → v ≡ v' → Finds r v s → Finds r v' s
finds_same {r = r} {s = s} e h = let P : Value → Type 0 = λ v. Finds r v s in subst P e h

pub finds_pointer : {r : Run Rvalue} {v : Value} {s : State} → Finds r v s → Finds (as_pointer r) v s
finds_pointer {v = v} {s = s} h = finds_on _ h (finds_give v (at_work h.work s))

pub finds_quotient : (o : Option ℕ) (w line : ℕ) (s : State) → o ≡ Some w
    → Finds (as_rvalue (value_or_divide o line)) (integer w) s
finds_quotient None w line s e = absurd cc
finds_quotient (Some x) w line s e = finds_same (ap integer (same_Some _ _ e)) (finds_give (integer x) s)

-- cases

pub record Follows (o : Option ℕ) (f : ℕ → Option ℕ) (w : ℕ) : Type 0 where
  pub first : ℕ
  pub is_first : o ≡ Some first
  pub then : f first ≡ Some w

pub follows : (o : Option ℕ) (f : ℕ → Option ℕ) (w : ℕ) → with_value o f ≡ Some w → Follows o f w
follows None f w e = absurd cc
follows (Some x) f w e = record { first = x; is_first = refl; then = e }

pub record Mapped {A B : Type 0} (f : A → B) (o : Option A) (b : B) : Type 0 where
  pub from : A
  pub is_from : o ≡ Some from
  pub to : f from ≡ b

pub mapped : {A B : Type 0} (f : A → B) (o : Option A) (b : B) → option_map f o ≡ Some b → Mapped f o b
mapped f None b e = absurd cc
mapped f (Some a) b e = record { from = a; is_from = refl; to = same_Some _ _ e }
