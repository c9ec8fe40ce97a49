-- Runs of steps: a simulation gives that one behaviour follows the other, and what follows a source is never stuck.
use Rattle.std.proofs.Common.{◌≡◌, ℕ, zero, suc, ◌+◌, ◌-◌, ◌≤◌, Some, None, refl, sym, ap, ◌∙◌, subst, arith, ◌⊎◌, inl}
use Rattle.std.proofs.Common.{inr, ⊎_elim}
use Rattle.std.proofs.lemmas.Bool.{cases_lt}
use Rattle.behaviours.specs.Shown.{End, Shown}
use Rattle.behaviours.specs.Behaviour.{Moment, Behaviour, Follows, IsSource}
use Rattle.behaviours.specs.Steps.{run, seen_after, Simulates, IsStepping}
use Rattle.behaviours.proofs.Following.{running_or_ended}

pub run_add : {S : Type 0} (step : S → S) (m n : ℕ) (s : S) → run step (m + n) s ≡ run step n (run step m s)
run_add step zero n s = let e : 0 + n ≡ n = omega arith in ap (λ k. run step k s) e
run_add step (suc m) n s =
    let e : suc m + n ≡ suc (m + n) = omega arith in
    ap (λ k. run step k s) e ∙ run_add step m n (step s)

pub run_last : {S : Type 0} (step : S → S) (n : ℕ) (s : S) → run step (suc n) s ≡ step (run step n s)
run_last step zero s = refl
run_last step (suc n) s = run_last step n (step s)

-- the same run, cut behind its first steps
run_cut : {S : Type 0} (step : S → S) (m n : ℕ) (s : S) → m ≤ n → run step n s ≡ run step (n - m) (run step m s)
run_cut step m n s le =
    let e : n ≡ m + (n - m) = omega arith in
    ap (λ k. run step k s) e ∙ run_add step m (n - m) s

module _ {S T : Type 0} (c : ℕ) (step : S → S) (seen : S → Moment) (step' : T → T) (seen' : T → Moment)
    (IsFine : S → Type 0) (Matches : S → T → Type 0) (sim : Simulates c step seen step' seen' IsFine Matches) where
  pub matched : (s : S) (t : T) → Matches s t → ((k : ℕ) → IsFine (run step k s)) → (n : ℕ)
      → (m : ℕ) × Matches (run step n s) (run step' m t)
  matched s t h fine zero = (0, h)
  matched s t h fine (suc n) =
      let a = sim.one s t h (fine 1) in
      let b = matched (step s) (run step' a.0 t) a.1 (λ k. fine (suc k)) n in
      (a.0 + b.0, subst (Matches (run step n (step s))) (sym (run_add step' a.0 b.0 t)) b.1)

  pub follows_by_steps : (s : S) (t : T) → Matches s t → ((k : ℕ) → IsFine (run step k s))
      → Follows c (seen_after step seen s) (seen_after step' seen' t)
  follows_by_steps s t h fine = record {
    at = λ n. let a = matched s t h fine n in (a.0, sim.meets _ _ a.1);
  }

module _ {S : Type 0} (step : S → S) (seen : S → Moment) (IsStuck : S → Type 0)
    (steps : IsStepping step seen IsStuck) where
  run_turns : (n : ℕ) (s : S) → (seen (run step n s)).turns ≤ (seen s).turns + n
  run_turns zero s = omega arith
  run_turns (suc n) s = omega (arith, run_turns n (step s), steps.turns s)

  stuck_stays : (n : ℕ) (s : S) → IsStuck s → IsStuck (run step n s)
  stuck_stays zero s h = h
  stuck_stays (suc n) s h = stuck_stays n (step s) (steps.stays s h)

  ended_stays : (n : ℕ) (s : S) (e : End) → (seen s).shown.ending ≡ Some e → run step n s ≡ s
  ended_stays zero s e h = refl
  ended_stays (suc n) s e h =
      let same = steps.ended s e h in
      ap (run step n) same ∙ ended_stays n s e h

  not_both : (s : S) (e : End) → (seen s).shown.ending ≡ Some e → IsStuck s → ⊥
  not_both s e h stuck = let none = steps.shows_no_ending s stuck in cc

  pub never_stuck : (c : ℕ) (a : Behaviour) (s : S) → (seen s).turns ≡ 0 → IsSource a
      → Follows c a (seen_after step seen s) → (k : ℕ) → IsStuck (run step k s) → ⊥
  never_stuck c a s none source f k stuck = by_source (running_or_ended (a (suc k)).shown.ending)
    where
      -- beyond k the run stays stuck
      past : (m : ℕ) → k ≤ m → IsStuck (run step m s)
      past m le = subst IsStuck (sym (run_cut step k m s le)) (stuck_stays (m - k) (run step k s) stuck)

      by_source : ((a (suc k)).shown.ending ≡ None) ⊎ ((e : End) × ((a (suc k)).shown.ending ≡ Some e)) → ⊥
      by_source (inl running) =
          let m = (f.at (suc k)).0 in
          let begun = source.begun (suc k) running in
          let met = (f.at (suc k)).1.turns in
          let most = run_turns m s in
          ⊎_elim
          (λ before. absurd (omega arith))
          (λ after. let no_turns = steps.has_no_turns (run step m s) (past m after) in absurd (omega arith))
          (cases_lt m k)
      by_source (inr ended) =
          let m = (f.at (suc k)).0 in
          let over : (seen (run step m s)).shown.ending
          ≡ Some ended.0 = ap (λ (x : Shown). x.ending) (sym (f.at (suc k)).1.shown) ∙ ended.1 in
          ⊎_elim
          (λ before.
          let le : m ≤ k = omega arith in
          let same : run step k s ≡ run step m s = run_cut step m k s le
          ∙ ended_stays (k - m) (run step m s) ended.0 over in
          not_both (run step m s) ended.0 over (subst IsStuck same stuck))
          (λ after. not_both (run step m s) ended.0 over (past m after))
          (cases_lt m k)
