-- Runs of bytes: each shorter front passes, each longer one does not.
use Rattle.std.proofs.Common.{◌≡◌, ℕ, zero, suc, ◌+◌, ◌<◌, ◌≤◌, Bool, true, false, cond, List, [], ◌∷◌, take, length}
use Rattle.std.proofs.Common.{refl, arith}
use Rattle.std.specs.List.{prefix_len, list_all}
use Rattle.c_lexer.specs.Words.{continues_number, all_continue_number}
use Rattle.c_lexer.specs.Scan.{number_length}
use Rattle.c_lexer.proofs.LongestWord.{split}

pub run_within : (p : ℕ → Bool) (z : List ℕ) (m : ℕ) → m ≤ prefix_len p z → list_all p (take m z) ≡ true
run_within p z zero h = refl
run_within p [] (suc m) h = refl
run_within p (b ∷ z) (suc m) h =
    split (p b)
    (λ e. let g : suc m ≤ 1 + prefix_len p z = rw e at h in rw (e, run_within p z m (omega arith)))
    (λ e. let g : suc m ≤ 0 = rw e at h in absurd (omega arith))

pub run_beyond : (p : ℕ → Bool) (z : List ℕ) (m : ℕ) → prefix_len p z < m → m ≤ length z → list_all p (take m z) ≡ false
run_beyond p z zero h r = absurd (omega arith)
run_beyond p [] (suc m) h r = absurd (omega arith)
run_beyond p (b ∷ z) (suc m) h r =
    split (p b)
    (λ e. let g : 1 + prefix_len p z < suc m = rw e at h in rw (e, run_beyond p z m (omega arith) (omega arith)))
    (λ e. rw e)

pub run_fits : (p : ℕ → Bool) (z : List ℕ) → prefix_len p z ≤ length z
run_fits p [] = omega arith
run_fits p (b ∷ z) = by (p b) (run_fits p z)
  where
    by : (v : Bool) → prefix_len p z ≤ length z → cond v (1 + prefix_len p z) 0 ≤ suc (length z)
    by true h = omega arith
    by false h = omega arith

pub number_within : (a : ℕ) (z : List ℕ) (m : ℕ) → m ≤ number_length a z → all_continue_number a (take m z) ≡ true
number_within a z zero h = refl
number_within a [] (suc m) h = refl
number_within a (b ∷ z) (suc m) h =
    split (continues_number a b)
    (λ e. let g : suc m ≤ suc (number_length b z) = rw e at h in rw (e, number_within b z m (omega arith)))
    (λ e. let g : suc m ≤ 0 = rw e at h in absurd (omega arith))

pub number_beyond : (a : ℕ) (z : List ℕ) (m : ℕ) → number_length a z < m → m ≤ length z
    → all_continue_number a (take m z) ≡ false
number_beyond a z zero h r = absurd (omega arith)
number_beyond a [] (suc m) h r = absurd (omega arith)
number_beyond a (b ∷ z) (suc m) h r =
    split (continues_number a b)
    (λ e. let g : suc (number_length b z) < suc m = rw e at h in
    rw (e, number_beyond b z m (omega arith) (omega arith)))
    (λ e. rw e)

pub number_fits : (a : ℕ) (z : List ℕ) → number_length a z ≤ length z
number_fits a [] = omega arith
number_fits a (b ∷ z) = by (continues_number a b) (number_fits b z)
  where
    by : (v : Bool) → number_length b z ≤ length z → cond v (suc (number_length b z)) 0 ≤ suc (length z)
    by true h = omega arith
    by false h = omega arith
