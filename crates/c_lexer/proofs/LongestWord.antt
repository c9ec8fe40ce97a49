-- What makes a word the longest one at the front of a text.
use Rattle.std.proofs.Common.{◌≡◌, ℕ, zero, suc, ◌<◌, ◌≤◌, Bool, true, false, ◌⊎◌, ⊎_elim, List, take, Some, None, refl}
use Rattle.std.proofs.Common.{sym, ap, ◌∙◌, arith}
use Rattle.std.proofs.lemmas.Bool.{cases_Bool}
use Rattle.c_lexer.specs.declared.token.TokenKind.{TokenKind}
use Rattle.c_lexer.specs.Longest.{longest_to}
use Rattle.c_lexer.specs.Words.{word_of}

-- cases on a test, with what it answers
pub split : {P : Type 0} (b : Bool) → (b ≡ true → P) → (b ≡ false → P) → P
split b t f = ⊎_elim t f (cases_Bool b)

last_or_less : (k n : ℕ) → k ≤ suc n → (k ≡ suc n) ⊎ (k ≤ n)
last_or_less k n h = grind arith

pub longest_none : (n : ℕ) (z : List ℕ) → ((m : ℕ) → 1 ≤ m → m ≤ n → word_of (take m z) ≡ None) → longest_to n z ≡ None
longest_none zero z none = refl
longest_none (suc n) z none = rw (none (suc n) (omega arith) (omega arith))
    (longest_none n z (λ m a b. none m a (omega arith)))

pub longest_at : (n k : ℕ) (z : List ℕ) (w : TokenKind) → 1 ≤ k → k ≤ n → word_of (take k z) ≡ Some w
    → ((m : ℕ) → k < m → m ≤ n → word_of (take m z) ≡ None) → longest_to n z ≡ Some (w, k)
longest_at zero k z w some room at beyond = absurd (omega arith)
longest_at (suc n) k z w some room at beyond =
    ⊎_elim
    (λ (e : k ≡ suc n). let h : word_of (take (suc n) z) ≡ Some w = ap (λ k. word_of (take k z)) (sym e) ∙ at in
    rw h (ap (λ k. Some (w, k)) (sym e)))
    (λ (l : k ≤ n). rw (beyond (suc n) (omega arith) (omega arith))
    (longest_at n k z w some l at (λ m a b. beyond m a (omega arith))))
    (last_or_less k n room)
