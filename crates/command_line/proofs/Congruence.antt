-- What the generator needs of numbers and lists.
use Rattle.std.proofs.Common.{◌≡◌, ℕ, ◌+◌, ◌%◌, ◌^◌, List, ◌++◌, ap, ◌∙◌, append_assoc}
use Rattle.std.proofs.Math.Nat.{mod-add-mod}

-- a sum of words of 64 bits wraps where the sum of the numbers does
pub sum_wraps : (n k : ℕ) → (n % 2 ^ 64 + k) % 2 ^ 64 ≡ (n + k) % 2 ^ 64
sum_wraps n k = mod-add-mod n (2 ^ 64) k

-- three lists, put one behind the other
pub three_behind : (text one two three a b c : List ℕ) → one ≡ text ++ a → two ≡ one ++ b → three ≡ two ++ c
    → three ≡ text ++ (a ++ (b ++ c))
three_behind text one two three a b c p q r =
    r ∙ ap (λ l. l ++ c) q ∙ ap (λ l. (l ++ b) ++ c) p ∙ append_assoc (text ++ a) b c ∙ append_assoc text a (b ++ c)
