-- One token after another.
use Rattle.std.proofs.Common.{◌≡◌, ℕ, zero, suc, ◌+◌, ◌-◌, ◌<◌, ◌≤◌, Bool, true, false, cond, List, [], ◌∷◌, ◌++◌, take}
use Rattle.std.proofs.Common.{drop, length, Option, Some, None, Ok, Err, refl, sym, ap, subst, ◌∙◌, append_assoc, arith}
use Rattle.std.specs.Prelude.{nat_lt, ◌==◌, Result, is_ok, is_err}
use Rattle.std.proofs.lemmas.Bool.{eqb-true, true≢false}
use Rattle.c_lexer.specs.Spelled.{TokenList}
use Rattle.c_lexer.specs.declared.token.Token.{Token}
use Rattle.c_lexer.specs.declared.token.TokenKind.{TokenKind}
use Rattle.c_lexer.specs.Longest.{front_token}
use Rattle.c_lexer.specs.Separators.{Gap, gap}
use Rattle.c_lexer.specs.Text.{newlines, line_of, Lexed, behind_tokens, at_end, token_behind, tokens_by, unless_empty}
use Rattle.c_lexer.specs.Text.{tokens_behind, tokens_to, tokens}
use Rattle.c_lexer.proofs.Ends.{Ends, ends_shorter, newlines_passed}
use Rattle.c_lexer.proofs.Gaps.{gap_ends}
use Rattle.c_lexer.proofs.Scanned.{front_within}

drop_length : (k : ℕ) (z : List ℕ) → k ≤ length z → length (drop k z) + k ≡ length z
drop_length zero z h = omega arith
drop_length (suc k) [] h = absurd (omega arith)
drop_length (suc k) (b ∷ z) h = omega (arith, drop_length k z (omega arith))

pub shorter_behind : (z : List ℕ) (w : TokenKind) (k : ℕ) → front_token z ≡ Some (w, k) → length (drop k z) < length z
shorter_behind z w k h =
    let p = front_within z w k h in
    let some = p.0 in
    let room = p.1 in omega (arith, drop_length k z room)

-- a number that is large enough changes nothing
tokens_same : (n m : ℕ) (text : List ℕ) (first : Bool) (z : List ℕ) → length z < n → length z < m
    → tokens_to n text first z ≡ tokens_to m text first z
tokens_same zero m text first z h k = absurd (omega arith)
tokens_same (suc n) zero text first z h k = absurd (omega arith)
tokens_same (suc n) (suc m) text first z h k = by (gap first z) (ends_shorter (gap first z).rest z (gap_ends first z))
    (tokens_same n m text false)
  where
    at : (g : Gap) (y : List ℕ) (o : Option (TokenKind × ℕ)) → g.rest ≡ y → length g.rest ≤ length z
        → front_token g.rest ≡ o
        → ((z : List ℕ) → length z < n → length z < m → tokens_to n text false z ≡ tokens_to m text false z)
        → tokens_by text z g o (tokens_to n text false) ≡ tokens_by text z g o (tokens_to m text false)
    at g y None e l f same = refl
    at g y (Some t) e l f same =
        let s = shorter_behind g.rest t.0 t.1 f in
        ap (behind_tokens (token_behind text z g t.0 ∷ [])) (same (drop t.1 g.rest) (omega arith) (omega arith))

    by : (g : Gap) → length g.rest ≤ length z → ((z : List ℕ) → length z < n → length z < m
        → tokens_to n text false z ≡ tokens_to m text false z)
        → tokens_behind text z g (tokens_to n text false) ≡ tokens_behind text z g (tokens_to m text false)
    by g l same = ap (unless_empty g.rest (at_end text)) (at g g.rest (front_token g.rest) refl l refl same)

no_length : (y : List ℕ) → length y ≡ 0 → y ≡ []
no_length [] h = refl
no_length (b ∷ y) h = absurd (omega arith)

append_nothing : (xs : List Token) → xs ++ [] ≡ xs
append_nothing [] = refl
append_nothing (x ∷ xs) = ap (λ l. x ∷ l) (append_nothing xs)

unless_some : (y : List ℕ) (empty more : Lexed) → 0 < length y → unless_empty y empty more ≡ more
unless_some [] empty more h = absurd (omega arith)
unless_some (b ∷ y) empty more h = refl

unless_none : (y : List ℕ) (empty more : Lexed) → length y ≡ 0 → unless_empty y empty more ≡ empty
unless_none [] empty more h = refl
unless_none (b ∷ y) empty more h = absurd (omega arith)

nothing_behind : (o : Lexed) → behind_tokens [] o ≡ o
nothing_behind (Ok found) = refl
nothing_behind (Err fault) = refl

behind_both : (a b : List Token) (o : Lexed) → behind_tokens a (behind_tokens b o) ≡ behind_tokens (a ++ b) o
behind_both a b (Ok found) = ap (λ l. Ok (record found { tokens = l })) (sym (append_assoc a b found.tokens))
behind_both a b (Err fault) = refl

pub turn_first : (text : List ℕ) → tokens text ≡ behind_tokens [] (tokens_to (suc (length text)) text true text)
unfolding tokens
turn_first text = sym (nothing_behind (tokens_to (suc (length text)) text true text))

-- what is known of the place of a token
pub record IsPlace (text z : List ℕ) (first : Bool) (g : Gap) (line : ℕ) : Type 0 where
  pub behind : gap first z ≡ g
  pub counted : line + newlines g.rest ≡ suc (newlines text)
  pub some : 1 ≤ line

pub place_behind : (text z : List ℕ) (first : Bool) (g : Gap) (line n : ℕ) → gap first z ≡ g
    → line + newlines z ≡ suc (newlines text) → 1 ≤ line
    → n ≡ newlines (take (length z - length g.rest) z) → IsPlace text z first g (line + n)
place_behind text z first g line n b e s c =
    let p = newlines_passed g.rest z (subst (λ g. Ends g.rest z) b (gap_ends first z)) in
    record { behind = b; counted = omega arith; some = omega arith }

pub line_at : (text z : List ℕ) (first : Bool) (g : Gap) (line : ℕ) → IsPlace text z first g line
    → line ≡ line_of text g.rest
unfolding line_of
line_at text z first g line p = let e = p.counted in let s = p.some in omega arith

pub turn_end : (text z : List ℕ) (first : Bool) (g : Gap) (line : ℕ) (front : List Token) → IsPlace text z first g line
    → length g.rest ≡ 0
    → behind_tokens front (tokens_to (suc (length z)) text first z) ≡ Ok (record { tokens = front; end = line })
turn_end text z first g line front p h =
    let r : g.rest ≡ [] = no_length g.rest h in
    let e : line ≡ line_of text [] = line_at text z first g line p ∙ ap (line_of text) r in
    rw (
      p.behind,
      unless_none g.rest (at_end text) (tokens_by text z g (front_token g.rest)
          (tokens_to (length z) text false)) h,
      append_nothing front,
    )
    (ap (λ n. Ok (record { tokens = front; end = n })) (sym e))

pub turn_fault : (text z : List ℕ) (first : Bool) (g : Gap) (line : ℕ) (front : List Token)
    → IsPlace text z first g line → 0 < length g.rest → front_token g.rest ≡ None
    → behind_tokens front (tokens_to (suc (length z)) text first z)
    ≡ Err (record { at = length text - length g.rest; line = line })
turn_fault text z first g line front p h f =
    rw (
      p.behind,
      unless_some g.rest (at_end text) (tokens_by text z g (front_token g.rest)
          (tokens_to (length z) text false)) h,
      f,
      line_at text z first g line p,
    )

pub turn_more : (text z : List ℕ) (first : Bool) (g : Gap) (line : ℕ) (front : List Token) (w : TokenKind) (k : ℕ)
    → IsPlace text z first g line → 0 < length g.rest → front_token g.rest ≡ Some (w, k)
    → behind_tokens front (tokens_to (suc (length z)) text first z)
    ≡ behind_tokens (front ++ record {
      kind = w;
      line = line;
      begins_line = g.has_newline;
      is_spaced =
          nat_lt (length g.rest) (length z);
    } ∷ []) (tokens_to (suc (length (drop k g.rest))) text false (drop k g.rest))
turn_more text z first g line front w k p h f =
    let s = shorter_behind g.rest w k f in
    let l : length g.rest ≤ length z = subst (λ g. length g.rest ≤ length z) p.behind
    (ends_shorter (gap first z).rest z (gap_ends first z)) in
    rw (
      p.behind,
      unless_some g.rest (at_end text) (tokens_by text z g (front_token g.rest) (tokens_to (length z) text false)) h,
      f,
      line_at text z first g line p,
      tokens_same (length z) (suc (length (drop k g.rest))) text false (drop k g.rest) (omega arith) (omega arith),
    )
    (behind_both front (token_behind text z g w ∷ []) (tokens_to (suc (length (drop k g.rest))) text false
    (drop k g.rest)))

-- ---- the turns of the loop in `lex`

pub read_end : (text z : List ℕ) (first : Bool) (g : Gap) (line : ℕ) (front : List Token) (found : TokenList)
    → IsPlace text z first g line
    → tokens text ≡ behind_tokens front (tokens_to (suc (length z)) text first z) → (b : Bool)
    → b ≡ (length g.rest == 0) → b ≡ true
    → found ≡ record { tokens = front; end = line } → tokens text ≡ Ok found
read_end text z first g line front found p read b e t f =
    let h : length g.rest ≡ 0 = eqb-true (length g.rest) 0 (sym e ∙ t) in
    rw f (read ∙ turn_end text z first g line front p h)

some_left : (n : ℕ) (b : Bool) → b ≡ (n == 0) → b ≡ false → 0 < n
some_left zero b e f = absurd (true≢false (sym e ∙ f))
some_left (suc n) b e f = omega arith

pub read_fault : (text z : List ℕ) (first : Bool) (g : Gap) (line : ℕ) (front : List Token)
    → IsPlace text z first g line
    → tokens text ≡ behind_tokens front (tokens_to (suc (length z)) text first z) → (b : Bool)
    → b ≡ (length g.rest == 0) → b ≡ false
    → None ≡ front_token g.rest → tokens text ≡ Err (record { at = length text - length g.rest; line = line })
read_fault text z first g line front p read b e t f = read ∙ turn_fault text z first g line front p
    (some_left (length g.rest) b e t) (sym f)

pub read_more : (text z : List ℕ) (first : Bool) (g : Gap) (line : ℕ) (front more : List Token) (w : TokenKind) (k : ℕ)
    (r : List ℕ) → IsPlace text z first g line
    → tokens text ≡ behind_tokens front (tokens_to (suc (length z)) text first z) → (b : Bool)
    → b ≡ (length g.rest == 0) → b ≡ false
    → Some (w, k) ≡ front_token g.rest → r ≡ drop k g.rest
    → more ≡ front ++ record {
      kind = w;
      line = line;
      begins_line = g.has_newline;
      is_spaced =
          nat_lt (length g.rest) (length z);
    } ∷ []
    → tokens text ≡ behind_tokens more (tokens_to (suc (length r)) text false r)
read_more text z first g line front more w k r p read b e t f d m =
    rw (d, m) (read ∙ turn_more text z first g line front w k p (some_left (length g.rest) b e t) (sym f))

-- a push that did not fail
pub pushed : {U E : Type 0} (r : Result U E) (new old more : List Token) (b : Bool) → new ≡ cond (is_ok r) more old
    → b ≡ is_err r → b ≡ false → new ≡ more
pushed (Ok u) new old more b e f t = e
pushed (Err u) new old more b e f t = absurd (true≢false (sym f ∙ t))
