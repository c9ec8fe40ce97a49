-- Each token is the word that its bytes spell.
use Rattle.std.proofs.Common.{rules, ◌≡◌, ℕ, zero, suc, ◌-◌, ◌<◌, ◌≤◌, Bool, true, false, List, [], ◌∷◌, take, drop}
use Rattle.std.proofs.Common.{length, Option, Some, None, Ok, Err, refl, ap, subst, ◌∙◌, arith}
use Rattle.std.specs.Prelude.{nat_le, ◌==◌, is_some, IsSome}
use Rattle.std.specs.List.{All, find, prefix_len}
use Rattle.std.proofs.lemmas.Bool.{cond_both, false≢true, leb-true}
use Rattle.std.proofs.lemmas.List.Elements.{All-cons}
use Rattle.c_lexer.specs.declared.integer.IntegerConstant.{IntegerConstant}
use Rattle.c_lexer.specs.declared.integer.IntegerType.{IntegerType}
use Rattle.c_lexer.specs.declared.integer.Radix.{Radix}
use Rattle.c_lexer.specs.declared.integer.Radix.TheVariants as radix
use Rattle.c_lexer.specs.declared.integer.Suffix.{Suffix}
use Rattle.c_lexer.specs.declared.keyword.Keyword.{Keyword}
use Rattle.c_lexer.specs.declared.punctuator.Punctuator.{Punctuator}
use Rattle.c_lexer.specs.declared.token.Token.{Token}
use Rattle.c_lexer.specs.declared.token.TokenKind.{TokenKind}
use Rattle.c_lexer.specs.declared.token.TokenKind.TheVariants as kinds
use Rattle.c_lexer.specs.Constants.{constant_of, constant_in, with_suffix, suffix_of, types_of, typed, of_type}
use Rattle.c_lexer.specs.Constants.{greatest_of, is_hexadecimal, is_digit_of}
use Rattle.c_lexer.specs.Characters.{begins}
use Rattle.c_lexer.specs.Literals.{character_value, bytes_of_literal}
use Rattle.c_lexer.specs.Longest.{longest, longest_to, or_shorter, is_valid, valid, begins_comment, front_token}
use Rattle.c_lexer.specs.Separators.{Gap, gap}
use Rattle.c_lexer.specs.Sound.{HasMeaning, IsWord, IsTokenOf}
use Rattle.c_lexer.specs.Spelled.{TokenList}
use Rattle.c_lexer.specs.Spellings.{keyword_of, punctuator_of}
use Rattle.c_lexer.specs.Text.{newlines, line_of, Lexed, behind_tokens, at_end, token_behind, tokens_by, unless_empty}
use Rattle.c_lexer.specs.Text.{tokens_to, tokens}
use Rattle.c_lexer.specs.Words.{word_of, spelling_of, named, punctuated, is_identifier, is_number, is_character}
use Rattle.c_lexer.specs.Words.{is_string, is_wide}
use Rattle.c_lexer.proofs.Ends.{ends_shorter}
use Rattle.c_lexer.proofs.Gaps.{gap_ends}
use Rattle.c_lexer.proofs.LongestWord.{split}
use Rattle.c_lexer.proofs.Tables.{found_true, keyword_spelled, punctuator_spelled}
use Rattle.c_lexer.proofs.Turns.{shorter_behind}

-- ---- words

abbrev IfSpelled : List ℕ → Option TokenKind → Type 0
IfSpelled z o = (w : TokenKind) → o ≡ Some w → spelling_of w ≡ z

this_spelled : (z : List ℕ) (v : TokenKind) → spelling_of v ≡ z → IfSpelled z (Some v)
this_spelled z v e w h = let same : v ≡ w = cc in subst (λ w. spelling_of w ≡ z) same e

name_spelled : (z : List ℕ) (o : Option Keyword) → keyword_of z ≡ o → spelling_of (named z o) ≡ z
name_spelled z None h = refl
name_spelled z (Some k) h = keyword_spelled z k h

punctuated_spelled : (z : List ℕ) (o : Option Punctuator) → punctuator_of z ≡ o → IfSpelled z (punctuated o)
punctuated_spelled z None h w e = absurd cc
punctuated_spelled z (Some p) h w e = this_spelled z (kinds.Punctuator p) (punctuator_spelled z p h) w e

pub word_spelled : (z : List ℕ) (w : TokenKind) → word_of z ≡ Some w → spelling_of w ≡ z
unfolding word_of
word_spelled z =
    cond_both (is_identifier z) _ _ (IfSpelled z) (λ e. this_spelled z (named z (keyword_of z))
    (name_spelled z (keyword_of z) refl))
    (λ e. cond_both (is_number z) _ _ (IfSpelled z) (λ e. this_spelled z (kinds.Integer z) refl)
    (λ e. cond_both (is_character z) _ _ (IfSpelled z) (λ e. this_spelled z (kinds.Character z) refl)
    (λ e. cond_both (is_string z) _ _ (IfSpelled z) (λ e. this_spelled z (kinds.StringLiteral z) refl)
    (λ e. cond_both (is_wide z) _ _ (IfSpelled z) (λ e. this_spelled z (kinds.Wide z) refl)
    (λ e. punctuated_spelled z (punctuator_of z) refl)))))

-- ---- meanings

-- of a word that spells z
abbrev Spells : TokenKind → Type 0
Spells (kinds.Character z) = is_character z ≡ true
Spells (kinds.StringLiteral z) = is_string z ≡ true
Spells _ = Unit {0}

abbrev IfSpells : Option TokenKind → Type 0
IfSpells o = (w : TokenKind) → o ≡ Some w → Spells w

this_spells : (v : TokenKind) → Spells v → IfSpells (Some v)
this_spells v m w h = let same : v ≡ w = cc in subst Spells same m

name_spells : (z : List ℕ) (o : Option Keyword) → Spells (named z o)
name_spells z None = tt
name_spells z (Some k) = tt

punctuated_spells : (o : Option Punctuator) → IfSpells (punctuated o)
punctuated_spells None w h = absurd cc
punctuated_spells (Some p) w h = this_spells (kinds.Punctuator p) tt w h

word_spells : (z : List ℕ) → IfSpells (word_of z)
unfolding word_of
word_spells z =
    cond_both (is_identifier z) _ _ IfSpells (λ e. this_spells (named z (keyword_of z)) (name_spells z (keyword_of z)))
    (λ e. cond_both (is_number z) _ _ IfSpells (λ e. this_spells (kinds.Integer z) tt)
    (λ e. cond_both (is_character z) _ _ IfSpells (λ e. this_spells (kinds.Character z) e)
    (λ e. cond_both (is_string z) _ _ IfSpells (λ e. this_spells (kinds.StringLiteral z) e)
    (λ e. cond_both (is_wide z) _ _ IfSpells (λ e. this_spells (kinds.Wide z) tt)
    (λ e. punctuated_spells (punctuator_of z))))))

some_is : {A : Type 0} (o : Option A) → is_some o ≡ true → IsSome o
some_is None h = absurd (false≢true h)
some_is (Some x) h = search rules

meaning_of : (w : TokenKind) → Spells w → is_valid w ≡ true → HasMeaning w
meaning_of (kinds.Integer z) s v = some_is (constant_of z) v
meaning_of (kinds.Character z) s v = some_is (character_value z) s
meaning_of (kinds.StringLiteral z) s v = some_is (bytes_of_literal z) s
meaning_of (kinds.Identifier z) s v = tt
meaning_of (kinds.Keyword k) s v = tt
meaning_of (kinds.Wide z) s v = tt
meaning_of (kinds.Punctuator p) s v = tt

pub word_meaning : (w : TokenKind) → IsWord w → HasMeaning w
word_meaning w h = meaning_of w (word_spells (spelling_of w) w h.spelled) h.valid

-- ---- the token at the front

longest_is : (k : ℕ) (z : List ℕ) (w : TokenKind) (n : ℕ) → longest_to k z ≡ Some (w, n) → word_of (take n z) ≡ Some w
longest_is zero z w n h = absurd cc
longest_is (suc k) z w n h = by (word_of (take (suc k) z)) refl h (longest_is k z w n)
  where
    by : (o : Option TokenKind) → word_of (take (suc k) z) ≡ o → or_shorter (suc k) o (longest_to k z) ≡ Some (w, n)
        → (longest_to k z ≡ Some (w, n) → word_of (take n z) ≡ Some w)
        → word_of (take n z) ≡ Some w
    by None e h less = less h
    by (Some v) e h less =
        let a : TokenKind × ℕ = (v, suc k) in
        let b : TokenKind × ℕ = (w, n) in
        let same : a ≡ b = cc in
        let f : suc k ≡ n = ap (λ t. t.1) same in
        let g : v ≡ w = ap (λ t. t.0) same in
        subst (λ n. word_of (take n z) ≡ Some w) f (e ∙ ap (λ w. Some w) g)

-- what is known of a token at the front
record IsFrontWord (z : List ℕ) (w : TokenKind) (n : ℕ) : Type 0 where
  pub is : word_of (take n z) ≡ Some w
  pub valid : is_valid w ≡ true

valid_is : (z : List ℕ) (o : Option (TokenKind × ℕ)) (w : TokenKind) (n : ℕ) → longest z ≡ o → valid o ≡ Some (w, n)
    → IsFrontWord z w n
unfolding longest
valid_is z None w n e h = absurd cc
valid_is z (Some t) w n e h =
    split (is_valid t.0)
    (λ v.
    let b : TokenKind × ℕ = (w, n) in
    let g : Some t ≡ Some b = rw v at h in
    let same : t ≡ b = cc in
    record { is = longest_is (length z) z w n (e ∙ g); valid = subst (λ t. is_valid t.0 ≡ true) same v })
    (λ v. let g : None ≡ Some (w, n) = rw v at h in absurd cc)

front_is : (z : List ℕ) (w : TokenKind) (n : ℕ) → front_token z ≡ Some (w, n) → IsFrontWord z w n
unfolding front_token
front_is z w n h =
    split (begins_comment z)
    (λ e. let g : None ≡ Some (w, n) = rw e at h in absurd cc)
    (λ e. valid_is z (longest z) w n refl (rw e at h))

pub front_spelled : (z : List ℕ) (w : TokenKind) (n : ℕ) → front_token z ≡ Some (w, n) → spelling_of w ≡ take n z
front_spelled z w n h = word_spelled (take n z) w (front_is z w n h).is

front_word : (z : List ℕ) (w : TokenKind) (n : ℕ) → front_token z ≡ Some (w, n) → IsWord w
front_word z w n h =
    let f = front_is z w n h in
    record { spelled = ap word_of (front_spelled z w n h) ∙ f.is; valid = f.valid }

-- ---- tokens

record Sound (text z : List ℕ) (found : TokenList) : Type 0 where
  pub all : All (IsTokenOf text) found.tokens
  pub few : length found.tokens ≤ length z
  pub end : found.end ≡ line_of text []

token_sound : (text z : List ℕ) (g : Gap) (w : TokenKind) → IsWord w → IsTokenOf text (token_behind text z g w)
unfolding line_of
token_sound text z g w h = record { kind = h; low = omega arith; high = omega arith }

ok_same : (a b : TokenList) (o : Lexed) → o ≡ Ok a → o ≡ Ok b → a ≡ b
ok_same a b o e h = cc

ended : (text z : List ℕ) (found : TokenList) → at_end text ≡ Ok found → Sound text z found
ended text z found h =
    let same = ok_same (record { tokens = []; end = line_of text [] }) found (at_end text) refl h in
    subst (Sound text z) same (record { all = λ k d below. absurd (omega arith); few = omega arith; end = refl })

behind_sound : (text z y : List ℕ) (t : Token) (o : Lexed) (found : TokenList) → IsTokenOf text t → length y < length z
    → ((found : TokenList) → o ≡ Ok found → Sound text y found)
    → behind_tokens (t ∷ []) o ≡ Ok found → Sound text z found
behind_sound text z y t (Err fault) found w l sound h = absurd cc
behind_sound text z y t (Ok more) found w l sound h =
    let s = sound more refl in
    let same = ok_same (record more { tokens = t ∷ more.tokens }) found (behind_tokens (t ∷ []) (Ok more)) refl h in
    let few = s.few in
    subst (Sound text z) same (record {
      all = All-cons (IsTokenOf text) t more.tokens w s.all;
      few = omega arith;
      end =
          s.end;
    })

front_sound : (text z : List ℕ) (g : Gap) (o : Option (TokenKind × ℕ)) (more : List ℕ → Lexed) (found : TokenList)
    → front_token g.rest ≡ o → length g.rest ≤ length z
    → ((y : List ℕ) (found : TokenList) → more y ≡ Ok found → Sound text y found) → tokens_by text z g o more ≡ Ok found
    → Sound text z found
front_sound text z g None more found f l sound h = absurd cc
front_sound text z g (Some t) more found f l sound h =
    let s = shorter_behind g.rest t.0 t.1 f in
    behind_sound text z (drop t.1 g.rest) (token_behind text z g t.0) (more (drop t.1 g.rest)) found
    (token_sound text z g t.0 (front_word g.rest t.0 t.1 f)) (omega arith) (sound (drop t.1 g.rest)) h

gap_sound : (text z y : List ℕ) (found : TokenList) (more : Lexed) → (more ≡ Ok found → Sound text z found)
    → unless_empty y (at_end text) more ≡ Ok found → Sound text z found
gap_sound text z [] found more sound h = ended text z found h
gap_sound text z (b ∷ y) found more sound h = sound h

tokens_sound : (n : ℕ) (text : List ℕ) (first : Bool) (z : List ℕ) (found : TokenList)
    → tokens_to n text first z ≡ Ok found → Sound text z found
tokens_sound zero text first z found h = ended text z found h
tokens_sound (suc n) text first z found h =
    let g = gap first z in
    gap_sound text z g.rest found (tokens_by text z g (front_token g.rest) (tokens_to n text false))
    (front_sound text z g (front_token g.rest) (tokens_to n text false) found refl
    (ends_shorter g.rest z (gap_ends first z)) (tokens_sound n text false)) h

sound : (text : List ℕ) (found : TokenList) → tokens text ≡ Ok found → Sound text text found
unfolding tokens
sound text found h = tokens_sound (suc (length text)) text true text found h

pub all_tokens : (text : List ℕ) (found : TokenList) → tokens text ≡ Ok found → All (IsTokenOf text) found.tokens
all_tokens text found h = (sound text found h).all

pub few_tokens : (text : List ℕ) (found : TokenList) → tokens text ≡ Ok found → length found.tokens ≤ length text
few_tokens text found h = (sound text found h).few

pub end_line : (text : List ℕ) (found : TokenList) → tokens text ≡ Ok found → found.end ≡ suc (newlines text)
unfolding line_of
end_line text found h =
    let e : suc (newlines text - 0) ≡ suc (newlines text) = omega arith in
    (sound text found h).end ∙ e

-- ---- constants

first_holds : (v : ℕ) (types : List IntegerType) (t : IntegerType) → find (λ t. nat_le v (greatest_of t)) types ≡ Some t
    → v ≤ greatest_of t
first_holds v types t h = leb-true v (greatest_of t) (found_true (λ t. nat_le v (greatest_of t)) types t h)

abbrev Fits : Option IntegerConstant → Type 0
Fits o = (c : IntegerConstant) → o ≡ Some c → c.value ≤ greatest_of c.integer_type

of_type_fits : (v : ℕ) (o : Option IntegerType) → ((t : IntegerType) → o ≡ Some t → v ≤ greatest_of t)
    → Fits (of_type v o)
of_type_fits v None f c h = absurd cc
of_type_fits v (Some t) f c h =
    let d : IntegerConstant = record { integer_type = t; value = v } in
    let g : Some d ≡ Some c = h in
    let same : d ≡ c = cc in subst (λ c. c.value ≤ greatest_of c.integer_type) same (f t refl)

typed_fits : (types : List IntegerType) (v : ℕ) → Fits (typed types v)
unfolding typed
typed_fits types v = of_type_fits v (find (λ t. nat_le v (greatest_of t)) types) (first_holds v types)

with_suffix_fits : (r : Radix) (s : Option Suffix) (v : ℕ) → Fits (with_suffix r s v)
with_suffix_fits r None v c h = absurd cc
with_suffix_fits r (Some s) v c h = typed_fits (types_of r s) v c h

constant_in_fits : (r : Radix) (z : List ℕ) → Fits (constant_in r z)
unfolding constant_in
constant_in_fits r z = cond_both (prefix_len (is_digit_of r) z == 0) None _ Fits (λ e c h. absurd cc)
    (λ e. with_suffix_fits r (suffix_of (drop (prefix_len (is_digit_of r) z) z)) _)

pub constant_fits : (z : List ℕ) (c : IntegerConstant) → constant_of z ≡ Some c → c.value ≤ greatest_of c.integer_type
unfolding constant_of
constant_fits z =
    cond_both (is_hexadecimal z) _ _ Fits (λ e. constant_in_fits radix.Hexadecimal (drop 2 z))
    (λ e. cond_both (begins 48 z) _ _ Fits (λ e. constant_in_fits radix.Octal z)
    (λ e. constant_in_fits radix.Decimal z))
