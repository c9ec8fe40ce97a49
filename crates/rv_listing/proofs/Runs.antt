-- Runs of zeros, as the pieces of a file are put one after the other.
use Rattle.std.proofs.Common.{rules, ◌≡◌, ℕ, zero, suc, ◌+◌, ◌<◌, ◌≤◌, Bool, true, false, ◌==◌, List, []}
use Rattle.std.proofs.Common.{◌∷◌, ◌++◌, length}
use Rattle.std.proofs.Common.{take, drop, refl, sym, ap, ◌∙◌, arith, Option, Some, None}
use Rattle.std.proofs.lemmas.List.{append_assoc, append-nil}
use Rattle.std.specs.Prelude.{if◌then◌else◌}
use Rattle.byteorder.specs.Endian.{little_number}
use Rattle.rv_isa.specs.Decoding.{decoded}
use Rattle.rv_isa.specs.declared.instruction.Instr.{Instr}
use Rattle.rv_listing.specs.Lines.{Piece, image, instruction, zeros, group, line_text}
use Rattle.rv_listing.specs.Listings.{word_piece, by_instruction, words, is_code, with_piece, merged, with_zeros, zeros_text, text_of}

is_zero : (n : ℕ) → (n == 0) ≡ true → n ≡ 0
is_zero n e = search (rules, e)

not_zero : (n : ℕ) → (n ≡ 0 → ⊥) → (n == 0) ≡ false
not_zero n other = by (n == 0) refl where
  by : (b : Bool) → (n == 0) ≡ b → b ≡ false
  by true e = absurd (other (is_zero n e))
  by false e = refl

above_zero : (n : ℕ) → 1 ≤ n → (n == 0) ≡ false
above_zero n le = not_zero n (λ e. absurd (omega (arith, le, e)))

-- a piece that is no run of zeros
abbrev pub IsOther : Piece → Type 0
IsOther (image n) = Unit {0}
IsOther (instruction i) = Unit {0}
IsOther (zeros n) = ⊥
IsOther (group bs) = Unit {0}

alone : (b : Bool) (z : ℕ) (old : List ℕ) (p : Piece) (qs : List Piece)
    → ((old ++ (if b then [] else line_text (zeros z))) ++ line_text p) ++ text_of qs
    ≡ old ++ text_of (if b then p ∷ qs else zeros z ∷ p ∷ qs)
unfolding text_of
alone true z old p qs =
    ap (λ x. (x ++ line_text p) ++ text_of qs) (append-nil old) ∙ append_assoc old (line_text p) (text_of qs)
alone false z old p qs =
    append_assoc (old ++ line_text (zeros z)) (line_text p) (text_of qs)
    ∙ append_assoc old (line_text (zeros z)) (line_text p ++ text_of qs)

pub other_piece : (p : Piece) → IsOther p → (old new : List ℕ) (z : ℕ) (ps : List Piece)
    → new ≡ (old ++ zeros_text z) ++ line_text p
    → new ++ text_of (merged ps) ≡ old ++ text_of (with_zeros z (merged (p ∷ ps)))
unfolding merged with_piece
other_piece (image n) o old new z ps e =
    ap (λ x. x ++ text_of (merged ps)) e ∙ alone (z == 0) z old (image n) (merged ps)
other_piece (instruction i) o old new z ps e =
    ap (λ x. x ++ text_of (merged ps)) e ∙ alone (z == 0) z old (instruction i) (merged ps)
other_piece (zeros n) o old new z ps e = absurd o
other_piece (group bs) o old new z ps e =
    ap (λ x. x ++ text_of (merged ps)) e ∙ alone (z == 0) z old (group bs) (merged ps)

joined : (z : ℕ) (qs : List Piece) → with_zeros (z + 4) qs ≡ with_zeros z (with_piece (zeros 4) qs)
unfolding with_piece
joined zero [] = refl
joined zero (image n ∷ ps) = refl
joined zero (instruction i ∷ ps) = refl
joined zero (zeros n ∷ ps) = refl
joined zero (group bs ∷ ps) = refl
joined (suc z) qs = more (suc z + 4 == 0) (suc z == 0) (above_zero (suc z + 4) (omega arith)) (above_zero (suc z) (omega arith)) qs where
  more : (b c : Bool) → b ≡ false → c ≡ false → (qs : List Piece)
      → (if b then qs else with_piece (zeros (suc z + 4)) qs)
      ≡ (if c then with_piece (zeros 4) qs else with_piece (zeros (suc z)) (with_piece (zeros 4) qs))
  more true c e f qs = absurd cc
  more false true e f qs = absurd cc
  more false false e f [] = refl
  more false false e f (image n ∷ ps) = refl
  more false false e f (instruction i ∷ ps) = refl
  more false false e f (zeros n ∷ ps) = ap (λ k. zeros k ∷ ps) (omega arith)
  more false false e f (group bs ∷ ps) = refl

-- what a word is, by what it decodes to where it is code
found : (c : Bool) (word : List ℕ) (o : Option Instr) → o ≡ (if c then decoded (little_number 4 word) else None)
    → word_piece c word ≡ by_instruction word o
unfolding word_piece
found c word o e = ap (by_instruction word) (sym e)

abbrev pub Puts : (old new : List ℕ) (z left : ℕ) (c : Bool) (word : List ℕ) → List Piece → Type 0
Puts old new z left c word ps =
    new ++ text_of (with_zeros left (merged ps)) ≡ old ++ text_of (with_zeros z (merged (word_piece c word ∷ ps)))

pub puts_instruction : (old new word : List ℕ) (z : ℕ) (c : Bool) (i : Instr) (o : Option Instr)
    → o ≡ (if c then decoded (little_number 4 word) else None) → o ≡ Some i
    → new ≡ (old ++ zeros_text z) ++ line_text (instruction i) → (ps : List Piece) → Puts old new z 0 c word ps
puts_instruction old new word z c i o e is f ps =
    other_piece (instruction i) tt old new z ps f
    ∙ ap (λ p. old ++ text_of (with_zeros z (merged (p ∷ ps)))) (sym (found c word (Some i) (sym is ∙ e)))

by_number : (word : List ℕ) (b : Bool) → (little_number 4 word == 0) ≡ b
    → by_instruction word None ≡ (if b then zeros 4 else group word)
by_number word b e = ap (λ x. if x then zeros 4 else group word) e

pub puts_zeros : (old word : List ℕ) (z : ℕ) (c : Bool) (o : Option Instr)
    → o ≡ (if c then decoded (little_number 4 word) else None) → o ≡ None → little_number 4 word ≡ 0
    → (ps : List Piece) → Puts old old z (z + 4) c word ps
unfolding merged
puts_zeros old word z c o e is t ps =
    ap (λ x. old ++ text_of x) (joined z (merged ps))
    ∙ ap (λ p. old ++ text_of (with_zeros z (with_piece p (merged ps))))
    (sym (found c word None (sym is ∙ e) ∙ by_number word true (ap (λ n. n == 0) t)))

pub puts_group : (old new word : List ℕ) (z : ℕ) (c : Bool) (o : Option Instr)
    → o ≡ (if c then decoded (little_number 4 word) else None) → o ≡ None → (little_number 4 word ≡ 0 → ⊥)
    → new ≡ (old ++ zeros_text z) ++ line_text (group word) → (ps : List Piece) → Puts old new z 0 c word ps
puts_group old new word z c o e is t f ps =
    other_piece (group word) tt old new z ps f
    ∙ ap (λ p. old ++ text_of (with_zeros z (merged (p ∷ ps))))
    (sym (found c word None (sym is ∙ e) ∙ by_number word false (not_zero (little_number 4 word) t)))

-- the words of a file in turn

words_more : (ranges : List (ℕ × ℕ)) (place : ℕ) (bs : List ℕ) → 4 ≤ length bs
    → words ranges place bs ≡ word_piece (is_code ranges place) (take 4 bs) ∷ words ranges (place + 4) (drop 4 bs)
unfolding words
words_more ranges place [] le = absurd (omega (arith, le))
words_more ranges place (a ∷ []) le = absurd (omega (arith, le))
words_more ranges place (a ∷ b ∷ []) le = absurd (omega (arith, le))
words_more ranges place (a ∷ b ∷ c ∷ []) le = absurd (omega (arith, le))
words_more ranges place (a ∷ b ∷ c ∷ d ∷ bs) le = refl

words_last : (ranges : List (ℕ × ℕ)) (place : ℕ) (bs : List ℕ) → length bs < 4 → 1 ≤ length bs
    → words ranges place bs ≡ group bs ∷ []
unfolding words
words_last ranges place [] lt some = absurd (omega (arith, some))
words_last ranges place (a ∷ []) lt some = refl
words_last ranges place (a ∷ b ∷ []) lt some = refl
words_last ranges place (a ∷ b ∷ c ∷ []) lt some = refl
words_last ranges place (a ∷ b ∷ c ∷ d ∷ bs) lt some = absurd (omega (arith, lt))

-- what is done, with what is yet to come, is the whole
abbrev pub Lists : (start text : List ℕ) (z place : ℕ) (ranges : List (ℕ × ℕ)) (bytes rest : List ℕ) → Type 0
Lists start text z place ranges bytes rest =
    text ++ text_of (with_zeros z (merged (words ranges place rest)))
    ≡ start ++ text_of (merged (words ranges 0 bytes))

pub one_word : (start text text' : List ℕ) (z z' place : ℕ) (ranges : List (ℕ × ℕ)) (bytes rest word back : List ℕ)
    → 4 ≤ length rest → word ≡ take 4 rest → back ≡ drop 4 rest
    → Puts text text' z z' (is_code ranges place) word (words ranges (place + 4) back)
    → Lists start text z place ranges bytes rest → Lists start text' z' (place + 4) ranges bytes back
one_word start text text' z z' place ranges bytes rest word back le w b puts e =
    puts
    ∙ ap (λ x. text ++ text_of (with_zeros z (merged (word_piece (is_code ranges place) x ∷ words ranges (place + 4) back)))) w
    ∙ ap (λ x. text ++ text_of (with_zeros z (merged (word_piece (is_code ranges place) (take 4 rest) ∷ words ranges
    (place + 4) x)))) b
    ∙ ap (λ x. text ++ text_of (with_zeros z (merged x))) (sym (words_more ranges place rest le)) ∙ e

zeros_alone : (b : Bool) (z : ℕ) (old : List ℕ)
    → old ++ (if b then [] else line_text (zeros z)) ≡ old ++ text_of (if b then [] else zeros z ∷ [])
unfolding text_of
zeros_alone true z old = refl
zeros_alone false z old = ap (λ x. old ++ x) (sym (append-nil (line_text (zeros z))))

pub no_more : (start text new : List ℕ) (z place : ℕ) (ranges : List (ℕ × ℕ)) (bytes rest : List ℕ) → length rest ≡ 0
    → new ≡ text ++ zeros_text z → Lists start text z place ranges bytes rest
    → new ≡ start ++ text_of (merged (words ranges 0 bytes))
unfolding words merged with_piece
no_more start text new z place ranges bytes [] n f e = f ∙ zeros_alone (z == 0) z text ∙ e
no_more start text new z place ranges bytes (a ∷ rest) n f e = absurd (omega (arith, n))

nothing_more : (new : List ℕ) → new ++ [] ≡ new ++ text_of (merged [])
unfolding merged text_of
nothing_more new = refl

pub last_group : (start text new : List ℕ) (z place : ℕ) (ranges : List (ℕ × ℕ)) (bytes rest : List ℕ)
    → length rest < 4 → 1 ≤ length rest → new ≡ (text ++ zeros_text z) ++ line_text (group rest)
    → Lists start text z place ranges bytes rest → new ≡ start ++ text_of (merged (words ranges 0 bytes))
last_group start text new z place ranges bytes rest lt some f e =
    sym (append-nil new) ∙ nothing_more new ∙ other_piece (group rest) tt text new z [] f
    ∙ ap (λ x. text ++ text_of (with_zeros z (merged x))) (sym (words_last ranges place rest lt some)) ∙ e
