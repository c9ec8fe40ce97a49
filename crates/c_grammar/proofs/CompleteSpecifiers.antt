-- Specifiers are read from their words.
use Rattle.std.proofs.Common.{◌≡◌, ℕ, zero, suc, ◌<◌, ◌≤◌, Bool, true, false, ◌||◌, List, [], ◌∷◌, Ok, Option, Some}
use Rattle.std.proofs.Common.{None, length, refl, sym, ap, ◌∙◌, arith}
use Rattle.std.specs.Prelude.{nat_le}
use Rattle.std.proofs.lemmas.Bool.{le-leb, and_right}
use Rattle.c_lexer.specs.declared.keyword.Keyword.{Keyword}
use Rattle.c_lexer.specs.declared.keyword.Keyword.TheVariants as k
use Rattle.c_lexer.specs.declared.punctuator.Punctuator.{Punctuator}
use Rattle.c_lexer.specs.declared.punctuator.Punctuator.TheVariants as p
use Rattle.c_lexer.specs.declared.token.TokenKind.{TokenKind}
use Rattle.c_lexer.specs.declared.token.TokenKind.TheVariants as kinds
use Rattle.c_syntax.specs.declared.position.Position.{Position}
use Rattle.c_syntax.specs.declared.position.Spelled.{Spelled}
use Rattle.c_syntax.specs.declared.specifiers.TypeWords.{TypeWords}
use Rattle.c_syntax.specs.Tree.{Specifiers, Specifier, Members, Enumerator, MoreEnumerators}
use Rattle.c_syntax.specs.Tree as t
use Rattle.c_syntax.specs.Levels.{specifiers_levels, specifier_levels, members_levels, enumerator_levels}
use Rattle.c_syntax.specs.Levels.{more_enumerators_levels}
use Rattle.c_syntax.specs.Words.{Words, word_at, punctuator, identifier, tag_words, comma_words, specifiers_words}
use Rattle.c_syntax.specs.Words.{specifier_words, members_words, enumerator_words, more_enumerators_words}
use Rattle.c_syntax.specs.Formed.{with_keyword, with_structure, with_specifier, is_structure_keyword, no_type, is_type}
use Rattle.c_syntax.specs.Formed.{is_typedef, has_typedef, is_no_member, names_type, names_one_type, IsSpecifier}
use Rattle.c_syntax.specs.Formed.{EachSpecifier, AreMembers, IsEnumerator, AreMoreEnumerators}
use Rattle.c_grammar.specs.Reader.{next_is_punctuator, identifier_from}
use Rattle.c_grammar.specs.Readers.{Readers, is_specifier_keyword, is_specifier_word, begins_specifiers}
use Rattle.c_grammar.specs.SpecifierReader.{is_tagged_keyword, goes_on_with_keyword, goes_on_with, begins_body}
use Rattle.c_grammar.specs.SpecifierReader.{structure_body_from, structure_from, enumeration_body_from}
use Rattle.c_grammar.specs.SpecifierReader.{enumeration_from, specifier_by_keyword, specifier_by, specifiers_behind}
use Rattle.c_grammar.specs.SpecifierReader.{specifiers_at}
use Rattle.c_grammar.proofs.Known.{CompleteReaders}
use Rattle.c_grammar.proofs.Facts.{same, expected}
use Rattle.c_grammar.proofs.FirstWords.{specifier_leaves}
use Rattle.c_grammar.proofs.Longer.{specifier_longer}
use Rattle.c_grammar.proofs.CompleteMembers.{same_enumerators, members_again, enumerators_again, first_enumerator_again}

-- specifiers begin with no punctuator, unless there are none
specifier_next : (a : Punctuator) (x : Specifier) (i : Words) → next_is_punctuator a (specifier_words x i) ≡ false
specifier_next a (t.keyword x at) i = refl
specifier_next a (t.typedef_name x) i = refl
specifier_next a (t.structure x at tag) i = refl
specifier_next a (t.structure_body x at tag l m r) i = refl
specifier_next a (t.enumeration at tag) i = refl
specifier_next a (t.enumeration_body at tag l e m c r) i = refl

specifiers_next : (a : Punctuator) (z : Specifiers) (i : Words) → next_is_punctuator a i ≡ false
    → next_is_punctuator a (specifiers_words z i) ≡ false
specifiers_next a t.no_specifiers i h = h
specifiers_next a (t.specifiers x z) i h = specifier_next a x (specifiers_words z i)

-- ---- which words go on

allowed_there : (allowed : Bool) → (allowed ≡ false → true ≡ false) → allowed ≡ true
allowed_there true h = refl
allowed_there false h = sym (h refl)

no_tagged : (x : Keyword) (w : TypeWords) → is_tagged_keyword x ≡ true → with_keyword x w ≡ None
unfolding with_keyword
no_tagged k.Enum w h = refl
no_tagged k.Struct w h = refl
no_tagged k.Union w h = refl
no_tagged _ w h = cc

keyword_goes : (allowed : Bool) (x : Keyword) (at : Position) (w v : TypeWords) → with_keyword x w ≡ Some v
    → (allowed ≡ false → is_typedef (t.keyword x at) ≡ false)
    → goes_on_with_keyword allowed w x ≡ true
keyword_goes allowed k.Typedef at w v is fits = allowed_there allowed fits
keyword_goes allowed k.Enum at w v is fits = let none = no_tagged k.Enum w refl in cc
keyword_goes allowed k.Struct at w v is fits = let none = no_tagged k.Struct w refl in cc
keyword_goes allowed k.Union at w v is fits = let none = no_tagged k.Union w refl in cc
keyword_goes allowed _ at w v is fits = rw is refl

structure_goes : (allowed : Bool) (x : Keyword) (w v : TypeWords) → with_structure x w ≡ Some v
    → goes_on_with_keyword allowed w x ≡ true
structure_goes allowed k.Struct w v is = rw is refl
structure_goes allowed k.Union w v is = rw is refl
structure_goes allowed _ w v is = cc

structure_keyword : (x : Keyword) (w v : TypeWords) → with_structure x w ≡ Some v → is_structure_keyword x ≡ true
structure_keyword k.Struct w v is = refl
structure_keyword k.Union w v is = refl
structure_keyword _ w v is = cc

-- what begins no specifiers ends them
keyword_ends : (allowed : Bool) (x : Keyword) (w : TypeWords) → is_specifier_keyword x ≡ false
    → goes_on_with_keyword allowed w x ≡ false
unfolding with_keyword
keyword_ends allowed k.Enum w h = cc
keyword_ends allowed k.Struct w h = cc
keyword_ends allowed k.Union w h = cc
keyword_ends allowed k.Typedef w h = cc
keyword_ends allowed k.Extern w h = cc
keyword_ends allowed k.Static w h = cc
keyword_ends allowed k.Auto w h = cc
keyword_ends allowed k.Register w h = cc
keyword_ends allowed k.Inline w h = cc
keyword_ends allowed k.Const w h = cc
keyword_ends allowed k.Void w h = cc
keyword_ends allowed k.Char w h = cc
keyword_ends allowed k.Short w h = cc
keyword_ends allowed k.Int w h = cc
keyword_ends allowed k.Long w h = cc
keyword_ends allowed k.Signed w h = cc
keyword_ends allowed k.Unsigned w h = cc
keyword_ends allowed _ w h = refl

module _ (names : List (List ℕ)) (d : ℕ) (deeper : Readers) (known : CompleteReaders names d deeper) where
  word_ends : (allowed : Bool) (x : TokenKind) (w : TypeWords) → is_specifier_word names x ≡ false
      → goes_on_with names deeper d allowed w x ≡ false
  word_ends allowed (kinds.Keyword x) w h = keyword_ends allowed x w h
  word_ends allowed (kinds.Identifier s) w h = rw h refl
  word_ends allowed _ w h = refl

  end : (allowed : Bool) (n : ℕ) (w : TypeWords) (r : Words) → is_type w ≡ true → begins_specifiers names r ≡ false
      → specifiers_behind names deeper d allowed n w r ≡ Ok (t.no_specifiers, r)
  unfolding specifiers_behind
  end allowed zero w r is h = rw is refl
  end allowed (suc n) w [] is h = rw is refl
  end allowed (suc n) w (first ∷ r) is h = rw (word_ends allowed first.kind w h, is) refl

  -- a specifier by its first word
  turn : (allowed : Bool) (n : ℕ) (w v : TypeWords) (first : TokenKind) (at : Position) (x : Specifier) (z : Specifiers)
      (i j r : Words)
      → goes_on_with names deeper d allowed w first ≡ true → specifier_by names deeper d first at i ≡ Ok (x, j)
      → with_specifier x w ≡ Some v
      → specifiers_behind names deeper d allowed n v j ≡ Ok (z, r)
      → specifiers_behind names deeper d allowed (suc n) w (word_at first at ∷ i) ≡ Ok (t.specifiers x z, r)
  unfolding specifiers_behind
  turn allowed n w v first at x z i j r goes read is others = rw (goes, read, is, others) refl

  -- ---- one specifier

  keyword_again : (x : Keyword) (at : Position) (w v : TypeWords) (i : Words) → with_keyword x w ≡ Some v
      → specifier_by_keyword names deeper d x at i ≡ Ok (t.keyword x at, i)
  keyword_again k.Enum at w v i is = let none = no_tagged k.Enum w refl in cc
  keyword_again k.Struct at w v i is = let none = no_tagged k.Struct w refl in cc
  keyword_again k.Union at w v i is = let none = no_tagged k.Union w refl in cc
  keyword_again _ at w v i is = refl

  no_body : (i : Words) → next_is_punctuator p.LeftBrace i ≡ false → begins_body names deeper d i ≡ false
  no_body i h = and_right (nat_le 1 d) (next_is_punctuator p.LeftBrace i) h

  structure_again : (x : Keyword) (at : Position) (tag : Spelled) (i : Words) → next_is_punctuator p.LeftBrace i ≡ false
      → structure_from names deeper d x at (identifier tag ∷ i) ≡ Ok (t.structure x at tag, i)
  unfolding structure_from identifier_from
  structure_again x at tag i h = rw (no_body (identifier tag ∷ i) refl, no_body i h) refl

  structure_body_again : (x : Keyword) (at : Position) (tag : Option Spelled) (l : Position) (m : Members)
      (q : Position) (i : Words) → is_no_member m ≡ false → AreMembers names m → members_levels m < d
      → structure_body_from names deeper d x at tag (punctuator p.LeftBrace l
      ∷ members_words m (punctuator p.RightBrace q ∷ i)) ≡ Ok (t.structure_body x at tag l m q, i)
  unfolding structure_body_from
  structure_body_again x at tag l m q i some h low =
      rw (
        expected p.LeftBrace l (members_words m (punctuator p.RightBrace q ∷ i)),
        members_again names d deeper known m q i some h low,
        expected p.RightBrace q i,
      ) refl

  tagged_structure_again : (x : Keyword) (at : Position) (tag : Option Spelled) (l : Position) (m : Members)
      (q : Position) (i : Words) → is_no_member m ≡ false → AreMembers names m → members_levels m < d
      → structure_from names deeper d x at (tag_words tag (punctuator p.LeftBrace l
      ∷ members_words m (punctuator p.RightBrace q ∷ i))) ≡ Ok (t.structure_body x at tag l m q, i)
  unfolding structure_from identifier_from
  tagged_structure_again x at None l m q i some h low =
      let level : 1 ≤ d = omega arith in rw (
        le-leb 1 d level,
        same p.LeftBrace,
        structure_body_again x at None l m q i some h low,
      ) refl
  tagged_structure_again x at (Some tag) l m q i some h low =
      let level : 1 ≤ d = omega arith in rw (
        le-leb 1 d level,
        same p.LeftBrace,
        structure_body_again x at (Some tag) l m q i some h low,
      ) refl

  enumeration_again : (at : Position) (tag : Spelled) (i : Words) → next_is_punctuator p.LeftBrace i ≡ false
      → enumeration_from names deeper d at (identifier tag ∷ i) ≡ Ok (t.enumeration at tag, i)
  unfolding enumeration_from identifier_from
  enumeration_again at tag i h = rw (no_body (identifier tag ∷ i) refl, no_body i h) refl

  enumeration_body_again : (at : Position) (tag : Option Spelled) (l : Position) (e : Enumerator) (m : MoreEnumerators)
      (c : Option Position) (q : Position) (i : Words)
      → IsEnumerator names e → AreMoreEnumerators names m → enumerator_levels e < d → more_enumerators_levels m < d
      → enumeration_body_from names deeper d at tag (punctuator p.LeftBrace l
      ∷ enumerator_words e (more_enumerators_words m (comma_words c (punctuator p.RightBrace q ∷ i))))
      ≡ Ok (t.enumeration_body at tag l e m c q, i)
  unfolding enumeration_body_from
  enumeration_body_again at tag l e m c q i first others low shallow =
      let behind : Words = more_enumerators_words m (comma_words c (punctuator p.RightBrace q ∷ i)) in
      rw (
        expected p.LeftBrace l (enumerator_words e behind),
        first_enumerator_again names d deeper known e m c q i first low,
        enumerators_again names d deeper known (length behind) m c q i others shallow (omega arith),
        expected p.RightBrace q i,
        same_enumerators m,
      ) refl

  tagged_enumeration_again : (at : Position) (tag : Option Spelled) (l : Position) (e : Enumerator)
      (m : MoreEnumerators) (c : Option Position) (q : Position) (i : Words)
      → IsEnumerator names e → AreMoreEnumerators names m → enumerator_levels e < d → more_enumerators_levels m < d
      → enumeration_from names deeper d at (tag_words tag (punctuator p.LeftBrace l
      ∷ enumerator_words e (more_enumerators_words m (comma_words c (punctuator p.RightBrace q ∷ i)))))
      ≡ Ok (t.enumeration_body at tag l e m c q, i)
  unfolding enumeration_from identifier_from
  tagged_enumeration_again at None l e m c q i first others low shallow =
      let level : 1 ≤ d = omega arith in rw (
        le-leb 1 d level,
        same p.LeftBrace,
        enumeration_body_again at None l e m c q i first others low shallow,
      ) refl
  tagged_enumeration_again at (Some tag) l e m c q i first others low shallow =
      let level : 1 ≤ d = omega arith in rw (
        le-leb 1 d level,
        same p.LeftBrace,
        enumeration_body_again at (Some tag) l e m c q i first others low shallow,
      ) refl

  -- ---- specifiers, behind the words of a type that have come

  specifier_again : (allowed : Bool) (n : ℕ) (w v : TypeWords) (x : Specifier) (z : Specifiers) (i r : Words)
      → with_specifier x w ≡ Some v → IsSpecifier names x → (allowed ≡ false → is_typedef x ≡ false)
      → specifier_levels x ≤ d → next_is_punctuator p.LeftBrace i ≡ false
      → specifiers_behind names deeper d allowed n v i ≡ Ok (z, r)
      → specifiers_behind names deeper d allowed (suc n) w (specifier_words x i) ≡ Ok (t.specifiers x z, r)
  unfolding with_specifier
  specifier_again allowed n w v (t.keyword x at) z i r is h fits low brace others =
      turn allowed n w v (kinds.Keyword x) at (t.keyword x at) z i i r (keyword_goes allowed x at w v is fits)
      (keyword_again x at w v i is) is others
  specifier_again allowed n w v (t.typedef_name x) z i r is h fits low brace others =
      turn allowed n w v (kinds.Identifier x.spelling) x.position (t.typedef_name x) z i i r (rw (h, is) refl) refl is
      others
  specifier_again allowed n w v (t.structure x at tag) z i r is h fits low brace others =
      turn allowed n w v (kinds.Keyword x) at (t.structure x at tag) z (identifier tag ∷ i) i r
      (structure_goes allowed x w v is) (rw (structure_keyword x w v is, structure_again x at tag i brace) refl) is
      others
  specifier_again allowed n w v (t.structure_body x at tag l m q) z i r is h fits low brace others =
      turn allowed n w v (kinds.Keyword x) at (t.structure_body x at tag l m q) z
      (tag_words tag (punctuator p.LeftBrace l ∷ members_words m (punctuator p.RightBrace q ∷ i))) i r
      (structure_goes allowed x w v is) (rw (
        structure_keyword x w v is,
        tagged_structure_again x at tag l m q i h.0 h.1 (omega arith),
      ) refl) is others
  specifier_again allowed n w v (t.enumeration at tag) z i r is h fits low brace others =
      turn allowed n w v (kinds.Keyword k.Enum) at (t.enumeration at tag) z (identifier tag ∷ i) i r (rw is refl)
      (enumeration_again at tag i brace) is others
  specifier_again allowed n w v (t.enumeration_body at tag l e m c q) z i r is h fits low brace others =
      turn allowed n w v (kinds.Keyword k.Enum) at (t.enumeration_body at tag l e m c q) z
      (tag_words tag (punctuator p.LeftBrace l ∷ enumerator_words e
      (more_enumerators_words m (comma_words c (punctuator p.RightBrace q ∷ i))))) i r
      (rw is refl) (tagged_enumeration_again at tag l e m c q i h.0 h.1 (omega arith) (omega arith)) is others

  -- neither is a typedef where none of them is
  either_false : (a b : Bool) → (a || b) ≡ false → (a ≡ false) × (b ≡ false)
  either_false true b h = absurd cc
  either_false false b h = (refl, h)

  behind_again : (allowed : Bool) (n : ℕ) (w : TypeWords) (z : Specifiers) (r : Words) → names_type (Some w) z ≡ true
      → EachSpecifier names z → (allowed ≡ false → has_typedef z ≡ false)
      → specifiers_levels z ≤ d → begins_specifiers names r ≡ false → next_is_punctuator p.LeftBrace r ≡ false
      → length (specifiers_words z r) ≤ n
      → specifiers_behind names deeper d allowed n w (specifiers_words z r) ≡ Ok (z, r)
  behind_again allowed n w t.no_specifiers r is h fits low ends brace room = end allowed n w r is ends
  behind_again allowed zero w (t.specifiers x z) r is h fits low ends brace room =
      absurd (omega (arith, specifier_longer x (specifiers_words z r)))
  behind_again allowed (suc n) w (t.specifiers x z) r is h fits low ends brace room =
      let left = specifier_leaves names (with_specifier x w) z is in
      let one : names_type (Some left.0) z ≡ true = sym (ap (λ v. names_type v z) left.1) ∙ is in
      specifier_again allowed n w left.0 x z (specifiers_words z r) r left.1 h.0
      (λ f. (either_false (is_typedef x) (has_typedef z) (fits f)).0) (omega arith)
      (specifiers_next p.LeftBrace z r brace)
      (behind_again allowed n left.0 z r one h.1 (λ f. (either_false (is_typedef x) (has_typedef z) (fits f)).1)
      (omega arith) ends brace (omega (arith, specifier_longer x (specifiers_words z r))))

  pub specifiers_again : (allowed : Bool) (z : Specifiers) (r : Words) → names_one_type z ≡ true → EachSpecifier names z
      → (allowed ≡ false → has_typedef z ≡ false)
      → specifiers_levels z ≤ d → begins_specifiers names r ≡ false → next_is_punctuator p.LeftBrace r ≡ false
      → specifiers_at names deeper d allowed (specifiers_words z r) ≡ Ok (z, r)
  unfolding specifiers_at
  specifiers_again allowed z r is h fits low ends brace = behind_again allowed (length (specifiers_words z r)) no_type z
      r is h fits low ends brace (omega arith)
