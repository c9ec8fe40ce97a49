-- What is read as an initializer is a well-formed one with the words that were read (C99 6.7.8).
use Rattle.std.proofs.Common.{◌≡◌, ℕ, zero, suc, ◌<◌, nat_le, Bool, true, false, List, [], ◌∷◌, length, Option, Some}
use Rattle.std.proofs.Common.{None, refl, ap, ◌∙◌, arith}
use Rattle.std.proofs.lemmas.Bool.{leb-true, and_parts, both_ways, false≢true}
use Rattle.c_lexer.specs.declared.punctuator.Punctuator.TheVariants as p
use Rattle.c_lexer.specs.declared.token.TokenKind.{TokenKind}
use Rattle.c_syntax.specs.declared.position.Position.{Position}
use Rattle.c_syntax.specs.Tree.{Initializer, InitializerItem, Designator, Designation}
use Rattle.c_syntax.specs.Tree as t
use Rattle.c_syntax.specs.StatementsView.{more_items_of}
use Rattle.c_syntax.specs.Levels.{designators_levels, designation_levels, initializer_levels, item_levels}
use Rattle.c_syntax.specs.Levels.{more_items_levels}
use Rattle.c_syntax.specs.Words.{Words, punctuator, designator_words, designators_words, designation_words}
use Rattle.c_syntax.specs.Words.{initializer_words, item_words, more_items_words}
use Rattle.c_syntax.specs.Formed.{is_empty, AreDesignators, IsDesignation, IsInitializer, IsItem, AreMoreItems}
use Rattle.c_grammar.specs.Reader.{Reader, next_is, next_is_punctuator}
use Rattle.c_grammar.specs.Readers.{Readers}
use Rattle.c_grammar.specs.Nested.{readers}
use Rattle.c_grammar.specs.InitializerReader.{begins_designator, element_from, member_named_from, designators_from}
use Rattle.c_grammar.specs.InitializerReader.{designation_from, item_from, braced_from, value_from, initializer_at}
use Rattle.c_grammar.specs.InitializerReader.{initializers}
use Rattle.c_grammar.proofs.Known.{SoundReaders}
use Rattle.c_grammar.proofs.Inversion.{Gives, gives_ok, gives_err, gives_bind, gives_if, expect_gives, identifier_gives}
use Rattle.c_grammar.proofs.Inversion.{FoundEach, BehindComma, to_brace_gives}
use Rattle.c_grammar.proofs.SoundTyped.{expression_part}
use Rattle.c_grammar.proofs.Sound.{sound}

-- the words i are those of an initializer and then r
pub record FoundInitializer (names : List (List ℕ)) (n : ℕ) (i : Words) (v : Initializer) (r : Words) : Type 0 where
  pub formed : IsInitializer names v
  pub low : initializer_levels v < n
  pub same : i ≡ initializer_words v r

-- where there is a next word, there are words
some_words : (is : TokenKind → Bool) (i : Words) → next_is is i ≡ true → 0 < length i
some_words is [] h = absurd (false≢true h)
some_words is (first ∷ i) h = omega arith

module _ (names : List (List ℕ)) (levels : ℕ) (some : 0 < levels) (deeper : Readers)
    (known : SoundReaders names levels deeper) where
  -- ---- designations

  -- the words i are those of a designator and then r; others may stand behind it
  record FoundDesignator (i : Words) (x : Designator) (r : Words) : Type 0 where
    formed : (z : List Designator) → AreDesignators names z → AreDesignators names (x ∷ z)
    low : (z : List Designator) → designators_levels z < levels → designators_levels (x ∷ z) < levels
    same : i ≡ designator_words x r

  element_gives : (i : Words) → Gives (element_from deeper i) (FoundDesignator i)
  unfolding element_from
  element_gives i = gives_bind (expect_gives p.LeftBracket i) λ l i f.
      gives_bind (expression_part names levels deeper known 3 i (omega arith)) λ e i g.
      gives_bind (expect_gives p.RightBracket i) λ r i h.
      gives_ok (t.element l e r) i (record {
        formed = λ z others. (g.binding, g.formed, others);
        low =
            λ z others. omega (arith, g.low, others);
        same = rw (f, g.same, h) refl;
      })

  member_named_gives : (i : Words) → Gives (member_named_from deeper i) (FoundDesignator i)
  unfolding member_named_from
  member_named_gives i = gives_bind (expect_gives p.Dot i) λ at i f. gives_bind (identifier_gives i) λ x i g.
      gives_ok (t.member_named at x) i (record {
        formed = λ z others. others;
        low = λ z others. others;
        same =
            rw (f, g) refl;
      })

  -- the words i are those of designators, at most n of them, and then r
  record FoundDesignators (n : ℕ) (i : Words) (z : List Designator) (r : Words) : Type 0 where
    some_designator : 0 < n → next_is begins_designator i ≡ true → is_empty z ≡ false
    formed : AreDesignators names z
    low : designators_levels z < levels
    same : i ≡ designators_words z r

  designators_gives : (n : ℕ) (i : Words) → Gives (designators_from deeper n i) (FoundDesignators n i)
  unfolding designators_from
  designators_gives zero i = gives_ok [] i (record {
    some_designator = λ h _. absurd (omega (arith, h));
    formed =
        tt;
    low = some;
    same = refl;
  })
  designators_gives (suc n) i = gives_if
      (λ _. gives_bind (gives_if {b = next_is_punctuator p.LeftBracket i} (λ _. element_gives i)
      (λ _. member_named_gives i)) λ x j f. gives_bind (designators_gives n j) λ z r g.
      gives_ok (x ∷ z) r (record {
        some_designator = λ _ _. refl;
        formed = f.formed z g.formed;
        low = f.low z g.low;
        same = f.same ∙ ap (λ i. designator_words x i) g.same;
      }))
      (λ c. gives_ok [] i (record {
        some_designator = λ _ h. absurd (both_ways (next_is begins_designator i) c h);
        formed = tt;
        low = some;
        same = refl;
      }))

  -- the words i are those of a designation, or none, and then r
  record FoundDesignation (i : Words) (x : Option Designation) (r : Words) : Type 0 where
    formed : IsDesignation names x
    low : designation_levels x < levels
    same : i ≡ designation_words x r

  designation_gives : (i : Words) → Gives (designation_from deeper i) (FoundDesignation i)
  unfolding designation_from
  designation_gives i = gives_if
      (λ c. gives_bind (designators_gives (length i) i) λ z j f. gives_bind (expect_gives p.Assign j) λ at r g.
      gives_ok (Some (record { designators = z; equals = at })) r (record {
        formed = (f.some_designator (some_words begins_designator i c) c, f.formed);
        low = f.low;
        same = f.same ∙ ap (λ i. designators_words z i) g;
      }))
      (λ _. gives_ok None i (record { formed = tt; low = some; same = refl }))

  -- ---- items

  -- the words i are those of an item and then r
  record FoundItem (i : Words) (x : InitializerItem) (r : Words) : Type 0 where
    formed : IsItem names x
    low : item_levels x < levels
    same : i ≡ item_words x r

  more_items_found : (i : Words) (z : List (Position × InitializerItem)) (r : Words)
      → FoundEach (BehindComma FoundItem) i z r
      → AreMoreItems names (more_items_of z) × (more_items_levels (more_items_of z) < levels)
      × (i ≡ more_items_words (more_items_of z) r)
  more_items_found i [] r f = (tt, some, f)
  more_items_found i (x ∷ z) r f =
      let e = f.1.2 in
      let m = more_items_found f.0 z r f.2 in (
        (e.formed, m.0),
        omega (arith, e.low, m.1),
        f.1.1 ∙ ap (λ i. punctuator p.Comma x.0 ∷ i)
            (e.same ∙ ap (λ i. item_words x.1 i) m.2),
      )

  module _ (initializer : Reader Initializer) (inner : (i : Words)
      → Gives (initializer i) (FoundInitializer names levels i)) where
    item_gives : (i : Words) → Gives (item_from deeper initializer i) (FoundItem i)
    unfolding item_from
    item_gives i = gives_bind (designation_gives i) λ x i f. gives_bind (inner i) λ v i g.
        gives_ok (t.item x v) i (record {
          formed = (f.formed, g.formed);
          low = omega (arith, f.low, g.low);
          same =
              rw (f.same, g.same) refl;
        })

    braced_gives : (i : Words) → Gives (braced_from (item_from deeper initializer) i)
        (FoundInitializer names (suc levels) i)
    unfolding braced_from
    braced_gives i = gives_bind (expect_gives p.LeftBrace i) λ l i f. gives_bind (item_gives i) λ x j g.
        gives_bind (to_brace_gives FoundItem (item_from deeper initializer) item_gives (length j) j) λ m s others.
        let found = more_items_found j m.0 others.0 others.1 in
        gives_bind (expect_gives p.RightBrace s) λ r i last.
        gives_ok (t.braced l x (more_items_of m.0) m.1 r) i (record {
          formed = (g.formed, found.0);
          low = omega (arith, g.low, found.1);
          same = rw (f, g.same, found.2, others.2, last) refl;
        })

value_gives : (names : List (List ℕ)) (n : ℕ) (same : Readers) → SoundReaders names n same → (i : Words)
    → Gives (value_from same i) (FoundInitializer names n i)
unfolding value_from
value_gives names n same known i = gives_bind (expression_part names n same known 2 i (omega arith)) λ e i f.
    gives_ok (t.value e) i (record { formed = (f.binding, f.formed); low = f.low; same = f.same })

initializer_gives : (names : List (List ℕ)) (levels : ℕ) (deeper : Reader Initializer)
    → ((i : Words) → Gives (deeper i) (FoundInitializer names levels i))
    → (i : Words) → Gives (initializer_at names deeper levels i) (FoundInitializer names (suc levels) i)
unfolding initializer_at
initializer_gives names levels deeper inner i = gives_if
    (λ c. braced_gives names levels (leb-true 1 levels (and_parts (next_is_punctuator p.LeftBrace i) (nat_le 1 levels)
    c).1) (readers names levels) (sound names levels) deeper inner i)
    (λ _. value_gives names (suc levels) (readers names (suc levels)) (sound names (suc levels)) i)

pub initializers_gives : (names : List (List ℕ)) (n : ℕ) (i : Words)
    → Gives (initializers names n i) (FoundInitializer names n i)
unfolding initializers
initializers_gives names zero i = gives_err i
initializers_gives names (suc levels) i = initializer_gives names levels (initializers names levels)
    (λ i. initializers_gives names levels i) i
