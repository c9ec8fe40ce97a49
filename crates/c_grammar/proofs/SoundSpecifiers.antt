-- What is read as specifiers is well formed, with the words of one type and the words that were read (C99 6.7.1 to
-- 6.7.4).
use Rattle.std.proofs.Common.{◌≡◌, ℕ, zero, suc, ◌<◌, nat_le, Bool, true, false, if◌then◌else◌, List, [], ◌∷◌, length}
use Rattle.std.proofs.Common.{Option, Some, None, is_some, refl, ap, ◌∙◌, arith}
use Rattle.std.proofs.lemmas.Bool.{leb-true, and_parts, both_ways, or_from}
use Rattle.c_lexer.specs.declared.keyword.Keyword.{Keyword}
use Rattle.c_lexer.specs.declared.keyword.Keyword.TheVariants as k
use Rattle.c_lexer.specs.declared.punctuator.Punctuator.TheVariants as p
use Rattle.c_lexer.specs.declared.token.TokenKind.{TokenKind}
use Rattle.c_lexer.specs.declared.token.TokenKind.TheVariants as kinds
use Rattle.c_syntax.specs.declared.position.Position.{Position}
use Rattle.c_syntax.specs.declared.position.Spelled.{Spelled}
use Rattle.c_syntax.specs.declared.specifiers.TypeWords.{TypeWords}
use Rattle.c_syntax.specs.Tree.{Declarator, Specifiers, Specifier, Members, Member, Enumerator}
use Rattle.c_syntax.specs.Tree as t
use Rattle.c_syntax.specs.View.{members_of, more_declarators_of, more_enumerators_of}
use Rattle.c_syntax.specs.Levels.{specifiers_levels, specifier_levels, members_levels, member_levels}
use Rattle.c_syntax.specs.Levels.{more_declarators_levels, enumerator_levels, more_enumerators_levels}
use Rattle.c_syntax.specs.Words.{Words, word_at, punctuator, keyword, tag_words, declarator_words, specifiers_words}
use Rattle.c_syntax.specs.Words.{specifier_words, members_words, member_words, more_declarators_words, enumerator_words}
use Rattle.c_syntax.specs.Words.{more_enumerators_words}
use Rattle.c_syntax.specs.Formed.{is_among, with_keyword, with_other, with_specifier, is_structure_keyword, is_typedef}
use Rattle.c_syntax.specs.Formed.{has_typedef, no_type, names_type, is_no_member, IsSpecifier, EachSpecifier}
use Rattle.c_syntax.specs.Formed.{AreMembers, IsMember, AreMoreDeclarators, IsEnumerator, AreMoreEnumerators}
use Rattle.c_grammar.specs.Readers.{Readers}
use Rattle.c_grammar.specs.SpecifierReader.{goes_on_with_keyword, words_or, words_with, goes_on_with, member_from}
use Rattle.c_grammar.specs.SpecifierReader.{members_from, structure_body_from, begins_body, structure_from}
use Rattle.c_grammar.specs.SpecifierReader.{enumerator_from, enumeration_body_from, enumeration_from}
use Rattle.c_grammar.specs.SpecifierReader.{specifier_by_keyword, specifier_by, ended, specifiers_behind, specifiers_at}
use Rattle.c_grammar.specs.declared.declarator_kind.DeclaratorKind.TheVariants as kind
use Rattle.c_grammar.proofs.Known.{SoundReaders, FoundSpecifiers, FoundDeclarator}
use Rattle.c_grammar.proofs.Inversion.{Gives, gives_ok, gives_err, gives_bind, gives_map, gives_if, expect_gives}
use Rattle.c_grammar.proofs.Inversion.{identifier_gives, ordinary_gives, FoundEach, BehindComma, behind_commas_gives}
use Rattle.c_grammar.proofs.Inversion.{to_brace_gives, up_to_brace_gives}
use Rattle.c_grammar.proofs.SoundTyped.{expression_part, specifiers_part, declarator_part}

module _ (names : List (List ℕ)) (levels : ℕ) (deeper : Readers) (known : SoundReaders names levels deeper) where
  -- ---- members

  -- the words i are those of a declaration of members and then r
  record FoundMember (i : Words) (x : Member) (r : Words) : Type 0 where
    formed : IsMember names x
    low : member_levels x < levels
    same : i ≡ member_words x r

  more_declarators_found : 0 < levels → (i : Words) (z : List (Position × Declarator)) (r : Words)
      → FoundEach (BehindComma (FoundDeclarator names levels kind.Named)) i z r
      → AreMoreDeclarators names (more_declarators_of z) × (more_declarators_levels (more_declarators_of z) < levels)
      × (i ≡ more_declarators_words (more_declarators_of z) r)
  more_declarators_found some i [] r f = (tt, some, f)
  more_declarators_found some i (x ∷ z) r f =
      let e = f.1.2 in
      let m = more_declarators_found some f.0 z r f.2 in (
        (e.fits.1 refl, e.formed, m.0),
        omega (arith, e.low, m.1),
        f.1.1
            ∙ ap (λ i. punctuator p.Comma x.0 ∷ i) (e.same ∙ ap (λ i. declarator_words x.1 i) m.2),
      )

  member_gives : (i : Words) → Gives (member_from names deeper levels i) (FoundMember i)
  unfolding member_from
  member_gives i = gives_bind (specifiers_part names levels deeper known false i) λ z i f.
      gives_bind (declarator_part names levels deeper known kind.Named i) λ d j g.
      gives_bind (behind_commas_gives (FoundDeclarator names levels kind.Named) (deeper.declarator kind.Named)
      (λ i. declarator_part names levels deeper known kind.Named i) (length j) j) λ m s h.
      let others = more_declarators_found (omega (arith, g.low)) j m s h in
      gives_bind (expect_gives p.Semicolon s) λ at r e.
      gives_ok (t.member_declaration z d (more_declarators_of m) at) r (record {
        formed = (f.one_type, f.each, f.no_typedef refl, g.fits.1 refl, g.formed, others.0);
        low = omega (arith, f.low, g.low, others.1);
        same = rw (f.same, g.same, others.2, e) refl;
      })

  members_found : 0 < levels → (i : Words) (z : List Member) (r : Words) → FoundEach FoundMember i z r
      → AreMembers names (members_of z) × (members_levels (members_of z) < levels)
      × (i ≡ members_words (members_of z) r)
  members_found some i [] r f = (tt, some, f)
  members_found some i (x ∷ z) r f =
      let m = members_found some f.0 z r f.2 in
      ((f.1.formed, m.0), omega (arith, f.1.low, m.1), f.1.same ∙ ap (λ i. member_words x i) m.2)

  -- the words i are those of members, one or more, and then r
  record FoundMembers (i : Words) (m : Members) (r : Words) : Type 0 where
    some : is_no_member m ≡ false
    formed : AreMembers names m
    low : members_levels m < levels
    same : i ≡ members_words m r

  members_gives : (i : Words) → Gives (members_from names deeper levels i) (FoundMembers i)
  unfolding members_from
  members_gives i = gives_bind (member_gives i) λ x j f. gives_bind
      (up_to_brace_gives FoundMember (member_from names deeper levels) member_gives (length j) j) λ z r g.
      let m = members_found (omega (arith, f.low)) j z r g in
      gives_ok (t.members x (members_of z)) r (record {
        some = refl;
        formed = (f.formed, m.0);
        low =
            omega (arith, f.low, m.1);
        same = f.same ∙ ap (λ i. member_words x i) m.2;
      })

  -- ---- enumerators

  -- the words i are those of an enumerator and then r
  record FoundEnumerator (i : Words) (x : Enumerator) (r : Words) : Type 0 where
    formed : IsEnumerator names x
    low : enumerator_levels x < levels
    same : i ≡ enumerator_words x r

  enumerator_gives : 0 < levels → (i : Words) → Gives (enumerator_from names deeper levels i) (FoundEnumerator i)
  unfolding enumerator_from
  enumerator_gives some i = gives_bind (ordinary_gives names i) λ x i f. gives_if
      (λ _. gives_bind (expect_gives p.Assign i) λ at i g. gives_bind
      (expression_part names levels deeper known 3 i (omega arith)) λ e i h.
      gives_ok (t.valued x at e) i (record {
        formed = (f.0, h.binding, h.formed);
        low = h.low;
        same =
            rw (f.1, g, h.same) refl;
      }))
      (λ _. gives_ok (t.plain x) i (record { formed = f.0; low = some; same = f.1 }))

  more_enumerators_found : 0 < levels → (i : Words) (z : List (Position × Enumerator)) (r : Words)
      → FoundEach (BehindComma FoundEnumerator) i z r
      → AreMoreEnumerators names (more_enumerators_of z) × (more_enumerators_levels (more_enumerators_of z) < levels)
      × (i ≡ more_enumerators_words (more_enumerators_of z) r)
  more_enumerators_found some i [] r f = (tt, some, f)
  more_enumerators_found some i (x ∷ z) r f =
      let e = f.1.2 in
      let m = more_enumerators_found some f.0 z r f.2 in (
        (e.formed, m.0),
        omega (arith, e.low, m.1),
        f.1.1 ∙ ap (λ i. punctuator p.Comma x.0 ∷ i)
            (e.same ∙ ap (λ i. enumerator_words x.1 i) m.2),
      )

  -- ---- one specifier

  -- The words i are those of a specifier and then r. It goes on with the words w of a type.
  record FoundSpecifier (allowed : Bool) (w : TypeWords) (i : Words) (x : Specifier) (r : Words) : Type 0 where
    formed : IsSpecifier names x
    no_typedef : allowed ≡ false → is_typedef x ≡ false
    adds : is_some (with_specifier x w) ≡ true
    low : specifier_levels x < suc levels
    same : i ≡ specifier_words x r

  moved : {allowed : Bool} {w : TypeWords} {i j : Words} {x : Specifier} {r : Words} → i ≡ j
      → FoundSpecifier allowed w j x r → FoundSpecifier allowed w i x r
  moved h f = record { formed = f.formed; no_typedef = f.no_typedef; adds = f.adds; low = f.low; same = h ∙ f.same }

  -- `struct` or `union`, with or without a body
  structure_adds : (x : Keyword) (w : TypeWords) → is_structure_keyword x ≡ true → is_some (with_other w) ≡ true
      → is_some (if is_structure_keyword x then with_other w else None) ≡ true
  structure_adds x w h adds = rw h adds

  structure_body_gives : (allowed : Bool) (w : TypeWords) (x : Keyword) (at : Position) (tag : Option Spelled)
      (i : Words) → is_structure_keyword x ≡ true → is_some (with_other w) ≡ true
      → Gives (structure_body_from names deeper levels x at tag i)
      (FoundSpecifier allowed w (keyword x at ∷ tag_words tag i))
  unfolding structure_body_from with_specifier
  structure_body_gives allowed w x at tag i h adds = gives_bind (expect_gives p.LeftBrace i) λ l i f.
      gives_bind (members_gives i) λ m i g. gives_bind (expect_gives p.RightBrace i) λ r i e.
      gives_ok (t.structure_body x at tag l m r) i (record {
        formed = (g.some, g.formed);
        no_typedef = λ _. refl;
        adds = structure_adds x w h adds;
        low = omega (arith, g.low);
        same = rw (f, g.same, e) refl;
      })

  structure_gives : (allowed : Bool) (w : TypeWords) (x : Keyword) (at : Position) (i : Words)
      → is_structure_keyword x ≡ true → is_some (with_other w) ≡ true
      → Gives (structure_from names deeper levels x at i) (FoundSpecifier allowed w (keyword x at ∷ i))
  unfolding structure_from with_specifier
  structure_gives allowed w x at i h adds = gives_if {b = begins_body names deeper levels i}
      (λ _. structure_body_gives allowed w x at None i h adds)
      (λ _. gives_bind (identifier_gives i) λ tag j f. gives_if {b = begins_body names deeper levels j}
      (λ _. gives_map (structure_body_gives allowed w x at (Some tag) j h adds) λ y r g.
      moved (ap (λ i. keyword x at ∷ i) f) g)
      (λ _. gives_ok (t.structure x at tag) j (record {
        formed = tt;
        no_typedef = λ _. refl;
        adds =
            structure_adds x w h adds;
        low = omega arith;
        same = ap (λ i. keyword x at ∷ i) f;
      })))

  enumeration_body_gives : (allowed : Bool) (w : TypeWords) (at : Position) (tag : Option Spelled) (i : Words)
      → 0 < levels → is_some (with_other w) ≡ true
      → Gives (enumeration_body_from names deeper levels at tag i)
      (FoundSpecifier allowed w (keyword k.Enum at ∷ tag_words tag i))
  unfolding enumeration_body_from with_specifier
  enumeration_body_gives allowed w at tag i some adds = gives_bind (expect_gives p.LeftBrace i) λ l i f.
      gives_bind (enumerator_gives some i) λ e j g.
      gives_bind (to_brace_gives FoundEnumerator (enumerator_from names deeper levels) (λ i. enumerator_gives some i)
      (length j) j) λ m s others.
      let found = more_enumerators_found some j m.0 others.0 others.1 in
      gives_bind (expect_gives p.RightBrace s) λ r i last.
      gives_ok (t.enumeration_body at tag l e (more_enumerators_of m.0) m.1 r) i (record {
        formed = (g.formed, found.0);
        no_typedef = λ _. refl;
        adds = adds;
        low = omega (arith, g.low, found.1);
        same = rw (f, g.same, found.2, others.2, last) refl;
      })

  enumeration_gives : (allowed : Bool) (w : TypeWords) (at : Position) (i : Words) → is_some (with_other w) ≡ true
      → Gives (enumeration_from names deeper levels at i) (FoundSpecifier allowed w (keyword k.Enum at ∷ i))
  unfolding enumeration_from with_specifier
  enumeration_gives allowed w at i adds = gives_if
      (λ c. enumeration_body_gives allowed w at None i (some_level i c) adds)
      (λ _. gives_bind (identifier_gives i) λ tag j f. gives_if
      (λ c. gives_map (enumeration_body_gives allowed w at (Some tag) j (some_level j c) adds) λ y r g.
      moved (ap (λ i. keyword k.Enum at ∷ i) f) g)
      (λ _. gives_ok (t.enumeration at tag) j (record {
        formed = tt;
        no_typedef = λ _. refl;
        adds = adds;
        low =
            omega arith;
        same = ap (λ i. keyword k.Enum at ∷ i) f;
      })))
    where
      some_level : (i : Words) → begins_body names deeper levels i ≡ true → 0 < levels
      some_level i c = leb-true 1 levels (and_parts (nat_le 1 levels) _ c).0

  by_keyword_gives : (allowed : Bool) (w : TypeWords) (x : Keyword) (at : Position) (i : Words)
      → goes_on_with_keyword allowed w x ≡ true
      → Gives (specifier_by_keyword names deeper levels x at i) (FoundSpecifier allowed w (keyword x at ∷ i))
  unfolding with_specifier with_keyword
  by_keyword_gives allowed w k.Struct at i h = structure_gives allowed w k.Struct at i refl h
  by_keyword_gives allowed w k.Union at i h = structure_gives allowed w k.Union at i refl h
  by_keyword_gives allowed w k.Enum at i h = enumeration_gives allowed w at i h
  by_keyword_gives allowed w k.Typedef at i h =
      gives_ok (t.keyword k.Typedef at) i (record {
        formed = tt;
        no_typedef =
            λ e. absurd (both_ways allowed e h);
        adds = refl;
        low = omega arith;
        same = refl;
      })
  by_keyword_gives allowed w x at i h = gives_ok (t.keyword x at) i
      (record { formed = tt; no_typedef = λ _. refl; adds = h; low = omega arith; same = refl })

  specifier_gives : (allowed : Bool) (w : TypeWords) (first : TokenKind) (at : Position) (i : Words)
      → goes_on_with names deeper levels allowed w first ≡ true
      → Gives (specifier_by names deeper levels first at i) (FoundSpecifier allowed w (word_at first at ∷ i))
  unfolding with_specifier
  specifier_gives allowed w (kinds.Keyword x) at i h = by_keyword_gives allowed w x at i h
  specifier_gives allowed w (kinds.Identifier s) at i h =
      let tests = and_parts (is_among s names) (is_some (with_other w)) h in
      gives_ok (t.typedef_name (record { spelling = s; position = at })) i
      (record { formed = tests.0; no_typedef = λ _. refl; adds = tests.1; low = omega arith; same = refl })
  specifier_gives allowed w first at i h = gives_err (word_at first at ∷ i)

  -- ---- specifiers

  -- the words i are those of specifiers that complete the words w to a type, and then r
  record FoundBehind (allowed : Bool) (w : TypeWords) (i : Words) (z : Specifiers) (r : Words) : Type 0 where
    one_type : names_type (Some w) z ≡ true
    each : EachSpecifier names z
    no_typedef : allowed ≡ false → has_typedef z ≡ false
    low : specifiers_levels z < suc levels
    same : i ≡ specifiers_words z r

  ended_gives : (allowed : Bool) (w : TypeWords) (i : Words) → Gives (ended names deeper levels w i)
      (FoundBehind allowed w i)
  ended_gives allowed w i = gives_if (λ h. gives_ok t.no_specifiers i
      (record { one_type = h; each = tt; no_typedef = λ _. refl; low = omega arith; same = refl })) (λ _. gives_err i)

  there : (w : TypeWords) (o : Option TypeWords) → is_some o ≡ true → o ≡ Some (words_or w o)
  there w (Some v) h = refl
  there w None h = absurd (both_ways false refl h)

  behind_gives : (allowed : Bool) (n : ℕ) (w : TypeWords) (i : Words)
      → Gives (specifiers_behind names deeper levels allowed n w i) (FoundBehind allowed w i)
  unfolding specifiers_behind
  behind_gives allowed zero w i = ended_gives allowed w i
  behind_gives allowed (suc n) w [] = ended_gives allowed w []
  behind_gives allowed (suc n) w (first ∷ i) = gives_if
      (λ c. gives_bind (specifier_gives allowed w first.kind first.position i c) λ x i f.
      gives_bind (behind_gives allowed n (words_with x w) i) λ z r g.
      gives_ok (t.specifiers x z) r (record {
        one_type = ap (λ o. names_type o z) (there w (with_specifier x w) f.adds) ∙ g.one_type;
        each = (f.formed, g.each);
        no_typedef = λ e. or_from (is_typedef x) (has_typedef z) (f.no_typedef e) (g.no_typedef e);
        low = omega (arith, f.low, g.low);
        same = f.same ∙ ap (λ i. specifier_words x i) g.same;
      }))
      (λ _. ended_gives allowed w (first ∷ i))

  pub specifiers_gives : (allowed : Bool) (i : Words) → Gives (specifiers_at names deeper levels allowed i)
      (FoundSpecifiers names (suc levels) allowed i)
  unfolding specifiers_at
  specifiers_gives allowed i = gives_map (behind_gives allowed (length i) no_type i) λ z r f.
      record { one_type = f.one_type; each = f.each; no_typedef = f.no_typedef; low = f.low; same = f.same }
