-- What is read as a declarator is a well-formed one with the words that were read (C99 6.7.5, 6.7.6).
use Rattle.std.proofs.Common.{◌≡◌, ℕ, zero, suc, ◌<◌, nat_le, nat_lt, Bool, true, false, not, ◌&&◌, ◌||◌, List, [], ◌∷◌}
use Rattle.std.proofs.Common.{length, refl, sym, ap, subst, ◌∙◌, arith}
use Rattle.std.proofs.lemmas.Bool.{leb-true, ltb-true, and_parts, or_parts, both_ways, not-true}
use Rattle.c_lexer.specs.declared.keyword.Keyword.TheVariants as k
use Rattle.c_lexer.specs.declared.punctuator.Punctuator.TheVariants as p
use Rattle.c_lexer.specs.declared.token.TokenKind.{TokenKind}
use Rattle.c_lexer.specs.declared.token.TokenKind.TheVariants as kinds
use Rattle.c_syntax.specs.declared.position.Position.{Position}
use Rattle.c_syntax.specs.declared.position.Spelled.{Spelled}
use Rattle.c_syntax.specs.Tree.{Declarator, TypedDeclarator, Parameters, MoreParameters}
use Rattle.c_syntax.specs.Tree as t
use Rattle.c_syntax.specs.View.{more_parameters_of}
use Rattle.c_syntax.specs.Levels.{declarator_levels, parameters_levels, more_parameters_levels, typed_levels}
use Rattle.c_syntax.specs.Words.{Words, word_at, punctuator, declarator_words, parameters_words, more_parameters_words}
use Rattle.c_syntax.specs.Words.{typed_words}
use Rattle.c_syntax.specs.Formed.{is_among, has_name, is_unnamed, is_direct, IsDeclarator, IsParameter, AreParameters}
use Rattle.c_syntax.specs.Formed.{AreMoreParameters}
use Rattle.c_grammar.specs.Reader.{is_punctuator, next_is_punctuator}
use Rattle.c_grammar.specs.Readers.{Readers, may_have_name, must_have_name, begins_specifiers, parameters_of}
use Rattle.c_grammar.specs.Readers.{parameters_from, typed_from}
use Rattle.c_grammar.specs.DeclaratorReader.{unnamed_at, begins_suffix, function_from, parenthesis_from, direct_by}
use Rattle.c_grammar.specs.DeclaratorReader.{direct_from, array_from, suffix_from, suffixes_from, suffixed_from}
use Rattle.c_grammar.specs.DeclaratorReader.{pointer_from, declarator_at}
use Rattle.c_grammar.specs.declared.declarator_kind.DeclaratorKind.{DeclaratorKind}
use Rattle.c_grammar.specs.declared.declarator_kind.DeclaratorKind.TheVariants as kind
use Rattle.c_grammar.proofs.Known.{NameFits, SoundReaders, FoundDeclarator}
use Rattle.c_grammar.proofs.Inversion.{Gives, gives_ok, gives_err, gives_bind, gives_map, gives_if, is_itself}
use Rattle.c_grammar.proofs.Inversion.{same_positioned, expect_gives, consts_gives, FoundEach, BehindComma}
use Rattle.c_grammar.proofs.Inversion.{behind_commas_gives}
use Rattle.c_grammar.proofs.SoundTyped.{FoundTyped, expression_part, declarator_part, typed_gives}

-- a declarator of a kind that may have no name
unnamed_fits : (d : DeclaratorKind) → must_have_name d ≡ false → NameFits d t.unnamed
unnamed_fits d h = ((λ _. refl), (λ e. absurd (both_ways (must_have_name d) h e)))

-- a declarator of a kind that may have one
named_fits : (d : DeclaratorKind) (e : Declarator) → may_have_name d ≡ true → has_name e ≡ true → NameFits d e
named_fits d e h named = ((λ x. absurd (both_ways (may_have_name d) x h)), (λ _. named))

-- `void` with another parameter is no empty list
more_than_void : (x : TypedDeclarator) (at : Position) (y : TypedDeclarator) (m : MoreParameters)
    → parameters_of x (t.more_parameters at y m) ≡ t.parameters x (t.more_parameters at y m)
more_than_void (t.typed (t.specifiers (t.keyword k.Void void) t.no_specifiers) t.unnamed) at y m = refl
more_than_void _ at y m = refl

-- the next word is no `)`, and of a kind that must have a name none is without
not_unnamed : (d : DeclaratorKind) (e : Declarator) (i r : Words) (at : Position)
    → (not (must_have_name d) && next_is_punctuator p.RightParenthesis i) ≡ false → NameFits d e
    → i ≡ declarator_words e (punctuator p.RightParenthesis at ∷ r) → is_unnamed e ≡ false
not_unnamed d t.unnamed i r at h fits same = by_kind d (rw (same, is_itself p.RightParenthesis) at h) fits
  where
    by_kind : (d : DeclaratorKind) → (not (must_have_name d) && true) ≡ false → NameFits d t.unnamed → true ≡ false
    by_kind kind.Named h fits = sym (fits.1 refl)
    by_kind _ h fits = h
not_unnamed d (t.named x) i r at h fits same = refl
not_unnamed d _ i r at h fits same = refl

-- the words i are those of a declarator that is no pointer, and then r
record FoundDirect (names : List (List ℕ)) (n : ℕ) (d : DeclaratorKind) (i : Words) (e : Declarator) (r : Words) : Type
    0 where
  formed : IsDeclarator names e
  direct : is_direct e ≡ true
  fits : NameFits d e
  low : declarator_levels e < n
  same : i ≡ declarator_words e r

module _ (names : List (List ℕ)) (levels : ℕ) (deeper : Readers) (known : SoundReaders names levels deeper) where
  -- ---- parameters

  -- the words i are those of parameters and then r
  record FoundParameters (i : Words) (a : Parameters) (r : Words) : Type 0 where
    formed : AreParameters names a
    low : parameters_levels a < levels
    same : i ≡ parameters_words a r

  more_parameters_found : 0 < levels → (i : Words) (z : List (Position × TypedDeclarator)) (r : Words)
      → FoundEach (BehindComma (FoundTyped names levels kind.Either)) i z r
      → AreMoreParameters names (more_parameters_of z) × (more_parameters_levels (more_parameters_of z) < levels)
      × (i ≡ more_parameters_words (more_parameters_of z) r)
  more_parameters_found some i [] r f = (tt, some, f)
  more_parameters_found some i (x ∷ z) r f =
      let e = f.1.2 in
      let m = more_parameters_found some f.0 z r f.2 in (
        (e.parameter, m.0),
        omega (arith, e.low, m.1),
        f.1.1 ∙ ap (λ i. punctuator p.Comma x.0 ∷ i)
            (e.same ∙ ap (λ i. typed_words x.1 i) m.2),
      )

  -- the word `void` alone is the empty list
  void_or_not : 0 < levels → (i : Words) (x : TypedDeclarator) (m : MoreParameters) (r : Words) → IsParameter names x
      → AreMoreParameters names m
      → typed_levels x < levels → more_parameters_levels m < levels → i ≡ typed_words x (more_parameters_words m r)
      → FoundParameters i (parameters_of x m) r
  void_or_not some i (t.typed (t.specifiers (t.keyword k.Void at) t.no_specifiers) t.unnamed) t.end_of_parameters r
      first others first_low others_low same =
      record { formed = tt; low = some; same = same }
  void_or_not some i x (t.more_parameters at y m) r first others first_low others_low same =
      let found : FoundParameters i (t.parameters x (t.more_parameters at y m)) r =
      record { formed = (refl, first, others); low = omega arith; same = same } in
      rw (more_than_void x at y m) found
  void_or_not some i x t.end_of_parameters r first others first_low others_low same =
      record { formed = (refl, first, others); low = omega arith; same = same }

  parameters_gives : 0 < levels → (i : Words) → Gives (parameters_from deeper i) (FoundParameters i)
  unfolding parameters_from
  parameters_gives some i = gives_if
      (λ _. gives_ok t.no_parameters i (record { formed = tt; low = some; same = refl }))
      (λ _. gives_bind (typed_gives names levels deeper known kind.Either i) λ x j f.
      gives_bind (behind_commas_gives (FoundTyped names levels kind.Either) (typed_from deeper kind.Either)
      (λ i. typed_gives names levels deeper known kind.Either i) (length j) j) λ z r g.
      let m = more_parameters_found some j z r g in
      gives_ok (parameters_of x (more_parameters_of z)) r (void_or_not some i x (more_parameters_of z) r f.parameter m.0
      f.low m.1 (f.same ∙ ap (λ i. typed_words x i) m.2)))

  -- ---- what is no pointer

  unnamed_gives : (d : DeclaratorKind) (i : Words) → Gives (unnamed_at d i) (FoundDirect names (suc levels) d i)
  unnamed_gives d i = gives_if (λ _. gives_err i) (λ h. gives_ok t.unnamed i
      (record { formed = tt; direct = refl; fits = unnamed_fits d h; low = omega arith; same = refl }))

  -- the `(` or `[` behind what is no pointer, and what belongs to it
  function_gives : (d : DeclaratorKind) (i : Words) (e : Declarator) (at : Position) (j : Words)
      → FoundDirect names levels d i e (punctuator p.LeftParenthesis at ∷ j)
      → Gives (function_from names deeper levels e at j) (FoundDirect names (suc levels) d i)
  function_gives d i e at j first = gives_bind (parameters_gives (omega (arith, first.low)) j) λ a j f.
      gives_bind (expect_gives p.RightParenthesis j) λ right r g.
      gives_ok (t.function e at a right) r (record {
        formed = (first.direct, first.formed, f.formed);
        direct = refl;
        fits = first.fits;
        low = omega (arith, first.low, f.low);
        same = rw (first.same, f.same, g) refl;
      })

  parenthesis_gives : 0 < levels → (d : DeclaratorKind) (at : Position) (i : Words)
      → Gives (parenthesis_from names deeper levels d at i) (FoundDirect names (suc levels) d
      (punctuator p.LeftParenthesis at ∷ i))
  unfolding parenthesis_from
  parenthesis_gives some d at i = gives_if
      (λ c.
      let tests = and_parts (not (must_have_name d)) (next_is_punctuator p.RightParenthesis i || begins_specifiers names
      i) c in
      let fits = unnamed_fits d (not-true (must_have_name d) tests.0) in
      function_gives d (punctuator p.LeftParenthesis at ∷ i) t.unnamed at i
      (record { formed = tt; direct = refl; fits = fits; low = some; same = refl }))
      (λ c.
      let no_suffix = fewer (not (must_have_name d)) (next_is_punctuator p.RightParenthesis i)
      (begins_specifiers names i) c in
      gives_bind (declarator_part names levels deeper known d i) λ e j f.
      gives_bind (expect_gives p.RightParenthesis j) λ right r g.
      gives_ok (t.grouped at e right) r (record {
        formed = (not_unnamed d e i r right no_suffix f.fits (f.same ∙ ap (λ i. declarator_words e i) g), f.formed);
        direct = refl;
        fits = f.fits;
        low = omega (arith, f.low);
        same = rw (f.same, g) refl;
      }))
    where
      fewer : (a b c : Bool) → (a && (b || c)) ≡ false → (a && b) ≡ false
      fewer true b c h = (or_parts b c h).0
      fewer false b c h = refl

  direct_by_gives : (d : DeclaratorKind) (w : TokenKind) (at : Position) (i : Words)
      → Gives (direct_by names deeper levels d w at i) (FoundDirect names (suc levels) d (word_at w at ∷ i))
  direct_by_gives d (kinds.Identifier s) at i = gives_if
      (λ c.
      let tests = and_parts (may_have_name d) (not (is_among s names)) c in
      let x : Spelled = record { spelling = s; position = at } in
      gives_ok (t.named x) i (record {
        formed = not-true (is_among s names) tests.1;
        direct = refl;
        fits =
            named_fits d (t.named x) tests.0 refl;
        low = omega arith;
        same = refl;
      }))
      (λ _. unnamed_gives d (word_at (kinds.Identifier s) at ∷ i))
  direct_by_gives d w at i = gives_if
      (λ c.
      let tests = and_parts (is_punctuator p.LeftParenthesis w) (nat_le 1 levels) c in
      gives_map (parenthesis_gives (leb-true 1 levels tests.1) d at i) λ e r f.
      moved (same_positioned p.LeftParenthesis w at i tests.0) f)
      (λ _. unnamed_gives d (word_at w at ∷ i))
    where
      moved : {n : ℕ} {i j : Words} {e : Declarator} {r : Words} → i ≡ j → FoundDirect names n d j e r
          → FoundDirect names n d i e r
      moved h f = record { formed = f.formed; direct = f.direct; fits = f.fits; low = f.low; same = h ∙ f.same }

  direct_gives : (d : DeclaratorKind) (i : Words) → Gives (direct_from names deeper levels d i)
      (FoundDirect names (suc levels) d i)
  unfolding direct_from
  direct_gives d [] = unnamed_gives d []
  direct_gives d (first ∷ i) = direct_by_gives d first.kind first.position i

  -- ---- suffixes

  array_gives : (d : DeclaratorKind) (i : Words) (e : Declarator) (at : Position) (j : Words)
      → FoundDirect names levels d i e (punctuator p.LeftBracket at ∷ j)
      → Gives (array_from names deeper levels e at j) (FoundDirect names (suc levels) d i)
  unfolding array_from
  array_gives d i e at j first = gives_if
      (λ _. gives_bind (expect_gives p.RightBracket j) λ right r g.
      gives_ok (t.open_array e at right) r (record {
        formed = (first.direct, first.formed);
        direct = refl;
        fits = first.fits;
        low = omega (arith, first.low);
        same = rw (first.same, g) refl;
      }))
      (λ _. gives_bind (expression_part names levels deeper known 3 j (omega arith)) λ x j f.
      gives_bind (expect_gives p.RightBracket j) λ right r g.
      gives_ok (t.array e at x right) r (record {
        formed = (first.direct, f.binding, first.formed, f.formed);
        direct = refl;
        fits = first.fits;
        low = omega (arith, first.low, f.low);
        same = rw (first.same, f.same, g) refl;
      }))

  suffix_gives : (d : DeclaratorKind) (i : Words) (e : Declarator) (w : TokenKind) (at : Position) (j : Words)
      → begins_suffix w ≡ true → FoundDirect names levels d i e (word_at w at ∷ j)
      → Gives (suffix_from names deeper levels e w at j) (FoundDirect names (suc levels) d i)
  suffix_gives d i e w at j begins first = gives_if
      (λ c. array_gives d i e at j (before (same_positioned p.LeftBracket w at j c) first))
      (λ c. function_gives d i e at j (before (same_positioned p.LeftParenthesis w at j
      (the_other (is_punctuator p.LeftParenthesis w) (is_punctuator p.LeftBracket w) begins c)) first))
    where
      the_other : (a b : Bool) → (a || b) ≡ true → b ≡ false → a ≡ true
      the_other true b h g = refl
      the_other false b h g = absurd (both_ways b g h)

      before : {r s : Words} → r ≡ s → FoundDirect names levels d i e r → FoundDirect names levels d i e s
      before h f = subst (λ r. FoundDirect names levels d i e r) h f

  suffixes_gives : (d : DeclaratorKind) (n : ℕ) (i : Words) (e : Declarator) (j : Words)
      → FoundDirect names (suc levels) d i e j
      → Gives (suffixes_from names deeper levels n e j) (FoundDirect names (suc levels) d i)
  unfolding suffixes_from
  suffixes_gives d zero i e j first = gives_ok e j first
  suffixes_gives d (suc n) i e [] first = gives_ok e [] first
  suffixes_gives d (suc n) i e (next ∷ j) first = gives_if
      (λ c.
      let tests = and_parts (begins_suffix next.kind) (nat_lt (declarator_levels e) levels) c in
      let lower : FoundDirect names levels d i e (next ∷ j) = record {
        formed = first.formed;
        direct = first.direct;
        fits = first.fits;
        low = ltb-true (declarator_levels e) levels tests.1;
        same = first.same;
      } in
      gives_bind (suffix_gives d i e next.kind next.position j tests.0 lower) λ x r f. suffixes_gives d n i x r f)
      (λ _. gives_ok e (next ∷ j) first)

  suffixed_gives : (d : DeclaratorKind) (i : Words) → Gives (suffixed_from names deeper levels d i)
      (FoundDeclarator names (suc levels) d i)
  unfolding suffixed_from
  suffixed_gives d i = gives_bind (direct_gives d i) λ e j f. gives_map (suffixes_gives d levels i e j f) λ x r g.
      record { formed = g.formed; fits = g.fits; low = g.low; same = g.same }

  pointer_gives : (d : DeclaratorKind) (at : Position) (i : Words)
      → Gives (pointer_from names deeper levels d at i) (FoundDeclarator names (suc levels) d
      (punctuator p.Star at ∷ i))
  unfolding pointer_from
  pointer_gives d at i = gives_bind (consts_gives i) λ z i f.
      gives_bind (declarator_part names levels deeper known d i) λ e i g.
      gives_ok (t.pointer at z e) i (record {
        formed = g.formed;
        fits = g.fits;
        low = omega (arith, g.low);
        same =
            rw (f, g.same) refl;
      })

  pub declarator_gives : (d : DeclaratorKind) (i : Words) → Gives (declarator_at names deeper levels d i)
      (FoundDeclarator names (suc levels) d i)
  unfolding declarator_at
  declarator_gives d [] = suffixed_gives d []
  declarator_gives d (first ∷ i) = gives_if
      (λ c.
      let tests = and_parts (is_punctuator p.Star first.kind) (nat_le 1 levels) c in
      gives_map (pointer_gives d first.position i) λ e r f.
      record {
        formed = f.formed;
        fits = f.fits;
        low = f.low;
        same =
            same_positioned p.Star first.kind first.position i tests.0 ∙ f.same;
      })
      (λ _. suffixed_gives d (first ∷ i))
