-- Declarators are read from their words.
use Rattle.std.proofs.Common.{◌≡◌, ℕ, zero, suc, ◌+◌, ◌<◌, ◌≤◌, Bool, true, false, not, ◌||◌, List, [], ◌∷◌, Ok, refl}
use Rattle.std.proofs.Common.{sym, ◌∙◌, arith}
use Rattle.std.proofs.lemmas.Bool.{le-leb, lt-ltb, and_right}
use Rattle.c_lexer.specs.Spellings.{punctuator_spelling}
use Rattle.c_lexer.specs.declared.keyword.Keyword.TheVariants as k
use Rattle.c_lexer.specs.declared.punctuator.Punctuator.{Punctuator}
use Rattle.c_lexer.specs.declared.punctuator.Punctuator.TheVariants as p
use Rattle.c_lexer.specs.declared.token.TokenKind.{TokenKind}
use Rattle.c_lexer.specs.declared.token.TokenKind.TheVariants as kinds
use Rattle.c_syntax.specs.declared.position.Position.{Position}
use Rattle.c_syntax.specs.Tree.{Declarator, Parameters}
use Rattle.c_syntax.specs.Tree as t
use Rattle.c_syntax.specs.Levels.{expression_levels, declarator_levels, parameters_levels}
use Rattle.c_syntax.specs.Words.{Words, word_at, punctuator, const_words, expression_words, declarator_words}
use Rattle.c_syntax.specs.Words.{typed_words, parameters_words, more_parameters_words}
use Rattle.c_syntax.specs.Formed.{with_keyword, is_unnamed, is_direct, IsDeclarator, AreParameters}
use Rattle.c_grammar.specs.Reader.{Outcome, ◌>>=◌, is_same, is_punctuator, next_is, next_is_punctuator, consts_from}
use Rattle.c_grammar.specs.Readers.{Readers, may_have_name, must_have_name, is_specifier_word, begins_specifiers}
use Rattle.c_grammar.specs.DeclaratorReader.{begins_suffix, function_from, parenthesis_from, direct_by, direct_from}
use Rattle.c_grammar.specs.DeclaratorReader.{array_from, suffix_from, suffixes_from, suffixed_from, pointer_from}
use Rattle.c_grammar.specs.DeclaratorReader.{declarator_at}
use Rattle.c_grammar.specs.declared.declarator_kind.DeclaratorKind.{DeclaratorKind}
use Rattle.c_grammar.proofs.Known.{CompleteReaders, NameFits, is_quiet_punctuator, is_quiet_word, is_quiet}
use Rattle.c_grammar.proofs.Facts.{same, expected, bracket_binds}
use Rattle.c_grammar.proofs.FirstWords.{is_const, is_declarator_word, excluded, expression_no_bracket}
use Rattle.c_grammar.proofs.FirstWords.{specifiers_no_punctuator, declarator_next, declarator_first}
use Rattle.c_grammar.proofs.FirstWords.{declarator_no_specifier, declarator_no_const, declarator_begins_with}
use Rattle.c_grammar.proofs.FirstWords.{declarator_parenthesis_apart, direct_no_star, quiet_no_const, quiet_no_star}
use Rattle.c_grammar.proofs.CompleteTyped.{parameters_again, parameter_first}

-- the words `const` are read as far as they go
const_ends : (w : TokenKind) (at : Position) (r : Words) → is_const w ≡ false
    → consts_from (word_at w at ∷ r) ≡ Ok ([], word_at w at ∷ r)
unfolding consts_from
const_ends (kinds.Keyword k.Const) at r h = cc
const_ends _ at r h = refl

consts_again : (z : List Position) (r : Words) → next_is is_const r ≡ false → consts_from (const_words z r) ≡ Ok (z, r)
unfolding consts_from
consts_again [] [] h = refl
consts_again [] (first ∷ r) h = const_ends first.kind first.position r h
consts_again (at ∷ z) r h = rw (consts_again z r h) refl

-- what may stand behind no word of a declarator: a suffix `[`, or what may stand behind a whole one
abbrev is_free_punctuator : Punctuator → Bool
is_free_punctuator p.LeftBracket = true
is_free_punctuator x = is_quiet_punctuator x

abbrev is_free_word : TokenKind → Bool
is_free_word (kinds.Punctuator x) = is_free_punctuator x
is_free_word _ = false

abbrev is_free : Words → Bool
is_free [] = false
is_free (first ∷ i) = is_free_word first.kind

quiet_free_punctuator : (x : Punctuator) → is_quiet_punctuator x ≡ true → is_free_punctuator x ≡ true
quiet_free_punctuator p.LeftBracket h = refl
quiet_free_punctuator _ h = h

quiet_free_word : (w : TokenKind) → is_quiet_word w ≡ true → is_free_word w ≡ true
quiet_free_word (kinds.Punctuator x) h = quiet_free_punctuator x h
quiet_free_word _ h = h

quiet_free : (i : Words) → is_quiet i ≡ true → is_free i ≡ true
quiet_free [] h = h
quiet_free (first ∷ i) h = quiet_free_word first.kind h

quiet_suffix_punctuator : (x : Punctuator) → is_quiet_punctuator x ≡ true → begins_suffix (kinds.Punctuator x) ≡ false
unfolding is_same punctuator_spelling
quiet_suffix_punctuator p.LeftParenthesis h = cc
quiet_suffix_punctuator p.LeftBracket h = cc
quiet_suffix_punctuator _ h = refl

quiet_suffix : (w : TokenKind) → is_quiet_word w ≡ true → begins_suffix w ≡ false
quiet_suffix (kinds.Punctuator x) h = quiet_suffix_punctuator x h
quiet_suffix _ h = refl

may_be : (may : Bool) → (may ≡ false → true ≡ false) → may ≡ true
may_be true h = refl
may_be false h = sym (h refl)

must_not : (must : Bool) → (must ≡ true → false ≡ true) → must ≡ false
must_not true h = sym (h refl)
must_not false h = refl

module _ (names : List (List ℕ)) (d : ℕ) (deeper : Readers) (known : CompleteReaders names d deeper) where
  -- nothing is read where no word of a declarator stands
  nothing_by_punctuator : (q : DeclaratorKind) (x : Punctuator) (at : Position) (r : Words) → must_have_name q ≡ false
      → is_free_punctuator x ≡ true
      → direct_by names deeper d q (kinds.Punctuator x) at r ≡ Ok (t.unnamed, punctuator x at ∷ r)
  unfolding is_same punctuator_spelling
  nothing_by_punctuator q p.LeftParenthesis at r plain h = cc
  nothing_by_punctuator q _ at r plain h = rw plain refl

  nothing_by : (q : DeclaratorKind) (w : TokenKind) (at : Position) (r : Words) → must_have_name q ≡ false
      → is_free_word w ≡ true
      → direct_by names deeper d q w at r ≡ Ok (t.unnamed, word_at w at ∷ r)
  nothing_by q (kinds.Punctuator x) at r plain h = nothing_by_punctuator q x at r plain h
  nothing_by q _ at r plain h = cc

  nothing_here : (q : DeclaratorKind) (r : Words) → must_have_name q ≡ false → is_free r ≡ true
      → direct_from names deeper d q r ≡ Ok (t.unnamed, r)
  unfolding direct_from
  nothing_here q [] plain h = cc
  nothing_here q (first ∷ r) plain h = nothing_by q first.kind first.position r plain h

  -- parameters begin with a type, or there are none
  parameters_open : (a : Parameters) (q : Position) (r : Words) → AreParameters names a
      → (next_is_punctuator p.RightParenthesis (parameters_words a (punctuator p.RightParenthesis q ∷ r)) ||
      begins_specifiers names (parameters_words a (punctuator p.RightParenthesis q ∷ r))) ≡ true
  unfolding is_same punctuator_spelling with_keyword
  parameters_open t.no_parameters q r h = refl
  parameters_open (t.void_parameters at) q r h = refl
  parameters_open (t.parameters x m) q r h =
      let first = parameter_first names d deeper known x (more_parameters_words m (punctuator p.RightParenthesis q ∷ r))
      h.1 in
      rw (
        specifiers_no_punctuator names p.RightParenthesis (typed_words x
            (more_parameters_words m (punctuator p.RightParenthesis q ∷ r))) first,
        first,
      ) refl

  -- inside parentheses nothing looks like parameters
  opens_inside : (e : Declarator) (i : Words) → IsDeclarator names e → is_unnamed e ≡ false
      → (next_is_punctuator p.RightParenthesis (declarator_words e i) || begins_specifiers names (declarator_words e i))
      ≡ false
  opens_inside e i h some =
      rw (
        excluded (is_declarator_word names) (is_punctuator p.RightParenthesis)
            (declarator_begins_with names p.RightParenthesis (declarator_parenthesis_apart names))
            (declarator_words e i) (declarator_first names e i h some),
        excluded (is_declarator_word names) (is_specifier_word names) (declarator_no_specifier names)
            (declarator_words e i) (declarator_first names e i h some),
      ) refl

  function_again : (e : Declarator) (l : Position) (a : Parameters) (q : Position) (r : Words) → AreParameters names a
      → parameters_levels a < d
      → function_from names deeper d e l (parameters_words a (punctuator p.RightParenthesis q ∷ r))
      ≡ Ok (t.function e l a q, r)
  function_again e l a q r h low = rw (
    parameters_again names d deeper known a q r h low,
    expected p.RightParenthesis q r,
  ) refl

  array_again : (e : Declarator) (l : Position) (x : t.Expression) (q : Position) (r : Words)
      → IsDeclarator names (t.array e l x q) → expression_levels x < d
      → array_from names deeper d e l (expression_words x (punctuator p.RightBracket q ∷ r)) ≡ Ok (t.array e l x q, r)
  unfolding array_from
  array_again e l x q r h low =
      rw (
        expression_no_bracket names x (punctuator p.RightBracket q ∷ r) h.3,
        known.expressions 3 x (punctuator p.RightBracket q ∷ r) h.3 low (omega arith) h.1
            (omega (arith, bracket_binds q r)),
        expected p.RightBracket q r,
      ) refl

  open_array_again : (e : Declarator) (l q : Position) (r : Words)
      → array_from names deeper d e l (punctuator p.RightBracket q ∷ r) ≡ Ok (t.open_array e l q, r)
  unfolding array_from
  open_array_again e l q r = rw (same p.RightBracket, expected p.RightBracket q r) refl

  -- behind a first `(`
  opening : (q : DeclaratorKind) (l : Position) (i : Words) → 1 ≤ d
      → direct_from names deeper d q (punctuator p.LeftParenthesis l ∷ i) ≡ parenthesis_from names deeper d q l i
  unfolding direct_from is_same punctuator_spelling
  opening q l i level = rw (le-leb 1 d level) refl

  grouped_again : (q : DeclaratorKind) (l : Position) (e : Declarator) (c : Position) (r : Words)
      → IsDeclarator names (t.grouped l e c) → NameFits q e → declarator_levels e < d
      → parenthesis_from names deeper d q l (declarator_words e (punctuator p.RightParenthesis c ∷ r))
      ≡ Ok (t.grouped l e c, r)
  unfolding parenthesis_from
  grouped_again q l e c r h fits low =
      rw (
        and_right (not (must_have_name q)) (next_is_punctuator p.RightParenthesis
            (declarator_words e (punctuator p.RightParenthesis c ∷ r)) || begins_specifiers names
            (declarator_words e (punctuator p.RightParenthesis c ∷ r)))
            (opens_inside e (punctuator p.RightParenthesis c ∷ r) h.1 h.0),
        known.declarators q e (punctuator p.RightParenthesis c ∷ r) h.1 low fits refl,
        expected p.RightParenthesis c r,
      ) refl

  -- parameters behind nothing
  abstract_function_again : (q : DeclaratorKind) (l : Position) (a : Parameters) (c : Position) (r : Words)
      → must_have_name q ≡ false → AreParameters names a → parameters_levels a < d
      → parenthesis_from names deeper d q l (parameters_words a (punctuator p.RightParenthesis c ∷ r))
      ≡ Ok (t.function t.unnamed l a c, r)
  unfolding parenthesis_from
  abstract_function_again q l a c r plain h low =
      rw (plain, parameters_open a c r h, function_again t.unnamed l a c r h low) refl

  abbrev suffixed : DeclaratorKind → Words → Outcome Declarator
  suffixed q x = direct_from names deeper d q x >>= λ e i. suffixes_from names deeper d d e i

  -- from a declarator that stands before a suffix
  suffix_step : (q : DeclaratorKind) (x : Words) (n : ℕ) (l e : Declarator) (w : Punctuator) (at : Position)
      (i r : Words)
      → suffixed q x ≡ suffixes_from names deeper d n l (punctuator w at ∷ i) → d ≤ n + declarator_levels l
      → begins_suffix (kinds.Punctuator w) ≡ true → declarator_levels l < d
      → suffix_from names deeper d l (kinds.Punctuator w) at i ≡ Ok (e, r) → declarator_levels l < declarator_levels e
      → (j : ℕ) × (d ≤ j + declarator_levels e) × (suffixed q x ≡ suffixes_from names deeper d j e r)
  unfolding suffixes_from
  suffix_step q x zero l e w at i r read room is low step up = absurd (omega arith)
  suffix_step q x (suc n) l e w at i r read room is low step up =
      (n, omega arith, read ∙ rw (is, lt-ltb (declarator_levels l) d low, step) refl)

  suffixes_end : (n : ℕ) (e : Declarator) (r : Words) → is_quiet r ≡ true
      → suffixes_from names deeper d n e r ≡ Ok (e, r)
  unfolding suffixes_from
  suffixes_end zero e r h = refl
  suffixes_end (suc n) e [] h = refl
  suffixes_end (suc n) e (first ∷ r) h = rw (quiet_suffix first.kind h) refl

  bracket_suffix : begins_suffix (kinds.Punctuator p.LeftBracket) ≡ true
  unfolding is_same punctuator_spelling
  bracket_suffix = refl

  parenthesis_suffix : begins_suffix (kinds.Punctuator p.LeftParenthesis) ≡ true
  unfolding is_same punctuator_spelling
  parenthesis_suffix = refl

  -- the words of e and then r are read up to r, and what goes on is a suffix of e
  read_up_to : (q : DeclaratorKind) (e : Declarator) (r : Words) → IsDeclarator names e → is_direct e ≡ true
      → declarator_levels e ≤ d → NameFits q e → (is_unnamed e ≡ true → is_free r ≡ true)
      → (j : ℕ) × (d ≤ j + declarator_levels e) × (suffixed q (declarator_words e r)
      ≡ suffixes_from names deeper d j e r)
  unfolding direct_from is_same punctuator_spelling
  read_up_to q (t.named x) r h o hi fit f = (d, omega arith, rw (may_be (may_have_name q) fit.0, h) refl)
  read_up_to q t.unnamed r h o hi fit f = (
    d,
    omega arith,
    rw (nothing_here q r (must_not (must_have_name q) fit.1) (f refl)) refl,
  )
  read_up_to q (t.pointer at z e) r h o hi fit f = absurd cc
  read_up_to q (t.grouped l e c) r h o hi fit f = (
    d,
    omega arith,
    rw (
      opening q l (declarator_words e (punctuator p.RightParenthesis c ∷ r)) (omega arith),
      grouped_again q l e c r h fit (omega arith),
    ) refl,
  )
  read_up_to q (t.open_array e l c) r h o hi fit f =
      let s = read_up_to q e (punctuator p.LeftBracket l ∷ punctuator p.RightBracket c ∷ r) h.1 h.0 (omega arith) fit
      (λ _. refl) in
      suffix_step q _ s.0 e (t.open_array e l c) p.LeftBracket l (punctuator p.RightBracket c ∷ r) r s.2 s.1
      bracket_suffix (omega arith) (open_array_again e l c r) (omega arith)
  read_up_to q (t.array e l x c) r h o hi fit f =
      let s = read_up_to q e (punctuator p.LeftBracket l ∷ expression_words x (punctuator p.RightBracket c ∷ r)) h.2 h.0
      (omega arith) fit (λ _. refl) in
      suffix_step q _ s.0 e (t.array e l x c) p.LeftBracket l (expression_words x (punctuator p.RightBracket c ∷ r)) r
      s.2 s.1 bracket_suffix (omega arith) (array_again e l x c r h (omega arith)) (omega arith)
  read_up_to q (t.function t.unnamed l a c) r h o hi fit f = (
    d,
    omega arith,
    rw (
      opening q l (parameters_words a (punctuator p.RightParenthesis c ∷ r)) (omega arith),
      abstract_function_again q l a c r (must_not (must_have_name q) fit.1) h.2 (omega arith),
    ) refl,
  )
  read_up_to q (t.function e l a c) r h o hi fit f =
      let s = read_up_to q e (punctuator p.LeftParenthesis l ∷ parameters_words a (punctuator p.RightParenthesis c ∷ r))
      h.1 h.0 (omega arith) fit (λ x. cc) in
      suffix_step q (declarator_words (t.function e l a c) r) s.0 e (t.function e l a c) p.LeftParenthesis l
      (parameters_words a (punctuator p.RightParenthesis c ∷ r)) r s.2 s.1 parenthesis_suffix (omega arith)
      (function_again e l a c r h.2 (omega arith)) (omega arith)

  no_star : (q : DeclaratorKind) (x : Words) → next_is_punctuator p.Star x ≡ false
      → declarator_at names deeper d q x ≡ suffixed q x
  unfolding declarator_at suffixed_from
  no_star q [] h = refl
  no_star q (first ∷ x) h = rw h refl

  direct_again : (q : DeclaratorKind) (e : Declarator) (r : Words) → IsDeclarator names e → is_direct e ≡ true
      → declarator_levels e ≤ d → NameFits q e → is_quiet r ≡ true
      → declarator_at names deeper d q (declarator_words e r) ≡ Ok (e, r)
  direct_again q e r h o hi fit quiet =
      let s = read_up_to q e r h o hi fit (λ _. quiet_free r quiet) in
      no_star q (declarator_words e r) (direct_no_star names e r h o (quiet_no_star names r quiet)) ∙ s.2
      ∙ suffixes_end s.0 e r quiet

  pointer_again : (q : DeclaratorKind) (at : Position) (z : List Position) (e : Declarator) (r : Words)
      → IsDeclarator names e → declarator_levels e < d → NameFits q e → is_quiet r ≡ true
      → declarator_at names deeper d q (declarator_words (t.pointer at z e) r) ≡ Ok (t.pointer at z e, r)
  unfolding declarator_at pointer_from
  pointer_again q at z e r h low fit quiet =
      let level : 1 ≤ d = omega arith in
      rw (
        same p.Star,
        le-leb 1 d level,
        consts_again z (declarator_words e r) (declarator_next names is_const false (declarator_no_const names) e r h
            (quiet_no_const names r quiet)),
        known.declarators q e r h low fit quiet,
      ) refl

  pub declarator_again : (q : DeclaratorKind) (e : Declarator) (r : Words) → IsDeclarator names e
      → declarator_levels e ≤ d → NameFits q e → is_quiet r ≡ true
      → declarator_at names deeper d q (declarator_words e r) ≡ Ok (e, r)
  declarator_again q (t.pointer at z e) r h hi fit quiet = pointer_again q at z e r h (omega arith) fit quiet
  declarator_again q e r h hi fit quiet = direct_again q e r h refl hi fit quiet
