-- Initializers are read from their words.
use Rattle.std.proofs.Common.{◌≡◌, ℕ, zero, suc, ◌<◌, ◌≤◌, Bool, true, false, ◌||◌, List, [], ◌∷◌, Ok, Option, Some}
use Rattle.std.proofs.Common.{None, length, refl, ap, arith}
use Rattle.std.proofs.lemmas.Bool.{le-leb}
use Rattle.c_lexer.specs.Spellings.{punctuator_spelling}
use Rattle.c_lexer.specs.declared.punctuator.Punctuator.TheVariants as p
use Rattle.c_lexer.specs.declared.token.TokenKind.{TokenKind}
use Rattle.c_syntax.specs.declared.position.Position.{Position}
use Rattle.c_syntax.specs.declared.position.Spelled.{Spelled}
use Rattle.c_syntax.specs.Tree.{Expression, Designator, Designation, Initializer, InitializerItem, MoreItems}
use Rattle.c_syntax.specs.Tree as t
use Rattle.c_syntax.specs.StatementsView.{more_items_of}
use Rattle.c_syntax.specs.Levels.{expression_levels, designators_levels, designation_levels, initializer_levels}
use Rattle.c_syntax.specs.Levels.{item_levels, more_items_levels}
use Rattle.c_syntax.specs.Words.{Words, punctuator, identifier, comma_words, expression_words, designators_words}
use Rattle.c_syntax.specs.Words.{designation_words, initializer_words, item_words, more_items_words}
use Rattle.c_syntax.specs.Formed.{precedence, is_empty, IsExpression, AreDesignators, IsDesignation, IsInitializer}
use Rattle.c_syntax.specs.Formed.{IsItem, AreMoreItems}
use Rattle.c_grammar.specs.Reader.{Reader, is_same, is_punctuator, next_is, next_is_punctuator, identifier_from}
use Rattle.c_grammar.specs.Reader.{behind_commas_to_brace}
use Rattle.c_grammar.specs.Readers.{Readers}
use Rattle.c_grammar.specs.Nested.{readers}
use Rattle.c_grammar.specs.InitializerReader.{begins_designator, element_from, member_named_from, designators_from}
use Rattle.c_grammar.specs.InitializerReader.{designation_from, item_from, braced_from, value_from, initializer_at}
use Rattle.c_grammar.specs.InitializerReader.{initializers}
use Rattle.c_grammar.proofs.Known.{CompleteReaders, next_binds}
use Rattle.c_grammar.proofs.Facts.{same, expected, bracket_binds, brace_binds, comma_binds}
use Rattle.c_grammar.proofs.FirstWords.{expression_no_left_bracket, expression_no_dot, expression_no_brace}
use Rattle.c_grammar.proofs.FirstWords.{expression_no_right_brace}
use Rattle.c_grammar.proofs.LongerStatements.{designators_longer, designator_longer, item_longer}
use Rattle.c_grammar.proofs.Lists.{comma_to_brace_turn, comma_to_brace_last, comma_to_brace_end}
use Rattle.c_grammar.proofs.Complete.{complete}

-- the items behind the first as a list
abbrev pub items_list : MoreItems → List (Position × InitializerItem)
items_list t.end_of_items = []
items_list (t.more_items at x m) = (at, x) ∷ items_list m

pub same_items : (m : MoreItems) → more_items_of (items_list m) ≡ m
same_items t.end_of_items = refl
same_items (t.more_items at x m) = ap (λ m. t.more_items at x m) (same_items m)

-- a word of neither kind is none of both
next_is_neither : (a b : TokenKind → Bool) (i : Words) → next_is a i ≡ false → next_is b i ≡ false
    → next_is (λ w. a w || b w) i ≡ false
next_is_neither a b [] h f = refl
next_is_neither a b (first ∷ i) h f = rw (h, f) refl

-- ---- first words

bracket_begins : (at : Position) (i : Words) → next_is begins_designator (punctuator p.LeftBracket at ∷ i) ≡ true
unfolding is_same punctuator_spelling
bracket_begins at i = refl

dot_begins : (at : Position) (i : Words) → next_is begins_designator (punctuator p.Dot at ∷ i) ≡ true
unfolding is_same punctuator_spelling
dot_begins at i = refl

dot_no_bracket : (at : Position) (i : Words) → next_is_punctuator p.LeftBracket (punctuator p.Dot at ∷ i) ≡ false
unfolding is_same punctuator_spelling
dot_no_bracket at i = refl

assign_ends : (at : Position) (i : Words) → next_is begins_designator (punctuator p.Assign at ∷ i) ≡ false
unfolding is_same punctuator_spelling
assign_ends at i = refl

designators_first : (z : List Designator) (i : Words) → is_empty z ≡ false
    → next_is begins_designator (designators_words z i) ≡ true
designators_first [] i some = cc
designators_first (t.element l e q ∷ z) i some = bracket_begins l
    (expression_words e (punctuator p.RightBracket q ∷ designators_words z i))
designators_first (t.member_named q x ∷ z) i some = dot_begins q (identifier x ∷ designators_words z i)

designators_no_brace : (z : List Designator) (at : Position) (i : Words)
    → next_is_punctuator p.RightBrace (designators_words z (punctuator p.Assign at ∷ i)) ≡ false
unfolding is_same punctuator_spelling
designators_no_brace [] at i = refl
designators_no_brace (t.element l e r ∷ z) at i = refl
designators_no_brace (t.member_named q x ∷ z) at i = refl

items_bind : (m : MoreItems) (c : Option Position) (q : Position) (r : Words)
    → next_binds (more_items_words m (comma_words c (punctuator p.RightBrace q ∷ r))) < 2
items_bind t.end_of_items None q r = omega (arith, brace_binds q r)
items_bind t.end_of_items (Some at) q r = omega (arith, comma_binds at (punctuator p.RightBrace q ∷ r))
items_bind (t.more_items at x m) c q r = omega (
  arith,
  comma_binds at
      (item_words x (more_items_words m (comma_words c (punctuator p.RightBrace q ∷ r)))),
)

module _ (names : List (List ℕ)) where
  initializer_no_designator : (v : Initializer) (i : Words) → IsInitializer names v
      → next_is begins_designator (initializer_words v i) ≡ false
  unfolding is_same punctuator_spelling
  initializer_no_designator (t.value e) i h =
      next_is_neither (is_punctuator p.LeftBracket) (is_punctuator p.Dot) (expression_words e i)
      (expression_no_left_bracket names e i h.1) (expression_no_dot names e i h.1)
  initializer_no_designator (t.braced l x m c r) i h = refl

  initializer_no_brace : (v : Initializer) (i : Words) → IsInitializer names v
      → next_is_punctuator p.RightBrace (initializer_words v i) ≡ false
  unfolding is_same punctuator_spelling
  initializer_no_brace (t.value e) i h = expression_no_right_brace names e i h.1
  initializer_no_brace (t.braced l x m c r) i h = refl

  item_no_brace : (x : InitializerItem) (i : Words) → IsItem names x
      → next_is_punctuator p.RightBrace (item_words x i) ≡ false
  item_no_brace (t.item None v) i h = initializer_no_brace v i h.1
  item_no_brace (t.item (Some x) v) i h = designators_no_brace x.designators x.equals (initializer_words v i)

  module _ (d : ℕ) (deeper : Readers) (known : CompleteReaders names d deeper) where
    -- ---- designators

    element_again : (l : Position) (e : Expression) (q : Position) (r : Words) → IsExpression names e → 3 ≤ precedence e
        → expression_levels e < d
        → element_from deeper (punctuator p.LeftBracket l ∷ expression_words e (punctuator p.RightBracket q ∷ r))
        ≡ Ok (t.element l e q, r)
    unfolding element_from
    element_again l e q r h at low =
        rw (
          expected p.LeftBracket l (expression_words e (punctuator p.RightBracket q ∷ r)),
          known.expressions 3 e (punctuator p.RightBracket q ∷ r) h low (omega arith) at
              (omega (arith, bracket_binds q r)),
          expected p.RightBracket q r,
        ) refl

    member_named_again : (at : Position) (x : Spelled) (r : Words)
        → member_named_from deeper (punctuator p.Dot at ∷ identifier x ∷ r) ≡ Ok (t.member_named at x, r)
    unfolding member_named_from identifier_from
    member_named_again at x r = rw (expected p.Dot at (identifier x ∷ r)) refl

    designators_again : (n : ℕ) (z : List Designator) (at : Position) (r : Words) → AreDesignators names z
        → designators_levels z < d
        → length (designators_words z (punctuator p.Assign at ∷ r)) ≤ n
        → designators_from deeper n (designators_words z (punctuator p.Assign at ∷ r))
        ≡ Ok (z, punctuator p.Assign at ∷ r)
    unfolding designators_from
    designators_again zero z at r h low room = absurd (omega (arith, designators_longer z (punctuator p.Assign at ∷ r)))
    designators_again (suc n) [] at r h low room = rw (assign_ends at r) refl
    designators_again (suc n) (t.element l e q ∷ z) at r h low room =
        let behind : Words = designators_words z (punctuator p.Assign at ∷ r) in
        rw (
          bracket_begins l (expression_words e (punctuator p.RightBracket q ∷ behind)),
          same p.LeftBracket,
          element_again l e q behind h.1 h.0 (omega arith),
          designators_again n z at r h.2 (omega arith) (omega (arith, designator_longer (t.element l e q) behind)),
        ) refl
    designators_again (suc n) (t.member_named q x ∷ z) at r h low room =
        let behind : Words = designators_words z (punctuator p.Assign at ∷ r) in
        rw (
          dot_begins q (identifier x ∷ behind),
          dot_no_bracket q (identifier x ∷ behind),
          member_named_again q x behind,
          designators_again n z at r h low (omega arith),
        ) refl

    some_designation_again : (z : List Designator) (at : Position) (r : Words) → is_empty z ≡ false
        → AreDesignators names z → designators_levels z < d
        → designation_from deeper (designators_words z (punctuator p.Assign at ∷ r))
        ≡ Ok (Some (record { designators = z; equals = at }), r)
    unfolding designation_from
    some_designation_again z at r some h low =
        let behind : Words = punctuator p.Assign at ∷ r in
        rw (
          designators_first z behind some,
          designators_again (length (designators_words z behind)) z at r h low (omega arith),
          expected p.Assign at r,
        ) refl

    designation_again : (x : Option Designation) (r : Words) → IsDesignation names x → designation_levels x < d
        → next_is begins_designator r ≡ false
        → designation_from deeper (designation_words x r) ≡ Ok (x, r)
    unfolding designation_from
    designation_again None r h low ends = rw ends refl
    designation_again (Some x) r h low ends = some_designation_again x.designators x.equals r h.0 h.1 low

    module _ (initializer : Reader Initializer)
        (inside : (v : Initializer) (r : Words) → IsInitializer names v → initializer_levels v < d → next_binds r < 2
        → initializer (initializer_words v r) ≡ Ok (v, r)) where
      -- ---- items

      item_again : (x : InitializerItem) (r : Words) → IsItem names x → item_levels x < d → next_binds r < 2
          → item_from deeper initializer (item_words x r) ≡ Ok (x, r)
      unfolding item_from
      item_again (t.item x v) r h low f =
          rw (
            designation_again x (initializer_words v r) h.0 (omega arith) (initializer_no_designator v r h.1),
            inside v r h.1 (omega arith) f,
          ) refl

      items_again : (n : ℕ) (m : MoreItems) (c : Option Position) (q : Position) (r : Words) → AreMoreItems names m
          → more_items_levels m < d
          → length (more_items_words m (comma_words c (punctuator p.RightBrace q ∷ r))) ≤ n
          → behind_commas_to_brace (item_from deeper initializer) n
          (more_items_words m (comma_words c (punctuator p.RightBrace q ∷ r)))
          ≡ Ok ((items_list m, c), punctuator p.RightBrace q ∷ r)
      unfolding is_same punctuator_spelling
      items_again n t.end_of_items None q r h low room = comma_to_brace_end (item_from deeper initializer) n
          (punctuator p.RightBrace q ∷ r) refl
      items_again zero t.end_of_items (Some at) q r h low room = absurd (omega arith)
      items_again (suc n) t.end_of_items (Some at) q r h low room =
          comma_to_brace_last (item_from deeper initializer) n at (punctuator p.RightBrace q ∷ r) refl
      items_again zero (t.more_items at x m) c q r h low room = absurd (omega arith)
      items_again (suc n) (t.more_items at x m) c q r h low room =
          let behind : Words = more_items_words m (comma_words c (punctuator p.RightBrace q ∷ r)) in
          comma_to_brace_turn (item_from deeper initializer) n at (item_words x behind) behind
          (punctuator p.RightBrace q ∷ r) x (items_list m) c
          (item_no_brace x behind h.0)
          (item_again x behind h.0 (omega arith) (items_bind m c q r))
          (items_again n m c q r h.1 (omega arith) (omega (arith, item_longer x behind)))

      braced_again : (l : Position) (x : InitializerItem) (m : MoreItems) (c : Option Position) (q : Position)
          (r : Words) → IsItem names x → AreMoreItems names m → item_levels x < d → more_items_levels m < d
          → braced_from (item_from deeper initializer) (initializer_words (t.braced l x m c q) r)
          ≡ Ok (t.braced l x m c q, r)
      unfolding braced_from
      braced_again l x m c q r one others low shallow =
          let behind : Words = more_items_words m (comma_words c (punctuator p.RightBrace q ∷ r)) in
          rw (
            expected p.LeftBrace l (item_words x behind),
            item_again x behind one low (items_bind m c q r),
            items_again (length behind) m c q r others shallow (omega arith),
            expected p.RightBrace q r,
            same_items m,
          ) refl

  value_again : (n : ℕ) (e : Expression) (r : Words) → 2 ≤ precedence e → IsExpression names e → expression_levels e < n
      → next_binds r < 2
      → value_from (readers names n) (expression_words e r) ≡ Ok (t.value e, r)
  unfolding value_from
  value_again n e r at h low f = rw ((complete names n).expressions 2 e r h low (omega arith) at f) refl

  -- one level more
  initializer_again : (n : ℕ) (initializer : Reader Initializer)
      → ((v : Initializer) (r : Words) → IsInitializer names v → initializer_levels v < n → next_binds r < 2
      → initializer (initializer_words v r) ≡ Ok (v, r))
      → (v : Initializer) (r : Words) → IsInitializer names v → initializer_levels v ≤ n → next_binds r < 2
      → initializer_at names initializer n (initializer_words v r) ≡ Ok (v, r)
  unfolding initializer_at
  initializer_again n initializer inside (t.value e) r h low f =
      rw (expression_no_brace names e r h.1, value_again (suc n) e r h.0 h.1 (omega arith) f) refl
  initializer_again n initializer inside (t.braced l x m c q) r h low f =
      let level : 1 ≤ n = omega arith in
      rw (
        same p.LeftBrace,
        le-leb 1 n level,
        braced_again n (readers names n) (complete names n) initializer inside l x
            m c q r h.0 h.1 (omega arith) (omega arith),
      ) refl

-- an initializer with fewer levels than n is read from its words
pub initializers_complete : (names : List (List ℕ)) (n : ℕ) (v : Initializer) (r : Words) → IsInitializer names v
    → initializer_levels v < n → next_binds r < 2
    → initializers names n (initializer_words v r) ≡ Ok (v, r)
unfolding initializers
initializers_complete names zero v r h low f = absurd (omega arith)
initializers_complete names (suc n) v r h low f = initializer_again names n (initializers names n)
    (initializers_complete names n) v r h (omega arith) f
