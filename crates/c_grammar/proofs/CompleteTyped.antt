-- Type names and parameters are read from their words.
use Rattle.std.proofs.Common.{◌≡◌, ℕ, zero, suc, ◌<◌, ◌≤◌, true, false, List, [], ◌∷◌, Ok, length, refl, ap, arith}
use Rattle.c_lexer.specs.Spellings.{punctuator_spelling}
use Rattle.c_lexer.specs.declared.keyword.Keyword.TheVariants as k
use Rattle.c_lexer.specs.declared.punctuator.Punctuator.TheVariants as p
use Rattle.c_syntax.specs.declared.position.Position.{Position}
use Rattle.c_syntax.specs.Tree.{TypedDeclarator, Specifiers, Declarator, Parameters, MoreParameters}
use Rattle.c_syntax.specs.Tree as t
use Rattle.c_syntax.specs.View.{more_parameters_of}
use Rattle.c_syntax.specs.Levels.{typed_levels, declarator_levels, specifiers_levels, parameters_levels}
use Rattle.c_syntax.specs.Levels.{more_parameters_levels}
use Rattle.c_syntax.specs.Words.{Words, punctuator, typed_words, specifiers_words, declarator_words, parameters_words}
use Rattle.c_syntax.specs.Words.{more_parameters_words}
use Rattle.c_syntax.specs.Formed.{names_one_type, has_typedef, has_name, is_lone_void, with_keyword, with_specifier}
use Rattle.c_syntax.specs.Formed.{IsDeclarator, EachSpecifier, IsTypeName, IsParameter, AreParameters}
use Rattle.c_syntax.specs.Formed.{AreMoreParameters}
use Rattle.c_grammar.specs.Reader.{Outcome, is_same, is_punctuator, next_is_punctuator, behind_commas}
use Rattle.c_grammar.specs.Readers.{Readers, is_specifier_word, begins_specifiers, typed_from, parameters_of}
use Rattle.c_grammar.specs.Readers.{parameters_from}
use Rattle.c_grammar.specs.ExpressionReader.{type_name_from}
use Rattle.c_grammar.specs.declared.declarator_kind.DeclaratorKind.{DeclaratorKind}
use Rattle.c_grammar.specs.declared.declarator_kind.DeclaratorKind.TheVariants as kind
use Rattle.c_grammar.proofs.Known.{CompleteReaders, NameFits, is_quiet}
use Rattle.c_grammar.proofs.Facts.{expected}
use Rattle.c_grammar.proofs.FirstWords.{specifiers_first, specifiers_no_punctuator, declarator_next}
use Rattle.c_grammar.proofs.FirstWords.{declarator_no_specifier, declarator_begins_with, declarator_brace_apart}
use Rattle.c_grammar.proofs.FirstWords.{quiet_no_specifiers}
use Rattle.c_grammar.proofs.Longer.{typed_longer}
use Rattle.c_grammar.proofs.Lists.{comma_turn, comma_end}

-- the elements of a list of parameters
abbrev pub parameters_list : MoreParameters → List (Position × TypedDeclarator)
parameters_list t.end_of_parameters = []
parameters_list (t.more_parameters at x m) = (at, x) ∷ parameters_list m

pub same_parameters : (m : MoreParameters) → more_parameters_of (parameters_list m) ≡ m
same_parameters t.end_of_parameters = refl
same_parameters (t.more_parameters at x m) = ap (λ m. t.more_parameters at x m) (same_parameters m)

no_lone_void : (x : TypedDeclarator) (m : MoreParameters) → is_lone_void x m ≡ false
    → parameters_of x m ≡ t.parameters x m
no_lone_void (t.typed (t.specifiers (t.keyword k.Void at) t.no_specifiers) t.unnamed) t.end_of_parameters h = cc
no_lone_void x m h = refl

more_quiet : (m : MoreParameters) (q : Position) (r : Words)
    → is_quiet (more_parameters_words m (punctuator p.RightParenthesis q ∷ r)) ≡ true
more_quiet t.end_of_parameters q r = refl
more_quiet (t.more_parameters at x m) q r = refl

more_no_brace : (m : MoreParameters) (q : Position) (r : Words)
    → next_is_punctuator p.LeftBrace (more_parameters_words m (punctuator p.RightParenthesis q ∷ r)) ≡ false
unfolding is_same punctuator_spelling
more_no_brace t.end_of_parameters q r = refl
more_no_brace (t.more_parameters at x m) q r = refl

abstract_fits : (e : Declarator) → has_name e ≡ false → NameFits kind.Abstract e
abstract_fits e h = ((λ _. h), (λ x. cc))

either_fits : (e : Declarator) → NameFits kind.Either e
either_fits e = ((λ x. cc), (λ x. cc))

module _ (names : List (List ℕ)) (d : ℕ) (deeper : Readers) (known : CompleteReaders names d deeper) where
  typed_again : (q : DeclaratorKind) (z : Specifiers) (e : Declarator) (r : Words) → names_one_type z ≡ true
      → EachSpecifier names z → has_typedef z ≡ false → IsDeclarator names e
      → NameFits q e → specifiers_levels z < d → declarator_levels e < d → is_quiet r ≡ true
      → next_is_punctuator p.LeftBrace r ≡ false
      → typed_from deeper q (specifiers_words z (declarator_words e r)) ≡ Ok (t.typed z e, r)
  unfolding typed_from
  typed_again q z e r one each plain formed fits low shallow quiet brace =
      rw (
        known.specifiers false z (declarator_words e r) one each (λ _. plain) low
            (declarator_next names (is_specifier_word names) false (declarator_no_specifier names) e r formed
            (quiet_no_specifiers names r quiet))
            (declarator_next names (is_punctuator p.LeftBrace) false
            (declarator_begins_with names p.LeftBrace (declarator_brace_apart names)) e r formed brace),
        known.declarators q e r formed shallow fits quiet,
      ) refl

  -- the words of a type name and `)`
  pub type_name_again : {A : Type 0} (f : TypedDeclarator → Position → Words → Outcome A) (x : TypedDeclarator)
      (q : Position) (r : Words)
      → IsTypeName names x → typed_levels x < d → type_name_from names deeper d f
      (typed_words x (punctuator p.RightParenthesis q ∷ r)) ≡ f x q r
  unfolding is_same punctuator_spelling
  type_name_again f (t.typed z e) q r h low =
      rw (
        typed_again kind.Abstract z e (punctuator p.RightParenthesis q ∷ r) h.0 h.1 h.2 h.3 (abstract_fits e h.4)
            (omega arith) (omega arith) refl refl,
        expected p.RightParenthesis q r,
      ) refl

  pub type_name_first : (x : TypedDeclarator) (i : Words) → IsTypeName names x
      → begins_specifiers names (typed_words x i) ≡ true
  type_name_first (t.typed z e) i h = specifiers_first names z (declarator_words e i) h.0 h.1

  parameter_again : (x : TypedDeclarator) (r : Words) → IsParameter names x → typed_levels x < d → is_quiet r ≡ true
      → next_is_punctuator p.LeftBrace r ≡ false
      → typed_from deeper kind.Either (typed_words x r) ≡ Ok (x, r)
  parameter_again (t.typed z e) r h low quiet brace = typed_again kind.Either z e r h.0 h.1 h.2 h.3 (either_fits e)
      (omega arith) (omega arith) quiet brace

  pub parameter_first : (x : TypedDeclarator) (i : Words) → IsParameter names x
      → begins_specifiers names (typed_words x i) ≡ true
  parameter_first (t.typed z e) i h = specifiers_first names z (declarator_words e i) h.0 h.1

  more_again : (n : ℕ) (m : MoreParameters) (q : Position) (r : Words) → AreMoreParameters names m
      → more_parameters_levels m < d
      → length (more_parameters_words m (punctuator p.RightParenthesis q ∷ r)) ≤ n
      → behind_commas (typed_from deeper kind.Either) n (more_parameters_words m (punctuator p.RightParenthesis q ∷ r))
      ≡ Ok (parameters_list m, punctuator p.RightParenthesis q ∷ r)
  unfolding is_same punctuator_spelling
  more_again n t.end_of_parameters q r h low room = comma_end (typed_from deeper kind.Either) n
      (punctuator p.RightParenthesis q ∷ r) refl
  more_again zero (t.more_parameters at x m) q r h low room = absurd (omega arith)
  more_again (suc n) (t.more_parameters at x m) q r h low room =
      comma_turn (typed_from deeper kind.Either) n at _ _ _ x (parameters_list m)
      (parameter_again x (more_parameters_words m (punctuator p.RightParenthesis q ∷ r)) h.0 (omega arith)
      (more_quiet m q r) (more_no_brace m q r))
      (more_again n m q r h.1 (omega arith) (omega (
        arith,
        typed_longer x
            (more_parameters_words m (punctuator p.RightParenthesis q ∷ r)),
      )))

  -- the word `void` alone
  void_again : (at q : Position) (r : Words) → 0 < d
      → typed_from deeper kind.Either (parameters_words (t.void_parameters at) (punctuator p.RightParenthesis q ∷ r))
      ≡ Ok (t.typed (t.specifiers (t.keyword k.Void at) t.no_specifiers) t.unnamed, punctuator p.RightParenthesis q ∷ r)
  unfolding is_same punctuator_spelling with_specifier with_keyword
  void_again at q r low =
      parameter_again (t.typed (t.specifiers (t.keyword k.Void at) t.no_specifiers) t.unnamed)
      (punctuator p.RightParenthesis q ∷ r) (refl, (tt, tt), refl, tt) (omega arith) refl refl

  pub parameters_again : (a : Parameters) (q : Position) (r : Words) → AreParameters names a → parameters_levels a < d
      → parameters_from deeper (parameters_words a (punctuator p.RightParenthesis q ∷ r))
      ≡ Ok (a, punctuator p.RightParenthesis q ∷ r)
  unfolding parameters_from is_same punctuator_spelling
  parameters_again t.no_parameters q r h low = refl
  parameters_again (t.void_parameters at) q r h low =
      rw (
        void_again at q r (omega arith),
        comma_end (typed_from deeper kind.Either)
            (length (punctuator p.RightParenthesis q ∷ r)) (punctuator p.RightParenthesis q ∷ r) refl,
      ) refl
  parameters_again (t.parameters x m) q r h low =
      rw (
        specifiers_no_punctuator names p.RightParenthesis (typed_words x
            (more_parameters_words m (punctuator p.RightParenthesis q ∷ r)))
            (parameter_first x (more_parameters_words m (punctuator p.RightParenthesis q ∷ r)) h.1),
        parameter_again x (more_parameters_words m (punctuator p.RightParenthesis q ∷ r)) h.1 (omega arith)
            (more_quiet m q r) (more_no_brace m q r),
        more_again (length (more_parameters_words m (punctuator p.RightParenthesis q ∷ r))) m q r h.2 (omega arith)
            (omega arith),
        same_parameters m,
        no_lone_void x m h.0,
      ) refl
