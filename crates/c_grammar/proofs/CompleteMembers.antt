-- Members and enumerators are read from their words.
use Rattle.std.proofs.Common.{◌≡◌, ℕ, zero, suc, ◌<◌, ◌≤◌, true, false, List, [], ◌∷◌, Ok, Option, Some, None, length}
use Rattle.std.proofs.Common.{refl, ap, arith}
use Rattle.c_lexer.specs.Spellings.{punctuator_spelling}
use Rattle.c_lexer.specs.declared.punctuator.Punctuator.TheVariants as p
use Rattle.c_syntax.specs.declared.position.Position.{Position}
use Rattle.c_syntax.specs.Tree.{Declarator, Members, Member, MoreDeclarators, Enumerator, MoreEnumerators}
use Rattle.c_syntax.specs.Tree as t
use Rattle.c_syntax.specs.View.{members_of, more_declarators_of, more_enumerators_of}
use Rattle.c_syntax.specs.Levels.{members_levels, member_levels, more_declarators_levels, enumerator_levels}
use Rattle.c_syntax.specs.Levels.{more_enumerators_levels}
use Rattle.c_syntax.specs.Words.{Words, punctuator, comma_words, expression_words, declarator_words, members_words}
use Rattle.c_syntax.specs.Words.{member_words, more_declarators_words, enumerator_words, more_enumerators_words}
use Rattle.c_syntax.specs.Formed.{has_name, is_no_member, AreMembers, IsMember, AreMoreDeclarators, IsEnumerator}
use Rattle.c_syntax.specs.Formed.{AreMoreEnumerators}
use Rattle.c_grammar.specs.Reader.{is_same, next_is_punctuator, ordinary_from, behind_commas, behind_commas_to_brace}
use Rattle.c_grammar.specs.Reader.{up_to_brace}
use Rattle.c_grammar.specs.Readers.{Readers, begins_specifiers}
use Rattle.c_grammar.specs.SpecifierReader.{member_from, members_from, enumerator_from}
use Rattle.c_grammar.specs.declared.declarator_kind.DeclaratorKind.TheVariants as kind
use Rattle.c_grammar.proofs.Known.{CompleteReaders, NameFits, next_binds, is_quiet}
use Rattle.c_grammar.proofs.Facts.{same, expected, comma_binds, brace_binds}
use Rattle.c_grammar.proofs.FirstWords.{specifiers_first, specifiers_no_punctuator, named_no_specifiers, named_no_brace}
use Rattle.c_grammar.proofs.Longer.{declarator_longer, members_longer, member_longer, enumerator_longer}
use Rattle.c_grammar.proofs.Lists.{comma_turn, comma_end, comma_to_brace_turn, comma_to_brace_last, comma_to_brace_end}
use Rattle.c_grammar.proofs.Lists.{to_brace_turn, to_brace_end}

-- the elements of a list of declarators
abbrev pub declarators_list : MoreDeclarators → List (Position × Declarator)
declarators_list t.end_of_declarators = []
declarators_list (t.more_declarators at e m) = (at, e) ∷ declarators_list m

pub same_declarators : (m : MoreDeclarators) → more_declarators_of (declarators_list m) ≡ m
same_declarators t.end_of_declarators = refl
same_declarators (t.more_declarators at e m) = ap (λ m. t.more_declarators at e m) (same_declarators m)

-- the elements of a list of members
abbrev pub members_list : Members → List Member
members_list t.no_members = []
members_list (t.members x m) = x ∷ members_list m

pub same_members : (m : Members) → members_of (members_list m) ≡ m
same_members t.no_members = refl
same_members (t.members x m) = ap (λ m. t.members x m) (same_members m)

-- the elements of a list of enumerators
abbrev pub enumerators_list : MoreEnumerators → List (Position × Enumerator)
enumerators_list t.end_of_enumerators = []
enumerators_list (t.more_enumerators at e m) = (at, e) ∷ enumerators_list m

pub same_enumerators : (m : MoreEnumerators) → more_enumerators_of (enumerators_list m) ≡ m
same_enumerators t.end_of_enumerators = refl
same_enumerators (t.more_enumerators at e m) = ap (λ m. t.more_enumerators at e m) (same_enumerators m)

pub named_fits : (e : Declarator) → has_name e ≡ true → NameFits kind.Named e
named_fits e h = ((λ x. cc), (λ _. h))

declarators_quiet : (m : MoreDeclarators) (at : Position) (r : Words)
    → is_quiet (more_declarators_words m (punctuator p.Semicolon at ∷ r)) ≡ true
declarators_quiet t.end_of_declarators at r = refl
declarators_quiet (t.more_declarators q e m) at r = refl

enumerators_bind : (m : MoreEnumerators) (c : Option Position) (q : Position) (r : Words)
    → next_binds (more_enumerators_words m (comma_words c (punctuator p.RightBrace q ∷ r))) < 3
enumerators_bind t.end_of_enumerators None q r = omega (arith, brace_binds q r)
enumerators_bind t.end_of_enumerators (Some at) q r = omega (arith, comma_binds at (punctuator p.RightBrace q ∷ r))
enumerators_bind (t.more_enumerators at e m) c q r =
    omega (
      arith,
      comma_binds at (enumerator_words e (more_enumerators_words m (comma_words c (punctuator p.RightBrace q ∷ r)))),
    )

enumerators_no_assign : (m : MoreEnumerators) (c : Option Position) (q : Position) (r : Words)
    → next_is_punctuator p.Assign (more_enumerators_words m (comma_words c (punctuator p.RightBrace q ∷ r))) ≡ false
unfolding is_same punctuator_spelling
enumerators_no_assign t.end_of_enumerators None q r = refl
enumerators_no_assign t.end_of_enumerators (Some at) q r = refl
enumerators_no_assign (t.more_enumerators at e m) c q r = refl

enumerator_no_brace : (e : Enumerator) (r : Words) → next_is_punctuator p.RightBrace (enumerator_words e r) ≡ false
enumerator_no_brace (t.plain x) r = refl
enumerator_no_brace (t.valued x at e) r = refl

module _ (names : List (List ℕ)) (d : ℕ) (deeper : Readers) (known : CompleteReaders names d deeper) where
  -- ---- members

  declarators_again : (n : ℕ) (m : MoreDeclarators) (q : Position) (r : Words) → AreMoreDeclarators names m
      → more_declarators_levels m < d
      → length (more_declarators_words m (punctuator p.Semicolon q ∷ r)) ≤ n
      → behind_commas (deeper.declarator kind.Named) n (more_declarators_words m (punctuator p.Semicolon q ∷ r))
      ≡ Ok (declarators_list m, punctuator p.Semicolon q ∷ r)
  unfolding is_same punctuator_spelling
  declarators_again n t.end_of_declarators q r h low room = comma_end (deeper.declarator kind.Named) n
      (punctuator p.Semicolon q ∷ r) refl
  declarators_again zero (t.more_declarators at e m) q r h low room = absurd (omega arith)
  declarators_again (suc n) (t.more_declarators at e m) q r h low room =
      comma_turn (deeper.declarator kind.Named) n at _ _ _ e (declarators_list m)
      (known.declarators kind.Named e (more_declarators_words m (punctuator p.Semicolon q ∷ r)) h.1 (omega arith)
      (named_fits e h.0) (declarators_quiet m q r))
      (declarators_again n m q r h.2 (omega arith)
      (omega (arith, declarator_longer e (more_declarators_words m (punctuator p.Semicolon q ∷ r)))))

  member_again : (x : Member) (r : Words) → IsMember names x → member_levels x < d
      → member_from names deeper d (member_words x r) ≡ Ok (x, r)
  unfolding member_from
  member_again (t.member_declaration z e m q) r h low =
      let behind : Words = more_declarators_words m (punctuator p.Semicolon q ∷ r) in
      rw (
        known.specifiers false z (declarator_words e behind) h.0 h.1 (λ _. h.2) (omega arith)
            (named_no_specifiers names e behind h.4 h.3) (named_no_brace names e behind h.4 h.3),
        known.declarators kind.Named e behind h.4 (omega arith) (named_fits e h.3) (declarators_quiet m q r),
        declarators_again (length behind) m q r h.5 (omega arith) (omega arith),
        same_declarators m,
        expected p.Semicolon q r,
      ) refl

  member_first : (x : Member) (r : Words) → IsMember names x → begins_specifiers names (member_words x r) ≡ true
  member_first (t.member_declaration z e m q) r h = specifiers_first names z
      (declarator_words e (more_declarators_words m (punctuator p.Semicolon q ∷ r))) h.0 h.1

  more_members_again : (n : ℕ) (m : Members) (q : Position) (r : Words) → AreMembers names m → members_levels m < d
      → length (members_words m (punctuator p.RightBrace q ∷ r)) ≤ n
      → up_to_brace (member_from names deeper d) n (members_words m (punctuator p.RightBrace q ∷ r))
      ≡ Ok (members_list m, punctuator p.RightBrace q ∷ r)
  more_members_again zero m q r h low room = absurd (omega (arith, members_longer m (punctuator p.RightBrace q ∷ r)))
  more_members_again (suc n) t.no_members q r h low room = to_brace_end (member_from names deeper d) n
      (punctuator p.RightBrace q ∷ r) (same p.RightBrace)
  more_members_again (suc n) (t.members x m) q r h low room =
      let behind : Words = members_words m (punctuator p.RightBrace q ∷ r) in
      to_brace_turn (member_from names deeper d) n (member_words x behind) behind (punctuator p.RightBrace q ∷ r) x
      (members_list m)
      (specifiers_no_punctuator names p.RightBrace (member_words x behind) (member_first x behind h.0))
      (member_again x behind h.0 (omega arith))
      (more_members_again n m q r h.1 (omega arith) (omega (arith, member_longer x behind)))

  pub members_again : (m : Members) (q : Position) (r : Words) → is_no_member m ≡ false → AreMembers names m
      → members_levels m < d
      → members_from names deeper d (members_words m (punctuator p.RightBrace q ∷ r))
      ≡ Ok (m, punctuator p.RightBrace q ∷ r)
  unfolding members_from
  members_again t.no_members q r some h low = cc
  members_again (t.members x m) q r some h low =
      let behind : Words = members_words m (punctuator p.RightBrace q ∷ r) in
      rw (
        member_again x behind h.0 (omega arith),
        more_members_again (length behind) m q r h.1 (omega arith)
            (omega arith),
        same_members m,
      ) refl

  -- ---- enumerators

  pub enumerator_again : (e : Enumerator) (r : Words) → IsEnumerator names e → enumerator_levels e < d
      → next_binds r < 3 → next_is_punctuator p.Assign r ≡ false
      → enumerator_from names deeper d (enumerator_words e r) ≡ Ok (e, r)
  unfolding enumerator_from ordinary_from
  enumerator_again (t.plain x) r h low f plain = rw (h, plain) refl
  enumerator_again (t.valued x at e) r h low f plain =
      rw (
        h.0,
        same p.Assign,
        expected p.Assign at (expression_words e r),
        known.expressions 3 e r h.2 low (omega arith) h.1 f,
      ) refl

  pub enumerators_again : (n : ℕ) (m : MoreEnumerators) (c : Option Position) (q : Position) (r : Words)
      → AreMoreEnumerators names m → more_enumerators_levels m < d
      → length (more_enumerators_words m (comma_words c (punctuator p.RightBrace q ∷ r))) ≤ n
      → behind_commas_to_brace (enumerator_from names deeper d) n
      (more_enumerators_words m (comma_words c (punctuator p.RightBrace q ∷ r)))
      ≡ Ok ((enumerators_list m, c), punctuator p.RightBrace q ∷ r)
  unfolding is_same punctuator_spelling
  enumerators_again n t.end_of_enumerators None q r h low room =
      comma_to_brace_end (enumerator_from names deeper d) n (punctuator p.RightBrace q ∷ r) refl
  enumerators_again zero t.end_of_enumerators (Some at) q r h low room = absurd (omega arith)
  enumerators_again (suc n) t.end_of_enumerators (Some at) q r h low room =
      comma_to_brace_last (enumerator_from names deeper d) n at (punctuator p.RightBrace q ∷ r) refl
  enumerators_again zero (t.more_enumerators at e m) c q r h low room = absurd (omega arith)
  enumerators_again (suc n) (t.more_enumerators at e m) c q r h low room =
      let behind : Words = more_enumerators_words m (comma_words c (punctuator p.RightBrace q ∷ r)) in
      comma_to_brace_turn (enumerator_from names deeper d) n at (enumerator_words e behind) behind
      (punctuator p.RightBrace q ∷ r) e (enumerators_list m) c
      (enumerator_no_brace e behind)
      (enumerator_again e behind h.0 (omega arith) (enumerators_bind m c q r) (enumerators_no_assign m c q r))
      (enumerators_again n m c q r h.1 (omega arith) (omega (arith, enumerator_longer e behind)))

  -- behind the first enumerator
  pub first_enumerator_again : (e : Enumerator) (m : MoreEnumerators) (c : Option Position) (q : Position) (r : Words)
      → IsEnumerator names e → enumerator_levels e < d
      → enumerator_from names deeper d (enumerator_words e (more_enumerators_words m
      (comma_words c (punctuator p.RightBrace q ∷ r))))
      ≡ Ok (e, more_enumerators_words m (comma_words c (punctuator p.RightBrace q ∷ r)))
  first_enumerator_again e m c q r h low = enumerator_again e
      (more_enumerators_words m (comma_words c (punctuator p.RightBrace q ∷ r))) h low (enumerators_bind m c q r)
      (enumerators_no_assign m c q r)
