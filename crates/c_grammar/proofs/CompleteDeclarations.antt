-- Declarations are read from their words.
use Rattle.std.proofs.Common.{◌≡◌, ℕ, zero, suc, ◌<◌, ◌≤◌, Bool, true, false, List, [], ◌∷◌, Ok, Option, Some, None}
use Rattle.std.proofs.Common.{length, refl, arith}
use Rattle.c_lexer.specs.Spellings.{punctuator_spelling}
use Rattle.c_lexer.specs.declared.punctuator.Punctuator.TheVariants as p
use Rattle.c_syntax.specs.declared.position.Position.{Position}
use Rattle.c_syntax.specs.Tree.{Specifiers, Declarator, Initializer}
use Rattle.c_syntax.specs.Statements.{InitDeclarator, InitDeclarators, Declaration}
use Rattle.c_syntax.specs.Words.{Words, punctuator, specifiers_words, declarator_words, initializer_words}
use Rattle.c_syntax.specs.Words.{initialized_words, init_declarator_words, more_init_declarators_words}
use Rattle.c_syntax.specs.Words.{init_declarators_words, declaration_words}
use Rattle.c_syntax.specs.Formed.{has_typedef, names_after, BeginDeclaration, IsDeclared, IsInitialized}
use Rattle.c_syntax.specs.Formed.{IsInitDeclarator, AreMoreInitDeclarators, AreInitDeclarators, IsDeclaration, IsLocal}
use Rattle.c_grammar.specs.Reader.{is_same, next_is_punctuator}
use Rattle.c_grammar.specs.Readers.{begins_specifiers}
use Rattle.c_grammar.specs.Nested.{readers}
use Rattle.c_grammar.specs.DeclarationReader.{initialized_from, init_declarator_behind, init_declarator_from}
use Rattle.c_grammar.specs.DeclarationReader.{more_init_declarators_from, declaration_behind, bare_declaration_from}
use Rattle.c_grammar.specs.DeclarationReader.{local_from}
use Rattle.c_grammar.specs.declared.declarator_kind.DeclaratorKind.TheVariants as kind
use Rattle.c_grammar.proofs.Known.{next_binds, is_quiet}
use Rattle.c_grammar.proofs.Facts.{same, expected, comma_binds, semicolon_binds}
use Rattle.c_grammar.proofs.FirstWords.{specifiers_first, named_no_specifiers, named_no_brace, named_no_semicolon}
use Rattle.c_grammar.proofs.LongerStatements.{init_declarator_longer}
use Rattle.c_grammar.proofs.CompleteMembers.{named_fits}
use Rattle.c_grammar.proofs.Complete.{complete}
use Rattle.c_grammar.proofs.CompleteInitializers.{initializers_complete}

-- ---- what stands behind a declarator

declarators_bind : (z : List (Position × InitDeclarator)) (at : Position) (r : Words)
    → next_binds (more_init_declarators_words z (punctuator p.Semicolon at ∷ r)) < 2
declarators_bind [] at r = omega (arith, semicolon_binds at r)
declarators_bind (x ∷ z) at r = omega (
  arith,
  comma_binds x.0
      (init_declarator_words x.1 (more_init_declarators_words z (punctuator p.Semicolon at ∷ r))),
)

declarators_no_assign : (z : List (Position × InitDeclarator)) (at : Position) (r : Words)
    → next_is_punctuator p.Assign (more_init_declarators_words z (punctuator p.Semicolon at ∷ r)) ≡ false
unfolding is_same punctuator_spelling
declarators_no_assign [] at r = refl
declarators_no_assign (x ∷ z) at r = refl

pub initialized_quiet : (v : Option (Position × Initializer)) (z : List (Position × InitDeclarator)) (at : Position)
    (r : Words) → is_quiet (initialized_words v (more_init_declarators_words z (punctuator p.Semicolon at ∷ r))) ≡ true
initialized_quiet None [] at r = refl
initialized_quiet None (x ∷ z) at r = refl
initialized_quiet (Some v) z at r = refl

pub initialized_no_brace : (v : Option (Position × Initializer)) (z : List (Position × InitDeclarator)) (at : Position)
    (r : Words) → next_is_punctuator p.LeftBrace (initialized_words v
    (more_init_declarators_words z (punctuator p.Semicolon at ∷ r))) ≡ false
unfolding is_same punctuator_spelling
initialized_no_brace None [] at r = refl
initialized_no_brace None (x ∷ z) at r = refl
initialized_no_brace (Some v) z at r = refl

semicolon_no_comma : (at : Position) (r : Words) → next_is_punctuator p.Comma (punctuator p.Semicolon at ∷ r) ≡ false
unfolding is_same punctuator_spelling
semicolon_no_comma at r = refl

pub semicolon_no_brace : (at : Position) (r : Words) → next_is_punctuator p.LeftBrace (punctuator p.Semicolon at ∷ r)
    ≡ false
unfolding is_same punctuator_spelling
semicolon_no_brace at r = refl

module _ (levels : ℕ) where
  -- ---- declarators

  pub declared_again : (names : List (List ℕ)) (d : Declarator) (r : Words) → IsDeclared levels names d
      → is_quiet r ≡ true
      → (readers names (suc levels)).declarator kind.Named (declarator_words d r) ≡ Ok (d, r)
  declared_again names d r h quiet = (complete names (suc levels)).declarators kind.Named d r h.1.1 (omega (arith, h.0))
      (named_fits d h.1.0) quiet

  initialized_again : (names : List (List ℕ)) (v : Option (Position × Initializer)) (r : Words)
      → IsInitialized levels names v → next_binds r < 2 → next_is_punctuator p.Assign r ≡ false
      → initialized_from levels names (initialized_words v r) ≡ Ok (v, r)
  unfolding initialized_from
  initialized_again names None r h f plain = rw plain refl
  initialized_again names (Some v) r h f plain =
      rw (
        same p.Assign,
        expected p.Assign v.0 (initializer_words v.1 r),
        initializers_complete names (suc levels) v.1 r h.1 (omega (arith, h.0)) f,
      ) refl

  behind_again : (is_typedef : Bool) (names : List (List ℕ)) (d : Declarator) (v : Option (Position × Initializer))
      (r : Words) → IsInitialized levels (names_after is_typedef d names) v
      → next_binds r < 2 → next_is_punctuator p.Assign r ≡ false
      → init_declarator_behind levels is_typedef names d (initialized_words v r)
      ≡ Ok (record { declarator = d; initializer = v }, r)
  unfolding init_declarator_behind
  behind_again is_typedef names d v r h f plain = rw (initialized_again (names_after is_typedef d names) v r h f plain)
      refl

  -- a declarator behind a comma
  one_again : (is_typedef : Bool) (names : List (List ℕ)) (x : InitDeclarator) (z : List (Position × InitDeclarator))
      (at : Position) (r : Words) → IsInitDeclarator levels is_typedef names x
      → init_declarator_from levels is_typedef names (init_declarator_words x
      (more_init_declarators_words z (punctuator p.Semicolon at ∷ r)))
      ≡ Ok (x, more_init_declarators_words z (punctuator p.Semicolon at ∷ r))
  unfolding init_declarator_from
  one_again is_typedef names x z at r h =
      let behind : Words = more_init_declarators_words z (punctuator p.Semicolon at ∷ r) in
      rw (
        declared_again names x.declarator (initialized_words x.initializer behind) h.0
            (initialized_quiet x.initializer z at r),
        behind_again is_typedef names x.declarator x.initializer behind h.1 (declarators_bind z at r)
            (declarators_no_assign z at r),
      ) refl

  more_again : (n : ℕ) (is_typedef : Bool) (names : List (List ℕ)) (z : List (Position × InitDeclarator))
      (at : Position) (r : Words) → AreMoreInitDeclarators levels is_typedef names z
      → length (more_init_declarators_words z (punctuator p.Semicolon at ∷ r)) ≤ n
      → more_init_declarators_from levels is_typedef n names (more_init_declarators_words z
      (punctuator p.Semicolon at ∷ r)) ≡ Ok (z, punctuator p.Semicolon at ∷ r)
  unfolding more_init_declarators_from
  more_again zero is_typedef names [] at r h room = refl
  more_again (suc n) is_typedef names [] at r h room = rw (semicolon_no_comma at r) refl
  more_again zero is_typedef names (x ∷ z) at r h room = absurd (omega arith)
  more_again (suc n) is_typedef names (x ∷ z) at r h room =
      rw (
        same p.Comma,
        one_again is_typedef names x.1 z at r h.0,
        more_again n is_typedef (names_after is_typedef x.1.declarator names) z at r h.1
            (omega (arith, init_declarator_longer x.1 (more_init_declarators_words z (punctuator p.Semicolon at ∷ r)))),
      ) refl

  -- ---- declarations

  -- what stands behind the first declarator
  pub declaration_again : (names : List (List ℕ)) (z : Specifiers) (x : InitDeclarator)
      (m : List (Position × InitDeclarator)) (at : Position) (r : Words)
      → IsInitDeclarator levels (has_typedef z) names x → AreMoreInitDeclarators levels (has_typedef z)
      (names_after (has_typedef z) x.declarator names) m
      → declaration_behind levels names z x.declarator (initialized_words x.initializer
      (more_init_declarators_words m (punctuator p.Semicolon at ∷ r)))
      ≡ Ok (record { specifiers = z; declarators = Some (record { first = x; others = m }); semicolon = at }, r)
  unfolding declaration_behind
  declaration_again names z x m at r h others =
      let behind : Words = more_init_declarators_words m (punctuator p.Semicolon at ∷ r) in
      rw (
        behind_again (has_typedef z) names x.declarator x.initializer behind h.1 (declarators_bind m at r)
            (declarators_no_assign m at r),
        more_again (length behind) (has_typedef z) (names_after (has_typedef z) x.declarator names) m at r others
            (omega arith),
        expected p.Semicolon at r,
      ) refl

  pub bare_again : (z : Specifiers) (at : Position) (r : Words)
      → bare_declaration_from levels z (punctuator p.Semicolon at ∷ r)
      ≡ Ok (record { specifiers = z; declarators = None; semicolon = at }, r)
  unfolding bare_declaration_from
  bare_again z at r = rw (expected p.Semicolon at r) refl

  -- specifiers before a declarator
  pub declarator_behind_again : (names : List (List ℕ)) (allowed : Bool) (z : Specifiers) (d : Declarator) (r : Words)
      → BeginDeclaration levels names z → (allowed ≡ false → has_typedef z ≡ false) → IsDeclared levels names d
      → (readers names (suc levels)).specifiers allowed (specifiers_words z (declarator_words d r))
      ≡ Ok (z, declarator_words d r)
  declarator_behind_again names allowed z d r h fits named =
      (complete names (suc levels)).specifiers allowed z (declarator_words d r) h.1.0 h.1.1 fits (omega (arith, h.0))
      (named_no_specifiers names d r named.1.1 named.1.0) (named_no_brace names d r named.1.1 named.1.0)

  -- specifiers before a semicolon
  pub semicolon_behind_again : (names : List (List ℕ)) (allowed : Bool) (z : Specifiers) (at : Position) (r : Words)
      → BeginDeclaration levels names z → (allowed ≡ false → has_typedef z ≡ false)
      → (readers names (suc levels)).specifiers allowed (specifiers_words z (punctuator p.Semicolon at ∷ r))
      ≡ Ok (z, punctuator p.Semicolon at ∷ r)
  semicolon_behind_again names allowed z at r h fits =
      (complete names (suc levels)).specifiers allowed z (punctuator p.Semicolon at ∷ r) h.1.0 h.1.1 fits
      (omega (arith, h.0)) refl (semicolon_no_brace at r)

  parts_again : (names : List (List ℕ)) (z : Specifiers) (o : Option InitDeclarators) (at : Position) (r : Words)
      → has_typedef z ≡ false → BeginDeclaration levels names z → AreInitDeclarators levels (has_typedef z) names o
      → local_from levels names (specifiers_words z (init_declarators_words o (punctuator p.Semicolon at ∷ r)))
      ≡ Ok (record { specifiers = z; declarators = o; semicolon = at }, r)
  unfolding local_from
  parts_again names z None at r plain begins h =
      rw (semicolon_behind_again names false z at r begins (λ _. plain), same p.Semicolon, bare_again z at r) refl
  parts_again names z (Some o) at r plain begins h =
      let behind : Words = initialized_words o.first.initializer
      (more_init_declarators_words o.others (punctuator p.Semicolon at ∷ r)) in
      rw (
        declarator_behind_again names false z o.first.declarator behind begins (λ _. plain) h.0.0,
        named_no_semicolon names o.first.declarator behind h.0.0.1.1 h.0.0.1.0,
        declared_again names o.first.declarator behind h.0.0 (initialized_quiet o.first.initializer o.others at r),
        declaration_again names z o.first o.others at r h.0 h.1,
      ) refl

  -- a declaration in a function
  pub locals_complete : (names : List (List ℕ)) (x : Declaration) (r : Words) → IsLocal levels names x
      → local_from levels names (declaration_words x r) ≡ Ok (x, r)
  locals_complete names x r h = parts_again names x.specifiers x.declarators x.semicolon r h.0 h.1.0 h.1.1

  pub declaration_first : (names : List (List ℕ)) (x : Declaration) (r : Words) → IsDeclaration levels names x
      → begins_specifiers names (declaration_words x r) ≡ true
  declaration_first names x r h = specifiers_first names x.specifiers
      (init_declarators_words x.declarators (punctuator p.Semicolon x.semicolon ∷ r)) h.0.1.0 h.0.1.1
