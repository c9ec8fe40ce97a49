-- Files are read from their words.
use Rattle.std.proofs.Common.{◌≡◌, ℕ, zero, suc, ◌≤◌, true, false, List, [], ◌∷◌, Ok, Option, Some, None, length, refl}
use Rattle.std.proofs.Common.{arith}
use Rattle.c_lexer.specs.Spellings.{punctuator_spelling}
use Rattle.c_lexer.specs.declared.punctuator.Punctuator.TheVariants as p
use Rattle.c_syntax.specs.declared.position.Position.{Position}
use Rattle.c_syntax.specs.Tree.{Specifiers, Declarator}
use Rattle.c_syntax.specs.Statements.{Block, InitDeclarators, External, Unit}
use Rattle.c_syntax.specs.Statements as s
use Rattle.c_syntax.specs.Levels.{block_levels}
use Rattle.c_syntax.specs.Words.{Words, punctuator, specifiers_words, initialized_words, more_init_declarators_words}
use Rattle.c_syntax.specs.Words.{init_declarators_words, block_words, external_words, externals_words, unit_words}
use Rattle.c_syntax.specs.Formed.{SIZE_T, is_empty, has_typedef, names_after, names_after_external, defines_function}
use Rattle.c_syntax.specs.Formed.{BeginDeclaration, AreInitDeclarators, IsBlock, IsExternal, AreExternals, IsWellFormed}
use Rattle.c_grammar.specs.Reader.{is_same, next_is_punctuator}
use Rattle.c_grammar.specs.UnitReader.{definition_from, external_behind, external_from, externals_from, externals_at}
use Rattle.c_grammar.specs.UnitReader.{unit_from}
use Rattle.c_grammar.proofs.Known.{is_quiet}
use Rattle.c_grammar.proofs.Facts.{same}
use Rattle.c_grammar.proofs.FirstWords.{named_no_semicolon}
use Rattle.c_grammar.proofs.LongerStatements.{external_longer}
use Rattle.c_grammar.proofs.CompleteDeclarations.{initialized_quiet, initialized_no_brace, declared_again}
use Rattle.c_grammar.proofs.CompleteDeclarations.{declaration_again, bare_again, declarator_behind_again}
use Rattle.c_grammar.proofs.CompleteDeclarations.{semicolon_behind_again}
use Rattle.c_grammar.proofs.CompleteStatements.{blocks_complete}

block_first : (b : Block) (i : Words) → next_is_punctuator p.LeftBrace (block_words b i) ≡ true
unfolding is_same punctuator_spelling
block_first (s.block l m q) i = refl

block_quiet : (b : Block) (i : Words) → is_quiet (block_words b i) ≡ true
block_quiet (s.block l m q) i = refl

module _ (levels : ℕ) where
  definition_again : (names : List (List ℕ)) (z : Specifiers) (d : Declarator) (b : Block) (r : Words)
      → defines_function d ≡ true → block_levels b ≤ levels → IsBlock levels (names_after (has_typedef z) d names) b
      → definition_from levels names z d (block_words b r) ≡ Ok (s.definition z d b, r)
  unfolding definition_from
  definition_again names z d b r defines low h =
      rw (defines, blocks_complete levels (names_after (has_typedef z) d names) (suc levels) b r h (omega arith)) refl

  declaration_parts_again : (names : List (List ℕ)) (z : Specifiers) (o : Option InitDeclarators) (at : Position)
      (r : Words) → BeginDeclaration levels names z → AreInitDeclarators levels (has_typedef z) names o
      → external_from levels names (specifiers_words z (init_declarators_words o (punctuator p.Semicolon at ∷ r)))
      ≡ Ok (s.declaration (record { specifiers = z; declarators = o; semicolon = at }), r)
  unfolding external_from external_behind
  declaration_parts_again names z None at r begins h =
      rw (semicolon_behind_again levels names true z at r begins (λ x. cc), same p.Semicolon, bare_again levels z at r)
      refl
  declaration_parts_again names z (Some o) at r begins h =
      let behind : Words = initialized_words o.first.initializer
      (more_init_declarators_words o.others (punctuator p.Semicolon at ∷ r)) in
      rw (
        declarator_behind_again levels names true z o.first.declarator behind begins (λ x. cc) h.0.0,
        named_no_semicolon names o.first.declarator behind h.0.0.1.1 h.0.0.1.0,
        declared_again levels names o.first.declarator behind h.0.0
            (initialized_quiet o.first.initializer o.others at r),
        initialized_no_brace o.first.initializer o.others at r,
        declaration_again levels names z o.first o.others at r h.0 h.1,
      ) refl

  -- a function definition or declaration is read from its words
  pub externals_complete : (names : List (List ℕ)) (x : External) (r : Words) → IsExternal levels names x
      → external_from levels names (external_words x r) ≡ Ok (x, r)
  unfolding external_from external_behind
  externals_complete names (s.declaration x) r h = declaration_parts_again names x.specifiers x.declarators x.semicolon
      r h.0 h.1
  externals_complete names (s.definition z d b) r h =
      let behind : Words = block_words b r in
      rw (
        declarator_behind_again levels names true z d behind h.0 (λ x. cc) h.1,
        named_no_semicolon names d behind h.1.1.1 h.1.1.0,
        declared_again levels names d behind h.1 (block_quiet b r),
        block_first b r,
        definition_again names z d b r h.2 h.3 h.4,
      ) refl

  externals_again : (n : ℕ) (names : List (List ℕ)) (z : List External) → AreExternals levels names z
      → length (externals_words z []) ≤ n → externals_from levels n names (externals_words z []) ≡ Ok (z, [])
  unfolding externals_from
  externals_again n names [] h room = refl
  externals_again zero names (x ∷ z) h room = absurd (omega (arith, external_longer x (externals_words z [])))
  externals_again (suc n) names (x ∷ z) h room =
      let behind : Words = externals_words z [] in
      go (external_words x behind) (omega (arith, external_longer x behind)) (externals_complete names x behind h.0)
      (externals_again n (names_after_external x names) z h.1 (omega (arith, external_longer x behind)))
    where
      go : (i : Words) → 1 ≤ length i → external_from levels names i ≡ Ok (x, externals_words z [])
          → externals_from levels n (names_after_external x names) (externals_words z []) ≡ Ok (z, [])
          → externals_from levels (suc n) names i ≡ Ok (x ∷ z, [])
      go [] some one others = absurd (omega arith)
      go (first ∷ i) some one others = rw (one, others) refl

-- at least one
all_again : (z : List External) → is_empty z ≡ false → AreExternals 200 (SIZE_T ∷ []) z
    → externals_at (externals_words z []) ≡ Ok (z, [])
all_again [] some h = cc
all_again (x ∷ z) some h =
    let words : Words = external_words x (externals_words z []) in
    go words (omega (arith, external_longer x (externals_words z [])))
    (externals_again 200 (length words) (SIZE_T ∷ []) (x ∷ z) h (omega arith))
  where
    go : (i : Words) → 1 ≤ length i → externals_from 200 (length i) (SIZE_T ∷ []) i ≡ Ok (x ∷ z, [])
        → externals_at i ≡ Ok (x ∷ z, [])
    go [] some read = absurd (omega arith)
    go (first ∷ i) some read = read

-- a well-formed file is read from its words
pub unit_complete : (u : Unit) → IsWellFormed u → unit_from (unit_words u) ≡ Ok (u, [])
unfolding unit_from
unit_complete u h = rw (all_again u.externals h.0 h.1) refl
