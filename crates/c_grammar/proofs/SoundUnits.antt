-- What is read as a file is a well-formed one with the words that were read, and nothing is left behind it (C99 6.9).
use Rattle.std.proofs.Common.{◌≡◌, ℕ, zero, suc, true, false, List, [], ◌∷◌, length, Ok, refl, sym, ap, ◌∙◌, arith}
use Rattle.std.proofs.lemmas.Bool.{true≢false}
use Rattle.c_syntax.specs.Tree.{Specifiers, Declarator}
use Rattle.c_syntax.specs.Statements.{External, Unit}
use Rattle.c_syntax.specs.Statements as s
use Rattle.c_syntax.specs.Words.{Words, specifiers_words, declarator_words, external_words, externals_words, unit_words}
use Rattle.c_syntax.specs.Formed.{is_empty, has_typedef, names_after, names_after_external, BeginDeclaration}
use Rattle.c_syntax.specs.Formed.{IsDeclared, IsExternal, AreExternals, IsWellFormed, SIZE_T}
use Rattle.c_grammar.specs.UnitReader.{definition_from, external_behind, external_from, externals_from, unit_from}
use Rattle.c_grammar.proofs.Inversion.{Gives, gives_ok, gives_err, gives_bind, gives_map, gives_if}
use Rattle.c_grammar.proofs.SoundDeclarations.{beginning_gives, declared_gives, bare_declaration_gives}
use Rattle.c_grammar.proofs.SoundDeclarations.{declaration_behind_gives}
use Rattle.c_grammar.proofs.SoundStatements.{sound_statements}

module _ (levels : ℕ) where
  -- the words i are those of a function definition or declaration and then r
  record FoundExternal (names : List (List ℕ)) (i : Words) (x : External) (r : Words) : Type 0 where
    formed : IsExternal levels names x
    same : i ≡ external_words x r

  definition_gives : (names : List (List ℕ)) (z : Specifiers) (d : Declarator) (i : Words)
      → BeginDeclaration levels names z → IsDeclared levels names d
      → Gives (definition_from levels names z d i) (FoundExternal names (specifiers_words z (declarator_words d i)))
  unfolding definition_from
  definition_gives names z d i beginning first = gives_if
      (λ c. gives_bind ((sound_statements levels (names_after (has_typedef z) d names) (suc levels)).block i) λ b r f.
      gives_ok (s.definition z d b) r (record {
        formed = (beginning, first, c, omega (arith, f.low), f.formed);
        same = ap (λ i. specifiers_words z (declarator_words d i)) f.same;
      }))
      (λ _. gives_err i)

  behind_gives : (names : List (List ℕ)) (z : Specifiers) (d : Declarator) (i : Words) → BeginDeclaration levels names z
      → IsDeclared levels names d
      → Gives (external_behind levels names z d i) (FoundExternal names (specifiers_words z (declarator_words d i)))
  unfolding external_behind
  behind_gives names z d i beginning first = gives_if
      (λ _. definition_gives names z d i beginning first)
      (λ _. gives_bind (declaration_behind_gives levels names z d i beginning first) λ x r f.
      gives_ok (s.declaration x) r (record { formed = f.formed; same = f.same }))

  external_gives : (names : List (List ℕ)) (i : Words) → Gives (external_from levels names i) (FoundExternal names i)
  unfolding external_from
  external_gives names i = gives_bind (beginning_gives levels names true i) λ z j f. gives_if
      (λ _. gives_bind (bare_declaration_gives levels names z j f.formed) λ x r g.
      gives_ok (s.declaration x) r (record { formed = g.formed; same = f.same ∙ g.same }))
      (λ _. gives_bind (declared_gives levels names j) λ d k g.
      gives_map (behind_gives names z d k f.formed g.formed) λ x r h.
      record { formed = h.formed; same = f.same ∙ ap (λ i. specifiers_words z i) g.same ∙ h.same })

  -- the words i are those of function definitions and declarations; none is left
  record FoundExternals (names : List (List ℕ)) (i : Words) (z : List External) (r : Words) : Type 0 where
    some : is_empty i ≡ false → is_empty z ≡ false
    ended : r ≡ []
    formed : AreExternals levels names z
    same : i ≡ externals_words z []

  externals_gives : (n : ℕ) (names : List (List ℕ)) (i : Words)
      → Gives (externals_from levels n names i) (FoundExternals names i)
  unfolding externals_from
  externals_gives n names [] = gives_ok [] []
      (record { some = λ h. absurd (true≢false h); ended = refl; formed = tt; same = refl })
  externals_gives zero names (first ∷ i) = gives_err (first ∷ i)
  externals_gives (suc n) names (first ∷ i) = gives_bind (external_gives names (first ∷ i)) λ x j f.
      gives_bind (externals_gives n (names_after_external x names) j) λ z r g.
      gives_ok (x ∷ z) r (record {
        some = λ _. refl;
        ended = g.ended;
        formed = (f.formed, g.formed);
        same =
            f.same ∙ ap (λ i. external_words x i) g.same;
      })

-- the words i are those of a file, and none is left
pub record FoundUnit (i : Words) (u : Unit) (r : Words) : Type 0 where
  pub ended : r ≡ []
  pub formed : IsWellFormed u
  pub same : unit_words u ≡ i

unit_gives : (i : Words) → Gives (unit_from i) (FoundUnit i)
unfolding unit_from
unit_gives [] = gives_bind (gives_err []) λ z r f. gives_ok (record { externals = z }) r f
unit_gives (first ∷ i) = gives_bind (externals_gives 200 (length (first ∷ i)) (SIZE_T ∷ []) (first ∷ i)) λ z r f.
    gives_ok (record { externals = z }) r (record {
      ended = f.ended;
      formed = (f.some refl, f.formed);
      same =
          sym f.same;
    })

pub unit_sound : (i : Words) (u : Unit) (r : Words) → unit_from i ≡ Ok (u, r) → FoundUnit i u r
unit_sound i u r h = (unit_gives i).given u r h
