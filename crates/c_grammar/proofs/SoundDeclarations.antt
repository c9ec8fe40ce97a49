-- What is read as a declaration is a well-formed one with the words that were read (C99 6.7).
use Rattle.std.proofs.Common.{◌≡◌, ℕ, zero, suc, Bool, false, List, [], ◌∷◌, length, Option, Some, None, refl, ap, ◌∙◌}
use Rattle.std.proofs.Common.{arith}
use Rattle.c_lexer.specs.declared.punctuator.Punctuator.TheVariants as p
use Rattle.c_syntax.specs.declared.position.Position.{Position}
use Rattle.c_syntax.specs.Tree.{Specifiers, Declarator, Initializer}
use Rattle.c_syntax.specs.Statements.{InitDeclarator, Declaration}
use Rattle.c_syntax.specs.Words.{Words, punctuator, specifiers_words, declarator_words, initialized_words}
use Rattle.c_syntax.specs.Words.{init_declarator_words, more_init_declarators_words, declaration_words}
use Rattle.c_syntax.specs.Formed.{has_typedef, names_after, BeginDeclaration, IsDeclared, IsInitialized}
use Rattle.c_syntax.specs.Formed.{IsInitDeclarator, AreMoreInitDeclarators, IsDeclaration, IsLocal}
use Rattle.c_grammar.specs.Nested.{readers}
use Rattle.c_grammar.specs.DeclarationReader.{initialized_from, init_declarator_behind, init_declarator_from}
use Rattle.c_grammar.specs.DeclarationReader.{more_init_declarators_from, declaration_behind, bare_declaration_from}
use Rattle.c_grammar.specs.DeclarationReader.{local_from}
use Rattle.c_grammar.specs.declared.declarator_kind.DeclaratorKind.TheVariants as kind
use Rattle.c_grammar.proofs.Inversion.{Gives, gives_ok, gives_bind, gives_map, gives_if, same_positioned, expect_gives}
use Rattle.c_grammar.proofs.SoundTyped.{specifiers_part, declarator_part}
use Rattle.c_grammar.proofs.Sound.{sound}
use Rattle.c_grammar.proofs.SoundInitializers.{initializers_gives}

module _ (levels : ℕ) where
  -- ---- parts of a declaration

  -- the words i are those of specifiers of a declaration and then r
  pub record FoundBeginning (names : List (List ℕ)) (allowed : Bool) (i : Words) (z : Specifiers) (r : Words) : Type 0
    where
      pub formed : BeginDeclaration levels names z
      pub no_typedef : allowed ≡ false → has_typedef z ≡ false
      pub same : i ≡ specifiers_words z r

  pub beginning_gives : (names : List (List ℕ)) (allowed : Bool) (i : Words)
      → Gives ((readers names (suc levels)).specifiers allowed i) (FoundBeginning names allowed i)
  beginning_gives names allowed i = gives_map (specifiers_part names (suc levels) (readers names (suc levels))
      (sound names (suc levels)) allowed i) λ z r f.
      record { formed = (omega (arith, f.low), (f.one_type, f.each)); no_typedef = f.no_typedef; same = f.same }

  -- the words i are those of a declarator of a declaration and then r
  pub record FoundDeclared (names : List (List ℕ)) (i : Words) (d : Declarator) (r : Words) : Type 0 where
    pub formed : IsDeclared levels names d
    pub same : i ≡ declarator_words d r

  pub declared_gives : (names : List (List ℕ)) (i : Words) → Gives
      ((readers names (suc levels)).declarator kind.Named i) (FoundDeclared names i)
  declared_gives names i = gives_map (declarator_part names (suc levels) (readers names (suc levels))
      (sound names (suc levels)) kind.Named i) λ d r f.
      record { formed = (omega (arith, f.low), (f.fits.1 refl, f.formed)); same = f.same }

  -- the words i are those of `=` and an initializer, or none, and then r
  record FoundInitialized (names : List (List ℕ)) (i : Words) (x : Option (Position × Initializer)) (r : Words) : Type 0
    where
      formed : IsInitialized levels names x
      same : i ≡ initialized_words x r

  initialized_gives : (names : List (List ℕ)) (i : Words) → Gives (initialized_from levels names i)
      (FoundInitialized names i)
  unfolding initialized_from
  initialized_gives names i = gives_if
      (λ _. gives_bind (expect_gives p.Assign i) λ at j f. gives_bind (initializers_gives names (suc levels) j) λ v r g.
      gives_ok (Some (at, v)) r (record { formed = (omega (arith, g.low), g.formed); same = rw (f, g.same) refl }))
      (λ _. gives_ok None i (record { formed = tt; same = refl }))

  -- ---- declarators with initializers

  -- the declarator d and the words i are those of a declarator with its initializer and then r
  record FoundBehindDeclarator (is_typedef : Bool) (names : List (List ℕ)) (d : Declarator) (i : Words)
      (x : InitDeclarator) (r : Words) : Type 0 where
    named : x.declarator ≡ d
    formed : IsInitDeclarator levels is_typedef names x
    same : declarator_words d i ≡ init_declarator_words x r

  behind_declarator_gives : (is_typedef : Bool) (names : List (List ℕ)) (d : Declarator) (i : Words)
      → IsDeclared levels names d
      → Gives (init_declarator_behind levels is_typedef names d i) (FoundBehindDeclarator is_typedef names d i)
  unfolding init_declarator_behind
  behind_declarator_gives is_typedef names d i first = gives_bind (initialized_gives (names_after is_typedef d names) i)
      λ v r f.
      gives_ok (record { declarator = d; initializer = v }) r
      (record { named = refl; formed = (first, f.formed); same = ap (λ i. declarator_words d i) f.same })

  -- the words i are those of a declarator with its initializer and then r
  record FoundInitDeclarator (is_typedef : Bool) (names : List (List ℕ)) (i : Words) (x : InitDeclarator) (r : Words) :
      Type 0 where
    formed : IsInitDeclarator levels is_typedef names x
    same : i ≡ init_declarator_words x r

  init_declarator_gives : (is_typedef : Bool) (names : List (List ℕ)) (i : Words)
      → Gives (init_declarator_from levels is_typedef names i) (FoundInitDeclarator is_typedef names i)
  unfolding init_declarator_from
  init_declarator_gives is_typedef names i = gives_bind (declared_gives names i) λ d j f.
      gives_map (behind_declarator_gives is_typedef names d j f.formed) λ x r g.
      record { formed = g.formed; same = f.same ∙ g.same }

  -- the words i are those of declarators behind the first and then r
  record FoundMoreInitDeclarators (is_typedef : Bool) (names : List (List ℕ)) (i : Words)
      (z : List (Position × InitDeclarator)) (r : Words) : Type 0 where
    formed : AreMoreInitDeclarators levels is_typedef names z
    same : i ≡ more_init_declarators_words z r

  more_init_declarators_gives : (is_typedef : Bool) (n : ℕ) (names : List (List ℕ)) (i : Words)
      → Gives (more_init_declarators_from levels is_typedef n names i) (FoundMoreInitDeclarators is_typedef names i)
  unfolding more_init_declarators_from
  more_init_declarators_gives is_typedef zero names i = gives_ok [] i (record { formed = tt; same = refl })
  more_init_declarators_gives is_typedef (suc n) names [] = gives_ok [] [] (record { formed = tt; same = refl })
  more_init_declarators_gives is_typedef (suc n) names (first ∷ i) = gives_if
      (λ c. gives_bind (init_declarator_gives is_typedef names i) λ x j f.
      gives_bind (more_init_declarators_gives is_typedef n (names_after is_typedef x.declarator names) j) λ z r g.
      gives_ok ((first.position, x) ∷ z) r (record {
        formed = (f.formed, g.formed);
        same = same_positioned p.Comma first.kind first.position i c
            ∙ ap (λ i. punctuator p.Comma first.position ∷ i) (f.same ∙ ap (λ i. init_declarator_words x i) g.same);
      }))
      (λ _. gives_ok [] (first ∷ i) (record { formed = tt; same = refl }))

  -- ---- declarations

  -- the specifiers z and the words i are those of a declaration and then r
  pub record FoundBehindSpecifiers (names : List (List ℕ)) (z : Specifiers) (i : Words) (x : Declaration) (r : Words) :
      Type 0 where
    pub begun : x.specifiers ≡ z
    pub formed : IsDeclaration levels names x
    pub same : specifiers_words z i ≡ declaration_words x r

  pub bare_declaration_gives : (names : List (List ℕ)) (z : Specifiers) (i : Words) → BeginDeclaration levels names z
      → Gives (bare_declaration_from levels z i) (FoundBehindSpecifiers names z i)
  unfolding bare_declaration_from
  bare_declaration_gives names z i beginning = gives_bind (expect_gives p.Semicolon i) λ at r f.
      gives_ok (record { specifiers = z; declarators = None; semicolon = at }) r
      (record { begun = refl; formed = (beginning, tt); same = ap (λ i. specifiers_words z i) f })

  pub declaration_behind_gives : (names : List (List ℕ)) (z : Specifiers) (d : Declarator) (i : Words)
      → BeginDeclaration levels names z → IsDeclared levels names d
      → Gives (declaration_behind levels names z d i) (FoundBehindSpecifiers names z (declarator_words d i))
  unfolding declaration_behind
  declaration_behind_gives names z d i beginning first = gives_bind
      (behind_declarator_gives (has_typedef z) names d i first) λ x j f.
      gives_bind (more_init_declarators_gives (has_typedef z) (length j) (names_after (has_typedef z) d names) j)
      λ m s g. gives_bind (expect_gives p.Semicolon s) λ at r h.
      gives_ok (record { specifiers = z; declarators = Some (record { first = x; others = m }); semicolon = at }) r
      (record {
        begun = refl;
        formed = (beginning, (f.formed, rw f.named g.formed));
        same = ap (λ i. specifiers_words z i) (f.same ∙ ap (λ i. init_declarator_words x i)
            (g.same ∙ ap (λ i. more_init_declarators_words m i) h));
      })

  -- the words i are those of a declaration in a function and then r
  pub record FoundLocal (names : List (List ℕ)) (i : Words) (x : Declaration) (r : Words) : Type 0 where
    pub formed : IsLocal levels names x
    pub same : i ≡ declaration_words x r

  pub local_gives : (names : List (List ℕ)) (i : Words) → Gives (local_from levels names i) (FoundLocal names i)
  unfolding local_from
  local_gives names i = gives_bind (beginning_gives names false i) λ z j f. gives_if
      (λ _. gives_map (bare_declaration_gives names z j f.formed) λ x r g.
      found z x (f.no_typedef refl) g.begun g.formed (f.same ∙ g.same))
      (λ _. gives_bind (declared_gives names j) λ d k g. gives_map
      (declaration_behind_gives names z d k f.formed g.formed) λ x r h.
      found z x (f.no_typedef refl) h.begun h.formed (f.same ∙ ap (λ i. specifiers_words z i) g.same ∙ h.same))
    where
      found : {r : Words} (z : Specifiers) (x : Declaration) → has_typedef z ≡ false → x.specifiers ≡ z
          → IsDeclaration levels names x → i ≡ declaration_words x r → FoundLocal names i x r
      found z x no_typedef begun formed same = record {
        formed =
            (ap (λ z. has_typedef z) begun ∙ no_typedef, formed);
        same = same;
      }
