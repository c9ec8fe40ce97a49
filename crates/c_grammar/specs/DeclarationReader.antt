-- Reading declarations (C99 6.7).
use Rattle.std.specs.Prelude.{ℕ, zero, suc, Bool, false, if◌then◌else◌, List, [], ◌∷◌, Ok, Option, Some, None, length}
use Rattle.c_lexer.specs.declared.punctuator.Punctuator.TheVariants as p
use Rattle.c_syntax.specs.declared.position.Position.{Position}
use Rattle.c_syntax.specs.Tree.{Specifiers, Declarator, Initializer}
use Rattle.c_syntax.specs.Statements.{InitDeclarator, Declaration}
use Rattle.c_syntax.specs.Words.{Words}
use Rattle.c_syntax.specs.Formed.{has_typedef, names_after}
use Rattle.c_grammar.specs.Reader.{Outcome, ◌>>=◌, is_punctuator, next_is_punctuator, expect}
use Rattle.c_grammar.specs.Nested.{readers}
use Rattle.c_grammar.specs.InitializerReader.{initializers}
use Rattle.c_grammar.specs.declared.declarator_kind.DeclaratorKind.TheVariants as kind

-- how many levels there may be
module _ (levels : ℕ) where
  -- `=` and an initializer, or nothing
  unfoldable pub initialized_from : List (List ℕ) → Words → Outcome (Option (Position × Initializer))
  initialized_from names i =
      if next_is_punctuator p.Assign i
      then (expect p.Assign i >>= λ at i. initializers names (suc levels) i >>= λ v i. Ok (Some (at, v), i))
      else Ok (None, i)

  -- what stands behind a declarator: its name is in force there where it is a typedef's
  unfoldable pub init_declarator_behind : Bool → List (List ℕ) → Declarator → Words → Outcome InitDeclarator
  init_declarator_behind is_typedef names d i =
      initialized_from (names_after is_typedef d names) i >>= λ v i. Ok (record { declarator = d; initializer = v }, i)

  -- C99 6.7
  unfoldable pub init_declarator_from : Bool → List (List ℕ) → Words → Outcome InitDeclarator
  init_declarator_from is_typedef names i =
      (readers names (suc levels)).declarator kind.Named i >>= λ d i. init_declarator_behind is_typedef names d i

  -- the declarators behind the first; the number bounds how many
  unfoldable pub more_init_declarators_from : Bool → ℕ → List (List ℕ) → Words
      → Outcome (List (Position × InitDeclarator))
  more_init_declarators_from is_typedef zero names i = Ok ([], i)
  more_init_declarators_from is_typedef (suc n) names [] = Ok ([], [])
  more_init_declarators_from is_typedef (suc n) names (first ∷ i) =
      if is_punctuator p.Comma first.kind
      then (
      init_declarator_from is_typedef names i >>= λ x i.
      more_init_declarators_from is_typedef n (names_after is_typedef x.declarator names) i
      >>= λ z i. Ok ((first.position, x) ∷ z, i))
      else Ok ([], first ∷ i)

  -- the rest of a declaration behind its first declarator
  unfoldable pub declaration_behind : List (List ℕ) → Specifiers → Declarator → Words → Outcome Declaration
  declaration_behind names z d i =
      init_declarator_behind (has_typedef z) names d i >>= λ x i.
      more_init_declarators_from (has_typedef z) (length i) (names_after (has_typedef z) d names) i >>= λ m i.
      expect p.Semicolon i >>= λ at i. Ok (
        record {
          specifiers = z;
          declarators =
              Some (record { first = x; others = m });
          semicolon = at;
        },
        i,
      )

  -- a declaration without declarators, behind its specifiers
  unfoldable pub bare_declaration_from : Specifiers → Words → Outcome Declaration
  bare_declaration_from z i = expect p.Semicolon i >>= λ at i.
      Ok (record { specifiers = z; declarators = None; semicolon = at }, i)

  -- a declaration in a function, where `typedef` does not stand (C99 6.7)
  unfoldable pub local_from : List (List ℕ) → Words → Outcome Declaration
  local_from names i =
      (readers names (suc levels)).specifiers false i >>= λ z i.
      (if next_is_punctuator p.Semicolon i
      then bare_declaration_from z i
      else ((readers names (suc levels)).declarator kind.Named i >>= λ d i. declaration_behind names z d i))
