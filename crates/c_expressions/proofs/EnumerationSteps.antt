-- An enumeration behind its tag (C99 6.7.2.2).
use Rattle.std.proofs.Common.{◌≡◌, ℕ, List, length, Ok, Option, refl}
use Rattle.c_lexer.specs.declared.punctuator.Punctuator.TheVariants as p
use Rattle.c_syntax.specs.declared.position.Position.{Position}
use Rattle.c_syntax.specs.declared.position.Spelled.{Spelled}
use Rattle.c_syntax.specs.Tree.{Enumerator}
use Rattle.c_syntax.specs.Tree as t
use Rattle.c_syntax.specs.View.{more_enumerators_of}
use Rattle.c_syntax.specs.Words.{Words}
use Rattle.c_grammar.specs.Reader.{expect, behind_commas_to_brace}
use Rattle.c_grammar.specs.Readers.{Readers}
use Rattle.c_grammar.specs.SpecifierReader.{enumerator_from, enumeration_body_from}

pub enumeration_read : (names : List (List ℕ)) (deeper : Readers) (levels : ℕ) (at : Position) (tag : Option Spelled)
    (i i1 i2 i3 i4 : Words) (l r : Position)
    (e : Enumerator) (m : List (Position × Enumerator) × Option Position) → expect p.LeftBrace i ≡ Ok (l, i1)
    → enumerator_from names deeper levels i1 ≡ Ok (e, i2)
    → behind_commas_to_brace (enumerator_from names deeper levels) (length i2) i2 ≡ Ok (m, i3)
    → expect p.RightBrace i3 ≡ Ok (r, i4)
    → enumeration_body_from names deeper levels at tag i
    ≡ Ok (t.enumeration_body at tag l e (more_enumerators_of m.0) m.1 r, i4)
unfolding enumeration_body_from
enumeration_read names deeper levels at tag i i1 i2 i3 i4 l r e m left one others right =
    rw (left, one, others, right) refl
