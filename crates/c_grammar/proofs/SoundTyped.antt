-- What the readers of fewer levels give, and with them a type name or a parameter.
use Rattle.std.proofs.Common.{◌≡◌, ℕ, ◌<◌, Bool, false, List, Option, None, refl, arith}
use Rattle.c_syntax.specs.declared.position.Position.{Position}
use Rattle.c_syntax.specs.Tree.{TypedDeclarator}
use Rattle.c_syntax.specs.Tree as t
use Rattle.c_syntax.specs.Levels.{typed_levels}
use Rattle.c_syntax.specs.Words.{Words, typed_words}
use Rattle.c_syntax.specs.Formed.{IsTypeName, IsParameter}
use Rattle.c_grammar.specs.Readers.{Readers, may_have_name, typed_from}
use Rattle.c_grammar.specs.declared.declarator_kind.DeclaratorKind.{DeclaratorKind}
use Rattle.c_grammar.proofs.Known.{SoundReaders, FoundExpression, FoundSpecifiers, FoundDeclarator, with_opened}
use Rattle.c_grammar.proofs.Inversion.{Gives, gives_ok, gives_bind}

-- the words i are those of a parameter, or of a type name where no name may stand, and then r
pub record FoundTyped (names : List (List ℕ)) (n : ℕ) (d : DeclaratorKind) (i : Words) (x : TypedDeclarator)
    (r : Words) : Type 0 where
  pub parameter : IsParameter names x
  pub type_name : may_have_name d ≡ false → IsTypeName names x
  pub low : typed_levels x < n
  pub same : i ≡ typed_words x r

module _ (names : List (List ℕ)) (n : ℕ) (deeper : Readers) (known : SoundReaders names n deeper) where
  pub opened_part : (opened : Option Position) (m : ℕ) (i : Words) → m < 16
      → Gives (deeper.expression opened m i) (FoundExpression names n m (with_opened opened i))
  opened_part opened m i low = record { given = λ e r h. known.expressions opened m i e r low h }

  pub expression_part : (m : ℕ) (i : Words) → m < 16 → Gives (deeper.expression None m i) (FoundExpression names n m i)
  expression_part m i low = opened_part None m i low

  pub specifiers_part : (allowed : Bool) (i : Words) → Gives (deeper.specifiers allowed i)
      (FoundSpecifiers names n allowed i)
  specifiers_part allowed i = record { given = λ z r h. known.specifiers allowed i z r h }

  pub declarator_part : (d : DeclaratorKind) (i : Words) → Gives (deeper.declarator d i) (FoundDeclarator names n d i)
  declarator_part d i = record { given = λ e r h. known.declarators d i e r h }

  pub typed_gives : (d : DeclaratorKind) (i : Words) → Gives (typed_from deeper d i) (FoundTyped names n d i)
  unfolding typed_from
  typed_gives d i = gives_bind (specifiers_part false i) λ z j f. gives_bind (declarator_part d j) λ e r g.
      gives_ok (t.typed z e) r (record {
        parameter = (f.one_type, f.each, f.no_typedef refl, g.formed);
        type_name = λ a. (f.one_type, f.each, f.no_typedef refl, g.formed, g.fits.0 a);
        low = omega (arith, f.low, g.low);
        same = rw (f.same, g.same) refl;
      })
