-- What is read is well formed, has fewer levels than the number, and has the words that were read.
use Rattle.std.proofs.Common.{ℕ, zero, suc, List}
use Rattle.c_grammar.specs.Readers.{Readers}
use Rattle.c_grammar.specs.Nested.{step, readers}
use Rattle.c_grammar.proofs.Known.{SoundReaders}
use Rattle.c_grammar.proofs.Inversion.{no_err}
use Rattle.c_grammar.proofs.SoundExpressions.{expression_gives}
use Rattle.c_grammar.proofs.SoundSpecifiers.{specifiers_gives}
use Rattle.c_grammar.proofs.SoundDeclarators.{declarator_gives}

-- from the readers of fewer levels to those of one more
step_sound : (names : List (List ℕ)) (levels : ℕ) (deeper : Readers) → SoundReaders names levels deeper
    → SoundReaders names (suc levels) (step names deeper levels)
step_sound names levels deeper known = record {
  expressions = λ opened m i e r low h. (expression_gives names levels deeper known opened m i low).given e r h;
  specifiers = λ allowed i z r h. (specifiers_gives names levels deeper known allowed i).given z r h;
  declarators = λ d i e r h. (declarator_gives names levels deeper known d i).given e r h;
}

pub sound : (names : List (List ℕ)) (n : ℕ) → SoundReaders names n (readers names n)
unfolding readers
sound names zero = record {
  expressions = λ opened m i e r low h. no_err i (e, r) h;
  specifiers = λ allowed i z r h. no_err i (z, r) h;
  declarators = λ d i e r h. no_err i (e, r) h;
}
sound names (suc n) = step_sound names n (readers names n) (sound names n)
