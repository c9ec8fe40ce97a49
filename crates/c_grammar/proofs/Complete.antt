-- What has a well-formed tree is read as that tree.
use Rattle.std.proofs.Common.{ℕ, zero, suc, List, arith}
use Rattle.c_grammar.specs.Readers.{Readers}
use Rattle.c_grammar.specs.Nested.{step, readers}
use Rattle.c_grammar.proofs.Known.{CompleteReaders}
use Rattle.c_grammar.proofs.CompleteExpressions.{expression_again, opened_again}
use Rattle.c_grammar.proofs.CompleteSpecifiers.{specifiers_again}
use Rattle.c_grammar.proofs.CompleteDeclarators.{declarator_again}

-- one level more
pub complete_step : (names : List (List ℕ)) (n : ℕ) (deeper : Readers) → CompleteReaders names n deeper
    → CompleteReaders names (suc n) (step names deeper n)
complete_step names n deeper known = record {
  expressions = λ m e r h low small at f. expression_again names n deeper known m e r h (omega arith) small at f;
  opened = λ l m x e r h read. opened_again names n deeper known l m x e r h read;
  specifiers = λ allowed z r is h fits low ends brace. specifiers_again names n deeper known allowed z r is h fits
      (omega arith) ends brace;
  declarators = λ d e r h low fits quiet. declarator_again names n deeper known d e r h (omega arith) fits quiet;
}

-- the readers of what has fewer levels than n read each well-formed tree of so many
pub complete : (names : List (List ℕ)) (n : ℕ) → CompleteReaders names n (readers names n)
unfolding readers
complete names zero = record {
  expressions = λ m e r h low small at f. absurd (omega arith);
  opened = λ l m x e r h read. cc;
  specifiers = λ allowed z r is h fits low ends brace. absurd (omega arith);
  declarators = λ d e r h low fits quiet. absurd (omega arith);
}
complete names (suc n) = complete_step names n (readers names n) (complete names n)
