-- A statement by its first word.
use Rattle.std.proofs.Common.{◌≡◌, ℕ, ◌-◌, ◌≤◌, List, length, get_or, take, drop, sym, ap}
use Rattle.c_syntax.specs.declared.position.Positioned.{Positioned}
use Rattle.c_syntax.specs.Words.{Words}
use Rattle.c_grammar.specs.StatementReader.{StatementReaders, statement_by, statement_at}
use Rattle.c_grammar.proofs.Taking.{first_word}

pub by_first_word : (levels : ℕ) (names : List (List ℕ)) (deeper : StatementReaders) (depth : ℕ) (i : Words)
    (first : Positioned)
    → 1 ≤ length i → first ≡ get_or i 0 first
    → statement_by levels names deeper depth first.kind first.position (take (length i - 1) (drop 1 i))
    ≡ statement_at levels names deeper depth i
unfolding statement_at
by_first_word levels names deeper depth i first some is =
    sym (ap (λ i. statement_at levels names deeper depth i) (first_word i first some is))
