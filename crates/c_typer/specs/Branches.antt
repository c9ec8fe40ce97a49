-- `if` with an `else` (C99 6.8.4.1) in two steps: up to the `else`, and behind it.
use Rattle.std.specs.Prelude.{ℕ, Ok, Err}
use Rattle.c_syntax.specs.Tree.{Expression}
use Rattle.c_tree.specs.declared.expression.Expression as code_expression
use Rattle.c_tree.specs.declared.statement.Statement as code
use Rattle.c_tree.specs.Statements.{Statement, if_else}
use Rattle.c_tree.specs.Tree as typed_tree
use Rattle.c_tree.specs.View.{expression_of, statement_of}
use Rattle.c_faults.specs.Answer.{Answer, ◌>>=◌}
use Rattle.c_unit_typing.specs.Constructs.{controlling, scope_closed, scope_opened}
use Rattle.c_unit_typing.specs.Files.{File, FileTyping, finished, in_state, ◌~>◌}

abbrev pub branch_of : code_expression.Expression × code.Statement → typed_tree.Expression × Statement
branch_of b = (expression_of b.0, statement_of b.1)

abbrev pub closing : Answer (File × Statement) → Answer (File × Statement)
closing o = o >>= λ r. Ok (scope_closed r.0, r.1)

-- the condition and the first statement, in the scope of the `if`
abbrev pub branch : (line : ℕ) → Expression → (body : FileTyping Statement)
    → FileTyping (typed_tree.Expression × Statement)
branch line e body f = (in_state (controlling line e) ~> λ c. body ~> λ s. finished (c, s)) (scope_opened f)

-- the second statement, and the end of that scope
abbrev pub otherwise : (other : FileTyping Statement) → typed_tree.Expression → Statement → FileTyping Statement
otherwise other c s f = closing ((other ~> λ o. finished (if_else c s o)) f)

abbrev pub with_else : (other : FileTyping Statement) → Answer (File × (typed_tree.Expression × Statement))
    → Answer (File × Statement)
with_else other (Ok r) = otherwise other r.1.0 r.1.1 r.0
with_else other (Err f) = Err f
