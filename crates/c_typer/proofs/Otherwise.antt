-- Both steps of an `if` with an `else`.
use Rattle.std.proofs.Common.{◌≡◌, ℕ, Ok, Err, Result, refl, subst}
use Rattle.c_syntax.specs.Tree.{Expression}
use Rattle.c_tree.specs.declared.statement.Statement as code
use Rattle.c_tree.specs.Statements.{Statement, if_else}
use Rattle.c_tree.specs.Tree as typed_tree
use Rattle.c_tree.specs.View.{statement_of}
use Rattle.c_faults.specs.declared.fault.Refusal.{Refusal}
use Rattle.c_faults.specs.Answer.{Answer, ◌>>=◌}
use Rattle.c_programs.specs.FileState.{FileTypes}
use Rattle.c_unit_typing.specs.Constructs.{controlling, if_else_typed, scope_opened}
use Rattle.c_unit_typing.specs.Files.{File, FileTyping, finished, in_state, ◌~>◌}
use Rattle.c_typer.specs.Branches.{branch, closing, with_else}

both_steps : (line : ℕ) (e : Expression) (body other : FileTyping Statement) (f : File)
    → with_else other (branch line e body f) ≡ if_else_typed line e body other f
both_steps line e body other f = by (in_state (controlling line e) (scope_opened f))
  where
    behind : (c : typed_tree.Expression) (o : Answer (File × Statement))
        → with_else other (o >>= λ q. finished (c, q.1) q.0)
        ≡ closing (o >>= λ q. (other ~> λ s. finished (if_else c q.1 s)) q.0)
    behind c (Ok q) = refl
    behind c (Err e) = refl

    by : (o : Answer (File × typed_tree.Expression))
        → with_else other (o >>= λ r. (body ~> λ s. finished (r.1, s)) r.0)
        ≡ closing (o >>= λ r. (body ~> λ s. other ~> λ o. finished (if_else r.1 s o)) r.0)
    by (Ok r) = behind r.1 (body r.0)
    by (Err e) = refl

pub steps_typed : (line : ℕ) (e : Expression) (body other : FileTyping Statement) (f new : File)
    (result : Result code.Statement Refusal)
    → FileTypes statement_of new result (with_else other (branch line e body f))
    → FileTypes statement_of new result (if_else_typed line e body other f)
steps_typed line e body other f new result types =
    subst (λ z. FileTypes statement_of new result z) (both_steps line e body other f) types
