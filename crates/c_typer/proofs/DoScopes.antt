-- A `do` with its scope.
use Rattle.std.proofs.Common.{◌≡◌, ℕ, Result, Ok, Err, sym, subst}
use Rattle.c_syntax.specs.Tree.{Expression}
use Rattle.c_tree.specs.declared.statement.Statement as code
use Rattle.c_tree.specs.Statements.{Statement}
use Rattle.c_tree.specs.View.{statement_of}
use Rattle.c_faults.specs.declared.fault.Refusal.{Refusal}
use Rattle.c_faults.specs.Answer.{Answer, Fails}
use Rattle.c_typing_state.specs.State.{State}
use Rattle.c_programs.specs.FileState.{FileTypes}
use Rattle.c_unit_typing.specs.Constructs.{do_behind, do_typed, scope_closed, scope_opened}
use Rattle.c_unit_typing.specs.Files.{File, FileTyping}
use Rattle.c_typer.proofs.Composing.{scope_fails, scoped}

abbrev pub Behind : (line : ℕ) → Expression → (before : State) → (body_file new : File)
    → (body result : Result code.Statement Refusal) → Type 0
Behind line e before body_file new body result =
    (start : File) (typed : Answer (File × Statement)) → start.state ≡ before
    → FileTypes statement_of body_file body typed → FileTypes statement_of new result (do_behind line e start typed)

pub do_done : (line : ℕ) (e : Expression) (typed : FileTyping Statement) (f opened body_file inner closed : File)
    (before : State) (body : Result code.Statement Refusal) (s : code.Statement) → opened ≡ scope_opened f
    → before ≡ opened.state → Behind line e before body_file inner body (Ok s)
    → FileTypes statement_of body_file body (typed opened) → closed ≡ scope_closed inner
    → do_typed line typed e f ≡ Ok (closed, statement_of s)
do_done line e typed f opened body_file inner closed before body s opening copied behind types closing =
    scoped statement_of (λ f. do_behind line e f (typed f)) f inner closed s
    (subst (λ g. do_behind line e g (typed g) ≡ Ok (inner, statement_of s)) opening
    (behind opened (typed opened) (sym copied) types)) closing

pub do_fails : (line : ℕ) (e : Expression) (typed : FileTyping Statement) (f opened body_file inner : File)
    (before : State) (body : Result code.Statement Refusal) (refusal : Refusal) → opened ≡ scope_opened f
    → before ≡ opened.state → Behind line e before body_file inner body (Err refusal)
    → FileTypes statement_of body_file body (typed opened) → Fails refusal (do_typed line typed e f)
do_fails line e typed f opened body_file inner before body refusal opening copied behind types =
    scope_fails refusal (λ f. do_behind line e f (typed f)) f
    (subst (λ g. Fails refusal (do_behind line e g (typed g))) opening
    (behind opened (typed opened) (sym copied) types))
