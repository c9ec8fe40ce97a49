use Rattle.std.proofs.Common.{◌≡◌, ◌∙◌, sym, ap, subst}
use Rattle.std.specs.Prelude.{IfErr, IfOk, Ok}
use Rattle.c_syntax.specs.StatementsView.{externals_in, unit_of}
use Rattle.c_tree.specs.View as view
use Rattle.c_faults.specs.Answer.{Fails}
use Rattle.c_programs.specs.FileState.{file_of}
use Rattle.c_unit_typing.specs.Typed.{TypedUnit, a_program}
use Rattle.c_unit_typing.specs.Units.{file_in}
use Rattle.c_typer.specs.Refused.{IsCauseOf, UnlessMemory}
use Rattle.c_typer.proofs.Causes.{cause_of, constant_program, few_nodes, typed_is, valid_program, within_limits_of}
use Rattle.c_typer.proofs.unit.type_unit.Goals as goal

pub returns-in-Ok-clause-typed : goal.returns-in-Ok-clause-typed
returns-in-Ok-clause-typed c =
    let typed = ap (λ z. file_in c.args.end (externals_in z)) (sym c.as_slice.ensures) ∙ c.in-Ok.ensures in
    subst (λ (z : TypedUnit). IfOk c.program_in.result (λ program. z ≡ a_program (view.program_of program)))
    (sym (typed_is c.args.end (unit_of c.args.unit.now) (file_of c.in-Ok.file) typed)) c.program_in.ensures.typed

pub returns-in-Ok-clause-small : goal.returns-in-Ok-clause-small
returns-in-Ok-clause-small c =
    let typed = ap (λ z. file_in c.args.end (externals_in z)) (sym c.as_slice.ensures) ∙ c.in-Ok.ensures in
    few_nodes c.args.end (unit_of c.args.unit.now) c.program_in.result
    (subst (λ (z : TypedUnit). IfOk c.program_in.result (λ program. z ≡ a_program (view.program_of program)))
    (sym (typed_is c.args.end (unit_of c.args.unit.now) (file_of c.in-Ok.file) typed)) c.program_in.ensures.typed)

pub returns-in-Ok-clause-within : goal.returns-in-Ok-clause-within
returns-in-Ok-clause-within c =
    let typed = ap (λ z. file_in c.args.end (externals_in z)) (sym c.as_slice.ensures) ∙ c.in-Ok.ensures in
    within_limits_of c.args.end (unit_of c.args.unit.now) c.program_in.result
    (subst (λ (z : TypedUnit). IfOk c.program_in.result (λ program. z ≡ a_program (view.program_of program)))
    (sym (typed_is c.args.end (unit_of c.args.unit.now) (file_of c.in-Ok.file) typed)) c.program_in.ensures.typed)

pub returns-in-Ok-clause-valid : goal.returns-in-Ok-clause-valid
returns-in-Ok-clause-valid c =
    let typed = ap (λ z. file_in c.args.end (externals_in z)) (sym c.as_slice.ensures) ∙ c.in-Ok.ensures in
    valid_program c.args.end (unit_of c.args.unit.now) c.program_in.result
    (subst (λ (z : TypedUnit). IfOk c.program_in.result (λ program. z ≡ a_program (view.program_of program)))
    (sym (typed_is c.args.end (unit_of c.args.unit.now) (file_of c.in-Ok.file) typed)) c.program_in.ensures.typed)

pub returns-in-Ok-clause-constant : goal.returns-in-Ok-clause-constant
returns-in-Ok-clause-constant c =
    let typed = ap (λ z. file_in c.args.end (externals_in z)) (sym c.as_slice.ensures) ∙ c.in-Ok.ensures in
    constant_program c.args.end (unit_of c.args.unit.now) c.program_in.result
    (subst (λ (z : TypedUnit). IfOk c.program_in.result (λ program. z ≡ a_program (view.program_of program)))
    (sym (typed_is c.args.end (unit_of c.args.unit.now) (file_of c.in-Ok.file) typed)) c.program_in.ensures.typed)

pub returns-in-Ok-clause-refused : goal.returns-in-Ok-clause-refused
returns-in-Ok-clause-refused c =
    let typed = ap (λ z. file_in c.args.end (externals_in z)) (sym c.as_slice.ensures) ∙ c.in-Ok.ensures in
    subst (λ (z : TypedUnit). IfErr c.program_in.result (λ refusal. UnlessMemory refusal (IsCauseOf refusal z)))
    (sym (typed_is c.args.end (unit_of c.args.unit.now) (file_of c.in-Ok.file) typed)) c.program_in.ensures.refused

pub returns-in-Err-clause-refused : goal.returns-in-Err-clause-refused
returns-in-Err-clause-refused c =
    cause_of c.args.end (unit_of c.args.unit.now) c.in-Err.refusal c.refused.result c.refused.ensures
    (subst (λ z. Fails c.in-Err.refusal (file_in c.args.end (externals_in z))) c.as_slice.ensures c.in-Err.ensures)
