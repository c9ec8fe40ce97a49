use Rattle.std.proofs.Common.{Some, map, sym, ap, ◌∙◌, subst}
use Rattle.c_tree.specs.Statements.{of_object}
use Rattle.c_tree.specs.View.{initializer_of, part_of}
use Rattle.program_lowering.specs.StatementParts.Code.{InitializerCode}
use Rattle.program_lowering.proofs.StatementParts.InitializerParts.{initializer_plain, initializer_object}
use Rattle.program_lowering.proofs.parts.initializer.initial.Goals as goal

pub returns-in_ok-first-in-Plain : goal.returns-in_ok-first-in-Plain
returns-in_ok-first-in-Plain c =
    subst (λ i. InitializerCode c.args.code.now c.expression.new.self c.args.variable
    (Some i) c.in_ok-first-in-Plain.first
    c.args.next)
    (sym (ap initializer_of c.in-Plain.is)) (initializer_plain c.in_ok-set-in-Plain.ensures
    c.in_ok-first-in-Plain.ensures)

pub returns-in_ok-zero-in-Object : goal.returns-in_ok-zero-in-Object
returns-in_ok-zero-in-Object c =
    let same = sym (ap (λ l. of_object (map part_of l)) c.as_slice.ensures) in
    subst (λ i. InitializerCode c.args.code.now c.add-in-Object.new.self c.args.variable (Some i)
    c.in_ok-zero-in-Object.zero c.args.next)
    (sym (ap initializer_of c.in-Object.is ∙ same))
    (initializer_object c.in_ok-first-in-Object.ensures c.in_ok-zero-in-Object.ensures)
