use Rattle.std.proofs.Common.{[], ◌∷◌, ◌++◌, refl, ◌∙◌, arith}
use Rattle.std.proofs.lemmas.Result.{IfOk-weaker}
use Rattle.flat_code.specs.declared.instruction.FlatInstruction.TheVariants.{Constant}
use Rattle.flat_actions.proofs.ByParts.{joined_are}
use Rattle.lib_wrappers.specs.PrintingRoutines.Formats.{counted_code}
use Rattle.lib_wrappers.proofs.PrintingRoutines.Steps.{few_arguments, prints_these}
use Rattle.lib_wrappers.proofs.printing.formats.printf.Goals as goal

pub scans-requires-clause-cursors : goal.scans-requires-clause-cursors
scans-requires-clause-cursors g c = omega (arith, few_arguments c.args.printed.now)

pub puts-requires-clause-cursors : goal.puts-requires-clause-cursors
puts-requires-clause-cursors g c = omega (arith, few_arguments c.args.printed.now)

pub returns : goal.returns
returns g c =
    let a = c.args in
    let scanning = c.in_ok-scanning.scanning.items in
    let putting = c.in_ok-putting.putting.items in
    let start = Constant a.scratch 0 ∷ [] in
    let end = counted_code a.into a.scratch in
    let tail = joined_are _ _ _ putting end c.in_ok-tail.ensures c.deref.ensures.value refl in
    let rest = joined_are _ _ _ start (putting ++ end) c.in_ok-rest.ensures refl (c.deref-2.ensures.value ∙ tail) in
    IfOk-weaker _ _ _
    (λ r e. prints_these a.map.now c.requires.map g.S.ShadowForm.entry (g.S.ShadowForm.IsGood a.map.now) a.line
    a.printed.now a.into a.scratch c.requires.result c.requires.printable scanning putting _ c.in_ok-scanning.ensures
    c.in_ok-putting.ensures
    (joined_are _ _ _ scanning (start ++ (putting ++ end)) e c.deref-3.ensures.value (c.deref-4.ensures.value ∙ rest)))
    c.joined-3.ensures
