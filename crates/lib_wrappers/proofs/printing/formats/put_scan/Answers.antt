use Rattle.std.proofs.Common.{◌++◌, sym, ap, ◌∙◌, subst}
use Rattle.flat_actions.specs.Actions.{runtime_basis}
use Rattle.lib_wrappers.specs.PrintingRoutines.Printed.{ScansNext}
use Rattle.lib_wrappers.proofs.PrintingRoutines.Steps.{scans_string}
use Rattle.lib_wrappers.proofs.printing.formats.put_scan.Goals as goal

pub returns-in_ok-extend_from_slice : goal.returns-in_ok-extend_from_slice
returns-in_ok-extend_from_slice g c =
    let a = c.args in
    let basis = runtime_basis a.map.now g.S.ShadowForm.entry (g.S.ShadowForm.IsGood a.map.now) in
    let first = c.in_ok-scanned.scanned.items in
    subst
    (λ p. ScansNext basis a.line a.registers.count a.registers.own p a.index a.code.now.items
    c.extend_from_slice.new.self.items)
    (sym c.in-String.is)
    (scans_string basis a.line a.registers.count a.registers.own c.in-String.string a.index a.code.now.items first
    c.extend_from_slice.new.self.items
    (c.in_ok-extend_from_slice.ensures.items ∙ ap (λ z. a.code.now.items ++ z) c.deref.ensures.value)
    c.in_ok-scanned.ensures.does)
