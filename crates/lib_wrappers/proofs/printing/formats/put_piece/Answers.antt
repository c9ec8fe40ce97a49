use Rattle.std.proofs.Common.{◌+◌, ◌++◌, sym, ◌∙◌, subst}
use Rattle.flat_actions.proofs.ByParts.{joined_are}
use Rattle.lib_wrappers.specs.PrintingRoutines.Formats.{count_string}
use Rattle.lib_wrappers.specs.PrintingRoutines.Printed.{PutsNext}
use Rattle.lib_wrappers.proofs.PrintingRoutines.Steps.{puts_number, puts_string, joined_parts}
use Rattle.lib_wrappers.proofs.printing.formats.put_piece.Goals as goal

pub returns-in_ok-extend_from_slice-in-Number : goal.returns-in_ok-extend_from_slice-in-Number
returns-in_ok-extend_from_slice-in-Number c =
    let a = c.args in
    let new = c.extend_from_slice.new.self.items in
    let part = c.in_ok-part-in-Number.part.items in
    subst (λ p. PutsNext a.map.now a.scratch a.own p a.index a.code.now.items new) (sym c.in-Number.is)
    (puts_number a.map.now a.scratch a.own a.index a.code.now.items new c.in-Number.directive c.in-Number.value part
    (joined_parts a.code.now.items _ part new c.in_ok-extend_from_slice-in-Number.ensures.items c.deref.ensures.value)
    c.in_ok-part-in-Number.ensures.does)

pub returns-in_ok-extend_from_slice-in-String : goal.returns-in_ok-extend_from_slice-in-String
returns-in_ok-extend_from_slice-in-String c =
    let a = c.args in
    let new = c.extend_from_slice-in-String.new.self.items in
    let h = c.in-String.string in
    let put = c.in_ok-put-in-String.put.items in
    let count = count_string h (a.scratch + 1 + a.index) a.scratch a.own in
    let counted = c.deref-in-String-2.ensures.value ∙ c.in_ok-count-in-String.ensures in
    subst (λ p. PutsNext a.map.now a.scratch a.own p a.index a.code.now.items new) (sym c.in-String.is)
    (puts_string a.map.now a.scratch a.own a.index a.code.now.items new h put
    (joined_parts a.code.now.items _ (put ++ count) new c.in_ok-extend_from_slice-in-String.ensures.items
    (c.deref-in-String-3.ensures.value
    ∙ joined_are _ _ _ put count c.in_ok-part-in-String.ensures c.deref-in-String.ensures.value counted))
    c.in_ok-put-in-String.ensures.does)
