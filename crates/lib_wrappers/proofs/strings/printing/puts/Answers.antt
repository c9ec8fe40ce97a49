use Rattle.std.proofs.Common.{[], ◌∷◌, ◌+◌, ◌++◌, refl, sym, ◌∙◌, subst}
use Rattle.lib_wrappers.proofs.Shapes.{puts_shape}
use Rattle.flat_code.proofs.Routines.Shape.{same_shape}
use Rattle.std.proofs.lemmas.Result.{IfOk-weaker}
use Rattle.source_meaning.specs.Printing.{puts as puts_of}
use Rattle.source_meaning.specs.Library.{argument}
use Rattle.flat_actions.specs.Actions.{IsAction, Pointer, Word, runtime_basis}
use Rattle.lib_wrappers.specs.StringRoutines.Putting.{newline_given}
use Rattle.flat_actions.proofs.ByParts.{joined_are}
use Rattle.lib_wrappers.proofs.StringRoutines.PutsActs.{puts_acts}
use Rattle.lib_wrappers.proofs.strings.printing.puts.Goals as goal

pub returns-clause-does : goal.returns-clause-does
returns-clause-does g c =
    let a = c.args in
    let basis = runtime_basis a.map.now g.S.ShadowForm.entry (g.S.ShadowForm.IsGood a.map.now) in
    let scanned = c.in_ok-scanned.scanned.items in
    let put = c.in_ok-put.put.items in
    let newline = newline_given a.into (a.scratch + 1) in
    IfOk-weaker _ _ _
    (λ r e. subst (IsAction basis (λ vs. puts_of (argument 0 vs) a.line) (Pointer a.string ∷ []) (Word a.into)
    a.scratch 21 8)
    (sym (joined_are _ _ _ scanned (put ++ newline) e c.deref-2.ensures.value
    (c.deref-3.ensures.value ∙ joined_are _ _ _ put newline c.in_ok-rest.ensures c.deref.ensures.value refl)))
    (puts_acts basis refl a.string a.into a.line a.scratch c.requires.below scanned put c.in_ok-scanned.ensures.does
    c.in_ok-put.ensures.does))
    c.joined-2.ensures

pub returns-clause-shape : goal.returns-clause-shape
returns-clause-shape g c =
    let a = c.args in
    let scanned = c.in_ok-scanned.scanned.items in
    let put = c.in_ok-put.put.items in
    let newline = newline_given a.into (a.scratch + 1) in
    IfOk-weaker _ _ _
    (λ r e. same_shape
    (joined_are _ _ _ scanned (put ++ newline) e c.deref-2.ensures.value
    (c.deref-3.ensures.value ∙ joined_are _ _ _ put newline c.in_ok-rest.ensures c.deref.ensures.value refl))
    (puts_shape a.into a.scratch scanned put c.requires.below.0 c.in_ok-scanned.ensures.shape c.in_ok-put.ensures.shape))
    c.joined-2.ensures
