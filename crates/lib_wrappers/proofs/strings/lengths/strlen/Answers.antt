use Rattle.std.proofs.Common.{[], ◌∷◌, ◌++◌, sym, ap, ◌∙◌, subst}
use Rattle.lib_wrappers.proofs.Shapes.{strlen_shape}
use Rattle.std.proofs.lemmas.Result.{IfOk-weaker}
use Rattle.source_meaning.specs.Strings.{strlen as strlen_of}
use Rattle.source_meaning.specs.Library.{argument}
use Rattle.flat_actions.specs.Actions.{IsAction, Pointer, Word, runtime_basis}
use Rattle.lib_wrappers.specs.StringRoutines.Scanning.{length_given}
use Rattle.lib_wrappers.proofs.StringRoutines.LengthActs.{strlen_acts}
use Rattle.lib_wrappers.proofs.strings.lengths.strlen.Goals as goal

pub returns-clause-does : goal.returns-clause-does
returns-clause-does g c =
    let a = c.args in
    let basis = runtime_basis a.map.now g.S.ShadowForm.entry (g.S.ShadowForm.IsGood a.map.now) in
    let scanned = c.in_ok-scanned.scanned.items in
    IfOk-weaker _ _ _
    (λ r e. subst (IsAction basis (λ vs. strlen_of (argument 0 vs) a.line) (Pointer a.string ∷ []) (Word a.into)
    a.scratch 17 8)
    (sym (e ∙ ap (λ l. l ++ length_given a.string a.scratch a.into) c.deref.ensures.value))
    (strlen_acts basis a.string a.into a.line a.scratch c.requires.below scanned c.in_ok-scanned.ensures.does))
    c.joined.ensures

pub returns-clause-shape : goal.returns-clause-shape
returns-clause-shape g c =
    let a = c.args in
    IfOk-weaker _ _ _
    (λ r e. strlen_shape a.string a.into a.scratch c.requires.below e c.deref.ensures.value
    c.in_ok-scanned.ensures.shape) c.joined.ensures
