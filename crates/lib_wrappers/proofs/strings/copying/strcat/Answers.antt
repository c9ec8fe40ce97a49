use Rattle.std.proofs.Common.{[], ◌∷◌, ◌+◌, ◌++◌, refl, sym, ◌∙◌, subst}
use Rattle.lib_wrappers.proofs.Shapes.{strcat_shape}
use Rattle.std.proofs.lemmas.Result.{IfOk-weaker}
use Rattle.source_meaning.specs.Strings.{strcat as strcat_of}
use Rattle.source_meaning.specs.Library.{argument}
use Rattle.flat_actions.specs.Actions.{IsAction, Pointer, runtime_basis}
use Rattle.flat_actions.specs.Lists.{give_code}
use Rattle.lib_wrappers.specs.StringRoutines.Copying.{size_code}
use Rattle.flat_actions.proofs.ByParts.{joined_are}
use Rattle.lib_wrappers.proofs.StringRoutines.CopyActs.{strcat_acts}
use Rattle.lib_wrappers.proofs.strings.copying.strcat.Goals as goal

pub returns-clause-does : goal.returns-clause-does
returns-clause-does g c =
    let a = c.args in
    let basis = runtime_basis a.map.now g.S.ShadowForm.entry (g.S.ShadowForm.IsGood a.map.now) in
    let q = c.in_ok-copy.ensures.does in
    let first = c.in_ok-first.first.items in
    let copy = q.scanning ++ (size_code (a.scratch + 1 + 1) a.from.value (a.scratch + 1) ++ (q.judging ++ q.moving)) in
    let give = give_code a.to a.into in
    IfOk-weaker _ _ _
    (λ r e. subst (IsAction basis (λ vs. strcat_of (argument 0 vs) (argument 1 vs) a.line)
    (Pointer a.to ∷ Pointer a.from ∷ []) (Pointer a.into) a.scratch 65 8)
    (sym (joined_are _ _ _ (first ++ copy) give e
    (c.deref-3.ensures.value ∙ joined_are _ _ _ first copy c.in_ok-both.ensures c.deref.ensures.value
    (c.deref-2.ensures.value ∙ q.items_are))
    (c.deref-4.ensures.value ∙ c.in_ok-give.ensures)))
    (strcat_acts basis refl c.requires.map (λ m m' keep good. c.entries_are_local.ensures a.map.now m m' c.requires.map
    keep good) a.to a.from a.into a.line a.scratch c.requires.to c.requires.from c.requires.into c.requires.distinct
    c.requires.others first q.scanning q.judging q.moving c.in_ok-first.ensures.does q.scans q.judges q.moves))
    c.joined-2.ensures

pub returns-clause-shape : goal.returns-clause-shape
returns-clause-shape g c =
    let a = c.args in
    IfOk-weaker _ _ _
    (λ r e. strcat_shape a.to a.into a.scratch c.requires.to c.requires.into
    (joined_are _ _ _ _ _ e
    (c.deref-3.ensures.value ∙ joined_are _ _ _ _ _ c.in_ok-both.ensures c.deref.ensures.value c.deref-2.ensures.value)
    (c.deref-4.ensures.value ∙ c.in_ok-give.ensures)) c.in_ok-first.ensures.shape c.in_ok-copy.ensures.shape)
    c.joined-2.ensures
