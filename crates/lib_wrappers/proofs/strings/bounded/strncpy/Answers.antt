use Rattle.std.proofs.Common.{[], ◌∷◌, ◌+◌, ◌++◌, refl, sym, ap, ◌∙◌, subst}
use Rattle.lib_wrappers.proofs.Shapes.{strncpy_shape}
use Rattle.std.proofs.lemmas.Result.{IfOk-weaker}
use Rattle.source_meaning.specs.Strings.{strncpy as strncpy_of}
use Rattle.source_meaning.specs.Library.{argument}
use Rattle.flat_actions.specs.Actions.{IsAction, Pointer, Word, runtime_basis}
use Rattle.flat_actions.specs.Lists.{guarded_code}
use Rattle.lib_wrappers.specs.StringRoutines.Copying.{count_code, tail_code}
use Rattle.lib_wrappers.proofs.StringRoutines.BoundedActs.{strncpy_acts}
use Rattle.flat_actions.proofs.ByParts.{joined_are}
use Rattle.lib_wrappers.proofs.strings.bounded.strncpy.Goals as goal

pub returns-clause-does : goal.returns-clause-does
returns-clause-does g c =
    let a = c.args in
    let h = a.copy in
    let t = a.scratch in
    let basis = runtime_basis a.map.now g.S.ShadowForm.entry (g.S.ShadowForm.IsGood a.map.now) in
    let q = c.in_ok-writing.ensures.does in
    let scanned = c.in_ok-scanned.scanned.items in
    let judging = c.in_ok-judging.judging.items in
    let writing = count_code (t + 1) h.from.value t
    ++ (q.moving ++ (tail_code h.to.value h.size (t + 1) (t + 2) (t + 3) ++ q.filling)) in
    let rest = joined_are _ _ _ judging writing c.in_ok-rest.ensures c.deref.ensures.value
    (c.deref-2.ensures.value ∙ q.items_are) in
    let act = joined_are _ _ _ scanned (judging ++ writing) c.in_ok-act.ensures c.deref-3.ensures.value
    (c.deref-4.ensures.value ∙ rest) in
    IfOk-weaker _ _ _
    (λ r e. subst (IsAction basis (λ vs. strncpy_of (argument 0 vs) (argument 1 vs) (argument 2 vs) a.line)
    (Pointer h.to ∷ Pointer h.from ∷ Word h.size ∷ []) (Pointer h.into) t 60 8)
    (sym (e ∙ ap (guarded_code h.size h.to h.into) (c.deref-5.ensures.value ∙ act)))
    (strncpy_acts basis refl c.requires.map (λ m m' keep good. c.entries_are_local.ensures a.map.now m m'
    c.requires.map
    keep good) h.to h.from h.size h.into a.line t c.requires.to c.requires.from c.requires.size c.requires.into
    c.requires.distinct c.requires.others scanned judging q.moving q.filling c.in_ok-scanned.ensures.does
    c.in_ok-judging.ensures.does q.moves q.fills))
    c.guarded.ensures

pub returns-clause-shape : goal.returns-clause-shape
returns-clause-shape g c =
    let a = c.args in
    let h = a.copy in
    IfOk-weaker _ _ _
    (λ r e. strncpy_shape h.size a.scratch h.to h.into c.requires.size c.requires.to c.requires.into
    (e ∙ ap (guarded_code h.size h.to h.into) (c.deref-5.ensures.value
    ∙ joined_are _ _ _ _ _ c.in_ok-act.ensures c.deref-3.ensures.value
    (c.deref-4.ensures.value ∙ joined_are _ _ _ _ _ c.in_ok-rest.ensures c.deref.ensures.value c.deref-2.ensures.value)))
    c.in_ok-scanned.ensures.shape c.in_ok-judging.ensures.shape c.in_ok-writing.ensures.shape) c.guarded.ensures
