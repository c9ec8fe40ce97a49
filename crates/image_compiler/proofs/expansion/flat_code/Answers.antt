use Rattle.image_compiler.proofs.Expanded.{expanded_flat, runtime_few}
use Rattle.image_compiler.proofs.expansion.flat_code.Goals as goal

pub expand-requires : goal.expand-requires
expand-requires g c =
    runtime_few c.args.map.now g.S.ShadowForm.entry (g.S.ShadowForm.IsGood c.args.map.now) c.in_ok-runtime.runtime.items
    c.in_ok-runtime.ensures

pub returns-in_ok-propagate-in-Ok : goal.returns-in_ok-propagate-in-Ok
returns-in_ok-propagate-in-Ok g c =
    let form = g.S.ShadowForm in
    expanded_flat form.entry_read form.entry_write form.entry (form.IsGood c.args.map.now) c.args.map.now
    c.args.code.now c.in_ok-runtime.runtime.items c.in-Ok.expanded c.in_ok-propagate-in-Ok.field-0
    (c.in_ok-covers_all.ensures.yes c.if-not-branch.false) c.in_ok-runtime.ensures c.in-Ok.ensures.ok
    c.in_ok-propagate-in-Ok.ensures
