use Rattle.std.proofs.Common.{sym, ◌∙◌, ap, set}
use Rattle.std.specs.List.{position_from}
use Rattle.sb_outside.proofs.Held.{named, holding, set_is_written, none_is_written, place_is_held, no_place_is_held}
use Rattle.sb_outside.proofs.memory_files.put_into.Goals as goal

pub returns-in-Some-clause-files : goal.returns-in-Some-clause-files
returns-in-Some-clause-files c =
    let fs = c.args.files.now.items in
    let name = c.args.name.now in
    let bytes = c.args.bytes.now in
    let at = c.in-Some.at in
    let file = c.index_mut-file.result.now in
    ap (set fs at) (c.put.ensures ∙ ap (holding bytes) c.index_mut-file.ensures.value)
    ∙ set_is_written at fs name bytes file
    (ap (position_from (named name) 0) (sym c.deref.ensures.value) ∙ sym c.in-Some.ensures.place)

pub returns-in-Some-clause-there : goal.returns-in-Some-clause-there
returns-in-Some-clause-there c = sym
    (place_is_held c.in-Some.at c.args.files.now.items c.args.name.now c.index_mut-file.result.now
    (ap (position_from (named c.args.name.now) 0) (sym c.deref.ensures.value) ∙ sym c.in-Some.ensures.place))

pub returns-in-None-clause-files : goal.returns-in-None-clause-files
returns-in-None-clause-files c = none_is_written c.args.files.now.items c.args.name.now c.args.bytes.now
    (ap (position_from (named c.args.name.now) 0) (sym c.deref.ensures.value) ∙ sym c.in-None.ensures.place)

pub returns-in-None-clause-there : goal.returns-in-None-clause-there
returns-in-None-clause-there c = sym
    (no_place_is_held c.args.files.now.items c.args.name.now
    (ap (position_from (named c.args.name.now) 0) (sym c.deref.ensures.value) ∙ sym c.in-None.ensures.place))
