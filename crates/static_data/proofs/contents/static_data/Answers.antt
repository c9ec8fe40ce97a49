use Rattle.std.proofs.Common.{ap, ◌∙◌, map}
use Rattle.std.specs.List.{list_all}
use Rattle.c_tree.specs.View.{program_of, static_of}
use Rattle.c_const.specs.Contents.{is_laid_out}
use Rattle.static_data.proofs.Constancy.{pointers_constant}
use Rattle.static_data.proofs.Laying.{all_laid}
use Rattle.static_data.proofs.Placing.{program_pointers_are, data_from}
use Rattle.static_data.proofs.contents.static_data.Goals as goal

pub all_data-requires-clause-laid : goal.all_data-requires-clause-laid
all_data-requires-clause-laid c =
    ap (λ l. list_all is_laid_out (map static_of l)) c.as_slice-objects.ensures
    ∙ all_laid (program_of c.args.program.now) c.requires.valid

pub all_data-requires-clause-constant : goal.all_data-requires-clause-constant
all_data-requires-clause-constant c =
    pointers_constant c.args.program.now _ c.as_slice-objects.result.now c.as_slice-objects.ensures
    (program_pointers_are c.args.program.now c.as_slice-objects.result.now c.as_slice.result.now _ _
    c.as_slice-objects.ensures c.as_slice.ensures (c.deref.ensures.value ∙ c.in_ok-statics.ensures)
    (c.deref-2.ensures.value ∙ c.in_ok-functions.ensures)) c.requires.constant

pub returns : goal.returns
returns c =
    let ps = program_pointers_are c.args.program.now c.as_slice-objects.result.now c.as_slice.result.now _ _
    c.as_slice-objects.ensures c.as_slice.ensures (c.deref.ensures.value ∙ c.in_ok-statics.ensures)
    (c.deref-2.ensures.value ∙ c.in_ok-functions.ensures) in
    data_from c.args.program.now c.as_slice-objects.result.now c.requires.small c.as_slice-objects.ensures ps
    c.in_ok-data.ensures c.from_vec.ensures
