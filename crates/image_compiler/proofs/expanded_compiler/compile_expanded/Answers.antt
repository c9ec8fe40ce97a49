use Rattle.std.proofs.Common.{subst}
use Rattle.addr_map.specs.Places.{AreMapped}
use Rattle.c_tree.specs.View.{program_of}
use Rattle.image_laws.specs.Images.Images.{sizes_of}
use Rattle.image_compiler.proofs.ExpandedPrograms.{map_is, sound_statics, built_program, checks_program, does_program}
use Rattle.image_compiler.proofs.expanded_compiler.compile_expanded.Goals as goal

pub built_of-requires-clause-statics : goal.built_of-requires-clause-statics
built_of-requires-clause-statics g c =
    let p = program_of c.args.program.now in
    let budgets = c.args.budgets.now in
    let t = c.in_ok-lowered.lowered in
    let m = c.in_ok-map.map in
    let same = map_is p budgets t m c.in_ok-lowered.ensures.code c.in_ok-map.ensures in
    let mapped = subst AreMapped same c.sizes_are_in_range.ensures in
    sound_statics p budgets t c.in_ok-lowered.ensures.code m same
    (c.static_objects_are_sound_and_in_their_region.ensures.sound p budgets mapped c.requires.valid)
    (c.static_objects_are_sound_and_in_their_region.ensures.region p budgets mapped c.requires.valid)

pub returns-clause-built : goal.returns-clause-built
returns-clause-built g c =
    let p = program_of c.args.program.now in
    let budgets = c.args.budgets.now in
    let t = c.in_ok-lowered.lowered in
    let m = c.in_ok-map.map in
    let same = map_is p budgets t m c.in_ok-lowered.ensures.code c.in_ok-map.ensures in
    built_program g.S.ShadowForm.entry_read g.S.ShadowForm.entry_write g.S.ShadowForm.entry g.S.ShadowForm.IsGood p t m
    (sizes_of p budgets) c.in_ok-lowered.ensures.code c.in_ok-lowered.ensures.weighed c.in_ok-lowered.ensures.bodies
    c.in_ok-lowered.ensures.checks same c.built_of.result c.built_of.ensures.built

pub returns-clause-checks : goal.returns-clause-checks
returns-clause-checks g c =
    checks_program (program_of c.args.program.now) c.in_ok-lowered.lowered c.built_of.result
    c.in_ok-lowered.ensures.checks c.built_of.ensures.checks

pub returns-clause-does : goal.returns-clause-does
returns-clause-does g c =
    let p = program_of c.args.program.now in
    let budgets = c.args.budgets.now in
    let t = c.in_ok-lowered.lowered in
    let m = c.in_ok-map.map in
    let same = map_is p budgets t m c.in_ok-lowered.ensures.code c.in_ok-map.ensures in
    let mapped = subst AreMapped same c.sizes_are_in_range.ensures in
    does_program g.S.ShadowForm.entry_read g.S.ShadowForm.entry_write g.S.ShadowForm.entry
    (g.S.ShadowForm.IsGood (sizes_of p budgets)) p budgets c.built_of.result
    (c.images_of_expansions_do_what_is_meant.ensures p budgets c.requires.valid c.requires.few mapped)
    (built_program g.S.ShadowForm.entry_read g.S.ShadowForm.entry_write g.S.ShadowForm.entry g.S.ShadowForm.IsGood p t m
    (sizes_of p budgets) c.in_ok-lowered.ensures.code c.in_ok-lowered.ensures.weighed c.in_ok-lowered.ensures.bodies
    c.in_ok-lowered.ensures.checks same c.built_of.result c.built_of.ensures.built)
