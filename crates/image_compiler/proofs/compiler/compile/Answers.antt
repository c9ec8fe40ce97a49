use Rattle.std.proofs.Common.{arith, subst}
use Rattle.sb_base.specs.Budgets.{AreInRange}
use Rattle.addr_map.specs.Places.{MapSizes, AreMapped}
use Rattle.c_tree.specs.View.{program_of}
use Rattle.image_laws.specs.Images.Images.{sizes_of}
use Rattle.image_laws.proofs.Images.Images.{no_bytes}
use Rattle.image_compiler.proofs.Compiled.{sizes_are, expandable, built_result, refused_result, does_result}
use Rattle.image_compiler.proofs.Compiled.{checks_result, nodes_result}
use Rattle.image_compiler.proofs.compiler.compile.Goals as goal

pub lower-requires-clause-small : goal.lower-requires-clause-small
lower-requires-clause-small c =
    let none = no_bytes (program_of c.args.program.now) c.requires.integers in omega (arith, none)

pub built_of-requires-clause-expandable : goal.built_of-requires-clause-expandable
built_of-requires-clause-expandable c =
    let p = program_of c.args.program.now in
    let budgets = c.args.budgets.now in
    let m = c.map_of-map.result in
    let t = c.in_ok-lowered.lowered in
    let same = sizes_are p budgets m c.requires.integers c.map_of-map.ensures in
    let mapped = subst AreMapped same c.sizes_are_in_range.ensures in
    expandable p budgets t m same c.in_ok-lowered.ensures.code
    c.in_ok-lowered.ensures.weighed c.in_ok-lowered.ensures.bodies
    (λ r same small. c.flat_code_is_plannable.ensures p t r m c.requires.valid c.requires.integers
    c.in_ok-lowered.ensures.code same small)
    (c.flat_code_is_encodable.ensures p budgets c.requires.valid c.requires.integers c.requires.parameters mapped)

pub returns-clause-built : goal.returns-clause-built
returns-clause-built c =
    let p = program_of c.args.program.now in
    built_result p c.in_ok-lowered.lowered c.map_of-map.result (sizes_of p c.args.budgets.now) c.built_of.result
    c.in_ok-lowered.ensures.code c.in_ok-lowered.ensures.weighed c.in_ok-lowered.ensures.bodies
    c.in_ok-lowered.ensures.checks
    (sizes_are p c.args.budgets.now c.map_of-map.result c.requires.integers c.map_of-map.ensures)
    c.built_of.ensures.built

pub returns-clause-checks : goal.returns-clause-checks
returns-clause-checks c =
    checks_result (program_of c.args.program.now) c.in_ok-lowered.lowered c.built_of.result
    c.in_ok-lowered.ensures.checks c.built_of.ensures.checks

pub returns-clause-does : goal.returns-clause-does
returns-clause-does c =
    let p = program_of c.args.program.now in
    let budgets = c.args.budgets.now in
    let same = sizes_are p budgets c.map_of-map.result c.requires.integers c.map_of-map.ensures in
    let range : AreInRange budgets = subst (λ (m : MapSizes). AreInRange m.budgets) same
    c.sizes_are_in_range.ensures.budgets in
    does_result p budgets c.built_of.result
    (c.images_do_what_is_meant.ensures p budgets c.requires.valid c.requires.integers c.requires.parameters
    c.requires.few range)
    (built_result p c.in_ok-lowered.lowered c.map_of-map.result (sizes_of p budgets) c.built_of.result
    c.in_ok-lowered.ensures.code c.in_ok-lowered.ensures.weighed
    c.in_ok-lowered.ensures.bodies c.in_ok-lowered.ensures.checks same c.built_of.ensures.built)

pub returns-clause-refused : goal.returns-clause-refused
returns-clause-refused c =
    let p = program_of c.args.program.now in
    refused_result p c.in_ok-lowered.lowered c.map_of-map.result (sizes_of p c.args.budgets.now) c.built_of.result
    c.in_ok-lowered.ensures.code c.in_ok-lowered.ensures.weighed c.in_ok-lowered.ensures.bodies
    (sizes_are p c.args.budgets.now c.map_of-map.result c.requires.integers c.map_of-map.ensures)
    c.built_of.ensures.refused

pub returns-clause-nodes : goal.returns-clause-nodes
returns-clause-nodes c =
    let p = program_of c.args.program.now in
    let t = c.in_ok-lowered.lowered in
    let m = c.map_of-map.result in
    nodes_result p t m c.built_of.result
    (λ r plans bytes same small ok cause. c.code_of_few_nodes_is_not_too_large.ensures p t r m plans bytes
    c.requires.valid c.requires.integers c.in_ok-lowered.ensures.code c.in_ok-lowered.ensures.weighed
    same c.sizes_are_in_range.ensures.budgets.calls.greatest c.requires.few small ok cause)
    c.built_of.ensures.refused
