use Rattle.std.proofs.Common.{◌≡◌, ◌*◌, ◌∙◌, ap, length, arith}
use Rattle.machine_laws.proofs.Segments.Standing.{rows_length}
use Rattle.rv_codegen.proofs.generator.generate.Goals as goal

pub split_at-requires : goal.split_at-requires
split_at-requires c =
    let functions = c.args.program.now.functions in
    let below = c.in_ok-rows.ensures in
    let long : length c.as_slice.result.now ≡ 4 * length functions =
    ap length (c.as_slice.ensures.value ∙ below.rows_are)
    ∙ rows_length c.args.map.now c.args.program.now c.args.plans.now (length functions) in
    let within = c.source_count-sources.ensures.within in
    omega arith
