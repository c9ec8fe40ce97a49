use Rattle.std.proofs.Common.{◌≡◌, ◌≤◌, ap, length, arith}
use Rattle.addr_map.specs.Places.{code_size}
use Rattle.machine_laws.specs.Segments.Segments.{code_bytes}
use Rattle.rv_codegen.proofs.Counted.{table_count, is_too_large}
use Rattle.rv_codegen.proofs.generator.refusal.Goals as goal

pub returns : goal.returns
returns c =
    let m = c.args.map.now in
    let p = c.args.program.now in
    let plans = c.args.plans.now in
    let words = c.in_ok-code_bytes.ensures.value in
    let fits : code_bytes m p plans ≤ code_size = omega (arith, words, c.if-code_bytes-gt8388608.false) in
    let table = table_count m p plans in
    let count : length c.as_slice.result.now ≡ length p.functions = ap length c.as_slice.ensures in (
      fits,
      is_too_large m p plans c.long_lists_have_many_words.ensures c.requires.long fits,
      omega (arith, table, c.in_ok-runtime.ensures.value, count, c.from.ensures),
    )
