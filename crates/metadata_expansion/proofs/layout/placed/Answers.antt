use Rattle.std.proofs.Common.{◌≡◌, ◌-◌, ◌≤◌, length, suc, ap, arith}
use Rattle.metadata_expansion.proofs.Laid.{node_fits, next_fits, one_placed_as, all_placed}
use Rattle.metadata_expansion.proofs.layout.placed.Goals as goal

pub node_size-requires-clause-can : goal.node_size-requires-clause-can
node_size-requires-clause-can g c = c.requires.can.by _ _ c.instruction_at-instruction.ensures

pub overflow_cast-place : goal.overflow_cast-place
overflow_cast-place g c =
    let put = g.B.BlockSource.block_for c.args.blocks.now in
    let begin = g.B.BlockSource.beginning c.args.blocks.now in
    let fit = node_fits put begin c.args.function.now
    (length c.as_slice-count.result.now - 1 - c.loop-behind.behind)
    c.instruction_at-instruction.result.now c.requires.small c.instruction_at-instruction.ensures in
    let sized = c.in_ok-size.ensures.value in
    omega (arith, fit, sized)

pub overflow_add-place : goal.overflow_add-place
overflow_add-place g c =
    let put = g.B.BlockSource.block_for c.args.blocks.now in
    let begin = g.B.BlockSource.beginning c.args.blocks.now in
    let same : length c.as_slice-count.result.now ≡ length c.args.function.now.code =
    ap (λ is. length is) c.as_slice-count.ensures in
    let below = c.loop-behind-test.true in
    let at : length c.args.function.now.code - c.loop-behind.behind
    ≡ suc (length c.as_slice-count.result.now - 1 - c.loop-behind.behind) = omega (arith, same, below) in
    let fit = next_fits put begin c.args.function.now c.loop-behind.descending.items
    c.loop-behind.place c.loop-behind.behind
    (length c.as_slice-count.result.now - 1 - c.loop-behind.behind)
    c.instruction_at-instruction.result.now at c.instruction_at-instruction.ensures c.requires.small
    c.loop-behind.invariant in
    let sized = c.in_ok-size.ensures.value in
    omega (arith, fit, sized)

pub loop-behind-preserved : goal.loop-behind-preserved
loop-behind-preserved g c =
    let put = g.B.BlockSource.block_for c.args.blocks.now in
    let begin = g.B.BlockSource.beginning c.args.blocks.now in
    let same : length c.as_slice-count.result.now ≡ length c.args.function.now.code =
    ap (λ is. length is) c.as_slice-count.ensures in
    let below = c.loop-behind-test.true in
    let at : length c.args.function.now.code - c.loop-behind.behind
    ≡ suc (length c.as_slice-count.result.now - 1 - c.loop-behind.behind) = omega (arith, same, below) in
    one_placed_as put begin c.args.function.now c.loop-behind.descending.items
    c.push.new.self.items c.loop-behind.place c.loop-behind.behind
    (length c.as_slice-count.result.now - 1 - c.loop-behind.behind) c.in_ok-size.size
    c.instruction_at-instruction.result.now at c.instruction_at-instruction.ensures c.loop-behind.invariant
    c.in_ok-push.ensures.items c.in_ok-size.ensures.value

pub returns : goal.returns
returns g c =
    let put = g.B.BlockSource.block_for c.args.blocks.now in
    let begin = g.B.BlockSource.beginning c.args.blocks.now in
    let same : length c.as_slice-count.result.now ≡ length c.args.function.now.code =
    ap (λ is. length is) c.as_slice-count.ensures in
    let past = c.loop-behind-test.false in
    let all : length c.args.function.now.code ≤ c.loop-behind.behind = omega (arith, same, past) in
    all_placed put begin c.args.function.now c.loop-behind.descending.items
    c.loop-behind.place c.loop-behind.behind _ all c.loop-behind.invariant c.from_vec.ensures c.requires.begin
