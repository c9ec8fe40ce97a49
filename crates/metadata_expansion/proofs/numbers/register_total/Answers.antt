use Rattle.std.proofs.Common.{◌≡◌, ap, arith}
use Rattle.metadata_plan.specs.Registers.{words_in}
use Rattle.metadata_expansion.proofs.Lists.{words_append}
use Rattle.metadata_expansion.proofs.numbers.register_total.Goals as goal

pub returns : goal.returns
returns c =
    let sum = words_append c.args.function.now.parameters c.args.function.now.variables in
    let same : words_in c.as_slice.result.now ≡ words_in c.args.function.now.parameters =
    ap (λ vs. words_in vs) c.as_slice.ensures in
    let also : words_in c.as_slice-2.result.now ≡ words_in c.args.function.now.variables =
    ap (λ vs. words_in vs) c.as_slice-2.ensures in
    let first = c.word_count-parameters.ensures.value in
    let second = c.word_count-variables.ensures.value in
    let count = c.requires.count in
    let free = c.free_count.ensures in
    omega (arith, sum, same, also, first, second, count, free)
