use Rattle.std.proofs.Common.{◌≡◌, ap, arith}
use Rattle.metadata_plan.specs.Registers.{words_in}
use Rattle.metadata_expansion.proofs.Lists.{registers_few}
use Rattle.metadata_expansion.proofs.Laid.{is_among}
use Rattle.metadata_expansion.proofs.program.expand_function.Goals as goal

pub put_body-requires-clause-begins : goal.put_body-requires-clause-begins
put_body-requires-clause-begins c =
    let few = registers_few c.args.function.now c.requires.registers in
    omega (arith, few)

pub put_body-requires-clause-can : goal.put_body-requires-clause-can
put_body-requires-clause-can c = record {
  by = λ n i at. (c.in_ok-registers.ensures, is_among c.args.function.now n i c.requires.callees at);
}

pub words_in-requires : goal.words_in-requires
words_in-requires c =
    let few = registers_few c.args.function.now c.requires.registers in
    let same : words_in c.as_slice.result.now ≡ words_in c.args.function.now.parameters =
    ap (λ vs. words_in vs) c.as_slice.ensures in
    omega (arith, few, same)
