use Rattle.std.proofs.Common.{arith}
use Rattle.metadata_expansion.proofs.Lists.{registers_few}
use Rattle.metadata_expansion.proofs.Laid.{is_among}
use Rattle.metadata_expansion.proofs.numbers.has_short_body.Goals as goal

pub is_short-requires-clause-begins : goal.is_short-requires-clause-begins
is_short-requires-clause-begins c =
    let few = registers_few c.args.function.now c.requires.registers in
    omega (arith, few)

pub is_short-requires-clause-can : goal.is_short-requires-clause-can
is_short-requires-clause-can c = record {
  by = λ n i at. (c.in_ok-registers.ensures, is_among c.args.function.now n i c.requires.callees at);
}
