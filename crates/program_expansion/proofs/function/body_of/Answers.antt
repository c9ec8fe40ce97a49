use Rattle.std.proofs.Common.{arith}
use Rattle.program_expansion.proofs.Prepared.{is_among, prepared}
use Rattle.program_expansion.proofs.Small.{temporaries_few}
use Rattle.program_expansion.proofs.function.body_of.Goals as goal

pub entry_table-requires : goal.entry_table-requires
entry_table-requires g c =
    let few = temporaries_few c.args.function.now c.requires.limits.small.registers in
    omega (arith, few)

pub is_short-requires-clause-begins : goal.is_short-requires-clause-begins
is_short-requires-clause-begins g c =
    prepared _ c.requires.registers c.requires.tables.statics c.requires.tables.low c.requires.tables.limits
    c.requires.limits.small c.requires.areas

pub is_short-requires-clause-can : goal.is_short-requires-clause-can
is_short-requires-clause-can g c = record {
  by = λ n i at. (
    prepared _ c.requires.registers c.requires.tables.statics c.requires.tables.low c.requires.tables.limits
        c.requires.limits.small c.requires.areas,
    is_among _ _ n i c.requires.limits at,
  );
}

pub put_body-requires-clause-begins : goal.put_body-requires-clause-begins
put_body-requires-clause-begins g c =
    prepared _ c.requires.registers c.requires.tables.statics c.requires.tables.low c.requires.tables.limits
    c.requires.limits.small c.requires.areas

pub put_body-requires-clause-can : goal.put_body-requires-clause-can
put_body-requires-clause-can g c = record {
  by = λ n i at. (
    prepared _ c.requires.registers c.requires.tables.statics c.requires.tables.low c.requires.tables.limits
        c.requires.limits.small c.requires.areas,
    is_among _ _ n i c.requires.limits at,
  );
}
