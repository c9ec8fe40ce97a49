use Rattle.std.proofs.Common.{◌+◌, ◌-◌, ◌*◌, arith}
use Rattle.shadow_space.proofs.TwoLevel.Starting.{counted_are}
use Rattle.shadow_space.proofs.two_levels.start.counted.Goals as goal

pub returns-clause-value : goal.returns-clause-value
returns-clause-value c = counted_are c.args.map.now (16384 * c.global_pages-tables.result)
    (c.first_table.result - 1073741824 + 16384 * c.global_pages-tables.result) c.in_ok-bytes.bytes.items
    c.put_word.new.bytes.items (omega (arith, c.global_pages-tables.ensures.value))
    (omega (arith, c.global_pages-tables.ensures.value, c.first_table.ensures))
    c.in_ok-bytes.ensures c.put_word.ensures.value
