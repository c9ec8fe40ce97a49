use Rattle.addr_map.proofs.JumpTable.{entry_from, entry_to, entries_apart}
use Rattle.addr_map.proofs.laws.function_addresses_differ.Goals as goal

pub returns : goal.returns
returns c = record { first = entry_from; last = entry_to; apart = entries_apart }
