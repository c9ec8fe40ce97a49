-- A key by its head and its path.
use Rattle.std.specs.Prelude.{List, Option, Some, None}
use Rattle.tac_ir.specs.declared.key.Member.{Member}
use Rattle.tac_ir.specs.declared.key.Key.{Key}
use Rattle.program_lowering.specs.declared.keys.key.KeyHead.{KeyHead}

abbrev pub key_on : KeyHead → List Member → Key
key_on h path = record { base = h.base; path = path; constant = h.constant; scaled = h.scaled }

abbrev pub key_with : Option KeyHead → List Member → Option Key
key_with None path = None
key_with (Some h) path = Some (key_on h path)
