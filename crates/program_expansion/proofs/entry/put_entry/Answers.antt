use Rattle.program_expansion.proofs.Prepared.{can_be_called}
use Rattle.program_expansion.proofs.entry.put_entry.Goals as goal

pub put_before_main-requires-clause-bytes : goal.put_before_main-requires-clause-bytes
put_before_main-requires-clause-bytes c =
    (can_be_called c.main_of.result.now (c.requires.functions _ c.main_of.result.now c.main_of.ensures).small).bytes
