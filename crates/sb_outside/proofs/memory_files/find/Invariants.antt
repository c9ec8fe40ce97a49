use Rattle.std.proofs.Common.{◌≡◌, drop}
use Rattle.sb_outside.specs.HeldFile.{held_in}
use Rattle.sb_outside.proofs.memory_files.find.Given as goal

-- the files that were passed over have other names
abbrev pub invariant-loop-file : goal.invariant-loop-file
invariant-loop-file l = held_in (drop l.file-index l.files) l.name ≡ held_in l.files l.name
