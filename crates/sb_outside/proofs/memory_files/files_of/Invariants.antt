use Rattle.std.proofs.Common.{◌≡◌, take, map}
use Rattle.sb_outside.specs.HeldFile.{file_of}
use Rattle.sb_outside.proofs.memory_files.files_of.Given as goal

-- the files of the pairs so far
abbrev pub invariant-loop-pair : goal.invariant-loop-pair
invariant-loop-pair l = l.files.items ≡ map (file_of l.room) (take l.pair-index l.pairs)
