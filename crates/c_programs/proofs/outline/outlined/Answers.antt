use Rattle.c_programs.specs.FileState.{file_of}
use Rattle.c_programs.specs.Outlines.{outline_of}
use Rattle.c_programs.proofs.Files.{program_is}
use Rattle.c_programs.proofs.outline.outlined.Goals as goal

pub returns : goal.returns
returns c = program_is (file_of c.args.file) (outline_of c.in_ok-outline.outline) c.in_ok-outline.ensures
