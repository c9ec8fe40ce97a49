use Rattle.std.proofs.Common.{map}
use Rattle.c_tree.specs.View.{static_of}
use Rattle.c_programs.specs.FileState.{file_of}
use Rattle.c_programs.proofs.Files.{outline_is}
use Rattle.c_programs.proofs.outline.parts_of.Goals as goal

pub returns : goal.returns
returns c =
    outline_is (file_of c.args.file) c.extents-extents.result.now c.in_ok-structures.structures.items
    (map static_of c.in_ok-statics.statics.items) c.main_number.result c.extents-extents.ensures
    c.in_ok-structures.ensures c.in_ok-statics.ensures c.main_number.ensures
