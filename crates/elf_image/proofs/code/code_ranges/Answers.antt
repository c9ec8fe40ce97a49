use Rattle.std.proofs.Common.{ap, arith}
use Rattle.elf_image.specs.Layout.{file_header}
use Rattle.elf_image.proofs.Ranges.{table_is, rest_holds}
use Rattle.elf_image.proofs.code.code_ranges.Goals as goal

pub at-header-requires : goal.at-header-requires
at-header-requires c = (table_is c.args.bytes.now c.requires).header

pub slice_bounds-table-start : goal.slice_bounds-table-start
slice_bounds-table-start c =
    let t = (table_is c.args.bytes.now c.requires).table in
    let o = ap (λ h. h.program_header_offset) c.at-header.ensures in
    omega (arith, t, o)

pub slice_bounds-table-count : goal.slice_bounds-table-count
slice_bounds-table-count c =
    let t = (table_is c.args.bytes.now c.requires).table in
    let o = ap (λ h. h.program_header_offset) c.at-header.ensures in
    omega (arith, t, o)

pub ranges_in-requires : goal.ranges_in-requires
ranges_in-requires c =
    rest_holds c.args.bytes.now c.at-header.result (file_header c.args.bytes.now) c.at-header.ensures
    (table_is c.args.bytes.now c.requires).table
