use Rattle.std.proofs.Common.{ap, sym, ◌∙◌, subst}
use Rattle.elf_image.specs.Writing.{SegmentsFit, image_bytes, content}
use Rattle.rv_codegen.specs.MachineImages.Image.{written}
use Rattle.rv_codegen.proofs.MachineImages.Sizes.{in_order}
use Rattle.rv_codegen.proofs.MachineImages.Loaded.{is_image, written_is}
use Rattle.rv_codegen.proofs.images.image.image_of.Goals as goal

pub write-requires : goal.write-requires
write-requires c =
    let m = c.args.map.now in
    let p = c.args.program.now in
    let plans = c.args.plans.now in
    let g = c.in_ok-code.ensures in
    let is = c.in_ok-parts.ensures
    ∙ written_is m p plans c.in_ok-code.code.start c.in_ok-code.code.table.items c.in_ok-code.code.compiled.items
    c.args.objects.items c.args.spaces.items g in
    subst SegmentsFit (sym is)
    (c.segments_in_order_fit.ensures (written m p plans c.args.objects.items c.args.spaces.items)
    (in_order m p plans c.args.objects.items c.args.spaces.items c.sizes_are_in_range.ensures g.fits c.requires.objects
    c.requires.spaces))

pub returns-clause-image : goal.returns-clause-image
returns-clause-image c =
    let m = c.args.map.now in
    let p = c.args.program.now in
    let plans = c.args.plans.now in
    let g = c.in_ok-code.ensures in
    let is = c.in_ok-parts.ensures
    ∙ written_is m p plans c.in_ok-code.code.start c.in_ok-code.code.table.items c.in_ok-code.code.compiled.items
    c.args.objects.items c.args.spaces.items g in
    is_image m p plans c.args.objects.items c.args.spaces.items c.in_ok-file.file.items g.fits
    (c.in_ok-file.ensures.bytes ∙ ap image_bytes is) c.in_ok-file.ensures.is_image
    (c.in_ok-file.ensures.content ∙ ap content is)

pub returns-clause-follows : goal.returns-clause-follows
returns-clause-follows c = c.images_follow.ensures c.args.map.now c.args.program.now c.args.plans.now
    c.args.objects.items c.args.spaces.items c.in_ok-file.file.items c.sizes_are_in_range.ensures
    (returns-clause-image c)
