use Rattle.elf_image.proofs.Written.{is_image_written, content_written, size_written}
use Rattle.elf_image.proofs.writing.write_image.Goals as goal

pub returns-clause-is_image : goal.returns-clause-is_image
returns-clause-is_image c = is_image_written
    (λ file. file.items) c.write_bytes.result c.args.image.now c.requires c.write_bytes.ensures

pub returns-clause-content : goal.returns-clause-content
returns-clause-content c = content_written
    (λ file. file.items) c.write_bytes.result c.args.image.now c.requires c.write_bytes.ensures

pub returns-clause-size : goal.returns-clause-size
returns-clause-size c = size_written (λ file. file.items) c.write_bytes.result c.args.image.now c.write_bytes.ensures
