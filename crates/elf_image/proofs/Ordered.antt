-- WrittenImage that stand in the order of their addresses pass the tests of an image.
use Rattle.std.proofs.Common.{◌≡◌, ℕ, ◌+◌, ◌-◌, ◌%◌, ◌≤◌, max, min, true, false, Option, None, refl, arith}
use Rattle.std.proofs.lemmas.Bool.{le-leb, lt-ltb, le-ltb}
use Rattle.std.specs.Prelude.{◌==◌}
use Rattle.elf_image.specs.declared.fault.ImageFault.{ImageFault}
use Rattle.elf_image.specs.Content.{SegmentContent}
use Rattle.elf_image.specs.Tests.{◌then◌, size_fault, overlap_fault, entry_fault, meets}
use Rattle.elf_image.specs.Writing.{WrittenImage, code_segment, data_segment, content, SegmentsFit, IsInOrder}

-- one after the other, two share no address
apart : (s t : SegmentContent) → s.address + s.size ≤ t.address → meets s t ≡ false
apart s t h = le-ltb (max s.address t.address) (min (s.address + s.size) (t.address + t.size)) (omega arith)

zero_is : (n : ℕ) → n ≡ 0 → (n == 0) ≡ true
zero_is n e = rw e refl

size_passes : (p : WrittenImage) → IsInOrder p → size_fault (content p).segments ≡ None
size_passes p o =
    let fits = le-leb (p.jump_table.size + (p.code.size + (p.objects.size + (p.runtime.size + 0)))) 536870912
    (omega arith) in
    rw fits refl

overlap_passes : (p : WrittenImage) → IsInOrder p → overlap_fault (content p).segments ≡ None
overlap_passes p o =
    let a = code_segment p.jump_table in
    let b = code_segment p.code in
    let c = data_segment p.objects in
    let d = data_segment p.runtime in
    rw (
      apart a b (omega arith),
      apart a c (omega arith),
      apart a d (omega arith),
      apart b c
          (omega arith),
      apart b d (omega arith),
      apart c d (omega arith),
    ) refl

entry_passes : (p : WrittenImage) → IsInOrder p → entry_fault p.entry (content p).segments ≡ None
entry_passes p o =
    rw (
      zero_is (p.entry % 4) o.aligned,
      le-leb p.jump_table.address p.entry o.entry_from,
      lt-ltb
          (p.entry - p.jump_table.address) p.jump_table.size (omega arith),
    ) refl

then_all : (f g : Option ImageFault) → f ≡ None → g ≡ None → (f then g) ≡ None
then_all f g d e = rw d e

pub in_order_fits : (p : WrittenImage) → IsInOrder p → SegmentsFit p
in_order_fits p o = record {
  entry = omega arith;
  jump_table = (o.jump_table_bytes, omega arith, omega arith);
  code = (o.code_bytes, omega arith, omega arith);
  objects = (o.objects_bytes, omega arith, omega arith);
  runtime = (o.runtime_bytes, o.runtime_last, o.runtime_address);
  together = then_all _ _ (size_passes p o) (then_all _ _ (overlap_passes p o) (entry_passes p o));
}
