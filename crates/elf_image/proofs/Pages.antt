-- Where the bytes of each segment stand in a written file.
use Rattle.std.proofs.Common.{◌≡◌, ℕ, ◌-◌, List, [], ◌++◌, length, take, drop, refl, ap, ◌∙◌, append_assoc, arith}
use Rattle.std.proofs.Common.{length-append}
use Rattle.std.proofs.lemmas.List.{take_at, drop_at, length-replicate, append-nil}
use Rattle.elf_image.specs.Writing.{WrittenSegment, WrittenImage, zeros, page_end, header_bytes, u32_bytes, u64_bytes}
use Rattle.elf_image.specs.Writing.{load_bytes}
use Rattle.elf_image.specs.Writing.{padded, code_offset, objects_offset, runtime_offset, image_size, image_bytes}

pub length-header_bytes : (entry : ℕ) → length (header_bytes entry) ≡ 64
unfolding header_bytes
length-header_bytes entry = refl

pub length-load_bytes : (flags offset : ℕ) (p : WrittenSegment) → length (load_bytes flags offset p) ≡ 56
unfolding load_bytes u32_bytes u64_bytes
length-load_bytes flags offset p = refl

-- the zeros that follow bytes up to a page
padding : List ℕ → List ℕ
padding bytes = zeros (page_end (length bytes) - length bytes)

length-zeros : (n : ℕ) → length (zeros n) ≡ n
unfolding zeros
length-zeros n = length-replicate n 0

padded_is : (bytes : List ℕ) → padded bytes ≡ bytes ++ padding bytes
unfolding padded padding
padded_is bytes = refl

length-padding : (bytes : List ℕ) → length (padding bytes) ≡ page_end (length bytes) - length bytes
unfolding padding
length-padding bytes = length-zeros (page_end (length bytes) - length bytes)

length-padded : (bytes : List ℕ) → length (padded bytes) ≡ page_end (length bytes)
length-padded bytes = ap length (padded_is bytes) ∙ (length-append bytes (padding bytes)
    ∙ omega (arith, length-padding bytes))

-- the first page: the headers, and zeros
first_page : WrittenImage → List ℕ
first_page p =
    header_bytes p.entry ++ load_bytes 1 4096 p.jump_table ++ load_bytes 1 (code_offset p) p.code
    ++ load_bytes 6 (objects_offset p) p.objects ++ load_bytes 6 (runtime_offset p) p.runtime ++ zeros 3808

length-first_page : (p : WrittenImage) → length (first_page p) ≡ 4096
unfolding first_page
length-first_page p =
    simp length-append (omega (
      arith,
      length-header_bytes p.entry,
      length-load_bytes 1 4096 p.jump_table,
      length-load_bytes 1
          (code_offset p) p.code,
      length-load_bytes 6 (objects_offset p) p.objects,
      length-load_bytes 6
          (runtime_offset p) p.runtime,
      length-zeros 3808,
    ))

image_pages : (p : WrittenImage) → image_bytes p ≡ first_page p ++ padded p.jump_table.bytes ++ padded p.code.bytes
    ++ padded p.objects.bytes ++ p.runtime.bytes
unfolding image_bytes first_page
image_pages p = refl

-- the file ends with the bytes of its last segment
pub length-image_bytes : (p : WrittenImage) → length (image_bytes p) ≡ image_size p
length-image_bytes p =
    ap length (image_pages p)
    ∙ simp length-append (omega (
      arith,
      length-first_page p,
      length-padded p.jump_table.bytes,
      length-padded p.code.bytes,
      length-padded p.objects.bytes,
    ))

-- bytes that stand at an offset are read there
bytes_at : (before bytes rest : List ℕ) (offset : ℕ) → length before ≡ offset
    → take (length bytes) (drop offset (before ++ (bytes ++ rest))) ≡ bytes
bytes_at before bytes rest offset e =
    let back : drop offset (before ++ (bytes ++ rest)) ≡ bytes ++ rest = drop_at before (bytes ++ rest) offset e in
    rw back (take_at bytes rest (length bytes) refl)

pub jump_table_at : (p : WrittenImage)
    → take (length p.jump_table.bytes) (drop 4096 (image_bytes p)) ≡ p.jump_table.bytes
jump_table_at p =
    let split : image_bytes p ≡ first_page p ++ (p.jump_table.bytes
    ++ (padding p.jump_table.bytes ++ (padded p.code.bytes ++ (padded p.objects.bytes
    ++ p.runtime.bytes)))) = image_pages p ∙ rw (padded_is p.jump_table.bytes) (simp append_assoc) in
    rw split (bytes_at (first_page p) p.jump_table.bytes _ 4096 (length-first_page p))

pub code_at : (p : WrittenImage) → take (length p.code.bytes) (drop (code_offset p) (image_bytes p)) ≡ p.code.bytes
code_at p =
    let before = first_page p ++ padded p.jump_table.bytes in
    let split : image_bytes p ≡ before ++ (p.code.bytes ++ (padding p.code.bytes
    ++ (padded p.objects.bytes ++ p.runtime.bytes))) = image_pages p
    ∙ rw (padded_is p.code.bytes) (simp append_assoc) in
    let long : length before ≡ code_offset p = length-append (first_page p) (padded p.jump_table.bytes)
    ∙ omega (arith, length-first_page p, length-padded p.jump_table.bytes) in
    rw split (bytes_at before p.code.bytes _ (code_offset p) long)

pub objects_at : (p : WrittenImage) → take (length p.objects.bytes) (drop (objects_offset p) (image_bytes p))
    ≡ p.objects.bytes
objects_at p =
    let before = first_page p ++ padded p.jump_table.bytes ++ padded p.code.bytes in
    let split : image_bytes p ≡ before ++ (p.objects.bytes ++
    (padding p.objects.bytes ++ p.runtime.bytes)) = image_pages p
    ∙ rw (padded_is p.objects.bytes) (simp append_assoc) in
    let long : length before ≡ objects_offset p = simp length-append
    (omega (arith, length-first_page p, length-padded p.jump_table.bytes, length-padded p.code.bytes)) in
    rw split (bytes_at before p.objects.bytes _ (objects_offset p) long)

pub runtime_at : (p : WrittenImage) → take (length p.runtime.bytes) (drop (runtime_offset p) (image_bytes p))
    ≡ p.runtime.bytes
runtime_at p =
    let before = first_page p ++ padded p.jump_table.bytes ++ padded p.code.bytes ++ padded p.objects.bytes in
    let split : image_bytes p ≡ before ++ (p.runtime.bytes ++ []) = image_pages p ∙ simp append-nil in
    let long : length before ≡ runtime_offset p = simp length-append
    (omega (
      arith,
      length-first_page p,
      length-padded p.jump_table.bytes,
      length-padded p.code.bytes,
      length-padded
          p.objects.bytes,
    )) in
    rw split (bytes_at before p.runtime.bytes [] (runtime_offset p) long)
