-- What is written is read as the image that was written.
use Rattle.std.proofs.Common.{◌≡◌, ℕ, suc, ◌+◌, ◌^◌, ◌<◌, ◌≤◌, Bool, true, false, List, [], ◌∷◌, ◌++◌, map, length}
use Rattle.std.proofs.Common.{take, drop, Option, Some, None, Result, Ok, Err, IfOk, refl, ap, ◌∙◌, append_assoc}
use Rattle.std.proofs.Common.{arith, lit<}
use Rattle.std.proofs.lemmas.List.{take_at, drop_at}
use Rattle.std.proofs.lemmas.Bool.{le-leb, leb-true}
use Rattle.std.specs.Prelude.{if◌then◌else◌}
use Rattle.elf_image.specs.declared.fault.ImageFault.{ImageFault}
use Rattle.elf_image.specs.declared.fault.ImageFault.TheVariants.{Truncated, TooLarge}
use Rattle.elf_image.specs.declared.header.FileHeader.{FileHeader}
use Rattle.elf_image.specs.declared.header.ProgramHeader.{ProgramHeader}
use Rattle.elf_image.specs.Layout.{file_header, program_header, loads, loads_of, segment_of, content_of}
use Rattle.elf_image.specs.Tests.{◌then◌, ◌unless◌, header_fault, count_fault, load_fault, loads_fault, memory_size}
use Rattle.elf_image.specs.Tests.{size_fault, overlap_fault, entry_fault, content_fault, headers_fault, image_fault}
use Rattle.elf_image.specs.Writing.{WrittenSegment, WrittenImage, zeros, header_bytes, u32_bytes, u64_bytes, load_bytes}
use Rattle.elf_image.specs.Writing.{padded}
use Rattle.elf_image.specs.Writing.{code_offset, objects_offset, runtime_offset, image_size, image_bytes, content}
use Rattle.elf_image.specs.Writing.{SegmentsFit}
use Rattle.elf_image.proofs.Pages.{length-header_bytes, length-load_bytes, length-image_bytes, jump_table_at, code_at}
use Rattle.elf_image.proofs.Pages.{objects_at, runtime_at}

-- the file header that is written
abbrev written_header : ℕ → FileHeader
written_header entry = record {
  magic = 0x464c457f;
  class = 2;
  data_encoding = 1;
  identification_version = 1;
  object_type = 2;
  machine = 243;
  version = 1;
  entry = entry;
  program_header_offset = 64;
  program_header_size = 56;
  program_header_count = 4;
}

header_read : (entry : ℕ) (rest : List ℕ) → entry < 2 ^ 64 → file_header (header_bytes entry ++ rest)
    ≡ written_header entry
unfolding file_header header_bytes
header_read entry rest h =
    let e : (file_header (header_bytes entry ++ rest)).entry ≡ entry = omega arith in
    ap written_header e

-- the program header of a segment
abbrev written_load : (flags offset : ℕ) → WrittenSegment → ProgramHeader
written_load flags offset p = record {
  segment_type = 1;
  flags = flags;
  offset = offset;
  virtual_address = p.address;
  file_size = length p.bytes;
  memory_size = p.size;
}

-- a program header is its fields
same_header : (h : ProgramHeader) (a b c d e f : ℕ) → h.segment_type ≡ a → h.flags ≡ b → h.offset ≡ c
    → h.virtual_address ≡ d → h.file_size ≡ e → h.memory_size ≡ f
    → h ≡ record { segment_type = a; flags = b; offset = c; virtual_address = d; file_size = e; memory_size = f }
same_header h a b c d e f o p q r s t = rw (← o, ← p, ← q, ← r, ← s, ← t) refl

-- the numbers of a program header fit its fields
pub record LoadFits (flags offset : ℕ) (p : WrittenSegment) : Type 0 where
  pub flags_fit : flags < 2 ^ 32
  pub offset_fits : offset < 2 ^ 64
  pub address_fits : p.address < 2 ^ 64
  pub file_size_fits : length p.bytes < 2 ^ 64
  pub size_fits : p.size < 2 ^ 64

load_read : (flags offset : ℕ) (p : WrittenSegment) → LoadFits flags offset p
    → program_header (load_bytes flags offset p) ≡ written_load flags offset p
unfolding load_bytes u32_bytes u64_bytes program_header
load_read flags offset p fits =
    let h = program_header (load_bytes flags offset p) in
    let a : h.segment_type ≡ 1 = refl in
    let b : h.flags ≡ flags = omega arith in
    let c : h.offset ≡ offset = omega arith in
    let d : h.virtual_address ≡ p.address = omega arith in
    let e : h.file_size ≡ length p.bytes = omega arith in
    let f : h.memory_size ≡ p.size = omega arith in
    same_header h 1 flags offset p.address (length p.bytes) p.size a b c d e f

-- a program header of a segment to load at the front of a table
one_load : (front rest : List ℕ) (n : ℕ) (h : ProgramHeader) → length front ≡ 56 → program_header front ≡ h
    → h.segment_type ≡ 1 → loads (suc n) (front ++ rest) ≡ h ∷ loads n rest
one_load front rest n h long e load =
    let first : take 56 (front ++ rest) ≡ front = take_at front rest 56 long in
    let others : drop 56 (front ++ rest) ≡ rest = drop_at front rest 56 long in
    rw (first, others, e, load) refl

-- what follows the file header
table_on : WrittenImage → List ℕ
table_on p =
    load_bytes 1 4096 p.jump_table ++ (load_bytes 1 (code_offset p) p.code
    ++ (load_bytes 6 (objects_offset p) p.objects ++ (load_bytes 6 (runtime_offset p) p.runtime
    ++ (zeros 3808 ++ (padded p.jump_table.bytes
    ++ (padded p.code.bytes ++ (padded p.objects.bytes ++ p.runtime.bytes)))))))

image_headers : (p : WrittenImage) → image_bytes p ≡ header_bytes p.entry ++ table_on p
unfolding image_bytes table_on
image_headers p = simp append_assoc

-- the numbers of a segment that passed all tests
pub record SegmentSmall (p : WrittenSegment) : Type 0 where
  pub address : p.address < 2 ^ 64
  pub size : p.size ≤ 2 ^ 30
  pub file_size : length p.bytes ≤ 2 ^ 30

pub record SegmentsSmall (p : WrittenImage) : Type 0 where
  pub entry : p.entry < 2 ^ 64
  pub jump_table : SegmentSmall p.jump_table
  pub code : SegmentSmall p.code
  pub objects : SegmentSmall p.objects
  pub runtime : SegmentSmall p.runtime

load_fits : (flags offset : ℕ) (p : WrittenSegment) → flags < 2 ^ 32 → offset < 2 ^ 64 → SegmentSmall p
    → LoadFits flags offset p
load_fits flags offset p a b s = record {
  flags_fit = a;
  offset_fits = b;
  address_fits = s.address;
  file_size_fits = omega arith;
  size_fits = omega arith;
}

abbrev written_loads : WrittenImage → List ProgramHeader
written_loads p =
    written_load 1 4096 p.jump_table ∷ written_load 1 (code_offset p) p.code
    ∷ written_load 6 (objects_offset p) p.objects
    ∷ written_load 6 (runtime_offset p) p.runtime ∷ []

table_read : (p : WrittenImage) → SegmentsSmall p → loads 4 (table_on p) ≡ written_loads p
unfolding table_on
table_read p s =
    let first = load_bytes 1 4096 p.jump_table in
    let second = load_bytes 1 (code_offset p) p.code in
    let third = load_bytes 6 (objects_offset p) p.objects in
    let fourth = load_bytes 6 (runtime_offset p) p.runtime in
    let rest = zeros 3808 ++ (padded p.jump_table.bytes ++ (padded p.code.bytes
    ++ (padded p.objects.bytes ++ p.runtime.bytes))) in
    let a = load_read 1 4096 p.jump_table (load_fits 1 4096 p.jump_table (lit< tt) (lit< tt) s.jump_table) in
    let b = load_read 1 (code_offset p) p.code (load_fits 1 (code_offset p) p.code (lit< tt) (omega arith) s.code) in
    let c = load_read 6 (objects_offset p) p.objects (load_fits 6 (objects_offset p) p.objects (lit< tt)
    (omega arith) s.objects) in
    let d = load_read 6 (runtime_offset p) p.runtime (load_fits 6 (runtime_offset p) p.runtime (lit< tt)
    (omega arith) s.runtime) in
    one_load first (second ++ (third ++ (fourth ++ rest))) 3 _ (length-load_bytes 1 4096 p.jump_table) a refl
    ∙ ap (λ hs. written_load 1 4096 p.jump_table ∷ hs) (one_load second (third ++ (fourth ++ rest)) 2 _
    (length-load_bytes 1 (code_offset p) p.code) b refl
    ∙ ap (λ hs. written_load 1 (code_offset p) p.code ∷ hs) (one_load third (fourth ++ rest) 1 _
    (length-load_bytes 6 (objects_offset p) p.objects) c refl
    ∙ ap (λ hs. written_load 6 (objects_offset p) p.objects ∷ hs)
    (one_load fourth rest 0 _ (length-load_bytes 6 (runtime_offset p) p.runtime) d refl)))

header_is : (p : WrittenImage) → SegmentsSmall p → file_header (image_bytes p) ≡ written_header p.entry
header_is p s = ap file_header (image_headers p) ∙ header_read p.entry (table_on p) s.entry

loads_are : (p : WrittenImage) → SegmentsSmall p → loads_of (image_bytes p) ≡ written_loads p
unfolding loads_of
loads_are p s =
    let after : drop 64 (image_bytes p) ≡ table_on p = ap (drop 64) (image_headers p)
    ∙ drop_at (header_bytes p.entry) (table_on p) 64 (length-header_bytes p.entry) in
    ap (λ h. loads h.program_header_count (drop h.program_header_offset (image_bytes p))) (header_is p s)
    ∙ (ap (loads 4) after ∙ table_read p s)

segments_are : (p : WrittenImage) → map (segment_of (image_bytes p)) (written_loads p) ≡ (content p).segments
segments_are p =
    let a = jump_table_at p in
    let b = code_at p in
    let c = objects_at p in
    let d = runtime_at p in
    rw (a, b, c, d) refl

content_is : (p : WrittenImage) → SegmentsSmall p → content_of (image_bytes p) ≡ content p
unfolding content_of
content_is p s =
    let e : (file_header (image_bytes p)).entry ≡ p.entry = ap (λ h. h.entry) (header_is p s) in
    let ss : map (segment_of (image_bytes p)) (loads_of (image_bytes p))
    ≡ (content p).segments = ap (map (segment_of (image_bytes p))) (loads_are p s) ∙ segments_are p in
    rw (e, ss) refl

-- chains of tests
then_all : (f g : Option ImageFault) → f ≡ None → g ≡ None → (f then g) ≡ None
then_all f g d e = rw d e

then_first : (f g : Option ImageFault) → (f then g) ≡ None → f ≡ None
then_first None g e = refl
then_first (Some f) g e = cc

passes : (f : ImageFault) (b : Bool) → b ≡ true → (f unless b) ≡ None
passes f b e = rw e refl

passed : (f : ImageFault) (b : Bool) → (f unless b) ≡ None → b ≡ true
passed f true e = refl
passed f false e = cc

pub segments_small : (p : WrittenImage) → SegmentsFit p → SegmentsSmall p
segments_small p f =
    let segments = (content p).segments in
    let sum : memory_size segments ≤ 536870912 = leb-true (memory_size segments) 536870912
    (passed (TooLarge (memory_size segments)) _ (then_first (size_fault segments)
    (overlap_fault segments then entry_fault p.entry segments) f.together)) in
    record {
      entry = f.entry;
      jump_table = record { address = f.jump_table.2; size = omega arith; file_size = omega arith };
      code = record { address = f.code.2; size = omega arith; file_size = omega arith };
      objects = record { address = f.objects.2; size = omega arith; file_size = omega arith };
      runtime = record { address = f.runtime.2; size = omega arith; file_size = omega arith };
    }

load_passes : (size : ℕ) (h : ProgramHeader) → h.file_size ≤ h.memory_size
    → h.virtual_address + h.memory_size ≤ 2 ^ 64 → h.offset + h.file_size ≤ size → load_fault size h ≡ None
load_passes size h a b c = rw (
  le-leb h.file_size h.memory_size a,
  le-leb (h.virtual_address + h.memory_size)
      (2 ^ 64) b,
  le-leb (h.offset + h.file_size) size c,
) refl

loads_pass : (p : WrittenImage) → SegmentsFit p → loads_fault (length (image_bytes p)) (written_loads p) ≡ None
loads_pass p f =
    let size = length (image_bytes p) in
    let long = length-image_bytes p in
    then_all _ _ (load_passes size (written_load 1 4096 p.jump_table) f.jump_table.0 f.jump_table.1 (omega arith))
    (then_all _ _ (load_passes size (written_load 1 (code_offset p) p.code) f.code.0 f.code.1 (omega arith))
    (then_all _ _ (load_passes size (written_load 6 (objects_offset p) p.objects) f.objects.0 f.objects.1 (omega arith))
    (then_all _ _ (load_passes size (written_load 6 (runtime_offset p) p.runtime) f.runtime.0 f.runtime.1
    (omega arith)) refl)))

header_passes : (size entry : ℕ) → 288 ≤ size → header_fault size (written_header entry) ≡ None
unfolding header_fault
header_passes size entry h = passes Truncated _ (le-leb 288 size h)

-- segments that fit are written as an image
pub written_is_image : (p : WrittenImage) → SegmentsFit p → image_fault (image_bytes p) ≡ None
unfolding headers_fault image_fault
written_is_image p f =
    let s = segments_small p f in
    let bytes = image_bytes p in
    let long = length-image_bytes p in
    then_all _ _
    (then_all _ _ (passes Truncated _ (le-leb 64 (length bytes) (omega arith)))
    (then_all _ _ (ap (header_fault (length bytes)) (header_is p s)
    ∙ header_passes (length bytes) p.entry (omega arith))
    (ap (λ hs. count_fault (length hs)) (loads_are p s))))
    (then_all _ _ (ap (loads_fault (length bytes)) (loads_are p s) ∙ loads_pass p f)
    (ap content_fault (content_is p s) ∙ f.together))

-- and that image is the one that they are
pub written_is_content : (p : WrittenImage) → SegmentsFit p → content_of (image_bytes p) ≡ content p
written_is_content p f = content_is p (segments_small p f)

-- the same of what a writer answers
pub is_image_written : {A E : Type 0} (items : A → List ℕ) (r : Result A E) (p : WrittenImage) → SegmentsFit p
    → IfOk r (λ v. items v ≡ image_bytes p) → IfOk r (λ v. image_fault (items v) ≡ None)
is_image_written items (Ok v) p f e = ap image_fault e ∙ written_is_image p f
is_image_written items (Err x) p f e = tt

pub content_written : {A E : Type 0} (items : A → List ℕ) (r : Result A E) (p : WrittenImage) → SegmentsFit p
    → IfOk r (λ v. items v ≡ image_bytes p) → IfOk r (λ v. content_of (items v) ≡ content p)
content_written items (Ok v) p f e = ap content_of e ∙ written_is_content p f
content_written items (Err x) p f e = tt

pub size_written : {A E : Type 0} (items : A → List ℕ) (r : Result A E) (p : WrittenImage)
    → IfOk r (λ v. items v ≡ image_bytes p) → IfOk r (λ v. length (items v) ≡ image_size p)
size_written items (Ok v) p e = ap length e ∙ length-image_bytes p
size_written items (Err x) p e = tt
