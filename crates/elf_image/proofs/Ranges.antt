-- The executable segments of a table, one header after another.
use Rattle.std.proofs.Common.{rules, ◌≡◌, ℕ, ◌+◌, ◌-◌, ◌*◌, ◌≤◌, Bool, true, false, cond, ◌&&◌, ◌||◌}
use Rattle.std.proofs.Common.{◌==◌, List, [], ◌∷◌, ◌++◌}
use Rattle.std.proofs.Common.{length, map, take, drop, None, refl, sym, ap, ◌∙◌, append_assoc, arith}
use Rattle.std.proofs.Common.{subst, length-drop}
use Rattle.std.proofs.lemmas.List.{length-take-le}
use Rattle.std.specs.Prelude.{if◌then◌else◌, nat_le}
use Rattle.std.specs.List.{filter}
use Rattle.elf_image.specs.declared.fault.ImageFault.{ImageFault}
use Rattle.elf_image.specs.declared.header.FileHeader.{FileHeader}
use Rattle.elf_image.specs.declared.header.ProgramHeader.{ProgramHeader}
use Rattle.elf_image.specs.Layout.{file_header, content_of, is_load, is_executable, with_load, loads, loads_of, ranges_of}
use Rattle.elf_image.specs.Tests.{◌unless◌, ◌then◌, header_fault, headers_fault, count_fault, loads_fault}
use Rattle.elf_image.specs.Tests.{content_fault, image_fault}
use Rattle.elf_image.specs.declared.fault.ImageFault.TheVariants.{Truncated, Magic, Class, Machine, FileType, Count}
use Rattle.elf_image.specs.declared.fault.ImageFault.TheVariants.{Range}
use Rattle.elf_image.proofs.Loads.{Step, then_none, loads_next}

test_holds : (f : ImageFault) (b : Bool) → (f unless b) ≡ None → b ≡ true
test_holds f true e = refl
test_holds f false e = cc

at_most : (m n : ℕ) → nat_le m n ≡ true → m ≤ n
at_most m n e = search (rules, e)

-- the table lies in a file whose header passes its tests
header_fits : (size : ℕ) (h : FileHeader) → header_fault size h ≡ None
    → h.program_header_offset + 56 * h.program_header_count ≤ size
unfolding header_fault
header_fits size h e =
    let a = (then_none (Magic unless (h.magic == 0x464c457f)) _ e).1 in
    let b =
    (then_none (Class unless ((h.class == 2) && ((h.data_encoding == 1) && (h.identification_version == 1)))) _ a).1 in
    let c = (then_none (Machine unless (h.machine == 243)) _ b).1 in
    let d = (then_none (FileType unless ((h.object_type == 2) && (h.version == 1))) _ c).1 in
    let f = (then_none (Count h.program_header_count unless nat_le h.program_header_count 64) _ d).1 in
    let g = (then_none (Range unless ((h.program_header_count == 0) || (h.program_header_size == 56))) _ f).1 in
    at_most _ size (test_holds Truncated (nat_le (h.program_header_offset + 56 * h.program_header_count) size) g)

pub record TableFits (bytes : List ℕ) : Type 0 where
  pub header : 64 ≤ length bytes
  pub table : (file_header bytes).program_header_offset + 56 * (file_header bytes).program_header_count ≤ length bytes

pub table_is : (bytes : List ℕ) → image_fault bytes ≡ None → TableFits bytes
unfolding image_fault headers_fault
table_is bytes e =
    let size = length bytes in
    let after = content_fault (content_of bytes) in
    let all = loads_fault size (loads_of bytes) then after in
    let count = count_fault (length (loads_of bytes)) in
    let fields = header_fault size (file_header bytes) in
    let first = Truncated unless nat_le 64 size in
    let headers = (then_none (first then (fields then count)) all e).0 in
    let rest = then_none first (fields then count) headers in
    record {
      header = at_most 64 size (test_holds Truncated (nat_le 64 size) rest.0);
      table = header_fits size (file_header bytes) (then_none fields count rest.1).0;
    }

-- what stands behind its offset holds the table
pub rest_holds : (bytes : List ℕ) (h g : FileHeader) → h ≡ g
    → g.program_header_offset + 56 * g.program_header_count ≤ length bytes
    → 56 * h.program_header_count
    ≤ length (take (length bytes - h.program_header_offset) (drop h.program_header_offset bytes))
rest_holds bytes h g e fits =
    let d = length-drop g.program_header_offset bytes in
    let size = length bytes - g.program_header_offset in
    let t = length-take-le size (drop g.program_header_offset bytes) (omega (arith, d)) in
    subst
    (λ x. 56 * x.program_header_count
    ≤ length (take (length bytes - x.program_header_offset) (drop x.program_header_offset bytes)))
    (sym e) (omega (arith, fits, t))

-- the range of a header
abbrev range : ProgramHeader → ℕ × ℕ
range h = (h.offset, h.file_size)

abbrev pub range_if : ProgramHeader → List (ℕ × ℕ)
range_if h = if is_load h && is_executable h then range h ∷ [] else []

one_more : (b : Bool) (h : ProgramHeader) (hs : List ProgramHeader)
    → map range (cond b (h ∷ hs) hs) ≡ (if b then range h ∷ [] else []) ++ map range hs
one_more true h hs = refl
one_more false h hs = refl

if_load : (b : Bool) (h : ProgramHeader) (hs : List ProgramHeader)
    → ranges_of (if b then h ∷ hs else hs) ≡ (if b && is_executable h then range h ∷ [] else []) ++ ranges_of hs
if_load true h hs = one_more (is_executable h) h (filter is_executable hs)
if_load false h hs = refl

pub range_added : (all : List (ℕ × ℕ)) (old new : List (ℕ × ℕ)) (n i : ℕ) (rest after : List ℕ) (header : ProgramHeader)
    → Step n i rest header after → new ≡ old ++ range_if header → old ++ ranges_of (loads (n - i) rest) ≡ all
    → new ++ ranges_of (loads (n - (i + 1)) after) ≡ all
range_added all old new n i rest after header s e so_far =
    let more = loads (n - (i + 1)) after in
    ap (λ x. x ++ ranges_of more) e ∙ append_assoc old (range_if header) (ranges_of more)
    ∙ ap (λ x. old ++ x) (sym (if_load (is_load header) header more))
    ∙ ap (λ x. old ++ ranges_of (with_load header x)) (ap (loads (n - (i + 1))) s.after_is)
    ∙ ap (λ x. old ++ ranges_of (with_load x (loads (n - (i + 1)) (drop 56 rest)))) s.header_is
    ∙ ap (λ x. old ++ ranges_of x) (sym (loads_next n i rest s.left)) ∙ so_far
