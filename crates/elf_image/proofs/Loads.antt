-- The segments to load of a table, one header after another.
use Rattle.std.proofs.Common.{◌≡◌, ℕ, suc, ◌+◌, ◌-◌, ◌<◌, Bool, true, false, cond, List, [], ◌∷◌, ◌++◌, length, map}
use Rattle.std.proofs.Common.{take, drop, Option, Some, None, refl, sym, ap, ◌∙◌, append_assoc, arith}
use Rattle.std.proofs.lemmas.List.{map-append}
use Rattle.elf_image.specs.declared.fault.ImageFault.{ImageFault}
use Rattle.elf_image.specs.declared.fault.ReadError.{ReadError}
use Rattle.elf_image.specs.declared.fault.ReadError.TheVariants as errors
use Rattle.elf_image.specs.declared.header.ProgramHeader.{ProgramHeader}
use Rattle.elf_image.specs.Content.{SegmentContent}
use Rattle.elf_image.specs.Layout.{program_header, is_load, with_load, loads, segment_of}
use Rattle.elf_image.specs.Tests.{◌then◌, load_fault, loads_fault, Fails}

-- the headers from the i-th on are the i-th before those after it
pub loads_next : (n i : ℕ) (table : List ℕ) → i < n → loads (n - i) table
    ≡ with_load (program_header (take 56 table)) (loads (n - (i + 1)) (drop 56 table))
loads_next n i table h =
    let e : n - i ≡ suc (n - (i + 1)) = omega arith in
    ap (λ k. loads k table) e

-- a header alone, and those after it
with_load_alone : (b : Bool) (h : ProgramHeader) (others : List ProgramHeader)
    → cond b (h ∷ others) others ≡ cond b (h ∷ []) [] ++ others
with_load_alone true h others = refl
with_load_alone false h others = refl

-- A step of a loop over a table of n headers: the i-th is next, of those that `rest` holds, and `after` holds those
-- after it.
pub record Step (n i : ℕ) (rest : List ℕ) (header : ProgramHeader) (after : List ℕ) : Type 0 where
  pub left : i < n
  pub header_is : header ≡ program_header (take 56 rest)
  pub after_is : after ≡ drop 56 rest

loads_split : {n i : ℕ} {rest : List ℕ} {header : ProgramHeader} {after : List ℕ} → Step n i rest header after
    → loads (n - i) rest ≡ with_load header [] ++ loads (n - (i + 1)) after
loads_split {n} {i} {rest} {header} {after} s =
    rw (s.header_is, s.after_is) (loads_next n i rest s.left ∙ with_load_alone
    (is_load (program_header (take 56 rest))) (program_header (take 56 rest)) (loads (n - (i + 1)) (drop 56 rest)))

pub then_none : (f g : Option ImageFault) → (f then g) ≡ None → (f ≡ None) × (g ≡ None)
then_none None g e = (refl, e)
then_none (Some f) g e = cc

-- headers without a fault leave that of the others
fault_past : (size : ℕ) (xs ys : List ProgramHeader) → loads_fault size xs ≡ None
    → loads_fault size (xs ++ ys) ≡ loads_fault size ys
fault_past size [] ys e = refl
fault_past size (h ∷ xs) ys e =
    let image = then_none (load_fault size h) (loads_fault size xs) e in
    ap (λ f. f then loads_fault size (xs ++ ys)) image.0 ∙ fault_past size xs ys image.1

then_some : (f g h : Option ImageFault) (x : ImageFault) → (f then g) ≡ Some x → (g ≡ Some x → h ≡ Some x)
    → (f then h) ≡ Some x
then_some None g h x e k = k e
then_some (Some f) g h x e k = e

-- the fault of the first headers is that of all
fault_first : (size : ℕ) (xs ys : List ProgramHeader) (f : ImageFault) → loads_fault size xs ≡ Some f
    → loads_fault size (xs ++ ys) ≡ Some f
fault_first size [] ys f e = cc
fault_first size (h ∷ xs) ys f e =
    then_some (load_fault size h) (loads_fault size xs) (loads_fault size (xs ++ ys)) f e
    (λ k. fault_first size xs ys f k)

-- where the next header has a fault, all have it
pub gives_up : (bytes : List ℕ) (e : ReadError)
    (all : List ProgramHeader) {n i : ℕ} {rest : List ℕ} {header : ProgramHeader} {after : List ℕ}
    → Step n i rest header after → Fails e (loads_fault (length bytes) (with_load header []))
    → loads_fault (length bytes) (loads (n - i) rest) ≡ loads_fault (length bytes) all
    → Fails e (loads_fault (length bytes) all)
gives_up bytes errors.Memory all s fails so_far = tt
gives_up bytes (errors.Fault f) all {n} {i} {rest} {header} {after} s fails so_far =
    sym so_far ∙ (ap (loads_fault (length bytes)) (loads_split s)
    ∙ fault_first (length bytes) (with_load header []) (loads (n - (i + 1)) after) f fails)

-- What holds after a step that found no fault: the headers that are left have the fault of all, and their segments are
-- those that are missing.
pub record IsStepped (bytes : List ℕ) (n i : ℕ) (after : List ℕ) (all : List ProgramHeader)
    (segments : List SegmentContent) : Type 0 where
  pub fault : loads_fault (length bytes) (loads (n - (i + 1)) after) ≡ loads_fault (length bytes) all
  pub so_far : segments ++ map (segment_of bytes) (loads (n - (i + 1)) after) ≡ map (segment_of bytes) all

pub goes_on : (bytes : List ℕ) (all : List ProgramHeader)
    (old new : List SegmentContent) {n i : ℕ} {rest : List ℕ} {header : ProgramHeader} {after : List ℕ}
    → Step n i rest header after → (loads_fault (length bytes) (with_load header []) ≡ None)
    × (new ≡ old ++ map (segment_of bytes) (with_load header []))
    → loads_fault (length bytes) (loads (n - i) rest) ≡ loads_fault (length bytes) all
    → old ++ map (segment_of bytes) (loads (n - i) rest) ≡ map (segment_of bytes) all
    → IsStepped bytes n i after all new
goes_on bytes all old new {n} {i} {rest} {header} {after} s added fault so_far =
    let here = with_load header [] in
    let more = loads (n - (i + 1)) after in
    let joined : map (segment_of bytes) (loads (n - i) rest) ≡ map (segment_of bytes) here
    ++ map (segment_of bytes) more = ap (map (segment_of bytes)) (loads_split s)
    ∙ map-append (segment_of bytes) here more in
    record {
      fault = sym (ap (loads_fault (length bytes)) (loads_split s) ∙ fault_past (length bytes) here more added.0)
          ∙ fault;
      so_far = rw added.1 (append_assoc old (map (segment_of bytes) here) (map (segment_of bytes) more))
          ∙ (ap (λ m. old ++ m) (sym joined) ∙ so_far);
    }
