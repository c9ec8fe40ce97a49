-- What `list` and `asm` come to, and what they leave outside, the tool line apart.
use Rattle.std.specs.Prelude.{◌≡◌, ℕ, List, [], Some, None, Result, Ok, Err}
use Rattle.sb_outside.specs.declared.source.Failed.{Failed}
use Rattle.sb_outside.specs.Content.{gained, GainsPart, Writes}
use Rattle.sb_outside.specs.Faults.{next_count}
use Rattle.elf_image.specs.Layout.{code_ranges}
use Rattle.elf_image.specs.Tests.{image_fault}
use Rattle.rv_listing.specs.Listings.{listing_text, read_listing}
use Rattle.sbcets_core.specs.declared.outcome.ReadFault.TheVariants.{TooLong}
use Rattle.sbcets_core.specs.declared.outcome.ReadFault.TheVariants as reads
use Rattle.sbcets_core.specs.declared.outcome.Outcome.{Outcome}
use Rattle.sbcets_core.specs.declared.outcome.Outcome.TheVariants.{WriteFault, Memory, ImageRefused, Done, ListRefused}
use Rattle.sbcets_core.specs.declared.outcome.Outcome.TheVariants as outcomes
use Rattle.sbcets_core.specs.Outcomes.{max_image_file, max_listing}
use Rattle.sbcets_core.specs.Commands.{Held, Outside, IsRead, IsTooLong, OnlyReads, ReadsAtMostOnce, RefusesImage}

-- LIST. The listing of the bytes of an image
abbrev pub listing_of : List ℕ → List ℕ
listing_of bytes = listing_text bytes (code_ranges bytes)

-- an image was read, and nothing else outside changed but the output
pub record ReadsImage (name image : List ℕ) (before after : Outside) : Type 0 where
  pub bytes : List ℕ
  pub read : IsRead before.files name max_image_file bytes
  pub readable : image_fault bytes ≡ None
  pub files : after.files ≡ before.files
  pub asked : after.reads ≡ next_count before.reads
  pub unwritten : after.writes ≡ before.writes
  pub input : after.streams.input ≡ before.streams.input
  pub errors : after.streams.errors ≡ before.streams.errors
  pub none : image ≡ []

-- its listing was put to the output
pub record IsListed (name image : List ℕ) (before after : Outside) : Type 0 where
  pub of : ReadsImage name image before after
  pub output : after.streams.output ≡ gained before.streams.output (listing_of of.bytes)

-- a part of it was
pub record IsListedInPart (name image : List ℕ) (before after : Outside) : Type 0 where
  pub of : ReadsImage name image before after
  pub output : GainsPart before.streams.output after.streams.output (listing_of of.bytes)

abbrev pub Lists : (name : List ℕ) → Outcome → List ℕ → Outside → Outside → Type 0
Lists name Done image before after = IsListed name image before after
Lists name WriteFault image before after = IsListedInPart name image before after
Lists name (ImageRefused fault) image before after = RefusesImage name fault before.files × OnlyReads image before after
Lists name (outcomes.ReadFault reads.Failed) image before after = OnlyReads image before after
Lists name (outcomes.ReadFault (TooLong n most)) image before after =
    IsTooLong name max_image_file n most before.files × OnlyReads image before after
Lists name Memory image before after = ReadsAtMostOnce image before after
Lists name outcome image before after = ⊥

-- ASM. A listing spells a readable image
pub record Spells (text bytes : List ℕ) : Type 0 where
  pub read : read_listing text ≡ Ok bytes
  pub readable : image_fault bytes ≡ None

-- it spells none: at a line, or by the first test of images that its bytes fail
abbrev pub SpellsNone : (text : List ℕ) → Outcome → Type 0
SpellsNone text (ListRefused kind line) = read_listing text ≡ Err (kind, line)
SpellsNone text (ImageRefused fault) = (bytes : List ℕ) × (read_listing text ≡ Ok bytes)
    × (image_fault bytes ≡ Some fault)
SpellsNone text Memory = Unit {0}
SpellsNone text outcome = ⊥

-- a listing was read, and by one write the file now holds the image that it spells, or a part of that
pub record AssembledInto (name target : List ℕ) (written : Result (Unit {0}) Failed) (image : List ℕ)
    (before after : Outside) : Type 0 where
  pub text : List ℕ
  pub read : IsRead before.files name max_listing text
  pub bytes : List ℕ
  pub spells : Spells text bytes
  pub writes : Writes before.files after.files target bytes written
  pub asked : after.reads ≡ next_count before.reads
  pub once : after.writes ≡ next_count before.writes
  pub streams : after.streams ≡ before.streams
  pub none : image ≡ []

-- a listing was read, and spells no image
pub record RefusesListing (name : List ℕ) (outcome : Outcome) (held : Held) : Type 0 where
  pub text : List ℕ
  pub read : IsRead held name max_listing text
  pub refused : SpellsNone text outcome

abbrev pub Assembles : (name target : List ℕ) → Outcome → List ℕ → Outside → Outside → Type 0
Assembles name target Done image before after = AssembledInto name target (Ok tt) image before after
Assembles name target WriteFault image before after = AssembledInto name target (Err record {}) image before after
Assembles name target (ListRefused kind line) image before after =
    RefusesListing name (ListRefused kind line) before.files × OnlyReads image before after
Assembles name target (ImageRefused fault) image before after =
    RefusesListing name (ImageRefused fault) before.files × OnlyReads image before after
Assembles name target (outcomes.ReadFault reads.Failed) image before after = OnlyReads image before after
Assembles name target (outcomes.ReadFault (TooLong n most)) image before after =
    IsTooLong name max_listing n most before.files × OnlyReads image before after
Assembles name target Memory image before after = ReadsAtMostOnce image before after
Assembles name target outcome image before after = ⊥
