-- The outcomes of `list` and `asm`, case by case.
use Rattle.std.proofs.Common.{◌≡◌, ℕ, List, [], Option, Some, None, Result, Ok, Err, inl, inr, refl, subst}
use Rattle.sb_outside.specs.declared.source.Failed.{Failed}
use Rattle.sb_outside.specs.Content.{gained, GainsPart, Writes}
use Rattle.sb_outside.specs.Faults.{next_count}
use Rattle.elf_image.specs.declared.fault.ImageFault.{ImageFault}
use Rattle.elf_image.specs.Tests.{image_fault}
use Rattle.sbcets_core.specs.declared.outcome.ReadFault.TheVariants.{TooLong}
use Rattle.sbcets_core.specs.declared.outcome.ReadFault.TheVariants as reads
use Rattle.sbcets_core.specs.declared.outcome.Outcome.{Outcome}
use Rattle.sbcets_core.specs.declared.outcome.Outcome.TheVariants.{Exited, Built, Usage, WriteFault, InputFault, Memory}
use Rattle.sbcets_core.specs.declared.outcome.Outcome.TheVariants.{Limit, Refused, ImageRefused, Trap}
use Rattle.sbcets_core.specs.declared.outcome.Outcome.TheVariants.{Done, Running, ListRefused}
use Rattle.sbcets_core.specs.declared.outcome.Outcome.TheVariants as outcomes
use Rattle.sbcets_core.specs.Outcomes.{max_image_file, max_listing}
use Rattle.sbcets_core.specs.Counting.{Counts, CommandCounts}
use Rattle.sbcets_core.specs.Commands.{Outside, IsRead, IsUnread, DoesNothing, OnlyReads}
use Rattle.command_line.specs.Asked.{Asked, go, run, build, list, assemble, work}
use Rattle.sbcets_core.specs.Top.{Does}
use Rattle.sbcets_core.specs.Listings.{Lists, Assembles, Spells, SpellsNone, ReadsImage, AssembledInto, listing_of}
use Rattle.sbcets_core.proofs.Cases.{unread_counts}

-- a command that got nothing does nothing
pub unread_lists : (name : List ℕ) (outcome : Outcome) (image : List ℕ) (before after : Outside)
    → OnlyReads image before after → IsUnread name max_image_file outcome before.files
    → Lists name outcome image before after
unread_lists name (outcomes.ReadFault reads.Failed) image before after d u = d
unread_lists name (outcomes.ReadFault (TooLong n most)) image before after d u = (u, d)
unread_lists name Memory image before after d u = inr d
unread_lists name (Refused refusal) image before after d u = absurd u
unread_lists name (Exited code) image before after d u = absurd u
unread_lists name Built image before after d u = absurd u
unread_lists name Done image before after d u = absurd u
unread_lists name Usage image before after d u = absurd u
unread_lists name WriteFault image before after d u = absurd u
unread_lists name InputFault image before after d u = absurd u
unread_lists name (Limit n) image before after d u = absurd u
unread_lists name (Running n) image before after d u = absurd u
unread_lists name (ImageRefused fault) image before after d u = absurd u
unread_lists name (ListRefused kind line) image before after d u = absurd u
unread_lists name (Trap kind pc) image before after d u = absurd u

pub unread_assembles : (name target : List ℕ) (outcome : Outcome) (image : List ℕ) (before after : Outside)
    → OnlyReads image before after → IsUnread name max_listing outcome before.files
    → Assembles name target outcome image before after
unread_assembles name target (outcomes.ReadFault reads.Failed) image before after d u = d
unread_assembles name target (outcomes.ReadFault (TooLong n most)) image before after d u = (u, d)
unread_assembles name target Memory image before after d u = inr d
unread_assembles name target (Refused refusal) image before after d u = absurd u
unread_assembles name target (Exited code) image before after d u = absurd u
unread_assembles name target Built image before after d u = absurd u
unread_assembles name target Done image before after d u = absurd u
unread_assembles name target Usage image before after d u = absurd u
unread_assembles name target WriteFault image before after d u = absurd u
unread_assembles name target InputFault image before after d u = absurd u
unread_assembles name target (Limit n) image before after d u = absurd u
unread_assembles name target (Running n) image before after d u = absurd u
unread_assembles name target (ImageRefused fault) image before after d u = absurd u
unread_assembles name target (ListRefused kind line) image before after d u = absurd u
unread_assembles name target (Trap kind pc) image before after d u = absurd u

-- a listing that spells no image
pub refused_assembles : (name target text : List ℕ) (outcome : Outcome) (image : List ℕ) (before after : Outside)
    → OnlyReads image before after → IsRead before.files name max_listing text → SpellsNone text outcome
    → Assembles name target outcome image before after
refused_assembles name target text (ListRefused kind line) image before after d r e =
    (record { text = text; read = r; refused = e }, d)
refused_assembles name target text (ImageRefused fault) image before after d r e =
    (record { text = text; read = r; refused = e }, d)
refused_assembles name target text Memory image before after d r e = inr d
refused_assembles name target text (outcomes.ReadFault fault) image before after d r e = absurd e
refused_assembles name target text (Refused refusal) image before after d r e = absurd e
refused_assembles name target text (Exited code) image before after d r e = absurd e
refused_assembles name target text Built image before after d r e = absurd e
refused_assembles name target text Done image before after d r e = absurd e
refused_assembles name target text Usage image before after d r e = absurd e
refused_assembles name target text WriteFault image before after d r e = absurd e
refused_assembles name target text InputFault image before after d r e = absurd e
refused_assembles name target text (Limit n) image before after d r e = absurd e
refused_assembles name target text (Running n) image before after d r e = absurd e
refused_assembles name target text (Trap kind pc) image before after d r e = absurd e

pub refused_counts : (text : List ℕ) (outcome : Outcome) (before after : Counts) → after ≡ before
    → SpellsNone text outcome → CommandCounts outcome before after
refused_counts text (ListRefused kind line) before after same e = same
refused_counts text (ImageRefused fault) before after same e = same
refused_counts text Memory before after same e = same
refused_counts text (outcomes.ReadFault fault) before after same e = absurd e
refused_counts text (Refused refusal) before after same e = absurd e
refused_counts text (Exited code) before after same e = absurd e
refused_counts text Built before after same e = absurd e
refused_counts text Done before after same e = absurd e
refused_counts text Usage before after same e = absurd e
refused_counts text WriteFault before after same e = absurd e
refused_counts text InputFault before after same e = absurd e
refused_counts text (Limit n) before after same e = absurd e
refused_counts text (Running n) before after same e = absurd e
refused_counts text (Trap kind pc) before after same e = absurd e

-- ---- what was done

reads_image : (name bytes : List ℕ) (before after : Outside) → IsRead before.files name max_image_file bytes
    → image_fault bytes ≡ None → after.files ≡ before.files → after.reads ≡ next_count before.reads
    → after.writes ≡ before.writes → after.streams.input ≡ before.streams.input
    → after.streams.errors ≡ before.streams.errors → ReadsImage name [] before after
reads_image name bytes before after read readable files asked unwritten input errors = record {
  bytes = bytes;
  read = read;
  readable = readable;
  files = files;
  asked = asked;
  unwritten = unwritten;
  input = input;
  errors = errors;
  none = refl;
}

pub listed_lists : (name bytes text : List ℕ) (before after : Outside) → IsRead before.files name max_image_file bytes
    → image_fault bytes ≡ None → text ≡ listing_of bytes → after.files ≡ before.files
    → after.reads ≡ next_count before.reads → after.writes ≡ before.writes
    → after.streams.input ≡ before.streams.input → after.streams.errors ≡ before.streams.errors
    → after.streams.output ≡ gained before.streams.output text → Lists name Done [] before after
unfolding reads_image
listed_lists name bytes text before after read readable is files asked unwritten input errors output = record {
  of = reads_image name bytes before after read readable files asked unwritten input errors;
  output = subst (λ t. after.streams.output ≡ gained before.streams.output t) is output;
}

pub part_lists : (name bytes text : List ℕ) (before after : Outside) → IsRead before.files name max_image_file bytes
    → image_fault bytes ≡ None → text ≡ listing_of bytes → after.files ≡ before.files
    → after.reads ≡ next_count before.reads → after.writes ≡ before.writes
    → after.streams.input ≡ before.streams.input → after.streams.errors ≡ before.streams.errors
    → GainsPart before.streams.output after.streams.output text → Lists name WriteFault [] before after
unfolding reads_image
part_lists name bytes text before after read readable is files asked unwritten input errors output = record {
  of = reads_image name bytes before after read readable files asked unwritten input errors;
  output = subst (λ t. GainsPart before.streams.output after.streams.output t) is output;
}

pub refused_lists : (name bytes : List ℕ) (fault : ImageFault) (before after : Outside) → OnlyReads [] before after
    → IsRead before.files name max_image_file bytes → image_fault bytes ≡ Some fault
    → Lists name (ImageRefused fault) [] before after
refused_lists name bytes fault before after d read refused =
    (record { bytes = bytes; read = read; refused = refused }, d)

assembled_into : (name target text bytes : List ℕ) (written : Result (Unit {0}) Failed) (before after : Outside)
    → IsRead before.files name max_listing text → Spells text bytes
    → Writes before.files after.files target bytes written → after.reads ≡ next_count before.reads
    → after.writes ≡ next_count before.writes → after.streams ≡ before.streams
    → AssembledInto name target written [] before after
assembled_into name target text bytes written before after read spells writes asked once streams = record {
  text = text;
  read = read;
  bytes = bytes;
  spells = spells;
  writes = writes;
  asked = asked;
  once = once;
  streams = streams;
  none = refl;
}

pub written_assembles : (name target text bytes : List ℕ) (before after : Outside)
    → IsRead before.files name max_listing text → Spells text bytes
    → Writes {T = Unit {0}} before.files after.files target bytes (Ok tt) → after.reads ≡ next_count before.reads
    → after.writes ≡ next_count before.writes → after.streams ≡ before.streams
    → Assembles name target Done [] before after
written_assembles name target text bytes before after =
    assembled_into name target text bytes (Ok tt) before after

pub unwritten_assembles : (name target text bytes : List ℕ) (before after : Outside)
    → IsRead before.files name max_listing text → Spells text bytes
    → Writes {T = Unit {0}} before.files after.files target bytes (Err record {}) → after.reads ≡ next_count before.reads
    → after.writes ≡ next_count before.writes → after.streams ≡ before.streams
    → Assembles name target WriteFault [] before after
unwritten_assembles name target text bytes before after =
    assembled_into name target text bytes (Err record {}) before after

-- words for which there is no memory, whatever they ask for
pub memory_does : (command : Option Asked) (image : List ℕ) (before after : Outside) → DoesNothing image before after
    → Does command Memory image before after
memory_does None image before after d = (inr refl, d)
memory_does (Some (go name budgets limit)) image before after d = inl d
memory_does (Some (run name limit)) image before after d = inl d
memory_does (Some (build name target budgets)) image before after d = inl d
memory_does (Some (list name)) image before after d = inl d
memory_does (Some (assemble name target)) image before after d = inl d
memory_does (Some (work seed count)) image before after d = d

-- the cases of `list`, and of `asm`
pub ruleset listing = (unread_lists, listed_lists, part_lists, refused_lists, unread_counts)

pub ruleset assembling = (
  unread_assembles,
  refused_assembles,
  written_assembles,
  unwritten_assembles,
  unread_counts,
  refused_counts,
)
