-- `run` of the file that `build` left.
use Rattle.std.proofs.Common.{◌≡◌, ℕ, List, [], Option, Some, None, Ok, inr, ⊎_elim, refl, sym, ap, ◌∙◌, subst}
use Rattle.std.specs.Prelude.{IfSome}
use Rattle.elf_image.specs.Tests.{image_fault}
use Rattle.sb_outside.specs.Content.{Writes}
use Rattle.sb_outside.specs.Faults.{next_count}
use Rattle.rv_sim.specs.declared.stop.Stop.{Stop}
use Rattle.rv_sim.specs.declared.stop.Stop.TheVariants as stops
use Rattle.sbcets_core.specs.declared.outcome.ReadFault.TheVariants.{TooLong}
use Rattle.sbcets_core.specs.declared.outcome.ReadFault.TheVariants as reads
use Rattle.sbcets_core.specs.declared.outcome.Outcome.{Outcome}
use Rattle.sbcets_core.specs.declared.outcome.Outcome.TheVariants.{Exited, Built, Usage, WriteFault, InputFault, Memory}
use Rattle.sbcets_core.specs.declared.outcome.Outcome.TheVariants.{Limit, Refused, ImageRefused, Trap}
use Rattle.sbcets_core.specs.declared.outcome.Outcome.TheVariants.{Done, Running, ListRefused}
use Rattle.sbcets_core.specs.declared.outcome.Outcome.TheVariants as outcomes
use Rattle.sb_base.specs.Budgets.{BudgetSizes}
use Rattle.image_compiler.specs.declared.compiler.Built.{Built as BuiltImage}
use Rattle.sbcets_core.specs.Outcomes.{max_source, max_image_file}
use Rattle.sbcets_core.specs.Accepted.{IsBuiltFrom}
use Rattle.sbcets_core.specs.Commands.{Outside, Streams, DoesNothing, OnlyReads, IsRead, RunsImage, RanFile, Builds, Goes, Runs}
use Rattle.sbcets_core.specs.Commands.{outcome_of}
use Rattle.sbcets_core.proofs.Cases.{went_goes}
use Rattle.sbcets_core.proofs.Complete.{read_is, not_too_long}

-- the file that was written holds the bytes
written_is : (old new : Option (List ℕ → Option (List ℕ))) (files : List ℕ → Option (List ℕ)) (name bytes : List ℕ)
    → Writes {T = Unit {0}} old new name bytes (Ok tt) → new ≡ Some files → files name ≡ Some bytes
written_is None new files name bytes w told = absurd (cc (w, told))
written_is (Some old) None files name bytes w told = absurd w
written_is (Some old) (Some new) files name bytes w told = subst (λ h. IfSome h (λ f. f name ≡ Some bytes))
    told w.written

-- the files before the build, with other streams
abbrev pub beside : Outside → Streams → Outside
beside before streams = record before { streams = streams }

-- and behind the one read that a command asks for
abbrev pub beside_read : Outside → Streams → Outside
beside_read before streams = record before { reads = next_count before.reads; streams = streams }

-- what is known of the files when the run starts
record WasBuilt (name target : List ℕ) (budgets : BudgetSizes) (before start : Outside) : Type 0 where
  files : List ℕ → Option (List ℕ)
  told : start.files ≡ Some files
  built : BuiltImage
  there : files target ≡ Some built.image.items
  source : List ℕ
  read : IsRead before.files name max_source source
  is_built : IsBuiltFrom source budgets built

ran : (name target : List ℕ) (budgets : BudgetSizes) (limit : ℕ) (stop : Stop) (before start after : Outside)
    → WasBuilt name target budgets before start → RanFile target limit stop [] start after
    → (image : List ℕ) × Goes name budgets limit (outcome_of stop limit) image (beside before start.streams)
    (beside_read before after.streams)
ran name target budgets limit stop before start after b r =
    let same = read_is start.files b.files target b.built.image.items r.bytes max_image_file b.told b.there r.read in
    let run : RunsImage b.built.image.items limit stop start.streams after.streams = subst
    (λ bytes. RunsImage bytes limit stop start.streams after.streams) same r.run in (
      b.built.image.items,
      went_goes name budgets limit b.built stop (beside before start.streams) (beside_read before after.streams)
          (record { source = b.source; read = b.read; is_built = b.is_built }) run refl refl refl,
    )

idle : (before start after : Outside) → OnlyReads [] start after
    → OnlyReads [] (beside before start.streams) (beside_read before after.streams)
idle before start after d = record { none = refl; same = ap (λ (o : Outside). beside_read before o.streams) d.same }

unread : (before start after : Outside) → DoesNothing [] start after
    → OnlyReads [] (beside before start.streams) (beside_read before after.streams)
unread before start after d = record { none = refl; same = ap (λ (o : Outside). beside_read before o.streams) d.same }

readable_is : (name target : List ℕ) (budgets : BudgetSizes) (before start : Outside) (bytes : List ℕ)
    → WasBuilt name target budgets before start
    → IsRead start.files target max_image_file bytes → image_fault bytes ≡ None
readable_is name target budgets before start bytes b read =
    subst (λ i. image_fault i ≡ None)
    (sym (read_is start.files b.files target b.built.image.items bytes max_image_file b.told b.there
    read)) b.is_built.means.readable

by_outcome : (name target : List ℕ) (budgets : BudgetSizes) (limit : ℕ) (outcome : Outcome)
    (before start after : Outside)
    → WasBuilt name target budgets before start → Runs target limit outcome [] start after
    → (image : List ℕ) × Goes name budgets limit outcome image (beside before start.streams)
    (beside_read before after.streams)
by_outcome name target budgets limit (Exited code) before start after b r = ran name target budgets limit
    (stops.Exited code) before
    start after b r
by_outcome name target budgets limit (Limit n) before start after b r =
    let w = ran name target budgets limit stops.Limit before start after b r.1 in
    (w.0, (r.0, w.1.1))
by_outcome name target budgets limit WriteFault before start after b r = ran name target budgets limit
    stops.OutputFault before start
    after b r
by_outcome name target budgets limit InputFault before start after b r = ran name target budgets limit stops.InputFault
    before start
    after b r
by_outcome name target budgets limit (Trap kind pc) before start after b r = absurd
    (ran name target budgets limit (stops.Trap kind pc) before start after b r).1
by_outcome name target budgets limit Memory before start after b r =
    ([], inr (⊎_elim (unread before start after) (idle before start after) r))
by_outcome name target budgets limit (outcomes.ReadFault reads.Failed) before start after b r =
    ([], idle before start after r)
by_outcome name target budgets limit (outcomes.ReadFault (TooLong n most)) before start after b r =
    absurd (not_too_long start.files b.files target b.built.image.items max_image_file n most b.told b.there
    b.is_built.means.size r.0)
by_outcome name target budgets limit (ImageRefused fault) before start after b r =
    let readable = readable_is name target budgets before start r.0.bytes b r.0.read in
    let refused = r.0.refused in
    absurd (cc (readable, refused))
by_outcome name target budgets limit (Refused refusal) before start after b r = absurd r
by_outcome name target budgets limit Built before start after b r = absurd r
by_outcome name target budgets limit Usage before start after b r = absurd r
by_outcome name target budgets limit Done before start after b r = absurd r
by_outcome name target budgets limit (Running n) before start after b r = absurd r
by_outcome name target budgets limit (ListRefused kind line) before start after b r = absurd r

pub run_of_built : (name target : List ℕ) (budgets : BudgetSizes) (limit : ℕ) (outcome : Outcome)
    (before between start after : Outside)
    (files : List ℕ → Option (List ℕ)) → between.files ≡ Some files → start.files ≡ between.files
    → Builds name target budgets Built [] before between → Runs target limit outcome [] start after
    → (image : List ℕ) × Goes name budgets limit outcome image (record before { streams = start.streams })
    (record before { reads = next_count before.reads; streams = after.streams })
run_of_built name target budgets limit outcome before between start after files told same b r =
    let into = b.into in
    by_outcome name target budgets limit outcome before start after
    (record {
      files = files;
      told = same ∙ told;
      built = into.built;
      there = written_is before.files between.files files target into.built.image.items into.writes told;
      source = into.source;
      read = into.read;
      is_built = into.is_built;
    }) r
