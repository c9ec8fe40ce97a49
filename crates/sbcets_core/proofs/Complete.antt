-- What keeps a command from its end, where its file is there and is what it has to be.
use Rattle.std.proofs.Common.{◌≡◌, ◌≤◌, ℕ, true, false, List, length, Option, Some, None, Ok, ⊎_elim, sym}
use Rattle.std.proofs.Common.{subst, arith}
use Rattle.std.specs.Prelude.{IfSome}
use Rattle.sbcets_core.specs.declared.outcome.ReadFault.TheVariants.{TooLong}
use Rattle.sbcets_core.specs.declared.outcome.ReadFault.TheVariants as reads
use Rattle.sbcets_core.specs.declared.outcome.Outcome.{Outcome}
use Rattle.sbcets_core.specs.declared.outcome.Outcome.TheVariants.{Exited, Built, Usage, WriteFault, InputFault, Memory}
use Rattle.sbcets_core.specs.declared.outcome.Outcome.TheVariants.{Limit, Refused, ImageRefused, Trap}
use Rattle.sbcets_core.specs.declared.outcome.Outcome.TheVariants.{Done, Running, ListRefused}
use Rattle.sbcets_core.specs.declared.outcome.Outcome.TheVariants as outcomes
use Rattle.command_line.specs.Asked.{Asked, build, run, go, list, assemble, work}
use Rattle.command_line.specs.Generator.{work_source}
use Rattle.sbcets_core.specs.Outcomes.{max_source, max_image_file, max_listing}
use Rattle.sbcets_core.specs.declared.refusal.SourceRefusal.{SourceRefusal}
use Rattle.elf_image.specs.declared.fault.ImageFault.{ImageFault}
use Rattle.sbcets_core.specs.Commands.{Outside, IsRead, IsTooLong, RefusesSource, RefusesImage, Goes, Runs, Builds}
use Rattle.sbcets_core.specs.Listings.{Lists, Assembles, Spells, RefusesListing, SpellsNone}
use Rattle.sbcets_core.specs.Works.{Works}
use Rattle.sb_base.specs.Budgets.{BudgetSizes, default_sizes}
use Rattle.c_tree.specs.Programs.{Program}
use Rattle.compiled_programs.specs.Programs.{is_integer_program}
use Rattle.image_compiler.specs.declared.error.CompileError.{CompileError}
use Rattle.image_compiler.specs.declared.error.CompileError.TheVariants as compile
use Rattle.sbcets_core.specs.Accepted.{Judges, IsOfSize, IsTooLarge, IsUncompiled, Refuses}
use Rattle.sbcets_core.specs.Top.{Does, IsAcceptedFile, IsReadableFile, IsOfRun, IsOfGo, IsOfBuild, IsComplete}
use Rattle.sbcets_core.specs.Top.{IsRefusalOf, IsListingFile, IsOfListing, IsOfWork}
use Rattle.sbcets_core.proofs.Judging.{not_both, one_program}

-- what is read is what the file of the name holds
pub read_is : (held : Option (List ℕ → Option (List ℕ))) (files : List ℕ → Option (List ℕ)) (name bytes read : List ℕ)
    (max : ℕ) → held ≡ Some files → files name ≡ Some bytes → IsRead held name max read → read ≡ bytes
read_is held files name bytes read max told there r =
    let at_files : IfSome (Some files) (λ f. f name ≡ Some read) = subst (λ h. IfSome h (λ f. f name ≡ Some read)) told
    r.holds in
    cc (at_files, there)

pub not_too_long : (held : Option (List ℕ → Option (List ℕ))) (files : List ℕ → Option (List ℕ)) (name bytes : List ℕ)
    (max n most : ℕ) → held ≡ Some files → files name ≡ Some bytes → length bytes ≤ max → IsTooLong name max n most held
    → ⊥
not_too_long held files name bytes max n most told there short t =
    let at_files : IfSome (Some files) (λ f. IfSome (f name) (λ b. length b ≡ n)) = subst
    (λ h. IfSome h (λ f. IfSome (f name) (λ b. length b ≡ n))) told t.length_is in
    let at_bytes : IfSome (Some bytes) (λ b. length b ≡ n) = subst (λ o. IfSome o (λ b. length b ≡ n)) there at_files in
    let more = t.more in
    omega (arith, more, at_bytes, short)

-- a refusal of what is accepted is one by size, or for what is not compiled yet
by_size : (p : Program) (e : CompileError) (refusal : SourceRefusal) → is_integer_program p ≡ true
    → IsOfSize e refusal → IsRefusalOf p refusal
by_size p compile.NumbersTooLarge refusal integers is = subst (IsRefusalOf p) (sym is) integers
by_size p (compile.TooLarge bytes) refusal integers is = subst (IsRefusalOf p) (sym is) integers
by_size p compile.Memory refusal integers is = absurd is

refused_by_size : (source : List ℕ) (p : Program) (budgets : BudgetSizes) (refusal : SourceRefusal)
    → Judges source (Ok p) → IsTooLarge source budgets refusal → IsRefusalOf p refusal
refused_by_size source p budgets refusal accepts t =
    subst (λ q. IsRefusalOf q refusal) (one_program source t.program p t.accepts accepts)
    (by_size t.program t.error refusal t.integers t.is)

refused_uncompiled : (source : List ℕ) (p : Program) (refusal : SourceRefusal) → Judges source (Ok p)
    → IsUncompiled source refusal → IsRefusalOf p refusal
refused_uncompiled source p refusal accepts u =
    let others = subst (λ q. is_integer_program q ≡ false) (one_program source u.program p u.accepts accepts) u.others in
    subst (IsRefusalOf p) (sym u.is) others

refused_of : (source : List ℕ) (p : Program) (budgets : BudgetSizes) (refusal : SourceRefusal) → Judges source (Ok p)
    → Refuses source budgets refusal → IsRefusalOf p refusal
refused_of source p budgets refusal accepts r =
    ⊎_elim (λ j. absurd (not_both source p refusal accepts j))
    (⊎_elim (refused_by_size source p budgets refusal accepts) (refused_uncompiled source p refusal accepts)) r

refused_file : (held : Option (List ℕ → Option (List ℕ))) (name : List ℕ) (budgets : BudgetSizes)
    (refusal : SourceRefusal) (f : IsAcceptedFile held name) → RefusesSource name budgets refusal held
    → IsRefusalOf f.program refusal
refused_file held name budgets refusal f r =
    let same = read_is held f.files name f.source r.source max_source f.told f.there r.read in
    refused_of f.source f.program budgets refusal f.accepts
    (subst (λ s. Refuses s budgets refusal) same r.refused)

not_image_refused : (held : Option (List ℕ → Option (List ℕ))) (name : List ℕ) (fault : ImageFault)
    → IsReadableFile held name → RefusesImage name fault held → ⊥
not_image_refused held name fault f r =
    let same = read_is held f.files name f.image r.bytes max_image_file f.told f.there r.read in
    let readable = f.readable in
    let refused = r.refused in
    cc (same, readable, refused)

go_ends : (name : List ℕ) (budgets : BudgetSizes) (limit : ℕ) (outcome : Outcome) (image : List ℕ)
    (before after : Outside)
    (f : IsAcceptedFile before.files name) → Goes name budgets limit outcome image before after
    → IsOfGo f.program outcome
go_ends name budgets limit (Exited code) image before after f d = tt
go_ends name budgets limit (Limit n) image before after f d = tt
go_ends name budgets limit Memory image before after f d = tt
go_ends name budgets limit WriteFault image before after f d = tt
go_ends name budgets limit InputFault image before after f d = tt
go_ends name budgets limit (Trap kind pc) image before after f d = absurd d
go_ends name budgets limit (outcomes.ReadFault reads.Failed) image before after f d = tt
go_ends name budgets limit (outcomes.ReadFault (TooLong n most)) image before after f d = absurd
    (not_too_long before.files f.files name f.source max_source n most f.told f.there f.short d.0)
go_ends name budgets limit (Refused refusal) image before after f d = refused_file before.files name budgets refusal
    f d.0
go_ends name budgets limit (ImageRefused fault) image before after f d = absurd d
go_ends name budgets limit Built image before after f d = absurd d
go_ends name budgets limit Usage image before after f d = absurd d
go_ends name budgets limit Done image before after f d = absurd d
go_ends name budgets limit (Running n) image before after f d = absurd d
go_ends name budgets limit (ListRefused kind line) image before after f d = absurd d

run_ends : (name : List ℕ) (limit : ℕ) (outcome : Outcome) (image : List ℕ) (before after : Outside)
    → IsReadableFile before.files name → Runs name limit outcome image before after → IsOfRun outcome
run_ends name limit (Exited code) image before after f d = tt
run_ends name limit (Limit n) image before after f d = tt
run_ends name limit Memory image before after f d = tt
run_ends name limit WriteFault image before after f d = tt
run_ends name limit InputFault image before after f d = tt
run_ends name limit (Trap kind pc) image before after f d = tt
run_ends name limit (outcomes.ReadFault reads.Failed) image before after f d = tt
run_ends name limit (outcomes.ReadFault (TooLong n most)) image before after f d = absurd
    (not_too_long before.files f.files name f.image max_image_file n most f.told f.there f.short d.0)
run_ends name limit (Refused refusal) image before after f d = absurd d
run_ends name limit (ImageRefused fault) image before after f d = absurd
    (not_image_refused before.files name fault f d.0)
run_ends name limit Built image before after f d = absurd d
run_ends name limit Usage image before after f d = absurd d
run_ends name limit Done image before after f d = absurd d
run_ends name limit (Running n) image before after f d = absurd d
run_ends name limit (ListRefused kind line) image before after f d = absurd d

build_ends : (name target : List ℕ) (budgets : BudgetSizes) (outcome : Outcome) (image : List ℕ)
    (before after : Outside)
    (f : IsAcceptedFile before.files name) → Builds name target budgets outcome image before after
    → IsOfBuild f.program outcome
build_ends name target budgets (Exited code) image before after f d = absurd d
build_ends name target budgets (Limit n) image before after f d = absurd d
build_ends name target budgets Memory image before after f d = tt
build_ends name target budgets WriteFault image before after f d = tt
build_ends name target budgets InputFault image before after f d = absurd d
build_ends name target budgets (Trap kind pc) image before after f d = absurd d
build_ends name target budgets (outcomes.ReadFault reads.Failed) image before after f d = tt
build_ends name target budgets (outcomes.ReadFault (TooLong n most)) image before after f d = absurd
    (not_too_long before.files f.files name f.source max_source n most f.told f.there f.short d.0)
build_ends name target budgets (Refused refusal) image before after f d =
    refused_file before.files name budgets refusal f d.0
build_ends name target budgets (ImageRefused fault) image before after f d = absurd d
build_ends name target budgets Built image before after f d = tt
build_ends name target budgets Usage image before after f d = absurd d
build_ends name target budgets Done image before after f d = absurd d
build_ends name target budgets (Running n) image before after f d = absurd d
build_ends name target budgets (ListRefused kind line) image before after f d = absurd d

-- a listing that spells an image is not refused
spells_some : (text image : List ℕ) (outcome : Outcome) → Spells text image → SpellsNone text outcome
    → IsOfListing outcome
spells_some text image (ListRefused kind line) s r = absurd (cc (s.read, r))
spells_some text image (ImageRefused fault) s r =
    let read = s.read in
    let readable = s.readable in
    let other = r.1 in
    let refused = r.2 in
    absurd (cc (read, readable, other, refused))
spells_some text image Memory s r = tt
spells_some text image (outcomes.ReadFault fault) s r = absurd r
spells_some text image WriteFault s r = absurd r
spells_some text image Done s r = absurd r
spells_some text image (Exited code) s r = absurd r
spells_some text image Built s r = absurd r
spells_some text image Usage s r = absurd r
spells_some text image InputFault s r = absurd r
spells_some text image (Limit n) s r = absurd r
spells_some text image (Running n) s r = absurd r
spells_some text image (Refused refusal) s r = absurd r
spells_some text image (Trap kind pc) s r = absurd r

not_list_refused : (held : Option (List ℕ → Option (List ℕ))) (name : List ℕ) (outcome : Outcome)
    → IsListingFile held name → RefusesListing name outcome held → IsOfListing outcome
not_list_refused held name outcome f r =
    let same = read_is held f.files name f.text r.text max_listing f.told f.there r.read in
    spells_some f.text f.image outcome f.spells (subst (λ t. SpellsNone t outcome) same r.refused)

list_ends : (name : List ℕ) (outcome : Outcome) (image : List ℕ) (before after : Outside)
    → IsReadableFile before.files name → Lists name outcome image before after → IsOfListing outcome
list_ends name Done image before after f d = tt
list_ends name WriteFault image before after f d = tt
list_ends name Memory image before after f d = tt
list_ends name (outcomes.ReadFault reads.Failed) image before after f d = tt
list_ends name (outcomes.ReadFault (TooLong n most)) image before after f d = absurd
    (not_too_long before.files f.files name f.image max_image_file n most f.told f.there f.short d.0)
list_ends name (ImageRefused fault) image before after f d = absurd
    (not_image_refused before.files name fault f d.0)
list_ends name (ListRefused kind line) image before after f d = absurd d
list_ends name (Exited code) image before after f d = absurd d
list_ends name Built image before after f d = absurd d
list_ends name Usage image before after f d = absurd d
list_ends name InputFault image before after f d = absurd d
list_ends name (Limit n) image before after f d = absurd d
list_ends name (Running n) image before after f d = absurd d
list_ends name (Refused refusal) image before after f d = absurd d
list_ends name (Trap kind pc) image before after f d = absurd d

assemble_ends : (name target : List ℕ) (outcome : Outcome) (image : List ℕ) (before after : Outside)
    → IsListingFile before.files name → Assembles name target outcome image before after → IsOfListing outcome
assemble_ends name target Done image before after f d = tt
assemble_ends name target WriteFault image before after f d = tt
assemble_ends name target Memory image before after f d = tt
assemble_ends name target (outcomes.ReadFault reads.Failed) image before after f d = tt
assemble_ends name target (outcomes.ReadFault (TooLong n most)) image before after f d = absurd
    (not_too_long before.files f.files name f.text max_listing n most f.told f.there f.short d.0)
assemble_ends name target (ImageRefused fault) image before after f d =
    not_list_refused before.files name (ImageRefused fault) f d.0
assemble_ends name target (ListRefused kind line) image before after f d =
    not_list_refused before.files name (ListRefused kind line) f d.0
assemble_ends name target (Exited code) image before after f d = absurd d
assemble_ends name target Built image before after f d = absurd d
assemble_ends name target Usage image before after f d = absurd d
assemble_ends name target InputFault image before after f d = absurd d
assemble_ends name target (Limit n) image before after f d = absurd d
assemble_ends name target (Running n) image before after f d = absurd d
assemble_ends name target (Refused refusal) image before after f d = absurd d
assemble_ends name target (Trap kind pc) image before after f d = absurd d

work_ends : (seed count : ℕ) (outcome : Outcome) (image : List ℕ) (before after : Outside) (program : Program)
    → Judges (work_source seed count) (Ok program) → Works seed count outcome image before after
    → IsOfWork program outcome
work_ends seed count (Exited code) image before after program j d = tt
work_ends seed count (Limit n) image before after program j d = tt
work_ends seed count Memory image before after program j d = tt
work_ends seed count WriteFault image before after program j d = tt
work_ends seed count (Refused refusal) image before after program j d =
    refused_of (work_source seed count) program default_sizes refusal j d.0
work_ends seed count InputFault image before after program j d = absurd d
work_ends seed count (Trap kind pc) image before after program j d = absurd d
work_ends seed count (outcomes.ReadFault fault) image before after program j d = absurd d
work_ends seed count (ImageRefused fault) image before after program j d = absurd d
work_ends seed count Built image before after program j d = absurd d
work_ends seed count Usage image before after program j d = absurd d
work_ends seed count Done image before after program j d = absurd d
work_ends seed count (Running n) image before after program j d = absurd d
work_ends seed count (ListRefused kind line) image before after program j d = absurd d

pub complete : (command : Option Asked) (outcome : Outcome) (image : List ℕ) (before after : Outside)
    → Does command outcome image before after → IsComplete command outcome before.files
complete (Some (go name budgets limit)) outcome image before after d = λ f. go_ends name budgets limit outcome image
    before after f d
complete (Some (run name limit)) outcome image before after d = λ f. run_ends name limit outcome image before after f d
complete (Some (build name target budgets)) outcome image before after d = λ f. build_ends name target budgets outcome
    image
    before after f d
complete (Some (list name)) outcome image before after d = λ f. list_ends name outcome image before after f d
complete (Some (assemble name target)) outcome image before after d = λ f. assemble_ends name target outcome image
    before after f d
complete (Some (work seed count)) outcome image before after d = λ program accepts. work_ends seed count outcome image
    before after program accepts d
complete None outcome image before after d = tt
