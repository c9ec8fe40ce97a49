-- The program of an accepted source, or why the source is refused.
use Rattle.std.specs.Prelude.{◌≡◌, ◌≤◌, ◌⊎◌, ℕ, ◌-◌, ◌^◌, min, nat_lt, true, false, List, length, Option, Some}
use Rattle.std.specs.Prelude.{None, Result, Ok, Err, if◌then◌else◌}
use Rattle.c_lexer.specs.declared.lexer.LexFault.{LexFault}
use Rattle.c_lexer.specs.Spelled.{TokenList}
use Rattle.c_lexer.specs.Text.{tokens}
use Rattle.c_pre.specs.declared.fault.PreFault.{PreFault}
use Rattle.c_pre.specs.Reading.{expanded}
use Rattle.c_syntax.specs.Statements.{Unit as Tree}
use Rattle.c_parser.specs.declared.unsupported.UnsupportedWord.{UnsupportedWord}
use Rattle.c_parser.specs.Unsupported.{told_as, first_unsupported}
use Rattle.c_parser.specs.Parsed.{IsTreeOf, IsRefusedAt}
use Rattle.sb_base.specs.Budgets.{BudgetSizes}
use Rattle.c_tree.specs.Programs.{Program}
use Rattle.c_tree.specs.ValidProgram.{is_valid_program}
use Rattle.c_const.specs.Initializers.{first_not_constant}
use Rattle.c_unit_typing.specs.Typed.{a_program, most_functions, typed_unit}
use Rattle.source_meaning.specs.Meaning.{statics_end}
use Rattle.c_typer.specs.Limited.{IsWithinLimits}
use Rattle.compiled_programs.specs.Programs.{is_integer_program}
use Rattle.program_lowering.specs.ProgramCode.Checks.{checks_of}
use Rattle.image_laws.specs.Images.Images.{sizes_of, HaveFewParameters, IsChecked, DoesWhatIsMeant}
use Rattle.image_compiler.specs.declared.compiler.Built.{Built}
use Rattle.image_compiler.specs.declared.error.CompileError.{CompileError}
use Rattle.image_compiler.specs.declared.error.CompileError.TheVariants as compile
use Rattle.image_compiler.specs.Built.{IsBuilt, IsRefused, NeedsNodes}
use Rattle.image_compiler.specs.Expanded.{IsBuiltByExpansion}
use Rattle.shadow_space.specs.TwoLevel.Tables.{two_level_entry, AreTablesGood}
use Rattle.shadow_space.specs.TwoLevel.Code.{two_level_read_behind, two_level_write_behind}
use Rattle.sbcets_core.specs.declared.refusal.Counted.TheVariants.{Source, Code}
use Rattle.sbcets_core.specs.declared.refusal.SourceRefusal.{SourceRefusal}
use Rattle.sbcets_core.specs.declared.refusal.SourceRefusal.TheVariants.{Lex, Pre, Unsupported, Syntax, Nesting}
use Rattle.sbcets_core.specs.declared.refusal.SourceRefusal.TheVariants.{TooLarge, NumbersTooLarge, Uncompiled}
use Rattle.sbcets_core.specs.declared.refusal.SourceRefusal.TheVariants.{Memory}
use Rattle.sbcets_core.specs.Outcomes.{max_source}
use Rattle.sbcets_core.specs.Programs.{Judged, judged_unit}

-- the expanded tokens of a source, or why it is refused before it is parsed
abbrev pub Readable : Type 0
Readable = Result TokenList SourceRefusal

abbrev pub of_expanded : Result TokenList PreFault → Readable
of_expanded (Err fault) = Err (Pre fault)
of_expanded (Ok list) = Ok list

abbrev pub of_tokens : Result TokenList LexFault → Readable
of_tokens (Err fault) = Err (Lex fault)
of_tokens (Ok list) = of_expanded (expanded list)

-- first the size of a source, then its tokens and their expansion
unfoldable pub expanded_tokens : List ℕ → Readable
expanded_tokens source =
    if nat_lt max_source (length source) then Err (TooLarge Source (length source)) else of_tokens (tokens source)

-- an unsupported word is refused, wherever it stands
abbrev pub unless_unsupported : TokenList → Option (UnsupportedWord × ℕ) → Readable
unless_unsupported list None = Ok list
unless_unsupported list (Some found) = Err (Unsupported (told_as found.0) found.1)

unfoldable pub with_support : TokenList → Readable
with_support list = unless_unsupported list (first_unsupported list.tokens)

abbrev pub of_readable : Readable → Readable
of_readable (Err refusal) = Err refusal
of_readable (Ok list) = with_support list

-- the expanded tokens, none of them unsupported
unfoldable pub supported_tokens : List ℕ → Readable
supported_tokens source = of_readable (expanded_tokens source)

-- tokens without a tree are refused, at a token that is told
abbrev pub RefusesTokens : TokenList → SourceRefusal → Type 0
RefusesTokens list (Syntax at line) = IsRefusedAt list at line false
RefusesTokens list (Nesting at line) = IsRefusedAt list at line true
RefusesTokens list refusal = ⊥

-- those that have one (C99 6.9) are judged as it is typed
pub record IsTyped (list : TokenList) (judged : Judged) : Type 0 where
  pub tree : Tree
  pub written : IsTreeOf list.tokens tree
  pub as_typed : judged ≡ judged_unit (typed_unit list.end tree)

-- none of the tokens is unsupported, and a tree of them is typed as this program, which is as typing leaves it
pub record HasProgram (list : TokenList) (program : Program) : Type 0 where
  pub supported : first_unsupported list.tokens ≡ None
  pub tree : Tree
  pub written : IsTreeOf list.tokens tree
  pub typed : typed_unit list.end tree ≡ a_program program
  pub valid : is_valid_program program ≡ true
  pub constant : first_not_constant program ≡ None
  pub within : IsWithinLimits program

-- what the compiler asks of a program
pub record IsFine (program : Program) : Type 0 where
  pub valid : is_valid_program program ≡ true
  pub constant : first_not_constant program ≡ None
  pub few : length program.functions ≤ most_functions
  pub parameters : HaveFewParameters program
  pub globals : statics_end program.statics 0 ≤ 0x400000

abbrev pub JudgesTokens : TokenList → Judged → Type 0
JudgesTokens list (Ok program) = IsTyped list (Ok program)
JudgesTokens list (Err refusal) = RefusesTokens list refusal ⊎ IsTyped list (Err refusal)

abbrev pub JudgesReadable : Readable → Judged → Type 0
JudgesReadable (Err refusal) judged = judged ≡ Err refusal
JudgesReadable (Ok list) judged = JudgesTokens list judged

-- the meaning of 'accepted source': the source is accepted as this program, or refused so
abbrev pub Judges : List ℕ → Judged → Type 0
Judges source judged = JudgesReadable (supported_tokens source) judged

-- the source has expanded tokens, none of them unsupported, and its text ends on this line
pub record EndsOn (source : List ℕ) (line : ℕ) : Type 0 where
  pub list : TokenList
  pub expands : supported_tokens source ≡ Ok list
  pub line_is : line ≡ list.end

-- what the compiler of programs of integers refuses for its size
abbrev pub IsOfSize : CompileError → SourceRefusal → Type 0
IsOfSize compile.NumbersTooLarge refusal = refusal ≡ NumbersTooLarge
IsOfSize (compile.TooLarge bytes) refusal = refusal ≡ TooLarge Code bytes
IsOfSize compile.Memory refusal = ⊥

-- A source is accepted, its program is one of integers alone, and some checked code of it under some plans of registers
-- is too large. (Which plans are made is not determined by the source.) More than 8388608 bytes come only of a text
-- with more than 8192 nodes.
pub record IsTooLarge (source : List ℕ) (budgets : BudgetSizes) (refusal : SourceRefusal) : Type 0 where
  pub program : Program
  pub accepts : Judges source (Ok program)
  pub integers : is_integer_program program ≡ true
  pub error : CompileError
  pub is : IsOfSize error refusal
  pub refused : IsRefused (IsChecked program) (sizes_of program budgets) error
  pub nodes : NeedsNodes error program

-- A source is accepted, its program is not one of integers alone, and it is not compiled yet; the refusal tells the line
-- on which the text ends. (Which of these programs the tests of the back end pass is not said.)
pub record IsUncompiled (source : List ℕ) (refusal : SourceRefusal) : Type 0 where
  pub program : Program
  pub accepts : Judges source (Ok program)
  pub others : is_integer_program program ≡ false
  pub line : ℕ
  pub ends : EndsOn source line
  pub is : refusal ≡ Uncompiled line

-- why a source has no image
abbrev pub Refuses : List ℕ → BudgetSizes → SourceRefusal → Type 0
Refuses source budgets refusal =
    Judges source (Err refusal) ⊎ (IsTooLarge source budgets refusal ⊎ IsUncompiled source refusal)

-- what was built of a program of integers alone, and of any other: with a shadow space in two levels

pub record IsBuiltOfIntegers (program : Program) (budgets : BudgetSizes) (built : Built) : Type 0 where
  pub integers : is_integer_program program ≡ true
  pub is_built : IsBuilt (IsChecked program) (checks_of program) (sizes_of program budgets) built

pub record IsBuiltWithObjects (program : Program) (budgets : BudgetSizes) (built : Built) : Type 0 where
  pub others : is_integer_program program ≡ false
  pub is_built : IsBuiltByExpansion two_level_read_behind two_level_write_behind two_level_entry
      (AreTablesGood (sizes_of program budgets)) (IsChecked program) (checks_of program) (sizes_of program budgets) built

-- the source is accepted, and what was built does what it means: the image, with the number of the checks of its text,
-- of more than 2^64 - 1 so many, and of those that are not in it, which are the available ones
pub record IsBuiltFrom (source : List ℕ) (budgets : BudgetSizes) (built : Built) : Type 0 where
  pub program : Program
  pub accepts : Judges source (Ok program)
  pub means : DoesWhatIsMeant program budgets built.image.items
  pub is_built : IsBuiltOfIntegers program budgets built ⊎ IsBuiltWithObjects program budgets built
  pub checks_are : built.checks ≡ min (2 ^ 64 - 1) (checks_of program)

-- this holds, unless the refusal is want of memory
abbrev pub UnlessMemory : SourceRefusal → Type 0 → Type 0
UnlessMemory Memory holds = Unit {0}
UnlessMemory refusal holds = holds

-- what the compiler answers: for want of memory nothing is said
abbrev pub Compiles : List ℕ → BudgetSizes → Result Built SourceRefusal → Type 0
Compiles source budgets (Ok built) = IsBuiltFrom source budgets built
Compiles source budgets (Err refusal) = UnlessMemory refusal (Refuses source budgets refusal)
