-- The command that words ask for.
use Rattle.std.specs.Prelude.{ℕ, ⊤, ◌≤◌, ◌^◌, ◌==◌, List, Option, Some, None, codes, length}
use Rattle.std.specs.Prelude.{◌&&◌, if◌then◌else◌, is_none, nat_le, option_and_then, option_map}
use Rattle.std.specs.Str.{bytes_eq}
use Rattle.clap.specs.Words.{Row, Text, fault_of, first_of, found_of, rows_of, subcommand_of}
use Rattle.clap.specs.declared.parser.matches.ArgMatches.{ArgMatches}
use Rattle.sb_base.specs.Budgets.{BudgetSizes, default_sizes, budget_fault}
use Rattle.command_line.specs.Numbers.{number_in}
use Rattle.command_line.specs.Program.{program}
use Rattle.command_line.specs.declared.command.Command.{Command}
use Rattle.command_line.specs.declared.command.Command.TheVariants.{Build, Run, Go, List as ListImage, Assemble, Work}

-- a command, with the texts of its files' names
pub data Asked : Type 0 where
  build : (source image : Text) (budgets : BudgetSizes) → Asked
  run : (image : Text) (limit : ℕ) → Asked
  go : (source : Text) (budgets : BudgetSizes) (limit : ℕ) → Asked
  list : (image : Text) → Asked
  assemble : (listing image : Text) → Asked
  work : (seed count : ℕ) → Asked

abbrev pub asked_of : Command → Asked
asked_of (Build source image budgets) = build source.now image.now budgets
asked_of (Run image limit) = run image.now limit
asked_of (Go source budgets limit) = go source.now budgets limit
asked_of (ListImage image) = list image.now
asked_of (Assemble listing image) = assemble listing.now image.now
asked_of (Work seed count) = work seed count

-- a command that runs an image has a limit of at most 2 ^ 62 instructions, and a source of a seed 1 to 64 functions
abbrev pub IsLimited : Command → Type 0
IsLimited (Build source image budgets) = ⊤
IsLimited (Run image limit) = limit ≤ 2 ^ 62
IsLimited (Go source budgets limit) = limit ≤ 2 ^ 62
IsLimited (ListImage image) = ⊤
IsLimited (Assemble listing image) = ⊤
IsLimited (Work seed count) = (1 ≤ count) × (count ≤ 64)

-- what the option that is left out stands for
abbrev pub default_limit : ℕ
default_limit = 1000000000

-- ---- what clap's matches give

-- the rows of the matches
unfoldable pub rows_in : ArgMatches → List Row
rows_in matches = rows_of (found_of matches)

-- the value of an operand or an option
unfoldable pub text_at : Text → List Row → Option Text
text_at name rows = first_of name rows

abbrev pub number_or : ℕ → Option Text → Option ℕ
number_or default None = Some default
number_or default (Some text) = number_in text

-- the number of an option, or the default where it is left out; none where it is no number
unfoldable pub number_at : Text → ℕ → List Row → Option ℕ
number_at name default rows = number_or default (text_at name rows)

-- the budgets of these sizes, where each is in its range
abbrev pub allowed : BudgetSizes → Option BudgetSizes
allowed sizes = if is_none (budget_fault sizes) then Some sizes else None

unfoldable pub budgets_at : List Row → Option BudgetSizes
budgets_at rows =
    option_and_then (λ heap.
    option_and_then (λ stack.
    option_and_then (λ calls.
    option_and_then (λ blocks.
    option_and_then (λ keys. allowed (record {
      heap = heap;
      stack = stack;
      calls = calls;
      blocks = blocks;
      keys = keys;
    }))
    (number_at (codes "keys") default_sizes.keys rows))
    (number_at (codes "blocks") default_sizes.blocks rows))
    (number_at (codes "calls") default_sizes.calls rows))
    (number_at (codes "stack") default_sizes.stack rows))
    (number_at (codes "heap") default_sizes.heap rows)

-- a limit is at most 2 ^ 62
abbrev pub limit_in_range : ℕ → Option ℕ
limit_in_range limit = if nat_le limit (2 ^ 62) then Some limit else None

unfoldable pub limit_at : List Row → Option ℕ
limit_at rows = option_and_then limit_in_range (number_at (codes "limit") default_limit rows)

-- the number of an operand; none where it is no number
unfoldable pub operand_at : Text → List Row → Option ℕ
operand_at name rows = option_and_then number_in (text_at name rows)

-- a source of a seed has 1 to 64 functions
abbrev pub count_in_range : ℕ → Option ℕ
count_in_range count = if nat_le 1 count && nat_le count 64 then Some count else None

unfoldable pub count_at : List Row → Option ℕ
count_at rows = option_and_then count_in_range (operand_at (codes "count") rows)

unfoldable pub build_at : List Row → Option Asked
build_at rows =
    option_and_then (λ source.
    option_and_then (λ image.
    option_map (build source image) (budgets_at rows))
    (text_at (codes "image") rows))
    (text_at (codes "source") rows)

unfoldable pub run_at : List Row → Option Asked
run_at rows =
    option_and_then (λ image. option_map (run image) (limit_at rows)) (text_at (codes "image") rows)

unfoldable pub go_at : List Row → Option Asked
go_at rows =
    option_and_then (λ source.
    option_and_then (λ budgets.
    option_map (go source budgets) (limit_at rows))
    (budgets_at rows))
    (text_at (codes "source") rows)

unfoldable pub list_at : List Row → Option Asked
list_at rows = option_map list (text_at (codes "image") rows)

unfoldable pub assemble_at : List Row → Option Asked
assemble_at rows =
    option_and_then (λ listing. option_map (assemble listing) (text_at (codes "image") rows))
    (text_at (codes "listing") rows)

unfoldable pub work_at : List Row → Option Asked
work_at rows =
    option_and_then (λ seed. option_map (work seed) (count_at rows)) (operand_at (codes "seed") rows)

abbrev pub command_named : Text → List Row → Option Asked
command_named name rows =
    if bytes_eq name (codes "build") then build_at rows
    else (if bytes_eq name (codes "run") then run_at rows
    else (if bytes_eq name (codes "go") then go_at rows
    else (if bytes_eq name (codes "list") then list_at rows
    else (if bytes_eq name (codes "asm") then assemble_at rows
    else (if bytes_eq name (codes "work") then work_at rows else None)))))

unfoldable pub command_at : Text × List Row → Option Asked
command_at p = command_named p.0 p.1

-- ---- the whole

-- the command that the words ask for: what clap's matches give, where no step of clap's parse fails
unfoldable pub command_in : List Text → Option Asked
command_in words = if length (fault_of program words) == 0
    then option_and_then command_at (subcommand_of program words) else None
