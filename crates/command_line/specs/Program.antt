-- The command line as clap is told of it.
use Rattle.std.specs.Prelude.{true, Some, codes}
use Rattle.clap.specs.Words.{App, Rule, Text, new_app, new_rule, with_rule, with_subcommand}

-- an operand, which has to be there
abbrev pub operand : Text → Rule
operand name = record (new_rule name) { required = true }

-- `--name VALUE` or `--name=VALUE`
abbrev pub option : Text → Rule
option name = record (new_rule name) { long = Some name }

abbrev pub with_option : App → Text → App
with_option app name = with_rule app (option name)

abbrev pub with_operand : App → Text → App
with_operand app name = with_rule app (operand name)

abbrev pub with_budget_options : App → App
with_budget_options app =
    with_option (with_option (with_option (with_option (with_option app (codes "heap"))
    (codes "stack")) (codes "calls")) (codes "blocks")) (codes "keys")

-- build SOURCE IMAGE
abbrev pub build_words : App
build_words = with_budget_options
    (with_operand (with_operand (new_app (codes "build")) (codes "source")) (codes "image"))

-- run IMAGE
abbrev pub run_words : App
run_words = with_option (with_operand (new_app (codes "run")) (codes "image")) (codes "limit")

-- go SOURCE
abbrev pub go_words : App
go_words = with_option
    (with_budget_options (with_operand (new_app (codes "go")) (codes "source"))) (codes "limit")

-- list IMAGE
abbrev pub list_words : App
list_words = with_operand (new_app (codes "list")) (codes "image")

-- asm LISTING IMAGE
abbrev pub assemble_words : App
assemble_words = with_operand (with_operand (new_app (codes "asm")) (codes "listing")) (codes "image")

-- work SEED COUNT
abbrev pub work_words : App
work_words = with_operand (with_operand (new_app (codes "work")) (codes "seed")) (codes "count")

-- the words are those after the program's name, and the first is a command
abbrev pub tool_words : App
tool_words = record (new_app (codes "sbcets")) {
  top = record (new_app (codes "sbcets")).top { no_binary_name = true; subcommand_required = true };
}

-- the tool with its commands
unfoldable pub program : App
program = with_subcommand (with_subcommand (with_subcommand (with_subcommand (with_subcommand (with_subcommand tool_words
    build_words.top) run_words.top) go_words.top) list_words.top) assemble_words.top) work_words.top
