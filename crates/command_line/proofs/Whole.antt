-- From what clap answers to the command that the words ask for.
use Rattle.std.proofs.Common.{◌≡◌, ◌≢◌, ◌∙◌, ◌==◌, List, [], ◌∷◌, Option, None, true, cond, length, arith, refl, sym}
use Rattle.std.proofs.Common.{ap, subst, option_and_then, inl, inr}
use Rattle.std.proofs.lemmas.Bool.Decides.{nat_tests}
use Rattle.clap.specs.Words.{App, HasKind, HasMatchesOf, IsAmong, Kinds, Text, fault_of, is_simple, is_simple_and_free}
use Rattle.clap.specs.Words.{kind_of, subcommand_of, subcommand_rows_of}
use Rattle.clap.specs.declared.error.Error.{Error}
use Rattle.clap.specs.declared.error.kind.ErrorKind.{ErrorKind}
use Rattle.clap.specs.declared.error.kind.ErrorKind.TheVariants.{OutOfMemory}
use Rattle.clap.specs.declared.parser.matches.ArgMatches.{ArgMatches}
use Rattle.clap.proofs.OnLiterals.{clap_on_literals}
use Rattle.command_line.specs.Asked.{Asked, command_at, command_in}
use Rattle.command_line.specs.Program.{program}

-- clap's laws on matches and on kinds of errors hold of the program
program_is_simple : is_simple program ≡ true
unfolding program clap_on_literals
program_is_simple = refl

program_is_free : is_simple_and_free program ≡ true
unfolding program clap_on_literals
program_is_free = refl

-- what is asked for, where a parse fails by these kinds
abbrev where_taken : Kinds → Option Asked → Option Asked
where_taken kinds asked = cond (length kinds == 0) asked None

not_taken : (kinds : Kinds) (kind : ErrorKind) (asked : Option Asked) → IsAmong kind kinds
    → where_taken kinds asked ≡ None
not_taken [] kind asked among = absurd among
not_taken (k ∷ ks) kind asked among = grind (arith, nat_tests)

-- the command of words that clap takes is that of its matches
pub taken_is : (app : App) (words : List Text) (matches : ArgMatches) → app ≡ program
    → (is_simple_and_free app ≡ true → fault_of app words ≡ []) → HasMatchesOf app words matches
    → option_and_then command_at (subcommand_rows_of matches) ≡ command_in words
unfolding command_in
taken_is app words matches same passes found =
    let none = ap (λ (a : App). fault_of a words) (sym same) ∙ passes (ap is_simple_and_free same ∙ program_is_free) in
    let rows = (found (ap is_simple same ∙ program_is_simple)).1 ∙ ap (λ (a : App). subcommand_of a words) same in
    ap (option_and_then command_at) rows
    ∙ sym (ap (λ (kinds : Kinds). where_taken kinds
    (option_and_then command_at (subcommand_of program words))) none)

-- and words that clap refuses, but for want of memory, are no command
pub refused_is : (app : App) (words : List Text) (error : Error) → app ≡ program
    → (is_simple_and_free app ≡ true → HasKind (fault_of app words) error) → kind_of error ≢ OutOfMemory
    → command_in words ≡ None
unfolding command_in
refused_is app words error same fails other =
    let among = subst (λ (a : App). HasKind (fault_of a words) error) same
    (fails (ap is_simple_and_free same ∙ program_is_free)) in
    elim among [
      | inl memory ↦ absurd (other memory)
      | inr kind ↦ not_taken (fault_of program words) (kind_of error)
          (option_and_then command_at (subcommand_of program words)) kind
    ]
