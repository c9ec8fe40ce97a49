use Rattle.std.proofs.Common.{◌≡◌, ◌≢◌, ◌∙◌, Result, map, refl, subst, sym}
use Rattle.std.specs.Result.{IsErrAnd}
use Rattle.clap.specs.declared.error.kind.ErrorKind.TheVariants.{OutOfMemory}
use Rattle.command_line.specs.declared.command.Command.{Command}
use Rattle.command_line.specs.declared.command.WordsFault.{WordsFault}
use Rattle.command_line.specs.declared.command.WordsFault.TheVariants.{Usage}
use Rattle.clap.specs.Words.{app_of, kind_of}
use Rattle.command_line.proofs.Whole.{refused_is, taken_is}
use Rattle.command_line.proofs.command_words.command_of.Goals as goal

pub returns-in_err-matches-clause-usage : goal.returns-in_err-matches-clause-usage
returns-in_err-matches-clause-usage g c = λ usage.
    let error = c.in_err-matches.field-0.0 in
    let other : kind_of error ≢ OutOfMemory =
    subst (λ (r : Result Command WordsFault). IsErrAnd r (λ fault. fault ≡ Usage → kind_of error ≢ OutOfMemory)) usage
    c.from_residual-in_err-matches.ensures.1 refl in
    refused_is (app_of c.in_ok-program.field-0) (map g.S.AsStr.text c.args.words.now) error c.in_ok-program.ensures
    c.in_err-matches.ensures.kinds other

pub returns-in-Some-clause-ok : goal.returns-in-Some-clause-ok
returns-in-Some-clause-ok g c =
    let taken = taken_is (app_of c.in_ok-program.field-0) (map g.S.AsStr.text c.args.words.now)
    c.in_ok-matches.matches c.in_ok-program.ensures
    c.in_ok-matches.ensures.kinds c.in_ok-matches.ensures.matches in
    sym taken ∙ sym c.in-Some.ensures.asked

pub returns-clause-usage : goal.returns-clause-usage
returns-clause-usage g c = λ usage.
    let taken = taken_is (app_of c.in_ok-program.field-0) (map g.S.AsStr.text c.args.words.now)
    c.in_ok-matches.matches c.in_ok-program.ensures
    c.in_ok-matches.ensures.kinds c.in_ok-matches.ensures.matches in
    sym taken ∙ sym c.in-None.ensures.asked
