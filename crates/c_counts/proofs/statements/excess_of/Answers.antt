use Rattle.std.proofs.Common.{[]}
use mathlib.Core.Path.{◌∙◌, ap}
use Rattle.c_syntax.specs.StatementsView.{externals_in}
use Rattle.c_counts.specs.Counts.{counts_of}
use Rattle.c_counts.specs.Excess.{first_above, most_parameters, most_members, parameters_among, members_among}
use Rattle.c_counts.proofs.Excesses.{first_parameters, first_members}
use Rattle.c_counts.proofs.statements.excess_of.Goals as goal

pub returns-clause-parameters : goal.returns-clause-parameters
returns-clause-parameters c =
    first_parameters (counts_of (externals_in c.as_slice.result.now)) c.externals.result (c.externals.ensures [])
    ∙ ap (λ es. first_above most_parameters (parameters_among (counts_of (externals_in es)))) c.as_slice.ensures

pub returns-clause-members : goal.returns-clause-members
returns-clause-members c =
    first_members (counts_of (externals_in c.as_slice.result.now)) c.externals.result (c.externals.ensures [])
    ∙ ap (λ es. first_above most_members (members_among (counts_of (externals_in es)))) c.as_slice.ensures
