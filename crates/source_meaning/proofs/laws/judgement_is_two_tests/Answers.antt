use Rattle.source_meaning.proofs.JudgingTests.{two_tests}
use Rattle.source_meaning.proofs.laws.judgement_is_two_tests.Goals as goal

pub returns : goal.returns
returns c = two_tests
