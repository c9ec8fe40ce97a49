use Rattle.flat_propagation.proofs.Meaning.{same_run, same_meaning}
use Rattle.flat_propagation.proofs.laws.propagated_programs_mean_the_same.Goals as goal

pub returns-clause-runs : goal.returns-clause-runs
returns-clause-runs c = λ m p memory input bytes n. same_run m p (c.steps_keep_words.ensures m p) memory input bytes n

pub returns-clause-meaning : goal.returns-clause-meaning
returns-clause-meaning c =
    λ m p memory input bytes n. same_meaning m p (c.steps_keep_words.ensures m p) memory input bytes n
