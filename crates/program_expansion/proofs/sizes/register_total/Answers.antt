use Rattle.std.proofs.Common.{◌≡◌, ap, arith}
use Rattle.metadata_relation.specs.Registers.{home_words, parameter_words, total, variable_words}
use Rattle.program_expansion.proofs.Small.{total_append}
use Rattle.program_expansion.proofs.sizes.register_total.Goals as goal

pub returns : goal.returns
returns c =
    let f = c.args.function.now in
    let sum = total_append home_words f.parameters f.variables in
    let parameters : total parameter_words c.as_slice-parameters.result.now ≡ total parameter_words f.parameters =
    ap (λ vs. total parameter_words vs) c.as_slice-parameters.ensures in
    let variables : total variable_words c.as_slice-variables.result.now ≡ total variable_words f.variables =
    ap (λ vs. total variable_words vs) c.as_slice-variables.ensures in
    let first : total home_words c.as_slice-parameters.result.now ≡ total home_words f.parameters =
    ap (λ vs. total home_words vs) c.as_slice-parameters.ensures in
    let second : total home_words c.as_slice-variables.result.now ≡ total home_words f.variables =
    ap (λ vs. total home_words vs) c.as_slice-variables.ensures in
    let one : c.word_count.result ≡ total parameter_words c.as_slice-parameters.result.now = c.word_count.ensures.value in
    let two : c.word_count-2.result ≡ total variable_words c.as_slice-variables.result.now =
    c.word_count-2.ensures.value in
    let three : c.word_count-3.result ≡ total home_words c.as_slice-parameters.result.now = c.word_count-3.ensures.value in
    let four : c.word_count-4.result ≡ total home_words c.as_slice-variables.result.now = c.word_count-4.ensures.value in
    let count = c.requires.count in (
      (λ h. omega (arith, sum, parameters, variables, first, second, one, two, three, four, count, h)),
      (λ h. omega (arith, sum, parameters, variables, first, second, one, two, three, four, count, h)),
    )
