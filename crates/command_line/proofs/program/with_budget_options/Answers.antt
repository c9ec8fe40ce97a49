use Rattle.std.proofs.Common.{rules, ◌≡◌, ◌∙◌, ap, ap₂, codes}
use Rattle.std.proofs.lemmas.Result.{IfOk-weaker}
use Rattle.clap.specs.Words.{app_of, rule_of, with_rule}
use Rattle.command_line.specs.Program.{option}
use Rattle.command_line.proofs.program.with_budget_options.Goals as goal

pub returns : goal.returns
returns c =
    let heap_is : rule_of c.option.result ≡ option (codes "heap") = search rules in
    let stack_is : rule_of c.option-2.result ≡ option (codes "stack") = search rules in
    let calls_is : rule_of c.option-3.result ≡ option (codes "calls") = search rules in
    let blocks_is : rule_of c.option-4.result ≡ option (codes "blocks") = search rules in
    let keys_is : rule_of c.option-5.result ≡ option (codes "keys") = search rules in
    let heap = c.in_ok-arg.ensures.shape c.option.ensures.local ∙ ap (with_rule (app_of c.args.command)) heap_is in
    let stack = c.in_ok-arg-2.ensures.shape c.option-2.ensures.local ∙ ap₂ with_rule heap stack_is in
    let calls = c.in_ok-arg-3.ensures.shape c.option-3.ensures.local ∙ ap₂ with_rule stack calls_is in
    let blocks = c.in_ok-arg-4.ensures.shape c.option-4.ensures.local ∙ ap₂ with_rule calls blocks_is in
    IfOk-weaker c.arg-5.result _ _
    (λ r adds. adds.shape c.option-5.ensures.local ∙ ap₂ with_rule blocks keys_is) c.arg-5.ensures
