use Rattle.std.proofs.Common.{◌≡◌, ◌+◌, ◌*◌, ◌++◌, ap, ◌∙◌, arith}
use Rattle.metadata_plan.specs.Registers.{most_temporaries}
use Rattle.metadata_relation.specs.Registers.{parameter_words, variable_words, home_words, total}
use Rattle.instruction_selection.specs.Words.{registers_from}
use Rattle.instruction_selection.proofs.Lists.{are_registers, words_few}
use Rattle.instruction_selection.proofs.registers.Registers.new.Goals as goal

pub overflow_add-parameters_end : goal.overflow_add-parameters_end
overflow_add-parameters_end c =
    let few = words_few c.args.function.now _ _ c.as_slice-parameters.ensures c.as_slice-others.ensures c.requires in
    omega (arith, few, c.in_ok-parameters_end.ensures.next)

pub put_registers-requires-2 : goal.put_registers-requires-2
put_registers-requires-2 c =
    let few = words_few c.args.function.now _ _ c.as_slice-parameters.ensures c.as_slice-others.ensures c.requires in
    omega (arith, few, c.in_ok-parameters_end.ensures.next)

pub put_registers-requires-3 : goal.put_registers-requires-3
put_registers-requires-3 c =
    let few = words_few c.args.function.now _ _ c.as_slice-parameters.ensures c.as_slice-others.ensures c.requires in
    omega (arith, few, c.in_ok-parameters_end.ensures.next, c.in_ok-first_home.ensures.next)

pub put_registers-requires-4 : goal.put_registers-requires-4
put_registers-requires-4 c =
    let few = words_few c.args.function.now _ _ c.as_slice-parameters.ensures c.as_slice-others.ensures c.requires in
    omega (arith, few, c.in_ok-parameters_end.ensures.next, c.in_ok-first_home.ensures.next, c.in_ok-behind.ensures.next)

pub overflow_add-result : goal.overflow_add-result
overflow_add-result c =
    let few = words_few c.args.function.now _ _ c.as_slice-parameters.ensures c.as_slice-others.ensures c.requires in
    let most : c.most_temporaries.result ≡ most_temporaries c.args.function.now.code =
    c.most_temporaries.ensures ∙ ap (λ xs. most_temporaries xs) c.as_slice.ensures in
    omega (arith, few, c.in_ok-parameters_end.ensures.next, c.in_ok-first_home.ensures.next, c.in_ok-behind.ensures.next, c.in_ok-first_temporary.ensures.next, most)

pub overflow_add-result-2 : goal.overflow_add-result-2
overflow_add-result-2 c =
    let few = words_few c.args.function.now _ _ c.as_slice-parameters.ensures c.as_slice-others.ensures c.requires in
    let most : c.most_temporaries.result ≡ most_temporaries c.args.function.now.code =
    c.most_temporaries.ensures ∙ ap (λ xs. most_temporaries xs) c.as_slice.ensures in
    omega (arith, few, c.in_ok-parameters_end.ensures.next, c.in_ok-first_home.ensures.next, c.in_ok-behind.ensures.next, c.in_ok-first_temporary.ensures.next, most)

pub overflow_add-result-3 : goal.overflow_add-result-3
overflow_add-result-3 c =
    let few = words_few c.args.function.now _ _ c.as_slice-parameters.ensures c.as_slice-others.ensures c.requires in
    let most : c.most_temporaries.result ≡ most_temporaries c.args.function.now.code =
    c.most_temporaries.ensures ∙ ap (λ xs. most_temporaries xs) c.as_slice.ensures in
    omega (arith, few, c.in_ok-parameters_end.ensures.next, c.in_ok-first_home.ensures.next, c.in_ok-behind.ensures.next, c.in_ok-first_temporary.ensures.next, most)

pub returns : goal.returns
returns c =
    let f = c.args.function.now in
    let parameters : total parameter_words c.as_slice-parameters.result.now ≡ total parameter_words f.parameters =
    ap (λ vs. total parameter_words vs) c.as_slice-parameters.ensures in
    let others : total variable_words c.as_slice-others.result.now ≡ total variable_words f.variables =
    ap (λ vs. total variable_words vs) c.as_slice-others.ensures in
    let homes : total home_words c.as_slice-parameters.result.now ≡ total home_words f.parameters =
    ap (λ vs. total home_words vs) c.as_slice-parameters.ensures in
    let more_homes : total home_words c.as_slice-others.result.now ≡ total home_words f.variables =
    ap (λ vs. total home_words vs) c.as_slice-others.ensures in
    let most : c.most_temporaries.result ≡ most_temporaries f.code =
    c.most_temporaries.ensures ∙ ap (λ xs. most_temporaries xs) c.as_slice.ensures in
    let list : c.from_vec.result ≡ registers_from parameter_words 0 f.parameters
    ++ registers_from variable_words (c.in_ok-parameters_end.parameters_end + 1) f.variables =
    c.from_vec.ensures
    ∙ c.in_ok-first_home.ensures.list
    ∙ ap (λ xs. xs ++ registers_from variable_words (c.in_ok-parameters_end.parameters_end + 1)
    c.as_slice-others.result.now) c.in_ok-parameters_end.ensures.list
    ∙ ap (λ xs. (xs ++ registers_from parameter_words 0 c.as_slice-parameters.result.now)
    ++ registers_from variable_words (c.in_ok-parameters_end.parameters_end + 1) c.as_slice-others.result.now)
    c.new-variables.ensures.items
    ∙ ap (λ vs. registers_from parameter_words 0 vs
    ++ registers_from variable_words (c.in_ok-parameters_end.parameters_end + 1) c.as_slice-others.result.now)
    c.as_slice-parameters.ensures
    ∙ ap (λ vs. registers_from parameter_words 0 f.parameters
    ++ registers_from variable_words (c.in_ok-parameters_end.parameters_end + 1) vs) c.as_slice-others.ensures in
    let home_list : c.from_vec-2.result ≡ registers_from home_words c.in_ok-first_home.first_home f.parameters
    ++ registers_from home_words c.in_ok-behind.behind f.variables =
    c.from_vec-2.ensures
    ∙ c.in_ok-first_temporary.ensures.list
    ∙ ap (λ xs. xs ++ registers_from home_words c.in_ok-behind.behind c.as_slice-others.result.now)
    c.in_ok-behind.ensures.list
    ∙ ap (λ xs. (xs ++ registers_from home_words c.in_ok-first_home.first_home c.as_slice-parameters.result.now)
    ++ registers_from home_words c.in_ok-behind.behind c.as_slice-others.result.now) c.new-homes.ensures.items
    ∙ ap (λ vs. registers_from home_words c.in_ok-first_home.first_home vs
    ++ registers_from home_words c.in_ok-behind.behind c.as_slice-others.result.now) c.as_slice-parameters.ensures
    ∙ ap (λ vs. registers_from home_words c.in_ok-first_home.first_home f.parameters
    ++ registers_from home_words c.in_ok-behind.behind vs) c.as_slice-others.ensures in
    let counted : c.in_ok-parameters_end.parameters_end ≡ 0 + total parameter_words f.parameters =
    c.in_ok-parameters_end.ensures.next ∙ ap (λ n. 0 + n) parameters in
    let begin : c.in_ok-parameters_end.parameters_end ≡ total parameter_words f.parameters = omega (arith, counted) in
    are_registers _ f c.in_ok-parameters_end.parameters_end c.in_ok-behind.behind
    begin
    (c.in_ok-first_home.ensures.next ∙ ap (λ n. c.in_ok-parameters_end.parameters_end + 1 + n) others)
    (c.in_ok-behind.ensures.next ∙ ap (λ n. c.in_ok-first_home.first_home + n) homes)
    (c.in_ok-first_temporary.ensures.next ∙ ap (λ n. c.in_ok-behind.behind + n) more_homes)
    list home_list (ap (λ n. c.in_ok-first_temporary.first_temporary + 5 * n) most)
    (ap (λ n. c.in_ok-first_temporary.first_temporary + 5 * c.most_temporaries.result + 5 * n) most) c.requires
