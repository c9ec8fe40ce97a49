use Rattle.std.proofs.Common.{◌≡◌, ◌+◌, ◌++◌, ap, refl, ◌∙◌, arith}
use Rattle.metadata_plan.specs.Registers.{words_in, most_temporaries}
use Rattle.metadata_expansion.specs.Tables.{registers_from}
use Rattle.metadata_expansion.proofs.Lists.{are_registers, registers_few}
use Rattle.metadata_expansion.proofs.registers.Registers.new.Goals as goal

pub put_registers-requires : goal.put_registers-requires
put_registers-requires c =
    let few = registers_few c.args.function.now c.requires in
    let same : words_in c.as_slice.result.now ≡ words_in c.args.function.now.parameters =
    ap (λ vs. words_in vs) c.as_slice.ensures in
    omega (arith, few, same)

pub put_registers-requires-2 : goal.put_registers-requires-2
put_registers-requires-2 c =
    let few = registers_few c.args.function.now c.requires in
    let same : words_in c.as_slice.result.now ≡ words_in c.args.function.now.parameters =
    ap (λ vs. words_in vs) c.as_slice.ensures in
    let also : words_in c.as_slice-2.result.now ≡ words_in c.args.function.now.variables =
    ap (λ vs. words_in vs) c.as_slice-2.ensures in
    let next = c.in_ok-behind.ensures.next in
    omega (arith, few, same, also, next)

pub overflow_add-result : goal.overflow_add-result
overflow_add-result c =
    let few = registers_few c.args.function.now c.requires in
    let same : words_in c.as_slice.result.now ≡ words_in c.args.function.now.parameters =
    ap (λ vs. words_in vs) c.as_slice.ensures in
    let also : words_in c.as_slice-2.result.now ≡ words_in c.args.function.now.variables =
    ap (λ vs. words_in vs) c.as_slice-2.ensures in
    let count : most_temporaries c.as_slice-3.result.now ≡ most_temporaries c.args.function.now.code =
    ap (λ is. most_temporaries is) c.as_slice-3.ensures in
    let most = c.most_temporaries-temporaries.ensures in
    let next = c.in_ok-behind.ensures.next in
    let last = c.in_ok-words.ensures.next in
    omega (arith, few, same, also, count, most, next, last)

pub returns : goal.returns
returns c =
    let same : words_in c.as_slice.result.now ≡ words_in c.args.function.now.parameters =
    ap (λ vs. words_in vs) c.as_slice.ensures in
    let also : words_in c.as_slice-2.result.now ≡ words_in c.args.function.now.variables =
    ap (λ vs. words_in vs) c.as_slice-2.ensures in
    let next = c.in_ok-behind.ensures.next in
    let last = c.in_ok-words.ensures.next in
    let begin : c.in_ok-behind.behind ≡ words_in c.args.function.now.parameters = omega (arith, same, next) in
    let words : c.in_ok-words.words ≡ c.in_ok-behind.behind + words_in c.args.function.now.variables =
    omega (arith, also, last) in
    let list : c.from_vec.result ≡ registers_from 0 c.args.function.now.parameters
    ++ registers_from c.in_ok-behind.behind c.args.function.now.variables =
    c.from_vec.ensures
    ∙ c.in_ok-words.ensures.list
    ∙ ap (λ xs. xs ++ registers_from c.in_ok-behind.behind c.as_slice-2.result.now) c.in_ok-behind.ensures.list
    ∙ ap (λ xs. (xs ++ registers_from 0 c.as_slice.result.now)
    ++ registers_from c.in_ok-behind.behind c.as_slice-2.result.now) c.new-variables.ensures.items
    ∙ ap (λ vs. registers_from 0 vs ++ registers_from c.in_ok-behind.behind c.as_slice-2.result.now)
    c.as_slice.ensures
    ∙ ap (λ vs. registers_from 0 c.args.function.now.parameters ++ registers_from c.in_ok-behind.behind vs)
    c.as_slice-2.ensures in
    let count : c.most_temporaries-temporaries.result ≡ most_temporaries c.args.function.now.code =
    c.most_temporaries-temporaries.ensures ∙ ap (λ is. most_temporaries is) c.as_slice-3.ensures in
    are_registers _ c.args.function.now c.in_ok-behind.behind begin words list count refl c.requires
