use Rattle.std.proofs.Common.{◌≡◌, ◌+◌, ◌*◌, ◌-◌, ◌++◌, ap, ◌∙◌, arith, append_assoc}
use Rattle.metadata_plan.specs.Registers.{most_temporaries}
use Rattle.metadata_relation.specs.Homes.{words_from}
use Rattle.metadata_relation.specs.Registers.{moved_register}
use Rattle.program_expansion.proofs.homes.homes.Goals as goal

pub returns : goal.returns
returns c =
    let r = c.args.registers.now in
    let f = c.args.function.now in
    let moved = c.requires.moved in
    let free = c.requires.free in
    let count : r.free - r.first_moved ≡ 5 * most_temporaries f.code = omega (arith, moved, free) in
    let first : r.first_moved ≡ moved_register f 0 = omega (arith, moved) in
    c.in_ok-put_words-3.ensures
    ∙ (ap (λ is. is ++ words_from 0 16) (c.in_ok-put_words-2.ensures
    ∙ ap (λ is. is ++ words_from 16 (r.free - r.first_moved)) (c.in_ok-put_words.ensures
    ∙ ap (λ is. is ++ words_from (16 + (r.free - r.first_moved)) r.first_moved) c.new-list.ensures.items))
    ∙ (append_assoc (words_from (16 + (r.free - r.first_moved)) r.first_moved) (words_from 16 (r.free - r.first_moved))
    (words_from 0 16)
    ∙ (ap (λ n. words_from (16 + n) r.first_moved ++ (words_from 16 n ++ words_from 0 16)) count
    ∙ ap (λ n. words_from (16 + 5 * most_temporaries f.code) n
    ++ (words_from 16 (5 * most_temporaries f.code) ++ words_from 0 16)) first)))
