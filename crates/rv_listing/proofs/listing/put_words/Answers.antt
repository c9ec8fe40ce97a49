use Rattle.std.proofs.Common.{rules, subst, ap, ◌∙◌, ◌+◌, ◌++◌}
use Rattle.rv_listing.specs.Lines.{group, line_text}
use Rattle.rv_listing.specs.Listings.{words}
use Rattle.rv_listing.proofs.Runs.{Puts, one_word, no_more, last_group}
use Rattle.rv_listing.proofs.listing.put_words.Goals as goal

pub loop-rest-preserved : goal.loop-rest-preserved
loop-rest-preserved c =
    let back = c.split_at.result.1.now in
    let next = words c.args.code.now (c.loop-rest.place + 4) back in
    record {
      text = one_word c.args.text.now.items c.loop-rest.text.items c.put_word.new.text.items c.loop-rest.zeros
          c.in_ok-zeros.zeros c.loop-rest.place c.args.code.now c.args.bytes.now c.loop-rest.rest.now
          c.split_at.result.0.now back (search rules) c.split_at.ensures.front c.split_at.ensures.back
          (subst
          (λ x. Puts c.loop-rest.text.items c.put_word.new.text.items c.loop-rest.zeros c.in_ok-zeros.zeros x
          c.split_at.result.0.now next)
          c.is_code-is_code.ensures (c.in_ok-zeros.ensures.text next))
          c.loop-rest.invariant.text;
      place = search rules;
      zeros = search rules;
    }

pub returns-then-is_empty : goal.returns-then-is_empty
returns-then-is_empty c =
    no_more c.args.text.now.items c.loop-rest.text.items c.put_zeros.new.text.items c.loop-rest.zeros c.loop-rest.place
    c.args.code.now c.args.bytes.now c.loop-rest.rest.now (search rules) c.in_ok-put_zeros.ensures
    c.loop-rest.invariant.text

pub returns : goal.returns
returns c =
    last_group c.args.text.now.items c.loop-rest.text.items c.put_group.new.text.items c.loop-rest.zeros
    c.loop-rest.place c.args.code.now c.args.bytes.now c.loop-rest.rest.now (search rules) (search rules)
    (c.in_ok-put_group.ensures ∙ ap (λ x. x ++ line_text (group c.loop-rest.rest.now)) c.in_ok-put_zeros.ensures)
    c.loop-rest.invariant.text
