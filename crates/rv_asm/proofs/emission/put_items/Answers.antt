use Rattle.std.proofs.Common.{◌≡◌, ◌+◌, ◌<◌, ◌++◌, ◌∙◌, length, map, drop, append_assoc, ap, sym, arith}
use Rattle.std.proofs.Math.ListN.{get_or}
use Rattle.rv_isa.specs.Table.{word_of}
use Rattle.rv_asm.specs.Forms.{size_of, target_place}
use Rattle.rv_asm.specs.Words.{instrs_of, words_from}
use Rattle.rv_asm.specs.declared.form.Form.TheVariants.{Short}
use Rattle.rv_asm.specs.Tables.{entry}
use Rattle.rv_asm.proofs.Emitted.{words_step}
use Rattle.rv_asm.proofs.Layouts.{size_step}
use Rattle.rv_asm.proofs.emission.put_items.Goals as goal

pub loop-index-preserved : goal.loop-index-preserved
loop-index-preserved c =
    let forms = c.args.forms.now in
    let items = c.args.items.now in
    let k = c.loop-index.index in
    let i = c.index-items-index.result in
    let inside : k < length items = omega (arith, c.loop-index-test.true, c.loop-index.auto.index-end) in
    let left = size_step forms items k (k + 1) i Short c.requires.many inside c.index-items-index.is (omega arith) in
    let step = words_step (entry c.args.table.now) forms items k (k + 1) c.loop-index.place i Short c.requires.many
    inside c.index-items-index.is (omega arith) in
    let put : c.put_item.new.words.items ≡ c.loop-index.words.items
    ++ map word_of (instrs_of (get_or forms k Short) c.loop-index.place c.target_place.result i) =
    c.in_ok-put_item.ensures in
    let old = c.loop-index.words.items in
    let form = get_or forms k Short in
    let block = map word_of (instrs_of form c.loop-index.place (target_place (entry c.args.table.now) i) i) in
    let rest = words_from (entry c.args.table.now) (c.loop-index.place + size_of form i) (drop (k + 1) forms)
    (drop (k + 1) items) in
    record {
      words = rw (put, c.target_place.ensures, c.from-place.ensures, c.size.ensures.value)
          (append_assoc old block rest ∙ (ap (λ ws. old ++ ws) (sym step) ∙ c.loop-index.invariant.words));
      left = omega (arith, left, c.loop-index.invariant.left, c.from-place.ensures, c.size.ensures.value);
    }
