use Rattle.std.proofs.Common.{◌≡◌, true, suc, ◌+◌, ◌≤◌, length, take, sym, ap, subst, ◌∙◌, arith}
use Rattle.std.proofs.lemmas.List.{take_rest}
use Rattle.c_lexer.specs.Separators.{Gap}
use Rattle.c_lexer.specs.Text.{newlines, behind_tokens, tokens, tokens_to}
use Rattle.c_lexer.proofs.Ends.{newlines_cut}
use Rattle.c_lexer.proofs.Soundness.{few_tokens}
use Rattle.c_lexer.proofs.Turns.{IsPlace, place_behind, shorter_behind, turn_first, read_end, read_fault, read_more}
use Rattle.c_lexer.proofs.Turns.{pushed}
use Rattle.c_lexer.proofs.lexer.lex.Goals as goal

pub loop-rest-init : goal.loop-rest-init
loop-rest-init c = record {
  read = subst (λ front. tokens c.args.text.now ≡ behind_tokens front
      (tokens_to (suc (length c.args.text.now)) c.args.text.now true c.args.text.now)) (sym c.new-items.ensures.items)
      (turn_first c.args.text.now);
  line = omega arith;
  some = omega arith;
  left = omega arith;
}

pub returns-then-is_empty : goal.returns-then-is_empty
returns-then-is_empty c =
    let g : Gap = record { rest = c.skip_gap-gap.result.rest.now; has_newline = c.skip_gap-gap.result.has_newline } in
    let p = place_behind c.args.text.now c.loop-rest.rest.now c.loop-rest.first g c.loop-rest.line c.newlines.result
    c.skip_gap-gap.ensures.value c.loop-rest.invariant.line c.loop-rest.invariant.some c.newlines.ensures.value in
    let at : IsPlace c.args.text.now c.loop-rest.rest.now c.loop-rest.first g c.new-here.result =
    subst (λ n. IsPlace c.args.text.now c.loop-rest.rest.now c.loop-rest.first g n) (sym c.new-here.ensures) p in
    let value = read_end c.args.text.now c.loop-rest.rest.now c.loop-rest.first g c.new-here.result
    c.loop-rest.items.items c.new.result at c.loop-rest.invariant.read c.is_empty.result c.is_empty.ensures
    c.if-is_empty.true c.new.ensures in
    record { value = value; few = few_tokens c.args.text.now c.new.result value }

pub returns-in_default-clause-value : goal.returns-in_default-clause-value
returns-in_default-clause-value c =
    let g : Gap = record { rest = c.skip_gap-gap.result.rest.now; has_newline = c.skip_gap-gap.result.has_newline } in
    let p = place_behind c.args.text.now c.loop-rest.rest.now c.loop-rest.first g c.loop-rest.line c.newlines.result
    c.skip_gap-gap.ensures.value c.loop-rest.invariant.line c.loop-rest.invariant.some c.newlines.ensures.value in
    let at : IsPlace c.args.text.now c.loop-rest.rest.now c.loop-rest.first g c.new-here.result =
    subst (λ n. IsPlace c.args.text.now c.loop-rest.rest.now c.loop-rest.first g n) (sym c.new-here.ensures) p in
    read_fault c.args.text.now c.loop-rest.rest.now c.loop-rest.first g c.new-here.result c.loop-rest.items.items at
    c.loop-rest.invariant.read c.is_empty.result c.is_empty.ensures c.if-is_empty.false c.in_default.ensures.value

pub loop-rest-preserved : goal.loop-rest-preserved
loop-rest-preserved c =
    let g : Gap = record { rest = c.skip_gap-gap.result.rest.now; has_newline = c.skip_gap-gap.result.has_newline } in
    let p = place_behind c.args.text.now c.loop-rest.rest.now c.loop-rest.first g c.loop-rest.line c.newlines.result
    c.skip_gap-gap.ensures.value c.loop-rest.invariant.line c.loop-rest.invariant.some c.newlines.ensures.value in
    let at : IsPlace c.args.text.now c.loop-rest.rest.now c.loop-rest.first g c.new-here.result =
    subst (λ n. IsPlace c.args.text.now c.loop-rest.rest.now c.loop-rest.first g n) (sym c.new-here.ensures) p in
    let d = take_rest c.skip_gap-gap.result.rest.now c.in-Some.length in
    let k = newlines_cut c.in-Some.length c.skip_gap-gap.result.rest.now in
    let n : c.newlines-in-loop-rest.result ≡ newlines (take c.in-Some.length c.skip_gap-gap.result.rest.now) =
    c.newlines-in-loop-rest.ensures.value in
    let s = shorter_behind c.skip_gap-gap.result.rest.now c.in-Some.kind c.in-Some.length
    (sym c.in-Some.ensures.value) in
    record {
      read = read_more c.args.text.now c.loop-rest.rest.now c.loop-rest.first g c.new-here.result
          c.loop-rest.items.items c.push.new.self.items c.in-Some.kind c.in-Some.length _ at c.loop-rest.invariant.read
          c.is_empty.result c.is_empty.ensures c.if-is_empty.false c.in-Some.ensures.value d
          (pushed c.push.result c.push.new.self.items c.loop-rest.items.items _ c.is_err.result c.push.ensures.items
          c.is_err.ensures.value c.if-is_err.false);
      line = ap (λ r. c.loop-rest.line + c.newlines.result + c.newlines-in-loop-rest.result + newlines r) d
          ∙ omega (arith, p.counted);
      some = omega (arith, c.loop-rest.invariant.some);
      left = subst (λ r. length r ≤ length c.args.text.now) (sym d)
          (omega (arith, c.skip_gap-gap.ensures.within, c.loop-rest.invariant.left));
    }
