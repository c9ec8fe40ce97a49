use Rattle.std.proofs.Common.{◌≡◌, ◌+◌, ◌++◌, List, refl, sym, ◌∙◌, ap, subst, length, arith}
use Rattle.std.proofs.lemmas.List.{append-nil}
use Rattle.std.proofs.lemmas.Option.{slice_get_read}
use Rattle.flat_code.specs.declared.instruction.FlatInstruction.{FlatInstruction}
use Rattle.flat_propagation.specs.Known.{arriving_at}
use Rattle.flat_propagation.specs.Propagated.{rewritten_from}
use Rattle.flat_propagation.specs.Tables.{facts_of, IsBefore}
use Rattle.flat_propagation.proofs.Bodies.{entered, arrives, lengthened, finished}
use Rattle.flat_propagation.proofs.program.propagate_body.Goals as goal

pub loop-place-init : goal.loop-place-init
unfolding arriving_at
loop-place-init c = record {
  list = ap (λ (l : List FlatInstruction). l ++ rewritten_from c.args.body.now 0 c.args.body.now) c.new-list.ensures.items;
  facts = c.new-table.ensures.nothing;
  before = c.new-table.ensures.before 1;
}

pub loop-place-preserved : goal.loop-place-preserved
loop-place-preserved c =
    let body = c.args.body.now in
    let k = c.loop-place.place in
    let i = c.index-body-place.result in
    let at = slice_get_read body (length body) k i refl c.loop-place-test.true c.index-body-place.is in
    let known = facts_of c.enter.new.table in
    let is = entered body k _ (facts_of c.loop-place.table) known
    (c.in_ok-targets.ensures.targets k c.loop-place-test.true) c.loop-place.invariant.facts c.enter.ensures.facts in
    let next : k + 2 ≡ k + 1 + 1 = omega arith in
    record {
      list = lengthened body k i c.in_ok-instruction.instruction known c.loop-place.list.items c.push.new.self.items
          (rewritten_from body 0 body) at is c.in_ok-instruction.ensures.instruction c.in_ok-push.ensures.items
          c.loop-place.invariant.list;
      facts = arrives body k i known (facts_of c.propagate_instruction.new.table) at is
          c.in_ok-instruction.ensures.facts;
      before = subst (IsBefore c.propagate_instruction.new.table) next c.in_ok-instruction.ensures.before;
    }

pub returns : goal.returns
returns c =
    sym (append-nil c.loop-place.list.items)
    ∙ finished c.args.body.now c.loop-place.place c.loop-place.list.items (rewritten_from c.args.body.now 0 c.args.body.now)
    c.loop-place-test.false c.loop-place.invariant.list
