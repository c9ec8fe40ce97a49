use Rattle.std.proofs.Common.{◌+◌, sym, subst, arith}
use Rattle.std.specs.Prelude.{slice_set}
use Rattle.flat_propagation.specs.declared.fact.Fact.{Fact}
use Rattle.flat_propagation.specs.Tables.{facts_of, AreBefore}
use Rattle.flat_propagation.proofs.Tables.{made_before, made_over}
use Rattle.flat_propagation.proofs.table.FactTable.make.Goals as goal

pub returns-clause-facts : goal.returns-clause-facts
unfolding facts_of
returns-clause-facts c = λ y.
    made_over c.args.self.now.entries.items c.reach.new.entries.items c.args.register c.args.time c.args.fact
    c.unless_named.result c.args.self.now.block y c.unless_named.ensures c.in_ok-reach.ensures.has c.requires.begun
    (c.in_ok-reach.ensures.before c.args.time c.requires.begun c.requires.before.entries)
    c.in_ok-reach.ensures.facts c.requires.before.block

pub returns-clause-before : goal.returns-clause-before
returns-clause-before c =
    let es = c.reach.new.entries.items in
    let time = c.args.time in
    let all = made_before es c.args.register time c.args.fact c.in_ok-reach.ensures.has c.requires.begun
    (c.in_ok-reach.ensures.before time c.requires.begun c.requires.before.entries) in
    let block = c.requires.before.block in
    record {
      entries = subst
          (λ (f : Fact).
          AreBefore (slice_set es c.args.register (record { fact = f; recorded = time; made = time })) (time + 1))
          (sym c.unless_named.ensures) all;
      block = omega (arith, block);
    }
