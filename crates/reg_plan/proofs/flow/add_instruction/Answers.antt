use Rattle.std.proofs.Common.{◌≡◌, ◌<◌, ℕ, List, Option, Some, true, refl, arith, subst, ap, ◌∙◌, length, get_or}
use Rattle.std.specs.Prelude.{slice_get}
use Rattle.std.proofs.lemmas.Option.{slice_get_read}
use Rattle.flat_code.specs.declared.instruction.FlatInstruction.{FlatInstruction}
use Rattle.reg_plan.specs.declared.effects.Span.{Span}
use Rattle.reg_plan.specs.declared.effects.Reads.{Reads}
use Rattle.reg_plan.specs.Effects.{is_among, is_read, always_made_by, next_of, taken_of}
use Rattle.reg_plan.specs.Flow.{Gains, AddsSuccessor, HasSizes}
use Rattle.reg_plan.proofs.Represents.{represents_more, always_parts}
use Rattle.reg_plan.proofs.flow.add_instruction.Goals as goal

here : (body : List FlatInstruction) (pc : ℕ) (i : FlatInstruction) → pc < length body → i ≡ get_or body pc i
    → slice_get body pc ≡ Some i
here body pc i lt is = slice_get_read body (length body) pc i refl lt is

pub relate_reads-requires : goal.relate_reads-requires
relate_reads-requires c y h =
    let i = c.index-body-place.result in
    let k : y < length c.args.problem.now.killed.rows.items = c.requires.named.read c.args.place y (
      i,
      here c.args.body.now c.args.place i c.requires.place c.index-body-place.is,
      subst
          (λ (r : Reads). is_read r y ≡ true) c.read_by.ensures h,
    ) in
    omega (arith, k, c.requires.sizes.generated)

pub relate_span-requires : goal.relate_span-requires
relate_span-requires c y h =
    let i = c.index-body-place.result in
    c.requires.named.made c.args.place y (
      i,
      here c.args.body.now c.args.place i c.requires.place c.index-body-place.is,
      subst
          (λ (s : Span). is_among s y ≡ true) c.made_by.ensures h,
    )

pub add_successor-requires-clause-facts : goal.add_successor-requires-clause-facts
add_successor-requires-clause-facts c y h =
    let i = c.index-body-place.result in
    let k : y < length c.args.problem.now.killed.rows.items = c.requires.named.made c.args.place y (
      i,
      here c.args.body.now c.args.place i c.requires.place c.index-body-place.is,
      (always_parts c.args.program.now i y
          (subst (λ (s : Span). is_among s y ≡ true) c.always_made_by-always.ensures h)).0,
    ) in
    omega (arith, k, c.requires.sizes.generated, c.in_ok-relate_reads.ensures.size)

pub add_successor-requires-2-clause-facts : goal.add_successor-requires-2-clause-facts
add_successor-requires-2-clause-facts c y h =
    let i = c.index-body-place.result in
    let k : y < length c.args.problem.now.killed.rows.items = c.requires.named.made c.args.place y (
      i,
      here c.args.body.now c.args.place i c.requires.place c.index-body-place.is,
      (always_parts c.args.program.now i y
          (subst (λ (s : Span). is_among s y ≡ true) c.always_made_by-always.ensures h)).0,
    ) in
    let s : HasSizes c.add_successor.new.problem (length c.args.body.now)
    (length c.args.problem.now.killed.rows.items) = c.in_ok-add_successor.ensures.sizes (length c.args.body.now)
    (length c.args.problem.now.killed.rows.items)
    (record {
      edges = c.requires.sizes.edges;
      generated = c.in_ok-relate_reads.ensures.size
          ∙ c.requires.sizes.generated;
      killed = c.in_ok-relate_span.ensures.size;
    }) in
    omega (arith, k, s.generated)

pub returns-clause-represents : goal.returns-clause-represents
returns-clause-represents c =
    let i = c.index-body-place.result in
    let a = c.args.problem.now in
    let pc = c.args.place in
    represents_more c.args.program.now c.args.function c.args.body.now pc i a
    (record { edges = a.edges; generated = c.relate_reads.new.relation; killed = c.relate_span.new.relation })
    c.add_successor.new.problem c.add_successor-2.new.problem
    (here c.args.body.now pc i c.requires.place c.index-body-place.is)
    c.requires.represents
    refl
    (subst (λ (r : Reads). Gains a.generated c.relate_reads.new.relation (λ y. is_read r y ≡ true) pc)
    c.read_by.ensures c.in_ok-relate_reads.ensures.gains)
    (subst (λ (s : Span). Gains a.killed c.relate_span.new.relation (λ y. is_among s y ≡ true) pc)
    c.made_by.ensures c.in_ok-relate_span.ensures.gains)
    (subst (λ (o : Option ℕ). AddsSuccessor
    (record { edges = a.edges; generated = c.relate_reads.new.relation; killed = c.relate_span.new.relation })
    c.add_successor.new.problem (λ y. is_among (always_made_by c.args.program.now i) y ≡ true) pc o
    (length c.args.body.now)) (c.next_of.ensures ∙ ap (next_of i) c.from-at.ensures)
    (subst (λ (s : Span). AddsSuccessor
    (record { edges = a.edges; generated = c.relate_reads.new.relation; killed = c.relate_span.new.relation })
    c.add_successor.new.problem (λ y. is_among s y ≡ true) pc c.next_of.result (length c.args.body.now))
    c.always_made_by-always.ensures c.in_ok-add_successor.ensures.adds))
    (subst (λ (o : Option ℕ). AddsSuccessor c.add_successor.new.problem c.add_successor-2.new.problem
    (λ y. is_among (always_made_by c.args.program.now i) y ≡ true) pc o (length c.args.body.now))
    (c.taken_of.ensures ∙ ap (taken_of i) c.from-at.ensures)
    (subst (λ (s : Span). AddsSuccessor c.add_successor.new.problem c.add_successor-2.new.problem
    (λ y. is_among s y ≡ true) pc c.taken_of.result (length c.args.body.now))
    c.always_made_by-always.ensures c.in_ok-add_successor-2.ensures.adds))
