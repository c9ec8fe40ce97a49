use Rattle.std.proofs.Common.{ap, subst, ◌∙◌, Err, false}
use Rattle.std.proofs.lemmas.Result.{err_from_is_err_and}
use Rattle.obj_memory.specs.Judgement.{narrowed}
use Rattle.source_meaning.specs.Calls.{first_of}
use Rattle.source_meaning.specs.Structures.{write_rvalue}
use Rattle.interpreter_tasks.specs.Actions as action
use Rattle.source_interp.specs.declared.evaluation.Evaluation.{Evaluation}
use Rattle.source_interp.specs.Outside.{outside}
use Rattle.source_interp.specs.Standing.{Acts}
use Rattle.source_interp.proofs.ActionLaws as law
use Rattle.source_interp.proofs.Evaluating.{lets_go, lets_none_go}
use Rattle.source_interp.proofs.evaluation.Evaluation.store_part.Goals as goal

pub returns-in_err-write_rvalue : goal.returns-in_err-write_rvalue
returns-in_err-write_rvalue g c w i =
    let p = err_from_is_err_and c.from_residual.result c.from_residual.ensures.1 in
    let o = outside w (g.T.Trace.noted c.args.trace.now) i in
    let o' = outside w (g.T.Trace.noted c.write_rvalue.new.trace) i in
    lets_none_go (action.StorePart c.args.kind c.args.offset c.args.line) (write_rvalue c.args.kind false
    c.narrowed-place.result c.args.line c.take-value.result) c.args.self.now (record c.take-value.new.self {
      machine =
          c.write_rvalue.new.self;
    }) o o' c.write_rvalue.result (law.stores_part c.args.self.now.values c.last-object.result
    c.args.kind c.args.offset c.args.line c.narrowed-place.result c.take-value.result c.take-value.ensures.first
    (c.last-object.ensures ∙ ap {A = Evaluation} (λ z. (first_of z.values).value) c.take-value.ensures.rest)
    (c.narrowed-place.ensures ∙ ap (λ n. narrowed c.args.offset n c.last-object.result) c.size_of.ensures))
    (λ e. subst (λ m. Acts e m c.write_rvalue.new.self o o' c.write_rvalue.result (write_rvalue c.args.kind false
    c.narrowed-place.result c.args.line c.take-value.result)) (ap {A = Evaluation} (λ z. z.machine)
    c.take-value.ensures.rest) (c.write_rvalue.ensures e w i)) c.in_err-write_rvalue.field-0.0 c.from_residual.result
    c.in_err-write_rvalue.was (p.1 ∙ ap Err p.2)

pub returns : goal.returns
returns g c w i =
    let o = outside w (g.T.Trace.noted c.args.trace.now) i in
    let o' = outside w (g.T.Trace.noted c.write_rvalue.new.trace) i in
    lets_go (action.StorePart c.args.kind c.args.offset c.args.line) (write_rvalue c.args.kind false
    c.narrowed-place.result c.args.line c.take-value.result) c.args.self.now (record c.take-value.new.self {
      machine =
          c.write_rvalue.new.self;
    }) o o' c.write_rvalue.result (law.stores_part c.args.self.now.values c.last-object.result
    c.args.kind c.args.offset c.args.line c.narrowed-place.result c.take-value.result c.take-value.ensures.first
    (c.last-object.ensures ∙ ap {A = Evaluation} (λ z. (first_of z.values).value) c.take-value.ensures.rest)
    (c.narrowed-place.ensures ∙ ap (λ n. narrowed c.args.offset n c.last-object.result) c.size_of.ensures))
    (λ e. subst (λ m. Acts e m c.write_rvalue.new.self o o' c.write_rvalue.result (write_rvalue c.args.kind false
    c.narrowed-place.result c.args.line c.take-value.result)) (ap {A = Evaluation} (λ z. z.machine)
    c.take-value.ensures.rest) (c.write_rvalue.ensures e w i)) c.in_ok-write_rvalue.field-0 c.in_ok-write_rvalue.was
    (ap {A = Evaluation} (λ z. z.values) c.take-value.ensures.rest)
