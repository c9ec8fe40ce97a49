use Rattle.std.proofs.Common.{arith, max, Ok, sym, ap, ◌∙◌}
use Rattle.c_syntax.specs.Levels.{parameters_levels, typed_levels}
use Rattle.c_syntax.specs.View.{typed_of, more_parameters_in}
use Rattle.c_grammar.specs.Nested.{readers}
use Rattle.c_grammar.specs.Readers.{parameters_of}
use Rattle.c_expressions.specs.Steps.{parameters_behind, parameters_behind_levels}
use Rattle.c_expressions.proofs.Given.{given}
use Rattle.c_expressions.proofs.VoidParameters.{levels_of_parameters, parameters_read}
use Rattle.c_expressions.proofs.grammar.Grammar.parameters.Goals as goal

pub returns : goal.returns
returns g c =
    let f = c.in_ok-first.ensures in
    let o = given parameters_behind parameters_behind_levels _ _ _ _ _ c.more_parameters.ensures
    c.in_ok-first-2.ensures.ok.1 in
    let same = c.in_ok-parameters_of.ensures ∙ ap (λ x. parameters_of (typed_of x.tree)
    (more_parameters_in c.in_ok-first-2.others.tree)) c.in_ok-first-2.ensures.ok.0 in
    let levels = c.max.ensures ∙ ap (λ x. max x.levels c.in_ok-first-2.others.levels) c.in_ok-first-2.ensures.ok.0 in (
      parameters_read (readers c.args.self.now.names.now c.args.self.now.levels) c.args.tokens.now.rest.now
          c.typed.new.tokens.rest.now c.more_parameters.new.tokens.rest.now
          (typed_of c.in_ok-first.first.tree) (parameters_behind c.in_ok-first-2.others.tree)
          (sym c.next_is.ensures ∙ c.if-next_is.false) f.0 o.0
          ∙ ap (λ y. Ok (y, c.more_parameters.new.tokens.rest.now)) (sym same),
      record {
        said_levels = levels ∙ ap (λ n. max n c.in_ok-first-2.others.levels) f.1.said_levels
            ∙ ap (λ n. max (typed_levels (typed_of c.in_ok-first.first.tree)) n) o.1.said_levels
            ∙ sym (levels_of_parameters (typed_of c.in_ok-first.first.tree)
            (more_parameters_in c.in_ok-first-2.others.tree)) ∙ ap parameters_levels (sym same);
        low = omega (arith, levels, f.1.low, o.1.low);
      },
    )
