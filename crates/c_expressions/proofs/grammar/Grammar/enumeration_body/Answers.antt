use Rattle.std.proofs.Common.{arith, max, Ok, sym, ap, ◌∙◌}
use Rattle.c_syntax.specs.Levels.{enumerator_levels}
use Rattle.c_syntax.specs.View.{enumerator_of}
use Rattle.c_syntax.proofs.ListViews.{enumeration_view}
use Rattle.c_grammar.specs.Nested.{readers}
use Rattle.c_expressions.specs.Steps.{enumerators_behind, enumerators_behind_levels}
use Rattle.c_expressions.proofs.EnumerationSteps.{enumeration_read}
use Rattle.c_expressions.proofs.Given.{given, read}
use Rattle.c_expressions.proofs.grammar.Grammar.enumeration_body.Goals as goal

pub returns : goal.returns
returns g c =
    let o = given enumerators_behind enumerators_behind_levels _ _ _ _ _ c.more_enumerators.ensures
    c.in_ok-enumerators.ensures.ok.1 in
    let r = read (λ p. p) _ _ _ _ c.expect-2.ensures.read c.in_ok-enumerators-2.ensures.ok.1 in
    let q = c.in_ok-enumerators-2.ensures.ok.0 in
    let b = c.in_ok-enumerators.ensures.ok.0 ∙ c.in_ok-first.ensures in
    let levels = c.max.ensures ∙ ap (λ z. max z.0.levels z.1.levels) q
    ∙ ap (λ x. max x.levels c.in_ok-enumerators.enumerators.1.levels) b in
    let view = enumeration_view c.args.position c.args.tag c.in_ok-left.left c.in_ok-enumerators.enumerators.0.tree
    c.in_ok-enumerators.enumerators.1.tree.0 c.in_ok-enumerators.enumerators.1.tree.1 c.in_ok-enumerators-2.right in (
      rw q (
          enumeration_read c.args.self.now.names.now (readers c.args.self.now.names.now c.args.self.now.levels)
          c.args.self.now.levels c.args.position c.args.tag
          c.args.tokens.now.rest.now c.expect.new.self.rest.now c.enumerator.new.tokens.rest.now
          c.more_enumerators.new.tokens.rest.now c.expect-2.new.self.rest.now
          c.in_ok-left.left c.in_ok-enumerators-2.right (enumerator_of c.in_ok-enumerators.enumerators.0.tree)
          (enumerators_behind c.in_ok-enumerators.enumerators.1.tree)
          c.in_ok-left.ensures.read (rw b c.in_ok-enumerator.ensures.0) o.0 r
          ∙ ap (λ y. Ok (y, c.expect-2.new.self.rest.now)) (sym view)
          ),
      record {
        said_levels = rw (q, view) (omega (
          arith,
          levels,
          ap (λ x. enumerator_levels (enumerator_of x.tree)) b,
          c.in_ok-enumerator.ensures.1.said_levels,
          o.1.said_levels,
        ));
        low = omega (arith, levels, c.in_ok-enumerator.ensures.1.low, o.1.low);
      },
    )
