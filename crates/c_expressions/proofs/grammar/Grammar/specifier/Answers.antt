use Rattle.std.proofs.Common.{arith}
use Rattle.c_grammar.specs.Nested.{readers}
use Rattle.c_expressions.proofs.SpecifierSteps.{specifier_name}
use Rattle.c_expressions.proofs.grammar.Grammar.specifier.Goals as goal

pub returns-in-Identifier : goal.returns-in-Identifier
returns-in-Identifier g c =
    let e = specifier_name c.args.self.now.names.now (readers c.args.self.now.names.now c.args.self.now.levels)
    c.args.self.now.levels c.args.tokens.now.rest.now c.first-item.result c.in-Identifier.spelling c.spelled.result
    c.in-len1-up.len_at_least c.first-item.is c.in-Identifier.is c.spelled.ensures.spelling
    c.spelled.ensures.position in
    rw c.typedef_name.ensures.tree (
      e,
      record {
        said_levels = c.typedef_name.ensures.levels;
        low =
            omega (arith, c.typedef_name.ensures.levels);
      },
    )
