use Rattle.std.proofs.Common.{sym, ap, ◌∙◌}
use Rattle.c_syntax.specs.Levels.{declarator_levels}
use Rattle.c_syntax.specs.View.{declarator_of}
use Rattle.c_grammar.specs.SpecifierReader.{member_from}
use Rattle.c_expressions.specs.Steps.{declarators_behind, declarators_behind_levels}
use Rattle.c_expressions.proofs.Given.{given}
use Rattle.c_expressions.proofs.grammar.Grammar.member_declaration.Goals as goal

pub returns : goal.returns
unfolding member_from
returns g c =
    let n = c.args.self.now.levels in
    let q = c.in_ok-member-2.ensures.ok.0 in
    let z = ap (λ x. x.0) q ∙ c.in_ok-member.ensures.ok.0 in
    let f = ap (λ x. x.1) q in
    let d = given declarator_of declarator_levels _ _ _ _ _ c.declarator.ensures c.in_ok-member.ensures.ok.1 in
    let o = given declarators_behind declarators_behind_levels _ _ _ _ _ c.more_declarators.ensures
    c.in_ok-member-2.ensures.ok.1 in
    rw (c.in_ok-specifiers.ensures.0, d.0, o.0, sym z, sym f) (c.member_declaration.ensures n _ _
    (rw z c.in_ok-specifiers.ensures.1) (rw f d.1) o.1 c.expect-semicolon.ensures.read)
