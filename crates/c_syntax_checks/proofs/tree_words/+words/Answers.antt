use Rattle.std.proofs.Common.{◌++◌}
use mathlib.Core.Path.{◌∙◌, ap}
use Rattle.c_syntax.specs.Tree.Member.{member_declaration}
use Rattle.c_syntax.specs.View.{specifiers_in, declarator_of, more_declarators_in}
use Rattle.c_syntax.specs.Words.{member_words}
use Rattle.c_syntax.proofs.MemberView.{member_parts}
use Rattle.c_syntax_checks.proofs.tree_words.+words.Goals as goal

pub put_member-returns : goal.put_member-returns
put_member-returns t c = λ i.
    (c.in_ok-put_punctuator.ensures i ∙ (c.in_ok-put_more_declarators.ensures _ ∙ (c.in_ok-put_declarator.ensures _
    ∙ c.in_ok-put_specifiers.ensures _)))
    ∙ ap (λ d. c.args.out.now.items ++ member_words (member_declaration (specifiers_in c.as_slice.result.now)
    (declarator_of d) (more_declarators_in c.as_slice-2.result.now) c.args.member.now.semicolon) i) c.get.ensures
    ∙ ap (λ m. c.args.out.now.items ++ member_words m i)
    (member_parts c.args.member.now _ _ c.as_slice.ensures c.as_slice-2.ensures)
