use Rattle.std.proofs.Common.{◌≡◌, Ok, refl, subst, sym, ap, ◌∙◌, false}
use Rattle.std.proofs.lemmas.Result.{err_from_is_err_and}
use Rattle.c_syntax.specs.View.{declarator_of, member_of, more_declarators_in, specifiers_in}
use Rattle.c_syntax.proofs.MemberView.{member_view}
use Rattle.c_faults.specs.Answer.{Fails}
use Rattle.c_declarator_typing.specs.Members.{entries_of}
use Rattle.c_declarator_typing.specs.Specifications.{specification_of}
use Rattle.c_typing_state.specs.State.{Types, state_of}
use Rattle.c_expression_typing.specs.Constructs.{with_shape}
use Rattle.c_expression_typing.specs.Typed.{shape, with_member, with_more_declared}
use Rattle.c_syntax_typing.proofs.Composing.{member_done, member_failed, member_specification}
use Rattle.c_syntax_typing.proofs.nested.Nested.with_member.Goals as goal

pub returns-in_err-specification : goal.returns-in_err-specification
returns-in_err-specification g c =
    let s = state_of c.args.typer.now in
    let s1 = state_of c.member_specification-specification.new.typer in
    let s2 = state_of c.with_declared-entries.new.typer in
    let m = c.args.tree.now in
    let spec = specification_of c.in_ok-before.specification in
    let d = declarator_of m.first in
    let before = entries_of c.args.before in
    let more = more_declarators_in m.others in
    let f = c.in_err-specification.field-0.0 in
    let specified : member_specification (specifiers_in m.specifiers) s ≡ Ok (s1, spec) =
    subst (λ z. member_specification (specifiers_in z) s ≡ Ok (s1, spec)) c.as_slice.ensures
    (subst (λ r. Types specification_of s1 r (member_specification (specifiers_in c.as_slice.result.now) s))
    c.in_ok-before.ensures.ok.1 c.member_specification-specification.ensures) in
    let fails : Fails f (with_shape spec before (shape false d) s1) =
    subst (λ z. Fails f (with_shape spec (entries_of z) (shape false d) s1)) c.in_ok-before.ensures.ok.0
    (subst (λ r. Types entries_of s2 r (with_shape spec (entries_of c.in_ok-before.before) (shape false d) s1))
    (c.in_err-specification.ensures.err f refl) c.with_declared-entries.ensures) in
    let error = err_from_is_err_and c.from_residual-in_err-specification.result
    c.from_residual-in_err-specification.ensures.1 in
    rw (error.1, error.2)
    (subst (Fails f) (sym (ap (λ z. with_member z before s) (member_view m)))
    (member_failed (specifiers_in m.specifiers) d more m.semicolon before s s1 spec f specified fails))

pub returns : goal.returns
returns g c =
    let s = state_of c.args.typer.now in
    let s1 = state_of c.member_specification-specification.new.typer in
    let s2 = state_of c.with_declared-entries.new.typer in
    let m = c.args.tree.now in
    let spec = specification_of c.in_ok-before.specification in
    let d = declarator_of m.first in
    let before = entries_of c.args.before in
    let added = entries_of c.in_ok-specification.entries in
    let more = more_declarators_in m.others in
    let specified : member_specification (specifiers_in m.specifiers) s ≡ Ok (s1, spec) =
    subst (λ z. member_specification (specifiers_in z) s ≡ Ok (s1, spec)) c.as_slice.ensures
    (subst (λ r. Types specification_of s1 r (member_specification (specifiers_in c.as_slice.result.now) s))
    c.in_ok-before.ensures.ok.1 c.member_specification-specification.ensures) in
    let declared : with_shape spec before (shape false d) s1 ≡ Ok (s2, added) =
    subst (λ z. with_shape spec (entries_of z) (shape false d) s1 ≡ Ok (s2, added)) c.in_ok-before.ensures.ok.0
    (subst (λ r. Types entries_of s2 r (with_shape spec (entries_of c.in_ok-before.before) (shape false d) s1))
    c.in_ok-specification.ensures.ok.1 c.with_declared-entries.ensures) in
    let whole = ap (λ z. with_member z before s) (member_view m)
    ∙ member_done (specifiers_in m.specifiers) d more m.semicolon before added s s1 s2 spec specified declared in
    let result = c.with_more_declared-entries.result in
    let s3 = state_of c.with_more_declared-entries.new.typer in
    subst (λ r. Types entries_of s3 r (with_member (member_of m) before s)) (sym c.without.ensures)
    (subst (Types entries_of s3 result) (sym whole)
    (subst (λ z. Types entries_of s3 result (with_more_declared spec (more_declarators_in z) added s2))
    c.as_slice-2.ensures
    (subst (λ z. Types entries_of s3 result (with_more_declared (specification_of z)
    (more_declarators_in c.as_slice-2.result.now) added s2)) c.in_ok-specification.ensures.ok.0
    c.with_more_declared-entries.ensures)))
