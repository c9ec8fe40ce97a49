use Rattle.std.proofs.Common.{sym, ap, ◌∙◌}
use Rattle.c_syntax.specs.Tree as t
use Rattle.c_syntax.specs.View.{enumerator_of, members_in, more_enumerators_in, specifier_of}
use Rattle.c_syntax.proofs.ListViews.{enumeration_view}
use Rattle.c_syntax_typing.proofs.Composing.{specifier_typed}
use Rattle.c_syntax_typing.proofs.Views.{structure_view}
use Rattle.c_syntax_typing.proofs.nested.Nested.with_specifier.Goals as goal

pub returns-in-StructureBody : goal.returns-in-StructureBody
returns-in-StructureBody g c =
    let e = c.in-StructureBody in
    specifier_typed _ _ _ _ _ _ _ _
    (ap (λ z. t.structure_body e.keyword e.field-1 e.name e.field-3 (members_in z) e.field-5) c.as_slice.ensures
    ∙ sym (ap specifier_of e.is ∙ structure_view e.keyword e.field-1 e.name e.field-3 e.members e.field-5))
    (c.with_structure.ensures c.args.is_alone e.field-1 e.field-3 e.field-5)

pub returns-in-EnumerationBody : goal.returns-in-EnumerationBody
returns-in-EnumerationBody g c =
    let e = c.in-EnumerationBody in
    let more = c.as_slice-in-EnumerationBody.result.now in
    specifier_typed _ _ _ _ _ _ _ _
    (ap (λ z. t.enumeration_body e.field-0 e.name e.field-2 (enumerator_of z) (more_enumerators_in more) e.field-5
    e.field-6) c.get.ensures
    ∙ ap (λ z. t.enumeration_body e.field-0 e.name e.field-2 (enumerator_of e.first) (more_enumerators_in z) e.field-5
    e.field-6) c.as_slice-in-EnumerationBody.ensures
    ∙ sym (ap specifier_of e.is
    ∙ enumeration_view e.field-0 e.name e.field-2 e.first e.more e.field-5 e.field-6))
    (c.with_enumeration.ensures c.args.is_alone e.field-0 e.field-2 e.field-6 e.field-5)
