use Rattle.std.proofs.Common.{◌≡◌, drop}
use Rattle.c_syntax.specs.View.{members_in, specifiers_in}
use Rattle.c_scope.specs.Names.{names_of}
use Rattle.c_facts.specs.Facts.{tags_in, tags_in_members}
use Rattle.c_facts.proofs.specifiers.+tags.Given as goal

abbrev pub invariant-add_tags-loop-specifier : goal.invariant-add_tags-loop-specifier
invariant-add_tags-loop-specifier l =
    tags_in (specifiers_in (drop l.specifier-index l.specifiers)) (names_of l.tags)
    ≡ tags_in (specifiers_in l.fn.specifiers) (names_of l.fn.tags)

abbrev pub invariant-add_tags_in_members-loop-member : goal.invariant-add_tags_in_members-loop-member
invariant-add_tags_in_members-loop-member l =
    tags_in_members (members_in (drop l.member-index l.members)) (names_of l.tags)
    ≡ tags_in_members (members_in l.fn.members) (names_of l.fn.tags)
