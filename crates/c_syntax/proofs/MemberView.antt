-- The view of a declaration of members, by its parts.
use Rattle.std.proofs.Common.{rules, arith, ◌≡◌, ◌≤◌, false, List, [], ◌∷◌, length}
use mathlib.Core.Path.{◌∙◌, refl, sym}
use Rattle.c_syntax.specs.declared.position.Position.{Position}
use Rattle.c_syntax.specs.declared.tree.Arguments.{the_lemmas}
use Rattle.c_syntax.specs.declared.tree.Declarator as rd
use Rattle.c_syntax.specs.declared.tree.Member as rm
use Rattle.c_syntax.specs.declared.tree.Specifier as rs
use Rattle.c_syntax.specs.Tree.Member.{member_declaration}
use Rattle.c_syntax.specs.Formed.{is_no_member}
use Rattle.c_syntax.specs.View.{member_of, specifiers_in, declarator_of, more_declarators_in, members_in}

pub member_view : (m : rm.Member) → member_of m ≡ member_declaration (specifiers_in m.specifiers)
    (declarator_of m.first) (more_declarators_in m.others) m.semicolon
member_view m = first_of (search (rules, the_lemmas), grind (arith, the_lemmas))

pub member_parts : (m : rm.Member) (s : List rs.Specifier) (o : List (Position × rd.Declarator)) → s ≡ m.specifiers
    → o ≡ m.others →
    member_declaration (specifiers_in s) (declarator_of m.first) (more_declarators_in o) m.semicolon ≡ member_of m
member_parts m s o p q = (λ j. member_declaration (specifiers_in (p j)) (declarator_of m.first)
    (more_declarators_in (q j)) m.semicolon) ∙ sym (member_view m)

pub some_members : (z : List rm.Member) → 1 ≤ length z → is_no_member (members_in z) ≡ false
some_members [] e = first_of (search rules, grind arith)
some_members (x ∷ z) e = refl
