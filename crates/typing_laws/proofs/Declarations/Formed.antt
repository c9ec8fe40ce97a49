-- A state in which a name is bound is formed as before, and what was known of the other names is known still.
use Rattle.std.proofs.Common.{◌≡◌, true, sym, ap, ◌∙◌, subst, length, Option, Some}
use Rattle.obj_memory.specs.declared.int_type.IntType.TheVariants.{Int}
use Rattle.obj_memory.specs.Integers.{fit}
use Rattle.c_tree.specs.Extents.{structure_extent}
use Rattle.c_tree.specs.Valid.{Scope}
use Rattle.c_place_rules.specs.Places.{member_view}
use Rattle.c_place_laws.specs.FinePlaces.{IsMemberOf}
use Rattle.c_scope.specs.declared.meaning.Meaning.{Meaning}
use Rattle.c_scope.specs.declared.meaning.Meaning.TheVariants as meaning
use Rattle.c_scope.specs.Names.{Name, Names, declared, found, or_else}
use Rattle.c_scope.specs.Names as names
use Rattle.c_scope.specs.Structures.{is_begun, member_of}
use Rattle.c_typing_state.specs.State.{State, extents}
use Rattle.typing_laws.specs.Validity.Names.{IsMeant}
use Rattle.typing_laws.specs.Validity.Sound.{IsFormed, IsNumbered, Knows, is_sized_array}
use Rattle.typing_laws.specs.Validity.Steps.{Structures as Extents}
use Rattle.typing_laws.specs.Validity.Typed.{HaveMembers}
use Rattle.typing_laws.proofs.Validity.Common.{the_same}
use Rattle.typing_laws.specs.Declarators.Extending.{IsSameOr, new, same}
use Rattle.typing_laws.proofs.Declarators.Known.{meant_kept}
use Rattle.typing_laws.specs.Declarations.Binding.{Binds}

-- what holds of each name behind a new one, if it holds of that
stays : (P : Meaning → Type 0) (m : Meaning) → P m → (before behind around : Option Meaning)
    → IsSameOr (λ x. x ≡ m) before behind → ((x : Meaning) → or_else before around ≡ Some x → P x) → (x : Meaning)
    → or_else behind around ≡ Some x → P x
stays P m p before behind around (same e) h x is = h x (ap (λ z. or_else z around) (sym e) ∙ is)
stays P m p before behind around (new y e g) h x is =
    subst P (sym g ∙ the_same (ap (λ z. or_else z around) (sym e) ∙ is)) p

abbrev pub IsPlainMeaning : Meaning → Type 0
IsPlainMeaning (meaning.Constant w) = fit Int w ≡ w
IsPlainMeaning (meaning.Typedef type) = is_sized_array type ≡ true
IsPlainMeaning (meaning.Named what type) = Unit {0}

plain_formed : (s : State) → IsFormed s → (name : Name) (x : Meaning)
    → names.meaning name s.environment.names ≡ Some x → IsPlainMeaning x
plain_formed s formed name (meaning.Constant w) e = formed.constants name w e
plain_formed s formed name (meaning.Typedef type) e = formed.typedefs name type e
plain_formed s formed name (meaning.Named what type) e = tt

module _ (name : Name) (m : Meaning) (s t : State) (b : Binds name m s t) where
  extents_are : extents t ≡ extents s
  extents_are = ap (λ z. z.extents) b.structures

  pub formed_behind : IsFormed s → IsPlainMeaning m → IsFormed t
  formed_behind formed plain = record {
    same = ap length extents_are ∙ formed.same ∙ ap (λ z. length z.bodies) (sym b.structures);
    begun = λ n e is.
        ap (λ z. is_begun n z.bodies) b.structures
        ∙ formed.begun n e (ap (λ z. structure_extent z n) (sym extents_are) ∙ is);
    sizes = λ n e is. formed.sizes n e (ap (λ z. structure_extent z n) (sym extents_are) ∙ is);
    tags = λ other x is.
        subst (λ z. IsNumbered (length z) x) (sym extents_are)
        (formed.tags other x (ap (λ z. names.meaning other z) (sym b.tags) ∙ is));
    constants = λ other w is. plain_at other (meaning.Constant w) is;
    typedefs = λ other type is. plain_at other (meaning.Typedef type) is;
  }
    where
      plain_at : (other : Name) (x : Meaning) → names.meaning other t.environment.names ≡ Some x → IsPlainMeaning x
      plain_at other x is =
          stays IsPlainMeaning m plain (declared other s.environment.names.current)
          (declared other t.environment.names.current) (found other s.environment.names.outer) (b.names other)
          (plain_formed s formed other) x
          (ap (λ z. or_else (declared other t.environment.names.current) (found other z)) (sym b.outer) ∙ is)

  pub members_behind : HaveMembers s → HaveMembers t
  members_behind h = record {
    each = λ n other x is.
        subst (λ z. IsMemberOf z n
        (member_view x)) (sym extents_are)
        (h.each n other x (ap (λ z. member_of n other z.bodies) (sym b.structures) ∙ is));
  }

  meant_or : (scope : Scope) (last : Extents) (before behind around : Option Meaning)
      → IsSameOr (λ x. x ≡ m) before behind → IsMeant scope last t (or_else before around)
      → IsMeant scope last t (Some m) → IsMeant scope last t (or_else behind around)
  meant_or scope last before behind around (same e) h is =
      subst (λ z. IsMeant scope last t (or_else z around)) (sym e) h
  meant_or scope last before behind around (new x e g) h is =
      subst (λ z. IsMeant scope last t (or_else z around)) (sym e) (subst (λ z. IsMeant scope last t (Some z))
      (sym g) is)

  pub known_behind : (scope : Scope) (last : Extents) → Knows scope last s → IsMeant scope last t (Some m)
      → Knows scope last t
  known_behind scope last knows is = record {
    names = λ other.
        meant_or scope last (declared other s.environment.names.current)
        (declared other t.environment.names.current) (found other t.environment.names.outer) (b.names other)
        (subst (λ z. IsMeant scope last t (or_else (declared other s.environment.names.current) (found other z)))
        (sym b.outer)
        (meant_kept scope last s t b.objects b.facts
        (or_else (declared other s.environment.names.current) (found other s.environment.names.outer))
        (knows.names other))) is;
    members = members_behind knows.members;
  }
