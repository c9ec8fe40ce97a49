-- An object of scalar type gets exactly one value (C99 6.7.8 paragraph 11).
use Rattle.std.proofs.Common.{◌≡◌, ℕ, Bool, true, false, refl, sym, ap, ◌∙◌, subst, List, [], ◌∷◌, ◌++◌}
use Rattle.std.proofs.Common.{Option, Some, None, if◌then◌else◌}
use Rattle.std.specs.Prelude.{◌==◌}
use Rattle.c_tree.specs.declared.c_type.TypeWord.{TypeWord}
use Rattle.c_tree.specs.declared.c_type.TypeWord.TheVariants as word
use Rattle.c_tree.specs.declared.expression.Kind.{Kind}
use Rattle.c_tree.specs.Extents.{TypeExtent}
use Rattle.c_tree.specs.Statements.{value_content}
use Rattle.c_tree.specs.Tree.{Expression, kind_of}
use Rattle.c_tree.specs.TypesAgree.{kind_of_type}
use Rattle.c_tree.specs.Valid.{Scope}
use Rattle.c_rules.specs.Fine.{IsFineAs}
use Rattle.c_rules.specs.Types.{unqualified}
use Rattle.c_place_rules.specs.Targets.{object_kind}
use Rattle.c_current_object.specs.declared.subobject.Subobject.{Subobject}
use Rattle.c_current_object.specs.Members.{MemberLists}
use Rattle.c_current_object.specs.Subobjects.{part, part_as, whole}
use Rattle.c_current_object.specs.Types.{is_aggregate_as, is_character_array, is_character_array_as}
use Rattle.c_initializer_rules.specs.Placed.{PlacedPart, placed, with_part, without}
use Rattle.c_operand_typing.specs.Primaries.{is_aggregate}
use Rattle.typing_laws.specs.Validity.More.{AreMore}
use Rattle.typing_laws.proofs.Validity.Common.{the_same}
use Rattle.typing_laws.proofs.Validity.Kept.{kind_kept}
use Rattle.typing_laws.specs.Initializers.Cursor.{HasIf}
use Rattle.typing_laws.proofs.Initializers.Some.{HasSome}
use Rattle.typing_laws.proofs.Initializers.Steps.{KeepsParts}

-- a scalar type

pub same_aggregate : (ws : List TypeWord) → is_aggregate_as (unqualified ws) ≡ is_aggregate ws
same_aggregate [] = refl
same_aggregate (word.Void ∷ ws) = refl
same_aggregate (word.Integer t ∷ ws) = refl
same_aggregate (word.Enumeration n ∷ ws) = refl
same_aggregate (word.Pointer ∷ ws) = refl
same_aggregate (word.Array count bytes ∷ ws) = refl
same_aggregate (word.OpenArray ∷ ws) = refl
same_aggregate (word.Structure n ∷ ws) = refl
same_aggregate (word.Const ∷ ws) = same_aggregate ws
same_aggregate (word.Takes ∷ ws) = refl
same_aggregate (word.Gives ∷ ws) = refl

no_characters : (ws : List TypeWord) → is_aggregate_as ws ≡ false → is_character_array_as ws ≡ true → ⊥
no_characters [] e g = absurd cc
no_characters (word.Void ∷ ws) e g = absurd cc
no_characters (word.Integer t ∷ ws) e g = absurd cc
no_characters (word.Enumeration n ∷ ws) e g = absurd cc
no_characters (word.Pointer ∷ ws) e g = absurd cc
no_characters (word.Array count bytes ∷ ws) e g = absurd cc
no_characters (word.OpenArray ∷ ws) e g = absurd cc
no_characters (word.Structure n ∷ ws) e g = absurd cc
no_characters (word.Const ∷ ws) e g = absurd cc
no_characters (word.Takes ∷ ws) e g = absurd cc
no_characters (word.Gives ∷ ws) e g = absurd cc

-- the kind of a scalar does not depend on its bytes
pub scalar_kind : (es : List (Option TypeExtent)) (size : ℕ) (ws : List TypeWord) (k : Kind) → is_aggregate ws ≡ false
    → kind_of_type es ws ≡ Some k → k ≡ object_kind size ws
scalar_kind es size [] k e is = absurd cc
scalar_kind es size (word.Void ∷ ws) k e is = the_same (sym is)
scalar_kind es size (word.Integer t ∷ ws) k e is = the_same (sym is)
scalar_kind es size (word.Enumeration n ∷ ws) k e is = the_same (sym is)
scalar_kind es size (word.Pointer ∷ ws) k e is = the_same (sym is)
scalar_kind es size (word.Array count bytes ∷ ws) k e is = absurd cc
scalar_kind es size (word.OpenArray ∷ ws) k e is = absurd cc
scalar_kind es size (word.Structure n ∷ ws) k e is = absurd cc
scalar_kind es size (word.Const ∷ ws) k e is = scalar_kind es size ws k e is
scalar_kind es size (word.Takes ∷ ws) k e is = absurd cc
scalar_kind es size (word.Gives ∷ ws) k e is = absurd cc

-- nothing stays of what was stored in the whole

nothing_stays : (ps : List PlacedPart) → without [] ps ≡ []
unfolding without
nothing_stays [] = refl
nothing_stays (p ∷ ps) = nothing_stays ps

-- at most one value so far, of a type
pub data IsAtMostOne (scope : Scope) (type : List TypeWord) (es : List (Option TypeExtent))
    (ps : List PlacedPart) : Type 0 where
  none : ps ≡ [] → IsAtMostOne scope type es ps
  one : (e : Expression) → IsFineAs scope es type e → ps ≡ placed (whole type) (value_content e) ∷ []
      → IsAtMostOne scope type es ps

pub at_most_stays : (scope : Scope) (type : List TypeWord) (es more : List (Option TypeExtent)) → AreMore es more
    → (ps : List PlacedPart) → IsAtMostOne scope type es ps → IsAtMostOne scope type more ps
at_most_stays scope type es more h ps (none e) = none e
at_most_stays scope type es more h ps (one e fine is) =
    one e (record { valid = fine.valid; kind = kind_kept es more h type (kind_of e) fine.kind; value = fine.value }) is

module _ (scope : Scope) (type : List TypeWord) (scalar : is_aggregate_as (unqualified type) ≡ false) where
  abbrev pub IsWhole : Subobject → Type 0
  IsWhole o = o ≡ whole type

  itself_if : (test : Bool) → HasIf IsWhole (if test then Some (whole type) else None)
  itself_if true = refl
  itself_if false = tt

  part_by : (es : List (Option TypeExtent)) (lists : MemberLists) (n : ℕ) (ws : List TypeWord)
      → is_aggregate_as ws ≡ false → HasIf IsWhole (part_as es lists ws (whole type) n)
  part_by es lists n [] e = tt
  part_by es lists n (word.Void ∷ ws) e = itself_if (n == 0)
  part_by es lists n (word.Integer t ∷ ws) e = itself_if (n == 0)
  part_by es lists n (word.Enumeration m ∷ ws) e = itself_if (n == 0)
  part_by es lists n (word.Pointer ∷ ws) e = itself_if (n == 0)
  part_by es lists n (word.Array count bytes ∷ ws) e = absurd cc
  part_by es lists n (word.OpenArray ∷ ws) e = absurd cc
  part_by es lists n (word.Structure m ∷ ws) e = absurd cc
  part_by es lists n (word.Const ∷ ws) e = itself_if (n == 0)
  part_by es lists n (word.Takes ∷ ws) e = itself_if (n == 0)
  part_by es lists n (word.Gives ∷ ws) e = itself_if (n == 0)

  pub parts_whole : (es : List (Option TypeExtent)) (lists : MemberLists) (o : Subobject) (n : ℕ) → IsWhole o
      → HasIf IsWhole (part es lists o n)
  unfolding part
  parts_whole es lists o n is =
      subst (λ o. HasIf IsWhole (part_as es lists (unqualified o.c_type) o n)) (sym is)
      (part_by es lists n (unqualified type) scalar)

  only : (es : List (Option TypeExtent)) (e : Expression) (ps : List PlacedPart) → IsFineAs scope es type e
      → IsAtMostOne scope type es (with_part (whole type) (value_content e) ps)
  only es e ps fine = one e fine (ap (λ qs. qs ++ placed (whole type) (value_content e) ∷ []) (nothing_stays ps))

  pub keeps_one : (es : List (Option TypeExtent)) → KeepsParts true scope es IsWhole (IsAtMostOne scope type es)
  keeps_one es = record {
    removed = λ o ps is h. none (ap (λ o. without o.path ps) is ∙ nothing_stays ps);
    value = λ o e ps is fine h.
        subst (λ o. IsAtMostOne scope type es (with_part o (value_content e) ps)) (sym is)
        (only es e ps (subst (λ o. IsFineAs scope es o.c_type e) is fine));
    literal = λ o spelled ps is chars h.
        absurd (no_characters (unqualified type) scalar
        (ap (λ o. is_character_array o.c_type) (sym is) ∙ chars));
  }

-- exactly one

pub record IsOne (scope : Scope) (type : List TypeWord) (es : List (Option TypeExtent))
    (ps : List PlacedPart) : Type 0 where
  pub value : Expression
  pub fine : IsFineAs scope es type value
  pub is : ps ≡ placed (whole type) (value_content value) ∷ []

pub exactly_one : (scope : Scope) (type : List TypeWord) (es : List (Option TypeExtent)) (ps : List PlacedPart)
    → IsAtMostOne scope type es ps → HasSome ps → IsOne scope type es ps
exactly_one scope type es ps (one e fine is) h = record { value = e; fine = fine; is = is }
exactly_one scope type es ps (none e) h = absurd (conflict (sym e ∙ h.is))
  where
    conflict : [] ≡ h.part ∷ h.others → ⊥
    conflict e = cc
