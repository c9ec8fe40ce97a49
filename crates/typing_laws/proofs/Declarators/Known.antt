-- What is known of a state is known of one that extends it: type names keep it.
use Rattle.std.proofs.Common.{◌≡◌, false, ◌||◌, sym, ap, ◌∙◌, subst, List, length, Option, Some, None, nat_le}
use Rattle.std.specs.Prelude.{Ok, Err}
use Rattle.c_tree.specs.declared.c_type.TypeWord.{TypeWord}
use Rattle.c_tree.specs.Valid.{Scope}
use Rattle.c_faults.specs.Answer.{Answer}
use Rattle.c_scope.specs.declared.meaning.Designated.{Designated}
use Rattle.c_scope.specs.declared.meaning.Designated.TheVariants as what
use Rattle.c_scope.specs.declared.meaning.Meaning.{Meaning}
use Rattle.c_scope.specs.declared.meaning.Meaning.TheVariants as meaning
use Rattle.c_scope.specs.Names.{declared, found, or_else}
use Rattle.c_operand_typing.specs.Primaries.{is_aggregate, is_marked}
use Rattle.c_typing_state.specs.State.{State}
use Rattle.c_expression_typing.specs.Typed.{type_name}
use Rattle.typing_laws.specs.Validity.Names.{IsMeant}
use Rattle.typing_laws.specs.Validity.Sound.{IsFormed, Keeps, Knows, Sound}
use Rattle.typing_laws.specs.Validity.Steps.{Structures, TypeNames, nothing}
use Rattle.typing_laws.specs.Declarators.Extending.{Extending, Extends, IsNew, IsNewObject, IsSameOr, new, same}
use Rattle.typing_laws.specs.Declarators.Given.{anything}
use Rattle.typing_laws.proofs.Declarators.Recursion.{name_extends}

-- what a name stands for, with the same marks and facts
pub meant_kept : (scope : Scope) (last : Structures) (s t : State) → t.objects ≡ s.objects
    → t.environment.facts ≡ s.environment.facts → (m : Option Meaning)
    → IsMeant scope last s m → IsMeant scope last t m
meant_kept scope last s t o f None is = tt
meant_kept scope last s t o f (Some (meaning.Typedef type)) is = tt
meant_kept scope last s t o f (Some (meaning.Constant w)) is = is
meant_kept scope last s t o f (Some (meaning.Named (what.Object n) type)) is = is
meant_kept scope last s t o f (Some (meaning.Named (what.Static n) type)) is = is
meant_kept scope last s t o f (Some (meaning.Named (what.Function n) type)) is =
    λ defined. is (ap (λ z. nat_le (length z.functions) n) (sym f) ∙ defined)
meant_kept scope last s t o f (Some (meaning.Named (what.Library r) type)) is = tt
meant_kept scope last s t o f (Some (meaning.Named (what.Variable n) type)) is = record {
  sized = is.sized;
  kind = is.kind;
  object = is.object ∙ ap (λ z. is_aggregate type || is_marked z n) (sym o);
}

new_object : (scope : Scope) (last : Structures) (t : State) (d : Designated) (type : List TypeWord)
    → IsNewObject false d → IsMeant scope last t (Some (meaning.Named d type))
new_object scope last t (what.Variable n) type is = absurd cc
new_object scope last t (what.Object n) type is = absurd cc
new_object scope last t (what.Static n) type is = absurd cc
new_object scope last t (what.Function n) type is = absurd cc
new_object scope last t (what.Library f) type is = tt

new_meant : (scope : Scope) (last : Structures) (t : State) (m : Meaning) → IsNew false m
    → IsMeant scope last t (Some m)
new_meant scope last t (meaning.Constant w) is = is
new_meant scope last t (meaning.Typedef type) is = tt
new_meant scope last t (meaning.Named d type) is = new_object scope last t d type is

meant_by : (scope : Scope) (last : Structures) (t : State) (before behind around : Option Meaning)
    → IsSameOr (IsNew false) before behind → IsMeant scope last t (or_else before around)
    → IsMeant scope last t (or_else behind around)
meant_by scope last t before behind around (same e) is =
    subst (λ z. IsMeant scope last t (or_else z around)) (sym e) is
meant_by scope last t before behind around (new m e p) is =
    subst (λ z. IsMeant scope last t (or_else z around)) (sym e) (new_meant scope last t m p)

known_behind : (scope : Scope) (last : Structures) (s t : State) → Extends false s t → Knows scope last s
    → Knows scope last t
known_behind scope last s t h knows = record {
  names = λ name.
      meant_by scope last t (declared name s.environment.names.current) (declared name t.environment.names.current)
      (found name t.environment.names.outer) (h.names name)
      (subst (λ z. IsMeant scope last t (or_else (declared name s.environment.names.current) (found name z)))
      (sym h.outer)
      (meant_kept scope last s t h.objects h.facts
      (or_else (declared name s.environment.names.current) (found name s.environment.names.outer)) (knows.names name)));
  members = h.members knows.members;
}

pub keeps_behind : (scope : Scope) (last : Structures) (s t : State) → Extends false s t → Keeps scope last s t
keeps_behind scope last s t h = record {
  more = h.more;
  literals = h.literals;
  types = h.types;
  knows = known_behind scope last s t h;
  pending = h.pending;
  formed = h.formed;
  undefined = h.undefined;
}

sound_by : {A : Type 0} (scope : Scope) (last : Structures) (s : State) (a : Answer (State × A))
    → (IsFormed s → Extending false s anything a)
    → Sound scope last s nothing (λ (es : Structures) (x : A). Unit {0}) a
sound_by scope last s (Ok r) h = λ formed. (keeps_behind scope last s r.0 (h formed).0, λ knows g covers. tt)
sound_by scope last s (Err f) h = tt

pub type_names : (scope : Scope) (last : Structures) → TypeNames scope last
type_names scope last = record {
  each = λ x c s. sound_by scope last s (type_name x s) (λ formed. name_extends x c s formed);
}
