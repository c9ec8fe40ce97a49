-- Names stand for something of the kind of their type behind what extends a state, behind a name that is bound, and in
-- and behind blocks.
use Rattle.std.proofs.Common.{◌≡◌, ℕ, false, refl, sym, subst, List, [], ◌∷◌, ◌++◌, length, Option, Some}
use Rattle.c_tree.specs.Valid.{Scope, within}
use Rattle.c_scope.specs.declared.meaning.Meaning.{Meaning}
use Rattle.c_scope.specs.Names.{Name, declared, found, or_else}
use Rattle.c_scope.specs.Names as names
use Rattle.c_typing_state.specs.State.{State}
use Rattle.c_unit_typing.specs.Constructs.{scope_closed, scope_opened}
use Rattle.c_unit_typing.specs.Files.{File}
use Rattle.typing_laws.specs.Validity.Names.{IsMeant}
use Rattle.typing_laws.specs.Validity.Steps.{Structures}
use Rattle.typing_laws.specs.Declarators.Extending.{Extends, IsNew, IsSameOr, new, same}
use Rattle.typing_laws.proofs.Declarators.Known.{keeps_behind, meant_kept}
use Rattle.typing_laws.proofs.Declarators.Parameters.{found_last}
use Rattle.typing_laws.specs.Declarations.Binding.{Binds}
use Rattle.typing_laws.proofs.Declarations.Formed.{known_behind}
use Rattle.typing_laws.specs.Scopes.Leaving.{FileLeads}
use Rattle.typing_laws.proofs.Scopes.Leading.{names_are}
use Rattle.program_laws.specs.Bodies.Standing.{IsOpenMeaning, Stands}
use Rattle.program_laws.proofs.Bodies.Meant.{meant_within, new_open, open_meaning}

-- what holds of a name holds of it behind a new one, if it holds of that
pub either : {A : Type 0} (P : Option A → Type 0) (Q : A → Type 0) (before behind around : Option A)
    → IsSameOr Q before behind → ((x : A) → Q x → P (Some x)) → P (or_else before around) → P (or_else behind around)
either P Q before behind around (same e) h is = subst (λ z. P (or_else z around)) (sym e) is
either P Q before behind around (new x e q) h is = subst (λ z. P (or_else z around)) (sym e) (h x q)

pub stands_extended : (scope : Scope) (last : Structures) (s t : State) → Extends false s t → Stands scope last s
    → Stands scope last t
stands_extended scope last s t h is = record {
  knows = (keeps_behind scope last s t h).knows is.knows;
  named = λ name.
      either (IsOpenMeaning scope) (IsNew false) (declared name s.environment.names.current)
      (declared name t.environment.names.current) (found name t.environment.names.outer) (h.names name)
      (new_open scope)
      (subst (λ z. IsOpenMeaning scope (or_else (declared name s.environment.names.current) (found name z)))
      (sym h.outer) (is.named name));
}

pub stands_bound : (scope : Scope) (last : Structures) (name : Name) (m : Meaning) (s t : State) → Binds name m s t
    → IsMeant scope last t (Some m) → IsOpenMeaning scope (Some m) → Stands scope last s → Stands scope last t
stands_bound scope last name m s t b meant shown is = record {
  knows = known_behind name m s t b scope last is.knows meant;
  named = λ other.
      either (IsOpenMeaning scope) (λ x. x ≡ m) (declared other s.environment.names.current)
      (declared other t.environment.names.current) (found other t.environment.names.outer) (b.names other)
      (λ x e. subst (λ z. IsOpenMeaning scope (Some z)) (sym e) shown)
      (subst (λ z. IsOpenMeaning scope (or_else (declared other s.environment.names.current) (found other z)))
      (sym b.outer) (is.named other));
}

-- blocks

pub stands_opened : (scope : Scope) (last : Structures) (f : File) → Stands scope last f.state
    → Stands scope last (scope_opened f).state
stands_opened scope last f is =
    let s = f.state in
    let same_name : (name : Name)
    → names.meaning name s.environment.names ≡ found name
    (s.environment.names.outer ++ s.environment.names.current ∷ []) =
    λ name. sym (found_last name s.environment.names.outer s.environment.names.current) in
    record {
      knows = record {
        names = λ name.
            meant_kept scope last s (scope_opened f).state refl refl
            (names.meaning name (scope_opened f).state.environment.names)
            (subst (IsMeant scope last s) (same_name name) (is.knows.names name));
        members = record { each = is.knows.members.each };
      };
      named = λ name. subst (IsOpenMeaning scope) (same_name name) (is.named name);
    }

pub stands_closed : (scope : Scope) (last : Structures) (f g : File) → FileLeads (scope_opened f) g
    → Stands scope last f.state → Stands scope last (scope_closed g).state
stands_closed scope last f g h is =
    let same_name : (name : Name)
    → names.meaning name f.state.environment.names
    ≡ names.meaning name (scope_closed g).state.environment.names =
    λ name. sym (names_are f.state g.state h.state.outer h.state.outer_tags name) in
    let members = h.state.members (record { each = is.knows.members.each }) in
    record {
      knows = record {
        names = λ name.
            meant_kept scope last f.state (scope_closed g).state h.state.objects h.state.facts
            (names.meaning name (scope_closed g).state.environment.names)
            (subst (IsMeant scope last f.state) (same_name name) (is.knows.names name));
        members = record { each = members.each };
      };
      named = λ name. subst (IsOpenMeaning scope) (same_name name) (is.named name);
    }

pub stands_within : (scope : Scope) (numbers : List ℕ) (last : Structures) (s : State)
    → length scope.variables ≡ length scope.all → Stands scope last s → Stands (within scope numbers) last s
stands_within scope numbers last s lengths is = record {
  knows = record {
    names = λ name.
        meant_within scope numbers lengths last s (names.meaning name s.environment.names) (is.named name)
        (is.knows.names name);
    members = is.knows.members;
  };
  named = λ name.
      open_meaning scope numbers lengths last s (names.meaning name s.environment.names) (is.named name);
}
