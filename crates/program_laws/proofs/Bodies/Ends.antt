-- What the scope of a function has of a file, it has of the files before it, and in blocks.
use Rattle.std.proofs.Common.{◌≡◌, ℕ, ◌+◌, true, sym, ap, ◌∙◌, List, ◌++◌}
use Rattle.std.proofs.Common.{length, Some, arith}
use Rattle.std.proofs.lemmas.List.{length-append}
use Rattle.c_tree.specs.declared.c_type.TypeWord.{TypeWord}
use Rattle.c_tree.specs.Valid.{Scope, within}
use Rattle.c_tree.specs.ValidProgram.{count_from}
use Rattle.c_scope.specs.Declaring.{is_linked}
use Rattle.c_scope.specs.declared.meaning.Designated.{Designated}
use Rattle.c_scope.specs.declared.meaning.Designated.TheVariants as what
use Rattle.c_scope.specs.Environment.{entity_with}
use Rattle.c_scope.specs.Names.{declared}
use Rattle.c_scope.specs.Names as names
use Rattle.c_typing_state.specs.State.{State, extents}
use Rattle.c_unit_typing.specs.Constructs.{scope_closed}
use Rattle.c_unit_typing.specs.Files.{File}
use Rattle.typing_laws.specs.Validity.Sound.{Covers}
use Rattle.typing_laws.specs.Validity.Steps.{Structures}
use Rattle.typing_laws.proofs.Validity.Sound.{get_extended, more_more}
use Rattle.typing_laws.specs.Declarations.Binding.{linked_meaning}
use Rattle.typing_laws.specs.Scopes.Leaving.{FileLeads, Leads}
use Rattle.program_laws.specs.Bodies.Standing.{Ends, EntitiesLead, IsOpenObject, LinkedAreMeant, Numbers}
use Rattle.program_laws.proofs.Bodies.Entities.{declared_linked, entities_on}
use Rattle.program_laws.proofs.Bodies.Meant.{if_linked_back, meant_within}
use Rattle.program_laws.proofs.Bodies.Opened.{count_append, within_lengths}

pub covers_led : (scope : Scope) (last : Structures) (s t : State) → Leads s t → Covers scope last t
    → Covers scope last s
covers_led scope last s t h c = record {
  more = more_more (extents s) (extents t) last h.more c.more;
  undefined = h.undefined c.undefined;
  literals = λ n l e. c.literals n l (get_extended s.literals t.literals h.literals n l e);
  types = λ n type e. c.types n type (get_extended s.function_types t.function_types h.types n type e);
}

linked_led : (scope : Scope) (last : Structures) (s t : State) → Leads s t → EntitiesLead s.environment t.environment
    → LinkedAreMeant scope last t → LinkedAreMeant scope last s
linked_led scope last s t h lead is = record {
  each = λ u d ready sized fine has entities more facts before.
      is.each u d ready sized fine has (entities_on _ s.environment t.environment entities lead)
      (more_more (extents u) (extents s) (extents t) more h.more) (h.facts ∙ facts) before;
}

pub ends_before : (scope : Scope) (last : Structures) (result : List TypeWord) (f g : File) (numbers : List ℕ)
    → FileLeads f g → Numbers numbers f g → EntitiesLead f.state.environment g.state.environment
    → Ends scope last result g → Ends scope last result f
ends_before scope last result f g numbers h n lead ends = record {
  covers = covers_led scope last f.state g.state h.state ends.covers;
  gives = ends.gives;
  lengths = ends.lengths;
  first = ends.first;
  count =
      let a = n.count in let b = n.made in let c = ends.count in omega arith;
  variables = λ k v e. ends.variables k v (get_extended f.variables g.variables h.variables k v e);
  statics = λ k m x e. ends.statics k m x (get_extended f.statics g.statics h.statics k (m, x) e);
  linked = linked_led scope last f.state g.state h.state lead ends.linked;
}

-- behind a block that is closed the file has what it had before
pub ends_closed : (scope : Scope) (last : Structures) (result : List TypeWord) (g : File)
    → Ends scope last result (scope_closed g) → Ends scope last result g
ends_closed scope last result g ends = record {
  covers = record {
    more = ends.covers.more;
    undefined = ends.covers.undefined;
    literals = ends.covers.literals;
    types = ends.covers.types;
  };
  gives = ends.gives;
  lengths = ends.lengths;
  first = ends.first;
  count = ends.count;
  variables = ends.variables;
  statics = ends.statics;
  linked = record {
    each = λ u d ready sized fine has entities more facts before.
        ends.linked.each u d ready sized fine has (record { each = entities.each }) (record { kept = more.kept }) facts
        before;
  };
}

-- in a block more variables can be named

pub linked_open : (scope : Scope) (d : Designated) → is_linked d ≡ true → IsOpenObject scope d
linked_open scope (what.Object n) e = tt
linked_open scope (what.Static n) e = tt
linked_open scope (what.Function n) e = tt
linked_open scope (what.Library r) e = tt
linked_open scope (what.Variable n) e = absurd cc

pub ends_within : (scope : Scope) (numbers : List ℕ) (last : Structures) (result : List TypeWord) (f : File)
    → Ends scope last result f → Ends (within scope numbers) last result f
ends_within scope numbers last result f ends = record {
  covers = record {
    more = ends.covers.more;
    undefined = ends.covers.undefined;
    literals = λ n l e.
        (let is = ends.covers.literals n l e in record { sized = is.sized; there = is.there; kind = is.kind });
    types = λ n type e.
        (let is = ends.covers.types n type e in
        record { signature = is.signature; has = is.has; spelled = is.spelled });
  };
  gives = record { kind = ends.gives.kind };
  lengths = within_lengths scope numbers ends.lengths;
  first = ends.first;
  count = ends.count;
  variables = ends.variables;
  statics = λ k n x e. (let is = ends.statics k n x e in record { there = is.there; kind = is.kind });
  linked = record {
    each = λ u d ready sized fine has entities more facts before.
        meant_within scope numbers ends.lengths last u (Some (linked_meaning u.environment d))
        (linked_open scope (entity_with u.environment d (declared d.name u.environment.entities)).what
        (declared_linked u.environment d ready.linked))
        (ends.linked.each u d ready sized fine has entities more facts
        (if_linked_back scope numbers ends.lengths last u (names.meaning d.name u.environment.names) before));
  };
}

-- numbers of constructs that stand one behind the other
pub numbers_on : (xs ys : List ℕ) (f g h : File) → Numbers xs f g → Numbers ys g h → Numbers (xs ++ ys) f h
numbers_on xs ys f g h a b =
    let both : length (xs ++ ys) ≡ length xs + length ys = length-append xs ys in
    record {
      counted = count_append f.state.environment.variables xs ys a.counted
          (ap (λ n. count_from n ys) (sym a.count) ∙ b.counted);
      count = let c = a.count in let d = b.count in omega (arith, both);
      made = let c = a.made in let d = b.made in omega (arith, both);
    }
