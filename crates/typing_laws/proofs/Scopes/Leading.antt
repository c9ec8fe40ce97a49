-- Constructs of a file that are typed one behind the other.
use Rattle.std.proofs.Common.{◌++◌, ◌∷◌, ◌≡◌, false, refl, sym, ap, ◌∙◌, subst, [], length, arith}
use Rattle.std.specs.Prelude.{Ok, Err}
use Rattle.std.proofs.lemmas.List.{append-nil}
use Rattle.c_tree.specs.Extents.{structure_extent}
use Rattle.c_faults.specs.Answer.{Answer, ◌>>=◌}
use Rattle.c_scope.specs.declared.meaning.Meaning.{Meaning}
use Rattle.c_scope.specs.Names.{Name, Names, around, closed, declared, found, innermost, or_else}
use Rattle.c_scope.specs.Names as names
use Rattle.c_scope.specs.Structures.{is_begun}
use Rattle.c_typing_state.specs.State.{State, extents}
use Rattle.c_unit_typing.specs.Constructs.{in_scope, scope_closed, scope_opened}
use Rattle.c_unit_typing.specs.Files.{File, FileTyping}
use Rattle.typing_laws.specs.Validity.More.{AreMore}
use Rattle.typing_laws.specs.Validity.Sound.{IsFormed}
use Rattle.typing_laws.proofs.Validity.Sound.{longer_list, more_more, same_list, same_more}
use Rattle.typing_laws.specs.Declarators.Extending.{Extending, Extends}
use Rattle.typing_laws.proofs.Declarators.Parameters.{around_last, innermost_last, within_formed}
use Rattle.typing_laws.proofs.Declarators.Tags.{numbered_more}
use Rattle.typing_laws.specs.Declarations.Binding.{Binds}
use Rattle.typing_laws.proofs.Declarations.Formed.{members_behind}
use Rattle.typing_laws.specs.Scopes.Leaving.{FileLeads, Leading, Leads}
use Rattle.typing_laws.proofs.Common.{filed}

-- states

pub leads_same : (s : State) → IsFormed s → Leads s s
leads_same s formed = record {
  more = same_more (extents s);
  longer = omega arith;
  literals = same_list s.literals;
  types = same_list s.function_types;
  objects = refl;
  function = refl;
  facts = refl;
  statics = omega arith;
  variables = omega arith;
  outer = refl;
  outer_tags = refl;
  members = λ h. h;
  pending = λ n p. p;
  formed = formed;
  undefined = λ e. e;
}

pub leads_on : (s t u : State) → Leads s t → Leads t u → Leads s u
leads_on s t u h g = record {
  more = more_more (extents s) (extents t) (extents u) h.more g.more;
  longer = let low = h.longer in let high = g.longer in omega arith;
  literals = longer_list s.literals t.literals u.literals h.literals g.literals;
  types = longer_list s.function_types t.function_types u.function_types h.types g.types;
  objects = g.objects ∙ h.objects;
  function = g.function ∙ h.function;
  facts = g.facts ∙ h.facts;
  statics = let low = h.statics in let high = g.statics in omega arith;
  variables = let low = h.variables in let high = g.variables in omega arith;
  outer = g.outer ∙ h.outer;
  outer_tags = g.outer_tags ∙ h.outer_tags;
  members = λ m. g.members (h.members m);
  pending = λ n p. g.pending n (h.pending n p);
  formed = g.formed;
  undefined = λ e. h.undefined (g.undefined e);
}

pub leads_by : (s t : State) → Extends false s t → Leads s t
leads_by s t h = record {
  more = h.more;
  longer = h.longer;
  literals = h.literals;
  types = h.types;
  objects = h.objects;
  function = h.function;
  facts = h.facts;
  statics = h.statics;
  variables = let e = h.variables refl in omega arith;
  outer = h.outer;
  outer_tags = h.outer_tags;
  members = h.members;
  pending = h.pending;
  formed = h.formed;
  undefined = h.undefined;
}

pub bound_leads : (name : Name) (m : Meaning) (s t : State) → Binds name m s t → IsFormed t → Leads s t
bound_leads name m s t b formed =
    let same = ap (λ z. z.extents) b.structures in
    record {
      more = subst (λ z. AreMore (extents s) z) (sym same) (same_more (extents s));
      longer = let e = ap length same in omega (arith, e);
      literals = record { rest = []; is = b.literals ∙ sym (append-nil s.literals) };
      types = record { rest = []; is = b.types ∙ sym (append-nil s.function_types) };
      objects = b.objects;
      function = b.function;
      facts = b.facts;
      statics = b.statics;
      variables = b.variables;
      outer = b.outer;
      outer_tags = ap (λ z. z.outer) b.tags;
      members = members_behind name m s t b;
      pending = λ n p. record {
        begun = ap (λ z. is_begun n z.bodies) b.structures ∙ p.begun;
        incomplete = ap (λ z. structure_extent z n) same ∙ p.incomplete;
      };
      formed = formed;
      undefined = λ e. sym b.undefined ∙ e;
    }

-- files

pub state_leads : (f : File) (t : State) → Leads f.state t → FileLeads f (record f { state = t })
state_leads f t h = record {
  state = h;
  variables = same_list f.variables;
  statics = same_list f.statics;
  initializers = same_list f.initializers;
  definitions = refl;
  objects = refl;
  taken = refl;
}

pub file_same : (f : File) → IsFormed f.state → FileLeads f f
file_same f formed = state_leads f f.state (leads_same f.state formed)

pub file_on : (f g h : File) → FileLeads f g → FileLeads g h → FileLeads f h
file_on f g h a b = record {
  state = leads_on f.state g.state h.state a.state b.state;
  variables = longer_list f.variables g.variables h.variables a.variables b.variables;
  statics = longer_list f.statics g.statics h.statics a.statics b.statics;
  initializers = longer_list f.initializers g.initializers h.initializers a.initializers b.initializers;
  definitions = b.definitions ∙ a.definitions;
  objects = b.objects ∙ a.objects;
  taken = b.taken ∙ a.taken;
}

pub from_file : {A : Type 0} (f g : File) → FileLeads f g → (a : Answer (File × A)) → Leading g a → Leading f a
from_file f g h (Ok r) is = file_on f g r.0 h is
from_file f g h (Err e) is = tt

pub then_leads : {A B : Type 0} (f : File) (a : Answer (File × A)) (next : A → FileTyping B) → Leading f a
    → ((x : A) (g : File) → IsFormed g.state → Leading g (next x g)) → Leading f (a >>= λ r. next r.1 r.0)
then_leads f (Ok r) next h g = from_file f r.0 h (next r.1 r.0) (g r.1 r.0 h.state.formed)
then_leads f (Err e) next h g = tt

-- what is typed in the state of expressions and declarators

pub in_state_by : {A : Type 0} (f : File) (p : State → A → Type 0) (a : Answer (State × A))
    → Extending false f.state p a → Leading f (a >>= λ r. Ok (record f { state = r.0 }, r.1))
in_state_by f p (Ok r) is = state_leads f r.0 (leads_by f.state r.0 is.0)
in_state_by f p (Err e) is = tt

-- and gives something on which what follows depends
pub in_state_then : {A B : Type 0} (f : File) (p : State → A → Type 0) (a : Answer (State × A)) (next : A
    → FileTyping B)
    → Extending false f.state p a
    → ((x : A) (g : File) → IsFormed g.state → p g.state x → Leading g (next x g))
    → Leading f (a >>= filed f >>= λ r. next r.1 r.0)
in_state_then f p (Ok r) next is h =
    let g = record f { state = r.0 } in
    from_file f g (state_leads f r.0 (leads_by f.state r.0 is.0)) (next r.1 g) (h r.1 g is.0.formed is.1)
in_state_then f p (Err e) next is h = tt

-- a scope that is closed: names and tags stand for what they did before it was opened

module _ (s t : State) (outer : t.environment.names.outer ≡ s.environment.names.outer ++ s.environment.names.current ∷
    [])
    (outer_tags : t.environment.tags.outer ≡ s.environment.tags.outer ++ s.environment.tags.current ∷ []) where
  pub outer_is : around t.environment.names.outer ≡ s.environment.names.outer
  outer_is = ap around outer ∙ around_last s.environment.names.outer s.environment.names.current

  current_is : innermost t.environment.names.current t.environment.names.outer ≡ s.environment.names.current
  current_is = ap (innermost t.environment.names.current) outer
      ∙ innermost_last t.environment.names.current s.environment.names.outer s.environment.names.current

  pub outer_tags_are : around t.environment.tags.outer ≡ s.environment.tags.outer
  outer_tags_are = ap around outer_tags ∙ around_last s.environment.tags.outer s.environment.tags.current

  tags_are : innermost t.environment.tags.current t.environment.tags.outer ≡ s.environment.tags.current
  tags_are = ap (innermost t.environment.tags.current) outer_tags
      ∙ innermost_last t.environment.tags.current s.environment.tags.outer s.environment.tags.current

  pub names_are : (name : Name)
      → names.meaning name (closed t.environment.names) ≡ names.meaning name s.environment.names
  names_are name =
      ap (λ z. or_else (declared name z) (found name (around t.environment.names.outer))) current_is
      ∙ ap (λ z. or_else (declared name s.environment.names.current) (found name z)) outer_is

  pub the_tags_are : (name : Name)
      → names.meaning name (closed t.environment.tags) ≡ names.meaning name s.environment.tags
  the_tags_are name =
      ap (λ z. or_else (declared name z) (found name (around t.environment.tags.outer))) tags_are
      ∙ ap (λ z. or_else (declared name s.environment.tags.current) (found name z)) outer_tags_are

module _ (f g : File) (formed : IsFormed f.state) (h : FileLeads (scope_opened f) g) where
  closed_state : Leads f.state (scope_closed g).state
  closed_state = record {
    more = record { kept = h.state.more.kept };
    longer = h.state.longer;
    literals = h.state.literals;
    types = h.state.types;
    objects = h.state.objects;
    function = h.state.function;
    facts = h.state.facts;
    statics = h.state.statics;
    variables = h.state.variables;
    outer = outer_is f.state g.state h.state.outer h.state.outer_tags;
    outer_tags = outer_tags_are f.state g.state h.state.outer h.state.outer_tags;
    members = λ m. (let after = h.state.members (record { each = m.each }) in record { each = after.each });
    pending = λ n p.
        (let after = h.state.pending n (record { begun = p.begun; incomplete = p.incomplete }) in
        record { begun = after.begun; incomplete = after.incomplete });
    formed = record {
      same = h.state.formed.same;
      begun = h.state.formed.begun;
      sizes = h.state.formed.sizes;
      tags = λ name x e.
          numbered_more (length (extents f.state)) (length (extents g.state)) h.state.longer x
          (formed.tags name x (sym (the_tags_are f.state g.state h.state.outer h.state.outer_tags name) ∙ e));
      constants = λ name w e. formed.constants name w (sym
          (names_are f.state g.state h.state.outer h.state.outer_tags name) ∙ e);
      typedefs = λ name type e. formed.typedefs name type (sym
          (names_are f.state g.state h.state.outer h.state.outer_tags name) ∙ e);
    };
    undefined = h.state.undefined;
  }

  pub closed_leads : FileLeads f (scope_closed g)
  closed_leads = record {
    state = closed_state;
    variables = h.variables;
    statics = h.statics;
    initializers = h.initializers;
    definitions = h.definitions;
    objects = h.objects;
    taken = h.taken;
  }

closed_by : {A : Type 0} (f : File) → IsFormed f.state → (a : Answer (File × A)) → Leading (scope_opened f) a
    → Leading f (a >>= λ r. Ok (scope_closed r.0, r.1))
closed_by f formed (Ok r) h = closed_leads f r.0 formed h
closed_by f formed (Err e) h = tt

pub scope_leads : {A : Type 0} (typing : FileTyping A) (f : File) → IsFormed f.state
    → ((g : File) → IsFormed g.state → Leading g (typing g)) → Leading f (in_scope typing f)
scope_leads typing f formed h =
    closed_by f formed (typing (scope_opened f)) (h (scope_opened f) (within_formed f.state formed))
