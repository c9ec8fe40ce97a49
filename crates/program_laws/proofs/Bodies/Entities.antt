-- What names with linkage stand for behind declarations and blocks.
use Rattle.std.proofs.Common.{◌≡◌, ℕ, Bool, true, false, refl, sym, ap, ◌∙◌, subst, List, [], ◌∷◌, ◌++◌}
use Rattle.std.proofs.Common.{length, Option, Some, None, if◌then◌else◌}
use Rattle.std.proofs.lemmas.Bool.{false≢true}
use Rattle.c_tree.specs.declared.c_type.TypeWord.{TypeWord}
use Rattle.c_scope.specs.declared.meaning.Designated.{Designated}
use Rattle.c_scope.specs.declared.meaning.Designated.TheVariants as what
use Rattle.c_scope.specs.declared.meaning.Entity.{Entity}
use Rattle.c_scope.specs.declared.meaning.Meaning.{Meaning}
use Rattle.c_scope.specs.declared.meaning.Meaning.TheVariants as meaning
use Rattle.c_scope.specs.Composite.{composite}
use Rattle.c_scope.specs.Declaring.{Declaration, is_function, is_linked}
use Rattle.c_scope.specs.Environment.{Environment, entity_with, linked, number_or, statics_with, type_or}
use Rattle.c_scope.specs.Environment.{visible_type, with_name}
use Rattle.c_scope.specs.Names.{Name, Names, bound, declared, found, is_name, or_else}
use Rattle.c_scope.specs.Names as names
use Rattle.c_typing_state.specs.State.{State}
use Rattle.c_unit_typing.specs.Constructs.{scope_closed, scope_opened}
use Rattle.c_unit_typing.specs.Files.{File}
use Rattle.typing_laws.proofs.Validity.Common.{the_same}
use Rattle.typing_laws.specs.Declarators.Extending.{Extends, IsNew, IsSameOr, new, same}
use Rattle.typing_laws.proofs.Declarators.Parameters.{found_last}
use Rattle.typing_laws.proofs.Declarators.Tags.{bound_same}
use Rattle.typing_laws.specs.Declarations.Binding.{Binds}
use Rattle.typing_laws.proofs.Declarations.Bound.{bound_here}
use Rattle.typing_laws.specs.Scopes.Leaving.{FileLeads}
use Rattle.program_laws.proofs.Functions.Entities.{name_is}
use Rattle.typing_laws.proofs.Scopes.Leading.{names_are}
use Rattle.program_laws.specs.Bodies.Standing.{AreLinked, EntitiesLead, EntityLeads, IsEntity, composed}
use Rattle.program_laws.proofs.Bodies.Standing.{either}

-- names

not_chosen : {A : Type 0} (b : Bool) (x : A) (other : Option A) → b ≡ false → (if b then Some x else other) ≡ other
not_chosen true x other e = absurd cc
not_chosen false x other e = refl

behind_other : {A : Type 0} (name other : Name) (x : A) (e : Name × A) (es : Names A) (b : Bool)
    → is_name other name ≡ false → is_name name e.0 ≡ b → declared other (bound name x es) ≡ declared other es
    → declared other (if b then (e.0, x) ∷ es else e ∷ bound name x es) ≡ declared other (e ∷ es)
behind_other name other x e es true differs is h =
    let there : is_name other e.0 ≡ false = ap (is_name other) (sym (name_is name e.0 is)) ∙ differs in
    not_chosen (is_name other e.0) x (declared other es) there
    ∙ sym (not_chosen (is_name other e.0) e.1 (declared other es) there)
behind_other name other x e es false differs is h = ap (λ z. if is_name other e.0 then Some e.1 else z) h

bound_other : {A : Type 0} (name other : Name) (x : A) (es : Names A) → is_name other name ≡ false
    → declared other (bound name x es) ≡ declared other es
bound_other name other x [] differs = not_chosen (is_name other name) x None differs
bound_other name other x (e ∷ es) differs =
    behind_other name other x e es (is_name name e.0) differs refl (bound_other name other x es differs)

-- entities that lead to others

pub entities_same : (env behind : Environment) → behind.entities ≡ env.entities → EntitiesLead env behind
entities_same env behind e = record {
  each = λ name x is. record {
    entity = x;
    is = ap (declared name) e ∙ is;
    same = refl;
    others = [];
    type = refl;
  };
}

composed_on : (type : List TypeWord) (os ps : List (List TypeWord))
    → composed (composed type os) ps ≡ composed type (os ++ ps)
composed_on type [] ps = refl
composed_on type (o ∷ os) ps = composed_on (type_or (composite type o) type) os ps

pub entities_on : (env between behind : Environment) → EntitiesLead env between → EntitiesLead between behind
    → EntitiesLead env behind
entities_on env between behind h g = record {
  each = λ name e is.
      (let one = h.each name e is in
      let two = g.each name one.entity one.is in
      record {
        entity = two.entity;
        is = two.is;
        same = two.same ∙ one.same;
        others = one.others ++ two.others;
        type = two.type ∙ ap (λ z. composed z two.others) one.type ∙ composed_on e.c_type one.others two.others;
      });
}

-- what has linkage

abbrev pub StandsLinked : Environment → Name → Option Meaning → Type 0
StandsLinked env name m = (d : Designated) (type : List TypeWord) → m ≡ Some (meaning.Named d type)
    → is_linked d ≡ true → IsEntity d (declared name env.entities)

entity_at : (a b : Environment) (name : Name) (d : Designated) → b.entities ≡ a.entities
    → IsEntity d (declared name a.entities) → IsEntity d (declared name b.entities)
entity_at a b name d e is =
    record { entity = is.entity; is = ap (declared name) e ∙ is.is; same = is.same }

new_linked : (env : Environment) (name : Name) (m : Meaning) → IsNew false m → StandsLinked env name (Some m)
new_linked env name (meaning.Constant w) is d type e l = absurd cc
new_linked env name (meaning.Typedef t) is d type e l = absurd cc
new_linked env name (meaning.Named (what.Variable n) t) is d type e l = absurd cc
new_linked env name (meaning.Named (what.Object n) t) is d type e l = absurd cc
new_linked env name (meaning.Named (what.Static n) t) is d type e l = absurd cc
new_linked env name (meaning.Named (what.Function n) t) is d type e l = absurd cc
new_linked env name (meaning.Named (what.Library r) t) is d type e l = absurd cc

pub linked_extended : (s t : State) → Extends false s t → AreLinked s.environment → AreLinked t.environment
linked_extended s t h is = record {
  entities = λ name e g. is.entities name e (ap (declared name) (sym h.entities) ∙ g);
  names = λ name.
      either (StandsLinked t.environment name) (IsNew false) (declared name s.environment.names.current)
      (declared name t.environment.names.current) (found name t.environment.names.outer) (h.names name)
      (new_linked t.environment name)
      (λ d type e l. entity_at s.environment t.environment name d h.entities
      (is.names name d type
      (ap (λ z. or_else (declared name s.environment.names.current) (found name z)) (sym h.outer) ∙ e) l));
}

abbrev pub IsUnlinked : Meaning → Type 0
IsUnlinked (meaning.Constant w) = Unit {0}
IsUnlinked (meaning.Typedef type) = Unit {0}
IsUnlinked (meaning.Named d type) = is_linked d ≡ false

unlinked_stands : (env : Environment) (name : Name) (m : Meaning) → IsUnlinked m → StandsLinked env name (Some m)
unlinked_stands env name (meaning.Constant w) is d type e l = absurd cc
unlinked_stands env name (meaning.Typedef t) is d type e l = absurd cc
unlinked_stands env name (meaning.Named c t) is d type e l =
    absurd (false≢true (sym is ∙ ap is_linked (the_same e) ∙ l))
  where
    the_same : Some (meaning.Named c t) ≡ Some (meaning.Named d type) → c ≡ d
    the_same e = cc

-- behind a name without linkage
pub linked_bound : (name : Name) (m : Meaning) (s t : State) → Binds name m s t → IsUnlinked m
    → t.environment.entities ≡ s.environment.entities → AreLinked s.environment → AreLinked t.environment
linked_bound name m s t b unlinked entities is = record {
  entities = λ other e g. is.entities other e (ap (declared other) (sym entities) ∙ g);
  names = λ other.
      either (StandsLinked t.environment other) (λ x. x ≡ m) (declared other s.environment.names.current)
      (declared other t.environment.names.current) (found other t.environment.names.outer) (b.names other)
      (λ x e. subst (λ z. StandsLinked t.environment other (Some z)) (sym e)
      (unlinked_stands t.environment other m unlinked))
      (λ d type e l. entity_at s.environment t.environment other d entities
      (is.names other d type
      (ap (λ z. or_else (declared other s.environment.names.current) (found other z)) (sym b.outer) ∙ e) l));
}

-- behind a declaration with linkage

pub new_is_linked : (b : Bool) (f n : ℕ) → is_linked (if b then what.Function f else what.Object n) ≡ true
new_is_linked true f n = refl
new_is_linked false f n = refl

entity_linked : (env : Environment) (d : Declaration) (o : Option Entity)
    → ((e : Entity) → o ≡ Some e → is_linked e.what ≡ true) → is_linked (entity_with env d o).what ≡ true
entity_linked env d None h =
    new_is_linked (is_function d.type) (number_or (declared d.name env.facts.functions) (length env.facts.functions))
    env.statics
entity_linked env d (Some e) h = h e refl

pub declared_linked : (env : Environment) (d : Declaration) → AreLinked env
    → is_linked (entity_with env d (declared d.name env.entities)).what ≡ true
declared_linked env d is = entity_linked env d (declared d.name env.entities) (is.entities d.name)

-- a name that is bound to an entity
module _ (env : Environment) (name : Name) (entity : Entity) (w : Designated) (type : List TypeWord)
    (statics : ℕ) where
  abbrev pub entity_bound : Environment
  entity_bound =
      with_name name (meaning.Named w type)
      (record env { entities = bound name entity env.entities; statics = statics })

  abbrev meant : Meaning
  meant = meaning.Named w type

  module _ (is : AreLinked env) (link : is_linked entity.what ≡ true) (same_what : entity.what ≡ w) where
    by_name : (other : Name) (b : Bool) → is_name other name ≡ b
        → StandsLinked entity_bound other (names.meaning other entity_bound.names)
    by_name other true is_same c t g l =
        let at : other ≡ name = name_is other name is_same in
        let known : declared other (bound name meant env.names.current) ≡ Some meant =
        ap (λ z. declared z (bound name meant env.names.current)) at ∙ bound_here name meant env.names.current in
        record {
          entity = entity;
          is = ap (λ z. declared z (bound name entity env.entities)) at ∙ bound_here name entity env.entities;
          same = same_what ∙ the_same (sym (ap (λ z. or_else z (found other env.names.outer)) known) ∙ g);
        }
      where
        the_same : Some meant ≡ Some (meaning.Named c t) → w ≡ c
        the_same e = cc
    by_name other false differs c t g l =
        let at = is.names other c t
        (ap (λ z. or_else z (found other env.names.outer))
        (sym (bound_other name other meant env.names.current differs)) ∙ g) l in
        record {
          entity = at.entity;
          is = bound_other name other entity env.entities differs ∙ at.is;
          same = at.same;
        }

    pub entity_links : AreLinked entity_bound
    entity_links = record {
      entities = λ other x g.
          by other x (bound_same (λ y. y ≡ entity) name other entity env.entities refl) g;
      names = λ other. by_name other (is_name other name) refl;
    }
      where
        by : (other : Name) (x : Entity)
            → IsSameOr (λ y. y ≡ entity) (declared other env.entities) (declared other (bound name entity env.entities))
            → declared other (bound name entity env.entities) ≡ Some x → is_linked x.what ≡ true
        by other x (same h) g = is.entities other x (sym h ∙ g)
        by other x (new y h k) g = ap (λ z. is_linked z.what) (sym (the_same (sym h ∙ g)) ∙ k) ∙ link

  module _ (lead : (x : Entity) → declared name env.entities ≡ Some x → EntityLeads x (Some entity)) where
    lead_by : (other : Name) (x : Entity) → declared other env.entities ≡ Some x → (b : Bool)
        → is_name other name ≡ b → EntityLeads x (declared other (bound name entity env.entities))
    lead_by other x g true is_same =
        let at : other ≡ name = name_is other name is_same in
        subst (EntityLeads x)
        (sym (ap (λ z. declared z (bound name entity env.entities)) at ∙ bound_here name entity env.entities))
        (lead x (ap (λ z. declared z env.entities) (sym at) ∙ g))
    lead_by other x g false differs = record {
      entity = x;
      is = bound_other name other entity env.entities differs ∙ g;
      same = refl;
      others = [];
      type = refl;
    }

    pub entity_leads : EntitiesLead env entity_bound
    entity_leads = record { each = λ other x g. lead_by other x g (is_name other name) refl }

module _ (env : Environment) (d : Declaration) (is : AreLinked env) where
  abbrev entity : Entity
  entity = entity_with env d (declared d.name env.entities)

  pub linked_behind : AreLinked (linked env d)
  linked_behind =
      entity_links env d.name entity entity.what (visible_type d.type (names.meaning d.name env.names))
      (statics_with env d (declared d.name env.entities)) is (declared_linked env d is) refl

  pub entities_linked : EntitiesLead env (linked env d)
  entities_linked =
      entity_leads env d.name entity entity.what (visible_type d.type (names.meaning d.name env.names))
      (statics_with env d (declared d.name env.entities))
      (λ x before. record {
        entity = entity;
        is = refl;
        same = ap (λ z. (entity_with env d z).what) before;
        others = d.type ∷ [];
        type = ap (λ z. (entity_with env d z).c_type) before;
      })

-- in and behind blocks

pub linked_opened : (f : File) → AreLinked f.state.environment → AreLinked (scope_opened f).state.environment
linked_opened f is = record {
  entities = is.entities;
  names = λ name d type e l.
      is.names name d type
      (sym (found_last name f.state.environment.names.outer f.state.environment.names.current) ∙ e) l;
}

pub linked_closed : (f g : File) → FileLeads (scope_opened f) g → AreLinked f.state.environment
    → EntitiesLead f.state.environment g.state.environment → AreLinked g.state.environment
    → AreLinked (scope_closed g).state.environment
linked_closed f g h is lead behind = record {
  entities = behind.entities;
  names = λ name d type e l.
      (let at = is.names name d type
      (sym (names_are f.state g.state h.state.outer h.state.outer_tags name) ∙ e) l in
      let after = lead.each name at.entity at.is in
      record { entity = after.entity; is = after.is; same = after.same ∙ at.same });
}
