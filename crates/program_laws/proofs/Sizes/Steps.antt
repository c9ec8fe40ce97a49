-- What declarators leave of the objects with linkage of a file (C99 6.2.2, 6.2.7, 6.9.2).
use Rattle.std.proofs.Common.{◌≡◌, ◌⊎◌, inl, inr, ℕ, Bool, true, false, ◌&&◌, ◌||◌, refl, sym, ap, ◌∙◌, subst, List}
use Rattle.std.proofs.Common.{Option, Some, None, if◌then◌else◌}
use Rattle.std.specs.Prelude.{is_some, not, option_map}
use Rattle.c_tree.specs.declared.c_type.TypeWord.{TypeWord}
use Rattle.c_scope.specs.declared.meaning.Designated.{Designated}
use Rattle.c_scope.specs.declared.meaning.Designated.TheVariants as what
use Rattle.c_scope.specs.declared.meaning.Entity.{Entity}
use Rattle.c_scope.specs.Composite.{composite}
use Rattle.c_scope.specs.Declaring.{Declaration, has_linkage, is_extern, is_function, is_typedef, sized_by_initializer}
use Rattle.c_scope.specs.Environment.{Environment, Facts, entity_with, in_file, linked, surroundings, type_or}
use Rattle.c_scope.specs.Environment.{with_declarator, without_linkage}
use Rattle.c_scope.specs.Names.{Name, Names, bound, declared, is_empty}
use Rattle.c_typing_state.specs.State.{State}
use Rattle.c_unit_typing.specs.Declarations.{entity_with_type, is_of_type, is_same_object, with_entity, with_size}
use Rattle.typing_laws.specs.Validity.More.{AreMore}
use Rattle.typing_laws.specs.Validity.Sound.{is_sized_array}
use Rattle.typing_laws.proofs.Validity.Common.{no_value, the_same}
use Rattle.typing_laws.proofs.Validity.Sound.{more_more, same_more}
use Rattle.typing_laws.specs.Declarations.Binding.{Binds, bound_meaning}
use Rattle.typing_laws.proofs.Declarations.Bound.{bound_here, declarator_binds}
use Rattle.typing_laws.proofs.Declarations.Completed.{size_binds}
use Rattle.program_laws.specs.Functions.Entities.{Continue, IsStill}
use Rattle.program_laws.proofs.Files.Files.{linkage_by}
use Rattle.program_laws.proofs.Functions.Continuing.{continues_on, declarator_continues, entity_fills}
use Rattle.program_laws.proofs.Functions.Continuing.{keeps_continues}
use Rattle.program_laws.proofs.Functions.Entities.{bound_either, compatible_words, function_words, keeps_same}
use Rattle.program_laws.proofs.Functions.Entities.{known_old, size_keeps, unlinked_entities}
use Rattle.program_laws.proofs.Functions.Files.{declared_entities}
use Rattle.typing_laws.proofs.Types.Parameters.{IsJudged}
use Rattle.program_laws.specs.Sizes.Tags.{BodiesStay}
use Rattle.program_laws.proofs.Sizes.Bodies.{Reaches, bodies_on, bodies_same}
use Rattle.program_laws.proofs.Tags.Keeping.{bodies_stay}
use Rattle.program_laws.proofs.Sizes.Types.{EndsComplete, ends_kept, filled_ends, joined_sized, judged_ends}

-- whether the file defines an object of a name
abbrev pub IsOfFile : Facts → Name → Type 0
IsOfFile facts name = is_some (declared name facts.objects) ≡ true

-- an array has from 1 to 2^32 bytes, and an object is no function
pub record IsSound (x : Entity) : Type 0 where
  pub sized : is_sized_array x.c_type ≡ true
  pub object : (n : ℕ) → x.what ≡ what.Object n → is_function x.c_type ≡ false

pub record AreSound (es : Names Entity) : Type 0 where
  pub each : (name : Name) (x : Entity) → declared name es ≡ Some x → IsSound x

-- Objects and functions stay what they are, and so do structures and unions. An object that is declared for the first
-- time is one of those that the file defines, or it is declared at file scope, with a type that is complete at the end.
pub record Steps (env behind : Environment) : Type 0 where
  pub place : in_file behind ≡ in_file env
  pub facts : behind.facts ≡ env.facts
  pub more : AreMore env.structures.extents behind.structures.extents
  pub bodies : BodiesStay env.structures.bodies behind.structures.bodies
  pub entities : Continue env.entities behind.entities
  pub new : (name : Name) (x : Entity) (n : ℕ) → declared name env.entities ≡ None
      → declared name behind.entities ≡ Some x → x.what ≡ what.Object n
      → IsOfFile env.facts name ⊎ ((in_file env ≡ true) × EndsComplete behind.facts behind.structures x.c_type)
  pub sound : AreSound env.entities → AreSound behind.entities

-- a type that is complete at the end is so behind a step

ends_behind : (env behind : Environment) → Steps env behind → (type : List TypeWord)
    → EndsComplete env.facts env.structures type → EndsComplete behind.facts behind.structures type
ends_behind env behind h type e =
    subst (λ z. EndsComplete z behind.structures type) (sym h.facts)
    (ends_kept env.facts env.structures behind.structures h.more h.bodies (sized_by_initializer type) e)

still_ends : (env behind : Environment) → Steps env behind → (x : Entity) (o : Option Entity) → (k : IsStill x o)
    → EndsComplete env.facts env.structures x.c_type → EndsComplete behind.facts behind.structures k.entity.c_type
still_ends env behind h x o k e =
    filled_ends behind.facts behind.structures x.c_type k.entity.c_type k.fills (ends_behind env behind h x.c_type e)

-- steps behind one another

pub continues_same : (env : Environment) → Continue env.entities env.entities
continues_same env =
    keeps_continues env.facts.functions env.entities env.entities (keeps_same env.facts.functions env.entities)

-- the objects and functions are the same
pub standing_steps : (env behind : Environment) → in_file behind ≡ in_file env → behind.facts ≡ env.facts
    → AreMore env.structures.extents behind.structures.extents
    → BodiesStay env.structures.bodies behind.structures.bodies → behind.entities ≡ env.entities → Steps env behind
standing_steps env behind place facts more bodies same = record {
  place = place;
  facts = facts;
  more = more;
  bodies = bodies;
  entities = subst (Continue env.entities) (sym same) (continues_same env);
  new = λ name x n none there w. no_value x _ (sym none ∙ sym (ap (λ z. declared name z) same) ∙ there);
  sound = λ h. subst AreSound (sym same) h;
}

pub steps_same : (env : Environment) → Steps env env
steps_same env =
    standing_steps env env refl refl (same_more env.structures.extents) (bodies_same env.structures.bodies) refl

pub reached_steps : (s t : State) → Reaches s t → Steps s.environment t.environment
reached_steps s t h =
    standing_steps s.environment t.environment (ap is_empty h.extends.outer) h.extends.facts h.extends.more
    (bodies_stay s t h.tags)
    h.extends.entities

pub steps_on : (env mid behind : Environment) → Steps env mid → Steps mid behind → Steps env behind
steps_on env mid behind h g = record {
  place = g.place ∙ h.place;
  facts = g.facts ∙ h.facts;
  more = more_more env.structures.extents mid.structures.extents behind.structures.extents h.more g.more;
  bodies = bodies_on env.structures.bodies mid.structures.bodies behind.structures.bodies h.bodies g.bodies;
  entities = continues_on env.entities mid.entities behind.entities h.entities g.entities;
  new = λ name x n none there w. by name x n none there w (declared name mid.entities) refl;
  sound = λ s. g.sound (h.sound s);
}
  where
    later : (name : Name) (type : List TypeWord)
        → IsOfFile mid.facts name ⊎ ((in_file mid ≡ true) × EndsComplete behind.facts behind.structures type)
        → IsOfFile env.facts name ⊎ ((in_file env ≡ true) × EndsComplete behind.facts behind.structures type)
    later name type (inl e) = inl (subst (λ z. IsOfFile z name) h.facts e)
    later name type (inr e) = inr (sym h.place ∙ e.0, e.1)

    earlier : (name : Name) (y : Entity) (o : Option Entity) (k : IsStill y o)
        → IsOfFile env.facts name ⊎ ((in_file env ≡ true) × EndsComplete mid.facts mid.structures y.c_type)
        → IsOfFile env.facts name
        ⊎ ((in_file env ≡ true) × EndsComplete behind.facts behind.structures k.entity.c_type)
    earlier name y o k (inl e) = inl e
    earlier name y o k (inr e) = inr (e.0, still_ends mid behind g y o k e.1)

    by : (name : Name) (x : Entity) (n : ℕ) → declared name env.entities ≡ None
        → declared name behind.entities ≡ Some x → x.what ≡ what.Object n → (o : Option Entity)
        → declared name mid.entities ≡ o
        → IsOfFile env.facts name ⊎ ((in_file env ≡ true) × EndsComplete behind.facts behind.structures x.c_type)
    by name x n none there w None e = later name x.c_type (g.new name x n e there w)
    by name x n none there w (Some y) e =
        let k = g.entities.each name y e in
        let same = the_same (sym k.there ∙ there) in
        subst (λ z. IsOfFile env.facts name
        ⊎ ((in_file env ≡ true) × EndsComplete behind.facts behind.structures z.c_type)) same
        (earlier name y (declared name behind.entities) k
        (h.new name y n none e (sym k.what ∙ ap (λ z. z.what) same ∙ w)))

-- a declarator that violates no rule

object_only : (b : Bool) (f m n : ℕ) → (if b then what.Function f else what.Object m) ≡ what.Object n → b ≡ false
object_only true f m n e = absurd cc
object_only false f m n e = refl

defined_by : (x f o : Bool) → x ≡ true → f ≡ false → (x && not f && not o) ≡ false → o ≡ true
defined_by false f o a b e = absurd cc
defined_by true true o a b e = absurd cc
defined_by true false true a b e = refl
defined_by true false false a b e = absurd cc

linkage_of : (t file f x : Bool) → (not t && (file || f || x)) ≡ true → f ≡ false → x ≡ false
    → (t ≡ false) × (file ≡ true)
linkage_of true file f x e a b = absurd cc
linkage_of false true f x e a b = (refl, refl)
linkage_of false false true x e a b = absurd cc
linkage_of false false false true e a b = absurd cc
linkage_of false false false false e a b = absurd cc

pub linked_entities : (env : Environment) (d : Declaration) → has_linkage (in_file env) d ≡ true
    → (with_declarator env d).entities ≡ bound d.name (entity_with env d (declared d.name env.entities)) env.entities
linked_entities env d is = declared_entities env d (has_linkage (in_file env) d) is

same_entities : (env : Environment) (d : Declaration) (b : Bool) → b ≡ false
    → (if b then linked env d else without_linkage d.storage env d).entities ≡ env.entities
same_entities env d true e = absurd cc
same_entities env d false e = unlinked_entities env d d.storage

module _ (s : State) (d : Declaration) (known : IsJudged (surroundings s.environment d) d)
    (sized : is_sized_array d.type ≡ true) (must : d.may_be_incomplete ≡ false) where
  abbrev old : Environment
  old = s.environment

  abbrev behind : Environment
  behind = with_declarator s.environment d

  binds : Binds d.name (bound_meaning old d) s (record s { environment = behind })
  binds = declarator_binds s d

  -- where it is an object

  object_ends : is_function d.type ≡ false → has_linkage (in_file old) d ≡ true → (x : Bool) → is_extern d.storage ≡ x
      → IsOfFile old.facts d.name ⊎ ((in_file old ≡ true) × EndsComplete old.facts old.structures d.type)
  object_ends object linkage true e =
      inl (defined_by (is_extern d.storage) (is_function d.type) (is_some (declared d.name old.facts.objects)) e object
      known.defined)
  object_ends object linkage false e =
      let h = linkage_of (is_typedef d.storage) (in_file old) (is_function d.type) (is_extern d.storage) linkage object
      e in
      inr (h.1, judged_ends old d known h.1 h.0 e object must)

  abbrev IsNewEnding : Name → List TypeWord → Type 0
  IsNewEnding name type =
      IsOfFile old.facts name ⊎ ((in_file old ≡ true) × EndsComplete behind.facts behind.structures type)

  moved : IsOfFile old.facts d.name ⊎ ((in_file old ≡ true) × EndsComplete old.facts old.structures d.type)
      → IsNewEnding d.name d.type
  moved (inl e) = inl e
  moved (inr e) =
      inr (
        e.0,
        subst (λ z. EndsComplete z behind.structures d.type) (sym binds.facts)
            (subst (λ z. EndsComplete old.facts z d.type) (sym binds.structures) e.1),
      )

  new_entity : has_linkage (in_file old) d ≡ true → (o : Option Entity) → o ≡ None → (x : Entity)
      → entity_with old d o ≡ x → (n : ℕ) → x.what ≡ what.Object n → IsNewEnding d.name x.c_type
  new_entity linkage None e x is n w =
      subst (λ z. IsNewEnding d.name z.c_type) is
      (moved (object_ends
      (object_only (is_function d.type) _ old.statics n (ap (λ z. z.what) is ∙ w)) linkage (is_extern d.storage) refl))
  new_entity linkage (Some y) e x is n w = absurd cc

  linked_new : has_linkage (in_file old) d ≡ true → (name : Name) (x : Entity) (n : ℕ)
      → declared name old.entities ≡ None
      → declared name (bound d.name (entity_with old d (declared d.name old.entities)) old.entities) ≡ Some x
      → x.what ≡ what.Object n
      → (declared name (bound d.name (entity_with old d (declared d.name old.entities)) old.entities)
      ≡ declared name old.entities)
      ⊎ ((name ≡ d.name) × (declared name (bound d.name (entity_with old d (declared d.name old.entities)) old.entities)
      ≡ Some (entity_with old d (declared d.name old.entities))))
      → IsNewEnding name x.c_type
  linked_new linkage name x n none there w (inl e) = no_value x _ (sym none ∙ sym e ∙ there)
  linked_new linkage name x n none there w (inr e) =
      subst (λ z. IsNewEnding z x.c_type) (sym e.0)
      (new_entity linkage (declared d.name old.entities) (ap (λ z. declared z old.entities) (sym e.0) ∙ none) x
      (the_same (sym e.1 ∙ there)) n w)

  declared_new : (name : Name) (x : Entity) (n : ℕ) → declared name old.entities ≡ None
      → declared name behind.entities ≡ Some x → x.what ≡ what.Object n → (b : Bool)
      → has_linkage (in_file old) d ≡ b → IsNewEnding name x.c_type
  declared_new name x n none there w true e =
      linked_new e name x n none (ap (λ z. declared name z) (sym (linked_entities old d e)) ∙ there) w
      (bound_either name d.name (entity_with old d (declared d.name old.entities)) old.entities)
  declared_new name x n none there w false e =
      no_value x _
      (sym none ∙ ap (λ z. declared name z) (sym (same_entities old d (has_linkage (in_file old) d) e)) ∙ there)

  -- what stays sound

  entity_sound : has_linkage (in_file old) d ≡ true → AreSound old.entities → (o : Option Entity)
      → declared d.name old.entities ≡ o → IsSound (entity_with old d o)
  entity_sound linkage h None e = record {
    sized = sized;
    object = λ n w. object_only (is_function d.type) _ old.statics n w;
  }
  entity_sound linkage h (Some y) e =
      let own = h.each d.name y e in
      let compatible = (known_old old d known linkage y e).0 in
      record {
        sized = joined_sized y.c_type d.type y.c_type compatible own.sized sized;
        object = λ n w.
            function_words (type_or (composite y.c_type d.type) y.c_type) y.c_type
            (compatible_words y.c_type d.type y.c_type compatible).0 ∙ own.object n w;
      }

  declared_sound : AreSound old.entities → (b : Bool) → has_linkage (in_file old) d ≡ b → AreSound behind.entities
  declared_sound h true e =
      subst AreSound (sym (linked_entities old d e)) (record {
        each = λ name x there.
            by name x there
            (bound_either name d.name (entity_with old d (declared d.name old.entities)) old.entities);
      })
    where
      by : (name : Name) (x : Entity)
          → declared name (bound d.name (entity_with old d (declared d.name old.entities)) old.entities) ≡ Some x
          → (declared name (bound d.name (entity_with old d (declared d.name old.entities)) old.entities)
          ≡ declared name old.entities)
          ⊎ ((name ≡ d.name)
          × (declared name (bound d.name (entity_with old d (declared d.name old.entities)) old.entities)
          ≡ Some (entity_with old d (declared d.name old.entities)))) → IsSound x
      by name x there (inl g) = h.each name x (sym g ∙ there)
      by name x there (inr g) =
          subst IsSound (the_same (sym g.1 ∙ there)) (entity_sound e h (declared d.name old.entities) refl)
  declared_sound h false e =
      subst AreSound (sym (same_entities old d (has_linkage (in_file old) d) e)) h

  pub declarator_steps : Steps old behind
  declarator_steps = record {
    place = ap is_empty binds.outer;
    facts = binds.facts;
    more = subst (λ z. AreMore old.structures.extents z.extents) (sym binds.structures)
        (same_more old.structures.extents);
    bodies = subst (λ z. BodiesStay old.structures.bodies z.bodies) (sym binds.structures)
        (bodies_same old.structures.bodies);
    entities = declarator_continues old d known;
    new = λ name x n none there w. declared_new name x n none there w (has_linkage (in_file old) d) refl;
    sound = λ h. declared_sound h (has_linkage (in_file old) d) refl;
  }

-- an array that gets its size

entity_new : (env : Environment) (name : Name) (type : List TypeWord) (P : Type 0) (o : Option Entity)
    → declared name env.entities ≡ o → (other : Name) (x : Entity) → declared other env.entities ≡ None
    → declared other (with_entity name (option_map (entity_with_type type) o) env).entities ≡ Some x → P
entity_new env name type P None e other x none there = no_value x _ (sym none ∙ there)
entity_new env name type P (Some y) e other x none there =
    by (bound_either other name (entity_with_type type y) env.entities)
  where
    by : (declared other (bound name (entity_with_type type y) env.entities) ≡ declared other env.entities)
        ⊎ ((other ≡ name) × (declared other (bound name (entity_with_type type y) env.entities)
        ≡ Some (entity_with_type type y))) → P
    by (inl g) = no_value x _ (sym none ∙ sym g ∙ there)
    by (inr g) = no_value y _ (sym none ∙ ap (λ z. declared z env.entities) g.0 ∙ e)

size_new : (env : Environment) (d : Designated) (name : Name) (type : List TypeWord) (P : Type 0) (other : Name)
    (x : Entity) → declared other env.entities ≡ None → declared other (with_size d name type env).entities ≡ Some x
    → P
size_new env (what.Object n) name type P other x none there =
    entity_new env name type P (declared name env.entities) refl other x none there
size_new env (what.Static n) name type P other x none there = no_value x _ (sym none ∙ there)
size_new env (what.Function n) name type P other x none there = no_value x _ (sym none ∙ there)
size_new env (what.Library r) name type P other x none there = no_value x _ (sym none ∙ there)
size_new env (what.Variable n) name type P other x none there = no_value x _ (sym none ∙ there)

entity_with_sound : (env : Environment) (name : Name) (type : List TypeWord) → is_sized_array type ≡ true
    → AreSound env.entities → (o : Option Entity) → declared name env.entities ≡ o → is_of_type type o ≡ true
    → AreSound (with_entity name (option_map (entity_with_type type) o) env).entities
entity_with_sound env name type sized h None e same = h
entity_with_sound env name type sized h (Some y) e same = record {
  each = λ other x there. by other x there (bound_either other name (entity_with_type type y) env.entities);
}
  where
    own : IsSound y
    own = h.each name y e

    new : IsSound (entity_with_type type y)
    new = record {
      sized = joined_sized y.c_type type type same own.sized sized;
      object = λ n w.
          function_words (type_or (composite y.c_type type) type) y.c_type
          (compatible_words y.c_type type type same).0 ∙ own.object n w;
    }

    by : (other : Name) (x : Entity)
        → declared other (bound name (entity_with_type type y) env.entities) ≡ Some x
        → (declared other (bound name (entity_with_type type y) env.entities) ≡ declared other env.entities)
        ⊎ ((other ≡ name) × (declared other (bound name (entity_with_type type y) env.entities)
        ≡ Some (entity_with_type type y))) → IsSound x
    by other x there (inl g) = h.each other x (sym g ∙ there)
    by other x there (inr g) = subst IsSound (the_same (sym g.1 ∙ there)) new

size_sound : (env : Environment) (d : Designated) (name : Name) (type : List TypeWord) → is_sized_array type ≡ true
    → is_same_object d name type env ≡ true → AreSound env.entities → AreSound (with_size d name type env).entities
size_sound env (what.Object n) name type sized same h =
    entity_with_sound env name type sized h (declared name env.entities) refl same
size_sound env (what.Static n) name type sized same h = h
size_sound env (what.Function n) name type sized same h = h
size_sound env (what.Library r) name type sized same h = h
size_sound env (what.Variable n) name type sized same h = h

pub size_steps : (s : State) (d : Designated) (name : Name) (type : List TypeWord) → is_sized_array type ≡ true
    → is_same_object d name type s.environment ≡ true
    → Steps s.environment (with_size d name type s.environment)
size_steps s d name type sized same =
    let binds = size_binds s name d type in
    let env = s.environment in
    record {
      place = ap is_empty binds.outer;
      facts = binds.facts;
      more = subst (λ z. AreMore env.structures.extents z.extents) (sym binds.structures)
          (same_more env.structures.extents);
      bodies = subst (λ z. BodiesStay env.structures.bodies z.bodies) (sym binds.structures)
          (bodies_same env.structures.bodies);
      entities = keeps_continues env.facts.functions env.entities (with_size d name type env).entities
          (size_keeps env d name type same);
      new = λ other x n none there w. size_new env d name type _ other x none there;
      sound = λ h. size_sound env d name type sized same h;
    }

-- an object that the file defines: what its name stands for is complete at the end

pub record IsEnding (env : Environment) (name : Name) : Type 0 where
  pub entity : Entity
  pub there : declared name env.entities ≡ Some entity
  pub complete : (n : ℕ) → entity.what ≡ what.Object n → EndsComplete env.facts env.structures entity.c_type

-- a declarator at file scope that is neither one of a typedef name nor `extern`
module _ (s : State) (d : Declaration) (known : IsJudged (surroundings s.environment d) d)
    (must : d.may_be_incomplete ≡ false) (file : in_file s.environment ≡ true)
    (plain : is_typedef d.storage ≡ false) (own : is_extern d.storage ≡ false)
    (sound : AreSound s.environment.entities) where
  declared_linkage : has_linkage (in_file s.environment) d ≡ true
  declared_linkage =
      linkage_by (is_typedef d.storage) (in_file s.environment) (is_function d.type) (is_extern d.storage) plain file

  declared_object : (o : Option Entity) → declared d.name s.environment.entities ≡ o → (n : ℕ)
      → (entity_with s.environment d o).what ≡ what.Object n → is_function d.type ≡ false
  declared_object None e n w = object_only (is_function d.type) _ s.environment.statics n w
  declared_object (Some y) e n w =
      let words = compatible_words y.c_type d.type y.c_type
      (known_old s.environment d known declared_linkage y e).0 in
      sym (function_words (type_or (composite y.c_type d.type) y.c_type) d.type words.1)
      ∙ function_words (type_or (composite y.c_type d.type) y.c_type) y.c_type words.0
      ∙ (sound.each d.name y e).object n w

  declared_complete : (n : ℕ)
      → (entity_with s.environment d (declared d.name s.environment.entities)).what ≡ what.Object n
      → EndsComplete s.environment.facts s.environment.structures
      (entity_with s.environment d (declared d.name s.environment.entities)).c_type
  declared_complete n w =
      filled_ends s.environment.facts s.environment.structures d.type
      (entity_with s.environment d (declared d.name s.environment.entities)).c_type
      (entity_fills s.environment d known declared_linkage (declared d.name s.environment.entities) refl)
      (judged_ends s.environment d known file plain own
      (declared_object (declared d.name s.environment.entities) refl n w) must)

  pub declared_ending : IsEnding (with_declarator s.environment d) d.name
  declared_ending =
      let x = entity_with s.environment d (declared d.name s.environment.entities) in
      let b = declarator_binds s d in
      record {
        entity = x;
        there = ap (λ z. declared d.name z) (linked_entities s.environment d declared_linkage)
            ∙ bound_here d.name x s.environment.entities;
        complete = λ n w.
            subst (λ z. EndsComplete z (with_declarator s.environment d).structures x.c_type) (sym b.facts)
            (subst (λ z. EndsComplete s.environment.facts z x.c_type) (sym b.structures) (declared_complete n w));
      }

pub ending_behind : (env behind : Environment) → Steps env behind → (name : Name) → IsEnding env name
    → IsEnding behind name
ending_behind env behind h name is =
    let k = h.entities.each name is.entity is.there in
    record {
      entity = k.entity;
      there = k.there;
      complete = λ n w.
          still_ends env behind h is.entity (declared name behind.entities) k (is.complete n (sym k.what ∙ w));
    }

-- what holds at file scope, where the file defines these objects so far
pub record AreEnding (objects : Names Bool) (env : Environment) : Type 0 where
  pub found : (name : Name) → is_some (declared name objects) ≡ true → IsEnding env name
  pub each : (name : Name) (x : Entity) (n : ℕ) → declared name env.entities ≡ Some x → x.what ≡ what.Object n
      → IsOfFile env.facts name ⊎ EndsComplete env.facts env.structures x.c_type
  pub sound : AreSound env.entities

pub all_behind : (objects : Names Bool) (env behind : Environment) → Steps env behind → AreEnding objects env
    → AreEnding objects behind
all_behind objects env behind h is = record {
  found = λ name e. ending_behind env behind h name (is.found name e);
  each = λ name x n there w. by name x n there w (declared name env.entities) refl;
  sound = h.sound is.sound;
}
  where
    later : (name : Name) (type : List TypeWord)
        → IsOfFile env.facts name ⊎ ((in_file env ≡ true) × EndsComplete behind.facts behind.structures type)
        → IsOfFile behind.facts name ⊎ EndsComplete behind.facts behind.structures type
    later name type (inl e) = inl (subst (λ z. IsOfFile z name) (sym h.facts) e)
    later name type (inr e) = inr e.1

    earlier : (name : Name) (y : Entity) (o : Option Entity) (k : IsStill y o)
        → IsOfFile env.facts name ⊎ EndsComplete env.facts env.structures y.c_type
        → IsOfFile behind.facts name ⊎ EndsComplete behind.facts behind.structures k.entity.c_type
    earlier name y o k (inl e) = inl (subst (λ z. IsOfFile z name) (sym h.facts) e)
    earlier name y o k (inr e) = inr (still_ends env behind h y o k e)

    by : (name : Name) (x : Entity) (n : ℕ) → declared name behind.entities ≡ Some x → x.what ≡ what.Object n
        → (o : Option Entity) → declared name env.entities ≡ o
        → IsOfFile behind.facts name ⊎ EndsComplete behind.facts behind.structures x.c_type
    by name x n there w None e = later name x.c_type (h.new name x n e there w)
    by name x n there w (Some y) e =
        let k = h.entities.each name y e in
        let same = the_same (sym k.there ∙ there) in
        subst (λ z. IsOfFile behind.facts name ⊎ EndsComplete behind.facts behind.structures z.c_type) same
        (earlier name y (declared name behind.entities) k
        (is.each name y n e (sym k.what ∙ ap (λ z. z.what) same ∙ w)))
