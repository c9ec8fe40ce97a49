-- Declarations at file scope leave a state outside of functions (C99 6.2.2, 6.9.2).
use Rattle.std.proofs.Common.{◌≡◌, ℕ, Bool, true, false, ◌&&◌, ◌||◌, refl, sym, ap, ◌∙◌, subst, List, [], ◌∷◌, ◌++◌}
use Rattle.std.proofs.Common.{Option, Some, None, if◌then◌else◌}
use Rattle.std.proofs.lemmas.Bool.{false≢true}
use Rattle.std.specs.Prelude.{Ok, Err, is_none, is_some, not, option_map}
use Rattle.std.specs.List.{list_all}
use Rattle.c_syntax.specs.declared.position.Position.{Position}
use Rattle.c_syntax.specs.Statements as t
use Rattle.c_syntax.specs.Tree.{Initializer}
use Rattle.c_tree.specs.declared.c_type.TypeWord.{TypeWord}
use Rattle.c_tree.specs.declared.c_type.TypeWord.TheVariants as word
use Rattle.c_tree.specs.Extents.{extent_of}
use Rattle.c_tree.specs.Statements.{DeclaredVariable, Part}
use Rattle.c_faults.specs.declared.fault.Rule.TheVariants as rule
use Rattle.c_faults.specs.Answer.{Answer, violates, ◌>>=◌}
use Rattle.c_declarators.specs.Derivations.{array_of, is_large}
use Rattle.c_initializer_rules.specs.Initializing.{Initializing, begun}
use Rattle.c_initializer_rules.specs.Placed.{count_of, parts_in}
use Rattle.c_scope.specs.declared.meaning.Designated.{Designated}
use Rattle.c_scope.specs.declared.meaning.Designated.TheVariants as what
use Rattle.c_scope.specs.declared.meaning.Entity.{Entity}
use Rattle.c_scope.specs.declared.meaning.Meaning.{Meaning}
use Rattle.c_scope.specs.declared.meaning.Meaning.TheVariants as meaning
use Rattle.c_scope.specs.declared.meaning.Storage.{Storage}
use Rattle.c_scope.specs.declared.meaning.Storage.TheVariants as storage
use Rattle.c_scope.specs.Composite.{composite}
use Rattle.c_scope.specs.Declaring.{Declaration, has_linkage, is_extern, is_function, is_linked, is_misplaced}
use Rattle.c_scope.specs.Declaring.{is_typedef}
use Rattle.c_scope.specs.Environment.{Environment, entity_with, in_file, type_or}
use Rattle.c_scope.specs.Environment.{with_declarator as declared_env, with_name, without_linkage}
use Rattle.c_scope.specs.Names.{Name, declared, found, is_empty, or_else}
use Rattle.c_scope.specs.Names as names
use Rattle.c_declarator_typing.specs.Declarators.{Shape, built_in}
use Rattle.c_declarator_typing.specs.Specifications.{Specification}
use Rattle.c_typing_state.specs.State.{State, done, extents, ◌>>>◌}
use Rattle.c_expression_typing.specs.Typed.{shape}
use Rattle.c_unit_typing.specs.Declarations.{completed, declaration, declaration_of, declared_as}
use Rattle.c_unit_typing.specs.Declarations.{declared_with, entity_with_type, has_place, initialized_if, is_same_object}
use Rattle.c_unit_typing.specs.Declarations.{named_by, specified, with_declarator, with_declarators, with_others}
use Rattle.c_unit_typing.specs.Declarations.{is_of_type, with_entity, with_parts, with_size}
use Rattle.c_unit_typing.specs.Files.{File, FileTyping, in_state, ◌~>◌}
use Rattle.c_unit_typing.specs.Initializers.{initialized}
use Rattle.c_unit_typing.specs.Lines.{initializer_line}
use Rattle.typing_laws.specs.Validity.Sound.{IsFormed, is_sized_array}
use Rattle.typing_laws.proofs.Validity.Common.{first, second, the_same}
use Rattle.typing_laws.specs.Declarators.Extending.{Extending, Extends, IsNew}
use Rattle.typing_laws.specs.Declarators.Given.{AreCounted, IsShapeOf, IsSpecified, anything}
use Rattle.typing_laws.proofs.Declarators.Recursion.{shape_extends}
use Rattle.typing_laws.specs.Declarations.Binding.{Binds, IfDeclared, bound_meaning, linked_meaning}
use Rattle.typing_laws.specs.Declarations.Binding.{unlinked_meaning}
use Rattle.typing_laws.proofs.Declarations.Bound.{Behind, Bound}
use Rattle.typing_laws.proofs.Declarations.Completed.{size_binds}
use Rattle.typing_laws.proofs.Declarations.Formed.{formed_behind}
use Rattle.typing_laws.proofs.Declarations.Judged.{declared_as_declares}
use Rattle.typing_laws.specs.Scopes.Regular.{are_regular_declarators, initializer_of, is_regular_declaration}
use Rattle.typing_laws.specs.Scopes.Regular.{is_regular_initializer_if, is_regular_object}
use Rattle.typing_laws.proofs.Scopes.Declarations.{specified_extends}
use Rattle.typing_laws.proofs.Scopes.Initializers.{initialized_extends}
use Rattle.program_laws.specs.Bodies.Parameters.{IsFileScope, IsOutside}
use Rattle.program_laws.specs.Bodies.Standing.{AreLinked, EntitiesLead, EntityLeads, IsEntity}
use Rattle.program_laws.proofs.Bodies.Declared.{IfMade, placed_made}
use Rattle.program_laws.proofs.Bodies.Entities.{declared_linked, entities_linked, entities_on, entities_same}
use Rattle.program_laws.proofs.Bodies.Entities.{entity_bound, entity_leads, entity_links, linked_behind}
use Rattle.program_laws.proofs.Bodies.Entities.{linked_bound, linked_extended}
use Rattle.program_laws.specs.Bodies.Types.{is_type}
use Rattle.program_laws.proofs.Bodies.Standing.{either}
use Rattle.program_laws.proofs.Bodies.Types.{WholeShape, also_gives, built_type, shape_types, stored_type}
use Rattle.program_laws.proofs.Bodies.Types.{types_bound, types_extended}
use Rattle.typing_laws.proofs.Common.{filed}

-- names at file scope

abbrev pub IsLinkedIf : Option Meaning → Type 0
IsLinkedIf m = (d : Designated) (type : List TypeWord) → m ≡ Some (meaning.Named d type) → is_linked d ≡ true

new_linked : (m : Meaning) → IsNew false m → IsLinkedIf (Some m)
new_linked (meaning.Constant w) is d type e = absurd cc
new_linked (meaning.Typedef x) is d type e = absurd cc
new_linked (meaning.Named (what.Variable n) x) is d type e = absurd cc
new_linked (meaning.Named (what.Object n) x) is d type e = absurd cc
new_linked (meaning.Named (what.Static n) x) is d type e = absurd cc
new_linked (meaning.Named (what.Function n) x) is d type e = absurd cc
new_linked (meaning.Named (what.Library r) x) is d type e = absurd cc

file_extended : (s u : State) → Extends false s u → IsFileScope s.environment → IsFileScope u.environment
file_extended s u h is = record {
  linked = λ name.
      either IsLinkedIf (IsNew false) (declared name s.environment.names.current)
      (declared name u.environment.names.current) (found name u.environment.names.outer) (h.names name) new_linked
      (λ d type e. is.linked name d type
      (ap (λ z. or_else (declared name s.environment.names.current) (found name z)) (sym h.outer) ∙ e));
}

file_bound : (name : Name) (m : Meaning) (s u : State) → Binds name m s u → IsLinkedIf (Some m)
    → IsFileScope s.environment → IsFileScope u.environment
file_bound name m s u b l is = record {
  linked = λ other.
      either IsLinkedIf (λ x. x ≡ m) (declared other s.environment.names.current)
      (declared other u.environment.names.current) (found other u.environment.names.outer) (b.names other)
      (λ x e. subst (λ z. IsLinkedIf (Some z)) (sym e) l)
      (λ d type e. is.linked other d type
      (ap (λ z. or_else (declared other s.environment.names.current) (found other z)) (sym b.outer) ∙ e));
}

pub extended_outside : (s u : State) → Extends false s u → IsOutside s → IsOutside u
extended_outside s u h is = record {
  formed = h.formed;
  outer = ap is_empty h.outer ∙ is.outer;
  variables = h.variables refl ∙ is.variables;
  names = file_extended s u h is.names;
  linked = linked_extended s u h is.linked;
  types = types_extended false s u h is.types;
}

-- a declarator at file scope has linkage, or declares a typedef name

pub same_type : {a b : List TypeWord} → Some (meaning.Typedef a) ≡ Some (meaning.Typedef b) → a ≡ b
same_type e = cc

named_linked : (env : Environment) (d : Declaration) → AreLinked env → IsLinkedIf (Some (linked_meaning env d))
named_linked env d l c type g = ap is_linked (sym (the_same g)) ∙ declared_linked env d l
  where
    the_same : Some (linked_meaning env d) ≡ Some (meaning.Named c type)
        → (entity_with env d (declared d.name env.entities)).what ≡ c
    the_same e = cc

typedef_there : (typedef inside of_function has_extern : Bool) → inside ≡ true
    → (not typedef && (inside || of_function || has_extern)) ≡ false → typedef ≡ true
typedef_there true i f x e g = refl
typedef_there false true f x e g = absurd cc
typedef_there false false f x e g = absurd cc

-- a state behind another, outside of functions
pub record IsLater (s u : State) : Type 0 where
  pub lead : EntitiesLead s.environment u.environment
  pub outside : IsOutside u

module _ (s u : State) (d : Declaration) (is : IsOutside s) (formed : IsFormed u)
    (whole : is_type d.type ≡ true) where
  by_storage : (z : Storage) → is_typedef z ≡ true → u ≡ record s { environment = without_linkage z s.environment d }
      → Binds d.name (unlinked_meaning z s.environment d) s u → IsLater s u
  by_storage storage.Typedef e at binds =
      let same = ap (λ z. z.environment.entities) at in
      record {
        lead = entities_same s.environment u.environment same;
        outside = record {
          formed = formed;
          outer = ap is_empty binds.outer ∙ is.outer;
          variables = ap (λ z. z.environment.variables) at ∙ is.variables;
          names = file_bound d.name (meaning.Typedef d.type) s u binds (λ c type g. absurd cc) is.names;
          linked = linked_bound d.name (meaning.Typedef d.type) s u binds tt same is.linked;
          types = types_bound d.name (meaning.Typedef d.type) s u binds
              (λ type g. subst (λ z. is_type z ≡ true) (same_type g) whole) is.types;
        };
      }
  by_storage storage.Static e at binds = absurd cc
  by_storage storage.Absent e at binds = absurd cc
  by_storage storage.Auto e at binds = absurd cc
  by_storage storage.Register e at binds = absurd cc
  by_storage storage.Extern e at binds = absurd cc

  by_linkage : (b : Bool) → has_linkage (in_file s.environment) d ≡ b
      → u ≡ record s { environment = Behind b s.environment d } → Binds d.name (Bound b s.environment d) s u
      → IsLater s u
  by_linkage true e at binds = record {
    lead = subst (λ z. EntitiesLead s.environment z.environment) (sym at) (entities_linked s.environment d is.linked);
    outside = record {
      formed = formed;
      outer = ap is_empty binds.outer ∙ is.outer;
      variables = ap (λ z. z.environment.variables) at ∙ is.variables;
      names = file_bound d.name (linked_meaning s.environment d) s u binds (named_linked s.environment d is.linked)
          is.names;
      linked = subst (λ z. AreLinked z.environment) (sym at) (linked_behind s.environment d is.linked);
      types = types_bound d.name (linked_meaning s.environment d) s u binds (λ type g. absurd cc) is.types;
    };
  }
  by_linkage false e at binds =
      by_storage d.storage
      (typedef_there (is_typedef d.storage) (in_file s.environment) (is_function d.type) (is_extern d.storage)
      is.outer e)
      at binds

  bound_link : (b : Bool) → has_linkage (in_file s.environment) d ≡ b → IsLinkedIf (Some (Bound b s.environment d))
  bound_link true e = named_linked s.environment d is.linked
  bound_link false e =
      unlinked_link d.storage
      (typedef_there (is_typedef d.storage) (in_file s.environment) (is_function d.type) (is_extern d.storage)
      is.outer e)
    where
      unlinked_link : (z : Storage) → is_typedef z ≡ true → IsLinkedIf (Some (unlinked_meaning z s.environment d))
      unlinked_link storage.Typedef e c type g = absurd cc
      unlinked_link storage.Static e c type g = absurd cc
      unlinked_link storage.Absent e c type g = absurd cc
      unlinked_link storage.Auto e c type g = absurd cc
      unlinked_link storage.Register e c type g = absurd cc
      unlinked_link storage.Extern e c type g = absurd cc

pub declared_outside : (s u : State) (d : Declaration) → IsOutside s
    → u ≡ record s { environment = declared_env s.environment d }
    → Binds d.name (bound_meaning s.environment d) s u → IsFormed u → is_type d.type ≡ true → IsLater s u
declared_outside s u d is at binds formed whole =
    by_linkage s u d is formed whole (has_linkage (in_file s.environment) d) refl at binds

-- a file behind another, with the same definitions

pub record IsBeyond (e f : File) : Type 0 where
  pub entities : EntitiesLead e.state.environment f.state.environment
  pub outside : IsOutside f.state
  pub definitions : f.definitions ≡ e.definitions
  pub statics : f.statics ≡ e.statics

abbrev pub IfBeyond : {A : Type 0} → File → Answer (File × A) → Type 0
IfBeyond e (Ok r) = IsBeyond e r.0
IfBeyond e (Err x) = Unit {0}

abbrev IfStateBeyond : {A : Type 0} → (e f : File) → Answer (State × A) → Type 0
IfStateBeyond e f (Ok r) = IsBeyond e (record f { state = r.0 })
IfStateBeyond e f (Err x) = Unit {0}

later_beyond : (e f : File) (u : State) → IsBeyond e f → IsLater f.state u → IsBeyond e (record f { state = u })
later_beyond e f u is h = record {
  entities = entities_on e.state.environment f.state.environment u.environment is.entities h.lead;
  outside = h.outside;
  definitions = is.definitions;
  statics = is.statics;
}

extended_later : (s u : State) → Extends false s u → IsOutside s → IsLater s u
extended_later s u h is = record {
  lead = entities_same s.environment u.environment h.entities;
  outside = extended_outside s u h is;
}

then_beyond : {A B : Type 0} (e : File) (a : Answer (File × A)) (next : A → FileTyping B) → IfBeyond e a
    → ((x : A) (g : File) → IsBeyond e g → IfBeyond e (next x g)) → IfBeyond e (a >>= λ r. next r.1 r.0)
then_beyond e (Ok r) next h g = g r.1 r.0 h
then_beyond e (Err x) next h g = tt

state_beyond : {A B : Type 0} (e f : File) → IsBeyond e f → (p : State → A → Type 0) (a : Answer (State × A))
    (next : A → FileTyping B) → Extending false f.state p a
    → ((x : A) (g : File) → IsBeyond e g → p g.state x → IfBeyond e (next x g))
    → IfBeyond e (a >>= filed f >>= λ r. next r.1 r.0)
state_beyond e f is p (Ok r) next h g =
    g r.1 (record f { state = r.0 }) (later_beyond e f r.0 is (extended_later f.state r.0 h.0 is.outside)) h.1
state_beyond e f is p (Err x) next h g = tt

-- an array with linkage that gets its size

size_type : (type : List TypeWord) (c : List TypeWord) (o : Option (List TypeWord)) → is_some o ≡ true
    → type_or o type ≡ type_or o c
size_type type c None e = absurd cc
size_type type c (Some x) e = refl

module _ (s : State) (is : IsOutside s) (n : ℕ) (name : Name) (at : IsEntity (what.Object n)
    (declared name s.environment.entities)) (type : List TypeWord)
    (same : is_some (composite at.entity.c_type type) ≡ true) where
  abbrev sized_entity : Entity
  sized_entity = entity_with_type type at.entity

  abbrev sized_env : Environment
  sized_env = with_size (what.Object n) name type s.environment

  env_is : sized_env
      ≡ entity_bound s.environment name sized_entity (what.Object n) type s.environment.statics
  env_is =
      ap (λ o. with_name name (meaning.Named (what.Object n) type)
      (with_entity name (option_map (entity_with_type type) o) s.environment)) at.is

  pub sized_later : IsLater s (record s { environment = sized_env })
  sized_later =
      let m = meaning.Named (what.Object n) type in
      let u = record s { environment = sized_env } in
      let binds = size_binds s name (what.Object n) type in
      record {
        lead = subst (EntitiesLead s.environment) (sym env_is)
            (entity_leads s.environment name sized_entity (what.Object n) type s.environment.statics
            (λ x before.
            subst (λ z. EntityLeads z (Some sized_entity)) (the_same (sym at.is ∙ before))
            (record {
              entity = sized_entity;
              is = refl;
              same = refl;
              others = type ∷ [];
              type = size_type type at.entity.c_type (composite at.entity.c_type type) same;
            })));
        outside = record {
          formed = formed_behind name m s u binds is.formed tt;
          outer = ap is_empty binds.outer ∙ is.outer;
          variables = ap (λ env. env.variables) env_is ∙ is.variables;
          names = file_bound name m s u binds (λ d t e. linked_what d t e) is.names;
          linked = subst AreLinked (sym env_is)
              (entity_links s.environment name sized_entity (what.Object n) type s.environment.statics is.linked
              (ap is_linked at.same) at.same);
          types = types_bound name m s u binds (λ type g. absurd cc) is.types;
        };
      }
    where
      linked_what : (d : Designated) (t : List TypeWord)
          → Some (meaning.Named (what.Object n) type) ≡ Some (meaning.Named d t) → is_linked d ≡ true
      linked_what d t e = ap is_linked (sym (what_is e))
        where
          what_is : Some (meaning.Named (what.Object n) type) ≡ Some (meaning.Named d t) → what.Object n ≡ d
          what_is e = cc

-- an object with linkage and its initializer

module _ (e f : File) (is : IsBeyond e f) (n : ℕ) (name : Name × ℕ)
    (at : IsEntity (what.Object n) (declared name.0 f.state.environment.entities)) where
  large_beyond : (array : TypeWord) (element : List TypeWord)
      → is_some (composite at.entity.c_type (array ∷ element)) ≡ true → (large : Bool)
      → IfStateBeyond e f
      (if large then violates rule.LargeType name.1
      else Ok (
        record f.state {
          environment = with_size (what.Object n) name.0 (array ∷ element) f.state.environment;
        },
        array ∷ element,
      ))
  large_beyond array element same true = tt
  large_beyond array element same false =
      later_beyond e f _ is (sized_later f.state is.outside n name.0 at (array ∷ element) same)

  compatible_at : (array : TypeWord) (element : List TypeWord) (b : Bool)
      → is_same_object (what.Object n) name.0 (array ∷ element) f.state.environment ≡ b
      → IfStateBeyond e f
      (if not b then violates rule.Redeclared name.1
      else if is_large array then violates rule.LargeType name.1
      else Ok (
        record f.state {
          environment = with_size (what.Object n) name.0 (array ∷ element) f.state.environment;
        },
        array ∷ element,
      ))
  compatible_at array element false g = tt
  compatible_at array element true g =
      large_beyond array element (sym (ap (is_of_type (array ∷ element)) at.is) ∙ g) (is_large array)

  completed_beyond : (type : List TypeWord) (k : ℕ)
      → IfStateBeyond e f (completed (what.Object n) name type k f.state)
  completed_beyond (word.OpenArray ∷ element) k =
      compatible_at (array_of k (extent_of (extents f.state) element)) element
      (is_same_object (what.Object n) name.0 (array_of k (extent_of (extents f.state) element) ∷ element)
      f.state.environment) refl
  completed_beyond [] k = is
  completed_beyond (word.Void ∷ ws) k = is
  completed_beyond (word.Integer t ∷ ws) k = is
  completed_beyond (word.Enumeration j ∷ ws) k = is
  completed_beyond (word.Pointer ∷ ws) k = is
  completed_beyond (word.Array c b ∷ ws) k = is
  completed_beyond (word.Structure j ∷ ws) k = is
  completed_beyond (word.Const ∷ ws) k = is
  completed_beyond (word.Takes ∷ ws) k = is
  completed_beyond (word.Gives ∷ ws) k = is

parts_beyond : (e f : File) → IsBeyond e f → (n : ℕ) (b : Bool) (r : List TypeWord × List Part)
    → IfBeyond e (with_parts n b r f)
parts_beyond e f is n true r =
    record {
      entities = is.entities;
      outside = is.outside;
      definitions = is.definitions;
      statics = is.statics;
    }
parts_beyond e f is n false r = is

sized_beyond : (e f : File) (n : ℕ) (b : Bool) (parts : List Part) (a : Answer (State × List TypeWord))
    → IfStateBeyond e f a
    → IfBeyond e (a >>= (λ r. Ok (r.0, (r.1, parts))) >>= filed f >>= λ r. with_parts n b r.1 r.0)
sized_beyond e f n b parts (Ok r) h = parts_beyond e (record f { state = r.0 }) h n b (r.1, parts)
sized_beyond e f n b parts (Err x) h = tt

module _ (e f : File) (is : IsBeyond e f) (n : ℕ) (name : Name × ℕ)
    (at : IsEntity (what.Object n) (declared name.0 f.state.environment.entities)) (type : List TypeWord) where
  values_beyond : (a : Answer (State × Initializing)) → Extending false f.state anything a
      → IfBeyond e (a
      >>= (λ r. (completed (what.Object n) name type (count_of r.1.parts) >>> λ type. done (type, parts_in r.1.parts))
      r.0)
      >>= filed f >>= λ r. with_parts n true r.1 r.0)
  values_beyond (Ok r) h =
      let g = record f { state = r.0 } in
      sized_beyond e g n true (parts_in r.1.parts) (completed (what.Object n) name type (count_of r.1.parts) r.0)
      (completed_beyond e g (later_beyond e f r.0 is (extended_later f.state r.0 h.0 is.outside)) n name
      (record { entity = at.entity; is = ap (declared name.0) h.0.entities ∙ at.is; same = at.same }) type
      (count_of r.1.parts))
  values_beyond (Err x) h = tt

  object_beyond : (x : Option Initializer) → is_regular_initializer_if x ≡ true
      → IfBeyond e ((in_state (initialized_if (what.Object n) name type x) ~> with_parts n (is_some x)) f)
  object_beyond None c = is
  object_beyond (Some x) c =
      values_beyond (initialized x (begun type) f.state) (initialized_extends x c (begun type) f.state
      is.outside.formed)

-- declarators

meant_beyond : (e f : File) → IsBeyond e f → (name : Name × ℕ) (x : Option Initializer)
    → is_regular_initializer_if x ≡ true → (m : Meaning)
    → names.meaning name.0 f.state.environment.names ≡ Some m → IfBeyond e (declared_with name x (Some m) f)
meant_beyond e f is name x c (meaning.Named (what.Object n) type) g =
    object_beyond e f is n name (is.outside.linked.names name.0 (what.Object n) type g refl) type x c
meant_beyond e f is name x c (meaning.Typedef type) g = is
meant_beyond e f is name x c (meaning.Constant w) g = is
meant_beyond e f is name x c (meaning.Named (what.Function n) type) g = is
meant_beyond e f is name x c (meaning.Named (what.Library r) type) g = is
meant_beyond e f is name x c (meaning.Named (what.Static n) type) g =
    absurd (false≢true (is.outside.names.linked name.0 (what.Static n) type g))
meant_beyond e f is name x c (meaning.Named (what.Variable n) type) g =
    absurd (false≢true (is.outside.names.linked name.0 (what.Variable n) type g))

named_from : (e f : File) → IsBeyond e f → (d : Declaration) → is_type d.type ≡ true
    → (line : ℕ) (x : Option Initializer)
    → is_regular_initializer_if x ≡ true → (a : Answer (State × Option Meaning)) → IfDeclared d f.state a
    → IfMade d f.state a → IfBeyond e (a >>= filed f >>= λ r. declared_with (d.name, line) x r.1 r.0)
named_from e f is d whole line x c (Ok r) h made =
    let g = record f { state = r.0 } in
    let m = bound_meaning f.state.environment d in
    subst (λ o. IfBeyond e (declared_with (d.name, line) x o g)) (sym h.1)
    (meant_beyond e g
    (later_beyond e f r.0 is (declared_outside f.state r.0 d is.outside made.state h.0.binds h.0.formed whole))
    (d.name, line) x c m
    (ap (λ o. or_else o (found d.name r.0.environment.names.outer)) h.0.binds.here))
named_from e f is d whole line x c (Err y) h made = tt

named_beyond : (in_head : Bool) (spec : Specification) → is_sized_array spec.type ≡ true
    → is_type spec.type ≡ true → (x : Option Initializer)
    → is_regular_initializer_if x ≡ true → (sh : Shape) → AreCounted sh.derivations → WholeShape sh
    → (name : Option (Name × ℕ)) (e f : File) → IsBeyond e f → IfBeyond e (named_by in_head spec x sh name f)
named_beyond in_head spec sized whole x c sh counted derives None e f is = is
named_beyond in_head spec sized whole x c sh counted derives (Some name) e f is =
    let i = option_map initializer_line x in
    let d = declaration_of spec (built_in f.state spec sh) name i in
    named_from e f is d (built_type (extents f.state) spec.type whole sh.derivations derives) name.1 x c
    (declared_as in_head spec sh i name f.state)
    (declared_as_declares in_head f.state is.outside.formed spec sized sh counted i name)
    (placed_made d f.state name spec.line (has_place in_head spec (built_in f.state spec sh).type))

declarator_beyond : (in_head : Bool) (spec : Specification) → is_sized_array spec.type ≡ true
    → is_type spec.type ≡ true → (d : t.InitDeclarator)
    → is_regular_object d (initializer_of d) ≡ true → (e f : File) → IsBeyond e f
    → IfBeyond e (with_declarator in_head spec d f)
declarator_beyond in_head spec sized whole d c e f is =
    state_beyond e f is (λ u sh. IsShapeOf u d.declarator sh × WholeShape sh) (shape false d.declarator f.state)
    (λ sh. named_by in_head spec (initializer_of d) sh sh.name)
    (also_gives false f.state (λ u sh. IsShapeOf u d.declarator sh) WholeShape (shape false d.declarator f.state)
    (shape_extends false d.declarator (first _ _ c) f.state is.outside.formed)
    (shape_types false d.declarator (first _ _ c) f.state is.outside.formed is.outside.types))
    (λ sh g is has. named_beyond in_head spec sized whole (initializer_of d) (second _ _ c) sh has.0.counted has.1
    sh.name
    e g is)

others_beyond : (in_head : Bool) (spec : Specification) → is_sized_array spec.type ≡ true → is_type spec.type ≡ true
    → (ds : List (Position × t.InitDeclarator)) → list_all (λ d. is_regular_object d.1 (initializer_of d.1)) ds ≡ true
    → (vs : List DeclaredVariable) (e f : File) → IsBeyond e f → IfBeyond e (with_others in_head spec ds vs f)
others_beyond in_head spec sized whole [] c vs e f is = is
others_beyond in_head spec sized whole (d ∷ ds) c vs e f is =
    then_beyond e (with_declarator in_head spec d.1 f) (λ us. with_others in_head spec ds (vs ++ us))
    (declarator_beyond in_head spec sized whole d.1 (first _ _ c) e f is)
    (λ us g is. others_beyond in_head spec sized whole ds (second _ _ c) (vs ++ us) e g is)

alone_beyond : (e f : File) → IsBeyond e f → (b : Bool) (line : ℕ)
    → IfBeyond {A = List DeclaredVariable} e
    ((if b then violates rule.MisplacedStorage line else Ok []) >>= (λ x. Ok (f.state, x)) >>= filed f)
alone_beyond e f is true line = tt
alone_beyond e f is false line = is

declarators_beyond : (in_head : Bool) (spec : Specification) → is_sized_array spec.type ≡ true
    → is_type spec.type ≡ true
    → (ds : Option t.InitDeclarators) → are_regular_declarators ds ≡ true → (e f : File) → IsBeyond e f
    → IfBeyond e (with_declarators in_head spec ds f)
declarators_beyond in_head spec sized whole None c e f is =
    alone_beyond e f is
    (is_misplaced (in_file f.state.environment) false spec.storage || not (has_place in_head spec spec.type)) spec.line
declarators_beyond in_head spec sized whole (Some ds) c e f is =
    then_beyond e (with_declarator in_head spec ds.first f) (λ vs. with_others in_head spec ds.others vs)
    (declarator_beyond in_head spec sized whole ds.first (first _ _ c) e f is)
    (λ vs g is. others_beyond in_head spec sized whole ds.others (second _ _ c) vs e g is)

pub declaration_beyond : (in_head : Bool) (d : t.Declaration) → is_regular_declaration d ≡ true → (f : File)
    → IsOutside f.state → IfBeyond f (declaration in_head d f)
declaration_beyond in_head d c f outside =
    let here : IsBeyond f f = record {
      entities = entities_same f.state.environment f.state.environment refl;
      outside = outside;
      definitions = refl;
      statics = refl;
    } in
    state_beyond f f here (λ u spec. IsSpecified u spec × (is_type spec.type ≡ true))
    (specified (is_none d.declarators) d f.state)
    (λ spec. with_declarators in_head spec d.declarators)
    (also_gives false f.state IsSpecified (λ spec. is_type spec.type ≡ true)
    (specified (is_none d.declarators) d f.state)
    (specified_extends (is_none d.declarators) d c f.state outside.formed)
    (stored_type (is_none d.declarators) d.specifiers (first _ _ c) f.state outside.formed outside.types))
    (λ spec g is has. declarators_beyond in_head spec has.0 has.1 d.declarators (second _ _ c) f g is)
