-- Declarations keep names with linkage those of objects and functions whose types have the sizes that theirs have.
use Rattle.std.proofs.Common.{◌≡◌, ◌⊎◌, inl, inr, ℕ, Bool, true, false, refl, sym, ap, ◌∙◌, subst, List, [], ◌∷◌, ◌++◌}
use Rattle.std.proofs.Common.{Option, Some, None, if◌then◌else◌}
use Rattle.std.specs.Prelude.{Ok, Err, is_none, is_some, not, option_map}
use Rattle.std.specs.List.{list_all}
use Rattle.c_syntax.specs.declared.position.Position.{Position}
use Rattle.c_syntax.specs.Statements as t
use Rattle.c_syntax.specs.Tree.{Initializer}
use Rattle.c_tree.specs.declared.c_type.TypeWord.{TypeWord}
use Rattle.c_tree.specs.declared.c_type.TypeWord.TheVariants as word
use Rattle.c_tree.specs.Extents.{extent_of}
use Rattle.c_tree.specs.Statements.{DeclaredVariable, Part}
use Rattle.c_faults.specs.declared.fault.Rule.TheVariants as rule
use Rattle.c_faults.specs.Answer.{Answer, violates, ◌>>=◌}
use Rattle.c_declarators.specs.Derivations.{array_of, is_large}
use Rattle.c_initializer_rules.specs.Initializing.{Initializing, begun}
use Rattle.c_initializer_rules.specs.Placed.{count_of, parts_in}
use Rattle.c_scope.specs.declared.meaning.Designated.{Designated}
use Rattle.c_scope.specs.declared.meaning.Designated.TheVariants as what
use Rattle.c_scope.specs.declared.meaning.Entity.{Entity}
use Rattle.c_scope.specs.declared.meaning.Meaning.{Meaning}
use Rattle.c_scope.specs.declared.meaning.Meaning.TheVariants as meaning
use Rattle.c_scope.specs.declared.meaning.Storage.{Storage}
use Rattle.c_scope.specs.declared.meaning.Storage.TheVariants as storage
use Rattle.c_scope.specs.Declaring.{Declaration, are_compatible, has_linkage, is_linked, judged as judged_declarator}
use Rattle.c_scope.specs.Environment.{Environment, entity_with, in_file, linked, surroundings, visible_type, with_name}
use Rattle.c_scope.specs.Environment.{with_declarator as declared_env, with_variable as with_new_variable}
use Rattle.c_scope.specs.Environment.{without_linkage}
use Rattle.c_scope.specs.Names.{Name, Names, bound, declared, found, or_else}
use Rattle.c_scope.specs.Names as names
use Rattle.c_declarator_typing.specs.Declarators.{Shape, built_in}
use Rattle.c_declarator_typing.specs.Specifications.{Specification}
use Rattle.c_typing_state.specs.State.{State, done, extents, ◌>>>◌}
use Rattle.c_expression_typing.specs.Typed.{shape}
use Rattle.c_unit_typing.specs.Declarations.{alone_in, completed, declaration, declaration_of, declared_as}
use Rattle.c_unit_typing.specs.Declarations.{declared_with, entity_with_type, has_place, initialized_if, is_of_type}
use Rattle.c_unit_typing.specs.Declarations.{is_same_object, named_by, specified, with_declarator, with_declarators}
use Rattle.c_unit_typing.specs.Declarations.{with_entity, with_others, with_parts, with_size, with_static}
use Rattle.c_unit_typing.specs.Declarations.{with_variable}
use Rattle.c_unit_typing.specs.Files.{File, FileTyping}
use Rattle.c_unit_typing.specs.Initializers.{initialized}
use Rattle.c_unit_typing.specs.Lines.{initializer_line}
use Rattle.typing_laws.specs.Validity.Sound.{IsFormed, is_sized_array}
use Rattle.typing_laws.proofs.Validity.Common.{first, no_value, second, the_same}
use Rattle.typing_laws.specs.Declarators.Extending.{Extending, Extends, IsNew}
use Rattle.typing_laws.specs.Declarators.Given.{AreCounted, IsShapeOf, IsSpecified, anything}
use Rattle.typing_laws.proofs.Declarators.Recursion.{shape_extends}
use Rattle.typing_laws.specs.Declarations.Binding.{IfDeclared, bound_meaning, linked_meaning}
use Rattle.typing_laws.proofs.Declarations.Bound.{bound_here}
use Rattle.typing_laws.proofs.Declarations.Judged.{declared_as_declares}
use Rattle.typing_laws.specs.Scopes.Leaving.{Leading}
use Rattle.typing_laws.specs.Scopes.Regular.{are_regular_declarators, initializer_of, is_regular_declaration}
use Rattle.typing_laws.specs.Scopes.Regular.{is_regular_initializer_if, is_regular_object}
use Rattle.typing_laws.proofs.Scopes.Declarations.{declarator_leads, specified_extends}
use Rattle.typing_laws.proofs.Scopes.Initializers.{initialized_extends}
use Rattle.typing_laws.proofs.Types.Parameters.{judged_known}
use Rattle.program_laws.proofs.Bodies.Declared.{IfMade, placed_made}
use Rattle.program_laws.proofs.Bodies.Standing.{either}
use Rattle.program_laws.specs.Functions.Entities.{Continue, Fills}
use Rattle.program_laws.proofs.Functions.Continuing.{bound_fills, declarator_continues, keeps_continues}
use Rattle.program_laws.proofs.Functions.Continuing.{continues_same}
use Rattle.program_laws.proofs.Functions.Entities.{bound_either, compatible_fills, fills_on}
use Rattle.program_laws.proofs.Functions.Entities.{size_keeps}
use Rattle.program_laws.specs.Names.Linked.{AreFilled, IsFilled}
use Rattle.typing_laws.proofs.Common.{conflict, filed}

-- names

pub still_filled : (d : Designated) (type : List TypeWord) (es more : Names Entity) (name : Name) → Continue es more
    → IsFilled d type (declared name es) → IsFilled d type (declared name more)
still_filled d type es more name k h =
    let s = k.each name h.entity h.is in
    record {
      entity = s.entity;
      is = s.there;
      same = s.what ∙ h.same;
      fills = fills_on type h.entity.c_type s.entity.c_type h.fills s.fills;
    }

pub filled_named : (env behind : Environment) (name : Name) (m : Meaning) → behind.names ≡ (with_name name m env).names
    → Continue env.entities behind.entities
    → ((d : Designated) (type : List TypeWord) → m ≡ meaning.Named d type → is_linked d ≡ true
    → IsFilled d type (declared name behind.entities))
    → AreFilled env → AreFilled behind
filled_named env behind name m same more new h = record {
  each = λ other d type e l.
      by other d type (ap (names.meaning other) (sym same) ∙ e) l (bound_either other name m env.names.current);
}
  where
    by : (other : Name) (d : Designated) (type : List TypeWord)
        → names.meaning other (with_name name m env).names ≡ Some (meaning.Named d type) → is_linked d ≡ true
        → (declared other (bound name m env.names.current) ≡ declared other env.names.current)
        ⊎ ((other ≡ name) × (declared other (bound name m env.names.current) ≡ Some m))
        → IsFilled d type (declared other behind.entities)
    by other d type e l (inl g) =
        still_filled d type env.entities behind.entities other more
        (h.each other d type (ap (λ z. or_else z (found other env.names.outer)) (sym g) ∙ e) l)
    by other d type e l (inr g) =
        subst (λ z. IsFilled d type (declared z behind.entities)) (sym g.0)
        (new d type (the_same (ap (λ z. or_else z (found other env.names.outer)) (sym g.1) ∙ e)) l)

abbrev StandsFilled : Environment → Name → Option Meaning → Type 0
StandsFilled env name m = (d : Designated) (type : List TypeWord) → m ≡ Some (meaning.Named d type)
    → is_linked d ≡ true → IsFilled d type (declared name env.entities)

new_filled : (env : Environment) (name : Name) (m : Meaning) → IsNew false m → StandsFilled env name (Some m)
new_filled env name (meaning.Constant w) is d type e l = absurd cc
new_filled env name (meaning.Typedef t) is d type e l = absurd cc
new_filled env name (meaning.Named (what.Variable n) t) is d type e l = absurd cc
new_filled env name (meaning.Named (what.Object n) t) is d type e l = absurd cc
new_filled env name (meaning.Named (what.Static n) t) is d type e l = absurd cc
new_filled env name (meaning.Named (what.Function n) t) is d type e l = absurd cc
new_filled env name (meaning.Named (what.Library r) t) is d type e l = absurd cc

pub extended_filled : (s u : State) → Extends false s u → AreFilled s.environment → AreFilled u.environment
extended_filled s u h is = record {
  each = λ name.
      either (StandsFilled u.environment name) (IsNew false) (declared name s.environment.names.current)
      (declared name u.environment.names.current) (found name u.environment.names.outer) (h.names name)
      (new_filled u.environment name)
      (λ d type e l. subst (λ z. IsFilled d type (declared name z)) (sym h.entities)
      (is.each name d type
      (ap (λ z. or_else (declared name s.environment.names.current) (found name z)) (sym h.outer) ∙ e) l));
}

-- a declarator

module _ (env : Environment) (d : Declaration) (judged : judged_declarator (surroundings env d) d ≡ Ok tt)
    (is : AreFilled env) where
  abbrev entity : Entity
  entity = entity_with env d (declared d.name env.entities)

  abbrev Behind : Bool → Environment
  Behind b = if b then linked env d else without_linkage d.storage env d

  visible_before : Continue env.entities (bound d.name entity env.entities) → (w : Designated) (s : List TypeWord)
      → names.meaning d.name env.names ≡ Some (meaning.Named w s) → is_linked w ≡ true → Fills s entity.c_type
  visible_before more w s e l =
      let old = still_filled w s env.entities (bound d.name entity env.entities) d.name more (is.each d.name w s e l) in
      subst (λ z. Fills s z.c_type) (the_same (sym old.is ∙ bound_here d.name entity env.entities)) old.fills

  linked_filled : has_linkage (in_file env) d ≡ true → Continue env.entities (bound d.name entity env.entities)
      → (w : Designated) (type : List TypeWord) → linked_meaning env d ≡ meaning.Named w type
      → IsFilled w type (declared d.name (bound d.name entity env.entities))
  linked_filled e more w type g = record {
    entity = entity;
    is = bound_here d.name entity env.entities;
    same = the_what g;
    fills = subst (λ z. Fills z entity.c_type) (the_type g) (bound_fills env d tt judged e (visible_before more));
  }
    where
      the_what : linked_meaning env d ≡ meaning.Named w type → entity.what ≡ w
      the_what g = cc

      the_type : linked_meaning env d ≡ meaning.Named w type
          → visible_type d.type (names.meaning d.name env.names) ≡ type
      the_type g = cc

  unlinked_named : (m : Meaning) (behind : Environment) → behind.names ≡ (with_name d.name m env).names
      → behind.entities ≡ env.entities
      → ((w : Designated) (type : List TypeWord) → m ≡ meaning.Named w type → is_linked w ≡ true → false ≡ true)
      → AreFilled behind
  unlinked_named m behind names entities unlinked =
      filled_named env behind d.name m names
      (subst (Continue env.entities) (sym entities) (continues_same env.entities))
      (λ w type g l. conflict (unlinked w type g l)) is

  variable_filled : AreFilled (with_new_variable d.name d.type env)
  variable_filled =
      unlinked_named (meaning.Named (what.Variable env.variables) d.type) (with_new_variable d.name d.type env) refl
      refl (λ w type g l. absurd cc)

  unlinked_filled : (z : Storage) → AreFilled (without_linkage z env d)
  unlinked_filled storage.Typedef =
      unlinked_named (meaning.Typedef d.type) (without_linkage storage.Typedef env d) refl refl
      (λ w type g l. absurd cc)
  unlinked_filled storage.Static =
      unlinked_named (meaning.Named (what.Static env.statics) d.type) (without_linkage storage.Static env d) refl refl
      (λ w type g l. absurd cc)
  unlinked_filled storage.Absent = variable_filled
  unlinked_filled storage.Extern = variable_filled
  unlinked_filled storage.Auto = variable_filled
  unlinked_filled storage.Register = variable_filled

  pub declarator_filled : AreFilled (declared_env env d)
  declarator_filled =
      by (has_linkage (in_file env) d) refl
      (declarator_continues env d (judged_known (surroundings env d) d tt judged))
    where
      by : (b : Bool) → has_linkage (in_file env) d ≡ b → Continue env.entities (Behind b).entities
          → AreFilled (Behind b)
      by true e more =
          filled_named env (linked env d) d.name (linked_meaning env d) refl more
          (λ w type g l. linked_filled e more w type g) is
      by false e more = unlinked_filled d.storage

-- an array that gets its size

-- an object with linkage, or what has none
abbrev pub IsSizable : Designated → Name → Names Entity → Type 0
IsSizable (what.Object n) name es = (y : Entity) × ((declared name es ≡ Some y) × (y.what ≡ what.Object n))
IsSizable d name es = is_linked d ≡ false

pub sized_entity : (n : ℕ) (name : Name) (type : List TypeWord) (y : Entity) (es : Names Entity)
    → y.what ≡ what.Object n → are_compatible y.c_type type ≡ true
    → IsFilled (what.Object n) type (declared name (bound name (entity_with_type type y) es))
sized_entity n name type y es e h = record {
  entity = entity_with_type type y;
  is = bound_here name (entity_with_type type y) es;
  same = e;
  fills = (compatible_fills y.c_type type type h).1;
}

object_filled : (env : Environment) (n : ℕ) (name : Name) (type : List TypeWord) (y : Entity)
    → y.what ≡ what.Object n → AreFilled env → (o : Option Entity) → o ≡ Some y → is_of_type type o ≡ true
    → Continue env.entities (with_entity name (option_map (entity_with_type type) o) env).entities
    → AreFilled (with_name name (meaning.Named (what.Object n) type)
    (with_entity name (option_map (entity_with_type type) o) env))
object_filled env n name type y w is None e h more = no_value y _ e
object_filled env n name type y w is (Some x) e h more =
    filled_named env
    (with_name name (meaning.Named (what.Object n) type) (with_entity name (Some (entity_with_type type x)) env)) name
    (meaning.Named (what.Object n) type) refl more
    (λ d t g l.
    subst (λ z. IsFilled z t (declared name (bound name (entity_with_type type x) env.entities))) (the_what d t g)
    (subst (λ z. IsFilled (what.Object n) z (declared name (bound name (entity_with_type type x) env.entities)))
    (the_type d t g) (sized_entity n name type x env.entities (ap (λ z. z.what) (the_same e) ∙ w) h))) is
  where
    the_what : (d : Designated) (t : List TypeWord) → meaning.Named (what.Object n) type ≡ meaning.Named d t
        → what.Object n ≡ d
    the_what d t g = cc

    the_type : (d : Designated) (t : List TypeWord) → meaning.Named (what.Object n) type ≡ meaning.Named d t
        → type ≡ t
    the_type d t g = cc

pub size_filled : (env : Environment) (d : Designated) (name : Name) (type : List TypeWord)
    → is_same_object d name type env ≡ true → IsSizable d name env.entities → AreFilled env
    → AreFilled (with_size d name type env)
size_filled env (what.Object n) name type e at is =
    object_filled env n name type at.0 at.1.1 is (declared name env.entities) at.1.0 e
    (keeps_continues env.facts.functions env.entities (with_size (what.Object n) name type env).entities
    (size_keeps env (what.Object n) name type e))
size_filled env (what.Static n) name type e at is =
    filled_named env (with_size (what.Static n) name type env) name (meaning.Named (what.Static n) type) refl
    (continues_same env.entities) (λ d t g l. absurd cc) is
size_filled env (what.Variable n) name type e at is =
    filled_named env (with_size (what.Variable n) name type env) name (meaning.Named (what.Variable n) type) refl
    (continues_same env.entities) (λ d t g l. absurd cc) is
size_filled env (what.Function n) name type e at is = absurd cc
size_filled env (what.Library r) name type e at is = absurd cc

-- declarations

abbrev pub IfFilled : {A : Type 0} → Answer (State × A) → Type 0
IfFilled (Ok r) = AreFilled r.0.environment
IfFilled (Err e) = Unit {0}

abbrev pub IfFileFilled : {A : Type 0} → Answer (File × A) → Type 0
IfFileFilled (Ok r) = AreFilled r.0.state.environment
IfFileFilled (Err e) = Unit {0}

large_filled : (s : State) → AreFilled s.environment → (d : Designated) (name : Name) (array : TypeWord)
    (element : List TypeWord) (line : ℕ) → IsSizable d name s.environment.entities
    → is_same_object d name (array ∷ element) s.environment ≡ true → (large : Bool)
    → IfFilled (if large then violates rule.LargeType line
    else Ok (record s { environment = with_size d name (array ∷ element) s.environment }, array ∷ element))
large_filled s is d name array element line at same true = tt
large_filled s is d name array element line at same false =
    size_filled s.environment d name (array ∷ element) same at is

same_filled : (s : State) → AreFilled s.environment → (d : Designated) (name : Name) (array : TypeWord)
    (element : List TypeWord) (line : ℕ) → IsSizable d name s.environment.entities → (b : Bool)
    → is_same_object d name (array ∷ element) s.environment ≡ b
    → IfFilled (if not b then violates rule.Redeclared line
    else if is_large array then violates rule.LargeType line
    else Ok (record s { environment = with_size d name (array ∷ element) s.environment }, array ∷ element))
same_filled s is d name array element line at false e = tt
same_filled s is d name array element line at true e =
    large_filled s is d name array element line at e (is_large array)

completed_filled : (s : State) → AreFilled s.environment → (d : Designated) (name : Name × ℕ) (type : List TypeWord)
    (n : ℕ) → IsSizable d name.0 s.environment.entities → IfFilled (completed d name type n s)
completed_filled s is d name (word.OpenArray ∷ element) n at =
    same_filled s is d name.0 (array_of n (extent_of (extents s) element)) element name.1 at
    (is_same_object d name.0 (array_of n (extent_of (extents s) element) ∷ element) s.environment) refl
completed_filled s is d name [] n at = is
completed_filled s is d name (word.Void ∷ ws) n at = is
completed_filled s is d name (word.Integer t ∷ ws) n at = is
completed_filled s is d name (word.Enumeration k ∷ ws) n at = is
completed_filled s is d name (word.Pointer ∷ ws) n at = is
completed_filled s is d name (word.Array c b ∷ ws) n at = is
completed_filled s is d name (word.Structure k ∷ ws) n at = is
completed_filled s is d name (word.Const ∷ ws) n at = is
completed_filled s is d name (word.Takes ∷ ws) n at = is
completed_filled s is d name (word.Gives ∷ ws) n at = is

done_filled : {A B : Type 0} (a : Answer (State × A)) (h : A → B) → IfFilled a
    → IfFilled (a >>= λ r. (done (h r.1)) r.0)
done_filled (Ok r) h is = is
done_filled (Err e) h is = tt

sizable_on : (d : Designated) (name : Name) (es more : Names Entity) → more ≡ es → IsSizable d name es
    → IsSizable d name more
sizable_on d name es more e at = subst (IsSizable d name) (sym e) at

values_filled : (s : State) → AreFilled s.environment → (d : Designated) (name : Name × ℕ) (type : List TypeWord)
    → IsSizable d name.0 s.environment.entities → (a : Answer (State × Initializing)) → Extending false s anything a
    → IfFilled {A = List TypeWord × List Part} (a >>= λ r.
    (completed d name type (count_of r.1.parts) >>> λ type. done (type, parts_in r.1.parts)) r.0)
values_filled s is d name type at (Ok r) h =
    done_filled (completed d name type (count_of r.1.parts) r.0) (λ type. (type, parts_in r.1.parts))
    (completed_filled r.0 (extended_filled s r.0 h.0 is) d name type (count_of r.1.parts)
    (sizable_on d name.0 s.environment.entities r.0.environment.entities h.0.entities at))
values_filled s is d name type at (Err e) h = tt

initialized_filled : (s : State) → IsFormed s → AreFilled s.environment → (d : Designated) (name : Name × ℕ)
    (type : List TypeWord) → IsSizable d name.0 s.environment.entities → (x : Option Initializer)
    → is_regular_initializer_if x ≡ true → IfFilled (initialized_if d name type x s)
initialized_filled s formed is d name type at None c = is
initialized_filled s formed is d name type at (Some x) c =
    values_filled s is d name type at (initialized x (begun type) s) (initialized_extends x c (begun type) s formed)

variable_if : (n : ℕ) (b : Bool) (f : File) (a : Answer (State × (List TypeWord × List Part))) → IfFilled a
    → IfFileFilled (a >>= filed f >>= λ r. with_variable n b r.1 r.0)
variable_if n b f (Ok r) h = h
variable_if n b f (Err e) h = tt

static_if : (n : ℕ) (f : File) (a : Answer (State × (List TypeWord × List Part))) → IfFilled a
    → IfFileFilled (a >>= filed f >>= λ r. with_static n r.1 r.0)
static_if n f (Ok r) h = h
static_if n f (Err e) h = tt

parts_if : (k : ℕ) (b : Bool) (r : List TypeWord × List Part) (g : File) → AreFilled g.state.environment
    → AreFilled (if b then record g { initializers = g.initializers ++ (k, r.1) ∷ [] } else g).state.environment
parts_if k true r g h = h
parts_if k false r g h = h

object_if : (n : ℕ) (b : Bool) (f : File) (a : Answer (State × (List TypeWord × List Part))) → IfFilled a
    → IfFileFilled (a >>= filed f >>= λ r. with_parts n b r.1 r.0)
object_if n b f (Ok r) h = parts_if n b r.1 (record f { state = r.0 }) h
object_if n b f (Err e) h = tt

object_at : (d : Designated) (type : List TypeWord) (n : ℕ) (name : Name) (es : Names Entity) → d ≡ what.Object n
    → IsFilled d type (declared name es) → IsSizable (what.Object n) name es
object_at d type n name es e h = (h.entity, (h.is, h.same ∙ e))

declared_filled : (name : Name × ℕ) (x : Option Initializer) → is_regular_initializer_if x ≡ true → (m : Meaning)
    (f : File) → names.meaning name.0 f.state.environment.names ≡ Some m → IsFormed f.state
    → AreFilled f.state.environment → IfFileFilled (declared_with name x (Some m) f)
declared_filled name x c (meaning.Named (what.Variable n) type) f g formed is =
    variable_if n (is_some x) f (initialized_if (what.Variable n) name type x f.state)
    (initialized_filled f.state formed is (what.Variable n) name type refl x c)
declared_filled name x c (meaning.Named (what.Static n) type) f g formed is =
    static_if n f (initialized_if (what.Static n) name type x f.state)
    (initialized_filled f.state formed is (what.Static n) name type refl x c)
declared_filled name x c (meaning.Named (what.Object n) type) f g formed is =
    object_if n (is_some x) f (initialized_if (what.Object n) name type x f.state)
    (initialized_filled f.state formed is (what.Object n) name type
    (object_at (what.Object n) type n name.0 f.state.environment.entities refl
    (is.each name.0 (what.Object n) type g refl)) x c)
declared_filled name x c (meaning.Typedef type) f g formed is = is
declared_filled name x c (meaning.Constant w) f g formed is = is
declared_filled name x c (meaning.Named (what.Function n) type) f g formed is = is
declared_filled name x c (meaning.Named (what.Library r) type) f g formed is = is

named_filled : (d : Declaration) (line : ℕ) (x : Option Initializer) → is_regular_initializer_if x ≡ true → (f : File)
    → AreFilled f.state.environment → (a : Answer (State × Option Meaning)) → IfDeclared d f.state a
    → IfMade d f.state a → IfFileFilled (a >>= filed f >>= λ r. declared_with (d.name, line) x r.1 r.0)
named_filled d line x c f is (Ok r) h made =
    let g = record f { state = r.0 } in
    let m = bound_meaning f.state.environment d in
    subst (λ o. IfFileFilled (declared_with (d.name, line) x o g)) (sym h.1)
    (declared_filled (d.name, line) x c m g
    (ap (λ o. or_else o (found d.name r.0.environment.names.outer)) h.0.binds.here) h.0.formed
    (subst (λ u. AreFilled u.environment) (sym made.state)
    (declarator_filled f.state.environment d made.judged is)))
named_filled d line x c f is (Err e) h made = tt

then_filled : {A B : Type 0} (f : File) (a : Answer (File × A)) (next : A → FileTyping B) → Leading f a
    → IfFileFilled a
    → ((x : A) (g : File) → IsFormed g.state → AreFilled g.state.environment → IfFileFilled (next x g))
    → IfFileFilled (a >>= λ r. next r.1 r.0)
then_filled f (Ok r) next l h g = g r.1 r.0 l.state.formed h
then_filled f (Err e) next l h g = tt

pub state_filled : {A B : Type 0} (f : File) → AreFilled f.state.environment → (p : State → A → Type 0)
    (a : Answer (State × A)) (next : A → FileTyping B) → Extending false f.state p a
    → ((x : A) (g : File) → IsFormed g.state → AreFilled g.state.environment → p g.state x → IfFileFilled (next x g))
    → IfFileFilled (a >>= filed f >>= λ r. next r.1 r.0)
state_filled f is p (Ok r) next h g =
    g r.1 (record f { state = r.0 }) h.0.formed (extended_filled f.state r.0 h.0 is) h.1
state_filled f is p (Err e) next h g = tt

shaped_filled : (in_head : Bool) (spec : Specification) → is_sized_array spec.type ≡ true → (x : Option Initializer)
    → is_regular_initializer_if x ≡ true → (sh : Shape) → AreCounted sh.derivations → (name : Option (Name × ℕ))
    (f : File) → IsFormed f.state → AreFilled f.state.environment → IfFileFilled (named_by in_head spec x sh name f)
shaped_filled in_head spec sized x c sh counted None f formed is = is
shaped_filled in_head spec sized x c sh counted (Some name) f formed is =
    let i = option_map initializer_line x in
    let d = declaration_of spec (built_in f.state spec sh) name i in
    named_filled d name.1 x c f is (declared_as in_head spec sh i name f.state)
    (declared_as_declares in_head f.state formed spec sized sh counted i name)
    (placed_made d f.state name spec.line (has_place in_head spec (built_in f.state spec sh).type))

one_filled : (in_head : Bool) (spec : Specification) → is_sized_array spec.type ≡ true → (d : t.InitDeclarator)
    → is_regular_object d (initializer_of d) ≡ true → (f : File) → IsFormed f.state → AreFilled f.state.environment
    → IfFileFilled (with_declarator in_head spec d f)
one_filled in_head spec sized d c f formed is =
    state_filled f is (λ u sh. IsShapeOf u d.declarator sh) (shape false d.declarator f.state)
    (λ sh. named_by in_head spec (initializer_of d) sh sh.name)
    (shape_extends false d.declarator (first _ _ c) f.state formed)
    (λ sh g h k has. shaped_filled in_head spec sized (initializer_of d) (second _ _ c) sh has.counted sh.name g h k)

others_filled : (in_head : Bool) (spec : Specification) → is_sized_array spec.type ≡ true
    → (ds : List (Position × t.InitDeclarator)) → list_all (λ d. is_regular_object d.1 (initializer_of d.1)) ds ≡ true
    → (vs : List DeclaredVariable) (f : File) → IsFormed f.state → AreFilled f.state.environment
    → IfFileFilled (with_others in_head spec ds vs f)
others_filled in_head spec sized [] c vs f formed is = is
others_filled in_head spec sized (d ∷ ds) c vs f formed is =
    then_filled f (with_declarator in_head spec d.1 f) (λ us. with_others in_head spec ds (vs ++ us))
    (declarator_leads in_head spec sized d.1 (first _ _ c) f formed)
    (one_filled in_head spec sized d.1 (first _ _ c) f formed is)
    (λ us g h k. others_filled in_head spec sized ds (second _ _ c) (vs ++ us) g h k)

alone_filled : (f : File) → AreFilled f.state.environment → (a : Answer (List DeclaredVariable))
    → IfFileFilled (a >>= (λ x. Ok (f.state, x)) >>= filed f)
alone_filled f is (Ok x) = is
alone_filled f is (Err e) = tt

all_filled : (in_head : Bool) (spec : Specification) → is_sized_array spec.type ≡ true
    → (ds : Option t.InitDeclarators) → are_regular_declarators ds ≡ true → (f : File) → IsFormed f.state
    → AreFilled f.state.environment → IfFileFilled (with_declarators in_head spec ds f)
all_filled in_head spec sized None c f formed is = alone_filled f is (alone_in in_head spec f.state)
all_filled in_head spec sized (Some ds) c f formed is =
    then_filled f (with_declarator in_head spec ds.first f) (λ vs. with_others in_head spec ds.others vs)
    (declarator_leads in_head spec sized ds.first (first _ _ c) f formed)
    (one_filled in_head spec sized ds.first (first _ _ c) f formed is)
    (λ vs g h k. others_filled in_head spec sized ds.others (second _ _ c) vs g h k)

pub declaration_filled : (in_head : Bool) (d : t.Declaration) → is_regular_declaration d ≡ true → (f : File)
    → IsFormed f.state → AreFilled f.state.environment → IfFileFilled (declaration in_head d f)
declaration_filled in_head d c f formed is =
    state_filled f is IsSpecified (specified (is_none d.declarators) d f.state)
    (λ spec. with_declarators in_head spec d.declarators)
    (specified_extends (is_none d.declarators) d c f.state formed)
    (λ spec g h k sized. all_filled in_head spec sized d.declarators (second _ _ c) g h k)
