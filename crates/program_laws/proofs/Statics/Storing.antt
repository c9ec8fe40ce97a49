-- Blocks and definitions add no initializers of objects with linkage (C99 6.7.8 paragraph 5), and names of what has
-- linkage stay different.
use Rattle.std.proofs.Common.{◌≡◌, ◌⊎◌, inl, inr, ℕ, zero, suc, Bool, true, false, refl, sym, ap, ◌∙◌}
use Rattle.std.proofs.Common.{subst, List, [], ◌∷◌, ◌++◌, Option, Some, None, if◌then◌else◌}
use Rattle.std.specs.Prelude.{Ok, Err, codes, is_some, not, option_map, slice_get}
use Rattle.c_syntax.specs.Statements as t
use Rattle.c_syntax.specs.Tree.{Declarator, Initializer, Specifiers}
use Rattle.c_tree.specs.declared.c_type.TypeWord.{TypeWord}
use Rattle.c_tree.specs.declared.c_type.TypeWord.TheVariants as word
use Rattle.c_tree.specs.declared.expression.Routine.{Routine}
use Rattle.c_tree.specs.declared.program.Variable.{Variable}
use Rattle.c_tree.specs.Extents.{extent_of}
use Rattle.c_tree.specs.Statements.{DeclaredVariable, Part, Statements}
use Rattle.c_faults.specs.declared.fault.Rule.TheVariants.{Redeclared}
use Rattle.c_faults.specs.Answer.{Answer, violates, ◌>>=◌}
use Rattle.c_tree.specs.Routines.{routine_words}
use Rattle.c_declarators.specs.Derivations.{array_of, is_large}
use Rattle.c_initializer_rules.specs.Initializing.{begun}
use Rattle.c_initializer_rules.specs.Placed.{count_of, parts_in}
use Rattle.c_scope.specs.declared.meaning.Designated.{Designated}
use Rattle.c_scope.specs.declared.meaning.Designated.TheVariants as what
use Rattle.c_scope.specs.declared.meaning.Entity.{Entity}
use Rattle.c_scope.specs.declared.meaning.LibraryFunction.TheVariants as library
use Rattle.c_scope.specs.declared.meaning.Meaning.{Meaning}
use Rattle.c_scope.specs.declared.meaning.Meaning.TheVariants as meaning
use Rattle.c_scope.specs.declared.meaning.Storage.{Storage}
use Rattle.c_scope.specs.declared.meaning.Storage.TheVariants as storage
use Rattle.c_scope.specs.Declaring.{Declaration, has_linkage, is_extern, is_function, is_typedef}
use Rattle.c_scope.specs.Environment.{Environment, Facts, entity_with, in_file, linked, surroundings}
use Rattle.c_scope.specs.Environment.{with_declarator as declared_env, without_linkage}
use Rattle.c_scope.specs.Library.{name_of, routines}
use Rattle.c_scope.specs.Names.{Name, Names, bound, declared, is_empty, is_name}
use Rattle.c_scope.specs.Start.{empty, start, with_routine, with_routines}
use Rattle.c_declarator_typing.specs.Declarators.{Shape, built_in}
use Rattle.c_declarator_typing.specs.Specifications.{Specification}
use Rattle.c_typing_state.specs.State.{State, Typing, done, extents, ◌>>>◌}
use Rattle.c_unit_typing.specs.Declarations.{completed, declaration, declaration_of, declared_as}
use Rattle.c_unit_typing.specs.Declarations.{declared_with, entity_with_type, has_place, initialized_if, is_same_object}
use Rattle.c_unit_typing.specs.Declarations.{named_by}
use Rattle.c_unit_typing.specs.Declarations.{with_entity, with_parts, with_size, with_static}
use Rattle.c_unit_typing.specs.Declarations.{with_variable}
use Rattle.c_unit_typing.specs.Files.{File, FileTyping}
use Rattle.c_unit_typing.specs.Initializers.{initialized}
use Rattle.c_unit_typing.specs.Lines.{initializer_line}
use Rattle.c_unit_typing.specs.Statements.{block_items}
use Rattle.c_unit_typing.specs.Units.{around_body, entered, external, externals, left}
use Rattle.c_unit_typing.specs.Units.{parameters_in}
use Rattle.typing_laws.specs.Validity.Sound.{IsFormed, is_sized_array}
use Rattle.typing_laws.proofs.Validity.Common.{first, no_value, second, the_same}
use Rattle.typing_laws.specs.Declarators.Extending.{Extending, Extends}
use Rattle.typing_laws.specs.Declarators.Given.{AreCounted, anything}
use Rattle.typing_laws.proofs.Declarators.Marks.{type_extends}
use Rattle.typing_laws.proofs.Declarators.Parameters.{not_empty}
use Rattle.typing_laws.specs.Declarations.Binding.{IfDeclared, bound_meaning, linked_meaning, unlinked_meaning}
use Rattle.typing_laws.proofs.Declarations.Bound.{same_name}
use Rattle.typing_laws.proofs.Declarations.Judged.{declared_as_declares}
use Rattle.typing_laws.specs.Scopes.Leaving.{FileLeads, Growing, Leading}
use Rattle.typing_laws.specs.Scopes.Regular.{are_regular_externals}
use Rattle.typing_laws.specs.Scopes.Regular.{is_regular_declaration, is_regular_external}
use Rattle.typing_laws.specs.Scopes.Regular.{is_regular_initializer_if}
use Rattle.typing_laws.proofs.Scopes.Declarations.{declaration_leads}
use Rattle.typing_laws.proofs.Scopes.Files.{entered_leads, external_grows, inside, inside_formed}
use Rattle.typing_laws.proofs.Scopes.Initializers.{initialized_extends, values_walk}
use Rattle.typing_laws.proofs.Scopes.Leading.{bound_leads, closed_leads, file_on, file_same, leads_by}
use Rattle.typing_laws.proofs.Scopes.Leading.{state_leads}
use Rattle.typing_laws.proofs.Scopes.Statements.{IfFileBehind, Walk, items_walk}
use Rattle.typing_laws.proofs.Types.Parameters.{IsJudged, judged_known}
use Rattle.program_laws.proofs.Bodies.Declared.{IfMade, none_by, placed_made}
use Rattle.program_laws.proofs.Functions.Entities.{bound_either, name_is}
use Rattle.program_laws.proofs.Functions.Entities.{unlinked_entities}
use Rattle.program_laws.specs.Statics.Initialized.{AreOwn}
use Rattle.typing_laws.proofs.Scopes.Definitions.{DefinitionWalk, definition_walks}
use Rattle.typing_laws.proofs.Scopes.Declaring.{DeclarationWalk, declaration_walks}
use Rattle.typing_laws.proofs.Common.{conflict, filed, some_mapped, unless_large}

-- names that stand once

own_bound : (name : Name) (x : Entity) (es : Names Entity) → AreOwn es → AreOwn (bound name x es)
own_bound name x [] h = (refl, tt)
own_bound name x (e ∷ es) h = by (is_name name e.0) refl (own_bound name x es h.1)
  where
    still : is_name name e.0 ≡ false
        → (declared e.0 (bound name x es) ≡ declared e.0 es)
        ⊎ ((e.0 ≡ name) × (declared e.0 (bound name x es) ≡ Some x))
        → declared e.0 (bound name x es) ≡ None
    still g (inl k) = k ∙ h.0
    still g (inr k) = conflict (sym g ∙ ap (is_name name) k.0 ∙ same_name name)

    by : (b : Bool) → is_name name e.0 ≡ b → AreOwn (bound name x es)
        → AreOwn (if b then (e.0, x) ∷ es else e ∷ bound name x es)
    by true g k = h
    by false g k = (still g (bound_either e.0 name x es), k)

-- what stands at a place is what its name stands for
pub own_found : (es : Names Entity) → AreOwn es → (k : ℕ) (e : Name × Entity) → slice_get es k ≡ Some e
    → declared e.0 es ≡ Some e.1
own_found [] h k e g = no_value e _ g
own_found (x ∷ es) h zero e g =
    subst (λ z. declared z.0 (x ∷ es) ≡ Some z.1) (the_same g)
    (ap (λ b. if b then Some x.1 else declared x.0 es) (same_name x.0))
own_found (x ∷ es) h (suc k) e g = by (is_name e.0 x.0) refl (own_found es h.1 k e g)
  where
    by : (b : Bool) → is_name e.0 x.0 ≡ b → declared e.0 es ≡ Some e.1
        → (if b then Some x.1 else declared e.0 es) ≡ Some e.1
    by true i j = no_value e.1 _ (sym h.0 ∙ ap (λ z. declared z es) (sym (name_is e.0 x.0 i)) ∙ j)
    by false i j = j

own_declarator : (env : Environment) (d : Declaration) → AreOwn env.entities → AreOwn (declared_env env d).entities
own_declarator env d h = by (has_linkage (in_file env) d)
  where
    by : (b : Bool) → AreOwn (if b then linked env d else without_linkage d.storage env d).entities
    by true = own_bound d.name (entity_with env d (declared d.name env.entities)) env.entities h
    by false = subst AreOwn (sym (unlinked_entities env d d.storage)) h

own_entity : (env : Environment) (name : Name) (o : Option Entity) → AreOwn env.entities
    → AreOwn (with_entity name o env).entities
own_entity env name None h = h
own_entity env name (Some x) h = own_bound name x env.entities h

own_size : (env : Environment) (d : Designated) (name : Name) (type : List TypeWord) → AreOwn env.entities
    → AreOwn (with_size d name type env).entities
own_size env (what.Object n) name type h =
    own_entity env name (option_map (entity_with_type type) (declared name env.entities)) h
own_size env (what.Static n) name type h = h
own_size env (what.Function n) name type h = h
own_size env (what.Library r) name type h = h
own_size env (what.Variable n) name type h = h

-- states behind which they do so too

abbrev IfOwn : {A : Type 0} → State → Answer (State × A) → Type 0
IfOwn s (Ok r) = AreOwn s.environment.entities → AreOwn r.0.environment.entities
IfOwn s (Err e) = Unit {0}

from_own : {A : Type 0} (s t : State) → (AreOwn s.environment.entities → AreOwn t.environment.entities)
    → (a : Answer (State × A)) → IfOwn t a → IfOwn s a
from_own s t h (Ok r) k = λ own. k (h own)
from_own s t h (Err e) k = tt

then_own : {A B : Type 0} (s : State) (a : Answer (State × A)) (next : A → Typing B) → IfOwn s a
    → ((x : A) (u : State) → IfOwn u (next x u)) → IfOwn s (a >>= λ r. next r.1 r.0)
then_own s (Ok r) next h k = from_own s r.0 h (next r.1 r.0) (k r.1 r.0)
then_own s (Err e) next h k = tt

extending_own : {A : Type 0} (s : State) (p : State → A → Type 0) (a : Answer (State × A)) → Extending false s p a
    → IfOwn s a
extending_own s p (Ok r) h = λ own. subst AreOwn (sym h.0.entities) own
extending_own s p (Err e) h = tt

large_own : (s : State) (d : Designated) (name : Name) (array : TypeWord) (element : List TypeWord) (line : ℕ)
    (large : Bool) → IfOwn s (unless_large s d name array element line large)
large_own s d name array element line true = tt
large_own s d name array element line false = λ own. own_size s.environment d name (array ∷ element) own

sized_own : (s : State) (d : Designated) (name : Name) (array : TypeWord) (element : List TypeWord) (line : ℕ)
    (b : Bool)
    → IfOwn s (if not b then violates Redeclared line
    else unless_large s d name array element line (is_large array))
sized_own s d name array element line false = tt
sized_own s d name array element line true = large_own s d name array element line (is_large array)

completed_own : (s : State) (d : Designated) (name : Name × ℕ) (type : List TypeWord) (n : ℕ)
    → IfOwn s (completed d name type n s)
completed_own s d name (word.OpenArray ∷ element) n =
    sized_own s d name.0 (array_of n (extent_of (extents s) element)) element name.1
    (is_same_object d name.0 (array_of n (extent_of (extents s) element) ∷ element) s.environment)
completed_own s d name [] n = λ own. own
completed_own s d name (word.Void ∷ ws) n = λ own. own
completed_own s d name (word.Integer t ∷ ws) n = λ own. own
completed_own s d name (word.Enumeration k ∷ ws) n = λ own. own
completed_own s d name (word.Pointer ∷ ws) n = λ own. own
completed_own s d name (word.Array c b ∷ ws) n = λ own. own
completed_own s d name (word.Structure k ∷ ws) n = λ own. own
completed_own s d name (word.Const ∷ ws) n = λ own. own
completed_own s d name (word.Takes ∷ ws) n = λ own. own
completed_own s d name (word.Gives ∷ ws) n = λ own. own

initialized_own : (s : State) → IsFormed s → (d : Designated) (name : Name × ℕ) (type : List TypeWord)
    (x : Option Initializer) → is_regular_initializer_if x ≡ true → IfOwn s (initialized_if d name type x s)
initialized_own s formed d name type None c = λ own. own
initialized_own s formed d name type (Some x) c =
    then_own s (initialized x (begun type) s)
    (λ i. completed d name type (count_of i.parts) >>> λ type. done (type, parts_in i.parts))
    (extending_own s anything (initialized x (begun type) s) (initialized_extends x c (begun type) s formed))
    (λ i u. then_own u (completed d name type (count_of i.parts) u) (λ type. done (type, parts_in i.parts))
    (completed_own u d name type (count_of i.parts)) (λ type v own. own))

-- files behind which they do so too, and that have the same initializers where the file before stands in a function

record Stays (f g : File) : Type 0 where
  own : AreOwn f.state.environment.entities → AreOwn g.state.environment.entities
  inner : in_file f.state.environment ≡ false → g.initializers ≡ f.initializers

abbrev IfStays : {A : Type 0} → File → Answer (File × A) → Type 0
IfStays f a = IfFileBehind Stays f a

stays_same : (f : File) → Stays f f
stays_same f = record { own = λ own. own; inner = λ e. refl }

stays_on : (f g h : File) → FileLeads f g → Stays f g → Stays g h → Stays f h
stays_on f g h leads a b = record {
  own = λ own. b.own (a.own own);
  inner = λ e. b.inner (ap is_empty leads.state.outer ∙ e) ∙ a.inner e;
}

from_stays : {A : Type 0} (f g : File) → FileLeads f g → Stays f g → (a : Answer (File × A)) → IfStays g a
    → IfStays f a
from_stays f g leads h (Ok r) k = stays_on f g r.0 leads h k
from_stays f g leads h (Err e) k = tt

state_stays : (f : File) (u : State) → Extends false f.state u → Stays f (record f { state = u })
state_stays f u h = record { own = λ own. subst AreOwn (sym h.entities) own; inner = λ e. refl }

-- what is declared

variable_stays : (n : ℕ) (b : Bool) (f : File) (a : Answer (State × (List TypeWord × List Part))) → IfOwn f.state a
    → IfStays f (a >>= filed f >>= λ r. with_variable n b r.1 r.0)
variable_stays n b f (Ok r) h = record { own = h; inner = λ e. refl }
variable_stays n b f (Err e) h = tt

static_stays : (n : ℕ) (f : File) (a : Answer (State × (List TypeWord × List Part))) → IfOwn f.state a
    → IfStays f (a >>= filed f >>= λ r. with_static n r.1 r.0)
static_stays n f (Ok r) h = record { own = h; inner = λ e. refl }
static_stays n f (Err e) h = tt

parts_stay : (k : ℕ) (b : Bool) (r : List TypeWord × List Part) (f g : File)
    → (AreOwn f.state.environment.entities → AreOwn g.state.environment.entities)
    → g.initializers ≡ f.initializers → (in_file f.state.environment ≡ false → b ≡ false)
    → Stays f (if b then record g { initializers = g.initializers ++ (k, r.1) ∷ [] } else g)
parts_stay k true r f g h same bare = record { own = h; inner = λ e. conflict (sym (bare e)) }
parts_stay k false r f g h same bare = record { own = h; inner = λ e. same }

object_stays : (n : ℕ) (b : Bool) (f : File) → (in_file f.state.environment ≡ false → b ≡ false)
    → (a : Answer (State × (List TypeWord × List Part))) → IfOwn f.state a
    → IfStays f (a >>= filed f >>= λ r. with_parts n b r.1 r.0)
object_stays n b f bare (Ok r) h = parts_stay n b r.1 f (record f { state = r.0 }) h refl bare
object_stays n b f bare (Err e) h = tt

-- an object with linkage that is declared in a block has no initializer
abbrev IsBare : Option Meaning → Option Initializer → File → Type 0
IsBare m x f = (n : ℕ) (type : List TypeWord) → m ≡ Some (meaning.Named (what.Object n) type)
    → in_file f.state.environment ≡ false → is_some x ≡ false

declared_stays : (name : Name × ℕ) (x : Option Initializer) → is_regular_initializer_if x ≡ true
    → (m : Option Meaning) (f : File) → IsFormed f.state → IsBare m x f → IfStays f (declared_with name x m f)
declared_stays name x c (Some (meaning.Named (what.Variable n) type)) f formed bare =
    variable_stays n (is_some x) f (initialized_if (what.Variable n) name type x f.state)
    (initialized_own f.state formed (what.Variable n) name type x c)
declared_stays name x c (Some (meaning.Named (what.Static n) type)) f formed bare =
    static_stays n f (initialized_if (what.Static n) name type x f.state)
    (initialized_own f.state formed (what.Static n) name type x c)
declared_stays name x c (Some (meaning.Named (what.Object n) type)) f formed bare =
    object_stays n (is_some x) f (bare n type refl) (initialized_if (what.Object n) name type x f.state)
    (initialized_own f.state formed (what.Object n) name type x c)
declared_stays name x c None f formed bare = stays_same f
declared_stays name x c (Some (meaning.Typedef type)) f formed bare = stays_same f
declared_stays name x c (Some (meaning.Constant w)) f formed bare = stays_same f
declared_stays name x c (Some (meaning.Named (what.Function n) type)) f formed bare = stays_same f
declared_stays name x c (Some (meaning.Named (what.Library r) type)) f formed bare = stays_same f

-- declarators

bare_by : (env : Environment) (d : Declaration) → IsJudged (surroundings env d) d → (n : ℕ) (type : List TypeWord)
    → bound_meaning env d ≡ meaning.Named (what.Object n) type → in_file env ≡ false → d.has_initializer ≡ false
bare_by env d known n type = by (has_linkage (in_file env) d) refl
  where
    unlinked : (z : Storage) → unlinked_meaning z env d ≡ meaning.Named (what.Object n) type
        → d.has_initializer ≡ false
    unlinked storage.Typedef e = absurd cc
    unlinked storage.Static e = absurd cc
    unlinked storage.Absent e = absurd cc
    unlinked storage.Auto e = absurd cc
    unlinked storage.Register e = absurd cc
    unlinked storage.Extern e = absurd cc

    by : (b : Bool) → has_linkage (in_file env) d ≡ b
        → (if b then linked_meaning env d else unlinked_meaning d.storage env d) ≡ meaning.Named (what.Object n) type
        → in_file env ≡ false → d.has_initializer ≡ false
    by true l e inner =
        none_by d.has_initializer (is_typedef d.storage) (in_file env) (is_function d.type) (is_extern d.storage) inner
        l known.initialized
    by false l e inner = unlinked d.storage e

named_from : (f : File) (d : Declaration) (line : ℕ) (x : Option Initializer) → is_regular_initializer_if x ≡ true
    → d.has_initializer ≡ is_some x → (a : Answer (State × Option Meaning)) → IfDeclared d f.state a
    → IfMade d f.state a → IfStays f (a >>= filed f >>= λ r. declared_with (d.name, line) x r.1 r.0)
named_from f d line x c has (Ok r) h made =
    let g = record f { state = r.0 } in
    let outer = ap is_empty h.0.binds.outer in
    from_stays f g
    (state_leads f r.0 (bound_leads d.name (bound_meaning f.state.environment d) f.state r.0 h.0.binds h.0.formed))
    (record {
      own = λ own.
          subst (λ z. AreOwn z.environment.entities) (sym made.state) (own_declarator f.state.environment d own);
      inner = λ e. refl;
    }) (declared_with (d.name, line) x r.1 g)
    (declared_stays (d.name, line) x c r.1 g h.0.formed
    (λ n type e inner.
    sym has
    ∙ bare_by f.state.environment d (judged_known (surroundings f.state.environment d) d tt made.judged) n type
    (the_same (sym h.1 ∙ e)) (sym outer ∙ inner)))
named_from f d line x c has (Err e) h made = tt

named_stays : (in_head : Bool) (spec : Specification) → is_sized_array spec.type ≡ true → (x : Option Initializer)
    → is_regular_initializer_if x ≡ true → (sh : Shape) → AreCounted sh.derivations → (name : Option (Name × ℕ))
    (f : File) → IsFormed f.state → IfStays f (named_by in_head spec x sh name f)
named_stays in_head spec sized x c sh counted None f formed = stays_same f
named_stays in_head spec sized x c sh counted (Some name) f formed =
    let i = option_map initializer_line x in
    let d = declaration_of spec (built_in f.state spec sh) name i in
    named_from f d name.1 x c (some_mapped initializer_line x) (declared_as in_head spec sh i name f.state)
    (declared_as_declares in_head f.state formed spec sized sh counted i name)
    (placed_made d f.state name spec.line (has_place in_head spec (built_in f.state spec sh).type))

declarations_stay : DeclarationWalk Stays
declarations_stay = record {
  file_same = stays_same;
  file_on = stays_on;
  in_file = state_stays;
  named = named_stays;
}

declaration_stays : (in_head : Bool) (d : t.Declaration) → is_regular_declaration d ≡ true → (f : File)
    → IsFormed f.state → IfStays f (declaration in_head d f)
declaration_stays = declaration_walks Stays declarations_stay

-- blocks

record Kept (f g : File) : Type 0 where
  leads : FileLeads f g
  stays : Stays f g

kept_by : {A : Type 0} (f : File) (a : Answer (File × A)) → Leading f a → IfStays f a → IfFileBehind Kept f a
kept_by f (Ok r) l h = record { leads = l; stays = h }
kept_by f (Err e) l h = tt

kept_walk : Walk (Extends false) Kept
kept_walk = record {
  values = values_walk;
  file_same = λ f formed. record { leads = file_same f formed; stays = stays_same f };
  file_on = λ f g h a b. record {
    leads = file_on f g h a.leads b.leads;
    stays = stays_on f g h a.leads a.stays b.stays;
  };
  file_formed = λ f g h. h.leads.state.formed;
  in_file = λ f t h. record { leads = state_leads f t (leads_by f.state t h); stays = state_stays f t h };
  scope = λ f g formed h. record {
    leads = closed_leads f g formed h.leads;
    stays = record {
      own = h.stays.own;
      inner = λ e.
          h.stays.inner (not_empty f.state.environment.names.outer f.state.environment.names.current);
    };
  };
  declared = λ in_head d c f formed.
      kept_by f (declaration in_head d f) (declaration_leads in_head d c f formed)
      (declaration_stays in_head d c f formed);
}

-- definitions

pub record Leaves (f g : File) : Type 0 where
  pub own : AreOwn f.state.environment.entities → AreOwn g.state.environment.entities
  pub same : g.initializers ≡ f.initializers

abbrev pub IfLeaves : {A : Type 0} → File → Answer (File × A) → Type 0
IfLeaves f a = IfFileBehind Leaves f a

block_leaves : (f g : File) → Leaves f g → in_file g.state.environment ≡ false → (line : ℕ) (type : List TypeWord)
    (ps : List Variable) (a : Answer (File × Statements)) → IfFileBehind Kept g a
    → IfFileBehind Leaves f (a >>= λ r. Ok (left line type ps r, tt {0}))
block_leaves f g h inner line type ps (Ok r) k =
    record { own = λ own. k.stays.own (h.own own); same = k.stays.inner inner ∙ h.same }
block_leaves f g h inner line type ps (Err e) k = tt

leaves_walk : DefinitionWalk Leaves
leaves_walk = record {
  file_same = λ f. record { own = λ own. own; same = refl };
  file_on = λ f g h a b. record { own = λ own. b.own (a.own own); same = b.same ∙ a.same };
  in_file = λ f t h. record { own = λ own. subst AreOwn (sym h.entities) own; same = refl };
  declared = λ f d is. record { own = own_declarator f.state.environment d; same = refl };
  block = λ f formed n p is type line xs c.
      (let begun = entered n type p f in
      let entering = type_extends false type (inside n p f) (inside_formed f formed n p is) in
      block_leaves f begun (record { own = λ own. subst AreOwn (sym entering.entities) own; same = refl })
      (ap is_empty entering.outer ∙ not_empty f.state.environment.names.outer f.state.environment.names.current)
      line type (parameters_in begun.state p.names) (block_items (around_body type) xs begun)
      (items_walk (Extends false) Kept kept_walk (around_body type) xs c begun
      (entered_leads f formed n p is type line).formed));
}

pub definition_leaves : (specs : Specifiers) (d : Declarator) (b : t.Block)
    → is_regular_external (t.definition specs d b) ≡ true → (f : File) → IsFormed f.state
    → IfLeaves f (external (t.definition specs d b) f)
definition_leaves = definition_walks Leaves leaves_walk

-- declarations and definitions of a file

abbrev pub IfFileOwn : {A : Type 0} → File → Answer (File × A) → Type 0
IfFileOwn f (Ok r) = AreOwn f.state.environment.entities → AreOwn r.0.state.environment.entities
IfFileOwn f (Err e) = Unit {0}

declared_own : (f : File) (a : Answer (File × List DeclaredVariable)) → IfStays f a
    → IfFileOwn f (a >>= λ r. Ok (r.0, tt {0}))
declared_own f (Ok r) h = h.own
declared_own f (Err e) h = tt

defined_own : (f : File) (a : Answer (File × Unit {0})) → IfLeaves f a → IfFileOwn f a
defined_own f (Ok r) h = h.own
defined_own f (Err e) h = tt

external_own : (e : t.External) → is_regular_external e ≡ true → (f : File) → IsFormed f.state
    → IfFileOwn f (external e f)
external_own (t.definition specs d b) c f formed =
    defined_own f (external (t.definition specs d b) f) (definition_leaves specs d b c f formed)
external_own (t.declaration d) c f formed =
    declared_own f (declaration false d f) (declaration_stays false d c f formed)

from_own_file : {A : Type 0} (f g : File) → (AreOwn f.state.environment.entities → AreOwn g.state.environment.entities)
    → (a : Answer (File × A)) → IfFileOwn g a → IfFileOwn f a
from_own_file f g h (Ok r) k = λ own. k (h own)
from_own_file f g h (Err e) k = tt

then_own_file : (f : File) (a : Answer (File × Unit {0})) (next : Unit {0} → FileTyping (Unit {0})) → Growing f a
    → IfFileOwn f a → ((x : Unit {0}) (g : File) → IsFormed g.state → IfFileOwn g (next x g))
    → IfFileOwn f (a >>= λ r. next r.1 r.0)
then_own_file f (Ok r) next grows h k = from_own_file f r.0 h (next r.1 r.0) (k r.1 r.0 grows.formed)
then_own_file f (Err e) next grows h k = tt

pub externals_own : (es : List t.External) → are_regular_externals es ≡ true → (f : File) → IsFormed f.state
    → IfFileOwn f (externals es f)
externals_own [] c f formed = λ own. own
externals_own (e ∷ es) c f formed =
    then_own_file f (external e f) (λ done. externals es) (external_grows e (first _ _ c) f formed)
    (external_own e (first _ _ c) f formed) (λ done g h. externals_own es (second _ _ c) g h)

-- where a file begins

own_routines : (rs : List Routine) (env : Environment) → AreOwn env.entities → AreOwn (with_routines rs env).entities
own_routines [] env h = h
own_routines (r ∷ rs) env h =
    own_routines rs (with_routine r env) (own_bound (name_of r) (record {
      what = what.Library (library.Routine r);
      c_type = routine_words r;
      is_defined = true;
      is_tentative = false;
    }) env.entities h)

pub own_start : (facts : Facts) → AreOwn (start facts).entities
unfolding start
own_start facts =
    let env = with_routines routines (empty facts) in
    own_bound (codes "printf")
    (record { what = what.Library library.Printf; c_type = []; is_defined = true; is_tentative = false }) env.entities
    (own_routines routines (empty facts) tt)
