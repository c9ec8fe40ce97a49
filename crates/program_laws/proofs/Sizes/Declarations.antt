-- Declarations leave an object with linkage among those that the file defines, or of a type that is complete at the end
-- (C99 6.7, 6.9.2).
use Rattle.std.proofs.Common.{◌≡◌, ℕ, Bool, true, false, refl, subst, List, [], ◌∷◌, ◌++◌, Option, Some, None}
use Rattle.std.proofs.Common.{if◌then◌else◌}
use Rattle.std.specs.Prelude.{Ok, Err, is_none, is_some, not, option_map}
use Rattle.std.specs.List.{list_all}
use Rattle.c_syntax.specs.declared.position.Position.{Position}
use Rattle.c_syntax.specs.Statements as t
use Rattle.c_syntax.specs.Tree.{Initializer}
use Rattle.c_tree.specs.declared.c_type.TypeWord.{TypeWord}
use Rattle.c_tree.specs.declared.c_type.TypeWord.TheVariants as word
use Rattle.c_tree.specs.Extents.{extent_of}
use Rattle.c_tree.specs.Statements.{DeclaredVariable, Part}
use Rattle.c_faults.specs.declared.fault.Rule.TheVariants.{MisplacedStorage, Redeclared}
use Rattle.c_faults.specs.Answer.{Answer, violates, ◌>>=◌}
use Rattle.c_declarators.specs.Derivations.{array_of, is_large}
use Rattle.c_initializer_rules.specs.Initializing.{Initializing, begun}
use Rattle.c_initializer_rules.specs.Placed.{count_of, parts_in}
use Rattle.c_scope.specs.declared.meaning.Designated.{Designated}
use Rattle.c_scope.specs.declared.meaning.Designated.TheVariants as what
use Rattle.c_scope.specs.declared.meaning.Meaning.{Meaning}
use Rattle.c_scope.specs.declared.meaning.Meaning.TheVariants as meaning
use Rattle.c_scope.specs.Declaring.{Declaration, judged as judged_declarator}
use Rattle.c_scope.specs.Environment.{surroundings}
use Rattle.c_scope.specs.Names.{Name}
use Rattle.c_declarator_typing.specs.Declarators.{Shape, built_in}
use Rattle.c_declarator_typing.specs.Specifications.{Specification}
use Rattle.c_typing_state.specs.State.{State, extents}
use Rattle.c_expression_typing.specs.Typed.{shape}
use Rattle.c_unit_typing.specs.Declarations.{alone_in, completed, declaration, declaration_of, declared_as}
use Rattle.c_unit_typing.specs.Declarations.{declared_with, has_place, initialized_if, is_same_object, named_by}
use Rattle.c_unit_typing.specs.Declarations.{specified, with_declarator, with_declarators, with_others}
use Rattle.c_unit_typing.specs.Declarations.{with_parts, with_static, with_variable}
use Rattle.c_unit_typing.specs.Files.{File, FileTyping}
use Rattle.c_unit_typing.specs.Initializers.{initialized}
use Rattle.c_unit_typing.specs.Lines.{initializer_line}
use Rattle.typing_laws.specs.Validity.Sound.{IsFormed, is_sized_array}
use Rattle.typing_laws.proofs.Validity.Common.{first, second}
use Rattle.typing_laws.specs.Declarators.Extending.{Extending}
use Rattle.typing_laws.specs.Declarators.Given.{AreCounted, IsShapeOf, IsSpecified, anything}
use Rattle.typing_laws.proofs.Declarators.Recursion.{shape_extends}
use Rattle.typing_laws.proofs.Declarations.Judged.{IsBuilt, answered, built_declaration}
use Rattle.typing_laws.specs.Layouts.Listed.{HasArrays, IfLaidOut, IsDeclared, IsLaidOut}
use Rattle.typing_laws.proofs.Layouts.Arrays.{arrays_kept}
use Rattle.typing_laws.proofs.Layouts.Declared.{declared_as_laid}
use Rattle.typing_laws.proofs.Layouts.Recursion.{shape_laid}
use Rattle.typing_laws.proofs.LaidOut.Chained.{StateLaid, both_laid}
use Rattle.typing_laws.proofs.LaidOut.Declarations.{specified_laid}
use Rattle.typing_laws.specs.Initializers.Initialized.{IfInitialized}
use Rattle.typing_laws.proofs.Initializers.Initialized.{initialized_if_is}
use Rattle.typing_laws.specs.Scopes.Leaving.{FileLeads, Leads}
use Rattle.typing_laws.specs.Scopes.Regular.{are_regular_declarators, initializer_of, is_regular_declaration}
use Rattle.typing_laws.specs.Scopes.Regular.{is_regular_initializer_if, is_regular_object}
use Rattle.typing_laws.proofs.Scopes.Declarations.{StateLeads, declares_leads, initialized_leads, parts_by}
use Rattle.typing_laws.proofs.Scopes.Declarations.{specified_extends, static_leads, variable_leads}
use Rattle.typing_laws.proofs.Scopes.Initializers.{IfBehind, initialized_walks}
use Rattle.typing_laws.proofs.Scopes.Leading.{file_on, file_same, leads_by, leads_same, state_leads}
use Rattle.typing_laws.proofs.Types.Parameters.{judged_known}
use Rattle.program_laws.proofs.Sizes.Bodies.{Reaches, reaching_walk}
use Rattle.program_laws.proofs.Sizes.Steps.{Steps, declarator_steps, reached_steps, size_steps, steps_on}
use Rattle.program_laws.proofs.Sizes.Steps.{steps_same}
use Rattle.program_laws.proofs.Tags.Keeping.{KeepsTags}
use Rattle.program_laws.proofs.Tags.Walked.{tags_walk}
use Rattle.typing_laws.proofs.Walks.Declarations.{stored_walks}
use Rattle.typing_laws.proofs.Walks.Recursion.{shape_walks}
use Rattle.typing_laws.proofs.Common.{filed, some_mapped, some_scope, unless_large}

-- states and files behind one another

abbrev pub IfSteps : {A : Type 0} → State → Answer (State × A) → Type 0
IfSteps s (Ok r) = Steps s.environment r.0.environment
IfSteps s (Err e) = Unit {0}

pub record FileSteps (f g : File) : Type 0 where
  pub leads : FileLeads f g
  pub laid : IsLaidOut g.state
  pub steps : Steps f.state.environment g.state.environment

abbrev pub IfFileSteps : {A : Type 0} → File → Answer (File × A) → Type 0
IfFileSteps f (Ok r) = FileSteps f r.0
IfFileSteps f (Err e) = Unit {0}

pub file_steps_same : (f : File) → IsFormed f.state → IsLaidOut f.state → FileSteps f f
file_steps_same f formed laid =
    record { leads = file_same f formed; laid = laid; steps = steps_same f.state.environment }

pub file_steps_on : (f g h : File) → FileSteps f g → FileSteps g h → FileSteps f h
file_steps_on f g h a b = record {
  leads = file_on f g h a.leads b.leads;
  laid = b.laid;
  steps = steps_on f.state.environment g.state.environment h.state.environment a.steps b.steps;
}

pub from_file : {A : Type 0} (f g : File) → FileSteps f g → (a : Answer (File × A)) → IfFileSteps g a
    → IfFileSteps f a
from_file f g h (Ok r) is = file_steps_on f g r.0 h is
from_file f g h (Err e) is = tt

pub then_file : {A B : Type 0} (f : File) (a : Answer (File × A)) (next : A → FileTyping B) → IfFileSteps f a
    → ((x : A) (g : File) → FileSteps f g → IfFileSteps g (next x g)) → IfFileSteps f (a >>= λ r. next r.1 r.0)
then_file f (Ok r) next h k = from_file f r.0 h (next r.1 r.0) (k r.1 r.0 h)
then_file f (Err e) next h k = tt

-- what is typed in the state of expressions and declarators
pub state_steps : (f : File) (t : State) → Reaches f.state t → IsLaidOut f.state
    → FileSteps f (record f { state = t })
state_steps f t h laid = record {
  leads = state_leads f t (leads_by f.state t h.extends);
  laid = h.laid laid;
  steps = reached_steps f.state t h;
}

pub state_then : {A B : Type 0} (p q : State → A → Type 0) (f : File) (a : Answer (State × A)) (next : A → FileTyping B)
    → IsLaidOut f.state → Extending false f.state p a → StateLaid q f.state a → IfBehind KeepsTags f.state a
    → ((x : A) (g : File) → FileSteps f g → p g.state x → q g.state x → IfFileSteps g (next x g))
    → IfFileSteps f (a >>= filed f >>= λ r. next r.1 r.0)
state_then p q f (Ok r) next laid h l b k =
    let g = record f { state = r.0 } in
    let own = state_steps f r.0 (record { extends = h.0; tags = b; laid = λ x. l.1 }) laid in
    from_file f g own (next r.1 g) (k r.1 g own h.1 l.2)
state_then p q f (Err e) next laid h l b k = tt

-- an object with its initializer

from_steps : {A : Type 0} (s t : State) → Steps s.environment t.environment → (a : Answer (State × A)) → IfSteps t a
    → IfSteps s a
from_steps s t h (Ok r) is = steps_on s.environment t.environment r.0.environment h is
from_steps s t h (Err e) is = tt

abbrev typed_as : List Part → State × List TypeWord → Answer (State × (List TypeWord × List Part))
typed_as parts q = Ok (q.0, (q.1, parts))

module _ (s : State) (d : Designated) (name : Name × ℕ) (parts : List Part) where
  large_by : (t : State) (array : TypeWord) (element : List TypeWord)
      → is_same_object d name.0 (array ∷ element) t.environment ≡ true → (large : Bool)
      → IfInitialized some_scope [] d name.0 s (unless_large t d name.0 array element name.1 large >>= typed_as parts)
      → IfSteps t (unless_large t d name.0 array element name.1 large >>= typed_as parts)
  large_by t array element same true is = tt
  large_by t array element same false is = size_steps t d name.0 (array ∷ element) is.sizes.sized same

  sized_by : (t : State) (array : TypeWord) (element : List TypeWord) (b : Bool)
      → is_same_object d name.0 (array ∷ element) t.environment ≡ b
      → IfInitialized some_scope [] d name.0 s
      ((if not b then violates Redeclared name.1
      else unless_large t d name.0 array element name.1 (is_large array)) >>= typed_as parts)
      → IfSteps t
      ((if not b then violates Redeclared name.1
      else unless_large t d name.0 array element name.1 (is_large array)) >>= typed_as parts)
  sized_by t array element false e is = tt
  sized_by t array element true e is = large_by t array element e (is_large array) is

  completed_steps : (t : State) (type : List TypeWord) (n : ℕ)
      → IfInitialized some_scope [] d name.0 s (completed d name type n t >>= typed_as parts)
      → IfSteps t (completed d name type n t >>= typed_as parts)
  completed_steps t (word.OpenArray ∷ element) n is =
      sized_by t (array_of n (extent_of (extents t) element)) element
      (is_same_object d name.0 (array_of n (extent_of (extents t) element) ∷ element) t.environment) refl is
  completed_steps t [] n is = steps_same t.environment
  completed_steps t (word.Void ∷ ws) n is = steps_same t.environment
  completed_steps t (word.Integer i ∷ ws) n is = steps_same t.environment
  completed_steps t (word.Enumeration k ∷ ws) n is = steps_same t.environment
  completed_steps t (word.Pointer ∷ ws) n is = steps_same t.environment
  completed_steps t (word.Array c b ∷ ws) n is = steps_same t.environment
  completed_steps t (word.Structure k ∷ ws) n is = steps_same t.environment
  completed_steps t (word.Const ∷ ws) n is = steps_same t.environment
  completed_steps t (word.Takes ∷ ws) n is = steps_same t.environment
  completed_steps t (word.Gives ∷ ws) n is = steps_same t.environment

initialized_by_steps : (s : State) (d : Designated) (name : Name × ℕ) (type : List TypeWord)
    (a : Answer (State × Initializing)) → IfBehind Reaches s a
    → IfInitialized some_scope [] d name.0 s
    (a >>= λ r. (completed d name type (count_of r.1.parts) r.0 >>= typed_as (parts_in r.1.parts)))
    → IfSteps s (a >>= λ r. (completed d name type (count_of r.1.parts) r.0 >>= typed_as (parts_in r.1.parts)))
initialized_by_steps s d name type (Ok r) h is =
    from_steps s r.0 (reached_steps s r.0 h)
    (completed d name type (count_of r.1.parts) r.0 >>= typed_as (parts_in r.1.parts))
    (completed_steps s d name (parts_in r.1.parts) r.0 type (count_of r.1.parts) is)
initialized_by_steps s d name type (Err e) h is = tt

record ObjectSteps (s behind : State) : Type 0 where
  leads : Leads s behind
  laid : IsLaidOut behind
  steps : Steps s.environment behind.environment

abbrev IfObjectSteps : {A : Type 0} → State → Answer (State × A) → Type 0
IfObjectSteps s (Ok r) = ObjectSteps s r.0
IfObjectSteps s (Err e) = Unit {0}

all_steps : (s : State) (d : Designated) (name : Name) (a : Answer (State × (List TypeWord × List Part)))
    → StateLeads s a → IfInitialized some_scope [] d name s a → IfSteps s a → IfObjectSteps s a
all_steps s d name (Ok r) h is k = record { leads = h; laid = is.laid_out; steps = k }
all_steps s d name (Err e) h is k = tt

if_steps : (s : State) → IsFormed s → (d : Designated) (name : Name × ℕ) (type : List TypeWord)
    (x : Option Initializer) → is_regular_initializer_if x ≡ true
    → IfInitialized some_scope [] d name.0 s (initialized_if d name type x s)
    → IfSteps s (initialized_if d name type x s)
if_steps s formed d name type None c is = steps_same s.environment
if_steps s formed d name type (Some x) c is =
    initialized_by_steps s d name type (initialized x (begun type) s)
    (initialized_walks Reaches reaching_walk x c (begun type) s formed) is

is_initialized : (s : State) → IsFormed s → IsLaidOut s → (d : Designated) (name : Name × ℕ) (type : List TypeWord)
    (x : Option Initializer) → is_regular_initializer_if x ≡ true
    → IsDeclared (is_some x) s (Some (meaning.Named d type)) → IfObjectSteps s (initialized_if d name type x s)
is_initialized s formed laid d name type None c is =
    record { leads = leads_same s formed; laid = laid; steps = steps_same s.environment }
is_initialized s formed laid d name type (Some x) c is =
    let known = initialized_if_is some_scope [] d name type (Some x) c s formed laid is.complete is.arrays in
    all_steps s d name.0 (initialized_if d name type (Some x) s)
    (initialized_leads s formed d name type (Some x) c) known
    (if_steps s formed d name type (Some x) c known)

-- what is declared

variable_steps : (n : ℕ) (b : Bool) (f : File) (a : Answer (State × (List TypeWord × List Part)))
    → IfObjectSteps f.state a → IfFileSteps f (a >>= filed f >>= λ r. with_variable n b r.1 r.0)
variable_steps n b f (Ok r) h =
    let g = record f { state = r.0 } in
    record {
      leads = file_on f g _ (state_leads f r.0 h.leads) (variable_leads n b r.1 g h.leads.formed);
      laid = h.laid;
      steps = h.steps;
    }
variable_steps n b f (Err e) h = tt

static_steps : (n : ℕ) (f : File) (a : Answer (State × (List TypeWord × List Part))) → IfObjectSteps f.state a
    → IfFileSteps f (a >>= filed f >>= λ r. with_static n r.1 r.0)
static_steps n f (Ok r) h =
    let g = record f { state = r.0 } in
    record {
      leads = file_on f g _ (state_leads f r.0 h.leads) (static_leads n r.1 g h.leads.formed);
      laid = h.laid;
      steps = h.steps;
    }
static_steps n f (Err e) h = tt

parts_if : (n : ℕ) (b : Bool) (r : List TypeWord × List Part) (f g : File) → FileLeads f g → IsLaidOut g.state
    → Steps f.state.environment g.state.environment
    → FileSteps f (if b then record g { initializers = g.initializers ++ (n, r.1) ∷ [] } else g)
parts_if n true r f g h laid k =
    record { leads = file_on f g _ h (parts_by n true r g h.state.formed); laid = laid; steps = k }
parts_if n false r f g h laid k = record { leads = h; laid = laid; steps = k }

object_steps : (n : ℕ) (b : Bool) (f : File) (a : Answer (State × (List TypeWord × List Part)))
    → IfObjectSteps f.state a → IfFileSteps f (a >>= filed f >>= λ r. with_parts n b r.1 r.0)
object_steps n b f (Ok r) h =
    parts_if n b r.1 f (record f { state = r.0 }) (state_leads f r.0 h.leads) h.laid h.steps
object_steps n b f (Err e) h = tt

pub declared_steps : (name : Name × ℕ) (x : Option Initializer) → is_regular_initializer_if x ≡ true
    → (m : Option Meaning) (f : File) → IsFormed f.state → IsLaidOut f.state → IsDeclared (is_some x) f.state m
    → IfFileSteps f (declared_with name x m f)
declared_steps name x c None f formed laid is = file_steps_same f formed laid
declared_steps name x c (Some (meaning.Typedef type)) f formed laid is = file_steps_same f formed laid
declared_steps name x c (Some (meaning.Constant w)) f formed laid is = file_steps_same f formed laid
declared_steps name x c (Some (meaning.Named (what.Variable n) type)) f formed laid is =
    variable_steps n (is_some x) f (initialized_if (what.Variable n) name type x f.state)
    (is_initialized f.state formed laid (what.Variable n) name type x c is)
declared_steps name x c (Some (meaning.Named (what.Static n) type)) f formed laid is =
    static_steps n f (initialized_if (what.Static n) name type x f.state)
    (is_initialized f.state formed laid (what.Static n) name type x c is)
declared_steps name x c (Some (meaning.Named (what.Object n) type)) f formed laid is =
    object_steps n (is_some x) f (initialized_if (what.Object n) name type x f.state)
    (is_initialized f.state formed laid (what.Object n) name type x c is)
declared_steps name x c (Some (meaning.Named (what.Function n) type)) f formed laid is = file_steps_same f formed laid
declared_steps name x c (Some (meaning.Named (what.Library r) type)) f formed laid is = file_steps_same f formed laid

-- declarators

pub answered_steps : (s : State) (d : Declaration) → IsBuilt d → (name : Name × ℕ) (a : Answer (Unit {0}))
    → judged_declarator (surroundings s.environment d) d ≡ a → IfSteps s (answered d s name a)
answered_steps s d built name (Ok x) e =
    let known = judged_known (surroundings s.environment d) d x e in
    declarator_steps s d known (built.sized known.faultless) (built.placed known.faultless)
answered_steps s d built name (Err f) e = tt

placed_steps : (s : State) (d : Declaration) → IsBuilt d → (name : Name × ℕ) (line : ℕ) (b : Bool)
    → IfSteps s (if b then answered d s name (judged_declarator (surroundings s.environment d) d)
    else violates MisplacedStorage line)
placed_steps s d built name line true =
    answered_steps s d built name (judged_declarator (surroundings s.environment d) d) refl
placed_steps s d built name line false = tt

pub declared_as_steps : (in_head : Bool) (s : State) → IsFormed s → (spec : Specification)
    → is_sized_array spec.type ≡ true → (sh : Shape) → AreCounted sh.derivations → (initializer : Option ℕ)
    (name : Name × ℕ) → IfSteps s (declared_as in_head spec sh initializer name s)
declared_as_steps in_head s formed spec sized sh counted initializer name =
    placed_steps s (declaration_of spec (built_in s spec sh) name initializer)
    (built_declaration s formed spec sized sh counted name initializer) name spec.line
    (has_place in_head spec (built_in s spec sh).type)

-- a name that is declared, and what follows it
pub named_then : {A : Type 0} (b : Bool) (f : File) (a : Answer (State × Option Meaning))
    (next : Option Meaning → FileTyping A) → StateLeads f.state a → IfLaidOut (IsDeclared b) a → IfSteps f.state a
    → ((m : Option Meaning) (g : File) → FileSteps f g → IsDeclared b g.state m → IfFileSteps g (next m g))
    → IfFileSteps f (a >>= filed f >>= λ r. next r.1 r.0)
named_then b f (Ok r) next h is k go =
    let g = record f { state = r.0 } in
    let own : FileSteps f g = record { leads = state_leads f r.0 h; laid = is.0; steps = k } in
    from_file f g own (next r.1 g) (go r.1 g own is.1)
named_then b f (Err e) next h is k go = tt

pub named_steps : (in_head : Bool) (spec : Specification) → is_sized_array spec.type ≡ true → (x : Option Initializer)
    → is_regular_initializer_if x ≡ true → (sh : Shape) → AreCounted sh.derivations → (name : Option (Name × ℕ))
    (f : File) → IsFormed f.state → IsLaidOut f.state → HasArrays f.state spec
    → IfFileSteps f (named_by in_head spec x sh name f)
named_steps in_head spec sized x c sh counted None f formed laid arrays = file_steps_same f formed laid
named_steps in_head spec sized x c sh counted (Some name) f formed laid arrays =
    let initializer = option_map initializer_line x in
    named_then (is_some initializer) f (declared_as in_head spec sh initializer name f.state) (declared_with name x)
    (declares_leads in_head spec sized sh counted initializer name f.state formed)
    (declared_as_laid in_head f.state formed laid spec sized arrays sh counted initializer name)
    (declared_as_steps in_head f.state formed spec sized sh counted initializer name)
    (λ m g own is. declared_steps name x c m g own.leads.state.formed own.laid
    (subst (λ b. IsDeclared b g.state m) (some_mapped initializer_line x) is))

pub spec_kept : (spec : Specification) (f g : File) → FileSteps f g → HasArrays f.state spec → HasArrays g.state spec
spec_kept spec f g h is = arrays_kept (extents f.state) (extents g.state) h.leads.state.more spec.type is

pub declarator_file_steps : (in_head : Bool) (spec : Specification) → is_sized_array spec.type ≡ true
    → (d : t.InitDeclarator) → is_regular_object d (initializer_of d) ≡ true → (f : File) → IsFormed f.state
    → IsLaidOut f.state → HasArrays f.state spec → IfFileSteps f (with_declarator in_head spec d f)
declarator_file_steps in_head spec sized d c f formed laid arrays =
    let extends = shape_extends false d.declarator (first _ _ c) f.state formed in
    state_then (λ u sh. IsShapeOf u d.declarator sh) anything f (shape false d.declarator f.state)
    (λ sh. named_by in_head spec (initializer_of d) sh sh.name) laid extends
    (both_laid (λ u sh. IsShapeOf u d.declarator sh) anything f.state (shape false d.declarator f.state) laid extends
    (shape_laid false d.declarator (first _ _ c) f.state formed laid))
    (shape_walks tags_walk false d.declarator f.state).by
    (λ sh g own is x. named_steps in_head spec sized (initializer_of d) (second _ _ c) sh is.counted sh.name g
    own.leads.state.formed own.laid (spec_kept spec f g own arrays))

others_steps : (in_head : Bool) (spec : Specification) → is_sized_array spec.type ≡ true
    → (ds : List (Position × t.InitDeclarator)) → list_all (λ d. is_regular_object d.1 (initializer_of d.1)) ds ≡ true
    → (vs : List DeclaredVariable) (f : File) → IsFormed f.state → IsLaidOut f.state → HasArrays f.state spec
    → IfFileSteps f (with_others in_head spec ds vs f)
others_steps in_head spec sized [] c vs f formed laid arrays = file_steps_same f formed laid
others_steps in_head spec sized (d ∷ ds) c vs f formed laid arrays =
    then_file f (with_declarator in_head spec d.1 f) (λ us. with_others in_head spec ds (vs ++ us))
    (declarator_file_steps in_head spec sized d.1 (first _ _ c) f formed laid arrays)
    (λ us g own. others_steps in_head spec sized ds (second _ _ c) (vs ++ us) g own.leads.state.formed own.laid
    (spec_kept spec f g own arrays))

alone_steps : (f : File) → IsFormed f.state → IsLaidOut f.state → (a : Answer (List DeclaredVariable))
    → IfFileSteps f (a >>= (λ x. Ok (f.state, x)) >>= filed f)
alone_steps f formed laid (Ok x) = file_steps_same f formed laid
alone_steps f formed laid (Err e) = tt

pub declarators_steps : (in_head : Bool) (spec : Specification) → is_sized_array spec.type ≡ true
    → (ds : Option t.InitDeclarators) → are_regular_declarators ds ≡ true → (f : File) → IsFormed f.state
    → IsLaidOut f.state → HasArrays f.state spec → IfFileSteps f (with_declarators in_head spec ds f)
declarators_steps in_head spec sized None c f formed laid arrays =
    alone_steps f formed laid (alone_in in_head spec f.state)
declarators_steps in_head spec sized (Some ds) c f formed laid arrays =
    then_file f (with_declarator in_head spec ds.first f) (λ vs. with_others in_head spec ds.others vs)
    (declarator_file_steps in_head spec sized ds.first (first _ _ c) f formed laid arrays)
    (λ vs g own. others_steps in_head spec sized ds.others (second _ _ c) vs g own.leads.state.formed own.laid
    (spec_kept spec f g own arrays))

pub declaration_steps : (in_head : Bool) (d : t.Declaration) → is_regular_declaration d ≡ true → (f : File)
    → IsFormed f.state → IsLaidOut f.state → IfFileSteps f (declaration in_head d f)
declaration_steps in_head d c f formed laid =
    let extends = specified_extends (is_none d.declarators) d c f.state formed in
    state_then IsSpecified HasArrays f (specified (is_none d.declarators) d f.state)
    (λ spec. with_declarators in_head spec d.declarators) laid extends
    (both_laid IsSpecified HasArrays f.state (specified (is_none d.declarators) d f.state) laid extends
    (specified_laid (is_none d.declarators) d c f.state formed laid))
    (stored_walks tags_walk (is_none d.declarators) d.specifiers f.state).by
    (λ spec g own is arrays. declarators_steps in_head spec is d.declarators (second _ _ c) g own.leads.state.formed
    own.laid arrays)
