-- Declarations keep objects and functions with linkage.
use Rattle.std.proofs.Common.{◌≡◌, ℕ, Bool, true, false, refl, sym, ap, ◌∙◌, subst, List, [], ◌∷◌, ◌++◌}
use Rattle.std.proofs.Common.{Option, Some, None, if◌then◌else◌}
use Rattle.std.specs.Prelude.{Ok, Err, not, is_some, option_map}
use Rattle.c_syntax.specs.Statements as t
use Rattle.c_syntax.specs.Tree.{Initializer}
use Rattle.c_tree.specs.declared.c_type.TypeWord.{TypeWord}
use Rattle.c_tree.specs.declared.c_type.TypeWord.TheVariants as word
use Rattle.c_tree.specs.Extents.{extent_of}
use Rattle.c_tree.specs.Statements.{Part}
use Rattle.c_faults.specs.declared.fault.Rule.TheVariants.{MisplacedStorage, Redeclared}
use Rattle.c_faults.specs.Answer.{Answer, violates, ◌>>=◌}
use Rattle.c_declarators.specs.Derivations.{array_of, is_large}
use Rattle.c_initializer_rules.specs.Initializing.{begun}
use Rattle.c_initializer_rules.specs.Placed.{count_of, parts_in}
use Rattle.c_scope.specs.declared.meaning.Designated.{Designated}
use Rattle.c_scope.specs.declared.meaning.Designated.TheVariants as what
use Rattle.c_scope.specs.declared.meaning.Meaning.{Meaning}
use Rattle.c_scope.specs.declared.meaning.Meaning.TheVariants as meaning
use Rattle.c_scope.specs.Declaring.{Declaration, judged as judged_declarator}
use Rattle.c_scope.specs.Environment.{surroundings}
use Rattle.c_scope.specs.Names.{Name}
use Rattle.c_declarator_typing.specs.Declarators.{Shape, built_in}
use Rattle.c_declarator_typing.specs.Specifications.{Specification}
use Rattle.c_typing_state.specs.State.{State, Typing, done, extents, ◌>>>◌}
use Rattle.c_unit_typing.specs.Declarations.{completed, declaration, declaration_of, declared_as}
use Rattle.c_unit_typing.specs.Declarations.{declared_with, has_place, initialized_if, is_same_object, named_by}
use Rattle.c_unit_typing.specs.Declarations.{with_parts}
use Rattle.c_unit_typing.specs.Declarations.{with_static, with_variable}
use Rattle.c_unit_typing.specs.Files.{File}
use Rattle.c_unit_typing.specs.Initializers.{initialized}
use Rattle.c_unit_typing.specs.Lines.{initializer_line}
use Rattle.typing_laws.specs.Validity.Sound.{IsFormed, is_sized_array}
use Rattle.typing_laws.specs.Declarators.Extending.{Extending, Extends}
use Rattle.typing_laws.specs.Declarators.Given.{AreCounted, anything}
use Rattle.typing_laws.specs.Declarations.Binding.{IfDeclared}
use Rattle.typing_laws.proofs.Declarations.Judged.{answered, declared_as_declares}
use Rattle.typing_laws.specs.Scopes.Regular.{is_regular_declaration}
use Rattle.typing_laws.specs.Scopes.Regular.{is_regular_initializer_if}
use Rattle.typing_laws.proofs.Scopes.Initializers.{initialized_extends}
use Rattle.typing_laws.proofs.Types.Parameters.{judged_known}
use Rattle.program_laws.specs.Functions.Entities.{Keeps}
use Rattle.program_laws.proofs.Functions.Entities.{declarator_facts, declarator_keeps, keeps_on, keeps_same}
use Rattle.program_laws.proofs.Functions.Entities.{size_facts, size_keeps}
use Rattle.typing_laws.proofs.Scopes.Declaring.{DeclarationWalk, declaration_walks}
use Rattle.typing_laws.proofs.Scopes.Statements.{IfFileBehind}
use Rattle.typing_laws.proofs.Common.{filed, unless_large}

abbrev pub KeepsIn : State → State → Type 0
KeepsIn s t =
    Keeps s.environment.facts.functions s.environment.entities t.environment.entities
    × (t.environment.facts.functions ≡ s.environment.facts.functions)

abbrev pub IfKeeps : {A : Type 0} → State → Answer (State × A) → Type 0
IfKeeps s (Ok r) = KeepsIn s r.0
IfKeeps s (Err e) = Unit {0}

abbrev KeepsFile : File → File → Type 0
KeepsFile f g = KeepsIn f.state g.state

abbrev pub IfKept : {A : Type 0} → File → Answer (File × A) → Type 0
IfKept f a = IfFileBehind KeepsFile f a

pub keeps_in : (s t u : State) → KeepsIn s t → KeepsIn t u → KeepsIn s u
keeps_in s t u h g = (
  keeps_on s.environment.facts.functions s.environment.entities t.environment.entities u.environment.entities h.0
      (subst (λ z. Keeps z t.environment.entities u.environment.entities) h.1 g.0),
  g.1 ∙ h.1,
)

pub same_in : (s : State) → KeepsIn s s
same_in s = (keeps_same s.environment.facts.functions s.environment.entities, refl)

pub extends_keeps : (s t : State) → Extends false s t → KeepsIn s t
extends_keeps s t h = (
  subst (Keeps s.environment.facts.functions s.environment.entities) (sym h.entities) (same_in s).0,
  ap (λ z. z.functions) h.facts,
)

from_kept : {A : Type 0} (s t : State) → KeepsIn s t → (a : Answer (State × A)) → IfKeeps t a → IfKeeps s a
from_kept s t h (Ok r) is = keeps_in s t r.0 h is
from_kept s t h (Err e) is = tt

then_kept : {A B : Type 0} (s : State) (a : Answer (State × A)) (next : A → Typing B) → IfKeeps s a
    → ((x : A) (u : State) → IfKeeps u (next x u)) → IfKeeps s (a >>= λ r. next r.1 r.0)
then_kept s (Ok r) next h g = from_kept s r.0 h (next r.1 r.0) (g r.1 r.0)
then_kept s (Err e) next h g = tt

extending_kept : {A : Type 0} (s : State) (p : State → A → Type 0) (a : Answer (State × A)) → Extending false s p a
    → IfKeeps s a
extending_kept s p (Ok r) is = extends_keeps s r.0 is.0
extending_kept s p (Err e) is = tt

from_file : {A : Type 0} (f g : File) → KeepsIn f.state g.state → (a : Answer (File × A)) → IfKept g a → IfKept f a
from_file f g h (Ok r) is = keeps_in f.state g.state r.0.state h is
from_file f g h (Err e) is = tt

-- an object gets its size

large_by : (s : State) (d : Designated) (name : Name) (array : TypeWord) (element : List TypeWord) (line : ℕ)
    → is_same_object d name (array ∷ element) s.environment ≡ true → (large : Bool)
    → IfKeeps s (unless_large s d name array element line large)
large_by s d name array element line same true = tt
large_by s d name array element line same false = (
  size_keeps s.environment d name (array ∷ element) same,
  ap (λ z. z.functions) (size_facts s.environment d name (array ∷ element)),
)

sized_by : (s : State) (d : Designated) (name : Name) (array : TypeWord) (element : List TypeWord) (line : ℕ) (b : Bool)
    → is_same_object d name (array ∷ element) s.environment ≡ b
    → IfKeeps s (if not b then violates Redeclared line
    else unless_large s d name array element line (is_large array))
sized_by s d name array element line false e = tt
sized_by s d name array element line true e = large_by s d name array element line e (is_large array)

completed_kept : (s : State) (d : Designated) (name : Name × ℕ) (type : List TypeWord) (n : ℕ)
    → IfKeeps s (completed d name type n s)
completed_kept s d name (word.OpenArray ∷ element) n =
    sized_by s d name.0 (array_of n (extent_of (extents s) element)) element name.1
    (is_same_object d name.0 (array_of n (extent_of (extents s) element) ∷ element) s.environment) refl
completed_kept s d name [] n = same_in s
completed_kept s d name (word.Void ∷ ws) n = same_in s
completed_kept s d name (word.Integer t ∷ ws) n = same_in s
completed_kept s d name (word.Enumeration k ∷ ws) n = same_in s
completed_kept s d name (word.Pointer ∷ ws) n = same_in s
completed_kept s d name (word.Array c b ∷ ws) n = same_in s
completed_kept s d name (word.Structure k ∷ ws) n = same_in s
completed_kept s d name (word.Const ∷ ws) n = same_in s
completed_kept s d name (word.Takes ∷ ws) n = same_in s
completed_kept s d name (word.Gives ∷ ws) n = same_in s

initialized_kept : (s : State) → IsFormed s → (d : Designated) (name : Name × ℕ) (type : List TypeWord)
    (x : Option Initializer) → is_regular_initializer_if x ≡ true → IfKeeps s (initialized_if d name type x s)
initialized_kept s formed d name type None c = same_in s
initialized_kept s formed d name type (Some x) c =
    then_kept s (initialized x (begun type) s)
    (λ i. completed d name type (count_of i.parts) >>> λ type. done (type, parts_in i.parts))
    (extending_kept s anything (initialized x (begun type) s) (initialized_extends x c (begun type) s formed))
    (λ i u. then_kept u (completed d name type (count_of i.parts) u) (λ type. done (type, parts_in i.parts))
    (completed_kept u d name type (count_of i.parts)) (λ type v. same_in v))

-- what is declared

variable_kept : (n : ℕ) (b : Bool) (f : File) (a : Answer (State × (List TypeWord × List Part))) → IfKeeps f.state a
    → IfKept f (a >>= filed f >>= λ r. with_variable n b r.1 r.0)
variable_kept n b f (Ok r) h = h
variable_kept n b f (Err e) h = tt

static_kept : (n : ℕ) (f : File) (a : Answer (State × (List TypeWord × List Part))) → IfKeeps f.state a
    → IfKept f (a >>= filed f >>= λ r. with_static n r.1 r.0)
static_kept n f (Ok r) h = h
static_kept n f (Err e) h = tt

parts_if : (k : ℕ) (b : Bool) (r : List TypeWord × List Part) (f g : File) → KeepsIn f.state g.state
    → KeepsIn f.state (if b then record g { initializers = g.initializers ++ (k, r.1) ∷ [] } else g).state
parts_if k true r f g h = h
parts_if k false r f g h = h

object_kept : (n : ℕ) (b : Bool) (f : File) (a : Answer (State × (List TypeWord × List Part))) → IfKeeps f.state a
    → IfKept f (a >>= filed f >>= λ r. with_parts n b r.1 r.0)
object_kept n b f (Ok r) h = parts_if n b r.1 f (record f { state = r.0 }) h
object_kept n b f (Err e) h = tt

declared_kept : (name : Name × ℕ) (x : Option Initializer) → is_regular_initializer_if x ≡ true
    → (m : Option Meaning) (f : File) → IsFormed f.state → IfKept f (declared_with name x m f)
declared_kept name x c (Some (meaning.Named (what.Variable n) type)) f formed =
    variable_kept n (is_some x) f (initialized_if (what.Variable n) name type x f.state)
    (initialized_kept f.state formed (what.Variable n) name type x c)
declared_kept name x c (Some (meaning.Named (what.Static n) type)) f formed =
    static_kept n f (initialized_if (what.Static n) name type x f.state)
    (initialized_kept f.state formed (what.Static n) name type x c)
declared_kept name x c (Some (meaning.Named (what.Object n) type)) f formed =
    object_kept n (is_some x) f (initialized_if (what.Object n) name type x f.state)
    (initialized_kept f.state formed (what.Object n) name type x c)
declared_kept name x c None f formed = same_in f.state
declared_kept name x c (Some (meaning.Typedef type)) f formed = same_in f.state
declared_kept name x c (Some (meaning.Constant w)) f formed = same_in f.state
declared_kept name x c (Some (meaning.Named (what.Function n) type)) f formed = same_in f.state
declared_kept name x c (Some (meaning.Named (what.Library r) type)) f formed = same_in f.state

-- declarators

answered_kept : (s : State) (d : Declaration) → d.has_body ≡ false → (name : Name × ℕ) (a : Answer (Unit {0}))
    → judged_declarator (surroundings s.environment d) d ≡ a → IfKeeps s (answered d s name a)
answered_kept s d bodiless name (Ok x) e = (
  declarator_keeps s.environment d (judged_known (surroundings s.environment d) d x e) bodiless,
  ap (λ z. z.functions) (declarator_facts s.environment d),
)
answered_kept s d bodiless name (Err f) e = tt

placed_kept : (s : State) (d : Declaration) → d.has_body ≡ false → (name : Name × ℕ) (line : ℕ) (b : Bool)
    → IfKeeps s (if b then answered d s name (judged_declarator (surroundings s.environment d) d)
    else violates MisplacedStorage line)
placed_kept s d bodiless name line true =
    answered_kept s d bodiless name (judged_declarator (surroundings s.environment d) d) refl
placed_kept s d bodiless name line false = tt

named_then : (name : Name × ℕ) (x : Option Initializer) → is_regular_initializer_if x ≡ true → (f : File)
    (d : Declaration) (a : Answer (State × Option Meaning)) → IfDeclared d f.state a → IfKeeps f.state a
    → IfKept f (a >>= filed f >>= λ r. declared_with name x r.1 r.0)
named_then name x c f d (Ok r) is h =
    let g = record f { state = r.0 } in
    from_file f g h (declared_with name x r.1 g) (declared_kept name x c r.1 g is.0.formed)
named_then name x c f d (Err e) is h = tt

named_kept : (in_head : Bool) (spec : Specification) → is_sized_array spec.type ≡ true → (x : Option Initializer)
    → is_regular_initializer_if x ≡ true → (sh : Shape) → AreCounted sh.derivations → (name : Option (Name × ℕ))
    (f : File) → IsFormed f.state → IfKept f (named_by in_head spec x sh name f)
named_kept in_head spec sized x c sh counted None f formed = same_in f.state
named_kept in_head spec sized x c sh counted (Some name) f formed =
    let d = declaration_of spec (built_in f.state spec sh) name (option_map initializer_line x) in
    named_then name x c f d (declared_as in_head spec sh (option_map initializer_line x) name f.state)
    (declared_as_declares in_head f.state formed spec sized sh counted (option_map initializer_line x) name)
    (placed_kept f.state d refl name spec.line (has_place in_head spec (built_in f.state spec sh).type))

declarations_kept : DeclarationWalk KeepsFile
declarations_kept = record {
  file_same = λ f. same_in f.state;
  file_on = λ f g h leads. keeps_in f.state g.state h.state;
  in_file = λ f t h. extends_keeps f.state t h;
  named = named_kept;
}

pub declaration_kept : (in_head : Bool) (d : t.Declaration) → is_regular_declaration d ≡ true → (f : File)
    → IsFormed f.state → IfKept f (declaration in_head d f)
declaration_kept = declaration_walks KeepsFile declarations_kept
