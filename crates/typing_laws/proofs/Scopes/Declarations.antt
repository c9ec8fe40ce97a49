-- Declarations lead to a file behind them.
use Rattle.std.proofs.Common.{◌≡◌, ℕ, Bool, true, false, refl, List, [], ◌∷◌, ◌++◌, Option, Some, None, if◌then◌else◌}
use Rattle.std.specs.Prelude.{Ok, Err, not, is_none, is_some, option_map}
use Rattle.std.specs.List.{list_all}
use Rattle.c_syntax.specs.declared.position.Position.{Position}
use Rattle.c_syntax.specs.Statements as t
use Rattle.c_syntax.specs.Tree.{Initializer}
use Rattle.c_tree.specs.declared.c_type.TypeWord.{TypeWord}
use Rattle.c_tree.specs.declared.c_type.TypeWord.TheVariants as word
use Rattle.c_tree.specs.Extents.{extent_of}
use Rattle.c_tree.specs.Statements.{DeclaredVariable, Part}
use Rattle.c_faults.specs.declared.fault.Rule.TheVariants.{MisplacedStorage, Redeclared}
use Rattle.c_faults.specs.Answer.{Answer, violates, ◌>>=◌}
use Rattle.c_declarators.specs.Derivations.{array_of, is_large}
use Rattle.c_initializer_rules.specs.Initializing.{begun}
use Rattle.c_initializer_rules.specs.Placed.{count_of, parts_in}
use Rattle.c_scope.specs.declared.meaning.Designated.{Designated}
use Rattle.c_scope.specs.declared.meaning.Designated.TheVariants as what
use Rattle.c_scope.specs.declared.meaning.Meaning.{Meaning}
use Rattle.c_scope.specs.declared.meaning.Meaning.TheVariants as meaning
use Rattle.c_scope.specs.Names.{Name}
use Rattle.c_declarator_typing.specs.Declarators.{Shape, built_in}
use Rattle.c_declarator_typing.specs.Specifications.{Specification}
use Rattle.c_typing_state.specs.State.{State, Typing, done, extents, judged, ◌>>>◌}
use Rattle.c_expression_typing.specs.Typed.{shape, specification}
use Rattle.c_unit_typing.specs.Declarations.{alone_in, completed, declaration, declaration_of, declared_as}
use Rattle.c_unit_typing.specs.Declarations.{declared_with, initialized_if, is_same_object, named_by, sized, specified}
use Rattle.c_unit_typing.specs.Declarations.{stored_once, with_declarator, with_declarators}
use Rattle.c_unit_typing.specs.Declarations.{with_others, with_parts, with_size, with_static, with_variable}
use Rattle.c_unit_typing.specs.Files.{File, in_state}
use Rattle.c_unit_typing.specs.Initializers.{initialized}
use Rattle.c_unit_typing.specs.Lines.{initializer_line}
use Rattle.typing_laws.specs.Validity.Sound.{IsFormed, is_sized_array}
use Rattle.typing_laws.proofs.Validity.Common.{first, second}
use Rattle.typing_laws.proofs.Validity.Sound.{IfAnswer, same_list}
use Rattle.typing_laws.specs.Declarators.Extending.{Extending}
use Rattle.typing_laws.specs.Declarators.Given.{AreCounted, IsShapeOf, IsSpecified, anything}
use Rattle.typing_laws.proofs.Declarators.Chained.{judged_extends, then_extends}
use Rattle.typing_laws.proofs.Declarators.Recursion.{shape_extends, specification_extends}
use Rattle.typing_laws.proofs.Declarators.Steps.{whatever}
use Rattle.typing_laws.specs.Declarations.Binding.{IfDeclared, bound_meaning}
use Rattle.typing_laws.proofs.Declarations.Completed.{size_binds}
use Rattle.typing_laws.proofs.Declarations.Formed.{formed_behind}
use Rattle.typing_laws.proofs.Declarations.Judged.{declared_as_declares}
use Rattle.typing_laws.specs.Scopes.Leaving.{FileLeads, Leading, Leads}
use Rattle.typing_laws.specs.Scopes.Regular.{are_regular_declarators, initializer_of, is_regular_declaration}
use Rattle.typing_laws.specs.Scopes.Regular.{is_regular_initializer_if, is_regular_object}
use Rattle.typing_laws.proofs.Scopes.Initializers.{initialized_extends}
use Rattle.typing_laws.proofs.Scopes.Leading.{bound_leads, file_same, in_state_by, in_state_then, leads_by}
use Rattle.typing_laws.proofs.Scopes.Leading.{leads_on, leads_same, state_leads, then_leads}
use Rattle.typing_laws.proofs.Common.{unless_large}

-- states behind which something is bound

abbrev pub StateLeads : {A : Type 0} → State → Answer (State × A) → Type 0
StateLeads s (Ok r) = Leads s r.0
StateLeads s (Err e) = Unit {0}

pub from_state : {B : Type 0} (s t : State) → Leads s t → (b : Answer (State × B)) → StateLeads t b → StateLeads s b
from_state s t h (Ok v) is = leads_on s t v.0 h is
from_state s t h (Err e) is = tt

pub then_state : {A B : Type 0} (s : State) (a : Answer (State × A)) (next : A → Typing B) → StateLeads s a
    → ((x : A) (u : State) → IsFormed u → StateLeads u (next x u)) → StateLeads s (a >>= λ r. next r.1 r.0)
then_state s (Ok r) next h g = from_state s r.0 h (next r.1 r.0) (g r.1 r.0 h.formed)
then_state s (Err e) next h g = tt

pub state_by : {A : Type 0} (s : State) (p : State → A → Type 0) (a : Answer (State × A)) → Extending false s p a
    → StateLeads s a
state_by s p (Ok r) is = leads_by s r.0 is.0
state_by s p (Err e) is = tt

pub in_file_by : {A : Type 0} (f : File) (a : Answer (State × A)) → StateLeads f.state a
    → Leading f (a >>= λ r. Ok (record f { state = r.0 }, r.1))
in_file_by f (Ok r) h = state_leads f r.0 h
in_file_by f (Err e) h = tt

-- an array that gets its size

pub large_by : (s : State) → IsFormed s → (d : Designated) (name : Name) (array : TypeWord) (element : List TypeWord)
    (line : ℕ) (large : Bool) → StateLeads s (unless_large s d name array element line large)
large_by s formed d name array element line true = tt
large_by s formed d name array element line false =
    let t = record s { environment = with_size d name (array ∷ element) s.environment } in
    let m = meaning.Named d (array ∷ element) in
    let binds = size_binds s name d (array ∷ element) in
    bound_leads name m s t binds (formed_behind name m s t binds formed tt)

pub sized_by : (s : State) → IsFormed s → (d : Designated) (name : Name) (array : TypeWord) (element : List TypeWord)
    (line : ℕ) (b : Bool)
    → StateLeads s (if not b then violates Redeclared line
    else unless_large s d name array element line (is_large array))
sized_by s formed d name array element line false = tt
sized_by s formed d name array element line true = large_by s formed d name array element line (is_large array)

pub completed_leads : (s : State) → IsFormed s → (d : Designated) (name : Name × ℕ) (type : List TypeWord) (n : ℕ)
    → StateLeads s (completed d name type n s)
completed_leads s formed d name (word.OpenArray ∷ element) n =
    sized_by s formed d name.0 (array_of n (extent_of (extents s) element)) element name.1
    (is_same_object d name.0 (array_of n (extent_of (extents s) element) ∷ element) s.environment)
completed_leads s formed d name [] n = leads_same s formed
completed_leads s formed d name (word.Void ∷ ws) n = leads_same s formed
completed_leads s formed d name (word.Integer t ∷ ws) n = leads_same s formed
completed_leads s formed d name (word.Enumeration k ∷ ws) n = leads_same s formed
completed_leads s formed d name (word.Pointer ∷ ws) n = leads_same s formed
completed_leads s formed d name (word.Array c b ∷ ws) n = leads_same s formed
completed_leads s formed d name (word.Structure k ∷ ws) n = leads_same s formed
completed_leads s formed d name (word.Const ∷ ws) n = leads_same s formed
completed_leads s formed d name (word.Takes ∷ ws) n = leads_same s formed
completed_leads s formed d name (word.Gives ∷ ws) n = leads_same s formed

pub initialized_leads : (s : State) → IsFormed s → (d : Designated) (name : Name × ℕ) (type : List TypeWord)
    (x : Option Initializer) → is_regular_initializer_if x ≡ true → StateLeads s (initialized_if d name type x s)
initialized_leads s formed d name type None c = leads_same s formed
initialized_leads s formed d name type (Some x) c =
    then_state s (initialized x (begun type) s)
    (λ i. completed d name type (count_of i.parts) >>> λ type. done (type, parts_in i.parts))
    (state_by s anything (initialized x (begun type) s) (initialized_extends x c (begun type) s formed))
    (λ i u g. then_state u (completed d name type (count_of i.parts) u) (λ type. done (type, parts_in i.parts))
    (completed_leads u g d name type (count_of i.parts)) (λ type v h. leads_same v h))

-- what is declared

pub variable_leads : (n : ℕ) (has_one : Bool) (r : List TypeWord × List Part) (f : File) → IsFormed f.state
    → Leading f (with_variable n has_one r f)
variable_leads n has_one r f formed = record {
  state = leads_same f.state formed;
  variables = record { rest = _; is = refl };
  statics = same_list f.statics;
  initializers = same_list f.initializers;
  definitions = refl;
  objects = refl;
  taken = refl;
}

pub static_leads : (n : ℕ) (r : List TypeWord × List Part) (f : File) → IsFormed f.state → Leading f (with_static n r f)
static_leads n r f formed = record {
  state = leads_same f.state formed;
  variables = same_list f.variables;
  statics = record { rest = _; is = refl };
  initializers = same_list f.initializers;
  definitions = refl;
  objects = refl;
  taken = refl;
}

pub parts_by : (n : ℕ) (b : Bool) (r : List TypeWord × List Part) (f : File) → IsFormed f.state
    → FileLeads f (if b then record f { initializers = f.initializers ++ (n, r.1) ∷ [] } else f)
parts_by n true r f formed = record {
  state = leads_same f.state formed;
  variables = same_list f.variables;
  statics = same_list f.statics;
  initializers = record { rest = _; is = refl };
  definitions = refl;
  objects = refl;
  taken = refl;
}
parts_by n false r f formed = file_same f formed

pub declared_leads : (name : Name × ℕ) (x : Option Initializer) → is_regular_initializer_if x ≡ true
    → (m : Option Meaning) (f : File) → IsFormed f.state → Leading f (declared_with name x m f)
declared_leads name x c None f formed = file_same f formed
declared_leads name x c (Some (meaning.Typedef type)) f formed = file_same f formed
declared_leads name x c (Some (meaning.Constant w)) f formed = file_same f formed
declared_leads name x c (Some (meaning.Named (what.Variable n) type)) f formed =
    then_leads f (in_state (initialized_if (what.Variable n) name type x) f) (with_variable n (is_some x))
    (in_file_by f (initialized_if (what.Variable n) name type x f.state)
    (initialized_leads f.state formed (what.Variable n) name type x c))
    (λ r g h. variable_leads n (is_some x) r g h)
declared_leads name x c (Some (meaning.Named (what.Static n) type)) f formed =
    then_leads f (in_state (initialized_if (what.Static n) name type x) f) (with_static n)
    (in_file_by f (initialized_if (what.Static n) name type x f.state)
    (initialized_leads f.state formed (what.Static n) name type x c))
    (λ r g h. static_leads n r g h)
declared_leads name x c (Some (meaning.Named (what.Object n) type)) f formed =
    then_leads f (in_state (initialized_if (what.Object n) name type x) f) (with_parts n (is_some x))
    (in_file_by f (initialized_if (what.Object n) name type x f.state)
    (initialized_leads f.state formed (what.Object n) name type x c))
    (λ r g h. parts_by n (is_some x) r g h)
declared_leads name x c (Some (meaning.Named (what.Function n) type)) f formed = file_same f formed
declared_leads name x c (Some (meaning.Named (what.Library r) type)) f formed = file_same f formed

-- declarators

pub declares_leads : (in_head : Bool) (spec : Specification) → is_sized_array spec.type ≡ true → (sh : Shape)
    → AreCounted sh.derivations → (initializer : Option ℕ) (name : Name × ℕ) (s : State) → IsFormed s
    → StateLeads s (declared_as in_head spec sh initializer name s)
declares_leads in_head spec sized sh counted initializer name s formed =
    by (declared_as in_head spec sh initializer name s)
    (declared_as_declares in_head s formed spec sized sh counted initializer name)
  where
    by : (a : Answer (State × Option Meaning))
        → IfDeclared (declaration_of spec (built_in s spec sh) name initializer) s a → StateLeads s a
    by (Ok r) h =
        bound_leads name.0 (bound_meaning s.environment (declaration_of spec
        (built_in s spec sh) name initializer)) s r.0
        h.0.binds h.0.formed
    by (Err e) h = tt

pub named_leads : (in_head : Bool) (spec : Specification) → is_sized_array spec.type ≡ true → (x : Option Initializer)
    → is_regular_initializer_if x ≡ true → (sh : Shape) → AreCounted sh.derivations → (name : Option (Name × ℕ))
    (f : File) → IsFormed f.state → Leading f (named_by in_head spec x sh name f)
named_leads in_head spec sized x c sh counted None f formed = file_same f formed
named_leads in_head spec sized x c sh counted (Some name) f formed =
    then_leads f (in_state (declared_as in_head spec sh (option_map initializer_line x) name) f) (declared_with name x)
    (in_file_by f (declared_as in_head spec sh (option_map initializer_line x) name f.state)
    (declares_leads in_head spec sized sh counted (option_map initializer_line x) name f.state formed))
    (λ m g h. declared_leads name x c m g h)

pub declarator_leads : (in_head : Bool) (spec : Specification) → is_sized_array spec.type ≡ true
    → (d : t.InitDeclarator) → is_regular_object d (initializer_of d) ≡ true → (f : File) → IsFormed f.state
    → Leading f (with_declarator in_head spec d f)
declarator_leads in_head spec sized d c f formed =
    in_state_then f (λ u sh. IsShapeOf u d.declarator sh) (shape false d.declarator f.state)
    (λ sh. named_by in_head spec (initializer_of d) sh sh.name)
    (shape_extends false d.declarator (first _ _ c) f.state formed)
    (λ sh g h is. named_leads in_head spec sized (initializer_of d) (second _ _ c) sh is.counted sh.name g h)

pub others_lead : (in_head : Bool) (spec : Specification) → is_sized_array spec.type ≡ true
    → (ds : List (Position × t.InitDeclarator)) → list_all (λ d. is_regular_object d.1 (initializer_of d.1)) ds ≡ true
    → (vs : List DeclaredVariable) (f : File) → IsFormed f.state → Leading f (with_others in_head spec ds vs f)
others_lead in_head spec sized [] c vs f formed = file_same f formed
others_lead in_head spec sized (d ∷ ds) c vs f formed =
    then_leads f (with_declarator in_head spec d.1 f) (λ us. with_others in_head spec ds (vs ++ us))
    (declarator_leads in_head spec sized d.1 (first _ _ c) f formed)
    (λ us g h. others_lead in_head spec sized ds (second _ _ c) (vs ++ us) g h)

pub declarators_lead : (in_head : Bool) (spec : Specification) → is_sized_array spec.type ≡ true
    → (ds : Option t.InitDeclarators) → are_regular_declarators ds ≡ true → (f : File) → IsFormed f.state
    → Leading f (with_declarators in_head spec ds f)
declarators_lead in_head spec sized None c f formed =
    in_state_by f anything (judged (alone_in in_head spec) f.state)
    (judged_extends false f.state anything (alone_in in_head spec f.state) formed
    (whatever f.state (alone_in in_head spec f.state)))
declarators_lead in_head spec sized (Some ds) c f formed =
    then_leads f (with_declarator in_head spec ds.first f) (λ vs. with_others in_head spec ds.others vs)
    (declarator_leads in_head spec sized ds.first (first _ _ c) f formed)
    (λ vs g h. others_lead in_head spec sized ds.others (second _ _ c) vs g h)

pub stored_by : (s : State) (spec : Specification) → IsSpecified s spec → (b : Bool)
    → IfAnswer (IsSpecified s) (if b then violates MisplacedStorage spec.line else Ok spec)
stored_by s spec h true = tt
stored_by s spec h false = h

pub specified_extends : (is_alone : Bool) (d : t.Declaration) → is_regular_declaration d ≡ true → (s : State)
    → IsFormed s → Extending false s IsSpecified (specified is_alone d s)
specified_extends is_alone d c s formed =
    then_extends false s IsSpecified IsSpecified (specification is_alone d.specifiers s)
    (λ spec. judged (stored_once spec)) (specification_extends is_alone d.specifiers (first _ _ c) s formed)
    (λ u spec g h. judged_extends false u IsSpecified (stored_once spec u) g.formed
    (stored_by u spec h spec.has_two_storages))

pub declaration_leads : (in_head : Bool) (d : t.Declaration) → is_regular_declaration d ≡ true → (f : File)
    → IsFormed f.state → Leading f (declaration in_head d f)
declaration_leads in_head d c f formed =
    in_state_then f IsSpecified (specified (is_none d.declarators) d f.state)
    (λ spec. with_declarators in_head spec d.declarators)
    (specified_extends (is_none d.declarators) d c f.state formed)
    (λ spec g h is. declarators_lead in_head spec is d.declarators (second _ _ c) g h)
