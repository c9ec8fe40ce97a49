-- What declarators bind their names to.
use Rattle.std.proofs.Common.{◌≡◌, ℕ, ◌+◌, ◌≤◌, Bool, true, false, refl, [], ◌∷◌}
use Rattle.std.proofs.Common.{Option, Some, None, if◌then◌else◌, arith}
use Rattle.std.specs.Prelude.{nat_eq}
use Rattle.std.proofs.lemmas.Bool.{and_from, eq-eqb}
use Rattle.c_scope.specs.declared.meaning.Designated.TheVariants as what
use Rattle.c_scope.specs.declared.meaning.Entity.{Entity}
use Rattle.c_scope.specs.declared.meaning.Meaning.{Meaning}
use Rattle.c_scope.specs.declared.meaning.Meaning.TheVariants as meaning
use Rattle.c_scope.specs.declared.meaning.Storage.{Storage}
use Rattle.c_scope.specs.declared.meaning.Storage.TheVariants as storage
use Rattle.c_scope.specs.Declaring.{Declaration, has_linkage, is_function}
use Rattle.c_scope.specs.Environment.{Environment, entity_with, in_file, linked, statics_with}
use Rattle.c_scope.specs.Environment.{with_declarator, with_name, without_linkage}
use Rattle.c_scope.specs.Names.{Name, Names, bound, declared, is_name}
use Rattle.c_typing_state.specs.State.{State}
use Rattle.typing_laws.proofs.Declarators.Tags.{bound_same}
use Rattle.typing_laws.specs.Declarations.Binding.{Binds, bound_meaning, linked_meaning, unlinked_meaning}

-- a name that is bound is declared

pub same_name : (name : Name) → is_name name name ≡ true
same_name [] = refl
same_name (b ∷ name) = and_from (nat_eq b b) (is_name name name) (eq-eqb b b refl) (same_name name)

-- what a name is bound to, and the environment behind it, by linkage and storage

abbrev pub Bound : Bool → Environment → Declaration → Meaning
Bound b env d = if b then linked_meaning env d else unlinked_meaning d.storage env d

abbrev pub Behind : Bool → Environment → Declaration → Environment
Behind b env d = if b then linked env d else without_linkage d.storage env d

chosen_true : {A : Type 0} (b : Bool) (x : A) (other : Option A) → b ≡ true → (if b then Some x else other) ≡ Some x
chosen_true true x other e = refl
chosen_true false x other e = cc

here_by : {A : Type 0} (name : Name) (x : A) (e : Name × A) (es : Names A) (b : Bool) → is_name name e.0 ≡ b
    → declared name (bound name x es) ≡ Some x
    → declared name (if b then (e.0, x) ∷ es else e ∷ bound name x es) ≡ Some x
here_by name x e es true is h = chosen_true (is_name name e.0) x (declared name es) is
here_by name x e es false is h = skipped (is_name name e.0) is
  where
    skipped : (b : Bool) → b ≡ false → (if b then Some e.1 else declared name (bound name x es)) ≡ Some x
    skipped true g = cc
    skipped false g = h

pub bound_here : {A : Type 0} (name : Name) (x : A) (es : Names A) → declared name (bound name x es) ≡ Some x
bound_here name x [] = chosen_true (is_name name name) x None (same_name name)
bound_here name x (e ∷ es) = here_by name x e es (is_name name e.0) refl (bound_here name x es)

-- an environment with a name, and other counts and entities

abbrev named_state : State → Name → Meaning → (entities : Names Entity) → (statics variables : ℕ) → State
named_state s name m entities statics variables = record s {
  environment = with_name name m (record s.environment {
    entities = entities;
    statics = statics;
    variables = variables;
  });
}

pub named_binds : (s : State) (name : Name) (m : Meaning) (entities : Names Entity) (statics variables : ℕ)
    → s.environment.statics ≤ statics → s.environment.variables ≤ variables
    → Binds name m s (named_state s name m entities statics variables)
named_binds s name m entities statics variables low many = record {
  structures = refl;
  tags = refl;
  facts = refl;
  objects = refl;
  function = refl;
  literals = refl;
  types = refl;
  undefined = refl;
  statics = low;
  variables = many;
  outer = refl;
  here = bound_here name m s.environment.names.current;
  names = λ other. bound_same (λ x. x ≡ m) name other m s.environment.names.current refl;
}

statics_by : (env : Environment) (d : Declaration) (o : Option Entity) → env.statics ≤ statics_with env d o
statics_by env d None = choice (is_function d.type)
  where
    choice : (b : Bool) → env.statics ≤ (if b then env.statics else env.statics + 1)
    choice true = omega arith
    choice false = omega arith
statics_by env d (Some e) = omega arith

linked_binds : (s : State) (d : Declaration)
    → Binds d.name (linked_meaning s.environment d) s (record s { environment = linked s.environment d })
linked_binds s d =
    named_binds s d.name (linked_meaning s.environment d)
    (bound d.name (entity_with s.environment d (declared d.name s.environment.entities)) s.environment.entities)
    (statics_with s.environment d (declared d.name s.environment.entities)) s.environment.variables
    (statics_by s.environment d (declared d.name s.environment.entities)) (omega arith)

variable_binds : (s : State) (d : Declaration)
    → Binds d.name (meaning.Named (what.Variable s.environment.variables) d.type) s
    (named_state s d.name (meaning.Named (what.Variable s.environment.variables) d.type) s.environment.entities
    s.environment.statics (s.environment.variables + 1))
variable_binds s d =
    named_binds s d.name (meaning.Named (what.Variable s.environment.variables) d.type) s.environment.entities
    s.environment.statics (s.environment.variables + 1) (omega arith) (omega arith)

unlinked_binds : (s : State) (d : Declaration) (z : Storage)
    → Binds d.name (unlinked_meaning z s.environment d) s
    (record s { environment = without_linkage z s.environment d })
unlinked_binds s d storage.Typedef =
    named_binds s d.name (meaning.Typedef d.type) s.environment.entities s.environment.statics s.environment.variables
    (omega arith) (omega arith)
unlinked_binds s d storage.Static =
    named_binds s d.name (meaning.Named (what.Static s.environment.statics) d.type) s.environment.entities
    (s.environment.statics + 1) s.environment.variables (omega arith) (omega arith)
unlinked_binds s d storage.Absent = variable_binds s d
unlinked_binds s d storage.Auto = variable_binds s d
unlinked_binds s d storage.Register = variable_binds s d
unlinked_binds s d storage.Extern = variable_binds s d

binds_by : (s : State) (d : Declaration) (b : Bool)
    → Binds d.name (if b then linked_meaning s.environment d else unlinked_meaning d.storage s.environment d) s
    (record s { environment = if b then linked s.environment d else without_linkage d.storage s.environment d })
binds_by s d true = linked_binds s d
binds_by s d false = unlinked_binds s d d.storage

pub declarator_binds : (s : State) (d : Declaration)
    → Binds d.name (bound_meaning s.environment d) s (record s { environment = with_declarator s.environment d })
declarator_binds s d = binds_by s d (has_linkage (in_file s.environment) d)
