-- All violations of typing rules in declarations of blocks and files (C99 6.7, 6.8.5.3, 6.9.2), in the order of the
-- tokens. A storage-class specifier that is out of place for a declarator is judged with this declarator.
use Rattle.std.specs.Prelude.{ℕ, Bool, false, List, [], ◌∷◌, ◌++◌, Option, Some, None, is_none, is_some}
use Rattle.std.specs.Prelude.{option_map}
use Rattle.c_syntax.specs.declared.position.Position.{Position}
use Rattle.c_syntax.specs.Statements as t
use Rattle.c_syntax.specs.Tree.{Initializer}
use Rattle.c_tree.specs.declared.c_type.TypeWord.{TypeWord}
use Rattle.c_tree.specs.Statements.{DeclaredVariable, Part}
use Rattle.c_scope.specs.declared.meaning.Designated.{Designated}
use Rattle.c_scope.specs.declared.meaning.Designated.TheVariants as what
use Rattle.c_scope.specs.declared.meaning.Meaning.{Meaning}
use Rattle.c_scope.specs.declared.meaning.Meaning.TheVariants as meaning
use Rattle.c_scope.specs.Names.{Name}
use Rattle.c_initializer_rules.specs.Initializing.{Initializing, begun}
use Rattle.c_initializer_rules.specs.Placed.{count_of, parts_in}
use Rattle.c_declarator_typing.specs.Declarators.{Shape}
use Rattle.c_declarator_typing.specs.Specifications.{Specification}
use Rattle.c_typing_state.specs.State.{State, Typing, done, judged, ◌>>>◌}
use Rattle.c_unit_typing.specs.Declarations.{alone_in, completed, declared_as, initializer_in, stored_once}
use Rattle.c_unit_typing.specs.Declarations.{with_parts, with_static, with_variable}
use Rattle.c_unit_typing.specs.Files.{File}
use Rattle.c_unit_typing.specs.Lines.{initializer_line}
use Rattle.typing_laws.specs.Violations.Expressions.{first_token, name_token, shape, specification}
use Rattle.typing_laws.specs.Violations.Initializers.{initializer}
use Rattle.typing_laws.specs.Violations.Judgements.{Judgement, Judging, beginning, by_rule, given, gives, ◌adding◌}
use Rattle.typing_laws.specs.Violations.Judgements.{◌beside◌}
use Rattle.typing_laws.specs.Violations.Judgements.{◌knowing◌, ◌onward◌, ◌ruled_by◌, rule_at}

-- what is judged in the state of expressions and declarators

abbrev pub put_in : {A : Type 0} → File → Judgement State A → Judgement File A
put_in f j = record { violations = j.violations; state = record f { state = j.state }; known = j.known }

abbrev pub in_state : {A : Type 0} → Judging State A → Judging File A
in_state parts f = put_in f (parts f.state)

-- the type and the parts of an object with its initializer, if it has one: its size is judged behind this

abbrev pub sized_by : Designated → Name × ℕ → (type : List TypeWord) → Initializing → Typing (List TypeWord × List Part)
sized_by what name type i = completed what name type (count_of i.parts) >>> λ type. done (type, parts_in i.parts)

abbrev pub initialized_if : (token : ℕ) → Designated → Name × ℕ → (type : List TypeWord) → Option Initializer
    → Judging State (List TypeWord × List Part)
initialized_if n what name type None = gives (type, [])
initialized_if n what name type (Some x) =
    initializer x (Some (begun type)) ruled_by rule_at n (sized_by what name type)

-- what a declarator declared, with its initializer, if it has one
abbrev pub object : (token : ℕ) → Name × ℕ → Option Initializer → Option Meaning → Judging File (List DeclaredVariable)
object at name x (Some (meaning.Named (what.Variable n) type)) =
    in_state (initialized_if at (what.Variable n) name type x) ruled_by rule_at at (with_variable n (is_some x))
object at name x (Some (meaning.Named (what.Static n) type)) =
    in_state (initialized_if at (what.Static n) name type x) ruled_by rule_at at (with_static n)
object at name x (Some (meaning.Named (what.Object n) type)) =
    in_state (initialized_if at (what.Object n) name type x) ruled_by rule_at at (with_parts n (is_some x))
object at name x m = gives []

-- the initializer behind a declarator that violates a rule is judged by itself
abbrev pub by_itself : Option Initializer → Judging File (List DeclaredVariable)
by_itself None = given None
by_itself (Some x) = in_state (initializer x None) knowing λ i. given None

abbrev pub with_initializer : (token : ℕ) → Name × ℕ → Option Initializer → Option (Option Meaning)
    → Judging File (List DeclaredVariable)
with_initializer at name x None = by_itself x
with_initializer at name x (Some m) = object at name x m

abbrev pub declared : (in_head : Bool) → (token : ℕ) → Option Initializer → Specification × Shape → Option (Name × ℕ)
    → Judging File (List DeclaredVariable)
declared in_head at x v None = gives []
declared in_head at x v (Some name) =
    in_state (by_rule at (declared_as in_head v.0 v.1 (option_map initializer_line x) name)) knowing
    with_initializer at name x

abbrev pub declared_by : (in_head : Bool) → (token : ℕ) → Option Initializer → Option (Specification × Shape)
    → Judging File (List DeclaredVariable)
declared_by in_head at x None = by_itself x
declared_by in_head at x (Some v) = declared in_head at x v v.1.name

-- a declarator with its initializer
abbrev pub declarator : (in_head : Bool) → Option Specification → t.InitDeclarator
    → Judging File (List DeclaredVariable)
declarator in_head spec d =
    in_state (given spec beside shape false d.declarator) knowing
    declared_by in_head (name_token 0 d.declarator) (initializer_in d)

abbrev pub at_end : {A : Type 0} → List A → List A → List A
at_end xs before = before ++ xs

abbrev pub others : (in_head : Bool) → Option Specification → List (Position × t.InitDeclarator)
    → Judging (File × List DeclaredVariable) (Unit {0})
others in_head spec [] = gives tt
others in_head spec (d ∷ ds) = declarator in_head spec d.1 adding at_end onward others in_head spec ds

abbrev pub declarators : (in_head : Bool) → (first : ℕ) → Option t.InitDeclarators → Option Specification
    → Judging File (List DeclaredVariable)
declarators in_head first None spec =
    in_state (given spec ruled_by rule_at first λ spec. judged (alone_in in_head spec))
declarators in_head first (Some ds) spec =
    beginning [] (declarator in_head spec ds.first adding at_end onward others in_head spec ds.others)

abbrev pub specifiers : (is_alone : Bool) → t.Declaration → Judging State Specification
specifiers is_alone d = specification is_alone d.specifiers ruled_by
    rule_at (first_token d.specifiers) λ spec. judged (stored_once spec)

abbrev pub declaration : (in_head : Bool) → t.Declaration → Judging File (List DeclaredVariable)
declaration in_head d =
    in_state (specifiers (is_none d.declarators) d) knowing
    declarators in_head (first_token d.specifiers) d.declarators
