-- What declarations are typed to has at most 3 nodes for each of their words (C99 6.7).
use Rattle.std.proofs.Common.{◌≡◌, ℕ, ◌+◌, ◌*◌, ◌≤◌, Bool, true, false, not, refl, ap, List, [], ◌∷◌, ◌++◌, Option}
use Rattle.std.proofs.Common.{Some, None, arith, if◌then◌else◌, length}
use Rattle.std.specs.Prelude.{Ok, is_none, is_some, option_map}
use Rattle.c_syntax.specs.declared.position.Position.{Position}
use Rattle.c_syntax.specs.Statements as t
use Rattle.c_syntax.specs.Tree.{Initializer, Specifiers}
use Rattle.c_tree.specs.declared.c_type.TypeWord.{TypeWord}
use Rattle.c_tree.specs.declared.c_type.TypeWord.TheVariants as word
use Rattle.c_tree.specs.Extents.{extent_of}
use Rattle.c_tree.specs.Statements.{Content, DeclaredVariable, Part, literal_content, value_content}
use Rattle.c_faults.specs.declared.fault.Rule.TheVariants.{LargeType, MisplacedStorage, Redeclared}
use Rattle.c_faults.specs.Answer.{Answer, violates}
use Rattle.c_declarators.specs.Derivations.{array_of, is_large}
use Rattle.c_initializer_rules.specs.Initializing.{begun}
use Rattle.c_initializer_rules.specs.Placed.{count_of}
use Rattle.c_scope.specs.Declaring.{Declaration}
use Rattle.c_scope.specs.declared.meaning.Designated.{Designated}
use Rattle.c_scope.specs.declared.meaning.Designated.TheVariants as what
use Rattle.c_scope.specs.declared.meaning.Meaning.{Meaning}
use Rattle.c_scope.specs.declared.meaning.Meaning.TheVariants as meaning
use Rattle.c_scope.specs.Names.{Name, declared}
use Rattle.c_declarator_typing.specs.Declarators.{Shape, built_in, declaring}
use Rattle.c_declarator_typing.specs.Specifications.{Specification}
use Rattle.c_typing_state.specs.State.{State, Typing, extents, judged, ◌>>>◌}
use Rattle.c_expression_typing.specs.Typed.{shape, specification}
use Rattle.c_unit_typing.specs.Declarations.{alone_in, completed, content_initializer, declaration, declaration_of}
use Rattle.c_unit_typing.specs.Declarations.{declared_as, declared_with, has_place, initialized_if, initializer_if}
use Rattle.c_unit_typing.specs.Declarations.{initializer_in, is_same_object, named_by, parts_initializer, specified}
use Rattle.c_unit_typing.specs.Declarations.{static_in, stored_once, variable_in, with_declarator, with_declarators}
use Rattle.c_unit_typing.specs.Declarations.{with_others, with_parts, with_size, with_static, with_variable}
use Rattle.c_unit_typing.specs.Files.{File, in_state}
use Rattle.c_unit_typing.specs.Lines.{initializer_line}
use Rattle.program_laws.specs.TreeSizes.AtMost.{AtMost, in_state_size, no_size}
use Rattle.program_laws.specs.TreeSizes.Nodes.{content_nodes, declared_nodes, initializer_nodes, parts_nodes}
use Rattle.program_laws.specs.TreeSizes.WordCounts.{words_in_declaration, words_in_initialized, words_in_initializer}
use Rattle.program_laws.specs.TreeSizes.WordCounts.{words_in_more_objects, words_in_object, words_in_objects}
use Rattle.program_laws.specs.TreeSizes.WordCounts.{words_in_specifiers}
use Rattle.program_laws.proofs.TreeSizes.Bounded.{gives, more, refuses, then_gives}
use Rattle.program_laws.proofs.TreeSizes.Recursion.{declaring_nodes, judged_nothing, shape_nodes, specification_nodes}
use Rattle.program_laws.proofs.TreeSizes.Steps.{judged_gives}
use Rattle.program_laws.specs.ProgramSizes.Sizes.{declaration_nodes, file_nodes, in_file_size, initial_nodes}
use Rattle.program_laws.specs.ProgramSizes.Sizes.{object_nodes}
use Rattle.program_laws.specs.ProgramSizes.Sizes.{stored_nodes}
use Rattle.program_laws.proofs.ProgramSizes.Numbers.{sum_added}
use Rattle.program_laws.proofs.ProgramSizes.Initializers.{initialized_nodes, parts_in_nodes}

-- what is typed in the state of a file
pub in_state_gives : {A : Type 0} (size : A → ℕ) {m : ℕ} (f : File) (typing : Typing A)
    → AtMost (in_state_size size) m (typing f.state)
    → AtMost (in_file_size size) (m + stored_nodes f) (in_state typing f)
in_state_gives size f typing h = then_gives h (λ r g. gives (omega arith))

-- arrays that get their size

abbrev unless_large : State → Designated → Name → (array : TypeWord) → (element : List TypeWord) → (line : ℕ)
    → (large : Bool) → Answer (State × List TypeWord)
unless_large s d name array element line large =
    if large then violates LargeType line
    else Ok (record s { environment = with_size d name (array ∷ element) s.environment }, array ∷ element)

large_by : (s : State) (d : Designated) (name : Name) (array : TypeWord) (element : List TypeWord) (line : ℕ)
    (b : Bool) → AtMost (in_state_size no_size) (length s.literals) (unless_large s d name array element line b)
large_by s d name array element line true = refuses
large_by s d name array element line false = gives (omega arith)

sized_by : (s : State) (d : Designated) (name : Name) (array : TypeWord) (element : List TypeWord) (line : ℕ)
    (b : Bool) → AtMost (in_state_size no_size) (length s.literals) (if not b then violates Redeclared line
    else unless_large s d name array element line (is_large array))
sized_by s d name array element line false = refuses
sized_by s d name array element line true = large_by s d name array element line (is_large array)

completed_nodes : (d : Designated) (name : Name × ℕ) (type : List TypeWord) (n : ℕ) (s : State)
    → AtMost (in_state_size no_size) (length s.literals) (completed d name type n s)
completed_nodes d name (word.OpenArray ∷ element) n s =
    sized_by s d name.0 (array_of n (extent_of (extents s) element)) element name.1
    (is_same_object d name.0 (array_of n (extent_of (extents s) element) ∷ element) s.environment)
completed_nodes d name _ n s = gives (omega arith)

-- objects with their initializers

-- the nodes that an initializer may have, if there is one, of which its `=` makes up for two
abbrev initializer_room : Option Initializer → ℕ
initializer_room None = 0
initializer_room (Some x) = 2 + 3 * words_in_initializer x

-- the type and the parts of an object
abbrev typed_nodes : List TypeWord × List Part → ℕ
typed_nodes r = parts_nodes r.1

initialized_if_nodes : (d : Designated) (name : Name × ℕ) (type : List TypeWord) (x : Option Initializer) (s : State)
    → AtMost (in_state_size typed_nodes) (length s.literals + initializer_room x)
    (initialized_if d name type x s)
initialized_if_nodes d name type None s = gives (omega arith)
initialized_if_nodes d name type (Some x) s =
    then_gives (initialized_nodes x (begun type) s) (λ i h.
    then_gives (completed_nodes d name type (count_of i.1.parts) i.0) (λ r g.
    gives (omega (arith, parts_in_nodes i.1.parts))))

-- an initializer has its parts

content_nodes_by : (c : Content) (p : Part) → p.content ≡ c
    → initializer_nodes (Some (content_initializer c (p ∷ []))) ≤ parts_nodes (p ∷ [])
content_nodes_by (value_content e) p h = omega (arith, ap content_nodes h)
content_nodes_by (literal_content bytes) p h = omega arith

parts_initializer_nodes : (b : Bool) (ps : List Part)
    → initializer_nodes (Some (parts_initializer b ps)) ≤ parts_nodes ps
parts_initializer_nodes false (p ∷ []) = content_nodes_by p.content p refl
parts_initializer_nodes false [] = omega arith
parts_initializer_nodes false (p ∷ q ∷ ps) = omega arith
parts_initializer_nodes true ps = omega arith

initializer_if_nodes : (has_one is_object : Bool) (ps : List Part)
    → initializer_nodes (initializer_if has_one is_object ps) ≤ parts_nodes ps
initializer_if_nodes false is_object ps = omega arith
initializer_if_nodes true is_object ps = parts_initializer_nodes is_object ps

with_variable_nodes : (n : ℕ) (has_one : Bool) (r : List TypeWord × List Part) (f : File)
    → AtMost (in_file_size declared_nodes) (file_nodes f + (1 + typed_nodes r)) (with_variable n has_one r f)
with_variable_nodes n has_one r f =
    gives (omega (arith, initializer_if_nodes has_one (variable_in f.state n r.0).is_object r.1))

with_static_nodes : (n : ℕ) (r : List TypeWord × List Part) (f : File)
    → AtMost (in_file_size declared_nodes) (file_nodes f + (1 + typed_nodes r)) (with_static n r f)
with_static_nodes n r f =
    gives (omega (arith, sum_added object_nodes f.statics (n, static_in f.state r.0 r.1)))

parts_by : (b : Bool) (n : ℕ) (r : List TypeWord × List Part) (f : File)
    → file_nodes (if b then record f { initializers = f.initializers ++ (n, r.1) ∷ [] } else f)
    ≤ file_nodes f + typed_nodes r
parts_by true n r f = omega (arith, sum_added initial_nodes f.initializers (n, r.1))
parts_by false n r f = omega arith

with_parts_nodes : (n : ℕ) (has_one : Bool) (r : List TypeWord × List Part) (f : File)
    → AtMost (in_file_size declared_nodes) (file_nodes f + (1 + typed_nodes r)) (with_parts n has_one r f)
with_parts_nodes n has_one r f = gives (omega (arith, parts_by has_one n r f))

-- what a declarator declares

typed_object : (f : File) (d : Designated) (name : Name × ℕ) (type : List TypeWord) (x : Option Initializer)
    → AtMost (in_file_size typed_nodes) (file_nodes f + initializer_room x)
    (in_state (initialized_if d name type x) f)
typed_object f d name type x =
    more (omega arith)
    (in_state_gives typed_nodes f (initialized_if d name type x) (initialized_if_nodes d name type x f.state))

declared_with_nodes : (name : Name × ℕ) (x : Option Initializer) (m : Option Meaning) (f : File)
    → AtMost (in_file_size declared_nodes) (file_nodes f + (1 + initializer_room x))
    (declared_with name x m f)
declared_with_nodes name x (Some (meaning.Named (what.Variable n) type)) f =
    then_gives (typed_object f (what.Variable n) name type x)
    (λ r h. more (omega arith) (with_variable_nodes n (is_some x) r.1 r.0))
declared_with_nodes name x (Some (meaning.Named (what.Static n) type)) f =
    then_gives (typed_object f (what.Static n) name type x)
    (λ r h. more (omega arith) (with_static_nodes n r.1 r.0))
declared_with_nodes name x (Some (meaning.Named (what.Object n) type)) f =
    then_gives (typed_object f (what.Object n) name type x)
    (λ r h. more (omega arith) (with_parts_nodes n (is_some x) r.1 r.0))
declared_with_nodes name x _ f = gives (omega arith)

-- a name that is declared, with what it stands for
pub name_nodes : (d : Declaration) (name : Name × ℕ) (s : State)
    → AtMost (in_state_size no_size) (length s.literals)
    ((declaring name d >>> λ name. judged (λ s. Ok (declared name.0 s.environment.names.current))) s)
name_nodes d name s =
    then_gives (declaring_nodes name d s)
    (λ r h. more (omega arith) (judged_nothing r.0 (Ok (declared r.1.0 r.0.environment.names.current))))

place_by : (b : Bool) (spec : Specification) (d : Declaration) (name : Name × ℕ) (s : State)
    → AtMost (in_state_size no_size) (length s.literals)
    (if b then (declaring name d >>> λ name. judged (λ s. Ok (declared name.0 s.environment.names.current))) s
    else violates MisplacedStorage spec.line)
place_by true spec d name s = name_nodes d name s
place_by false spec d name s = refuses

declared_as_nodes : (in_head : Bool) (spec : Specification) (sh : Shape) (initializer : Option ℕ) (name : Name × ℕ)
    (s : State) → AtMost (in_state_size no_size) (length s.literals) (declared_as in_head spec sh initializer name s)
declared_as_nodes in_head spec sh initializer name s =
    place_by (has_place in_head spec (built_in s spec sh).type) spec
    (declaration_of spec (built_in s spec sh) name initializer) name s

named_nodes : (in_head : Bool) (spec : Specification) (x : Option Initializer) (sh : Shape) (name : Option (Name × ℕ))
    (f : File) → AtMost (in_file_size declared_nodes) (file_nodes f + (1 + initializer_room x))
    (named_by in_head spec x sh name f)
named_nodes in_head spec x sh None f = gives (omega arith)
named_nodes in_head spec x sh (Some name) f =
    then_gives (in_state_gives no_size f (declared_as in_head spec sh (option_map initializer_line x) name)
    (declared_as_nodes in_head spec sh (option_map initializer_line x) name f.state))
    (λ m h. more (omega arith) (declared_with_nodes name x m.1 m.0))

initializer_words : (x : Option (Position × Initializer))
    → initializer_room (option_map (λ x. x.1) x) ≤ 3 * words_in_initialized x
initializer_words None = omega arith
initializer_words (Some x) = omega arith

declarator_nodes : (in_head : Bool) (spec : Specification) (d : t.InitDeclarator) (f : File)
    → AtMost (in_file_size declared_nodes) (file_nodes f + (1 + 3 * words_in_object d))
    (with_declarator in_head spec d f)
declarator_nodes in_head spec d f =
    then_gives (in_state_gives no_size f (shape false d.declarator)
    (shape_nodes false d.declarator f.state))
    (λ sh h. more (omega (arith, initializer_words d.initializer))
    (named_nodes in_head spec (initializer_in d) sh.1 sh.1.name sh.0))

declared_append : (vs us : List DeclaredVariable) → declared_nodes (vs ++ us) ≡ declared_nodes vs + declared_nodes us
declared_append [] us = omega arith
declared_append (v ∷ vs) us = omega (arith, declared_append vs us)

others_nodes : (in_head : Bool) (spec : Specification) (ds : List (Position × t.InitDeclarator))
    (vs : List DeclaredVariable) (f : File)
    → AtMost (in_file_size declared_nodes) (file_nodes f + declared_nodes vs + 3 * words_in_more_objects ds)
    (with_others in_head spec ds vs f)
others_nodes in_head spec [] vs f = gives (omega arith)
others_nodes in_head spec (d ∷ ds) vs f =
    then_gives (declarator_nodes in_head spec d.1 f)
    (λ us h. more (omega (arith, declared_append vs us.1)) (others_nodes in_head spec ds (vs ++ us.1) us.0))

alone_by : (b : Bool) (spec : Specification) (s : State)
    → AtMost declared_nodes 0 (if b then violates MisplacedStorage spec.line else Ok [])
alone_by true spec s = refuses
alone_by false spec s = gives (omega arith)

alone_nodes : (in_head : Bool) (spec : Specification) (s : State)
    → AtMost (in_state_size declared_nodes) (length s.literals) (judged (alone_in in_head spec) s)
alone_nodes in_head spec s = judged_gives s (alone_by _ spec s) (omega arith)

declarators_nodes : (in_head : Bool) (spec : Specification) (ds : Option t.InitDeclarators) (f : File)
    → AtMost (in_file_size declared_nodes) (file_nodes f + (1 + 3 * words_in_objects ds))
    (with_declarators in_head spec ds f)
declarators_nodes in_head spec None f =
    more (omega arith)
    (in_state_gives declared_nodes f (judged (alone_in in_head spec)) (alone_nodes in_head spec f.state))
declarators_nodes in_head spec (Some ds) f =
    then_gives (declarator_nodes in_head spec ds.first f)
    (λ vs h. more (omega arith) (others_nodes in_head spec ds.others vs.1 vs.0))

-- a declaration is a statement itself
one_more : {n : ℕ} {a : Answer (File × List DeclaredVariable)} → AtMost (in_file_size declared_nodes) n a
    → AtMost (in_file_size declaration_nodes) (1 + n) a
one_more h = record { each = λ r e. let low = h.each r e in omega arith }

pub specified_nodes : (is_alone : Bool) (x : Specifiers) (s : State)
    → AtMost (in_state_size no_size) (length s.literals + 3 * words_in_specifiers x)
    ((specification is_alone x >>> λ spec. judged (stored_once spec)) s)
specified_nodes is_alone x s =
    then_gives (specification_nodes is_alone x s)
    (λ spec h. more (omega arith) (judged_nothing spec.0 (stored_once spec.1 spec.0)))

pub declaration_bound : (in_head : Bool) (d : t.Declaration) (f : File)
    → AtMost (in_file_size declaration_nodes) (file_nodes f + 3 * words_in_declaration d) (declaration in_head d f)
declaration_bound in_head d f =
    then_gives (in_state_gives no_size f (specified (is_none d.declarators) d)
    (specified_nodes (is_none d.declarators) d.specifiers f.state))
    (λ spec h. more (omega arith) (one_more (declarators_nodes in_head spec.1 d.declarators spec.0)))
