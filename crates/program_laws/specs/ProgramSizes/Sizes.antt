-- What counts as the size of what initializers, declarations and statements are typed to, and of files.
use Rattle.std.specs.Prelude.{ℕ, ◌+◌, List, [], ◌∷◌, length}
use Rattle.c_tree.specs.Programs.{StaticObject}
use Rattle.c_tree.specs.Statements.{DeclaredVariable, Part}
use Rattle.c_initializer_rules.specs.Initializing.{Initializing}
use Rattle.c_initializer_rules.specs.Placed.{PlacedPart}
use Rattle.c_unit_typing.specs.Constructs.{Labelled}
use Rattle.c_unit_typing.specs.Files.{Definition, File}
use Rattle.program_laws.specs.TreeSizes.Nodes.{declared_nodes, part_nodes, parts_nodes, statement_nodes}
use Rattle.program_laws.specs.TreeSizes.Nodes.{statements_nodes}

abbrev pub sum_by : {A : Type 0} → (A → ℕ) → List A → ℕ
sum_by size [] = 0
sum_by size (x ∷ xs) = size x + sum_by size xs

-- the parts of an initializer so far
abbrev pub placed_nodes : List PlacedPart → ℕ
placed_nodes ps = sum_by (λ p. part_nodes p.part) ps

abbrev pub initializing_nodes : Initializing → ℕ
initializing_nodes i = placed_nodes i.parts

-- a declaration as a statement, of what it declares
abbrev pub declaration_nodes : List DeclaredVariable → ℕ
declaration_nodes vs = 1 + declared_nodes vs

-- a statement with its labels
abbrev pub labelled_nodes : Labelled → ℕ
labelled_nodes x = length x.labels + statement_nodes x.statement

-- static objects without linkage, the initializers of those with linkage, and functions

abbrev pub object_nodes : ℕ × StaticObject → ℕ
object_nodes o = parts_nodes o.1.parts

abbrev pub initial_nodes : ℕ × List Part → ℕ
initial_nodes i = parts_nodes i.1

abbrev pub definition_nodes : Definition → ℕ
definition_nodes d = statements_nodes d.body

abbrev pub stored_nodes : File → ℕ
stored_nodes f =
    sum_by object_nodes f.statics + sum_by initial_nodes f.initializers + sum_by definition_nodes f.definitions

-- with its string literals, each of which is the only part of a static object
abbrev pub file_nodes : File → ℕ
file_nodes f = length f.state.literals + stored_nodes f

abbrev pub in_file_size : {A : Type 0} → (A → ℕ) → File × A → ℕ
in_file_size size r = size r.1 + file_nodes r.0
