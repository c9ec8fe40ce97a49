-- The bytes of the budget `calls` that a call of a function takes: a home for each variable, for the values that are
-- needed while the highest of its expressions is evaluated, for the tags of its arguments and its result, and for the
-- bytes and tags of the structures that it takes over from calls, gives to them and gives back.
use Rattle.std.specs.Prelude.{ℕ, suc, ◌+◌, ◌*◌, max, Bool, false, ◌==◌, if◌then◌else◌, List, [], ◌∷◌, ◌++◌, map, length}
use Rattle.std.specs.Prelude.{Option, Some, None}
use Rattle.obj_memory.specs.Heap.{rounded_up}
use Rattle.c_tree.specs.declared.expression.Kind.{Kind}
use Rattle.c_tree.specs.declared.expression.Kind.TheVariants as kind
use Rattle.c_tree.specs.Tree.{Expression, binary, offset_by, difference, assign, assign_plain, compound, change_plain}
use Rattle.c_tree.specs.Tree.{call, call_through, library, printf, index, kinds_of}
use Rattle.c_tree.specs.Statements.{Content, value_content, literal_content}
use Rattle.c_tree.specs.Programs.{Function, StaticObject}
use Rattle.c_tree.specs.Walk.{Visited, visited, visited_lvalue, walk, sum_of, greatest}
use Rattle.c_tree.specs.Blocks.{each_contents}

-- how many values are needed at once where so many are kept and the next come in turn, each of which is then kept too;
-- the result takes one
abbrev pub in_turn : (kept : ℕ) → List ℕ → ℕ
in_turn kept [] = 1
in_turn kept (h ∷ hs) = max (kept + h) (in_turn (suc kept) hs)

-- how many values a node needs, of what its operands need: those that come in turn, and where only one waits at a time
-- the greatest
abbrev pub height_made : Visited → List ℕ → ℕ
height_made (visited kind (binary op a b)) hs = in_turn 0 hs
height_made (visited kind (offset_by form size a b)) hs = in_turn 0 hs
height_made (visited kind (difference size a b)) hs = in_turn 0 hs
height_made (visited kind (assign p e)) hs = in_turn 0 hs
height_made (visited kind (assign_plain x e)) hs = in_turn 0 (1 ∷ hs)
height_made (visited kind (compound u p e)) hs = in_turn 0 hs
height_made (visited kind (change_plain u x e)) hs = in_turn 0 (1 ∷ hs)
height_made (visited kind (call f es)) hs = in_turn 0 hs
height_made (visited kind (call_through type e es)) hs = in_turn 0 hs
height_made (visited kind (library routine es)) hs = in_turn 0 hs
height_made (visited kind (printf format es)) hs = in_turn 0 (1 ∷ hs)
height_made (visited_lvalue kind (index form size a b)) hs = in_turn 0 hs
height_made v hs = max 1 (greatest hs)

abbrev pub height : Expression → ℕ
height = walk height_made

abbrev pub content_height : Content → ℕ
content_height (value_content e) = height e
content_height (literal_content bytes) = 1

abbrev pub greatest_height : List Content → ℕ
greatest_height contents = greatest (map content_height contents)

-- the bytes that structures take in calls, each rounded up to 16

abbrev pub structure_bytes : Kind → ℕ
structure_bytes kind.Void = 0
structure_bytes (kind.Scalar k) = 0
structure_bytes (kind.Structure size) = rounded_up 16 size
structure_bytes (kind.Array size) = 0

abbrev pub bytes_of_call : Visited → ℕ
bytes_of_call (visited kind (call f es)) = structure_bytes kind + sum_of (map structure_bytes (kinds_of es))
bytes_of_call (visited kind (call_through type e es)) = structure_bytes kind
    + sum_of (map structure_bytes (kinds_of es))
bytes_of_call v = 0

abbrev pub passed_bytes : Expression → ℕ
passed_bytes = walk (λ v ns. bytes_of_call v + sum_of ns)

abbrev pub content_bytes : Content → ℕ
content_bytes (value_content e) = passed_bytes e
content_bytes (literal_content bytes) = 0

-- the static objects in the block of a function

abbrev pub is_number : Option ℕ → (number : ℕ) → Bool
is_number None f = false
is_number (Some g) f = g == f

abbrev pub static_contents : List StaticObject → (function : ℕ) → List Content
static_contents [] f = []
static_contents (o ∷ os) f = (if is_number o.function f then map (λ p. p.content) o.parts else [])
    ++ static_contents os f

-- the greatest height of a function's full expressions and expressions of initializers, those of static objects too
abbrev pub function_height : List StaticObject → (number : ℕ) → Function → ℕ
function_height statics n f = max (greatest_height (each_contents f.body)) (greatest_height (static_contents statics n))

-- of a function by its number, with the kind of what it gives
unfoldable pub room : List StaticObject → (number : ℕ) → (result : Kind) → Function → ℕ
room statics n result f =
    96 + 40 * ((length f.parameters + length f.variables) + function_height statics n f)
    + 32 * (1 + length f.parameters)
    + 5 * (structure_bytes result + sum_of (map content_bytes (each_contents f.body)))
