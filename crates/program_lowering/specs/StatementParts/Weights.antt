-- What the instructions of initializers, of the parts of loops and of blocks weigh.
use Rattle.std.specs.Prelude.{ℕ, ◌+◌, ◌*◌, Bool, true, false, List, [], ◌∷◌, Option, Some, None}
use Rattle.c_tree.specs.declared.program.Variable.{Variable}
use Rattle.c_tree.specs.Tree.{Expression, kind_of}
use Rattle.c_tree.specs.Statements.{Content, value_content, literal_content, Part, Initializer, of_plain, of_object}
use Rattle.c_tree.specs.Statements.{DeclaredVariable, First, nothing, first_expression, first_declaration}
use Rattle.c_tree.specs.Blocks.{block_objects}
use Rattle.source_meaning.specs.Blocks.{has_objects}
use Rattle.program_lowering.specs.ExpressionCode.Weights.{Weights, expression_weight}

abbrev pub content_weight : Content → Weights → ℕ
content_weight (value_content e) w = expression_weight e w + w.store_part (kind_of e)
content_weight (literal_content bytes) w = w.store_text (Some bytes)

abbrev pub parts_weight : List Part → Weights → ℕ
parts_weight [] w = 0
parts_weight (q ∷ qs) w = content_weight q.content w + parts_weight qs w

abbrev pub initializer_weight : (variable : ℕ) → Option Initializer → Weights → ℕ
initializer_weight x None w = 0
initializer_weight x (Some (of_plain e)) w = expression_weight e w + w.set_plain x
initializer_weight x (Some (of_object parts)) w = w.zero + parts_weight parts w

abbrev pub declared_weight : List DeclaredVariable → Weights → ℕ
declared_weight [] w = 0
declared_weight (d ∷ ds) w = initializer_weight d.variable d.initializer w + declared_weight ds w

abbrev pub first_weight : First → Weights → ℕ
first_weight nothing w = 0
first_weight (first_expression e) w = expression_weight e w
first_weight (first_declaration ds) w = declared_weight ds w

abbrev pub condition_weight : Option Expression → Weights → ℕ
condition_weight None w = 0
condition_weight (Some e) w = expression_weight e w + w.branch

abbrev pub part_weight : Option Expression → Weights → ℕ
part_weight None w = 0
part_weight (Some e) w = expression_weight e w

-- what weighs so much stands where a block has objects
abbrev pub weight_where : (has_objects : Bool) → (weight : ℕ) → ℕ
weight_where true n = n
weight_where false n = 0

-- the entry of a block by its number, which it has where it has objects
abbrev pub entry_weight : (block : Option ℕ) → Weights → ℕ
entry_weight None w = 0
entry_weight (Some block) w = w.enter_block

-- of a block that declares the variables with these numbers: it is entered, and left in four ways

abbrev pub entered_weight : List Variable → (numbers : List ℕ) → Weights → ℕ
entered_weight vs numbers w = weight_where (has_objects (block_objects vs numbers)) w.enter_block

abbrev pub left_weight : List Variable → (numbers : List ℕ) → Weights → ℕ
left_weight vs numbers w = weight_where (has_objects (block_objects vs numbers)) (4 * w.leave_block)

abbrev pub block_weight : List Variable → (numbers : List ℕ) → Weights → ℕ
block_weight vs numbers w = entered_weight vs numbers w + left_weight vs numbers w
