-- What the instructions of functions and of programs weigh.
use Rattle.std.specs.Prelude.{◌≡◌, ℕ, ◌+◌, List, [], ◌∷◌, length, map, get_or}
use Rattle.c_tree.specs.declared.expression.Kind.{Kind}
use Rattle.c_tree.specs.declared.expression.Kind.TheVariants.{Void}
use Rattle.c_tree.specs.declared.program.Variable.{Variable}
use Rattle.c_tree.specs.Blocks.{all_of}
use Rattle.c_tree.specs.Programs.{Function, FunctionType, Program}
use Rattle.c_tree.specs.Statements.{Statements}
use Rattle.tac_ir.specs.declared.function.CodeFunction.{CodeFunction}
use Rattle.tac_ir.specs.declared.function.Tac.{Tac}
use Rattle.program_lowering.specs.ExpressionCode.Weights.{Weights, code_weight, IsEven}
use Rattle.program_lowering.specs.StatementCode.Weights.{each_weight}

-- a body that gives a value of this kind gives 0 at its end, and has one return
abbrev pub body_weight : List Variable → Kind → Statements → Weights → ℕ
body_weight vs result ss w = w.return + w.zero_of result + each_weight vs ss w

abbrev pub function_weight : (result : Kind) → Function → Weights → ℕ
function_weight result f w = body_weight (all_of f) result f.body w

-- with what the functions of each type give
abbrev pub functions_weight : (results : List Kind) → List Function → Weights → ℕ
functions_weight results [] w = 0
functions_weight results (f ∷ fs) w =
    function_weight (get_or results f.type_number Void) f w + functions_weight results fs w

abbrev pub program_weight : Program → Weights → ℕ
program_weight p w = functions_weight (map (λ (t : FunctionType). t.result) p.function_types) p.functions w

-- of the code

abbrev pub codes_weight : (texts : List (List ℕ)) → List CodeFunction → Weights → ℕ
codes_weight texts [] w = 0
codes_weight texts (c ∷ cs) w = code_weight texts c.code w + codes_weight texts cs w

-- how many instructions there are, reached or not
abbrev pub instruction_count : List CodeFunction → ℕ
instruction_count [] = 0
instruction_count (c ∷ cs) = length c.code + instruction_count cs

-- The code of a program weighs just what its text does, whatever each kind of instruction weighs.
pub record IsWeighed (program : Program) (code : Tac) : Type 0 where
  pub by : (w : Weights) → IsEven w → codes_weight code.texts code.functions w ≡ program_weight program w
