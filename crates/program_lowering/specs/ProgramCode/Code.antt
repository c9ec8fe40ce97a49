-- The code of functions, whatever texts the program gets besides.
use Rattle.std.specs.Prelude.{◌≡◌, ◌≤◌, ℕ, Bool, List, [], Some, slice_get}
use Rattle.c_tree.specs.declared.expression.Kind.{Kind}
use Rattle.c_tree.specs.declared.program.Variable.{Variable}
use Rattle.c_tree.specs.Programs.{Function}
use Rattle.c_tree.specs.Statements.{Statements}
use Rattle.source_meaning.specs.Calls.{header_of}
use Rattle.tac_ir.specs.declared.instruction.Instruction.{Instruction}
use Rattle.tac_ir.specs.declared.function.CodeFunction.{CodeFunction}
use Rattle.tac_ir.specs.declared.function.CountedLoop.{CountedLoop}
use Rattle.tac_ir.specs.Bodies.{bodies_in, HasClosedBodies, HasNoneAdded, KeepsVariable}
use Rattle.tac_ir.specs.Temporaries.{temporaries}
use Rattle.tac_ir.specs.Meaning.{header_of_code}
use Rattle.c_lower.specs.Placed.{Placed}
use Rattle.c_lower.specs.Programs.{LowersBody, placed_in}
use Rattle.program_lowering.specs.declared.expressions.emitter.Emitter.{Emitter}
use Rattle.program_lowering.specs.ExpressionCode.Weights.{Weights, Weighs, code_weight}
use Rattle.program_lowering.specs.ExpressionCode.Enclosed.{AreClosed, IsOpen}
use Rattle.program_lowering.specs.ExpressionCode.Emitted.{Fills, Fits, Stays}
use Rattle.program_lowering.specs.StatementCode.Bodies.{each_bodies, function_bodies}
use Rattle.program_lowering.specs.StatementCode.Sizes.{each_height}
use Rattle.program_lowering.specs.declared.programs.body.Body.{Body}
use Rattle.program_lowering.specs.declared.programs.function.Lowered.{Lowered}
use Rattle.program_lowering.specs.ProgramCode.Weights.{body_weight, function_weight}

-- of the body of a function with these variables, behind the texts of the program so far, where some static objects
-- are string literals
pub record BodyCode (vs : List Variable) (ss : Statements) (result : Kind) (texts : List (List ℕ))
    (literals : List Bool) (emitter : Emitter) (entry : ℕ) : Type 0 where
  pub texts_stay : Stays texts emitter.texts.items
  pub literals_same : emitter.literals.items ≡ literals
  pub homes : Fits (each_height ss) emitter
  pub closed : AreClosed [] emitter
  pub begins : IsOpen [] emitter entry
  pub bodies : bodies_in emitter.loops.items ≡ each_bodies vs ss 2
  pub weight : (w : Weights) (later : List (List ℕ)) → Stays emitter.texts.items later
      → Weighs w (code_weight later emitter.code.items w) (body_weight vs result ss w)
  pub stands : (c : Placed) → c.variables ≡ vs → Fills emitter c → LowersBody c result entry ss

-- a function has the parts of a body
pub record Completes (line type_number room : ℕ) (parameters variables entered : List Variable) (body : Body)
    (lowered : Lowered) : Type
    0 where
  pub line_is : lowered.function.line ≡ line
  pub type_is : lowered.function.type_number ≡ type_number
  pub room_is : lowered.function.room ≡ room
  pub parameters_are : lowered.function.parameters ≡ parameters
  pub variables_are : lowered.function.variables ≡ variables
  pub entered_are : lowered.function.entered ≡ entered
  pub entry_is : lowered.function.entry ≡ body.entry
  pub code_is : lowered.function.code ≡ body.code.code.items
  pub keys_are : lowered.function.keys ≡ body.code.keys.items
  pub blocks_are : lowered.function.blocks ≡ body.code.blocks.items
  pub loops_are : lowered.function.loops ≡ body.code.loops.items
  pub texts_are : lowered.texts.items ≡ body.code.texts.items
  pub literals_are : lowered.literals.items ≡ body.code.literals.items

-- code of a function in a program with these texts
pub record IsFunction (texts : List (List ℕ)) (literals : List Bool) (result : Kind) (function : Function)
    (c : CodeFunction) : Type 0 where
  pub header : header_of_code c ≡ header_of function
  pub homes : (n : ℕ) (i : Instruction) → slice_get c.code n ≡ Some i → temporaries i ≤ each_height function.body
  pub closed : HasClosedBodies c
  pub none_added : HasNoneAdded c
  pub bodies : bodies_in c.loops ≡ function_bodies function
  pub keeps : (n : ℕ) (l : CountedLoop) → slice_get c.loops n ≡ Some l → KeepsVariable c l
  pub weight : (w : Weights) → Weighs w (code_weight texts c.code w) (function_weight result function w)
  pub body : LowersBody (placed_in texts literals function c) result c.entry function.body

-- whatever texts come later
pub record FunctionCode (function : Function) (result : Kind) (texts : List (List ℕ)) (literals : List Bool)
    (lowered : Lowered) : Type 0 where
  pub texts_stay : Stays texts lowered.texts.items
  pub literals_same : lowered.literals.items ≡ literals
  pub is : (ts : List (List ℕ)) → Stays lowered.texts.items ts → IsFunction ts literals result function lowered.function
