-- When a program in three-address code is a program lowered.
use Rattle.std.specs.Prelude.{◌≡◌, ◌≤◌, ℕ, max, Bool, List, map, Option, Some, None, slice_get, get_or}
use Rattle.sb_base.specs.Budgets.{BudgetSizes}
use Rattle.c_tree.specs.declared.expression.Kind.{Kind}
use Rattle.c_tree.specs.declared.expression.Kind.TheVariants.{Void}
use Rattle.c_tree.specs.Programs.{Function, FunctionType, StaticObject, Program}
use Rattle.c_tree.specs.Room.{function_height}
use Rattle.c_tree.specs.Blocks.{all_of}
use Rattle.c_tree.specs.Statements.{Statements}
use Rattle.source_meaning.specs.Calls.{header_of, function_at}
use Rattle.source_meaning.specs.Meaning.{statics_end, setting_of, initial_objects}
use Rattle.tac_ir.specs.declared.instruction.Instruction.{Instruction}
use Rattle.tac_ir.specs.declared.instruction.Instruction.TheVariants as tac
use Rattle.tac_ir.specs.Temporaries.{temporaries}
use Rattle.tac_ir.specs.declared.function.CodeFunction.{CodeFunction}
use Rattle.tac_ir.specs.declared.function.Tac.{Tac}
use Rattle.tac_ir.specs.Meaning.{header_of_code, objects_before}
use Rattle.c_lower.specs.Placed.{Placed, Holds}
use Rattle.c_lower.specs.Statements.{Exits, LowersStatements}

-- the exits of a function's body: its end, and its return
abbrev pub function_exits : (end return : ℕ) → Exits
function_exits end return = record { next = end; breaks = end; continues = end; returns = return }

-- the body of a function, at whose end it gives 0 of its kind, and its only return
abbrev pub LowersBody : Placed → (result : Kind) → (entry : ℕ) → Statements → Type 0
LowersBody c result entry body =
    (end : ℕ) × (return : ℕ) × LowersStatements c body entry (function_exits end return)
    × Holds c end (tac.ZeroOf result 0 return) × Holds c return (tac.Return 0)

abbrev pub placed_in : (texts : List (List ℕ)) → (literals : List Bool) → Function → CodeFunction → Placed
placed_in texts literals f c = record {
  code = c.code;
  keys = c.keys;
  blocks = c.blocks;
  loops = c.loops;
  texts = texts;
  literals = literals;
  variables = all_of f;
}

-- its temporaries are no more than the values that are needed at once while the highest of its expressions is
-- evaluated,
-- and one for its result
pub record LowersFunction (texts : List (List ℕ)) (literals : List Bool) (result : Kind) (height : ℕ)
    (function : Function) (c : CodeFunction) : Type 0 where
  pub header : header_of_code c ≡ header_of function
  pub homes : (n : ℕ) (i : Instruction) → slice_get c.code n ≡ Some i → temporaries i ≤ max 1 height
  pub body : LowersBody (placed_in texts literals function c) result c.entry function.body

abbrev pub result_in : List Kind → Option Function → Kind
result_in results None = Void
result_in results (Some f) = get_or results f.type_number Void

abbrev pub height_in : List StaticObject → (number : ℕ) → Option Function → ℕ
height_in statics n None = 0
height_in statics n (Some f) = function_height statics n f

abbrev pub LowersAt : (texts : List (List ℕ)) → (literals : List Bool) → (result : Kind) → (height : ℕ)
    → Option Function → Option CodeFunction → Type 0
LowersAt texts literals result height None None = Unit {0}
LowersAt texts literals result height None (Some c) = ⊥
LowersAt texts literals result height (Some f) None = ⊥
LowersAt texts literals result height (Some f) (Some c) = LowersFunction texts literals result height f c

-- of each static object whether it is a string literal
abbrev pub literals_of : List StaticObject → List Bool
literals_of = map (λ (o : StaticObject). o.is_literal)

-- the code of a program: its functions by number, and its static objects as they are before the run
pub record IsLowered (program : Program) (code : Tac) : Type 0 where
  pub headers : map header_of_code code.functions ≡ map header_of program.functions
  pub results : code.results ≡ map (λ (f : FunctionType). f.result) program.function_types
  pub main : code.main ≡ program.main
  pub bytes : code.global_bytes ≡ statics_end program.statics 0
  pub statics : (budgets : BudgetSizes)
      → objects_before code (setting_of program budgets) ≡ initial_objects program (setting_of program budgets)
  pub functions : (f : ℕ) → LowersAt code.texts (literals_of program.statics)
      (result_in code.results (function_at program.functions f))
      (height_in program.statics f (function_at program.functions f)) (function_at program.functions f)
      (slice_get code.functions f)
