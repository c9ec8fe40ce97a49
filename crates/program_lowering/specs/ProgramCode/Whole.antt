-- The functions of a program in turn.
use Rattle.std.specs.Prelude.{◌≡◌, ℕ, Bool, ◌&&◌, nat_le, List, [], ◌∷◌, ◌++◌, map, get_or}
use Rattle.c_tree.specs.declared.expression.Kind.{Kind}
use Rattle.c_tree.specs.declared.expression.Kind.TheVariants.{Void}
use Rattle.c_tree.specs.Programs.{Function, FunctionType}
use Rattle.tac_ir.specs.declared.function.CodeFunction.{CodeFunction}
use Rattle.tac_ir.specs.declared.function.StaticData.{StaticData}
use Rattle.tac_ir.specs.declared.function.Tac.{Tac}
use Rattle.program_lowering.specs.StatementCode.Sizes.{each_height}
use Rattle.program_lowering.specs.StatementCode.Switches.{each_decided}
use Rattle.program_lowering.specs.ExpressionCode.Emitted.{Stays}
use Rattle.program_lowering.specs.declared.programs.program.Lowering.{Lowering}
use Rattle.program_lowering.specs.ProgramCode.Code.{IsFunction}

-- a function whose temporaries are counted by its room, and whose switches have at most one default label each
abbrev pub is_ready : Function → Bool
is_ready f = nat_le (each_height f.body) f.room && each_decided f.body

-- the code of functions by number
abbrev pub AreFunctions : (texts : List (List ℕ)) → (literals : List Bool) → (results : List Kind) → List Function
    → List CodeFunction → Type 0
AreFunctions texts literals results [] [] = Unit {0}
AreFunctions texts literals results (f ∷ fs) (c ∷ cs) =
    IsFunction texts literals (get_or results f.type_number Void) f c × AreFunctions texts literals results fs cs
AreFunctions texts literals results _ _ = ⊥

-- what the functions of each type give
abbrev pub results_of : List FunctionType → List Kind
results_of = map (λ t. t.result)

-- what is done so far, with one function more
pub record Holding (before after : Lowering) (results : List Kind) (function : Function) : Type 0 where
  pub code : CodeFunction
  pub functions : after.functions.items ≡ before.functions.items ++ code ∷ []
  pub texts_stay : Stays before.texts.items after.texts.items
  pub literals_same : after.literals.items ≡ before.literals.items
  pub is : (ts : List (List ℕ)) → Stays after.texts.items ts → IsFunction ts before.literals.items
      (get_or results function.type_number Void) function code

-- a program has these parts
pub record Assembles (main bytes : ℕ) (statics : List StaticData) (results : List Kind) (lowering : Lowering)
    (code : Tac) : Type 0
  where
    pub main_is : code.main ≡ main
    pub bytes_are : code.global_bytes ≡ bytes
    pub statics_are : code.statics ≡ statics
    pub results_are : code.results ≡ results
    pub functions_are : code.functions ≡ lowering.functions.items
    pub texts_are : code.texts ≡ lowering.texts.items
