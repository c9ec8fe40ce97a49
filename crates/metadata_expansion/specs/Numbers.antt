-- The numbers of an expansion that have to fit an instruction of flat code: the words of constants have 64 bits, and
-- all others 32. The bytes of an activation record have 64 bits and fit.
use Rattle.std.specs.Prelude.{◌≡◌, ℕ, ◌+◌, ◌^◌, ◌<◌, max, List, [], ◌∷◌, length, Some, slice_get}
use Rattle.addr_map.specs.Places.{MapSizes}
use Rattle.tac_ir.specs.declared.instruction.Instruction.{Instruction}
use Rattle.tac_ir.specs.declared.instruction.Instruction.TheVariants as tac
use Rattle.tac_ir.specs.declared.function.CodeFunction.{CodeFunction}
use Rattle.tac_ir.specs.declared.function.Tac.{Tac}
use Rattle.metadata_plan.specs.Registers.{first_free}
use Rattle.metadata_plan.specs.Blocks.{block, prologue}
use Rattle.metadata_plan.specs.Laid.{begin_size, size_from}
use Rattle.metadata_plan.specs.OperatorLists.Operators.{operators}
use Rattle.metadata_expansion.specs.Homes.{free_count}

-- the number of the function that an instruction calls
abbrev pub callee : Instruction → ℕ
callee (tac.Call f line d n next) = f
callee _ = 0

abbrev pub greatest_callee : List Instruction → ℕ
greatest_callee [] = 0
greatest_callee (i ∷ is) = max (callee i) (greatest_callee is)

-- the word that an instruction gives, or with which it compares
abbrev pub word_in : Instruction → ℕ
word_in (tac.Constant d w next) = w
word_in (tac.Case a w x y) = w
word_in _ = 0

abbrev pub greatest_word : List Instruction → ℕ
greatest_word [] = 0
greatest_word (i ∷ is) = max (word_in i) (greatest_word is)

-- the line that a report of an instruction names
abbrev pub line_in : Instruction → ℕ
line_in (tac.UpdatePlain w k f line d x right next) = line
line_in (tac.Binary op ty line d a b next) = line
line_in (tac.Library r line d n next) = line
line_in (tac.Call f line d n next) = line
line_in _ = 0

abbrev pub greatest_line : List Instruction → ℕ
greatest_line [] = 0
greatest_line (i ∷ is) = max (line_in i) (greatest_line is)

-- how many virtual registers a function has
abbrev pub register_count : CodeFunction → ℕ
register_count c = first_free c + free_count c

-- how many instructions its expansion has
abbrev pub body_size : MapSizes → Tac → CodeFunction → ℕ
body_size m t c =
    begin_size (block operators m t c) (prologue c) c + size_from (block operators m t c) (prologue c) c 0 c.code

pub record AreSmall (map : MapSizes) (code : Tac) (function : CodeFunction) : Type 0 where
  pub registers : register_count function < 2 ^ 32
  pub instructions : body_size map code function < 2 ^ 31
  pub callees : greatest_callee function.code < 2 ^ 32
  pub words : greatest_word function.code < 2 ^ 64
  pub lines : greatest_line function.code < 2 ^ 32
  pub line : function.line < 2 ^ 32

pub record AreAllSmall (map : MapSizes) (code : Tac) : Type 0 where
  pub functions : (u : ℕ) (c : CodeFunction) → slice_get code.functions u ≡ Some c → AreSmall map code c
  pub count : length code.functions < 2 ^ 32
  pub main : code.main < length code.functions
