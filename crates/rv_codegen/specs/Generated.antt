-- What is generated from, what is generated, and when nothing is.
use Rattle.std.specs.Prelude.{◌≡◌, ℕ, ◌+◌, ◌^◌, ◌<◌, ◌≤◌, true, false, List, length, Some}
use Rattle.addr_map.specs.Places.{MapSizes, functions_begin, code_begin, code_size}
use Rattle.rv_isa.specs.declared.instruction.Instr.{Instr}
use Rattle.rv_asm.specs.Forms.{IsAssemblable, longest_size}
use Rattle.flat_code.specs.declared.function.FlatFunction.{FlatFunction}
use Rattle.flat_code.specs.declared.function.FlatProgram.{FlatProgram}
use Rattle.flat_code.specs.Calls.{function_in}
use Rattle.reg_plan.specs.declared.plan.FunctionPlan.{FunctionPlan}
use Rattle.machine_laws.specs.Layout.Lists.{items_of}
use Rattle.machine_laws.specs.Segments.Segments.{words_below, rows_below, code_words, table_words}
use Rattle.machine_laws.specs.Calls.Table.{start_address}
use Rattle.machine_laws.specs.Segments.Segments.{code_bytes, table_bytes, FitsSegments}
use Rattle.rv_codegen.specs.declared.code.GenerateError.{GenerateError}
use Rattle.rv_codegen.specs.declared.code.GenerateError.TheVariants.{TooLarge, RuntimeTooLarge, Memory}

-- what is generated from: a plan for each function, and numbers of functions and instructions that fit their types
pub record IsReady (program : FlatProgram) (plans : List FunctionPlan) : Type 0 where
  pub plans_are : length plans ≡ length program.functions
  pub functions : length program.functions < 2 ^ 32
  pub bodies : (f : ℕ) (g : FlatFunction) → function_in program f ≡ Some g → length g.body < 2 ^ 32

-- a function cannot be assembled: its longest forms have too many words
abbrev pub HasLongFunction : MapSizes → FlatProgram → List FunctionPlan → Type 0
HasLongFunction m p plans =
    (f : ℕ) × (f < length p.functions) × (2 ^ 28 ≤ longest_size (items_of m p plans f))

-- the functions below a number are generated
pub record AreBelow (map : MapSizes) (program : FlatProgram) (plans : List FunctionPlan) (number : ℕ)
    (rows : List Instr)
    (runtime compiled : List ℕ) : Type 0 where
  pub rows_are : rows ≡ rows_below map program plans number
  pub runtime_is : runtime ≡ words_below map program plans true number
  pub compiled_is : compiled ≡ words_below map program plans false number
  pub assemblable : (f : ℕ) → f < number → IsAssemblable (items_of map program plans f)

-- the code of a program
pub record IsGenerated (map : MapSizes) (program : FlatProgram) (plans : List FunctionPlan) (start : ℕ)
    (table compiled : List
    ℕ) : Type 0 where
  pub start_is : start ≡ start_address program
  pub table_is : table ≡ table_words map program plans
  pub compiled_is : compiled ≡ code_words map program plans
  pub fits : FitsSegments map program plans

-- When each answer comes that gives no code. The words of a function are those of its list (`words_of`), however long it
-- is, so every program has a number of bytes.
abbrev pub IsCause : MapSizes → FlatProgram → List FunctionPlan → GenerateError → Type 0
IsCause m p plans (TooLarge n) = (code_size < code_bytes m p plans) × (n ≡ code_bytes m p plans)
IsCause m p plans (RuntimeTooLarge n) =
    (code_bytes m p plans ≤ code_size) × (code_begin < functions_begin + table_bytes m p plans)
    × (n ≡ table_bytes m p plans)
IsCause m p plans Memory = Unit {0}
