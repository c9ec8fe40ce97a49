-- The words of the two segments of code that are generated for a program: the functions of the program one behind the
-- other in compiled code; the jump table with the start and the tails of endings, and the functions of the runtime,
-- before it.
use Rattle.std.specs.Prelude.{ℕ, zero, suc, ◌+◌, ◌*◌, ◌<◌, ◌≤◌, Bool, true, false, not, if◌then◌else◌, take, drop}
use Rattle.std.specs.Prelude.{List, [], ◌++◌, map, length, Option, Some, None}
use Rattle.addr_map.specs.Places.{MapSizes, functions_begin, code_begin, code_size}
use Rattle.rv_isa.specs.declared.instruction.Instr.{Instr}
use Rattle.rv_isa.specs.Table.{word_of}
use Rattle.rv_asm.specs.Forms.{IsAssemblable}
use Rattle.rv_asm.specs.Words.{words_of}
use Rattle.flat_code.specs.declared.function.FlatFunction.{FlatFunction}
use Rattle.flat_code.specs.declared.function.FlatProgram.{FlatProgram}
use Rattle.flat_code.specs.Calls.{function_in}
use Rattle.flat_code.specs.Meaning.{is_runtime_function}
use Rattle.reg_plan.specs.declared.plan.FunctionPlan.{FunctionPlan}
use Rattle.machine_laws.specs.Blocks.Tails.{tails}
use Rattle.machine_laws.specs.Calls.Calls.{row}
use Rattle.machine_laws.specs.Calls.Table.{source_count, runtime_begin}
use Rattle.machine_laws.specs.Following.Start.{start_block}
use Rattle.machine_laws.specs.Layout.Lists.{items_of}

-- whether a function is one of the runtime, or one of the program
abbrev pub is_of : (runtime : Bool) → Option FlatFunction → Bool
is_of r None = false
is_of true (Some f) = f.is_runtime
is_of false (Some f) = not f.is_runtime

abbrev pub function_words : MapSizes → FlatProgram → List FunctionPlan → (function : ℕ) → List ℕ
function_words m p plans f = words_of (items_of m p plans f)

-- the words of a function, if it is one of those that are asked for
abbrev pub words_if : MapSizes → FlatProgram → List FunctionPlan → (runtime : Bool) → (function : ℕ) → List ℕ
words_if m p plans r f = if is_of r (function_in p f) then function_words m p plans f else []

-- those of the functions below a number
unfoldable pub words_below : MapSizes → FlatProgram → List FunctionPlan → (runtime : Bool) → (number : ℕ) → List ℕ
words_below m p plans r zero = []
words_below m p plans r (suc k) = words_below m p plans r k ++ words_if m p plans r k

-- where a function begins
abbrev pub begin_if : MapSizes → FlatProgram → List FunctionPlan → (runtime : Bool) → (function : ℕ) → ℕ
begin_if m p plans true f = runtime_begin p + 4 * length (words_below m p plans true f)
begin_if m p plans false f = code_begin + 4 * length (words_below m p plans false f)

unfoldable pub begin : MapSizes → FlatProgram → List FunctionPlan → (function : ℕ) → ℕ
begin m p plans f = begin_if m p plans (is_runtime_function (function_in p f)) f

-- the entries of the jump table of the functions below a number
unfoldable pub rows_below : MapSizes → FlatProgram → List FunctionPlan → (number : ℕ) → List Instr
rows_below m p plans zero = []
rows_below m p plans (suc k) = rows_below m p plans k ++ row (begin m p plans k)

abbrev pub code_words : MapSizes → FlatProgram → List FunctionPlan → List ℕ
code_words m p plans = words_below m p plans false (length p.functions)

-- the start, with the tails of endings
abbrev pub start_with_tails : MapSizes → FlatProgram → List Instr
start_with_tails m p = start_block m p ++ tails

-- the entries with the start and the tails, which stand behind those of the first functions
abbrev pub table_instrs : MapSizes → FlatProgram → (rows : List Instr) → List Instr
table_instrs m p rows =
    take (4 * source_count p) rows ++ (start_with_tails m p ++ drop (4 * source_count p) rows)

abbrev pub table_words : MapSizes → FlatProgram → List FunctionPlan → List ℕ
table_words m p plans =
    map word_of (table_instrs m p (rows_below m p plans (length p.functions)))
    ++ words_below m p plans true (length p.functions)

-- every function can be assembled
abbrev pub AreAssemblable : MapSizes → FlatProgram → List FunctionPlan → Type 0
AreAssemblable m p plans = (f : ℕ) → f < length p.functions → IsAssemblable (items_of m p plans f)

abbrev pub code_bytes : MapSizes → FlatProgram → List FunctionPlan → ℕ
code_bytes m p plans = 4 * length (code_words m p plans)

abbrev pub table_bytes : MapSizes → FlatProgram → List FunctionPlan → ℕ
table_bytes m p plans = 4 * length (table_words m p plans)

-- both segments have room for what is generated
pub record FitsSegments (map : MapSizes) (program : FlatProgram) (plans : List FunctionPlan) : Type 0 where
  pub assemblable : AreAssemblable map program plans
  pub code : code_bytes map program plans ≤ code_size
  pub table : functions_begin + table_bytes map program plans ≤ code_begin
