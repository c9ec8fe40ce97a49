-- The flat program of an expansion: the functions of the text with their blocks laid; behind them those of the runtime;
-- and last the function with which a run begins.
use Rattle.std.specs.Prelude.{ℕ, suc, ◌+◌, List, [], ◌∷◌, ◌++◌, length, Option, Some, None, true, false, slice_get}
use Rattle.addr_map.specs.Places.{MapSizes}
use Rattle.tac_ir.specs.declared.function.CodeFunction.{CodeFunction}
use Rattle.tac_ir.specs.declared.function.Tac.{Tac}
use Rattle.flat_code.specs.declared.function.FlatFunction.{FlatFunction}
use Rattle.flat_code.specs.declared.function.FlatProgram.{FlatProgram}
use Rattle.metadata_plan.specs.Laid.{place_of, body_of}
use Rattle.metadata_relation.specs.Registers.{parameters_end, result_words}
use Rattle.metadata_relation.specs.Blocks.{Expansion, block, prologue, entry_code, result_of}
use Rattle.metadata_relation.specs.Waiting.{Layout}

-- a function of the text, with homes of its virtual registers
abbrev pub function_of : Expansion → (function : ℕ) → CodeFunction → (homes : List ℕ) → FlatFunction
function_of e u c homes = record {
  parameters = parameters_end c;
  results = result_words (result_of e.code c);
  room = c.room;
  is_runtime = false;
  homes = homes;
  body = body_of (block e u c) (prologue e c) c;
}

-- those of a list, the first of which has a number
abbrev pub functions_from : Expansion → (homes : CodeFunction → List ℕ) → (first : ℕ) → List CodeFunction
    → List FlatFunction
functions_from e homes u [] = []
functions_from e homes u (c ∷ cs) = function_of e u c (homes c) ∷ functions_from e homes (suc u) cs

-- the function with which a run begins has two virtual registers
abbrev pub entry_of : MapSizes → Tac → FlatFunction
entry_of m t = record {
  parameters = 0;
  results = 0;
  room = 32;
  is_runtime = true;
  homes = 0 ∷ 1 ∷ [];
  body = entry_code m t;
}

-- the place of each node of each function
abbrev pub place_in : Expansion → (function : ℕ) → Option CodeFunction → (node : ℕ) → ℕ
place_in e u None n = 0
place_in e u (Some c) n = place_of (block e u c) (prologue e c) c n

abbrev pub address_of : Expansion → (function node : ℕ) → ℕ
address_of e u n = place_in e u (slice_get e.code.functions u) n

abbrev pub program_of : Expansion → (homes : CodeFunction → List ℕ) → (runtime : List FlatFunction) → FlatProgram
program_of e homes runtime = record {
  functions = functions_from e homes 0 e.code.functions ++ (runtime ++ (entry_of e.map e.code ∷ []));
  entry = length e.code.functions + length runtime;
}

abbrev pub layout_of : Expansion → (homes : CodeFunction → List ℕ) → (runtime : List FlatFunction) → Layout
layout_of e homes runtime = record {
  expansion = e;
  address = address_of e;
  program = program_of e homes runtime;
}
