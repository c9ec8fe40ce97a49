-- The greatest structures of temporaries, in code by hand. Of the structures one has 20 bytes, 32 as they are rounded, and
-- one 40, 48 as they are rounded:
--     struct s{int a[5];};struct t{int b[10];};
--     struct s f(struct t);struct t g(void);int h(struct s,struct t);struct s k(void);
use Rattle.std.proofs.Common.{◌≡◌, ℕ, List, [], ◌∷◌, None, refl}
use Rattle.c_tree.specs.declared.expression.Kind.TheVariants.{Structure}
use Rattle.obj_memory.specs.declared.int_type.IntType.TheVariants.{Int}
use Rattle.source_meaning_rows.proofs.Samples.{int}
use Rattle.tac_ir.specs.declared.instruction.Mode.TheVariants.{Named}
use Rattle.tac_ir.specs.declared.instruction.Instruction.{Instruction}
use Rattle.tac_ir.specs.declared.instruction.Instruction.TheVariants as tac
use Rattle.tac_ir.specs.declared.function.CodeFunction.{CodeFunction}
use Rattle.tac_ir.specs.declared.function.Tac.{Tac}
use Rattle.tac_ir.specs.Structures.{greatest_structure, structures_below}

of_type : (type_number : ℕ) → CodeFunction
of_type n = record {
  line = 1;
  type_number = n;
  parameters = [];
  variables = [];
  entered = [];
  room = 0;
  entry = 0;
  code = [];
  keys = [];
  blocks = [];
  loops = [];
}

-- f, g, h and k by number, and by the numbers of their types
program : Tac
program = record {
  functions = of_type 2 ∷ of_type 0 ∷ of_type 1 ∷ of_type 3 ∷ [];
  results = Structure 40 ∷ int ∷ Structure 20 ∷ Structure 20 ∷ [];
  main = 2;
  statics = [];
  global_bytes = 0;
  texts = [];
}

-- `return f(g()).a[0];`: the argument of one call is the result of another, and a member of the first's result is read.
-- Both stand in temporary 0 in turn: 48. The room has 48 for the call of g and 32 + 48 for that of f.
nested : List Instruction
nested =
    tac.Call 1 1 0 0 1 ∷ tac.Take (Structure 40) 1 0 0 2 ∷ tac.Call 0 1 0 1 3 ∷ tac.Member 0 20 0 0 4
    ∷ tac.Read int Named 1 None 0 0 6 ∷ tac.ZeroOf int 0 6 ∷ tac.Return 0 ∷ []

nested_areas : structures_below program nested 3 ≡ 48
unfolding program of_type nested
nested_areas = refl

-- `return h(f(x),g());` where x is a variable: temporary 0 has 48 for the argument of f and 32 for what it gives, and
-- temporary 1 has 48. The room has 32 + 48, 48 and 32 + 48.
two_calls : List Instruction
two_calls =
    tac.HomePointer 0 0 1 ∷ tac.Take (Structure 40) 1 0 0 2 ∷ tac.Call 0 1 0 1 3 ∷ tac.Take (Structure 20) 1 0 0 4
    ∷ tac.Call 1 1 1 0 5 ∷ tac.Take (Structure 40) 1 1 1 6 ∷ tac.Call 2 1 0 2 8 ∷ tac.ZeroOf int 0 8 ∷ tac.Return 0
    ∷ []

two_calls_first : greatest_structure program two_calls 0 ≡ 48
unfolding program of_type two_calls
two_calls_first = refl

two_calls_areas : structures_below program two_calls 2 ≡ 96
unfolding program of_type two_calls
two_calls_areas = refl

-- `k();g();`: temporary 0 has 32 and then 48. The room has both.
in_turn : List Instruction
in_turn = tac.Call 3 1 0 0 1 ∷ tac.Call 1 1 0 0 2 ∷ tac.ZeroOf int 0 3 ∷ tac.Return 0 ∷ []

in_turn_areas : structures_below program in_turn 1 ≡ 48
unfolding program of_type in_turn
in_turn_areas = refl

-- `if(b)return x;return y;` in f, and 0 at its end: 32 once, and the room has as much.
two_returns : List Instruction
two_returns =
    tac.GetPlain 0 0 1 ∷ tac.Branch 0 2 4 ∷ tac.HomePointer 0 1 3 ∷ tac.Take (Structure 20) 1 0 0 7
    ∷ tac.HomePointer 0 2 5 ∷ tac.Take (Structure 20) 1 0 0 7 ∷ tac.ZeroOf (Structure 20) 0 7 ∷ tac.Return 0 ∷ []

two_returns_areas : structures_below program two_returns 1 ≡ 32
unfolding program of_type two_returns
two_returns_areas = refl

-- `(*p)(x);` through a pointer in temporary 0, of the type of f, whose argument stands behind it: 32 and 48.
through : List Instruction
through =
    tac.GetPlain 0 0 1 ∷ tac.HomePointer 1 1 2 ∷ tac.Take (Structure 40) 1 1 1 3 ∷ tac.CallThrough 2 1 0 1 4
    ∷ tac.ZeroOf int 0 5 ∷ tac.Return 0 ∷ []

through_areas : structures_below program through 2 ≡ 80
unfolding program of_type through
through_areas = refl
