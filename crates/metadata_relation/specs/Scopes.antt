-- The states of a run are good, in the scope of the function that runs with the blocks that it has entered: the invariant
-- of the source's meaning, along the calls and blocks that wait.
use Rattle.std.specs.Prelude.{◌≡◌, ℕ, List, [], ◌∷◌, Option, Some, None, slice_get}
use Rattle.addr_map.specs.Places.{MapSizes}
use Rattle.c_tree.specs.declared.program.Variable.{Variable}
use Rattle.c_tree.specs.Blocks.{opened}
use Rattle.c_tree.specs.Programs.{Function, Program}
use Rattle.c_tree.specs.Valid.{Scope}
use Rattle.c_tree.specs.ValidProgram.{function_scope}
use Rattle.source_meaning.specs.State.{State}
use Rattle.source_meaning.specs.Blocks.{Block}
use Rattle.source_meaning.specs.Calls.{caller}
use Rattle.source_meaning.specs.Good.{Context, context_of, file_scope, IsEntered, IsSetUp, Leaves}
use Rattle.tac_ir.specs.declared.function.CodeFunction.{CodeFunction}
use Rattle.tac_ir.specs.declared.function.Tac.{Tac}
use Rattle.tac_ir.specs.Meaning.{blocks_in, function_in, if_there, variables_in}
use Rattle.tac_ir.specs.Stage.{Waiting, Frame, Waits, Entered}

-- the scope of the block of a function's body
abbrev pub scope_of : Program → Option Function → Scope
scope_of p None = file_scope p
scope_of p (Some f) = function_scope p f

-- the numbers of the variables that a block declares
abbrev pub numbers_in : Option CodeFunction → (block : ℕ) → List ℕ
numbers_in c b = if_there (slice_get (blocks_in c) b)

-- the variables that can be named behind the blocks that were entered in the call, the last first
abbrev pub named : Option CodeFunction → (of_body : List Variable) → List Frame → List Variable
named c vs [] = vs
named c vs (Waits w ∷ ws) = vs
named c vs (Entered b block ∷ ws) = opened (numbers_in c b) 0 (variables_in c) (named c vs ws)

-- what a run is: a typed program, its code, and the sizes of the memory
pub record Names : Type 0 where
  pub typed : Program
  pub tac : Tac
  pub sizes : MapSizes

abbrev pub base_of : Names → (function : ℕ) → Scope
base_of n u = scope_of n.typed (slice_get n.typed.functions u)

abbrev pub variables_at : Names → (function : ℕ) → List Frame → List Variable
variables_at n u ws = named (function_in n.tac u) (base_of n u).variables ws

abbrev pub context_at : Names → (function : ℕ) → List Frame → Context
context_at n u ws = context_of (base_of n u) n.sizes (variables_in (function_in n.tac u)) (variables_at n u ws)

-- a block was entered, and the run is still in it
pub record IsInBlock (n : Names) (function number : ℕ) (block : Block) (outer : List Frame) (state : State) : Type 0
  where
    pub before : State
    pub behind : State
    pub entered : IsEntered (base_of n function) n.sizes (variables_in (function_in n.tac function))
        (variables_at n function outer) (numbers_in (function_in n.tac function) number) before block behind
    pub since : Leaves (context_at n function (Entered number block ∷ outer)) behind state

-- a function was called, and the run is still in it
pub record IsInCall (n : Names) (function : ℕ) (waiting : Waiting) (state : State) : Type 0 where
  pub before : State
  pub behind : State
  pub caller_is : waiting.caller ≡ caller before
  pub set_up : IsSetUp (context_at n function []) before.objects behind
  pub since : Leaves (context_at n function []) behind state

-- `main` was called
pub record IsInMain (n : Names) (function : ℕ) (state : State) : Type 0 where
  pub behind : State
  pub since : Leaves (context_at n function []) behind state

-- from each state that waits a good one was come to, up to the state of the run
abbrev pub AreGoodBy : Names → (function : ℕ) → List Frame → State → Type 0
AreGoodBy n u [] s = IsInMain n u s
AreGoodBy n u (Waits w ∷ ws) s = (h : IsInCall n u w s) × AreGoodBy n w.function ws h.before
AreGoodBy n u (Entered b block ∷ ws) s = (h : IsInBlock n u b block ws s) × AreGoodBy n u ws h.before

pub record AreGood (n : Names) (function : ℕ) (frames : List Frame) (state : State) : Type 0 where
  pub by : AreGoodBy n function frames state
