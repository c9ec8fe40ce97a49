-- The code of the operators on integers (C99 6.5.3.3, 6.5.5 to 6.5.12, 6.3.1.3), and what is asked of it.
use Rattle.std.specs.Prelude.{◌≡◌, ◌≢◌, ℕ, ◌+◌, ◌-◌, ◌*◌, ◌^◌, ◌<◌, ◌≤◌, List, length, Some, None}
use Rattle.behaviours.specs.Steps.{run}
use Rattle.addr_map.specs.Places.{MapSizes}
use Rattle.sb_base.specs.declared.ending.Ending.{Ending}
use Rattle.sb_base.specs.declared.ending.Ending.TheVariants.{Divide}
use Rattle.sb_base.specs.Endings.{code_of, report_of}
use Rattle.obj_memory.specs.declared.int_type.IntType.{IntType}
use Rattle.obj_memory.specs.declared.operator.UnaryOperator.{UnaryOperator}
use Rattle.obj_memory.specs.declared.operator.BinaryOperator.{BinaryOperator}
use Rattle.obj_memory.specs.declared.operator.BinaryOperator.TheVariants.{Add, Subtract}
use Rattle.obj_memory.specs.Integers.{fit}
use Rattle.obj_memory.specs.Operators.{unary_value, binary_value}
use Rattle.flat_code.specs.declared.instruction.FlatInstruction.{FlatInstruction}
use Rattle.flat_code.specs.declared.function.FlatProgram.{FlatProgram}
use Rattle.flat_code.specs.State.{Values, State, Frame, Stands, Over}
use Rattle.flat_code.specs.Calls.{function_in}
use Rattle.flat_code.specs.Meaning.{body_of, weight_of, step}
use Rattle.flat_code.specs.Words.{IsOfWords}
use Rattle.flat_code.specs.Routines.Routine.{HasAt}

-- the code of a constant, which may take several instructions, and of each operator over registers; those from scratch
-- on are its own. A division by zero ends the run at the line
pub record OperatorCode : Type 0 where
  pub constant : (into word scratch : ℕ) → List FlatInstruction
  pub unary : UnaryOperator → IntType → (into from scratch : ℕ) → List FlatInstruction
  pub binary : BinaryOperator → IntType → (into left right scratch line : ℕ) → List FlatInstruction
  pub convert : IntType → (into from scratch : ℕ) → List FlatInstruction

-- where a run of a program is
pub record Position : Type 0 where
  pub function : ℕ
  pub place : ℕ
  pub state : State
  pub frames : List Frame

-- The run comes to a place of its function with at most so many instructions' weight of work, and nothing but registers
-- changes: one gets a value, and all others below scratch stay.
pub record Computes (map : MapSizes) (program : FlatProgram) (position : Position)
    (place into value scratch most : ℕ) : Type 0 where
  pub steps : ℕ
  pub after : Values
  pub work : ℕ
  pub few : work ≤ most * weight_of (function_in program position.function)
  pub comes : run (step map program) steps (Stands position.function position.place position.state position.frames)
      ≡ Stands position.function place (record position.state { values = after; work = position.state.work + work })
      position.frames
  pub gives : after into ≡ value
  pub others : (y : ℕ) → y < scratch → y ≢ into → after y ≡ position.state.values y

-- the run ends, with the same of its work, and once more for each byte of the report
pub record EndsBy (map : MapSizes) (program : FlatProgram) (position : Position) (ending : Ending)
    (most : ℕ) : Type 0 where
  pub steps : ℕ
  pub after : Values
  pub work : ℕ
  pub few : work ≤ (most + length (report_of ending)) * weight_of (function_in program position.function)
  pub comes : run (step map program) steps (Stands position.function position.place position.state position.frames)
      ≡ Over (code_of ending) (report_of ending) (record position.state {
        values = after;
        work = position.state.work +
            work;
      })

-- how many instructions a binary operator takes at most: of those by which an update adds 1, fewer
abbrev pub binary_most : BinaryOperator → ℕ
binary_most Add = 3
binary_most Subtract = 3
binary_most _ = 4

-- the code stands in a function where the run is, whose state is one of words
pub record IsHere (program : FlatProgram) (position : Position) (code : List FlatInstruction) : Type 0 where
  pub has : HasAt (body_of (function_in program position.function)) position.place code
  pub words : IsOfWords position.state

-- Wherever it stands, the code of an operator comes to its end with the operator's value. A constant of 33 bits takes
-- at most three instructions, and one that an instruction holds is one.
pub record AreOperators (operators : OperatorCode) : Type 0 where
  pub constant : (map : MapSizes) (p : FlatProgram) (x : Position) (into word scratch : ℕ) → into < scratch
      → word < 2 ^ 64 → IsHere p x (operators.constant into word scratch)
      → Computes map p x (x.place + length (operators.constant into word scratch)) into word scratch 5
  pub few_constant : (map : MapSizes) (p : FlatProgram) (x : Position) (into word scratch : ℕ) → into < scratch
      → word < 2 ^ 33 → IsHere p x (operators.constant into word scratch)
      → Computes map p x (x.place + length (operators.constant into word scratch)) into word scratch 3
  pub short_constant : (map : MapSizes) (p : FlatProgram) (x : Position) (into word scratch : ℕ) → into < scratch
      → word < 2 ^ 31 - 2 ^ 11 → IsHere p x (operators.constant into word scratch)
      → Computes map p x (x.place + length (operators.constant into word scratch)) into word scratch 1
  pub unary : (map : MapSizes) (p : FlatProgram) (x : Position) (op : UnaryOperator) (t : IntType)
      (into from scratch : ℕ) → into < scratch → from < scratch → IsHere p x (operators.unary op t into from scratch)
      → Computes map p x (x.place + length (operators.unary op t into from scratch)) into
      (unary_value op t (x.state.values from)) scratch 5
  pub binary : (map : MapSizes) (p : FlatProgram) (x : Position) (op : BinaryOperator) (t : IntType)
      (into left right scratch line value : ℕ) → into < scratch → left < scratch → right < scratch
      → IsHere p x (operators.binary op t into left right scratch line)
      → binary_value op t (x.state.values left) (x.state.values right) ≡ Some value
      → Computes map p x (x.place + length (operators.binary op t into left right scratch line)) into value scratch
      (binary_most op)
  pub divides : (map : MapSizes) (p : FlatProgram) (x : Position) (op : BinaryOperator) (t : IntType)
      (into left right scratch line : ℕ) → into < scratch → left < scratch → right < scratch
      → IsHere p x (operators.binary op t into left right scratch line)
      → binary_value op t (x.state.values left) (x.state.values right) ≡ None
      → EndsBy map p x (Divide line) (binary_most op)
  pub convert : (map : MapSizes) (p : FlatProgram) (x : Position) (t : IntType) (into from scratch : ℕ)
      → into < scratch → from < scratch → IsHere p x (operators.convert t into from scratch)
      → Computes map p x (x.place + length (operators.convert t into from scratch)) into (fit t
      (x.state.values from)) scratch 2
