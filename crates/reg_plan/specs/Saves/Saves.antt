-- What calls save.
use Rattle.std.specs.Prelude.{◌≡◌, ℕ, zero, suc, ◌+◌, ◌-◌, ◌≤◌, Bool, true, false, ◌&&◌, if◌then◌else◌, nat_eq, nat_lt}
use Rattle.std.specs.Prelude.{List, [], ◌∷◌, ◌++◌, length, Option, Some, None, slice_get, Vec}
use Rattle.std.specs.Global.{Global}
use Rattle.flat_code.specs.declared.instruction.FlatInstruction.{FlatInstruction}
use Rattle.flat_code.specs.declared.instruction.FlatInstruction.TheVariants.{Call, CallAddress}
use Rattle.flat_code.specs.declared.function.FlatFunction.{FlatFunction}
use Rattle.flat_code.specs.declared.function.FlatProgram.{FlatProgram}
use Rattle.flat_code.specs.Calls.{function_in}
use Rattle.reg_plan.specs.declared.plan.Place.{Place}
use Rattle.reg_plan.specs.declared.plan.Place.TheVariants.{Home, Register}
use Rattle.reg_plan.specs.declared.plan.FunctionPlan.{FunctionPlan}
use Rattle.reg_plan.specs.Accepted.{is_live}
use Rattle.reg_plan.specs.declared.call_saves.saves.CallSaves.{CallSaves}

abbrev pub is_call : FlatInstruction → Bool
is_call (Call g first x) = true
is_call (CallAddress y first n x r) = true
is_call i = false

abbrev pub is_call_of : Option FlatInstruction → Bool
is_call_of None = false
is_call_of (Some i) = is_call i

-- whether a call stands at a place of a function, and how many stand before it
abbrev pub is_call_at : List FlatInstruction → (place : ℕ) → Bool
is_call_at body pc = is_call_of (slice_get body pc)

unfoldable pub calls_before : List FlatInstruction → (place : ℕ) → ℕ
calls_before body zero = 0
calls_before body (suc n) = calls_before body n + (if is_call_at body n then 1 else 0)

abbrev pub is_register : Option Place → Bool
is_register None = false
is_register (Some Home) = false
is_register (Some (Register r)) = true

-- whether a virtual register is kept in a register of the machine and live behind an instruction
abbrev pub is_saved : FlatFunction → FunctionPlan → (place y : ℕ) → Bool
is_saved f plan pc y =
    is_register (slice_get plan.places.items y) && (nat_lt (pc + 1) (length f.body) && is_live plan (pc + 1) y)

-- those of the first so many virtual registers, ascending
unfoldable pub saved_below : FlatFunction → FunctionPlan → (place count : ℕ) → List ℕ
saved_below f plan pc zero = []
saved_below f plan pc (suc n) = saved_below f plan pc n ++ (if is_saved f plan pc n then n ∷ [] else [])

abbrev pub saved_under : Option FlatFunction → Option FunctionPlan → (place : ℕ) → List ℕ
saved_under None plan pc = []
saved_under (Some f) None pc = []
saved_under (Some f) (Some plan) pc = saved_below f plan pc (length plan.live.items)

-- those that a call at a place of a function saves
unfoldable pub saved_at : FlatProgram → List FunctionPlan → (function place : ℕ) → List ℕ
saved_at p plans f pc = saved_under (function_in p f) (slice_get plans f) pc

-- ---- the table

abbrev pub items_of : Option (Vec ℕ Global) → List ℕ
items_of None = []
items_of (Some list) = list.items

abbrev pub row_of : List (Vec ℕ Global) → Option ℕ → List ℕ
row_of rows None = []
row_of rows (Some k) = items_of (slice_get rows k)

-- what a table has for a place
abbrev pub row_at : CallSaves → (place : ℕ) → List ℕ
row_at table pc = row_of table.rows.items (slice_get table.before.items pc)

-- A table has what the calls of a function save.
pub record HasSaves (table : CallSaves) (program : FlatProgram) (plans : List FunctionPlan) (function : ℕ)
    (body : List FlatInstruction) : Type 0 where
  pub each : (pc : ℕ) → is_call_at body pc ≡ true → row_at table pc ≡ saved_at program plans function pc

-- ---- rows while they grow

abbrev pub is_that : Option ℕ → ℕ → Bool
is_that None y = false
is_that (Some x) y = nat_eq x y

-- whether a list ends with a number; and the list that does
unfoldable pub ends_with : List ℕ → ℕ → Bool
ends_with xs y = is_that (slice_get xs (length xs - 1)) y

unfoldable pub with_last : List ℕ → ℕ → List ℕ
with_last xs y = if ends_with xs y then xs else xs ++ y ∷ []

-- the number is put behind the rows of the calls of which a test holds, and those alone
pub record PutsWhere (body : List FlatInstruction) (old new : List (Vec ℕ Global)) (y : ℕ) (test : ℕ → Bool) : Type
    0 where
  pub size : length new ≡ length old
  pub rows : (pc : ℕ) → is_call_at body pc ≡ true
      → items_of (slice_get new (calls_before body pc))
      ≡ (if test pc
      then with_last (items_of (slice_get old (calls_before body pc))) y
      else items_of (slice_get old (calls_before body pc)))

-- how many calls stand before each place of a function, and before its end
pub record Counts (before : List ℕ) (body : List FlatInstruction) : Type 0 where
  pub size : length before ≡ length body + 1
  pub each : (pc : ℕ) → pc ≤ length body → slice_get before pc ≡ Some (calls_before body pc)
