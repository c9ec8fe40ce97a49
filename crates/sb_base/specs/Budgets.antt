-- The budgets of a build: their sizes, the ranges of these, and the tests of sizes that are given, in their order.
use Rattle.std.specs.Prelude.{◌≡◌, ℕ, ◌%◌, ◌^◌, ◌≤◌, Bool, ◌&&◌, ◌==◌, nat_le, if◌then◌else◌, Option, Some, None}
use Rattle.std.specs.Prelude.{Result, Ok, Err}
use Rattle.sb_base.specs.declared.budget.Budget.{Budget}
use Rattle.sb_base.specs.declared.budget.Budget.TheVariants.{Heap, Stack, Calls, Blocks, Keys}
use Rattle.sb_base.specs.declared.budget.BudgetFault.{BudgetFault}

-- a size for each budget: bytes of the first three, and numbers of blocks and of keys
pub record BudgetSizes : Type 0 where
  pub heap : ℕ
  pub stack : ℕ
  pub calls : ℕ
  pub blocks : ℕ
  pub keys : ℕ

-- the sizes of a build that asks for no others
abbrev pub default_sizes : BudgetSizes
default_sizes = record { heap = 4194304; stack = 1048576; calls = 4194304; blocks = 16384; keys = 2 ^ 62 }

-- one page of 4096 bytes or more, whole pages, and at most so many bytes
abbrev pub is_pages : (most size : ℕ) → Bool
is_pages most size = nat_le 4096 size && (nat_le size most && (size % 4096 == 0))

-- whether a budget may have this size
abbrev pub allows : Budget → ℕ → Bool
allows Heap size = is_pages 16777216 size
allows Stack size = is_pages 4194304 size
allows Calls size = is_pages 16777216 size
allows Blocks size = nat_le 1 size && nat_le size 65536
allows Keys size = nat_le size (2 ^ 62)

-- the fault of this budget, unless it may have the size
infixr 10 ◌unless_allowed◌
abbrev pub ◌unless_allowed◌ : Budget → ℕ → Option BudgetFault
b unless_allowed size = if allows b size then None else Some (record { which = b; given = size })

-- the fault of a test, else what the tests after it find
infixr 5 ◌then◌
abbrev pub ◌then◌ : Option BudgetFault → Option BudgetFault → Option BudgetFault
None then g = g
(Some f) then g = Some f

-- The first budget, in this order, that may not have its size.
unfoldable pub budget_fault : BudgetSizes → Option BudgetFault
budget_fault s =
    (Heap unless_allowed s.heap) then
    (Stack unless_allowed s.stack) then
    (Calls unless_allowed s.calls) then
    (Blocks unless_allowed s.blocks) then
    (Keys unless_allowed s.keys)

-- what the tests of these sizes answer: budgets of just these sizes where each is allowed, else the first fault
abbrev pub IsTested : BudgetSizes → Result BudgetSizes BudgetFault → Type 0
IsTested given (Ok sizes) = (budget_fault given ≡ None) × (sizes ≡ given)
IsTested given (Err fault) = budget_fault given ≡ Some fault

-- the same ranges as facts
pub record IsPages (most size : ℕ) : Type 0 where
  pub least : 4096 ≤ size
  pub greatest : size ≤ most
  pub whole : size % 4096 ≡ 0

pub record AreInRange (sizes : BudgetSizes) : Type 0 where
  pub heap : IsPages 16777216 sizes.heap
  pub stack : IsPages 4194304 sizes.stack
  pub calls : IsPages 16777216 sizes.calls
  pub some_block : 1 ≤ sizes.blocks
  pub blocks : sizes.blocks ≤ 65536
  pub keys : sizes.keys ≤ 2 ^ 62
