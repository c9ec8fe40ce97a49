-- What stands between a program of integers and its image, and when the image does what the program means.
use Rattle.std.specs.Prelude.{◌≡◌, ℕ, ◌≤◌, List, length, None, Some}
use Rattle.behaviours.specs.Behaviour.{Follows, Faithful}
use Rattle.sb_base.specs.Budgets.{BudgetSizes}
use Rattle.addr_map.specs.Places.{MapSizes}
use Rattle.c_tree.specs.Programs.{Function, Program}
use Rattle.source_meaning.specs.Calls.{function_at}
use Rattle.source_meaning.specs.Meaning.{meaning, setting_of}
use Rattle.tac_ir.specs.declared.function.Tac.{Tac}
use Rattle.c_lower.specs.Programs.{IsLowered}
use Rattle.program_lowering.specs.ProgramCode.Bodies.{HaveBodiesOf}
use Rattle.tac_ir.specs.Bodies.{HaveClosedBodies, KeepVariables}
use Rattle.program_lowering.specs.ProgramCode.Weights.{IsWeighed}
use Rattle.check_insert.specs.Inserted.{Inserted}
use Rattle.check_elim.specs.Available.{IsDroppable}
use Rattle.check_elim.specs.Dropped.{Dropped}
use Rattle.metadata_plan.specs.Laid.{program_of}
use Rattle.metadata_plan.specs.OperatorLists.Operators.{operators}
use Rattle.metadata_expansion.specs.Homes.{homes}
use Rattle.metadata_expansion.specs.Numbers.{AreAllSmall}
use Rattle.flat_code.specs.declared.function.FlatProgram.{FlatProgram}
use Rattle.flat_propagation.specs.Propagated.{propagated}
use Rattle.elf_image.specs.Layout.{content_of}
use Rattle.elf_image.specs.Tests.{image_fault}
use Rattle.rv_sim.specs.Behaviour.{behaviour}
use Rattle.rv_sim.specs.Start.{start_of}

-- the parameters that a function may have (C99 5.2.4.1)
abbrev pub most_parameters : ℕ
most_parameters = 127

pub record HaveFewParameters (program : Program) : Type 0 where
  pub each : (u : ℕ) (f : Function) → function_at program.functions u ≡ Some f → length f.parameters ≤ most_parameters

-- the sizes of the map of a program: budgets, and the bytes of its static objects
abbrev pub sizes_of : Program → BudgetSizes → MapSizes
sizes_of p budgets = (setting_of p budgets).sizes

-- The code of a program, lowered to just the instructions that its text has, with its checks put in and the available
-- ones dropped. The bodies of its counted loops were just the nodes of their text; with those of checks they are
-- closed, and assign their variables nowhere.
pub record IsChecked (program : Program) (code : Tac) : Type 0 where
  pub lowered : Tac
  pub is_lowered : IsLowered program lowered
  pub is_weighed : IsWeighed program lowered
  pub bodies : HaveBodiesOf program lowered
  pub checked : Tac
  pub inserted : Inserted lowered checked
  pub dropped : Dropped IsDroppable checked code
  pub closed : HaveClosedBodies code
  pub variables : KeepVariables code

-- the flat code that checked code expands to, in which values are carried to where they are used
abbrev pub flat_code : MapSizes → Tac → FlatProgram
flat_code m r = propagated (program_of operators m r homes)

-- that of a program, where the numbers of its checked code fit
pub record IsFlat (program : Program) (map : MapSizes) (code : FlatProgram) : Type 0 where
  pub checked : Tac
  pub is_checked : IsChecked program checked
  pub small : AreAllSmall map checked
  pub is_flat : code ≡ flat_code map checked

-- how many instructions the image takes at most for one unit of the program's work: 8 of three-address code, none more
-- for checks, 21 times as many of flat code, and 6 for each of these
abbrev pub cost : ℕ
cost = 1008

-- and how many are promised of every image
abbrev pub promised_cost : ℕ
promised_cost = 1024

-- the largest image that is read, in bytes
abbrev pub most_bytes : ℕ
most_bytes = 67108864

-- The image can be read, and its machine shows what the program means, on each input.
pub record DoesWhatIsMeant (program : Program) (budgets : BudgetSizes) (file : List ℕ) : Type 0 where
  pub size : length file ≤ most_bytes
  pub readable : image_fault file ≡ None
  pub follows : (input : List ℕ)
      → Follows cost (meaning program budgets input) (behaviour (start_of (content_of file)) input)
  pub faithful : (input : List ℕ)
      → Faithful promised_cost (meaning program budgets input) (behaviour (start_of (content_of file)) input)
