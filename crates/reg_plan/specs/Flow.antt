-- Live ranges as a data-flow problem: its nodes are the instructions of a function, and its edges lead back from where
-- an instruction leads. There is one fact for each virtual register.
use Rattle.std.specs.Prelude.{◌≡◌, ℕ, ◌<◌, ◌+◌, ◌^◌, ◌⊎◌, List, length, Option, Some, slice_get}
use Rattle.data_flow.specs.declared.runs.Run.{Run}
use Rattle.data_flow.specs.declared.relation.Relation.{Relation}
use Rattle.data_flow.specs.Relations.{IsRelated}
use Rattle.flat_code.specs.declared.instruction.FlatInstruction.{FlatInstruction}
use Rattle.flat_code.specs.declared.function.FlatProgram.{FlatProgram}
use Rattle.reg_plan.specs.declared.flow.Problem.{Problem}
use Rattle.reg_plan.specs.Needs.{ReadsAt, MakesAt, AlwaysMakesAt, LeadsAt}

-- the numbers of which something holds are related to a node more, and no others
pub record Gains (old new : Relation) (P : ℕ → Type 0) (node : ℕ) : Type 0 where
  pub has : (y : ℕ) → P y → IsRelated new y node
  pub kept : (y v : ℕ) → IsRelated old y v → IsRelated new y v
  pub only : (y v : ℕ) → IsRelated new y v → IsRelated old y v ⊎ (P y × (v ≡ node))

-- the edge to a place is added, if it is one of the function, and there the facts of what the instruction always makes
pub record AddsSuccessor (old new : Problem) (made : ℕ → Type 0) (place : ℕ) (to : Option ℕ) (count : ℕ) : Type 0 where
  pub edge : (q : ℕ) → to ≡ Some q → q < count → IsRelated new.edges q place
  pub generates : (q y : ℕ) → to ≡ Some q → q < count → made y → IsRelated new.generated y q
  pub edges_kept : (q v : ℕ) → IsRelated old.edges q v → IsRelated new.edges q v
  pub edges_only : (q v : ℕ) → IsRelated new.edges q v
      → IsRelated old.edges q v ⊎ ((to ≡ Some q) × (q < count) × (v ≡ place))
  pub generated_kept : (y v : ℕ) → IsRelated old.generated y v → IsRelated new.generated y v
  pub generated_only : (y v : ℕ) → IsRelated new.generated y v
      → IsRelated old.generated y v ⊎ ((to ≡ Some v) × (v < count) × made y)
  pub killed : new.killed ≡ old.killed

-- the problem has an edge for each place where an instruction leads, and the facts of what it reads and always makes;
-- all of the first so many instructions, and no others
pub record Represents (program : FlatProgram) (function : ℕ) (body : List FlatInstruction) (done : ℕ)
    (problem : Problem) : Type
    0 where
  pub edges : (pc q : ℕ) → pc < done → LeadsAt body pc q → IsRelated problem.edges q pc
  pub edges_only : (q pc : ℕ) → IsRelated problem.edges q pc → LeadsAt body pc q
  pub read : (pc y : ℕ) → pc < done → ReadsAt program function body pc y → IsRelated problem.generated y pc
  pub made : (pc q y : ℕ) → pc < done → LeadsAt body pc q → AlwaysMakesAt program body pc y
      → IsRelated problem.generated y q
  pub generated_only : (y v : ℕ) → IsRelated problem.generated y v
      → ReadsAt program function body v y ⊎ ((pc : ℕ) × LeadsAt body pc v × AlwaysMakesAt program body pc y)
  pub killed : (pc y : ℕ) → pc < done → MakesAt program body pc y → IsRelated problem.killed y pc
  pub killed_only : (y pc : ℕ) → IsRelated problem.killed y pc → MakesAt program body pc y

-- what an instruction reads or makes has a number below a bound
pub record IsNamed (program : FlatProgram) (function : ℕ) (body : List FlatInstruction) (count : ℕ) : Type 0 where
  pub read : (pc y : ℕ) → ReadsAt program function body pc y → y < count
  pub made : (pc y : ℕ) → MakesAt program body pc y → y < count

-- how many nodes and facts a problem has
pub record HasSizes (problem : Problem) (nodes facts : ℕ) : Type 0 where
  pub edges : length problem.edges.rows.items ≡ nodes
  pub generated : length problem.generated.rows.items ≡ facts
  pub killed : length problem.killed.rows.items ≡ facts

-- the nodes of runs have numbers of 32 bits, and so has the one behind each
abbrev pub AreSmall : List Run → Type 0
AreSmall runs = (k : ℕ) (r : Run) → slice_get runs k ≡ Some r → r.last + 1 < 2 ^ 32
