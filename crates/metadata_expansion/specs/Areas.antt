-- The structures that instructions put into the temporaries of a function, by a table over these.
use Rattle.std.specs.Prelude.{◌≡◌, ℕ, ◌^◌, ◌<◌, ◌≤◌, ◌==◌, if◌then◌else◌, List, get_or, length}
use Rattle.obj_memory.specs.Heap.{rounded_up}
use Rattle.c_tree.specs.declared.expression.Kind.{Kind}
use Rattle.c_tree.specs.declared.expression.Kind.TheVariants.{Structure}
use Rattle.tac_ir.specs.declared.instruction.Instruction.{Instruction}
use Rattle.tac_ir.specs.declared.instruction.Instruction.TheVariants as tac
use Rattle.tac_ir.specs.declared.function.Tac.{Tac}
use Rattle.tac_ir.specs.Meaning.{function_in}
use Rattle.tac_ir.specs.Structures.{greatest_structure, result_of, result_of_type}
use Rattle.metadata_expansion.specs.declared.areas.StructurePut.{StructurePut}

-- the bytes of a structure that is made of zeros, taken, or given by a call
abbrev pub bytes_of_structure : Kind → ℕ
bytes_of_structure (Structure n) = n
bytes_of_structure kind = 0

abbrev pub structure_taken : Tac → Instruction → ℕ
structure_taken t (tac.ZeroOf kind d m) = bytes_of_structure kind
structure_taken t (tac.Take kind line d a m) = bytes_of_structure kind
structure_taken t (tac.Call f line d n m) = bytes_of_structure (result_of t.results (function_in t f))
structure_taken t (tac.CallThrough type_number line d n m) = bytes_of_structure (result_of_type t.results type_number)
structure_taken t i = 0

-- the bytes of a structure that is put into a temporary, as another one has them
abbrev pub put_by : StructurePut → (temporary : ℕ) → ℕ
put_by p i = if p.to == i then rounded_up 16 p.size else 0

-- the greatest structure of each of so many temporaries
pub record AreGreatest (list : List ℕ) (count : ℕ) (code : Tac) (instructions : List Instruction) : Type 0 where
  pub size : length list ≡ count
  pub each : (i : ℕ) → i < count → get_or list i 0 ≡ greatest_structure code instructions i
  pub few : (i : ℕ) → get_or list i 0 ≤ 2 ^ 65
