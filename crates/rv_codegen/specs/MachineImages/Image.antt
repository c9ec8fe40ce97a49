-- The image of a program: four segments, and the machine that begins it.
use Rattle.std.specs.Prelude.{◌≡◌, ℕ, ◌-◌, List, ◌++◌, length, replicate, None, nat_lt, if◌then◌else◌}
use Rattle.std.specs.Prelude.{slice_index}
use Rattle.addr_map.specs.Places.{MapSizes, functions_begin, code_begin, objects_begin, spaces_begin}
use Rattle.behaviours.specs.Behaviour.{Follows}
use Rattle.behaviours.specs.Steps.{run}
use Rattle.elf_image.specs.Layout.{content_of}
use Rattle.elf_image.specs.Tests.{image_fault}
use Rattle.elf_image.specs.Writing.{WrittenSegment, WrittenImage, image_bytes, content}
use Rattle.rv_sim.specs.Behaviour.{behaviour}
use Rattle.rv_sim.specs.Start.{start_of}
use Rattle.machine_laws.specs.View.Segments.{Hold}
use Rattle.flat_code.specs.declared.function.FlatProgram.{FlatProgram}
use Rattle.flat_code.specs.Memory.{Bytes, AreBytes}
use Rattle.flat_code.specs.State.{Stuck}
use Rattle.flat_code.specs.Meaning.{step, started, flat_meaning}
use Rattle.reg_plan.specs.declared.plan.FunctionPlan.{FunctionPlan}
use Rattle.reg_plan.specs.Tests.{AreAccepted}
use Rattle.machine_laws.specs.Following.Code.{IsEncodable}
use Rattle.machine_laws.specs.Following.Matching.{object_bytes, space_bytes}
use Rattle.machine_laws.specs.Following.Start.{IsStartable, begins}
use Rattle.machine_laws.specs.Layout.Lists.{bytes_of}
use Rattle.machine_laws.specs.Segments.Segments.{code_words, table_words, FitsSegments}
use Rattle.machine_laws.specs.Calls.Table.{start_address}

-- a segment of code: the file has all its bytes
abbrev pub code_part : (address : ℕ) → (words : List ℕ) → WrittenSegment
code_part a words = record { address = a; bytes = bytes_of words; size = length (bytes_of words) }

-- The four segments: the jump table with the start and the tails, and the functions of the runtime; the functions of
-- the program; the objects, of which the file has the first bytes; and the runtime's spaces, as well.
abbrev pub image_with : MapSizes → (start : ℕ) → (table compiled : List ℕ) → (objects spaces : List ℕ) → WrittenImage
image_with m start table compiled objects spaces = record {
  entry = start;
  jump_table = code_part functions_begin table;
  code = code_part code_begin compiled;
  objects = record { address = objects_begin; bytes = objects; size = object_bytes m };
  runtime = record { address = spaces_begin; bytes = spaces; size = space_bytes m };
}

-- those of a program with its generated code
unfoldable pub written : MapSizes → FlatProgram → List FunctionPlan → (objects spaces : List ℕ) → WrittenImage
written m p plans objects spaces =
    image_with m (start_address p) (table_words m p plans) (code_words m p plans) objects spaces

-- so many bytes of memory, of which the file has the first (ELF-64, "Program header table": those behind p_filesz are
-- zero)
abbrev pub filled : (size : ℕ) → List ℕ → List ℕ
filled n bytes = bytes ++ replicate (n - length bytes) 0

-- The file is an image with these four segments and this entry, and the machine that begins it has the code in memory,
-- and the data.
pub record IsImage (map : MapSizes) (program : FlatProgram) (plans : List FunctionPlan) (objects spaces : List ℕ)
    (file : List ℕ) : Type 0 where
  pub fits : FitsSegments map program plans
  pub file_is : file ≡ image_bytes (written map program plans objects spaces)
  pub passes : image_fault file ≡ None
  pub content_is : content_of file ≡ content (written map program plans objects spaces)
  pub starts : start_of (content_of file)
      ≡ begins (start_address program) (bytes_of (table_words map program plans)) (bytes_of
      (code_words map program plans))
      (filled (object_bytes map) objects) (filled (space_bytes map) spaces)

-- The machine that begins the image follows the program, for every input: where its plans are accepted and its run is
-- never stuck, from any memory that has the data.
pub record ImageFollows (map : MapSizes) (program : FlatProgram) (plans : List FunctionPlan) (objects spaces : List ℕ)
    (file : List ℕ) : Type 0 where
  pub follows : (memory : Bytes) (input : List ℕ) → AreAccepted program plans → IsEncodable program
      → IsStartable map program
      → Hold (object_bytes map) (space_bytes map) memory (filled (object_bytes map) objects)
      (filled (space_bytes map) spaces)
      → AreBytes memory
      → ((k : ℕ) → run (step map program) k (started program memory input) ≡ Stuck → ⊥)
      → Follows 6 (flat_meaning map program memory input) (behaviour (start_of (content_of file)) input)

-- a memory that has them
abbrev pub data_memory : (objects spaces : List ℕ) → Bytes
data_memory objects spaces =
    λ a.
    if nat_lt a spaces_begin then slice_index objects (a - objects_begin)
    else slice_index spaces (a - spaces_begin)
