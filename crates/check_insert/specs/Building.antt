-- How the checks are put in: each access keeps its node, which gets its spatial check; the temporal check and the
-- access stand behind all nodes.
use Rattle.std.specs.Prelude.{ℕ, ◌+◌, List, [], ◌∷◌, ◌++◌, map, length, take, get_or, Option, Some, None}
use Rattle.obj_memory.specs.Access.{scalar_size}
use Rattle.c_tree.specs.declared.expression.Kind.{Kind}
use Rattle.c_tree.specs.declared.expression.Kind.TheVariants.{Void, Scalar as OfScalar, Structure, Array}
use Rattle.c_tree.specs.Kinds.{size_of_kind}
use Rattle.tac_ir.specs.declared.instruction.Mode.{Mode}
use Rattle.tac_ir.specs.declared.instruction.Mode.TheVariants.{Named, Unchecked, Judged}
use Rattle.tac_ir.specs.declared.instruction.Test.TheVariants.{Spatial, Temporal}
use Rattle.tac_ir.specs.declared.instruction.Instruction.{Instruction}
use Rattle.tac_ir.specs.declared.instruction.Instruction.TheVariants.{Read, Write, Update, Judge}
use Rattle.tac_ir.specs.declared.function.Span.{Span}
use Rattle.tac_ir.specs.declared.function.CountedLoop.{CountedLoop}
use Rattle.tac_ir.specs.declared.function.CodeFunction.{CodeFunction}
use Rattle.tac_ir.specs.declared.function.Tac.{Tac}
use Rattle.check_insert.specs.declared.access.Access.{Access}
use Rattle.check_insert.specs.Counting.{checks_needed, sum_over}

abbrev pub unless_bare : Kind → Access → Option Access
unless_bare Void a = None
unless_bare (OfScalar k) a = Some a
unless_bare (Structure n) a = Some a
unless_bare (Array n) a = None

abbrev pub if_unchecked : Mode → Option Access → Option Access
if_unchecked Named a = None
if_unchecked Unchecked a = a
if_unchecked Judged a = None

-- an instruction that gets checks
abbrev pub access_of : Instruction → Option Access
access_of (Read kind mode line key d a m) = if_unchecked mode (unless_bare kind (record {
  size = size_of_kind kind;
  line = line;
  key = key;
  pointer = a;
  judged = Read kind Judged line key d a m;
}))
access_of (Write kind mode line key d a b m) = if_unchecked mode (unless_bare kind (record {
  size = size_of_kind kind;
  line = line;
  key = key;
  pointer = a;
  judged = Write kind Judged line key d a b m;
}))
access_of (Update u k f mode line at key d a b m) = if_unchecked mode (Some (record {
  size = scalar_size k;
  line = line;
  key = key;
  pointer = a;
  judged = Update u k f Judged line at key d a b m;
}))
access_of i = None

-- at its node
abbrev pub front : (next : ℕ) → Option Access → Instruction → Instruction
front next None i = i
front next (Some a) i = Judge Spatial a.size a.line a.key a.pointer next

-- behind all nodes, from one node on
abbrev pub back : (next : ℕ) → Option Access → List Instruction
back next None = []
back next (Some a) = Judge Temporal a.size a.line a.key a.pointer (next + 1) ∷ a.judged ∷ []

abbrev pub behind : (next : ℕ) → Option Access → ℕ
behind next None = next
behind next (Some a) = next + 2

abbrev pub fronts : (next : ℕ) → List Instruction → List Instruction
fronts next [] = []
fronts next (i ∷ is) = front next (access_of i) i ∷ fronts (behind next (access_of i)) is

abbrev pub backs : (next : ℕ) → List Instruction → List Instruction
backs next [] = []
backs next (i ∷ is) = back next (access_of i) ++ backs (behind next (access_of i)) is

-- where the checks of each instruction begin behind all nodes
abbrev pub places : (next : ℕ) → List Instruction → List ℕ
places next [] = []
places next (i ∷ is) = next ∷ places (behind next (access_of i)) is

abbrev pub with_checks : List Instruction → List Instruction
with_checks code = fronts (length code) code ++ backs (length code) code

-- The nodes behind all others that the checks of so many instructions take, from the first on, end at a node; those of
-- the nodes of a span are again a span.

abbrev pub place_after : List Instruction → (count : ℕ) → ℕ
place_after code n = length code + sum_over checks_needed (take n code)

abbrev pub added_to : List Instruction → Span → Span
added_to code body = record { start = place_after code body.start; end = place_after code body.end }

abbrev pub with_added : List Instruction → CountedLoop → CountedLoop
with_added code l = record l { added = added_to code l.body }

-- by the places of all instructions
abbrev pub with_added_at : (places : List ℕ) → (end : ℕ) → CountedLoop → CountedLoop
with_added_at ps end l = record l {
  added = record {
    start = get_or ps l.body.start end;
    end = get_or ps l.body.end end;
  };
}

abbrev pub checked_function : CodeFunction → CodeFunction
checked_function c = record c { code = with_checks c.code; loops = map (with_added c.code) c.loops }

abbrev pub checked_program : Tac → Tac
checked_program t = record t { functions = map checked_function t.functions }
