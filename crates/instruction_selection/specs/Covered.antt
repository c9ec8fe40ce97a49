-- Which programs are covered, over their code and the contents of temporaries alone.
use Rattle.std.specs.Prelude.{◌≡◌, ℕ, Bool, true, false, not, ◌&&◌, ◌||◌, ◌==◌, nat_le, List, map, Option, Some, None}
use Rattle.std.specs.Prelude.{get_or, slice_get}
use Rattle.std.specs.List.{list_all}
use Rattle.c_tree.specs.declared.expression.Kind.TheVariants.{Structure}
use Rattle.c_tree.specs.Format.{pieces}
use Rattle.source_meaning.specs.Printing.{pieces_or_none}
use Rattle.tac_ir.specs.declared.instruction.Instruction.{Instruction}
use Rattle.tac_ir.specs.declared.instruction.Instruction.TheVariants as tac
use Rattle.tac_ir.specs.declared.function.CodeFunction.{CodeFunction}
use Rattle.tac_ir.specs.declared.function.Tac.{Tac}
use Rattle.tac_ir.specs.Meaning.{function_in, text_in}
use Rattle.tac_ir.specs.Structures.{result_of_type}
use Rattle.metadata_plan.specs.Entries.{given}
use Rattle.metadata_expansion.specs.ClosedSets.{in_table}
use Rattle.metadata_relation.specs.Contents.{AreKept, Contents, contents_source, takes_word}
use Rattle.metadata_relation.specs.Steps.{covers, have_bytes, is_covered_call, are_covered_calls, is_covered_main}
use Rattle.metadata_relation.specs.Steps.{comes_to, result_comes_to, is_covered_return}
use Rattle.instruction_selection.specs.declared.covered.Coverage.{Coverage}
use Rattle.instruction_selection.specs.declared.covered.contents.FunctionContents.{FunctionContents}

-- which temporaries may have the contents of a structure at a node of a function
abbrev pub ProgramContents : Type 0
ProgramContents = (function : ℕ) → Contents

-- none has, as in a program without structures by value
abbrev pub none_at : Contents
none_at n y = false

abbrev pub no_contents : ProgramContents
no_contents u = none_at

-- what `admits` asks of an instruction of a function, of these
abbrev pub admits_with : Tac → CodeFunction → Contents → Instruction → Bool
admits_with t k contents (tac.ZeroOf (Structure size) d m) = contents m d
admits_with t k contents (tac.Take kind line d a m) = contents m d
admits_with t k contents (tac.Print x line d count m) = have_bytes (pieces_or_none (pieces (text_in t x)))
admits_with t k contents (tac.Call f line d count m) =
    is_covered_call t (function_in t f) && result_comes_to t (function_in t f) (contents m d)
admits_with t k contents (tac.CallThrough type_number line d count m) =
    are_covered_calls t type_number t.functions && comes_to (result_of_type t.results type_number) (contents m d)
admits_with t k contents (tac.Return a) = is_covered_return t (Some k) a
admits_with t k contents i = true

-- what `AreAllCovered` asks, of these
pub record IsCoveredCode (program : Tac) (contents : ProgramContents) : Type 0 where
  pub main : is_covered_main program (function_in program program.main) ≡ true
  pub each : (u n : ℕ) (k : CodeFunction) (i : Instruction) → slice_get program.functions u ≡ Some k
      → slice_get k.code n ≡ Some i → (covers k i ≡ true) × (admits_with program k (contents u) i ≡ true)

-- all instructions are covered with contents that each function keeps
pub record IsCoveredProgram (program : Tac) : Type 0 where
  pub contents : ProgramContents
  pub kept : (u : ℕ) (k : CodeFunction) → slice_get program.functions u ≡ Some k → AreKept program k (contents u)
  pub code : IsCoveredCode program contents

-- ---- temporaries whose word is taken

-- what contents are given of, where that is another temporary than the one that gets them
abbrev pub is_other_source : (source given : Option ℕ) → (temporary : ℕ) → Bool
is_other_source None d y = false
is_other_source (Some a) None y = y == a
is_other_source (Some a) (Some d) y = y == a && not (a == d)

-- what has contents keeps them in its own temporary alone, so the word of another one is taken
abbrev pub reads_word : Instruction → (temporary : ℕ) → Bool
reads_word i y = is_other_source (contents_source i) (given i) y || takes_word i y

-- A temporary may have contents that has an area, and whose word is not taken behind the node.
abbrev pub may_have : FunctionContents → Contents
may_have c n y = nat_le 1 (get_or c.areas.items y 0) && not (in_table c.words n y)

-- ---- as it is tested

abbrev pub is_covered_in : Tac → CodeFunction → Contents → Instruction → Bool
is_covered_in t k contents i = covers k i && admits_with t k contents i

abbrev pub is_covered_with : Tac → CodeFunction → Contents → Bool
is_covered_with t k contents = list_all (is_covered_in t k contents) k.code

-- where no temporary has contents
abbrev pub is_covered_without : Tac → CodeFunction → Bool
is_covered_without t k = is_covered_with t k none_at

-- a function is covered with contents that it keeps
pub record IsCoveredFunction (t : Tac) (k : CodeFunction) : Type 0 where
  pub contents : Contents
  pub kept : AreKept t k contents
  pub covered : is_covered_with t k contents ≡ true

-- so are the functions of a list
pub record AreCoveredFunctions (t : Tac) (ks : List CodeFunction) : Type 0 where
  pub by : (u : ℕ) (k : CodeFunction) → slice_get ks u ≡ Some k → IsCoveredFunction t k

-- whether calls of each function are covered
abbrev pub is_callable : Tac → CodeFunction → Bool
is_callable t k = is_covered_call t (Some k)

abbrev pub callable_functions : Tac → List Bool
callable_functions t = map (is_callable t) t.functions

-- the table tells that
pub record IsTabled (coverage : Coverage) : Type 0 where
  pub each : coverage.callable.now ≡ callable_functions coverage.program.now
  pub all : coverage.are_all ≡ true → list_all (λ b. b) coverage.callable.now ≡ true

-- ---- groups of instructions

-- those that go by a type, a size or a mode of their own
abbrev pub is_tested : Instruction → Bool
is_tested (tac.ZeroOf kind d m) = true
is_tested (tac.Take kind line d a m) = true
is_tested (tac.Offset form size d a b m) = true
is_tested (tac.Judge test size line key a m) = true
is_tested (tac.Case a w x y) = true
is_tested (tac.UpdatePlain w k f line d x right m) = true
is_tested (tac.Difference size d a b m) = true
is_tested (tac.Narrow offset size d a m) = true
is_tested (tac.Member offset size d a m) = true
is_tested i = false

abbrev pub is_access : Instruction → Bool
is_access (tac.Read kind mode line key d a m) = true
is_access (tac.Write kind mode line key d a b m) = true
is_access (tac.Update w k f mode line at key d a right m) = true
is_access (tac.StorePart kind line x offset a m) = true
is_access i = false
