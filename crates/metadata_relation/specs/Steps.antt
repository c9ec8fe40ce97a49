-- What the steps of instructions rest on, and which of them are covered so far.
use Rattle.std.specs.Prelude.{◌≡◌, ℕ, ◌^◌, ◌<◌, ◌≤◌, Bool, true, false, not, ◌&&◌, ◌||◌, ◌==◌, List, [], ◌∷◌}
use Rattle.std.specs.Prelude.{length, map, Option, Some, None, slice_get, nat_le, nat_lt}
use Rattle.behaviours.specs.Steps.{run}
use Rattle.addr_map.specs.Places.{AreMapped, code_begin, function_address}
use Rattle.obj_memory.specs.declared.value.Scalar.{Scalar}
use Rattle.c_tree.specs.declared.expression.Kind.{Kind}
use Rattle.c_tree.specs.declared.expression.Kind.TheVariants.{Void, Scalar as OfScalar, Structure, Array}
use Rattle.c_tree.specs.declared.program.Variable.{Variable}
use Rattle.c_tree.specs.declared.format.Piece.{Piece}
use Rattle.c_tree.specs.declared.format.Piece.TheVariants as piece
use Rattle.c_tree.specs.Format.{pieces}
use Rattle.c_tree.specs.Kinds.{size_of_kind}
use Rattle.c_tree.specs.ValidProgram.{is_valid_program}
use Rattle.c_tree.specs.declared.expression.Routine.{Routine}
use Rattle.c_tree.specs.declared.expression.Routine.TheVariants as routine
use Rattle.c_tree.specs.declared.expression.Update.{Update}
use Rattle.c_tree.specs.declared.expression.Update.TheVariants.{Arithmetic, Forward, Back}
use Rattle.source_meaning.specs.Blocks.{has_objects}
use Rattle.source_meaning.specs.Calls.{header_of}
use Rattle.source_meaning.specs.Good.{plain_type}
use Rattle.source_meaning.specs.Meaning.{setting_of, initial_objects}
use Rattle.source_meaning.specs.Printing.{pieces_or_none}
use Rattle.tac_ir.specs.declared.instruction.Instruction.{Instruction}
use Rattle.tac_ir.specs.declared.instruction.Instruction.TheVariants as tac
use Rattle.tac_ir.specs.declared.instruction.Mode.{Mode}
use Rattle.tac_ir.specs.declared.instruction.Mode.TheVariants.{Named, Unchecked, Judged}
use Rattle.tac_ir.specs.declared.function.CodeFunction.{CodeFunction}
use Rattle.tac_ir.specs.declared.function.Tac.{Tac}
use Rattle.tac_ir.specs.Fitting.{is_word}
use Rattle.tac_ir.specs.Meaning.{function_in, header_of_code, objects_before, objects_in, text_in}
use Rattle.tac_ir.specs.Stage.{Stage}
use Rattle.tac_ir.specs.Structures.{result_of_type}
use Rattle.flat_code.specs.Memory.{Bytes}
use Rattle.flat_code.specs.State as flat
use Rattle.flat_code.specs.Routines.Metadata.{IsObjectWord, KeepsShadow}
use Rattle.flat_code.specs.Meaning.{step}
use Rattle.lib_wrappers.specs.AllocatingRoutines.Entering.{block_bytes}
use Rattle.metadata_plan.specs.Registers.{all_variables}
use Rattle.metadata_relation.specs.Blocks.{is_short, objects_of_body, result_of}
use Rattle.metadata_relation.specs.InlineCode.{IsInlineCode}
use Rattle.metadata_relation.specs.Expanded.{IsExpanded}
use Rattle.metadata_relation.specs.Registers.{is_no_aggregate}
use Rattle.metadata_relation.specs.Structures.{HaveAreas}
use Rattle.metadata_relation.specs.Stages.{Compiled, map_of, Matches}

-- The lists that stand inline do what is asked of them, the flat program is the expansion of the code, entries depend on the
-- bytes of the shadow space alone, the sizes are those of a map, and the functions of the setting are those of the typed
-- program. Each function has an entry in the jump table, and a number for its type that leaves the highest bit of a key
-- free. The typed program is valid, the setting is its own, its functions have the headers of those of the code, each type
-- gives what it gives there, and the static objects are those that its initializers make. What the calls are charged for a
-- function has room for its structures by value.
pub record IsCompiled (c : Compiled) (IsGood : Bytes → Type 0) : Type 0 where
  pub inline : IsInlineCode (map_of c) c.entry IsGood c.layout.expansion.inline
  pub expanded : IsExpanded c.layout c.entry IsGood
  pub local : (m m' : Bytes) → KeepsShadow (map_of c) m m' → IsGood m
      → IsGood m' × ((a : ℕ) → IsObjectWord (map_of c) a → c.entry m' a ≡ c.entry m a)
  pub mapped : AreMapped (map_of c)
  pub sizes : c.setting.sizes ≡ map_of c
  pub functions : map header_of c.typed.functions ≡ c.setting.functions
  pub few : function_address (length c.setting.functions) ≤ code_begin
  pub types : (f : ℕ) → c.layout.expansion.types f < 2 ^ 63
  pub valid : is_valid_program c.typed ≡ true
  pub setting_is : c.setting ≡ setting_of c.typed (map_of c).budgets
  pub before : objects_before c.layout.expansion.code (setting_of c.typed (map_of c).budgets)
      ≡ initial_objects c.typed (setting_of c.typed (map_of c).budgets)
  pub results : c.layout.expansion.code.results ≡ c.setting.results
  pub headers : map header_of_code c.layout.expansion.code.functions ≡ map header_of c.typed.functions
  pub areas : HaveAreas c.layout.expansion.code

abbrev pub is_scalar_type : Option Scalar → Bool
is_scalar_type None = false
is_scalar_type (Some k) = true

-- a structure has a byte at least
abbrev pub is_sized : Kind → Bool
is_sized Void = true
is_sized (OfScalar k) = true
is_sized (Structure n) = nat_le 1 n
is_sized (Array n) = true

-- an update by elements of a size that is a word
abbrev pub is_update_by_word : Update → Bool
is_update_by_word (Arithmetic op t) = true
is_update_by_word (Forward size) = is_word size
is_update_by_word (Back size) = is_word size

-- an access that names its object, or was judged
abbrev pub is_settled : Mode → Bool
is_settled Named = true
is_settled Unchecked = false
is_settled Judged = true

-- a number of 33 bits, as each size of an object, each offset in one and a sum of two of them is
abbrev pub is_few : (number : ℕ) → Bool
is_few n = nat_lt n (2 ^ 33)

-- the numbers of a member both have few bits, or an instruction holds one of them
abbrev pub is_part : (offset size : ℕ) → Bool
is_part offset size =
    (is_word offset && is_word size) && ((is_short offset || is_short size) || (is_few offset && is_few size))

-- a routine whose list stands inline
abbrev pub is_inline_routine : Routine → Bool
is_inline_routine routine.Putchar = true
is_inline_routine routine.Getchar = true
is_inline_routine routine.Exit = true
is_inline_routine routine.Abort = true
is_inline_routine r = false

-- each object has a byte
abbrev pub are_sized : List Variable → Bool
are_sized [] = true
are_sized (v ∷ vs) = (not v.is_object || nat_le 1 (size_of_kind v.kind)) && are_sized vs

-- what a block enters: there are objects, each with a byte, and a register holds how many bytes they take
abbrev pub can_be_entered : List Variable → Bool
can_be_entered vs = has_objects vs && (are_sized vs && is_word (block_bytes vs))

-- the instructions whose steps are known
abbrev pub covers : CodeFunction → Instruction → Bool
covers c (tac.Skip m) = true
covers c (tac.Constant d w m) = true
covers c (tac.GetPlain d x m) = is_scalar_type (plain_type (all_variables c) x)
covers c (tac.SetPlain x a m) = true
covers c (tac.ZeroOf kind d m) = is_sized kind
covers c (tac.HomePointer d x m) = true
covers c (tac.Convert kind d a m) = true
covers c (tac.Unary op ty d a m) = true
covers c (tac.Binary op ty line d a b m) = true
covers c (tac.Offset form size d a b m) = is_word size
covers c (tac.Take (Structure size) line d a m) = nat_le 1 size
covers c (tac.Read kind mode line key d a m) = is_settled mode
covers c (tac.Write (OfScalar k) mode line key d a b m) = is_settled mode
covers c (tac.Write (Structure size) mode line key d a b m) = is_settled mode && is_word size
covers c (tac.Update w k f mode line at key d a right m) = is_settled mode && is_update_by_word w
covers c (tac.Judge test size line key a m) = nat_le 1 size && is_word size
covers c (tac.StorePart (OfScalar k) line x offset a m) = is_word offset
covers c (tac.StorePart (Structure size) line x offset a m) = is_word offset && is_word size
covers c (tac.StoreText n x offset m) = true
covers c (tac.Zero x m) = true
covers c (tac.EnterBlock b line m) = can_be_entered (objects_in (Some c) b)
covers c (tac.LeaveBlock b m) = true
covers c (tac.Branch a x y) = true
covers c (tac.Case a w x y) = is_word w
covers c (tac.Turn counted m) = true
covers c (tac.FunctionPointer d f m) = true
covers c (tac.StaticPointer d n m) = true
covers c (tac.UpdatePlain w k f line d x right m) = is_update_by_word w
covers c (tac.Difference size d a b m) = nat_le 1 size && is_few size
covers c (tac.Narrow offset size d a m) = is_part offset size
covers c (tac.Member offset size d a m) = is_part offset size
covers c (tac.Library r line d n m) = true
covers c (tac.Print x line d n m) = true
covers c (tac.Call f line d n m) = true
covers c (tac.CallThrough type_number line d n m) = true
covers c (tac.Return a) = true
covers c i = false

-- an array is never handed over, as an argument or a result
abbrev pub is_handed_over : Kind → Bool
is_handed_over Void = true
is_handed_over (OfScalar k) = true
is_handed_over (Structure n) = true
is_handed_over (Array n) = false

abbrev pub are_handed_over : List Variable → Bool
are_handed_over [] = true
are_handed_over (v ∷ vs) = is_handed_over v.kind && are_handed_over vs

-- a body may have objects that can be entered as those of a block
abbrev pub can_enter_body : List Variable → Bool
can_enter_body vs = not (has_objects vs) || can_be_entered vs

-- a function whose body can be entered, and that takes and gives no array
abbrev pub is_covered_call : Tac → Option CodeFunction → Bool
is_covered_call t None = true
is_covered_call t (Some k) =
    (can_enter_body (objects_of_body k) && are_handed_over k.parameters) && is_handed_over (result_of t k)

-- so is each function of a type
abbrev pub are_covered_calls : Tac → (type_number : ℕ) → List CodeFunction → Bool
are_covered_calls t type_number [] = true
are_covered_calls t type_number (k ∷ ks) =
    (not (k.type_number == type_number) || is_covered_call t (Some k)) && are_covered_calls t type_number ks

-- so is `main`, which takes nothing and gives a scalar (C99 5.1.2.2.1)
abbrev pub is_covered_main : Tac → Option CodeFunction → Bool
is_covered_main t None = false
is_covered_main t (Some k) =
    (is_covered_call t (Some k) && is_no_aggregate (result_of t k)) && length k.parameters == 0

-- a structure, which has a byte, is given as the first temporary, whose area begins where those of its function do
abbrev pub gives_from : Kind → (temporary : ℕ) → Bool
gives_from Void a = true
gives_from (OfScalar k) a = true
gives_from (Structure n) a = a == 0 && nat_le 1 n
gives_from (Array n) a = false

abbrev pub is_covered_return : Tac → Option CodeFunction → (temporary : ℕ) → Bool
is_covered_return t None a = true
is_covered_return t (Some k) a = gives_from (result_of t k) a

-- a structure that a call gives comes to a temporary that may have contents
abbrev pub comes_to : Kind → (may_have : Bool) → Bool
comes_to Void may = true
comes_to (OfScalar k) may = true
comes_to (Structure n) may = may
comes_to (Array n) may = true

abbrev pub result_comes_to : Tac → Option CodeFunction → (may_have : Bool) → Bool
result_comes_to t None may = true
result_comes_to t (Some k) may = comes_to (result_of t k) may

-- what stands in a format is bytes
abbrev pub have_bytes : List Piece → Bool
have_bytes [] = true
have_bytes (piece.Byte b ∷ ps) = nat_lt b 256 && have_bytes ps
have_bytes (piece.Directive d ∷ ps) = have_bytes ps

-- What is asked of the node besides: where a structure is put into a temporary, this one may have contents; a function can be
-- entered; and a structure is given as the first temporary.
abbrev pub admits : Compiled → (function node : ℕ) → Instruction → Bool
admits c u n (tac.ZeroOf (Structure size) d m) = c.layout.expansion.contents u m d
admits c u n (tac.Take kind line d a m) = c.layout.expansion.contents u m d
admits c u n (tac.Print x line d count m) =
    have_bytes (pieces_or_none (pieces (text_in c.layout.expansion.code x)))
admits c u n (tac.Call f line d count m) =
    is_covered_call c.layout.expansion.code (function_in c.layout.expansion.code f)
    && result_comes_to c.layout.expansion.code (function_in c.layout.expansion.code f) (c.layout.expansion.contents u m d)
admits c u n (tac.CallThrough type_number line d count m) =
    are_covered_calls c.layout.expansion.code type_number c.layout.expansion.code.functions
    && comes_to (result_of_type c.layout.expansion.code.results type_number) (c.layout.expansion.contents u m d)
admits c u n (tac.Return a) = is_covered_return c.layout.expansion.code (function_in c.layout.expansion.code u) a
admits c u n i = true

-- at a node stands an instruction that is covered
pub record IsCovered (c : Compiled) (function node : ℕ) : Type 0 where
  pub code : CodeFunction
  pub there : slice_get c.layout.expansion.code.functions function ≡ Some code
  pub instruction : Instruction
  pub at : slice_get code.code node ≡ Some instruction
  pub covered : covers code instruction ≡ true
  pub admitted : admits c function node instruction ≡ true

-- the first call is covered
pub record CoversMain (c : Compiled) : Type 0 where
  pub main : is_covered_main c.layout.expansion.code (function_in c.layout.expansion.code c.layout.expansion.code.main)
      ≡ true

-- all instructions are
pub record AreAllCovered (c : Compiled) : Type 0 where
  pub first : CoversMain c
  pub each : (u n : ℕ) (k : CodeFunction) (i : Instruction) → slice_get c.layout.expansion.code.functions u ≡ Some k
      → slice_get k.code n ≡ Some i → (covers k i ≡ true) × (admits c u n i ≡ true)

-- the run of flat code comes to where it matches
pub record ComesToMatch (c : Compiled) (IsGood : Bytes → Type 0) (stage : Stage) (x : flat.Stage) : Type 0 where
  pub steps : ℕ
  pub matches : Matches c IsGood stage (run (step (map_of c) c.layout.program) steps x)
