-- The expansion of a program under a form of the shadow space.
use Rattle.std.specs.Prelude.{◌≡◌, ℕ, ◌<◌, ◌≤◌, ◌^◌, false, List, length, get_or, slice_get, Option, Some}
use Rattle.addr_map.specs.Places.{MapSizes}
use Rattle.tac_ir.specs.declared.instruction.Instruction.{Instruction}
use Rattle.tac_ir.specs.declared.function.CodeFunction.{CodeFunction}
use Rattle.tac_ir.specs.declared.function.Tac.{Tac}
use Rattle.flat_code.specs.declared.instruction.FlatInstruction.{FlatInstruction}
use Rattle.flat_code.specs.declared.function.FlatFunction.{FlatFunction}
use Rattle.flat_code.specs.declared.function.FlatProgram.{FlatProgram}
use Rattle.shadow_space.specs.Form.{EntryCode}
use Rattle.metadata_plan.specs.Entries.{AreAllClosed, AreClosed, Entries}
use Rattle.metadata_relation.specs.Contents.{Contents}
use Rattle.metadata_relation.specs.FunctionTypes.{HaveTypeKeys}
use Rattle.metadata_relation.specs.InlineLists.{inline_lists}
use Rattle.metadata_relation.specs.Structures.{HaveAreas}
use Rattle.metadata_plan.specs.Laid.{body_of}
use Rattle.metadata_relation.specs.Registers.{parameters_end, result_words}
use Rattle.metadata_relation.specs.Blocks.{Expansion, block, prologue, result_of}
use Rattle.metadata_relation.specs.Homes.{homes}
use Rattle.metadata_relation.specs.Laid.{program_of}
use Rattle.metadata_expansion.specs.Laying.{laid_size}
use Rattle.instruction_selection.specs.declared.context.FunctionContext.{FunctionContext}
use Rattle.instruction_selection.specs.Contexts.{IsPrepared, type_at}
use Rattle.instruction_selection.specs.Registers.{IsAmong}
use Rattle.program_expansion.specs.Limits.{AreWithinLimits}
use Rattle.program_expansion.specs.declared.error.ExpandError.{ExpandError}
use Rattle.program_expansion.specs.declared.error.ExpandError.TheVariants as error

-- The expansion of a program, by the temporaries that may have contents: its code does not depend on these.
abbrev pub expansion_with : (read write : EntryCode) → MapSizes → Tac → (types : ℕ → ℕ)
    → (entries : (function : ℕ) → Entries) → (contents : (function : ℕ) → Contents) → Expansion
expansion_with read write m t types entries contents = record {
  inline = inline_lists read write m;
  map = m;
  code = t;
  types = types;
  entries = entries;
  contents = contents;
}

-- where none has
abbrev pub expansion_of : (read write : EntryCode) → MapSizes → Tac → (types : ℕ → ℕ)
    → (entries : (function : ℕ) → Entries) → Expansion
expansion_of read write m t types entries = expansion_with read write m t types entries (λ u n y. false)

-- what the keys of functions tell, by a list
abbrev pub types_by : List ℕ → (function : ℕ) → ℕ
types_by keys f = get_or keys f 0

-- ---- the code of one function, by its entries

abbrev pub expansion_in : (read write : EntryCode) → FunctionContext → Entries → Expansion
expansion_in read write x es = expansion_of read write x.map.now x.program.now (type_at x) (λ u. es)

abbrev pub block_in : (read write : EntryCode) → FunctionContext → Entries → Instruction → List FlatInstruction
block_in read write x es i = block (expansion_in read write x es) 0 x.function.now i

abbrev pub begin_in : (read write : EntryCode) → FunctionContext → Entries → List FlatInstruction
begin_in read write x es = prologue (expansion_in read write x es) x.function.now

-- an instruction has a block that can be put
abbrev pub CanPutIn : FunctionContext → Instruction → Type 0
CanPutIn x i = IsPrepared x × IsAmong x.program.now x.function.now i

-- a function but for its body
abbrev pub flat_function : Tac → CodeFunction → (body : List FlatInstruction) → FlatFunction
flat_function t c body = record {
  parameters = parameters_end c;
  results = result_words (result_of t c);
  room = c.room;
  is_runtime = false;
  homes = homes c;
  body = body;
}

-- the body of a function by entries that were found for it
pub record IsBodyOf (read write : EntryCode) (map : MapSizes) (code : Tac) (types : ℕ → ℕ) (function : CodeFunction)
    (body : List FlatInstruction) : Type 0 where
  pub entries : Entries
  pub closed : AreClosed code function entries
  pub is : body ≡ body_of (block (expansion_of read write map code types (λ u. entries)) 0 function)
      (prologue (expansion_of read write map code types (λ u. entries)) function) function

-- it would have 2^31 instructions or more
pub record HasLongBody (read write : EntryCode) (map : MapSizes) (code : Tac) (types : ℕ → ℕ) (function : CodeFunction)
    : Type 0 where
  pub entries : Entries
  pub closed : AreClosed code function entries
  pub size : 2 ^ 31
      ≤ laid_size (block (expansion_of read write map code types (λ u. entries)) 0 function)
      (prologue (expansion_of read write map code types (λ u. entries)) function) function

-- a function with such a body
pub record IsFunctionOf (read write : EntryCode) (map : MapSizes) (code : Tac) (types : ℕ → ℕ) (function : CodeFunction)
    (flat : FlatFunction) : Type 0 where
  pub body : IsBodyOf read write map code types function flat.body
  pub is : flat ≡ flat_function code function flat.body

-- ---- whole programs

-- the function of a number is in a list
pub record HasFunction (read write : EntryCode) (map : MapSizes) (code : Tac) (types : ℕ → ℕ) (function : CodeFunction)
    (there : Option FlatFunction) : Type 0 where
  pub flat : FlatFunction
  pub at : there ≡ Some flat
  pub is : IsFunctionOf read write map code types function flat

-- the first functions of a program, in a list
pub record AreFunctionsOf (read write : EntryCode) (map : MapSizes) (code : Tac) (types : ℕ → ℕ) (count : ℕ)
    (list : List FlatFunction) : Type 0 where
  pub size : length list ≡ count
  pub each : (u : ℕ) (c : CodeFunction) → u < count → slice_get code.functions u ≡ Some c
      → HasFunction read write map code types c (slice_get list u)

-- all functions of a program within limits
pub record AreAllFunctionsOf (read write : EntryCode) (map : MapSizes) (code : Tac) (list : List FlatFunction) : Type 0
  where
    pub limits : AreWithinLimits code
    pub types : ℕ → ℕ
    pub keys : HaveTypeKeys code.functions types
    pub low : (f : ℕ) → types f < 2 ^ 63
    pub functions : AreFunctionsOf read write map code types (length code.functions) list

-- the flat program is the expansion of a program, with entries that were found for it, whatever may have contents
pub record IsExpansionOf (read write : EntryCode) (map : MapSizes) (code : Tac) (runtime : List FlatFunction)
    (program : FlatProgram) : Type 0 where
  pub types : ℕ → ℕ
  pub entries : (function : ℕ) → Entries
  pub keys : HaveTypeKeys code.functions types
  pub low : (f : ℕ) → types f < 2 ^ 63
  pub closed : AreAllClosed code entries
  pub areas : HaveAreas code
  pub is : (contents : (function : ℕ) → Contents)
      → program ≡ program_of (expansion_with read write map code types entries contents) homes runtime

-- a function has 2^31 instructions or more
pub record HasLongFunction (read write : EntryCode) (map : MapSizes) (code : Tac) : Type 0 where
  pub types : ℕ → ℕ
  pub keys : HaveTypeKeys code.functions types
  pub number : ℕ
  pub function : CodeFunction
  pub there : slice_get code.functions number ≡ Some function
  pub long : HasLongBody read write map code types function

-- when each error comes
abbrev pub Refuses : (read write : EntryCode) → MapSizes → Tac → ExpandError → Type 0
Refuses read write m t error.OutsideLimits = AreWithinLimits t → ⊥
Refuses read write m t error.TooManyInstructions = HasLongFunction read write m t
Refuses read write m t error.Memory = Unit {0}
