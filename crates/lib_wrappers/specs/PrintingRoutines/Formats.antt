-- `printf` in flat code: all strings are scanned, in order, and then the pieces of the format are put out.
use Rattle.std.specs.Prelude.{◌≡◌, ◌≢◌, ℕ, ◌+◌, ◌<◌, List, [], ◌∷◌, ◌++◌}
use Rattle.addr_map.specs.Places.{MapSizes}
use Rattle.rv_isa.specs.declared.instruction.RegOp.TheVariants.{Add, Sub}
use Rattle.rv_isa.specs.declared.instruction.RegOp32.TheVariants.{Addw}
use Rattle.c_tree.specs.declared.format.Directive.{Directive}
use Rattle.c_tree.specs.declared.format.Directive.TheVariants as directive
use Rattle.c_tree.specs.declared.format.Piece.{Piece}
use Rattle.c_tree.specs.declared.format.Piece.TheVariants as piece
use Rattle.source_meaning.specs.Strings.{scan}
use Rattle.flat_code.specs.declared.instruction.RightOperand.TheVariants.{Register, Number}
use Rattle.flat_code.specs.declared.instruction.FlatInstruction.{FlatInstruction}
use Rattle.flat_code.specs.declared.instruction.FlatInstruction.TheVariants.{Constant, Operate, Operate32, Put}
use Rattle.flat_code.specs.declared.registers.Held.{Held}
use Rattle.flat_actions.specs.Actions.{Basis, Holder, Nowhere, Word, Pointer}
use Rattle.flat_actions.specs.Scanning.{IsScanRoutine}
use Rattle.lib_wrappers.specs.StringRoutines.Putting.{IsPutRoutine}
use Rattle.lib_wrappers.specs.PrintingRoutines.Numbers.{IsNumberRoutine}

-- ---- arguments

-- a string is held as a pointer, any other argument in one register
abbrev pub IsArgumentFor : Directive → Holder → Type 0
IsArgumentFor d Nowhere = ⊥
IsArgumentFor d (Word r) = d ≢ directive.String
IsArgumentFor d (Pointer h) = d ≡ directive.String

abbrev pub AreArgumentsFor : List Directive → List Holder → Type 0
AreArgumentsFor [] [] = Unit {0}
AreArgumentsFor (d ∷ ds) (h ∷ hs) = IsArgumentFor d h × AreArgumentsFor ds hs
AreArgumentsFor _ _ = ⊥

-- ---- the scans: the string of argument i has its end in the register of cursor i

abbrev pub cursor_of : (scratch i : ℕ) → ℕ
cursor_of t i = t + 1 + i

abbrev pub IsScanPart : Basis → (line : ℕ) → Directive → Holder → (cursor own : ℕ) → List FlatInstruction → Type 0
IsScanPart g line d Nowhere k w code = ⊥
IsScanPart g line d (Word r) k w code = (d ≢ directive.String) × (code ≡ [])
IsScanPart g line d (Pointer h) k w code =
    (d ≡ directive.String) × IsScanRoutine g (λ v. scan v line) h (λ f. Unit {0}) k w code

abbrev pub AreScans : Basis → (line scratch own : ℕ) → List Piece → List Holder → (i : ℕ) → List FlatInstruction
    → Type 0
AreScans g line t w [] hs i code = code ≡ []
AreScans g line t w (piece.Byte b ∷ ps) hs i code = AreScans g line t w ps hs i code
AreScans g line t w (piece.Directive d ∷ ps) [] i code = ⊥
AreScans g line t w (piece.Directive d ∷ ps) (h ∷ hs) i code =
    (first rest : List FlatInstruction) × (code ≡ first ++ rest) × IsScanPart g line d h (cursor_of t i) w first
    × AreScans g line t w ps hs (i + 1) rest

-- ---- the pieces: each is put out and counted

abbrev pub byte_code : (byte count own : ℕ) → List FlatInstruction
byte_code b c w = Constant w b ∷ Put w ∷ Operate Add c c (Number 1) ∷ []

abbrev pub count_string : Held → (cursor count own : ℕ) → List FlatInstruction
count_string h k c w = Operate Sub w k (Register h.value) ∷ Operate Add c c (Register w) ∷ []

abbrev pub IsPutPart : MapSizes → Directive → Holder → (cursor count own : ℕ) → List FlatInstruction → Type 0
IsPutPart map d Nowhere k c w code = ⊥
IsPutPart map d (Word r) k c w code = IsNumberRoutine map d r c w code
IsPutPart map d (Pointer h) k c w code =
    (putting : List FlatInstruction) × (code ≡ putting ++ count_string h k c w) × IsPutRoutine map h.value k w putting

abbrev pub ArePuts : MapSizes → (scratch own : ℕ) → List Piece → List Holder → (i : ℕ) → List FlatInstruction → Type 0
ArePuts map t w [] hs i code = code ≡ []
ArePuts map t w (piece.Byte b ∷ ps) hs i code =
    (b < 256) × (rest : List FlatInstruction) × (code ≡ byte_code b t w ++ rest) × ArePuts map t w ps hs i rest
ArePuts map t w (piece.Directive d ∷ ps) [] i code = ⊥
ArePuts map t w (piece.Directive d ∷ ps) (h ∷ hs) i code =
    (first rest : List FlatInstruction) × (code ≡ first ++ rest) × IsPutPart map d h (cursor_of t i) t w first
    × ArePuts map t w ps hs (i + 1) rest

-- the count is the result, converted to int
abbrev pub counted_code : (into count : ℕ) → List FlatInstruction
counted_code into c = Operate32 Addw into c (Number 0) ∷ []

pub record IsPrintCode (basis : Basis) (line : ℕ) (ps : List Piece) (hs : List Holder) (into t w : ℕ)
    (code : List FlatInstruction) : Type 0 where
  pub scanning : List FlatInstruction
  pub putting : List FlatInstruction
  pub scans : AreScans basis line t w ps hs 0 scanning
  pub puts : ArePuts basis.map t w ps hs 0 putting
  pub code_is : code ≡ scanning ++ ((Constant t 0 ∷ []) ++ (putting ++ counted_code into t))
