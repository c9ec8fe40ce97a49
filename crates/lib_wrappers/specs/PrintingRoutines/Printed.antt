-- What `printf` puts out: bytes, and arguments of directives where they are held.
use Rattle.std.specs.Prelude.{◌≡◌, ◌≢◌, ℕ, ◌+◌, ◌<◌, List, [], ◌∷◌, ◌++◌}
use Rattle.addr_map.specs.Places.{MapSizes}
use Rattle.c_tree.specs.declared.format.Directive.TheVariants as directive
use Rattle.c_tree.specs.declared.format.Piece.{Piece}
use Rattle.c_tree.specs.declared.format.Piece.TheVariants as piece
use Rattle.source_meaning.specs.Strings.{scan}
use Rattle.flat_code.specs.declared.instruction.FlatInstruction.{FlatInstruction}
use Rattle.flat_code.specs.Routines.Registers.{AreBelow}
use Rattle.flat_code.specs.Routines.Metadata.{held_registers}
use Rattle.flat_actions.specs.Actions.{Basis, Holder, Word, Pointer}
use Rattle.flat_actions.specs.Scanning.{IsScanRoutine}
use Rattle.lib_wrappers.specs.StringRoutines.Putting.{IsPutRoutine}
use Rattle.lib_wrappers.specs.declared.printing.formats.Printed.{Printed}
use Rattle.lib_wrappers.specs.declared.printing.formats.Printed.TheVariants.{Byte, Number, String}
use Rattle.lib_wrappers.specs.PrintingRoutines.Numbers.{IsNumberRoutine}
use Rattle.lib_wrappers.specs.PrintingRoutines.Formats.{cursor_of, byte_code, count_string}

-- the pieces of the format, and where the arguments of its directives are held
abbrev pub pieces_of : List Printed → List Piece
pieces_of [] = []
pieces_of (Byte b ∷ ps) = piece.Byte b ∷ pieces_of ps
pieces_of (Number d r ∷ ps) = piece.Directive d ∷ pieces_of ps
pieces_of (String h ∷ ps) = piece.Directive directive.String ∷ pieces_of ps

abbrev pub holders_of : List Printed → List Holder
holders_of [] = []
holders_of (Byte b ∷ ps) = holders_of ps
holders_of (Number d r ∷ ps) = Word r ∷ holders_of ps
holders_of (String h ∷ ps) = Pointer h ∷ holders_of ps

-- how many arguments there are
abbrev pub argument_count : List Printed → ℕ
argument_count [] = 0
argument_count (Byte b ∷ ps) = argument_count ps
argument_count (Number d r ∷ ps) = argument_count ps + 1
argument_count (String h ∷ ps) = argument_count ps + 1

-- a directive of strings has a pointer, and the registers are below those that the code may use for itself
abbrev pub ArePrintable : (scratch : ℕ) → List Printed → Type 0
ArePrintable t [] = Unit {0}
ArePrintable t (Byte b ∷ ps) = ArePrintable t ps
ArePrintable t (Number d r ∷ ps) = (d ≢ directive.String) × (r < t) × ArePrintable t ps
ArePrintable t (String h ∷ ps) = AreBelow t (held_registers h) × ArePrintable t ps

-- the strings are scanned, the one of argument i up to the register of cursor i
abbrev pub ScanThese : Basis → (line scratch own : ℕ) → List Printed → (i : ℕ) → List FlatInstruction → Type 0
ScanThese g line t w [] i code = code ≡ []
ScanThese g line t w (Byte b ∷ ps) i code = ScanThese g line t w ps i code
ScanThese g line t w (Number d r ∷ ps) i code = ScanThese g line t w ps (i + 1) code
ScanThese g line t w (String h ∷ ps) i code =
    (first rest : List FlatInstruction) × (code ≡ first ++ rest)
    × IsScanRoutine g (λ v. scan v line) h (λ f. Unit {0}) (cursor_of t i) w first
    × ScanThese g line t w ps (i + 1) rest

-- all is put out
abbrev pub PutThese : MapSizes → (scratch own : ℕ) → List Printed → (i : ℕ) → List FlatInstruction → Type 0
PutThese map t w [] i code = code ≡ []
PutThese map t w (Byte b ∷ ps) i code =
    (b < 256) × (rest : List FlatInstruction) × (code ≡ byte_code b t w ++ rest) × PutThese map t w ps i rest
PutThese map t w (Number d r ∷ ps) i code =
    (first rest : List FlatInstruction) × (code ≡ first ++ rest) × IsNumberRoutine map d r t w first
    × PutThese map t w ps (i + 1) rest
PutThese map t w (String h ∷ ps) i code =
    (first rest : List FlatInstruction) × (code ≡ (first ++ count_string h (cursor_of t i) t w) ++ rest)
    × IsPutRoutine map h.value (cursor_of t i) w first × PutThese map t w ps (i + 1) rest

-- behind what is done comes all that is left
pub record ScansSoFar (basis : Basis) (line t w : ℕ) (ps left : List Printed) (i : ℕ) (code : List FlatInstruction) :
    Type 0 where
  pub on : (rest : List FlatInstruction) → ScanThese basis line t w left i rest
      → ScanThese basis line t w ps 0 (code ++ rest)

pub record PutsSoFar (map : MapSizes) (t w : ℕ) (ps left : List Printed) (i : ℕ) (code : List FlatInstruction) : Type 0
  where
    pub on : (rest : List FlatInstruction) → PutThese map t w left i rest → PutThese map t w ps 0 (code ++ rest)

-- the number of the next argument
abbrev pub index_after : Printed → (i : ℕ) → ℕ
index_after (Byte b) i = i
index_after (Number d r) i = i + 1
index_after (String h) i = i + 1

-- one more piece is scanned, or put out, whatever else there is
abbrev pub ScansNext : Basis → (line scratch own : ℕ) → Printed → (i : ℕ) → (old new : List FlatInstruction) → Type 0
ScansNext g line t w p i old new =
    (ps left : List Printed) → ScansSoFar g line t w ps (p ∷ left) i old
    → ScansSoFar g line t w ps left (index_after p i) new

abbrev pub PutsNext : MapSizes → (scratch own : ℕ) → Printed → (i : ℕ) → (old new : List FlatInstruction) → Type 0
PutsNext map t w p i old new =
    (ps left : List Printed) → PutsSoFar map t w ps (p ∷ left) i old → PutsSoFar map t w ps left (index_after p i) new
