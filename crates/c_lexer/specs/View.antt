-- What functions of the crate answer, without where it lies in memory.
use Rattle.std.specs.Prelude.{◌≡◌, Option, Some, None}
use Rattle.c_lexer.specs.declared.separator.Separator as rust
use Rattle.c_lexer.specs.Separators.{Separator}

-- the separator that was found
abbrev pub Separates : Option rust.Separator → Option Separator → Type 0
Separates None o = o ≡ None
Separates (Some s) o = o ≡ Some (record { rest = s.rest.now; is_newline = s.is_newline })
