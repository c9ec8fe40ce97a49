-- The lines of the tokens at which constructs are judged.
use Rattle.std.specs.Prelude.{ℕ, List, ◌∷◌, map, Option, option_map}
use Rattle.c_syntax.specs.declared.position.Spelled.{Spelled}
use Rattle.c_syntax.specs.Tree.{Specifiers, no_specifiers, specifiers, Specifier, keyword, typedef_name, structure}
use Rattle.c_syntax.specs.Tree.{structure_body, enumeration, enumeration_body}
use Rattle.c_scope.specs.Names.{Name}

abbrev pub line_of : Specifier → ℕ
line_of (keyword w at) = at.line
line_of (typedef_name x) = x.position.line
line_of (structure w at x) = at.line
line_of (structure_body w at x l ms r) = at.line
line_of (enumeration at x) = at.line
line_of (enumeration_body at x l e more comma r) = at.line

-- that of the first of the specifiers, of which there is one at least
abbrev pub first_line : Specifiers → ℕ
first_line no_specifiers = 1
first_line (specifiers x more) = line_of x

abbrev pub name_of : Spelled → Name
name_of x = x.spelling

abbrev pub tag_name : Option Spelled → Option Name
tag_name tag = option_map name_of tag

abbrev pub spellings : Spelled → List Spelled → List Name
spellings x more = name_of x ∷ map name_of more
