-- What a line of a text is (C99 6.10 paragraph 1).
use Rattle.std.specs.Prelude.{ℕ, Bool, true, false, ◌&&◌, ◌||◌, not, List, [], ◌∷◌, Option, Some, None, is_some}
use Rattle.std.specs.Prelude.{option_map, if◌then◌else◌, codes, bytes_eq}
use Rattle.std.specs.List.{list_any}
use Rattle.c_lexer.specs.declared.token.TokenKind.{TokenKind}
use Rattle.c_lexer.specs.declared.token.TokenKind.TheVariants.{Punctuator}
use Rattle.c_lexer.specs.declared.token.Token.{Token}
use Rattle.c_lexer.specs.declared.punctuator.Punctuator.TheVariants.{Hash, LeftParenthesis, RightParenthesis}
use Rattle.c_lexer.specs.declared.punctuator.Punctuator.TheVariants.{Comma, Ellipsis}
use Rattle.c_lexer.specs.Words.{spelling_of}
use Rattle.c_pre.specs.declared.header.Header.{Header}
use Rattle.c_pre.specs.declared.header.Header.TheVariants as h
use Rattle.c_pre.specs.declared.directive.DirectiveName.{DirectiveName}
use Rattle.c_pre.specs.declared.directive.DirectiveName.TheVariants as d
use Rattle.c_pre.specs.Lines.{Tokens}
use Rattle.c_pre.specs.Names.{Name, Names, Macro, name_of, member}

-- Where a directive is malformed, what it is to a skipped group is still told.
pub data Line : Type 0 where
  text_line : Line
  -- `#ifdef` (whether the name is to be defined) and `#ifndef`
  if_defined : Name → Bool → Line
  -- `#ifdef` and `#ifndef` without one name, which only a skipped group may have
  if_other : Line
  -- `#if` and `#elif`, with the tokens behind the directive's name
  if_condition : Tokens → Line
  elif : Tokens → Line
  -- whether nothing stands behind the directive's name
  else_group : Bool → Line
  endif_line : Bool → Line
  define : Name → Macro → Line
  undef : Name → Line
  include : Header → Line
  -- `#` alone (6.10.7)
  null_directive : Line
  unknown_include : Line
  unknown_directive : Line

abbrev pub is_empty : Tokens → Bool
is_empty [] = true
is_empty (token ∷ more) = false

-- one name and nothing else
abbrev pub only_name : Tokens → Option Name
only_name [] = None
only_name (token ∷ more) = if is_empty more then name_of token.kind else None

abbrev pub named_or : (Name → Line) → Line → Option Name → Line
named_or found other None = other
named_or found other (Some name) = found name

abbrev pub is_open : TokenKind → Bool
is_open (Punctuator LeftParenthesis) = true
is_open _ = false

-- whether a `(` stands directly behind a macro's name, which begins a parameter list (6.10.3 paragraph 10)
abbrev pub begins_parameters : Tokens → Bool
begins_parameters [] = false
begins_parameters (token ∷ more) = is_open token.kind && not token.is_spaced

abbrev pub is_close : TokenKind → Bool
is_close (Punctuator RightParenthesis) = true
is_close _ = false

abbrev pub is_comma : TokenKind → Bool
is_comma (Punctuator Comma) = true
is_comma _ = false

-- the tokens before the first `)`, and those behind it
abbrev pub to_close : Tokens → Option (Tokens × Tokens)
to_close [] = None
to_close (token ∷ more) =
    if is_close token.kind then Some ([], more)
    else option_map (λ p. (token ∷ p.0, p.1)) (to_close more)

-- whether names stand there, parted by commas
abbrev pub are_names : Tokens → Bool
are_names [] = false
are_names (name ∷ []) = is_some (name_of name.kind)
are_names (name ∷ comma ∷ more) = is_some (name_of name.kind) && is_comma comma.kind && are_names more

-- the names, without the commas
abbrev pub names_among : Tokens → Names
names_among [] = []
names_among (token ∷ more) =
    if is_comma token.kind then names_among more else spelling_of token.kind ∷ names_among more

abbrev pub differ : Names → Bool
differ [] = true
differ (name ∷ more) = not (member name more) && differ more

-- `#` and `...`: their operators and variable arguments are left out
abbrev pub is_left_out : TokenKind → Bool
is_left_out (Punctuator Hash) = true
is_left_out (Punctuator Ellipsis) = true
is_left_out _ = false

-- no names, or names parted by commas, all different (6.10.3 paragraph 6)
abbrev pub are_parameters : Tokens → Bool
are_parameters tokens = (is_empty tokens || are_names tokens) && differ (names_among tokens)

abbrev pub function_like : Name → Option (Tokens × Tokens) → Line
function_like name None = unknown_directive
function_like name (Some parted) =
    if are_parameters parted.0 && not (list_any (λ token. is_left_out token.kind) parted.1)
    then define name (record { parameters = Some (names_among parted.0); list = parted.1 })
    else unknown_directive

abbrev pub behind_first : Tokens → Tokens
behind_first [] = []
behind_first (token ∷ more) = more

abbrev pub define_named : Option Name → Tokens → Line
define_named None list = unknown_directive
define_named (Some name) list =
    if begins_parameters list then function_like name (to_close (behind_first list))
    else define name (record { parameters = None; list = list })

-- behind `#define`: a name and its replacement list (6.10.3 paragraph 9), or a name, `(`, parameters, `)` and the list
-- (paragraph 10)
abbrev pub definition : Tokens → Line
definition [] = unknown_directive
definition (token ∷ list) = define_named (name_of token.kind) list

-- the header `<NAME.h>`, by its name
abbrev pub header_named : Name → Option Header
header_named name =
    if bytes_eq name (codes "stdio") then Some h.Stdio
    else if bytes_eq name (codes "stdlib") then Some h.Stdlib
    else if bytes_eq name (codes "string") then Some h.String
    else if bytes_eq name (codes "stddef") then Some h.Stddef
    else if bytes_eq name (codes "limits") then Some h.Limits
    else None

-- a token that is spelled so, with no white space before it
abbrev pub is_touching : Token → List ℕ → Bool
is_touching token bytes = bytes_eq (spelling_of token.kind) bytes && not token.is_spaced

-- behind `#include`: `<`, the name, `.`, `h` and `>`, which touch (6.4.7, 6.10.2 paragraph 2)
abbrev pub header_of : Tokens → Option Header
header_of (less ∷ name ∷ dot ∷ h ∷ greater ∷ []) =
    if bytes_eq (spelling_of less.kind) (codes "<") && not name.is_spaced && is_touching dot (codes ".")
    && is_touching h (codes "h") && is_touching greater (codes ">")
    then header_named (spelling_of name.kind)
    else None
header_of _ = None

abbrev pub included : Option Header → Line
included None = unknown_include
included (Some header) = include header

abbrev pub directive_named : Name → Option DirectiveName
directive_named name =
    if bytes_eq name (codes "define") then Some d.Define
    else if bytes_eq name (codes "undef") then Some d.Undef
    else if bytes_eq name (codes "include") then Some d.Include
    else if bytes_eq name (codes "ifdef") then Some d.Ifdef
    else if bytes_eq name (codes "ifndef") then Some d.Ifndef
    else if bytes_eq name (codes "if") then Some d.If
    else if bytes_eq name (codes "elif") then Some d.Elif
    else if bytes_eq name (codes "else") then Some d.Else
    else if bytes_eq name (codes "endif") then Some d.Endif
    else None

abbrev pub directive_by : DirectiveName → Tokens → Line
directive_by d.Define more = definition more
directive_by d.Undef more = named_or undef unknown_directive (only_name more)
directive_by d.Include more = included (header_of more)
directive_by d.Ifdef more = named_or (λ name. if_defined name true) if_other (only_name more)
directive_by d.Ifndef more = named_or (λ name. if_defined name false) if_other (only_name more)
directive_by d.If more = if_condition more
directive_by d.Elif more = elif more
directive_by d.Else more = else_group (is_empty more)
directive_by d.Endif more = endif_line (is_empty more)

abbrev pub directive_or_unknown : Option DirectiveName → Tokens → Line
directive_or_unknown None more = unknown_directive
directive_or_unknown (Some directive) more = directive_by directive more

-- behind the `#`
abbrev pub directive : Tokens → Line
directive [] = null_directive
directive (token ∷ more) = directive_or_unknown (directive_named (spelling_of token.kind)) more

abbrev pub line_by : TokenKind → Tokens → Line
line_by (Punctuator Hash) more = directive more
line_by _ more = text_line

-- a line whose first token is `#` is a directive (6.10 paragraph 2)
unfoldable pub line_kind : Tokens → Line
line_kind [] = text_line
line_kind (token ∷ more) = line_by token.kind more
