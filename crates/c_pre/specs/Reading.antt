-- The reading of a text, line by line (C99 5.1.1.2 phase 4).
use Rattle.std.specs.Prelude.{ℕ, Bool, true, false, not, ◌&&◌, List, [], ◌∷◌, ◌++◌, Option, Some, None, is_some}
use Rattle.std.specs.Prelude.{Result, Ok, Err, if◌then◌else◌, bytes_eq}
use Rattle.c_lexer.specs.Spelled.{TokenList}
use Rattle.c_pre.specs.declared.fault.PreFault.{PreFault}
use Rattle.c_pre.specs.declared.condition.Judged.{Judged}
use Rattle.c_pre.specs.declared.section.IfSection.{IfSection}
use Rattle.c_pre.specs.declared.fault.PreFaultKind.TheVariants.{UnknownInclude, UnknownDirective, MacroRedefined}
use Rattle.c_pre.specs.declared.fault.PreFaultKind.TheVariants.{StrayEnd}
use Rattle.c_pre.specs.Limits.{max_replacement_tokens}
use Rattle.c_pre.specs.Lines.{Tokens, lines}
use Rattle.c_pre.specs.Headers.{header_tokens}
use Rattle.c_pre.specs.Names.{Name, Macro, Macros, same_macro}
use Rattle.c_pre.specs.Trace.{Trace, quiet, fails, ◌>>=◌, line_of, answer}
use Rattle.c_pre.specs.Expansion.{expansion, of_text, trace_of}
use Rattle.c_pre.specs.Conditions.{condition_at}
use Rattle.c_pre.specs.Directives.{Line, text_line, if_defined, if_other, if_condition, elif, else_group, endif_line}
use Rattle.c_pre.specs.Directives.{define, undef}
use Rattle.c_pre.specs.Directives.{include, null_directive, unknown_include, unknown_directive, line_kind}
use Rattle.c_pre.specs.Sections.{State, is_read, opened, skipped, with_section, passed, tried, else_at, endif_at}
use Rattle.c_pre.specs.Sections.{finished}

-- the macros, with another meaning of one name
abbrev pub redefined : Name → Option Macro → Macros → Macros
redefined name macro macros = λ other. if bytes_eq name other then macro else macros other

abbrev pub with_macro : Name → Option Macro → State → State
with_macro name macro s = record s { macros = redefined name macro s.macros }

-- whether a name with this meaning may be defined so (6.10.3 paragraph 2)
abbrev pub may_be : Option Macro → Macro → Bool
may_be None macro = true
may_be (Some old) macro = same_macro old macro

-- `#define`
abbrev pub defined : State → ℕ → Name → Macro → Trace State
defined s at name macro = if may_be (s.macros name) macro then quiet (with_macro name (Some macro) s)
    else fails at MacroRedefined

-- a line of a header, which counts as one at the line of the `#include`
abbrev pub define_line : State → ℕ → Line → Trace State
define_line s at (define name macro) = defined s at name macro
define_line s at _ = quiet s

-- `#include` of a header with these lines (6.10.2)
abbrev pub define_lines : ℕ → List Tokens → State → Trace State
define_lines at [] s = quiet s
define_lines at (line ∷ more) s = define_line s at (line_kind line) >>= define_lines at more

-- whether `#ifdef` (true) or `#ifndef` (false) holds of a name with this meaning
abbrev pub holds : Bool → Option Macro → Bool
holds true macro = is_some macro
holds false macro = not (is_some macro)

abbrev pub with_room : State → ℕ → State
with_room s room = record s { room = room }

-- behind the condition of an `#if`
abbrev pub with_condition : State → ℕ → Judged → Trace State
with_condition s at condition = quiet (with_section (opened at condition.holds) (with_room s condition.room))

-- behind the condition of an `#elif` of the innermost section
abbrev pub with_alternative : State → IfSection → List IfSection → Judged → Trace State
with_alternative s section outer condition =
    quiet (record s { sections = tried condition.holds section ∷ outer; room = condition.room })

-- `#elif`: its condition is read where no group of the section was
abbrev pub elif_at : ℕ → Tokens → State → List IfSection → Trace State
elif_at at tokens s [] = fails at StrayEnd
elif_at at tokens s (section ∷ outer) =
    if section.has_else then fails at StrayEnd
    else if section.is_taken then quiet (record s { sections = passed section ∷ outer })
    else condition_at at s.macros s.room tokens >>= with_alternative s section outer

-- `#if`
abbrev pub if_at : ℕ → Tokens → State → Trace State
if_at at tokens s = condition_at at s.macros s.room tokens >>= with_condition s at

-- a directive in text that is read
abbrev pub obeyed : State → ℕ → Line → Trace State
obeyed s at text_line = quiet s
obeyed s at (if_defined name wanted) = quiet (with_section (opened at (holds wanted (s.macros name))) s)
obeyed s at if_other = fails at UnknownDirective
obeyed s at (if_condition tokens) = if_at at tokens s
obeyed s at (elif tokens) = elif_at at tokens s s.sections
obeyed s at (else_group well_formed) = else_at at well_formed s s.sections
obeyed s at (endif_line well_formed) = endif_at at well_formed s s.sections
obeyed s at (define name macro) = defined s at name macro
obeyed s at (undef name) = quiet (with_macro name None s)
obeyed s at (include header) = define_lines at (lines (header_tokens header)) s
obeyed s at null_directive = quiet s
obeyed s at unknown_include = fails at UnknownInclude
obeyed s at unknown_directive = fails at UnknownDirective

-- a line of a skipped group: only if-sections are followed (6.10.1 paragraph 6)
abbrev pub followed : State → ℕ → Line → Trace State
followed s at (if_defined name wanted) = quiet (with_section (skipped at) s)
followed s at if_other = quiet (with_section (skipped at) s)
followed s at (if_condition tokens) = quiet (with_section (skipped at) s)
followed s at (elif tokens) = elif_at at tokens s s.sections
followed s at (else_group well_formed) = else_at at well_formed s s.sections
followed s at (endif_line well_formed) = endif_at at well_formed s s.sections
followed s at _ = quiet s

abbrev pub leaving_room : State → ℕ → Trace State
leaving_room s room = quiet (with_room s room)

-- text lines
unfoldable pub read_text_line : State → Tokens → Trace State
read_text_line s line = trace_of (expansion s.macros None s.room (of_text line)) >>= leaving_room s

abbrev pub is_text : Line → Bool
is_text text_line = true
is_text _ = false

unfoldable pub read_line : State → Tokens → Trace State
read_line s line =
    if not (is_read s.sections) then followed s (line_of line) (line_kind line)
    else if is_text (line_kind line) then read_text_line s line
    else obeyed s (line_of line) (line_kind line)

abbrev pub read_lines : State → List Tokens → Trace Unit
read_lines s [] = finished s.sections
read_lines s (line ∷ more) = read_line s line >>= λ next. read_lines next more

-- the lines behind a condition of a section that began on this line: they are read where it holds
abbrev pub read_behind : ℕ → State → Trace Judged → List Tokens → Trace Unit
read_behind line s condition rest =
    condition >>= λ c. read_lines (with_section (opened line c.holds) (with_room s c.room)) rest

-- text lines that follow each other are one: a macro's call may go over them (6.10.3 paragraph 10)
abbrev pub before_run : Tokens → List Tokens → List Tokens
before_run line [] = line ∷ []
before_run line (run ∷ more) =
    if is_text (line_kind line) && is_text (line_kind run) then (line ++ run) ∷ more else line ∷ run ∷ more

abbrev pub runs : List Tokens → List Tokens
runs [] = []
runs (line ∷ more) = before_run line (runs more)

-- at the start no name is defined
abbrev pub start : State
start = record { sections = []; macros = λ name. None; room = max_replacement_tokens }

-- the expanded tokens, or the first fault
unfoldable pub expanded_tokens : Tokens → Result Tokens PreFault
expanded_tokens tokens = answer (read_lines start (runs (lines tokens)))

abbrev pub ending_on : ℕ → Result Tokens PreFault → Result TokenList PreFault
ending_on end (Ok tokens) = Ok (record { tokens = tokens; end = end })
ending_on end (Err fault) = Err fault

-- the same of a text with the line on which it ends, which stays
abbrev pub expanded : TokenList → Result TokenList PreFault
expanded list = ending_on list.end (expanded_tokens list.tokens)
