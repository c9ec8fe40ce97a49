-- Macro replacement (C99 6.10.3), by hide sets (6.10.3.4): each token has the names that it is not replaced by.
use Rattle.std.specs.Prelude.{ℕ, zero, suc, ◌+◌, ◌-◌, Bool, List, [], ◌∷◌, ◌++◌, map, length, Option, Some, None}
use Rattle.std.specs.Prelude.{Result, Ok}
use Rattle.std.specs.Prelude.{Err, if◌then◌else◌, nat_le, bytes_eq}
use Rattle.c_lexer.specs.declared.token.Token.{Token}
use Rattle.c_lexer.specs.Spelled.{on_line}
use Rattle.c_pre.specs.declared.fault.PreFault.{PreFault}
use Rattle.c_pre.specs.declared.fault.PreFaultKind.TheVariants.{TooMany, BadCall}
use Rattle.c_pre.specs.Lines.{Tokens}
use Rattle.c_pre.specs.Names.{Name, Names, Macro, Macros, name_of, member}
use Rattle.c_pre.specs.HideSets.{HidingToken, common, joined}
use Rattle.c_pre.specs.Arguments.{Call, taken, opened, begins_empty, fits}
use Rattle.c_pre.specs.Trace.{Trace, fault_at}

-- the tokens that an expansion gives, and at its end how many tokens replacement lists may still put in, or the fault
pub record Expansion : Type 0 where
  pub given : List HidingToken
  pub end : Result ℕ PreFault

abbrev pub ends : ℕ → Expansion
ends room = record { given = []; end = Ok room }

abbrev pub stops : PreFault → Expansion
stops fault = record { given = []; end = Err fault }

abbrev pub gives_first : HidingToken → Expansion → Expansion
gives_first x t = record { given = x ∷ t.given; end = t.end }

-- the tokens of the text, from which no name is hidden
abbrev pub of_text : Tokens → List HidingToken
of_text [] = []
of_text (token ∷ more) = record { token = token; hidden = [] } ∷ of_text more

abbrev pub with_macro_of : Name → Option Macro → Option (Name × Macro)
with_macro_of name None = None
with_macro_of name (Some macro) = Some (name, macro)

abbrev pub macro_named : Macros → Names → Option Name → Option (Name × Macro)
macro_named macros hidden None = None
macro_named macros hidden (Some name) = if member name hidden then None else with_macro_of name (macros name)

-- the macro that a token names and that is not hidden from it
abbrev pub replacement : Macros → HidingToken → Option (Name × Macro)
replacement macros x = macro_named macros x.hidden (name_of x.token.kind)

-- the argument of the parameter of this name
abbrev pub argument_named : Names → List (List HidingToken) → Name → Option (List HidingToken)
argument_named [] arguments name = None
argument_named (parameter ∷ more) [] name = None
argument_named (parameter ∷ more) (argument ∷ others) name =
    if bytes_eq name parameter then Some argument else argument_named more others name

abbrev pub argument_of : Names → List (List HidingToken) → Option Name → Option (List HidingToken)
argument_of parameters arguments None = None
argument_of parameters arguments (Some name) = argument_named parameters arguments name

-- the tokens of an expanded argument, on the line of the call, hidden from these names too
abbrev pub put_argument : ℕ → Names → List HidingToken → List HidingToken
put_argument line here [] = []
put_argument line here (x ∷ more) =
    record { token = on_line line x.token; hidden = joined x.hidden here } ∷ put_argument line here more

abbrev pub put_token : ℕ → Names → Token → Option (List HidingToken) → List HidingToken
put_token line here token None = record { token = on_line line token; hidden = here } ∷ []
put_token line here token (Some argument) = put_argument line here argument

-- a replacement list, in which expanded arguments are put in for their parameters (6.10.3.1), on the line of the use
abbrev pub put_in : ℕ → Names → Names → List (List HidingToken) → Tokens → List HidingToken
put_in line here parameters arguments [] = []
put_in line here parameters arguments (token ∷ more) =
    put_token line here token (argument_of parameters arguments (name_of token.kind))
    ++ put_in line here parameters arguments more

-- a use of a macro: its name, the hide set of that, and the line on which all its tokens count: that of the name, or
-- inside of a call that of the outermost macro's name
pub record Used : Type 0 where
  pub name : Name
  pub hidden : Names
  pub line : ℕ
  pub list : Tokens

-- how tokens are expanded: inside of a call on this line, or in the text; with this room; these tokens
abbrev pub Expander : Type 0
Expander = Option ℕ → ℕ → List HidingToken → Expansion

-- what is put in is read again with what follows, if there is room for it
abbrev pub read_again : Expander → Option ℕ → ℕ → ℕ → List HidingToken → List HidingToken → Expansion
read_again go outer line room tokens follow =
    if nat_le (length tokens) room then go outer (room - length tokens) (tokens ++ follow)
    else stops (fault_at line TooMany)

-- arguments that are expanded, one after the other, each by itself, and the room that is left
abbrev pub Expanded : Type 0
Expanded = Result (List (List HidingToken) × ℕ) PreFault

abbrev pub before_others : List HidingToken → Expanded → Expanded
before_others argument (Ok others) = Ok (argument ∷ others.0, others.1)
before_others argument (Err fault) = Err fault

abbrev pub then_others : List HidingToken → Result ℕ PreFault → (ℕ → Expanded) → Expanded
then_others argument (Ok room) go = before_others argument (go room)
then_others argument (Err fault) go = Err fault

abbrev pub each_expanded : (ℕ → List HidingToken → Expansion) → ℕ → List (List HidingToken) → Expanded
each_expanded go room [] = Ok ([], room)
each_expanded go room (argument ∷ more) =
    then_others (go room argument).given (go room argument).end (λ left. each_expanded go left more)

-- a call whose arguments are expanded, and whether the first of them had no tokens
abbrev pub with_arguments : Expander → Option ℕ → Used → Names → Bool → Call → Expanded → Expansion
with_arguments go outer used parameters is_empty call (Err fault) = stops fault
with_arguments go outer used parameters is_empty call (Ok arguments) =
    if fits (length parameters) is_empty (length arguments.0)
    then read_again go outer used.line arguments.1
    (put_in used.line (used.name ∷ common used.hidden call.close) parameters arguments.0 used.list) call.follow
    else stops (fault_at used.line BadCall)

-- a call, or what stands there in place of one
abbrev pub with_call : Expander → Option ℕ → Used → Names → ℕ → Option Call → Expansion
with_call go outer used parameters room None = stops (fault_at used.line BadCall)
with_call go outer used parameters room (Some call) =
    with_arguments go outer used parameters (begins_empty call.arguments) call
    (each_expanded (go (Some used.line)) room call.arguments)

-- the name of a function-like macro: with a `(` behind it a call, else it stays
abbrev pub called : Expander → Option ℕ → Used → Names → HidingToken → ℕ → List HidingToken → Option (List HidingToken)
    → Expansion
called go outer used parameters x room follow None = gives_first x (go outer room follow)
called go outer used parameters x room follow (Some behind) =
    with_call go outer used parameters room (taken zero behind)

-- the name of a macro: an object-like one is replaced by its list
abbrev pub replaced : Expander → Option ℕ → Used → Option Names → HidingToken → ℕ → List HidingToken → Expansion
replaced go outer used None x room follow =
    read_again go outer used.line room (put_in used.line (used.name ∷ used.hidden) [] [] used.list) follow
replaced go outer used (Some parameters) x room follow =
    called go outer used parameters x room follow (opened follow)

abbrev pub line_at : Option ℕ → ℕ → ℕ
line_at None line = line
line_at (Some outer) line = outer

abbrev pub use_of : Option ℕ → HidingToken → Name → Macro → Used
use_of outer x name macro =
    record { name = name; hidden = x.hidden; line = line_at outer x.token.line; list = macro.list }

-- one token: it stays, or it is the name of a macro
abbrev pub turn : Expander → Option ℕ → HidingToken → Option (Name × Macro) → ℕ → List HidingToken → Expansion
turn go outer x None room follow = gives_first x (go outer room follow)
turn go outer x (Some m) room follow =
    replaced go outer (use_of outer x m.0 m.1) m.1.parameters x room follow

-- the same, where expansions stand at most so deep in one another
abbrev pub expand_by : ℕ → Macros → Expander
expand_by zero macros outer room tokens = ends room
expand_by (suc depth) macros outer room [] = ends room
expand_by (suc depth) macros outer room (x ∷ follow) =
    turn (expand_by depth macros) outer x (replacement macros x) room follow

-- the expansion: each one inside of another has fewer tokens, or less room by those that were put in, so none stands
-- deeper than this
unfoldable pub expansion : Macros → Expander
expansion macros outer room tokens = expand_by (length tokens + room) macros outer room tokens

-- the tokens that an expansion gives, as a part of the text
abbrev pub trace_of : Expansion → Trace ℕ
trace_of t = record { given = map (λ x. x.token) t.given; end = t.end }
