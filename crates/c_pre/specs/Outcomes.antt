-- What the calls of the code answer, against the definitions.
use Rattle.std.specs.Prelude.{◌≡◌, ℕ, suc, ◌≤◌, Bool, true, false, ◌&&◌, List, [], ◌∷◌, length, Option}
use Rattle.std.specs.Prelude.{Some, None, Result, Ok, Err, option_map, bytes_eq, ⊤}
use Rattle.std.specs.Prelude.{if◌then◌else◌}
use Rattle.indexmap.specs.IndexMap.{IndexMap, get}
use Rattle.c_lexer.specs.declared.token.TokenKind.{TokenKind}
use Rattle.c_lexer.specs.declared.token.TokenKind.TheVariants.{Punctuator}
use Rattle.c_lexer.specs.declared.punctuator.Punctuator.TheVariants.{Hash}
use Rattle.c_pre.specs.declared.fault.PreFault.{PreFault}
use Rattle.c_pre.specs.declared.fault.PreError.{PreError}
use Rattle.c_pre.specs.declared.fault.PreError.TheVariants.{Memory, Fault}
use Rattle.c_pre.specs.declared.directive.LineKind.{LineKind}
use Rattle.c_pre.specs.declared.expansion.Expanded.{Expanded}
use Rattle.c_pre.specs.declared.directive.LineKind.TheVariants as k
use Rattle.c_pre.specs.declared.preprocessor.Preprocessor.{Preprocessor}
use Rattle.c_pre.specs.Limits.{max_expanded_tokens}
use Rattle.c_pre.specs.Lines.{Tokens}
use Rattle.c_pre.specs.Names.{Name, Macro, Macros}
use Rattle.c_pre.specs.declared.definition.Macro as declared
use Rattle.c_pre.specs.Trace.{Trace, after, answer, quiet}
use Rattle.c_pre.specs.Directives as d
use Rattle.c_pre.specs.Sections.{State}
use Rattle.c_pre.specs.InnerFirst.{inner_first}

abbrev pub Fails : {A : Type 0} → Trace A → PreError → Type 0
Fails t Memory = ⊤
Fails t (Fault fault) = answer t ≡ Err fault

-- of a call that gives tokens, with those given before and those given now: it gave those of the trace; or the answer
-- for
-- the whole text is this fault, whatever follows
abbrev pub Emits : {A X : Type 0} → Trace A → (X → A) → Tokens → Tokens → Result X PreError → Type 0
Emits t view old new (Ok x) = (after old t ≡ record { given = new; end = Ok (view x) })
    × (length new ≤ max_expanded_tokens)
Emits t view old new (Err error) = Fails (after old t) error

abbrev pub Stops : {A : Type 0} → Trace A → PreError → Type 0
Stops t Memory = ⊤
Stops t (Fault fault) = t ≡ record { given = []; end = Err fault }

-- of a call that gives no tokens
abbrev pub Steps : {A X : Type 0} → Trace A → (X → A) → Result X PreError → Type 0
Steps t view (Ok x) = t ≡ quiet (view x)
Steps t view (Err error) = Stops t error

abbrev pub EndsBy : {A : Type 0} → Trace A → PreError → Type 0
EndsBy t Memory = ⊤
EndsBy t (Fault fault) = t.end ≡ Err fault

-- of a call that keeps what is given
abbrev pub Expands : Trace ℕ → Result Expanded PreError → Type 0
Expands t (Ok x) = t ≡ record { given = x.tokens.items; end = Ok x.room }
Expands t (Err error) = EndsBy t error

abbrev pub Refuses : {A : Type 0} → PreError → Result A PreFault → Type 0
Refuses Memory wanted = ⊤
Refuses (Fault fault) wanted = wanted ≡ Err fault

-- the call gave what was wanted, unless memory failed
abbrev pub Gives : {A X : Type 0} → (X → A) → Result X PreError → Result A PreFault → Type 0
Gives view (Ok x) wanted = wanted ≡ Ok (view x)
Gives view (Err error) wanted = Refuses error wanted

-- what the code keeps of a macro
abbrev pub macro_of : declared.Macro → Macro
macro_of m = record { parameters = option_map (λ tokens. d.names_among tokens.now) m.parameters; list = m.list.now }

-- the table of macros as a function of the name
abbrev pub macros_of : {S : Type 0} → IndexMap Name declared.Macro S → Macros
macros_of table = λ name. option_map macro_of (get bytes_eq table name)

abbrev pub state_of : Preprocessor → State
state_of p = record { sections = inner_first p.sections.items; macros = macros_of p.macros; room = p.room }

abbrev pub line_of_kind : LineKind → d.Line
line_of_kind k.Text = d.text_line
line_of_kind (k.IfDefined name wanted) = d.if_defined name wanted
line_of_kind k.IfOther = d.if_other
line_of_kind (k.If condition) = d.if_condition condition.tokens.now
line_of_kind (k.Elif condition) = d.elif condition.tokens.now
line_of_kind (k.Else well_formed) = d.else_group well_formed
line_of_kind (k.Endif well_formed) = d.endif_line well_formed
line_of_kind (k.Define definition) = d.define definition.name (macro_of definition.meaning)
line_of_kind (k.Undef name) = d.undef name
line_of_kind (k.Include header) = d.include header
line_of_kind k.Null = d.null_directive
line_of_kind k.UnknownInclude = d.unknown_include
line_of_kind k.UnknownDirective = d.unknown_directive

abbrev pub is_hash : TokenKind → Bool
is_hash (Punctuator Hash) = true
is_hash _ = false

-- for the code: how many of these tokens still belong to the line before them
abbrev pub line_rest : Tokens → ℕ
line_rest [] = 0
line_rest (token ∷ more) = if token.begins_line then 0 else suc (line_rest more)

-- for the code: how many tokens the first line has
abbrev pub line_len : Tokens → ℕ
line_len [] = 0
line_len (token ∷ more) = suc (line_rest more)

-- for the code: how many of these tokens still belong to the text lines before them
abbrev pub run_rest : Tokens → ℕ
run_rest [] = 0
run_rest (token ∷ more) = if token.begins_line && is_hash token.kind then 0 else suc (run_rest more)

-- for the code: how many tokens the first directive, or the text lines up to the first directive, have
abbrev pub run_len : Tokens → ℕ
run_len [] = 0
run_len (token ∷ more) = if is_hash token.kind then line_len (token ∷ more) else suc (run_rest more)

-- for the code: how many tokens stand before the first `)`
abbrev pub close_index : Tokens → Option ℕ
close_index [] = None
close_index (token ∷ more) = if d.is_close token.kind then Some 0 else option_map suc (close_index more)

-- for the code: commas before the first name were left out
abbrev pub BeginsName : Tokens → Type 0
BeginsName [] = ⊤
BeginsName (token ∷ more) = d.is_comma token.kind ≡ false

pub record FromName (tokens rest : Tokens) : Type 0 where
  pub same : d.names_among tokens ≡ d.names_among rest
  pub begins : BeginsName rest

-- for the code: which of these names a name is
abbrev pub parameter_index : Name → List Name → Option ℕ
parameter_index name [] = None
parameter_index name (parameter ∷ more) =
    if bytes_eq name parameter then Some 0 else option_map suc (parameter_index name more)
