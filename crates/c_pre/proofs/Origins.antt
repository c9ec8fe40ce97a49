-- What holds of the tokens of the text and of the headers, on whatever line, holds of each expanded token.
use Rattle.std.proofs.Common.{◌≡◌, ℕ, zero, suc, ◌+◌, ◌-◌, Bool, true, false, List, [], ◌∷◌, ◌++◌, length, Option}
use Rattle.std.proofs.Common.{Some, None, Result, Ok, Err, get_or, refl, ap, subst, inl, inr, nat_le}
use Rattle.std.proofs.Common.{if◌then◌else◌, option_map, map}
use Rattle.std.specs.List.{list_any}
use Rattle.std.specs.Prelude.{All, IfOk, Contains, bytes_eq, not, ◌&&◌}
use Rattle.c_lexer.specs.Words.{spelling_of}
use Rattle.std.specs.List.{AllByRecursion}
use Rattle.std.proofs.lemmas.List.Elements.{All-from_recursion, recursion_from_All}
use Rattle.std.proofs.lemmas.List.{get_or_default}
use Rattle.c_lexer.specs.declared.token.TokenKind.{TokenKind}
use Rattle.c_lexer.specs.declared.token.TokenKind.TheVariants.{Punctuator}
use Rattle.c_lexer.specs.declared.token.Token.{Token}
use Rattle.c_lexer.specs.declared.punctuator.Punctuator.TheVariants.{Hash}
use Rattle.c_lexer.specs.Spelled.{on_line}
use Rattle.c_pre.specs.declared.fault.PreFault.{PreFault}
use Rattle.c_pre.specs.declared.fault.PreFaultKind.{PreFaultKind}
use Rattle.c_pre.specs.declared.header.Header.{Header}
use Rattle.c_pre.specs.declared.directive.DirectiveName.{DirectiveName}
use Rattle.c_pre.specs.declared.directive.DirectiveName.TheVariants as d
use Rattle.c_pre.specs.declared.section.IfSection.{IfSection}
use Rattle.c_conditions.specs.Conditions.{condition_value}
use Rattle.c_pre.specs.Conditions.{condition_at, judged, judged_at_end, marked_behind, without_name}
use Rattle.c_pre.specs.Directives.{Line, text_line, if_defined, if_other, if_condition, elif, else_group, endif_line}
use Rattle.c_pre.specs.Directives.{define, undef}
use Rattle.c_pre.specs.Directives.{include, null_directive, unknown_include, unknown_directive, named_or, only_name}
use Rattle.c_pre.specs.Directives.{is_empty, begins_parameters, behind_first, is_close, to_close, is_left_out}
use Rattle.c_pre.specs.Directives.{are_parameters}
use Rattle.c_pre.specs.Directives.{function_like, define_named, definition, header_of, included}
use Rattle.c_pre.specs.Directives.{directive_named, directive_or_unknown, directive, line_by, line_kind}
use Rattle.c_pre.specs.declared.fault.PreFaultKind.TheVariants.{TooMany, BadCall}
use Rattle.c_pre.specs.HideSets.{HidingToken, common}
use Rattle.c_pre.specs.Arguments.{Role, opens, closes, parts, other, Call, role, first_begins, with_token}
use Rattle.c_pre.specs.Arguments.{with_argument}
use Rattle.c_pre.specs.Arguments.{taken_by, taken, behind_open, opened, begins_empty, fits}
use Rattle.c_pre.specs.Expansion.{Expander, Expanded, Used, stops, of_text, with_macro_of, macro_named}
use Rattle.c_pre.specs.Expansion.{replacement, argument_named, argument_of, put_argument, put_token, put_in, read_again}
use Rattle.c_pre.specs.Expansion.{before_others, then_others, each_expanded, with_arguments, with_call, called}
use Rattle.c_pre.specs.Expansion.{replaced}
use Rattle.c_pre.specs.Expansion.{use_of, turn, expand_by, expansion, trace_of}
use Rattle.c_pre.specs.Headers.{header_tokens}
use Rattle.c_pre.specs.Limits.{max_expanded_tokens}
use Rattle.c_pre.specs.Lines.{Tokens, begins, before, lines}
use Rattle.c_pre.specs.Names.{Name, Names, Macro, Macros, name_of, member}
use Rattle.c_pre.specs.Origin.{ComesFrom, StandsIn}
use Rattle.c_pre.specs.Reading.{redefined, may_be, defined, define_line, define_lines, obeyed}
use Rattle.c_pre.specs.Reading.{followed, leaving_room, read_text_line, is_text, read_line, read_lines, start}
use Rattle.c_pre.specs.Reading.{before_run, runs, expanded_tokens, with_condition, with_alternative, elif_at}
use Rattle.c_pre.specs.Sections.{State, is_read, else_at, endif_at, finished}
use Rattle.c_pre.specs.Trace.{Trace, goes_on, ◌>>=◌, quiet, fails, fault_at, line_of, ended, answer}

all_append : {A : Type 0} (P : A → Type 0) (xs ys : List A) → AllByRecursion P xs → AllByRecursion P ys
    → AllByRecursion P (xs ++ ys)
all_append P [] ys a b = b
all_append P (x ∷ xs) ys a b = (a.0, all_append P xs ys a.1 b)

module _ (P : Token → Type 0) (moves : (line : ℕ) (t : Token) → P t → P (on_line line t)) where
  abbrev AllHiding : List HidingToken → Type 0
  AllHiding tokens = AllByRecursion (λ (x : HidingToken). P x.token) tokens

  all_of_text : (list : Tokens) → AllByRecursion P list → AllHiding (of_text list)
  all_of_text [] a = tt
  all_of_text (t ∷ ts) a = (a.0, all_of_text ts a.1)

  -- each replacement list
  record MacrosAre (macros : Macros) : Type 0 where
    lists : (name : Name) (macro : Macro) → macros name ≡ Some macro → AllByRecursion P macro.list

  -- the tokens that are given, and Q of what stands at the end
  record TraceIs {A : Type 0} (t : Trace A) (Q : A → Type 0) : Type 0 where
    given : AllByRecursion P t.given
    end : IfOk t.end Q

  is_quiet : {A : Type 0} (x : A) (Q : A → Type 0) → Q x → TraceIs (quiet x) Q
  is_quiet x Q q = record { given = tt; end = q }

  is_failed : {A : Type 0} (line : ℕ) (kind : PreFaultKind) (Q : A → Type 0) → TraceIs {A = A} (fails line kind) Q
  is_failed line kind Q = record { given = tt; end = tt }

  is_if : {A : Type 0} (b : Bool) (t u : Trace A) (Q : A → Type 0) → TraceIs t Q → TraceIs u Q
      → TraceIs (if b then t else u) Q
  is_if true t u Q p q = p
  is_if false t u Q p q = q

  going_on : {A B : Type 0} (given : Tokens) (end : Result A PreFault) (go : A → Trace B) (Q : A → Type 0)
      (R : B → Type 0) → AllByRecursion P given → IfOk end Q → ((x : A) → Q x → TraceIs (go x) R)
      → TraceIs (goes_on given end go) R
  going_on given (Ok x) go Q R a q f = let next = f x q in record
      { given = all_append P given (go x).given a next.given; end = next.end }
  going_on given (Err fault) go Q R a q f = record { given = a; end = tt }

  bind : {A B : Type 0} (t : Trace A) (go : A → Trace B) (Q : A → Type 0) (R : B → Type 0) → TraceIs t Q
      → ((x : A) → Q x → TraceIs (go x) R) → TraceIs (t >>= go) R
  bind t go Q R p f = going_on t.given t.end go Q R p.given p.end f

  -- arguments
  abbrev AllHidings : List (List HidingToken) → Type 0
  AllHidings arguments = AllByRecursion AllHiding arguments

  abbrev CallIs : Option Call → Type 0
  CallIs None = Unit {0}
  CallIs (Some call) = AllHidings call.arguments × AllHiding call.follow

  token_is : (x : HidingToken) (o : Option Call) → P x.token → CallIs o → CallIs (option_map (with_token x) o)
  token_is x None p a = tt
  token_is x (Some call) p a = (first_is x call.arguments p a.0, a.1)
    where
      first_is : (x : HidingToken) (arguments : List (List HidingToken)) → P x.token → AllHidings arguments
          → AllHidings (first_begins x arguments)
      first_is x [] p a = ((p, tt), tt)
      first_is x (argument ∷ more) p a = ((p, a.0), a.1)

  argument_is : (o : Option Call) → CallIs o → CallIs (option_map with_argument o)
  argument_is None a = tt
  argument_is (Some call) a = ((tt, a.0), a.1)

  by_role : (r : Role) (depth : ℕ) (x : HidingToken) (follow : List HidingToken) → P x.token → AllHiding follow
      → ((inner : ℕ) → CallIs (taken inner follow)) → CallIs (taken_by r depth x follow (λ inner. taken inner follow))
  by_role opens depth x follow p a f = token_is x (taken (suc depth) follow) p (f (suc depth))
  by_role closes zero x follow p a f = ((tt, tt), a)
  by_role closes (suc depth) x follow p a f = token_is x (taken depth follow) p (f depth)
  by_role parts zero x follow p a f = argument_is (taken zero follow) (f zero)
  by_role parts (suc depth) x follow p a f = token_is x (taken (suc depth) follow) p (f (suc depth))
  by_role other depth x follow p a f = token_is x (taken depth follow) p (f depth)

  taken_is : (depth : ℕ) (tokens : List HidingToken) → AllHiding tokens → CallIs (taken depth tokens)
  taken_is depth [] a = tt
  taken_is depth (x ∷ follow) a =
      by_role (role x.token.kind) depth x follow a.0 a.1 (λ inner. taken_is inner follow a.1)

  abbrev ArgumentIs : Option (List HidingToken) → Type 0
  ArgumentIs None = Unit {0}
  ArgumentIs (Some argument) = AllHiding argument

  chosen_is : (b : Bool) (argument : List HidingToken) (o : Option (List HidingToken)) → AllHiding argument
      → ArgumentIs o
      → ArgumentIs (if b then Some argument else o)
  chosen_is true argument o a b = a
  chosen_is false argument o a b = b

  named_argument_is : (parameters : Names) (arguments : List (List HidingToken)) (name : Name) → AllHidings arguments
      → ArgumentIs (argument_named parameters arguments name)
  named_argument_is [] arguments name a = tt
  named_argument_is (parameter ∷ more) [] name a = tt
  named_argument_is (parameter ∷ more) (argument ∷ others) name a =
      chosen_is (bytes_eq name parameter) argument (argument_named more others name) a.0
      (named_argument_is more others name a.1)

  argument_of_is : (parameters : Names) (arguments : List (List HidingToken)) (o : Option Name) → AllHidings arguments
      → ArgumentIs (argument_of parameters arguments o)
  argument_of_is parameters arguments None a = tt
  argument_of_is parameters arguments (Some name) a = named_argument_is parameters arguments name a

  put_argument_is : (line : ℕ) (here : Names) (argument : List HidingToken) → AllHiding argument
      → AllHiding (put_argument line here argument)
  put_argument_is line here [] a = tt
  put_argument_is line here (x ∷ more) a = (moves line x.token a.0, put_argument_is line here more a.1)

  put_token_is : (line : ℕ) (here : Names) (token : Token) (o : Option (List HidingToken)) → P token → ArgumentIs o
      → AllHiding (put_token line here token o)
  put_token_is line here token None p a = (moves line token p, tt)
  put_token_is line here token (Some argument) p a = put_argument_is line here argument a

  put_in_is : (line : ℕ) (here parameters : Names) (arguments : List (List HidingToken)) (list : Tokens)
      → AllHidings arguments → AllByRecursion P list → AllHiding (put_in line here parameters arguments list)
  put_in_is line here parameters arguments [] a b = tt
  put_in_is line here parameters arguments (token ∷ more) a b =
      let o = argument_of parameters arguments (name_of token.kind) in
      all_append (λ (x : HidingToken). P x.token) (put_token line here token o)
      (put_in line here parameters arguments more)
      (put_token_is line here token o b.0 (argument_of_is parameters arguments (name_of token.kind) a))
      (put_in_is line here parameters arguments more a b.1)

  -- expansion
  abbrev GoIs : Expander → Type 0
  GoIs go = (outer : Option ℕ) (room : ℕ) (tokens : List HidingToken) → AllHiding tokens
      → AllHiding (go outer room tokens).given

  abbrev ExpandedIs : Expanded → Type 0
  ExpandedIs (Ok arguments) = AllHidings arguments.0
  ExpandedIs (Err fault) = Unit {0}

  before_is_all : (argument : List HidingToken) (e : Expanded) → AllHiding argument → ExpandedIs e
      → ExpandedIs (before_others argument e)
  before_is_all argument (Ok others) a b = (a, b)
  before_is_all argument (Err fault) a b = tt

  then_is : (argument : List HidingToken) (end : Result ℕ PreFault) (others : ℕ → Expanded) → AllHiding argument
      → ((left : ℕ) → ExpandedIs (others left)) → ExpandedIs (then_others argument end others)
  then_is argument (Ok left) others a f = before_is_all argument (others left) a (f left)
  then_is argument (Err fault) others a f = tt

  module _ (go : Expander) (is : GoIs go) where
    each_is : (outer : Option ℕ) (arguments : List (List HidingToken)) (room : ℕ) → AllHidings arguments
        → ExpandedIs (each_expanded (go outer) room arguments)
    each_is outer [] room a = tt
    each_is outer (argument ∷ more) room a =
        then_is (go outer room argument).given (go outer room argument).end (λ left. each_expanded (go outer) left more)
        (is outer room argument a.0) (λ left. each_is outer more left a.1)

    again_is : (outer : Option ℕ) (line room : ℕ) (tokens follow : List HidingToken) → AllHiding tokens
        → AllHiding follow
        → AllHiding (read_again go outer line room tokens follow).given
    again_is outer line room tokens follow a b = by (nat_le (length tokens) room)
      where
        by : (c : Bool) → AllHiding (if c then go outer (room - length tokens) (tokens ++ follow)
            else stops (fault_at line TooMany)).given
        by true = is outer (room - length tokens) (tokens ++ follow)
            (all_append (λ (x : HidingToken). P x.token) tokens follow a b)
        by false = tt

    with_is : (outer : Option ℕ) (used : Used) (parameters : Names) (is_empty : Bool) (call : Call) (e : Expanded)
        → AllByRecursion P used.list → AllHiding call.follow → ExpandedIs e
        → AllHiding (with_arguments go outer used parameters is_empty call e).given
    with_is outer used parameters is_empty call (Err fault) a b c = tt
    with_is outer used parameters is_empty call (Ok arguments) a b c =
        by (fits (length parameters) is_empty (length arguments.0))
      where
        tokens : List HidingToken
        tokens = put_in used.line (used.name ∷ common used.hidden call.close) parameters arguments.0 used.list

        by : (d : Bool) → AllHiding (if d then read_again go outer used.line arguments.1 tokens call.follow
            else stops (fault_at used.line BadCall)).given
        by true = again_is outer used.line arguments.1 tokens call.follow
            (put_in_is used.line (used.name ∷ common used.hidden call.close) parameters arguments.0 used.list c a) b
        by false = tt

    call_is : (outer : Option ℕ) (used : Used) (parameters : Names) (room : ℕ) (o : Option Call)
        → AllByRecursion P used.list → CallIs o → AllHiding (with_call go outer used parameters room o).given
    call_is outer used parameters room None a b = tt
    call_is outer used parameters room (Some call) a b =
        with_is outer used parameters (begins_empty call.arguments) call
        (each_expanded (go (Some used.line)) room call.arguments) a b.1
        (each_is (Some used.line) call.arguments room b.0)

    called_is : (outer : Option ℕ) (used : Used) (parameters : Names) (x : HidingToken) (room : ℕ)
        (follow : List HidingToken) (o : Option (List HidingToken)) → AllByRecursion P used.list → P x.token
        → AllHiding follow → ArgumentIs o → AllHiding (called go outer used parameters x room follow o).given
    called_is outer used parameters x room follow None a p b c = (p, is outer room follow b)
    called_is outer used parameters x room follow (Some behind) a p b c =
        call_is outer used parameters room (taken zero behind) a (taken_is zero behind c)

    opened_is : (follow : List HidingToken) → AllHiding follow → ArgumentIs (opened follow)
    opened_is [] a = tt
    opened_is (y ∷ more) a = by (role y.token.kind)
      where
        by : (r : Role) → ArgumentIs (behind_open r more)
        by opens = a.1
        by closes = tt
        by parts = tt
        by other = tt

    replaced_is : (outer : Option ℕ) (used : Used) (parameters : Option Names) (x : HidingToken) (room : ℕ)
        (follow : List HidingToken) → AllByRecursion P used.list → P x.token → AllHiding follow
        → AllHiding (replaced go outer used parameters x room follow).given
    replaced_is outer used None x room follow a p b =
        again_is outer used.line room (put_in used.line (used.name ∷ used.hidden) [] [] used.list) follow
        (put_in_is used.line (used.name ∷ used.hidden) [] [] used.list tt a) b
    replaced_is outer used (Some parameters) x room follow a p b =
        called_is outer used parameters x room follow (opened follow) a p b (opened_is follow b)

    turn_is : (outer : Option ℕ) (x : HidingToken) (o : Option (Name × Macro)) (room : ℕ) (follow : List HidingToken)
        → ((r : Name × Macro) → o ≡ Some r → AllByRecursion P r.1.list) → P x.token → AllHiding follow
        → AllHiding (turn go outer x o room follow).given
    turn_is outer x None room follow f p b = (p, is outer room follow b)
    turn_is outer x (Some r) room follow f p b =
        replaced_is outer (use_of outer x r.0 r.1) r.1.parameters x room follow (f r refl) p b

  abbrev unwrapped : Option (Name × Macro) → Macro → Macro
  unwrapped None d = d
  unwrapped (Some q) d = q.1

  by_macro : (name : Name) (o : Option Macro) (r : Name × Macro)
      → ((m : Macro) → o ≡ Some m → AllByRecursion P m.list) → with_macro_of name o ≡ Some r
      → AllByRecursion P r.1.list
  by_macro name None r f e = absurd (cc)
  by_macro name (Some m) r f e =
      let same : m ≡ r.1 = ap (λ (o : Option (Name × Macro)). unwrapped o m) e in
      subst (λ (k : Macro). AllByRecursion P k.list) same (f m refl)

  by_member : (hides : Bool) (name : Name) (o : Option Macro) (r : Name × Macro)
      → ((m : Macro) → o ≡ Some m → AllByRecursion P m.list)
      → (if hides then None else with_macro_of name o) ≡ Some r → AllByRecursion P r.1.list
  by_member true name o r f e = absurd (cc)
  by_member false name o r f e = by_macro name o r f e

  by_name : (macros : Macros) (hidden : Names) (name : Option Name) (r : Name × Macro) → MacrosAre macros
      → macro_named macros hidden name ≡ Some r → AllByRecursion P r.1.list
  by_name macros hidden None r m e = absurd (cc)
  by_name macros hidden (Some name) r m e = by_member (member name hidden) name (macros name) r (m.lists name) e

  expanding : (depth : ℕ) (macros : Macros) → MacrosAre macros → GoIs (expand_by depth macros)
  expanding zero macros m outer room tokens a = tt
  expanding (suc depth) macros m outer room [] a = tt
  expanding (suc depth) macros m outer room (x ∷ follow) a =
      turn_is (expand_by depth macros) (expanding depth macros m) outer x (replacement macros x) room follow
      (λ r e. by_name macros x.hidden (name_of x.token.kind) r m e) a.0 a.1

  tokens_of : (xs : List HidingToken) → AllHiding xs → AllByRecursion P (map (λ x. x.token) xs)
  tokens_of [] a = tt
  tokens_of (x ∷ xs) a = (a.0, tokens_of xs a.1)

  any_end : (end : Result ℕ PreFault) → IfOk end (λ _. Unit {0})
  any_end (Ok room) = tt
  any_end (Err fault) = tt

  -- states
  record StateIs (s : State) : Type 0 where
    macros : MacrosAre s.macros

  a_text_line : (s : State) (line : Tokens) → StateIs s → AllByRecursion P line
      → TraceIs (read_text_line s line) StateIs
  unfolding read_text_line expansion
  a_text_line s line is a =
      let t = expand_by (length (of_text line) + s.room) s.macros None s.room (of_text line) in
      bind (trace_of t) (leaving_room s) (λ _. Unit {0}) StateIs
      (record {
        given =
            tokens_of t.given (expanding (length (of_text line) + s.room) s.macros is.macros None s.room (of_text line)
            (all_of_text line a));
        end = any_end t.end;
      })
      (λ room _. is_quiet (record s { room = room }) StateIs (record { macros = is.macros }))

  changed_by : (same : Bool) (list old : Option Macro) (l : Macro)
      → ((k : Macro) → list ≡ Some k → AllByRecursion P k.list)
      → ((k : Macro) → old ≡ Some k → AllByRecursion P k.list)
      → (if same then list else old) ≡ Some l → AllByRecursion P l.list
  changed_by true list old l f g e = f l e
  changed_by false list old l f g e = g l e

  changed : (name : Name) (list : Option Macro) (macros : Macros)
      → ((k : Macro) → list ≡ Some k → AllByRecursion P k.list)
      → MacrosAre macros → MacrosAre (redefined name list macros)
  changed name list macros f m = record
      { lists = λ other l e. changed_by (bytes_eq name other) list (macros other) l f (m.lists other) e }

  some_is : (macro k : Macro) → AllByRecursion P macro.list → Some macro ≡ Some k → AllByRecursion P k.list
  some_is macro k a e = let same : macro ≡ k = cc in subst (λ (m : Macro). AllByRecursion P m.list) same a

  defining : (s : State) (at : ℕ) (name : Name) (list : Macro) → StateIs s → AllByRecursion P list.list
      → TraceIs (defined s at name list) StateIs
  defining s at name list is a =
      is_if (may_be (s.macros name) list) _ _ _
      (is_quiet _ StateIs (record { macros = changed name (Some list) s.macros (λ k e. some_is list k a e) is.macros }))
      (is_failed _ _ _)

  -- what a line gives to define
  abbrev LineIs : Line → Type 0
  LineIs (define name macro) = AllByRecursion P macro.list
  LineIs _ = Unit {0}

  named_is : (found : Name → Line) (unnamed : Line) (o : Option Name) → ((name : Name) → LineIs (found name))
      → LineIs unnamed → LineIs (named_or found unnamed o)
  named_is found unnamed None f g = g
  named_is found unnamed (Some name) f g = f name

  if_line : (b : Bool) (x y : Line) → LineIs x → LineIs y → LineIs (if b then x else y)
  if_line true x y p q = p
  if_line false x y p q = q

  behind_is : (tokens : Tokens) → AllByRecursion P tokens → AllByRecursion P (behind_first tokens)
  behind_is [] a = tt
  behind_is (t ∷ more) a = a.1

  abbrev PartedIs : Option (Tokens × Tokens) → Type 0
  PartedIs None = Unit {0}
  PartedIs (Some parted) = AllByRecursion P parted.1

  longer_is : (t : Token) (o : Option (Tokens × Tokens)) → PartedIs o
      → PartedIs (option_map (λ p. (t ∷ p.0, p.1)) o)
  longer_is t None a = tt
  longer_is t (Some parted) a = a

  either_parted : (b : Bool) (x y : Option (Tokens × Tokens)) → PartedIs x → PartedIs y → PartedIs (if b then x else y)
  either_parted true x y a b = a
  either_parted false x y a b = b

  to_close_is : (tokens : Tokens) → AllByRecursion P tokens → PartedIs (to_close tokens)
  to_close_is [] a = tt
  to_close_is (t ∷ more) a =
      either_parted (is_close t.kind) (Some ([], more)) _ a.1 (longer_is t (to_close more) (to_close_is more a.1))

  function_is : (name : Name) (o : Option (Tokens × Tokens)) → PartedIs o → LineIs (function_like name o)
  function_is name None a = tt
  function_is name (Some parted) a =
      if_line (are_parameters parted.0 && not (list_any (λ token. is_left_out token.kind) parted.1)) _ _ a tt

  definition_is : (tokens : Tokens) → AllByRecursion P tokens → LineIs (definition tokens)
  definition_is [] a = tt
  definition_is (t ∷ list) a = by_option (name_of t.kind)
    where
      by_option : (o : Option Name) → LineIs (define_named o list)
      by_option None = tt
      by_option (Some name) = if_line (begins_parameters list) _ _
          (function_is name (to_close (behind_first list)) (to_close_is (behind_first list) (behind_is list a.1))) a.1

  included_is : (o : Option Header) → LineIs (included o)
  included_is None = tt
  included_is (Some header) = tt

  directive_is : (o : Option DirectiveName) (more : Tokens) → AllByRecursion P more
      → LineIs (directive_or_unknown o more)
  directive_is None more a = tt
  directive_is (Some d.Define) more a = definition_is more a
  directive_is (Some d.Undef) more a = named_is undef unknown_directive (only_name more) (λ _. tt) tt
  directive_is (Some d.Include) more a = included_is (header_of more)
  directive_is (Some d.Ifdef) more a = named_is (λ name. if_defined name true) if_other (only_name more) (λ _. tt) tt
  directive_is (Some d.Ifndef) more a = named_is (λ name. if_defined name false) if_other (only_name more) (λ _. tt) tt
  directive_is (Some d.If) more a = tt
  directive_is (Some d.Elif) more a = tt
  directive_is (Some d.Else) more a = tt
  directive_is (Some d.Endif) more a = tt

  behind_hash : (more : Tokens) → AllByRecursion P more → LineIs (directive more)
  behind_hash [] a = tt
  behind_hash (t ∷ more) a = directive_is (directive_named (spelling_of t.kind)) more a.1

  by_word : (w : TokenKind) (more : Tokens) → AllByRecursion P more → LineIs (line_by w more)
  by_word (Punctuator Hash) more a = behind_hash more a
  by_word _ more a = tt

  kind_is : (line : Tokens) → AllByRecursion P line → LineIs (line_kind line)
  unfolding line_kind
  kind_is [] a = tt
  kind_is (t ∷ more) a = by_word t.kind more a.1

  -- lines
  abbrev LinesAre : List Tokens → Type 0
  LinesAre ls = AllByRecursion (λ l. AllByRecursion P l) ls

  before_is : (t : Token) (ls : List Tokens) → P t → LinesAre ls → LinesAre (before t ls)
  before_is t [] p a = ((p, tt), tt)
  before_is t (line ∷ more) p a = by_begin (begins line)
    where
      by_begin : (b : Bool) → LinesAre (if b then (t ∷ []) ∷ line ∷ more else (t ∷ line) ∷ more)
      by_begin true = ((p, tt), a)
      by_begin false = ((p, a.0), a.1)

  lines_are : (tokens : Tokens) → AllByRecursion P tokens → LinesAre (lines tokens)
  lines_are [] a = tt
  lines_are (t ∷ more) a = before_is t (lines more) a.0 (lines_are more a.1)

  run_before : (line : Tokens) (ls : List Tokens) → AllByRecursion P line → LinesAre ls → LinesAre (before_run line ls)
  run_before line [] p a = (p, tt)
  run_before line (run ∷ more) p a = by (is_text (line_kind line) && is_text (line_kind run))
    where
      by : (b : Bool) → LinesAre (if b then (line ++ run) ∷ more else line ∷ run ∷ more)
      by true = (all_append P line run p a.0, a.1)
      by false = (p, a)

  runs_are : (ls : List Tokens) → LinesAre ls → LinesAre (runs ls)
  runs_are [] a = tt
  runs_are (line ∷ more) a = run_before line (runs more) a.0 (runs_are more a.1)

  defining_line : (s : State) (at : ℕ) (line : Line) → StateIs s → LineIs line → TraceIs (define_line s at line) StateIs
  defining_line s at (define name list) is a = defining s at name list is a
  defining_line s at _ is a = is_quiet s StateIs is

  defining_lines : (at : ℕ) (ls : List Tokens) (s : State) → StateIs s → LinesAre ls
      → TraceIs (define_lines at ls s) StateIs
  defining_lines at [] s is a = is_quiet s StateIs is
  defining_lines at (line ∷ more) s is a =
      bind (define_line s at (line_kind line)) (define_lines at more) StateIs StateIs
      (defining_line s at (line_kind line) is (kind_is line a.0)) (λ t t_is. defining_lines at more t t_is a.1)

  -- sections change no macro
  with_sections : (s : State) (sections : List IfSection) → StateIs s → StateIs (record s { sections = sections })
  with_sections s sections is = record { macros = is.macros }

  at_else : (line : ℕ) (well : Bool) (s : State) (sections : List IfSection) → StateIs s
      → TraceIs (else_at line well s sections) StateIs
  at_else line well s [] is = is_failed _ _ _
  at_else line well s (section ∷ outer) is =
      is_if section.has_else _ _ _ (is_failed _ _ _)
      (is_if (section.in_read_text && not well) _ _ _ (is_failed _ _ _) (is_quiet _ StateIs (with_sections s _ is)))

  at_endif : (line : ℕ) (well : Bool) (s : State) (sections : List IfSection) → StateIs s
      → TraceIs (endif_at line well s sections) StateIs
  at_endif line well s [] is = is_failed _ _ _
  at_endif line well s (section ∷ outer) is =
      is_if (section.in_read_text && not well) _ _ _ (is_failed _ _ _) (is_quiet _ StateIs (with_sections s _ is))

  -- conditions give no token
  judged_is : (line room : ℕ) (word : Option ℕ) → TraceIs (judged line room word) (λ _. Unit {0})
  judged_is line room None = is_failed _ _ _
  judged_is line room (Some word) = is_quiet _ _ tt

  judged_end_is : (line : ℕ) (tokens : Tokens) (end : Result ℕ PreFault)
      → TraceIs (judged_at_end line tokens end) (λ _. Unit {0})
  judged_end_is line tokens (Ok room) = judged_is line room (condition_value (map without_name tokens))
  judged_end_is line tokens (Err fault) = record { given = tt; end = tt }

  condition_is : (line : ℕ) (macros : Macros) (room : ℕ) (tokens : Tokens)
      → TraceIs (condition_at line macros room tokens) (λ _. Unit {0})
  unfolding condition_at
  condition_is line macros room tokens =
      let expanded = trace_of (expansion macros None room (of_text (marked_behind 0 macros tokens))) in
      judged_end_is line expanded.given expanded.end

  at_elif : (at : ℕ) (tokens : Tokens) (s : State) (sections : List IfSection) → StateIs s
      → TraceIs (elif_at at tokens s sections) StateIs
  at_elif at tokens s [] is = is_failed _ _ _
  at_elif at tokens s (section ∷ outer) is =
      is_if section.has_else _ _ _ (is_failed _ _ _)
      (is_if section.is_taken _ _ _ (is_quiet _ StateIs (with_sections s _ is))
      (bind (condition_at at s.macros s.room tokens) (with_alternative s section outer) (λ _. Unit {0}) StateIs
      (condition_is at s.macros s.room tokens) (λ c _. is_quiet _ StateIs (record { macros = is.macros }))))

  none_is : (k : Macro) → None ≡ Some k → AllByRecursion P k.list
  none_is k e = absurd (cc)

  module _ (headers : (h : Header) → AllByRecursion P (header_tokens h)) where
    obeying : (s : State) (at : ℕ) (line : Line) → StateIs s → LineIs line → TraceIs (obeyed s at line) StateIs
    obeying s at text_line is a = is_quiet s StateIs is
    obeying s at (if_defined name wanted) is a = is_quiet _ StateIs (with_sections s _ is)
    obeying s at if_other is a = is_failed _ _ _
    obeying s at (if_condition tokens) is a =
        bind (condition_at at s.macros s.room tokens) (with_condition s at) (λ _. Unit {0}) StateIs
        (condition_is at s.macros s.room tokens) (λ c _. is_quiet _ StateIs (record { macros = is.macros }))
    obeying s at (elif tokens) is a = at_elif at tokens s s.sections is
    obeying s at (else_group well) is a = at_else at well s s.sections is
    obeying s at (endif_line well) is a = at_endif at well s s.sections is
    obeying s at (define name list) is a = defining s at name list is a
    obeying s at (undef name) is a = is_quiet _ StateIs
        (record { macros = changed name None s.macros (λ k e. none_is k e) is.macros })
    obeying s at (include header) is a = defining_lines at (lines (header_tokens header)) s is
        (lines_are (header_tokens header) (headers header))
    obeying s at null_directive is a = is_quiet s StateIs is
    obeying s at unknown_include is a = is_failed _ _ _
    obeying s at unknown_directive is a = is_failed _ _ _

    following : (s : State) (at : ℕ) (line : Line) → StateIs s → TraceIs (followed s at line) StateIs
    following s at (if_defined name wanted) is = is_quiet _ StateIs (with_sections s _ is)
    following s at if_other is = is_quiet _ StateIs (with_sections s _ is)
    following s at (if_condition tokens) is = is_quiet _ StateIs (with_sections s _ is)
    following s at (elif tokens) is = at_elif at tokens s s.sections is
    following s at (else_group well) is = at_else at well s s.sections is
    following s at (endif_line well) is = at_endif at well s s.sections is
    following s at _ is = is_quiet s StateIs is

    a_line : (s : State) (line : Tokens) → StateIs s → AllByRecursion P line → TraceIs (read_line s line) StateIs
    unfolding read_line
    a_line s line is a =
        is_if (not (is_read s.sections)) _ _ _ (following s (line_of line) (line_kind line) is)
        (is_if (is_text (line_kind line)) _ _ _ (a_text_line s line is a)
        (obeying s (line_of line) (line_kind line) is (kind_is line a)))

    ending : (sections : List IfSection) → TraceIs (finished sections) (λ _. Unit {0})
    ending [] = is_quiet tt _ tt
    ending (section ∷ outer) = is_failed _ _ _

    all_lines : (s : State) (ls : List Tokens) → StateIs s → LinesAre ls → TraceIs (read_lines s ls) (λ _. Unit {0})
    all_lines s [] is a = ending s.sections
    all_lines s (line ∷ more) is a =
        bind (read_line s line) (λ next. read_lines next more) StateIs (λ _. Unit {0}) (a_line s line is a.0)
        (λ next next_is. all_lines next more next_is a.1)

    at_start : StateIs start
    at_start = record { macros = record { lists = λ name list e. none_is list e } }

    of_end : {A : Type 0} (given out : Tokens) (end : Result A PreFault) → ended given end ≡ Ok out → given ≡ out
    of_end given out (Ok x) e = cc
    of_end given out (Err fault) e = absurd (cc)

    of_answer : (few : Bool) (given out : Tokens) (end : Result (Unit {0}) PreFault) (fault : PreFault)
        → (if few then ended given end else Err fault) ≡ Ok out → given ≡ out
    of_answer true given out end fault e = of_end given out end e
    of_answer false given out end fault e = absurd (cc)

    pub expanded_all : (tokens out : Tokens) → expanded_tokens tokens ≡ Ok out → AllByRecursion P tokens
        → AllByRecursion P out
    unfolding expanded_tokens answer
    expanded_all tokens out e a =
        let t = read_lines start (runs (lines tokens)) in
        let same : t.given ≡ out = of_answer (nat_le (length t.given) max_expanded_tokens) t.given out t.end _ e in
        subst (λ l. AllByRecursion P l) same (all_lines start (runs (lines tokens)) at_start
        (runs_are (lines tokens) (lines_are tokens a))).given

-- each token comes from itself
comes : (text : Tokens) (token : Token) → StandsIn text token → ComesFrom text token
comes text token s = record { from = token; stands = s; line = token.line; is = refl }

moved : (text : Tokens) (line : ℕ) (token : Token) → ComesFrom text token → ComesFrom text (on_line line token)
moved text line token c = record { from = c.from; stands = c.stands; line = line; is = ap (on_line line) c.is }

among : (tokens : Tokens) (P : Token → Type 0) → ((t : Token) → Contains tokens t → P t) → AllByRecursion P tokens
among tokens P f = recursion_from_All P tokens
    (λ k d lt. f (get_or tokens k d) (k, lt, get_or_default tokens k (get_or tokens k d) d lt))

pub all_come : (text out : Tokens) → expanded_tokens text ≡ Ok out → All (ComesFrom text) out
all_come text out e =
    All-from_recursion (ComesFrom text) out
    (expanded_all (ComesFrom text) (moved text)
    (λ header. among (header_tokens header) (ComesFrom text) (λ t stands. comes text t (inr (header, stands))))
    text out e
    (among text (ComesFrom text) (λ t stands. comes text t (inl stands))))
