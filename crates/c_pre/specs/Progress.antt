-- What the steps of the code do: each leaves something that comes to the same.
use Rattle.std.specs.Prelude.{◌≡◌, zero, ◌≤◌, ◌<◌, Bool, true, false, [], ◌∷◌, ◌++◌, length, map, Option, Some, None}
use Rattle.std.specs.Prelude.{Result}
use Rattle.std.specs.Prelude.{Ok, Err, option_map, ⊤}
use Rattle.c_pre.specs.declared.expander.Call as declared
use Rattle.c_pre.specs.declared.expander.Expander as declared_expander
use Rattle.c_pre.specs.declared.fault.PreError.{PreError}
use Rattle.c_pre.specs.declared.fault.PreError.TheVariants.{Memory, Fault}
use Rattle.c_pre.specs.declared.hide_set.HideSet.{HideSet}
use Rattle.c_pre.specs.declared.hiding.Hiding.{Hiding}
use Rattle.c_pre.specs.Arguments.{taken, with_argument}
use Rattle.c_pre.specs.Directives.{names_among}
use Rattle.c_pre.specs.Expansion.{Expansion, Used, stops, gives_first, replaced, with_call, line_at, turn, replacement}
use Rattle.c_pre.specs.Expansion.{expansion}
use Rattle.c_pre.specs.Expansion.{trace_of}
use Rattle.c_pre.specs.Limits.{max_expanded_tokens}
use Rattle.c_pre.specs.Lines.{Tokens}
use Rattle.c_pre.specs.Names.{Name, Names, Macros}
use Rattle.c_pre.specs.Pending.{Left, left, hiding, all_hiding, resumed, rest_of_call, frame, comes_to, IsSound}
use Rattle.c_pre.specs.SharedSets.{names_of}
use Rattle.c_pre.specs.Trace.{after, answer}

-- what is left behind a token, if that comes to this
abbrev pub behind : Macros → Left → Expansion → Expansion
behind macros l t = resumed (expansion macros) l.frames t

-- a token stays
abbrev pub staying : Macros → declared_expander.Expander → Hiding → Expansion
staying macros e x = behind macros (left e)
    (gives_first (hiding e.unread.sets x) (expansion macros (left e).line (left e).room (left e).tokens))

abbrev pub used : declared_expander.Expander → Hiding → Name → Tokens → Used
used e x name list = record {
  name = name;
  hidden = names_of e.unread.sets x.hidden;
  line = line_at (left e).line x.token.line;
  list = list;
}

-- a name is that of a macro
abbrev pub using_macro : Macros → declared_expander.Expander → Hiding → Name → Option Names → Tokens → Expansion
using_macro macros e x name parameters list = behind macros (left e)
    (replaced (expansion macros) (left e).line (used e x name list) parameters (hiding e.unread.sets x) (left e).room
    (left e).tokens)

abbrev pub object_like : Macros → declared_expander.Expander → Hiding → Name → Tokens → Expansion
object_like macros e x name list = using_macro macros e x name None list

abbrev pub function_like : Macros → declared_expander.Expander → Hiding → Name → Tokens → Tokens → Expansion
function_like macros e x name parameters list = using_macro macros e x name (Some (names_among parameters)) list

-- a call whose `(` was read
abbrev pub beginning : Macros → declared_expander.Expander → Hiding → Name → Tokens → Tokens → Expansion
beginning macros e x name parameters list = behind macros (left e)
    (with_call (expansion macros) (left e).line (used e x name list) (names_among parameters) (left e).room
    (taken zero (left e).tokens))

-- a call behind the comma that ended an argument
abbrev pub next_argument : Macros → declared_expander.Expander → declared.Call → Expansion
next_argument macros e call = behind macros (left e)
    (rest_of_call (expansion macros) (frame e.unread.sets call (left e).line [])
    (map (λ v. all_hiding e.unread.sets v.items) call.done.items) (left e).room
    (option_map with_argument (taken zero (left e).tokens)))

-- a call behind its `)`
abbrev pub last_argument : Macros → declared_expander.Expander → declared.Call → HideSet → Expansion
last_argument macros e call close = behind macros (left e)
    (rest_of_call (expansion macros) (frame e.unread.sets call (left e).line [])
    (map (λ v. all_hiding e.unread.sets v.items) call.done.items) (left e).room
    (Some (record { arguments = [] ∷ []; close = names_of e.unread.sets close; follow = (left e).tokens })))

-- the present argument ended
pub record ArgumentEnds (old new : declared.Call) : Type 0 where
  pub done : new.done.items ≡ old.done.items ++ old.given ∷ []
  pub given : new.given.items ≡ []
  pub same : new ≡ record old { done = new.done; given = new.given }

-- the whole goes on as what is left
pub record GoesOn (whole : Macros → Expansion) (new : declared_expander.Expander) : Type 0 where
  pub same : (macros : Macros) → whole macros ≡ comes_to macros (left new)
  pub sound : IsSound new

abbrev pub StopsAt : Expansion → PreError → Type 0
StopsAt t Memory = ⊤
StopsAt t (Fault fault) = t ≡ stops fault

-- of a step that stops, behind tokens that were given: the answer for the whole text is this fault. Where a token more
-- may be given, it stands at the start.
abbrev pub StopsBehind : Tokens → Expansion → PreError → Type 0
StopsBehind before whole Memory = ⊤
StopsBehind before whole (Fault fault) = (answer (after before (trace_of whole)) ≡ Err fault)
    × (length before < max_expanded_tokens → whole ≡ stops fault)

-- a step that gives no token
abbrev pub Steps : {X : Type 0} → (Macros → Expansion) → declared_expander.Expander → Result X PreError → Type 0
Steps whole new (Ok x) = GoesOn whole new
Steps whole new (Err error) = (macros : Macros) → StopsAt (whole macros) error

pub record GivesOn (whole : Macros → Expansion) (new : declared_expander.Expander) (before now : Tokens) : Type 0 where
  pub same : (macros : Macros) → after before (trace_of (whole macros))
      ≡ after now (trace_of (comes_to macros (left new)))
  pub sound : IsSound new
  pub few : length now ≤ max_expanded_tokens

-- a step that may give a token
abbrev pub Goes : {X : Type 0} → (Macros → Expansion) → declared_expander.Expander → Tokens → Tokens → Result X PreError
    → Type 0
Goes whole new before now (Ok x) = GivesOn whole new before now
Goes whole new before now (Err error) = (macros : Macros) → StopsBehind before (whole macros) error

-- one step
pub record Comes (whole : Expansion) (macros : Macros) (new : declared_expander.Expander)
    (before now : Tokens) : Type 0 where
  pub same : after before (trace_of whole) ≡ after now (trace_of (comes_to macros (left new)))
  pub sound : IsSound new
  pub few : length now ≤ max_expanded_tokens

pub record IsDone (whole : Expansion) (new : declared_expander.Expander) (before now : Tokens) : Type 0 where
  pub same : after before (trace_of whole) ≡ record { given = now; end = Ok new.unread.room }
  pub few : length now ≤ max_expanded_tokens

abbrev pub Advances : Expansion → Macros → declared_expander.Expander → Tokens → Tokens → Result Bool PreError → Type 0
Advances whole macros new before now (Ok true) = Comes whole macros new before now
Advances whole macros new before now (Ok false) = IsDone whole new before now
Advances whole macros new before now (Err error) = StopsBehind before whole error

-- a token is read
abbrev pub reading : Macros → declared_expander.Expander → Hiding → Expansion
reading macros e x = behind macros (left e)
    (turn (expansion macros) (left e).line (hiding e.unread.sets x) (replacement macros (hiding e.unread.sets x))
    (left e).room (left e).tokens)

abbrev pub Reads : {X : Type 0} → Macros → Expansion → declared_expander.Expander → Tokens → Tokens → Result X PreError
    → Type 0
Reads macros whole new before now (Ok x) = Comes whole macros new before now
Reads macros whole new before now (Err error) = StopsBehind before whole error
