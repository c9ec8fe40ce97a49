-- What the code keeps in place of expansions inside of one another: the calls whose arguments are being expanded, and
-- all unread tokens in one vector.
use Rattle.std.specs.Prelude.{◌≡◌, ℕ, zero, Bool, true, is_some, List, [], ◌∷◌, ◌++◌, map, take, drop, Option, Some}
use Rattle.std.specs.Prelude.{None, Result}
use Rattle.std.specs.Prelude.{Ok, Err}
use Rattle.std.specs.List.{AllByRecursion}
use Rattle.c_pre.specs.declared.expander.Call as declared
use Rattle.c_pre.specs.declared.expander.Expander as declared_expander
use Rattle.c_pre.specs.declared.fault.PreFault.{PreFault}
use Rattle.c_pre.specs.declared.fault.PreFaultKind.TheVariants.{BadCall}
use Rattle.c_pre.specs.declared.hide_set.HideSets.{HideSets}
use Rattle.c_pre.specs.declared.hiding.Hiding.{Hiding}
use Rattle.c_pre.specs.Arguments.{Call, taken}
use Rattle.c_pre.specs.Directives.{names_among}
use Rattle.c_pre.specs.Expansion.{Expansion, Expander, Expanded, Used, stops, with_arguments, each_expanded}
use Rattle.c_pre.specs.Expansion.{expansion}
use Rattle.c_pre.specs.HideSets.{HidingToken}
use Rattle.c_pre.specs.InnerFirst.{inner_first}
use Rattle.c_pre.specs.Names.{Names, Macros}
use Rattle.c_pre.specs.SharedSets.{IsKnown, names_of}
use Rattle.c_pre.specs.Trace.{fault_at}

-- a call whose arguments are being expanded: whether its first argument has no tokens; the line of the call
-- around it; the arguments that are done; what the present one gave so far; and what follows that, from the comma or
-- `)` on, in what the call stands in
pub record Frame : Type 0 where
  pub used : Used
  pub parameters : Names
  pub is_empty : Bool
  pub outer : Option ℕ
  pub done : List (List HidingToken)
  pub given : List HidingToken
  pub beyond : List HidingToken

-- the arguments behind the present one
abbrev pub other_arguments : List (List HidingToken) → List (List HidingToken)
other_arguments [] = []
other_arguments (present ∷ more) = more

abbrev pub after_done : List (List HidingToken) → Expanded → Expanded
after_done done (Ok more) = Ok (done ++ more.0, more.1)
after_done done (Err fault) = Err fault

-- the rest of a call behind its present argument, where these arguments are done
abbrev pub rest_of_call : Expander → Frame → List (List HidingToken) → ℕ → Option Call → Expansion
rest_of_call go f done room None = stops (fault_at f.used.line BadCall)
rest_of_call go f done room (Some call) =
    with_arguments go f.outer f.used f.parameters f.is_empty call
    (after_done done (each_expanded (go (Some f.used.line)) room (other_arguments call.arguments)))

abbrev pub behind_argument : Expander → Frame → List HidingToken → Result ℕ PreFault → Expansion
behind_argument go f given (Ok room) =
    rest_of_call go f (f.done ++ ((f.given ++ given) ∷ [])) room (taken zero f.beyond)
behind_argument go f given (Err fault) = stops fault

-- what the expansion of what is left of the innermost argument comes to, behind the calls around it
abbrev pub resumed : Expander → List Frame → Expansion → Expansion
resumed go [] t = t
resumed go (f ∷ outer) t = resumed go outer (behind_argument go f t.given t.end)

abbrev pub hiding : HideSets → Hiding → HidingToken
hiding sets x = record { token = x.token; hidden = names_of sets x.hidden }

abbrev pub all_hiding : HideSets → List Hiding → List HidingToken
all_hiding sets xs = map (hiding sets) xs

-- the end of the present argument, and the line of its call
abbrev pub end_of : List declared.Call → ℕ
end_of [] = 0
end_of (call ∷ outer) = call.end

abbrev pub line_of_calls : List declared.Call → Option ℕ
line_of_calls [] = None
line_of_calls (call ∷ outer) = Some call.line

abbrev pub used_in : HideSets → declared.Call → Used
used_in sets call =
    record { name = call.name; hidden = names_of sets call.hidden; line = call.line; list = call.list.now }

-- the unread tokens above this height, the next one first
abbrev pub above : ℕ → HideSets → List Hiding → List HidingToken
above height sets unread = inner_first (all_hiding sets (drop height unread))

abbrev pub frame : HideSets → declared.Call → Option ℕ → List HidingToken → Frame
frame sets call outer beyond = record {
  used = used_in sets call;
  parameters = names_among call.parameters.now;
  is_empty = call.is_empty;
  outer = outer;
  done = map (λ v. all_hiding sets v.items) call.done.items;
  given = all_hiding sets call.given.items;
  beyond = beyond;
}

-- the calls, the innermost first, above the unread tokens from the end of the innermost argument on
abbrev pub frames : HideSets → List declared.Call → List Hiding → List Frame
frames sets [] unread = []
frames sets (call ∷ outer) unread =
    frame sets call (line_of_calls outer) (above (end_of outer) sets unread)
    ∷ frames sets outer (take (end_of outer) unread)

-- the whole of what is left to do
pub record Left : Type 0 where
  pub frames : List Frame
  pub line : Option ℕ
  pub tokens : List HidingToken
  pub room : ℕ

abbrev pub left_in : HideSets → List declared.Call → List Hiding → ℕ → Left
left_in sets calls unread room = record {
  frames = frames sets calls (take (end_of calls) unread);
  line = line_of_calls calls;
  tokens = above (end_of calls) sets unread;
  room = room;
}

abbrev pub left : declared_expander.Expander → Left
left e = left_in e.unread.sets (inner_first e.calls.items) e.unread.tokens.items e.unread.room

-- what it comes to
abbrev pub comes_to : Macros → Left → Expansion
comes_to macros l = resumed (expansion macros) l.frames (expansion macros l.line l.room l.tokens)

-- all hide sets that are kept are there
abbrev pub AreKnown : HideSets → List Hiding → Type 0
AreKnown sets xs = AllByRecursion (λ (x : Hiding). IsKnown sets x.hidden) xs

pub record CallIsKnown (sets : HideSets) (call : declared.Call) : Type 0 where
  pub hidden : IsKnown sets call.hidden
  pub done : AllByRecursion (λ v. AreKnown sets v.items) call.done.items
  pub given : AreKnown sets call.given.items

abbrev pub IsClosed : Frame → Type 0
IsClosed f = is_some (taken zero f.beyond) ≡ true

-- and all calls have their `)`
pub record SoundIn (sets : HideSets) (all_calls : List declared.Call) (tokens : List Hiding) : Type 0 where
  pub calls : AllByRecursion (CallIsKnown sets) all_calls
  pub unread : AreKnown sets tokens
  pub closed : AllByRecursion IsClosed (frames sets all_calls (take (end_of all_calls) tokens))

abbrev pub IsSound : declared_expander.Expander → Type 0
IsSound e = SoundIn e.unread.sets (inner_first e.calls.items) e.unread.tokens.items
