-- What is left to do, step by step.
use Rattle.std.proofs.Common.{◌≡◌, ℕ, zero, ◌-◌, ◌≤◌, ◌<◌, Bool, true, false, List, [], ◌∷◌, ◌++◌, length}
use Rattle.std.proofs.Common.{refl, sym, ap, ◌∙◌, append_assoc, append-nil, Option}
use Rattle.std.proofs.Common.{Some, None, Result, Ok, Err, nat_le, if◌then◌else◌}
use Rattle.std.proofs.lemmas.Bool.{lt-leb, le-leb}
use Rattle.c_pre.specs.declared.fault.PreFault.{PreFault}
use Rattle.c_pre.specs.declared.fault.PreFaultKind.TheVariants.{TooMany, BadCall}
use Rattle.c_pre.specs.HideSets.{HidingToken, common}
use Rattle.c_pre.specs.Arguments.{Call, taken, with_argument, begins_empty, fits}
use Rattle.c_pre.specs.Expansion.{Expansion, Expander, Expanded, Used, stops, gives_first, read_again, before_others}
use Rattle.c_pre.specs.Expansion.{then_others, each_expanded, with_arguments, with_call, put_in}
use Rattle.c_pre.specs.Names.{Names}
use Rattle.c_pre.specs.Pending.{Frame, other_arguments, after_done, rest_of_call, behind_argument, resumed}
use Rattle.c_pre.specs.Trace.{fault_at}
use Rattle.c_pre.proofs.Splitting.{with_first}

module _ (go : Expander) where
  rest_same : (f : Frame) (given : List HidingToken) (done : List (List HidingToken)) (room : ℕ) (o : Option Call)
      → rest_of_call go f done room o ≡ rest_of_call go (record f { given = given }) done room o
  rest_same f given done room None = refl
  rest_same f given done room (Some call) = refl

  given_behind : (f : Frame) (x : HidingToken) (given : List HidingToken) (end : Result ℕ PreFault)
      → behind_argument go f (x ∷ given) end ≡ behind_argument go (record f { given = f.given ++ (x ∷ []) }) given end
  given_behind f x given (Ok room) =
      ap (λ all. rest_of_call go f (f.done ++ (all ∷ [])) room (taken zero f.beyond))
      (sym (append_assoc f.given (x ∷ []) given))
      ∙ rest_same f (f.given ++ (x ∷ [])) (f.done ++ (((f.given ++ (x ∷ [])) ++ given) ∷ [])) room (taken zero f.beyond)
  given_behind f x given (Err fault) = refl

  -- a token is given to the innermost argument
  pub resumed_given : (outer : List Frame) (f : Frame) (x : HidingToken) (t : Expansion)
      → resumed go (f ∷ outer) (gives_first x t) ≡ resumed go (record f { given = f.given ++ (x ∷ []) } ∷ outer) t
  resumed_given outer f x t = ap (resumed go outer) (given_behind f x t.given t.end)

  -- a fault inside is the whole's
  pub resumed_stops : (frames : List Frame) (fault : PreFault) → resumed go frames (stops fault) ≡ stops fault
  resumed_stops [] fault = refl
  resumed_stops (f ∷ outer) fault = resumed_stops outer fault

  pub again_goes : (outer : Option ℕ) (line room : ℕ) (tokens follow : List HidingToken) → length tokens ≤ room
      → read_again go outer line room tokens follow ≡ go outer (room - length tokens) (tokens ++ follow)
  again_goes outer line room tokens follow h =
      let e : nat_le (length tokens) room ≡ true = le-leb (length tokens) room h in
      ap (λ b. if b then go outer (room - length tokens) (tokens ++ follow) else stops (fault_at line TooMany)) e

  pub again_stops : (outer : Option ℕ) (line room : ℕ) (tokens follow : List HidingToken) → room < length tokens
      → read_again go outer line room tokens follow ≡ stops (fault_at line TooMany)
  again_stops outer line room tokens follow h =
      let e : nat_le (length tokens) room ≡ false = lt-leb (length tokens) room h in
      ap (λ b. if b then go outer (room - length tokens) (tokens ++ follow) else stops (fault_at line TooMany)) e

  module _ (outer : Option ℕ) (used : Used) (parameters : Names) (is_empty : Bool) where
    argument_done : (call : Call) (arguments done : List (List HidingToken)) (given : List HidingToken) (e : Expanded)
        → with_arguments go outer used parameters is_empty call (after_done done (before_others given e))
        ≡ with_arguments go outer used parameters is_empty (record call { arguments = arguments })
        (after_done (done ++ (given ∷ [])) e)
    argument_done call arguments done given (Ok others) =
        ap (λ (all : List (List HidingToken)).
        if fits (length parameters) is_empty (length all)
        then read_again go outer used.line others.1
        (put_in used.line (used.name ∷ common used.hidden call.close) parameters all used.list) call.follow
        else stops (fault_at used.line BadCall))
        (sym (append_assoc done (given ∷ []) others.0))
    argument_done call arguments done given (Err fault) = refl

    by_end : (call : Call) (done : List (List HidingToken)) (others : List (List HidingToken))
        (given beyond : List HidingToken)
        → taken zero beyond ≡ Some (record call { arguments = others }) → (end : Result ℕ PreFault)
        → with_arguments go outer used parameters is_empty call (after_done done
        (then_others given end (λ left. each_expanded (go (Some used.line)) left (other_arguments others))))
        ≡ behind_argument go (record {
          used = used;
          parameters = parameters;
          is_empty = is_empty;
          outer = outer;
          done = done;
          given = [];
          beyond = beyond;
        }) given end
    by_end call done others given beyond e (Ok room) =
        argument_done call others done given (each_expanded (go (Some used.line)) room (other_arguments others))
        ∙ ap (rest_of_call go (record {
          used = used;
          parameters = parameters;
          is_empty = is_empty;
          outer = outer;
          done = done;
          given = [];
          beyond = beyond;
        }) (done ++ (given ∷ [])) room) (sym e)
    by_end call done others given beyond e (Err fault) = refl

    -- an argument is expanded before the others
    one_argument : (call : Call) (done : List (List HidingToken)) (others : List (List HidingToken)) (t : Expansion)
        (beyond : List HidingToken) → taken zero beyond ≡ Some (record call { arguments = others })
        → with_arguments go outer used parameters is_empty call (after_done done
        (then_others t.given t.end (λ left. each_expanded (go (Some used.line)) left (other_arguments others))))
        ≡ behind_argument go (record {
          used = used;
          parameters = parameters;
          is_empty = is_empty;
          outer = outer;
          done = done;
          given = [];
          beyond = beyond;
        }) t.given t.end
    one_argument call done others t beyond e = by_end call done others t.given beyond e t.end

    -- the next argument of a call begins
    pub next_begins : (done : List (List HidingToken)) (first beyond : List HidingToken) (room : ℕ) (call : Call)
        → taken zero beyond ≡ Some call
        → with_arguments go outer used parameters is_empty (with_argument (with_first first call))
        (after_done done (each_expanded (go (Some used.line)) room (first ∷ other_arguments call.arguments)))
        ≡ behind_argument go (record {
          used = used;
          parameters = parameters;
          is_empty = is_empty;
          outer = outer;
          done = done;
          given = [];
          beyond = beyond;
        }) (go (Some used.line) room first).given (go (Some used.line) room first).end
    next_begins done first beyond room call e =
        one_argument (with_argument (with_first first call)) done call.arguments
        (go (Some used.line) room first) beyond e

  nothing_done : (e : Expanded) → after_done [] e ≡ e
  nothing_done (Ok others) = refl
  nothing_done (Err fault) = refl

  abbrev is_first : List HidingToken → Bool
  is_first first = begins_empty (first ∷ [])

  first_only : (first : List HidingToken) (more : List (List HidingToken)) → begins_empty (first ∷ more)
      ≡ is_first first
  first_only [] more = refl
  first_only (x ∷ first) more = refl

  -- a call begins
  pub call_begins : (outer : Option ℕ) (used : Used) (parameters : Names) (first beyond : List HidingToken) (room : ℕ)
      (call : Call) (is_empty : Bool) → taken zero beyond ≡ Some call → is_empty ≡ begins_empty (first ∷ [])
      → with_call go outer used parameters room (Some (with_first first call))
      ≡ behind_argument go (record {
        used = used;
        parameters = parameters;
        is_empty = is_empty;
        outer = outer;
        done = [];
        given = [];
        beyond = beyond;
      }) (go (Some used.line) room first).given (go (Some used.line) room first).end
  call_begins outer used parameters first beyond room call is_empty e empty =
      let others = each_expanded (go (Some used.line)) room (first ∷ other_arguments call.arguments) in
      ap (λ b. with_arguments go outer used parameters b (with_first first call) others)
      (first_only first (other_arguments call.arguments) ∙ sym empty)
      ∙ ap (with_arguments go outer used parameters is_empty (with_first first call)) (sym (nothing_done others))
      ∙ one_argument outer used parameters is_empty (with_first first call) [] call.arguments
      (go (Some used.line) room first) beyond e

  -- a call ends
  module _ (f : Frame) (done : List (List HidingToken)) (room : ℕ) (close : Names) (follow : List HidingToken) where
    abbrev last : Call
    last = record { arguments = [] ∷ []; close = close; follow = follow }

    abbrev put_last : List (List HidingToken) → Expansion
    put_last all = read_again go f.outer f.used.line room
        (put_in f.used.line (f.used.name ∷ common f.used.hidden close) f.parameters all f.used.list) follow

    pub call_ends : fits (length f.parameters) f.is_empty (length done) ≡ true
        → rest_of_call go f done room (Some last) ≡ put_last done
    call_ends e =
        ap (λ all. if fits (length f.parameters) f.is_empty (length all) then put_last all
        else stops (fault_at f.used.line BadCall)) (append-nil done)
        ∙ ap (λ b. if b then put_last done else stops (fault_at f.used.line BadCall)) e

    pub call_does_not_fit : fits (length f.parameters) f.is_empty (length done) ≡ false
        → rest_of_call go f done room (Some last) ≡ stops (fault_at f.used.line BadCall)
    call_does_not_fit e =
        ap (λ all. if fits (length f.parameters) f.is_empty (length all) then put_last all
        else stops (fault_at f.used.line BadCall)) (append-nil done)
        ∙ ap (λ b. if b then put_last done else stops (fault_at f.used.line BadCall)) e
