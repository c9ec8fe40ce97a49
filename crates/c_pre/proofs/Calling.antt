-- Calls: their arguments begin, and end.
use Rattle.std.proofs.Common.{◌≡◌, ℕ, zero, ◌+◌, ◌<◌, Bool, true, false, List, [], ◌∷◌, ◌++◌, map, length}
use Rattle.std.proofs.Common.{take, refl, sym, ap, subst, ◌∙◌, arith, Option, Some, None, nat_eq}
use Rattle.std.proofs.Common.{option_map, is_some}
use Rattle.std.proofs.Math.Dec.{eqb-suc-zero}
use Rattle.std.proofs.lemmas.Bool.{eqb-true, eqb-false}
use Rattle.std.specs.List.{AllByRecursion}
use Rattle.c_pre.specs.declared.expander.Call as declared
use Rattle.c_pre.specs.declared.hide_set.HideSets.{HideSets}
use Rattle.c_pre.specs.declared.hiding.Hiding.{Hiding}
use Rattle.c_pre.specs.Arguments.{Call, taken, with_argument, begins_empty}
use Rattle.c_pre.specs.Directives.{names_among}
use Rattle.c_pre.specs.Ends.{argument_length}
use Rattle.c_pre.specs.Expansion.{with_call, expansion}
use Rattle.c_pre.specs.HideSets.{HidingToken}
use Rattle.c_pre.specs.Names.{Macros}
use Rattle.c_pre.specs.Pending.{Frame, left_in, above, all_hiding, end_of, line_of_calls, used_in, frame, frames}
use Rattle.c_pre.specs.Pending.{resumed, rest_of_call, comes_to, behind_argument, CallIsKnown, IsClosed, SoundIn}
use Rattle.c_pre.proofs.Heights.{above_two, length_above, take_take}
use Rattle.c_pre.proofs.Splitting.{with_first, first_taken, mapped_some}
use Rattle.c_pre.proofs.Steps.{call_begins, next_begins}

some_of : {A : Type 0} (o : Option A) → is_some o ≡ true → (x : A) × (o ≡ Some x)
some_of None e = absurd (cc)
some_of (Some x) e = (x, refl)

pub empty_by_length : (first : List HidingToken) → begins_empty (first ∷ []) ≡ nat_eq (length first) 0
empty_by_length [] = refl
empty_by_length (x ∷ first) = sym (eqb-suc-zero (length first))

pub same_empty : (e k n : ℕ) → e + k ≡ n → nat_eq e n ≡ nat_eq k 0
same_empty e k n h = by (nat_eq e n) (nat_eq k 0) refl refl
  where
    by : (a b : Bool) → nat_eq e n ≡ a → nat_eq k 0 ≡ b → a ≡ b
    by true true p q = refl
    by false false p q = refl
    by true false p q = let s = eqb-true e n p in absurd (eqb-false k 0 q (omega arith))
    by false true p q = let s = eqb-true k 0 q in absurd (eqb-false e n p (omega arith))

-- an argument of a call begins, which ends at the height of the call
module _ (sets : HideSets) (outer : List declared.Call) (tokens : List Hiding) (call : declared.Call) (k : ℕ)
    (is_length : call.end + k ≡ length tokens)
    (ends : argument_length zero (above (end_of outer) sets tokens) ≡ Some k) (low : end_of outer < call.end)
    (closed : is_some (taken zero (above (end_of outer) sets tokens)) ≡ true) where
  abbrev first : List HidingToken
  first = above call.end sets tokens

  abbrev beyond : List HidingToken
  beyond = above (end_of outer) sets (take call.end tokens)

  two : above (end_of outer) sets tokens ≡ first ++ beyond
  two = above_two sets (end_of outer) call.end tokens (omega arith) (omega arith)

  pub length_first : length first ≡ k
  length_first = length_above sets call.end tokens ∙ omega arith

  split : taken zero (above (end_of outer) sets tokens) ≡ option_map (with_first first) (taken zero beyond)
  split =
      ap (taken zero) two
      ∙ first_taken first beyond zero (sym (ap (argument_length zero) two) ∙ ends ∙ ap Some (sym length_first))

  pub beyond_closed : is_some (taken zero beyond) ≡ true
  beyond_closed = sym (mapped_some (with_first first) (taken zero beyond)) ∙ ap is_some (sym split) ∙ closed

  call_behind : (c : Call) × (taken zero beyond ≡ Some c)
  call_behind = some_of (taken zero beyond) beyond_closed

  whole_call : taken zero (above (end_of outer) sets tokens) ≡ Some (with_first first call_behind.0)
  whole_call = split ∙ ap (option_map (with_first first)) call_behind.1

  below : take (end_of outer) (take call.end tokens) ≡ take (end_of outer) tokens
  below = take_take (end_of outer) call.end tokens (omega arith)

  pub sound_call : CallIsKnown sets call → SoundIn sets outer tokens → SoundIn sets (call ∷ outer) tokens
  sound_call known sound = record {
    calls = (known, sound.calls);
    unread = sound.unread;
    closed = (
      beyond_closed,
      subst (λ items. AllByRecursion IsClosed (frames sets outer items))
          (sym below) sound.closed,
    );
  }

  -- the first one
  pub first_argument : (macros : Macros) (room : ℕ) → call.done.items ≡ [] → call.given.items ≡ []
      → call.is_empty ≡ nat_eq k 0
      → resumed (expansion macros) (frames sets outer (take (end_of outer) tokens))
      (with_call (expansion macros) (line_of_calls outer) (used_in sets call) (names_among call.parameters.now) room
      (taken zero (above (end_of outer) sets tokens)))
      ≡ comes_to macros (left_in sets (call ∷ outer) tokens room)
  first_argument macros room done given empty =
      let go = expansion macros in
      let o = line_of_calls outer in
      let t = go (Some call.line) room first in
      let with_parts : List (List HidingToken) → List HidingToken → Frame = λ d g. record {
        used = used_in sets call;
        parameters = names_among call.parameters.now;
        is_empty = call.is_empty;
        outer = o;
        done = d;
        given = g;
        beyond = beyond;
      } in
      ap (λ c. resumed go (frames sets outer (take (end_of outer) tokens))
      (with_call go o (used_in sets call) (names_among call.parameters.now) room c)) whole_call
      ∙ ap (resumed go (frames sets outer (take (end_of outer) tokens)))
      (call_begins go o (used_in sets call) (names_among call.parameters.now) first beyond room call_behind.0
      call.is_empty call_behind.1
      (empty ∙ ap (λ n. nat_eq n 0) (sym length_first) ∙ sym (empty_by_length first)))
      ∙ ap (λ d. resumed go (frames sets outer (take (end_of outer) tokens))
      (behind_argument go (with_parts (map (λ v. all_hiding sets v.items) d) []) t.given t.end)) (sym done)
      ∙ ap (λ g. resumed go (frames sets outer (take (end_of outer) tokens))
      (behind_argument go (with_parts (map (λ v. all_hiding sets v.items) call.done.items) (all_hiding sets g)) t.given
      t.end))
      (sym given)
      ∙ ap (λ items. resumed go (frames sets outer items)
      (behind_argument go (frame sets call o beyond) t.given t.end)) (sym below)

  -- another one, behind those that are done
  pub other_argument : (macros : Macros) (room : ℕ) → call.given.items ≡ []
      → resumed (expansion macros) (frames sets outer (take (end_of outer) tokens))
      (rest_of_call (expansion macros) (frame sets call (line_of_calls outer) [])
      (map (λ v. all_hiding sets v.items) call.done.items) room
      (option_map with_argument (taken zero (above (end_of outer) sets tokens))))
      ≡ comes_to macros (left_in sets (call ∷ outer) tokens room)
  other_argument macros room given =
      let go = expansion macros in
      let o = line_of_calls outer in
      let t = go (Some call.line) room first in
      let done = map (λ v. all_hiding sets v.items) call.done.items in
      let with_given : List HidingToken → Frame = λ g. record {
        used = used_in sets call;
        parameters = names_among call.parameters.now;
        is_empty = call.is_empty;
        outer = o;
        done = done;
        given = g;
        beyond = beyond;
      } in
      ap (λ c. resumed go (frames sets outer (take (end_of outer) tokens))
      (rest_of_call go (frame sets call o []) done room (option_map with_argument c))) whole_call
      ∙ ap (resumed go (frames sets outer (take (end_of outer) tokens)))
      (next_begins go o (used_in sets call) (names_among call.parameters.now) call.is_empty done first beyond room
      call_behind.0 call_behind.1)
      ∙ ap (λ g. resumed go (frames sets outer (take (end_of outer) tokens))
      (behind_argument go (with_given (all_hiding sets g)) t.given t.end)) (sym given)
      ∙ ap (λ items. resumed go (frames sets outer items)
      (behind_argument go (frame sets call o beyond) t.given t.end)) (sym below)
