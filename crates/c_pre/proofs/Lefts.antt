-- What is left to do, where more sets or tokens were made.
use Rattle.std.proofs.Common.{◌≡◌, ℕ, ◌-◌, ◌≤◌, List, [], ◌∷◌, ◌++◌, map, length}
use Rattle.std.proofs.Common.{take, refl, sym, ap, ◌∙◌, arith, Option}
use Rattle.std.specs.List.{AllByRecursion}
use Rattle.c_pre.specs.declared.expander.Call as declared
use Rattle.c_pre.specs.declared.hide_set.HideSets.{HideSets}
use Rattle.c_pre.specs.declared.hiding.Hiding.{Hiding}
use Rattle.c_pre.specs.declared.unread.Unread.{Unread}
use Rattle.c_pre.specs.Directives.{names_among}
use Rattle.c_pre.specs.HideSets.{HidingToken}
use Rattle.c_pre.specs.Names.{Names}
use Rattle.c_pre.specs.Pending.{Frame, Left, left_in, above, all_hiding, end_of, line_of_calls, frame, frames}
use Rattle.c_pre.specs.Pending.{AreKnown, CallIsKnown}
use Rattle.c_pre.specs.PutIn.{Puts}
use Rattle.c_pre.specs.SharedSets.{Grows, names_of}
use Rattle.c_pre.proofs.Sets.{still_known}
use Rattle.c_pre.proofs.Heights.{take_take, above_two, same_above, same_hiding, still_are_known, all_take, all_weaker}
use Rattle.c_pre.proofs.Putting.{longer}

module _ (old new : HideSets) (more : Grows old new) where
  pub same_done : {A : Type 0} (items : A → List Hiding) (vs : List A) → AllByRecursion (λ v. AreKnown old (items v)) vs
      → map (λ v. all_hiding new (items v)) vs ≡ map (λ v. all_hiding old (items v)) vs
  same_done items [] a = refl
  same_done items (v ∷ vs) a =
      ap (λ l. l ∷ map (λ w. all_hiding new (items w)) vs) (same_hiding old new more (items v) a.0)
      ∙ ap (λ ls. all_hiding old (items v) ∷ ls) (same_done items vs a.1)

  abbrev frame_with : declared.Call → Option ℕ → Names → List (List HidingToken) → List HidingToken → List HidingToken
      → Frame
  frame_with call outer hidden done given beyond = record {
    used = record { name = call.name; hidden = hidden; line = call.line; list = call.list.now };
    parameters = names_among call.parameters.now;
    is_empty = call.is_empty;
    outer = outer;
    done = done;
    given = given;
    beyond = beyond;
  }

  same_frame : (call : declared.Call) (outer : Option ℕ) (a b : List HidingToken) → CallIsKnown old call → a ≡ b
      → frame new call outer a ≡ frame old call outer b
  same_frame call outer a b known e =
      ap (λ hidden. frame_with call outer hidden (map (λ v. all_hiding new v.items) call.done.items)
      (all_hiding new call.given.items) a) (more.same call.hidden known.hidden)
      ∙ ap (λ done. frame_with call outer (names_of old call.hidden) done (all_hiding new call.given.items) a)
      (same_done (λ v. v.items) call.done.items known.done)
      ∙ ap (λ given. frame_with call outer (names_of old call.hidden)
      (map (λ v. all_hiding old v.items) call.done.items)
      given a) (same_hiding old new more call.given.items known.given)
      ∙ ap (λ beyond. frame_with call outer (names_of old call.hidden)
      (map (λ v. all_hiding old v.items) call.done.items) (all_hiding old call.given.items) beyond) e

  pub same_frames : (calls : List declared.Call) (unread : List Hiding) → AllByRecursion (CallIsKnown old) calls
      → AreKnown old unread → frames new calls unread ≡ frames old calls unread
  same_frames [] unread a known = refl
  same_frames (call ∷ outer) unread a known =
      ap (λ f. f ∷ frames new outer (take (end_of outer) unread))
      (same_frame call (line_of_calls outer) (above (end_of outer) new unread) (above (end_of outer) old unread) a.0
      (same_above old new more (end_of outer) unread known))
      ∙ ap (λ fs. frame old call (line_of_calls outer) (above (end_of outer) old unread) ∷ fs)
      (same_frames outer (take (end_of outer) unread) a.1 (all_take _ (end_of outer) unread known))

  pub call_still_known : (call : declared.Call) → CallIsKnown old call → CallIsKnown new call
  call_still_known call known = record {
    hidden = still_known old new call.hidden more known.hidden;
    done = all_weaker _ _ (λ v k. still_are_known old new more v.items k) call.done.items known.done;
    given = still_are_known old new more call.given.items known.given;
  }

  pub calls_still_known : (calls : List declared.Call) → AllByRecursion (CallIsKnown old) calls
      → AllByRecursion (CallIsKnown new) calls
  calls_still_known calls a = all_weaker _ _ (λ call k. call_still_known call k) calls a

-- tokens were put in
module _ (tokens : List HidingToken) (old new : Unread) (p : Puts tokens old new) (calls : List declared.Call)
    (known : AllByRecursion (CallIsKnown old.sets) calls) (are_known : AreKnown old.sets old.tokens.items)
    (within : end_of calls ≤ length old.tokens.items) where
  abbrev high : ℕ
  high = length old.tokens.items

  abbrev low : ℕ
  low = end_of calls

  put_below : take low new.tokens.items ≡ take low old.tokens.items
  put_below = sym (take_take low high new.tokens.items within) ∙ ap (take low) p.below

  pub put_frames : frames new.sets calls (take low new.tokens.items) ≡ frames old.sets calls (take low old.tokens.items)
  put_frames =
      ap (frames new.sets calls) put_below
      ∙ same_frames old.sets new.sets p.grows calls (take low old.tokens.items) known
      (all_take _ low old.tokens.items are_known)

  put_tokens : above low new.sets new.tokens.items ≡ tokens ++ above low old.sets old.tokens.items
  put_tokens =
      above_two new.sets low high new.tokens.items within (longer old new p.below)
      ∙ ap (λ l. l ++ above low new.sets (take high new.tokens.items)) p.put
      ∙ ap (λ items. tokens ++ above low new.sets items) p.below
      ∙ ap (λ l. tokens ++ l) (same_above old.sets new.sets p.grows low old.tokens.items are_known)

  abbrev with_parts : List Frame → List HidingToken → ℕ → Left
  with_parts frames tokens room =
      record { frames = frames; line = line_of_calls calls; tokens = tokens; room = room }

  pub left_put : left_in new.sets calls new.tokens.items new.room
      ≡ with_parts (frames old.sets calls (take low old.tokens.items))
      (tokens ++ above low old.sets old.tokens.items) (old.room - length tokens)
  left_put =
      ap (λ fs. with_parts fs (above low new.sets new.tokens.items) new.room) put_frames
      ∙ ap (λ ts. with_parts (frames old.sets calls (take low old.tokens.items)) ts new.room) put_tokens
      ∙ ap (with_parts (frames old.sets calls (take low old.tokens.items))
      (tokens ++ above low old.sets old.tokens.items))
      (let e : new.room ≡ old.room - length tokens = omega (arith, p.room) in e)

  pub enough_room : length tokens ≤ old.room
  enough_room = omega (arith, p.room)
