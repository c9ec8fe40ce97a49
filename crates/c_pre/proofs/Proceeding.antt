-- The steps of the code, against what is left to do.
use Rattle.std.proofs.Common.{◌≡◌, ℕ, ◌≤◌, ◌<◌, true, List, [], ◌∷◌, ◌++◌, map, length}
use Rattle.std.proofs.Common.{take, refl, sym, ap, subst, ◌∙◌, append_assoc, arith, Some}
use Rattle.std.proofs.Common.{Result, Ok, Err, Vec, Global, nat_le, length-append}
use Rattle.std.proofs.lemmas.Bool.{le-leb}
use Rattle.std.specs.List.{AllByRecursion}
use Rattle.c_lexer.specs.declared.token.Token.{Token}
use Rattle.c_pre.specs.declared.expander.Call as declared
use Rattle.c_pre.specs.declared.expander.Expander as declared_expander
use Rattle.c_pre.specs.declared.fault.PreError.{PreError}
use Rattle.c_pre.specs.declared.fault.PreError.TheVariants.{Memory, Fault}
use Rattle.c_pre.specs.declared.fault.PreFaultKind.TheVariants.{TooMany}
use Rattle.c_pre.specs.declared.hide_set.HideSets.{HideSets}
use Rattle.c_pre.specs.declared.hiding.Hiding.{Hiding}
use Rattle.c_pre.specs.declared.unread.Unread.{Unread}
use Rattle.c_pre.specs.Expansion.{Expansion, gives_first, read_again, stops, expansion, trace_of}
use Rattle.c_pre.specs.HideSets.{HidingToken}
use Rattle.c_pre.specs.InnerFirst.{inner_first}
use Rattle.c_pre.specs.Lines.{Tokens}
use Rattle.c_pre.specs.Names.{Macros}
use Rattle.c_pre.specs.Pending.{Frame, Left, left_in, left, above, hiding, all_hiding, end_of, line_of_calls, frame}
use Rattle.c_pre.specs.Pending.{frames}
use Rattle.c_pre.specs.Pending.{resumed, comes_to, AreKnown, IsClosed, SoundIn, IsSound}
use Rattle.c_pre.specs.Limits.{max_expanded_tokens}
use Rattle.c_pre.specs.Outcomes.{Fails, Emits, EndsBy}
use Rattle.c_pre.specs.Progress.{Steps, GivesOn, Goes, Comes, Reads, StopsAt, StopsBehind}
use Rattle.c_pre.specs.PutIn.{Puts, PutsIn}
use Rattle.c_pre.specs.SharedSets.{IsKnown, Grows}
use Rattle.c_pre.specs.Trace.{Trace, after, answer, fault_at, gives, ◌>>=◌}
use Rattle.c_pre.proofs.Sets.{grows_twice}
use Rattle.c_pre.proofs.Traces.{fault_here, bind_read, bind_failed, after_after}
use Rattle.c_pre.proofs.Heights.{map_append, all_both}
use Rattle.c_pre.proofs.Lefts.{put_frames, left_put, enough_room, calls_still_known}
use Rattle.c_pre.proofs.Steps.{resumed_given, resumed_stops, again_goes, again_stops}

-- a token is given to the text
pub text_given : (macros : Macros) (l : Left) (x : HidingToken) (before now : Tokens) → l.frames ≡ []
    → now ≡ before ++ x.token ∷ []
    → after before (trace_of (resumed (expansion macros) l.frames
    (gives_first x (expansion macros l.line l.room l.tokens))))
    ≡ after now (trace_of (comes_to macros l))
text_given macros l x before now none given =
    let t = expansion macros l.line l.room l.tokens in
    let rest = map (λ (y : HidingToken). y.token) t.given in
    ap (λ fs. after before (trace_of (resumed (expansion macros) fs (gives_first x t)))) none
    ∙ ap (λ (given : Tokens). record { given = given; end = t.end })
    (sym (append_assoc before (x.token ∷ []) rest) ∙ ap (λ (n : Tokens). n ++ rest) (sym given))
    ∙ ap (λ fs. after now (trace_of (resumed (expansion macros) fs t))) (sym none)

-- a token is given to the innermost argument
pub argument_given : (macros : Macros) (sets : HideSets) (call : declared.Call) (given : Vec Hiding Global)
    (outer : List declared.Call) (x : Hiding) (tokens : List Hiding) (room : ℕ)
    → given.items ≡ call.given.items ++ x ∷ []
    → resumed (expansion macros) (left_in sets (call ∷ outer) tokens room).frames
    (gives_first (hiding sets x) (expansion macros (Some call.line) room (above call.end sets tokens)))
    ≡ comes_to macros (left_in sets (record call { given = given } ∷ outer) tokens room)
argument_given macros sets call given outer x tokens room e =
    let low = end_of outer in
    let beyond = above low sets (take call.end tokens) in
    let f = frame sets call (line_of_calls outer) beyond in
    let t = expansion macros (Some call.line) room (above call.end sets tokens) in
    resumed_given (expansion macros) (frames sets outer (take low (take call.end tokens))) f (hiding sets x) t
    ∙ ap (λ gs. resumed (expansion macros)
    (record f { given = gs } ∷ frames sets outer (take low (take call.end tokens))) t)
    (sym (map_append (hiding sets) call.given.items (x ∷ [])) ∙ ap (all_hiding sets) (sym e))

pub argument_given_sound : (sets : HideSets) (call : declared.Call) (given : Vec Hiding Global)
    (outer : List declared.Call) (x : Hiding) (tokens : List Hiding) → given.items ≡ call.given.items ++ x ∷ []
    → IsKnown sets x.hidden → SoundIn sets (call ∷ outer) tokens
    → SoundIn sets (record call { given = given } ∷ outer) tokens
argument_given_sound sets call given outer x tokens e known sound = record {
  calls = (
    record {
      hidden = sound.calls.0.hidden;
      done = sound.calls.0.done;
      given = subst (λ items. AreKnown sets items) (sym e)
          (all_both _ call.given.items (x ∷ []) sound.calls.0.given (known, tt));
    },
    sound.calls.1,
  );
  unread = sound.unread;
  closed = (sound.closed.0, sound.closed.1);
}

-- sets were made before tokens were put in
pub sets_then_puts : (tokens : List HidingToken) (old between new : Unread) → Grows old.sets between.sets
    → between.tokens ≡ old.tokens → between.room ≡ old.room → Puts tokens between new → Puts tokens old new
sets_then_puts tokens old between new grows same room p = record {
  below = ap (λ (v : Vec Hiding Global). take (length v.items) new.tokens.items) (sym same) ∙ p.below
      ∙ ap (λ (v : Vec Hiding Global). v.items) same;
  put = ap (λ (v : Vec Hiding Global). above (length v.items) new.sets new.tokens.items) (sym same) ∙ p.put;
  room = p.room ∙ room;
  known = p.known;
  grows = grows_twice old.sets between.sets new.sets grows p.grows;
}

-- tokens were put in, or there was no room for them
module _ (tokens : List HidingToken) (old new : Unread) (calls : List declared.Call)
    (sound : SoundIn old.sets calls old.tokens.items) (within : end_of calls ≤ length old.tokens.items) where
  abbrev fs : List Frame
  fs = frames old.sets calls (take (end_of calls) old.tokens.items)

  abbrev unread : List HidingToken
  unread = above (end_of calls) old.sets old.tokens.items

  put_goes : (macros : Macros) (line : ℕ) → Puts tokens old new
      → resumed (expansion macros) fs (read_again (expansion macros) (line_of_calls calls) line old.room tokens unread)
      ≡ comes_to macros (left_in new.sets calls new.tokens.items new.room)
  put_goes macros line p =
      ap (resumed (expansion macros) fs)
      (again_goes (expansion macros) (line_of_calls calls) line old.room tokens unread
      (enough_room tokens old new p calls sound.calls sound.unread within))
      ∙ sym (ap (comes_to macros) (left_put tokens old new p calls sound.calls sound.unread within))

  put_sound : Puts tokens old new → SoundIn new.sets calls new.tokens.items
  put_sound p = record {
    calls = calls_still_known old.sets new.sets p.grows calls sound.calls;
    unread = p.known;
    closed = subst (λ (l : List Frame). AllByRecursion IsClosed l)
        (sym (put_frames tokens old new p calls sound.calls sound.unread within)) sound.closed;
  }

  put_refused : (macros : Macros) (line : ℕ) → old.room < length tokens
      → resumed (expansion macros) fs (read_again (expansion macros) (line_of_calls calls) line old.room tokens unread)
      ≡ stops (fault_at line TooMany)
  put_refused macros line h =
      ap (resumed (expansion macros) fs)
      (again_stops (expansion macros) (line_of_calls calls) line old.room tokens unread h)
      ∙ resumed_stops (expansion macros) fs (fault_at line TooMany)

  pub put_steps : {X : Type 0} (whole : Macros → Expansion) (line : ℕ) (after : declared_expander.Expander)
      (result : Result X PreError) → after.unread ≡ new → inner_first after.calls.items ≡ calls
      → ((macros : Macros) → whole macros ≡ resumed (expansion macros) fs
      (read_again (expansion macros) (line_of_calls calls) line old.room tokens unread))
      → PutsIn tokens old new line result → Steps whole after result
  put_steps whole line after (Ok x) u cs same p = record {
    same = λ macros. same macros ∙ put_goes macros line p
        ∙ ap (λ l. comes_to macros (left_in new.sets l new.tokens.items new.room)) (sym cs)
        ∙ ap (λ (v : Unread). comes_to macros (left_in v.sets (inner_first after.calls.items) v.tokens.items v.room))
        (sym u);
    sound = subst (λ (v : Unread). SoundIn v.sets (inner_first after.calls.items) v.tokens.items) (sym u)
        (subst (λ l. SoundIn new.sets l new.tokens.items) (sym cs) (put_sound p));
  }
  put_steps whole line after (Err Memory) u cs same p = λ macros. tt
  put_steps whole line after (Err (Fault fault)) u cs same p =
      λ macros. same macros ∙ put_refused macros line p.1 ∙ ap stops (sym p.0)

-- the same, where sets were made first
pub sets_then_put : {X : Type 0} (tokens : List HidingToken) (old between new : Unread) (line : ℕ)
    (result : Result X PreError) → Grows old.sets between.sets → between.tokens ≡ old.tokens → between.room ≡ old.room
    → PutsIn tokens between new line result → PutsIn tokens old new line result
sets_then_put tokens old between new line (Ok x) grows same room p =
    sets_then_puts tokens old between new grows same room p
sets_then_put tokens old between new line (Err Memory) grows same room p = p
sets_then_put tokens old between new line (Err (Fault fault)) grows same room p =
    (p.0, subst (λ n. n < length tokens) room p.1)

-- a step by another word for the same
pub steps_by : {X : Type 0} (whole other : Macros → Expansion) (new : declared_expander.Expander)
    (result : Result X PreError)
    → ((macros : Macros) → whole macros ≡ other macros) → Steps other new result → Steps whole new result
steps_by whole other new (Ok x) e s = record { same = λ macros. e macros ∙ s.same macros; sound = s.sound }
steps_by whole other new (Err Memory) e s = λ macros. tt
steps_by whole other new (Err (Fault fault)) e s = λ macros. e macros ∙ s macros

-- a step that gives no token is one that may
pub goes_by : {X : Type 0} (whole : Macros → Expansion) (new : declared_expander.Expander) (given : Tokens)
    (result : Result X PreError) → length given ≤ max_expanded_tokens → Steps whole new result
    → Goes whole new given given result
goes_by whole new given (Ok x) few s =
    record { same = λ macros. ap (λ t. after given (trace_of t)) (s.same macros); sound = s.sound; few = few }
goes_by whole new given (Err Memory) few s = λ macros. tt
goes_by whole new given (Err (Fault fault)) few s = λ macros. (
  ap (λ t. answer (after given (trace_of t))) (s macros) ∙ fault_here ℕ given fault.line fault.kind few,
  λ h. s macros,
)

-- one step, from that of all macros
pub advances : (X : Type 0) (whole : Macros → Expansion) (macros : Macros) (all : Expansion)
    (new : declared_expander.Expander)
    (before now : Tokens) (error : PreError) → all ≡ whole macros
    → Goes {X = X} whole new before now (Err error) → StopsBehind before all error
advances X whole macros all new before now Memory e g = tt
advances X whole macros all new before now (Fault fault) e g =
    let s = g macros in (ap (λ t. answer (after before (trace_of t))) e ∙ s.0, λ h. e ∙ s.1 h)

pub comes : (whole : Macros → Expansion) (macros : Macros) (all : Expansion) (new : declared_expander.Expander)
    (before now : Tokens) → all ≡ whole macros → GivesOn whole new before now → Comes all macros new before now
comes whole macros all new before now e g = record {
  same = ap (λ t. after before (trace_of t)) e ∙ g.same macros;
  sound = g.sound;
  few = g.few;
}

-- a token for which there is a place
one_more : (before : Tokens) (token : Token) → length before < max_expanded_tokens
    → answer (after before (gives token)) ≡ Ok (before ++ token ∷ [])
unfolding answer
one_more before token h =
    let b : nat_le (length (before ++ token ∷ [])) max_expanded_tokens ≡ true =
    le-leb (length (before ++ token ∷ [])) max_expanded_tokens (omega (arith, length-append before (token ∷ []))) in
    rw b refl

-- so a token that could not be given was one too many
given_stops : (whole : Expansion) (t : Trace ℕ) (before : Tokens) (token : Token) (error : PreError)
    → trace_of whole ≡ (gives token >>= λ _. t) → Fails (after before (gives token)) error
    → StopsBehind before whole error
given_stops whole t before token Memory e f = tt
given_stops whole t before token (Fault fault) e f = (
  ap (λ (u : Trace ℕ). answer (after before u)) e ∙ bind_failed before (gives token) (λ _. t) (Fault fault) f,
  λ h. let never : Ok (before ++ token ∷ []) ≡ Err fault = sym (one_more before token h) ∙ f in absurd (cc),
)

-- a token that stays is given to the text, or is one too many
pub text_goes : (whole t : Macros → Expansion) (new : declared_expander.Expander) (before now : Tokens) (token : Token)
    (result : Result (Unit {0}) PreError) → Emits (gives token) (λ x. x) before now result
    → ((macros : Macros) → trace_of (whole macros) ≡ (gives token >>= λ _. trace_of (t macros)))
    → ((macros : Macros) → t macros ≡ comes_to macros (left new)) → IsSound new → Goes whole new before now result
text_goes whole t new before now token (Ok x) h e f sound = record {
  same = λ macros. ap (after before) (e macros)
      ∙ bind_read before now (gives token) (λ _. trace_of (t macros)) x h.0
      ∙ ap (λ u. after now (trace_of u)) (f macros);
  sound = sound;
  few = h.1;
}
text_goes whole t new before now token (Err error) h e f sound = λ macros.
    given_stops (whole macros) (trace_of (t macros)) before token error (e macros) h

pub empty_list : {A : Type 0} (xs : List A) → length xs ≡ 0 → xs ≡ []
empty_list [] e = refl
empty_list (x ∷ xs) e = absurd (omega arith)

pub reads_steps : {X : Type 0} (whole : Expansion) (w : Macros → Expansion) (macros : Macros)
    (new : declared_expander.Expander)
    (before : Tokens) (result : Result X PreError) → length before ≤ max_expanded_tokens → whole ≡ w macros
    → Steps w new result → Reads macros whole new before before result
reads_steps whole w macros new before (Ok x) few e s = record {
  same = ap (λ t. after before (trace_of t)) (e ∙ s.same macros);
  sound = s.sound;
  few = few;
}
reads_steps whole w macros new before (Err Memory) few e s = tt
reads_steps whole w macros new before (Err (Fault fault)) few e s = (
  ap (λ t. answer (after before (trace_of t))) (e ∙ s macros) ∙ fault_here ℕ before fault.line fault.kind few,
  λ h. e ∙ s macros,
)

pub steps_memory : {X : Type 0} (whole : Macros → Expansion) (new : declared_expander.Expander)
    (result : Result X PreError)
    (error : PreError) → result ≡ Err error → error ≡ Memory → Steps whole new result
steps_memory {X} whole new result error e memory =
    subst (λ (r : Result X PreError). Steps whole new r) (sym (e ∙ ap Err memory)) (λ macros. tt)

pub fails_by : (whole other : Expansion) (before : Tokens) (error : PreError) → length before ≤ max_expanded_tokens
    → whole ≡ other → StopsAt other error → StopsBehind before whole error
fails_by whole other before Memory few e s = tt
fails_by whole other before (Fault fault) few e s = (
  ap (λ t. answer (after before (trace_of t))) (e ∙ s) ∙ fault_here ℕ before fault.line fault.kind few,
  λ h. e ∙ s,
)

-- the whole of a run stops
pub run_failed : (t : Trace ℕ) (whole : Expansion) (before : Tokens) (error : PreError)
    → t ≡ after before (trace_of whole) → StopsBehind before whole error → Fails t error
run_failed t whole before Memory e s = tt
run_failed t whole before (Fault fault) e s = ap answer e ∙ s.0

-- what is expanded by itself: each step gives to a vector of its own, which is put behind what was given before
pub alone_goes : (t u v : Trace ℕ) (done now new : Tokens) → t ≡ after done u → after [] u ≡ after now v
    → new ≡ done ++ now → t ≡ after new v
alone_goes t u v done now new e f g =
    e ∙ ap (after done) f ∙ after_after done now v ∙ ap (λ (given : Tokens). after given v) (sym g)

pub alone_done : (t u : Trace ℕ) (done now new : Tokens) (room : ℕ) → t ≡ after done u
    → after [] u ≡ record { given = now; end = Ok room } → new ≡ done ++ now → t ≡ record { given = new; end = Ok room }
alone_done t u done now new room e f g =
    e ∙ ap (after done) f ∙ ap (λ (given : Tokens). record { given = given; end = Ok room }) (sym g)

pub alone_failed : (t : Trace ℕ) (whole : Expansion) (done : Tokens) (error : PreError)
    → t ≡ after done (trace_of whole) → StopsBehind [] whole error → EndsBy t error
alone_failed t whole done Memory e s = tt
alone_failed t whole done (Fault fault) e s =
    ap (λ (u : Trace ℕ). u.end) e ∙ ap (λ (w : Expansion). w.end) (s.1 (omega arith))
