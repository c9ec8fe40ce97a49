-- The end of an argument.
use Rattle.std.proofs.Common.{◌≡◌, ℕ, zero, ◌≤◌, List, [], ◌∷◌, ◌++◌, map, length, take, refl, sym, ap, subst, ◌∙◌}
use Rattle.std.proofs.Common.{append-nil, Option, Some, None, Ok, option_map}
use Rattle.c_pre.specs.declared.expander.Call as declared
use Rattle.c_pre.specs.declared.hide_set.HideSets.{HideSets}
use Rattle.c_pre.specs.declared.hiding.Hiding.{Hiding}
use Rattle.c_pre.specs.Arguments.{Call, opens, closes, parts, role, behind_open, taken, taken_by, with_argument}
use Rattle.c_pre.specs.Expansion.{Expansion, Expander, Used, trace_of, expansion, turn, replacement, replaced, called}
use Rattle.c_pre.specs.Expansion.{with_call}
use Rattle.c_pre.specs.HideSets.{HidingToken}
use Rattle.c_pre.specs.Names.{Name, Names, Macros}
use Rattle.c_pre.specs.Lines.{Tokens}
use Rattle.c_pre.specs.Pending.{Frame, left_in, above, hiding, all_hiding, end_of, line_of_calls, frame, frames}
use Rattle.c_pre.specs.Pending.{resumed}
use Rattle.c_pre.specs.Pending.{rest_of_call, comes_to, AreKnown, IsClosed, SoundIn}
use Rattle.c_pre.specs.Ends.{Popped, Stays}
use Rattle.c_pre.specs.Trace.{after}
use Rattle.c_pre.specs.Progress.{ArgumentEnds}
use Rattle.c_pre.specs.declared.unread.Unread.{Unread}
use Rattle.std.specs.List.{AllByRecursion}
use Rattle.c_pre.specs.SharedSets.{IsKnown, names_of}
use Rattle.c_pre.proofs.Heights.{map_append, all_first, all_second, take_all, take_append, above_none, above_push}
use Rattle.c_pre.proofs.Unfolding.{expansion_nil, expansion_turn}

rest_beyond : (go : Expander) (f : Frame) (beyond : List HidingToken) (done : List (List HidingToken)) (room : ℕ)
    (o : Option Call) → rest_of_call go f done room o ≡ rest_of_call go (record f { beyond = beyond }) done room o
rest_beyond go f beyond done room None = refl
rest_beyond go f beyond done room (Some call) = refl

-- what is read behind the last token of an argument
module _ (sets : HideSets) (outer : List declared.Call) (call : declared.Call) (tokens rest : List Hiding)
    (separator : Hiding) (room : ℕ) (none : length tokens ≤ call.end) (popped : tokens ≡ rest ++ separator ∷ [])
    (within : end_of outer ≤ length rest) where
  abbrev low : ℕ
  low = end_of outer

  abbrev done : List (List HidingToken)
  done = map (λ v. all_hiding sets v.items) call.done.items ++ (all_hiding sets call.given.items ∷ [])

  abbrev goes : Macros → List Hiding → Expansion
  goes macros items = resumed (expansion macros) (frames sets outer (take low items))
      (rest_of_call (expansion macros) (frame sets call (line_of_calls outer) []) done room
      (taken zero (above low sets items)))

  all_tokens : take call.end tokens ≡ rest ++ separator ∷ []
  all_tokens = take_all call.end tokens none ∙ popped

  pub argument_ends : (macros : Macros) → comes_to macros (left_in sets (call ∷ outer) tokens room)
      ≡ resumed (expansion macros) (frames sets outer (take low rest))
      (rest_of_call (expansion macros) (frame sets call (line_of_calls outer) []) done room
      (taken zero (hiding sets separator ∷ above low sets rest)))
  argument_ends macros =
      let go = expansion macros in
      let o = line_of_calls outer in
      let below = take call.end tokens in
      let f = frame sets call o (above low sets below) in
      ap (λ ts. resumed go (f ∷ frames sets outer (take low below)) (go (Some call.line) room ts))
      (above_none sets call.end tokens none)
      ∙ ap (resumed go (f ∷ frames sets outer (take low below))) (expansion_nil macros (Some call.line) room)
      ∙ ap (λ (g : List HidingToken). resumed go (frames sets outer (take low below))
      (rest_of_call go f (f.done ++ (g ∷ [])) room (taken zero f.beyond))) (append-nil f.given)
      ∙ ap (resumed go (frames sets outer (take low below)))
      (rest_beyond go f [] done room (taken zero f.beyond))
      ∙ ap (goes macros) all_tokens
      ∙ ap (λ items. resumed go (frames sets outer items) (rest_of_call go (frame sets call o []) done room
      (taken zero (above low sets (rest ++ separator ∷ []))))) (take_append low rest (separator ∷ []) within)
      ∙ ap (λ ts. resumed go (frames sets outer (take low rest)) (rest_of_call go (frame sets call o []) done room
      (taken zero ts))) (above_push sets low rest separator within)

-- a `)` ends the call, a comma parts it from the next argument
pub closed_by : (x : HidingToken) (follow : List HidingToken) → role x.token.kind ≡ closes
    → taken zero (x ∷ follow) ≡ Some (record { arguments = [] ∷ []; close = x.hidden; follow = follow })
closed_by x follow e = ap (λ r. taken_by r zero x follow (λ inner. taken inner follow)) e

pub parted_by : (x : HidingToken) (follow : List HidingToken) → role x.token.kind ≡ parts
    → taken zero (x ∷ follow) ≡ option_map with_argument (taken zero follow)
parted_by x follow e = ap (λ r. taken_by r zero x follow (λ inner. taken inner follow)) e

-- the next token was taken
module _ (old new : Unread) (calls : List declared.Call) (x : Hiding) (p : Popped old new (end_of calls) x) where
  abbrev height : ℕ
  height = end_of calls

  same_below : take height old.tokens.items ≡ take height new.tokens.items
  same_below = ap (take height) p.tokens ∙ take_append height new.tokens.items (x ∷ []) p.above_end

  pub token_known : AreKnown old.sets old.tokens.items → IsKnown new.sets x.hidden
  token_known known =
      let both = subst (λ (items : List Hiding). AreKnown old.sets items) p.tokens known in
      subst (λ s. IsKnown s x.hidden) (sym p.sets)
      (let one : AreKnown old.sets (x ∷ []) = all_second _ new.tokens.items (x ∷ []) both in one.0)

  pub others_known : AreKnown old.sets old.tokens.items → AreKnown old.sets new.tokens.items
  others_known known = all_first _ new.tokens.items (x ∷ [])
      (subst (λ (items : List Hiding). AreKnown old.sets items) p.tokens known)

  pub popped_sound : SoundIn old.sets calls old.tokens.items → SoundIn new.sets calls new.tokens.items
  popped_sound sound = subst (λ s. SoundIn s calls new.tokens.items) (sym p.sets) (record {
    calls = sound.calls;
    unread = others_known sound.unread;
    closed = subst (λ (items : List Hiding). AllByRecursion IsClosed (frames old.sets calls items)) same_below
        sound.closed;
  })

  pub popped_reads : (macros : Macros) → comes_to macros (left_in old.sets calls old.tokens.items old.room)
      ≡ resumed (expansion macros) (left_in new.sets calls new.tokens.items new.room).frames
      (turn (expansion macros) (line_of_calls calls) (hiding new.sets x)
      (replacement macros (hiding new.sets x)) new.room
      (above height new.sets new.tokens.items))
  popped_reads macros =
      let go = expansion macros in
      let o = line_of_calls calls in
      ap (λ s. comes_to macros (left_in s calls old.tokens.items old.room)) (sym p.sets)
      ∙ ap (λ r. comes_to macros (left_in new.sets calls old.tokens.items r)) (sym p.room)
      ∙ ap (λ ts. comes_to macros (left_in new.sets calls ts new.room)) p.tokens
      ∙ ap (λ items. resumed go (frames new.sets calls items)
      (go o new.room (above height new.sets (new.tokens.items ++ x ∷ []))))
      (take_append height new.tokens.items (x ∷ []) p.above_end)
      ∙ ap (λ ts. resumed go (frames new.sets calls (take height new.tokens.items)) (go o new.room ts))
      (above_push new.sets height new.tokens.items x p.above_end)
      ∙ ap (resumed go (frames new.sets calls (take height new.tokens.items)))
      (expansion_turn macros o new.room (hiding new.sets x) (above height new.sets new.tokens.items))

rest_parts : (go : Expander) (f : Frame) (d all : List (List HidingToken)) (given : List HidingToken) (room : ℕ)
    (o : Option Call) → rest_of_call go f all room o ≡ rest_of_call go (record f { done = d; given = given }) all room o
rest_parts go f d all given room None = refl
rest_parts go f d all given room (Some call) = refl

-- an argument ended, behind which the separator was taken
module _ (old new : Unread) (outer : List declared.Call) (x : Hiding) (p : Popped old new (end_of outer) x)
    (call after : declared.Call) (ends : ArgumentEnds call after) (none : length old.tokens.items ≤ call.end) where
  pub behind_sound : SoundIn old.sets (call ∷ outer) old.tokens.items → SoundIn new.sets outer new.tokens.items
  behind_sound sound = popped_sound old new outer x p (record {
    calls = sound.calls.1;
    unread = sound.unread;
    closed =
        subst (λ (items : List Hiding). AllByRecursion IsClosed (frames old.sets outer (take (end_of outer) items)))
        (take_all call.end old.tokens.items none) sound.closed.1;
  })

  pub ends_by : (macros : Macros) (o : HideSets → Option Call)
      → taken zero (hiding old.sets x ∷ above (end_of outer) old.sets new.tokens.items) ≡ o old.sets
      → comes_to macros (left_in old.sets (call ∷ outer) old.tokens.items old.room)
      ≡ resumed (expansion macros) (frames new.sets outer (take (end_of outer) new.tokens.items))
      (rest_of_call (expansion macros) (frame new.sets after (line_of_calls outer) [])
      (map (λ v. all_hiding new.sets v.items) after.done.items) new.room (o new.sets))
  ends_by macros o e =
      let go = expansion macros in
      let line = line_of_calls outer in
      let items = take (end_of outer) new.tokens.items in
      let f = frame new.sets call line [] in
      let all = map (λ v. all_hiding new.sets v.items) call.done.items ++ (all_hiding new.sets call.given.items ∷ []) in
      argument_ends old.sets outer call old.tokens.items new.tokens.items x old.room none p.tokens p.above_end macros
      ∙ ap (λ c. resumed go (frames old.sets outer items) (rest_of_call go (frame old.sets call line [])
      (map (λ v. all_hiding old.sets v.items) call.done.items ++ (all_hiding old.sets call.given.items ∷ [])) old.room
      c)) e
      ∙ ap (λ s. resumed go (frames s outer items) (rest_of_call go (frame s call line [])
      (map (λ v. all_hiding s v.items) call.done.items ++ (all_hiding s call.given.items ∷ [])) old.room (o s)))
      (sym p.sets)
      ∙ ap (λ r. resumed go (frames new.sets outer items) (rest_of_call go f all r (o new.sets))) (sym p.room)
      ∙ ap (resumed go (frames new.sets outer items))
      (rest_parts go f (map (λ v. all_hiding new.sets v.items) after.done.items) all
      (all_hiding new.sets after.given.items) new.room (o new.sets))
      ∙ ap (λ k. resumed go (frames new.sets outer items) (rest_of_call go (frame new.sets k line []) all new.room
      (o new.sets))) (sym ends.same)
      ∙ ap (λ d. resumed go (frames new.sets outer items) (rest_of_call go (frame new.sets after line []) d new.room
      (o new.sets)))
      (sym (ap (map (λ v. all_hiding new.sets v.items)) ends.done
      ∙ map_append (λ v. all_hiding new.sets v.items) call.done.items (call.given ∷ [])))

-- a `(` was taken behind the name of a function-like macro
pub opens_call : (old new : Unread) (calls : List declared.Call) (y : Hiding) → Popped old new (end_of calls) y
    → role y.token.kind ≡ opens → (macros : Macros) (name : Name) (line : ℕ) (list : Tokens) (parameters : Names)
    (x : Hiding)
    → resumed (expansion macros) (left_in old.sets calls old.tokens.items old.room).frames
    (replaced (expansion macros) (line_of_calls calls)
    (record { name = name; hidden = names_of old.sets x.hidden; line = line; list = list }) (Some parameters)
    (hiding old.sets x) old.room (above (end_of calls) old.sets old.tokens.items))
    ≡ resumed (expansion macros) (left_in new.sets calls new.tokens.items new.room).frames
    (with_call (expansion macros) (line_of_calls calls)
    (record { name = name; hidden = names_of new.sets x.hidden; line = line; list = list }) parameters new.room
    (taken zero (above (end_of calls) new.sets new.tokens.items)))
opens_call old new calls y p e macros name line list parameters x =
    let go = expansion macros in
    let o = line_of_calls calls in
    let low = end_of calls in
    let begins : HideSets → ℕ → List Hiding → Expansion = λ s r ts. resumed go (frames s calls (take low ts))
    (replaced go o (record { name = name; hidden = names_of s x.hidden; line = line; list = list }) (Some parameters)
    (hiding s x) r (above low s ts)) in
    let used : Used = record { name = name; hidden = names_of new.sets x.hidden; line = line; list = list } in
    ap (λ s. begins s old.room old.tokens.items) (sym p.sets)
    ∙ ap (λ r. begins new.sets r old.tokens.items) (sym p.room)
    ∙ ap (begins new.sets new.room) p.tokens
    ∙ ap (λ items. resumed go (frames new.sets calls items) (replaced go o used (Some parameters) (hiding new.sets x)
    new.room (above low new.sets (new.tokens.items ++ y ∷ [])))) (take_append low new.tokens.items (y ∷ []) p.above_end)
    ∙ ap (λ ts. resumed go (frames new.sets calls (take low new.tokens.items)) (replaced go o used (Some parameters)
    (hiding new.sets x) new.room ts)) (above_push new.sets low new.tokens.items y p.above_end)
    ∙ ap (λ r. resumed go (frames new.sets calls (take low new.tokens.items)) (called go o used parameters
    (hiding new.sets x) new.room (hiding new.sets y ∷ above low new.sets new.tokens.items)
    (behind_open r (above low new.sets new.tokens.items)))) e

-- no token and no call is left
pub nothing_left : (macros : Macros) (old new : Unread) (calls : List declared.Call) (before : Tokens) → calls ≡ []
    → length old.tokens.items ≤ end_of calls → new.room ≡ old.room
    → after before (trace_of (comes_to macros (left_in old.sets calls old.tokens.items old.room)))
    ≡ record { given = before; end = Ok new.room }
nothing_left macros old new calls before e none room =
    let is_none : length old.tokens.items ≤ 0 = subst (λ cs. length old.tokens.items ≤ end_of cs) e none in
    ap (λ cs. after before (trace_of (comes_to macros (left_in old.sets cs old.tokens.items old.room)))) e
    ∙ ap (λ ts. after before (trace_of (expansion macros None old.room ts)))
    (above_none old.sets 0 old.tokens.items is_none)
    ∙ ap (λ t. after before (trace_of t)) (expansion_nil macros None old.room)
    ∙ ap (λ (given : Tokens). record { given = given; end = Ok old.room }) (append-nil before)
    ∙ ap (λ r. record { given = before; end = Ok r }) (sym room)

-- a call is the innermost one
pub innermost : (macros : Macros) (old new : Unread) (calls outer : List declared.Call) (call : declared.Call)
    → Stays old new
    → calls ≡ call ∷ outer → comes_to macros (left_in old.sets calls old.tokens.items old.room)
    ≡ comes_to macros (left_in new.sets (call ∷ outer) new.tokens.items new.room)
innermost macros old new calls outer call stays e =
    ap (λ s. comes_to macros (left_in s calls old.tokens.items old.room)) (sym stays.sets)
    ∙ ap (λ ts. comes_to macros (left_in new.sets calls ts old.room)) (sym stays.tokens)
    ∙ ap (λ r. comes_to macros (left_in new.sets calls new.tokens.items r)) (sym stays.room)
    ∙ ap (λ cs. comes_to macros (left_in new.sets cs new.tokens.items new.room)) e
