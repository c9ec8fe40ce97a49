-- Steps go along the edges of a function's graph.
use Rattle.std.proofs.Common.{◌≡◌, inl, inr, ℕ, List, [], ◌∷◌, Option, Some, None, Bool, true, false, refl}
use Rattle.std.specs.Prelude.{slice_get, cond, ◌==◌}
use Rattle.obj_memory.specs.declared.value.Value.{Value}
use Rattle.obj_memory.specs.Objects.{Objects}
use Rattle.c_tree.specs.declared.expression.Kind.{Kind}
use Rattle.c_tree.specs.declared.expression.Kind.TheVariants.{Void, Scalar as OfScalar, Structure, Array}
use Rattle.source_meaning.specs.State.{State, Rvalue, Outcome, Gives, Ended, Paused, Setting}
use Rattle.source_meaning.specs.Calls.{Caller}
use Rattle.tac_ir.specs.declared.instruction.Mode.{Mode}
use Rattle.tac_ir.specs.declared.instruction.Mode.TheVariants.{Named, Unchecked, Judged}
use Rattle.tac_ir.specs.declared.instruction.Instruction.{Instruction}
use Rattle.tac_ir.specs.declared.instruction.Instruction.TheVariants.{Call, CallThrough, Return}
use Rattle.tac_ir.specs.declared.key.Key.{Key}
use Rattle.tac_ir.specs.declared.function.CodeFunction.{CodeFunction}
use Rattle.tac_ir.specs.declared.function.Tac.{Tac}
use Rattle.tac_ir.specs.Stage.{Temps, no_temps, Frame, Waits, Entered, Stage, Begins, Stands, Over, Stuck, came}
use Rattle.tac_ir.specs.Costs.{handing, spent}
use Rattle.tac_ir.specs.Keys.{gives}
use Rattle.tac_ir.specs.Accesses.{only_if, admitted, moved_from}
use Rattle.tac_ir.specs.Edges.{LeadsTo, callers, is_local, StaysIn, GoesAlong}
use Rattle.tac_ir.specs.Meaning.{function_in, keyed_by, keyed, called_at, given_to, left_for}
use Rattle.tac_ir.specs.Meaning.{fits, effect, act}

-- instructions that stay

module _ {i : Instruction} {u : ℕ} {frames : List Frame} where
  stuck_stays : StaysIn i u frames Stuck
  stuck_stays = record { by = tt }

  stands_stays : {m : ℕ} {temps : Temps} {others : List Frame} {s : State} → LeadsTo i m
      → callers others ≡ callers frames → StaysIn i u frames (Stands u m temps others s)
  stands_stays h e = record { by = (refl, h, e) }

  -- at one of two nodes
  one_stays : (b : Bool) (x y : ℕ) {temps : Temps} {s : State} → LeadsTo i x → LeadsTo i y
      → StaysIn i u frames (Stands u (cond b x y) temps frames s)
  one_stays true x y h k = stands_stays h refl
  one_stays false x y h k = stands_stays k refl

  came_stays : {A : Type 0} (o : Outcome A) (F : A → State → Stage) → ((a : A) (s : State) → StaysIn i u frames (F a s))
      → StaysIn i u frames (came o F)
  came_stays (Gives a s) F h = h a s
  came_stays (Ended e s) F h = record { by = tt }
  came_stays (Paused s) F h = stuck_stays

  only_stays : (b : Bool) (x : Stage) → StaysIn i u frames x → StaysIn i u frames (only_if b x)
  only_stays true x h = h
  only_stays false x h = stuck_stays

  keyed_stays : (keys : List Key) (key : Option ℕ) (s : State) (v : Value) (x : Stage) → StaysIn i u frames x
      → StaysIn i u frames (keyed keys key s v x)
  keyed_stays keys None s v x h = h
  keyed_stays keys (Some n) s v x h = by (slice_get keys n)
    where
      by : (key : Option Key) → StaysIn i u frames (keyed_by key s v x)
      by None = stuck_stays
      by (Some key) = only_stays (gives key s v) x h

  admitted_stays : (mode : Mode) (size : ℕ) (q : Rvalue) (objects : Objects) (x : Stage) → StaysIn i u frames x
      → StaysIn i u frames (admitted mode size q objects x)
  admitted_stays Named size q objects x h = only_stays _ x h
  admitted_stays Unchecked size q objects x h = only_stays _ x h
  admitted_stays Judged size q objects x h = only_stays _ x h

  moved_stays : (kind : Kind) (v : Rvalue) (objects : Objects) (x : Stage) → StaysIn i u frames x
      → StaysIn i u frames (moved_from kind v objects x)
  moved_stays Void v objects x h = h
  moved_stays (OfScalar k) v objects x h = h
  moved_stays (Structure n) v objects x h = only_stays _ x h
  moved_stays (Array n) v objects x h = h

left_stays : {i : Instruction} (n u m : ℕ) (temps : Temps) (frames : List Frame) (s : State) → LeadsTo i m
    → StaysIn i u frames (left_for n u m temps frames s)
left_stays n u m temps [] s h = stuck_stays
left_stays n u m temps (Waits w ∷ frames) s h = stuck_stays
left_stays n u m temps (Entered k b ∷ frames) s h = only_stays (k == n) _ (stands_stays h refl)

ruleset staying = (
  stuck_stays,
  stands_stays,
  one_stays,
  came_stays,
  only_stays,
  keyed_stays,
  admitted_stays,
  moved_stays,
  left_stays,
  inl,
  inr,
  refl,
)

effect_stays : (g : Setting) (t : Tac) (i : Instruction) (u : ℕ) (temps : Temps) (frames : List Frame) (s : State)
    → is_local i ≡ true → StaysIn i u frames (effect g t i u temps frames s)
effect_stays g t (Call f line d n m) u temps frames s local = cc
effect_stays g t (CallThrough type_number line d n m) u temps frames s local = cc
effect_stays g t (Return a) u temps frames s local = cc
effect_stays g t i u temps frames s local = search staying depth 9

pub act_stays : (g : Setting) (t : Tac) (i : Instruction) (u : ℕ) (temps : Temps) (frames : List Frame) (s : State)
    → is_local i ≡ true → StaysIn i u frames (act g t i u temps frames s)
act_stays g t i u temps frames s local = only_stays (fits g t i u temps s) _ (effect_stays g t i u temps frames s local)

-- and calls and returns

module _ (i : Instruction) (u : ℕ) (frames : List Frame) where
  stays_along : (x : Stage) → StaysIn i u frames x → GoesAlong i u frames x
  stays_along (Begins s) h = absurd h.by
  stays_along (Stands v n temps others s) h = record { by = inl h.by }
  stays_along (Over e s) h = record { by = tt }
  stays_along Stuck h = record { by = tt }

  came_along : {A : Type 0} (o : Outcome A) (F : A → State → Stage)
      → ((a : A) (s : State) → GoesAlong i u frames (F a s)) → GoesAlong i u frames (came o F)
  came_along (Gives a s) F h = h a s
  came_along (Ended e s) F h = record { by = tt }
  came_along (Paused s) F h = record { by = tt }

  waits_along : (f k m d : ℕ) (q : Caller) (temps inner : Temps) (s : State) → LeadsTo i m
      → GoesAlong i u frames (Stands f k inner
      (Waits (record { function = u; node = m; place = d; caller = q; temps = temps }) ∷ frames) s)
  waits_along f k m d q temps inner s h = record { by = inr (inl (refl, h, refl)) }

  call_along : (g : Setting) (c : Option CodeFunction) (f m d : ℕ) (vs : List Rvalue) (line : ℕ) (q : Caller)
      (temps : Temps) (s : State) → LeadsTo i m
      → GoesAlong i u frames
      (called_at g c f vs line
      (Waits (record { function = u; node = m; place = d; caller = q; temps = temps }) ∷ frames) s)
  call_along g None f m d vs line q temps s h = record { by = tt }
  call_along g (Some c) f m d vs line q temps s h = came_along _ _
      (λ a z. waits_along f c.entry m d q temps no_temps z h)

only_along : {i : Instruction} {u : ℕ} {frames : List Frame} (b : Bool) (x : Stage) → GoesAlong i u frames x
    → GoesAlong i u frames (only_if b x)
only_along true x h = h
only_along false x h = record { by = tt }

given_along : (i : Instruction) (u : ℕ) (frames : List Frame) (v : Rvalue) (s : State)
    → GoesAlong i u frames (given_to frames v s)
given_along i u [] v s = record { by = tt }
given_along i u (Waits w ∷ frames) v s = record { by = inr (inr (refl, refl, refl)) }
given_along i u (Entered k b ∷ frames) v s = record { by = tt }

effect_along : (g : Setting) (t : Tac) (i : Instruction) (u : ℕ) (temps : Temps) (frames : List Frame) (s : State)
    → GoesAlong i u frames (effect g t i u temps frames s)
effect_along g t (Call f line d n m) u temps frames s = call_along (Call f line d n m) u frames g
    (function_in t f) f m d _
    line _ temps s (inl refl)
effect_along g t (CallThrough type_number line d n m) u temps frames s = came_along
    (CallThrough type_number line d n m) u
    frames _ _ (λ f z. call_along (CallThrough type_number line d n m) u frames g (function_in t f) f m d _ line _ temps
    z (inl refl))
effect_along g t (Return a) u temps frames s = given_along (Return a) u frames (temps a)
    (spent (handing (temps a)) s)
effect_along g t i u temps frames s = stays_along i u frames _ (effect_stays g t i u temps frames s refl)

pub act_along : (g : Setting) (t : Tac) (i : Instruction) (u : ℕ) (temps : Temps) (frames : List Frame) (s : State)
    → GoesAlong i u frames (act g t i u temps frames s)
act_along g t i u temps frames s = only_along (fits g t i u temps s) _ (effect_along g t i u temps frames s)
