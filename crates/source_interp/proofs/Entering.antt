-- Blocks that are entered.
use Rattle.std.proofs.Common.{◌≡◌, ℕ, ◌+◌, ◌<◌, sym, ap, subst, refl, ◌∙◌, Ok, Err, Bool, true, false, nat_le, List}
use Rattle.std.proofs.Common.{[], ◌∷◌, ◌++◌, length, drop}
use Rattle.std.specs.Prelude.{Result, get_or}
use Rattle.std.proofs.lemmas.List.{append-nil, append_assoc, drop_more}
use Rattle.sb_base.specs.declared.ending.Ending.TheVariants.{Stack}
use Rattle.c_tree.specs.declared.program.Variable.{Variable}
use Rattle.source_meaning.specs.State.{State, Home, Gives, Run, ◌>>=◌, Outcome, Ended, Paused, Setting, change, choose}
use Rattle.source_meaning.specs.State.{done, on, read_state, skip}
use Rattle.source_meaning.specs.Places.{stack_end}
use Rattle.source_meaning.specs.Actions.{take_key}
use Rattle.source_meaning.specs.Blocks.{has_objects, objects_end, pass_or_stop, place_variable, place_variables}
use Rattle.source_meaning.specs.Blocks.{test_keys, test_space}
use Rattle.source_interp.specs.declared.limits.Limits.{Limits}
use Rattle.source_interp.specs.declared.machine.Machine.{Machine}
use Rattle.source_interp.specs.declared.stop.Cause.TheVariants as cause
use Rattle.source_interp.specs.declared.stop.Stop.{Stop}
use Rattle.source_interp.specs.declared.stop.Stop.TheVariants as stopped_by
use Rattle.source_interp.specs.Limits.{AreLimits}
use Rattle.source_interp.specs.Outside.{Outside}
use Rattle.source_interp.specs.Standing.{Acts}
use Rattle.source_interp.proofs.Acting.{Continues, alike_acts, done_acts}
use Rattle.source_interp.proofs.Acting.{goes_no_further, goes_on, goes_to_end, reads_then}
use Rattle.source_interp.proofs.Acting.{same_acts}
use Rattle.source_interp.proofs.Least.{reads}
use Rattle.source_interp.proofs.Stacked.{moves_frame}

-- the frame

pub reads_frame : (g : Setting) (o : Outside) (m : Machine) (frame : List Home) → frame ≡ m.frame
    → Acts g m m o o (Ok frame) (read_state (λ s. s.frame))
reads_frame g o m frame e = reads g o m frame (λ s. s.frame) (λ start s st. st.frame_is ∙ sym e)

pub sets_frame : (g : Setting) (o : Outside) (old new : Machine) (frame : List Home)
    → new ≡ record old { frame = frame } → Acts g old new o o (Ok tt) (change (λ s. record s { frame = frame }))
sets_frame g o old new frame e =
    subst (λ m. Acts g old m o o (Ok tt) (change (λ s. record s { frame = frame }))) (sym e)
    (moves_frame g o old (record old { frame = frame }) (λ s. frame) (λ s. s.plain) (λ s. s.charged) (λ s. s.stacked)
    refl (λ start s st. refl) (λ start s st. st.plain_is) (λ start s st. st.charged_is)
    (λ start s st. st.stacked_is))

pub goes_back : (g : Setting) (o : Outside) (old new : Machine) (frame : List Home) (top : ℕ)
    → new ≡ record old { frame = frame; stacked = top }
    → Acts g old new o o (Ok tt) (change (λ s. record s { frame = frame; stacked = top }))
goes_back g o old new frame top e =
    subst (λ m. Acts g old m o o (Ok tt) (change (λ s. record s { frame = frame; stacked = top }))) (sym e)
    (moves_frame g o old (record old { frame = frame; stacked = top }) (λ s. frame) (λ s. s.plain) (λ s. s.charged)
    (λ s. top) refl (λ start s st. refl) (λ start s st. st.plain_is) (λ start s st. st.charged_is)
    (λ start s st. refl))

-- the tests

module _ (g : Setting) (o : Outside) (l : Limits) (m : Machine) (vs : List Variable) (line end : ℕ)
    (limits : AreLimits l g) (e : end ≡ objects_end vs m.stacked) where
  tests : (r : Result (Unit {0}) Stop) (b : Bool) → nat_le end l.stack_end ≡ b
      → Acts g m m o o r (pass_or_stop b (Stack line)) → Acts g m m o o r (test_space g vs line)
  tests r b h a = reads_then g m m o o m.stacked r (λ s. s.stacked)
      (λ top. pass_or_stop (nat_le (objects_end vs top) (stack_end g)) (Stack line))
      (λ start s st. sym st.stacked_is)
      (same_acts g m m o o r (pass_or_stop b (Stack line)) _
      (ap (λ x. pass_or_stop x (Stack line)) (ap (λ x. nat_le x (stack_end g)) (sym e)
      ∙ ap (nat_le end) (sym limits.stack_end) ∙ h)) a)

  pub has_space : nat_le end l.stack_end ≡ true → Acts g m m o o (Ok tt) (test_space g vs line)
  has_space h = tests (Ok tt) true h (done_acts g m o tt)

  pub has_no_space : nat_le end l.stack_end ≡ false
      → Acts g m m o o (Err (stopped_by.Ended cause.Stack line)) (test_space g vs line)
  has_no_space h = tests (Err (stopped_by.Ended cause.Stack line)) false h
      (record { by = λ start s st. record { state = s; holds = st; comes = refl } })

pub ruleset spaces = (has_space, has_no_space)

module _ (g : Setting) (o : Outside) (old : Machine) (vs : List Variable) (line : ℕ) where
  pub makes_key : (l : Limits) (new : Machine) (r : Result (Unit {0}) Stop) → AreLimits l g → has_objects vs ≡ true
      → (l.keys ≡ g.sizes.budgets.keys → Acts g old new o o r (take_key g line))
      → Acts g old new o o r (test_keys g vs line)
  makes_key l new r limits h a = same_acts g old new o o r (take_key g line) _
      (ap (λ b. choose b (take_key g line) skip) h) (a limits.keys)

  pub makes_no_key : has_objects vs ≡ false → Acts g old old o o (Ok tt) (test_keys g vs line)
  makes_no_key h = same_acts g old old o o (Ok tt) skip _ (ap (λ b. choose b (take_key g line) skip) h)
      (done_acts g old o tt)

pub ruleset keys = (makes_key, makes_no_key)

-- the homes of variables, one after another

abbrev pub placed_behind : List Home → List Variable → Run (List Home)
placed_behind homes vs = place_variables vs >>= λ others. done (homes ++ others)

-- what is done of all runs of a list, and of the first and then the others
behind_one : (x : Outcome (List Home)) (homes : List Home) (h : Home)
    → on (on x (λ others. done (h ∷ others))) (λ others. done (homes ++ others))
    ≡ on x (λ others. done (homes ++ (h ∷ []) ++ others))
behind_one (Gives others s) homes h = ap (λ hs. Gives hs s) (sym (append_assoc homes (h ∷ []) others))
behind_one (Ended e s) homes h = refl
behind_one (Paused s) homes h = refl

placed_by : (x : Outcome Home) (homes : List Home) (vs : List Variable)
    → on (on x (λ h. place_variables vs >>= λ others. done (h ∷ others))) (λ others. done (homes ++ others))
    ≡ on x (λ h. placed_behind (homes ++ (h ∷ [])) vs)
placed_by (Gives h s) homes vs = behind_one (place_variables vs s) homes h
placed_by (Ended e s) homes vs = refl
placed_by (Paused s) homes vs = refl

first_placed : (homes : List Home) (vs : List Variable) (i : ℕ) (v : Variable) → i < length vs
    → v ≡ get_or vs i v → (s : State) → placed_behind homes (drop i vs) s
    ≡ on (place_variable v s) (λ h. placed_behind (homes ++ (h ∷ [])) (drop (i + 1) vs))
first_placed homes vs i v h e s =
    ap (λ ws. placed_behind homes ws s) (drop_more vs i v h ∙ ap (λ w. w ∷ drop (i + 1) vs) (sym e))
    ∙ placed_by (place_variable v s) homes (drop (i + 1) vs)

module _ (g : Setting) (o : Outside) (first now next : Machine) (homes : List Home) (vs : List Variable) (i : ℕ)
    (v : Variable) (so_far : Continues g first now o o (place_variables vs) (placed_behind homes (drop i vs)))
    (within : i < length vs) (is : v ≡ get_or vs i v) where
  pub one_placed : (h : Home) (r : Result Home Stop) (more : List Home) → r ≡ Ok h → more ≡ homes ++ (h ∷ [])
      → Acts g now next o o r (place_variable v)
      → Continues g first next o o (place_variables vs) (placed_behind more (drop (i + 1) vs))
  one_placed h r more e e' a = subst (λ hs. Continues g first next o o (place_variables vs)
      (placed_behind hs (drop (i + 1) vs))) (sym e')
      (goes_on g first now next o o o (place_variables vs) (placed_behind homes (drop i vs)) (place_variable v)
      (λ x. placed_behind (homes ++ (x ∷ [])) (drop (i + 1) vs)) r h so_far (first_placed homes vs i v within is) e a)

  pub none_placed : (e : Stop) (r : Result Home Stop) (r' : Result (List Home) Stop) → r ≡ Err e → r' ≡ Err e
      → Acts g now next o o r (place_variable v) → Acts g first next o o r' (place_variables vs)
  none_placed e r r' is' is'' a = goes_no_further g first now next o o o (place_variables vs)
      (placed_behind homes (drop i vs)) (place_variable v) (λ x. placed_behind (homes ++ (x ∷ [])) (drop (i + 1) vs))
      r r' e so_far (first_placed homes vs i v within is) is' is'' a

start_placed : (x : Outcome (List Home)) → on x (λ others. done ([] ++ others)) ≡ x
start_placed (Gives hs s) = refl
start_placed (Ended e s) = refl
start_placed (Paused s) = refl

pub placing_begins : (g : Setting) (o : Outside) (m : Machine) (homes : List Home) (vs : List Variable) → homes ≡ []
    → Continues g m m o o (place_variables vs) (placed_behind homes vs)
placing_begins g o m homes vs e = subst (λ hs. Continues g m m o o (place_variables vs) (placed_behind hs vs)) (sym e)
    (record {
      by = λ new after r a. alike_acts g m new o after r (placed_behind [] vs) (place_variables vs)
          (λ s. sym (start_placed (place_variables vs s))) a;
    })

pub all_placed : (g : Setting) (o : Outside) (first now : Machine) (homes : List Home) (vs left : List Variable)
    → left ≡ [] → Continues g first now o o (place_variables vs) (placed_behind homes left)
    → Acts g first now o o (Ok homes) (place_variables vs)
all_placed g o first now homes vs left e so_far =
    goes_to_end g first now o o (place_variables vs) (placed_behind homes left) homes so_far
    (λ s. ap (λ ws. placed_behind homes ws s) e ∙ ap (λ hs. Gives hs s) (append-nil homes))
