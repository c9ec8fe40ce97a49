-- A run is a path of the function that runs, and one of each caller that waits. What is known on it holds.
use Rattle.std.proofs.Common.{◌≡◌, ◌⊎◌, inl, inr, ⊎_elim, ℕ, ◌+◌, ◌<◌, ◌^◌, List, [], ◌∷◌, Option, Some, None}
use Rattle.std.proofs.Common.{Bool, true, false, refl, sym, ap, ◌∙◌, subst}
use Rattle.std.specs.Prelude.{slice_get, ◌||◌, ◌==◌}
use Rattle.std.proofs.lemmas.Bool.{cases_Bool, false≢true, eqb-true, ltb-true}
use Rattle.obj_memory.specs.declared.value.Value.{Value}
use Rattle.obj_memory.specs.Objects.{Objects}
use Rattle.obj_memory.specs.Sound.{Continues}
use Rattle.obj_memory.proofs.Continuing.{continues_same, continues_then}
use Rattle.c_tree.specs.declared.program.Variable.{Variable}
use Rattle.sb_base.specs.declared.ending.Ending.{Ending}
use Rattle.sb_base.specs.declared.ending.Ending.TheVariants as ending
use Rattle.source_meaning.specs.State.{State, Home, Rvalue, Outcome, Gives, Ended, Paused, Setting}
use Rattle.source_meaning.specs.Acting.{ActsBy}
use Rattle.source_meaning.specs.Blocks.{pass_or_stop, Block}
use Rattle.source_meaning.specs.Calls.{Caller, caller, back_to, set_up}
use Rattle.source_meaning.specs.Expressions.{callee}
use Rattle.source_meaning.specs.Judging.{is_within, is_live_tag}
use Rattle.source_meaning.proofs.ActionsAct.{acts_callee, acts_set_up, acts_back_to}
use Rattle.source_meaning.proofs.ValidNames.{both}
use Rattle.tac_ir.specs.declared.instruction.Test.{Test}
use Rattle.tac_ir.specs.declared.instruction.Test.TheVariants.{Spatial, Temporal}
use Rattle.tac_ir.specs.declared.instruction.Instruction.{Instruction}
use Rattle.tac_ir.specs.declared.instruction.Instruction.TheVariants as tac
use Rattle.tac_ir.specs.declared.key.Base.{Base}
use Rattle.tac_ir.specs.declared.key.Base.TheVariants.{Plain, Automatic, Static}
use Rattle.tac_ir.specs.declared.key.Key.{Key}
use Rattle.tac_ir.specs.declared.function.CodeFunction.{CodeFunction}
use Rattle.tac_ir.specs.declared.function.Tac.{Tac}
use Rattle.tac_ir.specs.Accesses.{only_if, can_check}
use Rattle.tac_ir.specs.Changes.{ends_lives, KeepsLivesAt}
use Rattle.tac_ir.specs.Costs.{cost, spent, heavier, handing, first_call}
use Rattle.tac_ir.specs.Edges.{LeadsTo, is_local, StaysIn}
use Rattle.tac_ir.specs.Fitting.{is_word, is_base_there, is_of_key}
use Rattle.tac_ir.specs.Keys.{gives}
use Rattle.tac_ir.specs.Later.{ComesLater}
use Rattle.tac_ir.specs.Meaning.{code_of, keys_of, variables_in, function_in, keyed_by, keyed, check}
use Rattle.tac_ir.specs.Meaning.{header_of_code, begun, called_at, called, given_to, fits, act, act_at, at_node}
use Rattle.tac_ir.specs.Meaning.{step, line_in}
use Rattle.tac_ir.specs.PlainVariables.PlainChanges.{changes_plain, KeepsPlainAt}
use Rattle.tac_ir.specs.Stage.{Temps, no_temps, gathered, Frame, Waits, Entered, Stage, Begins, Stands, Over}
use Rattle.tac_ir.specs.Stage.{Stuck, came}
use Rattle.tac_ir.proofs.Along.{act_stays}
use Rattle.tac_ir.proofs.Fits.{act_fits}
use Rattle.tac_ir.proofs.Later.{act_later}
use Rattle.tac_ir.proofs.Living.{act_lives}
use Rattle.tac_ir.proofs.PlainVariables.PlainVariables.{act_keeps}
use Rattle.tac_ir.proofs.Turns.{acts_heavier}
use Rattle.check_elim.specs.Paths.{Path, Start, On, IsKnownOn}
use Rattle.check_elim.specs.Facts.{Fact, Checks, is_of, ends_life, is_of_block, ends, Ends}
use Rattle.check_elim.proofs.Homes.{keeps_homes, KeepsHomes, act_homes, home_at, KeepsUndeclared, declared_in}
use Rattle.check_elim.proofs.Homes.{EntersBy, LeavesBy, act_enters, act_leaves}
use Rattle.check_elim.proofs.Keeping.{IsKnown, SameHome, known_stays, base_made, passes, passed, passed_as}
use Rattle.check_elim.proofs.Keeping.{fewer_pass}

-- what an instruction that does not end a fact leaves as it was

other_variable : (key : Key) (y x : ℕ) → is_of key y ≡ false → is_of key x ≡ true → (y == x) ≡ false
other_variable key y x none h = by (cases_Bool (y == x))
  where
    by : ((y == x) ≡ true) ⊎ ((y == x) ≡ false) → (y == x) ≡ false
    by (inl e) = absurd (false≢true (sym none ∙ ap (is_of key) (eqb-true y x e) ∙ h))
    by (inr e) = e

neither : (a b : Bool) → (a || b) ≡ false → (a ≡ false) × (b ≡ false)
neither true b e = cc
neither false b e = (refl, e)

unchanged : (c : CodeFunction) (f : Fact) (i : Instruction) → is_local i ≡ true → ends c f i ≡ false → (x : ℕ)
    → is_of f.key x ≡ true → changes_plain i x ≡ false
unchanged c f (tac.SetPlain y a m) local e x h = other_variable f.key y x e h
unchanged c f (tac.UpdatePlain w q p line d y right m) local e x h = other_variable f.key y x e h
unchanged c f (tac.Call g line d n m) local e x h = cc
unchanged c f (tac.CallThrough type_number line d n m) local e x h = cc
unchanged c f (tac.Return a) local e x h = cc
unchanged c f i local e x h = refl

lives_on : (c : CodeFunction) (f : Fact) (i : Instruction) → f.test ≡ Temporal → is_local i ≡ true
    → ends c f i ≡ false → ends_lives i ≡ false
lives_on c f (tac.Library r line d n m) t local e = ap (λ x. ends_life x (tac.Library r line d n m)) (sym t) ∙ e
lives_on c f (tac.LeaveBlock b m) t local e =
    ap (λ x. ends_life x (tac.LeaveBlock b m)) (sym t) ∙ (neither _ (is_of_block c b f.key.base) e).0
lives_on c f (tac.Return a) t local e = cc
lives_on c f i t local e = refl

-- the home of the object with which a key begins

frame_home : (b : Base) (s z : State) → z.frame ≡ s.frame → SameHome s z b
frame_home (Plain x) s z e = tt
frame_home (Automatic x) s z e = ap (λ f. home_at f x) e
frame_home (Static n) s z e = tt

entered_home : (c : CodeFunction) (n : ℕ) (b : Base) (s z : State) → is_of_block c n b ≡ false
    → KeepsUndeclared (declared_in (Some c) n) s.frame z.frame → SameHome s z b
entered_home c n (Plain x) s z none k = tt
entered_home c n (Automatic x) s z none k = k.by x none
entered_home c n (Static x) s z none k = tt

left_home : (c : CodeFunction) (n : ℕ) (b : Base) (s z : State) (q : Block) → is_of_block c n b ≡ false
    → KeepsUndeclared (declared_in (Some c) n) q.frame s.frame → z.frame ≡ q.frame → SameHome s z b
left_home c n (Plain x) s z q none k e = tt
left_home c n (Automatic x) s z q none k e = ap (λ f. home_at f x) e ∙ sym (k.by x none)
left_home c n (Static x) s z q none k e = tt

-- A path leads to a node of a function, and what is known on it holds.
pub record Knows (t : Tac) (u n : ℕ) (Holds : Fact → Type 0) : Type 0 where
  pub function : CodeFunction
  pub found : function_in t u ≡ Some function
  pub path : Path function n
  pub known : (f : Fact) → IsKnownOn function (Checks function f) (Ends function f) n path → Holds f

-- where a caller waits, it will hold in each later state from which it goes on
abbrev pub HoldsBehind : Caller → (objects : Objects) → Fact → Type 0
HoldsBehind c objects f = (z : State) → Continues objects z.objects → IsKnown f (back_to c z)

-- so it is for all callers, and the homes of a block's own variables alone differ from those before it
abbrev pub AreTrailed : Tac → (function : ℕ) → (frame : List Home) → Objects → List Frame → Type 0
AreTrailed t u frame objects [] = Unit {0}
AreTrailed t u frame objects (Waits w ∷ frames) =
    Knows t w.function w.node (HoldsBehind w.caller objects)
    × AreTrailed t w.function w.caller.frame objects frames
AreTrailed t u frame objects (Entered b q ∷ frames) =
    KeepsUndeclared (declared_in (function_in t u) b) q.frame frame × AreTrailed t u q.frame objects frames

abbrev pub TrailedBy : Tac → Stage → Type 0
TrailedBy t (Begins s) = Unit {0}
TrailedBy t (Stands u n temps frames s) = Knows t u n (λ f. IsKnown f s) × AreTrailed t u s.frame s.objects frames
TrailedBy t (Over e s) = Unit {0}
TrailedBy t Stuck = Unit {0}

pub record IsTrailed (t : Tac) (x : Stage) : Type 0 where
  pub by : TrailedBy t x

knows_more : {t : Tac} {u n : ℕ} (P Q : Fact → Type 0) → ((f : Fact) → P f → Q f) → Knows t u n P → Knows t u n Q
knows_more P Q h k = record
    { function = k.function; found = k.found; path = k.path; known = λ f e. h f (k.known f e) }

-- all stays so while objects go on
trailed_on : (t : Tac) (u : ℕ) (frame : List Home) (a b : Objects) (frames : List Frame) → Continues a b
    → AreTrailed t u frame a frames → AreTrailed t u frame b frames
trailed_on t u frame a b [] c h = tt
trailed_on t u frame a b (Waits w ∷ frames) c h = (
  knows_more (HoldsBehind w.caller a) (HoldsBehind w.caller b)
      (λ f k z d. k z (continues_then a b z.objects c d)) h.0,
  trailed_on t w.function w.caller.frame a b frames c h.1,
)
trailed_on t u frame a b (Entered n q ∷ frames) c h = (h.0, trailed_on t u q.frame a b frames c h.1)

-- a check that the run went past

record WentPast (test : Test) (size : ℕ) (v : Value) (key : Key) (s z : State) : Type 0 where
  state : z ≡ s
  given : gives key s v ≡ true
  passes : passed test size v s ≡ true

abbrev state_in : State → Stage → State
state_in s (Begins z) = z
state_in s (Stands v n temps frames z) = z
state_in s (Over e z) = z
state_in s Stuck = s

abbrev Behind : Stage → State → Type 0
Behind x z = (w : ℕ) × (n : ℕ) × (temps : Temps) × (others : List Frame) × (x ≡ Stands w n temps others z)

module _ (size line : ℕ) (v : Value) (u m : ℕ) (temps : Temps) (frames : List Frame) (s : State) where
  passed_by : (e : Ending) (b : Bool) (z : State)
      → Behind (came (pass_or_stop b e s) (λ _ z. Stands u m temps frames z)) z → (z ≡ s) × (b ≡ true)
  passed_by e true z h = (sym (ap (state_in s) h.4), refl)
  passed_by e false z h = let x = h.4 in cc

  check_passed : (test : Test) (z : State)
      → Behind (came (check test size v line s) (λ _ z. Stands u m temps frames z)) z
      → (z ≡ s) × (passed test size v s ≡ true)
  check_passed Spatial z h = passed_by (ending.Spatial line) (is_within v.tag v.word size) z h
  check_passed Temporal z h = passed_by (ending.Temporal line) (is_live_tag v.tag s.objects) z h

  able : (test : Test) (key : Key) (b : Bool) (z : State) → gives key s v ≡ true
      → Behind (only_if b (came (check test size v line s) (λ _ z. Stands u m temps frames z))) z
      → WentPast test size v key s z
  able test key true z e h = let c = check_passed test z h in record { state = c.0; given = e; passes = c.1 }
  able test key false z e h = let x = h.4 in cc

  given_by : (test : Test) (key : Key) (b : Bool) (z : State) → gives key s v ≡ b
      → Behind (only_if b (only_if (can_check test size v)
      (came (check test size v line s) (λ _ z. Stands u m temps frames z)))) z
      → WentPast test size v key s z
  given_by test key true z e h = able test key (can_check test size v) z e h
  given_by test key false z e h = let x = h.4 in cc

  went_past : (test : Test) (keys : List Key) (k : ℕ) (key : Key) (z : State) → slice_get keys k ≡ Some key
      → Behind (keyed keys (Some k) s v (only_if (can_check test size v)
      (came (check test size v line s) (λ _ z. Stands u m temps frames z)))) z
      → WentPast test size v key s z
  went_past test keys k key z is h =
      given_by test key (gives key s v) z refl
      (subst (λ o. Behind (keyed_by o s v (only_if (can_check test size v)
      (came (check test size v line s) (λ _ z. Stands u m temps frames z)))) z) is h)

-- what fits a check with a key: its pointer is a word, and the object with which the key begins is there
pub key_fits : (vs : List Variable) (t : Tac) (key : Key) (o : Option Key) (s : State) (v : Value) → o ≡ Some key
    → is_of_key vs t.statics o s v ≡ true
    → (v.word < 2 ^ 64) × (is_base_there vs t.statics key.base s ≡ true)
key_fits vs t key o s v is h =
    let two = both (is_word v.word) (is_base_there vs t.statics key.base s)
    (ap (λ q. is_of_key vs t.statics q s v) (sym is) ∙ h) in
    (ltb-true v.word (2 ^ 64) two.0, two.1)

stands_fine : {x : Stage} (w n : ℕ) (temps : Temps) (others : List Frame) (z : State) → x ≡ Stands w n temps others z
    → x ≡ Stuck → ⊥
stands_fine w n temps others z e h = let clash : Stands w n temps others z ≡ Stuck = sym e ∙ h in cc

module _ (g : Setting) (t : Tac) (u : ℕ) (c : CodeFunction) (found : function_in t u ≡ Some c) where
  -- behind a check of a fact it is known
  made_by : (i : Instruction) (temps : Temps) (frames : List Frame) (s : State) (f : Fact) → Checks c f i
      → (w n : ℕ) (temps' : Temps) (others : List Frame) (z : State)
      → act g t i u temps frames s ≡ Stands w n temps' others z → IsKnown f z
  made_by (tac.Judge test size line (Some k) a m) temps frames s f (is, has, le) w n temps' others z e =
      let fit = act_fits g t (tac.Judge test size line (Some k) a m) u temps frames s
      (stands_fine w n temps' others z e) in
      let here : slice_get (keys_of (function_in t u)) k ≡ Some f.key =
      ap (λ o. slice_get (keys_of o) k) found ∙ has in
      let there = key_fits (variables_in (function_in t u)) t f.key _ s (temps a).value here fit.0 in
      let past = went_past size line (temps a).value u m temps frames s test (keys_of (function_in t u)) k f.key z here
      (w, n, temps', others, sym fit.1 ∙ e) in
      subst (IsKnown f) (sym past.state) (record {
        made = base_made (variables_in (function_in t u)) t.statics f.key.base s there.1;
        passes =
            ap (λ q. passes q f.key f.size s) (sym is)
            ∙ fewer_pass test f.key s size f.size le
            (sym (passed_as test f.key s (temps a).value size past.given there.0) ∙ past.passes);
      })
  made_by (tac.Judge test size line None a m) temps frames s f h w n temps' others z e = absurd h
  made_by i temps frames s f h w n temps' others z e = absurd h

  none_ends : (f : Fact) (i : Instruction) → (Ends c f i → ⊥) → ends c f i ≡ false
  none_ends f i h = ⊎_elim (λ e. absurd (h e)) (λ e. e) (cases_Bool (ends c f i))

  module _ (i : Instruction) (local : is_local i ≡ true) (temps : Temps) (frames : List Frame) (s : State)
      (w m : ℕ) (temps' : Temps) (others : List Frame) (z : State)
      (goes : act g t i u temps frames s ≡ Stands w m temps' others z) where
    objects_go_on : Continues s.objects z.objects
    objects_go_on = (subst (ComesLater s) goes (act_later g t i u temps frames s)).by.objects

    -- what is known and does not end stays known, where the home of its object does
    stays : (f : Fact) → ends c f i ≡ false → SameHome s z f.key.base → IsKnown f s → IsKnown f z
    stays f on home h = known_stays f s z (record {
      plain = λ x q. (subst (λ y. KeepsPlainAt x s y) goes
          (act_keeps g t i u temps frames s x (unchanged c f i local on x q))).by;
      home = home;
      objects = objects_go_on;
    }) (λ is. (subst (λ y. KeepsLivesAt s y) goes (act_lives g t i u temps frames s (lives_on c f i is local on))).by) h

    -- the trail goes on, where the homes of what is known stay, and so does what waits
    goes_on : (n : ℕ) (path : Path c n) (has : slice_get c.code n ≡ Some i)
        → ((f : Fact) → IsKnownOn c (Checks c f) (Ends c f) n path → IsKnown f s)
        → ((f : Fact) → ends c f i ≡ false → SameHome s z f.key.base)
        → AreTrailed t u z.frame s.objects others → IsTrailed t (Stands w m temps' others z)
    goes_on n path has known home all =
        let edge = (subst (StaysIn i u frames) goes (act_stays g t i u temps frames s local)).by in
        record {
          by = (
            record {
              function = c;
              found = ap (function_in t) edge.0 ∙ found;
              path = On n m i path has edge.1;
              known = λ f. ⊎_elim (λ made. made_by i temps frames s f made w m temps' others z goes)
                  (λ h. let on = none_ends f i h.1 in stays f on (home f on) (known f h.0));
            },
            trailed_on t w z.frame s.objects z.objects others objects_go_on
                (subst (λ v. AreTrailed t v z.frame s.objects others) (sym edge.0) all),
          );
        }

-- one step

module _ (g : Setting) (t : Tac) (u n : ℕ) (temps : Temps) (frames : List Frame) (s : State)
    (k : Knows t u n (λ f. IsKnown f s)) (all : AreTrailed t u s.frame s.objects frames) where
  abbrev c : CodeFunction
  c = k.function

  here : (i : Instruction) → at_node t u n ≡ Some i → slice_get c.code n ≡ Some i
  here i has = sym (ap (λ o. slice_get (code_of o) n) k.found) ∙ has

  -- an instruction that keeps the homes
  flat_trailed : (i : Instruction) → is_local i ≡ true → keeps_homes i ≡ true → at_node t u n ≡ Some i → (x : Stage)
      → act g t i u temps frames s ≡ x → IsTrailed t x
  flat_trailed i local flat has (Begins z) e = record { by = tt }
  flat_trailed i local flat has (Stands w m temps' others z) e =
      let h = (subst (KeepsHomes frames s) e (act_homes g t i u temps frames s flat)).by in
      goes_on g t u c k.found i local temps frames s w m temps' others z e n k.path (here i has) k.known
      (λ f on. frame_home f.key.base s z h.1)
      (subst (λ fs. AreTrailed t u z.frame s.objects fs) (sym h.0)
      (subst (λ fr. AreTrailed t u fr s.objects frames) (sym h.1) all))
  flat_trailed i local flat has (Over y z) e = record { by = tt }
  flat_trailed i local flat has Stuck e = record { by = tt }

  enter_trailed : (b line m : ℕ) → at_node t u n ≡ Some (tac.EnterBlock b line m) → (x : Stage)
      → act g t (tac.EnterBlock b line m) u temps frames s ≡ x → EntersBy (function_in t u) b frames s x
      → IsTrailed t x
  enter_trailed b line m has (Begins z) e h = record { by = tt }
  enter_trailed b line m has (Stands w v temps' others z) e h =
      goes_on g t u c k.found (tac.EnterBlock b line m) refl temps frames s w v temps' others z e n k.path
      (here (tac.EnterBlock b line m) has) k.known
      (λ f on. entered_home c b f.key.base s z on
      (subst (λ o. KeepsUndeclared (declared_in o b) s.frame z.frame) k.found h.keeps))
      (subst (λ fs. AreTrailed t u z.frame s.objects fs) (sym h.entered) (
        subst (λ fr. KeepsUndeclared (declared_in (function_in t u) b) fr z.frame) (sym h.outer) h.keeps,
        subst (λ fr. AreTrailed t u fr s.objects frames) (sym h.outer) all,
      ))
  enter_trailed b line m has (Over y z) e h = record { by = tt }
  enter_trailed b line m has Stuck e h = record { by = tt }

  leave_trailed : (b m : ℕ) → at_node t u n ≡ Some (tac.LeaveBlock b m) → (x : Stage)
      → act g t (tac.LeaveBlock b m) u temps frames s ≡ x → LeavesBy b frames x → IsTrailed t x
  leave_trailed b m has (Begins z) e h = record { by = tt }
  leave_trailed b m has (Stands w v temps' others z) e h =
      let was = subst (λ fs. AreTrailed t u s.frame s.objects fs) h.entered all in
      goes_on g t u c k.found (tac.LeaveBlock b m) refl temps frames s w v temps' others z e n k.path
      (here (tac.LeaveBlock b m) has) k.known
      (λ f on. left_home c b f.key.base s z h.block (neither _ (is_of_block c b f.key.base) on).1
      (subst (λ o. KeepsUndeclared (declared_in o b) h.block.frame s.frame) k.found was.0) h.outer)
      (subst (λ fr. AreTrailed t u fr s.objects others) (sym h.outer) was.1)
  leave_trailed b m has (Over y z) e h = record { by = tt }
  leave_trailed b m has Stuck e h = record { by = tt }

  -- a call: what is known before it, and does not end, holds behind the return
  call_waits : (i : Instruction) (m : ℕ) → ((f : Fact) → ends c f i ≡ ends_life f.test i)
      → (ends_life Temporal i ≡ true) → ((f : Fact) → Checks c f i → ⊥) → at_node t u n ≡ Some i → LeadsTo i m
      → Knows t u m (HoldsBehind (caller s) s.objects)
  call_waits i m only temporal none has to = record {
    function = c;
    found = k.found;
    path = On n m i k.path (here i has) to;
    known = λ f h. by f f.test refl h;
  }
    where
      by : (f : Fact) (test : Test) → f.test ≡ test
          → Checks c f i ⊎ (IsKnownOn c (Checks c f) (Ends c f) n k.path × (Ends c f i → ⊥))
          → HoldsBehind (caller s) s.objects f
      by f test is (inl h) z go = absurd (none f h)
      by f Spatial is (inr h) z go = known_stays f s (back_to (caller s) z) (record {
        plain = λ x e. refl;
        home = frame_home f.key.base s (back_to (caller s) z) refl;
        objects = continues_then s.objects z.objects _ go ((acts_back_to (caller s)).acts z 0).2.later.objects;
      }) (λ e. let clash : Spatial ≡ Temporal = sym is ∙ e in absurd cc) (k.known f h.0)
      by f Temporal is (inr h) z go = absurd (h.1 (only f ∙ ap (λ x. ends_life x i) is ∙ temporal))

begun_by : (t : Tac) (f : ℕ) (c : CodeFunction) → function_in t f ≡ Some c → (s : State) (frames : List Frame)
    → ((frame : List Home) → AreTrailed t f frame s.objects frames) → (o o' : Outcome (Unit {0})) → ActsBy 0 s o o'
    → IsTrailed t (came o (λ _ z. Stands f c.entry no_temps frames z))
begun_by t f c is s frames all (Gives a z) o' h = record {
  by = (
    record { function = c; found = is; path = Start; known = λ f h. absurd h },
    trailed_on t f z.frame s.objects z.objects frames h.2.later.objects (all z.frame),
  );
}
begun_by t f c is s frames all (Ended e z) o' h = record { by = tt }
begun_by t f c is s frames all (Paused z) o' h = record { by = tt }

begun_call : (g : Setting) (t : Tac) (o : Option CodeFunction) (f : ℕ) → function_in t f ≡ o → (vs : List Rvalue)
    (line : ℕ) (frames : List Frame) (s : State) → ((frame : List Home) → AreTrailed t f frame s.objects frames)
    → IsTrailed t (called_at g o f vs line frames s)
begun_call g t None f is vs line frames s all = record { by = tt }
begun_call g t (Some c) f is vs line frames s all =
    begun_by t f c is (begun s) frames all (heavier (set_up g (header_of_code c) vs line) (begun s)) _
    ((acts_heavier (acts_set_up g (header_of_code c) vs line)).acts (begun s) 0)

given_trailed : (t : Tac) (u : ℕ) (frames : List Frame) (v : Rvalue) (s : State)
    → AreTrailed t u s.frame s.objects frames → IsTrailed t (given_to frames v s)
given_trailed t u [] v s all = record { by = tt }
given_trailed t u (Waits w ∷ frames) v s all =
    let go = ((acts_back_to w.caller).acts s 0).2.later.objects in
    record {
      by = (
        knows_more (HoldsBehind w.caller s.objects) (λ f. IsKnown f (back_to w.caller s))
            (λ f h. h s (continues_same s.objects)) all.0,
        trailed_on t w.function w.caller.frame s.objects (back_to w.caller s).objects frames go all.1,
      );
    }
given_trailed t u (Entered b q ∷ frames) v s all = record { by = tt }

only_trailed : {t : Tac} (b : Bool) (x : Stage) → IsTrailed t x → IsTrailed t (only_if b x)
only_trailed true x h = h
only_trailed false x h = record { by = tt }

module _ (g : Setting) (t : Tac) where
  through_trailed : (ty line d n u m : ℕ) (temps : Temps) (frames : List Frame) (s : State)
      → Knows t u m (HoldsBehind (caller s) s.objects) → AreTrailed t u s.frame s.objects frames
      → (o o' : Outcome ℕ) → ActsBy 0 s o o'
      → IsTrailed t (came o (λ f z. called g t f (gathered temps (d + 1) n) line
      (Waits (record { function = u; node = m; place = d; caller = caller s; temps = temps }) ∷ frames) z))
  through_trailed ty line d n u m temps frames s k all (Gives f z) o' h =
      begun_call g t (function_in t f) f refl _ line _ z
      (λ frame. trailed_on t f frame s.objects z.objects
      (Waits (record { function = u; node = m; place = d; caller = caller s; temps = temps }) ∷ frames)
      h.2.later.objects (k, all))
  through_trailed ty line d n u m temps frames s k all (Ended e z) o' h = record { by = tt }
  through_trailed ty line d n u m temps frames s k all (Paused z) o' h = record { by = tt }

  act_trailed : (i : Instruction) (u n : ℕ) (temps : Temps) (frames : List Frame) (s : State)
      → at_node t u n ≡ Some i → Knows t u n (λ f. IsKnown f s) → AreTrailed t u s.frame s.objects frames
      → IsTrailed t (act g t i u temps frames s)
  act_trailed (tac.Call f line d a m) u n temps frames s has k all =
      let w = call_waits g t u n temps frames s k all (tac.Call f line d a m) m (λ f. refl) refl (λ f h. h) has
      (inl refl) in
      only_trailed (fits g t (tac.Call f line d a m) u temps s) _
      (begun_call g t (function_in t f) f refl _ line _ s (λ frame. (w, all)))
  act_trailed (tac.CallThrough ty line d a m) u n temps frames s has k all =
      let w = call_waits g t u n temps frames s k all (tac.CallThrough ty line d a m) m (λ f. refl) refl (λ f h. h) has
      (inl refl) in
      only_trailed (fits g t (tac.CallThrough ty line d a m) u temps s) _
      (through_trailed ty line d a u m temps frames s w all (callee g.functions ty (temps d).value line s) _
      ((acts_callee g.functions ty (temps d).value line).acts s 0))
  act_trailed (tac.EnterBlock b line m) u n temps frames s has k all =
      enter_trailed g t u n temps frames s k all b line m has _ refl (act_enters g t b u m temps frames s line)
  act_trailed (tac.LeaveBlock b m) u n temps frames s has k all =
      leave_trailed g t u n temps frames s k all b m has _ refl (act_leaves g t b u m temps frames s)
  act_trailed (tac.Return a) u n temps frames s has k all =
      only_trailed (fits g t (tac.Return a) u temps s) _
      (given_trailed t u frames (temps a) (spent (handing (temps a)) s) all)
  act_trailed i u n temps frames s has k all = flat_trailed g t u n temps frames s k all i refl refl has _ refl

  -- work plays no part
  pub at_spent : (f : Fact) (k : ℕ) (s : State) → IsKnown f s → IsKnown f (spent k s)
  at_spent f k s h = known_stays f s (spent k s) (record {
    plain = λ x e. refl;
    home = frame_home f.key.base s (spent k s) refl;
    objects = continues_same s.objects;
  }) (λ is o live. live) h

  knows_spent : (u n k : ℕ) (s : State) → Knows t u n (λ f. IsKnown f s) → Knows t u n (λ f. IsKnown f (spent k s))
  knows_spent u n k s = knows_more (λ f. IsKnown f s) (λ f. IsKnown f (spent k s)) (λ f h. at_spent f k s h)

  node_trailed : (o : Option Instruction) (u n : ℕ) (temps : Temps) (frames : List Frame) (s : State)
      → at_node t u n ≡ o → Knows t u n (λ f. IsKnown f s) → AreTrailed t u s.frame s.objects frames
      → IsTrailed t (act_at g t o u temps frames s)
  node_trailed None u n temps frames s has k all = record { by = tt }
  node_trailed (Some i) u n temps frames s has k all =
      act_trailed i u n temps frames (spent (cost i) s) has (knows_spent u n (cost i) s k) all

  pub step_trailed : (x : Stage) → IsTrailed t x → IsTrailed t (step g t x)
  step_trailed (Begins s) h = begun_call g t (function_in t t.main) t.main refl [] (line_in (function_in t t.main)) []
      (spent first_call s) (λ frame. tt)
  step_trailed (Stands u n temps frames s) h =
      node_trailed (at_node t u n) u n temps frames s refl h.by.0 h.by.1
  step_trailed (Over e s) h = h
  step_trailed Stuck h = h
