-- What waits goes on waiting: while an action is done, and where a block is left.
use Rattle.std.proofs.Common.{◌≡◌, inl, ℕ, ◌<◌, ◌≤◌, Bool, true, false, List, [], ◌∷◌, length, refl, sym, ap}
use Rattle.std.proofs.Common.{◌∙◌, subst, arith, Some}
use Rattle.std.specs.Prelude.{◌==◌}
use Rattle.obj_memory.specs.declared.object.Storage.{Storage}
use Rattle.obj_memory.specs.declared.object.Storage.TheVariants.{Static, Automatic, Allocated}
use Rattle.obj_memory.specs.Heap.{is_allocated}
use Rattle.obj_memory.specs.Objects.{ObjectState, object_at}
use Rattle.source_meaning.specs.State.{State, Home}
use Rattle.source_meaning.specs.Blocks.{Block, leave_block, has_objects}
use Rattle.source_meaning.specs.Keeping.{LivesOn}
use Rattle.source_meaning.specs.Good.{EndsMade}
use Rattle.source_meaning.proofs.Holding.{live_made}
use Rattle.tac_ir.specs.declared.function.CodeFunction.{CodeFunction}
use Rattle.tac_ir.specs.Stage.{Frame, Waits, Entered}
use Rattle.flat_code.specs.Memory.{Bytes}
use Rattle.flat_code.specs.State as flat
use Rattle.flat_code.specs.Routines.Objects.StandsFor.{Views, Keys, StandsFor}
use Rattle.flat_actions.proofs.Standing.{keeps_same}
use Rattle.lib_wrappers.specs.AllocatingRoutines.Entering.{IsHomeOf, AreOfLock}
use Rattle.lib_wrappers.proofs.AllocatingRoutines.OuterBlocks.{still_of_lock}
use Rattle.lib_wrappers.proofs.AllocatingRoutines.BlockDeaths.{without_other, count_without}
use Rattle.c_tree.specs.declared.program.Variable.{Variable}
use Rattle.tac_ir.specs.Meaning.{objects_in}
use Rattle.metadata_relation.specs.Registers.{variables_end, homes_end, lock_register, top_register}
use Rattle.metadata_relation.specs.Holding.{World}
use Rattle.metadata_relation.specs.Blocks.{objects_of_body}
use Rattle.metadata_relation.specs.Waiting.{AreBetween, IsEnteredAs, BodyBy, IsBodyAs, Layout}
use Rattle.metadata_relation.specs.Waiting.{IsBlockAt, IsWaitingAs, Level, AllWait, EntryWaits}
use Rattle.metadata_relation.specs.Holding.{GoesOn, world_of}
use Rattle.metadata_relation.proofs.Holding.{homes_on, holds_on, same_world}

-- ---- behind a function that runs

-- what waits behind it: its caller, or the function with which the run began, with objects below a mark
abbrev pub CallerWaits : World → State → Layout → (first_stacked : ℕ) → (callee : CodeFunction) → (outer mark : ℕ)
    → List Frame → List flat.Frame → Type 0
CallerWaits w s l first k outer mark [] [] = ⊥
CallerWaits w s l first k outer mark [] (x ∷ []) = (outer ≡ first) × EntryWaits l k x
CallerWaits w s l first k outer mark [] (x ∷ y ∷ xs) = ⊥
CallerWaits w s l first k outer mark (Entered n b ∷ ws) xs = ⊥
CallerWaits w s l first k outer mark (Waits a ∷ ws) [] = ⊥
CallerWaits w s l first k outer mark (Waits a ∷ ws) (x ∷ xs) =
    (outer ≡ a.caller.stacked)
    × (h : IsWaitingAs w l k mark a x xs)
    × AllWait w s l first (record {
      code = h.code;
      values = x.values;
      stacked = a.caller.stacked;
      frame = a.caller.frame;
      bound = mark;
    }) ws xs

-- with the function's body this is all that waits
pub body_waits : (w : World) (s : State) (l : Layout) (first : ℕ) (k : CodeFunction) (values : flat.Values)
    (stacked outer bound : ℕ) (frame : List Home) (b : IsBodyAs w s k stacked outer bound frame values) (ws : List Frame)
    (xs : List flat.Frame) → CallerWaits w s l first k outer b.mark ws xs
    → AllWait w s l first (record { code = k; values = values; stacked = stacked; frame = frame; bound = bound }) ws xs
body_waits w s l first k values stacked outer bound frame b [] [] h = h
body_waits w s l first k values stacked outer bound frame b [] (x ∷ []) h =
    (subst (λ z. IsBodyAs w s k stacked z bound frame values) h.0 b, h.1)
body_waits w s l first k values stacked outer bound frame b [] (x ∷ y ∷ xs) h = h
body_waits w s l first k values stacked outer bound frame b (Entered n a ∷ ws) xs h = absurd h
body_waits w s l first k values stacked outer bound frame b (Waits a ∷ ws) [] h = h
body_waits w s l first k values stacked outer bound frame b (Waits a ∷ ws) (x ∷ xs) h =
    subst (λ z. (b : IsBodyAs w s k stacked z bound frame values) → (h : IsWaitingAs w l k b.mark a x xs)
    → AllWait w s l first (record {
      code = h.code;
      values = x.values;
      stacked = a.caller.stacked;
      frame = a.caller.frame;
      bound = b.mark;
    }) ws xs
    → AllWait w s l first (record { code = k; values = values; stacked = stacked; frame = frame; bound = bound })
    (Waits a ∷ ws) (x ∷ xs)) (sym h.0) (λ b h rest. (b, h, rest)) b h.1 h.2

-- ---- whatever happens, as long as objects below a number live on and locks of theirs stay their own

module _ (g : Views) (k k' : Keys) (s s' : State) (m m' : Bytes) (l : Layout) (first number : ℕ)
    (on : GoesOn g k k' s.objects s'.objects m m')
    (live : (o : ℕ) → o < number → (object_at s.objects o).is_live ≡ true
    → is_allocated (object_at s.objects o).storage ≡ false → (object_at s'.objects o).is_live ≡ true)
    (locks : (homes : List Home) (lock : ℕ) → ((o : ℕ) → IsHomeOf o homes → o < number) → AreOfLock k s homes lock
    → AreOfLock k' s' homes lock) where
  body_by : (c : CodeFunction) (stacked outer bound : ℕ) (homes : List Home) (values : flat.Values) → bound ≤ number
      → IsBodyAs (world_of g k s.objects m) s c stacked outer bound homes values
      → IsBodyAs (world_of g k' s'.objects m') s' c stacked outer bound homes values
  body_by c stacked outer bound homes values le h = record {
    by = by (has_objects (objects_of_body c)) h.by;
    mark = h.mark;
    within = h.within;
    own = h.own;
  }
    where
      by : (b : Bool) → BodyBy (world_of g k s.objects m) s c stacked outer homes values b
          → BodyBy (world_of g k' s'.objects m') s' c stacked outer homes values b
      by true e = record {
        of_lock = locks homes (values (lock_register c (objects_of_body c)))
            (λ o q. (let z = h.own o q in let below = z.1 in omega arith)) e.of_lock;
        placed = e.placed;
        lock_is = e.lock_is;
        top_is = e.top_is;
        top_is_one = e.top_is_one;
      }
      by false e = e

  entered_by : (c : CodeFunction) (bound n : ℕ) (b : Block) (frame : List Home) (values : flat.Values) → bound ≤ number
      → IsEnteredAs (world_of g k s.objects m) s c bound n b frame values
      → IsEnteredAs (world_of g k' s'.objects m') s' c bound n b frame values
  entered_by c bound n b frame values le h =
      let some = h.own h.block.of_lock.some h.block.of_lock.some_home in
      let above = some.0 in let below = some.1 in
      record {
        some = h.some;
        block = record {
          of_lock = locks b.homes _ (λ o q. (let z = h.own o q in let less = z.1 in omega arith)) h.block.of_lock;
          placed = h.block.placed;
          lock_is = h.block.lock_is;
          top_is = h.block.top_is;
          top_is_one = h.block.top_is_one;
        };
        mark = h.mark;
        own = h.own;
        below = h.below;
        over = h.over;
        homes = homes_on g k k' s.objects s'.objects m m' on c b.frame values values
            (λ x o home. live o (let z = h.below x o home in omega arith)) (λ r from lt. refl) h.homes;
      }

  waiting_by : (callee : CodeFunction) (mark : ℕ) (w : _) (x : flat.Frame) (xs : List flat.Frame) → mark ≤ number
      → IsWaitingAs (world_of g k s.objects m) l callee mark w x xs
      → IsWaitingAs (world_of g k' s'.objects m') l callee mark w x xs
  waiting_by callee mark w x xs le h = record {
    function = h.function;
    code = h.code;
    there = h.there;
    low = h.low;
    into = h.into;
    behind = h.behind;
    leads = h.leads;
    awaits = h.awaits;
    below = h.below;
    holds = holds_on g k k' s.objects s'.objects m m' on (record {
      tac = l.expansion.code;
      code = h.code;
      charged = w.caller.charged;
      entries = l.expansion.entries w.function w.node;
      contents = l.expansion.contents w.function w.node;
      unknown = λ i. i == w.place;
    }) (l.expansion.entries w.function w.node) (l.expansion.contents w.function w.node) w.temps w.caller.plain
        w.caller.frame x.values x.values (λ i e. e) (λ i e. e)
        (λ y o home. live o (let z = h.below y o home in omega arith)) (λ r lt. refl) h.holds;
    charge = h.charge;
    fits = h.fits;
  }

  pub waits_by : (v : Level) (ws : List Frame) (xs : List flat.Frame) → v.bound ≤ number
      → AllWait (world_of g k s.objects m) s l first v ws xs → AllWait (world_of g k' s'.objects m') s' l first v ws xs
  unfolding body_by entered_by waiting_by
  waits_by v [] [] le h = h
  waits_by v [] (x ∷ []) le h = (body_by v.code v.stacked first v.bound v.frame v.values le h.0, h.1)
  waits_by v [] (x ∷ y ∷ xs) le h = h
  waits_by v (Entered n b ∷ ws) xs le h =
      let e = h.0 in
      let some = e.own e.block.of_lock.some e.block.of_lock.some_home in
      let above = some.0 in let below = some.1 in (
        entered_by v.code v.bound n b v.frame v.values le e,
        waits_by (record v { stacked = b.stacked; frame = b.frame; bound = e.mark }) ws xs (omega arith) h.1,
      )
  waits_by v (Waits a ∷ ws) [] le h = h
  waits_by v (Waits a ∷ ws) (x ∷ xs) le h =
      let b = h.0 in
      let e = h.1 in
      let within = b.within in
      let low : b.mark ≤ number = omega arith in (
        body_by v.code v.stacked a.caller.stacked v.bound v.frame v.values le b,
        waiting_by v.code b.mark a x xs low e,
        waits_by (record {
          code = e.code;
          values = x.values;
          stacked = a.caller.stacked;
          frame = a.caller.frame;
          bound = b.mark;
        }) ws xs low h.2,
      )

  -- what waits behind a function that runs goes on waiting
  pub caller_by : (callee : CodeFunction) (outer mark : ℕ) (ws : List Frame) (xs : List flat.Frame) → mark ≤ number
      → CallerWaits (world_of g k s.objects m) s l first callee outer mark ws xs
      → CallerWaits (world_of g k' s'.objects m') s' l first callee outer mark ws xs
  unfolding waiting_by
  caller_by callee outer mark [] [] le h = h
  caller_by callee outer mark [] (x ∷ []) le h = h
  caller_by callee outer mark [] (x ∷ y ∷ xs) le h = h
  caller_by callee outer mark (Entered n b ∷ ws) xs le h = h
  caller_by callee outer mark (Waits a ∷ ws) [] le h = h
  caller_by callee outer mark (Waits a ∷ ws) (x ∷ xs) le h = (
    h.0,
    waiting_by callee mark a x xs le h.1,
    waits_by (record {
      code = h.1.code;
      values = x.values;
      stacked = a.caller.stacked;
      frame = a.caller.frame;
      bound = mark;
    }) ws xs le h.2,
  )

-- what waits knows nothing of a state but its objects
pub lock_same : (k : Keys) (s s' : State) → s'.objects ≡ s.objects → (homes : List Home) (lock : ℕ)
    → AreOfLock k s homes lock → AreOfLock k s' homes lock
lock_same k s s' e homes lock of = record {
  some = of.some;
  some_live = ap (λ o. (object_at o of.some).is_live) e ∙ of.some_live;
  some_home = of.some_home;
  under = λ n h. (let u = of.under n h in let count = ap length e in (
    omega (arith, u.0, count),
    ap (λ o. (object_at o n).storage) e ∙ u.1,
    u.2,
  ));
  home = λ n live is. of.home n (ap (λ o. (object_at o n).is_live) (sym e) ∙ live) is;
}

pub waits_same : (g : Views) (k : Keys) (s s' : State) (m : Bytes) (l : Layout) (first : ℕ) → s'.objects ≡ s.objects
    → (v : Level) (ws : List Frame) (xs : List flat.Frame) → AllWait (world_of g k s.objects m) s l first v ws xs
    → AllWait (world_of g k s.objects m) s' l first v ws xs
waits_same g k s s' m l first e v ws xs h =
    subst (λ o. AllWait (world_of g k o m) s' l first v ws xs) e
    (waits_by g k k s s' m m l first v.bound
    (subst (λ o. GoesOn g k k s.objects o m m) (sym e) (same_world g k s.objects m))
    (λ o lt live held. ap (λ z. (object_at z o).is_live) e ∙ live)
    (λ homes lock below of. lock_same k s s' e homes lock of) v ws xs (omega arith) h)

-- ---- an action is done

allocated_is : (o : Storage) → is_allocated o ≡ true → o ≡ Allocated
allocated_is Static e = cc
allocated_is Automatic e = cc
allocated_is Allocated e = refl

module _ (g : Views) (k k' : Keys) (s s' : State) (m m' : Bytes) (l : Layout) (first : ℕ)
    (st : StandsFor g k s.objects m) (st' : StandsFor g k' s'.objects m')
    (on : GoesOn g k k' s.objects s'.objects m m') (lives : LivesOn s.objects s'.objects)
    (ends : EndsMade s.objects s'.objects) where
  lock_on : (homes : List Home) (lock : ℕ) → AreOfLock k s homes lock → AreOfLock k' s' homes lock
  lock_on homes lock of =
      let u = of.under of.some of.some_home in
      still_of_lock g k k' s s' homes lock m m' st st'
      (record {
        held = on.held;
        continues = on.continues;
        later = λ n le live. inl (allocated_is (object_at s'.objects n).storage (ends n le live));
      })
      of.some of.some_home (lives.live of.some u.0 (ap is_allocated u.1) of.some_live) of

  pub waits_on : (v : Level) (ws : List Frame) (xs : List flat.Frame)
      → AllWait (world_of g k s.objects m) s l first v ws xs → AllWait (world_of g k' s'.objects m') s' l first v ws xs
  waits_on v ws xs h =
      waits_by g k k' s s' m m' l first v.bound on
      (λ o lt live held. lives.live o (live_made s.objects o live) held live)
      (λ homes lock below of. lock_on homes lock of) v ws xs (omega arith) h

-- ---- a block is left

module _ (g : Views) (k : Keys) (s : State) (b : Block) (l : Layout) (first bound mark : ℕ)
    (own : AreBetween mark bound b.homes) (m m' : Bytes) (st : StandsFor g k s.objects m)
    (st' : StandsFor g k (leave_block b s).objects m')
    (on : GoesOn g k k s.objects (leave_block b s).objects m m') where
  same : (o : ℕ) → o < mark → object_at (leave_block b s).objects o ≡ object_at s.objects o
  same o lt = without_other b.homes o s.objects (λ q. (let z = own o q in let above = z.0 in absurd (omega arith)))

  lock_stays : (homes : List Home) (lock : ℕ) → ((o : ℕ) → IsHomeOf o homes → o < mark) → AreOfLock k s homes lock
      → AreOfLock k (leave_block b s) homes lock
  lock_stays homes lock below of =
      still_of_lock g k k s (leave_block b s) homes lock m m' st st'
      (record {
        held = keeps_same s.objects k;
        continues = on.continues;
        later = λ n le live. absurd (none n le live);
      })
      of.some of.some_home
      (ap (λ (z : ObjectState). z.is_live) (same of.some (below of.some of.some_home)) ∙ of.some_live) of
    where
      none : (n : ℕ) → length s.objects ≤ n → (object_at (leave_block b s).objects n).is_live ≡ true → ⊥
      none n le live =
          let made = live_made (leave_block b s).objects n live in
          let count = count_without b.homes s.objects in
          absurd (omega arith)

  pub waits_left : (v : Level) (ws : List Frame) (xs : List flat.Frame) → v.bound ≤ mark
      → AllWait (world_of g k s.objects m) s l first v ws xs
      → AllWait (world_of g k (leave_block b s).objects m') (leave_block b s) l first v ws xs
  waits_left v ws xs le h =
      waits_by g k k s (leave_block b s) m m' l first mark on
      (λ o lt live held. ap (λ (z : ObjectState). z.is_live) (same o lt) ∙ live) lock_stays v ws xs le h

-- ---- registers change that are none of homes

module _ (w : World) (s : State) (l : Layout) (first : ℕ) (c : CodeFunction) (values after : flat.Values)
    (same : (r : ℕ) → variables_end c ≤ r → r < homes_end c → after r ≡ values r) where
  block_at : (entered : List Variable) (outer : ℕ) (homes : List Home)
      → IsBlockAt w s c entered outer homes values → IsBlockAt w s c entered outer homes after
  block_at entered outer homes h = record {
    of_lock = subst (AreOfLock w.keys s homes)
        (sym (same (lock_register c entered) h.lock_is.first h.lock_is.last)) h.of_lock;
    placed = h.placed;
    lock_is = h.lock_is;
    top_is = same (top_register c entered) h.top_is_one.first h.top_is_one.last ∙ h.top_is;
    top_is_one = h.top_is_one;
  }

  body_at : (stacked outer bound : ℕ) (homes : List Home) → IsBodyAs w s c stacked outer bound homes values
      → IsBodyAs w s c stacked outer bound homes after
  body_at stacked outer bound homes h = record {
    by = by (has_objects (objects_of_body c)) h.by;
    mark = h.mark;
    within = h.within;
    own = h.own;
  }
    where
      by : (b : Bool) → BodyBy w s c stacked outer homes values b → BodyBy w s c stacked outer homes after b
      by true e = block_at (objects_of_body c) outer homes e
      by false e = e

  entered_at : (bound n : ℕ) (b : Block) (frame : List Home) → IsEnteredAs w s c bound n b frame values
      → IsEnteredAs w s c bound n b frame after
  entered_at bound n b frame h = record {
    some = h.some;
    block = block_at (objects_in (Some c) n) b.stacked b.homes h.block;
    mark = h.mark;
    own = h.own;
    below = h.below;
    over = h.over;
    homes = homes_on w.views w.keys w.keys w.objects w.objects w.memory w.memory
        (same_world w.views w.keys w.objects w.memory) c b.frame values after (λ x o home live held. live)
        (λ r from lt. same r from (omega arith)) h.homes;
  }

  pub waits_at : (stacked bound : ℕ) (frame : List Home) (ws : List Frame) (xs : List flat.Frame)
      → AllWait w s l first (record { code = c; values = values; stacked = stacked; frame = frame; bound = bound }) ws xs
      → AllWait w s l first (record { code = c; values = after; stacked = stacked; frame = frame; bound = bound }) ws xs
  unfolding body_at entered_at
  waits_at stacked bound frame [] [] h = h
  waits_at stacked bound frame [] (x ∷ []) h = (body_at stacked first bound frame h.0, h.1)
  waits_at stacked bound frame [] (x ∷ y ∷ xs) h = h
  waits_at stacked bound frame (Entered n b ∷ ws) xs h =
      (entered_at bound n b frame h.0, waits_at b.stacked h.0.mark b.frame ws xs h.1)
  waits_at stacked bound frame (Waits a ∷ ws) [] h = h
  waits_at stacked bound frame (Waits a ∷ ws) (x ∷ xs) h =
      (body_at stacked a.caller.stacked bound frame h.0, h.1, h.2)
