-- Code without some of its checks, each of which would pass, does what it does with them.
use Rattle.std.proofs.Common.{◌≡◌, inl, inr, zero, suc, ℕ, List, [], ◌∷◌, Option, Some, None, true}
use Rattle.std.proofs.Common.{refl, sym, ap, ◌∙◌, subst}
use Rattle.std.specs.Prelude.{slice_get, map}
use Rattle.behaviours.specs.Behaviour.{Behaviour, Meets, Follows}
use Rattle.behaviours.specs.Steps.{run}
use Rattle.behaviours.proofs.Running.{run_last}
use Rattle.sb_base.specs.Budgets.{BudgetSizes}
use Rattle.sb_base.specs.declared.ending.Ending.TheVariants as ending
use Rattle.obj_memory.specs.declared.value.Value.{Value}
use Rattle.source_meaning.specs.State.{State, Setting}
use Rattle.source_meaning.specs.Blocks.{pass_or_stop}
use Rattle.tac_ir.specs.declared.instruction.Test.{Test}
use Rattle.tac_ir.specs.declared.instruction.Test.TheVariants.{Spatial, Temporal}
use Rattle.tac_ir.specs.declared.instruction.Instruction.{Instruction}
use Rattle.tac_ir.specs.declared.instruction.Instruction.TheVariants.{Judge}
use Rattle.tac_ir.specs.declared.key.Key.{Key}
use Rattle.tac_ir.specs.declared.function.CodeFunction.{CodeFunction}
use Rattle.tac_ir.specs.declared.function.Tac.{Tac}
use Rattle.tac_ir.specs.Accesses.{only_if, can_check}
use Rattle.tac_ir.specs.Bodies.{without_added}
use Rattle.tac_ir.specs.Costs.{cost, spent}
use Rattle.tac_ir.specs.Keys.{gives}
use Rattle.tac_ir.specs.Meaning.{code_of, keys_of, variables_in, function_in, keyed_by, keyed, check, header_of_code}
use Rattle.tac_ir.specs.Meaning.{setting_of_code, act, act_at, at_node, step, first_stage, tac_meaning}
use Rattle.tac_ir.specs.SameTables.{SameFunction, SameAt, SameTables}
use Rattle.tac_ir.specs.Stage.{Temps, Frame, Stage, Begins, Stands, Over, Stuck, came, seen}
use Rattle.tac_ir.proofs.Fits.{only_true, act_fits}
use Rattle.tac_ir.proofs.SameTables.{act_same, begins_same, setting_same, first_same}
use Rattle.check_elim.specs.Available.{IsAvailableCheck, IsDroppable}
use Rattle.check_elim.specs.Facts.{Fact}
use Rattle.check_elim.specs.Dropped.{Choice, skipped, DroppedAt, FunctionDropped, AreDropped, Dropped}
use Rattle.check_elim.proofs.Keeping.{passes, passed, passed_as, IsKnown}
use Rattle.check_elim.proofs.Trails.{key_fits, Knows, IsTrailed, step_trailed, at_spent}

abbrev pub IsFine : Stage → Type 0
IsFine x = x ≡ Stuck → ⊥

-- tables

module _ (Goes : Choice) where
  same_function : (c c' : CodeFunction) → FunctionDropped Goes c c' → SameFunction c c'
  same_function c c' h = record {
    header = ap header_of_code h.rest;
    entry = ap (λ (x : CodeFunction). x.entry) h.rest;
    keys = ap (λ (x : CodeFunction). x.keys) h.rest;
    blocks = ap (λ (x : CodeFunction). x.blocks) h.rest;
    loops = ap (λ (x : CodeFunction). map without_added x.loops) h.rest;
  }

  same_at : (fs fs' : List CodeFunction) → AreDropped Goes fs fs' → (u : ℕ) → SameAt (slice_get fs u) (slice_get fs' u)
  same_at [] [] h u = tt
  same_at [] (c' ∷ fs') h u = absurd h
  same_at (c ∷ fs) [] h u = absurd h
  same_at (c ∷ fs) (c' ∷ fs') h zero = same_function c c' h.0
  same_at (c ∷ fs) (c' ∷ fs') h (suc u) = same_at fs fs' h.1 u

  same_headers : (fs fs' : List CodeFunction) → AreDropped Goes fs fs'
      → map header_of_code fs' ≡ map header_of_code fs
  same_headers [] [] h = refl
  same_headers [] (c' ∷ fs') h = absurd h
  same_headers (c ∷ fs) [] h = absurd h
  same_headers (c ∷ fs) (c' ∷ fs') h =
      ap (λ x. x ∷ map header_of_code fs') (same_function c c' h.0).header
      ∙ ap (λ xs. header_of_code c ∷ xs) (same_headers fs fs' h.1)

  pub same_tables : (t r : Tac) → Dropped Goes t r → SameTables t r
  same_tables t r h = record {
    headers = same_headers t.functions r.functions h.functions;
    results = ap (λ (x : Tac). x.results) h.rest;
    main = ap (λ (x : Tac). x.main) h.rest;
    statics = ap (λ (x : Tac). x.statics) h.rest;
    bytes = ap (λ (x : Tac). x.global_bytes) h.rest;
    texts = ap (λ (x : Tac). x.texts) h.rest;
    functions = same_at t.functions r.functions h.functions;
  }

-- a check that passes does nothing

goes_past : (test : Test) (size line : ℕ) (v : Value) (s : State) (F : State → Stage) → passed test size v s ≡ true
    → came (check test size v line s) (λ _ z. F z) ≡ F s
goes_past Spatial size line v s F e = ap (λ b. came (pass_or_stop b (ending.Spatial line) s) (λ _ z. F z)) e
goes_past Temporal size line v s F e = ap (λ b. came (pass_or_stop b (ending.Temporal line) s) (λ _ z. F z)) e

keyed_fine : (keys : List Key) (k : ℕ) (key : Key) (s : State) (v : Value) (x : Stage) → slice_get keys k ≡ Some key
    → IsFine (keyed keys (Some k) s v x) → (gives key s v ≡ true) × (keyed keys (Some k) s v x ≡ x)
keyed_fine keys k key s v x is fine =
    let opened : keyed keys (Some k) s v x ≡ only_if (gives key s v) x = ap (λ o. keyed_by o s v x) is in
    let h = only_true (gives key s v) x (λ e. fine (opened ∙ e)) in
    (h.0, opened ∙ h.1)

pub check_passes : (g : Setting) (t : Tac) (test : Test) (size line k a m u : ℕ) (key : Key) (temps : Temps)
    (frames : List Frame) (s : State) → slice_get (keys_of (function_in t u)) k ≡ Some key
    → passes test key size s ≡ true
    → IsFine (act g t (Judge test size line (Some k) a m) u temps frames s)
    → act g t (Judge test size line (Some k) a m) u temps frames s ≡ Stands u m temps frames s
check_passes g t test size line k a m u key temps frames s is pass fine =
    let v = (temps a).value in
    let F : State → Stage = λ z. Stands u m temps frames z in
    let fit = act_fits g t (Judge test size line (Some k) a m) u temps frames s fine in
    let there = key_fits (variables_in (function_in t u)) t key _ s v is fit.0 in
    let opened = keyed_fine (keys_of (function_in t u)) k key s v
    (only_if (can_check test size v) (came (check test size v line s) (λ _ z. F z))) is
    (λ e. fine (fit.1 ∙ e)) in
    let able = only_true (can_check test size v) (came (check test size v line s) (λ _ z. F z))
    (λ e. fine (fit.1 ∙ opened.1 ∙ e)) in
    fit.1 ∙ opened.1 ∙ able.1
    ∙ goes_past test size line v s F (passed_as test key s v size opened.0 there.0 ∙ pass)

-- runs

same_cost : (i : Instruction) → cost (skipped i) ≡ cost i
same_cost (Judge test size line key a m) = refl
same_cost i = refl

-- a check that is to go passes, and so does nothing
abbrev pub SkipsBy : Setting → Tac → Choice → Stage → Type 0
SkipsBy g t Goes (Begins s) = Unit {0}
SkipsBy g t Goes (Stands u n temps frames s) = (c : CodeFunction) (i : Instruction) → function_in t u ≡ Some c
    → slice_get c.code n ≡ Some i → Goes c n i → IsFine (act g t i u temps frames (spent (cost i) s))
    → act g t (skipped i) u temps frames (spent (cost i) s) ≡ act g t i u temps frames (spent (cost i) s)
SkipsBy g t Goes (Over e s) = Unit {0}
SkipsBy g t Goes Stuck = Unit {0}

function_of : (Goes : Choice) (fs fs' : List CodeFunction) → AreDropped Goes fs fs' → (u : ℕ) (c : CodeFunction)
    → slice_get fs u ≡ Some c → (c' : CodeFunction) × (slice_get fs' u ≡ Some c') × FunctionDropped Goes c c'
function_of Goes [] fs' h u c e = cc
function_of Goes (x ∷ fs) [] h u c e = absurd h
function_of Goes (x ∷ fs) (c' ∷ fs') h zero c e =
    let same : x ≡ c = cc in
    (c', refl, subst (λ z. FunctionDropped Goes z c') same h.0)
function_of Goes (x ∷ fs) (c' ∷ fs') h (suc u) c e = function_of Goes fs fs' h.1 u c e

node_in : (o : Option CodeFunction) (n : ℕ) (i : Instruction) → slice_get (code_of o) n ≡ Some i
    → (c : CodeFunction) × (o ≡ Some c) × (slice_get c.code n ≡ Some i)
node_in None n i e = cc
node_in (Some c) n i e = (c, refl, e)

module _ (g : Setting) (t r : Tac) (Goes : Choice) (drops : Dropped Goes t r) where
  tables : SameTables t r
  tables = same_tables Goes t r drops

  kept_or_gone : (i : Instruction) (u n : ℕ) (temps : Temps) (frames : List Frame) (s : State) (c : CodeFunction)
      (code : List Instruction) → function_in t u ≡ Some c → slice_get c.code n ≡ Some i
      → SkipsBy g t Goes (Stands u n temps frames s) → IsFine (act g t i u temps frames (spent (cost i) s))
      → DroppedAt Goes c code n i
      → act_at g r (slice_get code n) u temps frames s ≡ act g t i u temps frames (spent (cost i) s)
  kept_or_gone i u n temps frames s c code is has skips fine (inl h) =
      ap (λ o. act_at g r o u temps frames s) h.1
      ∙ ap (λ k. act g r (skipped i) u temps frames (spent k s)) (same_cost i)
      ∙ act_same tables g (skipped i) u temps frames (spent (cost i) s)
      ∙ skips c i is has h.0 fine
  kept_or_gone i u n temps frames s c code is has skips fine (inr h) =
      ap (λ o. act_at g r o u temps frames s) h.1 ∙ act_same tables g i u temps frames (spent (cost i) s)

  node_same : (o : Option Instruction) (u n : ℕ) (temps : Temps) (frames : List Frame) (s : State)
      → at_node t u n ≡ o → SkipsBy g t Goes (Stands u n temps frames s) → IsFine (act_at g t o u temps frames s)
      → act_at g r (at_node r u n) u temps frames s ≡ act_at g t o u temps frames s
  node_same None u n temps frames s is skips fine = absurd (fine refl)
  node_same (Some i) u n temps frames s is skips fine =
      let c = node_in (function_in t u) n i is in
      let q = function_of Goes t.functions r.functions drops.functions u c.0 c.1 in
      ap (λ o. act_at g r (slice_get (code_of o) n) u temps frames s) q.1
      ∙ kept_or_gone i u n temps frames s c.0 q.0.code c.1 c.2 skips fine (q.2.code.nodes n i c.2)

  step_same : (x : Stage) → SkipsBy g t Goes x → IsFine (step g t x) → step g r x ≡ step g t x
  step_same (Begins s) skips fine = begins_same tables g s
  step_same (Stands u n temps frames s) skips fine = node_same (at_node t u n) u n temps frames s refl skips fine
  step_same (Over e s) skips fine = refl
  step_same Stuck skips fine = refl

  pub runs_same : (x : Stage) → ((k : ℕ) → IsFine (run (step g t) k x))
      → ((k : ℕ) → SkipsBy g t Goes (run (step g t) k x)) → (k : ℕ) → run (step g r) k x ≡ run (step g t) k x
  runs_same x fine skips zero = refl
  runs_same x fine skips (suc k) =
      run_last (step g r) k x ∙ ap (step g r) (runs_same x fine skips k)
      ∙ step_same (run (step g t) k x) (skips k) (λ e. fine (suc k) (run_last (step g t) k x ∙ e))
      ∙ sym (run_last (step g t) k x)

-- the run of the program without the checks is that with them, and so is what is seen of it
module _ (t r : Tac) (Goes : Choice) (drops : Dropped Goes t r) (budgets : BudgetSizes) (input : List ℕ)
    (fine : (k : ℕ) → IsFine (run (step (setting_of_code t budgets) t) k (first_stage t budgets input)))
    (skips : (k : ℕ) → SkipsBy (setting_of_code t budgets) t Goes
    (run (step (setting_of_code t budgets) t) k (first_stage t budgets input))) where
  pub same_stages : (k : ℕ) → run (step (setting_of_code r budgets) r) k (first_stage r budgets input)
      ≡ run (step (setting_of_code t budgets) t) k (first_stage t budgets input)
  same_stages k =
      ap (λ z. run (step z r) k (first_stage r budgets input)) (setting_same (same_tables Goes t r drops) budgets)
      ∙ ap (λ x. run (step (setting_of_code t budgets) r) k x) (first_same (same_tables Goes t r drops) budgets input)
      ∙ runs_same (setting_of_code t budgets) t r Goes drops (first_stage t budgets input) fine skips k

  pub same_meaning : (n : ℕ) → tac_meaning r budgets input n ≡ tac_meaning t budgets input n
  same_meaning n = ap seen (same_stages n)

  pub never_stuck : (k : ℕ) → IsFine (run (step (setting_of_code r budgets) r) k (first_stage r budgets input))
  never_stuck k e = fine k (sym (same_stages k) ∙ e)

  pub same_follows : (c : ℕ) (a : Behaviour) → Follows c a (tac_meaning t budgets input)
      → Follows c a (tac_meaning r budgets input)
  same_follows c a f = record {
    at = λ n. (let q = f.at n in (q.0, subst (Meets c (a n)) (sym (same_meaning q.0)) q.1));
  }

-- Available checks pass.

module _ (g : Setting) (t : Tac) where
  available_skips : (u n : ℕ) (temps : Temps) (frames : List Frame) (s : State) (k : Knows t u n (λ f. IsKnown f s))
      (c : CodeFunction) (i : Instruction) → function_in t u ≡ Some c → slice_get c.code n ≡ Some i
      → IsAvailableCheck c n i → IsFine (act g t i u temps frames (spent (cost i) s))
      → act g t (skipped i) u temps frames (spent (cost i) s) ≡ act g t i u temps frames (spent (cost i) s)
  available_skips u n temps frames s k c (Judge test size line (Some key) a m) is has h fine =
      let i = Judge test size line (Some key) a m in
      let same : k.function ≡ c = by (sym k.found ∙ is) in
      let there = subst (λ x. IsAvailableCheck x n i) (sym same) h in
      let f : Fact = record { test = test; key = there.0; size = size } in
      sym (check_passes g t test size line key a m u there.0 temps frames (spent (cost i) s)
      (ap (λ o. slice_get (keys_of o) key) k.found ∙ there.1)
      (at_spent g t f (cost i) s (k.known f (there.2 k.path))).passes fine)
    where
      by : Some k.function ≡ Some c → k.function ≡ c
      by e = cc
  available_skips u n temps frames s k c (Judge test size line None a m) is has h fine = absurd h
  available_skips u n temps frames s k c i is has h fine = absurd h

  trailed_skips : (x : Stage) → IsTrailed t x → SkipsBy g t IsAvailableCheck x
  trailed_skips (Begins s) h = tt
  trailed_skips (Stands u n temps frames s) h = available_skips u n temps frames s h.by.0
  trailed_skips (Over e s) h = tt
  trailed_skips Stuck h = tt

  run_trailed : (x : Stage) → IsTrailed t x → (k : ℕ) → IsTrailed t (run (step g t) k x)
  run_trailed x h zero = h
  run_trailed x h (suc k) =
      subst (IsTrailed t) (sym (run_last (step g t) k x)) (step_trailed g t _ (run_trailed x h k))

all_skip : (t : Tac) (budgets : BudgetSizes) (input : List ℕ) (k : ℕ)
    → SkipsBy (setting_of_code t budgets) t IsAvailableCheck
    (run (step (setting_of_code t budgets) t) k (first_stage t budgets input))
all_skip t budgets input k =
    trailed_skips (setting_of_code t budgets) t _
    (run_trailed (setting_of_code t budgets) t (first_stage t budgets input) (record { by = tt }) k)

-- and those of them that are dropped
droppable : (g : Setting) (t : Tac) (x : Stage) → SkipsBy g t IsAvailableCheck x → SkipsBy g t IsDroppable x
droppable g t (Begins s) h = tt
droppable g t (Stands u n temps frames s) h = λ c i is has goes fine. h c i is has goes.1 fine
droppable g t (Over e s) h = tt
droppable g t Stuck h = tt

pub droppable_skip : (t : Tac) (budgets : BudgetSizes) (input : List ℕ) (k : ℕ)
    → SkipsBy (setting_of_code t budgets) t IsDroppable
    (run (step (setting_of_code t budgets) t) k (first_stage t budgets input))
droppable_skip t budgets input k =
    droppable (setting_of_code t budgets) t
    (run (step (setting_of_code t budgets) t) k (first_stage t budgets input)) (all_skip t budgets input k)
