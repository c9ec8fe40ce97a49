-- The code of initializers, loops, switches and blocks does what they mean, where that of their parts does.
use Rattle.std.proofs.Common.{◌≡◌, ℕ, zero, suc, ◌+◌, ◌<◌, ◌≤◌, List, [], ◌∷◌, Option, Some, None, Bool, true, false}
use Rattle.std.proofs.Common.{refl, sym, ap, ◌∙◌, subst, arith, eq-eqb, ne_eqb}
use Rattle.std.proofs.lemmas.Bool.{eqb-true, eqb-false}
use Rattle.std.specs.Prelude.{not, cond, if◌then◌else◌, ◌==◌, ◌++◌, get_or, slice_get, map}
use Rattle.c_tree.specs.declared.program.Variable.{Variable}
use Rattle.c_tree.specs.declared.expression.Kind.{Kind}
use Rattle.c_tree.specs.declared.statement.CaseLabel.{CaseLabel}
use Rattle.c_tree.specs.declared.statement.CaseLabel.TheVariants.{Case, Default}
use Rattle.c_tree.specs.Kinds.{size_of_kind}
use Rattle.c_tree.specs.Blocks.{no_variable, closed, block_objects, opened, is_among}
use Rattle.c_tree.specs.Valid.{Scope}
use Rattle.source_meaning.specs.State.{State, Rvalue, Home, NoObject, Outcome, Gives, Run, ◌>>=◌, ◌>>◌, choose, done}
use Rattle.source_meaning.specs.State.{change}
use Rattle.source_meaning.specs.State.{Setting}
use Rattle.source_meaning.specs.Actions.{is_zero, home_value, home_pointer}
use Rattle.source_meaning.specs.Statements.{Completion, Normal, Broken, Continued, Returned, next_after, after_body}
use Rattle.source_meaning.specs.Statements.{turns, turns_before, LabeledRun, is_case_of, is_default, labels_from}
use Rattle.source_meaning.specs.Statements.{items_at, compared, or_default, run_items, after_switch}
use Rattle.source_meaning.specs.Blocks.{Block, has_objects, enter_block, leave_block}
use Rattle.addr_map.specs.Places.{MapSizes, AreMapped}
use Rattle.source_meaning.specs.Keeping.{LivesOn}
use Rattle.source_meaning.specs.Good.{Context, object_kind, HasHome, IsGood, Sure, Any, CompletionIs, context_of}
use Rattle.source_meaning.specs.Good.{EntersBy}
use Rattle.source_meaning.specs.Acting.{at_work}
use Rattle.source_meaning.specs.Working.{CountsBy, HaveBytes}
use Rattle.source_meaning.proofs.ActionsAct.{acts_enter_block}
use Rattle.source_meaning.proofs.SureBlocks.{enters, good_inside}
use Rattle.tac_ir.specs.declared.instruction.Instruction.{Instruction}
use Rattle.source_meaning.proofs.Working.{counts_enter_block}
use Rattle.tac_ir.specs.declared.instruction.Instruction.TheVariants as tac
use Rattle.tac_ir.specs.declared.function.Tac.{Tac}
use Rattle.tac_ir.specs.Stage.{Temps, Frame, Entered, Stage, Stands, came}
use Rattle.tac_ir.specs.Meaning.{if_there, variables_in, blocks_in, objects_in, function_in, at_node, begun, act}
use Rattle.tac_ir.specs.Meaning.{act_at, fits}
use Rattle.tac_ir.specs.Fitting.{have_no_homes}
use Rattle.tac_ir.specs.Accesses.{only_if}
use Rattle.tac_ir.specs.Costs.{handing, heavier}
use Rattle.c_lower.specs.Placed.{HasAt}
use Rattle.c_lower.specs.Statements.{Exits, HasNumber, LowersEntry, LowersLeaving, in_loop, in_switch}
use Rattle.c_lower.specs.Statements.{LowersLabels, any_default}
use Rattle.c_lower.proofs.Comes.{GoesLeaving, Goes, goes_from, goes_spare, goes_framed, goes_steps, goes_step}
use Rattle.c_lower.proofs.Comes.{goes_done}
use Rattle.c_lower.proofs.Comes.{goes_at, goes_leaving, goes_after, goes_sure, goes_heavier, goes_turn, goes_pause}
use Rattle.c_lower.proofs.KeyNames.{both_true}
use Rattle.c_lower.proofs.KeyStays.{pointer_kept}
use Rattle.c_lower.proofs.Counting.{Turning}
use Rattle.c_lower.proofs.Opening.{AreUnnamed, Homed, HomedBy, block_homeless, block_homed, inside_homed}
use Rattle.c_lower.proofs.Temporaries.{placed}

abbrev pub exit_of : Exits → Completion → ℕ
exit_of x Normal = x.next
exit_of x Broken = x.breaks
exit_of x Continued = x.continues
exit_of x (Returned v) = x.returns

-- a value that is returned stands in temporary 0
abbrev pub LeftBy : Completion → Temps → State → Type 0
LeftBy Normal temps s = Unit {0}
LeftBy Broken temps s = Unit {0}
LeftBy Continued temps s = Unit {0}
LeftBy (Returned v) temps s = temps 0 ≡ v

-- what a completion leaves for what follows: of a value that is returned also what pays for handing it on
abbrev pub with_result : ℕ → Completion → ℕ
with_result n Normal = n
with_result n Broken = n
with_result n Continued = n
with_result n (Returned v) = n + handing v

less_with_result : (n m : ℕ) → n ≤ m → (f : Completion) → with_result n f ≤ with_result m f
less_with_result n m le Normal = le
less_with_result n m le Broken = le
less_with_result n m le Continued = le
less_with_result n m le (Returned v) = omega (arith, le)

least_with_result : (n : ℕ) (f : Completion) → n ≤ with_result n f
least_with_result n Normal = omega arith
least_with_result n Broken = omega arith
least_with_result n Continued = omega arith
least_with_result n (Returned v) = omega arith

more_with_result : (n y : ℕ) (f : Completion) → with_result (n + y) f ≤ with_result n f + y
more_with_result n y Normal = omega arith
more_with_result n y Broken = omega arith
more_with_result n y Continued = omega arith
more_with_result n y (Returned v) = omega arith

-- the code of a statement comes to what it means: it may spend c units, and leaves b and what its result needs
abbrev pub Completes : Setting → Tac → (limit c b u : ℕ) → List Frame → Exits → Stage → ℕ → State → Outcome Completion
    → Type 0
Completes g t limit c b u frames x stage k s o =
    GoesLeaving g t limit c (with_result b) u frames (exit_of x) LeftBy stage k s o

abbrev pub Anyhow : {A : Type 0} → A → Temps → State → Type 0
Anyhow v temps s = Unit {0}

eqb_sym : (x y : ℕ) → (x == y) ≡ (y == x)
eqb_sym x y = by (x == y) refl
  where
    by : (b : Bool) → (x == y) ≡ b → (x == y) ≡ (y == x)
    by true e = e ∙ sym (eq-eqb y x (sym (eqb-true x y e)))
    by false e = e ∙ sym (ne_eqb y x (λ same. eqb-false x y e (sym same)))

-- the pointer to the object of a variable stays
pub home_kept : (x : ℕ) (kind : Kind) (s s1 : State) → HasHome s.frame s.objects x kind → s1.frame ≡ s.frame
    → LivesOn s.objects s1.objects → home_pointer x s1 ≡ home_pointer x s
home_kept x kind s s1 h frame lives =
    ap (λ f. home_value (get_or f x NoObject) s1.objects) frame
    ∙ ap (λ home. home_value home s1.objects) h.home
    ∙ pointer_kept s.objects s1.objects lives.continues h.object h.held.made
    ∙ ap (λ home. home_value home s.objects) (sym h.home)

-- the objects among some variables have bytes

sized_at : (b : Bool) (d v : Variable) (kind : Kind)
    → ((if d.is_object then Some d.kind else None) ≡ Some kind → 1 ≤ size_of_kind kind)
    → ((if v.is_object then Some v.kind else None) ≡ Some kind → 1 ≤ size_of_kind kind)
    → (if (if b then d else v).is_object then Some (if b then d else v).kind else None) ≡ Some kind
    → 1 ≤ size_of_kind kind
sized_at true d v kind h h' e = h e
sized_at false d v kind h h' e = h' e

pub sized_opened : (numbers : List ℕ) (first : ℕ) (all vs : List Variable) → HaveBytes all → HaveBytes vs
    → HaveBytes (opened numbers first all vs)
sized_opened numbers first [] vs h h' x kind e = cc
sized_opened numbers first (d ∷ ds) [] h h' x kind e = cc
sized_opened numbers first (d ∷ ds) (v ∷ vs) h h' zero kind e = sized_at (is_among numbers first) d v kind (h zero kind)
    (h' zero kind) e
sized_opened numbers first (d ∷ ds) (v ∷ vs) h h' (suc x) kind e = sized_opened numbers (suc first) ds vs
    (λ y. h (suc y)) (λ y. h' (suc y)) x kind e

-- the objects that can be named are as they are declared
abbrev pub AreNamed : (all vs : List Variable) → Type 0
AreNamed all vs = (x : ℕ) (kind : Kind) → object_kind vs x ≡ Some kind → object_kind all x ≡ Some kind

named_at : (b : Bool) (d v : Variable) (kind : Kind)
    → ((if v.is_object then Some v.kind else None) ≡ Some kind
    → (if d.is_object then Some d.kind else None) ≡ Some kind)
    → (if (if b then d else v).is_object then Some (if b then d else v).kind else None) ≡ Some kind
    → (if d.is_object then Some d.kind else None) ≡ Some kind
named_at true d v kind h e = e
named_at false d v kind h e = h e

pub named_opened : (numbers : List ℕ) (first : ℕ) (all vs : List Variable) → AreNamed all vs
    → AreNamed all (opened numbers first all vs)
named_opened numbers first [] vs h x kind e = cc
named_opened numbers first (d ∷ ds) [] h x kind e = cc
named_opened numbers first (d ∷ ds) (v ∷ vs) h zero kind e = named_at (is_among numbers first) d v kind (h zero kind) e
named_opened numbers first (d ∷ ds) (v ∷ vs) h (suc x) kind e =
    named_opened numbers (suc first) ds vs (λ y. h (suc y)) x kind e

none_closed : (v : Variable) (kind : Kind) → (if (closed v).is_object then Some (closed v).kind else None) ≡ Some kind
    → ⊥
none_closed v kind e = by v.is_object refl e
  where
    by : (b : Bool) → v.is_object ≡ b
        → (if (if b then no_variable else v).is_object then Some (if b then no_variable else v).kind else None)
        ≡ Some kind → ⊥
    by true is e = cc
    by false is e = let none = sym (ap (λ b. if b then Some v.kind else None) is) ∙ e in cc

pub named_closed : (vs : List Variable) → AreNamed vs (map closed vs)
named_closed [] x kind e = cc
named_closed (v ∷ vs) zero kind e = absurd (none_closed v kind e)
named_closed (v ∷ vs) (suc x) kind e = named_closed vs x kind e

pub named_append : (ps vs ws : List Variable) → AreNamed vs ws → AreNamed (ps ++ vs) (ps ++ ws)
named_append [] vs ws h x kind e = h x kind e
named_append (p ∷ ps) vs ws h zero kind e = e
named_append (p ∷ ps) vs ws h (suc x) kind e = named_append ps vs ws h x kind e

pub sized_closed : (vs : List Variable) → HaveBytes (map closed vs)
sized_closed [] x kind e = cc
sized_closed (v ∷ vs) zero kind e = absurd (none_closed v kind e)
sized_closed (v ∷ vs) (suc x) kind e = sized_closed vs x kind e

module _ {g : Setting} {t : Tac} {limit u : ℕ} {frames : List Frame} {x : Exits} {stage : Stage} {k : ℕ} {s : State}
    {o : Outcome Completion} where
  pub completes_less : {c b : ℕ} (b' : ℕ) → b' ≤ b → Completes g t limit c b u frames x stage k s o
      → Completes g t limit c b' u frames x stage k s o
  completes_less {b = b} b' le h = goes_leaving (with_result b') (less_with_result b' b le) h

  -- more to spend, and more left
  pub completes_frame : (y c b : ℕ) → Completes g t limit c b u frames x stage k s o
      → Completes g t limit (c + y) (b + y) u frames x stage k s o
  completes_frame y c b h =
      goes_leaving (with_result (b + y)) (more_with_result b y) (goes_framed y c (with_result b) h)

module _ {g : Setting} {t : Tac} {limit u : ℕ} {frames : List Frame} where
  pub next_goes : {c b : ℕ} (f : Completion) (mid : ℕ) (x : Exits) (temps : Temps) (k : ℕ) (s : State)
      (rest : Run Completion) → with_result b f ≤ c → LeftBy f temps s
      → Completes g t limit c b u frames x (Stands u mid temps frames (at_work k s)) k s (rest s)
      → Completes g t limit c b u frames x
      (Stands u (exit_of (record x { next = mid }) f) temps frames (at_work k s)) k s (next_after f rest s)
  next_goes Normal mid x temps k s rest le p h = h
  next_goes Broken mid x temps k s rest le p h = goes_done le refl refl p
  next_goes Continued mid x temps k s rest le p h = goes_done le refl refl p
  next_goes (Returned v) mid x temps k s rest le p h = goes_done le refl refl p

  after_goes : {c b : ℕ} (f : Completion) (step : ℕ) (x : Exits) (temps : Temps) (k : ℕ) (s : State)
      (again : Run Completion) → with_result b f ≤ c → LeftBy f temps s
      → Completes g t limit c b u frames x (Stands u step temps frames (at_work k s)) k s (again s)
      → Completes g t limit c b u frames x
      (Stands u (exit_of (in_loop x step) f) temps frames (at_work k s)) k s (after_body f again s)
  after_goes Normal step x temps k s again le p h = h
  after_goes Broken step x temps k s again le p h = goes_done le refl refl p
  after_goes Continued step x temps k s again le p h = h
  after_goes (Returned v) step x temps k s again le p h = goes_done le refl refl p

  pub test_goes : (q : Bool) (n x y : ℕ) (temps : Temps) (k : ℕ) (s : State) → at_node t u n ≡ Some (tac.Branch 0 x y)
      → is_zero (temps 0).value ≡ q → Goes g t limit 2 0 u frames (λ b. cond b x y) Anyhow
      (Stands u n temps frames (at_work k s)) k s (Gives (not q) s)
  test_goes true n x y temps k s h e = goes_step 1 h refl refl
      (ap (λ q. Stands u (cond q y x) temps frames (at_work (k + 1) s)) e)
      (goes_done {a = false} (omega arith) refl refl tt)
  test_goes false n x y temps k s h e = goes_step 1 h refl refl
      (ap (λ q. Stands u (cond q y x) temps frames (at_work (k + 1) s)) e)
      (goes_done {a = true} (omega arith) refl refl tt)

  -- a switch is left as its block is, but for `break`
  pub switch_left : (f : Completion) (x : Exits) (temps : Temps) (k : ℕ) (s : State) → LeftBy f temps s
      → Completes g t limit (with_result 16 f) 8 u frames x
      (Stands u (exit_of (in_switch x) f) temps frames (at_work k s)) k s (Gives (after_switch f) s)
  switch_left Normal x temps k s p = goes_done (omega arith) refl refl tt
  switch_left Broken x temps k s p = goes_done (omega arith) refl refl tt
  switch_left Continued x temps k s p = goes_done (omega arith) refl refl tt
  switch_left (Returned v) x temps k s p = goes_done (omega arith) refl refl p

  -- what is known where the first of two runs is chosen
  choose_when : {c b : ℕ} (q : Bool) (ka kb : ℕ) (x : Exits) (temps : Temps) (k : ℕ) (s : State)
      (r r' : Run Completion)
      → (q ≡ true → Completes g t limit c b u frames x (Stands u ka temps frames (at_work k s)) k s (r s))
      → Completes g t limit c b u frames x (Stands u kb temps frames (at_work k s)) k s (r' s)
      → Completes g t limit c b u frames x (Stands u (cond q ka kb) temps frames (at_work k s)) k s
      (choose q r r' s)
  choose_when true ka kb x temps k s r r' h h' = h refl
  choose_when false ka kb x temps k s r r' h h' = h'

  pub choose_goes : {c b : ℕ} (q : Bool) (ka kb : ℕ) (x : Exits) (temps : Temps) (k : ℕ) (s : State)
      (r r' : Run Completion) → Completes g t limit c b u frames x (Stands u ka temps frames (at_work k s))
      k s (r s) → Completes g t limit c b u frames x (Stands u kb temps frames (at_work k s)) k s (r' s)
      → Completes g t limit c b u frames x (Stands u (cond q ka kb) temps frames (at_work k s)) k s
      (choose q r r' s)
  choose_goes q ka kb x temps k s r r' h h' = choose_when q ka kb x temps k s r r' (λ _. h) h'

  -- the tests of an item's labels: one for each comparison of the source
  pub labels_go : (ls : List CaseLabel) (item other c0 c1 : ℕ) (x : Exits) (i : LabeledRun) (rest : List LabeledRun)
      (others : Option (List LabeledRun)) (more : List CaseLabel) (all : List LabeledRun) (v : Rvalue)
      (literals : List Bool) (vars : List Variable) (temps : Temps) (k : ℕ) (s : State)
      → LowersLabels (placed t u literals vars) ls item other c0 c1 → temps 0 ≡ v
      → ((ls : List CaseLabel) (k : ℕ)
      → Completes g t limit 0 0 u frames x (Stands u item temps frames (at_work k s)) k s
      (run_items (Some (record { labels = ls; run = i.run } ∷ rest)) s))
      → ((k : ℕ) → Completes g t limit (16 + compared v.value.word more) 16 u frames x
      (Stands u c1 temps frames (at_work k s)) k s (run_items (or_default others all) s))
      → Completes g t limit (16 + compared v.value.word (ls ++ more)) 16 u frames x
      (Stands u c0 temps frames (at_work k s)) k s
      (run_items (or_default (items_at (labels_from (is_case_of v.value.word) ls) i rest others) all) s)
  labels_go [] item other c0 c1 x i rest others more all v literals vars temps k s tr ev hit miss = goes_at tr (miss k)
  labels_go (Default ∷ ls) item other c0 c1 x i rest others more all v literals vars temps k s tr ev hit miss =
      labels_go ls item
      other c0 c1 x i rest others more all v literals vars temps k s tr.1 ev hit miss
  labels_go (Case w ∷ ls) item other c0 c1 x i rest others more all v literals vars temps k s tr ev hit miss =
      by (w == v.value.word) refl
      (λ k. labels_go ls item other tr.0 c1 x i rest others more all v literals vars temps k s tr.2 ev hit miss)
    where
      does : (b : Bool) → (w == v.value.word) ≡ b
          → act g t (tac.Case 0 w item tr.0) u temps frames (at_work (k + 1) s)
          ≡ Stands u (cond b item tr.0) temps frames (at_work (k + 1) s)
      does b e = ap (λ (z : Rvalue). Stands u (cond (z.value.word == w) item tr.0) temps frames (at_work (k + 1) s)) ev
          ∙ ap (λ q. Stands u (cond q item tr.0) temps frames (at_work (k + 1) s)) (eqb_sym v.value.word w ∙ e)

      by : (b : Bool) → (w == v.value.word) ≡ b
          → ((k : ℕ) → Completes g t limit (16 + compared v.value.word (ls ++ more)) 16 u frames x
          (Stands u tr.0 temps frames (at_work k s)) k s
          (run_items (or_default (items_at (labels_from (is_case_of v.value.word) ls) i rest others) all) s))
          → Completes g t limit
          (16 + elim (w == v.value.word) [ true ↦ 1 | false ↦ 1 + compared v.value.word (ls ++ more) ]) 16 u frames x
          (Stands u c0 temps frames (at_work k s)) k s
          (run_items (or_default
          (items_at (elim (w == v.value.word)
          [ true ↦ Some (Case w ∷ ls) | false ↦ labels_from (is_case_of v.value.word) ls ]) i rest others) all) s)
      by true e h =
          subst (λ (b : Bool). Completes g t limit
          (16 + elim b [ true ↦ 1 | false ↦ 1 + compared v.value.word (ls ++ more) ]) 16 u frames x
          (Stands u c0 temps frames (at_work k s)) k s
          (run_items (or_default
          (items_at (elim b [ true ↦ Some (Case w ∷ ls) | false ↦ labels_from (is_case_of v.value.word) ls ]) i rest
          others) all) s)) (sym e)
          (goes_step 16 tr.1 refl refl (does true e) (completes_frame 16 0 0 (hit (Case w ∷ ls) (k + 1))))
      by false e h =
          subst (λ (b : Bool). Completes g t limit
          (16 + elim b [ true ↦ 1 | false ↦ 1 + compared v.value.word (ls ++ more) ]) 16 u frames x
          (Stands u c0 temps frames (at_work k s)) k s
          (run_items (or_default
          (items_at (elim b [ true ↦ Some (Case w ∷ ls) | false ↦ labels_from (is_case_of v.value.word) ls ]) i rest
          others) all) s)) (sym e)
          (goes_spare (1 + (16 + compared v.value.word (ls ++ more))) (omega arith)
          (goes_step (16 + compared v.value.word (ls ++ more)) tr.1 refl refl (does false e) (h (k + 1))))

  -- where no case label is equal: the default label, or behind the switch
  pub default_goes : (ls : List CaseLabel) (item other c0 c1 : ℕ) (x : Exits) (i : LabeledRun) (rest : List LabeledRun)
      (others : Option (List LabeledRun)) (literals : List Bool) (vars : List Variable) (temps : Temps) (k : ℕ)
      (s : State)
      → LowersLabels (placed t u literals vars) ls item other c0 c1
      → ((ls : List CaseLabel) (k : ℕ)
      → Completes g t limit 0 0 u frames x (Stands u item temps frames (at_work k s)) k s
      (run_items (Some (record { labels = ls; run = i.run } ∷ rest)) s))
      → (any_default ls ≡ false → Completes g t limit 0 0 u frames x
      (Stands u other temps frames (at_work k s)) k s (run_items others s))
      → Completes g t limit 0 0 u frames x (Stands u other temps frames (at_work k s)) k s
      (run_items (items_at (labels_from is_default ls) i rest others) s)
  default_goes [] item other c0 c1 x i rest others literals vars temps k s tr hit miss = miss refl
  default_goes (Default ∷ ls) item other c0 c1 x i rest others literals vars temps k s tr hit miss = goes_at (sym tr.0)
      (hit (Default ∷ ls) k)
  default_goes (Case w ∷ ls) item other c0 c1 x i rest others literals vars temps k s tr hit miss = default_goes ls
      item other
      tr.0 c1 x i rest others literals vars temps k s tr.2 hit miss

module _ (g : Setting) (t : Tac) (limit n u : ℕ) (frames : List Frame) (sc : Context) (functions : ℕ)
    (result : Kind) where
  -- A loop: its condition leads to the turn or out, its body to what comes between turns. I holds where the condition
  -- is tested, and J where a turn begins.
  pub turns_run : (h turn b c : ℕ) (counted : Option ℕ) (homes : List Home) (x : Exits) (condition : Run Bool)
      (body : Run Completion)
      (between : Run (Unit {0})) (I J : State → Type 0) → Turning sc I J condition body between
      → Sure sc Any condition (λ _. Any) → Sure sc Any body (CompletionIs functions result)
      → Sure sc Any between (λ _. Any)
      → ((temps : Temps) (k : ℕ) (s : State) → IsGood sc s → limit < n + s.turns
      → Goes g t limit 0 0 u frames (λ q. cond q turn x.next) Anyhow (Stands u h temps frames (at_work k s)) k s
      (condition s))
      → ((temps : Temps) (k : ℕ) (s : State) → IsGood sc s → limit < n + s.turns
      → Goes g t limit 0 0 u frames (λ v. h) Anyhow (Stands u c temps frames (at_work k s)) k s (between s))
      → ((temps : Temps) (k : ℕ) (s : State) → IsGood sc s → s.frame ≡ homes → limit < n + s.turns
      → Completes g t limit 0 2 u frames (in_loop x c) (Stands u b temps frames (at_work k s)) k s
      (body s))
      → at_node t u turn ≡ Some (tac.Turn counted b)
      → ((s : State) → J s → (temps : Temps) (k : ℕ) → fits g t (tac.Turn counted b) u temps (at_work k s) ≡ true)
      → (m : ℕ) → m ≤ suc n → (temps : Temps) (k : ℕ) (s : State)
      → IsGood sc s → I s → s.frame ≡ homes → limit < m + s.turns → limit < n + s.turns
      → Completes g t limit 3 2 u frames x (Stands u h temps frames (at_work k s)) k s
      (turns m limit condition body between s)
  turns_run h turn b c counted homes x condition body between I J turning ws wb we rt rs rb ht fit zero le temps k s
      good
      from same lt ln = goes_pause refl (omega (arith, lt))
  turns_run h turn b c counted homes x condition body between I J turning ws wb we rt rs rb ht fit
      (suc m) le temps k s good
      from same lt ln =
      goes_sure _ (ws.by s good tt) (rt temps k s good ln) (λ q s1 t1 k1 p1 le1 is1 lv1 w1.
      choose_when q turn x.next x t1 k1 s1 _ _
      (λ again.
      let in_turn = turning.begins s s1 good from (is1 ∙ ap (λ q. Gives q s1) again) in
      goes_turn 2 _ ht (fit s1 in_turn t1 (k1 + 1))
      (goes_sure _ (wb.by (begun s1) lv1.good tt) (rb t1 (k1 + 1) (begun s1) lv1.good (lv1.frame ∙ same) (omega
      (arith, le1, ln)))
      (λ f s2 t2 k2 p2 le2 is2 lv2 w2.
      let behind = turning.stays s1 s2 f in_turn is2 in
      after_goes f c x t2 k2 s2 _ (omega arith) p2
      (goes_sure _ (we.by s2 lv2.good tt) (rs t2 k2 s2 lv2.good (omega (arith, le1, le2, ln)))
      (λ z s3 t3 k3 p3 le3 is3 lv3 w3.
      goes_spare 3 (omega (arith, least_with_result 2 f))
      (turns_run h turn b c counted homes x condition body between I J turning ws wb we rt rs rb ht fit m (omega
      (arith, le))
      t3 k3 s3 lv3.good (turning.ends s2 s3 lv2.good behind is3) (lv3.frame ∙ lv2.frame ∙ lv1.frame ∙ same)
      (omega (arith, le1, le2, le3, lt))
      (omega (arith, le1, le2, le3, ln))))))))
      (goes_done (omega arith) refl refl tt))

  -- a loop whose condition comes behind its body
  pub turns_before_run : (turn b c : ℕ) (counted : Option ℕ) (homes : List Home) (x : Exits) (condition : Run Bool)
      (body : Run Completion)
      → Sure sc Any condition (λ _. Any) → Sure sc Any body (CompletionIs functions result)
      → ((temps : Temps) (k : ℕ) (s : State) → IsGood sc s → limit < n + s.turns
      → Goes g t limit 0 0 u frames (λ q. cond q turn x.next) Anyhow (Stands u c temps frames (at_work k s)) k s
      (condition s))
      → ((temps : Temps) (k : ℕ) (s : State) → IsGood sc s → s.frame ≡ homes → limit < n + s.turns
      → Completes g t limit 0 2 u frames (in_loop x c) (Stands u b temps frames (at_work k s)) k s
      (body s))
      → at_node t u turn ≡ Some (tac.Turn counted b)
      → ((temps : Temps) (k : ℕ) (s : State) → fits g t (tac.Turn counted b) u temps (at_work k s) ≡ true) → (m : ℕ)
      → m ≤ suc n → (temps : Temps) (k : ℕ) (s : State)
      → IsGood sc s → s.frame ≡ homes → limit < m + s.turns → limit < n + s.turns
      → Completes g t limit 3 2 u frames x (Stands u turn temps frames (at_work k s)) k s
      (turns_before m limit condition body s)
  turns_before_run turn b c counted homes x condition body ws wb rt rb ht fit zero le temps k s good same lt ln =
      goes_pause refl
      (omega (arith, lt))
  turns_before_run turn b c counted homes x condition body ws wb rt rb ht fit (suc m) le temps k s good same lt ln =
      goes_turn 2 _ ht (fit temps (k + 1) s)
      (goes_sure _ (wb.by (begun s) good tt) (rb temps (k + 1) (begun s) good same (omega (arith, ln)))
      (λ f s2 t2 k2 p2 le2 is2 lv2 w2.
      after_goes f c x t2 k2 s2 _ (omega arith) p2
      (goes_sure _ (ws.by s2 lv2.good tt) (rt t2 k2 s2 lv2.good (omega (arith, le2, ln)))
      (λ q s3 t3 k3 p3 le3 is3 lv3 w3.
      choose_goes q turn x.next x t3 k3 s3 _ _
      (goes_spare 3 (omega (arith, least_with_result 2 f))
      (turns_before_run turn b c counted homes x condition body ws wb rt rb ht fit m (omega
      (arith, le)) t3 k3 s3 lv3.good
      (lv3.frame ∙ lv2.frame ∙ same)
      (omega (arith, le2, le3, lt)) (omega (arith, le2, le3, ln))))
      (goes_done (omega arith) refl refl tt)))))

-- the block of that number is left
block_left : (g : Setting) (t : Tac) (u : ℕ) (frames : List Frame) (n : ℕ) (b : Block) (temps : Temps) (k : ℕ)
    (s : State)
    (o : Option Instruction) (m : ℕ) → o ≡ Some (tac.LeaveBlock n m)
    → act_at g t o u temps (Entered n b ∷ frames) (at_work k s)
    ≡ Stands u m temps frames (leave_block b (at_work (k + 2) s))
block_left g t u frames n b temps k s o m e = ap (λ j. act_at g t j u temps (Entered n b ∷ frames) (at_work k s)) e
    ∙ ap (λ q. only_if q (Stands u m temps frames (leave_block b (at_work (k + 2) s)))) (eq-eqb n n refl)

module _ {g : Setting} {t : Tac} {limit u : ℕ} {frames : List Frame} where
  -- the way out of a block leads over the node that leaves it
  leave_goes : (e : ℕ) (f : Completion) (n : ℕ) (b : Block) (y x : Exits) (literals : List Bool)
      (vars : List Variable) (temps : Temps) (k : ℕ)
      (s : State) → LowersLeaving (placed t u literals vars) (Some n) y x → LeftBy f temps s
      → Completes g t limit (with_result (2 + e) f) e u frames x
      (Stands u (exit_of y f) temps (Entered n b ∷ frames) (at_work k s)) k s (Gives f (leave_block b s))
  leave_goes e Normal n b y x literals vars temps k s tr p =
      goes_from {d = e} {k1 = k + 2} {s1 = s} 1 (block_left g t u frames n b temps k s _ _ tr.0)
      (omega arith) (omega arith) (goes_done (omega arith) refl refl tt)
  leave_goes e Broken n b y x literals vars temps k s tr p =
      goes_from {d = e} {k1 = k + 2} {s1 = s} 1 (block_left g t u frames n b temps k s _ _ tr.1)
      (omega arith) (omega arith) (goes_done (omega arith) refl refl tt)
  leave_goes e Continued n b y x literals vars temps k s tr p =
      goes_from {d = e} {k1 = k + 2} {s1 = s} 1 (block_left g t u frames n b temps k s _ _ tr.2)
      (omega arith) (omega arith) (goes_done (omega arith) refl refl tt)
  leave_goes e (Returned v) n b y x literals vars temps k s tr p =
      goes_from {d = e + handing v} {k1 = k + 2} {s1 = s} 1
      (block_left g t u frames n b temps k s _ _ tr.3)
      (omega arith) (omega arith) (goes_done (omega arith) refl refl p)

module _ (g : Setting) (t : Tac) (limit u : ℕ) (frames : List Frame) (base : Scope) (sizes : MapSizes)
    (at : g.sizes ≡ sizes) (mapped : AreMapped sizes) (literals : List Bool) (all : List Variable)
    (sized : HaveBytes all)
    (same : variables_in (function_in t u) ≡ all) (vs : List Variable) (numbers : List ℕ) where
  abbrev own : List Variable
  own = block_objects all numbers

  objects_are : (b : ℕ) → HasAt (blocks_in (function_in t u)) b numbers → objects_in (function_in t u) b ≡ own
  objects_are b has = ap (λ vars. block_objects vars (if_there (slice_get (blocks_in (function_in t u)) b))) same
      ∙ ap (λ o. block_objects all (if_there o)) has

  -- What runs in a block: entering costs 7, for which at least 8 are left of what placing its objects counts, and
  -- leaving 2 of what the body leaves. A block without objects is nothing.
  scoped_by : (c e : ℕ) (q : Bool) → has_objects own ≡ q
      → (line n0 b0 : ℕ) (y x : Exits) (temps : Temps) (k : ℕ) (s : State) (body : Run Completion) (b : Option ℕ)
      → HasNumber (placed t u literals all) q numbers b
      → LowersEntry (placed t u literals all) b line n0 b0 → LowersLeaving (placed t u literals all) b y x
      → IsGood (context_of base sizes all vs) s → AreUnnamed numbers vs → Homed all vs s.frame
      → ((frames : List Frame) (k1 : ℕ) (s1 : State) → IsGood (context_of base sizes all (opened numbers 0 all vs)) s1
      → Homed all (opened numbers 0 all vs) s1.frame → s1.turns ≡ s.turns → Completes g t limit (7 + c)
      (2 + e) u frames y
      (Stands u b0 temps frames (at_work k1 s1)) k1 s1 (body s1))
      → Completes g t limit (7 + c) e u frames x (Stands u n0 temps frames (at_work k s)) k s
      (choose q (enter_block g own line
      >>= (λ b. body >>= (λ completion. change (leave_block b) >> done completion))) body s)
  scoped_by c e true is line n0 b0 y x temps k s body (Some n) has entry ways good unnamed homed h =
      let bytes = sized_opened numbers 0 all (map closed all) sized (sized_closed all) in
      let counted = (counts_enter_block g own line bytes is).counts s in
      goes_steps 7 c entry refl (both_true (ap has_objects (objects_are n has) ∙ is)
      (ap (λ o. have_no_homes s.frame (if_there o)) has ∙ block_homeless all vs s.frame numbers homed unnamed))
      (ap (λ vars. came (heavier (enter_block g vars line) (at_work (k + 7) s))
      (λ b z. Stands u b0 temps (Entered n b ∷ frames) z)) (objects_are n has))
      (goes_heavier (λ b z. Stands u b0 temps (Entered n b ∷ frames) z) (acts_enter_block g own line) (λ b s1 k1 e1 is1.
      let two = subst (CountsBy 2 s) is1 counted in
      let up = subst (λ o. EntersBy base sizes all vs numbers s o) is1
      (enters base sizes all vs numbers g at mapped line s good) in
      let homes = subst (HomedBy all (opened numbers 0 all vs)) is1
      (block_homed all vs numbers unnamed g line s homed) in
      goes_spare (7 + c) (omega (arith, two))
      (goes_after (h (Entered n b ∷ frames) k1 s1 up.good homes e1)
      (λ f s2 t2 k2 p2 le2 is2. leave_goes e f n b y x literals all t2 k2 s2 ways p2))))
  scoped_by c e true is line n0 b0 y x temps k s body None has entry ways good unnamed homed h = absurd has
  scoped_by c e false is line n0 b0 y x temps k s body (Some n) has entry ways good unnamed homed h = absurd has
  scoped_by c e false is line n0 b0 y x temps k s body None has entry ways good unnamed homed h =
      goes_at entry
      (subst (λ z. Completes g t limit (7 + c) e u frames z (Stands u b0 temps frames (at_work k s)) k s (body s)) ways
      (completes_less {b = 2 + e} e (omega arith)
      (h frames k s (good_inside base sizes all vs numbers s is good)
      (inside_homed all vs numbers s.frame homed unnamed) refl)))

  pub scoped_goes : (c e line n0 b0 : ℕ) (y x : Exits) (temps : Temps) (k : ℕ) (s : State) (body : Run Completion)
      (b : Option ℕ) → HasNumber (placed t u literals all) (has_objects own) numbers b
      → LowersEntry (placed t u literals all) b line n0 b0 → LowersLeaving (placed t u literals all) b y x → IsGood
      (context_of base sizes all vs) s
      → AreUnnamed numbers vs → Homed all vs s.frame
      → ((frames : List Frame) (k1 : ℕ) (s1 : State) → IsGood (context_of base sizes all (opened numbers 0 all vs)) s1
      → Homed all (opened numbers 0 all vs) s1.frame → s1.turns ≡ s.turns → Completes g t limit (7 + c)
      (2 + e) u frames y
      (Stands u b0 temps frames (at_work k1 s1)) k1 s1 (body s1))
      → Completes g t limit (7 + c) e u frames x (Stands u n0 temps frames (at_work k s)) k s
      (choose (has_objects own)
      (enter_block g own line >>= (λ b. body >>= (λ completion. change (leave_block b) >> done completion))) body s)
  scoped_goes c e line n0 b0 y x temps k s body b has entry ways good unnamed homed h = scoped_by c e
      (has_objects own) refl line n0
      b0 y x temps k s body b has entry ways good unnamed homed h
