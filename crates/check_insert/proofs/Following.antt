-- Code with checks does what code without them does.
use Rattle.std.proofs.Common.{◌≡◌, ℕ, ◌+◌, ◌-◌, ◌*◌, ◌≤◌, List, Option, Some, None, Bool, true, false, refl}
use Rattle.std.proofs.Common.{sym}
use Rattle.std.proofs.Common.{ap, ◌∙◌, subst, arith}
use Rattle.std.specs.Prelude.{slice_get, ◌&&◌}
use Rattle.behaviours.specs.Behaviour.{Behaviour, Meets, Follows, IsSource}
use Rattle.behaviours.specs.Steps.{run}
use Rattle.behaviours.proofs.Following.{follows_trans}
use Rattle.behaviours.proofs.Running.{follows_by_steps}
use Rattle.sb_base.specs.Budgets.{BudgetSizes}
use Rattle.sb_base.specs.declared.ending.Ending.{Ending}
use Rattle.sb_base.specs.declared.ending.Ending.TheVariants as ending
use Rattle.obj_memory.specs.declared.value.Scalar.{Scalar}
use Rattle.obj_memory.specs.declared.value.Value.{Value}
use Rattle.obj_memory.specs.Objects.{ObjectState, Objects}
use Rattle.obj_memory.specs.Access.{scalar_size}
use Rattle.c_tree.specs.declared.expression.Kind.{Kind}
use Rattle.c_tree.specs.declared.expression.Kind.TheVariants.{Void, Scalar as OfScalar, Structure, Array}
use Rattle.c_tree.specs.declared.expression.Fixity.{Fixity}
use Rattle.source_meaning.specs.State.{State, Rvalue, Ended, Run, on, ◌>>=◌, ◌>>◌, done}
use Rattle.source_meaning.specs.State.{Setting}
use Rattle.source_meaning.specs.Actions.{given, located, read_scalar, write_scalar, move_bytes, updated, update}
use Rattle.source_meaning.specs.Structures.{give, as_rvalue, put_contents, copy_value, write_rvalue}
use Rattle.source_meaning.specs.Structures.{read_part, read_rvalue}
use Rattle.source_meaning.specs.Blocks.{pass_or_stop}
use Rattle.source_meaning.specs.Meaning.{fresh}
use Rattle.source_meaning.specs.Judging.{is_within, is_live_tag, test_life}
use Rattle.source_meaning.specs.Acting.{at_work}
use Rattle.source_meaning.proofs.JudgingTests.{two_tests}
use Rattle.tac_ir.specs.declared.instruction.Mode.TheVariants.{Named, Unchecked, Judged}
use Rattle.tac_ir.specs.declared.instruction.Test.TheVariants.{Spatial, Temporal}
use Rattle.tac_ir.specs.declared.instruction.Instruction.{Instruction}
use Rattle.tac_ir.specs.declared.instruction.Instruction.TheVariants.{Read, Write, Update, Judge}
use Rattle.tac_ir.specs.declared.key.Key.{Key}
use Rattle.tac_ir.specs.declared.function.CodeFunction.{CodeFunction}
use Rattle.tac_ir.specs.declared.function.Tac.{Tac}
use Rattle.tac_ir.specs.Stage.{Temps, Frame, Stage, Begins, Stands, Over, Stuck, came}
use Rattle.tac_ir.specs.Stage.{seen}
use Rattle.tac_ir.specs.Keys.{gives}
use Rattle.tac_ir.specs.Accesses.{only_if, is_there, is_place, admitted, moved_from}
use Rattle.tac_ir.specs.Fitting.{is_written, is_in_place, is_update_of}
use Rattle.tac_ir.specs.Costs.{entries_of, stores_of, updates_of, cost, spent, fourfold, heavier}
use Rattle.tac_ir.specs.Meaning.{code_of, keys_of, function_in, keyed_by, keyed, right_value}
use Rattle.tac_ir.specs.Meaning.{setting_of_code, given_in, fits_key, act, act_at}
use Rattle.tac_ir.specs.Meaning.{check, at_node, step, objects_before, first_stage, tac_meaning}
use Rattle.tac_ir.proofs.Fits.{only_true, only_opens}
use Rattle.tac_ir.proofs.KeyWork.{gives_work}
use Rattle.tac_ir.proofs.SameTables.{act_same, begins_same, meaning_same}
use Rattle.tac_ir.proofs.Turns.{follower_never_stuck}
use Rattle.check_insert.proofs.KeyFits.{key_fits_work}
use Rattle.check_insert.specs.Inserted.{Has, StandsFor, InsertedAt, Inserted}

abbrev pub IsFine : Stage → Type 0
IsFine x = x ≡ Stuck → ⊥

-- the same stage; an ending may come with less work
abbrev pub Matches : Stage → Stage → Type 0
Matches (Begins s) x = x ≡ Begins s
Matches (Stands u n temps frames s) x = x ≡ Stands u n temps frames s
Matches (Over e s) x = (k : ℕ) × (x ≡ Over e (at_work k s)) × (k ≤ s.work)
Matches Stuck x = ⊥

same_matches : (x y : Stage) → IsFine x → y ≡ x → Matches x y
same_matches (Begins s) y fine e = e
same_matches (Stands u n temps frames s) y fine e = e
same_matches (Over x s) y fine e = (s.work, e, omega arith)
same_matches Stuck y fine e = absurd (fine refl)

-- tests that are passed

both_true : (a b : Bool) → a && b ≡ true → (a ≡ true) × (b ≡ true)
both_true true b e = (refl, e)
both_true false b e = cc

moved_passes : (kind : Kind) (v : Rvalue) (objects : Objects) (x : Stage) → IsFine (moved_from kind v objects x)
    → moved_from kind v objects x ≡ x
moved_passes Void v objects x fine = refl
moved_passes (OfScalar k) v objects x fine = refl
moved_passes (Structure n) v objects x fine = (only_true (is_there v.contents n v.value objects) x fine).1
moved_passes (Array n) v objects x fine = refl

key_passes_by : (key : Option Key) (k0 : ℕ) (s : State) (v : Value) (x : Stage)
    → IsFine (keyed_by key (at_work k0 s) v x) → (k : ℕ) (y : Stage) → keyed_by key (at_work k s) v y ≡ y
key_passes_by None k0 s v x fine k y = absurd (fine refl)
key_passes_by (Some key) k0 s v x fine k y =
    ap (λ b. only_if b y)
    (gives_work key k s v ∙ sym (gives_work key k0 s v) ∙ (only_true (gives key (at_work k0 s) v) x fine).0)

-- at any count of work
key_passes : (keys : List Key) (key : Option ℕ) (k0 : ℕ) (s : State) (v : Value) (x : Stage)
    → IsFine (keyed keys key (at_work k0 s) v x) → (k : ℕ) (y : Stage) → keyed keys key (at_work k s) v y ≡ y
key_passes keys None k0 s v x fine k y = refl
key_passes keys (Some n) k0 s v x fine k y = key_passes_by (slice_get keys n) k0 s v x fine k y

place_none : (c : Option ObjectState) → is_place c ≡ true → c ≡ None
place_none None e = refl
place_none (Some c) e = cc

-- accesses that end where their places do

pub record EndsAs (r : Run Rvalue) (size : ℕ) (p : Value) (line : ℕ) : Type 0 where
  pub by : (e : Ending) (z : State) → located true size p line z ≡ Ended e z → r z ≡ Ended e z

read_ends : (k : Scalar) (q : Rvalue) (line : ℕ) → q.contents ≡ None
    → EndsAs (read_rvalue (OfScalar k) true q line) (scalar_size k) q.value line
read_ends k q line none =
    subst (λ c. EndsAs (read_part c (OfScalar k) true q.value line) (scalar_size k) q.value line) (sym none)
    (record { by = λ e z h. ap (λ o. on (on o (λ place. read_scalar k q.value.word place)) (λ v. give v)) h })

read_structure_ends : (n : ℕ) (q : Rvalue) (line : ℕ) → q.contents ≡ None
    → EndsAs (read_rvalue (Structure n) true q line) n q.value line
read_structure_ends n q line none =
    subst (λ c. EndsAs (read_part c (Structure n) true q.value line) n q.value line) (sym none)
    (record { by = λ e z h. ap (λ o. on (on o (λ _. done q.value)) (λ v. give v)) h })

write_ends : (k : Scalar) (p : Value) (line : ℕ) (v : Rvalue)
    → EndsAs (write_rvalue (OfScalar k) true p line v) (scalar_size k) p line
write_ends k p line v = record {
  by = λ e z h. ap (λ o. on (on (on o (λ place. write_scalar k p.word place v.value)) (λ _. done v.value))
      (λ v. give v)) h;
}

copy_ends : (c : Option ObjectState) (n : ℕ) (p : Value) (line : ℕ) (v : Value) (e : Ending) (z : State)
    → located true n p line z ≡ Ended e z → copy_value c n true p line v z ≡ Ended e z
copy_ends None n p line v e z h = ap (λ o. on o (λ d. located false n v line >>= (λ s. move_bytes n d s))) h
copy_ends (Some c) n p line v e z h = ap (λ o. on o (λ d. put_contents n d v.word c)) h

write_structure_ends : (n : ℕ) (p : Value) (line : ℕ) (v : Rvalue)
    → EndsAs (write_rvalue (Structure n) true p line v) n p line
write_structure_ends n p line v = record
    { by = λ e z h. ap (λ o. on o (λ _. give p)) (copy_ends v.contents n p line v.value e z h) }

nothing_more : (n : ℕ) → n + 3 * (n - n) ≡ n
nothing_more n = omega arith

heavier_ends : {r : Run Rvalue} {size : ℕ} {p : Value} {line : ℕ} → EndsAs r size p line
    → EndsAs (heavier r) size p line
heavier_ends h = record {
  by = λ e z is. ap (fourfold z.work) (h.by e z is)
      ∙ ap (λ n. Ended e (record z { work = n })) (nothing_more z.work);
}

update_ends : (k : Scalar) (p : Value) (line : ℕ) (new : Value → Run Value) (f : Fixity)
    → EndsAs (as_rvalue (update k true p line new f)) (scalar_size k) p line
update_ends k p line new f = record {
  by = λ e z h. ap (λ o. on
      (on o (λ place. read_scalar k p.word place
      >>= (λ old. new old >>= (λ v. write_scalar k p.word place v >> done (given f old v))))) (λ v. give v)) h;
}

outside_by : (size : ℕ) (v : Value) (line : ℕ) (z : State) → is_within v.tag v.word size ≡ false
    → located true size v line z ≡ Ended (ending.Spatial line) z
outside_by size v line z e = two_tests size v line z
    ∙ ap (λ b. on (pass_or_stop b (ending.Spatial line) z) (λ _. test_life v line >> located false size v line)) e

dead_by : (size : ℕ) (v : Value) (line : ℕ) (z : State) → is_within v.tag v.word size ≡ true
    → is_live_tag v.tag z.objects ≡ false → located true size v line z ≡ Ended (ending.Temporal line) z
dead_by size v line z e e' =
    two_tests size v line z ∙ ap
    (λ b. on (pass_or_stop b (ending.Spatial line) z) (λ _. test_life v line >> located false size v line)) e
    ∙ ap (λ b. on (pass_or_stop b (ending.Temporal line) z) (λ _. located false size v line)) e'

module _ (g : Setting) (t t' : Tac) (ins : Inserted t t') where
  stands_at : (c c' : Option CodeFunction) → InsertedAt c c' → (n : ℕ) (i : Instruction) → Has (code_of c) n i
      → StandsFor (code_of c') n i
  stands_at None None h n i e = absurd cc
  stands_at None (Some c') h n i e = absurd h
  stands_at (Some c) None h n i e = absurd h
  stands_at (Some c) (Some c') h n i e = h.code n i e

  -- an instruction that stays
  stays : (i : Instruction) (u n : ℕ) (temps : Temps) (frames : List Frame) (s : State) → at_node t' u n ≡ Some i
      → IsFine (act_at g t (Some i) u temps frames s)
      → (j : ℕ) × Matches (act_at g t (Some i) u temps frames s) (run (step g t') j (Stands u n temps frames s))
  stays i u n temps frames s has fine = (
    1,
    same_matches _ _ fine
        (ap (λ j. act_at g t' j u temps frames s) has ∙ act_same ins.tables g i u temps frames (spent (cost i) s)),
  )

  -- An access that gets its checks: x is the step without them, and w what the access costs after them. It fits where
  -- what it is given does, whatever its key, and its pointer may be of its key.
  module _ (u n n1 n2 size line a w : ℕ) (key : Option ℕ) (given_fits : Bool) (access : Instruction) (temps : Temps)
      (frames : List Frame) (s : State) (W : Stage → Stage) (r : Run Rvalue) (F : Rvalue → State → Stage)
      (ends : (temps a).contents ≡ None → EndsAs r size (temps a).value line)
      (passes : (x : Stage) → IsFine (W x) → W x ≡ x)
      (has1 : at_node t' u n ≡ Some (Judge Spatial size line key a n1))
      (has2 : at_node t' u n1 ≡ Some (Judge Temporal size line key a n2)) (has3 : at_node t' u n2 ≡ Some access)
      (costs : cost access ≡ w)
      (acts : (k : ℕ) → act g t access u temps frames (at_work k s)
      ≡ only_if (given_fits && fits_key t u key (at_work k s) (temps a).value)
      (keyed (keys_of (function_in t u)) key (at_work k s) (temps a).value
      (admitted Judged size (temps a) s.objects (W (came (r (at_work k s)) F)))))
      (before : ℕ) (paid : before ≡ s.work + 1 + 1 + w)
      (x : Stage) (is : x ≡ only_if (given_fits && fits_key t u key (at_work before s) (temps a).value)
      (keyed (keys_of (function_in t u)) key (at_work before s) (temps a).value
      (admitted Unchecked size (temps a) s.objects (W (came (r (at_work before s)) F))))) (fine : IsFine x) where
    abbrev v : Value
    v = (temps a).value

    abbrev keys : List Key
    keys = keys_of (function_in t u)

    fit : (given_fits && fits_key t u key (at_work before s) v ≡ true)
        × (x ≡ keyed keys key (at_work before s) v (admitted Unchecked size (temps a) s.objects
        (W (came (r (at_work before s)) F))))
    fit = let o = only_true (given_fits && fits_key t u key (at_work before s) v) _ (λ e. fine (is ∙ e)) in
        (o.0, is ∙ o.1)

    fit_parts : (given_fits ≡ true) × (fits_key t u key (at_work before s) v ≡ true)
    fit_parts = both_true given_fits (fits_key t u key (at_work before s) v) fit.0

    -- the checks and the access behind them fit too
    key_fits : (k : ℕ) → fits_key t u key (at_work k s) v ≡ true
    key_fits k = key_fits_work t u key k s v ∙ sym (key_fits_work t u key before s v) ∙ fit_parts.1

    all_fits : (k : ℕ) → given_fits && fits_key t u key (at_work k s) v ≡ true
    all_fits k = ap (λ b. b && fits_key t u key (at_work k s) v) fit_parts.0 ∙ key_fits k

    key_open : (k : ℕ) (y : Stage) → keyed keys key (at_work k s) v y ≡ y
    key_open = key_passes keys key before s v _ (λ e. fine (fit.1 ∙ e))

    abbrev placed : Stage
    placed = W (came (r (at_work before s)) F)

    admits : x ≡ only_if (is_place (temps a).contents) placed
    admits = fit.1 ∙ key_open before _

    is_none : is_place (temps a).contents ≡ true
    is_none = (only_true (is_place (temps a).contents) placed (λ e. fine (admits ∙ e))).0

    x_is : x ≡ placed
    x_is = admits ∙ ap (λ b. only_if b placed) is_none

    x_came : x ≡ came (r (at_work before s)) F
    x_came = x_is ∙ passes _ (λ e. fine (x_is ∙ e))

    ended : EndsAs r size v line
    ended = ends (place_none (temps a).contents is_none)

    first_step : (b : Bool) → is_within v.tag v.word size ≡ b
        → run (step g t') 1 (Stands u n temps frames s)
        ≡ came (pass_or_stop b (ending.Spatial line) (at_work (s.work + 1) s)) (λ _ z. Stands u n1 temps frames z)
    first_step b e =
        ap (λ j. act_at g t' j u temps frames s) has1
        ∙ act_same ins.tables g (Judge Spatial size line key a n1) u temps frames (at_work (s.work + 1) s)
        ∙ only_opens _ (key_fits (s.work + 1)) ∙ key_open (s.work + 1) _
        ∙ ap (λ b. came (pass_or_stop b (ending.Spatial line) (at_work (s.work + 1) s))
        (λ _ z. Stands u n1 temps frames z)) e

    second_step : is_within v.tag v.word size ≡ true → (b : Bool) → is_live_tag v.tag s.objects ≡ b
        → run (step g t') 1 (Stands u n1 temps frames (at_work (s.work + 1) s))
        ≡ came (pass_or_stop b (ending.Temporal line) (at_work (s.work + 1 + 1) s)) (λ _ z. Stands u n2 temps frames z)
    second_step e0 b e =
        ap (λ j. act_at g t' j u temps frames (at_work (s.work + 1) s)) has2
        ∙ act_same ins.tables g (Judge Temporal size line key a n2) u temps frames (at_work (s.work + 1 + 1) s)
        ∙ only_opens _ (key_fits (s.work + 1 + 1)) ∙ key_open (s.work + 1 + 1) _
        ∙ ap (λ q. only_if q (came (check Temporal size v line (at_work (s.work + 1 + 1) s))
        (λ _ z. Stands u n2 temps frames z))) e0
        ∙ ap (λ b. came (pass_or_stop b (ending.Temporal line) (at_work (s.work + 1 + 1) s))
        (λ _ z. Stands u n2 temps frames z)) e

    third_step : is_within v.tag v.word size ≡ true → is_live_tag v.tag s.objects ≡ true
        → run (step g t') 1 (Stands u n2 temps frames (at_work (s.work + 1 + 1) s)) ≡ placed
    third_step e e' =
        ap (λ j. act_at g t' j u temps frames (at_work (s.work + 1 + 1) s)) has3
        ∙ ap (λ w. act g t' access u temps frames (at_work (s.work + 1 + 1 + w) s)) costs
        ∙ act_same ins.tables g access u temps frames (at_work (s.work + 1 + 1 + w) s) ∙ acts (s.work + 1 + 1 + w)
        ∙ only_opens _ (all_fits (s.work + 1 + 1 + w)) ∙ key_open (s.work + 1 + 1 + w) _
        ∙ ap (λ b. only_if (b && (is_within v.tag v.word size && is_live_tag v.tag s.objects))
        (W (came (r (at_work (s.work + 1 + 1 + w) s)) F))) is_none
        ∙ ap (λ b. only_if (b && is_live_tag v.tag s.objects) (W (came (r (at_work (s.work + 1 + 1 + w) s)) F))) e
        ∙ ap (λ b. only_if b (W (came (r (at_work (s.work + 1 + 1 + w) s)) F))) e'
        ∙ ap (λ k. W (came (r (at_work k s)) F)) (sym paid)

    checked_by : (b b' : Bool) → is_within v.tag v.word size ≡ b → is_live_tag v.tag s.objects ≡ b'
        → (j : ℕ) × Matches x (run (step g t') j (Stands u n temps frames s))
    checked_by false b' e e' =
        let z : State = at_work before s in (
          1,
          subst (λ y. Matches y (run (step g t') 1 (Stands u n temps frames s)))
              (sym (x_came ∙ ap (λ o. came o F) (ended.by (ending.Spatial line) z (outside_by size v line z e))))
              (s.work + 1, first_step false e, omega (arith, paid)),
        )
    checked_by true false e e' =
        let z : State = at_work before s in
        let both : run (step g t') 2 (Stands u n temps frames s)
        ≡ Over (ending.Temporal line) (at_work (s.work + 1 + 1) s) = ap (run (step g t') 1) (first_step true e)
        ∙ second_step e false e' in (
          2,
          subst (λ y. Matches y (run (step g t') 2 (Stands u n temps frames s)))
              (sym (x_came ∙ ap (λ o. came o F) (ended.by (ending.Temporal line) z (dead_by size v line z e e'))))
              (s.work + 1 + 1, both, omega (arith, paid)),
        )
    checked_by true true e e' =
        let all : run (step g t') 3 (Stands u n temps frames s) ≡ placed = ap (run (step g t') 2) (first_step true e)
        ∙ ap (run (step g t') 1) (second_step e true e') ∙ third_step e e' in
        (3, same_matches x _ fine (all ∙ sym x_is))

    pub checked : (j : ℕ) × Matches x (run (step g t') j (Stands u n temps frames s))
    checked = checked_by (is_within v.tag v.word size) (is_live_tag v.tag s.objects) refl refl

  instruction_by : (i : Instruction) (u n : ℕ) (temps : Temps) (frames : List Frame) (s : State)
      → StandsFor (code_of (function_in t' u)) n i → IsFine (act_at g t (Some i) u temps frames s)
      → (j : ℕ) × Matches (act_at g t (Some i) u temps frames s) (run (step g t') j (Stands u n temps frames s))
  instruction_by (Read (OfScalar k) Unchecked line key d a m) u n temps frames s h fine =
      checked u n h.0 h.1 (scalar_size k) line a (1 + entries_of (OfScalar k) + 0) key
      (is_in_place (temps a).contents d a) _ temps frames s (λ x. x)
      (read_rvalue (OfScalar k) true (temps a) line) (given_in u m temps d frames)
      (read_ends k (temps a) line) (λ x f. refl) h.2 h.3 h.4 refl (λ k. refl)
      (s.work + (1 + entries_of (OfScalar k) + 2)) (omega arith) _ refl fine
  instruction_by (Read (Structure size) Unchecked line key d a m) u n temps frames s h fine =
      checked u n h.0 h.1 size line a 1 key (is_in_place (temps a).contents d a) _ temps frames s (λ x. x)
      (read_rvalue (Structure size) true (temps a) line) (given_in u m temps d frames)
      (read_structure_ends size (temps a) line) (λ x f. refl) h.2 h.3 h.4 refl (λ k. refl) (s.work + 3) (omega arith) _
      refl fine
  instruction_by (Write (OfScalar k) Unchecked line key d a b m) u n temps frames s h fine =
      checked u n h.0 h.1 (scalar_size k) line a (1 + stores_of (OfScalar k) + 0) key
      (is_written (OfScalar k) (temps b)) _ temps frames s
      (moved_from (OfScalar k) (temps b) s.objects)
      (heavier (write_rvalue (OfScalar k) true (temps a).value line (temps b))) (given_in u m temps d frames)
      (λ none. heavier_ends (write_ends k (temps a).value line (temps b)))
      (moved_passes (OfScalar k) (temps b) s.objects) h.2 h.3 h.4
      refl (λ k. refl) (s.work + (1 + stores_of (OfScalar k) + 2)) (omega arith) _ refl fine
  instruction_by (Write (Structure size) Unchecked line key d a b m) u n temps frames s h fine =
      checked u n h.0 h.1 size line a 6 key (is_written (Structure size) (temps b)) _ temps frames s
      (moved_from (Structure size) (temps b) s.objects)
      (heavier (write_rvalue (Structure size) true (temps a).value line (temps b))) (given_in u m temps d frames)
      (λ none. heavier_ends (write_structure_ends size (temps a).value line (temps b)))
      (moved_passes (Structure size) (temps b) s.objects) h.2 h.3 h.4 refl (λ k. refl) (s.work + 8) (omega arith) _
      refl fine
  instruction_by (Update w k f Unchecked line at key d a right m) u n temps frames s h fine =
      checked u n h.0 h.1 (scalar_size k) line a (1 + updates_of (OfScalar k) + 0) key
      (is_update_of w k) _ temps frames s (λ x. x)
      (as_rvalue (update k true (temps a).value line (updated w k (right_value right temps) at) f))
      (given_in u m temps d frames)
      (λ none. update_ends k (temps a).value line (updated w k (right_value right temps) at) f) (λ x f. refl) h.2 h.3
      h.4 refl (λ k. refl) (s.work + (1 + updates_of (OfScalar k) + 2)) (omega arith) _ refl fine
  instruction_by (Read kind Named line key d a m) u n temps frames s h fine = stays (Read kind Named line key d a m) u n
      temps frames s h fine
  instruction_by (Read kind Judged line key d a m) u n temps frames s h fine = stays (Read kind Judged line key d a m) u
      n temps frames s h fine
  instruction_by (Read Void Unchecked line key d a m) u n temps frames s h fine = stays
      (Read Void Unchecked line key d a m) u n temps frames s h fine
  instruction_by (Read (Array size) Unchecked line key d a m) u n temps frames s h fine = stays
      (Read (Array size) Unchecked line key d a m) u n temps frames s h fine
  instruction_by (Write kind Named line key d a b m) u n temps frames s h fine = stays
      (Write kind Named line key d a b m) u n temps frames s h fine
  instruction_by (Write kind Judged line key d a b m) u n temps frames s h fine = stays
      (Write kind Judged line key d a b m) u n temps frames s h fine
  instruction_by (Write Void Unchecked line key d a b m) u n temps frames s h fine = stays
      (Write Void Unchecked line key d a b m) u n temps frames s h fine
  instruction_by (Write (Array size) Unchecked line key d a b m) u n temps frames s h fine = stays
      (Write (Array size) Unchecked line key d a b m) u n temps frames s h fine
  instruction_by i u n temps frames s h fine = stays i u n temps frames s h fine

  node_by : (oi : Option Instruction) (u n : ℕ) (temps : Temps) (frames : List Frame) (s : State) → at_node t u n ≡ oi
      → IsFine (act_at g t oi u temps frames s)
      → (j : ℕ) × Matches (act_at g t oi u temps frames s) (run (step g t') j (Stands u n temps frames s))
  node_by None u n temps frames s e fine = absurd (fine refl)
  node_by (Some i) u n temps frames s e fine = instruction_by i u n temps frames s
      (stands_at (function_in t u) (function_in t' u) (ins.functions u) n i e) fine

  one : (x y : Stage) → Matches x y → IsFine (step g t x) → (j : ℕ) × Matches (step g t x) (run (step g t') j y)
  one (Begins s) y m fine = (1, same_matches _ _ fine (ap (step g t') m ∙ begins_same ins.tables g s))
  one (Stands u n temps frames s) y m fine =
      let h = node_by (at_node t u n) u n temps frames s refl fine in
      (h.0, subst (λ z. Matches (step g t (Stands u n temps frames s)) (run (step g t') h.0 z)) (sym m) h.1)
  one (Over e s) y m fine = (0, m)
  one Stuck y m fine = absurd m

  meets : (x y : Stage) → Matches x y → Meets 1 (seen x) (seen y)
  meets (Begins s) y m = record {
    shown = ap (λ z. (seen z).shown) (sym m);
    turns = let e = ap (λ z. (seen z).turns) m in omega arith;
    work = let
        e = ap (λ z. (seen z).work) m in omega arith;
  }
  meets (Stands u n temps frames s) y m = record {
    shown = ap (λ z. (seen z).shown) (sym m);
    turns = let e = ap (λ z. (seen z).turns) m in omega arith;
    work = let
        e = ap (λ z. (seen z).work) m in omega arith;
  }
  meets (Over e s) y m = record {
    shown = ap (λ z. (seen z).shown) (sym m.1);
    turns = let e = ap (λ z. (seen z).turns) m.1 in omega arith;
    work =
        let e = ap (λ z. (seen z).work) m.1 in omega (arith, m.2);
  }
  meets Stuck y m = absurd m

  follows_from : (s : State) → ((k : ℕ) → IsFine (run (step g t) k (Begins s)))
      → Follows 1 (λ n. seen (run (step g t) n (Begins s))) (λ n. seen (run (step g t') n (Begins s)))
  follows_from s fine = follows_by_steps 1 (step g t) seen (step g t') seen IsFine Matches
      (record { one = one; meets = meets }) (Begins s) (Begins s) refl fine

-- checks change nothing of what is shown, and cost no more than was counted for them
pub insert_follows : (t t' : Tac) → Inserted t t' → (budgets : BudgetSizes) (input : List ℕ)
    → ((k : ℕ) → run (step (setting_of_code t budgets) t) k (first_stage t budgets input) ≡ Stuck → ⊥)
    → Follows 1 (tac_meaning t budgets input) (tac_meaning t' budgets input)
insert_follows t t' ins budgets input fine =
    let g = setting_of_code t budgets in
    subst (λ b. Follows 1 (tac_meaning t budgets input) b) (sym (meaning_same ins.tables budgets input))
    (follows_from g t t' ins (fresh g (objects_before t g) input) fine)

-- code that follows a source, with its checks
module _ (t t' : Tac) (ins : Inserted t t') (budgets : BudgetSizes) (input : List ℕ) (c : ℕ) (a : Behaviour)
    (source : IsSource a) (follows : Follows c a (tac_meaning t budgets input)) where
  pub checked_follows : Follows c a (tac_meaning t' budgets input)
  checked_follows =
      let same : 1 * c ≡ c = omega arith in
      subst (λ n. Follows n a (tac_meaning t' budgets input)) same
      (follows_trans c 1 a (tac_meaning t budgets input) (tac_meaning t' budgets input) follows
      (insert_follows t t' ins budgets input (follower_never_stuck t budgets input c a source follows)))

  pub checked_never_stuck : (k : ℕ)
      → run (step (setting_of_code t' budgets) t') k (first_stage t' budgets input) ≡ Stuck → ⊥
  checked_never_stuck = follower_never_stuck t' budgets input c a source checked_follows
