-- What programs with the same tables have in common: instructions, calls, the setting and the start of a run.
use Rattle.std.proofs.Common.{◌≡◌, ℕ, zero, suc, List, [], ◌∷◌, ◌++◌, Option, Some, None, refl, sym, ap, ◌∙◌, subst}
use Rattle.std.specs.Prelude.{◌&&◌, nat_lt, length, slice_get, map}
use Rattle.behaviours.specs.Steps.{seen_after}
use Rattle.sb_base.specs.Budgets.{BudgetSizes}
use Rattle.obj_memory.specs.declared.value.Value.{Value}
use Rattle.c_tree.specs.Blocks.{block_objects}
use Rattle.c_tree.specs.Format.{pieces}
use Rattle.source_meaning.specs.State.{State, Rvalue, Outcome, Gives, Ended, Paused, Header, Setting}
use Rattle.source_meaning.specs.Blocks.{has_objects}
use Rattle.source_meaning.specs.Expressions.{callee}
use Rattle.source_meaning.specs.Calls.{set_up, result_of}
use Rattle.source_meaning.specs.Good.{plain_type}
use Rattle.source_meaning.specs.Places.{statics_first}
use Rattle.source_meaning.specs.Meaning.{fresh}
use Rattle.tac_ir.specs.declared.instruction.Instruction.{Instruction}
use Rattle.tac_ir.specs.declared.instruction.Instruction.TheVariants.{SetPlain, UpdatePlain, StaticPointer, Turn}
use Rattle.tac_ir.specs.declared.instruction.Instruction.TheVariants.{Return}
use Rattle.tac_ir.specs.declared.instruction.Instruction.TheVariants.{Read, Write, Update, Judge, StoreText, Print}
use Rattle.tac_ir.specs.declared.instruction.Instruction.TheVariants.{Call}
use Rattle.tac_ir.specs.declared.instruction.Instruction.TheVariants.{CallThrough, EnterBlock}
use Rattle.tac_ir.specs.declared.key.Key.{Key}
use Rattle.tac_ir.specs.declared.function.CodeFunction.{CodeFunction}
use Rattle.tac_ir.specs.declared.function.CountedLoop.{CountedLoop}
use Rattle.tac_ir.specs.declared.function.Tac.{Tac}
use Rattle.tac_ir.specs.Stage.{Temps, no_temps, gathered, Frame, Stage, Begins, Stands, came, seen}
use Rattle.tac_ir.specs.Accesses.{only_if}
use Rattle.tac_ir.specs.Fitting.{is_passed, are_passed, is_written, is_in_place, is_held, is_update_of, is_type}
use Rattle.tac_ir.specs.Fitting.{taken_by, are_printed, is_of_key, is_counted, have_no_homes}
use Rattle.tac_ir.specs.Costs.{first_call, spent, heavier}
use Rattle.tac_ir.specs.Meaning.{keys_of, variables_in, blocks_in, objects_in, function_in, if_there, keyed}
use Rattle.tac_ir.specs.Meaning.{header_of_code, setting_of_code, begun, called_at, called, fits, effect, act, line_in}
use Rattle.tac_ir.specs.Meaning.{loops_of, type_of, fit_call, fits_key}
use Rattle.tac_ir.specs.Meaning.{step}
use Rattle.tac_ir.specs.Meaning.{placed_data, first_stage, tac_meaning}
use Rattle.tac_ir.specs.Bodies.{without_added}
use Rattle.tac_ir.specs.SameTables.{SameFunction, SameAt, SameTables}

pub came_same : {A : Type 0} (o : Outcome A) (F F' : A → State → Stage) → ((a : A) (s : State) → F a s ≡ F' a s)
    → came o F ≡ came o F'
came_same (Gives a s) F F' h = h a s
came_same (Ended e s) F F' h = refl
came_same (Paused s) F F' h = refl

keyed_same : {keys keys' : List Key} (key : Option ℕ) (s : State) (v : Value) (x : Stage) → keys' ≡ keys
    → keyed keys' key s v x ≡ keyed keys key s v x
keyed_same key s v x e = ap (λ l. keyed l key s v x) e

-- what a turn tests does not depend on the nodes of checks
counted_as : (ls : List CountedLoop) (n : ℕ) (s : State)
    → is_counted (slice_get ls n) s ≡ is_counted (slice_get (map without_added ls) n) s
counted_as [] n s = refl
counted_as (l ∷ ls) zero s = refl
counted_as (l ∷ ls) (suc n) s = counted_as ls n s

-- what functions have in common, by any of their tables
by_table : {A : Type 0} (T : Option CodeFunction → A)
    → ((c c' : CodeFunction) → SameFunction c c' → T (Some c') ≡ T (Some c))
    → (o o' : Option CodeFunction) → SameAt o o' → T o' ≡ T o
by_table T f None None h = refl
by_table T f None (Some c') h = absurd h
by_table T f (Some c) None h = absurd h
by_table T f (Some c) (Some c') h = f c c' h

module _ {t t' : Tac} (same : SameTables t t') where
  pub function_same : (u : ℕ) (c c' : CodeFunction) → function_in t u ≡ Some c → function_in t' u ≡ Some c'
      → SameFunction c c'
  function_same u c c' e e' =
      subst (λ o. SameAt o (Some c')) e (subst (λ o. SameAt (function_in t u) o) e' (same.functions u))

  table_same : {A : Type 0} (T : Option CodeFunction → A)
      → ((c c' : CodeFunction) → SameFunction c c' → T (Some c') ≡ T (Some c)) → (u : ℕ)
      → T (function_in t' u) ≡ T (function_in t u)
  table_same T f u = by_table T f (function_in t u) (function_in t' u) (same.functions u)

  pub keys_same : (u : ℕ) → keys_of (function_in t' u) ≡ keys_of (function_in t u)
  keys_same = table_same keys_of (λ c c' h. h.keys)

  pub variables_same : (u : ℕ) → variables_in (function_in t' u) ≡ variables_in (function_in t u)
  variables_same = table_same variables_in (λ c c' h. ap (λ (x : Header). x.parameters ++ x.variables) h.header)

  pub blocks_same : (u : ℕ) → blocks_in (function_in t' u) ≡ blocks_in (function_in t u)
  blocks_same = table_same blocks_in (λ c c' h. h.blocks)

  counted_same : (u n : ℕ) (s : State)
      → is_counted (slice_get (loops_of (function_in t' u)) n) s
      ≡ is_counted (slice_get (loops_of (function_in t u)) n) s
  counted_same u n s = table_same (λ o. is_counted (slice_get (loops_of o) n) s)
      (λ c c' h. counted_as c'.loops n s ∙ ap (λ ls. is_counted (slice_get ls n) s) h.loops
      ∙ sym (counted_as c.loops n s)) u

  pub type_same : (u : ℕ) → type_of (function_in t' u) ≡ type_of (function_in t u)
  type_same = table_same type_of (λ c c' h. ap (λ (x : Header). x.type_number) h.header)

  pub line_same : (u : ℕ) → line_in (function_in t' u) ≡ line_in (function_in t u)
  line_same = table_same line_in (λ c c' h. ap (λ (x : Header). x.line) h.header)

  pub objects_same : (u b : ℕ) → objects_in (function_in t' u) b ≡ objects_in (function_in t u) b
  objects_same u b =
      ap (λ vs. block_objects vs (if_there (slice_get (blocks_in (function_in t' u)) b))) (variables_same u)
      ∙ ap (λ bs. block_objects (variables_in (function_in t u)) (if_there (slice_get bs b))) (blocks_same u)

  pub called_same : (g : Setting) (f : ℕ) (vs : List Rvalue) (line : ℕ) (frames : List Frame) (s : State)
      → called g t' f vs line frames s ≡ called g t f vs line frames s
  called_same g f vs line frames s = table_same (λ o. called_at g o f vs line frames s)
      (λ c c' h.
      ap (λ x. came (heavier (set_up g x vs line) (begun s)) (λ _ z. Stands f c'.entry no_temps frames z)) h.header
      ∙ ap (λ e. came (heavier (set_up g (header_of_code c) vs line) (begun s)) (λ _ z. Stands f e no_temps frames z))
      h.entry) f

  key_same : (u : ℕ) (key : Option ℕ) (s : State) (v : Value) → fits_key t' u key s v ≡ fits_key t u key s v
  key_same u None s v = refl
  key_same u (Some n) s v =
      ap (λ vs. is_of_key vs t'.statics (slice_get (keys_of (function_in t' u)) n) s v) (variables_same u)
      ∙ ap (λ ds. is_of_key (variables_in (function_in t u)) ds (slice_get (keys_of (function_in t' u)) n) s v)
      same.statics
      ∙ ap (λ ks. is_of_key (variables_in (function_in t u)) t.statics (slice_get ks n) s v) (keys_same u)

  call_same : (f : ℕ) (vs : List Rvalue) → fit_call (function_in t' f) vs ≡ fit_call (function_in t f) vs
  call_same f vs = table_same (λ o. fit_call o vs) (λ c c' h. ap (λ x. are_passed (taken_by x) vs) h.header) f

  module _ (g : Setting) where
    -- what fits an instruction in one fits it in the other
    pub fits_same : (i : Instruction) (u : ℕ) (temps : Temps) (s : State)
        → fits g t' i u temps s ≡ fits g t i u temps s
    fits_same (SetPlain x a m) u temps s = ap (λ vs. is_held (plain_type vs x) (temps a)) (variables_same u)
    fits_same (UpdatePlain w k f line d x right m) u temps s =
        ap (λ vs. is_type (plain_type vs x) k && is_update_of w k) (variables_same u)
    fits_same (StaticPointer d n m) u temps s = ap (λ ds. nat_lt n (length ds)) same.statics
    fits_same (Read kind mode line key d a m) u temps s =
        ap (λ b. is_in_place (temps a).contents d a && b) (key_same u key s (temps a).value)
    fits_same (Write kind mode line key d a b m) u temps s =
        ap (λ q. is_written kind (temps b) && q) (key_same u key s (temps a).value)
    fits_same (Update w k f mode line at key d a right m) u temps s =
        ap (λ q. is_update_of w k && q) (key_same u key s (temps a).value)
    fits_same (Judge test size line key a m) u temps s = key_same u key s (temps a).value
    fits_same (Turn (Some n) m) u temps s = counted_same u n s
    fits_same (Print x line d n m) u temps s =
        ap (λ ts. are_printed (pieces (if_there (slice_get ts x))) (gathered temps d n)) same.texts
    fits_same (Call f line d n m) u temps s = call_same f (gathered temps d n)
    fits_same (EnterBlock b line m) u temps s =
        ap (λ vs. has_objects vs && have_no_homes s.frame (if_there (slice_get (blocks_in (function_in t' u)) b)))
        (objects_same u b)
        ∙ ap (λ bs. has_objects (objects_in (function_in t u) b) && have_no_homes s.frame (if_there (slice_get bs b)))
        (blocks_same u)
    fits_same (Return a) u temps s = ap (λ n. is_passed (result_of g n) (temps a)) (type_same u)
    fits_same i u temps s = refl

    -- an instruction does the same in both
    effect_same : (i : Instruction) (u : ℕ) (temps : Temps) (frames : List Frame) (s : State)
        → effect g t' i u temps frames s ≡ effect g t i u temps frames s
    effect_same (Read kind mode line key d a m) u temps frames s = keyed_same key s (temps a).value _ (keys_same u)
    effect_same (Write kind mode line key d a b m) u temps frames s = keyed_same key s (temps a).value _ (keys_same u)
    effect_same (Update w k f mode line at key d a right m) u temps frames s = keyed_same key s (temps a).value _
        (keys_same u)
    effect_same (Judge test size line key a m) u temps frames s = keyed_same key s (temps a).value _ (keys_same u)
    effect_same (Print x line d n m) u temps frames s = rw (same.texts) refl
    effect_same (StoreText n x offset m) u temps frames s = rw (same.texts) refl
    effect_same (Call f line d n m) u temps frames s = called_same g f _ line _ s
    effect_same (CallThrough type_number line d n m) u temps frames s = came_same
        (callee g.functions type_number (temps d).value line s) _ _ (λ f z. called_same g f _ line _ z)
    effect_same (EnterBlock b line m) u temps frames s = rw (objects_same u b) refl
    effect_same i u temps frames s = refl

    pub act_same : (i : Instruction) (u : ℕ) (temps : Temps) (frames : List Frame) (s : State)
        → act g t' i u temps frames s ≡ act g t i u temps frames s
    act_same i u temps frames s =
        ap (λ b. only_if b (effect g t' i u temps frames s)) (fits_same i u temps s)
        ∙ ap (only_if (fits g t i u temps s)) (effect_same i u temps frames s)

    -- and so does the first step
    pub begins_same : (s : State) → step g t' (Begins s) ≡ step g t (Begins s)
    begins_same s =
        ap (λ m. called g t' m [] (line_in (function_in t' m)) [] (spent first_call s)) same.main
        ∙ ap (λ l. called g t' t.main [] l [] (spent first_call s)) (line_same t.main)
        ∙ called_same g t.main [] _ [] (spent first_call s)

  module _ (budgets : BudgetSizes) where
    abbrev g : Setting
    g = setting_of_code t budgets

    pub setting_same : setting_of_code t' budgets ≡ g
    setting_same =
        ap (λ hs. record {
          functions = hs;
          results = t'.results;
          sizes = record { budgets = budgets; global_bytes = t'.global_bytes };
        }) same.headers
        ∙ ap (λ rs. record {
          functions = map header_of_code t.functions;
          results = rs;
          sizes = record { budgets = budgets; global_bytes = t'.global_bytes };
        }) same.results
        ∙ ap (λ n. record {
          functions = map header_of_code t.functions;
          results = t.results;
          sizes = record { budgets = budgets; global_bytes = n };
        }) same.bytes

    pub first_same : (input : List ℕ) → first_stage t' budgets input ≡ first_stage t budgets input
    first_same input =
        ap (λ z. Begins (fresh z (placed_data (statics_first z) t'.statics 0) input)) setting_same
        ∙ ap (λ ds. Begins (fresh g (placed_data (statics_first g) ds 0) input)) same.statics

    -- the meaning by the steps of the other program alone
    pub meaning_same : (input : List ℕ)
        → tac_meaning t' budgets input ≡ seen_after (step g t') seen (first_stage t budgets input)
    meaning_same input =
        ap (λ z. seen_after (step z t') seen (first_stage t' budgets input)) setting_same
        ∙ ap (λ x. seen_after (step g t') seen x) (first_same input)
