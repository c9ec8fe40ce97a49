-- Scalars that are updated through the word of a temporary: loaded, changed and stored through the same pointer.
use Rattle.std.proofs.Common.{◌≡◌, inl, ℕ, ◌+◌, ◌*◌, ◌^◌, ◌<◌, ◌≤◌, Bool, true, false, List, []}
use Rattle.std.proofs.Common.{◌∷◌, ◌++◌, length, length-append, Option, Some, None, refl, sym, ap, ap₂, ◌∙◌, subst}
use Rattle.std.proofs.Common.{arith}
use Rattle.std.specs.Prelude.{slice_get, ◌==◌}
use Rattle.std.proofs.lemmas.Bool.{eq-eqb, or_left}
use Rattle.behaviours.specs.Steps.{run}
use Rattle.behaviours.proofs.Running.{run_add}
use Rattle.sb_base.specs.declared.ending.Ending.TheVariants.{Divide}
use Rattle.sb_base.specs.Endings.{code_of, report_of}
use Rattle.obj_memory.specs.declared.int_type.IntType.{IntType}
use Rattle.obj_memory.specs.declared.operator.BinaryOperator.{BinaryOperator}
use Rattle.obj_memory.specs.declared.value.Place.{Place}
use Rattle.obj_memory.specs.declared.value.Scalar.TheVariants.{Integer, Pointer}
use Rattle.obj_memory.specs.declared.value.Tag.TheVariants.{Untagged}
use Rattle.obj_memory.specs.declared.value.Value.{Value}
use Rattle.obj_memory.specs.Access.{read_value, scalar_size}
use Rattle.obj_memory.specs.Integers.{fit, size_of}
use Rattle.obj_memory.specs.Judgement.{place_in}
use Rattle.obj_memory.specs.Operators.{binary_value}
use Rattle.obj_memory.specs.Sound.{IsSoundTag}
use Rattle.obj_memory.proofs.Reading.{sound_read}
use Rattle.obj_memory.proofs.Soundness.{sound_tag_continues}
use Rattle.c_tree.specs.declared.expression.Fixity.{Fixity}
use Rattle.c_tree.specs.declared.expression.Fixity.TheVariants.{Prefix, Postfix}
use Rattle.c_tree.specs.declared.expression.Update.{Update}
use Rattle.c_tree.specs.declared.expression.Update.TheVariants.{Arithmetic}
use Rattle.source_meaning.specs.State.{State}
use Rattle.source_meaning.specs.Actions.{given as given_value, integer, load}
use Rattle.source_meaning.specs.Keeping.{IsDirect}
use Rattle.source_meaning.specs.Library.{argument}
use Rattle.source_meaning.specs.Structures.{rvalue}
use Rattle.tac_ir.specs.declared.instruction.Instruction.{Instruction}
use Rattle.tac_ir.specs.declared.instruction.Instruction.TheVariants as tac
use Rattle.tac_ir.specs.declared.instruction.Mode.{Mode}
use Rattle.tac_ir.specs.declared.instruction.RightOperand.{RightOperand}
use Rattle.tac_ir.specs.declared.instruction.RightOperand.TheVariants.{One, Temporary}
use Rattle.tac_ir.specs.Costs.{cost, spent}
use Rattle.tac_ir.specs.Temporaries.{right_count}
use Rattle.tac_ir.specs.Meaning.{right_value}
use Rattle.tac_ir.specs.Stage.{Frame, Over, Stage, Stands, Temps, with_temp}
use Rattle.flat_code.specs.declared.instruction.FlatInstruction.{FlatInstruction}
use Rattle.flat_code.specs.declared.instruction.FlatInstruction.TheVariants as flat_code
use Rattle.flat_code.specs.Calls.{function_in}
use Rattle.flat_code.specs.Meaning.{body_of, context, step}
use Rattle.flat_code.specs.Memory.{Bytes, put}
use Rattle.flat_code.specs.State as flat
use Rattle.flat_code.specs.Words.{HasWords}
use Rattle.flat_code.proofs.Stored.{put_other, put_same}
use Rattle.flat_code.specs.declared.registers.Entry.{Entry}
use Rattle.flat_code.specs.Routines.InputOutput.{IsWithoutInputOutput}
use Rattle.flat_code.specs.Routines.Metadata.{entry_registers, held_registers, metadata_in}
use Rattle.flat_code.specs.Routines.Objects.StandsFor.{Keys, spell}
use Rattle.flat_code.specs.Routines.Registers.{AreBelow, AreDistinct, AreNoneOf}
use Rattle.flat_code.specs.Routines.Routine.{HasAt}
use Rattle.flat_code.proofs.Routines.Steps.{has_back, has_front}
use Rattle.flat_code.proofs.Routines.Words.{same_metadata}
use Rattle.flat_actions.specs.Actions.{HasGiven, Nowhere, Pointer as InPointer, Word}
use Rattle.flat_actions.proofs.Standing.{for_worked}
use Rattle.lib_wrappers.specs.declared.accesses.held.HeldScalar.{HeldScalar}
use Rattle.lib_wrappers.specs.declared.accesses.held.HeldScalar.TheVariants.{Integer as HeldInteger}
use Rattle.lib_wrappers.specs.declared.accesses.held.HeldScalar.TheVariants.{Pointer as HeldPointer}
use Rattle.lib_wrappers.specs.AccessRoutines.Accessing.{IsToAccess}
use Rattle.runtime_functions.specs.Library.{held_from}
use Rattle.metadata_plan.specs.Expanded.{Leads}
use Rattle.metadata_plan.specs.Operators.{binary_most, Computes, IsHere, OperatorCode}
use Rattle.metadata_plan.specs.Registers.{most_temporaries}
use Rattle.metadata_plan.proofs.Flat.{constant_comes, weight_small}
use Rattle.metadata_plan.proofs.Numbers.{scaled}
use Rattle.metadata_plan.proofs.Simple.{most_small}
use Rattle.metadata_relation.specs.Blocks.{given_register, move_entry_if, right_code, right_register, untagged}
use Rattle.metadata_relation.specs.Contents.{is_right, takes_word}
use Rattle.metadata_relation.specs.Holding.{IsHeldAt, World}
use Rattle.metadata_relation.specs.InlineCode.{Leaves as LeavesAddress}
use Rattle.metadata_relation.specs.Registers.{first_free, temporary_register}
use Rattle.metadata_relation.specs.Stages.{Compiled, IsAt, map_of, views, world}
use Rattle.metadata_relation.specs.Steps.{IsCompiled}
use Rattle.metadata_relation.proofs.Accesses.{behind_read, behind_write, loaded}
use Rattle.metadata_relation.proofs.Acting.{acts_giving, behind_action, HasActed, Reached, reached_computed}
use Rattle.metadata_relation.proofs.Acting.{reached_next}
use Rattle.metadata_relation.proofs.Acting.{reached_then, reached_words}
use Rattle.metadata_relation.proofs.Assigning.{assigned}
use Rattle.metadata_relation.proofs.Finishing.{acted_as, acted_then, AreFew, beside_ne, beside_wider, ends_with}
use Rattle.metadata_relation.proofs.Finishing.{integer_few, integer_moved, IsPlacedIn, nothing_done}
use Rattle.metadata_relation.proofs.FiveRegisters.{below, distinct, none_of}
use Rattle.metadata_relation.proofs.Holding.{spell_kept}
use Rattle.metadata_relation.proofs.Inline.{inline_computes}
use Rattle.metadata_relation.proofs.Pointers.{entry_moved, IsReadFirst}
use Rattle.metadata_relation.proofs.Reading.{leaves_read, read_untagged}
use Rattle.metadata_relation.proofs.Registers.{temporary_free}
use Rattle.metadata_relation.proofs.Routines.{action_passes, Passes}
use Rattle.metadata_relation.proofs.Simple.{taken}
use Rattle.metadata_relation.proofs.Standing.{ends, IsNode, node, Result}
use Rattle.metadata_relation.proofs.Writing.{held_passes, leaves_write}

-- ---- a pointer goes on from registers of the block's own

-- its word from one of two, and its entry
pointer_handed : (w : World) (b : Bool) (value : Value) (r from : ℕ) (e : Entry) (values : flat.Values) → IsReadFirst r e
    → AreNoneOf (entry_registers e) (r ∷ []) → values from ≡ value.word
    → metadata_in values e ≡ spell w.views w.keys value.tag → IsSoundTag w.views.functions w.objects value.tag
    → IsPlacedIn w b value r values (assigned (flat_code.Move r from ∷ move_entry_if b (held_from r).tag e) values)
pointer_handed w false value r from e values first apart word tag sound = record {
  held = record { word = put_same values r (values from) ∙ word; entry = λ p. cc; sound = sound };
  others = λ y out. put_other values r (values from) y (beside_ne y r out);
}
pointer_handed w true value r from e values first apart word tag sound =
    let moved = put values r (values from) in
    let z = entry_moved r e moved first in
    let own = z.others r (inl (omega arith)) ∙ put_same values r (values from) ∙ word in
    record {
      held = record {
        word = own;
        entry = λ p. record {
          word = own;
          tag = z.entry refl
              ∙ same_metadata (metadata_in moved e) (metadata_in values e) (put_other values r (values from) e.base apart.0.0)
              (put_other values r (values from) e.bound apart.1.0.0) (put_other values r (values from) e.key apart.1.1.0.0)
              (put_other values r (values from) e.lock apart.1.1.1.0.0)
              ∙ tag;
        };
        sound = sound;
      };
      others = λ y out. z.others y (beside_wider y r out) ∙ put_other values r (values from) y (beside_ne y r out);
    }

handed_few : (b : Bool) (r from : ℕ) (e : Entry) → AreFew 5 (flat_code.Move r from ∷ move_entry_if b (held_from r).tag e)
handed_few false r from e = record { assign = refl; few = omega arith }
handed_few true r from e = record { assign = refl; few = omega arith }

-- the entry of the first free registers can go to a temporary
free_first : (r free : ℕ) → r + 5 ≤ free → IsReadFirst r (held_from free).tag
free_first r free le = record {
  bound = λ e. omega arith;
  key_first = λ e. omega arith;
  key_second = λ e. omega arith;
  lock_first = λ e. omega arith;
  lock_second = λ e. omega arith;
  lock_third = λ e. omega arith;
}

free_apart : (r free : ℕ) → r + 5 ≤ free → AreNoneOf (entry_registers (held_from free).tag) (r ∷ [])
free_apart r free le =
    (((λ e. omega arith), tt), (((λ e. omega arith), tt), (((λ e. omega arith), tt), (((λ e. omega arith), tt), tt))))

-- ---- which value is given

given_word : (f : Fixity) (old new : ℕ) (values : flat.Values) (was is : Value) → values old ≡ was.word
    → values new ≡ is.word → values (given_register f old new) ≡ (given_value f was is).word
given_word Prefix old new values was is e g = g
given_word Postfix old new values was is e g = e

given_tag : (f : Fixity) (was is : Value) (P : Value → Type 0) → P was → P is → P (given_value f was is)
given_tag Prefix was is P e g = g
given_tag Postfix was is P e g = e

module _ (c : Compiled) (IsGood : Bytes → Type 0) (right : IsCompiled c IsGood) (u n : ℕ) (temps : Temps)
    (ws : List Frame) (s : State) (v : flat.State) (xs : List flat.Frame)
    (h : IsAt c IsGood u n temps ws s u (c.layout.address u n) v xs)
    (words : HasWords (flat.Stands u (c.layout.address u n) v xs)) where
  abbrev pc : ℕ
  pc = c.layout.address u n

  abbrev T : (temporary : ℕ) → ℕ
  T i = temporary_register h.code i

  abbrev free : ℕ
  free = first_free h.code

  abbrev o : OperatorCode
  o = c.layout.expansion.inline.operators

  abbrev E : (next temporary : ℕ) → Bool
  E next i = c.layout.expansion.entries u next i

  abbrev Follows : Stage → Type 0
  Follows a = Result c IsGood a (flat.Stands u (c.layout.address u n) v xs)

  abbrev body : List FlatInstruction
  body = body_of (function_in c.layout.program u)

  abbrev Come : (place : ℕ) → (after : flat.State) → (most : ℕ) → Type 0
  Come = Reached (map_of c) c.layout.program u (c.layout.address u n) v xs

  abbrev Done : State → Keys → flat.State → Type 0
  Done = HasActed c IsGood right u n temps ws s v xs h

  -- ---- the right operand

  -- it stands in a register, and all others below stay
  record Operand (y : flat.State) (place most r word : ℕ) (operand : RightOperand) : Type 0 where
    values : flat.Values
    work : ℕ
    reached : Come place (record y { values = values; work = work }) most
    right_is : values (right_register h.code operand r) ≡ word
    right_low : right_register h.code operand r < r + 1
    others : (x : ℕ) → x < r → values x ≡ y.values x

  operand_made : (i : Instruction) → IsNode c u n h.code i → (operand : RightOperand) (y : flat.State) (q most r : ℕ)
      → ((b : ℕ) → is_right operand b ≡ true → takes_word i b ≡ true)
      → right_count operand ≤ most_temporaries h.code.code → first_free h.code ≤ r → Come q y most
      → ((x : ℕ) → x < first_free h.code → y.values x ≡ v.values x) → HasAt body q (right_code operand r)
      → Operand y (q + length (right_code operand r)) (most + 2) r (right_value operand temps).word operand
  operand_made i nd (Temporary b) y q most r takes low above k same has =
      let room = temporary_free h.code b low in
      let place : q ≡ q + 0 = omega arith in
      record {
        values = y.values;
        work = y.work;
        reached = subst (λ z. Come z y (most + 2)) place
            (record { steps = k.steps; comes = k.comes; few = (let few = k.few in omega arith) });
        right_is = same (T b) (omega arith)
            ∙ sym (taken c IsGood right u n temps ws s v xs h words.0 i nd b (takes b (eq-eqb b b refl)) low);
        right_low = omega arith;
        others = λ x lt. refl;
      }
  operand_made i nd One y q most r takes low above k same has =
      let one = constant_comes (map_of c) c.layout.program u q y xs r 1 has.0 in
      record {
        values = put y.values r 1;
        work = y.work + one.work;
        reached = reached_next (map_of c) c.layout.program u xs pc q (q + 1) v y
            (record y { values = put y.values r 1 }) most 2 k one;
        right_is = put_same y.values r 1;
        right_low = omega arith;
        others = λ x lt. put_other y.values r 1 x (λ e. omega arith);
      }

  -- ---- integers

  module _ (op : BinaryOperator) (t kt : IntType) (f : Fixity) (mode : Mode) (line end_line : ℕ) (key : Option ℕ)
      (d a : ℕ) (r : RightOperand) (next : ℕ)
      (at : slice_get h.code.code n
      ≡ Some (tac.Update (Arithmetic op t) (Integer kt) f mode line end_line key d a r next)) (q : Value)
      (held : IsHeldAt (world c h.keys s v) (c.layout.expansion.entries u n a) q (temporary_register h.code a) v.values)
      (direct : IsDirect s.objects q (scalar_size (Integer kt))) where
    abbrev label : Instruction
    label = tac.Update (Arithmetic op t) (Integer kt) f mode line end_line key d a r next

    nd : IsNode c u n h.code (tac.Update (Arithmetic op t) (Integer kt) f mode line end_line key d a r next)
    nd = node c IsGood right u n temps ws s v xs h
        (tac.Update (Arithmetic op t) (Integer kt) f mode line end_line key d a r next) at

    low : d < most_temporaries h.code.code
    low = omega (arith, nd.temporaries_low)

    from : a < most_temporaries h.code.code
    from = omega (arith, nd.temporaries_low)

    right_low : right_count r ≤ most_temporaries h.code.code
    right_low = omega (arith, nd.temporaries_low)

    abbrev paid : State
    paid = spent (cost (tac.Update (Arithmetic op t) (Integer kt) f mode line end_line key d a r next)) s

    abbrev place : Place
    place = place_in s.objects direct.object q.word

    abbrev old : Value
    old = read_value (Integer kt) (place_in s.objects direct.object q.word) s.objects

    abbrev word : ℕ
    word = (right_value r temps).word

    abbrev behind : State
    behind = behind_read (size_of kt) q paid

    -- the lists
    abbrev load_list : List FlatInstruction
    load_list = c.layout.expansion.inline.load (temporary_register h.code a) (HeldInteger kt (first_free h.code))
        (first_free h.code + 1)

    abbrev first_list : List FlatInstruction
    first_list = o.convert t (free + 1) free (free + 2 + 1)

    abbrev right_list : List FlatInstruction
    right_list = right_code r (free + 2)

    abbrev binary_list : List FlatInstruction
    binary_list = o.binary op t (free + 1) (free + 1) (right_register h.code r (free + 2)) (free + 2 + 1) end_line

    abbrev last_list : List FlatInstruction
    last_list = o.convert kt (free + 1) (free + 1) (free + 2 + 1)

    abbrev new_list : List FlatInstruction
    new_list = first_list ++ (right_list ++ (binary_list ++ last_list))

    abbrev store_list : List FlatInstruction
    store_list = c.layout.expansion.inline.store (temporary_register h.code a) (HeldInteger kt (free + 1)) (free + 2)

    abbrev hand_list : List FlatInstruction
    hand_list = flat_code.Move (T d) (given_register f free (free + 1)) ∷ untagged (E next d) (T d)

    -- their places
    abbrev at_first : ℕ
    at_first = c.layout.address u n + length load_list

    abbrev at_right : ℕ
    at_right = c.layout.address u n + length load_list + length first_list

    abbrev at_binary : ℕ
    at_binary = c.layout.address u n + length load_list + length first_list + length right_list

    abbrev at_last : ℕ
    at_last = c.layout.address u n + length load_list + length first_list + length right_list + length binary_list

    abbrev at_store : ℕ
    at_store = c.layout.address u n + length load_list + length first_list + length right_list + length binary_list
        + length last_list

    has_rest : HasAt body at_first (new_list ++ (store_list ++ hand_list))
    has_rest = has_back body pc load_list (new_list ++ (store_list ++ hand_list)) nd.put.has

    has_new : HasAt body at_first new_list
    has_new = has_front body at_first new_list (store_list ++ hand_list) has_rest

    has_right_on : HasAt body at_right (right_list ++ (binary_list ++ last_list))
    has_right_on = has_back body at_first first_list (right_list ++ (binary_list ++ last_list)) has_new

    has_binary_on : HasAt body at_binary (binary_list ++ last_list)
    has_binary_on = has_back body at_right right_list (binary_list ++ last_list) has_right_on

    new_length : length new_list ≡ length first_list + length right_list + length binary_list + length last_list
    new_length = omega (
      arith,
      length-append first_list (right_list ++ (binary_list ++ last_list)),
      length-append right_list (binary_list ++ last_list),
      length-append binary_list last_list,
    )

    has_store_on : HasAt body at_store (store_list ++ hand_list)
    has_store_on = subst (λ z. HasAt body z (store_list ++ hand_list)) (omega (arith, new_length))
        (has_back body at_first new_list (store_list ++ hand_list) has_rest)

    leads_behind : Leads body (at_store + length store_list + length hand_list) (c.layout.address u next)
    leads_behind = subst (λ z. Leads body z (c.layout.address u next))
        (omega (
          arith,
          new_length,
          length-append load_list (new_list ++ (store_list ++ hand_list)),
          length-append new_list (store_list ++ hand_list),
          length-append store_list hand_list,
        )) nd.put.leads

    -- the old value
    load_passed : Passes (map_of c) c.layout.program
        (record { function = u; place = c.layout.address u n; state = v; frames = xs }) at_first 2
        (λ y. HasGiven (views c) h.keys IsGood (Word free) (free + 1) paid v old behind y)
    load_passed =
        let room = temporary_free h.code a from in
        let into = HeldInteger kt free in
        let under : AreBelow (free + 1) (T a ∷ free ∷ []) = (omega arith, (omega arith, tt)) in
        action_passes c IsGood right u h.code h.there xs (IsToAccess into)
        (λ vs. load (Integer kt) false (argument 0 vs) line) (Word (T a) ∷ []) (Word free) (free + 1) 1 load_list
        (right.inline.load (T a) into (free + 1) under tt line) (right.inline.computes.load (T a) into (free + 1) under tt)
        pc v (record { has = has_front body pc load_list (new_list ++ (store_list ++ hand_list)) nd.put.has; words = words.0 })
        h.keys paid (q ∷ []) (for_worked (views c) h.keys IsGood s paid.work v h.stands.for) (held.word, tt) direct old behind
        (loaded (Integer kt) q line paid direct)

    abbrev y1 : flat.State
    y1 = load_passed.after

    load_others : (x : ℕ) → x < first_free h.code → load_passed.after.values x ≡ v.values x
    load_others x lt = load_passed.holds.others x (omega arith) ((λ e. omega arith), tt)

    load_done : Done (behind_action s behind) load_passed.holds.keys load_passed.after
    load_done =
        acted_then c IsGood right u n temps ws s v xs h (Word free) (free + 1) paid.work old s behind h.keys v y1
        (nothing_done c IsGood right u n temps ws s v xs h) load_passed.holds
        (leaves_read c IsGood right u n temps ws s v xs h words.0 (cost label) (Integer kt) q direct held.sound) h.steady.keys

    first_made : Computes (map_of c) c.layout.program
        (record { function = u; place = at_first; state = load_passed.after; frames = xs }) at_right (free + 1)
        (fit t (load_passed.after.values free)) (free + 2 + 1) 2
    first_made = right.inline.operators.convert (map_of c) c.layout.program
        (record { function = u; place = at_first; state = y1; frames = xs }) t (free + 1) free (free + 2 + 1) (omega arith)
        (omega arith)
        (record { has = has_front body at_first first_list (right_list ++ (binary_list ++ last_list)) has_new; words = load_passed.words })

    abbrev y2 : flat.State
    y2 = record load_passed.after { values = first_made.after; work = load_passed.after.work + first_made.work }

    operand : Operand y2 at_binary 8 (free + 2) word r
    operand =
        operand_made label nd r y2 at_right 6 (free + 2) (λ b e. or_left (is_right r b) (b == a) e) right_low
        (omega arith)
        (reached_computed (map_of c) c.layout.program u xs pc at_first at_right (free + 1) (fit t (y1.values free)) (free + 2 + 1)
        v y1 2 2 load_passed.reached first_made)
        (λ x lt. first_made.others x (omega arith) (λ e. omega arith) ∙ load_others x lt)
        (has_front body at_right right_list (binary_list ++ last_list) has_right_on)

    abbrev y3 : flat.State
    y3 = record load_passed.after { values = operand.values; work = operand.work }

    same_value : binary_value op t (operand.values (free + 1)) (operand.values (right_register h.code r (free + 2)))
        ≡ binary_value op t (fit t old.word) word
    same_value = ap₂ (binary_value op t)
        (operand.others (free + 1) (omega arith) ∙ first_made.gives ∙ ap (fit t) load_passed.holds.given) operand.right_is

    binary_here : IsHere c.layout.program (record { function = u; place = at_binary; state = y3; frames = xs }) binary_list
    binary_here = record {
      has = has_front body at_binary binary_list last_list has_binary_on;
      words = reached_words (map_of c) c.layout.program u xs pc at_binary v y3 8 words operand.reached;
    }

    right_below : right_register h.code r (free + 2) < free + 2 + 1
    right_below = operand.right_low

    -- a division by zero
    pub divided : binary_value op t (fit t old.word) word ≡ None → Follows (Over (Divide end_line) behind)
    divided e =
        let m = map_of c in
        let p = c.layout.program in
        let k = right.inline.operators.divides m p (record { function = u; place = at_binary; state = y3; frames = xs }) op t
        (free + 1) (free + 1) (right_register h.code r (free + 2)) (free + 2 + 1) end_line (omega arith) (omega arith)
        right_below binary_here (same_value ∙ e) in
        let small = most_small op in
        let light = weight_small (function_in c.layout.program u) in
        let work = scaled (binary_most op + length (report_of (Divide end_line))) _ k.work k.few light in
        let so_far = operand.reached.few in
        let before = h.work in
        let shown = load_done.stands.for.shown in
        let turns = load_done.stands.turns in
        ends c IsGood (flat.Stands u (c.layout.address u n) v xs) (Divide end_line) behind
        (record y3 { values = k.after; work = y3.work + k.work }) (operand.reached.steps + k.steps)
        (code_of (Divide end_line)) (report_of (Divide end_line))
        (run_add (step m p) operand.reached.steps k.steps (flat.Stands u pc v xs)
        ∙ ap (run (step m p) k.steps) operand.reached.comes ∙ k.comes) refl refl
        (record { input = shown.input; output = shown.output; taken = shown.taken; accesses = shown.accesses }) turns
        (omega arith)

    -- the new value
    module _ (w : ℕ) (value_is : binary_value op t (fit t old.word) word ≡ Some w) where
      abbrev new : Value
      new = integer (fit kt w)

      abbrev given_is : Value
      given_is = given_value f (read_value (Integer kt) (place_in s.objects direct.object q.word) s.objects) (integer (fit kt w))

      abbrev written : State
      written = behind_write (Integer kt) q (place_in s.objects direct.object q.word) (integer (fit kt w)) behind

      binary_made : Computes (map_of c) c.layout.program
          (record { function = u; place = at_binary; state = y3; frames = xs }) at_last (free + 1) w (free + 2 + 1)
          (binary_most op)
      binary_made = right.inline.operators.binary (map_of c) c.layout.program
          (record { function = u; place = at_binary; state = y3; frames = xs }) op t (free + 1) (free + 1)
          (right_register h.code r (free + 2)) (free + 2 + 1) end_line w (omega arith) (omega arith) right_below binary_here
          (same_value ∙ value_is)

      abbrev y4 : flat.State
      y4 = record load_passed.after { values = binary_made.after; work = operand.work + binary_made.work }

      binary_reached : Come at_last y4 (8 + binary_most op * 2)
      binary_reached = reached_computed (map_of c) c.layout.program u xs pc at_binary at_last (free + 1) w (free + 2 + 1) v y3 8
          (binary_most op) operand.reached binary_made

      last_made : Computes (map_of c) c.layout.program
          (record { function = u; place = at_last; state = y4; frames = xs }) at_store (free + 1)
          (fit kt (binary_made.after (free + 1))) (free + 2 + 1) 2
      last_made = right.inline.operators.convert (map_of c) c.layout.program
          (record { function = u; place = at_last; state = y4; frames = xs }) kt (free + 1) (free + 1) (free + 2 + 1)
          (omega arith) (omega arith)
          (record {
            has = has_back body at_binary binary_list last_list has_binary_on;
            words = reached_words (map_of c) c.layout.program u xs pc at_last v y4 (8 + binary_most op * 2) words
                binary_reached;
          })

      abbrev y5 : flat.State
      y5 = record load_passed.after {
        values = last_made.after;
        work = operand.work + binary_made.work + last_made.work;
      }

      last_reached : Come at_store y5 (8 + binary_most op * 2 + 2 * 2)
      last_reached = reached_computed (map_of c) c.layout.program u xs pc at_last at_store (free + 1)
          (fit kt (binary_made.after (free + 1))) (free + 2 + 1) v y4 (8 + binary_most op * 2) 2 binary_reached last_made

      new_is : last_made.after (free + 1) ≡ fit kt w
      new_is = last_made.gives ∙ ap (fit kt) binary_made.gives

      stays : (x : ℕ) → x < free + 1 → last_made.after x ≡ load_passed.after.values x
      stays x lt =
          last_made.others x (omega arith) (λ e. omega arith) ∙ binary_made.others x (omega arith) (λ e. omega arith)
          ∙ operand.others x (omega arith) ∙ first_made.others x (omega arith) (λ e. omega arith)

      as_now : Done (behind_action s behind) load_passed.holds.keys y5
      as_now = acted_as c IsGood right u n temps ws s v xs h behind load_passed.holds.keys y1 y5.values y5.work load_done

      store_passed : Passes (map_of c) c.layout.program
          (record { function = u; place = at_store; state = y5; frames = xs }) (at_store + length store_list) 2
          (λ y. HasGiven (views c) load_passed.holds.keys IsGood Nowhere (free + 2) behind y5 (integer 0) written y)
      store_passed =
          let room = temporary_free h.code a from in
          held_passes c IsGood right u h.code h.there xs (HeldInteger kt (free + 1)) (T a) (free + 2)
          (omega arith, (omega arith, tt)) at_store y5 (has_front body at_store store_list hand_list has_store_on)
          (reached_words (map_of c) c.layout.program u xs pc at_store v y5 (8 + binary_most op * 2 + 2 * 2) words last_reached)
          load_passed.holds.keys behind q new as_now.stands.for
          (stays (T a) (omega arith) ∙ load_others (T a) (omega arith) ∙ held.word) new_is direct

      store_done : Done (behind_action s written) store_passed.holds.keys store_passed.after
      store_done =
          acted_then c IsGood right u n temps ws s v xs h Nowhere (free + 2) behind.work (integer 0) behind written
          load_passed.holds.keys y5 store_passed.after as_now store_passed.holds
          (leaves_write c IsGood right u n temps ws s v xs h behind 0 behind.work (Integer kt) q new direct load_done.leaves.good
          held.sound tt) h.steady.keys

      given_plain : given_is.tag ≡ Untagged
      given_plain = given_tag f old new (λ z. z.tag ≡ Untagged) (read_untagged kt place s.objects) refl

      pub updates : Follows (Stands u next (with_temp temps d (rvalue given_is)) ws written)
      updates =
          let room = temporary_free h.code d low in
          let l = store_passed.holds in
          let y6 = store_passed.after in
          let small = most_small op in
          let given_there = given_word f free (free + 1) y6.values old new
          (l.others free (omega arith) tt ∙ stays free (omega arith) ∙ load_passed.holds.given)
          (l.others (free + 1) (omega arith) tt ∙ new_is) in
          let placed = integer_moved (world c l.keys written y6) (E next d) given_is (T d) (given_register f free (free + 1))
          y6.values given_plain given_there in
          let all = reached_then (map_of c) c.layout.program u xs pc at_store (at_store + length store_list) v y5 y6
          (8 + binary_most op * 2 + 2 * 2) 2 last_reached store_passed.reached in
          let e = ends_with c IsGood right u n temps ws s v xs h (at_store + length store_list)
          (8 + binary_most op * 2 + 2 * 2 + 2) 5 next y6 hand_list all
          (integer_few (E next d) (T d) (given_register f free (free + 1)))
          (has_back body at_store store_list hand_list has_store_on) leads_behind in
          acts_giving c IsGood right u n temps ws s v xs h label nd d next given_is written l.keys
          (record y6 { values = assigned hand_list y6.values; work = e.0 })
          (8 + binary_most op * 2 + 2 * 2 + 2 + 2 * 5 + 2) refl (inl refl) low e.1
          (acted_as c IsGood right u n temps ws s v xs h written l.keys y6 (assigned hand_list y6.values) e.0 store_done)
          (λ x lt out. placed.others x out ∙ l.others x (omega arith) tt ∙ stays x (omega arith) ∙ load_others x lt)
          placed.held (omega arith)

  -- ---- pointers

  module _ (w : Update) (f : Fixity) (mode : Mode) (line end_line : ℕ) (key : Option ℕ) (d a : ℕ) (r : RightOperand)
      (next : ℕ) (at : slice_get h.code.code n ≡ Some (tac.Update w Pointer f mode line end_line key d a r next)) (q : Value)
      (held : IsHeldAt (world c h.keys s v) (c.layout.expansion.entries u n a) q (temporary_register h.code a) v.values)
      (direct : IsDirect s.objects q 8) (size : ℕ) (small : size < 2 ^ 64)
      (code : (size into left right scratch : ℕ) → List FlatInstruction) (value : (size left right : ℕ) → ℕ)
      (leaves : LeavesAddress code value 0)
      (alone : (size into left right scratch : ℕ) → IsWithoutInputOutput (code size into left right scratch)) where
    abbrev pointer_label : Instruction
    pointer_label = tac.Update w Pointer f mode line end_line key d a r next

    pointer_node : IsNode c u n h.code (tac.Update w Pointer f mode line end_line key d a r next)
    pointer_node = node c IsGood right u n temps ws s v xs h (tac.Update w Pointer f mode line end_line key d a r next) at

    to_low : d < most_temporaries h.code.code
    to_low = omega (arith, pointer_node.temporaries_low)

    through_low : a < most_temporaries h.code.code
    through_low = omega (arith, pointer_node.temporaries_low)

    operand_low : right_count r ≤ most_temporaries h.code.code
    operand_low = omega (arith, pointer_node.temporaries_low)

    abbrev pointer_paid : State
    pointer_paid = spent (cost (tac.Update w Pointer f mode line end_line key d a r next)) s

    abbrev where_is : Place
    where_is = place_in s.objects direct.object q.word

    abbrev was : Value
    was = read_value Pointer (place_in s.objects direct.object q.word) s.objects

    abbrev right_word : ℕ
    right_word = (right_value r temps).word

    abbrev read_behind : State
    read_behind = behind_read 8 q pointer_paid

    -- the lists
    abbrev into_pointer : HeldScalar
    into_pointer = HeldPointer (held_from (first_free h.code))

    abbrev from_pointer : HeldScalar
    from_pointer = HeldPointer (record { value = first_free h.code + 5; tag = (held_from (first_free h.code)).tag })

    abbrev loads : List FlatInstruction
    loads = c.layout.expansion.inline.load (temporary_register h.code a) (HeldPointer (held_from (first_free h.code)))
        (first_free h.code + 5)

    abbrev rights : List FlatInstruction
    rights = right_code r (free + 6)

    abbrev moves : List FlatInstruction
    moves = code size (free + 5) free (right_register h.code r (free + 6)) (free + 6 + 1)

    abbrev stores : List FlatInstruction
    stores = c.layout.expansion.inline.store (temporary_register h.code a)
        (HeldPointer (record { value = first_free h.code + 5; tag = (held_from (first_free h.code)).tag }))
        (first_free h.code + 6)

    abbrev hands : List FlatInstruction
    hands = flat_code.Move (T d) (given_register f free (free + 5))
        ∷ move_entry_if (E next d) (held_from (T d)).tag (held_from free).tag

    abbrev at_rights : ℕ
    at_rights = c.layout.address u n + length loads

    abbrev at_moves : ℕ
    at_moves = c.layout.address u n + length loads + length rights

    abbrev at_stores : ℕ
    at_stores = c.layout.address u n + length loads + length rights + length moves

    module _ (has : HasAt body pc (loads ++ ((rights ++ moves) ++ (stores ++ hands))))
        (leads : Leads body (pc + length (loads ++ ((rights ++ moves) ++ (stores ++ hands)))) (c.layout.address u next))
        (new : Value) (new_word : new.word ≡ value size was.word right_word) (new_tag : new.tag ≡ was.tag) where
      has_rights_on : HasAt body at_rights ((rights ++ moves) ++ (stores ++ hands))
      has_rights_on = has_back body pc loads ((rights ++ moves) ++ (stores ++ hands)) has

      has_address : HasAt body at_rights (rights ++ moves)
      has_address = has_front body at_rights (rights ++ moves) (stores ++ hands) has_rights_on

      has_stores_on : HasAt body at_stores (stores ++ hands)
      has_stores_on = subst (λ z. HasAt body z (stores ++ hands)) (omega (arith, length-append rights moves))
          (has_back body at_rights (rights ++ moves) (stores ++ hands) has_rights_on)

      leads_on_behind : Leads body (at_stores + length stores + length hands) (c.layout.address u next)
      leads_on_behind = subst (λ z. Leads body z (c.layout.address u next))
          (omega (
            arith,
            length-append rights moves,
            length-append loads ((rights ++ moves) ++ (stores ++ hands)),
            length-append (rights ++ moves) (stores ++ hands),
            length-append stores hands,
          )) leads

      -- the old value
      pointer_loaded : Passes (map_of c) c.layout.program
          (record { function = u; place = c.layout.address u n; state = v; frames = xs }) at_rights 42
          (λ y. HasGiven (views c) h.keys IsGood (InPointer (held_from free)) (free + 5) pointer_paid v was read_behind y)
      pointer_loaded =
          let room = temporary_free h.code a through_low in
          let under : AreBelow (free + 5) (T a ∷ held_registers (held_from free)) = (omega arith, below free (free + 5) (omega arith)) in
          let apart : AreDistinct (T a ∷ held_registers (held_from free)) =
          (none_of (T a) free (inl (omega arith)), distinct free) in
          action_passes c IsGood right u h.code h.there xs (IsToAccess into_pointer)
          (λ vs. load Pointer false (argument 0 vs) line) (Word (T a) ∷ []) (InPointer (held_from free)) (free + 5) 21 loads
          (right.inline.load (T a) into_pointer (free + 5) under apart line)
          (right.inline.computes.load (T a) into_pointer (free + 5) under apart) pc v
          (record { has = has_front body pc loads ((rights ++ moves) ++ (stores ++ hands)) has; words = words.0 }) h.keys
          pointer_paid (q ∷ []) (for_worked (views c) h.keys IsGood s pointer_paid.work v h.stands.for) (held.word, tt) direct
          was read_behind (loaded Pointer q line pointer_paid direct)

      loaded_others : (x : ℕ) → x < first_free h.code → pointer_loaded.after.values x ≡ v.values x
      loaded_others x lt = pointer_loaded.holds.others x (omega arith) (none_of x free (inl lt))

      loaded_done : Done (behind_action s read_behind) pointer_loaded.holds.keys pointer_loaded.after
      loaded_done =
          acted_then c IsGood right u n temps ws s v xs h (InPointer (held_from free)) (free + 5) pointer_paid.work was s
          read_behind h.keys v pointer_loaded.after (nothing_done c IsGood right u n temps ws s v xs h) pointer_loaded.holds
          (leaves_read c IsGood right u n temps ws s v xs h words.0 (cost pointer_label) Pointer q direct held.sound)
          h.steady.keys

      pointer_operand : Operand pointer_loaded.after at_moves 44 (free + 6) right_word r
      pointer_operand = operand_made pointer_label pointer_node r pointer_loaded.after at_rights 42 (free + 6)
          (λ b e. or_left (is_right r b) (b == a) e) operand_low (omega arith) pointer_loaded.reached loaded_others (has_front body at_rights rights moves has_address)

      abbrev with_operand : flat.State
      with_operand = record pointer_loaded.after { values = pointer_operand.values; work = pointer_operand.work }

      address_made : Computes (map_of c) c.layout.program
          (record { function = u; place = at_moves; state = with_operand; frames = xs }) at_stores (free + 5)
          (value size (pointer_operand.values free) (pointer_operand.values (right_register h.code r (free + 6))))
          (free + 6 + 1) 7
      address_made =
          let low = pointer_operand.right_low in
          inline_computes (map_of c) c.layout.program
          (record { function = u; place = at_moves; state = with_operand; frames = xs }) moves 1 (free + 5) (free + 6 + 1) 7
          (λ z. value size (z.values free) (z.values (right_register h.code r (free + 6))))
          (alone size (free + 5) free (right_register h.code r (free + 6)) (free + 6 + 1))
          (leaves (context (map_of c) c.layout.program u xs) 1 size (free + 5) free (right_register h.code r (free + 6))
          (free + 6 + 1) (omega arith) small
          (record { into_below = omega arith; left_below = omega arith; right_below = low }))
          (record {
            has = has_back body at_rights rights moves has_address;
            words = reached_words (map_of c) c.layout.program u xs pc at_moves v with_operand 44 words pointer_operand.reached;
          })

      abbrev with_new : flat.State
      with_new = record pointer_loaded.after { values = address_made.after; work = pointer_operand.work + address_made.work }

      address_reached : Come at_stores with_new 58
      address_reached = reached_computed (map_of c) c.layout.program u xs pc at_moves at_stores (free + 5) _ (free + 6 + 1) v
          with_operand 44 7 pointer_operand.reached address_made

      new_there : address_made.after (free + 5) ≡ new.word
      new_there = address_made.gives
          ∙ ap₂ (value size) (pointer_operand.others free (omega arith) ∙ pointer_loaded.holds.given.word)
          pointer_operand.right_is ∙ sym new_word

      old_stays : (x : ℕ) → x < free + 5 → address_made.after x ≡ pointer_loaded.after.values x
      old_stays x lt =
          address_made.others x (omega arith) (λ e. omega arith) ∙ pointer_operand.others x (omega arith)

      old_sound : IsSoundTag (views c).functions s.objects was.tag
      old_sound = sound_read Pointer where_is s.objects h.stands.for.objects.sound

      new_sound : IsSoundTag (views c).functions s.objects new.tag
      new_sound = subst (IsSoundTag (views c).functions s.objects) (sym new_tag) old_sound

      entry_there : metadata_in address_made.after (held_from free).tag ≡ spell (views c) pointer_loaded.holds.keys was.tag
      entry_there =
          same_metadata (metadata_in address_made.after (held_from free).tag)
          (metadata_in pointer_loaded.after.values (held_from free).tag) (old_stays (free + 1) (omega arith))
          (old_stays (free + 2) (omega arith)) (old_stays (free + 3) (omega arith)) (old_stays (free + 4) (omega arith))
          ∙ pointer_loaded.holds.given.tag

      new_now : Done (behind_action s read_behind) pointer_loaded.holds.keys with_new
      new_now = acted_as c IsGood right u n temps ws s v xs h read_behind pointer_loaded.holds.keys pointer_loaded.after
          with_new.values with_new.work loaded_done

      pointer_stored : Passes (map_of c) c.layout.program
          (record { function = u; place = at_stores; state = with_new; frames = xs }) (at_stores + length stores) 54
          (λ y. HasGiven (views c) pointer_loaded.holds.keys IsGood Nowhere (free + 6) read_behind with_new (integer 0)
          (behind_write Pointer q where_is new read_behind) y)
      pointer_stored =
          let room = temporary_free h.code a through_low in
          held_passes c IsGood right u h.code h.there xs from_pointer (T a) (free + 6)
          (omega arith, (omega arith, (omega arith, (omega arith, (omega arith, (omega arith, tt)))))) at_stores with_new
          (has_front body at_stores stores hands has_stores_on)
          (reached_words (map_of c) c.layout.program u xs pc at_stores v with_new 58 words address_reached)
          pointer_loaded.holds.keys read_behind q new new_now.stands.for
          (old_stays (T a) (omega arith) ∙ loaded_others (T a) (omega arith) ∙ held.word) (
            record {
              word = new_there;
              tag = entry_there ∙ ap (spell (views c) pointer_loaded.holds.keys) (sym new_tag);
            },
            new_sound,
          ) direct

      pointer_done : Done (behind_action s (behind_write Pointer q where_is new read_behind)) pointer_stored.holds.keys
          pointer_stored.after
      pointer_done =
          acted_then c IsGood right u n temps ws s v xs h Nowhere (free + 6) read_behind.work (integer 0) read_behind
          (behind_write Pointer q where_is new read_behind) pointer_loaded.holds.keys with_new pointer_stored.after new_now
          pointer_stored.holds
          (leaves_write c IsGood right u n temps ws s v xs h read_behind 0 read_behind.work Pointer q new direct
          loaded_done.leaves.good held.sound new_sound) h.steady.keys

      pub pointer_updated : Follows (Stands u next (with_temp temps d (rvalue (given_value f was new))) ws
          (behind_write Pointer q where_is new read_behind))
      pointer_updated =
          let room = temporary_free h.code d to_low in
          let l = pointer_stored.holds in
          let y = pointer_stored.after in
          let z = behind_write Pointer q where_is new read_behind in
          let gives = given_value f was new in
          let tag_is = given_tag f was new (λ x. x.tag ≡ was.tag) refl new_tag in
          let there = given_word f free (free + 5) y.values was new
          (l.others free (omega arith) tt ∙ old_stays free (omega arith) ∙ pointer_loaded.holds.given.word)
          (l.others (free + 5) (omega arith) tt ∙ new_there) in
          let spelled = same_metadata (metadata_in y.values (held_from free).tag)
          (metadata_in address_made.after (held_from free).tag) (l.others (free + 1) (omega arith) tt)
          (l.others (free + 2) (omega arith) tt) (l.others (free + 3) (omega arith) tt) (l.others (free + 4) (omega arith) tt)
          ∙ entry_there ∙ sym (spell_kept (views c) pointer_loaded.holds.keys l.keys s.objects l.held was.tag old_sound)
          ∙ ap (spell (views c) l.keys) (sym tag_is) in
          let placed = pointer_handed (world c l.keys z y) (E next d) gives (T d) (given_register f free (free + 5))
          (held_from free).tag y.values (free_first (T d) free room) (free_apart (T d) free room) there spelled
          (subst (IsSoundTag (views c).functions z.objects) (sym tag_is)
          (sound_tag_continues (views c).functions s.objects z.objects pointer_done.goes.continues was.tag old_sound)) in
          let all = reached_then (map_of c) c.layout.program u xs pc at_stores (at_stores + length stores) v with_new y 58 54
          address_reached pointer_stored.reached in
          let e = ends_with c IsGood right u n temps ws s v xs h (at_stores + length stores) 112 5 next y hands all
          (handed_few (E next d) (T d) (given_register f free (free + 5)) (held_from free).tag)
          (has_back body at_stores stores hands has_stores_on) leads_on_behind in
          acts_giving c IsGood right u n temps ws s v xs h pointer_label pointer_node d next gives z l.keys
          (record y { values = assigned hands y.values; work = e.0 }) 124 refl (inl refl) to_low e.1
          (acted_as c IsGood right u n temps ws s v xs h z l.keys y (assigned hands y.values) e.0 pointer_done)
          (λ x lt out. placed.others x out ∙ l.others x (omega arith) tt ∙ old_stays x (omega arith) ∙ loaded_others x lt)
          placed.held (omega arith)
