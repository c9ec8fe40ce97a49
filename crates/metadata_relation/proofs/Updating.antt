-- Updates of plain variables: the variable gets the new value, and a temporary that or the old one.
use Rattle.std.proofs.Common.{◌≡◌, ◌≢◌, ◌⊎◌, inl, inr, ℕ, ◌+◌, ◌-◌, ◌*◌, ◌%◌, ◌^◌, ◌<◌, ◌≤◌, Bool, true, false, List}
use Rattle.std.proofs.Common.{[], ◌∷◌, ◌++◌, length, length-append, set, Option, Some, None, refl, sym, ap, ap₂, ◌∙◌}
use Rattle.std.proofs.Common.{subst}
use Rattle.std.proofs.Common.{arith, lt-ltb, ltb-true}
use Rattle.std.specs.Prelude.{slice_get, ◌==◌, ◌&&◌}
use Rattle.std.proofs.lemmas.Bool.{and_parts, eq-eqb, eqb-true, eqb-false}
use Rattle.std.proofs.lemmas.List.{length-map}
use Rattle.behaviours.specs.Steps.{run}
use Rattle.behaviours.proofs.Running.{run_add}
use Rattle.addr_map.specs.Places.{MapSizes}
use Rattle.sb_base.specs.declared.ending.Ending.TheVariants.{Divide}
use Rattle.sb_base.specs.Endings.{code_of, report_of}
use Rattle.obj_memory.specs.declared.int_type.IntType.{IntType}
use Rattle.obj_memory.specs.declared.operator.BinaryOperator.{BinaryOperator}
use Rattle.obj_memory.specs.declared.value.Scalar.{Scalar}
use Rattle.obj_memory.specs.declared.value.Scalar.TheVariants.{Integer, Pointer}
use Rattle.obj_memory.specs.declared.value.Value.{Value}
use Rattle.obj_memory.specs.Integers.{fit}
use Rattle.obj_memory.specs.Judgement.{moved}
use Rattle.obj_memory.specs.Operators.{binary_value}
use Rattle.obj_memory.specs.Sound.{IsSoundTag}
use Rattle.obj_memory.proofs.Words.{fit_twice}
use Rattle.c_tree.specs.declared.expression.Kind.TheVariants.{Scalar as OfScalar}
use Rattle.c_tree.specs.declared.expression.Update.{Update}
use Rattle.c_tree.specs.declared.expression.Update.TheVariants.{Arithmetic, Forward, Back}
use Rattle.c_tree.specs.declared.expression.Fixity.{Fixity}
use Rattle.c_tree.specs.declared.expression.Fixity.TheVariants.{Prefix, Postfix}
use Rattle.source_meaning.specs.State.{State, on, done, ◌>>◌}
use Rattle.source_meaning.specs.Actions.{integer, value_or_divide, set_plain, plain_value, moved_back}
use Rattle.source_meaning.specs.Actions.{given as given_of}
use Rattle.source_meaning.specs.Calls.{header_of}
use Rattle.source_meaning.specs.Good.{plain_type}
use Rattle.source_meaning.specs.Structures.{rvalue, give}
use Rattle.source_meaning.proofs.ValidNames.{same_kind}
use Rattle.tac_ir.specs.declared.instruction.RightOperand.{RightOperand}
use Rattle.tac_ir.specs.declared.instruction.RightOperand.TheVariants.{Temporary, One}
use Rattle.tac_ir.specs.declared.instruction.Instruction.{Instruction}
use Rattle.tac_ir.specs.declared.instruction.Instruction.TheVariants as tac
use Rattle.tac_ir.specs.Edges.{LeadsTo}
use Rattle.tac_ir.specs.Fitting.{is_of_type, is_type, is_update_of}
use Rattle.tac_ir.specs.Stage.{Temps, with_temp, Frame, Stage, Stands, Over, came}
use Rattle.tac_ir.specs.Temporaries.{right_count}
use Rattle.tac_ir.specs.Costs.{spent}
use Rattle.tac_ir.specs.Meaning.{effect, given_in, right_value, function_in as code_in, variables_in}
use Rattle.flat_code.specs.declared.instruction.FlatInstruction.{FlatInstruction}
use Rattle.flat_code.specs.declared.instruction.FlatInstruction.TheVariants as flat_code
use Rattle.flat_code.specs.declared.function.FlatProgram.{FlatProgram}
use Rattle.flat_code.specs.Memory.{Bytes, put}
use Rattle.flat_code.specs.State as flat
use Rattle.flat_code.specs.Calls.{function_in}
use Rattle.flat_code.specs.Meaning.{body_of, context, step}
use Rattle.flat_code.specs.Words.{HasWords}
use Rattle.flat_code.proofs.Stored.{put_same, put_other}
use Rattle.flat_operators.specs.Pointers.{address_forward, address_back}
use Rattle.flat_code.specs.Routines.InputOutput.{IsWithoutInputOutput}
use Rattle.flat_code.specs.declared.registers.Entry.{Entry}
use Rattle.flat_code.specs.Routines.Metadata.{metadata_in, no_metadata}
use Rattle.flat_code.specs.Routines.Objects.StandsFor.{spell}
use Rattle.flat_code.specs.Routines.Routine.{HasAt}
use Rattle.flat_code.proofs.Routines.Steps.{has_front, has_back}
use Rattle.flat_code.proofs.Routines.Words.{same_metadata}
use Rattle.runtime_functions.specs.Library.{held_from}
use Rattle.metadata_plan.specs.Registers.{all_variables, most_temporaries}
use Rattle.metadata_plan.specs.Entries.{given}
use Rattle.metadata_plan.specs.Expanded.{Leads}
use Rattle.metadata_plan.specs.Operators.{OperatorCode, AreOperators, Computes, binary_most}
use Rattle.metadata_plan.proofs.Numbers.{scaled}
use Rattle.metadata_plan.proofs.Flat.{weight_small}
use Rattle.metadata_plan.proofs.Simple.{most_small}
use Rattle.metadata_relation.specs.Contents.{takes_word, is_right}
use Rattle.metadata_relation.specs.InlineCode.{Leaves as LeavesAddress}
use Rattle.metadata_relation.specs.Registers.{variable_register, variables_end, temporary_register, first_free}
use Rattle.metadata_relation.specs.Blocks.{move_entry_if, untagged, right_code, right_register}
use Rattle.metadata_relation.specs.Blocks.{given_register}
use Rattle.metadata_relation.specs.Holding.{IsHeldAt, is_pointer_type}
use Rattle.metadata_relation.specs.Stages.{Compiled, map_of, views, names, world, activation, expansion_of, IsAt}
use Rattle.metadata_relation.specs.Steps.{IsCompiled, is_update_by_word}
use Rattle.metadata_relation.proofs.Assigning.{assigned, are_assignments, cleared, wider, not_into}
use Rattle.metadata_relation.proofs.Holding.{same_world, gives_variable, gives_temporary}
use Rattle.metadata_relation.proofs.Inline.{inline_computes}
use Rattle.metadata_relation.proofs.Moving.{integer_is}
use Rattle.metadata_relation.proofs.Parts.{SoFar, moment, at_first, stands_here, then_computed, then_assigned}
use Rattle.metadata_relation.proofs.Pointers.{IsReadFirst, IsEntryMoved, entry_moved}
use Rattle.metadata_relation.proofs.Registers.{count_in, variable_low, temporary_free}
use Rattle.metadata_relation.proofs.Setting.{plain_inside, good_set, no_tag_is}
use Rattle.metadata_relation.proofs.Simple.{taken}
use Rattle.metadata_relation.proofs.Standing.{IsNode, node, fewer, arrives, leads_on, ends, Result}

-- what is given, of the word before and the new one
abbrev given_word : Fixity → (old new : ℕ) → ℕ
given_word Prefix old new = new
given_word Postfix old new = old

given_is : (f : Fixity) (old : Value) (before new : ℕ) → old ≡ integer before
    → given_of f old (integer new) ≡ integer (given_word f before new)
given_is Prefix old before new e = refl
given_is Postfix old before new e = e

-- a pointer is given with the tag that both have
given_pointer : (f : Fixity) (old new : Value) → new.tag ≡ old.tag
    → ((given_of f old new).word ≡ given_word f old.word new.word) × ((given_of f old new).tag ≡ old.tag)
given_pointer Prefix old new e = (refl, e)
given_pointer Postfix old new e = (refl, refl)

-- the type of a variable is that of the update
type_is : (o : Option Scalar) (k : Scalar) → is_type o k ≡ true → o ≡ Some k
type_is None k e = cc
type_is (Some l) k e = ap Some (scalar_is l k (same_kind (OfScalar l) (OfScalar k) e))
  where
    scalar_is : (l k : Scalar) → OfScalar l ≡ OfScalar k → l ≡ k
    scalar_is l k e = cc

-- the old or the new word goes to the result, and the new one to the variable
pub record AreHanded (into variable old new given : ℕ) (values after : flat.Values) : Type 0 where
  pub given_is : after into ≡ given
  pub variable_is : after variable ≡ new
  pub others : (y : ℕ) → y ≢ into → y ≢ variable → after y ≡ values y

handed : (f : Fixity) (d x n old new : ℕ) (values : flat.Values) → d ≢ x → n ≢ d → values x ≡ old → values n ≡ new
    → AreHanded d x old new (given_word f old new) values
    (put (put values d (values (given_register f x n))) x (put values d (values (given_register f x n)) n))
handed f d x n old new values apart free is_old is_new =
    let first : flat.Values = put values d (values (given_register f x n)) in
    record {
      given_is = put_other first x (first n) d apart ∙ put_same values d (values (given_register f x n)) ∙ by f;
      variable_is = put_same first x (first n) ∙ put_other values d (values (given_register f x n)) n free ∙ is_new;
      others = λ y nd nx. put_other first x (first n) y nx
          ∙ put_other values d (values (given_register f x n)) y nd;
    }
  where
    by : (f : Fixity) → values (given_register f x n) ≡ given_word f old new
    by Prefix = is_new
    by Postfix = is_old

-- ---- what stands behind the word of a result

-- where an entry is kept, that of no pointer
pub record IsUntagged (with_entry : Bool) (register : ℕ) (values after : flat.Values) : Type 0 where
  pub entry : with_entry ≡ true → metadata_in after (held_from register).tag ≡ no_metadata
  pub others : (y : ℕ) → (y < register + 1) ⊎ (register + 5 ≤ y) → after y ≡ values y

pub untagged_are : (b : Bool) (r : ℕ) → (are_assignments (untagged b r) ≡ true) × (length (untagged b r) ≤ 4)
untagged_are true r = (refl, omega arith)
untagged_are false r = (refl, omega arith)

pub untagged_leaves : (b : Bool) (r : ℕ) (values : flat.Values)
    → IsUntagged b r values (assigned (untagged b r) values)
untagged_leaves true r values =
    let z = cleared r values in record { entry = λ e. z.entry; others = λ y out. z.others y out }
untagged_leaves false r values = record { entry = λ e. cc; others = λ y out. refl }

-- or that of a variable
move_entry_are : (b : Bool) (r x : ℕ)
    → (are_assignments (move_entry_if b (held_from r).tag (held_from x).tag) ≡ true)
    × (length (move_entry_if b (held_from r).tag (held_from x).tag) ≤ 4)
move_entry_are true r x = (refl, omega arith)
move_entry_are false r x = (refl, omega arith)

move_entry_leaves : (b : Bool) (r : ℕ) (e : Entry) (values : flat.Values) → IsReadFirst r e
    → IsEntryMoved r b e values (assigned (move_entry_if b (held_from r).tag e) values)
move_entry_leaves true r e values first = entry_moved r e values first
move_entry_leaves false r e values first = record { entry = λ q. cc; others = λ y out. refl }

-- ---- the right operand

abbrev right_most : RightOperand → ℕ
right_most (Temporary b) = 0
right_most One = 2

few_right : (right : RightOperand) → right_most right ≤ 2
few_right (Temporary b) = omega arith
few_right One = omega arith

module _ (c : Compiled) (IsGood : Bytes → Type 0) (right : IsCompiled c IsGood) (u n : ℕ) (temps : Temps)
    (ws : List Frame) (s : State) (v : flat.State) (xs : List flat.Frame)
    (h : IsAt c IsGood u n temps ws s u (c.layout.address u n) v xs)
    (words : HasWords (flat.Stands u (c.layout.address u n) v xs)) where
  abbrev pc : ℕ
  pc = c.layout.address u n

  abbrev T : (temporary : ℕ) → ℕ
  T i = temporary_register h.code i

  abbrev V : (variable : ℕ) → ℕ
  V x = variable_register h.code x

  abbrev free : ℕ
  free = first_free h.code

  abbrev o : OperatorCode
  o = c.layout.expansion.inline.operators

  abbrev ops : AreOperators c.layout.expansion.inline.operators
  ops = right.inline.operators

  abbrev map : MapSizes
  map = map_of c

  abbrev p : FlatProgram
  p = c.layout.program

  abbrev Gives : Stage → Type 0
  Gives a = Result c IsGood a (flat.Stands u (c.layout.address u n) v xs)

  abbrev body : List FlatInstruction
  body = body_of (function_in c.layout.program u)

  abbrev Far : (place : ℕ) (values : flat.Values) (most : ℕ) → Type 0
  Far place values most = SoFar (map_of c) c.layout.program u (c.layout.address u n) v xs words place values most

  -- A plain variable gets one value and a temporary another.
  gives_both : (i : Instruction) → IsNode c u n h.code i → (d x next : ℕ) (kind : Scalar) (new given_value : Value)
      (between values : flat.Values) (most : ℕ) → given i ≡ Some d → LeadsTo i next
      → d < most_temporaries h.code.code → plain_type (all_variables h.code) x ≡ Some kind
      → is_of_type kind new ≡ true → Far (c.layout.address u next) values most
      → ((y : ℕ) → y < free → (y < V x) ⊎ (V x + count_in kind ≤ y) → between y ≡ v.values y)
      → ((y : ℕ) → y < free → (y < T d) ⊎ (T d + 5 ≤ y) → values y ≡ between y)
      → IsHeldAt (world c h.keys s v) (is_pointer_type kind) new (V x) between
      → IsHeldAt (world c h.keys s v) (c.layout.expansion.entries u next d) given_value (T d) values
      → most ≤ 42
      → Gives (Stands u next (with_temp temps d (rvalue given_value)) ws
      (record (spent 2 s) { plain = set s.plain x new }))
  gives_both i k d x next kind new given_value between values most gives leads low typed fits comes first others held
      given_held few =
      let shown = h.stands.for.shown in
      let count = h.holds.count in
      let there = plain_inside (all_variables h.code) x kind typed in
      let inside : x < length s.plain = omega arith in
      let below = variable_low h.code x kind typed in
      let functions : length c.setting.functions ≡ length c.typed.functions =
      ap length (sym right.functions) ∙ length-map c.typed.functions header_of in
      let g = views c in
      let on = same_world (views c) h.keys s.objects v.memory in
      let a = activation c h.code u n s in
      let one = gives_variable (views c) h.keys h.keys s.objects s.objects v.memory v.memory on a
      (c.layout.expansion.entries u n) (c.layout.expansion.contents u n) temps s.plain s.frame v.values between x kind
      new typed inside (λ j e. e) (λ j e. e) (λ y b home live is. live) first
      (record { value = held; no_tag = no_tag_is kind new fits }) h.holds in
      arrives c IsGood right u n temps ws s v xs h next (with_temp temps d (rvalue given_value)) (set s.plain x new)
      s.input s.output s.taken s.turns (s.work + 2) values v.input v.output v.taken v.turns most comes
      (shown.input, shown.output, shown.taken, h.stands.turns)
      (good_set (names c) u ws s x (s.work + 2) kind new
      (ap (λ z. plain_type (variables_in z) x) h.there ∙ typed) inside fits
      (subst (λ z. IsSoundTag z s.objects new.tag) functions held.sound) h.steady.good)
      (gives_temporary (views c) h.keys h.keys s.objects s.objects v.memory v.memory on a
      (c.layout.expansion.entries u next) (c.layout.expansion.contents u next) (λ j. false) temps (set s.plain x new)
      s.frame between values d (rvalue given_value) low
      (fewer c IsGood right u n temps ws s v xs h i k d next gives leads) (λ y b home live is. live) others
      (record { by = given_held; none = λ e. refl }) one)
      (λ r from to. others r (omega arith) (inl (omega arith)) ∙ first r (omega arith) (inr (omega arith)))
      (omega (arith, few))

  -- what stays but a variable's word is what it was with the new word put there
  split : (x d end : ℕ) (values : flat.Values) (new : ℕ) → values x ≡ new
      → ((y : ℕ) → y < end → y ≢ d → y ≢ x → values y ≡ v.values y) → (y : ℕ) → y < end → y ≢ d
      → values y ≡ put v.values x new y
  split x d end values new is others y lt nd = by (y == x) refl
    where
      by : (b : Bool) → (y == x) ≡ b → values y ≡ put v.values x new y
      by true e =
          let same = eqb-true y x e in
          ap values same ∙ is ∙ sym (put_same v.values x new) ∙ ap (put v.values x new) (sym same)
      by false e =
          let ne = eqb-false y x e in others y lt nd ne ∙ sym (put_other v.values x new y ne)

  -- ---- the right operand

  abbrev right_word : RightOperand → ℕ
  right_word (Temporary b) = v.values (temporary_register h.code b)
  right_word One = 1

  record Operand (place most : ℕ) (r : RightOperand) (a : flat.Values) : Type 0 where
    values : flat.Values
    comes : Far place values most
    right_is : values (right_register h.code r (first_free h.code + 1)) ≡ right_word r
    right_low : right_register h.code r (first_free h.code + 1) < first_free h.code + 1 + 1
    others : (y : ℕ) → y < first_free h.code + 1 → values y ≡ a y

  operand_made : (q : ℕ) (a : flat.Values) (k : ℕ) → Far q a k → (r : RightOperand)
      → right_count r ≤ most_temporaries h.code.code → HasAt body q (right_code r (free + 1))
      → ((y : ℕ) → y < free → a y ≡ v.values y)
      → Operand (q + length (right_code r (free + 1))) (k + right_most r) r a
  operand_made q a k K (Temporary b) low has same =
      let room = temporary_free h.code b (omega (arith, low)) in
      let e : q ≡ q + 0 = omega arith in
      let f : k ≡ k + 0 = omega arith in
      record {
        values = a;
        comes = subst (λ z. Far (q + 0) a z) f (subst (λ z. Far z a k) e K);
        right_is = same (T b) (omega (arith, room));
        right_low = omega (arith, room);
        others = λ y lt. refl;
      }
  operand_made q a k K One low has same = record {
    values = put a (free + 1) 1;
    comes = then_assigned map p u pc v xs words q a k K (flat_code.Constant (free + 1) 1 ∷ []) refl has;
    right_is = put_same a (free + 1) 1;
    right_low = omega arith;
    others = λ y lt. put_other a (free + 1) 1 y (λ e. omega arith);
  }

  right_is : (i : Instruction) → IsNode c u n h.code i → (r : RightOperand)
      → ((y : ℕ) → is_right r y ≡ true → takes_word i y ≡ true)
      → right_count r ≤ most_temporaries h.code.code → (right_value r temps).word ≡ right_word r
  right_is i k (Temporary b) takes low =
      taken c IsGood right u n temps ws s v xs h words.0 i k b (takes b (eq-eqb b b refl)) (omega (arith, low))
  right_is i k One takes low = refl

  -- ---- integers

  module _ (op : BinaryOperator) (t k : IntType) (f : Fixity) (line d x : ℕ) (r : RightOperand) (next : ℕ)
      (at : slice_get h.code.code n ≡ Some (tac.UpdatePlain (Arithmetic op t) (Integer k) f line d x r next))
      (typed : plain_type (all_variables h.code) x ≡ Some (Integer k)) where
    abbrev i : Instruction
    i = tac.UpdatePlain (Arithmetic op t) (Integer k) f line d x r next

    label : IsNode c u n h.code (tac.UpdatePlain (Arithmetic op t) (Integer k) f line d x r next)
    label = node c IsGood right u n temps ws s v xs h (tac.UpdatePlain (Arithmetic op t) (Integer k) f line d x r next) at

    low : (d < most_temporaries h.code.code) × (right_count r ≤ most_temporaries h.code.code)
    low = let a = label.temporaries_low in (omega arith, omega arith)

    d_room : temporary_register h.code d + 5 ≤ first_free h.code
    d_room = temporary_free h.code d low.0

    x_room : variable_register h.code x + 1 ≤ variables_end h.code
    x_room = variable_low h.code x (Integer k) typed

    abbrev part_one : List FlatInstruction
    part_one = c.layout.expansion.inline.operators.convert t (first_free h.code) (variable_register h.code x)
        (first_free h.code + 1 + 1)

    abbrev part_two : List FlatInstruction
    part_two = right_code r (first_free h.code + 1)

    abbrev part_three : List FlatInstruction
    part_three = c.layout.expansion.inline.operators.binary op t (first_free h.code) (first_free h.code)
        (right_register h.code r (first_free h.code + 1)) (first_free h.code + 1 + 1) line

    abbrev part_four : List FlatInstruction
    part_four = c.layout.expansion.inline.operators.convert k (first_free h.code) (first_free h.code)
        (first_free h.code + 1 + 1)

    abbrev making : List FlatInstruction
    making = part_one ++ (part_two ++ (part_three ++ part_four))

    abbrev handing : (b : Bool) → List FlatInstruction
    handing b = flat_code.Move (temporary_register h.code d)
        (given_register f (variable_register h.code x) (first_free h.code))
        ∷ flat_code.Move (variable_register h.code x) (first_free h.code)
        ∷ untagged b (temporary_register h.code d)

    abbrev q1 : ℕ
    q1 = c.layout.address u n + length part_one

    abbrev q2 : ℕ
    q2 = c.layout.address u n + length part_one + length part_two

    abbrev q3 : ℕ
    q3 = c.layout.address u n + length part_one + length part_two + length part_three

    abbrev q4 : ℕ
    q4 = c.layout.address u n + length part_one + length part_two + length part_three + length part_four

    has_making : HasAt body pc making
    has_making = has_front body pc making (handing (c.layout.expansion.entries u next d)) label.put.has

    has_two_on : HasAt body q1 (part_two ++ (part_three ++ part_four))
    has_two_on = has_back body pc part_one (part_two ++ (part_three ++ part_four)) has_making

    has_three_on : HasAt body q2 (part_three ++ part_four)
    has_three_on = has_back body q1 part_two (part_three ++ part_four) has_two_on

    making_is : pc + length making ≡ q4
    making_is = omega (
      arith,
      length-append part_one (part_two ++ (part_three ++ part_four)),
      length-append part_two (part_three ++ part_four),
      length-append part_three part_four,
    )

    has_handing : HasAt body q4 (handing (c.layout.expansion.entries u next d))
    has_handing = subst (λ z. HasAt body z (handing (c.layout.expansion.entries u next d))) making_is
        (has_back body pc making (handing (c.layout.expansion.entries u next d)) label.put.has)

    abbrev old : ℕ
    old = v.values (variable_register h.code x)

    first_values : Computes (map_of c) c.layout.program (moment (map_of c) c.layout.program u (c.layout.address u n) v xs
        words (c.layout.address u n) v.values 0
        (at_first (map_of c) c.layout.program u (c.layout.address u n) v xs words)) q1 (first_free h.code) (fit t old)
        (first_free h.code + 1 + 1) 2
    first_values =
        ops.convert map p (moment map p u pc v xs words pc v.values 0 (at_first map p u pc v xs words)) t free (V x)
        (free + 1 + 1) (omega arith) (omega (arith, x_room))
        (stands_here map p u pc v xs words pc v.values 0 (at_first map p u pc v xs words) part_one
        (has_front body pc part_one (part_two ++ (part_three ++ part_four)) has_making))

    operands : Operand q2 (0 + 4 + right_most r) r first_values.after
    operands = operand_made q1 first_values.after (0 + 4)
        (then_computed map p u pc v xs words pc v.values 0 (at_first map p u pc v xs words) q1 free (fit t old)
        (free + 1 + 1) 2 first_values) r low.1 (has_front body q1 part_two (part_three ++ part_four) has_two_on)
        (λ y lt. first_values.others y (omega arith) (λ e. omega arith))

    left_is : operands.values (first_free h.code) ≡ fit t old
    left_is = operands.others free (omega arith) ∙ first_values.gives

    kept : (y : ℕ) → y < first_free h.code → operands.values y ≡ v.values y
    kept y lt = operands.others y (omega arith) ∙ first_values.others y (omega arith) (λ e. omega arith)

    same_value : binary_value op t (operands.values (first_free h.code))
        (operands.values (right_register h.code r (first_free h.code + 1)))
        ≡ binary_value op t (fit t old) (right_word r)
    same_value = ap₂ (binary_value op t) left_is operands.right_is

    abbrev most_so_far : ℕ
    most_so_far = 0 + 4 + right_most r

    updated_to : (w : ℕ) → binary_value op t (fit t old) (right_word r) ≡ Some w
        → Gives (Stands u next (with_temp temps d (rvalue (integer (given_word f old (fit k w))))) ws
        (record (spent 2 s) { plain = set s.plain x (integer (fit k w)) }))
    updated_to w e =
        let most = binary_most op in
        let small = most_small op in
        let few = few_right r in
        let new = fit k w in
        let r3 = ops.binary map p (moment map p u pc v xs words q2 operands.values most_so_far operands.comes) op t free
        free (right_register h.code r (free + 1)) (free + 1 + 1) line w (omega arith) (omega arith) operands.right_low
        (stands_here map p u pc v xs words q2 operands.values most_so_far operands.comes part_three
        (has_front body q2 part_three part_four has_three_on)) (same_value ∙ e) in
        let k3 = most_so_far + most * 2 in
        let K3 = then_computed map p u pc v xs words q2 operands.values most_so_far operands.comes q3 free w
        (free + 1 + 1) most r3 in
        let r4 = ops.convert map p (moment map p u pc v xs words q3 r3.after k3 K3) k free free (free + 1 + 1)
        (omega arith) (omega arith)
        (stands_here map p u pc v xs words q3 r3.after k3 K3 part_four (has_back body q2 part_three part_four has_three_on))
        in
        let k4 = k3 + 2 * 2 in
        let K4 = then_computed map p u pc v xs words q3 r3.after k3 K3 q4 free (fit k (r3.after free)) (free + 1 + 1) 2 r4
        in
        let stay : (y : ℕ) → y < free → r4.after y ≡ v.values y = λ y lt.
        r4.others y (omega arith) (λ z. omega arith) ∙ r3.others y (omega arith) (λ z. omega arith) ∙ kept y lt in
        let is_new : r4.after free ≡ new = r4.gives ∙ ap (fit k) r3.gives in
        let hand = handed f (T d) (V x) free old new r4.after (λ z. omega (arith, x_room, z))
        (λ z. omega (arith, d_room, z)) (stay (V x) (omega (arith, x_room))) is_new in
        let last = put (put r4.after (T d) (r4.after (given_register f (V x) free))) (V x)
        (put r4.after (T d) (r4.after (given_register f (V x) free)) free) in
        let between = put v.values (V x) new in
        let beside : (y : ℕ) → y < free → y ≢ T d → last y ≡ between y = λ y lt ne.
        split (V x) (T d) free last new hand.variable_is (λ z zl nd nx. hand.others z nd nx ∙ stay z zl) y lt ne in
        let b = c.layout.expansion.entries u next d in
        let tail = handing b in
        let plain = untagged_are b (T d) in
        let count = plain.1 in
        let K5 = then_assigned map p u pc v xs words q4 r4.after k4 K4 tail plain.0 has_handing in
        let k5 = k4 + 2 * length tail in
        let after = assigned tail r4.after in
        let z = untagged_leaves b (T d) last in
        let word : after (T d) ≡ given_word f old new = z.others (T d) (inl (omega arith)) ∙ hand.given_is in
        gives_both i label d x next (Integer k) (integer new) (integer (given_word f old new)) between after (k5 + 2) refl
        (inl refl) low.0 typed (eq-eqb (fit k new) new (fit_twice k w))
        (leads_on c IsGood right u n temps ws s v xs h (q4 + length tail) (c.layout.address u next)
        (record v { values = after }) k5 K5
        (subst (λ z. Leads body z (c.layout.address u next)) (omega (arith, length-append making tail, making_is))
        label.put.leads))
        (λ y lt out. put_other v.values (V x) new y (outside y out))
        (λ y lt out. z.others y (wider y (T d) out) ∙ beside y lt (not_into y (T d) out))
        (record { word = put_same v.values (V x) new; entry = λ e. cc; sound = tt })
        (record { word = word; entry = λ e. record { word = word; tag = z.entry e }; sound = tt })
        (omega (arith, small, few, count))
      where
        outside : (y : ℕ) → (y < variable_register h.code x) ⊎ (variable_register h.code x + 1 ≤ y)
            → y ≢ variable_register h.code x
        outside y (inl below) e = absurd (omega arith)
        outside y (inr above) e = absurd (omega arith)

    divided_by_zero : binary_value op t (fit t old) (right_word r) ≡ None → Gives (Over (Divide line) (spent 2 s))
    divided_by_zero e =
        let d = ops.divides map p (moment map p u pc v xs words q2 operands.values most_so_far operands.comes) op t free
        free (right_register h.code r (free + 1)) (free + 1 + 1) line (omega arith) (omega arith) operands.right_low
        (stands_here map p u pc v xs words q2 operands.values most_so_far operands.comes part_three
        (has_front body q2 part_three part_four has_three_on)) (same_value ∙ e) in
        let light = weight_small (function_in p u) in
        let work = scaled (binary_most op + length (report_of (Divide line))) _ d.work d.few light in
        let small = most_small op in
        let few = few_right r in
        let K = operands.comes in
        let most = K.few in
        let before = h.work in
        let shown = h.stands.for.shown in
        ends c IsGood (flat.Stands u (c.layout.address u n) v xs) (Divide line) (spent 2 s)
        (record v { values = d.after; work = v.work + K.work + d.work }) (K.steps + d.steps) (code_of (Divide line))
        (report_of (Divide line))
        (run_add (step map p) K.steps d.steps (flat.Stands u (c.layout.address u n) v xs)
        ∙ ap (run (step map p) d.steps) K.comes ∙ d.comes) refl refl
        (record { input = shown.input; output = shown.output; taken = shown.taken; accesses = shown.accesses })
        h.stands.turns (omega (arith, work, small, few, most, before))

    -- the instruction, by the operator's value and what the variable held
    abbrev stage_by : (before : Value) → Option ℕ → Stage
    stage_by before q =
        came (on (on (on (value_or_divide q line (spent 2 s)) (λ z. done (integer (fit k z.word)))) (λ new.
        (set_plain x new >> done (given_of f before new)))) (λ z. give z)) (given_in u next temps d ws)

    old_is : plain_value x s ≡ integer (v.values (variable_register h.code x))
    old_is = let z = h.holds.variables x (Integer k) typed in
        integer_is (plain_value x s) (v.values (V x)) z.no_tag z.value.word

    outcome : (q : Option ℕ) → binary_value op t (fit t old) (right_word r) ≡ q → Gives (stage_by (plain_value x s) q)
    outcome None e = divided_by_zero e
    outcome (Some w) e =
        subst (λ z. Gives (Stands u next (with_temp temps d (rvalue z)) ws
        (record (spent 2 s) { plain = set s.plain x (integer (fit k w)) })))
        (sym (given_is f (plain_value x s) old (fit k w) old_is)) (updated_to w e)

    integer_updated : Gives (effect c.setting (expansion_of c).code (tac.UpdatePlain (Arithmetic op t) (Integer k) f line d
        x r next) u temps ws (spent 2 s))
    integer_updated =
        let same : fit t (plain_value x s).word ≡ fit t old = ap (λ (z : Value). fit t z.word) old_is in
        let both = ap₂ (binary_value op t) same (right_is i label r (λ y e. e) low.1) in
        subst (λ q. Gives (stage_by (plain_value x s) q)) (sym both)
        (outcome (binary_value op t (fit t old) (right_word r)) refl)

  -- ---- pointers

  module _ (i : Instruction) (label : IsNode c u n h.code i) (d x next : ℕ) (r : RightOperand) (f : Fixity)
      (gives : given i ≡ Some d) (leads : LeadsTo i next) (low : d < most_temporaries h.code.code)
      (right_low : right_count r ≤ most_temporaries h.code.code)
      (typed : plain_type (all_variables h.code) x ≡ Some Pointer) where
    d_free : temporary_register h.code d + 5 ≤ first_free h.code
    d_free = temporary_free h.code d low

    x_low : variable_register h.code x + 5 ≤ variables_end h.code
    x_low = variable_low h.code x Pointer typed

    abbrev old_pointer : Value
    old_pointer = plain_value x s

    abbrev to_hand : (b : Bool) → List FlatInstruction
    to_hand b = flat_code.Move (temporary_register h.code d)
        (given_register f (variable_register h.code x) (first_free h.code))
        ∷ flat_code.Move (variable_register h.code x) (first_free h.code)
        ∷ move_entry_if b (held_from (temporary_register h.code d)).tag (held_from (variable_register h.code x)).tag

    -- the entry of a variable is read as it stands
    read_first : IsReadFirst (temporary_register h.code d) (held_from (variable_register h.code x)).tag
    read_first = record {
      bound = λ e. omega (arith, x_low, e);
      key_first = λ e. omega (arith, x_low, e);
      key_second = λ e. omega (arith, x_low, e);
      lock_first = λ e. omega (arith, x_low, e);
      lock_second = λ e. omega (arith, x_low, e);
      lock_third = λ e. omega (arith, x_low, e);
    }

    pointer_updated : (code : (size into left right scratch : ℕ) → List FlatInstruction)
        (value : (size left right : ℕ) → ℕ) → LeavesAddress code value 0
        → ((size into left right scratch : ℕ) → IsWithoutInputOutput (code size into left right scratch))
        → (size : ℕ) → size < 2 ^ 64 → (new : Value)
        → value size (plain_value x s).word (right_word r) ≡ new.word → new.tag ≡ (plain_value x s).tag
        → is_of_type Pointer new ≡ true
        → HasAt (body_of (function_in c.layout.program u)) (c.layout.address u n)
        ((right_code r (first_free h.code + 1)
        ++ code size (first_free h.code) (variable_register h.code x)
        (right_register h.code r (first_free h.code + 1)) (first_free h.code + 1 + 1))
        ++ to_hand (c.layout.expansion.entries u next d))
        → Leads (body_of (function_in c.layout.program u)) (c.layout.address u n
        + length ((right_code r (first_free h.code + 1)
        ++ code size (first_free h.code) (variable_register h.code x)
        (right_register h.code r (first_free h.code + 1)) (first_free h.code + 1 + 1))
        ++ to_hand (c.layout.expansion.entries u next d))) (c.layout.address u next)
        → Gives (Stands u next (with_temp temps d (rvalue (given_of f (plain_value x s) new))) ws
        (record (spent 2 s) { plain = set s.plain x new }))
    pointer_updated code value leaves alone size fits new word_is tag_is type_fits has on =
        let rr = right_register h.code r (free + 1) in
        let b = c.layout.expansion.entries u next d in
        let first = right_code r (free + 1) in
        let second = code size free (V x) rr (free + 1 + 1) in
        let tail = to_hand b in
        let making = first ++ second in
        let has_making = has_front body pc making tail has in
        let q1 = pc + length first in
        let q2 = q1 + length second in
        let is_there : pc + length making ≡ q2 = omega (arith, length-append first second) in
        let plain = h.holds.variables x Pointer typed in
        let spells = plain.value.entry refl in
        let right_few = few_right r in
        let m = operand_made pc v.values 0 (at_first map p u pc v xs words) r right_low
        (has_front body pc first second has_making) (λ y lt. refl) in
        let k1 = 0 + right_most r in
        let position = moment map p u pc v xs words q1 m.values k1 m.comes in
        let computed : Computes (map_of c) c.layout.program position q2 free (value size (m.values (V x)) (m.values rr))
        (free + 1 + 1) 7 =
        inline_computes map p position second 1 free (free + 1 + 1) 7 (λ z. value size (z.values (V x)) (z.values rr))
        (alone size free (V x) rr (free + 1 + 1))
        (leaves (context map p u xs) 1 size free (V x) rr (free + 1 + 1) (omega arith) fits
        (record {
          into_below = omega arith;
          left_below = omega (arith, x_low);
          right_below = m.right_low;
        }))
        (stands_here map p u pc v xs words q1 m.values k1 m.comes second (has_back body pc first second has_making)) in
        let k2 = k1 + 7 * 2 in
        let K2 = then_computed map p u pc v xs words q1 m.values k1 m.comes q2 free
        (value size (m.values (V x)) (m.values rr)) (free + 1 + 1) 7 computed in
        let a2 = computed.after in
        let stay : (y : ℕ) → y < free → a2 y ≡ v.values y = λ y lt.
        computed.others y (omega arith) (λ z. omega arith) ∙ m.others y (omega arith) in
        let old_word : v.values (V x) ≡ (plain_value x s).word = plain.value.word in
        let is_old : a2 (V x) ≡ (plain_value x s).word = stay (V x) (omega (arith, x_low)) ∙ old_word in
        let is_new : a2 free ≡ new.word =
        computed.gives
        ∙ ap₂ (value size) (m.others (V x) (omega (arith, x_low)) ∙ old_word) m.right_is ∙ word_is in
        let hand = handed f (T d) (V x) free (plain_value x s).word new.word a2 (λ z. omega (arith, x_low, z))
        (λ z. omega (arith, d_free, z)) is_old is_new in
        let last = put (put a2 (T d) (a2 (given_register f (V x) free))) (V x)
        (put a2 (T d) (a2 (given_register f (V x) free)) free) in
        let between = put v.values (V x) new.word in
        let beside : (y : ℕ) → y < free → y ≢ T d → last y ≡ between y = λ y lt ne.
        split (V x) (T d) free last new.word hand.variable_is (λ z zl nd nx. hand.others z nd nx ∙ stay z zl) y lt ne in
        let along = move_entry_are b (T d) (V x) in
        let count = along.1 in
        let K3 = then_assigned map p u pc v xs words q2 a2 k2 K2 tail along.0
        (subst (λ z. HasAt body z tail) is_there (has_back body pc making tail has)) in
        let k3 = k2 + 2 * length tail in
        let after = assigned tail a2 in
        let z = move_entry_leaves b (T d) (held_from (V x)).tag last read_first in
        let give_is = given_pointer f (plain_value x s) new tag_is in
        let word : after (T d) ≡ (given_of f (plain_value x s) new).word =
        z.others (T d) (inl (omega arith)) ∙ hand.given_is ∙ sym give_is.0 in
        let entry_there : metadata_in last (held_from (V x)).tag ≡ metadata_in v.values (held_from (V x)).tag =
        same_metadata (metadata_in last (held_from (V x)).tag) (metadata_in v.values (held_from (V x)).tag)
        (own last (λ y lt nd nx. hand.others y nd nx ∙ stay y lt) 1 (omega arith) (omega arith))
        (own last (λ y lt nd nx. hand.others y nd nx ∙ stay y lt) 2 (omega arith) (omega arith))
        (own last (λ y lt nd nx. hand.others y nd nx ∙ stay y lt) 3 (omega arith) (omega arith))
        (own last (λ y lt nd nx. hand.others y nd nx ∙ stay y lt) 4 (omega arith) (omega arith)) in
        let entry_between : metadata_in between (held_from (V x)).tag ≡ metadata_in v.values (held_from (V x)).tag =
        same_metadata (metadata_in between (held_from (V x)).tag) (metadata_in v.values (held_from (V x)).tag)
        (put_other v.values (V x) new.word (V x + 1) (λ e. omega arith))
        (put_other v.values (V x) new.word (V x + 2) (λ e. omega arith))
        (put_other v.values (V x) new.word (V x + 3) (λ e. omega arith))
        (put_other v.values (V x) new.word (V x + 4) (λ e. omega arith)) in
        let spell_new = ap (spell (views c) h.keys) tag_is in
        let spell_given = ap (spell (views c) h.keys) give_is.1 in
        let between_word = put_same v.values (V x) new.word in
        gives_both i label d x next Pointer new (given_of f (plain_value x s) new) between after (k3 + 2) gives leads low
        typed type_fits
        (leads_on c IsGood right u n temps ws s v xs h (q2 + length tail) (c.layout.address u next)
        (record v { values = after }) k3 K3
        (subst (λ z. Leads body z (c.layout.address u next)) (omega (arith, length-append making tail, is_there)) on))
        (λ y lt out. put_other v.values (V x) new.word y (not_into y (V x) out))
        (λ y lt out. z.others y (wider y (T d) out) ∙ beside y lt (not_into y (T d) out))
        (record {
          word = between_word;
          entry = λ e. record { word = between_word; tag = entry_between ∙ spells.tag ∙ sym spell_new };
          sound = subst (IsSoundTag (views c).functions s.objects) (sym tag_is) plain.value.sound;
        })
        (record {
          word = word;
          entry = λ e. record {
            word = word;
            tag = z.entry e ∙ entry_there ∙ spells.tag ∙ sym spell_given;
          };
          sound = subst (IsSoundTag (views c).functions s.objects) (sym give_is.1) plain.value.sound;
        })
        (omega (arith, right_few, count))
      where
        own : (last : flat.Values)
            → ((y : ℕ) → y < first_free h.code → y ≢ temporary_register h.code d → y ≢ variable_register h.code x
            → last y ≡ v.values y) → (j : ℕ) → 1 ≤ j → j < 5
            → last (variable_register h.code x + j) ≡ v.values (variable_register h.code x + j)
        own last others j some few =
            others (V x + j) (omega (arith, x_low)) (λ e. omega (arith, x_low, e)) (λ e. omega (arith, e))

  -- ---- all of them

  pub update_plain_step : (w : Update) (k : Scalar) (f : Fixity) (line d x : ℕ) (r : RightOperand) (next : ℕ)
      → is_update_by_word w ≡ true
      → slice_get h.code.code n ≡ Some (tac.UpdatePlain w k f line d x r next)
      → (is_type (plain_type (variables_in (code_in c.layout.expansion.code u)) x) k && is_update_of w k) ≡ true
      → Gives (effect c.setting (expansion_of c).code (tac.UpdatePlain w k f line d x r next) u temps ws (spent 2 s))
  unfolding moved
  update_plain_step w k f line d x r next short at fits =
      let p = and_parts (is_type (plain_type (variables_in (code_in c.layout.expansion.code u)) x) k) (is_update_of w k)
      fits in
      let same : variables_in (code_in c.layout.expansion.code u) ≡ all_variables h.code = ap variables_in h.there in
      by w k short at (sym (ap (λ z. plain_type z x) same) ∙ type_is _ k p.0) p.1
    where
      by : (w : Update) (k : Scalar) → is_update_by_word w ≡ true
          → slice_get h.code.code n ≡ Some (tac.UpdatePlain w k f line d x r next)
          → plain_type (all_variables h.code) x ≡ Some k → is_update_of w k ≡ true
          → Gives (effect c.setting (expansion_of c).code (tac.UpdatePlain w k f line d x r next) u temps ws (spent 2 s))
      by (Arithmetic op t) (Integer k) short at typed e = integer_updated op t k f line d x r next at typed
      by (Arithmetic op t) Pointer short at typed e = cc
      by (Forward size) (Integer k) short at typed e = cc
      by (Forward size) Pointer short at typed e =
          let i = tac.UpdatePlain (Forward size) Pointer f line d x r next in
          let nd = node c IsGood right u n temps ws s v xs h i at in
          let a = nd.temporaries_low in
          let low : right_count r ≤ most_temporaries h.code.code = omega arith in
          let is = right_is i nd r (λ y e. e) low in
          let new = moved ((right_value r temps).word * size) (plain_value x s) in
          pointer_updated i nd d x next r f refl (inl refl) (omega arith) low typed c.layout.expansion.inline.forward
          address_forward right.inline.forward right.inline.computes.forward size (ltb-true size (2 ^ 64) short) new
          (ap (λ z. ((plain_value x s).word + z * size) % 2 ^ 64) (sym is)) refl
          (lt-ltb new.word (2 ^ 64) (omega arith)) nd.put.has nd.put.leads
      by (Back size) (Integer k) short at typed e = cc
      by (Back size) Pointer short at typed e =
          let i = tac.UpdatePlain (Back size) Pointer f line d x r next in
          let nd = node c IsGood right u n temps ws s v xs h i at in
          let a = nd.temporaries_low in
          let low : right_count r ≤ most_temporaries h.code.code = omega arith in
          let is = right_is i nd r (λ y e. e) low in
          let new = moved_back ((right_value r temps).word * size) (plain_value x s) in
          pointer_updated i nd d x next r f refl (inl refl) (omega arith) low typed c.layout.expansion.inline.back
          address_back right.inline.back right.inline.computes.back size (ltb-true size (2 ^ 64) short) new
          (ap (λ z. ((plain_value x s).word + (2 ^ 64 - z * size % 2 ^ 64)) % 2 ^ 64) (sym is)) refl
          (lt-ltb new.word (2 ^ 64) (omega arith)) nd.put.has nd.put.leads
