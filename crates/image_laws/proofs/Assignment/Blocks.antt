-- The blocks of instructions assign what they read.
use Rattle.std.proofs.Common.{◌≡◌, ◌⊎◌, inl, inr, ℕ, ◌+◌, ◌^◌, ◌<◌, refl, ap, ◌∙◌, subst}
use Rattle.std.proofs.Common.{arith, Bool, true, false, not, List, [], ◌∷◌, ◌++◌, Option, Some, None}
use Rattle.std.specs.Prelude.{slice_get, ◌==◌, if◌then◌else◌}
use Rattle.std.proofs.lemmas.Bool.{or_left, or_right, and_from, and_parts}
use Rattle.std.proofs.lemmas.Bool.{false≢true}
use Rattle.sb_base.specs.declared.ending.Ending.TheVariants.{Abort}
use Rattle.addr_map.specs.declared.region.Region.TheVariants.{Locks}
use Rattle.addr_map.specs.Places.{region_start, function_address}
use Rattle.rv_isa.specs.declared.instruction.RegOp.TheVariants.{Add, Sub}
use Rattle.rv_isa.specs.declared.instruction.BranchOp.TheVariants.{Beq, Bne}
use Rattle.obj_memory.specs.declared.value.Scalar.{Scalar}
use Rattle.obj_memory.specs.declared.value.Scalar.TheVariants.{Integer, Pointer}
use Rattle.c_tree.specs.declared.expression.Kind.{Kind}
use Rattle.c_tree.specs.declared.expression.Kind.TheVariants.{Void, Scalar as OfScalar, Structure, Array}
use Rattle.c_tree.specs.declared.expression.Update.{Update}
use Rattle.c_tree.specs.declared.expression.Fixity.{Fixity}
use Rattle.c_tree.specs.declared.expression.OffsetForm.{OffsetForm}
use Rattle.c_tree.specs.declared.expression.OffsetForm.TheVariants.{PointerPlusIndex, IndexPlusPointer}
use Rattle.c_tree.specs.declared.expression.OffsetForm.TheVariants.{PointerMinusIndex}
use Rattle.c_tree.specs.Kinds.{size_of_kind}
use Rattle.c_tree.specs.Valid.{at_number}
use Rattle.source_meaning.specs.Good.{plain_type}
use Rattle.tac_ir.specs.declared.instruction.Mode.{Mode}
use Rattle.tac_ir.specs.declared.instruction.RightOperand.{RightOperand}
use Rattle.tac_ir.specs.declared.instruction.RightOperand.TheVariants.{Temporary, One}
use Rattle.tac_ir.specs.declared.instruction.Test.{Test}
use Rattle.tac_ir.specs.declared.instruction.Test.TheVariants.{Spatial, Temporal}
use Rattle.tac_ir.specs.declared.instruction.Instruction.{Instruction}
use Rattle.tac_ir.specs.declared.instruction.Instruction.TheVariants as tac
use Rattle.tac_ir.specs.declared.key.Base.{Base}
use Rattle.tac_ir.specs.declared.key.Base.TheVariants.{Plain, Automatic, Static}
use Rattle.tac_ir.specs.declared.key.Key.{Key}
use Rattle.tac_ir.specs.Edges.{successors}
use Rattle.tac_ir.specs.Fitting.{is_update_of}
use Rattle.tac_ir.specs.Meaning.{objects_in, text_in}
use Rattle.flat_code.specs.declared.instruction.RightOperand.TheVariants.{Register, Number}
use Rattle.flat_code.specs.declared.instruction.FlatInstruction.{FlatInstruction}
use Rattle.flat_code.specs.declared.instruction.FlatInstruction.TheVariants.{Branch, Turn}
use Rattle.flat_code.specs.Routines.Metadata.{entry_registers}
use Rattle.flat_operators.specs.Operators.{constant_code, conversion_code, unary_code, binary_code}
use Rattle.flat_operators.specs.Pointers.{offset_code, difference_code}
use Rattle.runtime_functions.specs.declared.runtime.RuntimeFunction.TheVariants.{Zero, Enter, CopyTagged, ZeroArea}
use Rattle.runtime_functions.specs.declared.runtime.RuntimeFunction.TheVariants.{MoveArea, PutArea, TakeArea}
use Rattle.runtime_functions.specs.Library.{held_from}
use Rattle.metadata_plan.specs.Entries.{pointer_of, is_pointer_type, entry_source, key_in}
use Rattle.metadata_plan.specs.Entries.{can_compare, has_area, may_read_part, reads_for, is_name, has_fixed_path}
use Rattle.metadata_plan.specs.OperatorLists.Operators.{operators}
use Rattle.metadata_plan.specs.Registers.{all_variables, most_temporaries}
use Rattle.metadata_plan.proofs.Numbers.{most_at}
use Rattle.metadata_relation.specs.InlineCode.{InlineCode}
use Rattle.metadata_relation.specs.InlineLists.{inline_lists}
use Rattle.metadata_relation.specs.Registers.{temporary_register, variable_register, first_free, home_register}
use Rattle.metadata_relation.specs.Registers.{home_entry, lock_register, top_register}
use Rattle.metadata_relation.specs.Blocks.{Expansion, block, untagged, move_value, move_entry_if, static_object}
use Rattle.metadata_relation.specs.Blocks.{get_code, set_code}
use Rattle.metadata_relation.specs.Blocks.{conversion, update_plain_code, update_code, named_address, named_size}
use Rattle.metadata_relation.specs.Blocks.{path_range}
use Rattle.metadata_relation.specs.Structures.{copy_place, move_area_place, put_area_place, take_area_place}
use Rattle.metadata_relation.specs.Structures.{zero_area_place}
use Rattle.metadata_relation.specs.Blocks.{judge_code, check_code, compare_code, runtime_number, zero_place}
use Rattle.metadata_relation.specs.Blocks.{enter_place}
use Rattle.c_lower.specs.Liveness.Liveness.{reads, is_right}
use Rattle.image_laws.specs.Plans.Assignment.{Registers, IsOneOf, passed_over}
use Rattle.image_laws.specs.Plans.Instructions.{entry_of, value_of, made_registers, is_plain}
use Rattle.image_laws.specs.Plans.Instructions.{is_updated_as, assigns_alone, plain_count}
use Rattle.image_laws.specs.Plans.Instructions.{home_of_base, home_compared, homes_read}
use Rattle.image_laws.proofs.Assignment.Flows.{Flows, followed, and_then, last_append}
use Rattle.image_laws.proofs.Assignment.Straight.{AreIn, are_in_more, straight, nothing}
use Rattle.image_laws.proofs.Assignment.Operators.{constant_gives, conversion_gives, unary_gives, binary_gives}
use Rattle.image_laws.proofs.Assignment.Operators.{quiet_last}
use Rattle.image_laws.proofs.Assignment.Pointers.{Value, given_value, offset_value, difference_value}
use Rattle.image_laws.proofs.Assignment.Values.{Block, named_address as known_address, moved_block, word_block}
use Rattle.image_laws.proofs.Assignment.Values.{zero_block}
use Rattle.image_laws.proofs.Assignment.Values.{set_pointer, set_word, integer, last_moved, move_entry_flows}
use Rattle.image_laws.proofs.Assignment.Values.{constant_flows}
use Rattle.image_laws.proofs.Assignment.Temporaries.{all_one_of}
use Rattle.image_laws.proofs.Assignment.Accesses.{is_pointer, written_block}
use Rattle.image_laws.proofs.Assignment.ReadParts.{read_block}
use Rattle.image_laws.proofs.Assignment.Updates.{IsRight, updated_integer, updated_pointer, changed_integer}
use Rattle.image_laws.proofs.Assignment.Updates.{changed_pointer}
use Rattle.image_laws.proofs.Assignment.Checks.{narrowed_block, checked_block, ranged_block, part_flows, stored_part}
use Rattle.image_laws.proofs.Assignment.Checks.{stored_text, zeroed_block}
use Rattle.image_laws.proofs.Assignment.Structures.{structure_of_zeros, structure_stored, structure_taken}
use Rattle.image_laws.proofs.Assignment.Structures.{structure_written}
use Rattle.image_laws.proofs.Assignment.Homes.{named_block, entered_block, left_flows}
use Rattle.image_laws.proofs.Assignment.Sites.{Site, P as NamedAt, B as BlockAt, Has as HasAt, temporary_named, own}
use Rattle.image_laws.proofs.Assignment.Sites.{home_named, top_named, variable_named, free_named, itself, no_entry}
use Rattle.image_laws.proofs.Assignment.Sites.{word}
use Rattle.image_laws.proofs.Assignment.Sites.{stopped, from_source, tagged_in}
use Rattle.image_laws.proofs.Assignment.CallBlocks.{print, call, through, return, library_block}

module _ (site : Site) where
  open site use {p, u, whole, read, write, entries, callees, c, n, here, closed, G, low, variables}

  abbrev pub e : Expansion
  e = record whole { inline = inline_lists read write whole.map }

  abbrev P : Registers
  P = NamedAt site

  abbrev B : List FlatInstruction → List ℕ → Type 1
  B = BlockAt site

  abbrev Has : Instruction → Type 0
  Has = HasAt site

  abbrev Lists : InlineCode
  Lists = inline_lists read write whole.map

  -- ---- values

  valued : (is : List FlatInstruction) (b : Bool) (d : ℕ) → d < most_temporaries c.code
      → Value p u P G is (temporary_register c d)
      → B (is ++ untagged b (temporary_register c d)) (value_of b (temporary_register c d))
  valued is b d lt v =
      integer p u P G is b (temporary_register c d) (temporary_named site d b lt).1 v.flows
      (quiet_last p (λ y. G y ⊎ IsOneOf (value_of b (temporary_register c d)) y) is v.quiet)

  variable_in : (x : ℕ) (b : Bool) (k : Scalar) → plain_type (all_variables c) x ≡ Some k
      → (b ≡ true → k ≡ Pointer) → AreIn (value_of b (variable_register c x)) G
  variable_in x false k e only =
      let z : variable_register c x + 0 ≡ variable_register c x = omega arith in
      (subst G z (variables x 0 k e (by k)), tt)
    where
      by : (k : Scalar) → 0 < plain_count k
      by (Integer t) = omega arith
      by Pointer = omega arith
  variable_in x true k e only =
      let z : variable_register c x + 0 ≡ variable_register c x = omega arith in
      let has = λ (j : ℕ) (lt : j < 5).
      variables x j Pointer (e ∙ ap Some (only refl)) lt in (
        subst G z (has 0 (omega arith)),
        (has 1 (omega arith), (has 2 (omega arith), (has 3 (omega arith), (has 4 (omega arith), tt)))),
      )

  named_in : (x : ℕ) (b : Bool) → AreIn (value_of b (variable_register c x)) G
      → AreIn (value_of b (variable_register c x)) P
  named_in x false (v, _) = (low (variable_register c x) v, tt)
  named_in x true (v, (a, (b, (k, (l, _))))) = (low _ v, (low _ a, (low _ b, (low _ k, (low _ l, tt)))))

  get : (d x m : ℕ) → d < most_temporaries c.code → (o : Option Scalar) → plain_type (all_variables c) x ≡ o
      → is_plain o ≡ true → B (get_code o (whole.entries u m d) (temporary_register c d) (variable_register c x))
      (value_of (whole.entries u m d) (temporary_register c d))
  get d x m lt None at e = absurd (false≢true e)
  get d x m lt (Some Pointer) at e =
      let b = whole.entries u m d in
      moved_block p u P G low b (temporary_register c d) (variable_register c x) (variable_in x b Pointer at (λ s. refl))
      (temporary_named site d b lt)
  get d x m lt (Some (Integer t)) at e =
      let b = whole.entries u m d in
      word_block p u P G low b (temporary_register c d) (variable_register c x)
      (variable_in x false (Integer t) at (λ s. absurd (false≢true s))).0 (temporary_named site d b lt)

  set : (x a m : ℕ) → Has (tac.SetPlain x a m) → slice_get c.code n ≡ Some (tac.SetPlain x a m) → (o : Option Scalar)
      → plain_type (all_variables c) x ≡ o → B (set_code o (variable_register c x) (temporary_register c a)) []
  set x a m has at (Some Pointer) is =
      let pointer : is_pointer_type (plain_type (all_variables c) x) ≡ true = ap is_pointer_type is in
      let entry = closed.read n a (tac.SetPlain x a m) at
      (and_from (a == a) (is_pointer_type (plain_type (all_variables c) x)) (itself site a) pointer) in
      set_pointer p u P G low (variable_register c x) (temporary_register c a) (has a (itself site a) true (λ s. entry))
      (named_in x true (variable_in x true Pointer is (λ s. refl)))
  set x a m has at _ is =
      set_word p u P G low (variable_register c x) (temporary_register c a) (word site (tac.SetPlain x a m) a has (itself site a))
      (variable_named site x)

  convert : (kind : Kind) (d a m : ℕ) → d < most_temporaries c.code → Has (tac.Convert kind d a m)
      → slice_get c.code n ≡ Some (tac.Convert kind d a m)
      → B (conversion (inline_lists read write whole.map) kind (whole.entries u m d) (temporary_register c d)
      (temporary_register c a) (first_free c)) (value_of (whole.entries u m d) (temporary_register c d))
  convert Void d a m lt has at =
      zero_block p u P G low (whole.entries u m d) (temporary_register c d) (temporary_named site d (whole.entries u m d) lt)
  convert (OfScalar (Integer t)) d a m lt has at =
      valued (conversion_code t (temporary_register c d) (temporary_register c a)) (whole.entries u m d) d lt
      (given_value p u P G (conversion_code t (temporary_register c d) (temporary_register c a)) (temporary_register c d) low
      (conversion_gives p u P G t (temporary_register c d) (temporary_register c a)
      (word site (tac.Convert (OfScalar (Integer t)) d a m) a has (itself site a)) (temporary_named site d false lt).0))
  convert (OfScalar Pointer) d a m lt has at =
      moved_block p u P G low (whole.entries u m d) (temporary_register c d) (temporary_register c a)
      (has a (itself site a) (whole.entries u m d)
      (closed.made n m d a (tac.Convert (OfScalar Pointer) d a m) at (inl refl) refl refl))
      (temporary_named site d (whole.entries u m d) lt)
  convert (Structure k) d a m lt has at =
      moved_block p u P G low (whole.entries u m d) (temporary_register c d) (temporary_register c a)
      (has a (itself site a) (whole.entries u m d)
      (closed.made n m d a (tac.Convert (Structure k) d a m) at (inl refl) refl refl))
      (temporary_named site d (whole.entries u m d) lt)
  convert (Array k) d a m lt has at =
      moved_block p u P G low (whole.entries u m d) (temporary_register c d) (temporary_register c a)
      (has a (itself site a) (whole.entries u m d)
      (closed.made n m d a (tac.Convert (Array k) d a m) at (inl refl) refl refl))
      (temporary_named site d (whole.entries u m d) lt)

  -- an address that moves, and its entry
  offset : (form : OffsetForm) (size d a b m : ℕ) → d < most_temporaries c.code → Has (tac.Offset form size d a b m)
      → slice_get c.code n ≡ Some (tac.Offset form size d a b m) → (code : List FlatInstruction)
      → reads (tac.Offset form size d a b m) (pointer_of form a b) ≡ true
      → Value p u P G code (temporary_register c d)
      → B (code ++ move_entry_if (whole.entries u m d) (held_from (temporary_register c d)).tag
      (held_from (temporary_register c (pointer_of form a b))).tag)
      (value_of (whole.entries u m d) (temporary_register c d))
  offset form size d a b m lt has at code r v =
      let with_entry = whole.entries u m d in
      let D = temporary_register c d in
      let A = temporary_register c (pointer_of form a b) in
      let E = λ (y : ℕ). G y ⊎ IsOneOf (value_of with_entry D) y in
      let from = has (pointer_of form a b) r with_entry
      (closed.made n m d (pointer_of form a b) (tac.Offset form size d a b m) at (inl refl) refl refl) in
      record {
        flows = and_then p u P G code (move_entry_if with_entry (held_from D).tag (held_from A).tag) 0 (D ∷ [])
            (entry_of with_entry D) v.flows
            (λ S keeps made low'. move_entry_flows p u P S low' with_entry D A
            (are_in_more (entry_of with_entry A) G S keeps from.1) (temporary_named site d with_entry lt).1);
        last = last_moved p u P E code with_entry D A (quiet_last p E code v.quiet);
      }

  -- ---- updates

  right_given : (right : RightOperand) → ((a : ℕ) → is_right right a ≡ true → G (temporary_register c a))
      → IsRight G c right
  right_given (Temporary b) h = h b (itself site b)
  right_given One h = tt

  update_plain : (w : Update) (k : Scalar) (f : Fixity) (line d x : ℕ) (right : RightOperand) (m : ℕ)
      → d < most_temporaries c.code → IsRight G c right → (o : Option Scalar) → plain_type (all_variables c) x ≡ o
      → is_updated_as o k ≡ true → is_update_of w k ≡ true
      → B (update_plain_code Lists c w k f line (whole.entries u m d) (temporary_register c d) (variable_register c x) right
      (first_free c)) (value_of (whole.entries u m d) (temporary_register c d))
  update_plain w k f line d x right m lt gr None at typed ok = absurd (false≢true typed)
  update_plain w (Integer t) f line d x right m lt gr (Some l) at typed ok =
      let b = whole.entries u m d in
      updated_integer p u P c read write whole.map G low f line b (temporary_register c d) (variable_register c x) right
      (first_free c) (temporary_named site d b lt) gr (own site) w t ok (variable_in x false l at (λ s. absurd (false≢true s))).0
  update_plain w Pointer f line d x right m lt gr (Some Pointer) at typed ok =
      let b = whole.entries u m d in
      updated_pointer p u P c read write whole.map G low f line b (temporary_register c d) (variable_register c x) right
      (first_free c) (temporary_named site d b lt) gr (own site) w ok (variable_in x true Pointer at (λ s. refl))
  update_plain w Pointer f line d x right m lt gr (Some (Integer t)) at typed ok = absurd (false≢true typed)

  update_place : (w : Update) (k : Scalar) (f : Fixity) (line d a : ℕ) (right : RightOperand) (m : ℕ)
      → d < most_temporaries c.code → IsRight G c right → G (temporary_register c a) → is_update_of w k ≡ true
      → B (update_code Lists c w k f line (whole.entries u m d) (temporary_register c d) (temporary_register c a) right
      (first_free c)) (value_of (whole.entries u m d) (temporary_register c d))
  update_place w (Integer t) f line d a right m lt gr ga ok =
      let b = whole.entries u m d in
      changed_integer p u P c read write whole.map entries G low f line b (temporary_register c d) (temporary_register c a)
      right (first_free c) ga (temporary_named site d b lt) gr (own site) w t ok
  update_place w Pointer f line d a right m lt gr ga ok =
      let b = whole.entries u m d in
      changed_pointer p u P c read write whole.map entries G low f line b (temporary_register c d) (temporary_register c a)
      right (first_free c) ga (temporary_named site d b lt) gr (own site) w ok

  -- ---- checks

  address_flows : (base : Base) (offset : ℕ) → is_name base ≡ true → ((y : ℕ) → IsOneOf (home_of_base c base) y → G y)
      → Flows p u P G (named_address operators whole.map whole.code c base offset (first_free c)) 0 (first_free c ∷ [])
  address_flows (Plain x) offset name homes = absurd (false≢true name)
  address_flows (Automatic x) offset name homes =
      part_flows p u P read write whole.map c G low x offset (first_free c) (homes (home_register c x) (inl refl)) (free_named site)
  address_flows (Static k) offset name homes =
      constant_flows p u P G low (first_free c) ((static_object whole.map whole.code k).address + offset) (free_named site)

  judge : (test : Test) (size line : ℕ) (key : Option ℕ) (a m : ℕ) → Has (tac.Judge test size line key a m)
      → slice_get c.code n ≡ Some (tac.Judge test size line key a m)
      → ((y : ℕ) → IsOneOf (home_compared c test (key_in c key)) y → G y)
      → B (judge_code e c test (key_in c key) size line (temporary_register c a) (first_free c)) []
  judge test size line key a m has at homes = by (key_in c key) refl homes
    where
      checked : reads_for test (key_in c key) ≡ true
          → B (check_code Lists test size line (temporary_register c a) (first_free c)) []
      checked r =
          checked_block p u P read write whole.map G low test size line (temporary_register c a) (first_free c)
          (tagged_in site (tac.Judge test size line key a m) a at has (itself site a)
          (and_from (a == a) (reads_for test (key_in c key)) (itself site a) r)) (own site)

      compared : (test : Test) (k : Key) → can_compare test k ≡ true
          → ((y : ℕ) → IsOneOf (home_compared c test (Some k)) y → G y)
          → B (compare_code operators whole.map whole.code c test k size line (temporary_register c a) (first_free c)) []
      compared Temporal k agreed homes = record { flows = nothing p u P G low; last = tt }
      compared Spatial k agreed homes =
          let r = path_range (named_size whole.map whole.code c k.base) k.path in
          ranged_block p u P read write whole.map G low
          (named_address operators whole.map whole.code c k.base r.start (first_free c)) r size line
          (temporary_register c a) (first_free c)
          (address_flows k.base r.start (and_parts (is_name k.base) (has_fixed_path k) agreed).0
          (subst (λ b. (y : ℕ) → IsOneOf (if b then home_of_base c k.base else []) y → G y) agreed homes))
          (word site (tac.Judge test size line key a m) a has (itself site a)) (own site)

      by : (o : Option Key) → key_in c key ≡ o → ((y : ℕ) → IsOneOf (home_compared c test o) y → G y)
          → B (judge_code e c test o size line (temporary_register c a) (first_free c)) []
      by None is homes = checked (ap (reads_for test) is)
      by (Some k) is homes = either (can_compare test k) refl
        where
          either : (b : Bool) → can_compare test k ≡ b
              → B (if b
              then compare_code operators whole.map whole.code c test k size line (temporary_register c a) (first_free c)
              else check_code Lists test size line (temporary_register c a) (first_free c)) []
          either true agreed = compared test k agreed homes
          either false other = checked (ap (reads_for test) is ∙ ap not other)

  -- ---- each instruction

  abbrev Of : Instruction → Type 1
  Of i = Block p u P G (block e u c i) (passed_over (successors i)) (made_registers e u c i)

  -- what is no scalar is read as where it lies
  abbrev IsPlace : Kind → Type 0
  IsPlace (OfScalar k) = ⊥
  IsPlace kind = Unit {0}

  read_place : (kind : Kind) (mode : Mode) (line : ℕ) (key : Option ℕ) (d a m : ℕ) →
      let i = tac.Read kind mode line key d a m in
      slice_get c.code n ≡ Some i → Has i → IsPlace kind → Of i
  read_place kind mode line key d a m at has place = by kind at has place
    where
      moved : (kind : Kind) →
          let i = tac.Read kind mode line key d a m in
          slice_get c.code n ≡ Some i → Has i → entry_source i ≡ Some a
          → B (move_value (whole.entries u m d) (temporary_register c d) (temporary_register c a))
          (value_of (whole.entries u m d) (temporary_register c d))
      moved kind at has source =
          let i = tac.Read kind mode line key d a m in
          let lt = most_at c.code n i at in
          moved_block p u P G low (whole.entries u m d) (temporary_register c d) (temporary_register c a)
          (from_source site i m d a at (inl refl) refl source has (itself site a))
          (temporary_named site d (whole.entries u m d) (omega (arith, lt)))

      by : (kind : Kind) →
          let i = tac.Read kind mode line key d a m in
          slice_get c.code n ≡ Some i → Has i → IsPlace kind → Of i
      by (OfScalar k) at has place = absurd place
      by Void at has place = moved Void at has refl
      by (Structure size) at has place = moved (Structure size) at has refl
      by (Array size) at has place = moved (Array size) at has refl

  pub block_of : (i : Instruction) → assigns_alone whole.code c i ≡ true → slice_get c.code n ≡ Some i → Has i
      → ((y : ℕ) → IsOneOf (homes_read c i) y → G y) → Of i
  block_of tac.Reserved ok at has homes = stopped site (Abort 1) [] tt
  block_of (tac.Skip m) ok at has homes = record { flows = nothing p u P G low; last = tt }
  block_of (tac.Constant d w m) ok at has homes =
      let lt = most_at c.code n (tac.Constant d w m) at in
      valued (constant_code (temporary_register c d) w) (whole.entries u m d) d (omega (arith, lt))
      (given_value p u P G (constant_code (temporary_register c d) w) (temporary_register c d) low
      (constant_gives p u P G (temporary_register c d) w (temporary_named site d false (omega (arith, lt))).0))
  block_of (tac.FunctionPointer d f m) ok at has homes =
      let lt = most_at c.code n (tac.FunctionPointer d f m) at in
      known_address p u P G low (whole.entries u m d) (temporary_register c d) (function_address f) (function_address f)
      (function_address f) (2 ^ 63 + whole.types f) 0 (first_free c)
      (temporary_named site d (whole.entries u m d) (omega (arith, lt)))
  block_of (tac.GetPlain d x m) ok at has homes =
      let lt = most_at c.code n (tac.GetPlain d x m) at in
      get d x m (omega (arith, lt)) (plain_type (all_variables c) x) refl ok
  block_of (tac.SetPlain x a m) ok at has homes = set x a m has at (plain_type (all_variables c) x) refl
  block_of (tac.StaticPointer d k m) ok at has homes =
      let lt = most_at c.code n (tac.StaticPointer d k m) at in
      let object = static_object whole.map whole.code k in
      known_address p u P G low (whole.entries u m d) (temporary_register c d) object.address object.address
      (object.address + object.size) 1 (region_start whole.map Locks) (first_free c)
      (temporary_named site d (whole.entries u m d) (omega (arith, lt)))
  block_of (tac.ZeroOf (Structure size) d m) ok at has homes =
      let lt = most_at c.code n (tac.ZeroOf (Structure size) d m) at in
      structure_of_zeros p u P G low whole.map whole.code c (runtime_number whole.code) (whole.entries u m d) size d
      (temporary_register c d) (first_free c) (callees.runtime zero_area_place ZeroArea refl)
      (temporary_named site d (whole.entries u m d) (omega (arith, lt))) (own site)
  block_of (tac.ZeroOf kind d m) ok at has homes =
      let lt = most_at c.code n (tac.ZeroOf kind d m) at in
      zero_block p u P G low (whole.entries u m d) (temporary_register c d)
      (temporary_named site d (whole.entries u m d) (omega (arith, lt)))
  block_of (tac.Convert kind d a m) ok at has homes =
      let lt = most_at c.code n (tac.Convert kind d a m) at in
      convert kind d a m (omega (arith, lt)) has at
  block_of (tac.Unary op ty d a m) ok at has homes =
      let lt = most_at c.code n (tac.Unary op ty d a m) at in
      let code = unary_code op ty (temporary_register c d) (temporary_register c a) (first_free c) in
      valued code (whole.entries u m d) d (omega (arith, lt))
      (given_value p u P G code (temporary_register c d) low
      (unary_gives p u P G op ty (temporary_register c d) (temporary_register c a) (first_free c)
      (word site (tac.Unary op ty d a m) a has (itself site a)) (temporary_named site d false (omega (arith, lt))).0 (free_named site)))
  block_of (tac.Binary op ty line d a b m) ok at has homes =
      let i = tac.Binary op ty line d a b m in
      let lt = most_at c.code n i at in
      let code = binary_code op ty line (temporary_register c d) (temporary_register c a) (temporary_register c b)
      (first_free c) in
      valued code (whole.entries u m d) d (omega (arith, lt))
      (given_value p u P G code (temporary_register c d) low
      (binary_gives p u P G op ty line (temporary_register c d) (temporary_register c a) (temporary_register c b)
      (first_free c) (word site i a has (or_left (a == a) (a == b) (itself site a))) (word site i b has (or_right (b == a) (b == b) (itself site b)))
      (temporary_named site d false (omega (arith, lt))).0 (free_named site)))
  block_of (tac.Offset PointerPlusIndex size d a b m) ok at has homes =
      let i = tac.Offset PointerPlusIndex size d a b m in
      let lt = most_at c.code n i at in
      let A = or_left (a == a) (a == b) (itself site a) in
      offset PointerPlusIndex size d a b m (omega (arith, lt)) has at
      (offset_code Add size (temporary_register c d) (temporary_register c a) (temporary_register c b) (first_free c)) A
      (offset_value p u P G Add size (temporary_register c d) (temporary_register c a) (temporary_register c b)
      (first_free c) low (word site i a has A) (word site i b has (or_right (b == a) (b == b) (itself site b)))
      (temporary_named site d false (omega (arith, lt))).0 (free_named site))
  block_of (tac.Offset IndexPlusPointer size d a b m) ok at has homes =
      let i = tac.Offset IndexPlusPointer size d a b m in
      let lt = most_at c.code n i at in
      let B' = or_right (b == a) (b == b) (itself site b) in
      offset IndexPlusPointer size d a b m (omega (arith, lt)) has at
      (offset_code Add size (temporary_register c d) (temporary_register c b) (temporary_register c a) (first_free c)) B'
      (offset_value p u P G Add size (temporary_register c d) (temporary_register c b) (temporary_register c a)
      (first_free c) low (word site i b has B') (word site i a has (or_left (a == a) (a == b) (itself site a)))
      (temporary_named site d false (omega (arith, lt))).0 (free_named site))
  block_of (tac.Offset PointerMinusIndex size d a b m) ok at has homes =
      let i = tac.Offset PointerMinusIndex size d a b m in
      let lt = most_at c.code n i at in
      let A = or_left (a == a) (a == b) (itself site a) in
      offset PointerMinusIndex size d a b m (omega (arith, lt)) has at
      (offset_code Sub size (temporary_register c d) (temporary_register c a) (temporary_register c b) (first_free c)) A
      (offset_value p u P G Sub size (temporary_register c d) (temporary_register c a) (temporary_register c b)
      (first_free c) low (word site i a has A) (word site i b has (or_right (b == a) (b == b) (itself site b)))
      (temporary_named site d false (omega (arith, lt))).0 (free_named site))
  block_of (tac.Difference size d a b m) ok at has homes =
      let i = tac.Difference size d a b m in
      let lt = most_at c.code n i at in
      valued (difference_code size (temporary_register c d) (temporary_register c a) (temporary_register c b) (first_free c))
      (whole.entries u m d) d (omega (arith, lt))
      (difference_value p u P G size (temporary_register c d) (temporary_register c a) (temporary_register c b)
      (first_free c) low (word site i a has (or_left (a == a) (a == b) (itself site a)))
      (word site i b has (or_right (b == a) (b == b) (itself site b))) (temporary_named site d false (omega (arith, lt))).0 (free_named site))
  block_of (tac.Branch a x y) ok at has homes = record {
    flows = straight p u P 1 G (Branch Bne (temporary_register c a) (Number 0) 1 ∷ [])
        ((word site (tac.Branch a x y) a has (itself site a), tt), tt, (refl, refl), tt) low [] tt;
    last = inl refl;
  }
  block_of (tac.Case a w x y) ok at has homes =
      let test = Branch Beq (temporary_register c a) (Register (first_free c)) 1 ∷ [] in
      record {
        flows = followed p u P G (constant_code (first_free c) w) test 1 (first_free c ∷ []) []
            (given_value p u P G (constant_code (first_free c) w) (first_free c) low
            (constant_gives p u P G (first_free c) w (free_named site))).flows
            (λ S keeps made low'.
            straight p u P 1 S test (
              (keeps (temporary_register c a) (word site (tac.Case a w x y) a has (itself site a)), made (first_free c) (inl refl)),
              tt,
              (refl, refl),
              tt,
            ) low' [] tt);
        last = last_append p (λ y. G y ⊎ ⊥) (constant_code (first_free c) w) test (omega arith) (inl refl);
      }
  block_of (tac.Turn counted m) ok at has homes = record {
    flows = straight p u P 0 G (Turn ∷ []) (tt, tt, tt, tt) low [] tt;
    last = inl refl;
  }
  block_of (tac.UpdatePlain w k f line d x right m) ok at has homes =
      let i = tac.UpdatePlain w k f line d x right m in
      let lt = most_at c.code n i at in
      let parts = and_parts (is_updated_as (plain_type (all_variables c) x) k) (is_update_of w k) ok in
      update_plain w k f line d x right m (omega (arith, lt)) (right_given right (λ a r. word site i a has r))
      (plain_type (all_variables c) x) refl parts.0 parts.1
  block_of (tac.HomePointer d x m) ok at has homes =
      let lt = most_at c.code n (tac.HomePointer d x m) at in
      named_block p u P G low c (whole.entries u m d) (temporary_register c d) x
      (all_one_of (entry_registers (home_entry c x)) G homes)
      (temporary_named site d (whole.entries u m d) (omega (arith, lt)))
  block_of (tac.Narrow offset size d a m) ok at has homes =
      let i = tac.Narrow offset size d a m in
      let lt = most_at c.code n i at in
      narrowed_block p u P read write whole.map G low (whole.entries u m d) offset size (temporary_register c d)
      (temporary_register c a) (first_free c) (from_source site i m d a at (inl refl) refl refl has (itself site a))
      (temporary_named site d (whole.entries u m d) (omega (arith, lt))) (own site)
  block_of (tac.Member offset size d a m) ok at has homes =
      let i = tac.Member offset size d a m in
      let lt = most_at c.code n i at in
      narrowed_block p u P read write whole.map G low (whole.entries u m d) offset size (temporary_register c d)
      (temporary_register c a) (first_free c) (from_source site i m d a at (inl refl) refl refl has (itself site a))
      (temporary_named site d (whole.entries u m d) (omega (arith, lt))) (own site)
  block_of (tac.Take (Structure size) line d a m) ok at has homes =
      let i = tac.Take (Structure size) line d a m in
      let lt = most_at c.code n i at in
      structure_taken p u P G low whole.map whole.code c (runtime_number whole.code) (whole.entries u m d) size d
      (temporary_register c d) (temporary_register c a) (first_free c)
      (callees.runtime take_area_place TakeArea refl) (callees.runtime move_area_place MoveArea refl)
      (tagged_in site i a at has (itself site a) (and_from (a == a) true (itself site a) refl))
      (temporary_named site d (whole.entries u m d) (omega (arith, lt))) (own site)
  block_of (tac.Take kind line d a m) ok at has homes =
      let lt = most_at c.code n (tac.Take kind line d a m) at in
      stopped site (Abort 1) (value_of (whole.entries u m d) (temporary_register c d))
      (temporary_named site d (whole.entries u m d) (omega (arith, lt)))
  block_of (tac.Read (OfScalar k) mode line key d a m) ok at has homes =
      let i = tac.Read (OfScalar k) mode line key d a m in
      let lt = most_at c.code n i at in
      let part = may_read_part whole.code c mode a in
      read_block p u P read write entries whole.map G low (whole.entries u m d) (temporary_register c d)
      (temporary_register c a) (first_free c) (word site i a has (itself site a))
      (temporary_named site d (whole.entries u m d) (omega (arith, lt))) (own site) k part
      (λ read. tagged_in site i a at has (itself site a) (and_from (a == a) part (itself site a) read))
  block_of (tac.Read Void mode line key d a m) ok at has homes = read_place Void mode line key d a m at has tt
  block_of (tac.Read (Structure size) mode line key d a m) ok at has homes =
      read_place (Structure size) mode line key d a m at has tt
  block_of (tac.Read (Array size) mode line key d a m) ok at has homes =
      read_place (Array size) mode line key d a m at has tt
  block_of (tac.Write (OfScalar k) mode line key d a b m) ok at has homes =
      let i = tac.Write (OfScalar k) mode line key d a b m in
      let lt = most_at c.code n i at in
      written_block p u P read write entries whole.map G low k (whole.entries u m d) (temporary_register c d)
      (temporary_register c a) (temporary_register c b) (first_free c) (word site i a has (or_left (a == a) (a == b) (itself site a)))
      (temporary_named site d (whole.entries u m d) (omega (arith, lt))) (own site) (stored k at has)
    where
      stored : (k : Scalar) → slice_get c.code n ≡ Some (tac.Write (OfScalar k) mode line key d a b m)
          → Has (tac.Write (OfScalar k) mode line key d a b m)
          → AreIn (value_of (is_pointer k) (temporary_register c b)) G
      stored (Integer t) at has = has b (or_right (b == a) (b == b) (itself site b)) false (no_entry site b)
      stored Pointer at has =
          tagged_in site (tac.Write (OfScalar Pointer) mode line key d a b m) b at has
          (or_right (b == a) (b == b) (itself site b)) (and_from (b == b) true (itself site b) refl)
  block_of (tac.Write (Structure size) mode line key d a b m) ok at has homes =
      let i = tac.Write (Structure size) mode line key d a b m in
      let lt = most_at c.code n i at in
      structure_written p u P G low (runtime_number whole.code) (has_area whole.code c b) (whole.entries u m d) size
      (temporary_register c d) (temporary_register c a) (temporary_register c b) (first_free c)
      (callees.runtime copy_place CopyTagged refl) (callees.runtime put_area_place PutArea refl)
      (from_source site i m d a at (inl refl) refl refl has (or_left (a == a) (a == b) (itself site a)))
      (word site i a has (or_left (a == a) (a == b) (itself site a)))
      (tagged_in site i b at has (or_right (b == a) (b == b) (itself site b))
      (and_from (b == b) true (itself site b) refl))
      (temporary_named site d (whole.entries u m d) (omega (arith, lt))) (own site)
  block_of (tac.Write kind mode line key d a b m) ok at has homes =
      let lt = most_at c.code n (tac.Write kind mode line key d a b m) at in
      stopped site (Abort 1) (value_of (whole.entries u m d) (temporary_register c d))
      (temporary_named site d (whole.entries u m d) (omega (arith, lt)))
  block_of (tac.Update w k f mode line place key d a right m) ok at has homes =
      let i = tac.Update w k f mode line place key d a right m in
      let lt = most_at c.code n i at in
      update_place w k f place d a right m (omega (arith, lt))
      (right_given right (λ b r. word site i b has (or_right (b == a) (is_right right b) r)))
      (word site i a has (or_left (a == a) (is_right right a) (itself site a))) ok
  block_of (tac.Judge test size line key a m) ok at has homes = judge test size line key a m has at homes
  block_of (tac.Zero x m) ok at has homes =
      let known = callees.runtime zero_place Zero refl in
      zeroed_block p u P read write whole.map G low (home_register c x)
      (size_of_kind (at_number (all_variables c) x).kind) (runtime_number whole.code zero_place) (first_free c) known.0
      known.1 (homes (home_register c x) (inl refl)) (own site)
  block_of (tac.StorePart (OfScalar k) line x offset a m) ok at has homes =
      stored_part p u P read write whole.map c entries G low k x offset (temporary_register c a) (first_free c)
      (homes (home_register c x) (inl refl)) (stored k at has) (own site)
    where
      stored : (k : Scalar) → slice_get c.code n ≡ Some (tac.StorePart (OfScalar k) line x offset a m)
          → Has (tac.StorePart (OfScalar k) line x offset a m)
          → AreIn (value_of (is_pointer k) (temporary_register c a)) G
      stored (Integer t) at has = has a (itself site a) false (no_entry site a)
      stored Pointer at has =
          tagged_in site (tac.StorePart (OfScalar Pointer) line x offset a m) a at has (itself site a)
          (and_from (a == a) true (itself site a) refl)
  block_of (tac.StorePart (Structure size) line x offset a m) ok at has homes =
      let i = tac.StorePart (Structure size) line x offset a m in
      structure_stored p u P read write whole.map c G low (runtime_number whole.code) (has_area whole.code c a) size x
      offset (temporary_register c a) (first_free c) (callees.runtime copy_place CopyTagged refl)
      (callees.runtime put_area_place PutArea refl) (homes (home_register c x) (inl refl))
      (tagged_in site i a at has (itself site a) (and_from (a == a) true (itself site a) refl)) (own site)
  block_of (tac.StorePart kind line x offset a m) ok at has homes = stopped site (Abort 1) [] tt
  block_of (tac.StoreText k x offset m) ok at has homes =
      stored_text p u P read write whole.map c G low (text_in whole.code k) x offset (first_free c)
      (homes (home_register c x) (inl refl)) (own site)
  block_of (tac.Library r line d k m) ok at has homes =
      let lt = most_at c.code n (tac.Library r line d k m) at in library_block site r line d k m at has ok lt
  block_of (tac.Print x line d k m) ok at has homes =
      let lt = most_at c.code n (tac.Print x line d k m) at in print site x line d k m at has ok lt
  block_of (tac.Call f line d k m) ok at has homes =
      let lt = most_at c.code n (tac.Call f line d k m) at in call site f line d k m at has lt
  block_of (tac.CallThrough type_number line d k m) ok at has homes =
      let lt = most_at c.code n (tac.CallThrough type_number line d k m) at in
      through site type_number line d k m at has lt
  block_of (tac.EnterBlock b line m) ok at has homes =
      let known = callees.runtime enter_place Enter refl in
      entered_block p u P whole.map whole.code c (objects_in (Some c) b) line (home_named site)
      (top_named site (objects_in (Some c) b)) (own site) G low known.0 known.1
  block_of (tac.LeaveBlock b m) ok at has homes =
      let vs = objects_in (Some c) b in
      record {
        flows = left_flows p u P G low whole.map (lock_register c vs) (top_register c vs) (first_free c)
            (homes (lock_register c vs) (inl refl)) (homes (top_register c vs) (inr (inl refl))) (own site);
        last = inl refl;
      }
  block_of (tac.Return a) ok at has homes = return site a at has homes
