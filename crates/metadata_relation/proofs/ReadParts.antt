-- Scalars that are read through temporaries which may have contents (C99 6.5.2.3 paragraph 3): they are loaded from places,
-- or read out of the contents, as lock words tell.
use Rattle.std.proofs.Common.{◌≡◌, ◌≢◌, ◌⊎◌, inl, ℕ, ◌+◌, ◌*◌, ◌/◌, ◌<◌, ◌≤◌, Bool, true, false, List, []}
use Rattle.std.proofs.Common.{◌∷◌, drop, get_or, if◌then◌else◌, length, length-append, take, Option, Some, None, refl}
use Rattle.std.proofs.Common.{sym, ap, ◌∙◌, subst, arith}
use Rattle.std.proofs.Math.Nat.{mod-eq_of_lt}
use Rattle.std.proofs.lemmas.Bool.{eq-eqb, ne_eqb}
use Rattle.std.specs.Prelude.{slice_get, ◌&&◌, not}
use Rattle.addr_map.specs.Places.{MapSizes}
use Rattle.rv_isa.specs.declared.instruction.BranchOp.TheVariants.{Bne}
use Rattle.obj_memory.specs.declared.int_type.IntType.{IntType}
use Rattle.obj_memory.specs.declared.int_type.IntType.TheVariants.{UnsignedLong}
use Rattle.obj_memory.specs.declared.value.Place.{Place}
use Rattle.obj_memory.specs.declared.value.Scalar.{Scalar}
use Rattle.obj_memory.specs.declared.value.Scalar.TheVariants.{Integer, Pointer}
use Rattle.obj_memory.specs.declared.value.Tag.TheVariants.{Untagged}
use Rattle.obj_memory.specs.declared.value.Value.{Value}
use Rattle.obj_memory.specs.Access.{is_aligned, read_value, scalar_size}
use Rattle.obj_memory.specs.Integers.{fit, size_of}
use Rattle.obj_memory.specs.Objects.{ObjectState, Objects}
use Rattle.obj_memory.specs.Sound.{IsSoundObject, IsSoundTag}
use Rattle.obj_memory.proofs.Listed.{every_drop, every_take}
use Rattle.obj_memory.proofs.Reading.{number_below}
use Rattle.c_tree.specs.declared.expression.Kind.TheVariants.{Scalar as OfScalar}
use Rattle.source_meaning.specs.State.{Rvalue, State}
use Rattle.source_meaning.specs.Structures.{read_rvalue, rvalue}
use Rattle.tac_ir.specs.declared.instruction.Instruction.{Instruction}
use Rattle.tac_ir.specs.declared.instruction.Instruction.TheVariants as tac
use Rattle.tac_ir.specs.declared.instruction.Mode.{Mode}
use Rattle.tac_ir.specs.declared.instruction.Mode.TheVariants.{Named, Unchecked, Judged}
use Rattle.tac_ir.specs.Accesses.{admitted, is_through}
use Rattle.tac_ir.specs.Costs.{cost, entries_of, spent}
use Rattle.tac_ir.specs.Meaning.{effect, function_in as code_in, given_in, keyed, keys_of}
use Rattle.tac_ir.specs.Stage.{came, Frame, Stage, Stands, Stuck, Temps, with_temp}
use Rattle.tac_ir.specs.Structures.{greatest_structure}
use Rattle.flat_code.specs.declared.function.FlatProgram.{FlatProgram}
use Rattle.flat_code.specs.declared.instruction.FlatInstruction.{FlatInstruction}
use Rattle.flat_code.specs.declared.instruction.FlatInstruction.TheVariants.{JumpForward}
use Rattle.flat_code.specs.declared.instruction.RightOperand.TheVariants.{Number}
use Rattle.flat_code.specs.Calls.{charged, function_in}
use Rattle.flat_code.specs.Meaning.{body_of, is_runtime_function, weight_of}
use Rattle.flat_code.specs.Memory.{Bytes}
use Rattle.flat_code.specs.State as flat
use Rattle.flat_code.specs.Words.{HasWords}
use Rattle.flat_code.specs.Routines.Objects.StandsFor.{spell}
use Rattle.flat_code.specs.Routines.Registers.{AreBelow, AreDistinct}
use Rattle.flat_code.specs.Routines.Routine.{HasAt}
use Rattle.flat_code.proofs.Routines.Steps.{has_back, has_front}
use Rattle.flat_actions.specs.Actions.{registers_of}
use Rattle.lib_wrappers.specs.declared.accesses.held.HeldScalar.{HeldScalar}
use Rattle.lib_wrappers.specs.declared.accesses.held.HeldScalar.TheVariants.{Integer as HeldInteger}
use Rattle.lib_wrappers.specs.declared.accesses.held.HeldScalar.TheVariants.{Pointer as HeldPointer}
use Rattle.lib_wrappers.specs.AccessRoutines.Holding.{holder_in, scalar_in}
use Rattle.lib_wrappers.specs.AreaRoutines.Areas.{HoldsPart}
use Rattle.lib_wrappers.specs.AreaRoutines.Reading.{HasReadPart, IsToReadPart, read_part_code, read_steps}
use Rattle.lib_wrappers.specs.AreaRoutines.Reading.{scalar_of_part}
use Rattle.lib_wrappers.proofs.AreaRoutines.ReadParts.{parts_read}
use Rattle.lib_wrappers.proofs.AreaRoutines.Shapes.{read_part_computes}
use Rattle.runtime_functions.specs.Library.{held_from}
use Rattle.metadata_plan.specs.Entries.{may_read_part}
use Rattle.metadata_plan.specs.Expanded.{Forward, Leads}
use Rattle.metadata_plan.specs.Registers.{most_temporaries}
use Rattle.metadata_plan.proofs.Flat.{branch_passed_comes, branch_taken_comes}
use Rattle.metadata_relation.specs.Blocks.{load_code, read_code, untagged}
use Rattle.metadata_relation.specs.Holding.{area_of, IsContentsAt, IsHeldAt, IsRvalueAt}
use Rattle.metadata_relation.specs.Registers.{first_free, temporary_register}
use Rattle.metadata_relation.specs.Stages.{Compiled, expansion_of, factor, IsAt, map_of, views, world}
use Rattle.metadata_relation.specs.Steps.{IsCompiled, is_settled}
use Rattle.metadata_relation.specs.Structures.{scalar_part_code}
use Rattle.metadata_relation.proofs.Accesses.{keyed_opens}
use Rattle.metadata_relation.proofs.Acting.{Reached, reached_by, reached_here}
use Rattle.metadata_relation.proofs.Altering.{Alters, alters, then_altered}
use Rattle.metadata_relation.proofs.AreaPlaces.{no_area}
use Rattle.metadata_relation.proofs.Assigning.{assigned, not_into}
use Rattle.metadata_relation.proofs.CalleeTests.{differs}
use Rattle.metadata_relation.proofs.Finishing.{integer_cleared}
use Rattle.metadata_relation.proofs.FiveRegisters.{below, distinct, none_of}
use Rattle.metadata_relation.proofs.MemberParts.{gives_rvalue}
use Rattle.metadata_relation.proofs.Parts.{moment, SoFar, stands_here, then_assigned}
use Rattle.metadata_relation.proofs.ReadStructures.{contents_admitted}
use Rattle.metadata_relation.proofs.Reading.{place_found, read_untagged, value_read}
use Rattle.metadata_relation.proofs.Registers.{temporary_free}
use Rattle.metadata_relation.proofs.Standing.{IsNode, leads_on, node, Result}
use Rattle.metadata_relation.proofs.TakenStructures.{locks_high}
use Rattle.metadata_relation.proofs.TopCell.{cell_place}

-- ---- what contents give

-- the place of a part of contents that stand alone
abbrev at_offset : ℕ → Place
at_offset offset = record { object = 0; offset = offset }

part_sound : (functions : ℕ) (k : Scalar) (offset : ℕ) (from : ObjectState) (objects : Objects)
    → IsSoundObject functions objects from
    → IsSoundTag functions objects (read_value k (at_offset offset) (from ∷ [])).tag
unfolding read_value
part_sound functions (Integer t) offset from objects sound = tt
part_sound functions Pointer offset from objects sound = by (is_aligned offset)
  where
    by : (b : Bool) → IsSoundTag functions objects (if b then get_or from.tags (offset / 8) Untagged else Untagged)
    by true = sound.tag (offset / 8)
    by false = tt

-- the word of a pointer is read as an integer of its width
word_part : (functions offset : ℕ) (from : ObjectState) (objects : Objects) → IsSoundObject functions objects from
    → (read_value (Integer UnsignedLong) (at_offset offset) (from ∷ [])).word
    ≡ (read_value Pointer (at_offset offset) (from ∷ [])).word
unfolding size_of read_value fit
word_part functions offset from objects sound =
    mod-eq_of_lt (number_below (take 8 (drop offset from.bytes))
    (every_take (λ b. b < 256) 0 8 (drop offset from.bytes) (omega arith)
    (every_drop (λ b. b < 256) 0 offset from.bytes sound.values)))

word_room : (offset size : ℕ) → offset + 8 ≤ size → offset + size_of UnsignedLong ≤ size
unfolding size_of
word_room offset size room = room

module _ (c : Compiled) (IsGood : Bytes → Type 0) (right : IsCompiled c IsGood) (u n : ℕ) (temps : Temps)
    (ws : List Frame) (s : State) (v : flat.State) (xs : List flat.Frame)
    (h : IsAt c IsGood u n temps ws s u (c.layout.address u n) v xs)
    (words : HasWords (flat.Stands u (c.layout.address u n) v xs)) where
  abbrev pc : ℕ
  pc = c.layout.address u n

  abbrev map : MapSizes
  map = map_of c

  abbrev p : FlatProgram
  p = c.layout.program

  abbrev T : (temporary : ℕ) → ℕ
  T i = temporary_register h.code i

  abbrev free : ℕ
  free = first_free h.code

  abbrev E : (next temporary : ℕ) → Bool
  E next i = c.layout.expansion.entries u next i

  abbrev Follows : Stage → Type 0
  Follows a = Result c IsGood a (flat.Stands u (c.layout.address u n) v xs)

  abbrev body : List FlatInstruction
  body = body_of (function_in c.layout.program u)

  abbrev greatest : ℕ → ℕ
  greatest i = greatest_structure c.layout.expansion.code h.code.code i

  abbrev area : ℕ → ℕ
  area i = area_of (map_of c) c.layout.expansion.code h.code s.charged i

  -- ---- out of contents

  module _ (d a : ℕ) (low : d < most_temporaries h.code.code) (from_low : a < most_temporaries h.code.code) (q : Value)
      (from : ObjectState)
      (found : IsContentsAt (world c h.keys s v) (c.layout.expansion.entries u n a) q from
      (greatest_structure c.layout.expansion.code h.code.code a)
      (area_of (map_of c) c.layout.expansion.code h.code s.charged a) (temporary_register h.code a) v.values)
      (entry_is : c.layout.expansion.entries u n a ≡ true) (start : ℕ)
      (come : SoFar (map_of c) c.layout.program u (c.layout.address u n) v xs words start v.values 2) where
    -- the scalar stands in the registers of a temporary, behind the list that reads it
    record IsRead (k : Scalar) (b : Bool) : Type 0 where
      values : flat.Values
      most : ℕ
      comes : SoFar (map_of c) c.layout.program u (c.layout.address u n) v xs words
          (start + length (scalar_part_code k b (temporary_register h.code d) (temporary_register h.code a)
          (first_free h.code))) values most
      held : IsHeldAt (world c h.keys s v) b (read_value k (at_offset q.word) (from ∷ [])) (temporary_register h.code d)
          values
      others : (y : ℕ) → y < first_free h.code → (y < temporary_register h.code d) ⊎ (temporary_register h.code d + 5 ≤ y)
          → values y ≡ v.values y
      few : most + 4 ≤ factor * (1 + entries_of (OfScalar k))

    holds_part : q.word ≤ from.size → HoldsPart (held_from (temporary_register h.code a)) from.size q.word
        (area_of (map_of c) c.layout.expansion.code h.code s.charged a) v.values
    holds_part inside =
        let last = found.place.last in
        let cell = cell_place (map_of c) right.mapped in
        let behind = cell.behind in
        let small = cell.small in
        let part = found.entry entry_is in
        record {
          part = found.word ∙ omega (arith, inside);
          base = part.base;
          bound = part.bound;
          no_lock = part.no_lock;
        }

    has_read : (into : HeldScalar) → AreBelow (first_free h.code) (registers_of (holder_in into))
        → AreDistinct (registers_of (holder_in into)) → q.word + scalar_size (scalar_in into) ≤ from.size
        → HasAt body start (read_part_code (held_from (T a)) into free)
        → Alters map p (moment map p u pc v xs words start v.values 2 come)
        (start + length (read_part_code (held_from (T a)) into free)) (read_steps into)
        (HasReadPart (views c) h.keys (scalar_of_part into q.word from) into free
        (moment map p u pc v xs words start v.values 2 come).state)
    has_read into under apart room has =
        let list = read_part_code (held_from (T a)) into free in
        let a_room = temporary_free h.code a from_low in
        alters map p (moment map p u pc v xs words start v.values 2 come) list (read_steps into)
        (IsToReadPart (views c) h.keys from q.word (area a) into (held_from (T a)))
        (HasReadPart (views c) h.keys (scalar_of_part into q.word from) into free)
        (read_part_computes (held_from (T a)) into free)
        (parts_read (held_from (T a)) into free (below (T a) free (omega arith)) under apart (views c) h.keys from q.word
        (area a) (is_runtime_function (function_in p u)) (charged p u xs) (weight_of (function_in p u)) right.mapped)
        (λ y y' r. (r.memory, r.shows))
        (record { part = holds_part (omega arith); room = room; place = found.place; area = found.area_is })
        (stands_here map p u pc v xs words start v.values 2 come list has)

    abbrev value : Scalar → Value
    value k = read_value k (at_offset q.word) (from ∷ [])

    reads_integer : (t : IntType) → q.word + scalar_size (Integer t) ≤ from.size
        → HasAt body start (scalar_part_code (Integer t) false (T d) (T a) free) → IsRead (Integer t) false
    reads_integer t room has =
        let d_room = temporary_free h.code d low in
        let list = read_part_code (held_from (T a)) (HeldInteger t (T d)) free in
        let r = has_read (HeldInteger t (T d)) (omega arith, tt) (tt, tt) room has in
        let placed = integer_cleared (world c h.keys s v) false (value (Integer t)) (T d) r.after
        (read_untagged t (at_offset q.word) (from ∷ [])) r.holds.given in
        record {
          values = r.after;
          most = 2 + 1 * 2;
          comes = then_altered map p u pc v xs words start v.values 2 come (start + length list) 1
              (HasReadPart (views c) h.keys (scalar_of_part (HeldInteger t (T d)) q.word from) (HeldInteger t (T d)) free
              (moment map p u pc v xs words start v.values 2 come).state) r;
          held = placed.held;
          others = λ y lt out. r.holds.others y lt (not_into y (T d) out, tt);
          few = omega arith;
        }

    -- with the entry of no pointer behind it
    reads_untagged : (t : IntType) → q.word + scalar_size (Integer t) ≤ from.size
        → HasAt body start (scalar_part_code (Integer t) true (T d) (T a) free) → IsRead (Integer t) true
    reads_untagged t room has =
        let d_room = temporary_free h.code d low in
        let list = read_part_code (held_from (T a)) (HeldInteger t (T d)) free in
        let rest = untagged true (T d) in
        let r = has_read (HeldInteger t (T d)) (omega arith, tt) (tt, tt) room (has_front body start list rest has) in
        let K = then_altered map p u pc v xs words start v.values 2 come (start + length list) 1
        (HasReadPart (views c) h.keys (scalar_of_part (HeldInteger t (T d)) q.word from) (HeldInteger t (T d)) free
        (moment map p u pc v xs words start v.values 2 come).state) r in
        let placed = integer_cleared (world c h.keys s v) true (value (Integer t)) (T d) r.after
        (read_untagged t (at_offset q.word) (from ∷ [])) r.holds.given in
        let end : start + length list + length rest ≡ start + length (scalar_part_code (Integer t) true (T d) (T a) free) =
        omega arith in
        record {
          values = assigned rest r.after;
          most = 2 + 1 * 2 + 2 * length rest;
          comes = subst (λ z. SoFar map p u pc v xs words z (assigned rest r.after) (2 + 1 * 2 + 2 * length rest)) end
              (then_assigned map p u pc v xs words (start + length list) r.after (2 + 1 * 2) K rest refl
              (has_back body start list rest has));
          held = placed.held;
          others = λ y lt out. placed.others y out ∙ r.holds.others y lt (not_into y (T d) out, tt);
          few = omega arith;
        }

    -- a pointer of which no entry is kept
    reads_word : q.word + 8 ≤ from.size → HasAt body start (scalar_part_code Pointer false (T d) (T a) free)
        → IsRead Pointer false
    reads_word room has =
        let d_room = temporary_free h.code d low in
        let into = HeldInteger UnsignedLong (T d) in
        let list = read_part_code (held_from (T a)) into free in
        let r = has_read into (omega arith, tt) (tt, tt) (word_room q.word from.size room) has in
        record {
          values = r.after;
          most = 2 + 1 * 2;
          comes = then_altered map p u pc v xs words start v.values 2 come (start + length list) 1
              (HasReadPart (views c) h.keys (scalar_of_part into q.word from) into free
              (moment map p u pc v xs words start v.values 2 come).state) r;
          held = record {
            word = r.holds.given ∙ word_part (views c).functions q.word from s.objects found.sound;
            entry = λ e. cc;
            sound = part_sound (views c).functions Pointer q.word from s.objects found.sound;
          };
          others = λ y lt out. r.holds.others y lt (not_into y (T d) out, tt);
          few = omega arith;
        }

    -- with its entry
    reads_pointer : q.word + 8 ≤ from.size → HasAt body start (scalar_part_code Pointer true (T d) (T a) free)
        → IsRead Pointer true
    reads_pointer room has =
        let d_room = temporary_free h.code d low in
        let into = HeldPointer (held_from (T d)) in
        let list = read_part_code (held_from (T a)) into free in
        let r = has_read into (below (T d) free (omega arith)) (distinct (T d)) room has in
        record {
          values = r.after;
          most = 2 + 20 * 2;
          comes = then_altered map p u pc v xs words start v.values 2 come (start + length list) 20
              (HasReadPart (views c) h.keys (scalar_of_part into q.word from) into free
              (moment map p u pc v xs words start v.values 2 come).state) r;
          held = record {
            word = r.holds.given.word;
            entry = λ e. r.holds.given;
            sound = part_sound (views c).functions Pointer q.word from s.objects found.sound;
          };
          others = λ y lt out. r.holds.others y lt (none_of y (T d) out);
          few = omega arith;
        }

    reads : (k : Scalar) (b : Bool) → q.word + scalar_size k ≤ from.size
        → HasAt body start (scalar_part_code k b (T d) (T a) free) → IsRead k b
    reads (Integer t) false room has = reads_integer t room has
    reads (Integer t) true room has = reads_untagged t room has
    reads Pointer false room has = reads_word room has
    reads Pointer true room has = reads_pointer room has

  -- ---- the step

  module _ (k : Scalar) (mode : Mode) (line : ℕ) (key : Option ℕ) (d a next : ℕ) (settled : is_settled mode ≡ true)
      (at : slice_get h.code.code n ≡ Some (tac.Read (OfScalar k) mode line key d a next)) where
    abbrev label : Instruction
    label = tac.Read (OfScalar k) mode line key d a next

    nd : IsNode c u n h.code (tac.Read (OfScalar k) mode line key d a next)
    nd = node c IsGood right u n temps ws s v xs h (tac.Read (OfScalar k) mode line key d a next) at

    low : d < most_temporaries h.code.code
    low = omega (arith, nd.temporaries_low)

    from_low : a < most_temporaries h.code.code
    from_low = omega (arith, nd.temporaries_low)

    abbrev paid : State
    paid = spent (cost (tac.Read (OfScalar k) mode line key d a next)) s

    abbrev Behind : Rvalue → Stage
    Behind q = came (read_rvalue (OfScalar k) (is_through mode) q line paid) (given_in u next temps d ws)

    abbrev Effect : Rvalue → Stage
    Effect q = keyed (keys_of (code_in c.layout.expansion.code u)) key paid q.value
        (admitted mode (scalar_size k) q s.objects (Behind q))

    abbrev may : Bool
    may = may_read_part c.layout.expansion.code h.code mode a

    abbrev part_list : List FlatInstruction
    part_list = scalar_part_code k (c.layout.expansion.entries u next d) (temporary_register h.code d)
        (temporary_register h.code a) (first_free h.code)

    abbrev load_list : List FlatInstruction
    load_list = load_code c.layout.expansion.inline k (c.layout.expansion.entries u next d)
        (temporary_register h.code d) (temporary_register h.code a) (first_free h.code)

    abbrev behind_list : List FlatInstruction
    behind_list = JumpForward (length load_list) ∷ load_list

    abbrev Block : (may_be_part : Bool) → List FlatInstruction
    Block q = read_code c.layout.expansion.inline q (OfScalar k) (c.layout.expansion.entries u next d)
        (temporary_register h.code d) (temporary_register h.code a) (first_free h.code)

    -- the value that may be a part of contents has an entry
    entry_is : may ≡ true → c.layout.expansion.entries u n a ≡ true
    entry_is e = nd.closed.read n a label nd.at
        (ap (λ z. z && may_read_part c.layout.expansion.code h.code mode a) (eq-eqb a a refl) ∙ e)

    -- ---- of either

    module _ (kept : c.layout.expansion.entries u n a ≡ true)
        (has : HasAt (body_of (function_in c.layout.program u)) (c.layout.address u n) (Block true))
        (on : Leads (body_of (function_in c.layout.program u)) (c.layout.address u n + length (Block true))
        (c.layout.address u next)) where
      has_jump : HasAt body (pc + 1 + length part_list) behind_list
      has_jump = has_back body (pc + 1) part_list behind_list has.1

      end_is : pc + 1 + length part_list + 1 + length load_list ≡ pc + length (Block true)
      end_is = let long = length-append part_list behind_list in omega (arith, long)

      abbrev lock : ℕ
      lock = v.values (held_from (temporary_register h.code a)).tag.lock

      -- a place has a lock word
      from_place : (q : Value)
          → IsHeldAt (world c h.keys s v) (c.layout.expansion.entries u n a) q (temporary_register h.code a) v.values
          → (Effect (rvalue q) ≡ Stuck → ⊥) → Follows (Effect (rvalue q))
      from_place q held fine =
          let from = place_found c IsGood right u n temps ws s v xs h words.0 k mode line key d a next settled at q held
          fine in
          let is = ap (λ z. z.lock) (held.entry kept).tag ∙ ap (λ t. (spell (views c) h.keys t).lock) from.tag in
          let some : lock ≢ 0 = λ e.
          (let first = (h.stands.for.objects.keyed.each from.object from.made).lock.first in
          let high = locks_high (map_of c) in absurd (omega (arith, is))) in
          let jump = branch_taken_comes map p u pc v xs Bne (held_from (T a)).tag.lock (Number 0) (length part_list + 1)
          has.0 (differs lock 0 true (ap not (ne_eqb lock 0 some))) in
          let there : pc + 1 + (length part_list + 1) ≡ pc + 1 + length part_list + 1 = omega arith in
          value_read c IsGood right u n temps ws s v xs h words.0 k mode line key d a next settled at q held
          (pc + 1 + length part_list + 1) 2 (v.work + jump.work)
          (subst (λ r. Reached map p u pc v xs r (record v { work = v.work + jump.work }) 2) there
          (reached_by map p u xs pc (pc + 1 + (length part_list + 1)) v v 2 jump)) (omega arith) has_jump.1
          (subst (λ r. Leads body r (c.layout.address u next)) (sym end_is) on) fine

      -- contents have none
      from_contents : (from : ObjectState)
          → IsContentsAt (world c h.keys s v) (c.layout.expansion.entries u n a) (temps a).value from
          (greatest_structure c.layout.expansion.code h.code.code a)
          (area_of (map_of c) c.layout.expansion.code h.code s.charged a) (temporary_register h.code a) v.values
          → (temps a).value.word + scalar_size k ≤ from.size
          → Follows (Stands u next (with_temp temps d
          (rvalue (read_value k (at_offset (temps a).value.word) (from ∷ [])))) ws paid)
      from_contents from found inside =
          let part = found.entry kept in
          let pass = branch_passed_comes map p u pc v xs Bne (held_from (T a)).tag.lock (Number 0)
          (length part_list + 1) has.0 (differs lock 0 false (ap not (eq-eqb lock 0 part.no_lock))) in
          let r = reads d a low from_low (temps a).value from found kept (pc + 1) pass k (E next d) inside
          (has_front body (pc + 1) part_list behind_list has.1) in
          let over = leads_on c IsGood right u n temps ws s v xs h (pc + 1 + length part_list) (pc + length (Block true))
          (record v { values = r.values }) r.most r.comes (Forward (length load_list) has_jump.0 end_is) in
          let last = leads_on c IsGood right u n temps ws s v xs h (pc + length (Block true)) (c.layout.address u next)
          (record v { values = r.values }) (r.most + 2) over on in
          let few = r.few in
          gives_rvalue c IsGood right u n temps ws s v xs h words label nd d next
          (rvalue (read_value k (at_offset (temps a).value.word) (from ∷ []))) r.values (r.most + 2 + 2) paid.work refl
          (inl refl) low last r.others (record { by = r.held; none = λ e. refl }) (omega (arith, few))

    -- where no list tells them apart there are no contents, or the access is judged
    no_contents : (m : Mode) → is_settled m ≡ true
        → may_read_part c.layout.expansion.code h.code m a ≡ false → (from : ObjectState)
        → (temps a).contents ≡ Some from → (size : ℕ) (value : Value) (objects : Objects) (behind : Stage)
        → (admitted m size (record { value = value; contents = Some from }) objects behind ≡ Stuck → ⊥) → ⊥
    no_contents Named e none from is size value objects behind fine =
        let t = h.holds.temporaries a from_low refl in
        let empty = t.none (nd.kept.areas n a (no_area c.layout.expansion.code h.code a none)) in
        cc
    no_contents Unchecked e none from is size value objects behind fine = cc
    no_contents Judged e none from is size value objects behind fine = fine refl

    by_contents : (q : Bool) → may_read_part c.layout.expansion.code h.code mode a ≡ q
        → HasAt (body_of (function_in c.layout.program u)) (c.layout.address u n) (Block q)
        → Leads (body_of (function_in c.layout.program u)) (c.layout.address u n + length (Block q))
        (c.layout.address u next)
        → (o : Option ObjectState) → (temps a).contents ≡ o
        → IsRvalueAt (world c h.keys s v) (c.layout.expansion.entries u n a) (temps a).value o
        (greatest_structure c.layout.expansion.code h.code.code a)
        (area_of (map_of c) c.layout.expansion.code h.code s.charged a) (temporary_register h.code a) v.values
        → (Effect (record { value = (temps a).value; contents = o }) ≡ Stuck → ⊥)
        → Follows (Effect (record { value = (temps a).value; contents = o }))
    by_contents false e has on None is held fine =
        value_read c IsGood right u n temps ws s v xs h words.0 k mode line key d a next settled at (temps a).value held
        pc 0 v.work (reached_here map p u xs pc v) (omega arith) has on fine
    by_contents false e has on (Some from) is held fine =
        let q : Rvalue = record { value = (temps a).value; contents = Some from } in
        let opened = keyed_opens (keys_of (code_in c.layout.expansion.code u)) key paid (temps a).value
        (admitted mode (scalar_size k) q s.objects (Behind q)) fine in
        absurd (no_contents mode settled e from is (scalar_size k) (temps a).value s.objects (Behind q)
        (λ stuck. fine (opened ∙ stuck)))
    by_contents true e has on None is held fine = from_place (entry_is e) has on (temps a).value held fine
    by_contents true e has on (Some from) is held fine =
        let q : Rvalue = record { value = (temps a).value; contents = Some from } in
        let opened = keyed_opens (keys_of (code_in c.layout.expansion.code u)) key paid (temps a).value
        (admitted mode (scalar_size k) q s.objects (Behind q)) fine in
        let t = contents_admitted mode settled (scalar_size k) (temps a).value from s.objects (Behind q)
        (λ stuck. fine (opened ∙ stuck)) in
        subst Follows (sym (opened ∙ t.0)) (from_contents (entry_is e) has on from held t.1)

    pub read_scalar : (effect c.setting (expansion_of c).code label u temps ws paid ≡ Stuck → ⊥)
        → Follows (effect c.setting (expansion_of c).code label u temps ws paid)
    read_scalar fine =
        by_contents (may_read_part c.layout.expansion.code h.code mode a) refl nd.put.has nd.put.leads (temps a).contents
        refl (h.holds.temporaries a from_low refl).by fine
