-- Scalars that are read through the word of a temporary.
use Rattle.std.proofs.Common.{◌≡◌, ◌≢◌, ◌⊎◌, inl, inr, ℕ, ◌+◌, ◌*◌, ◌^◌, ◌<◌, ◌≤◌, Bool, true, false, List, [], ◌∷◌}
use Rattle.std.proofs.Common.{◌++◌, length, length-append, Option, Some, refl, sym, ap, ◌∙◌, subst, arith}
use Rattle.std.proofs.Math.Nat.{mod-eq_of_lt}
use Rattle.std.specs.Prelude.{slice_get}
use Rattle.obj_memory.specs.declared.int_type.IntType.{IntType}
use Rattle.obj_memory.specs.declared.int_type.IntType.TheVariants.{UnsignedLong}
use Rattle.obj_memory.specs.declared.value.Scalar.{Scalar}
use Rattle.obj_memory.specs.declared.value.Scalar.TheVariants.{Integer, Pointer}
use Rattle.obj_memory.specs.declared.value.Tag.TheVariants.{Untagged}
use Rattle.obj_memory.specs.declared.value.Value.{Value}
use Rattle.obj_memory.specs.Access.{read_value, scalar_size}
use Rattle.obj_memory.specs.Integers.{fit, size_of}
use Rattle.obj_memory.specs.Judgement.{place_in}
use Rattle.obj_memory.specs.Objects.{Objects}
use Rattle.obj_memory.specs.Sound.{IsSound, IsSoundTag}
use Rattle.obj_memory.proofs.Reading.{read_below, sound_read}
use Rattle.c_tree.specs.declared.expression.Kind.{Kind}
use Rattle.c_tree.specs.declared.expression.Kind.TheVariants.{Array, Scalar as OfScalar, Structure, Void}
use Rattle.c_tree.specs.Kinds.{size_of_kind}
use Rattle.source_meaning.specs.State.{State, Rvalue, Gives, on}
use Rattle.source_meaning.specs.Actions.{integer, load, located, place_or_stop, read_scalar}
use Rattle.source_meaning.specs.Good.{After, function_count, IsGiven, Leaves, OnValue}
use Rattle.source_meaning.specs.Keeping.{IsDirect}
use Rattle.source_meaning.specs.Library.{argument}
use Rattle.source_meaning.specs.Structures.{give, read_rvalue, rvalue}
use Rattle.source_meaning.proofs.Holding.{direct_allowed, direct_named}
use Rattle.source_meaning.proofs.SureActions.{sure_load}
use Rattle.tac_ir.specs.declared.instruction.Instruction.{Instruction}
use Rattle.tac_ir.specs.declared.instruction.Instruction.TheVariants as tac
use Rattle.tac_ir.specs.declared.instruction.Mode.{Mode}
use Rattle.tac_ir.specs.Accesses.{admitted, is_through}
use Rattle.tac_ir.specs.Costs.{cost, entries_of, spent}
use Rattle.tac_ir.specs.Edges.{LeadsTo}
use Rattle.tac_ir.specs.Meaning.{effect, function_in as code_in, given_in, keyed, keys_of}
use Rattle.tac_ir.specs.Stage.{came, Frame, Stage, Stands, Stuck, Temps, with_temp}
use Rattle.flat_code.specs.declared.instruction.FlatInstruction.{FlatInstruction}
use Rattle.flat_code.specs.declared.instruction.FlatInstruction.TheVariants.{Move}
use Rattle.flat_code.specs.Calls.{function_in}
use Rattle.flat_code.specs.Meaning.{body_of}
use Rattle.flat_code.specs.Memory.{Bytes, put}
use Rattle.flat_code.specs.State as flat
use Rattle.flat_code.specs.Words.{IsOfWords}
use Rattle.flat_code.proofs.Stored.{put_same, put_other}
use Rattle.flat_code.specs.Routines.Metadata.{held_registers}
use Rattle.flat_code.specs.Routines.Registers.{AreBelow, AreDistinct}
use Rattle.flat_code.specs.Routines.Routine.{HasAt}
use Rattle.flat_code.proofs.Routines.Steps.{has_back, has_front}
use Rattle.flat_actions.specs.Actions.{Pointer as InPointer, Word}
use Rattle.flat_actions.proofs.Standing.{for_worked}
use Rattle.lib_wrappers.specs.declared.accesses.held.HeldScalar.TheVariants.{Integer as HeldInteger}
use Rattle.lib_wrappers.specs.declared.accesses.held.HeldScalar.TheVariants.{Pointer as HeldPointer}
use Rattle.lib_wrappers.specs.AccessRoutines.Accessing.{IsToAccess}
use Rattle.runtime_functions.specs.Library.{held_from}
use Rattle.metadata_plan.specs.Entries.{given, may_read_part, read_from}
use Rattle.metadata_plan.specs.Expanded.{Leads}
use Rattle.metadata_plan.specs.Registers.{most_temporaries}
use Rattle.metadata_plan.proofs.Flat.{move_comes}
use Rattle.metadata_relation.specs.Blocks.{load_code, move_value, read_code, untagged}
use Rattle.metadata_relation.specs.Holding.{IsHeldAt}
use Rattle.metadata_relation.specs.Registers.{first_free, temporary_register}
use Rattle.metadata_relation.specs.Scopes.{context_at}
use Rattle.metadata_relation.specs.Stages.{Compiled, expansion_of, IsAt, map_of, names, views, world}
use Rattle.metadata_relation.specs.Steps.{IsCompiled, is_settled}
use Rattle.metadata_relation.proofs.Accesses.{behind_read, found, keyed_opens, loaded}
use Rattle.metadata_relation.proofs.Acting.{acts_giving, behind_action, HasActed, Reached, reached_next, reached_then}
use Rattle.metadata_relation.proofs.Finishing.{acted_as, acted_then, ends_with, integer_cleared, nothing_done}
use Rattle.metadata_relation.proofs.Finishing.{tagged_in}
use Rattle.metadata_relation.proofs.Assigning.{assigned}
use Rattle.metadata_relation.proofs.Finishing.{untagged_few}
use Rattle.metadata_relation.proofs.FiveRegisters.{assigned_words, below, distinct, none_of}
use Rattle.metadata_relation.proofs.Moving.{held_of, moves_value, temporary_apart}
use Rattle.metadata_relation.proofs.Registers.{temporaries_apart, temporary_free}
use Rattle.metadata_relation.proofs.Routines.{action_passes}
use Rattle.metadata_relation.proofs.Standing.{good_now, IsNode, node, Result}

-- ---- what is read

pub read_untagged : (t : IntType) (p : _) (objects : Objects) → (read_value (Integer t) p objects).tag ≡ Untagged
unfolding read_value
read_untagged t p objects = refl

-- the word of a pointer is read as an integer of its width
word_loaded : (functions : ℕ) (v : Value) (line : ℕ) (s : State) (d : IsDirect s.objects v 8)
    → IsSound functions s.objects
    → load (Integer UnsignedLong) false v line s
    ≡ Gives (integer (read_value Pointer (place_in s.objects d.object v.word) s.objects).word) (behind_read 8 v s)
unfolding size_of read_value fit
word_loaded functions v line s d sound =
    let p = place_in s.objects d.object v.word in
    let small : (read_value Pointer p s.objects).word < 2 ^ 64 =
    read_below Pointer p s.objects sound (direct_allowed s.objects v 8 d).place in
    ap (λ w. on (place_or_stop w line s) (λ q. read_scalar (Integer UnsignedLong) v.word q))
    (direct_named s.objects v 8 d)
    ∙ ap (λ w. Gives (integer w) (behind_read 8 v s)) (mod-eq_of_lt small)

word_direct : (objects : Objects) (p : Value) → IsDirect objects p 8 → IsDirect objects p (size_of UnsignedLong)
unfolding size_of
word_direct objects p d = d

module _ (c : Compiled) (IsGood : Bytes → Type 0) (right : IsCompiled c IsGood) (u n : ℕ) (temps : Temps)
    (ws : List Frame) (s : State) (v : flat.State) (xs : List flat.Frame)
    (h : IsAt c IsGood u n temps ws s u (c.layout.address u n) v xs) (words : IsOfWords v) where
  abbrev pc : ℕ
  pc = c.layout.address u n

  abbrev T : (temporary : ℕ) → ℕ
  T i = temporary_register h.code i

  abbrev free : ℕ
  free = first_free h.code

  abbrev E : (next temporary : ℕ) → Bool
  E next i = c.layout.expansion.entries u next i

  abbrev Follows : Stage → Type 0
  Follows a = Result c IsGood a (flat.Stands u (c.layout.address u n) v xs)

  abbrev body : List FlatInstruction
  body = body_of (function_in c.layout.program u)

  -- what a temporary that has no contents holds
  pub plain_operand : (a : ℕ) → a < most_temporaries h.code.code → c.layout.expansion.contents u n a ≡ false
      → (temps a ≡ rvalue (temps a).value)
      × IsHeldAt (world c h.keys s v) (c.layout.expansion.entries u n a) (temps a).value (temporary_register h.code a)
      v.values
  plain_operand a low plain =
      let t = h.holds.temporaries a low refl in (
        ap (λ o. record { value = (temps a).value; contents = o }) (t.none plain),
        held_of (world c h.keys s v) (E n a) (temps a) _ _ (T a) v.values
            (record { by = t.by; none = λ e. t.none plain }),
      )

  -- a read of a live object leaves a good state
  pub leaves_read : (w : ℕ) (k : Scalar) (q : Value) → IsDirect s.objects q (scalar_size k)
      → IsSoundTag (views c).functions s.objects q.tag
      → Leaves (context_at (names c) u ws) s (behind_read (scalar_size k) q (spent w s))
  leaves_read w k q direct sound =
      let sc = context_at (names c) u ws in
      let good = good_now (names c) u ws s h.steady.good in
      let l = (subst (λ o. After sc (spent w s) (IsGiven (function_count sc) (OfScalar k)) o)
      (loaded k q 0 (spent w s) direct)
      ((sure_load OnValue k q 0).by (spent w s) good
      (tagged_in c IsGood right u n temps ws s v xs h s.objects q sound, direct))).0 in
      record { good = l.good; lives = l.lives; frame = l.frame; ended = l.ended }

  -- ---- by what is read

  -- where the load stands the run comes with no register changed
  module _ (i : Instruction) (nd : IsNode c u n h.code i) (d a next line work : ℕ) (p : Value)
      (held : IsHeldAt (world c h.keys s v) (c.layout.expansion.entries u n a) p (temporary_register h.code a) v.values)
      (gives : given i ≡ Some d) (leads : LeadsTo i next) (low : d < most_temporaries h.code.code)
      (from : a < most_temporaries h.code.code) (start before done : ℕ)
      (come : Reached (map_of c) c.layout.program u (c.layout.address u n) v xs start (record v { work = done }) before)
      (soon : before ≤ 2) where
    abbrev x : State
    x = spent work s

    abbrev v0 : flat.State
    v0 = record v { work = done }

    begun : HasActed c IsGood right u n temps ws s v xs h (behind_action s s) h.keys (record v { work = done })
    begun = acted_as c IsGood right u n temps ws s v xs h s h.keys v v.values done
        (nothing_done c IsGood right u n temps ws s v xs h)

    words_there : IsOfWords (record v { work = done })
    words_there = assigned_words [] v done words

    -- where it goes on
    abbrev ReadsTo : (k : Scalar) → IsDirect s.objects p (scalar_size k) → Type 0
    ReadsTo k direct = Follows (Stands u next (with_temp temps d (rvalue (read_value k
        (place_in s.objects direct.object p.word) s.objects))) ws (behind_read (scalar_size k) p (spent work s)))

    into_ne : (y : ℕ) → (y < temporary_register h.code d) ⊎ (temporary_register h.code d + 5 ≤ y)
        → y ≢ temporary_register h.code d
    into_ne y (inl below) e = absurd (omega arith)
    into_ne y (inr above) e = absurd (omega arith)

    reads_integer : (t : IntType) (direct : IsDirect s.objects p (scalar_size (Integer t)))
        → HasAt body start (load_code c.layout.expansion.inline (Integer t) (E next d) (T d) (T a) free)
        → Leads body (start + length (load_code c.layout.expansion.inline (Integer t) (E next d) (T d) (T a) free))
        (c.layout.address u next)
        → 1 ≤ work → ReadsTo (Integer t) direct
    reads_integer t direct has on some =
        let b = E next d in
        let into = HeldInteger t (T d) in
        let list = c.layout.expansion.inline.load (T a) into free in
        let rest = untagged b (T d) in
        let room = temporary_free h.code d low in
        let room_from = temporary_free h.code a from in
        let under : AreBelow free (T a ∷ T d ∷ []) = (omega arith, (omega arith, tt)) in
        let value = read_value (Integer t) (place_in s.objects direct.object p.word) s.objects in
        let z = behind_read (size_of t) p x in
        let ran = action_passes c IsGood right u h.code h.there xs (IsToAccess into)
        (λ vs. load (Integer t) false (argument 0 vs) line) (Word (T a) ∷ []) (Word (T d)) free 1 list
        (right.inline.load (T a) into free under tt line) (right.inline.computes.load (T a) into free under tt) start v0
        (record { has = has_front body start list rest has; words = words_there }) h.keys x (p ∷ [])
        (for_worked (views c) h.keys IsGood s (s.work + work) v0 begun.stands.for) (held.word, tt) direct value z
        (loaded (Integer t) p line x direct) in
        let y = ran.after in
        let l = ran.holds in
        let acted = acted_then c IsGood right u n temps ws s v xs h (Word (T d)) free x.work value s z h.keys v0 y begun l
        (leaves_read work (Integer t) p direct held.sound) h.steady.keys in
        let placed = integer_cleared (world c l.keys z y) b value (T d) y.values (read_untagged t _ s.objects) l.given in
        let len : start + length (list ++ rest) ≡ start + length list + length rest =
        omega (arith, length-append list rest) in
        let all = reached_then (map_of c) c.layout.program u xs pc start (start + length list) v v0 y before 2 come
        ran.reached in
        let e = ends_with c IsGood right u n temps ws s v xs h (start + length list) (before + 2) 4 next y rest all
        (untagged_few b (T d)) (has_back body start list rest has)
        (subst (λ q. Leads body q (c.layout.address u next)) len on) in
        acts_giving c IsGood right u n temps ws s v xs h i nd d next value z l.keys
        (record y { values = assigned rest y.values; work = e.0 }) (before + 2 + 2 * 4 + 2) gives leads low e.1
        (acted_as c IsGood right u n temps ws s v xs h z l.keys y (assigned rest y.values) e.0 acted)
        (λ q lt out. placed.others q out ∙ l.others q lt (into_ne q out, tt)) placed.held (omega arith)

    -- a pointer of which no entry is kept
    reads_word : (direct : IsDirect s.objects p 8) → E next d ≡ false
        → HasAt body start (load_code c.layout.expansion.inline Pointer false (T d) (T a) free)
        → Leads body (start + length (load_code c.layout.expansion.inline Pointer false (T d) (T a) free))
        (c.layout.address u next)
        → 1 ≤ work → ReadsTo Pointer direct
    reads_word direct none has on some =
        let into = HeldInteger UnsignedLong (T d) in
        let list = c.layout.expansion.inline.load (T a) into free in
        let room = temporary_free h.code d low in
        let room_from = temporary_free h.code a from in
        let under : AreBelow free (T a ∷ T d ∷ []) = (omega arith, (omega arith, tt)) in
        let value = read_value Pointer (place_in s.objects direct.object p.word) s.objects in
        let z = behind_read 8 p x in
        let ran = action_passes c IsGood right u h.code h.there xs (IsToAccess into)
        (λ vs. load (Integer UnsignedLong) false (argument 0 vs) line) (Word (T a) ∷ []) (Word (T d)) free 1 list
        (right.inline.load (T a) into free under tt line) (right.inline.computes.load (T a) into free under tt) start v0
        (record { has = has; words = words_there }) h.keys x (p ∷ [])
        (for_worked (views c) h.keys IsGood s (s.work + work) v0 begun.stands.for) (held.word, tt)
        (word_direct s.objects p direct)
        (integer value.word) z (word_loaded (views c).functions p line x direct h.stands.for.objects.sound) in
        let y = ran.after in
        let l = ran.holds in
        let acted = acted_then c IsGood right u n temps ws s v xs h (Word (T d)) free x.work (integer value.word) s z h.keys
        v0 y begun l (leaves_read work Pointer p direct held.sound) h.steady.keys in
        let all = reached_then (map_of c) c.layout.program u xs pc start (start + length list) v v0 y before 2 come
        ran.reached in
        let e = ends_with c IsGood right u n temps ws s v xs h (start + length list) (before + 2) 0 next y [] all
        (record { assign = refl; few = omega arith }) tt
        (subst (λ q. Leads body q (c.layout.address u next)) (omega arith) on) in
        acts_giving c IsGood right u n temps ws s v xs h i nd d next value z l.keys
        (record y { values = y.values; work = e.0 }) (before + 2 + 2 * 0 + 2) gives leads low e.1
        (acted_as c IsGood right u n temps ws s v xs h z l.keys y y.values e.0 acted)
        (λ q lt out. l.others q lt (into_ne q out, tt))
        (record {
          word = l.given;
          entry = λ q. (let no : true ≡ false = sym q ∙ none in cc);
          sound = sound_read Pointer (place_in s.objects direct.object p.word) s.objects h.stands.for.objects.sound;
        })
        (omega arith)

    -- a pointer with its entry, through an address that is moved away first
    reads_pointer : (direct : IsDirect s.objects p 8) → E next d ≡ true
        → HasAt body start (load_code c.layout.expansion.inline Pointer true (T d) (T a) free)
        → Leads body (start + length (load_code c.layout.expansion.inline Pointer true (T d) (T a) free))
        (c.layout.address u next)
        → 3 ≤ work → ReadsTo Pointer direct
    reads_pointer direct kept has on some =
        let into = HeldPointer (held_from (T d)) in
        let list = c.layout.expansion.inline.load free into (free + 1) in
        let room = temporary_free h.code d low in
        let five = below (T d) (free + 1) (omega arith) in
        let under : AreBelow (free + 1) (free ∷ held_registers (held_from (T d))) = (omega arith, five) in
        let apart : AreDistinct (free ∷ held_registers (held_from (T d))) =
        (none_of free (T d) (inr (omega arith)), distinct (T d)) in
        let value = read_value Pointer (place_in s.objects direct.object p.word) s.objects in
        let z = behind_read 8 p x in
        let first = move_comes (map_of c) c.layout.program u start v0 xs free (T a) has.0 in
        let v1 : flat.State = record v { values = put v.values free (v.values (T a)); work = done + first.work } in
        let moved = acted_as c IsGood right u n temps ws s v xs h s h.keys v v1.values v1.work
        (nothing_done c IsGood right u n temps ws s v xs h) in
        let ran = action_passes c IsGood right u h.code h.there xs (IsToAccess into)
        (λ vs. load Pointer false (argument 0 vs) line) (Word free ∷ []) (InPointer (held_from (T d))) (free + 1) 21 list
        (right.inline.load free into (free + 1) under apart line)
        (right.inline.computes.load free into (free + 1) under apart) (start + 1) v1
        (record { has = has.1; words = assigned_words (Move free (T a) ∷ []) v v1.work words }) h.keys x (p ∷ [])
        (for_worked (views c) h.keys IsGood s (s.work + work) v1 moved.stands.for)
        (put_same v.values free (v.values (T a)) ∙ held.word, tt) direct value z (loaded Pointer p line x direct) in
        let y = ran.after in
        let l = ran.holds in
        let acted = acted_then c IsGood right u n temps ws s v xs h (InPointer (held_from (T d))) (free + 1) x.work value s z
        h.keys v1 y moved l (leaves_read work Pointer p direct held.sound) h.steady.keys in
        let one = reached_next (map_of c) c.layout.program u xs pc start (start + 1) v v0
        (record v0 { values = put v.values free (v.values (T a)) }) before 2 come first in
        let all = reached_then (map_of c) c.layout.program u xs pc (start + 1) (start + 1 + length list) v v1 y (before + 2)
        42 one ran.reached in
        let e = ends_with c IsGood right u n temps ws s v xs h (start + 1 + length list) (before + 2 + 42) 0 next y [] all
        (record { assign = refl; few = omega arith }) tt
        (subst (λ q. Leads body q (c.layout.address u next)) (omega arith) on) in
        acts_giving c IsGood right u n temps ws s v xs h i nd d next value z l.keys
        (record y { values = y.values; work = e.0 }) (before + 2 + 42 + 2 * 0 + 2) gives leads low e.1
        (acted_as c IsGood right u n temps ws s v xs h z l.keys y y.values e.0 acted)
        (λ q lt out. l.others q (omega arith) (none_of q (T d) out)
        ∙ put_other v.values free (v.values (T a)) q (λ same. omega arith))
        (record {
          word = l.given.word;
          entry = λ q. l.given;
          sound = sound_read Pointer (place_in s.objects direct.object p.word) s.objects h.stands.for.objects.sound;
        })
        (omega arith)

    pub reads : (k : Scalar) (direct : IsDirect s.objects p (scalar_size k))
        → HasAt body start (load_code c.layout.expansion.inline k (E next d) (T d) (T a) free)
        → Leads body (start + length (load_code c.layout.expansion.inline k (E next d) (T d) (T a) free))
        (c.layout.address u next)
        → 1 + entries_of (OfScalar k) ≤ work → ReadsTo k direct
    reads (Integer t) direct has on some = reads_integer t direct has on (omega arith)
    reads Pointer direct has on some = by (E next d) refl has on
      where
        by : (b : Bool) → c.layout.expansion.entries u next d ≡ b
            → HasAt body start (load_code c.layout.expansion.inline Pointer b (T d) (T a) free)
            → Leads body (start + length (load_code c.layout.expansion.inline Pointer b (T d) (T a) free))
            (c.layout.address u next)
            → ReadsTo Pointer direct
        by true e has on = reads_pointer direct e has on (omega arith)
        by false e has on = reads_word direct e has on (omega arith)

  -- ---- the step

  module _ (k : Scalar) (mode : Mode) (line : ℕ) (key : Option ℕ) (d a next : ℕ) (settled : is_settled mode ≡ true)
      (at : slice_get h.code.code n ≡ Some (tac.Read (OfScalar k) mode line key d a next)) where
    abbrev label : Instruction
    label = tac.Read (OfScalar k) mode line key d a next

    nd : IsNode c u n h.code (tac.Read (OfScalar k) mode line key d a next)
    nd = node c IsGood right u n temps ws s v xs h (tac.Read (OfScalar k) mode line key d a next) at

    abbrev paid : State
    paid = spent (cost (tac.Read (OfScalar k) mode line key d a next)) s

    abbrev Behind : Rvalue → Stage
    Behind q = came (read_rvalue (OfScalar k) (is_through mode) q line paid) (given_in u next temps d ws)

    abbrev Effect : Rvalue → Stage
    Effect q = keyed (keys_of (code_in c.layout.expansion.code u)) key paid q.value
        (admitted mode (scalar_size k) q s.objects (Behind q))

    -- what is known of the access of a place
    pub place_found : (p : Value)
        → IsHeldAt (world c h.keys s v) (c.layout.expansion.entries u n a) p (temporary_register h.code a) v.values
        → (Effect (rvalue p) ≡ Stuck → ⊥) → IsDirect s.objects p (scalar_size k)
    place_found p held fine =
        let keys = keys_of (code_in c.layout.expansion.code u) in
        let opened = keyed_opens keys key paid p (admitted mode (scalar_size k) (rvalue p) s.objects (Behind (rvalue p)))
        fine in
        (found mode settled (views c).functions (scalar_size k) p s.objects (Behind (rvalue p)) held.sound
        (λ stuck. fine (opened ∙ stuck))).direct

    -- a scalar is loaded from its place, by a list that stands where the run comes with no register changed
    pub value_read : (p : Value)
        → IsHeldAt (world c h.keys s v) (c.layout.expansion.entries u n a) p (temporary_register h.code a) v.values
        → (start before done : ℕ)
        → Reached (map_of c) c.layout.program u (c.layout.address u n) v xs start (record v { work = done }) before
        → before ≤ 2
        → HasAt (body_of (function_in c.layout.program u)) start
        (load_code c.layout.expansion.inline k (c.layout.expansion.entries u next d) (temporary_register h.code d)
        (temporary_register h.code a) (first_free h.code))
        → Leads (body_of (function_in c.layout.program u)) (start + length
        (load_code c.layout.expansion.inline k (c.layout.expansion.entries u next d) (temporary_register h.code d)
        (temporary_register h.code a) (first_free h.code))) (c.layout.address u next)
        → (Effect (rvalue p) ≡ Stuck → ⊥) → Follows (Effect (rvalue p))
    value_read p held start before done come soon has leads fine =
        let keys = keys_of (code_in c.layout.expansion.code u) in
        let opened = keyed_opens keys key paid p (admitted mode (scalar_size k) (rvalue p) s.objects (Behind (rvalue p)))
        fine in
        let f = found mode settled (views c).functions (scalar_size k) p s.objects (Behind (rvalue p)) held.sound
        (λ stuck. fine (opened ∙ stuck)) in
        let read_is = ap (λ o. on (on o (λ q. read_scalar k p.word q)) (λ w. give w)) (f.same line paid refl)
        ∙ ap (λ o. on o (λ w. give w)) (loaded k p line paid f.direct) in
        subst Follows (sym (opened ∙ f.opens ∙ ap (λ o. came o (given_in u next temps d ws)) read_is))
        (reads label nd d a next line (cost label) p held refl (inl refl) (omega (arith, nd.temporaries_low))
        (omega (arith, nd.temporaries_low)) start before done come soon k f.direct has leads (omega arith))

  -- ---- places

  -- of what is no scalar the place is read, which is its pointer
  abbrev pub is_no_scalar : Kind → Bool
  is_no_scalar (OfScalar k) = false
  is_no_scalar kind = true

  place_given : (kind : Kind) → is_no_scalar kind ≡ true → (mode : Mode) (p : Value) (line : ℕ) (z : State)
      (direct : IsDirect z.objects p (size_of_kind kind))
      → located (is_through mode) (size_of_kind kind) p line z ≡ located false (size_of_kind kind) p line z
      → read_rvalue kind (is_through mode) (rvalue p) line z ≡ Gives (rvalue p) z
  place_given Void e mode p line z direct same = refl
  place_given (OfScalar k) e mode p line z direct same = cc
  place_given (Structure size) e mode p line z direct same =
      ap (λ o. on (on o (λ _ y. Gives p y)) (λ w. give w)) same
      ∙ ap (λ w. on (on (place_or_stop w line z) (λ _ y. Gives p y)) (λ w. give w)) (direct_named z.objects p size direct)
  place_given (Array size) e mode p line z direct same = refl

  moves_place : (q : Bool) (kind : Kind) → is_no_scalar kind ≡ true → (b : Bool) (d a : ℕ)
      → read_code c.layout.expansion.inline q kind b (T d) (T a) free ≡ move_value b (T d) (T a)
  moves_place q Void e b d a = refl
  moves_place q (OfScalar k) e b d a = cc
  moves_place q (Structure size) e b d a = refl
  moves_place q (Array size) e b d a = refl

  source_is : (kind : Kind) → is_no_scalar kind ≡ true → (a : ℕ) → read_from kind a ≡ Some a
  source_is Void e a = refl
  source_is (OfScalar k) e a = cc
  source_is (Structure size) e a = refl
  source_is (Array size) e a = refl

  module _ (kind : Kind) (other : is_no_scalar kind ≡ true) (mode : Mode) (line : ℕ) (key : Option ℕ) (d a next : ℕ)
      (settled : is_settled mode ≡ true)
      (at : slice_get h.code.code n ≡ Some (tac.Read kind mode line key d a next)) where
    abbrev place_label : Instruction
    place_label = tac.Read kind mode line key d a next

    place_node : IsNode c u n h.code (tac.Read kind mode line key d a next)
    place_node = node c IsGood right u n temps ws s v xs h (tac.Read kind mode line key d a next) at

    abbrev place_paid : State
    place_paid = spent (cost (tac.Read kind mode line key d a next)) s

    abbrev PlaceBehind : Rvalue → Stage
    PlaceBehind q = came (read_rvalue kind (is_through mode) q line place_paid) (given_in u next temps d ws)

    abbrev PlaceEffect : Rvalue → Stage
    PlaceEffect q = keyed (keys_of (code_in c.layout.expansion.code u)) key place_paid q.value
        (admitted mode (size_of_kind kind) q s.objects (PlaceBehind q))

    pub place_read : (p : Value)
        → IsHeldAt (world c h.keys s v) (c.layout.expansion.entries u n a) p (temporary_register h.code a) v.values
        → (PlaceEffect (rvalue p) ≡ Stuck → ⊥) → Follows (PlaceEffect (rvalue p))
    place_read p held fine =
        let keys = keys_of (code_in c.layout.expansion.code u) in
        let opened = keyed_opens keys key place_paid p
        (admitted mode (size_of_kind kind) (rvalue p) s.objects (PlaceBehind (rvalue p))) fine in
        let f = found mode settled (views c).functions (size_of_kind kind) p s.objects (PlaceBehind (rvalue p)) held.sound
        (λ stuck. fine (opened ∙ stuck)) in
        let read_is = place_given kind other mode p line place_paid f.direct (f.same line place_paid refl) in
        let list = moves_place (may_read_part c.layout.expansion.code h.code mode a) kind other (E next d) d a in
        subst Follows (sym (opened ∙ f.opens ∙ ap (λ o. came o (given_in u next temps d ws)) read_is))
        (moves_value c IsGood right u n temps ws s v xs h words place_label place_node d next (T a) (E n a) p
        place_paid.work refl (inl refl) (omega (arith, place_node.temporaries_low)) held
        (λ e. place_node.closed.made n next d a place_label at (inl refl) refl (source_is kind other a) e)
        (temporary_apart d a (T d) (T a) (λ ne. temporaries_apart h.code d a ne) (λ e. ap (λ z. temporary_register h.code z) e))
        (subst (HasAt body pc) list place_node.put.has)
        (subst (λ z. Leads body (pc + length z) (c.layout.address u next)) list place_node.put.leads) (omega arith))

    pub read_at : c.layout.expansion.contents u n a ≡ false
        → (effect c.setting (expansion_of c).code place_label u temps ws place_paid ≡ Stuck → ⊥)
        → Follows (effect c.setting (expansion_of c).code place_label u temps ws place_paid)
    read_at plain fine =
        let held = plain_operand a (omega (arith, place_node.temporaries_low)) plain in
        subst (λ q. (PlaceEffect q ≡ Stuck → ⊥) → Follows (PlaceEffect q)) (sym held.0)
        (place_read (temps a).value held.1) fine
