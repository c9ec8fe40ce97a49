-- A pointer loaded in flat code is the one that the source reads.
use Rattle.std.proofs.Common.{◌≡◌, ◌≢◌, ℕ, ◌+◌, ◌*◌, ◌%◌, ◌^◌, List, [], ◌∷◌, ◌++◌, true, false, length, refl, sym, ap}
use Rattle.std.proofs.Common.{◌∙◌, subst, arith, length-append, Some}
use Rattle.std.specs.Prelude.{slice_get, ◌/◌}
use Rattle.behaviours.specs.Shown.{Access, Read}
use Rattle.addr_map.specs.Places.{MapSizes, AreMapped}
use Rattle.rv_isa.specs.declared.instruction.BranchOp.TheVariants.{Beq}
use Rattle.rv_isa.specs.declared.instruction.RegOp.TheVariants.{Sll}
use Rattle.rv_isa.specs.declared.instruction.LoadOp.TheVariants.{Ld}
use Rattle.rv_isa.specs.Results.{reg_result, extended}
use Rattle.obj_memory.specs.declared.value.Value.{Value}
use Rattle.obj_memory.specs.declared.value.Scalar.TheVariants.{Pointer as OfPointer}
use Rattle.obj_memory.specs.declared.value.Place.{Place}
use Rattle.obj_memory.specs.Judgement.{place_in}
use Rattle.obj_memory.specs.Access.{tag_at, read_value}
use Rattle.obj_memory.specs.Sound.{IsAllowed}
use Rattle.source_meaning.specs.State.{State as Source}
use Rattle.source_meaning.specs.Actions.{load as source_load}
use Rattle.source_meaning.specs.Keeping.{IsDirect}
use Rattle.source_meaning.proofs.Holding.{direct_allowed}
use Rattle.flat_code.specs.declared.instruction.RightOperand.TheVariants.{Number}
use Rattle.flat_code.specs.declared.instruction.FlatInstruction.{FlatInstruction}
use Rattle.flat_code.specs.declared.instruction.FlatInstruction.TheVariants.{Operate, Load, Branch, JumpForward}
use Rattle.flat_code.specs.Memory.{Bytes, put, load}
use Rattle.flat_code.specs.Spaces.{is_of_objects, is_allowed}
use Rattle.flat_code.specs.State.{State}
use Rattle.flat_code.specs.Words.{IsOfWords}
use Rattle.flat_code.specs.Meaning.{Context, Goes}
use Rattle.flat_code.proofs.Words.{LocalFits}
use Rattle.flat_code.proofs.Stored.{put_same, put_other}
use Rattle.flat_code.specs.declared.registers.Entry.{Entry}
use Rattle.flat_code.specs.declared.registers.Held.{Held}
use Rattle.flat_code.specs.Routines.Registers.{IsNoneOf, AreDistinct, AreBelow, OthersStay}
use Rattle.flat_code.specs.Routines.Routine.{HasAt, Outcome, Continues, Halts, Reaches, Either, Never}
use Rattle.flat_code.specs.Routines.Effects.{worked, effects, AreAllowed}
use Rattle.flat_code.specs.Routines.Metadata.{View, no_metadata, metadata_in, entry_registers, held_registers}
use Rattle.flat_code.specs.Routines.Metadata.{ShowsNothing}
use Rattle.flat_code.specs.Routines.Metadata.{IsObjectWord}
use Rattle.flat_code.proofs.Routines.Steps.{has_front, has_back, run_fits, has_self}
use Rattle.flat_code.proofs.Routines.Straight.{run_straight}
use Rattle.flat_code.proofs.Routines.Rules.{line_on, branch, jump_on, arrived, weaken}
use Rattle.flat_code.proofs.Routines.Regions.{laid_out}
use Rattle.flat_code.proofs.Routines.Words.{same_metadata}
use Rattle.flat_code.proofs.Routines.Branches.{if_equal, if_unequal}
use Rattle.flat_code.specs.Routines.Objects.StandsFor.{Views, Keys, spell}
use Rattle.shadow_space.specs.Form.{HasRead, IsReadRoutine}
use Rattle.shadow_space.proofs.Entries.{context_of}
use Rattle.flat_actions.specs.Actions.{IsFor, IsHeldBy, Word, Pointer as InPointer, Leaves, views_of, work_of}
use Rattle.flat_actions.specs.Actions.{program_basis}
use Rattle.lib_wrappers.specs.declared.accesses.held.HeldScalar.TheVariants.{Pointer}
use Rattle.lib_wrappers.specs.AccessRoutines.Accessing.{IsLoadRoutine, word_code, no_entry, load_pointer_code}
use Rattle.lib_wrappers.proofs.AccessRoutines.Places.{of_objects, number_there, word_there, entry_there, none_there}
use Rattle.lib_wrappers.proofs.AccessRoutines.Places.{access_allowed}
use Rattle.lib_wrappers.proofs.AccessRoutines.Shown.{ShowsOne, shows_one_then, one_at_work, is_shown, load_is}
use Rattle.lib_wrappers.proofs.AccessRoutines.Shown.{given_read}
use Rattle.lib_wrappers.proofs.AccessRoutines.Integers.{address_is}

-- code without jumps leaves words
pub effects_words : (c : Context) (is : List FlatInstruction) (s : State) → AreAllowed c is s → IsOfWords s
    → IsOfWords (effects c is s)
effects_words c is s a w =
    subst LocalFits (run_straight c is is 0 s a (has_self is)) (run_fits c is (length is) (Goes 0 s) w)

-- ---- no entry

record HasNoEntry (e : Entry) (s s' : State) : Type 0 where
  entry : metadata_in s'.values e ≡ no_metadata
  memory : s'.memory ≡ s.memory
  shows : ShowsNothing s s'
  others : (i : ℕ) → IsNoneOf i (entry_registers e) → s'.values i ≡ s.values i

no_entry_given : (c : Context) (e : Entry) (s : State) → AreDistinct (entry_registers e)
    → HasNoEntry e s (effects c (no_entry e) s)
no_entry_given c e s d =
    let v1 = put s.values e.base 0 in
    let v2 = put v1 e.bound 0 in
    let v3 = put v2 e.key 0 in
    let v4 = put v3 e.lock 0 in
    record {
      entry = same_metadata (metadata_in v4 e) no_metadata
          (put_other v3 e.lock 0 e.base d.0.1.1.0 ∙ put_other v2 e.key 0 e.base d.0.1.0
          ∙ put_other v1 e.bound 0 e.base d.0.0 ∙ put_same s.values e.base 0)
          (put_other v3 e.lock 0 e.bound d.1.0.1.0 ∙ put_other v2 e.key 0 e.bound d.1.0.0 ∙ put_same v1 e.bound 0)
          (put_other v3 e.lock 0 e.key d.1.1.0.0 ∙ put_same v2 e.key 0)
          (put_same v3 e.lock 0);
      memory = refl;
      shows = record { input = refl; output = refl; taken = refl; accesses = refl; turns = refl };
      others = λ i n. put_other v3 e.lock 0 i n.1.1.1.0 ∙ put_other v2 e.key 0 i n.1.1.0
          ∙ put_other v1 e.bound 0 i n.1.0 ∙ put_other s.values e.base 0 i n.0;
    }

-- ---- whether an address is a multiple of 8

pub if_aligned : (a s : ℕ) → s ≡ a * 2 ^ 61 % 2 ^ 64 → s ≡ 0 → a % 8 ≡ 0
if_aligned a s e z = omega arith

pub if_misaligned : (a s : ℕ) → s ≡ a * 2 ^ 61 % 2 ^ 64 → s ≢ 0 → a % 8 ≢ 0
if_misaligned a s e z = λ q. z (let r : a ≡ 8 * (a / 8) = omega arith in omega arith)

-- ---- the word, and the test

module _ (map : MapSizes) (charge weight : ℕ) (address : ℕ) (into : Held) (t : ℕ)
    (apart : AreDistinct (address ∷ held_registers into))
    (below : AreBelow t (address ∷ held_registers into)) where
  abbrev c : Context
  c = context_of map false charge weight

  abbrev start_code : List FlatInstruction
  start_code = Load Ld into.value address 0 ∷ Operate Sll t address (Number 61) ∷ []

  record HasWord (a : ℕ) (f y : State) : Type 0 where
    value : y.values into.value ≡ load 8 f.memory a
    shifted : y.values t ≡ a * 2 ^ 61 % 2 ^ 64
    kept : y.values address ≡ a
    memory : y.memory ≡ f.memory
    shows : ShowsOne (record { address = a; size = 8; kind = Read }) f y
    others : OthersStay (held_registers into) t f y

  has_word : (a : ℕ) (f : State) → IsOfWords f → f.values address ≡ a → is_of_objects map a 8 ≡ true
      → HasWord a f (effects c start_code f)
  unfolding reg_result extended
  has_word a f w at inside =
      let i = (f.values address + 0) % 2 ^ 64 in
      let is = address_is (f.values address) a (w.values address) at in
      let v1 = put f.values into.value (load 8 f.memory i) in
      let kept1 : v1 address ≡ f.values address = put_other f.values into.value _ address apart.0.0 in
      let into_t : into.value ≢ t = λ e. (let b = below.1.0 in omega arith) in
      let h_t : address ≢ t = λ e. (let b = below.0 in omega arith) in
      record {
        value = put_other v1 t _ into.value into_t ∙ put_same f.values into.value _ ∙ ap (load 8 f.memory) is;
        shifted = put_same v1 t _ ∙ ap (λ z. z * 2 ^ 61 % 2 ^ 64) (kept1 ∙ at);
        kept = put_other v1 t _ address h_t ∙ kept1 ∙ at;
        memory = refl;
        shows = record {
          input = refl;
          output = refl;
          taken = refl;
          accesses = is_shown map charge weight a i 8 8 Read f.accesses is refl inside;
          turns = refl;
        };
        others = λ j l none. put_other v1 t _ j (λ e. omega (arith, e)) ∙ put_other f.values into.value _ j none.0;
      }

-- ---- the whole

module _ (map : MapSizes) (mapped : AreMapped map) (entry : View) (IsGood : Bytes → Type 0) (address : ℕ) (into : Held)
    (t : ℕ)
    (apart : AreDistinct (address ∷ held_registers into)) (below : AreBelow t (address ∷ held_registers into))
    (read : List FlatInstruction) (reads : IsReadRoutine map entry IsGood address into.tag t read)
    (functions : ℕ) (types : ℕ → ℕ) (k : Keys) (x : Source) (v : Value) (charge weight line : ℕ) where
  abbrev g : Views
  g = views_of map functions types entry

  abbrev cx : Context
  cx = context_of map false charge weight

  module _ (code : List FlatInstruction) (pc : ℕ) (f : State) (w : IsOfWords f)
      (has : HasAt code pc (load_pointer_code address into t read)) (stands : IsFor g k IsGood x f)
      (held : IsHeldBy g k x.objects (Word address) v f.values) (d : IsDirect x.objects v 8) where
    abbrev p : Place
    p = place_in x.objects d.object v.word

    abbrev a : Access
    a = record { address = v.word; size = 8; kind = Read }

    abbrev R : Outcome → Type 0
    R = Leaves g k IsGood (InPointer into) t x f (source_load OfPointer false v line x)

    abbrev y : State
    y = effects cx (start_code map charge weight address into t apart below) f

    abbrev end : ℕ
    end = pc + length (load_pointer_code address into t read)

    allowed : IsAllowed x.objects v 8 p
    allowed = direct_allowed x.objects v 8 d

    in_objects : is_of_objects map v.word 8 ≡ true
    in_objects = of_objects g k x.objects f.memory (laid_out map mapped) stands.objects v 8 p allowed

    word : HasWord map charge weight address into t apart below v.word f y
    word = has_word map charge weight address into t apart below v.word f w held in_objects

    may_start : AreAllowed cx (start_code map charge weight address into t apart below) f
    may_start = (
      ap (λ z. is_allowed map z 8) (address_is (f.values address) v.word (w.values address) held)
          ∙ access_allowed map v.word 8 in_objects,
      (tt, tt),
    )

    -- the loaded value in its registers
    given : (z : State) → z.memory ≡ f.memory → ShowsOne a f z → z.values into.value ≡ load 8 f.memory v.word
        → metadata_in z.values into.tag ≡ spell g k (tag_at p x.objects) → OthersStay (held_registers into) t f z
        → R (Continues z)
    unfolding read_value
    given z memory shows value tag others =
        let number = number_there g k x.objects f.memory (laid_out map mapped) stands.objects v 8 p allowed in
        subst (λ o. Leaves g k IsGood (InPointer into) t x f o (Continues z)) (sym (load_is OfPointer v line x d))
        (given_read g k IsGood (InPointer into) t x a f z (read_value OfPointer p x.objects) stands memory shows
        (record { word = value ∙ number; tag = tag }) others)

    -- with its entry
    with_entry : (z : State) → v.word % 8 ≡ 0 → (o : Outcome)
        → Either (HasRead entry address into.tag t (worked cx y)) Never o → R o
    with_entry s e (Halts status report z) never = absurd never
    with_entry s e (Continues z) q =
        let there = entry_there g k x.objects f.memory (laid_out map mapped) stands.objects v 8 p allowed (omega arith)
        e in
        given z (q.memory ∙ word.memory) (shows_one_then a f (worked cx y) z
        (one_at_work a f y _ word.shows)
        q.shows)
        (q.others into.value (let b = below.1.0 in omega arith) apart.1.0 ∙ word.value)
        (q.read ∙ ap (λ m. entry m (y.values address)) word.memory ∙ ap (entry f.memory) word.kept ∙ there)
        (λ i l none. q.others i (omega arith) none.1 ∙ word.others i l none)

    loads_pointer : Reaches cx code 21 (Goes pc f) end R
    loads_pointer =
        let W = word_code address into t (length read) in
        let front = has_front code pc W read has in
        let back = has_back code pc W read has in
        let w1 = effects_words cx (start_code map charge weight address into t apart below) f may_start w in
        let w2 : IsOfWords (worked cx y) = record { values = w1.values; memory = w1.memory } in
        let len : pc + 8 + length read ≡ end = omega (arith, length-append W read) in
        line_on cx code (start_code map charge weight address into t apart below) 19 pc f end R may_start
        (front.0, (front.1.0, tt))
        (branch cx code 18 (pc + 2) y Beq t (Number 0) 5 end R
        (let q : pc + 1 + 1 ≡ pc + 2 = omega arith in
        subst (λ n. slice_get code n ≡ Some (Branch Beq t (Number 0) 5)) q front.1.1.0)
        (λ e.
        let zero = if_equal _ _ e in
        let aligned = if_aligned v.word (y.values t) word.shifted zero in
        let there = word_there g k x.objects f.memory (laid_out map mapped) stands.objects v 8 p allowed (omega arith)
        aligned in
        let run = (reads false charge weight).from code (pc + 8) (worked cx y) back w2
        (subst (IsObjectWord map) (sym word.kept) there, subst IsGood (sym word.memory) stands.spaces.shadow) in
        let to : pc + 8 ≡ pc + 2 + 1 + 5 = omega arith in
        subst (λ n. Reaches cx code 18 (Goes n (worked cx y)) end R) to
        (subst (λ n. Reaches cx code 18 (Goes (pc + 8) (worked cx y)) n R) len
        (weaken cx code 18 18 (Goes (pc + 8) (worked cx y)) (pc + 8 + length read) _ R (omega arith)
        (with_entry y aligned) run)))
        (λ e.
        let some = if_misaligned v.word (y.values t) word.shifted (if_unequal _ _ e) in
        let none = none_there g k x.objects f.memory (laid_out map mapped) stands.objects v 8 p allowed some in
        let z = effects cx (no_entry into.tag) (worked cx y) in
        let n = no_entry_given cx into.tag (worked cx y) apart.1.1 in
        let q : pc + 1 + 1 + 1 ≡ pc + 2 + 1 = omega arith in
        let has_rest = subst (λ i. HasAt code i (no_entry into.tag ++ JumpForward (length read) ∷ [])) q front.1.1.1 in
        let consts = has_front code (pc + 2 + 1) (no_entry into.tag) (JumpForward (length read) ∷ []) has_rest in
        let jump = has_back code (pc + 2 + 1) (no_entry into.tag) (JumpForward (length read) ∷ []) has_rest in
        weaken cx code 5 18 (Goes (pc + 2 + 1) (worked cx y)) end R R (omega arith) (λ o r. r)
        (line_on cx code (no_entry into.tag) 1 (pc + 2 + 1) (worked cx y) end R (tt, (tt, (tt, (tt, tt)))) consts
        (jump_on cx code 0 (pc + 2 + 1 + 4) (length read) z end R jump.0
        (arrived cx code 0 (worked cx z) (pc + 2 + 1 + 4 + 1 + length read) end R (omega (arith, len))
        (given (worked cx z) (n.memory ∙ word.memory)
        (one_at_work a f z _ (shows_one_then a f (worked cx y) z (one_at_work a f y _ word.shows) n.shows))
        (n.others into.value apart.1.0 ∙ word.value)
        (n.entry ∙ none)
        (λ i l u. n.others i u.1 ∙ word.others i l u)))))))

pub load_pointer_does : (map : MapSizes) (entry : View) (IsGood : Bytes → Type 0) (address : ℕ) (into : Held) (t : ℕ)
    (read : List FlatInstruction) → AreMapped map → AreDistinct (address ∷ held_registers into)
    → AreBelow t (address ∷ held_registers into) → IsReadRoutine map entry IsGood address into.tag t read
    → IsLoadRoutine (program_basis map entry IsGood) address (Pointer into) t (load_pointer_code address into t read)
load_pointer_does map entry IsGood address into t read mapped apart below reads line functions types k x [] charge
    weight =
    record { from = λ code pc f has w p. absurd p.1 }
load_pointer_does map entry IsGood address into t read mapped apart below reads line functions types k x (v ∷ []) charge
    weight =
    record {
      from = λ code pc f has w p.
          weaken _ code 21 (21 + 0 * work_of (source_load OfPointer false v line) x) (Goes pc f)
          (pc + length (load_pointer_code address into t read)) _ _ (omega arith) (λ o q. q)
          (loads_pointer map mapped entry IsGood address into t apart below read reads functions types k x v charge
          weight
          line
          code pc f w has p.0 p.1.0 p.2);
    }
load_pointer_does map entry IsGood address into t read mapped apart below reads line functions types k x (v ∷ v' ∷ vs)
    charge
    weight = record { from = λ code pc f has w p. absurd p.1.1 }
