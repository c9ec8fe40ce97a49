-- A pointer is narrowed: over registers of its own, and to what the definition says.
use Rattle.std.proofs.Common.{◌≡◌, ◌≢◌, ℕ, ◌+◌, ◌-◌, ◌%◌, ◌^◌, ◌<◌, ◌≤◌, max, min, List, [], ◌∷◌, Bool, map, true, refl}
use Rattle.std.proofs.Common.{sym}
use Rattle.std.proofs.Common.{ap, ap₂, ◌∙◌, subst, arith, ⊎_elim}
use Rattle.std.proofs.lemmas.Bool.{cases_eq}
use Rattle.addr_map.specs.Places.{MapSizes, AreMapped}
use Rattle.rv_isa.specs.declared.instruction.BranchOp.TheVariants.{Beq, Bgeu, Bltu}
use Rattle.rv_isa.specs.declared.instruction.RegOp.TheVariants.{Add, Sub}
use Rattle.rv_isa.specs.Results.{reg_result}
use Rattle.obj_memory.specs.declared.value.Tag.{Tag}
use Rattle.obj_memory.specs.declared.value.Tag.TheVariants.{Untagged, OfFunction, OfObject}
use Rattle.obj_memory.specs.declared.value.Value.{Value}
use Rattle.obj_memory.specs.Objects.{Objects}
use Rattle.obj_memory.specs.Judgement.{narrowed, narrowed_tag}
use Rattle.obj_memory.specs.Sound.{IsSoundTag}
use Rattle.flat_code.specs.declared.instruction.RightOperand.{RightOperand}
use Rattle.flat_code.specs.declared.instruction.RightOperand.TheVariants.{Register, Number}
use Rattle.flat_code.specs.declared.instruction.FlatInstruction.{FlatInstruction}
use Rattle.flat_code.specs.declared.instruction.FlatInstruction.TheVariants.{Operate, Move}
use Rattle.flat_code.specs.Memory.{put}
use Rattle.flat_code.specs.State.{State, Values}
use Rattle.flat_code.specs.Words.{IsOfWords}
use Rattle.flat_code.specs.Meaning.{Context, Goes, right_value}
use Rattle.flat_code.proofs.Stored.{put_other}
use Rattle.flat_code.specs.declared.registers.Held.{Held}
use Rattle.flat_code.specs.Routines.Registers.{IsNoneOf, OthersStay}
use Rattle.flat_code.specs.Routines.Routine.{Does, Either, Never, Outcome, Continues, Halts, Reaches}
use Rattle.flat_code.specs.Routines.Effects.{worked, effects}
use Rattle.flat_code.specs.Routines.Renaming.{all_fit, rename, through}
use Rattle.flat_code.specs.Routines.Metadata.{Metadata, ShowsNothing, metadata_in}
use Rattle.flat_code.specs.Routines.Objects.StandsFor.{Views, Keys, spell, Spells}
use Rattle.flat_code.proofs.Routines.Steps.{has_self}
use Rattle.flat_code.proofs.Routines.Rules.{branch, line_on, arrived, weaken}
use Rattle.flat_code.proofs.Routines.Branches.{if_equal, if_unequal, if_less, if_not_less, if_below, if_not_below}
use Rattle.flat_code.proofs.Routines.Distinct.{AreRegisters, register_of, registers_rename, others_stay}
use Rattle.flat_code.proofs.Routines.Words.{same_metadata}
use Rattle.flat_code.proofs.Routines.Wrapped.{routine}
use Rattle.shadow_space.proofs.Entries.{agrees_shows, agrees_memory, context_of}
use Rattle.lock_space.proofs.Spaces.{locks_laid_out}
use Rattle.flat_actions.specs.Judgement.Testing.{IsToTest}
use Rattle.flat_actions.specs.Narrowing.{IsOther, CanNarrow, narrowed_registers, narrow_code, HasNarrowed}
use Rattle.flat_actions.specs.Narrowing.{IsNarrowRoutine, HasGoneOn, IsMoveOnRoutine}

-- ---- over registers of its own

-- 0 and 1 are the operands where they are registers, 2 the lock, 3 to 5 the value and its bounds, 6 for work
abbrev own_pointer : Held
own_pointer = record { value = 3; tag = record { base = 4; bound = 5; key = 6; lock = 2 } }

abbrev own : RightOperand → (register : ℕ) → RightOperand
own (Register x) j = Register j
own (Number n) j = Number n

abbrev alone : (offset size : RightOperand) → List FlatInstruction
alone o n = narrow_code own_pointer (own o 0) (own n 1) 6

-- an operand does not change where other registers do
kept_operand : (n : RightOperand) (values : Values) (x a : ℕ) → x ≢ 1 → right_value (own n 1) (put values x a)
    ≡ right_value (own n 1) values
kept_operand (Register y) values x a ne = put_other values x a 1 (λ e. ne (sym e))
kept_operand (Number m) values x a ne = refl

-- the numbers of a pointer that goes on by so many bytes to a member of so many
record IsNarrowed (offset size : ℕ) (v z : State) : Type 0 where
  value : z.values 3 ≡ (v.values 3 + offset) % 2 ^ 64
  base : v.values 2 ≢ 0 → z.values 4 ≡ max (v.values 4) ((v.values 3 + offset) % 2 ^ 64)
  bound : v.values 2 ≢ 0 → z.values 5 ≡ min (v.values 5) ((v.values 3 + offset) % 2 ^ 64 + size)
  none : v.values 2 ≡ 0 → (z.values 4 ≡ v.values 4) × (z.values 5 ≡ v.values 5)
  memory : z.memory ≡ v.memory
  shows : ShowsNothing v z

module _ (c : Context) (o n : RightOperand) (v : State) (w : IsOfWords v) where
  abbrev moved_by : ℕ
  moved_by = right_value (own o 0) v.values

  abbrev member_size : ℕ
  member_size = right_value (own n 1) v.values

  abbrev address : ℕ
  address = (v.values 3 + moved_by) % 2 ^ 64

  abbrev R : Outcome → Type 0
  R = Either (IsNarrowed moved_by member_size v) Never

  -- the value and its base are there, of a pointer with a lock word
  record IsBased (y : State) : Type 0 where
    value : y.values 3 ≡ address
    base : y.values 4 ≡ max (v.values 4) address
    bound : y.values 5 ≡ v.values 5
    some : v.values 2 ≢ 0
    bytes : right_value (own n 1) y.values ≡ member_size
    memory : y.memory ≡ v.memory
    shows : ShowsNothing v y

  bounded : (y z : State) → IsBased y → z.values 3 ≡ address → z.values 4 ≡ y.values 4
      → z.values 5 ≡ min (v.values 5) (address + member_size) → z.memory ≡ y.memory → ShowsNothing v z → IsNarrowed moved_by member_size v z
  bounded y z h value base bound memory shows = record {
    value = value;
    base = λ q. base ∙ h.base;
    bound = λ q. bound;
    none = λ zero. absurd (h.some zero);
    memory = memory ∙ h.memory;
    shows = shows;
  }

  bounds : (y : State) → IsBased y → Reaches c (alone o n) 4 (Goes 4 y) 8 R
  unfolding put reg_result
  bounds y h =
      let has = has_self (alone o n) in
      let wide = w.values 5 in let is = h.bound in let at = h.value in
      let q = h.shows in
      branch c (alone o n) 3 4 y Bltu 5 (Register 3) 3 8 R has.1.1.1.1.0
      (λ e.
      let less : y.values 5 < y.values 3 = if_less _ _ e in
      arrived c (alone o n) 3 (worked c y) 8 8 R refl
      (bounded y (worked c y) h at refl (omega (arith, is, at)) refl (record {
        input = q.input;
        output = q.output;
        taken = q.taken;
        accesses = q.accesses;
        turns = q.turns;
      })))
      (λ e.
      let reach : y.values 3 ≤ y.values 5 = if_not_less _ _ e in
      let z = effects c (Operate Sub 6 5 (Register 3) ∷ []) (worked c y) in
      let bytes : right_value (own n 1) z.values ≡ member_size = kept_operand n y.values 6 _ (λ k. omega arith) ∙ h.bytes in
      line_on c (alone o n) (Operate Sub 6 5 (Register 3) ∷ []) 2 5 (worked c y) 8 R (tt, tt) (has.1.1.1.1.1.0, tt)
      (branch c (alone o n) 1 6 z Bltu 6 (own n 1) 1 8 R has.1.1.1.1.1.1.0
      (λ e2.
      let few : (y.values 5 + (2 ^ 64 - y.values 3)) % 2 ^ 64 < right_value (own n 1) z.values = if_less _ _ e2 in
      arrived c (alone o n) 1 (worked c z) 8 8 R refl
      (bounded y (worked c z) h at refl (omega (arith, is, at, bytes)) refl (record {
        input = q.input;
        output = q.output;
        taken = q.taken;
        accesses = q.accesses;
        turns = q.turns;
      })))
      (λ e2.
      let more : right_value (own n 1) z.values ≤ (y.values 5 + (2 ^ 64 - y.values 3)) % 2 ^ 64 = if_not_less _ _ e2 in
      line_on c (alone o n) (Operate Add 5 3 (own n 1) ∷ []) 0 7 (worked c z) 8 R (tt, tt)
      (has.1.1.1.1.1.1.1.0, tt)
      (arrived c (alone o n) 0 (effects c (Operate Add 5 3 (own n 1) ∷ []) (worked c z)) 8 8 R refl
      (bounded y _ h at refl (omega (arith, is, at, bytes)) refl (record {
        input = q.input;
        output = q.output;
        taken = q.taken;
        accesses = q.accesses;
        turns = q.turns;
      }))))))

  narrows_alone : Reaches c (alone o n) 8 (Goes 0 v) 8 R
  unfolding put reg_result
  narrows_alone =
      let has = has_self (alone o n) in
      let y = effects c (Operate Add 3 3 (own o 0) ∷ []) v in
      let bytes : right_value (own n 1) y.values ≡ member_size = kept_operand n v.values 3 _ (λ k. omega arith) in
      line_on c (alone o n) (Operate Add 3 3 (own o 0) ∷ []) 7 0 v 8 R (tt, tt) (has.0, tt)
      (branch c (alone o n) 6 1 y Beq 2 (Number 0) 6 8 R has.1.0
      (λ e.
      let zero : v.values 2 ≡ 0 = if_equal _ _ e in
      arrived c (alone o n) 6 (worked c y) 8 8 R refl (record {
        value = refl;
        base = λ some. absurd (some zero);
        bound = λ some. absurd (some zero);
        none = λ q. (refl, refl);
        memory = refl;
        shows = record { input = refl; output = refl; taken = refl; accesses = refl; turns = refl };
      }))
      (λ e.
      let some : v.values 2 ≢ 0 = if_unequal _ _ e in
      branch c (alone o n) 5 2 (worked c y) Bgeu 4 (Register 3) 1 8 R has.1.1.0
      (λ e2.
      let above : address ≤ v.values 4 = if_not_below _ _ e2 in
      weaken c (alone o n) 4 5 (Goes 4 (worked c (worked c y))) 8 R R (omega arith) (λ x q. q)
      (bounds (worked c (worked c y)) (record {
        value = refl;
        base = omega arith;
        bound = refl;
        some = some;
        bytes = bytes;
        memory = refl;
        shows = record { input = refl; output = refl; taken = refl; accesses = refl; turns = refl };
      })))
      (λ e2.
      let under : v.values 4 < address = if_below _ _ e2 in
      let z = effects c (Move 4 3 ∷ []) (worked c (worked c y)) in
      line_on c (alone o n) (Move 4 3 ∷ []) 4 3 (worked c (worked c y)) 8 R (tt, tt) (has.1.1.1.0, tt)
      (bounds z (record {
        value = refl;
        base = omega arith;
        bound = refl;
        some = some;
        bytes = kept_operand n y.values 4 _ (λ k. omega arith) ∙ bytes;
        memory = refl;
        shows = record { input = refl; output = refl; taken = refl; accesses = refl; turns = refl };
      })))))

-- ---- the numbers in the registers of a pointer

-- what stands there when it was narrowed, and nothing else changed but registers from scratch on
record HasNumbers (h : Held) (offset size t : ℕ) (s s' : State) : Type 0 where
  value : s'.values h.value ≡ (s.values h.value + offset) % 2 ^ 64
  base : s.values h.tag.lock ≢ 0
      → s'.values h.tag.base ≡ max (s.values h.tag.base) ((s.values h.value + offset) % 2 ^ 64)
  bound : s.values h.tag.lock ≢ 0
      → s'.values h.tag.bound ≡ min (s.values h.tag.bound) ((s.values h.value + offset) % 2 ^ 64 + size)
  none : s.values h.tag.lock ≡ 0
      → (s'.values h.tag.base ≡ s.values h.tag.base) × (s'.values h.tag.bound ≡ s.values h.tag.bound)
  key : s'.values h.tag.key ≡ s.values h.tag.key
  lock : s'.values h.tag.lock ≡ s.values h.tag.lock
  memory : s'.memory ≡ s.memory
  shows : ShowsNothing s s'
  others : OthersStay (narrowed_registers h) t s s'

module _ (h : Held) (offset size t : ℕ) (s s' : State) (q : HasNumbers h offset size t s s')
    (none : s.values h.tag.lock ≡ 0) where
  -- without a lock word nothing changed but the address
  alike : metadata_in s'.values h.tag ≡ metadata_in s.values h.tag
  alike = same_metadata (metadata_in s'.values h.tag) (metadata_in s.values h.tag) (q.none none).0 (q.none none).1 q.key
      q.lock

  others_alike : OthersStay (h.value ∷ []) t s s'
  others_alike x l ne = ⊎_elim
      (λ e. ap s'.values e ∙ (q.none none).0 ∙ ap s.values (sym e))
      (λ no_base. ⊎_elim
      (λ e. ap s'.values e ∙ (q.none none).1 ∙ ap s.values (sym e))
      (λ no_bound. q.others x l (ne.0, (no_base, (no_bound, tt))))
      (cases_eq x h.tag.bound))
      (cases_eq x h.tag.base)

  moved_on : HasGoneOn h offset t s s'
  moved_on = record {
    address = q.value;
    metadata = alike;
    memory = q.memory;
    shows = q.shows;
    others = others_alike;
  }

-- ---- the entry is that of the narrowed pointer

module _ (g : Views) (k : Keys) (objects : Objects) (v : Value) (offset size : ℕ) (mapped : AreMapped g.sizes) (h : Held)
    (t : ℕ) (s s' : State) (p : IsToTest g k objects v h s) (q : HasNumbers h offset size t s s') where
  kept : s.values h.tag.lock ≡ 0 → metadata_in s'.values h.tag ≡ metadata_in s.values h.tag
  kept = alike h offset size t s s' q

  word_is : s'.values h.value ≡ (narrowed offset size v).word
  unfolding narrowed
  word_is = q.value ∙ ap (λ a. (a + offset) % 2 ^ 64) p.spells.word

  by_tag : (t : Tag) → IsSoundTag g.functions objects t → metadata_in s.values h.tag ≡ spell g k t
      → metadata_in s'.values h.tag ≡ spell g k (narrowed_tag ((v.word + offset) % 2 ^ 64) size t)
  by_tag Untagged sound e = kept (ap (λ (m : Metadata). m.lock) e) ∙ e
  by_tag (OfFunction f) sound e = kept (ap (λ (m : Metadata). m.lock) e) ∙ e
  by_tag (OfObject i b) sound e =
      let lock = (p.stands.keyed.each i sound.made).lock in
      let lie = locks_laid_out g.sizes mapped in
      let first = lie.first in
      let from = lock.first in
      let is : s.values h.tag.lock ≡ (k.held i).lock = ap (λ (m : Metadata). m.lock) e in
      let some : s.values h.tag.lock ≢ 0 = λ zero. absurd (omega arith) in
      let word = p.spells.word in
      same_metadata (metadata_in s'.values h.tag)
      (spell g k (narrowed_tag ((v.word + offset) % 2 ^ 64) size (OfObject i b)))
      (q.base some ∙ ap₂ (λ x a. max x ((a + offset) % 2 ^ 64)) (ap (λ (m : Metadata). m.base) e) word)
      (q.bound some ∙ ap₂ (λ x a. min x ((a + offset) % 2 ^ 64 + size)) (ap (λ (m : Metadata). m.bound) e) word)
      (q.key ∙ ap (λ (m : Metadata). m.key) e) (q.lock ∙ is)

  spells_narrowed : Spells g k (narrowed offset size v) h s'.values
  unfolding narrowed
  spells_narrowed = record { word = word_is; tag = by_tag v.tag p.sound p.spells.tag }

-- ---- over any registers

abbrev register_or : RightOperand → (other : ℕ) → ℕ
register_or (Register x) y = x
register_or (Number n) y = y

abbrev inputs : Held → (offset size : RightOperand) → List ℕ
inputs h o n = register_or o h.tag.lock ∷ register_or n h.tag.lock ∷ h.tag.lock ∷ []

module _ (h : Held) (t : ℕ) where
  abbrev names : (offset size : RightOperand) → ℕ → ℕ
  names o n = register_of (inputs h o n) (narrowed_registers h) (t ∷ [])

  renamed_code : (o n : RightOperand) → map (rename (names o n)) (alone o n) ≡ narrow_code h o n t
  renamed_code (Register x) (Register y) = refl
  renamed_code (Register x) (Number m) = refl
  renamed_code (Number l) (Register y) = refl
  renamed_code (Number l) (Number m) = refl

  all_are_fit : (o n : RightOperand) → all_fit 7 3 8 0 (alone o n) ≡ true
  all_are_fit (Register x) (Register y) = refl
  all_are_fit (Register x) (Number m) = refl
  all_are_fit (Number l) (Register y) = refl
  all_are_fit (Number l) (Number m) = refl

  module _ (o n : RightOperand) (can : CanNarrow h o n t) where
    other : (x : RightOperand) → IsOther h t x
        → (register_or x h.tag.lock < t) × IsNoneOf (register_or x h.tag.lock) (narrowed_registers h)
    other (Register x) q = q
    other (Number m) q =
        let b = can.below in let a = can.apart in
        (b.1.1.1.1.0, ((λ e. a.0.1.1.1.0 (sym e)), ((λ e. a.1.0.1.1.0 (sym e)), ((λ e. a.1.1.0.1.0 (sym e)), tt))))

    are_registers : AreRegisters (inputs h o n) (narrowed_registers h) (t ∷ []) t
    are_registers =
        let b = can.below in let a = can.apart in
        let x = other o can.offset_is_other in let y = other n can.size_is_other in let z = other (Number 0) tt in
        record {
          none = (x.1, (y.1, (z.1, tt)));
          distinct = ((a.0.0, (a.0.1.0, tt)), ((a.1.0.0, tt), (tt, tt)));
          ins_below = (x.0, (y.0, (z.0, tt)));
          res_below = (b.0, (b.1.0, (b.1.1.0, tt)));
          from = (omega arith, tt);
          own_distinct = (tt, tt);
        }

    -- the operands are the same through these registers
    seen_offset : (x : RightOperand) (s : State) → right_value (own x 0) (through (names x n) s).values
        ≡ right_value x s.values
    seen_offset (Register x) s = refl
    seen_offset (Number m) s = refl

    seen_size : (x : RightOperand) (s : State) → right_value (own x 1) (through (names o x) s).values
        ≡ right_value x s.values
    seen_size (Register x) s = refl
    seen_size (Number m) s = refl

-- the numbers, whatever the registers stand for
numbers : (h : Held) (o n : RightOperand) (t : ℕ) → CanNarrow h o n t → (map : MapSizes) (offset size : ℕ)
    (runtime : Bool) (charge weight : ℕ)
    → Does (context_of map runtime charge weight) (narrow_code h o n t)
    (λ s. (right_value o s.values ≡ offset) × (right_value n s.values ≡ size)) (λ s. 8)
    (λ s. Either (HasNumbers h offset size t s) Never)
numbers h o n t can map offset size runtime charge weight =
    let c = context_of map runtime charge weight in
    let r = are_registers h t o n can in
    let f = names h t o n in
    let P : State → Type 0 = λ s. (right_value o s.values ≡ offset) × (right_value n s.values ≡ size) in
    subst (λ code. Does c code P (λ s. 8) (λ s. Either (HasNumbers h offset size t s) Never))
    (renamed_code h t o n)
    (routine c 7 3 f (alone o n) P (registers_rename (inputs h o n) (narrowed_registers h) (t ∷ []) t r)
    (all_are_fit h t o n) (λ s. 8)
    (λ s. IsNarrowed (right_value (own o 0) (through f s).values) (right_value (own n 1) (through f s).values) (through f s))
    (λ s. HasNumbers h offset size t s)
    (λ s w seen p. narrows_alone c o n (through f s) seen)
    (λ s s' y w p q agrees only.
    let by : right_value (own o 0) (through f s).values ≡ offset = seen_offset h t o n can o s ∙ p.0 in
    let many : right_value (own n 1) (through f s).values ≡ size = seen_size h t o n can n s ∙ p.1 in
    let others = others_stay (inputs h o n) (narrowed_registers h) (t ∷ []) t r s s' only in
    let b = can.below in let a = can.apart in
    let z = q.shows in
    record {
      value = sym (agrees.values 3 (omega arith)) ∙ q.value
          ∙ ap (λ x. (s.values h.value + x) % 2 ^ 64) by;
      base = λ some. sym (agrees.values 4 (omega arith)) ∙ q.base some
          ∙ ap (λ x. max (s.values h.tag.base) ((s.values h.value + x) % 2 ^ 64)) by;
      bound = λ some. sym (agrees.values 5 (omega arith)) ∙ q.bound some
          ∙ ap₂ (λ x e. min (s.values h.tag.bound) ((s.values h.value + x) % 2 ^ 64 + e)) by many;
      none = λ zero. (
        sym (agrees.values 4 (omega arith)) ∙ (q.none zero).0,
        sym (agrees.values 5 (omega arith)) ∙ (q.none zero).1,
      );
      key = others h.tag.key b.1.1.1.0
          ((λ e. a.0.1.1.0 (sym e)), ((λ e. a.1.0.1.0 (sym e)), ((λ e. a.1.1.0.0 (sym e)), tt)));
      lock = others h.tag.lock b.1.1.1.1.0
          ((λ e. a.0.1.1.1.0 (sym e)), ((λ e. a.1.0.1.1.0 (sym e)), ((λ e. a.1.1.0.1.0 (sym e)), tt)));
      memory = agrees_memory 7 f y s' agrees ∙ q.memory;
      shows = agrees_shows 7 f y s s' agrees (record {
        input = z.input;
        output = z.output;
        taken = z.taken;
        accesses = z.accesses;
        turns = z.turns;
      });
      others = others;
    }))

-- ---- what is left, by what the registers stand for

weaker : (I J : State → Type 0) → ((s : State) → I s → J s) → (x : Outcome) → Either I Never x → Either J Never x
weaker I J to (Continues s) i = to s i
weaker I J to (Halts status report s) never = never

module _ (h : Held) (o n : RightOperand) (t : ℕ) (can : CanNarrow h o n t) where
  pub narrow_does : IsNarrowRoutine h o n t (narrow_code h o n t)
  narrow_does g k objects v offset size runtime charge weight mapped = record {
    from = λ code pc s has words p.
        weaken (context_of g.sizes runtime charge weight) code 8 8 (Goes pc s) (pc + 8)
        (Either (HasNumbers h offset size t s) Never) (Either (HasNarrowed g k (narrowed offset size v) h t s) Never)
        (omega arith)
        (weaker (HasNumbers h offset size t s) (HasNarrowed g k (narrowed offset size v) h t s) (λ s' q. record {
          spells = spells_narrowed g k objects v offset size mapped h t s s' p.0 q;
          memory = q.memory;
          shows = q.shows;
          others = q.others;
        }))
        ((numbers h o n t can g.sizes offset size runtime charge weight).from code pc s has words (p.1, p.2));
  }

  -- the size plays no part
  pub goes_on : IsMoveOnRoutine h o t (narrow_code h o n t)
  goes_on map offset runtime charge weight = record {
    from = λ code pc s has words p.
        weaken (context_of map runtime charge weight) code 8 8 (Goes pc s) (pc + 8)
        (Either (HasNumbers h offset (right_value n s.values) t s) Never) (Either (HasGoneOn h offset t s) Never)
        (omega arith)
        (weaker (HasNumbers h offset (right_value n s.values) t s) (HasGoneOn h offset t s)
        (λ s' q. moved_on h offset (right_value n s.values) t s s' q p.0))
        ((numbers h o n t can map offset (right_value n s.values) runtime charge weight).from code pc s has words
        (p.1, refl));
  }
