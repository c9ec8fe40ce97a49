-- The two tests in flat code are those of the source.
use Rattle.std.proofs.Common.{◌≡◌, ◌≢◌, ℕ, ◌+◌, ◌-◌, ◌%◌, ◌^◌, ◌<◌, ◌≤◌, ◌⊎◌, inl, inr, ⊎_elim, List, []}
use Rattle.std.proofs.Common.{◌∷◌, Bool, true, false, refl, sym, ap, ◌∙◌, subst, arith}
use Rattle.std.specs.Prelude.{nat_le}
use Rattle.std.proofs.lemmas.Bool.{le-leb, lt-leb, and_from, and_left, and_right, cases_Bool}
use Rattle.sb_base.specs.declared.ending.Ending.TheVariants.{Spatial, Temporal}
use Rattle.sb_base.specs.Endings.{code_of, report_of}
use Rattle.addr_map.specs.Places.{AreMapped}
use Rattle.rv_isa.specs.declared.instruction.BranchOp.TheVariants.{Beq, Bgeu}
use Rattle.rv_isa.specs.declared.instruction.RegOp.TheVariants.{Sub}
use Rattle.rv_isa.specs.declared.instruction.LoadOp.TheVariants.{Ld}
use Rattle.rv_isa.specs.Results.{reg_result, extended}
use Rattle.obj_memory.specs.declared.value.Tag.{Tag}
use Rattle.obj_memory.specs.declared.value.Tag.TheVariants.{Untagged, OfFunction, OfObject}
use Rattle.obj_memory.specs.declared.value.Value.{Value}
use Rattle.obj_memory.specs.Objects.{Objects, object_at}
use Rattle.obj_memory.specs.Sound.{IsSoundTag}
use Rattle.source_meaning.specs.State.{State as Source}
use Rattle.source_meaning.specs.Blocks.{pass_or_stop}
use Rattle.source_meaning.specs.Judging.{is_within, is_live_tag, test_bounds, test_life}
use Rattle.flat_code.specs.declared.instruction.RightOperand.{RightOperand}
use Rattle.flat_code.specs.declared.instruction.RightOperand.TheVariants.{Register, Number}
use Rattle.flat_code.specs.declared.instruction.FlatInstruction.{FlatInstruction}
use Rattle.flat_code.specs.declared.instruction.FlatInstruction.TheVariants.{Operate, Load, End}
use Rattle.flat_code.specs.Memory.{Bytes, load}
use Rattle.flat_code.specs.Spaces.{is_allowed}
use Rattle.flat_code.specs.State.{State}
use Rattle.flat_code.specs.Words.{IsOfWords}
use Rattle.flat_code.specs.Meaning.{Context, Goes, right_value}
use Rattle.flat_code.proofs.Stored.{put_same, put_other}
use Rattle.flat_code.specs.declared.registers.Held.{Held}
use Rattle.flat_code.specs.Routines.Registers.{AreBelow}
use Rattle.flat_code.specs.Routines.Routine.{HasAt, Outcome, Continues, Halts, Reaches}
use Rattle.flat_code.specs.Routines.Local.{counted}
use Rattle.flat_code.specs.Routines.Effects.{worked, effects}
use Rattle.flat_code.specs.Routines.Metadata.{held_registers}
use Rattle.flat_code.proofs.Routines.Rules.{branch, line_on, arrived, ended}
use Rattle.flat_code.proofs.Routines.Regions.{laid_out, shadow_not_shown}
use Rattle.flat_code.proofs.Routines.Branches.{if_not_below, if_below, if_equal, if_unequal}
use Rattle.flat_code.specs.Routines.Objects.StandsFor.{Views, Keys, spell, StandsFor, IsLock}
use Rattle.shadow_space.proofs.Entries.{context_of}
use Rattle.flat_code.proofs.Routines.Spaces.Quiet.{space_allowed, shows_itself}
use Rattle.lock_space.proofs.Spaces.{locks_laid_out}
use Rattle.flat_actions.specs.Judgement.Judging.{IsSameBut}
use Rattle.flat_actions.specs.Judgement.Testing.{IsToTest, IsBelow, IsTested, IsSpatialRoutine}
use Rattle.flat_actions.specs.Judgement.Code.{spatial_code}
use Rattle.flat_actions.specs.Judgement.Testing.{IsTemporalRoutine}
use Rattle.flat_actions.specs.Judgement.Code.{temporal_code}

-- ---- what the numbers of an entry say of its tag

module _ (g : Views) (k : Keys) where
  -- bytes, at least one, within the bounds of an entry
  is_inside : (t : Tag) (a n : ℕ) → 1 ≤ n → (spell g k t).base ≤ a → a + n ≤ (spell g k t).bound
      → is_within t a n ≡ true
  is_inside Untagged a n some lo hi = absurd (omega arith)
  is_inside (OfFunction f) a n some lo hi = absurd (omega arith)
  is_inside (OfObject o b) a n some lo hi =
      and_from (nat_le b.base a) (nat_le (a + n) b.bound) (le-leb b.base a lo) (le-leb (a + n) b.bound hi)

  -- and out of them
  is_outside : (t : Tag) (a n : ℕ) → (a < (spell g k t).base) ⊎ ((spell g k t).bound < a + n) → is_within t a n ≡ false
  is_outside Untagged a n h = refl
  is_outside (OfFunction f) a n h = refl
  is_outside (OfObject o b) a n h =
      ⊎_elim (λ l. and_left (nat_le b.base a) (nat_le (a + n) b.bound) (lt-leb b.base a l))
      (λ l. and_right (nat_le b.base a) (nat_le (a + n) b.bound) (lt-leb (a + n) b.bound l)) h

  -- a tag with bytes within its bounds is that of an object, which has a lock word
  has_lock : (objects : Objects) (m : Bytes) (t : Tag) (a n : ℕ) → StandsFor g k objects m
      → IsSoundTag g.functions objects t → is_within t a n ≡ true → IsLock g.sizes (spell g k t).lock
  has_lock objects m Untagged a n st sound e = cc
  has_lock objects m (OfFunction f) a n st sound e = cc
  has_lock objects m (OfObject o b) a n st sound e = (st.keyed.each o sound.made).lock

  -- that tells whether it lives
  lives_by_lock : (objects : Objects) (m : Bytes) (t : Tag) (a n : ℕ) → StandsFor g k objects m
      → IsSoundTag g.functions objects t → is_within t a n ≡ true
      → load 8 m (spell g k t).lock ≡ (spell g k t).key → is_live_tag t objects ≡ true
  lives_by_lock objects m Untagged a n st sound e same = cc
  lives_by_lock objects m (OfFunction f) a n st sound e same = cc
  lives_by_lock objects m (OfObject o b) a n st sound e same =
      ⊎_elim (λ live. live) (λ dead. absurd (st.locks.dead o sound.made dead same))
      (cases_Bool (object_at objects o).is_live)

  dead_by_lock : (objects : Objects) (m : Bytes) (t : Tag) (a n : ℕ) → StandsFor g k objects m
      → IsSoundTag g.functions objects t → is_within t a n ≡ true
      → load 8 m (spell g k t).lock ≢ (spell g k t).key → is_live_tag t objects ≡ false
  dead_by_lock objects m Untagged a n st sound e differs = refl
  dead_by_lock objects m (OfFunction f) a n st sound e differs = refl
  dead_by_lock objects m (OfObject o b) a n st sound e differs =
      ⊎_elim (λ live. absurd (differs (st.locks.live o live))) (λ dead. dead)
      (cases_Bool (object_at objects o).is_live)

-- work plays no part
same_at_work : (t : ℕ) (s y : State) (n : ℕ) → IsSameBut t s y → IsSameBut t s (record y { work = n })
same_at_work t s y n b = let q = b.shows in record {
  memory = b.memory;
  shows = record { input = q.input; output = q.output; taken = q.taken; accesses = q.accesses; turns = q.turns };
  others = b.others;
}

-- ---- the bounds

module _ (h : Held) (size : RightOperand) (line t : ℕ) (below : AreBelow t (held_registers h)) (fits : IsBelow t size)
    (c : Context) where
  -- the bytes from the address to the bound
  abbrev left_in : State → ℕ
  left_in s = (s.values h.tag.bound + (2 ^ 64 - s.values h.value)) % 2 ^ 64

  abbrev after : State → State
  after s = effects c (Operate Sub t h.tag.bound (Register h.value) ∷ []) (worked c (worked c s))

  left_is : (s : State) → (after s).values t ≡ left_in s
  unfolding reg_result
  left_is s = put_same s.values t (left_in s)

  same_after : (s : State) → IsSameBut t s (after s)
  same_after s = record {
    memory = refl;
    shows = record { input = refl; output = refl; taken = refl; accesses = refl; turns = refl };
    others = λ i l none. put_other s.values t _ i (λ e. omega (arith, e));
  }

  size_is : (s : State) → right_value size (after s).values ≡ right_value size s.values
  size_is s = by size fits
    where
      by : (y : RightOperand) → IsBelow t y → right_value y (after s).values ≡ right_value y s.values
      by (Register x) l = put_other s.values t _ x (λ e. omega (arith, e))
      by (Number n) l = refl

  module _ (g : Views) (k : Keys) (x : Source) (v : Value) (n : ℕ) (code : List FlatInstruction) (pc : ℕ) (s : State)
      (has : HasAt code pc (spatial_code h size line t)) (w : IsOfWords s) (p : IsToTest g k x.objects v h s)
      (size_given : right_value size s.values ≡ n) (some : 1 ≤ n) where
    abbrev R : Outcome → Type 0
    R = IsTested (test_bounds n v line x) t s

    outside : (s' : State) → IsSameBut t s s' → (v.word < (spell g k v.tag).base)
        ⊎ ((spell g k v.tag).bound < v.word + n)
        → R (Halts (code_of (Spatial line)) (report_of (Spatial line)) s')
    outside s' same out =
        subst (λ b. IsTested (pass_or_stop b (Spatial line) x) t s
        (Halts (code_of (Spatial line)) (report_of (Spatial line)) s'))
        (sym (is_outside g k v.tag v.word n out)) (refl, refl, same)

    tests_bounds : Reaches c code 5 (Goes pc s) (pc + 7) R
    tests_bounds =
        let base = ap (λ q. q.base) p.spells.tag in let bound = ap (λ q. q.bound) p.spells.tag in
        let word = p.spells.word in
        let wide = w.values h.tag.bound in
        let still : IsSameBut t s s = record { memory = refl; shows = shows_itself s; others = λ i l none. refl } in
        branch c code 4 pc s Bgeu h.value (Register h.tag.base) 1 (pc + 7) R has.0
        (λ e.
        let above : s.values h.tag.base ≤ s.values h.value = if_not_below _ _ e in
        branch c code 3 (pc + 1 + 1) (worked c s) Bgeu h.tag.bound (Register h.value) 1 (pc + 7) R has.1.1.0
        (λ e2.
        let reach : s.values h.value ≤ s.values h.tag.bound = if_not_below _ _ e2 in
        let left : left_in s ≡ s.values h.tag.bound - s.values h.value = omega arith in
        let y = after s in
        line_on c code (Operate Sub t h.tag.bound (Register h.value) ∷ []) 2 (pc + 1 + 1 + 1 + 1)
        (worked c (worked c s))
        (pc + 7) R (tt, tt) (has.1.1.1.1.0, tt)
        (branch c code 1 (pc + 1 + 1 + 1 + 1 + 1) y Bgeu t size 1 (pc + 7) R has.1.1.1.1.1.0
        (λ e3.
        let least : right_value size y.values ≤ y.values t = if_not_below _ _ e3 in
        let l = left_is s in let q = size_is s in
        let inside : is_within v.tag v.word n ≡ true =
        is_inside g k v.tag v.word n some (omega arith) (omega arith) in
        arrived c code 1 (worked c y) (pc + 1 + 1 + 1 + 1 + 1 + 1 + 1) (pc + 7) R (omega arith)
        (subst (λ b. IsTested (pass_or_stop b (Spatial line) x) t s (Continues (worked c y))) (sym inside)
        (same_at_work t s y _ (same_after s))))
        (λ e3.
        let l = left_is s in let q = size_is s in
        let more : y.values t < right_value size y.values = if_below _ _ e3 in
        ended c code 0 (Spatial line) (worked c y) (pc + 1 + 1 + 1 + 1 + 1 + 1) (pc + 7) R has.1.1.1.1.1.1.0
        (outside _ (same_at_work t s y _ (same_after s)) (inr (omega arith))))))
        (λ e2.
        let beyond : s.values h.tag.bound < s.values h.value = if_below _ _ e2 in
        ended c code 2 (Spatial line) (worked c (worked c s)) (pc + 1 + 1 + 1) (pc + 7) R has.1.1.1.0
        (outside _ (same_at_work t s s _ still) (inr (omega arith)))))
        (λ e.
        let before : s.values h.value < s.values h.tag.base = if_below _ _ e in
        ended c code 3 (Spatial line) (worked c s) (pc + 1) (pc + 7) R has.1.0
        (outside _ (same_at_work t s s _ still) (inl (omega arith))))

pub spatial_does : (h : Held) (size : RightOperand) (line t : ℕ) → AreBelow t (held_registers h) → IsBelow t size
    → IsSpatialRoutine h size line t (spatial_code h size line t)
spatial_does h size line t below fits g k x v n runtime charge weight = record {
  from = λ code pc s has w p.
      tests_bounds h size line t below fits (context_of g.sizes runtime charge weight) g k x v n code pc s has w p.0 p.1
      p.2;
}

-- ---- the life of the object

module _ (h : Held) (line t : ℕ) (below : AreBelow t (held_registers h)) (g : Views) (k : Keys) (x : Source) (v : Value)
    (a n : ℕ) (runtime : Bool) (charge weight : ℕ) (mapped : AreMapped g.sizes) (code : List FlatInstruction) (pc : ℕ)
    (s : State) (has : HasAt code pc (temporal_code h line t)) (w : IsOfWords s) (p : IsToTest g k x.objects v h s)
    (within : is_within v.tag a n ≡ true) where
  abbrev c : Context
  c = context_of g.sizes runtime charge weight

  abbrev loaded : State
  loaded = effects c (Load Ld t h.tag.lock 0 ∷ []) s

  abbrev S : Outcome → Type 0
  S = IsTested (test_life v line x) t s

  at_lock : (s.values h.tag.lock + 0) % 2 ^ 64 ≡ (spell g k v.tag).lock
  at_lock = let lock = ap (λ q. q.lock) p.spells.tag in let small = w.values h.tag.lock in omega arith

  word_is : loaded.values t ≡ load 8 s.memory (spell g k v.tag).lock
  unfolding extended
  word_is = put_same s.values t _ ∙ ap (load 8 s.memory) at_lock

  key_is : loaded.values h.tag.key ≡ (spell g k v.tag).key
  key_is = put_other s.values t _ h.tag.key (λ e. (let l = below.1.1.1.0 in omega arith)) ∙ ap (λ q. q.key) p.spells.tag

  same_loaded : IsSameBut t s loaded
  same_loaded =
      let l = has_lock g k x.objects s.memory v.tag a n p.stands p.sound within in
      let lie = locks_laid_out g.sizes mapped in
      let from = l.first in let first = lie.first in let at = at_lock in
      record {
        memory = refl;
        shows = record {
          input = refl;
          output = refl;
          taken = refl;
          accesses = shadow_not_shown c _ 8 _ _ (laid_out g.sizes mapped) (omega arith);
          turns = refl;
        };
        others = λ i l none. put_other s.values t _ i (λ e. omega (arith, e));
      }

  may_look : is_allowed c.sizes ((s.values h.tag.lock + 0) % 2 ^ 64) 8 ≡ true
  may_look =
      let l = has_lock g k x.objects s.memory v.tag a n p.stands p.sound within in
      let lie = locks_laid_out g.sizes mapped in
      let from = l.first in let to = l.last in let first = lie.first in let cells = lie.cells in
      let blocks = lie.blocks in let inside = lie.inside in let small = lie.small in let at = at_lock in
      space_allowed c.sizes ((s.values h.tag.lock + 0) % 2 ^ 64) 8 (omega arith) (omega arith)

  tests_life : Reaches c code 3 (Goes pc s) (pc + 3) S
  tests_life =
      line_on c code (Load Ld t h.tag.lock 0 ∷ []) 2 pc s (pc + 3) S (may_look, tt) (has.0, tt)
      (branch c code 1 (pc + 1) loaded Beq t (Register h.tag.key) 1 (pc + 3) S has.1.0
      (λ e.
      let same = sym word_is ∙ if_equal _ _ e ∙ key_is in
      let live = lives_by_lock g k x.objects s.memory v.tag a n p.stands p.sound within same in
      arrived c code 1 (worked c loaded) (pc + 1 + 1 + 1) (pc + 3) S (omega arith)
      (subst (λ b. IsTested (pass_or_stop b (Temporal line) x) t s (Continues (worked c loaded))) (sym live)
      (same_at_work t s loaded _ same_loaded)))
      (λ e.
      let differs : load 8 s.memory (spell g k v.tag).lock ≢ (spell g k v.tag).key =
      λ q. if_unequal _ _ e (word_is ∙ q ∙ sym key_is) in
      let dead = dead_by_lock g k x.objects s.memory v.tag a n p.stands p.sound within differs in
      ended c code 0 (Temporal line) (worked c loaded) (pc + 1 + 1) (pc + 3) S has.1.1.0
      (over (counted c (End (Temporal line)) (worked c loaded)) dead (same_at_work t s loaded _ same_loaded))))
    where
      over : (s' : State) → is_live_tag v.tag x.objects ≡ false → IsSameBut t s s'
          → S (Halts (code_of (Temporal line)) (report_of (Temporal line)) s')
      over s' dead same = subst
          (λ b. IsTested (pass_or_stop b (Temporal line) x) t s
          (Halts (code_of (Temporal line)) (report_of (Temporal line)) s'))
          (sym dead) (refl, refl, same)

pub temporal_does : (h : Held) (line t : ℕ) → AreBelow t (held_registers h)
    → IsTemporalRoutine h line t (temporal_code h line t)
temporal_does h line t below g k x v a n runtime charge weight mapped = record {
  from = λ code pc s has w p.
      tests_life h line t below g k x v a n runtime charge weight mapped code pc s has w p.0 p.1;
}
