-- The entries of a range's whole words moved.
use Rattle.std.proofs.Common.{◌≡◌, ◌≢◌, ℕ, ◌+◌, ◌-◌, ◌*◌, ◌/◌, ◌%◌, ◌^◌, ◌<◌, ◌≤◌, ◌⊎◌, inl, inr, ⊎_elim, List, []}
use Rattle.std.proofs.Common.{◌∷◌, ◌++◌, true, refl, sym, ap, ◌∙◌, subst, arith}
use Rattle.std.proofs.lemmas.Bool.{eqb-true, eqb-false}
use Rattle.addr_map.specs.Places.{MapSizes}
use Rattle.rv_isa.specs.declared.instruction.BranchOp.TheVariants.{Bne, Bgeu}
use Rattle.rv_isa.specs.declared.instruction.RegOp.TheVariants.{Add, Sub, Sll, Srl}
use Rattle.rv_isa.specs.Results.{reg_result}
use Rattle.flat_code.specs.declared.instruction.RightOperand.TheVariants.{Register, Number}
use Rattle.flat_code.specs.declared.instruction.FlatInstruction.{FlatInstruction}
use Rattle.flat_code.specs.declared.instruction.FlatInstruction.TheVariants.{Constant, Operate}
use Rattle.flat_code.specs.Memory.{Bytes, put}
use Rattle.flat_code.specs.State.{State}
use Rattle.flat_code.specs.Meaning.{Context, Goes}
use Rattle.flat_code.specs.Routines.Registers.{AreBelow, OthersStay, IsNoneOf}
use Rattle.flat_code.specs.Routines.Routine.{Does, Either, Never, Reaches, Outcome}
use Rattle.flat_code.specs.Routines.Effects.{worked, effects}
use Rattle.flat_code.specs.Routines.Renaming.{through, Agrees}
use Rattle.flat_code.specs.Routines.Metadata.{View, IsObjectWord, KeepsButShadow, ShowsNothing, entry_registers}
use Rattle.flat_code.proofs.Routines.Steps.{has_self}
use Rattle.flat_code.proofs.Routines.Rules.{branch, line_on, arrived}
use Rattle.flat_code.proofs.Routines.Distinct.{registers_rename, others_stay}
use Rattle.flat_code.proofs.Routines.Wrapped.{routine}
use Rattle.flat_code.proofs.Routines.Regions.{IsLaidOut}
use Rattle.flat_code.proofs.Routines.Branches.{if_not_below, if_below, if_differ, if_same}
use Rattle.flat_code.proofs.Routines.Showing.{shows_both}
use Rattle.flat_code.specs.Routines.Objects.Changes.{IsMovedWord, IsKeptWord}
use Rattle.shadow_space.specs.Form.{HasRead, IsReadRoutine, HasWritten, IsWriteRoutine}
use Rattle.shadow_space.proofs.Entries.{agrees_shows, agrees_memory}
use Rattle.flat_actions.specs.Ranges.{IsObjectRange, IsToMove}
use Rattle.flat_actions.proofs.Standing.{others_trans}
use Rattle.lib_wrappers.specs.MovingRoutines.Copying.{OneWord, AreCells, HasCopied, IsToCopy, move_cells, AreRanges}
use Rattle.lib_wrappers.specs.MovingRoutines.Copying.{IsToMoveCells, AreMovedCells, HasMovedCells}
use Rattle.lib_wrappers.specs.MovingRoutines.Tagged.{entries_of, entry_from, CopiesEntry, count_words, move_words}
use Rattle.lib_wrappers.proofs.MovingRoutines.Steps.{both_quiet, quiet_weaken, named, own_registers, registers_from}
use Rattle.lib_wrappers.proofs.MovingRoutines.Cells.{cells_move}
use Rattle.lib_wrappers.proofs.MovingRoutines.Bytes.{in_runtime}

-- ---- one entry

pub are_entries : (map : MapSizes) (entry : View) (IsGood : Bytes → Type 0) → AreCells (entries_of map entry IsGood)
are_entries map entry IsGood = record {
  known = λ a cell. cell;
  same = λ m b out. refl;
  both = λ m m1 m2 h k b out. k b out ∙ h b out;
}

module _ (map : MapSizes) (entry : View) (IsGood : Bytes → Type 0) (t : ℕ) (read write : List FlatInstruction)
    (reads : IsReadRoutine map entry IsGood (t + 2) (entry_from t) (t + 8) read)
    (writes : IsWriteRoutine map entry IsGood (t + 1) (entry_from t) (t + 8) write) where
  no_entry : (x : ℕ) → x < t + 4 → IsNoneOf x (entry_registers (entry_from t))
  no_entry x l = ((λ e. omega arith), ((λ e. omega arith), ((λ e. omega arith), ((λ e. omega arith), tt))))

  copied_entry : (s s1 s2 : State) → HasRead entry (t + 2) (entry_from t) (t + 8) s s1
      → HasWritten map entry IsGood (t + 1) (entry_from t) (t + 8) s1 s2
      → HasCopied (entries_of map entry IsGood) t s s2
  copied_entry s s1 s2 r w =
      let at : s1.values (t + 1) ≡ s.values (t + 1) = r.others (t + 1) (omega arith) (no_entry (t + 1) (omega arith)) in
      record {
        copied = ap (entry s2.memory) (sym at) ∙ w.written ∙ r.read;
        stays = λ a word ne. w.other_words a word (λ e. ne (e ∙ at)) ∙ ap (λ m. entry m a) r.memory;
        changes = subst (λ m. KeepsButShadow map m s2.memory) r.memory w.memory;
        good = w.good;
        shows = shows_both s s1 s2 r.shows w.shows;
        others = λ x l none. w.others x (omega arith) tt ∙ r.others x (omega arith) (no_entry x l);
      }

  pub entry_copies : CopiesEntry map entry IsGood t (read ++ write)
  entry_copies charge weight =
      both_quiet (in_runtime map charge weight) read write 18 24 (IsToCopy (entries_of map entry IsGood) t)
      (HasRead entry (t + 2) (entry_from t) (t + 8))
      (λ s s1. IsObjectWord map (s1.values (t + 1)) × IsGood s1.memory)
      (λ s. HasWritten map entry IsGood (t + 1) (entry_from t) (t + 8))
      (HasCopied (entries_of map entry IsGood) t)
      (quiet_weaken (in_runtime map charge weight) read 18 18
      (λ s. IsObjectWord map (s.values (t + 2)) × IsGood s.memory) (IsToCopy (entries_of map entry IsGood) t)
      (HasRead entry (t + 2) (entry_from t) (t + 8)) (HasRead entry (t + 2) (entry_from t) (t + 8)) (omega arith)
      (λ s p. (p.from_cell, p.good)) (λ s s1 p h. h) (reads true charge weight))
      (λ s. writes true charge weight)
      (λ s s1 p r. (
        subst (IsObjectWord map) (sym (r.others (t + 1) (omega arith) (no_entry (t + 1) (omega arith)))) p.to_cell,
        subst IsGood (sym r.memory) p.good,
      ))
      (λ s s1 s2 p r w. copied_entry s s1 s2 r w)

-- ---- the words are counted

-- the first whole word of the range to move to, and the first behind it, by number
abbrev pub first_word : (d : ℕ) → ℕ
first_word d = (d + 7) / 8

abbrev pub end_word : (d n : ℕ) → ℕ
end_word d n = (d + n) / 8

pub record AreSome (d s n k a b : ℕ) : Type 0 where
  pub equal : d % 8 ≡ s % 8
  pub some : first_word d < end_word d n
  pub count_is : k ≡ end_word d n - first_word d
  pub first_is : a ≡ 8 * first_word d
  pub source_is : b ≡ 8 * first_word d + s - d

pub record AreNone (d s n k : ℕ) : Type 0 where
  pub none : k ≡ 0
  pub why : (d % 8 ≢ s % 8) ⊎ (end_word d n ≤ first_word d)

pub record HasCounted (d s n t : ℕ) (x y : State) : Type 0 where
  pub words : AreSome d s n (y.values t) (y.values (t + 1)) (y.values (t + 2)) ⊎ AreNone d s n (y.values t)
  pub memory : y.memory ≡ x.memory
  pub shows : ShowsNothing x y
  pub others : OthersStay [] t x y

-- over registers of its own: 0 to 2 the range, 3 to 5 the words, 6 for work
record Counted (d s n : ℕ) (v y : State) : Type 0 where
  words : AreSome d s n (y.values 3) (y.values 4) (y.values 5) ⊎ AreNone d s n (y.values 3)
  memory : y.memory ≡ v.memory
  shows : ShowsNothing v y

-- the ranges alone
pub record AreLow (d s n : ℕ) : Type 0 where
  pub to_low : d + n < 2 ^ 32
  pub from_low : s + n < 2 ^ 32

abbrev alone : List FlatInstruction
alone = count_words 0 1 2 3 4 5 6

-- how the two places differ modulo 8
differ : (d s n : ℕ) → AreLow d s n → (d + (2 ^ 64 - s)) % 2 ^ 64 * 2 ^ 61 % 2 ^ 64 ≢ 0 → d % 8 ≢ s % 8
differ d s n low ne e = let a = low.to_low in let b = low.from_low in ne (omega arith)

agree : (d s n : ℕ) → AreLow d s n → (d + (2 ^ 64 - s)) % 2 ^ 64 * 2 ^ 61 % 2 ^ 64 ≡ 0 → d % 8 ≡ s % 8
agree d s n low e = let a = low.to_low in let b = low.from_low in omega arith

module _ (c : Context) (v : State) (low : AreLow (v.values 0) (v.values 1) (v.values 2)) where
  abbrev R : Outcome → Type 0
  R = Either (Counted (v.values 0) (v.values 1) (v.values 2) v) Never

  abbrev begin : List FlatInstruction
  begin = Operate Sub 6 0 (Register 1) ∷ Operate Sll 6 6 (Number 61) ∷ Constant 3 0 ∷ []

  abbrev numbers : List FlatInstruction
  numbers =
      Operate Add 4 0 (Number 7)
      ∷ Operate Srl 4 4 (Number 3)
      ∷ Operate Add 6 0 (Register 2)
      ∷ Operate Srl 6 6 (Number 3)
      ∷ []

  abbrev places : List FlatInstruction
  places =
      Operate Sub 3 6 (Register 4)
      ∷ Operate Sll 4 4 (Number 3)
      ∷ Operate Sub 5 1 (Register 0)
      ∷ Operate Add 5 5 (Register 4)
      ∷ []

  counts_alone : Reaches c alone 13 (Goes 0 v) 13 R
  unfolding put reg_result
  counts_alone =
      let d = v.values 0 in let s = v.values 1 in let n = v.values 2 in
      let a = low.to_low in let b = low.from_low in
      let has = has_self alone in
      let y = effects c begin v in
      let z = effects c numbers (worked c y) in
      let w = effects c places (worked c z) in
      line_on c alone begin 10 0 v 13 R (tt, (tt, (tt, tt))) (has.0, (has.1.0, (has.1.1.0, tt)))
      (branch c alone 9 3 y Bne 6 (Number 0) 9 13 R has.1.1.1.0
      (λ e. arrived c alone 9 (worked c y) 13 13 R refl (record {
        words = inr (record {
          none = refl;
          why = inl (differ d s n low (eqb-false ((d + (2 ^ 64 - s)) % 2 ^ 64 * 2 ^ 61 % 2 ^ 64) 0 (if_differ _ _ e)));
        });
        memory = refl;
        shows = record { input = refl; output = refl; taken = refl; accesses = refl; turns = refl };
      }))
      (λ e.
      let equal : d % 8 ≡ s % 8 =
      agree d s n low (eqb-true ((d + (2 ^ 64 - s)) % 2 ^ 64 * 2 ^ 61 % 2 ^ 64) 0 (if_same _ _ e)) in
      line_on c alone numbers 5 4 (worked c y) 13 R (tt, (tt, (tt, (tt, tt))))
      (has.1.1.1.1.0, (has.1.1.1.1.1.0, (has.1.1.1.1.1.1.0, (has.1.1.1.1.1.1.1.0, tt))))
      (branch c alone 4 8 z Bgeu 4 (Register 6) 4 13 R has.1.1.1.1.1.1.1.1.0
      (λ e2.
      let few : (d + n) % 2 ^ 64 / 8 ≤ (d + 7) % 2 ^ 64 / 8 = if_not_below _ _ e2 in
      arrived c alone 4 (worked c z) 13 13 R refl (record {
        words = inr (record { none = refl; why = inr (omega arith) });
        memory = refl;
        shows = record { input = refl; output = refl; taken = refl; accesses = refl; turns = refl };
      }))
      (λ e2.
      let some : (d + 7) % 2 ^ 64 / 8 < (d + n) % 2 ^ 64 / 8 = if_below _ _ e2 in
      line_on c alone places 0 9 (worked c z) 13 R (tt, (tt, (tt, (tt, tt)))) has.1.1.1.1.1.1.1.1.1
      (arrived c alone 0 w 13 13 R refl (record {
        words = inl (record {
          equal = equal;
          some = omega arith;
          count_is = omega arith;
          first_is = omega arith;
          source_is = omega arith;
        });
        memory = refl;
        shows = record { input = refl; output = refl; taken = refl; accesses = refl; turns = refl };
      }))))))

pub counts : (c : Context) (to from bytes t : ℕ) → AreBelow t (to ∷ from ∷ bytes ∷ [])
    → Does c (count_words to from bytes t (t + 1) (t + 2) (t + 3))
    (λ s. AreLow (s.values to) (s.values from) (s.values bytes)) (λ s. 13)
    (λ s. Either (HasCounted (s.values to) (s.values from) (s.values bytes) t s) Never)
counts c to from bytes t below =
    let ins = to ∷ from ∷ bytes ∷ [] in
    let r = own_registers ins t 4 below in
    let f = named ins t 4 in
    routine c 7 3 f alone (λ s. AreLow (s.values to) (s.values from) (s.values bytes))
    (registers_rename ins [] (registers_from t 4) t r) refl (λ s. 13)
    (λ s. Counted (s.values to) (s.values from) (s.values bytes) (through f s))
    (λ s. HasCounted (s.values to) (s.values from) (s.values bytes) t s)
    (λ s w seen p. counts_alone c (through f s) (record { to_low = p.to_low; from_low = p.from_low }))
    (λ s s' y w p k agrees only. record {
      words = words_of s s' y agrees k.words;
      memory = agrees_memory 7 f y s' agrees ∙ k.memory;
      shows = agrees_shows 7 f y s s' agrees (let z = k.shows in record {
        input = z.input;
        output = z.output;
        taken = z.taken;
        accesses = z.accesses;
        turns = z.turns;
      });
      others = others_stay ins [] (registers_from t 4) t r s s' only;
    })
  where
    words_of : (s s' y : State) → Agrees 7 (named (to ∷ from ∷ bytes ∷ []) t 4) y s'
        → AreSome (s.values to) (s.values from) (s.values bytes) (y.values 3) (y.values 4) (y.values 5)
        ⊎ AreNone (s.values to) (s.values from) (s.values bytes) (y.values 3)
        → AreSome (s.values to) (s.values from) (s.values bytes) (s'.values t) (s'.values (t + 1)) (s'.values (t + 2))
        ⊎ AreNone (s.values to) (s.values from) (s.values bytes) (s'.values t)
    words_of s s' y agrees (inl h) = inl (record {
      equal = h.equal;
      some = h.some;
      count_is = sym (agrees.values 3 (omega arith)) ∙ h.count_is;
      first_is = sym (agrees.values 4 (omega arith)) ∙ h.first_is;
      source_is = sym (agrees.values 5 (omega arith)) ∙ h.source_is;
    })
    words_of s s' y agrees (inr h) = inr (record {
      none = sym (agrees.values 3 (omega arith)) ∙ h.none;
      why = h.why;
    })

-- ---- the words are moved

-- so many bytes of object space
record AreObjectRanges (map : MapSizes) (d s n : ℕ) : Type 0 where
  to_range : IsObjectRange map d n
  from_range : IsObjectRange map s n

-- what it makes of the entries
pub record MovesWords (map : MapSizes) (entry : View) (d s n : ℕ) (m m' : Bytes) : Type 0 where
  pub entries : (w : ℕ) → IsObjectWord map w → IsMovedWord n d s w → entry m' w ≡ entry m (w - d + s)
  pub others : (w : ℕ) → IsObjectWord map w → IsKeptWord n d s w → entry m' w ≡ entry m w

module _ (map : MapSizes) (ok : IsLaidOut map) (entry : View) (IsGood : Bytes → Type 0) (d s n : ℕ)
    (r : AreObjectRanges map d s n) where
  low : AreLow d s n
  low = let a = r.to_range.last in let b = r.from_range.last in let small = ok.small in
      record { to_low = omega arith; from_low = omega arith }

  some_ranges : (k a b : ℕ) → AreSome d s n k a b → AreRanges OneWord (IsObjectWord map) k a b
  some_ranges k a b h =
      let lo = r.to_range.first in let hi = r.to_range.last in
      let lo' = r.from_range.first in let hi' = r.from_range.last in
      let small = ok.small in
      let equal = h.equal in let some = h.some in let x = h.count_is in let y = h.first_is in let z = h.source_is in
      record {
        to_cells = λ j l. record { first = omega arith; last = omega arith; aligned = omega arith };
        from_cells = λ j l. record { first = omega arith; last = omega arith; aligned = omega arith };
        to_small = λ l. omega arith;
        from_small = λ l. omega arith;
      }

  none_ranges : (k a b : ℕ) → AreNone d s n k → AreRanges OneWord (IsObjectWord map) k a b
  none_ranges k a b h =
      let none = h.none in
      record {
        to_cells = λ j l. absurd (omega arith);
        from_cells = λ j l. absurd (omega arith);
        to_small = λ l. absurd (omega arith);
        from_small = λ l. absurd (omega arith);
      }

  some_moved : (k a b : ℕ) (m m' : Bytes) → AreSome d s n k a b
      → AreMovedCells (entries_of map entry IsGood) k a b m m' → MovesWords map entry d s n m m'
  some_moved k a b m m' h c = record {
    entries = λ w word in_range.
        (let lo = r.to_range.first in let lo' = r.from_range.first in
        let equal = h.equal in let some = h.some in let x = h.count_is in let y = h.first_is in
        let z = h.source_is in
        let whole = word.aligned in let from = in_range.1 in let upto = in_range.2 in
        let j = w / 8 - first_word d in
        let there : w ≡ a + 8 * j = omega arith in
        let here : b + 8 * j ≡ w - d + s = omega arith in
        ap (entry m') there ∙ c.moved j (omega arith) ∙ ap (entry m) here);
    others = λ w word kept. c.stays w word (λ j l e. apart w j l e word.aligned kept);
  }
    where
      apart : (w j : ℕ) → j < k → w ≡ a + 8 * j → w % 8 ≡ 0 → IsKeptWord n d s w → ⊥
      apart w j l e whole (inl ne) = ne h.equal
      apart w j l e whole (inr (inl before)) =
          let y = h.first_is in omega arith
      apart w j l e whole (inr (inr behind)) =
          let x = h.count_is in let y = h.first_is in let some = h.some in omega arith

  none_moved : (k a b : ℕ) (m m' : Bytes) → AreNone d s n k
      → AreMovedCells (entries_of map entry IsGood) k a b m m' → MovesWords map entry d s n m m'
  none_moved k a b m m' h c = record {
    entries = λ w word in_range. absurd (not_in w word.aligned in_range h.why);
    others = λ w word kept. c.stays w word (λ j l e. (let none = h.none in omega arith));
  }
    where
      not_in : (w : ℕ) → w % 8 ≡ 0 → IsMovedWord n d s w → (d % 8 ≢ s % 8) ⊎ (end_word d n ≤ first_word d) → ⊥
      not_in w whole i (inl ne) = ne i.0
      not_in w whole i (inr few) = let lo = i.1 in let hi = i.2 in omega arith

-- what it does: of memory it changes the shadow space alone
pub record HasMovedWords (map : MapSizes) (entry : View) (IsGood : Bytes → Type 0) (d s n t : ℕ) (x y : State)
    : Type 0 where
  pub words : MovesWords map entry d s n x.memory y.memory
  pub memory : KeepsButShadow map x.memory y.memory
  pub good : IsGood y.memory
  pub shows : ShowsNothing x y
  pub others : OthersStay [] t x y

module _ (map : MapSizes) (ok : IsLaidOut map) (entry : View) (IsGood : Bytes → Type 0) (to from bytes t : ℕ)
    (below : AreBelow t (to ∷ from ∷ bytes ∷ [])) (body : List FlatInstruction)
    (copies : CopiesEntry map entry IsGood t body) (n charge weight : ℕ) where
  abbrev c : Context
  c = in_runtime map charge weight

  pub record IsToMoveWords (x : State) : Type 0 where
    pub range : IsToMove map to from bytes n x
    pub good : IsGood x.memory

  ranges_of : (x : State) → IsToMoveWords x → AreObjectRanges map (x.values to) (x.values from) n
  ranges_of x p = record { to_range = p.range.to_range; from_range = p.range.from_range }

  abbrev CountedSince : State → State → Type 0
  CountedSince x y = IsToMoveWords x × HasCounted (x.values to) (x.values from) n t x y

  abbrev MovedSince : State → State → Type 0
  MovedSince x = HasMovedWords map entry IsGood (x.values to) (x.values from) n t x

  ready : (x y : State) → CountedSince x y
      → IsToMoveCells (entries_of map entry IsGood) (y.values t) (y.values (t + 1)) (y.values (t + 2)) t y
  ready x y p = record {
    left = refl;
    to_is = refl;
    from_is = refl;
    ranges = ⊎_elim
        (λ h. some_ranges map ok entry IsGood (x.values to) (x.values from) n (ranges_of x p.0) (y.values t)
        (y.values (t + 1)) (y.values (t + 2)) h)
        (λ h. none_ranges map ok entry IsGood (x.values to) (x.values from) n (ranges_of x p.0) (y.values t)
        (y.values (t + 1)) (y.values (t + 2)) h)
        p.1.words;
    good = subst IsGood (sym p.1.memory) p.0.good;
  }

  few : (x y : State) → CountedSince x y → 8 * y.values t ≤ n
  few x y p = ⊎_elim
      (λ h. let count = h.count_is in let some = h.some in omega arith)
      (λ h. let none = h.none in omega arith)
      p.1.words

  moved : (x y z : State) → CountedSince x y
      → HasMovedCells (entries_of map entry IsGood) (y.values t) (y.values (t + 1)) (y.values (t + 2)) t y z
      → MovedSince x z
  moved x y z p h = record {
    words = subst (λ m. MovesWords map entry (x.values to) (x.values from) n m z.memory) p.1.memory
        (⊎_elim
        (λ k. some_moved map ok entry IsGood (x.values to) (x.values from) n (ranges_of x p.0) (y.values t)
        (y.values (t + 1)) (y.values (t + 2)) y.memory z.memory k h.cells)
        (λ k. none_moved map ok entry IsGood (x.values to) (x.values from) n (ranges_of x p.0) (y.values t)
        (y.values (t + 1)) (y.values (t + 2)) y.memory z.memory k h.cells)
        p.1.words);
    memory = subst (λ m. KeepsButShadow map m z.memory) p.1.memory h.changes;
    good = h.good;
    shows = shows_both x y z p.1.shows h.shows;
    others = others_trans [] t x y z p.1.others h.others;
  }

  cells : (x : State) → Does c (move_cells OneWord t body) (CountedSince x) (λ y. 8 + 9 * n)
      (λ y. Either (MovedSince x) Never)
  cells x = record {
    from = λ code pc y has w p.
        (let k = y.values t in
        let a = y.values (t + 1) in let b = y.values (t + 2) in
        let l = few x y p in
        (quiet_weaken c (move_cells OneWord t body) (7 + (k * 47 + 1)) (8 + 9 * n)
        (IsToMoveCells (entries_of map entry IsGood) k a b t)
        (λ y'. IsToMoveCells (entries_of map entry IsGood) k a b t y' × (y' ≡ y))
        (HasMovedCells (entries_of map entry IsGood) k a b t) (λ y'. MovedSince x) (omega arith) (λ y' q. q.0)
        (λ y' z q h. moved x y z p (subst (λ u. HasMovedCells (entries_of map entry IsGood) k a b t u z) q.1 h))
        (cells_move c (entries_of map entry IsGood) (are_entries map entry IsGood) t body 42 (copies charge weight) k a
        b (w.values t))).from code pc y has w (ready x y p, refl));
  }

  pub words_move : Does c (move_words to from bytes t body) IsToMoveWords (λ x. 13 + (8 + 9 * n))
      (λ x. Either (MovedSince x) Never)
  words_move =
      both_quiet c (count_words to from bytes t (t + 1) (t + 2) (t + 3)) (move_cells OneWord t body) 13 (8 + 9 * n)
      IsToMoveWords CountedSince CountedSince (λ x y. MovedSince x) MovedSince
      (quiet_weaken c (count_words to from bytes t (t + 1) (t + 2) (t + 3)) 13 13
      (λ x. AreLow (x.values to) (x.values from) (x.values bytes)) IsToMoveWords
      (λ x. HasCounted (x.values to) (x.values from) (x.values bytes) t x) CountedSince (omega arith) low_of
      (λ x y p h. (p, subst (λ i. HasCounted (x.values to) (x.values from) i t x y) p.range.size_is h))
      (counts c to from bytes t below))
      cells (λ x y p h. h) (λ x y z p h k. k)
    where
      low_of : (x : State) → IsToMoveWords x → AreLow (x.values to) (x.values from) (x.values bytes)
      low_of x p = subst (AreLow (x.values to) (x.values from)) (sym p.range.size_is)
          (low map ok entry IsGood (x.values to) (x.values from) n (ranges_of x p))
