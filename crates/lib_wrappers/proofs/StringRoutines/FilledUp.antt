-- Bytes that were scanned are moved, and the rest of so many is filled with zeros.
use Rattle.std.proofs.Common.{◌≡◌, ℕ, ◌+◌, ◌-◌, ◌*◌, ◌%◌, ◌^◌, ◌<◌, ◌≤◌, inl, inr, ⊎_elim, List, [], ◌++◌}
use Rattle.std.proofs.Common.{length, true, get_or, refl, sym, ap, ◌∙◌, subst, arith, length-append}
use Rattle.std.specs.Prelude.{replicate}
use Rattle.std.proofs.lemmas.Bool.{cases_lt}
use Rattle.std.proofs.lemmas.List.{get_or_append_left, get_or-append_right, length-replicate, get_or-replicate}
use Rattle.rv_isa.specs.Results.{reg_result}
use Rattle.flat_code.specs.declared.instruction.FlatInstruction.{FlatInstruction}
use Rattle.flat_code.specs.Memory.{put}
use Rattle.flat_code.specs.State.{State}
use Rattle.flat_code.specs.Words.{IsOfWords}
use Rattle.flat_code.specs.Meaning.{Context, Goes}
use Rattle.flat_code.proofs.Stored.{put_same, put_other}
use Rattle.flat_code.specs.Routines.Registers.{OthersStay}
use Rattle.flat_code.specs.Routines.Routine.{Outcome, Continues, Halts, Reaches, Does, Either, Never}
use Rattle.flat_code.specs.Routines.Effects.{effects}
use Rattle.flat_code.specs.Routines.Metadata.{ShowsNothing}
use Rattle.flat_code.proofs.Routines.Steps.{has_front, has_back}
use Rattle.flat_code.proofs.Routines.Rules.{weaken, next, line_on}
use Rattle.flat_code.proofs.Routines.Showing.{shows_both}
use Rattle.flat_code.proofs.Routines.Spaces.Quiet.{quiet_words}
use Rattle.flat_actions.specs.Actions.{Basis, context_in}
use Rattle.flat_actions.specs.Ranges.{IsObjectRange, IsToMove, HasMovedBytes, IsByteMoveRoutine, IsToFill, HasFilled}
use Rattle.flat_actions.specs.Ranges.{IsFillRoutine}
use Rattle.lib_wrappers.specs.StringRoutines.Copying.{HasWritten, count_code, tail_code, filled_up}
use Rattle.lib_wrappers.proofs.StringRoutines.Runtime.{does_in}

-- the bytes of a string in so many
pub filled_length : (n : ℕ) (bytes : List ℕ) → length bytes ≤ n → length (filled_up n bytes) ≡ n
filled_length n bytes le =
    let a = length-append bytes (replicate (n - length bytes) 0) in
    let b : length (replicate {A = ℕ} (n - length bytes) 0) ≡ n - length bytes =
    length-replicate {A = ℕ} (n - length bytes) 0 in
    omega (arith, a, b)

pub filled_first : (n : ℕ) (bytes : List ℕ) (i : ℕ) → i < length bytes
    → get_or (filled_up n bytes) i 0 ≡ get_or bytes i 0
filled_first n bytes i l = get_or_append_left bytes (replicate (n - length bytes) 0) 0 i l

pub filled_rest : (n : ℕ) (bytes : List ℕ) (i : ℕ) → length bytes ≤ i → i < n → get_or (filled_up n bytes) i 0 ≡ 0
filled_rest n bytes i l h =
    get_or-append_right bytes (replicate (n - length bytes) 0) (length bytes) i 0 refl l
    ∙ get_or-replicate (n - length bytes) (i - length bytes) 0 0 (omega arith)

-- Registers: to where, from where and how many; cur is behind the last byte, and those from cur + 1 on are free.
module _ (basis : Basis) (runtime : basis.is_runtime ≡ true) (to from size cur : ℕ) (to_below : to < cur)
    (from_below : from < cur) (size_below : size < cur) (moving filling : List FlatInstruction)
    (moves : IsByteMoveRoutine basis.map to from (cur + 1) (cur + 4) moving)
    (fills : IsFillRoutine basis.map (cur + 2) (cur + 3) (cur + 1) (cur + 4) filling)
    (charge weight n a d : ℕ) (bytes : List ℕ) (few : length bytes ≤ n) (range : IsObjectRange basis.map a
    (length bytes))
    (room : IsObjectRange basis.map d n) (room_small : d + n < 2 ^ 63) (small : a + length bytes < 2 ^ 63) where
  abbrev c : Context
  c = context_in basis charge weight

  abbrev m : ℕ
  m = length bytes

  -- what registers and memory hold before
  pub record IsToFillUp (f : State) : Type 0 where
    pub to_is : f.values to ≡ d
    pub from_is : f.values from ≡ a
    pub size_is : f.values size ≡ n
    pub cursor_is : f.values cur ≡ a + m
    pub there : (i : ℕ) → i < m → f.memory (a + i) ≡ get_or bytes i 0

  abbrev counting : List FlatInstruction
  counting = count_code (cur + 1) from cur

  abbrev tailing : List FlatInstruction
  tailing = tail_code to size (cur + 1) (cur + 2) (cur + 3)

  abbrev pub fill_up_items : List FlatInstruction
  fill_up_items = counting ++ (moving ++ (tailing ++ filling))

  record IsCounted (f : State) : Type 0 where
    count_is : (effects c counting f).values (cur + 1) ≡ m
    others : OthersStay [] (cur + 1) f (effects c counting f)

  counted : (f : State) → IsOfWords f → IsToFillUp f → IsCounted f
  unfolding reg_result
  counted f w p =
      let from_is = p.from_is in let cursor_is = p.cursor_is in
      let is : (f.values cur + (2 ^ 64 - f.values from)) % 2 ^ 64 ≡ m = omega arith in
      record {
        count_is = put_same f.values (cur + 1) _ ∙ is;
        others = λ r less none. put_other f.values (cur + 1) _ r (λ e. omega (arith, e, less));
      }

  record IsTailed (f : State) : Type 0 where
    rest_is : (effects c tailing f).values (cur + 1) ≡ n - m
    address_is : (effects c tailing f).values (cur + 2) ≡ d + m
    zero_is : (effects c tailing f).values (cur + 3) ≡ 0
    others : OthersStay [] (cur + 1) f (effects c tailing f)

  tailed : (f : State) → f.values to ≡ d → f.values size ≡ n → f.values (cur + 1) ≡ m → IsTailed f
  unfolding reg_result
  tailed f to_is size_is count_is =
      let s = room_small in
      let first : (f.values to + f.values (cur + 1)) % 2 ^ 64 ≡ d + m = omega arith in
      let second : (f.values size + (2 ^ 64 - f.values (cur + 1))) % 2 ^ 64 ≡ n - m = omega arith in
      let v1 = put f.values (cur + 2)
      ((f.values to + f.values (cur + 1)) % 2 ^ 64) in
      let at_size = put_other f.values (cur + 2) ((f.values to + f.values (cur + 1)) % 2 ^ 64) size
      (λ e. omega (arith, e, size_below)) in
      let at_count = put_other f.values (cur + 2) ((f.values to + f.values (cur + 1)) % 2 ^ 64) (cur + 1)
      (λ e. omega (arith, e)) in
      record {
        rest_is = put_other _ (cur + 3) _ (cur + 1) (λ e. omega (arith, e)) ∙ put_same v1 (cur + 1) _
            ∙ ap (λ q. (q + (2 ^ 64 - v1 (cur + 1))) % 2 ^ 64) at_size
            ∙ ap (λ q. (f.values size + (2 ^ 64 - q)) % 2 ^ 64) at_count ∙ second;
        address_is = put_other _ (cur + 3) _ (cur + 2) (λ e. omega (arith, e))
            ∙ put_other v1 (cur + 1) _ (cur + 2) (λ e. omega (arith, e)) ∙ put_same f.values (cur + 2) _ ∙ first;
        zero_is = put_same _ (cur + 3) _;
        others = λ r less none. put_other _ (cur + 3) _ r (λ e. omega (arith, e, less))
            ∙ put_other v1 (cur + 1) _ r (λ e. omega (arith, e, less))
            ∙ put_other f.values (cur + 2) _ r (λ e. omega (arith, e, less));
      }

  -- ---- all of it

  abbrev Written : State → State → Type 0
  Written = HasWritten (filled_up n bytes) d (cur + 1)

  -- what the last bytes are
  filled : (f f1 f2 f3 f4 : State) → IsToFillUp f → f1.memory ≡ f.memory → ShowsNothing f f1
      → OthersStay [] (cur + 1) f f1 → f1.values to ≡ d → f1.values from ≡ a
      → HasMovedBytes to from m (cur + 4) f1 f2 → f3.memory ≡ f2.memory → ShowsNothing f2 f3
      → OthersStay [] (cur + 1) f2 f3 → f3.values (cur + 2) ≡ d + m → f3.values (cur + 3) ≡ 0
      → HasFilled (cur + 2) (cur + 3) (n - m) (cur + 4) f3 f4 → Written f f4
  filled f f1 f2 f3 f4 p mem1 shows1 others1 to_is from_is moved mem3 shows3 others3 address zero_is last = record {
    there = λ i less. ⊎_elim (first i) (λ l. rest i l (let long = filled_length n bytes few in omega arith))
        (cases_lt i m);
    beside = λ b out.
        let long = filled_length n bytes few in
        last.beside b (⊎_elim (λ l. inl (omega arith)) (λ l. inr (omega arith)) out) ∙ ap (λ z. z b) mem3
        ∙ moved.beside b (⊎_elim (λ l. inl (omega arith)) (λ l. inr (omega arith)) out) ∙ ap (λ z. z b) mem1;
    shows = shows_both f f1 f4 shows1 (shows_both f1 f2 f4 moved.shows (shows_both f2 f3 f4 shows3 last.shows));
    others = λ r less none. last.others r (omega arith) tt ∙ others3 r less tt ∙ moved.others r (omega arith) tt
        ∙ others1 r less tt;
  }
    where
      first : (i : ℕ) → i < m → f4.memory (d + i) ≡ get_or (filled_up n bytes) i 0
      first i l =
          last.beside (d + i) (inl (omega arith)) ∙ ap (λ z. z (d + i)) mem3
          ∙ ap (λ z. f2.memory (z + i)) (sym to_is) ∙ moved.there i l ∙ ap (λ z. f1.memory (z + i)) from_is
          ∙ ap (λ z. z (a + i)) mem1 ∙ p.there i l ∙ sym (filled_first n bytes i l)

      rest : (i : ℕ) → m ≤ i → i < n → f4.memory (d + i) ≡ get_or (filled_up n bytes) i 0
      rest i l h =
          let at : d + i ≡ f3.values (cur + 2) + (i - m) = omega arith in
          ap f4.memory at ∙ last.there (i - m) (omega arith) ∙ ap (λ z. z % 256) zero_is
          ∙ sym (filled_rest n bytes i l h)

  pub fills_up : Does c fill_up_items IsToFillUp (λ f. 28 + 8 * n) (λ f. Either (Written f) Never)
  fills_up = record {
    from = λ code pc f has w p.
        let f1 = effects c counting f in
        let h1 = counted f w p in
        let w1 = quiet_words c counting f (tt, tt) w in
        let to_is : f1.values to ≡ d = h1.others to (omega arith) tt ∙ p.to_is in
        let from_is : f1.values from ≡ a = h1.others from (omega arith) tt ∙ p.from_is in
        let size_is : f1.values size ≡ n = h1.others size (omega arith) tt ∙ p.size_is in
        let R = Either (Written f) Never in
        let end = pc + 1 + length moving + 3 + length filling in
        let has1 = has_back code pc counting (moving ++ (tailing ++ filling)) has in
        let has2 = has_back code (pc + 1) moving (tailing ++ filling) has1 in
        let has3 = has_back code (pc + 1 + length moving) tailing filling has2 in
        let len : end ≡ pc + length fill_up_items =
        omega (arith, length-append moving (tailing ++ filling)) in
        let first = range.first in
        let room_last = room.last in let room_first = room.first in
        weaken c code (1 + ((16 + 7 * m) + (3 + (8 + 5 * (n - m))))) (28 + 8 * n) (Goes pc f)
        (pc + length fill_up_items) R R
        (omega arith) (λ o i. i)
        (subst (λ e. Reaches c code (1 + ((16 + 7 * m) + (3 + (8 + 5 * (n - m))))) (Goes pc f) e R) len
        (line_on c code counting ((16 + 7 * m) + (3 + (8 + 5 * (n - m)))) pc f end R (tt, tt)
        (has_front code pc counting (moving ++ (tailing ++ filling)) has)
        (next c code (16 + 7 * m) (3 + (8 + 5 * (n - m))) (Goes (pc + 1) f1) (pc + 1 + length moving) end
        (HasMovedBytes to from m (cur + 4) f1) Never R w1
        ((does_in basis runtime charge weight moving (IsToMove basis.map to from (cur + 1) m) (λ s. 16 + 7 * m)
        (λ s. Either (HasMovedBytes to from m (cur + 4) s) Never) (moves m charge weight)).from code (pc + 1) f1
        (has_front code (pc + 1) moving (tailing ++ filling) has1) w1 (record {
          size_is = h1.count_is;
          to_range = subst (λ z. IsObjectRange basis.map z m) (sym to_is)
              (record { first = room.first; last = omega arith });
          from_range = subst (λ z. IsObjectRange basis.map z m) (sym from_is) range;
        }))
        (λ f2 w2 moved.
        let f3 = effects c tailing f2 in
        let count2 : f2.values (cur + 1) ≡ m = moved.others (cur + 1) (omega arith) tt ∙ h1.count_is in
        let h3 = tailed f2 (moved.others to (omega arith) tt ∙ to_is) (moved.others size (omega arith) tt ∙ size_is)
        count2 in
        line_on c code tailing (8 + 5 * (n - m)) (pc + 1 + length moving) f2 end R (tt, (tt, (tt, tt)))
        (has_front code (pc + 1 + length moving) tailing filling has2)
        (weaken c code (8 + 5 * (n - m)) (8 + 5 * (n - m)) (Goes (pc + 1 + length moving + 3) f3) end
        (Either (HasFilled (cur + 2) (cur + 3) (n - m) (cur + 4) f3) Never) R (omega arith)
        (λ o i. by f f1 f2 f3 o p refl (record {
          input = refl;
          output = refl;
          taken = refl;
          accesses = refl;
          turns =
              refl;
        })
        h1.others to_is from_is moved refl
        (record { input = refl; output = refl; taken = refl; accesses = refl; turns = refl }) h3.others h3.address_is
        h3.zero_is i)
        ((does_in basis runtime charge weight filling (IsToFill basis.map (cur + 2) (cur + 1) (n - m))
        (λ s. 8 + 5 * (n - m)) (λ s. Either (HasFilled (cur + 2) (cur + 3) (n - m) (cur + 4) s) Never)
        (fills (n - m) charge weight)).from code (pc + 1 + length moving + 3) f3 has3
        (quiet_words c tailing f2 (tt, (tt, (tt, tt))) w2) (record {
          size_is = h3.rest_is;
          to_range = subst (λ z. IsObjectRange basis.map z (n - m)) (sym h3.address_is)
              (record { first = omega arith; last = omega arith });
        }))))
        (λ status report f2 never. absurd never))));
  }
    where
      by : (f f1 f2 f3 : State) (o : Outcome) → IsToFillUp f → f1.memory ≡ f.memory → ShowsNothing f f1
          → OthersStay [] (cur + 1) f f1 → f1.values to ≡ d → f1.values from ≡ a
          → HasMovedBytes to from m (cur + 4) f1 f2 → f3.memory ≡ f2.memory → ShowsNothing f2 f3
          → OthersStay [] (cur + 1) f2 f3 → f3.values (cur + 2) ≡ d + m → f3.values (cur + 3) ≡ 0
          → Either (HasFilled (cur + 2) (cur + 3) (n - m) (cur + 4) f3) Never o → Either (Written f) Never o
      by f f1 f2 f3 (Continues f4) p m1 s1 o1 t1 r1 moved m3 s3 o3 d3 z3 last =
          filled f f1 f2 f3 f4 p m1 s1 o1 t1 r1 moved m3 s3 o3 d3 z3 last
      by f f1 f2 f3 (Halts status report f4) p m1 s1 o1 t1 r1 moved m3 s3 o3 d3 z3 last = absurd last
