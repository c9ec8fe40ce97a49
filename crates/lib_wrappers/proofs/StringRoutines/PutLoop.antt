-- The loop that puts the bytes of a range out.
use Rattle.std.proofs.Common.{◌≡◌, ◌≢◌, ℕ, zero, suc, ◌+◌, ◌*◌, ◌%◌, ◌^◌, ◌<◌, ◌≤◌, ◌⊎◌, inl, inr, List, []}
use Rattle.std.proofs.Common.{◌∷◌, ◌++◌, true, false, length, get_or, refl, sym, ap, ◌∙◌, subst, arith, append_assoc}
use Rattle.std.proofs.lemmas.Bool.{cases_eq}
use Rattle.std.proofs.lemmas.List.{append-nil}
use Rattle.addr_map.specs.Places.{MapSizes}
use Rattle.rv_isa.specs.declared.instruction.BranchOp.TheVariants.{Beq}
use Rattle.rv_isa.specs.Results.{reg_result, extended, branch_taken}
use Rattle.flat_code.specs.declared.instruction.RightOperand.TheVariants.{Register}
use Rattle.flat_code.specs.declared.instruction.FlatInstruction.TheVariants.{Move, JumpBack}
use Rattle.flat_code.specs.Memory.{Bytes, put, load}
use Rattle.flat_code.specs.Spaces.{is_allowed}
use Rattle.flat_code.specs.State.{State}
use Rattle.flat_code.specs.Words.{IsOfWords}
use Rattle.flat_code.specs.Meaning.{Context, Goes}
use Rattle.flat_code.proofs.Stored.{put_other}
use Rattle.flat_code.specs.Routines.Registers.{AreBelow}
use Rattle.flat_code.specs.Routines.Routine.{Reaches, Either, Never}
use Rattle.flat_code.specs.Routines.Effects.{worked, effects}
use Rattle.flat_code.specs.Routines.Renaming.{through}
use Rattle.flat_code.proofs.Routines.Steps.{has_front, has_self}
use Rattle.flat_code.proofs.Routines.Rules.{weaken, line, line_on, loop}
use Rattle.flat_code.proofs.Routines.Distinct.{AreRegisters, register_of, registers_rename, others_stay}
use Rattle.flat_code.proofs.Routines.Wrapped.{routine}
use Rattle.flat_code.proofs.Routines.Branches.{are_equal, are_not_equal}
use Rattle.flat_code.proofs.Routines.Regions.{object_allowed}
use Rattle.flat_code.proofs.Routines.Words.{byte_loaded}
use Rattle.shadow_space.proofs.Entries.{context_of, agrees_memory}
use Rattle.flat_actions.specs.Ranges.{IsObjectRange}
use Rattle.lib_wrappers.specs.StringRoutines.Putting.{bytes_from, IsToPut, HasPut, IsPutRoutine, put_body, put_code}

-- alone: 0 from, 1 to, 2 the cursor, 3 the byte; k bytes are left of n
record Putting (start : State) (n k : ℕ) (v : State) : Type 0 where
  put_before : ℕ
  count : put_before + k ≡ n
  cursor : v.values 2 ≡ start.values 0 + put_before
  end : v.values 1 ≡ start.values 0 + n
  memory : v.memory ≡ start.memory
  output : v.output ++ bytes_from k start.memory (start.values 0 + put_before)
      ≡ start.output ++ bytes_from n start.memory (start.values 0)
  input : v.input ≡ start.input
  taken : v.taken ≡ start.taken
  accesses : v.accesses ≡ start.accesses
  turns : v.turns ≡ start.turns

module _ (map : MapSizes) (charge weight n : ℕ) (start : State) (words : IsOfWords start)
    (p : IsToPut map 0 1 n start) where
  abbrev c : Context
  c = context_of map true charge weight

  abbrev I : ℕ → State → Type 0
  I = Putting start n

  counted : (k : ℕ) (v : State) → I k v → I k (worked c v)
  counted k v w = record {
    put_before = w.put_before;
    count = w.count;
    cursor = w.cursor;
    end = w.end;
    memory = w.memory;
    output = w.output;
    input = w.input;
    taken = w.taken;
    accesses = w.accesses;
    turns = w.turns;
  }

  address_is : (k : ℕ) (v : State) → I (suc k) v → (w : ℕ) → (v.values 2 + 0) % 2 ^ 64 ≡ v.values 2
  address_is k v w z =
      let count = w.count in let cursor = w.cursor in let small = words.values 1 in let e = p.end_is in omega arith

  allowed : (k : ℕ) (v : State) → I (suc k) v → is_allowed map ((v.values 2 + 0) % 2 ^ 64) 1 ≡ true
  allowed k v w =
      let count = w.count in
      ap (λ a. is_allowed map a 1) (address_is k v w 0 ∙ w.cursor) ∙ p.allowed w.put_before (omega arith)

  turn : (k : ℕ) (v : State) → IsOfWords v → I (suc k) v → I k (effects c (put_body 2 3) v)
  unfolding put reg_result extended
  turn k v fits w =
      let d = w.put_before in let count = w.count in let cursor = w.cursor in let small = words.values 1 in
      let e = p.end_is in
      let a = start.values 0 in
      let m = start.memory in
      let at : (v.values 2 + 0) % 2 ^ 64 ≡ a + d = omega arith in
      let is : load 1 v.memory ((v.values 2 + 0) % 2 ^ 64) ≡ m (a + d) =
      ap (load 1 v.memory) at ∙ byte_loaded v.memory (a + d) ∙ ap (λ f. f (a + d)) w.memory in
      let byte = words.memory (a + d) in
      let low : m (a + d) % 256 ≡ m (a + d) = omega arith in
      let shown = ap (λ z. z % 256) is ∙ low in
      let next : a + d + 1 ≡ a + suc d = omega arith in
      record {
        put_before = suc d;
        count = omega arith;
        cursor = omega arith;
        end = w.end;
        memory = w.memory;
        output = append_assoc v.output (load 1 v.memory ((v.values 2 + 0) % 2 ^ 64) % 256 ∷ [])
            (bytes_from k m (a + suc d)) ∙ ap (λ z. v.output ++ z ∷ bytes_from k m (a + suc d)) shown
            ∙ ap (λ z. v.output ++ m (a + d) ∷ bytes_from k m z) (sym next)
            ∙ w.output;
        input = w.input;
        taken = w.taken;
        accesses = w.accesses;
        turns = w.turns;
      }

  begin : I n (effects c (Move 2 0 ∷ []) start)
  unfolding put
  begin =
      let none : start.values 0 + 0 ≡ start.values 0 = omega arith in
      record {
        put_before = 0;
        count = omega arith;
        cursor = omega arith;
        end = p.end_is;
        memory = refl;
        output = ap (λ z. start.output ++ bytes_from n start.memory z) none;
        input = refl;
        taken = refl;
        accesses = refl;
        turns = refl;
      }

  begin_words : IsOfWords (effects c (Move 2 0 ∷ []) start)
  unfolding put
  begin_words = record { values = λ x. by x (cases_eq x 2); memory = words.memory }
    where
      by : (x : ℕ) → (x ≡ 2) ⊎ (x ≢ 2) → put start.values 2 (start.values 0) x < 2 ^ 64
      by x (inl e) = subst (λ z. put start.values 2 (start.values 0) z < 2 ^ 64) (sym e) (words.values 0)
      by x (inr ne) =
          subst (λ z. z < 2 ^ 64) (sym (put_other start.values 2 (start.values 0) x ne))
          (words.values x)

  all_put : Reaches c (put_code 0 1 2) (2 + 5 * n) (Goes 0 start) 6 (Either (I 0) Never)
  all_put =
      let code = put_code 0 1 2 in
      let has = has_self code in
      let body = put_body 2 3 in
      weaken c code (1 + (n * (3 + 2) + 1)) (2 + 5 * n) (Goes 0 start) 6 (Either (I 0) Never) (Either (I 0) Never)
      (omega arith) (λ o i. i)
      (line_on c code (Move 2 0 ∷ []) (n * (3 + 2) + 1) 0 start 6 (Either (I 0) Never) (tt, tt) (has.0, tt)
      (loop c code 1 Beq 2 (Register 1) body 3 I (I 0) Never has.1 one_turn n n (omega arith)
      (effects c (Move 2 0 ∷ []) start) begin_words begin))
    where
      one_turn : (k : ℕ) (v : State) → IsOfWords v → I k v
          → ((branch_taken Beq (v.values 2) (v.values 1) ≡ false) × (j : ℕ) × (k ≡ suc j)
          × Reaches c (put_code 0 1 2) 3 (Goes 2 (worked c v)) 5
          (Either (λ s'. (i : ℕ) × (i ≤ j) × I i (worked c s')) Never))
          ⊎ ((branch_taken Beq (v.values 2) (v.values 1) ≡ true) × I 0 (worked c v))
      one_turn zero v fits w =
          inr (
            are_equal (v.values 2) (v.values 1) (let a = w.cursor in let b = w.end in let n = w.count in omega arith),
            counted 0 v w,
          )
      one_turn (suc k) v fits w =
          inl (
            are_not_equal (v.values 2) (v.values 1)
                (λ e. let a = w.cursor in let b = w.end in let n = w.count in omega (arith, e)),
            k,
            refl,
            line c (put_code 0 1 2) (put_body 2 3) 2 (worked c v)
                (λ s'. (i : ℕ) × (i ≤ k) × I i (worked c s')) Never
                (allowed k v w, (tt, (tt, tt)))
                (has_front (put_code 0 1 2) 2 (put_body 2 3) (JumpBack 4 ∷ []) (has_self (put_code 0 1 2)).1.1) (
                  k,
                  omega arith,
                  counted k _ (turn k (worked c v)
                      (record { values = fits.values; memory = fits.memory }) (counted (suc k) v w)),
                ),
          )

-- by any registers
abbrev put_registers : (from to scratch : ℕ) → ℕ → ℕ
put_registers from to t = register_of (from ∷ to ∷ []) [] (t ∷ (t + 1) ∷ [])

pub puts_out : (map : MapSizes) (from to t : ℕ) → AreBelow t (from ∷ to ∷ [])
    → IsPutRoutine map from to t (put_code from to t)
puts_out map from to t below n charge weight =
    let r : AreRegisters (from ∷ to ∷ []) [] (t ∷ (t + 1) ∷ []) t =
    record {
      none = (tt, (tt, tt));
      distinct = tt;
      ins_below = below;
      res_below = tt;
      from = (omega arith, (omega arith, tt));
      own_distinct = (((λ e. omega (arith, e)), tt), (tt, tt));
    } in
    let f = put_registers from to t in
    routine (context_of map true charge weight) 4 2 f (put_code 0 1 2) (IsToPut map from to n)
    (registers_rename (from ∷ to ∷ []) [] (t ∷ (t + 1) ∷ []) t r) refl (λ s. 2 + 5 * n)
    (λ s. Putting (through f s) n 0) (HasPut from n t)
    (λ s w seen p. all_put map charge weight n (through f s) seen (record { end_is = p.end_is; allowed = p.allowed }))
    (λ s s' u w p i agrees only.
    let e = agrees.rest in
    record {
      output = ap (λ z. z.output) e ∙ sym (append-nil u.output) ∙ i.output;
      memory = agrees_memory 4 f u s' agrees ∙ i.memory;
      input = ap (λ z. z.input) e ∙ i.input;
      taken = ap (λ z. z.taken) e ∙ i.taken;
      accesses = ap (λ z. z.accesses) e ∙ i.accesses;
      turns = ap (λ z. z.turns) e ∙ i.turns;
      others = others_stay (from ∷ to ∷ []) [] (t ∷ (t + 1) ∷ []) t r s s' only;
    })

-- the bytes are those of a list
pub same_bytes : (m : Bytes) (a : ℕ) (bs : List ℕ) → ((i : ℕ) → i < length bs → m (a + i) ≡ get_or bs i 0)
    → bytes_from (length bs) m a ≡ bs
same_bytes m a [] h = refl
same_bytes m a (b ∷ bs) h =
    let zero_more : a + 0 ≡ a = omega arith in
    let first : m a ≡ b = subst (λ k. m k ≡ b) zero_more (h 0 (omega arith)) in
    let rest = same_bytes m (a + 1) bs (λ i l.
    let e : a + suc i ≡ a + 1 + i = omega arith in subst (λ k. m k ≡ get_or bs i 0) e (h (suc i) (omega arith))) in
    ap (λ z. z ∷ bytes_from (length bs) m (a + 1)) first ∙ ap (λ l. b ∷ l) rest

-- bytes of object space may be put out
pub range_to_put : (map : MapSizes) (from to n : ℕ) (s : State) → IsObjectRange map (s.values from) n
    → s.values to ≡ s.values from + n → IsToPut map from to n s
range_to_put map from to n s range end =
    let first = range.first in let last = range.last in
    record {
      end_is = end;
      allowed = λ i l. object_allowed map (s.values from + i) (s.values from + i) 1 refl (omega arith) (omega arith);
    }
