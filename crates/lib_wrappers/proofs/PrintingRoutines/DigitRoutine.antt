-- The digits of a number put out, over any registers.
use Rattle.std.proofs.Common.{◌≡◌, ℕ, suc, ◌+◌, ◌*◌, ◌%◌, ◌^◌, ◌<◌, ◌≤◌, [], ◌∷◌}
use Rattle.std.proofs.Common.{◌++◌, true, false, length, refl, sym, ap, ◌∙◌, arith}
use Rattle.std.specs.Fmt.{digits}
use Rattle.std.proofs.lemmas.List.{append-nil}
use Rattle.addr_map.specs.Places.{MapSizes}
use Rattle.flat_code.specs.State.{State}
use Rattle.flat_code.specs.Words.{IsOfWords}
use Rattle.flat_code.specs.Meaning.{Goes}
use Rattle.flat_code.specs.Routines.Registers.{AreBelow, AreNoneOf}
use Rattle.flat_code.specs.Routines.Routine.{Outcome, Continues, Halts, Reaches, Either, Never}
use Rattle.flat_code.specs.Routines.Renaming.{through}
use Rattle.flat_code.proofs.Routines.Distinct.{AreRegisters, register_of, registers_rename, others_stay}
use Rattle.flat_code.proofs.Routines.Rules.{weaken}
use Rattle.flat_code.proofs.Routines.Wrapped.{routine}
use Rattle.shadow_space.proofs.Entries.{context_of, agrees_memory}
use Rattle.lib_wrappers.specs.PrintingRoutines.Digits.{HasPrinted, IsDigitsRoutine, digits_code}
use Rattle.lib_wrappers.proofs.PrintingRoutines.DigitLists.{digits_from, highest, are_digits, digit_count}
use Rattle.lib_wrappers.proofs.PrintingRoutines.DigitLoops.{Showing, IsLike, all_shown}

-- a base of which some power below the 64th is larger than all words
pub record IsBase (base : ℕ) : Type 0 where
  pub some : 2 ≤ base
  pub few : base ≤ 16
  pub power : ℕ
  pub below : power < 64
  pub enough : 2 ^ 64 ≤ base ^ suc power

pub ten : IsBase 10
ten = record { some = omega arith; few = omega arith; power = 19; below = omega arith; enough = omega arith }

pub sixteen : IsBase 16
sixteen = record { some = omega arith; few = omega arith; power = 15; below = omega arith; enough = omega arith }

abbrev digit_registers : (value count scratch : ℕ) → ℕ → ℕ
digit_registers v c t = register_of (v ∷ []) (c ∷ []) (t ∷ (t + 1) ∷ (t + 2) ∷ [])

-- what the loops leave
record Shown (base n : ℕ) (start v : State) : Type 0 where
  output : v.output ≡ start.output ++ digits base false n
  counted : v.values 1 ≡ (start.values 1 + length (digits base false n)) % 2 ^ 64
  like : IsLike start v

module _ (base : ℕ) (b : IsBase base) (map : MapSizes) (v count t : ℕ) (below : AreBelow t (v ∷ count ∷ []))
    (apart : AreNoneOf (v ∷ []) (count ∷ [])) where
  pub puts_digits : IsDigitsRoutine map base v count t (digits_code base v count t (t + 1) (t + 2))
  puts_digits n charge weight =
      let r : AreRegisters (v ∷ []) (count ∷ []) (t ∷ (t + 1) ∷ (t + 2) ∷ []) t =
      record {
        none = apart;
        distinct = (tt, tt);
        ins_below = (below.0, tt);
        res_below = (below.1.0, tt);
        from = (omega arith, (omega arith, (omega arith, tt)));
        own_distinct = (
          ((λ e. omega (arith, e)), ((λ e. omega (arith, e)), tt)),
          (((λ e. omega (arith, e)), tt), (tt, tt)),
        );
      } in
      let f = digit_registers v count t in
      routine (context_of map true charge weight) 5 1 f (digits_code base 0 1 2 3 4) (λ s. s.values v ≡ n)
      (registers_rename (v ∷ []) (count ∷ []) (t ∷ (t + 1) ∷ (t + 2) ∷ []) t r) refl
      (λ s. 4 + 15 * length (digits base false n)) (λ s. Shown base n (through f s))
      (HasPrinted (digits base false n) count t)
      (λ s w seen p. shown charge weight (through f s) n seen p)
      (λ s s' u w p i agrees only.
      let e = agrees.rest in
      record {
        output = ap (λ z. z.output) e ∙ i.output;
        counted = sym (agrees.values 1 (omega arith)) ∙ i.counted;
        memory = agrees_memory 5 f u s' agrees ∙ i.like.memory;
        input = ap (λ z. z.input) e ∙ i.like.input;
        taken = ap (λ z. z.taken) e ∙ i.like.taken;
        accesses = ap (λ z. z.accesses) e ∙ i.like.accesses;
        turns = ap (λ z. z.turns) e ∙ i.like.turns;
        others = others_stay (v ∷ []) (count ∷ []) (t ∷ (t + 1) ∷ (t + 2) ∷ []) t r s s' only;
      })
    where
      shown : (charge weight : ℕ) (start : State) (n : ℕ) → IsOfWords start
          → start.values 0 ≡ n
          → Reaches (context_of map true charge weight) (digits_code base 0 1 2 3 4)
          (4 + 15 * length (digits base false n)) (Goes 0 start) 17 (Either (Shown base n start) Never)
      shown charge weight start n words is =
          let small = words.values 0 in let few = b.enough in
          let h = highest base n b.power b.some (omega arith) in
          let j = h.power in
          let below = h.below in let under = b.below in
          let are = are_digits base j n b.some (omega arith) h.highest in
          let long : length (digits base false n) ≡ suc j = ap length are ∙ digit_count base j n in
          weaken (context_of map true charge weight) (digits_code base 0 1 2 3 4) (4 + 15 * suc j)
          (4 + 15 * length (digits base false n)) (Goes 0 start) 17 (Either (Showing base n j start 0) Never)
          (Either (Shown base n start) Never) (omega arith) (by j are long)
          (all_shown base n j b.some b.few h.highest map charge weight start words is)
        where
          by : (j : ℕ) → digits base false n ≡ digits_from base j n → length (digits base false n) ≡ suc j
              → (o : Outcome) → Either (Showing base n j start 0) Never o → Either (Shown base n start) Never o
          by j are long (Continues u) w = record {
            output = sym (append-nil u.output) ∙ w.output ∙ ap (λ ds. start.output ++ ds) (sym are);
            counted = (let c = w.counted in let e = w.count in omega arith);
            like = w.like;
          }
          by j are long (Halts status report u) w = w
