-- Each directive's instructions put its argument out.
use Rattle.std.proofs.Common.{◌≡◌, ◌≢◌, ℕ, ◌+◌, ◌-◌, ◌*◌, ◌/◌, ◌%◌, ◌^◌, ◌<◌, ◌≤◌, List, [], ◌∷◌}
use Rattle.std.proofs.Common.{◌++◌, true, false, length, length-append, refl, sym, ap, ◌∙◌, subst, arith}
use Rattle.std.specs.Prelude.{nat_lt}
use Rattle.std.specs.Fmt.{digits, decimal}
use Rattle.std.proofs.lemmas.Bool.{lt-ltb, le-ltb, cond-true, cond-false}
use Rattle.addr_map.specs.Places.{MapSizes}
use Rattle.rv_isa.specs.declared.instruction.BranchOp.TheVariants.{Bge}
use Rattle.rv_isa.specs.declared.instruction.RegOp.TheVariants.{Add, Sub}
use Rattle.rv_isa.specs.declared.instruction.RegOp32.TheVariants.{Addw}
use Rattle.rv_isa.specs.Results.{reg_result, reg32_result, low_word}
use Rattle.obj_memory.specs.declared.int_type.IntType.TheVariants.{Int, UnsignedInt, UnsignedLong}
use Rattle.obj_memory.specs.Integers.{fit}
use Rattle.c_tree.specs.declared.format.Directive.{Directive}
use Rattle.c_tree.specs.declared.format.Directive.TheVariants as directive
use Rattle.flat_code.specs.declared.instruction.RightOperand.TheVariants.{Register, Number}
use Rattle.flat_code.specs.declared.instruction.FlatInstruction.{FlatInstruction}
use Rattle.flat_code.specs.declared.instruction.FlatInstruction.TheVariants.{Constant, Move, Operate, Operate32, Put}
use Rattle.flat_code.specs.Memory.{put}
use Rattle.flat_code.specs.State.{State}
use Rattle.flat_code.specs.Words.{IsOfWords}
use Rattle.flat_code.specs.Meaning.{Context, Goes}
use Rattle.flat_code.proofs.Stored.{put_same, put_other}
use Rattle.flat_code.specs.Routines.Routine.{HasAt, Outcome, Continues, Halts, Reaches, Either, Never}
use Rattle.flat_code.specs.Routines.Effects.{worked, effects}
use Rattle.flat_code.proofs.Routines.Steps.{has_front, has_back}
use Rattle.flat_code.proofs.Routines.Rules.{weaken, next, line, branch, arrived}
use Rattle.flat_code.proofs.Routines.Branches.{if_not_negative, if_negative}
use Rattle.shadow_space.proofs.Entries.{context_of}
use Rattle.flat_code.proofs.Routines.Spaces.Quiet.{quiet_words, worked_words}
use Rattle.flat_operators.proofs.Values.{int_by_word}
use Rattle.lib_wrappers.specs.PrintingRoutines.Digits.{HasPrinted}
use Rattle.lib_wrappers.specs.PrintingRoutines.Numbers.{number_bytes, IsNumberRoutine, sign_code, base_code, low_code}
use Rattle.lib_wrappers.specs.PrintingRoutines.Numbers.{number_code}
use Rattle.lib_wrappers.proofs.PrintingRoutines.DigitRoutine.{IsBase, ten, sixteen, puts_digits}
use Rattle.lib_wrappers.proofs.PrintingRoutines.NumberBytes.{signed_bytes, long_bytes, int_bytes, printed_both}
use Rattle.lib_wrappers.proofs.PrintingRoutines.NumberBytes.{printed_as}
use Rattle.lib_wrappers.proofs.PrintingRoutines.NumberBytes.{printed_none}

module _ (map : MapSizes) (charge weight : ℕ) (count t : ℕ) (counts : count < t) where
  abbrev c : Context
  c = context_of map true charge weight

  -- what a stretch leaves before the digits: some bytes put out, and a number in the register t
  pub record IsReady (bytes : List ℕ) (base : ℕ) (f f' : State) : Type 0 where
    before : List ℕ
    number : ℕ
    held : f'.values t ≡ number
    printed : HasPrinted before count t f f'
    all : before ++ digits base false number ≡ bytes

  -- ---- the sign

  abbrev negative : List FlatInstruction
  negative =
      Constant (t + 1) 45
      ∷ Put (t + 1)
      ∷ Operate Add count count (Number 1)
      ∷ Constant (t + 1) 0
      ∷ Operate Sub t (t + 1) (Register t)
      ∷ []

  ready_positive : (f : State) (x : ℕ) → IsOfWords f → f.values t ≡ x → x < 2 ^ 63
      → IsReady (signed_bytes x) 10 f (worked c f)
  ready_positive f x words is less = record {
    before = [];
    number = x;
    held = is;
    printed = printed_none count t f (worked c f) words refl refl refl refl refl refl (λ r l. refl) counts;
    all = sym (cond-true (nat_lt x (2 ^ 63)) (decimal x) (45 ∷ decimal (2 ^ 64 - x))
        (lt-ltb x (2 ^ 63) less));
  }

  ready_negative : (f : State) (x : ℕ) → IsOfWords f → f.values t ≡ x → 2 ^ 63 ≤ x
      → IsReady (signed_bytes x) 10 f (effects c negative f)
  unfolding reg_result
  ready_negative f x words is ge =
      let y = t + 1 in
      let v1 = put f.values y 45 in
      let v2 = put v1 count ((v1 count + 1) % 2 ^ 64) in
      let v3 = put v2 y 0 in
      let v4 = put v3 t ((v3 y + (2 ^ 64 - v3 t)) % 2 ^ 64) in
      let zero_is : v3 y ≡ 0 = put_same v2 y 0 in
      let kept : v3 t ≡ x = put_other v2 y 0 t (λ e. omega (arith, e)) ∙ put_other v1 count _ t (λ e. omega (arith, e))
      ∙ put_other f.values y 45 t (λ e. omega (arith, e)) ∙ is in
      let small = words.values t in
      let counted : v4 count ≡ (f.values count + 1) % 2 ^ 64 =
      put_other v3 t _ count (λ e. omega (arith, e)) ∙ put_other v2 y 0 count (λ e. omega (arith, e))
      ∙ put_same v1 count _ ∙ ap (λ z. (z + 1) % 2 ^ 64) (put_other f.values y 45 count (λ e. omega (arith, e))) in
      record {
        before = 45 ∷ [];
        number = 2 ^ 64 - x;
        held = put_same v3 t _ ∙ ap (λ z. (z + (2 ^ 64 - v3 t)) % 2 ^ 64) zero_is
            ∙ ap (λ z. (0 + (2 ^ 64 - z)) % 2 ^ 64) kept ∙ omega arith;
        printed = record {
          output = ap (λ b. f.output ++ b % 256 ∷ []) (put_same f.values y 45);
          counted = counted;
          memory = refl;
          input = refl;
          taken = refl;
          accesses = refl;
          turns = refl;
          others = λ r l none. put_other v3 t _ r (λ e. omega (arith, e))
              ∙ put_other v2 y 0 r (λ e. omega (arith, e)) ∙ put_other v1 count _ r none.0
              ∙ put_other f.values y 45 r (λ e. omega (arith, e));
        };
        all = sym (cond-false (nat_lt x (2 ^ 63)) (decimal x) (45 ∷ decimal (2 ^ 64 - x))
            (le-ltb x (2 ^ 63) ge));
      }

  sign_runs : (code : List FlatInstruction) (pc : ℕ) (f : State) (x : ℕ) → HasAt code pc (sign_code t count (t + 1))
      → IsOfWords f → f.values t ≡ x
      → Reaches c code 6 (Goes pc f) (pc + 6) (Either (IsReady (signed_bytes x) 10 f) Never)
  sign_runs code pc f x has words is =
      let end : pc + 1 + 5 ≡ pc + 6 = omega arith in
      branch c code 5 pc f Bge t (Number 0) 5 (pc + 6) (Either (IsReady (signed_bytes x) 10 f) Never) has.0
      (λ e. arrived c code 5 (worked c f) (pc + 1 + 5) (pc + 6) (Either (IsReady (signed_bytes x) 10 f) Never) end
      (ready_positive f x words is (let l = if_not_negative (f.values t) (words.values t) e in omega arith)))
      (λ e.
      subst (λ p. Reaches c code 5 (Goes (pc + 1) (worked c f)) p (Either (IsReady (signed_bytes x) 10 f) Never)) end
      (line c code negative (pc + 1) (worked c f) (IsReady (signed_bytes x) 10 f) Never
      (tt, (tt, (tt, (tt, (tt, tt))))) has.1
      (again (ready_negative (worked c f) x (worked_words c f words) is
      (let l = if_negative (f.values t) (words.values t) e in omega arith)))))
    where
      again : {f' : State} → IsReady (signed_bytes x) 10 (worked c f) f' → IsReady (signed_bytes x) 10 f f'
      again r = record {
        before = r.before;
        number = r.number;
        held = r.held;
        printed = record {
          output = r.printed.output;
          counted = r.printed.counted;
          memory = r.printed.memory;
          input = r.printed.input;
          taken = r.printed.taken;
          accesses = r.printed.accesses;
          turns = r.printed.turns;
          others = r.printed.others;
        };
        all = r.all;
      }

  -- ---- the digits behind

  then_digits : (base : ℕ) (b : IsBase base) (bytes : List ℕ) (a : ℕ) (code : List FlatInstruction) (pc middle end : ℕ)
      (f : State) → IsOfWords f → Reaches c code a (Goes pc f) middle (Either (IsReady bytes base f) Never)
      → HasAt code middle (base_code base t count (t + 1))
      → middle + length (base_code base t count (t + 1)) ≡ end
      → Reaches c code (a + (4 + 15 * length bytes)) (Goes pc f) end (Either (HasPrinted bytes count t f) Never)
  then_digits base b bytes a code pc middle end f words run has len =
      next c code a (4 + 15 * length bytes) (Goes pc f) middle end (IsReady bytes base f) Never
      (Either (HasPrinted bytes count t f) Never) words run
      (λ f1 words1 r.
      let d = digits base false r.number in
      let l = length-append r.before d in let e = ap length r.all in
      subst (λ p. Reaches c code (4 + 15 * length bytes) (Goes middle f1) p (Either (HasPrinted bytes count t f) Never))
      len
      (weaken c code (4 + 15 * length d) (4 + 15 * length bytes) (Goes middle f1) _ _ _ (omega arith) (by f1 r)
      ((puts_digits base b map t count (t + 1) (omega arith, (omega (arith, counts), tt))
      (((λ e. omega (arith, e)), tt), tt)
      r.number charge weight).from code middle f1 has words1 r.held)))
      (λ status report f' never. absurd never)
    where
      by : (f1 : State) (r : IsReady bytes base f f1) (o : Outcome)
          → Either (HasPrinted (digits base false r.number) count (t + 1) f1) Never o
          → Either (HasPrinted bytes count t f) Never o
      by f1 r (Continues f2) h =
          printed_as (r.before ++ digits base false r.number) bytes count t f f2 r.all
          (printed_both count t f f1 f2 r.before (digits base false r.number) (t + 1) (omega arith) r.printed h)
      by f1 r (Halts status report f2) h = h

  -- a stretch that only puts a number into the register t
  ready_value : (bytes : List ℕ) (base n : ℕ) (f f' : State) → IsOfWords f → f'.output ≡ f.output
      → f'.memory ≡ f.memory → f'.input ≡ f.input → f'.taken ≡ f.taken → f'.accesses ≡ f.accesses
      → f'.turns ≡ f.turns → ((r : ℕ) → r < t → f'.values r ≡ f.values r) → f'.values t ≡ n
      → digits base false n ≡ bytes → IsReady bytes base f f'
  ready_value bytes base n f f' words o m i k a u others held all = record {
    before = [];
    number = n;
    held = held;
    printed = printed_none count t f f' words o m i k a u others counts;
    all = all;
  }

  -- the sign behind a stretch that puts a word into the register t
  then_sign : (x : ℕ) (bytes : List ℕ) (code : List FlatInstruction) (i : FlatInstruction) (pc : ℕ) (f f1 : State)
      → IsOfWords f → IsOfWords f1
      → Reaches c code 1 (Goes pc f) (pc + 1) (Either (λ z. z ≡ f1) Never)
      → HasPrinted [] count t f f1 → f1.values t ≡ x → signed_bytes x ≡ bytes
      → HasAt code (pc + 1) (sign_code t count (t + 1))
      → Reaches c code 7 (Goes pc f) (pc + 7) (Either (IsReady bytes 10 f) Never)
  then_sign x bytes code i pc f f1 words words1 run none is all has =
      let end : pc + 1 + 6 ≡ pc + 7 = omega arith in
      subst (λ p. Reaches c code 7 (Goes pc f) p (Either (IsReady bytes 10 f) Never)) end
      (next c code 1 6 (Goes pc f) (pc + 1) (pc + 1 + 6) (λ z. z ≡ f1) Never (Either (IsReady bytes 10 f) Never) words
      run
      (λ z wz e.
      subst (λ y. Reaches c code 6 (Goes (pc + 1) y) (pc + 1 + 6) (Either (IsReady bytes 10 f) Never)) (sym e)
      (weaken c code 6 6 (Goes (pc + 1) f1) (pc + 1 + 6) _ _ (omega arith) by
      (sign_runs code (pc + 1) f1 x has words1 is)))
      (λ status report f' never. absurd never))
    where
      by : (o : Outcome) → Either (IsReady (signed_bytes x) 10 f1) Never o → Either (IsReady bytes 10 f) Never o
      by (Continues f2) r = record {
        before = r.before;
        number = r.number;
        held = r.held;
        printed = printed_both count t f f1 f2 [] r.before t (omega arith) none r.printed;
        all = r.all ∙ all;
      }
      by (Halts status report f2) r = r

  -- ---- each directive

  module _ (v : ℕ) (holds : v < t) (apart : v ≢ count) where
    -- the word of an int
    runs_int : (n : ℕ) (code : List FlatInstruction) (pc : ℕ) (f : State)
        → HasAt code pc (number_code directive.Int v count t) → IsOfWords f → f.values v ≡ n
        → Reaches c code (12 + 15 * length (number_bytes directive.Int n)) (Goes pc f)
        (pc + length (number_code directive.Int v count t))
        (Either (HasPrinted (number_bytes directive.Int n) count t f) Never)
    runs_int n code pc f has words is =
        let i = Operate32 Addw t v (Number 0) in
        let f1 = effects c (i ∷ []) f in
        let word : f1.values t ≡ fit Int n =
        put_same f.values t (reg32_result Addw (low_word (f.values v)) (low_word 0))
        ∙ ap (λ w. reg32_result Addw (low_word w) (low_word 0)) is ∙ int_by_word n in
        let none = printed_none count t f f1 words refl refl refl refl refl refl
        (λ r l. put_other f.values t _ r (λ e. omega (arith, e))) counts in
        let rest = has_back code (pc + 1) (sign_code t count (t + 1)) (base_code 10 t count (t + 1))
        (shifted code pc has) in
        let at : pc + 1 + 6 ≡ pc + 7 = omega arith in
        let bytes = number_bytes directive.Int n in
        weaken c code (7 + (4 + 15 * length bytes)) (12 + 15 * length bytes) (Goes pc f) _ _ _ (omega arith) (λ o h. h)
        (then_digits 10 ten bytes 7 code pc (pc + 7) (pc + length (number_code directive.Int v count t)) f words
        (then_sign (fit Int n) bytes code i pc f f1 words (quiet_words c (i ∷ []) f (tt, tt) words)
        (line c code (i ∷ []) pc f (λ z. z ≡ f1) Never (tt, tt) (has.0, tt) refl) none word (sym (int_bytes n))
        (has_front code (pc + 1) (sign_code t count (t + 1)) (base_code 10 t count (t + 1)) (shifted code pc has)))
        (subst (λ p. HasAt code p (base_code 10 t count (t + 1))) at rest) (omega arith))
      where
        shifted : (code : List FlatInstruction) (pc : ℕ) → HasAt code pc (number_code directive.Int v count t)
            → HasAt code (pc + 1) (sign_code t count (t + 1) ++ base_code 10 t count (t + 1))
        shifted code pc h = h.1

    -- the word of a long
    runs_long : (n : ℕ) (code : List FlatInstruction) (pc : ℕ) (f : State)
        → HasAt code pc (number_code directive.Long v count t) → IsOfWords f → f.values v ≡ n
        → Reaches c code (12 + 15 * length (number_bytes directive.Long n)) (Goes pc f)
        (pc + length (number_code directive.Long v count t))
        (Either (HasPrinted (number_bytes directive.Long n) count t f) Never)
    runs_long n code pc f has words is =
        let i = Move t v in
        let f1 = effects c (i ∷ []) f in
        let word : f1.values t ≡ n = put_same f.values t (f.values v) ∙ is in
        let small = words.values v in
        let none = printed_none count t f f1 words refl refl refl refl refl refl
        (λ r l. put_other f.values t _ r (λ e. omega (arith, e))) counts in
        let rest = has_back code (pc + 1) (sign_code t count (t + 1)) (base_code 10 t count (t + 1)) has.1 in
        let at : pc + 1 + 6 ≡ pc + 7 = omega arith in
        let bytes = number_bytes directive.Long n in
        weaken c code (7 + (4 + 15 * length bytes)) (12 + 15 * length bytes) (Goes pc f) _ _ _ (omega arith) (λ o h. h)
        (then_digits 10 ten bytes 7 code pc (pc + 7) (pc + length (number_code directive.Long v count t)) f words
        (then_sign n bytes code i pc f f1 words (quiet_words c (i ∷ []) f (tt, tt) words)
        (line c code (i ∷ []) pc f (λ z. z ≡ f1) Never (tt, tt) (has.0, tt) refl) none word
        (sym (long_bytes n (omega arith)))
        (has_front code (pc + 1) (sign_code t count (t + 1)) (base_code 10 t count (t + 1)) has.1))
        (subst (λ p. HasAt code p (base_code 10 t count (t + 1))) at rest) (omega arith))

    -- the low 32 bits, in a base
    runs_low : (base : ℕ) (b : IsBase base) (n : ℕ) (code : List FlatInstruction) (pc : ℕ) (f : State)
        → HasAt code pc (low_code t v ++ base_code base t count (t + 1)) → IsOfWords f → f.values v ≡ n
        → Reaches c code (12 + 15 * length (digits base false (fit UnsignedInt n))) (Goes pc f)
        (pc + length (low_code t v ++ base_code base t count (t + 1)))
        (Either (HasPrinted (digits base false (fit UnsignedInt n)) count t f) Never)
    unfolding reg_result fit
    runs_low base b n code pc f has words is =
        let f1 = effects c (low_code t v) f in
        let v1 = put f.values t ((f.values v * 2 ^ 32) % 2 ^ 64) in
        let bytes = digits base false (n % 2 ^ 32) in
        let word : f1.values t ≡ n % 2 ^ 32 =
        put_same v1 t (v1 t / 2 ^ 32) ∙ ap (λ z. z / 2 ^ 32) (put_same f.values t ((f.values v * 2 ^ 32) % 2 ^ 64))
        ∙ ap (λ z. (z * 2 ^ 32) % 2 ^ 64 / 2 ^ 32) is ∙ omega arith in
        let at : pc + length (low_code t v) + length (base_code base t count (t + 1))
        ≡ pc + length (low_code t v ++ base_code base t count (t + 1)) = omega arith in
        weaken c code (2 + (4 + 15 * length bytes)) (12 + 15 * length bytes) (Goes pc f) _ _ _ (omega arith) (λ o h. h)
        (then_digits base b bytes 2 code pc (pc + 2) (pc + length (low_code t v ++ base_code base t count (t + 1))) f
        words
        (line c code (low_code t v) pc f (IsReady bytes base f) Never (tt, (tt, tt))
        (has_front code pc (low_code t v) (base_code base t count (t + 1)) has)
        (ready_value bytes base (n % 2 ^ 32) f f1 words refl refl refl refl refl refl
        (λ r l. put_other v1 t _ r (λ e. omega (arith, e)) ∙ put_other f.values t _ r (λ e. omega (arith, e))) word
        refl))
        (has_back code pc (low_code t v) (base_code base t count (t + 1)) has) (omega arith))

    runs_word : (n : ℕ) (code : List FlatInstruction) (pc : ℕ) (f : State)
        → HasAt code pc (base_code 10 v count t) → IsOfWords f → f.values v ≡ n
        → Reaches c code (12 + 15 * length (decimal (fit UnsignedLong n))) (Goes pc f)
        (pc + length (base_code 10 v count t))
        (Either (HasPrinted (decimal (fit UnsignedLong n)) count t f) Never)
    unfolding fit
    runs_word n code pc f has words is =
        let small = words.values v in
        let same : f.values v ≡ n % 2 ^ 64 = omega arith in
        weaken c code (4 + 15 * length (decimal (n % 2 ^ 64))) (12 + 15 * length (decimal (n % 2 ^ 64))) (Goes pc f) _
        _ _
        (omega arith) (λ o h. h)
        ((puts_digits 10 ten map v count t (holds, (counts, tt)) ((apart, tt), tt) (n % 2 ^ 64) charge weight).from code
        pc f has words same)

    runs_character : (n : ℕ) (code : List FlatInstruction) (pc : ℕ) (f : State)
        → HasAt code pc (number_code directive.Character v count t) → IsOfWords f → f.values v ≡ n
        → Reaches c code (12 + 15 * length (number_bytes directive.Character n)) (Goes pc f)
        (pc + length (number_code directive.Character v count t))
        (Either (HasPrinted (number_bytes directive.Character n) count t f) Never)
    unfolding reg_result fit
    runs_character n code pc f has words is =
        weaken c code 2 (12 + 15 * 1) (Goes pc f) _ _ _ (omega arith) (λ o h. h)
        (line c code (number_code directive.Character v count t) pc f
        (HasPrinted (number_bytes directive.Character n) count t f) Never (tt, (tt, tt)) has (record {
          output = ap (λ w. f.output ++ w % 256 ∷ []) is;
          counted = put_same f.values count _;
          memory = refl;
          input = refl;
          taken = refl;
          accesses = refl;
          turns = refl;
          others = λ r l none. put_other f.values count _ r none.0;
        }))

    runs_number : (d : Directive) (n : ℕ) (code : List FlatInstruction) (pc : ℕ) (f : State)
        → HasAt code pc (number_code d v count t) → IsOfWords f → f.values v ≡ n
        → Reaches c code (12 + 15 * length (number_bytes d n)) (Goes pc f) (pc + length (number_code d v count t))
        (Either (HasPrinted (number_bytes d n) count t f) Never)
    runs_number directive.Int n code pc f has words is = runs_int n code pc f has words is
    runs_number directive.UnsignedInt n code pc f has words is = runs_low 10 ten n code pc f has words is
    runs_number directive.Hexadecimal n code pc f has words is = runs_low 16 sixteen n code pc f has words is
    runs_number directive.Character n code pc f has words is = runs_character n code pc f has words is
    runs_number directive.Long n code pc f has words is = runs_long n code pc f has words is
    runs_number directive.UnsignedLong n code pc f has words is = runs_word n code pc f has words is
    runs_number directive.String n code pc f has words is =
        arrived c code 12 f pc (pc + 0) (Either (HasPrinted [] count t f) Never) (omega arith)
        (printed_none count t f f words refl refl refl refl refl refl (λ r l. refl) counts)

pub number_prints : (map : MapSizes) (d : Directive) (v count t : ℕ) → v < t → count < t → v ≢ count
    → IsNumberRoutine map d v count t (number_code d v count t)
number_prints map d v count t holds counts apart n charge weight = record {
  from = λ code pc f has words is. runs_number map charge weight count t counts v holds apart d n code pc f has words
      is;
}
