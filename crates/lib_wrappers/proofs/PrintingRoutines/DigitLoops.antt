-- The loops that put the digits of a number out.
use Rattle.std.proofs.Common.{◌≡◌, ℕ, zero, suc, ◌+◌, ◌-◌, ◌*◌, ◌/◌, ◌%◌, ◌^◌, ◌<◌, ◌≤◌, ◌⊎◌, inl, inr, ⊎_elim}
use Rattle.std.proofs.Common.{List, [], ◌∷◌, ◌++◌, true, false, refl, sym, ap, ◌∙◌, subst, arith}
use Rattle.std.proofs.Common.{append_assoc}
use Rattle.std.specs.Prelude.{nat_lt}
use Rattle.std.specs.Fmt.{digit_glyph}
use Rattle.std.proofs.lemmas.Bool.{cases_lt, ne_eqb, lt-ltb, le-ltb, cond-true, cond-false}
use Rattle.std.proofs.Math.Nat.{pow-zero, pow-suc, le-div_iff_mul-le, mul-div_cancel, div-eq_of_lt, mod-lt}
use Rattle.addr_map.specs.Places.{MapSizes}
use Rattle.rv_isa.specs.declared.instruction.BranchOp.TheVariants.{Beq, Bltu}
use Rattle.rv_isa.specs.Results.{reg_result, branch_taken, quotient_or_ones, remainder_or_dividend, bit_of}
use Rattle.flat_code.specs.declared.instruction.RightOperand.TheVariants.{Number}
use Rattle.flat_code.specs.declared.instruction.FlatInstruction.{FlatInstruction}
use Rattle.flat_code.specs.declared.instruction.FlatInstruction.TheVariants.{Constant, Move, JumpBack}
use Rattle.flat_code.specs.Memory.{put}
use Rattle.flat_code.specs.State.{State}
use Rattle.flat_code.specs.Words.{IsOfWords}
use Rattle.flat_code.specs.Meaning.{Context, Goes}
use Rattle.flat_code.specs.Routines.Routine.{Reaches, Either, Never, until_code}
use Rattle.flat_code.specs.Routines.Effects.{worked, effects}
use Rattle.flat_code.proofs.Routines.Steps.{has_front, has_back, has_self}
use Rattle.flat_code.proofs.Routines.Rules.{weaken, next, line, line_on, loop}
use Rattle.flat_code.proofs.Routines.Branches.{is_less, is_not_less, are_equal, are_not_equal}
use Rattle.shadow_space.proofs.Entries.{context_of}
use Rattle.flat_code.proofs.Routines.Spaces.Quiet.{quiet_words}
use Rattle.lib_wrappers.specs.PrintingRoutines.Digits.{seek_power, put_digit, digits_code}
use Rattle.lib_wrappers.proofs.PrintingRoutines.DigitLists.{digits_from, IsHighest, no_power, divided_again, still_left}
use Rattle.lib_wrappers.proofs.PrintingRoutines.DigitLists.{positive}

-- ---- the operators

quotient : (a b : ℕ) → 0 < b → quotient_or_ones 64 b (a / b) ≡ a / b
quotient a b l = cond-false _ (2 ^ 64 - 1) (a / b) (ne_eqb b 0 (λ e. omega arith))

remainder : (a b : ℕ) → 0 < b → remainder_or_dividend a b (a % b) ≡ a % b
remainder a b l = cond-false _ a (a % b) (ne_eqb b 0 (λ e. omega arith))

-- the byte of a digit, without a branch
glyph_is : (d : ℕ) → d < 16
    → ((d + 87) % 2 ^ 64 + (2 ^ 64 - bit_of (nat_lt d 10) * 39 % 2 ^ 64)) % 2 ^ 64 ≡ digit_glyph false d
glyph_is d l = ⊎_elim
    (λ (less : d < 10).
    let one : bit_of (nat_lt d 10) ≡ 1 = ap bit_of (lt-ltb d 10 less) in
    ap (λ b. ((d + 87) % 2 ^ 64 + (2 ^ 64 - b * 39 % 2 ^ 64)) % 2 ^ 64) one
    ∙ omega arith
    ∙ sym (cond-true (nat_lt d 10) (48 + d) (87 + d) (lt-ltb d 10 less)))
    (λ ge.
    let none : bit_of (nat_lt d 10) ≡ 0 = ap bit_of (le-ltb d 10 ge) in
    ap (λ b. ((d + 87) % 2 ^ 64 + (2 ^ 64 - b * 39 % 2 ^ 64)) % 2 ^ 64) none
    ∙ omega arith
    ∙ sym (cond-false (nat_lt d 10) (48 + d) (87 + d) (le-ltb d 10 ge)))
    (cases_lt d 10)

-- ---- powers up to the highest

module _ (base n J : ℕ) (b : 2 ≤ base) (high : IsHighest base J n) where
  quotient_left : (j k : ℕ) → j + suc k ≡ J → base ≤ n / base ^ j
  quotient_left j k e =
      let s : suc (j + k) ≡ J = omega arith in
      still_left base j k n b (by (j + k) (subst (λ i. IsHighest base i n) (sym s) high))
    where
      by : (i : ℕ) → IsHighest base (suc i) n → 1 ≤ n / base ^ suc i
      by i h = h.1

  next_some : (j k : ℕ) → j + suc k ≡ J → 1 ≤ n / base ^ suc j
  next_some j k e =
      let q = quotient_left j k e in
      subst (λ x. 1 ≤ x) (divided_again base j n) ((le-div_iff_mul-le (omega arith)).1 (omega arith))

  -- the next power is no larger than the number
  next_small : (j k : ℕ) → j + suc k ≡ J → base ^ j * base ≤ n
  next_small j k e =
      let h = (le-div_iff_mul-le (positive base (suc j) b)).0 (next_some j k e) in
      let p = pow-suc base j in omega arith

  -- at the highest the quotient is a digit
  last_small : n / base ^ J < base
  last_small = by J high
    where
      by : (j : ℕ) → IsHighest base j n → n / base ^ j < base
      by zero h = let e = no_power base n in omega arith
      by (suc j) h = h.0

-- ---- the loops alone: 0 the number, 1 the count, 2 the power, 3 the quotient, 4 whether it is less than 10

pub record IsLike (start v : State) : Type 0 where
  pub value : v.values 0 ≡ start.values 0
  pub memory : v.memory ≡ start.memory
  pub input : v.input ≡ start.input
  pub taken : v.taken ≡ start.taken
  pub accesses : v.accesses ≡ start.accesses
  pub turns : v.turns ≡ start.turns

-- k powers are left up to the highest
record Seeking (base n J : ℕ) (start : State) (k : ℕ) (v : State) : Type 0 where
  reached : ℕ
  count : reached + k ≡ J
  power : v.values 2 ≡ base ^ reached
  quotient_is : v.values 3 ≡ n / base ^ reached
  counted : v.values 1 ≡ start.values 1
  output : v.output ≡ start.output
  like : IsLike start v

-- k digits are left
abbrev pub rest_of : (base n k : ℕ) → List ℕ
rest_of base n zero = []
rest_of base n (suc j) = digits_from base j n

abbrev pub power_of : (base k : ℕ) → ℕ
power_of base zero = 0
power_of base (suc j) = base ^ j

first_digit : (base n j : ℕ)
    → digits_from base j n ≡ digit_glyph false (n / base ^ j % base) ∷ rest_of base n j
first_digit base n zero = ap (λ v. digit_glyph false (v % base) ∷ []) (sym (no_power base n))
first_digit base n (suc j) = refl

less_power : (base j : ℕ) → 2 ≤ base → base ^ j / base ≡ power_of base j
less_power base zero b = ap (λ z. z / base) (pow-zero base) ∙ div-eq_of_lt (omega arith)
less_power base (suc j) b = ap (λ z. z / base) (pow-suc base j) ∙ mul-div_cancel (base ^ j) (omega arith)

pub record Showing (base n J : ℕ) (start : State) (k : ℕ) (v : State) : Type 0 where
  pub shown : ℕ
  pub count : shown + k ≡ suc J
  pub power : v.values 2 ≡ power_of base k
  pub counted : v.values 1 ≡ (start.values 1 + shown) % 2 ^ 64
  pub output : v.output ++ rest_of base n k ≡ start.output ++ digits_from base J n
  pub like : IsLike start v

module _ (base n J : ℕ) (b : 2 ≤ base) (few : base ≤ 16) (high : IsHighest base J n) (map : MapSizes)
    (charge weight : ℕ) (start : State) (words : IsOfWords start) (is : start.values 0 ≡ n) where
  abbrev c : Context
  c = context_of map true charge weight

  like_worked : (v : State) → IsLike start v → IsLike start (worked c v)
  like_worked v l = record {
    value = l.value;
    memory = l.memory;
    input = l.input;
    taken = l.taken;
    accesses = l.accesses;
    turns = l.turns;
  }

  seek_worked : (k : ℕ) (v : State) → Seeking base n J start k v → Seeking base n J start k (worked c v)
  seek_worked k v w = record {
    reached = w.reached;
    count = w.count;
    power = w.power;
    quotient_is = w.quotient_is;
    counted = w.counted;
    output = w.output;
    like = like_worked v w.like;
  }

  show_worked : (k : ℕ) (v : State) → Showing base n J start k v → Showing base n J start k (worked c v)
  show_worked k v w = record {
    shown = w.shown;
    count = w.count;
    power = w.power;
    counted = w.counted;
    output = w.output;
    like = like_worked v w.like;
  }

  small : n < 2 ^ 64
  small = let w = words.values 0 in omega arith

  seek_turn : (k : ℕ) (v : State) → Seeking base n J start (suc k) v
      → Seeking base n J start k (effects c (seek_power base 0 2 3) v)
  unfolding put reg_result
  seek_turn k v w =
      let j = w.reached in let fits = next_small base n J b high j k w.count in let s = small in
      let next : (v.values 2 * (base % 2 ^ 64)) % 2 ^ 64 ≡ base ^ suc j =
      ap (λ z. (z * (base % 2 ^ 64)) % 2 ^ 64) w.power ∙ ap (λ z. (base ^ j * z) % 2 ^ 64) (low base few)
      ∙ below_word (base ^ j * base) (omega arith) ∙ sym (pow-suc base j) in
      record {
        reached = suc j;
        count = (let e = w.count in omega arith);
        power = next;
        quotient_is = ap (λ z. quotient_or_ones 64 z (v.values 0 / z)) next
            ∙ quotient (v.values 0) (base ^ suc j) (positive base (suc j) b)
            ∙ ap (λ z. z / base ^ suc j) (w.like.value ∙ is);
        counted = w.counted;
        output = w.output;
        like = record {
          value = w.like.value;
          memory = w.like.memory;
          input = w.like.input;
          taken = w.like.taken;
          accesses = w.like.accesses;
          turns = w.like.turns;
        };
      }
    where
      low : (z : ℕ) → z ≤ 16 → z % 2 ^ 64 ≡ z
      low z l = omega arith

      below_word : (z : ℕ) → z < 2 ^ 64 → z % 2 ^ 64 ≡ z
      below_word z l = omega arith

  show_turn : (k : ℕ) (v : State) → Showing base n J start (suc k) v
      → Showing base n J start k (effects c (put_digit base 0 1 2 3 4) v)
  unfolding put reg_result
  show_turn j v w =
      let base_is : base % 2 ^ 64 ≡ base = omega arith in
      let q : quotient_or_ones 64 (v.values 2) (v.values 0 / v.values 2) ≡ n / base ^ j =
      ap (λ p. quotient_or_ones 64 p (v.values 0 / p)) w.power
      ∙ quotient (v.values 0) (base ^ j) (positive base j b) ∙ ap (λ z. z / base ^ j) (w.like.value ∙ is) in
      let d = n / base ^ j % base in
      let digit : remainder_or_dividend (quotient_or_ones 64 (v.values 2) (v.values 0 / v.values 2)) (base % 2 ^ 64)
      (quotient_or_ones 64 (v.values 2) (v.values 0 / v.values 2) % (base % 2 ^ 64)) ≡ d =
      ap (λ z. remainder_or_dividend z (base % 2 ^ 64) (z % (base % 2 ^ 64))) q
      ∙ ap (λ z. remainder_or_dividend (n / base ^ j) z (n / base ^ j % z)) base_is
      ∙ remainder (n / base ^ j) base (omega arith) in
      let less : d < 16 = below_base (n / base ^ j) in
      let byte = ap (λ z. ((z + 87) % 2 ^ 64 + (2 ^ 64 - bit_of (nat_lt z 10) * 39 % 2 ^ 64)) % 2 ^ 64) digit
      ∙ glyph_is d less in
      let g = digit_glyph false d in
      let put_byte = ap (λ z. z % 256) byte ∙ glyph_byte d less in
      record {
        shown = suc w.shown;
        count = (let e = w.count in omega arith);
        power = ap (λ z. quotient_or_ones 64 z (v.values 2 / z)) base_is
            ∙ quotient (v.values 2) base (omega arith) ∙ ap (λ z. z / base) w.power ∙ less_power base j b;
        counted = (let e = w.counted in omega arith);
        output = append_assoc v.output _ (rest_of base n j)
            ∙ ap (λ z. v.output ++ z ∷ rest_of base n j) put_byte
            ∙ ap (λ z. v.output ++ z) (sym (first_digit base n j))
            ∙ w.output;
        like = record {
          value = w.like.value;
          memory = w.like.memory;
          input = w.like.input;
          taken = w.like.taken;
          accesses = w.like.accesses;
          turns = w.like.turns;
        };
      }
    where
      below_base : (q : ℕ) → q % base < 16
      below_base q = let l = mod-lt q {m = base} (omega arith) in omega arith

      glyph_byte : (d : ℕ) → d < 16 → digit_glyph false d % 256 ≡ digit_glyph false d
      glyph_byte d l = ⊎_elim
          (λ (less : d < 10). ap (λ z. z % 256) (cond-true (nat_lt d 10) (48 + d) (87 + d) (lt-ltb d 10 less))
          ∙ omega arith ∙ sym (cond-true (nat_lt d 10) (48 + d) (87 + d) (lt-ltb d 10 less)))
          (λ ge. ap (λ z. z % 256) (cond-false (nat_lt d 10) (48 + d) (87 + d) (le-ltb d 10 ge))
          ∙ omega arith ∙ sym (cond-false (nat_lt d 10) (48 + d) (87 + d) (le-ltb d 10 ge)))
          (cases_lt d 10)

  -- ---- from the start on

  abbrev code : List FlatInstruction
  code = digits_code base 0 1 2 3 4

  abbrev first : List FlatInstruction
  first = Constant 2 1 ∷ Move 3 0 ∷ []

  abbrev seeking : List FlatInstruction
  seeking = until_code Bltu 3 (Number base) (seek_power base 0 2 3)

  abbrev showing : List FlatInstruction
  showing = until_code Beq 2 (Number 0) (put_digit base 0 1 2 3 4)

  begin : Seeking base n J start J (effects c first start)
  unfolding put
  begin = record {
    reached = 0;
    count = omega arith;
    power = sym (pow-zero base);
    quotient_is = is ∙ sym (no_power base n);
    counted = refl;
    output = refl;
    like = record { value = refl; memory = refl; input = refl; taken = refl; accesses = refl; turns = refl };
  }

  one_seek : (k : ℕ) (v : State) → IsOfWords v → Seeking base n J start k v
      → ((branch_taken Bltu (v.values 3) (base % 2 ^ 64) ≡ false) × (j : ℕ) × (k ≡ suc j)
      × Reaches c code 2 (Goes 3 (worked c v)) 5
      (Either (λ s'. (i : ℕ) × (i ≤ j) × Seeking base n J start i (worked c s')) Never))
      ⊎ ((branch_taken Bltu (v.values 3) (base % 2 ^ 64) ≡ true) × Seeking base n J start 0 (worked c v))
  one_seek zero v fits w = inr (
    is_less (v.values 3) (base % 2 ^ 64) (let q = w.quotient_is in let e = w.count in
        let l = last_small base n J b high in let same : w.reached ≡ J = omega arith in
        let z = ap (λ j. n / base ^ j) same in omega arith),
    seek_worked 0 v w,
  )
  one_seek (suc k) v fits w = inl (
    is_not_less (v.values 3) (base % 2 ^ 64) (let q = w.quotient_is in
        let l = quotient_left base n J b high w.reached k w.count in omega arith),
    k,
    refl,
    line c code (seek_power base 0 2 3) 3 (worked c v)
        (λ s'. (i : ℕ) × (i ≤ k) × Seeking base n J start i (worked c s')) Never (tt, (tt, tt))
        (has_front code 3 (seek_power base 0 2 3) (JumpBack 3 ∷ []) (has_front code 2 seeking showing
        (has_back code 0 first (seeking ++ showing) (has_self code))).1)
        (k, omega arith, seek_worked k _ (seek_turn k (worked c v) (seek_worked (suc k) v w))),
  )

  one_show : (k : ℕ) (v : State) → IsOfWords v → Showing base n J start k v
      → ((branch_taken Beq (v.values 2) 0 ≡ false) × (j : ℕ) × (k ≡ suc j)
      × Reaches c code 9 (Goes 7 (worked c v)) 16
      (Either (λ s'. (i : ℕ) × (i ≤ j) × Showing base n J start i (worked c s')) Never))
      ⊎ ((branch_taken Beq (v.values 2) 0 ≡ true) × Showing base n J start 0 (worked c v))
  one_show zero v fits w = inr (are_equal (v.values 2) 0 w.power, show_worked 0 v w)
  one_show (suc k) v fits w = inl (
    are_not_equal (v.values 2) 0 (λ e. (let p = w.power in let l = positive base k b in omega arith)),
    k,
    refl,
    line c code (put_digit base 0 1 2 3 4) 7 (worked c v)
        (λ s'. (i : ℕ) × (i ≤ k) × Showing base n J start i (worked c s')) Never
        (tt, (tt, (tt, (tt, (tt, (tt, (tt, (tt, (tt, tt)))))))))
        (has_front code 7 (put_digit base 0 1 2 3 4) (JumpBack 10 ∷ [])
        (has_back code 2 seeking showing (has_back code 0 first (seeking ++ showing) (has_self code))).1)
        (k, omega arith, show_worked k _ (show_turn k (worked c v) (show_worked (suc k) v w))),
  )

  sought : (v : State) → Seeking base n J start 0 v → Showing base n J start (suc J) v
  sought v w =
      let e = w.count in let same : w.reached ≡ J = omega arith in
      record {
        shown = 0;
        count = omega arith;
        power = w.power ∙ ap (λ j. base ^ j) same;
        counted = (let d = w.counted in let l = words.values 1 in omega arith);
        output = ap (λ o. o ++ digits_from base J n) w.output;
        like = w.like;
      }

  pub all_shown : Reaches c code (4 + 15 * suc J) (Goes 0 start) 17 (Either (Showing base n J start 0) Never)
  all_shown =
      let has = has_self code in
      let rest = has_back code 0 first (seeking ++ showing) has in
      weaken c code (2 + ((J * (2 + 2) + 1) + (suc J * (9 + 2) + 1))) (4 + 15 * suc J) (Goes 0 start) 17
      (Either (Showing base n J start 0) Never) (Either (Showing base n J start 0) Never) (omega arith) (λ o i. i)
      (line_on c code first ((J * (2 + 2) + 1) + (suc J * (9 + 2) + 1)) 0 start 17
      (Either (Showing base n J start 0) Never) (tt, (tt, tt)) (has.0, (has.1.0, tt))
      (next c code (J * (2 + 2) + 1) (suc J * (9 + 2) + 1) (Goes 2 (effects c first start)) 6 17
      (Seeking base n J start 0) Never (Either (Showing base n J start 0) Never) first_words
      (loop c code 2 Bltu 3 (Number base) (seek_power base 0 2 3) 2 (Seeking base n J start) (Seeking base n J start 0)
      Never (has_front code 2 seeking showing rest) one_seek J J (omega arith) (effects c first start) first_words
      begin)
      (λ v fits w.
      loop c code 6 Beq 2 (Number 0) (put_digit base 0 1 2 3 4) 9 (Showing base n J start) (Showing base n J start 0)
      Never (has_back code 2 seeking showing rest) one_show (suc J) (suc J) (omega arith) v fits (sought v w))
      (λ status report v never. absurd never)))
    where
      first_words : IsOfWords (effects c first start)
      first_words = quiet_words c first start (tt, (tt, tt)) words
