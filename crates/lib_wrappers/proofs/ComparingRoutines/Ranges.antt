-- `memcmp` alone: the pairs of bytes of two ranges are compared as in the source.
use Rattle.std.proofs.Common.{◌≡◌, ◌≢◌, ℕ, suc, ◌+◌, ◌-◌, ◌*◌, ◌%◌, ◌^◌, ◌<◌, ◌≤◌, ⊎_elim, List, [], ◌∷◌, ◌++◌}
use Rattle.std.proofs.Common.{true, if◌then◌else◌, length, get_or, refl, sym, ap, ◌∙◌, subst, arith}
use Rattle.std.specs.Prelude.{nat_lt}
use Rattle.std.proofs.lemmas.Bool.{cases_eq, eq-eqb, ne_eqb}
use Rattle.addr_map.specs.Places.{MapSizes}
use Rattle.rv_isa.specs.declared.instruction.BranchOp.TheVariants.{Beq, Bne}
use Rattle.rv_isa.specs.declared.instruction.RegOp.TheVariants.{Add}
use Rattle.rv_isa.specs.Results.{reg_result, extended, bit_of}
use Rattle.obj_memory.specs.declared.value.Value.{Value}
use Rattle.source_meaning.specs.Actions.{integer}
use Rattle.source_meaning.specs.Bytes.{order}
use Rattle.source_meaning.specs.Memory.{pairs_compared, order_of}
use Rattle.flat_code.specs.declared.instruction.RightOperand.TheVariants.{Register, Number}
use Rattle.flat_code.specs.declared.instruction.FlatInstruction.{FlatInstruction}
use Rattle.flat_code.specs.declared.instruction.FlatInstruction.TheVariants.{Move, Operate}
use Rattle.flat_code.specs.Memory.{put, load}
use Rattle.flat_code.specs.Spaces.{is_allowed}
use Rattle.flat_code.specs.State.{State}
use Rattle.flat_code.specs.Meaning.{Context, Goes}
use Rattle.flat_code.specs.Routines.Routine.{HasAt, Outcome, Reaches, Either, Never}
use Rattle.flat_code.specs.Routines.Effects.{worked, effects, AreAllowed}
use Rattle.flat_code.specs.Routines.Metadata.{ShowsNothing}
use Rattle.flat_code.proofs.Routines.Steps.{has_self, has_front, has_back}
use Rattle.flat_code.proofs.Routines.Rules.{weaken, line_on, branch, jump_back, arrived}
use Rattle.flat_code.proofs.Routines.Branches.{if_equal, if_unequal, if_apart, if_alike}
use Rattle.flat_code.proofs.Routines.Words.{byte_loaded}
use Rattle.flat_code.proofs.Routines.Showing.{shows_on}
use Rattle.shadow_space.proofs.Entries.{context_of}
use Rattle.flat_actions.specs.Judgement.Code.{judge_code}
use Rattle.lib_wrappers.specs.ComparingRoutines.Comparing.{order_code, pair_code, range_loop, memcmp_code}
use Rattle.lib_wrappers.proofs.ComparingRoutines.Pairs.{order_is, own_left, own_right}

-- ---- the registers of the routine alone: 0 to 4 and 5 to 9 the pointers, 10 the size, 11 the result, 12 and 13 the
-- cursors, 14 and 15 the bytes, 16 the end of the first range

abbrev pub own_memcmp : (line : ℕ) → List FlatInstruction
own_memcmp line = memcmp_code own_left own_right 10 11 line 12 13 14 15 16

abbrev pub range_end : List FlatInstruction
range_end = range_loop 12 13 16 14 15 ++ order_code 14 15 12 13 11

abbrev pub range_start : List FlatInstruction
range_start = Move 12 0 ∷ Move 13 5 ∷ Operate Add 16 0 (Register 10) ∷ []

abbrev pub behind_both : List FlatInstruction
behind_both = range_start ++ range_end

abbrev pub behind_first : (line : ℕ) → List FlatInstruction
behind_first line = judge_code own_right 10 line 12 ++ behind_both

pub has_first : (line : ℕ) → HasAt (own_memcmp line) 2 (judge_code own_left 10 line 12)
has_first line =
    has_front (own_memcmp line) 2 (judge_code own_left 10 line 12) (behind_first line) (has_self (own_memcmp line)).1.1

has_behind_first : (line : ℕ) → HasAt (own_memcmp line) 12 (behind_first line)
has_behind_first line =
    has_back (own_memcmp line) 2 (judge_code own_left 10 line 12) (behind_first line) (has_self (own_memcmp line)).1.1

pub has_second : (line : ℕ) → HasAt (own_memcmp line) 12 (judge_code own_right 10 line 12)
has_second line =
    has_front (own_memcmp line) 12 (judge_code own_right 10 line 12) behind_both (has_behind_first line)

has_behind_both : (line : ℕ) → HasAt (own_memcmp line) 22 behind_both
has_behind_both line =
    has_back (own_memcmp line) 12 (judge_code own_right 10 line 12) behind_both (has_behind_first line)

pub has_range_start : (line : ℕ) → HasAt (own_memcmp line) 22 range_start
has_range_start line = has_front (own_memcmp line) 22 range_start range_end (has_behind_both line)

has_range_end : (line : ℕ) → HasAt (own_memcmp line) 25 range_end
has_range_end line = has_back (own_memcmp line) 22 range_start range_end (has_behind_both line)

has_loop : (line : ℕ) → HasAt (own_memcmp line) 25 (range_loop 12 13 16 14 15)
has_loop line =
    has_front (own_memcmp line) 25 (range_loop 12 13 16 14 15) (order_code 14 15 12 13 11) (has_range_end line)

has_order : (line : ℕ) → HasAt (own_memcmp line) 32 (order_code 14 15 12 13 11)
has_order line =
    has_back (own_memcmp line) 25 (range_loop 12 13 16 14 15) (order_code 14 15 12 13 11) (has_range_end line)

-- ---- the loop

module _ (map : MapSizes) (charge weight line : ℕ) (f0 : State) where
  abbrev c : Context
  c = context_of map true charge weight

  abbrev C : List FlatInstruction
  C = own_memcmp line

  -- these bytes stand in memory from an address on, and may be loaded
  pub record StandsAt (xs : List ℕ) (p : ℕ) : Type 0 where
    pub there : (i : ℕ) → i < length xs → f0.memory (p + i) ≡ get_or xs i 0
    pub allowed : (i : ℕ) → i < length xs → is_allowed map (p + i) 1 ≡ true
    pub small : p + length xs < 2 ^ 64

  pub record AreRanged (xs ys : List ℕ) (p q : ℕ) (f : State) : Type 0 where
    pub long : length ys ≡ length xs
    pub first : StandsAt xs p
    pub second : StandsAt ys q
    pub cursor : f.values 12 ≡ p
    pub other : f.values 13 ≡ q
    pub end : f.values 16 ≡ p + length xs
    pub none : f.values 11 ≡ 0
    pub memory : f.memory ≡ f0.memory
    pub shows : ShowsNothing f0 f

  pub record HasOrder (v : Value) (z : State) : Type 0 where
    pub memory : z.memory ≡ f0.memory
    pub shows : ShowsNothing f0 z
    pub given : z.values 11 ≡ v.word

  abbrev Orders : Value → Outcome → Type 0
  Orders v = Either (HasOrder v) Never

  later : (x : ℕ) (xs : List ℕ) (p : ℕ) → StandsAt (x ∷ xs) p → StandsAt xs (p + 1)
  later x xs p s =
      let at : (i : ℕ) → p + suc i ≡ p + 1 + i = λ i. omega arith in
      record {
        there = λ i l. subst (λ a. f0.memory a ≡ get_or xs i 0) (at i) (s.there (suc i) (omega arith));
        allowed = λ i l. subst (λ a. is_allowed map a 1 ≡ true) (at i) (s.allowed (suc i) (omega arith));
        small = let l = s.small in omega arith;
      }

  here : (x : ℕ) (xs : List ℕ) (p : ℕ) → StandsAt (x ∷ xs) p → (f0.memory p ≡ x) × (is_allowed map p 1 ≡ true)
  here x xs p s =
      let at : p + 0 ≡ p = omega arith in (
        subst (λ a. f0.memory a ≡ x) at (s.there 0 (omega arith)),
        subst (λ a. is_allowed map a 1 ≡ true) at (s.allowed 0 (omega arith)),
      )

  abbrev loaded : State → State
  loaded f = effects c (pair_code 12 13 14 15) f

  abbrev stepped : State → State
  stepped f = effects c (Operate Add 12 12 (Number 1) ∷ Operate Add 13 13 (Number 1) ∷ []) (worked c (loaded f))

  module _ (x : ℕ) (xs : List ℕ) (y : ℕ) (ys : List ℕ) (p q : ℕ) (f : State) (h : AreRanged (x ∷ xs) (y ∷ ys) p q f)
    where
      at_first : (f.values 12 + 0) % 2 ^ 64 ≡ p
      at_first = let s = h.first.small in let e = h.cursor in omega arith

      at_second : (f.values 13 + 0) % 2 ^ 64 ≡ q
      at_second = let s = h.second.small in let e = h.other in omega arith

      first_is : (loaded f).values 14 ≡ x
      unfolding put extended
      first_is =
          ap (load 1 f.memory) at_first ∙ byte_loaded f.memory p ∙ ap (λ m. m p) h.memory ∙ (here x xs p h.first).0

      second_is : (loaded f).values 15 ≡ y
      unfolding put extended
      second_is =
          ap (load 1 f.memory) at_second ∙ byte_loaded f.memory q ∙ ap (λ m. m q) h.memory
          ∙ (here y ys q h.second).0

      may_load : AreAllowed c (pair_code 12 13 14 15) f
      unfolding put
      may_load = (
        ap (λ a. is_allowed map a 1) at_first ∙ (here x xs p h.first).1,
        (ap (λ a. is_allowed map a 1) at_second ∙ (here y ys q h.second).1, tt),
      )

      has : HasAt C 25 (range_loop 12 13 16 14 15)
      has = has_loop line

      abbrev ordered : State
      ordered = effects c (order_code 14 15 12 13 11) (worked c (loaded f))

      word_is : ordered.values 11 ≡ (order x y).word
      unfolding put reg_result
      word_is =
          ap (λ i. (bit_of (nat_lt ((loaded f).values 15) i) + (2 ^ 64 - bit_of (nat_lt i ((loaded f).values 15)))) % 2
          ^
          64)
          first_is
          ∙ ap (λ i. (bit_of (nat_lt i x) + (2 ^ 64 - bit_of (nat_lt x i))) % 2 ^ 64) second_is ∙ order_is x y

      -- they differ
      differ : x ≢ y
          → Reaches c C (7 * pairs_compared (x ∷ xs) (y ∷ ys)) (Goes 25 f) 35 (Orders (order_of (x ∷ xs) (y ∷ ys)))
      differ ne =
          let one : pairs_compared (x ∷ xs) (y ∷ ys) ≡ 1 =
          ap (λ b. if b then 1 + pairs_compared xs ys else 1) (ne_eqb x y ne) in
          let is : order_of (x ∷ xs) (y ∷ ys) ≡ order x y = ap (λ b. if b then order_of xs ys else order x y)
          (ne_eqb x y ne) in
          let Q = Orders (order x y) in
          subst (λ v. Reaches c C (7 * pairs_compared (x ∷ xs) (y ∷ ys)) (Goes 25 f) 35 (Orders v)) (sym is)
          (weaken c C 6 (7 * pairs_compared (x ∷ xs) (y ∷ ys)) (Goes 25 f) 35 Q Q (omega arith) (λ o r. r)
          (line_on c C (pair_code 12 13 14 15) 4 25 f 35 Q may_load (has.0, (has.1.0, tt))
          (branch c C 3 27 (loaded f) Bne 14 (Register 15) 4 35 Q has.1.1.0
          (λ t. line_on c C (order_code 14 15 12 13 11) 0 32 (worked c (loaded f)) 35 Q (tt, (tt, (tt, tt)))
          (has_order line)
          (arrived c C 0 ordered 35 35 Q refl (record {
            memory = h.memory;
            shows = shows_on f0 f ordered h.shows refl refl refl refl refl;
            given = word_is;
          })))
          (λ t. absurd (ne (sym first_is ∙ if_alike _ _ t ∙ second_is))))))

      module _ (e : x ≡ y) where
        more_pairs : pairs_compared (x ∷ xs) (y ∷ ys) ≡ 1 + pairs_compared xs ys
        more_pairs = ap (λ b. if b then 1 + pairs_compared xs ys else 1) (eq-eqb x y e)

        more_order : order_of (x ∷ xs) (y ∷ ys) ≡ order_of xs ys
        more_order = ap (λ b. if b then order_of xs ys else order x y) (eq-eqb x y e)

        cursor_is : (stepped f).values 12 ≡ p + 1
        unfolding put reg_result
        cursor_is = let s = h.first.small in let q = h.cursor in omega arith

        other_is : (stepped f).values 13 ≡ q + 1
        unfolding put reg_result
        other_is = let s = h.second.small in let q = h.other in omega arith

        kept : ((stepped f).values 16 ≡ p + suc (length xs)) × ((stepped f).values 11 ≡ 0)
        unfolding put
        kept = (h.end, h.none)

        -- up to the test of the end
        equal : (Q : Outcome → Type 0) (B : ℕ) → Reaches c C B (Goes 30 (stepped f)) 35 Q
            → Reaches c C (5 + B) (Goes 25 f) 35 Q
        equal Q B r =
            let n5 : 2 + suc (2 + B) ≡ 5 + B = omega arith in
            subst (λ z. Reaches c C z (Goes 25 f) 35 Q) n5
            (line_on c C (pair_code 12 13 14 15) (suc (2 + B)) 25 f 35 Q may_load (has.0, (has.1.0, tt))
            (branch c C (2 + B) 27 (loaded f) Bne 14 (Register 15) 4 35 Q has.1.1.0
            (λ t. absurd (if_apart _ _ t (first_is ∙ e ∙ sym second_is)))
            (λ t. line_on c C (Operate Add 12 12 (Number 1) ∷ Operate Add 13 13 (Number 1) ∷ []) B 28
            (worked c (loaded f)) 35
            Q (tt, (tt, tt)) (has.1.1.1.0, (has.1.1.1.1.0, tt)) r)))

        -- none are left
        last : xs ≡ []
            → Reaches c C (7 * pairs_compared (x ∷ xs) (y ∷ ys)) (Goes 25 f) 35 (Orders (order_of (x ∷ xs) (y ∷ ys)))
        last none =
            let is : order_of (x ∷ xs) (y ∷ ys) ≡ integer 0 = more_order ∙ ap (λ l. order_of l ys) none in
            let n = more_pairs in let Q = Orders (integer 0) in
            let count : length xs ≡ 0 = ap length none in
            let cursor = cursor_is in let end = kept.0 in
            subst (λ v. Reaches c C (7 * pairs_compared (x ∷ xs) (y ∷ ys)) (Goes 25 f) 35 (Orders v)) (sym is)
            (weaken c C 6 (7 * pairs_compared (x ∷ xs) (y ∷ ys)) (Goes 25 f) 35 Q Q (omega arith) (λ o r. r)
            (equal Q 1
            (branch c C 0 30 (stepped f) Beq 12 (Register 16) 4 35 Q has.1.1.1.1.1.0
            (λ t. arrived c C 0 (worked c (stepped f)) 35 35 Q refl (record {
              memory = h.memory;
              shows = shows_on f0 f (worked c (stepped f)) h.shows refl refl refl refl refl;
              given = kept.1;
            }))
            (λ t. absurd (if_unequal _ _ t (omega arith))))))

        further : 1 ≤ length xs
            → Reaches c C (7 * pairs_compared xs ys) (Goes 25 (worked c (worked c (stepped f)))) 35
            (Orders (order_of xs ys))
            → Reaches c C (7 * pairs_compared (x ∷ xs) (y ∷ ys)) (Goes 25 f) 35 (Orders (order_of (x ∷ xs) (y ∷ ys)))
        further some r =
            let n = more_pairs in let Q = Orders (order_of xs ys) in
            let cursor = cursor_is in let end = kept.0 in
            let B = 7 * pairs_compared xs ys in
            subst (λ v. Reaches c C (7 * pairs_compared (x ∷ xs) (y ∷ ys)) (Goes 25 f) 35 (Orders v)) (sym more_order)
            (weaken c C (5 + suc (suc B)) (7 * pairs_compared (x ∷ xs) (y ∷ ys)) (Goes 25 f) 35 Q Q (omega arith)
            (λ o r. r)
            (equal Q (suc (suc B))
            (branch c C (suc B) 30 (stepped f) Beq 12 (Register 16) 4 35 Q has.1.1.1.1.1.0
            (λ t. absurd (let same = if_equal _ _ t in omega arith))
            (λ t. jump_back c C B 31 6 25 (worked c (stepped f)) 35 Q has.1.1.1.1.1.1.0 refl r))))

        next_ranged : AreRanged xs ys (p + 1) (q + 1) (worked c (worked c (stepped f)))
        next_ranged =
            let long = h.long in let end = kept.0 in
            record {
              long = omega arith;
              first = later x xs p h.first;
              second = later y ys q h.second;
              cursor = cursor_is;
              other = other_is;
              end = omega arith;
              none = kept.1;
              memory = h.memory;
              shows = shows_on f0 f (worked c (worked c (stepped f))) h.shows refl refl refl refl refl;
            }

  compares : (x : ℕ) (xs : List ℕ) (y : ℕ) (ys : List ℕ) (p q : ℕ) (f : State) → AreRanged (x ∷ xs) (y ∷ ys) p q f
      → Reaches c C (7 * pairs_compared (x ∷ xs) (y ∷ ys)) (Goes 25 f) 35 (Orders (order_of (x ∷ xs) (y ∷ ys)))
  compares x [] y ys p q f h = ⊎_elim (λ e. last x [] y ys p q f h e refl) (differ x [] y ys p q f h) (cases_eq x y)
  compares x (x' ∷ xs) y [] p q f h = absurd (let long = h.long in omega arith)
  compares x (x' ∷ xs) y (y' ∷ ys) p q f h = ⊎_elim
      (λ e. further x (x' ∷ xs) y (y' ∷ ys) p q f h e (omega arith)
      (compares x' xs y' ys (p + 1) (q + 1) (worked c (worked c (stepped f)))
      (next_ranged x (x' ∷ xs) y (y' ∷ ys) p q f h e)))
      (differ x (x' ∷ xs) y (y' ∷ ys) p q f h) (cases_eq x y)

  pub compares_ranges : (xs ys : List ℕ) (p q : ℕ) (f : State) → 1 ≤ length xs → AreRanged xs ys p q f
      → Reaches c C (7 * pairs_compared xs ys) (Goes 25 f) 35 (Orders (order_of xs ys))
  compares_ranges [] ys p q f some h = absurd (omega arith)
  compares_ranges (x ∷ xs) [] p q f some h = absurd (let long = h.long in omega arith)
  compares_ranges (x ∷ xs) (y ∷ ys) p q f some h = compares x xs y ys p q f h
