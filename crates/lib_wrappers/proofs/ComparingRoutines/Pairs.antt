-- `strcmp` alone: pairs of bytes are compared as in the source.
use Rattle.std.proofs.Common.{◌≡◌, ◌≢◌, ℕ, zero, suc, ◌+◌, ◌-◌, ◌*◌, ◌%◌, ◌^◌, ◌<◌, ◌≤◌, ⊎_elim, List, [], ◌∷◌, ◌++◌}
use Rattle.std.proofs.Common.{Bool, true, false, ◌==◌, ◌&&◌, not, if◌then◌else◌, refl, sym, ap, ◌∙◌, subst, arith}
use Rattle.std.specs.Prelude.{nat_lt, nat_le}
use Rattle.std.proofs.lemmas.Bool.{cases_eq, eq-eqb, ne_eqb, ltb-true, le-ltb, lt-leb, and_right}
use Rattle.std.proofs.lemmas.Bool.{cond-false}
use Rattle.sb_base.specs.declared.ending.Ending.TheVariants.{Spatial}
use Rattle.addr_map.specs.Places.{MapSizes}
use Rattle.rv_isa.specs.declared.instruction.BranchOp.TheVariants.{Beq, Bne}
use Rattle.rv_isa.specs.declared.instruction.RegOp.TheVariants.{Add}
use Rattle.rv_isa.specs.Results.{reg_result, extended, bit_of}
use Rattle.obj_memory.specs.declared.value.Bounds.{Bounds}
use Rattle.obj_memory.specs.declared.value.Tag.TheVariants.{OfObject}
use Rattle.obj_memory.specs.declared.value.Value.{Value}
use Rattle.obj_memory.specs.declared.judgement.Verdict.TheVariants.{Outside as Out}
use Rattle.obj_memory.specs.Judgement.{judged, judge, moved}
use Rattle.obj_memory.specs.Operators.{one_if}
use Rattle.obj_memory.specs.Sound.{IsSound}
use Rattle.source_meaning.specs.State.{State as Source, Outcome as Completed, Gives, Ended, Run, on, done, choose}
use Rattle.source_meaning.specs.Acting.{at_work, state_of}
use Rattle.source_meaning.specs.Bytes.{look, order}
use Rattle.source_meaning.specs.Strings.{go_on, compare_within}
use Rattle.flat_code.specs.declared.instruction.RightOperand.TheVariants.{Register, Number}
use Rattle.flat_code.specs.declared.instruction.FlatInstruction.{FlatInstruction}
use Rattle.flat_code.specs.declared.instruction.FlatInstruction.TheVariants.{Move, Operate}
use Rattle.flat_code.specs.Memory.{put, load}
use Rattle.flat_code.specs.Spaces.{is_allowed}
use Rattle.flat_code.specs.State.{State}
use Rattle.flat_code.specs.Meaning.{Context, Goes}
use Rattle.flat_code.specs.declared.registers.Held.{Held}
use Rattle.flat_code.specs.Routines.Routine.{HasAt, Outcome, Reaches}
use Rattle.flat_code.specs.Routines.Effects.{worked, effects, AreAllowed}
use Rattle.flat_code.specs.Routines.Metadata.{ShowsNothing}
use Rattle.flat_code.proofs.Routines.Steps.{has_self, has_front, has_back}
use Rattle.flat_code.proofs.Routines.Rules.{weaken, line_on, branch, jump_back, arrived, ended}
use Rattle.flat_code.proofs.Routines.Branches.{if_equal, if_unequal, if_apart, if_alike}
use Rattle.flat_code.proofs.Routines.Words.{byte_loaded}
use Rattle.flat_code.proofs.Routines.Showing.{shows_on}
use Rattle.flat_code.specs.Routines.Objects.StandsFor.{Views, Keys}
use Rattle.shadow_space.proofs.Entries.{context_of}
use Rattle.flat_actions.specs.Judgement.Code.{judge_code}
use Rattle.flat_actions.specs.Actions.{Word}
use Rattle.lib_wrappers.specs.ComparingRoutines.Answering.{IsAnswered, IsWorking}
use Rattle.lib_wrappers.specs.ComparingRoutines.Comparing.{order_code, pair_code, string_loop, strcmp_code}
use Rattle.flat_actions.proofs.Looking.{looked, looked_by, moved_tag, moved_word}
use Rattle.lib_wrappers.proofs.ComparingRoutines.Looks.{byte_of, AreBytesOf}

-- ---- how two bytes compare

order_by : (less greater : Bool) → (less ≡ true → greater ≡ false)
    → (bit_of greater + (2 ^ 64 - bit_of less)) % 2 ^ 64 ≡ (if less then 2 ^ 64 - 1 else one_if greater)
order_by true true h = absurd (let e = h refl in cc)
order_by true false h = refl
order_by false true h = refl
order_by false false h = refl

pub order_is : (x y : ℕ) → (bit_of (nat_lt y x) + (2 ^ 64 - bit_of (nat_lt x y))) % 2 ^ 64 ≡ (order x y).word
order_is x y = order_by (nat_lt x y) (nat_lt y x) (λ e. le-ltb y x (let l = ltb-true x y e in omega arith))

-- ---- the source at the end of bounds

-- a byte behind the bound is refused
refused_behind : (x : Source) (n : ℕ) (b : Bounds) (v : Value) (line : ℕ) → v.tag ≡ OfObject n b → b.bound < v.word + 1
    → look v line x ≡ Ended (Spatial line) x
unfolding judge
refused_behind x n b v line tag l =
    looked_by x v line Out
    (ap (λ t. judged 1 t v.word x.objects) tag
    ∙ cond-false (nat_le b.base v.word && nat_le (v.word + 1) b.bound) _ Out
    (and_right (nat_le b.base v.word) (nat_le (v.word + 1) b.bound) (lt-leb (v.word + 1) b.bound l)))

-- ---- the registers of the routine alone: 0 to 4 and 5 to 9 the strings, 10 the result, 11 and 12 the cursors, 13 and
-- 14
-- the bytes

abbrev pub own_left : Held
own_left = record { value = 0; tag = record { base = 1; bound = 2; key = 3; lock = 4 } }

abbrev pub own_right : Held
own_right = record { value = 5; tag = record { base = 6; bound = 7; key = 8; lock = 9 } }

abbrev pub own_strcmp : (line : ℕ) → List FlatInstruction
own_strcmp line = strcmp_code own_left own_right 10 line 11 12 13 14

abbrev pub string_end : (line : ℕ) → List FlatInstruction
string_end line = string_loop 11 12 2 7 line 13 14 ++ order_code 13 14 11 12 10

abbrev pub behind_right : (line : ℕ) → List FlatInstruction
behind_right line = Move 11 0 ∷ Move 12 5 ∷ string_end line

abbrev pub behind_left : (line : ℕ) → List FlatInstruction
behind_left line = judge_code own_right 13 line 14 ++ behind_right line

pub has_left : (line : ℕ) → HasAt (own_strcmp line) 1 (judge_code own_left 13 line 14)
has_left line =
    has_front (own_strcmp line) 1 (judge_code own_left 13 line 14) (behind_left line) (has_self (own_strcmp line)).1

has_behind_left : (line : ℕ) → HasAt (own_strcmp line) 11 (behind_left line)
has_behind_left line =
    has_back (own_strcmp line) 1 (judge_code own_left 13 line 14) (behind_left line) (has_self (own_strcmp line)).1

pub has_right : (line : ℕ) → HasAt (own_strcmp line) 11 (judge_code own_right 13 line 14)
has_right line =
    has_front (own_strcmp line) 11 (judge_code own_right 13 line 14) (behind_right line) (has_behind_left line)

pub has_cursors : (line : ℕ) → HasAt (own_strcmp line) 21 (behind_right line)
has_cursors line =
    has_back (own_strcmp line) 11 (judge_code own_right 13 line 14) (behind_right line) (has_behind_left line)

has_loop : (line : ℕ) → HasAt (own_strcmp line) 23 (string_loop 11 12 2 7 line 13 14)
has_loop line =
    has_front (own_strcmp line) 23 (string_loop 11 12 2 7 line 13 14) (order_code 13 14 11 12 10) (has_cursors line).1.1

has_order : (line : ℕ) → HasAt (own_strcmp line) 34 (order_code 13 14 11 12 10)
has_order line =
    has_back (own_strcmp line) 23 (string_loop 11 12 2 7 line 13 14) (order_code 13 14 11 12 10) (has_cursors line).1.1

module _ (map : MapSizes) (charge weight line : ℕ) (g : Views) (k : Keys) (functions : ℕ) (x0 : Source) (n : ℕ)
    (b : Bounds)
    (n' : ℕ) (b' : Bounds) (f0 : State) (sound : IsSound functions x0.objects)
    (bytes : AreBytesOf map x0.objects n b f0.memory) (bytes' : AreBytesOf map x0.objects n' b' f0.memory) where
  abbrev c : Context
  c = context_of map true charge weight

  abbrev C : List FlatInstruction
  C = own_strcmp line

  -- so many bytes are left behind those at the cursors
  pub record ArePaired (left left' : ℕ) (p q : Value) (f : State) : Type 0 where
    pub tag : p.tag ≡ OfObject n b
    pub from : b.base ≤ p.word
    pub left_is : p.word + suc left ≡ b.bound
    pub tag' : q.tag ≡ OfObject n' b'
    pub from' : b'.base ≤ q.word
    pub left_is' : q.word + suc left' ≡ b'.bound
    pub cursor : f.values 11 ≡ p.word
    pub other : f.values 12 ≡ q.word
    pub bound : f.values 2 ≡ b.bound
    pub other_bound : f.values 7 ≡ b'.bound
    pub memory : f.memory ≡ f0.memory
    pub shows : ShowsNothing f0 f

  abbrev run : (left w : ℕ) → (p q : Value) → Completed Value
  run left w p q = compare_within (suc left) p q line (at_work w x0)

  abbrev A : Completed Value → Outcome → Type 0
  A = IsAnswered g k (Word 10) x0 f0

  pub record Compares (left w : ℕ) (p q : Value) (f : State) : Type 0 where
    pub spent : ℕ
    pub work : (state_of (run left w p q)).work ≡ w + spent
    pub reaches : Reaches c C (5 * spent) (Goes 23 f) 37 (A (run left w p q))

  abbrev loaded : State → State
  loaded f = effects c (pair_code 11 12 13 14) f

  -- the first cursor one byte on, and both
  abbrev stepped : State → State
  stepped f = effects c (Operate Add 11 11 (Number 1) ∷ []) (worked c (worked c (loaded f)))

  abbrev both_stepped : State → State
  both_stepped f = effects c (Operate Add 12 12 (Number 1) ∷ []) (worked c (stepped f))

  module _ (left left' w : ℕ) (p q : Value) (f : State) (h : ArePaired left left' p q f) where
    abbrev x : ℕ
    x = byte_of x0.objects n p.word

    abbrev y : ℕ
    y = byte_of x0.objects n' q.word

    abbrev x2 : Source
    x2 = at_work (w + 1 + 1) x0

    abbrev rest : Run Value
    rest = compare_within left (moved 1 p) (moved 1 q) line

    looks : run left w p q ≡ choose (go_on x y) rest (done (order x y)) x2
    looks =
        let l = h.left_is in let l' = h.left_is' in
        ap (λ r. on r (λ z s. on (look q line s) (λ u. choose (go_on z u) rest (done (order z u)))))
        (looked functions (at_work w x0) n b p line sound h.tag bytes.live h.from (omega arith))
        ∙ ap (λ r. on r (λ u. choose (go_on x u) rest (done (order x u))))
        (looked functions (at_work (w + 1) x0) n' b' q line sound h.tag' bytes'.live h.from' (omega arith))

    at_first : (f.values 11 + 0) % 2 ^ 64 ≡ p.word
    at_first = let l = h.left_is in let s = bytes.small in let e = h.cursor in omega arith

    at_second : (f.values 12 + 0) % 2 ^ 64 ≡ q.word
    at_second = let l = h.left_is' in let s = bytes'.small in let e = h.other in omega arith

    first_is : (loaded f).values 13 ≡ x
    unfolding put extended
    first_is =
        let l = h.left_is in
        ap (load 1 f.memory) at_first ∙ byte_loaded f.memory p.word ∙ ap (λ m. m p.word) h.memory
        ∙ bytes.there p.word h.from (omega arith)

    second_is : (loaded f).values 14 ≡ y
    unfolding put extended
    second_is =
        let l = h.left_is' in
        ap (load 1 f.memory) at_second ∙ byte_loaded f.memory q.word ∙ ap (λ m. m q.word) h.memory
        ∙ bytes'.there q.word h.from' (omega arith)

    may_load : AreAllowed c (pair_code 11 12 13 14) f
    unfolding put
    may_load =
        let l = h.left_is in let l' = h.left_is' in (
          ap (λ a. is_allowed map a 1) at_first ∙ bytes.allowed p.word h.from (omega arith),
          (ap (λ a. is_allowed map a 1) at_second ∙ bytes'.allowed q.word h.from' (omega arith), tt),
        )

    working : (i : ℕ) → IsWorking x0 (at_work i x0)
    working i = record { work = i; same = refl }

    has : HasAt C 23 (string_loop 11 12 2 7 line 13 14)
    has = has_loop line

    -- the order of both bytes is given, from a state with both in their registers
    ordered : (z : State) → z.values 13 ≡ x → z.values 14 ≡ y → z.memory ≡ f.memory → ShowsNothing f0 z
        → run left w p q ≡ Gives (order x y) x2 → Reaches c C 3 (Goes 34 z) 37 (A (run left w p q))
    unfolding put reg_result
    ordered z first second memory shows is =
        let end = effects c (order_code 13 14 11 12 10) z in
        let word : end.values 10 ≡ (order x y).word =
        ap (λ i. (bit_of (nat_lt (z.values 14) i) + (2 ^ 64 - bit_of (nat_lt i (z.values 14)))) % 2 ^ 64) first
        ∙ ap (λ i. (bit_of (nat_lt i x) + (2 ^ 64 - bit_of (nat_lt x i))) % 2 ^ 64) second ∙ order_is x y in
        subst (λ r. Reaches c C 3 (Goes 34 z) 37 (A r)) (sym is)
        (line_on c C (order_code 13 14 11 12 10) 0 34 z 37 (A (Gives (order x y) x2)) (tt, (tt, (tt, tt)))
        (has_order line)
        (arrived c C 0 end 37 37 _ refl (record {
          source = working (w + 1 + 1);
          memory = memory ∙ h.memory;
          shows = record {
            input = shows.input;
            output = shows.output;
            taken = shows.taken;
            accesses = shows.accesses;
            turns = shows.turns;
          };
          given = word;
        })))

    differ : x ≢ y → Compares left w p q f
    differ ne =
        let is : run left w p q ≡ Gives (order x y) x2 =
        looks ∙ ap (λ z. choose (z && not (x == 0)) rest (done (order x y)) x2) (ne_eqb x y ne) in
        record {
          spent = 2;
          work = ap (λ r. (state_of r).work) is ∙ omega arith;
          reaches = line_on c C (pair_code 11 12 13 14) 8 23 f 37 (A (run left w p q)) may_load (has.0, (has.1.0, tt))
              (branch c C 7 25 (loaded f) Bne 13 (Register 14) 8 37 (A (run left w p q)) has.1.1.0
              (λ t. weaken c C 3 7 (Goes 34 (worked c (loaded f))) 37 _ _ (omega arith) (λ o r. r)
              (ordered (worked c (loaded f)) first_is second_is refl
              (shows_on f0 f _ h.shows refl refl refl refl refl) is))
              (λ t. absurd (ne (sym first_is ∙ if_alike _ _ t ∙ second_is))));
        }

    both_end : x ≡ y → x ≡ 0 → Compares left w p q f
    both_end e z =
        let is : run left w p q ≡ Gives (order x y) x2 =
        looks ∙ ap (λ i. choose (i && not (x == 0)) rest (done (order x y)) x2) (eq-eqb x y e)
        ∙ ap (λ i. choose (not i) rest (done (order x y)) x2) (eq-eqb x 0 z) in
        record {
          spent = 2;
          work = ap (λ r. (state_of r).work) is ∙ omega arith;
          reaches = line_on c C (pair_code 11 12 13 14) 8 23 f 37 (A (run left w p q)) may_load (has.0, (has.1.0, tt))
              (branch c C 7 25 (loaded f) Bne 13 (Register 14) 8 37 (A (run left w p q)) has.1.1.0
              (λ t. absurd (if_apart _ _ t (first_is ∙ e ∙ sym second_is)))
              (λ t. branch c C 6 26 (worked c (loaded f)) Beq 13 (Number 0) 7 37 (A (run left w p q)) has.1.1.1.0
              (λ t2. weaken c C 3 6 (Goes 34 (worked c (worked c (loaded f)))) 37 _ _ (omega arith) (λ o r. r)
              (ordered (worked c (worked c (loaded f))) first_is second_is refl
              (shows_on f0 f _ h.shows refl refl refl refl refl) is))
              (λ t2. absurd (if_unequal _ _ t2 (first_is ∙ z)))));
        }

    -- equal bytes, up to the test of the first bound
    module _ (e : x ≡ y) (nz : x ≢ 0) where
      goes_on : run left w p q ≡ rest x2
      goes_on =
          looks ∙ ap (λ i. choose (i && not (x == 0)) rest (done (order x y)) x2) (eq-eqb x y e)
          ∙ ap (λ i. choose (not i) rest (done (order x y)) x2) (ne_eqb x 0 nz)

      equal : (Q : Outcome → Type 0) (B : ℕ) → Reaches c C B (Goes 28 (stepped f)) 37 Q
          → Reaches c C (5 + B) (Goes 23 f) 37 Q
      equal Q B r =
          let n5 : 2 + suc (suc (1 + B)) ≡ 5 + B = omega arith in
          subst (λ z. Reaches c C z (Goes 23 f) 37 Q) n5
          (line_on c C (pair_code 11 12 13 14) (suc (suc (1 + B))) 23 f 37 Q may_load (has.0, (has.1.0, tt))
          (branch c C (suc (1 + B)) 25 (loaded f) Bne 13 (Register 14) 8 37 Q has.1.1.0
          (λ t. absurd (if_apart _ _ t (first_is ∙ e ∙ sym second_is)))
          (λ t. branch c C (1 + B) 26 (worked c (loaded f)) Beq 13 (Number 0) 7 37 Q has.1.1.1.0
          (λ t2. absurd (nz (sym first_is ∙ if_equal _ _ t2)))
          (λ t2. line_on c C (Operate Add 11 11 (Number 1) ∷ []) B 27 (worked c (worked c (loaded f))) 37 Q (tt, tt)
          (has.1.1.1.1.0, tt) r))))

      cursor_is : (stepped f).values 11 ≡ p.word + 1
      unfolding put reg_result
      cursor_is = let l = h.left_is in let s = bytes.small in let q = h.cursor in omega arith

      bound_is : (stepped f).values 2 ≡ b.bound
      unfolding put
      bound_is = h.bound

      other_is : (both_stepped f).values 12 ≡ q.word + 1
      unfolding put reg_result
      other_is = let l = h.left_is' in let s = bytes'.small in let q = h.other in omega arith

      kept_is : (both_stepped f).values 11 ≡ (stepped f).values 11
      unfolding put
      kept_is = refl

      bounds_are : ((both_stepped f).values 2 ≡ b.bound) × ((both_stepped f).values 7 ≡ b'.bound)
      unfolding put
      bounds_are = (h.bound, h.other_bound)

      -- the first string ends
      first_ends : left ≡ 0 → Compares left w p q f
      first_ends none =
          let is : run left w p q ≡ Ended (Spatial line) x2 =
          goes_on ∙ ap (λ i. compare_within i (moved 1 p) (moved 1 q) line x2) none in
          let Q = A (Ended (Spatial line) x2) in
          let at = h.left_is in let cursor = cursor_is in let bound = bound_is in
          record {
            spent = 2;
            work = ap (λ r. (state_of r).work) is ∙ omega arith;
            reaches = subst (λ r. Reaches c C 10 (Goes 23 f) 37 (A r)) (sym is)
                (equal Q 5
                (branch c C 4 28 (stepped f) Bne 11 (Register 2) 1 37 Q has.1.1.1.1.1.0
                (λ t. absurd (if_apart _ _ t (omega arith)))
                (λ t. ended c C 3 (Spatial line) (worked c (stepped f)) 29 37 Q has.1.1.1.1.1.1.0 (
                  refl,
                  refl,
                  working (w + 1 + 1),
                  record { memory = h.memory; shows = shows_on f0 f _ h.shows refl refl refl refl refl },
                ))));
          }

      -- up to the test of the second bound
      first_more : (j : ℕ) → left ≡ suc j → (Q : Outcome → Type 0) (B : ℕ)
          → Reaches c C B (Goes 31 (both_stepped f)) 37 Q → Reaches c C (7 + B) (Goes 23 f) 37 Q
      first_more j more Q B r =
          let n7 : 5 + suc (1 + B) ≡ 7 + B = omega arith in
          let at = h.left_is in let cursor = cursor_is in let bound = bound_is in
          subst (λ z. Reaches c C z (Goes 23 f) 37 Q) n7
          (equal Q (suc (1 + B))
          (branch c C (1 + B) 28 (stepped f) Bne 11 (Register 2) 1 37 Q has.1.1.1.1.1.0
          (λ t. line_on c C (Operate Add 12 12 (Number 1) ∷ []) B 30 (worked c (stepped f)) 37 Q (tt, tt)
          (has.1.1.1.1.1.1.1.0, tt) r)
          (λ t. absurd (let same = if_alike _ _ t in omega arith))))

      -- the second string ends: a byte of the first is looked at before
      second_ends : (j : ℕ) → left ≡ suc j → left' ≡ 0 → Compares left w p q f
      second_ends j more none =
          let at = h.left_is in let at' = h.left_is' in let small = bytes.small in let small' = bytes'.small in
          let from = h.from in
          let word = moved_word p (omega arith) in
          let is : run left w p q ≡ Ended (Spatial line) (at_work (w + 1 + 1 + 1) x0) =
          goes_on ∙ ap (λ i. compare_within i (moved 1 p) (moved 1 q) line x2) more
          ∙ ap (λ r. on r (λ z s. on (look (moved 1 q) line s) (λ u.
          choose (go_on z u) (compare_within j (moved 1 (moved 1 p)) (moved 1 (moved 1 q)) line) (done (order z u)))))
          (looked functions x2 n b (moved 1 p) line sound (moved_tag p ∙ h.tag) bytes.live (omega arith) (omega arith))
          ∙ second_refused in
          let Q = A (Ended (Spatial line) (at_work (w + 1 + 1 + 1) x0)) in
          let other = other_is in let bounds = bounds_are.1 in
          record {
            spent = 3;
            work = ap (λ r. (state_of r).work) is ∙ omega arith;
            reaches = subst (λ r. Reaches c C 15 (Goes 23 f) 37 (A r)) (sym is)
                (first_more j more Q 8
                (branch c C 7 31 (both_stepped f) Bne 12 (Register 7) 1 37 Q has.1.1.1.1.1.1.1.1.0
                (λ t. absurd (if_apart _ _ t (omega arith)))
                (λ t. ended c C 6 (Spatial line) (worked c (both_stepped f)) 32 37 Q has.1.1.1.1.1.1.1.1.1.0 (
                  refl,
                  refl,
                  working (w + 1 + 1 + 1),
                  record { memory = h.memory; shows = shows_on f0 f _ h.shows refl refl refl refl refl },
                ))));
          }
        where
          second_refused : on (look (moved 1 q) line (at_work (w + 1 + 1 + 1) x0)) (λ u.
              choose (go_on (byte_of x0.objects n (moved 1 p).word) u)
              (compare_within j (moved 1 (moved 1 p)) (moved 1 (moved 1 q)) line)
              (done (order (byte_of x0.objects n (moved 1 p).word) u))) ≡ Ended (Spatial line)
              (at_work (w + 1 + 1 + 1) x0)
          second_refused =
              let at' = h.left_is' in let small' = bytes'.small in
              let word : (moved 1 q).word ≡ q.word + 1 = by_cases in
              ap (λ r. on r (λ u. choose (go_on (byte_of x0.objects n (moved 1 p).word) u)
              (compare_within j (moved 1 (moved 1 p)) (moved 1 (moved 1 q)) line)
              (done (order (byte_of x0.objects n (moved 1 p).word) u))))
              (refused_behind (at_work (w + 1 + 1 + 1) x0) n' b' (moved 1 q) line (moved_tag q ∙ h.tag') (omega arith))
            where
              by_cases : (moved 1 q).word ≡ q.word + 1
              by_cases = let at' = h.left_is' in let small' = bytes'.small in moved_word q (omega arith)

      further : (j j' : ℕ) → left ≡ suc j → left' ≡ suc j'
          → Compares j (w + 1 + 1) (moved 1 p) (moved 1 q) (worked c (worked c (both_stepped f)))
          → Compares left w p q f
      further j j' more more' r =
          let is : run left w p q ≡ run j (w + 1 + 1) (moved 1 p) (moved 1 q) =
          goes_on ∙ ap (λ i. compare_within i (moved 1 p) (moved 1 q) line x2) more in
          let Q = A (run j (w + 1 + 1) (moved 1 p) (moved 1 q)) in
          let at' = h.left_is' in let other = other_is in let bounds = bounds_are.1 in
          let work = r.work in
          record {
            spent = 2 + r.spent;
            work = ap (λ z. (state_of z).work) is ∙ work ∙ omega arith;
            reaches = subst (λ z. Reaches c C (5 * (2 + r.spent)) (Goes 23 f) 37 (A z)) (sym is)
                (weaken c C (7 + suc (suc (5 * r.spent))) (5 * (2 + r.spent)) (Goes 23 f) 37 Q Q (omega arith)
                (λ o i. i)
                (first_more j more Q (suc (suc (5 * r.spent)))
                (branch c C (suc (5 * r.spent)) 31 (both_stepped f) Bne 12 (Register 7) 1 37 Q has.1.1.1.1.1.1.1.1.0
                (λ t. jump_back c C (5 * r.spent) 33 10 23 (worked c (both_stepped f)) 37 Q has.1.1.1.1.1.1.1.1.1.1.0
                refl
                r.reaches)
                (λ t. absurd (let same = if_alike _ _ t in omega arith)))));
          }

      next_pair : (j j' : ℕ) → left ≡ suc j → left' ≡ suc j'
          → ArePaired j j' (moved 1 p) (moved 1 q) (worked c (worked c (both_stepped f)))
      next_pair j j' more more' =
          let at = h.left_is in let at' = h.left_is' in let small = bytes.small in let small' = bytes'.small in
          let from = h.from in let from' = h.from' in
          let word = moved_word p (omega arith) in let word' = moved_word q (omega arith) in
          let cursor = cursor_is in let other = other_is in let kept = kept_is in
          record {
            tag = moved_tag p ∙ h.tag;
            from = omega arith;
            left_is = omega arith;
            tag' = moved_tag q ∙ h.tag';
            from' = omega arith;
            left_is' = omega arith;
            cursor = omega arith;
            other = omega arith;
            bound = bounds_are.0;
            other_bound = bounds_are.1;
            memory = h.memory;
            shows = shows_on f0 f _ h.shows refl refl refl refl refl;
          }

    turn : ((j j' : ℕ) → left ≡ suc j → ArePaired j j' (moved 1 p) (moved 1 q) (worked c (worked c (both_stepped f)))
        → Compares j (w + 1 + 1) (moved 1 p) (moved 1 q) (worked c (worked c (both_stepped f)))) → Compares left w p q f
    turn again = ⊎_elim
        (λ e. ⊎_elim (both_end e) (λ nz. on_left e nz left left' refl refl) (cases_eq x 0)) differ (cases_eq x y)
      where
        on_left : x ≡ y → x ≢ 0 → (i i' : ℕ) → left ≡ i → left' ≡ i' → Compares left w p q f
        on_left e nz zero i' l l' = first_ends e nz l
        on_left e nz (suc j) zero l l' = second_ends e nz j l l'
        on_left e nz (suc j) (suc j') l l' = further e nz j j' l l' (again j j' l (next_pair e nz j j' l l'))

  pub compares : (left left' w : ℕ) (p q : Value) (f : State) → ArePaired left left' p q f → Compares left w p q f
  compares zero left' w p q f h = turn zero left' w p q f h (λ j j' e i. absurd (omega (arith, e)))
  compares (suc left) left' w p q f h = turn (suc left) left' w p q f h (λ j j' e i.
      let same : left ≡ j = omega (arith, e) in
      subst (λ z. Compares z (w + 1 + 1) (moved 1 p) (moved 1 q) (worked c (worked c (both_stepped f)))) same
      (compares left j' (w + 1 + 1) (moved 1 p) (moved 1 q) (worked c (worked c (both_stepped f)))
      (subst (λ z. ArePaired z j' (moved 1 p) (moved 1 q) (worked c (worked c (both_stepped f)))) (sym same) i)))
