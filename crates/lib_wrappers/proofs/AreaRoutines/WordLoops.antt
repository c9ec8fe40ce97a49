-- The loop over words and entries does what its body does of each.
use Rattle.std.proofs.Common.{◌≡◌, ℕ, suc, ◌+◌, ◌-◌, ◌*◌, ◌%◌, ◌^◌, ◌<◌, ◌≤◌, List, [], ◌++◌}
use Rattle.std.proofs.Common.{refl, sym, ap, ◌∙◌, subst, arith}
use Rattle.rv_isa.specs.declared.instruction.BranchOp.TheVariants.{Beq}
use Rattle.rv_isa.specs.Results.{reg_result}
use Rattle.flat_code.specs.declared.instruction.RightOperand.TheVariants.{Number}
use Rattle.flat_code.specs.declared.instruction.FlatInstruction.{FlatInstruction}
use Rattle.flat_code.specs.Memory.{Bytes, put}
use Rattle.flat_code.specs.State.{State}
use Rattle.flat_code.specs.Meaning.{Context}
use Rattle.flat_code.specs.Routines.Registers.{OthersStay}
use Rattle.flat_code.specs.Routines.Routine.{Does, Either, Never}
use Rattle.flat_code.specs.Routines.Effects.{worked}
use Rattle.flat_code.specs.Routines.Metadata.{ShowsNothing}
use Rattle.flat_code.proofs.Routines.Branches.{are_equal, are_not_equal}
use Rattle.flat_code.proofs.Routines.Showing.{shows_both}
use Rattle.lib_wrappers.proofs.MovingRoutines.Steps.{both_quiet, quiet_weaken, until_does, IsGlued, glued}
use Rattle.lib_wrappers.specs.AreaRoutines.Loops.{stride, word_loop, IsAtWord, HasDoneWord, DoesWord}

-- ---- from one word to the next

record HasStridden (t : ℕ) (s y : State) : Type 0 where
  word : y.values (t + 1) ≡ (s.values (t + 1) + 8) % 2 ^ 64
  entry : y.values (t + 2) ≡ (s.values (t + 2) + 32) % 2 ^ 64
  left : y.values t ≡ (s.values t + (2 ^ 64 - 1)) % 2 ^ 64
  memory : y.memory ≡ s.memory
  shows : ShowsNothing s y
  others : OthersStay [] t s y

abbrev own_stride : List FlatInstruction
own_stride = stride 0

stridden : (c : Context) (t : ℕ) (s y : State) → IsGlued c [] t 3 own_stride s y → HasStridden t s y
unfolding put reg_result
stridden c t s y g = record {
  word = sym (g.values 1 (omega arith));
  entry = sym (g.values 2 (omega arith));
  left = sym (g.values 0 (omega arith));
  memory = ap (λ z. z.memory) g.rest;
  shows = record {
    input = ap (λ z. z.input) g.rest;
    output = ap (λ z. z.output) g.rest;
    taken = ap (λ z. z.taken) g.rest;
    accesses = ap (λ z. z.accesses) g.rest;
    turns = ap (λ z. z.turns) g.rest;
  };
  others = g.others;
}

-- ---- all of them

-- k of n words are left, since the loop began in a state
pub record Going (t p e n : ℕ) (S : ℕ → Bytes → Type 0) (v : State) (k : ℕ) (s : State) : Type 0 where
  pub within : k ≤ n
  pub left : s.values t ≡ k
  pub word : 0 < k → s.values (t + 1) ≡ p + 8 * (n - k)
  pub entry : 0 < k → s.values (t + 2) ≡ e + 32 * (n - k)
  pub so_far : S (n - k) s.memory
  pub shows : ShowsNothing v s
  pub others : OthersStay [] t v s

module _ (c : Context) (t b p e n : ℕ) (S : ℕ → Bytes → Type 0) (body : List FlatInstruction)
    (v : State) (does : DoesWord c t b p e n v S body) (low : n < 2 ^ 64) (word_small : 0 < n → p + 8 * n < 2 ^ 64)
    (entry_small : 0 < n → e + 32 * n < 2 ^ 64) where
  abbrev I : ℕ → State → Type 0
  I = Going t p e n S v

  turned : (k : ℕ) (s s1 y : State) → I (suc k) s → HasDoneWord t (n - suc k) S s s1 → HasStridden t s1 y → I k y
  turned k s s1 y w h z =
      let within = w.within in
      let n0 = h.others t (omega arith) tt in
      let n1 = h.others (t + 1) (omega arith) tt in
      let n2 = h.others (t + 2) (omega arith) tt in
      let at = w.word (omega arith) in
      let there = w.entry (omega arith) in
      let lw = word_small (omega arith) in
      let le = entry_small (omega arith) in
      let l = w.left in
      let zw = z.word in let ze = z.entry in let zl = z.left in
      let next : suc (n - suc k) ≡ n - k = omega arith in
      record {
        within = omega arith;
        left = omega arith;
        word = λ some. omega arith;
        entry = λ some. omega arith;
        so_far = subst (S (n - k)) (sym z.memory) (subst (λ j. S j s1.memory) next h.so_far);
        shows = shows_both v s1 y (shows_both v s s1 w.shows h.shows) z.shows;
        others = λ x l none. z.others x l none ∙ h.others x (omega arith) none ∙ w.others x l none;
      }

  one_turn : (k : ℕ) → Does c (body ++ stride t) (I (suc k)) (λ s. b + 3) (λ s. Either (I k) Never)
  one_turn k = record { from = λ code pc s has w i. (at_turn i.within).from code pc s has w i }
    where
      at_turn : suc k ≤ n → Does c (body ++ stride t) (I (suc k)) (λ s. b + 3) (λ s. Either (I k) Never)
      at_turn l =
          both_quiet c body (stride t) b 3 (I (suc k)) (HasDoneWord t (n - suc k) S) (λ s s1. Unit {0})
          (λ s. IsGlued c [] t 3 own_stride) (λ s. I k)
          (quiet_weaken c body b b (IsAtWord t p e (n - suc k) v S) (I (suc k)) (HasDoneWord t (n - suc k) S)
          (HasDoneWord t (n - suc k) S) (omega arith)
          (λ s w. record { word = w.word (omega arith); entry = w.entry (omega arith); so_far = w.so_far; same = w.others })
          (λ s s' w h. h) (does (n - suc k) (omega arith)))
          (λ s. glued c [] t 3 own_stride (λ s'. Unit {0}) tt refl (λ s' w q. (tt, (tt, (tt, tt)))))
          (λ s s' w h. tt)
          (λ s s1 y w h g. turned k s s1 y w h (stridden c t s1 y g))

  pub words_all : Does c (word_loop t body) (I n) (λ s. n * (b + 5) + 1) (λ s. Either (I 0) Never)
  words_all =
      let steps : n * (b + 3 + 2) + 1 ≡ n * (b + 5) + 1 = omega arith in
      subst (λ x. Does c (word_loop t body) (I n) (λ s. x) (λ s. Either (I 0) Never)) steps
      (until_does c Beq t (Number 0) (body ++ stride t) (b + 3) I one_turn worked_on
      (λ s w. are_equal (s.values t) 0 w.left)
      (λ k s words w. are_not_equal (s.values t) 0 (λ e. let l = w.left in omega arith)) n)
    where
      worked_on : (k : ℕ) (s : State) → I k s → I k (worked c s)
      worked_on k s w = record {
        within = w.within;
        left = w.left;
        word = w.word;
        entry = w.entry;
        so_far = w.so_far;
        shows = record {
          input = w.shows.input;
          output = w.shows.output;
          taken = w.shows.taken;
          accesses = w.shows.accesses;
          turns = w.shows.turns;
        };
        others = w.others;
      }
