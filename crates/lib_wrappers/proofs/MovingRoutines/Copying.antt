-- The loop that copies cells, in any order in which no cell is read that was written before.
use Rattle.std.proofs.Common.{◌≡◌, ◌≢◌, ℕ, suc, ◌+◌, ◌-◌, ◌*◌, ◌%◌, ◌^◌, ◌<◌, List, [], ◌∷◌, ◌++◌}
use Rattle.std.proofs.Common.{refl, sym, ap, ◌∙◌, subst, arith, ⊎_elim}
use Rattle.std.proofs.lemmas.Bool.{cases_eq}
use Rattle.rv_isa.specs.declared.instruction.BranchOp.TheVariants.{Beq}
use Rattle.rv_isa.specs.declared.instruction.RegOp.TheVariants.{Add, Sub}
use Rattle.rv_isa.specs.Results.{reg_result}
use Rattle.flat_code.specs.declared.instruction.RightOperand.TheVariants.{Register, Number}
use Rattle.flat_code.specs.declared.instruction.FlatInstruction.{FlatInstruction}
use Rattle.flat_code.specs.declared.instruction.FlatInstruction.TheVariants.{Operate}
use Rattle.flat_code.specs.Memory.{put}
use Rattle.flat_code.specs.State.{State}
use Rattle.flat_code.specs.Meaning.{Context}
use Rattle.flat_code.specs.Routines.Registers.{OthersStay}
use Rattle.flat_code.specs.Routines.Routine.{Does, Either, Never}
use Rattle.flat_code.specs.Routines.Effects.{worked}
use Rattle.flat_code.specs.Routines.Metadata.{ShowsNothing}
use Rattle.flat_code.proofs.Routines.Branches.{are_equal, are_not_equal}
use Rattle.flat_code.proofs.Routines.Showing.{shows_both}
use Rattle.lib_wrappers.specs.MovingRoutines.Copying.{Cells, AreCells, HasCopied, IsToCopy, CopiesOne, bump, copy_loop}
use Rattle.lib_wrappers.proofs.MovingRoutines.Steps.{both_quiet, quiet_weaken, until_does, IsGlued, glued}

-- ---- from one cell to the next

record HasBumped (t : ℕ) (s y : State) : Type 0 where
  to_is : y.values (t + 1) ≡ (s.values (t + 1) + s.values (t + 3)) % 2 ^ 64
  from_is : y.values (t + 2) ≡ (s.values (t + 2) + s.values (t + 3)) % 2 ^ 64
  left : y.values t ≡ (s.values t + (2 ^ 64 - 1)) % 2 ^ 64
  step_is : y.values (t + 3) ≡ s.values (t + 3)
  others : OthersStay [] t s y
  memory : y.memory ≡ s.memory
  shows : ShowsNothing s y

abbrev own_bump : List FlatInstruction
own_bump = Operate Add 1 1 (Register 3) ∷ Operate Add 2 2 (Register 3) ∷ Operate Sub 0 0 (Number 1) ∷ []

bumped : (c : Context) (t : ℕ) (s y : State) → IsGlued c [] t 4 own_bump s y → HasBumped t s y
unfolding put reg_result
bumped c t s y g = record {
  to_is = sym (g.values 1 (omega arith));
  from_is = sym (g.values 2 (omega arith));
  left = sym (g.values 0 (omega arith));
  step_is = sym (g.values 3 (omega arith));
  others = g.others;
  memory = ap (λ z. z.memory) g.rest;
  shows = record {
    input = ap (λ z. z.input) g.rest;
    output = ap (λ z. z.output) g.rest;
    taken = ap (λ z. z.taken) g.rest;
    accesses = ap (λ z. z.accesses) g.rest;
    turns = ap (λ z. z.turns) g.rest;
  };
}

-- ---- the loop

-- where the cells stand, in the order in which they are copied
pub record IsOrder (IsCell : ℕ → Type 0) (n step : ℕ) (to from : ℕ → ℕ) : Type 0 where
  pub to_cell : (j : ℕ) → j < n → IsCell (to j)
  pub from_cell : (j : ℕ) → j < n → IsCell (from j)
  pub apart : (i j : ℕ) → i < n → j < n → to i ≡ to j → i ≡ j
  pub unread : (i j : ℕ) → i < j → j < n → to i ≢ from j
  pub to_next : (j : ℕ) → suc j < n → (to j + step) % 2 ^ 64 ≡ to (suc j)
  pub from_next : (j : ℕ) → suc j < n → (from j + step) % 2 ^ 64 ≡ from (suc j)

-- k of n cells are left, since the copying began in a state
pub record Copying (q : Cells) (t n step : ℕ) (to from : ℕ → ℕ) (v : State) (k : ℕ) (s : State) : Type 0 where
  pub done : ℕ
  pub count : done + k ≡ n
  pub left : s.values t ≡ k
  pub to_is : 0 < k → s.values (t + 1) ≡ to done
  pub from_is : 0 < k → s.values (t + 2) ≡ from done
  pub step_is : s.values (t + 3) ≡ step
  pub good : q.IsGood s.memory
  pub changes : q.Changes v.memory s.memory
  pub copied : (j : ℕ) → j < done → q.content s.memory (to j) ≡ q.content v.memory (from j)
  pub stays : (a : ℕ) → q.IsKnown a → ((j : ℕ) → j < done → a ≢ to j) → q.content s.memory a ≡ q.content v.memory a
  pub shows : ShowsNothing v s
  pub others : OthersStay [] t v s

module _ (c : Context) (q : Cells) (are : AreCells q) (t : ℕ) (body : List FlatInstruction) (b : ℕ)
    (copies : CopiesOne c q t b body) (n step : ℕ) (to from : ℕ → ℕ) (order : IsOrder q.IsCell n step to from)
    (small : n < 2 ^ 64) (v : State) where
  abbrev I : ℕ → State → Type 0
  I = Copying q t n step to from v

  turned : (k : ℕ) (s s1 y : State) → I (suc k) s → HasCopied q t s s1 → HasBumped t s1 y → I k y
  turned k s s1 y w h z =
      let d = w.done in
      let count = w.count in
      let less : d < n = omega arith in
      let n0 = h.others t (omega arith) tt in
      let n1 = h.others (t + 1) (omega arith) tt in
      let n2 = h.others (t + 2) (omega arith) tt in
      let n3 = h.others (t + 3) (omega arith) tt in
      let to_d = w.to_is (omega arith) in
      let from_d = w.from_is (omega arith) in
      let at : q.content s1.memory (to d) ≡ q.content v.memory (from d) =
      ap (q.content s1.memory) (sym to_d) ∙ h.copied ∙ ap (q.content s.memory) from_d
      ∙ w.stays (from d) (are.known (from d) (order.from_cell d less)) (λ j l e. order.unread j d l less (sym e)) in
      let same : (a : ℕ) → q.content y.memory a ≡ q.content s1.memory a = λ a. ap (λ x. q.content x a) z.memory in
      record {
        done = suc d;
        count = omega arith;
        left = z.left ∙ ap (λ x. (x + (2 ^ 64 - 1)) % 2 ^ 64) (n0 ∙ w.left) ∙ omega arith;
        to_is = λ some. z.to_is ∙ ap (λ x. (x + s1.values (t + 3)) % 2 ^ 64) (n1 ∙ to_d)
            ∙ ap (λ x. (to d + x) % 2 ^ 64) (n3 ∙ w.step_is) ∙ order.to_next d (omega arith);
        from_is = λ some. z.from_is ∙ ap (λ x. (x + s1.values (t + 3)) % 2 ^ 64) (n2 ∙ from_d)
            ∙ ap (λ x. (from d + x) % 2 ^ 64) (n3 ∙ w.step_is) ∙ order.from_next d (omega arith);
        step_is = z.step_is ∙ n3 ∙ w.step_is;
        good = subst q.IsGood (sym z.memory) h.good;
        changes = subst (q.Changes v.memory) (sym z.memory)
            (are.both v.memory s.memory s1.memory w.changes h.changes);
        copied = λ j l. same (to j) ∙ ⊎_elim
            (λ (e : j ≡ d). subst (λ i. q.content s1.memory (to i) ≡ q.content v.memory (from i)) (sym e) at)
            (λ (ne : j ≢ d).
            h.stays (to j) (are.known (to j) (order.to_cell j (omega arith)))
            (λ e. ne (order.apart j d (omega arith) less (e ∙ to_d)))
            ∙ w.copied j (omega (arith, ne)))
            (cases_eq j d);
        stays = λ a ka out. same a ∙ h.stays a ka (λ e. out d (omega arith) (e ∙ to_d))
            ∙ w.stays a ka (λ j l. out j (omega arith));
        shows = shows_both v s1 y (shows_both v s s1 w.shows h.shows) z.shows;
        others = λ x l none. z.others x l none ∙ h.others x (omega arith) none ∙ w.others x l none;
      }

  one_turn : (k : ℕ) → Does c (body ++ bump t) (I (suc k)) (λ s. b + 3) (λ s. Either (I k) Never)
  one_turn k =
      both_quiet c body (bump t) b 3 (I (suc k)) (HasCopied q t) (λ s s1. Unit {0}) (λ s. IsGlued c [] t 4 own_bump)
      (λ s. I k)
      (quiet_weaken c body b b (IsToCopy q t) (I (suc k)) (HasCopied q t) (HasCopied q t) (omega arith) (ready k)
      (λ s s' w h. h) copies)
      (λ s. glued c [] t 4 own_bump (λ s'. Unit {0}) tt refl (λ s' w p. (tt, (tt, (tt, tt)))))
      (λ s s' w h. tt)
      (λ s s1 y w h g. turned k s s1 y w h (bumped c t s1 y g))
    where
      ready : (k : ℕ) (s : State) → I (suc k) s → IsToCopy q t s
      ready k s w =
          let count = w.count in
          record {
            to_cell = subst q.IsCell (sym (w.to_is (omega arith))) (order.to_cell w.done (omega arith));
            from_cell = subst q.IsCell (sym (w.from_is (omega arith))) (order.from_cell w.done (omega arith));
            good = w.good;
          }

  pub copies_all : Does c (copy_loop t body) (I n) (λ s. n * (b + 5) + 1) (λ s. Either (I 0) Never)
  copies_all =
      let e : n * (b + 3 + 2) + 1 ≡ n * (b + 5) + 1 = omega arith in
      subst (λ x. Does c (copy_loop t body) (I n) (λ s. x) (λ s. Either (I 0) Never)) e
      (until_does c Beq t (Number 0) (body ++ bump t) (b + 3) I one_turn worked_on
      (λ s w. are_equal (s.values t) 0 w.left)
      (λ k s words w. are_not_equal (s.values t) 0 (λ e. let l = w.left in omega arith)) n)
    where
      worked_on : (k : ℕ) (s : State) → I k s → I k (worked c s)
      worked_on k s w = record {
        done = w.done;
        count = w.count;
        left = w.left;
        to_is = w.to_is;
        from_is = w.from_is;
        step_is = w.step_is;
        good = w.good;
        changes = w.changes;
        copied = w.copied;
        stays = w.stays;
        shows = record {
          input = w.shows.input;
          output = w.shows.output;
          taken = w.shows.taken;
          accesses = w.shows.accesses;
          turns = w.shows.turns;
        };
        others = w.others;
      }
