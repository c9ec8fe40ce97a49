-- Cells moved as by memmove: upwards or downwards, by one loop.
use Rattle.std.proofs.Common.{◌≡◌, ℕ, suc, ◌+◌, ◌-◌, ◌*◌, ◌%◌, ◌^◌, ◌<◌, ◌≤◌, ◌⊎◌, inl, inr, ⊎_elim, List, []}
use Rattle.std.proofs.Common.{◌∷◌, length, refl, sym, ap, ◌∙◌, subst, arith}
use Rattle.rv_isa.specs.declared.instruction.BranchOp.TheVariants.{Bgeu}
use Rattle.rv_isa.specs.Results.{reg_result}
use Rattle.flat_code.specs.declared.instruction.RightOperand.TheVariants.{Register}
use Rattle.flat_code.specs.declared.instruction.FlatInstruction.{FlatInstruction}
use Rattle.flat_code.specs.declared.instruction.FlatInstruction.TheVariants.{Constant}
use Rattle.flat_code.specs.Memory.{put}
use Rattle.flat_code.specs.State.{State}
use Rattle.flat_code.specs.Words.{IsOfWords}
use Rattle.flat_code.specs.Meaning.{Context, Goes}
use Rattle.flat_code.specs.Routines.Registers.{OthersStay}
use Rattle.flat_code.specs.Routines.Routine.{Does, Either, Never, Reaches, HasAt}
use Rattle.flat_code.specs.Routines.Effects.{worked, effects}
use Rattle.flat_code.specs.Routines.Renaming.{through}
use Rattle.flat_code.specs.Routines.Metadata.{ShowsNothing}
use Rattle.flat_code.proofs.Routines.Steps.{has_self}
use Rattle.flat_code.proofs.Routines.Rules.{branch, line_on, arrived}
use Rattle.flat_code.proofs.Routines.Distinct.{registers_rename, others_stay}
use Rattle.flat_code.proofs.Routines.Wrapped.{routine}
use Rattle.flat_code.proofs.Routines.Branches.{if_not_below, if_below}
use Rattle.shadow_space.proofs.Entries.{agrees_shows, agrees_memory}
use Rattle.lib_wrappers.specs.MovingRoutines.Copying.{CellSize, OneByte, OneWord, unit_of, shift_of, Cells, AreCells}
use Rattle.lib_wrappers.specs.MovingRoutines.Copying.{CopiesOne}
use Rattle.lib_wrappers.specs.MovingRoutines.Copying.{turn_round, choose_order, copy_loop, move_cells, AreRanges}
use Rattle.lib_wrappers.specs.MovingRoutines.Copying.{IsToMoveCells}
use Rattle.lib_wrappers.specs.MovingRoutines.Copying.{HasMovedCells}
use Rattle.lib_wrappers.proofs.MovingRoutines.Steps.{both_quiet, quiet_weaken, named, own_registers, registers_from}
use Rattle.lib_wrappers.proofs.MovingRoutines.Copying.{IsOrder, Copying, copies_all}

-- ---- the order is chosen

-- the place behind the step from the first cell to the last
abbrev last_of : (unit shift count a : ℕ) → ℕ
last_of u h n a = (a + ((n * 2 ^ ((h % 2 ^ 64) % 64)) % 2 ^ 64 + (2 ^ 64 - u % 2 ^ 64)) % 2 ^ 64) % 2 ^ 64

record IsUp (u t : ℕ) (s y : State) : Type 0 where
  below : s.values (t + 1) ≤ s.values (t + 2)
  to_is : y.values (t + 1) ≡ s.values (t + 1)
  from_is : y.values (t + 2) ≡ s.values (t + 2)
  step_is : y.values (t + 3) ≡ u % 2 ^ 64

record IsDown (u h t : ℕ) (s y : State) : Type 0 where
  above : s.values (t + 2) < s.values (t + 1)
  to_is : y.values (t + 1) ≡ last_of u h (s.values t) (s.values (t + 1))
  from_is : y.values (t + 2) ≡ last_of u h (s.values t) (s.values (t + 2))
  step_is : y.values (t + 3) ≡ (2 ^ 64 - u) % 2 ^ 64

record HasChosen (u h t : ℕ) (s y : State) : Type 0 where
  order : IsUp u t s y ⊎ IsDown u h t s y
  left : y.values t ≡ s.values t
  memory : y.memory ≡ s.memory
  shows : ShowsNothing s y
  others : OthersStay [] t s y

-- over the registers of the routine alone
record Chosen (u h : ℕ) (v y : State) : Type 0 where
  order : IsUp u 0 v y ⊎ IsDown u h 0 v y
  left : y.values 0 ≡ v.values 0
  memory : y.memory ≡ v.memory
  shows : ShowsNothing v y

module _ (c : Context) (u h : ℕ) where
  abbrev alone : List FlatInstruction
  alone = choose_order u h 0

  chooses_alone : (v : State) → Reaches c alone 7 (Goes 0 v) 7 (Either (Chosen u h v) Never)
  unfolding put reg_result
  chooses_alone v =
      let has = has_self alone in
      let R = Either (Chosen u h v) Never in
      let y = effects c (Constant 3 u ∷ []) v in
      line_on c alone (Constant 3 u ∷ []) 6 0 v 7 R (tt, tt) (has.0, tt)
      (branch c alone 5 1 y Bgeu 2 (Register 1) 5 7 R has.1.0
      (λ e. arrived c alone 5 (worked c y) 7 7 R refl (record {
        order = inl (record {
          below = if_not_below (v.values 2) (v.values 1) e;
          to_is = refl;
          from_is = refl;
          step_is = refl;
        });
        left = refl;
        memory = refl;
        shows = record { input = refl; output = refl; taken = refl; accesses = refl; turns = refl };
      }))
      (λ e. line_on c alone (turn_round u h 0) 0 2 (worked c y) 7 R (tt, (tt, (tt, (tt, (tt, tt))))) has.1.1
      (arrived c alone 0 (effects c (turn_round u h 0) (worked c y)) 7 7 R refl (record {
        order = inr (record {
          above = if_below (v.values 2) (v.values 1) e;
          to_is = refl;
          from_is = refl;
          step_is = refl;
        });
        left = refl;
        memory = refl;
        shows = record { input = refl; output = refl; taken = refl; accesses = refl; turns = refl };
      }))))

  chooses : (t : ℕ) → Does c (choose_order u h t) (λ s. Unit {0}) (λ s. 7) (λ s. Either (HasChosen u h t s) Never)
  chooses t =
      let r = own_registers [] t 5 tt in
      let f = named [] t 5 in
      routine c 5 0 f alone (λ s. Unit {0}) (registers_rename [] [] (registers_from t 5) t r) refl (λ s. 7)
      (λ s. Chosen u h (through f s)) (λ s. HasChosen u h t s)
      (λ s w seen p. chooses_alone (through f s))
      (λ s s' y w p k agrees only. record {
        order = ⊎_elim
            (λ (i : IsUp u 0 (through f s) y). inl (record {
              below = i.below;
              to_is = sym (agrees.values 1 (omega arith)) ∙ i.to_is;
              from_is = sym (agrees.values 2 (omega arith)) ∙ i.from_is;
              step_is = sym (agrees.values 3 (omega arith)) ∙ i.step_is;
            }))
            (λ (i : IsDown u h 0 (through f s) y). inr (record {
              above = i.above;
              to_is = sym (agrees.values 1 (omega arith)) ∙ i.to_is;
              from_is = sym (agrees.values 2 (omega arith)) ∙ i.from_is;
              step_is = sym (agrees.values 3 (omega arith)) ∙ i.step_is;
            }))
            k.order;
        left = sym (agrees.values 0 (omega arith)) ∙ k.left;
        memory = agrees_memory 5 f y s' agrees ∙ k.memory;
        shows = agrees_shows 5 f y s s' agrees (let z = k.shows in record {
          input = z.input;
          output = z.output;
          taken = z.taken;
          accesses = z.accesses;
          turns = z.turns;
        });
        others = others_stay [] [] (registers_from t 5) t r s s' only;
      })

-- ---- the cells in their order

abbrev up : (z : CellSize) → (a j : ℕ) → ℕ
up z a j = a + unit_of z * j

abbrev down : (z : CellSize) → (n a j : ℕ) → ℕ
down z n a j = a + unit_of z * n - unit_of z * suc j

order_up : (z : CellSize) (IsCell : ℕ → Type 0) (n d s : ℕ) → AreRanges z IsCell n d s → d ≤ s
    → IsOrder IsCell n (unit_of z % 2 ^ 64) (up z d) (up z s)
order_up OneByte IsCell n d s r le = record {
  to_cell = r.to_cells;
  from_cell = r.from_cells;
  apart = λ i j il jl e. omega arith;
  unread = λ i j l jl e. omega arith;
  to_next = λ j l. (let k = r.to_small (omega arith) in omega arith);
  from_next = λ j l. (let k = r.from_small (omega arith) in omega arith);
}
order_up OneWord IsCell n d s r le = record {
  to_cell = r.to_cells;
  from_cell = r.from_cells;
  apart = λ i j il jl e. omega arith;
  unread = λ i j l jl e. omega arith;
  to_next = λ j l. (let k = r.to_small (omega arith) in omega arith);
  from_next = λ j l. (let k = r.from_small (omega arith) in omega arith);
}

order_down : (z : CellSize) (IsCell : ℕ → Type 0) (n d s : ℕ) → AreRanges z IsCell n d s → s < d
    → IsOrder IsCell n ((2 ^ 64 - unit_of z) % 2 ^ 64) (down z n d) (down z n s)
order_down OneByte IsCell n d s r lt = record {
  to_cell = λ j l. (let e : d + 1 * (n - suc j) ≡ down OneByte n d j = omega arith in
      subst IsCell e (r.to_cells (n - suc j) (omega arith)));
  from_cell = λ j l. (let e : s + 1 * (n - suc j) ≡ down OneByte n s j = omega arith in
      subst IsCell e (r.from_cells (n - suc j) (omega arith)));
  apart = λ i j il jl e. omega arith;
  unread = λ i j l jl e. omega arith;
  to_next = λ j l. (let k = r.to_small (omega arith) in omega arith);
  from_next = λ j l. (let k = r.from_small (omega arith) in omega arith);
}
order_down OneWord IsCell n d s r lt = record {
  to_cell = λ j l. (let e : d + 8 * (n - suc j) ≡ down OneWord n d j = omega arith in
      subst IsCell e (r.to_cells (n - suc j) (omega arith)));
  from_cell = λ j l. (let e : s + 8 * (n - suc j) ≡ down OneWord n s j = omega arith in
      subst IsCell e (r.from_cells (n - suc j) (omega arith)));
  apart = λ i j il jl e. omega arith;
  unread = λ i j l jl e. omega arith;
  to_next = λ j l. (let k = r.to_small (omega arith) in omega arith);
  from_next = λ j l. (let k = r.from_small (omega arith) in omega arith);
}

-- the first of them
first_down : (z : CellSize) (n a : ℕ) → 0 < n → a + unit_of z * n < 2 ^ 63
    → last_of (unit_of z) (shift_of z) n a ≡ down z n a 0
first_down OneByte n a some small = omega arith
first_down OneWord n a some small = omega arith

first_up : (z : CellSize) (a : ℕ) → a ≡ up z a 0
first_up OneByte a = omega arith
first_up OneWord a = omega arith

-- counted from the other end
other_end : (z : CellSize) (n a j : ℕ) → j < n → down z n a (n - suc j) ≡ up z a j
other_end OneByte n a j l = omega arith
other_end OneWord n a j l = omega arith

-- ---- cells moved

module _ (c : Context) (q : Cells) (are : AreCells q) (t : ℕ) (body : List FlatInstruction) (b : ℕ)
    (copies : CopiesOne c q t b body) (n d s : ℕ) (small : n < 2 ^ 64) where
  abbrev z : CellSize
  z = q.size

  -- the loop in some order, once it is chosen
  begins : (step : ℕ) (to from : ℕ → ℕ) (x y : State) → IsToMoveCells q n d s t x
      → HasChosen (unit_of z) (shift_of z) t x y → y.values (t + 3) ≡ step
      → (0 < n → y.values (t + 1) ≡ to 0) → (0 < n → y.values (t + 2) ≡ from 0) → Copying q t n step to from x n y
  begins step to from x y p h step_is to_is from_is = record {
    done = 0;
    count = omega arith;
    left = h.left ∙ p.left;
    to_is = to_is;
    from_is = from_is;
    step_is = step_is;
    good = subst q.IsGood (sym h.memory) p.good;
    changes = subst (q.Changes x.memory) (sym h.memory) (are.same x.memory);
    copied = λ j l. absurd (omega arith);
    stays = λ a ka out. ap (λ m. q.content m a) h.memory;
    shows = h.shows;
    others = h.others;
  }

  ends_up : (step : ℕ) (x y : State) → Copying q t n step (up z d) (up z s) x 0 y → HasMovedCells q n d s t x y
  ends_up step x y w =
      let count = w.count in
      record {
        cells = record {
          moved = λ j l. w.copied j (omega arith);
          stays = λ a ka out. w.stays a ka (λ j l. out j (omega arith));
        };
        changes = w.changes;
        good = w.good;
        shows = w.shows;
        others = w.others;
      }

  ends_down : (step : ℕ) (x y : State) → Copying q t n step (down z n d) (down z n s) x 0 y
      → HasMovedCells q n d s t x y
  ends_down step x y w =
      let count = w.count in
      record {
        cells = record {
          moved = λ j l. ap (q.content y.memory) (sym (other_end z n d j l)) ∙ w.copied (n - suc j) (omega arith)
              ∙ ap (q.content x.memory) (other_end z n s j l);
          stays = λ a ka out. w.stays a ka (λ j l e.
              (let i = n - suc j in let same : n - suc i ≡ j = omega arith in
              out i (omega arith) (e ∙ ap (down z n d) (sym same) ∙ other_end z n d i (omega arith))));
        };
        changes = w.changes;
        good = w.good;
        shows = w.shows;
        others = w.others;
      }

  -- what the loop is given, and what it leaves
  abbrev IsReady : State → State → Type 0
  IsReady x y = IsToMoveCells q n d s t x × HasChosen (unit_of z) (shift_of z) t x y

  up_ready : (x y : State) → IsToMoveCells q n d s t x → HasChosen (unit_of z) (shift_of z) t x y
      → IsUp (unit_of z) t x y → Copying q t n (unit_of z % 2 ^ 64) (up z d) (up z s) x n y
  up_ready x y p h i = begins (unit_of z % 2 ^ 64) (up z d) (up z s) x y p h i.step_is
      (λ some. i.to_is ∙ p.to_is ∙ first_up z d) (λ some. i.from_is ∙ p.from_is ∙ first_up z s)

  down_ready : (x y : State) → IsToMoveCells q n d s t x → HasChosen (unit_of z) (shift_of z) t x y
      → IsDown (unit_of z) (shift_of z) t x y
      → Copying q t n ((2 ^ 64 - unit_of z) % 2 ^ 64) (down z n d) (down z n s) x n y
  down_ready x y p h i = begins ((2 ^ 64 - unit_of z) % 2 ^ 64) (down z n d) (down z n s) x y p h i.step_is
      (λ some. i.to_is ∙ ap (λ k. last_of (unit_of z) (shift_of z) k (x.values (t + 1))) p.left
      ∙ ap (last_of (unit_of z) (shift_of z) n) p.to_is ∙ first_down z n d some (p.ranges.to_small some))
      (λ some. i.from_is ∙ ap (λ k. last_of (unit_of z) (shift_of z) k (x.values (t + 2))) p.left
      ∙ ap (last_of (unit_of z) (shift_of z) n) p.from_is ∙ first_down z n s some (p.ranges.from_small some))

  loop_moves : (x : State) → Does c (copy_loop t body) (IsReady x) (λ y. n * (b + 5) + 1)
      (λ y. Either (λ y'. HasMovedCells q n d s t x y') Never)
  loop_moves x = record { from = λ code pc y has w p. by code pc y has w p.0 p.1 p.1.order }
    where
      by : (code : List FlatInstruction) (pc : ℕ) (y : State)
          → HasAt code pc (copy_loop t body)
          → IsOfWords y → IsToMoveCells q n d s t x
          → HasChosen (unit_of z) (shift_of z) t x y
          → IsUp (unit_of z) t x y ⊎ IsDown (unit_of z) (shift_of z) t x y
          → Reaches c code (n * (b + 5) + 1) (Goes pc y) (pc + length (copy_loop t body))
          (Either (λ y'. HasMovedCells q n d s t x y') Never)
      by code pc y has w p h (inl i) =
          let low : d ≤ s = (let a = p.to_is in let f = p.from_is in let l = i.below in omega arith) in
          let o = order_up z q.IsCell n d s p.ranges low in
          (quiet_weaken c (copy_loop t body) (n * (b + 5) + 1) (n * (b + 5) + 1)
          (Copying q t n (unit_of z % 2 ^ 64) (up z d) (up z s) x n)
          (Copying q t n (unit_of z % 2 ^ 64) (up z d) (up z s) x n)
          (λ y'. Copying q t n (unit_of z % 2 ^ 64) (up z d) (up z s) x 0) (λ y'. HasMovedCells q n d s t x)
          (omega arith) (λ y' i. i) (λ y' y2 i e. ends_up (unit_of z % 2 ^ 64) x y2 e)
          (copies_all c q are t body b copies n (unit_of z % 2 ^ 64) (up z d) (up z s)
          o small x)).from code pc y has w (up_ready x y p h i)
      by code pc y has w p h (inr i) =
          let high : s < d = (let a = p.to_is in let f = p.from_is in let l = i.above in omega arith) in
          let o = order_down z q.IsCell n d s p.ranges high in
          (quiet_weaken c (copy_loop t body) (n * (b + 5) + 1) (n * (b + 5) + 1)
          (Copying q t n ((2 ^ 64 - unit_of z) % 2 ^ 64) (down z n d) (down z n s) x n)
          (Copying q t n ((2 ^ 64 - unit_of z) % 2 ^ 64) (down z n d) (down z n s) x n)
          (λ y'. Copying q t n ((2 ^ 64 - unit_of z) % 2 ^ 64) (down z n d) (down z n s) x 0)
          (λ y'. HasMovedCells q n d s t x)
          (omega arith) (λ y' i. i) (λ y' y2 i e. ends_down ((2 ^ 64 - unit_of z) % 2 ^ 64) x y2 e)
          (copies_all c q are t body b copies n ((2 ^ 64 - unit_of z) % 2 ^ 64) (down z n d) (down z n s)
          o small x)).from code pc y has w
          (down_ready x y p h i)

  pub cells_move : Does c (move_cells z t body) (IsToMoveCells q n d s t) (λ x. 7 + (n * (b + 5) + 1))
      (λ x. Either (HasMovedCells q n d s t x) Never)
  cells_move =
      both_quiet c (choose_order (unit_of z) (shift_of z) t) (copy_loop t body) 7 (n * (b + 5) + 1)
      (IsToMoveCells q n d s t) (HasChosen (unit_of z) (shift_of z) t) IsReady (λ x y. HasMovedCells q n d s t x)
      (HasMovedCells q n d s t)
      (quiet_weaken c (choose_order (unit_of z) (shift_of z) t) 7 7 (λ x. Unit {0}) (IsToMoveCells q n d s t)
      (HasChosen (unit_of z) (shift_of z) t) (HasChosen (unit_of z) (shift_of z) t) (omega arith) (λ x p. tt)
      (λ x y p h. h) (chooses c (unit_of z) (shift_of z) t))
      loop_moves (λ x y p h. (p, h)) (λ x y y2 p h e. e)
