-- The code of pointers inline: moved by elements, narrowed, tested, loaded and stored.
use Rattle.std.proofs.Common.{◌≡◌, inl, inr, ℕ, refl, Bool, true, false, List, [], ◌∷◌}
use Rattle.std.proofs.Common.{◌++◌, Option, Some, None}
use Rattle.std.specs.Prelude.{◌==◌, if◌then◌else◌}
use Rattle.std.proofs.lemmas.Bool.{and_parts, and_from}
use Rattle.rv_isa.specs.declared.instruction.RegOp.{RegOp}
use Rattle.rv_isa.specs.declared.instruction.RegOp.TheVariants.{Add, Sub, Mul, Div}
use Rattle.rv_isa.specs.declared.instruction.BranchOp.TheVariants.{Beq, Bgeu, Bltu}
use Rattle.flat_code.specs.declared.instruction.RightOperand.{RightOperand}
use Rattle.flat_code.specs.declared.instruction.RightOperand.TheVariants.{Register, Number}
use Rattle.flat_code.specs.declared.instruction.FlatInstruction.{FlatInstruction}
use Rattle.flat_code.specs.declared.instruction.FlatInstruction.TheVariants.{Operate, Move}
use Rattle.flat_code.specs.declared.function.FlatProgram.{FlatProgram}
use Rattle.flat_code.specs.declared.registers.Held.{Held}
use Rattle.flat_code.specs.Routines.Routine.{unless_code}
use Rattle.flat_code.specs.Routines.Metadata.{held_registers}
use Rattle.flat_operators.specs.Pointers.{shift_of, scaled_by, offset_code, difference_code}
use Rattle.flat_operators.specs.Operators.{constant_code}
use Rattle.flat_actions.specs.Judgement.Code.{spatial_code, temporal_code}
use Rattle.flat_actions.specs.Narrowing.{narrow_code}
use Rattle.image_laws.specs.Plans.Assignment.{Registers}
use Rattle.image_laws.proofs.Plans.Flow.{OfOperand}
use Rattle.image_laws.proofs.Assignment.Flows.{Flows, is_quiet, followed, wider, last_ends}
use Rattle.image_laws.proofs.Assignment.Straight.{AreIn, straight}
use Rattle.image_laws.proofs.Assignment.Choices.{unless}
use Rattle.image_laws.proofs.Assignment.Operators.{Gives, constant_gives, gives_flows, are_quiet}

module _ (p : FlatProgram) (u : ℕ) (P : Registers) where
  -- code that makes a register last, and makes nothing but what it is for
  pub record Value (G : Registers) (is : List FlatInstruction) (d : ℕ) : Type 1 where
    pub flows : Flows p u P G is 0 (d ∷ [])
    pub quiet : are_quiet is ≡ true

  pub given_value : (G : Registers) (is : List FlatInstruction) (d : ℕ) → ((y : ℕ) → G y → P y) → Gives p u P G is d
      → Value G is d
  given_value G is d low g = record { flows = gives_flows p u P G is d low g; quiet = g.quiet }

  quiet_append : (is js : List FlatInstruction) → are_quiet is ≡ true → are_quiet js ≡ true
      → are_quiet (is ++ js) ≡ true
  quiet_append [] js h k = k
  quiet_append (i ∷ is) js h k =
      let z = and_parts (is_quiet i) (are_quiet is) h in
      and_from (is_quiet i) (are_quiet (is ++ js)) z.0 (quiet_append is js z.1 k)

  -- ---- moved by elements

  operate : (G : Registers) (o : RegOp) (d a i : ℕ) → ((y : ℕ) → G y → P y) → G a → G i → P d
      → Value G (Operate o d a (Register i) ∷ []) d
  operate G o d a i low ga gi named = record {
    flows = straight p u P 0 G (Operate o d a (Register i) ∷ []) ((ga, gi), named, tt, tt) low (d ∷ []) (inr refl, tt);
    quiet = refl;
  }

  behind : (G : Registers) (is js : List FlatInstruction) (n d : ℕ) → Value G is n
      → ((S : Registers) → ((y : ℕ) → G y → S y) → S n → ((y : ℕ) → S y → P y) → Value S js d)
      → are_quiet js ≡ true → Value G (is ++ js) d
  behind G is js n d v k q = record {
    flows = followed p u P G is js 0 (n ∷ []) (d ∷ []) v.flows
        (λ S keeps made low. (k S keeps (made n (inl refl)) low).flows);
    quiet = quiet_append is js v.quiet q;
  }

  scaled : (G : Registers) (s : Option ℕ) (i size n : ℕ) → ((y : ℕ) → G y → P y) → G i → P n
      → Value G (scaled_by s i size n) n
  scaled G (Some bits) i size n low gi named = record {
    flows = straight p u P 0 G (scaled_by (Some bits) i size n) ((gi, tt), named, tt, tt) low (n ∷ []) (inr refl, tt);
    quiet = refl;
  }
  scaled G None i size n low gi named =
      behind G (constant_code n size) (Operate Mul n i (Register n) ∷ []) n n
      (given_value G (constant_code n size) n low (constant_gives p u P G n size named))
      (λ S keeps made low'. operate S Mul n i n low' (keeps i gi) made named) refl

  pub offset_value : (G : Registers) (o : RegOp) (size d a i n : ℕ) → ((y : ℕ) → G y → P y) → G a → G i → P d → P n
      → Value G (offset_code o size d a i n) d
  unfolding offset_code
  offset_value G o size d a i n low ga gi named free = by (size == 1)
    where
      by : (b : Bool) → Value G (if b then Operate o d a (Register i) ∷ []
          else scaled_by (shift_of size) i size n ++ Operate o d a (Register n) ∷ []) d
      by true = operate G o d a i low ga gi named
      by false =
          behind G (scaled_by (shift_of size) i size n) (Operate o d a (Register n) ∷ []) n d
          (scaled G (shift_of size) i size n low gi free)
          (λ S keeps made low'. operate S o d a n low' (keeps a ga) made named) refl

  pub difference_value : (G : Registers) (size d a b n : ℕ) → ((y : ℕ) → G y → P y) → G a → G b → P d → P n
      → Value G (difference_code size d a b n) d
  unfolding difference_code
  difference_value G size d a b n low ga gb named free =
      behind G (constant_code n size) (Operate Sub d a (Register b) ∷ Operate Div d d (Register n) ∷ []) n d
      (given_value G (constant_code n size) n low (constant_gives p u P G n size free))
      (λ S keeps made low'. record {
        flows = straight p u P 0 S (Operate Sub d a (Register b) ∷ Operate Div d d (Register n) ∷ [])
            ((keeps a ga, keeps b gb), named, tt, ((inr refl, inl made), named, tt, tt)) low' (d ∷ []) (inr refl, tt);
        quiet = refl;
      }) refl

  -- ---- the two tests

  pub spatial_flows : (G : Registers) (h : Held) (size : RightOperand) (line t : ℕ) → ((y : ℕ) → G y → P y)
      → AreIn (h.value ∷ h.tag.base ∷ h.tag.bound ∷ []) G → OfOperand G size → P t
      → Flows p u P G (spatial_code h size line t) 0 []
  spatial_flows G h (Register z) line t low (value, (base, (bound, _))) r free =
      straight p u P 0 G (spatial_code h (Register z) line t) (
        (value, base),
        tt,
        (refl, tt),
        (
          tt,
          tt,
          tt,
          (
            (bound, value),
            tt,
            (refl, tt),
            (tt, tt, tt, ((bound, value), free, tt, ((inr refl, inl r), tt, (refl, tt), (tt, tt, tt, tt)))),
          ),
        ),
      ) low [] tt
  spatial_flows G h (Number z) line t low (value, (base, (bound, _))) r free =
      straight p u P 0 G (spatial_code h (Number z) line t) (
        (value, base),
        tt,
        (refl, tt),
        (
          tt,
          tt,
          tt,
          (
            (bound, value),
            tt,
            (refl, tt),
            (tt, tt, tt, ((bound, value), free, tt, ((inr refl, tt), tt, (refl, tt), (tt, tt, tt, tt)))),
          ),
        ),
      ) low [] tt

  pub temporal_flows : (G : Registers) (h : Held) (line t : ℕ) → ((y : ℕ) → G y → P y)
      → AreIn (h.tag.key ∷ h.tag.lock ∷ []) G → P t → Flows p u P G (temporal_code h line t) 0 []
  temporal_flows G h line t low (key, (lock, _)) free =
      straight p u P 0 G (temporal_code h line t)
      (lock, free, tt, ((inr refl, inl key), tt, (refl, tt), (tt, tt, tt, tt))) low [] tt

  -- ---- a pointer narrowed

  pub more_operand : (R S : Registers) (z : RightOperand) → ((y : ℕ) → R y → S y) → OfOperand R z → OfOperand S z
  more_operand R S (Register x) k r = k x r
  more_operand R S (Number n) k r = tt

  pub narrow_flows : (G : Registers) (h : Held) (offset size : RightOperand) (t : ℕ) → ((y : ℕ) → G y → P y)
      → AreIn (held_registers h) G → OfOperand G offset → OfOperand G size → P t
      → Flows p u P G (narrow_code h offset size t) 0 []
  narrow_flows G h offset size t low (value, (base, (bound, (key, (lock, _))))) by many free =
      followed p u P G (Operate Add h.value h.value offset ∷ []) (unless_code Beq h.tag.lock (Number 0) (raised ++ lowered))
      0 (h.value ∷ []) []
      (straight p u P 0 G (Operate Add h.value h.value offset ∷ []) ((value, by), low h.value value, tt, tt) low
      (h.value ∷ []) (inr refl, tt))
      (λ S keeps made low'.
      unless p u P S Beq h.tag.lock (Number 0) (raised ++ lowered)
      (followed p u P S raised lowered 0 [] []
      (unless p u P S Bgeu h.tag.base (Register h.value) move
      (wider p u P S move 0 (h.tag.base ∷ []) []
      (straight p u P 0 S move (keeps h.value value, low h.tag.base base, tt, tt) low' (h.tag.base ∷ []) (inr refl, tt))
      (λ y m. absurd m))
      (last_ends p S move (inl refl)) (keeps h.tag.base base) (keeps h.value value) low')
      (λ T keeps' made' low''.
      let k = λ (y : ℕ) (g : G y). keeps' y (keeps y g) in
      unless p u P T Bltu h.tag.bound (Register h.value) cut
      (followed p u P T (Operate Sub t h.tag.bound (Register h.value) ∷ [])
      (unless_code Bltu t size set) 0 (t ∷ []) []
      (straight p u P 0 T (Operate Sub t h.tag.bound (Register h.value) ∷ [])
      ((k h.tag.bound bound, k h.value value), free, tt, tt) low'' (t ∷ []) (inr refl, tt))
      (λ U keeps'' made'' low'''.
      let k' = λ (y : ℕ) (g : G y). keeps'' y (k y g) in
      unless p u P U Bltu t size set
      (wider p u P U set 0 (h.tag.bound ∷ []) []
      (straight p u P 0 U set ((k' h.value value, more_operand G U size k' many), low h.tag.bound bound, tt, tt) low'''
      (h.tag.bound ∷ []) (inr refl, tt))
      (λ y m. absurd m))
      (last_ends p U set (inl refl)) (made'' t (inl refl)) (more_operand G U size k' many) low'''))
      (last_ends p T cut (inl refl)) (k h.tag.bound bound) (k h.value value) low''))
      (last_ends p S (raised ++ lowered) (inl refl)) (keeps h.tag.lock lock) tt low')
    where
      move : List FlatInstruction
      move = Move h.tag.base h.value ∷ []

      set : List FlatInstruction
      set = Operate Add h.tag.bound h.value size ∷ []

      cut : List FlatInstruction
      cut = Operate Sub t h.tag.bound (Register h.value) ∷ unless_code Bltu t size set

      raised : List FlatInstruction
      raised = unless_code Bgeu h.tag.base (Register h.value) move

      lowered : List FlatInstruction
      lowered = unless_code Bltu h.tag.bound (Register h.value) cut
