-- The blocks of values: constants, plain variables, addresses of objects and functions, conversions and operators.
use Rattle.std.proofs.Common.{◌⊎◌, inl, inr, ℕ, ◌+◌, ◌<◌, refl, sym, subst, arith}
use Rattle.std.proofs.Common.{Bool, true, false, List, [], ◌∷◌, ◌++◌, length, append-nil}
use Rattle.std.specs.Prelude.{if◌then◌else◌}
use Rattle.flat_code.specs.declared.instruction.RightOperand.{RightOperand}
use Rattle.flat_code.specs.declared.instruction.RightOperand.TheVariants.{Register, Number}
use Rattle.flat_code.specs.declared.instruction.FlatInstruction.{FlatInstruction}
use Rattle.flat_code.specs.declared.instruction.FlatInstruction.TheVariants.{Constant, Move}
use Rattle.flat_code.specs.declared.function.FlatProgram.{FlatProgram}
use Rattle.flat_operators.specs.Operators.{constant_code}
use Rattle.runtime_functions.specs.Library.{held_from}
use Rattle.metadata_plan.specs.OperatorLists.Operators.{operators}
use Rattle.metadata_relation.specs.Blocks.{move_entry, move_entry_if, untagged, move_value}
use Rattle.metadata_relation.specs.Blocks.{entry_constants_if, number_code, number_operand, is_short}
use Rattle.image_laws.specs.Plans.Assignment.{Registers, IsOneOf, Assigns, Names}
use Rattle.image_laws.specs.Plans.Instructions.{entry_of, value_of}
use Rattle.image_laws.proofs.Plans.Flow.{OfOperand}
use Rattle.image_laws.proofs.Assignment.Flows.{Flows, followed, and_then, wider, LastIn, last_append, last_both}
use Rattle.image_laws.proofs.Assignment.Flows.{last_ends}
use Rattle.image_laws.proofs.Assignment.Flows.{flow_assigns, flow_names}
use Rattle.image_laws.proofs.Assignment.Straight.{AreIn, straight, nothing}
use Rattle.image_laws.proofs.Assignment.Operators.{constant_gives, gives_flows, quiet_last}

module _ (p : FlatProgram) (u : ℕ) (P : Registers) where
  -- code of a block: what it leaves assigned, and that what it makes last is given or among that
  pub record Block (G : Registers) (is : List FlatInstruction) (b : ℕ) (M : List ℕ) : Type 1 where
    pub flows : Flows p u P G is b M
    pub last : LastIn p (λ y. G y ⊎ IsOneOf M y) is

  pub block_assigns : (G : Registers) (is : List FlatInstruction) (b : ℕ) (M : List ℕ) → Block G is b M
      → Assigns p u G is b M × Names p u is P
  block_assigns G is b M k = (
    flow_assigns p u P G is b M k.flows (last_ends p (λ y. G y ⊎ IsOneOf M y) is k.last),
    flow_names p u P G is b M k.flows,
  )

  last_nothing : (E : Registers) (is : List FlatInstruction) → LastIn p E is → LastIn p E (is ++ [])
  last_nothing E is h = subst (LastIn p E) (sym (append-nil is)) h

  -- ---- values and their entries

  module _ (G : Registers) (low : (y : ℕ) → G y → P y) where
    pub untagged_flows : (b : Bool) (d : ℕ) → AreIn (entry_of b d) P → Flows p u P G (untagged b d) 0 (entry_of b d)
    untagged_flows false d named = nothing p u P G low
    untagged_flows true d (p1, (p2, (p3, (p4, _)))) =
        straight p u P 0 G (untagged true d) (tt, p1, tt, (tt, p2, tt, (tt, p3, tt, (tt, p4, tt, tt)))) low (entry_of true d)
        (inl (inl (inl (inr refl))), (inl (inl (inr refl)), (inl (inr refl), (inr refl, tt))))

    pub move_entry_flows : (b : Bool) (d a : ℕ) → AreIn (entry_of b a) G → AreIn (entry_of b d) P
        → Flows p u P G (move_entry_if b (held_from d).tag (held_from a).tag) 0 (entry_of b d)
    move_entry_flows false d a given named = nothing p u P G low
    move_entry_flows true d a (g1, (g2, (g3, (g4, _)))) (p1, (p2, (p3, (p4, _)))) =
        straight p u P 0 G (move_entry (held_from d).tag (held_from a).tag)
        (g1, p1, tt, (inl g2, p2, tt, (inl (inl g3), p3, tt, (inl (inl (inl g4)), p4, tt, tt)))) low (entry_of true d)
        (inl (inl (inl (inr refl))), (inl (inl (inr refl)), (inl (inr refl), (inr refl, tt))))

    pub move_flows : (b : Bool) (d a : ℕ) → AreIn (value_of b a) G → AreIn (value_of b d) P
        → Flows p u P G (move_value b d a) 0 (value_of b d)
    move_flows false d a given named =
        straight p u P 0 G (Move d a ∷ []) (given.0, named.0, tt, tt) low (d ∷ []) (inr refl, tt)
    move_flows true d a (g0, (g1, (g2, (g3, (g4, _))))) (p0, (p1, (p2, (p3, (p4, _))))) =
        straight p u P 0 G (move_value true d a) (
          g0,
          p0,
          tt,
          (
            inl g1,
            p1,
            tt,
            (
              inl (inl g2),
              p2,
              tt,
              (inl (inl (inl g3)), p3, tt, (inl (inl (inl (inl g4))), p4, tt, tt)),
            ),
          ),
        ) low (value_of true d) (
          inl (inl (inl (inl (inr refl)))),
          (
            inl (inl (inl (inr refl))),
            (
              inl (inl (inr refl)),
              (
                inl (inr refl),
                (inr refl, tt),
              ),
            ),
          ),
        )

    pub constant_flows : (d w : ℕ) → P d → Flows p u P G (constant_code d w) 0 (d ∷ [])
    constant_flows d w named = gives_flows p u P G (constant_code d w) d low (constant_gives p u P G d w named)

  pub constants_flows : (G : Registers) → ((y : ℕ) → G y → P y) → (b : Bool) (d base bound key lock s : ℕ)
      → AreIn (entry_of b d) P
      → Flows p u P G (entry_constants_if operators b (held_from d).tag base bound key lock s) 0 (entry_of b d)
  constants_flows G low false d base bound key lock s named = nothing p u P G low
  constants_flows G low true d base bound key lock s (p1, (p2, (p3, (p4, _)))) =
      and_then p u P G (constant_code (d + 1) base) (constant_code (d + 2) bound ++ (constant_code (d + 3) key ++ constant_code (d + 4) lock))
      0 ((d + 1) ∷ []) ((d + 2) ∷ (d + 3) ∷ (d + 4) ∷ []) (constant_flows G low (d + 1) base p1)
      (λ S keeps made low'.
      and_then p u P S (constant_code (d + 2) bound) (constant_code (d + 3) key ++ constant_code (d + 4) lock)
      0 ((d + 2) ∷ []) ((d + 3) ∷ (d + 4) ∷ []) (constant_flows S low' (d + 2) bound p2)
      (λ T keeps' made' low''.
      and_then p u P T (constant_code (d + 3) key) (constant_code (d + 4) lock)
      0 ((d + 3) ∷ []) ((d + 4) ∷ []) (constant_flows T low'' (d + 3) key p3)
      (λ U keeps'' made'' low'''. constant_flows U low''' (d + 4) lock p4)))

  pub last_untagged : (E : Registers) (is : List FlatInstruction) (b : Bool) (d : ℕ) → LastIn p E is
      → LastIn p E (is ++ untagged b d)
  last_untagged E is false d h = last_nothing E is h
  last_untagged E is true d h = last_append p E is (untagged true d) (omega arith) (inl refl)

  pub last_moved : (E : Registers) (is : List FlatInstruction) (b : Bool) (d a : ℕ) → LastIn p E is
      → LastIn p E (is ++ move_entry_if b (held_from d).tag (held_from a).tag)
  last_moved E is false d a h = last_nothing E is h
  last_moved E is true d a h =
      last_append p E is (move_entry (held_from d).tag (held_from a).tag) (omega arith) (inl refl)

  -- what makes an integer
  pub integer : (G : Registers) (is : List FlatInstruction) (b : Bool) (d : ℕ) → AreIn (entry_of b d) P
      → Flows p u P G is 0 (d ∷ []) → LastIn p (λ y. G y ⊎ IsOneOf (value_of b d) y) is
      → Block G (is ++ untagged b d) 0 (value_of b d)
  integer G is b d named f last = record {
    flows = and_then p u P G is (untagged b d) 0 (d ∷ []) (entry_of b d) f
        (λ S keeps made low. untagged_flows S low b d named);
    last = last_untagged (λ y. G y ⊎ IsOneOf (value_of b d) y) is b d last;
  }

  -- ---- numbers as operands

  pub number_flows : (G : Registers) → ((y : ℕ) → G y → P y) → (n r s : ℕ) (rest : RightOperand → List FlatInstruction)
      (M : List ℕ) → P r
      → ((S : Registers) → ((y : ℕ) → G y → S y) → ((y : ℕ) → S y → P y) → (z : RightOperand) → OfOperand S z
      → Flows p u P S (rest z) 0 M)
      → Flows p u P G (number_code operators n r s ++ rest (number_operand n r)) 0 M
  number_flows G low n r s rest M named k = by (is_short n)
    where
      by : (b : Bool)
          → Flows p u P G ((if b then [] else constant_code r n) ++ rest (if b then Number n else Register r)) 0 M
      by true = k G (λ y g. g) low (Number n) tt
      by false =
          followed p u P G (constant_code r n) (rest (Register r)) 0 (r ∷ []) M (constant_flows G low r n named)
          (λ S keeps made low'. k S keeps low' (Register r) (made r (inl refl)))

  pub number_last : (E : Registers) (n r s : ℕ) (rest : RightOperand → List FlatInstruction)
      → ((z : RightOperand) → (0 < length (rest z)) × LastIn p E (rest z))
      → LastIn p E (number_code operators n r s ++ rest (number_operand n r))
  number_last E n r s rest h =
      let z = h (number_operand n r) in
      last_append p E (number_code operators n r s) (rest (number_operand n r)) z.0 z.1

  -- ---- addresses

  pub quiet_constant : (E : Registers) (d w : ℕ) → LastIn p E (constant_code d w)
  quiet_constant E d w =
      quiet_last p E (constant_code d w) (constant_gives p u (λ y. Unit {0}) (λ y. Unit {0}) d w tt).quiet

  -- all of them are quiet
  quiet_four : (E : Registers) (a b k l base bound key lock : ℕ)
      → LastIn p E (constant_code a base ++ (constant_code b bound ++ (constant_code k key ++ constant_code l lock)))
  quiet_four E a b k l base bound key lock =
      last_both p E (constant_code a base) (constant_code b bound ++ (constant_code k key ++ constant_code l lock))
      (quiet_constant E a base)
      (last_both p E (constant_code b bound) (constant_code k key ++ constant_code l lock) (quiet_constant E b bound)
      (last_both p E (constant_code k key) (constant_code l lock) (quiet_constant E k key) (quiet_constant E l lock)))

  pub quiet_constants : (E : Registers) (b : Bool) (d base bound key lock s : ℕ)
      → LastIn p E (entry_constants_if operators b (held_from d).tag base bound key lock s)
  quiet_constants E false d base bound key lock s = tt
  quiet_constants E true d base bound key lock s = quiet_four E (d + 1) (d + 2) (d + 3) (d + 4) base bound key lock

  -- an address that is known, and what its entry has
  pub named_address : (G : Registers) → ((y : ℕ) → G y → P y) → (b : Bool) (d address base bound key lock s : ℕ)
      → AreIn (value_of b d) P
      → Block G (constant_code d address ++ entry_constants_if operators b (held_from d).tag base bound key lock s) 0
      (value_of b d)
  named_address G low b d address base bound key lock s named =
      let entry = entry_constants_if operators b (held_from d).tag base bound key lock s in
      let E = λ (y : ℕ). G y ⊎ IsOneOf (value_of b d) y in
      record {
        flows = and_then p u P G (constant_code d address) entry 0 (d ∷ []) (entry_of b d)
            (constant_flows G low d address named.0)
            (λ S keeps made low'. constants_flows S low' b d base bound key lock s named.1);
        last = last_both p E (constant_code d address) entry (quiet_constant E d address)
            (quiet_constants E b d base bound key lock s);
      }

  -- ---- plain variables

  pub moved_block : (G : Registers) → ((y : ℕ) → G y → P y) → (b : Bool) (d a : ℕ) → AreIn (value_of b a) G
      → AreIn (value_of b d) P → Block G (move_value b d a) 0 (value_of b d)
  moved_block G low b d a given named = record {
    flows = move_flows G low b d a given named;
    last = by b;
  }
    where
      by : (b : Bool) → LastIn p (λ y. G y ⊎ IsOneOf (value_of b d) y) (move_value b d a)
      by false = inl refl
      by true = inl refl

  pub word_block : (G : Registers) → ((y : ℕ) → G y → P y) → (b : Bool) (d a : ℕ) → G a → AreIn (value_of b d) P
      → Block G (Move d a ∷ untagged b d) 0 (value_of b d)
  word_block G low b d a given named =
      integer G (Move d a ∷ []) b d named.1
      (straight p u P 0 G (Move d a ∷ []) (given, named.0, tt, tt) low (d ∷ []) (inr refl, tt)) (inl refl)

  pub zero_block : (G : Registers) → ((y : ℕ) → G y → P y) → (b : Bool) (d : ℕ) → AreIn (value_of b d) P
      → Block G (Constant d 0 ∷ untagged b d) 0 (value_of b d)
  zero_block G low b d named =
      integer G (Constant d 0 ∷ []) b d named.1
      (straight p u P 0 G (Constant d 0 ∷ []) (tt, named.0, tt, tt) low (d ∷ []) (inr refl, tt)) (inl refl)

  -- a value of a variable that is set: nothing is made of what a block gives
  pub forgets : (G : Registers) (is : List FlatInstruction) (b : ℕ) (M : List ℕ) → Flows p u P G is b M
      → LastIn p (λ y. G y ⊎ ⊥) is → Block G is b []
  forgets G is b M f last = record { flows = wider p u P G is b M [] f (λ y m. absurd m); last = last }

  pub set_pointer : (G : Registers) → ((y : ℕ) → G y → P y) → (x a : ℕ) → AreIn (value_of true a) G
      → AreIn (value_of true x) P → Block G (move_value true x a) 0 []
  set_pointer G low x a given named =
      forgets G (move_value true x a) 0 (value_of true x) (move_flows G low true x a given named) (inl refl)

  pub set_word : (G : Registers) → ((y : ℕ) → G y → P y) → (x a : ℕ) → G a → P x → Block G (Move x a ∷ []) 0 []
  set_word G low x a given named =
      forgets G (Move x a ∷ []) 0 (x ∷ [])
      (straight p u P 0 G (Move x a ∷ []) (given, named, tt, tt) low (x ∷ []) (inr refl, tt)) (inl refl)
