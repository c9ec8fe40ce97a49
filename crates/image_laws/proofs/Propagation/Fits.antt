-- What facts compare, a branch can have: registers, or one and 0.
use Rattle.std.proofs.Common.{◌≡◌, ℕ, zero, suc, List, Option, Some, None, refl}
use Rattle.std.specs.Prelude.{slice_get, ◌==◌, if◌then◌else◌}
use Rattle.std.proofs.lemmas.Bool.{eqb-true}
use Rattle.rv_isa.specs.declared.instruction.RegOp.{RegOp}
use Rattle.rv_isa.specs.declared.instruction.RegOp.TheVariants.{Sub, Slt, Sltu, Xor}
use Rattle.rv_isa.specs.declared.instruction.BranchOp.TheVariants.{Blt, Bltu}
use Rattle.flat_code.specs.declared.instruction.RightOperand.{RightOperand}
use Rattle.flat_code.specs.declared.instruction.RightOperand.TheVariants.{Register, Number}
use Rattle.flat_code.specs.declared.instruction.FlatInstruction.{FlatInstruction}
use Rattle.flat_code.specs.declared.instruction.FlatInstruction.TheVariants as flat
use Rattle.flat_propagation.specs.declared.fact.Fact.{Fact}
use Rattle.flat_propagation.specs.declared.fact.Fact.TheVariants.{Unknown, Same, Word, Difference, Condition}
use Rattle.flat_propagation.specs.Facts.{Facts, nothing, names, with_fact}
use Rattle.flat_propagation.specs.Known.{source_but, right_source_but, copied, if_branchable}
use Rattle.flat_propagation.specs.Known.{is_zero, turned, if_one, computed, after, is_target, after_at, known_at}
use Rattle.flat_propagation.proofs.Holding.{either}

-- what holds of nothing and stays behind each instruction holds of what is known
pub known_has : (P : Fact → Type 0) (body : List FlatInstruction) → P Unknown
    → ((pc : ℕ) (i : FlatInstruction) (k : Facts) → slice_get body pc ≡ Some i → ((y : ℕ) → P (k y)) → (y : ℕ)
    → P (after k i y))
    → (pc y : ℕ) → P (known_at body pc y)
unfolding known_at
known_has P body none on zero y = none
known_has P body none on (suc pc) y =
    either (λ (k : Facts). P (k y)) (is_target body (suc pc)) nothing
    (after_at (known_at body pc) (slice_get body pc)) (λ e. none)
    (λ e. by (slice_get body pc) refl (λ y. known_has P body none on pc y))
  where
    by : (o : Option FlatInstruction) → slice_get body pc ≡ o → ((y : ℕ) → P (known_at body pc y))
        → P (after_at (known_at body pc) o y)
    by None at h = none
    by (Some i) at h = on pc i (known_at body pc) at h y

pub with_has : (P : Fact → Type 0) → P Unknown → (k : Facts) (x : ℕ) (fact : Fact) → ((y : ℕ) → P (k y)) → P fact
    → (y : ℕ) → P (with_fact k x fact y)
unfolding with_fact
with_has P none k x fact h own y =
    let f = if y == x then fact else k y in
    either P (names f x) Unknown f (λ e. none) (λ e. either P (y == x) fact (k y) (λ e. own) (λ e. h y))

-- ----

abbrev pub RightFits : RightOperand → Type 0
RightFits (Register x) = Unit {0}
RightFits (Number n) = n ≡ 0

abbrev pub FactFits : Fact → Type 0
FactFits Unknown = Unit {0}
FactFits (Same x) = Unit {0}
FactFits (Word n) = Unit {0}
FactFits (Difference a b) = RightFits b
FactFits (Condition op a b) = RightFits b

copied_fits : (fact : Fact) (x : ℕ) → FactFits fact → FactFits (copied fact x)
copied_fits Unknown x h = tt
copied_fits (Same y) x h = tt
copied_fits (Word n) x h = tt
copied_fits (Difference a b) x h = h
copied_fits (Condition op a b) x h = h

branchable_fits : (b : RightOperand) (fact : Fact) → (RightFits b → FactFits fact) → FactFits (if_branchable b fact)
branchable_fits (Register x) fact h = h tt
branchable_fits (Number n) fact h =
    either FactFits (n == 0) fact Unknown (λ e. h (eqb-true n 0 e)) (λ e. tt)

zero_fits : (fact : Fact) (x : ℕ) → FactFits fact → FactFits (is_zero fact x)
zero_fits Unknown x h = refl
zero_fits (Same y) x h = refl
zero_fits (Word n) x h = refl
zero_fits (Difference a b) x h = h
zero_fits (Condition op a b) x h = h

turned_fits : (fact : Fact) → FactFits fact → FactFits (turned fact)
turned_fits Unknown h = tt
turned_fits (Same y) h = tt
turned_fits (Word n) h = tt
turned_fits (Difference a b) h = tt
turned_fits (Condition op a b) h = h

one_fits : (b : RightOperand) (fact other : Fact) → FactFits fact → FactFits other → FactFits (if_one b fact other)
one_fits (Register x) fact other h k = k
one_fits (Number n) fact other h k = either FactFits (n == 1) fact other (λ e. h) (λ e. k)

computed_fits : (op : RegOp) (fact : Fact) (a : ℕ) (b : RightOperand) → FactFits fact
    → FactFits (computed op fact a b)
unfolding computed
computed_fits Sub fact a b h = branchable_fits b (Difference a b) (λ f. f)
computed_fits Slt fact a b h = branchable_fits b (Condition Blt a b) (λ f. f)
computed_fits Sltu fact a b h =
    one_fits b (is_zero fact a) (if_branchable b (Condition Bltu a b)) (zero_fits fact a h)
    (branchable_fits b (Condition Bltu a b) (λ f. f))
computed_fits Xor fact a b h = one_fits b (turned fact) Unknown (turned_fits fact h) tt
computed_fits _ fact a b h = tt

after_fits : (k : Facts) (i : FlatInstruction) → ((y : ℕ) → FactFits (k y)) → (y : ℕ) → FactFits (after k i y)
unfolding after
after_fits k (flat.Constant x n) h y = with_has FactFits tt k x (Word n) h tt y
after_fits k (flat.Move x z) h y = with_has FactFits tt k x (copied (k z) z) h (copied_fits (k z) z (h z)) y
after_fits k (flat.Operate op x a b) h y =
    let b' = right_source_but x k b in
    with_has FactFits tt k x (computed op (k a) (source_but x (k a) a) b') h
    (computed_fits op (k a) (source_but x (k a) a) b' (h a)) y
after_fits k (flat.Operate32 op x a b) h y = with_has FactFits tt k x Unknown h tt y
after_fits k (flat.Load op x a offset) h y = with_has FactFits tt k x Unknown h tt y
after_fits k (flat.Store op a offset x) h y = h y
after_fits k (flat.Branch op a b past) h y = h y
after_fits k (flat.JumpForward past) h y = tt
after_fits k (flat.JumpBack back) h y = tt
after_fits k flat.Turn h y = h y
after_fits k (flat.Call f first x) h y = tt
after_fits k (flat.CallAddress a first n x r) h y = tt
after_fits k (flat.Return a) h y = tt
after_fits k (flat.Get x) h y = with_has FactFits tt k x Unknown h tt y
after_fits k (flat.Put x) h y = h y
after_fits k (flat.Exit x) h y = tt
after_fits k (flat.End e) h y = tt
after_fits k (flat.Charged x) h y = with_has FactFits tt k x Unknown h tt y

pub known_fits : (body : List FlatInstruction) (pc y : ℕ) → FactFits (known_at body pc y)
known_fits body pc y = known_has FactFits body tt (λ pc i k at h y. after_fits k i h y) pc y
