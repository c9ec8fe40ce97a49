-- A propagated program has instructions of the machine where the program has, since the numbers that are put in are
-- short; and it can be begun where the program can.
use Rattle.std.proofs.Common.{◌≡◌, inl, inr, ⊎_elim, ℕ, ◌-◌, ◌^◌, ◌<◌, ◌≤◌, ◌&&◌, ◌==◌, nat_lt, Bool, true, false}
use Rattle.std.proofs.Common.{Option, Some, None, refl, sym, ap, ◌∙◌, subst, arith}
use Rattle.std.specs.Option.{option_map}
use Rattle.std.proofs.lemmas.Option.{same_Some, none-some}
use Rattle.std.proofs.lemmas.Bool.{eqb-true, ltb-true, and_parts, or_cases}
use Rattle.sb_base.specs.Endings.{code_of}
use Rattle.addr_map.specs.Places.{MapSizes, region_size}
use Rattle.addr_map.specs.declared.region.Region.TheVariants.{RuntimeCalls}
use Rattle.rv_isa.specs.declared.instruction.BranchOp.{BranchOp}
use Rattle.rv_isa.specs.declared.instruction.BranchOp.TheVariants.{Beq, Bne, Blt, Bge, Bltu, Bgeu}
use Rattle.rv_isa.specs.declared.instruction.RegOp.{RegOp}
use Rattle.rv_isa.specs.declared.instruction.RegOp.TheVariants.{Add, Sub, Sll, Slt, Sltu, Xor, Srl, Sra, Or, And}
use Rattle.rv_isa.specs.declared.instruction.RegOp32.{RegOp32}
use Rattle.rv_isa.specs.declared.instruction.RegOp32.TheVariants.{Addw, Subw, Sllw, Srlw, Sraw}
use Rattle.flat_code.specs.declared.instruction.RightOperand.{RightOperand}
use Rattle.flat_code.specs.declared.instruction.RightOperand.TheVariants.{Register, Number}
use Rattle.flat_code.specs.declared.instruction.FlatInstruction.{FlatInstruction}
use Rattle.flat_code.specs.declared.instruction.FlatInstruction.TheVariants as flat
use Rattle.flat_code.specs.declared.function.FlatFunction.{FlatFunction}
use Rattle.flat_code.specs.declared.function.FlatProgram.{FlatProgram}
use Rattle.flat_code.specs.Calls.{function_in}
use Rattle.flat_code.specs.Meaning.{body_of, instruction_at}
use Rattle.machine_laws.specs.Blocks.Blocks.{IsShort, RightIsShort}
use Rattle.machine_laws.specs.Blocks.Tails.{line_of}
use Rattle.machine_laws.specs.Following.Code.{IsEncodable}
use Rattle.machine_laws.specs.Following.Start.{IsStartable}
use Rattle.flat_propagation.specs.declared.fact.Fact.{Fact}
use Rattle.flat_propagation.specs.declared.fact.Fact.TheVariants.{Unknown, Same, Word, Difference, Condition}
use Rattle.flat_propagation.specs.Facts.{Facts}
use Rattle.flat_propagation.specs.Known.{source, source_but, register_or_zero, known_at}
use Rattle.flat_propagation.specs.Propagated.{is_short, takes, takes32, register_or_number, right_but, right_source}
use Rattle.flat_propagation.specs.Propagated.{unless_zero, if_zero, compared, compared_zero, branch_on, moved}
use Rattle.flat_propagation.specs.Propagated.{rewritten, propagated_function, propagated}
use Rattle.flat_propagation.proofs.Holding.{either}
use Rattle.flat_propagation.proofs.Meaning.{function_same, instruction_same, room_same}
use Rattle.image_laws.proofs.Propagation.Fits.{RightFits, FactFits, known_fits}

-- ---- numbers

zero_short : IsShort 0
zero_short = inl (omega arith)

pub word_short : (n : ℕ) → is_short n ≡ true → IsShort n
word_short n e =
    ⊎_elim (λ h. let low = ltb-true n (2 ^ 11) h in inl (omega (arith, low)))
    (λ h.
    let both = and_parts (nat_lt (2 ^ 64 - 2 ^ 11) n) (nat_lt n (2 ^ 64)) h in
    let high = ltb-true (2 ^ 64 - 2 ^ 11) n both.0 in
    let low = ltb-true n (2 ^ 64) both.1 in
    inr (omega (arith, high), omega (arith, low)))
    (or_cases (nat_lt n (2 ^ 11)) (nat_lt (2 ^ 64 - 2 ^ 11) n && nat_lt n (2 ^ 64)) e)

shift_short : (n : ℕ) → nat_lt n 64 ≡ true → IsShort n
shift_short n e = let low = ltb-true n 64 e in inl (omega (arith, low))

shift32_short : (n : ℕ) → nat_lt n 32 ≡ true → IsShort n
shift32_short n e = let low = ltb-true n 32 e in inl (omega (arith, low))

only_zero : (n : ℕ) → (n == 0) ≡ true → IsShort n
only_zero n e = subst IsShort (sym (eqb-true n 0 e)) zero_short

pub takes_short : (op : RegOp) (n : ℕ) → takes op n ≡ true → IsShort n
takes_short Add n e = word_short n e
takes_short Sub n e = word_short n e
takes_short Slt n e = word_short n e
takes_short Sltu n e = word_short n e
takes_short Xor n e = word_short n e
takes_short Or n e = word_short n e
takes_short And n e = word_short n e
takes_short Sll n e = shift_short n e
takes_short Srl n e = shift_short n e
takes_short Sra n e = shift_short n e
takes_short _ n e = only_zero n e

pub takes32_short : (op : RegOp32) (n : ℕ) → takes32 op n ≡ true → IsShort n
takes32_short Addw n e = word_short n e
takes32_short Subw n e = word_short n e
takes32_short Sllw n e = shift32_short n e
takes32_short Srlw n e = shift32_short n e
takes32_short Sraw n e = shift32_short n e
takes32_short _ n e = only_zero n e

-- ---- right operands

number_short : (fits : ℕ → Bool) → ((n : ℕ) → fits n ≡ true → IsShort n) → (fact : Fact) (x : ℕ)
    → RightIsShort (register_or_number fits fact x)
number_short fits h (Word n) x = either RightIsShort (fits n) (Number n) (Register x) (λ e. h n e) (λ e. tt)
number_short fits h _ x = tt

right_short : (d : ℕ) (fits : ℕ → Bool) → ((n : ℕ) → fits n ≡ true → IsShort n) → (k : Facts) (z : RightOperand)
    → RightIsShort z → RightIsShort (right_but d fits k z)
right_short d fits h k (Register x) s = number_short fits h (k x) (source_but d (k x) x)
right_short d fits h k (Number n) s = s

zero_or_register : (fact : Fact) (x : ℕ) → RightIsShort (register_or_zero fact x)
zero_or_register (Word n) x =
    either RightIsShort (n == 0) (Number 0) (Register x) (λ e. zero_short) (λ e. tt)
zero_or_register _ x = tt

source_short : (k : Facts) (z : RightOperand) → RightIsShort z → RightIsShort (right_source k z)
source_short k (Register x) s = zero_or_register (k x) (source (k x) x)
source_short k (Number n) s = s

compared_short : (b : RightOperand) → RightFits b → RightIsShort b
compared_short (Register x) h = tt
compared_short (Number n) h = subst IsShort (sym h) zero_short

-- ---- instructions

-- what is asked of one
abbrev IsCoded : FlatInstruction → Type 0
IsCoded (flat.Constant x n) = IsShort n
IsCoded (flat.Operate op x y z) = RightIsShort z
IsCoded (flat.Operate32 op x y z) = RightIsShort z
IsCoded (flat.Load op x y offset) = offset < 2 ^ 11
IsCoded (flat.Store op y offset x) = offset < 2 ^ 11
IsCoded (flat.Branch op y z past) = RightIsShort z
IsCoded (flat.End e) = (line_of e < 2 ^ 32) × (code_of e < 256)
IsCoded _ = Unit {0}

branch_coded : (op : BranchOp) (fact : Fact) (y past : ℕ) (b : RightOperand) → FactFits fact → RightIsShort b
    → IsCoded (branch_on op fact y past b)
branch_coded op fact y past (Register z) h s = tt
branch_coded op fact y past (Number n) h s =
    either IsCoded (n == 0) (compared_zero op fact y past) (compared op fact y past (Number n)) (λ e. zeros op)
    (λ e. s)
  where
    unless : (fact : Fact) → FactFits fact → IsCoded (unless_zero fact y past)
    unless Unknown h = zero_short
    unless (Same z) h = zero_short
    unless (Word n) h = zero_short
    unless (Difference a b) h = compared_short b h
    unless (Condition op a b) h = compared_short b h

    ifs : (fact : Fact) → FactFits fact → IsCoded (if_zero fact y past)
    ifs Unknown h = zero_short
    ifs (Same z) h = zero_short
    ifs (Word n) h = zero_short
    ifs (Difference a b) h = compared_short b h
    ifs (Condition op a b) h = compared_short b h

    zeros : (op : BranchOp) → IsCoded (compared_zero op fact y past)
    zeros Bne = unless fact h
    zeros Beq = ifs fact h
    zeros Blt = zero_short
    zeros Bge = zero_short
    zeros Bltu = zero_short
    zeros Bgeu = zero_short

moved_coded : (fact : Fact) (x y : ℕ) → IsCoded (moved fact x y)
moved_coded (Word n) x y =
    either IsCoded (is_short n) (flat.Constant x n) (flat.Move x y) (λ e. word_short n e) (λ e. tt)
moved_coded (Same z) x y = tt
moved_coded _ x y = tt

rewritten_coded : (k : Facts) → ((y : ℕ) → FactFits (k y)) → (i : FlatInstruction) → IsCoded i
    → IsCoded (rewritten k i)
unfolding rewritten
rewritten_coded k fits (flat.Constant x n) h = h
rewritten_coded k fits (flat.Move x y) h = moved_coded (k y) x y
rewritten_coded k fits (flat.Operate op x y z) h = right_short x (takes op) (takes_short op) k z h
rewritten_coded k fits (flat.Operate32 op x y z) h = right_short x (takes32 op) (takes32_short op) k z h
rewritten_coded k fits (flat.Load op x y offset) h = h
rewritten_coded k fits (flat.Store op y offset x) h = h
rewritten_coded k fits (flat.Branch op y z past) h =
    branch_coded op (k y) y past (right_source k z) (fits y) (source_short k z h)
rewritten_coded k fits (flat.JumpForward past) h = tt
rewritten_coded k fits (flat.JumpBack back) h = tt
rewritten_coded k fits flat.Turn h = tt
rewritten_coded k fits (flat.Call g first x) h = tt
rewritten_coded k fits (flat.CallAddress y first n x r) h = tt
rewritten_coded k fits (flat.Return y) h = tt
rewritten_coded k fits (flat.Get x) h = tt
rewritten_coded k fits (flat.Put x) h = tt
rewritten_coded k fits (flat.Exit x) h = tt
rewritten_coded k fits (flat.End e) h = h
rewritten_coded k fits (flat.Charged x) h = tt

-- ---- programs

module _ (m : MapSizes) (p : FlatProgram) where
  -- what holds of each function and stays holds of each propagated one
  of_each : (P : FlatFunction → Type 0) → ((g : FlatFunction) → P g → P (propagated_function g))
      → ((f : ℕ) (g : FlatFunction) → function_in p f ≡ Some g → P g) → (f : ℕ) (g : FlatFunction)
      → function_in (propagated p) f ≡ Some g → P g
  of_each P stays each f g e = by (function_in p f) refl (sym (function_same m p f) ∙ e)
    where
      by : (o : Option FlatFunction) → function_in p f ≡ o → option_map propagated_function o ≡ Some g → P g
      by None there h = absurd (none-some g h)
      by (Some x) there h = subst P (same_Some (propagated_function x) g h) (stays x (each f x there))

  module _ (ok : IsEncodable p) where
    each_coded : (f pc : ℕ) (i : FlatInstruction) → instruction_at p f pc ≡ Some i → IsCoded i
    each_coded f pc (flat.Constant x n) e = ok.constant f pc x n e
    each_coded f pc (flat.Operate op x y z) e = ok.operate f pc op x y z e
    each_coded f pc (flat.Operate32 op x y z) e = ok.operate32 f pc op x y z e
    each_coded f pc (flat.Load op x y offset) e = ok.load_offset f pc op x y offset e
    each_coded f pc (flat.Store op y offset x) e = ok.store_offset f pc op y offset x e
    each_coded f pc (flat.Branch op y z past) e = ok.branch f pc op y z past e
    each_coded f pc (flat.End ending) e = (ok.line f pc ending e, ok.status f pc ending e)
    each_coded f pc _ e = tt

    coded : (f pc : ℕ) (i : FlatInstruction) → instruction_at (propagated p) f pc ≡ Some i → IsCoded i
    coded f pc i e = by (instruction_at p f pc) refl (sym (instruction_same m p f pc) ∙ e)
      where
        by : (o : Option FlatInstruction) → instruction_at p f pc ≡ o
            → option_map (rewritten (known_at (body_of (function_in p f)) pc)) o ≡ Some i → IsCoded i
        by None there h = absurd (none-some i h)
        by (Some x) there h =
            let k = known_at (body_of (function_in p f)) pc in
            subst IsCoded (same_Some (rewritten k x) i h)
            (rewritten_coded k (known_fits (body_of (function_in p f)) pc) x (each_coded f pc x there))

    pub propagated_encodable : IsEncodable (propagated p)
    propagated_encodable = record {
      load_offset = λ f pc op x y offset e. coded f pc (flat.Load op x y offset) e;
      store_offset = λ f pc op y offset x e. coded f pc (flat.Store op y offset x) e;
      constant = λ f pc x n e. coded f pc (flat.Constant x n) e;
      operate = λ f pc op x y z e. coded f pc (flat.Operate op x y z) e;
      operate32 = λ f pc op x y z e. coded f pc (flat.Operate32 op x y z) e;
      branch = λ f pc op y z past e. coded f pc (flat.Branch op y z past) e;
      line = λ f pc ending e. (coded f pc (flat.End ending) e).0;
      status = λ f pc ending e. (coded f pc (flat.End ending) e).1;
      rooms = of_each (λ (g : FlatFunction). 8 ≤ g.room) (λ g h. h) ok.rooms;
      parameters = of_each (λ (g : FlatFunction). g.parameters ≤ 1024) (λ g h. h) ok.parameters;
      results = of_each (λ (g : FlatFunction). g.results ≤ 1024) (λ g h. h) ok.results;
    }

  pub propagated_startable : IsStartable m p → IsStartable m (propagated p)
  unfolding propagated rewritten
  propagated_startable s = record {
    function = propagated_function s.function;
    there = function_same m p p.entry ∙ ap (option_map propagated_function) s.there;
    takes_nothing = s.takes_nothing;
    turns = λ k below.
        instruction_same m p p.entry k
        ∙ ap (option_map (rewritten (known_at (body_of (function_in p p.entry)) k))) (s.turns k below);
    program_fits = subst (λ n. n ≤ m.budgets.calls) (sym (room_same m p false p.entry)) s.program_fits;
    runtime_fits = subst (λ n. n ≤ region_size m RuntimeCalls) (sym (room_same m p true p.entry)) s.runtime_fits;
  }
