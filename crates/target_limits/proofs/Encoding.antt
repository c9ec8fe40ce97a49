-- The test says yes exactly where a program can be encoded.
use Rattle.std.proofs.Common.{◌≡◌, ℕ, zero, suc, ◌-◌, ◌^◌, inl, inr, ⊎_elim, Bool, true, false, ◌&&◌}
use Rattle.std.proofs.Common.{List, [], ◌∷◌, Option, Some, None, refl, sym, ap, ◌∙◌, subst, true≢false}
use Rattle.std.specs.Prelude.{slice_get, nat_lt, nat_le}
use Rattle.std.specs.List.{list_all}
use Rattle.std.proofs.lemmas.Bool.{and_parts, and_from, or_cases, or_left, or_right, ltb-true, leb-true, lt-ltb, le-leb}
use Rattle.sb_base.specs.Endings.{code_of}
use Rattle.flat_code.specs.declared.instruction.RightOperand.{RightOperand}
use Rattle.flat_code.specs.declared.instruction.RightOperand.TheVariants.{Register, Number}
use Rattle.flat_code.specs.declared.instruction.FlatInstruction.{FlatInstruction}
use Rattle.flat_code.specs.declared.instruction.FlatInstruction.TheVariants as flat
use Rattle.flat_code.specs.declared.function.FlatFunction.{FlatFunction}
use Rattle.flat_code.specs.declared.function.FlatProgram.{FlatProgram}
use Rattle.flat_code.specs.Calls.{function_in}
use Rattle.flat_code.specs.Meaning.{body_of, instruction_at}
use Rattle.machine_laws.specs.Blocks.Blocks.{IsShort, RightIsShort}
use Rattle.machine_laws.specs.Blocks.Tails.{line_of}
use Rattle.machine_laws.specs.Following.Code.{IsEncodable}
use Rattle.target_limits.specs.Encoding.{is_short, is_short_operand, fits, function_fits}

-- ---- tests of all of a list

pub all_at : {A : Type 0} (p : A → Bool) (xs : List A) (k : ℕ) (x : A) → list_all p xs ≡ true → slice_get xs k ≡ Some x
    → p x ≡ true
all_at p [] k x all at = cc
all_at p (y ∷ ys) zero x all at =
    let e : y ≡ x = cc in subst (λ z. p z ≡ true) e ((and_parts (p y) (list_all p ys) all).0)
all_at p (y ∷ ys) (suc k) x all at = all_at p ys k x ((and_parts (p y) (list_all p ys) all).1) at

pub all_from : {A : Type 0} (p : A → Bool) (xs : List A)
    → ((k : ℕ) (x : A) → slice_get xs k ≡ Some x → p x ≡ true) → list_all p xs ≡ true
all_from p [] each = refl
all_from p (y ∷ ys) each =
    and_from (p y) (list_all p ys) (each 0 y refl) (all_from p ys (λ k x at. each (suc k) x at))

-- ---- numbers

short : (n : ℕ) → is_short n ≡ true → IsShort n
short n h = ⊎_elim (λ low. inl (ltb-true n (2 ^ 31 - 2 ^ 11) low))
    (λ high. let o = and_parts (nat_le (2 ^ 64 - 2 ^ 31) n) (nat_lt n (2 ^ 64)) high in
    inr (leb-true (2 ^ 64 - 2 ^ 31) n o.0, ltb-true n (2 ^ 64) o.1))
    (or_cases (nat_lt n (2 ^ 31 - 2 ^ 11)) (nat_le (2 ^ 64 - 2 ^ 31) n && nat_lt n (2 ^ 64)) h)

passes_short : (n : ℕ) → IsShort n → is_short n ≡ true
passes_short n h = ⊎_elim
    (λ low. or_left (nat_lt n (2 ^ 31 - 2 ^ 11)) (nat_le (2 ^ 64 - 2 ^ 31) n && nat_lt n (2 ^ 64))
    (lt-ltb n (2 ^ 31 - 2 ^ 11) low))
    (λ high. or_right (nat_lt n (2 ^ 31 - 2 ^ 11)) (nat_le (2 ^ 64 - 2 ^ 31) n && nat_lt n (2 ^ 64))
    (and_from (nat_le (2 ^ 64 - 2 ^ 31) n) (nat_lt n (2 ^ 64)) (le-leb (2 ^ 64 - 2 ^ 31) n high.0)
    (lt-ltb n (2 ^ 64) high.1)))
    h

short_operand : (z : RightOperand) → is_short_operand z ≡ true → RightIsShort z
short_operand (Register x) h = tt
short_operand (Number n) h = short n h

passes_operand : (z : RightOperand) → RightIsShort z → is_short_operand z ≡ true
passes_operand (Register x) h = refl
passes_operand (Number n) h = passes_short n h

-- ---- an instruction of a program

fitting : (p : FlatProgram) → list_all function_fits p.functions ≡ true → (o : Option FlatFunction) (f pc : ℕ)
    (i : FlatInstruction) → function_in p f ≡ o → slice_get (body_of o) pc ≡ Some i → fits i ≡ true
fitting p all None f pc i there at = cc
fitting p all (Some g) f pc i there at =
    let h = all_at function_fits p.functions f g all there in
    let a = and_parts (nat_le 8 g.room)
    (nat_le g.parameters 1024 && (nat_le g.results 1024 && list_all fits g.body)) h in
    let b = and_parts (nat_le g.parameters 1024) (nat_le g.results 1024 && list_all fits g.body) a.1 in
    let c = and_parts (nat_le g.results 1024) (list_all fits g.body) b.1 in
    all_at fits g.body pc i c.1 at

module _ (p : FlatProgram) (all : list_all function_fits p.functions ≡ true) where
  at_place : (f pc : ℕ) (i : FlatInstruction) → instruction_at p f pc ≡ Some i → fits i ≡ true
  at_place f pc i at = fitting p all (function_in p f) f pc i refl at

  parts : (f : ℕ) (g : FlatFunction) → function_in p f ≡ Some g
      → (nat_le 8 g.room ≡ true) × (nat_le g.parameters 1024 ≡ true) × (nat_le g.results 1024 ≡ true)
  parts f g there =
      let h = all_at function_fits p.functions f g all there in
      let a = and_parts (nat_le 8 g.room)
      (nat_le g.parameters 1024 && (nat_le g.results 1024 && list_all fits g.body)) h in
      let b = and_parts (nat_le g.parameters 1024) (nat_le g.results 1024 && list_all fits g.body) a.1 in
      let c = and_parts (nat_le g.results 1024) (list_all fits g.body) b.1 in
      (a.0, b.0, c.0)

  pub encodable_by_test : IsEncodable p
  encodable_by_test = record {
    load_offset = λ f pc op x y offset at. ltb-true offset (2 ^ 11) (at_place f pc (flat.Load op x y offset) at);
    store_offset = λ f pc op x y offset at. ltb-true y (2 ^ 11) (at_place f pc (flat.Store op x y offset) at);
    constant = λ f pc x n at. short n (at_place f pc (flat.Constant x n) at);
    operate = λ f pc op x y z at. short_operand z (at_place f pc (flat.Operate op x y z) at);
    operate32 = λ f pc op x y z at. short_operand z (at_place f pc (flat.Operate32 op x y z) at);
    branch = λ f pc op y z past at. short_operand z (at_place f pc (flat.Branch op y z past) at);
    line = λ f pc e at. ltb-true (line_of e) (2 ^ 32)
        ((and_parts (nat_lt (line_of e) (2 ^ 32)) (nat_lt (code_of e) 256) (at_place f pc (flat.End e) at)).0);
    status = λ f pc e at. ltb-true (code_of e) 256
        ((and_parts (nat_lt (line_of e) (2 ^ 32)) (nat_lt (code_of e) 256) (at_place f pc (flat.End e) at)).1);
    rooms = λ f g there. leb-true 8 g.room ((parts f g there).0);
    parameters = λ f g there. leb-true g.parameters 1024 ((parts f g there).1);
    results = λ f g there. leb-true g.results 1024 ((parts f g there).2);
  }

-- ---- and back

module _ (p : FlatProgram) (e : IsEncodable p) where
  passes_instruction : (f pc : ℕ) (i : FlatInstruction) → instruction_at p f pc ≡ Some i → fits i ≡ true
  passes_instruction f pc (flat.Load op x y offset) at = lt-ltb offset (2 ^ 11) (e.load_offset f pc op x y offset at)
  passes_instruction f pc (flat.Store op y offset x) at = lt-ltb offset (2 ^ 11) (e.store_offset f pc op y offset x at)
  passes_instruction f pc (flat.Constant x n) at = passes_short n (e.constant f pc x n at)
  passes_instruction f pc (flat.Operate op x y z) at = passes_operand z (e.operate f pc op x y z at)
  passes_instruction f pc (flat.Operate32 op x y z) at = passes_operand z (e.operate32 f pc op x y z at)
  passes_instruction f pc (flat.Branch op y z past) at = passes_operand z (e.branch f pc op y z past at)
  passes_instruction f pc (flat.End x) at = and_from (nat_lt (line_of x) (2 ^ 32)) (nat_lt (code_of x) 256)
      (lt-ltb (line_of x) (2 ^ 32) (e.line f pc x at)) (lt-ltb (code_of x) 256 (e.status f pc x at))
  passes_instruction f pc _ at = refl

  passes_function : (f : ℕ) (g : FlatFunction) → function_in p f ≡ Some g → function_fits g ≡ true
  passes_function f g there =
      and_from (nat_le 8 g.room) (nat_le g.parameters 1024 && (nat_le g.results 1024 && list_all fits g.body))
      (le-leb 8 g.room (e.rooms f g there))
      (and_from (nat_le g.parameters 1024) (nat_le g.results 1024 && list_all fits g.body)
      (le-leb g.parameters 1024 (e.parameters f g there))
      (and_from (nat_le g.results 1024) (list_all fits g.body) (le-leb g.results 1024 (e.results f g there))
      (all_from fits g.body
      (λ pc i at. passes_instruction f pc i (ap (λ o. slice_get (body_of o) pc) there ∙ at)))))

  passes_all : list_all function_fits p.functions ≡ true
  passes_all = all_from function_fits p.functions passes_function

pub passes_test : (p : FlatProgram) → list_all function_fits p.functions ≡ false → IsEncodable p → ⊥
passes_test p fails e = true≢false (sym (passes_all p e) ∙ fails)
