-- Lists of registers.
use Rattle.std.proofs.Common.{◌≡◌, ℕ, zero, suc, ◌+◌, ◌*◌, ◌^◌, ◌≤◌, List, [], ◌∷◌, ◌++◌, get_or}
use Rattle.std.proofs.Common.{ap, refl, sym, ◌∙◌, arith, true, Some, if◌then◌else◌}
use Rattle.std.proofs.Common.{append_assoc}
use Rattle.std.specs.Prelude.{slice_get}
use Rattle.flat_code.specs.declared.instruction.FlatInstruction.{FlatInstruction}
use Rattle.flat_code.specs.declared.instruction.FlatInstruction.TheVariants.{Constant}
use Rattle.metadata_relation.specs.Blocks.{zeros}
use Rattle.std.proofs.lemmas.Option.{same_Some, none-some}
use Rattle.c_tree.specs.declared.program.Variable.{Variable}
use Rattle.tac_ir.specs.declared.function.CodeFunction.{CodeFunction}
use Rattle.metadata_plan.specs.Registers.{all_variables, most_temporaries}
use Rattle.metadata_relation.specs.Registers.{parameter_words, variable_words, home_words, total, before, register_in}
use Rattle.metadata_relation.specs.Registers.{variable_register, variables_end, home_register, homes_end}
use Rattle.metadata_relation.specs.Registers.{parameters_end}
use Rattle.instruction_selection.specs.declared.registers.Registers.{Registers}
use Rattle.instruction_selection.specs.declared.registers.Words.TheVariants.{OfParameter, OfVariable, OfHome}
use Rattle.instruction_selection.specs.Words.{words_by, registers_from}
use Rattle.instruction_selection.specs.Registers.{AreRegisters, HasFewRegisters}

pub nothing_behind : {A : Type 0} (xs : List A) → xs ++ [] ≡ xs
nothing_behind [] = refl
nothing_behind (x ∷ xs) = ap (λ ys. x ∷ ys) (nothing_behind xs)

pub total_append : (w : Variable → ℕ) (xs ys : List Variable) → total w (xs ++ ys) ≡ total w xs + total w ys
total_append w [] ys = omega arith
total_append w (x ∷ xs) ys = omega (arith, total_append w xs ys)

pub registers_append : (w : Variable → ℕ) (r : ℕ) (xs ys : List Variable)
    → registers_from w r (xs ++ ys) ≡ registers_from w r xs ++ registers_from w (r + total w xs) ys
registers_append w r [] ys =
    let same : r ≡ r + 0 = omega arith in
    ap (λ z. registers_from w z ys) same
registers_append w r (x ∷ xs) ys =
    let same : r + w x + total w xs ≡ r + (w x + total w xs) = omega arith in
    ap (λ ns. r ∷ ns) (registers_append w (r + w x) xs ys
    ∙ ap (λ z. registers_from w (r + w x) xs ++ registers_from w z ys) same)

pub registers_at : (w : Variable → ℕ) (r : ℕ) (vs : List Variable) (x d : ℕ) → d ≡ r + total w vs
    → get_or (registers_from w r vs) x d ≡ r + before w x vs
registers_at w r [] x d e = e
registers_at w r (v ∷ vs) zero d e = omega arith
registers_at w r (v ∷ vs) (suc x) d e =
    let same : d ≡ r + w v + total w vs = omega (arith, e) in
    let there : get_or (registers_from w (r + w v) vs) x d ≡ r + w v + before w x vs =
    registers_at w (r + w v) vs x d same in
    there ∙ omega arith

-- those of parameters come first, then one that nothing uses, and then all others
pub variables_at : (r s : ℕ) (ps vs : List Variable) (x d : ℕ) → s ≡ r + total parameter_words ps + 1
    → d ≡ s + total variable_words vs
    → get_or (registers_from parameter_words r ps ++ registers_from variable_words s vs) x d ≡ r + register_in ps vs x
variables_at r s [] vs x d begin end =
    let there : get_or (registers_from variable_words s vs) x d ≡ s + before variable_words x vs =
    registers_at variable_words s vs x d end in
    there ∙ omega (arith, begin)
variables_at r s (p ∷ ps) vs zero d begin end = omega arith
variables_at r s (p ∷ ps) vs (suc x) d begin end =
    let same : s ≡ r + parameter_words p + total parameter_words ps + 1 = omega (arith, begin) in
    let there : get_or (registers_from parameter_words (r + parameter_words p) ps ++ registers_from variable_words s vs) x d
    ≡ r + parameter_words p + register_in ps vs x =
    variables_at (r + parameter_words p) s ps vs x d same end in
    there ∙ omega arith

-- the sums of a function's registers, one by one
pub homes_total : (c : CodeFunction)
    → homes_end c ≡ parameters_end c + 1 + total variable_words c.variables + total home_words c.parameters
    + total home_words c.variables
homes_total c =
    let both : total home_words (all_variables c) ≡ total home_words c.parameters + total home_words c.variables =
    total_append home_words c.parameters c.variables in
    omega (arith, both)

pub registers_few : (c : CodeFunction) → HasFewRegisters c
    → total parameter_words c.parameters + 1 + total variable_words c.variables + total home_words c.parameters
    + total home_words c.variables + 5 * most_temporaries c.code + 5 * most_temporaries c.code + 16 ≤ 2 ^ 31
registers_few c small =
    let homes = homes_total c in
    omega (arith, small, homes)

-- what is computed is what a struct of registers has to be
pub are_registers : (r : Registers) (c : CodeFunction) (behind homes_behind : ℕ)
    → behind ≡ total parameter_words c.parameters
    → r.first_home ≡ behind + 1 + total variable_words c.variables
    → homes_behind ≡ r.first_home + total home_words c.parameters
    → r.first_temporary ≡ homes_behind + total home_words c.variables
    → r.variables ≡ registers_from parameter_words 0 c.parameters ++ registers_from variable_words (behind + 1) c.variables
    → r.homes ≡ registers_from home_words r.first_home c.parameters ++ registers_from home_words homes_behind c.variables
    → r.first_moved ≡ r.first_temporary + 5 * most_temporaries c.code
    → r.free ≡ r.first_moved + 5 * most_temporaries c.code → HasFewRegisters c → AreRegisters r c
are_registers r c behind homes_behind begin home middle end variables homes moved free small =
    let sum = homes_total c in
    let home_at : r.first_home ≡ variables_end c = omega (arith, begin, home) in
    let temporary_at : r.first_temporary ≡ homes_end c = omega (arith, home_at, middle, end, sum) in
    let starts : behind + 1 ≡ 0 + total parameter_words c.parameters + 1 = omega (arith, begin) in
    let all : total home_words (all_variables c) ≡ total home_words c.parameters + total home_words c.variables =
    total_append home_words c.parameters c.variables in
    let last : r.first_temporary ≡ r.first_home + total home_words (all_variables c) = omega (arith, middle, end, all) in
    let list : r.homes ≡ registers_from home_words r.first_home (all_variables c) =
    homes ∙ ap (λ z. registers_from home_words r.first_home c.parameters ++ registers_from home_words z c.variables) middle
    ∙ sym (registers_append home_words r.first_home c.parameters c.variables) in
    record {
      variables = λ x.
          let here : get_or (registers_from parameter_words 0 c.parameters
          ++ registers_from variable_words (behind + 1) c.variables) x r.first_home ≡ 0 + variable_register c x =
          variables_at 0 (behind + 1) c.parameters c.variables x r.first_home starts home in
          ap (λ ns. get_or ns x r.first_home) variables ∙ omega (arith, here);
      homes = λ x.
          let here : get_or (registers_from home_words r.first_home (all_variables c)) x r.first_temporary
          ≡ r.first_home + before home_words x (all_variables c) =
          registers_at home_words r.first_home (all_variables c) x r.first_temporary last in
          ap (λ ns. get_or ns x r.first_temporary) list ∙ omega (arith, here, home_at);
      begin = home_at;
      temporaries = temporary_at;
      moved = omega (arith, temporary_at, moved);
      free = omega (arith, temporary_at, moved, free);
      small = small;
    }

-- the same of what the code counts
pub words_few : (c : CodeFunction) (ps vs : List Variable) → ps ≡ c.parameters → vs ≡ c.variables → HasFewRegisters c
    → total (words_by OfParameter) ps + 1 + total (words_by OfVariable) vs + total (words_by OfHome) ps
    + total (words_by OfHome) vs + 5 * most_temporaries c.code + 5 * most_temporaries c.code + 16 ≤ 2 ^ 31
words_few c ps vs same also small =
    let few = registers_few c small in
    let parameters : total (words_by OfParameter) ps ≡ total parameter_words c.parameters =
    ap (λ xs. total parameter_words xs) same in
    let others : total (words_by OfVariable) vs ≡ total variable_words c.variables =
    ap (λ xs. total variable_words xs) also in
    let homes : total (words_by OfHome) ps ≡ total home_words c.parameters = ap (λ xs. total home_words xs) same in
    let more : total (words_by OfHome) vs ≡ total home_words c.variables = ap (λ xs. total home_words xs) also in
    omega (arith, few, parameters, others, homes, more)

-- ---- registers of variables are below what is free

before_all : (w : Variable → ℕ) (x : ℕ) (vs : List Variable) → before w x vs ≤ total w vs
before_all w x [] = omega arith
before_all w zero (v ∷ vs) = omega arith
before_all w (suc x) (v ∷ vs) = omega (arith, before_all w x vs)

in_all : (ps vs : List Variable) (x : ℕ) → register_in ps vs x ≤ total parameter_words ps + 1 + total variable_words vs
in_all [] vs x = omega (arith, before_all variable_words x vs)
in_all (p ∷ ps) vs zero = omega arith
in_all (p ∷ ps) vs (suc x) = omega (arith, in_all ps vs x)

pub variable_below : (r : Registers) (c : CodeFunction) (x : ℕ) → AreRegisters r c → variable_register c x ≤ r.free
variable_below r c x h =
    let below = in_all c.parameters c.variables x in
    let free = h.free in
    omega (arith, below, free)

pub home_below : (r : Registers) (c : CodeFunction) (x : ℕ) → AreRegisters r c → home_register c x ≤ r.free
home_below r c x h =
    let below = before_all home_words x (all_variables c) in
    let free = h.free in
    omega (arith, below, free)

-- a parameter that is an object has a home behind its argument
argument_in : (ps vs : List Variable) (x : ℕ) (v : Variable) → slice_get ps x ≡ Some v → v.is_object ≡ true
    → register_in ps vs x + 5 ≤ total parameter_words ps + 1 + total home_words ps
argument_in [] vs x v at is = absurd (none-some _ at)
argument_in (p ∷ ps) vs zero v at is =
    let there : home_words p ≡ 5 = ap (λ z. if z.is_object then 5 else 0) (same_Some _ _ at) ∙ ap (λ b. if b then 5 else 0) is in
    omega (arith, there)
argument_in (p ∷ ps) vs (suc x) v at is = omega (arith, argument_in ps vs x v at is)

pub parameter_below : (r : Registers) (c : CodeFunction) (x : ℕ) (v : Variable) → AreRegisters r c
    → slice_get c.parameters x ≡ Some v → v.is_object ≡ true → variable_register c x + 5 ≤ r.free
parameter_below r c x v h at is =
    let below = argument_in c.parameters c.variables x v at is in
    let both : total home_words (all_variables c) ≡ total home_words c.parameters + total home_words c.variables =
    total_append home_words c.parameters c.variables in
    let free = h.free in
    omega (arith, below, both, free)

home_at : (ps vs : List Variable) (x : ℕ) (v : Variable) → slice_get ps x ≡ Some v → v.is_object ≡ true
    → before home_words x (ps ++ vs) + 5 ≤ total home_words (ps ++ vs)
home_at [] vs x v at is = absurd (none-some _ at)
home_at (p ∷ ps) vs zero v at is =
    let there : home_words p ≡ 5 = ap (λ z. if z.is_object then 5 else 0) (same_Some _ _ at) ∙ ap (λ b. if b then 5 else 0) is in
    omega (arith, there)
home_at (p ∷ ps) vs (suc x) v at is = omega (arith, home_at ps vs x v at is)

pub parameter_home_below : (r : Registers) (c : CodeFunction) (x : ℕ) (v : Variable) → AreRegisters r c
    → slice_get c.parameters x ≡ Some v → v.is_object ≡ true → home_register c x + 5 ≤ r.free
parameter_home_below r c x v h at is =
    let below = home_at c.parameters c.variables x v at is in
    let free = h.free in
    omega (arith, below, free)

-- ---- zeros one behind the other

zeros_more : (r n : ℕ) → zeros r (suc n) ≡ zeros r n ++ (Constant (r + n) 0 ∷ [])
zeros_more r zero = let same : r ≡ r + 0 = omega arith in ap (λ k. Constant k 0 ∷ []) same
zeros_more r (suc n) =
    let same : r + 1 + n ≡ r + suc n = omega arith in
    ap (λ is. Constant r 0 ∷ is) (zeros_more (r + 1) n ∙ ap (λ k. zeros (r + 1) n ++ (Constant k 0 ∷ [])) same)

pub zeros_put : (before now after : List FlatInstruction) (r n : ℕ) → now ≡ before ++ zeros r n
    → after ≡ now ++ (Constant (r + n) 0 ∷ []) → after ≡ before ++ zeros r (n + 1)
zeros_put before now after r n e put =
    let next : suc n ≡ n + 1 = omega arith in
    put ∙ ap (λ is. is ++ (Constant (r + n) 0 ∷ [])) e
    ∙ append_assoc before (zeros r n) (Constant (r + n) 0 ∷ [])
    ∙ ap (λ is. before ++ is) (sym (zeros_more r n))
    ∙ ap (λ k. before ++ zeros r k) next

-- ---- lists put one behind the other

pub three_behind : {A : Type 0} {n m k : List A} (before a b c : List A) → n ≡ before ++ a → m ≡ n ++ b → k ≡ m ++ c
    → k ≡ before ++ (a ++ (b ++ c))
three_behind before a b c e f g =
    g ∙ (ap (λ xs. xs ++ c) (f ∙ ap (λ xs. xs ++ b) e)
    ∙ (append_assoc (before ++ a) b c ∙ append_assoc before a (b ++ c)))

pub four_behind : {A : Type 0} {n m k l : List A} (before a b c d : List A) → n ≡ before ++ a → m ≡ n ++ b → k ≡ m ++ c
    → l ≡ k ++ d → l ≡ before ++ (a ++ (b ++ (c ++ d)))
four_behind {A} {n} {m} before a b c d e f g h =
    three_behind before a b (c ++ d) e f (h ∙ (ap (λ xs. xs ++ d) g ∙ append_assoc m c d))

pub five_behind : {A : Type 0} {n m k l o : List A} (before a b c d x : List A) → n ≡ before ++ a → m ≡ n ++ b
    → k ≡ m ++ c → l ≡ k ++ d → o ≡ l ++ x → o ≡ before ++ (a ++ (b ++ (c ++ (d ++ x))))
five_behind {A} {n} {m} {k} before a b c d x e f g h i =
    four_behind before a b c (d ++ x) e f g (i ∙ (ap (λ xs. xs ++ x) h ∙ append_assoc k d x))
