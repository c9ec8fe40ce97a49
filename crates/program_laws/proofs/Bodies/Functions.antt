-- The variables of a function, as its program has them.
use Rattle.std.proofs.Common.{◌≡◌, Bool, ◌⊎◌, inl, inr, ℕ, ◌+◌, ◌<◌, ◌≤◌, true, refl, sym, ap, ◌∙◌, subst}
use Rattle.std.proofs.Common.{List, [], ◌∷◌, ◌++◌, length, Some, arith}
use Rattle.std.specs.Prelude.{◌==◌, ◌-◌, map, slice_get, suc}
use Rattle.std.specs.List.{list_all}
use Rattle.std.proofs.lemmas.Bool.{and_from, cases_lt, eq-eqb}
use Rattle.std.proofs.lemmas.List.{get_or-append-add, get_or_append_left, length-append, length-map}
use Rattle.std.proofs.lemmas.Option.{get_or_from_slice_get}
use Rattle.c_tree.specs.declared.program.Variable.{Variable}
use Rattle.c_tree.specs.Blocks.{all_of, block_variables, body_variables, closed, each_variables, is_among, no_variable}
use Rattle.c_tree.specs.Programs.{Function}
use Rattle.c_tree.specs.Valid.{Scope, at_number}
use Rattle.c_tree.specs.ValidProgram.{count_from, declares_all}
use Rattle.program_laws.specs.Bodies.Standing.{AreOpen, IsOpen}
use Rattle.program_laws.proofs.Bodies.Opened.{opened_at, opened_length}

-- a scope in the block of the body of a function
module _ (scope : Scope) (f : Function) (all : scope.all ≡ all_of f)
    (variables : scope.variables ≡ f.parameters ++ body_variables f) where
  body_length : length (body_variables f) ≡ length f.variables
  body_length =
      opened_length (block_variables f.body) (length f.parameters) f.variables (map closed f.variables)
      (length-map f.variables closed)

  pub function_lengths : length scope.variables ≡ length scope.all
  function_lengths =
      ap length variables ∙ length-append f.parameters (body_variables f)
      ∙ ap (λ n. length f.parameters + n) body_length
      ∙ sym (length-append f.parameters f.variables) ∙ sym (ap length all)

  -- the parameters can be named
  pub parameter_open : (n : ℕ) → n < length f.parameters → IsOpen scope n
  parameter_open n low =
      ap (λ vs. at_number vs n) variables
      ∙ get_or_append_left f.parameters (body_variables f) no_variable n low
      ∙ sym (get_or_append_left f.parameters f.variables no_variable n low)
      ∙ sym (ap (λ vs. at_number vs n) all)

  behind_open : (n : ℕ) → is_among (block_variables f.body) (length f.parameters + n) ≡ true
      → IsOpen scope (length f.parameters + n)
  behind_open n is =
      ap (λ vs. at_number vs (length f.parameters + n)) variables
      ∙ get_or-append-add f.parameters (body_variables f) n no_variable
      ∙ opened_at (block_variables f.body) (length f.parameters) f.variables (map closed f.variables) n
      (length f.parameters + n) refl (length-map f.variables closed) (inl is)
      ∙ sym (get_or-append-add f.parameters f.variables n no_variable)
      ∙ sym (ap (λ vs. at_number vs (length f.parameters + n)) all)

  pub body_open : AreOpen scope (block_variables f.body)
  body_open = λ n is. by n is (cases_lt n (length f.parameters))
    where
      by : (n : ℕ) → is_among (block_variables f.body) n ≡ true → (n < length f.parameters) ⊎ (length f.parameters ≤ n)
          → IsOpen scope n
      by n is (inl low) = parameter_open n low
      by n is (inr high) =
          let same : length f.parameters + (n - length f.parameters) ≡ n = omega (arith, high) in
          subst (IsOpen scope) same
          (behind_open (n - length f.parameters) (ap (is_among (block_variables f.body)) same ∙ is))

  -- a declared variable is in its place
  pub variable_placed : (k : ℕ) (v : Variable) → slice_get f.variables k ≡ Some v
      → at_number scope.all (length f.parameters + k) ≡ v
  variable_placed k v e =
      ap (λ vs. at_number vs (length f.parameters + k)) all
      ∙ get_or-append-add f.parameters f.variables k no_variable
      ∙ get_or_from_slice_get f.variables k v no_variable e

pub all_declared : (f : Function) → count_from (length f.parameters) (each_variables f.body) ≡ true
    → length (each_variables f.body) ≡ length f.variables → declares_all f ≡ true
all_declared f e g =
    and_from (count_from (length f.parameters) (each_variables f.body))
    (length (each_variables f.body) == length f.variables) e
    (eq-eqb (length (each_variables f.body)) (length f.variables) g)

-- what holds of each element of a list holds of all
pub all_by : {A : Type 0} (p : A → Bool) (xs : List A) → ((k : ℕ) (x : A) → slice_get xs k ≡ Some x → p x ≡ true)
    → list_all p xs ≡ true
all_by p [] h = refl
all_by p (x ∷ xs) h = and_from (p x) (list_all p xs) (h 0 x refl) (all_by p xs (λ k y e. h (suc k) y e))
