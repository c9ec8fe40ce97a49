-- Where the entries of the jump table stand.
use Rattle.std.proofs.Common.{◌≡◌, ℕ, zero, suc, ◌+◌, ◌*◌, ◌%◌, ◌<◌, ◌≤◌, Bool, true, false, length}
use Rattle.std.proofs.Common.{refl, sym, ap, ◌∙◌, arith, ⊎_elim, true≢false}
use Rattle.std.specs.Prelude.{nat_lt, if◌then◌else◌}
use Rattle.std.proofs.lemmas.Bool.{cases_lt, lt-ltb, le-ltb}
use Rattle.std.proofs.lemmas.Option.{slice_get_past}
use Rattle.addr_map.specs.Places.{functions_begin, function_address}
use Rattle.flat_code.specs.declared.function.FlatProgram.{FlatProgram}
use Rattle.flat_code.specs.Calls.{function_in, is_of_program}
use Rattle.machine_laws.specs.Calls.Table.{program_end, source_count, start_bytes, row_address}
use Rattle.machine_laws.specs.Blocks.Tails.{tails}

module _ (p : FlatProgram) where
  end_within : (n : ℕ) → program_end p n ≤ n
  unfolding program_end
  end_within zero = omega arith
  end_within (suc k) = by (is_of_program (function_in p k)) (program_end p k) (end_within k)
    where
      by : (b : Bool) (e : ℕ) → e ≤ k → (if b then suc k else e) ≤ suc k
      by true e le = omega arith
      by false e le = omega arith

  -- no more entries stand before the start than there are functions
  pub source_within : source_count p ≤ length p.functions
  source_within = end_within (length p.functions)

  -- a function of the program has an entry before it
  program_before : (n f : ℕ) → f < n → is_of_program (function_in p f) ≡ true → f < program_end p n
  unfolding program_end
  program_before zero f lt of = absurd (omega arith)
  program_before (suc k) f lt of = by (is_of_program (function_in p k)) (program_end p k) refl
      (λ less. program_before k f less of)
    where
      by : (b : Bool) (e : ℕ) → is_of_program (function_in p k) ≡ b → (f < k → f < e) → f < (if b then suc k else e)
      by true e is more = lt
      by false e is more = more (⊎_elim (λ less. less) (λ least.
          let same : f ≡ k = omega arith in
          absurd (true≢false (sym of ∙ ap (λ i. is_of_program (function_in p i)) same ∙ is))) (cases_lt f k))

  row_by : (b : Bool) (f : ℕ) → nat_lt f (source_count p) ≡ b
      → row_address p f ≡ (if b then function_address f else function_address f + start_bytes)
  unfolding row_address
  row_by b f e = ap (λ q. if q then function_address f else function_address f + start_bytes) e

  -- the entries before the start, and those behind the tails
  pub first_row : (f : ℕ) → f < source_count p → row_address p f ≡ functions_begin + 16 * f
  unfolding function_address
  first_row f lt = row_by true f (lt-ltb f (source_count p) lt)

  pub last_row : (f : ℕ) → source_count p ≤ f → row_address p f ≡ functions_begin + 16 * f + start_bytes
  unfolding function_address
  last_row f le = row_by false f (le-ltb f (source_count p) le)

  -- a function of the program has its own address
  pub program_row : (f : ℕ) → is_of_program (function_in p f) ≡ true → row_address p f ≡ function_address f
  unfolding function_address
  program_row f of = ⊎_elim
      (λ lt. first_row f (program_before (length p.functions) f lt of))
      (λ le. absurd (true≢false (sym of ∙ ap is_of_program (slice_get_past p.functions f le))))
      (cases_lt f (length p.functions))

  pub row_whole : (f : ℕ) → row_address p f % 4 ≡ 0
  row_whole f = ⊎_elim (λ lt. let e = first_row f lt in omega arith) (λ le. let e = last_row f le in omega arith)
      (cases_lt f (source_count p))

-- how many instructions the tails have
pub tails_length : length tails ≡ 626
unfolding tails
tails_length = refl
