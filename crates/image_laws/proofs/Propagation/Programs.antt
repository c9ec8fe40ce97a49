-- What a propagated program has of the program: its functions, their number and the places of their entries.
use Rattle.std.proofs.Common.{◌≡◌, ℕ, zero, suc, Bool, true, false, Option, Some, None, length, refl, ap, ◌∙◌}
use Rattle.std.specs.Prelude.{if◌then◌else◌}
use Rattle.std.specs.Option.{option_map}
use Rattle.std.proofs.lemmas.List.{length-map}
use Rattle.addr_map.specs.Places.{MapSizes}
use Rattle.flat_code.specs.declared.function.FlatFunction.{FlatFunction}
use Rattle.flat_code.specs.declared.function.FlatProgram.{FlatProgram}
use Rattle.flat_code.specs.Calls.{function_in, is_of_program}
use Rattle.machine_laws.specs.Calls.Table.{program_end, source_count}
use Rattle.machine_laws.specs.Segments.Segments.{is_of}
use Rattle.flat_propagation.specs.Propagated.{propagated_function, propagated}
use Rattle.flat_propagation.proofs.Meaning.{function_same, of_program_same}

module _ (m : MapSizes) (p : FlatProgram) where
  pub count_same : length (propagated p).functions ≡ length p.functions
  unfolding propagated
  count_same = length-map p.functions propagated_function

  pub side_same : (runtime : Bool) (f : ℕ) → is_of runtime (function_in (propagated p) f) ≡ is_of runtime (function_in p f)
  side_same runtime f = ap (is_of runtime) (function_same m p f) ∙ by runtime (function_in p f)
    where
      by : (runtime : Bool) (o : Option FlatFunction) → is_of runtime (option_map propagated_function o)
          ≡ is_of runtime o
      by runtime None = refl
      by true (Some g) = refl
      by false (Some g) = refl

  end_same : (n : ℕ) → program_end (propagated p) n ≡ program_end p n
  unfolding program_end
  end_same zero = refl
  end_same (suc k) =
      ap (λ b. if b then suc k else program_end (propagated p) k) (of_program_same m p k)
      ∙ ap (λ n. if is_of_program (function_in p k) then suc k else n) (end_same k)

  pub source_same : source_count (propagated p) ≡ source_count p
  source_same = end_same (length (propagated p).functions) ∙ ap (program_end p) count_same
