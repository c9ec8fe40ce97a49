-- The start of an expansion stands behind the entries of the functions of the text.
use Rattle.std.proofs.Common.{◌≡◌, ℕ, zero, suc, ◌+◌, ◌<◌, true, false, List, [], ◌∷◌, ◌++◌, length, refl, sym, ap, ◌∙◌}
use Rattle.std.proofs.Common.{arith}
use Rattle.std.specs.Prelude.{slice_get, if◌then◌else◌}
use Rattle.std.proofs.lemmas.List.{length-map}
use Rattle.addr_map.specs.Places.{MapSizes}
use Rattle.c_tree.specs.Programs.{Program}
use Rattle.source_meaning.specs.Calls.{header_of}
use Rattle.tac_ir.specs.Meaning.{header_of_code}
use Rattle.tac_ir.specs.declared.function.CodeFunction.{CodeFunction}
use Rattle.tac_ir.specs.declared.function.Tac.{Tac}
use Rattle.flat_code.specs.declared.function.FlatFunction.{FlatFunction}
use Rattle.flat_code.specs.declared.function.FlatProgram.{FlatProgram}
use Rattle.flat_code.specs.Calls.{function_in, is_of_program}
use Rattle.metadata_plan.specs.Laid.{functions_of, entry_of, program_of}
use Rattle.metadata_plan.specs.OperatorLists.Operators.{operators}
use Rattle.metadata_expansion.specs.Homes.{homes}
use Rattle.machine_laws.specs.Calls.Table.{program_end, source_count}
use Rattle.image_laws.specs.Images.Images.{flat_code, IsChecked}
use Rattle.image_laws.proofs.Images.Checks.{same_as_lowered}
use Rattle.image_laws.proofs.Images.Runtime.{code_count}
use Rattle.image_laws.proofs.Images.Programs.{last_at}
use Rattle.image_laws.proofs.Propagation.Programs.{source_same}

-- behind a function of the program stand those before it
end_at : (p : FlatProgram) (n : ℕ) → ((k : ℕ) → k < n → is_of_program (function_in p k) ≡ true) → program_end p n ≡ n
unfolding program_end
end_at p zero all = refl
end_at p (suc k) all = ap (λ b. if b then suc k else program_end p k) (all k (omega arith))

-- and a function of the runtime changes nothing
end_behind : (p : FlatProgram) (n : ℕ) → is_of_program (function_in p n) ≡ false
    → program_end p (suc n) ≡ program_end p n
unfolding program_end
end_behind p n e = ap (λ b. if b then suc n else program_end p n) e

module _ (m : MapSizes) (t : Tac) where
  of_program : (cs : List CodeFunction) (last : FlatFunction) (k : ℕ) → k < length cs
      → is_of_program (slice_get (functions_of operators m t homes cs ++ (last ∷ [])) k) ≡ true
  of_program [] last k lt = absurd (omega arith)
  of_program (c ∷ cs) last zero lt = refl
  of_program (c ∷ cs) last (suc k) lt = of_program cs last k (omega arith)

  pub start_behind : source_count (flat_code m t) ≡ length t.functions
  start_behind =
      let p = program_of operators m t homes in
      let n = length t.functions in
      let one_more : n + 1 ≡ suc n = omega arith in
      let last : is_of_program (function_in p n) ≡ false = ap is_of_program (last_at m t t.functions (entry_of m t)) in
      source_same m p
      ∙ (ap (program_end p) (code_count m t ∙ one_more)
      ∙ (end_behind p n last ∙ end_at p n (λ k lt. of_program t.functions (entry_of m t) k lt)))

-- as many functions as the text has
pub as_many : (p : Program) (r : Tac) → IsChecked p r → length r.functions ≡ length p.functions
as_many p r h =
    let headers = (same_as_lowered p r h).tables.headers ∙ h.is_lowered.headers in
    sym (length-map r.functions header_of_code) ∙ ap length headers ∙ length-map p.functions header_of
