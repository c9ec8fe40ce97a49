-- A function more is generated.
use Rattle.std.proofs.Common.{◌≡◌, ℕ, suc, ◌+◌, ◌*◌, ◌<◌, Bool, true, false, not, List, [], ◌++◌}
use Rattle.std.proofs.Common.{length, get_or, Some, refl, sym, ap, ◌∙◌, subst, arith, ⊎_elim}
use Rattle.std.specs.Prelude.{if◌then◌else◌}
use Rattle.std.proofs.lemmas.Bool.{cases_lt}
use Rattle.std.proofs.lemmas.List.{append-nil}
use Rattle.std.proofs.lemmas.Option.{slice_get_read}
use Rattle.addr_map.specs.Places.{MapSizes}
use Rattle.rv_isa.specs.declared.instruction.Instr.{Instr}
use Rattle.rv_asm.specs.Forms.{IsAssemblable}
use Rattle.flat_code.specs.declared.function.FlatFunction.{FlatFunction}
use Rattle.flat_code.specs.declared.function.FlatProgram.{FlatProgram}
use Rattle.flat_code.specs.Calls.{function_in}
use Rattle.flat_code.specs.Meaning.{is_runtime_function}
use Rattle.reg_plan.specs.declared.plan.FunctionPlan.{FunctionPlan}
use Rattle.machine_laws.specs.Calls.Calls.{row}
use Rattle.machine_laws.specs.Calls.Table.{runtime_begin}
use Rattle.machine_laws.specs.Layout.Lists.{items_of}
use Rattle.machine_laws.specs.Segments.Segments.{is_of, function_words, words_if, words_below, begin_if, begin}
use Rattle.machine_laws.specs.Segments.Segments.{rows_below}
use Rattle.rv_codegen.specs.Generated.{AreBelow}

pub none_below : (m : MapSizes) (p : FlatProgram) (plans : List FunctionPlan) (rows : List Instr)
    (runtime compiled : List ℕ) → rows ≡ [] → runtime ≡ [] → compiled ≡ [] → AreBelow m p plans 0 rows runtime compiled
unfolding words_below rows_below
none_below m p plans rows runtime compiled r t c = record {
  rows_are = r;
  runtime_is = t;
  compiled_is = c;
  assemblable = λ f lt. absurd (omega arith);
}

module _ (m : MapSizes) (p : FlatProgram) (plans : List FunctionPlan) (k : ℕ) where
  next_words : (r : Bool) → words_below m p plans r (k + 1) ≡ words_below m p plans r k ++ words_if m p plans r k
  unfolding words_below
  next_words r = let e : k + 1 ≡ suc k = omega arith in ap (words_below m p plans r) e

  next_rows : rows_below m p plans (k + 1) ≡ rows_below m p plans k ++ row (begin m p plans k)
  unfolding rows_below
  next_rows = let e : k + 1 ≡ suc k = omega arith in ap (rows_below m p plans) e

  its_words : (r : Bool) → is_of r (function_in p k) ≡ true → words_if m p plans r k ≡ function_words m p plans k
  its_words r e = ap (λ b. if b then function_words m p plans k else []) e

  no_words : (r : Bool) → is_of r (function_in p k) ≡ false → words_if m p plans r k ≡ []
  no_words r e = ap (λ b. if b then function_words m p plans k else []) e

  begin_is : (r : Bool) → is_runtime_function (function_in p k) ≡ r → begin m p plans k ≡ begin_if m p plans r k
  unfolding begin
  begin_is r e = ap (λ b. begin_if m p plans b k) e

  able_below : ((f : ℕ) → f < k → IsAssemblable (items_of m p plans f)) → IsAssemblable (items_of m p plans k)
      → (f : ℕ) → f < k + 1 → IsAssemblable (items_of m p plans f)
  able_below h able f lt = ⊎_elim (λ less. h f less)
      (λ least. let same : k ≡ f = omega arith in subst (λ i. IsAssemblable (items_of m p plans i)) same able)
      (cases_lt f k)

  module _ (g : FlatFunction) (functions : List FlatFunction) (functions_are : functions ≡ p.functions)
      (low : k < length p.functions) (read : g ≡ get_or functions k g) (rows rows' : List Instr)
      (runtime runtime' compiled compiled' words : List ℕ) (below : AreBelow m p plans k rows runtime compiled)
      (words_are : words ≡ function_words m p plans k) (able : IsAssemblable (items_of m p plans k)) where
    there : function_in p k ≡ Some g
    there = slice_get_read p.functions (length p.functions) k g refl low
        (read ∙ ap (λ gs. get_or gs k g) functions_are)

    pub runtime_below : g.is_runtime ≡ true
        → rows' ≡ rows ++ row (runtime_begin p + 4 * length runtime)
        → runtime' ≡ runtime ++ words → compiled' ≡ compiled
        → AreBelow m p plans (k + 1) rows' runtime' compiled'
    runtime_below kind r t c =
        let is : is_runtime_function (function_in p k) ≡ true = ap is_runtime_function there ∙ kind in
        let of : is_of true (function_in p k) ≡ true = ap (is_of true) there ∙ kind in
        let not_of : is_of false (function_in p k) ≡ false = ap (is_of false) there ∙ ap not kind in
        let at : runtime_begin p + 4 * length runtime ≡ begin m p plans k =
        ap (λ ws. runtime_begin p + 4 * length ws) below.runtime_is ∙ sym (begin_is true is) in
        record {
          rows_are = r ∙ ap (λ a. rows ++ row a) at ∙ ap (λ is. is ++ row (begin m p plans k)) below.rows_are
              ∙ sym next_rows;
          runtime_is = t ∙ ap (λ ws. runtime ++ ws) (words_are ∙ sym (its_words true of))
              ∙ ap (λ ws. ws ++ words_if m p plans true k) below.runtime_is ∙ sym (next_words true);
          compiled_is = c ∙ below.compiled_is
              ∙ sym (next_words false ∙ ap (λ ws. words_below m p plans false k ++ ws) (no_words false not_of)
              ∙ append-nil (words_below m p plans false k));
          assemblable = able_below below.assemblable able;
        }

    pub compiled_below : g.is_runtime ≡ false → rows' ≡ rows ++ row (0x100000 + 4 * length compiled)
        → runtime' ≡ runtime → compiled' ≡ compiled ++ words
        → AreBelow m p plans (k + 1) rows' runtime' compiled'
    compiled_below kind r t c =
        let is : is_runtime_function (function_in p k) ≡ false = ap is_runtime_function there ∙ kind in
        let of : is_of false (function_in p k) ≡ true = ap (is_of false) there ∙ ap not kind in
        let not_of : is_of true (function_in p k) ≡ false = ap (is_of true) there ∙ kind in
        let at : 0x100000 + 4 * length compiled ≡ begin m p plans k =
        ap (λ ws. 0x100000 + 4 * length ws) below.compiled_is ∙ sym (begin_is false is) in
        record {
          rows_are = r ∙ ap (λ a. rows ++ row a) at ∙ ap (λ is. is ++ row (begin m p plans k)) below.rows_are
              ∙ sym next_rows;
          runtime_is = t ∙ below.runtime_is
              ∙ sym (next_words true ∙ ap (λ ws. words_below m p plans true k ++ ws) (no_words true not_of)
              ∙ append-nil (words_below m p plans true k));
          compiled_is = c ∙ ap (λ ws. compiled ++ ws) (words_are ∙ sym (its_words false of))
              ∙ ap (λ ws. ws ++ words_if m p plans false k) below.compiled_is ∙ sym (next_words false);
          assemblable = able_below below.assemblable able;
        }
