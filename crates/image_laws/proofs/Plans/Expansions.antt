-- What holds of each function of an expanded program: those of the text, those of the runtime, and the one with which a run
-- begins.
use Rattle.std.proofs.Common.{◌≡◌, ⊎_elim, ℕ, zero, suc, ◌+◌, refl, ◌∙◌, subst, arith}
use Rattle.std.proofs.Common.{List, [], ◌∷◌, ◌++◌, length, Some}
use Rattle.std.specs.Prelude.{slice_get}
use Rattle.std.proofs.lemmas.Option.{same_Some, none-some}
use Rattle.tac_ir.specs.declared.function.CodeFunction.{CodeFunction}
use Rattle.flat_code.specs.declared.function.FlatFunction.{FlatFunction}
use Rattle.flat_code.specs.Calls.{function_in}
use Rattle.metadata_relation.specs.Laid.{function_of, functions_from, entry_of, program_of}
use Rattle.metadata_relation.specs.Blocks.{Expansion}
use Rattle.image_laws.proofs.Plans.Places.{get_append, get_right}

module _ (e : Expansion) (homes : CodeFunction → List ℕ) where
  -- a function of the text at its place
  record IsText (cs : List CodeFunction) (first k : ℕ) (f : FlatFunction) : Type 0 where
    code : CodeFunction
    at : slice_get cs k ≡ Some code
    is : function_of e (first + k) code (homes code) ≡ f

  text_at : (cs : List CodeFunction) (first k : ℕ) (f : FlatFunction)
      → slice_get (functions_from e homes first cs) k ≡ Some f → IsText cs first k f
  text_at [] first k f at = absurd (none-some f at)
  text_at (c ∷ cs) first zero f at =
      let here : first ≡ first + 0 = omega arith in
      record {
        code = c;
        at = refl;
        is = subst (λ u. function_of e u c (homes c) ≡ f) here (same_Some (function_of e first c (homes c)) f at);
      }
  text_at (c ∷ cs) first (suc k) f at =
      let t = text_at cs (suc first) k f at in
      let there : suc first + k ≡ first + suc k = omega arith in
      record {
        code = t.code;
        at = t.at;
        is = subst (λ u. function_of e u t.code (homes t.code) ≡ f) there t.is;
      }

  text_length : (cs : List CodeFunction) (first : ℕ) → length (functions_from e homes first cs) ≡ length cs
  text_length [] first = refl
  text_length (c ∷ cs) first = let same = text_length cs (suc first) in omega (arith, same)

  module _ (runtime : List FlatFunction) where
    abbrev rest : List FlatFunction
    rest = runtime ++ (entry_of e.map e.code ∷ [])

    module _ (P : ℕ → FlatFunction → Type 0)
        (text : (u : ℕ) (c : CodeFunction) → slice_get e.code.functions u ≡ Some c → P u (function_of e u c (homes c)))
        (others : (k : ℕ) (f : FlatFunction) → slice_get runtime k ≡ Some f → P (length e.code.functions + k) f)
        (first : (u : ℕ) → P u (entry_of e.map e.code)) where
      of_text : (k : ℕ) (f : FlatFunction) → IsText e.code.functions 0 k f → P k f
      of_text k f t =
          let here : 0 + k ≡ k = omega arith in
          subst (P k) (subst (λ u. function_of e u t.code (homes t.code) ≡ f) here t.is) (text k t.code t.at)

      behind : (k j : ℕ) (f : FlatFunction) → k ≡ length (functions_from e homes 0 e.code.functions) + j
          → slice_get rest j ≡ Some f → P k f
      behind k j f is at = ⊎_elim of_runtime (λ h. last h.0 h.2) (get_append runtime (entry_of e.map e.code ∷ []) j f at)
        where
          of_runtime : slice_get runtime j ≡ Some f → P k f
          of_runtime here =
              let count = text_length e.code.functions 0 in
              let place : length e.code.functions + j ≡ k = omega (arith, is, count) in
              subst (λ u. P u f) place (others j f here)

          last : (i : ℕ) → slice_get (entry_of e.map e.code ∷ []) i ≡ Some f → P k f
          last zero here = subst (P k) (same_Some (entry_of e.map e.code) f here) (first k)
          last (suc i) here = absurd (none-some f here)

      pub of_each : (k : ℕ) (f : FlatFunction) → function_in (program_of e homes runtime) k ≡ Some f → P k f
      of_each k f at =
          ⊎_elim (λ here. of_text k f (text_at e.code.functions 0 k f here)) (λ h. behind k h.0 f h.1 h.2)
          (get_append (functions_from e homes 0 e.code.functions) rest k f at)

    -- the one with which a run begins is the last
    pub entry_last : function_in (program_of e homes runtime) (length e.code.functions + length runtime)
        ≡ Some (entry_of e.map e.code)
    entry_last =
        let count = text_length e.code.functions 0 in
        get_right (functions_from e homes 0 e.code.functions) rest (length e.code.functions + length runtime)
        (length runtime) (omega (arith, count))
        ∙ get_right runtime (entry_of e.map e.code ∷ []) (length runtime) 0 (omega arith)
