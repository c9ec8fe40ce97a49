-- The functions of a program, each by entries of its own.
use Rattle.std.proofs.Common.{◌≡◌, ℕ, zero, suc, ◌+◌, ◌^◌, ◌<◌, nat_lt, Bool, true, false, List, [], ◌∷◌, ◌++◌}
use Rattle.std.proofs.Common.{length}
use Rattle.std.proofs.Common.{Option, Some, None, slice_get, refl, sym, ap, ◌∙◌, subst, arith}
use Rattle.std.proofs.lemmas.Bool.{ltb-true, ltb-false}
use Rattle.std.proofs.lemmas.Option.{same_Some, none-some}
use Rattle.std.proofs.Math.Path.{fun_ext}
use Rattle.addr_map.specs.Places.{MapSizes}
use Rattle.tac_ir.specs.declared.instruction.Instruction.{Instruction}
use Rattle.tac_ir.specs.declared.function.CodeFunction.{CodeFunction}
use Rattle.tac_ir.specs.declared.function.Tac.{Tac}
use Rattle.flat_code.specs.declared.function.FlatFunction.{FlatFunction}
use Rattle.flat_code.specs.declared.function.FlatProgram.{FlatProgram}
use Rattle.shadow_space.specs.Form.{EntryCode}
use Rattle.metadata_plan.specs.Entries.{AreClosed, Entries, every}
use Rattle.metadata_plan.specs.Laid.{body_of}
use Rattle.metadata_relation.specs.Contents.{Contents}
use Rattle.metadata_relation.specs.FunctionTypes.{HaveTypeKeys}
use Rattle.metadata_relation.specs.InlineLists.{inline_lists}
use Rattle.metadata_relation.specs.Blocks.{Expansion, block, prologue}
use Rattle.metadata_relation.specs.Homes.{homes}
use Rattle.metadata_relation.specs.Laid.{entry_of, function_of, functions_from}
use Rattle.instruction_selection.proofs.OneEntry.{by_one}
use Rattle.program_expansion.specs.Expansions.{AreFunctionsOf, HasFunction, IsExpansionOf, IsFunctionOf}
use Rattle.program_expansion.specs.Expansions.{Refuses, expansion_of, expansion_with, flat_function, types_by}
use Rattle.program_expansion.specs.Limits.{AreWithinLimits}
use Rattle.program_expansion.specs.Tables.{AreTables, FunctionRefusal}
use Rattle.program_expansion.specs.declared.error.ExpandError.{ExpandError}
use Rattle.program_expansion.specs.declared.error.ExpandError.TheVariants.{Memory, OutsideLimits, TooManyInstructions}
use Rattle.program_expansion.specs.declared.tables.Tables.{Tables}

abbrev pub program_by : List FlatFunction → (entry : ℕ) → FlatProgram
program_by fs n = record { functions = fs; entry = n }

module _ (read write : EntryCode) (m : MapSizes) (t : Tac) (types : ℕ → ℕ) where
  -- ---- blocks depend on the entries of their function alone

  same_block : (entries : (function : ℕ) → Entries) (contents : (function : ℕ) → Contents) (u : ℕ) (c : CodeFunction)
      (i : Instruction)
      → block (expansion_of read write m t types (λ v. entries u)) 0 c i
      ≡ block (expansion_with read write m t types entries contents) u c i
  same_block entries contents u c i =
      by_one (inline_lists read write m) m t types types (λ v. entries u) (λ v n y. false) (λ f. refl) 0 c i
      ∙ sym (by_one (inline_lists read write m) m t types types entries contents (λ f. refl) u c i)

  same_body : (entries : (function : ℕ) → Entries) (contents : (function : ℕ) → Contents) (u : ℕ) (c : CodeFunction)
      → body_of (block (expansion_of read write m t types (λ v. entries u)) 0 c)
      (prologue (expansion_of read write m t types (λ v. entries u)) c) c
      ≡ body_of (block (expansion_with read write m t types entries contents) u c)
      (prologue (expansion_with read write m t types entries contents) c) c
  same_body entries contents u c =
      ap (λ put. body_of put (prologue (expansion_with read write m t types entries contents) c) c)
      (fun_ext (same_block entries contents u c))

  -- ---- one function more

  pub none_done : AreFunctionsOf read write m t types 0 []
  none_done = record { size = refl; each = λ u c low there. absurd (omega (arith, low)) }

  there_before : (xs ys : List FlatFunction) (u : ℕ) → u < length xs → slice_get (xs ++ ys) u ≡ slice_get xs u
  there_before [] ys u low = absurd (omega (arith, low))
  there_before (x ∷ xs) ys zero low = refl
  there_before (x ∷ xs) ys (suc u) low = there_before xs ys u (omega (arith, low))

  there_last : (xs : List FlatFunction) (f : FlatFunction) (u : ℕ) → u ≡ length xs → slice_get (xs ++ f ∷ []) u ≡ Some f
  there_last [] f zero e = refl
  there_last [] f (suc u) e = absurd (omega (arith, e))
  there_last (x ∷ xs) f zero e = absurd (omega (arith, e))
  there_last (x ∷ xs) f (suc u) e = there_last xs f u (omega (arith, e))

  longer : (xs ys : List FlatFunction) → length (xs ++ ys) ≡ length xs + length ys
  longer [] ys = omega arith
  longer (x ∷ xs) ys = let rest = longer xs ys in omega (arith, rest)

  pub one_more_done : (k : ℕ) (c : CodeFunction) (list after : List FlatFunction) (f : FlatFunction)
      → slice_get t.functions k ≡ Some c → AreFunctionsOf read write m t types k list
      → IsFunctionOf read write m t types c f → after ≡ list ++ f ∷ [] → AreFunctionsOf read write m t types (k + 1) after
  one_more_done k c list after f there h one put =
      subst (λ fs. AreFunctionsOf read write m t types (k + 1) fs) (sym put) (record {
        size = let more = longer list (f ∷ []) in let same = h.size in omega (arith, more, same);
        each = λ u d low at. by (nat_lt u k) u d refl low at;
      })
    where
      by : (b : Bool) → (u : ℕ) (d : CodeFunction) → nat_lt u k ≡ b → u < k + 1 → slice_get t.functions u ≡ Some d
          → HasFunction read write m t types d (slice_get (list ++ f ∷ []) u)
      by true u d lt low at =
          let before = ltb-true u k lt in
          let same = h.size in
          let old = h.each u d before at in
          record { flat = old.flat; at = there_before list (f ∷ []) u (omega (arith, before, same)) ∙ old.at; is = old.is }
      by false u d ge low at =
          let le = ltb-false u k ge in
          let same : u ≡ k = omega (arith, le, low) in
          let all = h.size in
          let one_of : c ≡ d = same_Some _ _ (sym there ∙ (ap (slice_get t.functions) (sym same) ∙ at)) in
          record {
            flat = f;
            at = there_last list f u (omega (arith, same, all));
            is = subst (λ z. IsFunctionOf read write m t types z f) one_of one;
          }

  -- ---- all functions

  in_range : (cs : List CodeFunction) (u : ℕ) (c : CodeFunction) → slice_get cs u ≡ Some c → u < length cs
  in_range [] u c e = cc
  in_range (x ∷ cs) zero c e = omega arith
  in_range (x ∷ cs) (suc u) c e = let rest = in_range cs u c e in omega (arith, rest)

  module _ (list : List FlatFunction) (all : AreFunctionsOf read write m t types (length t.functions) list) where
    found : (u : ℕ) (c : CodeFunction) → slice_get t.functions u ≡ Some c
        → HasFunction read write m t types c (slice_get list u)
    found u c e = all.each u c (in_range t.functions u c e) e

    -- the entries that were found for each
    entries_by : (u : ℕ) (o : Option CodeFunction) → slice_get t.functions u ≡ o → Entries
    entries_by u None e = every
    entries_by u (Some c) e = (found u c e).is.body.entries

    abbrev entries_of : (function : ℕ) → Entries
    entries_of u = entries_by u (slice_get t.functions u) refl

    -- what holds of a function by the entries that were found for it
    record Fits (u : ℕ) (c : CodeFunction) (entries : Entries) : Type 0 where
      pub closed : AreClosed t c entries
      pub flat : FlatFunction
      pub there : slice_get list u ≡ Some flat
      pub is : flat ≡ flat_function t c (body_of (block (expansion_of read write m t types (λ v. entries)) 0 c)
          (prologue (expansion_of read write m t types (λ v. entries)) c) c)

    fits_by : (u : ℕ) (o : Option CodeFunction) (e : slice_get t.functions u ≡ o) (c : CodeFunction) → o ≡ Some c
        → Fits u c (entries_by u o e)
    unfolding entries_by
    fits_by u None e c same = absurd (none-some _ same)
    fits_by u (Some d) e c same =
        let h = found u d e in
        subst (λ z. Fits u z h.is.body.entries) (same_Some _ _ same) (record {
          closed = h.is.body.closed;
          flat = h.flat;
          there = h.at;
          is = h.is.is ∙ ap (λ body. flat_function t d body) h.is.body.is;
        })

    fits : (u : ℕ) (c : CodeFunction) → slice_get t.functions u ≡ Some c → Fits u c (entries_of u)
    fits u c e = fits_by u (slice_get t.functions u) refl c e

    module _ (contents : (function : ℕ) → Contents) where
      abbrev whole : Expansion
      whole = expansion_with read write m t types entries_of contents

      listed : (u : ℕ) (c : CodeFunction) → slice_get t.functions u ≡ Some c
          → slice_get list u ≡ Some (function_of whole u c (homes c))
      listed u c e =
          let h = fits u c e in
          h.there ∙ ap Some (h.is ∙ ap (λ body. flat_function t c body) (same_body entries_of contents u c))

      all_listed : (cs : List CodeFunction) (fs : List FlatFunction) (k : ℕ) → length fs ≡ length cs
          → ((u j : ℕ) (c : CodeFunction) → j ≡ k + u → slice_get cs u ≡ Some c
          → slice_get fs u ≡ Some (function_of whole j c (homes c))) → fs ≡ functions_from whole homes k cs
      all_listed [] [] k e h = refl
      all_listed [] (f ∷ fs) k e h = absurd (omega (arith, e))
      all_listed (c ∷ cs) [] k e h = absurd (omega (arith, e))
      all_listed (c ∷ cs) (f ∷ fs) k e h =
          let first : f ≡ function_of whole k c (homes c) = same_Some _ _ (h 0 k c (omega arith) refl) in
          let rest : fs ≡ functions_from whole homes (suc k) cs =
          all_listed cs fs (suc k) (omega (arith, e)) (λ u j d at there. h (suc u) j d (omega (arith, at)) there) in
          ap (λ g. g ∷ fs) first ∙ ap (λ gs. function_of whole k c (homes c) ∷ gs) rest

      whole_list : list ≡ functions_from whole homes 0 t.functions
      whole_list =
          all_listed t.functions list 0 all.size
          (λ u j c at there. subst (λ k. slice_get list u ≡ Some (function_of whole k c (homes c)))
          (let back : u ≡ j = omega (arith, at) in back) (listed u c there))

    pub whole_program : (runtime : List FlatFunction) (p : FlatProgram) → HaveTypeKeys t.functions types
        → ((f : ℕ) → types f < 2 ^ 63) → AreWithinLimits t
        → p ≡ record { functions = list ++ (runtime ++ entry_of m t ∷ []); entry = length t.functions + length runtime }
        → IsExpansionOf read write m t runtime p
    whole_program runtime p keys low limits made = record {
      types = types;
      entries = entries_of;
      keys = keys;
      low = low;
      closed = record { by = λ u c e. (fits u c e).closed };
      areas = record { each = λ u c e. (limits.functions u c e).areas };
      is = λ contents. made
          ∙ ap (λ fs. record {
            functions = fs ++ (runtime ++ entry_of m t ∷ []);
            entry = length t.functions + length runtime;
          })
          (whole_list contents);
    }

-- ---- programs

pub programs_same : (fs gs : List FlatFunction) (n k : ℕ) → fs ≡ gs → n ≡ k → program_by fs n ≡ program_by gs k
programs_same fs gs n k same also = ap (λ xs. program_by xs n) same ∙ ap (λ j. program_by gs j) also

pub refused : (read write : EntryCode) (x : Tables) (n : ℕ) (c : CodeFunction) (e : ExpandError) → AreTables x
    → slice_get x.program.now.functions n ≡ Some c → FunctionRefusal read write x c e
    → Refuses read write x.map.now x.program.now e
refused read write x n c OutsideLimits h there r = absurd r
refused read write x n c TooManyInstructions h there r = record {
  types = types_by x.types.now;
  keys = h.keys;
  number = n;
  function = c;
  there = there;
  long = r;
}
refused read write x n c Memory h there r = tt
