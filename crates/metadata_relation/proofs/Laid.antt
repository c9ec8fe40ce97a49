-- The functions of a laid program stand where the relation asks for them.
use Rattle.std.proofs.Common.{◌≡◌, ℕ, zero, suc, ◌+◌, refl, sym, ap, ◌∙◌, subst, arith, List, [], ◌∷◌, ◌++◌}
use Rattle.std.proofs.Common.{length, Some}
use Rattle.std.specs.Prelude.{slice_get}
use Rattle.std.proofs.lemmas.Option.{same_Some, none-some}
use Rattle.addr_map.specs.Places.{MapSizes, region_size}
use Rattle.tac_ir.specs.declared.function.CodeFunction.{CodeFunction}
use Rattle.flat_code.specs.declared.function.FlatFunction.{FlatFunction}
use Rattle.flat_code.specs.Memory.{Bytes}
use Rattle.flat_code.specs.Routines.Metadata.{View}
use Rattle.runtime_functions.specs.declared.runtime.RuntimeFunction.{RuntimeFunction}
use Rattle.runtime_functions.specs.Runtime.{runtime_list, IsOfRuntime, AreOfRuntime}
use Rattle.metadata_plan.specs.Entries.{AreAllClosed}
use Rattle.metadata_plan.specs.Laid.{place_of}
use Rattle.metadata_plan.proofs.Laying.{begin_stands, begins, block_stands, leads_on}
use Rattle.metadata_relation.specs.Contents.{AreKept}
use Rattle.metadata_relation.specs.FunctionTypes.{HaveTypeKeys}
use Rattle.metadata_relation.specs.Blocks.{Expansion, block, prologue}
use Rattle.metadata_relation.specs.Expanded.{IsExpandedFunction, ExpandsAt, IsRuntimeAt, EntersAt, IsExpanded}
use Rattle.metadata_relation.specs.Laid.{function_of, functions_from, entry_of, place_in, address_of, layout_of}

-- ---- lists behind lists

pub in_front : {A : Type 0} (xs ys : List A) (k : ℕ) (x : A) → slice_get xs k ≡ Some x → slice_get (xs ++ ys) k ≡ Some x
in_front [] ys k x e = absurd (none-some x e)
in_front (z ∷ xs) ys zero x e = e
in_front (z ∷ xs) ys (suc k) x e = in_front xs ys k x e

pub last_at : {A : Type 0} (xs : List A) (x : A) → slice_get (xs ++ (x ∷ [])) (length xs) ≡ Some x
last_at [] x = refl
last_at (z ∷ xs) x = last_at xs x

-- ---- the functions of the text

function_expands : (e : Expansion) (u : ℕ) (c : CodeFunction) (homes : List ℕ)
    → IsExpandedFunction e u c (place_of (block e u c) (prologue e c) c) (function_of e u c homes)
function_expands e u c homes =
    let put = block e u c in
    let begin = prologue e c in
    record {
      parameters = refl;
      results = refl;
      room = refl;
      of_program = refl;
      begun = begin_stands put begin c;
      begins = begins put begin c;
      blocks = λ n i there. record {
        has = block_stands put begin c n i there;
        leads = leads_on put begin c n i there;
      };
    }

module _ (e : Expansion) (homes : CodeFunction → List ℕ) where
  text_at : (cs : List CodeFunction) (first : ℕ) (last : List FlatFunction) (u : ℕ) (c : CodeFunction)
      → slice_get cs u ≡ Some c
      → slice_get (functions_from e homes first cs ++ last) u ≡ Some (function_of e (first + u) c (homes c))
  text_at [] first last u c there = absurd (none-some c there)
  text_at (x ∷ cs) first last zero c there =
      let same : x ≡ c = same_Some x c there in
      let number : first ≡ first + 0 = omega arith in
      ap (λ z. Some (function_of e first z (homes z))) same ∙ ap (λ n. Some (function_of e n c (homes c))) number
  text_at (x ∷ cs) first last (suc u) c there =
      let number : suc first + u ≡ first + suc u = omega arith in
      text_at cs (suc first) last u c there ∙ ap (λ n. Some (function_of e n c (homes c))) number

  behind_text : (cs : List CodeFunction) (first : ℕ) (last : List FlatFunction) (k j : ℕ) → k ≡ length cs + j
      → slice_get (functions_from e homes first cs ++ last) k ≡ slice_get last j
  behind_text [] first last k j at = let same : k ≡ j = omega (arith, at) in ap (slice_get last) same
  behind_text (x ∷ cs) first last zero j at = absurd (omega (arith, at))
  behind_text (x ∷ cs) first last (suc k) j at = behind_text cs (suc first) last k j (omega (arith, at))

-- ---- those of the runtime

module _ (m : MapSizes) (entry : View) (IsGood : Bytes → Type 0) where
  record IsListed (f : RuntimeFunction) (gs : List FlatFunction) (k : ℕ) : Type 0 where
    function : FlatFunction
    there : slice_get gs k ≡ Some function
    is : IsOfRuntime m entry IsGood f function

  listed : (fs : List RuntimeFunction) (gs : List FlatFunction) → AreOfRuntime m entry IsGood fs gs → (k : ℕ)
      (f : RuntimeFunction) → slice_get fs k ≡ Some f → IsListed f gs k
  listed [] gs are k f e = absurd (none-some f e)
  listed (x ∷ fs) [] are k f e = absurd are
  listed (x ∷ fs) (g ∷ gs) are zero f e = record {
    function = g;
    there = refl;
    is = subst (λ z. IsOfRuntime m entry IsGood z g) (same_Some x f e) are.0;
  }
  listed (x ∷ fs) (g ∷ gs) are (suc k) f e =
      let h = listed fs gs are.1 k f e in
      record { function = h.function; there = h.there; is = h.is }

  fits : (f : RuntimeFunction) (g : FlatFunction) → IsOfRuntime m entry IsGood f g
      → IsRuntimeAt m entry IsGood f (Some g)
  unfolding region_size
  fits f g is = let room = is.is.room in (is, omega (arith, room))

enters : (e : Expansion) → EntersAt e (Some (entry_of e.map e.code))
unfolding region_size
enters e = record { parameters = refl; of_runtime = refl; room = omega arith; body = refl }

-- ---- the program

pub program_expands : (e : Expansion) (homes : CodeFunction → List ℕ) (runtime : List FlatFunction) (entry : View)
    (IsGood : Bytes → Type 0) → AreOfRuntime e.map entry IsGood runtime_list runtime
    → HaveTypeKeys e.code.functions e.types → AreAllClosed e.code e.entries
    → ((u : ℕ) (c : CodeFunction) → slice_get e.code.functions u ≡ Some c
    → AreKept e.code c (e.contents u))
    → IsExpanded (layout_of e homes runtime) entry IsGood
program_expands e homes runtime entry IsGood are types closed kept =
    let cs = e.code.functions in
    let last = entry_of e.map e.code in
    let behind = runtime ++ (last ∷ []) in
    record {
      functions = λ u c there.
          let number : 0 + u ≡ u = omega arith in
          let at = text_at e homes cs 0 behind u c there
          ∙ ap (λ n. Some (function_of e n c (homes c))) number in
          subst (ExpandsAt e u c (address_of e u)) (sym at)
          (subst (λ z. IsExpandedFunction e u c (place_in e u z) (function_of e u c (homes c))) (sym there)
          (function_expands e u c (homes c)));
      runtime = λ k f there.
          let h = listed e.map entry IsGood runtime_list runtime are k f there in
          let at = behind_text e homes cs 0 behind (length cs + k) k refl
          ∙ in_front runtime (last ∷ []) k h.function h.there in
          subst (IsRuntimeAt e.map entry IsGood f) (sym at) (fits e.map entry IsGood f h.function h.is);
      enters = subst (EntersAt e)
          (sym (behind_text e homes cs 0 behind (length cs + length runtime) (length runtime) refl
          ∙ last_at runtime last)) (enters e);
      types = types;
      closed = closed;
      kept = kept;
    }
