-- Extents of types without their qualifiers, and of what structures have as members.
use Rattle.std.proofs.Common.{◌≡◌, ℕ, zero, suc, ◌+◌, ◌*◌, ◌^◌, ◌<◌, ◌≤◌, true, ◌&&◌, refl, ap, ◌∙◌}
use Rattle.std.proofs.Common.{List, [], ◌∷◌, Option, Some, None, arith, mul-le-mul_right}
use Rattle.std.specs.Prelude.{option_map, ◌==◌}
use Rattle.std.proofs.lemmas.Bool.{eqb-true}
use Rattle.c_tree.specs.declared.c_type.TypeWord.{TypeWord}
use Rattle.c_tree.specs.declared.c_type.TypeWord.TheVariants as word
use Rattle.c_tree.specs.Arrays.{has_bytes}
use Rattle.c_tree.specs.Extents.{TypeExtent, array_extent, capped, extent_of}
use Rattle.c_tree.specs.Kinds.{is_size}
use Rattle.c_tree.specs.Layout.{array_size}
use Rattle.c_rules.specs.declared.class.Target.TheVariants as target
use Rattle.c_rules.specs.Types.{target_of, unqualified}
use Rattle.c_place_laws.proofs.Sizes.{Complete, complete}
use Rattle.typing_laws.proofs.Validity.Common.{first, second, the_same}
use Rattle.typing_laws.proofs.Validity.Moved.{size_high}
use Rattle.typing_laws.proofs.Declarators.Types.{is_size_of, size_low}
use Rattle.typing_laws.specs.Layouts.Listed.{has_array_bytes}
use Rattle.typing_laws.specs.Initializers.Placing.{HasExtent}

-- qualifiers change no extent

pub unqualified_extent : (es : List (Option TypeExtent)) (ws : List TypeWord)
    → extent_of es (unqualified ws) ≡ extent_of es ws
unfolding extent_of
unqualified_extent es [] = refl
unqualified_extent es (word.Void ∷ ws) = refl
unqualified_extent es (word.Integer t ∷ ws) = refl
unqualified_extent es (word.Enumeration n ∷ ws) = refl
unqualified_extent es (word.Pointer ∷ ws) = refl
unqualified_extent es (word.Array count bytes ∷ ws) = refl
unqualified_extent es (word.OpenArray ∷ ws) = refl
unqualified_extent es (word.Structure n ∷ ws) = refl
unqualified_extent es (word.Const ∷ ws) = unqualified_extent es ws
unqualified_extent es (word.Takes ∷ ws) = refl
unqualified_extent es (word.Gives ∷ ws) = refl

pub unqualified_arrays : (es : List (Option TypeExtent)) (ws : List TypeWord)
    → has_array_bytes es (unqualified ws) ≡ has_array_bytes es ws
unqualified_arrays es [] = refl
unqualified_arrays es (word.Void ∷ ws) = refl
unqualified_arrays es (word.Integer t ∷ ws) = refl
unqualified_arrays es (word.Enumeration n ∷ ws) = refl
unqualified_arrays es (word.Pointer ∷ ws) = refl
unqualified_arrays es (word.Array count bytes ∷ ws) = refl
unqualified_arrays es (word.OpenArray ∷ ws) = refl
unqualified_arrays es (word.Structure n ∷ ws) = refl
unqualified_arrays es (word.Const ∷ ws) = unqualified_arrays es ws
unqualified_arrays es (word.Takes ∷ ws) = refl
unqualified_arrays es (word.Gives ∷ ws) = refl

pub unqualified_has : (es : List (Option TypeExtent)) (size : ℕ) (ws : List TypeWord) → HasExtent es size ws
    → HasExtent es size (unqualified ws)
unqualified_has es size ws h = record {
  extent = h.extent;
  complete = unqualified_extent es ws ∙ h.complete;
  bytes = h.bytes;
  object = h.object;
  arrays = unqualified_arrays es ws ∙ h.arrays;
}

-- an object of a complete type

pub target_extent : (es : List (Option TypeExtent)) (ws : List TypeWord) (n : ℕ)
    → target_of es ws ≡ target.Object n → Complete (extent_of es ws) n
unfolding extent_of
target_extent es [] n e = complete (extent_of es []) n e
target_extent es (word.Void ∷ ws) n e = absurd cc
target_extent es (word.Integer t ∷ ws) n e = complete (extent_of es (word.Integer t ∷ ws)) n e
target_extent es (word.Enumeration m ∷ ws) n e = complete (extent_of es (word.Enumeration m ∷ ws)) n e
target_extent es (word.Pointer ∷ ws) n e = complete (extent_of es (word.Pointer ∷ ws)) n e
target_extent es (word.Array count bytes ∷ ws) n e = complete (extent_of es (word.Array count bytes ∷ ws)) n e
target_extent es (word.OpenArray ∷ ws) n e = complete (extent_of es (word.OpenArray ∷ ws)) n e
target_extent es (word.Structure m ∷ ws) n e = complete (extent_of es (word.Structure m ∷ ws)) n e
target_extent es (word.Const ∷ ws) n e = target_extent es ws n e
target_extent es (word.Takes ∷ ws) n e = absurd cc
target_extent es (word.Gives ∷ ws) n e = absurd cc

-- an array and its elements

pub record HasElements (es : List (Option TypeExtent)) (count size : ℕ) (element : List TypeWord) : Type 0 where
  pub each : ℕ
  pub has : HasExtent es each element
  pub all : count * each ≡ size

pub rows : (n count each : ℕ) → n < count → n * each + each ≤ count * each
rows n count each low =
    let more : n + 1 ≤ count = omega arith in
    let all : (n + 1) * each ≤ count * each = mul-le-mul_right each more in
    grind (arith, all)

some_row : (count each : ℕ) → 1 ≤ count * each → (1 ≤ count) × (1 ≤ each)
some_row zero each low = absurd (grind (arith, low))
some_row (suc count) zero low = absurd (grind (arith, low))
some_row (suc count) (suc each) low = (omega arith, omega arith)

capped_is : (n : ℕ) → capped n ≤ 2 ^ 32 → capped n ≡ n
capped_is n low = omega arith

elements_by : (es : List (Option TypeExtent)) (count bytes size : ℕ) (element : List TypeWord)
    (o : Option TypeExtent) (e : TypeExtent) → extent_of es element ≡ o → option_map (array_extent bytes) o ≡ Some e
    → e.size ≡ size → is_size size ≡ true → (has_bytes count bytes o && has_array_bytes es element) ≡ true
    → HasElements es count size element
unfolding array_size
elements_by es count bytes size element None e is whole same sized arrays = absurd cc
elements_by es count bytes size element (Some x) e is whole same sized arrays =
    let own : bytes ≡ capped (count * x.size) =
    eqb-true bytes (array_size count x.size)
    (first (bytes == array_size count x.size) (has_array_bytes es element) arrays) in
    let of : capped bytes ≡ e.size = ap (λ e. e.size) (the_same whole) in
    let low = size_low size sized in
    let high = size_high size sized in
    let product : count * x.size ≡ size = omega (arith, own, of, same, low, high) in
    let some = some_row count x.size (omega (arith, product, low)) in
    let fits = rows 0 count x.size (omega (arith, some.0)) in
    record {
      each = x.size;
      has = record {
        extent = x;
        complete = is;
        bytes = refl;
        object = is_size_of x.size some.1 (omega (arith, fits, product, high));
        arrays = second (bytes == array_size count x.size) (has_array_bytes es element) arrays;
      };
      all = product;
    }

pub array_elements : (es : List (Option TypeExtent)) (count bytes size : ℕ) (element : List TypeWord)
    → HasExtent es size (word.Array count bytes ∷ element) → HasElements es count size element
unfolding extent_of
array_elements es count bytes size element h =
    elements_by es count bytes size element (extent_of es element) h.extent refl h.complete h.bytes h.object h.arrays
