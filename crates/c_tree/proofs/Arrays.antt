-- Array types and the bytes of their words.
use Rattle.std.proofs.Common.{◌≡◌, ℕ, ◌*◌, ◌+◌, ◌^◌, ◌≤◌, min, Bool, true, false, List, ◌∷◌, Some, refl, ap, ◌∙◌, sym}
use Rattle.std.proofs.Common.{arith}
use Rattle.std.proofs.lemmas.Bool.{eqb-true, eq-eqb}
use Rattle.std.specs.Prelude.{◌&&◌, ◌==◌, Option, option_map}
use Rattle.c_tree.specs.declared.c_type.TypeWord.{TypeWord}
use Rattle.c_tree.specs.declared.c_type.TypeWord.TheVariants.{Array}
use Rattle.c_tree.specs.Extents.{TypeExtent, extent_of, array_extent, capped}
use Rattle.c_tree.specs.Layout.{array_size}
use Rattle.c_tree.specs.Arrays.{array_word, has_bytes, is_sized}

pub array_is_sized : (structures : List (Option TypeExtent)) (count : ℕ) (element : List TypeWord) (e : TypeExtent)
    → extent_of structures element ≡ Some e → is_sized structures element ≡ true
    → is_sized structures (array_word count e ∷ element) ≡ true
array_is_sized structures count element e h sized =
    ap (λ o. has_bytes count (array_size count e.size) o && is_sized structures element) h
    ∙ ap (λ b. (array_size count e.size == array_size count e.size) && b) sized
    ∙ ap (λ b. b && true) (eq-eqb (array_size count e.size) (array_size count e.size) refl)

pub sized_array : (structures : List (Option TypeExtent)) (count bytes : ℕ) (element : List TypeWord) (e : TypeExtent)
    → extent_of structures element ≡ Some e → is_sized structures (Array count bytes ∷ element) ≡ true
    → bytes ≡ array_size count e.size
sized_array structures count bytes element e h sized =
    let test : (bytes == array_size count e.size) && is_sized structures element ≡ true =
    sym (ap (λ o. has_bytes count bytes o && is_sized structures element) h) ∙ sized in
    eqb-true bytes (array_size count e.size)
    (first (bytes == array_size count e.size) (is_sized structures element) test)
  where
    first : (a b : Bool) → a && b ≡ true → a ≡ true
    first true b t = refl
    first false b t = t

pub extent_of_array : (structures : List (Option TypeExtent)) (count bytes : ℕ) (element : List TypeWord)
    (e : TypeExtent)
    → extent_of structures element ≡ Some e → is_sized structures (Array count bytes ∷ element) ≡ true
    → extent_of structures (Array count bytes ∷ element)
    ≡ Some (record { size = capped (count * e.size); alignment = e.alignment })
unfolding extent_of array_size
extent_of_array structures count bytes element e h sized =
    let size : capped bytes ≡ capped (count * e.size) =
    ap capped (sized_array structures count bytes element e h sized) ∙ omega arith in
    ap (option_map (array_extent bytes)) h ∙ ap (λ n. Some (record { size = n; alignment = e.alignment })) size
