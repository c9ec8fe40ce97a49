-- The data with which the image of an expansion begins: its static objects, and the entries of their pointers.
use Rattle.std.proofs.Common.{◌≡◌, ℕ, zero, suc, ◌+◌, ◌-◌, ◌<◌, ◌≤◌, List, [], ◌∷◌, ◌++◌, length}
use Rattle.std.proofs.Common.{get_or, refl, sym, ap, ◌∙◌, arith}
use Rattle.std.specs.Prelude.{replicate, if◌then◌else◌}
use Rattle.std.specs.List.{All}
use Rattle.std.proofs.Common.{length-append}
use Rattle.std.proofs.lemmas.Bool.{lt-ltb, le-ltb}
use Rattle.addr_map.specs.declared.region.Region.TheVariants.{Globals, Shadow}
use Rattle.addr_map.specs.Places.{MapSizes, AreMapped, objects_begin, spaces_begin, region_start, region_size}
use Rattle.addr_map.specs.Places.{region_end}
use Rattle.obj_memory.specs.Heap.{rounded_up}
use Rattle.obj_memory.specs.Objects.{Objects, object_at}
use Rattle.obj_memory.specs.Sound.{IsSoundObject}
use Rattle.tac_ir.specs.declared.function.StaticData.{StaticData}
use Rattle.tac_ir.specs.Meaning.{placed_data}
use Rattle.flat_code.specs.Memory.{Bytes}
use Rattle.flat_code.specs.Routines.Metadata.{View}
use Rattle.shadow_space.specs.declared.start.StartEntry.{StartEntry}
use Rattle.shadow_space.specs.Start.{StartsShadow}
use Rattle.machine_laws.specs.Following.Matching.{object_bytes, space_bytes}
use Rattle.rv_codegen.specs.MachineImages.Image.{filled, data_memory}
use Rattle.metadata_relation.specs.StartData.{bytes_of_statics, statics_end, HoldsStatics, AreSpacesInFile}

-- ---- zeros behind a list change nothing that is read

abbrev zeros : ℕ → List ℕ
zeros n = replicate n 0

abbrev at : List ℕ → ℕ → ℕ
at xs i = get_or xs i 0

zero_at : (k i : ℕ) → at (zeros k) i ≡ zero
zero_at zero i = refl
zero_at (suc k) zero = refl
zero_at (suc k) (suc i) = zero_at k i

padded_at : (xs : List ℕ) (k i : ℕ) → at (xs ++ zeros k) i ≡ at xs i
padded_at [] k i = zero_at k i
padded_at (x ∷ xs) k zero = refl
padded_at (x ∷ xs) k (suc i) = padded_at xs k i

past_end : (xs : List ℕ) (i : ℕ) → length xs ≤ i → at xs i ≡ zero
past_end [] i past = refl
past_end (x ∷ xs) zero past = absurd (omega (arith, past))
past_end (x ∷ xs) (suc i) past = past_end xs i (omega (arith, past))

module _ (m : MapSizes) (objects spaces : List ℕ) where
  abbrev memory : Bytes
  memory = data_memory (filled (object_bytes m) objects) (filled (space_bytes m) spaces)

  object_at_is : (i : ℕ) → objects_begin + i < spaces_begin → memory (objects_begin + i) ≡ at objects i
  object_at_is i low =
      let same : objects_begin + i - objects_begin ≡ i = omega arith in
      ap (λ b. if b then get_or (filled (object_bytes m) objects) (objects_begin + i - objects_begin) 0
      else get_or (filled (space_bytes m) spaces) (objects_begin + i - spaces_begin) 0)
      (lt-ltb (objects_begin + i) spaces_begin low)
      ∙ ap (λ j. get_or (filled (object_bytes m) objects) j 0) same
      ∙ padded_at objects (object_bytes m - length objects) i

  space_at_is : (i : ℕ) → memory (spaces_begin + i) ≡ at spaces i
  space_at_is i =
      let same : spaces_begin + i - spaces_begin ≡ i = omega arith in
      ap (λ b. if b then get_or (filled (object_bytes m) objects) (spaces_begin + i - objects_begin) 0
      else get_or (filled (space_bytes m) spaces) (spaces_begin + i - spaces_begin) 0) (le-ltb (spaces_begin + i) spaces_begin (omega arith))
      ∙ ap (λ j. get_or (filled (space_bytes m) spaces) j 0) same
      ∙ padded_at spaces (space_bytes m - length spaces) i

  -- the region of static objects begins with them
  pub holds : (ds : List StaticData) → objects ≡ bytes_of_statics ds 0 → AreMapped m
      → objects_begin + statics_end ds 0 ≤ region_end m Globals → HoldsStatics ds memory
  unfolding region_start region_size
  holds ds same mapped fit = record {
    by = λ i low. object_at_is i (let g = mapped.globals in omega (arith, low, fit, g))
        ∙ ap (λ bs. get_or bs i 0) same;
  }

  -- and the runtime's spaces with their entries, and zeros
  pub has_spaces : (entry : View) (IsGood : Bytes → Type 0) (es : List StartEntry)
      → StartsShadow m entry IsGood es spaces → length spaces ≤ region_size m Shadow
      → AreSpacesInFile m entry IsGood es memory
  unfolding region_start
  has_spaces entry IsGood es starts fit = record {
    shadow = starts memory (λ i low. space_at_is i);
    zeros = λ a first last.
        let i = a - spaces_begin in
        let there : spaces_begin + i ≡ a = omega (arith, first) in
        ap memory (sym there) ∙ space_at_is i ∙ past_end spaces i (omega (arith, first, fit));
  }

-- ---- the bytes of static objects

zero_count : (n : ℕ) → length (zeros n) ≡ n
zero_count zero = refl
zero_count (suc n) = let rest = zero_count n in omega (arith, rest)

all_append : (xs ys : List ℕ) → All (λ b. b < 256) xs → All (λ b. b < 256) ys → All (λ b. b < 256) (xs ++ ys)
all_append [] ys first second k d low = second k d low
all_append (x ∷ xs) ys first second zero d low = first zero d (omega arith)
all_append (x ∷ xs) ys first second (suc k) d low =
    all_append xs ys (λ j e lt. first (suc j) e (omega (arith, lt))) second k d (omega (arith, low))

all_zeros : (n : ℕ) → All (λ b. b < 256) (replicate n 0)
all_zeros zero k d low = absurd (omega (arith, low))
all_zeros (suc n) zero d low = omega arith
all_zeros (suc n) (suc k) d low = all_zeros n k d (omega (arith, low))

inside_any : (xs : List ℕ) → ((k : ℕ) → get_or xs k 0 < 256) → All (λ b. b < 256) xs
inside_any [] h k d low = absurd (omega (arith, low))
inside_any (x ∷ xs) h zero d low = h 0
inside_any (x ∷ xs) h (suc k) d low = inside_any xs (λ j. h (suc j)) k d (omega (arith, low))

module _ (functions : ℕ) (all : Objects) where
  abbrev AreSoundFrom : List StaticData → (offset : ℕ) → Type 0
  AreSoundFrom ds offset = (n : ℕ) → IsSoundObject functions all (object_at (placed_data objects_begin ds offset) n)

  pub statics_bytes : (ds : List StaticData) (offset : ℕ) → AreSoundFrom ds offset
      → All (λ b. b < 256) (bytes_of_statics ds offset)
  statics_bytes [] offset sound k z low = absurd (omega (arith, low))
  statics_bytes (d ∷ ds) offset sound k z low =
      all_append (replicate (rounded_up 16 offset - offset) 0) (d.bytes ++ bytes_of_statics ds (rounded_up 16 offset + d.size))
      (all_zeros (rounded_up 16 offset - offset))
      (all_append d.bytes (bytes_of_statics ds (rounded_up 16 offset + d.size)) (inside_any d.bytes (sound 0).values)
      (statics_bytes ds (rounded_up 16 offset + d.size) (λ n. sound (suc n)))) k z low

  -- as many as they take
  pub statics_length : (ds : List StaticData) (offset : ℕ) → AreSoundFrom ds offset
      → offset + length (bytes_of_statics ds offset) ≡ statics_end ds offset
  statics_length [] offset sound = omega arith
  statics_length (d ∷ ds) offset sound =
      let next = rounded_up 16 offset + d.size in
      let rest = statics_length ds next (λ n. sound (suc n)) in
      let own = (sound 0).bytes in
      let pad = zero_count (rounded_up 16 offset - offset) in
      let first = length-append (zeros (rounded_up 16 offset - offset)) (d.bytes ++ bytes_of_statics ds next) in
      let second = length-append d.bytes (bytes_of_statics ds next) in
      omega (arith, rest, own, pad, first, second)
