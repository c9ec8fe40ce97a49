-- The machine that begins an image.
use Rattle.std.proofs.Common.{◌≡◌, ℕ, zero, suc, ◌+◌, ◌<◌, ◌-◌, ◌≤◌, Bool, true, false, List, [], ◌∷◌, ◌++◌}
use Rattle.std.proofs.Common.{length, refl, sym, ap, ◌∙◌, subst, arith, length-append, None}
use Rattle.std.specs.List.{All}
use Rattle.std.specs.Prelude.{replicate, slice_index, nat_lt, if◌then◌else◌}
use Rattle.std.proofs.lemmas.Bool.{lt-ltb, le-ltb}
use Rattle.std.proofs.lemmas.List.{append-nil}
use Rattle.addr_map.specs.Places.{MapSizes, AreMapped, objects_begin, spaces_begin}
use Rattle.behaviours.specs.Behaviour.{Follows}
use Rattle.behaviours.specs.Steps.{run}
use Rattle.elf_image.specs.Content.{memory_of}
use Rattle.elf_image.specs.Layout.{content_of}
use Rattle.elf_image.specs.Tests.{image_fault}
use Rattle.elf_image.specs.Writing.{image_bytes, content}
use Rattle.elf_image.proofs.Ordered.{in_order_fits}
use Rattle.elf_image.proofs.Written.{written_is_image, written_is_content}
use Rattle.rv_sim.specs.Behaviour.{behaviour}
use Rattle.rv_sim.specs.Start.{start_of}
use Rattle.machine_laws.specs.View.Segments.{Hold}
use Rattle.flat_code.specs.declared.function.FlatProgram.{FlatProgram}
use Rattle.flat_code.specs.Memory.{Bytes, AreBytes}
use Rattle.flat_code.specs.State.{Stuck}
use Rattle.flat_code.specs.Meaning.{step, started, flat_meaning}
use Rattle.reg_plan.specs.declared.plan.FunctionPlan.{FunctionPlan}
use Rattle.reg_plan.specs.Tests.{AreAccepted}
use Rattle.machine_laws.specs.Following.Code.{IsEncodable}
use Rattle.machine_laws.specs.Following.Matching.{object_bytes, space_bytes}
use Rattle.machine_laws.specs.Following.Start.{IsStartable, begins}
use Rattle.machine_laws.proofs.Following.Regions.{regions}
use Rattle.machine_laws.specs.Layout.Lists.{bytes_of}
use Rattle.machine_laws.specs.Segments.Segments.{code_words, table_words, FitsSegments}
use Rattle.machine_laws.specs.Calls.Table.{start_address}
use Rattle.rv_codegen.specs.Generated.{IsGenerated}
use Rattle.rv_codegen.proofs.MachineImages.Sizes.{in_order}
use Rattle.rv_codegen.specs.MachineImages.Image.{image_with, written, filled, IsImage, ImageFollows, data_memory}

-- where the file has all bytes of a segment, memory has no others
no_more : (xs : List ℕ) → xs ++ replicate (length xs - length xs) 0 ≡ xs
no_more xs =
    let none : length xs - length xs ≡ 0 = omega arith in
    ap (λ n. xs ++ replicate n 0) none ∙ append-nil xs

pub starts_with : (m : MapSizes) (start : ℕ) (table compiled objects spaces : List ℕ)
    → start_of (content (image_with m start table compiled objects spaces))
    ≡ begins start (bytes_of table) (bytes_of compiled) (filled (object_bytes m) objects)
    (filled (space_bytes m) spaces)
unfolding start_of memory_of
starts_with m start table compiled objects spaces =
    ap (λ t. begins start t (bytes_of compiled ++ replicate (length (bytes_of compiled) - length (bytes_of compiled)) 0)
    (filled (object_bytes m) objects) (filled (space_bytes m) spaces)) (no_more (bytes_of table))
    ∙ ap (λ t. begins start (bytes_of table) t (filled (object_bytes m) objects) (filled (space_bytes m) spaces))
    (no_more (bytes_of compiled))

-- what was written is an image
pub is_image : (m : MapSizes) (p : FlatProgram) (plans : List FunctionPlan) (objects spaces file : List ℕ)
    → FitsSegments m p plans → file ≡ image_bytes (written m p plans objects spaces) → image_fault file ≡ None
    → content_of file ≡ content (written m p plans objects spaces) → IsImage m p plans objects spaces file
unfolding written
is_image m p plans objects spaces file fits file_is passes content_is = record {
  fits = fits;
  file_is = file_is;
  passes = passes;
  content_is = content_is;
  starts = ap start_of content_is
      ∙ starts_with m (start_address p) (table_words m p plans) (code_words m p plans) objects spaces;
}

pub has_image : (m : MapSizes) (p : FlatProgram) (plans : List FunctionPlan) (objects spaces : List ℕ) → AreMapped m
    → FitsSegments m p plans → length objects ≤ object_bytes m → length spaces ≤ space_bytes m
    → IsImage m p plans objects spaces (image_bytes (written m p plans objects spaces))
has_image m p plans objects spaces mapped fits few few' =
    let image = written m p plans objects spaces in
    let fit = in_order_fits image (in_order m p plans objects spaces mapped fits few few') in
    is_image m p plans objects spaces (image_bytes image) fits refl (written_is_image image fit)
    (written_is_content image fit)

-- the segments of generated code are those of the program's image, and pass the tests of one
pub written_is : (m : MapSizes) (p : FlatProgram) (plans : List FunctionPlan) (start : ℕ)
    (table compiled objects spaces : List ℕ) → IsGenerated m p plans start table compiled
    → image_with m start table compiled objects spaces ≡ written m p plans objects spaces
unfolding written
written_is m p plans start table compiled objects spaces g =
    ap (λ s. image_with m s table compiled objects spaces) g.start_is
    ∙ ap (λ t. image_with m (start_address p) t compiled objects spaces) g.table_is
    ∙ ap (λ c. image_with m (start_address p) (table_words m p plans) c objects spaces) g.compiled_is

-- the law of generated code, as `generated_code_follows` tells it
abbrev pub Law : Type 0
Law = (m : MapSizes) (p : FlatProgram) (plans : List FunctionPlan) (objects spaces : List ℕ) (memory : Bytes)
    (input : List ℕ) → AreMapped m → AreAccepted p plans → IsEncodable p → IsStartable m p → FitsSegments m p plans
    → Hold (object_bytes m) (space_bytes m) memory objects spaces → AreBytes memory
    → ((k : ℕ) → run (step m p) k (started p memory input) ≡ Stuck → ⊥)
    → Follows 6 (flat_meaning m p memory input)
    (behaviour (begins (start_address p) (bytes_of (table_words m p plans)) (bytes_of (code_words m p plans)) objects
    spaces) input)

pub image_follows : Law → (m : MapSizes) (p : FlatProgram) (plans : List FunctionPlan) (objects spaces file : List ℕ)
    → AreMapped m → IsImage m p plans objects spaces file → ImageFollows m p plans objects spaces file
image_follows law m p plans objects spaces file mapped h = record {
  follows = λ memory input accepted encodable startable hold bytes fine.
      subst (λ s. Follows 6 (flat_meaning m p memory input) (behaviour s input)) (sym h.starts)
      (law m p plans (filled (object_bytes m) objects) (filled (space_bytes m) spaces) memory input mapped accepted
      encodable startable h.fits hold bytes fine);
}

-- ---- data

zeros : ℕ → List ℕ
zeros n = replicate n 0

replicated : (n : ℕ) → length (zeros n) ≡ n
unfolding zeros
replicated zero = refl
replicated (suc n) = ap suc (replicated n)

filled_length : (n : ℕ) (bytes : List ℕ) → length bytes ≤ n → length (filled n bytes) ≡ n
unfolding zeros
filled_length n bytes le =
    let rest = n - length bytes in
    let whole : length bytes + rest ≡ n = omega arith in
    length-append bytes (zeros rest) ∙ ap (λ k. length bytes + k) (replicated rest) ∙ whole

pub held : (m : MapSizes) (objects spaces : List ℕ) → AreMapped m → length objects ≤ object_bytes m
    → length spaces ≤ space_bytes m
    → Hold (object_bytes m) (space_bytes m)
    (data_memory (filled (object_bytes m) objects) (filled (space_bytes m) spaces))
    (filled (object_bytes m) objects) (filled (space_bytes m) spaces)
held m objects spaces mapped few few' =
    let r = regions m mapped in
    let os = filled (object_bytes m) objects in
    let ss = filled (space_bytes m) spaces in
    let a = filled_length (object_bytes m) objects few in
    let b = filled_length (space_bytes m) spaces few' in
    record {
      objects_length = a;
      spaces_length = b;
      objects_are = λ k lt.
          let below : nat_lt (objects_begin + k) spaces_begin ≡ true =
          lt-ltb (objects_begin + k) spaces_begin (omega (arith, r.heap, r.object)) in
          let place : objects_begin + k - objects_begin ≡ k = omega arith in
          ap (λ c. if c then slice_index os (objects_begin + k - objects_begin)
          else slice_index ss (objects_begin + k - spaces_begin)) below
          ∙ ap (slice_index os) place;
      spaces_are = λ k lt.
          let behind : nat_lt (spaces_begin + k) spaces_begin ≡ false =
          le-ltb (spaces_begin + k) spaces_begin (omega arith) in
          let place : spaces_begin + k - spaces_begin ≡ k = omega arith in
          ap (λ c. if c then slice_index os (spaces_begin + k - objects_begin)
          else slice_index ss (spaces_begin + k - spaces_begin)) behind
          ∙ ap (slice_index ss) place;
    }

zero_at : (n k : ℕ) → slice_index (zeros n) k ≡ 0
unfolding zeros
zero_at zero k = refl
zero_at (suc n) zero = refl
zero_at (suc n) (suc k) = zero_at n k

filled_byte : (xs : List ℕ) (n k : ℕ) → All (λ b. b < 256) xs → slice_index (xs ++ zeros n) k < 256
filled_byte [] n k h = let e = zero_at n k in omega arith
filled_byte (x ∷ xs) n zero h = h 0 0 (omega arith)
filled_byte (x ∷ xs) n (suc k) h = filled_byte xs n k (λ j d lt. h (suc j) d (omega arith))

pub data_bytes : (objects spaces : List ℕ) (m n : ℕ) → All (λ b. b < 256) objects → All (λ b. b < 256) spaces
    → AreBytes (data_memory (filled m objects) (filled n spaces))
unfolding zeros
data_bytes objects spaces m n ho hs a = by (nat_lt a spaces_begin)
  where
    by : (c : Bool) → (if c then slice_index (filled m objects) (a - objects_begin)
        else slice_index (filled n spaces) (a - spaces_begin)) < 256
    by true = filled_byte objects (m - length objects) (a - objects_begin) ho
    by false = filled_byte spaces (n - length spaces) (a - spaces_begin) hs
