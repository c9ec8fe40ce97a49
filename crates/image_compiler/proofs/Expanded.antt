-- Images by expansion: flat code that passed its tests, and its data.
use Rattle.std.proofs.Common.{◌≡◌, ℕ, zero, suc, ◌+◌, ◌^◌, ◌<◌, ◌≤◌, List, [], ◌∷◌, ◌++◌, length, Some, get_or}
use Rattle.std.proofs.Common.{refl, sym, ap, ◌∙◌, subst, arith}
use Rattle.std.specs.Prelude.{slice_get}
use Rattle.addr_map.specs.declared.region.Region.TheVariants.{Locks, Shadow}
use Rattle.addr_map.specs.Places.{MapSizes, AreMapped, objects_begin, region_size, region_start}
use Rattle.addr_map.proofs.Order.{ends_low}
use Rattle.obj_memory.specs.declared.value.Tag.{Tag}
use Rattle.obj_memory.specs.declared.value.Tag.TheVariants.{Untagged, OfFunction, OfObject}
use Rattle.obj_memory.specs.Heap.{rounded_up}
use Rattle.obj_memory.specs.Objects.{Objects, object_at}
use Rattle.obj_memory.specs.Sound.{IsSoundTag, IsSoundObject}
use Rattle.c_tree.specs.Programs.{Program}
use Rattle.tac_ir.specs.declared.function.CodeFunction.{CodeFunction}
use Rattle.tac_ir.specs.declared.function.StaticData.{StaticData}
use Rattle.tac_ir.specs.declared.function.Tac.{Tac}
use Rattle.tac_ir.specs.Meaning.{placed_data}
use Rattle.flat_code.specs.declared.function.FlatFunction.{FlatFunction}
use Rattle.flat_code.specs.declared.function.FlatProgram.{FlatProgram}
use Rattle.flat_code.specs.Memory.{Bytes}
use Rattle.flat_code.specs.Routines.Metadata.{View, no_metadata}
use Rattle.flat_code.specs.Routines.Objects.StandsFor.{global_lock}
use Rattle.flat_propagation.specs.Propagated.{propagated}
use Rattle.shadow_space.specs.declared.start.StartEntry.{StartEntry}
use Rattle.shadow_space.specs.Form.{EntryCode}
use Rattle.shadow_space.specs.Start.{AreStartEntries, StartsShadow}
use Rattle.runtime_functions.specs.declared.runtime.RuntimeFunction.{RuntimeFunction}
use Rattle.runtime_functions.specs.Runtime.{runtime_list, AreOfRuntime}
use Rattle.metadata_relation.specs.Blocks.{Expansion}
use Rattle.metadata_relation.specs.FunctionTypes.{HaveTypeKeys}
use Rattle.metadata_relation.specs.Homes.{homes}
use Rattle.metadata_relation.specs.Laid.{program_of}
use Rattle.metadata_relation.specs.StartData.{bytes_of_statics, entry_of_tag, entries_of_tags, entries_of_statics}
use Rattle.metadata_relation.proofs.StartData.{are_start_entries}
use Rattle.instruction_selection.specs.Covered.{IsCoveredProgram}
use Rattle.instruction_selection.specs.StartData.{HasWords, HaveWords}
use Rattle.instruction_selection.proofs.Coverages.{all_covered}
use Rattle.program_expansion.specs.Expansions.{IsExpansionOf, expansion_with}
use Rattle.reg_plan.specs.declared.plan.FunctionPlan.{FunctionPlan}
use Rattle.reg_plan.specs.Tests.{AreAccepted}
use Rattle.machine_laws.specs.Following.Code.{IsEncodable}
use Rattle.machine_laws.specs.Following.Matching.{object_bytes, space_bytes}
use Rattle.machine_laws.specs.Following.Start.{IsStartable}
use Rattle.rv_codegen.specs.MachineImages.Image.{IsImage}
use Rattle.image_laws.specs.Images.Expansions.{Laid, code_of, compiled_of, IsLaidExpansion, IsExpandedImage}
use Rattle.image_laws.proofs.Images.Data.{statics_length}
use Rattle.image_compiler.specs.declared.expansion.ImageData.{ImageData}
use Rattle.image_compiler.specs.Built.{ArePlans}
use Rattle.image_compiler.specs.Expanded.{AreDataOf, HasSoundStatics, IsExpandedFlat, IsTestedFlat}
use Rattle.image_compiler.proofs.Images.{accepted}

-- ---- flat code

as_many : (map : MapSizes) (entry : View) (IsGood : Bytes → Type 0) (fs : List RuntimeFunction) (gs : List FlatFunction)
    → AreOfRuntime map entry IsGood fs gs → length gs ≡ length fs
as_many map entry IsGood [] [] h = refl
as_many map entry IsGood [] (g ∷ gs) h = absurd h
as_many map entry IsGood (f ∷ fs) [] h = absurd h
as_many map entry IsGood (f ∷ fs) (g ∷ gs) h = ap suc (as_many map entry IsGood fs gs h.1)

-- the runtime has few functions
pub runtime_few : (map : MapSizes) (entry : View) (IsGood : Bytes → Type 0) (runtime : List FlatFunction)
    → AreOfRuntime map entry IsGood runtime_list runtime → length runtime < 2 ^ 31
runtime_few map entry IsGood runtime h =
    let same = as_many map entry IsGood runtime_list runtime h in
    omega (arith, same)

pub expanded_flat : (read write : EntryCode) (entry : View) (IsGood : Bytes → Type 0) (map : MapSizes) (code : Tac)
    (runtime : List FlatFunction) (program flat : FlatProgram) → IsCoveredProgram code
    → AreOfRuntime map entry IsGood runtime_list runtime → IsExpansionOf read write map code runtime program
    → flat ≡ propagated program → IsExpandedFlat read write entry IsGood map code flat
expanded_flat read write entry IsGood map code runtime program flat covered of_runtime h same =
    let e : Expansion = expansion_with read write map code h.types h.entries covered.contents in
    let l : Laid = record { expansion = e; homes = homes; runtime = runtime } in
    record {
      laid = l;
      is_laid = record {
        code_is = refl;
        is_expansion = record {
          inline = refl;
          map_is = refl;
          types = h.keys;
          low = h.low;
          entries = h.closed;
          contents = covered.kept;
          areas = h.areas;
        };
        of_runtime = of_runtime;
        covered = λ (typed : Program). all_covered (compiled_of typed entry l) covered.code;
      };
      is = same ∙ ap propagated (h.is covered.contents);
    }

-- it can be begun
pub flat_begins : (read write : EntryCode) (entry : View) (IsGood : Bytes → Type 0) (map : MapSizes) (code : Tac)
    (flat : FlatProgram) → IsExpandedFlat read write entry IsGood map code flat
    → ((e : Expansion) (hs : CodeFunction → List ℕ) (fs : List FlatFunction) → IsStartable e.map (program_of e hs fs))
    → ((m : MapSizes) (p : FlatProgram) → IsStartable m p → IsStartable m (propagated p)) → IsStartable map flat
flat_begins read write entry IsGood map code flat h expanded carried =
    let l = h.laid in
    subst (IsStartable map) (sym h.is)
    (carried map (program_of l.expansion l.homes l.runtime)
    (subst (λ m. IsStartable m (program_of l.expansion l.homes l.runtime)) h.is_laid.is_expansion.map_is
    (expanded l.expansion l.homes l.runtime)))

-- ---- entries of static objects

module _ (functions : ℕ) (all : Objects) where
  abbrev AreSoundFrom : List StaticData → (offset : ℕ) → Type 0
  AreSoundFrom ds offset = (n : ℕ) → IsSoundObject functions all (object_at (placed_data objects_begin ds offset) n)

  words_from : functions ≤ 2 ^ 12 → (ds : List StaticData) (offset : ℕ) → AreSoundFrom ds offset → (n : ℕ)
      (d : StaticData) → n < length ds → HasWords (get_or ds n d)
  words_from few [] offset sound n d low = absurd (omega (arith, low))
  words_from few (x ∷ ds) offset sound zero d low = record {
    words = (let tags = (sound 0).tags in omega (arith, tags));
    functions = λ k f e.
        let below : f < functions = subst (IsSoundTag functions all) e ((sound 0).tag k) in
        omega (arith, below, few);
  }
  words_from few (x ∷ ds) offset sound (suc n) d low =
      words_from few ds (rounded_up 16 offset + x.size) (λ k. sound (suc k)) n d (omega (arith, low))

  -- entries go by the keys of functions of the program alone
  module _ (types others : ℕ → ℕ) (agree : (f : ℕ) → f < functions → types f ≡ others f) (lock : ℕ) where
    same_tag : (a : ℕ) (t : Tag) → IsSoundTag functions all t → entry_of_tag types lock a t ≡ entry_of_tag others lock a t
    same_tag a Untagged sound = refl
    same_tag a (OfFunction f) sound =
        ap (λ k. entry_of_tag (λ g. k) lock a (OfFunction f)) (agree f sound)
    same_tag a (OfObject o b) sound = refl

    same_tags : (a : ℕ) (ts : List Tag) → ((k : ℕ) → IsSoundTag functions all (get_or ts k Untagged))
        → entries_of_tags types lock a ts ≡ entries_of_tags others lock a ts
    same_tags a [] sound = refl
    same_tags a (t ∷ ts) sound =
        ap (λ es. es ++ entries_of_tags types lock (a + 8) ts) (same_tag a t (sound 0))
        ∙ ap (λ es. entry_of_tag others lock a t ++ es) (same_tags (a + 8) ts (λ k. sound (suc k)))

    same_entries : (ds : List StaticData) (offset : ℕ) → AreSoundFrom ds offset
        → entries_of_statics types lock objects_begin ds offset ≡ entries_of_statics others lock objects_begin ds offset
    same_entries [] offset sound = refl
    same_entries (d ∷ ds) offset sound =
        let next = rounded_up 16 offset + d.size in
        let a = objects_begin + rounded_up 16 offset in
        ap (λ es. es ++ entries_of_statics types lock objects_begin ds next) (same_tags a d.tags (sound 0).tag)
        ∙ ap (λ es. entries_of_tags others lock a d.tags ++ es) (same_entries ds next (λ k. sound (suc k)))

there : {A : Type 0} (xs : List A) (n : ℕ) → n < length xs → (x : A) × (slice_get xs n ≡ Some x)
there [] n low = absurd (omega (arith, low))
there (x ∷ xs) zero low = (x, refl)
there (x ∷ xs) (suc n) low = there xs n (omega (arith, low))

same_keys : (cs : List CodeFunction) (types others : ℕ → ℕ) → HaveTypeKeys cs types → HaveTypeKeys cs others → (f : ℕ)
    → f < length cs → types f ≡ others f
same_keys cs types others h k f low = let c = there cs f low in h.each f c.0 c.1 ∙ sym (k.each f c.0 c.1)

pub have_words : (map : MapSizes) (code : Tac) → HasSoundStatics map code → length code.functions ≤ 2 ^ 12
    → HaveWords code.statics
have_words map code h few = record {
  each = λ n d low. words_from (length code.functions) (placed_data objects_begin code.statics 0) few code.statics 0
      h.sound.at n d low;
}

pub start_entries_are : (map : MapSizes) (code : Tac) (types : ℕ → ℕ) (lock : ℕ) (es : List StartEntry) → AreMapped map
    → HasSoundStatics map code → length code.functions ≤ 2 ^ 12 → ((f : ℕ) → types f < 2 ^ 63)
    → lock ≡ region_start map Locks → es ≡ entries_of_statics types lock objects_begin code.statics 0
    → AreStartEntries map es
start_entries_are map code types lock es mapped h few low at same =
    subst (AreStartEntries map)
    (sym (same ∙ ap (λ z. entries_of_statics types z objects_begin code.statics 0) at))
    (are_start_entries map (length code.functions) types (λ m a. no_metadata) low (omega (arith, few))
    (let end = ends_low map mapped Locks in omega (arith, end)) (placed_data objects_begin code.statics 0) code.statics
    h.sound.at h.fit)

-- the shadow space begins with the entries by any keys that tell the types of functions
pub starts_by_keys : (map : MapSizes) (code : Tac) (entry : View) (IsGood : Bytes → Type 0) (types : ℕ → ℕ) (lock : ℕ)
    (es : List StartEntry) (spaces : List ℕ) → HasSoundStatics map code → HaveTypeKeys code.functions types
    → lock ≡ region_start map Locks → es ≡ entries_of_statics types lock objects_begin code.statics 0
    → StartsShadow map entry IsGood es spaces → (others : ℕ → ℕ) → HaveTypeKeys code.functions others
    → StartsShadow map entry IsGood (entries_of_statics others (region_start map Locks) objects_begin code.statics 0) spaces
starts_by_keys map code entry IsGood types lock es spaces h keys at same starts others other_keys =
    subst (λ z. StartsShadow map entry IsGood z spaces)
    (same ∙ ap (λ z. entries_of_statics types z objects_begin code.statics 0) at
    ∙ same_entries (length code.functions) (placed_data objects_begin code.statics 0) types others
    (same_keys code.functions types others keys other_keys) (region_start map Locks) code.statics 0 h.sound.at)
    starts

-- ---- the image

pub objects_fit : (map : MapSizes) (code : Tac) (objects : List ℕ) → HasSoundStatics map code
    → objects ≡ bytes_of_statics code.statics 0 → length objects ≤ object_bytes map
unfolding region_start region_size
objects_fit map code objects h same =
    let long = statics_length (length code.functions) (placed_data objects_begin code.statics 0) code.statics 0 h.sound.at in
    let count = ap length same in
    let f = h.fit in
    omega (arith, long, count, f)

pub spaces_fit : (map : MapSizes) (spaces : List ℕ) → length spaces ≤ region_size map Shadow
    → length spaces ≤ space_bytes map
unfolding region_start region_size
spaces_fit map spaces fit = omega (arith, fit)

module _ (read write : EntryCode) (entry : View) (IsGood : Bytes → Type 0) (map : MapSizes) (code : Tac)
    (flat : FlatProgram) (t : IsTestedFlat read write entry IsGood map code flat) (plans : List FunctionPlan)
    (planned : ArePlans flat plans) (begun : ImageData) (d : AreDataOf entry IsGood map code begun) (file : List ℕ)
    (image : IsImage map flat plans begun.objects.items begun.spaces.items file) where
  abbrev l : Laid
  l = t.expanded.laid

  h : IsLaidExpansion read write entry IsGood map code l
  h = t.expanded.is_laid

  statics : bytes_of_statics l.expansion.code.statics 0 ≡ begun.objects.items
  statics = ap (λ (z : Tac). bytes_of_statics z.statics 0) h.code_is ∙ sym d.objects

  pub expanded_image : IsExpandedImage read write entry IsGood map code file
  expanded_image = record {
    laid = l;
    is_laid = h;
    encodable = subst IsEncodable t.expanded.is t.encodable;
    startable = subst (IsStartable map) t.expanded.is t.startable;
    plans = plans;
    accepted = subst (λ z. AreAccepted z plans) t.expanded.is (accepted flat plans planned);
    spaces = begun.spaces.items;
    starts = record {
      starts = subst (λ (z : Tac). StartsShadow map entry IsGood (entries_of_statics l.expansion.types (global_lock map)
          objects_begin z.statics 0) begun.spaces.items) (sym h.code_is)
          (d.spaces l.expansion.types
          (subst (λ (z : Tac). HaveTypeKeys z.functions l.expansion.types) h.code_is h.is_expansion.types));
      fit = d.fit;
      short = d.short;
      bytes = d.bytes;
    };
    image = subst (λ z. IsImage map (code_of l) plans z begun.spaces.items file) (sym statics)
        (subst (λ z. IsImage map z plans begun.objects.items begun.spaces.items file) t.expanded.is image);
  }
