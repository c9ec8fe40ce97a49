-- What contents hold that were moved from an object or from other contents, and areas that hold them.
use Rattle.std.proofs.Common.{◌≡◌, ◌≢◌, ℕ, ◌+◌, ◌-◌, ◌*◌, ◌/◌, ◌%◌, ◌<◌, ◌≤◌, ◌⊎◌, inl, inr, ⊎_elim, List}
use Rattle.std.proofs.Common.{◌&&◌, if◌then◌else◌, length, take, drop, get_or, refl, sym, ap, ◌∙◌, subst, arith}
use Rattle.std.specs.Prelude.{nat_le}
use Rattle.std.proofs.lemmas.Bool.{cases_eq, eq-eqb, ne_eqb, le-leb}
use Rattle.std.proofs.lemmas.List.{get_or-take, get_or-drop, get_or-replicate, length-take, length-drop}
use Rattle.std.proofs.lemmas.List.{length-replicate}
use Rattle.obj_memory.specs.declared.value.Tag.TheVariants.{Untagged}
use Rattle.obj_memory.specs.declared.object.Storage.TheVariants.{Automatic}
use Rattle.obj_memory.specs.Objects.{ObjectState, new_object}
use Rattle.obj_memory.specs.Access.{moved_tags}
use Rattle.obj_memory.proofs.Listed.{get_or-overwrite_in, get_or-overwrite_other}
use Rattle.obj_memory.proofs.Moving.{get_or-moved_tags}
use Rattle.source_meaning.specs.Structures.{moved_into, contents_of}
use Rattle.flat_code.specs.Memory.{Bytes}
use Rattle.flat_code.specs.Routines.Metadata.{metadata_at, no_metadata}
use Rattle.flat_code.specs.Routines.Objects.StandsFor.{Views, Keys, spell}
use Rattle.lib_wrappers.specs.AreaRoutines.Areas.{IsArea, entries_begin}

module _ (size start source : ℕ) (from to : ObjectState) where
  abbrev new : List ℕ
  new = take size (drop source from.bytes)

  long : source + size ≤ length from.bytes → length new ≡ size
  long there = omega (arith, there, length-take size (drop source from.bytes), length-drop source from.bytes)

  -- the bytes that were moved, and those beside
  pub byte_moved : start + size ≤ length to.bytes → source + size ≤ length from.bytes → (i : ℕ) → i < size
      → get_or (moved_into size start source from to).bytes (start + i) 0 ≡ get_or from.bytes (source + i) 0
  unfolding moved_into
  byte_moved fits there i l =
      let n = long there in
      get_or-overwrite_in start new to.bytes i 0 (omega arith) (omega arith)
      ∙ get_or-take size (drop source from.bytes) i 0 l ∙ get_or-drop source from.bytes i 0

  pub byte_beside : start + size ≤ length to.bytes → source + size ≤ length from.bytes → (j : ℕ)
      → (j < start) ⊎ (start + size ≤ j) → get_or (moved_into size start source from to).bytes j 0 ≡ get_or to.bytes j 0
  unfolding moved_into
  byte_beside fits there j out =
      let n = long there in
      get_or-overwrite_other start new to.bytes j 0 (omega arith)
      (⊎_elim (λ lo. inl lo) (λ hi. inr (omega arith)) out)

  -- the tag of a whole word, where both places are equal modulo 8
  pub tag_moved : start % 8 ≡ source % 8 → (w : ℕ) → w < length to.tags → start ≤ 8 * w → 8 * w + 8 ≤ start + size
      → get_or (moved_into size start source from to).tags w Untagged
      ≡ get_or from.tags ((8 * w - start + source) / 8) Untagged
  unfolding moved_into
  tag_moved same w l ge le =
      ap (λ b. get_or (if b then moved_tags size start source from.tags 0 to.tags else to.tags) w Untagged)
      (eq-eqb _ _ same)
      ∙ get_or-moved_tags size start source from.tags 0 to.tags w w (omega arith) l
      ∙ ap (λ b. if b && nat_le (8 * w + 8) (start + size) then get_or from.tags ((8 * w - start + source) / 8) Untagged
      else get_or to.tags w Untagged) (le-leb _ _ ge)
      ∙ ap (λ b. if b then get_or from.tags ((8 * w - start + source) / 8) Untagged else get_or to.tags w Untagged)
      (le-leb _ _ le)

  pub tag_stays : start % 8 ≢ source % 8 → (w : ℕ)
      → get_or (moved_into size start source from to).tags w Untagged ≡ get_or to.tags w Untagged
  unfolding moved_into
  tag_stays ne w =
      ap (λ b. get_or (if b then moved_tags size start source from.tags 0 to.tags else to.tags) w Untagged)
      (ne_eqb _ _ ne)

pub contents_size : (size source : ℕ) (from : ObjectState) → (contents_of size source from).size ≡ size
unfolding moved_into new_object
contents_size size source from = refl

fresh_bytes : (size : ℕ) → length (new_object Automatic 0 size).bytes ≡ size
unfolding new_object
fresh_bytes size = length-replicate size 0

fresh_tags : (size : ℕ) → length (new_object Automatic 0 size).tags ≡ size / 8
unfolding new_object
fresh_tags size = length-replicate (size / 8) Untagged

fresh_tag : (size w : ℕ) → w < size / 8 → get_or (new_object Automatic 0 size).tags w Untagged ≡ Untagged
unfolding new_object
fresh_tag size w l = get_or-replicate (size / 8) w Untagged Untagged l

-- an area that holds the bytes from an offset on, and the entries where that is a multiple of 8
pub area_from : (g : Views) (k : Keys) (size source a : ℕ) (from : ObjectState) (m : Bytes)
    → source + size ≤ length from.bytes
    → ((i : ℕ) → i < size → m (a + i) ≡ get_or from.bytes (source + i) 0)
    → (source % 8 ≡ 0 → (w : ℕ) → w < size / 8
    → metadata_at m (entries_begin a size + 32 * w) ≡ spell g k (get_or from.tags (source / 8 + w) Untagged))
    → (source % 8 ≢ 0 → (w : ℕ) → w < size / 8 → metadata_at m (entries_begin a size + 32 * w) ≡ no_metadata)
    → IsArea g k (contents_of size source from) a m
area_from g k size source a from m there bytes entries none =
    let fresh = new_object Automatic 0 size in
    let c = contents_of size source from in
    let n = contents_size size source from in
    let long = fresh_bytes size in
    let tags = fresh_tags size in
    record {
      bytes = λ j l. bytes j (subst (λ z. j < z) n l)
          ∙ sym (byte_moved size 0 source from fresh (omega arith) there j (subst (λ z. j < z) n l))
          ∙ ap (λ z. get_or c.bytes z 0) (let e : 0 + j ≡ j = omega arith in e);
      entries = λ w l.
          (let less : w < size / 8 = subst (λ z. w < z / 8) n l in
          ap (λ z. metadata_at m (entries_begin a z + 32 * w)) n
          ∙ ⊎_elim
          (λ (e : source % 8 ≡ 0). entries e w less
          ∙ ap (λ i. spell g k (get_or from.tags i Untagged))
          (let q : source / 8 + w ≡ (8 * w - 0 + source) / 8 = omega arith in q)
          ∙ ap (spell g k) (sym (tag_moved size 0 source from fresh (omega arith) w (omega arith) (omega arith)
          (omega arith))))
          (λ (ne : source % 8 ≢ 0). none ne w less
          ∙ ap (spell g k) (sym (tag_stays size 0 source from fresh (λ e. ne (omega arith)) w ∙ fresh_tag size w less)))
          (cases_eq (source % 8) 0));
    }

-- an area of zeros
pub area_of_zeros : (g : Views) (k : Keys) (size a : ℕ) (m : Bytes) → ((i : ℕ) → i < size → m (a + i) ≡ 0)
    → ((w : ℕ) → w < size / 8 → metadata_at m (entries_begin a size + 32 * w) ≡ no_metadata)
    → IsArea g k (new_object Automatic 0 size) a m
unfolding new_object
area_of_zeros g k size a m zeros none = record {
  bytes = λ j l. zeros j l ∙ sym (get_or-replicate size j 0 0 l);
  entries = λ w l. none w l ∙ ap (spell g k) (sym (get_or-replicate (size / 8) w Untagged Untagged l));
}
