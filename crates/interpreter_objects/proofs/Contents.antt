-- Contents, and the words that hold a range.
use Rattle.std.proofs.Common.{◌≡◌, ℕ, ◌+◌, ◌-◌, ◌*◌, ◌/◌, ◌%◌, ◌<◌, ◌≤◌, Bool, true, false, ◌&&◌, ◌==◌, nat_le}
use Rattle.std.proofs.Common.{if◌then◌else◌, List, length, take, drop, get_or, replicate, refl, sym, ap, ◌∙◌, arith}
use Rattle.std.proofs.Common.{length-take, length-drop, Some, None}
use Rattle.std.proofs.lemmas.Bool.{eqb-true, le-leb, leb-true}
use Rattle.std.proofs.lemmas.List.{ext_get_or, get_or-take, get_or-drop, length-replicate}
use Rattle.obj_memory.specs.declared.object.Storage.{Storage}
use Rattle.obj_memory.specs.declared.object.Storage.TheVariants.{Automatic}
use Rattle.obj_memory.specs.declared.value.Tag.{Tag}
use Rattle.obj_memory.specs.declared.value.Tag.TheVariants.{Untagged}
use Rattle.obj_memory.specs.Access.{is_word_in, moved_tags, overwrite}
use Rattle.obj_memory.specs.Objects.{ObjectState, new_object}
use Rattle.obj_memory.proofs.Moving.{get_or-moved_tags}
use Rattle.obj_memory.proofs.Soundness.{length-moved_tags}
use Rattle.source_meaning.specs.Structures.{contents_of, moved_into}
use Rattle.interpreter_objects.specs.Kept.{has_bytes, has_range, part_of}
use Rattle.interpreter_objects.proofs.Insides.{range_bytes, range_inside, range_tags, there_life}

-- a new object has all its bytes and tags
pub new_has_range : (storage : Storage) (address size : ℕ) → has_range 0 size (new_object storage address size) ≡ true
unfolding has_range has_bytes new_object
new_has_range storage address size =
    ap (λ b. b && nat_le ((0 + size) / 8) (length (replicate (size / 8) Untagged)))
    (le-leb (0 + size) (length (replicate size 0)) (omega (arith, length-replicate {A = ℕ} size 0)))
    ∙ le-leb ((0 + size) / 8) (length (replicate (size / 8) Untagged))
    (omega (arith, length-replicate {A = Tag} (size / 8) Untagged))

module _ (source size : ℕ) (o : ObjectState) (inside : source + size ≤ length o.bytes)
    (tags : (source + size) / 8 ≤ length o.tags) where
  abbrev part : ObjectState
  part = part_of source size o

  -- the words that hold a range have it
  part_bytes : source % 8 + size ≤ length part.bytes
  unfolding part_of
  part_bytes = omega (
    arith,
    inside,
    length-take (source % 8 + size) (drop (source - source % 8) o.bytes),
    length-drop (source - source % 8) o.bytes,
  )

  part_tags : (source % 8 + size) / 8 ≤ length part.tags
  unfolding part_of
  part_tags = omega (
    arith,
    tags,
    length-take ((source % 8 + size) / 8) (drop (source / 8) o.tags),
    length-drop (source / 8) o.tags,
  )

  -- its bytes
  same_bytes : take size (drop (source % 8) part.bytes) ≡ take size (drop source o.bytes)
  unfolding part_of
  same_bytes = ext_get_or 0
      (take size (drop (source % 8) (take (source % 8 + size) (drop (source - source % 8) o.bytes))))
      (take size (drop source o.bytes)) sizes at
    where
      inner : List ℕ
      inner = take (source % 8 + size) (drop (source - source % 8) o.bytes)

      sizes : length (take size (drop (source % 8) inner)) ≡ length (take size (drop source o.bytes))
      sizes = omega (
        arith,
        inside,
        length-take size (drop (source % 8) inner),
        length-drop (source % 8) inner,
        length-take (source % 8 + size) (drop (source - source % 8) o.bytes),
        length-drop (source - source % 8) o.bytes,
        length-take size (drop source o.bytes),
        length-drop source o.bytes,
      )

      at : (k : ℕ) → k < length (take size (drop (source % 8) inner))
          → get_or (take size (drop (source % 8) inner)) k 0 ≡ get_or (take size (drop source o.bytes)) k 0
      at k lt =
          let few : k < size = omega (arith, lt, length-take size (drop (source % 8) inner)) in
          get_or-take size (drop (source % 8) inner) k 0 few
          ∙ get_or-drop (source % 8) inner k 0
          ∙ get_or-take (source % 8 + size) (drop (source - source % 8) o.bytes) (source % 8 + k) 0 (omega (arith, few))
          ∙ get_or-drop (source - source % 8) o.bytes (source % 8 + k) 0
          ∙ ap (λ i. get_or o.bytes i 0) (omega arith)
          ∙ sym (get_or-take size (drop source o.bytes) k 0 few ∙ get_or-drop source o.bytes k 0)

  -- its tags, where it moves to an offset that is as far behind a multiple of 8
  tag_same : (start k : ℕ) → start % 8 ≡ source % 8 → start ≤ 8 * k → 8 * k + 8 ≤ start + size
      → get_or part.tags ((8 * k - start + source % 8) / 8) Untagged
      ≡ get_or o.tags ((8 * k - start + source) / 8) Untagged
  unfolding part_of
  tag_same start k phase low high =
      get_or-take ((source % 8 + size) / 8) (drop (source / 8) o.tags) ((8 * k - start + source % 8) / 8) Untagged
      (omega (arith, low, high))
      ∙ get_or-drop (source / 8) o.tags ((8 * k - start + source % 8) / 8) Untagged
      ∙ ap (λ i. get_or o.tags i Untagged) (omega (arith, low))

  tags_at : (start : ℕ) (ts : List Tag) (k : ℕ) → start % 8 ≡ source % 8 → (b : Bool) → is_word_in start size k ≡ b
      → (if b then get_or part.tags ((8 * k - start + source % 8) / 8) Untagged else get_or ts k Untagged)
      ≡ (if b then get_or o.tags ((8 * k - start + source) / 8) Untagged else get_or ts k Untagged)
  tags_at start ts k phase false e = refl
  tags_at start ts k phase true e = tag_same start k phase
      (leb-true start (8 * k) (first_true (nat_le start (8 * k)) _ e))
      (leb-true (8 * k + 8) (start + size) (second_true (nat_le start (8 * k)) _ e))
    where
      first_true : (b c : Bool) → (b && c) ≡ true → b ≡ true
      first_true true c h = refl
      first_true false c h = h

      second_true : (b c : Bool) → (b && c) ≡ true → c ≡ true
      second_true true c h = h
      second_true false c h = absurd (let x : false ≡ true = h in cc)

  same_tags : (start : ℕ) (ts : List Tag) → start % 8 ≡ source % 8
      → moved_tags size start (source % 8) part.tags 0 ts ≡ moved_tags size start source o.tags 0 ts
  same_tags start ts phase = ext_get_or Untagged (moved_tags size start (source % 8) part.tags 0 ts)
      (moved_tags size start source o.tags 0 ts)
      (length-moved_tags size start (source % 8) part.tags 0 ts
      ∙ sym (length-moved_tags size start source o.tags 0 ts)) at
    where
      at : (k : ℕ) → k < length (moved_tags size start (source % 8) part.tags 0 ts)
          → get_or (moved_tags size start (source % 8) part.tags 0 ts) k Untagged
          ≡ get_or (moved_tags size start source o.tags 0 ts) k Untagged
      at k lt =
          let within : k < length ts
          = omega (arith, lt, length-moved_tags size start (source % 8) part.tags 0 ts) in
          get_or-moved_tags size start (source % 8) part.tags 0 ts k k (omega arith) within
          ∙ tags_at start ts k phase (is_word_in start size k) refl
          ∙ sym (get_or-moved_tags size start source o.tags 0 ts k k (omega arith) within)

module _ (source size : ℕ) (o : ObjectState) (h : has_range source size o ≡ true) where
  -- the words that hold a range are live as the object is, and have the range
  pub part_range : has_range (source % 8) size (part_of source size o) ≡ true
  unfolding part_of has_bytes has_range
  part_range =
      with_tags (part_of source size o)
      (with_bytes (part_of source size o) (live_part (there_life source size o (range_bytes source size o h)))
      (part_bytes source size o (range_inside source size o h) (range_tags source size o h)))
      (part_tags source size o (range_inside source size o h) (range_tags source size o h))
    where
      live_part : o.is_live ≡ true → (part_of source size o).is_live ≡ true
      live_part e = e

      with_bytes : (p : ObjectState) → p.is_live ≡ true → source % 8 + size ≤ length p.bytes
          → has_bytes (source % 8) size p ≡ true
      with_bytes p e le = ap (λ b. b && nat_le (source % 8 + size) (length p.bytes)) e ∙ le-leb _ _ le

      with_tags : (p : ObjectState) → has_bytes (source % 8) size p ≡ true → (source % 8 + size) / 8 ≤ length p.tags
          → has_range (source % 8) size p ≡ true
      with_tags p e le = ap (λ b. b && nat_le ((source % 8 + size) / 8) (length p.tags)) e ∙ le-leb _ _ le

  -- and moved from there is moved from the object
  pub moved_part : (start : ℕ) (to : ObjectState)
      → moved_into size start (source % 8) (part_of source size o) to ≡ moved_into size start source o to
  unfolding moved_into
  moved_part start to =
      ap (λ bytes. record to { bytes = overwrite start bytes to.bytes; tags = new_tags })
      (same_bytes source size o (range_inside source size o h) (range_tags source size o h))
      ∙ ap (λ tags. record to { bytes = overwrite start (take size (drop source o.bytes)) to.bytes; tags = tags })
      (ap (λ n. if start % 8 == n then moved_tags size start (source % 8) (part_of source size o).tags 0 to.tags
      else to.tags) (omega arith) ∙ by (start % 8 == source % 8) refl)
    where
      new_tags : List Tag
      new_tags = if start % 8 == source % 8 % 8
          then moved_tags size start (source % 8) (part_of source size o).tags 0 to.tags else to.tags

      by : (b : Bool) → (start % 8 == source % 8) ≡ b
          → (if b then moved_tags size start (source % 8) (part_of source size o).tags 0 to.tags else to.tags)
          ≡ (if b then moved_tags size start source o.tags 0 to.tags else to.tags)
      by false e = refl
      by true e = same_tags source size o (range_inside source size o h) (range_tags source size o h) start to.tags
          (eqb-true (start % 8) (source % 8) e)

-- a range found as contents of their own
pub contents_by : (size source : ℕ) (o fresh new : ObjectState) (b : Bool) → fresh ≡ new_object Automatic 0 size
    → b ≡ (has_range 0 size fresh && has_range source size o) → has_range source size o ≡ true
    → new ≡ (if b then moved_into size 0 source o fresh else fresh)
    → Some new ≡ (if has_range source size o then Some (contents_of size source o) else None)
contents_by size source o fresh new b made there has e =
    ap Some (e
    ∙ ap (λ x. if x then moved_into size 0 source o fresh else fresh)
    (there ∙ ap (λ x. has_range 0 size x && has_range source size o) made
    ∙ ap (λ x. x && has_range source size o) (new_has_range Automatic 0 size) ∙ has)
    ∙ ap (moved_into size 0 source o) made)
    ∙ sym (ap (λ x. if x then Some (contents_of size source o) else None) has)
