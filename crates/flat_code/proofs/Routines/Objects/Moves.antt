-- Bytes put at a place, and a range moved.
use Rattle.std.proofs.Common.{◌≡◌, ◌≢◌, ℕ, ◌+◌, ◌-◌, ◌*◌, ◌/◌, ◌%◌, ◌<◌, ◌≤◌, ◌⊎◌, inl, inr, List, true}
use Rattle.std.proofs.Common.{length}
use Rattle.std.proofs.Common.{get_or, drop, sym, ap, ◌∙◌, subst, arith, ⊎_elim}
use Rattle.std.proofs.lemmas.Bool.{cases_eq, cases_lt}
use Rattle.std.proofs.lemmas.List.{get_or-take, get_or-drop}
use Rattle.addr_map.specs.Places.{AreMapped}
use Rattle.obj_memory.specs.declared.value.Tag.TheVariants.{Untagged}
use Rattle.obj_memory.specs.declared.value.Place.{Place}
use Rattle.obj_memory.specs.Objects.{ObjectState, Objects, object_at}
use Rattle.obj_memory.specs.Access.{bytes_at, overwrite, move_range, write_bytes}
use Rattle.obj_memory.specs.Sound.{IsPlace}
use Rattle.obj_memory.proofs.Listed.{get_or-overwrite_before, get_or-overwrite_in, get_or-overwrite_behind}
use Rattle.obj_memory.proofs.Reading.{object_set, object_set_other}
use Rattle.obj_memory.proofs.Moving.{tag_moved, tag_not_moved, moved_other}
use Rattle.obj_memory.proofs.Soundness.{length-bytes_at, sound_moved, sound_bytes}
use Rattle.obj_memory.proofs.Keeping.{keeps_moved, keeps_bytes}
use Rattle.flat_code.specs.Memory.{Bytes}
use Rattle.flat_code.specs.Routines.Metadata.{IsObjectWord}
use Rattle.flat_code.proofs.Routines.Regions.{IsLaidOut}
use Rattle.flat_code.specs.Routines.Objects.StandsFor.{Views, Keys, spell, StandsFor}
use Rattle.flat_code.specs.Routines.Objects.Changes.{Changes, IsPut, IsMoved, IsKeptWord}
use Rattle.flat_code.proofs.Routines.Objects.Changing.{word_of, changed}

-- a list with some bytes put into it has the bytes of a memory with the same bytes put into it
overwritten : (m m' : Bytes) (a k : ℕ) (new old : List ℕ) → k + length new ≤ length old
    → ((j : ℕ) → j < length old → m (a + j) ≡ get_or old j 0)
    → ((i : ℕ) → i < length new → m' (a + k + i) ≡ get_or new i 0)
    → ((j : ℕ) → j < length old → (j < k) ⊎ (k + length new ≤ j) → m' (a + j) ≡ m (a + j))
    → (j : ℕ) → j < length old → m' (a + j) ≡ get_or (overwrite k new old) j 0
overwritten m m' a k new old fits was there beside j l = ⊎_elim
    (λ (before : j < k). beside j l (inl before) ∙ was j l ∙ sym (get_or-overwrite_before k new old j 0 fits before))
    (λ (from : k ≤ j). ⊎_elim
    (λ (inside : j < k + length new).
    (let i = j - k in
    let e : k + i ≡ j = omega arith in
    let at : m' (a + k + i) ≡ get_or new i 0 = there i (omega arith) in
    let place : a + k + i ≡ a + j = omega arith in
    subst (λ z. m' z ≡ get_or new i 0) place at
    ∙ sym (get_or-overwrite_in k new old i 0 fits (omega arith)) ∙ ap (λ z. get_or (overwrite k new old) z 0) e))
    (λ (behind : k + length new ≤ j). beside j l (inr behind) ∙ was j l
    ∙ sym (get_or-overwrite_behind k new old j 0 fits behind))
    (cases_lt j (k + length new)))
    (cases_lt j k)

module _ (g : Views) (k : Keys) (mapped : AreMapped g.sizes) (ok : IsLaidOut g.sizes) (old : Objects) (m m' : Bytes)
    (st : StandsFor g k old m) where
  abbrev at : ℕ → ObjectState
  at n = object_at old n

  module _ (size : ℕ) (d s : Place) (live : (object_at old d.object).is_live ≡ true)
      (live' : (object_at old s.object).is_live ≡ true) (to : IsPlace old d size) (from : IsPlace old s size)
      (moved : IsMoved g size ((object_at old d.object).address + d.offset)
      ((object_at old s.object).address + s.offset) m m') where
    bytes_are : (object_at (move_range size d s old) d.object).bytes
        ≡ overwrite d.offset (bytes_at size s old) (at d.object).bytes
    unfolding move_range
    bytes_are = ap (λ z. z.bytes) (object_set old d.object _ to.made)

    source : (i : ℕ) → i < size → m ((at s.object).address + s.offset + i) ≡ get_or (bytes_at size s old) i 0
    source i l =
        let x = at s.object in
        let room = from.room in
        let place : x.address + (s.offset + i) ≡ x.address + s.offset + i = omega arith in
        subst (λ z. m z ≡ get_or x.bytes (s.offset + i) 0) place
        ((st.here s.object live').bytes (s.offset + i) (omega arith))
        ∙ sym (get_or-take size (drop s.offset x.bytes) i 0 l ∙ get_or-drop s.offset x.bytes i 0)

    bytes : (j : ℕ) → j < (at d.object).size
        → m' ((at d.object).address + j) ≡ get_or (overwrite d.offset (bytes_at size s old) (at d.object).bytes) j 0
    bytes j l =
        let o = at d.object in
        let long : length (bytes_at size s old) ≡ size = length-bytes_at size s old st.sound from in
        let all : length o.bytes ≡ o.size = (st.sound.at d.object).bytes in
        let room = to.room in
        let p = (st.placed d.object live).last in
        let small = ok.small in
        overwritten m m' o.address d.offset (bytes_at size s old) o.bytes (omega arith)
        (λ i il. (st.here d.object live).bytes i (omega arith))
        (λ i il. moved.there i (omega arith) ∙ source i (omega arith))
        (λ i il out. moved.beside (o.address + i) (omega arith)
        (⊎_elim (λ z. inl (omega arith)) (λ z. inr (omega arith)) out))
        j (omega arith)

    tags : (w : ℕ) → w < (at d.object).size / 8
        → g.entry m' ((at d.object).address + 8 * w)
        ≡ spell g k (get_or (object_at (move_range size d s old) d.object).tags w Untagged)
    tags w l = by (cases_eq (d.offset % 8) (s.offset % 8)) (cases_lt (8 * w) d.offset)
        (cases_lt (d.offset + size) (8 * w + 8))
      where
        o : ObjectState
        o = at d.object

        x : ObjectState
        x = at s.object

        word : IsObjectWord g.sizes (o.address + 8 * w)
        word = word_of g.sizes g.functions old o w (st.sound.at d.object) (st.placed d.object live) l

        kept : IsKeptWord size (o.address + d.offset) (x.address + s.offset) (o.address + 8 * w)
            → (d.offset % 8 ≢ s.offset % 8) ⊎ ((8 * w < d.offset) ⊎ (d.offset + size < 8 * w + 8))
            → g.entry m' (o.address + 8 * w)
            ≡ spell g k (get_or (object_at (move_range size d s old) d.object).tags w Untagged)
        kept out out' = moved.others (o.address + 8 * w) word out ∙ (st.here d.object live).tags w l
            ∙ ap (spell g k) (sym (tag_not_moved size d s w old to.made out'))

        by : (d.offset % 8 ≡ s.offset % 8) ⊎ (d.offset % 8 ≢ s.offset % 8) → (8 * w < d.offset) ⊎ (d.offset ≤ 8 * w)
            → (d.offset + size < 8 * w + 8) ⊎ (8 * w + 8 ≤ d.offset + size)
            → g.entry m' (o.address + 8 * w)
            ≡ spell g k (get_or (object_at (move_range size d s old) d.object).tags w Untagged)
        by (inr ne) b c =
            let z = (st.sound.at d.object).aligned in let z' = (st.sound.at s.object).aligned in
            kept (inl (λ e. ne (omega arith))) (inl ne)
        by (inl e) (inl b) c = kept (inr (inl (omega arith))) (inr (inl b))
        by (inl e) (inr b) (inl c) = kept (inr (inr (omega arith))) (inr (inr c))
        by (inl e) (inr b) (inr c) =
            let z = (st.sound.at d.object).aligned in
            let z' = (st.sound.at s.object).aligned in
            let room = from.room in
            let j = (8 * w - d.offset + s.offset) / 8 in
            let place : o.address + 8 * w - (o.address + d.offset) + (x.address + s.offset) ≡ x.address + 8 * j =
            omega arith in
            moved.entries (o.address + 8 * w) word (omega arith, omega arith, omega arith)
            ∙ ap (g.entry m) place
            ∙ (st.here s.object live').tags j (omega arith)
            ∙ ap (spell g k) (sym (tag_moved size d s w old st.sound to e b c))

    move_changes : Changes g k (at d.object) (object_at (move_range size d s old) d.object) m m'
    move_changes =
        let o = at d.object in
        let q = (keeps_moved size d s old).at d.object in
        let room = to.room in
        record {
          here = record {
            bytes = λ j l. (let e = bytes j (omega (arith, l, q.size)) in
                ap (λ a. m' (a + j)) q.address ∙ e ∙ ap (λ bs. get_or bs j 0) (sym bytes_are));
            tags = λ w l. (let e = tags w (subst (λ z. w < z / 8) q.size l) in
                ap (λ a. g.entry m' (a + 8 * w)) q.address ∙ e);
          };
          bytes = λ a l out. moved.beside a l (⊎_elim (λ z. inl (omega arith)) (λ z. inr (omega arith)) out);
          entries = λ a w out.
              moved.others a w (⊎_elim (λ z. inr (inl (omega arith))) (λ z. inr (inr (omega arith))) out);
          tables = moved.tables;
        }

    pub move_stands : StandsFor g k (move_range size d s old) m'
    move_stands = changed g k mapped ok d.object old (move_range size d s old) m m' st live (keeps_moved size d s old)
        (sound_moved size d s old st.sound to from) (λ j ne. moved_other size d s j old ne) move_changes

  module _ (new : List ℕ) (p : Place) (live : (object_at old p.object).is_live ≡ true) (to : IsPlace old p (length new))
      (small : (j : ℕ)
      → get_or new j 0 < 256) (put : IsPut g new ((object_at old p.object).address + p.offset) m m') where
    put_object : object_at (write_bytes new p old) p.object
        ≡ record (at p.object) { bytes = overwrite p.offset new (at p.object).bytes }
    unfolding write_bytes
    put_object = object_set old p.object _ to.made

    put_others : (j : ℕ) → j ≢ p.object → object_at (write_bytes new p old) j ≡ at j
    unfolding write_bytes
    put_others j ne = object_set_other old p.object j _ ne

    put_bytes : (j : ℕ) → j < (at p.object).size
        → m' ((at p.object).address + j) ≡ get_or (overwrite p.offset new (at p.object).bytes) j 0
    put_bytes j l =
        let o = at p.object in
        let all : length o.bytes ≡ o.size = (st.sound.at p.object).bytes in
        let room = to.room in
        let q = (st.placed p.object live).last in
        let sm = ok.small in
        overwritten m m' o.address p.offset new o.bytes (omega arith)
        (λ i il. (st.here p.object live).bytes i (omega arith))
        put.there
        (λ i il out. put.beside (o.address + i) (omega arith)
        (⊎_elim (λ z. inl (omega arith)) (λ z. inr (omega arith)) out))
        j (omega arith)

    pub put_stands : StandsFor g k (write_bytes new p old) m'
    put_stands =
        let o = at p.object in
        let room = to.room in
        let placed = st.placed p.object live in
        let up : Changes g k o (record o { bytes = overwrite p.offset new o.bytes }) m m' = record {
          here = record {
            bytes = put_bytes;
            tags = λ w l. put.entries (o.address + 8 * w) (word_of g.sizes g.functions old o w (st.sound.at p.object)
                placed l)
                ∙ (st.here p.object live).tags w l;
          };
          bytes = λ a l out. put.beside a l (⊎_elim (λ z. inl (omega arith)) (λ z. inr (omega arith)) out);
          entries = λ a w out. put.entries a w;
          tables = put.tables;
        } in
        changed g k mapped ok p.object old (write_bytes new p old) m m' st live (keeps_bytes new p old)
        (sound_bytes new p old st.sound to small) put_others
        (subst (λ z. Changes g k o z m m') (sym put_object) up)
