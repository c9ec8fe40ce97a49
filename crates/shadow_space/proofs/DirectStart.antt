-- The bytes with which the direct form begins.
use Rattle.std.proofs.Common.{◌≡◌, ℕ, ◌+◌, ◌-◌, ◌*◌, ◌≤◌, List, [], ◌∷◌, drop, length, replicate, refl}
use Rattle.std.proofs.Common.{◌∙◌, subst, sym, arith}
use Rattle.std.proofs.lemmas.List.{length-replicate}
use Rattle.addr_map.specs.Places.{MapSizes, AreMapped, objects_begin, spaces_begin, whole_pages}
use Rattle.flat_code.specs.Memory.{Bytes, load}
use Rattle.flat_code.specs.Routines.Metadata.{no_metadata}
use Rattle.flat_code.proofs.Routines.Words.{store_four, four_read}
use Rattle.flat_code.proofs.Routines.Regions.{laid_out}
use Rattle.shadow_space.specs.declared.start.StartEntry.{StartEntry}
use Rattle.shadow_space.specs.Start.{metadata_of, IsStartEntry, AreStartEntries, StartsShadow, begun}
use Rattle.shadow_space.specs.Direct.{direct_entry, direct_put, direct_start}
use Rattle.shadow_space.proofs.Entries.{other_entry, direct_local}
use Rattle.shadow_space.proofs.Starting.{Agrees, entry_agrees, length_entry, global_word, HasEntry, have_entries}
use Rattle.shadow_space.proofs.Starting.{started, place_of_word, past_end, zeros_agree}

abbrev written : Bytes → StartEntry → Bytes
written m e = store_four m (4 * e.at) (metadata_of e)

has_entry : (s : MapSizes) (m : Bytes) (e : StartEntry) → IsStartEntry s e
    → HasEntry s direct_entry (λ m. Unit {0}) e m (written m e)
has_entry s m e h = record {
  good = tt;
  there = four_read m (4 * e.at) (metadata_of e) (record {
    base = h.base;
    bound = h.bound;
    key = h.key;
    lock = h.lock;
  });
  others = λ a w ne. other_entry s m e.at (metadata_of e) (global_word s e.at h.word) a w ne;
}

all_agree : (s : MapSizes) (es : List StartEntry) (bytes : List ℕ) (m : Bytes) → AreStartEntries s es
    → length bytes ≡ 4 * whole_pages s.global_bytes → Agrees bytes m
    → Agrees (begun direct_put es bytes) (begun written es m)
all_agree s [] bytes m h l a = a
all_agree s (e ∷ es) bytes m h l a =
    let place = place_of_word s e.at h.0.word in
    let first = h.0.word.first in
    let o = 4 * (e.at - objects_begin) in
    let at : spaces_begin + o ≡ 4 * e.at = omega arith in
    all_agree s es (direct_put bytes e) (written m e) h.2
    (length_entry bytes o (metadata_of e) (omega arith) ∙ l)
    (subst (λ p. Agrees (direct_put bytes e) (store_four m p (metadata_of e))) at
    (entry_agrees bytes m o (metadata_of e) (omega arith) a))

none : (a : ℕ) → direct_entry (λ b. 0) a ≡ no_metadata
unfolding load
none a = refl

pub direct_started : (s : MapSizes) (es : List StartEntry) → AreMapped s → AreStartEntries s es
    → StartsShadow s direct_entry (λ m. Unit {0}) es (direct_start s es)
direct_started s es mapped h =
    let size = 4 * whole_pages s.global_bytes in
    started s direct_entry (λ m. Unit {0}) es (direct_start s es) (λ a. 0) (begun written es (λ a. 0)) h
    (λ x y keep good. direct_local s x y (laid_out s mapped) keep good)
    (λ a w. none a)
    (have_entries s direct_entry (λ m. Unit {0}) written (λ m e good i. has_entry s m e i) es (λ a. 0) tt h)
    (all_agree s es (replicate size 0) (λ a. 0) h (length-replicate size 0) (zeros_agree size))

-- bytes into which all entries were put
pub bytes_started : (s : MapSizes) (es : List StartEntry) (i : ℕ) (bytes : List ℕ) → AreMapped s
    → AreStartEntries s es → length es ≤ i → begun direct_put (drop i es) bytes ≡ direct_start s es
    → StartsShadow s direct_entry (λ m. Unit {0}) es bytes
bytes_started s es i bytes mapped h l e =
    subst (StartsShadow s direct_entry (λ m. Unit {0}) es) (sym (sym (past_end direct_put es i bytes l) ∙ e))
    (direct_started s es mapped h)
