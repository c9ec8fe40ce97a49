-- Ranges of objects moved and filled: what memory is moved to stands for what the objects become.
use Rattle.std.proofs.Common.{◌≡◌, ℕ, ◌+◌, ◌%◌, ◌<◌, ◌≤◌, ◌⊎◌, inl, inr, ⊎_elim, List, [], length, refl}
use Rattle.std.proofs.Common.{sym, ap, ◌∙◌, subst, arith}
use Rattle.std.specs.Prelude.{replicate, get_or}
use Rattle.std.proofs.lemmas.List.{length-replicate, get_or-replicate}
use Rattle.addr_map.specs.declared.region.Region.TheVariants.{StructureValues}
use Rattle.addr_map.specs.Places.{MapSizes, AreMapped, spaces_begin, region_start}
use Rattle.obj_memory.specs.declared.int_type.IntType.TheVariants.{UnsignedChar}
use Rattle.obj_memory.specs.declared.value.Value.{Value}
use Rattle.obj_memory.specs.declared.value.Place.{Place}
use Rattle.obj_memory.specs.Integers.{fit}
use Rattle.obj_memory.specs.Objects.{Objects, object_at}
use Rattle.obj_memory.specs.Access.{move_range, write_bytes}
use Rattle.obj_memory.specs.Sound.{IsAllowed, KeepsObjects}
use Rattle.obj_memory.proofs.Listed.{every_replicate}
use Rattle.obj_memory.proofs.Keeping.{keeps_moved, keeps_bytes}
use Rattle.source_meaning.specs.State.{State as Source}
use Rattle.flat_code.specs.Memory.{Bytes, KeepsBut}
use Rattle.flat_code.specs.State.{State}
use Rattle.flat_code.specs.Routines.Registers.{OthersStay}
use Rattle.flat_code.specs.Routines.Metadata.{View, ShowsNothing}
use Rattle.flat_code.proofs.Routines.Regions.{laid_out}
use Rattle.flat_code.proofs.Routines.Words.{IsLocal}
use Rattle.flat_code.specs.Routines.Objects.StandsFor.{Views, Keys, StandsFor}
use Rattle.flat_code.specs.Routines.Objects.Changes.{IsPut, IsMoved}
use Rattle.flat_code.proofs.Routines.Objects.Moves.{move_stands, put_stands}
use Rattle.flat_actions.specs.Actions.{views_of, IsFor, StaysElsewhere, Nowhere, HasGiven}
use Rattle.flat_actions.specs.Ranges.{IsObjectRange, HasMovedBytes, HasMovedTagged, HasFilled}
use Rattle.flat_actions.proofs.Standing.{shown_still, keeps_same}
use Rattle.lib_wrappers.proofs.MovingRoutines.Tagged.{ChangesRange, tables_stay, spaces_stay, behind_stays}
use Rattle.lib_wrappers.proofs.MovingRoutines.Tagged.{shadow_stays}

-- the bytes of an access that is allowed lie in object space
pub allowed_range : (g : Views) (k : Keys) (objects : Objects) (m : Bytes) (v : Value) (n : ℕ) (p : Place)
    → StandsFor g k objects m → IsAllowed objects v n p → IsObjectRange g.sizes v.word n
allowed_range g k objects m v n p st h =
    let at = st.placed p.object h.live in
    let first = at.first in let last = at.last in let room = h.place.room in let address = h.address in
    record { first = omega arith; last = omega arith }

-- what changes within a live object changes nothing elsewhere
elsewhere_stays : (map : MapSizes) (old new : Objects) (m m' : Bytes) (v : Value) (n : ℕ) (p : Place)
    → KeepsObjects old new → IsAllowed old v n p
    → ((a : ℕ) → a < spaces_begin → (a < v.word) ⊎ (v.word + n ≤ a) → m' a ≡ m a)
    → ((a : ℕ) → region_start map StructureValues ≤ a → m' a ≡ m a)
    → StaysElsewhere map new m m'
elsewhere_stays map old new m m' v n p keeps h beside behind = record {
  low = λ a l out.
      (let same = keeps.at p.object in
      let address = same.address in let size = same.size in
      let room = h.place.room in let at = h.address in
      beside a l (⊎_elim (λ lo. inl (omega arith)) (λ hi. inr (omega arith)) (out p.object (same.live ∙ h.live))));
  behind = behind;
}

-- the source's state after a range was moved, after bytes were put into one, and after one was filled
abbrev pub with_moved : Source → (n : ℕ) → (d s : Place) → Source
with_moved x n d s = record x { work = x.work + n; objects = move_range n d s x.objects }

abbrev pub with_put : Source → (work : ℕ) → (new : List ℕ) → Place → Source
with_put x w new p = record x { work = w; objects = write_bytes new p x.objects }

abbrev pub filling : (n byte : ℕ) → List ℕ
filling n b = replicate n (fit UnsignedChar b)

abbrev pub with_filled : Source → (n byte : ℕ) → Place → Source
with_filled x n b p = with_put x (x.work + length (filling n b)) (filling n b) p

low_byte : (b : ℕ) → fit UnsignedChar b ≡ b % 256
unfolding fit
low_byte b = refl

module _ (map : MapSizes) (mapped : AreMapped map) (entry : View) (IsGood : Bytes → Type 0) (functions : ℕ)
    (types : ℕ → ℕ) (k : Keys) (t : ℕ) (x : Source) (f f' : State) where
  abbrev g : Views
  g = views_of map functions types entry

  -- ---- moved

  pub moved_is : (to from n u : ℕ) (dv sv v : Value) (d s : Place) → IsFor g k IsGood x f → t ≤ u
      → IsAllowed x.objects dv n d → IsAllowed x.objects sv n s → f.values to ≡ dv.word → f.values from ≡ sv.word
      → HasMovedTagged map entry IsGood to from n u f f' → HasGiven g k IsGood Nowhere t x f v (with_moved x n d s) f'
  moved_is to from n u dv sv v d s h le a b to_is from_is moved =
      let one = moved.moved functions types in
      let to_place : f.values to ≡ (object_at x.objects d.object).address + d.offset = to_is ∙ sym a.address in
      let from_place : f.values from ≡ (object_at x.objects s.object).address + s.offset = from_is ∙ sym b.address in
      let whole = subst (λ i. IsMoved g n i
      ((object_at x.objects s.object).address + s.offset) f.memory f'.memory) to_place
      (subst (λ i. IsMoved g n (f.values to) i f.memory f'.memory) from_place one) in
      let shown = shown_still x f f' moved.shows h.shown in
      record {
        keys = k;
        held = keeps_same x.objects k;
        stands = record {
          objects = move_stands g k mapped (laid_out map mapped) x.objects f.memory f'.memory h.objects n d s a.live
              b.live a.place b.place whole;
          spaces = moved.good;
          keys = h.keys;
          shown = record {
            input = shown.input;
            output = shown.output;
            taken = shown.taken;
            accesses = shown.accesses;
          };
        };
        given = tt;
        turns = moved.shows.turns;
        elsewhere = elsewhere_stays map x.objects (move_range n d s x.objects) f.memory f'.memory dv n d
            (keeps_moved n d s x.objects) a
            (λ q l out. one.beside q l (⊎_elim (λ lo. inl (omega arith)) (λ hi. inr (omega arith)) out))
            moved.behind;
        others = λ r l none. moved.others r (omega arith) none;
      }

  -- ---- bytes put

  -- of memory it changes these bytes alone
  pub record HasPut (new : List ℕ) (a : ℕ) : Type 0 where
    pub there : (i : ℕ) → i < length new → f'.memory (a + i) ≡ get_or new i 0
    pub beside : KeepsBut a (length new) f.memory f'.memory
    pub shows : ShowsNothing f f'
    pub others : OthersStay [] t f f'

  put_changes : (new : List ℕ) (dv : Value) (p : Place) → IsFor g k IsGood x f → IsAllowed x.objects dv (length new) p
      → HasPut new dv.word → ChangesRange map dv.word (length new) f.memory f'.memory
  put_changes new dv p h a put =
      let range = allowed_range g k x.objects f.memory dv (length new) p h.objects a in
      let last = range.last in
      let ok = laid_out map mapped in
      let small = ok.small in
      record { low = λ q l out. put.beside q out; high = λ q l. put.beside q (inr (omega arith)) }

  pub put_is : IsLocal map entry IsGood → (new : List ℕ) (w : ℕ) (dv v : Value) (p : Place) → IsFor g k IsGood x f
      → IsAllowed x.objects dv (length new) p → ((j : ℕ) → get_or new j 0 < 256) → HasPut new dv.word
      → HasGiven g k IsGood Nowhere t x f v (with_put x w new p) f'
  put_is local new w dv v p h a bytes put =
      let ok = laid_out map mapped in
      let range = allowed_range g k x.objects f.memory dv (length new) p h.objects a in
      let change = put_changes new dv p h a put in
      let shadow = local f.memory f'.memory
      (shadow_stays map dv.word (length new) f.memory f'.memory ok range.last put.beside) h.spaces.shadow in
      let place : dv.word ≡ (object_at x.objects p.object).address + p.offset = sym a.address in
      let is_put : IsPut g new dv.word f.memory f'.memory = record {
        there = put.there;
        beside = change.low;
        entries = shadow.1;
        tables = tables_stay map functions types entry IsGood dv.word (length new) f.memory f'.memory mapped h.spaces
            change;
      } in
      let shown = shown_still x f f' put.shows h.shown in
      record {
        keys = k;
        held = keeps_same x.objects k;
        stands = record {
          objects = put_stands g k mapped ok x.objects f.memory f'.memory h.objects new p a.live a.place bytes
              (subst (λ i. IsPut g new i f.memory f'.memory) place is_put);
          spaces = spaces_stay map IsGood dv.word (length new) f.memory f'.memory mapped h.spaces change shadow.0;
          keys = h.keys;
          shown = record {
            input = shown.input;
            output = shown.output;
            taken = shown.taken;
            accesses = shown.accesses;
          };
        };
        given = tt;
        turns = put.shows.turns;
        elsewhere = elsewhere_stays map x.objects (write_bytes new p x.objects) f.memory f'.memory dv (length new) p
            (keeps_bytes new p x.objects) a change.low
            (behind_stays map dv.word (length new) f.memory f'.memory change);
        others = put.others;
      }

  -- ---- filled

  pub filled_is : IsLocal map entry IsGood → (to byte n b : ℕ) (dv v : Value) (p : Place) → IsFor g k IsGood x f
      → IsAllowed x.objects dv n p → f.values to ≡ dv.word → f.values byte ≡ b → HasFilled to byte n t f f'
      → HasGiven g k IsGood Nowhere t x f v (with_filled x n b p) f'
  filled_is local to byte n b dv v p h a to_is byte_is filled =
      let long : length (filling n b) ≡ n = length-replicate n (fit UnsignedChar b) in
      put_is local (filling n b) (x.work + length (filling n b)) dv v p h
      (subst (λ i. IsAllowed x.objects dv i p) (sym long) a)
      (every_replicate (λ z. z < 256) 0 n (fit UnsignedChar b) (omega arith) (let e = low_byte b in omega arith))
      (record {
        there = λ i l. ap (λ z. f'.memory (z + i)) (sym to_is) ∙ filled.there i (omega arith)
            ∙ ap (λ z. z % 256) byte_is ∙ sym (low_byte b)
            ∙ sym (get_or-replicate n i (fit UnsignedChar b) 0 (omega arith));
        beside = λ q out. filled.beside q (⊎_elim (λ lo. inl (omega arith)) (λ hi. inr (omega arith)) out);
        shows = filled.shows;
        others = filled.others;
      })

  -- ---- moved without tags

  -- the bytes that stand in a range are put into another
  pub moved_bytes_are : IsLocal map entry IsGood → (to from : ℕ) (new : List ℕ) (w : ℕ) (dv v : Value) (p : Place)
      → IsFor g k IsGood x f → IsAllowed x.objects dv (length new) p → ((j : ℕ) → get_or new j 0 < 256)
      → f.values to ≡ dv.word → ((i : ℕ) → i < length new → f.memory (f.values from + i) ≡ get_or new i 0)
      → HasMovedBytes to from (length new) t f f' → HasGiven g k IsGood Nowhere t x f v (with_put x w new p) f'
  moved_bytes_are local to from new w dv v p h a bytes to_is standing moved =
      put_is local new w dv v p h a bytes (record {
        there = λ i l. ap (λ z. f'.memory (z + i)) (sym to_is) ∙ moved.there i l ∙ standing i l;
        beside = λ q out. moved.beside q (⊎_elim (λ lo. inl (omega arith)) (λ hi. inr (omega arith)) out);
        shows = moved.shows;
        others = moved.others;
      })
