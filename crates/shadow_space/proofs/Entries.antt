-- The direct form: reading and writing an entry.
use Rattle.std.proofs.Common.{◌≡◌, ◌≢◌, ℕ, ◌+◌, ◌-◌, ◌*◌, ◌%◌, ◌^◌, ◌<◌, ◌≤◌, [], ◌∷◌, Bool, true, ◌⊎◌, inl, inr}
use Rattle.std.proofs.Common.{⊎_elim}
use Rattle.std.proofs.Common.{refl, sym, ap, ◌∙◌, subst, arith}
use Rattle.std.proofs.lemmas.Bool.{cases_lt}
use Rattle.addr_map.specs.declared.region.Region.TheVariants.{Shadow}
use Rattle.addr_map.specs.Places.{MapSizes, spaces_begin, region_size}
use Rattle.rv_isa.specs.Results.{reg_result, extended}
use Rattle.flat_code.specs.Memory.{Bytes, put}
use Rattle.flat_code.specs.Spaces.{is_allowed}
use Rattle.flat_code.specs.State.{State}
use Rattle.flat_code.specs.Meaning.{Context}
use Rattle.flat_code.proofs.Stored.{kept_beside, keeps_within}
use Rattle.flat_code.specs.declared.registers.Entry.{Entry}
use Rattle.flat_code.specs.Routines.Registers.{AreDistinct, AreBelow}
use Rattle.flat_code.specs.Routines.Effects.{effects, AreAllowed}
use Rattle.flat_code.specs.Routines.Renaming.{through, Agrees}
use Rattle.flat_code.specs.Routines.Metadata.{Metadata, metadata_in, entry_registers, IsObjectWord, KeepsButShadow}
use Rattle.flat_code.specs.Routines.Metadata.{KeepsShadow, ShowsNothing}
use Rattle.flat_code.proofs.Routines.Distinct.{AreRegisters, register_of, registers_rename, others_stay}
use Rattle.flat_code.proofs.Routines.Wrapped.{straight_routine}
use Rattle.flat_code.proofs.Routines.Regions.{IsLaidOut, shadow_allowed, shadow_not_shown}
use Rattle.flat_code.proofs.Routines.Words.{store_four, IsOfFourWords, four_read, four_beside, metadata_kept, loaded_at}
use Rattle.flat_code.proofs.Routines.Words.{stored_at}
use Rattle.shadow_space.specs.Form.{HasRead, IsReadRoutine, HasWritten, IsWriteRoutine}
use Rattle.shadow_space.specs.Direct.{direct_entry, direct_read, direct_write}

-- the registers of the routine alone: 0 the address, 1 to 4 the entry, 5 scratch
abbrev own : Entry
own = record { base = 1; bound = 2; key = 3; lock = 4 }

-- where an entry stands
pub record StandsInShadow (map : MapSizes) (p : ℕ) : Type 0 where
  pub begins : spaces_begin ≤ p
  pub ends : p + 32 ≤ spaces_begin + region_size map Shadow
  pub small : p + 32 < 2 ^ 62

pub in_shadow : (map : MapSizes) (a : ℕ) → IsLaidOut map → IsObjectWord map a → StandsInShadow map (4 * a)
in_shadow map a ok w =
    let f = w.first in let l = w.last in let r = ok.room in let k = ok.small in
    record { begins = omega arith; ends = omega arith; small = omega arith }

-- what the state of the routine alone says of the code's
pub agrees_shows : (n : ℕ) (f : ℕ → ℕ) (v s s' : State) → Agrees n f v s' → ShowsNothing s v → ShowsNothing s s'
agrees_shows n f v s s' a h =
    let e = a.rest in
    record {
      input = ap (λ z. z.input) e ∙ h.input;
      output = ap (λ z. z.output) e ∙ h.output;
      taken = ap (λ z. z.taken) e ∙ h.taken;
      accesses = ap (λ z. z.accesses) e ∙ h.accesses;
      turns = ap (λ z. z.turns) e ∙ h.turns;
    }

pub agrees_memory : (n : ℕ) (f : ℕ → ℕ) (v s' : State) → Agrees n f v s' → s'.memory ≡ v.memory
agrees_memory n f v s' a = ap (λ z. z.memory) a.rest

module _ (c : Context) (ok : IsLaidOut c.sizes) where
  -- each word of the entry may be used
  part_allowed : (x offset : ℕ) → IsObjectWord c.sizes x → offset + 8 ≤ 32
      → is_allowed c.sizes (((x * 4) % 2 ^ 64 + offset) % 2 ^ 64) 8 ≡ true
  part_allowed x offset w l =
      let i = in_shadow c.sizes x ok w in
      let a = i.begins in let b = i.ends in let s = i.small in
      shadow_allowed c.sizes (((x * 4) % 2 ^ 64 + offset) % 2 ^ 64) 8 ok (omega arith) (omega arith)

  read_allowed : (v : State) → IsObjectWord c.sizes (v.values 0) → AreAllowed c (direct_read 0 own 5) v
  unfolding put reg_result
  read_allowed v w = (
    tt,
    (
      part_allowed (v.values 0) 0 w (omega arith),
      (
        part_allowed (v.values 0) 8 w (omega arith),
        (part_allowed (v.values 0) 16 w (omega arith), (part_allowed (v.values 0) 24 w (omega arith), tt)),
      ),
    ),
  )

  write_allowed : (v : State) → IsObjectWord c.sizes (v.values 0) → AreAllowed c (direct_write 0 own 5) v
  unfolding put reg_result
  write_allowed v w = (
    tt,
    (
      part_allowed (v.values 0) 0 w (omega arith),
      (
        part_allowed (v.values 0) 8 w (omega arith),
        (part_allowed (v.values 0) 16 w (omega arith), (part_allowed (v.values 0) 24 w (omega arith), tt)),
      ),
    ),
  )

  read_value : (v : State) → IsObjectWord c.sizes (v.values 0)
      → metadata_in (effects c (direct_read 0 own 5) v).values own ≡ direct_entry v.memory (v.values 0)
  unfolding put reg_result extended
  read_value v w =
      let i = in_shadow c.sizes (v.values 0) ok w in let s = i.small in
      loaded_at v.memory (4 * v.values 0) _ _ _ _ (omega arith) (omega arith) (omega arith) (omega arith)

  read_shows : (v : State) → IsObjectWord c.sizes (v.values 0) → ShowsNothing v (effects c (direct_read 0 own 5) v)
  unfolding put reg_result
  read_shows v w =
      let i = in_shadow c.sizes (v.values 0) ok w in let b = i.begins in let s = i.small in
      record {
        input = refl;
        output = refl;
        taken = refl;
        accesses = shadow_not_shown c _ 8 _ _ ok (omega arith) ∙ shadow_not_shown c _ 8 _ _ ok (omega arith)
            ∙ shadow_not_shown c _ 8 _ _ ok (omega arith) ∙ shadow_not_shown c _ 8 _ _ ok (omega arith);
        turns = refl;
      }

  write_shows : (v : State) → IsObjectWord c.sizes (v.values 0) → ShowsNothing v (effects c (direct_write 0 own 5) v)
  unfolding put reg_result
  write_shows v w =
      let i = in_shadow c.sizes (v.values 0) ok w in let b = i.begins in let s = i.small in
      record {
        input = refl;
        output = refl;
        taken = refl;
        accesses = shadow_not_shown c _ 8 _ _ ok (omega arith) ∙ shadow_not_shown c _ 8 _ _ ok (omega arith)
            ∙ shadow_not_shown c _ 8 _ _ ok (omega arith) ∙ shadow_not_shown c _ 8 _ _ ok (omega arith);
        turns = refl;
      }

  write_memory : (v : State) → IsObjectWord c.sizes (v.values 0)
      → (effects c (direct_write 0 own 5) v).memory ≡ store_four v.memory (4 * v.values 0) (metadata_in v.values own)
  unfolding put reg_result
  write_memory v w =
      let i = in_shadow c.sizes (v.values 0) ok w in let s = i.small in
      stored_at v.memory (4 * v.values 0) _ _ _ _ (metadata_in v.values own) (omega arith) (omega arith) (omega arith)
      (omega arith)

abbrev pub context_of : MapSizes → Bool → (charge weight : ℕ) → Context
context_of map runtime charge weight = record { sizes = map; is_runtime = runtime; charge = charge; weight = weight }

-- ---- reading

abbrev read_registers : (at : ℕ) → Entry → (scratch : ℕ) → ℕ → ℕ
read_registers at into t = register_of (at ∷ []) (entry_registers into) (t ∷ [])

pub direct_reads : (map : MapSizes) (at : ℕ) (into : Entry) (t : ℕ) → IsLaidOut map
    → AreDistinct (at ∷ entry_registers into) → AreBelow t (at ∷ entry_registers into)
    → IsReadRoutine map direct_entry (λ m. Unit {0}) at into t (direct_read at into t)
direct_reads map at into t ok distinct below runtime charge weight =
    let c = context_of map runtime charge weight in
    let r : AreRegisters (at ∷ []) (entry_registers into) (t ∷ []) t =
    record {
      none = (distinct.0, tt);
      distinct = distinct.1;
      ins_below = (below.0, tt);
      res_below = below.1;
      from = (omega arith, tt);
      own_distinct = (tt, tt);
    } in
    straight_routine c 6 1 (read_registers at into t) (direct_read 0 own 5) _
    (registers_rename (at ∷ []) (entry_registers into) (t ∷ []) t r) refl 18 (HasRead direct_entry at into t)
    (omega arith)
    (λ s w p. read_allowed c ok (through (read_registers at into t) s) p.0)
    (λ s s' w p agrees only.
    let v = through (read_registers at into t) s in
    let u = effects c (direct_read 0 own 5) v in
    record {
      read = same_entry u s' agrees ∙ read_value c ok v p.0;
      memory = agrees_memory 6 _ u s' agrees;
      shows = agrees_shows 6 _ u s s' agrees (let h = read_shows c ok v p.0 in record {
        input = h.input;
        output = h.output;
        taken = h.taken;
        accesses = h.accesses;
        turns = h.turns;
      });
      others = others_stay (at ∷ []) (entry_registers into) (t ∷ []) t r s s' only;
    })
  where
    same_entry : (u s' : State) → Agrees 6 (read_registers at into t) u s'
        → metadata_in s'.values into ≡ metadata_in u.values own
    same_entry u s' a = cc (
      a.values 1 (omega arith),
      a.values 2 (omega arith),
      a.values 3 (omega arith),
      a.values 4 (omega arith),
    )

-- ---- writing

-- the entries of two words stand apart
pub places_apart : (map : MapSizes) (a b : ℕ) → IsObjectWord map a → IsObjectWord map b → b ≢ a
    → (4 * b + 32 ≤ 4 * a) ⊎ (4 * a + 32 ≤ 4 * b)
places_apart map a b wa wb ne =
    let x = wa.aligned in let y = wb.aligned in
    ⊎_elim (λ l. inl (omega arith)) (λ l. inr (omega (arith, ne))) (cases_lt b a)

pub other_entry : (map : MapSizes) (m : Bytes) (a : ℕ) (e : Metadata) → IsObjectWord map a → (b : ℕ)
    → IsObjectWord map b → b ≢ a → direct_entry (store_four m (4 * a) e) b ≡ direct_entry m b
other_entry map m a e wa b wb ne =
    metadata_kept m _ (4 * b) (kept_beside (4 * a) 32 (4 * b) 32 m _ (four_beside m (4 * a) e)
    (places_apart map a b wa wb ne))

abbrev write_registers : (at : ℕ) → Entry → (scratch : ℕ) → ℕ → ℕ
write_registers at from t = register_of (at ∷ entry_registers from) [] (t ∷ [])

pub direct_writes : (map : MapSizes) (at : ℕ) (from : Entry) (t : ℕ) → IsLaidOut map
    → AreBelow t (at ∷ entry_registers from)
    → IsWriteRoutine map direct_entry (λ m. Unit {0}) at from t (direct_write at from t)
direct_writes map at from t ok below runtime charge weight =
    let c = context_of map runtime charge weight in
    let r : AreRegisters (at ∷ entry_registers from) [] (t ∷ []) t =
    record {
      none = (tt, (tt, (tt, (tt, (tt, tt)))));
      distinct = tt;
      ins_below = below;
      res_below = tt;
      from = (omega arith, tt);
      own_distinct = (tt, tt);
    } in
    straight_routine c 6 5 (write_registers at from t) (direct_write 0 own 5) _
    (registers_rename (at ∷ entry_registers from) [] (t ∷ []) t r) refl 24
    (HasWritten map direct_entry (λ m. Unit {0}) at from t) (omega arith)
    (λ s w p. write_allowed c ok (through (write_registers at from t) s) p.0)
    (λ s s' w p agrees only.
    let v = through (write_registers at from t) s in
    let u = effects c (direct_write 0 own 5) v in
    let e = metadata_in s.values from in
    let four : IsOfFourWords e = record {
      base = w.values _;
      bound = w.values _;
      key = w.values _;
      lock = w.values _;
    } in
    let same : s'.memory ≡ store_four s.memory (4 * s.values at) e =
    agrees_memory 6 _ u s' agrees ∙ write_memory c ok v p.0 in
    let i = in_shadow map (s.values at) ok p.0 in
    record {
      written = ap (λ m. direct_entry m (s.values at)) same ∙ four_read s.memory (4 * s.values at) e four;
      other_words = λ b wb ne. ap (λ m. direct_entry m b) same
          ∙ other_entry map s.memory (s.values at) e p.0 b wb ne;
      good = tt;
      memory = subst (KeepsButShadow map s.memory) (sym same)
          (keeps_within (4 * s.values at) 32 spaces_begin (region_size map Shadow) s.memory _ i.begins i.ends
          (four_beside s.memory (4 * s.values at) e));
      shows = agrees_shows 6 _ u s s' agrees (let h = write_shows c ok v p.0 in record {
        input = h.input;
        output = h.output;
        taken = h.taken;
        accesses = h.accesses;
        turns = h.turns;
      });
      others = others_stay (at ∷ entry_registers from) [] (t ∷ []) t r s s' only;
    })

-- ---- entries depend on the shadow space alone

pub direct_local : (map : MapSizes) (m m' : Bytes) → IsLaidOut map → KeepsShadow map m m' → Unit {0}
    → Unit {0} × ((a : ℕ) → IsObjectWord map a → direct_entry m' a ≡ direct_entry m a)
direct_local map m m' ok keep u = (
  tt,
  λ a w. metadata_kept m m' (4 * a) (λ i l.
      let inside = in_shadow map a ok w in
      let b = inside.begins in let d = inside.ends in
      let e : spaces_begin + (4 * a - spaces_begin + i) ≡ 4 * a + i = omega arith in
      subst (λ b. m' b ≡ m b) e (keep (4 * a - spaces_begin + i) (omega arith))),
)
