-- An entry is read in two levels.
use Rattle.std.proofs.Common.{◌≡◌, ◌≢◌, ℕ, suc, ◌+◌, ◌-◌, ◌*◌, ◌/◌, ◌%◌, ◌^◌, ◌≤◌, List, [], ◌∷◌, ◌++◌}
use Rattle.std.proofs.Common.{refl, sym, ap, ◌∙◌, arith}
use Rattle.std.proofs.lemmas.Bool.{eqb-true, eqb-false}
use Rattle.addr_map.specs.Places.{MapSizes, AreMapped}
use Rattle.rv_isa.specs.declared.instruction.BranchOp.TheVariants.{Beq}
use Rattle.rv_isa.specs.declared.instruction.RegOp.TheVariants.{Add}
use Rattle.rv_isa.specs.Results.{reg_result, extended, branch_taken}
use Rattle.flat_code.specs.declared.instruction.RightOperand.TheVariants.{Register, Number}
use Rattle.flat_code.specs.declared.instruction.FlatInstruction.{FlatInstruction}
use Rattle.flat_code.specs.declared.instruction.FlatInstruction.TheVariants.{Constant, Operate}
use Rattle.flat_code.specs.Memory.{Bytes, put, load}
use Rattle.flat_code.proofs.Stored.{put_other}
use Rattle.flat_code.specs.State.{Values, State}
use Rattle.flat_code.specs.Meaning.{Context}
use Rattle.flat_code.specs.declared.registers.Entry.{Entry}
use Rattle.flat_code.specs.Routines.Registers.{AreDistinct, AreBelow}
use Rattle.flat_code.specs.Routines.Routine.{HasAt, unless_code}
use Rattle.flat_code.specs.Routines.Effects.{worked, effects}
use Rattle.flat_code.specs.Routines.Renaming.{through, Agrees}
use Rattle.flat_code.specs.Routines.Metadata.{no_metadata, metadata_at, metadata_in, entry_registers, IsObjectWord}
use Rattle.flat_code.specs.Routines.Metadata.{ShowsNothing}
use Rattle.flat_code.proofs.Routines.Steps.{has_front, has_back, has_self}
use Rattle.flat_code.proofs.Routines.Distinct.{AreRegisters, register_of, registers_rename, others_stay}
use Rattle.flat_code.proofs.Routines.Regions.{IsLaidOut, laid_out}
use Rattle.flat_code.proofs.Routines.Words.{loaded_at}
use Rattle.flat_code.proofs.Routines.Wrapped.{routine}
use Rattle.shadow_space.specs.Form.{HasRead, IsReadRoutine}
use Rattle.shadow_space.specs.Direct.{load_entry}
use Rattle.shadow_space.proofs.Entries.{context_of, agrees_shows, agrees_memory}
use Rattle.flat_code.specs.Routines.Spaces.Quiet.{AreQuiet}
use Rattle.flat_code.proofs.Routines.Spaces.Quiet.{in_spaces, shows_itself}
use Rattle.flat_code.proofs.Routines.Spaces.Rules.{Quietly, ReachesQuietly, quiet_line, quiet_end, quiet_branch}
use Rattle.flat_code.proofs.Routines.Spaces.Rules.{quiet_weaken}
use Rattle.flat_code.proofs.Routines.Spaces.Rules.{quiet_arrived}
use Rattle.shadow_space.specs.TwoLevel.Tables.{page_of, entry_offset, page_cell, table_of}
use Rattle.shadow_space.specs.TwoLevel.Tables.{two_level_entry, AreTablesGood}
use Rattle.shadow_space.specs.TwoLevel.Code.{look_up, two_level_read}
use Rattle.shadow_space.proofs.TwoLevel.Levels.{AreLevelsLaidOut, levels_laid_out, no_table, with_table, page_below}
use Rattle.shadow_space.proofs.TwoLevel.Levels.{spot_within}

-- ---- looking up

-- the registers of the routines alone: 1 to 4 the entry, 5 the table, 6 the cell of the page, 7 the offset
abbrev pub own : Entry
own = record { base = 1; bound = 2; key = 3; lock = 4 }

-- what is found of a word
pub record Looked (m : Bytes) (a : ℕ) (values : Values) (m' : Bytes) : Type 0 where
  pub table : values 5 ≡ table_of m (page_of a)
  pub cell : values 6 ≡ page_cell (page_of a)
  pub offset : values 7 ≡ entry_offset a
  pub same : m' ≡ m

module _ (c : Context) (lie : AreLevelsLaidOut c.sizes) (at : ℕ) (apart : at ≢ 6) (v : State)
    (w : IsObjectWord c.sizes (v.values at)) where
  cell_is : ((v.values at / 4096 * 8) % 2 ^ 64 + 1073217544) % 2 ^ 64
      ≡ page_cell (page_of (v.values at))
  cell_is = let f = w.first in let l = w.last in let h = lie.heap in let n = lie.few in omega arith

  offset_is : ((v.values at * 4503599627370496) % 2 ^ 64) / 1125899906842624
      ≡ entry_offset (v.values at)
  offset_is = let f = w.first in let l = w.last in let h = lie.heap in let n = lie.few in omega arith

  pub look_up_quiet : AreQuiet c (look_up at 5 6 7) v
  unfolding put reg_result
  look_up_quiet =
      let e = cell_is in let p = page_below c.sizes (v.values at) lie w in let r = lie.room in let i = lie.inside in
      let n = lie.few in
      let place : (((v.values at / 4096 * 8) % 2 ^ 64 + 1073217544) % 2 ^ 64 + 0) % 2 ^ 64 ≡ page_cell (page_of (v.values at)) = omega arith in (
        tt,
        (
          tt,
          (
            tt,
            (tt, (tt, (in_spaces c _ (page_cell (page_of (v.values at))) 8 place (omega arith) (omega arith), tt))),
          ),
        ),
      )

  pub looked_up : Looked v.memory (v.values at) (effects c (look_up at 5 6 7) v).values
      (effects c (look_up at 5 6 7) v).memory
  unfolding put reg_result extended
  looked_up =
      let e = cell_is in let p = page_below c.sizes (v.values at) lie w in let n = lie.few in
      let place : (((v.values at / 4096 * 8) % 2 ^ 64 + 1073217544) % 2 ^ 64 + 0) % 2 ^ 64 ≡ page_cell (page_of (v.values at)) = omega arith in
      let offset_there : (((put v.values 6 (v.values at / 4096) at) * 4503599627370496) % 2 ^ 64) / 1125899906842624
      ≡ entry_offset (v.values at) =
      ap (λ z. ((z * 4503599627370496) % 2 ^ 64) / 1125899906842624)
      (put_other v.values 6 (v.values at / 4096) at apart) ∙ offset_is in
      record { table = ap (load 8 v.memory) place; cell = e; offset = offset_there; same = refl }

-- ---- the routine alone

abbrev alone : List FlatInstruction
alone = two_level_read 0 own 5 6 7

abbrev none_first : List FlatInstruction
none_first = Constant 1 0 ∷ Constant 2 0 ∷ Constant 3 0 ∷ Constant 4 0 ∷ []

abbrev front : List FlatInstruction
front = look_up 0 5 6 7 ++ none_first

abbrev load_it : List FlatInstruction
load_it = Operate Add 5 5 (Register 7) ∷ load_entry 5 own

module _ (c : Context) (ok : IsLaidOut c.sizes) (lie : AreLevelsLaidOut c.sizes) (v : State)
    (w : IsObjectWord c.sizes (v.values 0)) (g : AreTablesGood c.sizes v.memory) where
  abbrev J : Values → Bytes → Type 0
  J values m' = (metadata_in values own ≡ two_level_entry v.memory (v.values 0)) × (m' ≡ v.memory)

  abbrev table : ℕ
  table = table_of v.memory (page_of (v.values 0))

  -- the entry is loaded from the table
  loads : (s : State) → ShowsNothing v s → Looked v.memory (v.values 0) s.values s.memory → table ≢ 0
      → HasAt alone 11 load_it → ReachesQuietly c alone 5 11 v s 16 J
  unfolding put reg_result extended
  loads s shown h ne has =
      let spot = spot_within c.sizes lie v.memory g (v.values 0) w ne no_metadata in
      let lo = spot.0 in let hi = spot.1 in let r = lie.room in let i = lie.inside in let n = g.within in
      let few = lie.few in
      let t = h.table in let o = h.offset in
      let p = table + entry_offset (v.values 0) in
      let sum : (offset : ℕ) → offset ≤ 24 → ((s.values 5 + s.values 7) % 2 ^ 64 + offset) % 2 ^ 64 ≡ p + offset =
      λ offset l. omega arith in
      let s0 : ((s.values 5 + s.values 7) % 2 ^ 64 + 0) % 2 ^ 64 ≡ p = omega arith in
      quiet_end c ok alone v load_it 11 s J shown (
        tt,
        (
          in_spaces c _ (p + 0) 8 (sum 0 (omega arith)) (omega arith) (omega arith),
          (
            in_spaces c _ (p + 8) 8 (sum 8 (omega arith)) (omega arith) (omega arith),
            (
              in_spaces c _ (p + 16) 8 (sum 16 (omega arith)) (omega arith) (omega arith),
              (in_spaces c _ (p + 24) 8 (sum 24 (omega arith)) (omega arith) (omega arith), tt),
            ),
          ),
        ),
      )
      has (
        loaded_at s.memory p _ _ _ _ s0 (sum 8 (omega arith)) (sum 16 (omega arith)) (sum 24 (omega arith))
            ∙ ap (λ m. metadata_at m p) h.same ∙ sym (with_table v.memory table (entry_offset (v.values 0)) ne),
        h.same,
      )

  front_quiet : AreQuiet c front v
  front_quiet =
      let q = look_up_quiet c lie 0 (omega arith) v w in
      (tt, (tt, (tt, (tt, (tt, (q.1.1.1.1.1.0, (tt, (tt, (tt, (tt, tt))))))))))

  front_looked : Looked v.memory (v.values 0) (effects c front v).values (effects c front v).memory
  unfolding put
  front_looked =
      let h = looked_up c lie 0 (omega arith) v w in record { table = h.table; cell = h.cell; offset = h.offset; same = h.same }

  front_none : metadata_in (effects c front v).values own ≡ no_metadata
  unfolding put
  front_none = refl

  reads_alone : ReachesQuietly c alone 18 0 v v 16 J
  unfolding branch_taken
  reads_alone =
      let has = has_self alone in
      let rest = has_back alone 0 front (unless_code Beq 5 (Number 0) load_it) has in
      let s = effects c front v in
      let h = front_looked in
      quiet_weaken c ok alone v (10 + suc 5) 18 0 v 16 J J (omega arith) (λ x y z. z)
      (quiet_line c ok alone v front (suc 5) 0 v 16 J (shows_itself v) front_quiet
      (has_front alone 0 front (unless_code Beq 5 (Number 0) load_it) has)
      (λ s1. quiet_branch c ok alone v 5 10 s Beq 5 (Number 0) 5 16 J rest.0 s1
      (λ e s2. quiet_arrived c ok alone v 5 16 16 (worked c s) J refl (
        s2,
        (
          front_none ∙ sym (no_table v.memory table (entry_offset (v.values 0))
              (sym h.table ∙ eqb-true (s.values 5) 0 e)),
          h.same,
        ),
      ))
      (λ e s2. loads (worked c s) s2 (record { table = h.table; cell = h.cell; offset = h.offset; same = h.same })
      (λ z. eqb-false (s.values 5) 0 e (h.table ∙ z)) rest.1)))

abbrev read_registers : (at : ℕ) → Entry → (scratch : ℕ) → ℕ → ℕ
read_registers at into t = register_of (at ∷ []) (entry_registers into) (t ∷ (t + 1) ∷ (t + 2) ∷ [])

pub two_level_reads : (map : MapSizes) (at : ℕ) (into : Entry) (t : ℕ) → AreMapped map
    → AreDistinct (at ∷ entry_registers into) → AreBelow t (at ∷ entry_registers into)
    → IsReadRoutine map two_level_entry (AreTablesGood map) at into t (two_level_read at into t (t + 1) (t + 2))
two_level_reads map at into t mapped distinct below runtime charge weight =
    let c = context_of map runtime charge weight in
    let ok = laid_out map mapped in
    let lie = levels_laid_out map mapped in
    let r : AreRegisters (at ∷ []) (entry_registers into) (t ∷ (t + 1) ∷ (t + 2) ∷ []) t =
    record {
      none = (distinct.0, tt);
      distinct = distinct.1;
      ins_below = (below.0, tt);
      res_below = below.1;
      from = (omega arith, (omega arith, (omega arith, tt)));
      own_distinct = ((omega arith, (omega arith, tt)), ((omega arith, tt), (tt, tt)));
    } in
    let f = read_registers at into t in
    routine c 8 1 f alone (λ s. IsObjectWord map (s.values at) × AreTablesGood map s.memory)
    (registers_rename (at ∷ []) (entry_registers into) (t ∷ (t + 1) ∷ (t + 2) ∷ []) t r) refl (λ s. 18)
    (λ s. Quietly (through f s)
    (λ values m'. (metadata_in values own ≡ two_level_entry s.memory (s.values at)) × (m' ≡ s.memory)))
    (HasRead two_level_entry at into t)
    (λ s w seen p. reads_alone c ok lie (through f s) p.0 p.1)
    (λ s s' v w p h agrees only.
    record {
      read = same_entry v s' agrees ∙ h.1.0;
      memory = agrees_memory 8 f v s' agrees ∙ h.1.1;
      shows = agrees_shows 8 f v s s' agrees (let z = h.0 in record {
        input = z.input;
        output = z.output;
        taken = z.taken;
        accesses = z.accesses;
        turns = z.turns;
      });
      others = others_stay (at ∷ []) (entry_registers into) (t ∷ (t + 1) ∷ (t + 2) ∷ []) t r s s' only;
    })
  where
    same_entry : (u s' : State) → Agrees 8 (read_registers at into t) u s'
        → metadata_in s'.values into ≡ metadata_in u.values own
    same_entry u s' a = cc (
      a.values 1 (omega arith),
      a.values 2 (omega arith),
      a.values 3 (omega arith),
      a.values 4 (omega arith),
    )
