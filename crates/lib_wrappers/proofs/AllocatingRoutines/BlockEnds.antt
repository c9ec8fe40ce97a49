-- A live block is taken from the table, and its lock word released.
use Rattle.std.proofs.Common.{◌≡◌, ◌≢◌, ℕ, ◌+◌, ◌*◌, ◌<◌, ◌≤◌, List, [], ◌∷◌, true}
use Rattle.std.proofs.Common.{length, refl, sym, ◌∙◌, subst, arith}
use Rattle.addr_map.specs.declared.region.Region.TheVariants.{StructureValues}
use Rattle.addr_map.specs.Places.{MapSizes, AreMapped, spaces_begin, region_start}
use Rattle.obj_memory.specs.declared.object.Storage.TheVariants.{Static, Allocated}
use Rattle.obj_memory.specs.Objects.{object_at}
use Rattle.source_meaning.specs.State.{State as Source}
use Rattle.flat_code.specs.declared.instruction.FlatInstruction.{FlatInstruction}
use Rattle.flat_code.specs.Memory.{Bytes, load}
use Rattle.flat_code.specs.State.{State}
use Rattle.flat_code.specs.Words.{IsOfWords}
use Rattle.flat_code.specs.Meaning.{Context, Goes}
use Rattle.flat_code.specs.Routines.Registers.{AreBelow, OthersStay}
use Rattle.flat_code.specs.Routines.Routine.{HasAt, Outcome, Reaches, Never}
use Rattle.flat_code.specs.Routines.Metadata.{View, ShowsNothing}
use Rattle.flat_code.proofs.Routines.Rules.{next}
use Rattle.flat_code.proofs.Routines.Showing.{shows_both}
use Rattle.flat_code.proofs.Routines.Words.{IsLocal}
use Rattle.flat_code.specs.Routines.Objects.StandsFor.{Views, Keys, IsLock, global_lock}
use Rattle.flat_code.proofs.Routines.Objects.Changing.{live_is_made}
use Rattle.shadow_space.proofs.Entries.{context_of}
use Rattle.lock_space.specs.Routines.{HasReleased, CanRelease, IsReleaseRoutine}
use Rattle.lock_space.proofs.Spaces.{locks_laid_out}
use Rattle.lock_space.proofs.Local.{lock_kept}
use Rattle.heap_space.specs.Rows.{HasStart, without_row}
use Rattle.heap_space.specs.Table.{block_total, block_rows}
use Rattle.heap_space.specs.Routines.{HasRemoved}
use Rattle.heap_space.specs.Routines.{IsReleaseRoutine as IsUnlistRoutine}
use Rattle.flat_actions.specs.Actions.{AreSpacesGood, IsFor}
use Rattle.flat_actions.specs.Actions.{views_of}
use Rattle.flat_actions.proofs.Standing.{shown_still}
use Rattle.lib_wrappers.specs.AllocatingRoutines.Freeing.{IsBlockEnded}
use Rattle.lib_wrappers.proofs.AllocatingRoutines.BlockMemory.{good_by_table, locks_by_table, block_ended}
use Rattle.lib_wrappers.proofs.AllocatingRoutines.BlockDeath.{block_died}
use Rattle.lib_wrappers.proofs.AllocatingRoutines.TableRows.{has_start}
use Rattle.lib_wrappers.proofs.AllocatingRoutines.SourceFrees.{ended_in}

module _ (map : MapSizes) (mapped : AreMapped map) (entry : View) (IsGood : Bytes → Type 0)
    (local : IsLocal map entry IsGood) (at held t : ℕ) (below : AreBelow t (at ∷ held ∷ []))
    (unlist unlock : List FlatInstruction) (unlists : IsUnlistRoutine map at (t + 4) unlist)
    (unlocks : IsReleaseRoutine map held (t + 4) unlock) (functions : ℕ) (types : ℕ → ℕ) (k : Keys) (x : Source) (n : ℕ)
    (live : (object_at x.objects n).is_live ≡ true) (block : (object_at x.objects n).storage ≡ Allocated)
    (charge weight : ℕ) (s : State)
    (f : IsFor (views_of map functions types entry) k IsGood x s)
    (start_there : s.values at ≡ (object_at x.objects n).address) (lock_there : s.values held ≡ (k.held n).lock) where
  abbrev c : Context
  c = context_of map true charge weight

  abbrev g : Views
  g = views_of map functions types entry

  abbrev lock : ℕ
  lock = (k.held n).lock

  abbrev count : ℕ
  count = block_total map s.memory

  made : n < length x.objects
  made = live_is_made x.objects n live

  is_lock : IsLock map lock
  is_lock = (f.objects.keyed.each n made).lock

  not_static : (object_at x.objects n).storage ≢ Static
  not_static e = let none : Allocated ≡ Static = sym block ∙ e in cc

  own_lock : lock ≢ global_lock map
  own_lock = ((f.objects.keyed.each n made).other not_static).2

  used_lock : load 8 s.memory lock ≢ 0
  used_lock e =
      let q = ((f.objects.keyed.each n made).other not_static).0 in let held = f.objects.locks.live n live in
      omega arith

  -- what is left
  pub record HasEndedBlock (s' : State) : Type 0 where
    pub stands : IsFor g k IsGood (ended_in n x) s'
    pub low : (a : ℕ) → a < spaces_begin → s'.memory a ≡ s.memory a
    pub behind : (a : ℕ) → region_start map StructureValues ≤ a → s'.memory a ≡ s.memory a
    pub shows : ShowsNothing s s'
    pub others : OthersStay [] t s s'

  module _ (s3 : State) (d3 : HasRemoved map at (t + 4) s s3) where
    rows3 : block_rows map s3.memory ≡ without_row (object_at x.objects n).address (block_rows map s.memory)
    rows3 = rw (sym start_there) d3.rows

    lock3 : s3.values held ≡ lock
    lock3 = d3.others held (let l = below.1.0 in omega arith) tt ∙ lock_there

    good3 : AreSpacesGood map IsGood s3.memory
    good3 = good_by_table map mapped entry IsGood local s.memory s3.memory d3.memory f.spaces d3.good

    can_release : CanRelease map s3.memory (s3.values held)
    can_release = subst (CanRelease map s3.memory) (sym lock3) (record {
      good = good3.locks;
      lock = is_lock;
      not_global = own_lock;
      used = λ e. used_lock (sym (lock_kept map s.memory s3.memory (locks_laid_out map mapped)
          (locks_by_table map mapped entry IsGood local s.memory s3.memory d3.memory) lock is_lock) ∙ e);
    })

    module _ (s4 : State) (d4 : HasReleased map held (t + 4) s3 s4) where
      ended_block : IsBlockEnded map entry IsGood (object_at x.objects n).address lock s.memory s4.memory
      ended_block =
          block_ended map mapped entry IsGood local (object_at x.objects n).address lock s.memory s3.memory s4.memory
          f.spaces is_lock rows3 d3.memory d3.good d4.counter (rw (sym lock3) d4.released)
          (rw (sym lock3) d4.other_locks) d4.good d4.memory

      shown4 : ShowsNothing s s4
      shown4 = shows_both s s3 s4 d3.shows d4.shows

      has_ended : HasEndedBlock s4
      has_ended = record {
        stands = record {
          objects = block_died map mapped functions types entry IsGood k x.objects n s.memory s4.memory f.objects
              f.spaces live block ended_block;
          spaces = ended_block.good;
          keys = f.keys;
          shown = (let q = shown_still x s s4 shown4 f.shown in record {
            input = q.input;
            output = q.output;
            taken = q.taken;
            accesses = q.accesses;
          });
        };
        low = ended_block.low;
        behind = ended_block.behind;
        shows = shown4;
        others = λ r l none. d4.others r (omega arith) tt ∙ d3.others r (omega arith) tt;
      }

  has_row : HasStart (s.values at) (block_rows map s.memory)
  has_row =
      let r = f.objects.table.row_of n live block in
      subst (λ a. HasStart a (block_rows map s.memory)) (sym start_there)
      (has_start (object_at x.objects n).address (block_rows map s.memory) r.0 r.1 r.2.start)

  pub ends_block : (code : List FlatInstruction) (bound pc end : ℕ) (R : Outcome → Type 0) → IsOfWords s
      → HasAt code pc unlist → HasAt code (pc + length unlist) unlock
      → ((s' : State) → IsOfWords s' → HasEndedBlock s'
      → Reaches c code bound (Goes (pc + length unlist + length unlock) s') end R)
      → Reaches c code ((16 + 16 * count) + (11 + bound)) (Goes pc s) end R
  ends_block code bound pc end R w has two on =
      next c code (16 + 16 * count) (11 + bound) (Goes pc s) (pc + length unlist) end (HasRemoved map at (t + 4) s)
      Never R
      w
      ((unlists count true charge weight).from code pc s has w ((f.spaces.table, refl), has_row))
      (λ s3 w3 d3.
      next c code 11 bound (Goes (pc + length unlist) s3) (pc + length unlist + length unlock) end
      (HasReleased map held (t + 4) s3) Never R w3
      ((unlocks true charge weight).from code (pc + length unlist) s3 two w3 (can_release s3 d3))
      (λ s4 w4 d4. on s4 w4 (has_ended s3 d3 s4 d4))
      (λ status report s' never. absurd never))
      (λ status report s' never. absurd never)
