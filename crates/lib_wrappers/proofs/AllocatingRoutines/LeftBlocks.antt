-- The routine of a block that is left.
use Rattle.std.proofs.Common.{ℕ, ◌+◌, inl, inr, List, length, arith}
use Rattle.addr_map.specs.Places.{MapSizes, AreMapped}
use Rattle.source_meaning.specs.Blocks.{leave_block}
use Rattle.flat_code.specs.declared.instruction.FlatInstruction.{FlatInstruction}
use Rattle.flat_code.specs.Memory.{Bytes}
use Rattle.flat_code.specs.State.{State}
use Rattle.flat_code.specs.Meaning.{Goes}
use Rattle.flat_code.specs.Routines.Routine.{Outcome, Continues, Halts, Either, Never}
use Rattle.flat_code.specs.Routines.Metadata.{View}
use Rattle.flat_code.proofs.Routines.Rules.{weaken}
use Rattle.flat_code.proofs.Routines.Words.{IsLocal}
use Rattle.flat_code.proofs.Routines.Regions.{spaces_follow}
use Rattle.shadow_space.proofs.Entries.{context_of}
use Rattle.lock_space.specs.Routines.{HasReleased, IsReleaseRoutine}
use Rattle.heap_space.proofs.Local.{rows_kept}
use Rattle.heap_space.proofs.Regions.{table_laid_out}
use Rattle.flat_actions.specs.Actions.{IsFor, views_of}
use Rattle.flat_actions.proofs.Standing.{shown_still}
use Rattle.lib_wrappers.specs.AllocatingRoutines.Entering.{AreOfLock, HasLeft, IsLeaveRoutine}
use Rattle.lib_wrappers.proofs.AllocatingRoutines.BlockMemory.{shadow_by_locks, table_by_locks, good_by_locks}
use Rattle.lib_wrappers.proofs.AllocatingRoutines.BlockDeaths.{lock_not_global, lock_used, lock_is_one, block_left}

pub leave_does : (map : MapSizes) → AreMapped map → (entry : View) (IsGood : Bytes → Type 0)
    → IsLocal map entry IsGood → (lock t : ℕ) (r : List FlatInstruction) → IsReleaseRoutine map lock t r
    → IsLeaveRoutine map entry IsGood lock t r
leave_does map mapped entry IsGood local lock t r releases runtime functions types k x b charge weight = record {
  from = λ code pc s has w p.
      let c = context_of map runtime charge weight in
      weaken c code 11 11 (Goes pc s) (pc + length r) (Either (HasReleased map lock t s) Never)
      (Either (HasLeft (views_of map functions types entry) k IsGood t (leave_block b x) s) Never) (omega arith)
      (by s p.0 p.1)
      ((releases runtime charge weight).from code pc s has w (record {
        good = p.0.spaces.locks;
        lock = lock_is_one (views_of map functions types entry) k x b.homes (s.values lock) s.memory p.0.objects p.1;
        not_global = lock_not_global (views_of map functions types entry) k x b.homes (s.values lock) s.memory
            p.0.objects p.1;
        used = lock_used (views_of map functions types entry) k x b.homes (s.values lock) s.memory p.0.objects p.1;
      }));
}
  where
    by : (s : State) → IsFor (views_of map functions types entry) k IsGood x s → AreOfLock k x b.homes (s.values lock)
        → (y : Outcome) → Either (HasReleased map lock t s) Never y
        → Either (HasLeft (views_of map functions types entry) k IsGood t (leave_block b x) s) Never y
    by s f of (Continues s') d =
        let follow = spaces_follow map in
        let shadow = follow.shadow in let locks = follow.locks in let table = follow.table in
        record {
          stands = record {
            objects = block_left map mapped functions types entry IsGood k x b.homes (s.values lock) s.memory s'.memory
                f.objects of (λ a l. d.memory a (inl (omega arith)))
                (λ a word. (local s.memory s'.memory
                (shadow_by_locks map mapped entry IsGood local s.memory s'.memory d.memory) f.spaces.shadow).1 a word)
                d.released d.other_locks d.counter
                (rows_kept map s.memory s'.memory (table_laid_out map mapped)
                (table_by_locks map mapped entry IsGood local s.memory s'.memory d.memory) f.spaces.table);
            spaces = good_by_locks map mapped entry IsGood local s.memory s'.memory d.memory f.spaces d.good;
            keys = f.keys;
            shown = (let q = shown_still x s s' d.shows f.shown in record {
              input = q.input;
              output = q.output;
              taken = q.taken;
              accesses = q.accesses;
            });
          };
          turns = d.shows.turns;
          low = λ a l. d.memory a (inl (omega arith));
          behind = λ a l. d.memory a (inr (omega arith));
          others = d.others;
        }
    by s f of (Halts status report s') d = d
