-- Routines made of routines that are known by what they do.
use Rattle.std.proofs.Common.{◌≡◌, ℕ, ◌+◌, List, ◌++◌}
use Rattle.addr_map.specs.Places.{MapSizes}
use Rattle.source_meaning.specs.Strings.{scan}
use Rattle.flat_code.specs.declared.instruction.FlatInstruction.{FlatInstruction}
use Rattle.flat_code.specs.declared.registers.Held.{Held}
use Rattle.flat_actions.specs.Judgement.Judging.{IsJudgeRoutine}
use Rattle.flat_actions.specs.Actions.{Basis}
use Rattle.flat_actions.specs.Ranges.{IsByteMoveRoutine, IsFillRoutine}
use Rattle.flat_actions.specs.Scanning.{IsScanRoutine}
use Rattle.lib_wrappers.specs.StringRoutines.Copying.{size_code, IsCopied, count_code, tail_code, IsFilledUp}

pub is_copied : (basis : Basis) (to from : Held) (line t : ℕ) (items scanning judging moving : List FlatInstruction)
    → IsScanRoutine basis (λ v. scan v line) from (λ f. Unit {0}) t (t + 1) scanning
    → IsJudgeRoutine to (t + 1) line (t + 1 + 1) judging
    → IsByteMoveRoutine basis.map to.value from.value (t + 1) (t + 1 + 1) moving
    → items ≡ scanning ++ (size_code (t + 1) from.value t ++ (judging ++ moving))
    → IsCopied basis to from line t items
is_copied basis to from line t items scanning judging moving s j m e = record {
  scanning = scanning;
  judging = judging;
  moving = moving;
  scans = s;
  judges = j;
  moves = m;
  items_are = e;
}

pub is_filled_up : (map : MapSizes) (to from size t : ℕ) (items moving filling : List FlatInstruction)
    → IsByteMoveRoutine map to from (t + 1) (t + 4) moving
    → IsFillRoutine map (t + 2) (t + 3) (t + 1) (t + 4) filling
    → items ≡ count_code (t + 1) from t ++ (moving ++ (tail_code to size (t + 1) (t + 2) (t + 3) ++ filling))
    → IsFilledUp map to from size t items
is_filled_up map to from size t items moving filling m f e =
    record { moving = moving; filling = filling; moves = m; fills = f; items_are = e }
