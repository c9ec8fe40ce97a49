-- How entering a block may end the run: for want of room on the object stack, or of a key.
use Rattle.std.proofs.Common.{◌≡◌, ℕ, ◌≤◌, inl, inr, length, None, Some, refl}
use Rattle.sb_base.specs.declared.ending.Ending.{Ending}
use Rattle.sb_base.specs.declared.ending.Ending.TheVariants as ending
use Rattle.sb_base.specs.Endings.{report_of}
use Rattle.runtime_functions.specs.declared.status.ReturnStatus.{ReturnStatus}
use Rattle.runtime_functions.specs.declared.status.ReturnStatus.TheVariants as told
use Rattle.runtime_functions.specs.Status.{ending_at, return_status, status_number}
use Rattle.runtime_functions.proofs.Calls.{some_report}
use Rattle.metadata_relation.specs.Blocks.{enter_statuses}
use Rattle.metadata_relation.proofs.Statuses.{IsAmong}

pub record EndsEntering (line : ℕ) (e : Ending) : Type 0 where
  pub some : return_status e ≡ None → ⊥
  pub among : (q : ReturnStatus) → ending_at q line ≡ Some e → IsAmong (status_number q) enter_statuses
  pub report : 1 ≤ length (report_of e)

pub no_room_ends : (line : ℕ) → EndsEntering line (ending.Stack line)
no_room_ends line = record {
  some = λ h. cc;
  among = λ q is. by q is;
  report = some_report (ending.Stack line) told.Stack refl;
}
  where
    by : (q : ReturnStatus) → ending_at q line ≡ Some (ending.Stack line) → IsAmong (status_number q) enter_statuses
    by told.Stack is = inl refl
    by told.Completed is = absurd cc
    by told.Spatial is = absurd cc
    by told.Temporal is = absurd cc
    by told.BadCall is = absurd cc
    by told.BadFree is = absurd cc
    by told.Divide is = absurd cc
    by told.Keys is = absurd cc
    by told.Abort is = absurd cc

pub no_key_ends : (line : ℕ) → EndsEntering line (ending.Keys line)
no_key_ends line = record {
  some = λ h. cc;
  among = λ q is. by q is;
  report = some_report (ending.Keys line) told.Keys refl;
}
  where
    by : (q : ReturnStatus) → ending_at q line ≡ Some (ending.Keys line) → IsAmong (status_number q) enter_statuses
    by told.Keys is = inr (inl refl)
    by told.Completed is = absurd cc
    by told.Spatial is = absurd cc
    by told.Temporal is = absurd cc
    by told.BadCall is = absurd cc
    by told.BadFree is = absurd cc
    by told.Divide is = absurd cc
    by told.Stack is = absurd cc
    by told.Abort is = absurd cc
