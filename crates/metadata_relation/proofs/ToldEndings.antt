-- What a status tells of the run of a routine: one ending, which has a report.
use Rattle.std.proofs.Common.{◌≡◌, inl, inr, ℕ, ◌≤◌, List, [], ◌∷◌, length, Some, refl, sym, ap, ◌∙◌, subst, arith}
use Rattle.std.proofs.lemmas.Option.{same_Some}
use Rattle.sb_base.specs.declared.ending.Ending.{Ending}
use Rattle.sb_base.specs.declared.ending.Ending.TheVariants as ending
use Rattle.sb_base.specs.Endings.{report_at, report_of}
use Rattle.runtime_functions.specs.declared.status.ReturnStatus.{ReturnStatus}
use Rattle.runtime_functions.specs.declared.status.ReturnStatus.TheVariants as told
use Rattle.runtime_functions.specs.Status.{ending_at, return_status, status_number}
use Rattle.metadata_relation.proofs.LibraryRuns.{IsToldBy}
use Rattle.metadata_relation.proofs.Statuses.{IsAmong}

-- an ending is told by one status
tells_by : (k : ReturnStatus) (x e : Ending) → Some x ≡ Some e → return_status x ≡ Some k → return_status e ≡ Some k
tells_by k x e same is = subst (λ z. return_status z ≡ Some k) (same_Some x e same) is

pub tells : (k : ReturnStatus) (line : ℕ) (e : Ending) → ending_at k line ≡ Some e → return_status e ≡ Some k
tells told.Completed line e is = cc
tells told.Spatial line e is = tells_by told.Spatial (ending.Spatial line) e is refl
tells told.Temporal line e is = tells_by told.Temporal (ending.Temporal line) e is refl
tells told.BadCall line e is = tells_by told.BadCall (ending.BadCall line) e is refl
tells told.BadFree line e is = tells_by told.BadFree (ending.BadFree line) e is refl
tells told.Divide line e is = tells_by told.Divide (ending.Divide line) e is refl
tells told.Stack line e is = tells_by told.Stack (ending.Stack line) e is refl
tells told.Keys line e is = tells_by told.Keys (ending.Keys line) e is refl
tells told.Abort line e is = tells_by told.Abort (ending.Abort line) e is refl

-- what is told has a report
some_report : (what : List ℕ) (line : ℕ) → 1 ≤ length (report_at what line)
unfolding report_at
some_report what line = omega arith

pub has_report : (e : Ending) (k : ReturnStatus) → return_status e ≡ Some k → 1 ≤ length (report_of e)
has_report (ending.Exit status) k is = cc
has_report (ending.Spatial line) k is = some_report _ line
has_report (ending.Temporal line) k is = some_report _ line
has_report (ending.BadCall line) k is = some_report _ line
has_report (ending.BadFree line) k is = some_report _ line
has_report (ending.Divide line) k is = some_report _ line
has_report (ending.Stack line) k is = some_report _ line
has_report (ending.Keys line) k is = some_report _ line
has_report (ending.Abort line) k is = some_report _ line

-- one that is told by some statuses has one
pub told_status : (ks : List ReturnStatus) (line : ℕ) (e : Ending) → IsToldBy ks line e
    → (k : ReturnStatus) × (return_status e ≡ Some k)
told_status [] line e by = absurd by
told_status (k ∷ ks) line e (inl here) = (k, tells k line e here)
told_status (k ∷ ks) line e (inr more) = told_status ks line e more

-- which is among them
pub told_among : (ks : List ReturnStatus) (k : ReturnStatus) (line : ℕ) (e : Ending) → IsToldBy ks line e
    → ending_at k line ≡ Some e → IsAmong (status_number k) ks
told_among [] k line e by is = absurd by
told_among (j ∷ js) k line e (inl here) is =
    inl (ap status_number (same_Some k j (sym (tells k line e is) ∙ tells j line e here)))
told_among (j ∷ js) k line e (inr more) is = inr (told_among js k line e more is)
