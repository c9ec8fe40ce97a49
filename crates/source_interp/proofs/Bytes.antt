-- Bytes that routines look at, set and move.
use Rattle.std.proofs.Common.{◌≡◌, ℕ, sym, ap, ◌∙◌, Ok, true, false, List, length, if◌then◌else◌}
use Rattle.std.specs.Prelude.{Result}
use Rattle.obj_memory.specs.declared.value.Place.{Place}
use Rattle.obj_memory.specs.declared.value.Value.{Value}
use Rattle.obj_memory.specs.Access.{write_bytes}
use Rattle.obj_memory.specs.Objects.{Objects}
use Rattle.obj_memory.proofs.Keeping.{keeps_bytes}
use Rattle.source_meaning.specs.State.{Run, Setting, change, choose, done}
use Rattle.source_meaning.specs.Actions.{is_zero}
use Rattle.source_meaning.specs.Bytes.{unless_empty}
use Rattle.interpreter_objects.specs.Kept.{is_there, kept, with_bytes_put}
use Rattle.interpreter_objects.proofs.Keeping.{same_bytes_put, same_there}
use Rattle.source_interp.specs.declared.machine.Machine.{Machine}
use Rattle.source_interp.specs.declared.stop.Stop.{Stop}
use Rattle.source_interp.specs.Outside.{Outside}
use Rattle.source_interp.specs.Standing.{Acts}
use Rattle.source_interp.proofs.Acting.{done_acts, gives_acts, same_acts}
use Rattle.source_interp.proofs.Accesses.{changes}

bytes_there : (bytes : List ℕ) (p : Place) (store store' objects : Objects)
    → true ≡ is_there (length bytes) p store → store' ≡ with_bytes_put bytes p store → store ≡ kept objects
    → store' ≡ kept (write_bytes bytes p objects)
unfolding with_bytes_put
bytes_there bytes p store store' objects t e same =
    e ∙ ap (with_bytes_put bytes p) same ∙ same_bytes_put bytes p objects
    ∙ ap (λ b. kept (if b then write_bytes bytes p objects else objects))
    (sym (same_there (length bytes) p objects) ∙ sym (ap (is_there (length bytes) p) same) ∙ sym t)

pub writes_bytes : (g : Setting) (o : Outside) (old new : Machine) (p : Place) (bytes : List ℕ)
    → true ≡ is_there (length bytes) p old.store → new.store ≡ with_bytes_put bytes p old.store
    → new ≡ record old { store = new.store }
    → Acts g old new o o (Ok tt) (change (λ s. record s { objects = write_bytes bytes p s.objects }))
writes_bytes g o old new p bytes t e same = changes g o old new (write_bytes bytes p)
    (λ objects. keeps_bytes bytes p objects) same
    (λ objects h. bytes_there bytes p old.store new.store objects t e h)

-- where there are no bytes, and where there are some

pub does_nothing : (g : Setting) (m : Machine) (o : Outside) (size argument : Value) (run : Run Value)
    → is_zero size ≡ true → Acts g m m o o (Ok argument) (unless_empty size argument run)
does_nothing g m o size argument run e = same_acts g m m o o (Ok argument) (done argument) _
    (ap (λ b. choose b (done argument) run) e) (done_acts g m o argument)

pub does_something : (g : Setting) (old new : Machine) (o : Outside) (size argument : Value) (run : Run Value)
    (r : Result Value Stop) → is_zero size ≡ false → Acts g old new o o r run
    → Acts g old new o o r (unless_empty size argument run)
does_something g old new o size argument run r e a = same_acts g old new o o r run _
    (ap (λ b. choose b (done argument) run) e) a

-- where there are no bytes, and what is given is known by an equation
pub does_nothing_as : (g : Setting) (m : Machine) (o : Outside) (size argument v : Value) (run : Run Value)
    → is_zero size ≡ true → v ≡ argument → Acts g m m o o (Ok v) (unless_empty size argument run)
does_nothing_as g m o size argument v run e same = same_acts g m m o o (Ok v) (done argument) _
    (ap (λ b. choose b (done argument) run) e) (gives_acts g m o v argument same)
