-- What placing an object on the object stack is made of.
use Rattle.std.specs.Prelude.{ℕ, length}
use Rattle.obj_memory.specs.declared.object.Storage.TheVariants.{Automatic}
use Rattle.obj_memory.specs.Objects.{with_new}
use Rattle.source_meaning.specs.State.{Home, InObject, Run, ◌>>=◌, ◌>>◌, change, done, read_state}
use Rattle.source_meaning.specs.Actions.{make_object}

-- one automatic object more, and its number
abbrev pub add_automatic : (address size : ℕ) → Run ℕ
add_automatic address size = read_state (λ s. length s.objects) >>= λ number.
    (change (λ s. record s { objects = with_new Automatic address size s.objects }) >> done number)

-- the top of the object stack moves to the end of an object, which is made
abbrev pub place_behind : (start end size : ℕ) → Run Home
place_behind start end size = change (λ s. record s { stacked = end }) >> (make_object Automatic start size
    >>= λ o. done (InObject o))
