-- Bytes that are compared, of two strings and of two ranges.
use Rattle.std.specs.Prelude.{ℕ, ◌*◌, true}
use Rattle.obj_memory.specs.declared.value.Value.{Value}
use Rattle.obj_memory.specs.declared.value.Place.{Place}
use Rattle.obj_memory.specs.Access.{bytes_at}
use Rattle.source_meaning.specs.State.{Run, ◌>>=◌, ◌>>◌, done, read_state, tally}
use Rattle.source_meaning.specs.Actions.{located}
use Rattle.source_meaning.specs.Memory.{order_of, pairs_compared}
use Rattle.source_meaning.specs.Bytes.{look}
use Rattle.source_interp.specs.declared.strings.Pair.{Pair}

-- a byte of each, one after the other
abbrev pub look_at_both : (left right : Value) → (line : ℕ) → Run Pair
look_at_both left right line =
    look left line >>= λ x. (look right line >>= λ y. done (record { first = x; second = y }))

-- two ranges at places, and behind pointers, which are judged before
abbrev pub compare_at : (size : ℕ) → (left right : Place) → Run Value
compare_at size left right = do
  xs ← read_state (λ s. bytes_at size left s.objects)
  ys ← read_state (λ s. bytes_at size right s.objects)
  tally (2 * pairs_compared xs ys)
  done (order_of xs ys)

abbrev pub compare_some : (left right : Value) → (size line : ℕ) → Run Value
compare_some left right size line = do
  place ← located true size left line
  other ← located true size right line
  compare_at size place other
