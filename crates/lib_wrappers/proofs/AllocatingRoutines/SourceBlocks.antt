-- Blocks of the heap in the source: `malloc` by whether a place is found and a key is left.
use Rattle.std.proofs.Common.{◌≡◌, ℕ, ◌+◌, Bool, true, false, Some, None, length, ap, ◌∙◌}
use Rattle.std.specs.Prelude.{nat_lt}
use Rattle.sb_base.specs.declared.ending.Ending.TheVariants.{Keys}
use Rattle.obj_memory.specs.declared.object.Storage.TheVariants.{Allocated}
use Rattle.obj_memory.specs.declared.value.Value.{Value}
use Rattle.obj_memory.specs.Objects.{with_new, pointer_to}
use Rattle.obj_memory.specs.Heap.{block_count}
use Rattle.source_meaning.specs.State.{State as Source, Outcome as Completed, Gives, Ended, on, choose, change, stop}
use Rattle.source_meaning.specs.State.{read_state, ◌>>=◌, Setting}
use Rattle.source_meaning.specs.Acting.{at_work}
use Rattle.source_meaning.specs.Actions.{integer, make_object}
use Rattle.source_meaning.specs.Heap.{block_place, make_block, allocate}

-- the state in which a place is sought, and that with the block
abbrev pub sought_in : Source → Source
sought_in x = at_work (x.work + (1 + block_count x.objects)) x

abbrev pub made_in : (place size : ℕ) → Source → Source
made_in p z x = record x {
  work = x.work + (1 + block_count x.objects) + (1 + z);
  objects = with_new Allocated p z x.objects;
  keys = x.keys + 1;
}

-- the block at a place, by whether a key is left
abbrev keyed_block : Bool → (place size line : ℕ) → Source → Completed Value
keyed_block b p z line x = on (choose b (change (λ s. record s { keys = s.keys + 1 })) (stop (Keys line)) x)
    (λ _. make_object Allocated p z >>= (λ o. read_state (λ s. pointer_to o s.objects)))

pub no_place : (g : Setting) (z line : ℕ) (x : Source) → block_place g z x.objects ≡ None
    → allocate g z line x ≡ Gives (integer 0) (sought_in x)
no_place g z line x e = ap (λ o. make_block g z line o (sought_in x)) e

pub no_key : (g : Setting) (z line p : ℕ) (x : Source) → block_place g z x.objects ≡ Some p
    → nat_lt x.keys g.sizes.budgets.keys ≡ false → allocate g z line x ≡ Ended (Keys line) (sought_in x)
no_key g z line p x e d =
    ap (λ o. make_block g z line o (sought_in x)) e ∙ ap (λ b. keyed_block b p z line (sought_in x)) d

pub makes_block : (g : Setting) (z line p : ℕ) (x : Source) → block_place g z x.objects ≡ Some p
    → nat_lt x.keys g.sizes.budgets.keys ≡ true
    → allocate g z line x ≡ Gives (pointer_to (length x.objects) (with_new Allocated p z x.objects)) (made_in p z x)
makes_block g z line p x e d =
    ap (λ o. make_block g z line o (sought_in x)) e ∙ ap (λ b. keyed_block b p z line (sought_in x)) d
