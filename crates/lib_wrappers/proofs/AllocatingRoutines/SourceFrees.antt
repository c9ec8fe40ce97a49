-- `free` in the source, by what the tag of the pointer names.
use Rattle.std.proofs.Common.{◌≡◌, ◌≢◌, ℕ, Bool, true, false, ap, ◌∙◌}
use Rattle.std.proofs.lemmas.Bool.{eq-eqb, ne_eqb}
use Rattle.sb_base.specs.declared.ending.Ending.TheVariants.{Temporal, BadFree}
use Rattle.obj_memory.specs.declared.value.Bounds.{Bounds}
use Rattle.obj_memory.specs.declared.value.Tag.TheVariants.{Untagged, OfFunction, OfObject}
use Rattle.obj_memory.specs.declared.value.Value.{Value}
use Rattle.obj_memory.specs.Objects.{object_at, with_dead}
use Rattle.source_meaning.specs.State.{State as Source, Outcome as Completed, Gives, Ended, on, choose, done, stop}
use Rattle.source_meaning.specs.State.{◌>>◌}
use Rattle.source_meaning.specs.Actions.{integer}
use Rattle.source_meaning.specs.Heap.{bad_free, is_block_start, freed_by, freed, release, free}
use Rattle.lib_wrappers.proofs.AllocatingRoutines.SourceBlocks.{sought_in}

-- the state without a block
abbrev pub ended_in : (number : ℕ) → Source → Source
ended_in n x = record (sought_in x) { objects = with_dead n x.objects }

-- what follows the object that is freed
abbrev pub then_dead : Completed ℕ → Completed Value
then_dead o = on o (λ n. release n >> done (integer 0))

abbrev by_null : Bool → Value → (line : ℕ) → Source → Completed Value
by_null b v line x = choose b (done (integer 0)) (λ y. then_dead (freed v line y)) x

pub frees_null : (v : Value) (line : ℕ) (x : Source) → v.word ≡ 0 → free v line x ≡ Gives (integer 0) x
frees_null v line x e = ap (λ b. by_null b v line x) (eq-eqb v.word 0 e)

pub frees_by : (v : Value) (line : ℕ) (x : Source) → v.word ≢ 0
    → free v line x ≡ then_dead (freed v line x)
frees_by v line x ne = ap (λ b. by_null b v line x) (ne_eqb v.word 0 ne)

-- ---- which block it frees

pub freed_untagged : (v : Value) (line : ℕ) (x : Source) → v.tag ≡ Untagged
    → freed v line x ≡ Ended (BadFree line) (sought_in x)
freed_untagged v line x e = ap (λ t. freed_by t v.word line x) e

pub freed_function : (v : Value) (line f : ℕ) (x : Source) → v.tag ≡ OfFunction f
    → freed v line x ≡ Ended (BadFree line) (sought_in x)
freed_function v line f x e = ap (λ t. freed_by t v.word line x) e

-- by whether the object lives, and whether the address is the start of a block
abbrev by_life : (live start : Bool) → (n line : ℕ) → Source → Completed ℕ
by_life live start n line x = choose live (choose start (done n) (bad_free line)) (stop (Temporal line)) x

freed_object' : (v : Value) (line n : ℕ) (b : Bounds) (x : Source) → v.tag ≡ OfObject n b
    → freed v line x ≡ by_life (object_at x.objects n).is_live (is_block_start (object_at x.objects n) v.word) n line x
freed_object' v line n b x e = ap (λ t. freed_by t v.word line x) e

pub freed_dead : (v : Value) (line n : ℕ) (b : Bounds) (x : Source) → v.tag ≡ OfObject n b
    → (object_at x.objects n).is_live ≡ false → freed v line x ≡ Ended (Temporal line) x
freed_dead v line n b x e dead =
    freed_object' v line n b x e
    ∙ ap (λ l. by_life l (is_block_start (object_at x.objects n) v.word) n line x) dead

pub freed_no_start : (v : Value) (line n : ℕ) (b : Bounds) (x : Source) → v.tag ≡ OfObject n b
    → (object_at x.objects n).is_live ≡ true → is_block_start (object_at x.objects n) v.word ≡ false
    → freed v line x ≡ Ended (BadFree line) (sought_in x)
freed_no_start v line n b x e live other =
    freed_object' v line n b x e
    ∙ ap (λ l. by_life l (is_block_start (object_at x.objects n) v.word) n line x) live
    ∙ ap (λ s. by_life true s n line x) other

pub freed_block : (v : Value) (line n : ℕ) (b : Bounds) (x : Source) → v.tag ≡ OfObject n b
    → (object_at x.objects n).is_live ≡ true → is_block_start (object_at x.objects n) v.word ≡ true
    → freed v line x ≡ Gives n x
freed_block v line n b x e live starts =
    freed_object' v line n b x e
    ∙ ap (λ l. by_life l (is_block_start (object_at x.objects n) v.word) n line x) live
    ∙ ap (λ s. by_life true s n line x) starts
