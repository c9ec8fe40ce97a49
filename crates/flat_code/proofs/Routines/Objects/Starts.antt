-- The memory with which a run begins stands for the static objects.
use Rattle.std.proofs.Common.{◌≡◌, true, false, refl, sym, ◌∙◌, subst, arith}
use Rattle.addr_map.specs.Places.{AreMapped}
use Rattle.obj_memory.specs.declared.object.Storage.{Storage}
use Rattle.obj_memory.specs.declared.object.Storage.TheVariants.{Static, Allocated}
use Rattle.obj_memory.specs.Objects.{Objects, object_at}
use Rattle.flat_code.specs.Memory.{Bytes}
use Rattle.flat_code.specs.Routines.Objects.StandsFor.{Views, StandsFor, IsTable}
use Rattle.flat_code.specs.Routines.Objects.Start.{start_keys, IsStart}
use Rattle.flat_code.proofs.Routines.Objects.Changing.{live_is_made, global_is_lock}

not_allocated : (s : Storage) → s ≡ Static → s ≡ Allocated → ⊥
not_allocated s e f = let z : Static ≡ Allocated = sym e ∙ f in cc

pub starts : (g : Views) (objects : Objects) (m : Bytes) → AreMapped g.sizes → IsStart g objects m
    → StandsFor g (start_keys g) objects m
starts g objects m mapped h = record {
  sound = h.sound;
  disjoint = h.disjoint;
  placed = λ n l. h.placed n (live_is_made objects n l);
  keyed = record {
    each = λ n l. record {
      lock = global_is_lock g.sizes mapped;
      static = λ e. (refl, refl);
      other = λ e. absurd (e (h.static n));
    };
    alone = λ n j nl jl ne e. absurd (not_allocated (object_at objects n).storage (h.static n) e);
    shared = λ n j nl jl a b e. refl;
    rising = λ n j le jl a b. omega arith;
  };
  here = λ n l. h.here n (live_is_made objects n l);
  locks = record {
    live = λ n l. h.global;
    dead = λ n l d. absurd (let z : true ≡ false = sym (h.live n l) ∙ d in cc);
    global = h.global;
    unused = λ a l ne none. h.unused a l ne;
  };
  counted = h.counter;
  table = subst (IsTable (start_keys g) objects) (sym h.blocks) (record {
    by_address = λ i j l k. absurd (omega arith);
    block_of = λ i l. absurd (omega arith);
    row_of = λ n l e. absurd (not_allocated (object_at objects n).storage (h.static n) e);
  });
}
