use Rattle.std.proofs.Common.{◌≡◌, ℕ, ◌≤◌, ◌+◌, ◌%◌, sym, ap, ◌∙◌, arith}
use Rattle.addr_map.specs.declared.region.Region.TheVariants.{Globals}
use Rattle.addr_map.specs.Places.{MapSizes, objects_begin, region_end, region_size, region_start, whole_pages}
use Rattle.shadow_space.specs.Start.{IsGlobalWord}
use Rattle.routine_vectors.proofs.side.start_bytes.Goals as goal

-- two pages of static objects
two_pages : (s : MapSizes) → s.global_bytes ≡ 8192 → region_end s Globals ≡ 0x10002000
unfolding region_start region_size
two_pages s e = ap (λ n. objects_begin + whole_pages n) e

a_word : (s : MapSizes) (a : ℕ) → s.global_bytes ≡ 8192 → objects_begin ≤ a → a ≤ 0x10001ff8 → a % 8 ≡ 0
    → IsGlobalWord s a
a_word s a pages lo hi aligned =
    let end = two_pages s pages in record { first = lo; last = omega (arith, end); aligned = aligned }

pub start-requires-clause-entries : goal.start-requires-clause-entries
start-requires-clause-entries g c =
    let map = c.args.map.now in
    let pages = sym c.global_bytes.ensures.value ∙ c.if-global_bytes-ne8192.false in (
      record {
        word = a_word map 0x10000010 pages (omega arith) (omega arith) (omega arith);
        base = omega arith;
        bound = omega arith;
        key = omega arith;
        lock = omega arith;
      },
      ((λ e. omega (arith, e)), tt),
      (
        record {
          word = a_word map 0x10001ff8 pages (omega arith) (omega arith) (omega arith);
          base = omega arith;
          bound = omega arith;
          key = omega arith;
          lock = omega arith;
        },
        tt,
        tt,
      ),
    )
