-- Structures of which more are complete (C99 6.7.2.3).
use Rattle.std.specs.Prelude.{◌≡◌, ℕ, List, Option, Some}
use Rattle.c_tree.specs.Extents.{TypeExtent, structure_extent}

-- those that were complete are so still, with the same extents
pub record AreMore (structures more : List (Option TypeExtent)) : Type 0 where
  pub kept : (number : ℕ) (e : TypeExtent) → structure_extent structures number ≡ Some e
      → structure_extent more number ≡ Some e
