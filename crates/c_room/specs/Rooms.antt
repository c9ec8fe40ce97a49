-- The greatest heights of the static objects in the blocks of functions, as a table by the functions' numbers, and the
-- rooms of all functions.
use Rattle.std.specs.Prelude.{◌≡◌, ℕ, suc, nat_lt, if◌then◌else◌, List, [], ◌∷◌, map, length, Option, Some, None}
use Rattle.std.specs.Prelude.{get_or, slice_get, slice_set}
use Rattle.c_tree.specs.declared.expression.Kind.{Kind}
use Rattle.c_tree.specs.Programs.{Function, StaticObject}
use Rattle.c_tree.specs.Room.{greatest_height, room, static_contents}
use Rattle.c_room.specs.Contents.{with_contents}
use Rattle.c_room.specs.Demands.{nothing}
use Rattle.c_room.specs.Numbers.{fitting, greater}

-- for each of so many functions by number, the greatest height of the expressions of the static objects in its block
pub record AreHeights (statics : List StaticObject) (functions : ℕ) (heights : List (Option ℕ)) : Type 0 where
  pub size : length heights ≡ functions
  pub each : (n : ℕ) (h : Option ℕ) → slice_get heights n ≡ Some h
      → h ≡ fitting (greatest_height (static_contents statics n))

-- heights of which that of one function, if it has one, is no less than a height
unfoldable pub raised : List (Option ℕ) → (function : ℕ) → (height : Option ℕ) → List (Option ℕ)
raised heights f h =
    if nat_lt f (length heights) then slice_set heights f (greater (get_or heights f None) h) else heights

abbrev pub raised_in : List (Option ℕ) → Option ℕ → (height : Option ℕ) → List (Option ℕ)
raised_in heights None h = heights
raised_in heights (Some f) h = raised heights f h

abbrev pub with_statics : List (Option ℕ) → List StaticObject → List (Option ℕ)
with_statics heights [] = heights
with_statics heights (o ∷ os) =
    with_statics (raised_in heights o.function (with_contents nothing (map (λ p. p.content) o.parts)).height) os

-- of functions from a number on, with the kinds of what they give
abbrev pub rooms : List StaticObject → (number : ℕ) → List Function → List Kind → List (Option ℕ)
rooms statics n [] results = []
rooms statics n (f ∷ fs) [] = []
rooms statics n (f ∷ fs) (k ∷ ks) = fitting (room statics n k f) ∷ rooms statics (suc n) fs ks
