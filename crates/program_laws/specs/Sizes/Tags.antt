-- Structures and unions whose tags get their members at file scope (C99 6.2.3, 6.7.2.3), on the way through a file and
-- at its end.
use Rattle.std.specs.Prelude.{◌≡◌, ℕ, true, List, Some, Ok, Err, is_some, slice_get}
use Rattle.c_faults.specs.Answer.{Answer}
use Rattle.c_scope.specs.Names.{Name, declared}
use Rattle.c_scope.specs.Structures.{Body, file_tag_of, is_known}
use Rattle.c_typing_state.specs.State.{State}
use Rattle.c_unit_typing.specs.Files.{File}

-- each that is declared at file scope by such a tag is complete at the end of the file
pub record TagsAreComplete (file : File) : Type 0 where
  pub each : (n : ℕ) (body : Body) (tag : Name) → slice_get file.state.environment.structures.bodies n ≡ Some body
      → body.file_tag ≡ Some tag → is_some (declared tag file.state.environment.facts.tags) ≡ true
      → is_known (slice_get file.state.environment.structures.extents n) ≡ true

-- one that is declared at file scope keeps its number and its tag
pub record BodiesStay (before behind : List Body) : Type 0 where
  pub each : (n : ℕ) (tag : Name) → file_tag_of (slice_get before n) ≡ Some tag
      → file_tag_of (slice_get behind n) ≡ Some tag

-- so it does behind what is typed in a file
abbrev pub IfBodiesStay : {A : Type 0} → State → Answer (File × A) → Type 0
IfBodiesStay s (Ok r) = BodiesStay s.environment.structures.bodies r.0.state.environment.structures.bodies
IfBodiesStay s (Err e) = Unit {0}
