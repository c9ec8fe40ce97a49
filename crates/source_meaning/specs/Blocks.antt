-- Blocks (C99 6.2.4 paragraph 5): the objects of a block are placed where it is entered, and die where it is left.
-- Three-address code has the same runs `enter_block` and `leave_block`.
use Rattle.std.specs.Prelude.{ℕ, ◌+◌, Bool, true, false, ◌||◌, nat_le, if◌then◌else◌, List, [], ◌∷◌}
use Rattle.sb_base.specs.declared.ending.Ending.{Ending}
use Rattle.sb_base.specs.declared.ending.Ending.TheVariants.{Stack}
use Rattle.obj_memory.specs.declared.object.Storage.TheVariants.{Automatic}
use Rattle.obj_memory.specs.Objects.{Objects, with_dead}
use Rattle.obj_memory.specs.Heap.{rounded_up}
use Rattle.c_tree.specs.declared.program.Variable.{Variable}
use Rattle.c_tree.specs.Kinds.{size_of_kind}
use Rattle.source_meaning.specs.State.{State, Home, NoObject, InObject, Run, ◌>>=◌, ◌>>◌, done, stop, choose}
use Rattle.source_meaning.specs.State.{read_state, change, skip, Setting}
use Rattle.source_meaning.specs.Places.{stack_end}
use Rattle.source_meaning.specs.Actions.{make_object, take_key}

-- The objects of a block are given as all variables of the function, of which only those are objects that the block
-- enters.

abbrev pub pass_or_stop : Bool → Ending → Run (Unit {0})
pass_or_stop true e = skip
pass_or_stop false e = stop e

-- where the objects of some variables end that are placed from an address on, each at a multiple of 16
abbrev pub objects_end : List Variable → (top : ℕ) → ℕ
objects_end [] top = top
objects_end (v ∷ vs) top = objects_end vs (if v.is_object then rounded_up 16 top + size_of_kind v.kind else top)

-- the objects are within the object stack
abbrev pub test_space : Setting → List Variable → (line : ℕ) → Run (Unit {0})
test_space g vs line = do
  top ← read_state (λ s. s.stacked)
  pass_or_stop (nat_le (objects_end vs top) (stack_end g)) (Stack line)

abbrev pub has_objects : List Variable → Bool
has_objects [] = false
has_objects (v ∷ vs) = v.is_object || has_objects vs

-- one key for all objects of the block
abbrev pub test_keys : Setting → List Variable → (line : ℕ) → Run (Unit {0})
test_keys g vs line = choose (has_objects vs) (take_key g line) skip

-- an object on top of the object stack
abbrev pub place_object : (size : ℕ) → Run Home
place_object size = do
  top ← read_state (λ s. s.stacked)
  change (λ s. record s { stacked = rounded_up 16 top + size })
  o ← make_object Automatic (rounded_up 16 top) size
  done (InObject o)

abbrev pub place_variable : Variable → Run Home
place_variable v = choose v.is_object (place_object (size_of_kind v.kind)) (done NoObject)

-- the homes of some variables
abbrev pub place_variables : List Variable → Run (List Home)
place_variables [] = done []
place_variables (v ∷ vs) = do
  home ← place_variable v
  homes ← place_variables vs
  done (home ∷ homes)

-- the objects after those of some variables died
abbrev pub without_homes : List Home → Objects → Objects
without_homes [] objects = objects
without_homes (NoObject ∷ homes) objects = without_homes homes objects
without_homes (InObject o ∷ homes) objects = without_homes homes (with_dead o objects)

-- the homes of variables with those of a block that is entered
abbrev pub over : Home → Home → Home
over outer NoObject = outer
over outer (InObject o) = InObject o

abbrev pub homes_over : (outer inner : List Home) → List Home
homes_over [] inner = inner
homes_over (o ∷ os) [] = o ∷ os
homes_over (o ∷ os) (h ∷ hs) = over o h ∷ homes_over os hs

-- what a block is left with: the homes of its objects, and the homes and the top of the object stack from before it
pub record Block : Type 0 where
  pub homes : List Home
  pub frame : List Home
  pub stacked : ℕ

abbrev pub place_block : List Variable → Run Block
place_block vs = do
  frame ← read_state (λ s. s.frame)
  top ← read_state (λ s. s.stacked)
  homes ← place_variables vs
  change (λ s. record s { frame = homes_over frame homes })
  done (record { homes = homes; frame = frame; stacked = top })

-- a block that has objects is entered: the tests in this order, then its objects are placed with zero bytes and no tags
abbrev pub enter_block : Setting → List Variable → (line : ℕ) → Run Block
enter_block g vs line = do
  test_space g vs line
  test_keys g vs line
  place_block vs

-- it is left: its objects die, and the top goes back
abbrev pub leave_block : Block → State → State
leave_block b s = record s { objects = without_homes b.homes s.objects; frame = b.frame; stacked = b.stacked }

-- a run in a block, which is left however it completes; a block without objects is nothing
abbrev pub scoped : {A : Type 0} → Setting → List Variable → (line : ℕ) → Run A → Run A
scoped g vs line body = choose (has_objects vs) (do
  b ← enter_block g vs line
  completion ← body
  change (leave_block b)
  done completion) body
