-- The meaning of initializers (C99 6.7.8).
use Rattle.std.specs.Prelude.{ℕ, ◌+◌, false, List, [], ◌∷◌, length, get_or, Option, Some, None}
use Rattle.obj_memory.specs.declared.int_type.IntType.TheVariants.{Char}
use Rattle.obj_memory.specs.declared.value.Value.{Value}
use Rattle.obj_memory.specs.declared.value.Scalar.TheVariants.{Integer}
use Rattle.obj_memory.specs.Objects.{object_at, with_zeroed}
use Rattle.obj_memory.specs.Judgement.{narrowed}
use Rattle.c_tree.specs.Tree.{kind_of, line_of}
use Rattle.c_tree.specs.Statements.{Part, Content, value_content, literal_content, Initializer, of_plain, of_object}
use Rattle.c_tree.specs.Statements.{DeclaredVariable}
use Rattle.source_meaning.specs.State.{Home, NoObject, InObject, Run, ◌>>=◌, ◌>>◌, read_state, change, skip, tally, Env}
use Rattle.c_tree.specs.Kinds.{size_of_kind}
use Rattle.source_meaning.specs.Actions.{integer, store, set_plain, home_pointer}
use Rattle.source_meaning.specs.Structures.{write_rvalue}
use Rattle.source_meaning.specs.Expressions.{evaluate}

-- all bytes of an object become zero, and its words lose their tags
abbrev pub zero_object : ℕ → Run (Unit {0})
zero_object o = do
  size ← read_state (λ s. (object_at s.objects o).size)
  tally size
  change (λ s. record s { objects = with_zeroed o s.objects })

abbrev pub zero_home : Home → Run (Unit {0})
zero_home NoObject = skip
zero_home (InObject o) = zero_object o

abbrev pub zero_variable : ℕ → Run (Unit {0})
zero_variable x = do
  home ← read_state (λ s. get_or s.frame x NoObject)
  zero_home home

-- the bytes of a literal, one after another from an offset on
abbrev pub store_bytes : (object : Value) → (offset : ℕ) → List ℕ → Run (Unit {0})
store_bytes p offset [] = skip
store_bytes p offset (b ∷ bs) = do
  store (Integer Char) false (narrowed offset 1 p) 0 (integer b)
  store_bytes p (offset + 1) bs

-- a part of an object; the object is named, so no access is judged. Each byte of a literal is written, which is work.
abbrev pub store_content : Env → (object : Value) → (offset : ℕ) → Content → Run (Unit {0})
store_content env p offset (value_content e) = do
  v ← evaluate env e
  write_rvalue (kind_of e) false (narrowed offset (size_of_kind (kind_of e)) p) (line_of e) v
  skip
store_content env p offset (literal_content bytes) = do
  tally (1 + length bytes)
  store_bytes p offset bytes

abbrev pub store_parts : Env → (object : Value) → List Part → Run (Unit {0})
store_parts env p [] = skip
store_parts env p (q ∷ qs) = do
  store_content env p q.offset q.content
  store_parts env p qs

-- a plain variable gets a value; an object becomes zero, and then its parts are stored from left to right
abbrev pub initialize : Env → (variable : ℕ) → Option Initializer → Run (Unit {0})
initialize env x None = skip
initialize env x (Some (of_plain e)) = do
  v ← evaluate env e
  set_plain x v.value
initialize env x (Some (of_object parts)) = do
  zero_variable x
  p ← read_state (home_pointer x)
  store_parts env p parts

abbrev pub initialize_all : Env → List DeclaredVariable → Run (Unit {0})
initialize_all env [] = skip
initialize_all env (d ∷ ds) = do
  initialize env d.variable d.initializer
  initialize_all env ds
