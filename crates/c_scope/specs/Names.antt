-- Names and the scopes in which they are declared (C99 6.2.1).
use Rattle.std.specs.Prelude.{ℕ, Bool, true, false, List, [], ◌∷◌, ◌++◌, map, Option, Some, None}
use Rattle.std.specs.Prelude.{if◌then◌else◌, nat_eq, position}
use Rattle.std.specs.Cmp.Lexicographic.{pointwise}
use Rattle.c_scope.specs.declared.names.Names as code
use Rattle.c_scope.specs.declared.names.Scopes as code_scopes

-- a name is the list of its bytes
abbrev pub Name : Type 0
Name = List ℕ

abbrev pub is_name : Name → Name → Bool
is_name m n = pointwise nat_eq m n

-- the names that a scope declares, and what stands for each
abbrev pub Names : Type 0 → Type 0
Names A = List (Name × A)

abbrev pub names_of : {A : Type 0} → code.Names A → Names A
names_of names = map (λ e. (e.0.now, e.1)) names.entries.entries

abbrev pub declared : {A : Type 0} → Name → Names A → Option A
declared name [] = None
declared name (e ∷ es) = if is_name name e.0 then Some e.1 else declared name es

-- the number of a name, from 0 on
abbrev pub number_named : {A : Type 0} → Name → Names A → Option ℕ
number_named name es = position (is_name name) (map (λ e. e.0) es)

-- a name that is declared again keeps its place
abbrev pub bound : {A : Type 0} → Name → A → Names A → Names A
bound name what [] = (name, what) ∷ []
bound name what (e ∷ es) = if is_name name e.0 then (e.0, what) ∷ es else e ∷ bound name what es

abbrev pub or_else : {A : Type 0} → Option A → Option A → Option A
or_else None other = other
or_else (Some x) other = Some x

-- in the innermost of some scopes that declares it, of which the outermost is the first
abbrev pub found : {A : Type 0} → Name → List (Names A) → Option A
found name [] = None
found name (outer ∷ inner) = or_else (found name inner) (declared name outer)

-- the scopes that are open: those around the innermost one, that of the file first, and the innermost one
pub record Scopes (A : Type 0) : Type 0 where
  pub outer : List (Names A)
  pub current : Names A

abbrev pub scopes_of : {A : Type 0} → code_scopes.Scopes A → Scopes A
scopes_of s = record { outer = map names_of s.outer.items; current = names_of s.current }

abbrev pub meaning : {A : Type 0} → Name → Scopes A → Option A
meaning name s = or_else (declared name s.current) (found name s.outer)

abbrev pub is_empty : {A : Type 0} → List A → Bool
is_empty [] = true
is_empty (x ∷ xs) = false

abbrev pub is_file_scope : {A : Type 0} → Scopes A → Bool
is_file_scope s = is_empty s.outer

abbrev pub opened : {A : Type 0} → Scopes A → Scopes A
opened s = record { outer = s.outer ++ s.current ∷ []; current = [] }

-- the innermost of the scopes around, where there is one
abbrev pub innermost : {A : Type 0} → Names A → List (Names A) → Names A
innermost file [] = file
innermost file (s ∷ ss) = innermost s ss

abbrev pub around : {A : Type 0} → List (Names A) → List (Names A)
around [] = []
around (s ∷ []) = []
around (s ∷ t ∷ ss) = s ∷ around (t ∷ ss)

-- the scope of the file stays
abbrev pub closed : {A : Type 0} → Scopes A → Scopes A
closed s = record { outer = around s.outer; current = innermost s.current s.outer }

-- the innermost scope is left, and entered again later
abbrev pub left : {A : Type 0} → Scopes A → Scopes A
left s = record { outer = around s.outer; current = innermost [] s.outer }

abbrev pub entered : {A : Type 0} → Names A → Scopes A → Scopes A
entered names s = record { outer = s.outer ++ s.current ∷ []; current = names }
