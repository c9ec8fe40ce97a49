-- A relation of states that holds behind each step of typing, and constructs that are typed one behind the other. It
-- may depend on how many variables the innermost scope gets at most: two constructs add the sum.
use Rattle.std.proofs.Common.{◌≡◌, ℕ, ◌+◌, ◌≤◌, Bool, refl, ap, List, Option, Some, None, length, arith}
use Rattle.std.specs.Prelude.{Ok, Err}
use Rattle.c_faults.specs.declared.fault.Fault.{Fault}
use Rattle.c_faults.specs.Answer.{Answer, ◌>>=◌}
use Rattle.c_scope.specs.declared.meaning.Meaning.{Meaning}
use Rattle.c_scope.specs.declared.meaning.Tag.{Tag}
use Rattle.c_scope.specs.declared.tags.TagKind.{TagKind}
use Rattle.c_scope.specs.Names.{Name, Names, around, declared, innermost}
use Rattle.c_scope.specs.Tags.{added, marked}
use Rattle.c_declarator_typing.specs.Members.{Entry, with_structure}
use Rattle.c_operand_typing.specs.Primaries.{with_literal}
use Rattle.c_typing_state.specs.State.{State}
use Rattle.c_unit_typing.specs.Files.{File}
use Rattle.typing_laws.specs.Scopes.Variables.{variables_among}
use Rattle.typing_laws.proofs.Declarators.Parameters.{within}
use Rattle.typing_laws.proofs.Scopes.Initializers.{IfBehind}

-- a step that declares and completes no tag, adds no string literal and at most so many variables
pub record Stands (n : ℕ) (s t : State) : Type 0 where
  pub structures : t.environment.structures ≡ s.environment.structures
  pub tags : t.environment.tags ≡ s.environment.tags
  pub outer : t.environment.names.outer ≡ s.environment.names.outer
  pub literals : t.literals ≡ s.literals
  pub function : t.function ≡ s.function
  pub variables : variables_among t.environment.names.current ≤ n + variables_among s.environment.names.current

-- a state that leaves the innermost scope
pub record Leaves (s t : State) : Type 0 where
  pub structures : t.environment.structures ≡ s.environment.structures
  pub outer : t.environment.names.outer ≡ around s.environment.names.outer
  pub outer_tags : t.environment.tags.outer ≡ around s.environment.tags.outer
  pub file : Names Tag
  pub current : t.environment.tags.current ≡ innermost file s.environment.tags.outer
  pub file_names : Names Meaning
  pub current_names : t.environment.names.current ≡ innermost file_names s.environment.names.outer

-- a tag that is not declared in the innermost scope
abbrev pub IsFresh : Option Name → State → Type 0
IsFresh None s = Unit {0}
IsFresh (Some x) s = declared x s.environment.tags.current ≡ None

-- What holds behind such a step, behind a string literal (C99 6.4.5), behind a tag that is declared, begun and
-- completed (6.7.2.1, 6.7.2.3), and behind a scope that is opened and left (6.2.1 paragraph 4).
pub record StateWalk (holds : ℕ → State → State → Type 0) : Type 0 where
  pub on : (m n k : ℕ) → m + n ≤ k → (s t u : State) → holds m s t → holds n t u → holds k s u
  pub stands : (n : ℕ) (s t : State) → Stands n s t → holds n s t
  pub literal : (bytes : List ℕ) → 1 ≤ length bytes → (s : State) → holds 0 s (with_literal bytes s)
  pub declares : (k : TagKind) (name : Option Name) (s : State) → IsFresh name s
      → holds 0 s (record s { environment = added k name s.environment })
  pub begins : (t : Tag) (s : State) → holds 0 s (record s { environment = marked t s.environment })
  pub completes : (is_union : Bool) (n : ℕ) (es : List Entry) (s : State) → holds 0 s (with_structure is_union n es s)
  pub scope : (n : ℕ) (s t u : State) → holds n (within s) t → Leaves t u → u.literals ≡ t.literals
      → u.function ≡ t.function → holds 0 s u

-- a construct that is typed in a state
pub record Walking {holds : ℕ → State → State → Type 0} (walk : StateWalk holds) {A : Type 0} (n : ℕ) (s : State)
    (a : Answer (State × A)) : Type 0 where
  pub by : IfBehind (holds n) s a

-- a construct that is typed in a file
abbrev pub IfFileWalks : {A : Type 0} → (State → State → Type 0) → File → Answer (File × A) → Type 0
IfFileWalks holds f (Ok r) = holds f.state r.0.state
IfFileWalks holds f (Err e) = Unit {0}

pub record FileWalking {holds : State → State → Type 0} (walk : StateWalk (λ n. holds)) {A : Type 0} (f : File)
    (a : Answer (File × A)) : Type 0 where
  pub by : IfFileWalks holds f a

at_least : (n : ℕ) {k m : ℕ} → k ≡ m → k ≤ n + m
at_least n e = omega arith

-- a step that leaves the environment as it is
pub stays : {n : ℕ} {s t : State} → t.environment ≡ s.environment → t.literals ≡ s.literals
    → t.function ≡ s.function → Stands n s t
stays {n = n} e same_literals same_function = record {
  structures = ap (λ x. x.structures) e;
  tags = ap (λ x. x.tags) e;
  outer = ap (λ x. x.names.outer) e;
  literals = same_literals;
  function = same_function;
  variables = at_least n (ap (λ x. variables_among x.names.current) e);
}

pub still : {n : ℕ} (s : State) → Stands n s s
still s = stays refl refl refl

-- what follows a construct, or an answer, in a state
module _ {holds : ℕ → State → State → Type 0} (walk : StateWalk holds) where
  more_by : {A : Type 0} (m n k : ℕ) → m + n ≤ k → (s t : State) → holds m s t → (a : Answer (State × A))
      → IfBehind (holds n) t a → IfBehind (holds k) s a
  more_by m n k low s t h (Ok r) g = walk.on m n k low s t r.0 h g
  more_by m n k low s t h (Err f) g = tt

  both_by : {A B : Type 0} (m n k : ℕ) → m + n ≤ k → (s : State) (a : Answer (State × A))
      (next : State × A → Answer (State × B)) → IfBehind (holds m) s a
      → ((r : State × A) → Walking walk n r.0 (next r)) → IfBehind (holds k) s (a >>= next)
  both_by m n k low s (Ok r) next h go = more_by m n k low s r.0 h (next r) (go r).by
  both_by m n k low s (Err f) next h go = tt

  standing_by : {A : Type 0} (n : ℕ) (s t : State) → Stands n s t → (a : Answer A)
      → IfBehind (holds n) s (a >>= λ x. Ok (t, x))
  standing_by n s t h (Ok x) = walk.stands n s t h
  standing_by n s t h (Err f) = tt

-- in a file, whatever is added
module _ {holds : State → State → Type 0} (walk : StateWalk (λ n. holds)) where
  pub same : (s : State) → holds s s
  same s = walk.stands 0 s s (still s)

  pub states_on : (s t u : State) → holds s t → holds t u → holds s u
  states_on s t u = walk.on 0 0 0 (omega arith) s t u

  pub file_more : {A : Type 0} (f g : File) → holds f.state g.state → (a : Answer (File × A)) → IfFileWalks holds g a
      → IfFileWalks holds f a
  file_more f g h (Ok r) is = states_on f.state g.state r.0.state h is
  file_more f g h (Err e) is = tt

  file_both : {A B : Type 0} (f : File) (a : Answer (File × A)) (next : File × A → Answer (File × B))
      → IfFileWalks holds f a → ((r : File × A) → FileWalking walk r.0 (next r)) → IfFileWalks holds f (a >>= next)
  file_both f (Ok r) next h go = file_more f r.0 h (next r) (go r).by
  file_both f (Err e) next h go = tt

file_by : {A : Type 0} (holds : State → State → Type 0) (f : File) (a : Answer (State × A))
    → IfBehind holds f.state a → IfFileWalks holds f (a >>= λ r. Ok (record f { state = r.0 }, r.1))
file_by holds f (Ok r) h = h
file_by holds f (Err e) h = tt

module _ {holds : ℕ → State → State → Type 0} {walk : StateWalk holds} where
  pub step_walks : {A : Type 0} {n : ℕ} {s : State} {r : State × A} → holds n s r.0 → Walking walk n s (Ok r)
  step_walks h = record { by = h }

  pub refused_walks : {A : Type 0} {n : ℕ} {s : State} {f : Fault} → Walking walk {A = A} n s (Err f)
  refused_walks = record { by = tt }

  pub done_walks : {A : Type 0} {n : ℕ} {s : State} {x : A} → Walking walk n s (Ok (s, x))
  done_walks {n = n} {s = s} = record { by = walk.stands n s s (still s) }

  pub then_adds : {A B : Type 0} {m n k : ℕ} {s : State} {a : Answer (State × A)}
      {next : State × A → Answer (State × B)} → m + n ≤ k → Walking walk m s a
      → ((r : State × A) → Walking walk n r.0 (next r)) → Walking walk k s (a >>= next)
  then_adds {m = m} {n = n} {k = k} {s = s} {a = a} {next = next} low h go =
      record { by = both_by walk m n k low s a next h.by go }

  -- behind a construct that adds none
  pub then_walks : {A B : Type 0} {n : ℕ} {s : State} {a : Answer (State × A)} {next : State × A → Answer (State × B)}
      → Walking walk 0 s a → ((r : State × A) → Walking walk n r.0 (next r)) → Walking walk n s (a >>= next)
  then_walks {n = n} {s = s} {a = a} {next = next} h go =
      record { by = both_by walk 0 n n (omega arith) s a next h.by go }

  pub standing_walks : {A : Type 0} {n : ℕ} (s t : State) → Stands n s t → (a : Answer A)
      → Walking walk n s (a >>= λ x. Ok (t, x))
  standing_walks {n = n} s t h a = record { by = standing_by walk n s t h a }

  pub judged_walks : {A : Type 0} {n : ℕ} (s : State) (a : Answer A) → Walking walk n s (a >>= λ x. Ok (s, x))
  judged_walks s a = standing_walks s s (still s) a

module _ {holds : State → State → Type 0} {walk : StateWalk (λ n. holds)} where
  pub file_done : {A : Type 0} {f : File} {x : A} → FileWalking walk f (Ok (f, x))
  file_done {f = f} = record { by = same walk f.state }

  pub file_then : {A B : Type 0} {f : File} {a : Answer (File × A)} {next : File × A → Answer (File × B)}
      → FileWalking walk f a → ((r : File × A) → FileWalking walk r.0 (next r)) → FileWalking walk f (a >>= next)
  file_then {f = f} {a = a} {next = next} h go = record { by = file_both walk f a next h.by go }

  pub in_file_walks : {A : Type 0} {n : ℕ} {f : File} {a : Answer (State × A)} → Walking walk n f.state a
      → FileWalking walk f (a >>= λ r. Ok (record f { state = r.0 }, r.1))
  in_file_walks {f = f} {a = a} h = record { by = file_by holds f a h.by }
