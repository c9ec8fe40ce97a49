-- The steps of specifiers: tags that are declared, begun and completed (C99 6.7.2.1, 6.7.2.3); and the scope of a list
-- of parameters.
use Rattle.std.proofs.Common.{◌≡◌, ℕ, ◌^◌, Bool, true, false, ◌&&◌, refl, List, [], Option, Some, None}
use Rattle.std.proofs.Common.{if◌then◌else◌, arith}
use Rattle.std.specs.Prelude.{Ok, Err, nat_lt, not}
use Rattle.c_faults.specs.declared.fault.Rule.TheVariants.{LargeType}
use Rattle.c_faults.specs.Answer.{Answer, violates, ◌>>=◌}
use Rattle.c_scope.specs.declared.meaning.Tag.{Tag}
use Rattle.c_scope.specs.declared.meaning.Tag.TheVariants as tag
use Rattle.c_scope.specs.declared.tags.TagKind.{TagKind}
use Rattle.c_scope.specs.Names.{Name, declared, found, meaning, or_else}
use Rattle.c_scope.specs.Tags.{added, begins_in, has_begun, is_enumeration, is_of, marked, next_tag, referred}
use Rattle.c_scope.specs.Tags.{tag_found}
use Rattle.c_declarator_typing.specs.Members.{Entries, Entry, extent_with, tag_completed, with_structure}
use Rattle.c_typing_state.specs.State.{State}
use Rattle.c_expression_typing.specs.Constructs.{begun_as, tagged_as}
use Rattle.typing_laws.proofs.Declarators.Parameters.{behind, within}
use Rattle.typing_laws.proofs.Declarators.Tags.{in_environment, unless_mistaken}
use Rattle.typing_laws.proofs.Scopes.Initializers.{IfBehind}
use Rattle.typing_laws.proofs.Walks.States.{IsFresh, StateWalk, Walking, done_walks, refused_walks, step_walks}

-- a tag that is not found is not declared in the innermost scope

first_none : {A : Type 0} (a b : Option A) → or_else a b ≡ None → a ≡ None
first_none None b e = refl
first_none (Some x) b e = absurd cc

none_found : (name : Name) (s : State) (b : Bool)
    → (if b then declared name s.environment.tags.current else meaning name s.environment.tags) ≡ None
    → declared name s.environment.tags.current ≡ None
none_found name s true e = e
none_found name s false e =
    first_none (declared name s.environment.tags.current) (found name s.environment.tags.outer) e

left_by : {A B : Type 0} {holds : ℕ → State → State → Type 0} (walk : StateWalk holds) (n : ℕ) (s : State)
    (a : Answer (State × A)) (next : State × A → B) → IfBehind (holds n) (within s) a
    → IfBehind (holds 0) s (a >>= λ r. Ok (behind s.environment.variables r.0, next r))
left_by walk n s (Ok r) next h =
    walk.scope n s r.0 (behind s.environment.variables r.0) h
    (record {
      structures = refl;
      outer = refl;
      outer_tags = refl;
      file = [];
      current = refl;
      file_names = [];
      current_names = refl;
    }) refl refl
left_by walk n s (Err f) next h = tt

module _ {holds : ℕ → State → State → Type 0} {walk : StateWalk holds} where
  -- a tag without a list

  referred_by : (s : State) (line : ℕ) (t : Tag) (is : Bool)
      → Walking walk 0 s (unless_mistaken is line (s.environment, t) >>= in_environment s)
  referred_by s line t true = done_walks
  referred_by s line t false = refused_walks

  tagged_by : (s : State) (k : TagKind) (name : Name) (line : ℕ) (o : Option Tag)
      → (o ≡ None → declared name s.environment.tags.current ≡ None)
      → Walking walk 0 s (referred k name line s.environment o >>= in_environment s)
  tagged_by s k name line None fresh = step_walks (walk.declares k (Some name) s (fresh refl))
  tagged_by s k name line (Some t) fresh = referred_by s line t (is_of k t)

  pub tagged_walks : (is_alone : Bool) (k : TagKind) (name : Name) (line : ℕ) (s : State)
      → Walking walk 0 s (tagged_as is_alone k name line s)
  tagged_walks is_alone k name line s =
      tagged_by s k name line (tag_found is_alone k name s.environment)
      (λ e. none_found name s (is_alone && not (is_enumeration k)) e)

  -- a tag with a list

  begun_new : (s : State) (k : TagKind) (name : Option Name) → IsFresh name s
      → Walking walk 0 s
      (Ok (
        record s { environment = marked (next_tag k s.environment) (added k name s.environment) },
        next_tag k s.environment,
      ))
  begun_new s k name fresh =
      let u = record s { environment = added k name s.environment } in
      let t = next_tag k s.environment in
      step_walks
      (walk.on 0 0 0 (omega arith) s u (record u { environment = marked t u.environment })
      (walk.declares k name s fresh) (walk.begins t u))

  begun_old : (s : State) (line : ℕ) (t : Tag) (is : Bool)
      → Walking walk 0 s (unless_mistaken is line (marked t s.environment, t) >>= in_environment s)
  begun_old s line t true = step_walks (walk.begins t s)
  begun_old s line t false = refused_walks

  begun_in : (s : State) (k : TagKind) (name : Name) (line : ℕ) (o : Option Tag)
      → declared name s.environment.tags.current ≡ o
      → Walking walk 0 s (begins_in k name line s.environment o >>= in_environment s)
  begun_in s k name line None e = begun_new s k (Some name) e
  begun_in s k name line (Some t) e = begun_old s line t (is_of k t && not (has_begun s.environment t))

  pub begun_walks : (k : TagKind) (name : Option Name) (line : ℕ) (s : State)
      → Walking walk 0 s (begun_as k name line s)
  begun_walks k None line s = begun_new s k None tt
  begun_walks k (Some x) line s = begun_in s k x line (declared x s.environment.tags.current) refl

  completed_by : (is_union : Bool) (line n : ℕ) (es : List Entry) (t : Tag) (s : State) (large : Bool)
      → Walking walk 0 s
      ((if large then violates LargeType line else Ok (with_structure is_union n es s)) >>= λ v. Ok (v, t))
  completed_by is_union line n es t s true = refused_walks
  completed_by is_union line n es t s false = step_walks (walk.completes is_union n es s)

  pub completed_walks : (line : ℕ) (t : Tag) (es : Entries) (s : State) → Walking walk 0 s (tag_completed line t es s)
  completed_walks line (tag.Structure n) es s =
      completed_by false line n es.entries (tag.Structure n) s
      (nat_lt (2 ^ 32) (extent_with false es.entries).size)
  completed_walks line (tag.Union n) es s =
      completed_by true line n es.entries (tag.Union n) s (nat_lt (2 ^ 32) (extent_with true es.entries).size)
  completed_walks line (tag.Enumeration n) es s = done_walks

  -- the scope of a list of parameters, behind it

  pub left_walks : {A B : Type 0} {n : ℕ} {s : State} {a : Answer (State × A)} (next : State × A → B)
      → Walking walk n (within s) a
      → Walking walk 0 s (a >>= λ r. Ok (behind s.environment.variables r.0, next r))
  left_walks {n = n} {s = s} {a = a} next h = record { by = left_by walk n s a next h.by }
