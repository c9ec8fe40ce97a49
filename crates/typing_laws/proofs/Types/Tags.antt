-- Tags, and structures and unions that are complete, leave types that are spelled.
use Rattle.std.proofs.Common.{ℕ, Bool, true, false, ◌&&◌, List, [], ◌∷◌, ◌++◌, Option}
use Rattle.std.proofs.Common.{Some, None, if◌then◌else◌}
use Rattle.std.specs.Prelude.{Ok, not, nat_lt, ◌^◌}
use Rattle.c_tree.specs.declared.c_type.TypeWord.{TypeWord}
use Rattle.c_faults.specs.Answer.{violates, ◌>>=◌}
use Rattle.c_faults.specs.declared.fault.Rule.TheVariants as rule
use Rattle.c_tree.specs.declared.member.Member.{Member}
use Rattle.c_scope.specs.declared.meaning.Entity.{Entity}
use Rattle.c_scope.specs.declared.meaning.Meaning.{Meaning}
use Rattle.c_scope.specs.declared.meaning.Tag.{Tag}
use Rattle.c_scope.specs.declared.meaning.Tag.TheVariants as tag
use Rattle.c_scope.specs.declared.tags.TagKind.{TagKind}
use Rattle.c_scope.specs.declared.tags.TagKind.TheVariants as kind
use Rattle.c_scope.specs.Environment.{Environment}
use Rattle.c_scope.specs.Names.{Name, Names, Scopes, bound, declared}
use Rattle.c_scope.specs.Structures.{Body, changed}
use Rattle.c_scope.specs.Tags.{added, begins_in, has_begun, is_of, marked, next_tag, referred, tag_found}
use Rattle.c_declarator_typing.specs.Members.{Entries, Entry, extent_with, member_at, members_at, offsets_in}
use Rattle.c_declarator_typing.specs.Members.{tag_completed}
use Rattle.c_declarator_typing.specs.Members.{with_structure}
use Rattle.c_typing_state.specs.State.{State, extents}
use Rattle.c_expression_typing.specs.Constructs.{begun_as, tagged_as}
use Rattle.typing_laws.specs.Validity.Sound.{IsFormed, IsPending}
use Rattle.typing_laws.specs.Validity.Steps.{Structures}
use Rattle.typing_laws.specs.Declarators.Given.{IsBegun}
use Rattle.typing_laws.proofs.Declarators.Completed.{filled, filled_more}
use Rattle.typing_laws.proofs.Declarators.Tags.{added_extends, in_environment, unless_mistaken}
use Rattle.typing_laws.specs.SpelledTypes.Spelled.{IsValueType}
use Rattle.typing_laws.specs.Types.Typed.{AreMembers, Each, HaveTypes, OfEntries, Typed, Types}
use Rattle.typing_laws.specs.Types.Typed.{nothing}
use Rattle.typing_laws.proofs.Types.Kept.{each_append, each_bound, each_changed, each_map, types_kept}
use Rattle.typing_laws.proofs.Types.Kept.{value_kept}

-- bodies

one_body : (es : Structures) (ms : Scopes Meaning) (bodies : List Body) (entities : Names Entity)
    (types : List (List TypeWord)) (b : Body) → AreMembers es b → HaveTypes es ms bodies entities types
    → HaveTypes es ms (bodies ++ b ∷ []) entities types
one_body es ms bodies entities types b is h = record {
  outer = h.outer;
  current = h.current;
  members = each_append (AreMembers es) bodies (b ∷ []) h.members (is, tt);
  entities = h.entities;
  functions = h.functions;
  different = h.different;
}

changed_body : (es : Structures) (ms : Scopes Meaning) (bodies : List Body) (entities : Names Entity)
    (types : List (List TypeWord)) (n : ℕ) (change : Body → Body)
    → ((b : Body) → AreMembers es b → AreMembers es (change b)) → HaveTypes es ms bodies entities types
    → HaveTypes es ms (changed n change bodies) entities types
changed_body es ms bodies entities types n change is h = record {
  outer = h.outer;
  current = h.current;
  members = each_changed (AreMembers es) n change bodies is h.members;
  entities = h.entities;
  functions = h.functions;
  different = h.different;
}

module _ (s : State) (formed : IsFormed s) (h : Types s) where
  added_types : (k : TagKind) (name : Option Name) → Types (record s { environment = added k name s.environment })
  added_types kind.Structure None =
      let t = record s { environment = added kind.Structure None s.environment } in
      one_body (extents t) s.environment.names s.environment.structures.bodies s.environment.entities s.function_types
      _ tt
      (types_kept (extents s) (extents t) (added_extends false s formed kind.Structure None).more s.environment.names
      s.environment.structures.bodies s.environment.entities s.function_types h)
  added_types kind.Structure (Some x) =
      let t = record s { environment = added kind.Structure (Some x) s.environment } in
      one_body (extents t) s.environment.names s.environment.structures.bodies s.environment.entities s.function_types
      _ tt
      (types_kept (extents s) (extents t) (added_extends false s formed kind.Structure (Some x)).more
      s.environment.names s.environment.structures.bodies s.environment.entities s.function_types h)
  added_types kind.Union None =
      let t = record s { environment = added kind.Union None s.environment } in
      one_body (extents t) s.environment.names s.environment.structures.bodies s.environment.entities s.function_types
      _ tt
      (types_kept (extents s) (extents t) (added_extends false s formed kind.Union None).more s.environment.names
      s.environment.structures.bodies s.environment.entities s.function_types h)
  added_types kind.Union (Some x) =
      let t = record s { environment = added kind.Union (Some x) s.environment } in
      one_body (extents t) s.environment.names s.environment.structures.bodies s.environment.entities s.function_types
      _ tt
      (types_kept (extents s) (extents t) (added_extends false s formed kind.Union (Some x)).more
      s.environment.names s.environment.structures.bodies s.environment.entities s.function_types h)
  added_types kind.Enumeration None = h
  added_types kind.Enumeration (Some x) = h

marked_types : (s : State) → Types s → (t : Tag) → Types (record s { environment = marked t s.environment })
marked_types s h (tag.Structure n) =
    changed_body (extents s) s.environment.names s.environment.structures.bodies s.environment.entities
    s.function_types n _ (λ b is. is) h
marked_types s h (tag.Union n) =
    changed_body (extents s) s.environment.names s.environment.structures.bodies s.environment.entities
    s.function_types n _ (λ b is. is) h
marked_types s h (tag.Enumeration n) = h

mistaken_types : (s : State) (line : ℕ) (env : Environment) (t : Tag) (is : Bool)
    → Types (record s { environment = env })
    → Typed nothing (unless_mistaken is line (env, t) >>= in_environment s)
mistaken_types s line env t true h = (h, tt)
mistaken_types s line env t false h = tt

referred_types : (s : State) → IsFormed s → Types s → (k : TagKind) (name : Name) (line : ℕ) (o : Option Tag)
    → Typed nothing (referred k name line s.environment o >>= in_environment s)
referred_types s formed h k name line None = (added_types s formed h k (Some name), tt)
referred_types s formed h k name line (Some t) = mistaken_types s line s.environment t (is_of k t) h

pub tagged_types : (s : State) → IsFormed s → Types s → (is_alone : Bool) (k : TagKind) (name : Name) (line : ℕ)
    → Typed nothing (tagged_as is_alone k name line s)
tagged_types s formed h is_alone k name line =
    referred_types s formed h k name line (tag_found is_alone k name s.environment)

new_types : (s : State) → IsFormed s → Types s → (k : TagKind) (name : Option Name)
    → Types (record s { environment = marked (next_tag k s.environment) (added k name s.environment) })
new_types s formed h k name =
    marked_types (record s { environment = added k name s.environment }) (added_types s formed h k name)
    (next_tag k s.environment)

begun_in_types : (s : State) → IsFormed s → Types s → (k : TagKind) (name : Name) (line : ℕ) (o : Option Tag)
    → Typed nothing (begins_in k name line s.environment o >>= in_environment s)
begun_in_types s formed h k name line None = (new_types s formed h k (Some name), tt)
begun_in_types s formed h k name line (Some t) =
    mistaken_types s line (marked t s.environment) t (is_of k t && not (has_begun s.environment t))
    (marked_types s h t)

pub begun_types : (s : State) → IsFormed s → Types s → (k : TagKind) (name : Option Name) (line : ℕ)
    → Typed nothing (begun_as k name line s)
begun_types s formed h k None line = (new_types s formed h k None, tt)
begun_types s formed h k (Some x) line =
    begun_in_types s formed h k x line (declared x s.environment.tags.current)

-- members

members_typed : (es : Structures) (entries : List Entry) (os : List ℕ) (ms : Names Member)
    → OfEntries es entries → Each (λ e. IsValueType es e.1.c_type) ms
    → Each (λ e. IsValueType es e.1.c_type) (members_at entries os ms)
members_typed es [] os ms h is = is
members_typed es (e ∷ entries) [] ms h is = is
members_typed es (e ∷ entries) (o ∷ os) ms h is =
    members_typed es entries os (bound e.name (member_at o e) ms) h.1
    (each_bound (λ m. IsValueType es m.c_type) e.name (member_at o e) ms h.0 is)

structure_types : (s : State) → Types s → (is_union : Bool) (n : ℕ) (entries : List Entry)
    → OfEntries (extents s) entries → IsPending s n → Types (with_structure is_union n entries s)
structure_types s h is_union n entries own pending =
    let es = filled n (extent_with is_union entries) (extents s) in
    let more = filled_more n (extent_with is_union entries) (extents s) pending.incomplete in
    changed_body es s.environment.names s.environment.structures.bodies s.environment.entities s.function_types n _
    (λ b is. members_typed es entries (offsets_in is_union entries) []
    (each_map (λ e. IsValueType (extents s) e.type) (λ e. IsValueType es e.type)
    (λ e. value_kept (extents s) es more e.type) entries own) tt)
    (types_kept (extents s) es more s.environment.names s.environment.structures.bodies s.environment.entities
    s.function_types h)

large_types : (s : State) → Types s → (is_union : Bool) (line n : ℕ) (es : Entries)
    → OfEntries (extents s) es.entries → IsPending s n → (t : Tag) (large : Bool)
    → Typed nothing
    ((if large then violates rule.LargeType line else Ok (with_structure is_union n es.entries s)) >>= λ v. Ok (v, t))
large_types s h is_union line n es own pending t true = tt
large_types s h is_union line n es own pending t false =
    (structure_types s h is_union n es.entries own pending, tt)

pub completed_types : (s : State) → Types s → (line : ℕ) (t : Tag) (es : Entries) → OfEntries (extents s) es.entries
    → IsBegun s t → Typed nothing (tag_completed line t es s)
completed_types s h line (tag.Structure n) es own pending =
    large_types s h false line n es own pending (tag.Structure n)
    (nat_lt (2 ^ 32) (extent_with false es.entries).size)
completed_types s h line (tag.Union n) es own pending =
    large_types s h true line n es own pending (tag.Union n) (nat_lt (2 ^ 32) (extent_with true es.entries).size)
completed_types s h line (tag.Enumeration n) es own pending = (h, tt)
