-- A structure or union is complete behind its members.
use Rattle.std.proofs.Common.{◌≡◌, ◌⊎◌, inl, inr, ℕ, zero, suc, ◌+◌, ◌^◌, ◌<◌, ◌≤◌, Bool, true, false, refl, sym, ap}
use Rattle.std.proofs.Common.{◌∙◌, subst}
use Rattle.std.proofs.Common.{List, [], ◌∷◌, length, Option, Some, None, if◌then◌else◌, arith}
use Rattle.std.specs.Prelude.{Ok, slice_get, get_or, nat_lt}
use Rattle.std.proofs.lemmas.Bool.{false≢true, le-leb, ltb-false}
use Rattle.c_tree.specs.Extents.{TypeExtent, structure_extent}
use Rattle.c_faults.specs.declared.fault.Rule.TheVariants as rule
use Rattle.c_faults.specs.Answer.{violates, ◌>>=◌}
use Rattle.c_tree.specs.declared.member.Member.{Member}
use Rattle.c_place_rules.specs.Places.{member_view}
use Rattle.c_place_laws.specs.FinePlaces.{IsMemberOf}
use Rattle.c_scope.specs.declared.meaning.Tag.{Tag}
use Rattle.c_scope.specs.declared.meaning.Tag.TheVariants as tag
use Rattle.c_scope.specs.Names.{Name, Names, declared}
use Rattle.c_scope.specs.Structures.{Body, begun_body, changed, is_begun, member_in, member_of}
use Rattle.c_declarator_typing.specs.Members.{Entries, Entry, extent_with, member_at, members_at, offsets_in}
use Rattle.c_declarator_typing.specs.Members.{tag_completed, with_structure}
use Rattle.c_typing_state.specs.State.{State, extents}
use Rattle.typing_laws.specs.Validity.More.{AreMore}
use Rattle.typing_laws.specs.Validity.Sound.{IsFormed, IsNumbered, IsObjectExtent, IsPending}
use Rattle.typing_laws.specs.Validity.Typed.{HaveMembers}
use Rattle.typing_laws.proofs.Validity.Common.{the_same}
use Rattle.typing_laws.proofs.Validity.Kept.{extent_kept, target_kept}
use Rattle.typing_laws.proofs.Validity.Sound.{more_more}
use Rattle.typing_laws.specs.Declarators.Extending.{Extending, Extends}
use Rattle.typing_laws.specs.Declarators.Given.{AreEntries, IsBegun, anything}
use Rattle.typing_laws.proofs.Declarators.Lists.{changed_length, got_changed, got_there, none_changed, other_changed}
use Rattle.typing_laws.proofs.Declarators.Lists.{other_got, read_changed, same_or}
use Rattle.typing_laws.proofs.Declarators.Members.{Members, each_by, entry_at, inside_by, members_each, whole_object}
use Rattle.typing_laws.proofs.Declarators.Tags.{IsFresh}
use Rattle.typing_laws.proofs.Declarators.Types.{target_is}

none_or : {A : Type 0} (a b : Option A) (x : A) (P : Type 0) → a ≡ None → a ≡ Some x → P
none_or a b x P e g = by (sym e ∙ g)
  where
    by : None ≡ Some x → P
    by e = cc

abbrev pub filled : ℕ → TypeExtent → List (Option TypeExtent) → List (Option TypeExtent)
filled n whole es = changed n (λ e. Some whole) es

abbrev pub bodies_with : ℕ → Names Member → List Body → List Body
bodies_with n members bodies = changed n (λ b. record b { members = members }) bodies

pub filled_more : (n : ℕ) (whole : TypeExtent) (es : List (Option TypeExtent)) → structure_extent es n ≡ None
    → AreMore es (filled n whole es)
filled_more n whole es none = record { kept = λ m e is. by m e is (same_or m n) }
  where
    by : (m : ℕ) (e : TypeExtent) → structure_extent es m ≡ Some e → (m ≡ n) ⊎ (m ≡ n → ⊥)
        → structure_extent (filled n whole es) m ≡ Some e
    by m e is (inl g) = none_or (structure_extent es n) None e _ none (ap (structure_extent es) (sym g) ∙ is)
    by m e is (inr g) = other_got n (λ e. Some whole) es m g ∙ is

-- what is known of a number is known of the one that is complete now, or it was before
module _ (n : ℕ) (whole : TypeExtent) (es : List (Option TypeExtent)) where
  filled_by : (m : ℕ) (e : TypeExtent) → structure_extent (filled n whole es) m ≡ Some e
      → ((m ≡ n) × (e ≡ whole)) ⊎ (structure_extent es m ≡ Some e)
  filled_by m e is = by (same_or m n)
    where
      here : m ≡ n → e ≡ whole
      here g =
          let at : structure_extent (filled n whole es) n ≡ Some e =
          ap (structure_extent (filled n whole es)) (sym g) ∙ is in
          let low = none_changed n (λ e. Some whole) es e at in
          sym (the_same (sym (got_changed n (λ e. Some whole) es low) ∙ at))

      by : (m ≡ n) ⊎ (m ≡ n → ⊥) → ((m ≡ n) × (e ≡ whole)) ⊎ (structure_extent es m ≡ Some e)
      by (inl g) = inl (g, here g)
      by (inr g) = inr (sym (other_got n (λ e. Some whole) es m g) ∙ is)

  filled_has : (P : ℕ → TypeExtent → Type 0) → P n whole
      → ((m : ℕ) (e : TypeExtent) → structure_extent es m ≡ Some e → P m e) → (m : ℕ) (e : TypeExtent)
      → structure_extent (filled n whole es) m ≡ Some e → P m e
  filled_has P here there m e is = by (filled_by m e is)
    where
      by : ((m ≡ n) × (e ≡ whole)) ⊎ (structure_extent es m ≡ Some e) → P m e
      by (inl g) = subst (λ k. P k e) (sym g.0) (subst (P n) (sym g.1) here)
      by (inr g) = there m e g

with_begun : (n : ℕ) (members : Names Member) (bodies : List Body) (m : ℕ)
    → is_begun m (bodies_with n members bodies) ≡ is_begun m bodies
with_begun n members bodies m = read_changed begun_body (λ b. record b { members = members }) (λ b. refl) n bodies m

begun_low : (n : ℕ) (bodies : List Body) → is_begun n bodies ≡ true → n < length bodies
begun_low n [] e = absurd cc
begun_low zero (b ∷ bodies) e = omega arith
begun_low (suc n) (b ∷ bodies) e = let low = begun_low n bodies e in omega arith

-- each member of the one that is complete now lies in it

module _ (u : State) (formed : IsFormed u) (is_union : Bool) (n : ℕ) (entries : List Entry)
    (each : AreEntries u entries)
    (some : 1 ≤ length entries) (small : (extent_with is_union entries).size ≤ 2 ^ 32) (pending : IsPending u n) where
  pub inside : (k : ℕ) (e : Entry) → slice_get entries k ≡ Some e
      → IsMemberOf (filled n (extent_with is_union entries) (extents u)) n
      (member_view (member_at (get_or (offsets_in is_union entries) k 0) e))
  inside k e is =
      let es = filled n (extent_with is_union entries) (extents u) in
      let entry = entry_at u entries each k e is in
      let more = filled_more n (extent_with is_union entries) (extents u) pending.incomplete in
      let complete = extent_kept (extents u) es more e.type e.extent entry.complete in
      let ends = inside_by u is_union entries each small k e is in
      let begun = begun_low n u.environment.structures.bodies pending.begun in
      let low : n < length (extents u) = subst (λ z. n < z) (sym formed.same) begun in
      record {
        sized = target_is es e.type e.extent complete entry.object.size;
        small = le-leb (get_or (offsets_in is_union entries) k 0 + e.extent.size) (2 ^ 32) (omega arith);
        whole = extent_with is_union entries;
        complete = got_changed n (λ e. Some (extent_with is_union entries)) (extents u) low;
        object = (whole_object u is_union entries each some small).size;
        inside = le-leb (get_or (offsets_in is_union entries) k 0 + e.extent.size)
            (extent_with is_union entries).size ends;
      }

  here : (name : Name) (m : Member)
      → declared name (members_at entries (offsets_in is_union entries) []) ≡ Some m
      → IsMemberOf (filled n (extent_with is_union entries) (extents u)) n (member_view m)
  here name m is =
      members_each (λ m. IsMemberOf (filled n (extent_with is_union entries) (extents u)) n (member_view m)) entries
      (offsets_in is_union entries) [] (λ name m e. none_or None None m _ refl e)
      (each_by (λ m. IsMemberOf (filled n (extent_with is_union entries) (extents u)) n (member_view m)) entries
      (offsets_in is_union entries) inside) name m is

  there : HaveMembers u → (k : ℕ) (name : Name) (m : Member) → (k ≡ n → ⊥)
      → member_of k name u.environment.structures.bodies ≡ Some m
      → IsMemberOf (filled n (extent_with is_union entries) (extents u)) k (member_view m)
  there h k name m other is =
      let before = h.each k name m is in
      let es = filled n (extent_with is_union entries) (extents u) in
      let more = filled_more n (extent_with is_union entries) (extents u) pending.incomplete in
      record {
        sized = target_kept (extents u) es more (member_view m).type (member_view m).size before.sized;
        small = before.small;
        whole = before.whole;
        complete = other_got n (λ e. Some (extent_with is_union entries)) (extents u) k other ∙ before.complete;
        object = before.object;
        inside = before.inside;
      }

  in_body : (name : Name) (m : Member) (members : Names Member) (o : Option Body)
      → slice_get (bodies_with n members u.environment.structures.bodies) n ≡ o → member_in name o ≡ Some m
      → declared name members ≡ Some m
  in_body name m members None e is = none_or None None m _ refl is
  in_body name m members (Some b) e is =
      let x = got_there n (λ b. record b { members = members }) u.environment.structures.bodies b e in
      ap (declared name) (ap (λ b. b.members) (sym x.1)) ∙ is

  have_members : HaveMembers u → (k : ℕ) (name : Name) (m : Member)
      → member_of k name (bodies_with n (members_at entries (offsets_in is_union entries) [])
      u.environment.structures.bodies) ≡ Some m
      → IsMemberOf (filled n (extent_with is_union entries) (extents u)) k (member_view m)
  have_members h k name m is = by (same_or k n)
    where
      by : (k ≡ n) ⊎ (k ≡ n → ⊥) → IsMemberOf (filled n (extent_with is_union entries) (extents u)) k (member_view m)
      by (inl g) =
          let at = ap (λ k. member_of k name (bodies_with n (members_at entries (offsets_in is_union entries) [])
          u.environment.structures.bodies)) (sym g) ∙ is in
          subst (λ k. IsMemberOf (filled n (extent_with is_union entries) (extents u)) k (member_view m)) (sym g)
          (here name m (in_body name m (members_at entries (offsets_in is_union entries) [])
          (slice_get (bodies_with n (members_at entries (offsets_in is_union entries) [])
          u.environment.structures.bodies) n) refl at))
      by (inr g) =
          there h k name m g
          (ap (member_in name) (sym (other_changed n
          (λ b. record b { members = members_at entries (offsets_in is_union entries) [] })
          u.environment.structures.bodies k g)) ∙ is)

  not_now : (s : State) (k : ℕ) → is_begun n s.environment.structures.bodies ≡ false
      → is_begun k s.environment.structures.bodies ≡ true → k ≡ n → ⊥
  not_now s k fresh begun e =
      false≢true (sym fresh ∙ ap (λ k. is_begun k s.environment.structures.bodies) (sym e) ∙ begun)

  pending_stays : (k : ℕ) → (k ≡ n → ⊥) → IsPending u k → IsPending (with_structure is_union n entries u) k
  pending_stays k other p = record {
    begun = with_begun n (members_at entries (offsets_in is_union entries) []) u.environment.structures.bodies k
        ∙ p.begun;
    incomplete = other_got n (λ e. Some (extent_with is_union entries)) (extents u) k other ∙ p.incomplete;
  }

  pub completed_extends : (b : Bool) (s : State) → Extends b s u → is_begun n s.environment.structures.bodies ≡ false
      → Extends b s (with_structure is_union n entries u)
  completed_extends b s h fresh =
      let longer = changed_length n (λ e. Some (extent_with is_union entries)) (extents u) in
      let members = members_at entries (offsets_in is_union entries) [] in
      record {
        more = more_more (extents s) (extents u) (filled n (extent_with is_union entries) (extents u)) h.more
            (filled_more n (extent_with is_union entries) (extents u) pending.incomplete);
        longer = let low = h.longer in omega arith;
        literals = h.literals;
        types = h.types;
        objects = h.objects;
        function = h.function;
        facts = h.facts;
        entities = h.entities;
        statics = h.statics;
        numbers = h.numbers;
        variables = h.variables;
        outer = h.outer;
        names = h.names;
        entries = h.entries;
        outer_tags = h.outer_tags;
        members = λ m. record { each = have_members (h.members m) };
        pending = λ k p. pending_stays k (not_now s k fresh p.begun) (h.pending k p);
        formed = record {
          same = longer ∙ formed.same
              ∙ sym (changed_length n (λ b. record b { members = members }) u.environment.structures.bodies);
          begun = λ k e is. with_begun n members u.environment.structures.bodies k
              ∙ filled_has n (extent_with is_union entries) (extents u)
              (λ k x. is_begun k u.environment.structures.bodies ≡ true) pending.begun (λ k x. formed.begun k x) k e is;
          sizes = λ k e is. filled_has n (extent_with is_union entries) (extents u) (λ k x. IsObjectExtent x)
              (whole_object u is_union entries each some small) (λ k x. formed.sizes k x) k e is;
          tags = λ name t is. subst (λ count. IsNumbered count t) (sym longer) (formed.tags name t is);
          constants = formed.constants;
          typedefs = formed.typedefs;
        };
        undefined = h.undefined;
      }

large_by : (b : Bool) (s u : State) → IsFormed u → Extends b s u → (is_union : Bool) (line n : ℕ) (es : Entries)
    → Members u 1 es → IsPending u n → is_begun n s.environment.structures.bodies ≡ false → (t : Tag) → (large : Bool)
    → nat_lt (2 ^ 32) (extent_with is_union es.entries).size ≡ large
    → Extending b s anything
    ((if large then violates rule.LargeType line else Ok (with_structure is_union n es.entries u)) >>= λ v. Ok (v, t))
large_by b s u formed h is_union line n es is pending fresh t true e = tt
large_by b s u formed h is_union line n es is pending fresh t false e = (
  completed_extends u formed is_union n es.entries is.each is.count
      (ltb-false (2 ^ 32) (extent_with is_union es.entries).size e) pending b s h fresh,
  tt,
)

-- from the state before it was begun on
pub completed_from : (b : Bool) (s u : State) → IsFormed u → Extends b s u → (line : ℕ) (t : Tag) (es : Entries)
    → Members u 1 es → IsBegun u t → IsFresh s t → Extending b s anything (tag_completed line t es u)
completed_from b s u formed h line (tag.Structure n) es is pending fresh =
    large_by b s u formed h false line n es is pending fresh (tag.Structure n)
    (nat_lt (2 ^ 32) (extent_with false es.entries).size) refl
completed_from b s u formed h line (tag.Union n) es is pending fresh =
    large_by b s u formed h true line n es is pending fresh (tag.Union n)
    (nat_lt (2 ^ 32) (extent_with true es.entries).size) refl
completed_from b s u formed h line (tag.Enumeration n) es is pending fresh = (h, tt)
