-- Numbers of static objects: what each step of typing adds.
use Rattle.std.proofs.Common.{◌≡◌, ℕ, ◌+◌, Bool, true, false, refl, sym, ap, ◌∙◌, List, [], ◌∷◌}
use Rattle.std.proofs.Common.{Option, Some, None, if◌then◌else◌, arith}
use Rattle.std.proofs.lemmas.Bool.{and_from}
use Rattle.std.specs.Prelude.{option_map}
use Rattle.c_tree.specs.declared.c_type.TypeWord.{TypeWord}
use Rattle.c_scope.specs.declared.meaning.Designated.{Designated}
use Rattle.c_scope.specs.declared.meaning.Designated.TheVariants as what
use Rattle.c_scope.specs.declared.meaning.Entity.{Entity}
use Rattle.c_scope.specs.declared.meaning.Meaning.{Meaning}
use Rattle.c_scope.specs.declared.meaning.Meaning.TheVariants as meaning
use Rattle.c_scope.specs.declared.meaning.Storage.{Storage}
use Rattle.c_scope.specs.declared.meaning.Storage.TheVariants as storage
use Rattle.c_scope.specs.Declaring.{Declaration, has_linkage, is_function, is_linked}
use Rattle.c_scope.specs.Environment.{designated, entity_with, in_file, linked, statics_with, with_declarator}
use Rattle.c_scope.specs.Environment.{without_linkage}
use Rattle.c_scope.specs.Names.{Name, Names, bound, declared, is_name}
use Rattle.c_typing_state.specs.State.{State}
use Rattle.c_unit_typing.specs.Declarations.{entity_with_type, with_entity, with_size}
use Rattle.typing_laws.proofs.Validity.Common.{first as left, second as right, the_same}
use Rattle.typing_laws.specs.Declarators.Extending.{Extends, below, literals_at}
use Rattle.typing_laws.proofs.Declarators.Marks.{next_below}
use Rattle.typing_laws.specs.Declarations.Binding.{bound_meaning, linked_meaning, unlinked_meaning}
use Rattle.program_laws.specs.Files.Numbers.{are_linked, object_at, objects_at, waiting}
use Rattle.program_laws.proofs.Bodies.Entities.{new_is_linked}

-- entities with one more, or one that is bound again

abbrev one_bound : Name → Entity → Name × Entity → Names Entity → Bool → Names Entity
one_bound name x e es b = if b then (e.0, x) ∷ es else e ∷ bound name x es

abbrev one_declared : Name → Name × Entity → Names Entity → Bool → Option Entity
one_declared name e es b = if b then Some e.1 else declared name es

new_by : (n : ℕ) (name : Name) (x : Entity) (e : Name × Entity) (es : Names Entity) (b : Bool)
    → (declared name es ≡ None → objects_at n (bound name x es) ≡ objects_at n es + object_at n x.what)
    → one_declared name e es b ≡ None
    → objects_at n (one_bound name x e es b) ≡ objects_at n (e ∷ es) + object_at n x.what
new_by n name x e es true h g = absurd cc
new_by n name x e es false h g = let more = h g in omega arith

pub new_entity : (n : ℕ) (name : Name) (x : Entity) (es : Names Entity) → declared name es ≡ None
    → objects_at n (bound name x es) ≡ objects_at n es + object_at n x.what
new_entity n name x [] g = omega arith
new_entity n name x (e ∷ es) g = new_by n name x e es (is_name name e.0) (λ h. new_entity n name x es h) g

old_by : (n : ℕ) (name : Name) (x old : Entity) (e : Name × Entity) (es : Names Entity) (b : Bool)
    → (declared name es ≡ Some old → objects_at n (bound name x es) ≡ objects_at n es) → x.what ≡ old.what
    → one_declared name e es b ≡ Some old → objects_at n (one_bound name x e es b) ≡ objects_at n (e ∷ es)
old_by n name x old e es true h same g =
    ap (λ z. object_at n z + objects_at n es) (same ∙ ap (λ z. z.what) (sym (the_same g)))
old_by n name x old e es false h same g = let more = h g in omega arith

pub old_entity : (n : ℕ) (name : Name) (x old : Entity) (es : Names Entity) → declared name es ≡ Some old
    → x.what ≡ old.what → objects_at n (bound name x es) ≡ objects_at n es
old_entity n name x old [] g same = absurd cc
old_entity n name x old (e ∷ es) g same =
    old_by n name x old e es (is_name name e.0) (λ h. old_entity n name x old es h same) same g

bound_by : (name : Name) (x : Entity) (e : Name × Entity) (es : Names Entity) (b : Bool) → is_linked x.what ≡ true
    → are_linked (e ∷ es) ≡ true → are_linked (bound name x es) ≡ true → are_linked (one_bound name x e es b) ≡ true
bound_by name x e es true is all h =
    and_from (is_linked x.what) (are_linked es) is (right (is_linked e.1.what) (are_linked es) all)
bound_by name x e es false is all h =
    and_from (is_linked e.1.what) (are_linked (bound name x es)) (left (is_linked e.1.what) (are_linked es) all) h

pub linked_bound : (name : Name) (x : Entity) (es : Names Entity) → is_linked x.what ≡ true → are_linked es ≡ true
    → are_linked (bound name x es) ≡ true
linked_bound name x [] is all = and_from (is_linked x.what) true is refl
linked_bound name x (e ∷ es) is all =
    bound_by name x e es (is_name name e.0) is all
    (linked_bound name x es is (right (is_linked e.1.what) (are_linked es) all))

found_by : (name : Name) (x : Entity) (e : Name × Entity) (es : Names Entity) (b : Bool)
    → are_linked (e ∷ es) ≡ true → (declared name es ≡ Some x → is_linked x.what ≡ true)
    → one_declared name e es b ≡ Some x → is_linked x.what ≡ true
found_by name x e es true all h g =
    ap (λ z. is_linked z.what) (sym (the_same g)) ∙ left (is_linked e.1.what) (are_linked es) all
found_by name x e es false all h g = h g

pub linked_found : (name : Name) (x : Entity) (es : Names Entity) → are_linked es ≡ true → declared name es ≡ Some x
    → is_linked x.what ≡ true
linked_found name x [] all g = absurd cc
linked_found name x (e ∷ es) all g =
    found_by name x e es (is_name name e.0) all
    (λ h. linked_found name x es (right (is_linked e.1.what) (are_linked es) all) h) g

-- what a state has, and a static object without linkage that a name was just bound to, and which has no entry yet

pub record Counts (m : Option Meaning) (s t : State) : Type 0 where
  pub linked : are_linked t.environment.entities ≡ true
  pub numbers : (n : ℕ)
      → literals_at n t.literals + objects_at n t.environment.entities + waiting n m + below n s.environment.statics
      ≡ literals_at n s.literals + objects_at n s.environment.entities + below n t.environment.statics

pub counts_same : (s : State) → are_linked s.environment.entities ≡ true → Counts None s s
counts_same s linked = record { linked = linked; numbers = λ n. omega arith }

pub counts_on : (m : Option Meaning) (s t u : State) → Counts None s t → Counts m t u → Counts m s u
counts_on m s t u h g =
    record { linked = g.linked; numbers = λ n. (let first = h.numbers n in let second = g.numbers n in omega arith) }

pub counts_by : (b : Bool) (s t : State) → Extends b s t → are_linked s.environment.entities ≡ true → Counts None s t
counts_by b s t h linked = record {
  linked = ap are_linked h.entities ∙ linked;
  numbers = λ n. (let first = h.numbers n in let same = ap (objects_at n) h.entities in omega arith);
}

-- a declarator

abbrev declared_linked : State → Declaration → Option Entity → State
declared_linked s d o = record s {
  environment = record s.environment {
    entities = bound d.name (entity_with s.environment d o) s.environment.entities;
    statics = statics_with s.environment d o;
  };
}

new_numbers : (n count : ℕ) (b : Bool) (f : ℕ)
    → object_at n (if b then what.Function f else what.Object count) + below n count
    ≡ below n (if b then count else count + 1)
new_numbers n count true f = omega arith
new_numbers n count false f = let next = next_below n count in omega arith

none_waiting : (n : ℕ) (d : Designated) (type : List TypeWord) → is_linked d ≡ true
    → waiting n (Some (meaning.Named d type)) ≡ 0
none_waiting n (what.Object k) type e = refl
none_waiting n (what.Function k) type e = refl
none_waiting n (what.Library f) type e = refl
none_waiting n (what.Static k) type e = absurd cc
none_waiting n (what.Variable k) type e = refl

added_up : (more none before count behind added : ℕ) → more ≡ count + added → none ≡ 0 → added + before ≡ behind
    → more + none + before ≡ count + behind
added_up more none before count behind added e g h = omega (arith, e, g, h)

linked_numbers : (s : State) (d : Declaration) (type : List TypeWord) → are_linked s.environment.entities ≡ true
    → (o : Option Entity) → declared d.name s.environment.entities ≡ o
    → (are_linked (declared_linked s d o).environment.entities ≡ true)
    × ((n : ℕ) → objects_at n (declared_linked s d o).environment.entities
    + waiting n (Some (meaning.Named (entity_with s.environment d o).what type)) + below n s.environment.statics
    ≡ objects_at n s.environment.entities + below n (declared_linked s d o).environment.statics)
linked_numbers s d type all None e =
    let x = entity_with s.environment d None in
    let is = new_is_linked (is_function d.type) _ s.environment.statics in (
      linked_bound d.name x s.environment.entities is all,
      λ n. added_up (objects_at n (declared_linked s d None).environment.entities) _ (below n s.environment.statics)
          (objects_at n s.environment.entities) (below n (declared_linked s d None).environment.statics)
          (object_at n x.what) (new_entity n d.name x s.environment.entities e) (none_waiting n x.what type is)
          (new_numbers n s.environment.statics (is_function d.type) _),
    )
linked_numbers s d type all (Some old) e =
    let x = entity_with s.environment d (Some old) in
    let is = linked_found d.name old s.environment.entities all e in (
      linked_bound d.name x s.environment.entities is all,
      λ n. (let same = old_entity n d.name x old s.environment.entities e refl in
          let none = none_waiting n x.what type is in omega arith),
    )

unlinked_numbers : (s : State) (d : Declaration) (z : Storage) (n : ℕ)
    → waiting n (Some (unlinked_meaning z s.environment d)) + below n s.environment.statics
    ≡ below n (without_linkage z s.environment d).statics
unlinked_numbers s d storage.Typedef n = omega arith
unlinked_numbers s d storage.Static n = let next = next_below n s.environment.statics in omega arith
unlinked_numbers s d storage.Absent n = omega arith
unlinked_numbers s d storage.Extern n = omega arith
unlinked_numbers s d storage.Auto n = omega arith
unlinked_numbers s d storage.Register n = omega arith

unlinked_entities : (s : State) (d : Declaration) (z : Storage)
    → (without_linkage z s.environment d).entities ≡ s.environment.entities
unlinked_entities s d storage.Typedef = refl
unlinked_entities s d storage.Static = refl
unlinked_entities s d storage.Absent = refl
unlinked_entities s d storage.Extern = refl
unlinked_entities s d storage.Auto = refl
unlinked_entities s d storage.Register = refl

owned_up : (l more none before count behind : ℕ) → more + none + before ≡ count + behind
    → l + more + none + before ≡ l + count + behind
owned_up l more none before count behind e = omega (arith, e)

unlinked_up : (more none before count behind : ℕ) → more ≡ count → none + before ≡ behind
    → more + none + before ≡ count + behind
unlinked_up more none before count behind e g = omega (arith, e, g)

declared_by : (s : State) (d : Declaration) → are_linked s.environment.entities ≡ true → (b : Bool)
    → Counts (Some (if b then linked_meaning s.environment d else unlinked_meaning d.storage s.environment d)) s
    (record s { environment = if b then linked s.environment d else without_linkage d.storage s.environment d })
declared_by s d all true =
    let h = linked_numbers s d _ all (declared d.name s.environment.entities) refl in
    record { linked = h.0; numbers = λ n. owned_up (literals_at n s.literals) _ _ _ _ _ (h.1 n) }
declared_by s d all false = record {
  linked = ap are_linked (unlinked_entities s d d.storage) ∙ all;
  numbers = λ n.
      owned_up (literals_at n s.literals) _ _ _ _ _
      (unlinked_up _ _ _ _ _ (ap (objects_at n) (unlinked_entities s d d.storage)) (unlinked_numbers s d d.storage n));
}

pub declarator_counts : (s : State) (d : Declaration) → are_linked s.environment.entities ≡ true
    → Counts (Some (bound_meaning s.environment d)) s (record s { environment = with_declarator s.environment d })
declarator_counts s d all = declared_by s d all (has_linkage (in_file s.environment) d)

-- with linkage nothing waits

linked_waits : (s : State) (d : Declaration) (n : ℕ) (type : List TypeWord) → are_linked s.environment.entities ≡ true
    → (o : Option Entity) → declared d.name s.environment.entities ≡ o
    → waiting n (Some (meaning.Named (entity_with s.environment d o).what type)) ≡ 0
linked_waits s d n type all None e =
    none_waiting n (designated s.environment d) type (new_is_linked (is_function d.type) _ s.environment.statics)
linked_waits s d n type all (Some old) e =
    none_waiting n old.what type (linked_found d.name old s.environment.entities all e)

pub linked_counts : (s : State) (d : Declaration) → are_linked s.environment.entities ≡ true
    → has_linkage (in_file s.environment) d ≡ true
    → Counts None s (record s { environment = with_declarator s.environment d })
linked_counts s d all e =
    let h = declarator_counts s d all in
    let m = ap (λ b. if b then linked_meaning s.environment d else unlinked_meaning d.storage s.environment d) e in
    record {
      linked = h.linked;
      numbers = λ n. nothing_up _ _ _ _ _ _ (h.numbers n)
          (ap (λ z. waiting n (Some z)) m
          ∙ linked_waits s d n _ all (declared d.name s.environment.entities) refl);
    }
  where
    nothing_up : (ls os w before ms behind : ℕ) → ls + os + w + before ≡ ms + behind → w ≡ 0
        → ls + os + 0 + before ≡ ms + behind
    nothing_up ls os w before ms behind e g = omega (arith, e, g)

-- an array that gets its size

abbrev sized_as : State → Designated → Name → List TypeWord → Option Entity → State
sized_as s d name type o = record s {
  environment = with_entity name (option_map (entity_with_type type) o) s.environment;
}

entity_counts : (s : State) (d : Designated) (name : Name) (type : List TypeWord)
    → are_linked s.environment.entities ≡ true → (o : Option Entity) → declared name s.environment.entities ≡ o
    → Counts None s (sized_as s d name type o)
entity_counts s d name type all None e = counts_same s all
entity_counts s d name type all (Some old) e = record {
  linked = linked_bound name (entity_with_type type old) s.environment.entities
      (linked_found name old s.environment.entities all e) all;
  numbers = λ n.
      (let same = old_entity n name (entity_with_type type old) old s.environment.entities e refl in omega arith);
}

pub size_counts : (s : State) (d : Designated) (name : Name) (type : List TypeWord)
    → are_linked s.environment.entities ≡ true
    → Counts None s (record s { environment = with_size d name type s.environment })
size_counts s (what.Object k) name type all =
    let h = entity_counts s (what.Object k) name type all (declared name s.environment.entities) refl in
    record { linked = h.linked; numbers = h.numbers }
size_counts s (what.Static k) name type all = record { linked = all; numbers = λ n. omega arith }
size_counts s (what.Function k) name type all = record { linked = all; numbers = λ n. omega arith }
size_counts s (what.Library r) name type all = record { linked = all; numbers = λ n. omega arith }
size_counts s (what.Variable k) name type all = record { linked = all; numbers = λ n. omega arith }
