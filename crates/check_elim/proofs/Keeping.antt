-- What a passed check makes known stays so until it ends.
use Rattle.std.proofs.Common.{◌≡◌, ⊎_elim, ℕ, ◌+◌, ◌*◌, ◌%◌, ◌^◌, ◌<◌, ◌≤◌, List, [], ◌∷◌, Option, Some}
use Rattle.std.proofs.Common.{None, Bool, true, false, length, refl, sym, ap, ◌∙◌, subst, arith, eq-eqb, le-leb}
use Rattle.std.specs.Prelude.{◌||◌, ◌&&◌, ◌==◌, nat_le, slice_get}
use Rattle.std.proofs.lemmas.Bool.{cases_lt, false≢true, eqb-true, leb-true}
use Rattle.std.proofs.lemmas.List.{get_or_past}
use Rattle.obj_memory.specs.declared.value.Tag.{Tag}
use Rattle.obj_memory.specs.declared.value.Tag.TheVariants.{Untagged, OfFunction, OfObject}
use Rattle.obj_memory.specs.declared.value.Value.{Value}
use Rattle.obj_memory.specs.Objects.{ObjectState, Objects, no_object, object_at, pointer_to}
use Rattle.obj_memory.specs.Sound.{Continues}
use Rattle.obj_memory.specs.Judgement.{narrowed_tag}
use Rattle.c_tree.specs.declared.program.Variable.{Variable}
use Rattle.source_meaning.specs.State.{State, Home, NoObject, InObject}
use Rattle.source_meaning.specs.Actions.{plain_value, home_value}
use Rattle.source_meaning.specs.Judging.{is_within, is_live_tag}
use Rattle.source_meaning.proofs.ValidNames.{both}
use Rattle.tac_ir.specs.declared.instruction.Test.{Test}
use Rattle.tac_ir.specs.declared.instruction.Test.TheVariants.{Spatial, Temporal}
use Rattle.tac_ir.specs.declared.key.Base.{Base}
use Rattle.tac_ir.specs.declared.key.Base.TheVariants.{Plain, Automatic, Static}
use Rattle.tac_ir.specs.declared.key.Scaled.{Scaled}
use Rattle.tac_ir.specs.declared.key.Member.{Member}
use Rattle.tac_ir.specs.declared.key.Key.{Key}
use Rattle.tac_ir.specs.declared.function.StaticData.{StaticData}
use Rattle.tac_ir.specs.Keys.{base_value, scaled_value, path_tag, key_word, key_tag, same_tag, gives}
use Rattle.tac_ir.specs.Fitting.{is_whole, is_home_of, is_static_of, is_base_there}
use Rattle.tac_ir.proofs.SameTags.{same_bounds, same_life}
use Rattle.check_elim.specs.Facts.{Fact, is_base, is_scaled, is_in_path, is_of}
use Rattle.check_elim.proofs.Homes.{home_at}

-- a check of what a key gives is passed

abbrev pub passes : Test → Key → (size : ℕ) → State → Bool
passes Spatial key size s = is_within (key_tag key s) (key_word key s) size
passes Temporal key size s = is_live_tag (key_tag key s) s.objects

-- the object with which a key begins was made
abbrev pub IsHomeMade : Home → Objects → Type 0
IsHomeMade NoObject objects = Unit {0}
IsHomeMade (InObject o) objects = o < length objects

abbrev pub IsMade : Base → State → Type 0
IsMade (Plain x) s = Unit {0}
IsMade (Automatic x) s = IsHomeMade (home_at s.frame x) s.objects
IsMade (Static n) s = n < length s.objects

pub record IsKnown (f : Fact) (s : State) : Type 0 where
  pub made : IsMade f.key.base s
  pub passes : passes f.test f.key f.size s ≡ true

-- what a key gives is the same where its plain variables and its home are, and objects stay in place

abbrev pub SamePlain : (s z : State) → (variable : ℕ) → Type 0
SamePlain s z x = plain_value x z ≡ plain_value x s

abbrev pub SameHome : (s z : State) → Base → Type 0
SameHome s z (Plain x) = Unit {0}
SameHome s z (Automatic x) = home_at z.frame x ≡ home_at s.frame x
SameHome s z (Static n) = Unit {0}

pub record KeepsKey (key : Key) (s z : State) : Type 0 where
  pub plain : (x : ℕ) → is_of key x ≡ true → SamePlain s z x
  pub home : SameHome s z key.base
  pub objects : Continues s.objects z.objects

or_left : (a b : Bool) → a ≡ true → (a || b) ≡ true
or_left true b e = refl
or_left false b e = cc

or_right : (a b : Bool) → b ≡ true → (a || b) ≡ true
or_right true b e = refl
or_right false b e = e

is_self : (x : ℕ) → (x == x) ≡ true
is_self x = eq-eqb x x refl

pointer_same : (o : ℕ) (a b : Objects) → Continues a b → o < length a → pointer_to o b ≡ pointer_to o a
unfolding pointer_to
pointer_same o a b c lt =
    ap (λ n. record { word = n; tag = OfObject o (record { base = n; bound = n + (object_at b o).size }) })
    (c.address o lt)
    ∙ ap (λ n. record {
      word = (object_at a o).address;
      tag = OfObject o (record { base = (object_at a o).address; bound = (object_at a o).address + n });
    }) (c.size o lt)

home_same : (h : Home) (a b : Objects) → Continues a b → IsHomeMade h a → home_value h b ≡ home_value h a
home_same NoObject a b c made = refl
home_same (InObject o) a b c made = pointer_same o a b c made

module _ (s z : State) where
  scaled_same : (v : Option Scaled) → ((x : ℕ) → is_scaled v x ≡ true → SamePlain s z x)
      → scaled_value v z ≡ scaled_value v s
  scaled_same None h = refl
  scaled_same (Some v) h = ap (λ (x : Value). x.word * v.size) (h v.variable (is_self v.variable))

  path_same : (b : Value) (path : List Member) → ((x : ℕ) → is_in_path path x ≡ true → SamePlain s z x)
      → path_tag b path z ≡ path_tag b path s
  path_same b [] h = refl
  path_same b (m ∷ ms) h =
      ap (λ n. narrowed_tag ((b.word + (m.constant + n)) % 2 ^ 64) m.size (path_tag b ms z))
      (scaled_same m.scaled (λ x e. h x (or_left (is_scaled m.scaled x) (is_in_path ms x) e)))
      ∙ ap (λ t. narrowed_tag ((b.word + (m.constant + scaled_value m.scaled s)) % 2 ^ 64) m.size t)
      (path_same b ms (λ x e. h x (or_right (is_scaled m.scaled x) (is_in_path ms x) e)))

  base_same : (b : Base) → ((x : ℕ) → is_base b x ≡ true → SamePlain s z x) → SameHome s z b
      → Continues s.objects z.objects → IsMade b s → base_value b z ≡ base_value b s
  base_same (Plain y) h home c made = h y (is_self y)
  base_same (Automatic y) h home c made =
      ap (λ p. home_value p z.objects) home ∙ home_same (home_at s.frame y) s.objects z.objects c made
  base_same (Static n) h home c made = pointer_same n s.objects z.objects c made

  module _ (key : Key) (keeps : KeepsKey key s z) (made : IsMade key.base s) where
    abbrev of_base : base_value key.base z ≡ base_value key.base s
    of_base = base_same key.base (λ x e. keeps.plain x (or_left (is_base key.base x) _ e)) keeps.home keeps.objects made

    abbrev of_scaled : scaled_value key.scaled z ≡ scaled_value key.scaled s
    of_scaled = scaled_same key.scaled
        (λ x e. keeps.plain x (or_right (is_base key.base x) _ (or_left (is_scaled key.scaled x) _ e)))

    word_same : key_word key z ≡ key_word key s
    word_same =
        ap (λ (b : Value). (b.word + (key.constant + scaled_value key.scaled z)) % 2 ^ 64) of_base
        ∙ ap (λ n. ((base_value key.base s).word + (key.constant + n)) % 2 ^ 64) of_scaled

    tag_same : key_tag key z ≡ key_tag key s
    tag_same =
        ap (λ (b : Value). path_tag b key.path z) of_base
        ∙ path_same (base_value key.base s) key.path
        (λ x e. keeps.plain x (or_right (is_base key.base x) _ (or_right (is_scaled key.scaled x) _ e)))

    -- a spatial check has the same outcome
    within_same : (size : ℕ) → is_within (key_tag key s) (key_word key s) size ≡ true
        → is_within (key_tag key z) (key_word key z) size ≡ true
    within_same size h =
        ap (λ t. is_within t (key_word key z) size) tag_same ∙ ap (λ w. is_within (key_tag key s) w size) word_same ∙ h

    live_by : (t : Tag)
        → ((o : ℕ) → (object_at s.objects o).is_live ≡ true → (object_at z.objects o).is_live ≡ true)
        → is_live_tag t s.objects ≡ true → is_live_tag t z.objects ≡ true
    live_by Untagged lives h = h
    live_by (OfFunction f) lives h = h
    live_by (OfObject o b) lives h = lives o h

    -- and a temporal one, where what lived still lives
    live_same : ((o : ℕ) → (object_at s.objects o).is_live ≡ true → (object_at z.objects o).is_live ≡ true)
        → is_live_tag (key_tag key s) s.objects ≡ true → is_live_tag (key_tag key z) z.objects ≡ true
    live_same lives h = ap (λ t. is_live_tag t z.objects) tag_same ∙ live_by (key_tag key s) lives h

home_made : (h : Home) (a b : Objects) → Continues a b → IsHomeMade h a → IsHomeMade h b
home_made NoObject a b c made = tt
home_made (InObject o) a b c made = let more = c.longer in omega (arith, more, made)

still_made : (s z : State) (b : Base) → SameHome s z b → Continues s.objects z.objects → IsMade b s → IsMade b z
still_made s z (Plain x) home c made = tt
still_made s z (Automatic x) home c made =
    subst (λ h. IsHomeMade h z.objects) (sym home) (home_made (home_at s.frame x) s.objects z.objects c made)
still_made s z (Static n) home c made = let more = c.longer in omega (arith, more, made)

-- what is known stays known
pub known_stays : (f : Fact) (s z : State) → KeepsKey f.key s z
    → (f.test ≡ Temporal → (o : ℕ) → (object_at s.objects o).is_live ≡ true
    → (object_at z.objects o).is_live ≡ true)
    → IsKnown f s → IsKnown f z
known_stays f s z keeps lives h = record {
  made = still_made s z f.key.base keeps.home keeps.objects h.made;
  passes = by f.test refl h.passes;
}
  where
    by : (test : Test) → f.test ≡ test → passes test f.key f.size s ≡ true → passes test f.key f.size z ≡ true
    by Spatial is p = within_same s z f.key keeps h.made f.size p
    by Temporal is p = live_same s z f.key keeps h.made (lives is) p

-- the base of a key that is there was made

live_made : (objects : Objects) (o : ℕ) → (object_at objects o).is_live ≡ true → o < length objects
live_made objects o live = ⊎_elim (λ lt. lt) (λ ge. absurd (false≢true (
    sym (ap (λ (x : ObjectState). x.is_live) (get_or_past objects o no_object ge))
    ∙ live))) (cases_lt o (length objects))

whole_made : (objects : Objects) (size o : ℕ) → is_whole size (object_at objects o) ≡ true → o < length objects
whole_made objects size o h =
    live_made objects o (both (object_at objects o).is_live ((object_at objects o).size == size) h).0

home_there : (size : ℕ) (h : Home) (objects : Objects) → is_home_of size h objects ≡ true → IsHomeMade h objects
home_there size NoObject objects e = tt
home_there size (InObject o) objects e = whole_made objects size o e

static_there : (d : Option StaticData) (n : ℕ) (objects : Objects) → is_static_of d (object_at objects n) ≡ true
    → n < length objects
static_there None n objects e = cc
static_there (Some d) n objects e = whole_made objects d.size n e

pub base_made : (vs : List Variable) (ds : List StaticData) (b : Base) (s : State) → is_base_there vs ds b s ≡ true
    → IsMade b s
base_made vs ds (Plain x) s e = tt
base_made vs ds (Automatic x) s e = home_there _ (home_at s.frame x) s.objects e
base_made vs ds (Static n) s e = static_there (slice_get ds n) n s.objects e

-- a check of a pointer that the key gives

abbrev pub passed : Test → (size : ℕ) → Value → State → Bool
passed Spatial size v s = is_within v.tag v.word size
passed Temporal size v s = is_live_tag v.tag s.objects

-- what is judged is what the key gives, where the address is a word
pub passed_as : (test : Test) (key : Key) (s : State) (v : Value) (size : ℕ) → gives key s v ≡ true → v.word < 2 ^ 64
    → passed test size v s ≡ passes test key size s
passed_as Spatial key s v size h small =
    let two = both (v.word % 2 ^ 64 == key_word key s) (same_tag v.tag (key_tag key s)) h in
    let same : v.word % 2 ^ 64 ≡ v.word = omega (arith, small) in
    let word : v.word ≡ key_word key s = sym same ∙ eqb-true (v.word % 2 ^ 64) (key_word key s) two.0 in
    same_bounds v.tag (key_tag key s) two.1 v.word size ∙ ap (λ w. is_within (key_tag key s) w size) word
passed_as Temporal key s v size h small =
    same_life v.tag (key_tag key s) (both (v.word % 2 ^ 64 == key_word key s) (same_tag v.tag (key_tag key s)) h).1
    s.objects

-- bytes within bounds, and fewer of them
fewer : (t : Tag) (w size less : ℕ) → less ≤ size → is_within t w size ≡ true → is_within t w less ≡ true
fewer Untagged w size less le h = h
fewer (OfFunction f) w size less le h = h
fewer (OfObject n b) w size less le h =
    let two = both (nat_le b.base w) (nat_le (w + size) b.bound) h in
    let z = leb-true (w + size) b.bound two.1 in
    ap (λ q. q && nat_le (w + less) b.bound) two.0 ∙ le-leb (w + less) b.bound (omega (arith, z, le))

pub fewer_pass : (test : Test) (key : Key) (s : State) (size less : ℕ) → less ≤ size → passes test key size s ≡ true
    → passes test key less s ≡ true
fewer_pass Spatial key s size less le h = fewer (key_tag key s) (key_word key s) size less le h
fewer_pass Temporal key s size less le h = h
