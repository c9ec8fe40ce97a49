-- What a call lays out: the objects of its variables, which are new, and which die at its return.
use Rattle.source_meaning.specs.Good.{AllFrom, IsIn, EndsBut}
use Rattle.source_meaning.specs.Good.{AreLow, EndsMade, HasHome, IsHeld, object_kind}
use Rattle.std.proofs.Common.{◌≡◌, ℕ, zero, suc, ◌+◌, ◌%◌, ◌^◌, ◌≤◌, ◌<◌, ◌⊎◌, inl, inr, List, [], ◌∷◌, Bool, true}
use Rattle.std.proofs.Common.{false, Some, None, length, if◌then◌else◌, refl, sym, ap, ◌∙◌, subst, arith, nat_eq}
use Rattle.std.proofs.lemmas.Bool.{cases_lt, eqb-true, eqb-false}
use Rattle.obj_memory.specs.declared.object.Storage.{Storage}
use Rattle.obj_memory.specs.declared.object.Storage.TheVariants.{Automatic}
use Rattle.obj_memory.specs.Objects.{ObjectState, Objects, object_at, new_object, with_new, with_dead}
use Rattle.obj_memory.specs.Heap.{is_allocated, rounded_up}
use Rattle.addr_map.specs.declared.region.Region.TheVariants.{Stack}
use Rattle.addr_map.specs.Places.{MapSizes, AreMapped, region_end}
use Rattle.addr_map.proofs.Order.{ends_low}
use Rattle.obj_memory.specs.Sound.{IsSound, Continues}
use Rattle.obj_memory.proofs.Soundness.{sound_new, sound_dead}
use Rattle.obj_memory.proofs.Continuing.{continues_then, continues_new, continues_dead}
use Rattle.obj_memory.proofs.Making.{new_last, dead_other, dead_is_dead}
use Rattle.c_tree.specs.declared.expression.Kind.{Kind}
use Rattle.c_tree.specs.declared.program.Variable.{Variable}
use Rattle.source_meaning.specs.State.{Home}
use Rattle.source_meaning.specs.State.{NoObject, InObject}
use Rattle.source_meaning.specs.State.{State, Outcome, Gives, Ended, Paused, on, done, choose, Setting}
use Rattle.source_meaning.specs.Places.{stack_end}
use Rattle.c_tree.specs.Kinds.{size_of_kind}
use Rattle.source_meaning.specs.Calls.{}
use Rattle.source_meaning.specs.Blocks.{objects_end, place_object, place_variables, without_homes}
use Rattle.source_meaning.specs.Keeping.{LivesOn, AreSeparate}
use Rattle.source_meaning.proofs.Separating.{separate_automatic, ends_same, live_before}
use Rattle.source_meaning.proofs.Holding.{live_made, beyond, length-dead, length-new, lives_same, lives_then, lives_new}
use Rattle.source_meaning.proofs.Holding.{held_on}

-- objects that are low

beyond_low : (objects : Objects) (n : ℕ) → length objects ≤ n
    → (object_at objects n).address + (object_at objects n).size ≤ 1610612736
beyond_low objects n h = subst (λ (o : ObjectState). o.address + o.size ≤ 1610612736) (sym (beyond objects n h))
    (omega arith)

-- objects that are low stand below 2 ^ 64
pub low_word : (objects : Objects) (n : ℕ) → AreLow objects
    → (object_at objects n).address + (object_at objects n).size < 2 ^ 64
low_word objects n h = let end = h n in omega (arith, end)

-- what passes the test of the stack lies in its region
pub within_stack : (g : Setting) (sizes : MapSizes) → g.sizes ≡ sizes → (end : ℕ) → end ≤ stack_end g
    → end ≤ region_end sizes Stack
within_stack g sizes same end fits = subst (λ m. end ≤ region_end m Stack) same fits

-- one of two, by their order
abbrev OrderCase : (n m : ℕ) → Type 0
OrderCase n m = (n < m) ⊎ (m ≤ n)

pub low_dead : (m : ℕ) (objects : Objects) → AreLow objects → AreLow (with_dead m objects)
low_dead m objects h = λ n. by n (cases_lt n (length objects))
  where
    by : (n : ℕ) → OrderCase n (length objects)
        → (object_at (with_dead m objects) n).address + (object_at (with_dead m objects) n).size ≤ 1610612736
    by n (inl lt) = let c = continues_dead m objects in let a = c.address n lt in let z = c.size n lt in omega
        (arith, a, z, h n)
    by n (inr le) = beyond_low (with_dead m objects) n (omega (arith, length-dead m objects, le))

fresh_low : (storage : Storage) (address size : ℕ) → address + size ≤ 1610612736
    → (new_object storage address size).address + (new_object storage address size).size ≤ 1610612736
unfolding new_object
fresh_low storage address size h = h

pub low_new : (storage : Storage) (address size : ℕ) (objects : Objects) → address + size ≤ 1610612736 → AreLow objects
    → AreLow (with_new storage address size objects)
low_new storage address size objects fits h = λ n. by n (cases_lt n (length objects))
  where
    last : (n : ℕ) → OrderCase n (length objects + 1) → length objects ≤ n
        → (object_at (with_new storage address size objects) n).address
        + (object_at (with_new storage address size objects) n).size ≤ 1610612736
    last n (inl lt) le =
        let same : length objects ≡ n = omega arith in
        subst (λ k. (object_at (with_new storage address size objects) k).address
        + (object_at (with_new storage address size objects) k).size ≤ 1610612736) same
        (subst (λ (o : ObjectState). o.address + o.size ≤ 1610612736) (sym (new_last storage address size objects))
        (fresh_low storage address size fits))
    last n (inr gt) le = beyond_low (with_new storage address size objects) n
        (omega (arith, length-new storage address size objects, gt))

    by : (n : ℕ) → OrderCase n (length objects)
        → (object_at (with_new storage address size objects) n).address
        + (object_at (with_new storage address size objects) n).size ≤ 1610612736
    by n (inl lt) = let c = continues_new storage address size objects in let a = c.address n lt in let z = c.size n lt
        in omega (arith, a, z, h n)
    by n (inr le) = last n (cases_lt n (length objects + 1)) le

-- what is known of a new object

pub fresh_live : (storage : Storage) (address size : ℕ) → (new_object storage address size).is_live ≡ true
unfolding new_object
fresh_live storage address size = refl

pub fresh_size : (storage : Storage) (address size : ℕ) → (new_object storage address size).size ≡ size
unfolding new_object
fresh_size storage address size = refl

fresh_storage : (storage : Storage) (address size : ℕ) → is_allocated storage ≡ false
    → is_allocated (new_object storage address size).storage ≡ false
unfolding new_object
fresh_storage storage address size h = h

-- a new object is held

pub held_new : (storage : Storage) (address : ℕ) (kind : Kind) (objects : Objects) → is_allocated storage ≡ false
    → IsHeld (with_new storage address (size_of_kind kind) objects) (length objects) kind
held_new storage address kind objects held =
    let last = new_last storage address (size_of_kind kind) objects in
    record {
      made = omega (arith, length-new storage address (size_of_kind kind) objects);
      live = ap (λ o. o.is_live) last ∙ fresh_live storage address (size_of_kind kind);
      held = ap (λ o. is_allocated o.storage) last ∙ fresh_storage storage address (size_of_kind kind) held;
      size = ap (λ o. o.size) last ∙ fresh_size storage address (size_of_kind kind);
    }

-- the homes of some variables: each that is an object is in an object of its own with a number from n on

abbrev pub PlacedHome : (n : ℕ) → (is_object : Bool) → Kind → Home → Objects → Type 0
PlacedHome n true kind NoObject o = ⊥
PlacedHome n true kind (InObject k) o = (n ≤ k) × IsHeld o k kind
PlacedHome n false kind NoObject o = Unit {0}
PlacedHome n false kind (InObject k) o = ⊥

abbrev pub Placed : (n : ℕ) → List Variable → List Home → Objects → Type 0
Placed n [] [] o = Unit {0}
Placed n [] (h ∷ hs) o = ⊥
Placed n (v ∷ vs) [] o = ⊥
Placed n (v ∷ vs) (h ∷ hs) o = PlacedHome n v.is_object v.kind h o × Placed n vs hs o

some_only : (a b : Kind) → Some a ≡ Some b → a ≡ b
some_only a b e = cc

pub placed_home : (n : ℕ) (b : Bool) (v : Variable) → v.is_object ≡ b → (h : Home) (hs : List Home) (o : Objects)
    → PlacedHome n b v.kind h o → (kind : Kind) → (if b then Some v.kind else None) ≡ Some kind
    → HasHome (h ∷ hs) o 0 kind
placed_home n true v e NoObject hs o p kind k = absurd p
placed_home n true v e (InObject i) hs o p kind k = record
    { object = i; home = refl; held = subst (λ x. IsHeld o i x) (some_only v.kind kind k) p.1 }
placed_home n false v e h hs o p kind k = absurd (cc)

pub placed_homes : (n : ℕ) (vs : List Variable) (homes : List Home) (o : Objects) → Placed n vs homes o
    → (x : ℕ) (kind : Kind) → object_kind vs x ≡ Some kind → HasHome homes o x kind
placed_homes n [] homes o p x kind e = absurd (cc)
placed_homes n (v ∷ vs) [] o p x kind e = absurd p
placed_homes n (v ∷ vs) (h ∷ hs) o p zero kind e = placed_home n v.is_object v refl h hs o p.0 kind e
placed_homes n (v ∷ vs) (h ∷ hs) o p (suc x) kind e =
    let home = placed_homes n vs hs o p.1 x kind e in
    record { object = home.object; home = home.home; held = home.held }

placed_home_on : (n : ℕ) (b : Bool) (kind : Kind) (h : Home) (old new : Objects) → LivesOn old new
    → PlacedHome n b kind h old → PlacedHome n b kind h new
placed_home_on n true kind NoObject old new l p = p
placed_home_on n true kind (InObject k) old new l p = (p.0, held_on old new l k kind p.1)
placed_home_on n false kind NoObject old new l p = tt
placed_home_on n false kind (InObject k) old new l p = p

pub placed_on : (n : ℕ) (vs : List Variable) (homes : List Home) (old new : Objects) → LivesOn old new
    → Placed n vs homes old → Placed n vs homes new
placed_on n [] [] old new l p = tt
placed_on n [] (h ∷ hs) old new l p = p
placed_on n (v ∷ vs) [] old new l p = p
placed_on n (v ∷ vs) (h ∷ hs) old new l p =
    (placed_home_on n v.is_object v.kind h old new l p.0, placed_on n vs hs old new l p.1)

placed_home_less : (n m : ℕ) → m ≤ n → (b : Bool) (kind : Kind) (h : Home) (o : Objects) → PlacedHome n b kind h o
    → PlacedHome m b kind h o
placed_home_less n m le true kind NoObject o p = p
placed_home_less n m le true kind (InObject k) o p = (omega (arith, le, p.0), p.1)
placed_home_less n m le false kind NoObject o p = tt
placed_home_less n m le false kind (InObject k) o p = p

placed_less : (n m : ℕ) → m ≤ n → (vs : List Variable) (homes : List Home) (o : Objects) → Placed n vs homes o
    → Placed m vs homes o
placed_less n m le [] [] o p = tt
placed_less n m le [] (h ∷ hs) o p = p
placed_less n m le (v ∷ vs) [] o p = p
placed_less n m le (v ∷ vs) (h ∷ hs) o p =
    (placed_home_less n m le v.is_object v.kind h o p.0, placed_less n m le vs hs o p.1)

-- the death of these objects leaves all with lower numbers

placed_home_from : (n : ℕ) (b : Bool) (kind : Kind) (h : Home) (hs : List Home) (o : Objects) → PlacedHome n b kind h o
    → AllFrom n hs → AllFrom n (h ∷ hs)
placed_home_from n true kind NoObject hs o p q = absurd p
placed_home_from n true kind (InObject k) hs o p q = (p.0, q)
placed_home_from n false kind NoObject hs o p q = q
placed_home_from n false kind (InObject k) hs o p q = absurd p

pub placed_from : (n : ℕ) (vs : List Variable) (homes : List Home) (o : Objects) → Placed n vs homes o → AllFrom n homes
placed_from n [] [] o p = tt
placed_from n [] (h ∷ hs) o p = absurd p
placed_from n (v ∷ vs) [] o p = absurd p
placed_from n (v ∷ vs) (h ∷ hs) o p = placed_home_from n v.is_object v.kind h hs o p.0 (placed_from n vs hs o p.1)

pub without_other : (n : ℕ) (homes : List Home) (objects : Objects) → AllFrom n homes → (m : ℕ) → m < n
    → object_at (without_homes homes objects) m ≡ object_at objects m
without_other n [] objects h m lt = refl
without_other n (NoObject ∷ hs) objects h m lt = without_other n hs objects h m lt
without_other n (InObject k ∷ hs) objects h m lt =
    without_other n hs (with_dead k objects) h.1 m lt
    ∙ dead_other k m objects (λ e. let le = h.0 in absurd (omega (arith, e, le, lt)))

pub without_sound : (functions : ℕ) (homes : List Home) (objects : Objects) → IsSound functions objects
    → IsSound functions (without_homes homes objects)
without_sound functions [] objects h = h
without_sound functions (NoObject ∷ hs) objects h = without_sound _ hs objects h
without_sound functions (InObject k ∷ hs) objects h = without_sound _ hs (with_dead k objects) (sound_dead k objects h)

pub without_low : (homes : List Home) (objects : Objects) → AreLow objects → AreLow (without_homes homes objects)
without_low [] objects h = h
without_low (NoObject ∷ hs) objects h = without_low hs objects h
without_low (InObject k ∷ hs) objects h = without_low hs (with_dead k objects) (low_dead k objects h)

-- objects of the caller live on, since only those that are made in the call die
pub without_lives : (old objects : Objects) (homes : List Home) → LivesOn old objects → AllFrom (length old) homes
    → Continues objects (without_homes homes objects) → LivesOn old (without_homes homes objects)
without_lives old objects homes l from c = record {
  continues = continues_then old objects (without_homes homes objects) l.continues c;
  live = λ n lt held live. ap (λ o. o.is_live) (without_other (length old) homes objects from n lt)
      ∙ l.live n lt held live;
}

-- objects that are made, and still live, are blocks, or in one of some homes

ends_but_same : (objects : Objects) → EndsBut objects objects []
ends_but_same objects n le live = inl (ends_same objects n le live)

ends_one_more : (old mid new : Objects) (homes : List Home) → length mid ≡ length old + 1 → EndsBut mid new homes
    → EndsBut old new (InObject (length old) ∷ homes)
ends_one_more old mid new homes longer h n le live = by (cases_lt n (length mid))
  where
    rest : (is_allocated (object_at new n).storage ≡ true) ⊎ IsIn n homes
        → (is_allocated (object_at new n).storage ≡ true) ⊎ IsIn n (InObject (length old) ∷ homes)
    rest (inl block) = inl block
    rest (inr home) = inr (inr home)

    by : (n < length mid) ⊎ (length mid ≤ n)
        → (is_allocated (object_at new n).storage ≡ true) ⊎ IsIn n (InObject (length old) ∷ homes)
    by (inl lt) = inr (inl (omega (arith, lt, le, longer)))
    by (inr ge) = rest (h n ge live)

pub ends_but_then : (old mid new : Objects) (homes : List Home) → EndsBut old mid homes → Continues mid new
    → EndsMade mid new → EndsBut old new homes
ends_but_then old mid new homes p c q n le live = by (cases_lt n (length mid))
  where
    moved : (n < length mid) → (is_allocated (object_at mid n).storage ≡ true) ⊎ IsIn n homes
        → (is_allocated (object_at new n).storage ≡ true) ⊎ IsIn n homes
    moved lt (inl block) = inl (ap is_allocated (c.storage n lt) ∙ block)
    moved lt (inr home) = inr home

    by : (n < length mid) ⊎ (length mid ≤ n) → (is_allocated (object_at new n).storage ≡ true) ⊎ IsIn n homes
    by (inl lt) = moved lt (p n le (live_before mid new c n lt live))
    by (inr ge) = inl (q n ge live)

dead_stays : (k n : ℕ) (objects : Objects) → (object_at objects n).is_live ≡ false
    → (object_at (with_dead k objects) n).is_live ≡ false
dead_stays k n objects dead = by (nat_eq n k) refl
  where
    by : (b : Bool) → nat_eq n k ≡ b → (object_at (with_dead k objects) n).is_live ≡ false
    by true e = subst (λ m. (object_at (with_dead k objects) m).is_live ≡ false) (sym (eqb-true n k e))
        (dead_is_dead k objects)
    by false e = ap (λ (o : ObjectState). o.is_live) (dead_other k n objects (eqb-false n k e)) ∙ dead

without_stays : (homes : List Home) (n : ℕ) (objects : Objects) → (object_at objects n).is_live ≡ false
    → (object_at (without_homes homes objects) n).is_live ≡ false
without_stays [] n objects dead = dead
without_stays (NoObject ∷ hs) n objects dead = without_stays hs n objects dead
without_stays (InObject k ∷ hs) n objects dead = without_stays hs n (with_dead k objects) (dead_stays k n objects dead)

without_dead : (homes : List Home) (n : ℕ) (objects : Objects) → IsIn n homes
    → (object_at (without_homes homes objects) n).is_live ≡ false
without_dead [] n objects h = absurd h
without_dead (NoObject ∷ hs) n objects h = without_dead hs n objects h
without_dead (InObject k ∷ hs) n objects (inl same) =
    without_stays hs n (with_dead k objects)
    (subst (λ m. (object_at (with_dead k objects) m).is_live ≡ false) (sym same) (dead_is_dead k objects))
without_dead (InObject k ∷ hs) n objects (inr h) = without_dead hs n (with_dead k objects) h

length-without : (homes : List Home) (objects : Objects) → length (without_homes homes objects) ≡ length objects
length-without [] objects = refl
length-without (NoObject ∷ hs) objects = length-without hs objects
length-without (InObject k ∷ hs) objects = length-without hs (with_dead k objects) ∙ length-dead k objects

pub ends_without : (old objects : Objects) (homes : List Home) → Continues objects (without_homes homes objects)
    → EndsBut old objects homes → EndsMade old (without_homes homes objects)
ends_without old objects homes c h n le live =
    let made : n < length objects = subst (λ m. n < m) (length-without homes objects)
    (live_made (without_homes homes objects) n live) in
    by made (h n le (live_before objects (without_homes homes objects) c n made live))
  where
    by : n < length objects → (is_allocated (object_at objects n).storage ≡ true) ⊎ IsIn n homes
        → is_allocated (object_at (without_homes homes objects) n).storage ≡ true
    by made (inl block) = ap is_allocated (c.storage n made) ∙ block
    by made (inr home) = absurd (let both : true ≡ false = sym live ∙ without_dead homes n objects home in cc)

-- placing

pub record HasPlaced (functions : ℕ) (sizes : MapSizes) (old : Objects) (n : ℕ) (vs : List Variable) (homes : List Home)
    (s : State) : Type 0 where
  pub sound : IsSound functions s.objects
  pub low : AreLow s.objects
  pub lives : LivesOn old s.objects
  pub placed : Placed n vs homes s.objects
  pub separate : AreSeparate sizes s.stacked s.objects
  pub ends : EndsBut old s.objects homes

abbrev pub PlacesBy : (functions : ℕ) → (sizes : MapSizes) → State → (n : ℕ) → List Variable → Outcome (List Home)
    → Type 0
PlacesBy functions sizes s n vs (Gives homes s') = HasPlaced functions sizes s.objects n vs homes s'
    × (s'.accesses ≡ s.accesses) × (s'.plain ≡ s.plain)
PlacesBy functions sizes s n vs (Ended e s') = ⊥
PlacesBy functions sizes s n vs (Paused s') = ⊥

end_grows_by : (b : Bool) (size top end after : ℕ) → (if b then rounded_up 16 top + size else top) ≡ after → after ≤ end
    → top ≤ end
end_grows_by true size top end after e h = omega (arith, e, h)
end_grows_by false size top end after e h = omega (arith, e, h)

end_grows : (vs : List Variable) (top : ℕ) → top ≤ objects_end vs top
end_grows [] top = omega arith
end_grows (v ∷ vs) top = end_grows_by v.is_object (size_of_kind v.kind) top _ _ refl
    (end_grows vs (if v.is_object then rounded_up 16 top + size_of_kind v.kind else top))

pub rounded_whole : (n : ℕ) → rounded_up 16 n % 16 ≡ 0
rounded_whole n = omega arith

-- the variables behind one that was placed, or that is no object
abbrev PlacesRest : (functions : ℕ) → (sizes : MapSizes) → List Variable → Type 0
PlacesRest functions sizes vs = (s : State) → IsSound functions s.objects → AreLow s.objects
    → AreSeparate sizes s.stacked s.objects → objects_end vs s.stacked ≤ region_end sizes Stack
    → PlacesBy functions sizes s (length s.objects) vs (place_variables vs s)

behind_object : (functions : ℕ) (sizes : MapSizes) (kind : Kind) (vs : List Variable) (s s1 : State)
    → s1.objects ≡ with_new Automatic (rounded_up 16 s.stacked) (size_of_kind kind) s.objects → s1.accesses ≡ s.accesses
    → s1.plain ≡ s.plain
    → (o : Outcome (List Home)) → PlacesBy functions sizes s1 (length s1.objects) vs o
    → PlacesBy functions sizes s (length s.objects) (record { kind = kind; is_object = true } ∷ vs)
    (on o (λ homes. done (InObject (length s.objects) ∷ homes)))
behind_object functions sizes kind vs s s1 e a w (Gives homes s2) h =
    let made = length-new Automatic (rounded_up 16 s.stacked) (size_of_kind kind) s.objects in
    let lives = subst (LivesOn s.objects) (sym e)
    (lives_new Automatic (rounded_up 16 s.stacked) (size_of_kind kind) s.objects) in
    let held = subst (λ o. IsHeld o (length s.objects) kind) (sym e)
    (held_new Automatic (rounded_up 16 s.stacked) kind s.objects refl) in
    let longer : length s1.objects ≡ length s.objects + 1 = ap length e ∙ made in (
      record {
        sound = h.0.sound;
        low = h.0.low;
        lives = lives_then s.objects s1.objects s2.objects lives h.0.lives;
        placed = (
          (omega arith, held_on s1.objects s2.objects h.0.lives (length s.objects) kind held),
          placed_less
              (length s1.objects) (length s.objects) (omega (arith, longer)) vs homes s2.objects h.0.placed,
        );
        separate = h.0.separate;
        ends = ends_one_more s.objects s1.objects s2.objects homes longer h.0.ends;
      },
      h.1 ∙ a,
      h.2 ∙ w,
    )
behind_object functions sizes kind vs s s1 e a w (Ended x s2) h = h
behind_object functions sizes kind vs s s1 e a w (Paused s2) h = h

behind_plain : (functions : ℕ) (sizes : MapSizes) (kind : Kind) (vs : List Variable) (s : State)
    → (o : Outcome (List Home)) → PlacesBy functions sizes s (length s.objects) vs o
    → PlacesBy functions sizes s (length s.objects) (record { kind = kind; is_object = false } ∷ vs)
    (on o (λ homes. done (NoObject ∷ homes)))
behind_plain functions sizes kind vs s (Gives homes s2) h = (
  record {
    sound = h.0.sound;
    low = h.0.low;
    lives = h.0.lives;
    placed = (tt, h.0.placed);
    separate = h.0.separate;
    ends = h.0.ends;
  },
  h.1,
  h.2,
)
behind_plain functions sizes kind vs s (Ended x s2) h = h
behind_plain functions sizes kind vs s (Paused s2) h = h

places_one : (functions : ℕ) (sizes : MapSizes) → AreMapped sizes → (kind : Kind) (b : Bool) (vs : List Variable)
    → PlacesRest functions sizes vs → (s : State) → IsSound functions s.objects → AreLow s.objects
    → AreSeparate sizes s.stacked s.objects
    → objects_end vs (if b then rounded_up 16 s.stacked + size_of_kind kind else s.stacked) ≤ region_end sizes Stack
    → PlacesBy functions sizes s (length s.objects) (record { kind = kind; is_object = b } ∷ vs)
    (on (choose b (place_object (size_of_kind kind)) (done NoObject) s)
    (λ home s1. on (place_variables vs s1) (λ homes. done (home ∷ homes))))
places_one functions sizes mapped kind true vs rest s sound low separate fits =
    let top = rounded_up 16 s.stacked in
    let s1 : State = record s {
      stacked = top + size_of_kind kind;
      work = s.work
          + (1 + size_of_kind kind);
      objects = with_new Automatic top (size_of_kind kind) s.objects;
    } in
    let grows = end_grows vs (top + size_of_kind kind) in
    behind_object functions sizes kind vs s s1 refl refl refl (place_variables vs s1)
    (rest s1 (sound_new Automatic top (size_of_kind kind) s.objects sound (rounded_whole s.stacked))
    (low_new Automatic top (size_of_kind kind) s.objects
    (let least = ends_low sizes mapped Stack in omega (arith, grows, fits, least)) low)
    (separate_automatic sizes s.stacked top (size_of_kind kind) s.objects mapped separate (omega arith)
    (omega (arith, grows, fits))) fits)
places_one functions sizes mapped kind false vs rest s sound low separate fits = behind_plain functions sizes kind vs s
    (place_variables vs s) (rest s sound low separate fits)

pub places : (functions : ℕ) (sizes : MapSizes) → AreMapped sizes → (vs : List Variable) → PlacesRest functions sizes vs
places functions sizes mapped [] s sound low separate fits = (
  record {
    sound = sound;
    low = low;
    lives = lives_same s.objects;
    placed = tt;
    separate = separate;
    ends =
        ends_but_same s.objects;
  },
  refl,
  refl,
)
places functions sizes mapped (v ∷ vs) s sound low separate fits = places_one functions sizes mapped v.kind v.is_object
    vs (places functions sizes mapped vs) s sound low separate fits
