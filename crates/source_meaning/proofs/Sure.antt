-- Runs that keep objects sound: from a good state they come to a good one, with what is known of the value that they
-- give;
-- where they end or pause, objects and accesses are kept.
use Rattle.source_meaning.specs.Good.{PlaceIs, ReachBy, function_count, After, Any, AreLow, ArgumentIs, ArgumentsAre}
use Rattle.source_meaning.specs.Good.{AreOfKinds, IsGiven, IsOfKind, IsOfType, IsWord, Basis, Context, HasTaken}
use Rattle.source_meaning.specs.Good.{IsGood, IsGoodBy, IsTagged, Leaves, LvalueIs, OnName, OnPointer, OnValue}
use Rattle.source_meaning.specs.Good.{RvalueReach, Stops, StructureIs, Sure, TakenIs, ValueIs}
use Rattle.std.proofs.Common.{◌≡◌, ℕ, ◌<◌, ◌^◌, zero, suc, List, [], ◌∷◌, Bool, true, false, Option, Some, None, refl}
use Rattle.std.proofs.Common.{sym, ◌∙◌, subst, arith}
use Rattle.sb_base.specs.declared.ending.Ending.{Ending}
use Rattle.addr_map.specs.Places.{MapSizes}
use Rattle.obj_memory.specs.declared.value.Value.{Value}
use Rattle.obj_memory.specs.declared.value.Scalar.{Scalar}
use Rattle.obj_memory.specs.declared.value.Scalar.TheVariants.{Integer, Pointer}
use Rattle.obj_memory.proofs.Words.{fit_below, fit_zero}
use Rattle.source_meaning.specs.Actions.{integer}
use Rattle.obj_memory.specs.Objects.{ObjectState, Objects}
use Rattle.obj_memory.specs.Sound.{IsSound, IsSoundTag, KeepsObjects, Continues}
use Rattle.obj_memory.proofs.Soundness.{sound_tag_continues, sound_object_continues}
use Rattle.c_tree.specs.declared.expression.Kind.{Kind}
use Rattle.c_tree.specs.declared.expression.Kind.TheVariants.{Void, Scalar as OfScalar, Structure, Array}
use Rattle.source_meaning.specs.State.{State, Rvalue, Outcome, Gives, Ended, Paused, Run, on, ◌>>=◌, done, stop, pause}
use Rattle.source_meaning.specs.State.{choose, read_state, change, skip, tally}
use Rattle.c_tree.specs.Kinds.{size_of_kind}
use Rattle.source_meaning.specs.Structures.{rvalue, give, as_rvalue, as_pointer, values_of}
use Rattle.source_meaning.specs.Expressions.{counted_as, counted}
use Rattle.source_meaning.proofs.Naming.{IsNoStructure, IsWritable}
use Rattle.source_meaning.specs.Keeping.{AreTagged}
use Rattle.source_meaning.specs.Keeping.{LivesOn, IsDirect, AreSeparate}
use Rattle.source_meaning.proofs.Separating.{separate_kept, ends_as_many, ends_same, ends_then}
use Rattle.source_meaning.proofs.Holding.{all_lie_on, lives_same, lives_then, lives_kept, named_on, held_on}

abbrev pub IsStable : (Objects → Type 0) → Type 0
IsStable P = (old new : Objects) → LivesOn old new → P old → P new

leaves_same : (sc : Context) (s : State) → IsGood sc s → Leaves sc s s
leaves_same sc s h = record { good = h; lives = lives_same s.objects; frame = refl; ended = ends_same s.objects }

leaves_then : (sc : Context) (s s1 s2 : State) → Leaves sc s s1 → Leaves sc s1 s2 → Leaves sc s s2
leaves_then sc s s1 s2 p q = record {
  good = q.good;
  lives = lives_then s.objects s1.objects s2.objects p.lives q.lives;
  frame = q.frame ∙ p.frame;
  ended = ends_then s.objects s1.objects s2.objects q.lives.continues p.ended q.ended;
}

pub stops_same : (sc : Context) (s : State) → IsGood sc s → Stops (function_count sc) sc.sizes s.objects s
stops_same sc s h = record {
  kept = h.kept;
  plain = h.plain;
  low = h.low;
  lives = lives_same s.objects;
  apart = h.separate.apart;
  placed =
      h.separate.placed;
}

pub stops_then : {functions : ℕ} {sizes : MapSizes} (old new : Objects) (s : State) → LivesOn old new
    → Stops functions sizes new s → Stops functions sizes old s
stops_then old new s l h = record {
  kept = h.kept;
  plain = h.plain;
  low = h.low;
  lives = lives_then old new s.objects l h.lives;
  apart = h.apart;
  placed = h.placed;
}

after_then : {A : Type 0} (sc : Context) (s s1 : State) (Q : A → Objects → Type 0) (o : Outcome A) → Leaves sc s s1
    → After sc s1 Q o → After sc s Q o
after_then sc s s1 Q (Gives a s') p h = (leaves_then sc s s1 s' p h.0, h.1)
after_then sc s s1 Q (Ended e s') p h = stops_then s.objects s1.objects s' p.lives h
after_then sc s s1 Q (Paused s') p h = stops_then s.objects s1.objects s' p.lives h

after_on : {A B : Type 0} (sc : Context) (s : State) (o : Outcome A) (k : A → Run B) (Q : A → Objects → Type 0)
    (Q' : B → Objects → Type 0)
    → After sc s Q o → ((a : A) → Sure sc (Q a) (k a) Q') → After sc s Q' (on o k)
after_on sc s (Gives a s') k Q Q' h g = after_then sc s s' Q' (k a s') h.0 ((g a).by s' h.0.good h.1)
after_on sc s (Ended e s') k Q Q' h g = h
after_on sc s (Paused s') k Q Q' h g = h

pub sure_on : {A B : Type 0} {sc : Context} {P : Objects → Type 0} {Q : A → Objects → Type 0}
    {Q' : B → Objects → Type 0} {r : Run A} {k : A → Run B}
    → Sure sc P r Q → ((a : A) → Sure sc (Q a) (k a) Q') → Sure sc P (r >>= k) Q'
sure_on {sc = sc} {Q = Q} {Q' = Q'} {r = r} {k = k} h g = record
    { by = λ s good p. after_on sc s (r s) k Q Q' (h.by s good p) g }

pub sure_weak : {A : Type 0} {sc : Context} {P P' : Objects → Type 0} {Q : A → Objects → Type 0} {r : Run A}
    → ((o : Objects) → P' o → P o) → Sure sc P r Q → Sure sc P' r Q
sure_weak w h = record { by = λ s good p. h.by s good (w s.objects p) }

-- the same, where it matters that the state is good
pub sure_if_good : {A : Type 0} {sc : Context} {P P' : Objects → Type 0} {Q : A → Objects → Type 0} {r : Run A}
    → ((s : State) → IsGood sc s → P' s.objects → P s.objects) → Sure sc P r Q → Sure sc P' r Q
sure_if_good w h = record { by = λ s good p. h.by s good (w s good p) }

pub sure_any : {A : Type 0} {sc : Context} {P : Objects → Type 0} {Q : A → Objects → Type 0} {r : Run A}
    → Sure sc Any r Q → Sure sc P r Q
sure_any h = record { by = λ s good p. h.by s good tt }

after_post : {A : Type 0} (sc : Context) (s : State) (Q Q' : A → Objects → Type 0) (o : Outcome A)
    → ((a : A) (o : Objects) → Q a o → Q' a o) → After sc s Q o → After sc s Q' o
after_post sc s Q Q' (Gives a s') w h = (h.0, w a s'.objects h.1)
after_post sc s Q Q' (Ended e s') w h = h
after_post sc s Q Q' (Paused s') w h = h

pub sure_post : {A : Type 0} {sc : Context} {P : Objects → Type 0} {Q Q' : A → Objects → Type 0} {r : Run A}
    → ((a : A) (o : Objects) → Q a o → Q' a o) → Sure sc P r Q → Sure sc P r Q'
sure_post {sc = sc} {Q = Q} {Q' = Q'} {r = r} w h = record
    { by = λ s good p. after_post sc s Q Q' (r s) w (h.by s good p) }

after_frame : {A : Type 0} (sc : Context) (s : State) (P0 : Objects → Type 0) (Q : A → Objects → Type 0) (o : Outcome A)
    → IsStable P0 → P0 s.objects → After sc s Q o → After sc s (λ a o. P0 o × Q a o) o
after_frame sc s P0 Q (Gives a s') st p h = (h.0, (st s.objects s'.objects h.0.lives p, h.1))
after_frame sc s P0 Q (Ended e s') st p h = h
after_frame sc s P0 Q (Paused s') st p h = h

-- what is known of earlier values stays known
pub sure_frame : {A : Type 0} {sc : Context} {P0 P : Objects → Type 0} {Q : A → Objects → Type 0} {r : Run A}
    → IsStable P0 → Sure sc P r Q → Sure sc (λ o. P0 o × P o) r (λ a o. P0 o × Q a o)
sure_frame {sc = sc} {P0 = P0} {Q = Q} {r = r} st h = record
    { by = λ s good p. after_frame sc s P0 Q (r s) st p.0 (h.by s good p.1) }

pub sure_beside : {A : Type 0} {sc : Context} {P0 : Objects → Type 0} {Q : A → Objects → Type 0} {r : Run A}
    → IsStable P0 → Sure sc Any r Q → Sure sc P0 r (λ a o. P0 o × Q a o)
sure_beside st h = sure_weak (λ o p. (p, tt)) (sure_frame st h)

pub sure_done : {A : Type 0} {sc : Context} {P : Objects → Type 0} {Q : A → Objects → Type 0} {a : A}
    → ((o : Objects) → P o → Q a o) → Sure sc P (done a) Q
sure_done {sc = sc} w = record { by = λ s good p. (leaves_same sc s good, w s.objects p) }

-- the same, where it matters that the state is good
pub sure_value : {A : Type 0} {sc : Context} {P : Objects → Type 0} {Q : A → Objects → Type 0} {a : A}
    → ((s : State) → IsGood sc s → P s.objects → Q a s.objects) → Sure sc P (done a) Q
sure_value {sc = sc} w = record { by = λ s good p. (leaves_same sc s good, w s good p) }

pub sure_skip : {sc : Context} {P : Objects → Type 0} → Sure sc P skip (λ _. P)
sure_skip {sc = sc} = record { by = λ s good p. (leaves_same sc s good, p) }

pub sure_stop : {A : Type 0} {sc : Context} {P : Objects → Type 0} {Q : A → Objects → Type 0} {e : Ending}
    → Sure sc P (stop e) Q
sure_stop {sc = sc} = record { by = λ s good p. stops_same sc s good }

pub sure_pause : {A : Type 0} {sc : Context} {P : Objects → Type 0} {Q : A → Objects → Type 0} → Sure sc P pause Q
sure_pause {sc = sc} = record { by = λ s good p. stops_same sc s good }

pub sure_read : {A : Type 0} {sc : Context} {P : Objects → Type 0} {Q : A → Objects → Type 0} {f : State → A}
    → ((s : State) → IsGood sc s → P s.objects → Q (f s) s.objects) → Sure sc P (read_state f) Q
sure_read {sc = sc} w = record { by = λ s good p. (leaves_same sc s good, w s good p) }

pub sure_tally : {sc : Context} {P : Objects → Type 0} (n : ℕ) → Sure sc P (tally n) (λ _. P)
sure_tally {sc = sc} n = record {
  by = λ s good p. (
    record { good = good; lives = lives_same s.objects; frame = refl; ended = ends_same s.objects },
    p,
  );
}

pub sure_counted_as : {A : Type 0} {sc : Context} {P : Objects → Type 0} {Q : A → Objects → Type 0} {r : Run A} (n : ℕ)
    → Sure sc P r Q → Sure sc P (counted_as n r) Q
sure_counted_as n h = sure_on (sure_tally n) (λ _. h)

pub sure_counted : {A : Type 0} {sc : Context} {P : Objects → Type 0} {Q : A → Objects → Type 0} {r : Run A}
    → Sure sc P r Q → Sure sc P (counted r) Q
sure_counted h = sure_on (sure_tally 1) (λ _. h)

pub sure_choose : {A : Type 0} {sc : Context} {P : Objects → Type 0} {Q : A → Objects → Type 0} (b : Bool) {r q : Run A}
    → Sure sc P r Q → Sure sc P q Q → Sure sc P (choose b r q) Q
sure_choose true h g = h
sure_choose false h g = g

-- objects that change: names and tags stay good where the objects live on
pub good_on : (sc : Context) (s : State) (new : Objects) → IsGood sc s → LivesOn s.objects new
    → IsSound (function_count sc) new → AreLow new → AreSeparate sc.sizes s.stacked new
    → IsGoodBy sc new s.frame s.plain s.accesses s.stacked
good_on sc s new h l sound low separate = record {
  kept = record { sound = sound; lie = all_lie_on s.objects new l.continues s.accesses h.kept.lie };
  low = low;
  statics = λ n kind e. held_on s.objects new l n kind (h.statics n kind e);
  homes = λ x kind e.
      let home = h.homes x kind e in
      record { object = home.object; home = home.home; held = held_on s.objects new l home.object kind home.held };
  plain = λ x. sound_tag_continues _ s.objects new l.continues _ (h.plain x);
  typed = h.typed;
  separate = separate;
}

pub low_kept : (old new : Objects) → KeepsObjects old new → AreLow old → AreLow new
low_kept old new k h = λ n. let a = (k.at n).address in let z = (k.at n).size in omega (arith, a, z, h n)

-- a change of the objects that leaves them where they are
pub sure_objects : {sc : Context} {P Q : Objects → Type 0} (f : Objects → Objects)
    → ((o : Objects) → KeepsObjects o (f o)) → ((o : Objects) → Continues o (f o))
    → ((o : Objects) → P o → IsSound (function_count sc) o → IsSound (function_count sc) (f o))
    → ((o : Objects) → P o → Q (f o))
    → Sure sc P (change (λ s. record s { objects = f s.objects })) (λ _. Q)
sure_objects {sc = sc} f k c sound q = record {
  by = λ s good p.
      let lives = lives_kept s.objects (f s.objects) (c s.objects) (k s.objects) in (
        record {
          good = good_on sc s (f s.objects) good lives (sound s.objects p good.kept.sound)
              (low_kept s.objects (f s.objects) (k s.objects) good.low)
              (separate_kept sc.sizes s.stacked s.objects (f s.objects) (k s.objects) good.separate);
          lives = lives;
          frame = refl;
          ended = ends_as_many s.objects (f s.objects) (k s.objects).count;
        },
        q s.objects p,
      );
}

-- values

abbrev pub DirectIf : Kind → Value → Objects → Type 0
DirectIf Void v objects = Unit {0}
DirectIf (OfScalar k) v objects = Unit {0}
DirectIf (Structure n) v objects = IsDirect objects v n
DirectIf (Array n) v objects = Unit {0}

-- a value without contents of a kind: its tag is sound, and a structure value is a pointer to its bytes
pub record PlaceValueIs (functions : ℕ) (kind : Kind) (v : Value) (objects : Objects) : Type 0 where
  pub tag : IsSoundTag functions objects v.tag
  pub structure : DirectIf kind v objects
  pub word : IsOfKind functions kind v

-- an argument or a result of a kind: a structure has its contents

-- a scalar, as an expression gives it
abbrev pub GivesScalar : (functions : ℕ) → Kind → Rvalue → Objects → Type 0
GivesScalar functions kind v o = IsTagged functions v.value o × (v.contents ≡ None) × IsOfKind functions kind v.value

pub stable_tag : (functions : ℕ) (v : Value) → IsStable (IsTagged functions v)
stable_tag functions v old new l h = sound_tag_continues _ old new l.continues v.tag h

writable_reach : (functions : ℕ) (b : Basis) → IsWritable b
    → (size : ℕ) (c : Option ObjectState) (v : Value) (o : Objects) → RvalueReach functions b size c v o
    → ReachBy b size v o
writable_reach functions OnName w size c v o h = h.1
writable_reach functions OnPointer w size c v o h = tt
writable_reach functions OnValue w size c v o h = absurd w

pub writable_place : (functions : ℕ) (b : Basis) → IsWritable b → (kind : Kind) (q : Rvalue) (o : Objects)
    → LvalueIs functions b kind q o → PlaceIs functions b kind q.value o
writable_place functions b w kind q o h = (h.tag, writable_reach _ b w (size_of_kind kind) q.contents q.value o h.reach)

pub stable_place : (functions : ℕ) (b : Basis) → IsWritable b → (kind : Kind) (v : Value)
    → IsStable (PlaceIs functions b kind v)
stable_place functions OnName w kind v old new l h =
    (stable_tag _ v old new l h.0, named_on old new l v (size_of_kind kind) h.1)
stable_place functions OnPointer w kind v old new l h = (stable_tag _ v old new l h.0, tt)
stable_place functions OnValue w kind v old new l h = absurd w

contents_on : (functions : ℕ) (size offset : ℕ) (c : ObjectState) (old new : Objects) → Continues old new
    → HasTaken functions size offset c old → HasTaken functions size offset c new
contents_on functions size offset c old new l h = record
    { sound = sound_object_continues old new l c h.sound; whole = h.whole; first = h.first }

taken_on : (functions : ℕ) (n : ℕ) (c : Option ObjectState) (v : Value) (old new : Objects) → Continues old new
    → TakenIs functions n c v old → TakenIs functions n c v new
taken_on functions n None v old new l h = h
taken_on functions n (Some c) v old new l h = contents_on _ n v.word c old new l h

pub argument_on : (functions : ℕ) (kind : Kind) (v : Rvalue) (old new : Objects) → Continues old new
    → ArgumentIs functions kind v old → ArgumentIs functions kind v new
argument_on functions Void v old new l h = record
    { tag = sound_tag_continues _ old new l v.value.tag h.tag; structure = h.structure; word = h.word }
argument_on functions (OfScalar k) v old new l h = record
    { tag = sound_tag_continues _ old new l v.value.tag h.tag; structure = h.structure; word = h.word }
argument_on functions (Structure n) v old new l h = record {
  tag = sound_tag_continues _ old new l v.value.tag h.tag;
  structure = taken_on _ n v.contents v.value old new l
      h.structure;
  word = h.word;
}
argument_on functions (Array n) v old new l h = record
    { tag = sound_tag_continues _ old new l v.value.tag h.tag; structure = h.structure; word = h.word }

pub stable_argument : (functions : ℕ) (kind : Kind) (v : Rvalue) → IsStable (ArgumentIs functions kind v)
stable_argument functions kind v old new l h = argument_on _ kind v old new l.continues h

pub stable_arguments : (functions : ℕ) (ks : List Kind) (vs : List Rvalue) → IsStable (ArgumentsAre functions ks vs)
stable_arguments functions [] [] old new l h = tt
stable_arguments functions [] (v ∷ vs) old new l h = h
stable_arguments functions (k ∷ ks) [] old new l h = h
stable_arguments functions (k ∷ ks) (v ∷ vs) old new l h =
    (stable_argument _ k v old new l h.0, stable_arguments _ ks vs old new l h.1)

taken_structure : (functions : ℕ) (n : ℕ) (c : Option ObjectState) (v : Value) (o : Objects) → TakenIs functions n c v o
    → StructureIs functions n c v o
taken_structure functions n None v o h = absurd h
taken_structure functions n (Some c) v o h = record { sound = h.sound; room = omega (arith, h.whole, h.first) }

pub argument_value : (functions : ℕ) (kind : Kind) (v : Rvalue) (o : Objects) → ArgumentIs functions kind v o
    → ValueIs functions kind v o
argument_value functions Void v o h = record { tag = h.tag; structure = h.structure; word = h.word }
argument_value functions (OfScalar k) v o h = record { tag = h.tag; structure = h.structure; word = h.word }
argument_value functions (Structure n) v o h = record
    { tag = h.tag; structure = taken_structure _ n v.contents v.value o h.structure; word = h.word }
argument_value functions (Array n) v o h = record { tag = h.tag; structure = h.structure; word = h.word }

-- the tags of arguments
pub arguments_tagged : (functions : ℕ) (ks : List Kind) (vs : List Rvalue) (o : Objects)
    → ArgumentsAre functions ks vs o → AreTagged functions (values_of vs) o
arguments_tagged functions [] [] o h x = tt
arguments_tagged functions [] (v ∷ vs) o h x = absurd h
arguments_tagged functions (k ∷ ks) [] o h x = absurd h
arguments_tagged functions (k ∷ ks) (v ∷ vs) o h zero = h.0.tag
arguments_tagged functions (k ∷ ks) (v ∷ vs) o h (suc x) = arguments_tagged _ ks vs o h.1 x

-- the arguments of a routine
pub arguments_of_kinds : (functions : ℕ) (ks : List Kind) (vs : List Rvalue) (o : Objects)
    → ArgumentsAre functions ks vs o → AreOfKinds functions ks (values_of vs)
arguments_of_kinds functions [] [] o h x = λ _. omega arith
arguments_of_kinds functions [] (v ∷ vs) o h x = absurd h
arguments_of_kinds functions (k ∷ ks) [] o h x = absurd h
arguments_of_kinds functions (k ∷ ks) (v ∷ vs) o h zero = h.0.word
arguments_of_kinds functions (k ∷ ks) (v ∷ vs) o h (suc x) = arguments_of_kinds functions ks vs o h.1 x

-- words

pub word_of_type : (functions : ℕ) (k : Scalar) (v : Value) → IsOfType functions k v → IsWord functions v.word
word_of_type functions (Integer t) v h = λ _. subst (λ w. w < 2 ^ 64) h.1 (fit_below t v.word)
word_of_type functions Pointer v h = h

pub word_of_kind : (functions : ℕ) (kind : Kind) (v : Value) → IsOfKind functions kind v → IsWord functions v.word
word_of_kind functions Void v h = h
word_of_kind functions (OfScalar k) v h = word_of_type functions k v h
word_of_kind functions (Structure n) v h = h
word_of_kind functions (Array n) v h = h

pub zero_of_type : (functions : ℕ) (k : Scalar) → IsOfType functions k (integer 0)
zero_of_type functions (Integer t) = (refl, fit_zero t)
zero_of_type functions Pointer = λ _. omega arith

pub zero_of_kind : (functions : ℕ) (kind : Kind) → IsOfKind functions kind (integer 0)
zero_of_kind functions Void = λ _. omega arith
zero_of_kind functions (OfScalar k) = zero_of_type functions k
zero_of_kind functions (Structure n) = λ _. omega arith
zero_of_kind functions (Array n) = λ _. omega arith

-- values of a kind that is no structure

pub value_is : (functions : ℕ) (kind : Kind) (v : Rvalue) (objects : Objects) → IsNoStructure kind
    → GivesScalar functions kind v objects → ValueIs functions kind v objects
value_is functions Void v objects n h = record { tag = h.0; structure = h.1; word = h.2 }
value_is functions (OfScalar k) v objects n h = record { tag = h.0; structure = h.1; word = h.2 }
value_is functions (Structure m) v objects n h = absurd n
value_is functions (Array m) v objects n h = record { tag = h.0; structure = h.1; word = h.2 }

pub argument_is : (functions : ℕ) (kind : Kind) (v : Rvalue) (objects : Objects) → IsNoStructure kind
    → GivesScalar functions kind v objects → ArgumentIs functions kind v objects
argument_is functions Void v objects n h = record { tag = h.0; structure = h.1; word = h.2 }
argument_is functions (OfScalar k) v objects n h = record { tag = h.0; structure = h.1; word = h.2 }
argument_is functions (Structure m) v objects n h = absurd n
argument_is functions (Array m) v objects n h = record { tag = h.0; structure = h.1; word = h.2 }

pub place_value : (functions : ℕ) (kind : Kind) (v : Value) (objects : Objects) → PlaceValueIs functions kind v objects
    → ValueIs functions kind (rvalue v) objects
place_value functions Void v objects h = record { tag = h.tag; structure = refl; word = h.word }
place_value functions (OfScalar k) v objects h = record { tag = h.tag; structure = refl; word = h.word }
place_value functions (Structure n) v objects h = record { tag = h.tag; structure = h.structure; word = h.word }
place_value functions (Array n) v objects h = record { tag = h.tag; structure = refl; word = h.word }

-- of a kind that is no structure
pub plainly : {sc : Context} {P : Objects → Type 0} {r : Run Rvalue} {kind : Kind} → IsNoStructure kind
    → Sure sc P r (GivesScalar (function_count sc) kind) → Sure sc P r (ValueIs (function_count sc) kind)
plainly {kind = kind} n h = sure_post (λ v o t. value_is _ kind v o n t) h

pub of_kind : {sc : Context} {P : Objects → Type 0} {r : Run Rvalue} {kind other : Kind} → kind ≡ other
    → Sure sc P r (ValueIs (function_count sc) other) → Sure sc P r (ValueIs (function_count sc) kind)
of_kind {sc = sc} {P = P} {r = r} e h = subst (λ k. Sure sc P r (ValueIs (function_count sc) k)) (sym e) h

pub sure_give : {sc : Context} {P : Objects → Type 0} {v : Value} (kind : Kind)
    → ((o : Objects) → P o → IsGiven (function_count sc) kind v o)
    → Sure sc P (give v) (GivesScalar (function_count sc) kind)
sure_give kind w = sure_done (λ o p. ((w o p).0, refl, (w o p).1))

pub as_sure : {sc : Context} {P : Objects → Type 0} {r : Run Value} (kind : Kind)
    → Sure sc P r (IsGiven (function_count sc) kind) → Sure sc P (as_rvalue r) (GivesScalar (function_count sc) kind)
as_sure kind h = sure_on h (λ v. sure_give {v = v} kind (λ o t. t))

pub pointer_sure : {sc : Context} {P : Objects → Type 0} {r : Run Rvalue} (kind : Kind)
    → Sure sc P r (λ v o. IsGiven (function_count sc) kind v.value o)
    → Sure sc P (as_pointer r) (GivesScalar (function_count sc) kind)
pointer_sure kind h = sure_on h (λ v. sure_give {v = v.value} kind (λ o t. t))

pub stable_tagged : (functions : ℕ) (vs : List Value) → IsStable (AreTagged functions vs)
stable_tagged functions vs old new l h = λ x. sound_tag_continues _ old new l.continues _ (h x)
