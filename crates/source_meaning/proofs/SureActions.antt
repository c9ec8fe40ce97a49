-- The actions keep objects sound.
use Rattle.source_meaning.specs.Good.{Updates, PlaceIs, ReachBy, on_pointer, function_count, After, Any, AreTyped}
use Rattle.source_meaning.specs.Good.{IsGiven, IsOfKind, IsOfType, IsWord, plain_type, Basis, Context, IsGood, IsTagged}
use Rattle.source_meaning.specs.Good.{OnName, OnPointer, OnValue, Sure}
use Rattle.std.proofs.Common.{◌≡◌, ℕ, zero, suc, ◌+◌, ◌-◌, ◌*◌, ◌%◌, ◌^◌, List, [], ◌∷◌, Bool, true, false, Option}
use Rattle.std.proofs.Common.{Some, None, get_or, set, refl, sym, ap, ◌∙◌, subst, arith, nat_lt, IfSome}
use Rattle.std.proofs.Math.Seq.{lt-length-set}
use Rattle.behaviours.specs.Shown.{AccessKind, Read, Write}
use Rattle.sb_base.specs.declared.ending.Ending.TheVariants.{Keys}
use Rattle.obj_memory.specs.declared.int_type.IntType.{IntType}
use Rattle.obj_memory.specs.declared.operator.BinaryOperator.{BinaryOperator}
use Rattle.obj_memory.specs.declared.value.Tag.{Tag}
use Rattle.obj_memory.specs.declared.value.Tag.TheVariants.{Untagged, OfFunction, OfObject}
use Rattle.obj_memory.specs.declared.value.Value.{Value}
use Rattle.obj_memory.specs.declared.value.Scalar.{Scalar}
use Rattle.obj_memory.specs.declared.value.Scalar.TheVariants.{Integer, Pointer}
use Rattle.obj_memory.specs.declared.value.Place.{Place}
use Rattle.obj_memory.specs.declared.judgement.Verdict.{Verdict}
use Rattle.obj_memory.specs.declared.judgement.Verdict.TheVariants.{Outside, Dead, Inside}
use Rattle.obj_memory.specs.Integers.{fit}
use Rattle.obj_memory.specs.Operators.{binary_value}
use Rattle.obj_memory.specs.Objects.{Objects, object_at, with_zeroed}
use Rattle.obj_memory.specs.Judgement.{judge, named, place_in}
use Rattle.obj_memory.specs.Access.{scalar_size, read_value, write_value, move_range}
use Rattle.obj_memory.specs.Sound.{IsSound, IsSoundTag, IsAllowed, IsPlace, KeepsObjects}
use Rattle.obj_memory.specs.Judgement.{moved}
use Rattle.obj_memory.proofs.Words.{fit_twice}
use Rattle.obj_memory.proofs.Listed.{at_set}
use Rattle.c_tree.specs.Valid.{Scope}
use Rattle.obj_memory.proofs.Soundness.{sound_value, sound_moved, sound_zeroed}
use Rattle.obj_memory.proofs.Keeping.{keeps_value, keeps_moved, keeps_zeroed}
use Rattle.obj_memory.proofs.Continuing.{continues_value, continues_moved, continues_zeroed}
use Rattle.obj_memory.proofs.Judging.{judge_inside, sound_offset}
use Rattle.obj_memory.proofs.Reading.{read_below, sound_read, place_kept}
use Rattle.c_tree.specs.declared.expression.Kind.{Kind}
use Rattle.c_tree.specs.declared.expression.Kind.TheVariants.{Void, Scalar as OfScalar, Structure, Array}
use Rattle.c_tree.specs.declared.expression.Update.{Update}
use Rattle.c_tree.specs.declared.expression.Update.TheVariants.{Arithmetic, Forward, Back}
use Rattle.c_tree.specs.declared.expression.Fixity.{Fixity}
use Rattle.c_tree.specs.declared.expression.Fixity.TheVariants.{Prefix, Postfix}
use Rattle.c_tree.specs.declared.expression.OffsetForm.{OffsetForm}
use Rattle.c_tree.specs.declared.expression.OffsetForm.TheVariants.{PointerPlusIndex, IndexPlusPointer}
use Rattle.c_tree.specs.declared.expression.OffsetForm.TheVariants.{PointerMinusIndex}
use Rattle.source_meaning.specs.State.{Home}
use Rattle.source_meaning.specs.State.{NoObject, InObject}
use Rattle.source_meaning.specs.State.{State, stop, choose, change, Header, Setting}
use Rattle.source_meaning.specs.Actions.{integer, converted_to, converted, offset_value, value_or_divide, operate}
use Rattle.source_meaning.specs.Actions.{updated, given, plain_value, set_plain, update_plain, place_or_stop, located}
use Rattle.source_meaning.specs.Actions.{note, read_scalar, write_scalar, move_bytes, load, store, update}
use Rattle.source_meaning.specs.Actions.{copy_structure, read_lvalue, put_bytes, take_key}
use Rattle.source_meaning.specs.Expressions.{callee_by, callee}
use Rattle.source_meaning.specs.Initializers.{zero_object, zero_home, zero_variable}
use Rattle.source_meaning.specs.Keeping.{AreTagged, LiesInObject, IsDirect}
use Rattle.source_meaning.proofs.Separating.{ends_same}
use Rattle.source_meaning.proofs.Holding.{all_lie_more, lives_same, direct_named, direct_allowed, allowed_lies}
use Rattle.source_meaning.proofs.Holding.{judged_direct, direct_kept}
use Rattle.source_meaning.proofs.Sure.{IsStable, stops_same, sure_on, sure_weak, sure_post, sure_frame, sure_done}
use Rattle.source_meaning.proofs.Sure.{sure_skip, sure_stop, sure_read, sure_tally, sure_choose, sure_objects}
use Rattle.source_meaning.proofs.Sure.{PlaceValueIs, stable_tag}

-- values

abbrev pub converted_to_tagged : (functions : ℕ) (k : Scalar) (v : Value) (o : Objects) → IsTagged functions v o
    → IsTagged functions (converted_to k v) o
converted_to_tagged functions (Integer t) v o h = tt
converted_to_tagged functions Pointer v o h = h

pub converted_tagged : (functions : ℕ) (kind : Kind) (v : Value) (o : Objects) → IsTagged functions v o
    → IsTagged functions (converted kind v) o
converted_tagged functions Void v o h = tt
converted_tagged functions (OfScalar k) v o h = converted_to_tagged _ k v o h
converted_tagged functions (Structure n) v o h = h
converted_tagged functions (Array n) v o h = h

-- a conversion gives a value of its kind
converted_to_is : (functions : ℕ) (k : Scalar) (v : Value) → IsWord functions v.word
    → IsOfType functions k (converted_to k v)
converted_to_is functions (Integer t) v h = (refl, fit_twice t v.word)
converted_to_is functions Pointer v h = h

pub converted_is : (functions : ℕ) (kind : Kind) (v : Value) → IsWord functions v.word
    → IsOfKind functions kind (converted kind v)
converted_is functions Void v h = λ _. omega arith
converted_is functions (OfScalar k) v h = converted_to_is functions k v h
converted_is functions (Structure n) v h = h
converted_is functions (Array n) v h = h

-- a moved pointer is a word
pub moved_word : (functions offset : ℕ) (v : Value) → IsWord functions (moved offset v).word
unfolding moved
moved_word functions offset v = λ _. omega arith

pub offset_word : (functions : ℕ) (form : OffsetForm) (size : ℕ) (x y : Value)
    → IsWord functions (offset_value form size x y).word
offset_word functions PointerPlusIndex size x y = moved_word functions (y.word * size) x
offset_word functions IndexPlusPointer size x y = moved_word functions (x.word * size) y
offset_word functions PointerMinusIndex size x y = moved_word functions (2 ^ 64 - (y.word * size) % 2 ^ 64) x

pub offset_tagged : (functions : ℕ) (form : OffsetForm) (size : ℕ) (x y : Value) (o : Objects) → IsTagged functions x o
    → IsTagged functions y o → IsTagged functions (offset_value form size x y) o
offset_tagged functions PointerPlusIndex size x y o h g = sound_offset _ o (y.word * size) x h
offset_tagged functions IndexPlusPointer size x y o h g = sound_offset _ o (x.word * size) y g
offset_tagged functions PointerMinusIndex size x y o h g = sound_offset _ o (2 ^ 64 - (y.word * size) % 2 ^ 64) x h

given_tagged : (functions : ℕ) (f : Fixity) (old new : Value) (o : Objects) → IsTagged functions old o
    → IsTagged functions new o → IsTagged functions (given f old new) o
given_tagged functions Prefix old new o h g = g
given_tagged functions Postfix old new o h g = h

given_is : (functions : ℕ) (k : Scalar) (f : Fixity) (old new : Value) → IsOfType functions k old
    → IsOfType functions k new → IsOfType functions k (given f old new)
given_is functions k Prefix old new h g = g
given_is functions k Postfix old new h g = h

pub is_untagged : (functions : ℕ) (v : Value) → v.tag ≡ Untagged → (o : Objects) → IsTagged functions v o
is_untagged functions v e o = subst (IsSoundTag functions o) (sym e) tt

divide_sure : {sc : Context} {P : Objects → Type 0} (R : ℕ → Type 0) (x : Option ℕ) (line : ℕ) → IfSome x R
    → Sure sc P (value_or_divide x line) (λ v o. P o × (v.tag ≡ Untagged) × R v.word)
divide_sure R None line r = sure_stop
divide_sure R (Some w) line r = sure_done (λ o p. (p, refl, r))

any_word : (x : Option ℕ) → IfSome x (λ _. Unit {0})
any_word None = tt
any_word (Some w) = tt

operate_sure : {sc : Context} {P : Objects → Type 0} (op : BinaryOperator) (t : IntType) (x y : Value) (line : ℕ)
    → Sure sc P (operate op t x y line) (λ v o. P o × (v.tag ≡ Untagged) × Unit {0})
operate_sure op t x y line = divide_sure (λ _. Unit {0}) (binary_value op t x.word y.word) line
    (any_word (binary_value op t x.word y.word))

-- an operator that gives words of a type
pub sure_operate : {sc : Context} {P : Objects → Type 0} (op : BinaryOperator) (t : IntType) (x y : Value) (line : ℕ)
    (result : IntType) → IfSome (binary_value op t x.word y.word) (λ w. fit result w ≡ w)
    → Sure sc P (operate op t x y line) (IsGiven (function_count sc) (OfScalar (Integer result)))
sure_operate op t x y line result r = sure_post (λ v o e. (is_untagged _ v e.1 o, (e.1, e.2)))
    (divide_sure (λ w. fit result w ≡ w) (binary_value op t x.word y.word) line r)

-- what is known of the objects stays known
pub sure_updated : {sc : Context} {P : Objects → Type 0} (u : Update) (k : Scalar) → Updates u k
    → (right : Value) (line : ℕ) (old : Value)
    → Sure sc (λ o. P o × IsTagged (function_count sc) old o) (updated u k right line old)
    (λ v o. (P o × IsTagged (function_count sc) old o) × IsGiven (function_count sc) (OfScalar k) v o)
sure_updated (Arithmetic op t) (Integer s) w right line old =
    sure_on (operate_sure op t (integer (fit t old.word)) right line)
    (λ new. sure_done (λ o e. (e.0, (tt, (refl, fit_twice s new.word)))))
sure_updated (Arithmetic op t) Pointer w right line old = absurd w
sure_updated (Forward size) (Integer s) w right line old = absurd w
sure_updated (Forward size) Pointer w right line old = sure_done
    (λ o h. (h, (sound_offset _ o (right.word * size) old h.1, moved_word _ (right.word * size) old)))
sure_updated (Back size) (Integer s) w right line old = absurd w
sure_updated (Back size) Pointer w right line old =
    let offset = 2 ^ 64 - (right.word * size) % 2 ^ 64 in
    sure_done (λ o h. (h, (sound_offset _ o offset old h.1, moved_word _ offset old)))

pub sure_callee : {sc : Context} {P : Objects → Type 0} (functions : List Header) (type_number : ℕ) (v : Value)
    (line : ℕ) → Sure sc P (callee functions type_number v line) (λ f. P)
sure_callee {sc = sc} {P = P} functions type_number v line = by v.tag
  where
    by : (t : Tag) → Sure sc P (callee_by functions type_number v.word t line) (λ f. P)
    by Untagged = sure_stop
    by (OfFunction f) = sure_choose _ (sure_done (λ o p. p)) sure_stop
    by (OfObject n b) = sure_stop

-- accesses

-- the access is allowed at the place, and the pointer is to its bytes
abbrev pub IsFound : Value → (size : ℕ) → Place → Objects → Type 0
IsFound q size p o = IsAllowed o q size p × IsDirect o q size

located_by : {sc : Context} (P : Objects → Type 0) (s : State) → IsGood sc s → P s.objects
    → (size : ℕ) (q : Value) (line : ℕ) (v : Verdict) → ((p : Place) → v ≡ Inside p → IsFound q size p s.objects)
    → After sc s (λ p o. P o × IsFound q size p o) (place_or_stop v line s)
located_by {sc = sc} P s good h size q line Outside w = stops_same sc s good
located_by {sc = sc} P s good h size q line Dead w = stops_same sc s good
located_by P s good h size q line (Inside p) w =
    (record { good = good; lives = lives_same s.objects; frame = refl; ended = ends_same s.objects }, (h, w p refl))

inside_only : (p q : Place) → Inside p ≡ Inside q → p ≡ q
inside_only p q e = cc

direct_by : (o : Objects) (q : Value) (size : ℕ) → IsDirect o q size → (p : Place) → named q o ≡ Inside p
    → IsFound q size p o
direct_by o q size d p e = (
  subst (λ x. IsAllowed o q size x) (inside_only (place_in o d.object q.word) p (sym (direct_named o q size d) ∙ e))
      (direct_allowed o q size d),
  d,
)

pub sure_located : {sc : Context} {P : Objects → Type 0} (b : Basis) (size : ℕ) (q : Value) (line : ℕ)
    → Sure sc (λ o. P o × (IsTagged (function_count sc) q o × ReachBy b size q o)) (located (on_pointer b) size q line)
    (λ p o. P o × IsFound q size p o)
sure_located {P = P} OnPointer size q line = record {
  by = λ s good h. located_by P s good h.0 size q line (judge size q s.objects)
      (λ p e. (judge_inside _ s.objects size q p h.1.0 e, judged_direct _ s.objects size q p h.1.0 e));
}
sure_located {P = P} OnName size q line = record {
  by = λ s good h. located_by P s good h.0 size q line (named q s.objects)
      (λ p e. direct_by s.objects q size h.1.1.direct p e);
}
sure_located {P = P} OnValue size q line = record {
  by = λ s good h. located_by P s good h.0 size q line (named q s.objects)
      (λ p e. direct_by s.objects q size h.1.1 p e);
}

pub sure_note : {sc : Context} {P : Objects → Type 0} (kind : AccessKind) (address size : ℕ)
    → ((o : Objects) → P o → LiesInObject o (record { address = address; size = size; kind = kind }))
    → Sure sc P (note kind address size) (λ _. P)
sure_note kind address size w = record {
  by = λ s good p. (
    record {
      good = record {
        kept = record {
          sound = good.kept.sound;
          lie = all_lie_more s.objects s.accesses _ good.kept.lie
              (w s.objects p);
        };
        low = good.low;
        statics = good.statics;
        homes = good.homes;
        plain = good.plain;
        typed = good.typed;
        separate = good.separate;
      };
      lives = lives_same s.objects;
      frame = refl;
      ended = ends_same s.objects;
    },
    p,
  );
}

-- what is read of a scalar is of its type
read_is : (functions : ℕ) (k : Scalar) (p : Place) (o : Objects) → IsSound functions o → IsPlace o p (scalar_size k)
    → IsOfType functions k (read_value k p o)
unfolding read_value
read_is functions (Integer t) p o sound h = (refl, fit_twice t _)
read_is functions Pointer p o sound h = λ _. read_below Pointer p o sound h

pub sure_read_scalar : {sc : Context} (k : Scalar) (q : Value) (p : Place)
    → Sure sc (λ o. IsAllowed o q (scalar_size k) p) (read_scalar k q.word p)
    (λ v o. IsAllowed o q (scalar_size k) p × IsGiven (function_count sc) (OfScalar k) v o)
sure_read_scalar k q p =
    sure_on (sure_note Read q.word (scalar_size k) (λ o h. allowed_lies o q (scalar_size k) h _ refl refl))
    (λ _. sure_read {f = λ s. read_value k p s.objects}
    (λ s good h. (h, (sound_read k p s.objects good.kept.sound, read_is _ k p s.objects good.kept.sound h.place))))

allowed_kept : (old new : Objects) (q : Value) (size : ℕ) (p : Place) → KeepsObjects old new → IsAllowed old q size p
    → IsAllowed new q size p
allowed_kept old new q size p k h = record {
  place = place_kept old new p size k h.place;
  live = (k.at p.object).live ∙ h.live;
  address = let a = (k.at p.object).address in omega (arith, a, h.address);
}

pub sure_write_scalar : {sc : Context} (k : Scalar) (q : Value) (p : Place) (v : Value)
    → Sure sc (λ o. IsAllowed o q (scalar_size k) p × IsTagged (function_count sc) v o) (write_scalar k q.word p v)
    (λ _ o. IsTagged (function_count sc) v o)
sure_write_scalar k q p v =
    sure_on (sure_note Write q.word (scalar_size k) (λ o h. allowed_lies o q (scalar_size k) h.0 _ refl refl)) (λ _.
    sure_objects (write_value k v p) (keeps_value k v p) (continues_value k v p)
    (λ o h sound. sound_value k v p o sound h.0.place h.1)
    (λ o h. stable_tag _ v o (write_value k v p o)
    (record {
      continues = continues_value k v p o;
      live = λ n lt held live. ((keeps_value k v p o).at n).live
          ∙ live;
    }) h.1))

pub sure_move_bytes : {sc : Context} (size : ℕ) (d s : Place) (q w : Value)
    → Sure sc (λ o. IsFound q size d o × IsFound w size s o) (move_bytes size d s) (λ _ o. IsDirect o q size)
sure_move_bytes size d s q w =
    sure_on (sure_tally size) (λ _.
    sure_objects (move_range size d s) (keeps_moved size d s) (continues_moved size d s)
    (λ o h sound. sound_moved size d s o sound h.0.0.place h.1.0.place)
    (λ o h. direct_kept o (move_range size d s o) q size (keeps_moved size d s o) h.0.1))

-- scalars

pub sure_load : {sc : Context} (b : Basis) (k : Scalar) (q : Value) (line : ℕ)
    → Sure sc (λ o. IsTagged (function_count sc) q o × ReachBy b (scalar_size k) q o) (load k (on_pointer b) q line)
    (IsGiven (function_count sc) (OfScalar k))
sure_load b k q line =
    sure_on (sure_weak (λ o h. (tt, h)) (sure_located {P = Any} b (scalar_size k) q line))
    (λ p. sure_post (λ v o h. h.1) (sure_weak (λ o h. h.1.0) (sure_read_scalar k q p)))

pub sure_store : {sc : Context} (b : Basis) (k : Scalar) (q : Value) (line : ℕ) (v : Value)
    → Sure sc (λ o. IsTagged (function_count sc) v o
    × (IsTagged (function_count sc) q o × ReachBy b (scalar_size k) q o)) (store k (on_pointer b) q line v)
    (λ _ o. IsTagged (function_count sc) v o)
sure_store b k q line v = sure_on (sure_located b (scalar_size k) q line)
    (λ p. sure_weak (λ o h. (h.1.0, h.0)) (sure_write_scalar k q p v))

-- what is known of a value beside its tag stays known
pub stable_beside : {A : Type 0} (functions : ℕ) (v : Value) → IsStable (λ o. IsTagged functions v o × A)
stable_beside functions v old new l h = (stable_tag functions v old new l h.0, h.1)

pub sure_update : {sc : Context} (b : Basis) (k : Scalar) (q : Value) (line : ℕ) (u : Update) → Updates u k
    → (right : Value) (at : ℕ) (f : Fixity)
    → Sure sc (λ o. IsTagged (function_count sc) q o × ReachBy b (scalar_size k) q o)
    (update k (on_pointer b) q line (updated u k right at) f) (IsGiven (function_count sc) (OfScalar k))
sure_update {sc = sc} b k q line u w right at f =
    sure_on (sure_weak (λ o h. (tt, h)) (sure_located {P = Any} b (scalar_size k) q line)) (λ p.
    sure_on (sure_weak (λ o h. h.1.0) (sure_read_scalar k q p)) (λ old.
    sure_on (sure_weak (λ o h. ((h.0, h.1.1), h.1.0))
    (sure_updated {P = λ o. IsAllowed o q (scalar_size k) p × IsOfType (function_count sc) k old} u k w right at
    old)) (λ new.
    sure_on (sure_weak (λ o h. ((h.0.1, (h.0.0.1, h.1.1)), (h.0.0.0, h.1.0)))
    (sure_frame (stable_beside {A = IsOfType (function_count sc) k old × IsOfType (function_count sc) k new} _ old)
    (sure_write_scalar k q p new))) (λ _.
    sure_done {a = given f old new}
    (λ o h. (given_tagged _ f old new o h.0.0 h.1, given_is _ k f old new h.0.1.0 h.0.1.1))))))

-- lvalues of any kind

pub sure_read_lvalue : {sc : Context} (b : Basis) (kind : Kind) (q : Value) (line : ℕ)
    → Sure sc (λ o. PlaceIs (function_count sc) b kind q o × IsWord (function_count sc) q.word)
    (read_lvalue kind (on_pointer b) q line) (PlaceValueIs (function_count sc) kind)
sure_read_lvalue b Void q line = sure_done (λ o h. record { tag = h.0.0; structure = tt; word = h.1 })
sure_read_lvalue b (OfScalar k) q line = sure_post (λ v o h. record { tag = h.0; structure = tt; word = h.1 })
    (sure_weak (λ o h. h.0) (sure_load b k q line))
sure_read_lvalue {sc = sc} b (Structure n) q line =
    sure_on (sure_weak (λ o h. ((h.0.0, h.1), h.0))
    (sure_located {P = λ o. IsTagged (function_count sc) q o × IsWord (function_count sc) q.word} b n q line))
    (λ p. sure_done (λ o h. record { tag = h.0.0; structure = h.1.1; word = h.0.1 }))
sure_read_lvalue b (Array n) q line = sure_done (λ o h. record { tag = h.0.0; structure = tt; word = h.1 })

pub sure_copy : {sc : Context} (b : Basis) (n : ℕ) (q : Value) (line : ℕ) (v : Value)
    → Sure sc (λ o. (IsTagged (function_count sc) v o × IsDirect o v n)
    × (IsTagged (function_count sc) q o × ReachBy b n q o)) (copy_structure n (on_pointer b) q line v)
    (λ _ o. IsDirect o q n)
sure_copy b n q line v =
    sure_on (sure_located b n q line) (λ d.
    sure_on (sure_weak (λ o h. (h.1, h.0)) (sure_located {P = λ o. IsFound q n d o} OnValue n v line))
    (λ s. sure_move_bytes n d s q v))

-- plain values

tagged_set : (functions : ℕ) (o : Objects) (v : Value) → IsTagged functions v o → (vs : List Value) (x : ℕ)
    → AreTagged functions vs o → AreTagged functions (set vs x v) o
tagged_set functions o v t [] x h y = h y
tagged_set functions o v t (w ∷ ws) zero h zero = t
tagged_set functions o v t (w ∷ ws) zero h (suc y) = h (suc y)
tagged_set functions o v t (w ∷ ws) (suc x) h zero = h zero
tagged_set functions o v t (w ∷ ws) (suc x) h (suc y) = tagged_set _ o v t ws x (λ z. h (suc z)) y

one_type : (k l : Scalar) → Some k ≡ Some l → k ≡ l
one_type k l e = cc

typed_set : (functions : ℕ) (scope : Scope) (x : ℕ) (k : Scalar) (v : Value) (values : List Value)
    → plain_type scope.variables x ≡ Some k → IsOfType functions k v → AreTyped functions scope values
    → AreTyped functions scope (set values x v)
typed_set functions scope x k v values at t h = record {
  there = λ y l e. lt-length-set values x v (h.there y l e);
  value = λ y l e.
      at_set (λ w. IsOfType functions l w) (integer 0) values x y v
      (λ same. subst (λ z. IsOfType functions z v)
      (one_type k l (sym (h.named x k at) ∙ ap (plain_type scope.all) (sym same) ∙ e)) t)
      (h.value y l e);
  named = h.named;
}

pub sure_set_plain : {sc : Context} (x : ℕ) (k : Scalar) → plain_type sc.scope.variables x ≡ Some k → (v : Value)
    → Sure sc (IsGiven (function_count sc) (OfScalar k) v) (set_plain x v) (λ _ o. IsTagged (function_count sc) v o)
sure_set_plain {sc = sc} x k at v = record {
  by = λ s good h. (
    record {
      good = record {
        kept = good.kept;
        low = good.low;
        statics = good.statics;
        homes = good.homes;
        plain = tagged_set _ s.objects v h.0 s.plain x good.plain;
        typed = typed_set _ sc.scope x k v s.plain at h.1 good.typed;
        separate = good.separate;
      };
      lives = lives_same s.objects;
      frame = refl;
      ended = ends_same s.objects;
    },
    h.0,
  );
}

pub sure_update_plain : {sc : Context} {P : Objects → Type 0} (x : ℕ) (u : Update) (k : Scalar) → Updates u k
    → plain_type sc.scope.variables x ≡ Some k → (right : Value) (at : ℕ) (f : Fixity)
    → Sure sc P (update_plain x (updated u k right at) f) (IsGiven (function_count sc) (OfScalar k))
sure_update_plain {sc = sc} x u k w named right at f =
    sure_on (sure_read {Q = IsGiven (function_count sc) (OfScalar k)} {f = plain_value x}
    (λ s good h. (good.plain x, good.typed.value x k (good.typed.named x k named)))) (λ old.
    sure_on (sure_weak (λ o h. (h.1, h.0))
    (sure_updated {P = λ o. IsOfType (function_count sc) k old} u k w right at old)) (λ new.
    sure_on (sure_weak (λ o h. ((h.0.1, (h.0.0, h.1.1)), h.1))
    (sure_frame (stable_beside {A = IsOfType (function_count sc) k old × IsOfType (function_count sc) k new} _ old)
    (sure_set_plain x k named new))) (λ _.
    sure_done {a = given f old new}
    (λ o h. (given_tagged _ f old new o h.0.0 h.1, given_is _ k f old new h.0.1.0 h.0.1.1)))))

-- output and keys

pub sure_put_bytes : {sc : Context} {P : Objects → Type 0} (bytes : List ℕ) → Sure sc P (put_bytes bytes) (λ _. P)
sure_put_bytes bytes = record {
  by = λ s good p. (
    record {
      good = record {
        kept = good.kept;
        low = good.low;
        statics = good.statics;
        homes = good.homes;
        plain = good.plain;
        typed = good.typed;
        separate = good.separate;
      };
      lives = lives_same s.objects;
      frame = refl;
      ended = ends_same s.objects;
    },
    p,
  );
}

key_by : {sc : Context} {P : Objects → Type 0} (line : ℕ) (b : Bool)
    → Sure sc P (choose b (change (λ s. record s { keys = s.keys + 1 })) (stop (Keys line))) (λ _. P)
key_by line true = record {
  by = λ s good p. (
    record {
      good = record {
        kept = good.kept;
        low = good.low;
        statics = good.statics;
        homes = good.homes;
        plain = good.plain;
        typed = good.typed;
        separate = good.separate;
      };
      lives = lives_same s.objects;
      frame = refl;
      ended = ends_same s.objects;
    },
    p,
  );
}
key_by line false = sure_stop

pub sure_take_key : {sc : Context} {P : Objects → Type 0} (g : Setting) (line : ℕ)
    → Sure sc P (take_key g line) (λ _. P)
sure_take_key g line = record { by = λ s good p. (key_by line (nat_lt s.keys g.sizes.budgets.keys)).by s good p }

-- initializers

sure_zero_object : {sc : Context} (o : ℕ) → Sure sc Any (zero_object o) (λ _. Any)
sure_zero_object o =
    sure_on (sure_read {Q = λ _. Any} {f = λ s. (object_at s.objects o).size} (λ s good h. tt)) (λ size.
    sure_on (sure_tally size)
    (λ _. sure_objects (with_zeroed o) (keeps_zeroed o) (continues_zeroed o)
    (λ objects h sound. sound_zeroed o objects sound) (λ objects h. tt)))

sure_zero_home : {sc : Context} (home : Home) → Sure sc Any (zero_home home) (λ _. Any)
sure_zero_home NoObject = sure_skip
sure_zero_home (InObject o) = sure_zero_object o

pub sure_zero_variable : {sc : Context} (x : ℕ) → Sure sc Any (zero_variable x) (λ _. Any)
sure_zero_variable x = sure_on
    (sure_read {Q = λ _. Any} {f = λ s. get_or s.frame x NoObject} (λ s good h. tt)) sure_zero_home
