-- A key that gives a pointer gives it still after an expression that assigns none of the key's variables.
use Rattle.std.proofs.Common.{◌≡◌, ℕ, ◌+◌, ◌*◌, ◌%◌, ◌^◌, ◌<◌, List, [], ◌∷◌, Option, Some, None, Bool, true, false}
use Rattle.std.proofs.Common.{refl, sym, ap, ◌∙◌, subst}
use Rattle.std.specs.Prelude.{◌||◌, get_or, length}
use Rattle.obj_memory.specs.declared.value.Bounds.{Bounds}
use Rattle.obj_memory.specs.declared.value.Tag.{Tag}
use Rattle.obj_memory.specs.declared.value.Tag.TheVariants.{OfObject}
use Rattle.obj_memory.specs.declared.value.Value.{Value}
use Rattle.obj_memory.specs.Objects.{Objects, object_at, pointer_to}
use Rattle.obj_memory.specs.Judgement.{narrowed_tag}
use Rattle.obj_memory.specs.Sound.{Continues, IsSoundTag}
use Rattle.c_tree.specs.Tree.{Expression}
use Rattle.c_tree.specs.Walk.{assigns}
use Rattle.source_meaning.specs.State.{State, Home, NoObject, InObject}
use Rattle.source_meaning.specs.Actions.{plain_value, home_value}
use Rattle.source_meaning.proofs.Stays.{neither}
use Rattle.tac_ir.specs.declared.key.Base.{Base}
use Rattle.tac_ir.specs.declared.key.Base.TheVariants.{Plain, Automatic, Static}
use Rattle.tac_ir.specs.declared.key.Scaled.{Scaled}
use Rattle.tac_ir.specs.declared.key.Member.{Member}
use Rattle.tac_ir.specs.declared.key.Key.{Key}
use Rattle.tac_ir.specs.Keys.{base_value, scaled_value, path_tag}
use Rattle.c_lower.specs.Keys.{assigns_base, assigns_scaled, assigns_path, assigns_key, unless, key_after}
use Rattle.c_lower.proofs.KeyValues.{Right}

-- the pointer to an object that is there
pub pointer_kept : (old new : Objects) → Continues old new → (o : ℕ) → o < length old
    → pointer_to o new ≡ pointer_to o old
unfolding pointer_to
pointer_kept old new c o made =
    ap (λ n. record { word = n; tag = OfObject o (record { base = n; bound = n + (object_at new o).size }) })
    (c.address o made)
    ∙ ap (λ n. record {
      word = (object_at old o).address;
      tag = OfObject o
          (record { base = (object_at old o).address; bound = (object_at old o).address + n });
    }) (c.size o made)

-- narrowing keeps the object of a tag
path_object : (b : Value) (o : ℕ) (r : Bounds) → b.tag ≡ OfObject o r → (path : List Member) (s : State)
    → (q : Bounds) × (path_tag b path s ≡ OfObject o q)
path_object b o r e [] s = (r, e)
path_object b o r e (m ∷ ms) s =
    let h = path_object b o r e ms s in
    (_, ap (λ t. narrowed_tag ((b.word + (m.constant + scaled_value m.scaled s)) % 2 ^ 64) m.size t) h.1)

object_tag : (o : ℕ) (objects : Objects) → (q : Bounds) × ((pointer_to o objects).tag ≡ OfObject o q)
unfolding pointer_to
object_tag o objects = (_, refl)

-- so an object that a sound pointer rests on is there
made_by : (functions : ℕ) (o : ℕ) (path : List Member) (s : State) (t : Tag)
    → t ≡ path_tag (pointer_to o s.objects) path s → IsSoundTag functions s.objects t → o < length s.objects
made_by functions o path s t e sound =
    let h = object_tag o s.objects in
    let p = path_object (pointer_to o s.objects) o h.0 h.1 path s in
    (subst (IsSoundTag functions s.objects) (e ∙ p.1) sound).made

module _ (functions : ℕ) (a : Expression) (s1 s2 : State)
    (stays : (y : ℕ) → assigns y a ≡ false → plain_value y s2 ≡ plain_value y s1) (frame : s2.frame ≡ s1.frame)
    (continues : Continues s1.objects s2.objects) where
  scaled_kept : (v : Option Scaled) → assigns_scaled a v ≡ false → scaled_value v s2 ≡ scaled_value v s1
  scaled_kept None e = refl
  scaled_kept (Some v) e = ap (λ (x : Value). x.word * v.size) (stays v.variable e)

  path_kept : (b : Value) (path : List Member) → assigns_path a path ≡ false → path_tag b path s2 ≡ path_tag b path s1
  path_kept b [] e = refl
  path_kept b (m ∷ ms) e =
      let h = neither (assigns_scaled a m.scaled) (assigns_path a ms) e in
      ap (λ n. narrowed_tag ((b.word + (m.constant + n)) % 2 ^ 64) m.size (path_tag b ms s2)) (scaled_kept m.scaled h.0)
      ∙ ap (λ t. narrowed_tag ((b.word + (m.constant + scaled_value m.scaled s1)) % 2 ^ 64) m.size t)
      (path_kept b ms h.1)

  home_same : (home : Home) → ((o : ℕ) → home ≡ InObject o → o < length s1.objects)
      → home_value home s2.objects ≡ home_value home s1.objects
  home_same NoObject made = refl
  home_same (InObject o) made = pointer_kept s1.objects s2.objects continues o (made o refl)

  base_kept : (b : Base) (path : List Member) (t : Tag) → assigns_base a b ≡ false
      → t ≡ path_tag (base_value b s1) path s1 → IsSoundTag functions s1.objects t → base_value b s2 ≡ base_value b s1
  base_kept (Plain x) path t e is sound = stays x e
  base_kept (Static n) path t e is sound = pointer_kept s1.objects s2.objects continues n
      (made_by functions n path s1 t is sound)
  base_kept (Automatic x) path t e is sound =
      ap (λ f. home_value (get_or f x NoObject) s2.objects) frame
      ∙ home_same (get_or s1.frame x NoObject)
      (λ o h. made_by functions o path s1 t
      (is ∙ ap (λ home. path_tag (home_value home s1.objects) path s1) h) sound)

  right_kept : (key : Key) (v : Value) → assigns_key a key ≡ false → IsSoundTag functions s1.objects v.tag
      → Right key s1 v → Right key s2 v
  right_kept key v e sound h =
      let two = neither (assigns_base a key.base || assigns_scaled a key.scaled) (assigns_path a key.path) e in
      let one = neither (assigns_base a key.base) (assigns_scaled a key.scaled) two.0 in
      let b = base_kept key.base key.path v.tag one.0 h.tag sound in
      record {
        word =
            h.word ∙ sym (ap (λ (b : Value). (b.word + (key.constant + scaled_value key.scaled s2)) % 2 ^ 64) b
            ∙ ap (λ n. ((base_value key.base s1).word + (key.constant + n)) % 2 ^ 64) (scaled_kept key.scaled one.1));
        tag = h.tag ∙ sym (ap (λ (b : Value). path_tag b key.path s2) b
            ∙ path_kept (base_value key.base s1) key.path two.1);
      }

  unless_kept : (q : Bool) (key : Key) (v : Value) → assigns_key a key ≡ q → IsSoundTag functions s1.objects v.tag
      → Right key s1 v → (k : Key) → unless q key ≡ Some k → Right k s2 v
  unless_kept true key v e sound h k is = cc
  unless_kept false key v e sound h k is = let same : key
      ≡ k = cc in subst (λ z. Right z s2 v) same (right_kept key v e sound h)

  pub right_after : (ok : Option Key) (v : Value) → IsSoundTag functions s1.objects v.tag
      → ((k : Key) → ok ≡ Some k → Right k s1 v) → (k : Key) → key_after a ok ≡ Some k → Right k s2 v
  right_after None v sound h k is = cc
  right_after (Some key) v sound h k is = unless_kept (assigns_key a key) key v refl sound (h key refl) k is
