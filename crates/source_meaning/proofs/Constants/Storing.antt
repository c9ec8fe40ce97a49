-- What the parts of a constant initializer leave.
use Rattle.std.proofs.Common.{◌≡◌, ℕ, ◌+◌, ◌-◌, ◌/◌, ◌%◌, ◌^◌, ◌<◌, ◌≤◌, List, [], ◌∷◌, ◌++◌, length, Bool, true, false}
use Rattle.std.proofs.Common.{Option, Some, None, Result, Ok, Err, refl, ap, sym, subst, ◌∙◌, ◌⊎◌, inl, inr, arith}
use Rattle.std.specs.Prelude.{if◌then◌else◌, set}
use Rattle.std.specs.List.{list_all}
use Rattle.std.proofs.lemmas.Bool.{cases_lt, leb-true, and_parts}
use Rattle.std.proofs.lemmas.Grind.{common_steps}
use Rattle.std.proofs.Math.Nat.{mod-eq_of_lt}
use Rattle.byteorder.specs.Endian.{little_bytes}
use Rattle.byteorder.specs.Numbers.{length-bytes_low_first}
use Rattle.behaviours.specs.Shown.{Write}
use Rattle.obj_memory.specs.declared.int_type.IntType.{IntType}
use Rattle.obj_memory.specs.declared.int_type.IntType.TheVariants.{Char, SignedChar, UnsignedChar, Short, UnsignedShort}
use Rattle.obj_memory.specs.declared.int_type.IntType.TheVariants.{Int, UnsignedInt, Long, UnsignedLong, LongLong}
use Rattle.obj_memory.specs.declared.int_type.IntType.TheVariants.{UnsignedLongLong}
use Rattle.obj_memory.specs.declared.value.Scalar.{Scalar}
use Rattle.obj_memory.specs.declared.value.Scalar.TheVariants.{Integer, Pointer}
use Rattle.obj_memory.specs.declared.value.Value.{Value}
use Rattle.obj_memory.specs.declared.value.Place.{Place}
use Rattle.obj_memory.specs.Integers.{size_of}
use Rattle.obj_memory.specs.Objects.{ObjectState, Objects, object_at, pointer_to}
use Rattle.obj_memory.specs.Judgement.{narrowed, named}
use Rattle.obj_memory.specs.Access.{overwrite, is_aligned, scalar_size, write_value}
use Rattle.c_tree.specs.declared.expression.Kind.{Kind}
use Rattle.c_tree.specs.declared.expression.Kind.TheVariants as kind
use Rattle.c_tree.specs.Kinds.{size_of_kind}
use Rattle.c_tree.specs.Tree.{Expression, kind_of, line_of}
use Rattle.c_tree.specs.Statements.{Content, value_content, literal_content, Part}
use Rattle.c_tree.specs.ValidProgram.{content_size}
use Rattle.c_const.specs.Integers.{constant_word}
use Rattle.c_const.specs.Addresses.{Pointers, untagged, address_of}
use Rattle.c_const.specs.Contents.{Contents, with_bytes, with_scalar, constant_in, with_constant, with_content, on_ok}
use Rattle.c_const.specs.Contents.{with_parts, is_inside}
use Rattle.source_meaning.specs.State.{Env, State, Run, Gives, on, ◌>>=◌, ◌>>◌, done, skip}
use Rattle.source_meaning.specs.Actions.{integer, store}
use Rattle.source_meaning.specs.Structures.{give, write_rvalue}
use Rattle.source_meaning.specs.Expressions.{evaluate}
use Rattle.source_meaning.specs.Initializers.{store_bytes, store_content, store_parts}
use Rattle.source_meaning.specs.Acting.{at_work}
use Rattle.source_meaning.specs.Constants.Finding.{Finds, PointTo}
use Rattle.source_meaning.specs.Constants.Leaving.{AreBytes, HasBytes, HaveBytes}
use Rattle.source_meaning.proofs.Constants.Steps.{finds_same, mapped}
use Rattle.source_meaning.proofs.Constants.Integers.{constant_finds}
use Rattle.source_meaning.proofs.Constants.Addresses.{address_finds}
use Rattle.source_meaning.proofs.Constants.Overwriting.{length_overwrite, more_elements}
use Rattle.source_meaning.proofs.Constants.Changes.{contents_of, Changed, changed_none, changed_then, changed_contents}
use Rattle.source_meaning.proofs.Constants.Changes.{scalar_changes, own_pointer, other_pointer}

-- a run leaves an object with these contents, and all others as they were
pub record Leaves (r : Run (Unit {0})) (n : ℕ) (c : Contents) (s : State) : Type 0 where
  pub after : State
  pub gives : r s ≡ Gives tt after
  pub changed : Changed n c s.objects after.objects

pub leaves_then : {r q : Run (Unit {0})} {n : ℕ} {c d : Contents} {s : State} → (h : Leaves r n c s)
    → Leaves q n d h.after → Leaves (r >> q) n d s
leaves_then {q = q} h g = record {
  after = g.after;
  gives = ap (λ o. on o (λ _. q)) h.gives ∙ g.gives;
  changed = changed_then h.changed g.changed;
}

pub leaves_same : {r : Run (Unit {0})} {n : ℕ} {c d : Contents} {s : State} → c ≡ d → Leaves r n c s → Leaves r n d s
leaves_same {r = r} {n = n} {s = s} e h = let P : Contents → Type 0 = λ x. Leaves r n x s in subst P e h

pub leaves_skip : (n : ℕ) (s : State) → Leaves skip n (contents_of (object_at s.objects n)) s
leaves_skip n s = record { after = s; gives = refl; changed = changed_none n s.objects }

-- a scalar is stored where its offset says

abbrev stored_at : State → Scalar → Value → (address : ℕ) → Place → State
stored_at s k v address p = record s {
  accesses = s.accesses ++ (record { address = address; size = scalar_size k; kind = Write } ∷ []);
  objects = write_value k v p s.objects;
}

abbrev address_in : ObjectState → (offset : ℕ) → ℕ
address_in o offset = (o.address + offset) % 2 ^ 64

store_gives : (k : Scalar) (v : Value) (n offset line : ℕ) (s : State)
    → store k false (narrowed offset (scalar_size k) (pointer_to n s.objects)) line v s
    ≡ Gives tt (stored_at s k v (address_in (object_at s.objects n) offset)
    (record { object = n; offset = address_in (object_at s.objects n) offset - (object_at s.objects n).address }))
unfolding narrowed named pointer_to
store_gives k v n offset line s = refl

offset_stays : (address offset : ℕ) → address + offset < 2 ^ 64 → (address + offset) % 2 ^ 64 - address ≡ offset
offset_stays address offset h = let e : (address + offset) % 2 ^ 64 ≡ address
    + offset = mod-eq_of_lt h in omega (arith, e)

store_leaves : (k : Scalar) (v : Value) (n offset line : ℕ) (s : State) → n < length s.objects
    → (object_at s.objects n).address + offset < 2 ^ 64
    → Leaves (store k false (narrowed offset (scalar_size k) (pointer_to n s.objects)) line v) n
    (with_scalar k offset v (contents_of (object_at s.objects n))) s
store_leaves k v n offset line s made low =
    let o = object_at s.objects n in
    let P : ℕ → Type 0 = λ i. Changed n (with_scalar k offset v (contents_of o)) s.objects
    (write_value k v (record { object = n; offset = i }) s.objects) in
    record {
      after = _;
      gives = store_gives k v n offset line s;
      changed = subst P (sym (offset_stays o.address offset low)) (scalar_changes k v n offset s.objects made);
    }

-- contents keep their size

length_little : (k w : ℕ) → length (little_bytes k w) ≡ k
length_little k w = length-bytes_low_first 0 k w

length_tagged_by : (b : Bool) (c d : Contents) → length c.bytes ≡ length d.bytes
    → length (if b then c else d).bytes ≡ length d.bytes
length_tagged_by true c d e = e
length_tagged_by false c d e = refl

length_scalar : (k : Scalar) (offset : ℕ) (v : Value) (c : Contents) → offset + scalar_size k ≤ length c.bytes
    → length (with_scalar k offset v c).bytes ≡ length c.bytes
length_scalar (Integer t) offset v c h =
    let e = length_little (size_of t) v.word in length_overwrite offset (little_bytes (size_of t) v.word) c.bytes
    (omega (arith, e, h))
length_scalar Pointer offset v c h =
    let e = length_little 8 v.word in
    let d = with_bytes offset (little_bytes 8 v.word) c in
    length_tagged_by (is_aligned offset) (record { bytes = d.bytes; tags = set d.tags (offset / 8) v.tag }) d refl
    ∙ length_overwrite offset (little_bytes 8 v.word) c.bytes (omega (arith, e, h))

-- the bytes of a literal

no_bytes : (offset : ℕ) (c : Contents) → with_bytes offset [] c ≡ c
no_bytes offset c = let e : overwrite offset [] c.bytes
    ≡ c.bytes = grind (arith, common_steps) in ap (λ bs. record { bytes = bs; tags = c.tags }) e

one_byte : (b : ℕ) → b < 256 → little_bytes (size_of Char) b ≡ b ∷ []
unfolding size_of
one_byte b h = ap (λ i. i ∷ []) (mod-eq_of_lt h)

char_size : scalar_size (Integer Char) ≡ 1
unfolding size_of
char_size = refl

bytes_leave : (bs : List ℕ) (n offset : ℕ) (p : Value) (s : State) → p ≡ pointer_to n s.objects → AreBytes bs
    → n < length s.objects
    → offset + length bs ≤ length (object_at s.objects n).bytes
    → (object_at s.objects n).address + length (object_at s.objects n).bytes ≤ 2 ^ 64
    → Leaves (store_bytes p offset bs) n (with_bytes offset bs (contents_of (object_at s.objects n))) s
bytes_leave [] n offset p s at small made inside low =
    leaves_same (sym (no_bytes offset (contents_of (object_at s.objects n)))) (leaves_skip n s)
bytes_leave (b ∷ bs) n offset p s at small made inside low =
    let c = contents_of (object_at s.objects n) in
    let d = with_bytes offset (b ∷ []) c in
    let byte : with_scalar (Integer Char) offset (integer b) c
    ≡ d = ap (λ i. with_bytes offset i c) (one_byte b small.0) in
    let P : Value → ℕ → Type 0 = λ q i. Leaves (store (Integer Char) false (narrowed offset i q) 0 (integer b)) n d s in
    let stored : Leaves (store (Integer Char) false (narrowed offset 1 p) 0 (integer b)) n d s =
    subst (λ q. P q 1) (sym at) (subst (P (pointer_to n s.objects)) char_size
    (leaves_same byte (store_leaves (Integer Char) (integer b) n offset 0 s made (omega (arith, inside, low))))) in
    let own = stored.changed.own in
    let long : length d.bytes ≡ length c.bytes = length_overwrite offset (b ∷ []) c.bytes (omega (arith, inside)) in
    let long_after : length (object_at stored.after.objects n).bytes
    ≡ length c.bytes = ap (λ (o : ObjectState). length o.bytes) own ∙ long in
    let address : (object_at stored.after.objects n).address
    ≡ (object_at s.objects n).address = ap (λ (o : ObjectState). o.address) own in
    let rest = bytes_leave bs n (offset + 1) p stored.after (at ∙ sym (own_pointer stored.changed)) small.1
    (omega (arith, made, stored.changed.count)) (omega (arith, inside, long_after))
    (omega (arith, low, long_after, address)) in
    let all : with_bytes (offset + 1) bs (contents_of (object_at stored.after.objects n))
    ≡ with_bytes offset (b ∷ bs) c =
    ap (with_bytes (offset + 1) bs) (changed_contents stored.changed)
    ∙ ap (λ i. record { bytes = i; tags = c.tags }) (more_elements offset b bs c.bytes (omega (arith, inside))) in
    leaves_then stored (leaves_same all rest)

-- values

abbrev value_run : Env → (object : Value) → (offset : ℕ) → Kind → (line : ℕ) → Expression → Run (Unit {0})
value_run env p offset k line e =
    evaluate env e >>= (λ v. write_rvalue k false (narrowed offset (size_of_kind k) p) line v >> skip)

value_leaves : (env : Env) (e : Expression) (k : Scalar) (v : Value) (n offset line : ℕ) (s : State)
    → Finds (evaluate env e) v s
    → n < length s.objects → (object_at s.objects n).address + offset < 2 ^ 64
    → Leaves (value_run env (pointer_to n s.objects) offset (kind.Scalar k) line e) n
    (with_scalar k offset v (contents_of (object_at s.objects n))) s
value_leaves env e k v n offset line s found made low =
    let stored = store_leaves k v n offset line (at_work found.work s) made low in
    let q = narrowed offset (scalar_size k) (pointer_to n s.objects) in
    record {
      after = stored.after;
      gives = ap (λ o. on o (λ x. write_rvalue (kind.Scalar k) false q line x >> skip)) found.gives
          ∙ ap (λ o. on (on (on o (λ _. done v)) (λ x. give x)) (λ _. skip)) stored.gives;
      changed = stored.changed;
    }

some_size : (t : IntType) → 1 ≤ size_of t
unfolding size_of
some_size Char = omega arith
some_size SignedChar = omega arith
some_size UnsignedChar = omega arith
some_size Short = omega arith
some_size UnsignedShort = omega arith
some_size Int = omega arith
some_size UnsignedInt = omega arith
some_size Long = omega arith
some_size UnsignedLong = omega arith
some_size LongLong = omega arith
some_size UnsignedLongLong = omega arith

scalar_is_some : (k : Scalar) → 1 ≤ scalar_size k
scalar_is_some (Integer t) = some_size t
scalar_is_some Pointer = omega arith

-- what is constant, with its scalar type
record IsScalar (ps : Pointers) (env : Env) (e : Expression) (k : Kind) (c : Scalar × Value) : Type 0 where
  kind : k ≡ kind.Scalar c.0
  finds : (s : State) → PointTo ps s.objects → Finds (evaluate env e) c.1 s

kind_in : (ps : Pointers) (e : Expression) (k : Kind) (c : Scalar × Value) → constant_in ps k e ≡ Some c
    → k ≡ kind.Scalar c.0
kind_in ps e (kind.Scalar (Integer t)) c h =
    let m = mapped (λ w. let r : Scalar × Value = (Integer t, untagged w) in r) (constant_word e) c h in
    ap (λ (r : Scalar × Value). kind.Scalar r.0) m.to
kind_in ps e (kind.Scalar Pointer) c h =
    let m = mapped (λ v. let r : Scalar × Value = (Pointer, v) in r) (address_of ps e) c h in
    ap (λ (r : Scalar × Value). kind.Scalar r.0) m.to
kind_in ps e kind.Void c h = absurd cc
kind_in ps e (kind.Structure size) c h = absurd cc
kind_in ps e (kind.Array size) c h = absurd cc

is_scalar : (ps : Pointers) (env : Env) (e : Expression) (k : Kind) (c : Scalar × Value) → constant_in ps k e ≡ Some c
    → IsScalar ps env e k c
is_scalar ps env e (kind.Scalar (Integer t)) c h =
    let m = mapped (λ w. let r : Scalar × Value = (Integer t, untagged w) in r) (constant_word e) c h in
    record {
      kind = kind_in ps e _ c h;
      finds = λ s at. finds_same (ap (λ (r : Scalar × Value). r.1) m.to) (constant_finds env e m.from s m.is_from);
    }
is_scalar ps env e (kind.Scalar Pointer) c h =
    let m = mapped (λ v. let r : Scalar × Value = (Pointer, v) in r) (address_of ps e) c h in
    record {
      kind = kind_in ps e _ c h;
      finds = λ s at. finds_same (ap (λ (r : Scalar × Value). r.1) m.to) (address_finds env ps e m.from s at m.is_from);
    }
is_scalar ps env e kind.Void c h = absurd cc
is_scalar ps env e (kind.Structure size) c h = absurd cc
is_scalar ps env e (kind.Array size) c h = absurd cc

pub record IsStored (offset : ℕ) (o : Option (Scalar × Value)) (c d : Contents) : Type 0 where
  pub constant : Scalar × Value
  pub is_constant : o ≡ Some constant
  pub to : with_scalar constant.0 offset constant.1 c ≡ d

ok_injective : {x y : Contents} → (let r : Result Contents ℕ = Ok x in r) ≡ Ok y → x ≡ y
ok_injective e = cc

pub is_stored : (offset line : ℕ) (o : Option (Scalar × Value)) (c d : Contents) → with_constant offset line o c ≡ Ok d
    → IsStored offset o c d
is_stored offset line None c d e = absurd cc
is_stored offset line (Some v) c d e = record { constant = v; is_constant = refl; to = ok_injective e }

-- an object that stands where its bytes have addresses, and pointers to all objects
pub record Stands (ps : Pointers) (n : ℕ) (s : State) : Type 0 where
  pub made : n < length s.objects
  pub low : (object_at s.objects n).address + length (object_at s.objects n).bytes ≤ 2 ^ 64
  pub pointers : PointTo ps s.objects

content_leaves : (ps : Pointers) (env : Env) (n : ℕ) (p : Value) (s : State) (offset : ℕ) (content : Content)
    (d : Contents)
    → p ≡ pointer_to n s.objects → Stands ps n s → HasBytes content
    → offset + content_size content ≤ length (object_at s.objects n).bytes
    → with_content ps offset content (contents_of (object_at s.objects n)) ≡ Ok d
    → Leaves (store_content env p offset content) n d s
content_leaves ps env n p s offset (value_content e) d at stands small inside h =
    let c = contents_of (object_at s.objects n) in
    let i = is_stored offset (line_of e) (constant_in ps (kind_of e) e) c d h in
    let k = is_scalar ps env e (kind_of e) i.constant i.is_constant in
    let some = scalar_is_some i.constant.0 in
    let size : size_of_kind (kind_of e) ≡ scalar_size i.constant.0 = ap size_of_kind k.kind in
    let P : Value → Kind → Type 0 = λ q j. Leaves (value_run env q offset j (line_of e) e) n d s in
    subst (λ q. P q (kind_of e)) (sym at) (subst (P (pointer_to n s.objects)) (sym k.kind)
    (leaves_same i.to (value_leaves env e i.constant.0 i.constant.1 n offset (line_of e) s
    (k.finds s stands.pointers) stands.made
    (let low = stands.low in omega (arith, some, size, inside, low)))))
content_leaves ps env n p s offset (literal_content bytes) d at stands small inside h =
    let stored = bytes_leave bytes n offset p (at_work (s.work + (1 + length bytes)) s) at small stands.made inside
    stands.low in
    leaves_same (ok_injective h) (record { after = stored.after; gives = stored.gives; changed = stored.changed })

content_length : (ps : Pointers) (offset : ℕ) (content : Content) (c d : Contents)
    → offset + content_size content ≤ length c.bytes
    → with_content ps offset content c ≡ Ok d → length d.bytes ≡ length c.bytes
content_length ps offset (value_content e) c d inside h =
    let i = is_stored offset (line_of e) (constant_in ps (kind_of e) e) c d h in
    let k = kind_in ps e (kind_of e) i.constant i.is_constant in
    let size : size_of_kind (kind_of e) ≡ scalar_size i.constant.0 = ap size_of_kind k in
    ap (λ (x : Contents). length x.bytes) (sym i.to)
    ∙ length_scalar i.constant.0 offset i.constant.1 c (omega (arith, size, inside))
content_length ps offset (literal_content bytes) c d inside h =
    ap (λ (x : Contents). length x.bytes) (sym (ok_injective h)) ∙ length_overwrite offset bytes c.bytes inside

-- parts in their order

pub record IsThen (o : Result Contents ℕ) (next : Contents → Result Contents ℕ) (d : Contents) : Type 0 where
  pub between : Contents
  pub is_between : o ≡ Ok between
  pub rest : next between ≡ Ok d

pub is_then : (o : Result Contents ℕ) (next : Contents → Result Contents ℕ) (d : Contents) → on_ok o next ≡ Ok d
    → IsThen o next d
is_then (Ok c) next d e = record { between = c; is_between = refl; rest = e }
is_then (Err line) next d e = absurd cc

-- pointers to all objects stay where one changes

pointer_by : {n : ℕ} {c : Contents} {old new : Objects} (m : ℕ) → (m < n) ⊎ (n ≤ m) → (n < m) ⊎ (m ≤ n)
    → Changed n c old new
    → pointer_to m new ≡ pointer_to m old
pointer_by {n = n} m (inl less) more h = other_pointer m (λ e. absurd (omega (arith, e, less))) h
pointer_by {n = n} m (inr le) (inl less) h = other_pointer m (λ e. absurd (omega (arith, e, less))) h
pointer_by {n = n} {old = old} {new = new} m (inr le) (inr ge) h =
    let same : n ≡ m = omega (arith, le, ge) in
    let P : ℕ → Type 0 = λ i. pointer_to i new ≡ pointer_to i old in
    subst P same (own_pointer h)

pub pointers_stay : {ps : Pointers} {n : ℕ} {c : Contents} {old new : Objects} → Changed n c old new → PointTo ps old
    → PointTo ps new
pointers_stay {n = n} h at = record {
  statics = λ m v e. at.statics m v e ∙ sym (pointer_by m (cases_lt m n) (cases_lt n m) h);
  functions = at.functions;
}

-- what stands goes on standing
pub stands_on : {ps : Pointers} {n : ℕ} {c : Contents} {s s' : State} → Changed n c s.objects s'.objects
    → length c.bytes ≡ length (object_at s.objects n).bytes → Stands ps n s → Stands ps n s'
stands_on {n = n} {c = c} {s = s} {s' = s'} h long stands =
    let address : (object_at s'.objects n).address
    ≡ (object_at s.objects n).address = ap (λ (o : ObjectState). o.address) h.own in
    let bytes : length (object_at s'.objects n).bytes
    ≡ length c.bytes = ap (λ (o : ObjectState). length o.bytes) h.own in
    let made = stands.made in
    let low = stands.low in
    let count = h.count in
    record {
      made = omega (arith, made, count);
      low = omega (arith, low, address, bytes, long);
      pointers = pointers_stay h stands.pointers;
    }

pub parts_leave : (ps : Pointers) (env : Env) (n : ℕ) (p : Value) (size : ℕ) (qs : List Part) (s : State) (d : Contents)
    → p ≡ pointer_to n s.objects → Stands ps n s → HaveBytes qs → size ≡ length (object_at s.objects n).bytes
    → list_all (is_inside size) qs ≡ true
    → with_parts ps qs (contents_of (object_at s.objects n)) ≡ Ok d
    → Leaves (store_parts env p qs) n d s
parts_leave ps env n p size [] s d at stands small long inside h = leaves_same (ok_injective h) (leaves_skip n s)
parts_leave ps env n p size (q ∷ qs) s d at stands small long inside h =
    let c = contents_of (object_at s.objects n) in
    let i = and_parts (is_inside size q) (list_all (is_inside size) qs) inside in
    let fits : q.offset + content_size q.content ≤ size = leb-true (q.offset + content_size q.content) size i.0 in
    let t = is_then (with_content ps q.offset q.content c) (with_parts ps qs) d h in
    let first = content_leaves ps env n p s q.offset q.content t.between at stands small.0 (omega (arith, fits, long))
    t.is_between in
    let kept = content_length ps q.offset q.content c t.between (omega (arith, fits, long)) t.is_between in
    let bytes : length (object_at first.after.objects n).bytes ≡ length t.between.bytes =
    ap (λ (o : ObjectState). length o.bytes) first.changed.own in
    let next : with_parts ps qs (contents_of (object_at first.after.objects n)) ≡ Ok d =
    ap (with_parts ps qs) (changed_contents first.changed) ∙ t.rest in
    leaves_then first (parts_leave ps env n p size qs first.after d (at ∙ sym (own_pointer first.changed))
    (stands_on first.changed kept stands) small.1 (omega (arith, long, kept, bytes)) i.1 next)
