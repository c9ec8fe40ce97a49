-- The key of an lvalue gives its pointer: shown of the source alone. What has a key changes nothing but the count of
-- work.
use Rattle.std.proofs.Common.{◌≡◌, ℕ, ◌+◌, ◌-◌, ◌*◌, ◌%◌, ◌^◌, List, [], ◌∷◌, Option, Some, None, Bool, true, false}
use Rattle.std.proofs.Common.{refl, sym, ap, ◌∙◌, subst, arith, eq-eqb}
use Rattle.std.specs.Prelude.{◌&&◌, ◌==◌, slice_get}
use Rattle.obj_memory.specs.declared.value.Tag.{Tag}
use Rattle.obj_memory.specs.declared.value.Tag.TheVariants.{Untagged, OfFunction, OfObject}
use Rattle.obj_memory.specs.declared.value.Value.{Value}
use Rattle.obj_memory.specs.declared.value.Scalar.TheVariants.{Integer, Pointer}
use Rattle.obj_memory.specs.Objects.{pointer_to}
use Rattle.obj_memory.specs.Judgement.{moved, narrowed, narrowed_tag}
use Rattle.c_tree.specs.declared.expression.Kind.{Kind}
use Rattle.c_tree.specs.declared.expression.Kind.TheVariants.{Void, Scalar as OfScalar, Structure, Array}
use Rattle.c_tree.specs.declared.expression.OffsetForm.TheVariants.{PointerPlusIndex, IndexPlusPointer}
use Rattle.c_tree.specs.declared.expression.OffsetForm.TheVariants.{PointerMinusIndex}
use Rattle.c_tree.specs.Tree.{Expression, expression, Lvalue, lvalue, Node, plain, decay, address, parenthesized, cast}
use Rattle.c_tree.specs.Tree.{convert, offset_by, LvalueNode, automatic, static, deref, index, member, arrow}
use Rattle.c_tree.specs.Tree.{parenthesized_lvalue}
use Rattle.c_const.specs.Integers.{constant_word}
use Rattle.source_meaning.specs.State.{State, Rvalue, Gives, Run, on, ◌>>=◌, Env}
use Rattle.source_meaning.specs.Actions.{integer, offset_value, plain_value, home_pointer}
use Rattle.source_meaning.specs.Structures.{rvalue, give, as_pointer}
use Rattle.source_meaning.specs.Expressions.{counted, evaluate, value, place, node_place}
use Rattle.source_meaning.specs.Acting.{at_work}
use Rattle.source_meaning.proofs.Constants.Integers.{constant_finds}
use Rattle.tac_ir.specs.declared.key.Base.{Base}
use Rattle.tac_ir.specs.declared.key.Base.TheVariants.{Plain, Automatic, Static}
use Rattle.tac_ir.specs.declared.key.Scaled.{Scaled}
use Rattle.tac_ir.specs.declared.key.Key.{Key}
use Rattle.tac_ir.specs.Stage.{Stage}
use Rattle.tac_ir.specs.Keys.{base_value, scaled_value, path_tag, key_word, key_tag, same_tag, gives}
use Rattle.tac_ir.proofs.KeyWork.{word_work, tag_work}
use Rattle.tac_ir.specs.Accesses.{only_if}
use Rattle.tac_ir.specs.Meaning.{keyed_by, keyed}
use Rattle.c_lower.specs.Keys.{variable_of, variable_node, Index, OfConstant, OfVariable, OfOther, index_by, index_of}
use Rattle.c_lower.specs.Keys.{named_key, moved_key, scaled_key, key_plus, key_minus, member_key, pointer_key, node_key}
use Rattle.c_lower.specs.Keys.{place_key, lvalue_key}
use Rattle.c_lower.specs.Values.{KeyIs}

-- what a key gives

-- it gives a pointer: the address modulo 2^64, and the tag
pub record Right (key : Key) (s : State) (v : Value) : Type 0 where
  pub word : v.word % 2 ^ 64 ≡ key_word key s
  pub tag : v.tag ≡ key_tag key s

same_tags : (t : Tag) → same_tag t t ≡ true
same_tags Untagged = refl
same_tags (OfFunction f) = eq-eqb f f refl
same_tags (OfObject o b) =
    ap (λ q. q && (b.base == b.base && b.bound == b.bound)) (eq-eqb o o refl)
    ∙ ap (λ q. q && b.bound == b.bound) (eq-eqb b.base b.base refl) ∙ eq-eqb b.bound b.bound refl

pub right_gives : (key : Key) (s : State) (v : Value) → Right key s v → gives key s v ≡ true
right_gives key s v h =
    ap (λ q. q && same_tag v.tag (key_tag key s)) (eq-eqb _ _ h.word)
    ∙ ap (λ t. same_tag v.tag t) (sym h.tag) ∙ same_tags v.tag

-- the count of work plays no part
right_work : (key : Key) (k : ℕ) (s : State) (v : Value) → Right key s v → Right key (at_work k s) v
right_work key k s v h = record { word = h.word ∙ sym (word_work key k s); tag = h.tag ∙ sym (tag_work key k s) }

-- in the table
pub key_opens : (keys : List Key) (key : Option ℕ) (ok : Option Key) (s : State) (v : Value) → KeyIs keys key ok
    → ((k : Key) → ok ≡ Some k → Right k s v) → (k : ℕ) (next : Stage) → keyed keys key (at_work k s) v next ≡ next
key_opens keys None ok s v is right k next = refl
key_opens keys (Some n) None s v is right k next = absurd is
key_opens keys (Some n) (Some key) s v is right k next =
    ap (λ o. keyed_by o (at_work k s) v next) is
    ∙ ap (λ b. only_if b next) (right_gives key (at_work k s) v (right_work key k s v (right key refl)))

-- sums

sum_moved : (w m b c d : ℕ) → w % 2 ^ 64 ≡ (b + (c + d)) % 2 ^ 64
    → ((w + m) % 2 ^ 64) % 2 ^ 64 ≡ (b + ((c + m) % 2 ^ 64 + d)) % 2 ^ 64
sum_moved w m b c d h = omega (arith, h)

sum_scaled : (w m b c : ℕ) → w % 2 ^ 64 ≡ (b + (c + 0)) % 2 ^ 64 → ((w + m) % 2 ^ 64) % 2 ^ 64 ≡ (b + (c + m)) % 2 ^ 64
sum_scaled w m b c h = omega (arith, h)

sum_narrowed : (w m b c d : ℕ) → w % 2 ^ 64 ≡ (b + (c + d)) % 2 ^ 64
    → (w + m) % 2 ^ 64 ≡ (b + ((c + m) % 2 ^ 64 + d)) % 2 ^ 64
sum_narrowed w m b c d h = omega (arith, h)

right_base : (b : Base) (s : State)
    → Right (record { base = b; path = []; constant = 0; scaled = None }) s (base_value b s)
right_base b s = record { word = ap (λ n. n % 2 ^ 64) (omega arith); tag = refl }

right_moved : (key : Key) (m : ℕ) (s : State) (v : Value) → Right key s v → Right (moved_key m key) s (moved m v)
unfolding moved
right_moved key m s v h = record {
  word = sum_moved v.word m (base_value key.base s).word key.constant (scaled_value key.scaled s) h.word;
  tag =
      h.tag;
}

right_scaled : (key : Key) → key.scaled ≡ None → (x size : ℕ) (s : State) (v : Value) → Right key s v
    → Right (record {
      base = key.base;
      path = key.path;
      constant = key.constant;
      scaled = Some
          (record { variable = x; size = size });
    }) s (moved ((plain_value x s).word * size) v)
unfolding moved
right_scaled key none x size s v h = record {
  word =
      let b = (base_value key.base s).word in
      let before = h.word ∙ ap (λ o. (b + (key.constant + scaled_value o s)) % 2 ^ 64) none in
      sum_scaled v.word ((plain_value x s).word * size) b key.constant before;
  tag = h.tag;
}

-- what a run gives that has a word, a variable's value or a key

pub record Makes (w : ℕ) (r : Run Rvalue) : Type 0 where
  pub by : (s : State) → (n : ℕ) × (r s ≡ Gives (rvalue (integer w)) (at_work n s))

abbrev MakesIf : Option ℕ → Run Rvalue → Type 0
MakesIf None r = Unit {0}
MakesIf (Some w) r = Makes w r

record MakesVariable (x : ℕ) (r : Run Rvalue) : Type 0 where
  by : (s : State) → (n : ℕ) × (r s ≡ Gives (rvalue (plain_value x s)) (at_work n s))

abbrev VariableIf : Option ℕ → Run Rvalue → Type 0
VariableIf None r = Unit {0}
VariableIf (Some x) r = MakesVariable x r

abbrev IndexIs : Index → Run Rvalue → Type 0
IndexIs (OfConstant w) r = Makes w r
IndexIs (OfVariable x) r = MakesVariable x r
IndexIs OfOther r = Unit {0}

pub record Found (key : Key) (r : Run Rvalue) : Type 0 where
  pub by : (s : State) → (v : Value) × (n : ℕ) × (r s ≡ Gives (rvalue v) (at_work n s)) × Right key s v

abbrev pub FoundIf : Option Key → Run Rvalue → Type 0
FoundIf None r = Unit {0}
FoundIf (Some key) r = Found key r

-- integer constant expressions

constant_by : (env : Env) (e : Expression) (o : Option ℕ) → constant_word e ≡ o → MakesIf o (evaluate env e)
constant_by env e None is = tt
constant_by env e (Some w) is = record {
  by = λ s. let found = constant_finds env e w s is in (found.work, found.gives);
}

constant_makes : (env : Env) (e : Expression) → MakesIf (constant_word e) (evaluate env e)
constant_makes env e = constant_by env e (constant_word e) refl

-- plain variables

variable_counted : (o : Option ℕ) (r : Run Rvalue) → VariableIf o r → VariableIf o (counted r)
variable_counted None r h = tt
variable_counted (Some x) r h = record { by = λ s. h.by (record s { work = s.work + 1 }) }

-- keys

found_counted : (ok : Option Key) (r : Run Rvalue) → FoundIf ok r → FoundIf ok (counted r)
found_counted None r h = tt
found_counted (Some key) r h = record {
  by = λ s.
      let q = h.by (record s { work = s.work + 1 }) in
      (q.0, q.1, q.2, right_work key s.work (record s { work = s.work + 1 }) q.0 q.3);
}

found_pointer : (ok : Option Key) (r : Run Rvalue) → FoundIf ok r → FoundIf ok (as_pointer r)
found_pointer None r h = tt
found_pointer (Some key) r h = record
    { by = λ s. let q = h.by s in (q.0, q.1, ap (λ o. on o (λ v. give v.value)) q.2, q.3) }

-- a pointer and then an index, and an index and then a pointer
found_plus : (ok : Option Key) (i : Index) (size : ℕ) (r r' : Run Rvalue) → FoundIf ok r → IndexIs i r'
    → FoundIf (key_plus ok i size)
    (r >>= (λ x. r' >>= (λ y. give (offset_value PointerPlusIndex size x.value y.value))))
found_plus None i size r r' h h' = tt
found_plus (Some key) OfOther size r r' h h' = tt
found_plus (Some key) (OfConstant w) size r r' h h' = record {
  by = λ s.
      let q = h.by s in
      let p = h'.by (at_work q.1 s) in (
        moved (w * size) q.0,
        p.0,
        ap
            (λ o. on o (λ x. r' >>= (λ y. give (offset_value PointerPlusIndex size x.value y.value)))) q.2
            ∙ ap (λ o. on o (λ y. give (offset_value PointerPlusIndex size q.0 y.value))) p.1,
        right_moved key (w * size)
            s q.0 q.3,
      );
}
found_plus (Some key) (OfVariable x) size r r' h h' = by key.scaled refl
  where
    f : Rvalue → Run Rvalue
    f v = r' >>= (λ y. give (offset_value PointerPlusIndex size v.value y.value))

    by : (o : Option Scaled) → key.scaled ≡ o → FoundIf (scaled_key o key x size) (r >>= f)
    by (Some v) e = tt
    by None e = record {
      by = λ s.
          let q = h.by s in
          let p = h'.by (at_work q.1 s) in (
            moved ((plain_value x s).word * size) q.0,
            p.0,
            ap (λ o. on o f) q.2
                ∙ ap (λ o. on o (λ y. give (offset_value PointerPlusIndex size q.0 y.value))) p.1,
            right_scaled key e x
                size s q.0 q.3,
          );
    }

found_index : (ok : Option Key) (i : Index) (size : ℕ) (r r' : Run Rvalue) → FoundIf ok r → IndexIs i r'
    → FoundIf (key_plus ok i size)
    (r' >>= (λ y. r >>= (λ x. give (offset_value IndexPlusPointer size y.value x.value))))
found_index None i size r r' h h' = tt
found_index (Some key) OfOther size r r' h h' = tt
found_index (Some key) (OfConstant w) size r r' h h' = record {
  by = λ s.
      let p = h'.by s in
      let q = h.by (at_work p.0 s) in (
        moved (w * size) q.0,
        q.1,
        ap
            (λ o. on o (λ y. r >>= (λ x. give (offset_value IndexPlusPointer size y.value x.value)))) p.1
            ∙ ap (λ o. on o (λ x. give (offset_value IndexPlusPointer size (integer w) x.value))) q.2,
        right_moved key
            (w * size) s q.0 (right_work key s.work (at_work p.0 s) q.0 q.3),
      );
}
found_index (Some key) (OfVariable x) size r r' h h' = by key.scaled refl
  where
    f : Rvalue → Run Rvalue
    f y = r >>= (λ v. give (offset_value IndexPlusPointer size y.value v.value))

    by : (o : Option Scaled) → key.scaled ≡ o → FoundIf (scaled_key o key x size) (r' >>= f)
    by (Some v) e = tt
    by None e = record {
      by = λ s.
          let p = h'.by s in
          let q = h.by (at_work p.0 s) in (
            moved ((plain_value x s).word * size) q.0,
            q.1,
            ap (λ o. on o f) p.1
                ∙ ap (λ o. on o (λ v. give (offset_value IndexPlusPointer size (plain_value x s) v.value))) q.2,
            right_scaled key e x size s q.0 (right_work key s.work (at_work p.0 s) q.0 q.3),
          );
    }

found_minus : (ok : Option Key) (i : Index) (size : ℕ) (r r' : Run Rvalue) → FoundIf ok r → IndexIs i r'
    → FoundIf (key_minus ok i size)
    (r >>= (λ x. r' >>= (λ y. give (offset_value PointerMinusIndex size x.value y.value))))
found_minus None i size r r' h h' = tt
found_minus (Some key) OfOther size r r' h h' = tt
found_minus (Some key) (OfVariable x) size r r' h h' = tt
found_minus (Some key) (OfConstant w) size r r' h h' = record {
  by = λ s.
      let q = h.by s in
      let p = h'.by (at_work q.1 s) in (
        moved (2 ^ 64 - w * size % 2 ^ 64) q.0,
        p.0,
        ap
            (λ o. on o (λ x. r' >>= (λ y. give (offset_value PointerMinusIndex size x.value y.value)))) q.2
            ∙ ap (λ o. on o (λ y. give (offset_value PointerMinusIndex size q.0 y.value))) p.1,
        right_moved key
            (2 ^ 64 - w * size % 2 ^ 64) s q.0 q.3,
      );
}

right_member : (key : Key) (offset size : ℕ) (s : State) (v : Value) → Right key s v
    → Right (record {
      base = key.base;
      path = record
          { constant = (key.constant + offset) % 2 ^ 64; scaled = key.scaled; size = size }
          ∷ key.path;
      constant = (key.constant + offset) % 2 ^ 64;
      scaled = key.scaled;
    }) s (narrowed offset size v)
unfolding narrowed
right_member key offset size s v h =
    let b = base_value key.base s in
    let at = sum_narrowed v.word offset b.word key.constant (scaled_value key.scaled s) h.word in
    record {
      word = sum_moved v.word offset b.word key.constant (scaled_value key.scaled s) h.word;
      tag = ap (λ t. narrowed_tag ((v.word + offset) % 2 ^ 64) size t) h.tag
          ∙ ap (λ n. narrowed_tag n size (path_tag b key.path s)) at;
    }

found_member : (ok : Option Key) (offset size : ℕ) (r : Run Rvalue) (f : Rvalue → Run Rvalue)
    → ((v : Value) (s : State) → f (rvalue v) s ≡ Gives (rvalue (narrowed offset size v)) s) → FoundIf ok r
    → FoundIf (member_key ok offset size) (r >>= f)
found_member None offset size r f gives h = tt
found_member (Some key) offset size r f gives h = record {
  by = λ s.
      let q = h.by s in (
        narrowed offset size q.0,
        q.1,
        ap (λ o. on o f) q.2
            ∙ gives q.0 (at_work q.1 s),
        right_member key offset size s q.0 q.3,
      );
}

-- the name of a static object, which a string literal has not
static_found : (env : Env) (n : ℕ) (is_literal : Option Bool)
    → FoundIf (named_key is_literal n) (node_place env (static n))
static_found env n None = tt
static_found env n (Some true) = tt
static_found env n (Some false) = record {
  by = λ s. (pointer_to n s.objects, s.work + 1, refl, right_base (Static n) s);
}

module _ (env : Env) (ls : List Bool) where
  mutual
    variable_made : (e : Expression) → VariableIf (variable_of e) (evaluate env e)
    variable_made (expression kind line node) = variable_at node kind line

    variable_at : (n : Node) (kind : Kind) (line : ℕ) → VariableIf (variable_node n) (value env n kind line)
    variable_at (plain x) kind line = record { by = λ s. (s.work + 1, refl) }
    variable_at (parenthesized a) kind line = variable_counted (variable_of a) (evaluate env a) (variable_made a)
    variable_at n kind line = tt

  index_made : (c v : Option ℕ) (r : Run Rvalue) → MakesIf c r → VariableIf v r → IndexIs (index_by c v) r
  index_made (Some w) v r h h' = h
  index_made None (Some x) r h h' = h'
  index_made None None r h h' = tt

  index_is : (e : Expression) → IndexIs (index_of e) (evaluate env e)
  index_is e = index_made (constant_word e) (variable_of e) (evaluate env e) (constant_makes env e) (variable_made e)

  mutual
    pointer_found : (e : Expression) → FoundIf (pointer_key ls e) (evaluate env e)
    pointer_found (expression (OfScalar Pointer) line node) = node_found node line
    pointer_found (expression (OfScalar (Integer t)) line node) = tt
    pointer_found (expression Void line node) = tt
    pointer_found (expression (Structure n) line node) = tt
    pointer_found (expression (Array n) line node) = tt

    node_found : (n : Node) (line : ℕ) → FoundIf (node_key ls n) (value env n (OfScalar Pointer) line)
    node_found (plain x) line = record { by = λ s. (plain_value x s, s.work + 1, refl, right_base (Plain x) s) }
    node_found (decay p) line = found_pointer (place_key ls p) (place env p) (place_found p)
    node_found (address p) line = found_counted (place_key ls p) _
        (found_pointer (place_key ls p) (place env p) (place_found p))
    node_found (parenthesized a) line = found_counted (pointer_key ls a) (evaluate env a) (pointer_found a)
    node_found (cast a) line = found_counted (pointer_key ls a) _
        (found_pointer (pointer_key ls a) (evaluate env a) (pointer_found a))
    node_found (convert a) line = found_pointer (pointer_key ls a) (evaluate env a) (pointer_found a)
    node_found (offset_by PointerPlusIndex size a b) line =
        found_counted (key_plus (pointer_key ls a) (index_of b) size) _
        (found_plus (pointer_key ls a) (index_of b) size (evaluate env a) (evaluate env b) (pointer_found a)
        (index_is b))
    node_found (offset_by IndexPlusPointer size a b) line =
        found_counted (key_plus (pointer_key ls b) (index_of a) size) _
        (found_index (pointer_key ls b) (index_of a) size (evaluate env b) (evaluate env a) (pointer_found b)
        (index_is a))
    node_found (offset_by PointerMinusIndex size a b) line =
        found_counted (key_minus (pointer_key ls a) (index_of b) size) _
        (found_minus (pointer_key ls a) (index_of b) size (evaluate env a) (evaluate env b) (pointer_found a)
        (index_is b))
    node_found n line = tt

    pub place_found : (p : Lvalue) → FoundIf (place_key ls p) (place env p)
    place_found (lvalue kind line node) = lvalue_found node

    lvalue_found : (n : LvalueNode) → FoundIf (lvalue_key ls n) (node_place env n)
    lvalue_found (automatic x) = record { by = λ s. (home_pointer x s, s.work + 1, refl, right_base (Automatic x) s) }
    lvalue_found (static n) = static_found env n (slice_get ls n)
    lvalue_found (deref a) = found_counted (pointer_key ls a) _
        (found_pointer (pointer_key ls a) (evaluate env a) (pointer_found a))
    lvalue_found (index PointerPlusIndex size a b) =
        found_counted (key_plus (pointer_key ls a) (index_of b) size) _
        (found_plus (pointer_key ls a) (index_of b) size (evaluate env a) (evaluate env b) (pointer_found a)
        (index_is b))
    lvalue_found (index IndexPlusPointer size a b) =
        found_counted (key_plus (pointer_key ls b) (index_of a) size) _
        (found_index (pointer_key ls b) (index_of a) size (evaluate env b) (evaluate env a) (pointer_found b)
        (index_is a))
    lvalue_found (index PointerMinusIndex size a b) =
        found_counted (key_minus (pointer_key ls a) (index_of b) size) _
        (found_minus (pointer_key ls a) (index_of b) size (evaluate env a) (evaluate env b) (pointer_found a)
        (index_is b))
    lvalue_found (member p offset size) = found_counted (member_key (place_key ls p) offset size) _
        (found_member (place_key ls p) offset size (place env p) _ (λ v s. refl) (place_found p))
    lvalue_found (arrow a offset size) = found_counted (member_key (pointer_key ls a) offset size) _
        (found_member (pointer_key ls a) offset size (evaluate env a) _ (λ v s. refl) (pointer_found a))
    lvalue_found (parenthesized_lvalue p) = found_counted (place_key ls p) (place env p) (place_found p)
    lvalue_found n = tt

  same_given : {q q' : Rvalue} {s s' : State} → Gives q s ≡ Gives q' s' → (q ≡ q') × (s ≡ s')
  same_given e = (cc, cc)

  -- the key of an lvalue gives its pointer where it was found
  pub place_right : (p : Lvalue) (s s1 : State) (q : Rvalue) → place env p s ≡ Gives q s1 → (key : Key)
      → place_key ls p ≡ Some key → Right key s1 q.value
  place_right p s s1 q is key e = by (place_key ls p) (place_found p) e
    where
      by : (ok : Option Key) → FoundIf ok (place env p) → ok ≡ Some key → Right key s1 q.value
      by None h e = cc
      by (Some other) h e =
          let f = h.by s in
          let same = same_given (sym is ∙ f.2) in
          let found : Right other s f.0 = f.3 in
          let k : other ≡ key = cc in
          subst (λ z. Right z s1 q.value) k
          (subst (λ (z : State). Right other z q.value) (sym same.1)
          (subst (λ (v : Rvalue). Right other (at_work f.1 s) v.value) (sym same.0)
          (right_work other f.1 s f.0 found)))
