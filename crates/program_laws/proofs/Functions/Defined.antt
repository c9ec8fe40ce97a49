-- The functions that are defined so far stand in the order of their definitions.
use Rattle.std.proofs.Common.{◌≡◌, ◌⊎◌, inl, inr, ℕ, zero, suc, Bool, true, false, refl, sym, ap}
use Rattle.std.proofs.Common.{◌∙◌, subst, List, [], ◌∷◌, ◌++◌, length, Option, Some, None, if◌then◌else◌, arith}
use Rattle.std.specs.Prelude.{slice_get, codes}
use Rattle.c_tree.specs.declared.c_type.TypeWord.{TypeWord}
use Rattle.c_scope.specs.declared.meaning.Designated as what
use Rattle.c_scope.specs.declared.meaning.Designated.TheVariants as whats
use Rattle.c_scope.specs.declared.meaning.Entity.{Entity}
use Rattle.c_scope.specs.Declaring.{is_function}
use Rattle.c_scope.specs.Names.{Name, Names, bound, declared, is_name}
use Rattle.c_unit_typing.specs.Files.{Definition}
use Rattle.typing_laws.specs.Validity.Sound.{Extended}
use Rattle.typing_laws.proofs.Validity.Common.{no_value, the_same}
use Rattle.typing_laws.proofs.Validity.Sound.{get_extended}
use Rattle.typing_laws.proofs.Declarators.Lists.{added_length}
use Rattle.typing_laws.proofs.Common.{conflict}
use Rattle.typing_laws.proofs.Declarations.Bound.{bound_here}
use Rattle.program_laws.specs.Functions.Entities.{AreNumbered, IsFirst, IsSame, Keeps, is_library}
use Rattle.program_laws.specs.Functions.Entities.{names_function}
use Rattle.program_laws.specs.Functions.Entities.{number_of, without_sizes}
use Rattle.program_laws.specs.Functions.Functions.{Defines, IsDefinition, Registered}
use Rattle.program_laws.proofs.Functions.Entities.{bound_either, function_words}

-- declarations keep this

no_library : (d : what.Designated) → names_function d ≡ true → is_library d ≡ false
no_library (whats.Function n) e = refl
no_library (whats.Object n) e = refl
no_library (whats.Static n) e = refl
no_library (whats.Variable n) e = refl
no_library (whats.Library f) e = absurd cc

module _ (facts : Names ℕ) (ds : List Definition) (es more : Names Entity) (numbers : Names ℕ)
    (h : Defines ds es numbers) (k : Keeps facts es more) where
  each_kept : (name : Name) (n : ℕ) → declared name numbers ≡ Some n → IsDefinition ds more name n
  each_kept name n e =
      let d = h.each name n e in
      let s = k.same name d.entity d.linked in
      record {
        definition = d.definition;
        there = d.there;
        entity = s.entity;
        linked = s.there;
        defined = s.defined d.defined;
        words = d.words ∙ sym s.words;
      }

  -- what stands for a name behind, by what did before
  by_before : (P : Entity → Type 0) (name : Name) (x : Entity) → declared name more ≡ Some x
      → ((y : Entity) → declared name es ≡ Some y → IsSame y (Some x) → P x) → (IsFirst (number_of name facts) x → P x)
      → P x
  by_before P name x e old new = by (declared name es) refl
    where
      by : (o : Option Entity) → declared name es ≡ o → P x
      by None g = new (k.first name x g e)
      by (Some y) g = old y g (subst (λ z. IsSame y z) e (k.same name y g))

  all_kept : (name : Name) (x : Entity) → declared name more ≡ Some x → names_function x.what ≡ true
      → x.is_defined ≡ true → (n : ℕ) × (declared name numbers ≡ Some n)
  all_kept name x e =
      by_before (λ x. names_function x.what ≡ true → x.is_defined ≡ true → (n : ℕ) × (declared name numbers ≡ Some n))
      name x e
      (λ y g s f d. let is = the_same s.there in
      let what = ap names_function (sym s.what ∙ ap (λ z. z.what) (sym is)) ∙ f in
      let function = sym (h.kinds name y g (no_library y.what what)) ∙ what in
      h.all name y g what
      (s.only (function_words s.entity.c_type y.c_type s.words ∙ function)
      (ap (λ z. z.is_defined) (sym is) ∙ d)))
      (λ n f d. conflict (sym (n.undefined (sym n.kind ∙ f)) ∙ d))

  kinds_kept : (name : Name) (x : Entity) → declared name more ≡ Some x → is_library x.what ≡ false
      → names_function x.what ≡ is_function x.c_type
  kinds_kept name x e =
      by_before (λ x. is_library x.what ≡ false → names_function x.what ≡ is_function x.c_type) name x e
      (λ y g s l. let is = the_same s.there in
      let what = ap (λ z. z.what) is ∙ s.what in
      ap names_function what ∙ h.kinds name y g (ap is_library (sym what) ∙ l)
      ∙ sym (function_words s.entity.c_type y.c_type s.words) ∙ ap (λ z. is_function z.c_type) (sym is))
      (λ n l. n.kind)

  library_kept : (name : Name) (x : Entity) → declared name more ≡ Some x → is_library x.what ≡ true
      → x.is_defined ≡ true
  library_kept name x e =
      by_before (λ x. is_library x.what ≡ true → x.is_defined ≡ true) name x e
      (λ y g s l. let is = the_same s.there in
      let what = ap (λ z. z.what) is ∙ s.what in
      ap (λ z. z.is_defined) is ∙ s.defined (h.library name y g (ap is_library (sym what) ∙ l)))
      (λ n l. conflict (sym n.own ∙ l))

  pub defines_kept : Defines ds more numbers
  defines_kept = record {
    count = h.count;
    each = each_kept;
    all = all_kept;
    kinds = kinds_kept;
    library = library_kept;
    main = λ x e. by_before (λ x. is_library x.what ≡ false) (codes "main") x e
        (λ y g s. ap (λ z. is_library z.what) (the_same s.there) ∙ ap is_library s.what ∙ h.main y g)
        (λ n. n.own);
  }

-- the number of each function is that of its name

pub numbered_kept : (facts : Names ℕ) (es more : Names Entity) → AreNumbered facts es → Keeps facts es more
    → AreNumbered facts more
numbered_kept facts es more h k = record { each = λ name x n e w. by name x n e w (declared name es) refl }
  where
    old : (name : Name) (x y : Entity) (n : ℕ) → declared name es ≡ Some y → IsSame y (Some x)
        → x.what ≡ whats.Function n → n ≡ number_of name facts
    old name x y n g s w =
        h.each name y n g (sym s.what ∙ ap (λ z. z.what) (sym (the_same s.there)) ∙ w)

    by : (name : Name) (x : Entity) (n : ℕ) → declared name more ≡ Some x → x.what ≡ whats.Function n
        → (o : Option Entity) → declared name es ≡ o → n ≡ number_of name facts
    by name x n e w None g = (k.first name x g e).numbered n w
    by name x n e w (Some y) g = old name x y n g (subst (λ z. IsSame y z) e (k.same name y g)) w

pub numbered_more : (facts : Names ℕ) (es : Names Entity) (name : Name) (x : Entity) → AreNumbered facts es
    → ((n : ℕ) → x.what ≡ whats.Function n → n ≡ number_of name facts) → AreNumbered facts (bound name x es)
numbered_more facts es name x h own = record {
  each = λ other y n e w. by other y n e w (bound_either other name x es);
}
  where
    by : (other : Name) (y : Entity) (n : ℕ) → declared other (bound name x es) ≡ Some y → y.what ≡ whats.Function n
        → (declared other (bound name x es) ≡ declared other es)
        ⊎ ((other ≡ name) × (declared other (bound name x es) ≡ Some x)) → n ≡ number_of other facts
    by other y n e w (inl g) = h.each other y n (sym g ∙ e) w
    by other y n e w (inr g) =
        own n (ap (λ z. z.what) (the_same (sym g.1 ∙ e)) ∙ w) ∙ ap (λ z. number_of z facts) (sym g.0)

-- one more definition

get_more : {A : Type 0} (xs : List A) (y : A) (n : ℕ) (x : A) → slice_get xs n ≡ Some x
    → slice_get (xs ++ y ∷ []) n ≡ Some x
get_more [] y n x e = absurd cc
get_more (z ∷ xs) y zero x e = e
get_more (z ∷ xs) y (suc n) x e = get_more xs y n x e

get_last : {A : Type 0} (xs : List A) (y : A) (n : ℕ) → n ≡ length xs → slice_get (xs ++ y ∷ []) n ≡ Some y
get_last [] y zero e = refl
get_last [] y (suc n) e = absurd (omega (arith, e))
get_last (z ∷ xs) y zero e = absurd (omega (arith, e))
get_last (z ∷ xs) y (suc n) e = get_last xs y n (omega (arith, e))

longer_by : {A : Type 0} (name : Name) (v : A) (e : Name × A) (es : Names A) (b : Bool)
    → (if b then Some e.1 else declared name es) ≡ None
    → (declared name es ≡ None → length (bound name v es) ≡ suc (length es))
    → length (if b then (e.0, v) ∷ es else e ∷ bound name v es) ≡ suc (suc (length es))
longer_by name v e es true g h = no_value e.1 _ (sym g)
longer_by name v e es false g h = ap suc (h g)

bound_longer : {A : Type 0} (name : Name) (v : A) (es : Names A) → declared name es ≡ None
    → length (bound name v es) ≡ suc (length es)
bound_longer name v [] g = refl
bound_longer name v (e ∷ es) g = longer_by name v e es (is_name name e.0) g (bound_longer name v es)

module _ (ds : List Definition) (es : Names Entity) (numbers : Names ℕ) (h : Defines ds es numbers) (name : Name)
    (x : Entity) (d : Definition) (fresh : declared name numbers ≡ None) (defined : x.is_defined ≡ true)
    (function : names_function x.what ≡ true) (kind : is_function x.c_type ≡ true)
    (words : without_sizes d.type ≡ without_sizes x.c_type) where
  new_there : (other : Name) (y : Entity) (P : Entity → Type 0) → declared other (bound name x es) ≡ Some y
      → (declared other es ≡ Some y → P y) → (other ≡ name → P x) → P y
  new_there other y P e old new = by (bound_either other name x es)
    where
      by : (declared other (bound name x es) ≡ declared other es)
          ⊎ ((other ≡ name) × (declared other (bound name x es) ≡ Some x)) → P y
      by (inl g) = old (sym g ∙ e)
      by (inr g) = subst P (the_same (sym g.1 ∙ e)) (new g.0)

  each_more : (other : Name) (k : ℕ) → declared other (bound name (length numbers) numbers) ≡ Some k
      → IsDefinition (ds ++ d ∷ []) (bound name x es) other k
  each_more other k e = by (bound_either other name (length numbers) numbers)
    where
      before : IsDefinition ds es other k
          → (declared other (bound name x es) ≡ declared other es)
          ⊎ ((other ≡ name) × (declared other (bound name x es) ≡ Some x)) → declared other numbers ≡ Some k
          → IsDefinition (ds ++ d ∷ []) (bound name x es) other k
      before is (inl g) i = record {
        definition = is.definition;
        there = get_more ds d k is.definition is.there;
        entity = is.entity;
        linked = g ∙ is.linked;
        defined = is.defined;
        words = is.words;
      }
      before is (inr g) i = no_value k _ (sym fresh ∙ ap (λ z. declared z numbers) (sym g.0) ∙ i)

      by : (declared other (bound name (length numbers) numbers) ≡ declared other numbers)
          ⊎ ((other ≡ name) × (declared other (bound name (length numbers) numbers) ≡ Some (length numbers)))
          → IsDefinition (ds ++ d ∷ []) (bound name x es) other k
      by (inl g) = before (h.each other k (sym g ∙ e)) (bound_either other name x es) (sym g ∙ e)
      by (inr g) = record {
        definition = d;
        there = get_last ds d k (sym (the_same (sym g.1 ∙ e)) ∙ h.count);
        entity = x;
        linked = ap (λ z. declared z (bound name x es)) g.0 ∙ bound_here name x es;
        defined = defined;
        words = words;
      }

  number_more : (other : Name) (k : ℕ) → declared other numbers ≡ Some k
      → (n : ℕ) × (declared other (bound name (length numbers) numbers) ≡ Some n)
  number_more other k e = by (bound_either other name (length numbers) numbers)
    where
      by : (declared other (bound name (length numbers) numbers) ≡ declared other numbers)
          ⊎ ((other ≡ name) × (declared other (bound name (length numbers) numbers) ≡ Some (length numbers)))
          → (n : ℕ) × (declared other (bound name (length numbers) numbers) ≡ Some n)
      by (inl g) = (k, g ∙ e)
      by (inr g) = (length numbers, g.1)

  pub defines_more : Defines (ds ++ d ∷ []) (bound name x es) (bound name (length numbers) numbers)
  defines_more = record {
    count = bound_longer name (length numbers) numbers fresh ∙ ap suc h.count ∙ sym (added_length ds d);
    each = each_more;
    all = λ other y e. new_there other y
        (λ y. names_function y.what ≡ true → y.is_defined ≡ true
        → (n : ℕ) × (declared other (bound name (length numbers) numbers) ≡ Some n)) e
        (λ g f i. let old = h.all other y g f i in number_more other old.0 old.1)
        (λ same f i. (
          length numbers,
          ap (λ z. declared z (bound name (length numbers) numbers)) same
              ∙ bound_here name (length numbers) numbers,
        ));
    kinds = λ other y e. new_there other y
        (λ y. is_library y.what ≡ false → names_function y.what ≡ is_function y.c_type) e
        (h.kinds other y) (λ same l. function ∙ sym kind);
    library = λ other y e. new_there other y (λ y. is_library y.what ≡ true → y.is_defined ≡ true) e
        (h.library other y) (λ same l. defined);
    main = λ y e. new_there (codes "main") y (λ y. is_library y.what ≡ false) e (h.main y)
        (λ same. no_library x.what function);
  }

pub registered_more : (ds : List Definition) (types more : List (List TypeWord)) → Registered ds types
    → Extended types more → Registered ds more
registered_more ds types more h e = record {
  each = λ k d is. (let own = h.each k d is in (own.0, get_extended types more e own.0 d.type own.1));
}

either_got : {A : Type 0} (xs : List A) (y : A) (n : ℕ) (x : A) → slice_get (xs ++ y ∷ []) n ≡ Some x
    → (slice_get xs n ≡ Some x) ⊎ (y ≡ x)
either_got [] y zero x e = inr (the_same e)
either_got [] y (suc n) x e = no_value x _ e
either_got (z ∷ xs) y zero x e = inl e
either_got (z ∷ xs) y (suc n) x e = either_got xs y n x e

pub registered_add : (ds : List Definition) (types : List (List TypeWord)) (d : Definition) → Registered ds types
    → (n : ℕ) → slice_get types n ≡ Some d.type → Registered (ds ++ d ∷ []) types
registered_add ds types d h n e = record { each = λ k x is. by k x (either_got ds d k x is) }
  where
    by : (k : ℕ) (x : Definition) → (slice_get ds k ≡ Some x) ⊎ (d ≡ x) → (n : ℕ) × (slice_get types n ≡ Some x.type)
    by k x (inl g) = h.each k x g
    by k x (inr g) = (n, e ∙ ap (λ z. Some z.type) g)
