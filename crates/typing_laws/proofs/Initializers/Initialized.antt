-- What declared objects are initialized with (C99 6.7.8).
use Rattle.std.proofs.Common.{arith, ◌≡◌, ◌⊎◌, inl, inr, ℕ, ◌≤◌, Bool, true, false, refl, sym, ap, ◌∙◌, subst, List}
use Rattle.std.proofs.Common.{Option, Some, None, [], ◌∷◌}
use Rattle.std.proofs.lemmas.Option.{none-some}
use Rattle.std.specs.Prelude.{Ok, Err, is_some, option_map}
use Rattle.c_syntax.specs.Tree.{Initializer}
use Rattle.c_tree.specs.declared.c_type.TypeWord.{TypeWord}
use Rattle.c_tree.specs.declared.c_type.TypeWord.TheVariants as word
use Rattle.c_tree.specs.declared.expression.Kind.{Kind}
use Rattle.c_tree.specs.Extents.{TypeExtent, array_extent, capped, extent_of}
use Rattle.c_tree.specs.Kinds.{is_size, is_value}
use Rattle.c_tree.specs.Statements.{Part, of_plain}
use Rattle.c_tree.specs.Tree.{kind_of}
use Rattle.c_tree.specs.Valid.{Scope}
use Rattle.c_tree.specs.ValidProgram.{are_parts}
use Rattle.c_faults.specs.Answer.{Answer, ◌>>=◌}
use Rattle.c_rules.specs.Types.{unqualified}
use Rattle.c_scope.specs.declared.meaning.Designated.{Designated}
use Rattle.c_scope.specs.declared.meaning.Meaning.TheVariants as meaning
use Rattle.c_scope.specs.Names.{Name}
use Rattle.c_current_object.specs.Subobjects.{whole}
use Rattle.c_current_object.specs.Types.{is_aggregate_as}
use Rattle.c_initializer_rules.specs.Initializing.{Initializing, begun}
use Rattle.c_initializer_rules.specs.Placed.{PlacedPart, count_of, parts_in}
use Rattle.c_operand_typing.specs.Primaries.{is_aggregate, size_or_zero}
use Rattle.c_typing_state.specs.State.{State, extents}
use Rattle.c_expression_typing.specs.Typed.{typed}
use Rattle.c_unit_typing.specs.Declarations.{completed, initialized_by, initialized_if, kind_in}
use Rattle.c_unit_typing.specs.Declarations.{parts_initializer}
use Rattle.c_unit_typing.specs.Initializers.{initialized, member_lists}
use Rattle.typing_laws.specs.Validity.Sound.{Covers, IsFormed, Keeps, Knows, Sound, is_sized_array}
use Rattle.typing_laws.specs.Validity.Steps.{Structures}
use Rattle.typing_laws.proofs.Validity.Common.{the_same}
use Rattle.typing_laws.proofs.Validity.Moved.{size_high}
use Rattle.typing_laws.proofs.Validity.Sound.{IfAnswer, keeps_same}
use Rattle.typing_laws.specs.Declarators.Given.{anything}
use Rattle.typing_laws.specs.Declarations.Binding.{Binds, Completes, IfCompleted, IsCompleteFor}
use Rattle.typing_laws.specs.Scopes.Regular.{is_regular_initializer, is_regular_initializer_if}
use Rattle.typing_laws.proofs.Declarators.Types.{size_low}
use Rattle.typing_laws.proofs.Layouts.Behind.{expression_behind}
use Rattle.typing_laws.proofs.Layouts.Declared.{laid_out_binds}
use Rattle.typing_laws.specs.Initializers.Cursor.{Every, IsPlacing}
use Rattle.typing_laws.specs.Initializers.Giving.{ExpressionsKeep, Gives, Giving, IfKept}
use Rattle.typing_laws.specs.Initializers.Initialized.{IfInitialized, IfScalar, IsValidPart, IsValueOf}
use Rattle.typing_laws.specs.Layouts.Listed.{HasSizes, IfLaidOut, IsLaidOut}
use Rattle.typing_laws.specs.Initializers.Placing.{FitsIn, HasExtent, IsPlaced, whole_type}
use Rattle.typing_laws.proofs.Initializers.Counted.{IsCounted, keeps_counted, some_elements}
use Rattle.typing_laws.proofs.Initializers.Cursor.{begun_objects}
use Rattle.typing_laws.proofs.Initializers.Ended.{closed_parts, open_parts}
use Rattle.typing_laws.proofs.Initializers.Fitting.{has_kept, keeps_fitting, placed_kept, whole_placed}
use Rattle.typing_laws.proofs.Initializers.Objects.{IsBase, IsSized, base_of, complete_kept, completed_sized}
use Rattle.typing_laws.proofs.Initializers.Objects.{completes, covers_before, kind_total, scalar_completed}
use Rattle.typing_laws.proofs.Initializers.Objects.{total}
use Rattle.typing_laws.proofs.Initializers.Places.{parts_placed}
use Rattle.typing_laws.proofs.Initializers.Placings.{placing_steps}
use Rattle.typing_laws.proofs.Initializers.Recursion.{initialized_given}
use Rattle.typing_laws.proofs.Initializers.Scalars.{IsAtMostOne, IsOne, at_most_stays, exactly_one, keeps_one}
use Rattle.typing_laws.proofs.Initializers.Scalars.{none, parts_whole, same_aggregate, scalar_kind}
use Rattle.typing_laws.proofs.Initializers.Some.{At, HasSome, IsAwaited, IsStored, begun_awaited, ended_some}
use Rattle.typing_laws.proofs.Initializers.Some.{some_steps}
use Rattle.typing_laws.proofs.Initializers.Valid.{initialized_valid, nothing_kept}

-- expressions keep the arrays of names and members laid out

kept_by : {A : Type 0} (s : State) (a : Answer (State × A)) → (IsLaidOut s → IfLaidOut anything a)
    → IfKept IsLaidOut s a
kept_by s (Ok r) h = λ laid. (h laid).0
kept_by s (Err f) h = tt

keep : ExpressionsKeep IsLaidOut
keep = record {
  each = λ is e c s formed. kept_by s (typed is e s) (λ laid. expression_behind is e c s formed laid);
}

-- objects whose parts lie in them

pub placing_given : (scope : Scope) (last : Structures) (b : Bool) (size : ℕ)
    (base : List TypeWord) (x : Initializer) → is_regular_initializer x ≡ true → (i : Initializing) (s : State)
    → Giving true scope last IsLaidOut s (λ es. IsPlacing (IsPlaced b size base es) (Every (FitsIn b size)) i)
    (λ es j. IsPlacing (IsPlaced b size base es) (Every (FitsIn b size)) j) (initialized x i s)
placing_given scope last b size base x c i s =
    initialized_given true scope last IsLaidOut keep _ _ _ _
    (placing_steps true scope IsLaidOut (λ es. IsPlaced b size base es) (λ es. Every (FitsIn b size))
    (λ o es more h is. placed_kept b size base es more h o is) (λ ps es more h is. is)
    (λ s k. parts_placed (extents s) (member_lists s) k.lists b size base)
    (λ es. keeps_fitting es b size base scope)) 0 x c i s

counted_given : (scope : Scope) (last : Structures) (size : ℕ) (base : List TypeWord) (x : Initializer)
    → is_regular_initializer x ≡ true → (i : Initializing) (s : State)
    → Giving false scope last IsLaidOut s (λ es. IsPlacing (IsPlaced true size base es) (Every IsCounted) i)
    (λ es j. IsPlacing (IsPlaced true size base es) (Every IsCounted) j) (initialized x i s)
counted_given scope last size base x c i s =
    initialized_given false scope last IsLaidOut keep _ _ _ _
    (placing_steps false scope IsLaidOut (λ es. IsPlaced true size base es) (λ es. Every IsCounted)
    (λ o es more h is. placed_kept true size base es more h o is) (λ ps es more h is. is)
    (λ s k. parts_placed (extents s) (member_lists s) k.lists true size base)
    (λ es. keeps_counted es size base scope)) 0 x c i s

some_given : (scope : Scope) (last : Structures) (x : Initializer) → is_regular_initializer x ≡ true
    → (i : Initializing) (s : State)
    → Giving false scope last (λ s. Unit {0}) s (λ es. At 0 IsAwaited i) (λ es. At 0 IsStored) (initialized x i s)
some_given scope last x c i s =
    initialized_given false scope last (λ s. Unit {0}) nothing_kept _ _ _ _ (some_steps false scope (λ s. Unit {0})) 0 x
    c i s

-- an initializer that was read
record IsRead (scope : Scope) (last : Structures) (b : Bool) (size : ℕ) (s : State)
    (r : State × Initializing) : Type 0 where
  keeps : Keeps scope last s r.0
  laid_out : IsLaidOut r.0
  some : HasSome r.1.parts
  counted : b ≡ true → Every IsCounted r.1.parts
  fits : Knows scope last s → Covers scope last r.0 → Every (FitsIn b size) r.1.parts
  valid : Knows scope last s → Covers scope last r.0 → Every (IsValidPart scope) r.1.parts

-- a type whose bytes are those of an object has arrays of at most 2^32 bytes

array_sized : (o : Option TypeExtent) (bytes size : ℕ) (e : TypeExtent) → option_map (array_extent bytes) o ≡ Some e
    → e.size ≡ size → is_size size ≡ true → is_size bytes ≡ true
array_sized None bytes size e is same sized = absurd cc
array_sized (Some x) bytes size e is same sized =
    let own : capped bytes ≡ e.size = ap (λ e. e.size) (the_same is) in
    let high = size_high size sized in
    let equal : bytes ≡ size = omega (arith, own, same, high) in
    ap is_size equal ∙ sized

extent_sized : (es : List (Option TypeExtent)) (size : ℕ) (ws : List TypeWord) → HasExtent es size ws
    → is_sized_array ws ≡ true
unfolding extent_of
extent_sized es size [] h = refl
extent_sized es size (word.Void ∷ ws) h = refl
extent_sized es size (word.Integer t ∷ ws) h = refl
extent_sized es size (word.Enumeration n ∷ ws) h = refl
extent_sized es size (word.Pointer ∷ ws) h = refl
extent_sized es size (word.Array count bytes ∷ ws) h =
    array_sized (extent_of es ws) bytes size h.extent h.complete h.bytes h.object
extent_sized es size (word.OpenArray ∷ ws) h = absurd (none-some _ h.complete)
extent_sized es size (word.Structure n ∷ ws) h = refl
extent_sized es size (word.Const ∷ ws) h =
    extent_sized es size ws (record {
      extent = h.extent;
      complete = h.complete;
      bytes = h.bytes;
      object = h.object;
      arrays = h.arrays;
    })
extent_sized es size (word.Takes ∷ ws) h = refl
extent_sized es size (word.Gives ∷ ws) h = refl

module _ (scope : Scope) (last : Structures) (what : Designated) (name : Name × ℕ) (type : List TypeWord) (s : State)
    (formed : IsFormed s) (laid_out : IsLaidOut s) (complete : IsCompleteFor (extents s) true type)
    (sizes : HasSizes (extents s) type) where
  counted_by : (size : ℕ) (base : List TypeWord) (b : Bool) → b ≡ true → type ≡ whole_type b base
      → HasExtent (extents s) size base → (r : State × Initializing)
      → (IsFormed s → Gives false scope last IsLaidOut s
      (λ es. IsPlacing (IsPlaced true size base es) (Every IsCounted) (begun type))
      (λ es j. IsPlacing (IsPlaced true size base es) (Every IsCounted) j) r) → Every IsCounted r.1.parts
  counted_by size base b e is has r h =
      ((h formed).has tt laid_out (record {
        objects = begun_objects (IsPlaced true size base (extents s)) type
            (whole_placed (extents s) true size base type (is ∙ ap (λ b. whole_type b base) e) has);
        parts = tt;
      })).parts

  read_by : (w : IsBase (extents s) type) (a : Answer (State × Initializing))
      → Giving true scope last IsLaidOut s
      (λ es. IsPlacing (IsPlaced w.is_open w.size w.base es) (Every (FitsIn w.is_open w.size)) (begun type))
      (λ es j. IsPlacing (IsPlaced w.is_open w.size w.base es) (Every (FitsIn w.is_open w.size)) j) a
      → Giving false scope last IsLaidOut s
      (λ es. IsPlacing (IsPlaced true w.size w.base es) (Every IsCounted) (begun type))
      (λ es j. IsPlacing (IsPlaced true w.size w.base es) (Every IsCounted) j) a
      → Giving false scope last (λ s. Unit {0}) s (λ es. At 0 IsAwaited (begun type)) (λ es. At 0 IsStored) a
      → Sound scope last s (λ es. Every (IsValidPart scope) (begun type).parts)
      (λ es j. Every (IsValidPart scope) j.parts) a → IfAnswer (IsRead scope last w.is_open w.size s) a
  read_by w (Ok r) placing counted stored valid =
      let p = placing formed in
      record {
        keeps = p.keeps;
        laid_out = p.known laid_out;
        some = ended_some r.1 ((stored formed).has tt tt (begun_awaited type));
        counted = λ e. counted_by w.size w.base w.is_open e w.is w.has r counted;
        fits = λ knows covers. (p.has (knows, covers) laid_out (record {
          objects = begun_objects (IsPlaced w.is_open w.size w.base (extents s)) type
              (whole_placed (extents s) w.is_open w.size w.base type w.is w.has);
          parts = tt;
        })).parts;
        valid = λ knows covers. (valid formed).1 knows tt covers;
      }
  read_by w (Err f) placing counted stored valid = tt

  parts_by : (b : Bool) (size : ℕ) (base : List TypeWord) (ps : List PlacedPart) (t : State) (ws : List TypeWord)
      → HasExtent (extents s) size base → HasExtent (extents t) (total b size (count_of ps)) ws
      → Every (FitsIn b size) ps → Every (IsValidPart scope) ps
      → are_parts scope (total b size (count_of ps)) (parts_in ps) ≡ true
  parts_by true size base ps t ws h g fits valid =
      open_parts scope size (size_low size h.object) ps (size_high (total true size (count_of ps)) g.object) fits valid
  parts_by false size base ps t ws h g fits valid =
      closed_parts scope size (size_high size h.object) ps fits valid

  laid_out_behind : (t : State) (q : State × List TypeWord) → Completes what name.0 t q.0 q.1
      → HasSizes (extents q.0) q.1 → IsLaidOut t → IsLaidOut q.0
  laid_out_behind t q h has is = by h.binds
    where
      by : (q.0 ≡ t) ⊎ Binds name.0 (meaning.Named what q.1) t q.0 → IsLaidOut q.0
      by (inl e) = subst IsLaidOut (sym e) is
      by (inr binds) =
          laid_out_binds name.0 (meaning.Named what q.1) t q.0 binds
          (λ linked. subst (λ z. HasSizes z.extents q.1) binds.structures has) is

  ended_by : (w : IsBase (extents s) type) (r : State × Initializing) → IsRead scope last w.is_open w.size s r
      → (a : Answer (State × List TypeWord)) → IfAnswer (IsSized w.is_open w.size (count_of r.1.parts) r.0) a
      → ((w.is_open ≡ true → 1 ≤ count_of r.1.parts) → IfCompleted what name.0 r.0 a)
      → IfInitialized scope last what name.0 s (a >>= λ q. Ok (q.0, (q.1, parts_in r.1.parts)))
  ended_by w r h (Ok q) sized completes =
      let some : w.is_open ≡ true → 1 ≤ count_of r.1.parts = λ e. some_elements r.1.parts (h.counted e) h.some in
      let complete = completes some in
      let has = sized.has some in
      let own : HasSizes (extents q.0) q.1 = record {
        arrays = has.arrays;
        sized = extent_sized (extents q.0) (total w.is_open w.size (count_of r.1.parts)) q.1 has;
      }
      in
      record {
        ended = r.0;
        keeps = h.keeps;
        completes = complete;
        sizes = own;
        laid_out = laid_out_behind r.0 q complete own h.laid_out;
        parts = λ knows covers.
            let before = covers_before scope last r.0 q.0 sized.same covers in
            ap (λ n. are_parts scope n (parts_in r.1.parts))
            (kind_total q.0 (total w.is_open w.size (count_of r.1.parts)) q.1 has)
            ∙ parts_by w.is_open w.size w.base r.1.parts q.0 q.1 w.has has (h.fits knows before) (h.valid knows before);
      }
  ended_by w r h (Err f) sized completes = tt

  then_completed : (w : IsBase (extents s) type) (a : Answer (State × Initializing))
      → IfAnswer (IsRead scope last w.is_open w.size s) a
      → IfInitialized scope last what name.0 s (a >>= λ r.
      (completed what name type (count_of r.1.parts) r.0 >>= λ q. Ok (q.0, (q.1, parts_in r.1.parts))))
  then_completed w (Ok r) h =
      let has = has_kept (extents s) (extents r.0) h.keeps.more w.size w.base w.has in
      ended_by w r h (completed what name type (count_of r.1.parts) r.0)
      (completed_sized r.0 what name type (count_of r.1.parts) w.is_open w.size w.base w.is has)
      (λ some. completes r.0 h.keeps.formed what name type (count_of r.1.parts) w.is_open w.size w.base w.is has some
      (complete_kept (extents s) (extents r.0) h.keeps.more type complete))
  then_completed w (Err f) h = tt

  pub initialized_by_is : (x : Initializer) → is_regular_initializer x ≡ true
      → IfInitialized scope last what name.0 s (initialized_by what name type x s)
  initialized_by_is x c =
      let w = base_of (extents s) type complete sizes.arrays in
      then_completed w (initialized x (begun type) s)
      (read_by w (initialized x (begun type) s)
      (placing_given scope last w.is_open w.size w.base x c (begun type) s)
      (counted_given scope last w.size w.base x c (begun type) s) (some_given scope last x c (begun type) s)
      (initialized_valid scope last x c (begun type) s))

-- objects of any complete type, with an initializer or without one
pub initialized_if_is : (scope : Scope) (last : Structures) (what : Designated) (name : Name × ℕ)
    (type : List TypeWord) (x : Option Initializer) → is_regular_initializer_if x ≡ true → (s : State) → IsFormed s
    → IsLaidOut s → IsCompleteFor (extents s) (is_some x) type → HasSizes (extents s) type
    → IfInitialized scope last what name.0 s (initialized_if what name type x s)
initialized_if_is scope last what name type None c s formed laid_out complete sizes = record {
  ended = s;
  keeps = keeps_same scope last s formed;
  completes = record {
    complete = record { extent = complete.extent; is = complete.is; object = complete.object };
    formed = formed;
    binds = inl refl;
  };
  sizes = sizes;
  laid_out = laid_out;
  parts = λ knows covers. refl;
}
initialized_if_is scope last what name type (Some x) c s formed laid_out complete sizes =
    initialized_by_is scope last what name type s formed laid_out complete sizes x c

-- scalars

module _ (scope : Scope) (last : Structures) (what : Designated) (name : Name × ℕ) (type : List TypeWord)
    (scalar : is_aggregate type ≡ false) (s : State) (formed : IsFormed s) where
  unaggregate : is_aggregate_as (unqualified type) ≡ false
  unaggregate = same_aggregate type ∙ scalar

  record IsReadOne (r : State × Initializing) : Type 0 where
    one : Knows scope last s → Covers scope last r.0 → IsOne scope type (extents r.0) r.1.parts

  read_one : (a : Answer (State × Initializing))
      → Giving true scope last (λ s. Unit {0}) s
      (λ es. IsPlacing (λ o. o ≡ whole type) (IsAtMostOne scope type es) (begun type))
      (λ es j. IsPlacing (λ o. o ≡ whole type) (IsAtMostOne scope type es) j) a
      → Giving false scope last (λ s. Unit {0}) s (λ es. At 0 IsAwaited (begun type)) (λ es. At 0 IsStored) a
      → IfAnswer IsReadOne a
  read_one (Ok r) placing stored = record {
    one = λ knows covers.
        exactly_one scope type (extents r.0) r.1.parts
        ((placing formed).has (knows, covers) tt
        (record { objects = begun_objects (λ o. o ≡ whole type) type refl; parts = none refl })).parts
        (ended_some r.1 ((stored formed).has tt tt (begun_awaited type)));
  }
  read_one (Err f) placing stored = tt

  value_of : (t : State) (ps : List PlacedPart) → IsOne scope type (extents t) ps
      → IsValueOf scope (kind_in t type) (parts_in ps)
  value_of t ps one =
      let kind = scalar_kind (extents t) (size_or_zero (extent_of (extents t) type)) type (kind_of one.value) scalar
      one.fine.kind in
      record {
        value = one.value;
        valid = one.fine.valid;
        kind = kind;
        stored = ap is_value (sym kind) ∙ one.fine.value;
        is = ap parts_in one.is;
      }

  scalar_by : (r : State × Initializing) → IsReadOne r → (a : Answer (State × List TypeWord)) → a ≡ Ok (r.0, type)
      → IfScalar scope last type s (a >>= λ q. Ok (q.0, (q.1, parts_in r.1.parts)))
  scalar_by r h a is =
      subst (λ a. IfScalar scope last type s (a >>= λ q. Ok (q.0, (q.1, parts_in r.1.parts)))) (sym is)
      (record { same = refl; value = λ knows covers. value_of r.0 r.1.parts (h.one knows covers) })

  then_scalar : (a : Answer (State × Initializing)) → IfAnswer IsReadOne a
      → IfScalar scope last type s (a >>= λ r.
      (completed what name type (count_of r.1.parts) r.0 >>= λ q. Ok (q.0, (q.1, parts_in r.1.parts))))
  then_scalar (Ok r) h =
      scalar_by r h (completed what name type (count_of r.1.parts) r.0)
      (scalar_completed r.0 what name type (count_of r.1.parts) scalar)
  then_scalar (Err f) h = tt

  pub scalar_initialized : (x : Initializer) → is_regular_initializer x ≡ true
      → IfScalar scope last type s (initialized_by what name type x s)
  scalar_initialized x c =
      then_scalar (initialized x (begun type) s)
      (read_one (initialized x (begun type) s)
      (initialized_given true scope last (λ s. Unit {0}) nothing_kept _ _ _ _
      (placing_steps true scope (λ s. Unit {0}) (λ es o. o ≡ whole type) (λ es. IsAtMostOne scope type es)
      (λ o es more h is. is) (λ ps es more h is. at_most_stays scope type es more h ps is)
      (λ s k. parts_whole scope type unaggregate (extents s) (member_lists s))
      (λ es. keeps_one scope type unaggregate es)) 0 x c (begun type) s) (some_given scope last x c (begun type) s))

pub value_alone : (scope : Scope) (k : Kind) (parts : List Part) → (h : IsValueOf scope k parts)
    → parts_initializer false parts ≡ of_plain h.value
value_alone scope k parts h = ap (parts_initializer false) h.is
