-- Which temporaries have contents: those that have an area, and whose word is not taken.
use Rattle.std.proofs.Common.{◌≡◌, ℕ, zero, suc, ◌<◌, Bool, true, false, not, nat_lt, List, [], ◌∷◌, get_or}
use Rattle.std.proofs.Common.{Option, Some}
use Rattle.std.proofs.Common.{refl, sym, ap, ◌∙◌, subst, arith}
use Rattle.std.specs.Prelude.{◌&&◌, ◌||◌, ◌==◌, nat_le, slice_get}
use Rattle.std.specs.List.{list_all}
use Rattle.std.proofs.lemmas.Bool.{and_parts, eq-eqb, eqb-true, ltb-true, ltb-false, or_left, or_right}
use Rattle.std.proofs.lemmas.List.{get_or_past}
use Rattle.c_tree.specs.declared.expression.Kind.{Kind}
use Rattle.c_tree.specs.declared.expression.Kind.TheVariants.{Void, Scalar as OfScalar, Structure, Array}
use Rattle.tac_ir.specs.declared.instruction.Instruction.{Instruction}
use Rattle.tac_ir.specs.declared.instruction.Instruction.TheVariants as tac
use Rattle.tac_ir.specs.declared.function.CodeFunction.{CodeFunction}
use Rattle.tac_ir.specs.declared.function.Tac.{Tac}
use Rattle.tac_ir.specs.Edges.{LeadsTo}
use Rattle.tac_ir.specs.Structures.{greatest_structure}
use Rattle.tac_ir.specs.Temporaries.{temporaries}
use Rattle.metadata_plan.specs.Entries.{given}
use Rattle.metadata_expansion.specs.ClosedSets.{IsClosedUnder, in_table}
use Rattle.metadata_expansion.proofs.ClosedSets.{IsBelow, below_some, or_among}
use Rattle.metadata_relation.specs.Contents.{AreKept, contents_source, structure_from, takes_word}
use Rattle.instruction_selection.specs.declared.covered.contents.FunctionContents.{FunctionContents}
use Rattle.metadata_expansion.specs.Areas.{AreGreatest}
use Rattle.instruction_selection.specs.Covered.{is_other_source, may_have, reads_word}

-- ---- what is put into a set

pub both_inserted : (x a b z w : Bool) → w ≡ (x || a) → z ≡ (w || b) → z ≡ (x || (a || b))
both_inserted x a b z w first second = second ∙ ap (λ v. v || b) first ∙ or_among x a b

pub none_besides : (x a z : Bool) → z ≡ (x || a) → z ≡ (x || (a || false))
none_besides x true z e = e
none_besides x false z e = e

-- nothing is put into it
pub nothing_put : (x z : Bool) → z ≡ x → z ≡ (x || false)
nothing_put true z e = e
nothing_put false z e = e

-- ---- what contents are given of

structure_below : (kind : Kind) (a n : ℕ) → a < n → IsBelow (structure_from kind a) n
structure_below Void a n h = tt
structure_below (OfScalar k) a n h = tt
structure_below (Structure size) a n h = h
structure_below (Array size) a n h = tt

source_below : (i : Instruction) → IsBelow (contents_source i) (temporaries i)
source_below (tac.Member offset size d a m) = omega arith
source_below (tac.Read kind mode line key d a m) = structure_below kind a _ (omega arith)
source_below i = tt

pub source_low : (i : Instruction) (a : ℕ) → contents_source i ≡ Some a → a < temporaries i
source_low i a is = below_some (contents_source i) (temporaries i) a (source_below i) is

-- ---- contents are kept

-- what has no area has no contents
no_area : (c : FunctionContents) (n y : ℕ) → get_or c.areas.items y 0 ≡ 0 → may_have c n y ≡ false
no_area c n y e = ap (λ k. nat_le 1 k && not (in_table c.words n y)) e

none_is : (a b : Bool) → b ≡ true → (a && not b) ≡ false
none_is true b e = ap not e
none_is false b e = refl

-- nor has that whose word is taken
word_taken : (c : FunctionContents) (n y : ℕ) → in_table c.words n y ≡ true → may_have c n y ≡ false
word_taken c n y e = none_is (nat_le 1 (get_or c.areas.items y 0)) (in_table c.words n y) e

-- and if it has none, it is for one of both
one_of_both : (a b : Bool) (P : Type 0) → (a && not b) ≡ false → (a ≡ false → P) → (b ≡ true → P) → P
one_of_both false b P e without taken = without refl
one_of_both true true P e without taken = taken refl
one_of_both true false P e without taken = cc

-- the word of another source is read
other_read : (s d : Option ℕ) (a x : ℕ) → s ≡ Some a → d ≡ Some x → (a == x) ≡ false → is_other_source s d a ≡ true
other_read s d a x is gives other =
    subst (λ z. is_other_source z d a ≡ true) (sym is) (subst (λ z. is_other_source (Some a) z a ≡ true) (sym gives)
    (ap (λ b. b && not (a == x)) (eq-eqb a a refl) ∙ ap not other))

module _ (t : Tac) (k : CodeFunction) (c : FunctionContents) (count : ℕ)
    (greatest : AreGreatest c.areas.items count t k.code)
    (closed : IsClosedUnder reads_word contents_source k (in_table c.words)) where
  area_is : (y : ℕ) → greatest_structure t k.code y ≡ 0 → get_or c.areas.items y 0 ≡ 0
  area_is y none = by (nat_lt y count) refl
    where
      by : (b : Bool) → nat_lt y count ≡ b → get_or c.areas.items y 0 ≡ 0
      by true e = greatest.each y (ltb-true y count e) ∙ none
      by false e =
          let past = ltb-false y count e in
          let size = greatest.size in
          get_or_past c.areas.items y 0 (omega (arith, past, size))

  -- a temporary of no area behind a node has none before it
  same_area : (n m y : ℕ) → nat_le 1 (get_or c.areas.items y 0) ≡ false → may_have c n y ≡ false
  same_area n m y e = ap (λ b. b && not (in_table c.words n y)) e

  passes : (n m d a : ℕ) (i : Instruction) → slice_get k.code n ≡ Some i → LeadsTo i m → given i ≡ Some d
      → contents_source i ≡ Some a → may_have c m d ≡ false → (b : Bool) → (a == d) ≡ b → may_have c n a ≡ false
  passes n m d a i at leads gives of none true same =
      let e : a ≡ d = eqb-true a d same in
      one_of_both (nat_le 1 (get_or c.areas.items d 0)) (in_table c.words m d) (may_have c n a ≡ false) none
      (λ without. same_area n m a (ap (λ j. nat_le 1 (get_or c.areas.items j 0)) e ∙ without))
      (λ taken. word_taken c n a (closed.made n m d a i at leads gives of taken))
  passes n m d a i at leads gives of none false other =
      word_taken c n a (closed.read n a i at
      (or_left (is_other_source (contents_source i) (given i) a) (takes_word i a)
      (other_read (contents_source i) (given i) a d of gives other)))

  pub kept_by_table : AreKept t k (may_have c)
  kept_by_table = record {
    kept = λ n m y i at leads other none.
        one_of_both (nat_le 1 (get_or c.areas.items y 0)) (in_table c.words m y) (may_have c n y ≡ false) none
        (λ without. same_area n m y without)
        (λ taken. word_taken c n y (closed.kept n m y i at leads other taken));
    made = λ n m d a i at leads gives of none. passes n m d a i at leads gives of none (a == d) refl;
    words = λ n y i at takes.
        word_taken c n y (closed.read n y i at
        (or_right (is_other_source (contents_source i) (given i) y) (takes_word i y) takes));
    areas = λ n y none. no_area c n y (area_is y none);
  }

pub are_kept : (t : Tac) (k : CodeFunction) (c : FunctionContents) (count : ℕ) (is : List Instruction) → is ≡ k.code
    → AreGreatest c.areas.items count t is → IsClosedUnder reads_word contents_source k (in_table c.words)
    → AreKept t k (may_have c)
are_kept t k c count is same greatest closed =
    kept_by_table t k c count (subst (AreGreatest c.areas.items count t) same greatest) closed

-- where no temporary has an area, none has contents
all_zero : (ns : List ℕ) → list_all (λ n. n == 0) ns ≡ true → (y : ℕ) → get_or ns y 0 ≡ 0
all_zero [] all y = refl
all_zero (n ∷ ns) all zero = eqb-true n 0 ((and_parts (n == 0) (list_all (λ k. k == 0) ns) all).0)
all_zero (n ∷ ns) all (suc y) = all_zero ns ((and_parts (n == 0) (list_all (λ k. k == 0) ns) all).1) y

pub all_none_kept : (t : Tac) (k : CodeFunction) (c : FunctionContents) (ns : List ℕ) → ns ≡ c.areas.items
    → list_all (λ n. n == 0) ns ≡ true → AreKept t k (may_have c)
all_none_kept t k c ns same all = record {
  kept = λ n m y i at leads other e. at_none n y;
  made = λ n m d a i at leads gives of e. at_none n a;
  words = λ n y i at takes. at_none n y;
  areas = λ n y e. at_none n y;
}
  where
    at_none : (n y : ℕ) → may_have c n y ≡ false
    at_none n y = no_area c n y (all_zero c.areas.items (ap (list_all (λ k. k == 0)) (sym same) ∙ all) y)

pub none_kept : (t : Tac) (k : CodeFunction) (c : FunctionContents) → c.areas.items ≡ [] → AreKept t k (may_have c)
none_kept t k c none = all_none_kept t k c [] (sym none) refl
