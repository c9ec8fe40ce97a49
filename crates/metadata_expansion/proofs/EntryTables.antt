-- Which temporaries have entries.
use Rattle.std.proofs.Common.{◌≡◌, ℕ, zero, suc, Bool, true, false, ◌&&◌, ◌||◌, ◌==◌, List, [], ◌∷◌, refl, sym, ap}
use Rattle.std.proofs.Common.{◌∙◌, Some, None, ◌+◌, ◌-◌, ◌<◌, ◌≤◌, ◌++◌, length, get_or, arith}
use Rattle.std.specs.Prelude.{slice_get}
use Rattle.std.proofs.lemmas.Bool.{eqb-true}
use Rattle.std.proofs.lemmas.Option.{same_Some, none-some}
use Rattle.obj_memory.specs.declared.value.Scalar.TheVariants.{Integer, Pointer}
use Rattle.c_tree.specs.declared.expression.Kind.{Kind}
use Rattle.c_tree.specs.declared.expression.Kind.TheVariants.{Void, Scalar as OfScalar, Structure, Array}
use Rattle.c_tree.specs.declared.expression.OffsetForm.{OffsetForm}
use Rattle.c_tree.specs.declared.expression.OffsetForm.TheVariants as form
use Rattle.c_tree.specs.declared.program.Variable.{Variable}
use Rattle.source_meaning.specs.Good.{plain_type}
use Rattle.tac_ir.specs.declared.instruction.Instruction.TheVariants as tac
use Rattle.tac_ir.specs.Temporaries.{temporaries}
use Rattle.metadata_plan.specs.Entries.{converted_from, read_from, written_from, pointer_of, is_among}
use Rattle.metadata_plan.specs.Entries.{is_argument_with_entry, is_moved_with_entry}
use Rattle.tac_ir.specs.declared.instruction.Instruction.{Instruction}
use Rattle.tac_ir.specs.declared.function.CodeFunction.{CodeFunction}
use Rattle.tac_ir.specs.declared.function.Tac.{Tac}
use Rattle.metadata_plan.specs.Entries.{Entries, AreClosed, entry_source, reads_entry}
use Rattle.metadata_expansion.proofs.ClosedSets.{IsBelow, below_some, among_more, or_among}
use Rattle.metadata_expansion.specs.ClosedSets.{IsClosedUnder}

converted_below : (kind : Kind) (a n : ℕ) → a < n → IsBelow (converted_from kind a) n
converted_below Void a n h = tt
converted_below (OfScalar (Integer t)) a n h = tt
converted_below (OfScalar Pointer) a n h = h
converted_below (Structure size) a n h = h
converted_below (Array size) a n h = h

read_below : (kind : Kind) (a n : ℕ) → a < n → IsBelow (read_from kind a) n
read_below Void a n h = h
read_below (OfScalar k) a n h = tt
read_below (Structure size) a n h = h
read_below (Array size) a n h = h

written_below : (kind : Kind) (a b n : ℕ) → a < n → b < n → IsBelow (written_from kind a b) n
written_below Void a b n h k = k
written_below (OfScalar (Integer t)) a b n h k = tt
written_below (OfScalar Pointer) a b n h k = k
written_below (Structure size) a b n h k = h
written_below (Array size) a b n h k = k

pointer_below : (f : OffsetForm) (a b n : ℕ) → a < n → b < n → pointer_of f a b < n
pointer_below form.PointerPlusIndex a b n h k = h
pointer_below form.IndexPlusPointer a b n h k = k
pointer_below form.PointerMinusIndex a b n h k = h

source_below : (i : Instruction) → IsBelow (entry_source i) (temporaries i)
source_below (tac.Convert kind d a m) = converted_below kind a _ (omega arith)
source_below (tac.Offset f size d a b m) = pointer_below f a b _ (omega arith) (omega arith)
source_below (tac.Narrow offset size d a m) = omega arith
source_below (tac.Member offset size d a m) = omega arith
source_below (tac.Take kind line d a m) = omega arith
source_below (tac.Read kind mode line key d a m) = read_below kind a _ (omega arith)
source_below (tac.Write kind mode line key d a b m) = written_below kind a b _ (omega arith) (omega arith)
source_below i = tt

pub source_low : (i : Instruction) (a : ℕ) → entry_source i ≡ Some a → a < temporaries i
source_low i a is = below_some (entry_source i) (temporaries i) a (source_below i) is

-- ---- arguments

both_and : (a e m : Bool) → ((a && m) || (e && m)) ≡ ((a || e) && m)
both_and true e true = refl
both_and true true false = refl
both_and true false false = refl
both_and false e m = refl

at_index : (m : ℕ → Bool) (d i y : ℕ) → (y == d + i && m i) ≡ ((y == d + i && true) && m (y - d))
at_index m d i y = by (y == d + i) refl
  where
    by : (b : Bool) → (y == d + i) ≡ b → (b && m i) ≡ ((b && true) && m (y - d))
    by true same = let e = eqb-true y (d + i) same in ap m (omega (arith, e))
    by false same = refl

pub argument_step : (b : Bool) (ks : List Kind) (d i y : ℕ)
    → ((b || is_argument_with_entry ks d i y) || (y == d + i && is_moved_with_entry (get_or ks i Void)))
    ≡ (b || is_argument_with_entry ks d (i + 1) y)
argument_step b ks d i y =
    let m : ℕ → Bool = λ j. is_moved_with_entry (get_or ks j Void) in
    or_among b (is_among d i y && m (y - d)) (y == d + i && m i)
    ∙ ap (λ z. b || z) (ap (λ z. (is_among d i y && m (y - d)) || z) (at_index m d i y)
    ∙ both_and (is_among d i y) (y == d + i && true) (m (y - d)) ∙ ap (λ z. z && m (y - d)) (among_more d i y))

-- ---- plain variables

pub type_before : (ps vs : List Variable) (x : ℕ) → x < length ps → plain_type (ps ++ vs) x ≡ plain_type ps x
type_before [] vs x low = absurd (omega (arith, low))
type_before (p ∷ ps) vs zero low = refl
type_before (p ∷ ps) vs (suc x) low = type_before ps vs x (omega (arith, low))

pub type_behind : (ps vs : List Variable) (x j : ℕ) → x ≡ length ps + j → plain_type (ps ++ vs) x ≡ plain_type vs j
type_behind [] vs x j e = ap (plain_type vs) (omega (arith, e))
type_behind (p ∷ ps) vs zero j e = absurd (omega (arith, e))
type_behind (p ∷ ps) vs (suc x) j e = type_behind ps vs x j (omega (arith, e))

pub type_at : (vs : List Variable) (x : ℕ) (v : Variable) → slice_get vs x ≡ Some v
    → plain_type (v ∷ []) 0 ≡ plain_type vs x
type_at [] x v h = absurd (none-some _ h)
type_at (w ∷ vs) zero v h = ap (λ z. plain_type (z ∷ []) 0) (sym (same_Some _ _ h))
type_at (w ∷ vs) (suc x) v h = type_at vs x v h

pub type_past : (vs : List Variable) (x : ℕ) → length vs ≤ x → plain_type vs x ≡ None
type_past [] x past = refl
type_past (w ∷ vs) zero past = absurd (omega (arith, past))
type_past (w ∷ vs) (suc x) past = type_past vs x (omega (arith, past))

-- ---- entries

pub entries_closed : (t : Tac) (c : CodeFunction) (e : Entries) → IsClosedUnder (reads_entry t c) entry_source c e
    → AreClosed t c e
entries_closed t c e h = record { read = h.read; kept = h.kept; made = h.made }
