-- What the code of expressions and lvalues leaves for what follows, of 8 units for each node, and what that pays for.
use Rattle.std.proofs.Common.{◌≡◌, ℕ, ◌+◌, ◌*◌, ◌≤◌, List, [], ◌∷◌, Option, Some, None, Bool, true, false, refl, ap}
use Rattle.std.proofs.Common.{subst, arith}
use Rattle.obj_memory.specs.declared.value.Scalar.TheVariants.{Integer, Pointer}
use Rattle.obj_memory.specs.declared.value.Value.{Value}
use Rattle.obj_memory.specs.declared.judgement.Verdict.{Verdict}
use Rattle.obj_memory.specs.declared.judgement.Verdict.TheVariants.{Outside, Dead, Inside}
use Rattle.obj_memory.specs.Objects.{ObjectState, object_at, new_object}
use Rattle.c_tree.specs.declared.expression.Kind.{Kind}
use Rattle.c_tree.specs.declared.expression.Kind.TheVariants.{Void, Scalar as OfScalar, Structure, Array}
use Rattle.c_tree.specs.declared.format.Directive.{Directive}
use Rattle.c_tree.specs.declared.format.Directive.TheVariants as directive
use Rattle.c_tree.specs.declared.format.Piece.{Piece}
use Rattle.c_tree.specs.Format.{directives}
use Rattle.c_tree.specs.Kinds.{fits_directive, fit_directives}
use Rattle.c_tree.specs.Tree.{Expression, Expressions, no_expressions, expressions, kind_of, kinds_of}
use Rattle.c_tree.specs.Valid.{is_converted, are_printed}
use Rattle.source_meaning.specs.State.{State, Rvalue, Outcome, Gives, Ended, Paused, on, ◌>>◌, read_state, tally}
use Rattle.source_meaning.specs.Actions.{place_or_stop, verdict_on}
use Rattle.source_meaning.specs.Structures.{moved_into, contents_of, with_contents, taken, take_value}
use Rattle.source_meaning.proofs.Naming.{IsNoStructure}
use Rattle.source_meaning.proofs.ValidNames.{both}
use Rattle.tac_ir.specs.Costs.{entries_of, stores_of, parts_of, updates_of, checks_of, handing}
use Rattle.c_lower.specs.Values.{mode_for, count}

-- what is left of an expression for what follows: it pays for a conversion and three units more, and of a structure for
-- finding or moving its contents
abbrev pub plain_left : (is_converted : Bool) → ℕ
plain_left true = 3
plain_left false = 4

abbrev pub left_by : Kind → (is_converted : Bool) → ℕ
left_by (Structure n) converted = 6
left_by _ converted = plain_left converted

pub three_left : (kind : Kind) (converted : Bool) → 3 ≤ left_by kind converted
three_left Void true = omega arith
three_left Void false = omega arith
three_left (OfScalar k) true = omega arith
three_left (OfScalar k) false = omega arith
three_left (Structure n) converted = omega arith
three_left (Array n) true = omega arith
three_left (Array n) false = omega arith

pub four_left : (kind : Kind) → 4 ≤ left_by kind false
four_left Void = omega arith
four_left (OfScalar k) = omega arith
four_left (Structure n) = omega arith
four_left (Array n) = omega arith

pub most_left : (kind : Kind) → left_by kind false ≤ 6
most_left Void = omega arith
most_left (OfScalar k) = omega arith
most_left (Structure n) = omega arith
most_left (Array n) = omega arith

pub converted_left : (kind : Kind) (converted : Bool) → left_by kind true ≤ left_by kind converted
converted_left Void true = omega arith
converted_left Void false = omega arith
converted_left (OfScalar k) true = omega arith
converted_left (OfScalar k) false = omega arith
converted_left (Structure n) converted = omega arith
converted_left (Array n) true = omega arith
converted_left (Array n) false = omega arith

-- of what is no structure
pub plainly_left : (kind : Kind) (converted : Bool) → IsNoStructure kind → left_by kind converted ≡ plain_left converted
plainly_left Void converted h = refl
plainly_left (OfScalar k) converted h = refl
plainly_left (Structure n) converted h = absurd h
plainly_left (Array n) converted h = refl

-- what is left of an lvalue: it pays for its access and, where it leads through a pointer, for two checks
abbrev pub place_left : (is_judged : Bool) → ℕ
place_left true = 9
place_left false = 7

pub seven_left : (j : Bool) → 7 ≤ place_left j
seven_left true = omega arith
seven_left false = omega arith

pub read_cost : (kind : Kind) (j : Bool)
    → 1 + entries_of kind + checks_of (mode_for j) + left_by kind false ≤ place_left j
read_cost (OfScalar Pointer) true = omega arith
read_cost (OfScalar Pointer) false = omega arith
read_cost (OfScalar (Integer t)) true = omega arith
read_cost (OfScalar (Integer t)) false = omega arith
read_cost Void true = omega arith
read_cost Void false = omega arith
read_cost (Structure n) true = omega arith
read_cost (Structure n) false = omega arith
read_cost (Array n) true = omega arith
read_cost (Array n) false = omega arith

checks_most : (j : Bool) → checks_of (mode_for j) + 7 ≤ place_left j
checks_most true = omega arith
checks_most false = omega arith

stores_most : (kind : Kind) → stores_of kind ≤ 5
stores_most (OfScalar Pointer) = omega arith
stores_most (OfScalar (Integer t)) = omega arith
stores_most Void = omega arith
stores_most (Structure n) = omega arith
stores_most (Array n) = omega arith

updates_most : (kind : Kind) → updates_of kind ≤ 6
updates_most (OfScalar Pointer) = omega arith
updates_most (OfScalar (Integer t)) = omega arith
updates_most Void = omega arith
updates_most (Structure n) = omega arith
updates_most (Array n) = omega arith

pub write_cost : (kind : Kind) (j : Bool) → 1 + stores_of kind + checks_of (mode_for j) + 1 ≤ place_left j
write_cost kind j = omega (arith, stores_most kind, checks_most j)

pub update_cost : (kind : Kind) (j : Bool) → 1 + updates_of kind + checks_of (mode_for j) ≤ place_left j
update_cost kind j = omega (arith, updates_most kind, checks_most j)

-- a part of an object is stored from what its expression left
pub store_cost : (kind : Kind) → 1 + parts_of kind ≤ left_by kind true
store_cost (OfScalar Pointer) = omega arith
store_cost (OfScalar (Integer t)) = omega arith
store_cost Void = omega arith
store_cost (Structure n) = omega arith
store_cost (Array n) = omega arith

-- what is left of an argument or a result once its contents are found, beside what pays for handing them on

abbrev pub taken_left : Kind → ℕ
taken_left (Structure n) = 0
taken_left _ = 3

taken_size : (size source : ℕ) (from : ObjectState) → (contents_of size source from).size ≡ size
unfolding moved_into new_object
taken_size size source from = refl

abbrev PaysBy : State → Outcome Rvalue → Type 0
PaysBy s (Gives w s') = 4 * s.work + handing w ≤ 4 * s'.work + 1
PaysBy s (Ended e s') = Unit {0}
PaysBy s (Paused s') = Unit {0}

place_pays : (verdict : Verdict) (size line : ℕ) (s : State)
    → PaysBy s (on (place_or_stop verdict line s) (λ p. tally size
    >> read_state (λ s. with_contents size p.offset (object_at s.objects p.object))))
place_pays Outside size line s = tt
place_pays Dead size line s = tt
place_pays (Inside p) size line s = omega (arith, taken_size size p.offset (object_at s.objects p.object))

take_pays : (c : Option ObjectState) (size line : ℕ) (v : Value) (s : State) → PaysBy s (taken c size v line s)
take_pays None size line v s = place_pays (verdict_on false size v s.objects) size line s
take_pays (Some c) size line v s = omega (arith, taken_size size v.word c)

pub taken_pays : (size line : ℕ) (v : Rvalue) (s : State) (w : Rvalue) (s' : State)
    → take_value (Structure size) line v s ≡ Gives w s' → 4 * s.work + handing w ≤ 4 * s'.work + 1
taken_pays size line v s w s' e = subst (PaysBy s) e (take_pays v.contents size line v.value s)

abbrev pub left : Expression → ℕ
left e = left_by (kind_of e) (is_converted e)

pub not_converted : (e : Expression) → is_converted e ≡ false → 4 ≤ left e
not_converted e h = let same = ap (left_by (kind_of e)) h in omega (arith, same, four_left (kind_of e))

-- what the arguments of a call leave
abbrev pub args_left : Expressions → ℕ
args_left no_expressions = 0
args_left (expressions e es) = taken_left (kind_of e) + args_left es

-- those of a format are no structures
fits_plain : (d : Directive) (k : Kind) → fits_directive d k ≡ true → taken_left k ≡ 3
fits_plain d Void e = refl
fits_plain d (OfScalar k) e = refl
fits_plain d (Array n) e = refl
fits_plain directive.Int (Structure n) e = cc
fits_plain directive.UnsignedInt (Structure n) e = cc
fits_plain directive.Hexadecimal (Structure n) e = cc
fits_plain directive.Character (Structure n) e = cc
fits_plain directive.Long (Structure n) e = cc
fits_plain directive.UnsignedLong (Structure n) e = cc
fits_plain directive.String (Structure n) e = cc

printed_left : (ds : List Directive) (es : Expressions) → fit_directives ds (kinds_of es) ≡ true
    → args_left es ≡ 3 * count es
printed_left [] no_expressions h = refl
printed_left [] (expressions e es) h = cc
printed_left (d ∷ ds) no_expressions h = cc
printed_left (d ∷ ds) (expressions e es) h =
    let q = both (fits_directive d (kind_of e)) (fit_directives ds (kinds_of es)) h in
    let one = fits_plain d (kind_of e) q.0 in
    let others = printed_left ds es q.1 in
    omega arith

pub formatted_left : (ps : Option (List Piece)) (es : Expressions) → are_printed ps (kinds_of es) ≡ true
    → args_left es ≡ 3 * count es
formatted_left None es h = cc
formatted_left (Some ps) es h = printed_left (directives ps) es h
