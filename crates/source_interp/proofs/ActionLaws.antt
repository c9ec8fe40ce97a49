-- What actions of expressions are, by the values that they take.
use Rattle.std.proofs.Common.{◌≡◌, ℕ, refl, ap, sym, ◌∙◌, not, Bool, false, List}
use Rattle.c_tree.specs.Kinds.{size_of_kind}
use Rattle.obj_memory.specs.declared.int_type.IntType.{IntType}
use Rattle.obj_memory.specs.declared.operator.BinaryOperator.{BinaryOperator}
use Rattle.obj_memory.specs.declared.operator.UnaryOperator.{UnaryOperator}
use Rattle.obj_memory.specs.declared.value.Scalar.{Scalar}
use Rattle.obj_memory.specs.declared.value.Value.{Value}
use Rattle.obj_memory.specs.Judgement.{narrowed}
use Rattle.obj_memory.specs.Objects.{pointer_to}
use Rattle.obj_memory.specs.Operators.{one_if, unary_value}
use Rattle.c_tree.specs.declared.expression.Fixity.{Fixity}
use Rattle.c_tree.specs.declared.expression.Kind.{Kind}
use Rattle.c_tree.specs.declared.expression.OffsetForm.{OffsetForm}
use Rattle.c_tree.specs.declared.expression.Update.{Update}
use Rattle.source_meaning.specs.State.{◌>>◌, done, read_state, tally}
use Rattle.source_meaning.specs.Actions.{converted, difference_value, home_pointer, integer, is_zero, offset_value}
use Rattle.source_meaning.specs.Actions.{operate, plain_value, set_plain, update, update_plain, updated}
use Rattle.source_meaning.specs.Structures.{as_rvalue, give, member_of, read_rvalue, take_value, write_rvalue}
use Rattle.source_meaning.specs.Initializers.{zero_variable}
use Rattle.source_meaning.specs.State.{Rvalue}
use Rattle.source_meaning.specs.Calls.{first_of, rest_of}
use Rattle.source_interp.specs.Storing.{store_literal}
use Rattle.interpreter_tasks.specs.Registers.{Course, Registers, below_second, below_top, popped, pushing, second, top}
use Rattle.interpreter_tasks.specs.Actions.{Give, GivePlain, GiveHome, GiveStatic, Read, AsPointer, Convert, Apply}
use Rattle.interpreter_tasks.specs.Actions.{Truth, Narrow, Member, Operate, Offset, Write, SetPlain, Change}
use Rattle.interpreter_tasks.specs.Actions.{ChangePlain, Count, Difference, StoreLiteral, StorePart, Take, Zero, act}

pub gives : (v : Value) (c : Course) (r : Registers)
    → act c (Give v) r ≡ pushing r r.values (give v)
unfolding act
gives v c r = refl

pub gives_plain : (x : ℕ) (c : Course) (r : Registers)
    → act c (GivePlain x) r ≡ pushing r r.values (as_rvalue (read_state (plain_value x)))
unfolding act
gives_plain x c r = refl

pub gives_home : (x : ℕ) (c : Course) (r : Registers)
    → act c (GiveHome x) r ≡ pushing r r.values (as_rvalue (read_state (home_pointer x)))
unfolding act
gives_home x c r = refl

pub gives_static : (n : ℕ) (c : Course) (r : Registers)
    → act c (GiveStatic n) r ≡ pushing r r.values (as_rvalue (read_state (λ s. pointer_to n s.objects)))
unfolding act
gives_static n c r = refl

pub reads : (k : Kind) (j : Bool) (line : ℕ) (c : Course) (r : Registers)
    → act c (Read k j line) r ≡ pushing r (below_top r) (read_rvalue k j (top r) line)
unfolding act
reads k j line c r = refl

pub points : (c : Course) (r : Registers)
    → act c AsPointer r ≡ pushing r (below_top r) (give (top r).value)
unfolding act
points c r = refl

pub converts : (k : Kind) (c : Course) (r : Registers)
    → act c (Convert k) r ≡ pushing r (below_top r) (give (converted k (top r).value))
unfolding act
converts k c r = refl

pub applies : (op : UnaryOperator) (t : IntType) (c : Course) (r : Registers)
    → act c (Apply op t) r ≡ pushing r (below_top r) (give (integer (unary_value op t (top r).value.word)))
unfolding act
applies op t c r = refl

pub truths : (c : Course) (r : Registers)
    → act c Truth r ≡ pushing r (below_top r) (give (integer (one_if (not (is_zero (top r).value)))))
unfolding act
truths c r = refl

pub narrows : (offset size : ℕ) (c : Course) (r : Registers)
    → act c (Narrow offset size) r ≡ pushing r (below_top r) (give (narrowed offset size (top r).value))
unfolding act
narrows offset size c r = refl

pub members : (offset size : ℕ) (c : Course) (r : Registers)
    → act c (Member offset size) r ≡ pushing r (below_top r) (done (member_of offset size (top r)))
unfolding act
members offset size c r = refl

pub operates : (op : BinaryOperator) (t : IntType) (line : ℕ) (c : Course) (r : Registers)
    → act c (Operate op t line) r ≡ pushing r (below_second r)
    (as_rvalue (operate op t (second r).value (top r).value line))
unfolding act
operates op t line c r = refl

pub offsets : (form : OffsetForm) (size : ℕ) (c : Course) (r : Registers)
    → act c (Offset form size) r ≡ pushing r (below_second r)
    (give (offset_value form size (second r).value (top r).value))
unfolding act
offsets form size c r = refl

pub writes : (k : Kind) (j : Bool) (line : ℕ) (c : Course) (r : Registers)
    → act c (Write k j line) r ≡ pushing r (below_second r)
    (write_rvalue k j (second r).value line (top r))
unfolding act
writes k j line c r = refl

pub sets_plain : (x : ℕ) (c : Course) (r : Registers)
    → act c (SetPlain x) r ≡ pushing r (below_top r) (do
      set_plain x (top r).value
      give (top r).value)
unfolding act
sets_plain x c r = refl

pub changes : (u : Update) (k : Scalar) (j : Bool) (place_line line : ℕ) (f : Fixity) (c : Course) (r : Registers)
    → act c (Change u k j place_line line f) r ≡ pushing r (below_second r)
    (as_rvalue (update k j (second r).value place_line (updated u k (top r).value line) f))
unfolding act
changes u k j place_line line f c r = refl

pub changes_plain : (u : Update) (k : Scalar) (x line : ℕ) (f : Fixity) (c : Course) (r : Registers)
    → act c (ChangePlain u k x line f) r ≡ pushing r (below_top r)
    (as_rvalue (update_plain x (updated u k (top r).value line) f))
unfolding act
changes_plain u k x line f c r = refl

pub differs : (size : ℕ) (c : Course) (r : Registers)
    → act c (Difference size) r ≡ pushing r (below_second r)
    (as_rvalue (done (difference_value size (second r).value (top r).value)))
unfolding act
differs size c r = refl

pub takes : (k : Kind) (line : ℕ) (c : Course) (r : Registers)
    → act c (Take k line) r ≡ pushing r (below_top r) (take_value k line (top r))
unfolding act
takes k line c r = refl

pub counts : (n : ℕ) (c : Course) (r : Registers) → act c (Count n) r ≡ (tally n >> done r)
unfolding act
counts n c r = refl

pub zeroes : (x : ℕ) (c : Course) (r : Registers) → act c (Zero x) r ≡ (zero_variable x >> done r)
unfolding act
zeroes x c r = refl

-- those that look at values and do not take them, by the values found

module _ (values : List Rvalue) (object : Value) where
  pub stores_literal : (offset : ℕ) (bytes : List ℕ) → object ≡ (first_of values).value
      → (c : Course) (r : Registers) → r.values ≡ values
      → act c (StoreLiteral offset bytes) r ≡ (store_literal object offset bytes >> done r)
  unfolding act
  stores_literal offset bytes e c r is =
      ap (λ v. store_literal v offset bytes >> done r) (ap (λ vs. (first_of vs).value) is ∙ sym e)

  pub stores_part : (k : Kind) (offset line : ℕ) (place : Value) (v : Rvalue) → v ≡ first_of values
      → object ≡ (first_of (rest_of values)).value → place ≡ narrowed offset (size_of_kind k) object
      → (c : Course) (r : Registers) → r.values ≡ values
      → act c (StorePart k offset line) r ≡ (write_rvalue k false place line v >> done (popped r))
  unfolding act
  stores_part k offset line place v e e' e'' c r is =
      ap (λ x. write_rvalue k false (narrowed offset (size_of_kind k) (second r).value) line x >> done (popped r))
      (ap first_of is ∙ sym e)
      ∙ ap (λ x. write_rvalue k false (narrowed offset (size_of_kind k) x) line v >> done (popped r))
      (ap (λ vs. (first_of (rest_of vs)).value) is ∙ sym e')
      ∙ ap (λ x. write_rvalue k false x line v >> done (popped r)) (sym e'')
