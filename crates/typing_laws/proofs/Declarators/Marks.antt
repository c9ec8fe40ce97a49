-- States that differ in marks, uses, literals and types of functions alone.
use Rattle.std.proofs.Common.{◌≡◌, ℕ, ◌+◌, ◌≤◌, ◌==◌, Bool, true, false, ◌&&◌, refl, List, [], ◌∷◌, ◌++◌}
use Rattle.std.proofs.Common.{Option, Some, None, if◌then◌else◌, arith}
use Rattle.std.specs.Prelude.{nat_lt, length}
use Rattle.std.proofs.lemmas.Bool.{eqb-false, eqb-true, ltb-false, ltb-true}
use Rattle.c_tree.specs.declared.c_type.TypeWord.{TypeWord}
use Rattle.c_place_rules.specs.Operands.{Operand, a_value, a_place, a_variable, a_function}
use Rattle.c_scope.specs.declared.meaning.Designated.TheVariants as what
use Rattle.c_scope.specs.declared.meaning.Meaning.{Meaning}
use Rattle.c_scope.specs.declared.meaning.Meaning.TheVariants as meaning
use Rattle.c_operand_typing.specs.Calls.{place_among, with_callee_type, with_type}
use Rattle.c_operand_typing.specs.Operators.{object_taken, variable_named, with_taken}
use Rattle.c_operand_typing.specs.Primaries.{is_undefined, used_as, with_literal, with_use}
use Rattle.c_typing_state.specs.State.{Literal, State, extents}
use Rattle.typing_laws.specs.Validity.Sound.{Extended, IsFormed}
use Rattle.typing_laws.proofs.Validity.Moved.{unused_before}
use Rattle.typing_laws.proofs.Validity.Sound.{same_list, same_more}
use Rattle.typing_laws.specs.Declarators.Extending.{Extends, below, literals_at, one_if, same}
use Rattle.typing_laws.proofs.Declarators.Chained.{adds_none, extends_same}

abbrev marked : (s : State) → (taken : List Bool) → (undefined : Option ℕ) → (literals : List Literal)
    → (types : List (List TypeWord)) → (statics : ℕ) → State
marked s taken undefined literals types statics = record s {
  environment = record s.environment { statics = statics };
  function_types = types;
  taken = taken;
  undefined = undefined;
  literals = literals;
}

extends_marks : (b : Bool) (s : State) → IsFormed s → (taken : List Bool) (undefined : Option ℕ)
    (literals : List Literal) (types : List (List TypeWord)) (statics : ℕ)
    → (undefined ≡ None → s.undefined ≡ None) → Extended s.literals literals → Extended s.function_types types
    → s.environment.statics ≤ statics
    → ((n : ℕ) → literals_at n literals + below n s.environment.statics ≡ literals_at n s.literals + below n statics)
    → Extends b s (marked s taken undefined literals types statics)
extends_marks b s formed taken undefined literals types statics unused more_literals more_types low numbers = record {
  more = same_more (extents s);
  longer = omega arith;
  literals = more_literals;
  types = more_types;
  objects = refl;
  function = refl;
  facts = refl;
  entities = refl;
  statics = low;
  numbers = numbers;
  variables = λ e. refl;
  outer = refl;
  names = λ name. same refl;
  entries = λ e. adds_none s.environment.names.current;
  outer_tags = refl;
  members = λ h. record { each = h.each };
  pending = λ n p. record { begun = p.begun; incomplete = p.incomplete };
  formed = record {
    same = formed.same;
    begun = formed.begun;
    sizes = formed.sizes;
    tags = formed.tags;
    constants = formed.constants;
    typedefs = formed.typedefs;
  };
  undefined = unused;
}

use_extends : (b : Bool) (is : Bool) (line : ℕ) (s : State) → IsFormed s
    → Extends b s (if is then with_use line s else s)
use_extends b true line s formed =
    extends_marks b s formed s.taken (with_use line s).undefined s.literals s.function_types s.environment.statics
    (unused_before s.undefined line) (same_list s.literals) (same_list s.function_types) (omega arith) (λ n. refl)
use_extends b false line s formed = extends_same b s formed

pub used_extends : (b : Bool) (is : Bool) (line : ℕ) (m : Option Meaning) (s : State) → IsFormed s
    → Extends b s (used_as is line m s)
used_extends b is line None s formed = extends_same b s formed
used_extends b is line (Some (meaning.Typedef type)) s formed = extends_same b s formed
used_extends b is line (Some (meaning.Constant w)) s formed = extends_same b s formed
used_extends b is line (Some (meaning.Named (what.Object n) type)) s formed = extends_same b s formed
used_extends b is line (Some (meaning.Named (what.Static n) type)) s formed = extends_same b s formed
used_extends b is line (Some (meaning.Named (what.Function n) type)) s formed =
    use_extends b (is && is_undefined n s) line s formed
used_extends b is line (Some (meaning.Named (what.Library f) type)) s formed = extends_same b s formed
used_extends b is line (Some (meaning.Named (what.Variable n) type)) s formed = extends_same b s formed

taken_extends : (b : Bool) (x : Option ℕ) (s : State) → IsFormed s → Extends b s (with_taken x s)
taken_extends b None s formed = extends_same b s formed
taken_extends b (Some n) s formed =
    extends_marks b s formed (with_taken (Some n) s).taken s.undefined s.literals s.function_types
    s.environment.statics (λ e. e) (same_list s.literals) (same_list s.function_types) (omega arith) (λ n. refl)

object_extends : (b : Bool) (o : Operand) (s : State) → IsFormed s → Extends b s (object_taken o s)
object_extends b (a_value v) s formed = extends_same b s formed
object_extends b (a_place p) s formed = taken_extends b (variable_named p.tree) s formed
object_extends b (a_variable x) s formed = extends_same b s formed
object_extends b (a_function f) s formed = extends_same b s formed

pub address_extends : (b : Bool) (is : Bool) (o : Operand) (s : State) → IsFormed s
    → Extends b s (if is then object_taken o s else s)
address_extends b true o s formed = object_extends b o s formed
address_extends b false o s formed = extends_same b s formed

-- a literal has the next number

pub next_below : (n m : ℕ) → below n (m + 1) ≡ below n m + one_if (n == m)
next_below n m = by (nat_lt n (m + 1)) (nat_lt n m) (n == m) refl refl refl
  where
    by : (a b c : Bool) → nat_lt n (m + 1) ≡ a → nat_lt n m ≡ b → (n == m) ≡ c → one_if a ≡ one_if b + one_if c
    by true true true e f g = absurd (let x = ltb-true n m f in let y = eqb-true n m g in omega arith)
    by true true false e f g = refl
    by true false true e f g = refl
    by true false false e f g =
        absurd (eqb-false n m g (let x = ltb-true n (m + 1) e in let y = ltb-false n m f in omega arith))
    by false true c e f g = absurd (let x = ltb-false n (m + 1) e in let y = ltb-true n m f in omega arith)
    by false false true e f g = absurd (let x = ltb-false n (m + 1) e in let y = eqb-true n m g in omega arith)
    by false false false e f g = refl

literals_added : (n : ℕ) (ls : List Literal) (l : Literal)
    → literals_at n (ls ++ l ∷ []) ≡ literals_at n ls + one_if (n == l.number)
literals_added n [] l = omega arith
literals_added n (x ∷ ls) l = let more = literals_added n ls l in omega arith

literal_numbers : (n : ℕ) (ls : List Literal) (l : Literal)
    → literals_at n (ls ++ l ∷ []) + below n l.number ≡ literals_at n ls + below n (l.number + 1)
literal_numbers n ls l = let more = literals_added n ls l in let next = next_below n l.number in omega arith

literal_extends : (b : Bool) (bytes : List ℕ) (s : State) → IsFormed s → Extends b s (with_literal bytes s)
literal_extends b bytes s formed =
    extends_marks b s formed s.taken s.undefined (with_literal bytes s).literals s.function_types
    (s.environment.statics + 1) (λ e. e) (record { rest = _; is = refl }) (same_list s.function_types) (omega arith)
    (λ n. literal_numbers n s.literals
    (record { number = s.environment.statics; function = s.function; bytes = bytes }))

pub literal_by : (b : Bool) (is : Bool) (bytes : List ℕ) (s : State) → IsFormed s
    → Extends b s (if is then with_literal bytes s else s)
literal_by b true bytes s formed = literal_extends b bytes s formed
literal_by b false bytes s formed = extends_same b s formed

type_by : (b : Bool) (is : Bool) (type : List TypeWord) (s : State) → IsFormed s
    → Extends b s (if is then s else record s { function_types = s.function_types ++ type ∷ [] })
type_by b true type s formed = extends_same b s formed
type_by b false type s formed =
    extends_marks b s formed s.taken s.undefined s.literals (s.function_types ++ type ∷ []) s.environment.statics
    (λ e. e) (same_list s.literals) (record { rest = type ∷ []; is = refl }) (omega arith) (λ n. refl)

pub type_extends : (b : Bool) (type : List TypeWord) (s : State) → IsFormed s → Extends b s (with_type type s)
type_extends b type s formed =
    type_by b (nat_lt (place_among type s.function_types) (length s.function_types)) type s formed

pub callee_extends : (b : Bool) (o : Option (List TypeWord)) (s : State) → IsFormed s
    → Extends b s (with_callee_type o s)
callee_extends b None s formed = extends_same b s formed
callee_extends b (Some type) s formed = type_extends b type s formed
