-- Pointers move by numbers modulo 2 ^ 64.
use Rattle.std.proofs.Common.{◌≡◌, ℕ, ◌+◌, ◌-◌, ◌%◌, ◌^◌, ◌==◌, ◌∙◌, sym, ap, zero-add, Bool, true, false}
use Rattle.std.proofs.Common.{Some, None, if◌then◌else◌}
use Rattle.std.proofs.Math.Nat.{add-mod-mod}
use Rattle.obj_memory.specs.declared.int_type.IntType.TheVariants.{Long}
use Rattle.obj_memory.specs.declared.operator.BinaryOperator.TheVariants.{Divide}
use Rattle.obj_memory.specs.declared.value.Value.{Value}
use Rattle.obj_memory.specs.Integers.{fit, is_signed}
use Rattle.obj_memory.specs.Operators.{binary_value, quotient}
use Rattle.source_meaning.specs.Actions.{difference_value, integer}

pub forward_wraps : (word offset : ℕ) → (word + offset % 2 ^ 64) % 2 ^ 64 ≡ (word + offset) % 2 ^ 64
forward_wraps word offset = add-mod-mod word offset (2 ^ 64)

pub back_wraps : (word offset : ℕ)
    → (word + (0 + (2 ^ 64 - offset)) % 2 ^ 64) % 2 ^ 64 ≡ (word + (2 ^ 64 - offset)) % 2 ^ 64
back_wraps word offset =
    ap (λ n. (word + n % 2 ^ 64) % 2 ^ 64) (zero-add (2 ^ 64 - offset)) ∙ add-mod-mod word (2 ^ 64 - offset) (2 ^ 64)

-- the difference of two pointers

some_else : {A : Type 0} (b : Bool) (x y : A) → Some x ≡ (if b then None else Some y) → x ≡ y
some_else true x y e = absurd (cc)
some_else false x y e = cc

pub differs : (left right v : Value) (size bytes word : ℕ) → bytes ≡ (left.word + (2 ^ 64 - right.word)) % 2 ^ 64
    → Some word ≡ binary_value Divide Long bytes size → v ≡ integer word → v ≡ difference_value size left right
unfolding binary_value fit is_signed
differs left right v size bytes word e s h =
    h ∙ ap integer (some_else (size == 0) word (fit Long (quotient true bytes size)) s)
    ∙ ap (λ x. integer (fit Long (quotient true x size)))
    (e ∙ sym (add-mod-mod left.word (2 ^ 64 - right.word) (2 ^ 64)))

pub ruleset differing = (differs)
