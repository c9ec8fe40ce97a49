-- Fields of instructions as text, and read from it.
use Rattle.std.specs.Prelude.{ℕ, ◌+◌, ◌-◌, ◌*◌, ◌%◌, ◌^◌, min, Bool, true, false, not, ◌&&◌, ◌||◌, ◌==◌}
use Rattle.std.specs.Prelude.{nat_le, nat_lt}
use Rattle.std.specs.Prelude.{if◌then◌else◌, List, [], ◌∷◌, ◌++◌, Option, Some, None, option_map, option_and_then}
use Rattle.std.specs.Prelude.{Result, Ok, Err, decimal}
use Rattle.rv_listing.specs.declared.fault.ListFault.{ListFault}
use Rattle.rv_listing.specs.declared.fault.ListFault.TheVariants as fault
use Rattle.rv_listing.specs.declared.operands.Field.{Field}
use Rattle.rv_listing.specs.declared.operands.Field.TheVariants.{Register, Unsigned, Signed, Offset}
use Rattle.rv_listing.specs.declared.operands.Shape.{Shape}
use Rattle.rv_listing.specs.declared.operands.Shape.TheVariants.{Empty, Pair, Triple, Based}
use Rattle.rv_listing.specs.declared.operands.Operands.{Operands}
use Rattle.rv_listing.specs.Operands.{operands}

-- the number by which a fault is reported
abbrev pub fault_number : ListFault → ℕ
fault_number fault.Form = 1
fault_number fault.Range = 2
fault_number fault.Length = 3

-- the text

-- a number of two's complement, of which so many are below zero as not
unfoldable pub signed_text : (half n : ℕ) → List ℕ
signed_text half n = if nat_lt n half then decimal n else 45 ∷ decimal (2 * half - n)

unfoldable pub field_text : Field → ℕ → List ℕ
field_text Register n = 120 ∷ decimal n
field_text (Unsigned count) n = decimal n
field_text (Signed half) n = signed_text half n
field_text (Offset half) n = signed_text half n

-- a space, and operands parted by commas, the base of an address in parentheses
unfoldable pub operands_text : Shape → Operands → List ℕ
operands_text Empty o = []
operands_text (Pair f) o = 32 ∷ (field_text Register o.first ++ (44 ∷ field_text f o.second))
operands_text (Triple f) o =
    32 ∷ (field_text Register o.first ++ (44 ∷ (field_text Register o.second ++ (44 ∷ field_text f o.third))))
operands_text Based o =
    32 ∷ (field_text Register o.first ++ (44 ∷ (field_text (Signed (2 ^ 11)) o.second
    ++ (40 ∷ (field_text Register o.third ++ (41 ∷ []))))))

-- the way back

abbrev pub is_digit : ℕ → Bool
is_digit c = nat_le 48 c && nat_le c 57

unfoldable pub are_digits : List ℕ → Bool
are_digits [] = true
are_digits (c ∷ cs) = is_digit c && are_digits cs

-- The number of digits behind others. In place of a number above 2 ^ 64 - 1, which no field has, it is that.
unfoldable pub value_from : ℕ → List ℕ → ℕ
value_from v [] = v
value_from v (c ∷ cs) = value_from (min (v * 10 + (c - 48)) (2 ^ 64 - 1)) cs

-- digits, without a zero in front of others
unfoldable pub is_numeral : List ℕ → Bool
is_numeral [] = false
is_numeral (c ∷ []) = is_digit c
is_numeral (c ∷ d ∷ cs) = not (c == 48) && are_digits (c ∷ d ∷ cs)

unfoldable pub number_in : List ℕ → Option ℕ
number_in cs = if is_numeral cs then Some (value_from 0 cs) else None

-- below zero or not, and how much: `-` stands only before a number other than 0
abbrev pub below_zero : ℕ → Option (Bool × ℕ)
below_zero n = if n == 0 then None else Some (true, n)

abbrev pub from_zero : ℕ → Bool × ℕ
from_zero n = (false, n)

unfoldable pub signed_in : List ℕ → Option (Bool × ℕ)
signed_in [] = None
signed_in (c ∷ cs) =
    if c == 45 then option_and_then below_zero (number_in cs) else option_map from_zero (number_in (c ∷ cs))

unfoldable pub register_in : List ℕ → Option (Bool × ℕ)
register_in [] = None
register_in (c ∷ cs) = if c == 120 then option_map from_zero (number_in cs) else None

unfoldable pub written_in : Field → List ℕ → Option (Bool × ℕ)
written_in Register cs = register_in cs
written_in (Unsigned count) cs = signed_in cs
written_in (Signed half) cs = signed_in cs
written_in (Offset half) cs = signed_in cs

-- the number in a field, where what is written fits it
abbrev pub unless_range : Bool → ℕ → Result ℕ ListFault
unless_range fits n = if fits then Ok n else Err fault.Range

unfoldable pub signed_field : (half : ℕ) → Bool × ℕ → Result ℕ ListFault
signed_field half (false, n) = unless_range (nat_lt n half) n
signed_field half (true, n) = unless_range (nat_le n half) (2 * half - n)

unfoldable pub in_field : Field → Bool × ℕ → Result ℕ ListFault
in_field Register (sign, n) = unless_range (not sign && nat_lt n (2 ^ 5)) n
in_field (Unsigned count) (sign, n) = unless_range (not sign && nat_lt n count) n
in_field (Signed half) x = signed_field half x
in_field (Offset half) (sign, n) = if n % 2 == 0 then signed_field half (sign, n) else Err fault.Range

abbrev pub if_written : Field → Option (Bool × ℕ) → Result ℕ ListFault
if_written f None = Err fault.Form
if_written f (Some x) = in_field f x

unfoldable pub read_field : Field → List ℕ → Result ℕ ListFault
read_field f cs = if_written f (written_in f cs)

-- what stands before a byte and what behind it, where it is there
unfoldable pub cut : ℕ → List ℕ → Option (List ℕ × List ℕ)
cut b [] = None
cut b (c ∷ cs) = if c == b then Some ([], cs) else option_map (λ p. (c ∷ p.0, p.1)) (cut b cs)

-- Fields beside one another. That one is badly formed comes before that one does not fit.
abbrev pub is_form : Result ℕ ListFault → Bool
is_form (Ok n) = false
is_form (Err fault.Form) = true
is_form (Err fault.Range) = false
is_form (Err fault.Length) = false

abbrev pub each : Result ℕ ListFault → Result ℕ ListFault → Result ℕ ListFault → Result Operands ListFault
each (Ok a) (Ok b) (Ok c) = Ok (operands a b c)
each (Ok a) (Ok b) (Err e) = Err e
each (Ok a) (Err e) c = Err e
each (Err e) b c = Err e

unfoldable pub together : Result ℕ ListFault → Result ℕ ListFault → Result ℕ ListFault → Result Operands ListFault
together a b c = if is_form a || (is_form b || is_form c) then Err fault.Form else each a b c

-- the operands of each form of a text, which is what stands behind the space

abbrev pub of_pair : Field → Option (List ℕ × List ℕ) → Result Operands ListFault
of_pair f None = Err fault.Form
of_pair f (Some p) = together (read_field Register p.0) (read_field f p.1) (Ok 0)

abbrev pub of_triple : Field → List ℕ → Option (List ℕ × List ℕ) → Result Operands ListFault
of_triple f first None = Err fault.Form
of_triple f first (Some p) = together (read_field Register first) (read_field Register p.0) (read_field f p.1)

abbrev pub in_triple : Field → Option (List ℕ × List ℕ) → Result Operands ListFault
in_triple f None = Err fault.Form
in_triple f (Some p) = of_triple f p.0 (cut 44 p.1)

abbrev pub of_based : List ℕ → List ℕ → Option (List ℕ × List ℕ) → Result Operands ListFault
of_based first second None = Err fault.Form
of_based first second (Some (base, [])) =
    together (read_field Register first) (read_field (Signed (2 ^ 11)) second) (read_field Register base)
of_based first second (Some (base, (c ∷ cs))) = Err fault.Form

abbrev pub before_base : List ℕ → Option (List ℕ × List ℕ) → Result Operands ListFault
before_base first None = Err fault.Form
before_base first (Some p) = of_based first p.0 (cut 41 p.1)

abbrev pub in_based : Option (List ℕ × List ℕ) → Result Operands ListFault
in_based None = Err fault.Form
in_based (Some p) = before_base p.0 (cut 40 p.1)

unfoldable pub read_operands : Shape → List ℕ → Result Operands ListFault
read_operands Empty cs = Err fault.Form
read_operands (Pair f) cs = of_pair f (cut 44 cs)
read_operands (Triple f) cs = in_triple f (cut 44 cs)
read_operands Based cs = in_based (cut 44 cs)
