-- The line of a piece is read back.
use Rattle.std.proofs.Common.{rules, ◌≡◌, ℕ, ◌+◌, ◌*◌, ◌/◌, ◌%◌, ◌^◌, ◌<◌, ◌≤◌, Bool, true, false}
use Rattle.std.proofs.Common.{not, ◌&&◌, ◌==◌}
use Rattle.std.proofs.Common.{List, [], ◌∷◌, length, drop, replicate, refl, ap, ◌∙◌, arith, Some, None, Ok, Err}
use Rattle.std.proofs.lemmas.List.{length-replicate}
use Rattle.std.specs.Prelude.{decimal, codes, flat_map, if◌then◌else◌, option_map, nat_le, nat_lt, nat_eq}
use Rattle.std.specs.List.{starts_with}
use Rattle.rv_isa.specs.Table.{IsOfTable}
use Rattle.rv_listing.specs.declared.fault.ListFault.TheVariants as fault
use Rattle.rv_listing.specs.Lines.{Piece, image, instruction, zeros, group, piece_bytes, piece_text, instruction_bytes}
use Rattle.rv_listing.specs.Lines.{instruction_text, byte_text, hexadecimal_digit, size_of, size_in, image_in, is_hexadecimal}
use Rattle.rv_listing.specs.Lines.{hexadecimal_value, byte_in, with_byte, bytes_in, unless_form, group_in, if_ok, read_instruction}
use Rattle.rv_listing.specs.Lines.{read_line}
use Rattle.rv_listing.proofs.Digits.{decimal_reads, all_digits, and_true, and_left, and_right}
use Rattle.rv_listing.proofs.Cutting.{lacks, digits_lack, is_other}
use Rattle.rv_listing.proofs.FieldsRead.{unsigned_read}
use Rattle.rv_listing.proofs.InstructionRead.{instruction_read, instruction_lacks, instruction_begins, begins_low}

-- bytes below 256
abbrev pub AreBytes : List ℕ → Type 0
AreBytes [] = Unit {0}
AreBytes (b ∷ bs) = (b < 256) × AreBytes bs

-- a piece behind the first
abbrev pub IsGood : Piece → Type 0
IsGood (image n) = ⊥
IsGood (instruction i) = IsOfTable i
IsGood (zeros n) = 1 ≤ n
IsGood (group bs) = (1 ≤ length bs) × (length bs ≤ 4) × AreBytes bs

-- counts

in_size : (b : Bool) (n : ℕ) → b ≡ true → (if b then Ok n else Err fault.Range) ≡ Ok n
in_size b n e = ap (λ x. if x then Ok n else Err fault.Range) e

is_size : (n : ℕ) → 1 ≤ n → n ≤ 67108864 → (nat_le 1 n && nat_le n 67108864) ≡ true
is_size n some few = search (rules, some, few)

size_read : (n : ℕ) → 1 ≤ n → n ≤ 67108864 → size_in (decimal n) ≡ Ok n
unfolding size_in
size_read n some few =
    ap size_of (unsigned_read n (omega (arith, few))) ∙ in_size (nat_le 1 n && nat_le n 67108864) n (is_size n some few)

pub image_read : (n : ℕ) → 1 ≤ n → n ≤ 67108864 → image_in (piece_text (image n)) ≡ Ok n
unfolding image_in piece_text
image_read n some few = size_read n some few

-- bytes

digit_again : (d : ℕ) (b : Bool) → nat_lt d 10 ≡ b → d < 16
    → is_hexadecimal (if b then 48 + d else 87 + d) && (hexadecimal_value (if b then 48 + d else 87 + d) == d) ≡ true
digit_again d true e lt = search (rules, e, lt)
digit_again d false e lt = search (rules, e, lt)

digit_is : (d : ℕ) → d < 16 → is_hexadecimal (hexadecimal_digit d) ≡ true
digit_is d lt = and_left _ (hexadecimal_value (hexadecimal_digit d) == d) (digit_again d (nat_lt d 10) refl lt)

same : (m n : ℕ) → (m == n) ≡ true → m ≡ n
same m n e = search (rules, e)

digit_value : (d : ℕ) → d < 16 → hexadecimal_value (hexadecimal_digit d) ≡ d
digit_value d lt =
    same _ d (and_right (is_hexadecimal (hexadecimal_digit d)) _ (digit_again d (nat_lt d 10) refl lt))

byte_read : (b : ℕ) → b < 256 → byte_in 32 (hexadecimal_digit (b / 16)) (hexadecimal_digit (b % 16)) ≡ Some b
byte_read b lt =
    let high : b / 16 < 16 = omega (arith, lt) in
    let low : b % 16 < 16 = omega arith in
    ap (λ x. if x then Some (hexadecimal_value (hexadecimal_digit (b / 16)) * 16 + hexadecimal_value (hexadecimal_digit
    (b % 16))) else None)
    (and_true (is_hexadecimal (hexadecimal_digit (b / 16))) (is_hexadecimal (hexadecimal_digit (b % 16))) (digit_is (b / 16) high)
    (digit_is (b % 16) low))
    ∙ ap Some (ap (λ x. x * 16 + hexadecimal_value (hexadecimal_digit (b % 16))) (digit_value (b / 16) high)
    ∙ ap (λ x. b / 16 * 16 + x) (digit_value (b % 16) low) ∙ omega arith)

bytes_read : (bs : List ℕ) → AreBytes bs → bytes_in (flat_map byte_text bs) ≡ Some bs
unfolding bytes_in byte_text
bytes_read [] h = refl
bytes_read (b ∷ bs) h =
    ap (λ x. with_byte x (bytes_in (flat_map byte_text bs))) (byte_read b h.0)
    ∙ ap (option_map (λ cs. b ∷ cs)) (bytes_read bs h.1)

text_length : (bs : List ℕ) → length (flat_map byte_text bs) ≡ 3 * length bs
unfolding byte_text
text_length [] = refl
text_length (b ∷ bs) = let e = text_length bs in omega (arith, e)

few_bytes : (n m : ℕ) → m ≡ 3 * n → 1 ≤ n → n ≤ 4 → (nat_le 1 m && nat_le m 12) ≡ true
few_bytes n m e some few = search (rules, e, some, few)

group_read : (bs : List ℕ) → 1 ≤ length bs → length bs ≤ 4 → AreBytes bs → group_in (flat_map byte_text bs) ≡ Ok bs
unfolding group_in
group_read bs some few h =
    ap (λ b. if b then unless_form (bytes_in (flat_map byte_text bs)) else Err fault.Form)
    (few_bytes (length bs) (length (flat_map byte_text bs)) (text_length bs) some few)
    ∙ ap unless_form (bytes_read bs h)

-- lines

differs : (c : ℕ) → nat_le 97 c ≡ true → nat_eq 46 c ≡ false
differs c e = search (rules, e)

first_false : (a b : Bool) → a ≡ false → a && b ≡ false
first_false true b e = absurd cc
first_false false b e = refl

no_zeros : (cs : List ℕ) → begins_low cs ≡ true → starts_with nat_eq cs (codes ".zero ") ≡ false
no_zeros [] e = absurd cc
no_zeros (c ∷ cs) e = first_false _ _ (differs c e)

no_group : (cs : List ℕ) → begins_low cs ≡ true → starts_with nat_eq cs (codes ".byte") ≡ false
no_group [] e = absurd cc
no_group (c ∷ cs) e = first_false _ _ (differs c e)

as_instruction : (cs : List ℕ) → begins_low cs ≡ true
    → read_line cs ≡ if_ok (λ i. Ok (instruction_bytes i)) (read_instruction cs)
unfolding read_line
as_instruction cs e =
    let last = if_ok (λ i. Ok (instruction_bytes i)) (read_instruction cs) in
    ap (λ b. if b then if_ok (λ n. Ok (replicate n 0)) (size_in (drop 6 cs)) else
    (if starts_with nat_eq cs (codes ".byte") then group_in (drop 5 cs) else last)) (no_zeros cs e)
    ∙ ap (λ b. if b then group_in (drop 5 cs) else last) (no_group cs e)

length_zeros : (n : ℕ) → length {A = ℕ} (replicate n 0) ≡ n
length_zeros n = length-replicate n 0

pub piece_read : (p : Piece) → IsGood p → length (piece_bytes p) ≤ 67108864 → read_line (piece_text p) ≡ Ok (piece_bytes p)
unfolding piece_text piece_bytes read_line
piece_read (image n) g few = absurd g
piece_read (instruction i) g few =
    as_instruction (instruction_text i) (instruction_begins i)
    ∙ ap (if_ok (λ i. Ok (instruction_bytes i))) (instruction_read i g)
piece_read (zeros n) g few = ap (if_ok (λ n. Ok (replicate n 0))) (size_read n g (omega (arith, few, length_zeros n)))
piece_read (group bs) g few = group_read bs g.0 g.1 g.2

-- no newline stands in a line

decimal_lacks : (n : ℕ) → n < 2 ^ 64 → lacks 10 (decimal n) ≡ true
decimal_lacks n lt = digits_lack 10 (decimal n) (omega arith) (all_digits (decimal n) (decimal_reads n lt).numeral)

digit_lacks : (d : ℕ) → not (hexadecimal_digit d == 10) ≡ true
digit_lacks d = is_other (hexadecimal_digit d) 10 (above (nat_lt d 10)) where
  above : (b : Bool) → 10 < (if b then 48 + d else 87 + d)
  above true = omega arith
  above false = omega arith

bytes_lack : (bs : List ℕ) → lacks 10 (flat_map byte_text bs) ≡ true
unfolding byte_text
bytes_lack [] = refl
bytes_lack (b ∷ bs) =
    and_true (not (hexadecimal_digit (b / 16) == 10)) _ (digit_lacks (b / 16))
    (and_true (not (hexadecimal_digit (b % 16) == 10)) _ (digit_lacks (b % 16)) (bytes_lack bs))

pub image_lacks : (n : ℕ) → n < 2 ^ 64 → lacks 10 (piece_text (image n)) ≡ true
unfolding piece_text
image_lacks n lt = decimal_lacks n lt

pub piece_lacks : (p : Piece) → IsGood p → length (piece_bytes p) ≤ 67108864 → lacks 10 (piece_text p) ≡ true
unfolding piece_text piece_bytes
piece_lacks (image n) g few = absurd g
piece_lacks (instruction i) g few = instruction_lacks 10 i (omega arith) g
piece_lacks (zeros n) g few = decimal_lacks n (omega (arith, few, length_zeros n))
piece_lacks (group bs) g few = bytes_lack bs
