-- The line of an instruction is read back.
use Rattle.std.proofs.Common.{rules, ◌≡◌, ℕ, ◌*◌, ◌<◌, ◌≤◌, ◌^◌, Bool, true, false, not, ◌==◌, List, []}
use Rattle.std.proofs.Common.{◌∷◌}
use Rattle.std.proofs.Common.{◌++◌, refl}
use Rattle.std.proofs.Common.{ap, ◌∙◌, arith, Some, Ok}
use Rattle.std.proofs.lemmas.List.{append-nil}
use Rattle.std.specs.Prelude.{nat_le}
use Rattle.rv_isa.specs.Table.{IsOfTable}
use Rattle.rv_isa.specs.declared.instruction.Instr.{Instr}
use Rattle.rv_isa.specs.declared.instruction.Instr.TheVariants.{Lui, Auipc, Jal, Jalr, Branch, Load, Store, OpImm}
use Rattle.rv_isa.specs.declared.instruction.Instr.TheVariants.{ShiftImm, Addiw, ShiftImm32, Op, Op32, Fence, Ecall}
use Rattle.rv_isa.specs.declared.instruction.Instr.TheVariants.{Ebreak}
use Rattle.rv_listing.specs.declared.mnemonic.Mnemonic.{Mnemonic}
use Rattle.rv_listing.specs.declared.mnemonic.Mnemonic.TheVariants as mnemonic
use Rattle.rv_listing.specs.declared.operands.Field.{Field}
use Rattle.rv_listing.specs.declared.operands.Field.TheVariants.{Register, Unsigned, Signed, Offset}
use Rattle.rv_listing.specs.declared.operands.Shape.{Shape}
use Rattle.rv_listing.specs.declared.operands.Shape.TheVariants.{Empty, Pair, Triple, Based}
use Rattle.rv_listing.specs.declared.operands.Operands.{Operands}
use Rattle.rv_listing.specs.Fields.{cut, field_text, operands_text, read_field, read_operands, together, of_pair, in_triple}
use Rattle.rv_listing.specs.Fields.{of_triple, in_based, before_base, of_based}
use Rattle.rv_listing.specs.Names.{name_of, shape_of}
use Rattle.rv_listing.specs.Operands.{operands, IsField, IsShape, Fits, FitShape, mnemonic_of, operands_of, instruction_of}
use Rattle.rv_listing.specs.Lines.{instruction_text, in_parts, named_with, named_alone, if_ok, read_instruction}
use Rattle.rv_listing.proofs.Names.{is_name, is_word}
use Rattle.rv_listing.proofs.Cutting.{lacks, cut_none, cut_found, lacks_both, letters_lack, is_other}
use Rattle.rv_listing.proofs.Digits.{and_true}
use Rattle.rv_listing.proofs.FieldsRead.{field_read, field_lacks}

-- operands of each form

pair_read : (f : Field) (a b : ℕ) → IsField f → Fits Register a → Fits f b
    → of_pair f (cut 44 (field_text Register a ++ (44 ∷ field_text f b))) ≡ Ok (operands a b 0)
unfolding together
pair_read f a b i ha hb =
    ap (of_pair f) (cut_found 44 (field_text Register a) (field_text f b) refl (field_lacks 44 Register a (omega arith) tt ha))
    ∙ ap (λ x. together x (read_field f (field_text f b)) (Ok 0)) (field_read Register a tt ha)
    ∙ ap (λ x. together (Ok a) x (Ok 0)) (field_read f b i hb)

triple_read : (f : Field) (a b c : ℕ) → IsField f → Fits Register a → Fits Register b → Fits f c
    → in_triple f (cut 44 (field_text Register a ++ (44 ∷ (field_text Register b ++ (44 ∷ field_text f c)))))
    ≡ Ok (operands a b c)
unfolding together
triple_read f a b c i ha hb hc =
    ap (in_triple f)
    (cut_found 44 (field_text Register a) (field_text Register b ++ (44 ∷ field_text f c)) refl
    (field_lacks 44 Register a (omega arith) tt ha))
    ∙ ap (of_triple f (field_text Register a))
    (cut_found 44 (field_text Register b) (field_text f c) refl (field_lacks 44 Register b (omega arith) tt hb))
    ∙ ap (λ x. together x (read_field Register (field_text Register b)) (read_field f (field_text f c))) (field_read Register a tt ha)
    ∙ ap (λ x. together (Ok a) x (read_field f (field_text f c))) (field_read Register b tt hb)
    ∙ ap (λ x. together (Ok a) (Ok b) x) (field_read f c i hc)

twelve : IsField (Signed (2 ^ 11))
twelve = (omega arith, omega arith)

based_read : (a b c : ℕ) → Fits Register a → Fits (Signed (2 ^ 11)) b → Fits Register c
    → in_based (cut 44 (field_text Register a ++ (44 ∷ (field_text (Signed (2 ^ 11)) b
    ++ (40 ∷ (field_text Register c ++ (41 ∷ [])))))))
    ≡ Ok (operands a b c)
unfolding together
based_read a b c ha hb hc =
    let first = field_text Register a in
    let second = field_text (Signed (2 ^ 11)) b in
    let base = field_text Register c in
    ap in_based
    (cut_found 44 first (second ++ (40 ∷ (base ++ (41 ∷ [])))) refl (field_lacks 44 Register a (omega arith) tt ha))
    ∙ ap (before_base first)
    (cut_found 40 second (base ++ (41 ∷ [])) refl (field_lacks 40 (Signed (2 ^ 11)) b (omega arith) twelve hb))
    ∙ ap (of_based first second) (cut_found 41 base [] refl (field_lacks 41 Register c (omega arith) tt hc))
    ∙ ap (λ x. together x (read_field (Signed (2 ^ 11)) second) (read_field Register base)) (field_read Register a tt ha)
    ∙ ap (λ x. together (Ok a) x (read_field Register base)) (field_read (Signed (2 ^ 11)) b twelve hb)
    ∙ ap (λ x. together (Ok a) (Ok b) x) (field_read Register c tt hc)

-- a name and what stands behind it

word_lacks : (b : ℕ) (cs : List ℕ) → b < 97 → is_word cs ≡ true → lacks b cs ≡ true
word_lacks b [] lt e = refl
word_lacks b (c ∷ cs) lt e = letters_lack b (c ∷ cs) lt e

name_lacks : (b : ℕ) (m : Mnemonic) → b < 97 → lacks b (name_of m) ≡ true
name_lacks b m lt = word_lacks b (name_of m) lt (is_name m).word

with_operands : (m : Mnemonic) (cs : List ℕ) (o : Operands) → read_operands (shape_of m) cs ≡ Ok o
    → read_instruction (name_of m ++ (32 ∷ cs)) ≡ Ok (instruction_of m o)
unfolding read_instruction
with_operands m cs o e =
    ap (in_parts (name_of m ++ (32 ∷ cs))) (cut_found 32 (name_of m) cs refl (name_lacks 32 m (omega arith)))
    ∙ ap (λ x. named_with x cs) (is_name m).found
    ∙ ap (if_ok (λ o. Ok (instruction_of m o))) e

without_operands : (m : Mnemonic) → read_instruction (name_of m ++ []) ≡ named_alone (Some m)
unfolding read_instruction
without_operands m =
    ap (λ cs. in_parts cs (cut 32 cs)) (append-nil (name_of m))
    ∙ ap (in_parts (name_of m)) (cut_none 32 (name_of m) (name_lacks 32 m (omega arith)))
    ∙ ap named_alone (is_name m).found

pub instruction_read : (i : Instr) → IsOfTable i → read_instruction (instruction_text i) ≡ Ok i
unfolding instruction_text mnemonic_of operands_of instruction_of shape_of operands_text read_operands
instruction_read (Lui rd imm) t =
    with_operands mnemonic.Lui _ (operands rd imm 0) (pair_read (Unsigned (2 ^ 20)) rd imm (omega arith) t.0 t.1)
instruction_read (Auipc rd imm) t =
    with_operands mnemonic.Auipc _ (operands rd imm 0) (pair_read (Unsigned (2 ^ 20)) rd imm (omega arith) t.0 t.1)
instruction_read (Jal rd imm) t =
    let fits : imm < 2 * 2 ^ 20 = omega (arith, t.1) in
    with_operands mnemonic.Jal _ (operands rd imm 0) (pair_read (Offset (2 ^ 20)) rd imm (omega arith, omega arith) t.0 (fits, t.2))
instruction_read (Jalr rd rs1 imm) t =
    with_operands mnemonic.Jalr _ (operands rd imm rs1) (based_read rd imm rs1 t.0 (omega (arith, t.2)) t.1)
instruction_read (Branch op rs1 rs2 imm) t =
    with_operands (mnemonic.Branch op) _ (operands rs1 rs2 imm)
    (triple_read (Offset (2 ^ 12)) rs1 rs2 imm (omega arith, omega arith) t.0 t.1 (omega (arith, t.2), t.3))
instruction_read (Load op rd rs1 imm) t =
    with_operands (mnemonic.Load op) _ (operands rd imm rs1) (based_read rd imm rs1 t.0 (omega (arith, t.2)) t.1)
instruction_read (Store op rs1 rs2 imm) t =
    with_operands (mnemonic.Store op) _ (operands rs2 imm rs1) (based_read rs2 imm rs1 t.1 (omega (arith, t.2)) t.0)
instruction_read (OpImm op rd rs1 imm) t =
    with_operands (mnemonic.OpImm op) _ (operands rd rs1 imm) (triple_read (Signed (2 ^ 11)) rd rs1 imm twelve t.0 t.1 (omega (arith, t.2)))
instruction_read (ShiftImm op rd rs1 shamt) t =
    with_operands (mnemonic.ShiftImm op) _ (operands rd rs1 shamt) (triple_read (Unsigned (2 ^ 6)) rd rs1 shamt (omega arith) t.0 t.1 t.2)
instruction_read (Addiw rd rs1 imm) t =
    with_operands mnemonic.Addiw _ (operands rd rs1 imm) (triple_read (Signed (2 ^ 11)) rd rs1 imm twelve t.0 t.1 (omega (arith, t.2)))
instruction_read (ShiftImm32 op rd rs1 shamt) t =
    with_operands (mnemonic.ShiftImm32 op) _ (operands rd rs1 shamt) (triple_read (Unsigned (2 ^ 5)) rd rs1 shamt (omega arith) t.0 t.1 t.2)
instruction_read (Op op rd rs1 rs2) t =
    with_operands (mnemonic.Op op) _ (operands rd rs1 rs2) (triple_read Register rd rs1 rs2 tt t.0 t.1 t.2)
instruction_read (Op32 op rd rs1 rs2) t =
    with_operands (mnemonic.Op32 op) _ (operands rd rs1 rs2) (triple_read Register rd rs1 rs2 tt t.0 t.1 t.2)
instruction_read (Fence rd rs1 fields) t =
    with_operands mnemonic.Fence _ (operands rd rs1 fields) (triple_read (Unsigned (2 ^ 12)) rd rs1 fields (omega arith) t.0 t.1 t.2)
instruction_read Ecall t = without_operands mnemonic.Ecall
instruction_read Ebreak t = without_operands mnemonic.Ebreak

-- No byte of the text is below a space.

low_first : (b : ℕ) (f : Field) (n : ℕ) (m : ℕ) (cs : List ℕ) → b < 32 → 32 ≤ m → IsField f → Fits f n
    → lacks b cs ≡ true → lacks b (m ∷ (field_text f n ++ cs)) ≡ true
low_first b f n m cs lt le i h e =
    and_true (not (m == b)) (lacks b (field_text f n ++ cs)) (is_other m b (omega (arith, lt, le)))
    (lacks_both b (field_text f n) cs (field_lacks b f n (omega (arith, lt)) i h) e)

last_low : (b : ℕ) (f : Field) (n : ℕ) (m : ℕ) → b < 32 → 32 ≤ m → IsField f → Fits f n
    → lacks b (m ∷ field_text f n) ≡ true
last_low b f n m lt le i h =
    and_true (not (m == b)) (lacks b (field_text f n)) (is_other m b (omega (arith, lt, le))) (field_lacks b f n (omega (arith, lt)) i h)

operands_lack : (b : ℕ) (s : Shape) (o : Operands) → b < 32 → IsShape s → FitShape s o → lacks b (operands_text s o) ≡ true
unfolding operands_text
operands_lack b Empty o lt i h = refl
operands_lack b (Pair f) o lt i h =
    low_first b Register o.first 32 _ lt (omega arith) tt h.0 (last_low b f o.second 44 lt (omega arith) i h.1)
operands_lack b (Triple f) o lt i h =
    low_first b Register o.first 32 _ lt (omega arith) tt h.0
    (low_first b Register o.second 44 _ lt (omega arith) tt h.1 (last_low b f o.third 44 lt (omega arith) i h.2))
operands_lack b Based o lt i h =
    low_first b Register o.first 32 _ lt (omega arith) tt h.0
    (low_first b (Signed (2 ^ 11)) o.second 44 _ lt (omega arith) twelve h.1
    (low_first b Register o.third 40 _ lt (omega arith) tt h.2
    (and_true (not (41 == b)) true (is_other 41 b (omega (arith, lt))) refl)))

record HasShape (i : Instr) : Type 0 where
  shape : IsShape (shape_of (mnemonic_of i))
  fit : FitShape (shape_of (mnemonic_of i)) (operands_of i)

has_shape : (i : Instr) → IsOfTable i → HasShape i
unfolding mnemonic_of operands_of shape_of
has_shape (Lui rd imm) t = record { shape = omega arith; fit = t }
has_shape (Auipc rd imm) t = record { shape = omega arith; fit = t }
has_shape (Jal rd imm) t = record { shape = (omega arith, omega arith); fit = (t.0, (omega (arith, t.1), t.2)) }
has_shape (Jalr rd rs1 imm) t = record { shape = tt; fit = (t.0, omega (arith, t.2), t.1) }
has_shape (Branch op rs1 rs2 imm) t = record { shape = (omega arith, omega arith); fit = (t.0, t.1, (omega (arith, t.2), t.3)) }
has_shape (Load op rd rs1 imm) t = record { shape = tt; fit = (t.0, omega (arith, t.2), t.1) }
has_shape (Store op rs1 rs2 imm) t = record { shape = tt; fit = (t.1, omega (arith, t.2), t.0) }
has_shape (OpImm op rd rs1 imm) t = record { shape = twelve; fit = (t.0, t.1, omega (arith, t.2)) }
has_shape (ShiftImm op rd rs1 shamt) t = record { shape = omega arith; fit = t }
has_shape (Addiw rd rs1 imm) t = record { shape = twelve; fit = (t.0, t.1, omega (arith, t.2)) }
has_shape (ShiftImm32 op rd rs1 shamt) t = record { shape = omega arith; fit = t }
has_shape (Op op rd rs1 rs2) t = record { shape = tt; fit = t }
has_shape (Op32 op rd rs1 rs2) t = record { shape = tt; fit = t }
has_shape (Fence rd rs1 fields) t = record { shape = omega arith; fit = t }
has_shape Ecall t = record { shape = tt; fit = tt }
has_shape Ebreak t = record { shape = tt; fit = tt }

pub instruction_lacks : (b : ℕ) (i : Instr) → b < 32 → IsOfTable i → lacks b (instruction_text i) ≡ true
unfolding instruction_text
instruction_lacks b i lt t =
    let h = has_shape i t in
    lacks_both b (name_of (mnemonic_of i)) (operands_text (shape_of (mnemonic_of i)) (operands_of i))
    (name_lacks b (mnemonic_of i) (omega (arith, lt)))
    (operands_lack b (shape_of (mnemonic_of i)) (operands_of i) lt h.shape h.fit)

-- It begins with a letter.
abbrev pub begins_low : List ℕ → Bool
begins_low [] = false
begins_low (c ∷ cs) = nat_le 97 c

word_begins : (cs ds : List ℕ) → is_word cs ≡ true → begins_low (cs ++ ds) ≡ true
word_begins [] ds e = absurd cc
word_begins (c ∷ cs) ds e = search (rules, e)

pub instruction_begins : (i : Instr) → begins_low (instruction_text i) ≡ true
unfolding instruction_text
instruction_begins i = word_begins (name_of (mnemonic_of i)) _ (is_name (mnemonic_of i)).word
