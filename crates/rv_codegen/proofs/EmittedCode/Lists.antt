-- Lists of instructions.
use Rattle.std.proofs.Common.{◌≡◌, ℕ, zero, suc, ◌+◌, ◌-◌, ◌/◌, ◌%◌, ◌^◌, ◌<◌, ◌≤◌, List, [], ◌∷◌, ◌++◌, ap, refl}
use Rattle.std.proofs.Common.{sym, ◌∙◌, arith, length, codes, append_assoc, length-append}
use Rattle.std.proofs.lemmas.Bool.{lt-ltb, le-ltb}
use Rattle.rv_isa.specs.declared.instruction.ImmOp.TheVariants.{Addi}
use Rattle.rv_isa.specs.declared.instruction.ShiftOp.TheVariants.{Slli}
use Rattle.rv_isa.specs.declared.instruction.Instr.{Instr}
use Rattle.rv_isa.specs.declared.instruction.Instr.TheVariants.{OpImm, ShiftImm, Store}
use Rattle.rv_isa.specs.declared.instruction.StoreOp.TheVariants.{Sb}
use Rattle.machine_laws.specs.declared.location.Location.{Location}
use Rattle.machine_laws.specs.declared.location.Location.TheVariants.{Register, Frame}
use Rattle.machine_laws.specs.Blocks.Blocks.{digits, fetch, keep}
use Rattle.sb_base.specs.declared.ending.Ending.{Ending}
use Rattle.sb_base.specs.Endings.{code_of}
use Rattle.machine_laws.specs.Blocks.Tails.{what_of, text_before, text_bytes, line_text, tail_block, tails_of}
use Rattle.machine_laws.specs.Calls.Calls.{Keeping, save_one, restore_one}
use Rattle.machine_laws.specs.Layout.Lists.{label_for, tail_of}
use Rattle.flat_code.specs.declared.instruction.FlatInstruction.TheVariants as flat
use Rattle.rv_asm.specs.declared.item.Item.{Item}
use Rattle.rv_asm.specs.declared.item.Item.TheVariants as item

pub nothing_behind : {A : Type 0} (xs : List A) → xs ++ [] ≡ xs
nothing_behind [] = refl
nothing_behind (x ∷ xs) = ap (λ ys. x ∷ ys) (nothing_behind xs)

-- nothing is put for a value that is kept in a register, or in its home
pub nothing_fetched : (is : List Instr) (x : Location) (r base t : ℕ) → x ≡ Register r → is ≡ is ++ fetch x base t
nothing_fetched is x r base t e = sym (nothing_behind is) ∙ ap (λ y. is ++ fetch y base t) (sym e)

pub nothing_kept : (is : List Instr) (x : Location) (r base t : ℕ) → x ≡ Register r → is ≡ is ++ keep x base t
nothing_kept is x r base t e = sym (nothing_behind is) ∙ ap (λ y. is ++ keep y base t) (sym e)

pub nothing_saved : (is : List Instr) (x : Location) (o base h : ℕ) → x ≡ Frame o → is ≡ is ++ save_one x base h
nothing_saved is x o base h e = sym (nothing_behind is) ∙ ap (λ y. is ++ save_one y base h) (sym e)

pub nothing_restored : (is : List Instr) (x : Location) (o base h : ℕ) → x ≡ Frame o
    → is ≡ is ++ restore_one x base h
nothing_restored is x o base h e = sym (nothing_behind is) ∙ ap (λ y. is ++ restore_one y base h) (sym e)

-- a number of one digit
pub last_digit : (k rd n : ℕ) → n < 2 ^ 11 → digits k rd n ≡ OpImm Addi rd 0 (n % 2 ^ 11) ∷ []
unfolding digits
last_digit zero rd n h = refl
last_digit (suc k) rd n h = rw (lt-ltb n (2 ^ 11) h) refl

-- and of more
pub more_digits : (j k rd n : ℕ) → j ≡ suc k → 2 ^ 11 ≤ n
    → digits j rd n ≡ digits k rd (n / 2 ^ 11) ++ (ShiftImm Slli rd rd 11 ∷ OpImm Addi rd rd (n % 2 ^ 11) ∷ [])
unfolding digits
more_digits zero k rd n e h = absurd (omega arith)
more_digits (suc j) k rd n e h =
    let same : j ≡ k = omega arith in
    rw (le-ltb n (2 ^ 11) h) (ap (λ i. digits i rd (n / 2 ^ 11)
    ++ (ShiftImm Slli rd rd 11 ∷ OpImm Addi rd rd (n % 2 ^ 11) ∷ [])) same)

pub behind_two : {A : Type 0} (xs ys : List A) (a b : A) → ((xs ++ ys) ++ a ∷ []) ++ b ∷ [] ≡ xs ++ (ys ++ a ∷ b ∷ [])
behind_two [] [] a b = refl
behind_two [] (y ∷ ys) a b = ap (λ zs. y ∷ zs) (behind_two [] ys a b)
behind_two (x ∷ xs) ys a b = ap (λ zs. x ∷ zs) (behind_two xs ys a b)

pub ruleset one_digit = (last_digit, more_digits)

-- ---- the text of a report

text_append : (base k : ℕ) (xs ys : List ℕ)
    → text_bytes base k (xs ++ ys) ≡ text_bytes base k xs ++ text_bytes base (k + length xs) ys
text_append base k [] ys = let e : k + 0 ≡ k = omega arith in ap (λ j. text_bytes base j ys) (sym e)
text_append base k (x ∷ xs) ys =
    let e : suc k + length xs ≡ k + suc (length xs) = omega arith in
    ap (λ is. OpImm Addi 5 0 (x % 2 ^ 11) ∷ Store Sb base 5 (k % 2 ^ 12) ∷ is)
    (text_append base (suc k) xs ys ∙ ap (λ j. text_bytes base (suc k) xs ++ text_bytes base j ys) e)

-- its three parts
pub text_parts : (base : ℕ) (what : List ℕ)
    → text_bytes base 0 (codes "sbcets: ") ++ (text_bytes base 8 what
    ++ text_bytes base (8 + length what) (codes " at line ")) ≡ text_bytes base 0 (text_before what)
text_parts base what =
    let begin = codes "sbcets: " in
    let at = codes " at line " in
    let e : 0 + length (begin ++ what) ≡ 8 + length what = omega arith in
    sym (text_append base 0 (begin ++ what) at
    ∙ ap (λ j. text_bytes base 0 (begin ++ what) ++ text_bytes base j at) e
    ∙ ap (λ is. is ++ text_bytes base (8 + length what) at) (text_append base 0 begin what)
    ∙ append_assoc (text_bytes base 0 begin) (text_bytes base 8 what) (text_bytes base (8 + length what) at))

pub text_length : (what : List ℕ) → length (text_before what) ≡ 17 + length what
text_length what =
    let a = length-append (codes "sbcets: " ++ what) (codes " at line ") in
    let b = length-append (codes "sbcets: ") what in
    omega arith

-- what puts them behind a list
pub line_text_is : (code c1 c2 c3 c4 : List Instr) (what : List ℕ) (base : ℕ) → base ≡ 28
    → c1 ≡ code ++ OpImm Addi base base ((0x1000 - (17 + length what)) % 0x1000) ∷ []
    → c2 ≡ c1 ++ text_bytes base 0 (codes "sbcets: ") → c3 ≡ c2 ++ text_bytes base 8 what
    → c4 ≡ c3 ++ text_bytes base (8 + length what) (codes " at line ")
    → c4 ≡ code ++ line_text (text_before what)
line_text_is code c1 c2 c3 c4 what base b e1 e2 e3 e4 =
    let n = text_length what in
    let one = OpImm Addi base base ((0x1000 - (17 + length what)) % 0x1000) ∷ [] in
    let x = text_bytes base 0 (codes "sbcets: ") in
    let y = text_bytes base 8 what in
    let z = text_bytes base (8 + length what) (codes " at line ") in
    e4 ∙ ap (λ l. l ++ z) (e3 ∙ ap (λ l. l ++ y) (e2 ∙ ap (λ l. l ++ x) e1))
    ∙ append_assoc ((code ++ one) ++ x) y z ∙ append_assoc (code ++ one) x (y ++ z)
    ∙ append_assoc code one (x ++ (y ++ z))
    ∙ ap (λ l. code ++ (one ++ l)) (text_parts base what)
    ∙ ap (λ j. code ++ (OpImm Addi base base ((0x1000 - j) % 0x1000) ∷ text_bytes base 0 (text_before what))) (sym n)
    ∙ ap (λ r. code ++ (OpImm Addi r r ((0x1000 - length (text_before what)) % 0x1000)
    ∷ text_bytes r 0 (text_before what))) b

-- five lists that are put one behind another
pub five_behind : {A : Type 0} (o c1 c2 c3 c4 c5 a b d e f : List A) → c1 ≡ o ++ a → c2 ≡ c1 ++ b → c3 ≡ c2 ++ d
    → c4 ≡ c3 ++ e → c5 ≡ c4 ++ f → c5 ≡ o ++ (a ++ (b ++ (d ++ (e ++ f))))
five_behind o c1 c2 c3 c4 c5 a b d e f e1 e2 e3 e4 e5 =
    e5 ∙ ap (λ l. l ++ f) (e4 ∙ ap (λ l. l ++ e) (e3 ∙ ap (λ l. l ++ d) (e2 ∙ ap (λ l. l ++ b) e1)))
    ∙ append_assoc (((o ++ a) ++ b) ++ d) e f ∙ append_assoc ((o ++ a) ++ b) d (e ++ f)
    ∙ append_assoc (o ++ a) b (d ++ (e ++ f)) ∙ append_assoc o a (b ++ (d ++ (e ++ f)))

-- a tail more
pub tail_more : (code code' : List Instr) (what : List ℕ) (status : ℕ) (e : Ending) (es es' : List Ending)
    → es ≡ e ∷ es' → what ≡ what_of e → status ≡ code_of e → code' ≡ code ++ tail_block what status
    → code' ++ tails_of es' ≡ code ++ tails_of es
tail_more code code' what status e es es' items w s put =
    ap (λ l. l ++ tails_of es') (put ∙ ap (λ q. code ++ tail_block q status) w
    ∙ ap (λ q. code ++ tail_block (what_of e) q) s)
    ∙ append_assoc code (tail_block (what_of e) (code_of e)) (tails_of es')
    ∙ ap (λ l. code ++ tails_of l) (sym items)

-- a jump to the next instruction is none, and any other stands
pub jump_to_next : (k : Keeping) (n pc past : ℕ) (xs : List Item) → past ≡ 0
    → xs ≡ xs ++ tail_of k n pc (flat.JumpForward past)
jump_to_next k n pc zero xs e = sym (nothing_behind xs)
jump_to_next k n pc (suc past) xs e = absurd (omega (arith, e))

pub jump_further : (k : Keeping) (n pc past : ℕ) (xs ys : List Item) → 0 < past
    → ys ≡ xs ++ item.Jump (label_for n (pc + 1 + past)) ∷ [] → ys ≡ xs ++ tail_of k n pc (flat.JumpForward past)
jump_further k n pc zero xs ys lt e = absurd (omega (arith, lt))
jump_further k n pc (suc past) xs ys lt e = e
