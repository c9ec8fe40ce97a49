-- What the routines of the library are made of.
use Rattle.std.proofs.Common.{◌≡◌, ℕ, ◌+◌, ◌≤◌, ◌<◌, List, [], ◌∷◌, ◌++◌, refl, arith}
use Rattle.rv_isa.specs.declared.instruction.BranchOp.TheVariants.{Beq}
use Rattle.c_tree.specs.declared.format.Directive.{Directive}
use Rattle.c_tree.specs.declared.format.Directive.TheVariants as directive
use Rattle.flat_code.specs.declared.instruction.RightOperand.TheVariants.{Number}
use Rattle.flat_code.specs.declared.instruction.FlatInstruction.{FlatInstruction}
use Rattle.flat_code.specs.declared.instruction.FlatInstruction.TheVariants.{Constant}
use Rattle.flat_code.specs.declared.registers.Held.{Held}
use Rattle.flat_code.specs.Routines.Registers.{AreBelow}
use Rattle.flat_code.specs.Routines.Metadata.{held_registers}
use Rattle.flat_code.specs.Routines.Shape.{HasShape}
use Rattle.flat_code.proofs.Routines.Distinct.{below_more}
use Rattle.flat_code.proofs.Routines.Shape.{piece, piece_behind, below_both, shaped_append, shaped_joined, same_shape}
use Rattle.flat_code.proofs.Routines.Shape.{shaped_until, up_to, at_most}
use Rattle.flat_actions.specs.Lists.{give_code, guarded_code}
use Rattle.flat_actions.proofs.Shapes.{pointer_from, give_shape, guarded_shape}
use Rattle.lib_wrappers.specs.MovingRoutines.Copying.{bump, copy_loop, choose_order}
use Rattle.lib_wrappers.specs.MovingRoutines.Moving.{move_bytes_code}
use Rattle.lib_wrappers.specs.MovingRoutines.Tagged.{count_words, move_words}
use Rattle.lib_wrappers.specs.MovingRoutines.Filling.{fill_code}
use Rattle.lib_wrappers.specs.StringRoutines.Scanning.{scan_turns, scan_at_most_turns, length_given}
use Rattle.lib_wrappers.specs.StringRoutines.Copying.{size_code, count_code, tail_code}
use Rattle.lib_wrappers.specs.StringRoutines.Putting.{put_code, newline_given}
use Rattle.lib_wrappers.specs.ComparingRoutines.Comparing.{strcmp_code, memcmp_code}
use Rattle.lib_wrappers.specs.ComparingRoutines.Seeking.{strchr_code}
use Rattle.lib_wrappers.specs.PrintingRoutines.Numbers.{number_code}

-- ---- ranges

pub move_bytes_shape : (to from n t : ℕ) → AreBelow t (to ∷ from ∷ n ∷ []) → HasShape (move_bytes_code to from n t) 24 (t + 5)
move_bytes_shape to from n t below =
    piece_behind t (t + 5) (to ∷ from ∷ n ∷ []) (t ∷ (t + 1) ∷ (t + 2) ∷ (t + 3) ∷ (t + 4) ∷ []) (move_bytes_code 0 1 2 3) 24
    (omega arith) below (omega arith, (omega arith, (omega arith, (omega arith, (omega arith, tt))))) refl refl

pub fill_shape : (to byte n t : ℕ) → AreBelow t (to ∷ byte ∷ n ∷ []) → HasShape (fill_code to byte n (t + 1) t) 8 (t + 2)
fill_shape to byte n t below =
    piece_behind t (t + 2) (to ∷ byte ∷ n ∷ []) (t ∷ (t + 1) ∷ []) (fill_code 0 1 2 4 3) 8 (omega arith) below
    (omega arith, (omega arith, tt)) refl refl

-- an entry is read and written
pub entry_shape : {r a b x y : List FlatInstruction} (t : ℕ) → r ≡ a ++ b → a ≡ x → b ≡ y → HasShape x 32 (t + 8 + 6)
    → HasShape y 32 (t + 8 + 6) → HasShape r 64 (t + 14)
entry_shape t e f g h k = up_to (t + 8 + 6) (t + 14) (omega arith) (shaped_joined e f g h k)

words_shape : (to from n t : ℕ) (body : List FlatInstruction) → AreBelow t (to ∷ from ∷ n ∷ []) → HasShape body 64 (t + 14)
    → HasShape (move_words to from n t body) 96 (t + 14)
words_shape to from n t body below h =
    let m = t + 14 in
    let counting = piece_behind t m (to ∷ from ∷ n ∷ []) (t ∷ (t + 1) ∷ (t + 2) ∷ (t + 3) ∷ []) (count_words 0 1 2 3 4 5 6) 13
    (omega arith) below (omega arith, (omega arith, (omega arith, (omega arith, tt)))) refl refl in
    let own = t ∷ (t + 1) ∷ (t + 2) ∷ (t + 3) ∷ (t + 4) ∷ [] in
    let all : AreBelow m own = (omega arith, (omega arith, (omega arith, (omega arith, (omega arith, tt))))) in
    let order = piece m own (choose_order 8 3 0) 7 all refl refl in
    let bumped = piece m own (bump 0) 3 all refl refl in
    let loop = shaped_until Beq t (Number 0) (body ++ bump t) (64 + 3) m (omega arith) refl
    (shaped_append body (bump t) 64 3 m h bumped) in
    at_most (13 + (7 + (64 + 3 + 2))) 96 (omega arith)
    (shaped_append (count_words to from n t (t + 1) (t + 2) (t + 3)) (choose_order 8 3 t ++ copy_loop t body) 13
    (7 + (64 + 3 + 2)) m counting (shaped_append (choose_order 8 3 t) (copy_loop t body) 7 (64 + 3 + 2) m order loop))

pub tagged_shape : {r a b x : List FlatInstruction} (to from n t : ℕ) (body : List FlatInstruction)
    → AreBelow t (to ∷ from ∷ n ∷ []) → r ≡ a ++ b → a ≡ x → b ≡ move_words to from n t body → HasShape x 24 (t + 5)
    → HasShape body 64 (t + 14) → HasShape r 128 (t + 14)
tagged_shape to from n t body below e f g h k =
    at_most (24 + 96) 128 (omega arith)
    (shaped_joined e f g (up_to (t + 5) (t + 14) (omega arith) h) (words_shape to from n t body below k))

-- two judgements, and then the act
pub memmove_shape : {r first second act : List FlatInstruction} (n t : ℕ) (to into : Held) → n < t
    → AreBelow t (held_registers to) → AreBelow t (held_registers into)
    → r ≡ guarded_code n to into (first ++ (second ++ act))
    → HasShape first 10 (t + 1) → HasShape second 10 (t + 1) → HasShape act 128 (t + 14) → HasShape r 160 (t + 14)
memmove_shape {r} {first} {second} {act} n t to into l below res e f s h =
    let m = t + 14 in
    let le : t + 1 ≤ m = omega arith in
    at_most (10 + (10 + 128) + 1 + 5) 160 (omega arith)
    (same_shape e (guarded_shape m n to into (first ++ (second ++ act)) (10 + (10 + 128)) (omega arith)
    (below_more t m (held_registers to) (omega arith) below) (below_more t m (held_registers into) (omega arith) res)
    (shaped_append first (second ++ act) 10 (10 + 128) m (up_to (t + 1) m le f)
    (shaped_append second act 10 128 m (up_to (t + 1) m le s) h))))

pub memset_shape : {r first act : List FlatInstruction} (n t : ℕ) (to into : Held) → n < t
    → AreBelow t (held_registers to) → AreBelow t (held_registers into) → r ≡ guarded_code n to into (first ++ act)
    → HasShape first 10 (t + 1) → HasShape act 8 (t + 2) → HasShape r 32 (t + 2)
memset_shape {r} {first} {act} n t to into l below res e f h =
    let m = t + 2 in
    at_most (10 + 8 + 1 + 5) 32 (omega arith)
    (same_shape e (guarded_shape m n to into (first ++ act) (10 + 8) (omega arith)
    (below_more t m (held_registers to) (omega arith) below) (below_more t m (held_registers into) (omega arith) res)
    (shaped_append first act 10 8 m (up_to (t + 1) m (omega arith) f) h)))

-- ---- strings

-- the first byte is judged, and then come the turns
pub first_judged_shape : {r a b x : List FlatInstruction} (turns : List FlatInstruction) (t k m : ℕ) → t + 2 ≤ m
    → r ≡ a ++ b → a ≡ Constant t 1 ∷ [] → b ≡ x ++ turns → HasShape x 10 (t + 1 + 1) → HasShape turns k m
    → HasShape r (11 + k) m
first_judged_shape {r} {a} {b} {x} turns t k m le e f g h q =
    at_most (1 + (10 + k)) (11 + k) (omega arith)
    (shaped_joined e f g (piece m (t ∷ []) (Constant 0 1 ∷ []) 1 (omega arith, tt) refl refl)
    (shaped_append x turns 10 k m (up_to (t + 1 + 1) m (omega arith) h) q))

pub scan_turns_shape : (h : Held) (c line t m : ℕ) → c < m → t + 2 ≤ m → AreBelow t (held_registers h)
    → HasShape (scan_turns h c line t) 7 m
scan_turns_shape h c line t m l le below =
    piece_behind t m (held_registers h) (c ∷ t ∷ []) (scan_turns (pointer_from 0) 5 line 6) 7 (omega arith) below
    (l, (omega arith, tt)) refl refl

pub scan_at_most_turns_shape : (h : Held) (c line limit t m : ℕ) → c < m → limit < m → t + 2 ≤ m
    → AreBelow t (held_registers h) → HasShape (scan_at_most_turns h c line limit t) 9 m
scan_at_most_turns_shape h c line limit t m l k le below =
    piece_behind t m (held_registers h) (c ∷ limit ∷ t ∷ (t + 1) ∷ []) (scan_at_most_turns (pointer_from 0) 5 line 6 7) 9
    (omega arith) below (l, (k, (omega arith, (omega arith, tt)))) refl refl

pub strlen_shape : {r s x : List FlatInstruction} (h : Held) (into t : ℕ) → AreBelow t (into ∷ held_registers h)
    → r ≡ s ++ length_given h t into → s ≡ x → HasShape x 20 (t + 1 + 2) → HasShape r 24 (t + 3)
strlen_shape h into t below e f k =
    at_most (20 + 1) 24 (omega arith)
    (shaped_joined e f refl (up_to (t + 1 + 2) (t + 3) (omega arith) k)
    (piece_behind t (t + 3) (into ∷ held_registers h) (t ∷ []) (length_given (pointer_from 1) 6 0) 1 (omega arith) below
    (omega arith, tt) refl refl))

pub copied_shape : (from t : ℕ) (scanning judging moving : List FlatInstruction) → from < t
    → HasShape scanning 20 (t + 1 + 2) → HasShape judging 10 (t + 1 + 1 + 1) → HasShape moving 24 (t + 1 + 1 + 5)
    → HasShape (scanning ++ (size_code (t + 1) from t ++ (judging ++ moving))) 64 (t + 7)
copied_shape from t s j v l hs hj hv =
    let m = t + 7 in
    let sizes = piece m (from ∷ t ∷ (t + 1) ∷ []) (size_code 2 0 1) 2 (omega arith, (omega arith, (omega arith, tt))) refl
    refl in
    at_most (20 + (2 + (10 + 24))) 64 (omega arith)
    (shaped_append s (size_code (t + 1) from t ++ (j ++ v)) 20 (2 + (10 + 24)) m (up_to (t + 1 + 2) m (omega arith) hs)
    (shaped_append (size_code (t + 1) from t) (j ++ v) 2 (10 + 24) m sizes
    (shaped_append j v 10 24 m (up_to (t + 1 + 1 + 1) m (omega arith) hj) (up_to (t + 1 + 1 + 5) m (omega arith) hv))))

pub strcpy_shape : {r x : List FlatInstruction} (to into : Held) (t : ℕ) → AreBelow t (held_registers to)
    → AreBelow t (held_registers into) → r ≡ x ++ give_code to into → HasShape x 64 (t + 7) → HasShape r 72 (t + 7)
strcpy_shape {r} {x} to into t below res e h =
    at_most (64 + 5) 72 (omega arith)
    (shaped_joined e refl refl h (give_shape (t + 7) to into (below_more t (t + 7) (held_registers to) (omega arith) below)
    (below_more t (t + 7) (held_registers into) (omega arith) res)))

pub strcat_shape : {r x y : List FlatInstruction} (to into : Held) (t : ℕ) → AreBelow t (held_registers to)
    → AreBelow t (held_registers into) → r ≡ (x ++ y) ++ give_code to into → HasShape x 20 (t + 1 + 2)
    → HasShape y 64 (t + 1 + 7) → HasShape r 96 (t + 8)
strcat_shape {r} {x} {y} to into t below res e h k =
    let m = t + 8 in
    at_most (20 + 64 + 5) 96 (omega arith)
    (shaped_joined e refl refl
    (shaped_append x y 20 64 m (up_to (t + 1 + 2) m (omega arith) h) (up_to (t + 1 + 7) m (omega arith) k))
    (give_shape m to into (below_more t m (held_registers to) (omega arith) below)
    (below_more t m (held_registers into) (omega arith) res)))

pub filled_up_shape : (to from size t : ℕ) (moving filling : List FlatInstruction) → AreBelow t (to ∷ from ∷ size ∷ [])
    → HasShape moving 24 (t + 4 + 5) → HasShape filling 8 (t + 4 + 2)
    → HasShape (count_code (t + 1) from t ++ (moving ++ (tail_code to size (t + 1) (t + 2) (t + 3) ++ filling))) 40 (t + 9)
filled_up_shape to from size t v l below hv hl =
    let m = t + 9 in
    let args = to ∷ from ∷ size ∷ [] in
    let own = t ∷ (t + 1) ∷ (t + 2) ∷ (t + 3) ∷ [] in
    let all : AreBelow m own = (omega arith, (omega arith, (omega arith, (omega arith, tt)))) in
    let counting = piece_behind t m args own (count_code 4 1 3) 1 (omega arith) below all refl refl in
    let tail = piece_behind t m args own (tail_code 0 2 4 5 6) 3 (omega arith) below all refl refl in
    let tailing = tail_code to size (t + 1) (t + 2) (t + 3) in
    at_most (1 + (24 + (3 + 8))) 40 (omega arith)
    (shaped_append (count_code (t + 1) from t) (v ++ (tailing ++ l)) 1 (24 + (3 + 8)) m counting
    (shaped_append v (tailing ++ l) 24 (3 + 8) m (up_to (t + 4 + 5) m (omega arith) hv)
    (shaped_append tailing l 3 8 m tail (up_to (t + 4 + 2) m (omega arith) hl))))

pub strncpy_shape : {r x y z : List FlatInstruction} (n t : ℕ) (to into : Held) → n < t → AreBelow t (held_registers to)
    → AreBelow t (held_registers into) → r ≡ guarded_code n to into (x ++ (y ++ z)) → HasShape x 20 (t + 1 + 2)
    → HasShape y 10 (t + 1 + 1) → HasShape z 40 (t + 9) → HasShape r 80 (t + 9)
strncpy_shape {r} {x} {y} {z} n t to into l below res e hx hy hz =
    let m = t + 9 in
    at_most (20 + (10 + 40) + 1 + 5) 80 (omega arith)
    (same_shape e (guarded_shape m n to into (x ++ (y ++ z)) (20 + (10 + 40)) (omega arith)
    (below_more t m (held_registers to) (omega arith) below) (below_more t m (held_registers into) (omega arith) res)
    (shaped_append x (y ++ z) 20 (10 + 40) m (up_to (t + 1 + 2) m (omega arith) hx)
    (shaped_append y z 10 40 m (up_to (t + 1 + 1) m (omega arith) hy) hz))))

pub put_shape : (from to t : ℕ) → AreBelow t (from ∷ to ∷ []) → HasShape (put_code from to t) 8 (t + 2)
put_shape from to t below =
    piece_behind t (t + 2) (from ∷ to ∷ []) (t ∷ (t + 1) ∷ []) (put_code 0 1 2) 8 (omega arith) below
    (omega arith, (omega arith, tt)) refl refl

pub puts_shape : (into t : ℕ) (scanned put : List FlatInstruction) → into < t → HasShape scanned 20 (t + 1 + 2)
    → HasShape put 8 (t + 1 + 2) → HasShape (scanned ++ (put ++ newline_given into (t + 1))) 32 (t + 3)
puts_shape into t s p l hs hp =
    let m = t + 3 in
    at_most (20 + (8 + 3)) 32 (omega arith)
    (shaped_append s (p ++ newline_given into (t + 1)) 20 (8 + 3) m (up_to (t + 1 + 2) m (omega arith) hs)
    (shaped_append p (newline_given into (t + 1)) 8 3 m (up_to (t + 1 + 2) m (omega arith) hp)
    (piece m (into ∷ (t + 1) ∷ []) (newline_given 0 1) 3 (omega arith, (omega arith, tt)) refl refl)))

-- ---- comparisons

pub strcmp_shape : (a b : Held) (into line t : ℕ) → AreBelow t (held_registers a) → AreBelow t (held_registers b)
    → AreBelow t (into ∷ []) → HasShape (strcmp_code a b into line t (t + 1) (t + 2) (t + 3)) 64 (t + 4)
strcmp_shape a b into line t ha hb res =
    piece_behind t (t + 4) (held_registers a ++ (held_registers b ++ into ∷ [])) (t ∷ (t + 1) ∷ (t + 2) ∷ (t + 3) ∷ [])
    (strcmp_code (pointer_from 0) (pointer_from 5) 10 line 11 12 13 14) 64 (omega arith)
    (below_both t (held_registers a) (held_registers b ++ into ∷ []) ha
    (below_both t (held_registers b) (into ∷ []) hb res))
    (omega arith, (omega arith, (omega arith, (omega arith, tt)))) refl refl

pub memcmp_shape : (a b : Held) (size into line t : ℕ) → AreBelow t (held_registers a)
    → AreBelow t (size ∷ held_registers b) → AreBelow t (into ∷ [])
    → HasShape (memcmp_code a b size into line t (t + 1) (t + 2) (t + 3) (t + 4)) 64 (t + 5)
memcmp_shape a b size into line t ha hb res =
    piece_behind t (t + 5) (held_registers a ++ ((size ∷ held_registers b) ++ into ∷ []))
    (t ∷ (t + 1) ∷ (t + 2) ∷ (t + 3) ∷ (t + 4) ∷ [])
    (memcmp_code (pointer_from 0) (pointer_from 6) 5 11 line 12 13 14 15 16) 64 (omega arith)
    (below_both t (held_registers a) ((size ∷ held_registers b) ++ into ∷ []) ha
    (below_both t (size ∷ held_registers b) (into ∷ []) hb res))
    (omega arith, (omega arith, (omega arith, (omega arith, (omega arith, tt))))) refl refl

pub strchr_shape : (h : Held) (byte : ℕ) (into : Held) (line t : ℕ) → AreBelow t (byte ∷ held_registers h)
    → AreBelow t (held_registers into) → HasShape (strchr_code h byte into line t (t + 1)) 48 (t + 2)
strchr_shape h byte into line t below res =
    piece_behind t (t + 2) ((byte ∷ held_registers h) ++ held_registers into) (t ∷ (t + 1) ∷ [])
    (strchr_code (pointer_from 1) 0 (pointer_from 6) line 11 12) 48 (omega arith)
    (below_both t (byte ∷ held_registers h) (held_registers into) below res) (omega arith, (omega arith, tt)) refl refl

-- ---- numbers

pub number_shape : (value count t : ℕ) → value < t → count < t → (d : Directive)
    → HasShape (number_code d value count t) 48 (t + 4)
number_shape value count t v c directive.Int =
    piece_behind t (t + 4) (value ∷ count ∷ []) (t ∷ (t + 1) ∷ (t + 1 + 1) ∷ (t + 1 + 2) ∷ []) (number_code directive.Int 0 1 2)
    48 (omega arith) (v, (c, tt)) (omega arith, (omega arith, (omega arith, (omega arith, tt)))) refl refl
number_shape value count t v c directive.UnsignedInt =
    piece_behind t (t + 4) (value ∷ count ∷ []) (t ∷ (t + 1) ∷ (t + 1 + 1) ∷ (t + 1 + 2) ∷ []) (number_code directive.UnsignedInt 0 1 2)
    48 (omega arith) (v, (c, tt)) (omega arith, (omega arith, (omega arith, (omega arith, tt)))) refl refl
number_shape value count t v c directive.Hexadecimal =
    piece_behind t (t + 4) (value ∷ count ∷ []) (t ∷ (t + 1) ∷ (t + 1 + 1) ∷ (t + 1 + 2) ∷ []) (number_code directive.Hexadecimal 0 1 2)
    48 (omega arith) (v, (c, tt)) (omega arith, (omega arith, (omega arith, (omega arith, tt)))) refl refl
number_shape value count t v c directive.Character =
    piece_behind t (t + 4) (value ∷ count ∷ []) (t ∷ []) (number_code directive.Character 0 1 2)
    48 (omega arith) (v, (c, tt)) (omega arith, tt) refl refl
number_shape value count t v c directive.Long =
    piece_behind t (t + 4) (value ∷ count ∷ []) (t ∷ (t + 1) ∷ (t + 1 + 1) ∷ (t + 1 + 2) ∷ []) (number_code directive.Long 0 1 2)
    48 (omega arith) (v, (c, tt)) (omega arith, (omega arith, (omega arith, (omega arith, tt)))) refl refl
number_shape value count t v c directive.UnsignedLong =
    piece_behind t (t + 4) (value ∷ count ∷ []) (t ∷ (t + 1) ∷ (t + 2) ∷ []) (number_code directive.UnsignedLong 0 1 2)
    48 (omega arith) (v, (c, tt)) (omega arith, (omega arith, (omega arith, tt))) refl refl
number_shape value count t v c directive.String =
    piece_behind t (t + 4) (value ∷ count ∷ []) (t ∷ []) (number_code directive.String 0 1 2)
    48 (omega arith) (v, (c, tt)) (omega arith, tt) refl refl
