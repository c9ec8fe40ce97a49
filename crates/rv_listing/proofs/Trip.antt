-- A listing is read back.
use Rattle.std.proofs.Common.{rules, ◌≡◌, ℕ, suc, ◌+◌, ◌-◌, ◌^◌, ◌<◌, ◌≤◌, Bool, true, false, ◌==◌}
use Rattle.std.proofs.Common.{List, [], ◌∷◌, ◌++◌, length, map, replicate, refl, sym, ap, ◌∙◌, arith, Option, Some, None}
use Rattle.std.proofs.Common.{Ok, Err, length-append}
use Rattle.std.proofs.lemmas.List.{append_assoc, append-nil, replicate-append-replicate}
use Rattle.std.specs.List.{All}
use Rattle.std.specs.Prelude.{flat_map, if◌then◌else◌, nat_le}
use Rattle.byteorder.specs.Endian.{little_number, little_bytes}
use Rattle.rv_isa.specs.Decoding.{decoded}
use Rattle.rv_isa.specs.declared.instruction.Instr.{Instr}
use Rattle.rv_listing.specs.declared.fault.ListFault.TheVariants as fault
use Rattle.rv_listing.specs.Lines.{Piece, image, instruction, zeros, group, piece_bytes, piece_text, instruction_bytes, line_text}
use Rattle.rv_listing.specs.Lines.{read_line}
use Rattle.rv_listing.specs.Listings.{Reading, is_code, by_instruction, word_piece, words, with_piece, merged, listing, text_of}
use Rattle.rv_listing.specs.Listings.{listing_text, lines_of, behind, at_end, if_line, read_lines, if_image, read_all, read_listing}
use Rattle.rv_listing.proofs.Cutting.{lacks, cut_found}
use Rattle.rv_listing.proofs.Decoded.{IfFound, HasWord, decoded_again}
use Rattle.rv_listing.proofs.LinesRead.{first_line}
use Rattle.rv_listing.proofs.PieceRead.{AreBytes, IsGood, image_read, image_lacks, piece_read, piece_lacks}

abbrev pub AreGood : List Piece → Type 0
AreGood [] = Unit {0}
AreGood (p ∷ ps) = IsGood p × AreGood ps

abbrev pub bytes_of : List Piece → List ℕ
bytes_of ps = flat_map piece_bytes ps

-- the words of a file have its bytes

number_of_four : (a b c d : ℕ) → a < 256 → b < 256 → c < 256 → d < 256
    → little_bytes 4 (little_number 4 (a ∷ b ∷ c ∷ d ∷ [])) ≡ a ∷ b ∷ c ∷ d ∷ []
number_of_four a b c d ha hb hc hd =
    four _ _ _ _ a b c d (omega (arith, ha, hb, hc, hd)) (omega (arith, ha, hb, hc, hd)) (omega (arith, ha, hb, hc, hd)) (omega
    (arith, ha, hb, hc, hd))
  where
    four : (a b c d e f g h : ℕ) → a ≡ e → b ≡ f → c ≡ g → d ≡ h → a ∷ b ∷ c ∷ d ∷ []
        ≡ e ∷ f ∷ g ∷ h ∷ []
    four a b c d e f g h p q r s =
        ap (λ x. x ∷ b ∷ c ∷ d ∷ []) p ∙ ap (λ x. e ∷ x ∷ c ∷ d ∷ []) q ∙ ap (λ x. e ∷ f ∷ x ∷ d ∷ []) r
        ∙ ap (λ x. e ∷ f ∷ g ∷ x ∷ []) s

small_number : (a b c d : ℕ) → a < 256 → b < 256 → c < 256 → d < 256 → little_number 4 (a ∷ b ∷ c ∷ d ∷ []) < 2 ^ 32
small_number a b c d ha hb hc hd = omega (arith, ha, hb, hc, hd)

-- a piece that has these bytes
record Is (bs : List ℕ) (p : Piece) : Type 0 where
  good : IsGood p
  bytes : piece_bytes p ≡ bs

zero_word : (a b c d : ℕ) → little_number 4 (a ∷ b ∷ c ∷ d ∷ []) ≡ 0 → replicate 4 0 ≡ a ∷ b ∷ c ∷ d ∷ []
zero_word a b c d e =
    let ea : a ≡ 0 = omega (arith, e) in
    let eb : b ≡ 0 = omega (arith, e) in
    let ec : c ≡ 0 = omega (arith, e) in
    let ed : d ≡ 0 = omega (arith, e) in
    sym (ap (λ x. x ∷ b ∷ c ∷ d ∷ []) ea ∙ ap (λ x. 0 ∷ x ∷ c ∷ d ∷ []) eb ∙ ap (λ x. 0 ∷ 0 ∷ x ∷ d ∷ []) ec
    ∙ ap (λ x. 0 ∷ 0 ∷ 0 ∷ x ∷ []) ed)

plain_is : (a b c d : ℕ) (x : Bool) → (little_number 4 (a ∷ b ∷ c ∷ d ∷ []) == 0) ≡ x → AreBytes
    (a ∷ b ∷ c ∷ d ∷ [])
    → Is (a ∷ b ∷ c ∷ d ∷ []) (if x then zeros 4 else group (a ∷ b ∷ c ∷ d ∷ []))
unfolding piece_bytes
plain_is a b c d true e h = record { good = omega arith; bytes = zero_word a b c d (zero_is _ e) } where
  zero_is : (n : ℕ) → (n == 0) ≡ true → n ≡ 0
  zero_is n e = search (rules, e)
plain_is a b c d false e h = record { good = (omega arith, omega arith, h); bytes = refl }

found_is : (a b c d : ℕ) (o : Option Instr) → IfFound (HasWord (little_number 4 (a ∷ b ∷ c ∷ d ∷ []))) o
    → AreBytes (a ∷ b ∷ c ∷ d ∷ []) → Is (a ∷ b ∷ c ∷ d ∷ []) (by_instruction (a ∷ b ∷ c ∷ d ∷ []) o)
unfolding piece_bytes instruction_bytes
found_is a b c d None f h = plain_is a b c d (little_number 4 (a ∷ b ∷ c ∷ d ∷ []) == 0) refl h
found_is a b c d (Some i) f h = record {
  good = f.0;
  bytes = ap (little_bytes 4) f.1 ∙ number_of_four a b c d h.0 h.1.0 h.1.1.0 h.1.1.1.0;
}

where_code : (x : Bool) (n : ℕ) → n < 2 ^ 32 → IfFound (HasWord n) (if x then decoded n else None)
where_code true n lt = decoded_again n lt
where_code false n lt = tt

word_is : (x : Bool) (a b c d : ℕ) → AreBytes (a ∷ b ∷ c ∷ d ∷ []) → Is (a ∷ b ∷ c ∷ d ∷ []) (word_piece x
    (a ∷ b ∷ c ∷ d ∷ []))
unfolding word_piece
word_is x a b c d h =
    let n = little_number 4 (a ∷ b ∷ c ∷ d ∷ []) in
    found_is a b c d (if x then decoded n else None) (where_code x n (small_number a b c d h.0 h.1.0 h.1.1.0 h.1.1.1.0)) h

-- pieces that have these bytes
record Are (bs : List ℕ) (ps : List Piece) : Type 0 where
  pub good : AreGood ps
  pub bytes : bytes_of ps ≡ bs

beside : (cs : List ℕ) (p : Piece) (bs : List ℕ) (ps : List Piece) → Is cs p → Are bs ps → Are (cs ++ bs) (p ∷ ps)
beside cs p bs ps i a = record {
  good = (i.good, a.good);
  bytes = ap (λ x. x ++ bytes_of ps) i.bytes ∙ ap (λ x. cs ++ x) a.bytes;
}

run_beside : (n m : ℕ) (bs cs : List ℕ) (ps : List Piece) → Is cs (zeros n) → Are bs (zeros m ∷ ps) → Are (cs ++ bs) (zeros
    (n + m) ∷ ps)
unfolding piece_bytes
run_beside n m bs cs ps i a =
    let some : 1 ≤ n = i.good in
    record {
      good = (omega (arith, some), a.good.1);
      bytes = ap (λ x. x ++ bytes_of ps) (sym (replicate-append-replicate n m 0))
          ∙ append_assoc (replicate n 0) (replicate m 0) (bytes_of ps)
          ∙ ap (λ x. x ++ (replicate m 0 ++ bytes_of ps)) i.bytes ∙ ap (λ x. cs ++ x) a.bytes;
    }

merged_beside : (cs : List ℕ) (p : Piece) (bs : List ℕ) (ps : List Piece) → Is cs p → Are bs ps → Are (cs ++ bs) (with_piece p ps)
unfolding with_piece
merged_beside cs (image n) bs ps i a = absurd i.good
merged_beside cs (instruction j) bs ps i a = beside cs (instruction j) bs ps i a
merged_beside cs (group ds) bs ps i a = beside cs (group ds) bs ps i a
merged_beside cs (zeros n) bs [] i a = beside cs (zeros n) bs [] i a
merged_beside cs (zeros n) bs (image m ∷ ps) i a = absurd a.good.0
merged_beside cs (zeros n) bs (instruction j ∷ ps) i a = beside cs (zeros n) bs (instruction j ∷ ps) i a
merged_beside cs (zeros n) bs (zeros m ∷ ps) i a = run_beside n m bs cs ps i a
merged_beside cs (zeros n) bs (group ds ∷ ps) i a = beside cs (zeros n) bs (group ds ∷ ps) i a

last_is : (bs : List ℕ) → 1 ≤ length bs → length bs ≤ 4 → AreBytes bs → Are bs (merged (group bs ∷ []))
unfolding merged with_piece piece_bytes
last_is bs some few h = record { good = ((some, few, h), tt); bytes = append-nil bs }

words_are : (ranges : List (ℕ × ℕ)) (place : ℕ) (bs : List ℕ) → AreBytes bs → Are bs (merged (words ranges place bs))
unfolding words merged
words_are ranges place [] h = record { good = tt; bytes = refl }
words_are ranges place (a ∷ []) h = last_is (a ∷ []) (omega arith) (omega arith) h
words_are ranges place (a ∷ b ∷ []) h = last_is (a ∷ b ∷ []) (omega arith) (omega arith) h
words_are ranges place (a ∷ b ∷ c ∷ []) h = last_is (a ∷ b ∷ c ∷ []) (omega arith) (omega arith) h
words_are ranges place (a ∷ b ∷ c ∷ d ∷ bs) h =
    merged_beside (a ∷ b ∷ c ∷ d ∷ []) (word_piece (is_code ranges place) (a ∷ b ∷ c ∷ d ∷ [])) bs
    (merged (words ranges (place + 4) bs))
    (word_is (is_code ranges place) a b c d (h.0, (h.1.0, (h.1.1.0, (h.1.1.1.0, tt)))))
    (words_are ranges (place + 4) bs h.1.1.1.1)

-- the lines of the text

within : (m n : ℕ) → m ≤ n → nat_le m n ≡ true
within m n le = search (rules, le)

part_length : (p : Piece) (ps : List Piece) → length (bytes_of (p ∷ ps)) ≡ length (piece_bytes p) + length (bytes_of ps)
part_length p ps = length-append (piece_bytes p) (bytes_of ps)

line_before : (p : Piece) (text : List ℕ) → lacks 10 (piece_text p) ≡ true
    → lines_of (line_text p ++ text) ≡ (piece_text p ∷ (lines_of text).0, (lines_of text).1)
line_before p text e =
    ap lines_of (append_assoc (piece_text p) (10 ∷ []) text)
    ∙ first_line (piece_text p ++ (10 ∷ text)) (piece_text p) text (cut_found 10 (piece_text p) text refl e)

lines_are : (ps : List Piece) → AreGood ps → length (bytes_of ps) ≤ 67108864 → lines_of (text_of ps) ≡ (map piece_text ps, [])
unfolding text_of lines_of
lines_are [] g few = refl
lines_are (p ∷ ps) g few =
    let e = part_length p ps in
    line_before p (text_of ps) (piece_lacks p g.0 (omega (arith, few, e)))
    ∙ ap (λ x. (piece_text p ∷ x.0, x.1)) (lines_are ps g.1 (omega (arith, few, e)))

-- what is read of them

one_read : (p : Piece) (bs : List ℕ) (number room : ℕ) (next : ℕ → Reading) → read_line (piece_text p) ≡ Ok (piece_bytes p)
    → length (piece_bytes p) ≤ room → next (room - length (piece_bytes p)) ≡ Ok bs
    → if_line number room (read_line (piece_text p)) next ≡ Ok (piece_bytes p ++ bs)
unfolding if_line behind
one_read p bs number room next e le n =
    ap (λ x. if_line number room x next) e
    ∙ ap (λ b. if b then behind (piece_bytes p) (next (room - length (piece_bytes p))) else Err (fault.Length, number))
    (within (length (piece_bytes p)) room le)
    ∙ ap (behind (piece_bytes p)) n

lines_read : (ps : List Piece) (number room : ℕ) → AreGood ps → room ≡ length (bytes_of ps) → room ≤ 67108864
    → read_lines number room (map piece_text ps) [] ≡ Ok (bytes_of ps)
unfolding read_lines at_end
lines_read [] number room g e few = ap (λ x. if x == 0 then Ok [] else Err (fault.Length, number)) e
lines_read (p ∷ ps) number room g e few =
    let f = part_length p ps in
    one_read p (bytes_of ps) number room _ (piece_read p g.0 (omega (arith, e, f, few))) (omega (arith, e, f))
    (lines_read ps (number + 1) (room - length (piece_bytes p)) g.1 (omega (arith, e, f)) (omega (arith, few)))

all_below : (bytes : List ℕ) (ranges : List (ℕ × ℕ)) → AreBytes bytes → 1 ≤ length bytes → length bytes ≤ 67108864
    → read_listing (listing_text bytes ranges) ≡ Ok bytes
unfolding read_listing read_all listing_text listing text_of
all_below bytes ranges h some few =
    let ps = merged (words ranges 0 bytes) in
    let a = words_are ranges 0 bytes h in
    let e : length (bytes_of ps) ≡ length bytes = ap length a.bytes in
    ap read_all (line_before (image (length bytes)) (text_of ps) (image_lacks (length bytes) (omega (arith, few)))
    ∙ ap (λ x. (piece_text (image (length bytes)) ∷ x.0, x.1)) (lines_are ps a.good (omega (arith, few, e))))
    ∙ ap (λ x. if_image x (map piece_text ps) []) (image_read (length bytes) some few)
    ∙ lines_read ps 2 (length bytes) a.good (sym e) few ∙ ap Ok a.bytes

-- bytes as the law has them
from_all : (bs : List ℕ) → All (λ b. b < 256) bs → AreBytes bs
from_all [] h = tt
from_all (b ∷ bs) h = (h 0 0 (omega arith), from_all bs (λ k d lt. h (suc k) d (omega (arith, lt))))

pub read_back : (bytes : List ℕ) (ranges : List (ℕ × ℕ)) → All (λ b. b < 256) bytes → 1 ≤ length bytes
    → length bytes ≤ 67108864 → read_listing (listing_text bytes ranges) ≡ Ok bytes
read_back bytes ranges h = all_below bytes ranges (from_all bytes h)
