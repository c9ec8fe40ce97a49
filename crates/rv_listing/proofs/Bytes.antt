-- Groups of bytes, three characters at a time.
use Rattle.std.proofs.Common.{◌≡◌, ℕ, ◌+◌, ◌≤◌, ◌<◌, List, [], ◌∷◌, ◌++◌, length, take, drop, set, refl}
use Rattle.std.proofs.Common.{sym, ap, ◌∙◌}
use Rattle.std.proofs.Common.{arith, Option, Some, None, slice_index}
use Rattle.std.proofs.lemmas.List.{append_assoc, append-nil, take_more_set}
use Rattle.std.specs.Prelude.{option_map}
use Rattle.rv_listing.specs.Lines.{bytes_in, byte_in, with_byte}

-- the byte at the front of three characters
abbrev first_byte : List ℕ → Option ℕ
first_byte front = byte_in (slice_index front 0) (slice_index front 1) (slice_index front 2)

front_bytes : (cs : List ℕ) → 3 ≤ length cs → bytes_in cs ≡ with_byte (first_byte (take 3 cs)) (bytes_in (drop 3 cs))
unfolding bytes_in
front_bytes [] le = absurd (omega (arith, le))
front_bytes (a ∷ []) le = absurd (omega (arith, le))
front_bytes (a ∷ b ∷ []) le = absurd (omega (arith, le))
front_bytes (a ∷ b ∷ c ∷ cs) le = refl

-- what is done, before what is yet to be read
abbrev pub Continues : (done rest text : List ℕ) → Type 0
Continues done rest text = option_map (λ bs. done ++ bs) (bytes_in rest) ≡ bytes_in text

fuse : (xs ys : List ℕ) (v : ℕ) (o : Option (List ℕ)) → ys ≡ xs ++ (v ∷ [])
    → option_map (λ bs. ys ++ bs) o ≡ option_map (λ bs. xs ++ bs) (option_map (λ cs. v ∷ cs) o)
fuse xs ys v None e = refl
fuse xs ys v (Some cs) e = ap Some (ap (λ z. z ++ cs) e ∙ append_assoc xs (v ∷ []) cs)

pub one_more : (bytes text rest front back : List ℕ) (count v : ℕ) → 3 ≤ length rest → front ≡ take 3 rest
    → back ≡ drop 3 rest → count < length bytes → first_byte front ≡ Some v
    → Continues (take count bytes) rest text → Continues (take (count + 1) (set bytes count v)) back text
one_more bytes text rest front back count v le f b lt is e =
    fuse (take count bytes) (take (count + 1) (set bytes count v)) v (bytes_in back) (take_more_set bytes count v lt)
    ∙ ap (option_map (λ bs. take count bytes ++ bs))
    (ap (λ x. with_byte x (bytes_in back)) (sym is)
    ∙ ap (λ x. with_byte (first_byte x) (bytes_in back)) f
    ∙ ap (λ x. with_byte (first_byte (take 3 rest)) (bytes_in x)) b
    ∙ sym (front_bytes rest le))
    ∙ e

pub no_byte : (done text rest front : List ℕ) → 3 ≤ length rest → front ≡ take 3 rest → first_byte front ≡ None
    → Continues done rest text → None ≡ bytes_in text
no_byte done text rest front le f is e =
    ap (λ x. option_map (λ bs. done ++ bs) (with_byte x (bytes_in (drop 3 rest)))) (sym is ∙ ap first_byte f)
    ∙ ap (option_map (λ bs. done ++ bs)) (sym (front_bytes rest le)) ∙ e

pub too_few : (done text rest : List ℕ) → length rest < 3 → 1 ≤ length rest → Continues done rest text
    → None ≡ bytes_in text
unfolding bytes_in
too_few done text [] lt some e = absurd (omega (arith, some))
too_few done text (a ∷ []) lt some e = e
too_few done text (a ∷ b ∷ []) lt some e = e
too_few done text (a ∷ b ∷ c ∷ cs) lt some e = absurd (omega (arith, lt))

pub all_read : (done text rest : List ℕ) → length rest ≡ 0 → Continues done rest text → Some done ≡ bytes_in text
unfolding bytes_in
all_read done text [] z e = ap Some (sym (append-nil done)) ∙ e
all_read done text (a ∷ cs) z e = absurd (omega (arith, z))
