-- The arguments of directives, strings apart, are put out.
use Rattle.std.proofs.Common.{◌≡◌, ℕ, suc, ◌+◌, ◌-◌, ◌%◌, ◌^◌, ◌<◌, ◌≤◌}
use Rattle.std.proofs.Common.{List, [], ◌∷◌, ◌++◌, Bool, true, false, length-append, refl, sym, ap, ◌∙◌, subst}
use Rattle.std.proofs.Common.{arith, append_assoc, if◌then◌else◌}
use Rattle.std.specs.Prelude.{nat_lt, nat_le, pos}
use Rattle.std.specs.Fmt.{decimal, signed_decimal}
use Rattle.std.specs.Int.{w64, int_wrap}
use Rattle.std.proofs.lemmas.Bool.{lt-ltb, le-ltb, lt-leb, le-leb, ltb-false, ltb-true, cond-true, cond-false}
use Rattle.std.proofs.lemmas.List.{append-nil}
use Rattle.words.specs.TwosComplement.{sign_extended}
use Rattle.obj_memory.specs.declared.int_type.IntType.TheVariants.{Int}
use Rattle.obj_memory.specs.Integers.{fit}
use Rattle.source_meaning.specs.Actions.{int_of}
use Rattle.flat_code.specs.State.{State}
use Rattle.flat_code.specs.Words.{IsOfWords}
use Rattle.lib_wrappers.specs.PrintingRoutines.Digits.{HasPrinted}

-- ---- signed numbers

-- those of a word of 64 bits: its sign, and its magnitude
abbrev pub signed_bytes : (word : ℕ) → List ℕ
signed_bytes x = if nat_lt x (2 ^ 63) then decimal x else 45 ∷ decimal (2 ^ 64 - x)

pub long_bytes : (w : ℕ) → w < 2 ^ 64 → signed_decimal (int_wrap w64 (pos w)) ≡ signed_bytes w
unfolding int_wrap
long_bytes w l = by (nat_lt w (2 ^ 63)) refl
  where
    same : w % 2 ^ 64 ≡ w
    same = omega arith

    by : (b : Bool) → nat_lt w (2 ^ 63) ≡ b → signed_decimal (int_wrap w64 (pos w)) ≡ signed_bytes w
    by true e = rw (same, e) refl
    by false e =
        let high = ltb-false w (2 ^ 63) e in
        let m : suc (2 ^ 64 - suc w) ≡ 2 ^ 64 - w = omega arith in
        rw (same, e) (ap (λ n. 45 ∷ decimal n) m)

pub int_bytes : (w : ℕ) → signed_decimal (int_of w) ≡ signed_bytes (fit Int w)
unfolding int_wrap fit
int_bytes w = by (nat_lt (w % 2 ^ 32) (2 ^ 31)) refl
  where
    by : (b : Bool) → nat_lt (w % 2 ^ 32) (2 ^ 31) ≡ b → signed_decimal (int_of w) ≡ signed_bytes (fit Int w)
    by true e =
        let l = ltb-true (w % 2 ^ 32) (2 ^ 31) e in
        let extended : sign_extended 32 64 (w % 2 ^ 32) ≡ w % 2 ^ 32 =
        cond-false (nat_le (2 ^ 31) (w % 2 ^ 32)) _ (w % 2 ^ 32) (lt-leb (2 ^ 31) (w % 2 ^ 32) l) in
        rw e (sym (ap signed_bytes extended
        ∙ cond-true (nat_lt (w % 2 ^ 32) (2 ^ 63)) (decimal (w % 2 ^ 32)) _
        (lt-ltb (w % 2 ^ 32) (2 ^ 63) (omega arith))))
    by false e =
        let l = ltb-false (w % 2 ^ 32) (2 ^ 31) e in
        let x = w % 2 ^ 32 + (2 ^ 64 - 2 ^ 32) in
        let extended : sign_extended 32 64 (w % 2 ^ 32) ≡ w % 2 ^ 32 + (2 ^ 64 - 2 ^ 32) =
        cond-true (nat_le (2 ^ 31) (w % 2 ^ 32)) (w % 2 ^ 32 + (2 ^ 64 - 2 ^ 32)) _ (le-leb (2 ^ 31) (w % 2 ^ 32) l) in
        let m : suc (2 ^ 32 - suc (w % 2 ^ 32)) ≡ 2 ^ 64 - (w % 2 ^ 32 + (2 ^ 64 - 2 ^ 32)) = omega arith in
        rw e (ap (λ n. 45 ∷ decimal n) m
        ∙ sym (ap signed_bytes extended
        ∙ cond-false (nat_lt x (2 ^ 63)) (decimal x) (45 ∷ decimal (2 ^ 64 - x)) (le-ltb x (2 ^ 63) (omega arith))))

-- ---- one thing put out after another

abbrev pub sum_of : (count bytes : ℕ) → ℕ
sum_of c n = (c + n) % 2 ^ 64

module _ (c t : ℕ) (f f1 f2 : State) where
  pub printed_both : (a b : List ℕ) (t' : ℕ) → t ≤ t' → HasPrinted a c t f f1 → HasPrinted b c t' f1 f2
      → HasPrinted (a ++ b) c t f f2
  printed_both a b t' le h k = record {
    output = k.output ∙ ap (λ o. o ++ b) h.output ∙ append_assoc f.output a b;
    counted = (let x = h.counted in let y = k.counted in let l = length-append a b in omega arith);
    memory = k.memory ∙ h.memory;
    input = k.input ∙ h.input;
    taken = k.taken ∙ h.taken;
    accesses = k.accesses ∙ h.accesses;
    turns = k.turns ∙ h.turns;
    others = λ r l none. k.others r (omega arith) none ∙ h.others r l none;
  }

pub printed_as : (a b : List ℕ) (c t : ℕ) (f f' : State) → a ≡ b → HasPrinted a c t f f' → HasPrinted b c t f f'
printed_as a b c t f f' e h = subst (λ bytes. HasPrinted bytes c t f f') e h

-- nothing was put out, and no register below scratch changed
pub printed_none : (c t : ℕ) (f f' : State) → IsOfWords f → f'.output ≡ f.output → f'.memory ≡ f.memory
    → f'.input ≡ f.input → f'.taken ≡ f.taken → f'.accesses ≡ f.accesses → f'.turns ≡ f.turns
    → ((r : ℕ) → r < t → f'.values r ≡ f.values r) → c < t → HasPrinted [] c t f f'
printed_none c t f f' words o m i k a u others l = record {
  output = o ∙ sym (append-nil f.output);
  counted = (let e = others c l in let w = words.values c in omega arith);
  memory = m;
  input = i;
  taken = k;
  accesses = a;
  turns = u;
  others = λ r less none. others r less;
}
