-- What is accepted is the bytes of its lines, one after the other.
use Rattle.std.proofs.Common.{rules, ◌≡◌, ℕ, ◌+◌, ◌-◌, ◌≤◌, Bool, true, false, ◌==◌, List, [], ◌∷◌}
use Rattle.std.proofs.Common.{◌++◌, length, map, refl, sym}
use Rattle.std.proofs.Common.{ap, ◌∙◌, arith, Result, Ok, Err, length-append}
use Rattle.std.specs.Prelude.{flat_map, if◌then◌else◌, nat_le}
use Rattle.rv_listing.specs.declared.fault.ListFault.{ListFault}
use Rattle.rv_listing.specs.declared.fault.ListFault.TheVariants as fault
use Rattle.rv_listing.specs.Lines.{image_in, read_line}
use Rattle.rv_listing.specs.Listings.{Reading, Accepts, lines_of, behind, at_end, if_line, read_lines, if_image, read_all, read_listing}

record Parts (ls : List (List ℕ)) (rest : List ℕ) (room : ℕ) (bytes : List ℕ) : Type 0 where
  parts : List (List ℕ)
  read : map read_line ls ≡ map Ok parts
  whole : bytes ≡ flat_map (λ part. part) parts
  ended : rest ≡ []
  size : length bytes ≡ room

same : {A B : Type 0} (x y : A) → ◌≡◌ {A = Result A B} (Ok x) (Ok y) → x ≡ y
same x y e = cc

unequal : {A B : Type 0} {X : Type 0} (x : A) (y : B) → ◌≡◌ {A = Result A B} (Err y) (Ok x) → X
unequal x y e = absurd cc

is_zero : (n : ℕ) → (n == 0) ≡ true → n ≡ 0
is_zero n e = search (rules, e)

is_within : (m n : ℕ) → nat_le m n ≡ true → m ≤ n
is_within m n e = search (rules, e)

at_zero : (b : Bool) (number room : ℕ) (bytes : List ℕ) → (room == 0) ≡ b
    → ◌≡◌ {A = Reading} (if b then Ok [] else Err (fault.Length, number)) (Ok bytes) → Parts [] [] room bytes
at_zero true number room bytes z e =
    let n : bytes ≡ [] = sym (same [] bytes e) in
    record { parts = []; read = refl; whole = n; ended = refl; size = ap length n ∙ sym (is_zero room z) }
at_zero false number room bytes z e = unequal bytes (fault.Length, number) e

from_end : (number room : ℕ) (rest bytes : List ℕ) → at_end number room rest ≡ Ok bytes → Parts [] rest room bytes
unfolding at_end
from_end number room [] bytes e = at_zero (room == 0) number room bytes refl e
from_end number room (c ∷ cs) bytes e = unequal bytes (fault.Form, number) e

-- what stands behind bytes that were read
record Behind (bs : List ℕ) (r : Reading) (bytes : List ℕ) : Type 0 where
  more : List ℕ
  is : r ≡ Ok more
  whole : bytes ≡ bs ++ more

from_behind : (bs bytes : List ℕ) (r : Reading) → behind bs r ≡ Ok bytes → Behind bs r bytes
unfolding behind
from_behind bs bytes (Ok cs) e = record { more = cs; is = refl; whole = sym (same (bs ++ cs) bytes e) }
from_behind bs bytes (Err x) e = unequal bytes x e

record FromLine (reading : Result (List ℕ) ListFault) (room : ℕ) (next : ℕ → Reading) (bytes : List ℕ) : Type 0 where
  part : List ℕ
  read : reading ≡ Ok part
  fits : length part ≤ room
  others : Behind part (next (room - length part)) bytes

if_fits : (b : Bool) (number room : ℕ) (bs bytes : List ℕ) (next : ℕ → Reading) → nat_le (length bs) room ≡ b
    → (if b then behind bs (next (room - length bs)) else Err (fault.Length, number)) ≡ Ok bytes
    → FromLine (Ok bs) room next bytes
if_fits true number room bs bytes next f e = record {
  part = bs;
  read = refl;
  fits = is_within (length bs) room f;
  others = from_behind bs bytes (next (room - length bs)) e;
}
if_fits false number room bs bytes next f e = unequal bytes (fault.Length, number) e

from_line : (number room : ℕ) (reading : Result (List ℕ) ListFault) (next : ℕ → Reading) (bytes : List ℕ)
    → if_line number room reading next ≡ Ok bytes → FromLine reading room next bytes
unfolding if_line
from_line number room (Ok bs) next bytes e = if_fits (nat_le (length bs) room) number room bs bytes next refl e
from_line number room (Err x) next bytes e = unequal bytes (x, number) e

from_lines : (number room : ℕ) (ls : List (List ℕ)) (rest bytes : List ℕ) → read_lines number room ls rest ≡ Ok bytes
    → Parts ls rest room bytes
unfolding read_lines
from_lines number room [] rest bytes e = from_end number room rest bytes e
from_lines number room (l ∷ ls) rest bytes e =
    let f = from_line number room (read_line l) (λ left. read_lines (number + 1) left ls rest) bytes e in
    let p = from_lines (number + 1) (room - length f.part) ls rest f.others.more f.others.is in
    let le = f.fits in
    let n = ap length f.others.whole ∙ length-append f.part f.others.more in
    let m = p.size in
    record {
      parts = f.part ∷ p.parts;
      read = ap (λ x. x ∷ map read_line ls) f.read ∙ ap (λ x. Ok f.part ∷ x) p.read;
      whole = f.others.whole ∙ ap (λ x. f.part ++ x) p.whole;
      ended = p.ended;
      size = omega (arith, le, n, m);
    }

record FromImage (reading : Result ℕ ListFault) (ls : List (List ℕ)) (rest bytes : List ℕ) : Type 0 where
  size : ℕ
  read : reading ≡ Ok size
  lines : read_lines 2 size ls rest ≡ Ok bytes

from_image : (reading : Result ℕ ListFault) (ls : List (List ℕ)) (rest bytes : List ℕ) → if_image reading ls rest ≡ Ok bytes
    → FromImage reading ls rest bytes
from_image (Ok n) ls rest bytes e = record { size = n; read = refl; lines = e }
from_image (Err x) ls rest bytes e = unequal bytes (x, 1) e

from_all : (text bytes : List ℕ) (ls : List (List ℕ)) (rest : List ℕ) → lines_of text ≡ (ls, rest)
    → read_all (ls, rest) ≡ Ok bytes → Accepts text bytes
unfolding read_all
from_all text bytes [] rest l e = unequal bytes (fault.Form, 1) e
from_all text bytes (first ∷ others) rest l e =
    let i = from_image (image_in first) others rest bytes e in
    let p = from_lines 2 i.size others rest bytes i.lines in
    record {
      first = first;
      others = others;
      parts = p.parts;
      lines = l ∙ ap (λ x. (first ∷ others, x)) p.ended;
      size = i.read ∙ ap Ok (sym p.size);
      read = p.read;
      concatenated = p.whole;
    }

pub accepted : (text bytes : List ℕ) → read_listing text ≡ Ok bytes → Accepts text bytes
unfolding read_listing
accepted text bytes e = from_all text bytes (lines_of text).0 (lines_of text).1 refl e
