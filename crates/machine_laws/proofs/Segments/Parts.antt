-- Lists that stand in longer ones.
use Rattle.std.proofs.Common.{◌≡◌, ℕ, ◌+◌, ◌-◌, ◌*◌, ◌≤◌, List, [], ◌∷◌, ◌++◌, length, map}
use Rattle.std.proofs.Common.{refl, sym, ap, ◌∙◌, arith, length-append, append_assoc}
use Rattle.std.specs.Prelude.{take, drop}
use Rattle.std.proofs.Math.Seq.{take-append-add}
use Rattle.std.proofs.lemmas.List.{drop-append-le, length-drop, append-nil, length-map, map-append}
use Rattle.byteorder.specs.Endian.{little_bytes}
use Rattle.machine_laws.specs.Layout.Lists.{bytes_of, HasBytes}
use Rattle.machine_laws.proofs.CodeLayout.Bytes.{bytes_length}

-- a list stands in another from a place on
pub record StandsIn {A : Type 0} (whole : List A) (at : ℕ) (part : List A) : Type 0 where
  pub before : List A
  pub behind : List A
  pub is : whole ≡ before ++ (part ++ behind)
  pub at_is : length before ≡ at

-- the last of a list
pub stands_last : {A : Type 0} (xs part : List A) → StandsIn (xs ++ part) (length xs) part
stands_last xs part = record {
  before = xs;
  behind = [];
  is = ap (λ ys. xs ++ ys) (sym (append-nil part));
  at_is = refl;
}

-- the first
pub stands_first : {A : Type 0} (part ys : List A) → StandsIn (part ++ ys) 0 part
stands_first part ys = record { before = []; behind = ys; is = refl; at_is = refl }

-- what stands in a list stands in one that is longer behind it, or before it
pub stands_left : {A : Type 0} (xs ys part : List A) (at : ℕ) → StandsIn xs at part → StandsIn (xs ++ ys) at part
stands_left xs ys part at h = record {
  before = h.before;
  behind = h.behind ++ ys;
  is = ap (λ zs. zs ++ ys) h.is ∙ append_assoc h.before (part ++ h.behind) ys
      ∙ ap (λ zs. h.before ++ zs) (append_assoc part h.behind ys);
  at_is = h.at_is;
}

pub stands_right : {A : Type 0} (xs ys part : List A) (at : ℕ) → StandsIn ys at part
    → StandsIn (xs ++ ys) (length xs + at) part
stands_right xs ys part at h = record {
  before = xs ++ h.before;
  behind = h.behind;
  is = ap (λ zs. xs ++ zs) h.is ∙ sym (append_assoc xs h.before (part ++ h.behind));
  at_is = length-append xs h.before ∙ ap (λ n. length xs + n) h.at_is;
}

-- what stands in a list stands in the first of it, or in the rest
pub stands_taken : {A : Type 0} (xs part : List A) (at c : ℕ) → StandsIn xs at part → at + length part ≤ c
    → StandsIn (take c xs) at part
stands_taken xs part at c h le =
    let k = c - (at + length part) in
    let at_is = h.at_is in
    let whole : c ≡ length h.before + (length part + k) = omega arith in
    record {
      before = h.before;
      behind = take k h.behind;
      is = ap (take c) h.is ∙ ap (λ n. take n (h.before ++ (part ++ h.behind))) whole
          ∙ take-append-add h.before (part ++ h.behind) (length part + k)
          ∙ ap (λ zs. h.before ++ zs) (take-append-add part h.behind k);
      at_is = h.at_is;
    }

pub stands_dropped : {A : Type 0} (xs part : List A) (at c : ℕ) → StandsIn xs at part → c ≤ at
    → StandsIn (drop c xs) (at - c) part
stands_dropped xs part at c h le =
    let at_is = h.at_is in
    record {
      before = drop c h.before;
      behind = h.behind;
      is = ap (drop c) h.is ∙ drop-append-le c h.before (part ++ h.behind) (omega arith);
      at_is = length-drop c h.before ∙ ap (λ n. n - c) h.at_is;
    }

pub stands_mapped : {A B : Type 0} (f : A → B) (xs part : List A) (at : ℕ) → StandsIn xs at part
    → StandsIn (map f xs) at (map f part)
stands_mapped f xs part at h = record {
  before = map f h.before;
  behind = map f h.behind;
  is = ap (map f) h.is ∙ map-append f h.before (part ++ h.behind)
      ∙ ap (λ zs. map f h.before ++ zs) (map-append f part h.behind);
  at_is = length-map h.before f ∙ h.at_is;
}

bytes_append : (xs ys : List ℕ) → bytes_of (xs ++ ys) ≡ bytes_of xs ++ bytes_of ys
bytes_append [] ys = refl
bytes_append (x ∷ xs) ys = ap (λ zs. little_bytes 4 x ++ zs) (bytes_append xs ys)
    ∙ sym (append_assoc (little_bytes 4 x) (bytes_of xs) (bytes_of ys))

-- words that stand in a list have their bytes in its bytes
pub stands_in_bytes : (ws part : List ℕ) (at : ℕ) → StandsIn ws at part → HasBytes (bytes_of ws) (4 * at) part
stands_in_bytes ws part at h = record {
  before = bytes_of h.before;
  behind = bytes_of h.behind;
  is = ap bytes_of h.is ∙ bytes_append h.before (part ++ h.behind)
      ∙ ap (λ zs. bytes_of h.before ++ zs) (bytes_append part h.behind);
  at_is = bytes_length h.before ∙ ap (λ n. 4 * n) h.at_is;
}
