-- The order of moments.
use Rattle.std.proofs.Common.{◌≡◌, List, [], ◌++◌, refl, sym, ap, ◌∙◌, arith, append_assoc}
use Rattle.std.proofs.lemmas.List.{append-nil}
use Rattle.behaviours.specs.Shown.{Shown, IsPrefix, IsEarlier, nothing_shown}

pub prefix_nil : {A : Type 0} (xs : List A) → IsPrefix [] xs
prefix_nil xs = record { rest = xs; split = refl }

pub prefix_refl : {A : Type 0} (xs : List A) → IsPrefix xs xs
prefix_refl xs = record { rest = []; split = sym (append-nil xs) }

pub prefix_append : {A : Type 0} (xs rest : List A) → IsPrefix xs (xs ++ rest)
prefix_append xs rest = record { rest = rest; split = refl }

pub prefix_same : {A : Type 0} (xs ys : List A) → xs ≡ ys → IsPrefix xs ys
prefix_same xs ys e = record { rest = []; split = sym e ∙ sym (append-nil xs) }

pub prefix_trans : {A : Type 0} (xs ys zs : List A) → IsPrefix xs ys → IsPrefix ys zs → IsPrefix xs zs
prefix_trans xs ys zs p q = record {
  rest = p.rest ++ q.rest;
  split = q.split ∙ ap (λ l. l ++ q.rest) p.split ∙ append_assoc xs p.rest q.rest;
}

pub nothing_is_earlier : (x : Shown) → IsEarlier nothing_shown x
nothing_is_earlier x = record {
  output = prefix_nil x.output;
  errors = prefix_nil x.errors;
  taken = omega arith;
  accesses = prefix_nil x.accesses;
  ended = λ e h. cc;
}

pub same_is_earlier : (x y : Shown) → x ≡ y → IsEarlier x y
same_is_earlier x y e = record {
  output = prefix_same x.output y.output (ap (λ s. s.output) e);
  errors = prefix_same x.errors y.errors (ap (λ s. s.errors) e);
  taken = let t : x.taken ≡ y.taken = ap (λ s. s.taken) e in omega arith;
  accesses = prefix_same x.accesses y.accesses (ap (λ s. s.accesses) e);
  ended = λ _ _. sym e;
}

pub earlier_trans : (x y z : Shown) → IsEarlier x y → IsEarlier y z → IsEarlier x z
earlier_trans x y z p q = record {
  output = prefix_trans x.output y.output z.output p.output q.output;
  errors = prefix_trans x.errors y.errors z.errors p.errors q.errors;
  taken = let a = p.taken in let b = q.taken in omega arith;
  accesses = prefix_trans x.accesses y.accesses z.accesses p.accesses q.accesses;
  ended = λ e h.
      let same = p.ended e h in
      q.ended e (ap (λ s. s.ending) same ∙ h) ∙ same;
}
