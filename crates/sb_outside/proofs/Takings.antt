-- What was taken from a source, and what it may give.
use Rattle.std.proofs.Common.{◌≡◌, ℕ, List, [], ◌∷◌, ◌++◌, Option, Some, None, Result, Ok, Err, refl, sym, ap, ◌∙◌}
use Rattle.std.proofs.Common.{subst, append_assoc}
use Rattle.std.specs.Prelude.{IfOk, slice_get, drop}
use Rattle.sb_outside.specs.declared.source.Failed.{Failed}
use Rattle.sb_outside.specs.Content.{Takes, given_by}
use Rattle.sb_outside.specs.Rest.{Rest, Told, Untold, Ended, MayGive, HasTaken, ForEveryInput, GivesSome}

pub gives_some : (rest : Rest) → GivesSome rest
gives_some (Told bytes) = record { bytes = bytes; given = refl }
gives_some Untold = record { bytes = []; given = tt }
gives_some Ended = record { bytes = []; given = refl }

pub taken_nothing : (rest : Rest) → HasTaken rest rest []
taken_nothing rest = record { behind = λ bytes given. given }

pub taken_more : (before between now : Rest) (first then : List ℕ) → HasTaken before between first
    → HasTaken between now then → HasTaken before now (first ++ then)
taken_more before between now first then f t = record {
  behind = λ bytes given. subst (MayGive before) (sym (append_assoc first then bytes))
      (f.behind (then ++ bytes) (t.behind bytes given));
}

-- of a source that tells its content the bytes were the first of those left
pub taken_told : (before now taken : List ℕ) → HasTaken (Told before) (Told now) taken → before ≡ taken ++ now
taken_told before now taken h = sym (h.behind now refl)

first_is : (bytes : List ℕ) (byte : ℕ) → Some byte ≡ slice_get bytes 0 → byte ∷ drop 1 bytes ≡ bytes
first_is [] byte e = cc
first_is (b ∷ bytes) byte e = let same : byte ≡ b = cc in ap (λ x. x ∷ bytes) same

none_is : (bytes : List ℕ) → slice_get bytes 0 ≡ None → bytes ≡ []
none_is [] e = refl
none_is (b ∷ bytes) e = cc

none_left : (bytes : List ℕ) → slice_get bytes 0 ≡ None → drop 1 bytes ≡ bytes
none_left bytes e = let none = none_is bytes e in ap (drop 1) none ∙ sym none

-- a call takes the bytes that it gives
pub took : (old new : Rest) (result : Result (Option ℕ) Failed) → Takes old new result
    → HasTaken old new (given_by result)
took (Told bytes) new (Ok (Some byte)) t = record {
  behind = λ more given. let is : more ≡ drop 1 bytes = subst (λ r. MayGive r more) t.1 given in ap (λ m. byte ∷ m) is
      ∙ first_is bytes byte t.0;
}
took (Told bytes) new (Ok None) t = record {
  behind = λ more given. let is : more ≡ drop 1 bytes = subst (λ r. MayGive r more) t.1 given in is
      ∙ none_left bytes (sym t.0);
}
took (Told bytes) new (Err failed) t = record { behind = λ more given. subst (λ r. MayGive r more) t given }
took Untold new (Ok (Some byte)) t = record { behind = λ more given. tt }
took Untold new (Ok None) t = record { behind = λ more given. tt }
took Untold new (Err failed) t = record { behind = λ more given. tt }
took Ended new (Ok (Some byte)) t = absurd t
took Ended new (Ok None) t = record { behind = λ more given. subst (λ r. MayGive r more) t given }
took Ended new (Err failed) t = record { behind = λ more given. subst (λ r. MayGive r more) t given }

-- it gives the first of all that the source may have given then
pub took_first : (old new : Rest) (first : Option ℕ) (more : List ℕ) → Takes old new (Ok first) → MayGive new more
    → first ≡ slice_get (given_by (Ok first) ++ more) 0
took_first old new (Some byte) more t given = refl
took_first (Told bytes) new None more t given =
    let is : more ≡ drop 1 bytes = subst (λ r. MayGive r more) t.1 given in
    t.0 ∙ ap (λ l. slice_get l 0) (sym (is ∙ none_left bytes (sym t.0)))
took_first Untold new None more t given =
    let is : more ≡ [] = subst (λ r. MayGive r more) t given in
    ap (λ l. slice_get l 0) (sym is)
took_first Ended new None more t given =
    let is : more ≡ [] = subst (λ r. MayGive r more) t given in
    ap (λ l. slice_get l 0) (sym is)

-- and leaves the others
pub took_rest : (old new : Rest) (first : Option ℕ) (more : List ℕ) → Takes old new (Ok first) → MayGive new more
    → drop 1 (given_by (Ok first) ++ more) ≡ more
took_rest old new (Some byte) more t given = refl
took_rest old new None more t given = none_left more (sym (took_first old new None more t given))

-- where nothing was taken
pub untaken : (rest : Rest) (P : List ℕ → List ℕ → Type 0) → ((left : List ℕ) → P left left) → ForEveryInput rest rest P
untaken rest P each = record { taken = []; took = taken_nothing rest; holds = λ left given. each left }

pub map_inputs : (before now : Rest) (P Q : List ℕ → List ℕ → Type 0) → ((was rest : List ℕ) → P was rest → Q was rest)
    → ForEveryInput before now P → ForEveryInput before now Q
map_inputs before now P Q each f = record
    { taken = f.taken; took = f.took; holds = λ rest given. each (f.taken ++ rest) rest (f.holds rest given) }

-- one taking after another
pub then_inputs : (before between now : Rest) (P Q R : List ℕ → List ℕ → Type 0)
    → ((was left rest : List ℕ) → P was left → Q left rest → R was rest) → ForEveryInput before between P
    → ForEveryInput between now Q → ForEveryInput before now R
then_inputs before between now P Q R each f t = record {
  taken = f.taken ++ t.taken;
  took = taken_more before between now f.taken t.taken f.took t.took;
  holds = λ rest given.
      let left = t.taken ++ rest in
      let r = each (f.taken ++ left) left rest (f.holds left (t.took.behind rest given)) (t.holds rest given) in
      subst (λ was. R was rest) (sym (append_assoc f.taken t.taken rest)) r;
}
