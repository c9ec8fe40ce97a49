-- The table of the heights of static objects.
use Rattle.std.proofs.Common.{◌≡◌, ◌≢◌, ℕ, ◌<◌, ◌≤◌, Bool, true, false, nat_lt, ◌==◌, if◌then◌else◌, refl, sym, ap, ◌∙◌}
use Rattle.std.proofs.Common.{List, [], ◌∷◌, ◌++◌, length, map, get_or, Option, Some, None, subst, arith}
use Rattle.std.specs.Prelude.{max, replicate, slice_get, slice_set}
use Rattle.std.proofs.lemmas.List.{length-replicate, length-set, get_or-replicate, get_or-set_same, get_or-set_other}
use Rattle.std.proofs.lemmas.Option.{same_Some, slice_get_within, slice_get-get_or}
use Rattle.std.proofs.lemmas.Bool.{eqb-true, eqb-false, lt-ltb, le-ltb, ltb-true, ltb-false, ne_eqb}
use Rattle.c_tree.specs.Programs.{StaticObject}
use Rattle.c_tree.specs.Statements.{Content}
use Rattle.c_tree.specs.Room.{greatest_height, is_number, static_contents}
use Rattle.c_room.specs.Contents.{with_contents}
use Rattle.c_room.specs.Demands.{nothing}
use Rattle.c_room.specs.Numbers.{fitting, greater}
use Rattle.c_room.specs.Rooms.{AreHeights, raised, raised_in, with_statics}
use Rattle.c_room.proofs.Fitting.{below, greater_fits}
use Rattle.c_room.proofs.Gathered.{all_contents}

pub raised_there : (t : List (Option ℕ)) (f : ℕ) (h a r : Option ℕ) → f < length t → slice_get t f ≡ Some a
    → r ≡ greater a h → slice_set t f r ≡ raised t f h
unfolding raised
raised_there t f h a r inside at is =
    let read = same_Some (get_or t f None) a (sym (slice_get-get_or t f None inside) ∙ at) in
    ap (slice_set t f) is ∙ ap (λ z. slice_set t f (greater z h)) (sym read)
    ∙ ap (λ b. if b then slice_set t f (greater (get_or t f None) h) else t) (sym (lt-ltb f (length t) inside))

pub raised_nowhere : (t : List (Option ℕ)) (f : ℕ) (h : Option ℕ) → length t ≤ f → t ≡ raised t f h
unfolding raised
raised_nowhere t f h past =
    ap (λ b. if b then slice_set t f (greater (get_or t f None) h) else t) (sym (le-ltb f (length t) past))

raised_is : (t : List (Option ℕ)) (f : ℕ) (h : Option ℕ) → f < length t
    → raised t f h ≡ slice_set t f (greater (get_or t f None) h)
raised_is t f h inside =
    sym (raised_there t f h (get_or t f None) (greater (get_or t f None) h) inside (slice_get-get_or t f None inside)
    refl)

raised_same : (t : List (Option ℕ)) (f : ℕ) (h a : Option ℕ) → f < length t → slice_get t f ≡ Some a
    → slice_get (raised t f h) f ≡ Some (greater a h)
raised_same t f h a inside at =
    let r = greater a h in
    let within : f < length (slice_set t f r) = let size = length-set t f r in omega (arith, size, inside) in
    ap (λ z. slice_get z f) (sym (raised_there t f h a r inside at refl))
    ∙ slice_get-get_or (slice_set t f r) f None within
    ∙ ap Some (get_or-set_same t f r None inside)

raised_other : (t : List (Option ℕ)) (f : ℕ) (h : Option ℕ) (n : ℕ) → f < length t → n < length t → n ≢ f
    → slice_get (raised t f h) n ≡ slice_get t n
raised_other t f h n inside low apart =
    let r = greater (get_or t f None) h in
    let within : n < length (slice_set t f r) = let size = length-set t f r in omega (arith, size, low) in
    ap (λ z. slice_get z n) (raised_is t f h inside) ∙ slice_get-get_or (slice_set t f r) n None within
    ∙ ap Some (get_or-set_other t f n r None apart) ∙ sym (slice_get-get_or t n None low)

raised_size : (t : List (Option ℕ)) (f : ℕ) (h : Option ℕ) → length (raised t f h) ≡ length t
raised_size t f h = by (nat_lt f (length t)) refl
  where
    by : (b : Bool) → nat_lt f (length t) ≡ b → length (raised t f h) ≡ length t
    by true p =
        ap length (raised_is t f h (ltb-true f (length t) p)) ∙ length-set t f (greater (get_or t f None) h)
    by false p = ap length (sym (raised_nowhere t f h (ltb-false f (length t) p)))

raised_at : (t : List (Option ℕ)) (f : ℕ) (h : Option ℕ) (n : ℕ) (a : Option ℕ) → slice_get t n ≡ Some a
    → slice_get (raised t f h) n ≡ Some (if f == n then greater a h else a)
raised_at t f h n a at = by (nat_lt f (length t)) refl
  where
    low : n < length t
    low = slice_get_within t n a at

    among : f < length t → (b : Bool) → (f == n) ≡ b
        → slice_get (raised t f h) n ≡ Some (if f == n then greater a h else a)
    among inside true q =
        let same = eqb-true f n q in
        subst (λ z. slice_get (raised t f h) z ≡ Some (greater a h)) same
        (raised_same t f h a inside (ap (slice_get t) same ∙ at))
        ∙ ap (λ b. Some (if b then greater a h else a)) (sym q)
    among inside false q =
        let other = eqb-false f n q in
        raised_other t f h n inside low (λ e. other (sym e)) ∙ at
        ∙ ap (λ b. Some (if b then greater a h else a)) (sym q)

    by : (b : Bool) → nat_lt f (length t) ≡ b → slice_get (raised t f h) n ≡ Some (if f == n then greater a h else a)
    by true p = among (ltb-true f (length t) p) (f == n) refl
    by false p =
        let past = ltb-false f (length t) p in
        let apart : (f == n) ≡ false = ne_eqb f n (λ same. omega (arith, same, low, past)) in
        ap (λ z. slice_get z n) (sym (raised_nowhere t f h past)) ∙ at
        ∙ ap (λ b. Some (if b then greater a h else a)) (sym apart)

raised_in_at : (t : List (Option ℕ)) (f : Option ℕ) (h : Option ℕ) (n : ℕ) (a : Option ℕ) → slice_get t n ≡ Some a
    → slice_get (raised_in t f h) n ≡ Some (if is_number f n then greater a h else a)
raised_in_at t None h n a at = at
raised_in_at t (Some f) h n a at = raised_at t f h n a at

raised_in_size : (t : List (Option ℕ)) (f : Option ℕ) (h : Option ℕ) → length (raised_in t f h) ≡ length t
raised_in_size t None h = refl
raised_in_size t (Some f) h = raised_size t f h

-- the greatest of several

greatest_of_both : (cs es : List Content) → greatest_height (cs ++ es) ≡ max (greatest_height cs) (greatest_height es)
greatest_of_both [] es = omega arith
greatest_of_both (c ∷ cs) es = let rest = greatest_of_both cs es in omega (arith, rest)

greater_of_three : (a b c : Option ℕ) → greater (greater a b) c ≡ greater a (greater b c)
unfolding greater
greater_of_three None b c = refl
greater_of_three (Some m) None c = refl
greater_of_three (Some m) (Some n) None = refl
greater_of_three (Some m) (Some n) (Some k) = let e : max (max m n) k ≡ max m (max n k) = omega arith in ap Some e

greater_alone : (a : Option ℕ) → greater a (Some 0) ≡ a
unfolding greater
greater_alone None = refl
greater_alone (Some m) = let e : max m 0 ≡ m = omega arith in ap Some e

further : (b : Bool) (a : Option ℕ) (cs es : List Content)
    → greater (if b then greater a (fitting (greatest_height cs)) else a) (fitting (greatest_height es))
    ≡ greater a (fitting (greatest_height ((if b then cs else []) ++ es)))
further true a cs es =
    greater_of_three a (fitting (greatest_height cs)) (fitting (greatest_height es))
    ∙ ap (greater a) (greater_fits (greatest_height cs) (greatest_height es)
    ∙ ap fitting (sym (greatest_of_both cs es)))
further false a cs es = refl

statics_at : (os : List StaticObject) (t : List (Option ℕ)) (n : ℕ) (a : Option ℕ) → slice_get t n ≡ Some a
    → slice_get (with_statics t os) n ≡ Some (greater a (fitting (greatest_height (static_contents os n))))
statics_at [] t n a at =
    at ∙ ap Some (sym (ap (greater a) (below 0 (omega arith)) ∙ greater_alone a))
statics_at (o ∷ os) t n a at =
    let cs = map (λ p. p.content) o.parts in
    let h = (with_contents nothing cs).height in
    let b = is_number o.function n in
    let rest = fitting (greatest_height (static_contents os n)) in
    statics_at os (raised_in t o.function h) n (if b then greater a h else a) (raised_in_at t o.function h n a at)
    ∙ ap (λ z. Some (greater (if b then greater a z else a) rest)) (all_contents cs).height
    ∙ ap Some (further b a cs (static_contents os n))

statics_size : (os : List StaticObject) (t : List (Option ℕ)) → length (with_statics t os) ≡ length t
statics_size [] t = refl
statics_size (o ∷ os) t =
    let h = (with_contents nothing (map (λ p. p.content) o.parts)).height in
    statics_size os (raised_in t o.function h) ∙ raised_in_size t o.function h

-- so many heights of 0
abbrev zeros : ℕ → List (Option ℕ)
zeros count = replicate count (Some 0)

zeros_size : (count : ℕ) → length (zeros count) ≡ count
zeros_size count = length-replicate {A = Option ℕ} count (Some 0)

zeros_at : (count n : ℕ) → n < count → slice_get (zeros count) n ≡ Some (Some 0)
zeros_at count n inside =
    let size = zeros_size count in
    let within : n < length (zeros count) = omega (arith, inside, size) in
    slice_get-get_or (zeros count) n None within
    ∙ ap Some (get_or-replicate {A = Option ℕ} count n (Some 0) None inside)

pub are_heights : (os : List StaticObject) (count : ℕ) (start t : List (Option ℕ)) → start ≡ replicate count (Some 0)
    → t ≡ with_statics start os → AreHeights os count t
are_heights os count start t first is = record { size = size; each = each }
  where
    whole : t ≡ with_statics (zeros count) os
    whole = is ∙ ap (λ z. with_statics z os) first

    size : length t ≡ count
    size = ap length whole ∙ statics_size os (zeros count) ∙ zeros_size count

    each : (n : ℕ) (h : Option ℕ) → slice_get t n ≡ Some h → h ≡ fitting (greatest_height (static_contents os n))
    each n h at =
        let low : n < length t = slice_get_within t n h at in
        let inside : n < count = omega (arith, low, size) in
        let most = greatest_height (static_contents os n) in
        let e : max 0 most ≡ most = omega arith in
        let zero_fits : fitting 0 ≡ Some 0 = below 0 (omega arith) in
        same_Some h (greater (Some 0) (fitting most))
        (sym at ∙ ap (λ z. slice_get z n) whole ∙ statics_at os (zeros count) n (Some 0) (zeros_at count n inside))
        ∙ ap (λ z. greater z (fitting most)) (sym zero_fits) ∙ greater_fits 0 most ∙ ap fitting e
