-- A list of names and a set that has the same names, when both get one more.
use Rattle.std.proofs.Common.{◌≡◌, ℕ, Bool, true, false, cond, ◌||◌, List, [], ◌∷◌, ◌++◌, refl, sym, ap, ◌∙◌}
use Rattle.std.proofs.lemmas.List.Folds.{list_any-append}
use Rattle.std.specs.Prelude.{bytes_eq}
use Rattle.std.specs.Borrow.{Bor}
use Rattle.std.specs.List.{list_any}
use Rattle.std.specs.Cmp.Lexicographic.{bytes_decides, nat_list_eq_equiv}
use Rattle.indexmap.specs.IndexSet.{insert_key}
use Rattle.c_syntax.specs.Formed.{is_among}
use Rattle.c_grammar.specs.NameSets.{HasNames}

pub no_names : (names : List (List ℕ)) (set : List (Bor (List ℕ))) → names ≡ [] → set ≡ [] → HasNames names set
unfolding is_among
no_names names set e f x = ap (list_any (λ y. bytes_eq x y.now)) f ∙ ap (list_any (λ y. bytes_eq y x)) (sym e)

or_false : (a : Bool) → (a || false) ≡ a
or_false true = refl
or_false false = refl

among_last : (x name : List ℕ) (names : List (List ℕ))
    → is_among x (names ++ name ∷ []) ≡ (is_among x names || bytes_eq name x)
unfolding is_among
among_last x name names =
    list_any-append (λ y. bytes_eq y x) names (name ∷ [])
    ∙ ap (λ b. list_any (λ y. bytes_eq y x) names || b) (or_false (bytes_eq name x))

abbrev same : Bor (List ℕ) → Bor (List ℕ) → Bool
same x y = bytes_eq x.now y.now

-- a name that is there already changes nothing
there_already : (x name : List ℕ) (names : List (List ℕ)) (found : Bool) → bytes_eq name x ≡ found
    → is_among name names ≡ true → is_among x names ≡ (is_among x names || found)
there_already x name names false e h = sym (or_false (is_among x names))
there_already x name names true e h =
    let found : is_among x names ≡ true = ap (λ y. is_among y names) (sym ((bytes_decides name x).0 e)) ∙ h in
    rw found refl

of_one_more : (names : List (List ℕ)) (set : List (Bor (List ℕ))) (name : Bor (List ℕ)) → HasNames names set
    → (x : List ℕ) (b : Bool) → list_any (same name) set ≡ b
    → list_any (λ y. bytes_eq x y.now) (cond b set (set ++ name ∷ [])) ≡ is_among x (names ++ name.now ∷ [])
of_one_more names set name h x true e =
    h x ∙ there_already x name.now names _ refl (sym (h name.now) ∙ e) ∙ sym (among_last x name.now names)
of_one_more names set name h x false e =
    list_any-append (λ y. bytes_eq x y.now) set (name ∷ [])
    ∙ ap (λ b. list_any (λ y. bytes_eq x y.now) set || b) (or_false (bytes_eq x name.now))
    ∙ ap (λ b. b || bytes_eq x name.now) (h x)
    ∙ ap (λ b. is_among x names || b) (nat_list_eq_equiv.symm x name.now) ∙ sym (among_last x name.now names)

pub one_more : (names : List (List ℕ)) (set : List (Bor (List ℕ))) (name : Bor (List ℕ)) (added : List ℕ)
    → name.now ≡ added → HasNames names set → HasNames (names ++ added ∷ []) (insert_key same set name)
one_more names set name added e h x =
    of_one_more names set name h x _ refl ∙ ap (λ y. is_among x (names ++ y ∷ [])) e
