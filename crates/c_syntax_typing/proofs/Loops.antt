-- Items of a list that are typed one behind the other, and their levels: what a turn of a loop over the list does.
use Rattle.std.proofs.Common.{◌≡◌, ℕ, ◌+◌, ◌<◌, List, ◌∷◌, Ok, length, drop, get_or, max, sym, ap, ◌∙◌, subst}
use Rattle.std.proofs.lemmas.List.{drop_more}
use Rattle.c_faults.specs.declared.fault.Refusal.{Refusal}
use Rattle.c_faults.specs.Answer.{Fails, ◌>>=◌}
use Rattle.c_typing_state.specs.State.{State, Typing, ◌>>>◌}
use Rattle.c_syntax_typing.proofs.Composing.{fails_on}

module _ {T B : Type 0} (step : T → B → Typing B) (walk : List T → B → Typing B)
    (walks : (x : T) (xs : List T) (b : B) (s : State) → walk (x ∷ xs) b s ≡ (step x b >>> walk xs) s) (xs : List T)
    (i : ℕ) (x : T) (b : B) (s : State) (low : i < length xs) (is : x ≡ get_or xs i x)
  where
    -- the items from the one of this turn on
    here : walk (drop i xs) b s ≡ (step x b >>> walk (drop (i + 1) xs)) s
    here = ap (λ z. walk z b s) (drop_more xs i x low) ∙ ap (λ y. walk (y ∷ drop (i + 1) xs) b s) (sym is)
        ∙ walks x (drop (i + 1) xs) b s

    pub turned : (c : B) (new : State) → step x b s ≡ Ok (new, c) → walk (drop (i + 1) xs) c new ≡ walk (drop i xs) b s
    turned c new e = sym (here ∙ ap (λ r. r >>= λ p. walk (drop (i + 1) xs) p.1 p.0) e)

    pub failed : (f : Refusal) → Fails f (step x b s) → Fails f (walk (drop i xs) b s)
    failed f fails = subst (Fails f) (sym here) (fails_on f (step x b s) (λ r. walk (drop (i + 1) xs) r.1 r.0) fails)

-- the levels of the items from the one of this turn on
pub levels_here : {T : Type 0} (of : T → ℕ) (all : List T → ℕ)
    → ((x : T) (xs : List T) → all (x ∷ xs) ≡ max (of x) (all xs)) → (xs : List T) (i : ℕ) (x : T) → i < length xs
    → x ≡ get_or xs i x → all (drop i xs) ≡ max (of x) (all (drop (i + 1) xs))
levels_here of all higher xs i x low is =
    ap all (drop_more xs i x low) ∙ ap (λ y. all (y ∷ drop (i + 1) xs)) (sym is) ∙ higher x (drop (i + 1) xs)
