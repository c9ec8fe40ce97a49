-- Words of types but for the sizes of their arrays: what they are beside kinds.
use Rattle.std.proofs.Common.{◌≡◌, ℕ, zero, suc, ◌&&◌, refl, sym, ap, ◌∙◌, List, [], ◌∷◌}
use Rattle.c_tree.specs.declared.c_type.TypeWord.TheVariants as word
use Rattle.c_tree.specs.declared.c_type.TypeWord.{TypeWord}
use Rattle.c_tree.specs.declared.expression.Kind.{Kind}
use Rattle.c_tree.specs.Kinds.{Signature}
use Rattle.c_tree.specs.TypesAgree.{agrees, behind_types, gives_kind, is_end, is_kind_of, kind_of_type, still}
use Rattle.c_call_rules.specs.FineCalls.{Spells}
use Rattle.typing_laws.specs.Validity.Steps.{Structures}
use Rattle.program_laws.specs.Functions.Entities.{without_sizes}

kind_sizes : (es : Structures) (ws : List TypeWord) → kind_of_type es (without_sizes ws) ≡ kind_of_type es ws
kind_sizes es [] = refl
kind_sizes es (word.Void ∷ ws) = refl
kind_sizes es (word.Integer i ∷ ws) = refl
kind_sizes es (word.Enumeration k ∷ ws) = refl
kind_sizes es (word.Pointer ∷ ws) = refl
kind_sizes es (word.Array c b ∷ ws) = refl
kind_sizes es (word.OpenArray ∷ ws) = refl
kind_sizes es (word.Structure k ∷ ws) = refl
kind_sizes es (word.Const ∷ ws) = kind_sizes es ws
kind_sizes es (word.Takes ∷ ws) = refl
kind_sizes es (word.Gives ∷ ws) = refl

end_sizes : (ws : List TypeWord) → is_end (without_sizes ws) ≡ is_end ws
end_sizes [] = refl
end_sizes (word.Void ∷ ws) = refl
end_sizes (word.Integer i ∷ ws) = refl
end_sizes (word.Enumeration k ∷ ws) = refl
end_sizes (word.Pointer ∷ ws) = refl
end_sizes (word.Array c b ∷ ws) = refl
end_sizes (word.OpenArray ∷ ws) = refl
end_sizes (word.Structure k ∷ ws) = refl
end_sizes (word.Const ∷ ws) = refl
end_sizes (word.Takes ∷ ws) = refl
end_sizes (word.Gives ∷ ws) = refl

behind_sizes : (n : ℕ) (ws : List TypeWord) → behind_types n (without_sizes ws) ≡ without_sizes (behind_types n ws)
behind_sizes zero ws = refl
behind_sizes (suc n) [] = refl
behind_sizes (suc n) (word.Void ∷ ws) = behind_sizes (still word.Void n) ws
behind_sizes (suc n) (word.Integer i ∷ ws) = behind_sizes (still (word.Integer i) n) ws
behind_sizes (suc n) (word.Enumeration k ∷ ws) = behind_sizes (still (word.Enumeration k) n) ws
behind_sizes (suc n) (word.Pointer ∷ ws) = behind_sizes (still word.Pointer n) ws
behind_sizes (suc n) (word.Array c b ∷ ws) = behind_sizes (still (word.Array c b) n) ws
behind_sizes (suc n) (word.OpenArray ∷ ws) = behind_sizes (still word.OpenArray n) ws
behind_sizes (suc n) (word.Structure k ∷ ws) = behind_sizes (still (word.Structure k) n) ws
behind_sizes (suc n) (word.Const ∷ ws) = behind_sizes (still word.Const n) ws
behind_sizes (suc n) (word.Takes ∷ ws) = behind_sizes (still word.Takes n) ws
behind_sizes (suc n) (word.Gives ∷ ws) = behind_sizes (still word.Gives n) ws

gives_sizes : (es : Structures) (ws : List TypeWord) (r : Kind)
    → gives_kind es (without_sizes ws) r ≡ gives_kind es ws r
gives_sizes es [] r = refl
gives_sizes es (word.Void ∷ ws) r = refl
gives_sizes es (word.Integer i ∷ ws) r = refl
gives_sizes es (word.Enumeration k ∷ ws) r = refl
gives_sizes es (word.Pointer ∷ ws) r = refl
gives_sizes es (word.Array c b ∷ ws) r = refl
gives_sizes es (word.OpenArray ∷ ws) r = refl
gives_sizes es (word.Structure k ∷ ws) r = refl
gives_sizes es (word.Const ∷ ws) r = refl
gives_sizes es (word.Takes ∷ ws) r = refl
gives_sizes es (word.Gives ∷ ws) r =
    ap (λ z. is_kind_of z r && is_end (behind_types 1 (without_sizes ws))) (kind_sizes es ws)
    ∙ ap (λ z. is_kind_of (kind_of_type es ws) r && z) (ap is_end (behind_sizes 1 ws) ∙ end_sizes (behind_types 1 ws))

agrees_sizes : (es : Structures) (ws : List TypeWord) (ks : List Kind) (r : Kind)
    → agrees es (without_sizes ws) ks r ≡ agrees es ws ks r
agrees_sizes es ws [] r = gives_sizes es ws r
agrees_sizes es [] (k ∷ ks) r = refl
agrees_sizes es (word.Void ∷ ws) (k ∷ ks) r = refl
agrees_sizes es (word.Integer i ∷ ws) (k ∷ ks) r = refl
agrees_sizes es (word.Enumeration m ∷ ws) (k ∷ ks) r = refl
agrees_sizes es (word.Pointer ∷ ws) (k ∷ ks) r = refl
agrees_sizes es (word.Array c b ∷ ws) (k ∷ ks) r = refl
agrees_sizes es (word.OpenArray ∷ ws) (k ∷ ks) r = refl
agrees_sizes es (word.Structure m ∷ ws) (k ∷ ks) r = refl
agrees_sizes es (word.Const ∷ ws) (k ∷ ks) r = refl
agrees_sizes es (word.Takes ∷ ws) (k ∷ ks) r =
    ap (λ z. is_kind_of z k && agrees es (behind_types 1 (without_sizes ws)) ks r) (kind_sizes es ws)
    ∙ ap (λ z. is_kind_of (kind_of_type es ws) k && z)
    (ap (λ z. agrees es z ks r) (behind_sizes 1 ws) ∙ agrees_sizes es (behind_types 1 ws) ks r)
agrees_sizes es (word.Gives ∷ ws) (k ∷ ks) r = refl

pub spells_alike : (es : Structures) (s t : List TypeWord) (g : Signature) → without_sizes s ≡ without_sizes t
    → Spells es s g → Spells es t g
spells_alike es s t g e h =
    sym (agrees_sizes es t g.parameters g.result) ∙ ap (λ z. agrees es z g.parameters g.result) (sym e)
    ∙ agrees_sizes es s g.parameters g.result ∙ h
