-- Lists of instructions by the lists of which they are made.
use Rattle.std.proofs.Common.{◌≡◌, List, ◌++◌, ap, ◌∙◌}
use Rattle.flat_code.specs.declared.instruction.FlatInstruction.{FlatInstruction}

pub joined_are : (r a b x y : List FlatInstruction) → r ≡ a ++ b → a ≡ x → b ≡ y → r ≡ x ++ y
joined_are r a b x y e f g = e ∙ ap (λ l. l ++ b) f ∙ ap (λ l. x ++ l) g

-- over one list, two, and three
pub by_body : (code : List FlatInstruction → List FlatInstruction) (r a x : List FlatInstruction)
    → r ≡ code a → a ≡ x → r ≡ code x
by_body code r a x e p = e ∙ ap code p

pub by_two : (code : (a b : List FlatInstruction) → List FlatInstruction) (r a b x y : List FlatInstruction)
    → r ≡ code a b → a ≡ x → b ≡ y → r ≡ code x y
by_two code r a b x y e p q = e ∙ ap (λ l. code l b) p ∙ ap (code x) q

pub by_three : (code : (a b d : List FlatInstruction) → List FlatInstruction) (r a b d x y z : List FlatInstruction)
    → r ≡ code a b d → a ≡ x → b ≡ y → d ≡ z → r ≡ code x y z
by_three code r a b d x y z e p q s = e ∙ ap (λ l. code l b d) p ∙ ap (λ l. code x l d) q ∙ ap (code x y) s
