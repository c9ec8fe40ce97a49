-- Which form each branch, jump and call has, and where each item stands. Places count words.
use Rattle.std.specs.Prelude.{ℕ, zero, suc, ◌+◌, ◌-◌, ◌<◌, ◌^◌, List, [], ◌∷◌, map, Bool, false, nat_eq, nat_lt}
use Rattle.std.specs.Prelude.{if◌then◌else◌, Option, Some, None}
use Rattle.rv_asm.specs.declared.form.Form.{Form}
use Rattle.rv_asm.specs.declared.form.Form.TheVariants.{Short, Near, Far}
use Rattle.rv_asm.specs.declared.item.Item.{Item}
use Rattle.rv_asm.specs.declared.item.Item.TheVariants.{Label, Instr, Jump, Call, Branch}
use Rattle.rv_asm.specs.Items.{target_of, AreApart, AreThere}

-- the words of a jump
abbrev pub jump_size : Form → ℕ
jump_size Short = 1
jump_size Near = 1
jump_size Far = 2

-- the words of a branch
abbrev pub branch_size : Form → ℕ
branch_size Short = 1
branch_size Near = 2
branch_size Far = 3

-- the words of an item
abbrev pub size_of : Form → Item → ℕ
size_of f (Label _) = 0
size_of f (Instr _) = 1
size_of f (Jump _) = jump_size f
size_of f (Call _) = jump_size f
size_of f (Branch _ _ _ _) = branch_size f

-- the place of item k, where each item has the form beside it
abbrev pub start : List Form → List Item → ℕ → ℕ
start [] items k = 0
start (f ∷ fs) [] k = 0
start (f ∷ fs) (i ∷ is) zero = 0
start (f ∷ fs) (i ∷ is) (suc k) = size_of f i + start fs is k

-- the words of all items
abbrev pub size : List Form → List Item → ℕ
size [] items = 0
size (f ∷ fs) [] = 0
size (f ∷ fs) (i ∷ is) = size_of f i + size fs is

abbrev pub is_label : Item → ℕ → Bool
is_label (Label l) to = nat_eq l to
is_label i to = false

-- the place of a label in the items from place p on; 0 where it does not stand
abbrev pub label_place : List Form → List Item → ℕ → ℕ → ℕ
label_place [] items p l = 0
label_place (f ∷ fs) [] p l = 0
label_place (f ∷ fs) (i ∷ is) p l = if is_label i l then p else label_place fs is (p + size_of f i) l

-- the place of the label that an item goes to; 0 where it goes to none
abbrev pub target_place : (ℕ → ℕ) → Item → ℕ
target_place places i = at (target_of i)
  where
    at : Option ℕ → ℕ
    at None = 0
    at (Some l) = places l

-- how far two places are apart
abbrev pub distance : ℕ → ℕ → ℕ
distance p t = (p - t) + (t - p)

-- the shortest form that reaches: a branch has 12 bits for a number of words with its sign, JAL 19, and a JAL behind a
-- branch
-- stands one word further
abbrev pub shortest : ℕ → ℕ → Form
shortest p t = if nat_lt (distance p t) 1024 then Short else (if nat_lt (distance p t) 262143 then Near else Far)

-- every item in its longest form
abbrev pub longest : List Item → List Form
longest items = map (λ _. Far) items

-- the words of all items in their longest forms: the caller keeps them below 2 ^ 28, so that AUIPC and JALR reach
abbrev pub longest_size : List Item → ℕ
longest_size items = size (longest items) items

-- what can be assembled: no label stands twice, each that an item goes to stands somewhere, and the longest forms reach
pub record IsAssemblable (items : List Item) : Type 0 where
  pub apart : AreApart items
  pub there : AreThere items
  pub room : longest_size items < 2 ^ 28

-- the forms of items from place p on, where places are those of the longest forms: in the forms that are chosen,
-- nothing is further
abbrev pub chosen : (ℕ → ℕ) → ℕ → List Item → List Form
chosen places p [] = []
chosen places p (i ∷ is) = shortest p (target_place places i) ∷ chosen places (p + size_of Far i) is

-- the forms of a labelled list
unfoldable pub forms_of : List Item → List Form
forms_of items = chosen (label_place (longest items) items 0) 0 items

-- whether a form reaches from one place to another
abbrev pub Reaches : Form → ℕ → ℕ → Type 0
Reaches Short p t = distance p t < 1024
Reaches Near p t = distance p t < 262143
Reaches Far p t = distance p t < 2 ^ 28
