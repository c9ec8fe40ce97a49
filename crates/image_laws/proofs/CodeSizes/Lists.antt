-- How many words the labelled list of a function has at most.
use Rattle.std.proofs.Common.{◌≡◌, ℕ, zero, suc, ◌+◌, ◌≤◌, List, [], ◌∷◌, ◌++◌, length, Some, refl, ap}
use Rattle.std.proofs.Common.{subst, arith, map, length-append}
use Rattle.addr_map.specs.Places.{MapSizes}
use Rattle.rv_isa.specs.declared.instruction.Instr.{Instr}
use Rattle.rv_isa.specs.Table.{word_of}
use Rattle.rv_asm.specs.declared.form.Form.{Form}
use Rattle.rv_asm.specs.declared.form.Form.TheVariants.{Short, Near, Far}
use Rattle.rv_asm.specs.declared.item.Item.{Item}
use Rattle.rv_asm.specs.declared.item.Item.TheVariants as item
use Rattle.rv_asm.specs.Forms.{size_of, longest_size, label_place, target_place, forms_of}
use Rattle.rv_asm.specs.Words.{instrs_of, words_from, words_of}
use Rattle.flat_code.specs.declared.instruction.FlatInstruction.{FlatInstruction}
use Rattle.flat_code.specs.declared.instruction.FlatInstruction.TheVariants as flat
use Rattle.flat_code.specs.declared.function.FlatFunction.{FlatFunction}
use Rattle.flat_code.specs.declared.function.FlatProgram.{FlatProgram}
use Rattle.flat_code.specs.Calls.{function_in}
use Rattle.flat_code.specs.Meaning.{parameters_of, body_of}
use Rattle.reg_plan.specs.declared.plan.FunctionPlan.{FunctionPlan}
use Rattle.reg_plan.specs.Tests.{AreAccepted}
use Rattle.machine_laws.specs.Calls.Calls.{entry_block}
use Rattle.machine_laws.specs.Following.Code.{keeping, block}
use Rattle.machine_laws.proofs.Following.Sound.{sound}
use Rattle.machine_laws.specs.Layout.Lists.{plain, tail_of, items_at, items_from, items_of}
use Rattle.machine_laws.specs.Segments.Segments.{function_words}
use Rattle.image_laws.specs.CodeSizes.Sizes.{home_words, right_words, passed_words, instruction_words, body_words}
use Rattle.image_laws.specs.CodeSizes.Sizes.{most_words}
use Rattle.image_laws.proofs.CodeSizes.Blocks.{operands_length, block_length, entry_most, at_homes}

-- no form takes more words than the longest
item_words : (f : Form) (p t : ℕ) (i : Item) → length (map word_of (instrs_of f p t i)) ≤ size_of Far i
item_words f p t (item.Label l) = omega arith
item_words f p t (item.Instr i) = omega arith
item_words Short p t (item.Jump l) = omega arith
item_words Near p t (item.Jump l) = omega arith
item_words Far p t (item.Jump l) = omega arith
item_words Short p t (item.Call l) = omega arith
item_words Near p t (item.Call l) = omega arith
item_words Far p t (item.Call l) = omega arith
item_words Short p t (item.Branch op a b l) = omega arith
item_words Near p t (item.Branch op a b l) = omega arith
item_words Far p t (item.Branch op a b l) = omega arith

words_most : (places : ℕ → ℕ) (p : ℕ) (forms : List Form) (is : List Item)
    → length (words_from places p forms is) ≤ longest_size is
words_most places p [] is = omega arith
words_most places p (f ∷ fs) [] = omega arith
words_most places p (f ∷ fs) (i ∷ is) =
    let first = item_words f p (target_place places i) i in
    let rest = words_most places (p + size_of f i) fs is in
    let a = length-append (map word_of (instrs_of f p (target_place places i) i))
    (words_from places (p + size_of f i) fs is) in
    omega arith

size_append : (is js : List Item) → longest_size (is ++ js) ≡ longest_size is + longest_size js
size_append [] js = omega arith
size_append (i ∷ is) js = let r = size_append is js in omega arith

size_plain : (is : List Instr) → longest_size (plain is) ≡ length is
size_plain [] = omega arith
size_plain (i ∷ is) = let r = size_plain is in omega arith

module _ (m : MapSizes) (p : FlatProgram) (plans : List FunctionPlan) (ok : AreAccepted p plans) (f : ℕ)
    (g : FlatFunction) (there : function_in p f ≡ Some g) where
  block_most : (pc : ℕ) (i : FlatInstruction) → length (block m p plans f pc i) ≤ instruction_words p g i
  block_most = block_length p plans (sound p plans ok) f g there m

  branch_most : (pc : ℕ) (op : _) (y : ℕ) (z : _) (past : ℕ)
      → length (block m p plans f pc (flat.Branch op y z past)) ≤ home_words g y + right_words g z
  unfolding block
  branch_most pc op y z past =
      operands_length g (keeping p plans f).place (at_homes p plans (sound p plans ok) f g there)
      (keeping p plans f).base y z

  -- the block of an instruction that stays, or goes, and what stands behind it
  with_tail : (n pc : ℕ) (i : FlatInstruction) → longest_size (tail_of (keeping p plans f) n pc i) ≡ 0
      → length (block m p plans f pc i) + longest_size (tail_of (keeping p plans f) n pc i)
      ≤ instruction_words p g i
  with_tail n pc i none = let b = block_most pc i in omega arith

  no_block : (pc : ℕ) (i : FlatInstruction) → block m p plans f pc i ≡ [] → length (block m p plans f pc i) ≡ 0
  no_block pc i e = ap length e

  forward_block : (pc past : ℕ) → length (block m p plans f pc (flat.JumpForward past)) ≡ 0
  unfolding block
  forward_block pc past = refl

  back_block : (pc back : ℕ) → length (block m p plans f pc (flat.JumpBack back)) ≡ 0
  unfolding block
  back_block pc back = refl

  both_most : (n pc : ℕ) (i : FlatInstruction)
      → length (block m p plans f pc i) + longest_size (tail_of (keeping p plans f) n pc i)
      ≤ instruction_words p g i
  both_most n pc (flat.Branch op y z past) = let b = branch_most pc op y z past in omega arith
  both_most n pc (flat.JumpForward zero) = let b = forward_block pc zero in omega arith
  both_most n pc (flat.JumpForward (suc past)) = let b = forward_block pc (suc past) in omega arith
  both_most n pc (flat.JumpBack back) = let b = back_block pc back in omega arith
  both_most n pc (flat.Constant x v) = with_tail n pc (flat.Constant x v) refl
  both_most n pc (flat.Move x y) = with_tail n pc (flat.Move x y) refl
  both_most n pc (flat.Operate op x y z) = with_tail n pc (flat.Operate op x y z) refl
  both_most n pc (flat.Operate32 op x y z) = with_tail n pc (flat.Operate32 op x y z) refl
  both_most n pc (flat.Load op x y o) = with_tail n pc (flat.Load op x y o) refl
  both_most n pc (flat.Store op y o x) = with_tail n pc (flat.Store op y o x) refl
  both_most n pc flat.Turn = with_tail n pc flat.Turn refl
  both_most n pc (flat.Call to first x) = with_tail n pc (flat.Call to first x) refl
  both_most n pc (flat.CallAddress y first c x r) = with_tail n pc (flat.CallAddress y first c x r) refl
  both_most n pc (flat.Return y) = with_tail n pc (flat.Return y) refl
  both_most n pc (flat.Get x) = with_tail n pc (flat.Get x) refl
  both_most n pc (flat.Put x) = with_tail n pc (flat.Put x) refl
  both_most n pc (flat.Exit x) = with_tail n pc (flat.Exit x) refl
  both_most n pc (flat.End e) = with_tail n pc (flat.End e) refl
  both_most n pc (flat.Charged x) = with_tail n pc (flat.Charged x) refl

  item_most : (n pc : ℕ) (i : FlatInstruction)
      → longest_size (items_at m p plans f n pc i)
      ≤ instruction_words p g i
  item_most n pc i =
      let b = both_most n pc i in
      let a = size_append (plain (block m p plans f pc i)) (tail_of (keeping p plans f) n pc i) in
      let s = size_plain (block m p plans f pc i) in
      omega arith

  from_most : (n pc : ℕ) (is : List FlatInstruction)
      → longest_size (items_from m p plans f n pc is)
      ≤ 1 + body_words p g is
  from_most n pc [] = omega arith
  from_most n pc (i ∷ is) =
      let first = item_most n pc i in
      let rest = from_most n (suc pc) is in
      let a = size_append (items_at m p plans f n pc i) (items_from m p plans f n (suc pc) is) in
      omega arith

  list_most : longest_size (items_of m p plans f) ≤ most_words p g
  list_most =
      let n = parameters_of (function_in p f) in
      let body = body_of (function_in p f) in
      let entry = entry_block (keeping p plans f) n in
      let e = entry_most g (keeping p plans f) (at_homes p plans (sound p plans ok) f g there) n in
      let s = size_plain entry in
      let rest = from_most (length body) 0 body in
      let a = size_append (plain entry) (items_from m p plans f (length body) 0 body) in
      let few : longest_size (items_of m p plans f) ≤ 2 + passed_words g 0 n + body_words p g body = omega arith in
      subst (λ o. longest_size (items_of m p plans f)
      ≤ 2 + passed_words g 0 (parameters_of o) + body_words p g (body_of o)) there few

  pub function_length : length (function_words m p plans f) ≤ most_words p g
  unfolding words_of
  function_length =
      let items = items_of m p plans f in
      let w = words_most (label_place (forms_of items) items 0) 0 (forms_of items) items in
      let l = list_most in
      omega arith
