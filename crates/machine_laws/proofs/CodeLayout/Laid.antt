-- The code of a program is laid as flat code asks.
use Rattle.std.proofs.Common.{◌≡◌, ℕ, suc, ◌+◌, ◌-◌, ◌*◌, ◌≤◌, List, length}
use Rattle.std.proofs.Common.{true, false, Some, refl, sym, ap, ◌∙◌, subst, arith}
use Rattle.addr_map.specs.Places.{MapSizes}
use Rattle.machine_laws.specs.View.Views.{Layout, AllStand}
use Rattle.flat_code.specs.declared.instruction.FlatInstruction.{FlatInstruction}
use Rattle.flat_code.specs.declared.instruction.FlatInstruction.TheVariants as flat
use Rattle.flat_code.specs.declared.function.FlatFunction.{FlatFunction}
use Rattle.flat_code.specs.declared.function.FlatProgram.{FlatProgram}
use Rattle.flat_code.specs.Calls.{function_in}
use Rattle.flat_code.specs.Meaning.{instruction_at, body_of, parameters_of, is_runtime_function}
use Rattle.reg_plan.specs.declared.plan.FunctionPlan.{FunctionPlan}
use Rattle.machine_laws.specs.Blocks.Blocks.{used, used_right}
use Rattle.machine_laws.specs.Calls.Calls.{entry_block}
use Rattle.machine_laws.specs.Following.Code.{keeping, block, JumpStands, BranchStands, IsLaid}
use Rattle.machine_laws.proofs.Following.Standing.{function_there}
use Rattle.machine_laws.specs.Layout.Lists.{tail_of, items_of, index_of, ArePlaced, address_in}
use Rattle.machine_laws.proofs.CodeLayout.Table.{entry_fits, keeping_fits}
use Rattle.machine_laws.proofs.CodeLayout.Placed.{all_stand, Block, block_at, jump_stands, branch_stands, entry_stands}
use Rattle.machine_laws.proofs.CodeLayout.Placed.{first_index, tail_none, place_within}

-- a jump's block is empty
forward_none : (m : MapSizes) (p : FlatProgram) (plans : List FunctionPlan) (f pc past : ℕ)
    → length (block m p plans f pc (flat.JumpForward past)) ≡ 0
unfolding block
forward_none m p plans f pc past = refl

back_none : (m : MapSizes) (p : FlatProgram) (plans : List FunctionPlan) (f pc n : ℕ)
    → length (block m p plans f pc (flat.JumpBack n)) ≡ 0
unfolding block
back_none m p plans f pc n = refl

module _ (m : MapSizes) (p : FlatProgram) (plans : List FunctionPlan) (l : Layout) (begin : ℕ → ℕ)
    (words : ℕ → List ℕ) (place : (function item : ℕ) → ℕ) (ok : ArePlaced m p plans l begin words place) where
  -- an address by either way to tell places
  told : (f : ℕ) (g : FlatFunction) (there : function_in p f ≡ Some g) (k : ℕ)
      → begin f + 4 * (ok.assembled f g there).place k ≡ begin f + 4 * place f k
  told f g there k = ap (λ z. begin f + 4 * z) (ok.places f g there k)

  block_of : (f pc : ℕ) (g : FlatFunction) (i : FlatInstruction) (there : function_in p f ≡ Some g)
      → instruction_at p f pc ≡ Some i
      → Block m p plans l begin words place ok f g there (ok.assembled f g there) pc i
  block_of f pc g i there at = block_at m p plans l begin words place ok f g there (ok.assembled f g there) pc i at

  -- the end of a block lies within the words of its function
  block_within : (f pc : ℕ) (g : FlatFunction) (i : FlatInstruction) → function_in p f ≡ Some g
      → instruction_at p f pc ≡ Some i
      → address_in m p plans begin place f pc + 4 * length (block m p plans f pc i)
      ≤ begin f + 4 * length (words f)
  block_within f pc g i there at =
      let asm = ok.assembled f g there in
      let b = block_of f pc g i there at in
      let items = items_of m p plans f in
      let inside = b.inside in
      let within = place_within items (words f) asm (length items - b.tail_index) b.tail_index (omega arith) in
      let tail = b.tail_place in
      let same = ok.places f g there (index_of m p plans f pc) in
      omega arith

  pub laid : IsLaid m p plans l (address_in m p plans begin place) begin
  laid = record {
    blocks = λ f pc i at. let t = function_there p f pc i at in
        subst (λ z. AllStand l z (block m p plans f pc i)) (told f t.0 t.1 (index_of m p plans f pc))
        (block_of f pc t.0 i t.1 at).stands;
    next = λ f pc i at goes.
        let t = function_there p f pc i at in
        let b = block_of f pc t.0 i t.1 at in
        let asm = ok.assembled f t.0 t.1 in
        let none : length (tail_of (keeping p plans f) (length (body_of (function_in p f))) pc i) ≡ 0 =
        ap length (tail_none (keeping p plans f) (length (body_of (function_in p f))) pc i goes) in
        let one_more : pc + 1 ≡ suc pc = omega arith in
        let index : index_of m p plans f (pc + 1) ≡ b.tail_index =
        ap (index_of m p plans f) one_more ∙ b.next_is ∙ omega arith in
        let here = ok.places f t.0 t.1 (index_of m p plans f pc) in
        let there = ok.places f t.0 t.1 b.tail_index in
        let tail = b.tail_place in
        ap (λ z. begin f + 4 * place f z) index ∙ omega arith;
    forward = λ f pc past at.
        let t = function_there p f pc (flat.JumpForward (suc past)) at in
        subst (λ z. JumpStands l z (address_in m p plans begin place f (pc + 1 + suc past)))
        (told f t.0 t.1 (index_of m p plans f pc))
        (subst (λ z. JumpStands l (begin f + 4 * (ok.assembled f t.0 t.1).place (index_of m p plans f pc)) z)
        (told f t.0 t.1 (index_of m p plans f (pc + 1 + suc past)))
        (jump_stands m p plans l begin words place ok f t.0 t.1 (ok.assembled f t.0 t.1) pc (pc + 1 + suc past)
        (flat.JumpForward (suc past)) at refl (forward_none m p plans f pc (suc past))));
    back = λ f pc n at.
        let t = function_there p f pc (flat.JumpBack n) at in
        subst (λ z. JumpStands l z (address_in m p plans begin place f (pc - n)))
        (told f t.0 t.1 (index_of m p plans f pc))
        (subst (λ z. JumpStands l (begin f + 4 * (ok.assembled f t.0 t.1).place (index_of m p plans f pc)) z)
        (told f t.0 t.1 (index_of m p plans f (pc - n)))
        (jump_stands m p plans l begin words place ok f t.0 t.1 (ok.assembled f t.0 t.1) pc (pc - n)
        (flat.JumpBack n) at refl (back_none m p plans f pc n)));
    branch = λ f pc op y z past at.
        let i = flat.Branch op y z past in
        let t = function_there p f pc i at in
        let asm = ok.assembled f t.0 t.1 in
        let a = used ((keeping p plans f).place y) 5 in
        let b = used_right (keeping p plans f).place z in
        let one_more : suc pc ≡ pc + 1 = omega arith in
        let long = 4 * length (block m p plans f pc i) in
        subst (λ q. BranchStands l op a b (q + long) (address_in m p plans begin place f (pc + 1))
        (address_in m p plans begin place f (pc + 1 + past))) (told f t.0 t.1 (index_of m p plans f pc))
        (subst (λ q. BranchStands l op a b (begin f + 4 * asm.place (index_of m p plans f pc) + long) q
        (address_in m p plans begin place f (pc + 1 + past)))
        (told f t.0 t.1 (index_of m p plans f (suc pc)) ∙ ap (address_in m p plans begin place f) one_more)
        (subst (λ q. BranchStands l op a b (begin f + 4 * asm.place (index_of m p plans f pc) + long)
        (begin f + 4 * asm.place (index_of m p plans f (suc pc))) q)
        (told f t.0 t.1 (index_of m p plans f (pc + 1 + past)))
        (branch_stands m p plans l begin words place ok f t.0 t.1 asm pc op y z past at)));
    entries = λ f g there.
        let asm = ok.assembled f g there in
        let e = entry_stands m p plans l begin words place ok f g there asm in
        let parameters : parameters_of (function_in p f) ≡ g.parameters = ap parameters_of there in
        let from : begin f + 4 * asm.place 0 ≡ begin f = ap (λ z. begin f + 4 * z) asm.first ∙ omega arith in
        subst (λ n. AllStand l (begin f) (entry_block (keeping p plans f) n)) parameters
        (subst (λ z. AllStand l z (entry_block (keeping p plans f) (parameters_of (function_in p f)))) from
        (all_stand m p plans l begin words place ok f g there
        (entry_block (keeping p plans f) (parameters_of (function_in p f))) (asm.place 0) e.words
        (entry_fits (keeping p plans f) (parameters_of (function_in p f)) (keeping_fits p plans f))));
    first = λ f g there.
        let asm = ok.assembled f g there in
        let e = entry_stands m p plans l begin words place ok f g there asm in
        let parameters : parameters_of (function_in p f) ≡ g.parameters = ap parameters_of there in
        let long = length (entry_block (keeping p plans f) (parameters_of (function_in p f))) in
        let index = first_index m p plans l begin words place ok f g there asm in
        let from_zero : 0 + long ≡ long = omega arith in
        let at : place f (index_of m p plans f 0) ≡ long =
        ap (place f) index ∙ sym (ok.places f g there long) ∙ ap asm.place (sym from_zero) ∙ e.next
        ∙ ap (λ z. z + long) asm.first ∙ from_zero in
        ap (λ z. begin f + 4 * z) at
        ∙ ap (λ n. begin f + 4 * length (entry_block (keeping p plans f) n)) parameters;
    rows = ok.rows;
    tails_stand = ok.tails_stand;
    tails_end = ok.tails_end;
    whole = λ f g there. (ok.placed f g there).whole;
    aligned = λ f pc i at. let t = function_there p f pc i at in
        let w = (ok.placed f t.0 t.1).whole in omega arith;
    low = λ f g there. let e = (ok.placed f g there).end in omega arith;
    numbered = ok.numbered;
    of_code = λ f pc i at runtime.
        let t = function_there p f pc i at in
        let is : t.0.is_runtime ≡ false = sym (ap is_runtime_function t.1) ∙ runtime in
        let low = ok.of_code f t.0 t.1 is in
        let end = (ok.placed f t.0 t.1).end in
        let b = block_within f pc t.0 i t.1 at in
        (omega arith, omega arith);
    of_runtime = λ f pc i at runtime.
        let t = function_there p f pc i at in
        let is : t.0.is_runtime ≡ true = sym (ap is_runtime_function t.1) ∙ runtime in
        let high = ok.of_runtime f t.0 t.1 is in
        let b = block_within f pc t.0 i t.1 at in
        omega arith;
  }
