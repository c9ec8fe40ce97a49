-- Nodes from the last down: their places, and their code.
use Rattle.std.proofs.Common.{◌≡◌, ℕ, zero, suc, ◌+◌, ◌-◌, ◌^◌, ◌<◌, ◌≤◌, List, [], ◌∷◌, ◌++◌, length, drop}
use Rattle.std.proofs.Common.{reverse, get_or, Some, slice_get, ap, sym, ◌∙◌, arith, append_assoc}
use Rattle.std.proofs.lemmas.List.{drop_all, drop_more, reverse-append}
use Rattle.std.proofs.lemmas.Option.{slice_get-get_or, get_or_from_slice_get}
use Rattle.addr_map.specs.Places.{MapSizes}
use Rattle.tac_ir.specs.declared.instruction.Instruction.{Instruction}
use Rattle.tac_ir.specs.declared.function.CodeFunction.{CodeFunction}
use Rattle.tac_ir.specs.declared.function.Tac.{Tac}
use Rattle.tac_ir.specs.Edges.{successors}
use Rattle.flat_code.specs.declared.instruction.FlatInstruction.{FlatInstruction}
use Rattle.flat_code.specs.declared.function.FlatFunction.{FlatFunction}
use Rattle.metadata_plan.specs.Laid.{begin_size, falls, jump, jump_unless, jumps, laid_from, place_of, size_at}
use Rattle.metadata_plan.specs.Laid.{size_from}
use Rattle.metadata_plan.specs.Laid.{function_of}
use Rattle.metadata_plan.specs.Laid.{functions_of}
use Rattle.metadata_plan.specs.OperatorLists.Operators.{operators}
use Rattle.metadata_expansion.specs.declared.layout.Places.{Places}
use Rattle.metadata_expansion.specs.Homes.{argument_count, most_arguments, homes}
use Rattle.metadata_expansion.specs.Numbers.{callee, greatest_callee}
use Rattle.metadata_expansion.specs.Numbering.{IsAmong}
use Rattle.metadata_expansion.specs.Laying.{ArePlaces, place_in}
use Rattle.metadata_plan.proofs.Numbers.{most_at}
use Rattle.metadata_plan.proofs.Laying.{drop_at}
use Rattle.metadata_expansion.proofs.Lists.{nothing_behind}

-- ---- what a function's instructions name

pub arguments_few : (is : List Instruction) (n : ℕ) (i : Instruction) → slice_get is n ≡ Some i
    → argument_count i ≤ most_arguments is
arguments_few [] n i e = cc
arguments_few (x ∷ is) zero i e =
    let same : argument_count x ≡ argument_count i = let x-i : x ≡ i = cc in ap (λ z. argument_count z) x-i in
    omega arith
arguments_few (x ∷ is) (suc n) i e =
    let rest : argument_count i ≤ most_arguments is = arguments_few is n i e in
    omega arith

callees_low : (is : List Instruction) (n : ℕ) (i : Instruction) → slice_get is n ≡ Some i
    → callee i ≤ greatest_callee is
callees_low [] n i e = cc
callees_low (x ∷ is) zero i e =
    let same : callee x ≡ callee i = let x-i : x ≡ i = cc in ap (λ z. callee z) x-i in
    omega arith
callees_low (x ∷ is) (suc n) i e =
    let rest : callee i ≤ greatest_callee is = callees_low is n i e in
    omega arith

pub is_among : (c : CodeFunction) (n : ℕ) (i : Instruction) → greatest_callee c.code < 2 ^ 32
    → slice_get c.code n ≡ Some i → IsAmong c i
is_among c n i low_callees e = record {
  temporaries = most_at c.code n i e;
  arguments = let few : argument_count i ≤ most_arguments c.code = arguments_few c.code n i e in omega arith;
  callee = let low : callee i ≤ greatest_callee c.code = callees_low c.code n i e in omega (arith, low_callees);
}

-- ---- functions

pub function_read : (t : Tac) (cs : List CodeFunction) (u : ℕ) (c : CodeFunction) → cs ≡ t.functions → u < length cs
    → c ≡ get_or cs u c → slice_get t.functions u ≡ Some c
function_read t cs u c same below e =
    ap (λ xs. slice_get xs u) (sym same) ∙ slice_get-get_or cs u c below ∙ ap Some (sym e)

-- the functions from one on, where that one is expanded
pub next_expanded : (m : MapSizes) (t : Tac) (cs : List CodeFunction) (u : ℕ) (c : CodeFunction)
    (before : List FlatFunction) {f : FlatFunction} {now : List FlatFunction} → u < length cs → slice_get cs u ≡ Some c
    → f ≡ function_of operators m t c (homes c) → now ≡ before ++ (f ∷ [])
    → now ++ functions_of operators m t homes (drop (u + 1) cs) ≡ before ++ functions_of operators m t homes (drop u cs)
next_expanded m t cs u c before {f} low at expanded put =
    let rest = functions_of operators m t homes (drop (u + 1) cs) in
    ap (λ fs. fs ++ rest) put
    ∙ (append_assoc before (f ∷ []) rest
    ∙ (ap (λ g. before ++ (g ∷ rest)) expanded
    ∙ ap (λ xs. before ++ functions_of operators m t homes xs)
    (sym (drop_more cs u c low ∙ ap (λ x. x ∷ drop (u + 1) cs) (get_or_from_slice_get cs u c c at)))))

-- ---- sizes and places

module _ (put : Instruction → List FlatInstruction) (begin : List FlatInstruction) (c : CodeFunction) where
  size_rest : (k : ℕ) (is : List Instruction) (n j : ℕ) → j ≡ k + n
      → size_from put begin c j (drop n is) ≤ size_from put begin c k is
  size_rest k is zero j e =
      let same : j ≡ k = omega arith in
      let sizes : size_from put begin c j is ≡ size_from put begin c k is =
      ap (λ z. size_from put begin c z is) same in
      omega (arith, sizes)
  size_rest k [] (suc n) j e = omega arith
  size_rest k (i ∷ is) (suc n) j e =
      let here : size_from put begin c j (drop n is) ≤ size_from put begin c (suc k) is =
      size_rest (suc k) is n j (omega arith) in
      omega (arith, here)

  pub node_fits : (n : ℕ) (i : Instruction) → begin_size put begin c + size_from put begin c 0 c.code < 2 ^ 31
      → slice_get c.code n ≡ Some i → place_of put begin c n + size_at put begin c n i < 2 ^ 31
  unfolding place_of
  node_fits n i small e =
      let whole : size_from put begin c n (drop n c.code) ≤ size_from put begin c 0 c.code =
      size_rest 0 c.code n n (omega arith) in
      let parts : size_from put begin c n (drop n c.code)
      ≡ size_at put begin c n i + size_from put begin c (suc n) (drop (suc n) c.code) =
      ap (λ is. size_from put begin c n is) (drop_at c.code n i e) in
      omega arith

  abbrev pub places_from : (node : ℕ) → List Instruction → List ℕ
  places_from n [] = []
  places_from n (i ∷ is) =
      (begin_size put begin c + size_from put begin c (suc n) is) ∷ places_from (suc n) is

  places_at : (k : ℕ) (is : List Instruction) (x j : ℕ) → j ≡ k + x
      → get_or (places_from k is) x (begin_size put begin c)
      ≡ begin_size put begin c + size_from put begin c (suc j) (drop (suc x) is)
  places_at k [] x j e =
      let same : begin_size put begin c ≡ begin_size put begin c + 0 = omega arith in
      same
  places_at k (i ∷ is) zero j e =
      let same : k ≡ j = omega arith in
      ap (λ z. begin_size put begin c + size_from put begin c (suc z) is) same
  places_at k (i ∷ is) (suc x) j e = places_at (suc k) is x j (omega arith)

  -- so many nodes have their places, from the last down; the next is at the place
  pub record HavePlaces (descending : List ℕ) (next behind : ℕ) : Type 0 where
    pub list : reverse descending ≡ places_from (length c.code - behind) (drop (length c.code - behind) c.code)
    pub place : next ≡ begin_size put begin c
        + size_from put begin c (length c.code - behind) (drop (length c.code - behind) c.code)

  pub none_placed : (place : ℕ) → place ≡ begin_size put begin c
      → HavePlaces [] place 0
  none_placed place e =
      let none : drop (length c.code - 0) c.code ≡ [] = drop_all (length c.code - 0) c.code (omega arith) in
      let first : place ≡ begin_size put begin c + 0 = omega arith in
      record {
        list = ap (λ is. places_from (length c.code - 0) is) (sym none);
        place = first
            ∙ ap (λ is. begin_size put begin c + size_from put begin c (length c.code - 0) is) (sym none);
      }

  pub one_placed : (xs : List ℕ) (p b n : ℕ) (i : Instruction)
      → length c.code - b ≡ suc n → slice_get c.code n ≡ Some i → HavePlaces xs p b
      → HavePlaces (xs ++ p ∷ []) (p + size_at put begin c n i) (b + 1)
  one_placed xs p b n i at e h =
      let next : n ≡ length c.code - (b + 1) = omega arith in
      let here : drop n c.code ≡ i ∷ drop (suc n) c.code = drop_at c.code n i e in
      let low : p ≡ begin_size put begin c + size_from put begin c (suc n) (drop (suc n) c.code) =
      h.place ∙ ap (λ k. begin_size put begin c + size_from put begin c k (drop k c.code)) at in
      let rest : reverse xs ≡ places_from (suc n) (drop (suc n) c.code) =
      h.list ∙ ap (λ k. places_from k (drop k c.code)) at in
      let list : reverse (xs ++ p ∷ []) ≡ places_from n (drop n c.code) =
      reverse-append xs (p ∷ [])
      ∙ ap (λ ys. p ∷ ys) rest
      ∙ ap (λ z. z ∷ places_from (suc n) (drop (suc n) c.code)) low
      ∙ ap (λ is. places_from n is) (sym here) in
      let parts : size_from put begin c n (drop n c.code)
      ≡ size_at put begin c n i + size_from put begin c (suc n) (drop (suc n) c.code) =
      ap (λ is. size_from put begin c n is) here in
      let place : p + size_at put begin c n i
      ≡ begin_size put begin c + size_from put begin c n (drop n c.code) = omega arith in
      record {
        list = list ∙ ap (λ k. places_from k (drop k c.code)) next;
        place = place ∙ ap (λ k. begin_size put begin c + size_from put begin c k (drop k c.code)) next;
      }

  pub all_placed : (xs : List ℕ) (p b : ℕ) (r : Places) → length c.code ≤ b
      → HavePlaces xs p b → r.descending ≡ xs → r.begin ≡ begin_size put begin c → ArePlaces r put begin c
  unfolding place_of
  all_placed xs p b r le h same first =
      let none : length c.code - b ≡ 0 = omega arith in
      let list : reverse r.descending ≡ places_from 0 c.code =
      ap (λ ys. reverse ys) same ∙ h.list ∙ ap (λ k. places_from k (drop k c.code)) none in
      record {
        of = λ n.
            ap (λ ys. get_or ys n r.begin) list
            ∙ ap (λ d. get_or (places_from 0 c.code) n d) first
            ∙ places_at 0 c.code n n (omega arith);
      }

  -- ---- code

  abbrev pub node_code : (node : ℕ) → Instruction → List FlatInstruction
  node_code n i =
      put i
      ++ jumps c (place_of put begin c) n (place_of put begin c n + length (put i))
      (successors i)

  -- the jumps of a node stand behind its block
  pub node_list : (n p : ℕ) (i : Instruction) (ns : List ℕ) (before : List FlatInstruction)
      {now after : List FlatInstruction} → ns ≡ successors i → p ≡ place_of put begin c n + length (put i)
      → now ≡ before ++ put i → after ≡ now ++ jumps c (place_of put begin c) n p ns → after ≡ before ++ node_code n i
  node_list n p i ns before same at blocks led =
      let place = place_of put begin c in
      led
      ∙ (ap (λ is. is ++ jumps c place n p ns) blocks
      ∙ (append_assoc before (put i) (jumps c place n p ns)
      ∙ (ap (λ q. before ++ (put i ++ jumps c place n q ns)) at
      ∙ ap (λ ms. before ++ (put i ++ jumps c place n (place n + length (put i)) ms)) same)))

  -- the code of so many nodes stands, from the last down
  pub record HaveCode (before now : List FlatInstruction) (behind : ℕ)
      : Type 0 where
    pub code : now ≡ before
        ++ laid_from put begin c (length c.code - behind) (drop (length c.code - behind) c.code)

  pub none_put : (before : List FlatInstruction)
      → HaveCode before before 0
  none_put before =
      let none : drop (length c.code - 0) c.code ≡ [] = drop_all (length c.code - 0) c.code (omega arith) in
      record {
        code = sym (nothing_behind before)
            ∙ ap (λ is. before ++ laid_from put begin c (length c.code - 0) is) (sym none);
      }

  pub one_put : (before now after : List FlatInstruction) (b n : ℕ)
      (i : Instruction) → length c.code - b ≡ suc n → slice_get c.code n ≡ Some i → HaveCode before now b
      → after ≡ now ++ node_code n i → HaveCode before after (b + 1)
  one_put before now after b n i at e h more =
      let next : n ≡ length c.code - (b + 1) = omega arith in
      let here : i ∷ drop (suc n) c.code ≡ drop n c.code = sym (drop_at c.code n i e) in
      let rest : now ≡ before ++ laid_from put begin c (suc n) (drop (suc n) c.code) =
      h.code ∙ ap (λ k. before ++ laid_from put begin c k (drop k c.code)) at in
      record {
        code = more
            ∙ ap (λ is. is ++ node_code n i) rest
            ∙ append_assoc before (laid_from put begin c (suc n) (drop (suc n) c.code)) (node_code n i)
            ∙ ap (λ is. before ++ laid_from put begin c n is) here
            ∙ ap (λ k. before ++ laid_from put begin c k (drop k c.code)) next;
      }

  pub all_put : (before now : List FlatInstruction) (b : ℕ)
      → length c.code ≤ b → HaveCode before now b → now ≡ before ++ laid_from put begin c 0 c.code
  all_put before now b le h =
      let none : length c.code - b ≡ 0 = omega arith in
      h.code ∙ ap (λ k. before ++ laid_from put begin c k (drop k c.code)) none

  pub next_fits : (xs : List ℕ) (p b n : ℕ) (i : Instruction)
      → length c.code - b ≡ suc n → slice_get c.code n ≡ Some i
      → begin_size put begin c + size_from put begin c 0 c.code < 2 ^ 31 → HavePlaces xs p b
      → p + size_at put begin c n i < 2 ^ 31
  unfolding place_of
  next_fits xs p b n i at e small h =
      let fit = node_fits n i small e in
      let low : p ≡ begin_size put begin c + size_from put begin c (suc n) (drop (suc n) c.code) =
      h.place ∙ ap (λ k. begin_size put begin c + size_from put begin c k (drop k c.code)) at in
      omega (arith, fit, low)

  pub one_placed_as : (xs ys : List ℕ) (p b n size : ℕ) (i : Instruction)
      → length c.code - b ≡ suc n → slice_get c.code n ≡ Some i → HavePlaces xs p b → ys ≡ xs ++ p ∷ []
      → size ≡ size_at put begin c n i → HavePlaces ys (p + size) (b + 1)
  one_placed_as xs ys p b n size i at e h list sized =
      let done : HavePlaces (xs ++ p ∷ []) (p + size_at put begin c n i) (b + 1) =
      one_placed xs p b n i at e h in
      record {
        list = ap (λ zs. reverse zs) list ∙ done.list;
        place = ap (λ z. p + z) sized ∙ done.place;
      }

  -- the jumps by a table of the places
  pub same_jumps : (places : Places) (n p : ℕ) (ns : List ℕ) (before after : List FlatInstruction)
      → ArePlaces places put begin c → after ≡ before ++ jumps c (place_in places) n p ns
      → after ≡ before ++ jumps c (place_of put begin c) n p ns
  same_jumps places n p [] before after at led = led
  same_jumps places n p (m ∷ []) before after at led =
      led ∙ ap (λ x. before ++ jump_unless (falls c n m) p x) (at.of m)
  same_jumps places n p (x ∷ y ∷ ms) before after at led =
      led
      ∙ (ap (λ z. before ++ (jump p z ∷ jump_unless (falls c n x) (p + 1) (place_in places x))) (at.of y)
      ∙ ap (λ z. before ++ (jump p (place_of put begin c y) ∷ jump_unless (falls c n x) (p + 1) z)) (at.of x))
