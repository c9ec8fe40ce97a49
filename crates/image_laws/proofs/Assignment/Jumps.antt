-- Code with branches ahead, by what is said to be assigned before each instruction.
use Rattle.std.proofs.Common.{◌≡◌, ◌⊎◌, inl, inr, ℕ, zero, suc, ◌+◌, ◌≤◌, sym, subst, arith}
use Rattle.std.proofs.Common.{true, List, [], ◌∷◌, length, Some}
use Rattle.std.specs.Prelude.{slice_get}
use Rattle.std.proofs.lemmas.Option.{same_Some, none-some}
use Rattle.flat_code.specs.declared.instruction.FlatInstruction.{FlatInstruction}
use Rattle.flat_code.specs.declared.instruction.FlatInstruction.TheVariants.{Constant, Move, Operate, Operate32}
use Rattle.flat_code.specs.declared.instruction.FlatInstruction.TheVariants.{Load, Store, Branch, JumpForward}
use Rattle.flat_code.specs.declared.instruction.FlatInstruction.TheVariants.{JumpBack, Turn, Call, CallAddress}
use Rattle.flat_code.specs.declared.instruction.FlatInstruction.TheVariants.{Return, Get, Put, Exit, End, Charged}
use Rattle.flat_code.specs.declared.function.FlatProgram.{FlatProgram}
use Rattle.reg_plan.specs.Effects.{made_by, is_among, Leads}
use Rattle.image_laws.specs.Plans.Assignment.{Registers, IsOneOf, StaysWithin}
use Rattle.image_laws.proofs.Assignment.Flows.{Local, Flows}
use Rattle.image_laws.proofs.Assignment.Straight.{Sources, Targets, Behind, sources_read, made_named, behind_made}
use Rattle.image_laws.proofs.Assignment.Straight.{maker_onward}

module _ (p : FlatProgram) (u : ℕ) (P : Registers) (at : ℕ → Registers) (end : ℕ) where
  -- where a branch leads no more is said to be assigned than before it
  abbrev pub Jumps : (place : ℕ) → FlatInstruction → Type 0
  Jumps k (Branch op y z past) = (k + 1 + past ≤ end) × ((w : ℕ) → at (k + 1 + past) w → at k w)
  Jumps k _ = Unit {0}

  -- behind an instruction just what was assigned before it, or less, and what it makes
  abbrev pub Item : (place : ℕ) → FlatInstruction → Type 0
  Item k i =
      Sources p u P (at k) i × Targets p u P i
      × ((w : ℕ) → at (k + 1) w → Behind p u P (at k) i w)
      × ((w : ℕ) → is_among (made_by p i) w ≡ true → at (k + 1) w)
      × Jumps k i

  abbrev pub Items : (place : ℕ) → List FlatInstruction → Type 0
  Items k [] = Unit {0}
  Items k (i ∷ is) = Item k i × Items (k + 1) is

  item_at : (is : List FlatInstruction) (k j : ℕ) (i : FlatInstruction) → Items k is → slice_get is j ≡ Some i
      → Item (k + j) i
  item_at [] k j i h e = absurd (none-some i e)
  item_at (x ∷ is) k zero i h e =
      let here : k ≡ k + 0 = omega arith in
      subst (λ z. Item z i) here (subst (Item k) (same_Some x i e) h.0)
  item_at (x ∷ is) k (suc j) i h e =
      let here : k + 1 + j ≡ k + suc j = omega arith in
      subst (λ z. Item z i) here (item_at is (k + 1) j i h.1 e)

  -- where an instruction leads is the next one, or what it jumps to
  data To (pc q : ℕ) (i : FlatInstruction) : Type 0 where
    Next : pc + 1 ≡ q → To pc q i
    Jumped : ((w : ℕ) → at q w → at pc w) → To pc q i

  onto : (i : FlatInstruction) (pc q : ℕ) → Item pc i → Leads i pc q → To pc q i
  onto (Branch op y z past) pc q o (inl e) = Next (same_Some (pc + 1) q e)
  onto (Branch op y z past) pc q o (inr e) =
      Jumped (subst (λ t. (w : ℕ) → at t w → at pc w) (same_Some (pc + 1 + past) q e) o.4.1)
  onto (JumpForward past) pc q o l = absurd o.0
  onto (JumpBack past) pc q o l = absurd o.0
  onto (Return a) pc q o (inl e) = absurd (none-some q e)
  onto (Exit a) pc q o (inl e) = absurd (none-some q e)
  onto (End a) pc q o (inl e) = absurd (none-some q e)
  onto (Constant x n) pc q o (inl e) = Next (same_Some (pc + 1) q e)
  onto (Move x y) pc q o (inl e) = Next (same_Some (pc + 1) q e)
  onto (Operate op x y z) pc q o (inl e) = Next (same_Some (pc + 1) q e)
  onto (Operate32 op x y z) pc q o (inl e) = Next (same_Some (pc + 1) q e)
  onto (Load op x y offset) pc q o (inl e) = Next (same_Some (pc + 1) q e)
  onto (Store op y offset x) pc q o (inl e) = Next (same_Some (pc + 1) q e)
  onto Turn pc q o (inl e) = Next (same_Some (pc + 1) q e)
  onto (Call f first x) pc q o (inl e) = Next (same_Some (pc + 1) q e)
  onto (CallAddress y first n x r) pc q o (inl e) = Next (same_Some (pc + 1) q e)
  onto (Get x) pc q o (inl e) = Next (same_Some (pc + 1) q e)
  onto (Put x) pc q o (inl e) = Next (same_Some (pc + 1) q e)
  onto (Charged x) pc q o (inl e) = Next (same_Some (pc + 1) q e)
  onto i pc q o (inr e) = absurd (none-some q e)

  stays : (i : FlatInstruction) (pc : ℕ) → Item pc i → StaysWithin end pc i
  stays (Branch op y z past) pc o = o.4.0
  stays (JumpForward past) pc o = absurd o.0
  stays (JumpBack past) pc o = absurd o.0
  stays _ pc o = tt

  module _ (is : List FlatInstruction) (h : Items 0 is) where
    local : (pc : ℕ) (i : FlatInstruction) → slice_get is pc ≡ Some i → Local p u P at end pc i
    local pc i there =
        let here : 0 + pc ≡ pc = omega arith in
        let o = subst (λ z. Item z i) here (item_at is 0 pc i h there) in
        record {
          stays = stays i pc o;
          reads = λ y r. sources_read p u P (at pc) i y o.0 r;
          steps = λ q y l a. by q y (onto i pc q o l) o a;
          makes = λ q y l m only.
              let next : pc + 1 ≡ q = let e = maker_onward p u P (at pc) i y pc q o.0 m l in omega (arith, e) in
              subst (λ z. at z y) next (o.3 y m);
          named = λ y m. made_named p u P i y o.1 m;
        }
      where
        by : (q y : ℕ) → To pc q i → Item pc i → at q y → at pc y ⊎ (is_among (made_by p i) y ≡ true)
        by q y (Next e) o a = behind_made p u P (at pc) i y (o.2 y (subst (λ z. at z y) (sym e) a))
        by q y (Jumped f) o a = inl (f y a)

    pub branching : (G : Registers) (b : ℕ) (M : List ℕ) → length is + b ≡ end → ((y : ℕ) → at 0 y → G y)
        → ((k y : ℕ) → G y → at k y) → ((k y : ℕ) → at k y → P y)
        → ((q y : ℕ) → length is ≤ q → at (length is) y → at q y) → ((y : ℕ) → IsOneOf M y → at (length is) y)
        → Flows p u P G is b M
    branching G b M whole start keeps low behind made = record {
      at = at;
      start = start;
      keeps = keeps;
      low = low;
      each = λ pc i there. subst (λ e. Local p u P at e pc i) (sym whole) (local pc i there);
      behind = behind;
      made = made;
    }
