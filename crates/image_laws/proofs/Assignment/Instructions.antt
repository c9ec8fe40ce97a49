-- The block of an instruction at a node of a function, whatever is made on paths to it.
use Rattle.std.proofs.Common.{◌≡◌, inl, inr, ⊎_elim, ℕ, ◌+◌, ◌<◌, sym, subst, arith}
use Rattle.std.proofs.Common.{Bool, true, false, List, Some}
use Rattle.std.specs.Prelude.{[], slice_get, suc, max, ◌==◌, ◌||◌, nat_le, nat_lt, if◌then◌else◌, Option, None}
use Rattle.std.proofs.lemmas.Bool.{eqb-true, ltb-true, and_parts, or_cases, false≢true}
use Rattle.obj_memory.specs.declared.value.Scalar.{Scalar}
use Rattle.obj_memory.specs.declared.value.Scalar.TheVariants.{Integer, Pointer}
use Rattle.c_tree.specs.declared.program.Variable.{Variable}
use Rattle.source_meaning.specs.Blocks.{has_objects}
use Rattle.source_meaning.specs.Good.{plain_type}
use Rattle.tac_ir.specs.declared.instruction.Instruction.{Instruction}
use Rattle.tac_ir.specs.declared.instruction.Instruction.TheVariants as tac
use Rattle.tac_ir.specs.declared.instruction.RightOperand.{RightOperand}
use Rattle.tac_ir.specs.declared.instruction.RightOperand.TheVariants.{Temporary, One}
use Rattle.tac_ir.specs.declared.instruction.Test.{Test}
use Rattle.tac_ir.specs.declared.instruction.Test.TheVariants.{Spatial, Temporal}
use Rattle.tac_ir.specs.declared.key.Base.{Base}
use Rattle.tac_ir.specs.declared.key.Base.TheVariants.{Plain, Automatic, Static}
use Rattle.tac_ir.specs.declared.key.Key.{Key}
use Rattle.tac_ir.specs.declared.function.CodeFunction.{CodeFunction}
use Rattle.tac_ir.specs.Edges.{successors}
use Rattle.tac_ir.specs.Meaning.{objects_in}
use Rattle.tac_ir.specs.Temporaries.{temporaries, right_count}
use Rattle.flat_code.specs.declared.function.FlatProgram.{FlatProgram}
use Rattle.flat_code.specs.Routines.Metadata.{entry_registers}
use Rattle.shadow_space.specs.Form.{EntryCode}
use Rattle.metadata_plan.specs.Entries.{can_compare, key_in}
use Rattle.metadata_plan.specs.Registers.{all_variables, most_temporaries}
use Rattle.metadata_plan.proofs.Numbers.{most_at}
use Rattle.metadata_relation.specs.Homes.{register_count}
use Rattle.metadata_relation.specs.InlineCode.{InlineCode}
use Rattle.metadata_relation.specs.InlineLists.{inline_lists}
use Rattle.metadata_relation.specs.Registers.{temporary_register, variable_register, home_entry, first_object}
use Rattle.metadata_relation.specs.Blocks.{Expansion, block, objects_of_body}
use Rattle.metadata_relation.proofs.Registers.{variable_low, count_in}
use Rattle.c_lower.specs.Liveness.Liveness.{reads, is_among, is_right}
use Rattle.image_laws.specs.Plans.Assignment.{Registers, IsOneOf, IsAssignedAt, IsBegun, passed_over, Assigns, Names}
use Rattle.image_laws.specs.Plans.EntryLists.{AssignEntries}
use Rattle.image_laws.specs.Plans.Instructions.{value_of, made_registers, assigns_alone, plain_count, IsSetOut}
use Rattle.image_laws.specs.Plans.Instructions.{home_of_base, home_compared, left_registers, homes_read, HasCallees}
use Rattle.image_laws.proofs.Assignment.Flows.{assigns_more}
use Rattle.image_laws.proofs.Assignment.Straight.{AreIn}
use Rattle.image_laws.proofs.Assignment.Values.{block_assigns}
use Rattle.image_laws.proofs.Assignment.Temporaries.{read_assigned}
use Rattle.image_laws.proofs.Assignment.Sites.{Site, home_most}
use Rattle.image_laws.proofs.Assignment.Blocks.{block_of}

-- ---- what is read is a temporary of the function

right_low : (right : RightOperand) (a : ℕ) → is_right right a ≡ true → a < right_count right
right_low (Temporary b) a r = let e = eqb-true a b r in omega (arith, e)
right_low One a r = absurd (false≢true r)

among_low : (d n a : ℕ) → is_among d n a ≡ true → a < d + n
among_low d n a r = ltb-true a (d + n) (and_parts (nat_le d a) (nat_lt a (d + n)) r).1

one_low : (d a m : ℕ) → (a == d) ≡ true → d < m → a < m
one_low d a m r lt = let e = eqb-true a d r in omega (arith, e, lt)

two_low : (d b a m : ℕ) → ((a == d) || (a == b)) ≡ true → d < m → b < m → a < m
two_low d b a m r ld lb = ⊎_elim (λ e. one_low d a m e ld) (λ e. one_low b a m e lb) (or_cases (a == d) (a == b) r)

read_low : (i : Instruction) (a : ℕ) → reads i a ≡ true → a < temporaries i
read_low (tac.SetPlain x d m) a r = one_low d a (suc d) r (omega arith)
read_low (tac.UpdatePlain w k f line d x right m) a r = let lt = right_low right a r in omega (arith, lt)
read_low (tac.Convert kind d b m) a r = one_low b a (max (suc d) (suc b)) r (omega arith)
read_low (tac.Unary op ty d b m) a r = one_low b a (max (suc d) (suc b)) r (omega arith)
read_low (tac.Binary op ty line d b k m) a r =
    two_low b k a (max (suc d) (max (suc b) (suc k))) r (omega arith) (omega arith)
read_low (tac.Offset form size d b k m) a r =
    two_low b k a (max (suc d) (max (suc b) (suc k))) r (omega arith) (omega arith)
read_low (tac.Difference size d b k m) a r =
    two_low b k a (max (suc d) (max (suc b) (suc k))) r (omega arith) (omega arith)
read_low (tac.Narrow offset size d b m) a r = one_low b a (max (suc d) (suc b)) r (omega arith)
read_low (tac.Member offset size d b m) a r = one_low b a (max (suc d) (suc b)) r (omega arith)
read_low (tac.Take kind line d b m) a r = one_low b a (max (suc d) (suc b)) r (omega arith)
read_low (tac.Read kind mode line key d b m) a r = one_low b a (max (suc d) (suc b)) r (omega arith)
read_low (tac.Write kind mode line key d b k m) a r =
    two_low b k a (max (suc d) (max (suc b) (suc k))) r (omega arith) (omega arith)
read_low (tac.Update w k f mode line at key d b right m) a r =
    ⊎_elim (λ e. one_low b a (max (suc d) (max (suc b) (right_count right))) e (omega arith))
    (λ e. let lt = right_low right a e in omega (arith, lt)) (or_cases (a == b) (is_right right a) r)
read_low (tac.Judge test size line key b m) a r = one_low b a (suc b) r (omega arith)
read_low (tac.StorePart kind line x offset b m) a r = one_low b a (suc b) r (omega arith)
read_low (tac.Branch b x y) a r = one_low b a (suc b) r (omega arith)
read_low (tac.Case b w x y) a r = one_low b a (suc b) r (omega arith)
read_low (tac.Library f line d n m) a r = let lt = among_low d n a r in omega (arith, lt)
read_low (tac.Print x line d n m) a r = let lt = among_low d n a r in omega (arith, lt)
read_low (tac.Call f line d n m) a r = let lt = among_low d n a r in omega (arith, lt)
read_low (tac.CallThrough ty line d n m) a r = let lt = among_low d (suc n) a r in omega (arith, lt)
read_low (tac.Return b) a r = one_low b a (suc b) r (omega arith)
read_low _ a r = absurd (false≢true r)

-- ---- homes that are read have registers

home_named : (c : CodeFunction) (x y : ℕ) → IsOneOf (entry_registers (home_entry c x)) y → y < register_count c
home_named c x y (inl s) = let le = home_most (all_variables c) x in omega (arith, le, s)
home_named c x y (inr (inl s)) = let le = home_most (all_variables c) x in omega (arith, le, s)
home_named c x y (inr (inr (inl s))) = let le = home_most (all_variables c) x in omega (arith, le, s)
home_named c x y (inr (inr (inr (inl s)))) = let le = home_most (all_variables c) x in omega (arith, le, s)
home_named c x y (inr (inr (inr (inr h)))) = absurd h

left_named : (c : CodeFunction) (vs : List Variable) (y : ℕ) → IsOneOf (left_registers c vs) y → y < register_count c
left_named c vs y (inl s) = let le = home_most (all_variables c) (first_object vs) in omega (arith, le, s)
left_named c vs y (inr (inl s)) = let le = home_most (all_variables c) (first_object vs) in omega (arith, le, s)
left_named c vs y (inr (inr h)) = absurd h

base_named : (c : CodeFunction) (base : Base) (y : ℕ) → IsOneOf (home_of_base c base) y → y < register_count c
base_named c (Plain x) y h = absurd h
base_named c (Automatic x) y h = home_named c x y h
base_named c (Static n) y h = absurd h

compared_named : (c : CodeFunction) (test : Test) (key : Option Key) (y : ℕ) → IsOneOf (home_compared c test key) y
    → y < register_count c
compared_named c test None y h = absurd h
compared_named c Temporal (Some key) y h = absurd h
compared_named c Spatial (Some key) y h = by (can_compare Spatial key) h
  where
    by : (b : Bool) → IsOneOf (if b then home_of_base c key.base else []) y → y < register_count c
    by true h = base_named c key.base y h
    by false h = absurd h

home_low : (c : CodeFunction) (i : Instruction) (y : ℕ) → IsOneOf (homes_read c i) y → y < register_count c
home_low c (tac.HomePointer d x m) y h = home_named c x y h
home_low c (tac.Zero x m) y h = home_named c x y h
home_low c (tac.StorePart kind line x offset a m) y h = home_named c x y h
home_low c (tac.StoreText n x offset m) y h = home_named c x y h
home_low c (tac.Judge test size line key a m) y h = compared_named c test (key_in c key) y h
home_low c (tac.LeaveBlock b m) y h = left_named c (objects_in (Some c) b) y h
home_low c (tac.Return a) y h = by (has_objects (objects_of_body c)) h
  where
    by : (b : Bool) → IsOneOf (if b then left_registers c (objects_of_body c) else []) y → y < register_count c
    by true h = left_named c (objects_of_body c) y h
    by false h = absurd h
home_low c _ y h = absurd h

module _ (p : FlatProgram) (u : ℕ) (e : Expansion) (read write : EntryCode) (entries : AssignEntries read write)
    (callees : HasCallees p e.code) (c : CodeFunction) (parameters : ℕ) (begins : List ℕ) (n : ℕ) where
  -- what is assigned at the node and may be named
  abbrev Given : Expansion → Registers
  Given e y = IsAssignedAt (IsBegun parameters begins) c (made_registers e u c) n y × (y < register_count c)

  abbrev lists : InlineCode
  lists = inline_lists read write e.map

  few : (k : Scalar) (j : ℕ) → j < plain_count k → j < count_in k
  few (Integer t) j lt = lt
  few Pointer j lt = lt

  variables_given : IsSetOut e u c parameters begins → (x j : ℕ) (k : Scalar) → plain_type (all_variables c) x ≡ Some k
      → j < plain_count k → Given e (variable_register c x + j)
  variables_given h x j k at lt =
      let low = variable_low c x k at in
      let within = few k j lt in
      ((λ path. inl (h.variables x j k at lt)), omega (arith, low, within))

  both : (i : Instruction) → IsSetOut e u c parameters begins → slice_get c.code n ≡ Some i → (a : ℕ)
      → reads i a ≡ true → (b : Bool) → (b ≡ true → e.entries u n a ≡ true)
      → AreIn (value_of b (temporary_register c a)) (Given e)
  both i h at a r b has = by b (read_assigned e u c parameters begins h n a i at r b has)
    where
      low : a < most_temporaries c.code
      low = let lt = read_low i a r in let most = most_at c.code n i at in omega (arith, lt, most)

      by : (b : Bool) → AreIn (value_of b (temporary_register c a))
          (IsAssignedAt (IsBegun parameters begins) c (made_registers e u c) n)
          → AreIn (value_of b (temporary_register c a)) (Given e)
      by false (v, _) = let lt = low in ((v, omega (arith, lt)), tt)
      by true (v, (g1, (g2, (g3, (g4, _))))) =
          let lt = low in (
            (v, omega (arith, lt)),
            (
              (g1, omega (arith, lt)),
              ((g2, omega (arith, lt)), ((g3, omega (arith, lt)), ((g4, omega (arith, lt)), tt))),
            ),
          )

  -- what is promised of the block
  abbrev pub Promise : Expansion → Instruction → Type 0
  Promise e i =
      Assigns p u (IsAssignedAt (IsBegun parameters begins) c (made_registers e u c) n) (block e u c i)
      (passed_over (successors i)) (made_registers e u c i)
      × Names p u (block e u c i) (λ y. y < register_count c)

  with_lists : (i : Instruction) → IsSetOut e u c parameters begins → slice_get c.code n ≡ Some i
      → assigns_alone e.code c i ≡ true → Promise (record e { inline = lists }) i
  with_lists i h at ok =
      let site : Site = record {
        p = p;
        u = u;
        whole = e;
        read = read;
        write = write;
        entries = entries;
        callees = callees;
        c = c;
        n = n;
        here = h.here;
        closed = h.closed;
        G = Given e;
        low = λ y g. g.1;
        variables = variables_given h;
      } in
      let k = block_of site i ok at (both i h at) (λ y one. (h.homes n y i at one, home_low c i y one)) in
      let a = block_assigns p u (λ y. y < register_count c) (Given e) (block (record e { inline = lists }) u c i)
      (passed_over (successors i)) (made_registers e u c i) k in (
        assigns_more p u (Given e) (IsAssignedAt (IsBegun parameters begins) c (made_registers e u c) n)
            (block (record e { inline = lists }) u c i) (passed_over (successors i)) (made_registers e u c i) (λ y g. g.0) a.0,
        a.1,
      )

  pub assigned : (i : Instruction) → e.inline ≡ lists → IsSetOut e u c parameters begins → slice_get c.code n ≡ Some i
      → assigns_alone e.code c i ≡ true → Promise e i
  assigned i same h at ok =
      subst (λ z. Promise (record e { inline = z }) i) (sym same) (with_lists i h at ok)
