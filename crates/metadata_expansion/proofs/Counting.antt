-- How many ways lead to each node, counted one by one.
use Rattle.std.proofs.Common.{◌≡◌, ◌≢◌, ℕ, zero, suc, ◌+◌, ◌<◌, ◌≤◌, Bool, true, false, refl, sym, ap, ◌∙◌, subst}
use Rattle.std.proofs.Common.{arith, List, [], ◌∷◌, length, drop, Some, get_or}
use Rattle.std.specs.Prelude.{replicate, slice_get, slice_set, nat_lt, ◌==◌, not, ◌&&◌, if◌then◌else◌}
use Rattle.std.proofs.lemmas.List.{length-replicate, length-set, get_or-replicate, get_or-set_same, get_or-set_other}
use Rattle.std.proofs.lemmas.Option.{same_Some, slice_get_read, slice_get_within, slice_get-get_or}
use Rattle.std.proofs.lemmas.Bool.{eqb-true, eqb-false, eq-eqb, ne_eqb, lt-ltb}
use Rattle.tac_ir.specs.declared.instruction.Instruction.{Instruction}
use Rattle.tac_ir.specs.declared.function.CodeFunction.{CodeFunction}
use Rattle.tac_ir.specs.Edges.{successors}
use Rattle.metadata_plan.specs.Laid.{edges_to, falls, is_join, times_in, ways_to}
use Rattle.metadata_expansion.specs.declared.joins.Arrivals.{Arrivals}
use Rattle.metadata_expansion.specs.declared.joins.Arrivals.TheVariants.{Never, Often}
use Rattle.metadata_expansion.specs.declared.joins.Joins.{Joins}
use Rattle.metadata_expansion.specs.Joins.{Adds, AreCounted, AreJoins, and_one, and_more, is_often, ways_in}
use Rattle.metadata_plan.proofs.Laying.{drop_at}

pub more_of_sum : (a : Arrivals) (m n : ℕ) → and_more a (m + n) ≡ and_more (and_more a m) n
unfolding and_more
more_of_sum a zero n = let e : 0 + n ≡ n = omega arith in ap (and_more a) e
more_of_sum a (suc m) n =
    let e : suc m + n ≡ suc (m + n) = omega arith in
    ap (and_more a) e ∙ more_of_sum (and_one a) m n

-- nothing more is counted
pub adds_nothing : (table : List Arrivals) → Adds table table (ways_in [])
unfolding and_more
adds_nothing table = record { size = refl; each = λ n a e. e }

pub adds_both : (x y : ℕ) (a b c : List Arrivals) → Adds a b (ways_in (x ∷ [])) → Adds b c (ways_in (y ∷ []))
    → Adds a c (ways_in (x ∷ y ∷ []))
adds_both x y a b c first second = record {
  size = second.size ∙ first.size;
  each = λ n z e.
      let there = second.each n (and_more z (times_in n (x ∷ []))) (first.each n z e) in
      let sum : times_in n (x ∷ []) + times_in n (y ∷ []) ≡ times_in n (x ∷ y ∷ []) = omega arith in
      there ∙ ap Some (sym (more_of_sum z (times_in n (x ∷ [])) (times_in n (y ∷ []))))
      ∙ ap (λ k. Some (and_more z k)) sum;
}

-- one way more to a node of the table
pub adds_one : (table : List Arrivals) (x : ℕ) (a : Arrivals) → x < length table → slice_get table x ≡ Some a
    → Adds table (slice_set table x (and_one a)) (ways_in (x ∷ []))
unfolding and_more
adds_one table x a inside at = record { size = length-set table x (and_one a); each = each }
  where
    each : (n : ℕ) (b : Arrivals) → slice_get table n ≡ Some b
        → slice_get (slice_set table x (and_one a)) n ≡ Some (and_more b (times_in n (x ∷ [])))
    each n b e = by (x == n) refl
      where
        within : n < length table
        within = slice_get_within table n b e

        by : (q : Bool) → (x == n) ≡ q
            → slice_get (slice_set table x (and_one a)) n ≡ Some (and_more b (times_in n (x ∷ [])))
        by true q =
            let same = eqb-true x n q in
            let is : b ≡ a = same_Some b a (sym e ∙ ap (slice_get table) (sym same) ∙ at) in
            subst (λ z. slice_get (slice_set table x (and_one a)) z ≡ Some (and_more b (times_in n (x ∷ [])))) same
            (slice_get-get_or (slice_set table x (and_one a)) x Never (rw (length-set table x (and_one a)) inside)
            ∙ ap Some (get_or-set_same table x (and_one a) Never inside) ∙ ap (λ z. Some (and_one z)) (sym is)
            ∙ ap (λ z. Some (and_more b ((if z then 1 else 0) + 0))) (sym q))
        by false q =
            let other = eqb-false x n q in
            let apart : n ≢ x = λ same. other (sym same) in
            slice_get-get_or (slice_set table x (and_one a)) n Never (rw (length-set table x (and_one a)) within)
            ∙ ap Some (get_or-set_other table x n (and_one a) Never apart)
            ∙ sym (slice_get-get_or table n Never within) ∙ e
            ∙ ap (λ z. Some (and_more b ((if z then 1 else 0) + 0))) (sym q)

-- a node that is none of the table's has no entry there
pub adds_none : (table : List Arrivals) (x : ℕ) → length table ≤ x → Adds table table (ways_in (x ∷ []))
unfolding and_more
adds_none table x past = record {
  size = refl;
  each = λ n b e.
      let within = slice_get_within table n b e in
      let apart : (x == n) ≡ false = ne_eqb x n (λ same. omega (arith, same, within, past)) in
      e ∙ ap (λ z. Some (and_more b ((if z then 1 else 0) + 0))) (sym apart);
}

-- ---- the instructions one after the other

pub counted_first : (c : CodeFunction) (none table : List Arrivals) → none ≡ replicate (length c.code) Never
    → Adds none table (ways_in (c.entry ∷ [])) → AreCounted c c.code table
counted_first c none table e adds = record { size = adds.size ∙ size; each = each }
  where
    size : length none ≡ length c.code
    size = ap length e ∙ length-replicate (length c.code) Never

    each : (n : ℕ) (a : Arrivals) → slice_get table n ≡ Some a
        → and_more a (edges_to c.code n) ≡ and_more Never (ways_to c n)
    each n a at =
        let within : n < length c.code = let w = slice_get_within table n a at in omega (arith, adds.size, size) in
        let whole = length-replicate (length c.code) Never in
        let was = ap (λ z. slice_get z n) e
        ∙ slice_get-get_or (replicate (length c.code) Never) n Never (omega (arith, whole, within))
        ∙ ap Some (get_or-replicate (length c.code) n Never Never within) in
        let is = same_Some a (and_more Never (times_in n (c.entry ∷ []))) (sym at ∙ adds.each n Never was) in
        ap (λ z. and_more z (edges_to c.code n)) is
        ∙ sym (more_of_sum Never (times_in n (c.entry ∷ [])) (edges_to c.code n))

pub counted_further : (c : CodeFunction) (i : Instruction) (is : List Instruction) (old new : List Arrivals)
    → AreCounted c (i ∷ is) old → Adds old new (ways_in (successors i)) → AreCounted c is new
counted_further c i is old new counted adds = record {
  size = adds.size ∙ counted.size;
  each = λ n b e.
      let within : n < length old = let w = slice_get_within new n b e in omega (arith, adds.size) in
      let was = slice_get-get_or old n Never within in
      let now = adds.each n (get_or old n Never) was in
      let is_b = same_Some b (and_more (get_or old n Never) (times_in n (successors i))) (sym e ∙ now) in
      ap (λ z. and_more z (edges_to is n)) is_b
      ∙ sym (more_of_sum (get_or old n Never) (times_in n (successors i)) (edges_to is n))
      ∙ counted.each n (get_or old n Never) was;
}

pub counted_next : (c : CodeFunction) (is : List Instruction) (k : ℕ) (i : Instruction) (ns : List ℕ)
    (old new : List Arrivals) → k < length is → i ≡ get_or is k i → AreCounted c (drop k is) old → ns ≡ successors i
    → Adds old new (ways_in ns) → AreCounted c (drop (k + 1) is) new
counted_next c is k i ns old new inside read counted same adds =
    let at = slice_get_read is (length is) k i refl inside read in
    let further : k + 1 ≡ suc k = omega arith in
    subst (λ z. AreCounted c (drop z is) new) (sym further)
    (counted_further c i (drop (suc k) is) old new
    (subst (λ z. AreCounted c z old) (drop_at is k i at) counted)
    (subst (λ z. Adds old new (ways_in z)) same adds))

-- ---- what the table tells

often_still : (n : ℕ) → and_more Often n ≡ Often
unfolding and_more
often_still zero = refl
often_still (suc n) = often_still n

often_is_join : (n : ℕ) → is_often (and_more Never n) ≡ nat_lt 1 n
unfolding and_more
often_is_join zero = refl
often_is_join (suc zero) = refl
often_is_join (suc (suc n)) = ap is_often (often_still n) ∙ sym (lt-ltb 1 (suc (suc n)) (omega arith))

pub falls_unless_often : (joins : Joins) (c : CodeFunction) (n next : ℕ) (other : Arrivals) → AreJoins joins c
    → next + 1 ≡ n → n ≤ length c.code → not (is_often (get_or joins.arrivals next other)) ≡ falls c n next
unfolding falls and_more
falls_unless_often joins c n next other counted follows inside =
    let at = slice_get-get_or joins.arrivals next other (omega (arith, counted.size, follows, inside)) in
    ap (λ z. not (is_often z)) (counted.each next (get_or joins.arrivals next other) at)
    ∙ ap not (often_is_join (ways_to c next)) ∙ ap (λ z. z && not (is_join c next)) (sym (eq-eqb (next + 1) n follows))

pub falls_to_next_alone : (c : CodeFunction) (n next : ℕ) → (next + 1 ≡ n → ⊥) → (next + 1 == n) ≡ falls c n next
unfolding falls
falls_to_next_alone c n next apart =
    let no = ne_eqb (next + 1) n apart in
    no ∙ ap (λ z. z && not (is_join c next)) (sym no)
