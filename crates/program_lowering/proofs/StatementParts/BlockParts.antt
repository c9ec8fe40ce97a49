-- Blocks that are entered and left.
use Rattle.std.proofs.Common.{◌≡◌, ℕ, ◌*◌, Bool, true, false, List, [], ◌∷◌, ◌++◌, length, Option, Some, None}
use Rattle.std.proofs.Common.{refl, sym, ap, ◌∙◌, subst, arith}
use Rattle.c_tree.specs.declared.program.Variable.{Variable}
use Rattle.c_tree.specs.Blocks.{block_objects}
use Rattle.source_meaning.specs.Blocks.{has_objects}
use Rattle.tac_ir.specs.declared.instruction.Instruction.TheVariants as tac
use Rattle.c_lower.specs.Placed.{Placed}
use Rattle.c_lower.specs.Statements.{HasNumber, has_objects_of}
use Rattle.program_lowering.specs.declared.expressions.emitter.Emitter.{Emitter}
use Rattle.program_lowering.specs.ExpressionCode.Emitted.{Added}
use Rattle.program_lowering.proofs.ExpressionCode.Leading.{added_adds, adds_before}
use Rattle.program_lowering.proofs.ExpressionCode.Leading.{leads_none, leads_all, leads_added, leads_behind, added_stays, closed_then}
use Rattle.program_lowering.proofs.ExpressionCode.Growing.{emits_none, emits_then, added_emits, added_holds}
use Rattle.program_lowering.proofs.ExpressionCode.Growing.{fills_before}
use Rattle.program_lowering.proofs.ExpressionCode.Growing.{same_emits, stays_by, one_more, has_last}
use Rattle.program_lowering.specs.declared.parts.exits.Exits.{Exits}
use Rattle.program_lowering.specs.StatementParts.Code.{BlockAdded, EntryCode, WaysOut, LeavingCode}
use Rattle.program_lowering.specs.StatementParts.Weights.{weight_where, left_weight}

pub block_added : (a b : Emitter) (numbers : List ℕ) (n : ℕ) → b.code.items ≡ a.code.items → b.keys.items ≡ a.keys.items
    → b.blocks.items ≡ a.blocks.items ++ numbers ∷ [] → b.loops.items ≡ a.loops.items → b.texts.items ≡ a.texts.items
    → b.literals.items ≡ a.literals.items → n ≡ length a.blocks.items → BlockAdded a b numbers n
block_added a b numbers n code keys blocks loops texts literals at = record {
  emits = same_emits a b code (stays_by a.keys.items b.keys.items keys)
      (one_more a.blocks.items b.blocks.items numbers blocks)
      (stays_by a.loops.items b.loops.items loops) (stays_by a.texts.items b.texts.items texts) literals;
  same = record { code = code; loops = loops };
  is = λ c f. f.blocks n numbers (has_last a.blocks.items b.blocks.items numbers n blocks at);
}

-- by whether there are objects
same_objects : (vs : List Variable) (numbers : List ℕ) (h : Bool) (c : Placed) → h
    ≡ has_objects (block_objects vs numbers)
    → c.variables ≡ vs → h ≡ has_objects_of c numbers
same_objects vs numbers h c e v = e ∙ ap (λ w. has_objects (block_objects w numbers)) (sym v)

weight_by : (vs : List Variable) (numbers : List ℕ) (h : Bool) (n : ℕ)
    → h ≡ has_objects (block_objects vs numbers) → (q : Bool) → h ≡ q
    → weight_where q n ≡ weight_where (has_objects (block_objects vs numbers)) n
weight_by vs numbers h n e q t = ap (λ o. weight_where o n) (sym t ∙ e)

entry_there : {a b : Emitter} {block line n next : ℕ} → Added a b n (tac.EnterBlock block line next)
    → EntryCode a b (Some block) line n next
entry_there i = record {
  emits = added_emits 0 i (omega arith) (λ ts w. refl);
  leads = leads_added i;
  stands = λ p f. added_holds i tt f;
}

pub entry_of : {a b : Emitter} {block line n next : ℕ} {o : Option ℕ} → o ≡ Some block
    → Added a b n (tac.EnterBlock block line next) → EntryCode a b o line n next
entry_of {a = a} {b = b} {line = line} {n = n} {next = next} e i =
    subst (λ q. EntryCode a b q line n next) (sym e) (entry_there i)

pub entry_none : {a : Emitter} {line next : ℕ} → EntryCode a a None line next next
entry_none = record { emits = emits_none 0 (λ w. refl); leads = leads_none; stands = λ p f. refl }

pub ways_out : {a b c d e : Emitter} {block : ℕ} {y x : Exits} → Added a b y.next (tac.LeaveBlock block x.next)
    → Added b c y.breaks (tac.LeaveBlock block x.breaks) → Added c d y.continues (tac.LeaveBlock block x.continues)
    → Added d e y.returns (tac.LeaveBlock block x.returns) → WaysOut a e block x y
ways_out {y = y} {x = x} i j k l =
    let ej = added_emits 0 j (omega arith) (λ ts w. refl) in
    let ek = added_emits 0 k (omega arith) (λ ts w. refl) in
    let el = added_emits 0 l (omega arith) (λ ts w. refl) in
    let ei = added_emits 0 i (omega arith) (λ ts w. refl) in
    let two = emits_then 0 (λ w. 2 * w.leave_block) ei ej (omega arith) (omega arith) (λ w. omega arith) in
    let three = emits_then 0 (λ w. 3 * w.leave_block) two ek (omega arith) (omega arith) (λ w. omega arith) in
    record {
      emits = emits_then 0 (λ w. 4 * w.leave_block) three el (omega arith) (omega arith) (λ w. omega arith);
      leads = record {
        bodies = adds_before (added_adds i)
            (adds_before (added_adds j) (adds_before (added_adds k) (added_adds l)));
        by = λ ss s o.
            let p = added_stays i s (o.0, tt) in
            let q = added_stays j p.0.closed (p.0.opens x.breaks o.1.0, tt) in
            let two' = closed_then p.0 q.0 in
            let r = added_stays k q.0.closed (two'.opens x.continues o.1.1.0, tt) in
            let three' = closed_then two' r.0 in
            let t = added_stays l r.0.closed (three'.opens x.returns o.1.1.1.0, tt) in (
              closed_then three' t.0,
              (
                t.0.opens y.next (r.0.opens y.next (q.0.opens y.next p.1)),
                (t.0.opens y.breaks (r.0.opens y.breaks q.1), (t.0.opens y.continues r.1, (t.1, tt))),
              ),
            );
      };
      stands = λ p f.
          let fl = fills_before el f in
          let fk = fills_before ek fl in
          let fj = fills_before ej fk in
          (added_holds i tt fj, added_holds j tt fk, added_holds k tt fl, added_holds l tt f);
    }

pub leave_there : {vs : List Variable} {numbers : List ℕ} {h : Bool} {a b c : Emitter} {block : ℕ} {x y : Exits}
    → h ≡ has_objects (block_objects vs numbers) → h ≡ true → BlockAdded a b numbers block → WaysOut b c block x y
    → LeavingCode vs a c numbers x (record { block = Some block; exits = y })
leave_there {vs = vs} {numbers = numbers} {h = h} {block = block} q t k l = record {
  emits = emits_then 0 (left_weight vs numbers) k.emits l.emits (omega arith) (omega arith)
      (λ w. omega (arith, weight_by vs numbers h (4 * w.leave_block) q true t));
  leads = leads_behind k.same l.leads;
  numbered = λ p v f.
      subst (λ o. HasNumber p o numbers (Some block)) (sym t ∙ same_objects vs numbers h p q v)
      (k.is p (fills_before l.emits f));
  stands = λ p f. l.stands p f;
  weighs = λ w. weight_by vs numbers h w.enter_block q true t;
}

pub leave_none : {vs : List Variable} {numbers : List ℕ} {h : Bool} {a : Emitter} {x : Exits}
    → h ≡ has_objects (block_objects vs numbers) → h ≡ false
    → LeavingCode vs a a numbers x (record { block = None; exits = x })
leave_none {vs = vs} {numbers = numbers} {h = h} q t = record {
  emits = emits_none 0 (λ w. sym (weight_by vs numbers h (4 * w.leave_block) q false t));
  leads = leads_all;
  numbered = λ p v f. subst (λ o. HasNumber p o numbers None) (sym t ∙ same_objects vs numbers h p q v) tt;
  stands = λ p f. refl;
  weighs = λ w. weight_by vs numbers h w.enter_block q false t;
}

pub ruleset tables = (block_added)

pub ruleset entering = (entry_none)

pub ruleset ways = (ways_out)

pub ruleset leaving = (leave_there, leave_none)
