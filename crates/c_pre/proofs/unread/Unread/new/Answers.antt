use Rattle.std.proofs.Common.{refl, sym, ap, subst, [], ◌∷◌, ◌∙◌, arith}
use Rattle.c_pre.specs.Pending.{above, AreKnown}
use Rattle.c_pre.specs.declared.hiding.Hiding.{Hiding}
use Rattle.c_pre.proofs.Heights.{all_both}
use Rattle.c_pre.proofs.Putting.{text_pushed}
use Rattle.c_pre.proofs.unread.Unread.new.Goals as goal

pub loop-n-preserved : goal.loop-n-preserved
loop-n-preserved c =
    let x : Hiding = record { token = c.on_line.result; hidden = record { number = 0 } } in
    let u = c.loop-n.unread in
    let new = c.push.new.self in
    record {
      same = ap (λ sets. above 0 sets new.tokens.items) c.in_ok-push.ensures.sets
          ∙ text_pushed u.sets u.tokens.items new.tokens.items x c.args.text.now c.loop-n.n
          c.index-text-n.result c.in_ok-push.ensures.tokens c.loop-n-test.true c.index-text-n.is
          c.loop-n.invariant.within c.on_line.ensures refl c.loop-n.invariant.same;
      known = subst (λ sets. AreKnown sets new.tokens.items) (sym c.in_ok-push.ensures.sets)
          (subst (λ items. AreKnown u.sets items) (sym c.in_ok-push.ensures.tokens)
          (all_both _ u.tokens.items (x ∷ []) c.loop-n.invariant.known (record { below = omega arith }, tt)));
      room = c.in_ok-push.ensures.room ∙ c.loop-n.invariant.room;
      within = omega (arith, c.loop-n.invariant.within);
    }
