use Rattle.std.proofs.Common.{◌≡◌, List, [], ◌∷◌, true, false, Some, None, rules, arith, refl, sym, ap, ◌∙◌}
use Rattle.std.specs.Prelude.{slice_get, drop}
use Rattle.sb_outside.proofs.Takings.{untaken, took, took_first, took_rest}
use Rattle.rv_sim.specs.Memory.{may_write}
use Rattle.rv_isa.specs.Registers.{a0, a1, a2}
use Rattle.rv_sim.specs.Run.{with_byte, read_call}
use Rattle.rv_sim.specs.State.{register}
use Rattle.rv_sim.specs.Step.{gives}
use Rattle.rv_sim.proofs.Calls.{asks_byte, read_none, read_some}
use Rattle.rv_sim.proofs.call.read.Goals as goal

pub returns-then-descriptor-ne0-clause-told : goal.returns-then-descriptor-ne0-clause-told
unfolding read_call
returns-then-descriptor-ne0-clause-told g c = untaken _ _ (λ left now s i. search rules)

pub returns-then-not-has_room-clause-told : goal.returns-then-not-has_room-clause-told
unfolding read_call
returns-then-not-has_room-clause-told g c = untaken _ _ (λ left now s i. search rules)

pub returns-in-None-clause-told : goal.returns-in-None-clause-told
returns-in-None-clause-told g c =
    let content = rw c.in-None.is at c.in-Ok.ensures.content in
    record {
      taken = [];
      took = took _ _ _ content;
      holds = λ rest given now same is.
          let d : c.register-descriptor.result ≡ register now.state a0 = cc in
          let k : c.register-count.result ≡ register now.state a2 = cc in
          let a : c.register-buffer.result ≡ register now.state a1 = cc in
          let room : may_write now.state.memory c.register-buffer.result c.register-count.result ≡ true = cc in
          let asks = asks_byte now _ _ _ d k a (cc) c.if-count-eq0.false room in
          read_none now _ rest asks (took_first _ _ None rest content given ∙ ap (λ l. slice_get l 0) is)
          (c.answer-in-None.ensures ∙ ap (λ s. (gives s a0 0).0) same) is;
    }

pub returns-in-Some-clause-told : goal.returns-in-Some-clause-told
returns-in-Some-clause-told g c =
    let byte = c.in-Some.byte in
    let content = rw c.in-Some.is at c.in-Ok.ensures.content in
    record {
      taken = byte ∷ [];
      took = took _ _ _ content;
      holds = λ rest given now same is.
          let d : c.register-descriptor.result ≡ register now.state a0 = cc in
          let k : c.register-count.result ≡ register now.state a2 = cc in
          let a : c.register-buffer.result ≡ register now.state a1 = cc in
          let room : may_write now.state.memory c.register-buffer.result c.register-count.result ≡ true = cc in
          let asks = asks_byte now _ _ _ d k a (cc) c.if-count-eq0.false room in
          let put : c.put_byte.new.self ≡ with_byte now.state (register now.state a1) byte = c.put_byte.ensures
          ∙ ap (λ s. with_byte s c.register-buffer.result byte) same ∙ ap (λ b. with_byte now.state b byte) a in
          read_some now byte _ _ rest asks (ap (λ l. slice_get l 0) is) (ap (drop 1) (sym is))
          put c.answer-in-Some.ensures;
    }
