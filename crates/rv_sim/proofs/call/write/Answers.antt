use Rattle.std.proofs.Common.{◌≡◌, true, is_err, Some, arith, refl, inl, inr}
use Rattle.rv_isa.specs.Registers.{a0, a1, a2}
use Rattle.rv_sim.specs.State.{register}
use Rattle.rv_sim.specs.Memory.{bytes_at}
use Rattle.rv_sim.proofs.Calls.{sends, sends_to, cut_output, cut_errors, on_err}
use Rattle.rv_sim.proofs.call.write.Goals as goal

pub returns-then-is_err-clause-told : goal.returns-then-is_err-clause-told
returns-then-is_err-clause-told g c = λ o e now m out err.
    let d : register now.state a0 ≡ 1 = cc in
    let k : c.register-count.result ≡ register now.state a2 = cc in
    let a : c.register-buffer.result ≡ register now.state a1 = cc in
    let b : bytes_at now.state.memory c.register-buffer.result c.register-count.result
    ≡ Some c.in-Some.bytes.now = rw m at c.in-Some.ensures in
    let f : is_err c.put.result ≡ true = cc in
    let cut = cut_output o e now c.in-Some.bytes.now c.put.result _ _ _ d
    (sends now c.in-Some.bytes.now _ _ k a c.if-count-eq0.false b) out f c.put.ensures.err err in
    (m, cut.output_part, cut.errors_part)

pub returns-then-is_err-2-clause-told : goal.returns-then-is_err-2-clause-told
returns-then-is_err-2-clause-told g c = λ o e now m out err.
    let q : c.register-descriptor.result ≡ register now.state a0 = cc in
    let d : register now.state a0 ≡ 2 = grind (arith, c.else-descriptor-ne1.either) in
    let k : c.register-count.result ≡ register now.state a2 = cc in
    let a : c.register-buffer.result ≡ register now.state a1 = cc in
    let b : bytes_at now.state.memory c.register-buffer.result c.register-count.result
    ≡ Some c.in-Some.bytes.now = rw m at c.in-Some.ensures in
    let f : is_err c.put-else-descriptor-eq1.result ≡ true = cc in
    let cut = cut_errors o e now c.in-Some.bytes.now c.put-else-descriptor-eq1.result _ _ _ d
    (sends now c.in-Some.bytes.now _ _ k a c.if-count-eq0.false b) err f c.put-else-descriptor-eq1.ensures.err
    out in
    (m, cut.output_part, cut.errors_part)

pub returns-then-is_err-clause-counts : goal.returns-then-is_err-clause-counts
returns-then-is_err-clause-counts g c =
    let s = c.args.state.now in
    let d : register s a0 ≡ 1 = cc in
    let k : c.register-count.result ≡ register s a2 = cc in
    let a : c.register-buffer.result ≡ register s a1 = cc in
    let f : is_err c.put.result ≡ true = cc in
    inl (
      sends_to s 1 _ _ c.in-Some.bytes.now c.requires d k a c.if-count-eq0.false c.in-Some.ensures,
      on_err _ _ f
          c.put.ensures.cause.failed,
      refl,
    )

pub returns-then-is_err-2-clause-counts : goal.returns-then-is_err-2-clause-counts
returns-then-is_err-2-clause-counts g c =
    let s = c.args.state.now in
    let q : c.register-descriptor.result ≡ register s a0 = cc in
    let d : register s a0 ≡ 2 = grind (arith, c.else-descriptor-ne1.either) in
    let k : c.register-count.result ≡ register s a2 = cc in
    let a : c.register-buffer.result ≡ register s a1 = cc in
    let f : is_err c.put-else-descriptor-eq1.result ≡ true = cc in
    inr (
      sends_to s 2 _ _ c.in-Some.bytes.now c.requires d k a c.if-count-eq0.false c.in-Some.ensures,
      refl,
      on_err _ _
          f c.put-else-descriptor-eq1.ensures.cause.failed,
    )
