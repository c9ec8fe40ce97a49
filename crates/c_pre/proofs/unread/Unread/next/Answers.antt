use Rattle.std.proofs.Common.{◌≡◌, ◌-◌, [], length, take, ap, sym, ◌∙◌, arith}
use Rattle.std.specs.Vec.{vec_len}
use Rattle.c_pre.specs.ArgumentEnds.{each_ends}
use Rattle.c_pre.proofs.ArgumentEnds.{as_many, ends_taken}
use Rattle.c_pre.proofs.unread.Unread.next.Goals as goal

pub invariant_of-self : goal.invariant_of-self
invariant_of-self c =
    let u = c.args.self.now in
    let many : length u.ends.items ≡ length u.tokens.items = as_many u.tokens.items u.ends.items u.ends_are in
    let of_ends : vec_len u.ends - 1 ≡ length u.tokens.items - 1 = omega (arith, many) in
    let of_tokens : length u.tokens.items - 1 ≡ vec_len u.tokens - 1 = omega arith in
    record {
      ends_are = c.pop.ensures.rest
          ∙ ap (λ n. take n u.ends.items) of_ends
          ∙ ends_taken (length u.tokens.items - 1) u.tokens.items u.ends.items u.ends_are
          ∙ ap (λ n. each_ends [] (take n u.tokens.items)) of_tokens
          ∙ ap (each_ends []) (sym c.pop-2.ensures.rest);
    }
