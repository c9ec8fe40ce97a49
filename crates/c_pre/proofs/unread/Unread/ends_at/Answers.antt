use Rattle.std.proofs.Common.{◌≡◌, ◌<◌, length, arith}
use Rattle.c_pre.proofs.ArgumentEnds.{as_many, ends_read}
use Rattle.c_pre.proofs.unread.Unread.ends_at.Goals as goal

pub index-requires : goal.index-requires
index-requires c =
    let u = c.args.self.now in
    let many : length u.ends.items ≡ length u.tokens.items = as_many u.tokens.items u.ends.items u.ends_are in
    let some : 0 < c.args.height = omega (arith, c.if-height-eq0.false) in
    omega (arith, many, some, c.requires)

pub returns : goal.returns
returns c =
    let u = c.args.self.now in
    ends_read c.args.height u.tokens.items u.ends.items c.index.result.now u.ends_are
    (omega (arith, c.if-height-eq0.false)) c.requires c.index.ensures
