use Rattle.std.proofs.Common.{◌≡◌, ◌≤◌, ℕ, Bool, true, false, not, ap, min, length, Option, Some, None, sym, arith}
use Rattle.std.specs.Prelude.{is_some, unwrap_or}
use Rattle.sb_outside.proofs.Held.{writes_all, writes_part}
use Rattle.sb_outside.proofs.memory_files.MemFilesFiles.write.Goals as goal

-- a call that is not listed keeps all, where there is room
keeps_all : (listed : Option ℕ) (none : Bool) (len told kept room : ℕ) → is_some listed ≡ not none → none ≡ true
    → told ≡ min (unwrap_or listed len) len → kept ≡ min told room → len ≤ room → len ≤ kept
keeps_all None none len told kept room is here is_told is_kept fits = omega arith
keeps_all (Some k) none len told kept room is here is_told is_kept fits = let no : not none ≡ false = ap not here in cc

pub returns-then-bytes-room-clause-content : goal.returns-then-bytes-room-clause-content
returns-then-bytes-room-clause-content c =
    let bytes = c.args.bytes.now in
    let kept = c.min-kept.result in
    let all : length bytes ≤ kept = keeps_all _ c.is_none.result _ _ _ _ c.is_none.ensures c.if-is_none.true
    c.kept_of.ensures c.min-kept.ensures c.if-bytes-room.true in
    writes_all _ c.put_into-there.new.files.items c.args.name.now bytes kept c.put_into-there.ensures.files all
    (sym c.if-there.ensures.there)

pub returns-clause-content : goal.returns-clause-content
returns-clause-content c = writes_part _ c.put_into-there.new.files.items c.args.name.now c.args.bytes.now
    c.min-kept.result c.put_into-there.ensures.files
