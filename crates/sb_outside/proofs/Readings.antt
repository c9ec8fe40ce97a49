-- What a bounded reading took from a reader that tells what it has left.
use Rattle.std.proofs.Common.{◌≡◌, ◌≤◌, ◌<◌, ◌+◌, ℕ, List, ◌++◌, length, take, Option, Some, None, Err, ap, ◌∙◌, arith}
use Rattle.std.proofs.Common.{length-append}
use Rattle.std.specs.Prelude.{IfSome}
use Rattle.std.specs.Io.KnownBytes.{Consumes}
use Rattle.sb_outside.specs.declared.files.FileFault.TheVariants.{TooLong}
use Rattle.sb_outside.specs.Content.{ReadsAtMost}

-- so many bytes of a chunk came behind those that were read, and are more than are asked for
pub too_many : (all between left : Option (List ℕ)) (bytes chunk : List ℕ) (count max : ℕ) → Consumes all between bytes
    → Consumes between left (take count chunk) → count ≡ length (take count chunk) → max < length bytes + count
    → length bytes + count ≤ max + 1
    → IfSome all (λ a. IfSome left (λ l. ReadsAtMost a l max (Err (TooLong (max + 1)))))
too_many None between left bytes chunk count max p q same more few = tt
too_many (Some a) None left bytes chunk count max p q same more few = absurd p
too_many (Some a) (Some b) None bytes chunk count max p q same more few = absurd q
too_many (Some a) (Some b) (Some l) bytes chunk count max p q same more few =
    let whole : length a ≡ length bytes + length b = ap length p ∙ length-append bytes b in
    let part : length b ≡ length (take count chunk) + length l = ap length q ∙ length-append (take count chunk) l in
    record {
      read = tt;
      too_long = λ n e. omega arith;
      taken = omega arith;
    }
