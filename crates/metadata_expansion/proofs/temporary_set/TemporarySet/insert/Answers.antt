use Rattle.std.proofs.Common.{◌/◌, ◌%◌, ◌==◌, ◌<◌, length, ap, ◌∙◌, w64, arith, refl}
use Rattle.std.proofs.lemmas.Nat.Bits.{bit_at_set_same, bit_at_set_other}
use Rattle.std.specs.Int.{bit_at}
use Rattle.metadata_expansion.proofs.TemporaryWords.{bit_written, others_kept, any_default}
use Rattle.metadata_expansion.proofs.temporary_set.TemporarySet.insert.Goals as goal

pub returns-clause-has : goal.returns-clause-has
returns-clause-has c =
    let x = c.args.temporary in
    let low = c.requires in
    ap (λ b. b == 1) (bit_written c.args.self.now.words.items (x / 64) _ x (omega (arith, low)) refl
    ∙ bit_at_set_same w64 c.index_mut.result.now (x % 64) (omega arith))

pub returns-clause-others : goal.returns-clause-others
returns-clause-others c = λ y other.
    let x = c.args.temporary in
    let low = c.requires in
    let inside : x / 64 < length c.args.self.now.words.items = omega (arith, low) in
    ap (λ b. b == 1) (others_kept c.args.self.now.words.items x _ y inside (λ i in64 ne.
    bit_at_set_other w64 c.index_mut.result.now (x % 64) (omega arith) i ne
    ∙ ap (λ v. bit_at v i) (c.index_mut.ensures.value ∙ any_default _ _ _ inside)) other)
