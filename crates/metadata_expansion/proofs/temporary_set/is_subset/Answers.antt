use Rattle.std.proofs.lemmas.Bool.{eqb-true, eq-eqb}
use Rattle.metadata_expansion.proofs.TemporaryWords.{has_bits, together}
use Rattle.metadata_expansion.proofs.temporary_set.is_subset.Goals as goal

pub returns : goal.returns
returns c =
    let a = c.args.left in
    let b = c.args.right in (
      (λ e i low h. has_bits a b i (eqb-true _ _ e) h),
      λ h. eq-eqb _ _ (together a b c.ranges.left.fits c.ranges.right.fits h),
    )
