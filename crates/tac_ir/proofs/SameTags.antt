-- Tags that are the same allow the same accesses.
use Rattle.std.proofs.Common.{◌≡◌, ℕ, ◌+◌, true, refl, ap, ◌∙◌}
use Rattle.std.specs.Prelude.{◌&&◌, ◌==◌, nat_le}
use Rattle.std.proofs.lemmas.Bool.{eqb-true}
use Rattle.obj_memory.specs.declared.value.Tag.{Tag}
use Rattle.obj_memory.specs.declared.value.Tag.TheVariants.{Untagged, OfFunction, OfObject}
use Rattle.obj_memory.specs.Objects.{Objects, object_at}
use Rattle.source_meaning.specs.Judging.{is_within, is_live_tag}
use Rattle.source_meaning.proofs.ValidNames.{both}
use Rattle.tac_ir.specs.Keys.{same_tag}

pub same_bounds : (a b : Tag) → same_tag a b ≡ true → (w size : ℕ) → is_within a w size ≡ is_within b w size
same_bounds Untagged Untagged e w size = refl
same_bounds (OfFunction f) (OfFunction h) e w size = refl
same_bounds (OfObject n b) (OfObject m c) e w size =
    let two = both (n == m) (b.base == c.base && b.bound == c.bound) e in
    let bounds = both (b.base == c.base) (b.bound == c.bound) two.1 in
    ap (λ x. nat_le x w && nat_le (w + size) b.bound) (eqb-true b.base c.base bounds.0)
    ∙ ap (λ x. nat_le c.base w && nat_le (w + size) x) (eqb-true b.bound c.bound bounds.1)
same_bounds a b e w size = cc

pub same_life : (a b : Tag) → same_tag a b ≡ true → (objects : Objects)
    → is_live_tag a objects ≡ is_live_tag b objects
same_life Untagged Untagged e objects = refl
same_life (OfFunction f) (OfFunction h) e objects = refl
same_life (OfObject n b) (OfObject m c) e objects =
    ap (λ x. (object_at objects x).is_live)
    (eqb-true n m (both (n == m) (b.base == c.base && b.bound == c.bound) e).0)
same_life a b e objects = cc
