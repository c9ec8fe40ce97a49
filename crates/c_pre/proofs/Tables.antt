-- The table of macros, as a function of the name.
use Rattle.std.proofs.Common.{◌≡◌, Bool, true, false, cond, Option, option_map, refl, ap, ◌∙◌, if◌then◌else◌}
use Rattle.std.specs.Prelude.{bytes_eq}
use Rattle.indexmap.specs.IndexMap.{IndexMap, get, Updates}
use Rattle.c_pre.specs.declared.definition.Macro as declared
use Rattle.c_pre.specs.Names.{Name}
use Rattle.c_pre.specs.Reading.{redefined}
use Rattle.c_pre.specs.Outcomes.{macro_of, macros_of}

listed : (b : Bool) (w old : Option declared.Macro)
    → option_map macro_of (cond b w old) ≡ (if b then option_map macro_of w else option_map macro_of old)
listed true w old = refl
listed false w old = refl

-- one entry was changed
pub redefines : {S : Type 0} (old new : IndexMap Name declared.Macro S) (name : Name) (w : Option declared.Macro)
    → Updates bytes_eq old new name w
    → macros_of new ≡ redefined name (option_map macro_of w) (macros_of old)
redefines old new name w u =
    λ i. λ other. (ap (option_map macro_of) (u.0 other)
    ∙ listed (bytes_eq name other) w (get bytes_eq old other)) i
