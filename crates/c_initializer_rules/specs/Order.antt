-- Steps that lead to one subobject behind another. Where those of each part lead behind those of the part before,
-- nothing is overridden by an initializer whose steps lead behind those of the last.
use Rattle.std.specs.Prelude.{Bool, true, false, not, ◌&&◌, ◌==◌, nat_lt, if◌then◌else◌, List, [], ◌∷◌}
use Rattle.std.specs.Prelude.{Option, Some, None}
use Rattle.c_current_object.specs.declared.subobject.Step.{Step}

abbrev pub same_step : Step → Step → Bool
same_step s u = s.number == u.number && (if s.is_union then u.is_union else not u.is_union)

-- whether the one lead behind the other, and no union holds both subobjects
abbrev pub leads_behind : (now before : List Step) → Bool
leads_behind [] before = false
leads_behind (s ∷ now) [] = false
leads_behind (s ∷ now) (u ∷ before) =
    if same_step s u then leads_behind now before else nat_lt u.number s.number && not s.is_union

abbrev pub leads_behind_if : (now : List Step) → Option (List Step) → Bool
leads_behind_if now None = true
leads_behind_if now (Some before) = leads_behind now before

abbrev pub last_of : List (List Step) → Option (List Step)
last_of [] = None
last_of (p ∷ []) = Some p
last_of (p ∷ q ∷ ps) = last_of (q ∷ ps)

abbrev pub leads_behind_last : (now : List Step) → List (List Step) → Bool
leads_behind_last now paths = leads_behind_if now (last_of paths)

abbrev pub are_in_order : List (List Step) → Bool
are_in_order [] = true
are_in_order (p ∷ []) = true
are_in_order (p ∷ q ∷ ps) = leads_behind q p && are_in_order (q ∷ ps)
