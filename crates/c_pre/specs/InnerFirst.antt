-- Vectors whose last item is the innermost, or the next.
use Rattle.std.specs.Prelude.{List, [], ◌∷◌}

abbrev pub onto : {A : Type 0} → List A → List A → List A
onto [] done = done
onto (x ∷ xs) done = onto xs (x ∷ done)

-- a vector whose last is the innermost, with the innermost first
abbrev pub inner_first : {A : Type 0} → List A → List A
inner_first xs = onto xs []
