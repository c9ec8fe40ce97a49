-- Vectors whose last item is the innermost, against lists whose first is.
use Rattle.std.proofs.Common.{◌≡◌, ℕ, ◌+◌, List, [], ◌∷◌, ◌++◌, length, refl, ap, ◌∙◌, arith}
use Rattle.c_pre.specs.declared.section.IfSection.{IfSection}
use Rattle.c_pre.specs.declared.fault.PreFaultKind.TheVariants.{Unclosed}
use Rattle.c_pre.specs.Trace.{fails}
use Rattle.c_pre.specs.Sections.{outermost, finished}
use Rattle.c_pre.specs.InnerFirst.{onto, inner_first}

onto-last : {A : Type 0} (xs : List A) (x : A) (done : List A) → onto (xs ++ x ∷ []) done ≡ x ∷ onto xs done
onto-last [] x done = refl
onto-last (y ∷ xs) x done = onto-last xs x (y ∷ done)

-- the last item of the vector is the innermost
pub last_is_inner : {A : Type 0} (xs : List A) (x : A) → inner_first (xs ++ x ∷ []) ≡ x ∷ inner_first xs
last_is_inner xs x = onto-last xs x []

outermost-last : (line : ℕ) (inner : List IfSection) (section : IfSection)
    → outermost line (inner ++ section ∷ []) ≡ section.line
outermost-last line [] section = refl
outermost-last line (x ∷ inner) section = outermost-last x.line inner section

finished-last : (inner : List IfSection) (section : IfSection)
    → finished (inner ++ section ∷ []) ≡ fails section.line Unclosed
finished-last [] section = refl
finished-last (x ∷ inner) section = ap (λ line. fails line Unclosed) (outermost-last x.line inner section)

finished-onto : (xs inner : List IfSection) (section : IfSection)
    → finished (onto xs (inner ++ section ∷ [])) ≡ fails section.line Unclosed
finished-onto [] inner section = finished-last inner section
finished-onto (x ∷ xs) inner section = finished-onto xs (x ∷ inner) section

-- the first item of the vector is the section that was opened first
pub first_is_outermost : (section : IfSection) (more : List IfSection)
    → finished (inner_first (section ∷ more)) ≡ fails section.line Unclosed
first_is_outermost section more = finished-onto more [] section

length-onto : {A : Type 0} (xs done : List A) → length (onto xs done) ≡ length xs + length done
length-onto [] done = omega arith
length-onto (x ∷ xs) done = length-onto xs (x ∷ done) ∙ omega arith

pub length_inner : {A : Type 0} (xs : List A) → length (inner_first xs) ≡ length xs
length_inner xs = length-onto xs [] ∙ omega arith
