-- How many members and parameters lists have.
use Rattle.std.proofs.Common.{◌≡◌, ◌+◌, ◌<◌, ℕ, suc, List, [], ◌∷◌, length, drop, get_or}
use Rattle.std.proofs.lemmas.List.{drop_more}
use mathlib.Core.Path.{◌∙◌, ap, refl, sym}
use Rattle.c_syntax.specs.declared.position.Position.{Position}
use Rattle.c_syntax.specs.declared.tree.Declarator as rd
use Rattle.c_syntax.specs.declared.tree.Member as rm
use Rattle.c_syntax.specs.declared.tree.TypedDeclarator as rt
use Rattle.c_syntax.specs.View.{members_in, more_declarators_in, more_parameters_in}
use Rattle.c_syntax.proofs.MemberView.{member_view}
use Rattle.c_counts.specs.Counts as counts

further_is : (ds : List (Position × rd.Declarator)) → counts.further (more_declarators_in ds) ≡ length ds
further_is [] = refl
further_is (d ∷ ds) = ap suc (further_is ds)

declared_by : (m : rm.Member) (ms : List rm.Member) (ds : List (Position × rd.Declarator)) → ds ≡ m.others
    → counts.members_in (members_in (m ∷ ms)) ≡ suc (length ds) + counts.members_in (members_in ms)
declared_by m ms ds e = ap (λ x. counts.declared_in x + counts.members_in (members_in ms)) (member_view m)
    ∙ ap (λ n. suc n + counts.members_in (members_in ms)) (further_is m.others)
    ∙ ap (λ xs. suc (length xs) + counts.members_in (members_in ms)) (sym e)

pub others_are : (ps : List (Position × rt.TypedDeclarator)) → counts.others (more_parameters_in ps) ≡ length ps
others_are [] = refl
others_are (p ∷ ps) = ap suc (others_are ps)

pub declared_at : (ms : List rm.Member) (i : ℕ) (m : rm.Member) (ds : List (Position × rd.Declarator)) → i < length ms
    → m ≡ get_or ms i m → ds ≡ m.others
    → counts.members_in (members_in (drop i ms)) ≡ suc (length ds) + counts.members_in (members_in (drop (i + 1) ms))
declared_at ms i m ds low is e =
    ap (λ xs. counts.members_in (members_in xs)) (drop_more ms i m low)
    ∙ ap (λ x. counts.members_in (members_in (x ∷ drop (i + 1) ms))) (sym is)
    ∙ declared_by m (drop (i + 1) ms) ds e
