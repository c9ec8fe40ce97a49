-- The declarators of a declaration add objects and names of types to what a file says as a whole, and nothing else (C99
-- 6.7, 6.9.2).
use Rattle.std.proofs.Common.{◌≡◌, Bool, true, false, ◌&&◌, ◌||◌, refl, ◌∙◌, List, [], ◌∷◌, Option, Some, None}
use Rattle.std.proofs.Common.{if◌then◌else◌}
use Rattle.std.specs.Prelude.{is_some, not}
use Rattle.c_syntax.specs.declared.position.Position.{Position}
use Rattle.c_syntax.specs.Formed as formed
use Rattle.c_syntax.specs.Statements as t
use Rattle.c_facts.specs.Facts.{Found}
use Rattle.c_facts.specs.Facts as facts
use Rattle.c_scope.specs.Environment.{Facts}
use Rattle.c_scope.specs.Names.{Name, bound}

-- whatever is no object of the file
module _ {A : Type 0} (of : Facts → A)
    (kept : (x : Facts) (name : Name) → of (record x { objects = bound name true x.objects }) ≡ of x) where
  object_kept : (b : Bool) (name : Name) (q : Found) → of (facts.with_object b name q).facts ≡ of q.facts
  object_kept true name q = kept q.facts name
  object_kept false name q = refl

  name_kept : (h : facts.Heading) (b i : Bool) (name : Option Name) (q : Found)
      → of (facts.with_name h b i name q).facts ≡ of q.facts
  name_kept h b i None q = refl
  name_kept h b i (Some name) q = by h.is_typedef
    where
      by : (x : Bool) → of (if x then record q { types = bound name b q.types }
          else facts.with_object (not b && (not h.has_extern || i)) name q).facts ≡ of q.facts
      by true = refl
      by false = object_kept (not b && (not h.has_extern || i)) name q

  declarator_kept : (h : facts.Heading) (d : t.InitDeclarator) (q : Found)
      → of (facts.with_declarator h d q).facts ≡ of q.facts
  declarator_kept h d q =
      name_kept h (facts.declares_function h.is_function d.declarator) (is_some d.initializer)
      (formed.declared d.declarator) q

  more_kept : (h : facts.Heading) (ds : List (Position × t.InitDeclarator)) (q : Found)
      → of (facts.with_more h ds q).facts ≡ of q.facts
  more_kept h [] q = refl
  more_kept h (d ∷ ds) q = more_kept h ds (facts.with_declarator h d.1 q) ∙ declarator_kept h d.1 q

  pub declarators_keep_facts : (h : facts.Heading) (ds : Option t.InitDeclarators) (q : Found)
      → of (facts.with_declarators h ds q).facts ≡ of q.facts
  declarators_keep_facts h None q = refl
  declarators_keep_facts h (Some ds) q =
      more_kept h ds.others (facts.with_declarator h ds.first q) ∙ declarator_kept h ds.first q
