-- Files that are accepted: what holds behind their declarations and definitions.
use Rattle.std.proofs.Common.{◌≡◌, ℕ, ◌+◌, Bool, true, false, refl, ap, ◌∙◌, subst, List, Option, Some}
use Rattle.std.proofs.Common.{None, if◌then◌else◌, arith}
use Rattle.std.specs.Prelude.{Ok, Err, codes, nat_lt}
use Rattle.std.proofs.lemmas.Bool.{ltb-true}
use Rattle.c_syntax.specs.Statements as t
use Rattle.c_faults.specs.declared.fault.Rule.TheVariants.{NoMain}
use Rattle.c_faults.specs.Answer.{Answer, violates, ◌>>=◌}
use Rattle.c_facts.specs.Facts.{facts_in}
use Rattle.c_scope.specs.Environment.{Facts}
use Rattle.c_scope.specs.Names.{declared}
use Rattle.c_scope.specs.Start.{start}
use Rattle.c_unit_typing.specs.Files.{File}
use Rattle.c_unit_typing.specs.Units.{all_defined, ended, externals, file_before, file_with, is_main}
use Rattle.typing_laws.specs.Declarators.Extending.{below, one_if}
use Rattle.typing_laws.specs.Scopes.Regular.{are_regular_externals}
use Rattle.typing_laws.proofs.Scopes.Start.{file_formed}
use Rattle.program_laws.specs.Files.Numbers.{objects_at, owners}
use Rattle.program_laws.proofs.Files.Files.{AddsOutside, IfAddsOutside, IsOutside, externals_add}

-- the start

no_objects : (n : ℕ) (facts : Facts) → objects_at n (start facts).entities ≡ 0
unfolding start
no_objects n facts = refl

no_statics : (facts : Facts) → (start facts).statics ≡ 0
unfolding start
no_statics facts = refl

pub file_outside : (objects : Option (List (List Bool))) (facts : Facts) → IsOutside (file_before objects facts)
unfolding start
file_outside objects facts = record { formed = file_formed objects facts; linked = refl; file = refl }

-- the end

pub record IsEnded (f : File) : Type 0 where
  pub main : is_main (declared (codes "main") f.state.environment.entities) ≡ true
  pub used : f.state.undefined ≡ None

abbrev pub answer : {A : Type 0} → A → Answer A
answer x = Ok x

pub same_ok : {A : Type 0} (x y : A) → answer x ≡ answer y → x ≡ y
same_ok x y e = cc

used_by : (f g : File) (o : Option ℕ) → g.state.undefined ≡ o → all_defined o g ≡ Ok f
    → (g ≡ f) × (g.state.undefined ≡ None)
used_by f g None e is = (same_ok g f is, e)
used_by f g (Some line) e is = absurd cc

ended_by : (f g : File) (end : ℕ) (b : Bool)
    → is_main (declared (codes "main") g.state.environment.entities) ≡ b
    → (if b then all_defined g.state.undefined g else violates NoMain end) ≡ Ok f → (g ≡ f) × IsEnded g
ended_by f g end true e is =
    let h = used_by f g g.state.undefined refl is in (h.0, record { main = e; used = h.1 })
ended_by f g end false e is = absurd cc

pub ended_is : (f g : File) (end : ℕ) → ended end g ≡ Ok f → (g ≡ f) × IsEnded g
ended_is f g end is = ended_by f g end (is_main (declared (codes "main") g.state.environment.entities)) refl is

-- what holds behind whatever is declared and defined holds at the end
pub behind_all : (P : File → Type 0) (f : File) (end : ℕ) (a : Answer (File × Unit {0}))
    → ((g : File) → a ≡ Ok (g, tt) → IsEnded g → P g) → (a >>= λ r. ended end r.0) ≡ Ok f → P f
behind_all P f end (Ok r) h is = let e = ended_is f r.0 end is in subst P e.0 (h r.0 refl e.1)
behind_all P f end (Err e) h is = absurd cc

nothing_below : (n : ℕ) → below n 0 ≡ 0
nothing_below n = by (nat_lt n 0) refl
  where
    by : (b : Bool) → nat_lt n 0 ≡ b → one_if b ≡ 0
    by true e = absurd (let low = ltb-true n 0 e in omega arith)
    by false e = refl

abbrev pub OwnsAll : File → Type 0
OwnsAll f = (n : ℕ) → owners n f ≡ below n f.state.environment.statics

owned_up : (own before first objects after : ℕ) → own + before ≡ first + after → before ≡ 0 → objects ≡ 0
    → first ≡ 0 + 0 + objects + 0 → own ≡ after
owned_up own before first objects after e g h i = omega (arith, e, g, h, i)

owned : (objects : Option (List (List Bool))) (facts : Facts) (g : File) → AddsOutside (file_before objects facts) g
    → OwnsAll g
owned objects facts g h n =
    owned_up _ _ _ (objects_at n (start facts).entities) _ (h.adds.numbers n)
    (ap (below n) (no_statics facts) ∙ nothing_below n) (no_objects n facts) refl

owns_by : (objects : Option (List (List Bool))) (facts : Facts) (g : File) (a : Answer (File × Unit {0}))
    → IfAddsOutside (file_before objects facts) a → a ≡ Ok (g, tt) → OwnsAll g
owns_by objects facts g (Ok r) h e = subst OwnsAll (ap (λ z. z.0) (same_ok r (g, tt) e)) (owned objects facts r.0 h)
owns_by objects facts g (Err f) h e = absurd cc

pub owns_all : (objects : Option (List (List Bool))) (end : ℕ) (es : List t.External) (f : File)
    → are_regular_externals es ≡ true → file_with objects end es ≡ Ok f → OwnsAll f
owns_all objects end es f c is =
    let before = file_before objects (facts_in es) in
    behind_all OwnsAll f end (externals es before)
    (λ g e h. owns_by objects (facts_in es) g (externals es before)
    (externals_add es c before (file_outside objects (facts_in es))) e) is
