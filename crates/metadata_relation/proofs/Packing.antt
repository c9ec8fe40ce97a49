-- Arguments are handed over packed, and stand in the registers of the parameters; all other registers of a function that
-- is entered are 0.
use Rattle.std.proofs.Common.{◌≡◌, inl, inr, ℕ, zero, suc, ◌+◌, ◌*◌, ◌<◌, ◌≤◌, Bool, true, false, List, []}
use Rattle.std.proofs.Common.{◌∷◌, ◌++◌, length, length-append, map, Some, None, refl, sym, ap, ◌∙◌, subst, arith}
use Rattle.std.proofs.Common.{get_or}
use Rattle.std.specs.Prelude.{◌==◌, if◌then◌else◌}
use Rattle.std.proofs.lemmas.Bool.{and_parts, eqb-true, eqb-false, false≢true}
use Rattle.obj_memory.specs.declared.value.Scalar.{Scalar}
use Rattle.obj_memory.specs.declared.value.Value.{Value}
use Rattle.c_tree.specs.declared.expression.Kind.{Kind}
use Rattle.c_tree.specs.declared.expression.Kind.TheVariants.{Void, Scalar as OfScalar, Structure, Array}
use Rattle.c_tree.specs.declared.program.Variable.{Variable}
use Rattle.source_meaning.specs.Good.{plain_type, scalar_if}
use Rattle.tac_ir.specs.declared.function.CodeFunction.{CodeFunction}
use Rattle.tac_ir.specs.Fitting.{is_passed, are_passed}
use Rattle.tac_ir.specs.Stage.{Temps, gathered}
use Rattle.flat_code.specs.declared.instruction.FlatInstruction.{FlatInstruction}
use Rattle.flat_code.specs.declared.instruction.FlatInstruction.TheVariants.{Constant, Move}
use Rattle.flat_code.specs.Memory.{put}
use Rattle.flat_code.specs.State as flat
use Rattle.flat_code.proofs.Stored.{put_same, put_other}
use Rattle.flat_code.specs.Routines.Metadata.{metadata_in}
use Rattle.flat_code.specs.Routines.Objects.StandsFor.{Spells}
use Rattle.flat_code.proofs.Routines.Words.{same_metadata}
use Rattle.runtime_functions.specs.Library.{Passed, NoValue, OneWord, WithEntry, register_count, held_from}
use Rattle.metadata_plan.specs.Registers.{most_temporaries}
use Rattle.metadata_relation.specs.Blocks.{pack_value, pack, zeros}
use Rattle.metadata_relation.specs.Holding.{World, IsHeldAt}
use Rattle.metadata_relation.specs.Registers.{passed_as, parameter_words, total, register_in}
use Rattle.metadata_relation.specs.Registers.{temporary_register, moved_register}
use Rattle.metadata_relation.proofs.Assigning.{assigned, are_assignments, moved}
use Rattle.metadata_relation.proofs.Registers.{count_of, count_in, plain_words, scalar_words}

-- ---- lists of constants and moves

pub assignments_append : (a b : List FlatInstruction) → are_assignments a ≡ true → are_assignments b ≡ true
    → are_assignments (a ++ b) ≡ true
assignments_append [] b e f = f
assignments_append (Constant x n ∷ a) b e f = assignments_append a b e f
assignments_append (Move x y ∷ a) b e f = assignments_append a b e f
assignments_append (i ∷ a) b e f = cc

pub assigned_append : (a b : List FlatInstruction) → are_assignments a ≡ true → (values : flat.Values)
    → assigned (a ++ b) values ≡ assigned b (assigned a values)
assigned_append [] b e values = refl
assigned_append (Constant x n ∷ a) b e values = assigned_append a b e _
assigned_append (Move x y ∷ a) b e values = assigned_append a b e _
assigned_append (i ∷ a) b e values = cc

-- ---- one argument

-- so many registers hold what others held, and those below them are as they were
pub record IsPlacedIn (into from count : ℕ) (values after : flat.Values) : Type 0 where
  pub at : (j : ℕ) → j < count → after (into + j) ≡ values (from + j)
  pub below : (y : ℕ) → y < into → after y ≡ values y
  pub above : (y : ℕ) → into + count ≤ y → after y ≡ values y

pub value_packed : (p : Passed) (r a : ℕ) (values : flat.Values) → a + 5 ≤ r
    → IsPlacedIn r a (register_count p) values (assigned (pack_value p r a) values)
value_packed NoValue r a values low =
    record { at = λ j lt. absurd (omega arith); below = λ y lt. refl; above = λ y le. refl }
value_packed OneWord r a values low = record {
  at = λ j lt. (let z : j ≡ 0 = omega arith in
      ap (λ k. put values r (values a) (r + k)) z ∙ ap (put values r (values a)) (omega arith)
      ∙ put_same values r (values a) ∙ ap values (omega arith) ∙ ap (λ k. values (a + k)) (sym z));
  below = λ y lt. put_other values r (values a) y (λ e. omega arith);
  above = λ y le. put_other values r (values a) y (λ e. omega arith);
}
value_packed WithEntry r a values low =
    let z = moved r a values (inr (inr low)) in
    record {
      at = λ j lt. five j lt (assigned (pack_value WithEntry r a) values) z.value
          (ap (λ m. m.base) z.entry) (ap (λ m. m.bound) z.entry) (ap (λ m. m.key) z.entry) (ap (λ m. m.lock) z.entry);
      below = λ y lt. z.others y (inl lt);
      above = λ y le. z.others y (inr le);
    }
  where
    five : (j : ℕ) → j < 5 → (after : flat.Values) → after r ≡ values a → after (r + 1) ≡ values (a + 1)
        → after (r + 2) ≡ values (a + 2) → after (r + 3) ≡ values (a + 3) → after (r + 4) ≡ values (a + 4)
        → after (r + j) ≡ values (a + j)
    five zero lt after e0 e1 e2 e3 e4 = ap after (omega arith) ∙ e0 ∙ ap values (omega arith)
    five (suc zero) lt after e0 e1 e2 e3 e4 = e1
    five (suc (suc zero)) lt after e0 e1 e2 e3 e4 = e2
    five (suc (suc (suc zero))) lt after e0 e1 e2 e3 e4 = e3
    five (suc (suc (suc (suc zero)))) lt after e0 e1 e2 e3 e4 = e4
    five (suc (suc (suc (suc (suc j))))) lt after e0 e1 e2 e3 e4 = absurd (omega arith)

pub value_assigns : (p : Passed) (r a : ℕ)
    → (are_assignments (pack_value p r a) ≡ true) × (length (pack_value p r a) ≤ 5)
value_assigns NoValue r a = (refl, omega arith)
value_assigns OneWord r a = (refl, omega arith)
value_assigns WithEntry r a = (refl, omega arith)

-- ---- all arguments

-- the words of a parameter by its number
abbrev pub words_at : List Variable → (parameter : ℕ) → ℕ
words_at [] x = 0
words_at (p ∷ ps) zero = parameter_words p
words_at (p ∷ ps) (suc x) = words_at ps x

abbrev pub ways_of : List Variable → List Passed
ways_of ps = map (λ v. passed_as v.kind) ps

pub words_within : (ps vs : List Variable) (x : ℕ) → x < length ps
    → register_in ps vs x + words_at ps x ≤ total parameter_words ps
words_within [] vs x lt = absurd (omega arith)
words_within (p ∷ ps) vs zero lt = omega arith
words_within (p ∷ ps) vs (suc x) lt = omega (arith, words_within ps vs x (omega arith))

pub behind_parameters : (ps vs : List Variable) (x : ℕ) → length ps ≤ x
    → total parameter_words ps ≤ register_in ps vs x
behind_parameters [] vs x le = omega arith
behind_parameters (p ∷ ps) vs zero le = absurd (omega arith)
behind_parameters (p ∷ ps) vs (suc x) le = omega (arith, behind_parameters ps vs x (omega arith))

pub record ArePacked (c : CodeFunction) (ps vs : List Variable) (into temporary : ℕ) (values after : flat.Values) : Type 0
  where
    pub at : (x j : ℕ) → x < length ps → j < words_at ps x
        → after (into + (register_in ps vs x + j)) ≡ values (temporary_register c (temporary + x) + j)
    pub below : (y : ℕ) → y < into → after y ≡ values y
    pub above : (y : ℕ) → into + total parameter_words ps ≤ y → after y ≡ values y

pub are_packed : (c : CodeFunction) (ps vs : List Variable) (r d : ℕ) (values : flat.Values)
    → d + length ps ≤ most_temporaries c.code → moved_register c 0 ≤ r
    → ArePacked c ps vs r d values (assigned (pack c (ways_of ps) r d) values)
are_packed c [] vs r d values low above = record { at = λ x j lt few. absurd (omega arith); below = λ y lt. refl; above = λ y le. refl }
are_packed c (p ∷ ps) vs r d values low above =
    let first = pack_value (passed_as p.kind) r (temporary_register c d) in
    let rest = pack c (ways_of ps) (r + parameter_words p) (d + 1) in
    let between = assigned first values in
    let one = value_packed (passed_as p.kind) r (temporary_register c d) values (omega (arith, above, low)) in
    let more = are_packed c ps vs (r + parameter_words p) (d + 1) between (omega (arith, low)) (omega (arith, above)) in
    let same = assigned_append first rest (value_assigns (passed_as p.kind) r (temporary_register c d)).0 values in
    subst (ArePacked c (p ∷ ps) vs r d values) (sym same)
    (record {
      at = λ x j lt few. by (assigned rest between) between one more x j lt few;
      below = λ y lt. more.below y (omega arith) ∙ one.below y lt;
      above = λ y le. more.above y (omega arith) ∙ one.above y (omega arith);
    })
  where
    by : (after between : flat.Values)
        → IsPlacedIn r (temporary_register c d) (register_count (passed_as p.kind)) values between
        → ArePacked c ps vs (r + parameter_words p) (d + 1) between after
        → (x j : ℕ) → x < length (p ∷ ps) → j < words_at (p ∷ ps) x
        → after (r + (register_in (p ∷ ps) vs x + j)) ≡ values (temporary_register c (d + x) + j)
    by after between one more zero j lt few =
        ap after (omega arith) ∙ more.below (r + j) (omega (arith, few)) ∙ one.at j few
        ∙ ap (λ k. values (temporary_register c k + j)) (omega arith)
    by after between one more (suc x) j lt few =
        let place : r + (register_in (p ∷ ps) vs (suc x) + j) ≡ r + parameter_words p + (register_in ps vs x + j) =
        omega arith in
        let temporary : d + 1 + x ≡ d + suc x = omega arith in
        let within = words_few ps x in
        ap after place ∙ more.at x j (omega (arith, lt)) few
        ∙ one.below (temporary_register c (d + 1 + x) + j) (omega (arith, low, above, lt, few, within))
        ∙ ap (λ k. values (temporary_register c k + j)) temporary
      where
        words_few : (vs : List Variable) (x : ℕ) → words_at vs x ≤ 5
        words_few [] x = omega arith
        words_few (v ∷ vs) zero = count_few (passed_as v.kind)
          where
            count_few : (p : Passed) → register_count p ≤ 5
            count_few NoValue = omega arith
            count_few OneWord = omega arith
            count_few WithEntry = omega arith
        words_few (v ∷ vs) (suc x) = words_few vs x

pub pack_assigns : (c : CodeFunction) (ps : List Passed) (r d : ℕ)
    → (are_assignments (pack c ps r d) ≡ true) × (length (pack c ps r d) ≤ 5 * length ps)
pack_assigns c [] r d = (refl, omega arith)
pack_assigns c (p ∷ ps) r d =
    let first = pack_value p r (temporary_register c d) in
    let rest = pack c ps (r + register_count p) (d + 1) in
    let one = value_assigns p r (temporary_register c d) in
    let more = pack_assigns c ps (r + register_count p) (d + 1) in
    let few = one.1 in
    let fewer = more.1 in
    (assignments_append first rest one.0 more.0, omega (arith, length-append first rest, few, fewer))

-- ---- arguments by number

-- they are as many as the parameters, each of its kind
pub count_passed : (ks : List Kind) (temps : Temps) (d count : ℕ) → are_passed ks (gathered temps d count) ≡ true
    → count ≡ length ks
count_passed [] temps d zero e = refl
count_passed [] temps d (suc n) e = absurd (false≢true e)
count_passed (k ∷ ks) temps d zero e = absurd (false≢true e)
count_passed (k ∷ ks) temps d (suc n) e =
    ap suc (count_passed ks temps (d + 1) n (and_parts (is_passed k (temps d)) _ e).1)

pub passed_at : (ks : List Kind) (temps : Temps) (d count x : ℕ) → are_passed ks (gathered temps d count) ≡ true
    → x < count → is_passed (get_or ks x Void) (temps (d + x)) ≡ true
passed_at [] temps d zero x e lt = absurd (omega arith)
passed_at [] temps d (suc n) x e lt = absurd (false≢true e)
passed_at (k ∷ ks) temps d zero x e lt = absurd (omega arith)
passed_at (k ∷ ks) temps d (suc n) zero e lt =
    let z : d ≡ d + 0 = omega arith in
    ap (λ y. is_passed k (temps y)) (sym z) ∙ (and_parts (is_passed k (temps d)) _ e).0
passed_at (k ∷ ks) temps d (suc n) (suc x) e lt =
    let z : d + 1 + x ≡ d + suc x = omega arith in
    ap (λ y. is_passed (get_or ks x Void) (temps y)) (sym z)
    ∙ passed_at ks temps (d + 1) n x (and_parts (is_passed k (temps d)) _ e).1 (omega arith)

-- a plain parameter of a type
pub record IsPlainParameter (ps : List Variable) (x : ℕ) (k : Scalar) : Type 0 where
  pub kind : get_or (map (λ (v : Variable). v.kind) ps) x Void ≡ OfScalar k
  pub words : words_at ps x ≡ count_in k

pub plain_parameter : (ps vs : List Variable) (x : ℕ) (k : Scalar) → plain_type (ps ++ vs) x ≡ Some k → x < length ps
    → IsPlainParameter ps x k
plain_parameter [] vs x k e lt = absurd (omega arith)
plain_parameter (p ∷ ps) vs zero k e lt =
    record { kind = kind_of p.is_object p.kind e; words = (plain_words p k e).1 }
  where
    scalar_kind : (kind : Kind) → scalar_if kind ≡ Some k → kind ≡ OfScalar k
    scalar_kind Void e = cc
    scalar_kind (OfScalar l) e = cc
    scalar_kind (Structure n) e = cc
    scalar_kind (Array n) e = cc

    kind_of : (b : Bool) (kind : Kind) → (if b then None else scalar_if kind) ≡ Some k → kind ≡ OfScalar k
    kind_of true kind e = cc
    kind_of false kind e = scalar_kind kind e
plain_parameter (p ∷ ps) vs (suc x) k e lt =
    let rest = plain_parameter ps vs x k e (omega arith) in record { kind = rest.kind; words = rest.words }

-- a parameter of a scalar type has the words of a value of it
pub parameter_words_are : (ps : List Variable) (x : ℕ) (k : Scalar)
    → get_or (map (λ (v : Variable). v.kind) ps) x Void ≡ OfScalar k → words_at ps x ≡ count_in k
parameter_words_are [] x k e = cc
parameter_words_are (p ∷ ps) zero k e = scalar_words p.kind k e
parameter_words_are (p ∷ ps) (suc x) k e = parameter_words_are ps x k e

-- ---- values in other registers

pub held_moved : (w : World) (b b' : Bool) (v : Value) (r r' : ℕ) (values values' : flat.Values)
    → (b' ≡ true → b ≡ true) → ((j : ℕ) → j < count_of b' → values' (r' + j) ≡ values (r + j))
    → IsHeldAt w b v r values → IsHeldAt w b' v r' values'
held_moved w b b' v r r' values values' more same h = record {
  word = first b' same ∙ h.word;
  entry = λ e. by b' e same (h.entry (more e));
  sound = h.sound;
}
  where
    start : (n : ℕ) → 0 < n → ((j : ℕ) → j < n → values' (r' + j) ≡ values (r + j)) → values' r' ≡ values r
    start n some same = ap values' (omega arith) ∙ same 0 some ∙ ap values (omega arith)

    first : (b : Bool) → ((j : ℕ) → j < count_of b → values' (r' + j) ≡ values (r + j)) → values' r' ≡ values r
    first true same = start 5 (omega arith) same
    first false same = start 1 (omega arith) same

    by : (b : Bool) → b ≡ true → ((j : ℕ) → j < count_of b → values' (r' + j) ≡ values (r + j))
        → Spells w.views w.keys v (held_from r) values → Spells w.views w.keys v (held_from r') values'
    by false e same q = cc
    by true e same q = record {
      word = start 5 (omega arith) same ∙ q.word;
      tag = same_metadata (metadata_in values' (held_from r').tag) (metadata_in values (held_from r).tag)
          (same 1 (omega arith)) (same 2 (omega arith)) (same 3 (omega arith)) (same 4 (omega arith)) ∙ q.tag;
    }

-- ---- the registers of a call

-- registers that are 0 become 0
pub zeros_leave : (r n : ℕ) (values : flat.Values) → ((y : ℕ) → r ≤ y → values y ≡ 0) → (y : ℕ)
    → assigned (zeros r n) values y ≡ values y
zeros_leave r zero values none y = refl
zeros_leave r (suc n) values none y =
    zeros_leave (r + 1) n (put values r 0) (λ z le. put_other values r 0 z (λ e. omega arith) ∙ none z (omega arith)) y
    ∙ by (y == r) refl
  where
    by : (b : Bool) → (y == r) ≡ b → put values r 0 y ≡ values y
    by true e =
        let same = eqb-true y r e in
        ap (put values r 0) same ∙ put_same values r 0 ∙ sym (none r (omega arith)) ∙ ap values (sym same)
    by false e = put_other values r 0 y (eqb-false y r e)

pub zeros_assign : (r n : ℕ) → (are_assignments (zeros r n) ≡ true) × (length (zeros r n) ≡ n)
zeros_assign r zero = (refl, refl)
zeros_assign r (suc n) = let rest = zeros_assign (r + 1) n in (rest.0, ap suc rest.1)
