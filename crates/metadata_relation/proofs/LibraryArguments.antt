-- The arguments of a routine of the library: packed for the call of its function of the runtime they stand in the
-- registers of its parameters, and are of its kinds.
use Rattle.std.proofs.Common.{◌≡◌, ℕ, zero, suc, ◌+◌, ◌<◌, ◌≤◌, Bool, true, false, List, [], ◌∷◌}
use Rattle.std.proofs.Common.{length, length-append, map, refl, sym, ap, ◌∙◌, subst, arith, get_or}
use Rattle.std.proofs.lemmas.Bool.{and_parts, false≢true}
use Rattle.obj_memory.specs.declared.value.Scalar.TheVariants.{Integer, Pointer}
use Rattle.obj_memory.specs.Objects.{Objects}
use Rattle.obj_memory.specs.Sound.{IsSoundTag}
use Rattle.c_tree.specs.declared.expression.Kind.{Kind}
use Rattle.c_tree.specs.declared.expression.Kind.TheVariants.{Void, Scalar as OfScalar, Structure, Array}
use Rattle.source_meaning.specs.State.{Rvalue}
use Rattle.source_meaning.specs.Actions.{integer}
use Rattle.source_meaning.specs.Good.{IsOfKind}
use Rattle.source_meaning.specs.Structures.{values_of}
use Rattle.tac_ir.specs.declared.function.CodeFunction.{CodeFunction}
use Rattle.tac_ir.specs.Accesses.{is_place}
use Rattle.tac_ir.specs.Fitting.{are_passed, is_of_type, is_passed}
use Rattle.tac_ir.specs.Stage.{gathered, Temps}
use Rattle.flat_code.specs.State as flat
use Rattle.flat_code.specs.Routines.Metadata.{metadata_in}
use Rattle.flat_code.proofs.Routines.Words.{same_metadata}
use Rattle.flat_actions.specs.Actions.{AreHeldBy, IsHeldBy}
use Rattle.runtime_functions.specs.Actions.{over_registers}
use Rattle.runtime_functions.specs.Library.{held_from, holder_from, holders_from, NoValue, OneWord, Passed}
use Rattle.runtime_functions.specs.Library.{register_count, total_count, WithEntry}
use Rattle.metadata_plan.specs.Entries.{is_moved_with_entry}
use Rattle.metadata_plan.specs.Registers.{most_temporaries}
use Rattle.metadata_relation.specs.Blocks.{pack, pack_value}
use Rattle.metadata_relation.specs.Holding.{IsHeldAt, World}
use Rattle.metadata_relation.specs.Registers.{moved_register, passed_as, temporary_register}
use Rattle.metadata_relation.proofs.Assigning.{assigned}
use Rattle.metadata_relation.proofs.Packing.{assigned_append, value_assigns, value_packed}
use Rattle.metadata_relation.proofs.Setting.{type_is}

-- ---- registers

register_few : (p : Passed) → register_count p ≤ 5
register_few NoValue = omega arith
register_few OneWord = omega arith
register_few WithEntry = omega arith

-- the registers from one on hold what those of temporaries held
abbrev pub AreMoved : CodeFunction → List Passed → (into temporary : ℕ) → (values after : flat.Values) → Type 0
AreMoved c [] r d values after = Unit {0}
AreMoved c (p ∷ ps) r d values after =
    ((j : ℕ) → j < register_count p → after (r + j) ≡ values (temporary_register c d + j))
    × AreMoved c ps (r + register_count p) (d + 1) values after

pub record ArePacked (c : CodeFunction) (ps : List Passed) (into temporary : ℕ) (values now after : flat.Values)
    : Type 0 where
  pub moved : AreMoved c ps into temporary values after
  pub below : (y : ℕ) → y < into → after y ≡ now y

pub are_packed : (c : CodeFunction) (ps : List Passed) (r d : ℕ) (values now : flat.Values)
    → ((y : ℕ) → y < moved_register c 0 → now y ≡ values y) → d + length ps ≤ most_temporaries c.code
    → moved_register c 0 ≤ r → ArePacked c ps r d values now (assigned (pack c ps r d) now)
are_packed c [] r d values now same low above = record { moved = tt; below = λ y lt. refl }
are_packed c (p ∷ ps) r d values now same low above =
    let first = pack_value p r (temporary_register c d) in
    let rest = pack c ps (r + register_count p) (d + 1) in
    let few = register_few p in
    let one = value_packed p r (temporary_register c d) now (omega (arith, above, low)) in
    let more = are_packed c ps (r + register_count p) (d + 1) values (assigned first now)
    (λ y lt. one.below y (omega (arith, above, lt)) ∙ same y lt) (omega (arith, low)) (omega (arith, above)) in
    subst (ArePacked c (p ∷ ps) r d values now)
    (sym (assigned_append first rest (value_assigns p r (temporary_register c d)).0 now))
    (record {
      moved = (
        λ j lt. more.below (r + j) (omega (arith, lt)) ∙ one.at j lt
            ∙ same (temporary_register c d + j) (omega (arith, low, lt, few)),
        more.moved,
      );
      below = λ y lt. more.below y (omega (arith, lt)) ∙ one.below y lt;
    })

value_length : (p : Passed) (r a : ℕ) → length (pack_value p r a) ≡ register_count p
value_length NoValue r a = refl
value_length OneWord r a = refl
value_length WithEntry r a = refl

pub pack_length : (c : CodeFunction) (ps : List Passed) (r d : ℕ) → length (pack c ps r d) ≡ total_count ps
pack_length c [] r d = refl
pack_length c (p ∷ ps) r d =
    omega (
      arith,
      length-append (pack_value p r (temporary_register c d)) (pack c ps (r + register_count p) (d + 1)),
      value_length p r (temporary_register c d),
      pack_length c ps (r + register_count p) (d + 1),
    )

-- ---- kinds

abbrev pub are_scalars : List Kind → Bool
are_scalars [] = true
are_scalars (OfScalar k ∷ ks) = are_scalars ks
are_scalars (k ∷ ks) = false

rest_scalars : (k : Kind) (ks : List Kind) → are_scalars (k ∷ ks) ≡ true → are_scalars ks ≡ true
rest_scalars (OfScalar t) ks e = e
rest_scalars Void ks e = cc
rest_scalars (Structure n) ks e = cc
rest_scalars (Array n) ks e = cc

-- ---- arguments in registers

module _ (w : World) (c : CodeFunction) (entries : ℕ → Bool) (temps : Temps) (values after : flat.Values) (first : ℕ)
  where
    abbrev Held : ℕ → Type 0
    Held x = IsHeldAt w (entries x) (temps x).value (temporary_register c x) values

    argument_held : (k : Kind) (ks : List Kind) (i d : ℕ) → are_scalars (k ∷ ks) ≡ true
        → IsHeldAt w (entries d) (temps d).value (temporary_register c d) values
        → (is_moved_with_entry k ≡ true → entries d ≡ true)
        → ((j : ℕ) → j < register_count (passed_as k) → after (first + i + j) ≡ values (temporary_register c d + j))
        → IsHeldBy w.views w.keys w.objects (over_registers (λ r. first + r) (holder_from i (passed_as k)))
        (temps d).value after
    argument_held (OfScalar (Integer t)) ks i d e held with_entry same =
        ap after (omega arith) ∙ same 0 (omega arith) ∙ ap values (omega arith) ∙ held.word
    argument_held (OfScalar Pointer) ks i d e held with_entry same =
        let r = temporary_register c d in
        let spells = held.entry (with_entry refl) in (
          record {
            word = ap after (omega arith) ∙ same 0 (omega arith) ∙ ap values (omega arith) ∙ spells.word;
            tag = same_metadata
                (metadata_in after (record {
                  base = first + (i + 1);
                  bound = first + (i + 2);
                  key = first + (i + 3);
                  lock = first + (i + 4);
                })) (metadata_in values (held_from r).tag)
                (ap after (omega arith) ∙ same 1 (omega arith)) (ap after (omega arith) ∙ same 2 (omega arith))
                (ap after (omega arith) ∙ same 3 (omega arith)) (ap after (omega arith) ∙ same 4 (omega arith))
                ∙ spells.tag;
          },
          held.sound,
        )
    argument_held Void ks i d e held with_entry same = cc
    argument_held (Structure n) ks i d e held with_entry same = cc
    argument_held (Array n) ks i d e held with_entry same = cc

    pub arguments_held : (ks : List Kind) (i d count : ℕ) → are_scalars ks ≡ true
        → are_passed ks (gathered temps d count) ≡ true
        → ((x : ℕ) → d ≤ x → x < d + count → IsHeldAt w (entries x) (temps x).value (temporary_register c x) values)
        → ((x : ℕ) → x < count → is_moved_with_entry (get_or ks x Void) ≡ true → entries (d + x) ≡ true)
        → AreMoved c (map passed_as ks) (first + i) d values after
        → AreHeldBy w.views w.keys w.objects
        (map (over_registers (λ r. first + r)) (holders_from i (map passed_as ks)))
        (values_of (gathered temps d count)) after
    arguments_held [] i d zero s e held with_entry same = tt
    arguments_held [] i d (suc n) s e held with_entry same = absurd (false≢true e)
    arguments_held (k ∷ ks) i d zero s e held with_entry same = absurd (false≢true e)
    arguments_held (k ∷ ks) i d (suc n) s e held with_entry same =
        let here : d + 0 ≡ d = omega arith in
        let parts = and_parts (is_passed k (temps d)) (are_passed ks (gathered temps (d + 1) n)) e in
        let place : first + i + register_count (passed_as k) ≡ first + (i + register_count (passed_as k)) = omega arith in (
          argument_held k ks i d s (held d (omega arith) (omega arith))
              (λ m. subst (λ z. entries z ≡ true) here (with_entry 0 (omega arith) m)) same.0,
          arguments_held ks (i + register_count (passed_as k)) (d + 1) n (rest_scalars k ks s) parts.1
              (λ x from to. held x (omega arith) (omega arith))
              (λ x lt m. (let on : d + suc x ≡ d + 1 + x = omega arith in
              subst (λ z. entries z ≡ true) on (with_entry (suc x) (omega arith) m)))
              (subst (λ z. AreMoved c (map passed_as ks) z (d + 1) values after) place same.1),
        )

-- ---- arguments are of their kinds

pub arguments_sound : (functions : ℕ) (objects : Objects) (temps : Temps) (d count x : ℕ)
    → ((y : ℕ) → d ≤ y → y < d + count → IsSoundTag functions objects (temps y).value.tag)
    → IsSoundTag functions objects (get_or (values_of (gathered temps d count)) x (integer 0)).tag
arguments_sound functions objects temps d zero x sound = tt
arguments_sound functions objects temps d (suc n) zero sound = sound d (omega arith) (omega arith)
arguments_sound functions objects temps d (suc n) (suc x) sound =
    arguments_sound functions objects temps (d + 1) n x (λ y from to. sound y (omega arith) (omega arith))

kind_is : (functions : ℕ) (k : Kind) (ks : List Kind) (v : Rvalue) → are_scalars (k ∷ ks) ≡ true → is_passed k v ≡ true
    → IsOfKind functions k v.value
kind_is functions (OfScalar t) ks v s e =
    type_is functions t v.value (and_parts (is_place v.contents) (is_of_type t v.value) e).1
kind_is functions Void ks v s e = cc
kind_is functions (Structure n) ks v s e = cc
kind_is functions (Array n) ks v s e = cc

pub arguments_kinds : (functions : ℕ) (temps : Temps) (ks : List Kind) (d count x : ℕ) → are_scalars ks ≡ true
    → are_passed ks (gathered temps d count) ≡ true
    → IsOfKind functions (get_or ks x Void) (get_or (values_of (gathered temps d count)) x (integer 0))
arguments_kinds functions temps [] d zero x s e = λ low. omega arith
arguments_kinds functions temps [] d (suc n) x s e = absurd (false≢true e)
arguments_kinds functions temps (k ∷ ks) d zero x s e = absurd (false≢true e)
arguments_kinds functions temps (k ∷ ks) d (suc n) zero s e =
    kind_is functions k ks (temps d) s (and_parts (is_passed k (temps d)) (are_passed ks (gathered temps (d + 1) n)) e).0
arguments_kinds functions temps (k ∷ ks) d (suc n) (suc x) s e =
    arguments_kinds functions temps ks (d + 1) n x (rest_scalars k ks s)
    (and_parts (is_passed k (temps d)) (are_passed ks (gathered temps (d + 1) n)) e).1
