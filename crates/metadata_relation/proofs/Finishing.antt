-- How a block ends: behind an action registers of a temporary get their values by assignments, and the code leads on.
use Rattle.std.proofs.Common.{◌≡◌, ◌≢◌, ◌⊎◌, inl, inr, ℕ, ◌+◌, ◌*◌, ◌<◌, ◌≤◌, Bool, true, false, List, ◌∷◌, length}
use Rattle.std.proofs.Common.{refl, sym, ap, ◌∙◌, subst, arith}
use Rattle.obj_memory.specs.declared.value.Tag.TheVariants.{Untagged}
use Rattle.obj_memory.specs.declared.value.Value.{Value}
use Rattle.obj_memory.specs.Objects.{Objects}
use Rattle.obj_memory.specs.Sound.{IsSoundTag}
use Rattle.obj_memory.proofs.Continuing.{continues_then}
use Rattle.source_meaning.specs.State.{State}
use Rattle.source_meaning.specs.Calls.{header_of}
use Rattle.source_meaning.specs.Good.{Leaves, function_count}
use Rattle.std.proofs.lemmas.List.{length-map}
use Rattle.tac_ir.specs.Stage.{Temps, Frame}
use Rattle.flat_code.specs.declared.instruction.FlatInstruction.{FlatInstruction}
use Rattle.flat_code.specs.declared.instruction.FlatInstruction.TheVariants.{Move}
use Rattle.flat_code.specs.Memory.{Bytes, put}
use Rattle.flat_code.specs.State as flat
use Rattle.flat_code.specs.Calls.{function_in}
use Rattle.flat_code.specs.Meaning.{body_of}
use Rattle.flat_code.proofs.Stored.{put_same, put_other}
use Rattle.flat_code.specs.Routines.Objects.StandsFor.{Keys, spell}
use Rattle.flat_code.specs.Routines.Routine.{HasAt}
use Rattle.flat_actions.specs.Actions.{Holder, HasGiven}
use Rattle.flat_actions.proofs.Standing.{for_worked}
use Rattle.metadata_plan.specs.Expanded.{Leads}
use Rattle.metadata_relation.specs.Blocks.{move_value, untagged}
use Rattle.metadata_relation.specs.Holding.{World, IsHeldAt}
use Rattle.metadata_relation.specs.Scopes.{context_at}
use Rattle.metadata_relation.specs.Stages.{Compiled, map_of, views, names, IsAt}
use Rattle.metadata_relation.specs.Steps.{IsCompiled}
use Rattle.metadata_relation.proofs.Acting.{Reached, ReachesNode, HasActed, behind_action, reached_next, reached_on}
use Rattle.metadata_relation.proofs.Acting.{stands_as, stands_on}
use Rattle.metadata_relation.proofs.Assigning.{AreApart, assigned, assigns, are_assignments, cleared, moved}
use Rattle.metadata_relation.proofs.Holding.{same_world}
use Rattle.metadata_relation.proofs.Setting.{functions_same}
use Rattle.metadata_relation.proofs.Standing.{good_now, leaves_same, leaves_then}

-- ---- what assignments leave

-- outside of the five registers of a temporary
abbrev pub StaysBeside : (register : ℕ) → (values after : flat.Values) → Type 0
StaysBeside r values after = (y : ℕ) → (y < r) ⊎ (r + 5 ≤ y) → after y ≡ values y

pub beside_ne : (y r : ℕ) → (y < r) ⊎ (r + 5 ≤ y) → y ≢ r
beside_ne y r (inl below) e = absurd (omega arith)
beside_ne y r (inr above) e = absurd (omega arith)

pub beside_wider : (y r : ℕ) → (y < r) ⊎ (r + 5 ≤ y) → (y < r + 1) ⊎ (r + 5 ≤ y)
beside_wider y r (inl below) = inl (omega arith)
beside_wider y r (inr above) = inr above

-- a value stands in a temporary's registers, and all others are as they were
pub record IsPlacedIn (w : World) (with_entry : Bool) (value : Value) (register : ℕ) (values after : flat.Values)
    : Type 0 where
  pub held : IsHeldAt w with_entry value register after
  pub others : StaysBeside register values after

untagged_sound : (w : World) (value : Value) → value.tag ≡ Untagged
    → IsSoundTag w.views.functions w.objects value.tag
untagged_sound w value e = subst (IsSoundTag w.views.functions w.objects) (sym e) tt

-- an integer has the entry of no pointer behind it, where one is kept
pub integer_cleared : (w : World) (b : Bool) (value : Value) (r : ℕ) (values : flat.Values) → value.tag ≡ Untagged
    → values r ≡ value.word → IsPlacedIn w b value r values (assigned (untagged b r) values)
integer_cleared w false value r values plain word = record {
  held = record { word = word; entry = λ e. cc; sound = untagged_sound w value plain };
  others = λ y out. refl;
}
integer_cleared w true value r values plain word =
    let z = cleared r values in
    let own = z.others r (inl (omega arith)) ∙ word in
    record {
      held = record {
        word = own;
        entry = λ e. record { word = own; tag = z.entry ∙ ap (spell w.views w.keys) (sym plain) };
        sound = untagged_sound w value plain;
      };
      others = λ y out. z.others y (beside_wider y r out);
    }

pub integer_moved : (w : World) (b : Bool) (value : Value) (r from : ℕ) (values : flat.Values) → value.tag ≡ Untagged
    → values from ≡ value.word → IsPlacedIn w b value r values (assigned (Move r from ∷ untagged b r) values)
integer_moved w b value r from values plain word =
    let z = integer_cleared w b value r (put values r (values from)) plain (put_same values r (values from) ∙ word) in
    record {
      held = z.held;
      others = λ y out. z.others y out ∙ put_other values r (values from) y (beside_ne y r out);
    }

-- a value goes to other registers, or stays in these, with its entry where that is kept
pub value_moved : (w : World) (b held : Bool) (value : Value) (r from : ℕ) (values : flat.Values)
    → IsHeldAt w held value from values → (b ≡ true → held ≡ true) → AreApart r from
    → IsPlacedIn w b value r values (assigned (move_value b r from) values)
value_moved w false held value r from values is more apart = record {
  held = record { word = put_same values r (values from) ∙ is.word; entry = λ e. cc; sound = is.sound };
  others = λ y out. put_other values r (values from) y (beside_ne y r out);
}
value_moved w true held value r from values is more apart =
    let z = moved r from values apart in
    let spells = is.entry (more refl) in
    record {
      held = record {
        word = z.value ∙ is.word;
        entry = λ e. record { word = z.value ∙ is.word; tag = z.entry ∙ spells.tag };
        sound = is.sound;
      };
      others = z.others;
    }

-- these are lists of assignments, and short
pub record AreFew (most : ℕ) (list : List FlatInstruction) : Type 0 where
  pub assign : are_assignments list ≡ true
  pub few : length list ≤ most

pub untagged_few : (b : Bool) (r : ℕ) → AreFew 4 (untagged b r)
untagged_few false r = record { assign = refl; few = omega arith }
untagged_few true r = record { assign = refl; few = omega arith }

pub integer_few : (b : Bool) (r from : ℕ) → AreFew 5 (Move r from ∷ untagged b r)
integer_few false r from = record { assign = refl; few = omega arith }
integer_few true r from = record { assign = refl; few = omega arith }

pub move_few : (b : Bool) (r from : ℕ) → AreFew 5 (move_value b r from)
move_few false r from = record { assign = refl; few = omega arith }
move_few true r from = record { assign = refl; few = omega arith }

-- ---- what was done so far

module _ (c : Compiled) (IsGood : Bytes → Type 0) (right : IsCompiled c IsGood) (u n : ℕ) (temps : Temps)
    (ws : List Frame) (s : State) (v : flat.State) (xs : List flat.Frame)
    (h : IsAt c IsGood u n temps ws s u (c.layout.address u n) v xs) where
  abbrev body : List FlatInstruction
  body = body_of (function_in c.layout.program u)

  -- a sound tag is one in the scope that runs
  pub tagged_in : (objects : Objects) (value : Value) → IsSoundTag (views c).functions objects value.tag
      → IsSoundTag (function_count (context_at (names c) u ws)) objects value.tag
  tagged_in objects value sound =
      subst (λ z. IsSoundTag z objects value.tag)
      (ap length (sym right.functions) ∙ length-map c.typed.functions header_of ∙ sym (functions_same (names c) u)) sound

  pub nothing_done : HasActed c IsGood right u n temps ws s v xs h (behind_action s s) h.keys v
  nothing_done = record {
    stands = h.stands;
    goes = same_world (views c) h.keys s.objects v.memory;
    leaves = leaves_same (context_at (names c) u ws) s (good_now (names c) u ws s h.steady.good);
    keys_few = h.steady.keys;
  }

  -- an action more
  pub acted_then : (result : Holder) (scratch work : ℕ) (value : Value) (z z' : State) (keys : Keys) (y y' : flat.State)
      → HasActed c IsGood right u n temps ws s v xs h (behind_action s z) keys y
      → (l : HasGiven (views c) keys IsGood result scratch (record (behind_action s z) { work = work }) y value
      (behind_action s z') y')
      → Leaves (context_at (names c) u ws) (behind_action s z) (behind_action s z')
      → z'.keys ≤ (map_of c).budgets.keys
      → HasActed c IsGood right u n temps ws s v xs h (behind_action s z') l.keys y'
  acted_then result scratch work value z z' keys y y' a l leaves few =
      let turns = a.stands.turns in
      let same = l.turns in
      let longer = a.goes.continues.longer in
      record {
        stands = stands_on c IsGood keys l.keys (behind_action s z) (behind_action s z') y y' a.stands l.stands refl
            l.elsewhere.behind (omega arith);
        goes = record {
          held = record {
            own = λ n lt. l.held.own n (omega arith) ∙ a.goes.held.own n lt;
            held = λ n lt. l.held.held n (omega arith) ∙ a.goes.held.held n lt;
          };
          continues = continues_then s.objects z.objects z'.objects a.goes.continues leaves.lives.continues;
          behind = λ b le lt. l.elsewhere.behind b le ∙ a.goes.behind b le lt;
        };
        leaves = leaves_then (context_at (names c) u ws) s (behind_action s z) (behind_action s z') a.leaves leaves;
        keys_few = few;
      }

  -- registers and work play no part
  pub acted_as : (z : State) (keys : Keys) (y : flat.State) (values : flat.Values) (work : ℕ)
      → HasActed c IsGood right u n temps ws s v xs h z keys y
      → HasActed c IsGood right u n temps ws s v xs h z keys (record y { values = values; work = work })
  acted_as z keys y values work a = record {
    stands = stands_as c IsGood keys z y values work a.stands;
    goes = a.goes;
    leaves = a.leaves;
    keys_few = a.keys_few;
  }

  -- nor does the work of the source
  pub acted_worked : (z : State) (keys : Keys) (y : flat.State) (work : ℕ)
      → HasActed c IsGood right u n temps ws s v xs h z keys y
      → HasActed c IsGood right u n temps ws s v xs h (record z { work = work }) keys y
  acted_worked z keys y work a = record {
    stands = record { for = for_worked (views c) keys IsGood z work y a.stands.for; top = a.stands.top; turns = a.stands.turns };
    goes = a.goes;
    leaves = record { good = a.leaves.good; lives = a.leaves.lives; frame = a.leaves.frame; ended = a.leaves.ended };
    keys_few = a.keys_few;
  }

  -- ---- the end of a block

  pub ends_with : (q most few next : ℕ) (y : flat.State) (list : List FlatInstruction)
      → Reached (map_of c) c.layout.program u (c.layout.address u n) v xs q y most → AreFew few list
      → HasAt body q list → Leads body (q + length list) (c.layout.address u next)
      → (w : ℕ) × ReachesNode c IsGood right u n temps ws s v xs h next
      (record y { values = assigned list y.values; work = w }) (most + 2 * few + 2)
  ends_with q most few next y list k are has on =
      let p = c.layout.program in
      let m = map_of c in
      let a = assigns m p u xs list are.assign q y has in
      let after : flat.State = record y { values = assigned list y.values } in
      let r = reached_next m p u xs (c.layout.address u n) q (q + length list) v y after most (2 * length list) k a in
      let e = reached_on m p u xs (c.layout.address u n) (q + length list) (c.layout.address u next) v
      (record after { work = y.work + a.work }) (most + 2 * length list) r on in
      let fewer = are.few in
      let less = e.1.few in
      (e.0, record { steps = e.1.steps; comes = e.1.comes; few = omega arith })
