-- What waits around a block that is entered: its registers are none of the block's, whose objects have no homes yet.
use Rattle.std.proofs.Common.{◌≡◌, ℕ, zero, suc, ◌+◌, ◌<◌, Bool, true, false, List, [], ◌∷◌, get_or, Some}
use Rattle.std.proofs.Common.{refl, sym, ◌∙◌, subst, arith}
use Rattle.source_meaning.specs.State.{State, Home, NoObject, InObject}
use Rattle.source_meaning.specs.Blocks.{Block, has_objects, homes_over, over}
use Rattle.tac_ir.specs.declared.function.CodeFunction.{CodeFunction}
use Rattle.tac_ir.specs.Meaning.{objects_in}
use Rattle.tac_ir.specs.Stage.{Entered, Frame, Waits}
use Rattle.flat_code.specs.State as flat
use Rattle.lib_wrappers.specs.AllocatingRoutines.Entering.{AreOfLock}
use Rattle.metadata_relation.specs.Blocks.{objects_of_body}
use Rattle.metadata_relation.specs.Holding.{HasHomes, World}
use Rattle.c_tree.specs.declared.program.Variable.{Variable}
use Rattle.metadata_relation.specs.Registers.{first_object, home_register}
use Rattle.metadata_relation.specs.Waiting.{AllWait, AreOver, BodyBy, IsBlockAt, IsBodyAs, IsEnteredAs, Layout}
use Rattle.metadata_relation.proofs.Holding.{home_on, same_world}

-- ---- homes

-- what is not without a home has one
homed : (m : Home) → (m ≡ NoObject → ⊥) → (o : ℕ) × (m ≡ InObject o)
homed NoObject none = absurd (none refl)
homed (InObject o) none = (o, refl)

no_home : {P : Type 0} (m : Home) (o : ℕ) → m ≡ InObject o → m ≡ NoObject → P
no_home m o has none = (let both = sym has ∙ none in absurd cc)

-- the homes of a block are over those around it
over_both : (outer inner : Home) → over outer inner ≡ NoObject → (outer ≡ NoObject) × (inner ≡ NoObject)
over_both outer NoObject e = (e, refl)
over_both outer (InObject o) e = no_home (InObject o) o refl e

pub are_over : (outer inner : List Home) → AreOver (homes_over outer inner) outer inner
are_over [] inner x e = (refl, e)
are_over (o ∷ os) [] x e = (e, refl)
are_over (o ∷ os) (h ∷ hs) zero e = over_both o h e
are_over (o ∷ os) (h ∷ hs) (suc x) e = are_over os hs x e

-- ---- registers

-- registers of variables that have homes stay
module _ (w : World) (s : State) (l : Layout) (first : ℕ) (c : CodeFunction) (values after : flat.Values) where
  abbrev pub HomesStay : List Home → Type 0
  HomesStay frame = (x o : ℕ) → get_or frame x NoObject ≡ InObject o → (j : ℕ) → j < 5
      → after (home_register c x + j) ≡ values (home_register c x + j)

  stay_around : (frame outer inner : List Home) → AreOver frame outer inner → HomesStay frame → HomesStay outer
  stay_around frame outer inner over stay x o has j few =
      let t = homed (get_or frame x NoObject) (λ e. no_home (get_or outer x NoObject) o has (over x e).0) in
      stay x t.0 t.1 j few

  pub homes_stay : (frame : List Home) → HomesStay frame → HasHomes w c frame values → HasHomes w c frame after
  homes_stay frame stay h = record {
    declared = h.declared;
    homes = λ x o is. home_on w.views w.keys w.keys w.objects w.objects w.memory w.memory
        (same_world w.views w.keys w.objects w.memory) o (home_register c x) values after (λ j few. stay x o is j (omega arith))
        (h.homes x o is).live (h.homes x o is);
    automatic = h.automatic;
    sizes = h.sizes;
  }

  -- a block whose first object has a home
  block_stays : (frame homes : List Home) (entered : List Variable) (outer : ℕ) → HomesStay frame
      → (get_or frame (first_object entered) NoObject ≡ NoObject → get_or homes (first_object entered) NoObject ≡ NoObject)
      → IsBlockAt w s c entered outer homes values → IsBlockAt w s c entered outer homes after
  block_stays frame homes entered outer stay over h =
      let t = homed (get_or frame (first_object entered) NoObject) (λ e. h.placed (over e)) in
      let in_home = stay (first_object entered) t.0 t.1 in
      record {
        of_lock = subst (AreOfLock w.keys s homes) (sym (in_home 3 (omega arith))) h.of_lock;
        placed = h.placed;
        lock_is = h.lock_is;
        top_is = in_home 4 (omega arith) ∙ h.top_is;
        top_is_one = h.top_is_one;
      }

  body_stays : (stacked outer bound : ℕ) (homes : List Home) → HomesStay homes
      → IsBodyAs w s c stacked outer bound homes values → IsBodyAs w s c stacked outer bound homes after
  body_stays stacked outer bound homes stay h = record {
    by = by (has_objects (objects_of_body c)) h.by;
    mark = h.mark;
    within = h.within;
    own = h.own;
  }
    where
      by : (b : Bool) → BodyBy w s c stacked outer homes values b → BodyBy w s c stacked outer homes after b
      by true e = block_stays homes homes (objects_of_body c) outer stay (λ none. none) e
      by false e = e

  entered_stays : (frame : List Home) (bound n : ℕ) (b : Block) → HomesStay frame
      → IsEnteredAs w s c bound n b frame values → IsEnteredAs w s c bound n b frame after
  entered_stays frame bound n b stay h = record {
    some = h.some;
    block = block_stays frame b.homes (objects_in (Some c) n) b.stacked stay
        (λ none. (h.over (first_object (objects_in (Some c) n)) none).1) h.block;
    mark = h.mark;
    own = h.own;
    below = h.below;
    over = h.over;
    homes = homes_stay b.frame (stay_around frame b.frame b.homes h.over stay) h.homes;
  }

  -- All that waits around the block goes on waiting.
  pub waits_around : (stacked bound : ℕ) (frame : List Home) (ws : List Frame) (xs : List flat.Frame) → HomesStay frame
      → AllWait w s l first (record { code = c; values = values; stacked = stacked; frame = frame; bound = bound }) ws xs
      → AllWait w s l first (record { code = c; values = after; stacked = stacked; frame = frame; bound = bound }) ws xs
  unfolding body_stays entered_stays
  waits_around stacked bound frame [] [] stay h = h
  waits_around stacked bound frame [] (x ∷ []) stay h = (body_stays stacked first bound frame stay h.0, h.1)
  waits_around stacked bound frame [] (x ∷ y ∷ xs) stay h = h
  waits_around stacked bound frame (Entered n b ∷ ws) xs stay h = (
    entered_stays frame bound n b stay h.0,
    waits_around b.stacked h.0.mark b.frame ws xs (stay_around frame b.frame b.homes h.0.over stay) h.1,
  )
  waits_around stacked bound frame (Waits a ∷ ws) [] stay h = h
  waits_around stacked bound frame (Waits a ∷ ws) (x ∷ xs) stay h =
      (body_stays stacked a.caller.stacked bound frame stay h.0, h.1, h.2)
