-- Lines that are read one after the other.
use Rattle.std.proofs.Common.{◌≡◌, ℕ, ◌+◌, ◌-◌, ◌<◌, ◌≤◌, Bool, true, false, ◌==◌, List, [], ◌∷◌}
use Rattle.std.proofs.Common.{◌++◌, length, refl, sym, ap}
use Rattle.std.proofs.Common.{subst, ◌∙◌, rules, Option, Some, None, Result, Ok, Err}
use Rattle.std.proofs.lemmas.List.{append_assoc}
use Rattle.std.specs.Prelude.{if◌then◌else◌, option_map, nat_le}
use Rattle.rv_listing.specs.Fields.{cut}
use Rattle.rv_listing.specs.Lines.{image_in, read_line}
use Rattle.rv_listing.specs.Listings.{Reading, Reads, Refuses, behind, if_line, lines_of, before_lines, read_lines, at_end}
use Rattle.rv_listing.specs.Listings.{if_image, read_all, read_listing}
use Rattle.rv_listing.specs.declared.fault.ListFault.{ListFault}
use Rattle.rv_listing.specs.declared.fault.ListFault.TheVariants as fault
use Rattle.rv_listing.specs.declared.fault.ListRefusal.{ListRefusal}
use Rattle.rv_listing.specs.declared.fault.ListRefusal.TheVariants as refusal

-- the lines of a text by its first newline

abbrev of_cut : List ℕ → Option (List ℕ × List ℕ) → List (List ℕ) × List ℕ
of_cut text None = ([], text)
of_cut text (Some p) = (p.0 ∷ (lines_of p.1).0, (lines_of p.1).1)

first_of : (b : Bool) (c : ℕ) (cs : List ℕ) (o : Option (List ℕ × List ℕ)) → lines_of cs ≡ of_cut cs o
    → (if b then ([] ∷ (lines_of cs).0, (lines_of cs).1) else before_lines c (lines_of cs))
    ≡ of_cut (c ∷ cs) (if b then Some ([], cs) else option_map (λ p. (c ∷ p.0, p.1)) o)
first_of true c cs o e = refl
first_of false c cs None e = ap (before_lines c) e
first_of false c cs (Some p) e = ap (before_lines c) e

lines_cut : (text : List ℕ) → lines_of text ≡ of_cut text (cut 10 text)
unfolding lines_of cut
lines_cut [] = refl
lines_cut (c ∷ cs) = first_of (c == 10) c cs (cut 10 cs) (lines_cut cs)

pub no_newline : (text : List ℕ) → cut 10 text ≡ None → lines_of text ≡ ([], text)
no_newline text e = lines_cut text ∙ ap (of_cut text) e

pub first_line : (text line rest : List ℕ) → cut 10 text ≡ Some (line, rest)
    → lines_of text ≡ (line ∷ (lines_of rest).0, (lines_of rest).1)
first_line text line rest e = lines_cut text ∙ ap (of_cut text) e

-- bytes before what is read

behind_more : (front bs : List ℕ) (r : Reading) → behind (front ++ bs) r ≡ behind front (behind bs r)
unfolding behind
behind_more front bs (Ok cs) = ap Ok (append_assoc front bs cs)
behind_more front bs (Err e) = refl

pub nothing_before : (r : Reading) → behind [] r ≡ r
unfolding behind
nothing_before (Ok cs) = refl
nothing_before (Err e) = refl

fits_room : (b : Bool) (bs : List ℕ) (number : ℕ) (r : Reading) → b ≡ true
    → behind bs r ≡ (if b then behind bs r else Err (fault.Length, number))
fits_room true bs number r e = refl
fits_room false bs number r e = absurd cc

passes_room : (b : Bool) (number : ℕ) (r : Reading) → b ≡ false
    → (if b then r else Err (fault.Length, number)) ≡ Err (fault.Length, number)
passes_room true number r e = absurd cc
passes_room false number r e = refl

is_within : (m n : ℕ) → m ≤ n → nat_le m n ≡ true
is_within m n le = search (rules, le)

is_past : (m n : ℕ) → n < m → nat_le m n ≡ false
is_past m n lt = search (rules, lt)

pub line_taken : (old new bs : List ℕ) (number room left : ℕ) (reading : Result (List ℕ) ListFault) → reading ≡ Ok bs
    → length bs ≤ room → new ≡ old ++ bs → left ≡ room - length bs → (next : ℕ → Reading)
    → behind new (next left) ≡ behind old (if_line number room reading next)
unfolding if_line
line_taken old new bs number room left reading is le e l next =
    ap (λ x. behind x (next left)) e ∙ behind_more old bs (next left)
    ∙ ap (λ x. behind old (behind bs (next x))) l
    ∙ ap (behind old) (fits_room (nat_le (length bs) room) bs number (next (room - length bs)) (is_within (length bs) room le))
    ∙ ap (λ x. behind old (if_line number room x next)) (sym is)

pub line_refused : (old : List ℕ) (number room : ℕ) (reading : Result (List ℕ) ListFault) (e : ListFault)
    → reading ≡ Err e → (next : ℕ → Reading) → behind old (if_line number room reading next) ≡ Err (e, number)
unfolding if_line behind
line_refused old number room reading e is next = ap (λ x. behind old (if_line number room x next)) is

pub line_too_long : (old bs : List ℕ) (number room : ℕ) (reading : Result (List ℕ) ListFault) → reading ≡ Ok bs
    → room < length bs → (next : ℕ → Reading)
    → behind old (if_line number room reading next) ≡ Err (fault.Length, number)
unfolding if_line behind
line_too_long old bs number room reading is lt next =
    ap (λ x. behind old (if_line number room x next)) is
    ∙ ap (behind old) (passes_room (nat_le (length bs) room) number (behind bs (next (room - length bs)))
    (is_past (length bs) room lt))

-- what is done, with what is yet to be read, is the whole
abbrev pub Continues : (bytes : List ℕ) (number room : ℕ) (rest : List ℕ) → Reading → Type 0
Continues bytes number room rest whole =
    behind bytes (read_lines number room (lines_of rest).0 (lines_of rest).1) ≡ whole

at_first : (bytes : List ℕ) (number room : ℕ) (rest line after : List ℕ) (whole : Reading)
    → cut 10 rest ≡ Some (line, after) → Continues bytes number room rest whole
    → behind bytes (if_line number room (read_line line)
    (λ left. read_lines (number + 1) left (lines_of after).0 (lines_of after).1)) ≡ whole
unfolding read_lines
at_first bytes number room rest line after whole is e =
    ap (λ x. behind bytes (read_lines number room x.0 x.1)) (sym (first_line rest line after is)) ∙ e

pub line_done : (old new : List ℕ) (number room left : ℕ) (rest line after : List ℕ) (whole : Reading)
    → cut 10 rest ≡ Some (line, after)
    → ((next : ℕ → Reading) → behind new (next left) ≡ behind old (if_line number room (read_line line) next))
    → Continues old number room rest whole → Continues new (number + 1) left after whole
line_done old new number room left rest line after whole is taken e =
    taken (λ left. read_lines (number + 1) left (lines_of after).0 (lines_of after).1)
    ∙ at_first old number room rest line after whole is e

pub refused_there : (old : List ℕ) (number room : ℕ) (rest line after : List ℕ) (whole : Reading) (e : ListRefusal)
    → cut 10 rest ≡ Some (line, after)
    → ((next : ℕ → Reading) → Refuses (behind old (if_line number room (read_line line) next)) e)
    → Continues old number room rest whole → Refuses whole e
refused_there old number room rest line after whole e is refused c =
    subst (λ r. Refuses r e) (at_first old number room rest line after whole is c)
    (refused (λ left. read_lines (number + 1) left (lines_of after).0 (lines_of after).1))

pub ended : {X : Type 0} (view : X → List ℕ) (bytes : List ℕ) (number room : ℕ) (rest : List ℕ) (whole : Reading)
    (result : Result X ListRefusal) → cut 10 rest ≡ None → Continues bytes number room rest whole
    → Reads view (behind bytes (at_end number room rest)) result → Reads view whole result
unfolding read_lines
ended view bytes number room rest whole result is e r =
    subst (λ x. Reads view x result)
    (ap (λ x. behind bytes (read_lines number room x.0 x.1)) (sym (no_newline rest is)) ∙ e) r

-- the whole text by its first line

pub refuses_at : (reading : Reading) (kind : ListFault) (line : ℕ) (e : ListRefusal) → e ≡ refusal.Fault kind line
    → reading ≡ Err (kind, line) → Refuses reading e
refuses_at reading kind line e is r = subst (Refuses reading) (sym is) r

pub no_line : (text : List ℕ) → cut 10 text ≡ None → read_listing text ≡ Err (fault.Form, 1)
unfolding read_listing read_all
no_line text e = ap read_all (no_newline text e)

pub image_refused : (text first rest : List ℕ) (kind : ListFault) → cut 10 text ≡ Some (first, rest)
    → image_in first ≡ Err kind → read_listing text ≡ Err (kind, 1)
unfolding read_listing read_all
image_refused text first rest kind e f =
    ap read_all (first_line text first rest e) ∙ ap (λ x. if_image x (lines_of rest).0 (lines_of rest).1) f

pub lines_behind : {X : Type 0} (view : X → List ℕ) (text first rest : List ℕ) (size : ℕ) (result : Result X ListRefusal)
    → cut 10 text ≡ Some (first, rest) → image_in first ≡ Ok size
    → Reads view (read_lines 2 size (lines_of rest).0 (lines_of rest).1) result → Reads view (read_listing text) result
unfolding read_listing read_all
lines_behind view text first rest size result e f r =
    subst (λ x. Reads view x result)
    (sym (ap read_all (first_line text first rest e) ∙ ap (λ x. if_image x (lines_of rest).0 (lines_of rest).1) f)) r
