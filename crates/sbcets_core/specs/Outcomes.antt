-- The exit status of each outcome, and the tool's own line for it.
use Rattle.std.specs.Prelude.{ℕ, ◌+◌, ◌/◌, ◌%◌, nat_lt, ◌==◌, if◌then◌else◌, List, [], ◌∷◌, ◌++◌, take, drop, codes}
use Rattle.std.specs.Prelude.{decimal}
use Rattle.std.specs.List.{prefix_len}
use Rattle.c_pre.specs.Faults.{number_of}
use Rattle.elf_image.specs.Tests.{fault_number}
use Rattle.rv_listing.specs.Fields.{fault_number as list_fault_number}
use Rattle.rv_sim.specs.declared.trap.TrapKind.{TrapKind}
use Rattle.rv_sim.specs.declared.trap.TrapKind.TheVariants.{Illegal, Access, Jump, Break, Call}
use Rattle.sbcets_core.specs.declared.refusal.Counted.{Counted}
use Rattle.sbcets_core.specs.declared.refusal.Counted.TheVariants as counted
use Rattle.sbcets_core.specs.declared.refusal.SourceRefusal.{SourceRefusal}
use Rattle.sbcets_core.specs.declared.refusal.SourceRefusal.TheVariants.{Lex, Pre, Unsupported, Syntax, Nesting}
use Rattle.sbcets_core.specs.declared.refusal.SourceRefusal.TheVariants.{Typing, Const, TooLarge, Uncompiled}
use Rattle.sbcets_core.specs.declared.refusal.SourceRefusal.TheVariants.{RoomTooLarge, NumbersTooLarge}
use Rattle.sbcets_core.specs.declared.refusal.SourceRefusal.TheVariants as refusals
use Rattle.sbcets_core.specs.declared.outcome.ReadFault.TheVariants.{Failed, TooLong}
use Rattle.sbcets_core.specs.declared.outcome.Outcome.{Outcome}
use Rattle.sbcets_core.specs.declared.outcome.Outcome.TheVariants.{Exited, Built, Usage, WriteFault, InputFault, Memory}
use Rattle.sbcets_core.specs.declared.outcome.Outcome.TheVariants.{Limit, Refused, ImageRefused, Trap}
use Rattle.sbcets_core.specs.declared.outcome.Outcome.TheVariants.{Done, Running, ListRefused}
use Rattle.sbcets_core.specs.declared.outcome.Outcome.TheVariants as outcomes
use Rattle.sbcets_core.specs.Rules.{rule_number}

abbrev pub status_of : Outcome → ℕ
status_of (Exited code) = code
status_of Built = 0
status_of Done = 0
status_of Usage = 101
status_of (outcomes.ReadFault fault) = 102
status_of WriteFault = 103
status_of InputFault = 104
status_of Memory = 105
status_of (Limit n) = 106
status_of (Running n) = 107
status_of (Refused refusal) = 110
status_of (ImageRefused fault) = 111
status_of (Trap kind pc) = 112
status_of (ListRefused kind line) = 113

-- the largest source that is read, in bytes
abbrev pub max_source : ℕ
max_source = 1048576

-- the largest image that is read, in bytes
abbrev pub max_image_file : ℕ
max_image_file = 67108864

-- the largest listing that is read, in bytes
abbrev pub max_listing : ℕ
max_listing = 1073741824

-- A number in lower-case hexadecimal: its sixteen digits without the zeros in front, the last digit apart.
abbrev pub hexadecimal_digit : ℕ → ℕ
hexadecimal_digit d = if nat_lt d 10 then 48 + d else 87 + d

abbrev pub digit_at : ℕ → ℕ → ℕ
digit_at n weight = hexadecimal_digit (n / weight % 16)

unfoldable pub sixteen_digits : ℕ → List ℕ
sixteen_digits n =
    digit_at n 0x1000000000000000 ∷ digit_at n 0x100000000000000 ∷ digit_at n 0x10000000000000
    ∷ digit_at n 0x1000000000000
    ∷ digit_at n 0x100000000000 ∷ digit_at n 0x10000000000 ∷ digit_at n 0x1000000000 ∷ digit_at n 0x100000000
    ∷ digit_at n 0x10000000 ∷ digit_at n 0x1000000 ∷ digit_at n 0x100000 ∷ digit_at n 0x10000
    ∷ digit_at n 0x1000 ∷ digit_at n 0x100 ∷ digit_at n 0x10 ∷ digit_at n 1 ∷ []

-- how many zeros stand in front of the last digit
abbrev pub zeros_in_front : List ℕ → ℕ
zeros_in_front digits = prefix_len (λ d. d == 48) (take 15 digits)

unfoldable pub hexadecimal : ℕ → List ℕ
hexadecimal n = drop (zeros_in_front (sixteen_digits n)) (sixteen_digits n)

-- a line of the tool's own: a text that stands between `sbcets: error: ` and a newline, in pieces
unfoldable pub line_of : (a b c d : List ℕ) → List ℕ
line_of a b c d = codes "sbcets: error: " ++ (a ++ (b ++ (c ++ (d ++ codes "\n"))))

abbrev pub plain_line : List ℕ → List ℕ
plain_line text = line_of text [] [] []

abbrev pub numbered_line : List ℕ → ℕ → List ℕ → List ℕ
numbered_line front n behind = line_of front (decimal n) behind []

abbrev pub at_line : List ℕ → (line : ℕ) → List ℕ
at_line front line = line_of front (codes " at line ") (decimal line) []

abbrev pub trap_name : TrapKind → List ℕ
trap_name Illegal = codes "illegal"
trap_name Access = codes "access"
trap_name Jump = codes "jump"
trap_name Break = codes "break"
trap_name Call = codes "call"

abbrev pub counted_name : Counted → List ℕ
counted_name counted.Source = codes "source"
counted_name counted.Functions = codes "functions"
counted_name counted.Parameters = codes "parameters"
counted_name counted.Members = codes "members"
counted_name counted.Globals = codes "globals"
counted_name counted.Code = codes "code"

abbrev pub refusal_line : SourceRefusal → List ℕ
refusal_line (Lex fault) = at_line (codes "lexical fault") fault.line
refusal_line (Pre fault) = line_of (codes "directive fault ") (decimal (number_of fault.kind)) (codes " at line ")
    (decimal fault.line)
refusal_line (Unsupported word line) = line_of (codes "unsupported ") word (codes " at line ") (decimal line)
refusal_line (Syntax at line) = at_line (codes "syntax") line
refusal_line (Nesting at line) = at_line (codes "nesting") line
refusal_line (Typing fault) = line_of (codes "type rule ") (decimal (rule_number fault.rule)) (codes " at line ")
    (decimal fault.line)
refusal_line (Const line) = at_line (codes "not constant") line
refusal_line (TooLarge which n) = line_of (counted_name which) (codes " of ") (decimal n) (codes " is too large")
refusal_line (Uncompiled line) = at_line (codes "unsupported program") line
refusal_line (RoomTooLarge number) = numbered_line (codes "room of function ") number (codes " is too large")
refusal_line NumbersTooLarge = plain_line (codes "numbers of the code are too large")
refusal_line refusals.Memory = plain_line (codes "out of memory")

-- all but a program's own end, what was done in full and a fault of writing have a line of the tool
abbrev pub HasLine : Outcome → Type 0
HasLine (Exited code) = ⊥
HasLine Built = ⊥
HasLine Done = ⊥
HasLine WriteFault = ⊥
HasLine outcome = Unit {0}

-- the tool's own line for an outcome, empty where there is none
abbrev pub tool_line : Outcome → List ℕ
tool_line (Exited code) = []
tool_line Built = []
tool_line Done = []
tool_line WriteFault = []
tool_line Usage = plain_line (codes "usage")
tool_line (outcomes.ReadFault Failed) = plain_line (codes "cannot read")
tool_line (outcomes.ReadFault (TooLong n max)) = numbered_line (codes "file of more than ") max (codes " bytes")
tool_line InputFault = plain_line (codes "cannot read input")
tool_line Memory = plain_line (codes "out of memory")
tool_line (Limit n) = numbered_line (codes "limit of ") n (codes " instructions")
tool_line (Running n) = numbered_line (codes "still running after ") n (codes " turns")
tool_line (Refused refusal) = refusal_line refusal
tool_line (ImageRefused fault) = numbered_line (codes "image fault ") (fault_number fault) []
tool_line (ListRefused kind line) = line_of (codes "listing fault ") (decimal (list_fault_number kind))
    (codes " at line ") (decimal line)
tool_line (Trap kind pc) = line_of (codes "trap ") (trap_name kind) (codes " at 0x") (hexadecimal pc)
