-- The lists behind the code's references.
use Rattle.c_const.specs.declared.address.Pointers as code
use Rattle.c_const.specs.Addresses.{Pointers}

abbrev pub pointers_of : code.Pointers → Pointers
pointers_of p = record { statics = p.statics.now; functions = p.functions.now }
