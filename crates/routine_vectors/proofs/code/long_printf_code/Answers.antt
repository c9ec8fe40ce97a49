use Rattle.routine_vectors.proofs.Printable.{one_more}
use Rattle.routine_vectors.proofs.code.long_printf_code.Goals as goal

pub printf-requires-clause-printable : goal.printf-requires-clause-printable
printf-requires-clause-printable g c =
    one_more 40 _ _ c.printed.ensures
    (one_more 40 _ _ c.printed-2.ensures
    (one_more 40 _ _ c.printed-3.ensures
    (one_more 40 _ _ c.printed-4.ensures (one_more 40 _ _ c.printed-5.ensures c.printed-6.ensures))))
