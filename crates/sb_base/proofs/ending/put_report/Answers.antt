use Rattle.std.proofs.Common.{◌≡◌, [], refl, codes, decimal, ◌∙◌, ap}
use Rattle.sb_base.specs.Endings.{report_at}
use Rattle.sb_base.proofs.Reports.{HasPut, put_behind}
use Rattle.sb_base.proofs.ending.put_report.Goals as goal

pub returns-clause-put : goal.returns-clause-put
unfolding report_at
returns-clause-put c =
    let nothing : HasPut c.args.text.now c.args.text.now [] 0 = record { count_is = refl; text_is = refl } in
    let tool = put_behind nothing (codes "sbcets: ") c.put-end.ensures.end c.put-end.ensures.put in
    let what = put_behind tool c.args.what.now c.put-end-2.ensures.end c.put-end-2.ensures.put in
    let at = put_behind what (codes " at line ") c.put-end-3.ensures.end c.put-end-3.ensures.put in
    let line = put_behind at c.as_bytes-number.result.now c.put-end-4.ensures.end c.put-end-4.ensures.put in
    let report = put_behind line (codes "\n") c.put.ensures.end c.put.ensures.put in
    let digits : c.as_bytes-number.result.now ≡ decimal c.args.line =
    c.as_bytes-number.ensures.value ∙ (c.format.ensures.text ∙ ap decimal c.number.ensures.value) in
    rw digits at report.text_is
