use Rattle.std.proofs.Common.{◌≡◌, ℕ, List, length, Result, inl, inr, ⊎_elim, subst, arith}
use Rattle.mailparse.specs.Block.{read_headers}
use Rattle.mail_records.specs.Codes.{IsCoded}
use Rattle.mail_records.specs.Records.{header_records, limited}
use Rattle.mail_records.specs.declared.records.HeaderRecord.{HeaderRecord}
use Rattle.mail_records.proofs.lemmas.Records.{headers_counted, headers_are, headers_refused, refused_code}
use Rattle.mail_records.proofs.records.headers.Goals as goal

pub returns-then-count-gt0 : goal.returns-then-count-gt0
returns-then-count-gt0 c =
    subst (λ (r : Result (List HeaderRecord) ℕ). IsCoded (λ v. v.items) c.first_headers.result r)
    (headers_counted c.args.limit c.args.raw.now c.before_dash_line-block.result.now c.count_headers-count.result c.before_dash_line-block.ensures c.if-count-gt0.true c.count_headers-count.ensures) c.first_headers.ensures

pub returns-in-Ok : goal.returns-in-Ok
returns-in-Ok c =
    let front = c.before_dash_line-block.result.now in
    let same : c.len.result ≡ length c.in-Ok.headers.items = omega (arith, c.len.ensures, c.in-Ok.headers.ok.0) in
    let first = subst (λ n. IsCoded (λ v. v.items) c.first_headers-in-Ok.result (limited c.args.limit n (header_records 0 front n))) same c.first_headers-in-Ok.ensures in
    subst (λ (r : Result (List HeaderRecord) ℕ). IsCoded (λ v. v.items) c.first_headers-in-Ok.result r) (headers_are c.args.limit c.args.raw.now front _ c.before_dash_line-block.ensures c.in-Ok.ensures.read) first

pub returns-in-Err : goal.returns-in-Err
returns-in-Err c =
    let front = c.before_dash_line-block.result.now in
    ⊎_elim (λ memory. inl memory) (λ refused. inr (headers_refused c.args.limit c.args.raw.now front _ c.before_dash_line-block.ensures refused))
    (refused_code c.in-Err.error (read_headers front) _ c.in-Err.ensures.read c.code_of.ensures)
