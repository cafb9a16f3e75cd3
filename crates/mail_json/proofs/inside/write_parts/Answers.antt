use Rattle.std.proofs.Common.{ap, map, sym, subst}
use Rattle.mail_program.specs.Fault.{IsEnd}
use Rattle.mail_json.specs.InsideViews.{inside_view}
use Rattle.mail_json.specs.Options.{options_of}
use Rattle.mail_json.proofs.lemmas.Inside.{parts_written, whole_listed}
use Rattle.mail_json.proofs.inside.write_parts.Goals as goal

pub returns-in-Ok : goal.returns-in-Ok
returns-in-Ok g c =
    let known = g.K.KnownCharsets.known c.args.known.now in
    let parts = c.in_ok-write_found.ensures in
    let none = ap (map inside_view) c.new.ensures.items in
    record {
      written = λ mail found. parts_written (options_of known c.args.options) c.args.origin mail _ _ _ _ _ parts.0 found found parts.1 parts.2 (c.in-Ok.ensures.written c.requires);
      listed = λ mail found. whole_listed known c.args.options.limit mail _ _ _ none found (c.in-Ok.ensures.listed c.requires);
    }

pub returns-in-Err : goal.returns-in-Err
returns-in-Err g c =
    let ended = c.in-Err.ensures.failed (subst IsEnd (sym c.from.ensures) tt) in
    record { written = λ mail found. ended; listed = λ mail found. tt }
