use Rattle.std.proofs.Common.{rules, ◌≡◌, ◌<◌, ◌+◌, ◌*◌, Some, Ok, ap, ◌∙◌, arith}
use Rattle.std.specs.Prelude.{pos, option_map}
use Rattle.std.proofs.lemmas.Result.{err_from_is_err_and}
use Rattle.std.proofs.lemmas.Int.{ints}
use Rattle.mailparse.specs.Date.{from_hour, from_zone, invalid_hour, invalid_minute, invalid_second, words}
use Rattle.mailparse.specs.private.Date.{next_number}
use Rattle.mailparse.proofs.lemmas.Date.{from_hour-clock, plus-refused, plus-sum}
use Rattle.mailparse.proofs.lemmas.Outcome.{IsRefusal-along}
use Rattle.mailparse.proofs.date.time_of_day.Goals as goal

pub returns-in_err-zone_seconds-clause-read : goal.returns-in_err-zone_seconds-clause-read
returns-in_err-zone_seconds-clause-read c =
    let p = err_from_is_err_and c.from_residual-in_err-zone_seconds.result c.from_residual-in_err-zone_seconds.ensures.1 in
    let hour : next_number invalid_hour (words c.args.text.now) ≡ Ok (Some (c.in-Some.hour, words c.in-Some.rest.now)) =
    c.in_ok-hour.ensures.read ∙ ap (λ found. Ok (option_map (λ p. (p.0, words p.1.now)) found)) c.in-Some.is in
    let minute : next_number invalid_minute (words c.in-Some.rest.now) ≡ Ok (Some (c.in-Some-2.minute, words c.in-Some-2.rest.now)) =
    c.in_ok-minute.ensures.read ∙ ap (λ found. Ok (option_map (λ p. (p.0, words p.1.now)) found)) c.in-Some-2.is in
    let second : next_number invalid_second (words c.in-Some-2.rest.now) ≡ Ok (Some (c.in-Some-3.second, words c.in-Some-3.rest.now)) =
    c.in_ok-second.ensures.read ∙ ap (λ found. Ok (option_map (λ p. (p.0, words p.1.now)) found)) c.in-Some-3.is in
    let clock = 3600 * c.in-Some.hour + 60 * c.in-Some-2.minute + c.in-Some-3.second in
    let all = from_hour-clock _ _ _ _ _ _ _ hour minute second in
    rw (p.1, p.2) (IsRefusal-along c.in_err-zone_seconds.field-0.0 (from_zone (words c.in-Some-3.rest.now)) (from_hour (words c.args.text.now))
    (λ r e. all ∙ plus-refused (pos clock) (from_zone (words c.in-Some-3.rest.now)) r e) c.in_err-zone_seconds.ensures.read)

pub returns-clause-read : goal.returns-clause-read
returns-clause-read c =
    let hour : next_number invalid_hour (words c.args.text.now) ≡ Ok (Some (c.in-Some.hour, words c.in-Some.rest.now)) =
    c.in_ok-hour.ensures.read ∙ ap (λ found. Ok (option_map (λ p. (p.0, words p.1.now)) found)) c.in-Some.is in
    let minute : next_number invalid_minute (words c.in-Some.rest.now) ≡ Ok (Some (c.in-Some-2.minute, words c.in-Some-2.rest.now)) =
    c.in_ok-minute.ensures.read ∙ ap (λ found. Ok (option_map (λ p. (p.0, words p.1.now)) found)) c.in-Some-2.is in
    let second : next_number invalid_second (words c.in-Some-2.rest.now) ≡ Ok (Some (c.in-Some-3.second, words c.in-Some-3.rest.now)) =
    c.in_ok-second.ensures.read ∙ ap (λ found. Ok (option_map (λ p. (p.0, words p.1.now)) found)) c.in-Some-3.is in
    let clock = 3600 * c.in-Some.hour + 60 * c.in-Some-2.minute + c.in-Some-3.second in
    let all = from_hour-clock _ _ _ _ _ _ _ hour minute second in
    let h : c.in-Some.hour < 256 = search rules in
    let m : c.in-Some-2.minute < 256 = search rules in
    let s : c.in-Some-3.second < 256 = search rules in
    all ∙ plus-sum (pos clock) c.in_ok-zone_seconds.field-0 (from_zone (words c.in-Some-3.rest.now)) c.in_ok-zone_seconds.ensures.read
    ∙ ap Ok (omega (arith, ints, c.from-2.ensures, c.in_ok-zone_seconds.ensures.bounds.0, c.in_ok-zone_seconds.ensures.bounds.1))
