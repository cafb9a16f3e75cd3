use Rattle.std.proofs.Common.{ap, ◌∙◌}
use Rattle.mail_extract.specs.Names.{made_name}
use Rattle.mail_extract.proofs.names.numbered_before.Goals as goal

pub returns-clause-read : goal.returns-clause-read
returns-clause-read c =
    let cut = c.floor_char_boundary.ensures in (
      c.split_at.result.0.now,
      record {
        count = c.floor_char_boundary.result;
        taken = c.split_at.ensures.front;
        short = cut.bound;
        whole = cut.boundary;
        longest = cut.nearest;
      },
      c.in_ok-made.ensures.read ∙ ap (made_name c.args.naming) (c.as_str.ensures.value ∙ c.in_ok-text.ensures.ok),
    )
