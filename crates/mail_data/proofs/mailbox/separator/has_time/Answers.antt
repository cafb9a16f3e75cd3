use Rattle.std.proofs.Common.{refl, sym, ◌∙◌}
use Rattle.mail_data.proofs.lemmas.Separator.{beyond-within, has_time-found, has_time-none, has_time-passed}
use Rattle.mail_data.proofs.mailbox.separator.has_time.Goals as goal

pub spaces-preserved : goal.spaces-preserved
spaces-preserved c = record {
  within = beyond-within c.spaces.rest.now c.in-Some.place _ c.spaces.invariant.within;
  same =
      has_time-passed c.spaces.rest.now _ c.in-Some.place c.is_time_at.result (sym c.in-Some.is ∙ c.find_byte.ensures) refl c.is_time_at.ensures c.if-is_time_at.false
      ∙ c.spaces.invariant.same;
}

pub returns-then-is_time_at : goal.returns-then-is_time_at
returns-then-is_time_at c =
    has_time-found c.spaces.rest.now _ c.in-Some.place c.is_time_at.result (sym c.in-Some.is ∙ c.find_byte.ensures) refl c.is_time_at.ensures c.if-is_time_at.true
    ∙ c.spaces.invariant.same

pub returns : goal.returns
returns c = has_time-none c.spaces.rest.now (sym c.in_default.is ∙ c.find_byte.ensures) ∙ c.spaces.invariant.same
