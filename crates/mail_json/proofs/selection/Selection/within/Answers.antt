use Rattle.mail_json.proofs.selection.Selection.within.Goals as goal

pub returns-clause-fits : goal.returns-clause-fits
returns-clause-fits c = (c.ranges.from.fits, c.ranges.to.fits)
