use Rattle.page_file.proofs.PageLemmas.{short_file}
use Rattle.page_file.proofs.file.place_of.Goals as goal

pub returns-clause-small : goal.returns-clause-small
returns-clause-small c = short_file c.args.geo.now c.half.ensures.fits
