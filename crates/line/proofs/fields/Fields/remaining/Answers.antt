use Rattle.std.proofs.Common.{inl, arith}
use Rattle.line.proofs.Cuts.{count_fits, place_fits}
use Rattle.line.proofs.fields.Fields.remaining.Goals as goal

pub count-requires-clause-fits : goal.count-requires-clause-fits
count-requires-clause-fits c = inl (omega (arith, count_fits c.args.self.rest c.args.self.fits))

pub returns-clause-fits : goal.returns-clause-fits
returns-clause-fits c = place_fits c.args.self.rest c.args.self.fits _ c.count.ensures.bound
