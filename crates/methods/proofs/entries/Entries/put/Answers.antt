use Rattle.std.proofs.Common.{eqb, get_or, Some, None, ap, ◌∙◌, arith}
use Rattle.std.specs.Option.{option_map}
use Rattle.methods.proofs.Labels.{mapped_cond, set_at}
use Rattle.methods.proofs.entries.Entries.put.Goals as goal
use Rattle.methods.specs.Places.{going, place}

pub returns : goal.returns
unfolding going
returns c =
    let self = c.args.self.now in
    let label = c.args.label in
    λ i j. (ap (option_map place) (set_at self.places label (Some c.args.entry) None j (omega (arith, self.whole, c.requires)))
    ∙ mapped_cond place (eqb j label) c.args.entry (get_or self.places j None)) i
