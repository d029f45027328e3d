use Rattle.std.proofs.Common.{None, Option}
use Rattle.std.specs.Option.{option_map}
use Rattle.methods.proofs.Labels.{blank_at}
use Rattle.methods.proofs.entries.Entries.new.Goals as goal
use Rattle.methods.specs.Places.{going, place}
use Rattle.methods.specs.declared.entries.Entry.{Entry}

pub returns : goal.returns
unfolding going
returns c = λ i j. option_map place (blank_at {X = Option Entry} 32 None j i)
