use Rattle.reconstruct.specs.WholeAnswer.{placeable}
use Rattle.reconstruct.proofs.cells_of.Goals as goal

pub keys-keys-requires : goal.keys-keys-requires
keys-keys-requires c = placeable _ c.requires
