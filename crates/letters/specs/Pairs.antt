-- The code's pair as the model's.
use Rattle.model.specs.RuleTables as model
use Rattle.letters.specs.declared.Pair.{Pair}

abbrev pub pair_of : Pair → model.Pair
pair_of p = record { lexical = p.lexical.0; surface = p.surface.0 }
