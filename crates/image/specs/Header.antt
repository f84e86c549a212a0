-- The code's struct of counts as the model's.
use Rattle.model.specs.Blocks as model
use Rattle.image.specs.declared.Header.{Header}

abbrev pub header_of : Header → model.Header
header_of h = record { form = h.form; letters = h.letters; pairs = h.pairs; rules = h.rules; lexicons = h.lexicons; entries = h.entries; sets = h.sets }
