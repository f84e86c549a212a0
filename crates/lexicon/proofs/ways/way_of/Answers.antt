-- `way_of` meets its contract: the ways on of the entry's bytes, by the number that names them.
use Rattle.model.specs.Lexicon.{entry}
use Rattle.lexicon.proofs.WayLaws.{way_sole}
use Rattle.lexicon.proofs.ways.way_of.Goals as goal

pub returns : goal.returns
returns c =
    let w = c.ways_of in
    way_sole (entry c.args.image.now c.args.e) c.args.h.form w.result.bits w.result.stop w.ensures.stop w.ensures.bits c.sole_way.result c.sole_way.ensures
