-- What a search asks, by what it goes by.
use Rattle.model.specs.Query.{Query}
use Rattle.listing.specs.Asked.{query_by}
use Rattle.walk.specs.declared.basis.Basis.{Basis}

abbrev pub query_of : Basis → Query
query_of basis = query_by basis.asked basis.path.now basis.word.now
