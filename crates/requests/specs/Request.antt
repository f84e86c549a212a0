-- The model's request, by what is asked for and the bytes that the call was given.
use Rattle.std.specs.Prelude.{ℕ, List}
use Rattle.model.specs.Query as model
use Rattle.requests.specs.declared.Request.{Request}
use Rattle.requests.specs.declared.Request.TheVariants.{Analysis, Generation}

abbrev pub request_of : Request → List ℕ → model.Request
request_of Analysis word = model.Request.analysis word
request_of Generation path = model.Request.generation path
