-- The converter's answer in document 02's words and number, and what its parts may take for granted once the tests are passed.
use Rattle.std.specs.Prelude.{ℕ, ◌≤◌, ◌≡◌, List, T, Result, Ok, Err}
use Rattle.model.specs.Blocks.{Header, header, block_total}
use Rattle.model.specs.Lexicon.{entry, right_ways, way_count}
use Rattle.model.specs.Refusals.{accepted, image_verdict}
use Rattle.conversion.specs.Conversion as model
use Rattle.conversion.specs.Conversion.{other_header, one_ways}
use Rattle.refusal.specs.declared.Refusal.{Refusal}
use Rattle.refusal.specs.Numbers.{number_of}

abbrev pub conversion_of : Result (Unit {0}) Refusal → model.Conversion
conversion_of (Ok _) = model.Conversion.converted
conversion_of (Err r) = model.Conversion.refused (number_of r)

-- an entry that can be said in either form
pub record OneWay (image : List ℕ) (form lexicons e : ℕ) : Type 0 where
  pub is_form : (1 ≤ form) × (form ≤ 2)
  pub right : T (right_ways (entry image e) form lexicons)
  pub one : form ≡ 2 → way_count (entry image e) 2 ≤ 1

-- an image that is to be converted: its header, and the header in the other form
pub record Converting (image : List ℕ) (h o : Header) : Type 0 where
  pub header_is : h ≡ header image
  pub other_is : o ≡ other_header h
  pub ok : image_verdict image ≡ accepted
  pub one_ways_lem : T (one_ways image)
  pub few : block_total o ≤ 128
