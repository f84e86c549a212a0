-- What is had of an image before anything is asked of it: the refusal, or of an accepted image the header and the index.
use Rattle.std.specs.Prelude.{ℕ, ◌≡◌, List, Result, Ok, Err}
use Rattle.model.specs.Blocks.{header}
use Rattle.model.specs.Refusals.{accepted, refused, image_verdict}
use Rattle.image.specs.declared.Header.{Header}
use Rattle.image.specs.Header.{header_of}
use Rattle.refusal.specs.declared.Refusal.{Refusal}
use Rattle.refusal.specs.Numbers.{number_of}
use Rattle.prepare.specs.Indexed.{Indexed}

-- an image that is accepted, with its counts and its index
pub record Prepared (image index : List ℕ) (h : Header) : Type 0 where
  pub verdict_is : image_verdict image ≡ accepted
  pub header_is : header_of h ≡ header image
  pub indexed : Indexed image index

abbrev pub Had : List ℕ → List ℕ → Result Header Refusal → Type 0
Had image index (Ok h) = Prepared image index h
Had image index (Err r) = image_verdict image ≡ refused (number_of r)
