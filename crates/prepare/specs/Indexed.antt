-- What a caller that asks much of one image has of it: the index, and after it, or not, the index of forms.
use Rattle.std.specs.Prelude.{ℕ, ◌≤◌, ◌≡◌, List, length, take, drop}
use Rattle.image.specs.Index.{index_of}
use Rattle.filter.specs.Sieve.{MayBe}

pub record Indexed (image index : List ℕ) : Type 0 where
  pub long : 39424 ≤ length index
  pub index_is : take 39424 index ≡ index_of image
  pub forms_are : MayBe image (drop 39424 index)
