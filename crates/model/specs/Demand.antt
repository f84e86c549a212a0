-- Demand 3, in its own words, over a listing's reply and the lent buffer before and after the call.
use Rattle.std.specs.Prelude.{ℕ, ◌<◌, ◌*◌, ◌≡◌, ◌↔◌, List, [], map, length, get_or, drop}
use Rattle.model.specs.Lists.{below}
use Rattle.model.specs.Readings.{Reading}
use Rattle.model.specs.Rows.{Reply, all, more, none, refused, row_bytes, row_count, row_at}

-- the reply's number; "under none there are none"
abbrev pub reply_rows : Reply → ℕ
reply_rows (all n) = n
reply_rows (more n) = n
reply_rows none = 0
reply_rows (refused k) = 0

abbrev pub IsMore : Reply → Type 0
IsMore (all n) = ⊥
IsMore (more n) = Unit {0}
IsMore none = ⊥
IsMore (refused k) = ⊥

-- "The rows handed back are rows 0 to n - 1 of the buffer after the call, n being the reply's number"
abbrev pub rows_handed_back : Reply → List ℕ → List (List ℕ)
rows_handed_back reply after = map (row_at after) (below (reply_rows reply))

-- "A proper beginning of a list is a shorter list, equal to it at every place it has."
pub record ProperBeginning {A : Type 0} (xs ys : List A) : Type 0 where
  pub shorter : length xs < length ys
  pub same : (d : A) (i : ℕ) → i < length xs → get_or xs i d ≡ get_or ys i d

-- "In the list of all readings each stands as its row."
abbrev pub as_rows : List Reading → List (List ℕ)
as_rows l = map row_bytes l

-- "the rows handed back and the list of all readings .. are equal exactly when the reply is not "more". Under "more" the rows fill the buffer
-- and are a proper beginning of that list. No byte past them changes. The reply is "none" exactly when the list is empty."
pub record Demand3 (l : List Reading) (reply : Reply) (before after : List ℕ) : Type 0 where
  pub equal_unless_more : (rows_handed_back reply after ≡ as_rows l) ↔ (IsMore reply → ⊥)
  pub more_fills : IsMore reply → reply_rows reply ≡ row_count before
  pub more_begins : IsMore reply → ProperBeginning (rows_handed_back reply after) (as_rows l)
  pub same_length : length after ≡ length before
  pub past_unchanged : drop (116 * reply_rows reply) after ≡ drop (116 * reply_rows reply) before
  pub none_when_empty : (reply ≡ none) ↔ (l ≡ [])
