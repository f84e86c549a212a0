-- A row put into a lent buffer, the step by which a listing takes its readings, from its first row or a later one on; and the reply for their count.
use Rattle.std.specs.Prelude.{ℕ, ◌+◌, ◌*◌, ◌-◌, ◌^◌, ◌<◌, ◌≤◌, cond, List, ◌++◌, take, drop, leb, ltb, eqb, Result, Ok, Err}
use Rattle.model.specs.Readings.{Reading}
use Rattle.model.specs.Rows as model
use Rattle.model.specs.Rows.{row_bytes, row_count}
use Rattle.rows.specs.declared.Reply.{Reply}
use Rattle.rows.specs.declared.Reply.TheVariants as reply
use Rattle.refusal.specs.declared.Refusal.{Refusal}
use Rattle.refusal.specs.Numbers.{number_of}

-- the buffer with a row written after n rows
abbrev pub written : List ℕ → ℕ → Reading → List ℕ
written d n r = take (116 * n) d ++ (row_bytes r ++ drop 116 (drop (116 * n) d))

-- A buffer is lent with a capacity, which counts the list's rows from the first to the one that the buffer's last place is for. The buffer has places for the last
-- of them; those before are passed over. Where the capacity is the buffer's rows, none is.
abbrev pub passed_over : ℕ → List ℕ → ℕ
passed_over capacity d = capacity - row_count d

-- a buffer, and how many were found: one more is counted where it is passed over, written where there is room, counted where there is none, and nothing changes
-- after that
unfoldable pub put : ℕ → List ℕ × ℕ → Reading → List ℕ × ℕ
put capacity s r =
    cond (ltb s.1 (passed_over capacity s.0)) (s.0, s.1 + 1)
    (cond (ltb s.1 capacity) (written s.0 (s.1 - passed_over capacity s.0) r, s.1 + 1)
    (cond (leb s.1 capacity) (s.0, capacity + 1) s))

-- a capacity that a search can be lent: no smaller than the buffer's rows, and small enough to be counted two past
pub record Roomy (buffer : List ℕ) (capacity : ℕ) : Type 0 where
  pub rows_in : row_count buffer ≤ capacity
  pub fits : capacity < 2 ^ 62

-- a row had no room
abbrev pub Over : ℕ → List ℕ × ℕ → Type 0
Over capacity s = capacity < s.1

-- the reply where so many were found and the buffer, lent from the first row on, has so many rows
unfoldable pub reply_for : ℕ → ℕ → model.Reply
reply_for found rows = cond (eqb found 0) model.Reply.none (cond (leb found rows) (model.Reply.all found) (model.Reply.more rows))

-- the code's reply as the model's
abbrev pub reply_of : Result Reply Refusal → model.Reply
reply_of (Ok (reply.All n)) = model.Reply.all n
reply_of (Ok (reply.More n)) = model.Reply.more n
reply_of (Ok reply.None) = model.Reply.none
reply_of (Err r) = model.Reply.refused (number_of r)
