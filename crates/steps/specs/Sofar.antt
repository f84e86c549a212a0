-- What the reads gave and what was handed to the writes, as the program goes: what holds where it stands, and what a step adds.
use Rattle.std.specs.Prelude.{ℕ, ◌+◌, ◌-◌, ◌<◌, ◌≤◌, ◌^◌, ◌≡◌, List, [], ◌++◌, length, take, drop, Option, Some, None}
use Rattle.model.specs.Lines.{printed}
use Rattle.parse.specs.Fields.{Begun}
use Rattle.moving.specs.declared.Count.{Count}
use Rattle.steps.specs.declared.Stand.{Stand}
use Rattle.steps.specs.declared.Step.{Step}
use Rattle.steps.specs.declared.Step.TheVariants as step
use Rattle.steps.specs.declared.Whole.{Whole}
use Rattle.answers.specs.Input.{begun_after, text_after}

-- places inside the chunk and the buffer of the line begun, and counts that may grow by a chunk or a buffer of text
pub record Within (s : Stand) : Type 0 where
  pub in_order : s.at ≤ s.n
  pub inside : s.n ≤ 65536
  pub few : s.kept ≤ 256
  pub taken_small : s.taken.bytes + 65536 < 2 ^ 64
  pub handed_small : s.handed.bytes + 65536 < 2 ^ 64

-- the bytes of the chunk that are not answered yet
abbrev pub waiting : List ℕ → Stand → List ℕ
waiting chunk s = take (s.n - s.at) (drop s.at chunk)

-- `given` is what the reads gave, joined, and `handed` what was handed to the writes, joined: all of `given` but what waits is answered
pub record Sofar (image given handed chunk line : List ℕ) (s : Stand) : Type 0 where
  pub answered : List ℕ
  pub in_order : given ≡ answered ++ waiting chunk s
  pub begun : Begun line s.kept (begun_after [] answered)
  pub text : handed ≡ text_after image [] answered
  pub taken_count : s.taken.bytes ≡ length given
  pub handed_count : s.handed.bytes ≡ length handed

-- what a step does, whatever came in and went out before: what its read gave stands at the front of the chunk, and what it handed to its writes at
-- the front of `out`, as many bytes as std's calls told. After the last step all that was handed over is what the model prints for all that was given.
module _ (image chunk chunk' line line' out' : List ℕ) (s : Stand) where
  pub record WentOn (s' : Stand) : Type 0 where
    pub sofar : (given handed : List ℕ) → Sofar image given handed chunk line s
        → Sofar image (given ++ take (s'.taken.bytes - s.taken.bytes) chunk') (handed ++ take (s'.handed.bytes - s.handed.bytes) out') chunk' line' s'
    pub in_order : s'.at ≤ s'.n
    pub inside : s'.n ≤ 65536
    pub few : s'.kept ≤ 256
    pub taken_more : s'.taken.bytes ≤ s.taken.bytes + 65536
    pub handed_more : s'.handed.bytes ≤ s.handed.bytes + 65536

  pub record Over (count : Count) : Type 0 where
    pub prints : (given handed : List ℕ) → Sofar image given handed chunk line s
        → (handed ++ take (count.bytes - s.handed.bytes) out' ≡ printed image given) × (count.bytes ≡ length (printed image given))

  abbrev pub Answered : Option Stand → Type 0
  Answered (Some s') = WentOn s'
  Answered None = Unit

  abbrev pub Finished : Option Count → Type 0
  Finished (Some count) = Over count
  Finished None = Unit

  -- of a step in which a call failed nothing is said
  abbrev pub Stepped : Option Step → Type 0
  Stepped (Some (step.On s')) = WentOn s'
  Stepped (Some (step.Over count)) = Over count
  Stepped None = Unit

-- of a whole input: as many bytes came in as it has, and as many went out as the model prints for it
abbrev pub Ended : List ℕ → Option Whole → Type 0
Ended image (Some whole) = (input : List ℕ) × ((whole.taken.bytes ≡ length input) × (whole.handed.bytes ≡ length (printed image input)))
Ended image None = Unit
