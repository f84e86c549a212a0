-- Document 01, "When a call is turned down", and what the requests add to its table: the number of each refusal.
use Rattle.std.specs.Prelude.{ℕ}
use Rattle.refusal.specs.declared.Refusal.{Refusal}
use Rattle.refusal.specs.declared.Refusal.TheVariants.{ImageLength, Checks, Layout, Letters, Pairs, Tables, Columns, Entries, WordLength, WordLetters, PathLength, PathLinks, Pairing, FormLetters, SeveralWays, TooManyBlocks, TargetLength, RuleTexts, UnknownPairs, CodePoints, NoRoom}

abbrev pub number_of : Refusal → ℕ
number_of ImageLength = 1
number_of Checks = 2
number_of Layout = 3
number_of Letters = 4
number_of Pairs = 5
number_of Tables = 6
number_of Columns = 7
number_of Entries = 8
number_of WordLength = 9
number_of WordLetters = 10
number_of PathLength = 11
number_of PathLinks = 12
number_of Pairing = 13
number_of FormLetters = 14
number_of SeveralWays = 15
number_of TooManyBlocks = 16
number_of TargetLength = 17
number_of RuleTexts = 19
number_of UnknownPairs = 20
number_of CodePoints = 23
number_of NoRoom = 24
