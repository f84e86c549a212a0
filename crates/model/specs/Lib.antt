-- Document 01 as definitions; a change that document 02 makes is quoted where it is made. Its headings, in its order, and the files that stand for them:
-- "Blocks": Blocks. "Letters, pairs, rule tables": RuleTables. "Lexicon": Lexicon. "Readings and step order": Readings.
-- "Analysis, then generation": Query, Walk and Tree (the list of all readings), Rows, Calls; demand 3: Demand.
-- "Beside the listings": Beside, Lines. "When a call is turned down": Refusals, Unspelled. "The luz grammar and other trials": Samples, and the crate trials.
-- Document 02, (m): Spelling, above folding/specs/Folding; its tests in Refusals, its reply and bytes in Beside. Document 02, (l), as far as it does not concern images: Spoken.
-- Grammar is what the image of every form stands for, GrammarOf how an image of form 1 does; Lists is the vocabulary.
pub mod Lists
pub mod Blocks
pub mod RuleTables
pub mod Lexicon
pub mod Grammar
pub mod GrammarOf
pub mod Readings
pub mod Query
pub mod Spoken
pub mod Spelling
pub mod Walk
pub mod Tree
pub mod Refusals
pub mod Unspelled
pub mod Rows
pub mod Calls
pub mod Demand
pub mod Beside
pub mod Lines
pub mod Samples
