-- The call's answer in the words of its definition.
use Rattle.std.specs.Prelude.{ℕ, Result, Ok, Err}
use Rattle.shares.specs.Words as words
use Rattle.refusal.specs.declared.Refusal.{Refusal}
use Rattle.refusal.specs.Numbers.{number_of}

abbrev pub many_of : Result ℕ Refusal → words.ManyReply
many_of (Ok n) = words.ManyReply.words n
many_of (Err r) = words.ManyReply.refused (number_of r)
