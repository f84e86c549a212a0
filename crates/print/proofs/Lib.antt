-- Laws that the proofs of functions cite; `Text` is for the callers too.
pub mod Numbers
pub mod Text
pub mod Small
