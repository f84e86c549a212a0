-- What this crate's contracts cite: rows as readings, and text that is put into a buffer.
pub mod Text
