pub mod Bounds
pub mod Laws
pub mod RowByRow
pub mod Rows
