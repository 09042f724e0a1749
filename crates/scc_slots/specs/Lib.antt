pub mod Blocks
pub mod CellWords
pub mod Owned
pub mod RowLends
pub mod SlotsLends
