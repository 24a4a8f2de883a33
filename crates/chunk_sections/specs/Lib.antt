pub mod Packed
pub mod Section
pub mod Table
pub mod Cut
pub mod Column
