pub mod RefusalLaws
pub mod TableLaws
pub mod BoundLaws
pub mod Arithmetic
pub mod SumLaws
