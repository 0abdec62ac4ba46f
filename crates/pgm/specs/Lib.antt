pub mod Lines
pub mod PgmText
pub mod Writing
pub mod WritePgm
pub mod Released
