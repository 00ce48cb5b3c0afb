pub mod PrintedRow
