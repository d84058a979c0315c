mod EncExamples
mod EncRows
pub mod Examples
mod ItemsExample
mod NumeralExamples
mod RowExamples
