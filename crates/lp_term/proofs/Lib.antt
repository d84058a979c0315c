mod ColumnLaws
mod MeasuredLaws
mod PackedLaws
mod Inserted
mod Cut
mod Indexing
mod Turns
