mod Turns
mod SpreadLaws
mod OccurrenceLaws
mod HeadLaws
mod PackedLaws
