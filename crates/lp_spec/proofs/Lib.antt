mod Examples
mod ReadingExamples
mod TypingExamples
mod ShortExamples
